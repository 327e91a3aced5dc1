use Rattle.std.proofs.Common.{◌≡◌, ◌*◌, take}
use Rattle.std.specs.List.{flat_map}
use Rattle.region_map.specs.Cookies.{entry11}
use Rattle.region_map.proofs.cookies.cookie11.Given as goal

abbrev pub invariant-loop-position : goal.invariant-loop-position
invariant-loop-position l = take (16 * l.position) l.entries ≡ flat_map entry11 (take l.position l.members)
