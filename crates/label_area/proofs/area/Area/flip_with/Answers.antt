use Rattle.std.proofs.Common.{◌≡◌, length, ap, rules}
use Rattle.label_area.specs.LoadedAreas.{LoadedArea}
use Rattle.label_area.proofs.FlipBytes.{put_and_block_alone}
use Rattle.label_area.proofs.Putting.{flips_with}
use Rattle.label_area.proofs.area.Area.flip_with.Goals as goal

pub returns-clause-flips : goal.returns-clause-flips
returns-clause-flips g c = λ told is_shown.
    let text_long : length c.write_label.new.into ≡ 256 = search rules in
    let writes = c.write_both.ensures in
    flips_with g.R.Shown c.args.rig.now c.write_both.new.rig c.args.self.now c.geometry-geometry.ensures.sound is_shown c.args.next.now c.requires.next
    c.args.label.now c.requires.slot c.requires.free c.requires.used c.requires.bits c.write_label.new.into text_long c.write_label.ensures.read
    c.self.inside.dimm (ap (λ (x : LoadedArea). x.dimm) c.self.view_is) c.geometry-geometry.result c.geometry-geometry.ensures.geometry
    c.write_both.result (writes.in_turn told, (writes.any_moment told, writes.both told))

pub returns-clause-bytes : goal.returns-clause-bytes
returns-clause-bytes g c = λ told.
    let text_long : length c.write_label.new.into ≡ 256 = search rules in
    let writes = c.write_both.ensures in
    put_and_block_alone g.R.Shown c.args.rig.now c.write_both.new.rig c.args.self.now c.geometry-geometry.ensures.sound (c.requires.sized told) c.args.next.now c.requires.next
    c.args.label.now.slot c.requires.slot c.write_label.new.into text_long
    c.self.inside.dimm (ap (λ (x : LoadedArea). x.dimm) c.self.view_is) c.geometry-geometry.result c.geometry-geometry.ensures.geometry
    c.write_both.result (writes.in_turn told) (writes.any_moment told)
