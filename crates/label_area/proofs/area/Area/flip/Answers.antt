use Rattle.std.proofs.Common.{ap}
use Rattle.label_area.specs.LoadedAreas.{LoadedArea}
use Rattle.label_area.proofs.FlipBytes.{block_written_alone}
use Rattle.label_area.proofs.Freeing.{flips}
use Rattle.label_area.proofs.area.Area.flip.Goals as goal

pub returns-clause-flips : goal.returns-clause-flips
returns-clause-flips g c = λ told is_shown.
    flips g.R.Shown c.args.rig.now c.write_next.new.rig c.args.self.now c.geometry-geometry.ensures.sound is_shown c.args.next.now c.requires.next c.requires.bits
    c.self.inside.dimm (ap (λ (x : LoadedArea). x.dimm) c.self.view_is) c.geometry-geometry.result c.geometry-geometry.ensures.geometry
    c.write_next.result (c.write_next.ensures.written told, c.write_next.ensures.stops.time)

pub returns-clause-bytes : goal.returns-clause-bytes
returns-clause-bytes g c = λ told.
    block_written_alone g.R.Shown c.args.rig.now c.write_next.new.rig c.args.self.now c.geometry-geometry.ensures.sound (c.requires.sized told) c.args.next.now c.requires.next
    c.self.inside.dimm (ap (λ (x : LoadedArea). x.dimm) c.self.view_is) c.geometry-geometry.result c.geometry-geometry.ensures.geometry
    c.write_next.result (c.write_next.ensures.written told) c.write_next.ensures.stops.time
