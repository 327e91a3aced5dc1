use Rattle.std.proofs.Common.{◌∙◌, subst, arith}
use Rattle.std.specs.List.{All}
use Rattle.std.proofs.Math.Seq.{map-set_same}
use Rattle.std.proofs.lemmas.List.{take_all}
use Rattle.label_sets.specs.Room.{HasLabelRoom, without_room}
use Rattle.label_sets.proofs.Rooms.{room-more}
use Rattle.label_sets.proofs.room.reserve_labels.Goals as goal

pub loop-at-preserved : goal.loop-at-preserved
loop-at-preserved c = record {
  same = map-set_same without_room c.loop-at.regions c.loop-at.at c.reserve_label.new.kept c.index-regions-at.result c.reserve_label.ensures.same ∙ c.loop-at.invariant.same;
  room = room-more c.loop-at.regions c.loop-at.at c.reserve_label.new.kept (omega arith) c.loop-at.invariant.room c.in_ok-reserve_label.ensures.room;
}

pub returns-in_err-reserve_label-clause-same : goal.returns-in_err-reserve_label-clause-same
returns-in_err-reserve_label-clause-same c = map-set_same without_room c.loop-at.regions c.loop-at.at c.reserve_label.new.kept c.index-regions-at.result c.reserve_label.ensures.same ∙ c.loop-at.invariant.same

pub returns-clause-room : goal.returns-clause-room
returns-clause-room c = subst (All HasLabelRoom) (take_all c.loop-at.at c.loop-at.regions (omega arith)) c.loop-at.invariant.room
