use Rattle.std.proofs.Common.{◌≡◌, ℕ, ◌+◌, List, length, sym, ap, ◌∙◌, arith, drop}
use Rattle.std.specs.Global.{Vec}
use Rattle.std.specs.List.{filter_map}
use Rattle.nfit_tables.specs.Proper.{handle_of}
use Rattle.nfit_tables.specs.Marks.{with_new}
use Rattle.nfit_tables.proofs.Modules.{added, more_than, none_before}
use Rattle.nfit_tables.proofs.Walks.{mapped_none, mapped_some}
use Rattle.nfit_tables.proofs.counting.has_many_modules.Goals as goal
use Rattle.nfit_tables.proofs.counting.has_many_modules.Goals.{in-Some+in_ok-add_new+else-len-gt-MOST_MODULES, in_default}

pub loop-piece-init : goal.loop-piece-init
loop-piece-init c = record {
  few = omega (arith, ap length c.new-handles.ensures.items);
  count = rw c.new-handles.ensures.items (omega (arith, none_before (filter_map handle_of c.args.pieces.now)));
}

pub loop-piece-preserved : goal.loop-piece-preserved
loop-piece-preserved c =
    let ps = c.args.pieces.now in
    let i = c.loop-piece.piece-index in
    let p = c.piece-item.result in
    elim c.match-handle_of.branch [
      | in-Some+in_ok-add_new+else-len-gt-MOST_MODULES w ↦
          let now : c.match-handle_of.handles.items ≡ with_new c.loop-piece.handles.items w.in-Some.handle = ap (λ (v : Vec ℕ). v.items) w.handles-is ∙ w.in_ok-add_new.ensures in
          let next = mapped_some ps i p c.loop-piece-test.true c.piece-item.is handle_of w.in-Some.handle (sym w.in-Some.ensures) in
          record {
            few = rw w.handles-is (omega (arith, w.add_new.new.numbers.ok.0));
            count = rw now
                (added c.loop-piece.handles.items w.in-Some.handle (filter_map handle_of (drop (i + 1) ps))
                ∙ ap (λ (hs : List ℕ). length c.loop-piece.handles.items + more_than c.loop-piece.handles.items hs) (sym next) ∙ c.loop-piece.invariant.count);
          }
      | in_default w ↦
          let next = mapped_none ps i p c.loop-piece-test.true c.piece-item.is handle_of (sym w.in_default.ensures) in
          record {
            few = rw w.handles-is c.loop-piece.invariant.few;
            count = rw w.handles-is (ap (λ (hs : List ℕ). length c.loop-piece.handles.items + more_than c.loop-piece.handles.items hs) (sym next) ∙ c.loop-piece.invariant.count);
          }
    ]
