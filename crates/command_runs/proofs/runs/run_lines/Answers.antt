use Rattle.std.proofs.Common.{◌≡◌, ◌+◌, ◌<◌, ℕ, suc, ◌||◌, Bool, Bor, List, [], Some, Err, get_or, length, map, option_map, sym, ap, ◌∙◌, subst, arith}
use Rattle.std.specs.Prelude.{slice_get}
use Rattle.std.proofs.lemmas.Option.{slice_get-get_or, slice_get-map}
use Rattle.std.proofs.lemmas.List.{length-map}
use Rattle.std.proofs.lemmas.Result.{err_from_is_err_and}
use Rattle.rig_trait.specs.declared.shown.Shown.{Ghosts}
use Rattle.namespace_core.specs.Sessions.{IsCurrent, StoredSession}
use Rattle.command_runs.specs.Ends.{IsFinished, run_of}
use Rattle.command_runs.proofs.Ended.{cut-short}
use Rattle.command_runs.proofs.Going.{IsGoing, any-moment-on, bytes-left-on, bytes-on, going-first, going-on, reads-on, still-sized}
use Rattle.command_runs.proofs.runs.run_lines.Goals.{then-refused, else-refused}
use Rattle.command_runs.proofs.runs.run_lines.Goals as goal

abbrev no_line : Bor (List ℕ)
no_line = record { ref_ptr = (0, 0); now = [] }

next-is : (lines : List (Bor (List ℕ))) (k : ℕ) → k < length lines → slice_get (map (λ line. line.now) lines) k ≡ Some (get_or lines k no_line).now
next-is lines k lt = slice_get-map (λ (line : Bor (List ℕ)). line.now) lines k ∙ ap (option_map (λ (line : Bor (List ℕ)). line.now)) (slice_get-get_or lines k no_line lt)

-- all lines are done
module _ {R : Type 0} (m : Ghosts R) (start : StoredSession) (seed : ℕ) (lines : List (List ℕ)) (old : R) (session : StoredSession) (new : R) (refused : Bool) where
  finished : (k : ℕ) → k ≡ length lines → IsGoing m start seed lines old k session new refused → IsFinished m (IsCurrent m old start) (run_of start seed lines) old new session refused
  finished k same going =
      let all = subst (λ (n : ℕ). IsGoing m start seed lines old n session new refused) same going in
      record { progress = all.progress; behind = all.behind; refused_is = all.refused_is; through = all.through; kept = all.kept; no_more = all.no_more }

pub returns-clause-ends : goal.returns-clause-ends
returns-clause-ends g c =
    let lines = map (λ (line : Bor (List ℕ)). line.now) c.args.lines.now in
    let count : length lines ≡ length c.args.lines.now = length-map c.args.lines.now (λ (line : Bor (List ℕ)). line.now) in
    finished g.R.Shown c.args.session.now c.args.seed lines c.args.rig.now c.loop-index.session c.loop-index.rig c.loop-index.refused c.loop-index.index
    (omega (arith, count, c.loop-index-test.false, c.loop-index.auto.index-end)) c.loop-index.invariant

pub loop-index-init : goal.loop-index-init
loop-index-init g c = going-first g.R.Shown c.args.session.now c.args.seed (map (λ line. line.now) c.args.lines.now) c.args.rig.now c.requires.unspent

pub turn-requires-clause-sized : goal.turn-requires-clause-sized
turn-requires-clause-sized g c =
    still-sized g.R.Shown c.args.session.now c.args.seed (map (λ line. line.now) c.args.lines.now) c.args.rig.now c.loop-index.index c.loop-index.session c.loop-index.rig c.loop-index.refused c.loop-index.invariant c.requires.sized

pub loop-index-preserved : goal.loop-index-preserved
loop-index-preserved g c =
    let lines = map (λ line. line.now) c.args.lines.now in
    let k = c.loop-index.index in
    let refused_is : c.if-refused.refused ≡ (c.loop-index.refused || c.in_ok-is_refused.is_refused) = elim c.if-refused.branch [
      | then-refused w ↦ w.refused-is ∙ w.if-refused.true ∙ sym (ap (λ (b : Bool). b || c.in_ok-is_refused.is_refused) w.if-refused.true)
      | else-refused w ↦ w.refused-is ∙ sym (ap (λ (b : Bool). b || c.in_ok-is_refused.is_refused) w.if-refused.false)
    ] in
    let next : suc k ≡ k + 1 = omega arith in
    subst (λ (n : ℕ). IsGoing g.R.Shown c.args.session.now c.args.seed lines c.args.rig.now n c.turn.new.session c.turn.new.rig c.if-refused.refused) next
    (going-on g.R.Shown c.args.session.now c.args.seed lines c.args.rig.now k c.loop-index.session c.loop-index.rig c.loop-index.refused c.loop-index.invariant
    (get_or c.args.lines.now k no_line).now (next-is c.args.lines.now k c.loop-index-test.true) c.turn.new.session c.turn.new.rig c.in_ok-is_refused.is_refused c.if-refused.refused c.in_ok-is_refused.ensures refused_is)

pub returns-in_err-is_refused-clause-ends : goal.returns-in_err-is_refused-clause-ends
returns-in_err-is_refused-clause-ends g c =
    let p = err_from_is_err_and c.from_residual.result c.from_residual.ensures.1 in
    rw (p.1, p.2)
    (cut-short g.R.Shown c.args.session.now c.args.seed (map (λ line. line.now) c.args.lines.now) c.args.rig.now c.loop-index.index c.loop-index.session c.loop-index.rig c.loop-index.refused c.loop-index.invariant
    (get_or c.args.lines.now c.loop-index.index no_line).now (next-is c.args.lines.now c.loop-index.index c.loop-index-test.true) c.turn.new.session c.turn.new.rig c.in_err-is_refused.field-0.0 c.in_err-is_refused.ensures)

pub returns-in_err-is_refused-clause-any_moment : goal.returns-in_err-is_refused-clause-any_moment
returns-in_err-is_refused-clause-any_moment g c =
    any-moment-on g.R.Shown c.args.session.now c.args.seed (map (λ line. line.now) c.args.lines.now) c.args.rig.now c.loop-index.index c.loop-index.session c.loop-index.rig c.loop-index.refused c.loop-index.invariant
    (get_or c.args.lines.now c.loop-index.index no_line).now (next-is c.args.lines.now c.loop-index.index c.loop-index-test.true) c.turn.new.session c.turn.new.rig (Err c.in_err-is_refused.field-0.0) c.in_err-is_refused.ensures

pub returns-in_err-is_refused-clause-bytes : goal.returns-in_err-is_refused-clause-bytes
returns-in_err-is_refused-clause-bytes g c =
    let p = err_from_is_err_and c.from_residual.result c.from_residual.ensures.1 in
    rw (p.1, p.2)
    (bytes-on g.R.Shown c.args.session.now c.args.seed (map (λ line. line.now) c.args.lines.now) c.args.rig.now c.loop-index.index c.loop-index.session c.loop-index.rig c.loop-index.refused c.loop-index.invariant
    (get_or c.args.lines.now c.loop-index.index no_line).now (next-is c.args.lines.now c.loop-index.index c.loop-index-test.true) c.turn.new.session c.turn.new.rig (Err c.in_err-is_refused.field-0.0) c.in_err-is_refused.ensures)

pub returns-in_err-is_refused-clause-bytes_left : goal.returns-in_err-is_refused-clause-bytes_left
returns-in_err-is_refused-clause-bytes_left g c =
    bytes-left-on g.R.Shown c.args.session.now c.args.seed (map (λ line. line.now) c.args.lines.now) c.args.rig.now c.loop-index.index c.loop-index.session c.loop-index.rig c.loop-index.refused c.loop-index.invariant
    (get_or c.args.lines.now c.loop-index.index no_line).now (next-is c.args.lines.now c.loop-index.index c.loop-index-test.true) c.turn.new.session c.turn.new.rig (Err c.in_err-is_refused.field-0.0) c.in_err-is_refused.ensures

pub returns-in_err-is_refused-clause-reads : goal.returns-in_err-is_refused-clause-reads
returns-in_err-is_refused-clause-reads g c =
    reads-on g.R.Shown c.args.session.now c.args.seed (map (λ line. line.now) c.args.lines.now) c.args.rig.now c.loop-index.index c.loop-index.session c.loop-index.rig c.loop-index.refused c.loop-index.invariant
    (get_or c.args.lines.now c.loop-index.index no_line).now (next-is c.args.lines.now c.loop-index.index c.loop-index-test.true) c.turn.new.session c.turn.new.rig (Err c.in_err-is_refused.field-0.0) c.in_err-is_refused.ensures
