use Rattle.std.proofs.Common.{◌≡◌, true, List, ℕ, length, Option, Some, sym, refl, ap, subst, ◌∙◌}
use Rattle.std.specs.Prelude.{IfSome, is_some}
use Rattle.std.proofs.lemmas.List.{with_items_is}
use Rattle.btt_arena.specs.Crashed.{first_stopped}
use Rattle.btt_arena.specs.Kept.{AllLieIn, kept_writes, kept_from}
use Rattle.btt_arena.specs.Memory.{Memory}
use Rattle.btt_arena.proofs.Stopping.{HasRecord, crash_recorded}
use Rattle.btt_arena.proofs.memory.MemoryMedia.crash.Goals as goal

pub returns-clause-left : goal.returns-clause-left
returns-clause-left c =
    let old = c.args.self.now in
    let taken = c.args.taken.now in
    let told : is_some old.keeping ≡ true = ap (λ (m : Memory). is_some m.keeping) (sym c.self.view_is) ∙ ap is_some c.in-Some.is in
    let bytes_are : c.self.inside.bytes.items ≡ old.bytes = ap (λ (m : Memory). m.bytes) c.self.view_is in
    let start_is : c.deref_mut.result.now ≡ old.bytes = c.deref_mut.ensures.value ∙ c.in_ok-bytes.ensures.items ∙ c.deref.ensures.value ∙ bytes_are in
    let kept_is : kept_writes old.keeping ≡ c.in-Some.keeping.kept = ap (λ (m : Memory). kept_writes m.keeping) (sym c.self.view_is) ∙ ap kept_writes c.in-Some.is in
    let stands : first_stopped (kept_from c.args.call (kept_writes old.keeping)) old.bytes taken ≡ Some c.crash.new.bytes =
    (λ i. first_stopped (kept_from c.args.call (kept_is i)) (sym start_is i) taken) ∙ rw c.if-not-branch.false at c.in_ok-crash.ensures in
    let lie : AllLieIn (length old.bytes) (kept_writes old.keeping) = subst (λ (m : Memory). AllLieIn (length m.bytes) (kept_writes m.keeping)) c.self.view_is c.self.invariant.kept in
    let has = subst (λ (o : Option (List ℕ)). IfSome o (HasRecord (kept_writes old.keeping) old.bytes)) stands (crash_recorded c.args.call (length old.bytes) (kept_writes old.keeping) old.bytes taken lie refl) in
    let long : length c.crash.new.bytes ≡ c.in_ok-bytes.bytes.len = c.crash.auto.bytes ∙ ap length c.deref_mut.ensures.value ∙ sym c.in_ok-bytes.bytes.ok.0 in
    record { left = has.left; since_then = (told, has.by); bytes_are = ap (λ (m : Memory). m.bytes) c.new.ensures ∙ with_items_is c.in_ok-bytes.bytes c.crash.new.bytes long ∙ has.bytes_are }
