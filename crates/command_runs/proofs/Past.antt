-- Where nothing is said yet, no reply to a change is begun.
use Rattle.std.proofs.Common.{◌≡◌, ◌<◌, ◌||◌, ℕ, zero, suc, ◌+◌, Bool, true, false, List, ◌++◌, length, refl, sym, ap, ◌∙◌, arith, length-append}
use Rattle.std.specs.Prelude.{MatchBool}
use Rattle.rig_trait.specs.Records.{CrashRecord}
use Rattle.command_runs.specs.LastWrites.{IsPastChanges}
use Rattle.command_runs.specs.Runs.{IsBehind, Progress, Run, is_change_if}

pub never-past : (known : Type 0) (run : Run) (k : ℕ) (progress : Progress) (behind : IsBehind known run k progress) (said : List ℕ) (c : CrashRecord) → c.said ≡ said
    → IsPastChanges known run k progress behind said c → progress.changed ≡ false
never-past known run zero progress behind said c same past = ap (λ (p : Progress). p.changed) behind
never-past known run (suc k) progress behind said c same past =
    by (never-past known run k behind.before behind.was said c same) (is_change_if behind.one.reply) refl past
  where
    by : (IsPastChanges known run k behind.before behind.was said c → behind.before.changed ≡ false) → (b : Bool) → is_change_if behind.one.reply ≡ b
        → MatchBool b (length (said ++ behind.before.said) < length c.said) (IsPastChanges known run k behind.before behind.was said c) → progress.changed ≡ false
    by before true is lt =
        let all : length (said ++ behind.before.said) ≡ length said + length behind.before.said = length-append said behind.before.said in
        let none : length c.said ≡ length said = ap length same in
        absurd (omega (arith, all, none, lt))
    by before false is past_it = behind.one.changed_is ∙ (λ i. before past_it i || is i)
