use Rattle.std.proofs.Common.{◌≡◌, ℕ, ◌+◌, [], ◌∷◌, ◌++◌, map, length, Some, true, refl, sym, ap, subst, ◌∙◌, arith, vec_len}
use Rattle.rig_trait.specs.InKept.{call_at}
use Rattle.rig_trait.specs.Kept.{kept_say, Keeping, has_space}
use Rattle.rig_trait.specs.declared.kept_calls.Entry.TheVariants.{Say}
use Rattle.rig_trait.proofs.Entries.{say_kept, AllEndWithin-push}
use Rattle.rig_trait.specs.InKept.{AllEndWithin}
use Rattle.rig_trait.proofs.kept_calls.KeptCalls.keep_say.Goals as goal

pub invariant_of-self : goal.invariant_of-self
invariant_of-self c =
    let taken_is = ap (λ (k : Keeping). k.taken) c.self.view_is in
    let most_is = ap (λ (k : Keeping). k.bytes) c.self.view_is in
    let fits = c.has_space.ensures.bytes c.if-not-has_space.false in
    record {
      entries = rw c.push.ensures.items (AllEndWithin-push (vec_len c.self.inside.bytes) (vec_len c.append.new.bytes) c.self.inside.entries.items (Say c.args.call c.args.said c.len-from.result (length c.args.text.now))
          (omega (arith, c.append.ensures.len, c.append.ensures.room)) c.self.invariant.entries (omega (arith, c.append.ensures.len, c.append.ensures.room, c.len-from.ensures)));
      within = omega (arith, c.append.ensures.len, c.append.ensures.room, taken_is, most_is, fits);
      calls_taken = omega (arith, c.push.ensures.room, c.self.invariant.calls_taken);
      bytes_taken = omega (arith, c.append.ensures.len, c.append.ensures.room, c.self.invariant.bytes_taken);
    }

pub returns-clause-kept : goal.returns-clause-kept
returns-clause-kept c =
    let bytes = c.self.inside.bytes.items in
    let entries = c.self.inside.entries.items in
    let same : length c.args.text.now + 0 ≡ length c.args.text.now = omega arith in
    let fits : has_space (length c.args.text.now) (Some c.args.self.now) ≡ true = ap (λ (n : ℕ). has_space n (Some c.args.self.now)) (sym same) ∙ sym c.has_space.ensures.value ∙ c.if-not-has_space.false in
    let items_are : c.append.new.bytes.items ≡ bytes ++ c.args.text.now = c.append.ensures.items in
    let all = subst (λ (n : ℕ). AllEndWithin n entries) c.self.inside.bytes.ok.0 c.self.invariant.entries in
    let from_is : c.len-from.result ≡ length bytes = c.len-from.ensures ∙ c.self.inside.bytes.ok.0 in
    let kept_is : map (call_at c.append.new.bytes.items) c.push.new.entries.items ≡ c.args.self.now.kept ++ kept_say c.args.call c.args.said c.args.text.now ∷ [] =
    (λ i. map (call_at (items_are i)) (c.push.ensures.items i)) ∙ say_kept bytes c.args.text.now entries c.args.call c.args.said c.len-from.result (length c.args.text.now) all from_is refl ∙ ap (λ (k : Keeping). k.kept ++ kept_say c.args.call c.args.said c.args.text.now ∷ []) c.self.view_is in
    let taken_is : vec_len c.append.new.bytes ≡ c.args.self.now.taken + length c.args.text.now = omega (arith, c.append.ensures.len, c.append.ensures.room, ap (λ (k : Keeping). k.taken) c.self.view_is) in
    rw fits (λ i. Some (record { kept = kept_is i; calls = (c.self.view_is i).calls; bytes = (c.self.view_is i).bytes; taken = taken_is i }))
