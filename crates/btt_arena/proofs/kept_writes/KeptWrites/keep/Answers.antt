use Rattle.std.proofs.Common.{◌≡◌, ℕ, ◌+◌, ◌*◌, List, [], ◌∷◌, ◌++◌, map, length, Some, true, refl, sym, ap, subst, ◌∙◌, arith, vec_len}
use Rattle.btt_arena.specs.InKept.{AllEndWithin, write_at}
use Rattle.btt_arena.specs.Kept.{Keeping, KeptWrite, has_space}
use Rattle.btt_arena.proofs.Entries.{write_kept, AllEndWithin-push}
use Rattle.btt_arena.proofs.kept_writes.KeptWrites.keep.Goals as goal

pub invariant_of-self : goal.invariant_of-self
invariant_of-self c =
    let taken_is = ap (λ (k : Keeping). k.taken) c.self.view_is in
    let most_is = ap (λ (k : Keeping). k.bytes) c.self.view_is in
    let fits = c.has_space.ensures.bytes c.if-not-has_space.false in
    record {
      entries = rw c.push.ensures.items (AllEndWithin-push (vec_len c.self.inside.bytes) (vec_len c.append-2.new.bytes) c.self.inside.entries.items
          (record { call = c.args.call; at = c.args.at; from = c.len-from.result; len = length c.args.new.now })
          (omega (arith, c.append.ensures.len, c.append-2.ensures.len, c.append.ensures.room, c.append-2.ensures.room, c.requires)) c.self.invariant.entries (omega (arith, c.append.ensures.len, c.append-2.ensures.len, c.append.ensures.room, c.append-2.ensures.room, c.requires, c.len-from.ensures)));
      within = omega (arith, c.append.ensures.len, c.append-2.ensures.len, c.append.ensures.room, c.append-2.ensures.room, c.requires, taken_is, most_is, fits);
      calls_taken = omega (arith, c.push.ensures.room, c.self.invariant.calls_taken);
      bytes_taken = omega (arith, c.append.ensures.len, c.append-2.ensures.len, c.append.ensures.room, c.append-2.ensures.room, c.requires, c.self.invariant.bytes_taken);
    }

pub returns-clause-kept : goal.returns-clause-kept
returns-clause-kept c =
    let bytes = c.self.inside.bytes.items in
    let entries = c.self.inside.entries.items in
    let write : KeptWrite = record { call = c.args.call; at = c.args.at; old = c.args.old.now; new = c.args.new.now } in
    let same : length c.args.old.now + length c.args.new.now ≡ 2 * length c.args.new.now = omega (arith, c.requires) in
    let fits : has_space (2 * length c.args.new.now) (Some c.args.self.now) ≡ true = ap (λ (n : ℕ). has_space n (Some c.args.self.now)) (sym same) ∙ sym c.has_space.ensures.value ∙ c.if-not-has_space.false in
    let items_are : c.append-2.new.bytes.items ≡ (bytes ++ c.args.old.now) ++ c.args.new.now = c.append-2.ensures.items ∙ ap (λ (b : List ℕ). b ++ c.args.new.now) c.append.ensures.items in
    let all = subst (λ (n : ℕ). AllEndWithin n entries) c.self.inside.bytes.ok.0 c.self.invariant.entries in
    let from_is : c.len-from.result ≡ length bytes = c.len-from.ensures ∙ c.self.inside.bytes.ok.0 in
    let kept_is : map (write_at c.append-2.new.bytes.items) c.push.new.entries.items ≡ c.args.self.now.kept ++ write ∷ [] =
    (λ i. map (write_at (items_are i)) (c.push.ensures.items i)) ∙ write_kept bytes c.args.old.now c.args.new.now entries c.args.call c.args.at c.len-from.result (length c.args.new.now) all from_is refl c.requires ∙ ap (λ (k : Keeping). k.kept ++ write ∷ []) c.self.view_is in
    let taken_is : vec_len c.append-2.new.bytes ≡ c.args.self.now.taken + 2 * length c.args.new.now = omega (arith, c.append.ensures.len, c.append-2.ensures.len, c.append.ensures.room, c.append-2.ensures.room, c.requires, ap (λ (k : Keeping). k.taken) c.self.view_is) in
    rw fits (λ i. Some (record { kept = kept_is i; calls = (c.self.view_is i).calls; bytes = (c.self.view_is i).bytes; taken = taken_is i }))
