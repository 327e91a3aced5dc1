use Rattle.std.proofs.Common.{◌≡◌, ℕ, ◌+◌, ◌*◌, ◌≤◌, List, map, refl, sym, ap, subst, ◌∙◌, arith, vec_len}
use Rattle.byte_ranges.specs.Ranges.{range}
use Rattle.rig_trait.specs.InKept.{call_at}
use Rattle.rig_trait.specs.Kept.{KeptCall, Keeping}
use Rattle.rig_trait.specs.Shows.{Shows}
use Rattle.rig_trait.specs.declared.kept_calls.Entry.TheVariants.{Write, Say}
use Rattle.rig_trait.specs.declared.kept.Kept.TheVariants as kept
use Rattle.rig_trait.proofs.Entries.{call_is, entry_ends}
use Rattle.rig_trait.proofs.kept_calls.KeptCalls.show.Goals as goal

pub part-requires : goal.part-requires
part-requires c =
    let bytes = c.self.inside.bytes.items in
    let entries = c.self.inside.entries.items in
    let is : c.args.self.now.kept ≡ map (call_at bytes) entries = sym (ap (λ (k : Keeping). k.kept) c.self.view_is) in
    let this = Write c.in-Write.call c.in-Write.dimm c.in-Write.at c.in-Write.from c.in-Write.len in
    let ends : c.in-Write.from + 2 * c.in-Write.len ≤ vec_len c.self.inside.bytes = entry_ends c.args.self.now.kept bytes entries is c.args.i c.index.result.now this c.index.ensures c.in-Write.is (vec_len c.self.inside.bytes) c.self.invariant.entries c.requires in
    omega (arith, ends, c.deref.ensures.len)

pub overflow_add-from : goal.overflow_add-from
overflow_add-from c =
    let bytes = c.self.inside.bytes.items in
    let entries = c.self.inside.entries.items in
    let is : c.args.self.now.kept ≡ map (call_at bytes) entries = sym (ap (λ (k : Keeping). k.kept) c.self.view_is) in
    let this = Write c.in-Write.call c.in-Write.dimm c.in-Write.at c.in-Write.from c.in-Write.len in
    let ends : c.in-Write.from + 2 * c.in-Write.len ≤ vec_len c.self.inside.bytes = entry_ends c.args.self.now.kept bytes entries is c.args.i c.index.result.now this c.index.ensures c.in-Write.is (vec_len c.self.inside.bytes) c.self.invariant.entries c.requires in
    omega (arith, ends, c.deref.ensures.len)

pub part-requires-in-Write : goal.part-requires-in-Write
part-requires-in-Write c =
    let bytes = c.self.inside.bytes.items in
    let entries = c.self.inside.entries.items in
    let is : c.args.self.now.kept ≡ map (call_at bytes) entries = sym (ap (λ (k : Keeping). k.kept) c.self.view_is) in
    let this = Write c.in-Write.call c.in-Write.dimm c.in-Write.at c.in-Write.from c.in-Write.len in
    let ends : c.in-Write.from + 2 * c.in-Write.len ≤ vec_len c.self.inside.bytes = entry_ends c.args.self.now.kept bytes entries is c.args.i c.index.result.now this c.index.ensures c.in-Write.is (vec_len c.self.inside.bytes) c.self.invariant.entries c.requires in
    omega (arith, ends, c.deref-in-Write.ensures.len)

pub part-requires-in-Say : goal.part-requires-in-Say
part-requires-in-Say c =
    let bytes = c.self.inside.bytes.items in
    let entries = c.self.inside.entries.items in
    let is : c.args.self.now.kept ≡ map (call_at bytes) entries = sym (ap (λ (k : Keeping). k.kept) c.self.view_is) in
    let this = Say c.in-Say.call c.in-Say.said c.in-Say.from c.in-Say.len in
    let ends : c.in-Say.from + c.in-Say.len ≤ vec_len c.self.inside.bytes = entry_ends c.args.self.now.kept bytes entries is c.args.i c.index.result.now this c.index.ensures c.in-Say.is (vec_len c.self.inside.bytes) c.self.invariant.entries c.requires in
    omega (arith, ends, c.deref-in-Say.ensures.len)

pub returns-in-Write : goal.returns-in-Write
returns-in-Write c call first =
    let bytes = c.self.inside.bytes.items in
    let entries = c.self.inside.entries.items in
    let is : c.args.self.now.kept ≡ map (call_at bytes) entries = sym (ap (λ (k : Keeping). k.kept) c.self.view_is) in
    let this = Write c.in-Write.call c.in-Write.dimm c.in-Write.at c.in-Write.from c.in-Write.len in
    let old_is : c.part.result.now ≡ range bytes c.in-Write.from c.in-Write.len = c.part.ensures ∙ ap (λ (b : List ℕ). range b c.in-Write.from c.in-Write.len) c.deref.ensures.value in
    let new_is : c.part-in-Write.result.now ≡ range bytes (c.in-Write.from + c.in-Write.len) c.in-Write.len =
    c.part-in-Write.ensures ∙ ap (λ (b : List ℕ). range b (c.in-Write.from + c.in-Write.len) c.in-Write.len) c.deref-in-Write.ensures.value in
    subst (λ (k : KeptCall). Shows k (kept.Write c.in-Write.dimm c.in-Write.at c.part.result c.part-in-Write.result)) (call_is c.args.self.now.kept bytes entries is c.args.i c.index.result.now this c.index.ensures c.in-Write.is call first) (refl, refl, old_is, new_is)

pub returns-in-Say : goal.returns-in-Say
returns-in-Say c call first =
    let bytes = c.self.inside.bytes.items in
    let entries = c.self.inside.entries.items in
    let is : c.args.self.now.kept ≡ map (call_at bytes) entries = sym (ap (λ (k : Keeping). k.kept) c.self.view_is) in
    let this = Say c.in-Say.call c.in-Say.said c.in-Say.from c.in-Say.len in
    let text_is : c.part-in-Say.result.now ≡ range bytes c.in-Say.from c.in-Say.len = c.part-in-Say.ensures ∙ ap (λ (b : List ℕ). range b c.in-Say.from c.in-Say.len) c.deref-in-Say.ensures.value in
    subst (λ (k : KeptCall). Shows k (kept.Say c.part-in-Say.result)) (call_is c.args.self.now.kept bytes entries is c.args.i c.index.result.now this c.index.ensures c.in-Say.is call first) text_is
