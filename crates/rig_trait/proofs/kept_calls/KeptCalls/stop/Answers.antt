use Rattle.std.proofs.Common.{◌≡◌, ℕ, ◌+◌, ◌*◌, ◌≤◌, List, map, length, drop, Some, None, true, false, refl, sym, ap, subst, ◌∙◌, arith, vec_len}
use Rattle.byte_ranges.specs.Ranges.{range}
use Rattle.rig_trait.specs.Areas.{Areas}
use Rattle.rig_trait.specs.Crashed.{stopped}
use Rattle.rig_trait.specs.InKept.{call_at}
use Rattle.rig_trait.specs.Kept.{KeptCall, Keeping, LiesIn}
use Rattle.rig_trait.specs.Memory.{areas_of}
use Rattle.rig_trait.specs.Undone.{whole}
use Rattle.rig_trait.specs.declared.kept_calls.Entry.TheVariants.{Write, Say}
use Rattle.rig_trait.proofs.Entries.{call_is, entry_ends, some_first}
use Rattle.rig_trait.proofs.Lying.{first_lies}
use Rattle.std.specs.Prelude.{nat_eq}
use Rattle.std.specs.List.{starts_with}
use Rattle.std.proofs.lemmas.List.{length-take, length-drop}
use Rattle.rig_trait.proofs.Stopping.{write_stopped, write_not_stopped}
use Rattle.rig_trait.proofs.kept_calls.KeptCalls.stop.Goals as goal

pub part-requires : goal.part-requires
part-requires c =
    let bytes = c.self.inside.bytes.items in
    let entries = c.self.inside.entries.items in
    let is : c.args.self.now.kept ≡ map (call_at bytes) entries = sym (ap (λ (k : Keeping). k.kept) c.self.view_is) in
    let this = Say c.in-Say.call c.in-Say.said c.in-Say.from c.in-Say.len in
    let ends : c.in-Say.from + c.in-Say.len ≤ vec_len c.self.inside.bytes = entry_ends c.args.self.now.kept bytes entries is c.args.i c.index.result.now this c.index.ensures c.in-Say.is (vec_len c.self.inside.bytes) c.self.invariant.entries c.requires.inside in
    omega (arith, ends, c.deref.ensures.len)

pub put_into-requires : goal.put_into-requires
put_into-requires c =
    let bytes = c.self.inside.bytes.items in
    let entries = c.self.inside.entries.items in
    let is : c.args.self.now.kept ≡ map (call_at bytes) entries = sym (ap (λ (k : Keeping). k.kept) c.self.view_is) in
    let this = Write c.in-Write.call c.in-Write.dimm c.in-Write.at c.in-Write.from c.in-Write.len in
    let lies : LiesIn (areas_of c.args.areas.now) (call_at bytes this) = first_lies (areas_of c.args.areas.now) c.args.self.now.kept c.args.i (call_at bytes this) (some_first c.args.self.now.kept bytes entries is c.args.i c.index.result.now this c.index.ensures c.in-Write.is c.requires.inside) c.requires.lie in
    let ends : c.in-Write.from + 2 * c.in-Write.len ≤ vec_len c.self.inside.bytes = entry_ends c.args.self.now.kept bytes entries is c.args.i c.index.result.now this c.index.ensures c.in-Write.is (vec_len c.self.inside.bytes) c.self.invariant.entries c.requires.inside in
    let long : length (range bytes (c.in-Write.from + c.in-Write.len) c.in-Write.len) ≡ c.in-Write.len =
    omega (arith, ends, c.self.inside.bytes.ok.0, length-take c.in-Write.len (drop (c.in-Write.from + c.in-Write.len) bytes), length-drop (c.in-Write.from + c.in-Write.len) bytes) in
    rw (c.if-torn-len.false, ← long) lies.0

pub returns-then-torn-len : goal.returns-then-torn-len
returns-then-torn-len c call first =
    let bytes = c.self.inside.bytes.items in
    let entries = c.self.inside.entries.items in
    let is : c.args.self.now.kept ≡ map (call_at bytes) entries = sym (ap (λ (k : Keeping). k.kept) c.self.view_is) in
    let this = Write c.in-Write.call c.in-Write.dimm c.in-Write.at c.in-Write.from c.in-Write.len in
    let ends : c.in-Write.from + 2 * c.in-Write.len ≤ vec_len c.self.inside.bytes = entry_ends c.args.self.now.kept bytes entries is c.args.i c.index.result.now this c.index.ensures c.in-Write.is (vec_len c.self.inside.bytes) c.self.invariant.entries c.requires.inside in
    let long : length (range bytes (c.in-Write.from + c.in-Write.len) c.in-Write.len) ≡ c.in-Write.len =
    omega (arith, ends, c.self.inside.bytes.ok.0, length-take c.in-Write.len (drop (c.in-Write.from + c.in-Write.len) bytes), length-drop (c.in-Write.from + c.in-Write.len) bytes) in
    subst (λ (k : KeptCall). stopped k (whole (areas_of c.args.areas.now) c.args.said.now.items) c.args.torn.now ≡ None) (call_is c.args.self.now.kept bytes entries is c.args.i c.index.result.now this c.index.ensures c.in-Write.is call first)
    (write_not_stopped c.in-Write.call c.in-Write.dimm c.in-Write.at (range bytes c.in-Write.from c.in-Write.len) (range bytes (c.in-Write.from + c.in-Write.len) c.in-Write.len) (whole (areas_of c.args.areas.now) c.args.said.now.items) c.args.torn.now (λ same. c.if-torn-len.true (same ∙ long)))

pub returns-else-torn-len : goal.returns-else-torn-len
returns-else-torn-len c call first =
    let bytes = c.self.inside.bytes.items in
    let entries = c.self.inside.entries.items in
    let is : c.args.self.now.kept ≡ map (call_at bytes) entries = sym (ap (λ (k : Keeping). k.kept) c.self.view_is) in
    let this = Write c.in-Write.call c.in-Write.dimm c.in-Write.at c.in-Write.from c.in-Write.len in
    let ends : c.in-Write.from + 2 * c.in-Write.len ≤ vec_len c.self.inside.bytes = entry_ends c.args.self.now.kept bytes entries is c.args.i c.index.result.now this c.index.ensures c.in-Write.is (vec_len c.self.inside.bytes) c.self.invariant.entries c.requires.inside in
    let long : length (range bytes (c.in-Write.from + c.in-Write.len) c.in-Write.len) ≡ c.in-Write.len =
    omega (arith, ends, c.self.inside.bytes.ok.0, length-take c.in-Write.len (drop (c.in-Write.from + c.in-Write.len) bytes), length-drop (c.in-Write.from + c.in-Write.len) bytes) in
    subst (λ (k : KeptCall). stopped k (whole (areas_of c.args.areas.now) c.args.said.now.items) c.args.torn.now ≡ Some (whole (areas_of c.put_into.new.areas) c.args.said.now.items)) (call_is c.args.self.now.kept bytes entries is c.args.i c.index.result.now this c.index.ensures c.in-Write.is call first)
    (write_stopped c.in-Write.call c.in-Write.dimm c.in-Write.at (range bytes c.in-Write.from c.in-Write.len) (range bytes (c.in-Write.from + c.in-Write.len) c.in-Write.len) (whole (areas_of c.args.areas.now) c.args.said.now.items) c.args.torn.now (c.if-torn-len.false ∙ sym long) ∙ ap (λ (a : Areas). Some (whole a c.args.said.now.items)) (sym c.put_into.ensures))

pub returns-then-not-starts_with : goal.returns-then-not-starts_with
returns-then-not-starts_with c call first =
    let bytes = c.self.inside.bytes.items in
    let entries = c.self.inside.entries.items in
    let is : c.args.self.now.kept ≡ map (call_at bytes) entries = sym (ap (λ (k : Keeping). k.kept) c.self.view_is) in
    let this = Say c.in-Say.call c.in-Say.said c.in-Say.from c.in-Say.len in
    let part_is : c.part.result.now ≡ range bytes c.in-Say.from c.in-Say.len = c.part.ensures ∙ ap (λ (b : List ℕ). range b c.in-Say.from c.in-Say.len) c.deref.ensures.value in
    let starts : starts_with nat_eq (range bytes c.in-Say.from c.in-Say.len) c.args.torn.now ≡ false = ap (λ (t : List ℕ). starts_with nat_eq t c.args.torn.now) (sym part_is) ∙ sym c.starts_with.ensures.value ∙ c.if-not-starts_with.true in
    subst (λ (k : KeptCall). stopped k (whole (areas_of c.args.areas.now) c.args.said.now.items) c.args.torn.now ≡ None) (call_is c.args.self.now.kept bytes entries is c.args.i c.index.result.now this c.index.ensures c.in-Say.is call first) (rw starts refl)

pub returns-in_ok-extend_from_slice-in-Say : goal.returns-in_ok-extend_from_slice-in-Say
returns-in_ok-extend_from_slice-in-Say c call first =
    let bytes = c.self.inside.bytes.items in
    let entries = c.self.inside.entries.items in
    let is : c.args.self.now.kept ≡ map (call_at bytes) entries = sym (ap (λ (k : Keeping). k.kept) c.self.view_is) in
    let this = Say c.in-Say.call c.in-Say.said c.in-Say.from c.in-Say.len in
    let part_is : c.part.result.now ≡ range bytes c.in-Say.from c.in-Say.len = c.part.ensures ∙ ap (λ (b : List ℕ). range b c.in-Say.from c.in-Say.len) c.deref.ensures.value in
    let starts : starts_with nat_eq (range bytes c.in-Say.from c.in-Say.len) c.args.torn.now ≡ true = ap (λ (t : List ℕ). starts_with nat_eq t c.args.torn.now) (sym part_is) ∙ sym c.starts_with.ensures.value ∙ c.if-not-starts_with.false in
    subst (λ (k : KeptCall). stopped k (whole (areas_of c.args.areas.now) c.args.said.now.items) c.args.torn.now ≡ Some (whole (areas_of c.args.areas.now) c.extend_from_slice.new.self.items)) (call_is c.args.self.now.kept bytes entries is c.args.i c.index.result.now this c.index.ensures c.in-Say.is call first)
    (rw starts (ap (λ (t : List ℕ). Some (whole (areas_of c.args.areas.now) t)) (sym c.in_ok-extend_from_slice-in-Say.ensures.items)))
