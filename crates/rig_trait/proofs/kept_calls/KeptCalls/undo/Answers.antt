use Rattle.std.proofs.Common.{◌≡◌, ℕ, ◌+◌, ◌*◌, ◌≤◌, List, map, length, sym, ap, subst, ◌∙◌, arith, vec_len}
use Rattle.byte_ranges.specs.Ranges.{range}
use Rattle.rig_trait.specs.Areas.{Areas, IsWithin, written}
use Rattle.rig_trait.specs.InKept.{call_at}
use Rattle.rig_trait.specs.Kept.{KeptCall, Keeping, LiesIn}
use Rattle.rig_trait.specs.Memory.{areas_of}
use Rattle.rig_trait.specs.Undone.{undone, whole}
use Rattle.rig_trait.specs.declared.kept_calls.Entry.TheVariants.{Write, Say}
use Rattle.rig_trait.proofs.Entries.{call_is, entry_ends, some_first}
use Rattle.rig_trait.proofs.Lying.{first_lies, AllLieIn-written}
use Rattle.rig_trait.proofs.kept_calls.KeptCalls.undo.Goals as goal

pub part-requires : goal.part-requires
part-requires c =
    let bytes = c.self.inside.bytes.items in
    let entries = c.self.inside.entries.items in
    let is : c.args.self.now.kept ≡ map (call_at bytes) entries = sym (ap (λ (k : Keeping). k.kept) c.self.view_is) in
    let this = Write c.in-Write.call c.in-Write.dimm c.in-Write.at c.in-Write.from c.in-Write.len in
    let ends : c.in-Write.from + 2 * c.in-Write.len ≤ vec_len c.self.inside.bytes = entry_ends c.args.self.now.kept bytes entries is c.args.i c.index.result.now this c.index.ensures c.in-Write.is (vec_len c.self.inside.bytes) c.self.invariant.entries c.requires.inside in
    omega (arith, ends, c.deref.ensures.len)

pub put_into-requires : goal.put_into-requires
put_into-requires c =
    let bytes = c.self.inside.bytes.items in
    let entries = c.self.inside.entries.items in
    let is : c.args.self.now.kept ≡ map (call_at bytes) entries = sym (ap (λ (k : Keeping). k.kept) c.self.view_is) in
    let this = Write c.in-Write.call c.in-Write.dimm c.in-Write.at c.in-Write.from c.in-Write.len in
    let lies : LiesIn (areas_of c.args.areas.now) (call_at bytes this) = first_lies (areas_of c.args.areas.now) c.args.self.now.kept c.args.i (call_at bytes this) (some_first c.args.self.now.kept bytes entries is c.args.i c.index.result.now this c.index.ensures c.in-Write.is c.requires.inside) c.requires.lie in
    let part_is : c.part.result.now ≡ range bytes c.in-Write.from c.in-Write.len = c.part.ensures ∙ ap (λ (b : List ℕ). range b c.in-Write.from c.in-Write.len) c.deref.ensures.value in
    rw (part_is, lies.1) lies.0

pub returns-in-Write-clause-undone : goal.returns-in-Write-clause-undone
returns-in-Write-clause-undone c call first =
    let bytes = c.self.inside.bytes.items in
    let entries = c.self.inside.entries.items in
    let is : c.args.self.now.kept ≡ map (call_at bytes) entries = sym (ap (λ (k : Keeping). k.kept) c.self.view_is) in
    let this = Write c.in-Write.call c.in-Write.dimm c.in-Write.at c.in-Write.from c.in-Write.len in
    let part_is : c.part.result.now ≡ range bytes c.in-Write.from c.in-Write.len = c.part.ensures ∙ ap (λ (b : List ℕ). range b c.in-Write.from c.in-Write.len) c.deref.ensures.value in
    subst (λ (k : KeptCall). whole (areas_of c.put_into.new.areas) c.args.said.now.items ≡ undone k (whole (areas_of c.args.areas.now) c.args.said.now.items)) (call_is c.args.self.now.kept bytes entries is c.args.i c.index.result.now this c.index.ensures c.in-Write.is call first)
    (ap (λ (a : Areas). whole a c.args.said.now.items) (c.put_into.ensures ∙ ap (written (areas_of c.args.areas.now) c.in-Write.dimm c.in-Write.at) part_is))

pub returns-in-Write-clause-lie : goal.returns-in-Write-clause-lie
returns-in-Write-clause-lie c =
    let bytes = c.self.inside.bytes.items in
    let entries = c.self.inside.entries.items in
    let is : c.args.self.now.kept ≡ map (call_at bytes) entries = sym (ap (λ (k : Keeping). k.kept) c.self.view_is) in
    let this = Write c.in-Write.call c.in-Write.dimm c.in-Write.at c.in-Write.from c.in-Write.len in
    let lies : LiesIn (areas_of c.args.areas.now) (call_at bytes this) = first_lies (areas_of c.args.areas.now) c.args.self.now.kept c.args.i (call_at bytes this) (some_first c.args.self.now.kept bytes entries is c.args.i c.index.result.now this c.index.ensures c.in-Write.is c.requires.inside) c.requires.lie in
    let part_is : c.part.result.now ≡ range bytes c.in-Write.from c.in-Write.len = c.part.ensures ∙ ap (λ (b : List ℕ). range b c.in-Write.from c.in-Write.len) c.deref.ensures.value in
    let within : IsWithin (areas_of c.args.areas.now) c.in-Write.dimm c.in-Write.at (length c.part.result.now) = rw (part_is, lies.1) lies.0 in
    rw c.put_into.ensures (AllLieIn-written (areas_of c.args.areas.now) c.in-Write.dimm c.in-Write.at c.part.result.now within c.args.self.now.kept c.requires.lie)

pub returns-in-Say-clause-undone : goal.returns-in-Say-clause-undone
returns-in-Say-clause-undone c call first =
    let bytes = c.self.inside.bytes.items in
    let entries = c.self.inside.entries.items in
    let is : c.args.self.now.kept ≡ map (call_at bytes) entries = sym (ap (λ (k : Keeping). k.kept) c.self.view_is) in
    let this = Say c.in-Say.call c.in-Say.before c.in-Say.from c.in-Say.len in
    subst (λ (k : KeptCall). whole (areas_of c.args.areas.now) c.truncate.new.self.items ≡ undone k (whole (areas_of c.args.areas.now) c.args.said.now.items)) (call_is c.args.self.now.kept bytes entries is c.args.i c.index.result.now this c.index.ensures c.in-Say.is call first)
    (ap (whole (areas_of c.args.areas.now)) c.truncate.ensures.items)
