use Rattle.std.proofs.Common.{◌≡◌, ℕ, ◌+◌, ◌*◌, ◌≤◌, List, map, length, sym, ap, subst, ◌∙◌, arith, vec_len}
use Rattle.byte_ranges.specs.Ranges.{range, patched}
use Rattle.btt_arena.specs.InKept.{write_at}
use Rattle.btt_arena.specs.Kept.{KeptWrite, Keeping, LiesIn}
use Rattle.btt_arena.specs.Undone.{undone}
use Rattle.btt_arena.proofs.Entries.{write_is, entry_ends, some_first}
use Rattle.btt_arena.proofs.Stopping.{first_lies}
use Rattle.btt_arena.proofs.kept_writes.KeptWrites.undo.Goals as goal

pub part-requires : goal.part-requires
part-requires c =
    let bytes = c.self.inside.bytes.items in
    let entries = c.self.inside.entries.items in
    let is : c.args.self.now.kept ≡ map (write_at bytes) entries = sym (ap (λ (k : Keeping). k.kept) c.self.view_is) in
    let entry = c.index-entry.result.now in
    let ends : entry.from + 2 * entry.len ≤ vec_len c.self.inside.bytes = entry_ends c.args.self.now.kept bytes entries is c.args.i entry c.index-entry.ensures (vec_len c.self.inside.bytes) c.self.invariant.entries c.requires.inside in
    omega (arith, ends, c.deref.ensures.len)

pub put-requires : goal.put-requires
put-requires c =
    let bytes = c.self.inside.bytes.items in
    let entries = c.self.inside.entries.items in
    let is : c.args.self.now.kept ≡ map (write_at bytes) entries = sym (ap (λ (k : Keeping). k.kept) c.self.view_is) in
    let entry = c.index-entry.result.now in
    let lies : LiesIn (length c.args.bytes.now) (write_at bytes entry) = first_lies (length c.args.bytes.now) c.args.self.now.kept c.args.i (write_at bytes entry) (some_first c.args.self.now.kept bytes entries is c.args.i entry c.index-entry.ensures c.requires.inside) c.requires.lie in
    let part_is : c.part.result.now ≡ range bytes entry.from entry.len = c.part.ensures ∙ ap (λ (b : List ℕ). range b entry.from entry.len) c.deref.ensures.value in
    let same : length c.part.result.now ≡ length (range bytes entry.from entry.len) = ap length part_is in
    omega (arith, same, lies.fits, lies.same_length)

pub returns : goal.returns
returns c write first =
    let bytes = c.self.inside.bytes.items in
    let entries = c.self.inside.entries.items in
    let is : c.args.self.now.kept ≡ map (write_at bytes) entries = sym (ap (λ (k : Keeping). k.kept) c.self.view_is) in
    let entry = c.index-entry.result.now in
    let part_is : c.part.result.now ≡ range bytes entry.from entry.len = c.part.ensures ∙ ap (λ (b : List ℕ). range b entry.from entry.len) c.deref.ensures.value in
    subst (λ (w : KeptWrite). c.put.new.into ≡ undone w c.args.bytes.now) (write_is c.args.self.now.kept bytes entries is c.args.i entry c.index-entry.ensures write first)
    (c.put.ensures ∙ ap (patched c.args.bytes.now entry.at) part_is)
