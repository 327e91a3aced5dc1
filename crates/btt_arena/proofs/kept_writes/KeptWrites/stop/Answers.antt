use Rattle.std.proofs.Common.{◌≡◌, ℕ, ◌+◌, ◌/◌, List, Some, None, map, length, sym, ap, subst, ◌∙◌, arith}
use Rattle.byte_ranges.specs.Ranges.{range, patched}
use Rattle.btt_arena.specs.Crashed.{mixed, stopped}
use Rattle.btt_arena.specs.InKept.{write_at}
use Rattle.btt_arena.specs.Kept.{KeptWrite, Keeping}
use Rattle.btt_arena.proofs.Bytes.{length-range}
use Rattle.btt_arena.proofs.Entries.{Stands, entry_stands, write_is}
use Rattle.btt_arena.proofs.Stopping.{write_stopped, write_not_stopped}
use Rattle.btt_arena.proofs.Words.{by_words}
use Rattle.btt_arena.proofs.kept_writes.KeptWrites.stop.Goals as goal

pub returns-then-taken-entry : goal.returns-then-taken-entry
returns-then-taken-entry c write first =
    let bytes = c.self.inside.bytes.items in
    let entries = c.self.inside.entries.items in
    let is : c.args.self.now.kept ≡ map (write_at bytes) entries = sym (ap (λ (k : Keeping). k.kept) c.self.view_is) in
    let entry = c.index-entry.result.now in
    let n = length c.args.bytes.now in
    let stands : Stands c.args.self.now.kept bytes entries is c.args.i entry c.index-entry.ensures n = entry_stands c.args.self.now.kept bytes entries is c.args.i entry c.index-entry.ensures n _ c.self.inside.bytes.ok.0 c.requires.lie c.self.invariant.entries c.requires.inside in
    let long : length (range bytes (entry.from + entry.len) entry.len) ≡ entry.len = length-range bytes (entry.from + entry.len) entry.len (omega (arith, stands.ends)) in
    subst (λ (w : KeptWrite). stopped w c.args.bytes.now c.args.taken.now ≡ None) (write_is c.args.self.now.kept bytes entries is c.args.i entry c.index-entry.ensures write first)
    (write_not_stopped (write_at bytes entry) c.args.bytes.now c.args.taken.now (λ same. c.if-taken-entry.true (same ∙ ap (λ (m : ℕ). m / 4) long)))

pub part-old-requires : goal.part-old-requires
part-old-requires c =
    let bytes = c.self.inside.bytes.items in
    let entries = c.self.inside.entries.items in
    let is : c.args.self.now.kept ≡ map (write_at bytes) entries = sym (ap (λ (k : Keeping). k.kept) c.self.view_is) in
    let entry = c.index-entry.result.now in
    let n = length c.args.bytes.now in
    let stands : Stands c.args.self.now.kept bytes entries is c.args.i entry c.index-entry.ensures n = entry_stands c.args.self.now.kept bytes entries is c.args.i entry c.index-entry.ensures n _ c.self.inside.bytes.ok.0 c.requires.lie c.self.invariant.entries c.requires.inside in
    omega (arith, stands.ends, ap length c.deref.ensures.value)

pub overflow_add-entry : goal.overflow_add-entry
overflow_add-entry c =
    let bytes = c.self.inside.bytes.items in
    let entries = c.self.inside.entries.items in
    let is : c.args.self.now.kept ≡ map (write_at bytes) entries = sym (ap (λ (k : Keeping). k.kept) c.self.view_is) in
    let entry = c.index-entry.result.now in
    let n = length c.args.bytes.now in
    let stands : Stands c.args.self.now.kept bytes entries is c.args.i entry c.index-entry.ensures n = entry_stands c.args.self.now.kept bytes entries is c.args.i entry c.index-entry.ensures n _ c.self.inside.bytes.ok.0 c.requires.lie c.self.invariant.entries c.requires.inside in
    omega (arith, stands.ends, ap length c.deref.ensures.value)

pub part-new-requires : goal.part-new-requires
part-new-requires c =
    let bytes = c.self.inside.bytes.items in
    let entries = c.self.inside.entries.items in
    let is : c.args.self.now.kept ≡ map (write_at bytes) entries = sym (ap (λ (k : Keeping). k.kept) c.self.view_is) in
    let entry = c.index-entry.result.now in
    let n = length c.args.bytes.now in
    let stands : Stands c.args.self.now.kept bytes entries is c.args.i entry c.index-entry.ensures n = entry_stands c.args.self.now.kept bytes entries is c.args.i entry c.index-entry.ensures n _ c.self.inside.bytes.ok.0 c.requires.lie c.self.invariant.entries c.requires.inside in
    omega (arith, stands.ends, ap length c.deref-2.ensures.value)

pub mix-requires-clause-old : goal.mix-requires-clause-old
mix-requires-clause-old c =
    let bytes = c.self.inside.bytes.items in
    let entries = c.self.inside.entries.items in
    let is : c.args.self.now.kept ≡ map (write_at bytes) entries = sym (ap (λ (k : Keeping). k.kept) c.self.view_is) in
    let entry = c.index-entry.result.now in
    let n = length c.args.bytes.now in
    let stands : Stands c.args.self.now.kept bytes entries is c.args.i entry c.index-entry.ensures n = entry_stands c.args.self.now.kept bytes entries is c.args.i entry c.index-entry.ensures n _ c.self.inside.bytes.ok.0 c.requires.lie c.self.invariant.entries c.requires.inside in
    let part_is : c.part-old.result.now ≡ range bytes entry.from entry.len = c.part-old.ensures ∙ ap (λ (b : List ℕ). range b entry.from entry.len) c.deref.ensures.value in
    omega (arith, ap length part_is, length-range bytes entry.from entry.len (omega (arith, stands.ends)), stands.words, c.if-taken-entry.false)

pub mix-requires-clause-new : goal.mix-requires-clause-new
mix-requires-clause-new c =
    let bytes = c.self.inside.bytes.items in
    let entries = c.self.inside.entries.items in
    let is : c.args.self.now.kept ≡ map (write_at bytes) entries = sym (ap (λ (k : Keeping). k.kept) c.self.view_is) in
    let entry = c.index-entry.result.now in
    let n = length c.args.bytes.now in
    let stands : Stands c.args.self.now.kept bytes entries is c.args.i entry c.index-entry.ensures n = entry_stands c.args.self.now.kept bytes entries is c.args.i entry c.index-entry.ensures n _ c.self.inside.bytes.ok.0 c.requires.lie c.self.invariant.entries c.requires.inside in
    let part_is : c.part-new.result.now ≡ range bytes (entry.from + entry.len) entry.len = c.part-new.ensures ∙ ap (λ (b : List ℕ). range b (entry.from + entry.len) entry.len) c.deref-2.ensures.value in
    omega (arith, ap length part_is, length-range bytes (entry.from + entry.len) entry.len (omega (arith, stands.ends)), stands.words, c.if-taken-entry.false)

pub put-requires : goal.put-requires
put-requires c =
    let bytes = c.self.inside.bytes.items in
    let entries = c.self.inside.entries.items in
    let is : c.args.self.now.kept ≡ map (write_at bytes) entries = sym (ap (λ (k : Keeping). k.kept) c.self.view_is) in
    let entry = c.index-entry.result.now in
    let n = length c.args.bytes.now in
    let stands : Stands c.args.self.now.kept bytes entries is c.args.i entry c.index-entry.ensures n = entry_stands c.args.self.now.kept bytes entries is c.args.i entry c.index-entry.ensures n _ c.self.inside.bytes.ok.0 c.requires.lie c.self.invariant.entries c.requires.inside in
    let old_is : c.part-old.result.now ≡ range bytes entry.from entry.len = c.part-old.ensures ∙ ap (λ (b : List ℕ). range b entry.from entry.len) c.deref.ensures.value in
    let new_is : c.part-new.result.now ≡ range bytes (entry.from + entry.len) entry.len = c.part-new.ensures ∙ ap (λ (b : List ℕ). range b (entry.from + entry.len) entry.len) c.deref-2.ensures.value in
    let torn_is : c.deref-3.result.now ≡ mixed c.args.taken.now (range bytes entry.from entry.len) (range bytes (entry.from + entry.len) entry.len) =
    c.deref-3.ensures.value ∙ c.in_ok-torn.ensures ∙ (λ i. mixed c.args.taken.now (old_is i) (new_is i)) in
    let old_long : length (range bytes entry.from entry.len) ≡ entry.len = length-range bytes entry.from entry.len (omega (arith, stands.ends)) in
    let new_long : length (range bytes (entry.from + entry.len) entry.len) ≡ entry.len = length-range bytes (entry.from + entry.len) entry.len (omega (arith, stands.ends)) in
    let words = by_words c.args.taken.now (range bytes entry.from entry.len) (range bytes (entry.from + entry.len) entry.len) (omega (arith, old_long, stands.words, c.if-taken-entry.false)) (omega (arith, new_long, stands.words, c.if-taken-entry.false)) in
    omega (arith, ap length torn_is, words.same_length, new_long, stands.fits)

pub returns : goal.returns
returns c write first =
    let bytes = c.self.inside.bytes.items in
    let entries = c.self.inside.entries.items in
    let is : c.args.self.now.kept ≡ map (write_at bytes) entries = sym (ap (λ (k : Keeping). k.kept) c.self.view_is) in
    let entry = c.index-entry.result.now in
    let n = length c.args.bytes.now in
    let stands : Stands c.args.self.now.kept bytes entries is c.args.i entry c.index-entry.ensures n = entry_stands c.args.self.now.kept bytes entries is c.args.i entry c.index-entry.ensures n _ c.self.inside.bytes.ok.0 c.requires.lie c.self.invariant.entries c.requires.inside in
    let old_is : c.part-old.result.now ≡ range bytes entry.from entry.len = c.part-old.ensures ∙ ap (λ (b : List ℕ). range b entry.from entry.len) c.deref.ensures.value in
    let new_is : c.part-new.result.now ≡ range bytes (entry.from + entry.len) entry.len = c.part-new.ensures ∙ ap (λ (b : List ℕ). range b (entry.from + entry.len) entry.len) c.deref-2.ensures.value in
    let torn_is : c.deref-3.result.now ≡ mixed c.args.taken.now (range bytes entry.from entry.len) (range bytes (entry.from + entry.len) entry.len) =
    c.deref-3.ensures.value ∙ c.in_ok-torn.ensures ∙ (λ i. mixed c.args.taken.now (old_is i) (new_is i)) in
    let old_long : length (range bytes entry.from entry.len) ≡ entry.len = length-range bytes entry.from entry.len (omega (arith, stands.ends)) in
    let new_long : length (range bytes (entry.from + entry.len) entry.len) ≡ entry.len = length-range bytes (entry.from + entry.len) entry.len (omega (arith, stands.ends)) in
    subst (λ (w : KeptWrite). stopped w c.args.bytes.now c.args.taken.now ≡ Some c.put.new.into) (write_is c.args.self.now.kept bytes entries is c.args.i entry c.index-entry.ensures write first)
    (write_stopped (write_at bytes entry) c.args.bytes.now c.args.taken.now (c.if-taken-entry.false ∙ ap (λ (m : ℕ). m / 4) (sym new_long))
    ∙ ap (λ (b : List ℕ). Some b) (sym (c.put.ensures ∙ ap (patched c.args.bytes.now entry.at) torn_is)))
