use Rattle.std.proofs.Common.{◌≡◌, ◌≤◌, map, length, sym, ap, ◌∙◌, arith}
use Rattle.std.proofs.lemmas.List.{drop_all, length-map}
use Rattle.btt_arena.specs.InKept.{write_at}
use Rattle.btt_arena.specs.Kept.{Keeping, kept_from}
use Rattle.btt_arena.proofs.Entries.{found_here, found_later}
use Rattle.btt_arena.proofs.kept_writes.KeptWrites.find.Goals as goal

pub loop-i-preserved : goal.loop-i-preserved
loop-i-preserved c =
    let bytes = c.self.inside.bytes.items in
    let entries = c.deref-entry-items.result.now in
    let is : c.args.self.now.kept ≡ map (write_at bytes) entries = sym (ap (λ (k : Keeping). k.kept) c.self.view_is) ∙ ap (map (write_at bytes)) (sym c.deref-entry-items.ensures.value) in
    c.loop-i.invariant ∙ found_later c.args.call bytes c.args.self.now.kept entries is c.loop-i.i _ c.loop-i-test.true (λ same. c.if-entry-call.false same)

pub returns-then-entry-call-clause-found : goal.returns-then-entry-call-clause-found
returns-then-entry-call-clause-found c =
    let bytes = c.self.inside.bytes.items in
    let entries = c.deref-entry-items.result.now in
    let is : c.args.self.now.kept ≡ map (write_at bytes) entries = sym (ap (λ (k : Keeping). k.kept) c.self.view_is) ∙ ap (map (write_at bytes)) (sym c.deref-entry-items.ensures.value) in
    sym (c.loop-i.invariant ∙ found_here c.args.call bytes c.args.self.now.kept entries is c.loop-i.i _ c.loop-i-test.true c.if-entry-call.true)

pub returns-clause-none : goal.returns-clause-none
returns-clause-none c =
    let bytes = c.self.inside.bytes.items in
    let entries = c.deref-entry-items.result.now in
    let is : c.args.self.now.kept ≡ map (write_at bytes) entries = sym (ap (λ (k : Keeping). k.kept) c.self.view_is) ∙ ap (map (write_at bytes)) (sym c.deref-entry-items.ensures.value) in
    let past : length c.args.self.now.kept ≤ c.loop-i.i = omega (arith, ap length is, length-map entries (write_at bytes), c.loop-i-test.false) in
    c.loop-i.invariant ∙ ap (kept_from c.args.call) (drop_all c.loop-i.i c.args.self.now.kept past)
