use Rattle.std.proofs.Common.{◌≡◌, suc, Bool, List, ℕ, ◌∷◌, Some, None, drop, sym, ap, ◌∙◌}
use Rattle.std.specs.Prelude.{if◌then◌else◌}
use Rattle.btt_arena.specs.Crashed.{IsFirst, first_stopped, stopped}
use Rattle.btt_arena.specs.Kept.{KeptWrite, kept_from}
use Rattle.btt_arena.specs.Undone.{before}
use Rattle.btt_arena.proofs.Stopping.{at_ok, write_there}
use Rattle.btt_arena.proofs.kept_writes.KeptWrites.crash.Goals as goal

pub returns : goal.returns
returns c =
    let kept = c.args.self.now.kept in
    let taken = c.args.taken.now in
    let start = c.args.bytes.now in
    let rewound = c.rewind.new.bytes in
    let given = λ (can : Bool). if can then Some c.stop.new.bytes else None in
    let there = write_there kept c.in-Some.i c.in-Some.ensures.inside in
    let stands : rewound ≡ before (there.0 ∷ drop (suc c.in-Some.i) kept) start = c.rewind.ensures ∙ ap (λ (l : List KeptWrite). before l start) there.1 in
    let same : first_stopped (kept_from c.args.call kept) start taken ≡ stopped there.0 rewound taken =
    ap (λ (l : List KeptWrite). first_stopped l start taken) (sym c.in-Some.ensures.found ∙ there.1) ∙ ap (λ (s : List ℕ). stopped there.0 s taken) (sym stands) in
    at_ok c.stop.result (λ can. (write : KeptWrite) → IsFirst (drop c.in-Some.i kept) write → stopped write rewound taken ≡ given can) (λ can. first_stopped (kept_from c.args.call kept) start taken ≡ given can)
    (λ can has. same ∙ has there.0 (drop (suc c.in-Some.i) kept, there.1)) c.stop.ensures
