use Rattle.std.proofs.Common.{◌≡◌, suc, Bool, List, ◌∷◌, Some, None, drop, sym, ap, ◌∙◌}
use Rattle.std.specs.Prelude.{if◌then◌else◌}
use Rattle.rig_trait.specs.Crashed.{IsFirst, first_stopped, stopped}
use Rattle.rig_trait.specs.Kept.{KeptCall, kept_from}
use Rattle.rig_trait.specs.Memory.{areas_of}
use Rattle.rig_trait.specs.Records.{CrashRecord}
use Rattle.rig_trait.specs.Undone.{before, whole}
use Rattle.rig_trait.proofs.Lying.{at_ok, call_there}
use Rattle.rig_trait.proofs.kept_calls.KeptCalls.crash.Goals as goal

pub returns : goal.returns
returns c =
    let kept = c.args.self.now.kept in
    let torn = c.args.torn.now in
    let start = whole (areas_of c.args.areas.now) c.args.said.now.items in
    let rewound = whole (areas_of c.rewind.new.areas) c.rewind.new.said.items in
    let given = λ (can : Bool). if can then Some (whole (areas_of c.stop.new.areas) c.stop.new.said.items) else None in
    let there = call_there kept c.in-Some.i c.in-Some.ensures.inside in
    let stands : rewound ≡ before (there.0 ∷ drop (suc c.in-Some.i) kept) start = c.rewind.ensures.before ∙ ap (λ (l : List KeptCall). before l start) there.1 in
    let same : first_stopped (kept_from c.args.call kept) start torn ≡ stopped there.0 rewound torn =
    ap (λ (l : List KeptCall). first_stopped l start torn) (sym c.in-Some.ensures.found ∙ there.1) ∙ ap (λ (s : CrashRecord). stopped there.0 s torn) (sym stands) in
    at_ok c.stop.result (λ can. (call : KeptCall) → IsFirst (drop c.in-Some.i kept) call → stopped call rewound torn ≡ given can) (λ can. first_stopped (kept_from c.args.call kept) start torn ≡ given can)
    (λ can has. same ∙ has there.0 (drop (suc c.in-Some.i) kept, there.1)) c.stop.ensures
