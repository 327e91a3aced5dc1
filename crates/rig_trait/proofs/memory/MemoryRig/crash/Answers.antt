use Rattle.std.proofs.Common.{◌≡◌, ℕ, List, drop, true, Option, Some, None, sym, ap, subst, ◌∙◌}
use Rattle.std.specs.FinMap.{from_entries}
use Rattle.std.specs.Option.{option_map}
use Rattle.std.specs.Prelude.{IfSome, is_some}
use Rattle.rig_trait.specs.Areas.{Areas}
use Rattle.rig_trait.specs.Crashed.{first_stopped, first_torn, made_of, moment_of}
use Rattle.rig_trait.specs.Kept.{Keeping, AllLieIn, kept_calls, kept_from}
use Rattle.rig_trait.specs.Memory.{Memory, areas_of}
use Rattle.rig_trait.specs.Records.{CrashRecord}
use Rattle.rig_trait.specs.Undone.{LeftBy, standing, whole}
use Rattle.rig_trait.proofs.Stopping.{crash_recorded, same_bytes}
use Rattle.rig_trait.proofs.memory.MemoryRig.crash.Goals as goal
use Rattle.rig_trait.proofs.memory.MemoryRig.crash.Goals.{After-drop-said-2}

pub crash-requires : goal.crash-requires
crash-requires c =
    let areas_are : areas_of c.in_ok-areas.areas ≡ areas_of c.self.inside.areas = ap from_entries (same_bytes c.self.inside.areas.entries c.in_ok-areas.areas.entries c.in_ok-areas.ensures.cases) in
    let lie = subst (λ (o : Option Keeping). AllLieIn (areas_of c.self.inside.areas) (kept_calls o)) c.in-Some.is c.self.invariant.kept in
    record { lie = subst (λ (a : Areas). AllLieIn a c.in-Some.keeping.kept) (sym areas_are) lie }

stands : (c : After-drop-said-2) → first_stopped (kept_from c.args.call (kept_calls c.args.self.now.keeping)) (standing c.args.self.now) c.args.torn.now
    ≡ Some (whole (areas_of c.crash.new.areas) c.crash.new.said.items)
stands c =
    let torn = c.args.torn.now in
    let areas_are : areas_of c.in_ok-areas.areas ≡ areas_of c.self.inside.areas = ap from_entries (same_bytes c.self.inside.areas.entries c.in_ok-areas.areas.entries c.in_ok-areas.ensures.cases) in
    let said_is : c.in_ok-said.said.items ≡ c.self.inside.said.items = c.in_ok-said.ensures.items ∙ c.deref.ensures.value in
    let kept_is : kept_calls c.args.self.now.keeping ≡ c.in-Some.keeping.kept = ap (λ (m : Memory). kept_calls m.keeping) (sym c.self.view_is) ∙ ap kept_calls c.in-Some.is in
    let now_is : standing c.args.self.now ≡ whole (areas_of c.in_ok-areas.areas) c.in_ok-said.said.items = ap standing (sym c.self.view_is) ∙ (λ i. whole (sym areas_are i) (sym said_is i)) in
    (λ i. first_stopped (kept_from c.args.call (kept_is i)) (now_is i) torn) ∙ rw c.if-not-branch.false at c.in_ok-crash.ensures

pub returns-clause-crashed : goal.returns-clause-crashed
returns-clause-crashed c =
    let said_is : c.in_ok-with_room.field-0.items ≡ c.crash.new.said.items = c.in_ok-with_room.ensures.items ∙ c.deref-2.ensures.value in
    (λ i. Some (record {
      areas = areas_of c.crash.new.areas;
      said = said_is i;
      room = (c.self.view_is i).room;
      listed = c.new.ensures.items i;
      calls = 0;
      counts = c.new-2.ensures i;
      keeping = None;
    }))
    ∙ sym (ap (option_map (made_of c.args.self.now.room)) (stands c))

pub returns-clause-left : goal.returns-clause-left
returns-clause-left c =
    let old = c.args.self.now in
    let calls = kept_calls old.keeping in
    let said_is : c.in_ok-with_room.field-0.items ≡ c.crash.new.said.items = c.in_ok-with_room.ensures.items ∙ c.deref-2.ensures.value in
    let told : is_some old.keeping ≡ true = ap (λ (m : Memory). is_some m.keeping) (sym c.self.view_is) ∙ ap is_some c.in-Some.is in
    let lie : AllLieIn old.areas calls = subst (λ (m : Memory). AllLieIn m.areas (kept_calls m.keeping)) c.self.view_is c.self.invariant.kept in
    let torn = first_torn (kept_from c.args.call calls) in
    let by = subst (λ (o : Option CrashRecord). IfSome o (λ given. LeftBy (drop (moment_of c.args.call calls) calls) (standing old) (record { areas = given.areas; said = given.said; torn = torn })))
    (stands c) (crash_recorded c.args.call calls (standing old) c.args.torn.now lie) in
    (told, subst (λ (s : List ℕ). LeftBy (drop (moment_of c.args.call calls) calls) (standing old) (record { areas = areas_of c.crash.new.areas; said = s; torn = torn })) (sym said_is) by)
