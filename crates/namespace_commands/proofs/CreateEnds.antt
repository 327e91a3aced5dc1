-- The answers of a create.
use Rattle.std.proofs.Common.{◌≡◌, ℕ, Option, Some, None, refl, sym, subst, ◌∙◌}
use Rattle.std.specs.Prelude.{◌==◌, Result, Ok, Err, IfErr}
use Rattle.view_types.specs.declared.refusal.Refusal.{Refusal}
use Rattle.view_types.specs.declared.refusal.Refusal.TheVariants.{UnknownRegion}
use Rattle.view_types.specs.declared.reply.Reply.{Reply}
use Rattle.view_types.specs.declared.reply.Reply.TheVariants.{Refused}
use Rattle.label_codec.specs.ModuleLabels.{Labels}
use Rattle.region_map.specs.declared.platform.Platform.{Platform}
use Rattle.region_map.specs.declared.platform.Region.{Region}
use Rattle.region_map.specs.Platforms.{region_at}
use Rattle.label_table.specs.Tables.{State, state}
use Rattle.label_table.proofs.ListTests.{eq_true, find-some}
use Rattle.label_sets.specs.Sets.{StoredSets, labels_in}
use Rattle.table_steps.specs.declared.new_namespace.NewNamespace.{NewNamespace}
use Rattle.table_steps.specs.Changes.{IsDoneBy}
use Rattle.table_steps.specs.Create.{Creates, IsCreated}
use Rattle.namespace_commands.specs.declared.creation.ChangeFault.{ChangeFault}
use Rattle.namespace_commands.specs.declared.creation.ChangeFault.TheVariants as faults
use Rattle.view_types.specs.Replies.{WhereRefused}
use Rattle.namespace_commands.specs.Create.{IsCreateRefusal, WhereMemory}
use Rattle.namespace_commands.specs.Lists.{IsStateOf}
use Rattle.namespace_commands.proofs.AcceptedCreates.{HasFree, has-free, some-free}
use Rattle.namespace_commands.proofs.Refused.{no-region}

-- the region that is found has the index
pub own-index : (P : Platform) (index : ℕ) (r : Region) → region_at P index ≡ Some r → region_at P r.index ≡ Some r
own-index P index r known = subst (λ i. region_at P i ≡ Some r) (sym (eq_true r.index index (find-some (λ (q : Region). q.index == index) P.regions r known).1)) known

pub creates-refused : (P : Platform) (L : Labels) (a : NewNamespace) (refusal : Refusal) (after : State) → IsCreateRefusal P L a (Some refusal) → after ≡ state P L → Creates P L a (Refused refusal) after
creates-refused P L a refusal after refused same =
    let some = some-free P L a in
    record {
      free = some.0;
      free_are = some.1;
      is_done = subst (λ (o : Option Refusal). IsDoneBy o (state P L) (IsCreated P L a) (Refused refusal) after) (sym (refused some.0 some.1)) (refl, same);
    }

pub creates-accepted : (P : Platform) (L : Labels) (a : NewNamespace) (r : Region) → region_at P a.region ≡ Some r → IsCreateRefusal P L a None → (reply : Reply) (after : State) → IsCreated P L a reply after → Creates P L a reply after
creates-accepted P L a r known refused reply after is =
    let here : HasFree P L a r = has-free P L a r known refused in
    record {
      free = here.free;
      free_are = here.free_are;
      is_done = subst (λ (o : Option Refusal). IsDoneBy o (state P L) (IsCreated P L a) reply after) (sym here.none) is;
    }

-- it is no refusal
pub unrefused-reply : (P : Platform) (L : Labels) (a : NewNamespace) (fact : Type 0) (reply : Reply) (after : State) → IsCreated P L a reply after → WhereRefused fact reply
unrefused-reply P L a fact reply after is = subst (WhereRefused fact) (sym is.reply_is) tt

pub not-memory : {T : Type 0} (fact : Type 0) (result : Result T ChangeFault) → IfErr result (WhereMemory ⊥) → IfErr result (WhereMemory fact)
not-memory fact (Ok value) is = tt
not-memory fact (Err (faults.Area dimm)) is = tt
not-memory fact (Err faults.Memory) is = absurd is

some-none : {A X : Type 0} (x : X) → Some x ≡ None → A
some-none x e = absurd cc

pub region-there : {A : Type 0} (P : Platform) (sets : StoredSets) → IsStateOf P sets → (a : NewNamespace) → IsCreateRefusal P (labels_in sets) a None → region_at P a.region ≡ None → A
region-there P sets state a refused none =
    let some = some-free P (labels_in sets) a in
    some-none (UnknownRegion a.region) (sym (no-region P sets state a none some.0 some.1) ∙ refused some.0 some.1)
