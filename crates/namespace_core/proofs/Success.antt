-- A create is accepted where none of the conditions on it fails.
use Rattle.std.proofs.Common.{◌≡◌, ◌⊎◌, inl, inr, ℕ, ◌<◌, ◌≤◌, Bool, true, false, cond, List, [], ◌∷◌, Option, Some, None, Result, Ok, Err, find, not, refl, sym, ap, subst, arith, ◌∙◌, ◌||◌}
use Rattle.std.specs.Prelude.{◌==◌, ◌%◌, IfOk, is_none, nat_lt, if◌then◌else◌}
use Rattle.std.specs.List.{Contains}
use Rattle.std.specs.Option.{option_map, option_or}
use Rattle.view_types.specs.declared.extents.Extent.{Extent}
use Rattle.view_types.specs.declared.refusal.Refusal.{Refusal}
use Rattle.view_types.specs.declared.refusal.Refusal.TheVariants as refusals
use Rattle.view_types.specs.declared.reply.Reply.{Reply}
use Rattle.label_codec.specs.ModuleLabels.{Labels}
use Rattle.region_map.specs.declared.platform.Member.{Member}
use Rattle.region_map.specs.declared.platform.Platform.{Platform}
use Rattle.region_map.specs.declared.platform.Region.{Region}
use Rattle.region_map.specs.Platforms.{region_at}
use Rattle.label_table.specs.Division.{AreFreeExtents, largest}
use Rattle.label_table.specs.Fates.{spare}
use Rattle.label_table.specs.Namespaces.{namespaces}
use Rattle.label_table.specs.Spaces.{Space}
use Rattle.label_table.specs.Statuses.{RegionReady, RegionStatus, status}
use Rattle.label_table.specs.Tables.{State, state}
use Rattle.label_table.proofs.ListTests.{Contains-here, Contains-there, eq_other, eq_same, lt_not}
use Rattle.label_table.proofs.StatusLaws.{ready-parts}
use Rattle.table_steps.specs.declared.new_namespace.NewNamespace.{NewNamespace}
use Rattle.table_steps.specs.Changes.{IsDoneBy}
use Rattle.table_steps.specs.Create.{AreFreeOf, AreFreeWhere, Creates, IsCreated, bad_size_in, create_refusals, is_named, is_unnamed, keeps_uuid, name_in_use_in, no_space_in, size_unit, uuid_in_use}
use Rattle.table_steps.specs.Refusals.{any_pending, first_below, first_of, no_slots_in, not_ready_by, refused_if, unhealed_in}
use Rattle.table_steps.proofs.KnownRegions.{known-region}
use Rattle.cmd_words.specs.declared.parts.Part.{Part}
use Rattle.cmd_words.specs.declared.parts.Part.TheVariants.{Change}
use Rattle.cmd_words.specs.declared.parts.Change.TheVariants.{Create}
use Rattle.namespace_core.specs.Commands.{Does, SaysIfKnown}
use Rattle.namespace_core.specs.Success.{CanCreate, HasCreated, IsOpenFor}

never-found : {X : Type 0} (p : X → Bool) (xs : List X) → ((x : X) → Contains xs x → p x ≡ false) → find p xs ≡ None
never-found p [] never = refl
never-found p (x ∷ xs) never = (λ i. cond (never x (Contains-here x xs) i) (Some x) (find p xs)) ∙ never-found p xs (λ y there. never y (Contains-there x xs y there))

module _ (P : Platform) (L : Labels) (a : NewNamespace) (is : IsOpenFor P L a) where
  abbrev r : Region
  r = is.region

  none-below : (least : ℕ) → least ≤ 2 → first_below P L least r ≡ None
  none-below least le = never-found (λ (member : Member). nat_lt (spare P L member.handle) least) r.members
      (λ member there. lt_not (spare P L member.handle) least (let two : 2 ≤ spare P L member.handle = is.spares member there in omega (arith, le, two)))

  usable : option_map refusals.Unusable r.rule ≡ None
  usable = ap (option_map refusals.Unusable) (ready-parts L r is.ready).usable

  ready : not_ready_by (status L r) ≡ None
  ready = ap not_ready_by is.ready

  healed : unhealed_in P L r ≡ None
  healed = by (any_pending L r)
    where
      by : (b : Bool) → (if b then option_map (λ (member : Member). refusals.Unhealed member.handle) (first_below P L 1 r) else None) ≡ None
      by true = ap (option_map (λ (member : Member). refusals.Unhealed member.handle)) (none-below 1 (omega arith))
      by false = refl

  sized : bad_size_in a.size r ≡ None
  sized =
      let some : (a.size == 0) ≡ false = eq_other a.size 0 (λ zero. let positive = is.some in omega (arith, zero, positive)) in
      let whole : (a.size % size_unit r == 0) ≡ true = eq_same (a.size % size_unit r) 0 is.whole in
      λ i. refused_if (some i || not (whole i)) (refusals.BadSize (size_unit r))

  named : name_in_use_in L a.name r ≡ None
  named = elim is.named [
    | inl empty ↦ (λ i. if empty i then None else option_map (λ (space : Space). refusals.NameInUse space.uuid) (find (is_named a.name) (namespaces L r)))
    | inr other ↦ by (is_unnamed a.name) (never-found (is_named a.name) (namespaces L r) other)
  ]
    where
      by : (b : Bool) → find (is_named a.name) (namespaces L r) ≡ None
          → (if b then None else option_map (λ (space : Space). refusals.NameInUse space.uuid) (find (is_named a.name) (namespaces L r))) ≡ None
      by true none = refl
      by false none = ap (option_map (λ (space : Space). refusals.NameInUse space.uuid)) none

  fresh : uuid_in_use P L a.uuid ≡ None
  fresh = ap (option_map refusals.UuidInUse) (never-found (keeps_uuid P L a.uuid) P.modules is.fresh)

  spared : no_slots_in P L 2 r ≡ None
  spared = ap (option_map (λ (member : Member). refusals.NoSlots member.handle (spare P L member.handle))) (none-below 2 (omega arith))

  module _ (free : List Extent) (are : AreFreeOf P L (region_at P a.region) free) where
    here : AreFreeExtents P L r free
    here = subst (λ (s : RegionStatus). AreFreeWhere s P L r free) is.ready (subst (λ (o : Option Region). AreFreeOf P L o free) is.found are)

    large : no_space_in free a.size r ≡ None
    large = let no_more : nat_lt (largest r free) a.size ≡ false = lt_not (largest r free) a.size (is.large free here) in λ i. refused_if (no_more i) (refusals.NoSpace (largest r free))

    -- nothing refuses it
    unrefused : first_of (create_refusals P L free a) ≡ None
    unrefused = ap first_of (known-region P L free a r is.found)
        ∙ (λ i. option_or None (option_or (usable i) (option_or (ready i) (option_or (healed i) (option_or (sized i) (option_or (named i)
        (option_or (fresh i) (option_or (large i) (option_or (spared i) None)))))))))

  is-created : (reply : Reply) (after : State) (o : Option Refusal) → o ≡ None → IsDoneBy o (state P L) (IsCreated P L a) reply after → HasCreated reply
  is-created reply after (Some refusal) none done = absurd (let e : Some refusal ≡ None = none in cc)
  is-created reply after None none done = subst HasCreated (sym done.reply_is) tt

  pub open-created : (reply : Reply) (after : State) → Creates P L a reply after → HasCreated reply
  open-created reply after creates = is-created reply after (first_of (create_refusals P L creates.free a)) (unrefused creates.free creates.free_are) creates.is_done

-- a create for which there is room makes its namespace
pub can-create : {E : Type 0} (P : Platform) (slots : ℕ → ℕ) (L : Labels) (part : Part) (own : List ℕ) (after : State) (known : Type 0) (result : Result Reply E)
    → IfOk result (λ reply. SaysIfKnown P part known (Does P slots L part own reply after)) → CanCreate P L part own → IfOk result HasCreated
can-create P slots L (Change (Create region size name abstraction sector uuid)) own after known (Ok reply) step can = open-created P L _ can reply after step
can-create P slots L (Change (Create region size name abstraction sector uuid)) own after known (Err fault) step can = tt
can-create P slots L _ own after known result step can = absurd can
