-- What refuses a change of the namespace that fits a key, by what is told of its region.
use Rattle.std.proofs.Common.{◌≡◌, ℕ, List, [], ◌∷◌, Option, Some, None, refl, sym, ap, ◌∙◌}
use Rattle.std.specs.Prelude.{is_none, option_map}
use Rattle.std.specs.Option.{option_and_then, option_or}
use Rattle.view_types.specs.declared.namespaces.Namespace.{Namespace}
use Rattle.view_types.specs.declared.refusal.Refusal.{Refusal}
use Rattle.view_types.specs.declared.refusal.Refusal.TheVariants.{UnknownRegion, Unusable}
use Rattle.cmd_words.specs.declared.name_keys.NameKey.{NameKey}
use Rattle.label_codec.specs.ModuleLabels.{Labels}
use Rattle.region_map.specs.declared.platform.Platform.{Platform}
use Rattle.region_map.specs.declared.platform.Region.{Region}
use Rattle.region_map.specs.Platforms.{region_at}
use Rattle.label_table.specs.Statuses.{RegionReady, status}
use Rattle.label_table.proofs.StatusLaws.{ready-parts}
use Rattle.region_labels.specs.Fates.{with_regions}
use Rattle.region_labels.specs.Statuses.{space_in}
use Rattle.label_sets.specs.Sets.{StoredSets, labels_in, platform_in}
use Rattle.label_sets.specs.Staging.{OfRegion}
use Rattle.table_steps.specs.Destroy.{destroy_refusals}
use Rattle.table_steps.specs.Namespaces.{ambiguous_in, fitting, read_only_in, unknown_in}
use Rattle.table_steps.specs.Refusals.{by_region, first_of, no_slots, no_slots_in, not_ready_by, refused_if, region_not_ready, unhealed_in}
use Rattle.table_steps.specs.Refusals.{unknown_region, unusable}
use Rattle.table_steps.specs.Rename.{name_taken_beside, name_taken_in, rename_refusals}
use Rattle.table_steps.proofs.AcceptedChanges.{HaveSpare, own-stands}
use Rattle.namespace_commands.specs.declared.refusals.Unanswered.{Unanswered}
use Rattle.namespace_commands.specs.declared.refusals.Unanswered.TheVariants as unanswereds
use Rattle.namespace_commands.specs.Keys.{CanChange, IsChosen, IsChosenIn, IsOnly, IsRefusedBy, key_refusals, keyed}
use Rattle.namespace_commands.specs.Lists.{IsStateOf, IsUnread}
use Rattle.namespace_commands.proofs.Firsts.{or_more}
use Rattle.namespace_commands.proofs.Fitting.{refused-not}

module _ (P : Platform) (L : Labels) (index : ℕ) (key : NameKey) where
  -- The first refusals are those of every command that asks for a Ready region.
  pub unread-keyed : (more : List (Option Refusal)) (why : Unanswered) → IsUnread P L index why → IsRefusedBy (first_of (keyed P L index key more)) why
  unread-keyed more (unanswereds.Refused refusal) is = or_more (unknown_region P index) (unusable P index) (region_not_ready P L index) _ refusal is
  unread-keyed more unanswereds.Memory is = tt

  module _ (r : Region) (known : region_at P index ≡ Some r) (ready : status L r ≡ RegionReady) (more : List (Option Refusal)) where
    abbrev fit : Option Refusal → Option Refusal
    fit rest = option_or (unknown_in L key r) (option_or (ambiguous_in L key r) (option_or (read_only_in L key r) rest))

    -- of a region that there is, and that is Ready
    known-keyed : first_of (keyed P L index key more) ≡ option_or (unhealed_in P L r) (fit (first_of more))
    known-keyed =
        let usable : r.rule ≡ None = (ready-parts L r ready).usable in
        (λ i. option_or (refused_if (is_none (known i)) (UnknownRegion index))
        (option_or (option_and_then (λ (q : Region). option_map Unusable q.rule) (known i))
        (option_or (option_and_then (λ (q : Region). not_ready_by (status L q)) (known i))
        (option_or (option_and_then (unhealed_in P L) (known i))
        (option_or (option_and_then (unknown_in L key) (known i))
        (option_or (option_and_then (ambiguous_in L key) (known i))
        (option_or (option_and_then (read_only_in L key) (known i)) (first_of more))))))))
        ∙ (λ i. option_or (option_map Unusable (usable i)) (option_or (not_ready_by (ready i)) (option_or (unhealed_in P L r) (fit (first_of more)))))

    pub unhealed-keyed : (refusal : Refusal) → unhealed_in P L r ≡ Some refusal → first_of (keyed P L index key more) ≡ Some refusal
    unhealed-keyed refusal is = known-keyed ∙ ap (λ o. option_or o (fit (first_of more))) is

    pub fitting-keyed : (refusal : Refusal) → unhealed_in P L r ≡ None → first_of (key_refusals L key r) ≡ Some refusal → first_of (keyed P L index key more) ≡ Some refusal
    fitting-keyed refusal none is =
        known-keyed ∙ ap (λ o. option_or o (fit (first_of more))) none
        ∙ or_more (unknown_in L key r) (ambiguous_in L key r) (read_only_in L key r) (first_of more) refusal is

    pub none-keyed : unhealed_in P L r ≡ None → (space : Namespace) → IsOnly L key space r → first_of (keyed P L index key more) ≡ first_of more
    none-keyed none space is =
        known-keyed ∙ ap (λ o. option_or o (fit (first_of more))) none
        ∙ or-not (unknown_in L key r) (ambiguous_in L key r) (read_only_in L key r) (first_of more) (refused-not L r (fitting L r key) space is.only is.writable)
      where
        or-not : (a b c more : Option Refusal) → option_or a (option_or b (option_or c None)) ≡ None → option_or a (option_or b (option_or c more)) ≡ more
        or-not (Some a) b c more is = absurd cc
        or-not None (Some b) c more is = absurd cc
        or-not None None (Some c) more is = absurd cc
        or-not None None None more is = refl

some-none : {A X : Type 0} (x : X) → Some x ≡ None → A
some-none x e = absurd cc

-- The region of a namespace that is chosen is there.
module _ (P : Platform) (L : Labels) (index : ℕ) (key : NameKey) (space : Namespace) (is : IsChosen P L index key space) where
  pub chosen-there : {A : Type 0} → region_at P index ≡ None → A
  chosen-there none = some-none (UnknownRegion index) (sym (ap (λ (o : Option Region). option_or (refused_if (is_none o) (UnknownRegion index)) (later o)) none) ∙ is.unrefused [])
    where
      later : Option Region → Option Refusal
      later o = option_or (option_and_then (λ (q : Region). option_map Unusable q.rule) o)
          (option_or (option_and_then (λ (q : Region). not_ready_by (status L q)) o)
          (option_or (option_and_then (unhealed_in P L) o)
          (option_or (option_and_then (unknown_in L key) o)
          (option_or (option_and_then (ambiguous_in L key) o)
          (option_or (option_and_then (read_only_in L key) o) None)))))

  -- what is told of that region
  pub of-chosen : (f : Region → Option Refusal) (told : Option Refusal) → ((r : Region) → region_at P index ≡ Some r → told ≡ f r) → by_region P index f ≡ told
  of-chosen f told all = by (region_at P index) refl
    where
      by : (o : Option Region) → region_at P index ≡ o → option_and_then f o ≡ told
      by None e = chosen-there e
      by (Some r) e = sym (all r e)

module _ (P : Platform) (sets : StoredSets) (state : IsStateOf P sets) (index : ℕ) where
  abbrev L : Labels
  L = labels_in sets

  -- what holds of the state's region holds of the platform's
  pub region-in : (r : Region) → region_at P index ≡ Some r → region_at (platform_in sets) index ≡ Some r
  region-in r known = ap (λ (rs : List Region). region_at (with_regions rs) index) state.regions ∙ known

  pub slots-told : (least : ℕ) (told : Option Refusal) → OfRegion sets index (λ r. told ≡ no_slots_in (platform_in sets) L least r) → (r : Region) → region_at P index ≡ Some r → told ≡ no_slots_in P L least r
  slots-told least told all r known = all r (region-in r known) ∙ ap (λ (rs : List Region). no_slots_in (with_regions rs) L least r) state.regions

  pub unhealed-told : (told : Option Refusal) → OfRegion sets index (λ r. told ≡ unhealed_in (platform_in sets) L r) → (r : Region) → region_at P index ≡ Some r → told ≡ unhealed_in P L r
  unhealed-told told all r known = all r (region-in r known) ∙ ap (λ (rs : List Region). unhealed_in (with_regions rs) L r) state.regions

  module _ (key : NameKey) (space : Namespace) (is : IsChosen P L index key space) where
    pub destroy-first : (short : Option Refusal) → OfRegion sets index (λ r. short ≡ no_slots_in (platform_in sets) L 1 r) → first_of (destroy_refusals P L index key) ≡ short
    destroy-first short all =
        is.unrefused (no_slots P L 1 index ∷ []) ∙ ap (λ o. option_or o None) (of-chosen P L index key space is (no_slots_in P L 1) short (slots-told 1 short all)) ∙ same short
      where
        same : (o : Option Refusal) → option_or o None ≡ o
        same None = refl
        same (Some refusal) = refl

    pub rename-first : (name : List ℕ) (taken short : Option Refusal) → OfRegion sets index (λ r. taken ≡ name_taken_beside L r name (space_in space ∷ [])) → OfRegion sets index (λ r. short ≡ no_slots_in (platform_in sets) L 1 r)
        → first_of (rename_refusals P L index key name) ≡ option_or taken short
    rename-first name taken short takes all =
        is.unrefused (by_region P index (name_taken_in L key name) ∷ no_slots P L 1 index ∷ [])
        ∙ (λ i. option_or (named i) (option_or (slots i) None)) ∙ ap (option_or taken) (same short)
      where
        same : (o : Option Refusal) → option_or o None ≡ o
        same None = refl
        same (Some refusal) = refl

        named : by_region P index (name_taken_in L key name) ≡ taken
        named = of-chosen P L index key space is (name_taken_in L key name) taken
            (λ r known. takes r (region-in r known) ∙ ap (name_taken_beside L r name) (sym (is.chosen r known).fits.only))

        slots : by_region P index (no_slots_in P L 1) ≡ short
        slots = of-chosen P L index key space is (no_slots_in P L 1) short (slots-told 1 short all)

-- So a namespace that is chosen can be changed, where each module has a spare slot.
pub can-change : (P : Platform) (L : Labels) (key : NameKey) (space : Namespace) (r : Region) → IsChosenIn P L key space r → HaveSpare P L 1 r → CanChange P L space r
can-change P L key space r is spares = record {
  ready = is.ready;
  healable = is.healable;
  stands = own-stands L r key (space_in space) is.fits.only;
  writable = is.fits.writable;
  spares = spares;
}
