-- What holds where nothing refuses a destroy or a rename.
use Rattle.std.proofs.Common.{◌≡◌, ◌⊎◌, inl, inr, ℕ, ◌≤◌, ◌<◌, Bool, true, false, not, List, [], ◌∷◌, Option, Some, None, length, find, refl, sym, ap, subst, ◌∙◌, arith}
use Rattle.std.specs.Prelude.{if◌then◌else◌, is_none, nat_lt, option_map}
use Rattle.std.specs.List.{Contains}
use Rattle.std.specs.Str.{bytes_eq}
use Rattle.std.proofs.lemmas.Bool.{and_from, cases_lt}
use Rattle.view_types.specs.declared.refusal.Refusal.TheVariants as refusals
use Rattle.view_types.specs.declared.refusal.Refusal.TheVariants.{Ambiguous, NameInUse, NoSlots, ReadOnly, UnknownRegion}
use Rattle.cmd_words.specs.declared.name_keys.NameKey.{NameKey}
use Rattle.label_codec.specs.ModuleLabels.{Labels}
use Rattle.region_map.specs.declared.platform.Member.{Member}
use Rattle.region_map.specs.declared.platform.Platform.{Platform}
use Rattle.region_map.specs.declared.platform.Region.{Region}
use Rattle.region_map.specs.Platforms.{region_at}
use Rattle.label_table.specs.Fates.{spare}
use Rattle.label_table.specs.Namespaces.{namespaces}
use Rattle.label_table.specs.Spaces.{Space, space}
use Rattle.label_table.specs.Statuses.{RegionReady, status}
use Rattle.label_table.specs.Wholes.{any_read_only, is_whole, labels_with}
use Rattle.label_table.proofs.Listed.{namespaces-from, space-whole}
use Rattle.label_table.proofs.ListTests.{Contains-here, both, lt_from, never, some_is, uuid_is}
use Rattle.label_table.proofs.WholeUuids.{IsLed, whole-led}
use Rattle.table_steps.specs.Create.{is_named, is_unnamed}
use Rattle.table_steps.specs.Destroy.{destroy_refusals, destroy_refusals_in}
use Rattle.table_steps.specs.Namespaces.{IsOneToChange, ambiguous_among, ambiguous_in, fits, fitting, read_only_among, read_only_in, unknown_among, unknown_in}
use Rattle.table_steps.specs.Refusals.{first_below, first_of, no_slots_in, not_ready_by, refused_if}
use Rattle.table_steps.specs.Rename.{is_other_named, name_taken_beside, rename_refusals, rename_refusals_in}
use Rattle.table_steps.proofs.Accepted.{ready-unless}
use Rattle.table_steps.proofs.KnownRegions.{known-destroy, known-rename}
use Rattle.table_steps.proofs.Lists.{AreNone, filter-from, filter-only, find-none, first-none, map-none, unapplied}

-- There is a region with an index that is no refusal.
pub known : (P : Platform) (index : ℕ) → refused_if (is_none (region_at P index)) (UnknownRegion index) ≡ None → (r : Region) × (region_at P index ≡ Some r)
known P index none = by (region_at P index) refl
  where
    by : (o : Option Region) → region_at P index ≡ o → (r : Region) × (o ≡ Some r)
    by (Some r) is = (r, refl)
    by None is = absurd (let yes : refused_if (is_none (region_at P index)) (UnknownRegion index) ≡ Some (UnknownRegion index) = λ i. refused_if (is_none (is i)) (UnknownRegion index) in cc)

-- each module of the region has so many spare slots
abbrev pub HaveSpare : Platform → Labels → ℕ → Region → Type 0
HaveSpare P L least r = (x : Member) → Contains r.members x → least ≤ spare P L x.handle

pub have-spare : (P : Platform) (L : Labels) (least : ℕ) (r : Region) → no_slots_in P L least r ≡ None → HaveSpare P L least r
have-spare P L least r none x in_r = by (cases_lt (spare P L x.handle) least)
  where
    enough : nat_lt (spare P L x.handle) least ≡ false
    enough = find-none (λ (y : Member). nat_lt (spare P L y.handle) least) r.members (map-none (λ (y : Member). NoSlots y.handle (spare P L y.handle)) (first_below P L least r) none) x in_r

    by : (spare P L x.handle < least) ⊎ (least ≤ spare P L x.handle) → least ≤ spare P L x.handle
    by (inl lt) = never (nat_lt (spare P L x.handle) least) (lt_from (spare P L x.handle) least lt) enough
    by (inr le) = le

-- The one namespace that fits a key.
module _ (L : Labels) (r : Region) (key : NameKey) (own : Space) (only : fitting L r key ≡ own ∷ []) where
  own-found : Contains (namespaces L r) own × (fits key own ≡ true)
  own-found = filter-from (fits key) (namespaces L r) own (subst (λ spaces. Contains spaces own) (sym only) (Contains-here own []))

  pub own-listed : Contains (namespaces L r) own
  own-listed = own-found.0

  pub own-fits : fits key own ≡ true
  own-fits = own-found.1

  pub own-stands : space L r own.uuid ≡ Some own
  own-stands = namespaces-from L r own own-listed

  pub own-whole : is_whole L r own.uuid ≡ true
  own-whole = space-whole L r own.uuid own own-stands

  pub own-alone : (t : Space) → Contains (namespaces L r) t → fits key t ≡ true → t ≡ own
  own-alone t in_r fit = filter-only (fits key) (namespaces L r) own only t in_r fit

  pub own-writable : own.read_only ≡ false → any_read_only r (labels_with own.uuid L) ≡ false
  own-writable writable =
      let led : IsLed r (labels_with own.uuid L) = whole-led r (labels_with own.uuid L) own-whole in
      ap (λ (t : Space). t.read_only) (some_is (sym led.space_is ∙ own-stands)) ∙ writable

one-fits : (L : Labels) (r : Region) (key : NameKey) → unknown_in L key r ≡ None → ambiguous_in L key r ≡ None → read_only_in L key r ≡ None → (own : Space) × IsOneToChange L r key own
one-fits L r key some few writable = by (fitting L r key) refl some few writable
  where
    by : (spaces : List Space) → fitting L r key ≡ spaces → unknown_among spaces ≡ None → ambiguous_among spaces ≡ None → read_only_among spaces ≡ None → (own : Space) × IsOneToChange L r key own
    by [] is some few writable = absurd cc
    by (own ∷ []) is some few writable =
        let may_change : own.read_only ≡ false = unapplied own.read_only (ReadOnly own.uuid) writable in (
          own,
          record {
            only = is;
            stands = own-stands L r key own is;
            whole = own-whole L r key own is;
            writable = may_change;
            none_read_only = own-writable L r key own is may_change;
          },
        )
    by (own ∷ other ∷ rest) is some few writable =
        never (nat_lt 1 (length (own ∷ other ∷ rest))) (lt_from 1 (length (own ∷ other ∷ rest)) (omega arith))
        (unapplied (nat_lt 1 (length (own ∷ other ∷ rest))) (Ambiguous (length (own ∷ other ∷ rest))) few)

pub record IsUnrefusedChange (P : Platform) (L : Labels) (key : NameKey) (r : Region) : Type 0 where
  pub ready : status L r ≡ RegionReady
  pub own : Space
  pub one : IsOneToChange L r key own
  pub spares : HaveSpare P L 1 r

unrefused-change : (P : Platform) (L : Labels) (key : NameKey) (r : Region) → option_map refusals.Unusable r.rule ≡ None → not_ready_by (status L r) ≡ None → unknown_in L key r ≡ None → ambiguous_in L key r ≡ None → read_only_in L key r ≡ None → no_slots_in P L 1 r ≡ None → IsUnrefusedChange P L key r
unrefused-change P L key r usable ready some few writable slots =
    let found = one-fits L r key some few writable in
    record {
      ready = ready-unless L r (map-none refusals.Unusable r.rule usable) ready;
      own = found.0;
      one = found.1;
      spares = have-spare P L 1 r slots;
    }

pub unrefused-destroy : (P : Platform) (L : Labels) (index : ℕ) (key : NameKey) (r : Region) → region_at P index ≡ Some r → first_of (destroy_refusals P L index key) ≡ None → IsUnrefusedChange P L key r
unrefused-destroy P L index key r found none = unrefused-change P L key r all.1.0 all.1.1.0 all.1.1.1.1.0 all.1.1.1.1.1.0 all.1.1.1.1.1.1.0 all.1.1.1.1.1.1.1.0
  where
    all : AreNone (destroy_refusals_in P L key r)
    all = first-none (destroy_refusals_in P L key r) (sym (ap first_of (known-destroy P L index key r found)) ∙ none)

-- A name is free for a namespace where it is empty, or no other namespace of the region has it.
abbrev pub IsFreeName : Labels → Region → List ℕ → Space → Type 0
IsFreeName L r name own = (is_unnamed name ≡ true) ⊎ ((t : Space) → Contains (namespaces L r) t → is_named name t ≡ true → t.uuid ≡ own.uuid)

free-name : (L : Labels) (r : Region) (name : List ℕ) (own : Space) → name_taken_beside L r name (own ∷ []) ≡ None → IsFreeName L r name own
free-name L r name own none = by (is_unnamed name) refl none
  where
    by : (b : Bool) → is_unnamed name ≡ b → (if b then None else option_map (λ (t : Space). NameInUse t.uuid) (find (is_other_named name own.uuid) (namespaces L r))) ≡ None → IsFreeName L r name own
    by true is none = inl is
    by false is none = inr (λ t in_r named. elim (both (bytes_eq own.uuid t.uuid)) [
      | inl same ↦ sym (uuid_is own.uuid t.uuid same)
      | inr differ ↦ never (is_other_named name own.uuid t) (and_from (is_named name t) (not (bytes_eq own.uuid t.uuid)) named (ap not differ))
          (find-none (is_other_named name own.uuid) (namespaces L r) (map-none (λ (s : Space). NameInUse s.uuid) (find (is_other_named name own.uuid) (namespaces L r)) none) t in_r)
    ])

pub record IsUnrefusedRename (P : Platform) (L : Labels) (key : NameKey) (name : List ℕ) (r : Region) : Type 0 where
  pub change : IsUnrefusedChange P L key r
  pub free_name : IsFreeName L r name change.own

pub unrefused-rename : (P : Platform) (L : Labels) (index : ℕ) (key : NameKey) (name : List ℕ) (r : Region) → region_at P index ≡ Some r → first_of (rename_refusals P L index key name) ≡ None → IsUnrefusedRename P L key name r
unrefused-rename P L index key name r found none = record {
  change = change;
  free_name = free-name L r name change.own (sym (ap (name_taken_beside L r name) change.one.only) ∙ all.1.1.1.1.1.1.1.0);
}
  where
    all : AreNone (rename_refusals_in P L key name r)
    all = first-none (rename_refusals_in P L key name r) (sym (ap first_of (known-rename P L index key r found name)) ∙ none)

    change : IsUnrefusedChange P L key r
    change = unrefused-change P L key r all.1.0 all.1.1.0 all.1.1.1.1.0 all.1.1.1.1.1.0 all.1.1.1.1.1.1.0 all.1.1.1.1.1.1.1.1.0
