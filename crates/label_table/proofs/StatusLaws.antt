-- What becomes of the status of each region when the table changes at one namespace, and what the table alone tells.
use Rattle.std.proofs.Common.{◌≡◌, ◌≢◌, ◌⊎◌, inl, inr, ℕ, ◌+◌, ◌≤◌, ◌<◌, true, false, not, ◌&&◌, cond, List, Option, Some, None, refl, sym, subst, ◌∙◌, arith}
use Rattle.std.specs.Prelude.{◌==◌, nat_lt, count_by}
use Rattle.std.specs.List.{Contains, list_any}
use Rattle.std.specs.Option.{option_map_or}
use Rattle.std.specs.Ordering.{is_lt}
use Rattle.std.specs.Str.{bytes_eq}
use Rattle.std.proofs.lemmas.Bool.{cases_lt}
use Rattle.view_types.specs.declared.rule.Rule.{Rule}
use Rattle.label_codec.specs.ModuleLabels.{Labels}
use Rattle.region_map.specs.declared.platform.Member.{Member}
use Rattle.region_map.specs.declared.platform.Region.{Region}
use Rattle.region_map.specs.declared.platform.Platform.{Platform}
use Rattle.label_table.specs.Belonging.{IsDisjoint}
use Rattle.region_map.specs.Platforms.{region_at}
use Rattle.label_table.specs.Division.{IsOpen, IsOwn, has_address, has_offset, is_common_free, namespaces_over, part_size}
use Rattle.label_table.specs.Namespaces.{first_clash, insert_space, namespaces, space_cmp, without_uuid}
use Rattle.label_table.specs.Spaces.{Space, space}
use Rattle.label_table.specs.Statuses.{RegionReady, first_not_ready, status, status_by, status_by_area, status_by_clash}
use Rattle.label_table.specs.Tables.{ChangesAt, space_at, table}
use Rattle.label_table.proofs.Clashes.{Meet, NoneOverlap, count_by-zero, first_clash-from_none, first_clash-none, has_offset-from, has_offset-is, meet-overlaps, none_empty, none_overlap-insert, none_overlap-without}
use Rattle.label_table.proofs.Equations.{space-of_table}
use Rattle.label_table.proofs.Listed.{namespaces-ascends, namespaces-same, namespaces-to, namespaces-with, namespaces-without, without_uuid-cases}
use Rattle.label_table.proofs.Order.{before-total, space-uuid}
use Rattle.label_table.proofs.ListTests.{both, eq_same, eq_true, never, some_is, uuid_other, uuid_same}

-- Tables that are equal tell the same of each region of the platform.
pub status-kept : (P : Platform) → IsDisjoint P → (L M : Labels) → table P M ≡ table P L → (q : Region) → Contains P.regions q → status M q ≡ status L q
status-kept P disjoint L M same q in_q =
    let spaces : namespaces M q ≡ namespaces L q = namespaces-same L M q (λ u. space-of_table P disjoint L M same q u in_q) in
    λ i. status_by (same i).kind (spaces i) q q.rule

pub namespaces-kept : (P : Platform) → IsDisjoint P → (L M : Labels) → table P M ≡ table P L → (q : Region) → Contains P.regions q → namespaces M q ≡ namespaces L q
namespaces-kept P disjoint L M same q in_q = namespaces-same L M q (λ u. space-of_table P disjoint L M same q u in_q)

pub common_free-kept : (P : Platform) → IsDisjoint P → (L M : Labels) → table P M ≡ table P L → (q : Region) → Contains P.regions q → is_common_free P M q ≡ is_common_free P L q
common_free-kept P disjoint L M same q in_q =
    let spaces : namespaces M q ≡ namespaces L q = namespaces-kept P disjoint L M same q in_q in
    λ i o. nat_lt o (part_size q) && (count_by (has_offset o) (spaces i) == 0 && not (list_any (λ (x : Member). nat_lt 0 ((same i).held x.handle (has_address (x.dpa_base + o)))) q.members))

-- A region is Ready where it can be used, all its areas are Ready, and no neighbours overlap.
pub record IsReadyRegion (L : Labels) (q : Region) : Type 0 where
  pub usable : q.rule ≡ None
  pub areas : first_not_ready (λ m. (L m).kind) q.members ≡ None
  pub calm : first_clash (namespaces L q) ≡ None

pub ready-parts : (L : Labels) (q : Region) → status L q ≡ RegionReady → IsReadyRegion L q
ready-parts L q e = by_rule q.rule refl e
  where
    by_clash : (o : Option (List ℕ × List ℕ)) → status_by_clash o ≡ RegionReady → o ≡ None
    by_clash None e = refl
    by_clash (Some clash) e = absurd cc

    by_area : (o : Option ℕ) → status_by_area (λ m. (L m).kind) (namespaces L q) o ≡ RegionReady → (o ≡ None) × (first_clash (namespaces L q) ≡ None)
    by_area (Some m) e = absurd cc
    by_area None e = (refl, by_clash (first_clash (namespaces L q)) e)

    by_rule : (o : Option Rule) → q.rule ≡ o → status_by (λ m. (L m).kind) (namespaces L q) q o ≡ RegionReady → IsReadyRegion L q
    by_rule (Some rule) is e = absurd cc
    by_rule None is e = let parts = by_area (first_not_ready (λ m. (L m).kind) q.members) e in record { usable = is; areas = parts.0; calm = parts.1 }

pub ready-from : (L : Labels) (q : Region) → IsReadyRegion L q → status L q ≡ RegionReady
ready-from L q ready =
    (λ i. status_by (λ m. (L m).kind) (namespaces L q) q (ready.usable i))
    ∙ (λ i. status_by_area (λ m. (L m).kind) (namespaces L q) (ready.areas i))
    ∙ (λ i. status_by_clash (ready.calm i))

module _ (P : Platform) (r : Region) (u : List ℕ) (new : Option Space) (L M : Labels) (c : ChangesAt P r u new L M) where
  read : (N : Labels) (q : Region) (v : List ℕ) → Contains P.regions q → space N q v ≡ space_at P N q.index v
  read N q v in_q = let found : region_at P q.index ≡ Some q = c.disjoint.indexes q in_q in sym (λ i. option_map_or (λ p. space N p v) (found i) None)

  pub space-new : space M r u ≡ new
  space-new =
      let here : (r.index == r.index) ≡ true = eq_same r.index r.index refl in
      let named : bytes_eq u u ≡ true = uuid_same u in
      read M r u c.region_in ∙ (λ i. c.spaces i r.index u) ∙ (λ i. cond (here i && named i) new (space_at P L r.index u))

  pub space-others : (v : List ℕ) → bytes_eq u v ≡ false → space M r v ≡ space L r v
  space-others v n =
      let here : (r.index == r.index) ≡ true = eq_same r.index r.index refl in
      read M r v c.region_in ∙ (λ i. c.spaces i r.index v) ∙ (λ i. cond (here i && n i) new (space_at P L r.index v)) ∙ sym (read L r v c.region_in)

  pub space-elsewhere : (q : Region) (v : List ℕ) → Contains P.regions q → q ≢ r → space M q v ≡ space L q v
  space-elsewhere q v in_q other =
      let away : (r.index == q.index) ≡ false = elim (both (r.index == q.index)) [
        | inr n ↦ n
        | inl t ↦ absurd (other (some_is (sym (c.disjoint.indexes q in_q) ∙ (λ i. region_at P (sym (eq_true r.index q.index t) i)) ∙ c.disjoint.indexes r c.region_in)))
      ] in
      read M q v in_q ∙ (λ i. c.spaces i q.index v) ∙ (λ i. cond (away i && bytes_eq u v) new (space_at P L q.index v)) ∙ sym (read L q v in_q)

  -- the other regions have their status
  pub status-elsewhere : (q : Region) → Contains P.regions q → q ≢ r → status M q ≡ status L q
  status-elsewhere q in_q other =
      let spaces : namespaces M q ≡ namespaces L q = namespaces-same L M q (λ v. space-elsewhere q v in_q other) in
      λ i. status_by (c.kinds i) (spaces i) q q.rule

  ready_calm : status L r ≡ RegionReady → NoneOverlap (namespaces M r) → status M r ≡ RegionReady
  ready_calm ready none =
      let parts : IsReadyRegion L r = ready-parts L r ready in
      let areas : first_not_ready (λ m. (M m).kind) r.members ≡ None = (λ i. first_not_ready (c.kinds i) r.members) ∙ parts.areas in
      ready-from M r (record { usable = parts.usable; areas = areas; calm = first_clash-from_none (namespaces M r) (namespaces-ascends M r) none })

  was_calm : status L r ≡ RegionReady → NoneOverlap (namespaces L r)
  was_calm ready = first_clash-none (namespaces L r) (namespaces-ascends L r) (none_empty L r) (ready-parts L r ready).calm

-- A region that loses a namespace stays Ready.
pub ready-without : (P : Platform) (r : Region) (u : List ℕ) (L M : Labels) → ChangesAt P r u None L M → status L r ≡ RegionReady → status M r ≡ RegionReady
ready-without P r u L M c ready =
    let list : namespaces M r ≡ without_uuid u (namespaces L r) = namespaces-without L M r u (space-new P r u None L M c) (space-others P r u None L M c) in
    ready_calm P r u None L M c ready (subst (λ xs. NoneOverlap xs) (sym list) (none_overlap-without u (namespaces L r) (was_calm P r u None L M c ready)))

-- So does one in which a namespace comes to an open range.
pub ready-with : (P : Platform) (r : Region) (s : Space) (L M : Labels) → ChangesAt P r s.uuid (Some s) L M → 0 < s.length → IsOpen L r s → status L r ≡ RegionReady → status M r ≡ RegionReady
ready-with P r s L M c some open_range ready =
    let list : namespaces M r ≡ insert_space s (without_uuid s.uuid (namespaces L r)) = namespaces-with L M r s (space-new P r s.uuid (Some s) L M c) (space-others P r s.uuid (Some s) L M c) in
    ready_calm P r s.uuid (Some s) L M c ready (subst (λ xs. NoneOverlap xs) (sym list) (none_overlap-insert s (without_uuid s.uuid (namespaces L r)) (none_overlap-without s.uuid (namespaces L r) none) misses))
  where
    none : NoneOverlap (namespaces L r)
    none = was_calm P r s.uuid (Some s) L M c ready

    misses : (t : Space) → Contains (without_uuid s.uuid (namespaces L r)) t → Meet s t → ⊥
    misses t t_in m = by (cases_lt s.offset t.offset)
      where
        old : Contains (namespaces L r) t × (bytes_eq s.uuid t.uuid ≡ false)
        old = without_uuid-cases s.uuid (namespaces L r) t t_in

        t_some : 0 < t.length
        t_some = none_empty L r t old.0

        at : (o : ℕ) → has_offset o t ≡ true → (namespaces_over L r o ≡ 0) ⊎ IsOwn L r s.uuid o → ⊥
        at o here (inl zero_over) = never (has_offset o t) here (count_by-zero (has_offset o) (namespaces L r) zero_over t old.0)
        at o here (inr own) = meets (both (is_lt (space_cmp own.own t)))
          where
            own_in : Contains (namespaces L r) own.own
            own_in = namespaces-to L r s.uuid own.own own.is

            differ : t.uuid ≢ own.own.uuid
            differ e = uuid_other s.uuid t.uuid old.1 (e ∙ space-uuid L r s.uuid own.own own.is)

            a_own : (own.own.offset ≤ o) × (o < own.own.offset + own.own.length)
            a_own = has_offset-is o own.own own.here

            a_t : (t.offset ≤ o) × (o < t.offset + t.length)
            a_t = has_offset-is o t here

            meets : (is_lt (space_cmp own.own t) ≡ true) ⊎ (is_lt (space_cmp own.own t) ≡ false) → ⊥
            meets (inl before) = meet-overlaps own.own t (none own.own t own_in old.0 before) (record { starts = omega (arith, a_own.0, a_t.1); ends = omega (arith, a_own.1, a_t.0) })
            meets (inr after) = meet-overlaps t own.own (none t own.own old.0 own_in (before-total own.own t differ after)) (record { starts = omega (arith, a_t.0, a_own.1); ends = omega (arith, a_t.1, a_own.0) })

        by : (s.offset < t.offset) ⊎ (t.offset ≤ s.offset) → ⊥
        by (inl lt) = let e = m.ends in let n = t_some in at t.offset (has_offset-from t.offset t (omega arith) (omega arith)) (open_range t.offset (omega arith) e)
        by (inr le) = let b = m.starts in let n = some in at s.offset (has_offset-from s.offset t le b) (open_range s.offset (omega arith) (omega arith))
