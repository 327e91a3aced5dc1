-- What an accepted destroy does.
use Rattle.std.proofs.Common.{◌≡◌, ◌≢◌, ◌⊎◌, inl, inr, ℕ, ◌+◌, ◌≤◌, ◌<◌, true, false, not, ◌&&◌, cond, List, [], ◌∷◌, Some, None, refl, ap, subst, ◌∙◌, arith}
use Rattle.std.specs.Prelude.{◌==◌, count_by, nat_lt}
use Rattle.std.specs.List.{Contains, list_any}
use Rattle.std.specs.Ordering.{is_lt}
use Rattle.std.specs.Str.{bytes_eq}
use Rattle.std.proofs.lemmas.Bool.{and_parts}
use Rattle.std.proofs.lemmas.List.Sums.{sum_by-cons}
use Rattle.view_types.specs.declared.reply.Reply.{Reply}
use Rattle.cmd_words.specs.declared.name_keys.NameKey.{NameKey}
use Rattle.label_codec.specs.ModuleLabels.{Labels}
use Rattle.region_map.specs.declared.platform.Member.{Member}
use Rattle.region_map.specs.declared.platform.Platform.{Platform}
use Rattle.region_map.specs.declared.platform.Region.{Region}
use Rattle.label_table.specs.Belonging.{IsDisjoint}
use Rattle.label_table.specs.Division.{has_address, has_offset, is_common_free, is_held_at, namespaces_over, part_size}
use Rattle.label_table.specs.Fates.{spare}
use Rattle.label_table.specs.Namespaces.{namespaces, space_cmp, without_uuid}
use Rattle.label_table.specs.Spaces.{Space, space}
use Rattle.label_table.specs.Statuses.{RegionReady, status}
use Rattle.label_table.specs.Tables.{ChangesAt, State, changed_at, is_member, pending_at, state, table, without_namespace, without_space}
use Rattle.label_table.proofs.Clashes.{NoneOverlap, count_by-zero, first_clash-none, has_offset-is, meet-overlaps, none_empty}
use Rattle.label_table.proofs.Equations.{slot_of-member, slot_of-other}
use Rattle.label_table.proofs.Listed.{namespaces-ascends, namespaces-without, space-within, without_uuid-cases}
use Rattle.label_table.proofs.ListTests.{Contains-here, Contains-there, both, eq_same, eq_true, find-some, lt_from, lt_true, not_true, uuid_other}
use Rattle.label_table.proofs.Order.{before-total}
use Rattle.label_table.proofs.StatusLaws.{ready-parts, ready-without, space-new, space-others, status-elsewhere}
use Rattle.table_steps.specs.Destroy.{IsDestroyed, with_destroyed}
use Rattle.table_steps.specs.Namespaces.{HasDistinctNames}
use Rattle.table_steps.proofs.AcceptedChanges.{own-listed, own-stands}
use Rattle.table_steps.proofs.Marks.{marked-is, marks-cleared, marks-elsewhere}

-- The state behind a destroy, by what it shows.
pub destroyed-is : (r : Region) (u : List ℕ) (before after : State) → after.table ≡ (without_namespace r u before).table
    → ((v : List ℕ) → after.pending r.index v ≡ false) → ((i : ℕ) (v : List ℕ) → i ≢ r.index → after.pending i v ≡ before.pending i v) → after ≡ with_destroyed r u before
destroyed-is r u before after tables cleared others = marked-is r u false (without_namespace r u before).table before after tables cleared others

-- An offset that none of some namespaces has
pub none-over : (o : ℕ) (xs : List Space) → ((t : Space) → Contains xs t → has_offset o t ≡ false) → count_by (has_offset o) xs ≡ 0
none-over o [] none = refl
none-over o (x ∷ xs) none =
    let here : has_offset o x ≡ false = none x (Contains-here x xs) in
    let rest : count_by (has_offset o) xs ≡ 0 = none-over o xs (λ t t_in. none t (Contains-there x xs t t_in)) in
    sum_by-cons (λ y. cond (has_offset o y) 1 0) x xs ∙ (λ i. cond {A = ℕ} (here i) 1 0 + rest i)

module _ (P : Platform) (L : Labels) (index : ℕ) (key : NameKey) (reply : Reply) (after : State) (d : IsDestroyed P L index key reply after) where
  abbrev r : Region
  r = d.region

  abbrev own : Space
  own = d.space

  in_P : Contains P.regions r
  in_P = (find-some (λ (q : Region). q.index == index) P.regions r d.found).0

  pub spaces : after.table.space ≡ changed_at r own.uuid None (table P L).space
  spaces = ap (λ (s : State). s.table.space) d.after_is

  pub kinds : after.table.kind ≡ (table P L).kind
  kinds = ap (λ (s : State). s.table.kind) d.after_is

  pub helds : after.table.held ≡ (table P L).held
  helds = ap (λ (s : State). s.table.held) d.after_is

  pub spare_more : (x : Member) → Contains r.members x → after.table.spare x.handle ≡ spare P L x.handle + 1
  spare_more x in_r = ap (λ (s : State). s.table.spare x.handle) d.after_is ∙ ap (λ n. spare P L x.handle + n) (slot_of-member r x in_r)

  pub spare_other : (m : ℕ) → is_member r m ≡ false → after.table.spare m ≡ spare P L m
  spare_other m n =
      let same : after.table.spare m ≡ spare P L m + 0 = ap (λ (s : State). s.table.spare m) d.after_is ∙ ap (λ k. spare P L m + k) (slot_of-other r m n) in
      omega (arith, same)

  pub marks : (v : List ℕ) → after.pending r.index v ≡ false
  marks v = ap (λ (s : State). s.pending r.index v) d.after_is ∙ marks-cleared r (without_namespace r own.uuid (state P L)) v

  pub marks_other : (i : ℕ) (v : List ℕ) → i ≢ r.index → after.pending i v ≡ pending_at P L i v
  marks_other i v other = ap (λ (s : State). s.pending i v) d.after_is ∙ marks-elsewhere r own.uuid false (without_space r own.uuid (table P L)) (state P L) i v other

  own_stands : space L r own.uuid ≡ Some own
  own_stands = own-stands L r key own d.only

  -- labels that stand for the state behind it
  module _ (disjoint : IsDisjoint P) (M : Labels) (stands : state P M ≡ after) where
    changes : ChangesAt P r own.uuid None L M
    changes = record {
      disjoint = disjoint;
      region_in = in_P;
      kinds = ap (λ (s : State). s.table.kind) stands ∙ kinds;
      spaces = ap (λ (s : State). s.table.space) stands ∙ spaces;
    }

    pub gone : space M r own.uuid ≡ None
    gone = space-new P r own.uuid None L M changes

    pub listed : namespaces M r ≡ without_uuid own.uuid (namespaces L r)
    listed = namespaces-without L M r own.uuid gone (space-others P r own.uuid None L M changes)

    pub ready : status L r ≡ RegionReady → status M r ≡ RegionReady
    ready = ready-without P r own.uuid L M changes

    pub elsewhere : (q : Region) → Contains P.regions q → q ≢ r → status M q ≡ status L q
    elsewhere q in_q other = status-elsewhere P r own.uuid None L M changes q in_q other

    held-same : (o : ℕ) → is_held_at P M r o ≡ is_held_at P L r o
    held-same o =
        let same : (table P M).held ≡ (table P L).held = ap (λ (s : State). s.table.held) stands ∙ helds in
        λ i. list_any (λ (x : Member). nat_lt 0 (same i x.handle (has_address (x.dpa_base + o)))) r.members

    -- an offset in the region that no namespace left has, and no label holds
    free-if : (o : ℕ) → o < part_size r → ((t : Space) → Contains (without_uuid own.uuid (namespaces L r)) t → has_offset o t ≡ false) → is_held_at P L r o ≡ false → is_common_free P M r o ≡ true
    free-if o within none unheld =
        let a : nat_lt o (part_size r) ≡ true = lt_from o (part_size r) within in
        let b : (namespaces_over M r o == 0) ≡ true = eq_same (namespaces_over M r o) 0 (ap (count_by (has_offset o)) listed ∙ none-over o (without_uuid own.uuid (namespaces L r)) none) in
        let c : is_held_at P M r o ≡ false = held-same o ∙ unheld in
        λ i. a i && (b i && not (c i))

    -- What was common free is so,
    pub stays_free : (o : ℕ) → is_common_free P L r o ≡ true → is_common_free P M r o ≡ true
    stays_free o free = free-if o (lt_true o (part_size r) parts.0)
        (λ t t_in. count_by-zero (has_offset o) (namespaces L r) (eq_true (namespaces_over L r o) 0 rest.0) t (without_uuid-cases own.uuid (namespaces L r) t t_in).0)
        (not_true (is_held_at P L r o) rest.1)
      where
        parts : (nat_lt o (part_size r) ≡ true) × ((namespaces_over L r o == 0 && not (is_held_at P L r o)) ≡ true)
        parts = and_parts (nat_lt o (part_size r)) (namespaces_over L r o == 0 && not (is_held_at P L r o)) free

        rest : ((namespaces_over L r o == 0) ≡ true) × (not (is_held_at P L r o) ≡ true)
        rest = and_parts (namespaces_over L r o == 0) (not (is_held_at P L r o)) parts.1

    -- and so is what the namespace had and no label holds.
    pub freed : status L r ≡ RegionReady → (o : ℕ) → has_offset o own ≡ true → is_held_at P L r o ≡ false → is_common_free P M r o ≡ true
    freed was_ready o here unheld = free-if o within others unheld
      where
        at : (own.offset ≤ o) × (o < own.offset + own.length)
        at = has_offset-is o own here

        within : o < part_size r
        within = let ends : own.offset + own.length ≤ part_size r = space-within P disjoint L r in_P own.uuid own own_stands in let below = at.1 in omega (arith, ends, below)

        calm : NoneOverlap (namespaces L r)
        calm = first_clash-none (namespaces L r) (namespaces-ascends L r) (none_empty L r) (ready-parts L r was_ready).calm

        own_in : Contains (namespaces L r) own
        own_in = own-listed L r key own d.only

        others : (t : Space) → Contains (without_uuid own.uuid (namespaces L r)) t → has_offset o t ≡ false
        others t t_in = elim (both (has_offset o t)) [
          | inr n ↦ n
          | inl too ↦ absurd (meets too (both (is_lt (space_cmp own t))))
        ]
          where
            old : Contains (namespaces L r) t × (bytes_eq own.uuid t.uuid ≡ false)
            old = without_uuid-cases own.uuid (namespaces L r) t t_in

            meets : has_offset o t ≡ true → (is_lt (space_cmp own t) ≡ true) ⊎ (is_lt (space_cmp own t) ≡ false) → ⊥
            meets too (inl before) =
                let there = has_offset-is o t too in
                meet-overlaps own t (calm own t own_in old.0 before) (record { starts = omega (arith, at.0, there.1); ends = omega (arith, at.1, there.0) })
            meets too (inr after) =
                let there = has_offset-is o t too in
                meet-overlaps t own (calm t own old.0 own_in (before-total own t (uuid_other own.uuid t.uuid old.1) after)) (record { starts = omega (arith, there.0, at.1); ends = omega (arith, there.1, at.0) })

    -- Names that were distinct are so.
    pub distinct : HasDistinctNames L r → HasDistinctNames M r
    distinct before s t s_in t_in some same = before s t (was s s_in) (was t t_in) some same
      where
        was : (y : Space) → Contains (namespaces M r) y → Contains (namespaces L r) y
        was y y_in = (without_uuid-cases own.uuid (namespaces L r) y (subst (λ xs. Contains xs y) listed y_in)).0
