-- What an accepted rename does.
use Rattle.std.proofs.Common.{◌≡◌, ◌≢◌, inl, inr, ℕ, ◌+◌, Bool, true, false, not, ◌&&◌, List, [], ◌∷◌, Some, None, find, refl, sym, ap, subst, ◌∙◌}
use Rattle.std.specs.Prelude.{◌==◌, if◌then◌else◌, nat_lt, option_map}
use Rattle.std.specs.List.{Contains, list_any}
use Rattle.std.specs.Str.{bytes_eq}
use Rattle.view_types.specs.declared.refusal.Refusal.TheVariants.{NameInUse}
use Rattle.view_types.specs.declared.reply.Reply.{Reply}
use Rattle.cmd_words.specs.declared.name_keys.NameKey.{NameKey}
use Rattle.cmd_words.specs.declared.name_keys.NameKey.TheVariants.{Name}
use Rattle.label_codec.specs.ModuleLabels.{Labels}
use Rattle.region_map.specs.declared.platform.Member.{Member}
use Rattle.region_map.specs.declared.platform.Platform.{Platform}
use Rattle.region_map.specs.declared.platform.Region.{Region}
use Rattle.label_table.specs.Belonging.{IsDisjoint}
use Rattle.label_table.specs.Division.{IsOpen, has_address, has_offset, is_common_free, namespaces_over, part_size}
use Rattle.label_table.specs.Namespaces.{insert_space, namespaces, without_uuid}
use Rattle.label_table.specs.Spaces.{Space, space}
use Rattle.label_table.specs.Statuses.{RegionReady, status}
use Rattle.label_table.specs.Tables.{ChangesAt, State, changed_at, pending_at, state, table, with_changed_namespace, with_changed_space}
use Rattle.label_table.proofs.Clashes.{count_by-zero, has_offset-from}
use Rattle.label_table.proofs.Listed.{namespaces-from, namespaces-to, namespaces-with, space-not_empty, without_uuid-cases}
use Rattle.label_table.proofs.ListTests.{both, eq_other, eq_same, eq_true, find-some, never, some_is, uuid_is, uuid_same}
use Rattle.label_table.proofs.Order.{insert_space-cases}
use Rattle.label_table.proofs.StatusLaws.{ready-with, space-new, space-others, status-elsewhere}
use Rattle.table_steps.specs.Create.{is_named, is_unnamed}
use Rattle.table_steps.specs.Namespaces.{HasDistinctNames, fitting}
use Rattle.table_steps.specs.Refusals.{first_of}
use Rattle.table_steps.specs.Rename.{IsRenamed, is_other_named, name_taken_beside, name_taken_in, rename_refusals, renamed, with_renamed}
use Rattle.table_steps.proofs.AcceptedChanges.{IsFreeName, IsUnrefusedRename, own-alone, own-fits, own-listed, own-stands, unrefused-rename}
use Rattle.table_steps.proofs.Destroyed.{none-over}
use Rattle.table_steps.proofs.Lists.{find-never}
use Rattle.table_steps.proofs.Marks.{marked-is, marks-cleared, marks-elsewhere}
use Rattle.table_steps.proofs.Names.{IsClear, IsNewOrOld, names-distinct}

-- The state behind a rename, by what it shows.
pub renamed-is : (r : Region) (name : List ℕ) (s : Space) (before after : State) → after.table ≡ (with_changed_namespace r (renamed name s) false before).table
    → ((v : List ℕ) → after.pending r.index v ≡ false) → ((i : ℕ) (v : List ℕ) → i ≢ r.index → after.pending i v ≡ before.pending i v) → after ≡ with_renamed r name s before
renamed-is r name s before after tables cleared others = marked-is r s.uuid false (with_changed_namespace r (renamed name s) false before).table before after tables cleared others

-- The own name of a namespace that alone has it is not taken.
pub own-name : (L : Labels) (r : Region) (name : List ℕ) (s : Space) → fitting L r (Name name) ≡ s ∷ [] → name_taken_in L (Name name) name r ≡ None
own-name L r name s only = ap (name_taken_beside L r name) only ∙ by (is_unnamed name)
  where
    alone : (t : Space) → Contains (namespaces L r) t → is_other_named name s.uuid t ≡ false
    alone t in_r = elim (both (is_named name t)) [
      | inr n ↦ (λ i. n i && not (bytes_eq s.uuid t.uuid))
      | inl named ↦
          let same : bytes_eq s.uuid t.uuid ≡ true = ap (λ (y : Space). bytes_eq s.uuid y.uuid) (own-alone L r (Name name) s only t in_r named) ∙ uuid_same s.uuid in
          λ i. named i && not (same i)
    ]

    by : (b : Bool) → (if b then None else option_map (λ (t : Space). NameInUse t.uuid) (find (is_other_named name s.uuid) (namespaces L r))) ≡ None
    by true = refl
    by false = ap (option_map (λ (t : Space). NameInUse t.uuid)) (find-never (is_other_named name s.uuid) (namespaces L r) alone)

module _ (P : Platform) (L : Labels) (index : ℕ) (key : NameKey) (name : List ℕ) (reply : Reply) (after : State) (d : IsRenamed P L index key name reply after) where
  abbrev r : Region
  r = d.region

  abbrev own : Space
  own = d.space

  abbrev new : Space
  new = renamed name own

  in_P : Contains P.regions r
  in_P = (find-some (λ (q : Region). q.index == index) P.regions r d.found).0

  pub spaces : after.table.space ≡ changed_at r own.uuid (Some new) (table P L).space
  spaces = ap (λ (s : State). s.table.space) d.after_is

  pub kinds : after.table.kind ≡ (table P L).kind
  kinds = ap (λ (s : State). s.table.kind) d.after_is

  pub spares : after.table.spare ≡ (table P L).spare
  spares = ap (λ (s : State). s.table.spare) d.after_is

  pub helds : after.table.held ≡ (table P L).held
  helds = ap (λ (s : State). s.table.held) d.after_is

  pub marks : (v : List ℕ) → after.pending r.index v ≡ false
  marks v = ap (λ (s : State). s.pending r.index v) d.after_is ∙ marks-cleared r (with_changed_namespace r new false (state P L)) v

  pub marks_other : (i : ℕ) (v : List ℕ) → i ≢ r.index → after.pending i v ≡ pending_at P L i v
  marks_other i v other = ap (λ (s : State). s.pending i v) d.after_is ∙ marks-elsewhere r own.uuid false (with_changed_space r new (table P L)) (state P L) i v other

  own_stands : space L r own.uuid ≡ Some own
  own_stands = own-stands L r key own d.only

  own_in : Contains (namespaces L r) own
  own_in = own-listed L r key own d.only

  -- labels that stand for the state behind it
  module _ (disjoint : IsDisjoint P) (M : Labels) (stands : state P M ≡ after) where
    changes : ChangesAt P r own.uuid (Some new) L M
    changes = record {
      disjoint = disjoint;
      region_in = in_P;
      kinds = ap (λ (s : State). s.table.kind) stands ∙ kinds;
      spaces = ap (λ (s : State). s.table.space) stands ∙ spaces;
    }

    pub named : space M r own.uuid ≡ Some new
    named = space-new P r own.uuid (Some new) L M changes

    pub others : (v : List ℕ) → bytes_eq own.uuid v ≡ false → space M r v ≡ space L r v
    others = space-others P r own.uuid (Some new) L M changes

    listed : namespaces M r ≡ insert_space new (without_uuid own.uuid (namespaces L r))
    listed = namespaces-with L M r new named others

    open_range : IsOpen L r new
    open_range o ge lt = inr (record { own = own; is = own_stands; here = has_offset-from o own ge lt })

    pub ready : status L r ≡ RegionReady → status M r ≡ RegionReady
    ready = ready-with P r new L M changes (space-not_empty L r own.uuid own own_stands) open_range

    pub elsewhere : (q : Region) → Contains P.regions q → q ≢ r → status M q ≡ status L q
    elsewhere q in_q other = status-elsewhere P r own.uuid (Some new) L M changes q in_q other

    -- a namespace behind it is the one, or was there before
    one-of : (t : Space) → Contains (namespaces M r) t → IsNewOrOld L r new t
    one-of t t_in = elim (insert_space-cases new (without_uuid own.uuid (namespaces L r)) t (subst (λ xs. Contains xs t) listed t_in)) [
      | inl is ↦ inl is
      | inr old ↦ inr (without_uuid-cases own.uuid (namespaces L r) t old)
    ]

    -- Each offset that had a namespace has one still, and no other has.
    over-none : (o : ℕ) → namespaces_over L r o ≡ 0 → namespaces_over M r o ≡ 0
    over-none o none = none-over o (namespaces M r) (λ t t_in. by t (one-of t t_in))
      where
        by : (t : Space) → IsNewOrOld L r new t → has_offset o t ≡ false
        by t (inl is) = ap (λ (y : Space). has_offset o y) is ∙ count_by-zero (has_offset o) (namespaces L r) none own own_in
        by t (inr old) = count_by-zero (has_offset o) (namespaces L r) none t old.0

    over-some : (o : ℕ) → namespaces_over M r o ≡ 0 → namespaces_over L r o ≡ 0
    over-some o none = none-over o (namespaces L r) (λ t t_in. elim (both (bytes_eq own.uuid t.uuid)) [
      | inl same ↦
          let is : t ≡ own = some_is (sym (namespaces-from L r t t_in) ∙ (λ i. space L r (sym (uuid_is own.uuid t.uuid same) i)) ∙ own_stands) in
          ap (λ (y : Space). has_offset o y) is ∙ count_by-zero (has_offset o) (namespaces M r) none new (namespaces-to M r own.uuid new named)
      | inr differ ↦ count_by-zero (has_offset o) (namespaces M r) none t (namespaces-to M r t.uuid t (others t.uuid differ ∙ namespaces-from L r t t_in))
    ])

    over-same : (o : ℕ) → (namespaces_over M r o == 0) ≡ (namespaces_over L r o == 0)
    over-same o = elim (both (namespaces_over L r o == 0)) [
      | inl none ↦ eq_same (namespaces_over M r o) 0 (over-none o (eq_true (namespaces_over L r o) 0 none)) ∙ sym none
      | inr some ↦ eq_other (namespaces_over M r o) 0 (λ none. never (namespaces_over L r o == 0) (eq_same (namespaces_over L r o) 0 (over-some o none)) some) ∙ sym some
    ]

    pub free-same : (o : ℕ) → is_common_free P M r o ≡ is_common_free P L r o
    free-same o =
        let same : (table P M).held ≡ (table P L).held = ap (λ (s : State). s.table.held) stands ∙ helds in
        λ i. nat_lt o (part_size r) && (over-same o i && not (list_any (λ (x : Member). nat_lt 0 (same i x.handle (has_address (x.dpa_base + o)))) r.members))

    -- Names that were distinct are so.
    pub distinct : first_of (rename_refusals P L index key name) ≡ None → HasDistinctNames L r → HasDistinctNames M r
    distinct none before = names-distinct L M r new one-of clear before
      where
        u : IsUnrefusedRename P L key name r
        u = unrefused-rename P L index key name r d.found none

        is_own : u.change.own ≡ own
        is_own = own-alone L r key own d.only u.change.own (own-listed L r key u.change.own u.change.one.only) (own-fits L r key u.change.own u.change.one.only)

        -- no other namespace has the new name
        clear : IsClear L r new
        clear y y_in differ some taken = by_name u.free_name
          where
            by_name : IsFreeName L r name u.change.own → ⊥
            by_name (inl unnamed) = never (is_unnamed name) unnamed some
            by_name (inr free) =
                let e : y.uuid ≡ own.uuid = free y y_in taken ∙ ap (λ (z : Space). z.uuid) is_own in
                never (bytes_eq own.uuid y.uuid) (ap (bytes_eq own.uuid) e ∙ uuid_same own.uuid) differ
