-- What an accepted create does.
use Rattle.std.proofs.Common.{◌≡◌, ◌≢◌, inl, inr, ℕ, ◌+◌, ◌-◌, ◌*◌, ◌%◌, ◌≤◌, ◌<◌, Bool, true, false, not, ◌&&◌, cond, List, Some, length, refl, ap, subst, ◌∙◌, arith}
use Rattle.std.specs.Prelude.{◌==◌, nat_lt}
use Rattle.std.specs.List.{Contains}
use Rattle.std.proofs.lemmas.Bool.{and_parts}
use Rattle.view_types.specs.declared.extents.Extent.{Extent}
use Rattle.view_types.specs.declared.reply.Reply.{Reply}
use Rattle.label_codec.specs.ModuleLabels.{Labels}
use Rattle.region_map.specs.declared.platform.Member.{Member}
use Rattle.region_map.specs.declared.platform.Platform.{Platform}
use Rattle.region_map.specs.declared.platform.Region.{Region}
use Rattle.label_table.specs.Belonging.{IsDisjoint}
use Rattle.label_table.specs.Division.{IsOpen, alignment, is_common_free, is_held_at, namespaces_over, part_size}
use Rattle.label_table.specs.Fates.{spare}
use Rattle.label_table.specs.Namespaces.{insert_space, namespaces, without_uuid}
use Rattle.label_table.specs.Spaces.{Space}
use Rattle.label_table.specs.Statuses.{RegionReady, status}
use Rattle.label_table.specs.Tables.{ChangesAt, State, changed_at, is_member, pending_at, state, table, with_namespace, with_space}
use Rattle.label_table.proofs.ListTests.{eq_same, eq_true, find-some, list_any-at}
use Rattle.label_table.proofs.Listed.{namespaces-with, without_uuid-cases}
use Rattle.label_table.proofs.Order.{insert_space-cases}
use Rattle.label_table.proofs.StatusLaws.{ready-with, space-new, space-others, status-elsewhere}
use Rattle.table_steps.specs.declared.new_namespace.NewNamespace.{NewNamespace}
use Rattle.table_steps.specs.Create.{Accepts, made, part_length}
use Rattle.table_steps.specs.Namespaces.{HasDistinctNames}
use Rattle.table_steps.proofs.Accepted.{IsUnrefused, unrefused}
use Rattle.table_steps.proofs.Names.{IsNewOrOld, clear-unless, names-distinct}
use Rattle.table_steps.proofs.Marks.{marks-cleared, marks-elsewhere}

module _ (P : Platform) (L : Labels) (free : List Extent) (a : NewNamespace) (reply : Reply) (after : State) (c : Accepts P L free a reply after) where
  abbrev r : Region
  r = c.done.region

  abbrev new : Space
  new = made a r c.done.offset

  u : IsUnrefused P L free a r
  u = unrefused P L free a r c.done.found c.unrefused

  in_P : Contains P.regions r
  in_P = (find-some (λ (q : Region). q.index == a.region) P.regions r c.done.found).0

  pub spaces : after.table.space ≡ changed_at r a.uuid (Some new) (table P L).space
  spaces = ap (λ (s : State). s.table.space) c.done.after_is

  pub kinds : after.table.kind ≡ (table P L).kind
  kinds = ap (λ (s : State). s.table.kind) c.done.after_is

  pub helds : after.table.held ≡ (table P L).held
  helds = ap (λ (s : State). s.table.held) c.done.after_is

  spare_by : (m : ℕ) (b : Bool) → is_member r m ≡ b → after.table.spare m ≡ spare P L m - cond b 1 0
  spare_by m b e = ap (λ (s : State). s.table.spare m) c.done.after_is ∙ (λ i. spare P L m - cond {A = ℕ} (e i) 1 0)

  pub spare_less : (x : Member) → Contains r.members x → after.table.spare x.handle + 1 ≡ spare P L x.handle
  spare_less x in_r =
      let member : is_member r x.handle ≡ true = list_any-at (λ (y : Member). y.handle == x.handle) r.members x in_r (eq_same x.handle x.handle refl) in
      let less : after.table.spare x.handle ≡ spare P L x.handle - 1 = spare_by x.handle true member in
      let two : 2 ≤ spare P L x.handle = u.spares x in_r in
      omega (arith, less, two)

  pub spare_other : (m : ℕ) → is_member r m ≡ false → after.table.spare m ≡ spare P L m
  spare_other m n = let same : after.table.spare m ≡ spare P L m - 0 = spare_by m false n in omega (arith, same)

  pub marks : (v : List ℕ) → after.pending r.index v ≡ false
  marks v = ap (λ (s : State). s.pending r.index v) c.done.after_is ∙ marks-cleared r (with_namespace r new (state P L)) v

  pub marks_other : (i : ℕ) (v : List ℕ) → i ≢ r.index → after.pending i v ≡ pending_at P L i v
  marks_other i v other = ap (λ (s : State). s.pending i v) c.done.after_is ∙ marks-elsewhere r a.uuid true (with_space r new (table P L)) (state P L) i v other

  pub multiple : c.done.offset % alignment ≡ 0
  multiple = c.done.first.multiple

  pub whole : length r.members * part_length a r ≡ a.size
  whole = u.size.whole

  pub some : 0 < part_length a r
  some = u.size.some

  pub was_free : (o : ℕ) → c.done.offset ≤ o → o < c.done.offset + part_length a r → is_common_free P L r o ≡ true
  was_free o ge lt = c.done.first.free_from o ge lt

  open_range : IsOpen L r new
  open_range o ge lt =
      let parts = and_parts (nat_lt o (part_size r)) (namespaces_over L r o == 0 && not (is_held_at P L r o)) (was_free o ge lt) in
      inl (eq_true (namespaces_over L r o) 0 (and_parts (namespaces_over L r o == 0) (not (is_held_at P L r o)) parts.1).0)

  changes : IsDisjoint P → (M : Labels) → state P M ≡ after → ChangesAt P r a.uuid (Some new) L M
  changes disjoint M stands = record {
    disjoint = disjoint;
    region_in = in_P;
    kinds = ap (λ (s : State). s.table.kind) stands ∙ kinds;
    spaces = ap (λ (s : State). s.table.space) stands ∙ spaces;
  }

  pub ready : IsDisjoint P → (M : Labels) → state P M ≡ after → status M r ≡ RegionReady
  ready disjoint M stands = ready-with P r new L M (changes disjoint M stands) some open_range u.ready

  pub elsewhere : IsDisjoint P → (M : Labels) → state P M ≡ after → (q : Region) → Contains P.regions q → q ≢ r → status M q ≡ status L q
  elsewhere disjoint M stands q in_q other = status-elsewhere P r a.uuid (Some new) L M (changes disjoint M stands) q in_q other

  -- Names that were distinct are so.
  pub distinct : IsDisjoint P → (M : Labels) → state P M ≡ after → HasDistinctNames L r → HasDistinctNames M r
  distinct disjoint M stands before = names-distinct L M r new one-of (clear-unless L r new u.name) before
    where
      listed : namespaces M r ≡ insert_space new (without_uuid a.uuid (namespaces L r))
      listed = namespaces-with L M r new (space-new P r a.uuid (Some new) L M (changes disjoint M stands)) (space-others P r a.uuid (Some new) L M (changes disjoint M stands))

      one-of : (t : Space) → Contains (namespaces M r) t → IsNewOrOld L r new t
      one-of t t_in = elim (insert_space-cases new (without_uuid a.uuid (namespaces L r)) t (subst (λ xs. Contains xs t) listed t_in)) [
        | inl is ↦ inl is
        | inr old ↦ inr (without_uuid-cases a.uuid (namespaces L r) t old)
      ]
