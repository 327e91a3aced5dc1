-- A namespace that nothing refuses can be put into its region once this is recovered; and what the reply to it says.
use Rattle.std.proofs.Common.{◌≡◌, ◌≢◌, ◌⊎◌, inl, inr, ℕ, ◌+◌, ◌<◌, ◌≤◌, Bool, true, false, ◌&&◌, find, List, length, get_or, Option, Some, None, refl, sym, ap, subst, ◌∙◌, arith}
use Rattle.std.specs.Prelude.{◌==◌, if◌then◌else◌, option_map}
use Rattle.std.specs.Str.{bytes_eq}
use Rattle.std.specs.List.{All, Contains}
use Rattle.view_types.specs.declared.namespaces.Namespace.{Namespace}
use Rattle.view_types.specs.declared.refusal.Refusal.TheVariants.{UuidInUse}
use Rattle.view_types.specs.declared.reply.Reply.{Reply}
use Rattle.label_codec.specs.declared.label.Label.{Label}
use Rattle.label_codec.specs.ModuleLabels.{IsBounded, Labels, has}
use Rattle.region_map.specs.declared.platform.Member.{Member}
use Rattle.region_map.specs.declared.platform.Platform.{Platform}
use Rattle.region_map.specs.declared.platform.Region.{Region}
use Rattle.region_map.specs.Platforms.{IsSound, region_at}
use Rattle.label_table.specs.Belonging.{IsDisjoint}
use Rattle.label_table.specs.Division.{is_common_free}
use Rattle.label_table.specs.Fates.{is_dead, spare}
use Rattle.label_table.specs.Flips.{HasNone}
use Rattle.label_table.specs.Spaces.{Space}
use Rattle.label_table.specs.Tables.{State, Table, changed_at, is_member, is_named, state, table, with_namespace}
use Rattle.label_table.proofs.ListTests.{Contains-get_or, both, eq_other, eq_same, eq_true, find-some, list_any-at, list_any-found}
use Rattle.label_table.proofs.StatusLaws.{common_free-kept, status-kept}
use Rattle.region_labels.specs.declared.modules.LoadedModule.{LoadedModule}
use Rattle.region_labels.specs.Fates.{with_regions}
use Rattle.region_labels.specs.Modules.{is_of, module_in, module_or_missing}
use Rattle.module_flips.specs.Together.{free_slots}
use Rattle.namespace_passes.specs.Staged.{new_space}
use Rattle.label_sets.specs.Sets.{IsTableOf, StoredSets, labels_in, platform_in, state_in}
use Rattle.label_sets.specs.Sweeps.{IsFreeAsSpare, IsSweptAt}
use Rattle.module_flips.specs.Sweeps.{IsSwept}
use Rattle.label_table.proofs.SoundPlatforms.{sound-disjoint}
use Rattle.label_sets.proofs.Platforms.{known-members}
use Rattle.label_sets.proofs.Stageable.{region-listed}
use Rattle.recovery.specs.Recovery.{IsRecovered}
use Rattle.table_steps.specs.declared.new_namespace.NewNamespace.{NewNamespace}
use Rattle.table_steps.specs.Create.{Creates, IsCreated, created, keeps_uuid, part_length, uuid_in_use, with_made}
use Rattle.table_steps.proofs.Fresh.{fresh}
use Rattle.table_steps.proofs.Made.{made-is}
use Rattle.table_steps.proofs.Uuids.{keeps-same}
use Rattle.namespace_commands.specs.Create.{CanPutIn, IsBeforeOrAfter, IsCreateRefusal, IsNewSpace, IsPutIn, IsTableOrWith}
use Rattle.namespace_commands.specs.Lists.{IsStateOf}
use Rattle.namespace_commands.proofs.AcceptedCreates.{HasFree, has-free}
use Rattle.namespace_commands.proofs.CreateEnds.{creates-accepted}

-- what is told of the regions alone is the same of the state's and of the platform's
pub state-there : (P : Platform) (sets : StoredSets) → sets.regions ≡ P.regions → (M : Labels) → state (platform_in sets) M ≡ state P M
state-there P sets same M = ap (λ (rs : List Region). state (with_regions rs) M) same

-- the table of the state is that before the create
pub before-fits : (P : Platform) (sets : StoredSets) → sets.regions ≡ P.regions → (a : NewNamespace) (N : Labels) → IsTableOf sets N → IsBeforeOrAfter P (labels_in sets) a N
before-fits P sets same a N is = inl (sym (ap (λ (t : State). t.table) (state-there P sets same N)) ∙ is ∙ ap (λ (t : State). t.table) (state-there P sets same (labels_in sets)))

mark-gone : (b mark : Bool) → mark ≡ false → (if b then false else mark) ≡ false
mark-gone true mark none = refl
mark-gone false mark none = none

-- The region of a create was recovered.
module _ (P : Platform) (sound : IsSound P) (sets mid : StoredSets) (in_P : IsStateOf P sets) (a : NewNamespace) (r : Region) (known : region_at P a.region ≡ Some r) (refused : IsCreateRefusal P (labels_in sets) a None)
    (regions : mid.regions ≡ sets.regions) (recovered : IsRecovered sets mid r) where
  abbrev L : Labels
  L = labels_in sets

  abbrev M : Labels
  M = labels_in mid

  here : HasFree P L a r
  here = has-free P L a r known refused

  disjoint : IsDisjoint P
  disjoint = sound-disjoint P sound

  listed : Contains P.regions r
  listed = region-listed P a.region r known

  mid-regions : mid.regions ≡ P.regions
  mid-regions = regions ∙ in_P.regions

  tables : table P M ≡ table P L
  tables = sym (ap (λ (t : State). t.table) (state-there P mid mid-regions M)) ∙ recovered.same_table ∙ ap (λ (t : State). t.table) (state-there P sets in_P.regions L)

  unused : uuid_in_use P M a.uuid ≡ None
  unused = let keeps : (m : ℕ) → keeps_uuid P M a.uuid m ≡ keeps_uuid P L a.uuid m = keeps-same P disjoint L M tables a.uuid in (λ i. option_map UuidInUse (find (λ m. keeps m i) P.modules)) ∙ here.is.uuid

  module _ (bounded : IsBounded M) (law : (dimm : ℕ) → IsFreeAsSpare mid dimm → IsSweptAt mid dimm) where
    no-dead : (h : ℕ) → is_member r h ≡ true → (slot : ℕ) (l : Label) → (M h).at slot ≡ Some l → is_dead P M h l ≡ false
    no-dead h member slot l is = by (find (is_of h) mid.modules) refl
      where
        by : (o : Option LoadedModule) → find (is_of h) mid.modules ≡ o → is_dead P M h l ≡ false
        by None e = absurd (let none : (M h).at slot ≡ None = ap (λ (x : Option LoadedModule). (module_or_missing x).at slot) e in let some = is in cc)
        by (Some x) e =
            let found = find-some (is_of h) mid.modules x e in
            let own : x.dimm ≡ h = eq_true x.dimm h found.1 in
            let at : (module_in x).at slot ≡ Some l = sym (ap (λ (y : Option LoadedModule). (module_or_missing y).at slot) e) ∙ is in
            let free : IsFreeAsSpare mid x.dimm = λ place d lt named.
            subst (λ k. free_slots (get_or mid.modules place d) ≡ (state_in mid).table.spare k) named
            (recovered.free place d lt (ap (is_member r) (named ∙ own) ∙ member)) in
            let swept : IsSwept (platform_in mid) M x = subst (IsSwept (platform_in mid) M) found.0.2 (law x.dimm free found.0.0 x found.0.1 (ap (λ (y : LoadedModule). y.dimm) found.0.2)) in
            let none : is_dead (platform_in mid) M x.dimm l ≡ false = swept.no_dead slot l at in
            sym (ap (λ (rs : List Region). is_dead (with_regions rs) M h l) mid-regions) ∙ sym (ap (λ d. is_dead (platform_in mid) M d l) own) ∙ none

    member-of : (k : ℕ) (d : Member) → k < length r.members → is_member r (get_or r.members k d).handle ≡ true
    member-of k d lt = list_any-at (λ (y : Member). y.handle == (get_or r.members k d).handle) r.members (get_or r.members k d) (Contains-get_or r.members k d lt) (eq_same (get_or r.members k d).handle (get_or r.members k d).handle refl)

    fresh-in : All (λ (x : Member). HasNone a.uuid (M x.handle)) r.members
    fresh-in k d lt slot l is = by (both (has a.uuid l))
      where
        x : Member
        x = get_or r.members k d

        by : (has a.uuid l ≡ true) ⊎ (has a.uuid l ≡ false) → has a.uuid l ≡ false
        by (inr other) = other
        by (inl own) =
            let dead : is_dead P M x.handle l ≡ true = fresh P M a.uuid bounded unused x.handle (known-members P sound r listed k d lt) slot l is own in
            let alive : is_dead P M x.handle l ≡ false = no-dead x.handle (member-of k d lt) slot l is in
            absurd cc

    two-free : All (λ (x : LoadedModule). is_member r x.dimm ≡ true → 1 < free_slots x) mid.modules
    two-free k d lt member =
        let x : LoadedModule = get_or mid.modules k d in
        let free : free_slots x ≡ (state_in mid).table.spare x.dimm = recovered.free k d lt member in
        let same : (state_in mid).table.spare x.dimm ≡ spare P L x.dimm =
        ap (λ (t : Table). t.spare x.dimm) recovered.same_table ∙ ap (λ (t : State). t.table.spare x.dimm) (state-there P sets in_P.regions L) in
        let found = list_any-found (λ (y : Member). y.handle == x.dimm) r.members member in
        let least : 2 ≤ spare P L found.0.handle = here.is.spares found.0 found.1 in
        let own : found.0.handle ≡ x.dimm = eq_true found.0.handle x.dimm found.2 in
        let least_here : 2 ≤ spare P L x.dimm = subst (λ h. 2 ≤ spare P L h) own least in
        omega (arith, free, same, least_here)

    pub can-put : (s : Namespace) → IsNewSpace P L a r s → CanPutIn mid s r
    can-put s new = record {
      ready = status-kept P disjoint L M tables r listed ∙ here.is.ready;
      fresh = subst (λ u. All (λ (x : Member). HasNone u (M x.handle)) r.members) (sym (ap (λ (t : Space). t.uuid) new.is_made)) fresh-in;
      free = two-free;
      is_open = λ o ge lt.
          let len : s.length ≡ part_length a r = ap (λ (t : Space). t.length) new.is_made in
          let was : is_common_free P L r o ≡ true = new.first.free_from o ge (subst (λ n. o < s.offset + n) len lt) in
          let now : is_common_free P M r o ≡ true = ap (λ (f : ℕ → Bool). f o) (common_free-kept P disjoint L M tables r listed) ∙ was in
          ap (λ (rs : List Region). is_common_free (with_regions rs) M r o) mid-regions ∙ now;
      long = subst (λ n. 0 < n) (sym (ap (λ (t : Space). t.length) new.is_made)) here.is.size.some;
    }

  abbrev after : Namespace → State
  after s = with_made a r s.offset (state P L)

  makes : (s : Namespace) → IsNewSpace P L a r s → IsCreated P L a (created a r s.offset (after s)) (after s)
  makes s new = record { region = r; found = known; offset = s.offset; first = new.first; after_is = refl; reply_is = refl }

  pub creates : (s : Namespace) → IsNewSpace P L a r s → Creates P L a (created a r s.offset (after s)) (after s)
  creates s new = creates-accepted P L a r known refused (created a r s.offset (after s)) (after s) (makes s new)

  with-table : (s : Namespace) → IsNewSpace P L a r s → (with_namespace r (new_space s) (state_in mid)).table ≡ (after s).table
  with-table s new =
      ap (λ (t : Table). (with_namespace r (new_space s) (record { table = t; pending = (state_in mid).pending })).table) (recovered.same_table ∙ ap (λ (t : State). t.table) (state-there P sets in_P.regions L))
      ∙ ap (λ (x : Space). (with_namespace r x (state P L)).table) new.is_made

  pub put-fits : (s : Namespace) → IsNewSpace P L a r s → (N : Labels) → IsTableOrWith mid r (new_space s) N → IsBeforeOrAfter P L a N
  put-fits s new N (inl same) = inl (sym (ap (λ (t : State). t.table) (state-there P mid mid-regions N)) ∙ same ∙ ap (λ (t : State). t.table) (state-there P mid mid-regions M) ∙ tables)
  put-fits s new N (inr with) = inr (record {
    reply = created a r s.offset (after s);
    after = after s;
    done = creates s new;
    table_is = sym (ap (λ (t : State). t.table) (state-there P mid mid-regions N)) ∙ with ∙ with-table s new;
  })

  -- the state behind it
  pub put-state : (s : Namespace) → IsNewSpace P L a r s → (now : StoredSets) → IsPutIn mid now (new_space s) r → state_in now ≡ after s
  put-state s new now put = made-is a r s.offset (state P L) (state_in now)
      (put.table_is ∙ with-table s new)
      (λ v. ap (λ (f : ℕ → List ℕ → Bool). f r.index v) put.marks ∙ cleared v)
      (λ i v other. ap (λ (f : ℕ → List ℕ → Bool). f i v) put.marks ∙ elsewhere i v other ∙ recovered.others i v other ∙ ap (λ (t : State). t.pending i v) (state-there P sets in_P.regions L))
    where
      cleared : (v : List ℕ) → changed_at r s.uuid false (state_in mid).pending r.index v ≡ false
      cleared v = mark-gone (is_named r s.uuid r.index v) ((state_in mid).pending r.index v) (recovered.none_pending v)

      elsewhere : (i : ℕ) (v : List ℕ) → i ≢ r.index → changed_at r s.uuid false (state_in mid).pending i v ≡ (state_in mid).pending i v
      elsewhere i v other =
          let away : (r.index == i) ≡ false = eq_other r.index i (λ e. other (sym e)) in
          λ j. if away j && bytes_eq s.uuid v then false else (state_in mid).pending i v

  pub made-by : (s : Namespace) → IsNewSpace P L a r s → (now : StoredSets) → IsPutIn mid now (new_space s) r → (reply : Reply) → reply ≡ created a r s.offset (state_in now) → IsCreated P L a reply (state_in now)
  made-by s new now put reply is = record {
    region = r;
    found = known;
    offset = s.offset;
    first = new.first;
    after_is = put-state s new now put;
    reply_is = is;
  }
