-- The modules of a region are swept, one after the other.
use Rattle.std.proofs.Common.{◌≡◌, ◌≢◌, ℕ, ◌+◌, ◌<◌, true, List, length, get_or, map, refl, sym, ap, subst, ◌∙◌, inl, inr, arith}
use Rattle.std.specs.Prelude.{◌==◌}
use Rattle.std.specs.List.{All, list_all}
use Rattle.std.proofs.lemmas.Bool.{cases_eq}
use Rattle.std.proofs.lemmas.List.Folds.{list_any_at}
use Rattle.label_codec.specs.ModuleLabels.{Labels, is_ready}
use Rattle.label_area.specs.Flips.{is_among}
use Rattle.region_map.specs.declared.platform.Member.{Member}
use Rattle.region_map.specs.declared.platform.Region.{Region}
use Rattle.label_table.specs.Belonging.{member_at, no_member}
use Rattle.label_table.specs.Tables.{State, is_member}
use Rattle.label_table.specs.Wholes.{all_ready}
use Rattle.label_table.proofs.ListTests.{Contains-get_or, eq_same, eq_true, list_all-at, list_any-at, list_any-found}
use Rattle.region_labels.specs.Modules.{dimm_of}
use Rattle.region_labels.specs.Regions.{handles}
use Rattle.region_labels.proofs.Seated.{handle-at, length-handles}
use Rattle.module_flips.specs.Together.{free_slots}
use Rattle.module_flips.proofs.Passes.{at-place, each-length}
use Rattle.label_sets.specs.Sets.{StoredSets, labels_in, state_in}
use Rattle.label_sets.specs.Sweeps.{IsFreeAsSpare}
use Rattle.module_flips.specs.Sweeps.{ChangesOnly}
use Rattle.module_flips.proofs.FreedModules.{get_or-any}
use Rattle.recovery.specs.Recovery.{HasSpareFree}

-- where all areas are Ready, that of the module at a position is
pub member-ready : (L : Labels) (r : Region) (k : ℕ) → all_ready r L ≡ true → k < length r.members → is_ready (L (member_at r k).handle).kind ≡ true
member-ready L r k ready lt = list_all-at (λ (x : Member). is_ready (L x.handle).kind) r.members (member_at r k) ready (Contains-get_or r.members k no_member lt)

-- and so it is where the state stays
pub ready-still : (s now : StoredSets) (r : Region) → state_in now ≡ state_in s → all_ready r (labels_in s) ≡ true → all_ready r (labels_in now) ≡ true
ready-still s now r same ready = (λ i. list_all (λ (x : Member). is_ready ((same i).table.kind x.handle)) r.members) ∙ ready

-- and is one of the region's
pub member-known : (r : Region) (k : ℕ) → k < length r.members → is_among (handles r) (member_at r k).handle ≡ true
member-known r k lt =
    let x = (member_at r k).handle in
    let below : k < length (handles r) = subst (λ n. k < n) (sym (length-handles r)) lt in
    list_any_at (λ h. x == h) (handles r) k 0 below (eq_same x (get_or (handles r) k 0) (sym (handle-at r k lt)))

-- A module stays swept while another one is, or it is this one.
pub free-still : (s now : StoredSets) (dimm other : ℕ) → state_in now ≡ state_in s → ChangesOnly dimm s.modules now.modules → map dimm_of now.modules ≡ map dimm_of s.modules → IsFreeAsSpare now dimm → IsFreeAsSpare s other → IsFreeAsSpare now other
free-still s now dimm other same changes dimms here was place d lt is = elim (cases_eq other dimm) [
  | inl e ↦ here place d lt (is ∙ e) ∙ ap (state_in now).table.spare (sym e)
  | inr differ ↦
      let same_dimm : (get_or now.modules place d).dimm ≡ (get_or s.modules place d).dimm = at-place dimm_of s.modules now.modules dimms place d lt in
      let kept : get_or now.modules place d ≡ get_or s.modules place d = changes.others place d (λ e. differ (sym is ∙ same_dimm ∙ e)) in
      ap free_slots kept ∙ was place d (subst (λ n. place < n) (each-length dimm_of s.modules now.modules dimms) lt) (sym same_dimm ∙ is) ∙ ap (λ (t : State). t.table.spare other) (sym same)
]

-- each module of the region is swept
pub all-free : (sets : StoredSets) (r : Region) → ((k : ℕ) → k < length r.members → IsFreeAsSpare sets (member_at r k).handle) → All (HasSpareFree sets r) sets.modules
all-free sets r each place d lt member =
    let dimm = (get_or sets.modules place d).dimm in
    let found = list_any-found (λ (x : Member). x.handle == dimm) r.members member in
    let k : ℕ = found.1.0 in
    let k_lt : k < length r.members = found.1.1 in
    let at : member_at r k ≡ found.0 = get_or-any r.members k k_lt no_member found.0 ∙ found.1.2 in
    let named : dimm ≡ (member_at r k).handle = sym (ap (λ (x : Member). x.handle) at ∙ eq_true found.0.handle dimm found.2) in
    each k k_lt place d lt named ∙ ap (state_in sets).table.spare (sym named)

-- one module more is swept
pub free-more : (s now : StoredSets) (r : Region) (position : ℕ) → state_in now ≡ state_in s → ChangesOnly (member_at r position).handle s.modules now.modules → map dimm_of now.modules ≡ map dimm_of s.modules
    → IsFreeAsSpare now (member_at r position).handle → ((k : ℕ) → k < position → IsFreeAsSpare s (member_at r k).handle) → (k : ℕ) → k < position + 1 → IsFreeAsSpare now (member_at r k).handle
free-more s now r position same changes dimms here before k lt = elim (cases_eq k position) [
  | inl e ↦ subst (λ j. IsFreeAsSpare now (member_at r j).handle) (sym e) here
  | inr differ ↦ free-still s now (member_at r position).handle (member_at r k).handle same changes dimms here (before k (below k position differ lt))
]
  where
    below : (a b : ℕ) → a ≢ b → a < b + 1 → a < b
    below a b differ lt = grind arith

-- so each module at a position is as free as it is spare
pub free-at : (sets : StoredSets) (r : Region) → All (HasSpareFree sets r) sets.modules → (position : ℕ) → position < length r.members → IsFreeAsSpare sets (member_at r position).handle
free-at sets r all position lt place d place_lt is =
    let h = (member_at r position).handle in
    let member : is_member r h ≡ true = list_any-at (λ (x : Member). x.handle == h) r.members (member_at r position) (Contains-get_or r.members position no_member lt) (eq_same h h refl) in
    all place d place_lt (ap (is_member r) is ∙ member) ∙ ap (state_in sets).table.spare is
