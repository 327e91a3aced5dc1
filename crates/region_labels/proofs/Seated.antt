-- Where the modules of a region's members stand among the modules.
use Rattle.std.proofs.Common.{◌≡◌, ℕ, zero, suc, ◌<◌, Bool, true, false, cond, eqb, List, [], ◌∷◌, length, get_or, Some, refl, sym, ap, subst, ◌∙◌, eq-eqb, eqb-true, arith}
use Rattle.std.specs.Prelude.{find, slice_index}
use Rattle.std.proofs.lemmas.List.{get_or-map, length-map}
use Rattle.label_codec.specs.ModuleLabels.{Labels}
use Rattle.region_map.specs.declared.platform.Member.{Member}
use Rattle.region_map.specs.declared.platform.Region.{Region}
use Rattle.label_table.specs.Belonging.{member_at, no_member}
use Rattle.uuid_index.specs.declared.entry.Entry.{Entry}
use Rattle.uuid_index.specs.declared.index.Found.{Found}
use Rattle.uuid_index.specs.Found.{IsFoundLabel}
use Rattle.uuid_index.specs.Labels.{IsFoundInLabels, IsIndex}
use Rattle.region_labels.specs.declared.modules.LoadedModule.{LoadedModule}
use Rattle.region_labels.specs.Modules.{EachOnce, is_of, labels_in, module_in, module_or_missing}
use Rattle.region_labels.specs.Regions.{AreSeatsOf, handles}

tail-once : (x : LoadedModule) (xs : List LoadedModule) → EachOnce (x ∷ xs) → EachOnce xs
tail-once x xs once = record { apart = λ i j d lt below. once.apart (suc i) (suc j) d (omega arith) (omega arith) }

-- the labels of a module are its own
pub own-labels : (xs : List LoadedModule) (at : ℕ) (d : LoadedModule) → EachOnce xs → at < length xs → labels_in xs (get_or xs at d).dimm ≡ module_in (get_or xs at d)
own-labels [] at d once lt = absurd (omega arith)
own-labels (x ∷ xs) zero d once lt = ap (λ b. module_or_missing (cond b (Some x) (find (is_of x.dimm) xs))) (eq-eqb x.dimm x.dimm refl)
own-labels (x ∷ xs) (suc at) d once lt = by (own-labels xs at d (tail-once x xs once) (omega arith)) (eqb x.dimm (get_or xs at d).dimm) refl
  where
    by : labels_in xs (get_or xs at d).dimm ≡ module_in (get_or xs at d) → (b : Bool) → eqb x.dimm (get_or xs at d).dimm ≡ b → module_or_missing (cond b (Some x) (find (is_of (get_or xs at d).dimm) xs)) ≡ module_in (get_or xs at d)
    by rest false e = rest
    by rest true e = absurd (once.apart 0 (suc at) d (omega arith) lt (eqb-true x.dimm (get_or xs at d).dimm e))

pub handle-at : (r : Region) (position : ℕ) → position < length r.members → slice_index (handles r) position ≡ (member_at r position).handle
handle-at r position lt = get_or-map (λ (m : Member). m.handle) r.members position no_member 0 lt

pub length-handles : (r : Region) → length (handles r) ≡ length r.members
length-handles r = length-map r.members (λ (m : Member). m.handle)

-- the module at a position
pub seated-module : (modules : List LoadedModule) (r : Region) (seats : List ℕ) → EachOnce modules → AreSeatsOf modules r.members seats → (position : ℕ) → position < length r.members
    → (seat : ℕ) (loaded : LoadedModule) → seat ≡ slice_index seats position → loaded ≡ get_or modules seat loaded → module_in loaded ≡ labels_in modules (member_at r position).handle
seated-module modules r seats once are position lt seat loaded at is =
    let within : seat < length modules = subst (λ s. s < length modules) (sym at) (are.within position lt) in
    let same : (get_or modules seat loaded).dimm ≡ (member_at r position).handle = subst (λ s. (get_or modules s loaded).dimm ≡ (member_at r position).handle) (sym at) (are.is position loaded no_member lt) in
    ap module_in is ∙ sym (own-labels modules seat loaded once within) ∙ ap (labels_in modules) same

-- what is found at a position is so in the module of the member there
pub found-here : (u : List ℕ) (r : Region) (L : Labels) (entries : List Entry) (position : ℕ) (found : Found) → IsFoundInLabels u position entries found → IsIndex (handles r) L entries
    → position < length r.members → IsFoundLabel u (L (member_at r position).handle) found
found-here u r L entries position found in_labels index lt =
    let len : length (handles r) ≡ length r.members = length-handles r in
    subst (λ h. IsFoundLabel u (L h) found) (handle-at r position lt) (in_labels (handles r) L index (omega arith))
