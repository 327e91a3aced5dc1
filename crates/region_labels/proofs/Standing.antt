-- Where the module of a member stands among the modules.
use Rattle.std.proofs.Common.{◌≡◌, ℕ, zero, suc, ◌<◌, Bool, true, false, cond, eqb, List, [], ◌∷◌, length, get_or, Some, refl, sym, ap, subst, ◌∙◌, eq-eqb, eqb-true, arith}
use Rattle.std.specs.Prelude.{find, slice_index}
use Rattle.region_map.specs.declared.platform.Region.{Region}
use Rattle.label_table.specs.Belonging.{member_at, no_member}
use Rattle.region_labels.specs.declared.modules.LoadedModule.{LoadedModule}
use Rattle.region_labels.specs.Modules.{EachOnce, is_of}
use Rattle.region_labels.specs.Regions.{AreSeatsOf}

tail-once : (x : LoadedModule) (xs : List LoadedModule) → EachOnce (x ∷ xs) → EachOnce xs
tail-once x xs once = record { apart = λ i j d lt below. once.apart (suc i) (suc j) d (omega arith) (omega arith) }

-- a module is found by its own handle
found-own : (xs : List LoadedModule) (at : ℕ) (d : LoadedModule) → EachOnce xs → at < length xs → find (is_of (get_or xs at d).dimm) xs ≡ Some (get_or xs at d)
found-own [] at d once lt = absurd (omega arith)
found-own (x ∷ xs) zero d once lt = ap (λ b. cond b (Some x) (find (is_of x.dimm) xs)) (eq-eqb x.dimm x.dimm refl)
found-own (x ∷ xs) (suc at) d once lt = by (found-own xs at d (tail-once x xs once) (omega arith)) (eqb x.dimm (get_or xs at d).dimm) refl
  where
    by : find (is_of (get_or xs at d).dimm) xs ≡ Some (get_or xs at d) → (b : Bool) → eqb x.dimm (get_or xs at d).dimm ≡ b → cond b (Some x) (find (is_of (get_or xs at d).dimm) xs) ≡ Some (get_or xs at d)
    by rest false e = rest
    by rest true e = absurd (once.apart 0 (suc at) d (omega arith) lt (eqb-true x.dimm (get_or xs at d).dimm e))

-- the module at a position is found by its member's handle
pub seated-found : (modules : List LoadedModule) (r : Region) (seats : List ℕ) → EachOnce modules → AreSeatsOf modules r.members seats → (position : ℕ) → position < length r.members
    → (seat : ℕ) (loaded : LoadedModule) → seat ≡ slice_index seats position → loaded ≡ get_or modules seat loaded → find (is_of (member_at r position).handle) modules ≡ Some loaded
seated-found modules r seats once are position lt seat loaded at is =
    let within : seat < length modules = subst (λ s. s < length modules) (sym at) (are.within position lt) in
    let same : (get_or modules seat loaded).dimm ≡ (member_at r position).handle = subst (λ s. (get_or modules s loaded).dimm ≡ (member_at r position).handle) (sym at) (are.is position loaded no_member lt) in
    ap (λ handle. find (is_of handle) modules) (sym same) ∙ found-own modules seat loaded once within ∙ ap Some (sym is)
