-- The areas that a map of vectors holds, by their handles.
use Rattle.std.proofs.Common.{◌≡◌, ℕ, Bool, true, false, cond, List, [], ◌∷◌, map, Option, Some, None, Vec, refl, ap, ◌∙◌}
use Rattle.std.proofs.lemmas.Cmp.{eq_by_cmp_equiv, nat_cmp_total}
use Rattle.std.proofs.lemmas.Map.Made.{lookup-map_values}
use Rattle.std.specs.Prelude.{IsSome}
use Rattle.std.specs.Option.{option_map}
use Rattle.std.specs.Ordering.{nat_cmp}
use Rattle.std.specs.declared.alloc.Global.{Global}
use Rattle.std.specs.BTreeMap as tree
use Rattle.std.specs.BTreeMap.{BTreeMap}
use Rattle.std.specs.Map.{lookup}
use Rattle.std.specs.FinMap.{get, insert, find, get-from_entries, get-insert, same_map, nat_cmp-IsAntisymmetric}
use Rattle.rig_trait.specs.Memory.{bytes_of, areas_of}
use Rattle.rig_trait.specs.Areas.{area}

items_of : Vec ℕ Global → List ℕ
items_of v = v.items

-- a finite map and a map of the library look a key up alike
find_is_lookup : {X : Type 0} (dimm : ℕ) (entries : List (ℕ × X)) → find nat_cmp dimm entries ≡ lookup (tree.is_at (nat_cmp dimm)) entries
find_is_lookup dimm [] = refl
find_is_lookup dimm (e ∷ es) = ap (cond (tree.is_at (nat_cmp dimm) e.0) (Some e.1)) (find_is_lookup dimm es)

pub get-areas_of : (stored : BTreeMap ℕ (Vec ℕ Global)) (dimm : ℕ) → get (areas_of stored) dimm ≡ option_map (λ v. v.items) (tree.get nat_cmp stored dimm)
get-areas_of stored dimm =
    get-from_entries nat_cmp_total (map bytes_of stored.entries) dimm
    ∙ find_is_lookup dimm (map bytes_of stored.entries)
    ∙ lookup-map_values (λ v. v.items) (tree.is_at (nat_cmp dimm)) stored.entries

-- the bytes of an area that is stored
pub area-areas_of : (stored : BTreeMap ℕ (Vec ℕ Global)) (dimm : ℕ) (bytes : Vec ℕ Global) → Some bytes ≡ tree.get nat_cmp stored dimm → area (areas_of stored) dimm ≡ bytes.items
area-areas_of stored dimm bytes found = rw (get-areas_of stored dimm, ← found)

pub absent : (stored : BTreeMap ℕ (Vec ℕ Global)) (dimm : ℕ) → tree.get nat_cmp stored dimm ≡ None → IsSome (get (areas_of stored) dimm) → ⊥
absent stored dimm none is_area = cc (rw (get-areas_of stored dimm, none) at is_area)

option_map-cond : {X Y : Type 0} (f : X → Y) (b : Bool) (o p : Option X) → option_map f (cond b o p) ≡ cond b (option_map f o) (option_map f p)
option_map-cond f true o p = refl
option_map-cond f false o p = refl

-- a map that holds other bytes at one handle, and what it held at all others
pub areas_of-inserted : (old new : BTreeMap ℕ (Vec ℕ Global)) (dimm : ℕ) (bytes : Vec ℕ Global)
    → ((q : ℕ) → tree.get nat_cmp new q ≡ cond (tree.is_at (nat_cmp dimm) q) (Some bytes) (tree.get nat_cmp old q))
    → areas_of new ≡ insert (areas_of old) dimm bytes.items
areas_of-inserted old new dimm bytes updates = same_map nat_cmp_total nat_cmp-IsAntisymmetric _ _ (λ q.
    get-areas_of new q
    ∙ ap (option_map (λ v. v.items)) (updates q)
    ∙ option_map-cond (λ v. v.items) (tree.is_at (nat_cmp dimm) q) (Some bytes) (tree.get nat_cmp old q)
    ∙ rw (← get-areas_of old q, (eq_by_cmp_equiv nat_cmp_total).symm dimm q, get-insert nat_cmp_total (areas_of old) dimm bytes.items q))
