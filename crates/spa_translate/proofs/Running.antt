-- Runs of parts, one part behind the other.
use Rattle.std.proofs.Common.{◌≡◌, ℕ, ◌+◌, ◌^◌, ◌<◌, ◌≤◌, List, [], ◌∷◌, ◌++◌, Result, Ok, Err, length, get_or, map, take, refl, sym, ap, subst, ◌∙◌, arith}
use Rattle.std.specs.Prelude.{All, OnOk}
use Rattle.std.specs.List.{AllZip}
use Rattle.std.proofs.lemmas.List.{flat_map_more, take_all, take_more}
use Rattle.view_types.specs.declared.extents.Extent.{Extent}
use Rattle.view_types.specs.declared.translation.Run.{Run}
use Rattle.view_types.specs.Intervals.{end_of}
use Rattle.spa_translate.specs.declared.strand.Strand.{Strand}
use Rattle.spa_translate.specs.Woven.{Woven}
use Rattle.spa_translate.specs.Runs.{AreRunsIn, AreRunsOf, AreUpTo, run_of}
use Rattle.spa_translate.proofs.Spans.{ends_fit}

zip_push : {A B : Type 0} (R : A → B → Type 0) (xs : List A) (ys : List B) (x : A) (y : B) → AllZip R xs ys → R x y → AllZip R (xs ++ x ∷ []) (ys ++ y ∷ [])
zip_push R [] [] x y all one = (one, tt)
zip_push R [] (v ∷ vs) x y all one = absurd all
zip_push R (u ∷ us) [] x y all one = absurd all
zip_push R (u ∷ us) (v ∷ vs) x y all one = (all.0, zip_push R us vs x y all.1 one)

-- no part
pub no_runs : (woven : Woven) (spa len : ℕ) (runs : List Run) → runs ≡ [] → AreRunsOf woven spa len [] runs
no_runs woven spa len runs none = record { parts = []; each = tt; joined = none }

-- one part more
pub runs_more : (woven : Woven) (spa len : ℕ) (strands : List Strand) (i : ℕ) (a : Strand) (old new : List Run) (es : List Extent) → i < length strands → a ≡ get_or strands i a → AreRunsOf woven spa len (take i strands) old
    → AreUpTo woven spa len a a.size es → new ≡ old ++ map (run_of a) es → AreRunsOf woven spa len (take (i + 1) strands) new
runs_more woven spa len strands i a old new es below is before maximal more =
    let taken : take (i + 1) strands ≡ take i strands ++ a ∷ [] = take_more strands i a below ∙ ap (λ (x : Strand). take i strands ++ x ∷ []) (sym is) in
    let part : List Run = map (run_of a) es in
    let here : AreRunsIn woven spa len a part = record { extents = es; maximal = maximal; are = refl } in
    subst (λ (xs : List Strand). AreRunsOf woven spa len xs new) (sym taken)
    (record {
      parts = before.parts ++ part ∷ [];
      each = zip_push (AreRunsIn woven spa len) (take i strands) before.parts a part before.each here;
      joined = more ∙ ap (λ (xs : List Run). xs ++ part) before.joined ∙ flat_map_more (λ (x : List Run). x) [] before.parts part;
    })

pub runs_all : (woven : Woven) (spa len : ℕ) (strands : List Strand) (i : ℕ) (runs : List Run) → length strands ≤ i → AreRunsOf woven spa len (take i strands) runs → AreRunsOf woven spa len strands runs
runs_all woven spa len strands i runs past are = subst (λ (xs : List Strand). AreRunsOf woven spa len xs runs) (take_all i strands past) are

-- the addresses of the extents are those of the part
pub starts_fit : (woven : Woven) (spa len : ℕ) (a : Strand) (es : List Extent) → AreUpTo woven spa len a a.size es → a.base + a.size ≤ 2 ^ 63 → All (λ (e : Extent). a.base + e.start ≤ 2 ^ 63) es
starts_fit woven spa len a es are end k d below =
    let ends : end_of (get_or es k d) ≤ a.size = ends_fit es 0 a.size are.ascend k d below in
    omega (arith, ends, end)

-- what follows where a call is Ok
pub ok_then : {T E : Type 0} (r : Result T E) (P Q : Type 0) → OnOk r P → (P → Q) → OnOk r Q
ok_then (Ok x) P Q is then = then is
ok_then (Err e) P Q is then = tt
