-- The kept writes lie inside the areas.
use Rattle.std.proofs.Common.{◌≡◌, ℕ, zero, suc, ◌<◌, arith, Result, Ok, Err, Bool, true, false, List, [], ◌∷◌, ◌++◌, length, drop, Option, Some, None, if◌then◌else◌, refl, subst}
use Rattle.std.specs.Prelude.{IfOk}
use Rattle.rig_trait.specs.Areas.{Areas, IsWithin, written}
use Rattle.rig_trait.specs.Crashed.{IsFirst}
use Rattle.rig_trait.specs.Kept.{KeptCall, kept_write, kept_say, Keeping, bytes_kept, has_space, kept_calls, with_call, LiesIn, AllLieIn}
use Rattle.rig_trait.proofs.WrittenAreas.{IsWithin-written}

pub AllLieIn-push : (areas : Areas) (calls : List KeptCall) (call : KeptCall) → AllLieIn areas calls → LiesIn areas call → AllLieIn areas (calls ++ call ∷ [])
AllLieIn-push areas [] call all lies = (lies, tt)
AllLieIn-push areas (x ∷ calls) call all lies = (all.0, AllLieIn-push areas calls call all.1 lies)

AllLieIn-if : (b : Bool) (areas : Areas) (k new : Keeping) → AllLieIn areas k.kept → AllLieIn areas new.kept → AllLieIn areas (kept_calls (if b then Some new else Some k))
AllLieIn-if true areas k new old_lie new_lie = new_lie
AllLieIn-if false areas k new old_lie new_lie = old_lie

pub AllLieIn-with_call : (areas : Areas) (keeping : Option Keeping) (call : KeptCall) → AllLieIn areas (kept_calls keeping) → LiesIn areas call → AllLieIn areas (kept_calls (with_call call keeping))
AllLieIn-with_call areas None call all lies = tt
AllLieIn-with_call areas (Some k) call all lies = AllLieIn-if (has_space (bytes_kept call) (Some k)) areas k _ all (AllLieIn-push areas k.kept call all lies)

module _ (areas : Areas) (dimm at : ℕ) (put : List ℕ) (within : IsWithin areas dimm at (length put)) where
  LiesIn-written : (call : KeptCall) → LiesIn areas call → LiesIn (written areas dimm at put) call
  LiesIn-written (kept_write call q from old new) lies = (IsWithin-written areas dimm at put q from (length new) within lies.0, lies.1)
  LiesIn-written (kept_say call said text) lies = tt

  pub AllLieIn-written : (calls : List KeptCall) → AllLieIn areas calls → AllLieIn (written areas dimm at put) calls
  AllLieIn-written [] all = tt
  AllLieIn-written (call ∷ calls) all = (LiesIn-written call all.0, AllLieIn-written calls all.1)

pub first_lies : (areas : Areas) (calls : List KeptCall) (i : ℕ) (call : KeptCall) → IsFirst (drop i calls) call → AllLieIn areas calls → LiesIn areas call
first_lies areas [] zero call first all = let none : [] ≡ call ∷ first.0 = first.1 in absurd (cc)
first_lies areas [] (suc i) call first all = let none : [] ≡ call ∷ first.0 = first.1 in absurd (cc)
first_lies areas (x ∷ calls) zero call first all =
    let is : x ∷ calls ≡ call ∷ first.0 = first.1 in
    let same : x ≡ call = cc in
    subst (LiesIn areas) same all.0
first_lies areas (x ∷ calls) (suc i) call first all = first_lies areas calls i call first all.1

-- the call at a place, and those behind it
pub call_there : (calls : List KeptCall) (i : ℕ) → i < length calls → (call : KeptCall) × (drop i calls ≡ call ∷ drop (suc i) calls)
call_there [] i lt = absurd (omega (arith, lt))
call_there (x ∷ calls) zero lt = (x, refl)
call_there (x ∷ calls) (suc i) lt = call_there calls i (omega (arith, lt))

-- what follows at Ok
pub at_ok : {T E : Type 0} (result : Result T E) (P Q : T → Type 0) → ((value : T) → P value → Q value) → IfOk result P → IfOk result Q
at_ok (Ok value) P Q implies has = implies value has
at_ok (Err error) P Q implies has = tt
