-- Of the labels with the uuid of an accepted create all are dead.
use Rattle.std.proofs.Common.{◌≡◌, ◌⊎◌, inl, inr, ℕ, ◌≤◌, ◌<◌, Bool, true, false, not, find, ◌&&◌, List, Some, None, ap, arith}
use Rattle.std.specs.List.{Contains}
use Rattle.std.proofs.lemmas.Bool.{and_from, cases_lt}
use Rattle.view_types.specs.declared.refusal.Refusal.TheVariants.{UuidInUse}
use Rattle.label_codec.specs.declared.label.Label.{Label}
use Rattle.label_codec.specs.ModuleLabels.{IsBounded, Labels, has, number, one}
use Rattle.label_codec.proofs.Counting.{count-least, one-some}
use Rattle.region_map.specs.declared.platform.Platform.{Platform}
use Rattle.label_table.specs.Fates.{is_dead}
use Rattle.label_table.proofs.ListTests.{both, lt_from, never, none_some}
use Rattle.table_steps.specs.Create.{keeps_uuid, uuid_in_use}
use Rattle.table_steps.proofs.Lists.{find-none, map-none}

pub fresh : (P : Platform) (L : Labels) (u : List ℕ) → IsBounded L → uuid_in_use P L u ≡ None → (m : ℕ) → Contains P.modules m → (k : ℕ) (l : Label) → (L m).at k ≡ Some l → has u l ≡ true → is_dead P L m l ≡ true
fresh P L u bounded none m in_P k l is h = elim (both (is_dead P L m l)) [
  | inl dead ↦ dead
  | inr alive ↦ absurd (kept alive (cases_lt k (L m).slots))
]
  where
    kept : is_dead P L m l ≡ false → (k < (L m).slots) ⊎ ((L m).slots ≤ k) → ⊥
    kept alive (inr past) = none_some ((L m).at k) (bounded.past m k past) is
    kept alive (inl within) =
        let keeps : Label → Bool = λ x. has u x && not (is_dead P L m x) in
        let here : one keeps ((L m).at k) ≡ 1 = one-some keeps ((L m).at k) l is (and_from (has u l) (not (is_dead P L m l)) h (ap not alive)) in
        let least : one keeps ((L m).at k) ≤ number keeps (L m) = count-least keeps (L m).at k (L m).slots within in
        let some : keeps_uuid P L u m ≡ true = lt_from 0 (number keeps (L m)) (omega (arith, here, least)) in
        never (keeps_uuid P L u m) some (find-none (keeps_uuid P L u) P.modules (map-none UuidInUse (find (keeps_uuid P L u) P.modules) none) m in_P)
