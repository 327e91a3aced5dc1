-- Equations of tables, as changes at one namespace; and ranges that are free.
use Rattle.std.proofs.Common.{◌≡◌, ◌⊎◌, inl, inr, ⊎_elim, ℕ, ◌+◌, ◌≤◌, ◌<◌, true, List, Some, None}
use Rattle.std.specs.Prelude.{◌==◌, nat_lt}
use Rattle.std.specs.List.{Contains}
use Rattle.std.proofs.lemmas.Bool.{and_parts}
use Rattle.label_codec.specs.ModuleLabels.{Labels}
use Rattle.region_map.specs.declared.platform.Platform.{Platform}
use Rattle.region_map.specs.declared.platform.Region.{Region}
use Rattle.label_table.specs.Belonging.{IsDisjoint}
use Rattle.label_table.specs.Division.{IsOpen, IsOwn, is_common_free, namespaces_over, part_size}
use Rattle.label_table.specs.Spaces.{Space}
use Rattle.label_table.specs.Tables.{ChangesAt, table, with_changed_space, with_space, without_space}
use Rattle.label_table.proofs.ListTests.{eq_true}

module _ (P : Platform) (disjoint : IsDisjoint P) (r : Region) (in_P : Contains P.regions r) (L M : Labels) where
  pub changes-with_space : (s : Space) → table P M ≡ with_space r s (table P L) → ChangesAt P r s.uuid (Some s) L M
  changes-with_space s e = record { disjoint = disjoint; region_in = in_P; kinds = λ i. (e i).kind; spaces = λ i. (e i).space }

  pub changes-without_space : (u : List ℕ) → table P M ≡ without_space r u (table P L) → ChangesAt P r u None L M
  changes-without_space u e = record { disjoint = disjoint; region_in = in_P; kinds = λ i. (e i).kind; spaces = λ i. (e i).space }

  pub changes-with_changed_space : (s : Space) → table P M ≡ with_changed_space r s (table P L) → ChangesAt P r s.uuid (Some s) L M
  changes-with_changed_space s e = record { disjoint = disjoint; region_in = in_P; kinds = λ i. (e i).kind; spaces = λ i. (e i).space }

-- no namespace has a common free offset
pub free-over : (P : Platform) (L : Labels) (r : Region) (o : ℕ) → is_common_free P L r o ≡ true → namespaces_over L r o ≡ 0
free-over P L r o free = eq_true (namespaces_over L r o) 0 (and_parts (namespaces_over L r o == 0) _ (and_parts (nat_lt o (part_size r)) _ free).1).0

-- A range of common free offsets, and of the namespace's own, is open.
pub free-open : (P : Platform) (L : Labels) (r : Region) (s : Space) → ((o : ℕ) → s.offset ≤ o → o < s.offset + s.length → (is_common_free P L r o ≡ true) ⊎ IsOwn L r s.uuid o) → IsOpen L r s
free-open P L r s free o low high = ⊎_elim (λ common. inl (free-over P L r o common)) (λ own. inr own) (free o low high)
