-- Passes that keep the table.
use Rattle.std.proofs.Common.{◌≡◌, ℕ, List, Result, Ok, subst, ◌∙◌}
use Rattle.rig_trait.specs.declared.shown.Shown.{Ghosts}
use Rattle.label_codec.specs.ModuleLabels.{Labels}
use Rattle.region_map.specs.declared.platform.Region.{Region}
use Rattle.label_table.specs.Tables.{table}
use Rattle.region_labels.specs.Fates.{with_regions}
use Rattle.module_flips.specs.declared.flips.AreaFailed.{AreaFailed}
use Rattle.module_flips.specs.Passes.{IsPass}
use Rattle.module_flips.proofs.Passes.{pass-on}
use Rattle.label_sets.specs.Sets.{IsTableOf, StoredSets, kept_in, labels_in, state_in}

-- labels that stand for a table do so whichever state tells of the regions
pub same-table : (s now : StoredSets) → now.regions ≡ s.regions → IsTableOf s (labels_in now) → (state_in now).table ≡ (state_in s).table
same-table s now regions same = (λ i. table (with_regions (regions i)) (labels_in now)) ∙ same

pub table-on : (s now : StoredSets) → now.regions ≡ s.regions → IsTableOf s (labels_in now) → (labels : Labels) → IsTableOf now labels → IsTableOf s labels
table-on s now regions same labels has = subst (λ (rs : List Region). table (with_regions rs) labels ≡ (state_in now).table) regions has ∙ same-table s now regions same

-- two of them
pub tables-on : {R S T : Type 0} {m : Ghosts R} {old mid new : R} {hs : List ℕ} {value : S} {result : Result T AreaFailed} (s s1 s2 : StoredSets) → IsPass hs (IsTableOf s) m (kept_in s) old (kept_in s1) mid (Ok value)
    → IsPass hs (IsTableOf s1) m (kept_in s1) mid (kept_in s2) new result → IsPass hs (IsTableOf s) m (kept_in s) old (kept_in s2) new result
tables-on s s1 s2 first second = pass-on first (table-on s s1 first.regions first.labels) second

pub table-still : {R T : Type 0} {m : Ghosts R} {old new : R} {hs : List ℕ} {result : Result T AreaFailed} (s now : StoredSets) → IsPass hs (IsTableOf s) m (kept_in s) old (kept_in now) new result → (state_in now).table ≡ (state_in s).table
table-still s now pass = same-table s now pass.regions pass.labels
