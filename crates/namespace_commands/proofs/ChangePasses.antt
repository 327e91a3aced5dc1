-- What the passes of a destroy and of a rename make of the state, the one behind the other.
use Rattle.std.proofs.Common.{◌≡◌, inl, inr, ℕ, Bool, true, false, List, ap, sym, ◌∙◌}
use Rattle.label_codec.specs.ModuleLabels.{Labels}
use Rattle.region_map.specs.declared.platform.Region.{Region}
use Rattle.label_table.specs.Tables.{State, changed_at, table, without_namespace, without_space}
use Rattle.label_table.proofs.Equations.{changed_at-twice}
use Rattle.region_labels.specs.Fates.{with_regions}
use Rattle.namespace_passes.specs.Dropping.{IsBeforeOrWithout}
use Rattle.namespace_passes.specs.Renaming.{IsBeforeOrRenamed}
use Rattle.label_sets.specs.Healing.{IsHealedIn}
use Rattle.label_sets.specs.Marking.{IsMarkedIn}
use Rattle.label_sets.specs.Renaming.{IsRenamedIn}
use Rattle.label_sets.specs.Sets.{StoredSets, labels_in, platform_in, state_in}
use Rattle.namespace_commands.specs.Commands.{IsNamedIn, IsTableOrNamed, IsTableOrWithout}

module _ (sets : StoredSets) (r : Region) (u : List ℕ) where
  pub renamed-fits : (name : List ℕ) (N : Labels) → IsBeforeOrRenamed (platform_in sets) r u name (labels_in sets) N → IsTableOrNamed sets r u name N
  renamed-fits name N (inl kept) = inl (ap (λ (t : State). t.table) kept)
  renamed-fits name N (inr named) = inr (ap (λ (t : State). t.table) named)

  module _ (mid : StoredSets) (regions : mid.regions ≡ sets.regions) where
    there : (N : Labels) → table (platform_in sets) N ≡ table (platform_in mid) N
    there N = ap (λ (rs : List Region). table (with_regions rs) N) (sym regions)

    -- Its labels are marked, and then freed.
    module _ (marked : IsMarkedIn sets mid u r) where
      pub dropped-state : without_namespace r u (state_in mid) ≡ without_namespace r u (state_in sets)
      dropped-state =
          let marks : changed_at r u false (state_in mid).pending ≡ changed_at r u false (state_in sets).pending =
          ap (λ (f : ℕ → List ℕ → Bool). changed_at r u false f) marked.marks ∙ changed_at-twice r u false true (state_in sets).pending in
          λ i. record { table = without_space r u (marked.same_table i); pending = marks i }

      pub dropped-fits : (N : Labels) → IsBeforeOrWithout (platform_in mid) r u (labels_in mid) N → IsTableOrWithout sets r u N
      dropped-fits N (inl kept) = inl (there N ∙ ap (λ (t : State). t.table) kept ∙ marked.same_table)
      dropped-fits N (inr gone) = inr (there N ∙ ap (λ (t : State). t.table) gone ∙ ap (without_space r u) marked.same_table)

    -- The label of position 0 has the name, and then it is healed.
    module _ (name : List ℕ) (renamed : IsRenamedIn sets mid u name r) where
      pub healed-fits : (N : Labels) → table (platform_in mid) N ≡ (state_in mid).table → IsTableOrNamed sets r u name N
      healed-fits N kept = inr (there N ∙ kept ∙ ap (λ (t : State). t.table) renamed.state_is)

      pub named-is : (now : StoredSets) → IsHealedIn mid now u r → IsNamedIn sets now r u name
      named-is now healed = record {
        table_is = healed.same_table ∙ ap (λ (t : State). t.table) renamed.state_is;
        marks = healed.marks ∙ ap (λ (t : State). changed_at r u false t.pending) renamed.state_is ∙ changed_at-twice r u false true (state_in sets).pending;
      }
