-- The refusals of a command in a region that there is.
use Rattle.std.proofs.Common.{◌≡◌, ℕ, List, [], ◌∷◌, Some}
use Rattle.std.specs.Prelude.{is_none, option_map}
use Rattle.std.specs.Option.{option_and_then}
use Rattle.view_types.specs.declared.extents.Extent.{Extent}
use Rattle.view_types.specs.declared.refusal.Refusal.TheVariants.{UnknownRegion, Unusable}
use Rattle.cmd_words.specs.declared.name_keys.NameKey.{NameKey}
use Rattle.label_codec.specs.ModuleLabels.{Labels}
use Rattle.region_map.specs.declared.platform.Platform.{Platform}
use Rattle.region_map.specs.declared.platform.Region.{Region}
use Rattle.region_map.specs.Platforms.{region_at}
use Rattle.label_table.specs.Statuses.{status}
use Rattle.table_steps.specs.declared.new_namespace.NewNamespace.{NewNamespace}
use Rattle.table_steps.specs.Create.{bad_size_in, create_refusals, known_region_refusals, name_in_use_in, no_space_in, uuid_in_use}
use Rattle.table_steps.specs.Destroy.{destroy_refusals, destroy_refusals_in}
use Rattle.table_steps.specs.Namespaces.{ambiguous_in, read_only_in, unknown_in}
use Rattle.table_steps.specs.Refusals.{no_slots_in, not_ready_by, refused_if, unhealed_in}
use Rattle.table_steps.specs.Rename.{name_taken_in, rename_refusals, rename_refusals_in}

pub known-region : (P : Platform) (L : Labels) (free : List Extent) (a : NewNamespace) (r : Region) → region_at P a.region ≡ Some r → create_refusals P L free a ≡ known_region_refusals P L free a r
known-region P L free a r found =
    λ i. refused_if (is_none (found i)) (UnknownRegion a.region)
    ∷ option_and_then (λ (q : Region). option_map Unusable q.rule) (found i)
    ∷ option_and_then (λ (q : Region). not_ready_by (status L q)) (found i)
    ∷ option_and_then (unhealed_in P L) (found i)
    ∷ option_and_then (bad_size_in a.size) (found i)
    ∷ option_and_then (name_in_use_in L a.name) (found i)
    ∷ uuid_in_use P L a.uuid
    ∷ option_and_then (no_space_in free a.size) (found i)
    ∷ option_and_then (no_slots_in P L 2) (found i)
    ∷ []

module _ (P : Platform) (L : Labels) (index : ℕ) (key : NameKey) (r : Region) (found : region_at P index ≡ Some r) where
  pub known-destroy : destroy_refusals P L index key ≡ destroy_refusals_in P L key r
  known-destroy =
      λ i. refused_if (is_none (found i)) (UnknownRegion index)
      ∷ option_and_then (λ (q : Region). option_map Unusable q.rule) (found i)
      ∷ option_and_then (λ (q : Region). not_ready_by (status L q)) (found i)
      ∷ option_and_then (unhealed_in P L) (found i)
      ∷ option_and_then (unknown_in L key) (found i)
      ∷ option_and_then (ambiguous_in L key) (found i)
      ∷ option_and_then (read_only_in L key) (found i)
      ∷ option_and_then (no_slots_in P L 1) (found i)
      ∷ []

  pub known-rename : (name : List ℕ) → rename_refusals P L index key name ≡ rename_refusals_in P L key name r
  known-rename name =
      λ i. refused_if (is_none (found i)) (UnknownRegion index)
      ∷ option_and_then (λ (q : Region). option_map Unusable q.rule) (found i)
      ∷ option_and_then (λ (q : Region). not_ready_by (status L q)) (found i)
      ∷ option_and_then (unhealed_in P L) (found i)
      ∷ option_and_then (unknown_in L key) (found i)
      ∷ option_and_then (ambiguous_in L key) (found i)
      ∷ option_and_then (read_only_in L key) (found i)
      ∷ option_and_then (name_taken_in L key name) (found i)
      ∷ option_and_then (no_slots_in P L 1) (found i)
      ∷ []
