-- The answers of a command that changes the namespace that fits a key.
use Rattle.std.proofs.Common.{◌≡◌, inl, inr, ℕ, List, [], ◌∷◌, Option, Some, None, refl, sym, ap, subst, ◌∙◌}
use Rattle.std.specs.Option.{option_map_or}
use Rattle.view_types.specs.declared.namespaces.Namespace.{Namespace}
use Rattle.view_types.specs.declared.refusal.Refusal.{Refusal}
use Rattle.view_types.specs.declared.reply.Reply.{Reply}
use Rattle.view_types.specs.declared.reply.Reply.TheVariants.{Destroyed, Refused, Renamed}
use Rattle.cmd_words.specs.declared.name_keys.NameKey.{NameKey}
use Rattle.label_codec.specs.ModuleLabels.{Labels}
use Rattle.region_map.specs.declared.platform.Platform.{Platform}
use Rattle.region_map.specs.declared.platform.Region.{Region}
use Rattle.region_map.specs.Platforms.{region_at}
use Rattle.label_table.specs.Tables.{State, state, table}
use Rattle.region_labels.specs.Regions.{handles}
use Rattle.region_labels.specs.Statuses.{space_in}
use Rattle.label_sets.specs.Sets.{StoredSets, labels_in, platform_in, state_in}
use Rattle.table_steps.specs.Changes.{IsDoneBy}
use Rattle.table_steps.specs.Destroy.{Destroys, IsDestroyed, destroy_refusals, with_destroyed}
use Rattle.table_steps.specs.Namespaces.{fitting}
use Rattle.table_steps.specs.Refusals.{first_of}
use Rattle.table_steps.specs.Rename.{IsRenamed, Renames, rename_refusals, with_renamed}
use Rattle.namespace_commands.specs.Changes.{IsBeforeOrBehind}
use Rattle.namespace_commands.specs.Commands.{IsTableOrNamed, IsTableOrWithout}
use Rattle.namespace_commands.specs.Create.{modules_of}
use Rattle.namespace_commands.specs.Keys.{CanChange}
use Rattle.namespace_commands.proofs.ChangedSpaces.{name-table}
use Rattle.namespace_commands.proofs.RecoveredSpaces.{state-there}

-- A refused command changes nothing.
pub done-refused : (first : Option Refusal) (before : State) (accepted : Reply → State → Type 0) (refusal : Refusal) (after : State) → first ≡ Some refusal → after ≡ before → IsDoneBy first before accepted (Refused refusal) after
done-refused first before accepted refusal after is same = subst (λ (o : Option Refusal). IsDoneBy o before accepted (Refused refusal) after) (sym is) (refl, same)

-- One that nothing refuses is done.
pub done-accepted : (first : Option Refusal) (before : State) (accepted : Reply → State → Type 0) (reply : Reply) (after : State) → first ≡ None → accepted reply after → IsDoneBy first before accepted reply after
done-accepted first before accepted reply after none is = subst (λ (o : Option Refusal). IsDoneBy o before accepted reply after) (sym none) is

-- the modules of the region that is found
pub modules-found : (P : Platform) (index : ℕ) (r : Region) → region_at P index ≡ Some r → handles r ≡ modules_of P index
modules-found P index r known = ap (λ (found : Option Region). option_map_or handles found []) (sym known)

module _ (P : Platform) (sets : StoredSets) (same : sets.regions ≡ P.regions) (index : ℕ) (key : NameKey) (r : Region) (known : region_at P index ≡ Some r) (s : Namespace) (only : fitting (labels_in sets) r key ≡ space_in s ∷ []) where
  abbrev L : Labels
  L = labels_in sets

  abbrev u : List ℕ
  u = s.uuid

  there : (N : Labels) → table P N ≡ table (platform_in sets) N
  there N = ap (λ (t : State). t.table) (sym (state-there P sets same N))

  was : state_in sets ≡ state P L
  was = state-there P sets same L

  module _ (unrefused : first_of (destroy_refusals P L index key) ≡ None) where
    pub destroys : (after : State) → after ≡ with_destroyed r u (state_in sets) → Destroys P L index key (Destroyed u) after
    destroys after is = done-accepted (first_of (destroy_refusals P L index key)) (state P L) (IsDestroyed P L index key) (Destroyed u) after unrefused (record {
      region = r;
      found = known;
      space = space_in s;
      only = only;
      after_is = is ∙ ap (with_destroyed r u) was;
      reply_is = refl;
    })

    pub destroy-fits : (N : Labels) → IsTableOrWithout sets r u N → IsBeforeOrBehind P L (Destroys P L index key) N
    destroy-fits N (inl kept) = inl (there N ∙ kept ∙ ap (λ (t : State). t.table) was)
    destroy-fits N (inr gone) = inr (record {
      reply = Destroyed u;
      after = with_destroyed r u (state_in sets);
      done = destroys (with_destroyed r u (state_in sets)) refl;
      table_is = there N ∙ gone;
    })

  module _ (name : List ℕ) (unrefused : first_of (rename_refusals P L index key name) ≡ None) where
    pub renames : (after : State) → after ≡ with_renamed r name (space_in s) (state_in sets) → Renames P L index key name (Renamed u name) after
    renames after is = done-accepted (first_of (rename_refusals P L index key name)) (state P L) (IsRenamed P L index key name) (Renamed u name) after unrefused (record {
      region = r;
      found = known;
      space = space_in s;
      only = only;
      after_is = is ∙ ap (with_renamed r name (space_in s)) was;
      reply_is = refl;
    })

    pub rename-fits : region_at P r.index ≡ Some r → CanChange P L s r → (N : Labels) → IsTableOrNamed sets r u name N → IsBeforeOrBehind P L (Renames P L index key name) N
    rename-fits own can N (inl kept) = inl (there N ∙ kept ∙ ap (λ (t : State). t.table) was)
    rename-fits own can N (inr named) = inr (record {
      reply = Renamed u name;
      after = with_renamed r name (space_in s) (state_in sets);
      done = renames (with_renamed r name (space_in s) (state_in sets)) refl;
      table_is = there N ∙ named ∙ name-table P sets (sym same) r own s can name;
    })
