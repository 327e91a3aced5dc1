-- The answers of a release.
use Rattle.std.proofs.Common.{◌≡◌, inl, inr, ℕ, ◌<◌, true, List, Some, None, refl, sym, ap, subst, ◌∙◌}
use Rattle.std.specs.Prelude.{◌==◌}
use Rattle.std.specs.List.{list_any}
use Rattle.view_types.specs.declared.refusal.Refusal.{Refusal}
use Rattle.view_types.specs.declared.reply.Reply.TheVariants.{Refused, Released}
use Rattle.label_codec.specs.ModuleLabels.{Labels, has, is_ready}
use Rattle.region_map.specs.declared.platform.Platform.{Platform}
use Rattle.region_map.specs.declared.platform.Region.{Region}
use Rattle.region_map.specs.Platforms.{IsSound}
use Rattle.label_table.specs.Tables.{State, state, table}
use Rattle.region_labels.specs.Fates.{with_regions}
use Rattle.module_flips.specs.Releases.{IsBeforeOrReleased, released_state}
use Rattle.label_sets.specs.Releases.{CanReleaseIn}
use Rattle.label_sets.specs.Sets.{StoredSets, labels_in, platform_in, state_in}
use Rattle.table_steps.specs.Refusals.{first_of}
use Rattle.table_steps.specs.Release.{IsReleased, MayBeReleased, Releases, release_refusals, released}
use Rattle.table_steps.proofs.AcceptedReleases.{unrefused-release}
use Rattle.namespace_commands.specs.Changes.{IsBeforeOrBehind}
use Rattle.namespace_commands.proofs.ChangeEnds.{done-accepted, done-refused}
use Rattle.namespace_commands.proofs.RecoveredSpaces.{state-there}

-- A release that is refused, or that nothing refuses.
module _ (P : Platform) (sets : StoredSets) (same : sets.regions ≡ P.regions) (dimm : ℕ) (u : List ℕ) where
  abbrev L : Labels
  L = labels_in sets

  was : state_in sets ≡ state P L
  was = state-there P sets same L

  pub releases-refused : (refusal : Refusal) → first_of (release_refusals P L dimm u) ≡ Some refusal → Releases P L dimm u (Refused refusal) (state_in sets)
  releases-refused refusal is = done-refused (first_of (release_refusals P L dimm u)) (state P L) (IsReleased P L dimm u) refusal (state_in sets) is was

  module _ (unrefused : first_of (release_refusals P L dimm u) ≡ None) where
    pub releases : (count : ℕ) (after : State) → count ≡ (state_in sets).table.held dimm (has u) → after ≡ released_state (platform_in sets) dimm u (state_in sets) → Releases P L dimm u (Released count) after
    releases count after counted is = done-accepted (first_of (release_refusals P L dimm u)) (state P L) (IsReleased P L dimm u) (Released count) after unrefused (record {
      after_is = is ∙ ap (λ (rs : List Region). released_state (with_regions rs) dimm u (state_in sets)) same ∙ ap (released P dimm u) was;
      reply_is = ap Released (counted ∙ ap (λ (t : State). t.table.held dimm (has u)) was);
    })

    there : (N : Labels) → table P N ≡ table (platform_in sets) N
    there N = ap (λ (t : State). t.table) (sym (state-there P sets same N))

    pub release-fits : (N : Labels) → IsBeforeOrReleased (platform_in sets) dimm u L N → IsBeforeOrBehind P L (Releases P L dimm u) N
    release-fits N (inl kept) = inl (there N ∙ ap (λ (t : State). t.table) (kept ∙ was))
    release-fits N (inr gone) = inr (record {
      reply = Released ((state_in sets).table.held dimm (has u));
      after = released_state (platform_in sets) dimm u (state_in sets);
      done = releases ((state_in sets).table.held dimm (has u)) (released_state (platform_in sets) dimm u (state_in sets)) refl refl;
      table_is = there N ∙ ap (λ (t : State). t.table) gone;
    })

    module _ (sound : IsSound P) where
      may : MayBeReleased P L dimm u
      may = unrefused-release P sound L dimm u unrefused

      pub can-release : CanReleaseIn sets dimm u
      can-release = record {
        ready = ap is_ready may.ready;
        held = subst (λ (t : State). 0 < t.table.held dimm (has u)) (sym was) may.some;
      }

      pub known-there : (other : ℕ) → other ≡ dimm → list_any (λ handle. handle == other) P.modules ≡ true
      known-there other is = ap (λ h. list_any (λ handle. handle == h) P.modules) is ∙ may.known
