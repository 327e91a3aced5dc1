-- The commands on a region.
use Rattle.std.proofs.Common.{◌≡◌, ℕ, Bool, eqb, eqb-true, false, true, List, [], ◌∷◌, Option, Some, None, Result, Ok, Err, IfErr, map, refl, sym, subst, ◌||◌}
use Rattle.std.specs.Prelude.{◌==◌}
use Rattle.std.specs.List.{All, Contains, list_any}
use Rattle.std.specs.Option.{option_map_or}
use Rattle.std.proofs.lemmas.List.Elements.{All-head, All-tail}
use Rattle.view_types.specs.declared.reply.Reply.{Reply}
use Rattle.rig_trait.specs.declared.shown.Shown.{Ghosts}
use Rattle.label_area.specs.Flips.{is_among}
use Rattle.region_map.specs.declared.platform.Member.{Member}
use Rattle.region_map.specs.declared.platform.Platform.{Platform}
use Rattle.region_map.specs.declared.platform.Region.{Region}
use Rattle.region_map.specs.Platforms.{IsSound, region_at}
use Rattle.label_table.proofs.ListTests.{eq_same, find-some, list_any-at}
use Rattle.region_labels.specs.Regions.{handles}
use Rattle.label_sets.proofs.Platforms.{known-members}
use Rattle.namespace_commands.specs.declared.creation.ChangeFault.{ChangeFault}
use Rattle.namespace_commands.specs.declared.creation.ChangeFault.TheVariants.{Area, Memory}
use Rattle.module_flips.specs.Stops.{HasAreaCause}
use Rattle.namespace_commands.specs.Create.{area_failed, modules_of}
use Rattle.namespace_commands.specs.Releases.{IsAreaOf}

member-known : (ms : List Member) (hs : List ℕ) (dimm : ℕ) → All (λ (m : Member). Contains hs m.handle) ms → is_among (map (λ (m : Member). m.handle) ms) dimm ≡ true → Contains hs dimm
member-known [] hs dimm all is = absurd (let differ : false ≡ true = is in cc)
member-known (x ∷ ms) hs dimm all is = by (member-known ms hs dimm (All-tail (λ (m : Member). Contains hs m.handle) x ms all)) (eqb dimm x.handle) refl is
  where
    by : (is_among (map (λ (m : Member). m.handle) ms) dimm ≡ true → Contains hs dimm) → (b : Bool) → eqb dimm x.handle ≡ b → (b || is_among (map (λ (m : Member). m.handle) ms) dimm) ≡ true → Contains hs dimm
    by rest true e t = subst (Contains hs) (sym (eqb-true dimm x.handle e)) (All-head (λ (m : Member). Contains hs m.handle) x ms all)
    by rest false e t = rest t

-- a module of a region is one of the platform's
region-known : (P : Platform) → IsSound P → (index dimm : ℕ) → is_among (modules_of P index) dimm ≡ true → list_any (λ handle. handle == dimm) P.modules ≡ true
region-known P sound index dimm = by (region_at P index) refl
  where
    by : (o : Option Region) → region_at P index ≡ o → is_among (option_map_or handles o []) dimm ≡ true → list_any (λ handle. handle == dimm) P.modules ≡ true
    by None e is = absurd (let differ : false ≡ true = is in cc)
    by (Some r) e is =
        let in_P : Contains P.regions r = (find-some (λ (q : Region). q.index == index) P.regions r e).0 in
        list_any-at (λ handle. handle == dimm) P.modules dimm (member-known r.members P.modules dimm (known-members P sound r in_P) is) (eq_same dimm dimm refl)

-- a command on a region fails at a module of the platform
pub region-among : {R : Type 0} (m : Ghosts R) (old new : R) (P : Platform) → IsSound P → (index : ℕ) (result : Result Reply ChangeFault) → HasAreaCause (modules_of P index) m old new (area_failed result) → IfErr result (IsAreaOf P)
region-among m old new P sound index (Ok reply) cause = tt
region-among m old new P sound index (Err (Area dimm)) cause = region-known P sound index dimm cause.known
region-among m old new P sound index (Err Memory) cause = tt
