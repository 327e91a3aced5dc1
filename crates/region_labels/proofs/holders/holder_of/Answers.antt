use Rattle.std.proofs.Common.{◌≡◌, inl, inr, ⊎_elim, ℕ, ◌+◌, ◌≤◌, true, false, List, [], ◌∷◌, ◌++◌, take, Option, Some, None, min, refl, sym, ap, subst, ◌∙◌, arith}
use Rattle.std.specs.Option.{option_map_or}
use Rattle.std.proofs.lemmas.Bool.{cases_lt}
use Rattle.std.proofs.lemmas.List.{take_all, take_more}
use Rattle.std.proofs.lemmas.List.Elements.{Contains-append_left, Contains-push, Contains-push_cases}
use Rattle.label_table.proofs.ListTests.{never}
use Rattle.label_codec.specs.ModuleLabels.{Labels}
use Rattle.region_map.specs.declared.platform.Platform.{Platform}
use Rattle.region_labels.specs.declared.modules.LoadedModule.{LoadedModule}
use Rattle.region_labels.specs.Fates.{platform_of}
use Rattle.region_labels.specs.Modules.{labels_in}
use Rattle.region_labels.specs.Holders.{IsHolder, IsLeastHolder, has_uuid}
use Rattle.region_labels.proofs.holders.holder_of.Goals as goal
use Rattle.region_labels.proofs.holders.holder_of.Goals.{else-has_uuid, then-has_uuid}

module _ (P : Platform) (L : Labels) (u : List ℕ) (ms : List LoadedModule) (m : LoadedModule) where
  -- a module more that has the uuid, and one that hasn't
  holder-more : (o : Option ℕ) → IsHolder P L u ms o → has_uuid P L u m ≡ true → IsHolder P L u (ms ++ m ∷ []) (Some (option_map_or (λ other. min other m.dimm) o m.dimm))
  holder-more None none has = record {
    holder = m;
    listed = Contains-push ms m;
    is = refl;
    holds = has;
    least = λ x c e. ⊎_elim (λ there. never (has_uuid P L u x) e (none x there)) (λ is. subst (λ (y : LoadedModule). m.dimm ≤ y.dimm) is (omega arith)) (Contains-push_cases ms m x c);
  }
  holder-more (Some h) first has = elim (cases_lt m.dimm h) [
    | inl lt ↦
        let is : min h m.dimm ≡ m.dimm = omega arith in
        subst (IsLeastHolder P L u (ms ++ m ∷ [])) (sym is) (record {
          holder = m;
          listed = Contains-push ms m;
          is = refl;
          holds = has;
          least = λ x c e. ⊎_elim (λ there. let low : h ≤ x.dimm = first.least x there e in omega arith) (λ is. subst (λ (y : LoadedModule). m.dimm ≤ y.dimm) is (omega arith)) (Contains-push_cases ms m x c);
        })
    | inr le ↦
        let is : min h m.dimm ≡ h = omega arith in
        subst (IsLeastHolder P L u (ms ++ m ∷ [])) (sym is) (record {
          holder = first.holder;
          listed = Contains-append_left ms (m ∷ []) first.holder first.listed;
          is = first.is;
          holds = first.holds;
          least = λ x c e. ⊎_elim (λ there. first.least x there e) (λ is. subst (λ (y : LoadedModule). h ≤ y.dimm) is le) (Contains-push_cases ms m x c);
        })
  ]

  holder-other : (o : Option ℕ) → IsHolder P L u ms o → has_uuid P L u m ≡ false → IsHolder P L u (ms ++ m ∷ []) o
  holder-other None none has = λ x c. ⊎_elim (λ there. none x there) (λ is. ap (has_uuid P L u) (sym is) ∙ has) (Contains-push_cases ms m x c)
  holder-other (Some h) first has = record {
    holder = first.holder;
    listed = Contains-append_left ms (m ∷ []) first.holder first.listed;
    is = first.is;
    holds = first.holds;
    least = λ x c e. ⊎_elim (λ there. first.least x there e) (λ is. never (has_uuid P L u m) (ap (has_uuid P L u) is ∙ e) has) (Contains-push_cases ms m x c);
  }

pub loop-loaded-preserved : goal.loop-loaded-preserved
loop-loaded-preserved c =
    let P = platform_of c.args.regions.now in
    let L = labels_in c.args.modules.now in
    let u = c.args.uuid.now in
    let at = c.loop-loaded.loaded-index in
    let m = c.loaded-item.result in
    let more : take (at + 1) c.args.modules.now ≡ take at c.args.modules.now ++ m ∷ [] =
    take_more c.args.modules.now at m c.loop-loaded-test.true ∙ ap (λ x. take at c.args.modules.now ++ x ∷ []) (sym c.loaded-item.is) in
    subst (λ ms. IsHolder P L u ms c.if-has_uuid.least) (sym more)
    (elim c.if-has_uuid.branch [
      | then-has_uuid w ↦ subst (IsHolder P L u (take at c.args.modules.now ++ m ∷ [])) (sym (w.least-is ∙ ap Some w.lesser.ensures))
          (holder-more P L u (take at c.args.modules.now) m c.loop-loaded.least c.loop-loaded.invariant (sym c.has_uuid.ensures ∙ w.if-has_uuid.true))
      | else-has_uuid w ↦ subst (IsHolder P L u (take at c.args.modules.now ++ m ∷ [])) (sym w.least-is)
          (holder-other P L u (take at c.args.modules.now) m c.loop-loaded.least c.loop-loaded.invariant (sym c.has_uuid.ensures ∙ w.if-has_uuid.false))
    ])

pub returns : goal.returns
returns c =
    subst (λ ms. IsHolder (platform_of c.args.regions.now) (labels_in c.args.modules.now) c.args.uuid.now ms c.loop-loaded.least)
    (take_all c.loop-loaded.loaded-index c.args.modules.now c.loop-loaded-test.false) c.loop-loaded.invariant
