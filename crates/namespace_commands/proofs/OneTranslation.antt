-- There is one reply to each command that translates addresses.
use Rattle.std.proofs.Common.{◌≡◌, ℕ, ◌==◌, List, [], ◌∷◌, Option, Some, None, refl, sym, ap, subst, ◌∙◌}
use Rattle.std.specs.Prelude.{option_map}
use Rattle.std.specs.Option.{option_or}
use Rattle.view_types.specs.declared.refusal.Refusal.{Refusal}
use Rattle.view_types.specs.declared.refusal.Refusal.TheVariants.{NoTranslation, Unusable}
use Rattle.view_types.specs.declared.reply.Reply.{Reply}
use Rattle.view_types.specs.declared.reply.Reply.TheVariants.{Module, Runs, Spa}
use Rattle.cmd_words.specs.declared.parts.Translation.{Translation}
use Rattle.cmd_words.specs.declared.parts.Translation.TheVariants as translations
use Rattle.region_map.specs.declared.platform.Platform.{Platform}
use Rattle.region_map.specs.declared.platform.Region.{Region}
use Rattle.region_map.specs.Platforms.{IsSound, region_at}
use Rattle.region_map.proofs.Disjoint.{usable_region}
use Rattle.label_table.proofs.ListTests.{find-some, some_is}
use Rattle.spa_translate.specs.Faults.{first_fault, woven_of}
use Rattle.spa_translate.specs.Pairs.{IsOneToOne}
use Rattle.spa_translate.specs.Runs.{AreRuns}
use Rattle.spa_translate.specs.Woven.{Woven}
use Rattle.spa_translate.proofs.Fit.{laid_region}
use Rattle.spa_translate.proofs.OneRuns.{runs-one}
use Rattle.spa_translate.proofs.OneToOne.{one_to_one}
use Rattle.spa_translate.specs.Pairs.{IsPair}
use Rattle.table_steps.specs.Refusals.{IsReplyBy, first_of, unknown_region, unusable}
use Rattle.namespace_commands.specs.Translations.{AreRunsOf, AreToRuns, IsModuleOf, IsSpaOf, IsToModule, IsToSpa, IsTranslated, no_translation, not_in_region, outside, part_outside, range_outside, untranslated}

reply-one : (accepted : Reply → Type 0) (o : Option Refusal) → (o ≡ None → (r t : Reply) → accepted r → accepted t → r ≡ t) → (r t : Reply) → IsReplyBy o accepted r → IsReplyBy o accepted t → r ≡ t
reply-one accepted (Some refusal) one r t a b = a ∙ sym b
reply-one accepted None one r t a b = one refl r t a b

none-of : (a b c more : Option Refusal) → option_or a (option_or b (option_or c more)) ≡ None → (b ≡ None) × (c ≡ None)
none-of None None None more is = (refl, refl)
none-of None None (Some c) more is = absurd cc
none-of None (Some b) c more is = absurd cc
none-of (Some a) b c more is = absurd cc

map-none : {A : Type 0} (f : A → Refusal) (o : Option A) → option_map f o ≡ None → o ≡ None
map-none f None is = refl
map-none f (Some a) is = absurd cc

module _ (P : Platform) (index : ℕ) where
  pub runs-reply-one : (spa len : ℕ) (r t : Reply) → AreToRuns P index spa len r → AreToRuns P index spa len t → r ≡ t
  runs-reply-one spa len r t a b = reply-one (AreRunsOf P index spa len) (first_of (untranslated P index (range_outside P index spa len ∷ []))) (λ n. one) r t a b
    where
      one : (x y : Reply) → AreRunsOf P index spa len x → AreRunsOf P index spa len y → x ≡ y
      one x y c d =
          let regions : d.region ≡ c.region = some_is (sym d.found ∙ c.found) in
          let other : AreRuns (woven_of P.tables c.region) spa len d.runs = subst (λ (q : Region). AreRuns (woven_of P.tables q) spa len d.runs) regions d.runs_are in
          c.reply_is ∙ ap Runs (runs-one (woven_of P.tables c.region) spa len c.runs d.runs c.runs_are other) ∙ sym d.reply_is

  module _ (sound : IsSound P) where
    woven-one : (more : List (Option Refusal)) (r : Region) → region_at P index ≡ Some r → first_of (untranslated P index more) ≡ None → IsOneToOne (woven_of P.tables r)
    woven-one more r found none =
        let parts = none-of (unknown_region P index) (unusable P index) (no_translation P index) (first_of more) none in
        let rules : unusable P index ≡ option_map Unusable r.rule = rw (found) refl in
        let faults : no_translation P index ≡ option_map NoTranslation (first_fault P.tables r.members) = rw (found) refl in
        let rule : r.rule ≡ None = map-none Unusable r.rule (sym rules ∙ parts.0) in
        let fault : first_fault P.tables r.members ≡ None = map-none NoTranslation (first_fault P.tables r.members) (sym faults ∙ parts.1) in
        let usable = usable_region P r sound (find-some (λ (q : Region). q.index == index) P.regions r found).0 rule in
        let is = laid_region P r P.tables usable fault in
        one_to_one is.0 is.1 is.2 (woven_of P.tables r) is.3

    pub module-reply-one : (spa : ℕ) (r t : Reply) → IsToModule P index spa r → IsToModule P index spa t → r ≡ t
    module-reply-one spa r t a b = reply-one (IsModuleOf P index spa) (first_of (untranslated P index (outside P index spa ∷ []))) one r t a b
      where
        one : first_of (untranslated P index (outside P index spa ∷ [])) ≡ None → (x y : Reply) → IsModuleOf P index spa x → IsModuleOf P index spa y → x ≡ y
        one none x y c d =
            let regions : d.region ≡ c.region = some_is (sym d.found ∙ c.found) in
            let other : IsPair (woven_of P.tables c.region) spa d.dimm d.dpa = subst (λ (q : Region). IsPair (woven_of P.tables q) spa d.dimm d.dpa) regions d.pair in
            let same = (woven-one (outside P index spa ∷ []) c.region c.found none).one_module spa c.dimm c.dpa d.dimm d.dpa c.pair other in
            c.reply_is ∙ (λ i. Module (same.0 i) (same.1 i)) ∙ sym d.reply_is

    pub spa-reply-one : (dimm dpa : ℕ) (r t : Reply) → IsToSpa P index dimm dpa r → IsToSpa P index dimm dpa t → r ≡ t
    spa-reply-one dimm dpa r t a b = reply-one (IsSpaOf P index dimm dpa) (first_of (untranslated P index (not_in_region P index dimm ∷ part_outside P index dimm dpa ∷ []))) one r t a b
      where
        one : first_of (untranslated P index (not_in_region P index dimm ∷ part_outside P index dimm dpa ∷ [])) ≡ None → (x y : Reply) → IsSpaOf P index dimm dpa x → IsSpaOf P index dimm dpa y → x ≡ y
        one none x y c d =
            let regions : d.region ≡ c.region = some_is (sym d.found ∙ c.found) in
            let other : IsPair (woven_of P.tables c.region) d.spa dimm dpa = subst (λ (q : Region). IsPair (woven_of P.tables q) d.spa dimm dpa) regions d.pair in
            let same = (woven-one (not_in_region P index dimm ∷ part_outside P index dimm dpa ∷ []) c.region c.found none).one_address c.spa d.spa dimm dpa c.pair other in
            c.reply_is ∙ ap Spa same ∙ sym d.reply_is

pub translation-one : (P : Platform) → IsSound P → (translation : Translation) (r t : Reply) → IsTranslated P translation r → IsTranslated P translation t → r ≡ t
translation-one P sound (translations.Module index spa) r t a b = module-reply-one P index sound spa r t a b
translation-one P sound (translations.Spa index dimm dpa) r t a b = spa-reply-one P index sound dimm dpa r t a b
translation-one P sound (translations.Runs index spa len) r t a b = runs-reply-one P index spa len r t a b
