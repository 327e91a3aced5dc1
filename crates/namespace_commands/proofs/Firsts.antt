-- The first refusal of a command that translates addresses.
use Rattle.std.proofs.Common.{◌≡◌, ℕ, List, [], Option, Some, None, refl}
use Rattle.std.specs.Option.{option_or}
use Rattle.view_types.specs.declared.refusal.Refusal.{Refusal}
use Rattle.region_map.specs.declared.platform.Platform.{Platform}
use Rattle.spa_translate.specs.Woven.{Woven}
use Rattle.table_steps.specs.Refusals.{first_of, unknown_region, unusable}
use Rattle.namespace_commands.specs.Translations.{IsWoven, no_translation, untranslated}

pub or_more : (a b c : Option Refusal) (more : Option Refusal) (refusal : Refusal) → option_or a (option_or b (option_or c None)) ≡ Some refusal → option_or a (option_or b (option_or c more)) ≡ Some refusal
or_more (Some a) b c more refusal is = is
or_more None (Some b) c more refusal is = is
or_more None None (Some c) more refusal is = is
or_more None None None more refusal is = absurd cc

-- a refusal comes before all others of a longer list
pub first_more : (platform : Platform) (index : ℕ) (more : List (Option Refusal)) (refusal : Refusal) → first_of (untranslated platform index []) ≡ Some refusal
    → first_of (untranslated platform index more) ≡ Some refusal
first_more platform index more refusal is = or_more (unknown_region platform index) (unusable platform index) (no_translation platform index) (first_of more) refusal is

or_none : (a b c : Option Refusal) (more : Option Refusal) → a ≡ None → b ≡ None → c ≡ None → option_or a (option_or b (option_or c more)) ≡ more
or_none a b c more no_a no_b no_c = rw (no_a, no_b, no_c) refl

-- none of them applies to a region whose addresses are translated
pub first_behind : (platform : Platform) (index : ℕ) (more : List (Option Refusal)) (weave : Woven) → IsWoven platform index weave → first_of (untranslated platform index more) ≡ first_of more
first_behind platform index more weave woven =
    or_none (unknown_region platform index) (unusable platform index) (no_translation platform index) (first_of more)
    (rw (woven.found) refl) (rw (woven.found, woven.usable) refl) (rw (woven.found, woven.translated) refl)
