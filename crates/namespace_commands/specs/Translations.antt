-- The commands that translate addresses of a region (ACPI 6.2, sections 5.2.25.3 and 5.2.25.4): why each is refused, in
-- order, and its reply where nothing refuses it.
use Rattle.std.specs.Prelude.{◌≡◌, ℕ, ◌&&◌, ◌==◌, Bool, List, [], ◌∷◌, Option, Some, None, not, option_map}
use Rattle.std.specs.List.{list_any}
use Rattle.view_types.specs.Intervals.{is_within}
use Rattle.view_types.specs.declared.refusal.Refusal.{Refusal}
use Rattle.view_types.specs.declared.refusal.Refusal.TheVariants.{NoTranslation, Outside, NotInRegion}
use Rattle.view_types.specs.declared.reply.Reply.{Reply}
use Rattle.view_types.specs.declared.reply.Reply.TheVariants.{Module, Spa, Runs}
use Rattle.view_types.specs.declared.translation.Run.{Run}
use Rattle.cmd_words.specs.declared.parts.Translation.{Translation}
use Rattle.cmd_words.specs.declared.parts.Translation.TheVariants as translations
use Rattle.region_map.specs.declared.platform.Region.{Region}
use Rattle.region_map.specs.declared.platform.Platform.{Platform}
use Rattle.region_map.specs.Platforms.{region_at}
use Rattle.spa_translate.specs.Faults.{first_fault, woven_of}
use Rattle.spa_translate.specs.Pairs.{IsPair, has_range, is_member}
use Rattle.spa_translate.specs.Runs.{AreRuns}
use Rattle.spa_translate.specs.Woven.{Woven}
use Rattle.spa_translate.specs.declared.strand.Strand.{Strand}
use Rattle.table_steps.specs.Refusals.{IsReplyBy, by_region, first_of, refused_if, unknown_region, unusable}
use Rattle.namespace_commands.specs.declared.refusals.Unanswered.{Unanswered}
use Rattle.namespace_commands.specs.declared.refusals.Unanswered.TheVariants as unanswereds

-- its addresses cannot be translated
abbrev pub no_translation : Platform → ℕ → Option Refusal
no_translation platform index =
    by_region platform index (λ region. option_map NoTranslation (first_fault platform.tables region.members))

-- the address is not one of its range
abbrev pub outside : Platform → ℕ → ℕ → Option Refusal
outside platform index spa =
    by_region platform index (λ region. refused_if (not (is_within region.spa region.length spa)) Outside)

-- the addresses from one on are none, or do not all lie in its range
abbrev pub range_outside : Platform → ℕ → ℕ → ℕ → Option Refusal
range_outside platform index spa len =
    by_region platform index (λ region. refused_if (not (has_range (woven_of platform.tables region) spa len)) Outside)

-- the module is none of its members
abbrev pub not_in_region : Platform → ℕ → ℕ → Option Refusal
not_in_region platform index dimm =
    by_region platform index (λ region. refused_if (not (is_member (woven_of platform.tables region) dimm))
    (NotInRegion dimm))

-- the module address is one of the member's part
abbrev pub is_of_part : ℕ → ℕ → Strand → Bool
is_of_part dimm dpa strand = (strand.handle == dimm) && is_within strand.base strand.size dpa

abbrev pub part_outside : Platform → ℕ → ℕ → ℕ → Option Refusal
part_outside platform index dimm dpa =
    by_region platform index
    (λ region. refused_if (not (list_any (is_of_part dimm dpa) (woven_of platform.tables region).strands)) Outside)

-- what each command asks of its region first
abbrev pub untranslated : Platform → ℕ → List (Option Refusal) → List (Option Refusal)
untranslated platform index more = unknown_region platform index ∷ unusable platform index
    ∷ no_translation platform index ∷ more

-- The weave of a region that can be used, and whose addresses can be translated.
pub record IsWoven (platform : Platform) (index : ℕ) (weave : Woven) : Type 0 where
  pub region : Region
  pub found : region_at platform index ≡ Some region
  pub usable : region.rule ≡ None
  pub translated : first_fault platform.tables region.members ≡ None
  pub weave_is : weave ≡ woven_of platform.tables region

-- why there is none; nothing tells why memory was refused
abbrev pub IsUntranslated : Platform → ℕ → Unanswered → Type 0
IsUntranslated platform index (unanswereds.Refused refusal) = first_of (untranslated platform index []) ≡ Some refusal
IsUntranslated platform index unanswereds.Memory = Unit {0}

-- The module address behind an address of the region.
pub record IsModuleOf (platform : Platform) (index spa : ℕ) (reply : Reply) : Type 0 where
  pub region : Region
  pub found : region_at platform index ≡ Some region
  pub dimm : ℕ
  pub dpa : ℕ
  pub pair : IsPair (woven_of platform.tables region) spa dimm dpa
  pub reply_is : reply ≡ Module dimm dpa

abbrev pub IsToModule : Platform → ℕ → ℕ → Reply → Type 0
IsToModule platform index spa reply =
    IsReplyBy (first_of (untranslated platform index (outside platform index spa ∷ [])))
    (IsModuleOf platform index spa) reply

-- The address of a byte of a member's part.
pub record IsSpaOf (platform : Platform) (index dimm dpa : ℕ) (reply : Reply) : Type 0 where
  pub region : Region
  pub found : region_at platform index ≡ Some region
  pub spa : ℕ
  pub pair : IsPair (woven_of platform.tables region) spa dimm dpa
  pub reply_is : reply ≡ Spa spa

abbrev pub IsToSpa : Platform → ℕ → ℕ → ℕ → Reply → Type 0
IsToSpa platform index dimm dpa reply =
    IsReplyBy
    (first_of (untranslated platform index
    (not_in_region platform index dimm ∷ part_outside platform index dimm dpa ∷ [])))
    (IsSpaOf platform index dimm dpa) reply

-- The runs of module addresses behind a range of the region.
pub record AreRunsOf (platform : Platform) (index spa len : ℕ) (reply : Reply) : Type 0 where
  pub region : Region
  pub found : region_at platform index ≡ Some region
  pub runs : List Run
  pub runs_are : AreRuns (woven_of platform.tables region) spa len runs
  pub reply_is : reply ≡ Runs runs

abbrev pub AreToRuns : Platform → ℕ → ℕ → ℕ → Reply → Type 0
AreToRuns platform index spa len reply =
    IsReplyBy (first_of (untranslated platform index (range_outside platform index spa len ∷ [])))
    (AreRunsOf platform index spa len) reply

-- the reply to what is asked of addresses
abbrev pub IsTranslated : Platform → Translation → Reply → Type 0
IsTranslated platform (translations.Module index spa) reply = IsToModule platform index spa reply
IsTranslated platform (translations.Spa index dimm dpa) reply = IsToSpa platform index dimm dpa reply
IsTranslated platform (translations.Runs index spa len) reply = AreToRuns platform index spa len reply
