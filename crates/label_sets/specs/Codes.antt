-- The parts of the state as tuples of numbers, lists and options, by which proofs tell two apart.
use Rattle.std.specs.Prelude.{◌≡◌, ℕ, ◌==◌, List, Option, None, Some, if◌then◌else◌, refl}
use Rattle.std.specs.Coded.{Coded, code_by, coded_ℕ, coded_list, coded_option, coded×}
use Rattle.view_types.specs.declared.rule.Rule.{Rule}
use Rattle.view_types.specs.declared.rule.Rule.TheVariants as rule
use Rattle.region_map.specs.declared.platform.Member.{Member}
use Rattle.region_map.specs.declared.platform.Region.{Region}
use Rattle.label_area.specs.LoadedAreas.{LoadedArea, loaded_code}
use Rattle.region_labels.specs.declared.modules.LoadedModule.{LoadedModule}
use Rattle.region_labels.specs.declared.modules.ModuleArea.{ModuleArea}
use Rattle.region_labels.specs.declared.modules.ModuleArea.TheVariants.{Missing, WrongSize, Uninit, Foreign, Ready}

abbrev pub rule_number : Rule → ℕ
rule_number rule.NoMapping = 0
rule_number rule.TooManyWays = 1
rule_number rule.Empty = 2
rule_number rule.SizesDiffer = 3
rule_number rule.CapacityDiffers = 4
rule_number rule.Overflow = 5
rule_number rule.ModuleTwice = 6
rule_number rule.OffsetTwice = 7
rule_number rule.NoControl = 8
rule_number rule.DpaOverlap = 9

abbrev pub numbered_rule : ℕ → Rule
numbered_rule n =
    if n == 0 then rule.NoMapping
    else if n == 1 then rule.TooManyWays
    else if n == 2 then rule.Empty
    else if n == 3 then rule.SizesDiffer
    else if n == 4 then rule.CapacityDiffers
    else if n == 5 then rule.Overflow
    else if n == 6 then rule.ModuleTwice
    else if n == 7 then rule.OffsetTwice
    else if n == 8 then rule.NoControl
    else rule.DpaOverlap

abbrev pub rule-numbered : (r : Rule) → numbered_rule (rule_number r) ≡ r
rule-numbered rule.NoMapping = refl
rule-numbered rule.TooManyWays = refl
rule-numbered rule.Empty = refl
rule-numbered rule.SizesDiffer = refl
rule-numbered rule.CapacityDiffers = refl
rule-numbered rule.Overflow = refl
rule-numbered rule.ModuleTwice = refl
rule-numbered rule.OffsetTwice = refl
rule-numbered rule.NoControl = refl
rule-numbered rule.DpaOverlap = refl

abbrev pub rule_code : Coded Rule
rule_code = code_by ℕ coded_ℕ rule_number numbered_rule rule-numbered

abbrev pub member_code : Coded Member
member_code = code_by (ℕ × (ℕ × (ℕ × (ℕ × (ℕ × (ℕ × (ℕ × (ℕ × (ℕ × ℕ)))))))))
    (coded× coded_ℕ (coded× coded_ℕ (coded× coded_ℕ (coded× coded_ℕ (coded× coded_ℕ (coded× coded_ℕ
    (coded× coded_ℕ (coded× coded_ℕ (coded× coded_ℕ coded_ℕ)))))))))
    (λ m. (
      m.handle,
      (
        m.dpa_base,
        (
          m.size,
          (
            m.region_offset,
            (
              m.interleave,
              (
                m.ways,
                (m.serial, (m.vendor, (m.date, m.location))),
              ),
            ),
          ),
        ),
      ),
    ))
    (λ p. record {
      handle = p.0;
      dpa_base = p.1.0;
      size = p.1.1.0;
      region_offset = p.1.1.1.0;
      interleave = p.1.1.1.1.0;
      ways = p.1.1.1.1.1.0;
      serial = p.1.1.1.1.1.1.0;
      vendor = p.1.1.1.1.1.1.1.0;
      date = p.1.1.1.1.1.1.1.1.0;
      location = p.1.1.1.1.1.1.1.1.1;
    }) (λ _. refl)

abbrev pub region_code : Coded Region
region_code = code_by (ℕ × (ℕ × (ℕ × (Option Rule × (List Member × ℕ)))))
    (coded× coded_ℕ (coded× coded_ℕ (coded× coded_ℕ (coded× (coded_option rule_code)
    (coded× (coded_list member_code) coded_ℕ)))))
    (λ r. (r.index, (r.spa, (r.length, (r.rule, (r.members, r.cookie))))))
    (λ p. record {
      index = p.0;
      spa = p.1.0;
      length = p.1.1.0;
      rule = p.1.1.1.0;
      members = p.1.1.1.1.0;
      cookie = p.1.1.1.1.1;
    }) (λ _. refl)

-- a number for the kind of an area and its size, and the area where it is Ready
abbrev pub area_parts : ModuleArea → ℕ × (ℕ × Option LoadedArea)
area_parts Missing = (0, (0, None))
area_parts (WrongSize size) = (1, (size, None))
area_parts (Uninit size) = (2, (size, None))
area_parts (Foreign size) = (3, (size, None))
area_parts (Ready area) = (4, (0, Some area))

abbrev pub area_with : ℕ → ℕ → Option LoadedArea → ModuleArea
area_with kind size None =
    if kind == 0 then Missing
    else if kind == 1 then WrongSize size
    else if kind == 2 then Uninit size
    else Foreign size
area_with kind size (Some area) = Ready area

abbrev pub area_of_parts : ℕ × (ℕ × Option LoadedArea) → ModuleArea
area_of_parts p = area_with p.0 p.1.0 p.1.1

abbrev pub area-of_parts : (area : ModuleArea) → area_of_parts (area_parts area) ≡ area
area-of_parts Missing = refl
area-of_parts (WrongSize size) = refl
area-of_parts (Uninit size) = refl
area-of_parts (Foreign size) = refl
area-of_parts (Ready area) = refl

abbrev pub area_code : Coded ModuleArea
area_code = code_by (ℕ × (ℕ × Option LoadedArea)) (coded× coded_ℕ (coded× coded_ℕ (coded_option loaded_code)))
    area_parts area_of_parts area-of_parts

abbrev pub module_code : Coded LoadedModule
module_code = code_by (ℕ × ModuleArea) (coded× coded_ℕ area_code) (λ m. (m.dimm, m.area))
    (λ p. record { dimm = p.0; area = p.1 }) (λ _. refl)
