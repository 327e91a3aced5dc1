-- The words for values of which there are few.
use Rattle.std.specs.Prelude.{ℕ, Bool, true, false, List, codes, if◌then◌else◌}
use Rattle.std.specs.Str.{bytes_eq}
use Rattle.view_types.specs.Modes.{no_abstraction, block_translation, page_frames, direct_access}
use Rattle.view_types.specs.declared.rule.Rule.{Rule}
use Rattle.view_types.specs.declared.rule.Rule.TheVariants.{NoMapping, TooManyWays, Empty, SizesDiffer}
use Rattle.view_types.specs.declared.rule.Rule.TheVariants.{CapacityDiffers, Overflow, ModuleTwice, OffsetTwice}
use Rattle.view_types.specs.declared.rule.Rule.TheVariants.{NoControl, DpaOverlap}
use Rattle.view_types.specs.declared.states.AreaState.{AreaState}
use Rattle.view_types.specs.declared.states.AreaState.TheVariants.{Missing, WrongSize, Uninit, Foreign, Ready}

abbrev pub flag_word : Bool → List ℕ
flag_word true = codes "yes"
flag_word false = codes "no"

abbrev pub state_word : AreaState → List ℕ
state_word Missing = codes "missing"
state_word WrongSize = codes "wrong-size"
state_word Uninit = codes "uninit"
state_word Foreign = codes "foreign"
state_word (Ready slots spare) = codes "ready"

abbrev pub rule_word : Rule → List ℕ
rule_word NoMapping = codes "no-mapping"
rule_word TooManyWays = codes "too-many-ways"
rule_word Empty = codes "empty"
rule_word SizesDiffer = codes "sizes-differ"
rule_word CapacityDiffers = codes "capacity-differs"
rule_word Overflow = codes "overflow"
rule_word ModuleTwice = codes "module-twice"
rule_word OffsetTwice = codes "offset-twice"
rule_word NoControl = codes "no-control"
rule_word DpaOverlap = codes "dpa-overlap"

-- the mode of a namespace with an address abstraction
abbrev pub mode_word : List ℕ → List ℕ
mode_word abstraction =
    if bytes_eq abstraction no_abstraction then codes "raw"
    else if bytes_eq abstraction block_translation then codes "sector"
    else if bytes_eq abstraction page_frames then codes "fsdax"
    else if bytes_eq abstraction direct_access then codes "devdax"
    else codes "other"
