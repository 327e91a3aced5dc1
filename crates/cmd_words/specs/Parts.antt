-- What part of the commands one is: a change of the label storage areas, what is asked of their state, or of the
-- addresses of a region.
use Rattle.cmd_words.specs.declared.commands.Command.{Command}
use Rattle.cmd_words.specs.declared.commands.Command.TheVariants.{InitLabels, Create, Destroy, Rename, ReleaseHeld}
use Rattle.cmd_words.specs.declared.commands.Command.TheVariants.{ListSpaces, ListRegions, ListFree, ListHeld, ToModule}
use Rattle.cmd_words.specs.declared.commands.Command.TheVariants.{ToSpa, ToRuns}
use Rattle.cmd_words.specs.declared.parts.Part.{Part}
use Rattle.cmd_words.specs.declared.parts.Part.TheVariants.{Change, Query, Translation}
use Rattle.cmd_words.specs.declared.parts.Change.TheVariants as changes
use Rattle.cmd_words.specs.declared.parts.Query.TheVariants as queries
use Rattle.cmd_words.specs.declared.parts.Translation.TheVariants as translations

abbrev pub part_of : Command → Part
part_of (InitLabels dimm) = Change (changes.InitLabels dimm)
part_of (Create region size name abstraction sector uuid) =
    Change (changes.Create region size name abstraction sector uuid)
part_of (Destroy region key) = Change (changes.Destroy region key)
part_of (Rename region key name) = Change (changes.Rename region key name)
part_of (ReleaseHeld dimm uuid) = Change (changes.ReleaseHeld dimm uuid)
part_of (ListSpaces region) = Query (queries.Spaces region)
part_of ListRegions = Query queries.Regions
part_of (ListFree region) = Query (queries.Free region)
part_of (ListHeld dimm) = Query (queries.Held dimm)
part_of (ToModule region spa) = Translation (translations.Module region spa)
part_of (ToSpa region dimm dpa) = Translation (translations.Spa region dimm dpa)
part_of (ToRuns region spa len) = Translation (translations.Runs region spa len)
