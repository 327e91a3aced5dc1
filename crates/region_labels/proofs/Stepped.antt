-- One position of a region is walked over.
use Rattle.std.proofs.Common.{◌≡◌, ◌≢◌, ℕ, ◌+◌, ◌<◌, eqb, List, length, sym, eq-eqb}
use Rattle.std.specs.List.{Contains, range_with_len}
use Rattle.std.proofs.lemmas.Bool.{cond-false, cond-true, ne_eqb}
use Rattle.label_codec.specs.ModuleLabels.{Labels}
use Rattle.region_map.specs.declared.platform.Region.{Region}
use Rattle.uuid_index.specs.declared.entry.Entry.{Entry}
use Rattle.uuid_index.specs.Labels as index
use Rattle.uuid_index.proofs.Changes.{has_entry}
use Rattle.region_labels.specs.declared.by_slot.SlotLabel.{SlotLabel}
use Rattle.region_labels.specs.Followed.{GainsAt, IsIndexBelow, LosesAt, changed_below, entry_at, handle_at, here}
use Rattle.region_labels.proofs.ByPosition.{gains-here, index-passes, loses-here}

module _ (region : Region) (dimm position : ℕ) (one : SlotLabel) (before after : Labels) where
  abbrev positions : List ℕ
  positions = range_with_len 0 (length region.members)

  abbrev at : ℕ → Labels
  at = changed_below region before after

  pub gain-there : (old new : List Entry) → position < length region.members → handle_at region position ≡ dimm
      → index.FollowsGain (entry_at position one) old new → GainsAt dimm one before after
      → IsIndexBelow region before after position old → IsIndexBelow region before after (position + 1) new
  gain-there old new lt there follows gain is =
      follows positions (at position) (at (position + 1))
      (gains-here region before after dimm position one lt there gain) is

  pub loss-there : (old new : List Entry) → position < length region.members → handle_at region position ≡ dimm
      → index.FollowsLoss (entry_at position one) old new → LosesAt dimm one before after
      → IsIndexBelow region before after position old → IsIndexBelow region before after (position + 1) new
  loss-there old new lt there follows loss is =
      follows positions (at position) (at (position + 1))
      (loses-here region before after dimm position one lt there loss) is

  -- the entry was there
  pub loss-had : (old : List Entry) → position < length region.members → handle_at region position ≡ dimm
      → LosesAt dimm one before after → IsIndexBelow region before after position old
      → Contains old (entry_at position one)
  loss-had old lt there loss is =
      has_entry positions (entry_at position one) (at position) (at (position + 1)) old
      (loses-here region before after dimm position one lt there loss) is

  pub gain-passes : (entries : List Entry) → handle_at region position ≢ dimm → GainsAt dimm one before after
      → IsIndexBelow region before after position entries → IsIndexBelow region before after (position + 1) entries
  gain-passes entries differ gain is =
      index-passes region before after position entries (gain.others (handle_at region position) differ) is

  pub loss-passes : (entries : List Entry) → handle_at region position ≢ dimm → LosesAt dimm one before after
      → IsIndexBelow region before after position entries → IsIndexBelow region before after (position + 1) entries
  loss-passes entries differ loss is =
      index-passes region before after position entries (sym (loss.others (handle_at region position) differ)) is

pub here-one : (dimm : ℕ) (region : Region) (position : ℕ) → handle_at region position ≡ dimm
    → here dimm region position ≡ 1
here-one dimm region position same =
    cond-true {A = ℕ} (eqb (handle_at region position) dimm) 1 0 (eq-eqb (handle_at region position) dimm same)

pub here-none : (dimm : ℕ) (region : Region) (position : ℕ) → handle_at region position ≢ dimm
    → here dimm region position ≡ 0
here-none dimm region position differ =
    cond-false {A = ℕ} (eqb (handle_at region position) dimm) 1 0 (ne_eqb (handle_at region position) dimm differ)
