-- How many entries an index has: one for each live label. A change that keeps the numbers of labels keeps the room.
use Rattle.std.proofs.Common.{◌≡◌, ℕ, zero, suc, ◌+◌, ◌<◌, ◌≤◌, Bool, true, false, cond, eqb, List, [], ◌∷◌, ◌++◌, length, get_or, map, Option, Some, None, refl, sym, ap, subst, ◌∙◌, arith}
use Rattle.std.specs.Prelude.{find}
use Rattle.std.specs.List.{All, AllZip}
use Rattle.std.proofs.lemmas.List.{get_or-map, length-append, length-map}
use Rattle.std.proofs.lemmas.Option.{IfSome_then}
use Rattle.std.proofs.lemmas.List.Elements.{AllZip-get_or}
use Rattle.std.proofs.lemmas.List.Sorted.{length_permutation}
use Rattle.extent_alloc.specs.Free.{FreeSpace}
use Rattle.label_codec.specs.declared.label.Label.{Label}
use Rattle.label_codec.specs.ModuleLabels.{Labels, count, number, one}
use Rattle.region_map.specs.declared.platform.Region.{Region}
use Rattle.label_table.specs.Wholes.{any_label}
use Rattle.uuid_index.specs.declared.entry.Entry.{Entry}
use Rattle.uuid_index.specs.Labels.{IsIndex, entries_below, entries_from, entries_of, entry_at, live_entries}
use Rattle.region_labels.specs.declared.modules.LoadedModule.{LoadedModule}
use Rattle.region_labels.specs.declared.region.RegionLabels.{RegionLabels}
use Rattle.region_labels.specs.Fates.{region_in}
use Rattle.region_labels.specs.Modules.{dimm_of, is_of, labels_in, module_in, module_or_missing}
use Rattle.region_labels.specs.Regions.{IsOver, handles}
use Rattle.region_labels.specs.Rooms.{KeepsRegion}
use Rattle.label_sets.specs.Room.{HasRoom}

-- how many live labels a module has
abbrev pub label_number : LoadedModule → ℕ
label_number loaded = number any_label (module_in loaded)

-- a slot has an entry where it has a label
entry-count : (position slot : ℕ) (label : Option Label) → length (entry_at position slot label) ≡ one any_label label
entry-count position slot None = refl
entry-count position slot (Some l) = refl

-- the slots below one have an entry for each label
below-count : (position : ℕ) (at : ℕ → Option Label) (n : ℕ) → length (entries_below position at n) ≡ count any_label at n
below-count position at zero = refl
below-count position at (suc n) =
    let parts : length (entries_below position at n ++ entry_at position n (at n)) ≡ length (entries_below position at n) + length (entry_at position n (at n)) = length-append (entries_below position at n) (entry_at position n (at n)) in
    let before : length (entries_below position at n) ≡ count any_label at n = below-count position at n in
    let last : length (entry_at position n (at n)) ≡ one any_label (at n) = entry-count position n (at n) in
    omega (arith, parts, before, last)

-- modules with as many labels have as many entries
from-kept : (position : ℕ) (hs : List ℕ) (L M : Labels) → ((h : ℕ) → number any_label (M h) ≡ number any_label (L h)) → length (entries_from position hs M) ≡ length (entries_from position hs L)
from-kept position [] L M same = refl
from-kept position (h ∷ hs) L M same =
    let was : length (entries_of position (L h) ++ entries_from (position + 1) hs L) ≡ length (entries_of position (L h)) + length (entries_from (position + 1) hs L) = length-append (entries_of position (L h)) (entries_from (position + 1) hs L) in
    let now : length (entries_of position (M h) ++ entries_from (position + 1) hs M) ≡ length (entries_of position (M h)) + length (entries_from (position + 1) hs M) = length-append (entries_of position (M h)) (entries_from (position + 1) hs M) in
    let here : length (entries_of position (M h)) ≡ length (entries_of position (L h)) = below-count position (M h).at (M h).slots ∙ same h ∙ sym (below-count position (L h).at (L h).slots) in
    let rest : length (entries_from (position + 1) hs M) ≡ length (entries_from (position + 1) hs L) = from-kept (position + 1) hs L M same in
    omega (arith, was, now, here, rest)

-- and so have their indices
pub entries-kept : (hs : List ℕ) (L M : Labels) (es fs : List Entry) → IsIndex hs L es → IsIndex hs M fs
    → ((h : ℕ) → number any_label (M h) ≡ number any_label (L h)) → length fs ≡ length es
entries-kept hs L M es fs was now same =
    length_permutation (live_entries hs M) fs now.live ∙ from-kept 0 hs L M same ∙ sym (length_permutation (live_entries hs L) es was.live)

-- a region that is kept, with as many labels in each module, has as many entries and as much room
pub room-kept : (ms now : List LoadedModule) (rs regions_now : List RegionLabels) (free : Option (List FreeSpace)) → HasRoom rs free
    → map region_in regions_now ≡ map region_in rs → All (IsOver ms) rs → All (IsOver now) regions_now
    → AllZip (KeepsRegion (λ (kept : RegionLabels). kept.index.room)) rs regions_now
    → ((h : ℕ) → number any_label (labels_in now h) ≡ number any_label (labels_in ms h)) → HasRoom regions_now free
room-kept ms now rs regions_now free has regions over over_now kept same = record {
  labels = λ place d lt.
      let here : KeepsRegion (λ (r : RegionLabels). r.index.room) (get_or rs place d) (get_or regions_now place d) = AllZip-get_or (KeepsRegion (λ (r : RegionLabels). r.index.room)) rs regions_now place d d kept (was-lt place lt) in
      let room : (get_or regions_now place d).index.room ≡ (get_or rs place d).index.room = here.room_is in
      let members : length (get_or regions_now place d).region.members ≡ length (get_or rs place d).region.members = ap (λ (r : Region). length r.members) here.region in
      let before : length (get_or rs place d).region.members ≤ (get_or rs place d).index.room = has.labels place d (was-lt place lt) in
      omega (arith, room, members, before);
  extents = IfSome_then free has.extents (λ spaces rooms place d e lt.
      let before : length (get_or rs place d).index.entries < (get_or spaces place e).spare = rooms place d e (was-lt place lt) in
      let entries : length (get_or regions_now place d).index.entries ≡ length (get_or rs place d).index.entries = entries-at place d lt in
      omega (arith, before, entries));
}
  where
    was-lt : (place : ℕ) → place < length regions_now → place < length rs
    was-lt place lt = subst (λ n. place < n) (sym (length-map regions_now region_in) ∙ ap length regions ∙ length-map rs region_in) lt

    region-at : (place : ℕ) (d : RegionLabels) → place < length regions_now → (get_or regions_now place d).region ≡ (get_or rs place d).region
    region-at place d lt = sym (get_or-map region_in regions_now place d d.region lt) ∙ ap (λ zs. get_or zs place d.region) regions ∙ get_or-map region_in rs place d d.region (was-lt place lt)

    entries-at : (place : ℕ) (d : RegionLabels) → place < length regions_now → length (get_or regions_now place d).index.entries ≡ length (get_or rs place d).index.entries
    entries-at place d lt =
        let old : IsOver ms (get_or rs place d) = over place d (was-lt place lt) in
        let new : IsOver now (get_or regions_now place d) = over_now place d lt in
        entries-kept (handles (get_or rs place d).region) (labels_in ms) (labels_in now) (get_or rs place d).index.entries (get_or regions_now place d).index.entries old.index
        (subst (λ (r : Region). IsIndex (handles r) (labels_in now) (get_or regions_now place d).index.entries) (region-at place d lt) new.index) same

-- modules with the same handles and as many labels have as many labels at each handle
pub counts-at : (ms now : List LoadedModule) → map label_number now ≡ map label_number ms → map dimm_of now ≡ map dimm_of ms
    → (h : ℕ) → number any_label (labels_in now h) ≡ number any_label (labels_in ms h)
counts-at [] [] numbers dimms h = refl
counts-at [] (y ∷ ys) numbers dimms h = absurd cc
counts-at (x ∷ xs) [] numbers dimms h = absurd cc
counts-at (x ∷ xs) (y ∷ ys) numbers dimms h =
    let dimm : y.dimm ≡ x.dimm = ap (λ zs. get_or zs 0 0) dimms in
    subst (λ d. number any_label (module_or_missing (cond (eqb d h) (Some y) (find (is_of h) ys))) ≡ number any_label (labels_in (x ∷ xs) h)) (sym dimm) (by (counts-at xs ys rest-numbers rest-dimms h) (eqb x.dimm h))
  where
    number-head : label_number y ≡ label_number x
    number-head = ap (λ zs. get_or zs 0 0) numbers

    rest-numbers : map label_number ys ≡ map label_number xs
    rest-numbers = cc

    rest-dimms : map dimm_of ys ≡ map dimm_of xs
    rest-dimms = cc

    by : number any_label (labels_in ys h) ≡ number any_label (labels_in xs h) → (b : Bool) → number any_label (module_or_missing (cond b (Some y) (find (is_of h) ys))) ≡ number any_label (module_or_missing (cond b (Some x) (find (is_of h) xs)))
    by rest true = number-head
    by rest false = rest
