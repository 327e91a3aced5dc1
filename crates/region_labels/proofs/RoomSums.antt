-- The room that labels of several modules take.
use Rattle.std.proofs.Common.{◌≡◌, ◌≢◌, inl, inr, ℕ, suc, ◌+◌, ◌-◌, ◌<◌, ◌≤◌, cond, eqb, None, Some, List, [], ◌∷◌, length, get_or, refl, sym, subst, ◌∙◌, eq-eqb, arith}
use Rattle.std.specs.List.{All, AllZip, count_by, sum_by}
use Rattle.std.proofs.lemmas.List.Elements.{All-weaker}
use Rattle.std.proofs.lemmas.Bool.{cases_eq, cond-false, cond-true, ne_eqb}
use Rattle.std.proofs.lemmas.List.Sums.{sum_by-cons}
use Rattle.region_map.specs.declared.platform.Region.{Region}
use Rattle.region_labels.specs.declared.region.RegionLabels.{RegionLabels}
use Rattle.region_labels.specs.Regions.{handles}
use Rattle.region_labels.proofs.Seated.{length-handles}
use Rattle.region_labels.specs.Rooms.{HasRoom, HasRoomFor, HasRoomForAll, KeepsRegion, position_count, room_after_put, room_for}
use Rattle.region_labels.specs.declared.by_slot.SlotLabel.{SlotLabel}
use Rattle.region_labels.proofs.Looped.{zip-carry}
use Rattle.region_labels.specs.SlotLabels.{AreApart}

-- how often a handle stands among others
abbrev is-one : ℕ → ℕ → ℕ
is-one a b = cond {A = ℕ} (eqb a b) 1 0

tail-apart : (x : ℕ) (xs : List ℕ) → AreApart (x ∷ xs) → AreApart xs
tail-apart x xs apart = record { apart = λ i j lt below. apart.apart (suc i) (suc j) (omega arith) (omega arith) }

none-among : (h : ℕ) (ds : List ℕ) → ((k : ℕ) → k < length ds → h ≢ get_or ds k 0) → sum_by (is-one h) ds ≡ 0
none-among h [] differ = refl
none-among h (d ∷ ds) differ =
    let here : is-one h d ≡ 0 = cond-false {A = ℕ} (eqb h d) 1 0 (ne_eqb h d (differ 0 (omega arith))) in
    let rest : sum_by (is-one h) ds ≡ 0 = none-among h ds (λ k lt. differ (suc k) (omega arith)) in
    let cons : sum_by (is-one h) (d ∷ ds) ≡ is-one h d + sum_by (is-one h) ds = sum_by-cons (is-one h) d ds in
    omega arith

once-among : (h : ℕ) (ds : List ℕ) → AreApart ds → sum_by (is-one h) ds ≤ 1
once-among h [] apart = omega arith
once-among h (d ∷ ds) apart =
    let cons : sum_by (is-one h) (d ∷ ds) ≡ is-one h d + sum_by (is-one h) ds = sum_by-cons (is-one h) d ds in
    let rest : sum_by (is-one h) ds ≤ 1 = once-among h ds (tail-apart d ds apart) in
    elim (cases_eq h d) [
      | inl e ↦
          let here : is-one h d ≡ 1 = cond-true {A = ℕ} (eqb h d) 1 0 (eq-eqb h d e) in
          let none : sum_by (is-one h) ds ≡ 0 = none-among h ds (λ k lt same.
          apart.apart 0 (suc k) (omega arith) (omega arith) (sym e ∙ same)) in
          omega arith
      | inr differ ↦
          let here : is-one h d ≡ 0 = cond-false {A = ℕ} (eqb h d) 1 0 (ne_eqb h d differ) in omega arith
    ]

-- a handle more in front of others
sum-more : (h : ℕ) (hs ds : List ℕ) → sum_by (λ d. count_by (λ x. eqb x d) (h ∷ hs)) ds
    ≡ sum_by (is-one h) ds + sum_by (λ d. count_by (λ x. eqb x d) hs) ds
sum-more h hs [] = refl
sum-more h hs (d ∷ ds) =
    let rest = sum-more h hs ds in
    let a : sum_by (λ d. count_by (λ x. eqb x d) (h ∷ hs)) (d ∷ ds)
    ≡ count_by (λ x. eqb x d) (h ∷ hs) + sum_by (λ d. count_by (λ x. eqb x d) (h ∷ hs)) ds =
    sum_by-cons (λ d. count_by (λ x. eqb x d) (h ∷ hs)) d ds in
    let b : count_by (λ x. eqb x d) (h ∷ hs) ≡ is-one h d + count_by (λ x. eqb x d) hs =
    sum_by-cons (λ x. cond {A = ℕ} (eqb x d) 1 0) h hs in
    let e : sum_by (is-one h) (d ∷ ds) ≡ is-one h d + sum_by (is-one h) ds = sum_by-cons (is-one h) d ds in
    let f : sum_by (λ d. count_by (λ x. eqb x d) hs) (d ∷ ds)
    ≡ count_by (λ x. eqb x d) hs + sum_by (λ d. count_by (λ x. eqb x d) hs) ds =
    sum_by-cons (λ d. count_by (λ x. eqb x d) hs) d ds in
    omega arith

sum-none : (ds : List ℕ) → sum_by (λ d. count_by (λ x. eqb x d) []) ds ≡ 0
sum-none [] = refl
sum-none (d ∷ ds) =
    let rest = sum-none ds in
    let a : sum_by (λ d. count_by (λ x. eqb x d) []) (d ∷ ds) ≡ 0 + sum_by (λ d. count_by (λ x. eqb x d) []) ds =
    sum_by-cons (λ d. count_by (λ x. eqb x d) []) d ds in
    omega arith

counted : (hs ds : List ℕ) → AreApart ds → sum_by (λ d. count_by (λ x. eqb x d) hs) ds ≤ length hs
counted [] ds apart = let e = sum-none ds in omega arith
counted (h ∷ hs) ds apart =
    let rest = counted hs ds apart in
    let once = once-among h ds apart in
    let more = sum-more h hs ds in
    omega arith

-- a label more of each of some modules takes no more room than a region has members
pub room-enough : (dimms : List ℕ) (region : Region) → AreApart dimms → room_for dimms region ≤ length region.members
room-enough dimms region apart =
    subst (λ n. room_for dimms region ≤ n) (length-handles region) (counted (handles region) dimms apart)

pub room-next : (dimm : ℕ) (dimms : List ℕ) (region : Region)
    → room_for (dimm ∷ dimms) region ≡ position_count dimm region + room_for dimms region
room-next dimm dimms region = sum_by-cons (λ d. position_count d region) dimm dimms

-- The same for all regions.
pub all-reserved : (dimms : List ℕ) (regions : List RegionLabels) → AreApart dimms → All HasRoom regions
    → All (HasRoomForAll dimms) regions
all-reserved dimms regions apart = All-weaker HasRoom (HasRoomForAll dimms)
    (λ kept room. let enough = room-enough dimms kept.region apart in omega arith) regions

pub all-first : (dimm : ℕ) (dimms : List ℕ) (regions : List RegionLabels)
    → All (HasRoomForAll (dimm ∷ dimms)) regions → All (HasRoomFor dimm) regions
all-first dimm dimms = All-weaker (HasRoomForAll (dimm ∷ dimms)) (HasRoomFor dimm)
    (λ kept room. let next = room-next dimm dimms kept.region in omega arith)

pub all-others : (dimm : ℕ) (dimms : List ℕ) (old new : List RegionLabels)
    → AllZip (KeepsRegion (room_after_put dimm None)) old new → All (HasRoomForAll (dimm ∷ dimms)) old
    → All (HasRoomForAll dimms) new
all-others dimm dimms =
    zip-carry (KeepsRegion (room_after_put dimm None)) (HasRoomForAll (dimm ∷ dimms)) (HasRoomForAll dimms)
    (λ old new keeps room.
    let next = room-next dimm dimms old.region in
    let left : new.index.room ≡ old.index.room - position_count dimm old.region = keeps.room_is in
    subst (λ r. room_for dimms r ≤ new.index.room) (sym keeps.region) (omega arith))

pub all-replaced : (dimm : ℕ) (dimms : List ℕ) (lost : SlotLabel) (old new : List RegionLabels)
    → AllZip (KeepsRegion (room_after_put dimm (Some lost))) old new → All (HasRoomForAll dimms) old
    → All (HasRoomForAll dimms) new
all-replaced dimm dimms lost =
    zip-carry (KeepsRegion (room_after_put dimm (Some lost))) (HasRoomForAll dimms) (HasRoomForAll dimms)
    (λ old new keeps room.
    let left : new.index.room ≡ old.index.room = keeps.room_is in
    subst (λ r. room_for dimms r ≤ new.index.room) (sym keeps.region) (omega arith))
