-- A namespace can be staged in a Ready region of a sound platform.
use Rattle.std.proofs.Common.{◌≡◌, ℕ, suc, ◌+◌, ◌*◌, ◌-◌, ◌/◌, ◌<◌, ◌≤◌, ◌^◌, Bool, true, false, cond, eqb, ◌&&◌, List, [], ◌∷◌, length, get_or, map, Option, Some, None, refl, sym, ap, subst, ◌∙◌, arith}
use Rattle.std.specs.Prelude.{◌==◌, find}
use Rattle.std.specs.List.{All, Contains, list_all}
use Rattle.std.proofs.Math.Nat.{mul-div_cancel_left}
use Rattle.std.proofs.lemmas.Bool.{and_parts, ltb-true}
use Rattle.std.proofs.lemmas.List.{get_or-map, length-map}
use Rattle.std.proofs.lemmas.List.Elements.{Contains-get_or}
use Rattle.std.proofs.lemmas.Option.{IfSome_then}
use Rattle.view_types.specs.declared.namespaces.Namespace.{Namespace}
use Rattle.extent_alloc.specs.Free.{FreeSpace}
use Rattle.label_codec.specs.declared.kind.AreaKind.{AreaKind}
use Rattle.label_codec.specs.ModuleLabels.{Labels, is_ready}
use Rattle.region_map.specs.declared.platform.Member.{Member}
use Rattle.region_map.specs.declared.platform.Platform.{Platform}
use Rattle.region_map.specs.declared.platform.Region.{Region}
use Rattle.region_map.specs.Platforms.{IsSound, region_at}
use Rattle.region_map.specs.Sound.{AreOrdered, IsUsable}
use Rattle.region_map.proofs.Disjoint.{usable_region}
use Rattle.region_map.proofs.Ordered.{ordered}
use Rattle.label_table.specs.Division.{part_size}
use Rattle.label_table.specs.Flips.{HasNone}
use Rattle.label_table.specs.Statuses.{RegionReady, first_not_ready, status}
use Rattle.label_table.specs.Tables.{is_member}
use Rattle.label_table.specs.Wholes.{all_ready}
use Rattle.label_table.proofs.StatusLaws.{ready-parts}
use Rattle.region_labels.specs.declared.modules.LoadedModule.{LoadedModule}
use Rattle.region_labels.specs.declared.region.RegionLabels.{RegionLabels}
use Rattle.region_labels.specs.Fates.{platform_of, region_in}
use Rattle.region_labels.specs.Modules.{labels_in}
use Rattle.module_flips.specs.Together.{IsTogether, free_slots}
use Rattle.label_sets.specs.Kept.{IsKnownFree}
use Rattle.label_sets.specs.Room.{HasExtentRoom, HasRoom}
use Rattle.label_sets.specs.Staging.{CanStageAt, IsOpenRange}
use Rattle.label_sets.specs.Views.{IsPlaceOf}
use Rattle.label_sets.proofs.FreeRoom.{element}

-- all areas are Ready where the first that is not is none
none-unready : (kind : ℕ → AreaKind) (members : List Member) → first_not_ready kind members ≡ None → list_all (λ (member : Member). is_ready (kind member.handle)) members ≡ true
none-unready kind [] e = refl
none-unready kind (x ∷ xs) e = by (none-unready kind xs) (is_ready (kind x.handle)) e
  where
    by : (first_not_ready kind xs ≡ None → list_all (λ (member : Member). is_ready (kind member.handle)) xs ≡ true) → (b : Bool)
        → cond b (first_not_ready kind xs) (Some x.handle) ≡ None → (b && list_all (λ (member : Member). is_ready (kind member.handle)) xs) ≡ true
    by rest true none = rest none
    by rest false none = absurd (some none)
      where
        some : Some x.handle ≡ None → ⊥
        some f = cc

pub ready-all : (L : Labels) (r : Region) → status L r ≡ RegionReady → all_ready r L ≡ true
ready-all L r ready = none-unready (λ m. (L m).kind) r.members (ready-parts L r ready).areas

-- the parts of a usable region have one size
pub one-size : (P : Platform) (r : Region) → IsUsable P r → All (λ (member : Member). member.size ≡ part_size r) r.members
one-size P r usable = λ k d lt.
    let n : ℕ = length r.members in
    let here : n * (get_or r.members k d).size ≡ r.length = usable.capacity k d lt in
    let first : n * (get_or r.members 0 d).size ≡ r.length = usable.capacity 0 d usable.some in
    sym (mul-div_cancel_left (get_or r.members k d).size usable.some) ∙ ap (λ l. l / n) (here ∙ sym first) ∙ mul-div_cancel_left (get_or r.members 0 d).size usable.some
    ∙ first-size r.members d usable.some
  where
    first-size : (members : List Member) (d : Member) → 0 < length members → (get_or members 0 d).size ≡ part_size (record r { members = members })
    first-size [] d some = absurd (omega (arith, some))
    first-size (x ∷ xs) d some = refl

-- the same of a member that is told by no position
pub one-size-of : (P : Platform) (r : Region) → IsUsable P r → (member : Member) → Contains r.members member → member.size ≡ part_size r
one-size-of P r usable member listed = sym (ap (λ (m : Member). m.size) listed.2) ∙ one-size P r usable listed.0 member listed.1

-- a region that is found is one of the platform's
found-listed : (index : ℕ) (r : Region) (xs : List Region) → find (λ (region : Region). region.index == index) xs ≡ Some r → Contains xs r
found-listed index r [] e = absurd (none e)
  where
    none : None ≡ Some r → ⊥
    none f = cc
found-listed index r (x ∷ xs) e = at (found-listed index r xs) (eqb x.index index) e
  where
    some : {y z : Region} → Some y ≡ Some z → y ≡ z
    some f = cc

    behind : Contains xs r → Contains (x ∷ xs) r
    behind c = (suc c.0, (let lt : c.0 < length xs = c.1 in omega (arith, lt)), c.2)

    at : (find (λ (region : Region). region.index == index) xs ≡ Some r → Contains xs r) → (b : Bool) → cond b (Some x) (find (λ (region : Region). region.index == index) xs) ≡ Some r → Contains (x ∷ xs) r
    at rest true f = (0, omega arith, some f)
    at rest false f = behind (rest f)

pub region-listed : (P : Platform) (index : ℕ) (r : Region) → region_at P index ≡ Some r → Contains P.regions r
region-listed P index r found = found-listed index r P.regions found

module _ (P : Platform) (sound : IsSound P) (ms : List LoadedModule) (rs : List RegionLabels) (same : P.regions ≡ map region_in rs) (index place : ℕ) (r : Region) (found : region_at (platform_of rs) index ≡ Some r) (is_place : IsPlaceOf (map region_in rs) index (Some place)) where
  pub place-within : place < length rs
  place-within = subst (λ n. place < n) (length-map rs region_in) is_place.0

  pub place-is : (d : RegionLabels) → (get_or rs place d).region ≡ r
  place-is d = sym (get_or-map region_in rs place d d.region place-within) ∙ some (sym (is_place.1 d.region) ∙ found)
    where
      some : {x y : Region} → Some x ≡ Some y → x ≡ y
      some e = cc

  pub place-listed : Contains (map region_in rs) r
  place-listed =
      let d = (element rs place place-within).0 in
      subst (Contains (map region_in rs)) (get_or-map region_in rs place d d.region place-within ∙ place-is d) (Contains-get_or (map region_in rs) place d.region is_place.0)

  pub place-usable : status (labels_in ms) r ≡ RegionReady → IsUsable P r
  place-usable ready = usable_region P r sound (subst (λ regions. Contains regions r) (sym same) place-listed) (ready-parts (labels_in ms) r ready).usable

  pub place-ordered : AreOrdered (map region_in rs)
  place-ordered = subst AreOrdered same (ordered P sound)

  pub can-stage : (free : Option (List FreeSpace)) (space : Namespace) → IsTogether ms rs → IsKnownFree ms rs free → HasRoom rs free
      → status (labels_in ms) r ≡ RegionReady → All (λ (member : Member). HasNone space.uuid (labels_in ms member.handle)) r.members
      → All (λ (loaded : LoadedModule). is_member r loaded.dimm ≡ true → 0 < free_slots loaded) ms
      → IsOpenRange (platform_of rs) (labels_in ms) r space → 0 < space.length → CanStageAt ms rs free place r space
  can-stage free space together all_free room ready fresh slots is_open long = record {
    within = place-within;
    is = place-is;
    can = record {
      together = together;
      region_in = place-listed;
      some = (place-usable ready).some;
      few = let few : length r.members ≤ 16 = (place-usable ready).few in omega (arith, few);
      ready = ready-all (labels_in ms) r ready;
      same_sizes = one-size P r (place-usable ready);
      addresses = λ k d lt. let end : (get_or r.members k d).dpa_base + (get_or r.members k d).size ≤ 2 ^ 63 = (place-usable ready).member_ends k d lt in omega (arith, end);
      fresh = fresh;
      free = slots;
      room = room.labels;
      fits =
          let last : ℕ = space.offset + (space.length - 1) in
          let here = is_open last (omega (arith, long)) (omega (arith, long)) in
          let inside : last < part_size r = ltb-true last (part_size r) (and_parts _ _ here).0 in
          omega (arith, inside, long);
      long = long;
    };
    is_open = is_open;
    ordered = place-ordered;
    all_free = all_free;
    spare = IfSome_then free room.extents (λ spaces rooms e.
        let d = (element rs place place-within).0 in
        let more : HasExtentRoom (get_or rs place d) (get_or spaces place e) = rooms place d e place-within in
        omega (arith, more));
  }
