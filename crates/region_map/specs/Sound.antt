-- What holds of each sound platform: the facts on which the layers above rest.
use Rattle.std.specs.Prelude.{◌≡◌, ◌≢◌, ◌⊎◌, ℕ, ◌+◌, ◌*◌, ◌^◌, ◌<◌, ◌≤◌, All, List, AllPairs, Contains, length}
use Rattle.region_map.specs.declared.platform.Member.{Member}
use Rattle.region_map.specs.declared.platform.Region.{Region}
use Rattle.region_map.specs.declared.platform.Platform.{Platform}
use Rattle.region_map.specs.Cookies.{cookie12}

-- no address of a module is in both
abbrev pub AreApart : Member → Member → Type 0
AreApart a b = (a.dpa_base + a.size ≤ b.dpa_base) ⊎ (b.dpa_base + b.size ≤ a.dpa_base)

-- two usable regions never share a byte of a module
pub record AreDisjoint (platform : Platform) : Type 0 where
  pub each : (r q : Region) (a b : Member) → Contains platform.regions r → Contains platform.regions q
      → r.index ≢ q.index
      → Contains r.members a → Contains q.members b → a.handle ≡ b.handle → AreApart a b

-- regions stand by ascending index, each index once
abbrev pub AreOrdered : List Region → Type 0
AreOrdered regions = AllPairs (λ (r q : Region). r.index < q.index) regions

-- a region of the platform that can be used
pub record IsUsable (platform : Platform) (region : Region) : Type 0 where
  pub some : 0 < length region.members
  pub few : length region.members ≤ 16
  -- no module stands at two positions, and positions ascend by region offset
  pub modules : AllPairs (λ (a b : Member). a.handle ≢ b.handle) region.members
  pub offsets : AllPairs (λ (a b : Member). a.region_offset < b.region_offset) region.members
  pub known : All (λ (m : Member). Contains platform.modules m.handle) region.members
  pub not_empty : 0 < region.length
  pub capacity : All (λ (m : Member). length region.members * m.size ≡ region.length) region.members
  pub end : region.spa + region.length ≤ 2 ^ 63
  pub member_ends : All (λ (m : Member). m.dpa_base + m.size ≤ 2 ^ 63) region.members
  pub cookie : region.cookie ≡ cookie12 region.members
