-- The members of a region by their positions.
use Rattle.std.proofs.Common.{◌≡◌, ◌≢◌, ℕ, ◌<◌, length, ◌∙◌}
use Rattle.std.specs.List.{All, Contains}
use Rattle.std.proofs.lemmas.List.{get_or_default}
use Rattle.region_map.specs.declared.platform.Member.{Member}
use Rattle.region_map.specs.declared.platform.Region.{Region}
use Rattle.region_map.specs.declared.platform.Platform.{Platform}
use Rattle.label_table.specs.Belonging.{IsDisjoint, member_at, no_member}
use Rattle.label_table.proofs.ListTests.{Contains-get_or}

pub member-in : (r : Region) (k : ℕ) → k < length r.members → Contains r.members (member_at r k)
member-in r k lt = Contains-get_or r.members k no_member lt

-- the position of a member
pub record HasPlace (r : Region) (x : Member) : Type 0 where
  pub place : ℕ
  pub within : place < length r.members
  pub is : member_at r place ≡ x

pub place-of : (r : Region) (x : Member) → Contains r.members x → HasPlace r x
place-of r x here = record {
  place = here.0;
  within = here.1;
  is = get_or_default r.members here.0 no_member x here.1 ∙ here.2;
}

-- positions have different modules
pub handles-differ : (P : Platform) → IsDisjoint P → (r : Region) → Contains P.regions r → (j k : ℕ) → j < length r.members → k < length r.members
    → j ≢ k → (member_at r j).handle ≢ (member_at r k).handle
handles-differ P disjoint r in_P j k j_lt k_lt differ same = differ (disjoint.positions r j k in_P j_lt k_lt same)

-- a fact of each member
pub at-member : (r : Region) (fact : Member → Type 0) → All fact r.members → (k : ℕ) → k < length r.members → fact (member_at r k)
at-member r fact all k lt = all k no_member lt
