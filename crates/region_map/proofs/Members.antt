-- The members of the mappings that name a region.
use Rattle.std.proofs.Common.{◌≡◌, ℕ, suc, ◌+◌, ◌<◌, ◌≤◌, Bool, true, false, List, [], ◌∷◌, Option, Some, None, length, refl, ap, sym, ◌∙◌, cond, arith}
use Rattle.std.specs.Prelude.{◌||◌, All, count_by, is_none, option_map}
use Rattle.std.specs.List.{cons_option, filter_map}
use Rattle.std.proofs.lemmas.List.Elements.{All-nil, All-cons, All-head, All-tail}
use Rattle.std.proofs.lemmas.List.Sums.{sum_by-cons}
use Rattle.region_map.specs.declared.records.Part.{Part}
use Rattle.region_map.specs.declared.records.ControlFields.{ControlFields}
use Rattle.region_map.specs.declared.platform.Member.{Member}
use Rattle.region_map.specs.Records.{control_named, member_of, member_with}
use Rattle.region_map.specs.Rules.{no_control}

joined : (controls : List ControlFields) (P : Member → Type 0) (part : Part) (members : List Member) (found : Option ControlFields) → ((control : ControlFields) → P (member_with part control)) → All P members
    → All P (cons_option (option_map (member_with part) found) members)
joined controls P part members None each rest = rest
joined controls P part members (Some control) each rest = All-cons P (member_with part control) members (each control) rest

-- what holds of each mapping with the fields of any control region holds of each member
pub members_all : (controls : List ControlFields) (P : Member → Type 0) (parts : List Part) → All (λ part. (control : ControlFields) → P (member_with part control)) parts → All P (filter_map (member_of controls) parts)
members_all controls P [] each = All-nil P
members_all controls P (part ∷ parts) each =
    let Each : Part → Type 0 = λ p. (control : ControlFields) → P (member_with p control) in
    joined controls P part (filter_map (member_of controls) parts) (control_named controls part) (All-head Each part parts each) (members_all controls P parts (All-tail Each part parts each))

-- where each names a control region, there are as many members
pub members_length : (controls : List ControlFields) (parts : List Part) → no_control controls parts ≡ false → length (filter_map (member_of controls) parts) ≡ length parts
members_length controls [] none = refl
members_length controls (part ∷ parts) none = one_more part (filter_map (member_of controls) parts) (control_named controls part) none (members_length controls parts)
  where
    one_more : (part : Part) (members : List Member) (found : Option ControlFields) → (is_none found || no_control controls parts) ≡ false
        → (no_control controls parts ≡ false → length members ≡ length parts) → length (cons_option (option_map (member_with part) found) members) ≡ suc (length parts)
    one_more part members None none same = absurd (let h : true ≡ false = none in cc)
    one_more part members (Some control) none same = ap suc (same none)

-- no more members pass a test than mappings do
pub members_count : (controls : List ControlFields) (p : Part → Bool) (q : Member → Bool) → ((part : Part) (control : ControlFields) → q (member_with part control) ≡ p part) → (parts : List Part)
    → count_by q (filter_map (member_of controls) parts) ≤ count_by p parts
members_count controls p q same [] = omega arith
members_count controls p q same (part ∷ parts) = one_more (control_named controls part) (members_count controls p q same parts)
  where
    one_more : (found : Option ControlFields) → count_by q (filter_map (member_of controls) parts) ≤ count_by p parts
        → count_by q (cons_option (option_map (member_with part) found) (filter_map (member_of controls) parts)) ≤ count_by p (part ∷ parts)
    one_more None rest = let more = sum_by-cons (λ (x : Part). cond (p x) 1 0) part parts in omega (arith, more, rest)
    one_more (Some control) rest =
        let more = sum_by-cons (λ (x : Part). cond (p x) 1 0) part parts in
        let member = sum_by-cons (λ (x : Member). cond (q x) 1 0) (member_with part control) (filter_map (member_of controls) parts) in
        let number : Bool → ℕ = λ b. cond {A = ℕ} b 1 0 in
        let one : number (q (member_with part control)) ≡ number (p part) = ap number (same part control) in
        omega (arith, more, member, one, rest)
