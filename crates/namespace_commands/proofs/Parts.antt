-- Addresses outside a member's part.
use Rattle.std.proofs.Common.{◌≡◌, ℕ, ◌+◌, true, false, [], ◌∷◌, Some, None, ◌⊎◌, inl, inr, refl, sym, subst}
use Rattle.std.specs.List.{Contains, list_any}
use Rattle.std.proofs.lemmas.Bool.{and_parts}
use Rattle.view_types.specs.declared.refusal.Refusal.TheVariants.{Outside}
use Rattle.view_types.specs.declared.reply.Reply.TheVariants.{Refused}
use Rattle.region_map.specs.declared.platform.Platform.{Platform}
use Rattle.label_table.proofs.ListTests.{both, eq_true, le_true, list_any-never, lt_true}
use Rattle.spa_translate.specs.declared.strand.Strand.{Strand}
use Rattle.spa_translate.specs.Faults.{woven_of}
use Rattle.spa_translate.specs.Pairs.{IsMapped, is_member}
use Rattle.spa_translate.specs.Woven.{Woven}
use Rattle.namespace_commands.specs.Translations.{IsToSpa, IsWoven, is_of_part, not_in_region, part_outside}
use Rattle.namespace_commands.proofs.Firsts.{first_behind}

-- no part has an address that is not mapped
no_part : (woven : Woven) (dimm dpa : ℕ) → ¬ IsMapped woven dimm dpa → (strand : Strand) → Contains woven.strands strand → is_of_part dimm dpa strand ≡ false
no_part woven dimm dpa unmapped strand member = by (both (is_of_part dimm dpa strand))
  where
    by : (is_of_part dimm dpa strand ≡ true) ⊎ (is_of_part dimm dpa strand ≡ false) → is_of_part dimm dpa strand ≡ false
    by (inr is) = is
    by (inl is) =
        let parts = and_parts _ _ is in
        let bounds = and_parts _ _ parts.1 in
        absurd (unmapped (record {
          strand = strand;
          member = member;
          handle = sym (eq_true strand.handle dimm parts.0);
          from = le_true strand.base dpa bounds.0;
          below = lt_true dpa (strand.base + strand.size) bounds.1;
        }))

pub outside_part : (platform : Platform) (index dimm dpa : ℕ) (weave : Woven) → IsWoven platform index weave → is_member weave dimm ≡ true → ¬ IsMapped weave dimm dpa
    → IsToSpa platform index dimm dpa (Refused Outside)
outside_part platform index dimm dpa weave woven member unmapped =
    let own = woven_of platform.tables woven.region in
    let is : is_member own dimm ≡ true = subst (λ w. is_member w dimm ≡ true) woven.weave_is member in
    let other : ¬ IsMapped own dimm dpa = subst (λ w. ¬ IsMapped w dimm dpa) woven.weave_is unmapped in
    let none : list_any (is_of_part dimm dpa) own.strands ≡ false = list_any-never (is_of_part dimm dpa) own.strands (no_part own dimm dpa other) in
    let inside : not_in_region platform index dimm ≡ None = rw (woven.found, is) refl in
    let outside : part_outside platform index dimm dpa ≡ Some Outside = rw (woven.found, none) refl in
    rw (first_behind platform index (not_in_region platform index dimm ∷ part_outside platform index dimm dpa ∷ []) weave woven, inside, outside) refl
