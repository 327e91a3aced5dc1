-- What refuses a release, by what is told of the held labels of its module.
use Rattle.std.proofs.Common.{◌≡◌, ℕ, zero, suc, Bool, true, false, not, cond, List, [], ◌∷◌, find, Option, Some, None, refl, sym, ap, subst, ◌∙◌, arith}
use Rattle.std.specs.Prelude.{◌==◌, is_none, nat_lt, option_map}
use Rattle.std.specs.List.{Contains, list_all, list_any}
use Rattle.std.specs.Option.{option_and_then, option_or}
use Rattle.std.proofs.lemmas.Bool.{and_parts}
use Rattle.view_types.specs.declared.namespaces.Held.{Held}
use Rattle.view_types.specs.declared.refusal.Refusal.{Refusal}
use Rattle.view_types.specs.declared.refusal.Refusal.TheVariants.{NotHeld, ReadOnly, UnknownRegion, Unusable}
use Rattle.view_types.specs.declared.reply.Reply.TheVariants.{HeldList, Refused}
use Rattle.view_types.specs.declared.rule.Rule.{Rule}
use Rattle.label_codec.specs.ModuleLabels.{Labels, has, is_ready}
use Rattle.region_map.specs.declared.platform.Member.{Member}
use Rattle.region_map.specs.declared.platform.Platform.{Platform}
use Rattle.region_map.specs.declared.platform.Region.{Region}
use Rattle.region_map.specs.Platforms.{IsSound, region_at}
use Rattle.region_map.proofs.Disjoint.{unusable_region}
use Rattle.label_table.specs.Fates.{held_count}
use Rattle.label_table.specs.Statuses.{RegionReady, status}
use Rattle.label_table.specs.Wholes.{all_ready}
use Rattle.label_table.proofs.ListTests.{Contains-here, Contains-there, eq_other, find-some, lt_from, never, not_true}
use Rattle.label_table.proofs.SoundPlatforms.{sound-disjoint}
use Rattle.table_steps.specs.Refusals.{IsReplyBy, area_not_ready, first_of, not_ready_by, refused_if, unknown_dimm}
use Rattle.table_steps.specs.Release as table
use Rattle.table_steps.proofs.Lists.{not-false}
use Rattle.table_steps.specs.Release.{held_fixed, holds_of, is_fixed, not_held, region_lacks_area, release_refusals}
use Rattle.namespace_commands.specs.Lists.{AreHeldOf, IsHeld, IsHeldOf, unread}
use Rattle.namespace_commands.specs.Releases.{IsReadyHeld, is_fixed_with, is_with, is_with_in, lacks_area}
use Rattle.namespace_commands.proofs.HeldTests.{fixed-told, lacks-told, with-told}

-- What is told of a module whose held labels are listed, or are not.
module _ (P : Platform) (L : Labels) (dimm : ℕ) where
  or-none : (a b more : Option Refusal) → option_or a (option_or b None) ≡ None → option_or a (option_or b more) ≡ more
  or-none (Some a) b more is = absurd cc
  or-none None (Some b) more is = absurd cc
  or-none None None more is = refl

  or-some : (a b more : Option Refusal) (refusal : Refusal) → option_or a (option_or b None) ≡ Some refusal → option_or a (option_or b more) ≡ Some refusal
  or-some (Some a) b more refusal is = is
  or-some None (Some b) more refusal is = is
  or-some None None more refusal is = absurd cc

  list-is : {x y : List Held} {n k : ℕ} → HeldList x n ≡ HeldList y k → x ≡ y
  list-is e = cc

  refused-is : {x y : Refusal} → Refused x ≡ Refused y → x ≡ y
  refused-is e = cc

  pub ready-held : (held : List Held) (left : ℕ) → IsHeld P L dimm (HeldList held left) → IsReadyHeld P L dimm held
  ready-held held left is = by (first_of (unknown_dimm P dimm ∷ area_not_ready L dimm ∷ [])) refl is
    where
      by : (o : Option Refusal) → first_of (unknown_dimm P dimm ∷ area_not_ready L dimm ∷ []) ≡ o → IsReplyBy o (IsHeldOf P L dimm) (HeldList held left) → IsReadyHeld P L dimm held
      by (Some refusal) e reply = absurd cc
      by None e reply = record {
        unrefused = λ more. or-none (unknown_dimm P dimm) (area_not_ready L dimm) (first_of more) e;
        held_are = subst (AreHeldOf P L dimm) (sym (list-is reply.reply_is)) reply.held_are;
      }

  pub unready-held : (refusal : Refusal) (more : List (Option Refusal)) → IsHeld P L dimm (Refused refusal) → first_of (unknown_dimm P dimm ∷ area_not_ready L dimm ∷ more) ≡ Some refusal
  unready-held refusal more is = or-some (unknown_dimm P dimm) (area_not_ready L dimm) (first_of more) refusal (by (first_of (unknown_dimm P dimm ∷ area_not_ready L dimm ∷ [])) refl is)
    where
      by : (o : Option Refusal) → first_of (unknown_dimm P dimm ∷ area_not_ready L dimm ∷ []) ≡ o → IsReplyBy o (IsHeldOf P L dimm) (Refused refusal) → o ≡ Some refusal
      by (Some other) e reply = ap Some (sym (refused-is reply))
      by None e reply = absurd (let no = reply.reply_is in cc)

find-same-in : {X : Type 0} (p q : X → Bool) (xs : List X) → ((x : X) → Contains xs x → p x ≡ q x) → find p xs ≡ find q xs
find-same-in p q [] same = refl
find-same-in p q (x ∷ xs) same =
    (λ i. cond (same x (Contains-here x xs) i) (Some x) (find p xs)) ∙ ap (λ o. cond (q x) (Some x) o) (find-same-in p q xs (λ y there. same y (Contains-there x xs y there)))

module _ (P : Platform) (sound : IsSound P) (L : Labels) (dimm : ℕ) (u : List ℕ) (held : List Held) (are : AreHeldOf P L dimm held) where
  -- the first region that lacks an area, by what is listed
  region-found : find (lacks_area L held u) P.regions ≡ find (table.lacks_area P L dimm u) P.regions
  region-found = find-same-in (lacks_area L held u) (table.lacks_area P L dimm u) P.regions (λ r in_P. lacks-told P L dimm held are u (sound-disjoint P sound) r in_P)

  pub lacks-none : find (lacks_area L held u) P.regions ≡ None → region_lacks_area P L dimm u ≡ None
  lacks-none none = ap (option_and_then (λ (r : Region). not_ready_by (status L r))) (sym region-found ∙ none)

  module _ (r : Region) (found : find (lacks_area L held u) P.regions ≡ Some r) where
    pub lacks-some : region_lacks_area P L dimm u ≡ not_ready_by (status L r)
    lacks-some = ap (option_and_then (λ (r : Region). not_ready_by (status L r))) (sym region-found ∙ found)

    in_P : Contains P.regions r
    in_P = (find-some (lacks_area L held u) P.regions r found).0

    pub lacking-known : region_at P r.index ≡ Some r
    lacking-known = (sound-disjoint P sound).indexes r in_P

    -- a region that lacks an area has modules, so that it can be used
    usable : r.rule ≡ None
    usable = by r.rule refl
      where
        ready : r.members ≡ [] → all_ready r L ≡ true
        ready none = ap (list_all (λ (x : Member). is_ready (L x.handle).kind)) none

        lacks : all_ready r L ≡ false
        lacks = not_true (all_ready r L) (and_parts (list_any (is_with_in u r.index) held) (not (all_ready r L)) (find-some (lacks_area L held u) P.regions r found).1).1

        by : (o : Option Rule) → r.rule ≡ o → r.rule ≡ None
        by None e = e
        by (Some rule) e = never (all_ready r L) (ready (unusable_region P r rule sound in_P e).members) lacks

    pub lacking-refusal : (refusal : Refusal) → first_of (unread P L r.index) ≡ Some refusal → region_lacks_area P L dimm u ≡ Some refusal
    lacking-refusal refusal is =
        lacks-some ∙ sym (same (not_ready_by (status L r)))
        ∙ sym ((λ i. option_or (refused_if (is_none (lacking-known i)) (UnknownRegion r.index))
        (option_or (option_and_then (λ (q : Region). option_map Unusable q.rule) (lacking-known i))
        (option_or (option_and_then (λ (q : Region). not_ready_by (status L q)) (lacking-known i)) None)))
        ∙ (λ i. option_or (option_map Unusable (usable i)) (option_or (not_ready_by (status L r)) None)))
        ∙ is
      where
        same : (o : Option Refusal) → option_or o None ≡ o
        same None = refl
        same (Some refusal) = refl

    -- none that is Ready does
    pub lacking-ready : status L r ≡ RegionReady → region_lacks_area P L dimm u ≡ None
    lacking-ready ready = lacks-some ∙ ap not_ready_by ready

-- The refusals one after the other.
module _ (P : Platform) (L : Labels) (dimm : ℕ) (u : List ℕ) (held : List Held) (is : IsReadyHeld P L dimm held) where
  abbrev rest : List (Option Refusal)
  rest = not_held P L dimm u ∷ region_lacks_area P L dimm u ∷ held_fixed P L dimm u ∷ []

  first : first_of (release_refusals P L dimm u) ≡ first_of rest
  first = is.unrefused rest

  zero-is : (n : ℕ) → nat_lt 0 n ≡ not (n == 0)
  zero-is zero = refl
  zero-is (suc n) = lt_from 0 (suc n) (omega arith) ∙ sym (ap not (eq_other (suc n) 0 (λ e. absurd (omega arith))))

  some-told : list_any (is_with u) held ≡ not (held_count P L dimm (has u) == 0)
  some-told = with-told P L dimm held is.held_are u ∙ zero-is (held_count P L dimm (has u))

  pub release-not_held : list_any (is_with u) held ≡ false → first_of (release_refusals P L dimm u) ≡ Some NotHeld
  release-not_held none =
      let zero_is : (held_count P L dimm (has u) == 0) ≡ true = not-false (held_count P L dimm (has u) == 0) (sym some-told ∙ none) in
      first ∙ (λ i. option_or (refused_if (zero_is i) NotHeld) (option_or (region_lacks_area P L dimm u) (option_or (held_fixed P L dimm u) None)))

  module _ (some : list_any (is_with u) held ≡ true) where
    held-some : not_held P L dimm u ≡ None
    held-some =
        let more : (held_count P L dimm (has u) == 0) ≡ false = not_true (held_count P L dimm (has u) == 0) (sym some-told ∙ some) in
        λ i. refused_if (more i) NotHeld

    pub release-region : (refusal : Refusal) → region_lacks_area P L dimm u ≡ Some refusal → first_of (release_refusals P L dimm u) ≡ Some refusal
    release-region refusal lacks = first ∙ (λ i. option_or (held-some i) (option_or (lacks i) (option_or (held_fixed P L dimm u) None)))

    module _ (whole : region_lacks_area P L dimm u ≡ None) where
      pub release-fixed : list_any (is_fixed_with u) held ≡ true → first_of (release_refusals P L dimm u) ≡ Some (ReadOnly u)
      release-fixed fixed =
          first ∙ (λ i. option_or (held-some i) (option_or (whole i) (option_or (refused_if ((sym (fixed-told P L dimm held is.held_are u) ∙ fixed) i) (ReadOnly u)) None)))

      pub release-none : list_any (is_fixed_with u) held ≡ false → first_of (release_refusals P L dimm u) ≡ None
      release-none free =
          first ∙ (λ i. option_or (held-some i) (option_or (whole i) (option_or (refused_if ((sym (fixed-told P L dimm held is.held_are u) ∙ free) i) (ReadOnly u)) None)))
