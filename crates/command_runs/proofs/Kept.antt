-- The bytes of areas over one line more.
use Rattle.std.proofs.Common.{◌≡◌, ◌⊎◌, inl, inr, ℕ, zero, suc, Bool, true, false, ◌||◌, cond, List, [], ◌∷◌, ◌++◌, Option, Some, None, Result, Ok, Err, refl, sym, ap, ◌∙◌, subst}
use Rattle.std.specs.Prelude.{◌==◌, slice_get}
use Rattle.std.specs.FinMap.{get}
use Rattle.std.specs.List.{flat_map, list_any}
use Rattle.std.specs.Option.{option_map_or}
use Rattle.std.proofs.lemmas.List.Elements.{All-head, All-tail}
use Rattle.std.proofs.lemmas.List.Folds.{list_any-append}
use Rattle.std.proofs.lemmas.Option.{get_or_from_slice_get, slice_get_within}
use Rattle.rig_trait.specs.Areas.{Areas, written}
use Rattle.rig_trait.specs.Records.{CrashRecord}
use Rattle.rig_trait.proofs.WrittenAreas.{get-written}
use Rattle.cmd_words.specs.declared.commands.Command.{Command}
use Rattle.cmd_words.specs.declared.parts.Part.{Part}
use Rattle.cmd_words.specs.Parts.{part_of}
use Rattle.cmd_words.specs.Lines.{command_in}
use Rattle.label_area.specs.Fair.{IsFair}
use Rattle.label_area.specs.Flips.{is_among}
use Rattle.label_area.specs.Inits.{IsVacant, first_block, initialised, layout_of, second_block, slots_of, with_blocks}
use Rattle.label_area.specs.Modules.{area_kind}
use Rattle.label_area.proofs.Initialised.{vacant-initialised}
use Rattle.label_codec.specs.declared.kind.AreaKind.TheVariants.{Ready, Uninit}
use Rattle.label_codec.specs.ModuleLabels.{Module}
use Rattle.region_map.specs.declared.platform.Platform.{Platform}
use Rattle.namespace_core.specs.declared.faults.RunFault.TheVariants.{Area}
use Rattle.namespace_core.specs.Commands.{is_init, written_by}
use Rattle.namespace_core.proofs.Standing.{quiet-area}
use Rattle.view_types.specs.declared.word_fault.WordFault.{WordFault}
use Rattle.command_runs.specs.Areas.{IsWritten, KeepsAreas, LeaveLabels, LeavesAreas, LeavesLabels, MayInitialise, OnlyTells, changed_by, changed_by_line, changed_by_part, initialised_by, initialised_by_line}

left-false : (a b : Bool) → (a || b) ≡ false → a ≡ false
left-false true b is = absurd (let differ : true ≡ false = is in cc)
left-false false b is = refl

right-false : (a b : Bool) → (a || b) ≡ false → b ≡ false
right-false true b is = absurd (let differ : true ≡ false = is in cc)
right-false false b is = is

right-true : (a b : Bool) → b ≡ true → (a || b) ≡ true
right-true true b is = refl
right-true false b is = is

false-or : (a b : Bool) → a ≡ false → b ≡ false → (a || b) ≡ false
false-or true b is other = absurd (let differ : true ≡ false = is in cc)
false-or false b is other = other

-- the part of one line
module _ (test : ℕ → Bool) (part : List ℕ → List ℕ) where
  none-in : (lines : List (List ℕ)) (k : ℕ) (line : List ℕ) → slice_get lines k ≡ Some line → list_any test (flat_map part lines) ≡ false → list_any test (part line) ≡ false
  none-in [] k line is none = absurd cc
  none-in (first ∷ lines) zero line is none =
      let same : first ≡ line = cc in
      ap (λ (l : List ℕ). list_any test (part l)) (sym same) ∙ left-false (list_any test (part first)) (list_any test (flat_map part lines)) (sym (list_any-append test (part first) (flat_map part lines)) ∙ none)
  none-in (first ∷ lines) (suc k) line is none =
      none-in lines k line is (right-false (list_any test (part first)) (list_any test (flat_map part lines)) (sym (list_any-append test (part first) (flat_map part lines)) ∙ none))

  one-in : (lines : List (List ℕ)) (k : ℕ) (line : List ℕ) → slice_get lines k ≡ Some line → list_any test (part line) ≡ true → list_any test (flat_map part lines) ≡ true
  one-in [] k line is one = absurd cc
  one-in (first ∷ lines) zero line is one =
      let same : first ≡ line = cc in
      list_any-append test (part first) (flat_map part lines) ∙ ap (λ (b : Bool). b || list_any test (flat_map part lines)) (ap (λ (l : List ℕ). list_any test (part l)) same ∙ one)
  one-in (first ∷ lines) (suc k) line is one =
      list_any-append test (part first) (flat_map part lines) ∙ right-true (list_any test (part first)) (list_any test (flat_map part lines)) (one-in lines k line is one)

-- a line that changes no labels names no module whose labels change
module _ (platform : Platform) where
  changed-none : (part : Part) → (is_init part ≡ true) ⊎ OnlyTells part → (dimm : ℕ) → is_among (changed_by_part platform part) dimm ≡ false
  changed-none part (inl init) dimm = ap (λ (b : Bool). is_among (cond {A = List ℕ} b [] (written_by platform part)) dimm) init
  changed-none part (inr only) dimm = by (is_init part)
    where
      unwritten : (b : Bool) → is_among (written_by platform part) dimm ≡ b → is_among (written_by platform part) dimm ≡ false
      unwritten true is = absurd (quiet-area platform part dimm (only (Err (Area dimm))) is)
      unwritten false is = is

      by : (b : Bool) → is_among (cond {A = List ℕ} b [] (written_by platform part)) dimm ≡ false
      by true = refl
      by false = unwritten (is_among (written_by platform part) dimm) refl

  line-none : (line : Result (Option Command) WordFault) → LeavesLabels line → (dimm : ℕ) → is_among (changed_by_line platform line) dimm ≡ false
  line-none (Ok (Some command)) fits dimm = changed-none (part_of command) fits dimm
  line-none (Ok None) fits dimm = refl
  line-none (Err fault) fits dimm = refl

  none-changed : (lines : List (List ℕ)) → LeaveLabels lines → (dimm : ℕ) → is_among (changed_by platform lines) dimm ≡ false
  none-changed [] fits dimm = refl
  none-changed (line ∷ lines) fits dimm =
      list_any-append (λ slot. dimm == slot) (changed_by_line platform (command_in line)) (changed_by platform lines)
      ∙ false-or (is_among (changed_by_line platform (command_in line)) dimm) (is_among (changed_by platform lines) dimm)
      (line-none (command_in line) (All-head (λ l. LeavesLabels (command_in l)) line lines fits) dimm)
      (none-changed lines (All-tail (λ l. LeavesLabels (command_in l)) line lines fits) dimm)

pub fits-line : (lines : List (List ℕ)) (k : ℕ) (line : List ℕ) → slice_get lines k ≡ Some line → LeaveLabels lines → LeavesLabels (command_in line)
fits-line lines k line is fits =
    subst (λ (l : List ℕ). LeavesLabels (command_in l)) (get_or_from_slice_get lines k line line is) (fits k line (slice_get_within lines k line is))

-- an area is initialised alike where its bytes are the same
written-alike : (areas mid : Areas) (dimm at : ℕ) (put : List ℕ) → get mid dimm ≡ get areas dimm → get (written mid dimm at put) dimm ≡ get (written areas dimm at put) dimm
written-alike areas mid dimm at put same =
    let then = get-written mid dimm at put in
    let before = get-written areas dimm at put in
    cc

laid-alike : {G : Type 0} (lay : G → Areas → Areas) (areas mid : Areas) (dimm : ℕ) → get mid dimm ≡ get areas dimm → ((g : G) → get (lay g mid) dimm ≡ get (lay g areas) dimm)
    → (layout : Option G) → get (option_map_or (λ g. lay g mid) layout mid) dimm ≡ get (option_map_or (λ g. lay g areas) layout areas) dimm
laid-alike lay areas mid dimm same alike None = same
laid-alike lay areas mid dimm same alike (Some g) = alike g

initialised-same : (areas mid : Areas) (dimm : ℕ) → get mid dimm ≡ get areas dimm → get (initialised dimm mid) dimm ≡ get (initialised dimm areas) dimm
initialised-same areas mid dimm same =
    ap (λ (o : Option (List ℕ)). get (option_map_or (λ g. with_blocks g mid dimm) (layout_of o) mid) dimm) same
    ∙ laid-alike (λ g now. with_blocks g now dimm) areas mid dimm same
    (λ g. written-alike (written areas dimm 0 (first_block g)) (written mid dimm 0 (first_block g)) dimm g.block (second_block g) (written-alike areas mid dimm 0 (first_block g) same))
    (layout_of (get areas dimm))

-- and is not Uninit then
not-again : (areas : Areas) (dimm : ℕ) → area_kind (get areas dimm) ≡ Uninit → area_kind (get (initialised dimm areas) dimm) ≡ Uninit → ⊥
not-again areas dimm uninit again =
    let ready : area_kind (get (initialised dimm areas) dimm) ≡ Ready = ap (λ (there : Module). there.kind) (vacant-initialised areas dimm uninit).module_is in
    let differ : Ready ≡ Uninit = sym ready ∙ again in
    cc

written-same : (failed : Bool) (dimm : ℕ) (areas mid now : Areas) → get mid dimm ≡ get areas dimm → IsWritten failed dimm mid now → IsWritten failed dimm areas now
written-same true dimm areas mid now same is = tt
written-same false dimm areas mid now same is = is ∙ initialised-same areas mid dimm same

written-on : (failed : Bool) (dimm : ℕ) (areas mid now : Areas) → get now dimm ≡ get mid dimm → get mid dimm ≡ get (initialised dimm areas) dimm → IsWritten failed dimm areas now
written-on true dimm areas mid now same is = tt
written-on false dimm areas mid now same is = same ∙ is

module _ (platform : Platform) (lines : List (List ℕ)) (k : ℕ) (line : List ℕ) (is_next : slice_get lines k ≡ Some line) where
  named-too : (dimm : ℕ) (areas mid : Areas) → get mid dimm ≡ get areas dimm → MayInitialise platform (initialised_by_line platform (command_in line)) dimm mid → MayInitialise platform (initialised_by platform lines) dimm areas
  named-too dimm areas mid same may = record {
    is_named = one-in (λ slot. dimm == slot) (λ l. initialised_by_line platform (command_in l)) lines k line is_next may.is_named;
    known = may.known;
    was_uninit = ap area_kind (sym same) ∙ may.was_uninit;
  }

  unchanged-line : (dimm : ℕ) → is_among (changed_by platform lines) dimm ≡ false → is_among (changed_by_line platform (command_in line)) dimm ≡ false
  unchanged-line dimm = none-in (λ slot. dimm == slot) (λ l. changed_by_line platform (command_in l)) lines k line is_next

  module _ (areas mid : Areas) (before : KeepsAreas (λ q. false) platform (changed_by platform lines) (initialised_by platform lines) areas mid) where
    pub kept-on : (failed : ℕ → Bool) (now : Areas) → KeepsAreas failed platform (changed_by_line platform (command_in line)) (initialised_by_line platform (command_in line)) mid now
        → KeepsAreas failed platform (changed_by platform lines) (initialised_by platform lines) areas now
    kept-on failed now turn dimm other = elim (before dimm other) [
      | inl same ↦ elim (turn dimm (unchanged-line dimm other)) [
        | inl again ↦ inl (again ∙ same)
        | inr (may, is) ↦ inr (named-too dimm areas mid same may, written-same (failed dimm) dimm areas mid now same is)
      ]
      | inr (may, is) ↦ elim (turn dimm (unchanged-line dimm other)) [
        | inl again ↦ inr (may, written-on (failed dimm) dimm areas mid now again is)
        | inr (once_more, _) ↦ absurd (not-again areas dimm may.was_uninit (ap area_kind (sym is) ∙ once_more.was_uninit))
      ]
    ]

    pub left-on : LeaveLabels lines → (c : CrashRecord) → LeavesAreas platform (initialised_by_line platform (command_in line)) mid c → LeavesAreas platform (initialised_by platform lines) areas c
    left-on fits c turn dimm = elim (before dimm (none-changed platform lines fits dimm)) [
      | inl same ↦ elim (turn dimm) [
        | inl again ↦ inl (again ∙ same)
        | inr (may, ready) ↦ inr (named-too dimm areas mid same may, subst (λ (o : Option (List ℕ)). IsFair c → (area_kind (get c.areas dimm) ≡ Uninit) ⊎ IsVacant (get c.areas dimm) (slots_of o)) same ready)
      ]
      | inr (may, is) ↦ elim (turn dimm) [
        | inl again ↦ inr (may, λ fair. inr (subst (λ (o : Option (List ℕ)). IsVacant o (slots_of (get areas dimm))) (sym (again ∙ is)) (vacant-initialised areas dimm may.was_uninit)))
        | inr (once_more, _) ↦ absurd (not-again areas dimm may.was_uninit (ap area_kind (sym is) ∙ once_more.was_uninit))
      ]
    ]

-- where no line initialises an area, no line of them does
pub none-named : (platform : Platform) (lines : List (List ℕ)) (k : ℕ) (line : List ℕ) → slice_get lines k ≡ Some line → initialised_by platform lines ≡ [] → initialised_by_line platform (command_in line) ≡ []
none-named platform [] k line is none = absurd cc
none-named platform (first ∷ lines) zero line is none =
    let same : first ≡ line = cc in
    ap (λ (l : List ℕ). initialised_by_line platform (command_in l)) (sym same) ∙ front-none (initialised_by_line platform (command_in first)) (initialised_by platform lines) none
  where
    front-none : (xs ys : List ℕ) → xs ++ ys ≡ [] → xs ≡ []
    front-none [] ys is = refl
    front-none (x ∷ xs) ys is = absurd cc
none-named platform (first ∷ lines) (suc k) line is none = none-named platform lines k line is (back-none (initialised_by_line platform (command_in first)) (initialised_by platform lines) none)
  where
    back-none : (xs ys : List ℕ) → xs ++ ys ≡ [] → ys ≡ []
    back-none [] ys is = is
    back-none (x ∷ xs) ys is = absurd cc
