use Rattle.std.proofs.Common.{◌≡◌, ◌++◌, false, not, Option, Some, None, List, ℕ, [], ◌∷◌, Bor, codes, slice_get, is_some, ap, sym, ◌∙◌}
use Rattle.std.specs.Option.{option_copied, option_map}
use Rattle.std.specs.Str.{bytes_eq}
use Rattle.std.specs.String.{string_bytes}
use Rattle.std.proofs.lemmas.Bool.{cond-true, not-false}
use Rattle.nd_top.specs.Words.{LabelsOf, Word, asked_as, handle, labels_form}
use Rattle.nd_top.proofs.words.labels.Goals as goal

-- three words, the first of them `labels`
labels_form_is : (words : List Word) (command text : List ℕ) (fourth : Option (Bor (List ℕ))) → Some command ≡ option_map string_bytes (slice_get words 0) → Some text ≡ option_map string_bytes (slice_get words 2) → option_copied fourth ≡ option_map string_bytes (slice_get words 3) → is_some fourth ≡ false → not (bytes_eq command (codes "labels")) ≡ false → labels_form words ≡ option_map LabelsOf (handle text)
labels_form_is [] command text fourth first third rest none named = cc
labels_form_is (a ∷ []) command text fourth first third rest none named = cc
labels_form_is (a ∷ b ∷ []) command text fourth first third rest none named = cc
labels_form_is (a ∷ b ∷ c ∷ []) command text fourth first third rest none named =
    let first_is : string_bytes a ≡ command = cc in
    let third_is : string_bytes c ≡ text = cc in
    rw (first_is, third_is) (cond-true _ _ _ (not-false _ named))
labels_form_is (a ∷ b ∷ c ∷ d ∷ ds) command text (Some word) first third rest none named = cc
labels_form_is (a ∷ b ∷ c ∷ d ∷ ds) command text None first third rest none named = cc

pub returns-in_err-dimm : goal.returns-in_err-dimm
returns-in_err-dimm c =
    let form = labels_form_is (c.args.front.now ++ c.args.back.now) _ _ _ c.in_ok-command.ensures c.in_ok-handle.ensures c.operand-else-ne.ensures (sym c.is_some.ensures ∙ c.if-is_some.false) (sym c.ne.ensures ∙ c.if-ne.false) in
    ap (option_map asked_as) c.from_residual-in_err-dimm.ensures ∙ ap (option_map LabelsOf) c.in_err-dimm.ensures ∙ sym form

pub returns : goal.returns
returns c =
    let form = labels_form_is (c.args.front.now ++ c.args.back.now) _ _ _ c.in_ok-command.ensures c.in_ok-handle.ensures c.operand-else-ne.ensures (sym c.is_some.ensures ∙ c.if-is_some.false) (sym c.ne.ensures ∙ c.if-ne.false) in
    ap (option_map LabelsOf) c.in_ok-dimm.ensures ∙ sym form
