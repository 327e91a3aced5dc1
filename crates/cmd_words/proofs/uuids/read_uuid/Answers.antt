use Rattle.std.proofs.Common.{◌≡◌, ℕ, List, Option, Some, None, length, refl, ◌∙◌}
use Rattle.uuid.specs.Text.{parsed, parsed_hyphenated}
use Rattle.cmd_words.specs.Uuids.{uuid}
use Rattle.cmd_words.proofs.uuids.read_uuid.Goals as goal

-- of the forms of uuids the hyphenated one alone has 36 characters
hyphenated_by_length : (text : List ℕ) → length text ≡ 36 → parsed text ≡ parsed_hyphenated text
hyphenated_by_length text is = rw is refl

none_parsed : (read : Option (List ℕ)) → ((bytes : List ℕ) → read ≡ Some bytes → ⊥) → None ≡ read
none_parsed None none = refl
none_parsed (Some bytes) none = absurd (none bytes refl)

pub returns-in-Err : goal.returns-in-Err
returns-in-Err c =
    none_parsed (uuid c.args.text.now) (λ bytes is.
    let read = c.in-Err.ensures.ok.1 (bytes, hyphenated_by_length c.args.text.now c.if-text-ne-CHARACTERS.false ∙ is) in cc)
