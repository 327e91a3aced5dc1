-- What a label says of the slot that it stands in.
use Rattle.std.proofs.Common.{◌≡◌, ℕ, ◌==◌, ◌&&◌, List, Some, None, Bool, true, false, ap, sym, ◌∙◌, rules, tests}
use Rattle.std.specs.Prelude.{if◌then◌else◌}
use Rattle.byte_ranges.specs.Ranges.{number_at}
use Rattle.fletcher64.specs.Sums.{has_checksum}
use Rattle.label_codec.specs.declared.label.Label.{Label}
use Rattle.label_codec.specs.Labels.{fields_of, is_label, label_of}

-- a label names its own slot
pub slot_of_label : (bytes : List ℕ) (slot : ℕ) (l : Label) → label_of bytes slot ≡ Some l → l.slot ≡ slot
unfolding is_label fields_of
slot_of_label bytes slot l found = both (has_checksum bytes 248) (number_at 4 bytes 120 == slot) (λ same. search (rules, tests)) found
  where
    both : (whole own : Bool) → (own ≡ true → number_at 4 bytes 120 ≡ slot) → (if whole && own then Some (fields_of bytes) else None) ≡ Some l → l.slot ≡ slot
    both true true same is = let e : fields_of bytes ≡ l = cc in sym (ap (λ (x : Label). x.slot) e) ∙ same cc
    both true false same is = cc
    both false own same is = cc
