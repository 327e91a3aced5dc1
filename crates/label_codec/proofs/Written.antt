-- A label that is written is read again.
use Rattle.std.proofs.Common.{◌≡◌, ℕ, ◌+◌, ◌^◌, ◌<◌, ◌==◌, Some, true, List, [], ◌∷◌, ◌++◌, length, get_or, drop, inl, inr, refl, sym, ap, subst, ◌∙◌, arith}
use Rattle.std.specs.Prelude.{replicate, slice_index}
use Rattle.std.proofs.lemmas.Bool.{and_from}
use Rattle.std.proofs.lemmas.Bool.Decides.{nat_tests}
use Rattle.std.proofs.lemmas.List.{append-nil, get_or-drop, get_or-take}
use Rattle.byteorder.specs.Endian.{little_bytes, little_number}
use Rattle.byteorder.specs.Numbers.{little_from-take, little_number-reads_back}
use Rattle.byte_ranges.specs.Ranges.{range, number_at, with_fields}
use Rattle.byte_ranges.proofs.Fields.{AllStand, AreApart, all_stand, length-with_fields, range-with_fields_missed}
use Rattle.fletcher64.specs.Sums.{checksum_but, has_checksum, with_checksum}
use Rattle.fletcher64.proofs.Written.{has_checksum-with_checksum}
use Rattle.label_codec.specs.declared.label.Label.{Label}
use Rattle.label_codec.specs.Labels.{FitsNamespaceFields, FitsPartFields, HasZerosReserved, fields_of, fields_text, is_label, label_of, label_text}

number_in : (n at number : ℕ) (bytes : List ℕ) → number < 256 ^ n → range bytes at n ≡ little_bytes n number → number_at n bytes at ≡ number
number_in n at number bytes small is =
    sym (little_from-take 0 n n (drop at bytes) (omega arith))
    ∙ ap (λ (xs : List ℕ). little_number n xs) (is ∙ sym (append-nil (little_bytes n number)))
    ∙ little_number-reads_back n number [] small

byte_in : (at byte : ℕ) (bytes : List ℕ) → range bytes at 1 ≡ byte ∷ [] → slice_index bytes at ≡ byte
byte_in at byte bytes is =
    let place : at + 0 ≡ at = omega arith in
    let front = get_or-take 1 (drop at bytes) 0 0 (omega arith) in
    let behind = get_or-drop at bytes 0 0 in
    ap (λ (k : ℕ). get_or bytes k 0) (sym place) ∙ sym (front ∙ behind) ∙ ap (λ (xs : List ℕ). get_or xs 0 0) is

same_numbers : (m n : ℕ) → m ≡ n → (m == n) ≡ true
same_numbers m n same = grind (arith, nat_tests)

module _ (l : Label) (whole : FitsNamespaceFields l) (part : FitsPartFields l) where
  apart : AreApart 0 256 (fields_text l)
  apart = (omega arith, (omega arith, (omega arith, (omega arith, (omega arith, (omega arith, (omega arith, (omega arith, (omega arith, (omega arith, (omega arith, (omega arith, (omega arith, omega arith)))))))))))))

  long : length (with_fields (replicate 256 0) (fields_text l)) ≡ 256
  long = length-with_fields 256 (fields_text l) (replicate 256 0) 0 refl apart

  -- the checksum behind them is one more field
  abbrev parts : List (ℕ × List ℕ)
  parts = fields_text l ++ (248, little_bytes 8 (checksum_but (with_fields (replicate 256 0) (fields_text l)) 248)) ∷ []

  parts_apart : AreApart 0 256 parts
  parts_apart = (omega arith, (omega arith, (omega arith, (omega arith, (omega arith, (omega arith, (omega arith, (omega arith, (omega arith, (omega arith, (omega arith, (omega arith, (omega arith, (omega arith, omega arith))))))))))))))

  stand : AllStand parts (label_text l)
  unfolding label_text with_checksum
  stand = all_stand 256 parts (replicate 256 0) 0 refl parts_apart

  fields_again : fields_of (label_text l) ≡ l
  unfolding fields_of
  fields_again =
      let bytes = label_text l in
      let uuid : range bytes 0 16 ≡ l.uuid = subst (λ (n : ℕ). range bytes 0 n ≡ l.uuid) whole.uuid stand.0 in
      let name : range bytes 16 64 ≡ l.name = subst (λ (n : ℕ). range bytes 16 n ≡ l.name) whole.name stand.1.0 in
      let flags : number_at 4 bytes 80 ≡ l.flags = number_in 4 80 l.flags bytes whole.flags stand.1.1.0 in
      let nlabel : number_at 2 bytes 84 ≡ l.nlabel = number_in 2 84 l.nlabel bytes whole.nlabel stand.1.1.1.0 in
      let position : number_at 2 bytes 86 ≡ l.position = number_in 2 86 l.position bytes whole.position stand.1.1.1.1.0 in
      let cookie : number_at 8 bytes 88 ≡ l.cookie = number_in 8 88 l.cookie bytes whole.cookie stand.1.1.1.1.1.0 in
      let lba_size : number_at 8 bytes 96 ≡ l.lba_size = number_in 8 96 l.lba_size bytes whole.lba_size stand.1.1.1.1.1.1.0 in
      let dpa : number_at 8 bytes 104 ≡ l.dpa = number_in 8 104 l.dpa bytes part.dpa stand.1.1.1.1.1.1.1.0 in
      let raw_size : number_at 8 bytes 112 ≡ l.raw_size = number_in 8 112 l.raw_size bytes part.raw_size stand.1.1.1.1.1.1.1.1.0 in
      let slot : number_at 4 bytes 120 ≡ l.slot = number_in 4 120 l.slot bytes part.slot stand.1.1.1.1.1.1.1.1.1.0 in
      let alignment : slice_index bytes 124 ≡ l.alignment = byte_in 124 l.alignment bytes stand.1.1.1.1.1.1.1.1.1.1.0 in
      let type_guid : range bytes 128 16 ≡ l.type_guid = subst (λ (n : ℕ). range bytes 128 n ≡ l.type_guid) part.type_guid stand.1.1.1.1.1.1.1.1.1.1.1.0 in
      let abstraction : range bytes 144 16 ≡ l.abstraction = subst (λ (n : ℕ). range bytes 144 n ≡ l.abstraction) part.abstraction stand.1.1.1.1.1.1.1.1.1.1.1.1.0 in
      λ i. record {
        uuid = uuid i;
        name = name i;
        flags = flags i;
        nlabel = nlabel i;
        position = position i;
        cookie = cookie i;
        lba_size = lba_size i;
        dpa = dpa i;
        raw_size = raw_size i;
        slot = slot i;
        alignment = alignment i;
        type_guid = type_guid i;
        abstraction = abstraction i;
      }

  checked : has_checksum (label_text l) 248 ≡ true
  unfolding label_text
  checked = has_checksum-with_checksum (with_fields (replicate 256 0) (fields_text l)) 248 (omega (arith, long))

  is_label-text : is_label (label_text l) l.slot ≡ true
  unfolding is_label
  is_label-text =
      let slot = number_in 4 120 l.slot (label_text l) part.slot stand.1.1.1.1.1.1.1.1.1.0 in
      and_from (has_checksum (label_text l) 248) (number_at 4 (label_text l) 120 == l.slot) checked (same_numbers (number_at 4 (label_text l) 120) l.slot slot)

  pub label_of-text : label_of (label_text l) l.slot ≡ Some l
  label_of-text = rw (is_label-text, fields_again) refl

  pub HasZerosReserved-text : HasZerosReserved (label_text l)
  unfolding label_text with_checksum
  HasZerosReserved-text = record {
    behind_alignment = range-with_fields_missed 256 parts (replicate 256 0) 0 125 3 refl parts_apart (
      inl (omega arith),
      (
        inl (omega arith),
        (
          inl (omega arith),
          (
            inl (omega arith),
            (
              inl (omega arith),
              (
                inl (omega arith),
                (inl (omega arith), (inl (omega arith), (inl (omega arith), (inl (omega arith), (inl (omega arith), (inr (omega arith), (inr (omega arith), (inr (omega arith), tt)))))))),
              ),
            ),
          ),
        ),
      ),
    );
    behind_guids = range-with_fields_missed 256 parts (replicate 256 0) 0 160 88 refl parts_apart (
      inl (omega arith),
      (
        inl (omega arith),
        (
          inl (omega arith),
          (
            inl (omega arith),
            (
              inl (omega arith),
              (
                inl (omega arith),
                (inl (omega arith), (inl (omega arith), (inl (omega arith), (inl (omega arith), (inl (omega arith), (inl (omega arith), (inl (omega arith), (inr (omega arith), tt)))))))),
              ),
            ),
          ),
        ),
      ),
    );
  }
