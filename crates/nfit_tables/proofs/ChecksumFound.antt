-- The checksum byte of bytes that sum to 0 modulo 256 is the one that the table determines.
use Rattle.std.proofs.Common.{◌≡◌, ℕ, ◌+◌, ◌-◌, ◌%◌, ◌<◌, List, [], ◌∷◌, ◌++◌, sum, sym, ap, ◌∙◌, arith}
use Rattle.std.specs.Prelude.{codes}
use Rattle.std.proofs.lemmas.List.Sums.{sum_by-append, sum_by_push}
use Rattle.byteorder.specs.Endian.{little_bytes}
use Rattle.nfit_tables.specs.declared.pieces.Header.{Header}
use Rattle.nfit_tables.specs.declared.pieces.Nfit.{Nfit}
use Rattle.nfit_tables.specs.Spelling.{header_with, length_of, spellings, text_with, checksum_byte, text}

-- xs sum to n more than ys
pub record SumsTo (n : ℕ) (xs ys : List ℕ) : Type 0 where
  pub more : sum xs ≡ sum ys + n

sums_more : (xs : List ℕ) (n : ℕ) → SumsTo n (xs ++ n ∷ []) (xs ++ 0 ∷ [])
sums_more xs n = record { more = omega (arith, sum_by_push (λ (x : ℕ). x) xs n, sum_by_push (λ (x : ℕ). x) xs 0) }

sums_on : {n : ℕ} {xs ys : List ℕ} (zs : List ℕ) → SumsTo n xs ys → SumsTo n (xs ++ zs) (ys ++ zs)
sums_on {n} {xs} {ys} zs so_far = record { more = omega (arith, so_far.more, sum_by-append (λ (x : ℕ). x) xs zs, sum_by-append (λ (x : ℕ). x) ys zs) }

header_sums : (checksum len : ℕ) (h : Header) → SumsTo checksum (header_with checksum len h) (header_with 0 len h)
unfolding header_with
header_sums checksum len h =
    sums_on (little_bytes 4 h.reserved)
    (sums_on (little_bytes 4 h.creator_revision)
    (sums_on (little_bytes 4 h.creator)
    (sums_on (little_bytes 4 h.oem_revision)
    (sums_on h.oem_table (sums_on h.oem_id (sums_more (codes "NFIT" ++ little_bytes 4 len ++ 1 ∷ []) checksum))))))

text_sums : (checksum : ℕ) (n : Nfit) → sum (text_with checksum n) ≡ sum (text_with 0 n) + checksum
text_sums checksum n = (sums_on (spellings n.pieces) (header_sums checksum (length_of n) n.header)).more

the_byte : (others checksum : ℕ) → (others + checksum) % 256 ≡ 0 → checksum < 256 → checksum ≡ (256 - others % 256) % 256
the_byte others checksum none lt = omega arith

-- bytes that sum to 0 are the text of a table where they are that text but for the checksum
pub text_is : (bytes : List ℕ) (checksum : ℕ) (n : Nfit) → bytes ≡ text_with checksum n → checksum < 256 → sum bytes % 256 ≡ 0 → bytes ≡ text n
text_is bytes checksum n is lt none =
    let sums : sum bytes ≡ sum (text_with 0 n) + checksum = ap sum is ∙ text_sums checksum n in
    let e : checksum ≡ checksum_byte n = the_byte (sum (text_with 0 n)) checksum (ap (λ (s : ℕ). s % 256) (sym sums) ∙ none) lt in
    is ∙ ap (λ (c : ℕ). text_with c n) e
