-- Reading structures one after the other, as a loop does.
use Rattle.std.proofs.Common.{◌≡◌, ℕ, zero, suc, ◌+◌, ◌-◌, ◌*◌, ◌≤◌, ◌<◌, Bool, true, false, cond, List, [], ◌∷◌, ◌++◌, length, take, drop, refl, sym, ap, ◌∙◌, append_assoc, arith}
use Rattle.std.specs.Prelude.{◌&&◌, ◌==◌, Some, None, Result, Ok, Err, nat_le}
use Rattle.std.proofs.lemmas.Bool.{and_parts, leb-true}
use Rattle.std.proofs.lemmas.Option.{cond_some}
use Rattle.std.proofs.lemmas.List.{append-nil, drop-drop, drop_all, length-take-le, length-drop, take_all}
use Rattle.byte_ranges.specs.Ranges.{number_at}
use Rattle.byte_ranges.proofs.Numbers.{number_at-take}
use Rattle.nfit_tables.specs.declared.fault.NfitFault.{NfitFault}
use Rattle.nfit_tables.specs.declared.fault.NfitFault.TheVariants.{Structure}
use Rattle.nfit_tables.specs.declared.pieces.Piece.{Piece}
use Rattle.nfit_tables.specs.Reading.{◌>>=◌, has_least, is_structure, line_count, piece_in, pieces_at, told_length}

-- what was read before, and what is still read
abbrev pub with_front : List Piece → Result (List Piece) NfitFault → Result (List Piece) NfitFault
with_front front read = read >>= λ more. Ok (front ++ more)

-- where a whole structure stands, and how long it is
pub record IsWhole (rest : List ℕ) (len : ℕ) : Type 0 where
  pub is : is_structure rest ≡ true
  pub told : told_length rest ≡ len

-- the length that is told of a whole structure
pub length_told : (len : ℕ) (rest : List ℕ) → Some len ≡ cond (is_structure rest) (Some (told_length rest)) None → IsWhole rest len
length_told len rest is =
    let parts = cond_some (is_structure rest) (told_length rest) len (sym is) in
    record { is = parts.0; told = parts.1 }

no_length : (whole : Bool) (len : ℕ) → None ≡ cond whole (Some len) None → whole ≡ false
no_length false len is = refl
no_length true len is = absurd cc

-- where none is told, none stands there
pub none_told : (rest : List ℕ) → None ≡ cond (is_structure rest) (Some (told_length rest)) None → is_structure rest ≡ false
none_told rest is = no_length (is_structure rest) (told_length rest) is

least : (a b d e : Bool) (len most : ℕ)
    → cond a (nat_le 56 len) (cond b (nat_le 48 len) (cond d (nat_le 16 len && nat_le most len) (cond e (nat_le 32 len) (nat_le 4 len)))) ≡ true → 4 ≤ len
least true b d e len most is = omega (arith, leb-true 56 len is)
least false true d e len most is = omega (arith, leb-true 48 len is)
least false false true e len most is = omega (arith, leb-true 16 len (and_parts (nat_le 16 len) (nat_le most len) is).0)
least false false false true len most is = omega (arith, leb-true 32 len is)
least false false false false len most is = omega (arith, leb-true 4 len is)

least_four : (kind len : ℕ) (bytes : List ℕ) → has_least kind len bytes ≡ true → 4 ≤ len
least_four kind len bytes is = least (kind == 0) (kind == 1) (kind == 2) (kind == 4) len (16 + 4 * line_count bytes) is

three : (a b c : Bool) → (a && b && c) ≡ true → (a ≡ true) × (b ≡ true) × (c ≡ true)
three true true true is = (refl, refl, refl)
three true true false is = absurd cc
three true false c is = absurd cc
three false b c is = absurd cc

-- a whole structure has its first four bytes, lies within the rest and is long enough for its type
pub four : (rest : List ℕ) (len : ℕ) → IsWhole rest len → (4 ≤ len) × (len ≤ length rest) × (has_least (number_at 2 rest 0) len rest ≡ true)
four rest len whole =
    let parts = three (nat_le 4 (length rest)) (nat_le (told_length rest) (length rest)) (has_least (number_at 2 rest 0) (told_length rest) rest) whole.is in
    let enough : has_least (number_at 2 rest 0) len rest ≡ true = ap (λ (n : ℕ). has_least (number_at 2 rest 0) n rest) (sym whole.told) ∙ parts.2 in
    (least_four (number_at 2 rest 0) len rest enough, omega (arith, leb-true (told_length rest) (length rest) parts.1, whole.told), enough)

lines_same : (len : ℕ) (bytes short : List ℕ) (long : Bool) → nat_le 16 len ≡ long → (16 ≤ len → line_count short ≡ line_count bytes)
    → (long && nat_le (16 + 4 * line_count bytes) len) ≡ (long && nat_le (16 + 4 * line_count short) len)
lines_same len bytes short false is same = refl
lines_same len bytes short true is same = rw (same (leb-true 16 len is)) refl

-- and so are its bytes alone
pub has_least-cut : (rest : List ℕ) (len : ℕ) → IsWhole rest len → has_least (number_at 2 (take len rest) 0) (length (take len rest)) (take len rest) ≡ true
has_least-cut rest len whole =
    let parts = four rest len whole in
    let kind = number_at-take 2 0 len rest (omega (arith, parts.0)) in
    let long = length-take-le len rest parts.1 in
    let lines = lines_same len rest (take len rest) (nat_le 16 len) refl (λ enough. number_at-take 4 8 len rest (omega arith)) in
    rw (kind, long, sym lines) parts.2

regroup : (front : List Piece) (p : Piece) (read : Result (List Piece) NfitFault) → with_front front (read >>= λ more. Ok (p ∷ more)) ≡ with_front (front ++ p ∷ []) read
regroup front p (Ok more) = ap (λ (ps : List Piece). Ok ps) (sym (append_assoc front (p ∷ []) more))
regroup front p (Err e) = refl

-- one structure is read
step : (front : List Piece) (most at : ℕ) (rest : List ℕ) → 0 < length rest → is_structure rest ≡ true
    → with_front front (pieces_at (suc most) at rest) ≡ with_front (front ++ piece_in (take (told_length rest) rest) ∷ []) (pieces_at most (at + told_length rest) (drop (told_length rest) rest))
unfolding pieces_at
step front most at [] inside is = absurd (omega arith)
step front most at (byte ∷ bytes) inside is =
    let rest = byte ∷ bytes in
    let len = told_length rest in
    ap (λ (b : Bool). with_front front (cond b (pieces_at most (at + len) (drop len rest) >>= λ more. Ok (piece_in (take len rest) ∷ more)) (Err (Structure at)))) is
    ∙ regroup front (piece_in (take len rest)) (pieces_at most (at + len) (drop len rest))

-- or none
stop : (front : List Piece) (most at : ℕ) (rest : List ℕ) → 0 < length rest → is_structure rest ≡ false → with_front front (pieces_at (suc most) at rest) ≡ Err (Structure at)
unfolding pieces_at
stop front most at [] inside none = absurd (omega arith)
stop front most at (byte ∷ bytes) inside none =
    let rest = byte ∷ bytes in
    let len = told_length rest in
    ap (λ (b : Bool). with_front front (cond b (pieces_at most (at + len) (drop len rest) >>= λ more. Ok (piece_in (take len rest) ∷ more)) (Err (Structure at)))) none

nothing : (most at : ℕ) → pieces_at most at [] ≡ Ok []
unfolding pieces_at
nothing zero at = refl
nothing (suc most) at = refl

-- the loop goes on behind a structure
pub goes_on : (front : List Piece) (most at len : ℕ) (bytes : List ℕ) (total : Result (List Piece) NfitFault) → at < length bytes → length bytes ≤ at + most → IsWhole (drop at bytes) len
    → with_front front (pieces_at most at (drop at bytes)) ≡ total
    → (m : ℕ) × (length bytes ≤ (at + len) + m) × (with_front (front ++ piece_in (take len (drop at bytes)) ∷ []) (pieces_at m (at + len) (drop (at + len) bytes)) ≡ total)
goes_on front zero at len bytes total inside enough whole so_far = absurd (omega arith)
goes_on front (suc most) at len bytes total inside enough whole so_far =
    let parts = four (drop at bytes) len whole in
    let here : 0 < length (drop at bytes) = omega (arith, length-drop at bytes) in
    let one = step front most at (drop at bytes) here whole.is in
    let told = ap (λ (n : ℕ). with_front (front ++ piece_in (take n (drop at bytes)) ∷ []) (pieces_at most (at + n) (drop n (drop at bytes)))) whole.told in
    let moved = ap (λ (rest : List ℕ). with_front (front ++ piece_in (take len (drop at bytes)) ∷ []) (pieces_at most (at + len) rest)) (drop-drop len at bytes) in
    (most, omega (arith, parts.0), sym (one ∙ told ∙ moved) ∙ so_far)

-- it ends where none stands
pub ends : (front : List Piece) (most at : ℕ) (bytes : List ℕ) (total : Result (List Piece) NfitFault) → at < length bytes → length bytes ≤ at + most → is_structure (drop at bytes) ≡ false
    → with_front front (pieces_at most at (drop at bytes)) ≡ total → total ≡ Err (Structure at)
ends front zero at bytes total inside enough none so_far = absurd (omega arith)
ends front (suc most) at bytes total inside enough none so_far = sym so_far ∙ stop front most at (drop at bytes) (omega (arith, length-drop at bytes)) none

-- or where all bytes are read
pub is_done : (front : List Piece) (most at : ℕ) (bytes : List ℕ) (total : Result (List Piece) NfitFault) → length bytes ≤ at → with_front front (pieces_at most at (drop at bytes)) ≡ total → total ≡ Ok front
is_done front most at bytes total done so_far =
    let read = ap (pieces_at most at) (drop_all at bytes done) ∙ nothing most at in
    sym so_far ∙ ap (with_front front) read ∙ ap (λ (ps : List Piece). Ok ps) (append-nil front)

-- the bytes from an offset on, as the code cuts them
pub rest_cut : (at : ℕ) (bytes : List ℕ) → take (length bytes - at) (drop at bytes) ≡ drop at bytes
rest_cut at bytes = take_all (length bytes - at) (drop at bytes) (omega (arith, length-drop at bytes))

pub nothing_before : (read : Result (List Piece) NfitFault) → with_front [] read ≡ read
nothing_before (Ok more) = refl
nothing_before (Err fault) = refl
