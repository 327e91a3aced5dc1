-- The structures that are read one after the other are spelled by the bytes.
use Rattle.std.proofs.Common.{◌≡◌, ℕ, zero, suc, ◌+◌, ◌^◌, ◌<◌, Bool, true, false, cond, List, [], ◌∷◌, ◌++◌, length, take, drop, Result, Ok, Err, refl, sym, ap, subst, ◌∙◌}
use Rattle.std.specs.List.{All}
use Rattle.std.proofs.lemmas.List.{take-append-drop}
use Rattle.std.proofs.lemmas.List.Elements.{All-nil, All-cons, All-drop}
use Rattle.nfit_tables.specs.declared.fault.NfitFault.{NfitFault}
use Rattle.nfit_tables.specs.declared.fault.NfitFault.TheVariants.{Structure}
use Rattle.nfit_tables.specs.declared.pieces.Piece.{Piece}
use Rattle.nfit_tables.specs.Spelling.{spelling, spellings}
use Rattle.nfit_tables.specs.Proper.{AreBytes, FitsPiece, is_kept_as_known}
use Rattle.nfit_tables.specs.Reading.{◌>>=◌, piece_in, told_length, is_structure, pieces_at}
use Rattle.nfit_tables.proofs.StructuresSpelled.{front_read}

abbrev done : {A : Type 0} → A → Result A NfitFault
done x = Ok x

-- the value of a step that did not fail
pub bind_ok : {A B : Type 0} (r : Result A NfitFault) (f : A → Result B NfitFault) (y : B) → (r >>= f) ≡ Ok y → (x : A) × (r ≡ Ok x) × (f x ≡ Ok y)
bind_ok (Ok x) f y e = (x, refl, e)
bind_ok (Err d) f y e = absurd cc

pub ok_is : {A : Type 0} (x y : A) → done x ≡ done y → x ≡ y
ok_is x y e = cc

-- a test that has to hold, and what was read then
guard_ended : {A : Type 0} (b : Bool) (d : NfitFault) (r : Result A NfitFault) (y : A) → cond b r (Err d) ≡ Ok y → (b ≡ true) × (r ≡ Ok y)
guard_ended true d r y e = (refl, e)
guard_ended false d r y e = absurd cc

-- what structures are that were read one after the other from bytes
pub record AreRead (bytes : List ℕ) (pieces : List Piece) : Type 0 where
  pub spelled : bytes ≡ spellings pieces
  pub fit : All FitsPiece pieces
  pub known : All (λ (p : Piece). is_kept_as_known p ≡ false) pieces
  pub short : All (λ (p : Piece). length (spelling p) < 2 ^ 16) pieces

none_read : AreRead [] []
none_read = record { spelled = refl; fit = All-nil FitsPiece; known = All-nil (λ (p : Piece). is_kept_as_known p ≡ false); short = All-nil (λ (p : Piece). length (spelling p) < 2 ^ 16) }

-- a structure in front, and those behind it
one_more : (bytes : List ℕ) (more : List Piece) → AreBytes bytes → is_structure bytes ≡ true → AreRead (drop (told_length bytes) bytes) more → AreRead bytes (piece_in (take (told_length bytes) bytes) ∷ more)
one_more bytes more are is others =
    let len = told_length bytes in
    let piece = piece_in (take len bytes) in
    let first = front_read bytes are is in
    record {
      spelled = sym (take-append-drop len bytes) ∙ ap (λ (t : List ℕ). t ++ drop len bytes) (sym first.spelled) ∙ ap (λ (t : List ℕ). spelling piece ++ t) others.spelled;
      fit = All-cons FitsPiece piece more first.fits others.fit;
      known = All-cons (λ (p : Piece). is_kept_as_known p ≡ false) piece more first.known others.known;
      short = All-cons (λ (p : Piece). length (spelling p) < 2 ^ 16) piece more first.short others.short;
    }

pub pieces_read : (most at : ℕ) (bytes : List ℕ) (pieces : List Piece) → AreBytes bytes → pieces_at most at bytes ≡ Ok pieces → AreRead bytes pieces
unfolding pieces_at
pieces_read zero at [] pieces are e = subst (AreRead []) (ok_is [] pieces e) none_read
pieces_read (suc most) at [] pieces are e = subst (AreRead []) (ok_is [] pieces e) none_read
pieces_read zero at (byte ∷ bytes) pieces are e = absurd cc
pieces_read (suc most) at (byte ∷ bytes) pieces are e =
    let all = byte ∷ bytes in
    let len = told_length all in
    let read = pieces_at most (at + len) (drop len all) in
    let g = guard_ended (is_structure all) (Structure at) (read >>= λ more. Ok (piece_in (take len all) ∷ more)) pieces e in
    let b = bind_ok read (λ more. Ok (piece_in (take len all) ∷ more)) pieces g.1 in
    let others = pieces_read most (at + len) (drop len all) b.0 (All-drop (λ (b : ℕ). b < 256) len all are) b.1 in
    subst (AreRead all) (ok_is (piece_in (take len all) ∷ b.0) pieces b.2) (one_more all b.0 are g.0 others)
