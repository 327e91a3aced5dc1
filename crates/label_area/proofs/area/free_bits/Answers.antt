use Rattle.std.proofs.Common.{◌≡◌, ◌≤◌, ℕ, List, length, drop, Result, Ok, Err, Vec, Global, ap, ◌∙◌, arith}
use Rattle.std.specs.Prelude.{IfOk}
use Rattle.std.proofs.lemmas.List.{length-drop, length-take-le}
use Rattle.index_block.specs.Geometry.{bitmap_len}
use Rattle.label_area.proofs.area.free_bits.Goals as goal

with_length : {E : Type 0} (result : Result (Vec ℕ Global) E) (bytes : List ℕ) (n : ℕ) → IfOk result (λ v. v.items ≡ bytes) → length bytes ≡ n → IfOk result (λ v. length v.items ≡ n)
with_length (Ok v) bytes n is long = ap (λ (l : List ℕ). length l) is ∙ long
with_length (Err fault) bytes n is long = tt

pub returns-clause-len : goal.returns-clause-len
returns-clause-len c =
    let g = c.args.current.now.geometry in
    let window = c.place_window-window.result.now in
    let room : bitmap_len g.slots ≤ length (drop 72 window) = omega (arith, length-drop 72 window, c.place_window-window.ensures.long, c.requires.fits.bits, c.requires.fits.room) in
    with_length c.from_slice.result c.bitmap.result.now (bitmap_len g.slots) c.from_slice.ensures.items (ap (λ (l : List ℕ). length l) c.bitmap.ensures ∙ length-take-le (bitmap_len g.slots) (drop 72 window) room)
