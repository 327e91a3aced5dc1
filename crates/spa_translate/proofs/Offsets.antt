-- Where the bytes of a part lie.
use Rattle.std.proofs.Common.{◌≡◌, ℕ, ◌+◌, ◌*◌, ◌/◌, ◌%◌, ◌<◌, get_or, ap, ◌∙◌, arith}
use Rattle.std.proofs.lemmas.Nat.{div-add-mod', mod_below}
use Rattle.spa_translate.specs.declared.strand.Strand.{Strand}
use Rattle.spa_translate.specs.Woven.{offset_of}
use Rattle.spa_translate.specs.Laid.{IsStrand}
use Rattle.spa_translate.proofs.Lines.{start}
use Rattle.spa_translate.proofs.Numbers.{byte_in_line, byte_split, line_in_period, skip_at, spread}

-- byte r of line j of period k
pub byte_at : (ways m s size : ℕ) (strand : Strand) → IsStrand m s size strand → (k j r : ℕ) → j < m → r < s
    → offset_of ways strand ((k * m + j) * s + r) ≡ (k * (ways * m) + start strand j) * s + r
unfolding offset_of
byte_at ways m s size strand is k j r line within =
    let whole : strand.offset ≡ strand.offset / s * s = (let e = div-add-mod' strand.offset s in omega (arith, e, is.aligned)) in
    rw (is.lines_are, is.line_size_is, skip_at m s k j r line within, line_in_period m s k j r line within, byte_in_line m s k j r within)
    (spread strand.offset (strand.offset / s) (get_or strand.lines j 0) k ways m s r whole)

-- each byte
pub offset_at : (ways m s size : ℕ) (strand : Strand) → IsStrand m s size strand → 0 < m → 0 < s → (d : ℕ)
    → offset_of ways strand d ≡ (d / s / m * (ways * m) + start strand (d / s % m)) * s + d % s
offset_at ways m s size strand is some bytes d =
    ap (offset_of ways strand) (byte_split m s d) ∙ byte_at ways m s size strand is (d / s / m) (d / s % m) (d % s) (mod_below (d / s) m some) (mod_below d s bytes)
