use Rattle.std.proofs.Common.{◌≡◌, ◌≢◌, ◌+◌, ◌*◌, ◌⊎◌, inl, inr, sym, ◌∙◌, rules}
use Rattle.fletcher64.proofs.Holes.{word_but-in, word_but-out}
use Rattle.fletcher64.proofs.word_but.Goals as goal
use Rattle.fletcher64.proofs.word_but.Goals.{then-at-hole, else-at-hole}

pub returns-then-at-hole-2 : goal.returns-then-at-hole-2
returns-then-at-hole-2 c =
    let in_hole : (4 * c.args.i ≡ c.args.hole) ⊎ (4 * c.args.i ≡ c.args.hole + 4) = elim c.if-at-hole.branch [ then-at-hole w ↦ inl (search rules) | else-at-hole w ↦ inr (search rules) ] in
    sym (word_but-in c.args.bytes.now c.args.hole c.args.i c.requires.at_word c.requires.hole_within in_hole)

pub returns-else-at-hole-2 : goal.returns-else-at-hole-2
returns-else-at-hole-2 c =
    let not_first : 4 * c.args.i ≢ c.args.hole = elim c.if-at-hole.branch [ then-at-hole w ↦ search rules | else-at-hole w ↦ search rules ] in
    let not_second : 4 * c.args.i ≢ c.args.hole + 4 = elim c.if-at-hole.branch [ then-at-hole w ↦ search rules | else-at-hole w ↦ search rules ] in
    c.word_at.ensures ∙ sym (word_but-out c.args.bytes.now c.args.hole c.args.i c.requires.at_word c.requires.hole_within not_first not_second)
