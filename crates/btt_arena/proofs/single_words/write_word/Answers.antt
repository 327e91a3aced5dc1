use Rattle.std.proofs.Common.{◌≡◌, inl, ℕ, ◌+◌, ◌≤◌, List, length, refl, sym, ap, subst, ◌∙◌}
use Rattle.std.specs.Prelude.{OnOk, replicate}
use Rattle.byteorder.specs.Endian.{little_bytes}
use Rattle.byte_ranges.specs.Ranges.{patched}
use Rattle.btt_arena.specs.Frames.{LeavesOnly}
use Rattle.btt_arena.specs.Records.{CrashRecord}
use Rattle.btt_arena.specs.Words.{IsEither}
use Rattle.btt_arena.proofs.Changes.{put_at_ok}
use Rattle.btt_arena.proofs.EntryWords.{word_left, word_written}
use Rattle.btt_arena.proofs.Moments.{a_call}
use Rattle.btt_arena.proofs.single_words.write_word.Goals as goal

whole : (word : ℕ) → patched (replicate 4 0) 0 (little_bytes 4 word) ≡ little_bytes 4 word
unfolding patched
whole word = refl

pub returns-clause-written : goal.returns-clause-written
returns-clause-written g c told =
    let m = g.M.MediaState in
    let old = m.bytes c.args.media.now in
    let put = c.put_u32.new.into in
    let is : put ≡ little_bytes 4 c.args.word = c.put_u32.ensures ∙ whole c.args.word in
    let inside : c.args.at + length put ≤ length old = subst (λ (n : ℕ). c.args.at + n ≤ length old) (sym (ap length is)) (c.requires.inside told) in
    subst (λ (p : List ℕ). OnOk c.write.result (m.bytes c.write.new.self ≡ patched old c.args.at p)) is (put_at_ok old put c.args.at inside (m.bytes c.write.new.self) c.write.result (c.write.ensures.written told))

pub returns-clause-so_far : goal.returns-clause-so_far
returns-clause-so_far g c told =
    let m = g.M.MediaState in
    let old = m.bytes c.args.media.now in
    let put = c.put_u32.new.into in
    let is : put ≡ little_bytes 4 c.args.word = c.put_u32.ensures ∙ whole c.args.word in
    subst (λ (p : List ℕ). IsEither old (patched old c.args.at p) (m.bytes c.write.new.self)) is (word_written old put c.args.at (ap length is) (c.requires.inside told) (m.bytes c.write.new.self) c.write.result (c.write.ensures.written told))

pub returns-clause-any_moment : goal.returns-clause-any_moment
returns-clause-any_moment g c told =
    let m = g.M.MediaState in
    let old = m.bytes c.args.media.now in
    let put = c.put_u32.new.into in
    let is : put ≡ little_bytes 4 c.args.word = c.put_u32.ensures ∙ whole c.args.word in
    subst (λ (p : List ℕ). LeavesOnly m c.args.media.now c.write.new.self (λ (r : CrashRecord). IsEither old (patched old c.args.at p) r.bytes)) is
    (a_call (λ (r : CrashRecord). IsEither old (patched old c.args.at put) r.bytes) _ (λ r left. inl (m.now_is c.args.media.now r left)) c.write.ensures.stops.time
    (λ r left. word_left old put c.args.at (ap length is) (c.requires.inside told) (m.bytes c.write.new.self) c.write.result r (c.write.ensures.written told) left))
