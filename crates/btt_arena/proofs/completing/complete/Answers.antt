use Rattle.std.proofs.Common.{◌≡◌, ℕ, ◌+◌, ◌*◌, ◌<◌, true, false, List, length, Option, Some, Result, Ok, Err, inl, sym, ap, subst, ◌∙◌, arith}
use Rattle.std.specs.Prelude.{IfSome, OnOk}
use Rattle.byte_ranges.specs.Ranges.{number_at}
use Rattle.btt_arena.specs.declared.halves.Half.{Half}
use Rattle.btt_arena.specs.Completing.{HasMap, IsHereOrThere}
use Rattle.btt_arena.specs.Records.{CrashRecord}
use Rattle.btt_arena.specs.Tables.{is_open, is_open_by, map_in, with_lane}
use Rattle.btt_arena.specs.Words.{IsEither, with_word}
use Rattle.btt_arena.proofs.Frames.{reading}
use Rattle.btt_arena.proofs.Kept.{completes_by, here_or_completed, stays_closed, with_same_map}
use Rattle.btt_arena.proofs.Layouts.{Fits, fits_of}
use Rattle.btt_arena.proofs.Moments.{joined, weakened}
use Rattle.btt_arena.proofs.completing.complete.Goals as goal

pub returns-then-not-is_open-clause-any_moment : goal.returns-then-not-is_open-clause-any_moment
returns-then-not-is_open-clause-any_moment g c told =
    let m = g.M.MediaState in
    let a = c.args.layout.now in
    let old = m.bytes c.args.media.now in
    reading (λ (r : CrashRecord). IsHereOrThere a c.args.newer old r.bytes) (λ r same. inl (with_same_map a r.bytes old same)) c.in_ok-entry.ensures.reads_only

pub returns-then-not-is_open-clause-completed : goal.returns-then-not-is_open-clause-completed
returns-then-not-is_open-clause-completed g c told =
    let m = g.M.MediaState in
    let a = c.args.layout.now in
    let old = m.bytes c.args.media.now in
    let half = c.in-Some.half in
    let lba_is : c.from.result ≡ half.lba = c.from.ensures in
    let word : map_in a old half.lba ≡ c.in_ok-entry.entry = ap (λ (k : ℕ). number_at 4 old (a.map_at + 4 * k)) (sym lba_is) ∙ sym (c.in_ok-entry.ensures.word told) in
    let shut : is_open half (map_in a old) ≡ false = ap (is_open_by half) word ∙ sym c.is_open.ensures ∙ c.if-not-is_open.true in
    stays_closed a old (m.bytes c.read_word.new.media) c.in_ok-entry.ensures.reads_only.bytes half c.args.newer c.in-Some.is shut

on_ok : {T E : Type 0} → (result : Result T E) (P Q : Type 0) → (P → Q) → OnOk result P → OnOk result Q
on_ok (Ok value) P Q implies has = implies has
on_ok (Err fault) P Q implies has = tt

pub returns-clause-completed : goal.returns-clause-completed
returns-clause-completed g c told =
    let m = g.M.MediaState in
    let a = c.args.layout.now in
    let fits : Fits a = fits_of a c.requires.layout in
    let old = m.bytes c.args.media.now in
    let mid = m.bytes c.read_word.new.media in
    let same : mid ≡ old = c.in_ok-entry.ensures.reads_only.bytes in
    let told1 = c.in_ok-entry.ensures.reads_only.goes_on.tells ∙ told in
    let half = c.in-Some.half in
    let below : half.lba < a.sectors = subst (λ (o : Option Half). IfSome o (λ h. h.lba < a.sectors)) c.in-Some.is c.requires.sector in
    let at = a.map_at + 4 * c.from.result in
    let lba_is : c.from.result ≡ half.lba = c.from.ensures in
    let word : map_in a old half.lba ≡ c.in_ok-entry.entry = ap (λ (k : ℕ). number_at 4 old (a.map_at + 4 * k)) (sym lba_is) ∙ sym (c.in_ok-entry.ensures.word told) in
    let opened : is_open half (map_in a old) ≡ true = ap (is_open_by half) word ∙ sym c.is_open.ensures ∙ c.if-not-is_open.false in
    let after = m.bytes c.write_word.new.media in
    on_ok c.write_word.result (after ≡ with_word mid at half.new) (HasMap a (with_lane c.args.newer (map_in a old)) old after)
    (completes_by a fits old mid same (c.requires.told told) half c.args.newer c.in-Some.is below (omega arith) opened at (omega (arith, lba_is)) after) (c.write_word.ensures.written told1)

pub returns-clause-so_far : goal.returns-clause-so_far
returns-clause-so_far g c told =
    let m = g.M.MediaState in
    let a = c.args.layout.now in
    let fits : Fits a = fits_of a c.requires.layout in
    let old = m.bytes c.args.media.now in
    let mid = m.bytes c.read_word.new.media in
    let same : mid ≡ old = c.in_ok-entry.ensures.reads_only.bytes in
    let told1 = c.in_ok-entry.ensures.reads_only.goes_on.tells ∙ told in
    let half = c.in-Some.half in
    let below : half.lba < a.sectors = subst (λ (o : Option Half). IfSome o (λ h. h.lba < a.sectors)) c.in-Some.is c.requires.sector in
    let at = a.map_at + 4 * c.from.result in
    let lba_is : c.from.result ≡ half.lba = c.from.ensures in
    let word : map_in a old half.lba ≡ c.in_ok-entry.entry = ap (λ (k : ℕ). number_at 4 old (a.map_at + 4 * k)) (sym lba_is) ∙ sym (c.in_ok-entry.ensures.word told) in
    let opened : is_open half (map_in a old) ≡ true = ap (is_open_by half) word ∙ sym c.is_open.ensures ∙ c.if-not-is_open.false in
    here_or_completed a fits old mid same (c.requires.told told) half c.args.newer c.in-Some.is below (omega arith) opened at (omega (arith, lba_is)) (m.bytes c.write_word.new.media) (c.write_word.ensures.so_far told1)

pub returns-clause-any_moment : goal.returns-clause-any_moment
returns-clause-any_moment g c told =
    let m = g.M.MediaState in
    let a = c.args.layout.now in
    let fits : Fits a = fits_of a c.requires.layout in
    let old = m.bytes c.args.media.now in
    let mid = m.bytes c.read_word.new.media in
    let same : mid ≡ old = c.in_ok-entry.ensures.reads_only.bytes in
    let told1 = c.in_ok-entry.ensures.reads_only.goes_on.tells ∙ told in
    let half = c.in-Some.half in
    let below : half.lba < a.sectors = subst (λ (o : Option Half). IfSome o (λ h. h.lba < a.sectors)) c.in-Some.is c.requires.sector in
    let at = a.map_at + 4 * c.from.result in
    let lba_is : c.from.result ≡ half.lba = c.from.ensures in
    let word : map_in a old half.lba ≡ c.in_ok-entry.entry = ap (λ (k : ℕ). number_at 4 old (a.map_at + 4 * k)) (sym lba_is) ∙ sym (c.in_ok-entry.ensures.word told) in
    let opened : is_open half (map_in a old) ≡ true = ap (is_open_by half) word ∙ sym c.is_open.ensures ∙ c.if-not-is_open.false in
    let P = λ (r : CrashRecord). IsHereOrThere a c.args.newer old r.bytes in
    joined (reading P (λ r same. inl (with_same_map a r.bytes old same)) c.in_ok-entry.ensures.reads_only)
    (weakened (λ (r : CrashRecord). IsEither mid (with_word mid at half.new) r.bytes) P
    (λ r. here_or_completed a fits old mid same (c.requires.told told) half c.args.newer c.in-Some.is below (omega arith) opened at (omega (arith, lba_is)) r.bytes) (c.write_word.ensures.any_moment told1))
