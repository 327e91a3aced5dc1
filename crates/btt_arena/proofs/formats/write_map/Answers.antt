use Rattle.std.proofs.Common.{◌≡◌, ℕ, ◌+◌, ◌-◌, ◌≤◌, List, length, take, ap, ◌∙◌, arith}
use Rattle.std.proofs.lemmas.List.{length-replicate, take-replicate}
use Rattle.std.specs.Prelude.{replicate}
use Rattle.byte_ranges.specs.Ranges.{patched}
use Rattle.btt_arena.specs.Frames.{IsTold}
use Rattle.btt_arena.proofs.Changes.{stands}
use Rattle.btt_arena.specs.Formatting.{ChangesOnly}
use Rattle.btt_arena.specs.Records.{CrashRecord}
use Rattle.btt_arena.proofs.Frames.{goes_on}
use Rattle.btt_arena.proofs.Moments.{and_a_call}
use Rattle.btt_arena.proofs.Layouts.{Fits, fits_of}
use Rattle.btt_arena.proofs.Parts.{left_only, more_zeros, still_only}
use Rattle.btt_arena.proofs.formats.write_map.Goals as goal

pub returns-in_err-write-clause-changes : goal.returns-in_err-write-clause-changes
returns-in_err-write-clause-changes g c told =
    let a = c.args.layout.now in
    let fits : Fits a = fits_of a c.requires.layout in
    let here : IsTold g.M.MediaState c.loop-at.media = c.loop-at.invariant.goes_on.tells ∙ told in
    let few : c.min-len.result ≤ 65536 = omega (arith, c.min-len.ensures) in
    let zeros : List ℕ = take c.min-len.result (replicate 65536 0) in
    let none : ℕ = 0 in
    let put : zeros ≡ replicate c.min-len.result 0 = take-replicate c.min-len.result 65536 none few in
    let len : length zeros ≡ c.min-len.result = ap length put ∙ length-replicate c.min-len.result none in
    let long = c.loop-at.invariant.goes_on.size told in
    still_only a.map_at (a.log_at - a.map_at) (c.loop-at.invariant.changes told) (c.write.ensures.written here)
    (omega (arith, len, long, c.requires.told told, c.min-len.ensures, fits.log, fits.info)) c.loop-at.invariant.from (omega (arith, len, c.min-len.ensures, c.loop-at.invariant.from, c.loop-at.invariant.to))

pub returns-in_err-write-clause-any_moment : goal.returns-in_err-write-clause-any_moment
returns-in_err-write-clause-any_moment g c told =
    let a = c.args.layout.now in
    let fits : Fits a = fits_of a c.requires.layout in
    let here : IsTold g.M.MediaState c.loop-at.media = c.loop-at.invariant.goes_on.tells ∙ told in
    let few : c.min-len.result ≤ 65536 = omega (arith, c.min-len.ensures) in
    let zeros : List ℕ = take c.min-len.result (replicate 65536 0) in
    let none : ℕ = 0 in
    let put : zeros ≡ replicate c.min-len.result 0 = take-replicate c.min-len.result 65536 none few in
    let len : length zeros ≡ c.min-len.result = ap length put ∙ length-replicate c.min-len.result none in
    let long = c.loop-at.invariant.goes_on.size told in
    and_a_call (λ (r : CrashRecord). ChangesOnly a.map_at (a.log_at - a.map_at) (g.M.MediaState.bytes c.args.media.now) r.bytes) _ (c.loop-at.invariant.any_moment told) c.write.ensures.stops.time
    (left_only a.map_at (a.log_at - a.map_at) (c.loop-at.invariant.changes told) (c.write.ensures.written here)
    (omega (arith, len, long, c.requires.told told, c.min-len.ensures, fits.log, fits.info)) c.loop-at.invariant.from (omega (arith, len, c.min-len.ensures, c.loop-at.invariant.from, c.loop-at.invariant.to)))

pub loop-at-preserved : goal.loop-at-preserved
loop-at-preserved g c =
    let a = c.args.layout.now in
    let fits : Fits a = fits_of a c.requires.layout in
    let few : c.min-len.result ≤ 65536 = omega (arith, c.min-len.ensures) in
    let zeros : List ℕ = take c.min-len.result (replicate 65536 0) in
    let none : ℕ = 0 in
    let put : zeros ≡ replicate c.min-len.result 0 = take-replicate c.min-len.result 65536 none few in
    let len : length zeros ≡ c.min-len.result = ap length put ∙ length-replicate c.min-len.result none in
    record {
      from = omega arith;
      to = omega (arith, c.min-len.ensures);
      words = omega (arith, c.min-len.ensures, fits.log_words);
      zero = λ told.
          let here : IsTold g.M.MediaState c.loop-at.media = c.loop-at.invariant.goes_on.tells ∙ told in
          let inside : c.loop-at.at + c.min-len.result ≤ length (g.M.MediaState.bytes c.loop-at.media) = omega (arith, c.loop-at.invariant.goes_on.size told, c.requires.told told, c.min-len.ensures, fits.log, fits.info) in
          more_zeros (g.M.MediaState.bytes c.loop-at.media) (g.M.MediaState.bytes c.write.new.self) a.map_at c.loop-at.at c.min-len.result c.loop-at.invariant.from inside (c.loop-at.invariant.zero told)
          (stands (g.M.MediaState.bytes c.loop-at.media) zeros c.loop-at.at (omega (arith, len, inside)) (g.M.MediaState.bytes c.write.new.self) _ (c.in_ok-write.ensures.written here) ∙ ap (patched (g.M.MediaState.bytes c.loop-at.media) c.loop-at.at) put);
      changes = λ told.
          let here : IsTold g.M.MediaState c.loop-at.media = c.loop-at.invariant.goes_on.tells ∙ told in
          let long = c.loop-at.invariant.goes_on.size told in
          still_only a.map_at (a.log_at - a.map_at) (c.loop-at.invariant.changes told) (c.write.ensures.written here)
          (omega (arith, len, long, c.requires.told told, c.min-len.ensures, fits.log, fits.info)) c.loop-at.invariant.from (omega (arith, len, c.min-len.ensures, c.loop-at.invariant.from, c.loop-at.invariant.to));
      any_moment = λ told.
          let here : IsTold g.M.MediaState c.loop-at.media = c.loop-at.invariant.goes_on.tells ∙ told in
          let long = c.loop-at.invariant.goes_on.size told in
          and_a_call (λ (r : CrashRecord). ChangesOnly a.map_at (a.log_at - a.map_at) (g.M.MediaState.bytes c.args.media.now) r.bytes) _ (c.loop-at.invariant.any_moment told) c.write.ensures.stops.time
          (left_only a.map_at (a.log_at - a.map_at) (c.loop-at.invariant.changes told) (c.write.ensures.written here)
          (omega (arith, len, long, c.requires.told told, c.min-len.ensures, fits.log, fits.info)) c.loop-at.invariant.from (omega (arith, len, c.min-len.ensures, c.loop-at.invariant.from, c.loop-at.invariant.to)));
      goes_on = goes_on c.loop-at.invariant.goes_on c.write.ensures.goes_on;
      cause = c.in_ok-write.ensures.cause ∙ c.loop-at.invariant.cause;
    }
