use Rattle.std.proofs.Common.{◌≡◌, List, ℕ, length, Option, Some, None, arith, sym, ap, subst, ◌∙◌}
use Rattle.byte_ranges.specs.Ranges.{range}
use Rattle.btt_arena.specs.Opening.{IsFirstWrong, newer_of_log}
use Rattle.btt_arena.specs.Tables.{newer_half}
use Rattle.btt_arena.proofs.Frames.{reads_on}
use Rattle.btt_arena.proofs.LaneBytes.{first_wrong_is}
use Rattle.btt_arena.proofs.opening.find_lanes.Goals as goal

pub returns-in-Some-first_wrong-clause-answer : goal.returns-in-Some-first_wrong-clause-answer
returns-in-Some-first_wrong-clause-answer g c told =
    let m = g.M.MediaState in
    let a = c.in-Some.layout in
    let read = c.in_ok-layout.ensures.reads_only in
    let mid = m.bytes c.stored_layout.new.media in
    let long : length c.args.log.now ≡ 16384 = omega arith in
    let log_is = c.in_ok-read.ensures.bytes (read.goes_on.tells ∙ told) ∙ ap (range mid a.log_at) long in
    let found = subst (λ (log : List ℕ). IsFirstWrong a (newer_of_log log) c.first_wrong.result) log_is c.first_wrong.ensures in
    let wrong : IsFirstWrong a (newer_half a mid) (Some c.in-Some-first_wrong.lane) =
    subst (λ (o : Option ℕ). IsFirstWrong a (newer_half a mid) o) c.in-Some-first_wrong.is (first_wrong_is a mid c.first_wrong.result found) in (
      a,
      (sym (c.in_ok-layout.ensures.stored told) ∙ c.in-Some.is, subst (λ (bytes : List ℕ). IsFirstWrong a (newer_half a bytes) (Some c.in-Some-first_wrong.lane)) read.bytes wrong),
    )

pub returns-in-Some-first_wrong-clause-reads_only : goal.returns-in-Some-first_wrong-clause-reads_only
returns-in-Some-first_wrong-clause-reads_only g c = reads_on c.in_ok-layout.ensures.reads_only c.in_ok-read.ensures.reads_only

pub returns-in-None-clause-answer : goal.returns-in-None-clause-answer
returns-in-None-clause-answer g c told =
    let m = g.M.MediaState in
    let a = c.in-Some.layout in
    let read = c.in_ok-layout.ensures.reads_only in
    let mid = m.bytes c.stored_layout.new.media in
    let long : length c.args.log.now ≡ 16384 = omega arith in
    let log_is = c.in_ok-read.ensures.bytes (read.goes_on.tells ∙ told) ∙ ap (range mid a.log_at) long in
    let found = subst (λ (log : List ℕ). IsFirstWrong a (newer_of_log log) c.first_wrong.result) log_is c.first_wrong.ensures in
    let none : Option ℕ = None in
    let right : IsFirstWrong a (newer_half a mid) none =
    subst (λ (o : Option ℕ). IsFirstWrong a (newer_half a mid) o) c.in-None.is (first_wrong_is a mid c.first_wrong.result found) in
    (sym (c.in_ok-layout.ensures.stored told) ∙ c.in-Some.is, subst (λ (bytes : List ℕ). IsFirstWrong a (newer_half a bytes) none) read.bytes right)

pub returns-in-None-clause-log : goal.returns-in-None-clause-log
returns-in-None-clause-log g c told =
    let read = c.in_ok-layout.ensures.reads_only in
    let long : length c.args.log.now ≡ 16384 = omega arith in
    c.in_ok-read.ensures.bytes (read.goes_on.tells ∙ told) ∙ ap (range (g.M.MediaState.bytes c.stored_layout.new.media) c.in-Some.layout.log_at) long ∙ ap (λ (b : List ℕ). range b c.in-Some.layout.log_at 16384) read.bytes

pub returns-in-None-clause-reads_only : goal.returns-in-None-clause-reads_only
returns-in-None-clause-reads_only g c = reads_on c.in_ok-layout.ensures.reads_only c.in_ok-read.ensures.reads_only
