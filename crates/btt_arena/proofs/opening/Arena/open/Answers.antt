use Rattle.std.proofs.Common.{◌≡◌, List, ℕ, length, Some, sym, ◌∙◌}
use Rattle.btt_arena.specs.Completing.{IsPartly}
use Rattle.btt_arena.specs.Info.{arena_in}
use Rattle.btt_arena.specs.Opening.{IsOpening, newer_of_log}
use Rattle.btt_arena.specs.Records.{CrashRecord}
use Rattle.btt_arena.proofs.Frames.{reading}
use Rattle.btt_arena.proofs.Kept.{opened_by_log, opening_by_log, opening_same}
use Rattle.btt_arena.proofs.Moments.{joined, weakened}
use Rattle.btt_arena.proofs.opening.Arena.open.Goals as goal

pub returns-in_err-layout-clause-so_far : goal.returns-in_err-layout-clause-so_far
returns-in_err-layout-clause-so_far g c told = opening_same _ _ c.in_err-layout.ensures.reads_only.bytes

pub returns-in_err-layout-clause-any_moment : goal.returns-in_err-layout-clause-any_moment
returns-in_err-layout-clause-any_moment g c told =
    let before = g.M.MediaState.bytes c.args.media.now in
    reading (λ (r : CrashRecord). IsOpening before r.bytes) (λ r same. opening_same before r.bytes same) c.in_err-layout.ensures.reads_only

pub complete_lanes-requires-clause-told : goal.complete_lanes-requires-clause-told
complete_lanes-requires-clause-told g c told =
    let read = c.in_ok-layout.ensures.reads_only in
    let told0 = sym read.goes_on.tells ∙ told in
    read.goes_on.size told0 ∙ sym (c.in_ok-layout.ensures.size told0)

pub returns-in_err-complete_lanes-clause-so_far : goal.returns-in_err-complete_lanes-clause-so_far
returns-in_err-complete_lanes-clause-so_far g c told =
    let m = g.M.MediaState in
    let a = c.in_ok-layout.layout in
    let read = c.in_ok-layout.ensures.reads_only in
    let before = m.bytes c.args.media.now in
    opening_by_log a c.in_ok-layout.ensures.layout before (m.bytes c.find_lanes.new.media) (m.bytes c.complete_lanes.new.media) c.find_lanes.new.log read.bytes (sym (c.in_ok-layout.ensures.size told)) (c.in_ok-layout.ensures.log told)
    (c.in_ok-layout.ensures.answer told).0 (c.complete_lanes.ensures.so_far (read.goes_on.tells ∙ told))

pub returns-in_err-complete_lanes-clause-any_moment : goal.returns-in_err-complete_lanes-clause-any_moment
returns-in_err-complete_lanes-clause-any_moment g c told =
    let m = g.M.MediaState in
    let a = c.in_ok-layout.layout in
    let read = c.in_ok-layout.ensures.reads_only in
    let before = m.bytes c.args.media.now in
    let mid = m.bytes c.find_lanes.new.media in
    let log = c.find_lanes.new.log in
    let P = λ (r : CrashRecord). IsOpening before r.bytes in
    joined (reading P (λ r same. opening_same before r.bytes same) read)
    (weakened (λ (r : CrashRecord). IsPartly a (newer_of_log log) mid r.bytes) P
    (λ r partly. opening_by_log a c.in_ok-layout.ensures.layout before mid r.bytes log read.bytes (sym (c.in_ok-layout.ensures.size told)) (c.in_ok-layout.ensures.log told) (c.in_ok-layout.ensures.answer told).0 partly)
    (c.complete_lanes.ensures.any_moment (read.goes_on.tells ∙ told)))

pub returns-clause-so_far : goal.returns-clause-so_far
returns-clause-so_far g c told =
    let m = g.M.MediaState in
    let a = c.in_ok-layout.layout in
    let read = c.in_ok-layout.ensures.reads_only in
    let before = m.bytes c.args.media.now in
    opening_by_log a c.in_ok-layout.ensures.layout before (m.bytes c.find_lanes.new.media) (m.bytes c.complete_lanes.new.media) c.find_lanes.new.log read.bytes (sym (c.in_ok-layout.ensures.size told)) (c.in_ok-layout.ensures.log told)
    (c.in_ok-layout.ensures.answer told).0 (c.complete_lanes.ensures.so_far (read.goes_on.tells ∙ told))

pub returns-clause-any_moment : goal.returns-clause-any_moment
returns-clause-any_moment g c told =
    let m = g.M.MediaState in
    let a = c.in_ok-layout.layout in
    let read = c.in_ok-layout.ensures.reads_only in
    let before = m.bytes c.args.media.now in
    let mid = m.bytes c.find_lanes.new.media in
    let log = c.find_lanes.new.log in
    let P = λ (r : CrashRecord). IsOpening before r.bytes in
    joined (reading P (λ r same. opening_same before r.bytes same) read)
    (weakened (λ (r : CrashRecord). IsPartly a (newer_of_log log) mid r.bytes) P
    (λ r partly. opening_by_log a c.in_ok-layout.ensures.layout before mid r.bytes log read.bytes (sym (c.in_ok-layout.ensures.size told)) (c.in_ok-layout.ensures.log told) (c.in_ok-layout.ensures.answer told).0 partly)
    (c.complete_lanes.ensures.any_moment (read.goes_on.tells ∙ told)))

pub returns-clause-opened : goal.returns-clause-opened
returns-clause-opened g c told =
    let m = g.M.MediaState in
    let a = c.in_ok-layout.layout in
    let read = c.in_ok-layout.ensures.reads_only in
    let before = m.bytes c.args.media.now in
    opened_by_log a c.in_ok-layout.ensures.layout before (m.bytes c.find_lanes.new.media) (m.bytes c.complete_lanes.new.media) c.find_lanes.new.log read.bytes (sym (c.in_ok-layout.ensures.size told)) (c.in_ok-layout.ensures.log told)
    (c.in_ok-complete_lanes.ensures.completed (read.goes_on.tells ∙ told))
