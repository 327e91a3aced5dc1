use Rattle.std.proofs.Common.{◌≡◌, ℕ, ◌+◌, ◌-◌, ◌≤◌, List, length, Result, Ok, Err, ◌∙◌, arith}
use Rattle.std.specs.Prelude.{OnOk}
use Rattle.byte_ranges.specs.Ranges.{patched}
use Rattle.rig_trait.specs.declared.rig.Failed.{Failed}
use Rattle.btt_arena.specs.Formatting.{ChangesOnly, IsFormatted, IsStage, writing_map}
use Rattle.btt_arena.specs.Frames.{IsTold}
use Rattle.btt_arena.specs.Records.{CrashRecord, Writes}
use Rattle.btt_arena.proofs.Changes.{behind, left_behind, stands}
use Rattle.btt_arena.proofs.Layouts.{Fits, fits_of}
use Rattle.btt_arena.proofs.Moments.{and_a_call, weakened}
use Rattle.btt_arena.proofs.Stages.{HasSecond, IsTabled, first_stage, formatted_of, log_stage, map_stage, second_stage, seconded, tabled}
use Rattle.btt_arena.proofs.formats.write_parts.Goals as goal

pub returns-in_err-write_map-clause-any_moment : goal.returns-in_err-write_map-clause-any_moment
returns-in_err-write_map-clause-any_moment g c told =
    let a = c.args.layout.now in
    let layout = c.requires.layout in
    let uuid = c.args.uuid.now in
    let m = g.M.MediaState in
    let before = m.bytes c.args.media.now in
    let long : length before ≡ a.size = c.requires.told told in
    let uuid_long : length uuid ≡ 16 = omega arith in
    let fits : Fits a = fits_of a layout in
    let P = IsStage a uuid before in
    let b1 = m.bytes c.write_map.new.media in
    let start = weakened (λ (r : CrashRecord). ChangesOnly a.map_at (a.log_at - a.map_at) before r.bytes) P (map_stage a layout uuid before uuid_long long) (c.write_map.ensures.any_moment told) in
    start

pub returns-in_err-write-clause-any_moment : goal.returns-in_err-write-clause-any_moment
returns-in_err-write-clause-any_moment g c told =
    let a = c.args.layout.now in
    let layout = c.requires.layout in
    let uuid = c.args.uuid.now in
    let m = g.M.MediaState in
    let before = m.bytes c.args.media.now in
    let long : length before ≡ a.size = c.requires.told told in
    let uuid_long : length uuid ≡ 16 = omega arith in
    let fits : Fits a = fits_of a layout in
    let P = IsStage a uuid before in
    let b1 = m.bytes c.write_map.new.media in
    let start = weakened (λ (r : CrashRecord). ChangesOnly a.map_at (a.log_at - a.map_at) before r.bytes) P (map_stage a layout uuid before uuid_long long) (c.write_map.ensures.any_moment told) in
    let told1 : IsTold m c.write_map.new.media = c.write_map.ensures.goes_on.tells ∙ told in
    let changes = c.write_map.ensures.changes told in
    let map = c.in_ok-write_map.ensures.map told in
    let log = c.fresh_log-log.result in
    let log_long : length log ≡ 16384 = omega arith in
    let b2 = m.bytes c.write.new.self in
    let written = c.write.ensures.written told1 in
    let then = and_a_call P _ start c.write.ensures.stops.time (λ r left. log_stage a layout uuid before uuid_long long b1 b2 log c.write.result r changes map log_long written left) in
    then

pub returns-in_err-write-2-clause-any_moment : goal.returns-in_err-write-2-clause-any_moment
returns-in_err-write-2-clause-any_moment g c told =
    let a = c.args.layout.now in
    let layout = c.requires.layout in
    let uuid = c.args.uuid.now in
    let m = g.M.MediaState in
    let before = m.bytes c.args.media.now in
    let long : length before ≡ a.size = c.requires.told told in
    let uuid_long : length uuid ≡ 16 = omega arith in
    let fits : Fits a = fits_of a layout in
    let P = IsStage a uuid before in
    let b1 = m.bytes c.write_map.new.media in
    let start = weakened (λ (r : CrashRecord). ChangesOnly a.map_at (a.log_at - a.map_at) before r.bytes) P (map_stage a layout uuid before uuid_long long) (c.write_map.ensures.any_moment told) in
    let told1 : IsTold m c.write_map.new.media = c.write_map.ensures.goes_on.tells ∙ told in
    let changes = c.write_map.ensures.changes told in
    let map = c.in_ok-write_map.ensures.map told in
    let log = c.fresh_log-log.result in
    let log_long : length log ≡ 16384 = omega arith in
    let b2 = m.bytes c.write.new.self in
    let written = c.write.ensures.written told1 in
    let then = and_a_call P _ start c.write.ensures.stops.time (λ r left. log_stage a layout uuid before uuid_long long b1 b2 log c.write.result r changes map log_long written left) in
    let told2 : IsTold m c.write.new.self = c.write.ensures.goes_on.tells ∙ told1 in
    let inside : a.log_at + length log ≤ length b1 = omega (arith, changes.same_length, long, log_long, fits.log, fits.info) in
    let tables : IsTabled a layout uuid before uuid_long long b2 = tabled a layout uuid before uuid_long long b1 b2 log changes map log_long (stands b1 log a.log_at inside b2 _ (c.in_ok-write.ensures.written told1)) (c.fresh_log-log.ensures) in
    let info = c.info_block-info.result in
    let text = c.info_block-info.ensures in
    let b3 = m.bytes c.write-2.new.self in
    let written2 = c.write-2.ensures.written told2 in
    let then2 = and_a_call P _ then c.write-2.ensures.stops.time (λ r left. second_stage a layout uuid before uuid_long long b2 b3 info c.write-2.result r tables.changes tables.map tables.log text written2 left) in
    then2

pub returns-clause-any_moment : goal.returns-clause-any_moment
returns-clause-any_moment g c told =
    let a = c.args.layout.now in
    let layout = c.requires.layout in
    let uuid = c.args.uuid.now in
    let m = g.M.MediaState in
    let before = m.bytes c.args.media.now in
    let long : length before ≡ a.size = c.requires.told told in
    let uuid_long : length uuid ≡ 16 = omega arith in
    let fits : Fits a = fits_of a layout in
    let P = IsStage a uuid before in
    let b1 = m.bytes c.write_map.new.media in
    let start = weakened (λ (r : CrashRecord). ChangesOnly a.map_at (a.log_at - a.map_at) before r.bytes) P (map_stage a layout uuid before uuid_long long) (c.write_map.ensures.any_moment told) in
    let told1 : IsTold m c.write_map.new.media = c.write_map.ensures.goes_on.tells ∙ told in
    let changes = c.write_map.ensures.changes told in
    let map = c.in_ok-write_map.ensures.map told in
    let log = c.fresh_log-log.result in
    let log_long : length log ≡ 16384 = omega arith in
    let b2 = m.bytes c.write.new.self in
    let written = c.write.ensures.written told1 in
    let then = and_a_call P _ start c.write.ensures.stops.time (λ r left. log_stage a layout uuid before uuid_long long b1 b2 log c.write.result r changes map log_long written left) in
    let told2 : IsTold m c.write.new.self = c.write.ensures.goes_on.tells ∙ told1 in
    let inside : a.log_at + length log ≤ length b1 = omega (arith, changes.same_length, long, log_long, fits.log, fits.info) in
    let tables : IsTabled a layout uuid before uuid_long long b2 = tabled a layout uuid before uuid_long long b1 b2 log changes map log_long (stands b1 log a.log_at inside b2 _ (c.in_ok-write.ensures.written told1)) (c.fresh_log-log.ensures) in
    let info = c.info_block-info.result in
    let text = c.info_block-info.ensures in
    let b3 = m.bytes c.write-2.new.self in
    let written2 = c.write-2.ensures.written told2 in
    let then2 = and_a_call P _ then c.write-2.ensures.stops.time (λ r left. second_stage a layout uuid before uuid_long long b2 b3 info c.write-2.result r tables.changes tables.map tables.log text written2 left) in
    let told3 : IsTold m c.write-2.new.self = c.write-2.ensures.goes_on.tells ∙ told2 in
    let info_long : length info ≡ 4096 = omega arith in
    let inside2 : a.info_at + length info ≤ length b2 = omega (arith, tables.changes.same_length, long, info_long, fits.info) in
    let has : HasSecond a layout uuid before uuid_long long b3 = seconded a layout uuid before uuid_long long b2 b3 info tables text (stands b2 info a.info_at inside2 b3 _ (c.in_ok-write-2.ensures.written told2)) in
    let b4 = m.bytes c.write-3.new.self in
    let written3 = c.write-3.ensures.written told3 in
    and_a_call P _ then2 c.write-3.ensures.stops.time (λ r left. first_stage a layout uuid before uuid_long long b3 b4 info c.write-3.result r has.size has.first_old has.stay has.map has.log has.second text written3 left)

at_ok : {T : Type 0} → (result : Result T Failed) (old new put : List ℕ) (at : ℕ) (P : Type 0) → at + length put ≤ length old → Writes old new at put result → (new ≡ patched old at put → P) → OnOk result P
at_ok (Ok value) old new put at P inside writes then = then (stands old put at inside new value writes)
at_ok (Err failed) old new put at P inside writes then = tt

pub returns-clause-formatted : goal.returns-clause-formatted
returns-clause-formatted g c told =
    let a = c.args.layout.now in
    let layout = c.requires.layout in
    let uuid = c.args.uuid.now in
    let m = g.M.MediaState in
    let before = m.bytes c.args.media.now in
    let long : length before ≡ a.size = c.requires.told told in
    let uuid_long : length uuid ≡ 16 = omega arith in
    let fits : Fits a = fits_of a layout in
    let P = IsStage a uuid before in
    let b1 = m.bytes c.write_map.new.media in
    let start = weakened (λ (r : CrashRecord). ChangesOnly a.map_at (a.log_at - a.map_at) before r.bytes) P (map_stage a layout uuid before uuid_long long) (c.write_map.ensures.any_moment told) in
    let told1 : IsTold m c.write_map.new.media = c.write_map.ensures.goes_on.tells ∙ told in
    let changes = c.write_map.ensures.changes told in
    let map = c.in_ok-write_map.ensures.map told in
    let log = c.fresh_log-log.result in
    let log_long : length log ≡ 16384 = omega arith in
    let b2 = m.bytes c.write.new.self in
    let written = c.write.ensures.written told1 in
    let then = and_a_call P _ start c.write.ensures.stops.time (λ r left. log_stage a layout uuid before uuid_long long b1 b2 log c.write.result r changes map log_long written left) in
    let told2 : IsTold m c.write.new.self = c.write.ensures.goes_on.tells ∙ told1 in
    let inside : a.log_at + length log ≤ length b1 = omega (arith, changes.same_length, long, log_long, fits.log, fits.info) in
    let tables : IsTabled a layout uuid before uuid_long long b2 = tabled a layout uuid before uuid_long long b1 b2 log changes map log_long (stands b1 log a.log_at inside b2 _ (c.in_ok-write.ensures.written told1)) (c.fresh_log-log.ensures) in
    let info = c.info_block-info.result in
    let text = c.info_block-info.ensures in
    let b3 = m.bytes c.write-2.new.self in
    let written2 = c.write-2.ensures.written told2 in
    let then2 = and_a_call P _ then c.write-2.ensures.stops.time (λ r left. second_stage a layout uuid before uuid_long long b2 b3 info c.write-2.result r tables.changes tables.map tables.log text written2 left) in
    let told3 : IsTold m c.write-2.new.self = c.write-2.ensures.goes_on.tells ∙ told2 in
    let info_long : length info ≡ 4096 = omega arith in
    let inside2 : a.info_at + length info ≤ length b2 = omega (arith, tables.changes.same_length, long, info_long, fits.info) in
    let has : HasSecond a layout uuid before uuid_long long b3 = seconded a layout uuid before uuid_long long b2 b3 info tables text (stands b2 info a.info_at inside2 b3 _ (c.in_ok-write-2.ensures.written told2)) in
    let b4 = m.bytes c.write-3.new.self in
    let written3 = c.write-3.ensures.written told3 in
    at_ok c.write-3.result b3 b4 info 0 (IsFormatted a uuid before b4) (omega (arith, info_long, has.size, fits.info, fits.log)) written3 (λ is. formatted_of a layout uuid before uuid_long long b3 b4 info has text is)

pub returns-in_err-write-clause-so_far : goal.returns-in_err-write-clause-so_far
returns-in_err-write-clause-so_far g c told =
    let a = c.args.layout.now in
    let layout = c.requires.layout in
    let uuid = c.args.uuid.now in
    let m = g.M.MediaState in
    let before = m.bytes c.args.media.now in
    let long : length before ≡ a.size = c.requires.told told in
    let uuid_long : length uuid ≡ 16 = omega arith in
    let fits : Fits a = fits_of a layout in
    let b1 = m.bytes c.write_map.new.media in
    let told1 : IsTold m c.write_map.new.media = c.write_map.ensures.goes_on.tells ∙ told in
    let changes = c.write_map.ensures.changes told in
    let map = c.in_ok-write_map.ensures.map told in
    let log = c.fresh_log-log.result in
    let log_long : length log ≡ 16384 = omega arith in
    let b2 = m.bytes c.write.new.self in
    let written = c.write.ensures.written told1 in
    (log_stage a layout uuid before uuid_long long b1 b2 log c.write.result (behind b1 a.log_at log b2) changes map log_long written (left_behind b1 b2 log a.log_at c.write.result written)).order

pub returns-in_err-write-2-clause-so_far : goal.returns-in_err-write-2-clause-so_far
returns-in_err-write-2-clause-so_far g c told =
    let a = c.args.layout.now in
    let layout = c.requires.layout in
    let uuid = c.args.uuid.now in
    let m = g.M.MediaState in
    let before = m.bytes c.args.media.now in
    let long : length before ≡ a.size = c.requires.told told in
    let uuid_long : length uuid ≡ 16 = omega arith in
    let fits : Fits a = fits_of a layout in
    let b1 = m.bytes c.write_map.new.media in
    let told1 : IsTold m c.write_map.new.media = c.write_map.ensures.goes_on.tells ∙ told in
    let changes = c.write_map.ensures.changes told in
    let map = c.in_ok-write_map.ensures.map told in
    let log = c.fresh_log-log.result in
    let log_long : length log ≡ 16384 = omega arith in
    let b2 = m.bytes c.write.new.self in
    let written = c.write.ensures.written told1 in
    let told2 : IsTold m c.write.new.self = c.write.ensures.goes_on.tells ∙ told1 in
    let inside : a.log_at + length log ≤ length b1 = omega (arith, changes.same_length, long, log_long, fits.log, fits.info) in
    let tables : IsTabled a layout uuid before uuid_long long b2 = tabled a layout uuid before uuid_long long b1 b2 log changes map log_long (stands b1 log a.log_at inside b2 _ (c.in_ok-write.ensures.written told1)) (c.fresh_log-log.ensures) in
    let info = c.info_block-info.result in
    let text = c.info_block-info.ensures in
    let b3 = m.bytes c.write-2.new.self in
    let written2 = c.write-2.ensures.written told2 in
    (second_stage a layout uuid before uuid_long long b2 b3 info c.write-2.result (behind b2 a.info_at info b3) tables.changes tables.map tables.log text written2 (left_behind b2 b3 info a.info_at c.write-2.result written2)).order

pub returns-clause-so_far : goal.returns-clause-so_far
returns-clause-so_far g c told =
    let a = c.args.layout.now in
    let layout = c.requires.layout in
    let uuid = c.args.uuid.now in
    let m = g.M.MediaState in
    let before = m.bytes c.args.media.now in
    let long : length before ≡ a.size = c.requires.told told in
    let uuid_long : length uuid ≡ 16 = omega arith in
    let fits : Fits a = fits_of a layout in
    let b1 = m.bytes c.write_map.new.media in
    let told1 : IsTold m c.write_map.new.media = c.write_map.ensures.goes_on.tells ∙ told in
    let changes = c.write_map.ensures.changes told in
    let map = c.in_ok-write_map.ensures.map told in
    let log = c.fresh_log-log.result in
    let log_long : length log ≡ 16384 = omega arith in
    let b2 = m.bytes c.write.new.self in
    let written = c.write.ensures.written told1 in
    let told2 : IsTold m c.write.new.self = c.write.ensures.goes_on.tells ∙ told1 in
    let inside : a.log_at + length log ≤ length b1 = omega (arith, changes.same_length, long, log_long, fits.log, fits.info) in
    let tables : IsTabled a layout uuid before uuid_long long b2 = tabled a layout uuid before uuid_long long b1 b2 log changes map log_long (stands b1 log a.log_at inside b2 _ (c.in_ok-write.ensures.written told1)) (c.fresh_log-log.ensures) in
    let info = c.info_block-info.result in
    let text = c.info_block-info.ensures in
    let b3 = m.bytes c.write-2.new.self in
    let written2 = c.write-2.ensures.written told2 in
    let told3 : IsTold m c.write-2.new.self = c.write-2.ensures.goes_on.tells ∙ told2 in
    let info_long : length info ≡ 4096 = omega arith in
    let inside2 : a.info_at + length info ≤ length b2 = omega (arith, tables.changes.same_length, long, info_long, fits.info) in
    let has : HasSecond a layout uuid before uuid_long long b3 = seconded a layout uuid before uuid_long long b2 b3 info tables text (stands b2 info a.info_at inside2 b3 _ (c.in_ok-write-2.ensures.written told2)) in
    let b4 = m.bytes c.write-3.new.self in
    let written3 = c.write-3.ensures.written told3 in
    (first_stage a layout uuid before uuid_long long b3 b4 info c.write-3.result (behind b3 0 info b4) has.size has.first_old has.stay has.map has.log has.second text written3 (left_behind b3 b4 info 0 c.write-3.result written3)).order

pub returns-in_err-write_map-clause-so_far : goal.returns-in_err-write_map-clause-so_far
returns-in_err-write_map-clause-so_far g c told = writing_map (c.write_map.ensures.changes told)
