use Rattle.std.proofs.Common.{◌≡◌, ◌+◌, ◌*◌, ◌≤◌, ℕ, List, length, Result, Ok, Err, subst, ◌∙◌, arith}
use Rattle.std.specs.Prelude.{OnOk}
use Rattle.byte_ranges.specs.Ranges.{patched}
use Rattle.rig_trait.specs.declared.rig.Failed.{Failed}
use Rattle.btt_arena.specs.Formatting.{ChangesOnly}
use Rattle.btt_arena.specs.Frames.{IsTold}
use Rattle.btt_arena.specs.Records.{CrashRecord}
use Rattle.btt_arena.specs.Sectors.{IsBeside, IsNoted}
use Rattle.btt_arena.proofs.Changes.{left_changes, put_at_ok, stands, write_changes}
use Rattle.btt_arena.proofs.Kept.{block_inside}
use Rattle.btt_arena.proofs.Layouts.{Fits, fits_of}
use Rattle.btt_arena.proofs.Moments.{a_call, and_a_call}
use Rattle.btt_arena.proofs.Noting.{beside_first, beside_same, beside_second, noted_of}
use Rattle.btt_arena.proofs.writing.note_beside.Goals as goal

pub returns-in_err-write-clause-so_far : goal.returns-in_err-write-clause-so_far
returns-in_err-write-clause-so_far g c told =
    let m = g.M.MediaState in
    let a = c.args.layout.now in
    let fits : Fits a = fits_of a c.requires.layout in
    let old = m.bytes c.args.media.now in
    let put = c.args.bytes.now in
    let half = c.args.turn.now.older_at in
    let block = c.block_at.result in
    let is : block ≡ 4096 + c.args.turn.now.free * a.sector = c.block_at.ensures in
    let room : 4096 + c.args.turn.now.free * a.sector + a.sector ≤ a.map_at = block_inside a fits c.args.turn.now.free c.requires.turn.free in
    let long : length old ≡ a.size = c.requires.told told in
    let put_long : length put ≡ a.sector = c.requires.bytes in
    let first_inside : block + length put ≤ length old = omega (arith, is, room, long, put_long, fits.map, fits.log, fits.info) in
    let mid = m.bytes c.write.new.self in
    let written = c.write.ensures.written told in
    let to_size = λ (r : List ℕ) (x : ChangesOnly block (length put) old r). subst (λ (n : ℕ). ChangesOnly block n old r) put_long x in
    let first = λ (r : List ℕ) (x : ChangesOnly block (length put) old r). subst (λ (k : ℕ). IsBeside k a.sector half old r) is (beside_first block a.sector half old r (to_size r x)) in
    first mid (write_changes old put block first_inside mid c.write.result written)

pub returns-in_err-write-clause-any_moment : goal.returns-in_err-write-clause-any_moment
returns-in_err-write-clause-any_moment g c told =
    let m = g.M.MediaState in
    let a = c.args.layout.now in
    let fits : Fits a = fits_of a c.requires.layout in
    let old = m.bytes c.args.media.now in
    let put = c.args.bytes.now in
    let half = c.args.turn.now.older_at in
    let block = c.block_at.result in
    let is : block ≡ 4096 + c.args.turn.now.free * a.sector = c.block_at.ensures in
    let room : 4096 + c.args.turn.now.free * a.sector + a.sector ≤ a.map_at = block_inside a fits c.args.turn.now.free c.requires.turn.free in
    let long : length old ≡ a.size = c.requires.told told in
    let put_long : length put ≡ a.sector = c.requires.bytes in
    let first_inside : block + length put ≤ length old = omega (arith, is, room, long, put_long, fits.map, fits.log, fits.info) in
    let mid = m.bytes c.write.new.self in
    let written = c.write.ensures.written told in
    let to_size = λ (r : List ℕ) (x : ChangesOnly block (length put) old r). subst (λ (n : ℕ). ChangesOnly block n old r) put_long x in
    let first = λ (r : List ℕ) (x : ChangesOnly block (length put) old r). subst (λ (k : ℕ). IsBeside k a.sector half old r) is (beside_first block a.sector half old r (to_size r x)) in
    let P = λ (r : CrashRecord). IsBeside (4096 + c.args.turn.now.free * a.sector) a.sector half old r.bytes in
    let start = a_call P _ (λ r left. beside_same _ _ _ old r.bytes (m.now_is c.args.media.now r left)) c.write.ensures.stops.time (λ r left. first r.bytes (left_changes old put block first_inside mid c.write.result r written left)) in
    start

pub returns-clause-so_far : goal.returns-clause-so_far
returns-clause-so_far g c told =
    let m = g.M.MediaState in
    let a = c.args.layout.now in
    let fits : Fits a = fits_of a c.requires.layout in
    let old = m.bytes c.args.media.now in
    let put = c.args.bytes.now in
    let half = c.args.turn.now.older_at in
    let block = c.block_at.result in
    let is : block ≡ 4096 + c.args.turn.now.free * a.sector = c.block_at.ensures in
    let room : 4096 + c.args.turn.now.free * a.sector + a.sector ≤ a.map_at = block_inside a fits c.args.turn.now.free c.requires.turn.free in
    let long : length old ≡ a.size = c.requires.told told in
    let put_long : length put ≡ a.sector = c.requires.bytes in
    let first_inside : block + length put ≤ length old = omega (arith, is, room, long, put_long, fits.map, fits.log, fits.info) in
    let mid = m.bytes c.write.new.self in
    let written = c.write.ensures.written told in
    let to_size = λ (r : List ℕ) (x : ChangesOnly block (length put) old r). subst (λ (n : ℕ). ChangesOnly block n old r) put_long x in
    let first = λ (r : List ℕ) (x : ChangesOnly block (length put) old r). subst (λ (k : ℕ). IsBeside k a.sector half old r) is (beside_first block a.sector half old r (to_size r x)) in
    let note = c.args.note.now in
    let note_long : length note ≡ 12 = omega arith in
    let told1 : IsTold m c.write.new.self = c.write.ensures.goes_on.tells ∙ told in
    let changes : ChangesOnly block (length put) old mid = write_changes old put block first_inside mid c.write.result written in
    let second_inside : half + length note ≤ length mid = omega (arith, changes.same_length, long, note_long, c.requires.turn.ends, fits.log, fits.info) in
    let after = m.bytes c.write-2.new.self in
    let written2 = c.write-2.ensures.written told1 in
    let second = λ (r : List ℕ) (x : ChangesOnly half (length note) mid r).
    subst (λ (k : ℕ). IsBeside k a.sector half old r) is (beside_second block a.sector half old mid r (to_size mid changes) (subst (λ (n : ℕ). ChangesOnly half n mid r) note_long x)) in
    second after (write_changes mid note half second_inside after c.write-2.result written2)

pub returns-clause-any_moment : goal.returns-clause-any_moment
returns-clause-any_moment g c told =
    let m = g.M.MediaState in
    let a = c.args.layout.now in
    let fits : Fits a = fits_of a c.requires.layout in
    let old = m.bytes c.args.media.now in
    let put = c.args.bytes.now in
    let half = c.args.turn.now.older_at in
    let block = c.block_at.result in
    let is : block ≡ 4096 + c.args.turn.now.free * a.sector = c.block_at.ensures in
    let room : 4096 + c.args.turn.now.free * a.sector + a.sector ≤ a.map_at = block_inside a fits c.args.turn.now.free c.requires.turn.free in
    let long : length old ≡ a.size = c.requires.told told in
    let put_long : length put ≡ a.sector = c.requires.bytes in
    let first_inside : block + length put ≤ length old = omega (arith, is, room, long, put_long, fits.map, fits.log, fits.info) in
    let mid = m.bytes c.write.new.self in
    let written = c.write.ensures.written told in
    let to_size = λ (r : List ℕ) (x : ChangesOnly block (length put) old r). subst (λ (n : ℕ). ChangesOnly block n old r) put_long x in
    let first = λ (r : List ℕ) (x : ChangesOnly block (length put) old r). subst (λ (k : ℕ). IsBeside k a.sector half old r) is (beside_first block a.sector half old r (to_size r x)) in
    let note = c.args.note.now in
    let note_long : length note ≡ 12 = omega arith in
    let told1 : IsTold m c.write.new.self = c.write.ensures.goes_on.tells ∙ told in
    let changes : ChangesOnly block (length put) old mid = write_changes old put block first_inside mid c.write.result written in
    let second_inside : half + length note ≤ length mid = omega (arith, changes.same_length, long, note_long, c.requires.turn.ends, fits.log, fits.info) in
    let after = m.bytes c.write-2.new.self in
    let written2 = c.write-2.ensures.written told1 in
    let second = λ (r : List ℕ) (x : ChangesOnly half (length note) mid r).
    subst (λ (k : ℕ). IsBeside k a.sector half old r) is (beside_second block a.sector half old mid r (to_size mid changes) (subst (λ (n : ℕ). ChangesOnly half n mid r) note_long x)) in
    let P = λ (r : CrashRecord). IsBeside (4096 + c.args.turn.now.free * a.sector) a.sector half old r.bytes in
    let start = a_call P _ (λ r left. beside_same _ _ _ old r.bytes (m.now_is c.args.media.now r left)) c.write.ensures.stops.time (λ r left. first r.bytes (left_changes old put block first_inside mid c.write.result r written left)) in
    and_a_call P _ start c.write-2.ensures.stops.time (λ r left. second r.bytes (left_changes mid note half second_inside after c.write-2.result r written2 left))

at_ok : {T : Type 0} → (result : Result T Failed) (P Q : Type 0) → (P → Q) → OnOk result P → OnOk result Q
at_ok (Ok value) P Q implies has = implies has
at_ok (Err failed) P Q implies has = tt

pub returns-clause-noted : goal.returns-clause-noted
returns-clause-noted g c told =
    let m = g.M.MediaState in
    let a = c.args.layout.now in
    let fits : Fits a = fits_of a c.requires.layout in
    let old = m.bytes c.args.media.now in
    let put = c.args.bytes.now in
    let half = c.args.turn.now.older_at in
    let block = c.block_at.result in
    let is : block ≡ 4096 + c.args.turn.now.free * a.sector = c.block_at.ensures in
    let room : 4096 + c.args.turn.now.free * a.sector + a.sector ≤ a.map_at = block_inside a fits c.args.turn.now.free c.requires.turn.free in
    let long : length old ≡ a.size = c.requires.told told in
    let put_long : length put ≡ a.sector = c.requires.bytes in
    let first_inside : block + length put ≤ length old = omega (arith, is, room, long, put_long, fits.map, fits.log, fits.info) in
    let mid = m.bytes c.write.new.self in
    let written = c.write.ensures.written told in
    let to_size = λ (r : List ℕ) (x : ChangesOnly block (length put) old r). subst (λ (n : ℕ). ChangesOnly block n old r) put_long x in
    let first = λ (r : List ℕ) (x : ChangesOnly block (length put) old r). subst (λ (k : ℕ). IsBeside k a.sector half old r) is (beside_first block a.sector half old r (to_size r x)) in
    let note = c.args.note.now in
    let note_long : length note ≡ 12 = omega arith in
    let told1 : IsTold m c.write.new.self = c.write.ensures.goes_on.tells ∙ told in
    let changes : ChangesOnly block (length put) old mid = write_changes old put block first_inside mid c.write.result written in
    let second_inside : half + length note ≤ length mid = omega (arith, changes.same_length, long, note_long, c.requires.turn.ends, fits.log, fits.info) in
    let after = m.bytes c.write-2.new.self in
    let written2 = c.write-2.ensures.written told1 in
    let second = λ (r : List ℕ) (x : ChangesOnly half (length note) mid r).
    subst (λ (k : ℕ). IsBeside k a.sector half old r) is (beside_second block a.sector half old mid r (to_size mid changes) (subst (λ (n : ℕ). ChangesOnly half n mid r) note_long x)) in
    let first_is : mid ≡ patched old block put = stands old put block first_inside mid _ (c.in_ok-write.ensures.written told) in
    let apart : block + a.sector ≤ half = omega (arith, is, room, fits.map, c.requires.turn.begins) in
    let note_inside : half + 12 ≤ length old = omega (arith, long, c.requires.turn.ends, fits.log, fits.info) in
    at_ok c.write-2.result (after ≡ patched mid half note) (IsNoted a (4096 + c.args.turn.now.free * a.sector) half old put note after)
    (λ second_is. subst (λ (k : ℕ). IsNoted a k half old put note after) is (noted_of a block half old mid after put note put_long note_long apart note_inside first_is second_is))
    (put_at_ok mid note half second_inside after c.write-2.result written2)
