use Rattle.std.proofs.Common.{◌≡◌, ℕ, ◌+◌, ◌*◌, ◌%◌, ◌<◌, ◌≤◌, List, length, Result, Ok, Err, sym, subst, ◌∙◌, arith}
use Rattle.std.specs.Prelude.{OnOk}
use Rattle.rig_trait.specs.declared.rig.Failed.{Failed}
use Rattle.btt_arena.specs.Arena.{IsFit}
use Rattle.btt_arena.specs.Frames.{IsTold}
use Rattle.btt_arena.specs.Records.{CrashRecord}
use Rattle.btt_arena.specs.Sectors.{IsBeside, IsNoted, IsOldOrNew, IsRewritten, note_of}
use Rattle.btt_arena.specs.Tables.{block_named, free_block, map_in, normal}
use Rattle.btt_arena.specs.Words.{IsEither, with_word}
use Rattle.btt_arena.proofs.Frames.{goes_on}
use Rattle.btt_arena.proofs.Layouts.{Fits, fits_of}
use Rattle.btt_arena.proofs.Moments.{joined, weakened}
use Rattle.btt_arena.proofs.Moving.{entered_alike, moved, moves_beside, moves_entered, moves_numbered}
use Rattle.btt_arena.proofs.Writes.{IsKnown, known_of}
use Rattle.btt_arena.proofs.writing.write_by.Goals as goal

pub returns-in_err-note_beside-clause-so_far : goal.returns-in_err-note_beside-clause-so_far
returns-in_err-note_beside-clause-so_far g c told fit =
    let m = g.M.MediaState in
    let a = c.args.layout.now in
    let layout = c.requires.layout in
    let fits : Fits a = fits_of a layout in
    let before = m.bytes c.args.media.now in
    let put = c.args.bytes.now in
    let sector = c.args.sector in
    let lane = sector % 256 in
    let turn = c.args.turn.now in
    let half = turn.older_at in
    let next = turn.next in
    let long : length before ≡ a.size = c.requires.told told in
    let lane_below : lane < 256 = omega arith in
    let known : IsKnown a before lane turn = known_of a fits before fit lane lane_below turn (c.requires.known told) in
    let named = c.requires.named told in
    let moves1 = λ (r : List ℕ) (b : IsBeside (4096 + turn.free * a.sector) a.sector half before r).
    moves_beside a layout before fit long sector c.requires.sector lane lane_below half next known.sides c.args.old named r (subst (λ (k : ℕ). IsBeside (4096 + k * a.sector) a.sector half before r) known.free b) put in
    moves1 (m.bytes c.note_beside.new.media) (c.note_beside.ensures.so_far told)

pub returns-in_err-note_beside-clause-any_moment : goal.returns-in_err-note_beside-clause-any_moment
returns-in_err-note_beside-clause-any_moment g c told fit =
    let m = g.M.MediaState in
    let a = c.args.layout.now in
    let layout = c.requires.layout in
    let fits : Fits a = fits_of a layout in
    let before = m.bytes c.args.media.now in
    let put = c.args.bytes.now in
    let sector = c.args.sector in
    let lane = sector % 256 in
    let turn = c.args.turn.now in
    let half = turn.older_at in
    let next = turn.next in
    let long : length before ≡ a.size = c.requires.told told in
    let lane_below : lane < 256 = omega arith in
    let known : IsKnown a before lane turn = known_of a fits before fit lane lane_below turn (c.requires.known told) in
    let named = c.requires.named told in
    let moves1 = λ (r : List ℕ) (b : IsBeside (4096 + turn.free * a.sector) a.sector half before r).
    moves_beside a layout before fit long sector c.requires.sector lane lane_below half next known.sides c.args.old named r (subst (λ (k : ℕ). IsBeside (4096 + k * a.sector) a.sector half before r) known.free b) put in
    let P = λ (r : CrashRecord). IsOldOrNew a before sector put r.bytes in
    let run1 = weakened (λ (r : CrashRecord). IsBeside (4096 + turn.free * a.sector) a.sector half before r.bytes) P (λ r has. moves1 r.bytes has) (c.note_beside.ensures.any_moment told) in
    run1

pub returns-in_err-write_word-clause-so_far : goal.returns-in_err-write_word-clause-so_far
returns-in_err-write_word-clause-so_far g c told fit =
    let m = g.M.MediaState in
    let a = c.args.layout.now in
    let layout = c.requires.layout in
    let fits : Fits a = fits_of a layout in
    let before = m.bytes c.args.media.now in
    let put = c.args.bytes.now in
    let sector = c.args.sector in
    let lane = sector % 256 in
    let turn = c.args.turn.now in
    let half = turn.older_at in
    let next = turn.next in
    let long : length before ≡ a.size = c.requires.told told in
    let lane_below : lane < 256 = omega arith in
    let known : IsKnown a before lane turn = known_of a fits before fit lane lane_below turn (c.requires.known told) in
    let named = c.requires.named told in
    let moves1 = λ (r : List ℕ) (b : IsBeside (4096 + turn.free * a.sector) a.sector half before r).
    moves_beside a layout before fit long sector c.requires.sector lane lane_below half next known.sides c.args.old named r (subst (λ (k : ℕ). IsBeside (4096 + k * a.sector) a.sector half before r) known.free b) put in
    let b2 = m.bytes c.note_beside.new.media in
    let told1 : IsTold m c.note_beside.new.media = c.note_beside.ensures.goes_on.tells ∙ told in
    let sent : IsNoted a (4096 + turn.free * a.sector) half before put (note_of sector c.args.old turn.free) b2 =
    subst (λ (n : List ℕ). IsNoted a (4096 + turn.free * a.sector) half before put n b2) c.note_of-note.ensures (c.in_ok-note_beside.ensures.noted told) in
    let noted : IsNoted a (4096 + free_block a before lane * a.sector) half before put (note_of sector c.args.old (free_block a before lane)) b2 =
    subst (λ (k : ℕ). IsNoted a (4096 + k * a.sector) half before put (note_of sector c.args.old k) b2) known.free sent in
    let moves2 = moves_numbered a layout before fit long sector c.requires.sector lane lane_below half next known.sides c.args.old named put b2 (omega arith) noted in
    moves2 (m.bytes c.write_word.new.media) (c.write_word.ensures.so_far told1)

pub returns-in_err-write_word-clause-any_moment : goal.returns-in_err-write_word-clause-any_moment
returns-in_err-write_word-clause-any_moment g c told fit =
    let m = g.M.MediaState in
    let a = c.args.layout.now in
    let layout = c.requires.layout in
    let fits : Fits a = fits_of a layout in
    let before = m.bytes c.args.media.now in
    let put = c.args.bytes.now in
    let sector = c.args.sector in
    let lane = sector % 256 in
    let turn = c.args.turn.now in
    let half = turn.older_at in
    let next = turn.next in
    let long : length before ≡ a.size = c.requires.told told in
    let lane_below : lane < 256 = omega arith in
    let known : IsKnown a before lane turn = known_of a fits before fit lane lane_below turn (c.requires.known told) in
    let named = c.requires.named told in
    let moves1 = λ (r : List ℕ) (b : IsBeside (4096 + turn.free * a.sector) a.sector half before r).
    moves_beside a layout before fit long sector c.requires.sector lane lane_below half next known.sides c.args.old named r (subst (λ (k : ℕ). IsBeside (4096 + k * a.sector) a.sector half before r) known.free b) put in
    let b2 = m.bytes c.note_beside.new.media in
    let told1 : IsTold m c.note_beside.new.media = c.note_beside.ensures.goes_on.tells ∙ told in
    let sent : IsNoted a (4096 + turn.free * a.sector) half before put (note_of sector c.args.old turn.free) b2 =
    subst (λ (n : List ℕ). IsNoted a (4096 + turn.free * a.sector) half before put n b2) c.note_of-note.ensures (c.in_ok-note_beside.ensures.noted told) in
    let noted : IsNoted a (4096 + free_block a before lane * a.sector) half before put (note_of sector c.args.old (free_block a before lane)) b2 =
    subst (λ (k : ℕ). IsNoted a (4096 + k * a.sector) half before put (note_of sector c.args.old k) b2) known.free sent in
    let moves2 = moves_numbered a layout before fit long sector c.requires.sector lane lane_below half next known.sides c.args.old named put b2 (omega arith) noted in
    let P = λ (r : CrashRecord). IsOldOrNew a before sector put r.bytes in
    let run1 = weakened (λ (r : CrashRecord). IsBeside (4096 + turn.free * a.sector) a.sector half before r.bytes) P (λ r has. moves1 r.bytes has) (c.note_beside.ensures.any_moment told) in
    let run2 = joined run1 (weakened (λ (r : CrashRecord). IsEither b2 (with_word b2 (half + 12) next) r.bytes) P (λ r has. moves2 r.bytes has) (c.write_word.ensures.any_moment told1)) in
    run2

pub returns-clause-so_far : goal.returns-clause-so_far
returns-clause-so_far g c told fit =
    let m = g.M.MediaState in
    let a = c.args.layout.now in
    let layout = c.requires.layout in
    let fits : Fits a = fits_of a layout in
    let before = m.bytes c.args.media.now in
    let put = c.args.bytes.now in
    let sector = c.args.sector in
    let lane = sector % 256 in
    let turn = c.args.turn.now in
    let half = turn.older_at in
    let next = turn.next in
    let long : length before ≡ a.size = c.requires.told told in
    let lane_below : lane < 256 = omega arith in
    let known : IsKnown a before lane turn = known_of a fits before fit lane lane_below turn (c.requires.known told) in
    let named = c.requires.named told in
    let moves1 = λ (r : List ℕ) (b : IsBeside (4096 + turn.free * a.sector) a.sector half before r).
    moves_beside a layout before fit long sector c.requires.sector lane lane_below half next known.sides c.args.old named r (subst (λ (k : ℕ). IsBeside (4096 + k * a.sector) a.sector half before r) known.free b) put in
    let b2 = m.bytes c.note_beside.new.media in
    let told1 : IsTold m c.note_beside.new.media = c.note_beside.ensures.goes_on.tells ∙ told in
    let sent : IsNoted a (4096 + turn.free * a.sector) half before put (note_of sector c.args.old turn.free) b2 =
    subst (λ (n : List ℕ). IsNoted a (4096 + turn.free * a.sector) half before put n b2) c.note_of-note.ensures (c.in_ok-note_beside.ensures.noted told) in
    let noted : IsNoted a (4096 + free_block a before lane * a.sector) half before put (note_of sector c.args.old (free_block a before lane)) b2 =
    subst (λ (k : ℕ). IsNoted a (4096 + k * a.sector) half before put (note_of sector c.args.old k) b2) known.free sent in
    let moves2 = moves_numbered a layout before fit long sector c.requires.sector lane lane_below half next known.sides c.args.old named put b2 (omega arith) noted in
    let b3 = m.bytes c.write_word.new.media in
    let told2 : IsTold m c.write_word.new.media = c.write_word.ensures.goes_on.tells ∙ told1 in
    let third : b3 ≡ with_word b2 (half + 12) next = c.in_ok-write_word.ensures.written told1 in
    let from_is : c.from.result ≡ sector = c.from.ensures in
    let after = m.bytes c.write_word-2.new.media in
    let moves3 = λ (r : List ℕ) (e : IsEither b3 (with_word b3 (a.map_at + 4 * c.from.result) (normal turn.free)) r).
    moves_entered a layout before fit long sector c.requires.sector lane lane_below half next known.sides c.args.old named put b2 (omega arith) noted r
    (entered_alike a.map_at b3 (with_word b2 (half + 12) next) third c.from.result sector from_is turn.free (free_block a before lane) known.free r e) in
    moves3 after (c.write_word-2.ensures.so_far told2)

pub returns-clause-any_moment : goal.returns-clause-any_moment
returns-clause-any_moment g c told fit =
    let m = g.M.MediaState in
    let a = c.args.layout.now in
    let layout = c.requires.layout in
    let fits : Fits a = fits_of a layout in
    let before = m.bytes c.args.media.now in
    let put = c.args.bytes.now in
    let sector = c.args.sector in
    let lane = sector % 256 in
    let turn = c.args.turn.now in
    let half = turn.older_at in
    let next = turn.next in
    let long : length before ≡ a.size = c.requires.told told in
    let lane_below : lane < 256 = omega arith in
    let known : IsKnown a before lane turn = known_of a fits before fit lane lane_below turn (c.requires.known told) in
    let named = c.requires.named told in
    let moves1 = λ (r : List ℕ) (b : IsBeside (4096 + turn.free * a.sector) a.sector half before r).
    moves_beside a layout before fit long sector c.requires.sector lane lane_below half next known.sides c.args.old named r (subst (λ (k : ℕ). IsBeside (4096 + k * a.sector) a.sector half before r) known.free b) put in
    let b2 = m.bytes c.note_beside.new.media in
    let told1 : IsTold m c.note_beside.new.media = c.note_beside.ensures.goes_on.tells ∙ told in
    let sent : IsNoted a (4096 + turn.free * a.sector) half before put (note_of sector c.args.old turn.free) b2 =
    subst (λ (n : List ℕ). IsNoted a (4096 + turn.free * a.sector) half before put n b2) c.note_of-note.ensures (c.in_ok-note_beside.ensures.noted told) in
    let noted : IsNoted a (4096 + free_block a before lane * a.sector) half before put (note_of sector c.args.old (free_block a before lane)) b2 =
    subst (λ (k : ℕ). IsNoted a (4096 + k * a.sector) half before put (note_of sector c.args.old k) b2) known.free sent in
    let moves2 = moves_numbered a layout before fit long sector c.requires.sector lane lane_below half next known.sides c.args.old named put b2 (omega arith) noted in
    let P = λ (r : CrashRecord). IsOldOrNew a before sector put r.bytes in
    let run1 = weakened (λ (r : CrashRecord). IsBeside (4096 + turn.free * a.sector) a.sector half before r.bytes) P (λ r has. moves1 r.bytes has) (c.note_beside.ensures.any_moment told) in
    let run2 = joined run1 (weakened (λ (r : CrashRecord). IsEither b2 (with_word b2 (half + 12) next) r.bytes) P (λ r has. moves2 r.bytes has) (c.write_word.ensures.any_moment told1)) in
    let b3 = m.bytes c.write_word.new.media in
    let told2 : IsTold m c.write_word.new.media = c.write_word.ensures.goes_on.tells ∙ told1 in
    let third : b3 ≡ with_word b2 (half + 12) next = c.in_ok-write_word.ensures.written told1 in
    let from_is : c.from.result ≡ sector = c.from.ensures in
    let after = m.bytes c.write_word-2.new.media in
    let moves3 = λ (r : List ℕ) (e : IsEither b3 (with_word b3 (a.map_at + 4 * c.from.result) (normal turn.free)) r).
    moves_entered a layout before fit long sector c.requires.sector lane lane_below half next known.sides c.args.old named put b2 (omega arith) noted r
    (entered_alike a.map_at b3 (with_word b2 (half + 12) next) third c.from.result sector from_is turn.free (free_block a before lane) known.free r e) in
    joined run2 (weakened (λ (r : CrashRecord). IsEither b3 (with_word b3 (a.map_at + 4 * c.from.result) (normal turn.free)) r.bytes) P (λ r has. moves3 r.bytes has) (c.write_word-2.ensures.any_moment told2))

at_ok : {T : Type 0} → (result : Result T Failed) (P Q : Type 0) → (P → Q) → OnOk result P → OnOk result Q
at_ok (Ok value) P Q implies has = implies has
at_ok (Err failed) P Q implies has = tt

pub returns-clause-written : goal.returns-clause-written
returns-clause-written g c told fit =
    let m = g.M.MediaState in
    let a = c.args.layout.now in
    let layout = c.requires.layout in
    let fits : Fits a = fits_of a layout in
    let before = m.bytes c.args.media.now in
    let put = c.args.bytes.now in
    let sector = c.args.sector in
    let lane = sector % 256 in
    let turn = c.args.turn.now in
    let half = turn.older_at in
    let next = turn.next in
    let long : length before ≡ a.size = c.requires.told told in
    let lane_below : lane < 256 = omega arith in
    let known : IsKnown a before lane turn = known_of a fits before fit lane lane_below turn (c.requires.known told) in
    let named = c.requires.named told in
    let moves1 = λ (r : List ℕ) (b : IsBeside (4096 + turn.free * a.sector) a.sector half before r).
    moves_beside a layout before fit long sector c.requires.sector lane lane_below half next known.sides c.args.old named r (subst (λ (k : ℕ). IsBeside (4096 + k * a.sector) a.sector half before r) known.free b) put in
    let b2 = m.bytes c.note_beside.new.media in
    let told1 : IsTold m c.note_beside.new.media = c.note_beside.ensures.goes_on.tells ∙ told in
    let sent : IsNoted a (4096 + turn.free * a.sector) half before put (note_of sector c.args.old turn.free) b2 =
    subst (λ (n : List ℕ). IsNoted a (4096 + turn.free * a.sector) half before put n b2) c.note_of-note.ensures (c.in_ok-note_beside.ensures.noted told) in
    let noted : IsNoted a (4096 + free_block a before lane * a.sector) half before put (note_of sector c.args.old (free_block a before lane)) b2 =
    subst (λ (k : ℕ). IsNoted a (4096 + k * a.sector) half before put (note_of sector c.args.old k) b2) known.free sent in
    let moves2 = moves_numbered a layout before fit long sector c.requires.sector lane lane_below half next known.sides c.args.old named put b2 (omega arith) noted in
    let b3 = m.bytes c.write_word.new.media in
    let told2 : IsTold m c.write_word.new.media = c.write_word.ensures.goes_on.tells ∙ told1 in
    let third : b3 ≡ with_word b2 (half + 12) next = c.in_ok-write_word.ensures.written told1 in
    let from_is : c.from.result ≡ sector = c.from.ensures in
    let after = m.bytes c.write_word-2.new.media in
    let moves3 = λ (r : List ℕ) (e : IsEither b3 (with_word b3 (a.map_at + 4 * c.from.result) (normal turn.free)) r).
    moves_entered a layout before fit long sector c.requires.sector lane lane_below half next known.sides c.args.old named put b2 (omega arith) noted r
    (entered_alike a.map_at b3 (with_word b2 (half + 12) next) third c.from.result sector from_is turn.free (free_block a before lane) known.free r e) in
    at_ok c.write_word-2.result (after ≡ with_word b3 (a.map_at + 4 * c.from.result) (normal turn.free)) (IsFit a after × IsRewritten a before sector put after)
    (λ is. moved a layout before fit long sector c.requires.sector lane lane_below half next known.sides c.args.old named put b2 (omega arith) noted after
    (is ∙ (λ i. with_word (third i) (a.map_at + 4 * from_is i) (normal (known.free i))))) (c.write_word-2.ensures.written told2)

pub returns-clause-goes_on : goal.returns-clause-goes_on
returns-clause-goes_on g c = goes_on (goes_on c.note_beside.ensures.goes_on c.write_word.ensures.goes_on) c.write_word-2.ensures.goes_on

pub write_word-requires-clause-inside : goal.write_word-requires-clause-inside
write_word-requires-clause-inside g c told1 =
    let a = c.args.layout.now in
    let fits : Fits a = fits_of a c.requires.layout in
    let told = sym c.note_beside.ensures.goes_on.tells ∙ told1 in
    omega (arith, c.note_beside.ensures.goes_on.size told, c.requires.told told, c.requires.turn.ends, fits.log, fits.info)

pub overflow_add-turn-2 : goal.overflow_add-turn-2
overflow_add-turn-2 g c = omega (arith, (fits_of c.args.layout.now c.requires.layout).few, c.requires.turn.free)

pub write_word-requires-2-clause-inside : goal.write_word-requires-2-clause-inside
write_word-requires-2-clause-inside g c told2 =
    let a = c.args.layout.now in
    let fits : Fits a = fits_of a c.requires.layout in
    let told1 = sym c.write_word.ensures.goes_on.tells ∙ told2 in
    let told = sym c.note_beside.ensures.goes_on.tells ∙ told1 in
    omega (arith, c.write_word.ensures.goes_on.size told1, c.note_beside.ensures.goes_on.size told, c.requires.told told, c.requires.sector, c.from.ensures, fits.map, fits.log, fits.info)

pub write_word-requires-2-clause-at_word : goal.write_word-requires-2-clause-at_word
write_word-requires-2-clause-at_word g c =
    let fits : Fits c.args.layout.now = fits_of c.args.layout.now c.requires.layout in
    omega (arith, fits.map_words)
