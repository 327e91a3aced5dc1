-- What calls of a media, one after the other, change and keep together.
use Rattle.std.proofs.Common.{◌≡◌, ◌⊎◌, ⊎_elim, ◌∙◌, arith}
use Rattle.btt_arena.specs.declared.state.MediaState.{Ghosts}
use Rattle.btt_arena.specs.Frames.{GoesOn, LeavesOnly, Reads}
use Rattle.btt_arena.specs.Records.{CrashRecord}
use Rattle.btt_arena.proofs.Moments.{a_call, followed, in_words}

module _ {R : Type 0} {m : Ghosts R} where
  pub goes_on : {old mid new : R} → GoesOn m old mid → GoesOn m mid new → GoesOn m old new
  goes_on first second = record {
    tells = second.tells ∙ first.tells;
    tells_records = λ told. second.tells_records (first.tells_records told);
    size = λ told. second.size (first.tells ∙ told) ∙ first.size told;
    faults = omega (arith, first.faults, second.faults);
  }

  pub reads_on : {old mid new : R} → Reads m old mid → Reads m mid new → Reads m old new
  reads_on {old} {mid} {new} first second = record {
    bytes = second.bytes ∙ first.bytes;
    time = in_words (λ c. m.may_leave old c ⊎ m.may_leave mid c) (m.may_leave old) (λ c. ⊎_elim (λ has. has) (first.time.left_is c))
        (followed (m.may_leave old) (m.may_leave mid) first.time second.time);
    goes_on = goes_on first.goes_on second.goes_on;
  }

  -- calls that write nothing leave what the bytes were
  pub reading : {old new : R} (P : CrashRecord → Type 0) → ((c : CrashRecord) → c.bytes ≡ m.bytes old → P c) → Reads m old new → LeavesOnly m old new P
  reading {old} P start read =
      let now = λ (c : CrashRecord) (left : m.may_leave old c). start c (m.now_is old c left) in
      a_call P (m.may_leave old) now read.time now
