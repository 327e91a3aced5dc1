-- What calls of a rig, one after the other, change and keep together.
use Rattle.std.proofs.Common.{◌≡◌, ◌⊎◌, inl, ℕ, ⊎_elim, refl, ◌∙◌, arith}
use Rattle.rig_trait.specs.declared.shown.Shown.{Ghosts}
use Rattle.rig_trait.specs.Frames.{GoesOn, LeavesOnly, Reads, WritesTo}
use Rattle.rig_trait.specs.Records.{CrashRecord}
use Rattle.rig_trait.proofs.Moments.{a_call, followed, in_words}

module _ {R : Type 0} {m : Ghosts R} where
  pub goes_on : {old mid new : R} → GoesOn m old mid → GoesOn m mid new → GoesOn m old new
  goes_on first second = record {
    tells = second.tells ∙ first.tells;
    tells_records = λ told. second.tells_records (first.tells_records told);
    sizes = λ told q. second.sizes (first.tells ∙ told) q ∙ first.sizes told q;
    faults = omega (arith, first.faults, second.faults);
    say_faults = omega (arith, first.say_faults, second.say_faults);
    reads = omega (arith, first.reads, second.reads);
  }

  pub reads_on : {old mid new : R} → Reads m old mid → Reads m mid new → Reads m old new
  reads_on {old} {mid} {new} first second = record {
    areas = second.areas ∙ first.areas;
    said = second.said ∙ first.said;
    say_faults = second.say_faults ∙ first.say_faults;
    time = in_words (λ c. m.may_leave old c ⊎ m.may_leave mid c) (m.may_leave old) (λ c. ⊎_elim (λ has. has) (first.time.left_is c))
        (followed (m.may_leave old) (m.may_leave mid) first.time second.time);
    goes_on = goes_on first.goes_on second.goes_on;
  }

  module _ {dimm : ℕ} where
    pub writes_behind_reads : {old mid new : R} → Reads m old mid → WritesTo dimm m mid new → WritesTo dimm m old new
    writes_behind_reads first second = record {
      others = λ tells. rw first.areas at (second.others (first.goes_on.tells ∙ tells));
      said = second.said ∙ first.said;
      say_faults = second.say_faults ∙ first.say_faults;
      goes_on = goes_on first.goes_on second.goes_on;
    }

    pub writes_on : {old mid new : R} → WritesTo dimm m old mid → WritesTo dimm m mid new → WritesTo dimm m old new
    writes_on first second = record {
      others = λ tells q other. second.others (first.goes_on.tells ∙ tells) q other ∙ first.others tells q other;
      said = second.said ∙ first.said;
      say_faults = second.say_faults ∙ first.say_faults;
      goes_on = goes_on first.goes_on second.goes_on;
    }

  -- calls that write nothing and say nothing leave what the areas and the output were
  pub reading : {old new : R} (P : CrashRecord → Type 0) → ((c : CrashRecord) → c.areas ≡ m.areas old → c.said ≡ m.said old → P c) → Reads m old new → LeavesOnly m old new P
  reading {old} P start read =
      let now = λ (c : CrashRecord) (left : m.may_leave old c). let is = m.now_is old c left in start c is.0 is.1 in
      a_call P (m.may_leave old) now read.time now

-- no call was made
pub no_call : {R : Type 0} (m : Ghosts R) (rig : R) → Reads m rig rig
no_call m rig = record {
  areas = refl;
  said = refl;
  say_faults = refl;
  time = record {
    later = omega arith;
    nothing_else = λ t c past left. inl left;
    keeps = λ t c past left. left;
    left_is = λ c left. left;
    joins = λ t c past left. inl left;
  };
  goes_on = record {
    tells = refl;
    tells_records = λ told. told;
    sizes = λ told q. refl;
    faults = omega arith;
    say_faults = omega arith;
    reads = omega arith;
  };
}
