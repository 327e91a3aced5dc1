use Rattle.std.proofs.Common.{◌≡◌, ◌*◌, true, Option, length, Ok, Err, refl, sym, ap, subst, ◌∙◌, rules}
use Rattle.std.specs.FinMap.{get}
use Rattle.std.specs.Prelude.{is_some, IsTrue}
use Rattle.rig_trait.specs.Areas.{Areas, IsWithin, OthersKept, SizesKept, size_in, written}
use Rattle.rig_trait.specs.Kept.{Keeping, LiesIn, has_space, kept_calls, with_call, write_into}
use Rattle.rig_trait.specs.Memory.{Memory, areas_of}
use Rattle.rig_trait.specs.Records.{CrashRecord, LeftByWrite}
use Rattle.rig_trait.specs.Undone.{whole}
use Rattle.rig_trait.proofs.Keeping.{write_goes_over, failed_write_goes_over, still_keeps}
use Rattle.rig_trait.proofs.Lying.{AllLieIn-with_call, AllLieIn-written}
use Rattle.rig_trait.proofs.Undoing.{GoesOver}
use Rattle.rig_trait.proofs.WrittenAreas.{SizesKept-written, get-written_other, length-bytes_in, writes_nothing}
use Rattle.rig_trait.proofs.memory.MemoryRigRig.write.Goals as goal

pub invariant_of-self : goal.invariant_of-self
invariant_of-self c =
    let areas = areas_of c.self.inside.areas in
    let put = c.args.bytes.now in
    let call = write_into areas c.self.inside.calls c.args.dimm c.args.at put in
    let within = subst (λ (m : Memory). IsWithin m.areas c.args.dimm c.args.at (length put)) (sym c.self.view_is) (c.requires refl) in
    let lies : LiesIn areas call = (within, length-bytes_in areas c.args.dimm c.args.at (length put) within) in
    let all = AllLieIn-with_call areas c.self.inside.keeping call c.self.invariant.kept lies in
    record { room = c.self.invariant.room; kept = rw c.keep_write-fits.ensures.kept all }

pub invariant_of-self-2 : goal.invariant_of-self-2
invariant_of-self-2 c =
    let areas = areas_of c.self.inside.areas in
    let put = c.args.bytes.now in
    let call = write_into areas c.self.inside.calls c.args.dimm c.args.at put in
    let within = subst (λ (m : Memory). IsWithin m.areas c.args.dimm c.args.at (length put)) (sym c.self.view_is) (c.requires refl) in
    let lies : LiesIn areas call = (within, length-bytes_in areas c.args.dimm c.args.at (length put) within) in
    let all = AllLieIn-with_call areas c.self.inside.keeping call c.self.invariant.kept lies in
    record {
      room = c.self.invariant.room;
      kept = rw (c.put_into.ensures, c.keep_write-fits.ensures.kept) (AllLieIn-written areas c.args.dimm c.args.at put within (kept_calls (with_call call c.self.inside.keeping)) all);
    }

pub returns-then-listed-clause-written : goal.returns-then-listed-clause-written
returns-then-listed-clause-written c told =
    let areas_are : areas_of c.self.inside.areas ≡ c.args.self.now.areas = ap (λ (m : Memory). m.areas) c.self.view_is in
    rw areas_are (writes_nothing c.args.self.now.areas c.args.dimm c.args.at c.args.bytes.now (c.requires told))

pub returns-then-listed-clause-stops : goal.returns-then-listed-clause-stops
returns-then-listed-clause-stops c =
    let old = c.args.self.now in
    let put = c.args.bytes.now in
    let areas_are : areas_of c.self.inside.areas ≡ old.areas = ap (λ (m : Memory). m.areas) c.self.view_is in
    let within : IsWithin old.areas c.args.dimm c.args.at (length put) = c.requires refl in
    let kept_is : c.keep_write-fits.new.keeping ≡ with_call (write_into old.areas old.calls c.args.dimm c.args.at put) old.keeping =
    c.keep_write-fits.ensures.kept ∙ (λ i. with_call (write_into (c.self.view_is i).areas (c.self.view_is i).calls c.args.dimm c.args.at put) (c.self.view_is i).keeping) in
    let said_is : c.self.inside.said.items ≡ old.said = ap (λ (m : Memory). m.said) c.self.view_is in
    let over : GoesOver old.keeping c.keep_write-fits.new.keeping (whole old.areas old.said) (whole (areas_of c.self.inside.areas) c.self.inside.said.items) (LeftByWrite {T = Unit {0}} old.areas (areas_of c.self.inside.areas) old.said c.args.dimm c.args.at put (Err (record {}))) =
    rw (kept_is, areas_are, said_is) (failed_write_goes_over old.keeping old.areas old.said old.calls c.args.dimm c.args.at put within (record {})) in
    record { time = record { later = over.later; nothing_else = over.nothing_else; keeps = over.keeps; left_is = over.left_is; joins = over.joins }; whole = tt }

pub returns-clause-writes_only : goal.returns-clause-writes_only
returns-clause-writes_only c =
    let old = c.args.self.now in
    let put = c.args.bytes.now in
    let areas_are : areas_of c.self.inside.areas ≡ old.areas = ap (λ (m : Memory). m.areas) c.self.view_is in
    let within : IsWithin old.areas c.args.dimm c.args.at (length put) = c.requires refl in
    let kept_is : c.keep_write-fits.new.keeping ≡ with_call (write_into old.areas old.calls c.args.dimm c.args.at put) old.keeping =
    c.keep_write-fits.ensures.kept ∙ (λ i. with_call (write_into (c.self.view_is i).areas (c.self.view_is i).calls c.args.dimm c.args.at put) (c.self.view_is i).keeping) in
    let said_is : c.self.inside.said.items ≡ old.said = ap (λ (m : Memory). m.said) c.self.view_is in
    let now_is : areas_of c.put_into.new.areas ≡ written old.areas c.args.dimm c.args.at put = c.put_into.ensures ∙ ap (λ (a : Areas). written a c.args.dimm c.args.at put) areas_are in
    let others : OthersKept c.args.dimm old.areas (areas_of c.put_into.new.areas) = λ q other. ap (λ (a : Areas). get a q) now_is ∙ get-written_other old.areas c.args.dimm c.args.at put q other in
    let sizes : SizesKept old.areas (areas_of c.put_into.new.areas) = λ q. ap (λ (a : Areas). size_in a q) now_is ∙ SizesKept-written old.areas c.args.dimm c.args.at put within q in
    record {
      others = λ _. others;
      said = search rules;
      say_faults = search rules;
      goes_on = record {
        tells = refl;
        tells_records = λ told. subst (λ (o : Option Keeping). IsTrue (is_some o)) (sym kept_is) (still_keeps (write_into old.areas old.calls c.args.dimm c.args.at put) old.keeping told);
        sizes = λ _. sizes;
        faults = search rules;
        say_faults = search rules;
        reads = search rules;
      };
    }

pub returns-clause-stops : goal.returns-clause-stops
returns-clause-stops c =
    let old = c.args.self.now in
    let put = c.args.bytes.now in
    let areas_are : areas_of c.self.inside.areas ≡ old.areas = ap (λ (m : Memory). m.areas) c.self.view_is in
    let within : IsWithin old.areas c.args.dimm c.args.at (length put) = c.requires refl in
    let kept_is : c.keep_write-fits.new.keeping ≡ with_call (write_into old.areas old.calls c.args.dimm c.args.at put) old.keeping =
    c.keep_write-fits.ensures.kept ∙ (λ i. with_call (write_into (c.self.view_is i).areas (c.self.view_is i).calls c.args.dimm c.args.at put) (c.self.view_is i).keeping) in
    let said_is : c.self.inside.said.items ≡ old.said = ap (λ (m : Memory). m.said) c.self.view_is in
    let fits : has_space (2 * length put) old.keeping ≡ true = ap (λ (m : Memory). has_space (2 * length put) m.keeping) (sym c.self.view_is) ∙ sym c.keep_write-fits.ensures.fits ∙ c.if-not-fits.false in
    let now_is : areas_of c.put_into.new.areas ≡ written old.areas c.args.dimm c.args.at put = c.put_into.ensures ∙ ap (λ (a : Areas). written a c.args.dimm c.args.at put) areas_are in
    let over : GoesOver old.keeping c.keep_write-fits.new.keeping (whole old.areas old.said) (whole (areas_of c.put_into.new.areas) c.self.inside.said.items) (LeftByWrite {T = Unit {0}} old.areas (areas_of c.put_into.new.areas) old.said c.args.dimm c.args.at put (Ok tt)) =
    rw (kept_is, now_is, said_is) (write_goes_over old.keeping old.areas old.said old.calls c.args.dimm c.args.at put within fits) in
    record { time = record { later = over.later; nothing_else = over.nothing_else; keeps = over.keeps; left_is = over.left_is; joins = over.joins }; whole = λ r left. ap (λ (q : CrashRecord). q.torn) left.1 }
