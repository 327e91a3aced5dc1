use Rattle.std.proofs.Common.{◌≡◌, ℕ, ◌++◌, true, List, length, sym, ap, ◌∙◌, arith}
use Rattle.rig_trait.specs.Kept.{has_space, kept_say, with_call}
use Rattle.rig_trait.specs.Memory.{Memory, areas_of}
use Rattle.rig_trait.specs.Undone.{whole}
use Rattle.rig_trait.proofs.Keeping.{Saying, say_goes_over, failed_say_goes_over}
use Rattle.rig_trait.proofs.Lying.{AllLieIn-with_call}
use Rattle.rig_trait.proofs.Undoing.{GoesOver}
use Rattle.rig_trait.proofs.memory.MemoryRigRig.say.Goals as goal

pub invariant_of-self : goal.invariant_of-self
invariant_of-self c = record {
  room = c.self.invariant.room;
  kept = rw c.keep_say-fits.ensures.kept (AllLieIn-with_call (areas_of c.self.inside.areas) c.self.inside.keeping (kept_say c.self.inside.calls c.len.result c.args.bytes.now) c.self.invariant.kept tt);
}

pub invariant_of-self-2 : goal.invariant_of-self-2
invariant_of-self-2 c = record {
  room = omega (arith, c.self.invariant.room, c.in-Ok.ensures.capacity);
  kept = rw c.keep_say-fits.ensures.kept (AllLieIn-with_call (areas_of c.self.inside.areas) c.self.inside.keeping (kept_say c.self.inside.calls c.len.result c.args.bytes.now) c.self.invariant.kept tt);
}

pub returns-then-listed-clause-stops : goal.returns-then-listed-clause-stops
returns-then-listed-clause-stops c =
    let old = c.args.self.now in
    let text = c.args.bytes.now in
    let said_len : c.len.result ≡ length old.said = c.len.ensures ∙ c.self.inside.said.ok.0 ∙ ap (λ (m : Memory). length m.said) c.self.view_is in
    let kept_is : c.keep_say-fits.new.keeping ≡ with_call (kept_say old.calls (length old.said) text) old.keeping =
    c.keep_say-fits.ensures.kept ∙ (λ i. with_call (kept_say (c.self.view_is i).calls (said_len i) text) (c.self.view_is i).keeping) in
    let areas_are : areas_of c.self.inside.areas ≡ old.areas = ap (λ (m : Memory). m.areas) c.self.view_is in
    let said_is : c.self.inside.said.items ≡ old.said = ap (λ (m : Memory). m.said) c.self.view_is in
    let over : GoesOver old.keeping c.keep_say-fits.new.keeping (whole old.areas old.said) (whole (areas_of c.self.inside.areas) c.self.inside.said.items) (Saying old.keeping old.areas old.said text) =
    rw (kept_is, areas_are, said_is) (failed_say_goes_over old.keeping old.areas old.said old.calls text) in
    record { later = over.later; nothing_else = over.nothing_else; keeps = over.keeps; left_is = over.left_is; joins = over.joins }

pub returns-clause-stops : goal.returns-clause-stops
returns-clause-stops c =
    let old = c.args.self.now in
    let text = c.args.bytes.now in
    let said_len : c.len.result ≡ length old.said = c.len.ensures ∙ c.self.inside.said.ok.0 ∙ ap (λ (m : Memory). length m.said) c.self.view_is in
    let kept_is : c.keep_say-fits.new.keeping ≡ with_call (kept_say old.calls (length old.said) text) old.keeping =
    c.keep_say-fits.ensures.kept ∙ (λ i. with_call (kept_say (c.self.view_is i).calls (said_len i) text) (c.self.view_is i).keeping) in
    let areas_are : areas_of c.self.inside.areas ≡ old.areas = ap (λ (m : Memory). m.areas) c.self.view_is in
    let said_is : c.self.inside.said.items ≡ old.said = ap (λ (m : Memory). m.said) c.self.view_is in
    let fits : has_space (length text) old.keeping ≡ true = ap (λ (m : Memory). has_space (length text) m.keeping) (sym c.self.view_is) ∙ sym c.keep_say-fits.ensures.fits ∙ c.if-not-fits.false in
    let now_is : c.extend_from_slice.new.self.items ≡ old.said ++ text = c.in-Ok.ensures.items ∙ ap (λ (s : List ℕ). s ++ text) said_is in
    let over : GoesOver old.keeping c.keep_say-fits.new.keeping (whole old.areas old.said) (whole (areas_of c.self.inside.areas) c.extend_from_slice.new.self.items) (Saying old.keeping old.areas old.said text) =
    rw (kept_is, areas_are, now_is) (say_goes_over old.keeping old.areas old.said old.calls text fits) in
    record { later = over.later; nothing_else = over.nothing_else; keeps = over.keeps; left_is = over.left_is; joins = over.joins }
