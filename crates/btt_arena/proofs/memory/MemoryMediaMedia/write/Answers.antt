use Rattle.std.proofs.Common.{◌≡◌, ◌+◌, ◌*◌, ◌≤◌, ℕ, true, List, length, Ok, Err, refl, sym, ap, subst, ◌∙◌}
use Rattle.std.specs.Vec.{with_items}
use Rattle.std.proofs.lemmas.List.{with_items_is}
use Rattle.byte_ranges.specs.Ranges.{patched}
use Rattle.byte_ranges.proofs.Patched.{length-patched}
use Rattle.btt_arena.specs.Kept.{AllLieIn, LiesIn, has_space, kept_writes, with_write, write_over}
use Rattle.btt_arena.specs.Memory.{Memory}
use Rattle.btt_arena.specs.Records.{CrashRecord, LeftByWrite}
use Rattle.btt_arena.proofs.Bytes.{length-range}
use Rattle.btt_arena.proofs.Keeping.{write_goes_over, failed_write_goes_over, writes_nothing}
use Rattle.btt_arena.proofs.Stopping.{AllLieIn-with_write}
use Rattle.btt_arena.proofs.Undoing.{GoesOver}
use Rattle.btt_arena.proofs.memory.MemoryMediaMedia.write.Goals as goal

pub invariant_of-self : goal.invariant_of-self
invariant_of-self c =
    let bytes = c.self.inside.bytes.items in
    let put = c.args.bytes.now in
    let write = write_over bytes c.self.inside.calls c.args.at put in
    let inside : c.args.at + length put ≤ length bytes = subst (λ (m : Memory). c.args.at + length put ≤ length m.bytes) (sym c.self.view_is) (c.requires.inside refl) in
    let lies : LiesIn (length bytes) write = record { fits = inside; same_length = length-range bytes c.args.at (length put) inside; words = c.requires.words } in
    let all = AllLieIn-with_write (length bytes) c.self.inside.keeping write c.self.invariant.kept lies in
    record { kept = rw (c.keep_write-fits.ensures.kept, c.deref-2.ensures.value) all }

pub invariant_of-self-2 : goal.invariant_of-self-2
invariant_of-self-2 c =
    let old = c.args.self.now in
    let put = c.args.bytes.now in
    let bytes_are : c.self.inside.bytes.items ≡ old.bytes = ap (λ (m : Memory). m.bytes) c.self.view_is in
    let inside : c.args.at + length put ≤ length old.bytes = c.requires.inside refl in
    let kept_is : c.keep_write-fits.new.keeping ≡ with_write (write_over old.bytes old.calls c.args.at put) old.keeping =
    c.keep_write-fits.ensures.kept ∙ (λ i. with_write (write_over ((c.deref-2.ensures.value ∙ bytes_are) i) (c.self.view_is i).calls c.args.at put) (c.self.view_is i).keeping) in
    let long : length c.put.new.into ≡ c.self.inside.bytes.len = c.put.auto.into ∙ ap length c.deref_mut.ensures.value ∙ sym c.self.inside.bytes.ok.0 in
    let now_is : (with_items c.self.inside.bytes c.put.new.into).items ≡ patched old.bytes c.args.at put =
    with_items_is c.self.inside.bytes c.put.new.into long ∙ c.put.ensures ∙ ap (λ (b : List ℕ). patched b c.args.at put) (c.deref_mut.ensures.value ∙ bytes_are) in
    let same : length (with_items c.self.inside.bytes c.put.new.into).items ≡ length c.self.inside.bytes.items =
    ap length now_is ∙ length-patched old.bytes put c.args.at inside ∙ ap length (sym bytes_are) in
    let bytes = c.self.inside.bytes.items in
    let write = write_over bytes c.self.inside.calls c.args.at put in
    let within : c.args.at + length put ≤ length bytes = subst (λ (m : Memory). c.args.at + length put ≤ length m.bytes) (sym c.self.view_is) inside in
    let lies : LiesIn (length bytes) write = record { fits = within; same_length = length-range bytes c.args.at (length put) within; words = c.requires.words } in
    let all = AllLieIn-with_write (length bytes) c.self.inside.keeping write c.self.invariant.kept lies in
    let here : AllLieIn (length bytes) (kept_writes c.keep_write-fits.new.keeping) = rw (c.keep_write-fits.ensures.kept, c.deref-2.ensures.value) all in
    record { kept = subst (λ (n : ℕ). AllLieIn n (kept_writes c.keep_write-fits.new.keeping)) (sym same) here }

pub returns-then-listed-clause-written : goal.returns-then-listed-clause-written
returns-then-listed-clause-written c told =
    let bytes_are : c.self.inside.bytes.items ≡ c.args.self.now.bytes = ap (λ (m : Memory). m.bytes) c.self.view_is in
    rw bytes_are (writes_nothing c.args.self.now.bytes c.args.at c.args.bytes.now (c.requires.inside told))

pub returns-then-listed-clause-stops : goal.returns-then-listed-clause-stops
returns-then-listed-clause-stops c =
    let old = c.args.self.now in
    let put = c.args.bytes.now in
    let bytes_are : c.self.inside.bytes.items ≡ old.bytes = ap (λ (m : Memory). m.bytes) c.self.view_is in
    let inside : c.args.at + length put ≤ length old.bytes = c.requires.inside refl in
    let kept_is : c.keep_write-fits.new.keeping ≡ with_write (write_over old.bytes old.calls c.args.at put) old.keeping =
    c.keep_write-fits.ensures.kept ∙ (λ i. with_write (write_over ((c.deref-2.ensures.value ∙ bytes_are) i) (c.self.view_is i).calls c.args.at put) (c.self.view_is i).keeping) in
    let over : GoesOver old.keeping c.keep_write-fits.new.keeping old.bytes c.self.inside.bytes.items (LeftByWrite {T = Unit {0}} old.bytes c.self.inside.bytes.items c.args.at put (Err (record {}))) =
    rw (kept_is, bytes_are) (failed_write_goes_over old.keeping old.bytes old.calls c.args.at put inside (record {})) in
    record { time = record { later = over.later; nothing_else = over.nothing_else; keeps = over.keeps; left_is = over.left_is; joins = over.joins }; whole = tt }

pub returns-clause-stops : goal.returns-clause-stops
returns-clause-stops c =
    let old = c.args.self.now in
    let put = c.args.bytes.now in
    let bytes_are : c.self.inside.bytes.items ≡ old.bytes = ap (λ (m : Memory). m.bytes) c.self.view_is in
    let inside : c.args.at + length put ≤ length old.bytes = c.requires.inside refl in
    let kept_is : c.keep_write-fits.new.keeping ≡ with_write (write_over old.bytes old.calls c.args.at put) old.keeping =
    c.keep_write-fits.ensures.kept ∙ (λ i. with_write (write_over ((c.deref-2.ensures.value ∙ bytes_are) i) (c.self.view_is i).calls c.args.at put) (c.self.view_is i).keeping) in
    let long : length c.put.new.into ≡ c.self.inside.bytes.len = c.put.auto.into ∙ ap length c.deref_mut.ensures.value ∙ sym c.self.inside.bytes.ok.0 in
    let now_is : (with_items c.self.inside.bytes c.put.new.into).items ≡ patched old.bytes c.args.at put =
    with_items_is c.self.inside.bytes c.put.new.into long ∙ c.put.ensures ∙ ap (λ (b : List ℕ). patched b c.args.at put) (c.deref_mut.ensures.value ∙ bytes_are) in
    let fits : has_space (2 * length put) old.keeping ≡ true = ap (λ (m : Memory). has_space (2 * length put) m.keeping) (sym c.self.view_is) ∙ sym c.keep_write-fits.ensures.fits ∙ c.if-not-fits.false in
    let over : GoesOver old.keeping c.keep_write-fits.new.keeping old.bytes (with_items c.self.inside.bytes c.put.new.into).items (LeftByWrite {T = Unit {0}} old.bytes (with_items c.self.inside.bytes c.put.new.into).items c.args.at put (Ok tt)) =
    rw (kept_is, now_is) (write_goes_over old.keeping old.bytes old.calls c.args.at put inside fits) in
    record { time = record { later = over.later; nothing_else = over.nothing_else; keeps = over.keeps; left_is = over.left_is; joins = over.joins }; whole = λ r left. ap (λ (q : CrashRecord). q.torn) left.1 }
