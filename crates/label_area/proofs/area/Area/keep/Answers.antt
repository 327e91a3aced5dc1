use Rattle.std.proofs.Common.{◌≡◌, ◌<◌, ◌++◌, ℕ, None, false, cond, length, get_or, take, drop, List, Option, IsSome, sym, ap, subst, ◌∙◌, rules, arith}
use Rattle.std.specs.Prelude.{◌==◌, ◌%◌, ◌/◌}
use Rattle.std.specs.FinMap.{get}
use Rattle.std.specs.Int.{bit_at}
use Rattle.std.proofs.lemmas.List.{get_or-take, with_items_is}
use Rattle.index_block.specs.Bitmap.{is_free_in}
use Rattle.label_codec.specs.declared.label.Label.{Label}
use Rattle.label_area.specs.Flips.{is_among}
use Rattle.label_area.specs.Kept.{live_of}
use Rattle.label_area.specs.LoadedAreas.{LoadedArea}
use Rattle.index_block.specs.Geometry.{bitmap_len}
use Rattle.label_area.proofs.LabelsBySlot.{cleared_in_use, get-live_of}
use Rattle.label_area.proofs.area.Area.keep.Goals as goal

pub invariant_of-self : goal.invariant_of-self
invariant_of-self c =
    let labels = c.self.inside.labels in
    let n = c.self.inside.geometry.slots in
    let len_is : length c.clear.new.labels ≡ labels.len = c.clear.ensures.len ∙ c.deref_mut.ensures.len in
    let slots_is : n ≡ c.args.self.now.geometry.slots = ap (λ (a : LoadedArea). a.geometry.slots) c.self.view_is in
    let now_is : take labels.len (c.clear.new.labels ++ drop (length c.clear.new.labels) labels.items) ≡ c.clear.new.labels = with_items_is labels c.clear.new.labels len_is in
    let cleared = λ (k : ℕ). c.clear.ensures.labels k ∙ ap (λ (ls : List (Option Label)). cond (is_among c.args.freed.now k) None (get_or ls k None)) c.deref_mut.ensures.value in
    let free_long : length c.copy_from_slice.new.self.items ≡ bitmap_len n = search rules in
    let len_free : c.len-len.result ≡ bitmap_len n = search rules in
    let copied = λ (k : ℕ) (below : k < n).
    ap (λ (xs : List ℕ). is_free_in xs k) c.copy_from_slice.ensures.items
    ∙ ap (λ (byte : ℕ). bit_at byte (k % 8) == 1) (get_or-take c.len-len.result c.args.next.now.free (k / 8) 0 (omega (arith, below, len_free))) in
    record {
      geometry = c.self.invariant.geometry;
      label = c.self.invariant.label;
      seq = c.requires.next.numbered;
      bits = free_long;
      room = c.self.invariant.room;
      in_use = λ k some. cleared_in_use labels.items c.clear.new.labels (is_among c.args.freed.now) c.self.inside.free.items _ n cleared c.self.invariant.in_use
          (λ j below kept was.
          copied j below
          ∙ c.requires.bits j (subst (λ (m : ℕ). j < m) slots_is below) kept (subst (λ (a : LoadedArea). is_free_in a.free j ≡ false) c.self.view_is was)) k
          (subst (λ (ls : List (Option Label)). IsSome (get_or ls k None)) now_is some);
    }

pub returns-clause-live : goal.returns-clause-live
returns-clause-live c = λ k.
    let labels = c.self.inside.labels in
    let gone = is_among c.args.freed.now k in
    let len_is : length c.clear.new.labels ≡ labels.len = c.clear.ensures.len ∙ c.deref_mut.ensures.len in
    ap (λ (ls : List (Option Label)). get (live_of ls) k) (with_items_is labels c.clear.new.labels len_is)
    ∙ get-live_of k c.clear.new.labels
    ∙ c.clear.ensures.labels k
    ∙ ap (λ (ls : List (Option Label)). cond gone None (get_or ls k None)) c.deref_mut.ensures.value
    ∙ ap (λ (o : Option Label). cond gone None o) (sym (get-live_of k labels.items) ∙ ap (λ (a : LoadedArea). get a.live k) c.self.view_is)
