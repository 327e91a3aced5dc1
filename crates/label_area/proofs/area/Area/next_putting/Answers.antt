use Rattle.std.proofs.Common.{◌<◌, ◌||◌, List, ℕ, sym, ap, ◌∙◌, subst}
use Rattle.index_block.specs.Bitmap.{is_free_in}
use Rattle.label_area.specs.Flips.{is_among}
use Rattle.label_area.specs.LoadedAreas.{LoadedArea}
use Rattle.label_area.proofs.Putting.{put_bits, with_bits-put}
use Rattle.label_area.proofs.area.Area.next_putting.Goals as goal

pub returns-clause-bits : goal.returns-clause-bits
returns-clause-bits c = λ k below.
    ap (λ (bits : List ℕ). is_free_in bits k) c.next.ensures.bits
    ∙ put_bits c.set_used.new.map c.freed_bits-free.result c.args.slot (is_among c.args.freed.now) (is_free_in c.args.self.now.free) c.set_used.ensures.used c.set_used.ensures.others k
    (c.freed_bits-free.ensures k (subst (λ (x : LoadedArea). k < x.geometry.slots) (sym c.self.view_is) below)
    ∙ ap (λ (free : List ℕ). is_among c.args.freed.now k || is_free_in free k) (c.deref.ensures.value ∙ ap (λ (x : LoadedArea). x.free) c.self.view_is))

pub returns-clause-after : goal.returns-clause-after
returns-clause-after c = λ label. with_bits-put c.args.self.now c.next.ensures.sound c.next.result label c.args.slot c.args.freed.now c.requires.slot (λ k below.
    ap (λ (bits : List ℕ). is_free_in bits k) c.next.ensures.bits
    ∙ put_bits c.set_used.new.map c.freed_bits-free.result c.args.slot (is_among c.args.freed.now) (is_free_in c.args.self.now.free) c.set_used.ensures.used c.set_used.ensures.others k
    (c.freed_bits-free.ensures k (subst (λ (x : LoadedArea). k < x.geometry.slots) (sym c.self.view_is) below)
    ∙ ap (λ (free : List ℕ). is_among c.args.freed.now k || is_free_in free k) (c.deref.ensures.value ∙ ap (λ (x : LoadedArea). x.free) c.self.view_is)))
