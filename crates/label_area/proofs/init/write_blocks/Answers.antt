use Rattle.std.proofs.Common.{◌≡◌, ℕ, List, length, sym, subst}
use Rattle.std.specs.FinMap.{get}
use Rattle.rig_trait.specs.Areas.{IsWithin}
use Rattle.label_area.specs.Inits.{first_block, second_block}
use Rattle.label_area.proofs.Initialised.{first_within, in_order_in_turn, second_within, stored_of}
use Rattle.label_area.proofs.init.write_blocks.Goals as goal

pub write_two-requires : goal.write_two-requires
write_two-requires g c =
    let areas = g.R.Shown.areas c.args.rig.now in
    let dimm = c.args.dimm in
    let geometry = c.args.geometry.now in
    let first_is : c.write_block.new.into ≡ first_block geometry = c.write_block.ensures.text in
    let second_is : c.write_block-2.new.into ≡ second_block geometry = c.write_block-2.ensures.text in
    record {
      first = λ tells.
          let is = stored_of (get areas dimm) geometry (c.requires.layout tells) in
          subst (λ (put : List ℕ). IsWithin areas dimm 0 (length put)) (sym first_is) (first_within areas dimm is.bytes geometry is.is_area is.found);
      second = λ tells.
          let is = stored_of (get areas dimm) geometry (c.requires.layout tells) in
          let within = second_within areas dimm is.bytes geometry is.is_area is.found in
          subst (λ (at : ℕ). IsWithin areas dimm at (length c.write_block-2.new.into)) (sym c.from.ensures)
          (subst (λ (put : List ℕ). IsWithin areas dimm geometry.block (length put)) (sym second_is) within);
    }

pub returns-clause-any_moment : goal.returns-clause-any_moment
returns-clause-any_moment g c tells =
    rw (c.write_block.ensures.text, c.write_block-2.ensures.text, c.from.ensures) at (c.write_two.ensures.any_moment tells)

pub returns-clause-both : goal.returns-clause-both
returns-clause-both g c tells =
    rw (c.write_block.ensures.text, c.write_block-2.ensures.text, c.from.ensures) at (c.write_two.ensures.both tells)

pub returns-clause-in_order : goal.returns-clause-in_order
returns-clause-in_order g c told =
    let areas = g.R.Shown.areas c.args.rig.now in
    let is = stored_of (get areas c.args.dimm) c.args.geometry.now (c.requires.layout told) in
    in_order_in_turn areas c.args.dimm is.bytes c.args.geometry.now is.is_area is.found (g.R.Shown.areas c.write_two.new.rig) c.write_two.result
    (rw (c.write_block.ensures.text, c.write_block-2.ensures.text, c.from.ensures) at (c.write_two.ensures.in_turn told))
