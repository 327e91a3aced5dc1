-- What a stop at any moment of an initialisation leaves: of its looking at the area, and of its writing behind that.
use Rattle.std.proofs.Common.{◌≡◌, ℕ, List, Option, Some, None, inl, refl, ap, ◌∙◌}
use Rattle.std.specs.Prelude.{IfSome}
use Rattle.std.specs.FinMap.{get}
use Rattle.rig_trait.specs.declared.shown.Shown.{Ghosts}
use Rattle.rig_trait.specs.Areas.{Areas, area}
use Rattle.rig_trait.specs.Frames.{LeavesOnly, Reads}
use Rattle.rig_trait.specs.Records.{CrashRecord}
use Rattle.rig_trait.specs.TwoWrites.{LeftByTwo}
use Rattle.rig_trait.proofs.Frames.{reading}
use Rattle.rig_trait.proofs.Moments.{joined, weakened}
use Rattle.index_block.specs.declared.geometry.Geometry.{Geometry}
use Rattle.label_codec.specs.declared.kind.AreaKind.TheVariants.{Uninit}
use Rattle.label_area.specs.Inits.{IsInOrder, IsWrittenInOrder, LeftByInit, first_block, layout_of, second_block}
use Rattle.label_area.specs.Modules.{area_kind}
use Rattle.label_area.proofs.Initialised.{left_by_init, stored_of}

-- nothing was written
pub in_order-same : (areas new : Areas) (dimm : ℕ) → new ≡ areas → IsInOrder dimm areas new
in_order-same areas new dimm same = by (layout_of (get areas dimm))
  where
    by : (layout : Option Geometry) → IfSome layout (λ g. IsWrittenInOrder g (area areas dimm) (area new dimm))
    by None = tt
    by (Some g) = rw same (record { behind = refl; second = inl refl })

-- all areas are as they were
untouched : (areas : Areas) (said : List ℕ) (dimm : ℕ) (c : CrashRecord) → c.areas ≡ areas → c.said ≡ said → LeftByInit areas said dimm c
untouched areas said dimm c same said_is = record {
  said_is = said_is;
  others = λ q other. ap (λ now. get now q) same;
  in_order = in_order-same areas c.areas dimm same;
  kept = λ kind. same;
  ready = λ fair uninit. inl (ap (λ now. area_kind (get now dimm)) same ∙ uninit);
}

module _ {R : Type 0} {m : Ghosts R} {old mid : R} (dimm : ℕ) where
  -- the calls that look at the area
  pub looking : Reads m old mid → LeavesOnly m old mid (LeftByInit (m.areas old) (m.said old) dimm)
  looking read = reading (LeftByInit (m.areas old) (m.said old) dimm) (untouched (m.areas old) (m.said old) dimm) read

  -- with the two writes behind them
  pub initialising : {new : R} (g : Geometry) → layout_of (get (m.areas old) dimm) ≡ Some g → area_kind (get (m.areas old) dimm) ≡ Uninit → Reads m old mid
      → LeavesOnly m mid new (LeftByTwo (m.areas mid) (m.said mid) dimm 0 (first_block g) g.block (second_block g)) → LeavesOnly m old new (LeftByInit (m.areas old) (m.said old) dimm)
  initialising {new} g layout uninit read written =
      let is = stored_of (get (m.areas old) dimm) g layout in
      let two : LeavesOnly m mid new (LeftByTwo (m.areas old) (m.said old) dimm 0 (first_block g) g.block (second_block g)) = rw (← read.areas, ← read.said) written in
      joined (looking read)
      (weakened (LeftByTwo (m.areas old) (m.said old) dimm 0 (first_block g) g.block (second_block g)) (LeftByInit (m.areas old) (m.said old) dimm)
      (left_by_init (m.areas old) dimm is.bytes g is.is_area is.found uninit (m.said old)) two)
