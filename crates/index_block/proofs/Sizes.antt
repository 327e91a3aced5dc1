-- The sizes of a geometry.
use Rattle.std.proofs.Common.{◌≡◌, ◌-◌, ◌*◌, ◌%◌, ◌<◌, ◌≤◌, arith}
use Rattle.std.proofs.lemmas.Bool.Decides.{nat_tests}
use Rattle.index_block.specs.declared.geometry.Geometry.{Geometry}
use Rattle.index_block.specs.Geometry.{IsGeometry}

-- A block has 256 to 4,096 bytes, a multiple of 256, and more bits than there are slots.
pub record HasSizes (g : Geometry) : Type 0 where
  pub aligned : g.block % 256 ≡ 0
  pub least : 256 ≤ g.block
  pub most : g.block ≤ 4096
  pub bits : g.slots < 8 * (g.block - 72)

pub sizes_of : (g : Geometry) → IsGeometry g → HasSizes g
sizes_of g geometry = record {
  aligned = grind (arith, nat_tests);
  least = grind (arith, nat_tests);
  most = grind (arith, nat_tests);
  bits = grind (arith, nat_tests);
}
