-- The numbers of a layout.
use Rattle.std.proofs.Common.{◌≡◌, ◌⊎◌, inl, inr, ℕ, ◌+◌, ◌*◌, ◌%◌, ◌^◌, ◌<◌, ◌≤◌, sym, ap, subst, ◌∙◌, arith}
use Rattle.std.specs.Prelude.{IsTrue}
use Rattle.std.proofs.lemmas.Bool.Decides.{nat_tests}
use Rattle.btt_arena.specs.declared.layout.Layout.{Layout}
use Rattle.btt_arena.specs.Layout.{IsLayout, is_sector, is_size, layout_of}

-- The parts stand one behind the other, at multiples of four, and fill the media; 30 bits hold the number of a block.
pub record Fits (a : Layout) : Type 0 where
  pub room : 4096 + a.blocks * a.sector ≤ a.map_at
  pub map : a.map_at + 4 * a.sectors ≤ a.log_at
  pub log : a.log_at + 16384 ≡ a.info_at
  pub info : a.info_at + 4096 ≡ a.size
  pub map_words : a.map_at % 4096 ≡ 0
  pub log_words : a.log_at % 4096 ≡ 0
  pub info_words : a.info_at % 4096 ≡ 0
  pub count : a.sectors + 256 ≡ a.blocks
  pub few_lanes : 256 ≤ a.sectors
  pub few : a.blocks < 2 ^ 30
  pub most : a.size < 2 ^ 40

small_sectors : (size : ℕ) → IsTrue (is_size size) → Fits (layout_of size 512)
small_sectors size sized = record {
  room = grind (arith, nat_tests);
  map = grind (arith, nat_tests);
  log = grind (arith, nat_tests);
  info = grind (arith, nat_tests);
  map_words = grind (arith, nat_tests);
  log_words = grind (arith, nat_tests);
  info_words = grind (arith, nat_tests);
  count = grind (arith, nat_tests);
  few_lanes = grind (arith, nat_tests);
  few = grind (arith, nat_tests);
  most = grind (arith, nat_tests);
}

large_sectors : (size : ℕ) → IsTrue (is_size size) → Fits (layout_of size 4096)
large_sectors size sized = record {
  room = grind (arith, nat_tests);
  map = grind (arith, nat_tests);
  log = grind (arith, nat_tests);
  info = grind (arith, nat_tests);
  map_words = grind (arith, nat_tests);
  log_words = grind (arith, nat_tests);
  info_words = grind (arith, nat_tests);
  count = grind (arith, nat_tests);
  few_lanes = grind (arith, nat_tests);
  few = grind (arith, nat_tests);
  most = grind (arith, nat_tests);
}

pub two_sectors : (sector : ℕ) → IsTrue (is_sector sector) → (sector ≡ 512) ⊎ (sector ≡ 4096)
two_sectors sector is = grind (arith, nat_tests)

pub fits_of : (a : Layout) → IsLayout a → Fits a
fits_of a layout = elim (two_sectors a.sector layout.sector) [
  | inl small ↦ subst Fits (sym (layout.numbers ∙ ap (layout_of a.size) small)) (small_sectors a.size layout.size)
  | inr large ↦ subst Fits (sym (layout.numbers ∙ ap (layout_of a.size) large)) (large_sectors a.size layout.size)
]
