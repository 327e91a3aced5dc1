-- A range of addresses has one list of runs behind it.
use Rattle.std.proofs.Common.{◌≡◌, ℕ, List, [], ◌∷◌, refl, sym, ap, ◌∙◌}
use Rattle.std.specs.List.{AllZip, flat_map}
use Rattle.view_types.specs.declared.translation.Run.{Run}
use Rattle.std.specs.Prelude.{map}
use Rattle.view_types.proofs.Maximal.{one_list}
use Rattle.spa_translate.specs.declared.strand.Strand.{Strand}
use Rattle.spa_translate.specs.Runs.{AreRuns, AreRunsIn, is_reached, run_of}
use Rattle.spa_translate.specs.Woven.{Woven}

module _ (W : Woven) (spa len : ℕ) where
  part-one : (s : Strand) (one other : List Run) → AreRunsIn W spa len s one → AreRunsIn W spa len s other → one ≡ other
  part-one s one other a b =
      a.are ∙ ap (map (run_of s)) (one_list s.size (is_reached W spa len s s.size) a.extents b.extents a.maximal b.maximal) ∙ sym b.are

  parts-one : (strands : List Strand) (ps qs : List (List Run)) → AllZip (AreRunsIn W spa len) strands ps → AllZip (AreRunsIn W spa len) strands qs → ps ≡ qs
  parts-one [] [] [] a b = refl
  parts-one [] [] (q ∷ qs) a b = elim b [ ]
  parts-one [] (p ∷ ps) qs a b = elim a [ ]
  parts-one (s ∷ ss) [] qs a b = elim a [ ]
  parts-one (s ∷ ss) (p ∷ ps) [] a b = elim b [ ]
  parts-one (s ∷ ss) (p ∷ ps) (q ∷ qs) a b = λ i. part-one s p q a.0 b.0 i ∷ parts-one ss ps qs a.1 b.1 i

  pub runs-one : (one other : List Run) → AreRuns W spa len one → AreRuns W spa len other → one ≡ other
  runs-one one other a b =
      a.joined ∙ ap (flat_map (λ part. part)) (parts-one W.strands a.parts b.parts a.each b.each) ∙ sym b.joined
