-- What several flips write.
use Rattle.std.proofs.Common.{◌≡◌, ℕ, ◌<◌, true, false, eq-eqb, List, length, refl, sym, ap, subst, ◌∙◌, arith}
use Rattle.std.specs.Prelude.{◌==◌}
use Rattle.std.proofs.lemmas.List.Folds.{list_any_at}
use Rattle.rig_trait.specs.declared.shown.Shown.{Ghosts}
use Rattle.rig_trait.specs.Frames.{GoesOn, WritesTo}
use Rattle.rig_trait.proofs.Frames.{goes_on}
use Rattle.label_area.specs.Flips.{is_among}
use Rattle.region_map.specs.declared.platform.Region.{Region}
use Rattle.region_labels.specs.Regions.{handles}
use Rattle.region_labels.proofs.Seated.{length-handles}
use Rattle.region_labels.specs.Followed.{handle_at}
use Rattle.module_flips.specs.Stops.{WritesAmong}

apart : {A : Type 0} → true ≡ false → A
apart e = absurd cc

-- the handle at a position is one of the region's
pub known-handle : (r : Region) (k : ℕ) → k < length r.members → is_among (handles r) (handle_at r k) ≡ true
known-handle r k lt = list_any_at (λ h. handle_at r k == h) (handles r) k 0 (subst (λ n. k < n) (sym (length-handles r)) lt) (eq-eqb (handle_at r k) (handle_at r k) refl)

module _ {R : Type 0} {m : Ghosts R} where
  stays : (rig : R) → GoesOn m rig rig
  stays rig = record { tells = refl; tells_records = λ told. told; sizes = λ told q. refl; faults = omega arith; say_faults = omega arith; reads = omega arith }

  -- before the first call
  pub no_write : (hs : List ℕ) (rig : R) → WritesAmong hs m rig rig
  no_write hs rig = record {
    others = λ told dimm other. refl;
    says = record { said = refl; say_faults = refl; goes_on = stays rig };
  }

  -- and with one module's more
  pub one_write_more : {old mid new : R} (hs : List ℕ) (dimm : ℕ) → is_among hs dimm ≡ true → WritesAmong hs m old mid → WritesTo dimm m mid new → WritesAmong hs m old new
  one_write_more hs dimm known first second = record {
    others = λ told q other.
        second.others (first.says.goes_on.tells ∙ told) q (λ same. apart (sym known ∙ ap (is_among hs) (sym same) ∙ other)) ∙ first.others told q other;
    says = record {
      said = second.said ∙ first.says.said;
      say_faults = second.say_faults ∙ first.says.say_faults;
      goes_on = goes_on first.says.goes_on second.goes_on;
    };
  }
