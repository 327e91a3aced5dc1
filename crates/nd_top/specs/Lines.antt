-- How the forms `do` and `run` end: a fault before any line, whose line is said, or lines on the platform of the NFIT.
use Rattle.std.specs.Prelude.{◌≡◌, ℕ, List, [], ◌∷◌}
use Rattle.rig_trait.specs.declared.shown.Shown as rigs
use Rattle.rig_trait.specs.declared.source.Source as sources
use Rattle.region_map.specs.declared.platform.Platform.{Platform}
use Rattle.run_edges.specs.declared.faults.Fault.{Fault}
use Rattle.run_edges.specs.declared.faults.SourceName.TheVariants.{Input}
use Rattle.run_edges.specs.Saying.{SaysLine}
use Rattle.run_edges.specs.Sources.{HasBytes, HasNoBytes, HasNoPlatform, HasPlatform, most_read}
use Rattle.command_runs.specs.Lines.{lines_in}
use Rattle.nd_top.specs.Runs.{EndsOn}

-- One line is done.
pub data EndsLine {R N : Type 0} (m : rigs.Ghosts R) (n : sources.Ghosts N) (seed : ℕ) (line : List ℕ) (old new : R)
    (nfit_old nfit_new : N) (status : ℕ) : Type 0 where
  -- there is no platform, so no area is asked for anything
  line_without : (fault : Fault) → HasNoPlatform n nfit_old nfit_new fault → SaysLine m old new fault status
      → EndsLine m n seed line old new nfit_old nfit_new status
  line_on : (platform : Platform) → HasPlatform n nfit_old nfit_new platform
      → EndsOn m seed platform (line ∷ []) old new status → EndsLine m n seed line old new nfit_old nfit_new status

-- The lines of the input are done.
pub data EndsInput {R N I : Type 0} (m : rigs.Ghosts R) (n : sources.Ghosts N) (i : sources.Ghosts I) (seed : ℕ)
    (old new : R)
    (nfit_old nfit_new : N) (input_old input_new : I) (status : ℕ) : Type 0 where
  input_without : (fault : Fault) → HasNoPlatform n nfit_old nfit_new fault → input_new ≡ input_old
      → SaysLine m old new fault status
      → EndsInput m n i seed old new nfit_old nfit_new input_old input_new status
  -- nor is one where the lines cannot be had
  input_unread : (platform : Platform) → HasPlatform n nfit_old nfit_new platform
      → (fault : Fault) → HasNoBytes i Input most_read input_old input_new fault → SaysLine m old new fault status
      → EndsInput m n i seed old new nfit_old nfit_new input_old input_new status
  input_on : (platform : Platform) → HasPlatform n nfit_old nfit_new platform
      → (bytes : List ℕ) → HasBytes i most_read input_old input_new bytes
      → EndsOn m seed platform (lines_in bytes) old new status
      → EndsInput m n i seed old new nfit_old nfit_new input_old input_new status
