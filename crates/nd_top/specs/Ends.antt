-- How a run ends, by the form that its words are.
use Rattle.std.specs.Prelude.{◌≡◌, ℕ, Option, Some, None}
use Rattle.rig_trait.specs.declared.shown.Shown as rigs
use Rattle.rig_trait.specs.declared.source.Source as sources
use Rattle.rig_trait.specs.Sources.{TellsLeft}
use Rattle.run_edges.specs.declared.faults.Fault.TheVariants.{Words}
use Rattle.run_edges.specs.Saying.{SaysLine}
use Rattle.run_edges.specs.Sources.{IsAccepted}
use Rattle.nd_top.specs.Labels.{ListsLabels}
use Rattle.nd_top.specs.Lines.{EndsInput, EndsLine}
use Rattle.nd_top.specs.Words.{Asked, LabelsOf, DoLine, RunInput}

abbrev pub Ends : {R N I : Type 0} → rigs.Ghosts R → sources.Ghosts N → sources.Ghosts I → ℕ → Option Asked → R → R → N
    → N
    → I → I → ℕ → Type 0
Ends m n i seed None old new nfit_old nfit_new input_old input_new status = SaysLine m old new Words status
Ends m n i seed (Some (LabelsOf dimm)) old new nfit_old nfit_new input_old input_new status =
    ListsLabels m dimm old new status
Ends m n i seed (Some (DoLine line)) old new nfit_old nfit_new input_old input_new status =
    EndsLine m n seed line old new nfit_old nfit_new status
Ends m n i seed (Some RunInput) old new nfit_old nfit_new input_old input_new status =
    EndsInput m n i seed old new nfit_old nfit_new input_old input_new status

-- lines are done, on the platform of an NFIT
abbrev pub NeedsNfit : Option Asked → Type 0
NeedsNfit None = ⊥
NeedsNfit (Some (LabelsOf dimm)) = ⊥
NeedsNfit (Some (DoLine line)) = Unit {0}
NeedsNfit (Some RunInput) = Unit {0}

-- the lines are those of the input
abbrev pub NeedsInput : Option Asked → Type 0
NeedsInput asked = asked ≡ Some RunInput

-- the NFIT that a form needs is not accepted, and the source tells it
pub record RefusesNfit {N : Type 0} (n : sources.Ghosts N) (asked : Option Asked) (source : N) : Type 0 where
  pub needed : NeedsNfit asked
  pub told : TellsLeft n source
  pub refused : ¬ IsAccepted (n.left source)

-- no area was asked for anything
pub record AsksNothing {R : Type 0} (m : rigs.Ghosts R) (old new : R) : Type 0 where
  pub areas : m.areas new ≡ m.areas old
  pub reads : m.reads new ≡ m.reads old
  pub faults : m.faults new ≡ m.faults old
