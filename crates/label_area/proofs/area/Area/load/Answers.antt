use Rattle.std.proofs.Common.{◌≡◌, ℕ, List, [], length, Some, sym, ap, subst, ◌∙◌, rules}
use Rattle.std.specs.Prelude.{unwrap_or}
use Rattle.std.specs.FinMap.{get}
use Rattle.rig_trait.proofs.Frames.{reads_on}
use Rattle.index_block.specs.Geometry.{FitsIn, geometry_of}
use Rattle.label_area.specs.Blocks.{current_by, current_in, kind_among, kinds_in}
use Rattle.label_area.specs.Kept.{loaded_from}
use Rattle.label_area.specs.Loads.{IsShown}
use Rattle.label_area.proofs.AreaKinds.{not_foreign}
use Rattle.label_area.proofs.Shown.{current_among, kind_looked, shown}
use Rattle.label_area.proofs.area.Area.load.Goals as goal
use Rattle.label_area.proofs.area.Area.load.Goals.{in-Foreign, in_default-kind}

pub returns-in_err-bytes-clause-reads_only : goal.returns-in_err-bytes-clause-reads_only
returns-in_err-bytes-clause-reads_only g c = search (rules, reads_on)

pub returns-in_default-current-clause-loaded : goal.returns-in_default-current-clause-loaded
returns-in_default-current-clause-loaded g c told =
    let read = c.size.ensures.reads_only in
    let areas = g.R.Shown.areas c.args.rig.now in
    let whole = c.in_ok-bytes.ensures.whole (read.goes_on.tells ∙ told) in
    let layouts = c.in-Some-of.layouts in
    let kinds = c.of-kinds.result in
    let size_is = sym (c.in_ok-size.ensures.size told) ∙ c.in-Some.is in
    let looked =
    kind_looked c.in-Some.size layouts areas (g.R.Shown.areas c.size.new.self) c.args.dimm kinds read.areas
    size_is c.in-Some-of.ensures.exact (c.of-kinds.ensures.kinds ∙ ap (λ (b : List ℕ). kinds_in layouts b) (c.deref.ensures.value ∙ sym (ap (λ o. unwrap_or o []) whole))) in
    elim c.match-kind.branch [
      | in-Foreign w ↦ rw w.result-is (record { kind_is = looked ∙ sym w.in-Foreign.ensures; size_is = size_is })
      | in_default-kind w ↦ rw w.result-is (record { kind_is = looked ∙ not_foreign layouts.own kinds (sym c.in_default-current.ensures.current) (λ e. w.in_default-kind.not-Foreign (c.kind.ensures ∙ e)); size_is = size_is })
    ]

pub returns-in_default-current-clause-cause : goal.returns-in_default-current-clause-cause
returns-in_default-current-clause-cause g c =
    let faults = c.in_ok-bytes.ensures.cause.faults ∙ c.in_ok-size.ensures.cause.faults in
    let failed_dimm = c.in_ok-bytes.ensures.cause.failed_dimm ∙ c.in_ok-size.ensures.cause.failed_dimm in
    elim c.match-kind.branch [
      | in-Foreign w ↦ rw w.result-is (record { faults = faults; failed_dimm = failed_dimm })
      | in_default-kind w ↦ rw w.result-is (record { faults = faults; failed_dimm = failed_dimm })
    ]

pub returns-in_default-current-clause-reads_only : goal.returns-in_default-current-clause-reads_only
returns-in_default-current-clause-reads_only g c = search (rules, reads_on)

pub returns-clause-loaded : goal.returns-clause-loaded
returns-clause-loaded g c told =
    let read = c.size.ensures.reads_only in
    let areas = g.R.Shown.areas c.args.rig.now in
    let bytes = c.in_ok-bytes.bytes.items in
    let layouts = c.in-Some-of.layouts in
    let current = c.in-Some-current.current in
    let stored = sym (ap (λ now. get now c.args.dimm) read.areas) ∙ c.in_ok-bytes.ensures.whole (read.goes_on.tells ∙ told) in
    let len : length bytes ≡ c.in-Some.size = sym (ap length c.deref.ensures.value) ∙ c.deref.ensures.len ∙ c.in_ok-bytes.ensures.len in
    let found : geometry_of (length bytes) 256 ≡ Some layouts.own = ap (λ (n : ℕ). geometry_of n 256) len ∙ c.in-Some-of.ensures.sound.own in
    let kinds = c.of-kinds.ensures.kinds ∙ ap (λ (b : List ℕ). kinds_in layouts b) c.deref.ensures.value in
    let is : current_in layouts.own bytes ≡ Some current = sym (c.in-Some-current.ensures.current ∙ ap (λ k. current_by layouts.own (kind_among k)) kinds ∙ current_among layouts bytes) in
    let fits = subst (λ (n : ℕ). FitsIn n layouts.own) (sym len) c.in-Some-of.ensures.sound.own_fits in
    let loaded = c.in_ok-of.ensures.area ∙ ap (loaded_from c.args.dimm current) c.deref-2.ensures.value in
    subst (λ area. IsShown area areas) (sym loaded) (shown c.args.dimm current bytes areas layouts.own stored found fits c.in-Some-current.ensures.geometry is)

pub returns-in_err-of-clause-reads_only : goal.returns-in_err-of-clause-reads_only
returns-in_err-of-clause-reads_only g c = search (rules, reads_on)

pub returns-clause-reads_only : goal.returns-clause-reads_only
returns-clause-reads_only g c = search (rules, reads_on)
