use Rattle.std.proofs.Common.{ap, get_or, subst, sym, ◌∙◌}
use Rattle.std.specs.List.{All}
use Rattle.std.specs.List.Sorted.{IsStrictlyIncreasing}
use Rattle.rig_trait.specs.Areas.{Areas}
use Rattle.module_flips.specs.Flips.{IsSizedIn}
use Rattle.module_flips.specs.Stored.{StandsIn, stored_labels}
use Rattle.label_sets.specs.Sets.{StoredSets, labels_in}
use Rattle.module_flips.proofs.Stored.{stands-sized}
use Rattle.label_sets.proofs.Platforms.{each-once, regions-disjoint}
use Rattle.module_flips.proofs.Standing.{stands}
use Rattle.label_sets.proofs.read.read_state.Goals as goal

pub returns-clause-stands : goal.returns-clause-stands
returns-clause-stands g c = λ told.
    let areas : Areas = g.R.Shown.areas c.args.rig.now in
    ap labels_in c.of.ensures ∙ stands c.in_ok-modules.modules.items areas (c.in_ok-modules.ensures.stands told)
    ∙ ap (λ hs. stored_labels hs areas) (c.in_ok-modules.ensures.handles ∙ c.as_slice.ensures)

pub of-requires-clause-once : goal.of-requires-clause-once
of-requires-clause-once g c =
    each-once c.in_ok-modules.modules.items
    (subst IsStrictlyIncreasing (sym (c.in_ok-modules.ensures.handles ∙ c.as_slice.ensures)) c.requires.platform_of.modules.order)

pub of-requires-clause-disjoint : goal.of-requires-clause-disjoint
of-requires-clause-disjoint g c = regions-disjoint c.args.platform.now _ c.requires c.in_ok-regions.ensures.regions

pub returns-clause-sized : goal.returns-clause-sized
returns-clause-sized g c = λ told.
    let items = c.in_ok-modules.modules.items in
    let old : Areas = g.R.Shown.areas c.args.rig.now in
    let stand : All (StandsIn old) items = c.in_ok-modules.ensures.stands told in
    subst (λ (s : StoredSets). All (IsSizedIn (g.R.Shown.areas c.load_modules.new.rig)) s.modules) (sym c.of.ensures)
    (λ k d lt. subst (λ (now : Areas). IsSizedIn now (get_or items k d)) (sym c.load_modules.ensures.reads_only.areas) (stands-sized old (get_or items k d) (stand k d lt)))
