use Rattle.std.proofs.Common.{◌≡◌, ℕ, ◌<◌, true, List, get_or, length, subst, sym, ap}
use Rattle.label_codec.specs.ModuleLabels.{is_ready}
use Rattle.label_area.specs.Flips.{is_among}
use Rattle.region_map.specs.declared.platform.Member.{Member}
use Rattle.region_map.specs.declared.platform.Region.{Region}
use Rattle.region_labels.specs.Regions.{handles}
use Rattle.label_table.specs.Belonging.{no_member}
use Rattle.label_table.specs.Tables.{State}
use Rattle.module_flips.proofs.Passes.{pass-as, pass-within}
use Rattle.label_sets.specs.Sets.{labels_in}
use Rattle.recovery.proofs.Swept.{member-known, member-ready}
use Rattle.recovery.proofs.sweeps.sweep_member.Goals as goal

-- the handle that is read is that of the member
there : (members listed : List Member) (position : ℕ) → listed ≡ members → (get_or listed position no_member).handle ≡ (get_or members position no_member).handle
there members listed position same = ap (λ (ms : List Member). (get_or ms position no_member).handle) same

known-there : (r : Region) (listed : List Member) (position : ℕ) → listed ≡ r.members → position < length r.members → is_among (handles r) (get_or listed position no_member).handle ≡ true
known-there r listed position same lt = subst (λ h. is_among (handles r) h ≡ true) (sym (there r.members listed position same)) (member-known r position lt)

pub sweep-requires-clause-ready : goal.sweep-requires-clause-ready
sweep-requires-clause-ready g c =
    subst (λ h. is_ready (labels_in c.args.sets.now h).kind ≡ true) (sym (there c.args.found.now.members c.as_slice.result.now c.args.position c.as_slice.ensures))
    (member-ready (labels_in c.args.sets.now) c.args.found.now c.args.position c.requires.ready c.requires.within)

pub returns-clause-pass : goal.returns-clause-pass
returns-clause-pass g c =
    pass-within (handles c.args.found.now) (known-there c.args.found.now c.as_slice.result.now c.args.position c.as_slice.ensures c.requires.within)
    (pass-as (λ labels same. ap (λ (t : State). t.table) same) c.sweep.ensures.pass)
