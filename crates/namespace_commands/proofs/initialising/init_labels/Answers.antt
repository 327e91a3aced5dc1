use Rattle.std.proofs.Common.{◌≡◌, ℕ, List, Bool, true, false, sym, subst, ◌∙◌}
use Rattle.std.specs.Prelude.{◌==◌}
use Rattle.std.specs.List.{list_any}
use Rattle.namespace_commands.specs.Initialising.{IsInit}
use Rattle.namespace_commands.proofs.InitEnds.{found, init-is-done, unknown-done}
use Rattle.namespace_commands.proofs.initialising.init_labels.Goals as goal

-- what is found in a list that is another
there : {hs modules : List ℕ} (dimm : ℕ) (b : Bool) → hs ≡ modules → list_any (λ handle. handle == dimm) hs ≡ b → list_any (λ handle. handle == dimm) modules ≡ b
there dimm b same is = subst (λ (xs : List ℕ). list_any (λ handle. handle == dimm) xs ≡ b) same is

pub returns-then-not-contains : goal.returns-then-not-contains
returns-then-not-contains g c =
    unknown-done g.R.Shown c.args.platform.now c.args.sets.now c.requires.state c.args.dimm c.args.rig.now (there c.args.dimm false c.as_slice.ensures (sym c.contains.ensures.value ∙ c.if-not-contains.true))

pub init-requires-clause-known : goal.init-requires-clause-known
init-requires-clause-known g c = found c.args.platform.now c.args.sets.now c.requires.state c.args.dimm (there c.args.dimm true c.as_slice.ensures (sym c.contains.ensures.value ∙ c.if-not-contains.false))

pub returns : goal.returns
returns g c =
    subst (λ answer. IsInit g.R.Shown c.args.platform.now c.args.dimm c.args.sets.now c.args.rig.now c.init.new.self c.init.new.rig answer) (sym c.init_answer.ensures)
    (init-is-done g.R.Shown c.args.platform.now c.args.sets.now c.requires.state c.args.dimm (there c.args.dimm true c.as_slice.ensures (sym c.contains.ensures.value ∙ c.if-not-contains.false)) c.args.rig.now c.init.new.self c.init.new.rig c.init.result (record {
      slots = c.init.ensures.slots;
      uninit = c.init.ensures.uninit;
      state_is = c.init.ensures.state;
      kept = c.init.ensures.kept;
      regions = c.init.ensures.regions;
      dimms = c.init.ensures.dimms;
      sizes = c.init.ensures.sizes;
      not_uninit = c.init.ensures.not_uninit;
      refused = λ stand. c.init.ensures.refused stand.0 stand.1;
      stands = λ stand. c.init.ensures.stands stand.0 stand.1;
      any_moment = λ stand. c.init.ensures.any_moment stand.0 stand.1;
      bytes = c.init.ensures.area;
      area_left = c.init.ensures.area_left;
      unwritten = c.init.ensures.unwritten;
      writes_only = c.init.ensures.writes_only;
      reads_only = c.init.ensures.reads_only;
      cause = c.init.ensures.cause;
      names = c.init.ensures.names;
    }))
