use Rattle.std.proofs.Common.{refl}
use Rattle.label_sets.proofs.Viewed.{held-viewed}
use Rattle.label_sets.proofs.sets.Sets.view_of.Goals as goal

pub returns : goal.returns
returns c = record {
  dimm_is = refl;
  state_is = c.state_of.ensures;
  held_are = held-viewed c.self.inside c.args.self.now c.self.view_is c.deref.result.now c.deref-2.result.now c.deref.ensures.value c.deref-2.ensures.value c.args.loaded.now c.from_vec.result c.in_ok-held.held.items c.from_vec.ensures c.in_ok-held.ensures;
}
