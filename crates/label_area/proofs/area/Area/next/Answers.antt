use Rattle.std.proofs.Common.{ℕ, ap, ◌∙◌, subst, rules}
use Rattle.std.specs.Prelude.{IsTrue}
use Rattle.index_block.specs.Current.{is_followed_by}
use Rattle.index_block.specs.Geometry.{other_place}
use Rattle.label_area.specs.LoadedAreas.{IsSound, LoadedArea}
use Rattle.label_area.proofs.Sound.{sound}
use Rattle.label_area.proofs.area.Area.next.Goals as goal

pub returns-clause-next : goal.returns-clause-next
returns-clause-next c =
    let is = c.self.view_is in
    record {
      place_is = c.other-place.ensures ∙ ap (λ (x : LoadedArea). other_place x.place) is;
      numbered = c.next_seq-seq.ensures.numbered;
      follows = subst (λ (s : ℕ). IsTrue (is_followed_by s c.next_seq-seq.result)) (ap (λ (x : LoadedArea). x.seq) is) c.next_seq-seq.ensures.follows;
      bits = search rules;
    }

pub returns-clause-sound : goal.returns-clause-sound
returns-clause-sound c = subst IsSound c.self.view_is (sound c.self.inside c.self.invariant)
