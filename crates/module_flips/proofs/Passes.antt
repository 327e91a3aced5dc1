-- Passes, one behind the other, are one pass.
use Rattle.std.proofs.Common.{◌≡◌, ◌≢◌, ℕ, ◌<◌, Bool, true, false, List, [], ◌∷◌, length, get_or, map, Result, Ok, Err, refl, sym, ap, subst, ◌∙◌, eq-eqb, arith}
use Rattle.std.specs.Prelude.{◌==◌, ◌||◌, IfErr, OnOk}
use Rattle.std.specs.List.{All}
use Rattle.std.specs.FinMap.{get as get_in}
use Rattle.std.specs.Result.{is_err}
use Rattle.std.proofs.lemmas.List.{get_or-map, length-map}
use Rattle.rig_trait.specs.declared.shown.Shown.{Ghosts}
use Rattle.rig_trait.specs.Areas.{OthersKept}
use Rattle.rig_trait.specs.Areas as areas
use Rattle.rig_trait.specs.Faults.{counted}
use Rattle.rig_trait.specs.Frames.{FailsAt, IsTold, LeavesOnly, WritesTo}
use Rattle.rig_trait.proofs.Frames.{goes_on}
use Rattle.rig_trait.proofs.Moments.{joined, started, weakened}
use Rattle.label_area.specs.Flips.{is_among}
use Rattle.label_codec.specs.ModuleLabels.{Labels}
use Rattle.region_labels.specs.declared.modules.LoadedModule.{LoadedModule}
use Rattle.region_labels.specs.Modules.{dimm_of, labels_in, size_in}
use Rattle.module_flips.specs.declared.flips.AreaFailed.{AreaFailed}
use Rattle.module_flips.specs.Passes.{AreSized, IsPass, Kept, LeftByPass}
use Rattle.module_flips.specs.Stops.{HasAreaCause, LeftIn, WritesAmong}
use Rattle.module_flips.specs.Stored.{StandsIn, stored_labels}
use Rattle.module_flips.proofs.Standing.{stands}
use Rattle.module_flips.proofs.Turned.{is-one, only-one, other-than}

-- the same values place by place, of equal lists of them
pub at-place : {X Y : Type 0} (f : X → Y) (xs ys : List X) → map f ys ≡ map f xs → (k : ℕ) (d : X) → k < length ys → f (get_or ys k d) ≡ f (get_or xs k d)
at-place f xs ys same k d lt =
    let each : length ys ≡ length xs = sym (length-map ys f) ∙ ap length same ∙ length-map xs f in
    sym (get_or-map f ys k d (f d) lt) ∙ ap (λ zs. get_or zs k (f d)) same ∙ get_or-map f xs k d (f d) (subst (λ n. k < n) each lt)

pub each-length : {X Y : Type 0} (f : X → Y) (xs ys : List X) → map f ys ≡ map f xs → length ys ≡ length xs
each-length f xs ys same = sym (length-map ys f) ∙ ap length same ∙ length-map xs f

cause-wider : {R T : Type 0} (m : Ghosts R) (hs more : List ℕ) (old new : R) (result : Result T AreaFailed) → ((dimm : ℕ) → is_among hs dimm ≡ true → is_among more dimm ≡ true) → HasAreaCause hs m old new result → HasAreaCause more m old new result
cause-wider m hs more old new (Ok value) among cause = cause
cause-wider m hs more old new (Err failed) among cause = record { fails = cause.fails; known = among failed.dimm cause.known }

cause-on : {R T : Type 0} (m : Ghosts R) (hs : List ℕ) (old mid new : R) (result : Result T AreaFailed) → FailsAt 0 m old mid false → HasAreaCause hs m mid new result → HasAreaCause hs m old new result
cause-on m hs old mid new (Ok last) first second = record { faults = second.faults ∙ first.faults; failed_dimm = second.failed_dimm ∙ first.failed_dimm }
cause-on m hs old mid new (Err failed) first second = record {
  fails = record { faults = second.fails.faults ∙ ap (counted true) first.faults; failed_dimm = second.fails.failed_dimm };
  known = second.known;
}

module _ {R : Type 0} {m : Ghosts R} where
  -- what a stop leaves of the labels alone
  pub in-left : {old new : R} {hs dimms said : List ℕ} {stored : areas.Areas} {fits : Labels → Type 0} → LeavesOnly m old new (LeftByPass hs dimms said stored fits) → LeavesOnly m old new (LeftIn dimms said fits)
  in-left {old} {new} {hs} {dimms} {said} {stored} {fits} left = weakened (LeftByPass hs dimms said stored fits) (LeftIn dimms said fits) (λ c is. is.left) left

  -- what fits in these words fits in others
  pub pass-as : {T : Type 0} {old new : R} {hs : List ℕ} {before after : Kept} {fits others : Labels → Type 0} {result : Result T AreaFailed} → ((labels : Labels) → fits labels → others labels)
      → IsPass hs fits m before old after new result → IsPass hs others m before old after new result
  pass-as {T} {old} {new} {hs} {before} {after} {fits} {others} follows pass = record {
    regions = pass.regions;
    dimms = pass.dimms;
    sizes = pass.sizes;
    labels = follows _ pass.labels;
    stands = pass.stands;
    any_moment = λ told all. weakened (LeftByPass hs (map dimm_of before.modules) (m.said old) (m.areas old) fits) (LeftByPass hs (map dimm_of before.modules) (m.said old) (m.areas old) others)
        (λ c is. record { left = record { said_is = is.left.said_is; labels = λ fair. follows _ (is.left.labels fair) }; others = is.others }) (pass.any_moment told all);
    writes = pass.writes;
    cause = pass.cause;
    reads = pass.reads;
  }

  -- more modules may be written
  pub pass-among : {T : Type 0} {old new : R} {hs : List ℕ} {before after : Kept} {fits : Labels → Type 0} {result : Result T AreaFailed} (more : List ℕ) → ((dimm : ℕ) → is_among hs dimm ≡ true → is_among more dimm ≡ true)
      → IsPass hs fits m before old after new result → IsPass more fits m before old after new result
  pass-among {T} {old} {new} {hs} {before} {after} {fits} {result} more among pass = record {
    regions = pass.regions;
    dimms = pass.dimms;
    sizes = pass.sizes;
    labels = pass.labels;
    stands = pass.stands;
    any_moment = λ told all. weakened (LeftByPass hs (map dimm_of before.modules) (m.said old) (m.areas old) fits) (LeftByPass more (map dimm_of before.modules) (m.said old) (m.areas old) fits)
        (λ c is. record { left = is.left; others = λ dimm other. is.others dimm (neither dimm other) }) (pass.any_moment told all);
    writes = record { others = λ told dimm other. pass.writes.others told dimm (neither dimm other); says = pass.writes.says };
    cause = cause-wider m hs more old new result among pass.cause;
    reads = pass.reads;
  }
    where
      neither : (dimm : ℕ) → is_among more dimm ≡ false → is_among hs dimm ≡ false
      neither dimm other = by (is_among hs dimm) refl
        where
          by : (b : Bool) → is_among hs dimm ≡ b → is_among hs dimm ≡ false
          by true e = absurd (apart (sym (among dimm e) ∙ other))
            where
              apart : true ≡ false → ⊥
              apart f = cc
          by false e = e

  -- the module is one of them
  pub pass-within : {T : Type 0} {old new : R} {dimm : ℕ} {before after : Kept} {fits : Labels → Type 0} {result : Result T AreaFailed} (more : List ℕ) → is_among more dimm ≡ true
      → IsPass (dimm ∷ []) fits m before old after new result → IsPass more fits m before old after new result
  pass-within {T} {old} {new} {dimm} more known pass = pass-among more (λ h among. ap (is_among more) (only-one dimm h among) ∙ known) pass

  -- without a flip
  pub no-pass : {T : Type 0} (hs : List ℕ) (fits : Labels → Type 0) (kept : Kept) (rig : R) (value : T) → fits (labels_in kept.modules) → IsPass hs fits m kept rig kept rig (Ok value)
  no-pass hs fits kept rig value fit = record {
    regions = refl;
    dimms = refl;
    sizes = refl;
    labels = fit;
    stands = λ told all. all;
    any_moment = λ told all. started {m = m} rig (LeftByPass hs (map dimm_of kept.modules) (m.said rig) (m.areas rig) fits) (λ c left.
        let is = m.now_is rig c left in
        record {
          left = record {
            said_is = is.1;
            labels = λ fair. subst fits (stands kept.modules (m.areas rig) all ∙ sym (ap (stored_labels (map dimm_of kept.modules)) is.0)) fit;
          };
          others = λ dimm other. ap (λ (stored : areas.Areas). get_in stored dimm) is.0;
        });
    writes = record {
      others = λ told dimm other. refl;
      says = record {
        said = refl;
        say_faults = refl;
        goes_on = record { tells = refl; tells_records = λ told. told; sizes = λ told q. refl; faults = omega arith; say_faults = omega arith; reads = omega arith };
      };
    };
    cause = record { faults = refl; failed_dimm = refl };
    reads = refl;
  }

  -- the rig still has areas of the sizes that the modules show
  pub sized-on : {T : Type 0} {old new : R} {hs : List ℕ} {before after : Kept} {fits : Labels → Type 0} {result : Result T AreaFailed} → IsPass hs fits m before old after new result → AreSized m old before.modules → AreSized m new after.modules
  sized-on {T} {old} {new} {hs} {before} {after} pass sized told k d lt =
      let told_old : IsTold m old = sym pass.writes.says.goes_on.tells ∙ told in
      pass.writes.says.goes_on.sizes told_old (get_or after.modules k d).dimm
      ∙ ap (areas.size_in (m.areas old)) (at-place dimm_of before.modules after.modules pass.dimms k d lt)
      ∙ sized told_old k d (subst (λ n. k < n) (each-length dimm_of before.modules after.modules pass.dimms) lt)
      ∙ sym (at-place size_in before.modules after.modules pass.sizes k d lt)

  -- A pass that ended well, and one behind it, what fits which fits the two.
  pub pass-on : {S T : Type 0} {old mid new : R} {hs : List ℕ} {before between after : Kept} {fits next : Labels → Type 0} {value : S} {result : Result T AreaFailed}
      → IsPass hs fits m before old between mid (Ok value) → ((labels : Labels) → next labels → fits labels) → IsPass hs next m between mid after new result → IsPass hs fits m before old after new result
  pass-on {S} {T} {old} {mid} {new} {hs} {before} {between} {after} {fits} {next} {value} {result} first follows second = record {
    regions = second.regions ∙ first.regions;
    dimms = second.dimms ∙ first.dimms;
    sizes = second.sizes ∙ first.sizes;
    labels = follows _ second.labels;
    stands = λ told all. second.stands (first.writes.says.goes_on.tells ∙ told) (first.stands told all);
    any_moment = λ told all. joined (first.any_moment told all) (behind told all);
    writes = record {
      others = λ told dimm other. second.writes.others (first.writes.says.goes_on.tells ∙ told) dimm other ∙ first.writes.others told dimm other;
      says = record {
        said = second.writes.says.said ∙ first.writes.says.said;
        say_faults = second.writes.says.say_faults ∙ first.writes.says.say_faults;
        goes_on = goes_on first.writes.says.goes_on second.writes.says.goes_on;
      };
    };
    cause = cause-on m hs old mid new result first.cause second.cause;
    reads = second.reads ∙ first.reads;
  }
    where
      behind : IsTold m old → All (StandsIn (m.areas old)) before.modules → LeavesOnly m mid new (LeftByPass hs (map dimm_of before.modules) (m.said old) (m.areas old) fits)
      behind told all = weakened (LeftByPass hs (map dimm_of between.modules) (m.said mid) (m.areas mid) next) (LeftByPass hs (map dimm_of before.modules) (m.said old) (m.areas old) fits)
          (λ c is. record {
            left = record {
              said_is = is.left.said_is ∙ first.writes.says.said;
              labels = λ fair. subst (λ dimms. fits (stored_labels dimms c.areas)) first.dimms (follows _ (is.left.labels fair));
            };
            others = λ dimm other. is.others dimm other ∙ first.writes.others told dimm other;
          }) (second.any_moment (first.writes.says.goes_on.tells ∙ told) (first.stands told all))

  -- what a flip of one module writes, and its cause
  pub writes-one : (dimm : ℕ) (old new : R) → WritesTo dimm m old new → WritesAmong (dimm ∷ []) m old new
  writes-one dimm old new writes = record {
    others = λ told handle other. writes.others told handle (other-than dimm handle other);
    says = record { said = writes.said; say_faults = writes.say_faults; goes_on = writes.goes_on };
  }

  pub cause-one : {T : Type 0} (dimm : ℕ) (old new : R) (result : Result T AreaFailed) → FailsAt dimm m old new (is_err result) → IfErr result (λ failed. failed.dimm ≡ dimm) → HasAreaCause (dimm ∷ []) m old new result
  cause-one dimm old new (Ok value) fails named = record { faults = fails.faults; failed_dimm = fails.failed_dimm }
  cause-one dimm old new (Err failed) fails named = record {
    fails = subst (λ d. FailsAt d m old new true) (sym named) fails;
    known = is-one failed.dimm dimm named;
  }

  -- the pass with another answer
  pub still-ended : {S T : Type 0} {old new : R} {hs : List ℕ} {before after : Kept} {fits : Labels → Type 0} {value : S} {other : T} → IsPass hs fits m before old after new (Ok value) → IsPass hs fits m before old after new (Ok other)
  still-ended pass = record {
    regions = pass.regions;
    dimms = pass.dimms;
    sizes = pass.sizes;
    labels = pass.labels;
    stands = pass.stands;
    any_moment = pass.any_moment;
    writes = pass.writes;
    cause = pass.cause;
    reads = pass.reads;
  }

  pub still-failed : {S T : Type 0} {old new : R} {hs : List ℕ} {before after : Kept} {fits : Labels → Type 0} {failed : AreaFailed} → IsPass {T = S} hs fits m before old after new (Err failed) → IsPass {T = T} hs fits m before old after new (Err failed)
  still-failed pass = record {
    regions = pass.regions;
    dimms = pass.dimms;
    sizes = pass.sizes;
    labels = pass.labels;
    stands = pass.stands;
    any_moment = pass.any_moment;
    writes = pass.writes;
    cause = pass.cause;
    reads = pass.reads;
  }
