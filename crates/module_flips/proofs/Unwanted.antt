-- The slots that a sweep frees leave out dead labels alone, and none of these is left.
use Rattle.std.proofs.Common.{◌≡◌, ◌⊎◌, inl, inr, ℕ, ◌≤◌, Bool, true, false, cond, Option, Some, None, refl, sym, ap, subst, ◌∙◌}
use Rattle.std.specs.Option.{option_map_or}
use Rattle.std.proofs.lemmas.Bool.{cases_eq}
use Rattle.label_codec.specs.declared.label.Label.{Label}
use Rattle.label_codec.specs.ModuleLabels.{IsBounded, Labels, Module}
use Rattle.region_map.specs.declared.platform.Platform.{Platform}
use Rattle.label_table.specs.Belonging.{IsDisjoint}
use Rattle.label_table.specs.Fates.{is_dead}
use Rattle.label_table.specs.Flips.{LeavesOut, LeavesOutDead, LosesDead}
use Rattle.label_table.specs.Tables.{state}
use Rattle.label_table.proofs.Leaving.{dead-kept}
use Rattle.label_table.proofs.Staging.{left-state}
use Rattle.module_flips.proofs.Freeing.{at-there, rest, rest-elsewhere, same-part}

-- Some slots of one module are freed: those that have no label, or a dead one.
module _ (P : Platform) (L : Labels) (dimm : ℕ) (freed : ℕ → Bool) (unwanted : (k : ℕ) → freed k ≡ true → option_map_or (is_dead P L dimm) ((L dimm).at k) true ≡ true) where
  abbrev pub left : Labels
  left = rest L dimm freed

  out-there : (slot : ℕ) → ((left dimm).at slot ≡ (L dimm).at slot) ⊎ LosesDead P L left dimm slot
  out-there slot = by (freed slot) refl ((L dimm).at slot) refl
    where
      by : (b : Bool) → freed slot ≡ b → (o : Option Label) → (L dimm).at slot ≡ o → ((left dimm).at slot ≡ (L dimm).at slot) ⊎ LosesDead P L left dimm slot
      by false e o was = inl (at-there L dimm freed slot ∙ ap (λ b. cond b None ((L dimm).at slot)) e)
      by true e None was = inl (at-there L dimm freed slot ∙ ap (λ b. cond b None ((L dimm).at slot)) e ∙ sym was)
      by true e (Some label) was = inr (record {
        label = label;
        was = was;
        dead = sym (ap (λ o. option_map_or (is_dead P L dimm) o true) was) ∙ unwanted slot e;
        gone = at-there L dimm freed slot ∙ ap (λ b. cond b None ((L dimm).at slot)) e;
      })

  pub leaves-out : LeavesOut P L left
  leaves-out = record {
    kind = same-part L dimm freed (λ m. m.kind) refl;
    slots = same-part L dimm freed (λ m. m.slots) refl;
    each = λ handle slot. elim (cases_eq handle dimm) [
      | inl e ↦ subst (λ h. ((left h).at slot ≡ (L h).at slot) ⊎ LosesDead P L left h slot) (sym e) (out-there slot)
      | inr differ ↦ inl (ap (λ (m : Module). m.at slot) (rest-elsewhere L dimm freed handle differ))
    ];
  }

  module _ (disjoint : IsDisjoint P) (bounded : IsBounded L) where
    pub leaves-dead : LeavesOutDead P L left
    leaves-dead = record { disjoint = disjoint; bounded = bounded; leaves = leaves-out }

    -- the state is kept
    pub state-kept : state P left ≡ state P L
    state-kept = left-state P L left leaves-dead

    pub dead-as-before : (handle : ℕ) (label : Label) → is_dead P left handle label ≡ is_dead P L handle label
    dead-as-before handle label = dead-kept P L left leaves-dead handle label

    pub bounded-left : IsBounded left
    bounded-left = record {
      past = λ handle slot le.
          let none : (L handle).at slot ≡ None = bounded.past handle slot (subst (λ n. n ≤ slot) (leaves-out.slots handle) le) in
          elim (leaves-out.each handle slot) [
            | inl same ↦ same ∙ none
            | inr lost ↦ lost.gone
          ];
    }
