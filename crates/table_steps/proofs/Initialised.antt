-- What an initialised area makes of the table.
use Rattle.std.proofs.Common.{◌≡◌, ℕ, ◌+◌, true, false, cond, Bool, ◌&&◌, List, None, refl, ap, ◌∙◌, arith}
use Rattle.std.specs.Prelude.{◌==◌}
use Rattle.label_codec.specs.declared.label.Label.{Label}
use Rattle.label_codec.specs.declared.kind.AreaKind.{AreaKind}
use Rattle.label_codec.specs.declared.kind.AreaKind.TheVariants.{Ready}
use Rattle.label_codec.specs.ModuleLabels.{IsBounded, Labels, one}
use Rattle.label_codec.proofs.Counting.{count-none}
use Rattle.view_types.specs.declared.reply.Reply.{Reply}
use Rattle.region_map.specs.declared.platform.Platform.{Platform}
use Rattle.label_table.specs.Belonging.{IsDisjoint}
use Rattle.label_table.specs.Fates.{is_held, spare, without_slot}
use Rattle.label_table.specs.Settling as settling
use Rattle.label_table.specs.Settling.{settled, vanishes, with_ready_area}
use Rattle.label_table.specs.Spaces.{is_pending}
use Rattle.label_table.specs.Tables.{State, Table, pending_at, state, table}
use Rattle.label_table.proofs.Equations.{by_index-same}
use Rattle.label_table.proofs.Initialising.{init-pending, init-table}
use Rattle.label_table.proofs.ListTests.{eq_same}
use Rattle.table_steps.specs.Initialise.{IsInitialised, initialised}

module _ (P : Platform) (L : Labels) (dimm slots : ℕ) (reply : Reply) (after : State) (is : IsInitialised P L dimm slots reply after) where
  here : (dimm == dimm) ≡ true
  here = eq_same dimm dimm refl

  pub ready : after.table.kind dimm ≡ Ready
  ready = ap (λ (s : State). s.table.kind dimm) is.1 ∙ (λ i. cond {A = AreaKind} (here i) Ready (L dimm).kind)

  pub all_spare : ((k : ℕ) → (L dimm).at k ≡ None) → after.table.spare dimm ≡ slots
  all_spare none =
      let T : Table = with_ready_area dimm slots (table P L) in
      let gone : Label → Bool = vanishes P T dimm in
      let no_held : T.held dimm gone ≡ 0 = count-none (λ l. is_held P L dimm l && gone (without_slot l)) (L dimm).at (L dimm).slots
      (λ k lt. ap (one (λ l. is_held P L dimm l && gone (without_slot l))) (none k)) in
      ap (λ (s : State). s.table.spare dimm) is.1 ∙ (λ i. cond (here i) slots (spare P L dimm) + no_held i) ∙ omega arith

pub stands : (P : Platform) → IsDisjoint P → (L M : Labels) → IsBounded L → (dimm slots : ℕ) → settling.IsInitialised dimm slots L M → state P M ≡ initialised P dimm slots (state P L)
stands P disjoint L M bounded dimm slots init =
    let tables : table P M ≡ settled P (with_ready_area dimm slots (table P L)) = init-table P disjoint L M bounded dimm slots init in
    let marks : (i : ℕ) (v : List ℕ) → pending_at P M i v ≡ pending_at P L i v =
    by_index-same P false (is_pending M) (is_pending L) (λ r u in_P. init-pending P disjoint L M bounded dimm slots init r u) in
    λ i. record { table = tables i; pending = λ n v. marks n v i }
