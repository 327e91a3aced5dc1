-- A command has one step from a state.
use Rattle.std.proofs.Common.{◌≡◌, ◌⊎◌, inl, inr, ℕ, ◌≤◌, Bool, false, true, List, [], ◌∷◌, Option, Some, None, sym, ap, subst, ◌∙◌, arith}
use Rattle.view_types.specs.declared.extents.Extent.{Extent}
use Rattle.view_types.specs.Intervals.{IsFirstFit}
use Rattle.view_types.specs.declared.refusal.Refusal.{Refusal}
use Rattle.view_types.specs.declared.reply.Reply.{Reply}
use Rattle.view_types.specs.declared.reply.Reply.TheVariants.{Destroyed, Refused, Renamed}
use Rattle.view_types.specs.Replies.{is_change}
use Rattle.cmd_words.specs.declared.name_keys.NameKey.{NameKey}
use Rattle.label_codec.specs.ModuleLabels.{Labels}
use Rattle.region_map.specs.declared.platform.Platform.{Platform}
use Rattle.region_map.specs.declared.platform.Region.{Region}
use Rattle.region_map.specs.Platforms.{region_at}
use Rattle.label_table.specs.Belonging.{IsDisjoint}
use Rattle.label_table.specs.Division.{alignment, is_common_free, part_size}
use Rattle.label_table.specs.Statuses.{AreaNotReady, Clash, RegionReady, RegionStatus, Unusable, status}
use Rattle.label_table.specs.Spaces.{Space}
use Rattle.label_table.specs.Tables.{State, state}
use Rattle.label_table.proofs.ListTests.{some_is}
use Rattle.view_types.proofs.Maximal.{one_list}
use Rattle.cmd_words.specs.declared.parts.Change.{Change}
use Rattle.cmd_words.specs.declared.parts.Change.TheVariants.{Create, Destroy, InitLabels, ReleaseHeld, Rename}
use Rattle.table_steps.specs.declared.new_namespace.NewNamespace.{NewNamespace}
use Rattle.table_steps.specs.Changes.{IsDoneBy}
use Rattle.table_steps.specs.Create.{AreFreeOf, AreFreeWhere, Creates, CreatesIn, IsCreated, asked_by, create_refusals, created, part_length, with_made}
use Rattle.table_steps.specs.Destroy.{IsDestroyed, destroy_refusals, with_destroyed}
use Rattle.table_steps.specs.Initialise.{IsInitialised, initialise_refusals}
use Rattle.table_steps.specs.Namespaces.{fitting}
use Rattle.table_steps.specs.Refusals.{first_of}
use Rattle.table_steps.specs.Release.{IsReleased, release_refusals}
use Rattle.table_steps.specs.Rename.{IsRenamed, rename_refusals, with_renamed}
use Rattle.table_steps.specs.Steps.{Does, IsStep}
use Rattle.table_steps.proofs.SameSteps.{does-same}

-- two replies and two states are the same
abbrev AreSame : Reply → State → Reply → State → Type 0
AreSame reply after told now = (reply ≡ told) × (after ≡ now)

done-one : (accepted : Reply → State → Type 0) (before : State)
    → ((reply : Reply) (after : State) (told : Reply) (now : State) → accepted reply after → accepted told now → AreSame reply after told now)
    → (o : Option Refusal) (reply : Reply) (after : State) (told : Reply) (now : State) → IsDoneBy o before accepted reply after → IsDoneBy o before accepted told now → AreSame reply after told now
done-one accepted before one (Some refusal) reply after told now a b = (a.0 ∙ sym b.0, a.1 ∙ sym b.1)
done-one accepted before one None reply after told now a b = one reply after told now a b

first-one : (free : ℕ → Bool) (len align one other : ℕ) → IsFirstFit free len align one → IsFirstFit free len align other → one ≡ other
first-one free len align one other a b =
    let le : one ≤ other = a.least other b.multiple b.free_from in
    let ge : other ≤ one = b.least one a.multiple a.free_from in
    omega (arith, le, ge)

head_one : (s t : Space) → (s ∷ []) ≡ (t ∷ []) → s ≡ t
head_one s t e = cc

module _ (P : Platform) (L : Labels) where
  created-one : (a : NewNamespace) (reply : Reply) (after : State) (told : Reply) (now : State) → IsCreated P L a reply after → IsCreated P L a told now → AreSame reply after told now
  created-one a reply after told now c d =
      let regions : c.region ≡ d.region = some_is (sym c.found ∙ d.found) in
      let offsets : c.offset ≡ d.offset = first-one (is_common_free P L d.region) (part_length a d.region) alignment c.offset d.offset
      (subst (λ (q : Region). IsFirstFit (is_common_free P L q) (part_length a q) alignment c.offset) regions c.first) d.first in
      let states : after ≡ now = c.after_is ∙ (λ i. with_made a (regions i) (offsets i) (state P L)) ∙ sym d.after_is in
      (c.reply_is ∙ (λ i. created a (regions i) (offsets i) (states i)) ∙ sym d.reply_is, states)

  free-one : (o : Option Region) (one other : List Extent) → AreFreeOf P L o one → AreFreeOf P L o other → one ≡ other
  free-one None one other a b = a ∙ sym b
  free-one (Some q) one other a b = by (status L q) a b
    where
      by : (s : RegionStatus) → AreFreeWhere s P L q one → AreFreeWhere s P L q other → one ≡ other
      by RegionReady a b = one_list (part_size q) (is_common_free P L q) one other a b
      by (Unusable rule) a b = a ∙ sym b
      by (AreaNotReady m k) a b = a ∙ sym b
      by (Clash first second) a b = a ∙ sym b

  creates-one : (a : NewNamespace) (reply : Reply) (after : State) (told : Reply) (now : State) → Creates P L a reply after → Creates P L a told now → AreSame reply after told now
  creates-one a reply after told now c d =
      let frees : c.free ≡ d.free = free-one (region_at P a.region) c.free d.free c.free_are d.free_are in
      done-one (IsCreated P L a) (state P L) (created-one a) (first_of (create_refusals P L d.free a)) reply after told now
      (subst (λ (f : List Extent). CreatesIn P L f a reply after) frees c.is_done) d.is_done

  initialised-one : (dimm slots : ℕ) (reply : Reply) (after : State) (told : Reply) (now : State) → IsInitialised P L dimm slots reply after → IsInitialised P L dimm slots told now → AreSame reply after told now
  initialised-one dimm slots reply after told now a b = (a.0 ∙ sym b.0, a.1 ∙ sym b.1)

  module _ (index : ℕ) (key : NameKey) where
    only_one : (q r : Region) (s t : Space) → q ≡ r → fitting L q key ≡ s ∷ [] → fitting L r key ≡ t ∷ [] → s ≡ t
    only_one q r s t same a b = head_one s t (sym a ∙ ap (λ p. fitting L p key) same ∙ b)

    destroyed-one : (reply : Reply) (after : State) (told : Reply) (now : State) → IsDestroyed P L index key reply after → IsDestroyed P L index key told now → AreSame reply after told now
    destroyed-one reply after told now c d =
        let regions : c.region ≡ d.region = some_is (sym c.found ∙ d.found) in
        let spaces : c.space ≡ d.space = only_one c.region d.region c.space d.space regions c.only d.only in
        (c.reply_is ∙ (λ i. Destroyed (spaces i).uuid) ∙ sym d.reply_is, c.after_is ∙ (λ i. with_destroyed (regions i) (spaces i).uuid (state P L)) ∙ sym d.after_is)

    renamed-one : (name : List ℕ) (reply : Reply) (after : State) (told : Reply) (now : State) → IsRenamed P L index key name reply after → IsRenamed P L index key name told now → AreSame reply after told now
    renamed-one name reply after told now c d =
        let regions : c.region ≡ d.region = some_is (sym c.found ∙ d.found) in
        let spaces : c.space ≡ d.space = only_one c.region d.region c.space d.space regions c.only d.only in
        (c.reply_is ∙ (λ i. Renamed (spaces i).uuid name) ∙ sym d.reply_is, c.after_is ∙ (λ i. with_renamed (regions i) name (spaces i) (state P L)) ∙ sym d.after_is)

  released-one : (dimm : ℕ) (u : List ℕ) (reply : Reply) (after : State) (told : Reply) (now : State) → IsReleased P L dimm u reply after → IsReleased P L dimm u told now → AreSame reply after told now
  released-one dimm u reply after told now c d = (c.reply_is ∙ sym d.reply_is, c.after_is ∙ sym d.after_is)

  pub does-one : (slots : ℕ → ℕ) (change : Change) (own : List ℕ) (reply : Reply) (after : State) (told : Reply) (now : State)
      → Does P slots L change own reply after → Does P slots L change own told now → AreSame reply after told now
  does-one slots (InitLabels dimm) own reply after told now a b =
      done-one (IsInitialised P L dimm (slots dimm)) (state P L) (initialised-one dimm (slots dimm)) (first_of (initialise_refusals P L dimm)) reply after told now a b
  does-one slots (Create region size name abstraction sector uuid) own reply after told now a b = creates-one (asked_by region size name abstraction sector uuid own) reply after told now a b
  does-one slots (Destroy region key) own reply after told now a b =
      done-one (IsDestroyed P L region key) (state P L) (destroyed-one region key) (first_of (destroy_refusals P L region key)) reply after told now a b
  does-one slots (Rename region key name) own reply after told now a b =
      done-one (IsRenamed P L region key name) (state P L) (renamed-one region key name) (first_of (rename_refusals P L region key name)) reply after told now a b
  does-one slots (ReleaseHeld dimm uuid) own reply after told now a b =
      done-one (IsReleased P L dimm uuid) (state P L) (released-one dimm uuid) (first_of (release_refusals P L dimm uuid)) reply after told now a b

  -- the reply is that to a change, or a refusal, and then nothing changes
  abbrev pub IsDoneOrRefused : Reply → State → Type 0
  IsDoneOrRefused reply after = (is_change reply ≡ true) ⊎ ((refusal : Refusal) × (reply ≡ Refused refusal) × (after ≡ state P L))

  done-or : (accepted : Reply → State → Type 0) → ((reply : Reply) (after : State) → accepted reply after → is_change reply ≡ true)
      → (o : Option Refusal) (reply : Reply) (after : State) → IsDoneBy o (state P L) accepted reply after → IsDoneOrRefused reply after
  done-or accepted changes (Some refusal) reply after is = inr (refusal, is.0, is.1)
  done-or accepted changes None reply after is = inl (changes reply after is)

  pub does-or : (slots : ℕ → ℕ) (change : Change) (own : List ℕ) (reply : Reply) (after : State) → Does P slots L change own reply after → IsDoneOrRefused reply after
  does-or slots (InitLabels dimm) own reply after does = done-or (IsInitialised P L dimm (slots dimm)) (λ r now is. ap is_change is.0) (first_of (initialise_refusals P L dimm)) reply after does
  does-or slots (Create region size name abstraction sector uuid) own reply after does =
      done-or (IsCreated P L a) (λ r now is. ap is_change is.reply_is) (first_of (create_refusals P L does.free a)) reply after does.is_done
    where
      a : NewNamespace
      a = asked_by region size name abstraction sector uuid own
  does-or slots (Destroy region key) own reply after does = done-or (IsDestroyed P L region key) (λ r now is. ap is_change is.reply_is) (first_of (destroy_refusals P L region key)) reply after does
  does-or slots (Rename region key name) own reply after does = done-or (IsRenamed P L region key name) (λ r now is. ap is_change is.reply_is) (first_of (rename_refusals P L region key name)) reply after does
  does-or slots (ReleaseHeld dimm uuid) own reply after does = done-or (IsReleased P L dimm uuid) (λ r now is. ap is_change is.reply_is) (first_of (release_refusals P L dimm uuid)) reply after does

  -- what is refused changes nothing
  refused-same : (refusal : Refusal) (after : State) → IsDoneOrRefused (Refused refusal) after → after ≡ state P L
  refused-same refusal after (inl change) = absurd (let differ : false ≡ true = change in cc)
  refused-same refusal after (inr (r, is, same)) = same

pub step-one : (P : Platform) → IsDisjoint P → (slots : ℕ → ℕ) (before : State) (change : Change) (own : List ℕ) (reply : Reply) (after : State) (told : Reply) (now : State)
    → IsStep P slots before change own reply after → IsStep P slots before change own told now → AreSame reply after told now
step-one P disjoint slots before change own reply after told now a b =
    does-one P a.labels slots change own reply after told now a.does
    (does-same P disjoint b.labels a.labels (a.stands ∙ sym b.stands) slots change own told now b.does)

pub step-refused : (P : Platform) (slots : ℕ → ℕ) (before : State) (change : Change) (own : List ℕ) (refusal : Refusal) (after : State) → IsStep P slots before change own (Refused refusal) after → after ≡ before
step-refused P slots before change own refusal after a = refused-same P a.labels refusal after (does-or P a.labels slots change own (Refused refusal) after a.does) ∙ a.stands
