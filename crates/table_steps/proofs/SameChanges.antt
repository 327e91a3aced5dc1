-- Labels that stand for one state have the same refusals and the same step of a destroy, a rename and a release.
use Rattle.std.proofs.Common.{◌≡◌, ℕ, not, ◌&&◌, List, [], ◌∷◌, Option, Some, None, filter, find, refl, sym, ap, subst, ◌∙◌}
use Rattle.std.specs.Prelude.{◌==◌, if◌then◌else◌, nat_lt, option_map}
use Rattle.std.specs.List.{Contains, list_all}
use Rattle.std.specs.Option.{option_and_then}
use Rattle.view_types.specs.declared.refusal.Refusal.{Refusal}
use Rattle.view_types.specs.declared.refusal.Refusal.TheVariants.{NameInUse, NotHeld, ReadOnly}
use Rattle.view_types.specs.declared.reply.Reply.{Reply}
use Rattle.view_types.specs.declared.reply.Reply.TheVariants.{Released}
use Rattle.cmd_words.specs.declared.name_keys.NameKey.{NameKey}
use Rattle.label_codec.specs.ModuleLabels.{Labels, has, is_ready}
use Rattle.region_map.specs.declared.platform.Member.{Member}
use Rattle.region_map.specs.declared.platform.Platform.{Platform}
use Rattle.region_map.specs.declared.platform.Region.{Region}
use Rattle.region_map.specs.Platforms.{region_at}
use Rattle.label_table.specs.Belonging.{IsDisjoint, belongs}
use Rattle.label_table.specs.Spaces.{Space}
use Rattle.label_table.specs.Statuses.{status}
use Rattle.label_table.specs.Tables.{State, state}
use Rattle.label_table.proofs.ListTests.{find-some}
use Rattle.table_steps.specs.Changes.{IsDoneBy}
use Rattle.table_steps.specs.Create.{is_unnamed}
use Rattle.table_steps.specs.Destroy.{Destroys, IsDestroyed, destroy_refusals, with_destroyed}
use Rattle.table_steps.specs.Namespaces.{ambiguous_among, ambiguous_in, fits, fitting, read_only_among, read_only_in, unknown_among, unknown_in}
use Rattle.table_steps.specs.Refusals.{area_by, by_region, first_of, not_ready_by, refused_if, unknown_dimm, unknown_region, unusable}
use Rattle.table_steps.specs.Release.{IsReleased, Releases, is_fixed, lacks_area, region_lacks_area, release_refusals, released}
use Rattle.table_steps.specs.Rename.{IsRenamed, Renames, is_other_named, name_taken_beside, name_taken_in, rename_refusals, with_renamed}
use Rattle.table_steps.proofs.SameRegions.{by_region-same, lists, not_ready-same, slots-same, statuses, unhealed-same}

-- What is refused by the same refusal from one state, and does the same where it is not, has the same steps.
pub done-same : (accepted same_accepted : Reply → State → Type 0) (before other : State) → other ≡ before → (refusal same_refusal : Option Refusal) → same_refusal ≡ refusal
    → ((reply : Reply) (after : State) → accepted reply after → same_accepted reply after)
    → (reply : Reply) (after : State) → IsDoneBy refusal before accepted reply after → IsDoneBy same_refusal other same_accepted reply after
done-same accepted same_accepted before other same refusal same_refusal refusals does reply after done =
    subst (λ (o : Option Refusal). IsDoneBy o other same_accepted reply after) (sym refusals) (by refusal done)
  where
    by : (o : Option Refusal) → IsDoneBy o before accepted reply after → IsDoneBy o other same_accepted reply after
    by (Some r) is = (is.0, is.1 ∙ sym same)
    by None is = does reply after is

module _ (P : Platform) (disjoint : IsDisjoint P) (L M : Labels) (same : state P M ≡ state P L) where
  fitting-same : (key : NameKey) (q : Region) → Contains P.regions q → fitting M q key ≡ fitting L q key
  fitting-same key q in_P = ap (filter (fits key)) (lists P disjoint L M same q in_P)

  taken_beside-same : (name : List ℕ) (q : Region) → Contains P.regions q → (own : List Space) → name_taken_beside M q name own ≡ name_taken_beside L q name own
  taken_beside-same name q in_P [] = refl
  taken_beside-same name q in_P (own ∷ spaces) =
      λ i. if is_unnamed name then None else option_map (λ (s : Space). NameInUse s.uuid) (find (is_other_named name own.uuid) (lists P disjoint L M same q in_P i))

  taken-same : (key : NameKey) (name : List ℕ) (q : Region) → Contains P.regions q → name_taken_in M key name q ≡ name_taken_in L key name q
  taken-same key name q in_P = ap (name_taken_beside M q name) (fitting-same key q in_P) ∙ taken_beside-same name q in_P (fitting L q key)

  module _ (index : ℕ) (key : NameKey) where
    unknown-same : by_region P index (unknown_in M key) ≡ by_region P index (unknown_in L key)
    unknown-same = by_region-same P index (unknown_in M key) (unknown_in L key) (λ q in_P. ap unknown_among (fitting-same key q in_P))

    ambiguous-same : by_region P index (ambiguous_in M key) ≡ by_region P index (ambiguous_in L key)
    ambiguous-same = by_region-same P index (ambiguous_in M key) (ambiguous_in L key) (λ q in_P. ap ambiguous_among (fitting-same key q in_P))

    read_only-same : by_region P index (read_only_in M key) ≡ by_region P index (read_only_in L key)
    read_only-same = by_region-same P index (read_only_in M key) (read_only_in L key) (λ q in_P. ap read_only_among (fitting-same key q in_P))

    pub destroy_refusals-same : destroy_refusals P M index key ≡ destroy_refusals P L index key
    destroy_refusals-same =
        λ i. unknown_region P index
        ∷ unusable P index
        ∷ not_ready-same P disjoint L M same index i
        ∷ unhealed-same P disjoint L M same index i
        ∷ unknown-same i
        ∷ ambiguous-same i
        ∷ read_only-same i
        ∷ slots-same P disjoint L M same index 1 i
        ∷ []

    pub rename_refusals-same : (name : List ℕ) → rename_refusals P M index key name ≡ rename_refusals P L index key name
    rename_refusals-same name =
        let names = by_region-same P index (name_taken_in M key name) (name_taken_in L key name) (taken-same key name) in
        λ i. unknown_region P index
        ∷ unusable P index
        ∷ not_ready-same P disjoint L M same index i
        ∷ unhealed-same P disjoint L M same index i
        ∷ unknown-same i
        ∷ ambiguous-same i
        ∷ read_only-same i
        ∷ names i
        ∷ slots-same P disjoint L M same index 1 i
        ∷ []

    in_platform : (q : Region) → region_at P index ≡ Some q → Contains P.regions q
    in_platform q found = (find-some (λ (r : Region). r.index == index) P.regions q found).0

    destroyed-same : (reply : Reply) (after : State) → IsDestroyed P L index key reply after → IsDestroyed P M index key reply after
    destroyed-same reply after done = record {
      region = done.region;
      found = done.found;
      space = done.space;
      only = fitting-same key done.region (in_platform done.region done.found) ∙ done.only;
      after_is = done.after_is ∙ ap (with_destroyed done.region done.space.uuid) (sym same);
      reply_is = done.reply_is;
    }

    renamed-same : (name : List ℕ) (reply : Reply) (after : State) → IsRenamed P L index key name reply after → IsRenamed P M index key name reply after
    renamed-same name reply after done = record {
      region = done.region;
      found = done.found;
      space = done.space;
      only = fitting-same key done.region (in_platform done.region done.found) ∙ done.only;
      after_is = done.after_is ∙ ap (with_renamed done.region name done.space) (sym same);
      reply_is = done.reply_is;
    }

    pub destroys-same : (reply : Reply) (after : State) → Destroys P L index key reply after → Destroys P M index key reply after
    destroys-same reply after does = done-same (IsDestroyed P L index key) (IsDestroyed P M index key) (state P L) (state P M) same
        (first_of (destroy_refusals P L index key)) (first_of (destroy_refusals P M index key)) (ap first_of destroy_refusals-same) destroyed-same reply after does

    pub renames-same : (name : List ℕ) (reply : Reply) (after : State) → Renames P L index key name reply after → Renames P M index key name reply after
    renames-same name reply after does = done-same (IsRenamed P L index key name) (IsRenamed P M index key name) (state P L) (state P M) same
        (first_of (rename_refusals P L index key name)) (first_of (rename_refusals P M index key name)) (ap first_of (rename_refusals-same name)) (renamed-same name) reply after does

  module _ (dimm : ℕ) (u : List ℕ) where
    lacks-same : (q : Region) → lacks_area P M dimm u q ≡ lacks_area P L dimm u q
    lacks-same q =
        λ i. nat_lt 0 ((same i).table.held dimm (λ l. has u l && belongs q dimm l)) && not (list_all (λ (x : Member). is_ready ((same i).table.kind x.handle)) q.members)

    lacks_area-same : region_lacks_area P M dimm u ≡ region_lacks_area P L dimm u
    lacks_area-same = (λ i. option_and_then (λ (q : Region). not_ready_by (status M q)) (find (λ q. lacks-same q i) P.regions)) ∙ by (find (lacks_area P L dimm u) P.regions) refl
      where
        by : (o : Option Region) → find (lacks_area P L dimm u) P.regions ≡ o → option_and_then (λ (q : Region). not_ready_by (status M q)) o ≡ option_and_then (λ (q : Region). not_ready_by (status L q)) o
        by None e = refl
        by (Some q) e = ap not_ready_by (statuses P disjoint L M same q (find-some (lacks_area P L dimm u) P.regions q e).0)

    pub release_refusals-same : release_refusals P M dimm u ≡ release_refusals P L dimm u
    release_refusals-same =
        λ i. unknown_dimm P dimm
        ∷ area_by dimm ((same i).table.kind dimm)
        ∷ refused_if ((same i).table.held dimm (has u) == 0) NotHeld
        ∷ lacks_area-same i
        ∷ refused_if (nat_lt 0 ((same i).table.held dimm (is_fixed u))) (ReadOnly u)
        ∷ []

    released-same : (reply : Reply) (after : State) → IsReleased P L dimm u reply after → IsReleased P M dimm u reply after
    released-same reply after done = record {
      after_is = done.after_is ∙ ap (released P dimm u) (sym same);
      reply_is = done.reply_is ∙ ap (λ (s : State). Released (s.table.held dimm (has u))) (sym same);
    }

    pub releases-same : (reply : Reply) (after : State) → Releases P L dimm u reply after → Releases P M dimm u reply after
    releases-same reply after does = done-same (IsReleased P L dimm u) (IsReleased P M dimm u) (state P L) (state P M) same
        (first_of (release_refusals P L dimm u)) (first_of (release_refusals P M dimm u)) (ap first_of release_refusals-same) released-same reply after does
