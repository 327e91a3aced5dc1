-- There is one reply to what is asked of the state: labels that stand for one state are told of alike.
use Rattle.std.proofs.Common.{◌≡◌, ℕ, Bool, List, [], ◌∷◌, ◌++◌, Option, Some, None, length, map, refl, sym, ap, subst, ◌∙◌}
use Rattle.std.specs.Prelude.{◌==◌, ◌^◌, ◌-◌, min}
use Rattle.std.specs.List.{Contains}
use Rattle.view_types.specs.Intervals.{AreMaximal}
use Rattle.view_types.specs.declared.refusal.Refusal.{Refusal}
use Rattle.view_types.specs.declared.reply.Reply.{Reply}
use Rattle.view_types.specs.declared.reply.Reply.TheVariants.{Free, HeldList, Namespaces, Regions}
use Rattle.cmd_words.specs.declared.parts.Query.{Query}
use Rattle.cmd_words.specs.declared.parts.Query.TheVariants as queries
use Rattle.label_codec.specs.ModuleLabels.{Labels}
use Rattle.region_map.specs.declared.platform.Platform.{Platform}
use Rattle.region_map.specs.declared.platform.Region.{Region}
use Rattle.region_map.specs.Platforms.{region_at}
use Rattle.label_table.specs.Belonging.{IsDisjoint}
use Rattle.label_table.specs.Division.{AreFreeExtents, is_common_free, largest, part_size}
use Rattle.label_table.specs.Spaces.{Space, is_pending}
use Rattle.label_table.specs.Statuses.{status}
use Rattle.label_table.specs.Tables.{State, state}
use Rattle.label_table.proofs.Equations.{pending-of_state}
use Rattle.label_table.proofs.ListTests.{Contains-here, Contains-there, find-some, some_is}
use Rattle.view_types.proofs.Maximal.{one_list}
use Rattle.region_labels.specs.Marks.{listed}
use Rattle.region_labels.specs.Statuses.{shown_status}
use Rattle.table_steps.specs.Refusals.{IsReplyBy, area_by, first_of, unknown_dimm, unknown_region, unusable}
use Rattle.table_steps.proofs.SameRegions.{free-same, lists, not_ready-same, statuses}
use Rattle.namespace_commands.specs.Lists.{AreSpacesOf, IsFreeOf, IsHeldOf, IsShown, listed_by, shown_region, spaces_by, spaces_of, spaces_of_all, unread}
use Rattle.namespace_commands.proofs.OneHeld.{held-one}

-- where replies of two kinds are the same, so are those with the refusal before them
reply-same : (one other : Reply → Type 0) (o p : Option Refusal) → o ≡ p → ((r t : Reply) → one r → other t → r ≡ t) → (r t : Reply) → IsReplyBy o one r → IsReplyBy p other t → r ≡ t
reply-same one other o p same alike r t a b = by p (subst (λ (q : Option Refusal). IsReplyBy q one r) same a) b
  where
    by : (q : Option Refusal) → IsReplyBy q one r → IsReplyBy q other t → r ≡ t
    by (Some refusal) a b = a ∙ sym b
    by None a b = alike r t a b

module _ (P : Platform) (disjoint : IsDisjoint P) (L M : Labels) (same : state P M ≡ state P L) where
  known : (index : ℕ) (q : Region) → region_at P index ≡ Some q → Contains P.regions q
  known index q found = (find-some (λ (r : Region). r.index == index) P.regions q found).0

  spaces-same : (q : Region) → Contains P.regions q → spaces_of M q ≡ spaces_of L q
  spaces-same q in_P =
      let marks : (u : List ℕ) → is_pending M q u ≡ is_pending L q u = λ u. pending-of_state P disjoint L M same q u in_P in
      λ i. map (λ (s : Space). listed_by q.index (length q.members) (listed (marks s.uuid i) s)) (lists P disjoint L M same q in_P i)

  all-same : (rs : List Region) → ((q : Region) → Contains rs q → Contains P.regions q) → spaces_of_all M rs ≡ spaces_of_all L rs
  all-same [] in_P = refl
  all-same (r ∷ rs) in_P =
      let here = in_P r (Contains-here r rs) in
      let one = statuses P disjoint L M same r here in
      let spaces = spaces-same r here in
      let rest = all-same rs (λ q there. in_P q (Contains-there r rs q there)) in
      λ i. spaces_by (one i) (spaces i) ++ rest i

  regions-same : (rs : List Region) → ((q : Region) → Contains rs q → Contains P.regions q) → map (shown_region M) rs ≡ map (shown_region L) rs
  regions-same [] in_P = refl
  regions-same (r ∷ rs) in_P =
      let one = statuses P disjoint L M same r (in_P r (Contains-here r rs)) in
      let rest = regions-same rs (λ q there. in_P q (Contains-there r rs q there)) in
      λ i. record {
        index = r.index;
        spa = r.spa;
        length = r.length;
        ways = length r.members;
        cookie = r.cookie;
        status = shown_status (one i);
        namespaces = [];
        free = [];
      } ∷ rest i

  unread-same : (index : ℕ) → first_of (unread P L index) ≡ first_of (unread P M index)
  unread-same index = let not_ready = not_ready-same P disjoint L M same index in λ i. first_of (unknown_region P index ∷ unusable P index ∷ sym not_ready i ∷ [])

  spaces-one : (index : ℕ) (r t : Reply) → AreSpacesOf P L index r → AreSpacesOf P M index t → r ≡ t
  spaces-one index r t a b =
      let regions : a.region ≡ b.region = some_is (sym a.found ∙ b.found) in
      a.reply_is ∙ ap Namespaces (ap (spaces_of L) regions ∙ sym (spaces-same b.region (known index b.region b.found))) ∙ sym b.reply_is

  free-one : (index : ℕ) (r t : Reply) → IsFreeOf P L index r → IsFreeOf P M index t → r ≡ t
  free-one index r t a b =
      let regions : a.region ≡ b.region = some_is (sym a.found ∙ b.found) in
      let here : AreFreeExtents P L b.region a.extents = subst (λ (q : Region). AreFreeExtents P L q a.extents) regions a.extents_are in
      let there : AreFreeExtents P L b.region b.extents = subst (λ (f : ℕ → Bool). AreMaximal (part_size b.region) f b.extents) (free-same P disjoint L M same b.region (known index b.region b.found)) b.extents_are in
      let extents : a.extents ≡ b.extents = one_list (part_size b.region) (is_common_free P L b.region) a.extents b.extents here there in
      a.reply_is ∙ (λ i. Free (extents i) (min (largest (regions i) (extents i)) (2 ^ 64 - 1))) ∙ sym b.reply_is

  held-reply-one : (dimm : ℕ) (r t : Reply) → IsHeldOf P L dimm r → IsHeldOf P M dimm t → r ≡ t
  held-reply-one dimm r t a b =
      let lists = held-one P L M same dimm a.held b.held a.held_are b.held_are in
      a.reply_is ∙ (λ i. HeldList (lists i) ((sym same i).table.spare dimm)) ∙ sym b.reply_is

  pub shown-one : (query : Query) (r t : Reply) → IsShown P L query r → IsShown P M query t → r ≡ t
  shown-one (queries.Spaces None) r t a b = a ∙ ap Namespaces (sym (all-same P.regions (λ q there. there))) ∙ sym b
  shown-one (queries.Spaces (Some index)) r t a b = reply-same (AreSpacesOf P L index) (AreSpacesOf P M index) (first_of (unread P L index)) (first_of (unread P M index)) (unread-same index) (spaces-one index) r t a b
  shown-one queries.Regions r t a b = a ∙ ap Regions (sym (regions-same P.regions (λ q there. there))) ∙ sym b
  shown-one (queries.Free index) r t a b = reply-same (IsFreeOf P L index) (IsFreeOf P M index) (first_of (unread P L index)) (first_of (unread P M index)) (unread-same index) (free-one index) r t a b
  shown-one (queries.Held dimm) r t a b =
      reply-same (IsHeldOf P L dimm) (IsHeldOf P M dimm) (first_of (unknown_dimm P dimm ∷ area_by dimm (L dimm).kind ∷ [])) (first_of (unknown_dimm P dimm ∷ area_by dimm (M dimm).kind ∷ []))
      (λ i. first_of (unknown_dimm P dimm ∷ area_by dimm ((sym same i).table.kind dimm) ∷ [])) (held-reply-one dimm) r t a b
