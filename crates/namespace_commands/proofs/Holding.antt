-- The module that a look-up finds for a uuid is the one that a refusal names.
use Rattle.std.proofs.Common.{◌≡◌, ◌⊎◌, inl, inr, ℕ, suc, ◌≤◌, ◌<◌, Bool, true, false, cond, List, [], ◌∷◌, map, find, length, get_or, Option, Some, None, refl, sym, ap, subst, ◌∙◌, arith}
use Rattle.std.specs.Prelude.{AllPairs, nat_lt, option_map, slice_index_or}
use Rattle.std.specs.List.{Contains}
use Rattle.std.specs.List.Sorted.{IsStrictlyIncreasing}
use Rattle.std.proofs.lemmas.List.{get_or-map, length-map}
use Rattle.std.proofs.lemmas.List.Kept.{AllPairs-from_increasing}
use Rattle.view_types.specs.declared.refusal.Refusal.TheVariants.{UuidInUse}
use Rattle.label_codec.specs.ModuleLabels.{Module, number}
use Rattle.region_map.specs.declared.platform.Platform.{Platform}
use Rattle.label_table.proofs.ListTests.{Contains-cases, Contains-none, find-some}
use Rattle.region_labels.specs.declared.modules.LoadedModule.{LoadedModule}
use Rattle.region_labels.specs.Modules.{EachOnce, dimm_of, labels_in, module_in}
use Rattle.region_labels.proofs.Seated.{own-labels}
use Rattle.region_labels.specs.Holders.{IsHolder, has_uuid}
use Rattle.region_labels.specs.Holders as holders
use Rattle.table_steps.specs.Create.{keeps_uuid, uuid_in_use}
use Rattle.namespace_commands.proofs.LookUps.{find-map}

-- the first that passes has the least handle, where handles ascend
first-least : (q : LoadedModule → Bool) (ms : List LoadedModule) → AllPairs (λ (a b : LoadedModule). a.dimm < b.dimm) ms → (x : LoadedModule) → Contains ms x → q x ≡ true
    → (y : LoadedModule) × (find q ms ≡ Some y) × (y.dimm ≤ x.dimm)
first-least q [] pairs x here t = Contains-none x here
first-least q (y ∷ ys) pairs x here t = by (q y) refl (Contains-cases y ys x here) (λ there. first-least q ys (λ i j d lt j_lt. pairs (suc i) (suc j) d (omega arith) (omega arith)) x there t)
  where
    by : (b : Bool) → q y ≡ b → (x ≡ y) ⊎ Contains ys x → (Contains ys x → (z : LoadedModule) × (find q ys ≡ Some z) × (z.dimm ≤ x.dimm)) → (z : LoadedModule) × (cond (q y) (Some y) (find q ys) ≡ Some z) × (z.dimm ≤ x.dimm)
    by true e (inl is) rest = (y, (λ i. cond (e i) (Some y) (find q ys)), let same : x.dimm ≡ y.dimm = ap dimm_of is in omega (arith, same))
    by true e (inr there) rest =
        let lt : y.dimm < (slice_index_or ys there.0 x).dimm = pairs 0 (suc there.0) x (omega arith) (let below : there.0 < length ys = there.1 in omega arith) in
        let less : y.dimm < x.dimm = subst (λ (m : LoadedModule). y.dimm < m.dimm) there.2 lt in
        (y, (λ i. cond (e i) (Some y) (find q ys)), omega arith)
    by false e (inl is) rest = absurd (let no : q x ≡ false = ap q is ∙ e in cc)
    by false e (inr there) rest = let found = rest there in (found.0, (λ i. cond (e i) (Some y) (find q ys)) ∙ found.1, found.2)

ascending : (ms : List LoadedModule) → AllPairs (λ (a b : ℕ). a < b) (map dimm_of ms) → AllPairs (λ (a b : LoadedModule). a.dimm < b.dimm) ms
ascending ms pairs i j d lt j_lt =
    let first : slice_index_or (map dimm_of ms) i d.dimm ≡ (slice_index_or ms i d).dimm = get_or-map dimm_of ms i d d.dimm (omega (arith, lt, j_lt)) in
    let later : slice_index_or (map dimm_of ms) j d.dimm ≡ (slice_index_or ms j d).dimm = get_or-map dimm_of ms j d d.dimm j_lt in
    let below : slice_index_or (map dimm_of ms) i d.dimm < slice_index_or (map dimm_of ms) j d.dimm = pairs i j d.dimm lt (subst (λ n. j < n) (sym (length-map ms dimm_of)) j_lt) in
    omega (arith, first, later, below)

module _ (P : Platform) (ms : List LoadedModule) (once : EachOnce ms) (sorted : IsStrictlyIncreasing P.modules) (all : map dimm_of ms ≡ P.modules) (u : List ℕ) where
  ascend : AllPairs (λ (a b : LoadedModule). a.dimm < b.dimm) ms
  ascend = ascending ms (AllPairs-from_increasing (map dimm_of ms) (subst IsStrictlyIncreasing (sym all) sorted))

  -- a module is that of its handle
  own : (x : LoadedModule) → Contains ms x → keeps_uuid P (labels_in ms) u x.dimm ≡ has_uuid P (labels_in ms) u x
  own x here =
      let there : labels_in ms (get_or ms here.0 x).dimm ≡ module_in (get_or ms here.0 x) = own-labels ms here.0 x once here.1 in
      let is : labels_in ms x.dimm ≡ module_in x = subst (λ (m : LoadedModule). labels_in ms m.dimm ≡ module_in m) here.2 there in
      ap (λ (m : Module). nat_lt 0 (number (holders.keeps_uuid P (labels_in ms) u x.dimm) m)) is

  found-in : find (keeps_uuid P (labels_in ms) u) P.modules ≡ option_map dimm_of (find (λ (x : LoadedModule). keeps_uuid P (labels_in ms) u x.dimm) ms)
  found-in = ap (find (keeps_uuid P (labels_in ms) u)) (sym all) ∙ find-map (keeps_uuid P (labels_in ms) u) dimm_of ms

  pub uuid-told : (found : Option ℕ) → IsHolder P (labels_in ms) u ms found → uuid_in_use P (labels_in ms) u ≡ option_map UuidInUse found
  uuid-told found is = ap (option_map UuidInUse) (found-in ∙ by found is)
    where
      none : ((x : LoadedModule) → Contains ms x → has_uuid P (labels_in ms) u x ≡ false) → (o : Option LoadedModule) → find (λ (x : LoadedModule). keeps_uuid P (labels_in ms) u x.dimm) ms ≡ o → option_map dimm_of o ≡ None
      none nobody None e = refl
      none nobody (Some x) e =
          let some = find-some (λ (y : LoadedModule). keeps_uuid P (labels_in ms) u y.dimm) ms x e in
          let t : has_uuid P (labels_in ms) u x ≡ true = sym (own x some.0) ∙ some.1 in
          let f : has_uuid P (labels_in ms) u x ≡ false = nobody x some.0 in
          absurd cc

      by : (found : Option ℕ) → IsHolder P (labels_in ms) u ms found → option_map dimm_of (find (λ (x : LoadedModule). keeps_uuid P (labels_in ms) u x.dimm) ms) ≡ found
      by None nobody = none nobody (find (λ (x : LoadedModule). keeps_uuid P (labels_in ms) u x.dimm) ms) refl
      by (Some handle) is =
          let t : keeps_uuid P (labels_in ms) u is.holder.dimm ≡ true = own is.holder is.listed ∙ is.holds in
          let first = first-least (λ (x : LoadedModule). keeps_uuid P (labels_in ms) u x.dimm) ms ascend is.holder is.listed t in
          let some = find-some (λ (x : LoadedModule). keeps_uuid P (labels_in ms) u x.dimm) ms first.0 first.1 in
          let le : handle ≤ first.0.dimm = is.least first.0 some.0 (sym (own first.0 some.0) ∙ some.1) in
          let at : is.holder.dimm ≡ handle = is.is in
          let ge : first.0.dimm ≤ is.holder.dimm = first.2 in
          let same : first.0.dimm ≡ handle = omega (arith, le, at, ge) in
          ap (option_map dimm_of) first.1 ∙ ap Some same
