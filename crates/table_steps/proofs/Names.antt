-- Names that are distinct stay so where one namespace is new, or has a new name.
use Rattle.std.proofs.Common.{◌≡◌, ◌⊎◌, inl, inr, ℕ, Bool, true, false, ◌&&◌, not, List, [], ◌∷◌, None, find, length, refl, sym, ap, ◌∙◌}
use Rattle.std.specs.Prelude.{◌==◌, if◌then◌else◌, option_map}
use Rattle.std.specs.List.{Contains}
use Rattle.std.specs.Str.{bytes_eq}
use Rattle.view_types.specs.declared.refusal.Refusal.TheVariants.{NameInUse}
use Rattle.cmd_words.specs.declared.name_keys.NameKey.{NameKey}
use Rattle.label_codec.specs.Names.{name_before_zero}
use Rattle.label_codec.specs.ModuleLabels.{Labels}
use Rattle.region_map.specs.declared.platform.Region.{Region}
use Rattle.label_table.specs.Namespaces.{namespaces}
use Rattle.label_table.specs.Spaces.{Space}
use Rattle.label_table.proofs.ListTests.{both, never, uuid_is, uuid_same}
use Rattle.table_steps.specs.Create.{is_named, is_unnamed, name_in_use_in}
use Rattle.table_steps.specs.Namespaces.{HasDistinctNames, fitting}
use Rattle.table_steps.specs.Rename.{is_other_named, name_taken_beside, name_taken_in}
use Rattle.table_steps.proofs.Lists.{find-never, find-none, map-none}

-- no other namespace of the region has the name, unless it is empty
abbrev pub IsClear : Labels → Region → Space → Type 0
IsClear L r new = (t : Space) → Contains (namespaces L r) t → bytes_eq new.uuid t.uuid ≡ false → is_unnamed new.name ≡ false → is_named new.name t ≡ true → ⊥

-- a namespace that stands now is the new one, or stood before
abbrev pub IsNewOrOld : Labels → Region → Space → Space → Type 0
IsNewOrOld L r new t = (t ≡ new) ⊎ (Contains (namespaces L r) t × (bytes_eq new.uuid t.uuid ≡ false))

-- names are the same in either order
named-back : (a b : List ℕ) → bytes_eq (name_before_zero a) (name_before_zero b) ≡ true → name_before_zero b ≡ name_before_zero a
named-back a b e = sym (uuid_is (name_before_zero a) (name_before_zero b) e)

pub names-distinct : (L M : Labels) (r : Region) (new : Space) → ((t : Space) → Contains (namespaces M r) t → IsNewOrOld L r new t) → IsClear L r new → HasDistinctNames L r → HasDistinctNames M r
names-distinct L M r new one-of clear before s t s_in t_in some same = by (one-of s s_in) (one-of t t_in)
  where
    by : IsNewOrOld L r new s → IsNewOrOld L r new t → s ≡ t
    by (inl s_is) (inl t_is) = s_is ∙ sym t_is
    by (inl s_is) (inr t_old) =
        let names : s.name ≡ new.name = ap (λ (y : Space). y.name) s_is in
        absurd (clear t t_old.0 t_old.1 (sym (ap is_unnamed names) ∙ some) (sym (ap (λ n. is_named n t) names) ∙ same))
    by (inr s_old) (inl t_is) =
        let names : t.name ≡ new.name = ap (λ (y : Space). y.name) t_is in
        let back : name_before_zero new.name ≡ name_before_zero s.name = sym (ap name_before_zero names) ∙ named-back s.name t.name same in
        absurd (clear s s_old.0 s_old.1 (ap (λ n. length n == 0) back ∙ some) (ap (λ n. bytes_eq n (name_before_zero s.name)) back ∙ uuid_same (name_before_zero s.name)))
    by (inr s_old) (inr t_old) = before s t s_old.0 t_old.0 some same

-- Where the name is not refused to a new namespace, no other has it.
pub clear-unless : (L : Labels) (r : Region) (new : Space) → name_in_use_in L new.name r ≡ None → IsClear L r new
clear-unless L r new none t t_in differ some taken = by (is_unnamed new.name) some none
  where
    by : (b : Bool) → b ≡ false → (if b then None else option_map (λ (s : Space). NameInUse s.uuid) (find (is_named new.name) (namespaces L r))) ≡ None → ⊥
    by true e none = absurd cc
    by false e none = never (is_named new.name t) taken (find-none (is_named new.name) (namespaces L r) (map-none (λ (s : Space). NameInUse s.uuid) (find (is_named new.name) (namespaces L r)) none) t t_in)

-- The name that a namespace has is not taken for it, where names are distinct.
pub kept-name : (L : Labels) (r : Region) (key : NameKey) (own : Space) → fitting L r key ≡ own ∷ [] → Contains (namespaces L r) own → HasDistinctNames L r → name_taken_in L key own.name r ≡ None
kept-name L r key own only own_in distinct = ap (name_taken_beside L r own.name) only ∙ by (is_unnamed own.name) refl
  where
    alone : is_unnamed own.name ≡ false → (t : Space) → Contains (namespaces L r) t → is_other_named own.name own.uuid t ≡ false
    alone some t t_in = elim (both (is_named own.name t)) [
      | inr n ↦ (λ i. n i && not (bytes_eq own.uuid t.uuid))
      | inl named ↦
          let same : bytes_eq own.uuid t.uuid ≡ true = ap (λ (y : Space). bytes_eq own.uuid y.uuid) (sym (distinct own t own_in t_in some named)) ∙ uuid_same own.uuid in
          λ i. named i && not (same i)
    ]

    by : (b : Bool) → is_unnamed own.name ≡ b → (if b then None else option_map (λ (t : Space). NameInUse t.uuid) (find (is_other_named own.name own.uuid) (namespaces L r))) ≡ None
    by true e = refl
    by false e = ap (option_map (λ (t : Space). NameInUse t.uuid)) (find-never (is_other_named own.name own.uuid) (namespaces L r) (alone e))
