-- What is put into a place of a chain, and which extents it touches there.
use Rattle.std.proofs.Common.{◌≡◌, ◌≢◌, ◌⊎◌, inl, inr, ℕ, ◌<◌, true, false, cond, List, [], ◌∷◌, Option, None, Some, slice_get, refl, sym, ap, ◌∙◌, arith}
use Rattle.std.specs.Prelude.{◌==◌}
use Rattle.std.specs.Option.{option_map}
use Rattle.std.proofs.lemmas.Bool.{eq-eqb}
use Rattle.std.proofs.lemmas.Bool.Decides.{eqb_tells}
use Rattle.view_types.specs.declared.extents.Extent.{Extent}
use Rattle.view_types.specs.Intervals.{end_of}
use Rattle.extent_alloc.specs.declared.pool.Link.{Link}
use Rattle.extent_alloc.specs.Chains.{first_at, unwind, extents_of}
use Rattle.extent_alloc.specs.Cuts.{ending_at, starting_at, joined, joined_ahead, joined_in}
use Rattle.extent_alloc.specs.Free.{kept}

apart_eqb : (a b : ℕ) → a ≢ b → (a == b) ≡ false
apart_eqb a b other = by (eqb_tells a b)
  where
    by : ((a == b) ≡ true) × (a ≡ b) ⊎ ((a == b) ≡ false) × (a ≢ b) → (a == b) ≡ false
    by (inl same) = absurd (other same.1)
    by (inr apart) = apart.0

pub kept-empty : (e : Extent) (es : List Extent) → e.len ≡ 0 → kept e es ≡ es
kept-empty e es none i = cond (eq-eqb e.len 0 none i) es (e ∷ es)

pub kept-some : (e : Extent) (es : List Extent) → 0 < e.len → kept e es ≡ e ∷ es
kept-some e es some i = cond (apart_eqb e.len 0 (λ none. absurd (omega arith)) i) es (e ∷ es)

-- the link at the front of some links
pub record Front (l : Link) (ls : List Link) : Type 0 where
  pub later : List Link
  pub is : ls ≡ l ∷ later

pub front : (l : Link) (ls : List Link) → slice_get ls 0 ≡ Some l → Front l ls
front l [] e = absurd cc
front l (x ∷ ls) e =
    let same : x ≡ l = cc in
    record { later = ls; is = λ i. same i ∷ ls }

pub index_of-front : (ls : List Link) → option_map (λ (l : Link). l.at) (slice_get ls 0) ≡ first_at ls
index_of-front [] = refl
index_of-front (l ∷ ls) = refl

pub ended : (link : Option Link) (offset : ℕ) (l : Link) → ending_at link offset ≡ Some l → (link ≡ Some l) × (end_of l.extent ≡ offset)
ended None offset l e = absurd cc
ended (Some x) offset l e = by (eqb_tells (end_of x.extent) offset)
  where
    by : ((end_of x.extent == offset) ≡ true) × (end_of x.extent ≡ offset) ⊎ ((end_of x.extent == offset) ≡ false) × (end_of x.extent ≢ offset)
        → (Some x ≡ Some l) × (end_of l.extent ≡ offset)
    by (inl same) =
        let is : Some x ≡ Some l = (λ i. cond (sym same.0 i) (Some x) None) ∙ e in
        let one : x ≡ l = cc in
        (is, ap (λ (y : Link). end_of y.extent) (sym one) ∙ same.1)
    by (inr apart) =
        let never : ◌≡◌ {A = Option Link} None (Some l) = (λ i. cond (sym apart.0 i) (Some x) None) ∙ e in
        absurd cc

pub not_ended : (offset : ℕ) (l : Link) → ending_at (Some l) offset ≡ None → end_of l.extent ≢ offset
not_ended offset l e same =
    let never : Some l ≡ None = (λ i. cond (sym (eq-eqb (end_of l.extent) offset same) i) (Some l) None) ∙ e in
    absurd cc

pub started : (link : Option Link) (offset : ℕ) (l : Link) → starting_at link offset ≡ Some l → (link ≡ Some l) × (l.extent.start ≡ offset)
started None offset l e = absurd cc
started (Some x) offset l e = by (eqb_tells x.extent.start offset)
  where
    by : ((x.extent.start == offset) ≡ true) × (x.extent.start ≡ offset) ⊎ ((x.extent.start == offset) ≡ false) × (x.extent.start ≢ offset)
        → (Some x ≡ Some l) × (l.extent.start ≡ offset)
    by (inl same) =
        let is : Some x ≡ Some l = (λ i. cond (sym same.0 i) (Some x) None) ∙ e in
        let one : x ≡ l = cc in
        (is, ap (λ (y : Link). y.extent.start) (sym one) ∙ same.1)
    by (inr apart) =
        let never : ◌≡◌ {A = Option Link} None (Some l) = (λ i. cond (sym apart.0 i) (Some x) None) ∙ e in
        absurd cc

pub not_started : (offset : ℕ) (l : Link) → starting_at (Some l) offset ≡ None → l.extent.start ≢ offset
not_started offset l e same =
    let never : Some l ≡ None = (λ i. cond (sym (eq-eqb l.extent.start offset same) i) (Some l) None) ∙ e in
    absurd cc

joined_ahead-touching : (e a : Extent) (es : List Extent) → a.start ≡ end_of e → joined_ahead e (a ∷ es) ≡ joined e a ∷ es
joined_ahead-touching e a es touch i = cond (eq-eqb a.start (end_of e) touch i) (joined e a ∷ es) (e ∷ a ∷ es)

joined_ahead-apart : (e : Extent) (rest : List Link) (offset : ℕ) → offset ≡ end_of e → starting_at (slice_get rest 0) offset ≡ None
    → joined_ahead e (extents_of rest) ≡ e ∷ extents_of rest
joined_ahead-apart e [] offset at none = refl
joined_ahead-apart e (a ∷ rest) offset at none =
    λ i. cond (apart_eqb a.extent.start (end_of e) (λ same. not_started offset a none (same ∙ sym at)) i) (joined e a.extent ∷ extents_of rest) (e ∷ a.extent ∷ extents_of rest)

module _ (done rest : List Link) (e : Extent) where
  pub joined_in-both : (b a : Extent) → end_of b ≡ e.start → a.start ≡ end_of e
      → joined_in (b ∷ extents_of done) e (a ∷ extents_of rest) ≡ unwind (extents_of done) (joined (joined b e) a ∷ extents_of rest)
  joined_in-both b a behind ahead =
      (λ i. unwind (extents_of done) (cond (eq-eqb (end_of b) e.start behind i) (joined_ahead (joined b e) (a ∷ extents_of rest)) (b ∷ joined_ahead e (a ∷ extents_of rest))))
      ∙ ap (unwind (extents_of done)) (joined_ahead-touching (joined b e) a (extents_of rest) (omega arith))

  pub joined_in-before : (b : Extent) → end_of b ≡ e.start → starting_at (slice_get rest 0) (end_of e) ≡ None
      → joined_in (b ∷ extents_of done) e (extents_of rest) ≡ unwind (extents_of done) (joined b e ∷ extents_of rest)
  joined_in-before b behind ahead =
      (λ i. unwind (extents_of done) (cond (eq-eqb (end_of b) e.start behind i) (joined_ahead (joined b e) (extents_of rest)) (b ∷ joined_ahead e (extents_of rest))))
      ∙ ap (unwind (extents_of done)) (joined_ahead-apart (joined b e) rest (end_of e) (omega arith) ahead)

joined_in-apart : (done : List Link) (e : Extent) (es : List Extent) → ending_at (slice_get done 0) e.start ≡ None
    → joined_in (extents_of done) e es ≡ unwind (extents_of done) (joined_ahead e es)
joined_in-apart [] e es behind = refl
joined_in-apart (b ∷ done) e es behind =
    λ i. unwind (extents_of done) (cond (apart_eqb (end_of b.extent) e.start (not_ended e.start b behind) i) (joined_ahead (joined b.extent e) es) (b.extent ∷ joined_ahead e es))

pub joined_in-after : (done rest : List Link) (e a : Extent) → ending_at (slice_get done 0) e.start ≡ None → a.start ≡ end_of e
    → joined_in (extents_of done) e (a ∷ extents_of rest) ≡ unwind (extents_of done) (joined e a ∷ extents_of rest)
joined_in-after done rest e a behind ahead =
    joined_in-apart done e (a ∷ extents_of rest) behind ∙ ap (unwind (extents_of done)) (joined_ahead-touching e a (extents_of rest) ahead)

pub joined_in-none : (done rest : List Link) (e : Extent) → ending_at (slice_get done 0) e.start ≡ None → starting_at (slice_get rest 0) (end_of e) ≡ None
    → joined_in (extents_of done) e (extents_of rest) ≡ unwind (extents_of done) (e ∷ extents_of rest)
joined_in-none done rest e behind ahead =
    joined_in-apart done e (extents_of rest) behind ∙ ap (unwind (extents_of done)) (joined_ahead-apart e rest (end_of e) refl ahead)
