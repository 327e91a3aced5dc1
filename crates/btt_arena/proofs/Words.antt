-- Bytes of which each word is an old one or a new one.
use Rattle.std.proofs.Common.{◌≡◌, ◌⊎◌, inl, inr, ℕ, zero, suc, ◌+◌, ◌*◌, ◌<◌, Bool, true, false, List, [], ◌∷◌, ◌++◌, length, take, drop, get_or, refl, sym, ap, ◌∙◌, arith, length-append, append_assoc}
use Rattle.std.proofs.lemmas.List.{take_at, drop_at, drop-drop, length-drop, length-take-le, append-nil}
use Rattle.std.specs.Prelude.{if◌then◌else◌}
use Rattle.byte_ranges.specs.Ranges.{range}
use Rattle.btt_arena.specs.Crashed.{mixed}
use Rattle.btt_arena.specs.Records.{IsByWords}

pub all_old : (old new : List ℕ) → length old ≡ length new → IsByWords old new old
all_old old new same = record { same_length = same; each = λ word. inl refl }

pub all_new : (old new : List ℕ) → IsByWords old new new
all_new old new = record { same_length = refl; each = λ word. inr refl }

-- a word behind the first one
behind_first : (xs : List ℕ) (word : ℕ) → range xs (4 * suc word) 4 ≡ range (drop 4 xs) (4 * word) 4
behind_first xs word =
    let e : 4 * suc word ≡ 4 + 4 * word = omega arith in
    rw (e, ← drop-drop (4 * word) 4 xs) refl

behind_chosen : (is_new : Bool) (old new : List ℕ) (word : ℕ) → range (if is_new then drop 4 new else drop 4 old) (4 * word) 4 ≡ range (if is_new then new else old) (4 * suc word) 4
behind_chosen true old new word = sym (behind_first new word)
behind_chosen false old new word = sym (behind_first old word)

-- one word more
pub mixed-more : (taken : List Bool) (k : ℕ) (d : Bool) (old new : List ℕ) → k < length taken
    → mixed (take (suc k) taken) old new ≡ mixed (take k taken) old new ++ range (if get_or taken k d then new else old) (4 * k) 4
mixed-more [] k d old new lt = absurd (omega (arith, lt))
mixed-more (is_new ∷ taken) zero d old new lt = append-nil (take 4 (if is_new then new else old))
mixed-more (is_new ∷ taken) (suc k) d old new lt =
    ap (λ (rest : List ℕ). take 4 (if is_new then new else old) ++ rest)
    (mixed-more taken k d (drop 4 old) (drop 4 new) (omega (arith, lt))
    ∙ ap (λ (more : List ℕ). mixed (take k taken) (drop 4 old) (drop 4 new) ++ more) (behind_chosen (get_or taken k d) old new k))
    ∙ sym (append_assoc (take 4 (if is_new then new else old)) (mixed (take k taken) (drop 4 old) (drop 4 new)) (range (if get_or taken k d then new else old) (4 * suc k) 4))

length_chosen : (is_new : Bool) (n : ℕ) (old new : List ℕ) → length old ≡ 4 * suc n → length new ≡ 4 * suc n → length (take 4 (if is_new then new else old)) ≡ 4
length_chosen true n old new old_long new_long = length-take-le 4 new (omega arith)
length_chosen false n old new old_long new_long = length-take-le 4 old (omega arith)

length-mixed : (taken : List Bool) (old new : List ℕ) → length old ≡ 4 * length taken → length new ≡ 4 * length taken → length (mixed taken old new) ≡ 4 * length taken
length-mixed [] old new old_long new_long = refl
length-mixed (is_new ∷ taken) old new old_long new_long =
    let first = length_chosen is_new (length taken) old new old_long new_long in
    let rest = length-mixed taken (drop 4 old) (drop 4 new) (omega (arith, old_long, length-drop 4 old)) (omega (arith, new_long, length-drop 4 new)) in
    omega (arith, first, rest, length-append (take 4 (if is_new then new else old)) (mixed taken (drop 4 old) (drop 4 new)))

first_word : (is_new : Bool) (n : ℕ) (old new rest : List ℕ) → length old ≡ 4 * suc n → length new ≡ 4 * suc n
    → (range (take 4 (if is_new then new else old) ++ rest) (4 * 0) 4 ≡ range old (4 * 0) 4) ⊎ (range (take 4 (if is_new then new else old) ++ rest) (4 * 0) 4 ≡ range new (4 * 0) 4)
first_word true n old new rest old_long new_long = inr (take_at (take 4 new) rest 4 (length_chosen true n old new old_long new_long))
first_word false n old new rest old_long new_long = inl (take_at (take 4 old) rest 4 (length_chosen false n old new old_long new_long))

no_words : (xs : List ℕ) (word : ℕ) → length xs ≡ 0 → range [] (4 * word) 4 ≡ range xs (4 * word) 4
no_words [] word none = refl
no_words (x ∷ xs) word none = absurd (omega (arith, none))

each_word : (taken : List Bool) (old new : List ℕ) → length old ≡ 4 * length taken → length new ≡ 4 * length taken → (word : ℕ)
    → (range (mixed taken old new) (4 * word) 4 ≡ range old (4 * word) 4) ⊎ (range (mixed taken old new) (4 * word) 4 ≡ range new (4 * word) 4)
each_word [] old new old_long new_long word = inl (no_words old word old_long)
each_word (is_new ∷ taken) old new old_long new_long zero = first_word is_new (length taken) old new (mixed taken (drop 4 old) (drop 4 new)) old_long new_long
each_word (is_new ∷ taken) old new old_long new_long (suc word) =
    let first = take 4 (if is_new then new else old) in
    let rest = mixed taken (drop 4 old) (drop 4 new) in
    let here : range (first ++ rest) (4 * suc word) 4 ≡ range rest (4 * word) 4 =
    behind_first (first ++ rest) word ∙ ap (λ (xs : List ℕ). range xs (4 * word) 4) (drop_at first rest 4 (length_chosen is_new (length taken) old new old_long new_long)) in
    elim (each_word taken (drop 4 old) (drop 4 new) (omega (arith, old_long, length-drop 4 old)) (omega (arith, new_long, length-drop 4 new)) word) [
      | inl is ↦ inl (here ∙ is ∙ sym (behind_first old word))
      | inr is ↦ inr (here ∙ is ∙ sym (behind_first new word))
    ]

pub by_words : (taken : List Bool) (old new : List ℕ) → length old ≡ 4 * length taken → length new ≡ 4 * length taken → IsByWords old new (mixed taken old new)
by_words taken old new old_long new_long = record { same_length = length-mixed taken old new old_long new_long ∙ sym new_long; each = each_word taken old new old_long new_long }

-- one word more, as a loop takes it
pub word_put : (taken : List Bool) (k : ℕ) (d is_new : Bool) (old new : List ℕ) → k < length taken → get_or taken k d ≡ is_new
    → mixed (take (k + 1) taken) old new ≡ mixed (take k taken) old new ++ range (if is_new then new else old) (4 * k) 4
word_put taken k d is_new old new lt is =
    let e : k + 1 ≡ suc k = omega arith in
    ap (λ (n : ℕ). mixed (take n taken) old new) e ∙ mixed-more taken k d old new lt
    ∙ ap (λ (b : Bool). mixed (take k taken) old new ++ range (if b then new else old) (4 * k) 4) is
