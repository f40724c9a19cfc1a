-- How often a wind is in a list, when a word has come to a number, and the greatest word seen.
use Rattle.std.proofs.Common.{◌≡◌, ◌≢◌, ℕ, ◌+◌, ◌-◌, ◌<◌, ◌≤◌, ◌⊎◌, inl, inr, ⊎_elim, min, max, List, [], ◌∷◌, ◌++◌, refl, arith}
use Rattle.std.proofs.lemmas.Bool.{cases_eq}
use Rattle.std.proofs.lemmas.Bool.Decides.{nat_tests}
use Rattle.xlator_law.specs.declared.winds.WindNo.{WindNo}
use Rattle.wind_words.specs.declared.view.Loss.{Loss}
use Rattle.wind_words.specs.Word.{once_from}
use Rattle.wind_words.specs.Winds.{wind, one_of, times, turn_after, highest_seen}

pub once : (from word : ℕ) → once_from from word ≡ min 1 (word + 1 - from)
unfolding once_from
once from word = grind (arith, nat_tests)

pub one_here : (w x : WindNo) → x.slot ≡ w.slot → x.turn ≡ w.turn → one_of w x ≡ 1
unfolding one_of
one_here w x s t = grind (arith, nat_tests)

pub one_other_slot : (w x : WindNo) → x.slot ≢ w.slot → one_of w x ≡ 0
unfolding one_of
one_other_slot w x s = grind (arith, nat_tests)

pub one_other_turn : (w x : WindNo) → x.turn ≢ w.turn → one_of w x ≡ 0
unfolding one_of
one_other_turn w x t = grind (arith, nat_tests)

pub times_append : (w : WindNo) (xs ys : List WindNo) → times w (xs ++ ys) ≡ times w xs + times w ys
times_append w [] ys = omega arith
times_append w (x ∷ xs) ys = omega (arith, times_append w xs ys)

pub times_push : (w : WindNo) (xs : List WindNo) (x : WindNo) → times w (xs ++ x ∷ []) ≡ times w xs + one_of w x
times_push w xs x = omega (arith, times_append w xs (x ∷ []))

-- the last turn of a slot in a list is behind no turn that is in it
one_at : (slot turn : ℕ) (x : WindNo) (n rest : ℕ) → 0 < one_of (wind slot turn) x + rest → ((x.slot ≡ slot) × (x.turn ≡ turn)) ⊎ (0 < rest)
one_at slot turn x n rest h = elim (cases_eq x.slot slot) [
  | inl s ↦ elim (cases_eq x.turn turn) [ inl t ↦ inl (s, t) | inr t ↦ inr (omega (arith, h, one_other_turn (wind slot turn) x t)) ]
  | inr s ↦ inr (omega (arith, h, one_other_slot (wind slot turn) x s))
]

pub turn_is_after : (slot turn : ℕ) (xs : List WindNo) → 0 < times (wind slot turn) xs → turn < turn_after slot xs
turn_is_after slot turn [] h = absurd (omega arith)
turn_is_after slot turn (x ∷ xs) h = ⊎_elim
    (λ (here : (x.slot ≡ slot) × (x.turn ≡ turn)). grind (arith, nat_tests))
    (λ (later : 0 < times (wind slot turn) xs). let t = turn_is_after slot turn xs later in grind (arith, nat_tests))
    (one_at slot turn x 0 (times (wind slot turn) xs) h)

pub turn_not_after : (slot bound : ℕ) (xs : List WindNo) → ((turn : ℕ) → 0 < times (wind slot turn) xs → turn < bound) → turn_after slot xs ≤ bound
turn_not_after slot bound [] h = omega arith
turn_not_after slot bound (x ∷ xs) h =
    let rest = turn_not_after slot bound xs (λ turn later. h turn (omega (arith, later))) in elim (cases_eq x.slot slot) [
      | inl s ↦ let here = h x.turn (omega (arith, one_here (wind slot x.turn) x s refl)) in grind (arith, nat_tests)
      | inr s ↦ grind (arith, nat_tests)
    ]

pub highest_append : (slot : ℕ) (xs ys : List Loss) → highest_seen slot (xs ++ ys) ≡ max (highest_seen slot xs) (highest_seen slot ys)
highest_append slot [] ys = omega arith
highest_append slot (x ∷ xs) ys = let rest = highest_append slot xs ys in elim (cases_eq x.wind.slot slot) [
  | inl s ↦ grind (arith, nat_tests)
  | inr s ↦ grind (arith, nat_tests)
]
