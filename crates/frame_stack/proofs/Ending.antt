-- The step that ends a wind keeps what every reached stack keeps.
use Rattle.std.proofs.Common.{◌≡◌, refl, sym, ap, subst, ◌∙◌, arith, set, inl, inr}
use Rattle.std.specs.Prelude.{ℕ, ◌≢◌, ◌⊎◌, suc, ◌≤◌, ◌<◌, ◌+◌, ◌*◌, true, List, [], ◌∷◌, ◌++◌, length, Some, None}
use Rattle.std.specs.List.{list_any}
use Rattle.std.proofs.lemmas.Bool.{cases_eq}
use Rattle.std.proofs.lemmas.List.{length-set, get_or-set_same, get_or-set_other}
use Rattle.xlator_law.specs.declared.winds.WindNo.{WindNo}
use Rattle.frame_stack.specs.declared.frame.Opener.{Opener}
use Rattle.frame_stack.specs.Cells.{cell_at}
use Rattle.frame_stack.specs.Stack.{Stack, Line, word_at, word_of, pending, replied, next_free, opener_of, resumed}
use Rattle.frame_stack.specs.Moves.{Move, is_opening, is_ending, is_opening_of, opens_in, ends_in}
use Rattle.frame_stack.specs.Reached.{ending}
use Rattle.frame_stack.proofs.Vacancy.{some_within}
use Rattle.frame_stack.proofs.Sound.{in_range}
use Rattle.frame_stack.proofs.Lists.{count_push, count_emptied}
use Rattle.frame_stack.proofs.Winds.{same_wind, other_slot, other_turn}
use Rattle.frame_stack.proofs.Reported.{AreReported, IsSlot, still_under, openings_same, orderly_push, is_of_graph}
use Rattle.frame_stack.proofs.Openers.{cases_wind, opener_resumed}
use Rattle.frame_stack.proofs.Opening.{reported_push, slot_later, says_push}

module _ {L : Type 0} (s : Stack L) (moves : List Move) (handed : List Line) (w : WindNo) (o : Opener) where
  pub wind_ended : AreReported s moves handed → word_at s w.slot ≡ replied w → cell_at s.openers w.slot ≡ Some o → AreReported (resumed s w (Some o)) (moves ++ ending w o ∷ []) handed
  wind_ended t at is = record {
    reported = reported_push handed s.lines moves (ending w o) t.reported;
    orderly = orderly_push [] moves (ending w o) t.orderly (was_opened, (t.ended w).no (omega (arith, at)));
    lengths = length-set s.words w.slot (next_free w) ∙ t.lengths ∙ sym (length-set s.openers w.slot None);
    opened = λ v. elim (cases_eq v.slot w.slot) [
      | inl same ↦ let old = before v.slot same in let new = after v.slot same in says_push (is_opening v) moves (ending w o) _ _ _ (t.opened v) (λ h. inl (omega (arith, h, old, new))) (λ h. (omega (arith, h, old, new), refl))
      | inr differs ↦ let e = other v.slot differs in says_push (is_opening v) moves (ending w o) _ _ _ (t.opened v) (λ h. inl (omega (arith, h, e))) (λ h. (omega (arith, h, e), refl))
    ];
    ended = λ v. elim (cases_eq v.slot w.slot) [
      | inl same ↦ let old = before v.slot same in let new = after v.slot same in says_push (is_ending v) moves (ending w o) _ _ _ (t.ended v) (λ h. elim (cases_eq v.turn w.turn) [
        | inl turn ↦ inr (same_wind v w same turn)
        | inr turn ↦ inl (omega (arith, h, old, new, turn))
      ]) (λ h. (omega (arith, h, old, new), other_turn v w (λ e. omega (arith, h, new, e))))
      | inr differs ↦ let e = other v.slot differs in says_push (is_ending v) moves (ending w o) _ _ _ (t.ended v) (λ h. inl (omega (arith, h, e))) (λ h. (omega (arith, h, e), other_slot v w differs))
    ];
    slots = λ k. elim (cases_eq k w.slot) [
      | inl same ↦ subst (λ n. IsSlot (moves ++ ending w o ∷ []) n (cell_at (set s.openers w.slot None) n) (word_of (set s.words w.slot (next_free w)) n)) (sym same) (subst (λ c. IsSlot (moves ++ ending w o ∷ []) w.slot c (word_of (set s.words w.slot (next_free w)) w.slot)) (sym (get_or-set_same s.openers w.slot None None inside)) (suc w.turn, (let e = after w.slot refl in omega (arith, e))))
      | inr differs ↦ subst (λ c. IsSlot (moves ++ ending w o ∷ []) k c (word_of (set s.words w.slot (next_free w)) k)) (sym (get_or-set_other s.openers w.slot k None None differs)) (subst (λ n. IsSlot (moves ++ ending w o ∷ []) k (cell_at s.openers k) n) (sym (other k differs)) (slot_later moves (ending w o) k (cell_at s.openers k) (word_at s k) (t.slots k)))
    ];
    held = λ k x has. elim (cases_eq k w.slot) [
      | inl same ↦ absurd (let e : None ≡ Some x = sym (get_or-set_same s.openers w.slot None None inside) ∙ ap (cell_at (set s.openers w.slot None)) (sym same) ∙ has in cc)
      | inr differs ↦ t.held k x (sym (get_or-set_other s.openers w.slot k None None differs) ∙ has)
    ];
    parents = λ key f is. still_under s (resumed s w (Some o)) f.place (λ v h. (risen v h (cases_eq v.slot w.slot), moved v (cases_wind v w))) (t.parents key f is);
    numbered = ap (λ (ms : List Move). length ms) (openings_same moves (ending w o) refl) ∙ t.numbered;
    counted = λ g.
        let a = count_push (opens_in g) moves (ending w o) in
        let b = count_push (ends_in g) moves (ending w o) in
        let c = count_emptied (is_of_graph g) s.openers w.slot o inside is refl in
        let d = t.counted g in
        omega (arith, a, b, c, d);
  } where
    inside : w.slot < length s.openers
    inside = some_within s.openers w.slot o is

    inside2 : w.slot < length s.words
    inside2 = in_range s.words w.slot (omega (arith, at))

    before : (k : ℕ) → k ≡ w.slot → word_of s.words k ≡ w.turn * 4 + 2
    before k same = ap (word_of s.words) same ∙ at

    after : (k : ℕ) → k ≡ w.slot → word_of (set s.words w.slot (next_free w)) k ≡ w.turn * 4 + 4
    after k same = ap (word_of (set s.words w.slot (next_free w))) same ∙ get_or-set_same s.words w.slot (next_free w) 0 inside2

    other : (k : ℕ) → k ≢ w.slot → word_of (set s.words w.slot (next_free w)) k ≡ word_of s.words k
    other k differs = get_or-set_other s.words w.slot k (next_free w) 0 differs

    risen : (v : WindNo) → pending v ≤ word_at s v.slot → (v.slot ≡ w.slot) ⊎ (v.slot ≢ w.slot) → pending v ≤ word_of (set s.words w.slot (next_free w)) v.slot
    risen v h (inl same) = let old = before v.slot same in let new = after v.slot same in omega (arith, h, old, new)
    risen v h (inr differs) = let e = other v.slot differs in omega (arith, h, e)

    moved : (v : WindNo) → (v ≡ w) ⊎ (v ≢ w) → (opener_of (resumed s w (Some o)) v ≡ opener_of s v) ⊎ (opener_of (resumed s w (Some o)) v ≡ None)
    moved v (inl same) = inr (ap (opener_of (resumed s w (Some o))) same ∙ (opener_resumed s w (Some o) at).here)
    moved v (inr differs) = inl ((opener_resumed s w (Some o) at).others v differs)

    -- the slot's opener is of this wind's turn
    was_opened : list_any (is_opening_of (ending w o)) moves ≡ true
    was_opened = by_slot (subst (λ c. IsSlot moves w.slot c (word_at s w.slot)) is (t.slots w.slot)) where
      by_slot : IsSlot moves w.slot (Some o) (word_at s w.slot) → list_any (is_opening_of (ending w o)) moves ≡ true
      by_slot was = subst (λ n. list_any (is_opening_of (ending (record { slot = w.slot; turn = n }) o)) moves ≡ true) (same_turn was.0 was.1) was.2 where
        same_turn : (turn : ℕ) → (word_at s w.slot ≡ turn * 4 + 1) ⊎ (word_at s w.slot ≡ turn * 4 + 2) → turn ≡ w.turn
        same_turn turn (inl e) = absurd (omega (arith, e, at))
        same_turn turn (inr e) = omega (arith, e, at)
