-- Who opened a wind, after one slot's opener and word were written.
use Rattle.std.proofs.Common.{◌≡◌, refl, sym, ap, ◌∙◌, arith, set, inl, inr}
use Rattle.std.specs.Prelude.{ℕ, ◌≢◌, ◌⊎◌, ◌≤◌, ◌+◌, ◌*◌, ◌==◌, ◌||◌, cond, Bool, true, false, length, Option, Some, None}
use Rattle.std.proofs.lemmas.Bool.{cases_eq, eqb-true, eq-eqb, ne_eqb, or_from, or_right}
use Rattle.std.proofs.lemmas.List.{get_or-set_same, get_or-set_other}
use Rattle.xlator_law.specs.declared.winds.WindNo.{WindNo}
use Rattle.frame_stack.specs.declared.frame.Opener.{Opener}
use Rattle.frame_stack.specs.Cells.{cell_at}
use Rattle.frame_stack.specs.Stack.{Stack, word_at, word_of, pending, replied, next_free, opener_of, wound, resumed}
use Rattle.frame_stack.specs.Changes.{ChangesOpener}
use Rattle.frame_stack.proofs.Puts.{put_same, put_other}
use Rattle.frame_stack.proofs.Sound.{in_range}

wind_at : ℕ → ℕ → WindNo
wind_at slot turn = record { slot = slot; turn = turn }

same_numbers : (v w : WindNo) → v.slot ≡ w.slot → v.turn ≡ w.turn → v ≡ w
unfolding wind_at
same_numbers v w s t = let p : wind_at v.slot v.turn ≡ wind_at w.slot v.turn = ap (λ n. wind_at n v.turn) s in let q : wind_at w.slot v.turn ≡ wind_at w.slot w.turn = ap (wind_at w.slot) t in p ∙ q

pub cases_wind : (v w : WindNo) → (v ≡ w) ⊎ (v ≢ w)
cases_wind v w = by_case (cases_eq v.slot w.slot) (cases_eq v.turn w.turn) where
  by_case : (v.slot ≡ w.slot) ⊎ (v.slot ≢ w.slot) → (v.turn ≡ w.turn) ⊎ (v.turn ≢ w.turn) → (v ≡ w) ⊎ (v ≢ w)
  by_case (inl s) (inl t) = inl (same_numbers v w s t)
  by_case (inl s) (inr t) = inr (λ e. t (ap (λ (x : WindNo). x.turn) e))
  by_case (inr s) t = inr (λ e. s (ap (λ (x : WindNo). x.slot) e))

-- two winds of one slot differ by turn
other_turn : (v w : WindNo) → v ≢ w → v.slot ≡ w.slot → v.turn ≢ w.turn
other_turn v w differs slot turn = differs (same_numbers v w slot turn)

module _ {L : Type 0} where
  pub no_opener : (s : Stack L) (v : WindNo) → word_at s v.slot ≢ pending v → word_at s v.slot ≢ replied v → opener_of s v ≡ None
  no_opener s v p r = ap (λ (b : Bool). cond b (cell_at s.openers v.slot) None) (or_from _ _ (ne_eqb (word_at s v.slot) (pending v) p) (ne_eqb (word_at s v.slot) (replied v) r))

  pub opener_pending : (s : Stack L) (v : WindNo) → word_at s v.slot ≡ pending v → opener_of s v ≡ cell_at s.openers v.slot
  opener_pending s v p = ap (λ (b : Bool). cond (b || (word_at s v.slot == replied v)) (cell_at s.openers v.slot) None) (eq-eqb (word_at s v.slot) (pending v) p)

  pub opener_replied : (s : Stack L) (v : WindNo) → word_at s v.slot ≡ replied v → opener_of s v ≡ cell_at s.openers v.slot
  opener_replied s v r = ap (λ (b : Bool). cond b (cell_at s.openers v.slot) None) (or_right (word_at s v.slot == pending v) (word_at s v.slot == replied v) (eq-eqb (word_at s v.slot) (replied v) r))

  -- an opener's wind is pending or replied
  pub opener_word : (s : Stack L) (v : WindNo) (o : Opener) → opener_of s v ≡ Some o → ((word_at s v.slot ≡ pending v) ⊎ (word_at s v.slot ≡ replied v)) × (cell_at s.openers v.slot ≡ Some o)
  opener_word s v o is = by_case (word_at s v.slot == pending v) (word_at s v.slot == replied v) refl refl is where
    by_case : (p r : Bool) → (word_at s v.slot == pending v) ≡ p → (word_at s v.slot == replied v) ≡ r → cond (p || r) (cell_at s.openers v.slot) None ≡ Some o → ((word_at s v.slot ≡ pending v) ⊎ (word_at s v.slot ≡ replied v)) × (cell_at s.openers v.slot ≡ Some o)
    by_case true r p_is r_is e = (inl (eqb-true (word_at s v.slot) (pending v) p_is), e)
    by_case false true p_is r_is e = (inr (eqb-true (word_at s v.slot) (replied v) r_is), e)
    by_case false false p_is r_is e = absurd cc

  -- a wind whose slot is as it was
  unmoved : (s t : Stack L) (v : WindNo) → word_at t v.slot ≡ word_at s v.slot → cell_at t.openers v.slot ≡ cell_at s.openers v.slot → opener_of t v ≡ opener_of s v
  unmoved s t v word cell = ap (λ (n : ℕ). cond ((n == pending v) || (n == replied v)) (cell_at t.openers v.slot) None) word ∙ ap (λ (c : Option Opener). cond ((word_at s v.slot == pending v) || (word_at s v.slot == replied v)) c None) cell

  module _ (s : Stack L) (w : WindNo) (o : Opener) (within : w.slot ≤ length s.openers) (within_words : w.slot ≤ length s.words) (at : word_at s w.slot ≡ w.turn * 4) where
    word_wound : word_at (wound s w o) w.slot ≡ pending w
    word_wound = put_same s.words w.slot (pending w) 0 within_words

    pub opener_wound : ChangesOpener s (wound s w o) w (Some o)
    opener_wound = record {
      here = opener_pending (wound s w o) w word_wound ∙ put_same s.openers w.slot (Some o) None within;
      others = λ v differs. other v differs (cases_eq v.slot w.slot);
    } where
      word_there : (v : WindNo) → v.slot ≡ w.slot → word_at (wound s w o) v.slot ≡ w.turn * 4 + 1
      word_there v same = ap (word_of (wound s w o).words) same ∙ word_wound

      word_before : (v : WindNo) → v.slot ≡ w.slot → word_at s v.slot ≡ w.turn * 4
      word_before v same = ap (word_of s.words) same ∙ at

      other : (v : WindNo) → v ≢ w → (v.slot ≡ w.slot) ⊎ (v.slot ≢ w.slot) → opener_of (wound s w o) v ≡ opener_of s v
      other v differs (inl same) =
          let turn = other_turn v w differs same in
          let new = word_there v same in
          let old = word_before v same in
          no_opener (wound s w o) v (λ e. turn (omega (arith, new, e))) (λ e. omega (arith, new, e)) ∙ sym (no_opener s v (λ e. omega (arith, old, e)) (λ e. omega (arith, old, e)))
      other v differs (inr apart) = unmoved s (wound s w o) v (put_other s.words w.slot v.slot (pending w) 0 apart) (put_other s.openers w.slot v.slot (Some o) None apart)

  module _ (s : Stack L) (w : WindNo) (at : word_at s w.slot ≡ pending w) where
    pub opener_settled : (v : WindNo) → opener_of (record s { words = set s.words w.slot (replied w) }) v ≡ opener_of s v
    opener_settled v = by_slot (cases_eq v.slot w.slot) where
      new : v.slot ≡ w.slot → word_of (set s.words w.slot (replied w)) v.slot ≡ w.turn * 4 + 2
      new same = ap (word_of (set s.words w.slot (replied w))) same ∙ get_or-set_same s.words w.slot (replied w) 0 (in_range s.words w.slot (omega (arith, at)))

      old : v.slot ≡ w.slot → word_at s v.slot ≡ w.turn * 4 + 1
      old same = ap (word_of s.words) same ∙ at

      by_turn : v.slot ≡ w.slot → (v.turn ≡ w.turn) ⊎ (v.turn ≢ w.turn) → opener_of (record s { words = set s.words w.slot (replied w) }) v ≡ opener_of s v
      by_turn same (inl turn) = let n = new same in let b = old same in opener_replied (record s { words = set s.words w.slot (replied w) }) v (omega (arith, n, turn)) ∙ sym (opener_pending s v (omega (arith, b, turn)))
      by_turn same (inr turn) = let n = new same in let b = old same in no_opener (record s { words = set s.words w.slot (replied w) }) v (λ e. omega (arith, n, e)) (λ e. turn (omega (arith, n, e))) ∙ sym (no_opener s v (λ e. turn (omega (arith, b, e))) (λ e. omega (arith, b, e)))

      by_slot : (v.slot ≡ w.slot) ⊎ (v.slot ≢ w.slot) → opener_of (record s { words = set s.words w.slot (replied w) }) v ≡ opener_of s v
      by_slot (inl same) = by_turn same (cases_eq v.turn w.turn)
      by_slot (inr apart) = unmoved s (record s { words = set s.words w.slot (replied w) }) v (get_or-set_other s.words w.slot v.slot (replied w) 0 apart) refl

  module _ (s : Stack L) (w : WindNo) (o : Option Opener) (at : word_at s w.slot ≡ replied w) where
    pub opener_resumed : ChangesOpener s (resumed s w o) w None
    opener_resumed = record {
      here = none w refl (λ e. omega (arith, e)) (λ e. omega (arith, e));
      others = λ v differs. other v differs (cases_eq v.slot w.slot);
    } where
      new : (v : WindNo) → v.slot ≡ w.slot → word_at (resumed s w o) v.slot ≡ w.turn * 4 + 4
      new v same = ap (word_of (set s.words w.slot (next_free w))) same ∙ get_or-set_same s.words w.slot (next_free w) 0 (in_range s.words w.slot (omega (arith, at)))

      old : (v : WindNo) → v.slot ≡ w.slot → word_at s v.slot ≡ w.turn * 4 + 2
      old v same = ap (word_of s.words) same ∙ at

      none : (v : WindNo) → v.slot ≡ w.slot → w.turn * 4 + 4 ≢ pending v → w.turn * 4 + 4 ≢ replied v → opener_of (resumed s w o) v ≡ None
      none v same p r = no_opener (resumed s w o) v (λ e. p (sym (new v same) ∙ e)) (λ e. r (sym (new v same) ∙ e))

      other : (v : WindNo) → v ≢ w → (v.slot ≡ w.slot) ⊎ (v.slot ≢ w.slot) → opener_of (resumed s w o) v ≡ opener_of s v
      other v differs (inl same) =
          let turn = other_turn v w differs same in
          let b = old v same in
          none v same (λ e. omega (arith, e)) (λ e. omega (arith, e)) ∙ sym (no_opener s v (λ e. omega (arith, b, e)) (λ e. turn (omega (arith, b, e))))
      other v differs (inr apart) = unmoved s (resumed s w o) v (get_or-set_other s.words w.slot v.slot (next_free w) 0 apart) (get_or-set_other s.openers w.slot v.slot None None apart)
