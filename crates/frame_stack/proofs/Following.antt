-- A frame's open winds follow its translator's slots.
use Rattle.std.proofs.Common.{◌≡◌, refl, sym, ap, ◌∙◌}
use Rattle.std.specs.Prelude.{ℕ, ◌==◌, ◌||◌, ◌&&◌, not, Bool, true, false, List, [], ◌∷◌}
use Rattle.std.proofs.lemmas.Bool.{eqb-true, eqb-false, eq-eqb, ne_eqb}
use Rattle.xlator_law.specs.Law.{Slots, with_winds, is_wound, AreFresh}
use Rattle.frame_stack.specs.Stack.{Stack}
use Rattle.frame_stack.specs.Following.{Awaits, MayOpen, FrameFollows, FramesFollow}
use Rattle.frame_stack.proofs.Lists.{or_none, or_false}

-- `==` looks at both sides alike
flip : (a b : ℕ) → (a == b) ≡ (b == a)
flip a b = by_case (a == b) refl where
  by_case : (t : Bool) → (a == b) ≡ t → t ≡ (b == a)
  by_case true e = sym (eq-eqb b a (sym (eqb-true a b e)))
  by_case false e = sym (ne_eqb b a (λ same. eqb-false a b e (sym same)))

own : (key a b : ℕ) → ((key == key) && (a == b)) ≡ (b == a)
own key a b = ap (λ t. t && (a == b)) (eq-eqb key key refl) ∙ flip a b

or_assoc : (a b c : Bool) → ((a || b) || c) ≡ (a || (b || c))
or_assoc true b c = refl
or_assoc false b c = refl

first_of : (a b : Bool) → (a || b) ≡ false → a ≡ false
first_of true b h = absurd cc
first_of false b h = refl

module _ {F L : Type 0} where
  -- the winds are opened in turn: what the frame awaits grows by one slot each time
  opened_in_turn : (s : Stack L) (key : ℕ) (before now : Slots) (ws : List (ℕ × ℕ × F)) → Awaits s key before → AreFresh before ws → ((n : ℕ) → now n ≡ with_winds before ws n) → MayOpen now s key ws
  opened_in_turn s key before now [] held fresh is = λ n. held n ∙ sym (is n ∙ or_false (before n))
  opened_in_turn s key before now (w ∷ ws) held fresh is = (
    held w.1 ∙ fresh.0,
    λ t more. opened_in_turn t key (λ n. before n || (n == w.1)) now ws
        (λ n. more key n ∙ ap (λ b. b || ((key == key) && (w.1 == n))) (held n) ∙ ap (λ b. before n || b) (own key w.1 n))
        (still ws fresh.1 fresh.2)
        (λ n. is n ∙ sym (or_assoc (before n) (n == w.1) (is_wound ws n))),
  ) where
    still : (xs : List (ℕ × ℕ × F)) → is_wound xs w.1 ≡ false → AreFresh before xs → AreFresh (λ n. before n || (n == w.1)) xs
    still [] apart h = tt
    still (x ∷ xs) apart h = (or_none (before x.1) (x.1 == w.1) h.0 (flip x.1 w.1 ∙ first_of (w.1 == x.1) (is_wound xs w.1) apart), h.1, still xs (rest (w.1 == x.1) (is_wound xs w.1) apart) h.2) where
      rest : (a b : Bool) → (a || b) ≡ false → b ≡ false
      rest true b h = absurd cc
      rest false b h = h

  pub follows : (s : Stack L) (key : ℕ) (slots : Slots) → Awaits s key slots → FrameFollows F s key slots
  follows s key slots held = record {
    winds = λ p most ws local step. opened_in_turn s key slots (p.unanswered local) ws held step.fresh step.kept;
    answered = λ t slot less n. less key n ∙ ap (λ b. b && not ((key == key) && (slot == n))) (held n) ∙ ap (λ b. slots n && not b) (own key slot n);
    unwound = λ none n. held n ∙ none n;
  }

pub frames_follow : (F L : Type 0) → FramesFollow F L
frames_follow F L = follows {F = F} {L = L}
