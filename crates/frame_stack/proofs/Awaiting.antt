-- Which slots of frames await a reply, after one opener was put in or taken out.
use Rattle.std.proofs.Common.{◌≡◌, refl, sym, ap, ◌∙◌, arith, set, inl, inr}
use Rattle.std.specs.Prelude.{ℕ, ◌≢◌, ◌⊎◌, zero, suc, ◌≤◌, ◌<◌, ◌==◌, ◌||◌, ◌&&◌, not, Bool, true, false, List, [], ◌∷◌, length, Option, Some, None}
use Rattle.std.specs.List.{list_any}
use Rattle.std.proofs.lemmas.Bool.{cases_eq, eqb-true, eqb-false}
use Rattle.std.proofs.lemmas.List.{get_or-set_same, get_or-set_other}
use Rattle.frame_stack.specs.declared.frame.Opener.{Opener}
use Rattle.frame_stack.specs.Cells.{cell_at, put_at, IsInserted}
use Rattle.frame_stack.specs.Stack.{is_in}
use Rattle.frame_stack.specs.Sound.{AreKept}
use Rattle.frame_stack.proofs.Vacancy.{some_within}
use Rattle.frame_stack.proofs.Puts.{put_last, put_in}
use Rattle.frame_stack.proofs.Lists.{any_push, or_none, or_false}

or_swap : (a b c : Bool) → (a || (b || c)) ≡ ((a || b) || c)
or_swap true b c = refl
or_swap false b c = refl

module _ {X : Type 0} (p : Option X → Bool) (nothing : p None ≡ false) where
  pub none_any : (cells : List (Option X)) → ((k : ℕ) (x : X) → cell_at cells k ≡ Some x → p (Some x) ≡ false) → list_any p cells ≡ false
  none_any [] all = refl
  none_any (None ∷ cells) all = or_none (p None) (list_any p cells) nothing (none_any cells (λ k x is. all (suc k) x is))
  none_any (Some x ∷ cells) all = or_none (p (Some x)) (list_any p cells) (all zero x refl) (none_any cells (λ k y is. all (suc k) y is))

  any_set : (cells : List (Option X)) (k : ℕ) (c : Option X) → k < length cells → p (cell_at cells k) ≡ false → list_any p (set cells k c) ≡ (list_any p cells || p c)
  any_set [] k c lt h = absurd (omega (arith, lt))
  any_set (d ∷ cells) zero c lt h = or_flip (p c) (list_any p cells) ∙ sym (ap (λ b. (b || list_any p cells) || p c) h) where
    or_flip : (a b : Bool) → (a || b) ≡ (b || a)
    or_flip true true = refl
    or_flip true false = refl
    or_flip false true = refl
    or_flip false false = refl
  any_set (d ∷ cells) (suc k) c lt h = ap (λ b. p d || b) (any_set cells k c (omega (arith, lt)) h) ∙ or_swap (p d) (list_any p cells) (p c)

  pub any_put : (cells : List (Option X)) (k : ℕ) (c : Option X) → k ≤ length cells → cell_at cells k ≡ None → list_any p (put_at cells k c) ≡ (list_any p cells || p c)
  any_put cells k c h vacant = by_case (k == length cells) refl where
    by_case : (b : Bool) → (k == length cells) ≡ b → list_any p (put_at cells k c) ≡ (list_any p cells || p c)
    by_case true e = ap (list_any p) (put_last cells k c (eqb-true k (length cells) e)) ∙ any_push p cells c
    by_case false e = let differs = eqb-false k (length cells) e in ap (list_any p) (put_in cells k c differs) ∙ any_set cells k c (within differs) (ap p vacant ∙ nothing) where
      within : k ≢ length cells → k < length cells
      within differs = omega (arith, h, differs)

pub awaits_put : (os os2 : List (Option Opener)) (at : ℕ) (o : Opener) → IsInserted os os2 at o → (k n : ℕ) → list_any (is_in k n) os2 ≡ (list_any (is_in k n) os || ((o.frame == k) && (o.slot == n)))
awaits_put os os2 at o ins k n = ap (list_any (is_in k n)) ins.put ∙ any_put (is_in k n) refl os at (Some o) ins.within ins.vacant

-- the only opener of its frame's slot is taken out
pub awaits_emptied : (os : List (Option Opener)) (ws : List ℕ) (opened at : ℕ) (o : Opener) → AreKept os ws opened → cell_at os at ≡ Some o → (k n : ℕ) → list_any (is_in k n) (set os at None) ≡ (list_any (is_in k n) os && not ((o.frame == k) && (o.slot == n)))
awaits_emptied os ws opened at o kept is k n = by_case ((o.frame == k) && (o.slot == n)) refl where
  lt : at < length os
  lt = some_within os at o is

  and_one : (b : Bool) → (b && true) ≡ b
  and_one true = refl
  and_one false = refl

  and_zero : (b : Bool) → (b && false) ≡ false
  and_zero true = refl
  and_zero false = refl

  first : (a b : Bool) → (a && b) ≡ true → a ≡ true
  first true b h = refl
  first false b h = absurd cc

  second : (a b : Bool) → (a && b) ≡ true → b ≡ true
  second true b h = h
  second false b h = absurd cc

  -- another opener is of another slot
  other : ((o.frame == k) && (o.slot == n)) ≡ true → (i : ℕ) (x : Opener) → cell_at (set os at None) i ≡ Some x → is_in k n (Some x) ≡ false
  other e i x has = by_place (cases_eq i at) where
    by_test : (b : Bool) → is_in k n (Some x) ≡ b → i ≢ at → cell_at os i ≡ Some x → is_in k n (Some x) ≡ false
    by_test false f differs stood = f
    by_test true f differs stood = absurd (differs (kept.single i at x o stood is
        (eqb-true x.frame k (first (x.frame == k) (x.slot == n) f) ∙ sym (eqb-true o.frame k (first (o.frame == k) (o.slot == n) e)))
        (eqb-true x.slot n (second (x.frame == k) (x.slot == n) f) ∙ sym (eqb-true o.slot n (second (o.frame == k) (o.slot == n) e)))))

    by_place : (i ≡ at) ⊎ (i ≢ at) → is_in k n (Some x) ≡ false
    by_place (inl same) = absurd (let none : None ≡ Some x = sym (get_or-set_same os at None None lt) ∙ ap (cell_at (set os at None)) (sym same) ∙ has in cc)
    by_place (inr differs) = by_test (is_in k n (Some x)) refl differs (sym (get_or-set_other os at i None None differs) ∙ has)

  by_case : (b : Bool) → ((o.frame == k) && (o.slot == n)) ≡ b → list_any (is_in k n) (set os at None) ≡ (list_any (is_in k n) os && not b)
  by_case true e = none_any (is_in k n) refl (set os at None) (other e) ∙ sym (and_zero (list_any (is_in k n) os))
  by_case false e = any_set (is_in k n) refl os at None lt (ap (is_in k n) is ∙ e) ∙ or_false (list_any (is_in k n) os) ∙ sym (and_one (list_any (is_in k n) os))
