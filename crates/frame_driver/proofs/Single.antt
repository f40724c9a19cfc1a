-- No slot of a frame has two open winds.
use Rattle.std.proofs.Common.{◌≡◌, refl, sym, ap, subst, ◌∙◌, set, inl, inr}
use Rattle.std.proofs.lemmas.Bool.{cases_eq, eq-eqb}
use Rattle.std.proofs.lemmas.List.{get_or-set_same, get_or-set_other}
use Rattle.std.specs.List.{list_any}
use Rattle.std.specs.Prelude.{ℕ, ◌≢◌, ◌⊎◌, ◌≤◌, ◌==◌, true, false, List, length, Option, Some, None}
use Rattle.frame_stack.specs.declared.frame.Frame.{Frame}
use Rattle.frame_stack.specs.declared.frame.Opener.{Opener}
use Rattle.frame_stack.specs.Cells.{cell_at, put_at}
use Rattle.frame_stack.specs.Moves.{Move}
use Rattle.frame_stack.specs.Reached.{IsReached}
use Rattle.frame_stack.specs.Reached.IsReached.{Started, Opened, Wound, Handed, Settled, Resumed, Kept, Freed}
use Rattle.frame_stack.specs.Stack.{Stack, Line, is_in, frame_at, opener_in, keeping, with_local}
use Rattle.frame_stack.proofs.Lists.{none_passes, and_true}
use Rattle.frame_stack.proofs.Puts.{put_same, put_other}
use Rattle.frame_stack.proofs.Vacancy.{some_within}

abbrev pub AreSingle : List (Option Opener) → Type 0
AreSingle os = (i j : ℕ) (a b : Opener) → cell_at os i ≡ Some a → cell_at os j ≡ Some b → a.frame ≡ b.frame → a.slot ≡ b.slot → i ≡ j

some_same : (a b : Opener) → Some a ≡ Some b → a ≡ b
some_same a b e = cc

-- a wind in a slot that was free
put_single : (os : List (Option Opener)) (at : ℕ) (o : Opener) → at ≤ length os → list_any (is_in o.frame o.slot) os ≡ false → AreSingle os → AreSingle (put_at os at (Some o))
put_single os at o within free single i j a b at_i at_j frames slots = apart i j a b at_i at_j frames slots (cases_eq i at) (cases_eq j at) where
  here : (i : ℕ) (a : Opener) → i ≡ at → cell_at (put_at os at (Some o)) i ≡ Some a → o ≡ a
  here i a same is = some_same o a (sym (put_same os at (Some o) None within) ∙ ap (cell_at (put_at os at (Some o))) (sym same) ∙ is)

  there : (i : ℕ) (a : Opener) → i ≢ at → cell_at (put_at os at (Some o)) i ≡ Some a → cell_at os i ≡ Some a
  there i a differs is = sym (put_other os at i (Some o) None differs) ∙ is

  none : (j : ℕ) (a b : Opener) → o ≡ a → cell_at os j ≡ Some b → a.frame ≡ b.frame → a.slot ≡ b.slot → ⊥
  none j a b same is frames slots =
      let passes : is_in o.frame o.slot (Some b) ≡ true = and_true (b.frame == o.frame) (b.slot == o.slot) (eq-eqb b.frame o.frame (sym frames ∙ ap (λ (x : Opener). x.frame) (sym same))) (eq-eqb b.slot o.slot (sym slots ∙ ap (λ (x : Opener). x.slot) (sym same))) in
      let fails = none_passes (is_in o.frame o.slot) os j b free is in
      absurd cc

  apart : (i j : ℕ) (a b : Opener) → cell_at (put_at os at (Some o)) i ≡ Some a → cell_at (put_at os at (Some o)) j ≡ Some b → a.frame ≡ b.frame → a.slot ≡ b.slot → (i ≡ at) ⊎ (i ≢ at) → (j ≡ at) ⊎ (j ≢ at) → i ≡ j
  apart i j a b at_i at_j frames slots (inl x) (inl y) = x ∙ sym y
  apart i j a b at_i at_j frames slots (inl x) (inr y) = absurd (none j a b (here i a x at_i) (there j b y at_j) frames slots)
  apart i j a b at_i at_j frames slots (inr x) (inl y) = absurd (none i b a (here j b y at_j) (there i a x at_i) (sym frames) (sym slots))
  apart i j a b at_i at_j frames slots (inr x) (inr y) = single i j a b (there i a x at_i) (there j b y at_j) frames slots

-- a wind that ended
emptied_single : (os : List (Option Opener)) (at : ℕ) (o : Opener) → cell_at os at ≡ Some o → AreSingle os → AreSingle (set os at None)
emptied_single os at o is single i j a b at_i at_j frames slots = single i j a b (there i a at_i (cases_eq i at)) (there j b at_j (cases_eq j at)) frames slots where
  there : (i : ℕ) (a : Opener) → cell_at (set os at None) i ≡ Some a → (i ≡ at) ⊎ (i ≢ at) → cell_at os i ≡ Some a
  there i a has (inl same) = absurd (let e : None ≡ Some a = sym (get_or-set_same os at None None (some_within os at o is)) ∙ ap (cell_at (set os at None)) (sym same) ∙ has in cc)
  there i a has (inr differs) = sym (get_or-set_other os at i None None differs) ∙ has

module _ {L : Type 0} where
  local_openers : (s : Stack L) (key : ℕ) (local : Option L) → (with_local s key local).openers ≡ s.openers
  local_openers s key local = by_cell (frame_at s key) where
    by_cell : (c : Option (Frame L)) → (keeping s key local c).openers ≡ s.openers
    by_cell None = refl
    by_cell (Some f) = refl

  wound_single : (s : Stack L) (key slot number at : ℕ) (c : Option (Frame L)) → at ≤ length s.openers → list_any (is_in key slot) s.openers ≡ false → AreSingle s.openers → AreSingle (put_at s.openers at (Some (opener_in key slot number c)))
  wound_single s key slot number at None within free single = put_single s.openers at (record { frame = key; slot = slot; graph = 0; call = 0; number = number }) within free single
  wound_single s key slot number at (Some f) within free single = put_single s.openers at (record { frame = key; slot = slot; graph = f.place.graph; call = f.place.call; number = number }) within free single

  pub single : (s : Stack L) (moves : List Move) (handed : List Line) → IsReached s moves handed → AreSingle s.openers
  single _ _ _ Started = λ i j a b at_i at_j frames slots. absurd cc
  single _ _ _ (Opened s t moves handed key f r under ins is) = subst (λ (x : Stack L). AreSingle x.openers) (sym is) (single s moves handed r)
  single _ _ _ (Wound s t moves handed key slot w r there free is) = subst (λ (x : Stack L). AreSingle x.openers) (sym is.made) (wound_single s key slot s.opened w.slot (frame_at s key) is.within free (single s moves handed r))
  single _ _ _ (Handed s t moves handed r is) = subst (λ (x : Stack L). AreSingle x.openers) (sym is) (single s moves handed r)
  single _ _ _ (Settled s t moves handed w r at is) = subst (λ (x : Stack L). AreSingle x.openers) (sym is) (single s moves handed r)
  single _ _ _ (Resumed s t moves handed w o r at has is) = subst (λ (x : Stack L). AreSingle x.openers) (sym is) (emptied_single s.openers w.slot o has (single s moves handed r))
  single _ _ _ (Kept s t moves handed key local r is) = subst (λ (x : Stack L). AreSingle x.openers) (sym is) (subst AreSingle (sym (local_openers s key local)) (single s moves handed r))
  single _ _ _ (Freed s t moves handed key r none is) = subst (λ (x : Stack L). AreSingle x.openers) (sym is) (single s moves handed r)
