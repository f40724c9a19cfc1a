-- What the calls of a frame's node and the carrying out of its step rest on.
use Rattle.std.proofs.Common.{◌≡◌, refl, sym, ap, subst, ◌∙◌, arith}
use Rattle.std.proofs.lemmas.Bool.{eq-eqb}
use Rattle.std.specs.Prelude.{ℕ, zero, suc, ◌<◌, ◌==◌, Bool, true, false, List, [], ◌∷◌, length, map, Option, Some, None, IsSome, IfSome, IsSomeAnd, Result, IfOk, slice_get, slice_index_or, count_by}
use Rattle.xlator_law.specs.declared.step.Step.{Step}
use Rattle.xlator_law.specs.declared.step.Step.TheVariants.{Wind, Wait, Unwind}
use Rattle.xlator_law.specs.declared.winds.WindNo.{WindNo}
use Rattle.xlator_law.specs.declared.winds.Place.{Place}
use Rattle.xlator_law.specs.Law.{Promise, Slots, Cause, AreWithin, IsStep, IsStepFrom}
use Rattle.frame_stack.specs.declared.frame.Frame.{Frame}
use Rattle.frame_stack.specs.declared.frame.Opener.{Opener}
use Rattle.frame_stack.specs.Stack.{Stack, HasParent, frame_at, place_in, place_at, local_in, local_at, awaits, opener_of}
use Rattle.frame_stack.proofs.Balanced.{balanced}
use Rattle.frame_driver.specs.declared.board.Board.{Board}
use Rattle.frame_driver.specs.declared.wiring.Wiring.{Wiring}
use Rattle.frame_driver.specs.Follows.{promise_at, promise_of, Fits}
use Rattle.frame_driver.specs.Machine.{AreWired, MayCarry, is_ended, is_lost}
use Rattle.frame_driver.specs.Sound.{is_of, IsReachable}
use Rattle.frame_driver.specs.Tasks.{one, IsOurs, IsOpenerOurs, ParentIsOurs, ParentWasOpened}
use Rattle.frame_driver.proofs.Frames.{turns_freed}
use Rattle.frame_driver.proofs.Standing.{Focused}
use Rattle.frame_driver.proofs.Winding.{may_wind}

module _ {L : Type 0} (s : Stack L) (key : ℕ) where
  -- what is read and taken is what the frame keeps
  pub stood_at : (place : Place) (local : L) → Some place ≡ place_at s key → Some local ≡ local_at s key → frame_at s key ≡ Some (record { place = place; local = Some local })
  stood_at place local p l = by_cell (frame_at s key) refl p l where
    by_cell : (c : Option (Frame L)) → frame_at s key ≡ c → Some place ≡ place_in c → Some local ≡ local_in c → frame_at s key ≡ Some (record { place = place; local = Some local })
    by_cell None at p l = absurd cc
    by_cell (Some f) at p l = at ∙ ap (λ o. Some (record { place = f.place; local = o })) (sym l) ∙ ap (λ q. Some (record { place = q; local = Some local })) (sym (some_place place f.place p)) where
      some_place : (a b : Place) → Some a ≡ Some b → a ≡ b
      some_place a b e = cc

  pub place_there : IsSomeAnd (frame_at s key) (λ f. IsSome f.local) → None ≡ place_at s key → ⊥
  place_there kept none = by_cell (frame_at s key) kept none where
    by_cell : (c : Option (Frame L)) → IsSomeAnd c (λ f. IsSome f.local) → None ≡ place_in c → ⊥
    by_cell None kept none = kept
    by_cell (Some f) kept none = absurd cc

  pub local_there : IsSomeAnd (frame_at s key) (λ f. IsSome f.local) → None ≡ local_at s key → ⊥
  local_there kept none = by_cell (frame_at s key) kept none where
    by_local : (o : Option L) → IsSome o → None ≡ o → ⊥
    by_local None some none = absurd cc
    by_local (Some l) some none = absurd cc

    by_cell : (c : Option (Frame L)) → IsSomeAnd c (λ f. IsSome f.local) → None ≡ local_in c → ⊥
    by_cell None kept none = kept
    by_cell (Some f) kept none = by_local f.local kept none

-- the node at a place, and what it promises by the list of promises
module _ {X F L : Type 0} (p : X → Promise F L) where
  pub node_there : (nodes : List X) (at : ℕ) (x d : X) → at < length (map p nodes) → x ≡ slice_index_or nodes at d → slice_get nodes at ≡ Some x
  node_there [] at x d low is = absurd (omega (arith, low))
  node_there (n ∷ ns) zero x d low is = ap (λ y. Some y) (sym is)
  node_there (n ∷ ns) (suc at) x d low is = node_there ns at x d (omega (arith, low)) is

  pub promise_there : (nodes : List X) (at : ℕ) (x d : X) → at < length (map p nodes) → x ≡ slice_index_or nodes at d → promise_at (map p nodes) at ≡ p x
  promise_there [] at x d low is = absurd (omega (arith, low))
  promise_there (n ∷ ns) zero x d low is = ap p (sym is)
  promise_there (n ∷ ns) (suc at) x d low is = promise_there ns at x d (omega (arith, low)) is

  pub fact_there : (nodes : List X) (at : ℕ) (x d : X) → at < length (map p nodes) → x ≡ slice_index_or nodes at d → (P : Promise F L → Type 0) → P (promise_at (map p nodes) at) → P (p x)
  fact_there nodes at x d low is P h = subst P (promise_there nodes at x d low is) h

  -- a step by the promise of the node is one by the list
  pub step_there : {R E : Type 0} (nodes : List X) (at : ℕ) (x d : X) → at < length (map p nodes) → x ≡ slice_index_or nodes at d → (cause : Cause F R L) (r : Result (Step F R L) E) → IfOk r (λ step. IsStep (p x) cause step) → IfOk r (λ step. IsStep (promise_at (map p nodes) at) cause step)
  step_there nodes at x d low is cause r h = subst (λ (q : Promise F L). IfOk r (λ step. IsStep q cause step)) (sym (promise_there nodes at x d low is)) h

-- the node of a place of this graph promises the same by the lists of all graphs and by that of the graph
pub promise_same : {F L : Type 0} (all : ℕ → List (Promise F L)) (own : List (Promise F L)) (g : ℕ) (place : Place) → place.graph ≡ g → all g ≡ own → promise_of all place ≡ promise_at own place.node
promise_same all own g place home ours = ap (λ n. promise_at (all n) place.node) home ∙ ap (λ ps. promise_at ps place.node) ours

-- the frame of a task of this graph is of this graph
pub home_of : {L : Type 0} (g : ℕ) (s : Stack L) (key : ℕ) (place : Place) (local : L) → IsOurs g (frame_at s key) → frame_at s key ≡ Some (record { place = place; local = Some local }) → place.graph ≡ g
home_of {L = L} g s key place local ours stood = subst (λ (c : Option (Frame L)). IsOurs g c) stood ours

-- a wind that is live and was opened for this call is a parent for it
pub has_parent : {L : Type 0} (s : Stack L) (g call : ℕ) (parent : Option WindNo) → is_lost s parent ≡ false → ParentWasOpened s g call parent → HasParent s g call parent
has_parent s g call None live was = tt
has_parent s g call (Some w) live was = by_opener (opener_of s w) live was.kept where
  by_opener : (c : Option Opener) → is_ended c ≡ false → ((o : Opener) → c ≡ Some o → (o.graph ≡ g) × (o.call ≡ call)) → IsSomeAnd c (λ o. (o.graph ≡ g) × (o.call ≡ call))
  by_opener None h kept = absurd cc
  by_opener (Some o) h kept = kept o refl

module _ {F R L : Type 0} (all : ℕ → List (Promise F L)) (own : List (Promise F L)) (wiring : Wiring) (fits : Fits own wiring) (key : ℕ) (place : Place) (b : Board F R L) (before : Slots) (most : ℕ) (f : Focused all b key place before) where
  none_awaited : (n : ℕ) → before n ≡ false → awaits b.stack key n ≡ false
  none_awaited n none = by_case (awaits b.stack key n) refl where
    by_case : (t : Bool) → awaits b.stack key n ≡ t → awaits b.stack key n ≡ false
    by_case false e = e
    by_case true e = absurd (let x = f.expects n in let o : one (awaits b.stack key n) ≡ 1 = ap one e in let z : one (before n) ≡ 0 = ap one none in omega (arith, x, o, z))

  are_wired : promise_of all place ≡ promise_at own place.node → (slots : ℕ) (xs : List (ℕ × ℕ × F)) → AreWithin (promise_of all place).children slots xs → AreWired wiring place.node xs
  are_wired same slots [] h = tt
  are_wired same slots (x ∷ xs) h = (fits.wired place.node x.0 (subst (λ (p : Promise F L). x.0 < p.children) same h.0), are_wired same slots xs h.2)

  -- a frame of the board's graph is counted
  some_counted : place.graph ≡ b.graph → b.frames ≡ count_by (is_of b.graph) b.stack.frames → 0 < b.frames
  some_counted home counted =
      let s = (turns_freed b.stack key (record { place = place; local = None }) f.out).sums (λ (x : Option (Frame L)). one (is_of b.graph x)) refl in
      let i : one (place.graph == b.graph) ≡ 1 = ap one (eq-eqb place.graph b.graph home) in
      omega (arith, s, i, counted)

  parent_ours : place.graph ≡ b.graph → IsReachable b.stack → ParentIsOurs b.stack b.graph place.parent
  parent_ours home r = by_parent place.parent ((balanced b.stack r.moves r.handed r.reached).parents key (record { place = place; local = None }) f.out) where
    by_opener : (c : Option Opener) → IfSome c (λ o. (o.graph ≡ place.graph) × (o.call ≡ place.call)) → IsOpenerOurs b.graph c
    by_opener None h = tt
    by_opener (Some o) h = h.0 ∙ home

    by_parent : (parent : Option WindNo) → IfSome parent (λ w. IfSome (opener_of b.stack w) (λ o. (o.graph ≡ place.graph) × (o.call ≡ place.call))) → ParentIsOurs b.stack b.graph parent
    by_parent None h = tt
    by_parent (Some w) h = by_opener (opener_of b.stack w) h

  -- a step by the law may be carried out
  pub may_carry : all b.graph ≡ own → place.graph ≡ b.graph → b.frames ≡ count_by (is_of b.graph) b.stack.frames → IsReachable b.stack → (step : Step F R L) → IsStepFrom (promise_of all place) before most step → MayCarry wiring place b key step
  may_carry ours home counted r (Wind winds local) is = (may_wind b.stack key before winds.items none_awaited is.fresh, are_wired (promise_same all own b.graph place home ours) (promise_of all place).slots winds.items is.within)
  may_carry ours home counted r (Wait local) is = tt
  may_carry ours home counted r (Unwind reply) is = (λ n. none_awaited n (is n), some_counted home counted, parent_ours home r)
