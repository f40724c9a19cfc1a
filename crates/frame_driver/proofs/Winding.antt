-- What a frame's winds leave as it was, and which slots the frame awaits after them.
use Rattle.std.proofs.Common.{◌≡◌, refl, sym, ap, subst, ◌∙◌, arith}
use Rattle.std.proofs.lemmas.Bool.{eqb-true, eqb-false, eq-eqb, ne_eqb}
use Rattle.std.specs.Prelude.{ℕ, ◌≢◌, ◌==◌, ◌||◌, ◌&&◌, Bool, true, false, List, [], ◌∷◌, ◌++◌, Option, Some, count_by}
use Rattle.xlator_law.specs.declared.winds.Place.{Place}
use Rattle.xlator_law.specs.declared.winds.WindNo.{WindNo}
use Rattle.xlator_law.specs.Law.{Slots, is_wound, AreFresh}
use Rattle.frame_stack.proofs.Lists.{count_push}
use Rattle.frame_stack.specs.Stack.{Stack, awaits}
use Rattle.frame_driver.specs.declared.board.Board.{Board}
use Rattle.frame_driver.specs.declared.items.Task.{Task}
use Rattle.frame_driver.specs.declared.items.Task.TheVariants.{Enter}
use Rattle.frame_driver.specs.declared.wiring.Child.{Child}
use Rattle.frame_driver.specs.declared.wiring.Child.TheVariants.{Node, Outside, Nothing}
use Rattle.frame_driver.specs.declared.wiring.Wiring.{Wiring}
use Rattle.frame_driver.specs.Machine.{IsWoundDown, AreWoundDown, handed_to, MayWind}
use Rattle.frame_driver.specs.Machine.AreWoundDown.{NoWind, OneMore}
use Rattle.frame_driver.specs.Tasks.{one}
use Rattle.frame_driver.specs.Wiring.{below}

-- `==` looks at both sides alike
pub flip : (a b : ℕ) → (a == b) ≡ (b == a)
flip a b = by_case (a == b) refl where
  by_case : (t : Bool) → (a == b) ≡ t → t ≡ (b == a)
  by_case true e = sym (eq-eqb b a (sym (eqb-true a b e)))
  by_case false e = sym (ne_eqb b a (λ same. eqb-false a b e (sym same)))

or_false : (b : Bool) → (b || false) ≡ b
or_false true = refl
or_false false = refl

or_assoc : (a b c : Bool) → ((a || b) || c) ≡ (a || (b || c))
or_assoc true b c = refl
or_assoc false b c = refl

module _ {F R L : Type 0} where
  -- where a fop goes changes no frame and no wind
  pub handed_stack : (b : Board F R L) (to : Child) (place : Place) (child : ℕ) (w : WindNo) (fop : F) → (handed_to b to place child w fop).stack ≡ b.stack
  handed_stack b (Node to) place child w fop = refl
  handed_stack b Outside place child w fop = refl
  handed_stack b Nothing place child w fop = refl

  pub handed_graph : (b : Board F R L) (to : Child) (place : Place) (child : ℕ) (w : WindNo) (fop : F) → (handed_to b to place child w fop).graph ≡ b.graph
  handed_graph b (Node to) place child w fop = refl
  handed_graph b Outside place child w fop = refl
  handed_graph b Nothing place child w fop = refl

  handed_frames : (b : Board F R L) (to : Child) (place : Place) (child : ℕ) (w : WindNo) (fop : F) → (handed_to b to place child w fop).frames ≡ b.frames
  handed_frames b (Node to) place child w fop = refl
  handed_frames b Outside place child w fop = refl
  handed_frames b Nothing place child w fop = refl

  handed_waiting : (b : Board F R L) (to : Child) (place : Place) (child : ℕ) (w : WindNo) (fop : F) → (handed_to b to place child w fop).waiting ≡ b.waiting
  handed_waiting b (Node to) place child w fop = refl
  handed_waiting b Outside place child w fop = refl
  handed_waiting b Nothing place child w fop = refl

module _ {F : Type 0} where
  wound_push : (xs : List (ℕ × ℕ × F)) (x : ℕ × ℕ × F) (n : ℕ) → is_wound (xs ++ x ∷ []) n ≡ (is_wound xs n || (n == x.1))
  wound_push [] x n = or_false (n == x.1)
  wound_push (y ∷ ys) x n = ap (λ b. (n == y.1) || b) (wound_push ys x n) ∙ sym (or_assoc (n == y.1) (is_wound ys n) (n == x.1))

module _ {F R L : Type 0} (wiring : Wiring) (place : Place) (key : ℕ) where
  pub wound_stack : (old new : Board F R L) (x : ℕ × ℕ × F) → (is : IsWoundDown wiring place key old new x) → new.stack ≡ is.mid.stack
  wound_stack old new x is = ap (λ (b : Board F R L). b.stack) is.handed ∙ handed_stack is.mid (below wiring place.node x.0) place x.0 is.wind x.2

  module _ (old : Board F R L) where
    -- the frames are as they were
    pub frames_kept : (xs : List (ℕ × ℕ × F)) (new : Board F R L) → AreWoundDown wiring place key old xs new → new.stack.frames ≡ old.stack.frames
    frames_kept _ _ NoWind = refl
    frames_kept _ _ (OneMore xs x mid new before is) = ap (λ (s : Stack L). s.frames) (wound_stack mid new x is) ∙ ap (λ (s : Stack L). s.frames) is.opened.wound.made ∙ frames_kept xs mid before

    -- so is what the board counts and notes
    pub graph_kept : (xs : List (ℕ × ℕ × F)) (new : Board F R L) → AreWoundDown wiring place key old xs new → new.graph ≡ old.graph
    graph_kept _ _ NoWind = refl
    graph_kept _ _ (OneMore xs x mid new before is) = ap (λ (b : Board F R L). b.graph) is.handed ∙ handed_graph is.mid (below wiring place.node x.0) place x.0 is.wind x.2 ∙ ap (λ (b : Board F R L). b.graph) is.opened.rest ∙ graph_kept xs mid before

    pub count_kept : (xs : List (ℕ × ℕ × F)) (new : Board F R L) → AreWoundDown wiring place key old xs new → new.frames ≡ old.frames
    count_kept _ _ NoWind = refl
    count_kept _ _ (OneMore xs x mid new before is) = ap (λ (b : Board F R L). b.frames) is.handed ∙ handed_frames is.mid (below wiring place.node x.0) place x.0 is.wind x.2 ∙ ap (λ (b : Board F R L). b.frames) is.opened.rest ∙ count_kept xs mid before

    pub waiting_kept : (xs : List (ℕ × ℕ × F)) (new : Board F R L) → AreWoundDown wiring place key old xs new → new.waiting ≡ old.waiting
    waiting_kept _ _ NoWind = refl
    waiting_kept _ _ (OneMore xs x mid new before is) = ap (λ (b : Board F R L). b.waiting) is.handed ∙ handed_waiting is.mid (below wiring place.node x.0) place x.0 is.wind x.2 ∙ ap (λ (b : Board F R L). b.waiting) is.opened.rest ∙ waiting_kept xs mid before

    -- the frame awaits the slots of its winds besides
    pub awaits_more : (xs : List (ℕ × ℕ × F)) (new : Board F R L) → AreWoundDown wiring place key old xs new → (n : ℕ) → awaits new.stack key n ≡ (awaits old.stack key n || is_wound xs n)
    awaits_more _ _ NoWind n = sym (or_false (awaits old.stack key n))
    awaits_more _ _ (OneMore xs x mid new before is) n =
        ap (λ (s : Stack L). awaits s key n) (wound_stack mid new x is)
        ∙ is.opened.awaits key n
        ∙ ap (λ b. awaits mid.stack key n || (b && (x.1 == n))) (eq-eqb key key refl)
        ∙ ap (λ b. b || (x.1 == n)) (awaits_more xs mid before n)
        ∙ or_assoc (awaits old.stack key n) (is_wound xs n) (x.1 == n)
        ∙ ap (λ b. awaits old.stack key n || (is_wound xs n || b)) (flip x.1 n)
        ∙ ap (λ b. awaits old.stack key n || b) (sym (wound_push xs x n))

    -- other frames await what they awaited
    pub others_await : (xs : List (ℕ × ℕ × F)) (new : Board F R L) → AreWoundDown wiring place key old xs new → (k n : ℕ) → k ≢ key → awaits new.stack k n ≡ awaits old.stack k n
    others_await _ _ NoWind k n differs = refl
    others_await _ _ (OneMore xs x mid new before is) k n differs =
        ap (λ (s : Stack L). awaits s k n) (wound_stack mid new x is)
        ∙ is.opened.awaits k n
        ∙ ap (λ b. awaits mid.stack k n || (b && (x.1 == n))) (ne_eqb key k (λ same. differs (sym same)))
        ∙ or_false (awaits mid.stack k n)
        ∙ others_await xs mid before k n differs

  -- the tasks that are no entering fops are as they were
  module _ (p : Task F R → Bool) (none : (node call : ℕ) (parent : Option WindNo) (fop : F) → p (Enter node call parent fop) ≡ false) where
    handed_count : (b : Board F R L) (to : Child) (child : ℕ) (w : WindNo) (fop : F) → count_by p (handed_to b to place child w fop).queue ≡ count_by p b.queue
    handed_count b (Node to) child w fop =
        let c = count_push p b.queue (Enter to place.call (Some w) fop) in
        let z : one (p (Enter to place.call (Some w) fop)) ≡ 0 = ap one (none to place.call (Some w) fop) in
        omega (arith, c, z)
    handed_count b Outside child w fop = refl
    handed_count b Nothing child w fop = refl

    pub tasks_kept : (old : Board F R L) (xs : List (ℕ × ℕ × F)) (new : Board F R L) → AreWoundDown wiring place key old xs new → count_by p new.queue ≡ count_by p old.queue
    tasks_kept old _ _ NoWind = refl
    tasks_kept old _ _ (OneMore xs x mid new before is) = ap (λ (b : Board F R L). count_by p b.queue) is.handed ∙ handed_count is.mid (below wiring place.node x.0) x.0 is.wind x.2 ∙ ap (λ (b : Board F R L). count_by p b.queue) is.opened.rest ∙ tasks_kept old xs mid before

-- The winds of a step by the law find their slots free, where the frame awaits no slot that is not unanswered
-- before the step.
pub may_wind : {F L : Type 0} (s : Stack L) (key : ℕ) (before : Slots) (xs : List (ℕ × ℕ × F)) → ((n : ℕ) → before n ≡ false → awaits s key n ≡ false) → AreFresh before xs → MayWind s key xs
may_wind s key before [] few fresh = tt
may_wind {F = F} {L = L} s key before (x ∷ xs) few fresh = (
  few x.1 fresh.0,
  λ t more. may_wind t key (λ n. before n || (n == x.1)) xs
      (λ n none. more key n ∙ ap (λ b. awaits s key n || (b && (x.1 == n))) (eq-eqb key key refl) ∙ both_none (awaits s key n) (x.1 == n) (few n (first_none (before n) (n == x.1) none)) (flip x.1 n ∙ last_none (before n) (n == x.1) none))
      (still xs fresh.1 fresh.2),
) where
  first_none : (a b : Bool) → (a || b) ≡ false → a ≡ false
  first_none true b h = absurd cc
  first_none false b h = refl

  last_none : (a b : Bool) → (a || b) ≡ false → b ≡ false
  last_none true b h = absurd cc
  last_none false b h = h

  both_none : (a b : Bool) → a ≡ false → b ≡ false → (a || b) ≡ false
  both_none true b h i = absurd cc
  both_none false b h i = i

  still : (ys : List (ℕ × ℕ × F)) → is_wound ys x.1 ≡ false → AreFresh before ys → AreFresh (λ n. before n || (n == x.1)) ys
  still [] apart h = tt
  still (y ∷ ys) apart h = (both_none (before y.1) (y.1 == x.1) h.0 (flip y.1 x.1 ∙ first_none (x.1 == y.1) (is_wound ys x.1) apart), h.1, still ys (last_none (x.1 == y.1) (is_wound ys x.1) apart) h.2)

-- a fresh wind's slot was not unanswered before
pub fresh_out : {F : Type 0} (before : Slots) (xs : List (ℕ × ℕ × F)) (n : ℕ) → AreFresh before xs → is_wound xs n ≡ true → before n ≡ false
fresh_out before [] n fresh is = absurd cc
fresh_out before (x ∷ xs) n fresh is = by_case (n == x.1) refl (fresh_out before xs n fresh.2) is where
  by_case : (b : Bool) → (n == x.1) ≡ b → (is_wound xs n ≡ true → before n ≡ false) → (b || is_wound xs n) ≡ true → before n ≡ false
  by_case true e rest h = subst (λ i. before i ≡ false) (sym (eqb-true n x.1 e)) fresh.0
  by_case false e rest h = rest h
