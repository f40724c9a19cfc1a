-- Each task makes the work that is left fall, and makes no account of a call rise.
use Rattle.std.proofs.Common.{◌≡◌, refl, sym, ap, ◌∙◌, arith, set}
use Rattle.std.proofs.lemmas.List.Sums.{sum_by-append, sum_by-cons}
use Rattle.std.specs.List.{sum_by}
use Rattle.std.specs.Prelude.{ℕ, ◌≤◌, ◌+◌, ◌*◌, ◌==◌, cond, Bool, true, false, List, [], ◌∷◌, ◌++◌, Option, Some, None, count_by}
use Rattle.xlator_law.specs.declared.step.Step.{Step}
use Rattle.xlator_law.specs.declared.step.Step.TheVariants.{Wind, Wait, Unwind}
use Rattle.xlator_law.specs.declared.winds.WindNo.{WindNo}
use Rattle.xlator_law.specs.declared.winds.Place.{Place}
use Rattle.xlator_law.specs.Law.{Promise, Slots, wind_cost, IsStepFrom}
use Rattle.frame_stack.specs.Cells.{cell_at, taken}
use Rattle.frame_stack.specs.declared.frame.Frame.{Frame}
use Rattle.frame_stack.specs.Stack.{Stack, frame_at, word_at, pending, replied, keeping, with_local, opener_at, after_settle, after_resume, resumed, call_of}
use Rattle.frame_stack.proofs.Counts.{taken_put}
use Rattle.frame_stack.proofs.Lists.{count_push}
use Rattle.frame_driver.specs.declared.board.Board.{Board}
use Rattle.frame_driver.specs.declared.items.Task.TheVariants.{Enter, Resume}
use Rattle.frame_driver.specs.declared.wiring.Child.{Child}
use Rattle.frame_driver.specs.declared.wiring.Child.TheVariants.{Node, Outside, Nothing}
use Rattle.frame_driver.specs.declared.wiring.Wiring.{Wiring}
use Rattle.frame_driver.specs.Account.{is_opening, spend, owed, account}
use Rattle.frame_driver.specs.Follows.{promise_at, promise_of, Fits}
use Rattle.frame_driver.specs.Machine.{AreWoundDown, handed_to, IsEnded, IsAnswered, IsCarried, freed}
use Rattle.frame_driver.specs.Machine.AreWoundDown.{NoWind, OneMore}
use Rattle.frame_driver.specs.Tasks.{one}
use Rattle.frame_driver.specs.Total.{weigh, load_of, total}
use Rattle.frame_driver.specs.Wiring.{below}
use Rattle.frame_driver.proofs.Carrying.{bare, carried_turns, carried_graph, Took}
use Rattle.frame_driver.proofs.Ending.{ended_by, ends_frames, answered_still}
use Rattle.frame_driver.proofs.Tasking.{opener_here}
use Rattle.frame_driver.proofs.Winding.{wound_stack}

cost_push : {F : Type 0} (child : ℕ → F → ℕ) (xs : List (ℕ × ℕ × F)) (x : ℕ × ℕ × F) → wind_cost child (xs ++ x ∷ []) ≡ wind_cost child xs + 1 + child x.0 x.2
cost_push child [] x = omega (arith)
cost_push child (y ∷ ys) x = let ih = cost_push child ys x in omega (arith, ih)

pub sum_push : {X : Type 0} (f : X → ℕ) (xs : List X) (x : X) → sum_by f (xs ++ x ∷ []) ≡ sum_by f xs + f x
sum_push f xs x = let a = sum_by-append f xs (x ∷ []) in let c = sum_by-cons f x [] in omega (arith, a, c)

-- of two numbers by a test, the greater ones
cond_most : (t : Bool) (a b : ℕ) → a ≤ b → cond t a 0 ≤ cond t b 0
cond_most true a b h = h
cond_most false a b h = omega (arith)

cond_sum : (t : Bool) (a b : ℕ) → cond t (a + b) 0 ≡ cond t a 0 + cond t b 0
cond_sum true a b = refl
cond_sum false a b = refl

cond_none : (t : Bool) → ◌≡◌ {A = ℕ} (cond t 0 0) 0
cond_none true = refl
cond_none false = refl

-- ---- winds that are opened

module _ {F R L : Type 0} (ps : List (Promise F L)) (wiring : Wiring) (fits : Fits ps wiring) (place : Place) (key : ℕ) where
  handed_load : (b : Board F R L) (to : Child) (child : ℕ) (w : WindNo) (fop : F) → below wiring place.node child ≡ to → sum_by (load_of ps) (handed_to b to place child w fop).queue ≤ sum_by (load_of ps) b.queue + 2 + 3 * (promise_at ps place.node).child_cost child fop
  handed_load b (Node to) child w fop is = let p = sum_push (load_of ps) b.queue (Enter to place.call (Some w) fop) in let c = (fits.fit place.node child to is).cost fop in omega (arith, p, c)
  handed_load b Outside child w fop is = omega (arith)
  handed_load b Nothing child w fop is = omega (arith)

  wound_total : (old : Board F R L) (xs : List (ℕ × ℕ × F)) (new : Board F R L) → AreWoundDown wiring place key old xs new →
      taken new.stack.openers + sum_by (load_of ps) new.queue ≤ taken old.stack.openers + sum_by (load_of ps) old.queue + 3 * wind_cost (promise_at ps place.node).child_cost xs
  wound_total old _ _ NoWind = omega (arith)
  wound_total old _ _ (OneMore xs x mid new before is) =
      let ih = wound_total old xs mid before in
      let s : taken new.stack.openers ≡ taken is.mid.stack.openers = ap (λ (t : Stack L). taken t.openers) (wound_stack wiring place key mid new x is) in
      let t : taken is.mid.stack.openers ≡ taken mid.stack.openers + 1 = ap (λ (t : Stack L). taken t.openers) is.opened.wound.made ∙ taken_put mid.stack.openers is.wind.slot (opener_at mid.stack key x.1) is.opened.wound.within is.opened.wound.vacant in
      let l = handed_load is.mid (below wiring place.node x.0) x.0 is.wind x.2 refl in
      let q : sum_by (load_of ps) new.queue ≡ sum_by (load_of ps) (handed_to is.mid (below wiring place.node x.0) place x.0 is.wind x.2).queue = ap (λ (b : Board F R L). sum_by (load_of ps) b.queue) is.handed in
      let r : sum_by (load_of ps) is.mid.queue ≡ sum_by (load_of ps) mid.queue = ap (λ (b : Board F R L). sum_by (load_of ps) b.queue) is.opened.rest in
      let c = cost_push (promise_at ps place.node).child_cost xs x in
      omega (arith, ih, s, t, l, q, r, c)

  module _ (call : ℕ) where
    handed_owed : (b : Board F R L) (to : Child) (child : ℕ) (w : WindNo) (fop : F) → below wiring place.node child ≡ to → sum_by (owed ps call) (handed_to b to place child w fop).queue ≤ sum_by (owed ps call) b.queue + cond (place.call == call) ((promise_at ps place.node).child_cost child fop) 0
    handed_owed b (Node to) child w fop is = let p = sum_push (owed ps call) b.queue (Enter to place.call (Some w) fop) in let c = cond_most (place.call == call) _ _ ((fits.fit place.node child to is).cost fop) in omega (arith, p, c)
    handed_owed b Outside child w fop is = omega (arith)
    handed_owed b Nothing child w fop is = omega (arith)

    wound_account : (old : Board F R L) (xs : List (ℕ × ℕ × F)) (new : Board F R L) → AreWoundDown wiring place key old xs new →
        count_by (is_opening call) new.stack.lines + sum_by (owed ps call) new.queue ≤ count_by (is_opening call) old.stack.lines + sum_by (owed ps call) old.queue + cond (place.call == call) (wind_cost (promise_at ps place.node).child_cost xs) 0
    wound_account old _ _ NoWind = omega (arith)
    wound_account old _ _ (OneMore xs x mid new before is) =
        let ih = wound_account old xs mid before in
        let s : count_by (is_opening call) new.stack.lines ≡ count_by (is_opening call) is.mid.stack.lines = ap (λ (t : Stack L). count_by (is_opening call) t.lines) (wound_stack wiring place key mid new x is) in
        let t : count_by (is_opening call) is.mid.stack.lines ≡ count_by (is_opening call) mid.stack.lines + one ((opener_at mid.stack key x.1).call == call) = ap (λ (t : Stack L). count_by (is_opening call) t.lines) is.opened.wound.made ∙ count_push (is_opening call) mid.stack.lines (is.wind, (opener_at mid.stack key x.1).call, true) in
        let h : one ((opener_at mid.stack key x.1).call == call) ≡ cond (place.call == call) 1 0 = ap (λ n. one (n == call)) (opener_here place key mid.stack x.1 is.opened.there).1 in
        let l = handed_owed is.mid (below wiring place.node x.0) x.0 is.wind x.2 refl in
        let q : sum_by (owed ps call) new.queue ≡ sum_by (owed ps call) (handed_to is.mid (below wiring place.node x.0) place x.0 is.wind x.2).queue = ap (λ (b : Board F R L). sum_by (owed ps call) b.queue) is.handed in
        let r : sum_by (owed ps call) is.mid.queue ≡ sum_by (owed ps call) mid.queue = ap (λ (b : Board F R L). sum_by (owed ps call) b.queue) is.opened.rest in
        let c : cond (place.call == call) (wind_cost (promise_at ps place.node).child_cost (xs ++ x ∷ [])) 0 ≡ cond (place.call == call) (wind_cost (promise_at ps place.node).child_cost xs + 1 + (promise_at ps place.node).child_cost x.0 x.2) 0 = ap (λ n. cond (place.call == call) n 0) (cost_push (promise_at ps place.node).child_cost xs x) in
        let d = cond_sum (place.call == call) (wind_cost (promise_at ps place.node).child_cost xs + 1) ((promise_at ps place.node).child_cost x.0 x.2) in
        let f = cond_sum (place.call == call) (wind_cost (promise_at ps place.node).child_cost xs) 1 in
        omega (arith, ih, s, t, h, l, q, r, c, d, f)

local_openers : {L : Type 0} (s : Stack L) (key : ℕ) (local : Option L) → (with_local s key local).openers ≡ s.openers
local_openers {L = L} s key local = by_cell (frame_at s key) where
  by_cell : (c : Option (Frame L)) → (keeping s key local c).openers ≡ s.openers
  by_cell None = refl
  by_cell (Some f) = refl

local_lines : {L : Type 0} (s : Stack L) (key : ℕ) (local : Option L) → (with_local s key local).lines ≡ s.lines
local_lines {L = L} s key local = by_cell (frame_at s key) where
  by_cell : (c : Option (Frame L)) → (keeping s key local c).lines ≡ s.lines
  by_cell None = refl
  by_cell (Some f) = refl

-- ---- winds that end

resumed_lines : {L : Type 0} (w : WindNo) (call : ℕ) (s : Stack L) → count_by (is_opening call) (after_resume (after_settle s w) w).lines ≡ count_by (is_opening call) s.lines
resumed_lines w call s = by_resume (word_at (after_settle s w) w.slot == replied w) ∙ by_settle (word_at s w.slot == pending w) where
  by_settle : (b : Bool) → count_by (is_opening call) (cond b (record s { words = set s.words w.slot (replied w) }) s).lines ≡ count_by (is_opening call) s.lines
  by_settle true = refl
  by_settle false = refl

  by_resume : (b : Bool) → count_by (is_opening call) (cond b (resumed (after_settle s w) w (cell_at (after_settle s w).openers w.slot)) (after_settle s w)).lines ≡ count_by (is_opening call) (after_settle s w).lines
  by_resume true = let c = count_push (is_opening call) (after_settle s w).lines (w, call_of (cell_at (after_settle s w).openers w.slot), false) in omega (arith, c)
  by_resume false = refl

module _ {F R L : Type 0} (w : WindNo) (reply : R) where
  -- a wind that ends leaves the work and each account
  pub ended_total : (ps : ℕ → List (Promise F L)) (old new : Board F R L) → IsEnded w reply old new → total ps new ≡ total ps old
  ended_total ps old new is = ended_by w reply old new (λ b. total ps b ≡ total ps old) is refl (λ e.
      let t = e.taken in
      let f : sum_by (weigh ps) new.stack.frames ≡ sum_by (weigh ps) old.stack.frames = ap (sum_by (weigh ps)) (ends_frames w reply old new e) in
      let q : sum_by (load_of (ps new.graph)) new.queue ≡ sum_by (load_of (ps old.graph)) old.queue + 1 = ap (λ (b : Board F R L). sum_by (load_of (ps b.graph)) b.queue) e.made ∙ sum_push (load_of (ps old.graph)) old.queue (Resume e.opener.frame e.opener.slot reply) in
      omega (arith, t, f, q))

  pub ended_account : (ps : ℕ → List (Promise F L)) (call : ℕ) (old new : Board F R L) → IsEnded w reply old new → account ps call new ≡ account ps call old
  ended_account ps call old new is = ended_by w reply old new (λ b. account ps call b ≡ account ps call old) is refl (λ e.
      let l : count_by (is_opening call) new.stack.lines ≡ count_by (is_opening call) old.stack.lines = ap (λ (b : Board F R L). count_by (is_opening call) b.stack.lines) e.made ∙ resumed_lines w call old.stack in
      let f : sum_by (spend ps call) new.stack.frames ≡ sum_by (spend ps call) old.stack.frames = ap (sum_by (spend ps call)) (ends_frames w reply old new e) in
      let q : sum_by (owed (ps new.graph) call) new.queue ≡ sum_by (owed (ps old.graph) call) old.queue + 0 = ap (λ (b : Board F R L). sum_by (owed (ps b.graph) call) b.queue) e.made ∙ sum_push (owed (ps old.graph) call) old.queue (Resume e.opener.frame e.opener.slot reply) in
      omega (arith, l, f, q))

module _ {F R L : Type 0} (ps : ℕ → List (Promise F L)) where
  answered_total : (parent : Option WindNo) (call : ℕ) (reply : R) (old new : Board F R L) → IsAnswered parent call reply old new → total ps new ≡ total ps old
  answered_total None call reply old new is = ap (total ps) is
  answered_total (Some w) call reply old new is = ended_total w reply ps old new is

  answered_account : (c : ℕ) (parent : Option WindNo) (call : ℕ) (reply : R) (old new : Board F R L) → IsAnswered parent call reply old new → account ps c new ≡ account ps c old
  answered_account c None call reply old new is = ap (account ps c) is
  answered_account c (Some w) call reply old new is = ended_account w reply ps c old new is

  module _ (wiring : Wiring) (key : ℕ) (place : Place) (old new : Board F R L) (before : Slots) (most : ℕ) (home : place.graph ≡ old.graph) (fits : Fits (ps old.graph) wiring) where
    own : ps place.graph ≡ ps old.graph
    own = ap ps home

    -- a further step is paid out of what the frame may still spend
    pub carried_total : (step : Step F R L) → frame_at old.stack key ≡ bare place → IsStepFrom (promise_of ps place) before most step → IsCarried wiring key place old step new → total ps new ≤ total ps old + 1 + 3 * most
    carried_total (Wind winds local) at is c =
        let s = (carried_turns wiring key place old new (Wind winds local) at c).sums (weigh ps) refl in
        let o : taken new.stack.openers ≡ taken c.mid.stack.openers = ap (λ (b : Board F R L). taken b.stack.openers) c.put ∙ ap taken (local_openers c.mid.stack key (Some local)) in
        let q : sum_by (load_of (ps new.graph)) new.queue ≡ sum_by (load_of (ps old.graph)) c.mid.queue = ap (λ g. sum_by (load_of (ps g)) new.queue) (carried_graph wiring key place old new (Wind winds local) c) ∙ ap (λ (b : Board F R L). sum_by (load_of (ps old.graph)) b.queue) c.put in
        let t = wound_total (ps old.graph) wiring fits place key old winds.items c.mid c.wound in
        let p : wind_cost (promise_at (ps old.graph) place.node).child_cost winds.items ≡ wind_cost (promise_of ps place).child_cost winds.items = ap (λ qs. wind_cost (promise_at qs place.node).child_cost winds.items) (sym own) in
        let paid = is.paid in
        omega (arith, s, o, q, t, p, paid)
    carried_total (Wait local) at is c =
        let s = (carried_turns wiring key place old new (Wait local) at c).sums (weigh ps) refl in
        let o : taken new.stack.openers ≡ taken old.stack.openers = ap (λ (b : Board F R L). taken b.stack.openers) c ∙ ap taken (local_openers old.stack key (Some local)) in
        let q : sum_by (load_of (ps new.graph)) new.queue ≡ sum_by (load_of (ps old.graph)) old.queue = ap (λ (b : Board F R L). sum_by (load_of (ps b.graph)) b.queue) c in
        let paid = is.paid in
        omega (arith, s, o, q, paid)
    carried_total (Unwind reply) at is c =
        let s = (carried_turns wiring key place old new (Unwind reply) at c).sums (weigh ps) refl in
        let a = answered_total place.parent place.call reply (freed old key) new c in
        let f : sum_by (weigh ps) new.stack.frames ≡ sum_by (weigh ps) (freed old key).stack.frames = ap (sum_by (weigh ps)) (answered_still place.parent place.call reply (freed old key) new c).frames in
        omega (arith, s, a, f)

    pub carried_account : (call : ℕ) (step : Step F R L) → frame_at old.stack key ≡ bare place → IsStepFrom (promise_of ps place) before most step → IsCarried wiring key place old step new → account ps call new ≤ account ps call old + cond (place.call == call) most 0
    carried_account call (Wind winds local) at is c =
        let s = (carried_turns wiring key place old new (Wind winds local) at c).sums (spend ps call) refl in
        let z = cond_none (place.call == call) in
        let o : count_by (is_opening call) new.stack.lines ≡ count_by (is_opening call) c.mid.stack.lines = ap (λ (b : Board F R L). count_by (is_opening call) b.stack.lines) c.put ∙ ap (count_by (is_opening call)) (local_lines c.mid.stack key (Some local)) in
        let q : sum_by (owed (ps new.graph) call) new.queue ≡ sum_by (owed (ps old.graph) call) c.mid.queue = ap (λ g. sum_by (owed (ps g) call) new.queue) (carried_graph wiring key place old new (Wind winds local) c) ∙ ap (λ (b : Board F R L). sum_by (owed (ps old.graph) call) b.queue) c.put in
        let t = wound_account (ps old.graph) wiring fits place key call old winds.items c.mid c.wound in
        let p : cond (place.call == call) (wind_cost (promise_at (ps old.graph) place.node).child_cost winds.items) 0 ≡ cond (place.call == call) (wind_cost (promise_of ps place).child_cost winds.items) 0 = ap (λ qs. cond (place.call == call) (wind_cost (promise_at qs place.node).child_cost winds.items) 0) (sym own) in
        let paid = cond_most (place.call == call) _ _ is.paid in
        let d = cond_sum (place.call == call) (wind_cost (promise_of ps place).child_cost winds.items) ((promise_of ps place).left local) in
        omega (arith, s, z, o, q, t, p, paid, d)
    carried_account call (Wait local) at is c =
        let s = (carried_turns wiring key place old new (Wait local) at c).sums (spend ps call) refl in
        let z = cond_none (place.call == call) in
        let o : count_by (is_opening call) new.stack.lines ≡ count_by (is_opening call) old.stack.lines = ap (λ (b : Board F R L). count_by (is_opening call) b.stack.lines) c ∙ ap (count_by (is_opening call)) (local_lines old.stack key (Some local)) in
        let q : sum_by (owed (ps new.graph) call) new.queue ≡ sum_by (owed (ps old.graph) call) old.queue = ap (λ (b : Board F R L). sum_by (owed (ps b.graph) call) b.queue) c in
        let paid = cond_most (place.call == call) _ _ is.paid in
        omega (arith, s, z, o, q, paid)
    carried_account call (Unwind reply) at is c =
        let s = (carried_turns wiring key place old new (Unwind reply) at c).sums (spend ps call) refl in
        let z = cond_none (place.call == call) in
        let a = answered_account call place.parent place.call reply (freed old key) new c in
        let f : sum_by (spend ps call) new.stack.frames ≡ sum_by (spend ps call) (freed old key).stack.frames = ap (sum_by (spend ps call)) (answered_still place.parent place.call reply (freed old key) new c).frames in
        omega (arith, s, z, a, f)

  module _ (b mid : Board F R L) (key : ℕ) (place : Place) (was : Option (Frame L)) (took : Took b mid key place was) where
    pub took_total : total ps mid + weigh ps was ≡ total ps b
    took_total =
        let s = took.turns.sums (weigh ps) refl in
        let o : taken mid.stack.openers ≡ taken b.stack.openers = ap (λ (x : Board F R L). taken x.stack.openers) took.rest in
        let q : sum_by (load_of (ps mid.graph)) mid.queue ≡ sum_by (load_of (ps b.graph)) b.queue = ap (λ (x : Board F R L). sum_by (load_of (ps x.graph)) x.queue) took.rest in
        omega (arith, s, o, q)

    pub took_account : (call : ℕ) → account ps call mid + spend ps call was ≡ account ps call b
    took_account call =
        let s = took.turns.sums (spend ps call) refl in
        let z = cond_none (place.call == call) in
        let o : count_by (is_opening call) mid.stack.lines ≡ count_by (is_opening call) b.stack.lines = ap (λ (x : Board F R L). count_by (is_opening call) x.stack.lines) took.rest in
        let q : sum_by (owed (ps mid.graph) call) mid.queue ≡ sum_by (owed (ps b.graph) call) b.queue = ap (λ (x : Board F R L). sum_by (owed (ps x.graph) call) x.queue) took.rest in
        omega (arith, s, z, o, q)
