-- Each step keeps that frames and fops fit below the winds that they came by.
use Rattle.std.proofs.Common.{◌≡◌, refl, sym, ap, subst, ◌∙◌, arith, inl, inr}
use Rattle.std.proofs.lemmas.Bool.{cases_eq, eqb-true, eq-eqb}
use Rattle.std.specs.Prelude.{ℕ, ◌⊎◌, ◌≢◌, ◌≤◌, ◌==◌, ◌||◌, cond, Bool, true, false, List, [], ◌∷◌, ◌++◌, Option, Some, None, IsSomeAnd}
use Rattle.xlator_law.specs.declared.step.Step.{Step}
use Rattle.xlator_law.specs.declared.step.Step.TheVariants.{Wind, Wait, Unwind}
use Rattle.xlator_law.specs.declared.winds.WindNo.{WindNo}
use Rattle.xlator_law.specs.declared.winds.Place.{Place}
use Rattle.xlator_law.specs.Law.{Promise, Slots, breadth, IsStepFrom}
use Rattle.frame_stack.specs.Cells.{cell_at}
use Rattle.frame_stack.specs.declared.frame.Frame.{Frame}
use Rattle.frame_stack.specs.declared.frame.Opener.{Opener}
use Rattle.frame_stack.specs.Stack.{Stack, is_in, frame_at, word_at, word_of, pending, replied, next_free, awaits, opener_of, opener_at, opener_in, keeping, with_local, without_frame, HasNoWind}
use Rattle.frame_stack.proofs.Balanced.{balanced}
use Rattle.frame_stack.proofs.Openers.{cases_wind, opener_word, no_opener}
use Rattle.frame_stack.proofs.Puts.{put_other}
use Rattle.frame_driver.specs.declared.board.Board.{Board}
use Rattle.frame_driver.specs.declared.items.Task.{Task}
use Rattle.frame_driver.specs.declared.items.Task.TheVariants.{Enter, Resume, Go}
use Rattle.frame_driver.specs.declared.wiring.Child.{Child}
use Rattle.frame_driver.specs.declared.wiring.Child.TheVariants.{Node, Outside, Nothing}
use Rattle.frame_driver.specs.declared.wiring.Wiring.{Wiring}
use Rattle.frame_driver.specs.Breadth.{promise_in, HasRoom, HasRoomUnder, FrameFits, TaskFits, TasksFit, Nests}
use Rattle.frame_driver.specs.Follows.{promise_at, promise_of, Fits}
use Rattle.frame_driver.specs.Machine.{IsAt, IsWoundDown, AreWoundDown, handed_to, Ends, EndsBy, IsEnded, IsAnswered, IsCarried, freed}
use Rattle.frame_driver.specs.Machine.AreWoundDown.{NoWind, OneMore}
use Rattle.frame_driver.specs.Sound.{IsReachable}
use Rattle.frame_driver.specs.Tasks.{one}
use Rattle.frame_driver.specs.Wiring.{below}
use Rattle.frame_driver.proofs.Carrying.{bare, Took}
use Rattle.frame_driver.proofs.Ending.{any_cell, both, ends_frames}
use Rattle.frame_driver.proofs.Frames.{Turns, turns_local, turns_freed, each_frame}
use Rattle.frame_driver.proofs.Standing.{Focused}
use Rattle.frame_driver.proofs.Tasking.{ended_word, other_word}
use Rattle.frame_driver.proofs.Winding.{wound_stack, frames_kept, graph_kept}

-- A wind that was opened stays so; where it is open still, it was so before, and the node that opened it promises
-- the same.
pub record Roomy {F L : Type 0} (ps : ℕ → List (Promise F L)) (s t : Stack L) : Type 0 where
  pub past : (w : WindNo) → pending w ≤ word_at s w.slot → pending w ≤ word_at t w.slot
  pub kept : (w : WindNo) (o : Opener) → pending w ≤ word_at s w.slot → opener_of t w ≡ Some o → (opener_of s w ≡ Some o) × (promise_in ps (frame_at t o.frame) ≡ promise_in ps (frame_at s o.frame))

module _ {F L : Type 0} (ps : ℕ → List (Promise F L)) where
  room_kept : (s t : Stack L) → Roomy ps s t → (p : Promise F L) (w : WindNo) → HasRoom ps s p w → HasRoom ps t p w
  room_kept s t r p w h = record {
    past = r.past w h.past;
    room = λ o is. let k = r.kept w o h.past is in subst (λ (q : Promise F L). breadth p ≤ q.below) (sym k.1) (h.room o k.0);
  }

  pub under_kept : (s t : Stack L) → Roomy ps s t → (p : Promise F L) (parent : Option WindNo) → HasRoomUnder ps s p parent → HasRoomUnder ps t p parent
  under_kept s t r p None h = tt
  under_kept s t r p (Some w) h = room_kept s t r p w h

  frame_kept : (s t : Stack L) → Roomy ps s t → (c : Option (Frame L)) → FrameFits ps s c → FrameFits ps t c
  frame_kept s t r None h = tt
  frame_kept s t r (Some f) h = under_kept s t r (promise_of ps f.place) f.place.parent h

  module _ {R : Type 0} where
    task_kept : (g : ℕ) (s t : Stack L) → Roomy ps s t → (x : Task F R) → TaskFits ps g s x → TaskFits ps g t x
    task_kept g s t r (Enter node call parent fop) h = under_kept s t r (promise_at (ps g) node) parent h
    task_kept g s t r (Resume frame slot reply) h = tt
    task_kept g s t r (Go frame) h = tt

    pub tasks_kept : (g : ℕ) (s t : Stack L) → Roomy ps s t → (xs : List (Task F R)) → TasksFit ps g s xs → TasksFit ps g t xs
    tasks_kept g s t r [] h = tt
    tasks_kept g s t r (x ∷ xs) h = (task_kept g s t r x h.0, tasks_kept g s t r xs h.1)

    pub tasks_push : (g : ℕ) (s : Stack L) (xs : List (Task F R)) (x : Task F R) → TasksFit ps g s xs → TaskFits ps g s x → TasksFit ps g s (xs ++ x ∷ [])
    tasks_push g s [] x a h = (h, tt)
    tasks_push g s (y ∷ ys) x a h = (a.0, tasks_push g s ys x a.1 h)

  -- one frame changes, is opened or ends, and the winds are as they were
  pub roomy_turns : (s t : Stack L) (key : ℕ) (was now : Option (Frame L)) → Turns s t key was now → t.openers ≡ s.openers → t.words ≡ s.words → ((w : WindNo) (o : Opener) → opener_of s w ≡ Some o → o.frame ≡ key → promise_in ps now ≡ promise_in ps was) → Roomy ps s t
  roomy_turns s t key was now turns openers words alike = record {
    past = λ w h. subst (λ ws. pending w ≤ word_of ws w.slot) (sym words) h;
    kept = λ w o h is. let before : opener_of s w ≡ Some o = sym (same w) ∙ is in (before, by_frame w o before (cases_eq o.frame key));
  } where
    same : (w : WindNo) → opener_of t w ≡ opener_of s w
    same w = ap (λ ws. cond ((word_of ws w.slot == pending w) || (word_of ws w.slot == replied w)) (cell_at t.openers w.slot) None) words ∙ ap (λ os. cond ((word_of s.words w.slot == pending w) || (word_of s.words w.slot == replied w)) (cell_at os w.slot) None) openers

    by_frame : (w : WindNo) (o : Opener) → opener_of s w ≡ Some o → (o.frame ≡ key) ⊎ (o.frame ≢ key) → promise_in ps (frame_at t o.frame) ≡ promise_in ps (frame_at s o.frame)
    by_frame w o is (inl at) = ap (λ k. promise_in ps (frame_at t k)) at ∙ ap (promise_in ps) turns.here ∙ alike w o is at ∙ sym (ap (promise_in ps) turns.before) ∙ sym (ap (λ k. promise_in ps (frame_at s k)) at)
    by_frame w o is (inr differs) = ap (promise_in ps) (turns.others o.frame differs)

  -- the frame that opened a wind is open
  pub opener_there : (s : Stack L) (w : WindNo) (o : Opener) (key : ℕ) → IsReachable s → opener_of s w ≡ Some o → o.frame ≡ key → frame_at s key ≡ None → ⊥
  opener_there s w o key r is at none = subst (λ (c : Option (Frame L)). IsSomeAnd c (λ f. (f.place.graph ≡ o.graph) × (f.place.call ≡ o.call))) (ap (frame_at s) at ∙ none) ((balanced s r.moves r.handed r.reached).held w o is)

  -- a frame without winds opened none that is open
  none_opened : (s : Stack L) (w : WindNo) (o : Opener) (key : ℕ) → HasNoWind s key → opener_of s w ≡ Some o → o.frame ≡ key → ⊥
  none_opened s w o key none is at =
      let a : awaits s key o.slot ≡ true = any_cell (is_in key o.slot) s.openers w.slot o (opener_word s w o is).1 (both (o.frame == key) (o.slot == o.slot) (eq-eqb o.frame key at) (eq-eqb o.slot o.slot refl)) in
      let n = none o.slot in
      absurd cc

  local_roomy : (s : Stack L) (key : ℕ) (place : Place) (from to : Option L) → frame_at s key ≡ Some (record { place = place; local = from }) → Roomy ps s (with_local s key to)
  local_roomy s key place from to at = roomy_turns s (with_local s key to) key _ _ (turns_local s key place from to at) (by_openers (frame_at s key)) (by_words (frame_at s key)) (λ w o is e. refl) where
    by_openers : (c : Option (Frame L)) → (keeping s key to c).openers ≡ s.openers
    by_openers None = refl
    by_openers (Some f) = refl

    by_words : (c : Option (Frame L)) → (keeping s key to c).words ≡ s.words
    by_words None = refl
    by_words (Some f) = refl

  -- the frame that opens a wind is at its place
  frame_here : (place : Place) (key : ℕ) (s : Stack L) (slot : ℕ) → IsAt s key place → promise_in ps (frame_at s (opener_at s key slot).frame) ≡ promise_of ps place
  frame_here place key s slot at = ap (λ k. promise_in ps (frame_at s k)) (own_key (frame_at s key)) ∙ by_cell (frame_at s key) at where
    own_key : (c : Option (Frame L)) → (opener_in key slot s.opened c).frame ≡ key
    own_key None = refl
    own_key (Some f) = refl

    by_cell : (c : Option (Frame L)) → IsSomeAnd c (λ f. f.place ≡ place) → promise_in ps c ≡ promise_of ps place
    by_cell None h = absurd h
    by_cell (Some f) h = ap (promise_of ps) h

-- a frame's local goes out, or a frame is opened below a wind with room
pub took_nests : {F R L : Type 0} (ps : ℕ → List (Promise F L)) (b mid : Board F R L) (key : ℕ) (place : Place) (was : Option (Frame L)) → Took b mid key place was → IsReachable b.stack → (was ≡ None) ⊎ (promise_in ps was ≡ promise_of ps place) → HasRoomUnder ps b.stack (promise_of ps place) place.parent → Nests ps b → Nests ps mid
took_nests {F = F} {R = R} {L = L} ps b mid key place was took reachable alike under n = record {
  frames = each_frame (λ k c. FrameFits ps mid.stack c) b.stack mid.stack key was (bare place) took.turns (λ k differs. frame_kept ps b.stack mid.stack roomy (frame_at b.stack k) (n.frames k)) (under_kept ps b.stack mid.stack roomy (promise_of ps place) place.parent under);
  tasks = subst (λ (x : Board F R L). TasksFit ps x.graph mid.stack x.queue) (sym took.rest) (tasks_kept ps b.graph b.stack mid.stack roomy b.queue n.tasks);
} where
  by_alike : (was ≡ None) ⊎ (promise_in ps was ≡ promise_of ps place) → (w : WindNo) (o : Opener) → opener_of b.stack w ≡ Some o → o.frame ≡ key → promise_in ps (bare place) ≡ promise_in ps was
  by_alike (inl none) w o is at = absurd (opener_there ps b.stack w o key reachable is at (took.turns.before ∙ none))
  by_alike (inr same) w o is at = sym same

  roomy : Roomy ps b.stack mid.stack
  roomy = roomy_turns ps b.stack mid.stack key was (bare place) took.turns (ap (λ (x : Board F R L). x.stack.openers) took.rest) (ap (λ (x : Board F R L). x.stack.words) took.rest) (by_alike alike)

-- ---- winds that are opened

module _ {F R L : Type 0} (ps : ℕ → List (Promise F L)) (wiring : Wiring) (place : Place) (key : ℕ) where
  wound_roomy : (old new : Board F R L) (x : ℕ × ℕ × F) → IsWoundDown wiring place key old new x → Roomy ps old.stack new.stack
  wound_roomy old new x is = record {
    past = λ v h. past v h (cases_eq v.slot is.wind.slot);
    kept = λ v o h has. kept v o h has (cases_eq v.slot is.wind.slot);
  } where
    at : new.stack ≡ is.mid.stack
    at = wound_stack wiring place key old new x is

    here : (v : WindNo) → v.slot ≡ is.wind.slot → word_at new.stack v.slot ≡ pending is.wind
    here v same = ap (λ (s : Stack L). word_at s v.slot) at ∙ ap (word_at is.mid.stack) same ∙ is.opened.pending

    past : (v : WindNo) → pending v ≤ word_at old.stack v.slot → (v.slot ≡ is.wind.slot) ⊎ (v.slot ≢ is.wind.slot) → pending v ≤ word_at new.stack v.slot
    past v h (inl same) = let f = is.opened.wound.free in let e : word_at old.stack v.slot ≡ word_at old.stack is.wind.slot = ap (word_at old.stack) same in let w = here v same in omega (arith, h, f, e, w)
    past v h (inr differs) = let e : word_at new.stack v.slot ≡ word_at old.stack v.slot = ap (λ (s : Stack L). word_at s v.slot) at ∙ ap (λ (s : Stack L). word_at s v.slot) is.opened.wound.made ∙ put_other old.stack.words is.wind.slot v.slot (pending is.wind) 0 differs in omega (arith, h, e)

    frames : new.stack.frames ≡ old.stack.frames
    frames = ap (λ (s : Stack L). s.frames) at ∙ ap (λ (s : Stack L). s.frames) is.opened.wound.made

    kept : (v : WindNo) (o : Opener) → pending v ≤ word_at old.stack v.slot → opener_of new.stack v ≡ Some o → (v.slot ≡ is.wind.slot) ⊎ (v.slot ≢ is.wind.slot) → (opener_of old.stack v ≡ Some o) × (promise_in ps (frame_at new.stack o.frame) ≡ promise_in ps (frame_at old.stack o.frame))
    kept v o h has (inl same) = absurd (
        let f = is.opened.wound.free in
        let e : word_at old.stack v.slot ≡ word_at old.stack is.wind.slot = ap (word_at old.stack) same in
        let w = here v same in
        let none : opener_of new.stack v ≡ None = no_opener new.stack v (λ i. omega (arith, f, h, e, w, i)) (λ i. omega (arith, f, h, e, w, i)) in cc)
    kept v o h has (inr differs) = (sym (ap (λ (s : Stack L). opener_of s v) at ∙ is.opened.openers.others v (λ e. differs (ap (λ (x : WindNo). x.slot) e))) ∙ has, ap (λ fs. promise_in ps (cell_at fs o.frame)) frames)

  module _ (g : ℕ) (home : place.graph ≡ g) (fits : Fits (ps g) wiring) where
    handed_fits : (s : Stack L) (b : Board F R L) (to : Child) (child : ℕ) (w : WindNo) (fop : F) → below wiring place.node child ≡ to → pending w ≤ word_at s w.slot → ((o : Opener) → opener_of s w ≡ Some o → promise_in ps (frame_at s o.frame) ≡ promise_of ps place) → TasksFit ps g s b.queue → TasksFit ps g s (handed_to b to place child w fop).queue
    handed_fits s b (Node to) child w fop is past by a = tasks_push ps g s b.queue (Enter to place.call (Some w) fop) a (record {
      past = past;
      room = λ o has. subst (λ (q : Promise F L). breadth (promise_at (ps g) to) ≤ q.below) (sym (by o has)) (subst (λ h. breadth (promise_at (ps g) to) ≤ (promise_at (ps h) place.node).below) (sym home) (fits.fit place.node child to is).breadth);
    })
    handed_fits s b Outside child w fop is past by a = a
    handed_fits s b Nothing child w fop is past by a = a

    -- what frames and tasks fit, together
    abbrev All : Stack L → List (Task F R) → Type 0
    All s queue = ((k : ℕ) → FrameFits ps s (frame_at s k)) × TasksFit ps g s queue

    wound_next : (mid new : Board F R L) (x : ℕ × ℕ × F) → IsWoundDown wiring place key mid new x → All mid.stack mid.queue → All new.stack new.queue
    wound_next mid new x is all = (frames_next, tasks_next) where
      at : new.stack ≡ is.mid.stack
      at = wound_stack wiring place key mid new x is

      same : new.stack.frames ≡ mid.stack.frames
      same = ap (λ (s : Stack L). s.frames) at ∙ ap (λ (s : Stack L). s.frames) is.opened.wound.made

      frames_next : (k : ℕ) → FrameFits ps new.stack (frame_at new.stack k)
      frames_next k = subst (λ fs. FrameFits ps new.stack (cell_at fs k)) (sym same) (frame_kept ps mid.stack new.stack (wound_roomy mid new x is) (frame_at mid.stack k) (all.0 k))

      some_opener : (a b : Opener) → Some a ≡ Some b → a ≡ b
      some_opener a b e = cc

      by_opener : (o : Opener) → opener_of new.stack is.wind ≡ Some o → promise_in ps (frame_at new.stack o.frame) ≡ promise_of ps place
      by_opener o has =
          let e : o ≡ opener_at mid.stack key x.1 = some_opener o (opener_at mid.stack key x.1) (sym has ∙ ap (λ (s : Stack L). opener_of s is.wind) at ∙ is.opened.openers.here) in
          ap (λ fs. promise_in ps (cell_at fs o.frame)) same ∙ ap (λ (q : Opener). promise_in ps (frame_at mid.stack q.frame)) e ∙ frame_here ps place key mid.stack x.1 is.opened.there

      past : pending is.wind ≤ word_at new.stack is.wind.slot
      past = let w : word_at new.stack is.wind.slot ≡ pending is.wind = ap (λ (s : Stack L). word_at s is.wind.slot) at ∙ is.opened.pending in omega (arith, w)

      tasks_next : TasksFit ps g new.stack new.queue
      tasks_next =
          let q : TasksFit ps g new.stack is.mid.queue = subst (λ (b : Board F R L). TasksFit ps g new.stack b.queue) (sym is.opened.rest) (tasks_kept ps g mid.stack new.stack (wound_roomy mid new x is) mid.queue all.1) in
          subst (λ (b : Board F R L). TasksFit ps g new.stack b.queue) (sym is.handed) (handed_fits new.stack is.mid (below wiring place.node x.0) x.0 is.wind x.2 refl past by_opener q)

    wound_fits : (old : Board F R L) (xs : List (ℕ × ℕ × F)) (new : Board F R L) → AreWoundDown wiring place key old xs new → All old.stack old.queue → All new.stack new.queue
    wound_fits old _ _ NoWind all = all
    wound_fits old _ _ (OneMore xs x mid new before is) all = wound_next mid new x is (wound_fits old xs mid before all)

-- ---- winds that end

module _ {F R L : Type 0} (ps : ℕ → List (Promise F L)) where
  ends_nests : (w : WindNo) (reply : R) (old new : Board F R L) → word_at old.stack w.slot ≡ pending w → Ends w reply old new → Nests ps old → Nests ps new
  ends_nests w reply old new at e n = record {
    frames = λ k. subst (λ fs. FrameFits ps new.stack (cell_at fs k)) (sym frames) (frame_kept ps old.stack new.stack roomy (frame_at old.stack k) (n.frames k));
    tasks = subst (λ (b : Board F R L). TasksFit ps b.graph new.stack b.queue) (sym e.made) (tasks_push ps old.graph new.stack old.queue (Resume e.opener.frame e.opener.slot reply) (tasks_kept ps old.graph old.stack new.stack roomy old.queue n.tasks) tt);
  } where
    frames : new.stack.frames ≡ old.stack.frames
    frames = ends_frames w reply old new e

    past : (v : WindNo) → pending v ≤ word_at old.stack v.slot → (v.slot ≡ w.slot) ⊎ (v.slot ≢ w.slot) → pending v ≤ word_at new.stack v.slot
    past v h (inl same) = let a : word_at new.stack v.slot ≡ next_free w = ap (word_at new.stack) same ∙ ended_word w reply old new e at in let o : word_at old.stack v.slot ≡ pending w = ap (word_at old.stack) same ∙ at in omega (arith, h, a, o)
    past v h (inr differs) = let o = other_word w reply old new e v.slot differs in omega (arith, h, o)

    kept : (v : WindNo) (o : Opener) → opener_of new.stack v ≡ Some o → (v ≡ w) ⊎ (v ≢ w) → opener_of old.stack v ≡ Some o
    kept v o has (inl same) = absurd (let z : opener_of new.stack v ≡ None = ap (opener_of new.stack) same ∙ e.openers.here in cc)
    kept v o has (inr differs) = sym (e.openers.others v differs) ∙ has

    roomy : Roomy ps old.stack new.stack
    roomy = record {
      past = λ v h. past v h (cases_eq v.slot w.slot);
      kept = λ v o h has. (kept v o has (cases_wind v w), ap (λ fs. promise_in ps (cell_at fs o.frame)) frames);
    }

  pub ended_nests : (w : WindNo) (reply : R) (old new : Board F R L) → IsEnded w reply old new → Nests ps old → Nests ps new
  ended_nests w reply old new is n = by_case (word_at old.stack w.slot == pending w) refl is where
    by_case : (t : Bool) → (word_at old.stack w.slot == pending w) ≡ t → EndsBy t w reply old new → Nests ps new
    by_case true on e = ends_nests w reply old new (eqb-true (word_at old.stack w.slot) (pending w) on) e n
    by_case false off e = subst (λ (b : Board F R L). Nests ps b) (sym e) n

  answered_nests : (parent : Option WindNo) (call : ℕ) (reply : R) (old new : Board F R L) → IsAnswered parent call reply old new → Nests ps old → Nests ps new
  answered_nests None call reply old new is n = subst (λ (b : Board F R L). Nests ps b) (sym is) (record { frames = n.frames; tasks = n.tasks })
  answered_nests (Some w) call reply old new is n = ended_nests w reply old new is n

  module _ (wiring : Wiring) (key : ℕ) (place : Place) (old new : Board F R L) (before : Slots) (most : ℕ) (f : Focused ps old key place before) (home : place.graph ≡ old.graph) (fits : Fits (ps old.graph) wiring) where
    -- the frame's local is put back
    put_nests : (b : Board F R L) (local : L) (waiting : List ℕ) → frame_at b.stack key ≡ bare place → Nests ps b → Nests ps (record b { stack = with_local b.stack key (Some local); waiting = waiting })
    put_nests b local waiting at n = record {
      frames = each_frame (λ k c. FrameFits ps (with_local b.stack key (Some local)) c) b.stack (with_local b.stack key (Some local)) key (bare place) (Some (record { place = place; local = Some local })) (turns_local b.stack key place None (Some local) at)
          (λ k differs. frame_kept ps b.stack (with_local b.stack key (Some local)) roomy (frame_at b.stack k) (n.frames k))
          (under_kept ps b.stack (with_local b.stack key (Some local)) roomy (promise_of ps place) place.parent (subst (λ (c : Option (Frame L)). FrameFits ps b.stack c) at (n.frames key)));
      tasks = tasks_kept ps b.graph b.stack (with_local b.stack key (Some local)) roomy b.queue n.tasks;
    } where
      roomy : Roomy ps b.stack (with_local b.stack key (Some local))
      roomy = local_roomy ps b.stack key place None (Some local) at

    pub carried_nests : (step : Step F R L) → IsStepFrom (promise_of ps place) before most step → IsCarried wiring key place old step new → Nests ps old → Nests ps new
    carried_nests (Wind winds local) is c n =
        let w = wound_fits ps wiring place key old.graph home fits old winds.items c.mid c.wound (n.frames, n.tasks) in
        let g : c.mid.graph ≡ old.graph = graph_kept wiring place key old winds.items c.mid c.wound in
        let m : Nests ps c.mid = record { frames = w.0; tasks = subst (λ h. TasksFit ps h c.mid.stack c.mid.queue) (sym g) w.1 } in
        subst (λ (b : Board F R L). Nests ps b) (sym c.put) (put_nests c.mid local c.mid.waiting (ap (λ fs. cell_at fs key) (frames_kept wiring place key old winds.items c.mid c.wound) ∙ f.out) m)
    carried_nests (Wait local) is c n = subst (λ (b : Board F R L). Nests ps b) (sym c) (put_nests old local (old.waiting ++ key ∷ []) f.out n)
    carried_nests (Unwind reply) is c n = answered_nests place.parent place.call reply (freed old key) new c (record {
      frames = each_frame (λ k c. FrameFits ps (without_frame old.stack key) c) old.stack (without_frame old.stack key) key (bare place) None (turns_freed old.stack key (record { place = place; local = None }) f.out)
          (λ k differs. frame_kept ps old.stack (without_frame old.stack key) roomy (frame_at old.stack k) (n.frames k)) tt;
      tasks = tasks_kept ps old.graph old.stack (without_frame old.stack key) roomy old.queue n.tasks;
    }) where
      none : HasNoWind old.stack key
      none m = by_case (awaits old.stack key m) refl where
        by_case : (t : Bool) → awaits old.stack key m ≡ t → awaits old.stack key m ≡ false
        by_case false e = e
        by_case true e = absurd (let x = f.expects m in let o : one (awaits old.stack key m) ≡ 1 = ap one e in let z : one (before m) ≡ 0 = ap one (is m) in omega (arith, x, o, z))

      roomy : Roomy ps old.stack (without_frame old.stack key)
      roomy = roomy_turns ps old.stack (without_frame old.stack key) key (bare place) None (turns_freed old.stack key (record { place = place; local = None }) f.out) refl refl (λ w o is at. absurd (none_opened ps old.stack w o key none is at))
