-- Each call keeps that calls' own fops are at the root.
use Rattle.std.proofs.Common.{◌≡◌, refl, sym, ap, subst, ◌∙◌}
use Rattle.std.specs.Prelude.{ℕ, ◌≢◌, List, [], ◌∷◌, ◌++◌, Option, Some, None}
use Rattle.xlator_law.specs.declared.step.Step.{Step}
use Rattle.xlator_law.specs.declared.step.Step.TheVariants.{Wind, Wait, Unwind}
use Rattle.xlator_law.specs.declared.winds.WindNo.{WindNo}
use Rattle.xlator_law.specs.declared.winds.Place.{Place}
use Rattle.frame_stack.specs.Cells.{cell_at}
use Rattle.frame_stack.specs.declared.frame.Frame.{Frame}
use Rattle.frame_stack.specs.Stack.{Stack, frame_at}
use Rattle.frame_driver.specs.declared.board.Board.{Board}
use Rattle.frame_driver.specs.declared.items.Task.{Task}
use Rattle.frame_driver.specs.declared.items.Task.TheVariants.{Enter, Resume}
use Rattle.frame_driver.specs.declared.items.Bailed.{Bailed}
use Rattle.frame_driver.specs.declared.wiring.Child.{Child}
use Rattle.frame_driver.specs.declared.wiring.Child.TheVariants.{Node, Outside, Nothing}
use Rattle.frame_driver.specs.declared.wiring.Wiring.{Wiring}
use Rattle.frame_driver.specs.Bailing.{AreOurs, IsBailed}
use Rattle.frame_driver.specs.Leading.{KeepsOthers}
use Rattle.frame_driver.specs.Machine.{AreWoundDown, IsEnded, IsAnswered, IsCarried, empty_board, handed_to, freed, with_task}
use Rattle.frame_driver.specs.Machine.AreWoundDown.{NoWind, OneMore}
use Rattle.frame_driver.specs.Roots.{IsRootAt, IsRooted, IsRootTask, AreRootTasks, AreRooted}
use Rattle.frame_driver.specs.Wiring.{below}
use Rattle.frame_driver.proofs.Carrying.{bare, left_by, carried_turns, carried_graph, Took}
use Rattle.frame_driver.proofs.Ending.{ended_by, ended_still}
use Rattle.frame_driver.proofs.Frames.{each_frame}
use Rattle.frame_driver.proofs.Replying.{all_ended}

module _ {F R : Type 0} (root : ℕ) where
  pub rooted_push : (xs : List (Task F R)) (x : Task F R) → AreRootTasks root xs → IsRootTask root x → AreRootTasks root (xs ++ x ∷ [])
  rooted_push [] x all is = (is, tt)
  rooted_push (y ∷ ys) x all is = (all.0, rooted_push ys x all.1 is)

module _ {F R L : Type 0} (root : ℕ) where
  handed_rooted : (b : Board F R L) (to : Child) (place : Place) (child : ℕ) (w : WindNo) (fop : F) → AreRootTasks root b.queue → AreRootTasks root (handed_to b to place child w fop).queue
  handed_rooted b (Node to) place child w fop all = rooted_push root b.queue (Enter to place.call (Some w) fop) all tt
  handed_rooted b Outside place child w fop all = all
  handed_rooted b Nothing place child w fop all = all

  wound_rooted : (wiring : Wiring) (place : Place) (key : ℕ) (old : Board F R L) (xs : List (ℕ × ℕ × F)) (new : Board F R L) → AreWoundDown wiring place key old xs new → AreRootTasks root old.queue → AreRootTasks root new.queue
  wound_rooted wiring place key old _ _ NoWind all = all
  wound_rooted wiring place key old _ _ (OneMore xs x mid new before is) all =
      subst (λ (b : Board F R L). AreRootTasks root b.queue) (sym is.handed) (handed_rooted is.mid (below wiring place.node x.0) place x.0 is.wind x.2
      (subst (λ (b : Board F R L). AreRootTasks root b.queue) (sym is.opened.rest) (wound_rooted wiring place key old xs mid before all)))

  ended_tasks : (w : WindNo) (reply : R) (old new : Board F R L) → IsEnded w reply old new → AreRootTasks root old.queue → AreRootTasks root new.queue
  ended_tasks w reply old new is all = ended_by w reply old new (λ b. AreRootTasks root b.queue) is all (λ e. subst (λ (b : Board F R L). AreRootTasks root b.queue) (sym e.made) (rooted_push root old.queue (Resume e.opener.frame e.opener.slot reply) all tt))

  carried_tasks : (wiring : Wiring) (key : ℕ) (place : Place) (old new : Board F R L) (step : Step F R L) → IsCarried wiring key place old step new → AreRootTasks root old.queue → AreRootTasks root new.queue
  carried_tasks wiring key place old new (Wind winds local) c all = subst (λ (b : Board F R L). AreRootTasks root b.queue) (sym c.put) (wound_rooted wiring place key old winds.items c.mid c.wound all)
  carried_tasks wiring key place old new (Wait local) c all = subst (λ (b : Board F R L). AreRootTasks root b.queue) (sym c) all
  carried_tasks wiring key place old new (Unwind reply) c all = by_parent place.parent c where
    by_parent : (parent : Option WindNo) → IsAnswered parent place.call reply (freed old key) new → AreRootTasks root new.queue
    by_parent None is = subst (λ (b : Board F R L). AreRootTasks root b.queue) (sym is) all
    by_parent (Some w) is = ended_tasks w reply (freed old key) new is all

  -- a step of a frame that is at the root, or was opened by a wind
  pub carried_rooted : (wiring : Wiring) (key : ℕ) (place : Place) (b mid new : Board F R L) (was : Option (Frame L)) (step : Step F R L) → Took b mid key place was → place.graph ≡ b.graph → IsRootAt root place.parent place.node → IsCarried wiring key place mid step new → AreRooted root b → AreRooted root new
  carried_rooted wiring key place b mid new was step took home at c r = record {
    frames = subst (λ g. (k : ℕ) → IsRooted g root (frame_at new.stack k)) (sym same) (each_frame (λ k f. IsRooted b.graph root f) mid.stack new.stack key (bare place) (left_by place step) (carried_turns wiring key place mid new step took.turns.here c)
        (λ k differs. subst (IsRooted b.graph root) (sym (took.turns.others k differs)) (r.frames k))
        (leaves step));
    tasks = carried_tasks wiring key place mid new step c (subst (λ (x : Board F R L). AreRootTasks root x.queue) (sym took.rest) r.tasks);
  } where
    same : new.graph ≡ b.graph
    same = carried_graph wiring key place mid new step c ∙ ap (λ (x : Board F R L). x.graph) took.rest

    leaves : (s : Step F R L) → IsRooted b.graph root (left_by place s)
    leaves (Wind winds local) = λ h. at
    leaves (Wait local) = λ h. at
    leaves (Unwind reply) = tt

  pub ended_rooted : (w : WindNo) (reply : R) (old new : Board F R L) → IsEnded w reply old new → AreRooted root old → AreRooted root new
  ended_rooted w reply old new is r = record {
    frames = λ k. subst (λ g. IsRooted g root (frame_at new.stack k)) (sym (ended_still w reply old new is).graph) (subst (IsRooted old.graph root) (ap (λ fs. cell_at fs k) (sym (ended_still w reply old new is).frames)) (r.frames k));
    tasks = ended_tasks w reply old new is r.tasks;
  }

  pub pushed_rooted : (old new : Board F R L) (x : Task F R) → new ≡ with_task old x → IsRootTask root x → AreRooted root old → AreRooted root new
  pushed_rooted old new x is at r = subst (AreRooted root) (sym is) (record { frames = r.frames; tasks = rooted_push root old.queue x r.tasks at })

  pub empty_rooted : (g : ℕ) → AreRooted {F = F} {R = R} {L = L} root (empty_board g)
  empty_rooted g = record { frames = λ k. tt; tasks = tt }

  -- ends of many winds
  pub bailed_rooted : (winds : List (Bailed R)) (old new : Board F R L) (count : ℕ) → (is : IsBailed winds old new count) → AreOurs old.stack old.graph is.order → AreRooted root old → AreRooted root new
  bailed_rooted winds old new count is ours = all_ended (AreRooted root) (λ w reply a b mine e r. ended_rooted w reply a b e r) is.order old new count is.ended ours

-- calls of another graph keep the frames of this one
pub roots_stay : {L : Type 0} (root g h : ℕ) (s t : Stack L) → g ≢ h → KeepsOthers h s t → ((key : ℕ) → IsRooted g root (frame_at s key)) → (key : ℕ) → IsRooted g root (frame_at t key)
roots_stay {L = L} root g h s t apart keeps r key = by_cell (frame_at t key) refl where
  by_cell : (c : Option (Frame L)) → frame_at t key ≡ c → IsRooted g root c
  by_cell None at = tt
  by_cell (Some f) at = λ home. subst (λ (c : Option (Frame L)). IsRooted g root c) (keeps.framed key f (λ e. apart (sym home ∙ e)) at) (r key) home
