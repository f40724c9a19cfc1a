-- What the functions of a task need: of the board with the task in front, which is sound.
use Rattle.std.proofs.Common.{◌≡◌, refl, sym, ap, subst, ◌∙◌, arith}
use Rattle.std.proofs.lemmas.Bool.{eq-eqb}
use Rattle.std.specs.Prelude.{ℕ, ◌<◌, ◌≤◌, false, true, List, length, Option, Some, None, IsSome, IsSomeAnd, count_by}
use Rattle.xlator_law.specs.declared.step.Step.{Step}
use Rattle.xlator_law.specs.declared.winds.WindNo.{WindNo}
use Rattle.xlator_law.specs.declared.winds.Place.{Place}
use Rattle.xlator_law.specs.Law.{Promise, no_slots, IsStep}
use Rattle.xlator_law.specs.Law.Cause.{Enter as ByFop, Reply as ByReply, Go as ByGo}
use Rattle.frame_stack.specs.Cells.{taken}
use Rattle.frame_stack.specs.Stack.{HasParent, frame_at}
use Rattle.frame_driver.specs.declared.board.Board.{Board}
use Rattle.frame_driver.specs.declared.items.Task.TheVariants.{Enter, Resume, Go}
use Rattle.frame_driver.specs.declared.wiring.Wiring.{Wiring}
use Rattle.frame_driver.specs.Follows.{promise_at, promise_of, Fits}
use Rattle.frame_driver.specs.Leading.{Leads}
use Rattle.frame_driver.specs.Machine.{IsOpened, MayCarry, before_task, is_lost, place_for, out_of}
use Rattle.frame_driver.specs.Sound.{is_of, SoundWith}
use Rattle.frame_driver.specs.Tasks.{one}
use Rattle.frame_driver.proofs.Carrying.{bare, begun_took, out_took}
use Rattle.frame_driver.proofs.Leading.{leads_local, reached_on}
use Rattle.frame_driver.proofs.Standing.{entering, due_kept, due_own, due_unanswered, resuming, ready_kept, ready_own, ready_waits, going_on, in_range}
use Rattle.frame_driver.proofs.Taking.{promise_same, home_of, has_parent, may_carry}
use Rattle.frame_driver.proofs.Tasking.{took_counted, few_counted}

module _ {F R L : Type 0} (own : List (Promise F L)) (wiring : Wiring) (fits : Fits own wiring) (b : Board F R L) where
  -- by the lists of all graphs as by that of the graph
  from_all : (all : ℕ → List (Promise F L)) (place : Place) → place.graph ≡ b.graph → all b.graph ≡ own → (P : Promise F L → Type 0) → P (promise_of all place) → P (promise_at own place.node)
  from_all all place home ours P h = subst P (promise_same all own b.graph place home ours) h

  to_all : (all : ℕ → List (Promise F L)) (place : Place) → place.graph ≡ b.graph → all b.graph ≡ own → (P : Promise F L → Type 0) → P (promise_at own place.node) → P (promise_of all place)
  to_all all place home ours P h = subst P (sym (promise_same all own b.graph place home ours)) h

  module _ (node call : ℕ) (parent : Option WindNo) (fop : F) (s : SoundWith own (before_task b (Enter node call parent fop))) (live : is_lost b.stack parent ≡ false) where
    pub enter_parent : HasParent b.stack b.graph call parent
    enter_parent = has_parent b.stack b.graph call parent live s.sound.tasks.0.1

    pub enter_few : b.frames ≤ taken b.stack.frames
    enter_few = let f = few_counted b.graph b.stack.frames in let c = s.sound.counted in omega (arith, f, c)

    pub enter_at : node < length own
    enter_at = subst (λ (ps : List (Promise F L)). node < length ps) s.ours s.sound.tasks.0.0

    module _ (key : ℕ) (mid : Board F R L) (o : IsOpened (place_for b node call parent) key b mid) (leads : Leads b mid) where
      pub enter_out : frame_at mid.stack key ≡ bare (place_for b node call parent)
      enter_out = (begun_took (place_for b node call parent) key b mid o).turns.here

      pub enter_may : (step : Step F R L) → IsStep (promise_at own node) (ByFop (record { frame = key; call = call }) fop) step → MayCarry wiring (place_for b node call parent) mid key step
      enter_may step is = may_carry s.all own wiring fits key (place_for b node call parent) mid no_slots _ (entering s.all b mid key node call parent fop (place_for b node call parent) s.sound.follows o)
          (ap s.all leads.same ∙ s.ours) (sym leads.same)
          (subst (λ g. mid.frames ≡ count_by (is_of g) mid.stack.frames) (sym leads.same) (took_counted b.graph b mid key (place_for b node call parent) None (begun_took (place_for b node call parent) key b mid o) refl refl s.sound.counted))
          (reached_on b mid leads s.sound.reachable) step
          (to_all s.all (place_for b node call parent) refl s.ours (λ p. IsStep p (ByFop (record { frame = key; call = call }) fop) step) is)

  module _ (key : ℕ) (place : Place) (local : L) (home : place.graph ≡ b.graph) (stood : frame_at b.stack key ≡ Some (record { place = place; local = Some local })) (mid : Board F R L) (out : mid ≡ out_of b key) where
    pub out_frame : frame_at mid.stack key ≡ bare place
    out_frame = ap (λ (x : Board F R L). frame_at x.stack key) out ∙ (out_took b key place local stood).turns.here

    pub out_leads : Leads b mid
    out_leads = subst (λ (x : Board F R L). Leads b x) (sym out) (leads_local b key place (Some local) None home stood)

    pub out_home : place.graph ≡ mid.graph
    out_home = home ∙ sym (ap (λ (x : Board F R L). x.graph) out)

  module _ (key slot : ℕ) (reply : R) (s : SoundWith own (before_task b (Resume key slot reply))) where
    pub resume_kept : IsSomeAnd (frame_at b.stack key) (λ f. IsSome f.local)
    resume_kept = due_kept s.all b key slot reply s.sound.follows

    module _ (place : Place) (local : L) (stood : frame_at b.stack key ≡ Some (record { place = place; local = Some local })) where
      pub resume_home : place.graph ≡ b.graph
      resume_home = home_of b.graph b.stack key place local s.sound.tasks.0 stood

      pub resume_own : (promise_at own place.node).owns local ≡ true
      resume_own = from_all s.all place resume_home s.ours (λ p. p.owns local ≡ true) (due_own s.all b key slot reply s.sound.follows place local stood)

      pub resume_there : place.node < length own
      resume_there = in_range own place.node local resume_own

      pub resume_slot : (promise_at own place.node).unanswered local slot ≡ true
      resume_slot = from_all s.all place resume_home s.ours (λ p. p.unanswered local slot ≡ true) (due_unanswered s.all b key slot reply s.sound.follows place local stood)

      pub resume_may : (mid : Board F R L) → mid ≡ out_of b key → (step : Step F R L) → IsStep (promise_at own place.node) (ByReply local slot reply) step → MayCarry wiring place mid key step
      resume_may mid out step is = subst (λ (x : Board F R L). MayCarry wiring place x key step) (sym out) (may_carry s.all own wiring fits key place (out_of b key) _ _ (resuming s.all b key slot reply s.sound.follows place local stood)
          s.ours resume_home
          (took_counted b.graph b (out_of b key) key place (Some (record { place = place; local = Some local })) (out_took b key place local stood) resume_home (ap one (eq-eqb place.graph b.graph resume_home)) s.sound.counted)
          (reached_on b (out_of b key) (leads_local b key place (Some local) None resume_home stood) s.sound.reachable) step
          (to_all s.all place resume_home s.ours (λ p. IsStep p (ByReply local slot reply) step) is))

  module _ (key : ℕ) (s : SoundWith own (before_task b (Go key))) where
    pub go_kept : IsSomeAnd (frame_at b.stack key) (λ f. IsSome f.local)
    go_kept = ready_kept s.all b key s.sound.follows

    module _ (place : Place) (local : L) (stood : frame_at b.stack key ≡ Some (record { place = place; local = Some local })) where
      pub go_home : place.graph ≡ b.graph
      go_home = home_of b.graph b.stack key place local s.sound.tasks.0 stood

      pub go_own : (promise_at own place.node).owns local ≡ true
      go_own = from_all s.all place go_home s.ours (λ p. p.owns local ≡ true) (ready_own s.all b key s.sound.follows place local stood)

      pub go_there : place.node < length own
      go_there = in_range own place.node local go_own

      pub go_waits : (promise_at own place.node).waits local ≡ true
      go_waits = from_all s.all place go_home s.ours (λ p. p.waits local ≡ true) (ready_waits s.all b key s.sound.follows place local stood)

      pub go_may : (mid : Board F R L) → mid ≡ out_of b key → (step : Step F R L) → IsStep (promise_at own place.node) (ByGo local) step → MayCarry wiring place mid key step
      go_may mid out step is = subst (λ (x : Board F R L). MayCarry wiring place x key step) (sym out) (may_carry s.all own wiring fits key place (out_of b key) _ _ (going_on s.all b key s.sound.follows place local stood)
          s.ours go_home
          (took_counted b.graph b (out_of b key) key place (Some (record { place = place; local = Some local })) (out_took b key place local stood) go_home (ap one (eq-eqb place.graph b.graph go_home)) s.sound.counted)
          (reached_on b (out_of b key) (leads_local b key place (Some local) None go_home stood) s.sound.reachable) step
          (to_all s.all place go_home s.ours (λ p. IsStep p (ByGo local) step) is))
