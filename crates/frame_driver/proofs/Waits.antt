-- Each step keeps which frames wait for something that is no wind.
use Rattle.std.proofs.Common.{◌≡◌, refl, ap, ◌∙◌, arith, inl, inr}
use Rattle.std.proofs.lemmas.Bool.{cases_eq, eq-eqb, ne_eqb}
use Rattle.std.specs.Prelude.{ℕ, ◌≢◌, ◌⊎◌, ◌+◌, ◌==◌, Bool, true, false, List, Option, count_by}
use Rattle.xlator_law.specs.declared.step.Step.{Step}
use Rattle.xlator_law.specs.declared.step.Step.TheVariants.{Wind, Wait, Unwind}
use Rattle.xlator_law.specs.declared.winds.Place.{Place}
use Rattle.xlator_law.specs.Law.{Promise, Slots, IsStepFrom}
use Rattle.frame_stack.specs.declared.frame.Frame.{Frame}
use Rattle.frame_stack.specs.Stack.{frame_at}
use Rattle.frame_stack.proofs.Lists.{count_push}
use Rattle.frame_driver.specs.declared.board.Board.{Board}
use Rattle.frame_driver.specs.declared.wiring.Wiring.{Wiring}
use Rattle.frame_driver.specs.Follows.{promise_of, waits_in}
use Rattle.frame_driver.specs.Machine.{IsCarried, freed}
use Rattle.frame_driver.specs.Tasks.{one, is_going}
use Rattle.frame_driver.specs.Waits.{times, noted, AreHeld}
use Rattle.frame_driver.proofs.Carrying.{bare, left_by, carried_turns, Took}
use Rattle.frame_driver.proofs.Ending.{Still, answered_still}
use Rattle.frame_driver.proofs.Frames.{Turns}
use Rattle.frame_driver.proofs.Winding.{waiting_kept, tasks_kept}

-- a frame that its own step leaves waiting is noted once more
abbrev extra : Bool → Bool → ℕ
extra true waits = one waits
extra false waits = 0

extra_none : (t : Bool) → extra t false ≡ 0
extra_none true = refl
extra_none false = refl

extra_one : (t : Bool) → extra t true ≡ one t
extra_one true = refl
extra_one false = refl

module _ {F R L : Type 0} (ps : ℕ → List (Promise F L)) (outer : ℕ → ℕ) (wiring : Wiring) (key : ℕ) (place : Place) (b mid new : Board F R L) where
  -- what a step notes of the frame that takes it, and of the others
  noted_by : (step : Step F R L) → (before : Slots) (most : ℕ) → IsStepFrom (promise_of ps place) before most step → IsCarried wiring key place mid step new → (k : ℕ) →
      noted outer mid k + extra (k == key) (waits_in ps (left_by place step)) ≡ noted outer new k
  noted_by (Wind winds local) before most is c k =
      let w : times k new.waiting ≡ times k mid.waiting = ap (λ (x : Board F R L). times k x.waiting) c.put ∙ ap (times k) (waiting_kept wiring place key mid winds.items c.mid c.wound) in
      let q : count_by (is_going k) new.queue ≡ count_by (is_going k) mid.queue = ap (λ (x : Board F R L). count_by (is_going k) x.queue) c.put ∙ tasks_kept wiring place key (is_going k) (λ node call parent fop. refl) mid winds.items c.mid c.wound in
      let z : extra (k == key) ((promise_of ps place).waits local) ≡ 0 = ap (extra (k == key)) is.going ∙ extra_none (k == key) in
      omega (arith, w, q, z)
  noted_by (Wait local) before most is c k =
      let w : times k new.waiting ≡ times k mid.waiting + one (k == key) = ap (λ (x : Board F R L). times k x.waiting) c ∙ count_push (λ x. k == x) mid.waiting key in
      let q : count_by (is_going k) new.queue ≡ count_by (is_going k) mid.queue = ap (λ (x : Board F R L). count_by (is_going k) x.queue) c in
      let z : extra (k == key) ((promise_of ps place).waits local) ≡ one (k == key) = ap (extra (k == key)) is.waits ∙ extra_one (k == key) in
      omega (arith, w, q, z)
  noted_by (Unwind reply) before most is c k =
      let s : Still (freed mid key) new = answered_still place.parent place.call reply (freed mid key) new c in
      let w : times k new.waiting ≡ times k mid.waiting = ap (times k) s.waiting in
      let q = s.going k in
      let z = extra_none (k == key) in
      omega (arith, w, q, z)

  -- Before the step no frame is noted that its local is out; the others are noted as they were.
  pub stepped_held : (step : Step F R L) (before : Slots) (most : ℕ) (was : Option (Frame L)) → Took b mid key place was → IsStepFrom (promise_of ps place) before most step → IsCarried wiring key place mid step new →
      noted outer b key ≡ 0 → ((k : ℕ) → k ≢ key → noted outer b k ≡ one (waits_in ps (frame_at b.stack k))) → AreHeld ps outer new
  stepped_held step before most was took is c none others k = by_key (cases_eq k key) where
    turns : Turns mid.stack new.stack key (bare place) (left_by place step)
    turns = carried_turns wiring key place mid new step took.turns.here c

    same : noted outer mid k ≡ noted outer b k
    same = ap (λ (x : Board F R L). noted outer x k) took.rest

    by_key : (k ≡ key) ⊎ (k ≢ key) → noted outer new k ≡ one (waits_in ps (frame_at new.stack k))
    by_key (inl e) =
        let n = noted_by step before most is c k in
        let i : extra (k == key) (waits_in ps (left_by place step)) ≡ one (waits_in ps (left_by place step)) = ap (λ t. extra t (waits_in ps (left_by place step))) (eq-eqb k key e) in
        let z : noted outer b k ≡ 0 = ap (noted outer b) e ∙ none in
        let h : one (waits_in ps (frame_at new.stack k)) ≡ one (waits_in ps (left_by place step)) = ap (λ (x : Option (Frame L)). one (waits_in ps x)) (ap (frame_at new.stack) e ∙ turns.here) in
        let s = same in
        omega (arith, n, i, z, h, s)
    by_key (inr differs) =
        let n = noted_by step before most is c k in
        let i : extra (k == key) (waits_in ps (left_by place step)) ≡ 0 = ap (λ t. extra t (waits_in ps (left_by place step))) (ne_eqb k key differs) in
        let o = others k differs in
        let h : one (waits_in ps (frame_at new.stack k)) ≡ one (waits_in ps (frame_at b.stack k)) = ap (λ (x : Option (Frame L)). one (waits_in ps x)) (turns.others k differs ∙ took.turns.others k differs) in
        let s = same in
        omega (arith, n, i, o, h, s)
