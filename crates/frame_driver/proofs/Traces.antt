-- Each step keeps that every open frame has a trace.
use Rattle.std.proofs.Common.{◌≡◌, refl, sym, ap, subst}
use Rattle.std.specs.Prelude.{ℕ, zero, suc, true, false, List, [], ◌∷◌, ◌++◌, Option, Some, map, slice_get}
use Rattle.xlator_law.specs.declared.step.Step.{Step}
use Rattle.xlator_law.specs.declared.step.Step.TheVariants.{Wind, Wait, Unwind}
use Rattle.xlator_law.specs.declared.winds.Place.{Place}
use Rattle.xlator_law.specs.Law.{Promise, Cause, Slots, IsStep, IsStepFrom}
use Rattle.xlator_law.specs.Law.Cause.{Enter, Reply, Go}
use Rattle.xlator_law.specs.Frames.{Event, IsTrace, winds_of}
use Rattle.xlator_law.specs.Frames.Event.{Wound, Answered, WentOn}
use Rattle.xlator_law.specs.Frames.IsTrace.{Entered, Resumed, Continued}
use Rattle.frame_stack.specs.declared.frame.Frame.{Frame}
use Rattle.frame_driver.specs.declared.board.Board.{Board}
use Rattle.frame_driver.specs.declared.wiring.Wiring.{Wiring}
use Rattle.frame_driver.specs.Follows.{promise_at, promise_of}
use Rattle.frame_driver.specs.Traces.{Leaves, SomeMakes, Trace, IsTraced, AreTraced}
use Rattle.frame_driver.specs.Machine.{Makes, IsCarried}
use Rattle.frame_driver.proofs.Carrying.{bare, left_by, carried_turns, Took}
use Rattle.frame_driver.proofs.Frames.{each_frame}

-- the last step of a trace meets the law
record Lawful {F R L : Type 0} (p : Promise F L) (step : Step F R L) : Type 0 where
  before : Slots
  most : ℕ
  is : IsStepFrom p before most step

module _ {X C F R L : Type 0} (promise : X → Promise F L) (makes : X → C → Cause F R L → Step F R L → X → C → Type 0) where
  -- what a node of the graph makes, some node with its promise makes
  pub some_makes : (nodes : List X) (cx : C) (nodes_new : List X) (cx_new : C) (at : ℕ) (cause : Cause F R L) (step : Step F R L) → Makes makes at cause step nodes cx nodes_new cx_new → SomeMakes promise makes (promise_at (map promise nodes) at) cause step
  some_makes nodes cx nodes_new cx_new at cause step m = record { before = m.before; after = m.after; cx = cx; cx_after = cx_new; promised = promised nodes at m.there; made = m.made } where
    promised : (xs : List X) (k : ℕ) → slice_get xs k ≡ Some m.before → promise m.before ≡ promise_at (map promise xs) k
    promised [] k is = absurd cc
    promised (x ∷ xs) zero is = let same : x ≡ m.before = cc in sym (ap promise same)
    promised (x ∷ xs) (suc k) is = promised xs k is

  module _ (p : Promise F L) (key call : ℕ) where
    last_lawful : (fop : F) (events : List (Event F R)) (step : Step F R L) → IsTrace p (SomeMakes promise makes p) (record { frame = key; call = call }) fop events step → Lawful p step
    last_lawful fop _ _ (Entered step is m) = record { before = _; most = _; is = is }
    last_lawful fop _ _ (Resumed events sent local slot reply step t waits is m) = record { before = _; most = _; is = is }
    last_lawful fop _ _ (Continued events local step t is m) = record { before = _; most = _; is = is }

    -- a frame's first step begins its trace
    pub first_traced : (fop : F) (step : Step F R L) (local : L) → IsStep p (Enter (record { frame = key; call = call }) fop) step → SomeMakes promise makes p (Enter (record { frame = key; call = call }) fop) step → Leaves step local → Trace promise makes p key call local
    first_traced fop step local is m leaves = record { fop = fop; events = Wound (winds_of step) ∷ []; step = step; trace = Entered step is m; leaves = leaves }

    -- a reply takes a trace on
    pub reply_traced : (old local : L) (slot : ℕ) (reply : R) (step : Step F R L) → Trace promise makes p key call old → p.unanswered old slot ≡ true → IsStep p (Reply old slot reply) step → SomeMakes promise makes p (Reply old slot reply) step → Leaves step local → Trace promise makes p key call local
    reply_traced old local slot reply step t waits is m leaves = by_step t.step t.trace t.leaves where
      by_step : (last : Step F R L) → IsTrace p (SomeMakes promise makes p) (record { frame = key; call = call }) t.fop t.events last → Leaves last old → Trace promise makes p key call local
      by_step (Wind sent kept) trace same = let on : IsTrace p (SomeMakes promise makes p) (record { frame = key; call = call }) t.fop t.events (Wind sent old) = subst (λ l. IsTrace p (SomeMakes promise makes p) (record { frame = key; call = call }) t.fop t.events (Wind sent l)) same trace in
          record { fop = t.fop; events = t.events ++ Answered slot reply ∷ Wound (winds_of step) ∷ []; step = step; trace = Resumed t.events sent old slot reply step on waits is m; leaves = leaves }
      by_step (Wait kept) trace same = absurd (let l = last_lawful t.fop t.events (Wait kept) trace in let none : p.unanswered kept slot ≡ false = l.is.kept slot in let some : p.unanswered kept slot ≡ true = subst (λ x. p.unanswered x slot ≡ true) (sym same) waits in cc)
      by_step (Unwind answer) trace same = absurd same

    -- so does the end of a wait
    pub go_traced : (old local : L) (step : Step F R L) → Trace promise makes p key call old → p.waits old ≡ true → IsStep p (Go old) step → SomeMakes promise makes p (Go old) step → Leaves step local → Trace promise makes p key call local
    go_traced old local step t waits is m leaves = by_step t.step t.trace t.leaves where
      by_step : (last : Step F R L) → IsTrace p (SomeMakes promise makes p) (record { frame = key; call = call }) t.fop t.events last → Leaves last old → Trace promise makes p key call local
      by_step (Wait kept) trace same = let on : IsTrace p (SomeMakes promise makes p) (record { frame = key; call = call }) t.fop t.events (Wait old) = subst (λ l. IsTrace p (SomeMakes promise makes p) (record { frame = key; call = call }) t.fop t.events (Wait l)) same trace in
          record { fop = t.fop; events = t.events ++ WentOn ∷ Wound (winds_of step) ∷ []; step = step; trace = Continued t.events old step on is m; leaves = leaves }
      by_step (Wind sent kept) trace same = absurd (let l = last_lawful t.fop t.events (Wind sent kept) trace in let no : p.waits kept ≡ false = l.is.going in let yes : p.waits kept ≡ true = subst (λ x. p.waits x ≡ true) (sym same) waits in cc)
      by_step (Unwind answer) trace same = absurd same

  module _ (ps : ℕ → List (Promise F L)) (wiring : Wiring) (key : ℕ) (place : Place) (b mid new : Board F R L) (was : Option (Frame L)) where
    -- a frame's step that takes its trace on, or ends it
    pub stepped_traced : (step : Step F R L) → Took b mid key place was → ((local : L) → Leaves step local → Trace promise makes (promise_of ps place) key place.call local) → IsCarried wiring key place mid step new → AreTraced promise makes ps b → AreTraced promise makes ps new
    stepped_traced step took next c all = each_frame (IsTraced promise makes ps) mid.stack new.stack key (bare place) (left_by place step)
        (carried_turns wiring key place mid new step took.turns.here c)
        (λ k differs. subst (IsTraced promise makes ps k) (sym (took.turns.others k differs)) (all k))
        (leaves step next) where
          leaves : (s : Step F R L) → ((local : L) → Leaves s local → Trace promise makes (promise_of ps place) key place.call local) → IsTraced promise makes ps key (left_by place s)
          leaves (Wind winds local) n = n local refl
          leaves (Wait local) n = n local refl
          leaves (Unwind reply) n = tt
