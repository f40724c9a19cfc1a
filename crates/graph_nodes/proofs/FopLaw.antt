-- The steps of a distribute node meet the law.
use Rattle.std.proofs.Common.{◌≡◌, ◌∙◌, ℕ, ◌+◌, ◌*◌, ◌-◌, ◌<◌, ◌≤◌, Bool, true, false, ◌&&◌, ◌==◌, not, nat_lt, List, [], ◌∷◌, length, Option, Some, None, is_some, is_none, refl, sym, ap, subst, arith, if◌then◌else◌}
use Rattle.std.proofs.Math.Nat.{suc-mul, mul_assoc}
use Rattle.std.proofs.lemmas.Bool.{and_parts, eqb-true, ltb-true}
use Rattle.dht_fops.specs.declared.step.DhtNext.{DhtNext}
use Rattle.dht_fops.specs.declared.step.DhtNext.TheVariants as next
use Rattle.dht_fops.specs.code.Fops.{asked_of}
use Rattle.fop_types.specs.declared.answers.Answer.TheVariants as answer
use Rattle.fop_types.specs.declared.answers.FopAnswer.TheVariants as fop_answer
use Rattle.fop_types.specs.declared.answers.IoError.TheVariants as io
use Rattle.fop_types.specs.declared.fops.Fop.{Fop}
use Rattle.fop_types.specs.declared.jobs.Job.{Job}
use Rattle.fop_types.specs.declared.jobs.SetReply.{SetReply}
use Rattle.xlator_law.specs.Law.{Promise, Slots, no_slots, without, IsNone, IsStep, IsStepFrom}
use Rattle.xlator_law.specs.Law.Cause.{Enter, Reply, Go}
use Rattle.xlator_law.specs.declared.step.Step.{Step}
use Rattle.xlator_law.specs.declared.winds.Entry.{Entry}
use Rattle.graph_items.specs.declared.items.Down.{Down}
use Rattle.graph_items.specs.declared.items.Down.TheVariants as down
use Rattle.graph_items.specs.declared.items.Up.{Up}
use Rattle.graph_items.specs.declared.items.Up.TheVariants as up
use Rattle.graph_nodes.specs.declared.context.Context.{Context}
use Rattle.graph_nodes.specs.declared.costs.Shape.TheVariants as shape
use Rattle.graph_nodes.specs.declared.locals.FopState.{FopState}
use Rattle.graph_nodes.specs.declared.locals.Local.{Local}
use Rattle.graph_nodes.specs.declared.locals.Local.TheVariants as local
use Rattle.graph_nodes.specs.declared.kinds.Distribute.{Distribute}
use Rattle.graph_nodes.specs.Costs.{fop_units, jobs_for, units_of, cost_of}
use Rattle.graph_nodes.specs.Distribute.{refused, asked_move, Gives, may_begin, BeginsBy, IsBegun, OnReply, GoesOn, IsHeld, OnExtended}
use Rattle.graph_nodes.specs.Moves.{IsMove, to_child}
use Rattle.graph_nodes.specs.Nodes.{FopResumes, FopGoes}
use Rattle.graph_nodes.specs.Promises.{unanswered_of, waits_of, promise_of}
use Rattle.graph_nodes.proofs.Steps.{handed, waited, unwound}

-- what answers a fop that can't be run
abbrev pub refused_reply : Up
refused_reply = up.Answer (fop_answer.Call (answer.Io (io.Quorum 0 []))) None

-- what a distribute node promises
abbrev pub fop_promise : ℕ → ℕ → Distribute → Promise Down Local
fop_promise weight breadth d = promise_of shape.Distribute d.sets weight breadth

module _ (weight breadth : ℕ) (d : Distribute) (before : Slots) (most : ℕ) (none : IsNone before) where
  asks : (frame : FopState) (one : ℕ × Job) (s : Step Down Up Local) → frame.fop.asked ≡ Some one.0 → frame.jobs * (1 + weight) ≤ most → IsMove (asked_move d.sets frame one.0 one.1) s → IsStepFrom (fop_promise weight breadth d) before most s
  asks frame one s asked paid m = by (nat_lt one.0 d.sets && nat_lt 0 frame.jobs) refl m where
    left : Local
    left = local.Distribute (record frame { jobs = frame.jobs - 1 })

    paid_by : 0 < frame.jobs → 1 + units_of d.sets (down.Job one.1) * weight + (frame.jobs - 1) * (1 + weight) ≤ most
    paid_by some = halves (frame.jobs - 1) (omega (arith, some)) where
      halves : (a : ℕ) → 1 + a ≡ frame.jobs → 1 + 1 * weight + a * (1 + weight) ≤ most
      halves a e =
          let all : (1 + a) * (1 + weight) ≤ most = subst (λ (j : ℕ). j * (1 + weight) ≤ most) (sym e) paid in
          let m = suc-mul a (1 + weight) in
          omega (arith, all, m)

    by : (b : Bool) → (nat_lt one.0 d.sets && nat_lt 0 frame.jobs) ≡ b → IsMove (if b then to_child one.0 (down.Job one.1) left else refused) s → IsStepFrom (fop_promise weight breadth d) before most s
    by true e m =
        let parts = and_parts (nat_lt one.0 d.sets) (nat_lt 0 frame.jobs) e in
        handed (fop_promise weight breadth d) before most one.0 (down.Job one.1) left s none
        (ltb-true one.0 d.sets parts.0)
        (omega arith)
        (paid_by (ltb-true 0 frame.jobs parts.1))
        (λ k. ap (λ (o : Option ℕ). is_some o && (k == 0)) asked)
        (ap (λ (o : Option ℕ). is_none o) asked)
        refl m
    by false e m = unwound (fop_promise weight breadth d) before most refused_reply s none m

  -- what the fop gives next
  pub gives : (frame : FopState) (next : DhtNext) (cx cx_new : Context) (s : Step Down Up Local) → frame.fop.asked ≡ asked_of next → frame.jobs * (1 + weight) ≤ most → Gives d.sets frame next cx s cx_new → IsStepFrom (fop_promise weight breadth d) before most s
  gives frame (next.Jobs []) cx cx_new s asked paid g = unwound (fop_promise weight breadth d) before most refused_reply s none g.move
  gives frame (next.Jobs (one ∷ jobs)) cx cx_new s asked paid g = asks frame one s asked paid g.move
  gives frame (next.Hold dir) cx cx_new s asked paid g = waited (fop_promise weight breadth d) before most (local.Distribute frame) s (record {
    answered = none;
    paid = paid;
    kept = λ k. ap (λ (o : Option ℕ). is_some o && (k == 0)) asked;
    waits = ap (λ (o : Option ℕ). is_none o) asked;
    own = refl;
  }) g.move
  gives frame (next.Done answer place) cx cx_new s asked paid g = unwound (fop_promise weight breadth d) before most (up.Answer answer place) s none g.move

module _ (weight breadth : ℕ) (d : Distribute) where
  none : IsNone no_slots
  none s = refl

  paid_enter : (f : Fop) → jobs_for d.sets (fop_units d.sets f) * (1 + weight) ≤ cost_of shape.Distribute d.sets weight (down.Fop f)
  paid_enter f = subst (λ (x : ℕ). fop_units d.sets f * (4 * d.sets + 16) * (1 + weight) ≤ x) (mul_assoc (fop_units d.sets f) (4 * d.sets + 16) (1 + weight)) (omega arith)

  pub begun : (cx cx_new : Context) (entry : Entry) (what : Down) (s : Step Down Up Local) → IsBegun d cx entry what s cx_new → IsStep (fop_promise weight breadth d) (Enter entry what) s
  begun cx cx_new entry (down.Fop f) s h = by (may_begin d cx.root_sets f) h where
    by : (b : Bool) → BeginsBy b d cx entry f s cx_new → IsStep (fop_promise weight breadth d) (Enter entry (down.Fop f)) s
    by true h = gives weight breadth d no_slots (cost_of shape.Distribute d.sets weight (down.Fop f)) none (record { entry = entry; fop = h.fop; learnt = 0; jobs = jobs_for d.sets (fop_units d.sets f) }) h.next cx cx_new s h.asked (paid_enter f) h.gives
    by false h = unwound (fop_promise weight breadth d) no_slots (cost_of shape.Distribute d.sets weight (down.Fop f)) refused_reply s none h.move
  begun cx cx_new entry (down.Job j) s h = unwound (fop_promise weight breadth d) no_slots (cost_of shape.Distribute d.sets weight (down.Job j)) refused_reply s none h.move
  begun cx cx_new entry (down.Request q) s h = unwound (fop_promise weight breadth d) no_slots (cost_of shape.Distribute d.sets weight (down.Request q)) refused_reply s none h.move

  -- the one slot was answered
  answered : (frame : FopState) (slot : ℕ) → unanswered_of (local.Distribute frame) slot ≡ true → IsNone (without slot (unanswered_of (local.Distribute frame)))
  answered frame slot asked k =
      let zero_slot = eqb-true slot 0 (and_parts (is_some frame.fop.asked) (slot == 0) asked).1 in
      subst (λ (j : ℕ). ((is_some frame.fop.asked && (k == 0)) && not (k == j)) ≡ false) (sym zero_slot) (by (is_some frame.fop.asked) (k == 0)) where
        by : (a b : Bool) → ((a && b) && not b) ≡ false
        by true true = refl
        by true false = refl
        by false b = refl

  pub resumed : (cx cx_new : Context) (frame : FopState) (slot : ℕ) (reply : Up) (after : Distribute) (s : Step Down Up Local) → unanswered_of (local.Distribute frame) slot ≡ true → GoesOn d cx frame reply s after cx_new → IsStep (fop_promise weight breadth d) (Reply (local.Distribute frame) slot reply) s
  resumed cx cx_new frame slot (up.Set reply) after s asked h = by frame.fop.asked h where
    by : (o : Option ℕ) → OnReply o d cx frame reply s after cx_new → IsStep (fop_promise weight breadth d) (Reply (local.Distribute frame) slot (up.Set reply)) s
    by (Some set) h = gives weight breadth d (without slot (unanswered_of (local.Distribute frame))) (frame.jobs * (1 + weight)) (answered frame slot asked) (record frame { fop = h.fop; learnt = length h.fop.learnt }) h.next cx cx_new s h.asked (omega arith) h.gives
    by None h = unwound (fop_promise weight breadth d) (without slot (unanswered_of (local.Distribute frame))) (frame.jobs * (1 + weight)) refused_reply s (answered frame slot asked) h.refused_is.move
  resumed cx cx_new frame slot (up.Answer answer place) after s asked h = unwound (fop_promise weight breadth d) (without slot (unanswered_of (local.Distribute frame))) (frame.jobs * (1 + weight)) refused_reply s (answered frame slot asked) h.refused_is.move
  resumed cx cx_new frame slot (up.Brick said) after s asked h = unwound (fop_promise weight breadth d) (without slot (unanswered_of (local.Distribute frame))) (frame.jobs * (1 + weight)) refused_reply s (answered frame slot asked) h.refused_is.move

  pub held : (cx cx_new : Context) (frame : FopState) (s : Step Down Up Local) → is_none frame.fop.asked ≡ true → IsHeld d cx frame s cx_new → IsStep (fop_promise weight breadth d) (Go (local.Distribute frame)) s
  held cx cx_new frame s waits h = gives weight breadth d (unanswered_of (local.Distribute frame)) (frame.jobs * (1 + weight)) (λ k. by frame.fop.asked waits k) (record frame { fop = h.fop }) h.next cx cx_new s h.asked (omega arith) h.gives where
    by : (o : Option ℕ) → is_none o ≡ true → (k : ℕ) → (is_some o && (k == 0)) ≡ false
    by None w k = refl
    by (Some set) w k = absurd cc

  pub fop_resumes : (cx cx_new : Context) (slot : ℕ) (reply : Up) (after : Distribute) (s : Step Down Up Local) (l : Local) → unanswered_of l slot ≡ true → FopResumes d cx l reply s after cx_new → IsStep (fop_promise weight breadth d) (Reply l slot reply) s
  fop_resumes cx cx_new slot reply after s (local.Distribute frame) asked h = resumed cx cx_new frame slot reply after s asked h
  fop_resumes cx cx_new slot reply after s local.Relay asked h = absurd h
  fop_resumes cx cx_new slot reply after s (local.Queued what) asked h = absurd h
  fop_resumes cx cx_new slot reply after s (local.Pages read) asked h = absurd h
  fop_resumes cx cx_new slot reply after s (local.Set frame) asked h = absurd h

  pub fop_goes : (cx cx_new : Context) (s : Step Down Up Local) (l : Local) → waits_of l ≡ true → FopGoes d cx l s cx_new → IsStep (fop_promise weight breadth d) (Go l) s
  fop_goes cx cx_new s (local.Distribute frame) waits h = by frame.fop.asked waits h where
    by : (o : Option ℕ) → is_none o ≡ true → OnExtended o d cx frame s cx_new → IsStep (fop_promise weight breadth d) (Go (local.Distribute frame)) s
    by None w h = held cx cx_new frame s waits h
    by (Some set) w h = absurd cc
  fop_goes cx cx_new s local.Relay waits h = absurd h
  fop_goes cx cx_new s (local.Queued what) waits h = absurd h
  fop_goes cx cx_new s (local.Pages read) waits h = absurd h
  fop_goes cx cx_new s (local.Set frame) waits h = absurd h
