-- The steps of an io-threads node meet the law: what enters waits for its turn, and is then handed on as by a pass node.
use Rattle.std.proofs.Common.{◌≡◌, ℕ, ◌+◌, ◌*◌, ◌≤◌, Bool, true, false, ◌==◌, refl, arith}
use Rattle.xlator_law.specs.Law.{no_slots, without, IsStep}
use Rattle.xlator_law.specs.Law.Cause.{Enter, Reply, Go}
use Rattle.xlator_law.specs.declared.step.Step.{Step}
use Rattle.xlator_law.specs.declared.winds.Entry.{Entry}
use Rattle.graph_items.specs.declared.items.Down.{Down}
use Rattle.graph_items.specs.declared.items.Up.{Up}
use Rattle.graph_nodes.specs.declared.costs.Shape.TheVariants as shape
use Rattle.graph_nodes.specs.declared.locals.Local.{Local}
use Rattle.graph_nodes.specs.declared.locals.Local.TheVariants as local
use Rattle.graph_nodes.specs.Costs.{units_of, cost_of}
use Rattle.graph_nodes.specs.IoThreads.{go_on_of}
use Rattle.graph_nodes.specs.Moves.{IsMove}
use Rattle.graph_nodes.specs.Moves.Move.{Waits, Back}
use Rattle.graph_nodes.specs.Promises.{owns_by, unanswered_of, waits_of, promise_of}
use Rattle.graph_nodes.proofs.RelayLaw.{units_some, paid_one, none_left}
use Rattle.graph_nodes.proofs.Steps.{handed, waited, unwound}

module _ (sets weight breadth : ℕ) where
  pub queue_enters : (d : Down) (entry : Entry) (s : Step Down Up Local) → IsMove (Waits (local.Queued d)) s → IsStep (promise_of shape.Queue sets weight breadth) (Enter entry d) s
  queue_enters d entry s m = waited (promise_of shape.Queue sets weight breadth) no_slots (cost_of shape.Queue sets weight d) (local.Queued d) s (record {
    answered = λ j. refl;
    paid = omega arith;
    kept = λ j. refl;
    waits = refl;
    own = refl;
  }) m

  -- a frame that was handed on waits for one answer, which it hands back
  pub queue_resumes : (slot : ℕ) (reply : Up) (s : Step Down Up Local) (l : Local) → owns_by shape.Queue l ≡ true → unanswered_of l slot ≡ true → IsMove (Back reply) s → IsStep (promise_of shape.Queue sets weight breadth) (Reply l slot reply) s
  queue_resumes slot reply s local.Relay own asked m = unwound (promise_of shape.Queue sets weight breadth) (without slot (unanswered_of local.Relay)) 0 reply s (none_left slot asked) m
  queue_resumes slot reply s (local.Queued d) own asked m = absurd cc
  queue_resumes slot reply s (local.Pages read) own asked m = absurd cc
  queue_resumes slot reply s (local.Distribute frame) own asked m = absurd cc
  queue_resumes slot reply s (local.Set frame) own asked m = absurd cc

  -- its turn has come
  pub queue_goes : (s : Step Down Up Local) (l : Local) → owns_by shape.Queue l ≡ true → waits_of l ≡ true → IsMove (go_on_of l) s → IsStep (promise_of shape.Queue sets weight breadth) (Go l) s
  queue_goes s local.Relay own waits m = absurd cc
  queue_goes s (local.Queued d) own waits m = handed (promise_of shape.Queue sets weight breadth) (unanswered_of (local.Queued d)) (units_of sets d * (1 + weight)) 0 d local.Relay s (λ j. refl) (omega arith) (omega arith) (paid_one (units_of sets d) 1 weight (units_some sets d) (omega arith)) (λ j. refl) refl refl m
  queue_goes s (local.Pages read) own waits m = absurd cc
  queue_goes s (local.Distribute frame) own waits m = absurd cc
  queue_goes s (local.Set frame) own waits m = absurd cc
