-- The steps of an io-cache node meet the law: it answers at once, or hands on one thing and hands back its answer.
use Rattle.std.proofs.Common.{◌≡◌, ℕ, ◌+◌, ◌*◌, ◌≤◌, Bool, true, false, ◌==◌, List, Option, Some, None, refl, arith}
use Rattle.std.proofs.lemmas.Nat.{mul-le}
use Rattle.fop_types.specs.declared.answers.Answer.TheVariants as answer
use Rattle.fop_types.specs.declared.answers.FopAnswer.TheVariants as fop_answer
use Rattle.fop_types.specs.declared.fops.Fop.{Fop}
use Rattle.xlator_law.specs.Law.{no_slots, without, IsStep}
use Rattle.xlator_law.specs.Law.Cause.{Enter, Reply}
use Rattle.xlator_law.specs.declared.step.Step.{Step}
use Rattle.xlator_law.specs.declared.winds.Entry.{Entry}
use Rattle.io_cache.specs.Pages.{answer as pages_answer}
use Rattle.graph_items.specs.declared.items.Down.{Down}
use Rattle.graph_items.specs.declared.items.Down.TheVariants as down
use Rattle.graph_items.specs.declared.items.Up.{Up}
use Rattle.graph_items.specs.declared.items.Up.TheVariants as up
use Rattle.graph_nodes.specs.declared.costs.Shape.TheVariants as shape
use Rattle.graph_nodes.specs.declared.kinds.IoCache.{IoCache}
use Rattle.graph_nodes.specs.declared.locals.Local.{Local}
use Rattle.graph_nodes.specs.declared.locals.Local.TheVariants as local
use Rattle.graph_nodes.specs.Costs.{units_of, weight_of, cost_of}
use Rattle.graph_nodes.specs.IoCache.{ReadFop, Came, EntersBy, IsEntered, PagesCome, IsAnswered, hit_or_miss, read_in, bytes_in, asked_for}
use Rattle.graph_nodes.specs.Moves.{IsMove, to_child}
use Rattle.graph_nodes.specs.Pages.{pages_of, answer_of}
use Rattle.graph_nodes.specs.Promises.{owns_by, unanswered_of, waits_of, promise_of}
use Rattle.graph_nodes.proofs.RelayLaw.{units_some, enters, none_left}
use Rattle.graph_nodes.proofs.Steps.{handed, unwound}

module _ (sets weight breadth : ℕ) where
  passes : (d : Down) (entry : Entry) (s : Step Down Up Local) → IsMove (to_child 0 d local.Relay) s → IsStep (promise_of shape.Cache sets weight breadth) (Enter entry d) s
  passes d entry s m = enters shape.Cache (17 + 16 * weight) sets weight breadth (omega arith) (omega arith) (omega arith) (omega arith) refl d entry s m

  -- one read below is paid by whatever enters
  paid_read : (d : Down) → 1 + 1 * weight + 0 ≤ units_of sets d * (17 * (1 + weight))
  paid_read d = let some = units_some sets d in let least = mul-le 1 (17 * (1 + weight)) (units_of sets d) (17 * (1 + weight)) some (omega arith) in omega (arith, least)

  looked : (r : ReadFop) (d : Down) (entry : Entry) (o : Option (List ℕ)) (s : Step Down Up Local) → IsMove (hit_or_miss r.fd r.object r.offset r.count o) s → IsStep (promise_of shape.Cache sets weight breadth) (Enter entry d) s
  looked r d entry (Some bytes) s m = unwound (promise_of shape.Cache sets weight breadth) no_slots (cost_of shape.Cache sets weight d) (up.Answer (fop_answer.Call (answer.Bytes bytes)) None) s (λ j. refl) m
  looked r d entry None s m = handed (promise_of shape.Cache sets weight breadth) no_slots (cost_of shape.Cache sets weight d) 0 (down.Fop (asked_for r.fd r.object (pages_of r.object r.offset r.count))) (local.Pages (pages_of r.object r.offset r.count)) s (λ j. refl) (omega arith) (omega arith) (paid_read d) (λ j. refl) refl refl m

  pub cache_enters : (c after : IoCache) (d : Down) (entry : Entry) (s : Step Down Up Local) → IsEntered c d s after → IsStep (promise_of shape.Cache sets weight breadth) (Enter entry d) s
  cache_enters c after (down.Fop f) entry s h = by (read_in f) h where
    by : (o : Option ReadFop) → EntersBy o c (down.Fop f) s after → IsStep (promise_of shape.Cache sets weight breadth) (Enter entry (down.Fop f)) s
    by (Some r) h = looked r (down.Fop f) entry (pages_answer c.pages r.object.gfid r.offset r.count) s h.step_is
    by None h = passes (down.Fop f) entry s h.step_is
  cache_enters c after (down.Job j) entry s h = passes (down.Job j) entry s h.step_is
  cache_enters c after (down.Request q) entry s h = passes (down.Request q) entry s h.step_is

  pub cache_resumes : (c after : IoCache) (slot : ℕ) (reply : Up) (s : Step Down Up Local) (l : Local) → owns_by shape.Cache l ≡ true → unanswered_of l slot ≡ true → IsAnswered c l reply s after → IsStep (promise_of shape.Cache sets weight breadth) (Reply l slot reply) s
  cache_resumes c after slot reply s local.Relay own asked h = unwound (promise_of shape.Cache sets weight breadth) (without slot (unanswered_of local.Relay)) 0 reply s (none_left slot asked) h.0
  cache_resumes c after slot reply s (local.Queued d) own asked h = absurd cc
  cache_resumes c after slot reply s (local.Pages r) own asked h = by (bytes_in reply) h where
    by : (o : Option Came) → PagesCome o c r reply s after → IsStep (promise_of shape.Cache sets weight breadth) (Reply (local.Pages r) slot reply) s
    by (Some came) h = unwound (promise_of shape.Cache sets weight breadth) (without slot (unanswered_of (local.Pages r))) 0 (up.Answer (fop_answer.Call (answer.Bytes (answer_of r came.bytes))) came.place) s (none_left slot asked) h.0
    by None h = unwound (promise_of shape.Cache sets weight breadth) (without slot (unanswered_of (local.Pages r))) 0 reply s (none_left slot asked) h.0
  cache_resumes c after slot reply s (local.Distribute frame) own asked h = absurd cc
  cache_resumes c after slot reply s (local.Set frame) own asked h = absurd cc

  pub cache_waits_not : (l : Local) → owns_by shape.Cache l ≡ true → waits_of l ≡ true → ⊥
  cache_waits_not local.Relay own waits = absurd cc
  cache_waits_not (local.Queued d) own waits = absurd cc
  cache_waits_not (local.Pages read) own waits = absurd cc
  cache_waits_not (local.Distribute frame) own waits = absurd cc
  cache_waits_not (local.Set frame) own waits = absurd cc
