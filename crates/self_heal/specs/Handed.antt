-- What was handed in to a copy, and the requests that it gave; lists have the latest first. A copy is handed an answer
-- only of a replica that was asked and has not answered yet.
use Rattle.std.specs.Prelude.{◌≡◌, ℕ, ◌==◌, ◌⊎◌, true, List, [], ◌∷◌, ◌++◌, Option, Some, None, if◌then◌else◌}
use Rattle.fop_types.specs.declared.answers.SplitRow.{SplitRow}
use Rattle.fop_types.specs.declared.copy_jobs.CopyJob.{CopyJob}
use Rattle.fop_types.specs.declared.messages.BrickRep.{BrickRep}
use Rattle.fop_types.specs.declared.messages.BrickReq.{BrickReq}
use Rattle.afr_phases.specs.Waves.{is_asked}
use Rattle.self_heal.specs.declared.run.CopyRun.{CopyRun}
use Rattle.self_heal.specs.declared.stage.CopyNeed.{CopyNeed}
use Rattle.self_heal.specs.declared.stage.CopyNeed.TheVariants as need
use Rattle.self_heal.specs.Runs.{new_run, next_cell, answered}

-- the answer of a replica, with its mark
pub record Handed : Type 0 where
  pub replica : ℕ
  pub rep : BrickRep
  pub mark : ℕ

-- the copy after these answers, and what it needs then
abbrev pub after : CopyJob → List SplitRow → List Handed → CopyRun × CopyNeed
after job rows [] = next_cell (new_run job rows)
after job rows (h ∷ hs) = answered (after job rows hs).0 h.replica h.rep h.mark

-- each answer is of a replica that was asked
abbrev pub AreAnswers : CopyJob → List SplitRow → List Handed → Type 0
AreAnswers job rows [] = Unit {0}
AreAnswers job rows (h ∷ hs) = AreAnswers job rows hs × (is_asked (after job rows hs).0.wave h.replica ≡ true)

-- ---- requests

abbrev pub given : CopyNeed → List (ℕ × BrickReq)
given (need.Send list) = list
given (need.Done done) = []
given need.Wait = []

-- all requests so far: those that the copy needs now, and those before
abbrev pub earlier : CopyJob → List SplitRow → List Handed → List (ℕ × BrickReq)
earlier job rows [] = []
earlier job rows (h ∷ hs) = given (after job rows hs).1 ++ earlier job rows hs

abbrev pub requests : CopyJob → List SplitRow → List Handed → List (ℕ × BrickReq)
requests job rows hs = given (after job rows hs).1 ++ earlier job rows hs

-- the latest request to a replica
abbrev pub request_to : List (ℕ × BrickReq) → ℕ → Option BrickReq
request_to [] k = None
request_to (r ∷ rs) k = if r.0 == k then Some r.1 else request_to rs k

-- the replica answered this request in this way
abbrev pub HasAnswered : CopyJob → List SplitRow → List Handed → ℕ → BrickReq → BrickRep → Type 0
HasAnswered job rows [] k req rep = ⊥
HasAnswered job rows (h ∷ hs) k req rep =
    ((h.replica ≡ k) × (h.rep ≡ rep) × (request_to (requests job rows hs) k ≡ Some req)) ⊎ HasAnswered job rows hs k req rep
