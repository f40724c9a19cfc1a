-- A copy between two turns in a set of n, and what each turn owes to the frame that keeps it: the frame has the copy itself
-- and not what was handed in to it. An answer either leaves others asked, or it is the last one and the copy goes on.
use Rattle.std.specs.Prelude.{◌≡◌, ℕ, ◌≤◌, Bool, true, false, ◌&&◌, List, is_some}
use Rattle.fop_types.specs.Bounds.{Each, AreFew, IsRep, IsReq}
use Rattle.fop_types.specs.declared.answers.SplitRow.{SplitRow}
use Rattle.fop_types.specs.declared.copy_jobs.CopyJob.{CopyJob}
use Rattle.fop_types.specs.declared.messages.BrickRep.{BrickRep}
use Rattle.fop_types.specs.declared.messages.BrickReq.{BrickReq}
use Rattle.afr_phases.specs.declared.wave.Wave.{Wave}
use Rattle.afr_phases.specs.Asked.{is_within, is_only, is_waiting, IsLast, AreOthers, AreSent}
use Rattle.afr_phases.specs.CopyWork.{HasWork}
use Rattle.afr_phases.specs.Flags.{flags_of, lowest}
use Rattle.afr_phases.specs.Waves.{is_asked, is_over}
use Rattle.self_heal.specs.declared.run.CopyRun.{CopyRun}
use Rattle.self_heal.specs.declared.stage.CopyNeed.{CopyNeed}
use Rattle.self_heal.specs.declared.stage.CopyNeed.TheVariants as need
use Rattle.self_heal.specs.declared.stage.Stage.{Stage}
use Rattle.self_heal.specs.declared.stage.Stage.TheVariants as stage
use Rattle.self_heal.specs.Runs.{new_run, sinks_left, next_cell, answered}

-- a fetch goes to one source, and there is a sink for what it answers
abbrev pub is_staged : Stage → CopyRun → Bool
is_staged (stage.Fetching from) run = is_only from run.wave.asked && is_some (lowest (sinks_left run))
is_staged (stage.Replacing origin) run = true
is_staged (stage.Clearing current) run = true
is_staged stage.Over run = false

-- requests are unanswered
abbrev pub is_under_way : ℕ → CopyRun → Bool
is_under_way n run = is_waiting n run.wave && (is_within n (flags_of run.job.held) && is_staged run.stage run)

-- the copy sends requests and waits for their answers, or it ends with nobody asked
abbrev pub GoesOn : ℕ → CopyRun → CopyNeed → Type 0
GoesOn n run (need.Send list) = (is_under_way n run ≡ true) × AreSent run.wave list
GoesOn n run (need.Done done) = is_over run.wave ≡ true
GoesOn n run need.Wait = ⊥

-- a copy that has something to do begins with requests
abbrev pub Begins : ℕ → CopyRun → CopyNeed → Type 0
Begins n run (need.Send list) = (is_under_way n run ≡ true) × AreSent run.wave list
Begins n run (need.Done done) = ⊥
Begins n run need.Wait = ⊥

-- the answer of replica k, where these were asked: others are asked still, or it is the last one
abbrev pub AfterAnswer : ℕ → ℕ → Wave → CopyRun → CopyNeed → Type 0
AfterAnswer n k asked run (need.Send list) = IsLast k asked × GoesOn n run (need.Send list)
AfterAnswer n k asked run (need.Done done) = IsLast k asked × GoesOn n run (need.Done done)
AfterAnswer n k asked run need.Wait = (is_under_way n run ≡ true) × AreOthers k asked run.wave

abbrev pub CopiesBegin : Type 0
CopiesBegin = (n : ℕ) (job : CopyJob) (rows : List SplitRow) → n ≤ 5 → HasWork n job
    → Begins n (next_cell (new_run job rows)).0 (next_cell (new_run job rows)).1

abbrev pub CopiesGoOn : Type 0
CopiesGoOn = (n k mark : ℕ) (run : CopyRun) (rep : BrickRep) → n ≤ 5 → is_under_way n run ≡ true → is_asked run.wave k ≡ true
    → AfterAnswer n k run.wave (answered run k rep mark).0 (answered run k rep mark).1

-- ---- encodings

abbrev pub AreEncoded : CopyNeed → Type 0
AreEncoded (need.Send list) = Each (λ (r : ℕ × BrickReq). IsReq true r.1) list
AreEncoded (need.Done done) = Unit {0}
AreEncoded need.Wait = Unit {0}

-- every request has an encoding, where the job has one to four cells, rising, and so has what the replicas answer
abbrev pub BeginsAreEncoded : Type 0
BeginsAreEncoded = (job : CopyJob) (rows : List SplitRow) → AreFew job.cells
    → AreEncoded (next_cell (new_run job rows)).1 × ((next_cell (new_run job rows)).0.job ≡ job)

abbrev pub AnswersAreEncoded : Type 0
AnswersAreEncoded = (k mark : ℕ) (run : CopyRun) (rep : BrickRep) → AreFew run.job.cells → IsRep true rep
    → AreEncoded (answered run k rep mark).1 × ((answered run k rep mark).0.job ≡ run.job)
