-- What a copy keeps of what was handed in: which requests are not answered, and what was confirmed.
use Rattle.std.proofs.Common.{◌≡◌, ℕ, ◌<◌, Bool, true, false, ◌||◌, ◌⊎◌, inl, inr, List, ◌++◌, Some, None, refl, sym, ◌∙◌, length, slice_get}
use Rattle.std.proofs.lemmas.Bool.{or_cases, true≢false}
use Rattle.fop_types.specs.Bounds.{Each}
use Rattle.fop_types.specs.declared.answers.SplitRow.{SplitRow}
use Rattle.fop_types.specs.declared.cells.Cell.{Cell}
use Rattle.fop_types.specs.declared.contents.Content.{Content}
use Rattle.fop_types.specs.declared.copy_jobs.CopyJob.{CopyJob}
use Rattle.fop_types.specs.declared.messages.BrickRep.TheVariants as rep
use Rattle.fop_types.specs.declared.messages.BrickReq.{BrickReq}
use Rattle.fop_types.specs.declared.messages.BrickReq.TheVariants as req
use Rattle.fop_types.specs.declared.messages.DoneArm.TheVariants as arm
use Rattle.afr_phases.specs.Flags.{flag, flags_of, names, mask_of, lowest, no_flags}
use Rattle.afr_phases.proofs.Bits.{named}
use Rattle.self_heal.specs.declared.run.CopyRun.{CopyRun}
use Rattle.self_heal.specs.declared.stage.CopyNeed.{CopyNeed}
use Rattle.self_heal.specs.declared.stage.Origin.{Origin}
use Rattle.self_heal.specs.declared.stage.Stage.{Stage}
use Rattle.self_heal.specs.declared.stage.Stage.TheVariants as stage
use Rattle.self_heal.specs.Runs.{held_left, sources_left, sinks_left, cleared_of, cleared, only, asking, finished, clearing, current_cell, next_cell}
use Rattle.self_heal.specs.Handed.{Handed, given, request_to, HasAnswered}
use Rattle.self_heal.specs.Laws.{HasCopy, IsBacked, HaveEveryCell}
use Rattle.self_heal.proofs.Answering.{request_sent, only_self}
use Rattle.self_heal.proofs.Branches.{next_cases}
use Rattle.self_heal.proofs.Copied.{AreCopied, has_each}
use Rattle.self_heal.proofs.Leaving.{sink_named, source_low}
use Rattle.self_heal.proofs.Truths.{flags_at, lowest_is, each_sent}

-- ---- what a copy keeps of what was handed in

-- one replica was sent the fetch of the next cell
pub record IsFetching (reqs : List (ℕ × BrickReq)) (run : CopyRun) (from : ℕ) : Type 0 where
  pub cell : Cell
  pub at : current_cell run ≡ Some cell
  pub asked : run.wave.asked ≡ only from
  pub request : request_to reqs from ≡ Some (req.Fetch 0 cell)

-- the sinks that are used were sent the replacement of the next cell, and either are asked still or have confirmed it
pub record IsReplacing (job : CopyJob) (rows : List SplitRow) (hs : List Handed) (reqs : List (ℕ × BrickReq)) (run : CopyRun) (origin : Origin) : Type 0 where
  pub cell : Cell
  pub at : current_cell run ≡ Some cell
  pub content : Content
  pub fetched : HasAnswered job rows hs origin.source (req.Fetch 0 cell) (rep.Done (arm.Content content origin.last))
  pub asked : (k : ℕ) → flag run.wave.asked k ≡ true → request_to reqs k ≡ Some (req.Replace cell origin.last content)
  pub sinks : (k : ℕ) → flag (sinks_left run) k ≡ true → (flag run.wave.asked k ≡ true) ⊎ HasAnswered job rows hs k (req.Replace cell origin.last content) (rep.Done arm.Nothing)

-- every cell is copied, and these sinks have each
pub record IsClearing (job : CopyJob) (rows : List SplitRow) (hs : List Handed) (run : CopyRun) (current : List Bool) : Type 0 where
  pub none : current_cell run ≡ None
  pub copied : AreCopied job rows hs current run.origins run.job.cells
  pub sinks : (k : ℕ) → flag current k ≡ true → names run.job.sinks k ≡ true

abbrev pub AsStaged : CopyJob → List SplitRow → List Handed → List (ℕ × BrickReq) → CopyRun → Stage → Type 0
AsStaged job rows hs reqs run (stage.Fetching from) = IsFetching reqs run from
AsStaged job rows hs reqs run (stage.Replacing origin) = IsReplacing job rows hs reqs run origin
AsStaged job rows hs reqs run (stage.Clearing current) = IsClearing job rows hs run current
AsStaged job rows hs reqs run stage.Over = Unit {0}

pub record Keeps (job : CopyJob) (rows : List SplitRow) (hs : List Handed) (earlier : List (ℕ × BrickReq)) (r : CopyRun × CopyNeed) : Type 0 where
  pub five : length r.0.outs.at ≡ 5
  pub copied : AreCopied job rows hs (sinks_left r.0) r.0.origins r.0.job.cells
  pub staged : AsStaged job rows hs (given r.1 ++ earlier) r.0 r.0.stage
  pub backed : Each (λ (x : ℕ × BrickReq). IsBacked job rows hs r.0.job.sources x.1) (given r.1)
  pub current : HaveEveryCell job rows hs r.0.job r.1

-- ---- the next request

module _ (job : CopyJob) (rows : List SplitRow) (hs : List Handed) (earlier : List (ℕ × BrickReq)) (run : CopyRun) (five : length run.outs.at ≡ 5) (copied : AreCopied job rows hs (sinks_left run) run.origins run.job.cells) where
  named_in : (current : List Bool) (k : ℕ) → k < 5 → names (mask_of (cleared run current)) k ≡ true → (names run.job.sources k ≡ true) ⊎ (flag current k ≡ true)
  unfolding cleared_of
  named_in current k low h = by (or_cases (flag (flags_of run.job.sources) k) (flag current k) (flags_at (λ j. flag (flags_of run.job.sources) j || flag current j) k (sym (named (cleared run current) k low) ∙ h))) where
    by : (flag (flags_of run.job.sources) k ≡ true) ⊎ (flag current k ≡ true) → (names run.job.sources k ≡ true) ⊎ (flag current k ≡ true)
    by (inl s) = inl (flags_at (names run.job.sources) k s)
    by (inr c) = inr c

  pub clears : current_cell run ≡ None → Keeps job rows hs earlier (clearing run)
  clears none = record {
    five = five;
    copied = copied;
    staged = record { none = none; copied = copied; sinks = λ k f. sink_named run.job run.outs k f };
    current = tt;
    backed = each_sent (λ k r. IsBacked job rows hs run.job.sources r) (held_left run) (req.Clear run.job.cells (mask_of (cleared run (sinks_left run)))) (λ k f. backed);
  } where
    of : (k : ℕ) → (names run.job.sources k ≡ true) ⊎ (flag (sinks_left run) k ≡ true) → (names run.job.sources k ≡ true) ⊎ ((cell : Cell) (i : ℕ) → slice_get run.job.cells i ≡ Some cell → HasCopy job rows hs cell k)
    of k (inl s) = inl s
    of k (inr f) = inr (has_each job rows hs (sinks_left run) run.origins run.job.cells k copied none f)

    backed : IsBacked job rows hs run.job.sources (req.Clear run.job.cells (mask_of (cleared run (sinks_left run))))
    backed k low h = of k (named_in (sinks_left run) k low h)

  fetches : (cell : Cell) → current_cell run ≡ Some cell → (from : ℕ) → lowest (sources_left run) ≡ Some from → Keeps job rows hs earlier (asking run (only from) (req.Fetch 0 cell) (stage.Fetching from))
  fetches cell at from low =
      let small = source_low run.job run.outs from (lowest_is (sources_left run) from low) in
      record {
        five = five;
        copied = copied;
        staged = record { cell = cell; at = at; asked = refl; request = request_sent (only from) (req.Fetch 0 cell) earlier from small (only_self from small) };
        backed = each_sent (λ k r. IsBacked job rows hs run.job.sources r) (only from) (req.Fetch 0 cell) (λ k f. tt);
        current = tt;
      }

  pub next_keeps : Keeps job rows hs earlier (next_cell run)
  next_keeps = next_cases (Keeps job rows hs earlier) run (record { five = five; copied = copied; staged = tt; backed = tt; current = nobody }) clears fetches where
    nobody : HaveEveryCell job rows hs run.job (finished run no_flags).1
    nobody k low h = absurd (true≢false (sym (flags_at (λ j. false) k (sym (named no_flags k low) ∙ h))))
