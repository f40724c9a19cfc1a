-- A run of a job takes a bounded number of turns.
use Rattle.std.proofs.Common.{ℕ, ◌+◌, ◌*◌, ◌<◌, ◌≤◌, Bool, List, [], ◌∷◌, is_none, arith}
use Rattle.std.proofs.lemmas.Bool.{cond_both}
use Rattle.fop_types.specs.declared.cells.Cell.{Cell}
use Rattle.fop_types.specs.declared.contents.Mask.{Mask}
use Rattle.fop_types.specs.declared.jobs.Job.{Job}
use Rattle.fop_types.specs.declared.jobs.Job.TheVariants as job
use Rattle.fop_types.specs.declared.jobs.SetPlan.{SetPlan}
use Rattle.afr_ledger.specs.Ledger.{State, with_number, with_begun, decided}
use Rattle.afr_phases.specs.Flags.{lowest}
use Rattle.afr_phases.specs.Outs.{is_short}
use Rattle.afr_transaction.specs.declared.need.Need.{Need}
use Rattle.afr_transaction.specs.declared.size.Size.{Size}
use Rattle.afr_transaction.specs.declared.txn.Txn.{Txn}
use Rattle.afr_transaction.specs.Answers.{answered, copied}
use Rattle.afr_transaction.specs.Begins.{fresh, started}
use Rattle.afr_transaction.specs.Encodings.{HasBounds}
use Rattle.afr_transaction.specs.Locked.{job_cells}
use Rattle.afr_transaction.specs.Polls.{polled}
use Rattle.afr_transaction.specs.Txns.{alive}
use Rattle.afr_transaction.proofs.Bounds.{begins_bound, answers_bound, copies_bound}
use Rattle.txn_laws.specs.Ends.{Step, Answer, Finish, Draw, Begin, BeginElsewhere, Decide, AreSteps, turns, begins}
use Rattle.txn_laws.specs.Granted.{is_as_asked}
use Rattle.txn_laws.specs.Rounds.{rounds, unsettled_on}
use Rattle.txn_laws.specs.RunEnds.{LedgerIsWhole, AreRunSteps, RunsEnd}
use Rattle.txn_laws.specs.Runs.{since_sent}
use Rattle.txn_laws.specs.Work.{how_many, work}
use Rattle.txn_laws.proofs.Counts.{few_flags}
use Rattle.txn_laws.proofs.Ending.{again_work, jobs_end}
use Rattle.txn_laws.proofs.Others.{begins_have_few}
use Rattle.txn_laws.proofs.Running.{IsBetween, asking_now, copying_now, answer_between, copy_between, begun_between}

one_phase : (asked : ℕ) → asked ≤ 5 → 6 * 1 + asked < 228
one_phase asked few = omega arith

none_left : (asked : ℕ) → asked ≤ 5 → 6 * 0 + asked < 228
none_left asked few = omega arith

abbrev IsLight : Txn × Need → Type 0
IsLight t = work t.0 < 228

begun_work : (size : Size) (set : SetPlan) (call : ℕ) (j : Job) (ledger : State Cell) (live : Mask) (last : List ℕ)
    → HasBounds (started (fresh size set call j) ledger live last).0 → work (started (fresh size set call j) ledger live last).0 < 228
begun_work size set call (job.Read cells fd dir) ledger live last bounds = again_work (fresh size set call (job.Read cells fd dir)) ledger live last bounds.1
begun_work size set call (job.Change cells fd op effect) ledger live last bounds = again_work (fresh size set call (job.Change cells fd op effect)) ledger live last bounds.1
begun_work size set call (job.Birth cells op) ledger live last bounds = again_work (fresh size set call (job.Birth cells op)) ledger live last bounds.1
begun_work size set call (job.Heal cell) ledger live last bounds = again_work (fresh size set call (job.Heal cell)) ledger live last bounds.1
begun_work size set call (job.Open fd gfid) ledger live last bounds =
    let txn : Txn = polled (fresh size set call (job.Open fd gfid)) live last in
    cond_both (is_none (lowest (alive txn))) _ _ IsLight
    (λ e. cond_both (is_short txn.outs txn.size.n txn.size.q) _ _ IsLight (λ s. none_left (how_many txn.wave.asked) (few_flags txn.wave.asked)) (λ s. none_left (how_many txn.wave.asked) (few_flags txn.wave.asked)))
    (λ e. one_phase (how_many (alive txn)) (few_flags (alive txn)))
begun_work size set call job.Index ledger live last bounds =
    let txn : Txn = polled (fresh size set call job.Index) live last in
    cond_both (is_none (lowest (alive txn))) _ _ IsLight (λ e. none_left (how_many txn.wave.asked) (few_flags txn.wave.asked)) (λ e. one_phase (how_many (alive txn)) (few_flags (alive txn)))

-- the steps of a run are those of a job that is whole at each of them
are_steps : (steps : List Step) (txn : Txn) (needed : Need) (ledger : State Cell) (said : List (ℕ × Bool)) → IsBetween txn needed said → HasBounds txn → AreRunSteps steps txn needed ledger → AreSteps steps txn ledger
are_steps [] txn needed ledger said between bounds are = tt
are_steps (Answer k mark r live last ∷ steps) txn needed ledger said between bounds are =
    let now = asking_now txn needed between.going are.0.1.0 in
    let whole : LedgerIsWhole ledger = are.0.0 in
    let t = answered txn k r mark ledger live last in (
      (record { keeps = now.1; tracks = between.tracks; bounds = bounds; kept = whole.kept; few = whole.few }, (now.0, are.0.1.1)),
      are_steps steps t.0 t.1.0 t.1.1 (since_sent t.1.0 ((k, is_as_asked txn.phase txn.cells r) ∷ said)) (answer_between txn k mark r ledger live last said now.0 now.1 between.tracks between.follows between.told are.0.1.1)
          (answers_bound txn k mark r ledger live last bounds whole.few).0 are.1,
    )
are_steps (Finish done live last ∷ steps) txn needed ledger said between bounds are =
    let now = copying_now txn needed between.going are.0.1.0 in
    let whole : LedgerIsWhole ledger = are.0.0 in
    let t = copied txn done ledger live last in (
      (record { keeps = now.1; tracks = between.tracks; bounds = bounds; kept = whole.kept; few = whole.few }, (now.0, are.0.1.1)),
      are_steps steps t.0 t.1.0 t.1.1 (since_sent t.1.0 said) (copy_between txn done ledger live last said now.0 now.1 between.follows between.told) (copies_bound txn done ledger live last bounds whole.few).0 are.1,
    )
are_steps (Draw ∷ steps) txn needed ledger said between bounds are = (tt, are_steps steps txn needed (with_number ledger) said between bounds are.1)
are_steps (Begin u ∷ steps) txn needed ledger said between bounds are = (tt, are_steps steps txn needed (with_begun ledger u) said between bounds are.1)
are_steps (BeginElsewhere u ∷ steps) txn needed ledger said between bounds are = (are.0, are_steps steps txn needed (with_begun ledger u) said between bounds are.1)
are_steps (Decide change adopted ∷ steps) txn needed ledger said between bounds are = (tt, are_steps steps txn needed (decided ledger change adopted) said between bounds are.1)

at_most : (t r w u n b : ℕ) → t ≤ 228 * r + w + 2 * 228 * b → r ≤ u + n → w < 228 → t ≤ 228 * (u + n + 1) + 2 * 228 * b
at_most t r w u n b h few light = omega arith

pub runs_end : RunsEnd
runs_end size set call j ledger live last steps is_job is_unit few are =
    let b = started (fresh size set call j) ledger live last in
    let bounds = (begins_bound size set call j ledger live last is_job is_unit few).0 in
    at_most (turns steps) (rounds b.0 ledger) (work b.0) (unsettled_on set.number (job_cells j) ledger.unsettled) size.n (begins steps)
    (jobs_end b.0 ledger steps (are_steps steps b.0 b.1 ledger [] (begun_between size set call j ledger live last) bounds are)) (begins_have_few size set call j ledger live last)
    (begun_work size set call j ledger live last bounds)
