-- A change that became unsettled once has a cell.
use Rattle.std.proofs.Common.{◌≡◌, ℕ, ◌≤◌, Bool, true, false, refl, sym, subst, arith}
use Rattle.std.specs.Prelude.{List, [], ◌∷◌, length}
use Rattle.fop_types.specs.Jobs.{IsJob}
use Rattle.fop_types.specs.declared.cells.Cell.{Cell}
use Rattle.fop_types.specs.declared.jobs.Job.{Job}
use Rattle.fop_types.specs.declared.jobs.Job.TheVariants as job
use Rattle.afr_machine.specs.Replicas.{Size}
use Rattle.afr_machine.specs.Touching.{is_cell, has_cell}
use Rattle.afr_machine.specs.Transactions.{cells_of_job, settles_first}
use Rattle.afr_machine.specs.States.{State}
use Rattle.afr_machine.specs.Steps.{IsReached}
use Rattle.afr_laws.specs.OwnChanges.{was_unsettled, OwnsChange}
use Rattle.afr_laws.proofs.Bools.{or_left}
use Rattle.afr_laws.proofs.OwnChanges.Steps.{changes_are_own}
use Rattle.afr_soundness.specs.Deciding.{IsMarkedIn}
use Rattle.afr_soundness.specs.Later.{IsMarked}
use Rattle.afr_soundness.proofs.Replaced.Steps.{is_itself}
use Rattle.afr_soundness.proofs.Marked.{each_is_marked}
use Rattle.afr_soundness.proofs.CopyApart.Static.{marked_in}

pub record SomeCell (cells : List Cell) : Type 0 where
  pub cell : Cell
  pub has : has_cell cells cell ≡ true

first_cell : (cells : List Cell) → 1 ≤ length cells → SomeCell cells
first_cell [] h = absurd (omega (arith, h))
first_cell (c ∷ cs) h = record { cell = c; has = or_left (is_cell c c) (has_cell cs c) (is_itself c) }

job_has_cell : (own : Job) → IsJob own → settles_first own ≡ true → SomeCell (cells_of_job own)
job_has_cell (job.Read cells fd dir) h first = first_cell cells h.0.0
job_has_cell (job.Change cells fd op effect) h first = first_cell cells h.0.0
job_has_cell other h first = absurd (let e : false ≡ true = first in cc)

pub sent_has_cell : (size : Size) (m : State) → IsReached size m → (u : ℕ) → was_unsettled (m.changes u).verdict ≡ true → SomeCell (m.changes u).cells
sent_has_cell size m r u sent = subst SomeCell cells (job_has_cell (m.txns (m.phases marked.phase).by).job ((changes_are_own size m r).own (m.phases marked.phase).by).job owns.first) where
  marked : IsMarked m u
  marked = each_is_marked size m r u sent

  mine : IsMarkedIn m marked.phase u
  mine = marked_in size m r marked.phase u marked.one marked.low marked.decides

  owns : OwnsChange m.changes m.drawn (m.phases marked.phase).by (m.txns (m.phases marked.phase).by)
  owns = ((changes_are_own size m r).own (m.phases marked.phase).by).owns (subst (λ n. 1 ≤ n) (sym mine.own) mine.one)

  cells : cells_of_job (m.txns (m.phases marked.phase).by).job ≡ (m.changes u).cells
  cells = subst (λ n. cells_of_job (m.txns (m.phases marked.phase).by).job ≡ (m.changes n).cells) mine.own owns.cells
