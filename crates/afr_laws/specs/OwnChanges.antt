-- What is known of a transaction's own change: it is the change of its job, nobody else's, and how far it has come. And
-- what is known of every change: it names the cells that its op needs. Ours.
use Rattle.std.specs.Prelude.{◌≡◌, ℕ, ◌≤◌, Bool, true, false, []}
use Rattle.fop_types.specs.Jobs.{IsJob}
use Rattle.fop_types.specs.StoreOps.{needs}
use Rattle.afr_machine.specs.Changes.{Change, Verdict}
use Rattle.afr_machine.specs.Changes.Verdict.{Undrawn, Drawn, Unsettled, Adopted, Dropped}
use Rattle.afr_machine.specs.Transactions.{Stage, Txn, cells_of_job, settles_first, may_hold}
use Rattle.afr_machine.specs.Transactions.Work.{Own}
use Rattle.afr_machine.specs.Transactions.Stage.{Marking, Applying, Posting}
use Rattle.afr_machine.specs.States.{State}

-- the change became unsettled once: its op may have been sent
abbrev pub was_unsettled : Verdict → Bool
was_unsettled Undrawn = false
was_unsettled Drawn = false
was_unsettled Unsettled = true
was_unsettled Adopted = true
was_unsettled Dropped = true

-- the change that a transaction marks, applies or posts is its own, and has come so far
abbrev pub IsOwnStage : (ℕ → Change) → ℕ → Stage → Type 0
IsOwnStage changes own (Marking u) = (own ≡ u) × ((1 ≤ u) × ((changes u).verdict ≡ Drawn))
IsOwnStage changes own (Applying u) = (own ≡ u) × ((1 ≤ u) × (was_unsettled (changes u).verdict ≡ true))
IsOwnStage changes own (Posting u) = (own ≡ u) × ((1 ≤ u) × (was_unsettled (changes u).verdict ≡ true))
IsOwnStage changes own other = Unit {0}

-- the number that a transaction drew is that of its job's change, and of nobody else's; its settling has ended
pub record OwnsChange (changes : ℕ → Change) (drawn t : ℕ) (x : Txn) : Type 0 where
  pub drawn_yet : x.own ≤ drawn
  pub by : (changes x.own).by ≡ t
  pub settled : x.settled ≡ true
  pub first : settles_first x.job ≡ true
  pub cells : cells_of_job x.job ≡ (changes x.own).cells

pub record KnowsOwn (changes : ℕ → Change) (drawn t : ℕ) (x : Txn) : Type 0 where
  pub job : IsJob x.job
  pub owns : 1 ≤ x.own → OwnsChange changes drawn t x
  pub stage : IsOwnStage changes x.own x.stage
  pub settled : x.work ≡ Own → may_hold x.stage ≡ true → x.settled ≡ true

-- a change names the cells that its op needs; number 0 is no change's
pub record ChangesFit (changes : ℕ → Change) : Type 0 where
  pub needs_are : (u : ℕ) → (changes u).cells ≡ needs (changes u).op
  pub none : (changes 0).cells ≡ []

pub record ChangesAreOwn (m : State) : Type 0 where
  pub fit : ChangesFit m.changes
  pub own : (t : ℕ) → KnowsOwn m.changes m.drawn t (m.txns t)
