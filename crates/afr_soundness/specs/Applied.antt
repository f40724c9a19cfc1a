-- What bricks have of an unsettled change: all of its cells or none; and all, where they answered its op with Done. Ours.
use Rattle.std.specs.Prelude.{◌≡◌, ℕ, true, false}
use Rattle.fop_types.specs.declared.cells.Cell.{Cell}
use Rattle.afr_machine.specs.Replicas.{Size}
use Rattle.afr_machine.specs.Touching.{has_cell}
use Rattle.afr_machine.specs.Copies.{has_change}
use Rattle.afr_machine.specs.Requests.{Ask}
use Rattle.afr_machine.specs.Requests.Ask.{Op}
use Rattle.afr_machine.specs.Requests.Answer.{Done}
use Rattle.afr_machine.specs.Changes.{is_unsettled}
use Rattle.afr_machine.specs.States.{State}
use Rattle.afr_machine.specs.Steps.{IsReached}
use Rattle.afr_laws.specs.OwnChanges.{was_unsettled}
use Rattle.afr_laws.specs.Copies.{IsOpOf}
use Rattle.afr_laws.specs.Numbers.{applied}
use Rattle.afr_laws.specs.HeldWhole.{HeldWhole}
use Rattle.afr_soundness.specs.Replies.{EachReply}

-- the brick has the change in its copy of each of its cells
abbrev pub Holds : State → ℕ → ℕ → Type 0
Holds m u k = (cell : Cell) → has_cell (m.changes u).cells cell ≡ true → has_change (applied m k cell) u ≡ true

-- the op is that of a change that became unsettled once, or of a birth; while it is unsettled the brick has it
abbrev pub ShowsApplied : State → ℕ → Ask → Type 0
ShowsApplied m k (Op u op) = IsOpOf m.changes u op × (is_unsettled (m.changes u).verdict ≡ true → Holds m u k)
ShowsApplied m k other = Unit {0}

-- where the answer Done to an op is on its way, and where it was handed in; no change was applied before it became unsettled
pub record AppliedHolds (m : State) : Type 0 where
  pub replies : (k : ℕ) → EachReply (λ by ask answer. answer ≡ Done → ShowsApplied m k ask) (m.bricks k).outputs
  pub done : (u k : ℕ) → is_unsettled (m.changes u).verdict ≡ true → (m.changes u).done k ≡ true → Holds m u k
  pub none : (u k : ℕ) → was_unsettled (m.changes u).verdict ≡ false → (m.changes u).done k ≡ false

pub record KeepsApplied (m : State) : Type 0 where
  pub whole : HeldWhole m
  pub applied_holds : AppliedHolds m

abbrev pub EveryAppliedHolds : Type 0
EveryAppliedHolds = (size : Size) (m : State) → IsReached size m → KeepsApplied m
