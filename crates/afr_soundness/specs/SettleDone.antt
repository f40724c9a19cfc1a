-- Who confirmed the settle of an unsettled change accuses on each of its cells whoever is outside the group. Ours.
use Rattle.std.specs.Prelude.{◌≡◌, ◌≤◌, ◌<◌, ℕ, Bool, true, false}
use Rattle.fop_types.specs.declared.cells.Cell.{Cell}
use Rattle.afr_machine.specs.Replicas.{Replicas, Size, outside}
use Rattle.afr_machine.specs.Touching.{has_cell, share}
use Rattle.afr_machine.specs.Requests.{Sender, Ask}
use Rattle.afr_machine.specs.Requests.Ask.{Clear, Settle}
use Rattle.afr_machine.specs.Requests.Answer.{Done}
use Rattle.afr_machine.specs.Changes.{is_unsettled}
use Rattle.afr_machine.specs.Transactions.Work.{Settles}
use Rattle.afr_machine.specs.Transactions.Stage.{Settling}
use Rattle.afr_machine.specs.States.{State, is_current, phase_of}
use Rattle.afr_machine.specs.Steps.{IsReached}
use Rattle.afr_laws.specs.Senders.{EachInput}
use Rattle.afr_laws.specs.Fresh.{is_behind}
use Rattle.afr_soundness.specs.Replies.{EachReply}
use Rattle.afr_soundness.specs.CopyApart.{ComesBefore}
use Rattle.afr_soundness.specs.Posted.{AccusesAll}

-- ---- while an unsettled change is settled

-- lock phases over one of its cells that ended later saw it unsettled
abbrev pub LaterSeeIt : State → Type 0
LaterSeeIt m =
    (t u p : ℕ) → is_behind (m.txns t).stage ≡ true → (m.txns t).work ≡ Settles u → is_unsettled (m.changes u).verdict ≡ true → (m.txns t).phase < p → p ≤ m.ended → share (m.phases p).cells (m.changes u).cells ≡ true →
    ComesBefore (m.phases p) u → ⊥

abbrev pub ClearsNot : Cell → Ask → Type 0
ClearsNot cell (Clear cells who) = has_cell cells cell ≡ false
ClearsNot cell other = Unit {0}

-- no clear over one of its cells is on its way to a brick that the lock phase reached
abbrev pub NoneClears : State → Type 0
NoneClears m =
    (t u k : ℕ) (cell : Cell) → is_behind (m.txns t).stage ≡ true → (m.txns t).work ≡ Settles u → is_unsettled (m.changes u).verdict ≡ true → (phase_of m t).reached k ≡ true → has_cell (m.changes u).cells cell ≡ true →
    EachInput (λ by ask. ClearsNot cell ask) (m.bricks k).line

-- ---- who confirmed

-- whoever answered a settle with Done, while its transaction waits for the answer
abbrev pub ShowsSettled : Size → State → ℕ → Sender → Ask → Type 0
ShowsSettled size m k by (Settle u cells accused) =
    is_current (m.links k by.graph) by.connection ≡ true → (group : Replicas) (adopts : Bool) → (m.txns by.txn).stage ≡ Settling u group adopts → (m.txns by.txn).out k ≡ false → is_unsettled (m.changes u).verdict ≡ true →
    AccusesAll m k (m.changes u).cells (outside size group)
ShowsSettled size m k by other = Unit {0}

pub record SettleDoneAccuses (size : Size) (m : State) : Type 0 where
  pub later : LaterSeeIt m
  pub clears : NoneClears m
  pub replies : (k : ℕ) → EachReply (λ by ask answer. answer ≡ Done → ShowsSettled size m k by ask) (m.bricks k).outputs
  pub confirmed : (t u k : ℕ) (group : Replicas) (adopts : Bool) → (m.txns t).stage ≡ Settling u group adopts → is_unsettled (m.changes u).verdict ≡ true → (m.txns t).confirmed k ≡ true →
      ((phase_of m t).reached k ≡ true) × AccusesAll m k (m.changes u).cells (outside size group)

abbrev pub EverySettleDoneAccuses : Type 0
EverySettleDoneAccuses = (size : Size) (m : State) → IsReached size m → SettleDoneAccuses size m
