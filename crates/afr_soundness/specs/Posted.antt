-- Who confirmed the post of an unsettled change accuses on each of its cells whoever has not applied it. Ours.
use Rattle.std.specs.Prelude.{◌≡◌, ◌⊎◌, ℕ, true, false, List}
use Rattle.fop_types.specs.declared.cells.Cell.{Cell}
use Rattle.afr_machine.specs.Replicas.{Replicas, Size, outside}
use Rattle.afr_machine.specs.Touching.{has_cell}
use Rattle.afr_machine.specs.Requests.{Sender, Ask}
use Rattle.afr_machine.specs.Requests.Ask.{Post}
use Rattle.afr_machine.specs.Requests.Answer.{Done}
use Rattle.afr_machine.specs.Changes.{is_unsettled}
use Rattle.afr_machine.specs.Transactions.Stage.{Posting}
use Rattle.afr_machine.specs.States.{State, is_current}
use Rattle.afr_machine.specs.Steps.{IsReached}
use Rattle.afr_laws.specs.Rows.{accuses_at}
use Rattle.afr_soundness.specs.Replies.{EachReply}

-- a post goes to bricks alone that applied the change
abbrev pub PostsGoToTheApplied : State → Type 0
PostsGoToTheApplied m = (t u k : ℕ) → (m.txns t).stage ≡ Posting u → ((m.txns t).left k ≡ true) ⊎ ((m.txns t).waits k ≡ true) → (m.changes u).done k ≡ true

-- the brick accuses each of these on each of the cells
abbrev pub AccusesAll : State → ℕ → List Cell → Replicas → Type 0
AccusesAll m k cells accused = (cell : Cell) (i : ℕ) → has_cell cells cell ≡ true → accused i ≡ true → accuses_at (m.bricks k).store cell i ≡ true

-- whoever answered a post with Done, while its transaction waits for the answer
abbrev pub ShowsPosted : Size → State → ℕ → Sender → Ask → Type 0
ShowsPosted size m k by (Post u cells accused) =
    is_current (m.links k by.graph) by.connection ≡ true → (m.txns by.txn).stage ≡ Posting u → (m.txns by.txn).out k ≡ false → is_unsettled (m.changes u).verdict ≡ true →
    AccusesAll m k (m.changes u).cells (outside size (m.changes u).done)
ShowsPosted size m k by other = Unit {0}

pub record PostDoneAccuses (size : Size) (m : State) : Type 0 where
  pub posts : PostsGoToTheApplied m
  pub replies : (k : ℕ) → EachReply (λ by ask answer. answer ≡ Done → ShowsPosted size m k by ask) (m.bricks k).outputs
  pub confirmed : (t u k : ℕ) → (m.txns t).stage ≡ Posting u → is_unsettled (m.changes u).verdict ≡ true → (m.txns t).confirmed k ≡ true → ((m.changes u).done k ≡ true) × AccusesAll m k (m.changes u).cells (outside size (m.changes u).done)

abbrev pub EveryPostDoneAccuses : Type 0
EveryPostDoneAccuses = (size : Size) (m : State) → IsReached size m → PostDoneAccuses size m
