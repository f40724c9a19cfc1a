-- What is adopted fits: the op of a change that a good copy has, and of one that is to be adopted, fits the contents that are adopted
-- before it; and each op on its way fits its brick as it fits these. Ours.
use Rattle.std.specs.Prelude.{◌≡◌, ◌<◌, ◌⊎◌, ℕ, true}
use Rattle.fop_types.specs.StoreOps.{needs, fits}
use Rattle.fop_types.specs.declared.cells.Cell.{Cell}
use Rattle.afr_machine.specs.Replicas.{Size, IsSize}
use Rattle.afr_machine.specs.Touching.{has_cell}
use Rattle.afr_machine.specs.Copies.{contents_of, has_change}
use Rattle.afr_machine.specs.Requests.{Ask}
use Rattle.afr_machine.specs.Requests.Ask.{Op}
use Rattle.afr_machine.specs.Changes.{is_unsettled}
use Rattle.afr_machine.specs.States.{State}
use Rattle.afr_machine.specs.Steps.{MayDecide, IsReached}
use Rattle.afr_laws.specs.Senders.{EachInput}
use Rattle.afr_laws.specs.Numbers.{applied}
use Rattle.afr_contents.specs.Staying.{IsAccusedByMany}
use Rattle.afr_contents.specs.Good.{IsGoodAt}

abbrev pub AppliedFit : State → Type 0
AppliedFit m =
    (u i : ℕ) (cell : Cell) → is_unsettled (m.changes u).verdict ≡ true → has_cell (m.changes u).cells cell ≡ true → IsGoodAt m i cell → has_change (applied m i cell) u ≡ true → fits m.adopted (m.changes u).op ≡ true

abbrev pub AdoptionsFit : Size → State → Type 0
AdoptionsFit size m = (t : ℕ) (h : MayDecide size m t) → h.adopts ≡ true → is_unsettled (m.changes h.change).verdict ≡ true → fits m.adopted (m.changes h.change).op ≡ true

-- the op fits the brick's store exactly if it fits what is adopted, or the replica is accused on each cell that the op needs
abbrev pub IsJudgedAt : Size → State → ℕ → Ask → Type 0
IsJudgedAt size m i (Op u op) = (fits (contents_of (m.bricks i).store) op ≡ fits m.adopted op) ⊎ ((cell : Cell) → has_cell (needs op) cell ≡ true → IsAccusedByMany size m cell i)
IsJudgedAt size m i other = Unit {0}

abbrev pub OpsAreJudged : Size → State → Type 0
OpsAreJudged size m = (i : ℕ) → i < size.replicas → EachInput (λ by ask. IsJudgedAt size m i ask) (m.bricks i).line

pub record KeepsFitting (size : Size) (m : State) : Type 0 where
  pub applied_fit : AppliedFit m
  pub adoptions_fit : AdoptionsFit size m
  pub ops_judged : OpsAreJudged size m

abbrev pub EveryAdoptionFits : Type 0
EveryAdoptionFits = (size : Size) (m : State) → IsSize size → IsReached size m → KeepsFitting size m
