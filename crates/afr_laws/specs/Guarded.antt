-- What every state keeps that allowed steps lead to, as far as it is proved. Each is a fact of one brick, of one
-- transaction at one brick, or of one connection. Ours.
use Rattle.afr_machine.specs.Replicas.{Size}
use Rattle.afr_machine.specs.States.{State}
use Rattle.afr_machine.specs.Steps.{IsReached}
use Rattle.afr_laws.specs.Flights.{AreOnTheirWay}
use Rattle.afr_laws.specs.Locks.{HeldApart}
use Rattle.afr_laws.specs.Connections.{ConnectsComeFirst}
use Rattle.afr_laws.specs.Waiting.{EachWaitsFit}
use Rattle.afr_laws.specs.Grants.{GrantsAreHeld}
use Rattle.afr_laws.specs.Apart.{GrantsApart}
use Rattle.afr_laws.specs.Asking.{EachAskIsOfItsPhase, EachAnswerComes}
use Rattle.afr_laws.specs.Drawn.{ChangesAreDrawn}

-- lines and locks: no majorities, no contents
pub record KeepsLines (size : Size) (m : State) : Type 0 where
  pub on_their_way : AreOnTheirWay m
  pub held_apart : HeldApart m
  pub connects_first : ConnectsComeFirst m
  pub waits_fit : EachWaitsFit size m
  pub grants_held : GrantsAreHeld m
  pub grants_apart : GrantsApart m
  pub asks_are : EachAskIsOfItsPhase size m
  pub answers_come : EachAnswerComes m

abbrev pub EveryStateKeepsLines : Type 0
EveryStateKeepsLines = (size : Size) (m : State) → IsReached size m → KeepsLines size m

-- numbers of changes
abbrev pub EveryChangeIsDrawn : Type 0
EveryChangeIsDrawn = (size : Size) (m : State) → IsReached size m → ChangesAreDrawn m
