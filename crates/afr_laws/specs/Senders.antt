-- What holds of every request on its way at a brick, with its sender: in the input line, among the locks that are held
-- or wait, and in the output line. Ours.
use Rattle.std.specs.Prelude.{List, [], ◌∷◌}
use Rattle.afr_machine.specs.Requests.{Sender, Ask, Input, Output}
use Rattle.afr_machine.specs.Requests.Input.{Asked, Steered}
use Rattle.afr_machine.specs.Requests.Output.{Answered, Closed, Opened, Connected}
use Rattle.afr_machine.specs.Locks.{BrickLock}
use Rattle.afr_machine.specs.Bricks.{Brick, ask_of}

abbrev pub EachLock : (Sender → Ask → Type 0) → List BrickLock → Type 0
EachLock P [] = Unit {0}
EachLock P (l ∷ ls) = P l.by (ask_of l) × EachLock P ls

abbrev pub EachInput : (Sender → Ask → Type 0) → List Input → Type 0
EachInput P [] = Unit {0}
EachInput P (Asked by ask ∷ is) = P by ask × EachInput P is
EachInput P (Steered control ∷ is) = EachInput P is

abbrev pub EachOutput : (Sender → Ask → Type 0) → List Output → Type 0
EachOutput P [] = Unit {0}
EachOutput P (Answered by ask answer ∷ os) = P by ask × EachOutput P os
EachOutput P (Closed ∷ os) = EachOutput P os
EachOutput P (Opened ∷ os) = EachOutput P os
EachOutput P (Connected graph ∷ os) = EachOutput P os

-- in the three places beside the line, with whatever holds of the line
pub record EachAt (P : Sender → Ask → Type 0) (L : List Input → Type 0) (b : Brick) : Type 0 where
  pub held : EachLock P b.held
  pub waiting : EachLock P b.waiting
  pub line : L b.line
  pub outputs : EachOutput P b.outputs

abbrev pub Each : (Sender → Ask → Type 0) → Brick → Type 0
Each P b = EachAt P (EachInput P) b
