-- The numbers of the changes in copies: at bricks, and in the messages and transactions that carry them. Ours.
use Rattle.std.specs.Prelude.{◌≡◌, ◌⊎◌, ◌≤◌, ℕ, true, false, List, [], ◌∷◌, Some}
use Rattle.fop_types.specs.StoreOps.{needs}
use Rattle.fop_types.specs.declared.cells.Cell.{Cell}
use Rattle.fop_types.specs.declared.store_ops.StoreOp.{StoreOp}
use Rattle.afr_machine.specs.Touching.{has_cell}
use Rattle.afr_machine.specs.Copies.{Fetched, changes_of, has_change}
use Rattle.afr_machine.specs.Requests.{Ask, Input, Answer, Output}
use Rattle.afr_machine.specs.Requests.Ask.{Op, Fetch, Replace}
use Rattle.afr_machine.specs.Requests.Input.{Asked, Steered}
use Rattle.afr_machine.specs.Requests.Answer.{Content}
use Rattle.afr_machine.specs.Requests.Output.{Answered, Closed, Opened, Connected}
use Rattle.afr_machine.specs.Bricks.{Brick}
use Rattle.afr_machine.specs.Changes.{Change}
use Rattle.afr_machine.specs.Transactions.{Stage}
use Rattle.afr_machine.specs.Transactions.Stage.{Copying}
use Rattle.afr_machine.specs.States.{State}
use Rattle.afr_laws.specs.Senders.{EachInput}
use Rattle.afr_laws.specs.OwnChanges.{was_unsettled}

-- ---- one copy

-- a change of the cell that became unsettled once
pub record IsChangeOf (changes : ℕ → Change) (cell : Cell) (u : ℕ) : Type 0 where
  pub sent : was_unsettled (changes u).verdict ≡ true
  pub touches : has_cell (changes u).cells cell ≡ true

abbrev pub AreChangesOf : (ℕ → Change) → Cell → List ℕ → Type 0
AreChangesOf changes cell [] = Unit {0}
AreChangesOf changes cell (u ∷ us) = IsChangeOf changes cell u × AreChangesOf changes cell us

abbrev pub AreUpTo : ℕ → List ℕ → Type 0
AreUpTo last [] = Unit {0}
AreUpTo last (u ∷ us) = (u ≤ last) × AreUpTo last us

-- the last change is the greatest in the copy; without one, it is a change that does not touch the cell
pub data IsLast (changes : ℕ → Change) (cell : Cell) (last : ℕ) (applied : List ℕ) : Type 0 where
  NoneYet : applied ≡ [] → has_cell (changes last).cells cell ≡ false → IsLast changes cell last applied
  Greatest : has_change applied last ≡ true → AreUpTo last applied → IsLast changes cell last applied

-- the changes in a copy of the cell, with the last one
pub record IsCopyOf (changes : ℕ → Change) (cell : Cell) (applied : List ℕ) (last : ℕ) : Type 0 where
  pub changes_are : AreChangesOf changes cell applied
  pub last_was : (last ≡ 0) ⊎ (was_unsettled (changes last).verdict ≡ true)
  pub last_is : IsLast changes cell last applied

abbrev pub IsFound : (ℕ → Change) → Cell → Fetched → Type 0
IsFound changes cell found = IsCopyOf changes cell found.copy.changes found.last

-- ---- what carries copies and ops

-- the op of a change that became unsettled once, or that of a birth
abbrev pub IsOpOf : (ℕ → Change) → ℕ → StoreOp → Type 0
IsOpOf changes u op = ((u ≡ 0) × (needs op ≡ [])) ⊎ ((was_unsettled (changes u).verdict ≡ true) × (op ≡ (changes u).op))

abbrev pub Carries : (ℕ → Change) → Ask → Type 0
Carries changes (Op u op) = IsOpOf changes u op
Carries changes (Replace cell found) = IsFound changes cell found
Carries changes other = Unit {0}

abbrev pub Shows : (ℕ → Change) → Ask → Answer → Type 0
Shows changes (Fetch cell) (Content found) = IsFound changes cell found
Shows changes ask answer = Unit {0}

abbrev pub EachAnswer : (Ask → Answer → Type 0) → List Output → Type 0
EachAnswer P [] = Unit {0}
EachAnswer P (Answered by ask answer ∷ os) = P ask answer × EachAnswer P os
EachAnswer P (Closed ∷ os) = EachAnswer P os
EachAnswer P (Opened ∷ os) = EachAnswer P os
EachAnswer P (Connected graph ∷ os) = EachAnswer P os

-- what a copy has fetched
abbrev pub RunShows : (ℕ → Change) → Stage → Type 0
RunShows changes (Copying run) = (cell : Cell) (found : Fetched) → run.fetched cell ≡ Some found → IsFound changes cell found
RunShows changes other = Unit {0}

-- ---- ops in one line

-- the request is no op that alters the cell under a smaller number
abbrev pub IsBelowAsk : ℕ → Cell → Ask → Type 0
IsBelowAsk v cell (Op u op) = has_cell (needs op) cell ≡ true → v ≤ u
IsBelowAsk v cell other = Unit {0}

-- no op of the line that alters the cell has a smaller number
abbrev pub IsBelowOps : ℕ → Cell → List Input → Type 0
IsBelowOps v cell line = EachInput (λ by ask. IsBelowAsk v cell ask) line

-- the request brings the change to the copy of the cell
abbrev pub Brings : Ask → Cell → ℕ → Type 0
Brings (Op u op) cell v = (has_cell (needs op) cell ≡ true) × (v ≡ u)
Brings (Replace at found) cell v = (cell ≡ at) × (has_change found.copy.changes v ≡ true)
Brings other cell v = ⊥

-- the ops over one cell rise in a line, also after replacements
abbrev pub LineRises : List Input → Type 0
LineRises [] = Unit {0}
LineRises (Asked by ask ∷ is) = ((cell : Cell) (v : ℕ) → Brings ask cell v → IsBelowOps v cell is) × LineRises is
LineRises (Steered control ∷ is) = LineRises is

-- ---- bricks and transactions

pub record BrickCopies (changes : ℕ → Change) (b : Brick) : Type 0 where
  pub stored : (cell : Cell) → IsCopyOf changes cell (changes_of (b.store cell).copy) (b.store cell).last
  pub line : EachInput (λ by ask. Carries changes ask) b.line
  pub outputs : EachAnswer (Shows changes) b.outputs
  pub below : (cell : Cell) (v : ℕ) → has_change (changes_of (b.store cell).copy) v ≡ true → IsBelowOps v cell b.line
  pub rises : LineRises b.line

pub record CopiesAreOfChanges (m : State) : Type 0 where
  pub bricks : (k : ℕ) → BrickCopies m.changes (m.bricks k)
  pub runs : (t : ℕ) → RunShows m.changes (m.txns t).stage
