-- The lock requests of each call, by where they are among what was sent.
use Rattle.std.specs.Prelude.{◌≡◌, ℕ, ◌<◌, ◌≤◌, ◌⊎◌, Bool, List, [], Some, Contains, length, slice_get, slice_index_or}
use Rattle.std.specs.List.{AllByRecursion}
use Rattle.fop_types.specs.declared.cells.Cell.{Cell}
use Rattle.fop_types.specs.declared.jobs.SetPlan.{SetPlan}
use Rattle.fop_types.specs.declared.messages.BrickReq.{BrickReq}
use Rattle.fop_types.specs.declared.messages.BrickReq.TheVariants as req
use Rattle.fop_types.specs.declared.messages.Input.{Input}
use Rattle.fop_types.specs.declared.messages.Input.TheVariants as input
use Rattle.wire_messages.specs.Messages.{input_in}
use Rattle.wire_messages.specs.declared.messages.Message.{Message}
use Rattle.wire_messages.specs.declared.messages.Message.TheVariants.{Whole, Wrong}
use Rattle.mount_log.specs.Locks.{IsLock}
use Rattle.mount_log.specs.declared.logs.Log.{Log}
use Rattle.mount_log.specs.declared.logs.SentLine.{SentLine}
use Rattle.error_audit.specs.declared.locks.LockAt.{LockAt}

-- the list of a call, by its number
abbrev pub locks_at : List (List LockAt) → ℕ → List LockAt
locks_at lists call = slice_index_or lists call []

-- a lock is in the list of its call, if the call has a list
abbrev pub HasLock : List (List LockAt) → ℕ → LockAt → Type 0
HasLock lists call lock = call < length lists → Contains (locks_at lists call) lock

-- there are as many lists, and what was in a list is there still
pub record AreKept (old new : List (List LockAt)) : Type 0 where
  pub many : length new ≡ length old
  pub kept : (call : ℕ) (lock : LockAt) → Contains (locks_at old call) lock → Contains (locks_at new call) lock

abbrev pub IsRequestNoted : List (List LockAt) → LockAt → BrickReq → Type 0
IsRequestNoted lists lock (req.Lock call shared cells) = HasLock lists call lock
IsRequestNoted lists lock (req.Unlock call) = Unit {0}
IsRequestNoted lists lock (req.Mark change cells) = Unit {0}
IsRequestNoted lists lock (req.Op change fd op) = Unit {0}
IsRequestNoted lists lock (req.Post change cells mask) = Unit {0}
IsRequestNoted lists lock (req.Fetch fd cell) = Unit {0}
IsRequestNoted lists lock (req.Replace cell last content) = Unit {0}
IsRequestNoted lists lock (req.Clear cells mask) = Unit {0}
IsRequestNoted lists lock (req.Settle cells mask) = Unit {0}
IsRequestNoted lists lock req.Index = Unit {0}
IsRequestNoted lists lock (req.Open fd gfid) = Unit {0}
IsRequestNoted lists lock (req.Release fd) = Unit {0}

abbrev pub IsInputNoted : List (List LockAt) → LockAt → Input → Type 0
IsInputNoted lists lock (input.Request wind graph r) = IsRequestNoted lists lock r
IsInputNoted lists lock (input.Connect graph version) = Unit {0}
IsInputNoted lists lock (input.Disconnect graph) = Unit {0}
IsInputNoted lists lock (input.Down serve) = Unit {0}
IsInputNoted lists lock input.Up = Unit {0}
IsInputNoted lists lock (input.FaultAt p number) = Unit {0}

-- what was sent to a brick is in the lists, if it is a lock
abbrev pub IsNoted : List (List LockAt) → LockAt → Message Input → Type 0
IsNoted lists lock (Whole x) = IsInputNoted lists lock x
IsNoted lists lock (Wrong place) = Unit {0}

-- the lock that a line at a place may be
abbrev pub lock_in : ℕ → SentLine → LockAt
lock_in at line = record { at = at; brick = line.brick }

abbrev pub IsLineNoted : List (List LockAt) → ℕ → SentLine → Type 0
IsLineNoted lists at line = IsNoted lists (lock_in at line) (input_in line.bytes)

-- each lock that was sent is in the list of its call, if the call has one
abbrev pub HaveLocks : Log → List (List LockAt) → Type 0
HaveLocks log lists = (call at brick wind : ℕ) (cells : List Cell) → IsLock log call at brick wind cells → HasLock lists call (record { at = at; brick = brick })

-- an input is a call's lock of these cells
pub record IsLockOf (call wind : ℕ) (cells : List Cell) (x : Input) : Type 0 where
  pub graph : ℕ
  pub shared : Bool
  pub is : x ≡ input.Request wind graph (req.Lock call shared cells)

abbrev pub IsLockOn : ℕ → ℕ → List Cell → Message Input → Type 0
IsLockOn call wind cells (Whole x) = IsLockOf call wind cells x
IsLockOn call wind cells (Wrong place) = ⊥

-- one lock more is in the list of a call
abbrev pub IsAdded : List (List LockAt) → ℕ → LockAt → List (List LockAt) → Type 0
IsAdded old call lock new = (c : ℕ) (l : LockAt) → Contains (locks_at new c) l → Contains (locks_at old c) l ⊎ ((c ≡ call) × (l ≡ lock))

-- what was sent is a call's lock, which is noted as this
pub record IsLockIn (call : ℕ) (lock noted : LockAt) (m : Message Input) : Type 0 where
  pub same : noted ≡ lock
  pub wind : ℕ
  pub cells : List Cell
  pub on : IsLockOn call wind cells m

-- what is in a list was there before, or is the lock that was sent
abbrev pub AreFrom : List (List LockAt) → List (List LockAt) → LockAt → Message Input → Type 0
AreFrom old new lock m = (call : ℕ) (noted : LockAt) → Contains (locks_at new call) noted → Contains (locks_at old call) noted ⊎ IsLockIn call lock noted m

-- a lock in a list was sent to its brick at its place for the call of the list
pub record IsOfCall (log : Log) (call : ℕ) (lock : LockAt) : Type 0 where
  pub wind : ℕ
  pub cells : List Cell
  pub sent : IsLock log call lock.at lock.brick wind cells

-- there is nothing else in the lists
abbrev pub AreOfCalls : Log → List (List LockAt) → Type 0
AreOfCalls log lists = (call : ℕ) (lock : LockAt) → Contains (locks_at lists call) lock → IsOfCall log call lock

-- ---- their order

-- a replica is behind each that has the one brick, where it has the other
abbrev pub AreBehind : List ℕ → ℕ → ℕ → Type 0
AreBehind bricks one other = (low high : ℕ) → slice_get bricks low ≡ Some one → slice_get bricks high ≡ Some other → low < high

abbrev pub IsBehind : SetPlan → LockAt → LockAt → Type 0
IsBehind plan one other = one.at < other.at → AreBehind plan.bricks one.brick other.brick

-- if one is at this place or behind it, those behind it are so in the set, too
abbrev pub IsFollowed : SetPlan → ℕ → List LockAt → LockAt → Type 0
IsFollowed plan from locks one = from ≤ one.at → AllByRecursion (IsBehind plan one) locks
