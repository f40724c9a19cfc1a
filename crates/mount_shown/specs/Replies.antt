-- The history as the flat file system reads it, and how calls are answered by it. Ours.
use Rattle.std.specs.Prelude.{◌≡◌, ◌≢◌, ◌⊎◌, ℕ, ◌+◌, ◌≤◌, List, length, slice_get, Option, Some}
use Rattle.afr_machine.specs.Changes.{Verdict}
use Rattle.afr_machine.specs.Changes.Verdict.{Undrawn, Drawn, Unsettled, Adopted, Dropped}
use Rattle.dht_fops.specs.Answers.{IsAccepted, Accepts, SaysFlat, flat_op}
use Rattle.dht_laws.specs.Endings.{IsNoFailure, call_answer}
use Rattle.fop_types.specs.Files.{Files}
use Rattle.fop_types.specs.Flat.{flat}
use Rattle.fop_types.specs.Flat.Outcome.{Changes}
use Rattle.fop_types.specs.History.{fs_after}
use Rattle.fop_types.specs.declared.answers.FopAnswer.{FopAnswer}
use Rattle.fop_types.specs.declared.flat.FlatAnswer.TheVariants as flat_answer
use Rattle.fop_types.specs.declared.flat.FlatOp.{FlatOp}
use Rattle.fop_types.specs.declared.fops.Fop.{Fop}
use Rattle.fop_types.specs.declared.history.Entry.{Entry}
use Rattle.mount_laws.specs.Effects.{HasEffect, HasEntry}
use Rattle.mount_laws.specs.Guards.{Allowed, IsReached}
use Rattle.mount_laws.specs.Laws.{EveryState}
use Rattle.mount_laws.specs.Runs.{Run}
use Rattle.mount_laws.specs.States.{State}
use Rattle.mount_laws.specs.Steps.{Step, after}

-- ---- the history

-- Each operation of the history is one that the flat file system accepts, on the files that those before it leave.
abbrev pub HistoryIsLegal : State → Type 0
HistoryIsLegal m = (index : ℕ) (o : FlatOp) → slice_get m.ops index ≡ Some o → IsAccepted (fs_after m.ops index) o

abbrev pub EveryHistoryIsLegal : Type 0
EveryHistoryIsLegal = EveryState HistoryIsLegal

-- The call's own operation was possible at a length of the history that is no less than at its submission, and no more than
-- before the entry: of a rename's unlink of a file of the new name, this says that there was a file to be renamed.
pub record WasPossible (m : State) (index : ℕ) (entry : Entry) : Type 0 where
  pub fop : Fop
  pub began_is : m.began entry.call ≡ Some fop
  pub seen : ℕ
  pub after_submission : m.since entry.call ≤ seen
  pub not_later : seen ≤ index
  pub possible : Accepts (fs_after m.ops seen) (flat_op fop)

abbrev pub EntriesWerePossible : State → Type 0
EntriesWerePossible m = (index : ℕ) (entry : Entry) → slice_get m.history index ≡ Some entry → WasPossible m index entry

abbrev pub EveryEntryWasPossible : Type 0
EveryEntryWasPossible = EveryState EntriesWerePossible

-- ---- answers

-- what the flat file system answers now, and did at each length of the history from the place on
pub record IsReadAt (m : State) (f : Fop) (answer : FopAnswer) (place : Option ℕ) : Type 0 where
  pub now : SaysFlat (fs_after m.ops (length m.history)) (flat_op f) answer
  pub since : (p k : ℕ) → place ≡ Some p → p ≤ k → k ≤ length m.history → SaysFlat (fs_after m.ops k) (flat_op f) answer

-- what the flat file system answers where it makes the call's entry, whose number is the place
pub record IsEntryAt (m : State) (c : ℕ) (f : Fop) (answer : FopAnswer) (place : Option ℕ) : Type 0 where
  pub index : ℕ
  pub entry : Entry
  pub entered : slice_get m.history index ≡ Some entry
  pub call_is : entry.call ≡ c
  pub op : FlatOp
  pub own : flat_op f ≡ Some op
  pub stands : slice_get m.ops index ≡ Some op
  pub after : Files
  pub accepted : flat (fs_after m.ops index) op ≡ Changes (flat_answer.Call (call_answer answer)) after
  pub place_is : place ≡ Some (index + 1)

-- Each answer of a fop but an I/O error is what the flat file system answers: at the fop's entry, or, where it has none, from
-- its place on at each length of the history.
abbrev pub EveryAnswerIsFlat : Type 0
EveryAnswerIsFlat = (first : List (List ℕ)) (m : State) → IsReached first m → (c : ℕ) (run : Run) (answer : FopAnswer) (place : Option ℕ) → Allowed m (Step.Answers c run answer place) → IsNoFailure answer
    → IsReadAt m run.fop answer place ⊎ IsEntryAt m c run.fop answer place

-- ---- changes that failed

-- decided, so that no step changes it
abbrev pub IsDecided : Verdict → Type 0
IsDecided Undrawn = ⊥
IsDecided Drawn = ⊥
IsDecided Unsettled = ⊥
IsDecided Adopted = Unit {0}
IsDecided Dropped = Unit {0}

-- a step leaves the entries with their operations, and adds at most one at their end; and what was decided of a change stays
pub record GoesOn (m : State) (step : Step) : Type 0 where
  pub entries : (index : ℕ) (entry : Entry) → slice_get m.history index ≡ Some entry → slice_get (after m step).history index ≡ Some entry
  pub ops : (index : ℕ) (o : FlatOp) → slice_get m.ops index ≡ Some o → slice_get (after m step).ops index ≡ Some o
  pub most : length (after m step).history ≤ length m.history + 1
  pub decided : (u : ℕ) → IsDecided (m.changes u).verdict → (after m step).changes u ≡ m.changes u

abbrev pub HistoryGoesOn : Type 0
HistoryGoesOn = (first : List (List ℕ)) (m : State) → IsReached first m → (step : Step) → Allowed m step → GoesOn m step

-- the entry of a change that was begun and is not adopted is not in the history; and each entry is there once
pub record IsEnteredLater (m : State) : Type 0 where
  pub later : (u : ℕ) (entry : Entry) → HasEffect (m.changes u) entry → (m.changes u).verdict ≢ Adopted → HasEntry m.history entry → ⊥
  pub once : (i j : ℕ) (entry : Entry) → slice_get m.history i ≡ Some entry → slice_get m.history j ≡ Some entry → i ≡ j

abbrev pub EveryFailedIsEnteredLater : Type 0
EveryFailedIsEnteredLater = EveryState IsEnteredLater
