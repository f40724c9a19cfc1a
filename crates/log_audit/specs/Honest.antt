-- Honest arrivals: each brick's journal is a prefix of what was sent to it; what arrived from each brick is a prefix of what
-- it puts out over what was sent to it, byte for byte; and each output came only after the inputs that it counts were sent.
use Rattle.std.specs.Prelude.{◌≡◌, ℕ, ◌+◌, ◌≤◌, ◌<◌, ◌^◌, List, Some, length, slice_get, take}
use Rattle.std.specs.List.{AllByRecursion}
use Rattle.fop_types.specs.declared.messages.Output.{Output}
use Rattle.wire_messages.specs.Messages.{output_in}
use Rattle.wire_messages.specs.declared.messages.Message.TheVariants.{Whole}
use Rattle.brick_machine.specs.Journal.{Journal}
use Rattle.brick_machine.specs.Machine.{texts_of}
use Rattle.mount_log.specs.Arrivals.{inputs_to, arrivals_from, sent_before}
use Rattle.mount_log.specs.Outputs.{BringOutputs}
use Rattle.mount_log.specs.declared.logs.HubEvent.{HubEvent}
use Rattle.mount_log.specs.declared.logs.HubEvent.TheVariants as logged
use Rattle.mount_log.specs.declared.logs.Log.{Log}

-- what the log says of one brick
pub record IsOfBrick (log : Log) (brick : ℕ) (b : Journal) : Type 0 where
  pub journal : take (length b.journal) (inputs_to brick log.sent) ≡ b.journal
  pub arrivals : take (length (arrivals_from brick log.events)) (texts_of b.journal) ≡ arrivals_from brick log.events
  pub few : length b.journal < 2 ^ 64

-- what arrives comes from one of so many bricks
abbrev pub IsFrom : ℕ → HubEvent → Type 0
IsFrom many (logged.Arrive brick bytes) = brick < many
IsFrom many (logged.Submit session line) = Unit {0}
IsFrom many (logged.Run graph task) = Unit {0}
IsFrom many (logged.Act a) = Unit {0}
IsFrom many (logged.Arm at p count a) = Unit {0}

-- what arrives comes from these bricks, as outputs in their encoding
pub record ArrivedFrom (bricks : List Journal) (events : List HubEvent) : Type 0 where
  pub from : AllByRecursion (IsFrom (length bricks)) events
  pub outputs : BringOutputs events

pub record HasHonestArrivals (log : Log) : Type 0 where
  pub prefix : (brick : ℕ) →
      arrivals_from brick log.events ≡ take (length (arrivals_from brick log.events)) (texts_of (inputs_to brick log.sent))
  pub timely : (k brick : ℕ) (bytes : List ℕ) (output : Output) → slice_get log.events k ≡ Some (logged.Arrive brick bytes)
      → output_in bytes ≡ Whole output → output.taken ≤ sent_before (k + 1) brick log.sent

-- of each of a run's bricks, the journal is a prefix of what was sent to it, and what arrived from it is one of its outputs
pub record HasJournals (log : Log) (bricks : List Journal) : Type 0 where
  pub arrived : (brick : ℕ) (b : Journal) → slice_get bricks brick ≡ Some b
      → take (length (arrivals_from brick log.events)) (texts_of b.journal) ≡ arrivals_from brick log.events
  pub journals : (brick : ℕ) (b : Journal) → slice_get bricks brick ≡ Some b → take (length b.journal) (inputs_to brick log.sent) ≡ b.journal
