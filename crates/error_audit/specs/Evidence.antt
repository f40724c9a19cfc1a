-- What the evidence of an I/O error is made of: lines that were sent, numbers of connections, and what arrived from a brick.
use Rattle.std.specs.Prelude.{◌≡◌, ℕ, ◌<◌, List, Some, slice_get}
use Rattle.fop_types.specs.declared.messages.BrickRep.TheVariants as rep
use Rattle.fop_types.specs.declared.messages.Input.{Input}
use Rattle.fop_types.specs.declared.messages.OutKind.{OutKind}
use Rattle.fop_types.specs.declared.messages.OutKind.TheVariants as out
use Rattle.fop_types.specs.declared.messages.Output.{Output}
use Rattle.wire_messages.specs.Messages.{output_in}
use Rattle.wire_messages.specs.declared.messages.Message.TheVariants.{Whole}
use Rattle.wire_xdr.specs.WireText.{input_text}
use Rattle.mount_log.specs.Causes.{IsWindOf}
use Rattle.mount_log.specs.Connections.{last_connection}
use Rattle.mount_log.specs.declared.logs.HubEvent.TheVariants as logged
use Rattle.mount_log.specs.declared.logs.Log.{Log}
use Rattle.mount_log.specs.declared.logs.SentLine.{SentLine}
use Rattle.error_audit.specs.Opened.{openings_to, openings_at}
use Rattle.error_audit.specs.declared.connections.Opening.{Opening}

-- the event of this number sent the input to the brick
pub record IsSentTo (number brick : ℕ) (x : Input) (line : SentLine) : Type 0 where
  pub event_is : line.event ≡ number
  pub brick_is : line.brick ≡ brick
  pub bytes_are : line.bytes ≡ input_text x

-- the openings have the number of the graph's last connection to the brick, at each moment
abbrev pub HasNumbers : Log → ℕ → ℕ → List Opening → Type 0
HasNumbers log graph brick openings = (last : ℕ) → openings_to last graph brick openings ≡ last_connection log graph brick last

abbrev pub HaveNumbers : Log → ℕ → List (List Opening) → Type 0
HaveNumbers log graph lists = (brick : ℕ) → HasNumbers log graph brick (openings_at lists brick)

-- the output arrived from the brick, before the event of this number ended
pub record IsArrived (log : Log) (until brick : ℕ) (output : Output) : Type 0 where
  pub place : ℕ
  pub bytes : List ℕ
  pub arrives : slice_get log.events place ≡ Some (logged.Arrive brick bytes)
  pub by_then : place < until
  pub read : output_in bytes ≡ Whole output

-- a fault of a request of the call
pub record IsFaultOf (log : Log) (call : ℕ) (kind : OutKind) : Type 0 where
  pub wind : ℕ
  pub is : kind ≡ out.Reply wind rep.Fault
  pub of_call : IsWindOf log call wind
