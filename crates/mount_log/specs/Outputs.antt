-- Arrivals that are the encodings of outputs.
use Rattle.std.specs.Prelude.{◌≡◌, ℕ, List}
use Rattle.std.specs.List.{AllByRecursion}
use Rattle.fop_types.specs.declared.messages.Output.{Output}
use Rattle.wire_xdr.specs.WireText.{output_text, IsOutput}
use Rattle.mount_log.specs.declared.logs.HubEvent.{HubEvent}
use Rattle.mount_log.specs.declared.logs.HubEvent.TheVariants as logged

pub record IsEncodedOutput (bytes : List ℕ) : Type 0 where
  pub output : Output
  pub legal : IsOutput output
  pub encoded : bytes ≡ output_text output

-- what arrives in the event is the encoding of an output
abbrev pub BringsOutput : HubEvent → Type 0
BringsOutput (logged.Arrive brick bytes) = IsEncodedOutput bytes
BringsOutput (logged.Submit session line) = Unit {0}
BringsOutput (logged.Run graph task) = Unit {0}
BringsOutput (logged.Act a) = Unit {0}
BringsOutput (logged.Arm at p count a) = Unit {0}

abbrev pub BringOutputs : List HubEvent → Type 0
BringOutputs events = AllByRecursion BringsOutput events
