-- A brick as a function on lists: its outputs are a function of its inputs, both in bytes. Each output carries the
-- number of inputs up to the one that caused it; bytes that are no input are answered with the place at which they stop
-- being one, and change nothing.
use Rattle.std.specs.Prelude.{ℕ, ◌+◌, List, [], ◌∷◌, ◌++◌, map}
use Rattle.fop_types.specs.declared.messages.Input.{Input}
use Rattle.fop_types.specs.declared.messages.Input.TheVariants.{Request, Down, Up, Connect, Disconnect, FaultAt}
use Rattle.fop_types.specs.declared.messages.OutKind.{OutKind}
use Rattle.fop_types.specs.declared.messages.OutKind.TheVariants.{Malformed}
use Rattle.fop_types.specs.declared.messages.Output.{Output}
use Rattle.wire_xdr.specs.WireText.{output_text}
use Rattle.wire_messages.specs.Messages.{input_in}
use Rattle.wire_messages.specs.declared.messages.Message.{Message}
use Rattle.wire_messages.specs.declared.messages.Message.TheVariants.{Whole, Wrong}
use Rattle.brick_machine.specs.State.{start}
use Rattle.brick_machine.specs.declared.state.State.{State}
use Rattle.brick_machine.specs.Locking.{Served}
use Rattle.brick_machine.specs.Serving.{request_served}
use Rattle.brick_machine.specs.Controls.{connected, disconnected, gone_down, come_up, faulted}

abbrev pub input_served : State → Input → Served
input_served s (Request wind graph r) = request_served s wind graph r
input_served s (Down serve) = gone_down s serve
input_served s Up = come_up s
input_served s (Connect graph version) = connected s graph version
input_served s (Disconnect graph) = disconnected s graph
input_served s (FaultAt p number) = faulted s p number

abbrev pub served : State → Message Input → Served
served s (Whole input) = input_served s input
served s (Wrong place) = record { state = s; outs = Malformed place ∷ [] }

-- outputs with the number of inputs up to them
abbrev pub with_taken : ℕ → List OutKind → List Output
with_taken taken kinds = map (λ kind. record { taken = taken; kind = kind }) kinds

abbrev pub state_from : State → List (List ℕ) → State
state_from s [] = s
state_from s (bytes ∷ inputs) = state_from (served s (input_in bytes)).state inputs

abbrev pub outputs_from : State → ℕ → List (List ℕ) → List Output
outputs_from s before [] = []
outputs_from s before (bytes ∷ inputs) =
    with_taken (before + 1) (served s (input_in bytes)).outs ++ outputs_from (served s (input_in bytes)).state (before + 1) inputs

-- what a brick keeps after its inputs, and what it has put out, from the beginning
abbrev pub state_of : List (List ℕ) → State
state_of inputs = state_from start inputs

abbrev pub outputs_of : List (List ℕ) → List Output
outputs_of inputs = outputs_from start 0 inputs

abbrev pub texts_of : List (List ℕ) → List (List ℕ)
texts_of inputs = map output_text (outputs_of inputs)
