-- What the output that arrives in an event says in short: how many inputs it counts, which wind it answers, or what became of
-- its brick.
use Rattle.std.specs.Prelude.{ℕ, List, [], ◌∷◌}
use Rattle.fop_types.specs.declared.messages.BrickRep.{BrickRep}
use Rattle.fop_types.specs.declared.messages.BrickRep.TheVariants as rep
use Rattle.fop_types.specs.declared.messages.OutKind.{OutKind}
use Rattle.fop_types.specs.declared.messages.OutKind.TheVariants as out
use Rattle.fop_types.specs.declared.messages.Output.{Output}
use Rattle.wire_messages.specs.Messages.{output_in}
use Rattle.wire_messages.specs.declared.messages.Message.{Message}
use Rattle.wire_messages.specs.declared.messages.Message.TheVariants.{Whole, Wrong}
use Rattle.mount_log.specs.declared.logs.HubEvent.{HubEvent}
use Rattle.mount_log.specs.declared.logs.HubEvent.TheVariants as logged
use Rattle.mount_log.specs.declared.heads.Head.{Head}
use Rattle.mount_log.specs.declared.heads.Said.{Said}
use Rattle.mount_log.specs.declared.heads.Said.TheVariants as said

abbrev pub reply_head : ℕ → BrickRep → Said
reply_head wind rep.Gone = said.Gone wind
reply_head wind (rep.Done arm) = said.Reply wind
reply_head wind rep.Fault = said.Reply wind
reply_head wind rep.Unfit = said.Reply wind
reply_head wind rep.BadFd = said.Reply wind

abbrev pub kind_head : OutKind → Said
kind_head (out.Reply wind rep) = reply_head wind rep
kind_head out.Closed = said.Closed
kind_head out.Opened = said.Opened
kind_head (out.Connected graph version) = said.Other
kind_head (out.Malformed place) = said.Other

abbrev pub no_head : Head
no_head = record { taken = 0; said = said.Other }

abbrev pub head_in : Message Output → Head
head_in (Whole output) = record { taken = output.taken; said = kind_head output.kind }
head_in (Wrong place) = no_head

abbrev pub head_of : HubEvent → Head
head_of (logged.Arrive brick bytes) = head_in (output_in bytes)
head_of (logged.Submit session line) = no_head
head_of (logged.Run graph task) = no_head
head_of (logged.Act a) = no_head
head_of (logged.Arm at p count a) = no_head

-- of each event, in order
abbrev pub heads_of : List HubEvent → List Head
heads_of [] = []
heads_of (e ∷ es) = head_of e ∷ heads_of es
