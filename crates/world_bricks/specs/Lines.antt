-- The bricks of a world with their lines: a brick's line has the inputs that were sent to it and that it has not served, first
-- in, first out, and how many of its outputs have arrived. Ours.
use Rattle.std.specs.Prelude.{ℕ, ◌+◌, Bool, false, ◌&&◌, List, [], ◌∷◌, ◌++◌, map, replicate, length, drop, is_some, slice_get, slice_set, Option, None, Some}
use Rattle.std.specs.List.{range_with_len}
use Rattle.graph_build.specs.declared.plans.Plan.{Plan}
use Rattle.script_lang.specs.declared.scripts.Script.{Script}
use Rattle.brick_machine.specs.Journal.{Journal}
use Rattle.brick_machine.specs.Machine.{texts_of}
use Rattle.hub_tables.specs.Naming.{names_of}
use Rattle.mount_log.specs.declared.logs.SentLine.{SentLine}

pub record LineState : Type 0 where
  pub inputs : List (List ℕ)
  pub arrived : ℕ

-- the bricks, the line of each, and how many of the inputs that were sent have gone into the lines
pub record LinesState : Type 0 where
  pub bricks : List Journal
  pub queues : List LineState
  pub delivered : ℕ

-- ---- the bricks of a script

abbrev pub empty_line : LineState
empty_line = record { inputs = []; arrived = 0 }

abbrev pub new_brick : Script → List Plan → ℕ → Journal
new_brick script plans brick = record { journal = []; names = names_of script plans brick; spent = false }

-- so many bricks, each with its names, that have served nothing, and nothing was sent to them
abbrev pub new_lines : Script → List Plan → ℕ → LinesState
new_lines script plans many = record { bricks = map (new_brick script plans) (range_with_len 0 many); queues = replicate many empty_line; delivered = 0 }

-- ---- inputs that are sent

abbrev pub put_by : Option LineState → SentLine → List LineState → List LineState
put_by None sent queues = queues
put_by (Some line) sent queues = slice_set queues sent.brick (record line { inputs = line.inputs ++ sent.bytes ∷ [] })

-- each input goes to the end of its brick's line
abbrev pub put_all : List SentLine → List LineState → List LineState
put_all [] queues = queues
put_all (s ∷ ss) queues = put_all ss (put_by (slice_get queues s.brick) s queues)

-- the lines with all that was sent; what had gone into them before does not do so again
abbrev pub with_sent : LinesState → List SentLine → LinesState
with_sent lines sent = record lines { queues = put_all (drop lines.delivered sent) lines.queues; delivered = length sent }

-- ---- inputs that are served

abbrev pub first_input : Option LineState → Option (List ℕ)
first_input None = None
first_input (Some line) = slice_get line.inputs 0

-- the next input of a brick
abbrev pub next_input : LinesState → ℕ → Option (List ℕ)
next_input lines brick = first_input (slice_get lines.queues brick)

-- whether there is this brick, with an input
abbrev pub may_serve : LinesState → ℕ → Bool
may_serve lines brick = is_some (slice_get lines.bricks brick) && is_some (next_input lines brick)

abbrev pub shortened_by : Option LineState → ℕ → List LineState → List LineState
shortened_by None brick queues = queues
shortened_by (Some line) brick queues = slice_set queues brick (record line { inputs = drop 1 line.inputs })

abbrev pub served_by : Option Journal → ℕ → List ℕ → List Journal → List Journal
served_by None brick input bricks = bricks
served_by (Some b) brick input bricks = slice_set bricks brick (record { journal = b.journal ++ input ∷ []; names = b.names; spent = false })

-- the brick has an input more in its journal, and that is the first of its line no more
abbrev pub with_served : LinesState → ℕ → List ℕ → LinesState
with_served lines brick input = record lines { bricks = served_by (slice_get lines.bricks brick) brick input lines.bricks; queues = shortened_by (slice_get lines.queues brick) brick lines.queues }

-- ---- outputs that arrive

abbrev pub outputs_by : Option Journal → List (List ℕ)
outputs_by None = []
outputs_by (Some b) = texts_of b.journal

abbrev pub arrived_by : Option LineState → ℕ
arrived_by None = 0
arrived_by (Some line) = line.arrived

-- how many outputs of a brick have arrived
abbrev pub arrived_of : LinesState → ℕ → ℕ
arrived_of lines brick = arrived_by (slice_get lines.queues brick)

-- the next output of a brick
abbrev pub next_output : LinesState → ℕ → Option (List ℕ)
next_output lines brick = slice_get (outputs_by (slice_get lines.bricks brick)) (arrived_of lines brick)

abbrev pub noted_by : Option LineState → ℕ → List LineState → List LineState
noted_by None brick queues = queues
noted_by (Some line) brick queues = slice_set queues brick (record line { arrived = line.arrived + 1 })

-- whether a brick has an output that has not arrived
abbrev pub may_arrive : LinesState → ℕ → Bool
may_arrive lines brick = is_some (next_output lines brick)

-- an output more of the brick has arrived
abbrev pub with_arrival : LinesState → ℕ → LinesState
with_arrival lines brick = record lines { queues = noted_by (slice_get lines.queues brick) brick lines.queues }
