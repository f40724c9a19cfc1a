-- One brick's part of a log: what was sent to it and what arrived from it, byte for byte, each in order.
use Rattle.std.specs.Prelude.{ℕ, ◌+◌, ◌==◌, nat_lt, ◌&&◌, List, [], ◌∷◌, if◌then◌else◌}
use Rattle.mount_log.specs.declared.logs.HubEvent.{HubEvent}
use Rattle.mount_log.specs.declared.logs.HubEvent.TheVariants as logged
use Rattle.mount_log.specs.declared.logs.SentLine.{SentLine}

-- what was sent to a brick
abbrev pub inputs_to : ℕ → List SentLine → List (List ℕ)
inputs_to brick [] = []
inputs_to brick (line ∷ lines) = if line.brick == brick then line.bytes ∷ inputs_to brick lines else inputs_to brick lines

abbrev pub arrival_from : ℕ → HubEvent → List (List ℕ) → List (List ℕ)
arrival_from brick (logged.Arrive from bytes) rest = if from == brick then bytes ∷ rest else rest
arrival_from brick (logged.Submit session line) rest = rest
arrival_from brick (logged.Run graph task) rest = rest
arrival_from brick (logged.Act a) rest = rest
arrival_from brick (logged.Arm at p count a) rest = rest

-- what arrived from a brick
abbrev pub arrivals_from : ℕ → List HubEvent → List (List ℕ)
arrivals_from brick [] = []
arrivals_from brick (e ∷ es) = arrival_from brick e (arrivals_from brick es)

-- how many inputs were sent to a brick before an event
abbrev pub sent_before : ℕ → ℕ → List SentLine → ℕ
sent_before event brick [] = 0
sent_before event brick (line ∷ lines) = (if nat_lt line.event event && (line.brick == brick) then 1 else 0) + sent_before event brick lines
