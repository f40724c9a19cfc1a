-- What a caller sees of a turn: one job in a list, the directory of the hold, or the answer.
use Rattle.std.specs.Prelude.{ℕ, [], ◌∷◌, Option, Some, None}
use Rattle.dht_fops.specs.declared.step.DhtNext.{DhtNext}
use Rattle.dht_fops.specs.declared.step.DhtNext.TheVariants as next
use Rattle.dht_fops.specs.declared.step.Turn.{Turn}
use Rattle.dht_fops.specs.declared.step.Turn.TheVariants as turn

abbrev pub next_of : Turn → DhtNext
next_of (turn.Ask set job) = next.Jobs ((set, job) ∷ [])
next_of (turn.Extend dir) = next.Hold dir
next_of (turn.End answer place) = next.Done answer place

-- the set that is asked
abbrev pub asked_by : Turn → Option ℕ
asked_by (turn.Ask set job) = Some set
asked_by (turn.Extend dir) = None
asked_by (turn.End answer place) = None
