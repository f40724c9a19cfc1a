-- The generator that chooses events: it is begun with the seed, and moves once before each event. Ours.
use Rattle.std.specs.Prelude.{ℕ, ◌+◌, ◌*◌, ◌/◌, ◌%◌, ◌^◌}

-- the generator's state after one more move, which is the value that it gives
abbrev pub moved : ℕ → ℕ
moved x = (x * 6364136223846793005 + 1442695040888963407) % 2 ^ 64

-- which of so many things a value chooses, from 0
abbrev pub chosen_of : ℕ → ℕ → ℕ
chosen_of value count = (value / 2 ^ 33) % count
