-- The word of a slot: four times the slot's turn, and the state of that turn, 0 free, 1 pending, 2 replied,
-- 3 bailed. So a word only rises: it runs through the states of one turn and then to the next turn. Ours.
use Rattle.std.specs.Prelude.{ℕ, ◌+◌, ◌*◌, List, slice_index_or, nat_le, if◌then◌else◌}

abbrev pub free_at : ℕ → ℕ
free_at turn = turn * 4

abbrev pub pending_at : ℕ → ℕ
pending_at turn = turn * 4 + 1

abbrev pub replied_at : ℕ → ℕ
replied_at turn = turn * 4 + 2

abbrev pub bailed_at : ℕ → ℕ
bailed_at turn = turn * 4 + 3

-- the word of a slot, 0 where there is no such word
abbrev pub word_of : List ℕ → ℕ → ℕ
word_of words slot = slice_index_or words slot 0

-- once where the word has come to `from`, and never before
unfoldable pub once_from : ℕ → ℕ → ℕ
once_from from word = if nat_le from word then 1 else 0
