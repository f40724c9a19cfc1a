-- What the openers and the words of a stack keep: there is a word for each slot, which is free exactly
-- where there is no opener; no two slots have the same slot of the same frame; and every slot's turns are counted by the winds that were opened. No public
-- clause cites this module.
use Rattle.std.specs.Prelude.{ℕ, ◌≡◌, ◌≤◌, ◌+◌, ◌*◌, ◌⊎◌, List, length, Option, Some, None}
use Rattle.frame_stack.specs.declared.frame.Opener.{Opener}
use Rattle.frame_stack.specs.Cells.{cell_at}
use Rattle.frame_stack.specs.Stack.{word_of}

-- the word of a slot with this opener, at some turn
abbrev pub IsWordOf : Option Opener → ℕ → Type 0
IsWordOf None word = (turn : ℕ) × (word ≡ turn * 4)
IsWordOf (Some o) word = (turn : ℕ) × ((word ≡ turn * 4 + 1) ⊎ (word ≡ turn * 4 + 2))

pub record AreKept (openers : List (Option Opener)) (words : List ℕ) (opened : ℕ) : Type 0 where
  pub lengths : length words ≡ length openers
  pub few : length openers ≤ 2147483648
  pub word : (slot : ℕ) → IsWordOf (cell_at openers slot) (word_of words slot)
  pub single : (i j : ℕ) (a b : Opener) → cell_at openers i ≡ Some a → cell_at openers j ≡ Some b → a.frame ≡ b.frame → a.slot ≡ b.slot → i ≡ j
  pub counted : (slot : ℕ) → word_of words slot ≤ opened * 4
  pub bounded : opened ≤ 4294967295
