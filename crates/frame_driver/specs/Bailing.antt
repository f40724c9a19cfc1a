-- The end of many winds from outside: those that are pending end in the order in which they were opened, and each
-- frame gets its reply as a task. Ours.
use Rattle.std.specs.Prelude.{ℕ, ◌≤◌, ◌+◌, ◌==◌, Bool, List, [], ◌∷◌, Option, Some, None, count_by}
use Rattle.std.specs.List.Sorted.{IsPermutation, IsNonDecreasingBy}
use Rattle.xlator_law.specs.declared.winds.WindNo.{WindNo}
use Rattle.xlator_law.specs.declared.winds.Settled.{Settled}
use Rattle.xlator_law.specs.declared.winds.Settled.TheVariants.{Won, Lost}
use Rattle.frame_stack.specs.declared.frame.Opener.{Opener}
use Rattle.frame_stack.specs.Moves.{is_wind}
use Rattle.frame_stack.specs.Stack.{Stack, opener_of, word_at, pending}
use Rattle.frame_driver.specs.declared.board.Board.{Board}
use Rattle.frame_driver.specs.declared.items.Bailed.{Bailed}
use Rattle.frame_driver.specs.Machine.{IsEnded}
use Rattle.frame_driver.specs.Tasks.{one, IsWindOurs}

abbrev pub number_of : Option Opener → ℕ
number_of None = 4294967295
number_of (Some o) = o.number

-- how many winds were opened before this one; a wind that is not open comes after all that are
abbrev pub age : {L : Type 0} → Stack L → WindNo → ℕ
age s w = number_of (opener_of s w)

abbrev pub is_bailed : {R : Type 0} → WindNo → Bailed R → Bool
is_bailed w b = is_wind w b.wind

-- each of these winds, where it is open, is of this graph
abbrev pub AreOurs : {R L : Type 0} → Stack L → ℕ → List (Bailed R) → Type 0
AreOurs s g winds = (w : WindNo) → 1 ≤ count_by (is_bailed w) winds → IsWindOurs s g w

-- one for a wind that was pending, nothing for one that was not
abbrev pub won_by : Settled → ℕ
won_by Won = 1
won_by (Lost word) = 0

module _ {F R L : Type 0} where
  -- these winds end, one after another, as far as they are pending, which so many of them are
  pub data AreEnded : List (Bailed R) → Board F R L → Board F R L → ℕ → Type 0 where
    NoEnd : (b : Board F R L) → AreEnded [] b b 0
    OneEnd : (x : Bailed R) → (xs : List (Bailed R)) → (old mid new : Board F R L) → (count : ℕ) →
        IsEnded x.wind x.reply old mid → AreEnded xs mid new count →
        AreEnded (x ∷ xs) old new (one (word_at old.stack x.wind.slot == pending x.wind) + count)

  -- these winds end, the oldest first; so many of them were pending
  pub record IsBailed (winds : List (Bailed R)) (old new : Board F R L) (count : ℕ) : Type 0 where
    pub order : List (Bailed R)
    pub same : IsPermutation winds order
    pub oldest : IsNonDecreasingBy (λ b. age old.stack b.wind) order
    pub ended : AreEnded order old new count
