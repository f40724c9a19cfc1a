-- The frames that wait for something that is no wind: each of them is once among those that began to wait, or a
-- task has it go on, or it is outside: `outer` says how often each frame is there. No other frame is. Ours.
use Rattle.std.specs.Prelude.{ℕ, ◌≡◌, ◌+◌, ◌==◌, List, count_by}
use Rattle.xlator_law.specs.Law.{Promise}
use Rattle.frame_stack.specs.Stack.{frame_at}
use Rattle.frame_driver.specs.declared.board.Board.{Board}
use Rattle.frame_driver.specs.Follows.{waits_in}
use Rattle.frame_driver.specs.Tasks.{one, is_going}

abbrev pub times : ℕ → List ℕ → ℕ
times key keys = count_by (λ k. key == k) keys

module _ {F R L : Type 0} where
  abbrev pub noted : (ℕ → ℕ) → Board F R L → ℕ → ℕ
  noted outer b key = times key b.waiting + outer key + count_by (is_going key) b.queue

  abbrev pub AreHeld : (ℕ → List (Promise F L)) → (ℕ → ℕ) → Board F R L → Type 0
  AreHeld ps outer b = (key : ℕ) → noted outer b key ≡ one (waits_in ps (frame_at b.stack key))
