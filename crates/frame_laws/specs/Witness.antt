-- The premises of the laws can be met.
use Rattle.std.specs.Prelude.{ℕ, List, IsSome}
use Rattle.xlator_law.specs.Law.{Promise}
use Rattle.frame_stack.specs.Stack.{frame_at}
use Rattle.frame_driver.specs.declared.board.Board.{Board}
use Rattle.frame_laws.specs.Resting.{IsAtRest}

-- A board with nothing to do has an open frame, and nothing is outside but what was sent.
pub record RestIsMet : Type 0 where
  pub all : ℕ → List (Promise ℕ ℕ)
  pub board : Board ℕ ℕ ℕ
  pub rests : IsAtRest all (λ _. 0) board
  pub key : ℕ
  pub there : IsSome (frame_at board.stack key)
