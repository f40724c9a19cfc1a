-- How many winds a call opened and how many more it may: the openings among its lines, what its frames may still
-- spend, and what its fops cost that are still to enter. A fop that is submitted adds its cost to the account of
-- its call, and nothing else makes an account rise; so a fop opens no more winds than it costs. Ours.
use Rattle.std.specs.Prelude.{ℕ, ◌+◌, ◌==◌, ◌&&◌, Bool, cond, List, Option, Some, None, count_by}
use Rattle.std.specs.List.{sum_by}
use Rattle.xlator_law.specs.Law.{Promise}
use Rattle.frame_stack.specs.declared.frame.Frame.{Frame}
use Rattle.frame_stack.specs.Stack.{Line}
use Rattle.frame_driver.specs.declared.board.Board.{Board}
use Rattle.frame_driver.specs.declared.items.Task.{Task}
use Rattle.frame_driver.specs.declared.items.Task.TheVariants.{Enter, Resume, Go}
use Rattle.frame_driver.specs.Follows.{promise_at, promise_of}

-- the line is of a wind that a frame of the call opened
abbrev pub is_opening : ℕ → Line → Bool
is_opening call l = l.2 && (l.1 == call)

module _ {F L : Type 0} where
  abbrev pub left_by : Promise F L → Option L → ℕ
  left_by p None = 0
  left_by p (Some l) = p.left l

  -- what a frame of the call may still spend on winds
  abbrev pub spend : (ℕ → List (Promise F L)) → ℕ → Option (Frame L) → ℕ
  spend ps call None = 0
  spend ps call (Some f) = cond (f.place.call == call) (left_by (promise_of ps f.place) f.local) 0

module _ {F R L : Type 0} where
  -- what a fop of the call costs that is still to enter
  abbrev pub owed : List (Promise F L) → ℕ → Task F R → ℕ
  owed ps call (Enter node c parent fop) = cond (c == call) ((promise_at ps node).cost fop) 0
  owed ps call (Resume frame slot reply) = 0
  owed ps call (Go frame) = 0

  abbrev pub account : (ℕ → List (Promise F L)) → ℕ → Board F R L → ℕ
  account ps call b = count_by (is_opening call) b.stack.lines + sum_by (spend ps call) b.stack.frames + sum_by (owed (ps b.graph) call) b.queue
