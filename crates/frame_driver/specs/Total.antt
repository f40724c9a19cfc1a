-- The work that is left, as one number: open winds, what the locals of frames may still spend, and what the
-- tasks of the queue may. Each task makes it fall. Ours.
use Rattle.std.specs.Prelude.{ℕ, ◌+◌, ◌*◌, List, Option, Some, None}
use Rattle.std.specs.List.{sum_by}
use Rattle.xlator_law.specs.Law.{Promise}
use Rattle.frame_stack.specs.Cells.{taken}
use Rattle.frame_stack.specs.declared.frame.Frame.{Frame}
use Rattle.frame_driver.specs.declared.board.Board.{Board}
use Rattle.frame_driver.specs.declared.items.Task.{Task}
use Rattle.frame_driver.specs.declared.items.Task.TheVariants.{Enter, Resume, Go}
use Rattle.frame_driver.specs.Follows.{promise_at, promise_of}

module _ {F L : Type 0} where
  abbrev pub weigh_by : Promise F L → Option L → ℕ
  weigh_by p None = 0
  weigh_by p (Some l) = 1 + 3 * p.left l

  abbrev pub weigh : (ℕ → List (Promise F L)) → Option (Frame L) → ℕ
  weigh ps None = 0
  weigh ps (Some f) = weigh_by (promise_of ps f.place) f.local

module _ {F R L : Type 0} where
  abbrev pub load_of : List (Promise F L) → Task F R → ℕ
  load_of ps (Enter node call parent fop) = 2 + 3 * (promise_at ps node).cost fop
  load_of ps (Resume frame slot reply) = 1
  load_of ps (Go frame) = 1

  abbrev pub total : (ℕ → List (Promise F L)) → Board F R L → ℕ
  total ps b = taken b.stack.openers + sum_by (weigh ps) b.stack.frames + sum_by (load_of (ps b.graph)) b.queue
