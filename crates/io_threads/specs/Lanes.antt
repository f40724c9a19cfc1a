-- The tasks that wait, as four lists, one for each priority and in each the oldest task first. A task
-- is taken from the highest list that has one, and there it is the oldest.
use Rattle.std.specs.Prelude.{List, [], ◌∷◌, ◌++◌, Option, Some, None}
use Rattle.io_threads.specs.declared.priority.Priority.{Priority}
use Rattle.io_threads.specs.declared.priority.Priority.TheVariants.{High, Normal, Low, Least}

pub record Lanes (T : Type 0) : Type 0 where
  pub high : List T
  pub normal : List T
  pub low : List T
  pub least : List T

module _ {T : Type 0} where
  abbrev pub lanes : List T → List T → List T → List T → Lanes T
  lanes h n l b = record { high = h; normal = n; low = l; least = b }

  abbrev pub no_tasks : Lanes T
  no_tasks = lanes [] [] [] []

  -- the task is last in the list of its priority, and the other lists stay
  abbrev pub pushed : Priority → T → Lanes T → Lanes T
  pushed High task q = record q { high = q.high ++ task ∷ [] }
  pushed Normal task q = record q { normal = q.normal ++ task ∷ [] }
  pushed Low task q = record q { low = q.low ++ task ∷ [] }
  pushed Least task q = record q { least = q.least ++ task ∷ [] }

  -- all tasks, in the order in which they are taken if no more come
  abbrev pub in_turn : Lanes T → List T
  in_turn q = q.high ++ q.normal ++ q.low ++ q.least

  abbrev pub first_of : List T → Option T
  first_of [] = None
  first_of (task ∷ _) = Some task

  abbrev remaining : List T → List T → List T → List T → Lanes T
  remaining (_ ∷ h) n l b = lanes h n l b
  remaining [] (_ ∷ n) l b = lanes [] n l b
  remaining [] [] (_ ∷ l) b = lanes [] [] l b
  remaining [] [] [] (_ ∷ b) = lanes [] [] [] b
  remaining [] [] [] [] = no_tasks

  -- the first list that is not empty loses its first task
  abbrev pub without_first : Lanes T → Lanes T
  without_first q = remaining q.high q.normal q.low q.least
