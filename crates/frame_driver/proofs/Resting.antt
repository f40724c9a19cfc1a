-- A run that ends, where the queue is found empty.
use Rattle.std.proofs.Common.{◌≡◌, subst}
use Rattle.std.specs.Prelude.{List}
use Rattle.xlator_law.specs.declared.step.Step.{Step}
use Rattle.xlator_law.specs.Law.{Promise, Cause}
use Rattle.frame_driver.specs.declared.items.Task.{Task}
use Rattle.frame_driver.specs.declared.wiring.Wiring.{Wiring}
use Rattle.frame_driver.specs.Machine.{Graph, queued}
use Rattle.frame_driver.proofs.Doing.{Running}

pub running_last : {X C F R L : Type 0} (promise : X → Promise F L) (makes : X → C → Cause F R L → Step F R L → X → C → Type 0) (own now_own : List (Promise F L)) (wiring : Wiring) (old now : Graph X C F R L) (left : List (Task F R)) → Running promise makes own now_own wiring old now → now.board.queue ≡ left → Running promise makes own now_own wiring old (queued now left)
running_last promise makes own now_own wiring old now left r none = subst (λ q. Running promise makes own now_own wiring old (queued now q)) none r
