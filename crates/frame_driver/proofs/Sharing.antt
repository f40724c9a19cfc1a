-- Boards of several graphs on one stack.
use Rattle.std.proofs.Common.{◌≡◌, refl, sym, ap, subst, ◌∙◌, arith}
use Rattle.std.specs.Prelude.{ℕ, ◌+◌, ◌++◌, List, [], length, count_by}
use Rattle.xlator_law.specs.declared.step.Step.{Step}
use Rattle.xlator_law.specs.Law.{Promise, Cause}
use Rattle.xlator_law.proofs.Frames.{bounded}
use Rattle.frame_stack.specs.Reached.{Started, Handed}
use Rattle.frame_stack.specs.Stack.{Stack, awaits, frame_at}
use Rattle.frame_driver.specs.declared.board.Board.{Board}
use Rattle.frame_driver.specs.declared.items.Task.{Task}
use Rattle.frame_driver.specs.Breadth.{Nests}
use Rattle.frame_driver.specs.Laws.{BoardsShareAStack, TracesAreBounded}
use Rattle.frame_driver.specs.Machine.{empty_board}
use Rattle.frame_driver.specs.Sound.{is_of, IsReachable, Sound}
use Rattle.frame_driver.specs.Tasks.{one, is_due, is_going, AreTasks}
use Rattle.frame_driver.specs.Traces.{SomeMakes}
use Rattle.frame_driver.proofs.Standing.{moved}
use Rattle.frame_driver.proofs.Tasking.{tasks_stay}

module _ {F R L : Type 0} (ps : ℕ → List (Promise F L)) where
  pub empty_sound : (g : ℕ) → Sound {R = R} ps (empty_board g)
  empty_sound g = record {
    follows = λ key. record { expects = λ n. refl; going = omega (arith); stands = tt };
    tasks = tt;
    reachable = record { moves = []; handed = []; reached = Started };
    counted = refl;
  }

  pub empty_nests : (g : ℕ) → Nests ps (empty_board {F = F} {R = R} {L = L} g)
  empty_nests g = record { frames = λ key. tt; tasks = tt }

  -- lines that are handed over leave a board sound
  pub handed_sound : (b : Board F R L) → Sound ps b → Sound ps (record b { stack = record b.stack { lines = [] } })
  handed_sound b s = record {
    follows = λ key. moved ps b (record b { stack = record b.stack { lines = [] } }) key refl (λ n. refl) refl (s.follows key);
    tasks = tasks_stay b.graph (length (ps b.graph)) b.stack (record b.stack { lines = [] }) (record { ours = λ key h. h; opened = λ call w h. record { past = h.past; kept = λ o is. h.kept o is } }) b.queue s.tasks;
    reachable = record { moves = s.reachable.moves; handed = s.reachable.handed ++ b.stack.lines; reached = Handed b.stack (record b.stack { lines = [] }) s.reachable.moves s.reachable.handed s.reachable.reached refl };
    counted = s.counted;
  }

  -- Where a board with nothing to do is sound, so is every other one with nothing to do on the same stack that
  -- counts its frames.
  pub shared : (b c : Board F R L) → Sound ps b → b.queue ≡ [] → c.queue ≡ [] → c.stack ≡ b.stack → c.frames ≡ count_by (is_of c.graph) c.stack.frames → Sound ps c
  shared b c s done idle stack counted = record {
    follows = λ key. moved ps b c key (ap (λ (t : Stack L). frame_at t key) stack)
        (λ n. ap (λ (t : Stack L). one (awaits t key n) + count_by (is_due key n) c.queue) stack ∙ ap (λ (q : List (Task F R)). one (awaits b.stack key n) + count_by (is_due key n) q) same)
        (ap (λ (q : List (Task F R)). count_by (is_going key) q) same)
        (s.follows key);
    tasks = subst (λ (q : List (Task F R)). AreTasks (length (ps c.graph)) c.graph c.stack q) (sym idle) tt;
    reachable = subst (λ (t : Stack L). IsReachable t) (sym stack) s.reachable;
    counted = counted;
  } where
    same : c.queue ≡ b.queue
    same = idle ∙ sym done

pub boards_share : (F R L : Type 0) → BoardsShareAStack F R L
boards_share F R L = shared {F = F} {R = R} {L = L}

pub traces_bounded : {X C F R L : Type 0} (promise : X → Promise F L) (makes : X → C → Cause F R L → Step F R L → X → C → Type 0) → TracesAreBounded promise makes
traces_bounded promise makes p key call local t = bounded p (SomeMakes promise makes p) (record { frame = key; call = call }) t.fop t.events t.step t.trace
