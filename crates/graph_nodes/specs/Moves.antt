-- What a node does with a frame, as plain data: it winds things to children and waits with a local, waits with a local
-- for what is no wind, or ends the frame with an answer. A wind is a child, a slot and what is handed down.
use Rattle.std.specs.Prelude.{◌≡◌, ℕ, List, [], ◌∷◌}
use Rattle.xlator_law.specs.declared.step.Step.{Step}
use Rattle.xlator_law.specs.declared.step.Step.TheVariants as step
use Rattle.xlator_law.specs.Law.{WindsThese}
use Rattle.graph_items.specs.declared.items.Down.{Down}
use Rattle.graph_items.specs.declared.items.Up.{Up}
use Rattle.graph_nodes.specs.declared.locals.Local.{Local}

pub data Move : Type 0 where
  On : (winds : List (ℕ × ℕ × Down)) → (local : Local) → Move
  Waits : (local : Local) → Move
  Back : (reply : Up) → Move

-- one thing is handed to a child, in slot 0
abbrev pub to_child : ℕ → Down → Local → Move
to_child child d local = On ((child, 0, d) ∷ []) local

-- the step of the law that a move is
abbrev pub IsMove : Move → Step Down Up Local → Type 0
IsMove (On winds local) s = WindsThese winds local s
IsMove (Waits local) s = s ≡ step.Wait local
IsMove (Back reply) s = s ≡ step.Unwind reply
