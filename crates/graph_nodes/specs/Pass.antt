-- A pass node: it hands everything on, and back.
use Rattle.graph_items.specs.declared.items.Down.{Down}
use Rattle.graph_items.specs.declared.items.Up.{Up}
use Rattle.graph_nodes.specs.declared.locals.Local.TheVariants as local
use Rattle.graph_nodes.specs.Moves.{Move, to_child}
use Rattle.graph_nodes.specs.Moves.Move.{Back}

abbrev pub enter_of : Down → Move
enter_of d = to_child 0 d local.Relay

abbrev pub resume_of : Up → Move
resume_of reply = Back reply
