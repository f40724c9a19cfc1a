-- The root: it hands a fop down, and gives an answer that no lock has placed the length of the history as its place.
use Rattle.std.specs.Prelude.{ℕ, length, Option, Some, None}
use Rattle.fop_types.specs.declared.cells.Cell.{Cell}
use Rattle.afr_ledger.specs.Ledger.{State}
use Rattle.graph_items.specs.declared.items.Down.{Down}
use Rattle.graph_items.specs.declared.items.Up.{Up}
use Rattle.graph_items.specs.declared.items.Up.TheVariants as up
use Rattle.graph_nodes.specs.declared.locals.Local.TheVariants as local
use Rattle.graph_nodes.specs.Moves.{Move, to_child}
use Rattle.graph_nodes.specs.Moves.Move.{Back}

abbrev pub enter_of : Down → Move
enter_of d = to_child 0 d local.Relay

abbrev pub place_by : Option ℕ → ℕ → ℕ
place_by None length = length
place_by (Some place) length = place

abbrev pub placed : State Cell → Up → Up
placed ledger (up.Answer answer place) = up.Answer answer (Some (place_by place (length ledger.history)))
placed ledger (up.Set reply) = up.Set reply
placed ledger (up.Brick said) = up.Brick said

abbrev pub resume_of : State Cell → Up → Move
resume_of ledger reply = Back (placed ledger reply)
