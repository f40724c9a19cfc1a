-- The client of a brick: a request goes out where the connection that it needs is open; else it is gone, and so is what is
-- no request. A reply is handed back.
use Rattle.std.specs.Prelude.{ℕ, List, if◌then◌else◌}
use Rattle.fop_types.specs.declared.messages.BrickRep.TheVariants as rep
use Rattle.client_xlator.specs.Client.{ClientState}
use Rattle.graph_items.specs.declared.items.Down.{Down}
use Rattle.graph_items.specs.declared.items.Down.TheVariants as down
use Rattle.graph_items.specs.declared.items.Up.{Up}
use Rattle.graph_items.specs.declared.items.Up.TheVariants as up
use Rattle.graph_items.specs.Clients.{reaches_at, last_at}
use Rattle.graph_nodes.specs.declared.locals.Local.TheVariants as local
use Rattle.graph_nodes.specs.Moves.{Move, to_child}
use Rattle.graph_nodes.specs.Moves.Move.{Back}

abbrev pub gone_reply : List ClientState → ℕ → Up
gone_reply cs brick = up.Brick (record { rep = rep.Gone; mark = last_at cs brick })

abbrev pub gone : List ClientState → ℕ → Move
gone cs brick = Back (gone_reply cs brick)

abbrev pub enter_of : List ClientState → ℕ → Down → Move
enter_of cs brick (down.Fop f) = gone cs brick
enter_of cs brick (down.Job j) = gone cs brick
enter_of cs brick (down.Request r) = if reaches_at cs brick r.bound then to_child 0 (down.Request r) local.Relay else gone cs brick

abbrev pub resume_of : Up → Move
resume_of reply = Back reply
