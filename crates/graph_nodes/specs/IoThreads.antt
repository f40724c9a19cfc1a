-- An io-threads node: what enters it waits in the queue of its priority until its turn comes, and is then handed on.
-- Replies pass at once. A graph keeps which of these nodes have somebody that waits.
use Rattle.std.specs.Prelude.{◌≡◌, ℕ, ◌+◌}
use Rattle.std.specs.BTreeSet.{insert_key}
use Rattle.std.specs.Ordering.{nat_cmp}
use Rattle.fop_types.specs.declared.fops.Fop.{Fop}
use Rattle.fop_types.specs.declared.fops.Fop.TheVariants as fop
use Rattle.xlator_law.specs.declared.step.Step.{Step}
use Rattle.xlator_law.specs.declared.winds.Entry.{Entry}
use Rattle.graph_items.specs.declared.items.Down.{Down}
use Rattle.graph_items.specs.declared.items.Down.TheVariants as down
use Rattle.graph_items.specs.declared.items.Up.{Up}
use Rattle.io_threads.specs.declared.priority.Priority.{Priority}
use Rattle.io_threads.specs.declared.priority.Priority.TheVariants.{High, Normal, Low, Least}
use Rattle.io_threads.specs.Lanes.{pushed}
use Rattle.graph_nodes.specs.declared.context.Context.{Context}
use Rattle.graph_nodes.specs.declared.kinds.IoThreads.{IoThreads}
use Rattle.graph_nodes.specs.declared.locals.Local.{Local}
use Rattle.graph_nodes.specs.declared.locals.Local.TheVariants as local
use Rattle.graph_nodes.specs.Moves.{Move, IsMove, to_child}
use Rattle.graph_nodes.specs.Moves.Move.{Waits}

abbrev pub priority_of_fop : Fop → Priority
priority_of_fop (fop.Lookup parent name) = High
priority_of_fop (fop.Mkdir parent name mode drawn) = Normal
priority_of_fop (fop.Rmdir parent name) = Normal
priority_of_fop (fop.Create fd parent name mode drawn) = Normal
priority_of_fop (fop.Unlink parent name) = Normal
priority_of_fop (fop.Rename parent name target new_name) = Normal
priority_of_fop (fop.Open fd object) = High
priority_of_fop (fop.Stat object) = High
priority_of_fop (fop.List object) = High
priority_of_fop (fop.Chmod object mode) = Normal
priority_of_fop (fop.Truncate object size) = Low
priority_of_fop (fop.SetAttr object attr) = Normal
priority_of_fop (fop.GetAttr object name) = High
priority_of_fop (fop.DelAttr object name) = Normal
priority_of_fop (fop.Read fd object offset count) = Low
priority_of_fop (fop.Write fd object offset bytes) = Low
priority_of_fop (fop.Migrate fds) = Least
priority_of_fop (fop.Heal count) = Least

-- what is no fop goes as background work
abbrev pub priority_of : Down → Priority
priority_of (down.Fop f) = priority_of_fop f
priority_of (down.Job j) = Least
priority_of (down.Request r) = Least

-- a frame waits in the queue of its priority, and is counted
abbrev pub queued : Priority → ℕ → IoThreads → IoThreads
queued priority frame node = record node { queues = pushed priority frame node.queues; waiting = node.waiting + 1 }

-- the node is one in which somebody waits
abbrev pub ready_with : Context → ℕ → Context
ready_with cx number = record cx { ready = record { keys = insert_key nat_cmp cx.ready.keys number } }

pub record IsQueued (old : IoThreads) (cx : Context) (entry : Entry) (d : Down) (step : Step Down Up Local) (new : IoThreads) (cx_new : Context) : Type 0 where
  pub step_is : IsMove (Waits (local.Queued d)) step
  pub node : new ≡ queued (priority_of d) entry.frame old
  pub cx_is : cx_new ≡ ready_with cx old.number

-- what waited is handed on
abbrev pub go_on_of : Local → Move
go_on_of local.Relay = Waits local.Relay
go_on_of (local.Queued d) = to_child 0 d local.Relay
go_on_of (local.Pages read) = Waits (local.Pages read)
go_on_of (local.Distribute frame) = Waits (local.Distribute frame)
go_on_of (local.Set frame) = Waits (local.Set frame)
