-- Locks of a brick: who holds, who waits and for which wind; what a dropped or released lock causes.
use Rattle.std.specs.Prelude.{ℕ, Bool, true, false, List, [], ◌∷◌, ◌++◌, Option, Some, None, map, if◌then◌else◌}
use Rattle.std.specs.List.{filter}
use Rattle.fop_types.specs.declared.cells.Cell.{Cell}
use Rattle.fop_types.specs.declared.contents.Row.{Row}
use Rattle.fop_types.specs.declared.messages.BrickRep.{BrickRep}
use Rattle.fop_types.specs.declared.messages.BrickRep.TheVariants.{Done, Gone, Unfit}
use Rattle.fop_types.specs.declared.messages.DoneArm.TheVariants.{Nothing, Rows}
use Rattle.fop_types.specs.declared.messages.OutKind.{OutKind}
use Rattle.fop_types.specs.declared.messages.OutKind.TheVariants.{Reply}
use Rattle.brick_locks.specs.declared.owner.Owner.{Owner}
use Rattle.brick_locks.specs.declared.request.Request.{Request}
use Rattle.brick_locks.specs.Locks.{request, owners, is_known, is_kept_by, freed, gone}
use Rattle.brick_locks.specs.Leaving.{other_graph, released, freed_by}
use Rattle.cell_store.specs.Cells.{Cells, kept_at, row_of}
use Rattle.brick_machine.specs.Waiting.{Waiting, waiter_of, without_waiter, with_waiter}
use Rattle.brick_machine.specs.declared.state.State.{State}
use Rattle.brick_machine.specs.declared.waiters.Waiter.{Waiter}

-- what an input makes of the state, and what it puts out, in order
pub record Served : Type 0 where
  pub state : State
  pub outs : List OutKind

-- ---- answers to locks

-- the rows of cells, as they are
abbrev pub rows_of : Cells → List Cell → List Row
rows_of cells those = map (λ c. row_of (kept_at cells c)) those

abbrev pub granted : Cells → List Cell → BrickRep
granted cells those = Done (Rows (rows_of cells those))

-- what the wind of a lock that waited is answered
abbrev pub to_waiter : (Waiter → BrickRep) → Option Waiter → List OutKind
to_waiter rep None = []
to_waiter rep (Some waiter) = Reply waiter.wind (rep waiter) ∷ []

-- the owners whose locks waited are answered one after another, and wait no longer
abbrev pub answered : (Waiter → BrickRep) → Waiting → List Owner → List OutKind
answered rep waiters [] = []
answered rep waiters (owner ∷ others) = to_waiter rep (waiter_of waiters owner) ++ answered rep (without_waiter waiters owner) others

abbrev pub left_waiting : Waiting → List Owner → Waiting
left_waiting waiters [] = waiters
left_waiting waiters (owner ∷ others) = left_waiting (without_waiter waiters owner) others

-- a dropped lock that waited is answered Gone; a lock that waits no longer is granted, with the rows of its cells
abbrev pub gone_replies : Waiting → List Owner → List OutKind
gone_replies waiters those = answered (λ w. Gone) waiters those

abbrev pub grant_replies : Cells → Waiting → List Owner → List OutKind
grant_replies cells waiters those = answered (λ w. granted cells w.cells) waiters those

-- ---- a lock, and the end of locks

-- a lock that conflicts with one before it waits, without an answer so far; and else it is granted at once, with the
-- rows of its cells
abbrev pub asked : State → ℕ → Owner → Bool → List Cell → Served
asked s wind owner shared those =
    if is_kept_by s.locks (request owner those shared)
    then record { state = record s { locks = s.locks ++ request owner those shared ∷ []; waiters = with_waiter s.waiters owner (record { wind = wind; cells = those }) }; outs = [] }
    else record { state = record s { locks = s.locks ++ request owner those shared ∷ [] }; outs = Reply wind (granted s.store.cells those) ∷ [] }

-- a lock of an owner that holds or waits is unfit
abbrev pub locked : State → ℕ → Owner → Bool → List Cell → Served
locked s wind owner shared those =
    if is_known owner s.locks then record { state = s; outs = Reply wind Unfit ∷ [] } else asked s wind owner shared those

-- an unlock is Done, also where the owner holds nothing; the locks that wait no longer are granted after it
abbrev pub unlocked : State → ℕ → Owner → Served
unlocked s wind owner = record {
  state = record s { locks = released owner s.locks; waiters = left_waiting s.waiters (freed_by owner s.locks) };
  outs = Reply wind (Done Nothing) ∷ grant_replies s.store.cells s.waiters (freed_by owner s.locks);
}

-- the locks of a graph are dropped: its locks that wait are answered Gone, and then the locks of other graphs that
-- wait no longer are granted
abbrev pub gone_owners : State → ℕ → List Owner
gone_owners s graph = owners (gone (other_graph graph) s.locks)

abbrev pub freed_owners : State → ℕ → List Owner
freed_owners s graph = owners (freed (other_graph graph) s.locks)

abbrev pub graph_dropped : State → ℕ → Served
graph_dropped s graph = record {
  state = record s {
    locks = filter (other_graph graph) s.locks;
    waiters = left_waiting (left_waiting s.waiters (gone_owners s graph)) (freed_owners s graph);
  };
  outs = gone_replies s.waiters (gone_owners s graph) ++ grant_replies s.store.cells (left_waiting s.waiters (gone_owners s graph)) (freed_owners s graph);
}
