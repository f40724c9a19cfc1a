-- How a brick serves a request: what it makes of the state, and its answer. Each request has one answer, at once but
-- for a lock that waits.
use Rattle.std.specs.Prelude.{ℕ, ◌-◌, ◌==◌, ◌&&◌, not, Bool, true, false, nat_le, List, [], ◌∷◌, Option, Some, None, is_some, length, if◌then◌else◌}
use Rattle.fop_types.specs.Limits.{max_list, max_index}
use Rattle.fop_types.specs.declared.cells.Cell.{Cell}
use Rattle.fop_types.specs.declared.contents.Content.{Content}
use Rattle.fop_types.specs.declared.contents.Content.TheVariants.{Bytes, Meta, Names}
use Rattle.fop_types.specs.declared.messages.BrickReq.{BrickReq}
use Rattle.fop_types.specs.declared.messages.BrickReq.TheVariants.{Lock, Unlock, Mark, Op, Post, Fetch, Replace, Clear, Settle, Index, Open, Release}
use Rattle.fop_types.specs.declared.messages.DoneArm.TheVariants as done
use Rattle.fop_types.specs.declared.messages.BrickRep.{BrickRep}
use Rattle.fop_types.specs.declared.messages.BrickRep.TheVariants.{Done, Gone, Fault, Unfit, BadFd}
use Rattle.fop_types.specs.declared.messages.OutKind.TheVariants.{Reply}
use Rattle.fop_types.specs.declared.store_ops.StoreOp.{StoreOp}
use Rattle.brick_locks.specs.declared.owner.Owner.{Owner}
use Rattle.cell_store.specs.Cells.{Cells, kept_at, copy_of, present_in, marked, posted, settled, cleared, replaced, applied}
use Rattle.brick_machine.specs.Connections.{is_connected, is_good, with_fd, without_fd}
use Rattle.brick_machine.specs.State.{proc_of, is_to_fail, after_request}
use Rattle.brick_machine.specs.declared.late.Late.{Late}
use Rattle.brick_machine.specs.declared.state.State.{State}
use Rattle.brick_machine.specs.Locking.{Served, locked, unlocked}

-- ---- the cells after a request

-- an op that does not fit changes nothing
abbrev pub after_op : Cells → Option Cells → Cells
after_op cells None = cells
after_op cells (Some after) = after

abbrev pub cells_after : Cells → BrickReq → Cells
cells_after cells (Lock call shared those) = cells
cells_after cells (Unlock call) = cells
cells_after cells (Mark change those) = marked those cells
cells_after cells (Op change fd op) = after_op cells (applied cells change op)
cells_after cells (Post change those mask) = posted those mask cells
cells_after cells (Fetch fd cell) = cells
cells_after cells (Replace cell last content) = replaced cells cell content last
cells_after cells (Clear those mask) = cleared those mask cells
cells_after cells (Settle those mask) = settled those mask cells
cells_after cells Index = cells
cells_after cells (Open fd gfid) = cells
cells_after cells (Release fd) = cells

-- ---- answers

-- an attribute list and a list of names have an encoding up to 65,536 items; a file never has more bytes
abbrev pub is_sendable : Content → Bool
is_sendable (Bytes bytes) = true
is_sendable (Meta mode attrs span) = nat_le (length attrs) max_list
is_sendable (Names removed items) = nat_le (length items) max_list

-- a fetch of a cell that is not present is unfit, and so is one whose list is too long to be sent
abbrev pub fetched : Option (Content × ℕ) → BrickRep
fetched None = Unfit
fetched (Some copy) = if is_sendable copy.0 then Done (done.Content copy.0 copy.1) else Unfit

-- the cells that are present, where they are few enough to be sent
abbrev pub indexed : List Cell → BrickRep
indexed present = if nat_le (length present) max_index then Done (done.Cells present) else Unfit

-- whether a change of cells fits; only an op may not
abbrev pub is_fit : Cells → BrickReq → Bool
is_fit cells (Lock call shared those) = true
is_fit cells (Unlock call) = true
is_fit cells (Mark change those) = true
is_fit cells (Op change fd op) = is_some (applied cells change op)
is_fit cells (Post change those mask) = true
is_fit cells (Fetch fd cell) = true
is_fit cells (Replace cell last content) = true
is_fit cells (Clear those mask) = true
is_fit cells (Settle those mask) = true
is_fit cells Index = true
is_fit cells (Open fd gfid) = true
is_fit cells (Release fd) = true

abbrev pub change_answer : Bool → BrickRep
change_answer true = Done done.Nothing
change_answer false = Unfit

-- ---- serving

abbrev pub owner_of : ℕ → ℕ → Owner
owner_of graph call = record { graph = graph; call = call }

abbrev pub replied : State → ℕ → BrickRep → Served
replied s wind rep = record { state = s; outs = Reply wind rep ∷ [] }

-- a request that names a descriptor which is not open is BadFd and does nothing, whatever else stands against it
abbrev pub where_good : State → ℕ → ℕ → ℕ → Served → Served
where_good s wind graph fd served = if is_good s.graphs graph fd then served else replied s wind BadFd

abbrev pub with_cells : State → BrickReq → State
with_cells s r = record s { store = record (s.store) { cells = cells_after s.store.cells r } }

abbrev pub changed : State → ℕ → BrickReq → Served
changed s wind r = replied (with_cells s r) wind (change_answer (is_fit s.store.cells r))

-- a request of a connected graph on a brick that is not down
abbrev pub served_now : State → ℕ → ℕ → BrickReq → Served
served_now s wind graph (Lock call shared those) = locked s wind (owner_of graph call) shared those
served_now s wind graph (Unlock call) = unlocked s wind (owner_of graph call)
served_now s wind graph (Mark change those) = changed s wind (Mark change those)
served_now s wind graph (Op change fd op) = where_good s wind graph fd (changed s wind (Op change fd op))
served_now s wind graph (Post change those mask) = changed s wind (Post change those mask)
served_now s wind graph (Fetch fd cell) = where_good s wind graph fd (replied s wind (fetched (copy_of (kept_at s.store.cells cell))))
served_now s wind graph (Replace cell last content) = changed s wind (Replace cell last content)
served_now s wind graph (Clear those mask) = changed s wind (Clear those mask)
served_now s wind graph (Settle those mask) = changed s wind (Settle those mask)
served_now s wind graph Index = replied s wind (indexed (present_in s.store.cells))
served_now s wind graph (Open fd gfid) = replied (record s { graphs = with_fd s.graphs graph fd }) wind (Done done.Nothing)
served_now s wind graph (Release fd) =
    where_good s wind graph fd (replied (record s { graphs = without_fd s.graphs graph fd }) wind (Done done.Nothing))

-- a request that is served counts for its procedure; one that a FaultAt named is answered Fault, and does nothing else
abbrev pub counted : State → BrickReq → State
counted s r = record s { faults = after_request s.faults (proc_of r) }

abbrev pub unless_failing : State → ℕ → BrickReq → Served → Served
unless_failing s wind r served = if is_to_fail s.faults (proc_of r) then replied (counted s r) wind Fault else served

-- late, on a brick that is down: a change of cells is made; a lock takes none, no descriptor is tested, opened or
-- released; and the answer is Gone
abbrev pub served_late : State → ℕ → BrickReq → Served
served_late s wind r = replied (with_cells s r) wind Gone

-- a request on a brick that is down is served late where its graph was connected at the Down, as long as the count lasts
abbrev pub is_late : Option Late → ℕ → Bool
is_late None graph = false
is_late (Some late) graph = is_connected late.graphs graph && not (late.left == 0)

abbrev pub with_one_less : Option Late → Option Late
with_one_less None = None
with_one_less (Some late) = Some (record late { left = late.left - 1 })

abbrev pub one_less : State → State
one_less s = record s { down = with_one_less s.down }

abbrev pub request_down : State → ℕ → ℕ → BrickReq → Served
request_down s wind graph r =
    if is_late s.down graph then unless_failing (one_less s) wind r (served_late (counted (one_less s) r) wind r) else replied s wind Gone

-- a request of a graph that is not connected is given up: answered Gone, unserved and not counted
abbrev pub request_up : State → ℕ → ℕ → BrickReq → Served
request_up s wind graph r =
    if is_connected s.graphs graph then unless_failing s wind r (served_now (counted s r) wind graph r) else replied s wind Gone

abbrev pub request_served : State → ℕ → ℕ → BrickReq → Served
request_served s wind graph r = if is_some s.down then request_down s wind graph r else request_up s wind graph r
