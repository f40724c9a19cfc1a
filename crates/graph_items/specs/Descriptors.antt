-- The descriptor on which a request goes, with its file: that of a fetch, and that of the op of a write. Before such a
-- request an open is sent where the descriptor is not known to be open on the connection.
use Rattle.std.specs.Prelude.{ℕ, ◌==◌, Option, Some, None, if◌then◌else◌}
use Rattle.fop_types.specs.declared.cells.Gfid.{Gfid}
use Rattle.fop_types.specs.declared.messages.BrickReq.{BrickReq}
use Rattle.fop_types.specs.declared.messages.BrickReq.TheVariants as req
use Rattle.fop_types.specs.declared.store_ops.StoreOp.{StoreOp}
use Rattle.fop_types.specs.declared.store_ops.StoreOp.TheVariants as op

abbrev pub some_fd : ℕ → Gfid → Option (ℕ × Gfid)
some_fd fd gfid = if fd == 0 then None else Some (fd, gfid)

-- the file whose bytes an op of a descriptor changes
abbrev pub file_of : StoreOp → Option Gfid
file_of (op.Write gfid offset bytes) = Some gfid
file_of (op.Truncate gfid size) = None
file_of (op.SetMode gfid mode) = None
file_of (op.SetAttr gfid attr) = None
file_of (op.DelAttr gfid name) = None
file_of (op.AddName parent item mode span) = None
file_of (op.DropName parent name) = None
file_of (op.DropDir parent name gfid) = None
file_of (op.Move parent name target new_name) = None
file_of (op.MakeCopy gfid span) = None

abbrev pub fd_by : ℕ → Option Gfid → Option (ℕ × Gfid)
fd_by fd None = None
fd_by fd (Some gfid) = some_fd fd gfid

abbrev pub fd_of : BrickReq → Option (ℕ × Gfid)
fd_of (req.Fetch fd cell) = some_fd fd cell.gfid
fd_of (req.Op change fd o) = fd_by fd (file_of o)
fd_of (req.Lock call shared cells) = None
fd_of (req.Unlock call) = None
fd_of (req.Mark change cells) = None
fd_of (req.Post change cells mask) = None
fd_of (req.Replace cell last content) = None
fd_of (req.Clear cells mask) = None
fd_of (req.Settle cells mask) = None
fd_of req.Index = None
fd_of (req.Open fd gfid) = None
fd_of (req.Release fd) = None

-- the descriptor that is open once a request was answered Done: that of an open of its own
abbrev pub opened_by : BrickReq → Option (ℕ × Gfid)
opened_by (req.Open fd gfid) = Some (fd, gfid)
opened_by (req.Fetch fd cell) = None
opened_by (req.Op change fd o) = None
opened_by (req.Lock call shared cells) = None
opened_by (req.Unlock call) = None
opened_by (req.Mark change cells) = None
opened_by (req.Post change cells mask) = None
opened_by (req.Replace cell last content) = None
opened_by (req.Clear cells mask) = None
opened_by (req.Settle cells mask) = None
opened_by req.Index = None
opened_by (req.Release fd) = None
