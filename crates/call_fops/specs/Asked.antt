-- The fop that a call sends next, and the hold that it needs: the lookup of the next component, and then the fop of the
-- flat operation that the call fixes.
use Rattle.std.specs.Prelude.{ℕ, ◌+◌, ◌*◌, true, false, List, Option, Some, None}
use Rattle.std.specs.Option.{option_map}
use Rattle.fop_types.specs.Calls.{last_op}
use Rattle.fop_types.specs.declared.calls.Call.{Call}
use Rattle.fop_types.specs.declared.calls.Call.TheVariants as call
use Rattle.fop_types.specs.declared.cells.Gfid.{Gfid}
use Rattle.fop_types.specs.declared.cells.Kind.TheVariants.{File}
use Rattle.fop_types.specs.declared.flat.FlatOp.{FlatOp}
use Rattle.fop_types.specs.declared.flat.FlatOp.TheVariants as op
use Rattle.fop_types.specs.declared.fops.Fop.{Fop}
use Rattle.fop_types.specs.declared.fops.Fop.TheVariants as fop
use Rattle.fop_types.specs.declared.fops.Object.{Object}
use Rattle.fd_table.specs.Fds.{Fds, fd_at}
use Rattle.fd_table.specs.declared.fd.Fd.{Fd}
use Rattle.call_fops.specs.Descriptors.{fds_of}
use Rattle.call_fops.specs.Walks.{Walked, next_name, next_parent, reached}
use Rattle.call_fops.specs.declared.holding.Hold.{Hold}

-- the number on the bricks of a session's descriptor
abbrev pub brick_fd : ℕ → ℕ → ℕ
brick_fd session fd = 256 * session + fd + 1

-- the descriptor that a call's last fop works on or opens, by its number on the bricks; 0 of a call that has none
abbrev pub fd_named : Call → ℕ → ℕ
fd_named (call.Create fd path mode) session = brick_fd session fd
fd_named (call.Open fd path) session = brick_fd session fd
fd_named (call.Read fd count) session = brick_fd session fd
fd_named (call.Write fd bytes) session = brick_fd session fd
fd_named other session = 0

-- the file of an open descriptor
abbrev pub file_object : Fd → Object
file_object d = record { gfid = d.gfid; kind = File; set = d.set }

abbrev pub file_or : Object → Option Fd → Object
file_or object None = object
file_or object (Some d) = file_object d

-- the object that a call's last fop names first: the file of its descriptor, or what its first path has led to
abbrev pub object_named : Call → Object → ℕ → Fds → Object
object_named (call.Read fd count) object session fds = file_or object (fd_at fds session fd)
object_named (call.Write fd bytes) object session fds = file_or object (fd_at fds session fd)
object_named other object session fds = object

-- the fop that asks a flat operation: it names objects in place of gfids, and the descriptor
abbrev pub fop_asking : Object → Object → ℕ → FlatOp → Fop
fop_asking one other fd (op.Lookup parent name) = fop.Lookup one name
fop_asking one other fd (op.Mkdir parent name mode drawn) = fop.Mkdir one name mode drawn
fop_asking one other fd (op.Rmdir parent name) = fop.Rmdir one name
fop_asking one other fd (op.Create parent name mode drawn) = fop.Create fd one name mode drawn
fop_asking one other fd (op.Unlink parent name) = fop.Unlink one name
fop_asking one other fd (op.Rename parent name target new_name) = fop.Rename one name other new_name
fop_asking one other fd (op.Open gfid) = fop.Open fd one
fop_asking one other fd (op.Stat gfid) = fop.Stat one
fop_asking one other fd (op.List gfid) = fop.List one
fop_asking one other fd (op.Chmod gfid mode) = fop.Chmod one mode
fop_asking one other fd (op.Truncate gfid size) = fop.Truncate one size
fop_asking one other fd (op.SetAttr gfid attr) = fop.SetAttr one attr
fop_asking one other fd (op.GetAttr gfid name) = fop.GetAttr one name
fop_asking one other fd (op.DelAttr gfid name) = fop.DelAttr one name
fop_asking one other fd (op.Read gfid offset count) = fop.Read fd one offset count
fop_asking one other fd (op.Write gfid offset bytes) = fop.Write fd one offset bytes

-- the last fop of a call
abbrev pub last_fop : Call → Walked → ℕ → Gfid → Fds → Option Fop
last_fop c w session drawn fds =
    option_map (fop_asking (object_named c w.first.at session fds) w.second.at (fd_named c session))
    (last_op c (reached c w) drawn (fds_of fds session))

abbrev pub fop_by : Option (List ℕ) → Object → Option Fop → Option Fop
fop_by (Some name) parent last = Some (fop.Lookup parent name)
fop_by None parent last = last

-- the fop that a call of a session sends next
abbrev pub fop_next : Call → Walked → ℕ → Gfid → Fds → Option Fop
fop_next c w session drawn fds = fop_by (next_name c w) (next_parent c w) (last_fop c w session drawn fds)

-- ---- holds

abbrev pub shared : Object → Option Hold
shared object = Some (record { first = object; second = None; shared = true })

abbrev pub exclusive : Object → Option Hold
exclusive object = Some (record { first = object; second = None; shared = false })

-- The hold of a fop: shared where it changes nothing, else exclusive; a rename's on both directories. The two fops of the
-- mount itself have none.
abbrev pub hold_of : Fop → Option Hold
hold_of (fop.Lookup parent name) = shared parent
hold_of (fop.Mkdir parent name mode drawn) = exclusive parent
hold_of (fop.Rmdir parent name) = exclusive parent
hold_of (fop.Create fd parent name mode drawn) = exclusive parent
hold_of (fop.Unlink parent name) = exclusive parent
hold_of (fop.Rename parent name target new_name) = Some (record { first = parent; second = Some target; shared = false })
hold_of (fop.Open fd object) = shared object
hold_of (fop.Stat object) = shared object
hold_of (fop.List object) = shared object
hold_of (fop.Chmod object mode) = exclusive object
hold_of (fop.Truncate object size) = exclusive object
hold_of (fop.SetAttr object attr) = exclusive object
hold_of (fop.GetAttr object name) = shared object
hold_of (fop.DelAttr object name) = exclusive object
hold_of (fop.Read fd object offset count) = shared object
hold_of (fop.Write fd object offset bytes) = exclusive object
hold_of (fop.Migrate fds) = None
hold_of (fop.Heal count) = None

abbrev pub hold_for : Option Fop → Option Hold
hold_for None = None
hold_for (Some f) = hold_of f
