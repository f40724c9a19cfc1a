-- Which fops change the bytes of a file: those of write, and of truncate once its path was found. Ours.
use Rattle.std.specs.Prelude.{Bool, true, false}
use Rattle.fop_types.specs.declared.calls.Call.{Call}
use Rattle.fop_types.specs.declared.calls.Call.TheVariants as call

-- whether the next fop of a call, of which all paths were found or not, changes the bytes of its file
abbrev pub changes_bytes : Call → Bool → Bool
changes_bytes (call.Mkdir path mode) found = false
changes_bytes (call.Rmdir path) found = false
changes_bytes (call.Create fd path mode) found = false
changes_bytes (call.Unlink path) found = false
changes_bytes (call.Rename path target) found = false
changes_bytes (call.Open fd path) found = false
changes_bytes (call.Stat path) found = false
changes_bytes (call.List path) found = false
changes_bytes (call.Chmod path mode) found = false
changes_bytes (call.Truncate path size) found = found
changes_bytes (call.SetAttr path attr) found = false
changes_bytes (call.GetAttr path name) found = false
changes_bytes (call.DelAttr path name) found = false
changes_bytes (call.Read fd count) found = false
changes_bytes (call.Write fd bytes) found = true
changes_bytes (call.Seek fd offset) found = false
changes_bytes (call.Close fd) found = false
