-- Calls by number: what each looks up, its last operation and the parts of it that enter the history, and the
-- answers that need no operation.
use Rattle.std.specs.Prelude.{ℕ, ◌+◌, ◌-◌, Bool, true, false, List, [], ◌∷◌, Option, Some, None, length, take, slice_get, nat_lt, ◌==◌, if◌then◌else◌}
use Rattle.std.specs.FinMap.{FinMap, get, insert, remove}
use Rattle.std.specs.Ordering.{nat_cmp}
use Rattle.fop_types.specs.FileBytes.{file_limit}
use Rattle.fop_types.specs.Names.{is_same_name}
use Rattle.fop_types.specs.Paths.{last_part, parent_parts}
use Rattle.fop_types.specs.declared.cells.Gfid.{Gfid}
use Rattle.fop_types.specs.declared.answers.Answer.{Answer}
use Rattle.fop_types.specs.declared.answers.Answer.TheVariants as answer
use Rattle.fop_types.specs.declared.answers.AppError.{AppError}
use Rattle.fop_types.specs.declared.answers.AppError.TheVariants.{Ebadf, Ebusy, Eexist, Eisdir, Einval, Eopnotsupp}
use Rattle.fop_types.specs.declared.calls.Call.{Call}
use Rattle.fop_types.specs.declared.calls.Call.TheVariants as call
use Rattle.fop_types.specs.declared.flat.FlatOp.{FlatOp}
use Rattle.fop_types.specs.declared.flat.FlatOp.TheVariants as op

-- a call as it was submitted
pub record Submission : Type 0 where
  pub session : ℕ
  pub call : Call

-- the call of a number: calls are numbered from 1 in the order in which they were submitted
abbrev pub call_numbered : List Submission → ℕ → Option Submission
call_numbered calls number = if number == 0 then None else slice_get calls (number - 1)

-- how many objects a call asks to be made
abbrev pub makes : Call → ℕ
makes (call.Mkdir path mode) = 1
makes (call.Create fd path mode) = 1
makes (call.Rmdir path) = 0
makes (call.Unlink path) = 0
makes (call.Rename path target) = 0
makes (call.Open fd path) = 0
makes (call.Stat path) = 0
makes (call.List path) = 0
makes (call.Chmod path mode) = 0
makes (call.Truncate path size) = 0
makes (call.SetAttr path attr) = 0
makes (call.GetAttr path name) = 0
makes (call.DelAttr path name) = 0
makes (call.Read fd count) = 0
makes (call.Write fd bytes) = 0
makes (call.Seek fd offset) = 0
makes (call.Close fd) = 0

abbrev pub objects_made : List Submission → ℕ
objects_made [] = 0
objects_made (c ∷ calls) = makes c.call + objects_made calls

-- the gfid that a call draws: 1 plus the number of mkdir and create calls up to it, however they are answered
abbrev pub drawn_by : List Submission → ℕ → Gfid
drawn_by calls number = record { hi = 0; lo = 1 + objects_made (take number calls) }

-- the paths whose components a call looks up, one after another, each from the root
abbrev pub looked_up : Call → List (List (List ℕ))
looked_up (call.Mkdir path mode) = parent_parts path.parts ∷ []
looked_up (call.Rmdir path) = parent_parts path.parts ∷ []
looked_up (call.Create fd path mode) = parent_parts path.parts ∷ []
looked_up (call.Unlink path) = parent_parts path.parts ∷ []
looked_up (call.Rename path target) = parent_parts path.parts ∷ parent_parts target.parts ∷ []
looked_up (call.Open fd path) = path.parts ∷ []
looked_up (call.Stat path) = path.parts ∷ []
looked_up (call.List path) = path.parts ∷ []
looked_up (call.Chmod path mode) = path.parts ∷ []
looked_up (call.Truncate path size) = path.parts ∷ []
looked_up (call.SetAttr path attr) = path.parts ∷ []
looked_up (call.GetAttr path name) = path.parts ∷ []
looked_up (call.DelAttr path name) = path.parts ∷ []
looked_up (call.Read fd count) = []
looked_up (call.Write fd bytes) = []
looked_up (call.Seek fd offset) = []
looked_up (call.Close fd) = []

-- the number of lookups
abbrev pub lookups : List (List (List ℕ)) → ℕ
lookups [] = 0
lookups (path ∷ paths) = length path + lookups paths

-- ---- descriptors

-- an open descriptor of a session: its file, and its offset in bytes
pub record Descriptor : Type 0 where
  pub file : Gfid
  pub offset : ℕ

-- a session's open descriptors by number
abbrev pub Descriptors : Type 0
Descriptors = FinMap nat_cmp Descriptor

abbrev pub moved_by : Descriptors → ℕ → ℕ → Option Descriptor → Descriptors
moved_by fds fd count None = fds
moved_by fds fd count (Some d) = insert fds fd (record d { offset = d.offset + count })

abbrev pub moved_to : Descriptors → ℕ → ℕ → Option Descriptor → Descriptors
moved_to fds fd offset None = fds
moved_to fds fd offset (Some d) = insert fds fd (record d { offset = offset })

abbrev pub with_open : Descriptors → ℕ → Gfid → Descriptors
with_open fds fd file = insert fds fd (record { file = file; offset = 0 })

-- the first where the answer is Done, else the second
abbrev pub where_done : Answer → Descriptors → Descriptors → Descriptors
where_done answer.Done changed same = changed
where_done (answer.Count count) changed same = same
where_done (answer.Bytes bytes) changed same = same
where_done (answer.Stat kind mode size) changed same = same
where_done (answer.List items) changed same = same
where_done (answer.App error) changed same = same
where_done (answer.Io error) changed same = same

-- moved by the bytes that were read
abbrev pub after_read : Answer → Descriptors → ℕ → Descriptors
after_read answer.Done fds fd = fds
after_read (answer.Count count) fds fd = fds
after_read (answer.Bytes bytes) fds fd = moved_by fds fd (length bytes) (get fds fd)
after_read (answer.Stat kind mode size) fds fd = fds
after_read (answer.List items) fds fd = fds
after_read (answer.App error) fds fd = fds
after_read (answer.Io error) fds fd = fds

-- moved by the count of bytes that were written
abbrev pub after_write : Answer → Descriptors → ℕ → Descriptors
after_write answer.Done fds fd = fds
after_write (answer.Count count) fds fd = moved_by fds fd count (get fds fd)
after_write (answer.Bytes bytes) fds fd = fds
after_write (answer.Stat kind mode size) fds fd = fds
after_write (answer.List items) fds fd = fds
after_write (answer.App error) fds fd = fds
after_write (answer.Io error) fds fd = fds

-- moved to the offset that was set
abbrev pub after_seek : Answer → Descriptors → ℕ → Descriptors
after_seek answer.Done fds fd = fds
after_seek (answer.Count count) fds fd = moved_to fds fd count (get fds fd)
after_seek (answer.Bytes bytes) fds fd = fds
after_seek (answer.Stat kind mode size) fds fd = fds
after_seek (answer.List items) fds fd = fds
after_seek (answer.App error) fds fd = fds
after_seek (answer.Io error) fds fd = fds

-- the descriptors after an answered call; `file` is the file that a create made or an open found. An error changes
-- none
abbrev pub after_answer : Descriptors → Call → Gfid → Answer → Descriptors
after_answer fds (call.Create fd path mode) file a = where_done a (with_open fds fd file) fds
after_answer fds (call.Open fd path) file a = where_done a (with_open fds fd file) fds
after_answer fds (call.Read fd count) file a = after_read a fds fd
after_answer fds (call.Write fd bytes) file a = after_write a fds fd
after_answer fds (call.Seek fd offset) file a = after_seek a fds fd
after_answer fds (call.Close fd) file a = where_done a (remove fds fd) fds
after_answer fds (call.Mkdir path mode) file a = fds
after_answer fds (call.Rmdir path) file a = fds
after_answer fds (call.Unlink path) file a = fds
after_answer fds (call.Rename path target) file a = fds
after_answer fds (call.Stat path) file a = fds
after_answer fds (call.List path) file a = fds
after_answer fds (call.Chmod path mode) file a = fds
after_answer fds (call.Truncate path size) file a = fds
after_answer fds (call.SetAttr path attr) file a = fds
after_answer fds (call.GetAttr path name) file a = fds
after_answer fds (call.DelAttr path name) file a = fds

-- ---- answers at once

abbrev pub error : AppError → Option Answer
error e = Some (answer.App e)

-- the answer where the path is `/`
abbrev pub of_root : List (List ℕ) → AppError → Option Answer
of_root [] e = error e
of_root (part ∷ parts) e = None

abbrev pub or_else : Option Answer → Option Answer → Option Answer
or_else None other = other
or_else (Some a) other = Some a

-- the answer where the descriptor's number is taken
abbrev pub where_open : Option Descriptor → Option Answer
where_open None = None
where_open (Some d) = error Einval

-- the answer where the descriptor's number is not open
abbrev pub where_closed : Option Descriptor → Option Answer
where_closed None = error Ebadf
where_closed (Some d) = None

abbrev pub seek_answer : Option Descriptor → ℕ → Option Answer
seek_answer None offset = error Ebadf
seek_answer (Some d) offset = if nat_lt file_limit offset then error Einval else Some (answer.Count offset)

abbrev pub close_answer : Option Descriptor → Option Answer
close_answer None = error Ebadf
close_answer (Some d) = Some answer.Done

-- what a call answers at once, by the session's descriptors and the path alone: it has no place then
abbrev pub at_once : Descriptors → Call → Option Answer
at_once fds (call.Mkdir path mode) = of_root path.parts Eexist
at_once fds (call.Rmdir path) = of_root path.parts Ebusy
at_once fds (call.Create fd path mode) = or_else (where_open (get fds fd)) (of_root path.parts Eexist)
at_once fds (call.Unlink path) = of_root path.parts Eisdir
at_once fds (call.Rename path target) = or_else (of_root path.parts Eopnotsupp) (of_root target.parts Eisdir)
at_once fds (call.Open fd path) = where_open (get fds fd)
at_once fds (call.Stat path) = None
at_once fds (call.List path) = None
at_once fds (call.Chmod path mode) = None
at_once fds (call.Truncate path size) = None
at_once fds (call.SetAttr path attr) = None
at_once fds (call.GetAttr path name) = None
at_once fds (call.DelAttr path name) = None
at_once fds (call.Read fd count) = where_closed (get fds fd)
at_once fds (call.Write fd bytes) = where_closed (get fds fd)
at_once fds (call.Seek fd offset) = seek_answer (get fds fd) offset
at_once fds (call.Close fd) = close_answer (get fds fd)

-- ---- the last operation

abbrev pub on_one : List Gfid → (Gfid → FlatOp) → Option FlatOp
on_one [] f = None
on_one (gfid ∷ []) f = Some (f gfid)
on_one (gfid ∷ other ∷ gfids) f = None

abbrev pub on_two : List Gfid → (Gfid → Gfid → FlatOp) → Option FlatOp
on_two [] f = None
on_two (gfid ∷ []) f = None
on_two (gfid ∷ other ∷ []) f = Some (f gfid other)
on_two (gfid ∷ other ∷ third ∷ gfids) f = None

abbrev pub on_open : Option Descriptor → (Descriptor → FlatOp) → Option FlatOp
on_open None f = None
on_open (Some d) f = Some (f d)

-- the last operation of a call, on the objects that its paths led to, or on its descriptor
abbrev pub last_op : Call → List Gfid → Gfid → Descriptors → Option FlatOp
last_op (call.Mkdir path mode) found drawn fds = on_one found (λ parent. op.Mkdir parent (last_part path.parts) mode drawn)
last_op (call.Rmdir path) found drawn fds = on_one found (λ parent. op.Rmdir parent (last_part path.parts))
last_op (call.Create fd path mode) found drawn fds = on_one found (λ parent. op.Create parent (last_part path.parts) mode drawn)
last_op (call.Unlink path) found drawn fds = on_one found (λ parent. op.Unlink parent (last_part path.parts))
last_op (call.Rename path target) found drawn fds =
    on_two found (λ parent new_parent. op.Rename parent (last_part path.parts) new_parent (last_part target.parts))
last_op (call.Open fd path) found drawn fds = on_one found (λ gfid. op.Open gfid)
last_op (call.Stat path) found drawn fds = on_one found (λ gfid. op.Stat gfid)
last_op (call.List path) found drawn fds = on_one found (λ gfid. op.List gfid)
last_op (call.Chmod path mode) found drawn fds = on_one found (λ gfid. op.Chmod gfid mode)
last_op (call.Truncate path size) found drawn fds = on_one found (λ gfid. op.Truncate gfid size)
last_op (call.SetAttr path attr) found drawn fds = on_one found (λ gfid. op.SetAttr gfid attr)
last_op (call.GetAttr path name) found drawn fds = on_one found (λ gfid. op.GetAttr gfid name)
last_op (call.DelAttr path name) found drawn fds = on_one found (λ gfid. op.DelAttr gfid name)
last_op (call.Read fd count) found drawn fds = on_open (get fds fd) (λ d. op.Read d.file d.offset count)
last_op (call.Write fd bytes) found drawn fds = on_open (get fds fd) (λ d. op.Write d.file d.offset bytes)
last_op (call.Seek fd offset) found drawn fds = None
last_op (call.Close fd) found drawn fds = None

-- the part that the last operation is: 2 for a rename, whose part 1 is the unlink of a file of the new name on
-- another set; else 1
abbrev pub is_rename : Call → Bool
is_rename (call.Rename path target) = true
is_rename (call.Mkdir path mode) = false
is_rename (call.Rmdir path) = false
is_rename (call.Create fd path mode) = false
is_rename (call.Unlink path) = false
is_rename (call.Open fd path) = false
is_rename (call.Stat path) = false
is_rename (call.List path) = false
is_rename (call.Chmod path mode) = false
is_rename (call.Truncate path size) = false
is_rename (call.SetAttr path attr) = false
is_rename (call.GetAttr path name) = false
is_rename (call.DelAttr path name) = false
is_rename (call.Read fd count) = false
is_rename (call.Write fd bytes) = false
is_rename (call.Seek fd offset) = false
is_rename (call.Close fd) = false

abbrev pub last_part_number : Call → ℕ
last_part_number c = if is_rename c then 2 else 1

-- the unlink of the new name, which is another one. That the file of that name is on another set than the one that is
-- renamed is no matter of the flat file system: it is said where files have sets
abbrev pub first_op : Option FlatOp → Option FlatOp
first_op (Some (op.Rename parent name target new_name)) =
    if is_same_name parent name target new_name then None else Some (op.Unlink target new_name)
first_op other = None

-- the operation of a part
abbrev pub part_op : Call → Option FlatOp → ℕ → Option FlatOp
part_op c last part =
    if part == last_part_number c then last else (if part == 1 then first_op last else None)
