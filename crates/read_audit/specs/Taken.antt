-- Changes rest on names that were read: of each entry whose call was answered well, the path of the call leads, by names that the call
-- has read, to the object or the directory on which the entry's operation works. Where the operation takes a name away, the call has
-- read the name there as that of an object, on the set from which it is taken; where it changes an object, that is on the object's own
-- set. A rename takes away a file of the new name, too: by the move, where the call has read the name on the set of the move; by an
-- entry of its own, on another set; or the call has read that no set has one.
use Rattle.std.specs.Prelude.{◌≡◌, ℕ, List, Option, None, Some, get_or, slice_get, IfSome, if◌then◌else◌}
use Rattle.call_fops.specs.Walks.{first_path, second_path}
use Rattle.dht_fops.specs.Objects.{home}
use Rattle.fop_types.specs.Calls.{Submission, call_numbered, is_rename, looked_up}
use Rattle.fop_types.specs.declared.calls.Call.{Call}
use Rattle.fop_types.specs.declared.cells.Gfid.{Gfid}
use Rattle.fop_types.specs.declared.flat.FlatOp.{FlatOp}
use Rattle.fop_types.specs.declared.flat.FlatOp.TheVariants as op
use Rattle.fop_types.specs.declared.fops.Object.{Object}
use Rattle.fop_types.specs.declared.history.Entry.{Entry}
use Rattle.graph_build.specs.declared.plans.Plan.{Plan}
use Rattle.script_lang.specs.declared.scripts.Script.{Script}
use Rattle.brick_machine.specs.Journal.{Journal}
use Rattle.mount_log.specs.Submissions.{submissions_of}
use Rattle.mount_log.specs.declared.logs.Log.{Log}
use Rattle.change_audit.specs.Borne.{IsAcknowledged}
use Rattle.read_audit.specs.Errors.{IsNowhere}
use Rattle.read_audit.specs.Names.{IsStep, LeadsToOne}

-- ---- what a change works on

-- the object that an operation changes, or the directory in which it makes, drops or moves a name; a write goes by a descriptor
abbrev pub worked_on : FlatOp → Option Gfid
worked_on (op.Mkdir parent name mode drawn) = Some parent
worked_on (op.Rmdir parent name) = Some parent
worked_on (op.Create parent name mode drawn) = Some parent
worked_on (op.Unlink parent name) = Some parent
worked_on (op.Rename parent name target new_name) = Some parent
worked_on (op.Chmod gfid mode) = Some gfid
worked_on (op.Truncate gfid size) = Some gfid
worked_on (op.SetAttr gfid attr) = Some gfid
worked_on (op.DelAttr gfid name) = Some gfid
worked_on other = None

-- the object that an operation changes where it makes, drops and moves no name
abbrev pub changed_by : FlatOp → Option Gfid
changed_by (op.Chmod gfid mode) = Some gfid
changed_by (op.Truncate gfid size) = Some gfid
changed_by (op.SetAttr gfid attr) = Some gfid
changed_by (op.DelAttr gfid name) = Some gfid
changed_by other = None

-- the directory to which it moves a name
abbrev pub moved_into : FlatOp → Option Gfid
moved_into (op.Rename parent name target new_name) = Some target
moved_into other = None

-- the path to the directory in which a call unlinks a name: a rename does so at its second path
abbrev pub unlinking_path : Call → List (List ℕ)
unlinking_path c = if is_rename c then second_path (looked_up c) else first_path (looked_up c)

-- the path to what an operation of a call works on
abbrev pub path_for : Call → FlatOp → List (List ℕ)
path_for c (op.Unlink parent name) = unlinking_path c
path_for c other = first_path (looked_up c)

-- by names that the call has read by the event of this number, the path leads to this object, if there is one
abbrev pub Reaches : Script → List Plan → Log → List Journal → ℕ → ℕ → List (List ℕ) → Option Gfid → Type 0
Reaches script plans log bricks call number path to = IfSome to (λ gfid. LeadsToOne script plans log bricks call number path (λ object. object.gfid ≡ gfid))

-- ---- the name that a change takes away

-- the call has read the name of the directory as that of an object, and this is the set that shows it
pub record IsNameTaken (script : Script) (plans : List Plan) (log : Log) (bricks : List Journal) (call number : ℕ) (dir : Gfid) (name : List ℕ) (from : Option ℕ) : Type 0 where
  pub object : Object
  pub read : IsStep script plans log bricks call number dir name object
  pub from_is : from ≡ Some object.set

-- so of the name that an operation takes away
abbrev pub IsTaken : Script → List Plan → Log → List Journal → ℕ → ℕ → FlatOp → Option ℕ → Type 0
IsTaken script plans log bricks call number (op.Rmdir parent name) from = IsNameTaken script plans log bricks call number parent name from
IsTaken script plans log bricks call number (op.Unlink parent name) from = IsNameTaken script plans log bricks call number parent name from
IsTaken script plans log bricks call number (op.Rename parent name target new_name) from = IsNameTaken script plans log bricks call number parent name from
IsTaken script plans log bricks call number other from = Unit {0}

-- ---- the object that a change is of

-- the path leads to the object, and this is its set; that of a directory's metadata is the first
abbrev pub IsAtHome : Script → List Plan → Log → List Journal → ℕ → ℕ → List (List ℕ) → Option ℕ → Gfid → Type 0
IsAtHome script plans log bricks call number path from gfid = LeadsToOne script plans log bricks call number path (λ object. (object.gfid ≡ gfid) × (from ≡ Some (home object)))

-- ---- the file that a rename replaces

-- an entry of the call unlinks the name of the directory
pub record IsUnlinked (log : Log) (ops : List FlatOp) (call : ℕ) (dir : Gfid) (name : List ℕ) : Type 0 where
  pub place : ℕ
  pub entry : Entry
  pub there : slice_get log.history place ≡ Some entry
  pub call_is : entry.call ≡ call
  pub unlinks : slice_get ops place ≡ Some (op.Unlink dir name)

-- A file of the name is unlinked by an entry of the call; or the call has read the name on the set from which it takes the old one, or
-- on none.
pub data IsFreed (script : Script) (plans : List Plan) (log : Log) (bricks : List Journal) (ops : List FlatOp) (call number : ℕ) (from : Option ℕ) (dir : Gfid) (name : List ℕ) : Type 0 where
  Unlinked : IsUnlinked log ops call dir name → IsFreed script plans log bricks ops call number from dir name
  Replaced : IsNameTaken script plans log bricks call number dir name from → IsFreed script plans log bricks ops call number from dir name
  Unused : IsNowhere script plans log bricks call number dir name → IsFreed script plans log bricks ops call number from dir name

-- so of the new name of a rename
abbrev pub HasRoom : Script → List Plan → Log → List Journal → List FlatOp → ℕ → ℕ → FlatOp → Option ℕ → Type 0
HasRoom script plans log bricks ops call number (op.Rename parent name target new_name) from = IsFreed script plans log bricks ops call number from target new_name
HasRoom script plans log bricks ops call number other from = Unit {0}

-- ---- entries

-- what a call has read by the event of this number, where its entry makes the operation
pub record RestsOnNames (script : Script) (plans : List Plan) (log : Log) (bricks : List Journal) (ops : List FlatOp) (call number : ℕ) (c : Call) (operation : FlatOp) (from : Option ℕ) : Type 0 where
  pub works : Reaches script plans log bricks call number (path_for c operation) (worked_on operation)
  pub moves : Reaches script plans log bricks call number (second_path (looked_up c)) (moved_into operation)
  pub takes : IsTaken script plans log bricks call number operation from
  pub changes : IfSome (changed_by operation) (IsAtHome script plans log bricks call number (path_for c operation) from)
  pub room : HasRoom script plans log bricks ops call number operation from

-- Each entry of a call that was answered well rests on names so. The list has for each entry the set from which it takes a name, or that
-- of the object that it changes, or none; the number is that of the event of any reply by which the call was answered well. And no two
-- entries of a call have the same set: a file that a rename unlinks is on another set than the one that it moves.
pub record EntriesRestOnNames (script : Script) (plans : List Plan) (log : Log) (bricks : List Journal) (ops : List FlatOp) (from : List (Option ℕ)) : Type 0 where
  pub each : (k number : ℕ) (entry : Entry) (operation : FlatOp) (made : Submission) → slice_get log.history k ≡ Some entry → slice_get ops k ≡ Some operation
      → call_numbered (submissions_of script log) entry.call ≡ Some made → IsAcknowledged log entry.call number
      → RestsOnNames script plans log bricks ops entry.call number made.call operation (get_or from k None)
  pub apart : (j k set : ℕ) (one other : Entry) → slice_get log.history j ≡ Some one → slice_get log.history k ≡ Some other → one.call ≡ other.call
      → get_or from j None ≡ Some set → get_or from k None ≡ Some set → j ≡ k
