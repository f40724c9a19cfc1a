-- What is found of one entry, and of the entries so far.
use Rattle.std.specs.Prelude.{◌≡◌, ℕ, ◌+◌, ◌*◌, List, Option, Some, length, slice_get}
use Rattle.fop_types.specs.Calls.{Submission, call_numbered}
use Rattle.fop_types.specs.declared.flat.FlatOp.{FlatOp}
use Rattle.fop_types.specs.declared.history.Entry.{Entry}
use Rattle.graph_build.specs.declared.plans.Plan.{Plan}
use Rattle.script_lang.specs.declared.scripts.Script.{Script}
use Rattle.brick_machine.specs.Journal.{Journal}
use Rattle.mount_log.specs.Submissions.{submissions_of}
use Rattle.mount_log.specs.declared.logs.Log.{Log}
use Rattle.change_audit.specs.Borne.{IsAcknowledged}
use Rattle.change_audit.specs.Claims.{claim_of}
use Rattle.read_audit.specs.Taken.{RestsOnNames}

-- the operation rests on names, where this call makes it
abbrev pub RestsForCall : Script → List Plan → Log → List Journal → List FlatOp → ℕ → ℕ → FlatOp → Option ℕ → Type 0
RestsForCall script plans log bricks ops call number operation from =
    (made : Submission) → call_numbered (submissions_of script log) call ≡ Some made → RestsOnNames script plans log bricks ops call number made.call operation from

-- so by each event in which the call was answered well
abbrev pub RestsInTime : Script → List Plan → Log → List Journal → List FlatOp → ℕ → FlatOp → Option ℕ → Type 0
RestsInTime script plans log bricks ops call operation from = (number : ℕ) → IsAcknowledged log call number → RestsForCall script plans log bricks ops call number operation from

-- the entry at a place rests on names, if its call was answered well
abbrev pub EntryRests : Script → List Plan → Log → List Journal → List FlatOp → ℕ → Option ℕ → Type 0
EntryRests script plans log bricks ops k from =
    (entry : Entry) (operation : FlatOp) → slice_get log.history k ≡ Some entry → slice_get ops k ≡ Some operation → RestsInTime script plans log bricks ops entry.call operation from

-- ---- the sets of the entries of one call

-- a number for a call and a set
abbrev pub key_of : ℕ → ℕ → ℕ
key_of call set = call * 256 + set

-- the set of an entry's call was taken for the entry at this place, if it has a set
abbrev pub IsSetClaimed : Log → List (ℕ × ℕ) → ℕ → Option ℕ → Type 0
IsSetClaimed log claims k from = (entry : Entry) (set : ℕ) → slice_get log.history k ≡ Some entry → from ≡ Some set → claim_of claims (key_of entry.call set) ≡ Some k

-- ---- the entries so far

-- the first entries, so many, rest on names, and each has its set for itself
pub record FirstRest (script : Script) (plans : List Plan) (log : Log) (bricks : List Journal) (ops : List FlatOp) (claims : List (ℕ × ℕ)) (n : ℕ) (from : List (Option ℕ)) : Type 0 where
  pub long : length from ≡ n
  pub each : (k : ℕ) (set : Option ℕ) → slice_get from k ≡ Some set → EntryRests script plans log bricks ops k set
  pub own : (k : ℕ) (set : Option ℕ) → slice_get from k ≡ Some set → IsSetClaimed log claims k set
