-- What is found of one entry of the history.
use Rattle.std.specs.Prelude.{◌≡◌, ℕ, List, Option, None, Some, get_or, length, slice_get}
use Rattle.fop_types.specs.declared.flat.FlatOp.{FlatOp}
use Rattle.fop_types.specs.declared.history.Entry.{Entry}
use Rattle.graph_build.specs.declared.plans.Plan.{Plan}
use Rattle.script_lang.specs.declared.scripts.Script.{Script}
use Rattle.brick_machine.specs.Journal.{Journal}
use Rattle.mount_log.specs.declared.logs.Log.{Log}
use Rattle.change_audit.specs.Acknowledged.{AreMarked, mark_of, HasCallFrom}
use Rattle.change_audit.specs.Borne.{IsBorne, IsAcknowledged}
use Rattle.change_audit.specs.Claims.{claim_of}
use Rattle.change_audit.specs.CallGraphs.{AreGraphsOf}
use Rattle.change_audit.specs.declared.notes.Notes.{Notes}

pub record AreNotesOf (script : Script) (log : Log) (notes : Notes) : Type 0 where
  pub graphs : AreGraphsOf script log notes.graphs
  pub marks : AreMarked log.replies notes.marks

-- a change that makes the operation by the event of a number, on this set, if there is one, was taken for the entry at a place
pub record IsClaimed (script : Script) (plans : List Plan) (log : Log) (bricks : List Journal) (ops : List FlatOp) (claims : List (ℕ × ℕ)) (k call number : ℕ) (operation : FlatOp) (from : Option ℕ) : Type 0 where
  pub change : ℕ
  pub claimed : claim_of claims change ≡ Some k
  pub borne : IsBorne script plans log bricks ops call change number operation from

-- so by the event of each reply by which the call was answered well
abbrev pub IsClaimedInTime : Script → List Plan → Log → List Journal → List FlatOp → List (ℕ × ℕ) → ℕ → ℕ → FlatOp → Option ℕ → Type 0
IsClaimedInTime script plans log bricks ops claims k call operation from = (number : ℕ) → IsAcknowledged log call number → IsClaimed script plans log bricks ops claims k call number operation from

-- the entry at a place has its change, if its call was answered well
abbrev pub IsEntryClaimed : Script → List Plan → Log → List Journal → List FlatOp → List (Option ℕ) → List (ℕ × ℕ) → ℕ → Entry → Type 0
IsEntryClaimed script plans log bricks ops from claims k entry =
    (operation : FlatOp) → slice_get ops k ≡ Some operation → IsClaimedInTime script plans log bricks ops claims k entry.call operation (get_or from k None)

-- no entry's call is marked
abbrev pub AreNotMarked : List Entry → List (Option ℕ) → Type 0
AreNotMarked history marks = (k : ℕ) (entry : Entry) → slice_get history k ≡ Some entry → mark_of marks entry.call ≡ None

-- no entry's call was answered well; and no reply is to a call with a number as great as that of the events, of which each
-- call's submission is one, and the reply another
pub record NoneIsDue (log : Log) : Type 0 where
  pub none : (k number : ℕ) (entry : Entry) → slice_get log.history k ≡ Some entry → IsAcknowledged log entry.call number → ⊥
  pub calls : HasCallFrom log.replies (length log.events) → ⊥
