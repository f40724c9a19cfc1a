-- Acknowledged changes are on the bricks: each entry of a call that was answered well has a change of its own, and a quorum of
-- the bricks of one set has answered Done to the store op of that change, which makes the entry, and then to its post, each of
-- the call's graph and for a wind of the call. What they answered arrived by the event of the call's reply. Where the entry makes
-- an object, the set is that of its name; where a list has a set for the entry, it is that one.
use Rattle.std.specs.Prelude.{◌≡◌, ℕ, ◌<◌, true, List, Option, None, Some, Contains, get_or, slice_get, IfSome}
use Rattle.dht_fops.specs.Answers.{change_of}
use Rattle.fop_types.specs.Replies.{is_ok}
use Rattle.fop_types.specs.declared.cells.Cell.{Cell}
use Rattle.fop_types.specs.declared.contents.Mask.{Mask}
use Rattle.fop_types.specs.declared.flat.FlatOp.{FlatOp}
use Rattle.fop_types.specs.declared.history.Entry.{Entry}
use Rattle.fop_types.specs.declared.jobs.SetPlan.{SetPlan}
use Rattle.fop_types.specs.declared.messages.BrickReq.TheVariants.{Op, Post}
use Rattle.fop_types.specs.declared.messages.DoneArm.TheVariants.{Nothing}
use Rattle.fop_types.specs.declared.store_ops.StoreOp.{StoreOp}
use Rattle.graph_build.specs.declared.plans.Plan.{Plan}
use Rattle.script_lang.specs.declared.scripts.Script.{Script}
use Rattle.brick_machine.specs.Journal.{Journal}
use Rattle.mount_log.specs.declared.logs.Log.{Log}
use Rattle.mount_log.specs.declared.logs.ReplyLine.{ReplyLine}
use Rattle.mount_log.specs.Causes.{set_of_call}
use Rattle.mount_log.specs.Connections.{graph_of_call}
use Rattle.change_audit.specs.Answered.{IsDoneIn, IsWindFor, IsOpenedSince, IsQuorum}
use Rattle.change_audit.specs.Placed.{IsOnSet}

-- A brick has answered Done to the op of a change for a call, and then to its post, which was sent when the op's answer had
-- arrived; the post's answer arrived by the event of this number.
pub record IsBorneBy (log : Log) (bricks : List Journal) (call graph change number : ℕ) (o : StoreOp) (brick : ℕ) : Type 0 where
  -- the op
  pub fd : ℕ
  pub op_wind : ℕ
  pub op_event : ℕ
  pub op_done : IsDoneIn log bricks brick op_wind graph op_event (Op change fd o) Nothing
  pub op_of_call : IsWindFor log.winds call op_wind
  -- the post
  pub cells : List Cell
  pub mask : Mask
  pub post_wind : ℕ
  pub post_event : ℕ
  pub post_done : IsDoneIn log bricks brick post_wind graph post_event (Post change cells mask) Nothing
  pub post_of_call : IsOpenedSince log.winds call post_wind op_event
  -- their order
  pub served_later : op_done.place < post_done.place
  pub arrived_later : op_event < post_event
  pub in_time : post_event < number

pub record IsBearer (log : Log) (bricks : List Journal) (plan : SetPlan) (call graph change number : ℕ) (o : StoreOp) (brick : ℕ) : Type 0 where
  pub member : Contains plan.bricks brick
  pub borne : IsBorneBy log bricks call graph change number o brick

-- By the event of this number, a change of a call makes the operation, and a quorum of the bricks of one set bears it: that of the
-- name of the object which it makes, if it does, and the one that is given, if one is.
pub record IsBorne (script : Script) (plans : List Plan) (log : Log) (bricks : List Journal) (ops : List FlatOp) (call change number : ℕ) (operation : FlatOp) (from : Option ℕ) : Type 0 where
  pub set : ℕ
  pub plan : SetPlan
  pub plan_is : set_of_call script plans log call set ≡ Some plan
  pub placed : IsOnSet script plans log ops operation set
  pub taken : IfSome from (λ one. set ≡ one)
  pub op : StoreOp
  pub op_is : change_of op ≡ Some operation
  pub bearers : List ℕ
  pub quorum : IsQuorum plan bearers (IsBearer log bricks plan call (graph_of_call log call) change number op)

-- a call was answered well in the event of this number
pub record IsAcknowledged (log : Log) (call number : ℕ) : Type 0 where
  pub place : ℕ
  pub reply : ReplyLine
  pub there : slice_get log.replies place ≡ Some reply
  pub call_is : reply.call ≡ call
  pub well : is_ok reply.answer ≡ true
  pub event_is : reply.event ≡ number

-- a change that makes the operation by the event of this number, and is that of the entry at this place
pub record HasChange (script : Script) (plans : List Plan) (log : Log) (bricks : List Journal) (ops : List FlatOp) (entry_of : ℕ → ℕ) (k call number : ℕ) (operation : FlatOp) (from : Option ℕ) : Type 0 where
  pub change : ℕ
  pub own : entry_of change ≡ k
  pub borne : IsBorne script plans log bricks ops call change number operation from

-- Each change has the place of the entry that it makes, so no two entries have the same change; nor, as an op and its post name
-- their change, the same request. The number is that of the event of any reply by which the entry's call was answered well. The
-- list has for each entry the set of its change, or none.
pub record AreBorne (script : Script) (plans : List Plan) (log : Log) (bricks : List Journal) (ops : List FlatOp) (from : List (Option ℕ)) : Type 0 where
  pub entry_of : ℕ → ℕ
  pub each : (k number : ℕ) (entry : Entry) (operation : FlatOp) → slice_get log.history k ≡ Some entry → slice_get ops k ≡ Some operation
      → IsAcknowledged log entry.call number → HasChange script plans log bricks ops entry_of k entry.call number operation (get_or from k None)
