-- What the bricks of one set have to show of one change.
use Rattle.std.specs.Prelude.{◌≡◌, ℕ, ◌+◌, ◌<◌, ◌≤◌, List, [], ◌∷◌, Some, Contains, drop, length, map, slice_get}
use Rattle.std.specs.List.{AllByRecursion}
use Rattle.dht_fops.specs.Answers.{change_of}
use Rattle.fop_types.specs.declared.flat.FlatOp.{FlatOp}
use Rattle.fop_types.specs.declared.jobs.SetPlan.{SetPlan}
use Rattle.fop_types.specs.declared.messages.BrickReq.{BrickReq}
use Rattle.fop_types.specs.declared.messages.Input.{Input}
use Rattle.fop_types.specs.declared.store_ops.StoreOp.{StoreOp}
use Rattle.wire_xdr.specs.WireText.{input_text, IsInput}
use Rattle.brick_machine.specs.Journal.{Journal}
use Rattle.mount_log.specs.declared.logs.Log.{Log}
use Rattle.change_audit.specs.Answered.{IsQuorum}
use Rattle.change_audit.specs.declared.answers.Bearer.{Bearer}
use Rattle.change_audit.specs.Borne.{IsBorneBy, IsBearer}
use Rattle.change_audit.specs.Journals.{IsInputOf}
use Rattle.change_audit.specs.Served.{text_of, IsOpIn, IsOpText, IsServedThere, IsPostedThere}

abbrev pub brick_of : Bearer → ℕ
brick_of bearer = bearer.brick

-- the numbers rise, from a least one on
abbrev pub RisesFrom : ℕ → List ℕ → Type 0
RisesFrom least [] = Unit {0}
RisesFrom least (n ∷ numbers) = (least ≤ n) × RisesFrom (n + 1) numbers

-- the text is that of the op of a change in a graph that makes the operation
pub record IsMaking (graph change : ℕ) (operation : FlatOp) (text : List ℕ) : Type 0 where
  pub op : StoreOp
  pub op_is : change_of op ≡ Some operation
  pub has_text : IsOpText graph change op text

-- the input is the op of a change in a graph that makes the operation
pub record IsMakingIn (graph change : ℕ) (operation : FlatOp) (x : Input) : Type 0 where
  pub op : StoreOp
  pub op_is : change_of op ≡ Some operation
  pub asked : IsOpIn graph change op x

-- the op was served before the post, and answered before it, and the post by the event of this number
pub record IsInOrder (bearer : Bearer) (number : ℕ) : Type 0 where
  pub served : bearer.op.taken < bearer.post.taken
  pub arrived : bearer.op.event < bearer.post.event
  pub in_time : bearer.post.event < number

-- a brick has served the op of this text, and then the post of its change
abbrev pub IsSaidBorne : Log → List Journal → ℕ → ℕ → ℕ → ℕ → List ℕ → ℕ → Type 0
IsSaidBorne log bricks call graph change number text brick = (o : StoreOp) → IsOpText graph change o text → IsBorneBy log bricks call graph change number o brick

abbrev pub IsSaidBearer : Log → List Journal → SetPlan → ℕ → ℕ → ℕ → ℕ → List ℕ → Bearer → Type 0
IsSaidBearer log bricks plan call graph change number text bearer = (o : StoreOp) → IsOpText graph change o text → IsBearer log bricks plan call graph change number o bearer.brick

-- by the event of this number, a quorum of the bricks of a set has borne a change of a call that makes the operation
pub record HasBearers (log : Log) (bricks : List Journal) (plan : SetPlan) (call graph change number : ℕ) (operation : FlatOp) : Type 0 where
  pub op : StoreOp
  pub op_is : change_of op ≡ Some operation
  pub bearers : List ℕ
  pub quorum : IsQuorum plan bearers (IsBearer log bricks plan call graph change number op)

-- ---- where this is looked for

-- a brick has answered the op of this text where this says, and then the post
pub record IsBorneThere (log : Log) (bricks : List Journal) (call graph change number : ℕ) (text : List ℕ) (bearer : Bearer) : Type 0 where
  pub order : IsInOrder bearer number
  pub of : ℕ
  pub req : BrickReq
  pub text_is : text ≡ text_of of req
  pub op : IsServedThere log bricks bearer.brick bearer.op call of req
  pub post : IsPostedThere log bricks bearer.brick bearer.post call graph change bearer.op.event

pub record IsBearerThere (log : Log) (bricks : List Journal) (plan : SetPlan) (call graph change number : ℕ) (text : List ℕ) (bearer : Bearer) : Type 0 where
  pub member : Contains plan.bricks bearer.brick
  pub borne : IsBorneThere log bricks call graph change number text bearer

-- the bytes are the op of the first bearer
pub record IsFirstOp (bricks : List Journal) (bearers : List Bearer) (bytes : List ℕ) : Type 0 where
  pub first : Bearer
  pub is : slice_get bearers 0 ≡ Some first
  pub input : IsInputOf bricks first.brick first.op.taken bytes

-- the bearers are a quorum, by rising numbers, and the op of the first, which each has, makes the operation
pub record AreBearersThere (log : Log) (bricks : List Journal) (plan : SetPlan) (call graph change number : ℕ) (operation : FlatOp) (bearers : List Bearer) : Type 0 where
  pub rise : RisesFrom 0 (map brick_of bearers)
  pub enough : plan.q ≤ length (map brick_of bearers)
  pub input : Input
  pub legal : IsInput input
  pub first_op : IsFirstOp bricks bearers (input_text input)
  pub making : IsMakingIn graph change operation input
  pub each : AllByRecursion (IsBearerThere log bricks plan call graph change number (drop 12 (input_text input))) bearers
