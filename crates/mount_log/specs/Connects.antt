-- What is sent to connect graphs to bricks, to disconnect them, and for controls. Each Connect, Disconnect, Down and Up has a
-- cause. Each Connect that is due is sent, each cut disconnects, and each action that has an input sends it; where a brick answers
-- Gone, or a graph ends, a Disconnect has a cause, but none is asked for. Event 0 is the hub's making. The field calls a graph
-- drained once nothing of it is left; the hub then disconnects it.
use Rattle.std.specs.Prelude.{◌≡◌, ℕ, ◌+◌, ◌-◌, ◌<◌, ◌≤◌, ◌==◌, nat_lt, zero, suc, Bool, true, false, ◌&&◌, ◌||◌, not, ◌⊎◌, List, [], ◌∷◌, Option, None, Some, length, slice_get, take, if◌then◌else◌}
use Rattle.std.specs.List.{list_any}
use Rattle.fop_types.specs.declared.jobs.SetPlan.{SetPlan}
use Rattle.fop_types.specs.declared.messages.BrickRep.TheVariants as rep
use Rattle.fop_types.specs.declared.messages.BrickReq.{BrickReq}
use Rattle.fop_types.specs.declared.messages.Input.{Input}
use Rattle.fop_types.specs.declared.messages.Input.TheVariants as input
use Rattle.fop_types.specs.declared.messages.OutKind.{OutKind}
use Rattle.fop_types.specs.declared.messages.OutKind.TheVariants as out
use Rattle.fop_types.specs.declared.messages.Output.{Output}
use Rattle.fop_types.specs.declared.messages.Proc.{Proc}
use Rattle.graph_build.specs.declared.plans.Plan.{Plan}
use Rattle.script_lang.specs.declared.scripts.Action.{Action}
use Rattle.script_lang.specs.declared.scripts.Action.TheVariants as action
use Rattle.script_lang.specs.declared.scripts.Script.{Script}
use Rattle.wire_messages.specs.Messages.{input_in, output_in}
use Rattle.wire_messages.specs.declared.messages.Message.{Message}
use Rattle.wire_messages.specs.declared.messages.Message.TheVariants.{Whole, Wrong}
use Rattle.wire_xdr.specs.WireText.{input_text, IsInput}
use Rattle.wire_xdr.specs.Xdr.{IsUnit}
use Rattle.mount_log.specs.declared.logs.HubEvent.{HubEvent}
use Rattle.mount_log.specs.declared.logs.HubEvent.TheVariants as logged
use Rattle.mount_log.specs.declared.logs.Log.{Log}
use Rattle.mount_log.specs.declared.logs.ReplyLine.{ReplyLine}
use Rattle.mount_log.specs.declared.logs.SentLine.{SentLine}
use Rattle.mount_log.specs.declared.logs.WindLine.{WindLine}
use Rattle.mount_log.specs.Causes.{plan_of_volfile}
use Rattle.mount_log.specs.Connections.{is_sent_in, was_sent, closes_by, is_open_after, graph_of_call}
use Rattle.mount_log.specs.Follows.{IsEvent, IsSentBefore}
use Rattle.mount_log.specs.Graphs.{switches_in, volfiles_of}
use Rattle.mount_log.specs.Ties.{IsNumberOf}

-- ---- graphs and their bricks

abbrev pub has_brick : ℕ → SetPlan → Bool
has_brick brick set = list_any (λ b. b == brick) set.bricks

abbrev pub plan_uses : Option Plan → ℕ → Bool
plan_uses None brick = false
plan_uses (Some plan) brick = list_any (has_brick brick) plan.sets

-- a set of the graph's plan has the brick; graphs are numbered from 1
abbrev pub uses_brick : Script → List Plan → Log → ℕ → ℕ → Bool
uses_brick script plans log graph brick = plan_uses (plan_of_volfile plans (slice_get (volfiles_of script log) (graph - 1))) brick

-- the newest graph after so many events
abbrev pub newest_graph : Log → ℕ → ℕ
newest_graph log n = 1 + length (switches_in (take n log.events))

abbrev pub is_wind_behind : ℕ → ℕ → WindLine → Bool
is_wind_behind graph n line = (line.graph == graph) && nat_lt n line.event

abbrev pub is_reply_behind : Log → ℕ → ℕ → ReplyLine → Bool
is_reply_behind log graph n reply = (graph_of_call log reply.call == graph) && nat_lt n reply.event

-- behind so many events a wind of the graph is opened or ends, or a call of it is answered
abbrev pub is_used_behind : Log → ℕ → ℕ → Bool
is_used_behind log graph n = list_any (is_wind_behind graph n) log.winds || list_any (is_reply_behind log graph n) log.replies

-- The graph is live after so many events: it is the newest, or an older one of which something is left. In a log that is
-- finished and has balanced winds that is one with a call without a reply, or an open wind.
abbrev pub is_live : Log → ℕ → ℕ → Bool
is_live log graph n = (graph == newest_graph log n) || (nat_lt 0 graph && (nat_lt graph (newest_graph log n) && is_used_behind log graph n))

-- ---- bricks that are known to be closed

abbrev pub is_opened : OutKind → Bool
is_opened out.Opened = true
is_opened other = false

abbrev pub says_opened : Message Output → Bool
says_opened (Whole x) = is_opened x.kind
says_opened (Wrong place) = false

-- what arrives from the brick in the event says that it has opened
abbrev pub opens_by : ℕ → Option HubEvent → Bool
opens_by brick None = false
opens_by brick (Some (logged.Arrive from bytes)) = (from == brick) && says_opened (output_in bytes)
opens_by brick (Some (logged.Submit session line)) = false
opens_by brick (Some (logged.Run graph task)) = false
opens_by brick (Some (logged.Act a)) = false
opens_by brick (Some (logged.Arm at p count a)) = false

-- the last Closed or Opened that arrived from the brick in so many events is a Closed
abbrev pub is_closed_after : Log → ℕ → ℕ → Bool
is_closed_after log brick zero = false
is_closed_after log brick (suc n) = closes_by brick (slice_get log.events n) || (is_closed_after log brick n && not (opens_by brick (slice_get log.events n)))

-- ---- a Connect

abbrev pub is_switch : Option HubEvent → Bool
is_switch None = false
is_switch (Some (logged.Act (action.Switch volfile))) = true
is_switch (Some (logged.Act (action.Down brick serve))) = false
is_switch (Some (logged.Act (action.Up brick))) = false
is_switch (Some (logged.Act (action.Cut brick))) = false
is_switch (Some (logged.Act (action.Fault brick p number))) = false
is_switch (Some (logged.Act action.Heal)) = false
is_switch (Some (logged.Submit session line)) = false
is_switch (Some (logged.Arrive from bytes)) = false
is_switch (Some (logged.Run graph task)) = false
is_switch (Some (logged.Arm at p count a)) = false

-- a switch makes the graph, and the brick is not known to be closed
abbrev pub is_made_at : Log → ℕ → ℕ → ℕ → Bool
is_made_at log graph brick n = is_switch (slice_get log.events n) && ((graph == newest_graph log (suc n)) && not (is_closed_after log brick n))

-- the brick opens, and the graph is live and has no connection to it
abbrev pub is_opened_for : Log → ℕ → ℕ → ℕ → Bool
is_opened_for log graph brick n = opens_by brick (slice_get log.events n) && (is_live log graph (suc n) && not (is_open_after log graph brick n))

abbrev pub sent_among : ℕ → ℕ → Input → List SentLine → ℕ
sent_among number brick x [] = 0
sent_among number brick x (line ∷ lines) = (if is_sent_in number brick x line then 1 else 0) + sent_among number brick x lines

-- how often the input was sent to the brick in the event
abbrev pub times_sent : Log → ℕ → ℕ → Input → ℕ
times_sent log number brick x = sent_among number brick x log.sent

-- In the event of this number a graph connects to a brick that it uses: graph 1 at the start; the graph that a switch makes;
-- and as the brick opens, a live graph that has no connection.
abbrev pub is_connect_due : Script → List Plan → Log → (graph brick number : ℕ) → Bool
is_connect_due script plans log graph brick zero = (graph == 1) && uses_brick script plans log graph brick
is_connect_due script plans log graph brick (suc n) = (is_made_at log graph brick n || is_opened_for log graph brick n) && uses_brick script plans log graph brick

-- ---- a Disconnect

-- the wind that a request of this number was sent for, or the open before one, ends in the event in this graph
pub record IsEndIn (winds : List WindLine) (number graph event : ℕ) : Type 0 where
  pub place : ℕ
  pub ending : WindLine
  pub there : slice_get winds place ≡ Some ending
  pub is_end : ending.opened ≡ false
  pub of_wind : IsNumberOf ending.wind number
  pub same_graph : ending.graph ≡ graph
  pub same_event : ending.event ≡ event

-- the brick answers a pending wind of the graph by Gone: it has no connection of the graph
pub record IsGone (log : Log) (graph brick event : ℕ) : Type 0 where
  pub wind : ℕ
  pub bytes : List ℕ
  pub output : Output
  pub arrives : IsEvent log event (logged.Arrive brick bytes)
  pub read : output_in bytes ≡ Whole output
  pub says : output.kind ≡ out.Reply wind rep.Gone
  pub ends : IsEndIn log.winds wind graph event

-- The causes of a Disconnect: an open connection is cut, or the brick answers Gone on it; or the event is the one in which the
-- graph is no longer live, and the brick is one that it uses.
pub data IsDisconnected (script : Script) (plans : List Plan) (log : Log) (line : SentLine) (graph : ℕ) : Type 0 where
  ByCut : is_open_after log graph line.brick (line.event - 1) ≡ true → IsEvent log line.event (logged.Act (action.Cut line.brick)) → IsDisconnected script plans log line graph
  ByGone : is_open_after log graph line.brick (line.event - 1) ≡ true → IsGone log graph line.brick line.event → IsDisconnected script plans log line graph
  AtEnd : uses_brick script plans log graph line.brick ≡ true → is_live log graph (line.event - 1) ≡ true → is_live log graph line.event ≡ false → IsDisconnected script plans log line graph

-- ---- controls

-- a Down was sent for an action of its event, or directly before a request
pub data IsForDown (log : Log) (line : SentLine) (serve : ℕ) : Type 0 where
  ByAction : IsEvent log line.event (logged.Act (action.Down line.brick serve)) → IsForDown log line serve
  ByArmed : (p : Proc) → IsSentBefore log line.event line.brick p (action.Down line.brick serve) → IsForDown log line serve

-- the brick and the input of a control that sends one
abbrev pub control_input : Action → Option (ℕ × Input)
control_input (action.Down brick serve) = Some (brick, input.Down serve)
control_input (action.Up brick) = Some (brick, input.Up)
control_input (action.Fault brick p number) = Some (brick, input.FaultAt p number)
control_input (action.Cut brick) = None
control_input action.Heal = None
control_input (action.Switch volfile) = None

-- ---- the log

-- the bytes are an input's
pub record IsInputText (bytes : List ℕ) : Type 0 where
  pub sent : Input
  pub legal : IsInput sent
  pub text : bytes ≡ input_text sent

-- Bricks, graphs and numbers are those that lines and inputs have: below 256, and below 2^32.
pub record ConnectsAreCaused (script : Script) (plans : List Plan) (log : Log) : Type 0 where
  -- each line is an input: a Connect is of the version that there is
  pub inputs : (k : ℕ) (line : SentLine) → slice_get log.sent k ≡ Some line → IsInputText line.bytes
  -- a Connect is sent exactly where it is due, and once
  pub connects : (graph brick number : ℕ) → IsUnit graph → brick < 256 → was_sent log number brick (input.Connect graph 1) ≡ is_connect_due script plans log graph brick number
  pub once : (graph brick number : ℕ) → IsUnit graph → times_sent log number brick (input.Connect graph 1) ≤ 1
  -- a Disconnect has a cause, and a cut disconnects each graph that has a connection
  pub disconnects : (k graph : ℕ) (line : SentLine) → slice_get log.sent k ≡ Some line → IsUnit graph → line.bytes ≡ input_text (input.Disconnect graph) → IsDisconnected script plans log line graph
  pub cuts : (graph brick number : ℕ) → IsUnit graph → IsEvent log number (logged.Act (action.Cut brick)) → is_open_after log graph brick (number - 1) ≡ true
      → was_sent log number brick (input.Disconnect graph) ≡ true
  -- a request goes out on a connection that is open, or is opened in its event
  pub requests : (k wind graph : ℕ) (line : SentLine) (request : BrickReq) → slice_get log.sent k ≡ Some line → input_in line.bytes ≡ Whole (input.Request wind graph request)
      → (is_open_after log graph line.brick (line.event - 1) ≡ true) ⊎ (was_sent log line.event line.brick (input.Connect graph 1) ≡ true)
  -- Downs and Ups are sent for their actions, and each action that has an input sends it
  pub downs : (k serve : ℕ) (line : SentLine) → slice_get log.sent k ≡ Some line → IsUnit serve → line.bytes ≡ input_text (input.Down serve)
      → IsForDown log line serve
  pub ups : (k : ℕ) (line : SentLine) → slice_get log.sent k ≡ Some line → line.bytes ≡ input_text input.Up
      → IsEvent log line.event (logged.Act (action.Up line.brick))
  pub carried : (number brick : ℕ) (a : Action) (sent : Input) → IsEvent log number (logged.Act a) → control_input a ≡ Some (brick, sent) → was_sent log number brick sent ≡ true
