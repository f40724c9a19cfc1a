-- What is looked up of connections, event by event: what an event sends and does, as far as connections go; which connections
-- are open before it, which bricks are known to be closed, and which graph is the newest; and until which event something of
-- each graph is left.
use Rattle.std.specs.Prelude.{◌≡◌, ℕ, ◌+◌, ◌-◌, ◌^◌, ◌<◌, ◌≤◌, ◌==◌, ◌⊎◌, nat_lt, Bool, true, false, ◌&&◌, ◌||◌, not, List, [], ◌∷◌, ◌++◌, Some, slice_get, slice_index_or, length, if◌then◌else◌}
use Rattle.std.specs.List.{list_any, AllByRecursion}
use Rattle.fop_types.specs.declared.messages.Input.{Input}
use Rattle.fop_types.specs.declared.messages.Input.TheVariants as input
use Rattle.graph_build.specs.declared.plans.Plan.{Plan}
use Rattle.script_lang.specs.declared.scripts.Action.{Action}
use Rattle.script_lang.specs.declared.scripts.Action.TheVariants as action
use Rattle.script_lang.specs.declared.scripts.Script.{Script}
use Rattle.wire_xdr.specs.Xdr.{IsUnit}
use Rattle.wire_messages.specs.Messages.{input_in, output_in}
use Rattle.wire_messages.specs.declared.messages.Message.{Message}
use Rattle.wire_messages.specs.declared.messages.Message.TheVariants.{Whole, Wrong}
use Rattle.mount_log.specs.CallGraphs.{calls_from, call_at}
use Rattle.mount_log.specs.Causes.{plan_of_volfile}
use Rattle.mount_log.specs.Connections.{was_sent, is_open_after}
use Rattle.mount_log.specs.Connects.{times_sent, plan_uses, newest_graph, is_wind_behind, is_reply_behind, is_closed_after, is_connect_due, IsEndIn, IsDisconnected}
use Rattle.mount_log.specs.Follows.{IsEvent}
use Rattle.mount_log.specs.Graphs.{volfiles_of}
use Rattle.mount_log.specs.declared.logs.HubEvent.{HubEvent}
use Rattle.mount_log.specs.declared.logs.HubEvent.TheVariants as logged
use Rattle.mount_log.specs.declared.logs.Log.{Log}
use Rattle.mount_log.specs.declared.logs.ReplyLine.{ReplyLine}
use Rattle.mount_log.specs.declared.logs.SentLine.{SentLine}
use Rattle.mount_log.specs.declared.logs.WindLine.{WindLine}
use Rattle.mount_log.specs.Heads.{head_in}
use Rattle.mount_log.specs.declared.heads.Said.{Said}
use Rattle.mount_log.specs.declared.heads.Said.TheVariants as said
use Rattle.mount_log.specs.declared.call_graphs.CallAt.{CallAt}
use Rattle.line_audit.specs.Slots.{AreSlotsLow}
use Rattle.line_audit.specs.declared.effects.Effect.{Effect}
use Rattle.line_audit.specs.declared.effects.Effect.TheVariants as effect
use Rattle.line_audit.specs.declared.lines_sent.Item.{Item}
use Rattle.line_audit.specs.declared.lines_sent.What.{What}
use Rattle.line_audit.specs.declared.lines_sent.What.TheVariants as what
use Rattle.line_audit.specs.declared.links.Link.{Link}
use Rattle.line_audit.specs.declared.due.Moment.{Moment}
use Rattle.line_audit.specs.declared.due.GraphTables.{GraphTables}
use Rattle.line_audit.specs.declared.known.Known.{Known}

-- ---- what is sent

abbrev pub what_in : Input → What
what_in (input.Connect graph version) = what.Connect graph
what_in (input.Disconnect graph) = what.Disconnect graph
what_in (input.Request wind graph req) = what.Request graph
what_in (input.Down serve) = what.Other
what_in input.Up = what.Other
what_in (input.FaultAt p number) = what.Other

abbrev pub what_of : Message Input → What
what_of (Whole x) = what_in x
what_of (Wrong place) = what.Wrong

abbrev pub item_of : SentLine → Item
item_of line = record { event = line.event; brick = line.brick; what = what_of (input_in line.bytes) }

abbrev pub items_of : List SentLine → List Item
items_of [] = []
items_of (line ∷ lines) = item_of line ∷ items_of lines

-- the items of an event
abbrev pub in_event : ℕ → List Item → List Item
in_event number [] = []
in_event number (i ∷ is) = if i.event == number then i ∷ in_event number is else in_event number is

-- the list of an event, by its number
abbrev pub items_at : List (List Item) → ℕ → List Item
items_at lists number = slice_index_or lists number []

abbrev pub IsPutIn : List (List Item) → Item → List (List Item) → Type 0
IsPutIn old item new = (number : ℕ) → items_at new number ≡ items_at old number ++ in_event number (item ∷ [])

abbrev pub AreByEvent : List Item → List (List Item) → Type 0
AreByEvent items lists = (number : ℕ) → items_at lists number ≡ in_event number items

abbrev pub connects : ℕ → What → Bool
connects graph (what.Connect g) = g == graph
connects graph (what.Disconnect g) = false
connects graph (what.Request g) = false
connects graph what.Other = false
connects graph what.Wrong = false

abbrev pub disconnects : ℕ → What → Bool
disconnects graph (what.Connect g) = false
disconnects graph (what.Disconnect g) = g == graph
disconnects graph (what.Request g) = false
disconnects graph what.Other = false
disconnects graph what.Wrong = false

abbrev pub has_connect : ℕ → ℕ → List Item → Bool
has_connect graph brick [] = false
has_connect graph brick (i ∷ is) = ((i.brick == brick) && connects graph i.what) || has_connect graph brick is

abbrev pub has_disconnect : ℕ → ℕ → List Item → Bool
has_disconnect graph brick [] = false
has_disconnect graph brick (i ∷ is) = ((i.brick == brick) && disconnects graph i.what) || has_disconnect graph brick is

-- how many Connects of the graph go to the brick
abbrev pub count_connects : ℕ → ℕ → List Item → ℕ
count_connects graph brick [] = 0
count_connects graph brick (i ∷ is) = (if (i.brick == brick) && connects graph i.what then 1 else 0) + count_connects graph brick is

-- ---- what an event does

-- the effect of an output of the brick, by what it says
abbrev pub arrives : ℕ → Said → Effect
arrives brick said.Opened = effect.Opened brick
arrives brick said.Closed = effect.Closed brick
arrives brick (said.Gone wind) = effect.Gone brick wind
arrives brick (said.Reply wind) = effect.Other
arrives brick said.Other = effect.Other

abbrev pub acts : Action → Effect
acts (action.Switch volfile) = effect.Switched
acts (action.Cut brick) = effect.Cut brick
acts (action.Down brick serve) = effect.Other
acts (action.Up brick) = effect.Other
acts (action.Fault brick p number) = effect.Other
acts action.Heal = effect.Other

abbrev pub effect_of : HubEvent → Effect
effect_of (logged.Act a) = acts a
effect_of (logged.Arrive brick bytes) = arrives brick (head_in (output_in bytes)).said
effect_of (logged.Submit session line) = effect.Other
effect_of (logged.Run graph task) = effect.Other
effect_of (logged.Arm at p count a) = effect.Other

-- the event at a place does this
pub record IsEffectAt (log : Log) (k : ℕ) (e : Effect) : Type 0 where
  pub event : HubEvent
  pub there : slice_get log.events k ≡ Some event
  pub is : e ≡ effect_of event

abbrev pub is_started : Effect → Bool
is_started effect.Started = true
is_started _ = false

abbrev pub is_switched : Effect → Bool
is_switched effect.Switched = true
is_switched _ = false

abbrev pub opened_as : ℕ → Effect → Bool
opened_as brick (effect.Opened b) = b == brick
opened_as brick _ = false

abbrev pub closed_as : ℕ → Effect → Bool
closed_as brick (effect.Closed b) = b == brick
closed_as brick _ = false

abbrev pub cut_as : ℕ → Effect → Bool
cut_as brick (effect.Cut b) = b == brick
cut_as brick _ = false

-- the newest graph behind the event
abbrev pub newest_after : ℕ → Effect → ℕ
newest_after newest effect.Switched = newest + 1
newest_after newest _ = newest

-- ---- open connections

abbrev pub has_link : ℕ → ℕ → List Link → Bool
has_link graph brick [] = false
has_link graph brick (l ∷ ls) = ((l.graph == graph) && (l.brick == brick)) || has_link graph brick ls

abbrev pub without_brick : ℕ → List Link → List Link
without_brick brick [] = []
without_brick brick (l ∷ ls) = if l.brick == brick then without_brick brick ls else l ∷ without_brick brick ls

abbrev pub without_link : ℕ → ℕ → List Link → List Link
without_link graph brick [] = []
without_link graph brick (l ∷ ls) = if (l.graph == graph) && (l.brick == brick) then without_link graph brick ls else l ∷ without_link graph brick ls

abbrev pub closed_by : Effect → List Link → List Link
closed_by (effect.Closed brick) links = without_brick brick links
closed_by _ links = links

abbrev pub dropped_as : ℕ → What → List Link → List Link
dropped_as brick (what.Disconnect graph) links = without_link graph brick links
dropped_as brick _ links = links

abbrev pub dropped_by : Item → List Link → List Link
dropped_by item links = dropped_as item.brick item.what links

abbrev pub dropped : List Item → List Link → List Link
dropped [] links = links
dropped (i ∷ is) links = dropped is (dropped_by i links)

abbrev pub added_as : ℕ → What → List Link → List Link
added_as brick (what.Connect graph) links = links ++ record { graph = graph; brick = brick } ∷ []
added_as brick _ links = links

abbrev pub added_by : Item → List Link → List Link
added_by item links = added_as item.brick item.what links

abbrev pub added : List Item → List Link → List Link
added [] links = links
added (i ∷ is) links = added is (added_by i links)

-- the links behind an event that sends these items
abbrev pub links_after : Effect → List Item → List Link → List Link
links_after e items links = added items (dropped items (closed_by e links))

-- ---- closed bricks

abbrev pub without_number : ℕ → List ℕ → List ℕ
without_number n [] = []
without_number n (x ∷ xs) = if x == n then without_number n xs else x ∷ without_number n xs

abbrev pub closed_after : Effect → List ℕ → List ℕ
closed_after (effect.Closed brick) closed = closed ++ brick ∷ []
closed_after (effect.Opened brick) closed = without_number brick closed
closed_after _ closed = closed

-- ---- what is left of graphs

abbrev pub until_at : List ℕ → ℕ → ℕ
until_at until graph = slice_index_or until graph 0

abbrev pub live_as : List ℕ → ℕ → ℕ → ℕ → Bool
live_as until newest graph n = (graph == newest) || (nat_lt 0 graph && (nat_lt graph newest && nat_lt n (until_at until graph)))

-- ---- what is due

abbrev pub uses_as : List Plan → GraphTables → ℕ → ℕ → Bool
uses_as plans tables graph brick = plan_uses (plan_of_volfile plans (slice_get tables.volfiles.items (graph - 1))) brick

abbrev pub made_as : Known → Moment → ℕ → ℕ → Bool
made_as known now graph brick = is_switched now.effect && ((graph == now.newest) && not (list_any (λ b. b == brick) known.closed.items))

abbrev pub opened_for_as : GraphTables → Known → Moment → ℕ → ℕ → Bool
opened_for_as tables known now graph brick = opened_as brick now.effect && (live_as tables.until.items now.newest graph now.number && not (has_link graph brick known.links.items))

abbrev pub started_as : Moment → ℕ → Bool
started_as now graph = is_started now.effect && (graph == 1)

abbrev pub due_as : List Plan → GraphTables → Known → Moment → ℕ → ℕ → Bool
due_as plans tables known now graph brick =
    (started_as now graph || (made_as known now graph brick || opened_for_as tables known now graph brick)) && uses_as plans tables graph brick

abbrev pub end_as : List Plan → GraphTables → Known → Moment → ℕ → ℕ → Bool
end_as plans tables known now graph brick =
    (live_as tables.until.items known.newest graph (now.number - 1) && not (live_as tables.until.items now.newest graph now.number)) && uses_as plans tables graph brick

-- a wind line is not of an earlier event than one before it
abbrev pub WindsInOrder : List WindLine → Type 0
WindsInOrder winds = (i j : ℕ) (a b : WindLine) → i ≤ j → slice_get winds i ≡ Some a → slice_get winds j ≡ Some b → a.event ≤ b.event

-- the lines before this place are of earlier events, and no other is
pub record IsFirstOf (winds : List WindLine) (number first : ℕ) : Type 0 where
  pub before : (k : ℕ) (line : WindLine) → k < first → slice_get winds k ≡ Some line → line.event < number
  pub behind : (k : ℕ) (line : WindLine) → first ≤ k → slice_get winds k ≡ Some line → number ≤ line.event

abbrev pub IsGoneAs : Log → Moment → ℕ → ℕ → Effect → Type 0
IsGoneAs log now graph brick (effect.Gone b wind) = (b ≡ brick) × IsEndIn log.winds wind graph now.number
IsGoneAs log now graph brick effect.Started = ⊥
IsGoneAs log now graph brick effect.Switched = ⊥
IsGoneAs log now graph brick (effect.Opened b) = ⊥
IsGoneAs log now graph brick (effect.Closed b) = ⊥
IsGoneAs log now graph brick (effect.Cut b) = ⊥
IsGoneAs log now graph brick effect.Other = ⊥

pub data IsLostAs (log : Log) (plans : List Plan) (tables : GraphTables) (known : Known) (now : Moment) (graph brick : ℕ) : Type 0 where
  CutAs : has_link graph brick known.links.items ≡ true → cut_as brick now.effect ≡ true → IsLostAs log plans tables known now graph brick
  GoneAs : has_link graph brick known.links.items ≡ true → IsGoneAs log now graph brick now.effect → IsLostAs log plans tables known now graph brick
  EndAs : end_as plans tables known now graph brick ≡ true → IsLostAs log plans tables known now graph brick

pub record IsDueOnce (plans : List Plan) (tables : GraphTables) (known : Known) (now : Moment) (items : List Item) (graph brick : ℕ) : Type 0 where
  pub due : due_as plans tables known now graph brick ≡ true
  pub once : count_connects graph brick items ≤ 1

-- what is sent to a brick is due
abbrev pub IsDueAs : Log → List Plan → GraphTables → Known → Moment → List Item → ℕ → What → Type 0
IsDueAs log plans tables known now items brick (what.Connect graph) = IsDueOnce plans tables known now items graph brick
IsDueAs log plans tables known now items brick (what.Disconnect graph) = IsLostAs log plans tables known now graph brick
IsDueAs log plans tables known now items brick (what.Request graph) = (has_link graph brick known.links.items || has_connect graph brick items) ≡ true
IsDueAs log plans tables known now items brick what.Other = Unit {0}
IsDueAs log plans tables known now items brick what.Wrong = ⊥

abbrev pub IsItemDue : Log → List Plan → GraphTables → Known → Moment → List Item → Item → Type 0
IsItemDue log plans tables known now items item = IsDueAs log plans tables known now items item.brick item.what

-- each link of a brick has its Disconnect
abbrev pub all_cut : ℕ → List Item → List Link → Bool
all_cut brick items [] = true
all_cut brick items (l ∷ ls) = (not (l.brick == brick) || has_disconnect l.graph brick items) && all_cut brick items ls

abbrev pub AreCut : List Item → List Link → Effect → Type 0
AreCut items links e = (brick : ℕ) → cut_as brick e ≡ true → all_cut brick items links ≡ true

abbrev pub HasDue : List Plan → GraphTables → Known → Moment → List Item → Type 0
HasDue plans tables known now items = (graph brick : ℕ) → brick < 256 → due_as plans tables known now graph brick ≡ true → has_connect graph brick items ≡ true

-- what an event sends is due, and what is due is sent
pub record IsLinkedAs (log : Log) (plans : List Plan) (tables : GraphTables) (known : Known) (now : Moment) (items : List Item) : Type 0 where
  pub each : AllByRecursion (IsItemDue log plans tables known now items) items
  pub due : HasDue plans tables known now items
  pub cuts : AreCut items known.links.items now.effect

-- ---- how long graphs are used

-- one more use of a graph is noted
abbrev pub IsNoted : List ℕ → ℕ → ℕ → List ℕ → Type 0
IsNoted old graph event new = (g n : ℕ) → nat_lt n (until_at new g) ≡ (nat_lt n (until_at old g) || ((graph == g) && nat_lt n event))

abbrev pub AreZeros : List ℕ → Type 0
AreZeros until = (g : ℕ) → until_at until g ≡ 0

abbrev pub AreWindsNoted : List WindLine → List ℕ → Type 0
AreWindsNoted winds until = (g n : ℕ) → nat_lt n (until_at until g) ≡ list_any (is_wind_behind g n) winds

-- each graph is used up to its event
abbrev pub AreUsesNoted : Log → List ReplyLine → List ℕ → Type 0
AreUsesNoted log answered until = (g n : ℕ) → nat_lt n (until_at until g) ≡ (list_any (is_wind_behind g n) log.winds || list_any (is_reply_behind log g n) answered)

-- ---- the log

-- the graphs of connections have numbers of four bytes
abbrev pub AreUnits : List Link → Type 0
AreUnits links = AllByRecursion (λ (l : Link). IsUnit l.graph) links

-- what is known before the event of the next number
pub record IsKnown (log : Log) (n : ℕ) (known : Known) : Type 0 where
  pub links : (graph brick : ℕ) → IsUnit graph → has_link graph brick known.links.items ≡ is_open_after log graph brick n
  pub closed : (brick : ℕ) → list_any (λ b. b == brick) known.closed.items ≡ is_closed_after log brick n
  pub newest : known.newest ≡ newest_graph log n
  pub units : AreUnits known.links.items

pub record AreGraphTables (script : Script) (log : Log) (tables : GraphTables) : Type 0 where
  pub volfiles : tables.volfiles.items ≡ volfiles_of script log
  pub until : AreUsesNoted log log.replies tables.until.items

pub record IsConnectDue (script : Script) (plans : List Plan) (log : Log) (graph brick number : ℕ) : Type 0 where
  pub due : is_connect_due script plans log graph brick number ≡ true
  pub once : times_sent log number brick (input.Connect graph 1) ≤ 1

-- a line that was sent has its cause, as far as connections go
abbrev pub IsLineDue : Script → List Plan → Log → SentLine → What → Type 0
IsLineDue script plans log line (what.Connect graph) = IsConnectDue script plans log graph line.brick line.event
IsLineDue script plans log line (what.Disconnect graph) = IsDisconnected script plans log line graph
IsLineDue script plans log line (what.Request graph) =
    (is_open_after log graph line.brick (line.event - 1) ≡ true) ⊎ (was_sent log line.event line.brick (input.Connect graph 1) ≡ true)
IsLineDue script plans log line what.Other = Unit {0}
IsLineDue script plans log line what.Wrong = ⊥

-- what an event sends to connect and disconnect has its cause, and what has a cause is sent
pub record IsLinked (script : Script) (plans : List Plan) (log : Log) (number : ℕ) : Type 0 where
  pub lines : (k : ℕ) (line : SentLine) → slice_get log.sent k ≡ Some line → line.event ≡ number → IsLineDue script plans log line (what_of (input_in line.bytes))
  pub due : (graph brick : ℕ) → IsUnit graph → brick < 256 → is_connect_due script plans log graph brick number ≡ true → was_sent log number brick (input.Connect graph 1) ≡ true
  pub cuts : (graph brick : ℕ) → IsUnit graph → IsEvent log number (logged.Act (action.Cut brick)) → is_open_after log graph brick (number - 1) ≡ true
      → was_sent log number brick (input.Disconnect graph) ≡ true

pub record AreLinked (script : Script) (plans : List Plan) (log : Log) : Type 0 where
  pub each : (number : ℕ) → number ≤ length log.events → IsLinked script plans log number
  pub no_later : (number : ℕ) → length log.events < number → in_event number (items_of log.sent) ≡ []

-- ---- logs for which the audit has room

-- graphs have numbers of four bytes
abbrev pub AreGraphsFew : Log → Type 0
AreGraphsFew log = (n : ℕ) → newest_graph log n < 2 ^ 32

-- each line was sent by the hub's making or by one of so many events
abbrev pub AreOfEvents : List SentLine → ℕ → Type 0
AreOfEvents sent events = (k : ℕ) (line : SentLine) → slice_get sent k ≡ Some line → line.event ≤ events

-- a call was submitted in a graph of a number below this one
pub record IsCallBelow (log : Log) (count call : ℕ) : Type 0 where
  pub at : CallAt
  pub there : call_at (calls_from 0 1 log.events) call ≡ Some at
  pub low : at.graph < count

-- the graphs of wind lines, and those of the calls that have a reply, have numbers below this one
pub record AreUsesBelow (log : Log) (count : ℕ) : Type 0 where
  pub winds : (k : ℕ) (line : WindLine) → slice_get log.winds k ≡ Some line → line.graph < count
  pub replies : (k : ℕ) (reply : ReplyLine) → slice_get log.replies k ≡ Some reply → IsCallBelow log count reply.call

-- What the audit asks for besides: lines are of events that there are, and winds are in the order of their events; winds, and calls
-- that have a reply, are of graphs that there are; and slots, graphs and events are not too many. The log of a run has these, which
-- is not proved.
pub record CanBeLinked (script : Script) (log : Log) : Type 0 where
  pub sent : AreOfEvents log.sent (length log.events)
  pub bricks : (k : ℕ) (line : SentLine) → slice_get log.sent k ≡ Some line → line.brick < 256
  pub winds : WindsInOrder log.winds
  pub slots : AreSlotsLow log.winds
  pub graphs : AreGraphsFew log
  pub uses : AreUsesBelow log (length (volfiles_of script log) + 1)
  pub events : length log.events + 1 < 2 ^ 64
