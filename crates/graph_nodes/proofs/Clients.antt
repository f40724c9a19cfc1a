-- No node changes the clients that it shares: after a call they are as they were where its run began.
use Rattle.std.proofs.Common.{◌≡◌, refl, ap, ◌∙◌}
use Rattle.std.specs.Prelude.{ℕ, ◌==◌, Bool, true, false, List, length, Option, None, Some, Result, Ok, Err, IfNone, IfOk, OnOk, MatchOption, if◌then◌else◌}
use Rattle.std.specs.BTreeMap.{is_at}
use Rattle.std.specs.Ordering.{nat_cmp}
use Rattle.std.specs.Set.{remove_key}
use Rattle.dht_fops.specs.declared.step.DhtNext.{DhtNext}
use Rattle.dht_fops.specs.declared.step.DhtNext.TheVariants as next
use Rattle.fop_types.specs.declared.cells.Cell.{Cell}
use Rattle.fop_types.specs.declared.fops.Fop.{Fop}
use Rattle.fop_types.specs.declared.jobs.Job.{Job}
use Rattle.fop_types.specs.declared.jobs.Job.TheVariants as job
use Rattle.fop_types.specs.declared.jobs.SetPlan.{SetPlan}
use Rattle.fop_types.specs.declared.jobs.SetReply.{SetReply}
use Rattle.fop_types.specs.declared.jobs.SetReply.TheVariants as reply
use Rattle.fop_types.specs.declared.messages.BrickRep.{BrickRep}
use Rattle.afr_ledger.specs.Ledger.{State}
use Rattle.afr_transaction.specs.Answers.{answered, copied}
use Rattle.afr_transaction.specs.declared.need.Need.{Need}
use Rattle.afr_transaction.specs.declared.need.Need.TheVariants as need
use Rattle.afr_transaction.specs.declared.txn.Txn.{Txn}
use Rattle.frame_driver.specs.Machine.{Makes, EntersBy, IsDone, IsRun, is_lost, queued}
use Rattle.frame_driver.specs.Machine.IsRun.{NoTask, OneTask}
use Rattle.frame_driver.specs.declared.items.Task.{Task}
use Rattle.frame_driver.specs.declared.items.Task.TheVariants.{Enter, Resume, Go}
use Rattle.frame_driver.specs.declared.wiring.Wiring.{Wiring}
use Rattle.graph_items.specs.Clients.{ended_at}
use Rattle.graph_items.specs.Items.{ReplyValue}
use Rattle.graph_items.specs.declared.items.Down.{Down}
use Rattle.graph_items.specs.declared.items.Down.TheVariants as down
use Rattle.graph_items.specs.declared.items.Up.{Up}
use Rattle.graph_items.specs.declared.items.Up.TheVariants as up
use Rattle.self_heal.specs.declared.run.CopyRun.{CopyRun}
use Rattle.self_heal.specs.declared.stage.CopyNeed.{CopyNeed}
use Rattle.self_heal.specs.declared.stage.CopyNeed.TheVariants as copy_need
use Rattle.self_heal.specs.Runs.{answered as copy_answered}
use Rattle.xlator_law.specs.Law.{Promise, Cause}
use Rattle.xlator_law.specs.Law.Cause.{Enter as ByFop, Reply as ByReply, Go as ByGo}
use Rattle.xlator_law.specs.declared.step.Step.{Step}
use Rattle.xlator_law.specs.declared.winds.Entry.{Entry}
use Rattle.xlator_law.specs.declared.winds.Settled.{Settled}
use Rattle.xlator_law.specs.declared.winds.WindNo.{WindNo}
use Rattle.graph_nodes.specs.declared.context.Context.{Context}
use Rattle.graph_nodes.specs.declared.graph.Graph.{Graph}
use Rattle.graph_nodes.specs.declared.kinds.Distribute.{Distribute}
use Rattle.graph_nodes.specs.declared.kinds.IoCache.{IoCache}
use Rattle.graph_nodes.specs.declared.kinds.IoThreads.{IoThreads}
use Rattle.graph_nodes.specs.declared.kinds.Kind.{Kind}
use Rattle.graph_nodes.specs.declared.kinds.Kind.TheVariants as kind
use Rattle.graph_nodes.specs.declared.kinds.Node.{Node}
use Rattle.graph_nodes.specs.declared.kinds.Replicate.{Replicate}
use Rattle.graph_nodes.specs.declared.locals.FopState.{FopState}
use Rattle.graph_nodes.specs.declared.locals.Local.{Local}
use Rattle.graph_nodes.specs.declared.locals.Local.TheVariants as local
use Rattle.graph_nodes.specs.declared.moved.Mount.{Mount}
use Rattle.graph_nodes.specs.declared.moved.Moved.{Moved}
use Rattle.graph_nodes.specs.Calls.{Running, CallGives, Enters, Wakes, RunsTask, TakesOutput, Bails, after_turn, turn_at, asked_by, brick_of, is_done}
use Rattle.graph_nodes.specs.Live.{borrowing}
use Rattle.graph_nodes.specs.Costs.{requests_for}
use Rattle.graph_nodes.specs.Distribute.{Gives, with_hold, may_begin, BeginsBy, OnReply, GoesOn, OnExtended, IsBegun as FopBegins}
use Rattle.graph_nodes.specs.Nodes.{FopResumes, FopGoes, JobResumes, FopMakes, JobMakes, QueueMakes, CacheMakes, MakesByKind, node_makes}
use Rattle.graph_nodes.specs.Replicate.{noted, went, turned, recorded, live, lasts, on_copy, on_reply, said_of, IsBegun as JobBegins}
use Rattle.graph_nodes.proofs.Seen.{seen_clients, noted_unseen}

-- ---- a fop

hold_keeps : (cx : Context) (entry : Entry) (n : DhtNext) → (with_hold cx entry n).clients ≡ cx.clients
hold_keeps cx entry (next.Jobs jobs) = refl
hold_keeps cx entry (next.Hold dir) = refl
hold_keeps cx entry (next.Done answer place) = refl

gives_keeps : (sets : ℕ) (frame : FopState) (n : DhtNext) (cx : Context) (step : Step Down Up Local) (cx_new : Context) → Gives sets frame n cx step cx_new → cx_new.clients ≡ cx.clients
gives_keeps sets frame n cx step cx_new gives = ap (λ (x : Context). x.clients) gives.cx ∙ hold_keeps cx frame.entry n

begins_keeps : (b : Bool) (d : Distribute) (cx : Context) (entry : Entry) (f : Fop) (step : Step Down Up Local) (cx_new : Context) → BeginsBy b d cx entry f step cx_new → cx_new.clients ≡ cx.clients
begins_keeps true d cx entry f step cx_new is = gives_keeps _ _ _ cx step cx_new is.gives
begins_keeps false d cx entry f step cx_new is = ap (λ (x : Context). x.clients) is.cx_is

begun_keeps : (d : Distribute) (cx : Context) (entry : Entry) (what : Down) (step : Step Down Up Local) (cx_new : Context) → FopBegins d cx entry what step cx_new → cx_new.clients ≡ cx.clients
begun_keeps d cx entry (down.Fop f) step cx_new is = begins_keeps (may_begin d cx.root_sets f) d cx entry f step cx_new is
begun_keeps d cx entry (down.Job j) step cx_new is = ap (λ (x : Context). x.clients) is.cx_is
begun_keeps d cx entry (down.Request r) step cx_new is = ap (λ (x : Context). x.clients) is.cx_is

replied_keeps : (o : Option ℕ) (d : Distribute) (cx : Context) (frame : FopState) (r : SetReply) (step : Step Down Up Local) (after : Distribute) (cx_new : Context) → OnReply o d cx frame r step after cx_new → cx_new.clients ≡ cx.clients
replied_keeps (Some set) d cx frame r step after cx_new is = gives_keeps _ _ _ cx step cx_new is.gives
replied_keeps None d cx frame r step after cx_new is = ap (λ (x : Context). x.clients) is.refused_is.cx_is

goes_on_keeps : (d : Distribute) (cx : Context) (frame : FopState) (r : Up) (step : Step Down Up Local) (after : Distribute) (cx_new : Context) → GoesOn d cx frame r step after cx_new → cx_new.clients ≡ cx.clients
goes_on_keeps d cx frame (up.Set r) step after cx_new is = replied_keeps frame.fop.asked d cx frame r step after cx_new is
goes_on_keeps d cx frame (up.Answer answer place) step after cx_new is = ap (λ (x : Context). x.clients) is.refused_is.cx_is
goes_on_keeps d cx frame (up.Brick said) step after cx_new is = ap (λ (x : Context). x.clients) is.refused_is.cx_is

resumes_keeps : (d : Distribute) (cx : Context) (l : Local) (r : Up) (step : Step Down Up Local) (after : Distribute) (cx_new : Context) → FopResumes d cx l r step after cx_new → cx_new.clients ≡ cx.clients
resumes_keeps d cx (local.Distribute frame) r step after cx_new is = goes_on_keeps d cx frame r step after cx_new is
resumes_keeps d cx local.Relay r step after cx_new is = absurd is
resumes_keeps d cx (local.Queued what) r step after cx_new is = absurd is
resumes_keeps d cx (local.Pages read) r step after cx_new is = absurd is
resumes_keeps d cx (local.Set frame) r step after cx_new is = absurd is

extended_keeps : (o : Option ℕ) (d : Distribute) (cx : Context) (frame : FopState) (step : Step Down Up Local) (cx_new : Context) → OnExtended o d cx frame step cx_new → cx_new.clients ≡ cx.clients
extended_keeps None d cx frame step cx_new is = gives_keeps _ _ _ cx step cx_new is.gives
extended_keeps (Some set) d cx frame step cx_new is = ap (λ (x : Context). x.clients) is.cx_is

goes_keeps : (d : Distribute) (cx : Context) (l : Local) (step : Step Down Up Local) (cx_new : Context) → FopGoes d cx l step cx_new → cx_new.clients ≡ cx.clients
goes_keeps d cx (local.Distribute frame) step cx_new is = extended_keeps frame.fop.asked d cx frame step cx_new is
goes_keeps d cx local.Relay step cx_new is = absurd is
goes_keeps d cx (local.Queued what) step cx_new is = absurd is
goes_keeps d cx (local.Pages read) step cx_new is = absurd is
goes_keeps d cx (local.Set frame) step cx_new is = absurd is

fop_keeps : (d : Distribute) (old : Node) (cx : Context) (cause : Cause Down Up Local) (step : Step Down Up Local) (new : Node) (cx_new : Context) → FopMakes d old cx cause step new cx_new → cx_new.clients ≡ cx.clients
fop_keeps d old cx (ByFop entry what) step new cx_new is = begun_keeps d cx entry what step cx_new is.makes
fop_keeps d old cx (ByReply l slot r) step new cx_new is = resumes_keeps d cx l r step is.after cx_new is.makes
fop_keeps d old cx (ByGo l) step new cx_new is = goes_keeps d cx l step cx_new is.makes

-- ---- a job

noted_keeps : (cx : Context) (j : Job) (r : SetReply) → (noted cx j r).clients ≡ cx.clients
noted_keeps cx (job.Heal cell) (reply.Skipped cause) = refl
noted_keeps cx (job.Heal cell) (reply.Contents contents place) = refl
noted_keeps cx (job.Heal cell) (reply.Decided number) = refl
noted_keeps cx (job.Heal cell) reply.Opened = refl
noted_keeps cx (job.Heal cell) (reply.Listed cells answered short) = refl
noted_keeps cx (job.Heal cell) (reply.Healed records) = refl
noted_keeps cx (job.Heal cell) (reply.Io error) = refl
noted_keeps cx (job.Read cells fd dir) r = refl
noted_keeps cx (job.Change cells fd op effect) r = refl
noted_keeps cx (job.Birth cells op) r = refl
noted_keeps cx (job.Open fd gfid) r = refl
noted_keeps cx job.Index r = refl

went_keeps : (plan : SetPlan) (txn : Txn) (requests : ℕ) (cx : Context) (n : Need) → (went plan txn requests cx n).cx.clients ≡ cx.clients
went_keeps plan txn requests cx (need.Send list) = refl
went_keeps plan txn requests cx (need.Copy copy rows) = refl
went_keeps plan txn requests cx (need.Reply r) = noted_keeps cx txn.job r
went_keeps plan txn requests cx need.Wait = refl

turned_keeps : (plan : SetPlan) (requests : ℕ) (cx : Context) (t : Txn × (Need × State Cell)) → (turned plan requests cx t).cx.clients ≡ cx.clients
turned_keeps plan requests cx t = went_keeps plan t.0 requests (record cx { ledger = t.1.1 }) t.1.0

copied_keeps : (plan : SetPlan) (requests : ℕ) (cx : Context) (txn : Txn) (c : CopyRun × CopyNeed) → (on_copy plan requests cx txn c).cx.clients ≡ cx.clients
copied_keeps plan requests cx txn (run, copy_need.Send list) = refl
copied_keeps plan requests cx txn (run, copy_need.Wait) = refl
copied_keeps plan requests cx txn (run, copy_need.Done done) = turned_keeps plan requests (recorded plan.bricks cx done.records) (copied txn done cx.ledger (live plan cx.clients) (lasts plan cx.clients))

answered_keeps : (plan : SetPlan) (requests : ℕ) (cx : Context) (txn : Txn) (copy : Option CopyRun) (slot : ℕ) (said : ReplyValue) → (on_reply plan requests cx txn copy slot said).cx.clients ≡ cx.clients
answered_keeps plan requests cx txn None slot said = turned_keeps plan requests cx (answered txn slot said.rep said.mark cx.ledger (live plan cx.clients) (lasts plan cx.clients))
answered_keeps plan requests cx txn (Some run) slot said = copied_keeps plan requests cx txn (copy_answered run slot said.rep said.mark)

job_resumes_keeps : (p : Replicate) (cx : Context) (l : Local) (slot : ℕ) (r : Up) (step : Step Down Up Local) (cx_new : Context) → JobResumes p cx l slot r step cx_new → cx_new.clients ≡ cx.clients
job_resumes_keeps p cx (local.Set frame) slot r step cx_new is = ap (λ (x : Context). x.clients) is.cx ∙ answered_keeps p.plan frame.requests cx frame.txn frame.copy slot (said_of r)
job_resumes_keeps p cx local.Relay slot r step cx_new is = absurd is
job_resumes_keeps p cx (local.Queued what) slot r step cx_new is = absurd is
job_resumes_keeps p cx (local.Pages read) slot r step cx_new is = absurd is
job_resumes_keeps p cx (local.Distribute frame) slot r step cx_new is = absurd is

job_begun_keeps : (plan : SetPlan) (cx : Context) (call : ℕ) (what : Down) (step : Step Down Up Local) (cx_new : Context) → JobBegins plan cx call what step cx_new → cx_new.clients ≡ cx.clients
job_begun_keeps plan cx call (down.Job j) step cx_new is = ap (λ (x : Context). x.clients) is.turn.cx ∙ went_keeps plan is.txn (requests_for (length plan.bricks)) cx is.need
job_begun_keeps plan cx call (down.Fop f) step cx_new is = ap (λ (x : Context). x.clients) is.cx
job_begun_keeps plan cx call (down.Request r) step cx_new is = ap (λ (x : Context). x.clients) is.cx

job_keeps : (p : Replicate) (old : Node) (cx : Context) (cause : Cause Down Up Local) (step : Step Down Up Local) (new : Node) (cx_new : Context) → JobMakes p old cx cause step new cx_new → cx_new.clients ≡ cx.clients
job_keeps p old cx (ByFop entry what) step new cx_new is = job_begun_keeps p.plan cx entry.call what step cx_new is.makes
job_keeps p old cx (ByReply l slot r) step new cx_new is = job_resumes_keeps p cx l slot r step cx_new is.makes
job_keeps p old cx (ByGo l) step new cx_new is = absurd is

-- ---- by kind

queue_keeps : (q : IoThreads) (old : Node) (cx : Context) (cause : Cause Down Up Local) (step : Step Down Up Local) (new : Node) (cx_new : Context) → QueueMakes q old cx cause step new cx_new → cx_new.clients ≡ cx.clients
queue_keeps q old cx (ByFop entry what) step new cx_new is = ap (λ (x : Context). x.clients) is.makes.cx_is
queue_keeps q old cx (ByReply l slot r) step new cx_new is = ap (λ (x : Context). x.clients) is.cx_is
queue_keeps q old cx (ByGo l) step new cx_new is = ap (λ (x : Context). x.clients) is.cx_is

cache_keeps : (c : IoCache) (old : Node) (cx : Context) (cause : Cause Down Up Local) (step : Step Down Up Local) (new : Node) (cx_new : Context) → CacheMakes c old cx cause step new cx_new → cx_new.clients ≡ cx.clients
cache_keeps c old cx (ByFop entry what) step new cx_new is = ap (λ (x : Context). x.clients) is.cx_is
cache_keeps c old cx (ByReply l slot r) step new cx_new is = ap (λ (x : Context). x.clients) is.cx_is
cache_keeps c old cx (ByGo l) step new cx_new is = absurd is

kind_keeps : (k : Kind) (old : Node) (cx : Context) (cause : Cause Down Up Local) (step : Step Down Up Local) (new : Node) (cx_new : Context) → MakesByKind k old cx cause step new cx_new → cx_new.clients ≡ cx.clients
kind_keeps kind.Root old cx (ByFop entry what) step new cx_new is = ap (λ (x : Context). x.clients) is.cx_is
kind_keeps kind.Root old cx (ByReply l slot r) step new cx_new is = ap (λ (x : Context). x.clients) is.cx_is
kind_keeps kind.Root old cx (ByGo l) step new cx_new is = absurd is
kind_keeps kind.Pass old cx (ByFop entry what) step new cx_new is = ap (λ (x : Context). x.clients) is.cx_is
kind_keeps kind.Pass old cx (ByReply l slot r) step new cx_new is = ap (λ (x : Context). x.clients) is.cx_is
kind_keeps kind.Pass old cx (ByGo l) step new cx_new is = absurd is
kind_keeps (kind.IoThreads q) old cx cause step new cx_new is = queue_keeps q old cx cause step new cx_new is
kind_keeps (kind.IoCache c) old cx cause step new cx_new is = cache_keeps c old cx cause step new cx_new is
kind_keeps (kind.Distribute d) old cx cause step new cx_new is = fop_keeps d old cx cause step new cx_new is
kind_keeps (kind.Replicate r) old cx cause step new cx_new is = job_keeps r old cx cause step new cx_new is
kind_keeps (kind.Client c) old cx (ByFop entry what) step new cx_new is = ap (λ (x : Context). x.clients) is.cx_is
kind_keeps (kind.Client c) old cx (ByReply l slot r) step new cx_new is = ap (λ (x : Context). x.clients) is.cx_is
kind_keeps (kind.Client c) old cx (ByGo l) step new cx_new is = absurd is

made_keeps : (at : ℕ) (cause : Cause Down Up Local) (step : Step Down Up Local) (nodes : List Node) (cx : Context) (nodes_new : List Node) (cx_new : Context) → Makes node_makes at cause step nodes cx nodes_new cx_new → cx_new.clients ≡ cx.clients
made_keeps at cause step nodes cx nodes_new cx_new is = kind_keeps is.before.kind is.before cx cause step is.after cx_new is.made

-- ---- a run

module _ (ps : List (Promise Down Local)) (wiring : Wiring) where
  enters_keeps : (b : Bool) (node call : ℕ) (parent : _) (fop : Down) (old new : Running) → EntersBy node_makes ps wiring b node call parent fop old new → new.cx.clients ≡ old.cx.clients
  enters_keeps true node call parent fop old new is = ap (λ (r : Running). r.cx.clients) is
  enters_keeps false node call parent fop old new is = made_keeps _ _ _ old.nodes old.cx new.nodes new.cx is.steps.made

  done_keeps : (task : Task Down Up) (old new : Running) → IsDone node_makes ps wiring task old new → new.cx.clients ≡ old.cx.clients
  done_keeps (Enter node call parent fop) old new is = enters_keeps (is_lost old.board.stack parent) node call parent fop old new is
  done_keeps (Resume frame slot r) old new is = made_keeps _ _ _ old.nodes old.cx new.nodes new.cx is.steps.made
  done_keeps (Go frame) old new is = made_keeps _ _ _ old.nodes old.cx new.nodes new.cx is.steps.made

  run_keeps : (old new : Running) → IsRun node_makes ps wiring old new → new.cx.clients ≡ old.cx.clients
  run_keeps old _ NoTask = refl
  run_keeps old _ (OneTask mid new task rest ran first done) = done_keeps task (queued mid rest) new done ∙ run_keeps old mid ran

-- a call leaves the clients with which its run began
pub call_clients : (starts : Graph → Running → Type 0) (g : Graph) (mount : Mount) (moved : Moved) (new : Graph) (mount_new : Mount) (gives : CallGives starts g mount moved new mount_new) → new.cx.clients ≡ gives.start.cx.clients
call_clients starts g mount moved new mount_new gives = ap (λ (r : Running). r.cx.clients) gives.after_is ∙ run_keeps _ _ gives.start gives.end gives.ran

-- a node that has nobody left to wait
rested_clients : (b : Bool) (cx : Context) (keys : List ℕ) → (if b then record cx { ready = record { keys = keys } } else cx).clients ≡ cx.clients
rested_clients true cx keys = refl
rested_clients false cx keys = refl

-- ---- by the start of the run

module _ (g : Graph) (mount : Mount) (moved : Moved) (new : Graph) (mount_new : Mount) where
  pub enters_clients : (call : ℕ) (fop : Fop) → CallGives (Enters call fop) g mount moved new mount_new → new.cx.clients ≡ g.cx.clients
  enters_clients call fop gives = call_clients (Enters call fop) g mount moved new mount_new gives ∙ ap (λ (r : Running). r.cx.clients) gives.started

  pub wakes_clients : (parked : List ℕ) (frame : Option ℕ) → CallGives (Wakes parked frame) g mount moved new mount_new → new.cx.clients ≡ g.cx.clients
  wakes_clients parked frame gives = call_clients (Wakes parked frame) g mount moved new mount_new gives ∙ ap (λ (r : Running). r.cx.clients) gives.started

  pub task_clients : (task : ℕ) (parked : List ℕ) → CallGives (RunsTask task parked) g mount moved new mount_new → new.cx.clients ≡ g.cx.clients
  task_clients task parked gives = call_clients (RunsTask task parked) g mount moved new mount_new gives
      ∙ ap (λ (x : Context). x.clients) gives.started.turn.turn.cx_is
      ∙ rested_clients ((after_turn gives.started.turn.turn.queue).waiting == 0) (borrowing g mount).cx (remove_key (is_at (nat_cmp gives.started.turn.turn.queue.number)) g.cx.ready.keys)

  pub bails_clients : (brick count : ℕ) → CallGives (Bails brick count) g mount moved new mount_new → new.cx.clients ≡ ended_at g.cx.clients brick
  bails_clients brick count gives = call_clients (Bails brick count) g mount moved new mount_new gives ∙ ap (λ (x : Context). x.clients) gives.started.ends.cx_is

  pub output_clients : (w : WindNo) (r : BrickRep) (taken : ℕ) (settled : Option Settled) → CallGives (TakesOutput w r taken settled) g mount moved new mount_new → seen_clients new.cx.clients ≡ seen_clients g.cx.clients
  output_clients w r taken settled gives =
      ap seen_clients (call_clients (TakesOutput w r taken settled) g mount moved new mount_new gives ∙ ap (λ (x : Context). x.clients) gives.started.noted)
      ∙ noted_unseen (is_done r) g.cx.clients g.outer.items (brick_of (borrowing g mount) (asked_by w).wind) (asked_by w)

-- a task was run, or none was ready
pub ran_clients : {E : Type 0} (g : Graph) (mount : Mount) (new : Graph) (mount_new : Mount) (task : ℕ) (parked : List ℕ) (result : Result (Option Moved) E)
    → IfOk result (λ moved. MatchOption moved (turn_at g.nodes.items task ≡ None) (λ m. CallGives (RunsTask task parked) g mount m new mount_new)) → IfOk result (λ moved. IfNone moved (new.cx ≡ g.cx)) → OnOk result (new.cx.clients ≡ g.cx.clients)
ran_clients g mount new mount_new task parked (Ok None) gives idle = ap (λ (x : Context). x.clients) idle
ran_clients g mount new mount_new task parked (Ok (Some m)) gives idle = task_clients g mount m new mount_new task parked gives
ran_clients g mount new mount_new task parked (Err e) gives idle = tt
