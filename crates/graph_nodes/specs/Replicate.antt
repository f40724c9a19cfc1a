-- The replicate node of a set: a transaction for each job, and the copies that it asks for. A wind's slot and child are the
-- number of its replica, and a request is bound to the connection on which that replica granted its lock. A turn is what
-- becomes of the frame, and of the context: the ledger, the records of copies that were made, and the cells that a heal left.
use Rattle.std.specs.Prelude.{◌≡◌, ℕ, ◌-◌, nat_le, Bool, true, List, [], ◌∷◌, ◌++◌, map, length, Option, Some, None, slice_get, if◌then◌else◌}
use Rattle.fop_types.specs.Bounds.{Each, IsReq}
use Rattle.fop_types.specs.declared.answers.IoError.TheVariants as io
use Rattle.fop_types.specs.declared.answers.SplitRow.{SplitRow}
use Rattle.fop_types.specs.declared.causes.SkipCause.{SkipCause}
use Rattle.fop_types.specs.declared.cells.Cell.{Cell}
use Rattle.fop_types.specs.declared.contents.Mask.{Mask}
use Rattle.fop_types.specs.declared.copy_jobs.CopyDone.{CopyDone}
use Rattle.fop_types.specs.declared.copy_jobs.CopyJob.{CopyJob}
use Rattle.fop_types.specs.declared.copy_jobs.CopyRecord.{CopyRecord}
use Rattle.fop_types.specs.declared.jobs.Job.{Job}
use Rattle.fop_types.specs.declared.jobs.Job.TheVariants as job
use Rattle.fop_types.specs.declared.jobs.SetPlan.{SetPlan}
use Rattle.fop_types.specs.declared.jobs.SetReply.{SetReply}
use Rattle.fop_types.specs.declared.jobs.SetReply.TheVariants as reply
use Rattle.fop_types.specs.declared.messages.BrickRep.TheVariants as rep
use Rattle.fop_types.specs.declared.messages.BrickReq.{BrickReq}
use Rattle.afr_ledger.specs.Ledger.{State}
use Rattle.afr_phases.specs.declared.locks.Locks.{Locks}
use Rattle.afr_phases.specs.Waves.{is_asked}
use Rattle.afr_transaction.specs.declared.need.Need.{Need}
use Rattle.afr_transaction.specs.declared.need.Need.TheVariants as need
use Rattle.afr_transaction.specs.declared.txn.Txn.{Txn}
use Rattle.afr_transaction.specs.Answers.{answered, copied}
use Rattle.afr_transaction.specs.Begins.{IsBegun as TxnIsBegun}
use Rattle.client_xlator.specs.Client.{ClientState}
use Rattle.self_heal.specs.declared.run.CopyRun.{CopyRun}
use Rattle.self_heal.specs.declared.stage.CopyNeed.{CopyNeed}
use Rattle.self_heal.specs.declared.stage.CopyNeed.TheVariants as copy_need
use Rattle.self_heal.specs.Runs.{new_run, next_cell, answered as copy_answered}
use Rattle.xlator_law.specs.declared.step.Step.{Step}
use Rattle.graph_items.specs.declared.items.Down.{Down}
use Rattle.graph_items.specs.declared.items.Down.TheVariants as down
use Rattle.graph_items.specs.declared.items.Up.{Up}
use Rattle.graph_items.specs.declared.items.Up.TheVariants as up
use Rattle.graph_items.specs.Clients.{live_of, lasts_of}
use Rattle.graph_items.specs.Items.{ReplyValue}
use Rattle.graph_nodes.specs.declared.context.Context.{Context}
use Rattle.graph_nodes.specs.declared.locals.Local.{Local}
use Rattle.graph_nodes.specs.declared.locals.Local.TheVariants as local
use Rattle.graph_nodes.specs.declared.locals.JobState.{JobState}
use Rattle.graph_nodes.specs.Costs.{requests_for}
use Rattle.graph_nodes.specs.Moves.{Move, IsMove}
use Rattle.graph_nodes.specs.Moves.Move.{On, Back}

pub record Turn : Type 0 where
  pub move : Move
  pub cx : Context

-- ---- what a frame waits for

-- the replicas that were asked: by the copy under way, if there is one, else by the transaction
abbrev pub is_asked_by : Txn → Option CopyRun → ℕ → Bool
is_asked_by txn None s = is_asked txn.wave s
is_asked_by txn (Some run) s = is_asked run.wave s

-- ---- requests

abbrev pub found : Option (Option ℕ) → Option ℕ
found None = None
found (Some connection) = connection

-- the connection on which a replica granted its lock in the running lock phase
abbrev pub bound_of : Locks → ℕ → Option ℕ
bound_of locks replica = found (slice_get locks.at replica)

abbrev pub wind_of : Locks → ℕ × BrickReq → ℕ × ℕ × Down
wind_of locks r = (r.0, r.0, down.Request (record { bound = bound_of locks r.0; req = r.1 }))

-- the job ends as that of a set without a quorum
abbrev pub refused : SetPlan → Move
refused plan = Back (up.Set (reply.Io (io.Quorum plan.number [])))

-- requests go out, as long as the job has so many left
abbrev pub send_of : SetPlan → JobState → List (ℕ × BrickReq) → Move
send_of plan frame list =
    if nat_le (length list) frame.requests
    then On (map (wind_of frame.txn.locks) list) (local.Set (record frame { requests = frame.requests - length list }))
    else refused plan

-- each request has an encoding
abbrev pub AreEncoded : List (ℕ × BrickReq) → Type 0
AreEncoded list = Each (λ (r : ℕ × BrickReq). IsReq true r.1) list

-- ---- copies

-- a copy that begins has something to send, as the transactions' law has it
abbrev pub copy_begun : SetPlan → Txn → ℕ → CopyRun × CopyNeed → Move
copy_begun plan txn requests (run, copy_need.Send list) = send_of plan (record { txn = txn; copy = Some run; requests = requests }) list
copy_begun plan txn requests (run, copy_need.Done done) = refused plan
copy_begun plan txn requests (run, copy_need.Wait) = refused plan

-- the brick of a replica
abbrev pub brick_by : Option ℕ → ℕ → ℕ
brick_by None replica = replica
brick_by (Some brick) replica = brick

abbrev pub brick_of : List ℕ → ℕ → ℕ
brick_of bricks replica = brick_by (slice_get bricks replica) replica

abbrev pub named_row : List ℕ → SplitRow → SplitRow
named_row bricks row = record row { brick = brick_of bricks row.brick }

-- the record with the numbers of bricks in the place of those of replicas
abbrev pub named : List ℕ → CopyRecord → CopyRecord
named bricks made = record made { source = brick_of bricks made.source; sink = brick_of bricks made.sink; rows = map (named_row bricks) made.rows }

-- the mount gets the records of a copy
abbrev pub recorded : List ℕ → Context → List CopyRecord → Context
recorded bricks cx made = record cx { copies = cx.copies ++ map (named bricks) made }

-- ---- what the transaction needs

-- a heal that leaves its cell is noted
abbrev pub noted : Context → Job → SetReply → Context
noted cx (job.Heal cell) (reply.Skipped cause) = record cx { skips = cx.skips ++ (cell, cause) ∷ [] }
noted cx (job.Heal cell) (reply.Contents contents place) = cx
noted cx (job.Heal cell) (reply.Decided number) = cx
noted cx (job.Heal cell) reply.Opened = cx
noted cx (job.Heal cell) (reply.Listed cells answered short) = cx
noted cx (job.Heal cell) (reply.Healed records) = cx
noted cx (job.Heal cell) (reply.Io error) = cx
noted cx (job.Read cells fd dir) r = cx
noted cx (job.Change cells fd op effect) r = cx
noted cx (job.Birth cells op) r = cx
noted cx (job.Open fd gfid) r = cx
noted cx job.Index r = cx

-- the turn of what the transaction needs next, where no copy is under way
abbrev pub went : SetPlan → Txn → ℕ → Context → Need → Turn
went plan txn requests cx (need.Send list) = record { move = send_of plan (record { txn = txn; copy = None; requests = requests }) list; cx = cx }
went plan txn requests cx (need.Copy copy rows) = record { move = copy_begun plan txn requests (next_cell (new_run copy rows)); cx = cx }
went plan txn requests cx (need.Reply r) = record { move = Back (up.Set r); cx = noted cx txn.job r }
went plan txn requests cx need.Wait = record { move = On [] (local.Set (record { txn = txn; copy = None; requests = requests })); cx = cx }

-- a turn of the transaction, which leaves this ledger
abbrev pub turned : SetPlan → ℕ → Context → Txn × (Need × State Cell) → Turn
turned plan requests cx t = went plan t.0 requests (record cx { ledger = t.1.1 }) t.1.0

-- ---- the turn of a reply

-- the replicas that are connected, and the number of each one's last connection
abbrev pub live : SetPlan → List ClientState → Mask
live plan clients = live_of clients plan.bricks

abbrev pub lasts : SetPlan → List ClientState → List ℕ
lasts plan clients = lasts_of clients plan.bricks

-- the mount gets the records of a copy that is done, and the transaction goes on
abbrev pub on_copy_done : SetPlan → ℕ → Context → Txn → CopyDone → Turn
on_copy_done plan requests cx txn done =
    turned plan requests (recorded plan.bricks cx done.records) (copied txn done cx.ledger (live plan cx.clients) (lasts plan cx.clients))

abbrev pub on_copy : SetPlan → ℕ → Context → Txn → CopyRun × CopyNeed → Turn
on_copy plan requests cx txn (run, copy_need.Send list) = record { move = send_of plan (record { txn = txn; copy = Some run; requests = requests }) list; cx = cx }
on_copy plan requests cx txn (run, copy_need.Wait) = record { move = On [] (local.Set (record { txn = txn; copy = Some run; requests = requests })); cx = cx }
on_copy plan requests cx txn (run, copy_need.Done done) = on_copy_done plan requests cx txn done

abbrev pub on_reply : SetPlan → ℕ → Context → Txn → Option CopyRun → ℕ → ReplyValue → Turn
on_reply plan requests cx txn None k said = turned plan requests cx (answered txn k said.rep said.mark cx.ledger (live plan cx.clients) (lasts plan cx.clients))
on_reply plan requests cx txn (Some run) k said = on_copy plan requests cx txn (copy_answered run k said.rep said.mark)

-- what is no brick's reply counts as that of a brick that is gone
abbrev pub said_of : Up → ReplyValue
said_of (up.Brick said) = said
said_of (up.Set r) = record { rep = rep.Gone; mark = 0 }
said_of (up.Answer answer place) = record { rep = rep.Gone; mark = 0 }

-- the turn of what comes up in a slot
abbrev pub resume_of : SetPlan → Context → JobState → ℕ → Up → Turn
resume_of plan cx frame slot r = on_reply plan frame.requests cx frame.txn frame.copy slot (said_of r)

-- ---- as a step of the node

pub record IsTurn (turn : Turn) (step : Step Down Up Local) (new : Context) : Type 0 where
  pub move : IsMove turn.move step
  pub cx : new ≡ turn.cx

-- a job begins
pub record IsJobBegun (plan : SetPlan) (old : Context) (call : ℕ) (j : Job) (step : Step Down Up Local) (new : Context) : Type 0 where
  pub txn : Txn
  pub need : Need
  pub begun : TxnIsBegun txn need plan call j old.ledger (live plan old.clients) (lasts plan old.clients)
  pub turn : IsTurn (went plan txn (requests_for (length plan.bricks)) old need) step new

abbrev pub IsBegun : SetPlan → Context → ℕ → Down → Step Down Up Local → Context → Type 0
IsBegun plan old call (down.Job j) step new = IsJobBegun plan old call j step new
IsBegun plan old call (down.Fop f) step new = IsTurn (record { move = refused plan; cx = old }) step new
IsBegun plan old call (down.Request r) step new = IsTurn (record { move = refused plan; cx = old }) step new
