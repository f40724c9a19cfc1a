-- What the front of a brick's output line makes of the hub's side: a reply on the open connection goes to its
-- transaction, a Closed ends every connection to the brick; a reply on another connection is late and changes nothing.
-- Ours, after protocol/client.
use Rattle.std.specs.Prelude.{ℕ, ◌+◌, ◌==◌, Bool, true, false, ◌&&◌, ◌||◌, List, [], ◌∷◌, Option, Some, None, is_none, if◌then◌else◌}
use Rattle.fop_types.specs.declared.cells.Cell.{Cell}
use Rattle.afr_machine.specs.Replicas.{Replicas, with_at}
use Rattle.afr_machine.specs.Touching.{has_cell}
use Rattle.afr_machine.specs.Copies.{Fetched}
use Rattle.afr_machine.specs.Requests.{Sender, Ask, Answer, Output}
use Rattle.afr_machine.specs.Requests.Ask.{Lock, Unlock, Mark, Op, Post, Fetch, Replace, Clear, Settle, Index, Open, Release, OpenFirst}
use Rattle.afr_machine.specs.Requests.Answer.{Done, Rows, Content, Gone, Fault, Unfit, BadFd}
use Rattle.afr_machine.specs.Requests.Output.{Answered, Closed, Opened, Connected}
use Rattle.afr_machine.specs.Transactions.{CopyRun, Stage, Txn}
use Rattle.afr_machine.specs.Transactions.Stage.{Over, Choosing, Locking, Locked, Marking, Applying, Posting, Settling, Bearing, Copying, Polling, Unlocking}
use Rattle.afr_machine.specs.States.{State, Link, is_current, with_brick, with_txn, with_change, with_phase}
use Rattle.afr_machine.specs.Sending.{is_confirmed_sink}

-- ---- which answer was asked for

abbrev pub is_done : Answer → Bool
is_done Done = true
is_done (Rows rows) = false
is_done (Content found) = false
is_done Gone = false
is_done Fault = false
is_done Unfit = false
is_done BadFd = false

abbrev pub has_rows : Answer → Bool
has_rows Done = false
has_rows (Rows rows) = true
has_rows (Content found) = false
has_rows Gone = false
has_rows Fault = false
has_rows Unfit = false
has_rows BadFd = false

abbrev pub has_content : Answer → Bool
has_content Done = false
has_content (Rows rows) = false
has_content (Content found) = true
has_content Gone = false
has_content Fault = false
has_content Unfit = false
has_content BadFd = false

abbrev pub is_wanted : Ask → Answer → Bool
is_wanted (Lock shared cells) answer = has_rows answer
is_wanted Unlock answer = is_done answer
is_wanted (Mark change cells) answer = is_done answer
is_wanted (Op change op) answer = is_done answer
is_wanted (Post change cells accused) answer = is_done answer
is_wanted (Fetch cell) answer = has_content answer
is_wanted (Replace cell found) answer = is_done answer
is_wanted (Clear cells who) answer = is_done answer
is_wanted (Settle change cells accused) answer = is_done answer
is_wanted Index answer = is_done answer
is_wanted Open answer = is_done answer
is_wanted Release answer = is_done answer
is_wanted OpenFirst answer = is_done answer

-- ---- what an answer makes of its transaction

-- in the lock phase the next brick has its turn
abbrev pub passed : Stage → Stage
passed Over = Over
passed Choosing = Choosing
passed (Locking cells shared next) = Locking cells shared (next + 1)
passed Locked = Locked
passed (Marking change) = Marking change
passed (Applying change) = Applying change
passed (Posting change) = Posting change
passed (Settling change group adopts) = Settling change group adopts
passed Bearing = Bearing
passed (Copying run) = Copying run
passed Polling = Polling
passed Unlocking = Unlocking

-- a brick that did not answer what was asked for is out
abbrev pub missing : Txn → ℕ → Txn
missing x k = record x { stage = passed x.stage; out = with_at x.out k true }

abbrev pub granting : Txn → ℕ → ℕ → Bool → List Cell → Answer → Txn
granting x k connection shared cells Done = x
granting x k connection shared cells (Rows rows) =
    record x { stage = passed x.stage; grants = with_at x.grants k (Some (record { connection = connection; shared = shared; cells = cells; rows = rows })) }
granting x k connection shared cells (Content found) = x
granting x k connection shared cells Gone = x
granting x k connection shared cells Fault = x
granting x k connection shared cells Unfit = x
granting x k connection shared cells BadFd = x

abbrev pub confirming : Txn → ℕ → Txn
confirming x k = record x { confirmed = with_at x.confirmed k true }

abbrev pub with_fetched : (Cell → Option Fetched) → Cell → Fetched → Cell → Option Fetched
with_fetched table cell found other = if has_cell (cell ∷ []) other then Some found else table other

abbrev pub with_replaced : (ℕ → Cell → Bool) → ℕ → Cell → ℕ → Cell → Bool
with_replaced table k cell i other = (i == k && has_cell (cell ∷ []) other) || table i other

-- the content that came first stays
abbrev pub with_first : (Cell → Option Fetched) → Cell → Fetched → Cell → Option Fetched
with_first table cell found other = if has_cell (cell ∷ []) other && is_none (table other) then Some found else table other

-- a copy keeps the content for its sinks, a read for its reply
abbrev pub fetching : Txn → Stage → Cell → Fetched → Txn
fetching x (Copying run) cell found = record x { stage = Copying (record run { fetched = with_first run.fetched cell found }) }
fetching x other cell found = record x { shown = with_fetched x.shown cell found }

abbrev pub having : Txn → Cell → Answer → Txn
having x cell Done = x
having x cell (Rows rows) = x
having x cell (Content found) = fetching x x.stage cell found
having x cell Gone = x
having x cell Fault = x
having x cell Unfit = x
having x cell BadFd = x

abbrev pub replacing : Txn → Stage → ℕ → Cell → Txn
replacing x (Copying run) k cell = record x { stage = Copying (record run { replaced = with_replaced run.replaced k cell }) }
replacing x other k cell = x

-- the answer that was asked for
abbrev pub taking : Txn → ℕ → ℕ → Ask → Answer → Txn
taking x k connection (Lock shared cells) answer = granting x k connection shared cells answer
taking x k connection Unlock answer = record x { grants = with_at x.grants k None }
taking x k connection (Mark change cells) answer = confirming x k
taking x k connection (Op change op) answer = confirming x k
taking x k connection (Post change cells accused) answer = confirming x k
taking x k connection (Fetch cell) answer = having x cell answer
taking x k connection (Replace cell found) answer = replacing x x.stage k cell
taking x k connection (Clear cells who) answer = confirming x k
taking x k connection (Settle change cells accused) answer = confirming x k
taking x k connection Index answer = confirming x k
taking x k connection Open answer = confirming x k
taking x k connection Release answer = x
taking x k connection OpenFirst answer = x

abbrev pub hearing : Txn → ℕ → ℕ → Ask → Answer → Txn
hearing x k connection ask answer = if is_wanted ask answer then taking x k connection ask answer else missing x k

-- ---- what else is noted: who applied a change, who confirmed a post or settle, and who a clear

abbrev pub applied_by : State → Stage → ℕ → State
applied_by m (Applying u) k = let change = m.changes u in with_change m u (record change { done = with_at change.done k true })
applied_by m other k = m

-- of each sink whose replacements the clear rests on, and each of its cells
abbrev pub with_cleared : (ℕ → Cell → Replicas) → CopyRun → ℕ → ℕ → Cell → Replicas
with_cleared table run k i cell by = (k == by && (is_confirmed_sink run i && has_cell run.cells cell)) || table i cell by

abbrev pub cleared_for : State → Txn → Stage → ℕ → State
cleared_for m x (Copying run) k = let phase = m.phases x.phase in with_phase m x.phase (record phase { cleared = with_cleared phase.cleared run k })
cleared_for m x other k = m

abbrev pub confirmed_for : State → Txn → ℕ → State
confirmed_for m x k = let phase = m.phases x.phase in with_phase m x.phase (record phase { confirmed = with_at phase.confirmed k true })

abbrev pub noting : State → Txn → ℕ → Ask → State
noting m x k (Lock shared cells) = m
noting m x k Unlock = m
noting m x k (Mark change cells) = m
noting m x k (Op change op) = applied_by m x.stage k
noting m x k (Post change cells accused) = confirmed_for m x k
noting m x k (Fetch cell) = m
noting m x k (Replace cell found) = m
noting m x k (Clear cells who) = cleared_for m x x.stage k
noting m x k (Settle change cells accused) = confirmed_for m x k
noting m x k Index = m
noting m x k Open = m
noting m x k Release = m
noting m x k OpenFirst = m

abbrev pub noted : State → Txn → ℕ → Ask → Answer → State
noted m x k ask answer = if is_wanted ask answer then noting m x k ask else m

-- ---- a reply on the open connection

abbrev pub is_single : List Ask → Bool
is_single [] = false
is_single (ask ∷ []) = true
is_single (ask ∷ (other ∷ others)) = false

abbrev pub without_first : List Ask → List Ask
without_first [] = []
without_first (ask ∷ asks) = asks

-- The transaction still waits for this answer. It does not where the open before the request was answered otherwise
-- than Done, which stood for the answer.
abbrev pub awaits : Txn → ℕ → Bool
awaits x k = x.waits k && is_single (x.flying k)

abbrev pub landed : Txn → ℕ → Txn
landed x k = record x { flying = with_at x.flying k (without_first (x.flying k)) }

abbrev pub at_rest : Txn → ℕ → Txn
at_rest x k = record x { waits = with_at x.waits k false; flying = with_at x.flying k [] }

abbrev pub answered : State → ℕ → Sender → Ask → Answer → State
answered m k by ask answer =
    let x = m.txns by.txn in
    if awaits x k
    then with_txn (noted m x k ask answer) by.txn (hearing (at_rest x k) k by.connection ask answer)
    else with_txn m by.txn (landed x k)

-- An open that went first: its Done says nothing, any other answer stands for that of the request after it.
abbrev pub opening : Txn → ℕ → Bool → Txn
opening x k true = landed x k
opening x k false = record (landed x k) { waits = with_at x.waits k false; out = with_at x.out k true }

abbrev pub opened_first : State → ℕ → Sender → Answer → State
opened_first m k by answer = with_txn m by.txn (opening (m.txns by.txn) k (is_done answer))

abbrev pub replied : State → ℕ → Sender → Ask → Answer → State
replied m k by (Lock shared cells) answer = answered m k by (Lock shared cells) answer
replied m k by Unlock answer = answered m k by Unlock answer
replied m k by (Mark change cells) answer = answered m k by (Mark change cells) answer
replied m k by (Op change op) answer = answered m k by (Op change op) answer
replied m k by (Post change cells accused) answer = answered m k by (Post change cells accused) answer
replied m k by (Fetch cell) answer = answered m k by (Fetch cell) answer
replied m k by (Replace cell found) answer = answered m k by (Replace cell found) answer
replied m k by (Clear cells who) answer = answered m k by (Clear cells who) answer
replied m k by (Settle change cells accused) answer = answered m k by (Settle change cells accused) answer
replied m k by Index answer = answered m k by Index answer
replied m k by Open answer = answered m k by Open answer
replied m k by Release answer = answered m k by Release answer
replied m k by OpenFirst answer = opened_first m k by answer

-- ---- connections that end

abbrev pub closed : Link → Link
closed link = record link { is_open = false }

-- what is on its way there is forgotten
abbrev pub forgetting : (ℕ → Bool) → ℕ → Txn → Txn
forgetting ends k x = if ends x.graph then record x { flying = with_at x.flying k [] } else x

-- the hub ends the connections of these graphs to a brick
abbrev pub without_links : State → ℕ → (ℕ → Bool) → State
without_links m k ends = record m {
  links = with_at m.links k (λ g. if ends g then closed (m.links k g) else m.links k g);
  txns = λ t. forgetting ends k (m.txns t);
}

-- ---- the front of an output line

abbrev pub without_output : List Output → List Output
without_output [] = []
without_output (o ∷ os) = os

abbrev pub taken_in : State → ℕ → Output → State
taken_in m k (Answered by ask answer) = if is_current (m.links k by.graph) by.connection then replied m k by ask answer else m
taken_in m k Closed = without_links m k (λ g. true)
taken_in m k Opened = m
taken_in m k (Connected graph) = m

abbrev pub without_first_output : State → ℕ → State
without_first_output m k = with_brick m k (record (m.bricks k) { outputs = without_output (m.bricks k).outputs })
