-- What the searches find: the rows, locks and replies of a brick or a call, and how a brick was lost by the ends of its
-- connections.
use Rattle.std.specs.Prelude.{◌≡◌, ℕ, ◌+◌, ◌-◌, ◌^◌, ◌==◌, nat_le, nat_lt, ◌&&◌, min, Bool, true, false, List, [], ◌∷◌, Option, None, Some, slice_get, slice_index_or, if◌then◌else◌}
use Rattle.std.specs.BTreeMap.{is_at}
use Rattle.std.specs.Map.{lookup}
use Rattle.fop_types.specs.Orders.{cell_cmp}
use Rattle.fop_types.specs.declared.answers.SplitRow.{SplitRow}
use Rattle.fop_types.specs.declared.cells.Cell.{Cell}
use Rattle.fop_types.specs.declared.messages.BrickReq.{BrickReq}
use Rattle.fop_types.specs.declared.messages.BrickReq.TheVariants as req
use Rattle.fop_types.specs.declared.messages.Input.{Input}
use Rattle.fop_types.specs.declared.messages.Input.TheVariants as input
use Rattle.wire_messages.specs.Messages.{input_in}
use Rattle.wire_messages.specs.declared.messages.Message.{Message}
use Rattle.wire_messages.specs.declared.messages.Message.TheVariants.{Whole, Wrong}
use Rattle.mount_log.specs.declared.logs.Log.{Log}
use Rattle.mount_log.specs.declared.logs.SentLine.{SentLine}
use Rattle.error_audit.specs.declared.connections.Opening.{Opening}
use Rattle.error_audit.specs.declared.evidence.Found.{Found}
use Rattle.error_audit.specs.declared.grants.LockPhase.{LockPhase}
use Rattle.error_audit.specs.declared.locks.LockAt.{LockAt}
use Rattle.error_audit.specs.declared.losses.End.{End}
use Rattle.error_audit.specs.declared.losses.Loss.{Loss}
use Rattle.error_audit.specs.declared.losses.Sent.{Sent}

-- the replies to a call that were found, by its number
abbrev pub replies_to : List (List Found) → ℕ → List Found
replies_to lists call = slice_index_or lists call []

-- the ends of a brick's connections, by its number
abbrev pub ends_at : List (List End) → ℕ → List End
ends_at lists brick = slice_index_or lists brick []

-- the places of the changes of these cells, by the first of them
module _ {V : Type 0} (f : V → List ℕ) where
  abbrev pub places_in : Option V → List ℕ
  places_in None = []
  places_in (Some places) = f places

  abbrev pub marks_at : List (Cell × V) → List Cell → List ℕ
  marks_at marks [] = []
  marks_at marks (cell ∷ cells) = places_in (lookup (is_at (cell_cmp cell)) marks)

-- the number as it is named, 0 where it has no name
abbrev pub named : ℕ → ℕ
named count = if nat_le count 4294967295 then count else 0

-- one of the rows is the brick's
abbrev pub has_row_of : List SplitRow → ℕ → Bool
has_row_of [] brick = false
has_row_of (row ∷ rows) brick = if row.brick == brick then true else has_row_of rows brick

-- ---- locks

-- the place of the last of these locks that asked the brick; this one where none did
abbrev pub last_in : List LockAt → ℕ → ℕ → ℕ
last_in [] brick last = last
last_in (lock ∷ locks) brick last = last_in locks brick (if lock.brick == brick then lock.at else last)

-- the cells of a call's lock
abbrev pub locked_by : ℕ → BrickReq → Option (List Cell)
locked_by call (req.Lock of shared cells) = if of == call then Some cells else None
locked_by call (req.Unlock of) = None
locked_by call (req.Mark change cells) = None
locked_by call (req.Op change fd op) = None
locked_by call (req.Post change cells mask) = None
locked_by call (req.Fetch fd cell) = None
locked_by call (req.Replace cell last content) = None
locked_by call (req.Clear cells mask) = None
locked_by call (req.Settle cells mask) = None
locked_by call req.Index = None
locked_by call (req.Open fd gfid) = None
locked_by call (req.Release fd) = None

abbrev pub locked_in : ℕ → Input → Option (List Cell)
locked_in call (input.Request wind graph r) = locked_by call r
locked_in call (input.Connect graph version) = None
locked_in call (input.Disconnect graph) = None
locked_in call (input.Down serve) = None
locked_in call input.Up = None
locked_in call (input.FaultAt p number) = None

abbrev pub locked_on : ℕ → Message Input → Option (List Cell)
locked_on call (Whole x) = locked_in call x
locked_on call (Wrong place) = None

abbrev pub earlier : Option LockAt → LockAt → LockAt
earlier None lock = lock
earlier (Some first) lock = if nat_le first.at lock.at then first else lock

-- the earliest of the last locks of the bricks of these rows, and of this one
abbrev pub first_lock : List SplitRow → List LockAt → Option LockAt → Option LockAt
first_lock [] locks first = first
first_lock (row ∷ rows) locks first = first_lock rows locks (Some (earlier first (record { at = last_in locks row.brick 0; brick = row.brick })))

abbrev pub phase_with : ℕ → Option (List Cell) → Option LockPhase
phase_with at None = None
phase_with at (Some cells) = Some (record { from = at; cells = cells })

-- the lock phase that begins with this line, if that is the call's lock of the brick
abbrev pub phase_from : ℕ → LockAt → SentLine → Option LockPhase
phase_from call lock line = if line.brick == lock.brick then phase_with lock.at (locked_on call (input_in line.bytes)) else None

abbrev pub phase_in : ℕ → LockAt → Option SentLine → Option LockPhase
phase_in call lock None = None
phase_in call lock (Some line) = phase_from call lock line

-- the lock phase that begins with this lock
abbrev pub phase_at : Log → ℕ → Option LockAt → Option LockPhase
phase_at log call None = None
phase_at log call (Some lock) = phase_in call lock (slice_get log.sent lock.at)

-- ---- rows

-- the rows of a brick
abbrev pub of_brick : ℕ → List SplitRow → List SplitRow
of_brick brick [] = []
of_brick brick (row ∷ rows) = if row.brick == brick then row ∷ of_brick brick rows else of_brick brick rows

-- those of the first brick
abbrev pub of_first : List SplitRow → List SplitRow
of_first [] = []
of_first (row ∷ rows) = of_brick row.brick (row ∷ rows)

-- ---- the ends of connections

-- the end is of the graph, or of all graphs
abbrev pub is_of : Option Sent → ℕ → Bool
is_of None graph = true
is_of (Some sent) graph = sent.graph == graph

abbrev pub is_later : End → Option End → Bool
is_later end None = true
is_later end (Some last) = nat_le last.event end.event

-- the end is one of the graph up to this event, and no earlier than the last one so far
abbrev pub is_last_so_far : End → Option End → ℕ → ℕ → Bool
is_last_so_far end last graph until = is_later end last && (nat_le end.event until && is_of end.by graph)

-- the last of these ends that is of the graph, up to this event; this one where none is
abbrev pub last_end : List End → ℕ → ℕ → Option End → Option End
last_end [] graph until last = last
last_end (end ∷ ends) graph until last = last_end ends graph until (if is_last_so_far end last graph until then Some end else last)

-- ---- moments

abbrev pub is_to : Opening → ℕ → ℕ → Bool
is_to opening graph brick = (opening.brick == brick) && (opening.graph == graph)

-- the last event, up to this one, before the graph opens a connection to the brick behind as many as the number says, of which
-- the count was opened already
abbrev pub last_with : List Opening → ℕ → ℕ → ℕ → ℕ → ℕ → ℕ
last_with [] graph brick number until count = until
last_with (o ∷ openings) graph brick number until count =
    if is_to o graph brick then (if count == number then min until (o.event - 1) else last_with openings graph brick number until (min (count + 1) (2 ^ 32 - 1)))
    else last_with openings graph brick number until count

-- the last event, up to this one, before the graph opens a connection to the brick behind the end
abbrev pub closed_until : List Opening → ℕ → ℕ → ℕ → ℕ → ℕ
closed_until [] graph brick end until = until
closed_until (o ∷ openings) graph brick end until = if is_to o graph brick && nat_lt end o.event then min until (o.event - 1) else closed_until openings graph brick end until

-- ---- losses

abbrev pub moment_behind : List Opening → ℕ → ℕ → ℕ → Option End → ℕ
moment_behind openings graph brick found None = found
moment_behind openings graph brick found (Some end) = closed_until openings graph brick end.event found

abbrev pub loss_by : List Opening → ℕ → ℕ → ℕ → Option End → Loss
loss_by openings graph brick found end = record { moment = moment_behind openings graph brick found end; found = found; end = end }

-- how the brick was lost to the graph up to an event, with this number of its last connection
abbrev pub loss_of : List Opening → List End → ℕ → ℕ → ℕ → ℕ → Loss
loss_of openings ends graph brick number until =
    let found = last_with openings graph brick number until 0 in loss_by openings graph brick found (last_end ends graph found None)

abbrev pub moment_out : List Opening → ℕ → ℕ → ℕ → Option End → ℕ
moment_out openings graph brick until None = last_with openings graph brick 0 until 0
moment_out openings graph brick until (Some end) = closed_until openings graph brick end.event until

abbrev pub out_by : List Opening → ℕ → ℕ → ℕ → Option End → Loss
out_by openings graph brick until end = let moment = moment_out openings graph brick until end in record { moment = moment; found = moment; end = end }

-- how it was lost, by the last moment at which it was without a connection
abbrev pub out_of : List Opening → List End → ℕ → ℕ → ℕ → Loss
out_of openings ends graph brick until = out_by openings graph brick until (last_end ends graph until None)
