-- What a brick keeps: its store with the cells of its set, the locks that are held or wait, the connected graphs with
-- their open descriptors, whether it is down, and the requests that are to fail.
use Rattle.std.specs.Prelude.{ℕ, ◌+◌, min, Bool, List, [], None, get_or, slice_set, replicate}
use Rattle.std.specs.declared.cmp.Ordering.{Ordering}
use Rattle.std.specs.Ordering.{nat_cmp, ordering_then}
use Rattle.std.specs.List.{list_any}
use Rattle.std.specs.BTreeMap.{is_at}
use Rattle.std.specs.BTreeSet.{insert_key}
use Rattle.std.specs.Set.{remove_key}
use Rattle.fop_types.specs.Limits.{max_hyper}
use Rattle.fop_types.specs.declared.messages.BrickReq.{BrickReq}
use Rattle.fop_types.specs.declared.messages.BrickReq.TheVariants as req
use Rattle.fop_types.specs.declared.messages.Proc.{Proc}
use Rattle.fop_types.specs.declared.messages.Proc.TheVariants as proc
use Rattle.cell_store.specs.Cells.{root_alone}
use Rattle.brick_machine.specs.Faulting.{Faulting}
use Rattle.brick_machine.specs.declared.faults.Failing.{Failing}
use Rattle.brick_machine.specs.declared.state.State.{State}

-- ---- the requests that are to fail

-- the place of a procedure in the order of procedures, from 0
abbrev pub place_of : Proc → ℕ
place_of proc.Lock = 0
place_of proc.Unlock = 1
place_of proc.Mark = 2
place_of proc.Op = 3
place_of proc.Post = 4
place_of proc.Fetch = 5
place_of proc.Replace = 6
place_of proc.Clear = 7
place_of proc.Settle = 8
place_of proc.Index = 9
place_of proc.Open = 10
place_of proc.Release = 11

abbrev pub proc_of : BrickReq → Proc
proc_of (req.Lock call shared cells) = proc.Lock
proc_of (req.Unlock call) = proc.Unlock
proc_of (req.Mark change cells) = proc.Mark
proc_of (req.Op change fd op) = proc.Op
proc_of (req.Post change cells mask) = proc.Post
proc_of (req.Fetch fd cell) = proc.Fetch
proc_of (req.Replace cell last content) = proc.Replace
proc_of (req.Clear cells mask) = proc.Clear
proc_of (req.Settle cells mask) = proc.Settle
proc_of req.Index = proc.Index
proc_of (req.Open fd gfid) = proc.Open
proc_of (req.Release fd) = proc.Release

abbrev pub failing_cmp : Failing → Failing → Ordering
failing_cmp a b = ordering_then (nat_cmp a.place b.place) (nat_cmp a.number b.number)

abbrev pub no_faults : Faulting
no_faults = record { served = replicate 12 0; failing = [] }

-- the number that a procedure's served requests come to with so many more, up to 2^64 - 1
abbrev pub number_after : Faulting → Proc → ℕ → ℕ
number_after faults p more = min (get_or faults.served (place_of p) 0 + more) max_hyper

abbrev pub request_after : Faulting → Proc → ℕ → Failing
request_after faults p more = record { place = place_of p; number = number_after faults p more }

-- the request of a procedure that is served next fails where a FaultAt has named it
abbrev pub is_to_fail : Faulting → Proc → Bool
is_to_fail faults p = list_any (is_at (failing_cmp (request_after faults p 1))) faults.failing

abbrev pub after_request : Faulting → Proc → Faulting
after_request faults p = record {
  served = slice_set faults.served (place_of p) (number_after faults p 1);
  failing = remove_key (is_at (failing_cmp (request_after faults p 1))) faults.failing;
}

-- the number-th request of a procedure that is served after this is to fail
abbrev pub with_fault : Faulting → Proc → ℕ → Faulting
with_fault faults p number = record faults { failing = insert_key failing_cmp faults.failing (request_after faults p number) }

-- ---- the whole

-- a new brick: the root alone, no names of replicas, no connection, not down
abbrev pub start : State
start = record { store = record { cells = root_alone; names = [] }; locks = []; waiters = []; graphs = []; down = None; faults = no_faults }

-- the same state under other names of replicas; they are bound and not sent, and no request depends on them
abbrev pub named : List (List ℕ) → State → State
named names s = record s { store = record (s.store) { names = names } }
