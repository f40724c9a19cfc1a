-- Each output of a brick has an encoding: all that it keeps came in inputs that have one.
use Rattle.std.proofs.Common.{◌≡◌, ◌+◌, ◌-◌, ◌∷◌, min, ℕ, Bool, true, false, List, [], length, refl, ap, subst, arith}
use Rattle.std.specs.Prelude.{is_some, ◌==◌, Result, Ok, Err, if◌then◌else◌}
use Rattle.fop_types.specs.Bounds.{Each, IsUnit, IsHyper, AreFew, IsContent, IsReq, IsRep}
use Rattle.fop_types.specs.declared.contents.Content.{Content}
use Rattle.fop_types.specs.declared.contents.Content.TheVariants.{Bytes, Meta, Names}
use Rattle.fop_types.specs.declared.messages.BrickReq.{BrickReq}
use Rattle.fop_types.specs.declared.messages.BrickReq.TheVariants as req
use Rattle.fop_types.specs.declared.messages.BrickRep.{BrickRep}
use Rattle.fop_types.specs.declared.messages.BrickRep.TheVariants.{Gone}
use Rattle.fop_types.specs.declared.messages.Input.{Input}
use Rattle.fop_types.specs.declared.messages.Input.TheVariants.{Request, Down, Up, Connect, Disconnect, FaultAt}
use Rattle.fop_types.specs.declared.messages.OutKind.{OutKind}
use Rattle.fop_types.specs.declared.messages.Output.{Output}
use Rattle.wire_xdr.specs.WireText.{IsInput, IsOutKind}
use Rattle.wire_xdr.specs.code.Decoding.{decoded_by}
use Rattle.wire_xdr.specs.code.MessageParsers.{input_at}
use Rattle.wire_xdr.specs.declared.decode.faults.Fault.{Fault}
use Rattle.wire_xdr.specs.declared.decode.faults.Fault.TheVariants as fault
use Rattle.wire_messages.specs.Messages.{input_in, message_of}
use Rattle.wire_messages.specs.declared.messages.Message.{Message}
use Rattle.wire_messages.specs.declared.messages.Message.TheVariants.{Whole, Wrong}
use Rattle.wire_messages.proofs.ReadBack.{input_is_encoded}
use Rattle.brick_locks.specs.Locks.{request, owners, is_known, is_kept_by, waiting}
use Rattle.brick_locks.specs.Leaving.{freed_by}
use Rattle.brick_locks.specs.declared.owner.Owner.{Owner}
use Rattle.cell_store.specs.Cells.{Cells, kept_at, copy_of, present_in, mark_of, post_of, settle_of}
use Rattle.brick_machine.specs.Connections.{is_good, is_connected}
use Rattle.brick_machine.specs.Encoded.{IsStored, AreKept, OutputsAreEncoded, CellsAreKept}
use Rattle.brick_machine.specs.State.{proc_of, is_to_fail, start}
use Rattle.brick_machine.specs.Locking.{Served, granted, left_waiting, gone_owners, freed_owners, graph_dropped}
use Rattle.brick_machine.specs.Serving.{cells_after, fetched, indexed, is_fit, replied, changed, served_now, counted, served_late, is_late, one_less, request_served}
use Rattle.brick_machine.specs.Machine.{input_served, served, with_taken, state_from, outputs_from}
use Rattle.brick_machine.specs.declared.state.State.{State}
use Rattle.brick_machine.specs.declared.waiters.Waiter.{Waiter}
use Rattle.brick_machine.proofs.Kept.{kept_there, changed_kept, cleared_kept, replaced_kept, marked_one, posted_one, settled_one, root_kept}
use Rattle.brick_machine.proofs.Stored.{op_kept}
use Rattle.brick_machine.proofs.Replies.{IsWaiter, each_both, with_legal, left_legal, grant_legal, answered_legal, fetched_legal, indexed_legal, change_legal}

-- a state of which each answer has an encoding
record IsLegal (s : State) : Type 0 where
  cells : AreKept s.store.cells
  waiters : Each IsWaiter s.waiters

record IsFine (by : Served) : Type 0 where
  state : IsLegal by.state
  outs : Each (IsOutKind true) by.outs

-- ---- requests

cells_legal : (cells : Cells) (r : BrickReq) → IsReq true r → AreKept cells → AreKept (cells_after cells r)
cells_legal cells (req.Lock call shared those) legal all = all
cells_legal cells (req.Unlock call) legal all = all
cells_legal cells (req.Mark change those) legal all = changed_kept mark_of marked_one those cells legal.1.2 all
cells_legal cells (req.Op change fd op) legal all = op_kept cells change op legal.2 legal.0 all
cells_legal cells (req.Post change those mask) legal all = changed_kept (post_of mask) (posted_one mask) those cells legal.1.2 all
cells_legal cells (req.Fetch fd cell) legal all = all
cells_legal cells (req.Replace cell last content) legal all = replaced_kept cells cell content last legal.0 (stored_of content legal.3) legal.1 all
  where
    stored_of : (c : Content) → IsContent true c → IsStored c
    stored_of (Bytes bytes) h = h
    stored_of (Meta mode attrs span) h = (h.0, (h.1.1, h.1.2), h.2)
    stored_of (Names removed items) h = (h.1, h.2)
cells_legal cells (req.Clear those mask) legal all = cleared_kept mask those cells all
cells_legal cells (req.Settle those mask) legal all = changed_kept (settle_of mask) (settled_one mask) those cells legal.0.2 all
cells_legal cells req.Index legal all = all
cells_legal cells (req.Open fd gfid) legal all = all
cells_legal cells (req.Release fd) legal all = all

reply_fine : (s : State) (wind : ℕ) (rep : BrickRep) → IsLegal s → IsHyper wind → IsRep true rep → IsFine (replied s wind rep)
reply_fine s wind rep legal w r = record { state = legal; outs = ((w, r), tt) }

changed_fine : (s : State) (wind : ℕ) (r : BrickReq) → IsLegal s → IsHyper wind → IsReq true r → IsFine (changed s wind r)
changed_fine s wind r legal w q = record { state = record { cells = cells_legal s.store.cells r q legal.cells; waiters = legal.waiters }; outs = ((w, change_legal (is_fit s.store.cells r)), tt) }

chosen : (b : Bool) (x y : Served) → IsFine x → IsFine y → IsFine (if b then x else y)
chosen true x y f g = f
chosen false x y f g = g

gone_is_legal : (w : Waiter) → AreFew w.cells → IsRep true Gone
gone_is_legal w few = tt

now_fine : (s : State) (wind graph : ℕ) (r : BrickReq) → IsLegal s → IsHyper wind → IsReq true r → IsFine (served_now s wind graph r)
now_fine s wind graph (req.Lock call shared those) legal w q =
    chosen (is_known (record { graph = graph; call = call }) s.locks) _ _ (reply_fine s wind _ legal w tt)
    (chosen (is_kept_by s.locks (request (record { graph = graph; call = call }) those shared)) _ _
    (record { state = record { cells = legal.cells; waiters = with_legal (record { graph = graph; call = call }) (record { wind = wind; cells = those }) s.waiters legal.waiters (w, q.1) }; outs = tt })
    (record { state = record { cells = legal.cells; waiters = legal.waiters }; outs = ((w, grant_legal s.store.cells those legal.cells q.1), tt) }))
now_fine s wind graph (req.Unlock call) legal w q =
    let freed : List Owner = freed_by (record { graph = graph; call = call }) s.locks in
    record {
      state = record { cells = legal.cells; waiters = left_legal freed s.waiters legal.waiters };
      outs = ((w, tt), answered_legal (λ v. granted s.store.cells v.cells) (λ v few. grant_legal s.store.cells v.cells legal.cells few) freed s.waiters legal.waiters);
    }
now_fine s wind graph (req.Mark change those) legal w q = changed_fine s wind (req.Mark change those) legal w q
now_fine s wind graph (req.Op change fd op) legal w q =
    chosen (is_good s.graphs graph fd) _ _ (changed_fine s wind (req.Op change fd op) legal w q) (reply_fine s wind _ legal w tt)
now_fine s wind graph (req.Post change those mask) legal w q = changed_fine s wind (req.Post change those mask) legal w q
now_fine s wind graph (req.Fetch fd cell) legal w q =
    let one = kept_there s.store.cells cell legal.cells in
    chosen (is_good s.graphs graph fd) _ _
    (reply_fine s wind (fetched (copy_of (kept_at s.store.cells cell))) legal w (fetched_legal (kept_at s.store.cells cell).content (kept_at s.store.cells cell).last one.content one.last))
    (reply_fine s wind _ legal w tt)
now_fine s wind graph (req.Replace cell last content) legal w q = changed_fine s wind (req.Replace cell last content) legal w q
now_fine s wind graph (req.Clear those mask) legal w q = changed_fine s wind (req.Clear those mask) legal w q
now_fine s wind graph (req.Settle those mask) legal w q = changed_fine s wind (req.Settle those mask) legal w q
now_fine s wind graph req.Index legal w q = reply_fine s wind (indexed (present_in s.store.cells)) legal w (indexed_legal s.store.cells legal.cells)
now_fine s wind graph (req.Open fd gfid) legal w q = record { state = record { cells = legal.cells; waiters = legal.waiters }; outs = ((w, tt), tt) }
now_fine s wind graph (req.Release fd) legal w q =
    chosen (is_good s.graphs graph fd) _ _ (record { state = record { cells = legal.cells; waiters = legal.waiters }; outs = ((w, tt), tt) }) (reply_fine s wind _ legal w tt)

counted_legal : (s : State) (r : BrickReq) → IsLegal s → IsLegal (counted s r)
counted_legal s r legal = record { cells = legal.cells; waiters = legal.waiters }

late_fine : (s : State) (wind : ℕ) (r : BrickReq) → IsLegal s → IsHyper wind → IsReq true r → IsFine (served_late s wind r)
late_fine s wind r legal w q = record { state = record { cells = cells_legal s.store.cells r q legal.cells; waiters = legal.waiters }; outs = ((w, tt), tt) }

request_fine : (s : State) (wind graph : ℕ) (r : BrickReq) → IsLegal s → IsHyper wind → IsReq true r → IsFine (request_served s wind graph r)
request_fine s wind graph r legal w q =
    let less : IsLegal (one_less s) = record { cells = legal.cells; waiters = legal.waiters } in
    chosen (is_some s.down) _ _
    (chosen (is_late s.down graph) _ _
    (chosen (is_to_fail (one_less s).faults (proc_of r)) _ _ (reply_fine (counted (one_less s) r) wind _ (counted_legal (one_less s) r less) w tt)
    (late_fine (counted (one_less s) r) wind r (counted_legal (one_less s) r less) w q))
    (reply_fine s wind _ legal w tt))
    (chosen (is_connected s.graphs graph) _ _
    (chosen (is_to_fail s.faults (proc_of r)) _ _ (reply_fine (counted s r) wind _ (counted_legal s r legal) w tt) (now_fine (counted s r) wind graph r (counted_legal s r legal) w q))
    (reply_fine s wind _ legal w tt))

-- ---- controls, and runs

dropped_fine : (s : State) (graph : ℕ) → IsLegal s → IsFine (graph_dropped s graph)
dropped_fine s graph legal =
    let left = left_legal (gone_owners s graph) s.waiters legal.waiters in
    record {
      state = record { cells = legal.cells; waiters = left_legal (freed_owners s graph) (left_waiting s.waiters (gone_owners s graph)) left };
      outs = each_both (IsOutKind true) _ _ (answered_legal (λ v. Gone) gone_is_legal (gone_owners s graph) s.waiters legal.waiters)
          (answered_legal (λ v. granted s.store.cells v.cells) (λ v few. grant_legal s.store.cells v.cells legal.cells few) (freed_owners s graph) (left_waiting s.waiters (gone_owners s graph)) left);
    }

input_fine : (s : State) (x : Input) → IsLegal s → IsInput x → IsFine (input_served s x)
input_fine s (Request wind graph r) legal i = request_fine s wind graph r legal i.0 i.2
input_fine s (Down serve) legal i =
    record { state = record { cells = legal.cells; waiters = tt }; outs = (tt, answered_legal (λ v. Gone) gone_is_legal (owners (waiting s.locks)) s.waiters legal.waiters) }
input_fine s Up legal i = record { state = record { cells = legal.cells; waiters = legal.waiters }; outs = (tt, tt) }
input_fine s (Connect graph version) legal i =
    let d = dropped_fine s graph legal in
    chosen (is_some s.down) _ _ (record { state = legal; outs = tt })
    (record {
      state = record { cells = d.state.cells; waiters = d.state.waiters };
      outs = each_both (IsOutKind true) _ _ d.outs ((i.0, (let one : version ≡ 1 = i.1 in omega (arith, one))), tt);
    })
input_fine s (Disconnect graph) legal i =
    let d = dropped_fine s graph legal in
    record { state = record { cells = d.state.cells; waiters = d.state.waiters }; outs = d.outs }
input_fine s (FaultAt p number) legal i = record { state = record { cells = legal.cells; waiters = legal.waiters }; outs = tt }

-- the place at which bytes stop being an input is a unit
abbrev wrong_place : Message Input → ℕ
wrong_place (Whole x) = 0
wrong_place (Wrong place) = place

place_fits : (n : ℕ) (r : Result (Input × List ℕ) Fault) → IsUnit (wrong_place (message_of n (decoded_by n r)))
place_fits n (Ok p) = by_test (min (n - length p.1) 4294967295 == n)
  where
    by_test : (b : Bool) → IsUnit (wrong_place (if b then Whole p.0 else Wrong (min (n - length p.1) 4294967295)))
    by_test true = omega arith
    by_test false = omega arith
place_fits n (Err (fault.Wrong left)) = omega arith
place_fits n (Err fault.Short) = omega arith
place_fits n (Err (fault.Memory error)) = omega arith

read_fits : (bytes : List ℕ) → IsUnit (wrong_place (input_in bytes))
unfolding input_in
read_fits bytes = place_fits (length bytes) (input_at bytes)

message_fine : (s : State) (bytes : List ℕ) → IsLegal s → IsFine (served s (input_in bytes))
message_fine s bytes legal = by_case (input_in bytes) refl
  where
    by_case : (m : Message Input) → input_in bytes ≡ m → IsFine (served s m)
    by_case (Whole x) e = input_fine s x legal (input_is_encoded bytes x e).0
    by_case (Wrong place) e = record { state = legal; outs = (subst IsUnit (ap wrong_place e) (read_fits bytes), tt) }

taken_each : (taken : ℕ) (kinds : List OutKind) → Each (IsOutKind true) kinds → Each (λ o. IsOutKind true o.kind) (with_taken taken kinds)
taken_each taken [] all = tt
taken_each taken (k ∷ kinds) all = (all.0, taken_each taken kinds all.1)

from_fine : (s : State) (before : ℕ) (xs : List (List ℕ)) → IsLegal s → Each (λ o. IsOutKind true o.kind) (outputs_from s before xs)
from_fine s before [] legal = tt
from_fine s before (x ∷ xs) legal =
    let one = message_fine s x legal in
    each_both (λ (o : Output). IsOutKind true o.kind) (with_taken (before + 1) (served s (input_in x)).outs) (outputs_from (served s (input_in x)).state (before + 1) xs)
    (taken_each (before + 1) (served s (input_in x)).outs one.outs) (from_fine (served s (input_in x)).state (before + 1) xs one.state)

pub outputs_encoded : OutputsAreEncoded
outputs_encoded journal = from_fine start 0 journal (record { cells = root_kept; waiters = tt })

state_fine : (s : State) (xs : List (List ℕ)) → IsLegal s → IsLegal (state_from s xs)
state_fine s [] legal = legal
state_fine s (x ∷ xs) legal = state_fine (served s (input_in x)).state xs (message_fine s x legal).state

pub cells_are_kept : CellsAreKept
cells_are_kept journal = (state_fine start journal (record { cells = root_kept; waiters = tt })).cells
