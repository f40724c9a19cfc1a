-- No unlock is to fail, since no input names one.
use Rattle.std.proofs.Common.{◌≡◌, ◌≢◌, ◌∙◌, ◌∷◌, ◌+◌, ◌&&◌, ◌||◌, ◌==◌, cond, ℕ, Bool, true, false, List, [], refl, ap, sym, subst}
use Rattle.std.specs.Prelude.{Option, is_some, if◌then◌else◌}
use Rattle.std.specs.declared.cmp.Ordering.{Ordering}
use Rattle.std.specs.declared.cmp.Ordering.TheVariants.{Less, Equal, Greater}
use Rattle.std.specs.Ordering.{match_ordering, is_eq, nat_cmp}
use Rattle.std.specs.List.{list_any}
use Rattle.std.specs.BTreeMap.{is_at}
use Rattle.std.specs.BTreeSet.{insert_key}
use Rattle.std.specs.Set.{remove_key}
use Rattle.fop_types.specs.Bounds.{Each}
use Rattle.fop_types.specs.declared.messages.BrickReq.{BrickReq}
use Rattle.fop_types.specs.declared.messages.BrickReq.TheVariants as req
use Rattle.fop_types.specs.declared.messages.Input.{Input}
use Rattle.fop_types.specs.declared.messages.Input.TheVariants.{Request, Down, Up, Connect, Disconnect, FaultAt}
use Rattle.fop_types.specs.declared.messages.Proc.{Proc}
use Rattle.fop_types.specs.declared.messages.Proc.TheVariants as proc
use Rattle.wire_xdr.specs.WireText.{proc_number, IsInput}
use Rattle.wire_messages.specs.Messages.{input_in}
use Rattle.wire_messages.specs.declared.messages.Message.{Message}
use Rattle.wire_messages.specs.declared.messages.Message.TheVariants.{Whole, Wrong}
use Rattle.wire_messages.proofs.ReadBack.{input_is_encoded}
use Rattle.brick_locks.specs.Locks.{request, is_known, is_kept_by}
use Rattle.brick_machine.specs.Connections.{is_good, is_connected}
use Rattle.brick_machine.specs.Faulting.{Faulting}
use Rattle.brick_machine.specs.State.{place_of, proc_of, failing_cmp, request_after, is_to_fail, start}
use Rattle.brick_machine.specs.Locking.{Served, graph_dropped}
use Rattle.brick_machine.specs.Serving.{owner_of, served_now, counted, is_late, one_less, request_served}
use Rattle.brick_machine.specs.Machine.{input_served, served, state_from}
use Rattle.brick_machine.specs.Laws.{UnlocksDoNotFail}
use Rattle.brick_machine.specs.declared.faults.Failing.{Failing}
use Rattle.brick_machine.specs.declared.state.State.{State}
use Rattle.brick_machine.proofs.Owners.{same_number, tied_both}
use Rattle.brick_machine.proofs.Orderly.{when}

abbrev NoUnlock : List Failing → Type 0
NoUnlock fs = Each (λ f. (1 == f.place) ≡ false) fs

not_there : (n : ℕ) (fs : List Failing) → NoUnlock fs → list_any (is_at (failing_cmp (record { place = 1; number = n }))) fs ≡ false
not_there n [] none = refl
not_there n (f ∷ fs) none =
    ap (λ (b : Bool). b || list_any (is_at (failing_cmp (record { place = 1; number = n }))) fs)
    (tied_both (nat_cmp 1 f.place) (nat_cmp n f.number) ∙ ap (λ (b : Bool). b && is_eq (nat_cmp n f.number)) (same_number 1 f.place ∙ none.0))
    ∙ not_there n fs none.1

put : (f : Failing) (fs : List Failing) → (1 == f.place) ≡ false → NoUnlock fs → NoUnlock (insert_key failing_cmp fs f)
put f [] one none = (one, tt)
put f (g ∷ fs) one none = by_order (put f fs one none.1) (failing_cmp f g)
  where
    by_order : NoUnlock (insert_key failing_cmp fs f) → (r : Ordering) → NoUnlock (match_ordering r (f ∷ g ∷ fs) (g ∷ fs) (g ∷ insert_key failing_cmp fs f))
    by_order rest Less = (one, none)
    by_order rest Equal = none
    by_order rest Greater = (none.0, rest)

taken_out : (test : Failing → Bool) (fs : List Failing) → NoUnlock fs → NoUnlock (remove_key test fs)
taken_out test [] none = tt
taken_out test (g ∷ fs) none = by_test (taken_out test fs none.1) (test g)
  where
    by_test : NoUnlock (remove_key test fs) → (b : Bool) → NoUnlock (cond b fs (g ∷ remove_key test fs))
    by_test rest true = none.1
    by_test rest false = (none.0, rest)

other_place : (p : Proc) → proc_number p ≢ 2 → (1 == place_of p) ≡ false
other_place proc.Lock other = refl
other_place proc.Unlock other = absurd (other refl)
other_place proc.Mark other = refl
other_place proc.Op other = refl
other_place proc.Post other = refl
other_place proc.Fetch other = refl
other_place proc.Replace other = refl
other_place proc.Clear other = refl
other_place proc.Settle other = refl
other_place proc.Index other = refl
other_place proc.Open other = refl
other_place proc.Release other = refl

-- ---- what is served

abbrev IsSafe : Served → Type 0
IsSafe by = NoUnlock by.state.faults.failing

now_keeps : (s : State) (wind graph : ℕ) (r : BrickReq) → NoUnlock s.faults.failing → IsSafe (served_now s wind graph r)
now_keeps s wind graph (req.Lock call shared those) none =
    when IsSafe (is_known (owner_of graph call) s.locks) _ _ (λ h. none)
    (λ h. when IsSafe (is_kept_by s.locks (request (owner_of graph call) those shared)) _ _ (λ i. none) (λ i. none))
now_keeps s wind graph (req.Unlock call) none = none
now_keeps s wind graph (req.Mark change those) none = none
now_keeps s wind graph (req.Op change fd op) none = when IsSafe (is_good s.graphs graph fd) _ _ (λ h. none) (λ h. none)
now_keeps s wind graph (req.Post change those mask) none = none
now_keeps s wind graph (req.Fetch fd cell) none = when IsSafe (is_good s.graphs graph fd) _ _ (λ h. none) (λ h. none)
now_keeps s wind graph (req.Replace cell last content) none = none
now_keeps s wind graph (req.Clear those mask) none = none
now_keeps s wind graph (req.Settle those mask) none = none
now_keeps s wind graph req.Index none = none
now_keeps s wind graph (req.Open fd gfid) none = none
now_keeps s wind graph (req.Release fd) none = when IsSafe (is_good s.graphs graph fd) _ _ (λ h. none) (λ h. none)

counted_keeps : (s : State) (r : BrickReq) → NoUnlock s.faults.failing → NoUnlock (counted s r).faults.failing
counted_keeps s r none = taken_out (is_at (failing_cmp (request_after s.faults (proc_of r) 1))) s.faults.failing none

request_keeps : (s : State) (wind graph : ℕ) (r : BrickReq) → NoUnlock s.faults.failing → IsSafe (request_served s wind graph r)
request_keeps s wind graph r none =
    when IsSafe (is_some s.down) _ _
    (λ h. when IsSafe (is_late s.down graph) _ _
    (λ i. when IsSafe (is_to_fail (one_less s).faults (proc_of r)) _ _ (λ j. counted_keeps (one_less s) r none) (λ j. counted_keeps (one_less s) r none)) (λ i. none))
    (λ h. when IsSafe (is_connected s.graphs graph) _ _
    (λ i. when IsSafe (is_to_fail s.faults (proc_of r)) _ _ (λ j. counted_keeps s r none) (λ j. now_keeps (counted s r) wind graph r (counted_keeps s r none))) (λ i. none))

input_keeps : (s : State) (x : Input) → IsInput x → NoUnlock s.faults.failing → IsSafe (input_served s x)
input_keeps s (Request wind graph r) legal none = request_keeps s wind graph r none
input_keeps s (Down serve) legal none = none
input_keeps s Up legal none = none
input_keeps s (Connect graph version) legal none = when IsSafe (is_some s.down) _ _ (λ h. none) (λ h. none)
input_keeps s (Disconnect graph) legal none = none
input_keeps s (FaultAt p number) legal none = put (request_after s.faults p number) s.faults.failing (other_place p legal.0) none

message_keeps : (s : State) (bytes : List ℕ) → NoUnlock s.faults.failing → IsSafe (served s (input_in bytes))
message_keeps s bytes none = by_case (input_in bytes) refl
  where
    by_case : (m : Message Input) → input_in bytes ≡ m → IsSafe (served s m)
    by_case (Whole x) e = input_keeps s x (input_is_encoded bytes x e).0 none
    by_case (Wrong place) e = none

run_keeps : (s : State) (xs : List (List ℕ)) → NoUnlock s.faults.failing → NoUnlock (state_from s xs).faults.failing
run_keeps s [] none = none
run_keeps s (x ∷ xs) none = run_keeps (served s (input_in x)).state xs (message_keeps s x none)

pub unlocks_do_not_fail : UnlocksDoNotFail
unlocks_do_not_fail journal = not_there _ (state_from start journal).faults.failing (run_keeps start journal tt)
