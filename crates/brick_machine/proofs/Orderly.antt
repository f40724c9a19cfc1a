-- Each request that waits has one waiter with its cells, and nobody else has one, after every journal.
use Rattle.std.proofs.Common.{◌≡◌, ◌∙◌, ◌++◌, ◌∷◌, cond, ℕ, Bool, true, false, List, [], length, drop, refl, ap, sym, subst, append-nil}
use Rattle.std.specs.Prelude.{Option, is_some, if◌then◌else◌}
use Rattle.std.specs.List.{filter}
use Rattle.fop_types.specs.declared.cells.Cell.{Cell}
use Rattle.fop_types.specs.declared.messages.BrickReq.{BrickReq}
use Rattle.fop_types.specs.declared.messages.BrickReq.TheVariants as req
use Rattle.fop_types.specs.declared.messages.Input.{Input}
use Rattle.fop_types.specs.declared.messages.Input.TheVariants.{Request, Down, Up, Connect, Disconnect, FaultAt}
use Rattle.wire_messages.specs.Messages.{input_in}
use Rattle.wire_messages.specs.declared.messages.Message.{Message}
use Rattle.wire_messages.specs.declared.messages.Message.TheVariants.{Whole, Wrong}
use Rattle.brick_locks.specs.Locks.{request, owners, is_known, is_kept_by, is_of, holds, waiting, freed, gone, OwnersDiffer}
use Rattle.brick_locks.specs.Leaving.{other_owner, other_graph, is_owner, released, freed_by}
use Rattle.brick_locks.specs.declared.owner.Owner.{Owner}
use Rattle.brick_locks.specs.declared.request.Request.{Request as Asked}
use Rattle.brick_machine.specs.Connections.{is_good, is_connected}
use Rattle.brick_machine.specs.Waiting.{Waiting, with_waiter}
use Rattle.brick_machine.specs.State.{proc_of, is_to_fail, start}
use Rattle.brick_machine.specs.Locking.{Served, left_waiting, asked, unlocked, gone_owners, freed_owners, graph_dropped}
use Rattle.brick_machine.specs.Serving.{owner_of, served_now, counted, is_late, one_less, request_served}
use Rattle.brick_machine.specs.Machine.{input_served, served, state_from, state_of}
use Rattle.brick_machine.specs.Waits.{waiter_cells, request_cells, IsOrderly}
use Rattle.brick_machine.specs.Answered.{EachWaitsOnce}
use Rattle.brick_machine.specs.declared.state.State.{State}
use Rattle.brick_machine.specs.declared.waiters.Waiter.{Waiter}
use Rattle.brick_machine.proofs.Owners.{one_owner, owner_itself, with_own, with_other, left_cells, drop_whole, none_waits}
use Rattle.brick_machine.proofs.Leaving.{differ_last, differ_fewer, cells_both, none_waiting, waiting_push, after_leaving, holder_is_not_gone}

abbrev AreThose : Waiting → List Asked → Type 0
AreThose waiters locks = (owner : Owner) → waiter_cells owner waiters ≡ request_cells owner (waiting locks)

-- ---- a lock is asked

module _ (locks : List Asked) (waiters : Waiting) (o : Owner) (shared : Bool) (those : List Cell) (same : AreThose waiters locks) where
  abbrev new : Asked
  new = request o those shared

  pushed : (p : Owner) (kept : Bool) → is_kept_by locks new ≡ kept → request_cells p (waiting (locks ++ new ∷ [])) ≡ waiter_cells p waiters ++ request_cells p (cond kept (new ∷ []) [])
  pushed p kept h =
      ap (λ (l : List Asked). request_cells p l) (waiting_push [] locks new)
      ∙ cells_both p (waiting locks) (cond (is_kept_by locks new) (new ∷ []) [])
      ∙ ap (λ (l : List (List Cell)). l ++ request_cells p (cond (is_kept_by locks new) (new ∷ []) [])) (sym (same p))
      ∙ ap (λ (b : Bool). waiter_cells p waiters ++ request_cells p (cond b (new ∷ []) [])) h

  granted_same : is_kept_by locks new ≡ false → AreThose waiters (locks ++ new ∷ [])
  granted_same h p = sym (pushed p false h ∙ append-nil (waiter_cells p waiters))

  queued_same : (w : Waiter) → w.cells ≡ those → is_known o locks ≡ false → is_kept_by locks new ≡ true → AreThose (with_waiter waiters o w) (locks ++ new ∷ [])
  queued_same w is fresh h p = by_owner (is_owner p o) refl
    where
      none : waiter_cells o waiters ≡ []
      none = same o ∙ none_waiting o [] locks fresh

      by_owner : (b : Bool) → is_owner p o ≡ b → waiter_cells p (with_waiter waiters o w) ≡ request_cells p (waiting (locks ++ new ∷ []))
      by_owner true e =
          ap (λ (q : Owner). waiter_cells q (with_waiter waiters o w)) (one_owner p o e)
          ∙ with_own o w waiters none ∙ ap (λ (c : List Cell). c ∷ []) is
          ∙ ap (λ (b : Bool). if b then those ∷ [] else []) (sym e)
          ∙ ap (λ (l : List (List Cell)). l ++ request_cells p (new ∷ [])) (sym (ap (λ (q : Owner). waiter_cells q waiters) (one_owner p o e) ∙ none))
          ∙ sym (pushed p true h)
      by_owner false e =
          with_other p o e w waiters ∙ sym (append-nil (waiter_cells p waiters))
          ∙ ap (λ (b : Bool). waiter_cells p waiters ++ (if b then those ∷ [] else [])) (sym e)
          ∙ sym (pushed p true h)

-- ---- locks leave

module _ (locks : List Asked) (waiters : Waiting) (differ : OwnersDiffer locks) (same : AreThose waiters locks) where
  freed_same : (stays : Asked → Bool) → gone stays locks ≡ [] → AreThose (left_waiting waiters (owners (freed stays locks))) (filter stays locks)
  freed_same stays none p =
      left_cells p (freed stays locks) waiters
      ∙ ap (λ (l : List (List Cell)). drop (length (request_cells p (freed stays locks))) l) (same p)
      ∙ ap (λ (l : List Asked). drop (length (request_cells p (freed stays locks))) (drop (length (request_cells p l)) (request_cells p (waiting locks)))) (sym none)
      ∙ sym (after_leaving p stays [] locks differ)

  dropped_same : (stays : Asked → Bool) → AreThose (left_waiting (left_waiting waiters (owners (gone stays locks))) (owners (freed stays locks))) (filter stays locks)
  dropped_same stays p =
      left_cells p (freed stays locks) (left_waiting waiters (owners (gone stays locks)))
      ∙ ap (λ (l : List (List Cell)). drop (length (request_cells p (freed stays locks))) l)
      (left_cells p (gone stays locks) waiters ∙ ap (λ (l : List (List Cell)). drop (length (request_cells p (gone stays locks))) l) (same p))
      ∙ sym (after_leaving p stays [] locks differ)

  released_same : (o : Owner) (b : Bool) → holds o locks ≡ b → AreThose (left_waiting waiters (cond b (owners (freed (other_owner o) locks)) [])) (cond b (filter (other_owner o) locks) locks)
  released_same o true h = freed_same (other_owner o) (holder_is_not_gone o [] locks differ h)
  released_same o false h = same

  released_differ : (o : Owner) (b : Bool) → OwnersDiffer (cond b (filter (other_owner o) locks) locks)
  released_differ o true = differ_fewer (other_owner o) locks differ
  released_differ o false = differ

  -- all locks are dropped, and nobody waits
  pub all_left : left_waiting waiters (owners (waiting locks)) ≡ []
  all_left =
      none_waits (left_waiting waiters (owners (waiting locks)))
      (λ p. left_cells p (waiting locks) waiters ∙ ap (λ (l : List (List Cell)). drop (length (request_cells p (waiting locks))) l) (same p) ∙ drop_whole (request_cells p (waiting locks)))

-- ---- requests and controls

pub when : (P : Served → Type 0) (b : Bool) (x y : Served) → (b ≡ true → P x) → (b ≡ false → P y) → P (if b then x else y)
when P true x y p q = p refl
when P false x y p q = q refl

abbrev IsFine : Served → Type 0
IsFine by = IsOrderly by.state

pub stays_orderly : (s t : State) → t.locks ≡ s.locks → t.waiters ≡ s.waiters → IsOrderly s → IsOrderly t
stays_orderly s t locks waiters fine = record {
  owners = subst (λ (l : List Asked). OwnersDiffer l) (sym locks) fine.owners;
  waiters = (λ p. ap (λ (w : Waiting). waiter_cells p w) waiters ∙ fine.waiters p ∙ ap (λ (l : List Asked). request_cells p (waiting l)) (sym locks));
}

asked_orderly : (s : State) (wind : ℕ) (o : Owner) (shared : Bool) (those : List Cell) → is_known o s.locks ≡ false → IsOrderly s → IsFine (asked s wind o shared those)
asked_orderly s wind o shared those fresh fine =
    let differ : OwnersDiffer (s.locks ++ request o those shared ∷ []) = differ_last s.locks (request o those shared) fine.owners fresh in
    when IsFine (is_kept_by s.locks (request o those shared)) _ _
    (λ h. record { owners = differ; waiters = queued_same s.locks s.waiters o shared those fine.waiters (record { wind = wind; cells = those }) refl fresh h })
    (λ h. record { owners = differ; waiters = granted_same s.locks s.waiters o shared those fine.waiters h })

unlocked_orderly : (s : State) (wind : ℕ) (o : Owner) → IsOrderly s → IsFine (unlocked s wind o)
unlocked_orderly s wind o fine = record {
  owners = released_differ s.locks s.waiters fine.owners fine.waiters o (holds o s.locks);
  waiters = released_same s.locks s.waiters fine.owners fine.waiters o (holds o s.locks) refl;
}

now_orderly : (s : State) (wind graph : ℕ) (r : BrickReq) → IsOrderly s → IsFine (served_now s wind graph r)
now_orderly s wind graph (req.Lock call shared those) fine =
    when IsFine (is_known (owner_of graph call) s.locks) _ _ (λ h. fine) (λ h. asked_orderly s wind (owner_of graph call) shared those h fine)
now_orderly s wind graph (req.Unlock call) fine = unlocked_orderly s wind (owner_of graph call) fine
now_orderly s wind graph (req.Mark change those) fine = stays_orderly s _ refl refl fine
now_orderly s wind graph (req.Op change fd op) fine = when IsFine (is_good s.graphs graph fd) _ _ (λ h. stays_orderly s _ refl refl fine) (λ h. fine)
now_orderly s wind graph (req.Post change those mask) fine = stays_orderly s _ refl refl fine
now_orderly s wind graph (req.Fetch fd cell) fine = when IsFine (is_good s.graphs graph fd) _ _ (λ h. fine) (λ h. fine)
now_orderly s wind graph (req.Replace cell last content) fine = stays_orderly s _ refl refl fine
now_orderly s wind graph (req.Clear those mask) fine = stays_orderly s _ refl refl fine
now_orderly s wind graph (req.Settle those mask) fine = stays_orderly s _ refl refl fine
now_orderly s wind graph req.Index fine = fine
now_orderly s wind graph (req.Open fd gfid) fine = stays_orderly s _ refl refl fine
now_orderly s wind graph (req.Release fd) fine = when IsFine (is_good s.graphs graph fd) _ _ (λ h. stays_orderly s _ refl refl fine) (λ h. fine)

request_orderly : (s : State) (wind graph : ℕ) (r : BrickReq) → IsOrderly s → IsFine (request_served s wind graph r)
request_orderly s wind graph r fine =
    when IsFine (is_some s.down) _ _
    (λ h. when IsFine (is_late s.down graph) _ _
    (λ i. when IsFine (is_to_fail (one_less s).faults (proc_of r)) _ _ (λ j. stays_orderly s _ refl refl fine) (λ j. stays_orderly s _ refl refl fine)) (λ i. fine))
    (λ h. when IsFine (is_connected s.graphs graph) _ _
    (λ i. when IsFine (is_to_fail s.faults (proc_of r)) _ _ (λ j. stays_orderly s _ refl refl fine) (λ j. now_orderly (counted s r) wind graph r (stays_orderly s (counted s r) refl refl fine))) (λ i. fine))

dropped_orderly : (s : State) (graph : ℕ) → IsOrderly s → IsFine (graph_dropped s graph)
dropped_orderly s graph fine = record {
  owners = differ_fewer (other_graph graph) s.locks fine.owners;
  waiters = dropped_same s.locks s.waiters fine.owners fine.waiters (other_graph graph);
}

input_orderly : (s : State) (x : Input) → IsOrderly s → IsFine (input_served s x)
input_orderly s (Request wind graph r) fine = request_orderly s wind graph r fine
input_orderly s (Down serve) fine = record { owners = tt; waiters = (λ p. refl) }
input_orderly s Up fine = stays_orderly s _ refl refl fine
input_orderly s (Connect graph version) fine =
    when IsFine (is_some s.down) _ _ (λ h. fine) (λ h. stays_orderly (graph_dropped s graph).state _ refl refl (dropped_orderly s graph fine))
input_orderly s (Disconnect graph) fine = stays_orderly (graph_dropped s graph).state _ refl refl (dropped_orderly s graph fine)
input_orderly s (FaultAt p number) fine = stays_orderly s _ refl refl fine

pub message_orderly : (s : State) (m : Message Input) → IsOrderly s → IsOrderly (served s m).state
message_orderly s (Whole x) fine = input_orderly s x fine
message_orderly s (Wrong place) fine = fine

run_orderly : (s : State) (xs : List (List ℕ)) → IsOrderly s → IsOrderly (state_from s xs)
run_orderly s [] fine = fine
run_orderly s (x ∷ xs) fine = run_orderly (served s (input_in x)).state xs (message_orderly s (input_in x) fine)

pub start_orderly : IsOrderly start
start_orderly = record { owners = tt; waiters = (λ p. refl) }

pub each_waits_once : EachWaitsOnce
each_waits_once journal = run_orderly start journal start_orderly
