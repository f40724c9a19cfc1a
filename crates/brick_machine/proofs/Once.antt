-- Each request is answered once, or waits; a request that is no lock is answered at once.
use Rattle.std.proofs.Common.{◌≡◌, ◌≤◌, ◌∙◌, ◌+◌, ◌++◌, ◌∷◌, ℕ, Bool, true, false, List, [], length, take, refl, ap, sym, subst, arith}
use Rattle.std.specs.Prelude.{Option, Some, None, is_some, if◌then◌else◌}
use Rattle.std.specs.declared.cmp.Ordering.{Ordering}
use Rattle.std.specs.declared.cmp.Ordering.TheVariants.{Less, Equal, Greater}
use Rattle.std.specs.Ordering.{match_ordering, is_eq}
use Rattle.std.specs.Map.{lookup, remove_entry}
use Rattle.std.specs.BTreeMap.{insert_entry, is_at}
use Rattle.fop_types.specs.declared.cells.Cell.{Cell}
use Rattle.fop_types.specs.declared.messages.BrickReq.{BrickReq}
use Rattle.fop_types.specs.declared.messages.BrickReq.TheVariants as req
use Rattle.fop_types.specs.declared.messages.BrickRep.{BrickRep}
use Rattle.fop_types.specs.declared.messages.BrickRep.TheVariants.{Gone}
use Rattle.fop_types.specs.declared.messages.Input.{Input}
use Rattle.fop_types.specs.declared.messages.Input.TheVariants.{Request, Down, Up, Connect, Disconnect, FaultAt}
use Rattle.fop_types.specs.declared.messages.OutKind.{OutKind}
use Rattle.fop_types.specs.declared.messages.OutKind.TheVariants.{Connected}
use Rattle.fop_types.specs.declared.messages.Output.{Output}
use Rattle.wire_messages.specs.Messages.{input_in}
use Rattle.wire_messages.specs.declared.messages.Message.{Message}
use Rattle.wire_messages.specs.declared.messages.Message.TheVariants.{Whole, Wrong}
use Rattle.brick_locks.specs.Locks.{request, owners, is_known, is_kept_by, waiting}
use Rattle.brick_locks.specs.Leaving.{freed_by, is_owner}
use Rattle.brick_locks.specs.declared.owner.Owner.{Owner}
use Rattle.brick_machine.specs.Connections.{is_good, is_connected}
use Rattle.brick_machine.specs.Waiting.{Waiting, owner_cmp, waiter_of, without_waiter, with_waiter}
use Rattle.brick_machine.specs.State.{proc_of, is_to_fail, start}
use Rattle.brick_machine.specs.Locking.{Served, granted, to_waiter, answered, left_waiting, asked, gone_owners, freed_owners, graph_dropped}
use Rattle.brick_machine.specs.Serving.{owner_of, served_now, counted, is_late, one_less, request_served}
use Rattle.brick_machine.specs.Controls.{nothing, connected_by}
use Rattle.brick_machine.specs.Machine.{input_served, served, with_taken, state_from, outputs_from, state_of, outputs_of}
use Rattle.brick_machine.specs.Laws.{outputs_up_to}
use Rattle.brick_machine.specs.Waits.{waiter_cells, IsOrderly}
use Rattle.brick_machine.specs.Answered.{asked_by, answered_to, is_on, sum_of_inputs, sum_of_outputs, sum_of_waiters, times_asked, times_answered, times_waiting, EachAnsweredOnce, AnsweredInTurn, OutputsAreFew, is_lock, BeginsOn, AnsweredAtOnce}
use Rattle.brick_machine.specs.declared.state.State.{State}
use Rattle.brick_machine.specs.declared.waiters.Waiter.{Waiter}
use Rattle.brick_machine.proofs.Owners.{at_owner}
use Rattle.brick_machine.proofs.Leaving.{none_waiting}
use Rattle.brick_machine.proofs.Orderly.{when, all_left, message_orderly, start_orderly}
use Rattle.brick_machine.proofs.Taken.{outputs_by_taken}

-- nobody else waits for an owner without a waiter
none_there : (owner : Owner) (e : Owner × Waiter) (es : Waiting) → waiter_cells owner (e ∷ es) ≡ [] → (is_eq (owner_cmp owner e.0) ≡ false) × (waiter_cells owner es ≡ [])
none_there owner e es none = by_test (is_owner owner e.0) refl none
  where
    by_test : (b : Bool) → is_owner owner e.0 ≡ b → (if b then e.1.cells ∷ waiter_cells owner es else waiter_cells owner es) ≡ [] → (is_eq (owner_cmp owner e.0) ≡ false) × (waiter_cells owner es ≡ [])
    by_test true h empty = absurd cc
    by_test false h empty = (at_owner owner e.0 ∙ h, empty)

module _ (weight : Option ℕ → ℕ) where
  abbrev said : List OutKind → ℕ
  said [] = 0
  said (k ∷ ks) = weight (answered_to k) + said ks

  abbrev waits : Waiting → ℕ
  waits ws = sum_of_waiters weight ws

  said_both : (xs ys : List OutKind) → said (xs ++ ys) ≡ said xs + said ys
  said_both [] ys = omega arith
  said_both (k ∷ xs) ys = omega (arith, said_both xs ys)

  one_waiter : (rep : Waiter → BrickRep) (owner : Owner) (ws : Waiting) → said (to_waiter rep (waiter_of ws owner)) + waits (without_waiter ws owner) ≡ waits ws
  one_waiter rep owner [] = refl
  one_waiter rep owner (e ∷ es) = by_test (one_waiter rep owner es) (is_at (owner_cmp owner) e.0)
    where
      by_test : said (to_waiter rep (waiter_of es owner)) + waits (without_waiter es owner) ≡ waits es
          → (b : Bool) → said (to_waiter rep (if b then Some e.1 else waiter_of es owner)) + waits (if b then es else e ∷ without_waiter es owner) ≡ waits (e ∷ es)
      by_test rest true = omega arith
      by_test rest false = omega (arith, rest)

  all_waiters : (rep : Waiter → BrickRep) (those : List Owner) (ws : Waiting) → said (answered rep ws those) + waits (left_waiting ws those) ≡ waits ws
  all_waiters rep [] ws = omega arith
  all_waiters rep (o ∷ os) ws =
      omega (arith, said_both (to_waiter rep (waiter_of ws o)) (answered rep (without_waiter ws o) os), one_waiter rep o ws, all_waiters rep os (without_waiter ws o))

  one_more : (owner : Owner) (w : Waiter) (ws : Waiting) → waiter_cells owner ws ≡ [] → waits (with_waiter ws owner w) ≡ weight (Some w.wind) + waits ws
  one_more owner w [] none = refl
  one_more owner w (e ∷ es) none = by_order (λ h. one_more owner w es h) (none_there owner e es none) (owner_cmp owner e.0) refl
    where
      by_order : (waiter_cells owner es ≡ [] → waits (with_waiter es owner w) ≡ weight (Some w.wind) + waits es)
          → (is_eq (owner_cmp owner e.0) ≡ false) × (waiter_cells owner es ≡ [])
          → (r : Ordering) → owner_cmp owner e.0 ≡ r → waits (match_ordering r ((owner, w) ∷ e ∷ es) ((e.0, w) ∷ es) (e ∷ with_waiter es owner w)) ≡ weight (Some w.wind) + waits (e ∷ es)
      by_order rest two Less h = refl
      by_order rest two Equal h = absurd (let t : true ≡ false = sym (ap is_eq h) ∙ two.0 in cc)
      by_order rest two Greater h = omega (arith, rest two.1)

  -- So many asks pay for what was said and for what waits more than before; a control that puts out nothing of its own
  -- leaves its own over.
  abbrev IsPaid : ℕ → ℕ → State → Served → Type 0
  IsPaid asks over s by = said by.outs + waits by.state.waiters + over ≡ asks + waits s.waiters

  asked_paid : (s : State) (on : ℕ) (o : Owner) (shared : Bool) (those : List Cell) → is_known o s.locks ≡ false → IsOrderly s → IsPaid (weight (Some on)) 0 s (asked s on o shared those)
  asked_paid s on o shared those fresh fine =
      when (IsPaid (weight (Some on)) 0 s) (is_kept_by s.locks (request o those shared)) _ _
      (λ h. omega (arith, one_more o (record { wind = on; cells = those }) s.waiters (fine.waiters o ∙ none_waiting o [] s.locks fresh)))
      (λ h. omega arith)

  now_paid : (s : State) (on graph : ℕ) (r : BrickReq) → IsOrderly s → IsPaid (weight (Some on)) 0 s (served_now s on graph r)
  now_paid s on graph (req.Lock call shared those) fine =
      when (IsPaid (weight (Some on)) 0 s) (is_known (owner_of graph call) s.locks) _ _ (λ h. omega arith) (λ h. asked_paid s on (owner_of graph call) shared those h fine)
  now_paid s on graph (req.Unlock call) fine = omega (arith, all_waiters (λ v. granted s.store.cells v.cells) (freed_by (owner_of graph call) s.locks) s.waiters)
  now_paid s on graph (req.Mark change those) fine = omega arith
  now_paid s on graph (req.Op change fd op) fine = when (IsPaid (weight (Some on)) 0 s) (is_good s.graphs graph fd) _ _ (λ h. omega arith) (λ h. omega arith)
  now_paid s on graph (req.Post change those mask) fine = omega arith
  now_paid s on graph (req.Fetch fd cell) fine = when (IsPaid (weight (Some on)) 0 s) (is_good s.graphs graph fd) _ _ (λ h. omega arith) (λ h. omega arith)
  now_paid s on graph (req.Replace cell last content) fine = omega arith
  now_paid s on graph (req.Clear those mask) fine = omega arith
  now_paid s on graph (req.Settle those mask) fine = omega arith
  now_paid s on graph req.Index fine = omega arith
  now_paid s on graph (req.Open fd gfid) fine = omega arith
  now_paid s on graph (req.Release fd) fine = when (IsPaid (weight (Some on)) 0 s) (is_good s.graphs graph fd) _ _ (λ h. omega arith) (λ h. omega arith)

  request_paid : (s : State) (on graph : ℕ) (r : BrickReq) → IsOrderly s → IsPaid (weight (Some on)) 0 s (request_served s on graph r)
  request_paid s on graph r fine =
      when (IsPaid (weight (Some on)) 0 s) (is_some s.down) _ _
      (λ h. when (IsPaid (weight (Some on)) 0 s) (is_late s.down graph) _ _
      (λ i. when (IsPaid (weight (Some on)) 0 s) (is_to_fail (one_less s).faults (proc_of r)) _ _ (λ j. omega arith) (λ j. omega arith)) (λ i. omega arith))
      (λ h. when (IsPaid (weight (Some on)) 0 s) (is_connected s.graphs graph) _ _
      (λ i. when (IsPaid (weight (Some on)) 0 s) (is_to_fail s.faults (proc_of r)) _ _ (λ j. omega arith)
      (λ j. now_paid (counted s r) on graph r (record { owners = fine.owners; waiters = fine.waiters }))) (λ i. omega arith))

  dropped_paid : (s : State) (graph : ℕ) → IsPaid 0 0 s (graph_dropped s graph)
  dropped_paid s graph =
      omega (
        arith,
        said_both (answered (λ v. Gone) s.waiters (gone_owners s graph)) (answered (λ v. granted s.store.cells v.cells) (left_waiting s.waiters (gone_owners s graph)) (freed_owners s graph)),
        all_waiters (λ v. Gone) (gone_owners s graph) s.waiters,
        all_waiters (λ v. granted s.store.cells v.cells) (freed_owners s graph) (left_waiting s.waiters (gone_owners s graph)),
      )

  -- what a message leaves over
  abbrev over_of : State → Message Input → ℕ
  over_of s (Whole (Request on graph r)) = 0
  over_of s (Whole (Down serve)) = 0
  over_of s (Whole Up) = 0
  over_of s (Whole (Connect graph version)) = if is_some s.down then weight None else 0
  over_of s (Whole (Disconnect graph)) = weight None
  over_of s (Whole (FaultAt p number)) = weight None
  over_of s (Wrong place) = 0

  connected_paid : (s : State) (graph version : ℕ) (b : Bool)
      → IsPaid (weight None) (if b then weight None else 0) s (if b then nothing s else connected_by (graph_dropped s graph) graph version)
  connected_paid s graph version true = omega arith
  connected_paid s graph version false = omega (arith, dropped_paid s graph, said_both (graph_dropped s graph).outs (Connected graph version ∷ []))

  message_paid : (s : State) (m : Message Input) → IsOrderly s → IsPaid (weight (asked_by m)) (over_of s m) s (served s m)
  message_paid s (Whole (Request on graph r)) fine = request_paid s on graph r fine
  message_paid s (Whole (Down serve)) fine =
      omega (arith, all_waiters (λ v. Gone) (owners (waiting s.locks)) s.waiters, ap waits (all_left s.locks s.waiters fine.owners fine.waiters))
  message_paid s (Whole Up) fine = omega arith
  message_paid s (Whole (Connect graph version)) fine = connected_paid s graph version (is_some s.down)
  message_paid s (Whole (Disconnect graph)) fine = omega (arith, dropped_paid s graph)
  message_paid s (Whole (FaultAt p number)) fine = omega arith
  message_paid s (Wrong place) fine = omega arith

  said_of : (taken : ℕ) (kinds : List OutKind) (rest : List Output) → sum_of_outputs weight (with_taken taken kinds ++ rest) ≡ said kinds + sum_of_outputs weight rest
  said_of taken [] rest = omega arith
  said_of taken (k ∷ kinds) rest = omega (arith, said_of taken kinds rest)

  abbrev over_from : State → List (List ℕ) → ℕ
  over_from s [] = 0
  over_from s (x ∷ xs) = over_of s (input_in x) + over_from (served s (input_in x)).state xs

  run_paid : (s : State) (before : ℕ) (xs : List (List ℕ)) → IsOrderly s
      → sum_of_outputs weight (outputs_from s before xs) + waits (state_from s xs).waiters + over_from s xs ≡ sum_of_inputs weight xs + waits s.waiters
  run_paid s before [] fine = omega arith
  run_paid s before (x ∷ xs) fine =
      omega (
        arith,
        said_of (before + 1) (served s (input_in x)).outs (outputs_from (served s (input_in x)).state (before + 1) xs),
        message_paid s (input_in x) fine,
        run_paid (served s (input_in x)).state (before + 1) xs (message_orderly s (input_in x) fine),
      )

  -- a weight of winds alone leaves nothing over
  none_over : weight None ≡ 0 → (s : State) (m : Message Input) → over_of s m ≡ 0
  none_over none s (Whole (Request on graph r)) = refl
  none_over none s (Whole (Down serve)) = refl
  none_over none s (Whole Up) = refl
  none_over none s (Whole (Connect graph version)) = by_test (is_some s.down)
    where
      by_test : (b : Bool) → (if b then weight None else 0) ≡ 0
      by_test true = none
      by_test false = refl
  none_over none s (Whole (Disconnect graph)) = none
  none_over none s (Whole (FaultAt p number)) = none
  none_over none s (Wrong place) = refl

  none_over_from : weight None ≡ 0 → (s : State) (xs : List (List ℕ)) → over_from s xs ≡ 0
  none_over_from none s [] = refl
  none_over_from none s (x ∷ xs) = omega (arith, none_over none s (input_in x), none_over_from none (served s (input_in x)).state xs)

-- ---- the laws

whole : (journal : List (List ℕ)) (wind : ℕ) → times_answered wind (outputs_of journal) + times_waiting wind (state_of journal).waiters ≡ times_asked wind journal
whole journal wind = omega (arith, run_paid (is_on wind) start 0 journal start_orderly, none_over_from (is_on wind) refl start journal)

pub each_answered_once : EachAnsweredOnce
each_answered_once journal n wind =
    ap (λ (os : List Output). times_answered wind os + times_waiting wind (state_of (take n journal)).waiters) (sym (outputs_by_taken journal n)) ∙ whole (take n journal) wind

pub answered_in_turn : AnsweredInTurn
answered_in_turn journal n wind none = omega (arith, each_answered_once journal n wind, none)

abbrev one_each : Option ℕ → ℕ
one_each wind = 1

output_count : (os : List Output) → sum_of_outputs one_each os ≡ length os
output_count [] = refl
output_count (o ∷ os) = omega (arith, output_count os)

waiter_count : (ws : Waiting) → sum_of_waiters one_each ws ≡ length ws
waiter_count [] = refl
waiter_count (e ∷ es) = omega (arith, waiter_count es)

input_count : (xs : List (List ℕ)) → sum_of_inputs one_each xs ≡ length xs
input_count [] = refl
input_count (x ∷ xs) = omega (arith, input_count xs)

pub outputs_are_few : OutputsAreFew
outputs_are_few journal =
    omega (arith, run_paid one_each start 0 journal start_orderly, output_count (outputs_of journal), waiter_count (state_of journal).waiters, input_count journal)

-- ---- at once

picked : (wind : ℕ) (b : Bool) (x y : Served) → BeginsOn wind x.outs → BeginsOn wind y.outs → BeginsOn wind (if b then x else y).outs
picked wind true x y p q = p
picked wind false x y p q = q

now_begins : (s : State) (wind graph : ℕ) (r : BrickReq) → is_lock r ≡ false → BeginsOn wind (served_now s wind graph r).outs
now_begins s wind graph (req.Lock call shared those) h = absurd cc
now_begins s wind graph (req.Unlock call) h = refl
now_begins s wind graph (req.Mark change those) h = refl
now_begins s wind graph (req.Op change fd op) h = picked wind (is_good s.graphs graph fd) _ _ refl refl
now_begins s wind graph (req.Post change those mask) h = refl
now_begins s wind graph (req.Fetch fd cell) h = picked wind (is_good s.graphs graph fd) _ _ refl refl
now_begins s wind graph (req.Replace cell last content) h = refl
now_begins s wind graph (req.Clear those mask) h = refl
now_begins s wind graph (req.Settle those mask) h = refl
now_begins s wind graph req.Index h = refl
now_begins s wind graph (req.Open fd gfid) h = refl
now_begins s wind graph (req.Release fd) h = picked wind (is_good s.graphs graph fd) _ _ refl refl

pub at_once : AnsweredAtOnce
at_once s wind graph r h =
    picked wind (is_some s.down) _ _
    (picked wind (is_late s.down graph) _ _ (picked wind (is_to_fail (one_less s).faults (proc_of r)) _ _ refl refl) refl)
    (picked wind (is_connected s.graphs graph) _ _ (picked wind (is_to_fail s.faults (proc_of r)) _ _ refl (now_begins (counted s r) wind graph r h)) refl)
