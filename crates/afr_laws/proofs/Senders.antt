-- What holds of every request at a brick holds after each of its moves, where it holds of the inputs that it takes.
use Rattle.std.proofs.Common.{◌≡◌, ℕ, Bool, true, false, sym, subst}
use Rattle.std.specs.Prelude.{if◌then◌else◌, List, [], ◌∷◌, ◌++◌, not}
use Rattle.afr_machine.specs.Replicas.{with_at}
use Rattle.afr_machine.specs.Copies.{Store}
use Rattle.afr_machine.specs.Requests.{Sender, Ask, Control, Input, Answer, Output}
use Rattle.afr_machine.specs.Requests.Ask.{Lock, Unlock, Mark, Op, Post, Fetch, Replace, Clear, Settle, Index, Open, Release, OpenFirst}
use Rattle.afr_machine.specs.Requests.Input.{Asked, Steered}
use Rattle.afr_machine.specs.Requests.Answer.{Gone, Done}
use Rattle.afr_machine.specs.Requests.Output.{Answered, Closed, Opened, Connected}
use Rattle.afr_machine.specs.Locks.{BrickLock, conflicts_among, those, is_of_txn, is_of_graph, Queue, granted_in_order}
use Rattle.afr_machine.specs.Bricks.{Power, Brick, ask_of, grants_of, gones_of, locked, requeued, unlocked, without_graph, answering, with_stored, served_up, served_by, is_up, steered}
use Rattle.afr_machine.specs.Bricks.Power.{IsUp, IsDown}
use Rattle.afr_machine.specs.Moves.{BrickMove}
use Rattle.afr_machine.specs.Moves.BrickMove.{Stays, Takes, Hands, Serves, Refuses, GivesUp, Steers}
use Rattle.afr_laws.specs.Senders.{EachLock, EachInput, EachOutput, EachAt, Each}

module _ (P : Sender → Ask → Type 0) where
  -- ---- lists

  pub locks_append : (xs ys : List BrickLock) → EachLock P xs → EachLock P ys → EachLock P (xs ++ ys)
  locks_append [] ys p q = q
  locks_append (x ∷ xs) ys p q = (p.0, locks_append xs ys p.1 q)

  pub inputs_append : (xs ys : List Input) → EachInput P xs → EachInput P ys → EachInput P (xs ++ ys)
  inputs_append [] ys p q = q
  inputs_append (Asked by ask ∷ xs) ys p q = (p.0, inputs_append xs ys p.1 q)
  inputs_append (Steered control ∷ xs) ys p q = inputs_append xs ys p q

  pub outputs_append : (xs ys : List Output) → EachOutput P xs → EachOutput P ys → EachOutput P (xs ++ ys)
  outputs_append [] ys p q = q
  outputs_append (Answered by ask answer ∷ xs) ys p q = (p.0, outputs_append xs ys p.1 q)
  outputs_append (Closed ∷ xs) ys p q = outputs_append xs ys p q
  outputs_append (Opened ∷ xs) ys p q = outputs_append xs ys p q
  outputs_append (Connected graph ∷ xs) ys p q = outputs_append xs ys p q

  pub those_each : (passes : BrickLock → Bool) (xs : List BrickLock) → EachLock P xs → EachLock P (those passes xs)
  those_each passes [] p = tt
  those_each passes (x ∷ xs) p = by_case (passes x) (those_each passes xs p.1) where
    by_case : (b : Bool) → EachLock P (those passes xs) → EachLock P (if b then x ∷ those passes xs else those passes xs)
    by_case true rest = (p.0, rest)
    by_case false rest = rest

  pub grants_each : (store : Store) (xs : List BrickLock) → EachLock P xs → EachOutput P (grants_of store xs)
  grants_each store [] p = tt
  grants_each store (x ∷ xs) p = (p.0, grants_each store xs p.1)

  pub gones_each : (xs : List BrickLock) → EachLock P xs → EachOutput P (gones_of xs)
  gones_each [] p = tt
  gones_each (x ∷ xs) p = (p.0, gones_each xs p.1)

  -- ---- the queue of locks

  pub record EachInQueue (queue : Queue) : Type 0 where
    pub held : EachLock P queue.held
    pub waiting : EachLock P queue.waiting
    pub granted : EachLock P queue.granted

  pub queue_each : (held still ws : List BrickLock) → EachLock P held → EachLock P still → EachLock P ws → EachInQueue (granted_in_order held still ws)
  queue_each held still [] h s w = record { held = h; waiting = s; granted = tt }
  queue_each held still (l ∷ ls) h s w =
      by_case (conflicts_among (held ++ still) l)
      (queue_each held (still ++ l ∷ []) ls h (locks_append still (l ∷ []) s (w.0, tt)) w.1)
      (queue_each (held ++ l ∷ []) still ls (locks_append held (l ∷ []) h (w.0, tt)) s w.1)
    where
      by_case : (b : Bool) → EachInQueue (granted_in_order held (still ++ l ∷ []) ls) → EachInQueue (granted_in_order (held ++ l ∷ []) still ls) →
          EachInQueue (if b then granted_in_order held (still ++ l ∷ []) ls else (let q = granted_in_order (held ++ l ∷ []) still ls in record q { granted = l ∷ q.granted }))
      by_case true waits granted = waits
      by_case false waits granted = record { held = granted.held; waiting = granted.waiting; granted = (w.0, granted.granted) }

module _ (P : Sender → Ask → Type 0) (L : List Input → Type 0) where
  requeued_each : (queue : Queue) (first : List Output) (b : Brick) → EachInQueue P queue → EachOutput P first → EachAt P L b → EachAt P L (requeued queue first b)
  requeued_each queue first b q f e = record {
    held = q.held;
    waiting = q.waiting;
    line = e.line;
    outputs = outputs_append P b.outputs (first ++ grants_of b.store queue.granted) e.outputs (outputs_append P first (grants_of b.store queue.granted) f (grants_each P b.store queue.granted q.granted));
  }

  without_graph_each : (g : ℕ) (b : Brick) → EachAt P L b → EachAt P L (without_graph g b)
  without_graph_each g b e =
      requeued_each _ (gones_of (those (is_of_graph g) b.waiting)) b
      (queue_each P (those (λ l. not (is_of_graph g l)) b.held) [] (those (λ l. not (is_of_graph g l)) b.waiting) (those_each P _ b.held e.held) tt (those_each P _ b.waiting e.waiting))
      (gones_each P (those (is_of_graph g) b.waiting) (those_each P (is_of_graph g) b.waiting e.waiting)) e

  -- ---- the front of the line, the line without it

  pub answering_each : (by : Sender) (ask : Ask) (answer : Answer) (b : Brick) → P by ask → EachAt P L b → EachAt P L (answering by ask answer b)
  answering_each by ask answer b p e = record { held = e.held; waiting = e.waiting; line = e.line; outputs = outputs_append P b.outputs (Answered by ask answer ∷ []) e.outputs (p, tt) }

  locked_each : (lock : BrickLock) (b : Brick) → P lock.by (ask_of lock) → EachAt P L b → EachAt P L (locked lock b)
  locked_each lock b p e = by_case (conflicts_among (b.held ++ b.waiting) lock) where
    by_case : (c : Bool) → EachAt P L (if c then record b { waiting = b.waiting ++ lock ∷ [] } else record b { held = b.held ++ lock ∷ []; outputs = b.outputs ++ grants_of b.store (lock ∷ []) })
    by_case true = record { held = e.held; waiting = locks_append P b.waiting (lock ∷ []) e.waiting (p, tt); line = e.line; outputs = e.outputs }
    by_case false = record {
      held = locks_append P b.held (lock ∷ []) e.held (p, tt);
      waiting = e.waiting;
      line = e.line;
      outputs = outputs_append P b.outputs (grants_of b.store (lock ∷ [])) e.outputs (p, tt);
    }

  unlocked_each : (by : Sender) (b : Brick) → P by Unlock → EachAt P L b → EachAt P L (unlocked by b)
  unlocked_each by b p e =
      requeued_each _ (Answered by Unlock Done ∷ []) b
      (queue_each P (those (λ l. not (is_of_txn by.txn l)) b.held) [] b.waiting (those_each P _ b.held e.held) tt e.waiting) (p, tt) e

  with_stored_each : (by : Sender) (ask : Ask) (b : Brick) → P by ask → EachAt P L b → EachAt P L (with_stored by ask b)
  with_stored_each by ask b p e = answering_each by ask _ _ p (record { held = e.held; waiting = e.waiting; line = e.line; outputs = e.outputs })

  served_up_each : (by : Sender) (ask : Ask) (b : Brick) → P by ask → EachAt P L b → EachAt P L (served_up by ask b)
  served_up_each by (Lock shared cells) b p e = locked_each (record { by = by; shared = shared; cells = cells }) b p e
  served_up_each by Unlock b p e = unlocked_each by b p e
  served_up_each by (Mark change cells) b p e = with_stored_each by (Mark change cells) b p e
  served_up_each by (Op change op) b p e = with_stored_each by (Op change op) b p e
  served_up_each by (Post change cells accused) b p e = with_stored_each by (Post change cells accused) b p e
  served_up_each by (Fetch cell) b p e = with_stored_each by (Fetch cell) b p e
  served_up_each by (Replace cell found) b p e = with_stored_each by (Replace cell found) b p e
  served_up_each by (Clear cells who) b p e = with_stored_each by (Clear cells who) b p e
  served_up_each by (Settle change cells accused) b p e = with_stored_each by (Settle change cells accused) b p e
  served_up_each by Index b p e = with_stored_each by Index b p e
  served_up_each by Open b p e = with_stored_each by Open b p e
  served_up_each by Release b p e = with_stored_each by Release b p e
  served_up_each by OpenFirst b p e = with_stored_each by OpenFirst b p e

  pub served_each : (power : Power) (by : Sender) (ask : Ask) (b : Brick) → P by ask → EachAt P L b → EachAt P L (served_by power by ask b)
  served_each IsUp by ask b p e = served_up_each by ask b p e
  served_each (IsDown late were) by ask b p e = answering_each by ask Gone _ p (record { held = e.held; waiting = e.waiting; line = e.line; outputs = e.outputs })

  pub steered_each : (control : Control) (b : Brick) → EachAt P L b → EachAt P L (steered control b)
  steered_each (Control.Down late) b e = record { held = tt; waiting = tt; line = e.line; outputs = outputs_append P b.outputs (Closed ∷ gones_of b.waiting) e.outputs (gones_each P b.waiting e.waiting) }
  steered_each Control.Up b e = record { held = e.held; waiting = e.waiting; line = e.line; outputs = outputs_append P b.outputs (Opened ∷ []) e.outputs tt }
  steered_each (Control.Connect g) b e = by_case (is_up b.power) where
    w : EachAt P L (without_graph g b)
    w = without_graph_each g b e

    by_case : (u : Bool) → EachAt P L (if u then (let c = without_graph g b in record c { connected = with_at c.connected g true; outputs = c.outputs ++ Connected g ∷ [] }) else b)
    by_case true = record { held = w.held; waiting = w.waiting; line = w.line; outputs = outputs_append P (without_graph g b).outputs (Connected g ∷ []) w.outputs tt }
    by_case false = e
  steered_each (Control.Disconnect g) b e = let w = without_graph_each g b e in record { held = w.held; waiting = w.waiting; line = w.line; outputs = w.outputs }

-- ---- each move

module _ (P : Sender → Ask → Type 0) where
  front_each : (line : List Input) (by : Sender) (ask : Ask) (rest : List Input) → line ≡ Asked by ask ∷ rest → EachInput P line → P by ask × EachInput P rest
  front_each line by ask rest is p = subst (EachInput P) is p

  pub moves_each : (may : List Input → Type 0) (old new : Brick) → BrickMove may old new → ((inputs : List Input) → may inputs → EachInput P inputs) → Each P old → Each P new
  moves_each may old new (Stays is) taken e = subst (Each P) (sym is) e
  moves_each may old new (Takes inputs its is) taken e = subst (Each P) (sym is) (record { held = e.held; waiting = e.waiting; line = inputs_append P old.line inputs e.line (taken inputs its); outputs = e.outputs })
  moves_each may old new (Hands first rest front is) taken e = subst (Each P) (sym is) (record { held = e.held; waiting = e.waiting; line = e.line; outputs = tail first rest (subst (EachOutput P) front e.outputs) })
    where
      tail : (o : Output) (os : List Output) → EachOutput P (o ∷ os) → EachOutput P os
      tail (Answered by ask answer) os p = p.1
      tail Closed os p = p
      tail Opened os p = p
      tail (Connected graph) os p = p
  moves_each may old new (Serves by ask rest front served is) taken e =
      let f = front_each old.line by ask rest front e.line in
      subst (Each P) (sym is) (served_each P (EachInput P) old.power by ask (record old { line = rest }) f.0 (record { held = e.held; waiting = e.waiting; line = f.1; outputs = e.outputs }))
  moves_each may old new (Refuses by ask answer rest front refusable refusal is) taken e =
      let f = front_each old.line by ask rest front e.line in
      subst (Each P) (sym is) (answering_each P (EachInput P) by ask answer _ f.0 (record { held = e.held; waiting = e.waiting; line = f.1; outputs = e.outputs }))
  moves_each may old new (GivesUp by ask rest front served is) taken e =
      let f = front_each old.line by ask rest front e.line in
      subst (Each P) (sym is) (answering_each P (EachInput P) by ask Gone _ f.0 (record { held = e.held; waiting = e.waiting; line = f.1; outputs = e.outputs }))
  moves_each may old new (Steers control rest front is) taken e =
      let rests = subst (EachInput P) front e.line in
      subst (Each P) (sym is) (steered_each P (EachInput P) control (record old { line = rest }) (record { held = e.held; waiting = e.waiting; line = rests; outputs = e.outputs }))
