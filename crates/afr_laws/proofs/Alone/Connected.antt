-- The graphs of held and waiting locks are connected, over every list of steps.
use Rattle.std.proofs.Common.{◌≡◌, ◌∙◌, ℕ, Bool, true, false, refl, sym, subst}
use Rattle.std.specs.Prelude.{if◌then◌else◌, List, [], ◌∷◌, ◌++◌, not}
use Rattle.std.proofs.lemmas.Bool.{eqb-false}
use Rattle.afr_machine.specs.Replicas.{Size, with_at}
use Rattle.afr_machine.specs.Requests.{Sender, Ask, Control, Input}
use Rattle.afr_machine.specs.Requests.Ask.{Lock, Unlock}
use Rattle.afr_machine.specs.Requests.Output.{Connected}
use Rattle.afr_machine.specs.Locks.{BrickLock, conflicts_among, those, is_of_txn, is_of_graph}
use Rattle.afr_machine.specs.Bricks.{Brick, Power, ask_of, grants_of, without_graph, would_serve, served_by, is_up, steered}
use Rattle.afr_machine.specs.Bricks.Power.{IsUp, IsDown}
use Rattle.afr_machine.specs.States.{State}
use Rattle.afr_machine.specs.Steps.{after, IsReached}
use Rattle.afr_machine.specs.Moves.{IsTaken, BrickMove}
use Rattle.afr_machine.specs.Moves.BrickMove.{Stays, Takes, Hands, Serves, Refuses, GivesUp, Steers}
use Rattle.afr_machine.proofs.Tables.{at_other}
use Rattle.afr_machine.proofs.BrickMoves.{bricks_move}
use Rattle.afr_laws.specs.Senders.{EachLock}
use Rattle.afr_laws.specs.Alone.{LocksAreConnected}
use Rattle.afr_laws.proofs.Bools.{not_true}
use Rattle.afr_laws.proofs.Senders.{locks_append, those_each, queue_each}

those_map : (P Q : Sender → Ask → Type 0) (passes : BrickLock → Bool) → ((l : BrickLock) → passes l ≡ true → P l.by (ask_of l) → Q l.by (ask_of l)) → (xs : List BrickLock) → EachLock P xs → EachLock Q (those passes xs)
those_map P Q passes f [] p = tt
those_map P Q passes f (x ∷ xs) p = by_case (passes x) refl (those_map P Q passes f xs p.1) where
  by_case : (b : Bool) → passes x ≡ b → EachLock Q (those passes xs) → EachLock Q (if b then x ∷ those passes xs else those passes xs)
  by_case true is rest = (f x is p.0, rest)
  by_case false is rest = rest

module _ (b : Brick) (c : LocksAreConnected b) where
  abbrev P : Sender → Ask → Type 0
  P by ask = b.connected by.graph ≡ true

  served : (power : Power) (by : Sender) (ask : Ask) → would_serve power b.connected by.graph ≡ true → LocksAreConnected (served_by power by ask b)
  served (IsDown late were) by ask serves = record { held = c.held; waiting = c.waiting }
  served IsUp by (Lock shared cells) serves = by_case (conflicts_among (b.held ++ b.waiting) (record { by = by; shared = shared; cells = cells })) where
    by_case : (u : Bool) → LocksAreConnected (if u then record b { waiting = b.waiting ++ record { by = by; shared = shared; cells = cells } ∷ [] } else record b { held = b.held ++ record { by = by; shared = shared; cells = cells } ∷ []; outputs = b.outputs ++ grants_of b.store (record { by = by; shared = shared; cells = cells } ∷ []) })
    by_case true = record { held = c.held; waiting = locks_append P b.waiting (record { by = by; shared = shared; cells = cells } ∷ []) c.waiting (serves, tt) }
    by_case false = record { held = locks_append P b.held (record { by = by; shared = shared; cells = cells } ∷ []) c.held (serves, tt); waiting = c.waiting }
  served IsUp by Unlock serves =
      let q = queue_each P (those (λ l. not (is_of_txn by.txn l)) b.held) [] b.waiting (those_each P (λ l. not (is_of_txn by.txn l)) b.held c.held) tt c.waiting in
      record { held = q.held; waiting = q.waiting }
  served IsUp by other serves = record { held = c.held; waiting = c.waiting }

  -- the locks that are left where a graph's are dropped
  dropped : (g : ℕ) (now : Bool) → EachLock (λ by ask. with_at b.connected g now by.graph ≡ true) (without_graph g b).held × EachLock (λ by ask. with_at b.connected g now by.graph ≡ true) (without_graph g b).waiting
  dropped g now =
      let q = queue_each (λ by ask. with_at b.connected g now by.graph ≡ true) (those (λ l. not (is_of_graph g l)) b.held) [] (those (λ l. not (is_of_graph g l)) b.waiting)
      (those_map P (λ by ask. with_at b.connected g now by.graph ≡ true) (λ l. not (is_of_graph g l)) left b.held c.held) tt
      (those_map P (λ by ask. with_at b.connected g now by.graph ≡ true) (λ l. not (is_of_graph g l)) left b.waiting c.waiting) in
      (q.held, q.waiting)
    where
      left : (l : BrickLock) → not (is_of_graph g l) ≡ true → b.connected l.by.graph ≡ true → with_at b.connected g now l.by.graph ≡ true
      left l other was = at_other b.connected g now l.by.graph (eqb-false l.by.graph g (not_true (is_of_graph g l) other)) ∙ was

  steers : (control : Control) → LocksAreConnected (steered control b)
  steers (Control.Down late) = record { held = tt; waiting = tt }
  steers Control.Up = record { held = c.held; waiting = c.waiting }
  steers (Control.Connect g) = by_case (is_up b.power) where
    by_case : (u : Bool) → LocksAreConnected (if u then (let d = without_graph g b in record d { connected = with_at d.connected g true; outputs = d.outputs ++ Connected g ∷ [] }) else b)
    by_case true = let d = dropped g true in record { held = d.0; waiting = d.1 }
    by_case false = c
  steers (Control.Disconnect g) = let d = dropped g false in record { held = d.0; waiting = d.1 }

module _ (may : List Input → Type 0) (old new : Brick) (c : LocksAreConnected old) where
  move_connected : BrickMove may old new → LocksAreConnected new
  move_connected (Stays is) = subst LocksAreConnected (sym is) c
  move_connected (Takes inputs its is) = subst LocksAreConnected (sym is) (record { held = c.held; waiting = c.waiting })
  move_connected (Hands first rest front is) = subst LocksAreConnected (sym is) (record { held = c.held; waiting = c.waiting })
  move_connected (Serves by ask rest front would is) = subst LocksAreConnected (sym is) (served (record old { line = rest }) (record { held = c.held; waiting = c.waiting }) old.power by ask would)
  move_connected (Refuses by ask answer rest front refusable refusal is) = subst LocksAreConnected (sym is) (record { held = c.held; waiting = c.waiting })
  move_connected (GivesUp by ask rest front would is) = subst LocksAreConnected (sym is) (record { held = c.held; waiting = c.waiting })
  move_connected (Steers control rest front is) = subst LocksAreConnected (sym is) (steers (record old { line = rest }) (record { held = c.held; waiting = c.waiting }) control)

pub locks_are_connected : (size : Size) (m : State) → IsReached size m → (k : ℕ) → LocksAreConnected (m.bricks k)
locks_are_connected size m IsReached.Start k = record { held = tt; waiting = tt }
locks_are_connected size m (IsReached.Further old step reached allowed) k =
    move_connected (IsTaken old step k) (old.bricks k) ((after size old step).bricks k) (locks_are_connected size old reached k) (bricks_move size old step allowed k)
