-- Which moves of a brick keep a lock among those held, and what they leave of its connections.
use Rattle.std.proofs.Common.{◌≡◌, ◌∙◌, ℕ, Bool, true, false, refl, sym, ap}
use Rattle.std.specs.Prelude.{if◌then◌else◌, [], ◌∷◌, ◌++◌, ◌==◌, not}
use Rattle.std.proofs.lemmas.Bool.{eqb-false, ne_eqb}
use Rattle.afr_machine.specs.Replicas.{with_at}
use Rattle.afr_machine.specs.Requests.{Sender, Ask, Control}
use Rattle.afr_machine.specs.Requests.Ask.{Lock, Unlock}
use Rattle.afr_machine.specs.Requests.Output.{Connected}
use Rattle.afr_machine.specs.Locks.{BrickLock, conflicts_among, those, is_of_txn, is_of_graph}
use Rattle.afr_machine.specs.Bricks.{Brick, Power, grants_of, without_graph, served_by, is_up, steered}
use Rattle.afr_machine.specs.Bricks.Power.{IsUp, IsDown}
use Rattle.afr_machine.proofs.Tables.{at_other}
use Rattle.afr_laws.specs.Connections.{is_control_of}
use Rattle.afr_laws.specs.Grants.{IsAmong}
use Rattle.afr_laws.proofs.Holding.{drops, among_left, among_those, among_queue}

flip_eq : (a c : ℕ) → (a == c) ≡ false → (c == a) ≡ false
flip_eq a c e = ne_eqb c a (λ same. eqb-false a c e (sym same))

module _ (lock : BrickLock) (b : Brick) (h : IsAmong lock b.held) where
  pub served_among : (power : Power) (by : Sender) (ask : Ask) → drops ask by lock ≡ false → IsAmong lock (served_by power by ask b).held
  served_among (IsDown late were) by ask keeps = h
  served_among IsUp by (Lock shared cells) keeps = by_case (conflicts_among (b.held ++ b.waiting) (record { by = by; shared = shared; cells = cells })) where
    by_case : (c : Bool) → IsAmong lock (if c then record b { waiting = b.waiting ++ record { by = by; shared = shared; cells = cells } ∷ [] } else record b { held = b.held ++ record { by = by; shared = shared; cells = cells } ∷ []; outputs = b.outputs ++ grants_of b.store (record { by = by; shared = shared; cells = cells } ∷ []) }).held
    by_case true = h
    by_case false = among_left lock b.held (record { by = by; shared = shared; cells = cells } ∷ []) h
  served_among IsUp by Unlock keeps = among_queue lock (those (λ l. not (is_of_txn by.txn l)) b.held) [] b.waiting (among_those (λ l. not (is_of_txn by.txn l)) lock b.held (ap not keeps) h)
  served_among IsUp by other keeps = h

  dropped_among : (g : ℕ) → (lock.by.graph == g) ≡ false → IsAmong lock (without_graph g b).held
  dropped_among g other = among_queue lock (those (λ l. not (is_of_graph g l)) b.held) [] (those (λ l. not (is_of_graph g l)) b.waiting) (among_those (λ l. not (is_of_graph g l)) lock b.held (ap not other) h)

  -- a Down drops it, and then no graph is connected
  pub steered_among : (control : Control) → is_control_of lock.by.graph control ≡ false → (steered control b).connected lock.by.graph ≡ true → IsAmong lock (steered control b).held
  steered_among (Control.Down late) other connected = absurd (let no : false ≡ true = connected in cc)
  steered_among Control.Up other connected = h
  steered_among (Control.Connect g) other connected = by_case (is_up b.power) where
    by_case : (u : Bool) → IsAmong lock (if u then (let c = without_graph g b in record c { connected = with_at c.connected g true; outputs = c.outputs ++ Connected g ∷ [] }) else b).held
    by_case true = dropped_among g (flip_eq g lock.by.graph other)
    by_case false = h
  steered_among (Control.Disconnect g) other connected = dropped_among g (flip_eq g lock.by.graph other)

-- ---- connections

pub served_connected : (b : Brick) (power : Power) (by : Sender) (ask : Ask) → (served_by power by ask b).connected ≡ b.connected
served_connected b (IsDown late were) by ask = refl
served_connected b IsUp by (Lock shared cells) = by_case (conflicts_among (b.held ++ b.waiting) (record { by = by; shared = shared; cells = cells })) where
  by_case : (c : Bool) → (if c then record b { waiting = b.waiting ++ record { by = by; shared = shared; cells = cells } ∷ [] } else record b { held = b.held ++ record { by = by; shared = shared; cells = cells } ∷ []; outputs = b.outputs ++ grants_of b.store (record { by = by; shared = shared; cells = cells } ∷ []) }).connected ≡ b.connected
  by_case true = refl
  by_case false = refl
served_connected b IsUp by Unlock = refl
served_connected b IsUp by other = refl

-- a control of another graph connects none that was not connected
pub steered_connected : (b : Brick) (g : ℕ) (control : Control) → is_control_of g control ≡ false → (steered control b).connected g ≡ true → b.connected g ≡ true
steered_connected b g (Control.Down late) other connected = absurd (let no : false ≡ true = connected in cc)
steered_connected b g Control.Up other connected = connected
steered_connected b g (Control.Connect h) other connected = by_case (is_up b.power) connected where
  by_case : (u : Bool) → (if u then (let c = without_graph h b in record c { connected = with_at c.connected h true; outputs = c.outputs ++ Connected h ∷ [] }) else b).connected g ≡ true → b.connected g ≡ true
  by_case true c = sym (at_other b.connected h true g (eqb-false g h (flip_eq h g other))) ∙ c
  by_case false c = c
steered_connected b g (Control.Disconnect h) other connected = sym (at_other b.connected h false g (eqb-false g h (flip_eq h g other))) ∙ connected
