-- Where the requests of the open connection stand: behind the last control of their graph. Ours.
use Rattle.std.specs.Prelude.{◌≡◌, ℕ, ◌==◌, Bool, true, false, not, ◌||◌, List, [], ◌∷◌}
use Rattle.afr_machine.specs.Requests.{Sender, Ask, Control, Input}
use Rattle.afr_machine.specs.Requests.Input.{Asked, Steered}
use Rattle.afr_machine.specs.Bricks.{Brick}
use Rattle.afr_machine.specs.States.{State, Link, is_current}
use Rattle.afr_laws.specs.Senders.{EachLock, EachOutput}

-- Connect and Disconnect of the graph
abbrev pub is_control_of : ℕ → Control → Bool
is_control_of g (Control.Down late) = false
is_control_of g Control.Up = false
is_control_of g (Control.Connect h) = h == g
is_control_of g (Control.Disconnect h) = h == g

abbrev pub has_control : ℕ → List Input → Bool
has_control g [] = false
has_control g (Asked by ask ∷ is) = has_control g is
has_control g (Steered control ∷ is) = is_control_of g control || has_control g is

-- a request of the graph is of the open connection exactly where no control of the graph is behind it
abbrev pub IsOrdered : ℕ → Link → List Input → Type 0
IsOrdered g link [] = Unit {0}
IsOrdered g link (Asked by ask ∷ is) = (by.graph ≡ g → is_current link by.connection ≡ not (has_control g is)) × IsOrdered g link is
IsOrdered g link (Steered control ∷ is) = IsOrdered g link is

-- of the graph, on another connection than the open one
abbrev pub IsEarlier : ℕ → Link → Sender → Ask → Type 0
IsEarlier g link by ask = by.graph ≡ g → is_current link by.connection ≡ false

-- while a control of the graph is in the line, what is held, waits or was answered is of earlier connections
pub record ConnectsFirst (g : ℕ) (link : Link) (b : Brick) : Type 0 where
  pub line : IsOrdered g link b.line
  pub held : has_control g b.line ≡ true → EachLock (IsEarlier g link) b.held
  pub waiting : has_control g b.line ≡ true → EachLock (IsEarlier g link) b.waiting
  pub outputs : has_control g b.line ≡ true → EachOutput (IsEarlier g link) b.outputs

abbrev pub ConnectsComeFirst : State → Type 0
ConnectsComeFirst m = (k g : ℕ) → (m.links k g).is_open ≡ true → ConnectsFirst g (m.links k g) (m.bricks k)
