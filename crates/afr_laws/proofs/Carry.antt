-- Facts of flights where a transaction's flights are the same, and where none is a transaction's own.
use Rattle.std.proofs.Common.{◌≡◌, ◌∙◌, ℕ, Bool, true, false, refl, sym, ap, subst, ◌⊎◌, inl, inr, length}
use Rattle.std.specs.Prelude.{if◌then◌else◌, List, [], ◌∷◌, ◌++◌, ◌≢◌, ◌==◌, ◌&&◌}
use Rattle.std.proofs.lemmas.Bool.{cases_eq}
use Rattle.afr_machine.specs.Replicas.{with_at}
use Rattle.afr_machine.specs.Requests.{Sender, Ask, Input, Output}
use Rattle.afr_machine.specs.Requests.Ask.{Lock}
use Rattle.afr_machine.specs.Requests.Input.{Asked, Steered}
use Rattle.afr_machine.specs.Requests.Output.{Answered, Closed, Opened, Connected}
use Rattle.afr_machine.specs.Locks.{BrickLock}
use Rattle.afr_machine.specs.Bricks.{Brick, ask_of}
use Rattle.afr_machine.specs.Transactions.{Txn}
use Rattle.afr_machine.specs.States.{Link, is_current}
use Rattle.afr_machine.specs.Sending.{carries_fd}
use Rattle.afr_machine.proofs.Tables.{at_same, at_other}
use Rattle.afr_laws.specs.Senders.{EachLock, EachInput, EachOutput, Each}
use Rattle.afr_laws.specs.Txns.{SameFlights}
use Rattle.afr_laws.specs.Flights.{is_mine, in_locks, in_line, in_outputs, flight, is_lock, any_lock, KnowsOf, FewOf, IsFlight}
use Rattle.afr_laws.specs.Flights.IsFlight.{NoFlight, OneFlight, OpensFirst, Strayed, StrayedThenUnlocks}
use Rattle.afr_laws.proofs.FlightMoves.{IsAlone}
use Rattle.afr_laws.proofs.Bools.{or_right}

-- ---- tables, by whether it is the number that changed

module _ {A : Type 0} where
  pub at_case : (P : ℕ → A → Type 0) (f : ℕ → A) (k : ℕ) (x : A) → P k x → (j : ℕ) → (j ≢ k → P j (f j)) → P j (with_at f k x j)
  at_case P f k x new j old = by_case (cases_eq j k) where
    by_case : (j ≡ k) ⊎ (j ≢ k) → P j (with_at f k x j)
    by_case (inl same) = subst (λ i. P i (with_at f k x i)) (sym same) (subst (P k) (sym (at_same f k x)) new)
    by_case (inr other) = subst (P j) (sym (at_other f k x j other)) (old other)

-- ---- the same flights

pub few_out : (f : List Ask) (w o o2 c : Bool) → (o ≡ true → o2 ≡ true) → IsFlight f w o c → IsFlight f w o2 c
few_out f w o o2 c more (NoFlight e) = NoFlight e
few_out f w o o2 c more (OneFlight ask e waits current) = OneFlight ask e waits current
few_out f w o o2 c more (OpensFirst ask e fd waits current) = OpensFirst ask e fd waits current
few_out f w o o2 c more (Strayed ask e fd out) = Strayed ask e fd (more out)
few_out f w o o2 c more (StrayedThenUnlocks ask e fd out waits current) = StrayedThenUnlocks ask e fd (more out) waits current

module _ (links : ℕ → ℕ → Link) (x y : Txn) (s : SameFlights x y) where
  pub few_carry : FewOf links x → FewOf links y
  few_carry h k =
      subst (λ (f : ℕ → List Ask). IsFlight (f k) (y.waits k) (y.out k) (is_current (links k y.graph) (y.asked_on k))) (sym s.flying)
      (subst (λ (w : ℕ → Bool). IsFlight (x.flying k) (w k) (y.out k) (is_current (links k y.graph) (y.asked_on k))) (sym s.waits)
      (subst (λ (g : ℕ). IsFlight (x.flying k) (x.waits k) (y.out k) (is_current (links k g) (y.asked_on k))) (sym s.graph)
      (subst (λ (a : ℕ → ℕ). IsFlight (x.flying k) (x.waits k) (y.out k) (is_current (links k x.graph) (a k))) (sym s.asked_on)
      (few_out (x.flying k) (x.waits k) (x.out k) (y.out k) (is_current (links k x.graph) (x.asked_on k)) (s.out k) (h k)))))

  pub knows_carry : (bricks : ℕ → Brick) (t : ℕ) → KnowsOf bricks links t x → KnowsOf bricks links t y
  knows_carry bricks t h k = ap (λ (g : ℕ). flight (is_mine t (links k g)) (bricks k)) s.graph ∙ h k ∙ sym (ap (λ (f : ℕ → List Ask). f k) s.flying)

-- ---- a lock is alone

fd_no_lock : (ask : Ask) → carries_fd ask ≡ true → is_lock ask ≡ false
fd_no_lock (Lock shared cells) e = absurd cc
fd_no_lock other e = refl

pub flight_alone : (f : List Ask) (w o c : Bool) → IsFlight f w o c → IsAlone f
flight_alone f w o c (NoFlight e) h = absurd (let no : false ≡ true = sym (ap any_lock e) ∙ h in cc)
flight_alone f w o c (OneFlight ask e waits current) h = ap (length {A = Ask}) e
flight_alone f w o c (OpensFirst ask e fd waits current) h = absurd (let no : false ≡ true = sym (ap any_lock e ∙ or_right (is_lock ask) ∙ fd_no_lock ask fd) ∙ h in cc)
flight_alone f w o c (Strayed ask e fd out) h = ap (length {A = Ask}) e
flight_alone f w o c (StrayedThenUnlocks ask e fd out waits current) h = absurd (let no : false ≡ true = sym (ap any_lock e ∙ or_right (is_lock ask) ∙ fd_no_lock ask fd) ∙ h in cc)

-- ---- what holds of each request

module _ (P Q : Sender → Ask → Type 0) (more : (by : Sender) (ask : Ask) → P by ask → Q by ask) where
  locks_map : (ls : List BrickLock) → EachLock P ls → EachLock Q ls
  locks_map [] p = tt
  locks_map (l ∷ ls) p = (more l.by (ask_of l) p.0, locks_map ls p.1)

  line_map : (is : List Input) → EachInput P is → EachInput Q is
  line_map [] p = tt
  line_map (Asked by ask ∷ is) p = (more by ask p.0, line_map is p.1)
  line_map (Steered control ∷ is) p = line_map is p

  outputs_map : (os : List Output) → EachOutput P os → EachOutput Q os
  outputs_map [] p = tt
  outputs_map (Answered by ask answer ∷ os) p = (more by ask p.0, outputs_map os p.1)
  outputs_map (Closed ∷ os) p = outputs_map os p
  outputs_map (Opened ∷ os) p = outputs_map os p
  outputs_map (Connected graph ∷ os) p = outputs_map os p

  pub each_map : (b : Brick) → Each P b → Each Q b
  each_map b e = record { held = locks_map b.held e.held; waiting = locks_map b.waiting e.waiting; line = line_map b.line e.line; outputs = outputs_map b.outputs e.outputs }

-- ---- none is the transaction's own

module _ (mine : Sender → Bool) where
  no_locks : (ls : List BrickLock) → EachLock (λ by ask. mine by ≡ false) ls → in_locks mine ls ≡ []
  no_locks [] p = refl
  no_locks (l ∷ ls) p = ap (λ b. if b then ask_of l ∷ in_locks mine ls else in_locks mine ls) p.0 ∙ no_locks ls p.1

  no_line : (is : List Input) → EachInput (λ by ask. mine by ≡ false) is → in_line mine is ≡ []
  no_line [] p = refl
  no_line (Asked by ask ∷ is) p = ap (λ b. if b then ask ∷ in_line mine is else in_line mine is) p.0 ∙ no_line is p.1
  no_line (Steered control ∷ is) p = no_line is p

  no_outputs : (os : List Output) → EachOutput (λ by ask. mine by ≡ false) os → in_outputs mine os ≡ []
  no_outputs [] p = refl
  no_outputs (Answered by ask answer ∷ os) p = ap (λ b. if b then ask ∷ in_outputs mine os else in_outputs mine os) p.0 ∙ no_outputs os p.1
  no_outputs (Closed ∷ os) p = no_outputs os p
  no_outputs (Opened ∷ os) p = no_outputs os p
  no_outputs (Connected graph ∷ os) p = no_outputs os p

  pub none_mine : (b : Brick) → Each (λ by ask. mine by ≡ false) b → flight mine b ≡ []
  none_mine b e = ap (λ z. z ++ (in_locks mine b.waiting ++ in_line mine b.line)) (no_outputs b.outputs e.outputs) ∙ ap (λ z. z ++ in_line mine b.line) (no_locks b.waiting e.waiting) ∙ no_line b.line e.line

-- ---- a link that is closed

all_false : (b : Brick) → Each (λ by ask. Unit {0}) b
all_false b = record { held = units_locks b.held; waiting = units_locks b.waiting; line = units_line b.line; outputs = units_outputs b.outputs } where
  units_locks : (ls : List BrickLock) → EachLock (λ by ask. Unit {0}) ls
  units_locks [] = tt
  units_locks (l ∷ ls) = (tt, units_locks ls)

  units_line : (is : List Input) → EachInput (λ by ask. Unit {0}) is
  units_line [] = tt
  units_line (Asked by ask ∷ is) = (tt, units_line is)
  units_line (Steered control ∷ is) = units_line is

  units_outputs : (os : List Output) → EachOutput (λ by ask. Unit {0}) os
  units_outputs [] = tt
  units_outputs (Answered by ask answer ∷ os) = (tt, units_outputs os)
  units_outputs (Closed ∷ os) = units_outputs os
  units_outputs (Opened ∷ os) = units_outputs os
  units_outputs (Connected graph ∷ os) = units_outputs os

and_false : (a b : Bool) → b ≡ false → (a && b) ≡ false
and_false true b e = e
and_false false b e = refl

pub none_on_closed : (t : ℕ) (link : Link) (b : Brick) → link.is_open ≡ false → flight (is_mine t link) b ≡ []
none_on_closed t link b closed =
    none_mine (is_mine t link) b
    (each_map (λ by ask. Unit {0}) (λ by ask. is_mine t link by ≡ false) (λ by ask u. and_false (by.txn == t) (is_current link by.connection) (ap (λ o. o && (by.connection == link.last)) closed)) b (all_false b))
