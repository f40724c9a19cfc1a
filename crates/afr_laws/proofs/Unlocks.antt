-- A lock of the open connection is dropped only by its own unlock; and then its transaction unlocks.
use Rattle.std.proofs.Common.{◌≡◌, ◌∙◌, ℕ, ◌≤◌, Bool, true, false, refl, sym, ap, subst, inl, inr, arith, length, Some}
use Rattle.std.specs.Prelude.{if◌then◌else◌, List, [], ◌∷◌, ◌++◌, ◌||◌, not}
use Rattle.std.proofs.lemmas.List.{length-append}
use Rattle.afr_machine.specs.Requests.{Sender, Ask, Answer, Input, Output}
use Rattle.afr_machine.specs.Requests.Ask.{Lock, Unlock}
use Rattle.afr_machine.specs.Requests.Answer.{Rows}
use Rattle.afr_machine.specs.Requests.Input.{Asked}
use Rattle.afr_machine.specs.Requests.Output.{Answered, Closed, Opened, Connected}
use Rattle.afr_machine.specs.Locks.{BrickLock}
use Rattle.afr_machine.specs.Bricks.{Brick}
use Rattle.afr_machine.specs.Transactions.{Stage}
use Rattle.afr_machine.specs.Transactions.Stage.{Unlocking}
use Rattle.afr_machine.specs.States.{Link, is_current}
use Rattle.afr_machine.specs.Sending.{carries_fd}
use Rattle.afr_laws.specs.Senders.{EachLock, EachOutput}
use Rattle.afr_laws.specs.Flights.{in_outputs, is_lock, any_lock, IsFlight}
use Rattle.afr_laws.specs.Flights.IsFlight.{NoFlight, OneFlight, OpensFirst, Strayed, StrayedThenUnlocks}
use Rattle.afr_laws.specs.Connections.{has_control, IsOrdered, IsEarlier, ConnectsFirst}
use Rattle.afr_laws.specs.Waiting.{Fits, LastFits}
use Rattle.afr_laws.specs.Grants.{IsAmong, has_closed, IsHeldBy, lock_granted}
use Rattle.afr_laws.proofs.FlightMoves.{IsAlone}
use Rattle.afr_laws.proofs.Holding.{GrantedIn}

-- ---- an unlock among requests on their way

abbrev pub is_unlock : Ask → Bool
is_unlock Unlock = true
is_unlock other = false

abbrev pub any_unlock : List Ask → Bool
any_unlock [] = false
any_unlock (a ∷ rest) = is_unlock a || any_unlock rest

or_left : (a b : Bool) → a ≡ true → (a || b) ≡ true
or_left a b e = ap (λ x. x || b) e

or_right_true : (a b : Bool) → b ≡ true → (a || b) ≡ true
or_right_true true b e = refl
or_right_true false b e = e

or_false : (a : Bool) → (a || false) ≡ a
or_false true = refl
or_false false = refl

pub unlock_right : (xs ys : List Ask) → any_unlock ys ≡ true → any_unlock (xs ++ ys) ≡ true
unlock_right [] ys e = e
unlock_right (x ∷ xs) ys e = or_right_true (is_unlock x) (any_unlock (xs ++ ys)) (unlock_right xs ys e)

pub lock_left : (xs ys : List Ask) → any_lock xs ≡ true → any_lock (xs ++ ys) ≡ true
lock_left [] ys e = absurd cc
lock_left (x ∷ xs) ys e = by_case (is_lock x) (lock_left xs ys) e where
  by_case : (b : Bool) → (any_lock xs ≡ true → any_lock (xs ++ ys) ≡ true) → (b || any_lock xs) ≡ true → (b || any_lock (xs ++ ys)) ≡ true
  by_case true rest h = refl
  by_case false rest h = rest h

pub unlock_is : (ask : Ask) → is_unlock ask ≡ true → ask ≡ Unlock
unlock_is Unlock e = refl
unlock_is (Lock shared cells) e = absurd cc
unlock_is other e = absurd cc

pub fd_no_unlock : (ask : Ask) → carries_fd ask ≡ true → is_unlock ask ≡ false
fd_no_unlock Unlock e = absurd cc
fd_no_unlock other e = refl

-- where an unlock is on its way, the transaction waits for it, in the stage that sends it
pub unlock_waited : (f : List Ask) (w o c : Bool) (stage : Stage) (k : ℕ) → IsFlight f w o c → any_unlock f ≡ true → (w ≡ true → LastFits f stage k) → stage ≡ Unlocking
unlock_waited f w o c stage k (NoFlight e) u last = absurd (let never : false ≡ true = sym (ap any_unlock e) ∙ u in cc)
unlock_waited f w o c stage k (OneFlight ask e waits current) u last =
    let is : ask ≡ Unlock = unlock_is ask (sym (or_false (is_unlock ask)) ∙ sym (ap any_unlock e) ∙ u) in
    subst (λ a. Fits a stage k) is (subst (λ g. LastFits g stage k) e (last waits))
unlock_waited f w o c stage k (OpensFirst ask e fd waits current) u last = absurd (let never : false ≡ true = sym (ap any_unlock e ∙ or_false (is_unlock ask) ∙ fd_no_unlock ask fd) ∙ u in cc)
unlock_waited f w o c stage k (Strayed ask e fd out) u last = absurd (let never : false ≡ true = sym (ap any_unlock e ∙ or_false (is_unlock ask) ∙ fd_no_unlock ask fd) ∙ u in cc)
unlock_waited f w o c stage k (StrayedThenUnlocks ask e fd out waits current) u last = subst (λ g. LastFits g stage k) e (last waits)

some_length : (xs : List Ask) → any_lock xs ≡ true → 1 ≤ length xs
some_length [] e = absurd cc
some_length (x ∷ xs) e = omega arith

-- a lock that was answered and an unlock behind it are not both on their way
pub not_both : (o w l : List Ask) → IsAlone (o ++ (w ++ (Unlock ∷ l))) → any_lock o ≡ true → ⊥
not_both o w l alone is = absurd (omega (arith, alone (lock_left o (w ++ (Unlock ∷ l)) is), some_length o is, length-append o (w ++ (Unlock ∷ l)), length-append w (Unlock ∷ l)))

-- ---- grants among the outputs

granted_ask : (by : Sender) (ask : Ask) (answer : Answer) (lock : BrickLock) → lock_granted by ask answer ≡ Some lock → (is_lock ask ≡ true) × (lock.by ≡ by)
granted_ask by (Lock shared cells) (Rows rows) lock e = (refl, cc)
granted_ask by (Lock shared cells) other lock e = absurd cc
granted_ask by other answer lock e = absurd cc

pub granted_flies : (mine : Sender → Bool) (lock : BrickLock) → mine lock.by ≡ true → (os : List Output) → GrantedIn lock os → any_lock (in_outputs mine os) ≡ true
granted_flies mine lock own [] h = absurd h
granted_flies mine lock own (Answered by ask answer ∷ os) (inl e) =
    let g = granted_ask by ask answer lock e in
    ap (λ b. any_lock (if b then ask ∷ in_outputs mine os else in_outputs mine os)) (ap mine (sym g.1) ∙ own) ∙ or_left (is_lock ask) (any_lock (in_outputs mine os)) g.0
granted_flies mine lock own (Answered by ask answer ∷ os) (inr h) = by_case (mine by) (granted_flies mine lock own os h) where
  by_case : (b : Bool) → any_lock (in_outputs mine os) ≡ true → any_lock (if b then ask ∷ in_outputs mine os else in_outputs mine os) ≡ true
  by_case true rest = or_right_true (is_lock ask) (any_lock (in_outputs mine os)) rest
  by_case false rest = rest
granted_flies mine lock own (Closed ∷ os) h = granted_flies mine lock own os h
granted_flies mine lock own (Opened ∷ os) h = granted_flies mine lock own os h
granted_flies mine lock own (Connected graph ∷ os) h = granted_flies mine lock own os h

pub granted_sender : (P : Sender → Ask → Type 0) (lock : BrickLock) (os : List Output) → EachOutput P os → GrantedIn lock os → (ask : Ask) × P lock.by ask
granted_sender P lock [] p h = absurd h
granted_sender P lock (Answered by ask answer ∷ os) p (inl e) = (ask, subst (λ s. P s ask) (sym (granted_ask by ask answer lock e).1) p.0)
granted_sender P lock (Answered by ask answer ∷ os) p (inr h) = granted_sender P lock os p.1 h
granted_sender P lock (Closed ∷ os) p h = granted_sender P lock os p h
granted_sender P lock (Opened ∷ os) p h = granted_sender P lock os p h
granted_sender P lock (Connected graph ∷ os) p h = granted_sender P lock os p h

-- ---- a lock of the open connection, and the front of the line

earlier_among : (g : ℕ) (link : Link) (lock : BrickLock) (ls : List BrickLock) → EachLock (IsEarlier g link) ls → IsAmong lock ls → lock.by.graph ≡ g → is_current link lock.by.connection ≡ false
earlier_among g link lock [] p h of = absurd h
earlier_among g link lock (l ∷ ls) p (inl e) of = ap (λ (x : BrickLock). is_current link x.by.connection) e ∙ p.0 (ap (λ (x : BrickLock). x.by.graph) (sym e) ∙ of)
earlier_among g link lock (l ∷ ls) p (inr h) of = earlier_among g link lock ls p.1 h of

module _ (g : ℕ) (link : Link) (b : Brick) (c : ConnectsFirst g link b) (lock : BrickLock) (of : lock.by.graph ≡ g) (current : is_current link lock.by.connection ≡ true) where
  -- with a control of its graph in the line the lock is not held: a Closed is on its way
  pub controlled_closes : has_control g b.line ≡ true → IsHeldBy b lock → has_closed b.outputs ≡ true
  controlled_closes h (inl among) = absurd (let never : true ≡ false = sym current ∙ earlier_among g link lock b.held (c.held h) among of in cc)
  controlled_closes h (inr closing) = closing

  -- and its grant is not on its way either
  pub controlled_none : has_control g b.line ≡ true → GrantedIn lock b.outputs → ⊥
  controlled_none h i = let e = granted_sender (IsEarlier g link) lock b.outputs (c.outputs h) i in absurd (let never : true ≡ false = sym current ∙ e.1 of in cc)

  pub behind_front : (by : Sender) (ask : Ask) (rest : List Input) → b.line ≡ Asked by ask ∷ rest → by.graph ≡ g → is_current link by.connection ≡ false → has_control g b.line ≡ true
  behind_front by ask rest front of_front late =
      let o : is_current link by.connection ≡ not (has_control g rest) = (subst (IsOrdered g link) front c.line).0 of_front in
      ap (has_control g) front ∙ flipped (has_control g rest) (sym o ∙ late)
    where
      flipped : (x : Bool) → not x ≡ false → x ≡ true
      flipped true e = refl
      flipped false e = absurd cc
