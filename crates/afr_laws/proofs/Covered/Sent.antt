-- A request that needs a lock is sent under a grant of its sender, with no unlock of its transaction in the line.
use Rattle.std.proofs.Common.{◌≡◌, ◌∙◌, ℕ, Bool, true, false, refl, sym, ap, ◌⊎◌, inl, inr}
use Rattle.std.specs.Prelude.{if◌then◌else◌, List, [], ◌∷◌, ◌++◌, ◌≢◌, not}
use Rattle.std.proofs.lemmas.Bool.{eq-eqb}
use Rattle.afr_machine.specs.Replicas.{Size}
use Rattle.afr_machine.specs.Requests.{Sender, Ask, Input}
use Rattle.afr_machine.specs.Requests.Ask.{Lock, Unlock, Mark, Op, Post, Fetch, Replace, Clear, Settle, Index, Open, Release, OpenFirst}
use Rattle.afr_machine.specs.Requests.Input.{Asked, Steered}
use Rattle.afr_machine.specs.States.{State, is_current}
use Rattle.afr_machine.specs.Sending.{HasGrant, IsMember, MayAsk, carries_fd}
use Rattle.afr_laws.specs.Senders.{EachInput}
use Rattle.afr_laws.specs.Numbered.{IsNumbered}
use Rattle.afr_laws.specs.Flights.{is_mine, in_locks, in_line, in_outputs, flight, IsFlight, AreOnTheirWay}
use Rattle.afr_laws.specs.Flights.IsFlight.{NoFlight, OneFlight, OpensFirst, Strayed, StrayedThenUnlocks}
use Rattle.afr_laws.specs.Connections.{is_control_of, has_control, IsOrdered}
use Rattle.afr_laws.specs.Grants.{is_unlocking}
use Rattle.afr_laws.specs.Covered.{needs_lock}
use Rattle.afr_laws.proofs.Bools.{both, neither_left, neither_right, or_right, is_or_not, apart_bools}
use Rattle.afr_laws.proofs.Unlocks.{is_unlock, any_unlock, unlock_right, fd_no_unlock}

-- ---- what it was sent under

pub record IsSentUnder (m : State) (t k : ℕ) : Type 0 where
  pub grant : HasGrant m t k
  pub answered : (m.txns t).waits k ≡ false
  pub holding : is_unlocking (m.txns t).stage ≡ false

module _ (size : Size) (m : State) (t k : ℕ) where
  of_member : IsMember size m t k → is_unlocking (m.txns t).stage ≡ false → IsSentUnder m t k
  of_member h holding = record { grant = h.grant; answered = h.answered; holding = holding }

  pub sent_under : (ask : Ask) → MayAsk size m t k ask → needs_lock ask ≡ true → IsSentUnder m t k
  sent_under (Lock shared cells) h needs = absurd cc
  sent_under Unlock h needs = absurd cc
  sent_under (Mark u cells) h needs = of_member h.next.member (ap is_unlocking h.turn)
  sent_under (Op u op) (inl h) needs = of_member h.next.member (ap is_unlocking h.turn)
  sent_under (Op u op) (inr h) needs = of_member h.next.member (ap is_unlocking h.turn)
  sent_under (Post u cells accused) h needs = of_member h.next.member (ap is_unlocking h.turn)
  sent_under (Fetch cell) (inl h) needs = of_member h.member (ap is_unlocking h.turn)
  sent_under (Fetch cell) (inr h) needs = of_member h.member (ap is_unlocking h.turn)
  sent_under (Replace cell found) h needs = of_member h.member (ap is_unlocking h.turn)
  sent_under (Clear cells who) h needs = of_member h.next.member (ap is_unlocking h.turn)
  sent_under (Settle u cells accused) h needs = of_member h.next.member (ap is_unlocking h.turn)
  sent_under Index h needs = absurd cc
  sent_under Open h needs = absurd cc
  sent_under Release h needs = absurd h
  sent_under OpenFirst h needs = absurd h

pub fd_needs : (ask : Ask) → carries_fd ask ≡ true → needs_lock ask ≡ true
fd_needs (Op u op) fd = refl
fd_needs (Fetch cell) fd = refl
fd_needs other fd = absurd cc

-- ---- unlocks in the line

-- an unlock is of another transaction
abbrev pub IsOtherUnlock : ℕ → Sender → Ask → Type 0
IsOtherUnlock t by ask = ask ≡ Unlock → by.txn ≢ t

answered_no_unlock : (f : List Ask) (w o c : Bool) → IsFlight f w o c → w ≡ false → any_unlock f ≡ false
answered_no_unlock f w o c (NoFlight e) answered = ap any_unlock e
answered_no_unlock f w o c (OneFlight ask e waits current) answered = apart_bools waits answered
answered_no_unlock f w o c (OpensFirst ask e fd waits current) answered = apart_bools waits answered
answered_no_unlock f w o c (Strayed ask e fd out) answered = ap any_unlock e ∙ or_right (is_unlock ask) ∙ fd_no_unlock ask fd
answered_no_unlock f w o c (StrayedThenUnlocks ask e fd out waits current) answered = apart_bools waits answered

behind_none : (xs ys : List Ask) → any_unlock (xs ++ ys) ≡ false → any_unlock ys ≡ false
behind_none xs ys none = by_case (is_or_not (any_unlock ys)) where
  by_case : (any_unlock ys ≡ true) ⊎ (any_unlock ys ≡ false) → any_unlock ys ≡ false
  by_case (inl has) = apart_bools (unlock_right xs ys has) none
  by_case (inr lacks) = lacks

module _ (m : State) (k t : ℕ) where
  abbrev mine : Sender → Bool
  mine = is_mine t (m.links k (m.txns t).graph)

  tail_none : (b : Bool) (ask : Ask) (rest : List Ask) → any_unlock (if b then ask ∷ rest else rest) ≡ false → any_unlock rest ≡ false
  tail_none true ask rest none = neither_right (is_unlock ask) (any_unlock rest) none
  tail_none false ask rest none = none

  each_other : (line : List Input) → EachInput (IsNumbered m k) line → IsOrdered (m.txns t).graph (m.links k (m.txns t).graph) line → has_control (m.txns t).graph line ≡ false →
      any_unlock (in_line (is_mine t (m.links k (m.txns t).graph)) line) ≡ false → EachInput (IsOtherUnlock t) line
  each_other [] n o none u = tt
  each_other (Asked by ask ∷ is) n o none u = (here, each_other is n.1 o.1 none (tail_none (mine by) ask (in_line mine is) u)) where
    here : ask ≡ Unlock → by.txn ≡ t → ⊥
    here unlocks same =
        let current : is_current (m.links k (m.txns t).graph) by.connection ≡ true = o.0 (n.0.graph ∙ ap (λ i. (m.txns i).graph) same) ∙ ap not none in
        let own : is_mine t (m.links k (m.txns t).graph) by ≡ true = both _ _ (eq-eqb by.txn t same) current in
        let rest : List Ask = in_line (is_mine t (m.links k (m.txns t).graph)) is in
        let first : any_unlock (ask ∷ in_line (is_mine t (m.links k (m.txns t).graph)) is) ≡ false = sym (ap (λ b. any_unlock (if b then ask ∷ in_line (is_mine t (m.links k (m.txns t).graph)) is else in_line (is_mine t (m.links k (m.txns t).graph)) is)) own) ∙ u in
        apart_bools (ap is_unlock unlocks) (neither_left (is_unlock ask) (any_unlock rest) first)
  each_other (Steered control ∷ is) n o none u = each_other is n o (neither_right (is_control_of (m.txns t).graph control) (has_control (m.txns t).graph is) none) u

  -- a transaction that owes no answer, with no control of its graph in the line
  pub no_unlocks : AreOnTheirWay m → IsOrdered (m.txns t).graph (m.links k (m.txns t).graph) (m.bricks k).line → has_control (m.txns t).graph (m.bricks k).line ≡ false → (m.txns t).waits k ≡ false → EachInput (IsOtherUnlock t) (m.bricks k).line
  no_unlocks way ordered none answered =
      let o : List Ask = in_outputs mine (m.bricks k).outputs in
      let w : List Ask = in_locks mine (m.bricks k).waiting in
      let l : List Ask = in_line mine (m.bricks k).line in
      let all : any_unlock (flight mine (m.bricks k)) ≡ false = ap any_unlock (way.known t k) ∙ answered_no_unlock ((m.txns t).flying k) _ _ _ (way.few t k) answered in
      each_other (m.bricks k).line (way.numbered k).line ordered none (behind_none w l (behind_none o (w ++ l) all))
