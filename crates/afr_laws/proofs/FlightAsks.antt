-- A request that is sent.
use Rattle.std.proofs.Common.{◌≡◌, ◌∙◌, ℕ, Bool, true, false, refl, sym, ap, subst, ◌⊎◌, inl, inr, append_assoc}
use Rattle.std.specs.Prelude.{if◌then◌else◌, List, [], ◌∷◌, ◌++◌, ◌≢◌, ◌&&◌}
use Rattle.std.proofs.lemmas.List.{append-nil}
use Rattle.std.proofs.lemmas.Bool.{cases_eq, eq-eqb, ne_eqb}
use Rattle.afr_machine.specs.Replicas.{Size, with_at}
use Rattle.afr_machine.specs.Requests.{Sender, Ask, Input}
use Rattle.afr_machine.specs.Requests.Ask.{Lock, Unlock, Mark, Op, Post, Fetch, Replace, Clear, Settle, Index, Open, Release, OpenFirst}
use Rattle.afr_machine.specs.Bricks.{Brick}
use Rattle.afr_machine.specs.Transactions.{Txn, Stage}
use Rattle.afr_machine.specs.Transactions.Stage.{Over, Locking, Locked, Marking, Applying, Posting, Settling, Bearing, Copying, Polling, Unlocking}
use Rattle.afr_machine.specs.States.{State, is_current, link_of}
use Rattle.afr_machine.specs.Sending.{HasGrant, IsMember, MayAsk, carries_fd, asks_of, asking, sender_of, inputs_of, after_asking}
use Rattle.afr_machine.proofs.Tables.{at_same, at_other}
use Rattle.afr_laws.specs.Flights.{is_mine, in_locks, in_line, in_outputs, flight, KnowsOf, FewOf, IsFlight}
use Rattle.afr_laws.specs.Flights.IsFlight.{NoFlight, OneFlight, OpensFirst, Strayed, StrayedThenUnlocks}
use Rattle.afr_laws.proofs.Bools.{both, both_left}
use Rattle.afr_laws.proofs.FlightLists.{line_append}
use Rattle.afr_laws.proofs.Carry.{at_case}

-- what every request needs: the connection is open, no answer is missing, and the brick is not out but for an unlock
pub record AskNeeds (m : State) (t k : ℕ) (ask : Ask) : Type 0 where
  pub connected : (link_of m t k).is_open ≡ true
  pub answered : (m.txns t).waits k ≡ false
  pub not_out : ((m.txns t).out k ≡ false) ⊎ (ask ≡ Unlock)
  pub runs : (m.txns t).stage ≡ Over → ⊥

module _ (size : Size) (m : State) (t k : ℕ) where
  of_grant : HasGrant m t k → (link_of m t k).is_open ≡ true
  of_grant g = both_left _ _ g.still_open

  of_member : (ask : Ask) → IsMember size m t k → ((m.txns t).stage ≡ Over → ⊥) → AskNeeds m t k ask
  of_member ask x runs = record { connected = of_grant x.grant; answered = x.answered; not_out = inl x.not_out; runs = runs }

  -- a stage other than Over
  other_stage : (stage : Stage) → (m.txns t).stage ≡ stage → (Over ≡ stage → ⊥) → (m.txns t).stage ≡ Over → ⊥
  other_stage stage is differs o = differs (sym o ∙ is)

  pub ask_needs : (ask : Ask) → MayAsk size m t k ask → AskNeeds m t k ask
  ask_needs (Lock shared cells) h = record { connected = h.connected; answered = h.answered; not_out = inl h.not_out; runs = other_stage (Locking cells shared k) h.turn (λ e. absurd cc) }
  ask_needs Unlock h = record { connected = of_grant h.grant; answered = h.answered; not_out = inr refl; runs = other_stage Unlocking h.turn (λ e. absurd cc) }
  ask_needs (Mark u cells) h = of_member (Mark u cells) h.next.member (other_stage (Marking u) h.turn (λ e. absurd cc))
  ask_needs (Op u op) (inl h) = of_member (Op u op) h.next.member (other_stage (Applying u) h.turn (λ e. absurd cc))
  ask_needs (Op u op) (inr h) = of_member (Op u op) h.next.member (other_stage Bearing h.turn (λ e. absurd cc))
  ask_needs (Post u cells accused) h = of_member (Post u cells accused) h.next.member (other_stage (Posting u) h.turn (λ e. absurd cc))
  ask_needs (Fetch cell) (inl h) = of_member (Fetch cell) h.member (other_stage Locked h.turn (λ e. absurd cc))
  ask_needs (Fetch cell) (inr h) = of_member (Fetch cell) h.member (other_stage (Copying h.run) h.turn (λ e. absurd cc))
  ask_needs (Replace cell found) h = of_member (Replace cell found) h.member (other_stage (Copying h.run) h.turn (λ e. absurd cc))
  ask_needs (Clear cells who) h = of_member (Clear cells who) h.next.member (other_stage (Copying h.run) h.turn (λ e. absurd cc))
  ask_needs (Settle u cells accused) h = of_member (Settle u cells accused) h.next.member (other_stage (Settling u h.group h.adopts) h.turn (λ e. absurd cc))
  ask_needs Index h = record { connected = h.poll.connected; answered = h.poll.answered; not_out = inl h.poll.not_out; runs = other_stage Polling h.poll.turn (λ e. absurd cc) }
  ask_needs Open h = record { connected = h.poll.connected; answered = h.poll.answered; not_out = inl h.poll.not_out; runs = other_stage Polling h.poll.turn (λ e. absurd cc) }
  ask_needs Release h = absurd h
  ask_needs OpenFirst h = absurd h

-- ---- the line

mine_line : (mine : Sender → Bool) (by : Sender) (asks : List Ask) → mine by ≡ true → in_line mine (inputs_of by asks) ≡ asks
mine_line mine by [] is = refl
mine_line mine by (a ∷ rest) is = ap (λ b. if b then a ∷ in_line mine (inputs_of by rest) else in_line mine (inputs_of by rest)) is ∙ ap (λ z. a ∷ z) (mine_line mine by rest is)

other_line : (mine : Sender → Bool) (by : Sender) (asks : List Ask) → mine by ≡ false → in_line mine (inputs_of by asks) ≡ []
other_line mine by [] is = refl
other_line mine by (a ∷ rest) is = ap (λ b. if b then a ∷ in_line mine (inputs_of by rest) else in_line mine (inputs_of by rest)) is ∙ other_line mine by rest is

more_line : (mine : Sender → Bool) (b : Brick) (inputs : List Input) → flight mine (record b { line = b.line ++ inputs }) ≡ flight mine b ++ in_line mine inputs
more_line mine b inputs =
    let o = in_outputs mine b.outputs in let w = in_locks mine b.waiting in let l = in_line mine b.line in
    ap (λ z. o ++ (w ++ z)) (line_append mine b.line inputs) ∙ ap (λ z. o ++ z) (sym (append_assoc w l (in_line mine inputs))) ∙ sym (append_assoc o (w ++ l) (in_line mine inputs))

pub no_more_line : (mine : Sender → Bool) (b : Brick) (inputs : List Input) → in_line mine inputs ≡ [] → flight mine (record b { line = b.line ++ inputs }) ≡ flight mine b
no_more_line mine b inputs none = more_line mine b inputs ∙ ap (λ z. flight mine b ++ z) none ∙ append-nil (flight mine b)

-- ---- the step

module _ (size : Size) (m : State) (t k : ℕ) (first : Bool) (ask : Ask) (needs : AskNeeds m t k ask) where
  own_current : is_current (link_of m t k) (link_of m t k).last ≡ true
  own_current = both _ _ needs.connected (eq-eqb (link_of m t k).last (link_of m t k).last refl)

  own_knows : KnowsOf m.bricks m.links t (m.txns t) →
      KnowsOf (with_at m.bricks k (record (m.bricks k) { line = (m.bricks k).line ++ inputs_of (sender_of m t k) (asks_of first ask) })) m.links t (asking (m.txns t) k (link_of m t k).last first ask)
  own_knows known j = by_case (cases_eq j k) where
    x : Txn
    x = m.txns t

    mine : ℕ → Sender → Bool
    mine i = is_mine t (m.links i (m.txns t).graph)

    asks : List Ask
    asks = asks_of first ask

    b2 : ℕ → Brick
    b2 = with_at m.bricks k (record (m.bricks k) { line = (m.bricks k).line ++ inputs_of (sender_of m t k) (asks_of first ask) })

    f2 : ℕ → List Ask
    f2 = with_at (m.txns t).flying k ((m.txns t).flying k ++ asks_of first ask)

    here : flight (mine k) (b2 k) ≡ f2 k
    here =
        ap (flight (mine k)) (at_same m.bricks k (record (m.bricks k) { line = (m.bricks k).line ++ inputs_of (sender_of m t k) (asks_of first ask) }))
        ∙ more_line (mine k) (m.bricks k) (inputs_of (sender_of m t k) (asks_of first ask))
        ∙ ap (λ z. flight (mine k) (m.bricks k) ++ z) (mine_line (mine k) (sender_of m t k) asks (both _ _ (eq-eqb t t refl) own_current))
        ∙ ap (λ z. z ++ asks) (known k)
        ∙ sym (at_same (m.txns t).flying k ((m.txns t).flying k ++ asks_of first ask))

    by_case : (j ≡ k) ⊎ (j ≢ k) → flight (mine j) (b2 j) ≡ f2 j
    by_case (inl same) = subst (λ i. flight (mine i) (b2 i) ≡ f2 i) (sym same) here
    by_case (inr other) = ap (flight (mine j)) (at_other m.bricks k _ j other) ∙ known j ∙ sym (at_other (m.txns t).flying k _ j other)

  other_knows : (i : ℕ) → i ≢ t → KnowsOf m.bricks m.links i (m.txns i) →
      KnowsOf (with_at m.bricks k (record (m.bricks k) { line = (m.bricks k).line ++ inputs_of (sender_of m t k) (asks_of first ask) })) m.links i (m.txns i)
  other_knows i ne known j =
      at_case (λ n b. flight (is_mine i (m.links n (m.txns i).graph)) b ≡ (m.txns i).flying n) m.bricks k _
      (no_more_line (is_mine i (m.links k (m.txns i).graph)) (m.bricks k) (inputs_of (sender_of m t k) (asks_of first ask))
      (other_line (is_mine i (m.links k (m.txns i).graph)) (sender_of m t k) (asks_of first ask) (ap (λ b. b && is_current (m.links k (m.txns i).graph) (link_of m t k).last) (ne_eqb t i (λ e. ne (sym e))))) ∙ known k)
      j (λ other. known j)

  pub asked_knows : ((i : ℕ) → KnowsOf m.bricks m.links i (m.txns i)) → (i : ℕ) → KnowsOf (after_asking m t k first ask).bricks m.links i ((after_asking m t k first ask).txns i)
  asked_knows known i = at_case (λ n x. KnowsOf (after_asking m t k first ask).bricks m.links n x) m.txns t _ (own_knows (known t)) i (λ ne. other_knows i ne (known i))

  asked_flight : (f : List Ask) (o c : Bool) → (first ≡ true → carries_fd ask ≡ true) → IsFlight f ((m.txns t).waits k) o c → (o ≡ false) ⊎ (ask ≡ Unlock) → (c2 : Bool) → c2 ≡ true → IsFlight (f ++ asks_of first ask) true o c2
  asked_flight f o c may (NoFlight e) free c2 now = one first may where
    one : (b : Bool) → (b ≡ true → carries_fd ask ≡ true) → IsFlight (f ++ asks_of b ask) true o c2
    one true fd = OpensFirst ask (ap (λ z. z ++ asks_of true ask) e) (fd refl) refl now
    one false fd = OneFlight ask (ap (λ z. z ++ asks_of false ask) e) refl now
  asked_flight f o c may (OneFlight a e waits current) free c2 now = absurd (let no : true ≡ false = sym waits ∙ needs.answered in cc)
  asked_flight f o c may (OpensFirst a e fd waits current) free c2 now = absurd (let no : true ≡ false = sym waits ∙ needs.answered in cc)
  asked_flight f o c may (StrayedThenUnlocks a e fd out waits current) free c2 now = absurd (let no : true ≡ false = sym waits ∙ needs.answered in cc)
  asked_flight f o c may (Strayed a e fd out) (inl free) c2 now = absurd (let no : true ≡ false = sym out ∙ free in cc)
  asked_flight f o c may (Strayed a e fd out) (inr unlock) c2 now = StrayedThenUnlocks a (unlocks first may) fd out refl now where
    unlocks : (b : Bool) → (b ≡ true → carries_fd ask ≡ true) → f ++ asks_of b ask ≡ a ∷ Unlock ∷ []
    unlocks true may = absurd (let no : true ≡ false = sym (may refl) ∙ ap carries_fd unlock in cc)
    unlocks false may = ap (λ z. z ++ (ask ∷ [])) e ∙ ap (λ z. a ∷ z ∷ []) unlock

  own_few : (first ≡ true → carries_fd ask ≡ true) → FewOf m.links (m.txns t) → FewOf m.links (asking (m.txns t) k (link_of m t k).last first ask)
  own_few may few j = by_case (cases_eq j k) where
    x : Txn
    x = m.txns t

    y : Txn
    y = asking (m.txns t) k (link_of m t k).last first ask

    here : IsFlight (y.flying k) (y.waits k) (y.out k) (is_current (m.links k y.graph) (y.asked_on k))
    here =
        subst (λ f. IsFlight f (y.waits k) (x.out k) (is_current (m.links k x.graph) (y.asked_on k))) (sym (at_same x.flying k (x.flying k ++ asks_of first ask)))
        (subst (λ w. IsFlight (x.flying k ++ asks_of first ask) w (x.out k) (is_current (m.links k x.graph) (y.asked_on k))) (sym (at_same x.waits k true))
        (asked_flight (x.flying k) (x.out k) (is_current (m.links k x.graph) (x.asked_on k)) may (few k) needs.not_out (is_current (m.links k x.graph) (y.asked_on k))
        (ap (is_current (m.links k x.graph)) (at_same x.asked_on k (link_of m t k).last) ∙ own_current)))

    by_case : (j ≡ k) ⊎ (j ≢ k) → IsFlight (y.flying j) (y.waits j) (y.out j) (is_current (m.links j y.graph) (y.asked_on j))
    by_case (inl same) = subst (λ i. IsFlight (y.flying i) (y.waits i) (y.out i) (is_current (m.links i y.graph) (y.asked_on i))) (sym same) here
    by_case (inr other) =
        subst (λ f. IsFlight f (y.waits j) (y.out j) (is_current (m.links j y.graph) (y.asked_on j))) (sym (at_other x.flying k _ j other))
        (subst (λ w. IsFlight (x.flying j) w (y.out j) (is_current (m.links j y.graph) (y.asked_on j))) (sym (at_other x.waits k true j other))
        (subst (λ a. IsFlight (x.flying j) (x.waits j) (x.out j) (is_current (m.links j x.graph) a)) (sym (at_other x.asked_on k _ j other)) (few j)))

  pub asked_few : (first ≡ true → carries_fd ask ≡ true) → ((i : ℕ) → FewOf m.links (m.txns i)) → (i : ℕ) → FewOf m.links ((after_asking m t k first ask).txns i)
  asked_few may few i = at_case (λ n x. FewOf m.links x) m.txns t _ (own_few may (few t)) i (λ ne. few i)
