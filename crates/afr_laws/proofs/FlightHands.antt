-- The front of an output line is handed in.
use Rattle.std.proofs.Common.{◌≡◌, ◌∙◌, ℕ, Bool, true, false, refl, sym, ap, subst, ◌⊎◌, inl, inr}
use Rattle.std.specs.Prelude.{if◌then◌else◌, List, [], ◌∷◌, ◌++◌, ◌≢◌, ◌==◌, ◌&&◌}
use Rattle.std.proofs.lemmas.Bool.{cases_eq, eq-eqb, ne_eqb}
use Rattle.afr_machine.specs.Replicas.{with_at}
use Rattle.afr_machine.specs.Requests.{Sender, Ask, Answer, Output}
use Rattle.afr_machine.specs.Requests.Ask.{Unlock, OpenFirst}
use Rattle.afr_machine.specs.Requests.Output.{Answered}
use Rattle.afr_machine.specs.Bricks.{Brick}
use Rattle.afr_machine.specs.Transactions.{Txn}
use Rattle.afr_machine.specs.States.{State, Link, is_current}
use Rattle.afr_machine.specs.Sending.{carries_fd}
use Rattle.afr_machine.specs.Answering.{is_single, without_first, at_rest, replied, without_output, without_first_output}
use Rattle.afr_machine.proofs.Tables.{at_same, at_other}
use Rattle.afr_machine.proofs.Keeping.{replied_beside}
use Rattle.afr_laws.specs.Flights.{is_mine, in_locks, in_line, in_outputs, flight, KnowsOf, KnowsFlights, FewOf, FlightsAreFew, IsFlight}
use Rattle.afr_laws.specs.Flights.IsFlight.{NoFlight, OneFlight, OpensFirst, Strayed, StrayedThenUnlocks}
use Rattle.afr_laws.proofs.Bools.{both, both_right}
use Rattle.afr_laws.proofs.Carry.{at_case, few_carry}
use Rattle.afr_laws.proofs.Heard.{is_open_first, Heard, replied_txns}
use Rattle.afr_laws.proofs.Heard.Heard.{Took, Passed, OpenDone, OpenMissed}

-- ---- the front, taken apart

module _ (mine : Sender → Bool) (b : Brick) (by : Sender) (ask : Ask) (answer : Answer) (rest : List Output) (front : b.outputs ≡ Answered by ask answer ∷ rest) where
  popped_flight : List Ask
  popped_flight = flight mine (record b { outputs = without_output b.outputs })

  answered_first : flight mine b ≡ (if mine by then ask ∷ flight mine (record b { outputs = without_output b.outputs }) else flight mine (record b { outputs = without_output b.outputs }))
  answered_first =
      ap (λ (os : List Output). in_outputs mine os ++ (in_locks mine b.waiting ++ in_line mine b.line)) front
      ∙ by_case (mine by)
      ∙ ap (λ (os : List Output). if mine by then ask ∷ (in_outputs mine (without_output os) ++ (in_locks mine b.waiting ++ in_line mine b.line)) else in_outputs mine (without_output os) ++ (in_locks mine b.waiting ++ in_line mine b.line)) (sym front)
    where
      r : List Ask
      r = in_outputs mine rest

      z : List Ask
      z = in_locks mine b.waiting ++ in_line mine b.line

      by_case : (c : Bool) → (if c then ask ∷ in_outputs mine rest else in_outputs mine rest) ++ (in_locks mine b.waiting ++ in_line mine b.line) ≡ (if c then ask ∷ (in_outputs mine rest ++ (in_locks mine b.waiting ++ in_line mine b.line)) else in_outputs mine rest ++ (in_locks mine b.waiting ++ in_line mine b.line))
      by_case true = refl
      by_case false = refl

  pub own_first : mine by ≡ true → flight mine b ≡ ask ∷ flight mine (record b { outputs = without_output b.outputs })
  own_first is = answered_first ∙ ap (λ c. if c then ask ∷ flight mine (record b { outputs = without_output b.outputs }) else flight mine (record b { outputs = without_output b.outputs })) is

  pub other_first : mine by ≡ false → flight mine b ≡ flight mine (record b { outputs = without_output b.outputs })
  other_first is = answered_first ∙ ap (λ c. if c then ask ∷ flight mine (record b { outputs = without_output b.outputs }) else flight mine (record b { outputs = without_output b.outputs })) is

-- a notice at the front is no request
pub notice_first : (mine : Sender → Bool) (b : Brick) (o : Output) (rest : List Output) → b.outputs ≡ o ∷ rest → in_outputs mine (o ∷ rest) ≡ in_outputs mine rest → flight mine b ≡ flight mine (record b { outputs = without_output b.outputs })
notice_first mine b o rest front none =
    ap (λ (os : List Output). in_outputs mine os ++ (in_locks mine b.waiting ++ in_line mine b.line)) front
    ∙ ap (λ r. r ++ (in_locks mine b.waiting ++ in_line mine b.line)) none
    ∙ ap (λ (os : List Output). in_outputs mine (without_output os) ++ (in_locks mine b.waiting ++ in_line mine b.line)) (sym front)

-- ---- shapes

list_head : (a : Ask) (xs : List Ask) (b : Ask) (ys : List Ask) → a ∷ xs ≡ b ∷ ys → a ≡ b
list_head a xs b ys e = cc

list_tail : (a : Ask) (xs : List Ask) (b : Ask) (ys : List Ask) → a ∷ xs ≡ b ∷ ys → xs ≡ ys
list_tail a xs b ys e = cc

pub single_tail : (f : List Ask) (a : Ask) (r : List Ask) → f ≡ a ∷ r → is_single f ≡ true → r ≡ []
single_tail f a [] e s = refl
single_tail f a (x ∷ xs) e s = absurd (let no : false ≡ true = sym (ap is_single e) ∙ s in cc)

module _ (ask : Ask) (r f : List Ask) (first : f ≡ ask ∷ r) where
  -- an answer for which the transaction does not wait
  passed_few : (w o c : Bool) → is_open_first ask ≡ false → (w && is_single f) ≡ false → IsFlight f w o c → IsFlight r w o c
  passed_few w o c plain passes (NoFlight e) = absurd (let no : ask ∷ r ≡ [] = sym first ∙ e in cc)
  passed_few w o c plain passes (OneFlight a e waits current) = absurd (let no : true ≡ false = sym (both _ _ waits (ap is_single e)) ∙ passes in cc)
  passed_few w o c plain passes (OpensFirst a e fd waits current) = absurd (let no : true ≡ false = sym (ap is_open_first (list_head ask r OpenFirst (a ∷ []) (sym first ∙ e))) ∙ plain in cc)
  passed_few w o c plain passes (Strayed a e fd out) = NoFlight (list_tail ask r a [] (sym first ∙ e))
  passed_few w o c plain passes (StrayedThenUnlocks a e fd out waits current) = OneFlight Unlock (list_tail ask r a (Unlock ∷ []) (sym first ∙ e)) waits current

  open_done_few : (w o c : Bool) → IsFlight f w o c → IsFlight r w o c
  open_done_few w o c (NoFlight e) = absurd (let no : ask ∷ r ≡ [] = sym first ∙ e in cc)
  open_done_few w o c (OneFlight a e waits current) = NoFlight (list_tail ask r a [] (sym first ∙ e))
  open_done_few w o c (OpensFirst a e fd waits current) = OneFlight a (list_tail ask r OpenFirst (a ∷ []) (sym first ∙ e)) waits current
  open_done_few w o c (Strayed a e fd out) = NoFlight (list_tail ask r a [] (sym first ∙ e))
  open_done_few w o c (StrayedThenUnlocks a e fd out waits current) = OneFlight Unlock (list_tail ask r a (Unlock ∷ []) (sym first ∙ e)) waits current

  open_missed_few : (w o c : Bool) → ask ≡ OpenFirst → IsFlight f w o c → IsFlight r false true c
  open_missed_few w o c is (NoFlight e) = absurd (let no : ask ∷ r ≡ [] = sym first ∙ e in cc)
  open_missed_few w o c is (OneFlight a e waits current) = NoFlight (list_tail ask r a [] (sym first ∙ e))
  open_missed_few w o c is (OpensFirst a e fd waits current) = Strayed a (list_tail ask r OpenFirst (a ∷ []) (sym first ∙ e)) fd refl
  open_missed_few w o c is (Strayed a e fd out) = NoFlight (list_tail ask r a [] (sym first ∙ e))
  open_missed_few w o c is (StrayedThenUnlocks a e fd out waits current) = absurd (let no : false ≡ true = ap carries_fd (sym is ∙ list_head ask r a (Unlock ∷ []) (sym first ∙ e)) ∙ fd in cc)

-- ---- a reply on the open connection

module _ (m : State) (k : ℕ) (by : Sender) (ask : Ask) (answer : Answer) (rest : List Output) (front : (m.bricks k).outputs ≡ Answered by ask answer ∷ rest)
    (graph : by.graph ≡ (m.txns by.txn).graph) (known : KnowsFlights m) (few : FlightsAreFew m) where
  own_link : (connected : is_current (m.links k by.graph) by.connection ≡ true) → is_mine by.txn (m.links k (m.txns by.txn).graph) by ≡ true
  own_link connected = both _ _ (eq-eqb by.txn by.txn refl) (subst (λ g. is_current (m.links k g) by.connection ≡ true) graph connected)

  others_line : (i : ℕ) → i ≢ by.txn → (link : Link) → is_mine i link by ≡ false
  others_line i ne link = ap (λ b. b && is_current link by.connection) (ne_eqb by.txn i (λ e. ne (sym e)))

  other_knows : (i : ℕ) → ((link : Link) → link ≡ m.links k (m.txns i).graph → is_mine i link by ≡ false) → KnowsOf (without_first_output m k).bricks m.links i (m.txns i)
  other_knows i none j =
      at_case (λ n b. flight (is_mine i (m.links n (m.txns i).graph)) b ≡ (m.txns i).flying n) m.bricks k _
      (sym (other_first (is_mine i (m.links k (m.txns i).graph)) (m.bricks k) by ask answer rest front (none (m.links k (m.txns i).graph) refl)) ∙ known i k)
      j (λ ne. known i j)

  module _ (connected : is_current (m.links k by.graph) by.connection ≡ true) where
    -- the flight of its transaction, with this request first
    pub first_flies : (m.txns by.txn).flying k ≡ ask ∷ flight (is_mine by.txn (m.links k (m.txns by.txn).graph)) (record (m.bricks k) { outputs = without_output (m.bricks k).outputs })
    first_flies = sym (known by.txn k) ∙ own_first (is_mine by.txn (m.links k (m.txns by.txn).graph)) (m.bricks k) by ask answer rest front (own_link connected)

    -- the transaction with a shorter flight
    own_knows : (r : List Ask) → flight (is_mine by.txn (m.links k (m.txns by.txn).graph)) (record (m.bricks k) { outputs = without_output (m.bricks k).outputs }) ≡ r → (y : Txn) → y.graph ≡ (m.txns by.txn).graph → y.flying ≡ with_at (m.txns by.txn).flying k r →
        KnowsOf (without_first_output m k).bricks m.links by.txn y
    own_knows r is y g f j = by_case (cases_eq j k) where
      b1 : Brick
      b1 = record (m.bricks k) { outputs = without_output (m.bricks k).outputs }

      mine : ℕ → Sender → Bool
      mine n = is_mine by.txn (m.links n (m.txns by.txn).graph)

      at_graph : (n : ℕ) (b : Brick) → flight (is_mine by.txn (m.links n y.graph)) b ≡ flight (mine n) b
      at_graph n b = ap (λ (h : ℕ). flight (is_mine by.txn (m.links n h)) b) g

      by_case : (j ≡ k) ⊎ (j ≢ k) → flight (is_mine by.txn (m.links j y.graph)) ((without_first_output m k).bricks j) ≡ y.flying j
      by_case (inl same) =
          subst (λ n. flight (is_mine by.txn (m.links n y.graph)) ((without_first_output m k).bricks n) ≡ y.flying n) (sym same)
          (at_graph k ((without_first_output m k).bricks k) ∙ ap (flight (mine k)) (at_same m.bricks k b1) ∙ is ∙ sym (ap (λ (h : ℕ → List Ask). h k) f ∙ at_same (m.txns by.txn).flying k r))
      by_case (inr other) = at_graph j ((without_first_output m k).bricks j) ∙ ap (flight (mine j)) (at_other m.bricks k b1 j other) ∙ known by.txn j ∙ sym (ap (λ (h : ℕ → List Ask). h j) f ∙ at_other (m.txns by.txn).flying k r j other)

    heard_knows : (y : Txn) → Heard (m.txns by.txn) y k by.connection ask answer → KnowsOf (without_first_output m k).bricks m.links by.txn y
    heard_knows y (Took plain waits same is) =
        own_knows [] (single_tail ((m.txns by.txn).flying k) ask _ first_flies (both_right _ _ waits)) y same.graph same.flying
    heard_knows y (Passed plain passes is) = own_knows (without_first ((m.txns by.txn).flying k)) (sym (ap without_first first_flies)) y (ap (λ (z : Txn). z.graph) is) (ap (λ (z : Txn). z.flying) is)
    heard_knows y (OpenDone opens is) = own_knows (without_first ((m.txns by.txn).flying k)) (sym (ap without_first first_flies)) y (ap (λ (z : Txn). z.graph) is) (ap (λ (z : Txn). z.flying) is)
    heard_knows y (OpenMissed opens is) = own_knows (without_first ((m.txns by.txn).flying k)) (sym (ap without_first first_flies)) y (ap (λ (z : Txn). z.graph) is) (ap (λ (z : Txn). z.flying) is)

    x : Txn
    x = m.txns by.txn

    -- at the brick the flight is shorter, at others it is the same
    shorter_few : (r : List Ask) (w o : ℕ → Bool) → IsFlight r (w k) (o k) (is_current (m.links k (m.txns by.txn).graph) ((m.txns by.txn).asked_on k)) → ((j : ℕ) → j ≢ k → w j ≡ (m.txns by.txn).waits j) → ((j : ℕ) → j ≢ k → o j ≡ (m.txns by.txn).out j) →
        FewOf m.links (record (m.txns by.txn) { flying = with_at (m.txns by.txn).flying k r; waits = w; out = o })
    shorter_few r w o here ws os j = by_case (cases_eq j k) where
      c : ℕ → Bool
      c n = is_current (m.links n (m.txns by.txn).graph) ((m.txns by.txn).asked_on n)

      by_case : (j ≡ k) ⊎ (j ≢ k) → IsFlight (with_at (m.txns by.txn).flying k r j) (w j) (o j) (is_current (m.links j (m.txns by.txn).graph) ((m.txns by.txn).asked_on j))
      by_case (inl same) = subst (λ n. IsFlight (with_at (m.txns by.txn).flying k r n) (w n) (o n) (is_current (m.links n (m.txns by.txn).graph) ((m.txns by.txn).asked_on n))) (sym same)
          (subst (λ f. IsFlight f (w k) (o k) (is_current (m.links k (m.txns by.txn).graph) ((m.txns by.txn).asked_on k))) (sym (at_same (m.txns by.txn).flying k r)) here)
      by_case (inr other) =
          subst (λ f. IsFlight f (w j) (o j) (is_current (m.links j (m.txns by.txn).graph) ((m.txns by.txn).asked_on j))) (sym (at_other (m.txns by.txn).flying k r j other))
          (subst (λ v. IsFlight ((m.txns by.txn).flying j) v (o j) (is_current (m.links j (m.txns by.txn).graph) ((m.txns by.txn).asked_on j))) (sym (ws j other))
          (subst (λ v. IsFlight ((m.txns by.txn).flying j) ((m.txns by.txn).waits j) v (is_current (m.links j (m.txns by.txn).graph) ((m.txns by.txn).asked_on j))) (sym (os j other)) (few by.txn j)))

    tail_is : without_first ((m.txns by.txn).flying k) ≡ flight (is_mine by.txn (m.links k (m.txns by.txn).graph)) (record (m.bricks k) { outputs = without_output (m.bricks k).outputs })
    tail_is = ap without_first first_flies

    heard_few : (y : Txn) → Heard (m.txns by.txn) y k by.connection ask answer → FewOf m.links y
    heard_few y (Took plain waits same is) =
        few_carry m.links (at_rest (m.txns by.txn) k) y same
        (shorter_few [] (with_at (m.txns by.txn).waits k false) (m.txns by.txn).out (NoFlight refl) (λ j ne. at_other (m.txns by.txn).waits k false j ne) (λ j ne. refl))
    heard_few y (Passed plain passes is) =
        subst (FewOf m.links) (sym is)
        (shorter_few (without_first ((m.txns by.txn).flying k)) (m.txns by.txn).waits (m.txns by.txn).out
        (subst (λ r. IsFlight r ((m.txns by.txn).waits k) ((m.txns by.txn).out k) (is_current (m.links k (m.txns by.txn).graph) ((m.txns by.txn).asked_on k))) (sym tail_is)
        (passed_few ask _ ((m.txns by.txn).flying k) first_flies _ _ _ plain passes (few by.txn k))) (λ j ne. refl) (λ j ne. refl))
    heard_few y (OpenDone opens is) =
        subst (FewOf m.links) (sym is)
        (shorter_few (without_first ((m.txns by.txn).flying k)) (m.txns by.txn).waits (m.txns by.txn).out
        (subst (λ r. IsFlight r ((m.txns by.txn).waits k) ((m.txns by.txn).out k) (is_current (m.links k (m.txns by.txn).graph) ((m.txns by.txn).asked_on k))) (sym tail_is)
        (open_done_few ask _ ((m.txns by.txn).flying k) first_flies _ _ _ (few by.txn k))) (λ j ne. refl) (λ j ne. refl))
    heard_few y (OpenMissed opens is) =
        subst (FewOf m.links) (sym is)
        (shorter_few (without_first ((m.txns by.txn).flying k)) (with_at (m.txns by.txn).waits k false) (with_at (m.txns by.txn).out k true)
        (subst (λ w. IsFlight (without_first ((m.txns by.txn).flying k)) w (with_at (m.txns by.txn).out k true k) (is_current (m.links k (m.txns by.txn).graph) ((m.txns by.txn).asked_on k))) (sym (at_same (m.txns by.txn).waits k false))
        (subst (λ o. IsFlight (without_first ((m.txns by.txn).flying k)) false o (is_current (m.links k (m.txns by.txn).graph) ((m.txns by.txn).asked_on k))) (sym (at_same (m.txns by.txn).out k true))
        (subst (λ r. IsFlight r false true (is_current (m.links k (m.txns by.txn).graph) ((m.txns by.txn).asked_on k))) (sym tail_is)
        (open_missed_few ask _ ((m.txns by.txn).flying k) first_flies _ _ _ opens (few by.txn k)))))
        (λ j ne. at_other (m.txns by.txn).waits k false j ne) (λ j ne. at_other (m.txns by.txn).out k true j ne))

    pub replied_knows : (i : ℕ) → KnowsOf (replied (without_first_output m k) k by ask answer).bricks (replied (without_first_output m k) k by ask answer).links i ((replied (without_first_output m k) k by ask answer).txns i)
    replied_knows i =
        let m1 = without_first_output m k in
        let b = replied_beside m1 k by ask answer in
        let r = replied_txns m1 k by ask answer in
        subst (λ (bricks : ℕ → Brick). KnowsOf bricks (replied m1 k by ask answer).links i ((replied m1 k by ask answer).txns i)) (sym b.bricks)
        (subst (λ (links : ℕ → ℕ → Link). KnowsOf m1.bricks links i ((replied m1 k by ask answer).txns i)) (sym b.links)
        (subst (λ (txns : ℕ → Txn). KnowsOf m1.bricks m.links i (txns i)) (sym r.is)
        (at_case (λ n y. KnowsOf m1.bricks m.links n y) m.txns by.txn r.after (heard_knows r.after r.heard) i (λ ne. other_knows i (λ link is. others_line i ne link)))))

    pub replied_few : (i : ℕ) → FewOf (replied (without_first_output m k) k by ask answer).links ((replied (without_first_output m k) k by ask answer).txns i)
    replied_few i =
        let m1 = without_first_output m k in
        let b = replied_beside m1 k by ask answer in
        let r = replied_txns m1 k by ask answer in
        subst (λ (links : ℕ → ℕ → Link). FewOf links ((replied m1 k by ask answer).txns i)) (sym b.links)
        (subst (λ (txns : ℕ → Txn). FewOf m.links (txns i)) (sym r.is)
        (at_case (λ n y. FewOf m.links y) m.txns by.txn r.after (heard_few r.after r.heard) i (λ ne. few i)))

  -- a reply on another connection is nobody's
  pub late_knows : is_current (m.links k by.graph) by.connection ≡ false → KnowsFlights (without_first_output m k)
  late_knows late i = other_knows i (λ link is. by_case (cases_eq by.txn i) link is) where
    by_case : (by.txn ≡ i) ⊎ (by.txn ≢ i) → (link : Link) → link ≡ m.links k (m.txns i).graph → is_mine i link by ≡ false
    by_case (inl same) link is =
        let g : m.links k (m.txns i).graph ≡ m.links k by.graph = ap (m.links k) (ap (λ n. (m.txns n).graph) (sym same) ∙ sym graph) in
        and_none (by.txn == i) (ap (λ (l : Link). is_current l by.connection) (is ∙ g) ∙ late)
      where
        and_none : (a : Bool) {b : Bool} → b ≡ false → (a && b) ≡ false
        and_none true e = e
        and_none false e = refl
    by_case (inr other) link is = ap (λ b. b && is_current link by.connection) (ne_eqb by.txn i other)
