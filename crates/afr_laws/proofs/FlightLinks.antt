-- Connections that open and end, a transaction that begins, a wind that is bailed.
use Rattle.std.proofs.Common.{◌≡◌, ◌∙◌, ℕ, ◌+◌, ◌≤◌, Bool, true, false, refl, sym, ap, subst, ◌⊎◌, inl, inr, arith}
use Rattle.std.specs.Prelude.{if◌then◌else◌, List, [], ◌∷◌, ◌≢◌, ◌==◌, ◌&&◌}
use Rattle.std.proofs.lemmas.Bool.{cases_eq, ne_eqb}
use Rattle.fop_types.specs.declared.jobs.Job.{Job}
use Rattle.afr_machine.specs.Replicas.{with_at}
use Rattle.afr_machine.specs.Requests.{Sender, Ask, Control}
use Rattle.afr_machine.specs.Requests.Input.{Steered}
use Rattle.afr_machine.specs.Transactions.{Txn, new_txn}
use Rattle.afr_machine.specs.States.{State, Link, is_current, with_link, with_inputs}
use Rattle.afr_machine.specs.Answering.{closed, forgetting, without_links, missing}
use Rattle.afr_machine.proofs.Tables.{at_same, at_other}
use Rattle.afr_laws.specs.Numbered.{IsNumbered, AreNumbered}
use Rattle.afr_laws.specs.Flights.{is_mine, flight, KnowsOf, KnowsFlights, FewOf, FlightsAreFew, IsFlight}
use Rattle.afr_laws.specs.Flights.IsFlight.{NoFlight, OneFlight, OpensFirst, Strayed, StrayedThenUnlocks}
use Rattle.afr_laws.proofs.Carry.{at_case, each_map, none_mine, none_on_closed}
use Rattle.afr_laws.proofs.FlightAsks.{no_more_line}

-- ---- a control is put in a line

module _ (m : State) (k : ℕ) (control : Control) where
  pub controlled_knows : KnowsFlights m → KnowsFlights (with_inputs m k (Steered control ∷ []))
  controlled_knows known i j =
      at_case (λ n b. flight (is_mine i (m.links n (m.txns i).graph)) b ≡ (m.txns i).flying n) m.bricks k _
      (no_more_line (is_mine i (m.links k (m.txns i).graph)) (m.bricks k) (Steered control ∷ []) refl ∙ known i k) j (λ ne. known i j)

-- ---- connections end

module _ (m : State) (k : ℕ) (ends : ℕ → Bool) where
  ended : ℕ → ℕ → Link
  ended = (without_links m k ends).links

  link_other : (j g : ℕ) → j ≢ k → (without_links m k ends).links j g ≡ m.links j g
  link_other j g ne = ap (λ (f : ℕ → Link). f g) (at_other m.links k (λ h. if ends h then closed (m.links k h) else m.links k h) j ne)

  link_here : (g : ℕ) → (without_links m k ends).links k g ≡ (if ends g then closed (m.links k g) else m.links k g)
  link_here g = ap (λ (f : ℕ → Link). f g) (at_same m.links k (λ h. if ends h then closed (m.links k h) else m.links k h))

  module _ (known : KnowsFlights m) (few : FlightsAreFew m) (i : ℕ) where
    -- a graph whose connection stays
    stays_link : ends (m.txns i).graph ≡ false → (j : ℕ) → (without_links m k ends).links j (m.txns i).graph ≡ m.links j (m.txns i).graph
    stays_link stays j = by_case (cases_eq j k) where
      by_case : (j ≡ k) ⊎ (j ≢ k) → (without_links m k ends).links j (m.txns i).graph ≡ m.links j (m.txns i).graph
      by_case (inl same) = subst (λ n. (without_links m k ends).links n (m.txns i).graph ≡ m.links n (m.txns i).graph) (sym same) (link_here (m.txns i).graph ∙ ap (λ b. if b then closed (m.links k (m.txns i).graph) else m.links k (m.txns i).graph) stays)
      by_case (inr other) = link_other j (m.txns i).graph other

    ends_knows : ends (m.txns i).graph ≡ true → KnowsOf m.bricks (without_links m k ends).links i (record (m.txns i) { flying = with_at (m.txns i).flying k [] })
    ends_knows over j = by_case (cases_eq j k) where
      by_case : (j ≡ k) ⊎ (j ≢ k) → flight (is_mine i ((without_links m k ends).links j (m.txns i).graph)) (m.bricks j) ≡ with_at (m.txns i).flying k [] j
      by_case (inl same) =
          subst (λ n. flight (is_mine i ((without_links m k ends).links n (m.txns i).graph)) (m.bricks n) ≡ with_at (m.txns i).flying k [] n) (sym same)
          (none_on_closed i ((without_links m k ends).links k (m.txns i).graph) (m.bricks k) (ap (λ (l : Link). l.is_open) (link_here (m.txns i).graph ∙ ap (λ b. if b then closed (m.links k (m.txns i).graph) else m.links k (m.txns i).graph) over))
          ∙ sym (at_same (m.txns i).flying k []))
      by_case (inr other) = ap (λ (l : Link). flight (is_mine i l) (m.bricks j)) (link_other j (m.txns i).graph other) ∙ known i j ∙ sym (at_other (m.txns i).flying k [] j other)

    ends_few : ends (m.txns i).graph ≡ true → FewOf (without_links m k ends).links (record (m.txns i) { flying = with_at (m.txns i).flying k [] })
    ends_few over j = by_case (cases_eq j k) where
      c : ℕ → Bool
      c n = is_current ((without_links m k ends).links n (m.txns i).graph) ((m.txns i).asked_on n)

      by_case : (j ≡ k) ⊎ (j ≢ k) → IsFlight (with_at (m.txns i).flying k [] j) ((m.txns i).waits j) ((m.txns i).out j) (is_current ((without_links m k ends).links j (m.txns i).graph) ((m.txns i).asked_on j))
      by_case (inl same) = NoFlight (ap (with_at (m.txns i).flying k []) same ∙ at_same (m.txns i).flying k [])
      by_case (inr other) =
          subst (λ f. IsFlight f ((m.txns i).waits j) ((m.txns i).out j) (is_current ((without_links m k ends).links j (m.txns i).graph) ((m.txns i).asked_on j))) (sym (at_other (m.txns i).flying k [] j other))
          (subst (λ (l : Link). IsFlight ((m.txns i).flying j) ((m.txns i).waits j) ((m.txns i).out j) (is_current l ((m.txns i).asked_on j))) (sym (link_other j (m.txns i).graph other)) (few i j))

    pub unlinked_knows : KnowsOf m.bricks (without_links m k ends).links i (forgetting ends k (m.txns i))
    unlinked_knows = by_case (ends (m.txns i).graph) refl where
      by_case : (b : Bool) → ends (m.txns i).graph ≡ b → KnowsOf m.bricks (without_links m k ends).links i (if b then record (m.txns i) { flying = with_at (m.txns i).flying k [] } else m.txns i)
      by_case true over = ends_knows over
      by_case false stays = λ j. ap (λ (l : Link). flight (is_mine i l) (m.bricks j)) (stays_link stays j) ∙ known i j

    pub unlinked_few : FewOf (without_links m k ends).links (forgetting ends k (m.txns i))
    unlinked_few = by_case (ends (m.txns i).graph) refl where
      by_case : (b : Bool) → ends (m.txns i).graph ≡ b → FewOf (without_links m k ends).links (if b then record (m.txns i) { flying = with_at (m.txns i).flying k [] } else m.txns i)
      by_case true over = ends_few over
      by_case false stays = λ j. subst (λ (l : Link). IsFlight ((m.txns i).flying j) ((m.txns i).waits j) ((m.txns i).out j) (is_current l ((m.txns i).asked_on j))) (sym (stays_link stays j)) (few i j)

-- ---- a connection opens

module _ (m : State) (k g : ℕ) (closed_yet : (m.links k g).is_open ≡ false) (numbered : AreNumbered m) (known : KnowsFlights m) (few : FlightsAreFew m) where
  next : Link
  next = record { last = (m.links k g).last + 1; is_open = true }

  new_links : ℕ → ℕ → Link
  new_links = with_at m.links k (with_at (m.links k) g (record { last = (m.links k g).last + 1; is_open = true }))

  nobodys : (i : ℕ) → (m.txns i).graph ≡ g → flight (is_mine i (record { last = (m.links k g).last + 1; is_open = true })) (m.bricks k) ≡ []
  nobodys i of_graph =
      none_mine (is_mine i (record { last = (m.links k g).last + 1; is_open = true })) (m.bricks k)
      (each_map (IsNumbered m k) (λ by ask. is_mine i (record { last = (m.links k g).last + 1; is_open = true }) by ≡ false) (λ by ask n. by_case by (cases_eq by.txn i) n.connection n.graph) (m.bricks k) (numbered k))
    where
      and_none : (a b : Bool) → b ≡ false → (a && b) ≡ false
      and_none true b e = e
      and_none false b e = refl

      by_case : (by : Sender) → (by.txn ≡ i) ⊎ (by.txn ≢ i) → by.connection ≤ (m.links k by.graph).last → by.graph ≡ (m.txns by.txn).graph → ((by.txn == i) && (true && (by.connection == (m.links k g).last + 1))) ≡ false
      by_case by (inl same) low graph =
          let at_g : by.graph ≡ g = graph ∙ ap (λ n. (m.txns n).graph) same ∙ of_graph in
          let low' : by.connection ≤ (m.links k g).last = subst (λ h. by.connection ≤ (m.links k h).last) at_g low in
          and_none (by.txn == i) (by.connection == (m.links k g).last + 1) (ne_eqb by.connection ((m.links k g).last + 1) (λ e. absurd (omega arith)))
      by_case by (inr other) low graph = ap (λ b. b && (true && (by.connection == (m.links k g).last + 1))) (ne_eqb by.txn i other)

  empty_here : (i : ℕ) → (m.txns i).graph ≡ g → (m.txns i).flying k ≡ []
  empty_here i of_graph = sym (known i k) ∙ none_on_closed i (m.links k (m.txns i).graph) (m.bricks k) (subst (λ h. (m.links k h).is_open ≡ false) (sym of_graph) closed_yet)

  -- the connection of a transaction at a brick: the new one, or as it was
  link_cases : (j h : ℕ) → ((j ≡ k) × (h ≡ g)) ⊎ (with_at m.links k (with_at (m.links k) g (record { last = (m.links k g).last + 1; is_open = true })) j h ≡ m.links j h)
  link_cases j h = by_case (cases_eq j k) (cases_eq h g) where
    t : ℕ → Link
    t = with_at (m.links k) g (record { last = (m.links k g).last + 1; is_open = true })

    by_case : (j ≡ k) ⊎ (j ≢ k) → (h ≡ g) ⊎ (h ≢ g) → ((j ≡ k) × (h ≡ g)) ⊎ (with_at m.links k (with_at (m.links k) g (record { last = (m.links k g).last + 1; is_open = true })) j h ≡ m.links j h)
    by_case (inl a) (inl b) = inl (a, b)
    by_case (inl a) (inr b) = inr (subst (λ n. with_at m.links k (with_at (m.links k) g (record { last = (m.links k g).last + 1; is_open = true })) n h ≡ m.links n h) (sym a)
        (ap (λ (f : ℕ → Link). f h) (at_same m.links k (with_at (m.links k) g (record { last = (m.links k g).last + 1; is_open = true }))) ∙ at_other (m.links k) g (record { last = (m.links k g).last + 1; is_open = true }) h b))
    by_case (inr a) b = inr (ap (λ (f : ℕ → Link). f h) (at_other m.links k (with_at (m.links k) g (record { last = (m.links k g).last + 1; is_open = true })) j a))

  link_new : with_at m.links k (with_at (m.links k) g (record { last = (m.links k g).last + 1; is_open = true })) k g ≡ record { last = (m.links k g).last + 1; is_open = true }
  link_new = ap (λ (f : ℕ → Link). f g) (at_same m.links k (with_at (m.links k) g (record { last = (m.links k g).last + 1; is_open = true }))) ∙ at_same (m.links k) g (record { last = (m.links k g).last + 1; is_open = true })

  pub linked_knows : KnowsFlights (with_link m k g (record { last = (m.links k g).last + 1; is_open = true }))
  linked_knows i j = by_case (link_cases j (m.txns i).graph) where
    by_case : ((j ≡ k) × ((m.txns i).graph ≡ g)) ⊎ (with_at m.links k (with_at (m.links k) g (record { last = (m.links k g).last + 1; is_open = true })) j (m.txns i).graph ≡ m.links j (m.txns i).graph) →
        flight (is_mine i (with_at m.links k (with_at (m.links k) g (record { last = (m.links k g).last + 1; is_open = true })) j (m.txns i).graph)) (m.bricks j) ≡ (m.txns i).flying j
    by_case (inl here) =
        subst (λ n. flight (is_mine i (with_at m.links k (with_at (m.links k) g (record { last = (m.links k g).last + 1; is_open = true })) n (m.txns i).graph)) (m.bricks n) ≡ (m.txns i).flying n) (sym here.0)
        (ap (λ h. flight (is_mine i (with_at m.links k (with_at (m.links k) g (record { last = (m.links k g).last + 1; is_open = true })) k h)) (m.bricks k)) here.1
        ∙ ap (λ (l : Link). flight (is_mine i l) (m.bricks k)) link_new ∙ nobodys i here.1 ∙ sym (empty_here i here.1))
    by_case (inr same) = ap (λ (l : Link). flight (is_mine i l) (m.bricks j)) same ∙ known i j

  pub linked_few : FlightsAreFew (with_link m k g (record { last = (m.links k g).last + 1; is_open = true }))
  linked_few i j = by_case (link_cases j (m.txns i).graph) where
    by_case : ((j ≡ k) × ((m.txns i).graph ≡ g)) ⊎ (with_at m.links k (with_at (m.links k) g (record { last = (m.links k g).last + 1; is_open = true })) j (m.txns i).graph ≡ m.links j (m.txns i).graph) →
        IsFlight ((m.txns i).flying j) ((m.txns i).waits j) ((m.txns i).out j) (is_current (with_at m.links k (with_at (m.links k) g (record { last = (m.links k g).last + 1; is_open = true })) j (m.txns i).graph) ((m.txns i).asked_on j))
    by_case (inl here) = NoFlight (ap (m.txns i).flying here.0 ∙ empty_here i here.1)
    by_case (inr same) = subst (λ (l : Link). IsFlight ((m.txns i).flying j) ((m.txns i).waits j) ((m.txns i).out j) (is_current l ((m.txns i).asked_on j))) (sym same) (few i j)

-- ---- a transaction begins

pub begun_knows : (m : State) (t graph : ℕ) (job : Job) → t ≡ m.begun + 1 → AreNumbered m → KnowsOf m.bricks m.links t (new_txn graph job)
begun_knows m t graph job is numbered k =
    none_mine (is_mine t (m.links k graph)) (m.bricks k)
    (each_map (IsNumbered m k) (λ by ask. is_mine t (m.links k graph) by ≡ false) (λ by ask n. ap (λ b. b && is_current (m.links k graph) by.connection) (ne_eqb by.txn t (λ e. absurd (omega (arith, n.begun))))) (m.bricks k) (numbered k))

-- ---- the Gone of a bailed wind

pub bailed_few : (m : State) (t k : ℕ) → is_current (m.links k (m.txns t).graph) ((m.txns t).asked_on k) ≡ false → FewOf m.links (m.txns t) → FewOf m.links (missing (record (m.txns t) { waits = with_at (m.txns t).waits k false }) k)
bailed_few m t k over few j = by_case (cases_eq j k) where
  x : Txn
  x = m.txns t

  here : (f : List Ask) (w o c : Bool) → c ≡ false → IsFlight f w o c → IsFlight f false true c
  here f w o c over (NoFlight e) = NoFlight e
  here f w o c over (OneFlight ask e waits current) = absurd (let no : true ≡ false = sym current ∙ over in cc)
  here f w o c over (OpensFirst ask e fd waits current) = absurd (let no : true ≡ false = sym current ∙ over in cc)
  here f w o c over (Strayed ask e fd out) = Strayed ask e fd refl
  here f w o c over (StrayedThenUnlocks ask e fd out waits current) = absurd (let no : true ≡ false = sym current ∙ over in cc)

  by_case : (j ≡ k) ⊎ (j ≢ k) → IsFlight ((m.txns t).flying j) (with_at (m.txns t).waits k false j) (with_at (m.txns t).out k true j) (is_current (m.links j (m.txns t).graph) ((m.txns t).asked_on j))
  by_case (inl same) =
      subst (λ n. IsFlight ((m.txns t).flying n) (with_at (m.txns t).waits k false n) (with_at (m.txns t).out k true n) (is_current (m.links n (m.txns t).graph) ((m.txns t).asked_on n))) (sym same)
      (subst (λ w. IsFlight ((m.txns t).flying k) w (with_at (m.txns t).out k true k) (is_current (m.links k (m.txns t).graph) ((m.txns t).asked_on k))) (sym (at_same (m.txns t).waits k false))
      (subst (λ o. IsFlight ((m.txns t).flying k) false o (is_current (m.links k (m.txns t).graph) ((m.txns t).asked_on k))) (sym (at_same (m.txns t).out k true))
      (here ((m.txns t).flying k) ((m.txns t).waits k) ((m.txns t).out k) (is_current (m.links k (m.txns t).graph) ((m.txns t).asked_on k)) over (few k))))
  by_case (inr other) =
      subst (λ w. IsFlight ((m.txns t).flying j) w (with_at (m.txns t).out k true j) (is_current (m.links j (m.txns t).graph) ((m.txns t).asked_on j))) (sym (at_other (m.txns t).waits k false j other))
      (subst (λ o. IsFlight ((m.txns t).flying j) ((m.txns t).waits j) o (is_current (m.links j (m.txns t).graph) ((m.txns t).asked_on j))) (sym (at_other (m.txns t).out k true j other)) (few j))
