-- The requests in a brick's line of the transaction that a granted lock is of: they alter nothing, while it gathers rows.
use Rattle.std.proofs.Common.{◌≡◌, ◌∙◌, ℕ, Bool, true, false, refl, sym, ap, subst, arith, length}
use Rattle.std.specs.Prelude.{if◌then◌else◌, List, [], ◌∷◌, ◌++◌, ◌||◌, not}
use Rattle.std.proofs.lemmas.Bool.{eq-eqb}
use Rattle.afr_machine.specs.Requests.{Sender, Ask, Input}
use Rattle.afr_machine.specs.Requests.Ask.{Lock}
use Rattle.afr_machine.specs.Requests.Input.{Asked, Steered}
use Rattle.afr_machine.specs.Locks.{BrickLock}
use Rattle.afr_machine.specs.Transactions.{Grant}
use Rattle.afr_machine.specs.States.{State, is_current}
use Rattle.afr_laws.specs.Senders.{EachInput}
use Rattle.afr_laws.specs.Numbered.{IsNumbered}
use Rattle.afr_laws.specs.Flights.{is_mine, in_locks, in_line, in_outputs, is_lock, any_lock, AreOnTheirWay}
use Rattle.afr_laws.specs.Connections.{is_control_of, has_control, IsOrdered, ConnectsComeFirst}
use Rattle.afr_laws.specs.Apart.{IsGranting, Holds, IsGranted}
use Rattle.afr_laws.specs.Covered.{alters, GrantsStand}
use Rattle.afr_laws.specs.Standing.{is_gathering, any_alters, GatheringIsCalm}
use Rattle.afr_laws.proofs.Bools.{or_right, both, both_left, neither_left, neither_right}
use Rattle.afr_laws.proofs.Carry.{flight_alone}
use Rattle.afr_laws.proofs.Unlocks.{granted_flies, granted_sender, lock_left}
use Rattle.afr_laws.proofs.Apart.Back.{granting_in}

-- ---- lists

calm_right : (xs ys : List Ask) → any_alters (xs ++ ys) ≡ false → any_alters ys ≡ false
calm_right [] ys h = h
calm_right (x ∷ xs) ys h = calm_right xs ys (neither_right (alters x) (any_alters (xs ++ ys)) h)

lock_calm : (ask : Ask) → is_lock ask ≡ true → alters ask ≡ false
lock_calm (Lock shared cells) h = refl
lock_calm other h = absurd cc

-- a lock alone
alone_calm : (asks : List Ask) → any_lock asks ≡ true → length asks ≡ 1 → any_alters asks ≡ false
alone_calm [] has one = absurd cc
alone_calm (a ∷ []) has one = ap (λ b. b || false) (lock_calm a (sym (or_right (is_lock a)) ∙ has))
alone_calm (a ∷ (b ∷ rest)) has one = absurd (omega (arith, one))

-- requests of the open connection are among those on their way
module _ (m : State) (k t : ℕ) where
  tail_calm : (b : Bool) (ask : Ask) (rest : List Ask) → any_alters (if b then ask ∷ rest else rest) ≡ false → any_alters rest ≡ false
  tail_calm true ask rest h = neither_right (alters ask) (any_alters rest) h
  tail_calm false ask rest h = h

  pub each_calm : (line : List Input) → EachInput (IsNumbered m k) line → IsOrdered (m.txns t).graph (m.links k (m.txns t).graph) line → has_control (m.txns t).graph line ≡ false →
      any_alters (in_line (is_mine t (m.links k (m.txns t).graph)) line) ≡ false → EachInput (λ by ask. by.txn ≡ t → alters ask ≡ false) line
  each_calm [] n o none h = tt
  each_calm (Asked by ask ∷ is) n o none h = (here, each_calm is n.1 o.1 none (tail_calm (is_mine t (m.links k (m.txns t).graph) by) ask (in_line (is_mine t (m.links k (m.txns t).graph)) is) h)) where
    here : by.txn ≡ t → alters ask ≡ false
    here same =
        let current : is_current (m.links k (m.txns t).graph) by.connection ≡ true = o.0 (n.0.graph ∙ ap (λ i. (m.txns i).graph) same) ∙ ap not none in
        let own : is_mine t (m.links k (m.txns t).graph) by ≡ true = both _ _ (eq-eqb by.txn t same) current in
        neither_left (alters ask) (any_alters (in_line (is_mine t (m.links k (m.txns t).graph)) is))
        (sym (ap (λ b. any_alters (if b then ask ∷ in_line (is_mine t (m.links k (m.txns t).graph)) is else in_line (is_mine t (m.links k (m.txns t).graph)) is)) own) ∙ h)
  each_calm (Steered control ∷ is) n o none h = each_calm is n o (neither_right (is_control_of (m.txns t).graph control) (has_control (m.txns t).graph is) none) h

  line_calm : AreOnTheirWay m → any_alters ((m.txns t).flying k) ≡ false → any_alters (in_line (is_mine t (m.links k (m.txns t).graph)) (m.bricks k).line) ≡ false
  line_calm way h =
      let mine = is_mine t (m.links k (m.txns t).graph) in
      let o : List Ask = in_outputs mine (m.bricks k).outputs in
      let w : List Ask = in_locks mine (m.bricks k).waiting in
      let l : List Ask = in_line mine (m.bricks k).line in
      calm_right w l (calm_right o (w ++ l) (ap any_alters (way.known t k) ∙ h))

module _ (m : State) (way : AreOnTheirWay m) (first : ConnectsComeFirst m) (stands : GrantsStand m) (k : ℕ) (lock : BrickLock) where
  of_line : (x : IsGranted m k lock) → is_current (m.links k lock.by.graph) lock.by.connection ≡ true → lock.by.graph ≡ (m.txns lock.by.txn).graph → any_alters ((m.txns lock.by.txn).flying k) ≡ false → EachInput (λ by ask. by.txn ≡ lock.by.txn → alters ask ≡ false) (m.bricks k).line
  of_line x current graph calm =
      each_calm m k lock.by.txn (m.bricks k).line (way.numbered k).line
      (subst (λ g. IsOrdered g (m.links k g) (m.bricks k).line) graph (first k lock.by.graph (both_left _ _ current)).line)
      (subst (λ g. has_control g (m.bricks k).line ≡ false) graph (stands k lock x).behind)
      (line_calm m k lock.by.txn way calm)

  -- the grant is on its way: its request is all that is
  pub coming_calm : (x : IsGranted m k lock) → (is_current (m.links k lock.by.graph) lock.by.connection ≡ true) → IsGranting lock (m.bricks k).outputs → EachInput (λ by ask. by.txn ≡ lock.by.txn → alters ask ≡ false) (m.bricks k).line
  coming_calm x current granting = of_line x current graph (alone_calm ((m.txns lock.by.txn).flying k) has (flight_alone ((m.txns lock.by.txn).flying k) _ _ _ (way.few lock.by.txn k) has)) where
    graph : lock.by.graph ≡ (m.txns lock.by.txn).graph
    graph = (granted_sender (IsNumbered m k) lock (m.bricks k).outputs (way.numbered k).outputs (granting_in lock (m.bricks k).outputs granting)).1.graph

    mine : Sender → Bool
    mine = is_mine lock.by.txn (m.links k (m.txns lock.by.txn).graph)

    own : is_mine lock.by.txn (m.links k (m.txns lock.by.txn).graph) lock.by ≡ true
    own = both _ _ (eq-eqb lock.by.txn lock.by.txn refl) (subst (λ g. is_current (m.links k g) lock.by.connection ≡ true) graph current)

    has : any_lock ((m.txns lock.by.txn).flying k) ≡ true
    has =
        ap any_lock (sym (way.known lock.by.txn k))
        ∙ lock_left (in_outputs (is_mine lock.by.txn (m.links k (m.txns lock.by.txn).graph)) (m.bricks k).outputs) (in_locks (is_mine lock.by.txn (m.links k (m.txns lock.by.txn).graph)) (m.bricks k).waiting ++ in_line (is_mine lock.by.txn (m.links k (m.txns lock.by.txn).graph)) (m.bricks k).line)
        (granted_flies (is_mine lock.by.txn (m.links k (m.txns lock.by.txn).graph)) lock own (m.bricks k).outputs (granting_in lock (m.bricks k).outputs granting))

  -- the grant was handed in, and its transaction gathers rows
  pub handed_calm : GatheringIsCalm m → (t : ℕ) (grant : Grant) → Holds m t k grant → (x : IsGranted m k lock) → lock.by.txn ≡ t → lock.by.graph ≡ (m.txns t).graph → lock.by.connection ≡ grant.connection → is_gathering (m.txns t).stage ≡ true → EachInput (λ by ask. by.txn ≡ lock.by.txn → alters ask ≡ false) (m.bricks k).line
  handed_calm calm t grant h x of_txn of_graph of_connection gathering =
      of_line x (subst (λ g. is_current (m.links k g) lock.by.connection ≡ true) (sym of_graph) (subst (λ c. is_current (m.links k (m.txns t).graph) c ≡ true) (sym of_connection) h.still_open)) (of_graph ∙ ap (λ n. (m.txns n).graph) (sym of_txn))
      (subst (λ n. any_alters ((m.txns n).flying k) ≡ false) (sym of_txn) (calm t gathering k grant h.granted))
