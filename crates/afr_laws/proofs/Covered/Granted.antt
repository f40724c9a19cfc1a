-- A granted lock is held unless the brick lost its graph's connection, over every list of steps.
use Rattle.std.proofs.Common.{◌≡◌, ◌∙◌, ℕ, ◌+◌, ◌≤◌, Bool, true, false, refl, sym, ap, subst, ◌⊎◌, inl, inr, arith}
use Rattle.std.specs.Prelude.{List, [], ◌∷◌}
use Rattle.std.proofs.lemmas.Bool.{eqb-true, ne_eqb}
use Rattle.afr_machine.specs.Replicas.{Size, with_at}
use Rattle.afr_machine.specs.Requests.{Sender, Ask, Control, Input}
use Rattle.afr_machine.specs.Requests.Ask.{Unlock}
use Rattle.afr_machine.specs.Requests.Input.{Asked, Steered}
use Rattle.afr_machine.specs.Locks.{BrickLock}
use Rattle.afr_machine.specs.Bricks.{Brick, steered}
use Rattle.afr_machine.specs.States.{State, Link, is_current}
use Rattle.afr_machine.specs.Sending.{asks_of, sender_of}
use Rattle.afr_machine.specs.Steps.{Step, Allowed, after, IsReached}
use Rattle.afr_machine.specs.Moves.{IsTaken, BrickMove}
use Rattle.afr_machine.specs.Moves.BrickMove.{Stays, Takes, Hands, Serves, Refuses, GivesUp, Steers}
use Rattle.afr_machine.proofs.Tables.{at_same}
use Rattle.afr_machine.proofs.BrickMoves.{bricks_move}
use Rattle.afr_laws.specs.Senders.{EachInput}
use Rattle.afr_laws.specs.Numbered.{IsNumbered}
use Rattle.afr_laws.specs.Locks.{HeldApart}
use Rattle.afr_laws.specs.Connections.{is_control_of, has_control, ConnectsComeFirst}
use Rattle.afr_laws.specs.Grants.{IsAmong, has_closed, GrantsAreHeld}
use Rattle.afr_laws.specs.Apart.{IsGranted}
use Rattle.afr_laws.specs.Apart.IsGranted.{HandedIn, OnItsWay}
use Rattle.afr_laws.specs.Covered.{GrantsStand}
use Rattle.afr_laws.proofs.Bools.{both_left, neither, neither_left, neither_right, is_or_not, apart_bools}
use Rattle.afr_laws.proofs.Connecting.{has_append, served_line, steered_line}
use Rattle.afr_laws.proofs.ConnectsFirst.{no_control, alone_control, cut_closed, connects_come_first}
use Rattle.afr_laws.proofs.Flying.{on_their_way}
use Rattle.afr_laws.proofs.Waiting.{waits_fit}
use Rattle.afr_laws.proofs.Holding.{drops}
use Rattle.afr_laws.proofs.Unlocks.{granted_sender, controlled_none, behind_front}
use Rattle.afr_laws.proofs.Grants.{Rests, drops_unlock, handed_stop, coming_stop, grants_are_held}
use Rattle.afr_laws.proofs.HeldApart.{held_apart}
use Rattle.afr_laws.proofs.Apart.Pairs.{granted_held}
use Rattle.afr_laws.proofs.Apart.Back.{GrantsBack, granting_in}
use Rattle.afr_laws.proofs.Apart.Steps.{start_none, step_back}
use Rattle.afr_laws.proofs.Covered.Kept.{served_among, served_connected, steered_among, steered_connected}

-- ---- one move of the brick, a lock that was granted before

module _ (may : List Input → Type 0) (old new : Brick) (g : ℕ) where
  pub move_behind : BrickMove may old new → ((inputs : List Input) → may inputs → has_control g inputs ≡ false) → has_control g old.line ≡ false → has_control g new.line ≡ false
  move_behind (Stays is) taken none = ap (λ (b : Brick). has_control g b.line) is ∙ none
  move_behind (Takes inputs its is) taken none = ap (λ (b : Brick). has_control g b.line) is ∙ has_append g old.line inputs ∙ neither _ _ none (taken inputs its)
  move_behind (Hands first rest front is) taken none = ap (λ (b : Brick). has_control g b.line) is ∙ none
  move_behind (Serves by ask rest front served is) taken none = ap (λ (b : Brick). has_control g b.line) is ∙ ap (has_control g) (served_line old.power by ask (record old { line = rest })) ∙ sym (ap (has_control g) front) ∙ none
  move_behind (Refuses by ask answer rest front may refusal is) taken none = ap (λ (b : Brick). has_control g b.line) is ∙ sym (ap (has_control g) front) ∙ none
  move_behind (GivesUp by ask rest front served is) taken none = ap (λ (b : Brick). has_control g b.line) is ∙ sym (ap (has_control g) front) ∙ none
  move_behind (Steers control rest front is) taken none =
      ap (λ (b : Brick). has_control g b.line) is ∙ ap (has_control g) (steered_line control (record old { line = rest })) ∙ neither_right (is_control_of g control) (has_control g rest) (sym (ap (has_control g) front) ∙ none)

module _ (may : List Input → Type 0) (old new : Brick) (lock : BrickLock) (none : has_control lock.by.graph old.line ≡ false) (held : old.connected lock.by.graph ≡ true → IsAmong lock old.held)
    (stop : (by : Sender) (ask : Ask) (rest : List Input) → old.line ≡ Asked by ask ∷ rest → drops ask by lock ≡ true → ⊥) where
  keeps : (by : Sender) (ask : Ask) (rest : List Input) → old.line ≡ Asked by ask ∷ rest → drops ask by lock ≡ false
  keeps by ask rest front = by_case (is_or_not (drops ask by lock)) where
    by_case : (drops ask by lock ≡ true) ⊎ (drops ask by lock ≡ false) → drops ask by lock ≡ false
    by_case (inl dropped) = absurd (stop by ask rest front dropped)
    by_case (inr kept) = kept

  pub move_held : BrickMove may old new → new.connected lock.by.graph ≡ true → IsAmong lock new.held
  move_held (Stays is) c = subst (λ (b : Brick). IsAmong lock b.held) (sym is) (held (sym (ap (λ (b : Brick). b.connected lock.by.graph) is) ∙ c))
  move_held (Takes inputs its is) c = subst (λ (b : Brick). IsAmong lock b.held) (sym is) (held (sym (ap (λ (b : Brick). b.connected lock.by.graph) is) ∙ c))
  move_held (Hands first rest front is) c = subst (λ (b : Brick). IsAmong lock b.held) (sym is) (held (sym (ap (λ (b : Brick). b.connected lock.by.graph) is) ∙ c))
  move_held (Serves by ask rest front served is) c =
      subst (λ (b : Brick). IsAmong lock b.held) (sym is)
      (served_among lock (record old { line = rest }) (held (sym (ap (λ (b : Brick). b.connected lock.by.graph) is ∙ ap (λ (f : ℕ → Bool). f lock.by.graph) (served_connected (record old { line = rest }) old.power by ask)) ∙ c)) old.power by ask (keeps by ask rest front))
  move_held (Refuses by ask answer rest front may refusal is) c = subst (λ (b : Brick). IsAmong lock b.held) (sym is) (held (sym (ap (λ (b : Brick). b.connected lock.by.graph) is) ∙ c))
  move_held (GivesUp by ask rest front served is) c = subst (λ (b : Brick). IsAmong lock b.held) (sym is) (held (sym (ap (λ (b : Brick). b.connected lock.by.graph) is) ∙ c))
  move_held (Steers control rest front is) c =
      let other : is_control_of lock.by.graph control ≡ false = neither_left (is_control_of lock.by.graph control) (has_control lock.by.graph rest) (sym (ap (has_control lock.by.graph) front) ∙ none) in
      let now : (steered control (record old { line = rest })).connected lock.by.graph ≡ true = sym (ap (λ (b : Brick). b.connected lock.by.graph) is) ∙ c in
      subst (λ (b : Brick). IsAmong lock b.held) (sym is) (steered_among lock (record old { line = rest }) (held (steered_connected (record old { line = rest }) lock.by.graph control other now)) control other now)

-- ---- a granted lock

module _ (m : State) (k : ℕ) (lock : BrickLock) where
  pub current_of : IsGranted m k lock → is_current (m.links k lock.by.graph) lock.by.connection ≡ true
  current_of (HandedIn t grant h is) = subst (λ (l : BrickLock). is_current (m.links k l.by.graph) l.by.connection ≡ true) (sym is) h.still_open
  current_of (OnItsWay h current) = current

module _ (size : Size) (m : State) (r : Rests size m) (k : ℕ) (lock : BrickLock) where
  graph_of : IsGranted m k lock → lock.by.graph ≡ (m.txns lock.by.txn).graph
  graph_of (HandedIn t grant h is) = ap (λ (l : BrickLock). l.by.graph) is ∙ ap (λ n. (m.txns n).graph) (sym (ap (λ (l : BrickLock). l.by.txn) is))
  graph_of (OnItsWay h current) = (granted_sender (IsNumbered m k) lock (m.bricks k).outputs (r.way.numbered k).outputs (granting_in lock (m.bricks k).outputs h)).1.graph

  low_of : IsGranted m k lock → lock.by.connection ≤ (m.links k lock.by.graph).last
  low_of (HandedIn t grant h is) = subst (λ (l : BrickLock). l.by.connection ≤ (m.links k l.by.graph).last) (sym is) (r.grants.handed t k grant h.granted).numbered
  low_of (OnItsWay h current) = (granted_sender (IsNumbered m k) lock (m.bricks k).outputs (r.way.numbered k).outputs (granting_in lock (m.bricks k).outputs h)).1.connection

  -- its own unlock is not at the front
  stops : IsGranted m k lock → has_control lock.by.graph (m.bricks k).line ≡ false → (by : Sender) (ask : Ask) (rest : List Input) → (m.bricks k).line ≡ Asked by ask ∷ rest → drops ask by lock ≡ true → ⊥
  stops x none by ask rest front dropped = by_case (is_or_not (is_current (m.links k by.graph) by.connection)) where
    d : (ask ≡ Unlock) × (by.txn ≡ lock.by.txn)
    d = drops_unlock ask by lock dropped

    current : is_current (m.links k lock.by.graph) lock.by.connection ≡ true
    current = current_of m k lock x

    of_front : by.graph ≡ lock.by.graph
    of_front = (subst (EachInput (IsNumbered m k)) front (r.way.numbered k).line).0.graph ∙ ap (λ n. (m.txns n).graph) d.1 ∙ sym (graph_of x)

    now : IsGranted m k lock → is_current (m.links k by.graph) by.connection ≡ true → ⊥
    now (HandedIn t grant h is) cur = handed_stop size m r k by ask rest front t h.holding d.0 (d.1 ∙ ap (λ (l : BrickLock). l.by.txn) is) cur
    now (OnItsWay h c) cur = coming_stop size m r k by ask rest front lock (granting_in lock (m.bricks k).outputs h) c d.0 d.1 cur

    by_case : (is_current (m.links k by.graph) by.connection ≡ true) ⊎ (is_current (m.links k by.graph) by.connection ≡ false) → ⊥
    by_case (inl cur) = now x cur
    by_case (inr late) =
        apart_bools (behind_front lock.by.graph (m.links k lock.by.graph) (m.bricks k) (r.first k lock.by.graph (both_left _ _ current)) lock refl current by ask rest front of_front (subst (λ g. is_current (m.links k g) by.connection ≡ false) of_front late)) none

-- ---- no control of an open connection's graph is taken

module _ (size : Size) (m : State) (k g c : ℕ) (low : c ≤ (m.links k g).last) where
  alone_taken : (control : Control) → is_control_of g control ≡ false → (inputs : List Input) → inputs ≡ Steered control ∷ [] → has_control g inputs ≡ false
  alone_taken control none inputs is = ap (has_control g) is ∙ neither (is_control_of g control) false none refl

  opens_other : (j h : ℕ) → k ≡ j → is_current ((after size m (Step.Connects j h)).links k g) c ≡ true → h ≡ g → ⊥
  opens_other j h same current is =
      let link : (after size m (Step.Connects k g)).links k g ≡ record { last = (m.links k g).last + 1; is_open = true } = ap (λ (f : ℕ → Link). f g) (at_same m.links k (with_at (m.links k) g (record { last = (m.links k g).last + 1; is_open = true }))) ∙ at_same (m.links k) g (record { last = (m.links k g).last + 1; is_open = true }) in
      let here : is_current ((after size m (Step.Connects k g)).links k g) c ≡ true = subst (λ i. is_current ((after size m (Step.Connects k i)).links k g) c ≡ true) is (subst (λ n. is_current ((after size m (Step.Connects n h)).links k g) c ≡ true) (sym same) current) in
      let e : c ≡ (m.links k g).last + 1 = eqb-true c ((m.links k g).last + 1) (sym (ap (λ (l : Link). is_current l c) link) ∙ here) in
      absurd (omega arith)

  cuts_other : (j h : ℕ) → k ≡ j → is_current ((after size m (Step.Cuts j h)).links k g) c ≡ true → h ≡ g → ⊥
  cuts_other j h same current is =
      let here : is_current ((after size m (Step.Cuts k g)).links k g) c ≡ true = subst (λ i. is_current ((after size m (Step.Cuts k i)).links k g) c ≡ true) is (subst (λ n. is_current ((after size m (Step.Cuts n h)).links k g) c ≡ true) (sym same) current) in
      apart_bools (both_left _ _ here) (cut_closed m k g)

  pub taken_none : (step : Step) → Allowed size m step → is_current (m.links k g) c ≡ true → is_current ((after size m step).links k g) c ≡ true → (inputs : List Input) → IsTaken m step k inputs → has_control g inputs ≡ false
  taken_none (Step.Asks t j first asked) h was now inputs taken = ap (has_control g) taken.1 ∙ no_control g (sender_of m t j) (asks_of first asked)
  taken_none (Step.Controls j steering) h was now inputs taken = alone_taken steering (alone_control m j g steering (subst (λ n. (m.links n g).is_open ≡ true) taken.0 (both_left _ _ was)) h.1) inputs taken.1
  taken_none (Step.Connects j i) h was now inputs taken = alone_taken (Control.Connect i) (ne_eqb i g (opens_other j i taken.0 now)) inputs taken.1
  taken_none (Step.Cuts j i) h was now inputs taken = alone_taken (Control.Disconnect i) (ne_eqb i g (cuts_other j i taken.0 now)) inputs taken.1
  taken_none other h was now inputs taken = absurd taken

-- ---- each step

module _ (size : Size) (m : State) (r : Rests size m) (step : Step) (allowed : Allowed size m step) (first : ConnectsComeFirst (after size m step)) (grants : GrantsAreHeld (after size m step)) (apart : HeldApart (after size m step)) (old : GrantsStand m) where
  back : GrantsBack m (after size m step)
  back = step_back size m r.way.numbered r.grants step allowed

  module _ (k : ℕ) (lock : BrickLock) (now : is_current ((after size m step).links k lock.by.graph) lock.by.connection ≡ true) where
    -- what was granted before
    behind_still : IsGranted m k lock → has_control lock.by.graph ((after size m step).bricks k).line ≡ false
    behind_still x =
        move_behind (IsTaken m step k) (m.bricks k) ((after size m step).bricks k) lock.by.graph (bricks_move size m step allowed k)
        (taken_none size m k lock.by.graph lock.by.connection (low_of size m r k lock x) step allowed (current_of m k lock x) now) (old k lock x).behind

    held_still : IsGranted m k lock → ((after size m step).bricks k).connected lock.by.graph ≡ true → IsAmong lock ((after size m step).bricks k).held
    held_still x =
        move_held (IsTaken m step k) (m.bricks k) ((after size m step).bricks k) lock (old k lock x).behind (old k lock x).held
        (stops size m r k lock x (old k lock x).behind) (bricks_move size m step allowed k)

  came : (k : ℕ) (lock : BrickLock) → has_closed ((after size m step).bricks k).outputs ≡ true → IsGranted (after size m step) k lock → IsGranted m k lock
  came k lock closing (HandedIn t grant h is) = subst (IsGranted m k) (sym is) (back.handed t k grant h)
  came k lock closing (OnItsWay h current) = back.coming k lock closing h current

  behind : (k : ℕ) (lock : BrickLock) → IsGranted (after size m step) k lock → has_control lock.by.graph ((after size m step).bricks k).line ≡ false
  behind k lock (HandedIn t grant h is) = behind_still k lock (current_of (after size m step) k lock (HandedIn t grant h is)) (subst (IsGranted m k) (sym is) (back.handed t k grant h))
  behind k lock (OnItsWay h current) = by_case (is_or_not (has_control lock.by.graph ((after size m step).bricks k).line)) where
    by_case : (has_control lock.by.graph ((after size m step).bricks k).line ≡ true) ⊎ (has_control lock.by.graph ((after size m step).bricks k).line ≡ false) → has_control lock.by.graph ((after size m step).bricks k).line ≡ false
    by_case (inl has) =
        absurd (controlled_none lock.by.graph ((after size m step).links k lock.by.graph) ((after size m step).bricks k) (first k lock.by.graph (both_left _ _ current)) lock refl current has (granting_in lock ((after size m step).bricks k).outputs h))
    by_case (inr none) = none

  pub step_stands : GrantsStand (after size m step)
  step_stands k lock x = record { behind = behind k lock x; held = by_case (is_or_not (has_closed ((after size m step).bricks k).outputs)) } where
    by_case : (has_closed ((after size m step).bricks k).outputs ≡ true) ⊎ (has_closed ((after size m step).bricks k).outputs ≡ false) → ((after size m step).bricks k).connected lock.by.graph ≡ true → IsAmong lock ((after size m step).bricks k).held
    by_case (inl closing) connected = held_still k lock (current_of (after size m step) k lock x) (came k lock closing x) connected
    by_case (inr none) connected = granted_held (after size m step) grants apart k none lock x

pub grants_stand : (size : Size) (m : State) → IsReached size m → GrantsStand m
grants_stand size m IsReached.Start = λ k lock x. absurd (start_none k lock x)
grants_stand size m (IsReached.Further old step reached allowed) =
    let next = IsReached.Further old step reached allowed in
    let r : Rests size old = record { way = on_their_way size old reached; first = connects_come_first size old reached; fit = waits_fit size old reached; grants = grants_are_held size old reached } in
    step_stands size old r step allowed (connects_come_first size (after size old step) next) (grants_are_held size (after size old step) next) (held_apart size (after size old step) next) (grants_stand size old reached)
