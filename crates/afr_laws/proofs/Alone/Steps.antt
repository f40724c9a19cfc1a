-- Late requests, over every list of steps.
use Rattle.std.proofs.Common.{◌≡◌, ◌∙◌, ℕ, ◌+◌, Bool, true, false, refl, sym, ap, subst, ◌⊎◌, inl, inr}
use Rattle.std.specs.Prelude.{if◌then◌else◌, List, [], ◌∷◌, ◌++◌, ◌==◌, ◌≢◌, ◌||◌}
use Rattle.std.proofs.lemmas.Bool.{cases_eq, eq-eqb}
use Rattle.afr_machine.specs.Replicas.{Size, with_at}
use Rattle.afr_machine.specs.Requests.{Sender, Ask, Control, Input, Output}
use Rattle.afr_machine.specs.Requests.Input.{Steered}
use Rattle.afr_machine.specs.Requests.Answer.{Gone}
use Rattle.afr_machine.specs.Requests.Output.{Answered, Closed, Opened, Connected}
use Rattle.afr_machine.specs.Locks.{BrickLock}
use Rattle.afr_machine.specs.Bricks.{Brick, without_front}
use Rattle.afr_machine.specs.Transactions.{Stage}
use Rattle.afr_machine.specs.Transactions.Stage.{Marking}
use Rattle.afr_machine.specs.States.{State, Link}
use Rattle.afr_machine.specs.Sending.{MayAsk, carries_fd, asks_of, inputs_of, sender_of}
use Rattle.afr_machine.specs.Answering.{closed, without_links, without_output, without_first_output, taken_in}
use Rattle.afr_machine.specs.Steps.{Step, Allowed, after, IsReached, served_front, refused_front, given_up_front, steered_front, take_in_front, unsettling, decided_by}
use Rattle.afr_machine.specs.Moves.{IsTaken}
use Rattle.afr_machine.proofs.Tables.{at_same, at_other}
use Rattle.afr_machine.proofs.Keeping.{taken_in_beside}
use Rattle.afr_machine.proofs.BrickMoves.{turn_bricks, decided_bricks, bricks_move}
use Rattle.afr_laws.specs.Senders.{EachLock}
use Rattle.afr_laws.specs.Connections.{has_control}
use Rattle.afr_laws.specs.Grants.{IsAmong, has_closed, lock_of, GrantsAreHeld}
use Rattle.afr_laws.specs.Covered.{needs_lock, LinesAreCovered}
use Rattle.afr_laws.specs.Alone.{LocksAreConnected, IsLate}
use Rattle.afr_laws.proofs.Bools.{is_or_not, apart_bools}
use Rattle.afr_laws.proofs.Carry.{at_case}
use Rattle.afr_laws.proofs.Goes.{turn_links, unsettling_links, decided_links}
use Rattle.afr_laws.proofs.ConnectsFirst.{IsSameOrClosed, ended_link, front_link}
use Rattle.afr_laws.proofs.Holding.{closed_left, served_closes, steered_closes}
use Rattle.afr_laws.proofs.Grants.{grants_are_held}
use Rattle.afr_laws.proofs.Covered.Sent.{IsSentUnder, sent_under, fd_needs}
use Rattle.afr_laws.proofs.Covered.Lines.{everywhere, lines_are_covered}
use Rattle.afr_laws.proofs.Alone.Connected.{locks_are_connected}
use Rattle.afr_laws.proofs.Alone.Late.{late_carry, late_append, WasLate, move_late}

-- ---- a Closed on its way stays, or every connection to the brick ends

unsettling_bricks : (m : State) (t : ℕ) (stage : Stage) → (unsettling m t stage).bricks ≡ m.bricks
unsettling_bricks m t (Marking u) = refl
unsettling_bricks m t other = refl

-- whether the step opens a connection
abbrev opens_one : Step → Bool
opens_one (Step.Connects j g) = true
opens_one other = false

-- what is said of brick k
abbrev StaysClosed : State → State → ℕ → Type 0
StaysClosed m new k = has_closed (m.bricks k).outputs ≡ true → (has_closed (new.bricks k).outputs ≡ true) ⊎ ((g : ℕ) → (new.links k g).is_open ≡ true → ⊥)

module _ (size : Size) (m : State) (k : ℕ) where
  same_bricks : (new : State) → new.bricks ≡ m.bricks → StaysClosed m new k
  same_bricks new is was = inl (ap (λ (f : ℕ → Brick). has_closed (f k).outputs) is ∙ was)

  one_brick : (new : State) (j : ℕ) (x : Brick) → new.bricks ≡ with_at m.bricks j x → (has_closed (m.bricks j).outputs ≡ true → has_closed x.outputs ≡ true) → StaysClosed m new k
  one_brick new j x is more was =
      inl (ap (λ (f : ℕ → Brick). has_closed (f k).outputs) is ∙ at_case (λ n (b : Brick). has_closed (m.bricks n).outputs ≡ true → has_closed b.outputs ≡ true) m.bricks j x more k (λ ne w. w) was)

  hands_closed : (j : ℕ) (o : Output) (rest : List Output) → (m.bricks j).outputs ≡ o ∷ rest → StaysClosed m (taken_in (without_first_output m j) j o) k
  hands_closed j o rest front = by_output o front where
    popped : (o : Output) → (m.bricks j).outputs ≡ o ∷ rest → (has_closed (o ∷ rest) ≡ true → has_closed rest ≡ true) → StaysClosed m (taken_in (without_first_output m j) j o) k
    popped o front more =
        one_brick (taken_in (without_first_output m j) j o) j (record (m.bricks j) { outputs = without_output (m.bricks j).outputs }) (taken_in_beside (without_first_output m j) j o).bricks
        (λ was. ap has_closed (ap without_output front) ∙ more (sym (ap has_closed front) ∙ was))

    shut : k ≡ j → (g : ℕ) → ((without_links (without_first_output m j) j (λ o. true)).links k g).is_open ≡ true → ⊥
    shut same g is_open =
        let now : ((without_links (without_first_output m j) j (λ o. true)).links j g).is_open ≡ true = subst (λ n. ((without_links (without_first_output m j) j (λ o. true)).links n g).is_open ≡ true) same is_open in
        apart_bools now (ap (λ (f : ℕ → Link). (f g).is_open) (at_same m.links j (λ i. if true then closed (m.links j i) else m.links j i)))

    closes : (k ≡ j) ⊎ (k ≢ j) → StaysClosed m (taken_in (without_first_output m j) j Closed) k
    closes (inl same) was = inr (shut same)
    closes (inr other) was = inl (ap (λ (b : Brick). has_closed b.outputs) (at_other m.bricks j (record (m.bricks j) { outputs = without_output (m.bricks j).outputs }) k other) ∙ was)

    by_output : (o : Output) → (m.bricks j).outputs ≡ o ∷ rest → StaysClosed m (taken_in (without_first_output m j) j o) k
    by_output (Answered by ask answer) front = popped (Answered by ask answer) front (λ w. w)
    by_output Closed front = closes (cases_eq k j)
    by_output Opened front = popped Opened front (λ w. w)
    by_output (Connected graph) front = popped (Connected graph) front (λ w. w)

  step_closed : (step : Step) → Allowed size m step → StaysClosed m (after size m step) k
  step_closed (Step.Turns t turn) h = same_bricks (after size m (Step.Turns t turn)) (turn_bricks size m t turn)
  step_closed (Step.Asks t j first asked) h = one_brick (after size m (Step.Asks t j first asked)) j _ refl (λ w. w)
  step_closed (Step.Controls j steering) h = one_brick (after size m (Step.Controls j steering)) j _ refl (λ w. w)
  step_closed (Step.Connects j g) h = one_brick (after size m (Step.Connects j g)) j _ refl (λ w. w)
  step_closed (Step.Cuts j g) h = one_brick (after size m (Step.Cuts j g)) j _ refl (λ w. w)
  step_closed (Step.Serves j) h = let b = m.bricks j in
      one_brick (after size m (Step.Serves j)) j _ refl (λ w. subst (λ (x : Brick). has_closed x.outputs ≡ true) (sym (ap (λ (l : List Input). served_front l (record b { line = without_front l })) h.front)) (served_closes (record b { line = h.rest }) b.power h.by h.asked w))
  step_closed (Step.Refuses j answer) h = let b = m.bricks j in
      one_brick (after size m (Step.Refuses j answer)) j _ refl (λ w. subst (λ (x : Brick). has_closed x.outputs ≡ true) (sym (ap (λ (l : List Input). refused_front l answer (record b { line = without_front l })) h.request.front)) (closed_left b.outputs (Answered h.request.by h.request.asked answer ∷ []) w))
  step_closed (Step.GivesUp j) h = let b = m.bricks j in
      one_brick (after size m (Step.GivesUp j)) j _ refl (λ w. subst (λ (x : Brick). has_closed x.outputs ≡ true) (sym (ap (λ (l : List Input). given_up_front l (record b { line = without_front l })) h.front)) (closed_left b.outputs (Answered h.by h.asked Gone ∷ []) w))
  step_closed (Step.Steers j) h = let b = m.bricks j in
      one_brick (after size m (Step.Steers j)) j _ refl (λ w. subst (λ (x : Brick). has_closed x.outputs ≡ true) (sym (ap (λ (l : List Input). steered_front l (record b { line = without_front l })) h.front)) (steered_closes (record b { line = h.rest }) h.steering w))
  step_closed (Step.HandsIn j) h = subst (λ (os : List Output). StaysClosed m (take_in_front (without_first_output m j) j os) k) (sym h.front) (hands_closed j h.first h.rest h.front)
  step_closed (Step.Unsettles t) h = same_bricks (after size m (Step.Unsettles t)) (unsettling_bricks m t (m.txns t).stage)
  step_closed (Step.Decides t) h = same_bricks (after size m (Step.Decides t)) (decided_bricks m (decided_by (m.txns t).stage))
  step_closed other h = same_bricks (after size m other) refl

  -- ---- only an opening opens a connection

  was_open : {old new : Link} → IsSameOrClosed old new → new.is_open ≡ true → old.is_open ≡ true
  was_open (inl same) o = sym (ap (λ (l : Link). l.is_open) same) ∙ o
  was_open (inr shut) o = apart_bools o shut

  links_same : (new : State) → new.links ≡ m.links → (g : ℕ) → (new.links k g).is_open ≡ true → (m.links k g).is_open ≡ true
  links_same new is g o = sym (ap (λ (f : ℕ → ℕ → Link). (f k g).is_open) is) ∙ o

  step_opens : (step : Step) → opens_one step ≡ false → (g : ℕ) → ((after size m step).links k g).is_open ≡ true → (m.links k g).is_open ≡ true
  step_opens (Step.Turns t turn) n g o = links_same (after size m (Step.Turns t turn)) (turn_links m size t turn) g o
  step_opens (Step.Connects j h) n g o = absurd (let e : true ≡ false = n in cc)
  step_opens (Step.HandsIn j) n g o = was_open (front_link (without_first_output m j) j (m.bricks j).outputs k g) o
  step_opens (Step.Cuts j h) n g o = was_open (ended_link m j (λ other. other == h) k g) o
  step_opens (Step.Unsettles t) n g o = links_same (after size m (Step.Unsettles t)) (unsettling_links m t (m.txns t).stage) g o
  step_opens (Step.Decides t) n g o = links_same (after size m (Step.Decides t)) (decided_links m (decided_by (m.txns t).stage)) g o
  step_opens other n g o = o

-- ---- what a brick takes

late_inputs : (b : Brick) (links : ℕ → Link) (by : Sender) (asks : List Ask) → ((a : Ask) → b.connected by.graph ≡ false → has_closed b.outputs ≡ true) → IsLate b links (inputs_of by asks)
late_inputs b links by [] f = tt
late_inputs b links by (a ∷ rest) f = (λ needs connected. inl (f a connected), late_inputs b links by rest f)

among_each : (P : Sender → Ask → Type 0) (Q : Sender → Type 0) → ((by : Sender) (ask : Ask) → P by ask → Q by) → (lock : BrickLock) (ls : List BrickLock) → EachLock P ls → IsAmong lock ls → Q lock.by
among_each P Q f lock [] p h = absurd h
among_each P Q f lock (l ∷ ls) p (inl e) = subst (λ (x : BrickLock). Q x.by) (sym e) (f l.by _ p.0)
among_each P Q f lock (l ∷ ls) p (inr h) = among_each P Q f lock ls p.1 h

module _ (size : Size) (m : State) (grants : GrantsAreHeld m) (k : ℕ) (c : LocksAreConnected (m.bricks k)) (p : IsLate (m.bricks k) (m.links k) (m.bricks k).line) where
  -- its graph is connected, or a Closed is on its way
  sent_closed : (t : ℕ) → IsSentUnder m t k → (m.bricks k).connected (m.txns t).graph ≡ false → has_closed (m.bricks k).outputs ≡ true
  sent_closed t s lost = by_case ((grants.handed t k s.grant.grant s.grant.granted).held s.grant.still_open s.holding) where
    by_case : IsAmong (lock_of t (m.txns t).graph s.grant.grant) (m.bricks k).held ⊎ (has_closed (m.bricks k).outputs ≡ true) → has_closed (m.bricks k).outputs ≡ true
    by_case (inl among) =
        apart_bools (among_each (λ by ask. (m.bricks k).connected by.graph ≡ true) (λ by. (m.bricks k).connected by.graph ≡ true) (λ by ask q. q) (lock_of t (m.txns t).graph s.grant.grant) (m.bricks k).held c.held among) lost
    by_case (inr closing) = closing

  appended : (inputs : List Input) → IsLate (m.bricks k) (m.links k) inputs → IsLate (m.bricks k) (m.links k) ((m.bricks k).line ++ inputs)
  appended inputs q = late_append (m.bricks k) (m.links k) (m.links k) inputs (λ g o. inl o) (m.bricks k).line p q

  asks_late : (t : ℕ) (before : Bool) (ask : Ask) → MayAsk size m t k ask → (before ≡ true → carries_fd ask ≡ true) → IsLate (m.bricks k) (m.links k) (inputs_of (sender_of m t k) (asks_of before ask))
  asks_late t before ask may fd = by_case (is_or_not (needs_lock ask)) where
    free : (first : Bool) → (first ≡ true → carries_fd ask ≡ true) → needs_lock ask ≡ false → IsLate (m.bricks k) (m.links k) (inputs_of (sender_of m t k) (asks_of first ask))
    free true carries lacks = apart_bools (fd_needs ask (carries refl)) lacks
    free false carries lacks = (λ needs connected. apart_bools needs lacks, tt)

    by_case : (needs_lock ask ≡ true) ⊎ (needs_lock ask ≡ false) → IsLate (m.bricks k) (m.links k) (inputs_of (sender_of m t k) (asks_of before ask))
    by_case (inl needs) = late_inputs (m.bricks k) (m.links k) (sender_of m t k) (asks_of before ask) (λ a lost. sent_closed t (sent_under size m t k ask may needs) lost)
    by_case (inr lacks) = free before fd lacks

  control_late : (control : Control) (inputs : List Input) → inputs ≡ Steered control ∷ [] → IsLate (m.bricks k) (m.links k) ((m.bricks k).line ++ inputs)
  control_late control inputs is = subst (λ l. IsLate (m.bricks k) (m.links k) ((m.bricks k).line ++ l)) (sym is) (appended (Steered control ∷ []) tt)

  taken_late : (step : Step) → Allowed size m step → (inputs : List Input) → IsTaken m step k inputs → IsLate (m.bricks k) (m.links k) ((m.bricks k).line ++ inputs)
  taken_late (Step.Asks t j before ask) h inputs taken =
      let may : MayAsk size m t k ask = subst (λ n. MayAsk size m t n ask) (sym taken.0) h.0 in
      let is : inputs ≡ inputs_of (sender_of m t k) (asks_of before ask) = taken.1 ∙ ap (λ n. inputs_of (sender_of m t n) (asks_of before ask)) (sym taken.0) in
      subst (λ l. IsLate (m.bricks k) (m.links k) ((m.bricks k).line ++ l)) (sym is) (appended (inputs_of (sender_of m t k) (asks_of before ask)) (asks_late t before ask may h.1))
  taken_late (Step.Controls j steering) h inputs taken = control_late steering inputs taken.1
  taken_late (Step.Connects j g) h inputs taken = control_late (Control.Connect g) inputs taken.1
  taken_late (Step.Cuts j g) h inputs taken = control_late (Control.Disconnect g) inputs taken.1
  taken_late other h inputs taken = absurd taken

-- ---- a connection opens

module _ (size : Size) (m : State) (j h : ℕ) (p : (k : ℕ) → IsLate (m.bricks k) (m.links k) (m.bricks k).line) where
  next : ℕ → Link
  next = with_at (m.links j) h (record { last = (m.links j h).last + 1; is_open = true })

  opened : Brick
  opened = record (m.bricks j) { line = (m.bricks j).line ++ Steered (Control.Connect h) ∷ [] }

  opens : (g : ℕ) → (with_at (m.links j) h (record { last = (m.links j h).last + 1; is_open = true }) g).is_open ≡ true → ((m.links j g).is_open ≡ true) ⊎ (has_control g (Steered (Control.Connect h) ∷ []) ≡ true)
  opens g = at_case (λ i (l : Link). l.is_open ≡ true → ((m.links j i).is_open ≡ true) ⊎ (has_control i (Steered (Control.Connect h) ∷ []) ≡ true)) (m.links j) h (record { last = (m.links j h).last + 1; is_open = true })
      (λ o. inr (ap (λ b. b || false) (eq-eqb h h refl))) g (λ ne o. inl o)

  late_here : IsLate (record (m.bricks j) { line = (m.bricks j).line ++ Steered (Control.Connect h) ∷ [] }) (with_at (m.links j) h (record { last = (m.links j h).last + 1; is_open = true })) ((m.bricks j).line ++ Steered (Control.Connect h) ∷ [])
  late_here =
      let l : ℕ → Link = with_at (m.links j) h (record { last = (m.links j h).last + 1; is_open = true }) in
      late_carry (m.bricks j) (record (m.bricks j) { line = (m.bricks j).line ++ Steered (Control.Connect h) ∷ [] }) l l (λ w. inl w) (λ g o. o) ((m.bricks j).line ++ Steered (Control.Connect h) ∷ [])
      (everywhere (WasLate (m.bricks j) (record (m.bricks j) { line = (m.bricks j).line ++ Steered (Control.Connect h) ∷ [] })) (λ by ask needs lost. inl lost) ((m.bricks j).line ++ Steered (Control.Connect h) ∷ []))
      (late_append (m.bricks j) (m.links j) (with_at (m.links j) h (record { last = (m.links j h).last + 1; is_open = true })) (Steered (Control.Connect h) ∷ []) opens (m.bricks j).line (p j) tt)

  late_opens : (k : ℕ) → IsLate ((after size m (Step.Connects j h)).bricks k) ((after size m (Step.Connects j h)).links k) ((after size m (Step.Connects j h)).bricks k).line
  late_opens k =
      at_case (λ n (b : Brick). IsLate b (with_at m.links j (with_at (m.links j) h (record { last = (m.links j h).last + 1; is_open = true })) n) b.line) m.bricks j (record (m.bricks j) { line = (m.bricks j).line ++ Steered (Control.Connect h) ∷ [] })
      (subst (λ (f : ℕ → Link). IsLate (record (m.bricks j) { line = (m.bricks j).line ++ Steered (Control.Connect h) ∷ [] }) f ((m.bricks j).line ++ Steered (Control.Connect h) ∷ []))
      (sym (at_same m.links j (with_at (m.links j) h (record { last = (m.links j h).last + 1; is_open = true })))) late_here) k
      (λ ne. subst (λ (f : ℕ → Link). IsLate (m.bricks k) f (m.bricks k).line) (sym (at_other m.links j (with_at (m.links j) h (record { last = (m.links j h).last + 1; is_open = true })) k ne)) (p k))

-- ---- each step

module _ (size : Size) (m : State) (grants : GrantsAreHeld m) (c : (k : ℕ) → LocksAreConnected (m.bricks k)) (covers : LinesAreCovered m) (p : (k : ℕ) → IsLate (m.bricks k) (m.links k) (m.bricks k).line) where
  plain_late : (step : Step) → Allowed size m step → opens_one step ≡ false → (k : ℕ) → IsLate ((after size m step).bricks k) ((after size m step).links k) ((after size m step).bricks k).line
  plain_late step h n k =
      move_late (IsTaken m step k) (m.bricks k) ((after size m step).bricks k) (m.links k) ((after size m step).links k) (step_closed size m k step h) (step_opens size m k step n) (p k) (covers k).in_turn
      (taken_late size m grants k (c k) (p k) step h) (bricks_move size m step h k)

  step_late : (step : Step) → Allowed size m step → (k : ℕ) → IsLate ((after size m step).bricks k) ((after size m step).links k) ((after size m step).bricks k).line
  step_late (Step.Connects j g) h k = late_opens size m j g p k
  step_late other h k = plain_late other h refl k

pub requests_are_late : (size : Size) (m : State) → IsReached size m → (k : ℕ) → IsLate (m.bricks k) (m.links k) (m.bricks k).line
requests_are_late size m IsReached.Start k = tt
requests_are_late size m (IsReached.Further old step reached allowed) k =
    step_late size old (grants_are_held size old reached) (locks_are_connected size old reached) (lines_are_covered size old reached) (requests_are_late size old reached) step allowed k
