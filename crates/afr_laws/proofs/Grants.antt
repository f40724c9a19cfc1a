-- A grant on the open connection is a lock that the brick holds, over every list of steps.
use Rattle.std.proofs.Common.{◌≡◌, ◌∙◌, ℕ, ◌+◌, ◌≤◌, Bool, true, false, refl, sym, ap, subst, ◌⊎◌, inl, inr, arith, None}
use Rattle.std.specs.Prelude.{if◌then◌else◌, List, [], ◌∷◌, ◌++◌, ◌||◌, ◌==◌, ◌≢◌}
use Rattle.std.proofs.lemmas.Bool.{cases_eq, eqb-true, eq-eqb}
use Rattle.fop_types.specs.declared.cells.Cell.{Cell}
use Rattle.fop_types.specs.declared.jobs.Job.{Job}
use Rattle.afr_machine.specs.Replicas.{Size, with_at}
use Rattle.afr_machine.specs.Requests.{Sender, Ask, Answer, Control, Input, Output}
use Rattle.afr_machine.specs.Requests.Ask.{Lock, Unlock}
use Rattle.afr_machine.specs.Requests.Input.{Asked, Steered}
use Rattle.afr_machine.specs.Requests.Answer.{Done, Rows, Content, Gone, Fault, Unfit, BadFd}
use Rattle.afr_machine.specs.Requests.Output.{Answered, Closed, Opened, Connected}
use Rattle.afr_machine.specs.Locks.{BrickLock}
use Rattle.afr_machine.specs.Bricks.{Brick, without_front, served_by, refused, answering, steered}
use Rattle.afr_machine.specs.Sending.{asks_of, inputs_of, sender_of}
use Rattle.afr_machine.specs.Transactions.{Stage, Grant, Txn, new_txn}
use Rattle.afr_machine.specs.Transactions.Stage.{Unlocking, Marking, Locking}
use Rattle.afr_machine.specs.States.{State, Link, start, is_current, with_brick, with_inputs}
use Rattle.afr_machine.specs.Answering.{passed, awaits, is_single, forgetting, closed, without_links, without_output, without_first_output, replied, taken_in}
use Rattle.afr_machine.specs.Turns.{Turn, after_turn}
use Rattle.afr_machine.specs.Steps.{Step, IsRefusal, Allowed, after, IsReached, served_front, refused_front, given_up_front, steered_front, take_in_front, unsettling, decided, decided_by}
use Rattle.afr_machine.proofs.Tables.{at_same}
use Rattle.afr_machine.proofs.Keeping.{replied_beside}
use Rattle.afr_machine.proofs.BrickMoves.{turn_bricks, decided_bricks}
use Rattle.afr_laws.specs.Senders.{EachOutput, EachInput}
use Rattle.afr_laws.specs.Numbered.{IsNumbered}
use Rattle.afr_laws.specs.Flights.{is_mine, in_locks, in_line, in_outputs, flight, AreOnTheirWay}
use Rattle.afr_laws.specs.Connections.{is_control_of, has_control, ConnectsFirst, ConnectsComeFirst}
use Rattle.afr_laws.specs.Waiting.{Fits, LastFits, EachWaitsFit}
use Rattle.afr_laws.specs.Grants.{has_closed, IsHeldBy, lock_of, lock_granted, EachGranted, has_none, is_unlocking, GrantsAreHeld}
use Rattle.afr_laws.proofs.Bools.{both, both_left, both_right, is_or_not}
use Rattle.afr_laws.proofs.Carry.{at_case, flight_alone}
use Rattle.afr_laws.proofs.FlightMoves.{IsAlone, front_flies}
use Rattle.afr_laws.proofs.Heard.{replied_txns}
use Rattle.afr_laws.proofs.Stages.{StageGoes}
use Rattle.afr_laws.proofs.Txns.{is_beginning}
use Rattle.afr_laws.proofs.Waiting.{turn_others, waits_fit}
use Rattle.afr_laws.proofs.Goes.{step_goes, step_last, ended_last, turn_links, decided_txns, decided_links}
use Rattle.afr_laws.proofs.Flying.{on_their_way}
use Rattle.afr_laws.proofs.ConnectsFirst.{IsSameOrClosed, ended_link, connects_come_first}
use Rattle.afr_laws.proofs.Holding.{drops, served_holds, steered_holds, served_closes, steered_closes, GrantedIn, granted_map, granted_append, no_rows, gone_grants_none, served_grants, steered_grants, answering_holds}
use Rattle.afr_laws.proofs.Unlocks.{is_unlock, any_unlock, unlock_waited, not_both, granted_flies, granted_sender, controlled_closes, behind_front}
use Rattle.afr_laws.proofs.GrantSteps.{LeavesLocks, HasGrants, turned, emptied, regranted, heard_has}
use Rattle.afr_laws.proofs.FlightHands.{first_flies, single_tail}
use Rattle.afr_laws.proofs.GrantTurns.{GrantsTurn, same_grants, turn_grants, goes_unlocks, goes_none}
use Rattle.afr_laws.proofs.GrantTurns.GrantsTurn.{KeepsGrants}

-- the facts that the steps of grants rest on
pub record Rests (size : Size) (m : State) : Type 0 where
  pub way : AreOnTheirWay m
  pub first : ConnectsComeFirst m
  pub fit : EachWaitsFit size m
  pub grants : GrantsAreHeld m

pub drops_unlock : (ask : Ask) (by : Sender) (lock : BrickLock) → drops ask by lock ≡ true → (ask ≡ Unlock) × (by.txn ≡ lock.by.txn)
drops_unlock Unlock by lock h = (refl, sym (eqb-true lock.by.txn by.txn h))
drops_unlock other by lock h = absurd cc

pub refusal_grants_none : (by : Sender) (ask : Ask) (answer : Answer) → IsRefusal answer → lock_granted by ask answer ≡ None
refusal_grants_none by ask Done h = absurd h
refusal_grants_none by ask (Rows rows) h = absurd h
refusal_grants_none by ask (Content found) h = absurd h
refusal_grants_none by ask Gone h = absurd h
refusal_grants_none by (Lock shared cells) Fault h = refl
refusal_grants_none by other Fault h = refl
refusal_grants_none by (Lock shared cells) Unfit h = refl
refusal_grants_none by other Unfit h = refl
refusal_grants_none by (Lock shared cells) BadFd h = refl
refusal_grants_none by other BadFd h = refl

unlock_in : (o w l : List Ask) → any_unlock (o ++ (w ++ (Unlock ∷ l))) ≡ true
unlock_in [] [] l = refl
unlock_in [] (x ∷ w) l = right (is_unlock x) (unlock_in [] w l) where
  right : (a : Bool) → any_unlock (w ++ (Unlock ∷ l)) ≡ true → (a || any_unlock (w ++ (Unlock ∷ l))) ≡ true
  right true e = refl
  right false e = e
unlock_in (x ∷ o) w l = right (is_unlock x) (unlock_in o w l) where
  right : (a : Bool) → any_unlock (o ++ (w ++ (Unlock ∷ l))) ≡ true → (a || any_unlock (o ++ (w ++ (Unlock ∷ l)))) ≡ true
  right true e = refl
  right false e = e

-- ---- a brick works at the front of its line

module _ (size : Size) (m : State) (r : Rests size m) (k : ℕ) where
  -- this lock of the open connection is kept by a move
  abbrev Keeps : Brick → BrickLock → Type 0
  Keeps x lock = IsHeldBy (m.bricks k) lock → IsHeldBy x lock

  link : ℕ → Link
  link g = m.links k g

  works : (x : Brick) → ((t : ℕ) (grant : Grant) → is_current (m.links k (m.txns t).graph) grant.connection ≡ true → is_unlocking (m.txns t).stage ≡ false → Keeps x (lock_of t (m.txns t).graph grant)) →
      EachGranted (λ lock. is_current (m.links k lock.by.graph) lock.by.connection ≡ true → IsHeldBy x lock) x.outputs → GrantsAreHeld (with_brick m k x)
  works x keeps coming = record {
    handed = λ t j grant is. let s = r.grants.handed t j grant is in record {
      numbered = s.numbered;
      held = λ cur ul. at_case (λ n (y : Brick). is_current (m.links n (m.txns t).graph) grant.connection ≡ true → IsHeldBy (m.bricks n) (lock_of t (m.txns t).graph grant) → IsHeldBy y (lock_of t (m.txns t).graph grant)) m.bricks k x (λ c old. keeps t grant c ul old) j (λ ne c old. old) cur (s.held cur ul);
    };
    coming = λ j. at_case (λ n (y : Brick). EachGranted (λ lock. is_current (m.links n lock.by.graph) lock.by.connection ≡ true → IsHeldBy y lock) y.outputs) m.bricks k x coming j (λ ne. r.grants.coming j);
    none = r.grants.none;
  }

  front_sender : (by : Sender) (ask : Ask) (rest : List Input) → (m.bricks k).line ≡ Asked by ask ∷ rest → IsNumbered m k by ask
  front_sender by ask rest front = (subst (EachInput (IsNumbered m k)) front (r.way.numbered k).line).0

  came_from : (lock : BrickLock) → GrantedIn lock (m.bricks k).outputs → lock.by.graph ≡ (m.txns lock.by.txn).graph
  came_from lock i = (granted_sender (IsNumbered m k) lock (m.bricks k).outputs (r.way.numbered k).outputs i).1.graph

  link_open : (g c : ℕ) → is_current (m.links k g) c ≡ true → (m.links k g).is_open ≡ true
  link_open g c h = both_left _ _ h

  first_of : (lock : BrickLock) → is_current (m.links k lock.by.graph) lock.by.connection ≡ true → ConnectsFirst lock.by.graph (m.links k lock.by.graph) (m.bricks k)
  first_of lock cur = r.first k lock.by.graph (link_open lock.by.graph lock.by.connection cur)

  module _ (by : Sender) (ask : Ask) (rest : List Input) (front : (m.bricks k).line ≡ Asked by ask ∷ rest) where
    -- the flight of the sender, with an unlock of the open connection at the front
    unlock_flight : ask ≡ Unlock → is_current (m.links k (m.txns by.txn).graph) by.connection ≡ true →
        flight (is_mine by.txn (m.links k (m.txns by.txn).graph)) (m.bricks k) ≡ in_outputs (is_mine by.txn (m.links k (m.txns by.txn).graph)) (m.bricks k).outputs ++ (in_locks (is_mine by.txn (m.links k (m.txns by.txn).graph)) (m.bricks k).waiting ++ (Unlock ∷ in_line (is_mine by.txn (m.links k (m.txns by.txn).graph)) rest))
    unlock_flight is cur =
        let mine = is_mine by.txn (m.links k (m.txns by.txn).graph) in
        let own : mine by ≡ true = both _ _ (eq-eqb by.txn by.txn refl) cur in
        front_flies mine by ask rest (m.bricks k) front
        ∙ ap (λ b. in_outputs mine (m.bricks k).outputs ++ (in_locks mine (m.bricks k).waiting ++ ((if b then ask ∷ [] else []) ++ in_line mine rest))) own
        ∙ ap (λ a. in_outputs mine (m.bricks k).outputs ++ (in_locks mine (m.bricks k).waiting ++ (a ∷ in_line mine rest))) is

    unlock_stage : ask ≡ Unlock → is_current (m.links k (m.txns by.txn).graph) by.connection ≡ true → (m.txns by.txn).stage ≡ Unlocking
    unlock_stage is cur =
        let mine = is_mine by.txn (m.links k (m.txns by.txn).graph) in
        unlock_waited ((m.txns by.txn).flying k) _ _ _ (m.txns by.txn).stage k (r.way.few by.txn k)
        (ap any_unlock (sym (r.way.known by.txn k) ∙ unlock_flight is cur) ∙ unlock_in (in_outputs mine (m.bricks k).outputs) (in_locks mine (m.bricks k).waiting) (in_line mine rest))
        (λ w. (r.fit by.txn k w).last)

    -- an unlock of an earlier connection finds no lock of the open one
    late_closes : (lock : BrickLock) → by.txn ≡ lock.by.txn → lock.by.graph ≡ (m.txns lock.by.txn).graph → (cur : is_current (m.links k lock.by.graph) lock.by.connection ≡ true) → is_current (m.links k by.graph) by.connection ≡ false → IsHeldBy (m.bricks k) lock → has_closed (m.bricks k).outputs ≡ true
    late_closes lock same graph cur late held =
        let g : by.graph ≡ lock.by.graph = (front_sender by ask rest front).graph ∙ ap (λ n. (m.txns n).graph) same ∙ sym graph in
        controlled_closes lock.by.graph (m.links k lock.by.graph) (m.bricks k) (first_of lock cur) lock refl cur
        (behind_front lock.by.graph (m.links k lock.by.graph) (m.bricks k) (first_of lock cur) lock refl cur by ask rest front g (subst (λ h. is_current (m.links k h) by.connection ≡ false) g late)) held

    served_keeps : (lock : BrickLock) → lock.by.graph ≡ (m.txns lock.by.txn).graph → is_current (m.links k lock.by.graph) lock.by.connection ≡ true →
        (ask ≡ Unlock → by.txn ≡ lock.by.txn → is_current (m.links k by.graph) by.connection ≡ true → ⊥) → Keeps (served_by (m.bricks k).power by ask (record (m.bricks k) { line = rest })) lock
    served_keeps lock graph cur stop held = by_case (is_or_not (drops ask by lock)) where
      b : Brick
      b = record (m.bricks k) { line = rest }

      late : (ask ≡ Unlock) × (by.txn ≡ lock.by.txn) → (is_current (m.links k by.graph) by.connection ≡ true) ⊎ (is_current (m.links k by.graph) by.connection ≡ false) → IsHeldBy (served_by (m.bricks k).power by ask (record (m.bricks k) { line = rest })) lock
      late d (inl now) = absurd (stop d.0 d.1 now)
      late d (inr earlier) = inr (served_closes (record (m.bricks k) { line = rest }) (m.bricks k).power by ask (late_closes lock d.1 graph cur earlier held))

      by_case : (drops ask by lock ≡ true) ⊎ (drops ask by lock ≡ false) → IsHeldBy (served_by (m.bricks k).power by ask (record (m.bricks k) { line = rest })) lock
      by_case (inr kept) = served_holds lock (record (m.bricks k) { line = rest }) held (m.bricks k).power by ask kept
      by_case (inl dropped) = late (drops_unlock ask by lock dropped) (is_or_not (is_current (m.links k by.graph) by.connection))

    pub handed_stop : (t : ℕ) → is_unlocking (m.txns t).stage ≡ false → ask ≡ Unlock → by.txn ≡ t → is_current (m.links k by.graph) by.connection ≡ true → ⊥
    handed_stop t ul is same cur =
        let c : is_current (m.links k (m.txns by.txn).graph) by.connection ≡ true = subst (λ g. is_current (m.links k g) by.connection ≡ true) (front_sender by ask rest front).graph cur in
        let s : is_unlocking (m.txns t).stage ≡ true = ap is_unlocking (ap (λ n. (m.txns n).stage) (sym same) ∙ unlock_stage is c) in
        absurd (let never : true ≡ false = sym s ∙ ul in cc)

    pub coming_stop : (lock : BrickLock) → GrantedIn lock (m.bricks k).outputs → is_current (m.links k lock.by.graph) lock.by.connection ≡ true → ask ≡ Unlock → by.txn ≡ lock.by.txn → is_current (m.links k by.graph) by.connection ≡ true → ⊥
    coming_stop lock i lock_cur is same cur =
        let mine = is_mine by.txn (m.links k (m.txns by.txn).graph) in
        let c : is_current (m.links k (m.txns by.txn).graph) by.connection ≡ true = subst (λ g. is_current (m.links k g) by.connection ≡ true) (front_sender by ask rest front).graph cur in
        let lock_graph : lock.by.graph ≡ (m.txns by.txn).graph = came_from lock i ∙ ap (λ n. (m.txns n).graph) (sym same) in
        let own : mine lock.by ≡ true = both _ _ (eq-eqb lock.by.txn by.txn (sym same)) (subst (λ g. is_current (m.links k g) lock.by.connection ≡ true) lock_graph lock_cur) in
        let alone : IsAlone (flight mine (m.bricks k)) = subst IsAlone (sym (r.way.known by.txn k)) (flight_alone ((m.txns by.txn).flying k) _ _ _ (r.way.few by.txn k)) in
        not_both (in_outputs mine (m.bricks k).outputs) (in_locks mine (m.bricks k).waiting) (in_line mine rest) (subst IsAlone (unlock_flight is c) alone) (granted_flies mine lock own (m.bricks k).outputs i)

    served_coming : EachGranted (λ lock. is_current (m.links k lock.by.graph) lock.by.connection ≡ true → IsHeldBy (served_by (m.bricks k).power by ask (record (m.bricks k) { line = rest })) lock) (served_by (m.bricks k).power by ask (record (m.bricks k) { line = rest })).outputs
    served_coming =
        let Q : BrickLock → Type 0 = λ lock. is_current (m.links k lock.by.graph) lock.by.connection ≡ true → IsHeldBy (served_by (m.bricks k).power by ask (record (m.bricks k) { line = rest })) lock in
        served_grants Q (record (m.bricks k) { line = rest })
        (granted_map (λ lock. is_current (m.links k lock.by.graph) lock.by.connection ≡ true → IsHeldBy (m.bricks k) lock) Q (m.bricks k).outputs
        (λ lock i p cur. served_keeps lock (came_from lock i) cur (coming_stop lock i cur) (p cur)) (r.grants.coming k))
        (m.bricks k).power by ask (λ lock among cur. inl among)

    served_works : GrantsAreHeld (with_brick m k (served_by (m.bricks k).power by ask (record (m.bricks k) { line = rest })))
    served_works = works _ (λ t grant cur ul. served_keeps (lock_of t (m.txns t).graph grant) refl cur (handed_stop t ul)) served_coming

    answered_works : (answer : Answer) (x : Brick) → x ≡ answering by ask answer (record (m.bricks k) { line = rest; power = x.power }) → lock_granted by ask answer ≡ None → GrantsAreHeld (with_brick m k x)
    answered_works answer x is none = works x keeps coming where
      keeps_lock : (lock : BrickLock) → IsHeldBy (m.bricks k) lock → IsHeldBy x lock
      keeps_lock lock held = subst (λ (y : Brick). IsHeldBy y lock) (sym is) (answering_holds lock (record (m.bricks k) { line = rest; power = x.power }) held by ask answer)

      keeps : (t : ℕ) (grant : Grant) → is_current (m.links k (m.txns t).graph) grant.connection ≡ true → is_unlocking (m.txns t).stage ≡ false → Keeps x (lock_of t (m.txns t).graph grant)
      keeps t grant cur ul held = keeps_lock (lock_of t (m.txns t).graph grant) held

      coming : EachGranted (λ lock. is_current (m.links k lock.by.graph) lock.by.connection ≡ true → IsHeldBy x lock) x.outputs
      coming =
          let Q : BrickLock → Type 0 = λ lock. is_current (m.links k lock.by.graph) lock.by.connection ≡ true → IsHeldBy x lock in
          subst (EachGranted Q) (sym (ap (λ (y : Brick). y.outputs) is))
          (granted_append Q (m.bricks k).outputs (Answered by ask answer ∷ [])
          (granted_map (λ lock. is_current (m.links k lock.by.graph) lock.by.connection ≡ true → IsHeldBy (m.bricks k) lock) Q (m.bricks k).outputs (λ lock i p cur. keeps_lock lock (p cur)) (r.grants.coming k))
          (no_rows Q by ask answer none, tt))

  module _ (control : Control) (rest : List Input) (front : (m.bricks k).line ≡ Steered control ∷ rest) where
    steered_keeps : (lock : BrickLock) → is_current (m.links k lock.by.graph) lock.by.connection ≡ true → Keeps (steered control (record (m.bricks k) { line = rest })) lock
    steered_keeps lock cur held = by_case (is_or_not (is_control_of lock.by.graph control)) where
      by_case : (is_control_of lock.by.graph control ≡ true) ⊎ (is_control_of lock.by.graph control ≡ false) → IsHeldBy (steered control (record (m.bricks k) { line = rest })) lock
      by_case (inr other) = steered_holds lock (record (m.bricks k) { line = rest }) held control other
      by_case (inl own) =
          let has : has_control lock.by.graph (m.bricks k).line ≡ true = ap (has_control lock.by.graph) front ∙ ap (λ b. b || has_control lock.by.graph rest) own in
          inr (steered_closes (record (m.bricks k) { line = rest }) control (controlled_closes lock.by.graph (m.links k lock.by.graph) (m.bricks k) (first_of lock cur) lock refl cur has held))

    steered_works : GrantsAreHeld (with_brick m k (steered control (record (m.bricks k) { line = rest })))
    steered_works =
        let Q : BrickLock → Type 0 = λ lock. is_current (m.links k lock.by.graph) lock.by.connection ≡ true → IsHeldBy (steered control (record (m.bricks k) { line = rest })) lock in
        works _ (λ t grant cur ul. steered_keeps (lock_of t (m.txns t).graph grant) cur)
        (steered_grants Q (record (m.bricks k) { line = rest })
        (granted_map (λ lock. is_current (m.links k lock.by.graph) lock.by.connection ≡ true → IsHeldBy (m.bricks k) lock) Q (m.bricks k).outputs (λ lock i p cur. steered_keeps lock cur (p cur)) (r.grants.coming k))
        control (λ lock among cur. inl among))

-- ---- steps that leave the bricks' locks alone

module _ (size : Size) (m : State) (r : Rests size m) where
  -- the bricks and the connections are the same
  leaves_all : (new : State) → new.bricks ≡ m.bricks → new.links ≡ m.links → LeavesLocks m new
  leaves_all new bricks links = record {
    last = λ k g. omega (arith, ap (λ (f : ℕ → ℕ → Link). (f k g).last) links);
    stays = λ k g c low cur. ap (λ (f : ℕ → ℕ → Link). f k g) links;
    holds = λ k lock cur held. subst (λ (f : ℕ → Brick). IsHeldBy (f k) lock) (sym bricks) held;
    outputs = λ k p. subst (λ (f : ℕ → Brick). EachGranted (λ lock. is_current (new.links k lock.by.graph) lock.by.connection ≡ true → IsHeldBy (new.bricks k) lock) (f k).outputs) (sym bricks) p;
  }

  carries : (new : State) → new.bricks ≡ m.bricks → new.links ≡ m.links → ((i : ℕ) → (new.txns i).graph ≡ (m.txns i).graph) → ((i : ℕ) → GrantsTurn (m.txns i) (new.txns i)) → GrantsAreHeld new
  carries new bricks links graphs turns = regranted m new r.way.numbered r.grants (leaves_all new bricks links) (λ i. turned m new r.way.numbered r.grants (leaves_all new bricks links) i (new.txns i) (graphs i) (turns i))

  -- more inputs in the line of one brick
  leaves_inputs : (k : ℕ) (inputs : List Input) (new : State) → new.bricks ≡ (with_inputs m k inputs).bricks → ((j g : ℕ) → (m.links j g).last ≤ (new.links j g).last) →
      ((j g c : ℕ) → c ≤ (m.links j g).last → is_current (new.links j g) c ≡ true → new.links j g ≡ m.links j g) → LeavesLocks m new
  leaves_inputs k inputs new bricks last stays = record {
    last = last;
    stays = stays;
    holds = λ j lock cur held. subst (λ (f : ℕ → Brick). IsHeldBy (f j) lock) (sym bricks) (at_case (λ n (b : Brick). IsHeldBy (m.bricks n) lock → IsHeldBy b lock) m.bricks k (record (m.bricks k) { line = (m.bricks k).line ++ inputs }) (λ h. h) j (λ ne h. h) held);
    outputs = λ j p. subst (λ (f : ℕ → Brick). EachGranted (λ lock. is_current (new.links j lock.by.graph) lock.by.connection ≡ true → IsHeldBy (new.bricks j) lock) (f j).outputs) (sym bricks)
        (at_case (λ n (b : Brick). EachGranted (λ lock. is_current (new.links j lock.by.graph) lock.by.connection ≡ true → IsHeldBy (new.bricks j) lock) (m.bricks n).outputs → EachGranted (λ lock. is_current (new.links j lock.by.graph) lock.by.connection ≡ true → IsHeldBy (new.bricks j) lock) b.outputs) m.bricks k (record (m.bricks k) { line = (m.bricks k).line ++ inputs }) (λ q. q) j (λ ne q. q) p);
  }

  -- an output that is no Closed is taken from the front
  leaves_popped : (k : ℕ) (o : Output) (rest : List Output) → (m.bricks k).outputs ≡ o ∷ rest → has_closed (o ∷ rest) ≡ has_closed rest →
      ((P : BrickLock → Type 0) → EachGranted P (o ∷ rest) → EachGranted P rest) → (new : State) → new.bricks ≡ (without_first_output m k).bricks → new.links ≡ m.links → LeavesLocks m new
  leaves_popped k o rest front open_still tail new bricks links = record {
    last = λ j g. omega (arith, ap (λ (f : ℕ → ℕ → Link). (f j g).last) links);
    stays = λ j g c low cur. ap (λ (f : ℕ → ℕ → Link). f j g) links;
    holds = λ j lock cur held. subst (λ (f : ℕ → Brick). IsHeldBy (f j) lock) (sym bricks) (at_case (λ n (b : Brick). IsHeldBy (m.bricks n) lock → IsHeldBy b lock) m.bricks k (record (m.bricks k) { outputs = without_output (m.bricks k).outputs }) (popped_holds lock) j (λ ne h. h) held);
    outputs = λ j p. subst (λ (f : ℕ → Brick). EachGranted (λ lock. is_current (new.links j lock.by.graph) lock.by.connection ≡ true → IsHeldBy (new.bricks j) lock) (f j).outputs) (sym bricks)
        (at_case (λ n (b : Brick). EachGranted (λ lock. is_current (new.links j lock.by.graph) lock.by.connection ≡ true → IsHeldBy (new.bricks j) lock) (m.bricks n).outputs → EachGranted (λ lock. is_current (new.links j lock.by.graph) lock.by.connection ≡ true → IsHeldBy (new.bricks j) lock) b.outputs) m.bricks k (record (m.bricks k) { outputs = without_output (m.bricks k).outputs })
        (popped_outputs (λ lock. is_current (new.links j lock.by.graph) lock.by.connection ≡ true → IsHeldBy (new.bricks j) lock)) j (λ ne q. q) p);
  }
    where
      rest_is : without_output (m.bricks k).outputs ≡ rest
      rest_is = ap without_output front

      popped_holds : (lock : BrickLock) → IsHeldBy (m.bricks k) lock → IsHeldBy (record (m.bricks k) { outputs = without_output (m.bricks k).outputs }) lock
      popped_holds lock (inl among) = inl among
      popped_holds lock (inr closing) = inr (ap has_closed (ap without_output front) ∙ sym open_still ∙ sym (ap has_closed front) ∙ closing)

      popped_outputs : (P : BrickLock → Type 0) → EachGranted P (m.bricks k).outputs → EachGranted P (without_output (m.bricks k).outputs)
      popped_outputs P p = subst (EachGranted P) (sym (ap without_output front)) (tail P (subst (EachGranted P) front p))

  as_it_was : (new : State) → new.txns ≡ m.txns → LeavesLocks m new → GrantsAreHeld new
  as_it_was new txns l = regranted m new r.way.numbered r.grants l (λ i. subst (λ (f : ℕ → Txn). HasGrants m new i (f i)) (sym txns) (turned m new r.way.numbered r.grants l i (m.txns i) refl (same_grants (m.txns i))))

  -- ---- what is handed in

  replied_grants : (k : ℕ) (by : Sender) (ask : Ask) (answer : Answer) (rest : List Output) → (m.bricks k).outputs ≡ Answered by ask answer ∷ rest → is_current (m.links k by.graph) by.connection ≡ true →
      GrantsAreHeld (replied (without_first_output m k) k by ask answer)
  replied_grants k by ask answer rest front connected =
      let m1 = without_first_output m k in
      let new = replied m1 k by ask answer in
      let b = replied_beside m1 k by ask answer in
      let p = replied_txns m1 k by ask answer in
      let l : LeavesLocks m new = leaves_popped k (Answered by ask answer) rest front refl (λ P q. q.1) new b.bricks b.links in
      regranted m new r.way.numbered r.grants l (λ i. subst (λ (f : ℕ → Txn). HasGrants m new i (f i)) (sym p.is)
      (at_case (λ n y. HasGrants m new n y) m.txns by.txn p.after
      (heard_has m new r.way.numbered r.grants l k by ask answer rest front b.links connected (lock_stage k by ask answer rest front connected) p.after p.heard) i
      (λ ne. turned m new r.way.numbered r.grants l i (m.txns i) refl (same_grants (m.txns i)))))
    where
      lock_stage : (k : ℕ) (by : Sender) (ask : Ask) (answer : Answer) (rest : List Output) → (m.bricks k).outputs ≡ Answered by ask answer ∷ rest → is_current (m.links k by.graph) by.connection ≡ true →
          awaits (m.txns by.txn) k ≡ true → (shared : Bool) (cells : List Cell) → ask ≡ Lock shared cells → has_none (m.txns by.txn).stage ≡ false
      lock_stage k by ask answer rest front connected waits shared cells is =
          let graph : by.graph ≡ (m.txns by.txn).graph = (subst (EachOutput (IsNumbered m k)) front (r.way.numbered k).outputs).0.graph in
          let flies = first_flies m k by ask answer rest front graph r.way.known r.way.few connected in
          let behind : List Ask = flight (is_mine by.txn (m.links k (m.txns by.txn).graph)) (record (m.bricks k) { outputs = without_output (m.bricks k).outputs }) in
          let single = single_tail ((m.txns by.txn).flying k) ask behind flies (both_right ((m.txns by.txn).waits k) (is_single ((m.txns by.txn).flying k)) waits) in
          let last : LastFits (ask ∷ []) (m.txns by.txn).stage k = subst (λ f. LastFits f (m.txns by.txn).stage k) (flies ∙ ap (λ z. ask ∷ z) single) (r.fit by.txn k (both_left ((m.txns by.txn).waits k) (is_single ((m.txns by.txn).flying k)) waits)).last in
          let fits : (m.txns by.txn).stage ≡ Locking cells shared k = subst (λ a. Fits a (m.txns by.txn).stage k) is last in
          ap has_none fits

  closing_grants : (k : ℕ) (rest : List Output) → (m.bricks k).outputs ≡ Closed ∷ rest → GrantsAreHeld (without_links (without_first_output m k) k (λ g. true))
  closing_grants k rest front = regranted m new r.way.numbered r.grants l (λ i. turned m new r.way.numbered r.grants l i (forgetting (λ g. true) k (m.txns i)) refl (KeepsGrants refl (λ h. h) (λ h. h)))
    where
      new : State
      new = without_links (without_first_output m k) k (λ g. true)

      shut : (g : ℕ) → ((without_links (without_first_output m k) k (λ h. true)).links k g).is_open ≡ false
      shut g = ap (λ (f : ℕ → Link). (f g).is_open) (at_same m.links k (λ h. if true then closed (m.links k h) else m.links k h))

      late : (g c : ℕ) → is_current ((without_links (without_first_output m k) k (λ h. true)).links k g) c ≡ true → ⊥
      late g c cur = absurd (let never : true ≡ false = sym (both_left _ _ cur) ∙ shut g in cc)

      l : LeavesLocks m (without_links (without_first_output m k) k (λ h. true))
      l = record {
        last = λ j g. ended_last m k (λ h. true) j g;
        stays = λ j g c low cur. same_or_late j g c cur (ended_link m k (λ h. true) j g);
        holds = λ j lock cur held. at_case (λ n (b : Brick). is_current ((without_links (without_first_output m k) k (λ h. true)).links n lock.by.graph) lock.by.connection ≡ true → IsHeldBy (m.bricks n) lock → IsHeldBy b lock) m.bricks k (record (m.bricks k) { outputs = without_output (m.bricks k).outputs }) (λ c h. absurd (late lock.by.graph lock.by.connection c)) j (λ ne c h. h) cur held;
        outputs = λ j p. at_case (λ n (b : Brick). EachGranted (λ lock. is_current ((without_links (without_first_output m k) k (λ h. true)).links j lock.by.graph) lock.by.connection ≡ true → IsHeldBy ((without_first_output m k).bricks j) lock) (m.bricks n).outputs → EachGranted (λ lock. is_current ((without_links (without_first_output m k) k (λ h. true)).links j lock.by.graph) lock.by.connection ≡ true → IsHeldBy ((without_first_output m k).bricks j) lock) b.outputs) m.bricks k (record (m.bricks k) { outputs = without_output (m.bricks k).outputs })
            (λ q. subst (EachGranted (λ lock. is_current ((without_links (without_first_output m k) k (λ h. true)).links j lock.by.graph) lock.by.connection ≡ true → IsHeldBy ((without_first_output m k).bricks j) lock)) (sym (ap without_output front)) (subst (EachGranted (λ lock. is_current ((without_links (without_first_output m k) k (λ h. true)).links j lock.by.graph) lock.by.connection ≡ true → IsHeldBy ((without_first_output m k).bricks j) lock)) front q)) j (λ ne q. q) p;
      }
        where
          same_or_late : (j g c : ℕ) → is_current ((without_links (without_first_output m k) k (λ h. true)).links j g) c ≡ true → IsSameOrClosed (m.links j g) ((without_links (without_first_output m k) k (λ h. true)).links j g) → (without_links (without_first_output m k) k (λ h. true)).links j g ≡ m.links j g
          same_or_late j g c cur (inl same) = same
          same_or_late j g c cur (inr over) = absurd (let never : true ≡ false = sym (both_left _ _ cur) ∙ over in cc)

  hands_grants : (k : ℕ) (o : Output) (rest : List Output) → (m.bricks k).outputs ≡ o ∷ rest → GrantsAreHeld (taken_in (without_first_output m k) k o)
  hands_grants k (Answered by ask answer) rest front = by_case (is_current (m.links k by.graph) by.connection) refl where
    by_case : (b : Bool) → is_current (m.links k by.graph) by.connection ≡ b → GrantsAreHeld (if b then replied (without_first_output m k) k by ask answer else without_first_output m k)
    by_case true connected = replied_grants k by ask answer rest front connected
    by_case false late = as_it_was (without_first_output m k) refl (leaves_popped k (Answered by ask answer) rest front refl (λ P q. q.1) (without_first_output m k) refl refl)
  hands_grants k Closed rest front = closing_grants k rest front
  hands_grants k Opened rest front = as_it_was (without_first_output m k) refl (leaves_popped k Opened rest front refl (λ P q. q) (without_first_output m k) refl refl)
  hands_grants k (Connected graph) rest front = as_it_was (without_first_output m k) refl (leaves_popped k (Connected graph) rest front refl (λ P q. q) (without_first_output m k) refl refl)

  -- ---- connections

  cut_grants : (k g : ℕ) → GrantsAreHeld (after size m (Step.Cuts k g))
  cut_grants k g =
      let new = after size m (Step.Cuts k g) in
      let l : LeavesLocks m new = leaves_inputs k (Steered (Control.Disconnect g) ∷ []) new refl (λ j h. ended_last m k (λ other. other == g) j h) stays in
      regranted m new r.way.numbered r.grants l (λ i. turned m new r.way.numbered r.grants l i (forgetting (λ other. other == g) k (m.txns i)) (forgetting_graph (λ other. other == g) k (m.txns i)) (forgetting_turn (λ other. other == g) k (m.txns i)))
    where
      stays : (j h c : ℕ) → c ≤ (m.links j h).last → is_current ((after size m (Step.Cuts k g)).links j h) c ≡ true → (after size m (Step.Cuts k g)).links j h ≡ m.links j h
      stays j h c low cur = same_or_late (ended_link m k (λ other. other == g) j h) where
        same_or_late : IsSameOrClosed (m.links j h) ((after size m (Step.Cuts k g)).links j h) → (after size m (Step.Cuts k g)).links j h ≡ m.links j h
        same_or_late (inl same) = same
        same_or_late (inr over) = absurd (let never : true ≡ false = sym (both_left _ _ cur) ∙ over in cc)

      forgetting_graph : (ends : ℕ → Bool) (k : ℕ) (x : Txn) → (forgetting ends k x).graph ≡ x.graph
      forgetting_graph ends k x = by_case (ends x.graph) where
        by_case : (b : Bool) → (if b then record x { flying = with_at x.flying k [] } else x).graph ≡ x.graph
        by_case true = refl
        by_case false = refl

      forgetting_turn : (ends : ℕ → Bool) (k : ℕ) (x : Txn) → GrantsTurn x (forgetting ends k x)
      forgetting_turn ends k x = by_case (ends x.graph) where
        by_case : (b : Bool) → GrantsTurn x (if b then record x { flying = with_at x.flying k [] } else x)
        by_case true = KeepsGrants refl (λ h. h) (λ h. h)
        by_case false = same_grants x

  connect_grants : (k g : ℕ) → GrantsAreHeld (after size m (Step.Connects k g))
  connect_grants k g = as_it_was (after size m (Step.Connects k g)) refl (leaves_inputs k (Steered (Control.Connect g) ∷ []) (after size m (Step.Connects k g)) refl (λ j h. step_last size m (Step.Connects k g) j h) stays)
    where
      stays : (j h c : ℕ) → c ≤ (m.links j h).last → is_current ((after size m (Step.Connects k g)).links j h) c ≡ true → (after size m (Step.Connects k g)).links j h ≡ m.links j h
      stays j h c low cur =
          at_case (λ n (f : ℕ → Link). c ≤ (m.links n h).last → is_current (f h) c ≡ true → f h ≡ m.links n h) m.links k (with_at (m.links k) g (record { last = (m.links k g).last + 1; is_open = true }))
          (λ l0 c0. at_case (λ i (x : Link). c ≤ (m.links k i).last → is_current x c ≡ true → x ≡ m.links k i) (m.links k) g (record { last = (m.links k g).last + 1; is_open = true })
          (λ l1 c1. absurd (omega (arith, l1, eqb-true c ((m.links k g).last + 1) c1))) h (λ ne l1 c1. refl) l0 c0)
          j (λ ne l0 c0. refl) low cur

  unsettle_grants : (t : ℕ) (stage : Stage) → (m.txns t).stage ≡ stage → GrantsAreHeld (unsettling m t stage)
  unsettle_grants t (Marking u) is = carries (unsettling m t (Marking u)) refl refl (λ i. at_case (λ n (y : Txn). y.graph ≡ (m.txns n).graph) m.txns t _ refl i (λ ne. refl)) (λ i. at_case (λ n y. GrantsTurn (m.txns n) y) m.txns t _ (KeepsGrants refl (λ h. ap is_unlocking is) (λ h. absurd cc)) i (λ ne. same_grants (m.txns i)))
  unsettle_grants t other is = r.grants

  begin_grants : (t graph : ℕ) (own : Job) → GrantsAreHeld (after size m (Step.Turns t (Turn.Begins graph own)))
  begin_grants t graph own =
      let new = after size m (Step.Turns t (Turn.Begins graph own)) in
      let l = leaves_all new refl refl in
      regranted m new r.way.numbered r.grants l (λ i. at_case (λ n y. HasGrants m new n y) m.txns t (new_txn graph own) (emptied m new r.way.numbered r.grants l t (new_txn graph own) (λ k. refl)) i (λ ne. turned m new r.way.numbered r.grants l i (m.txns i) refl (same_grants (m.txns i))))

  turn_works : (t : ℕ) (turn : Turn) → Allowed size m (Step.Turns t turn) → is_beginning turn ≡ false → GrantsAreHeld (after size m (Step.Turns t turn))
  turn_works t turn h b = carries (after_turn size m t turn) (turn_bricks size m t turn) (turn_links m size t turn) (λ i. (step_goes size m (Step.Turns t turn) h b i).graph) turns
    where
      turns : (i : ℕ) → GrantsTurn (m.txns i) ((after_turn size m t turn).txns i)
      turns i = by_case (cases_eq i t) where
        by_case : (i ≡ t) ⊎ (i ≢ t) → GrantsTurn (m.txns i) ((after_turn size m t turn).txns i)
        by_case (inl same) = subst (λ n. GrantsTurn (m.txns n) ((after_turn size m t turn).txns n)) (sym same) (turn_grants size m t turn h)
        by_case (inr other) = subst (GrantsTurn (m.txns i)) (sym (turn_others size m t turn i other)) (same_grants (m.txns i))

  ask_grants : (t k : ℕ) (first : Bool) (ask : Ask) → GrantsAreHeld (after size m (Step.Asks t k first ask))
  ask_grants t k first ask =
      let new = after size m (Step.Asks t k first ask) in
      let l : LeavesLocks m new = leaves_inputs k (inputs_of (sender_of m t k) (asks_of first ask)) new refl (λ j g. omega arith) (λ j g c low cur. refl) in
      regranted m new r.way.numbered r.grants l (λ i. at_case (λ n y. HasGrants m new n y) m.txns t _ (turned m new r.way.numbered r.grants l t _ refl (KeepsGrants refl (λ h. h) (λ h. h))) i (λ ne. turned m new r.way.numbered r.grants l i (m.txns i) refl (same_grants (m.txns i))))

-- ---- each step

step_grants : (size : Size) (m : State) (r : Rests size m) (step : Step) → Allowed size m step → GrantsAreHeld (after size m step)
step_grants size m r (Step.Turns t (Turn.Begins graph own)) h = begin_grants size m r t graph own
step_grants size m r (Step.Turns t turn) h = turn_works size m r t turn h refl
step_grants size m r (Step.Asks t k first asked) h = ask_grants size m r t k first asked
step_grants size m r (Step.Controls k steering) h = as_it_was size m r (after size m (Step.Controls k steering)) refl (leaves_inputs size m r k (Steered steering ∷ []) (after size m (Step.Controls k steering)) refl (λ j g. omega arith) (λ j g c low cur. refl))
step_grants size m r (Step.Serves k) h = let b = m.bricks k in
    subst (λ (x : Brick). GrantsAreHeld (with_brick m k x)) (sym (ap (λ (l : List Input). served_front l (record b { line = without_front l })) h.front)) (served_works size m r k h.by h.asked h.rest h.front)
step_grants size m r (Step.Refuses k answer) h = let b = m.bricks k in
    subst (λ (x : Brick). GrantsAreHeld (with_brick m k x)) (sym (ap (λ (l : List Input). refused_front l answer (record b { line = without_front l })) h.request.front))
    (answered_works size m r k h.request.by h.request.asked h.request.rest h.request.front answer (refused h.request.by h.request.asked answer (record b { line = h.request.rest })) refl (refusal_grants_none h.request.by h.request.asked answer h.refusal))
step_grants size m r (Step.GivesUp k) h = let b = m.bricks k in
    subst (λ (x : Brick). GrantsAreHeld (with_brick m k x)) (sym (ap (λ (l : List Input). given_up_front l (record b { line = without_front l })) h.front))
    (answered_works size m r k h.by h.asked h.rest h.front Gone (answering h.by h.asked Gone (record b { line = h.rest })) refl (gone_grants_none h.by h.asked))
step_grants size m r (Step.Steers k) h = let b = m.bricks k in
    subst (λ (x : Brick). GrantsAreHeld (with_brick m k x)) (sym (ap (λ (l : List Input). steered_front l (record b { line = without_front l })) h.front)) (steered_works size m r k h.steering h.rest h.front)
step_grants size m r (Step.HandsIn k) h = subst (λ (os : List Output). GrantsAreHeld (take_in_front (without_first_output m k) k os)) (sym h.front) (hands_grants size m r k h.first h.rest h.front)
step_grants size m r (Step.Bails t k) h =
    carries size m r (after size m (Step.Bails t k)) refl refl (λ i. at_case (λ n (y : Txn). y.graph ≡ (m.txns n).graph) m.txns t _ refl i (λ ne. refl))
    (λ i. at_case (λ n y. GrantsTurn (m.txns n) y) m.txns t _ (KeepsGrants refl (goes_unlocks (m.txns t).stage (passed (m.txns t).stage) (StageGoes.PassesOn refl)) (goes_none (m.txns t).stage (passed (m.txns t).stage) (StageGoes.PassesOn refl))) i (λ ne. same_grants (m.txns i)))
step_grants size m r (Step.Misses t k) h =
    carries size m r (after size m (Step.Misses t k)) refl refl (λ i. at_case (λ n (y : Txn). y.graph ≡ (m.txns n).graph) m.txns t _ refl i (λ ne. refl))
    (λ i. at_case (λ n y. GrantsTurn (m.txns n) y) m.txns t _ (KeepsGrants refl (λ u. u) (λ u. u)) i (λ ne. same_grants (m.txns i)))
step_grants size m r (Step.Connects k g) h = connect_grants size m r k g
step_grants size m r (Step.Cuts k g) h = cut_grants size m r k g
step_grants size m r (Step.Draws number) h = record { handed = λ t k grant is. let s = r.grants.handed t k grant is in record { numbered = s.numbered; held = s.held }; coming = r.grants.coming; none = r.grants.none }
step_grants size m r (Step.Unsettles t) h = unsettle_grants size m r t (m.txns t).stage refl
step_grants size m r (Step.Decides t) h = let d = decided_by (m.txns t).stage in as_it_was size m r (decided m d) (decided_txns m d) (leaves_all size m r (decided m d) (decided_bricks m d) (decided_links m d))

start_grants : GrantsAreHeld start
start_grants = record { handed = λ t k grant is. absurd cc; coming = λ k. tt; none = λ t h k. refl }

pub grants_are_held : (size : Size) (m : State) → IsReached size m → GrantsAreHeld m
grants_are_held size m IsReached.Start = start_grants
grants_are_held size m (IsReached.Further old step reached allowed) =
    step_grants size old (record { way = on_their_way size old reached; first = connects_come_first size old reached; fit = waits_fit size old reached; grants = grants_are_held size old reached }) step allowed
