-- What is noted in a lock phase when a reply is handed in: the confirmation of a post or settle, and of nothing else.
use Rattle.std.proofs.Common.{◌≡◌, ◌∙◌, ℕ, ◌≤◌, Bool, true, false, refl, sym, ap, subst, ◌⊎◌, inl, inr, arith}
use Rattle.std.specs.Prelude.{if◌then◌else◌, List, [], ◌∷◌, ◌≢◌}
use Rattle.fop_types.specs.declared.cells.Cell.{Cell}
use Rattle.afr_machine.specs.Replicas.{Size, Replicas, with_at}
use Rattle.afr_machine.specs.Requests.{Sender, Ask, Answer, Output}
use Rattle.afr_machine.specs.Requests.Ask.{Lock, Unlock, Mark, Op, Post, Fetch, Replace, Clear, Settle, Index, Open, Release, OpenFirst}
use Rattle.afr_machine.specs.Requests.Output.{Answered}
use Rattle.afr_machine.specs.Phases.{Phase}
use Rattle.afr_machine.specs.Transactions.{Stage, Txn}
use Rattle.afr_machine.specs.Transactions.Stage.{Applying, Posting, Settling, Bearing, Copying}
use Rattle.afr_machine.specs.States.{State, is_current, with_txn}
use Rattle.afr_machine.specs.Answering.{is_wanted, awaits, is_single, landed, at_rest, hearing, applied_by, with_cleared, cleared_for, noting, noted, answered, replied, taken_in, without_first_output}
use Rattle.afr_machine.specs.Steps.{Step, Allowed, after, IsReached, take_in_front}
use Rattle.afr_machine.proofs.Tables.{at_same}
use Rattle.afr_laws.specs.Senders.{EachOutput}
use Rattle.afr_laws.specs.Numbered.{IsNumbered}
use Rattle.afr_laws.specs.Asking.{LastIs, IsAskedBy, IsSettlingBy}
use Rattle.afr_laws.proofs.Bools.{both_left, both_right}
use Rattle.afr_laws.proofs.Carry.{at_case}
use Rattle.afr_laws.proofs.Flying.{on_their_way}
use Rattle.afr_laws.proofs.FlightHands.{first_flies, single_tail}
use Rattle.afr_laws.proofs.Asking.Steps.{asks_are_of_phases}
use Rattle.afr_soundness.proofs.PhaseMoves.{IsHandedIn, PhaseMove, phase_moves}
use Rattle.afr_decisions.specs.Confirmed.{is_reporting}

-- posts and settles
abbrev pub is_report : Ask → Bool
is_report (Post u cells accused) = true
is_report (Settle u cells accused) = true
is_report other = false

-- ---- the reply is to what its transaction's stage asked for

module _ (size : Size) (m : State) (r : IsReached size m) (k : ℕ) (by : Sender) (ask : Ask) (answer : Answer) (h : IsHandedIn m k by ask answer) where
  pub handed_waits : (m.txns by.txn).waits k ≡ true
  handed_waits = both_left ((m.txns by.txn).waits k) (is_single ((m.txns by.txn).flying k)) h.awaited

  pub handed_asked : IsAskedBy size m.changes (m.txns by.txn).job (m.txns by.txn).stage k ask
  handed_asked =
      let graph : by.graph ≡ (m.txns by.txn).graph = (subst (EachOutput (IsNumbered m k)) h.front ((on_their_way size m r).numbered k).outputs).0.graph in
      let flies = first_flies m k by ask answer h.rest h.front graph (on_their_way size m r).known (on_their_way size m r).few h.current in
      let single = single_tail ((m.txns by.txn).flying k) ask _ flies (both_right ((m.txns by.txn).waits k) (is_single ((m.txns by.txn).flying k)) h.awaited) in
      subst (LastIs (IsAskedBy size m.changes (m.txns by.txn).job (m.txns by.txn).stage k)) (flies ∙ ap (λ z. ask ∷ z) single) (asks_are_of_phases size m r by.txn k handed_waits)

-- ---- what the reply makes of the lock phases

module _ (m : State) (k : ℕ) (by : Sender) where
  answered_phases : (ask : Ask) (answer : Answer) → awaits (m.txns by.txn) k ≡ true → is_wanted ask answer ≡ true → (answered (without_first_output m k) k by ask answer).phases ≡ (noting (without_first_output m k) (m.txns by.txn) k ask).phases
  answered_phases ask answer waits wanted =
      ap (λ b. (if b then with_txn (noted (without_first_output m k) (m.txns by.txn) k ask answer) by.txn (hearing (at_rest (m.txns by.txn) k) k by.connection ask answer) else with_txn (without_first_output m k) by.txn (landed (m.txns by.txn) k)).phases) waits
      ∙ ap (λ b. (if b then noting (without_first_output m k) (m.txns by.txn) k ask else without_first_output m k).phases) wanted

  replied_phases : (ask : Ask) (answer : Answer) → awaits (m.txns by.txn) k ≡ true → is_wanted ask answer ≡ true → (replied (without_first_output m k) k by ask answer).phases ≡ (noting (without_first_output m k) (m.txns by.txn) k ask).phases
  replied_phases OpenFirst answer waits wanted = refl
  replied_phases other answer waits wanted = answered_phases other answer waits wanted

module _ (size : Size) (m : State) (k : ℕ) (by : Sender) (ask : Ask) (answer : Answer) (h : IsHandedIn m k by ask answer) where
  handed_phases : (after size m (Step.HandsIn k)).phases ≡ (noting (without_first_output m k) (m.txns by.txn) k ask).phases
  handed_phases =
      ap (λ os. (take_in_front (without_first_output m k) k os).phases) h.front
      ∙ ap (λ b. (if b then replied (without_first_output m k) k by ask answer else without_first_output m k).phases) h.current
      ∙ replied_phases m k by ask answer h.awaited h.wanted

  report_notes : (ask : Ask) → is_report ask ≡ true → ((noting (without_first_output m k) (m.txns by.txn) k ask).phases (m.txns by.txn).phase).confirmed k ≡ true
  report_notes (Post u cells accused) is = ap (λ (q : Phase). q.confirmed k) (at_same m.phases (m.txns by.txn).phase (record (m.phases (m.txns by.txn).phase) { confirmed = with_at (m.phases (m.txns by.txn).phase).confirmed k true })) ∙ at_same (m.phases (m.txns by.txn).phase).confirmed k true
  report_notes (Settle u cells accused) is = ap (λ (q : Phase). q.confirmed k) (at_same m.phases (m.txns by.txn).phase (record (m.phases (m.txns by.txn).phase) { confirmed = with_at (m.phases (m.txns by.txn).phase).confirmed k true })) ∙ at_same (m.phases (m.txns by.txn).phase).confirmed k true
  report_notes other is = absurd (let e : false ≡ true = is in cc)

  applies_none : (stage : Stage) (p : ℕ) → ((applied_by (without_first_output m k) stage k).phases p).confirmed ≡ (m.phases p).confirmed
  applies_none (Applying u) p = refl
  applies_none other p = refl

  clears_none : (stage : Stage) (p : ℕ) → ((cleared_for (without_first_output m k) (m.txns by.txn) stage k).phases p).confirmed ≡ (m.phases p).confirmed
  clears_none (Copying run) p =
      at_case (λ j (q : Phase). q.confirmed ≡ (m.phases j).confirmed) m.phases (m.txns by.txn).phase (record (m.phases (m.txns by.txn).phase) { cleared = with_cleared (m.phases (m.txns by.txn).phase).cleared run k }) refl p (λ ne. refl)
  clears_none other p = refl

  other_notes : (ask : Ask) → is_report ask ≡ false → (p : ℕ) → ((noting (without_first_output m k) (m.txns by.txn) k ask).phases p).confirmed ≡ (m.phases p).confirmed
  other_notes (Post u cells accused) is p = absurd (let e : true ≡ false = is in cc)
  other_notes (Settle u cells accused) is p = absurd (let e : true ≡ false = is in cc)
  other_notes (Op u op) is p = applies_none (m.txns by.txn).stage p
  other_notes (Clear cells who) is p = clears_none (m.txns by.txn).stage p
  other_notes other is p = refl

  pub report_noted : is_report ask ≡ true → ((after size m (Step.HandsIn k)).phases (m.txns by.txn).phase).confirmed k ≡ true
  report_noted is = ap (λ (f : ℕ → Phase). (f (m.txns by.txn).phase).confirmed k) handed_phases ∙ report_notes ask is

  pub other_noted : is_report ask ≡ false → (p : ℕ) → ((after size m (Step.HandsIn k)).phases p).confirmed ≡ (m.phases p).confirmed
  other_noted is p = ap (λ (f : ℕ → Phase). (f p).confirmed) handed_phases ∙ other_notes ask is p

-- ---- where a confirmation comes from

pub record IsNotedNow (m : State) (step : Step) (p k : ℕ) : Type 0 where
  pub by : Sender
  pub ask : Ask
  pub answer : Answer
  pub is : step ≡ Step.HandsIn k
  pub handed : IsHandedIn m k by ask answer
  pub report : is_report ask ≡ true
  pub phase : p ≡ (m.txns by.txn).phase

module _ (size : Size) (m : State) (step : Step) (allowed : Allowed size m step) (p k : ℕ) where
  abbrev new : State
  new = after size m step

  pub noted_from : p ≤ m.ended → (new.phases p).confirmed k ≡ true → ((m.phases p).confirmed k ≡ true) ⊎ IsNotedNow m step p k
  noted_from low noted = by_move (phase_moves size m step allowed p) where
    old : (q : Phase) → new.phases p ≡ q → q.confirmed ≡ (m.phases p).confirmed → ((m.phases p).confirmed k ≡ true) ⊎ IsNotedNow m step p k
    old q is same = inl (sym (ap (λ (f : Replicas). f k) (ap (λ (z : Phase). z.confirmed) is ∙ same)) ∙ noted)

    by_move : PhaseMove size m step p (new.phases p) → ((m.phases p).confirmed k ≡ true) ⊎ IsNotedNow m step p k
    by_move (PhaseMove.Same is) = old _ is refl
    by_move (PhaseMove.Reaches t step_is may at is) = absurd (omega (arith, at, low))
    by_move (PhaseMove.Marks t step_is may at is) = old _ is refl
    by_move (PhaseMove.Posts t step_is may at is) = old _ is refl
    by_move (PhaseMove.SettlesAs t group adopts step_is may at is) = old _ is refl
    by_move (PhaseMove.Asks t j first ask step_is may w at is) = old _ is refl
    by_move (PhaseMove.Clears j by cells who answer run step_is handed stage at is) = old _ is refl
    by_move (PhaseMove.Confirms j by ask answer step_is handed at is) = by_kind (is_report ask) refl where
      of_report : is_report ask ≡ true → ((m.phases p).confirmed k ≡ true) ⊎ IsNotedNow m step p k
      of_report report = at_case (λ i (b : Bool). b ≡ true → ((m.phases p).confirmed i ≡ true) ⊎ IsNotedNow m step p i) (m.phases p).confirmed j true
          (λ e. inr (record { by = by; ask = ask; answer = answer; is = step_is; handed = handed; report = report; phase = at })) k (λ ne e. inl e) (sym (ap (λ (z : Phase). z.confirmed k) is) ∙ noted)

      by_kind : (b : Bool) → is_report ask ≡ b → ((m.phases p).confirmed k ≡ true) ⊎ IsNotedNow m step p k
      by_kind true kind = of_report kind
      by_kind false kind = inl (sym (ap (λ (f : Replicas). f k) (ap (λ st. ((after size m st).phases p).confirmed) step_is ∙ other_noted size m j by ask answer handed kind p)) ∙ noted)

  pub noted_stays : p ≤ m.ended → (m.phases p).confirmed k ≡ true → (new.phases p).confirmed k ≡ true
  noted_stays low noted = by_move (phase_moves size m step allowed p) where
    same : (q : Phase) → new.phases p ≡ q → q.confirmed ≡ (m.phases p).confirmed → (new.phases p).confirmed k ≡ true
    same q is e = ap (λ (f : Replicas). f k) (ap (λ (z : Phase). z.confirmed) is ∙ e) ∙ noted

    by_move : PhaseMove size m step p (new.phases p) → (new.phases p).confirmed k ≡ true
    by_move (PhaseMove.Same is) = same _ is refl
    by_move (PhaseMove.Reaches t step_is may at is) = absurd (omega (arith, at, low))
    by_move (PhaseMove.Marks t step_is may at is) = same _ is refl
    by_move (PhaseMove.Posts t step_is may at is) = same _ is refl
    by_move (PhaseMove.SettlesAs t group adopts step_is may at is) = same _ is refl
    by_move (PhaseMove.Asks t j first ask step_is may w at is) = same _ is refl
    by_move (PhaseMove.Clears j by cells who answer run step_is handed stage at is) = same _ is refl
    by_move (PhaseMove.Confirms j by ask answer step_is handed at is) = ap (λ (z : Phase). z.confirmed k) is ∙ at_case (λ i (b : Bool). (m.phases p).confirmed i ≡ true → b ≡ true) (m.phases p).confirmed j true (λ e. refl) k (λ ne e. e) noted
