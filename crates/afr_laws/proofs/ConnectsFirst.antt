-- Requests of the open connection stand behind the last control of their graph, over every list of steps.
use Rattle.std.proofs.Common.{◌≡◌, ◌∙◌, ℕ, ◌+◌, ◌≤◌, Bool, true, false, refl, sym, ap, subst, ◌⊎◌, inl, inr, arith}
use Rattle.std.specs.Prelude.{if◌then◌else◌, List, [], ◌∷◌, ◌++◌, ◌==◌, ◌≢◌, not}
use Rattle.std.proofs.lemmas.Bool.{cases_eq, eq-eqb, ne_eqb}
use Rattle.afr_machine.specs.Replicas.{Size, with_at}
use Rattle.afr_machine.specs.Requests.{Sender, Ask, Control, Input, Output}
use Rattle.afr_machine.specs.Requests.Input.{Steered}
use Rattle.afr_machine.specs.Requests.Output.{Answered, Closed, Opened, Connected}
use Rattle.afr_machine.specs.States.{State, Link, is_current}
use Rattle.afr_machine.specs.Sending.{asks_of, inputs_of, sender_of}
use Rattle.afr_machine.specs.Answering.{closed, without_links, replied, taken_in, without_first_output}
use Rattle.afr_machine.specs.Steps.{Step, IsSentAlone, Allowed, after, IsReached, take_in_front, decided_by}
use Rattle.afr_machine.specs.Moves.{IsTaken}
use Rattle.afr_machine.proofs.Tables.{at_same, at_other}
use Rattle.afr_machine.proofs.Keeping.{replied_beside}
use Rattle.afr_machine.proofs.BrickMoves.{bricks_move}
use Rattle.afr_laws.specs.Senders.{Each}
use Rattle.afr_laws.specs.Numbered.{IsNumbered, AreNumbered}
use Rattle.afr_laws.specs.Connections.{is_control_of, has_control, IsOrdered, IsEarlier, ConnectsFirst, ConnectsComeFirst}
use Rattle.afr_laws.proofs.Bools.{both, neither}
use Rattle.afr_laws.proofs.Carry.{each_map}
use Rattle.afr_laws.proofs.Connecting.{move_connects, opened_connects}
use Rattle.afr_laws.proofs.Goes.{turn_links, unsettling_links, decided_links}
use Rattle.afr_laws.proofs.Flying.{on_their_way}

-- ---- what becomes of one connection

-- it is as it was, or it is closed
abbrev pub IsSameOrClosed : Link → Link → Type 0
IsSameOrClosed old new = (new ≡ old) ⊎ (new.is_open ≡ false)

module _ (m : State) where
  pub ended_link : (k : ℕ) (ends : ℕ → Bool) (j g : ℕ) → IsSameOrClosed (m.links j g) ((without_links m k ends).links j g)
  ended_link k ends j g = by_case (cases_eq j k) where
    here : (b : Bool) → IsSameOrClosed (m.links k g) (if b then closed (m.links k g) else m.links k g)
    here true = inr refl
    here false = inl refl

    by_case : (j ≡ k) ⊎ (j ≢ k) → IsSameOrClosed (m.links j g) ((without_links m k ends).links j g)
    by_case (inl same) =
        subst (λ n. IsSameOrClosed (m.links n g) ((without_links m k ends).links n g)) (sym same)
        (subst (λ (f : ℕ → Link). IsSameOrClosed (m.links k g) (f g)) (sym (at_same m.links k (λ h. if ends h then closed (m.links k h) else m.links k h))) (here (ends g)))
    by_case (inr other) = inl (ap (λ (f : ℕ → Link). f g) (at_other m.links k (λ h. if ends h then closed (m.links k h) else m.links k h) j other))

  taken_link : (k : ℕ) (o : Output) (j g : ℕ) → IsSameOrClosed (m.links j g) ((taken_in m k o).links j g)
  taken_link k (Answered by ask answer) j g = by_case (is_current (m.links k by.graph) by.connection) where
    by_case : (b : Bool) → IsSameOrClosed (m.links j g) ((if b then replied m k by ask answer else m).links j g)
    by_case true = inl (ap (λ (f : ℕ → ℕ → Link). f j g) (replied_beside m k by ask answer).links)
    by_case false = inl refl
  taken_link k Closed j g = ended_link k (λ h. true) j g
  taken_link k Opened j g = inl refl
  taken_link k (Connected graph) j g = inl refl

  pub front_link : (k : ℕ) (os : List Output) (j g : ℕ) → IsSameOrClosed (m.links j g) ((take_in_front m k os).links j g)
  front_link k [] j g = inl refl
  front_link k (o ∷ os) j g = taken_link k o j g

-- a connection that is cut is closed
pub cut_closed : (m : State) (k g : ℕ) → ((without_links m k (λ other. other == g)).links k g).is_open ≡ false
cut_closed m k g =
    ap (λ (f : ℕ → Link). (f g).is_open) (at_same m.links k (λ h. if h == g then closed (m.links k h) else m.links k h))
    ∙ ap (λ b. (if b then closed (m.links k g) else m.links k g).is_open) (eq-eqb g g refl)

-- ---- the inputs that are taken

pub no_control : (g : ℕ) (by : Sender) (asks : List Ask) → has_control g (inputs_of by asks) ≡ false
no_control g by [] = refl
no_control g by (a ∷ rest) = no_control g by rest

ordered_inputs : (g : ℕ) (link : Link) (by : Sender) (asks : List Ask) → (by.graph ≡ g → is_current link by.connection ≡ true) → IsOrdered g link (inputs_of by asks)
ordered_inputs g link by [] current = tt
ordered_inputs g link by (a ∷ rest) current = (λ of. current of ∙ ap not (sym (no_control g by rest)), ordered_inputs g link by rest current)

-- of a graph with an open connection no control goes alone
pub alone_control : (m : State) (k g : ℕ) (control : Control) → (m.links k g).is_open ≡ true → IsSentAlone m k control → is_control_of g control ≡ false
alone_control m k g (Control.Down late) is_open h = refl
alone_control m k g Control.Up is_open h = refl
alone_control m k g (Control.Connect other) is_open h = absurd h
alone_control m k g (Control.Disconnect other) is_open h = ne_eqb other g (λ e. absurd (let no : true ≡ false = sym is_open ∙ ap (λ n. (m.links k n).is_open) (sym e) ∙ h in cc))

module _ (size : Size) (m : State) (c : ConnectsComeFirst m) (j g : ℕ) where
  -- the connection stays open, and what the brick takes has no control of the graph
  stays_first : (step : Step) → Allowed size m step → ((after size m step).links j g ≡ m.links j g) → (m.links j g).is_open ≡ true →
      ((inputs : List Input) → IsTaken m step j inputs → (has_control g inputs ≡ false) × IsOrdered g (m.links j g) inputs) → ConnectsFirst g ((after size m step).links j g) ((after size m step).bricks j)
  stays_first step h same is_open inputs =
      subst (λ (l : Link). ConnectsFirst g l ((after size m step).bricks j)) (sym same)
      (move_connects g (m.links j g) (IsTaken m step j) (m.bricks j) ((after size m step).bricks j) (c j g is_open) inputs (bricks_move size m step h j))

  -- the same where it may have been closed
  first_or_closed : (step : Step) → Allowed size m step → IsSameOrClosed (m.links j g) ((after size m step).links j g) → ((after size m step).links j g).is_open ≡ true →
      ((m.links j g).is_open ≡ true → (inputs : List Input) → IsTaken m step j inputs → (has_control g inputs ≡ false) × IsOrdered g (m.links j g) inputs) → ConnectsFirst g ((after size m step).links j g) ((after size m step).bricks j)
  first_or_closed step h (inl same) is_open inputs = let was : (m.links j g).is_open ≡ true = sym (ap (λ (l : Link). l.is_open) same) ∙ is_open in stays_first step h same was (inputs was)
  first_or_closed step h (inr shut) is_open inputs = absurd (let no : true ≡ false = sym is_open ∙ shut in cc)

  ask_inputs : (t k : ℕ) (first : Bool) (asked : Ask) → (m.links j g).is_open ≡ true → (inputs : List Input) → IsTaken m (Step.Asks t k first asked) j inputs → (has_control g inputs ≡ false) × IsOrdered g (m.links j g) inputs
  ask_inputs t k first asked is_open inputs taken =
      subst (λ is. (has_control g is ≡ false) × IsOrdered g (m.links j g) is) (sym taken.1)
      (no_control g (sender_of m t k) (asks_of first asked), ordered_inputs g (m.links j g) (sender_of m t k) (asks_of first asked) current)
    where
      current : (m.txns t).graph ≡ g → is_current (m.links j g) (m.links k (m.txns t).graph).last ≡ true
      current of = both _ _ is_open (eq-eqb _ _ (ap (λ n. (m.links n (m.txns t).graph).last) (sym taken.0) ∙ ap (λ h. (m.links j h).last) of))

  control_inputs : (control : Control) → is_control_of g control ≡ false → (inputs : List Input) → inputs ≡ Steered control ∷ [] → (has_control g inputs ≡ false) × IsOrdered g (m.links j g) inputs
  control_inputs control none inputs is = subst (λ l. (has_control g l ≡ false) × IsOrdered g (m.links j g) l) (sym is) (neither (is_control_of g control) false none refl, tt)

-- ---- a connection opens

earlier_all : (m : State) (k g : ℕ) → AreNumbered m → Each (IsEarlier g (record { last = (m.links k g).last + 1; is_open = true })) (m.bricks k)
earlier_all m k g numbered =
    each_map (IsNumbered m k) (IsEarlier g (record { last = (m.links k g).last + 1; is_open = true }))
    (λ by ask n of.
    let low : by.connection ≤ (m.links k g).last = subst (λ h. by.connection ≤ (m.links k h).last) of n.connection in
    ne_eqb by.connection ((m.links k g).last + 1) (λ e. absurd (omega arith)))
    (m.bricks k) (numbered k)

module _ (size : Size) (m : State) (k g : ℕ) (numbered : AreNumbered m) (c : ConnectsComeFirst m) (allowed : Allowed size m (Step.Connects k g)) where
  next : Link
  next = record { last = (m.links k g).last + 1; is_open = true }

  opens_here : ConnectsFirst g ((after size m (Step.Connects k g)).links k g) ((after size m (Step.Connects k g)).bricks k)
  opens_here =
      let link_is : (after size m (Step.Connects k g)).links k g ≡ record { last = (m.links k g).last + 1; is_open = true } = ap (λ (f : ℕ → Link). f g) (at_same m.links k (with_at (m.links k) g (record { last = (m.links k g).last + 1; is_open = true }))) ∙ at_same (m.links k) g (record { last = (m.links k g).last + 1; is_open = true }) in
      let brick_is : (after size m (Step.Connects k g)).bricks k ≡ record (m.bricks k) { line = (m.bricks k).line ++ Steered (Control.Connect g) ∷ [] } = at_same m.bricks k (record (m.bricks k) { line = (m.bricks k).line ++ Steered (Control.Connect g) ∷ [] }) in
      subst (λ (l : Link). ConnectsFirst g l ((after size m (Step.Connects k g)).bricks k)) (sym link_is)
      (subst (ConnectsFirst g (record { last = (m.links k g).last + 1; is_open = true })) (sym brick_is) (opened_connects g (record { last = (m.links k g).last + 1; is_open = true }) (m.bricks k) (earlier_all m k g numbered)))

  opens_first : (j h : ℕ) → ((after size m (Step.Connects k g)).links j h).is_open ≡ true → ConnectsFirst h ((after size m (Step.Connects k g)).links j h) ((after size m (Step.Connects k g)).bricks j)
  opens_first j h is_open = by_case (cases_eq j k) (cases_eq h g) where
    a : State
    a = after size m (Step.Connects k g)

    far : j ≢ k → ConnectsFirst h ((after size m (Step.Connects k g)).links j h) ((after size m (Step.Connects k g)).bricks j)
    far ne = first_or_closed size m c j h (Step.Connects k g) allowed (inl (ap (λ (f : ℕ → Link). f h) (at_other m.links k (with_at (m.links k) g (record { last = (m.links k g).last + 1; is_open = true })) j ne))) is_open (λ was inputs taken. absurd (ne taken.0))

    other_graph : j ≡ k → h ≢ g → ConnectsFirst h ((after size m (Step.Connects k g)).links j h) ((after size m (Step.Connects k g)).bricks j)
    other_graph same ne =
        first_or_closed size m c j h (Step.Connects k g) allowed
        (inl (subst (λ n. with_at m.links k (with_at (m.links k) g (record { last = (m.links k g).last + 1; is_open = true })) n h ≡ m.links n h) (sym same)
        (ap (λ (f : ℕ → Link). f h) (at_same m.links k (with_at (m.links k) g (record { last = (m.links k g).last + 1; is_open = true }))) ∙ at_other (m.links k) g (record { last = (m.links k g).last + 1; is_open = true }) h ne)))
        is_open (λ was inputs taken. control_inputs size m c j h (Control.Connect g) (ne_eqb g h (λ e. ne (sym e))) inputs taken.1)

    by_case : (j ≡ k) ⊎ (j ≢ k) → (h ≡ g) ⊎ (h ≢ g) → ConnectsFirst h ((after size m (Step.Connects k g)).links j h) ((after size m (Step.Connects k g)).bricks j)
    by_case (inl x) (inl y) = subst (λ n. ConnectsFirst h ((after size m (Step.Connects k g)).links n h) ((after size m (Step.Connects k g)).bricks n)) (sym x) (subst (λ i. ConnectsFirst i ((after size m (Step.Connects k g)).links k i) ((after size m (Step.Connects k g)).bricks k)) (sym y) opens_here)
    by_case (inl x) (inr y) = other_graph x y
    by_case (inr x) y = far x

-- ---- each step

step_connects : (size : Size) (m : State) (step : Step) → AreNumbered m → Allowed size m step → ConnectsComeFirst m → ConnectsComeFirst (after size m step)
step_connects size m (Step.Turns t turn) numbered h c j g is_open = first_or_closed size m c j g (Step.Turns t turn) h (inl (ap (λ (f : ℕ → ℕ → Link). f j g) (turn_links m size t turn))) is_open (λ was inputs taken. absurd taken)
step_connects size m (Step.Asks t k first asked) numbered h c j g is_open = first_or_closed size m c j g (Step.Asks t k first asked) h (inl refl) is_open (ask_inputs size m c j g t k first asked)
step_connects size m (Step.Controls k steering) numbered h c j g is_open = first_or_closed size m c j g (Step.Controls k steering) h (inl refl) is_open (λ was inputs taken. control_inputs size m c j g steering (alone_control m k g steering (subst (λ n. (m.links n g).is_open ≡ true) taken.0 was) h.1) inputs taken.1)
step_connects size m (Step.HandsIn k) numbered h c j g is_open = first_or_closed size m c j g (Step.HandsIn k) h (front_link (without_first_output m k) k (m.bricks k).outputs j g) is_open (λ was inputs taken. absurd taken)
step_connects size m (Step.Connects k h) numbered a c j g is_open = opens_first size m k h numbered c a j g is_open
step_connects size m (Step.Cuts k h) numbered a c j g is_open =
    first_or_closed size m c j g (Step.Cuts k h) a (ended_link m k (λ other. other == h) j g) is_open
    (λ was inputs taken. control_inputs size m c j g (Control.Disconnect h) (ne_eqb h g (other taken.0)) inputs taken.1)
  where
    other : j ≡ k → h ≡ g → ⊥
    other at same =
        let shut : ((without_links m k (λ o. o == h)).links j g).is_open ≡ false = subst (λ n. ((without_links m k (λ o. o == h)).links n g).is_open ≡ false) (sym at) (subst (λ i. ((without_links m k (λ o. o == h)).links k i).is_open ≡ false) same (cut_closed m k h)) in
        absurd (let no : true ≡ false = sym is_open ∙ shut in cc)
step_connects size m (Step.Unsettles t) numbered h c j g is_open = first_or_closed size m c j g (Step.Unsettles t) h (inl (ap (λ (f : ℕ → ℕ → Link). f j g) (unsettling_links m t (m.txns t).stage))) is_open (λ was inputs taken. absurd taken)
step_connects size m (Step.Decides t) numbered h c j g is_open = first_or_closed size m c j g (Step.Decides t) h (inl (ap (λ (f : ℕ → ℕ → Link). f j g) (decided_links m (decided_by (m.txns t).stage)))) is_open (λ was inputs taken. absurd taken)
step_connects size m other numbered h c j g is_open = first_or_closed size m c j g other h (inl refl) is_open (λ was inputs taken. absurd taken)

pub connects_come_first : (size : Size) (m : State) → IsReached size m → ConnectsComeFirst m
connects_come_first size m IsReached.Start = λ k g is_open. absurd cc
connects_come_first size m (IsReached.Further old step reached allowed) = step_connects size old step (on_their_way size old reached).numbered allowed (connects_come_first size old reached)
