-- Requests of a graph that the brick has not connected: a Closed is on its way, or every open connection is opened behind
-- them.
use Rattle.std.proofs.Common.{◌≡◌, ◌∙◌, ℕ, Bool, true, false, refl, sym, ap, subst, ◌⊎◌, inl, inr}
use Rattle.std.specs.Prelude.{if◌then◌else◌, List, [], ◌∷◌, ◌++◌, ◌||◌}
use Rattle.std.proofs.lemmas.Bool.{eqb-false}
use Rattle.afr_machine.specs.Replicas.{with_at}
use Rattle.afr_machine.specs.Requests.{Sender, Ask, Control, Input, Output}
use Rattle.afr_machine.specs.Requests.Input.{Asked, Steered}
use Rattle.afr_machine.specs.Requests.Output.{Answered, Closed, Opened, Connected}
use Rattle.afr_machine.specs.Bricks.{Brick, steered, is_up, without_graph, gones_of}
use Rattle.afr_machine.specs.States.{Link}
use Rattle.afr_machine.specs.Moves.{BrickMove}
use Rattle.afr_machine.specs.Moves.BrickMove.{Stays, Takes, Hands, Serves, Refuses, GivesUp, Steers}
use Rattle.afr_machine.proofs.Tables.{at_other}
use Rattle.afr_laws.specs.Senders.{EachInput}
use Rattle.afr_laws.specs.Connections.{is_control_of, has_control}
use Rattle.afr_laws.specs.Grants.{has_closed}
use Rattle.afr_laws.specs.Covered.{needs_lock, IsOfOtherGraph, IsInTurn}
use Rattle.afr_laws.specs.Alone.{IsLate}
use Rattle.afr_laws.proofs.Connecting.{or_true, has_append, served_line, steered_line}
use Rattle.afr_laws.proofs.Covered.Lines.{everywhere}
use Rattle.afr_laws.proofs.Covered.Kept.{served_connected}

-- ---- one line, another state of the brick and of the connections

-- a graph that is not connected now was not before, or a Closed is on its way
abbrev pub WasLate : Brick → Brick → Sender → Ask → Type 0
WasLate old new by ask = needs_lock ask ≡ true → new.connected by.graph ≡ false → (old.connected by.graph ≡ false) ⊎ (has_closed new.outputs ≡ true)

module _ (old new : Brick) (links now : ℕ → Link) (closing : has_closed old.outputs ≡ true → (has_closed new.outputs ≡ true) ⊎ ((g : ℕ) → (now g).is_open ≡ true → ⊥))
    (opens : (g : ℕ) → (now g).is_open ≡ true → (links g).is_open ≡ true) where
  closes : (is : List Input) → has_closed old.outputs ≡ true → (has_closed new.outputs ≡ true) ⊎ ((g : ℕ) → (now g).is_open ≡ true → has_control g is ≡ true)
  closes is was = by_case (closing was) where
    by_case : (has_closed new.outputs ≡ true) ⊎ ((g : ℕ) → (now g).is_open ≡ true → ⊥) → (has_closed new.outputs ≡ true) ⊎ ((g : ℕ) → (now g).is_open ≡ true → has_control g is ≡ true)
    by_case (inl c) = inl c
    by_case (inr none) = inr (λ g o. absurd (none g o))

  still : (is : List Input) → (has_closed old.outputs ≡ true) ⊎ ((g : ℕ) → (links g).is_open ≡ true → has_control g is ≡ true) → (has_closed new.outputs ≡ true) ⊎ ((g : ℕ) → (now g).is_open ≡ true → has_control g is ≡ true)
  still is (inl was) = closes is was
  still is (inr behind) = inr (λ g o. behind g (opens g o))

  pub late_carry : (is : List Input) → EachInput (WasLate old new) is → IsLate old links is → IsLate new now is
  late_carry [] was p = tt
  late_carry (Asked by ask ∷ is) was p = (λ needs connected. by_case needs (was.0 needs connected), late_carry is was.1 p.1) where
    by_case : needs_lock ask ≡ true → (old.connected by.graph ≡ false) ⊎ (has_closed new.outputs ≡ true) → (has_closed new.outputs ≡ true) ⊎ ((g : ℕ) → (now g).is_open ≡ true → has_control g is ≡ true)
    by_case needs (inl before) = still is (p.0 needs before)
    by_case needs (inr c) = inl c
  late_carry (Steered control ∷ is) was p = late_carry is was p

-- ---- more inputs

or_left : (a b : Bool) → a ≡ true → (a || b) ≡ true
or_left a b e = ap (λ x. x || b) e

module _ (b : Brick) (links now : ℕ → Link) (ys : List Input) (opens : (g : ℕ) → (now g).is_open ≡ true → ((links g).is_open ≡ true) ⊎ (has_control g ys ≡ true)) where
  more : (is : List Input) → (has_closed b.outputs ≡ true) ⊎ ((g : ℕ) → (links g).is_open ≡ true → has_control g is ≡ true) → (has_closed b.outputs ≡ true) ⊎ ((g : ℕ) → (now g).is_open ≡ true → has_control g (is ++ ys) ≡ true)
  more is (inl c) = inl c
  more is (inr behind) = inr (λ g o. has_append g is ys ∙ by_case g (opens g o)) where
    by_case : (g : ℕ) → ((links g).is_open ≡ true) ⊎ (has_control g ys ≡ true) → (has_control g is || has_control g ys) ≡ true
    by_case g (inl was) = or_left (has_control g is) (has_control g ys) (behind g was)
    by_case g (inr has) = or_true (has_control g is) (has_control g ys) has

  pub late_append : (is : List Input) → IsLate b links is → IsLate b now ys → IsLate b now (is ++ ys)
  late_append [] p q = q
  late_append (Asked by ask ∷ is) p q = (λ needs connected. more is (p.0 needs connected), late_append is p.1 q)
  late_append (Steered control ∷ is) p q = late_append is p q

-- ---- what moves leave of connections

each_map : (P Q : Sender → Ask → Type 0) → ((by : Sender) (ask : Ask) → P by ask → Q by ask) → (is : List Input) → EachInput P is → EachInput Q is
each_map P Q f [] p = tt
each_map P Q f (Asked by ask ∷ is) p = (f by ask p.0, each_map P Q f is p.1)
each_map P Q f (Steered control ∷ is) p = each_map P Q f is p

closed_added : (xs ys : List Output) → has_closed (xs ++ Closed ∷ ys) ≡ true
closed_added [] ys = refl
closed_added (Answered by ask answer ∷ xs) ys = closed_added xs ys
closed_added (Closed ∷ xs) ys = refl
closed_added (Opened ∷ xs) ys = closed_added xs ys
closed_added (Connected graph ∷ xs) ys = closed_added xs ys

-- a control disconnects its own graph alone, or a Closed is on its way
steered_was : (b : Brick) (g : ℕ) (control : Control) → is_control_of g control ≡ false → (steered control b).connected g ≡ false → (b.connected g ≡ false) ⊎ (has_closed (steered control b).outputs ≡ true)
steered_was b g (Control.Down late) other connected = inr (closed_added b.outputs (gones_of b.waiting))
steered_was b g Control.Up other connected = inl connected
steered_was b g (Control.Connect h) other connected = by_case (is_up b.power) connected where
  by_case : (u : Bool) → (if u then (let c = without_graph h b in record c { connected = with_at c.connected h true; outputs = c.outputs ++ Connected h ∷ [] }) else b).connected g ≡ false →
      (b.connected g ≡ false) ⊎ (has_closed (if u then (let c = without_graph h b in record c { connected = with_at c.connected h true; outputs = c.outputs ++ Connected h ∷ [] }) else b).outputs ≡ true)
  by_case true c = inl (sym (at_other b.connected h true g (λ same. eqb-false h g other (sym same))) ∙ c)
  by_case false c = inl c
steered_was b g (Control.Disconnect h) other connected = inl (sym (at_other b.connected h false g (λ same. eqb-false h g other (sym same))) ∙ connected)

-- ---- one move that takes no input

module _ (may : List Input → Type 0) (old new : Brick) (links now : ℕ → Link) (closing : has_closed old.outputs ≡ true → (has_closed new.outputs ≡ true) ⊎ ((g : ℕ) → (now g).is_open ≡ true → ⊥))
    (opens : (g : ℕ) → (now g).is_open ≡ true → (links g).is_open ≡ true) (p : IsLate old links old.line) (turn : IsInTurn old.line)
    (taken : (inputs : List Input) → may inputs → IsLate old links (old.line ++ inputs)) where
  same : new.connected ≡ old.connected → (is : List Input) → IsLate old links is → IsLate new now is
  same connected is q = late_carry old new links now closing opens is (everywhere (WasLate old new) (λ by ask needs c. inl (sym (ap (λ (f : ℕ → Bool). f by.graph) connected) ∙ c)) is) q

  -- by the line that the new brick has
  onto : (is : List Input) → new.line ≡ is → new.connected ≡ old.connected → IsLate old links is → IsLate new now new.line
  onto is line connected q = subst (IsLate new now) (sym line) (same connected is q)

  front_off : (by : Sender) (ask : Ask) (rest : List Input) → old.line ≡ Asked by ask ∷ rest → IsLate old links rest
  front_off by ask rest front = (subst (IsLate old links) front p).1

  pub move_late : BrickMove may old new → IsLate new now new.line
  move_late (Stays is) = onto old.line (ap (λ (b : Brick). b.line) is) (ap (λ (b : Brick). b.connected) is) p
  move_late (Takes inputs its is) = onto (old.line ++ inputs) (ap (λ (b : Brick). b.line) is) (ap (λ (b : Brick). b.connected) is) (taken inputs its)
  move_late (Hands first rest front is) = onto old.line (ap (λ (b : Brick). b.line) is) (ap (λ (b : Brick). b.connected) is) p
  move_late (Serves by ask rest front would is) =
      onto rest (ap (λ (b : Brick). b.line) is ∙ served_line old.power by ask (record old { line = rest })) (ap (λ (b : Brick). b.connected) is ∙ served_connected (record old { line = rest }) old.power by ask) (front_off by ask rest front)
  move_late (Refuses by ask answer rest front refusable refusal is) = onto rest (ap (λ (b : Brick). b.line) is) (ap (λ (b : Brick). b.connected) is) (front_off by ask rest front)
  move_late (GivesUp by ask rest front would is) = onto rest (ap (λ (b : Brick). b.line) is) (ap (λ (b : Brick). b.connected) is) (front_off by ask rest front)
  move_late (Steers control rest front is) =
      let line : new.line ≡ rest = ap (λ (b : Brick). b.line) is ∙ steered_line control (record old { line = rest }) in
      let apart : EachInput (IsOfOtherGraph (λ g. is_control_of g control)) rest = (subst IsInTurn front turn).0 in
      subst (IsLate new now) (sym line)
      (late_carry old new links now closing opens rest
      (each_map (IsOfOtherGraph (λ g. is_control_of g control)) (WasLate old new) (λ by ask other needs c. was by (other needs) c) rest apart)
      (subst (IsLate old links) front p))
    where
      was : (by : Sender) → is_control_of by.graph control ≡ false → new.connected by.graph ≡ false → (old.connected by.graph ≡ false) ⊎ (has_closed new.outputs ≡ true)
      was by other c =
          subst (λ (b : Brick). (old.connected by.graph ≡ false) ⊎ (has_closed b.outputs ≡ true)) (sym is)
          (steered_was (record old { line = rest }) by.graph control other (sym (ap (λ (b : Brick). b.connected by.graph) is) ∙ c))
