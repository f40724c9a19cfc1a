-- What a brick does with the front of its line, or with its locks, loses no request and makes none.
use Rattle.std.proofs.Common.{◌≡◌, ◌∙◌, ℕ, ◌+◌, ◌≤◌, Bool, true, false, refl, sym, ap, subst, ◌⊎◌, inl, inr, append_assoc, arith, length}
use Rattle.std.specs.Prelude.{if◌then◌else◌, List, [], ◌∷◌, ◌++◌, not, ◌||◌}
use Rattle.std.proofs.lemmas.List.{length-append, append-nil}
use Rattle.afr_machine.specs.Replicas.{with_at}
use Rattle.afr_machine.specs.Requests.{Sender, Ask, Control, Input, Answer, Output}
use Rattle.afr_machine.specs.Requests.Ask.{Lock, Unlock, Mark, Op, Post, Fetch, Replace, Clear, Settle, Index, Open, Release, OpenFirst}
use Rattle.afr_machine.specs.Requests.Input.{Asked, Steered}
use Rattle.afr_machine.specs.Requests.Answer.{Gone, Done}
use Rattle.afr_machine.specs.Requests.Output.{Answered, Closed, Opened, Connected}
use Rattle.afr_machine.specs.Locks.{BrickLock, conflicts_among, those, is_of_txn, is_of_graph, Queue, granted_in_order}
use Rattle.afr_machine.specs.Bricks.{Power, Brick, ask_of, grants_of, gones_of, locked, unlocked, without_graph, answering, answer_of, served_up, served_by, is_up, steered}
use Rattle.afr_machine.specs.Bricks.Power.{IsUp, IsDown}
use Rattle.afr_laws.specs.Flights.{in_locks, in_line, in_outputs, flight, any_lock, is_lock}
use Rattle.afr_laws.proofs.FlightLists.{locks_append, outputs_append, grants_fly, gones_fly, queue_flies, split_flies, locks_are}

-- where a lock is among them it is the only one
abbrev pub IsAlone : List Ask → Type 0
IsAlone flying = any_lock flying ≡ true → length flying ≡ 1

any_append : (xs ys : List Ask) → any_lock (xs ++ ys) ≡ (any_lock xs || any_lock ys)
any_append [] ys = refl
any_append (x ∷ xs) ys = by_case (is_lock x) (any_append xs ys) where
  by_case : (b : Bool) → any_lock (xs ++ ys) ≡ (any_lock xs || any_lock ys) → (b || any_lock (xs ++ ys)) ≡ ((b || any_lock xs) || any_lock ys)
  by_case true e = refl
  by_case false e = e

or_true_left : (a b : Bool) → a ≡ true → (a || b) ≡ true
or_true_left a b e = ap (λ x. x || b) e

or_true_right : (a b : Bool) → b ≡ true → (a || b) ≡ true
or_true_right true b e = refl
or_true_right false b e = e

-- a lock in the middle: then the whole has one request
middle_alone : (o w r : List Ask) → IsAlone (o ++ (w ++ r)) → any_lock w ≡ true → length o + (length w + length r) ≡ 1
middle_alone o w r alone is =
    let whole : any_lock (o ++ (w ++ r)) ≡ true = any_append o (w ++ r) ∙ or_true_right (any_lock o) (any_lock (w ++ r)) (any_append w r ∙ or_true_left (any_lock w) (any_lock r) is) in
    omega (arith, alone whole, length-append o (w ++ r), length-append w r)

not_empty : (w : List Ask) → any_lock w ≡ true → 1 ≤ length w
not_empty [] e = absurd cc
not_empty (x ∷ xs) e = omega arith

empty_is : (x : List Ask) → length x ≡ 0 → x ≡ []
empty_is [] e = refl
empty_is (x ∷ xs) e = absurd (omega arith)

-- what is served is not behind a lock of its own transaction
beside_locks : (o w x l : List Ask) → (w ≡ []) ⊎ (any_lock w ≡ true) → IsAlone (o ++ (w ++ (x ++ l))) → (x ≡ []) ⊎ (w ≡ [])
beside_locks o w x l (inl none) alone = inr none
beside_locks o w x l (inr some) alone = inl (empty_is x (omega (arith, middle_alone o w (x ++ l) alone some, not_empty w some, length-append x l)))

few_wait : (o w r : List Ask) → (w ≡ []) ⊎ (any_lock w ≡ true) → IsAlone (o ++ (w ++ r)) → length w ≤ 1
few_wait o w r (inl none) alone = omega (arith, ap (length {A = Ask}) none)
few_wait o w r (inr some) alone = omega (arith, middle_alone o w r alone some)

swapped : (w x l : List Ask) → (x ≡ []) ⊎ (w ≡ []) → x ++ (w ++ l) ≡ w ++ (x ++ l)
swapped w x l (inl none) = ap (λ z. z ++ (w ++ l)) none ∙ ap (λ z. w ++ (z ++ l)) (sym none)
swapped w x l (inr none) = ap (λ z. x ++ (z ++ l)) none ∙ ap (λ z. z ++ (x ++ l)) (sym none)

-- answered: past the locks that wait
passes : (o w x l : List Ask) → (x ≡ []) ⊎ (w ≡ []) → (o ++ x) ++ (w ++ l) ≡ o ++ (w ++ (x ++ l))
passes o w x l c = append_assoc o x (w ++ l) ∙ ap (λ z. o ++ z) (swapped w x l c)

module _ (mine : Sender → Bool) (by : Sender) (ask : Ask) where
  own : List Ask
  own = if mine by then ask ∷ [] else []

  front_line : (rest : List Input) → in_line mine (Asked by ask ∷ rest) ≡ (if mine by then ask ∷ [] else []) ++ in_line mine rest
  front_line rest = by_case (mine by) where
    by_case : (b : Bool) → (if b then ask ∷ in_line mine rest else in_line mine rest) ≡ (if b then ask ∷ [] else []) ++ in_line mine rest
    by_case true = refl
    by_case false = refl

module _ (mine : Sender → Bool) (b : Brick) where
  private_o : List Ask
  private_o = in_outputs mine b.outputs

  -- the flight of a brick with this request at the front, taken apart
  pub front_apart : (by : Sender) (ask : Ask) (rest : List Input) →
      in_outputs mine b.outputs ++ (in_locks mine b.waiting ++ in_line mine (Asked by ask ∷ rest)) ≡ in_outputs mine b.outputs ++ (in_locks mine b.waiting ++ ((if mine by then ask ∷ [] else []) ++ in_line mine rest))
  front_apart by ask rest = ap (λ z. in_outputs mine b.outputs ++ (in_locks mine b.waiting ++ z)) (front_line mine by ask rest)

  answering_flies : (by : Sender) (ask : Ask) (answer : Answer) (rest : List Input) → IsAlone (in_outputs mine b.outputs ++ (in_locks mine b.waiting ++ ((if mine by then ask ∷ [] else []) ++ in_line mine rest))) →
      flight mine (answering by ask answer (record b { line = rest })) ≡ in_outputs mine b.outputs ++ (in_locks mine b.waiting ++ ((if mine by then ask ∷ [] else []) ++ in_line mine rest))
  answering_flies by ask answer rest alone =
      let o = in_outputs mine b.outputs in let w = in_locks mine b.waiting in let l = in_line mine rest in
      let x : List Ask = if mine by then ask ∷ [] else [] in
      ap (λ z. z ++ (w ++ l)) (outputs_append mine b.outputs (Answered by ask answer ∷ []))
      ∙ passes o w x l (beside_locks o w x l (locks_are mine b.waiting) alone)

  locked_flies : (lock : BrickLock) (rest : List Input) → IsAlone (in_outputs mine b.outputs ++ (in_locks mine b.waiting ++ ((if mine lock.by then ask_of lock ∷ [] else []) ++ in_line mine rest))) →
      flight mine (locked lock (record b { line = rest })) ≡ in_outputs mine b.outputs ++ (in_locks mine b.waiting ++ ((if mine lock.by then ask_of lock ∷ [] else []) ++ in_line mine rest))
  locked_flies lock rest alone = by_case (conflicts_among (b.held ++ b.waiting) lock) where
    o : List Ask
    o = in_outputs mine b.outputs

    w : List Ask
    w = in_locks mine b.waiting

    l : List Ask
    l = in_line mine rest

    x : List Ask
    x = if mine lock.by then ask_of lock ∷ [] else []

    by_case : (c : Bool) →
        flight mine (if c then record b { line = rest; waiting = b.waiting ++ lock ∷ [] } else record b { line = rest; held = b.held ++ lock ∷ []; outputs = b.outputs ++ grants_of b.store (lock ∷ []) })
        ≡ in_outputs mine b.outputs ++ (in_locks mine b.waiting ++ ((if mine lock.by then ask_of lock ∷ [] else []) ++ in_line mine rest))
    by_case true = ap (λ z. o ++ (z ++ l)) (locks_append mine b.waiting (lock ∷ [])) ∙ ap (λ z. o ++ z) (append_assoc w x l)
    by_case false = ap (λ z. z ++ (w ++ l)) (outputs_append mine b.outputs (grants_of b.store (lock ∷ []))) ∙ passes o w x l (beside_locks o w x l (locks_are mine b.waiting) alone)

  requeued_outputs : (queue : Queue) (first : List Output) → in_outputs mine (b.outputs ++ (first ++ grants_of b.store queue.granted)) ≡ in_outputs mine b.outputs ++ (in_outputs mine first ++ in_locks mine queue.granted)
  requeued_outputs queue first =
      outputs_append mine b.outputs (first ++ grants_of b.store queue.granted)
      ∙ ap (λ z. in_outputs mine b.outputs ++ z) (outputs_append mine first (grants_of b.store queue.granted) ∙ ap (λ z. in_outputs mine first ++ z) (grants_fly mine b.store queue.granted))

  -- what waited is granted or waits still, behind these outputs
  requeued_flies : (o f g w' w l : List Ask) → g ++ w' ≡ w → (o ++ (f ++ g)) ++ (w' ++ l) ≡ o ++ (f ++ (w ++ l))
  requeued_flies o f g w' w l e =
      append_assoc o (f ++ g) (w' ++ l) ∙ ap (λ z. o ++ z) (append_assoc f g (w' ++ l) ∙ ap (λ z. f ++ z) (sym (append_assoc g w' l) ∙ ap (λ z. z ++ l) e))

  unlocked_flies : (by : Sender) (rest : List Input) → IsAlone (in_outputs mine b.outputs ++ (in_locks mine b.waiting ++ ((if mine by then Unlock ∷ [] else []) ++ in_line mine rest))) →
      flight mine (unlocked by (record b { line = rest })) ≡ in_outputs mine b.outputs ++ (in_locks mine b.waiting ++ ((if mine by then Unlock ∷ [] else []) ++ in_line mine rest))
  unlocked_flies by rest alone =
      let o = in_outputs mine b.outputs in let w = in_locks mine b.waiting in let l = in_line mine rest in
      let x : List Ask = if mine by then Unlock ∷ [] else [] in
      let q = granted_in_order (those (λ k. not (is_of_txn by.txn k)) b.held) [] b.waiting in
      ap (λ z. z ++ (in_locks mine q.waiting ++ l)) (requeued_outputs q (Answered by Unlock Done ∷ []))
      ∙ requeued_flies o x (in_locks mine q.granted) (in_locks mine q.waiting) w l (queue_flies mine (those (λ k. not (is_of_txn by.txn k)) b.held) [] b.waiting (few_wait o w (x ++ l) (locks_are mine b.waiting) alone))
      ∙ ap (λ z. o ++ z) (swapped w x l (beside_locks o w x l (locks_are mine b.waiting) alone))

  without_graph_flies : (g : ℕ) → IsAlone (flight mine b) → flight mine (without_graph g b) ≡ flight mine b
  without_graph_flies g alone =
      let o = in_outputs mine b.outputs in let w = in_locks mine b.waiting in let l = in_line mine b.line in
      let gone = those (is_of_graph g) b.waiting in let stay = those (λ k. not (is_of_graph g k)) b.waiting in
      let q = granted_in_order (those (λ k. not (is_of_graph g k)) b.held) [] stay in
      let few = few_wait o w l (locks_are mine b.waiting) alone in
      let split = split_flies mine (is_of_graph g) b.waiting few in
      let few_stay : length (in_locks mine stay) ≤ 1 = omega (arith, few, ap (length {A = Ask}) split, length-append (in_locks mine gone) (in_locks mine stay)) in
      ap (λ z. z ++ (in_locks mine q.waiting ++ l)) (requeued_outputs q (gones_of gone))
      ∙ requeued_flies o (in_outputs mine (gones_of gone)) (in_locks mine q.granted) (in_locks mine q.waiting) (in_locks mine stay) l (queue_flies mine (those (λ k. not (is_of_graph g k)) b.held) [] stay few_stay)
      ∙ ap (λ z. o ++ z) (sym (append_assoc (in_outputs mine (gones_of gone)) (in_locks mine stay) l) ∙ ap (λ z. z ++ l) (ap (λ z. z ++ in_locks mine stay) (gones_fly mine gone) ∙ split))

  served_flies : (by : Sender) (ask : Ask) (rest : List Input) → IsAlone (in_outputs mine b.outputs ++ (in_locks mine b.waiting ++ ((if mine by then ask ∷ [] else []) ++ in_line mine rest))) →
      flight mine (served_up by ask (record b { line = rest })) ≡ in_outputs mine b.outputs ++ (in_locks mine b.waiting ++ ((if mine by then ask ∷ [] else []) ++ in_line mine rest))
  served_flies by (Lock shared cells) rest alone = locked_flies (record { by = by; shared = shared; cells = cells }) rest alone
  served_flies by Unlock rest alone = unlocked_flies by rest alone
  served_flies by (Mark change cells) rest alone = answering_flies by (Mark change cells) (answer_of (Mark change cells) b.store) rest alone
  served_flies by (Op change op) rest alone = answering_flies by (Op change op) (answer_of (Op change op) b.store) rest alone
  served_flies by (Post change cells accused) rest alone = answering_flies by (Post change cells accused) (answer_of (Post change cells accused) b.store) rest alone
  served_flies by (Fetch cell) rest alone = answering_flies by (Fetch cell) (answer_of (Fetch cell) b.store) rest alone
  served_flies by (Replace cell found) rest alone = answering_flies by (Replace cell found) (answer_of (Replace cell found) b.store) rest alone
  served_flies by (Clear cells who) rest alone = answering_flies by (Clear cells who) (answer_of (Clear cells who) b.store) rest alone
  served_flies by (Settle change cells accused) rest alone = answering_flies by (Settle change cells accused) (answer_of (Settle change cells accused) b.store) rest alone
  served_flies by Index rest alone = answering_flies by Index (answer_of Index b.store) rest alone
  served_flies by Open rest alone = answering_flies by Open (answer_of Open b.store) rest alone
  served_flies by Release rest alone = answering_flies by Release (answer_of Release b.store) rest alone
  served_flies by OpenFirst rest alone = answering_flies by OpenFirst (answer_of OpenFirst b.store) rest alone

  served_by_flies : (power : Power) (by : Sender) (ask : Ask) (rest : List Input) → IsAlone (in_outputs mine b.outputs ++ (in_locks mine b.waiting ++ ((if mine by then ask ∷ [] else []) ++ in_line mine rest))) →
      flight mine (served_by power by ask (record b { line = rest })) ≡ in_outputs mine b.outputs ++ (in_locks mine b.waiting ++ ((if mine by then ask ∷ [] else []) ++ in_line mine rest))
  served_by_flies IsUp by ask rest alone = served_flies by ask rest alone
  served_by_flies (IsDown late were) by ask rest alone = answering_flies by ask Gone rest alone

  steered_flies : (control : Control) → IsAlone (flight mine b) → flight mine (steered control b) ≡ flight mine b
  steered_flies (Control.Down late) alone =
      ap (λ z. z ++ in_line mine b.line) (outputs_append mine b.outputs (Closed ∷ gones_of b.waiting) ∙ ap (λ z. in_outputs mine b.outputs ++ z) (gones_fly mine b.waiting))
      ∙ append_assoc (in_outputs mine b.outputs) (in_locks mine b.waiting) (in_line mine b.line)
  steered_flies Control.Up alone = ap (λ z. z ++ (in_locks mine b.waiting ++ in_line mine b.line)) (outputs_append mine b.outputs (Opened ∷ []) ∙ append-nil (in_outputs mine b.outputs))
  steered_flies (Control.Connect g) alone = by_case (is_up b.power) where
    by_case : (u : Bool) → flight mine (if u then (let c = without_graph g b in record c { connected = with_at c.connected g true; outputs = c.outputs ++ Connected g ∷ [] }) else b) ≡ flight mine b
    by_case true =
        ap (λ z. z ++ (in_locks mine (without_graph g b).waiting ++ in_line mine b.line)) (outputs_append mine (without_graph g b).outputs (Connected g ∷ []) ∙ append-nil (in_outputs mine (without_graph g b).outputs))
        ∙ without_graph_flies g alone
    by_case false = refl
  steered_flies (Control.Disconnect g) alone = without_graph_flies g alone

-- the moves by which a brick works at the front of its line
pub front_flies : (mine : Sender → Bool) (by : Sender) (ask : Ask) (rest : List Input) (old : Brick) → old.line ≡ Asked by ask ∷ rest →
    flight mine old ≡ in_outputs mine old.outputs ++ (in_locks mine old.waiting ++ ((if mine by then ask ∷ [] else []) ++ in_line mine rest))
front_flies mine by ask rest old front = ap (λ (l : List Input). in_outputs mine old.outputs ++ (in_locks mine old.waiting ++ in_line mine l)) front ∙ front_apart mine old by ask rest

module _ (mine : Sender → Bool) (old new : Brick) (alone : IsAlone (flight mine old)) where
  apart_alone : (by : Sender) (ask : Ask) (rest : List Input) → old.line ≡ Asked by ask ∷ rest →
      IsAlone (in_outputs mine old.outputs ++ (in_locks mine old.waiting ++ ((if mine by then ask ∷ [] else []) ++ in_line mine rest)))
  apart_alone by ask rest front = subst IsAlone (front_flies mine by ask rest old front) alone

  pub serving_flies : (by : Sender) (ask : Ask) (rest : List Input) → old.line ≡ Asked by ask ∷ rest → new ≡ served_by old.power by ask (record old { line = rest }) → flight mine new ≡ flight mine old
  serving_flies by ask rest front is = ap (flight mine) is ∙ served_by_flies mine old old.power by ask rest (apart_alone by ask rest front) ∙ sym (front_flies mine by ask rest old front)

  pub answered_flies : (by : Sender) (ask : Ask) (answer : Answer) (power : Power) (rest : List Input) → old.line ≡ Asked by ask ∷ rest → new ≡ answering by ask answer (record old { line = rest; power = power }) → flight mine new ≡ flight mine old
  answered_flies by ask answer power rest front is = ap (flight mine) is ∙ answering_flies mine old by ask answer rest (apart_alone by ask rest front) ∙ sym (front_flies mine by ask rest old front)

  pub steering_flies : (control : Control) (rest : List Input) → old.line ≡ Steered control ∷ rest → new ≡ steered control (record old { line = rest }) → flight mine new ≡ flight mine old
  steering_flies control rest front is =
      let same : flight mine (record old { line = rest }) ≡ flight mine old = ap (λ (l : List Input). in_outputs mine old.outputs ++ (in_locks mine old.waiting ++ in_line mine l)) (sym front) in
      ap (flight mine) is ∙ steered_flies mine (record old { line = rest }) control (subst IsAlone (sym same) alone) ∙ same
