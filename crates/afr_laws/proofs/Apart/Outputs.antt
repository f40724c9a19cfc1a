-- Behind a Closed no lock is granted for the connection that it ends: what a brick adds to its outputs.
use Rattle.std.proofs.Common.{◌≡◌, ◌∙◌, ℕ, Bool, true, false, refl, sym, ap, subst, inl, inr, append_assoc}
use Rattle.std.specs.Prelude.{if◌then◌else◌, List, [], ◌∷◌, ◌++◌, ◌||◌, not}
use Rattle.std.proofs.lemmas.List.{append-nil}
use Rattle.afr_machine.specs.Replicas.{with_at}
use Rattle.afr_machine.specs.Copies.{Store}
use Rattle.afr_machine.specs.Requests.{Sender, Ask, Answer, Control, Output}
use Rattle.afr_machine.specs.Requests.Ask.{Lock, Unlock}
use Rattle.afr_machine.specs.Requests.Answer.{Done, Gone}
use Rattle.afr_machine.specs.Requests.Output.{Answered, Closed, Opened, Connected}
use Rattle.afr_machine.specs.Locks.{BrickLock, conflicts_among, those, is_of_txn, is_of_graph, granted_in_order}
use Rattle.afr_machine.specs.Bricks.{Power, Brick, grants_of, gones_of, answer_of, locked, without_graph, served_by, served_up, is_up, steered}
use Rattle.afr_machine.specs.Bricks.Power.{IsUp, IsDown}
use Rattle.afr_laws.specs.Grants.{has_closed}
use Rattle.afr_laws.specs.Apart.{IsGranting}
use Rattle.afr_laws.proofs.Bools.{neither}

-- what was added has no Closed, or begins with one
pub data Adds (old new : List Output) : Type 0 where
  NoClosed : (more : List Output) → new ≡ old ++ more → has_closed more ≡ false → Adds old new
  Closes : (more : List Output) → new ≡ old ++ Closed ∷ more → Adds old new

closed_append : (xs ys : List Output) → has_closed (xs ++ ys) ≡ (has_closed xs || has_closed ys)
closed_append [] ys = refl
closed_append (Answered by ask answer ∷ xs) ys = closed_append xs ys
closed_append (Closed ∷ xs) ys = refl
closed_append (Opened ∷ xs) ys = closed_append xs ys
closed_append (Connected graph ∷ xs) ys = closed_append xs ys

granting_left : (lock : BrickLock) (xs ys : List Output) → has_closed xs ≡ true → IsGranting lock (xs ++ ys) → IsGranting lock xs
granting_left lock [] ys c h = absurd cc
granting_left lock (Answered by ask answer ∷ xs) ys c (inl is) = inl is
granting_left lock (Answered by ask answer ∷ xs) ys c (inr h) = inr (granting_left lock xs ys c h)
granting_left lock (Closed ∷ xs) ys c h = h
granting_left lock (Opened ∷ xs) ys c h = granting_left lock xs ys c h
granting_left lock (Connected graph ∷ xs) ys c h = granting_left lock xs ys c h

granting_before : (lock : BrickLock) (xs ys : List Output) → IsGranting lock (xs ++ Closed ∷ ys) → IsGranting lock xs
granting_before lock [] ys h = h
granting_before lock (Answered by ask answer ∷ xs) ys (inl is) = inl is
granting_before lock (Answered by ask answer ∷ xs) ys (inr h) = inr (granting_before lock xs ys h)
granting_before lock (Closed ∷ xs) ys h = h
granting_before lock (Opened ∷ xs) ys h = granting_before lock xs ys h
granting_before lock (Connected graph ∷ xs) ys h = granting_before lock xs ys h

or_none : (b : Bool) → (b || false) ≡ b
or_none true = refl
or_none false = refl

-- with a Closed on its way, every lock that is granted before it was granted already
pub adds_back : (lock : BrickLock) (old new : List Output) → Adds old new → has_closed new ≡ true → IsGranting lock new → IsGranting lock old
adds_back lock old new (NoClosed more is none) closing h =
    granting_left lock old more (sym (closed_append old more ∙ ap (λ b. has_closed old || b) none ∙ or_none (has_closed old)) ∙ sym (ap has_closed is) ∙ closing) (subst (IsGranting lock) is h)
adds_back lock old new (Closes more is) closing h = granting_before lock old more (subst (IsGranting lock) is h)

-- ---- what each move adds

grants_open : (store : Store) (ls : List BrickLock) → has_closed (grants_of store ls) ≡ false
grants_open store [] = refl
grants_open store (l ∷ ls) = grants_open store ls

gones_open : (ls : List BrickLock) → has_closed (gones_of ls) ≡ false
gones_open [] = refl
gones_open (l ∷ ls) = gones_open ls

same_adds : (os : List Output) → Adds os os
same_adds os = NoClosed [] (sym (append-nil os)) refl

pub answering_adds : (os : List Output) (by : Sender) (ask : Ask) (answer : Answer) → Adds os (os ++ Answered by ask answer ∷ [])
answering_adds os by ask answer = NoClosed (Answered by ask answer ∷ []) refl refl

module _ (b : Brick) where
  locked_adds : (lock : BrickLock) → Adds b.outputs (locked lock b).outputs
  locked_adds lock = by_case (conflicts_among (b.held ++ b.waiting) lock) where
    by_case : (c : Bool) → Adds b.outputs (if c then record b { waiting = b.waiting ++ lock ∷ [] } else record b { held = b.held ++ lock ∷ []; outputs = b.outputs ++ grants_of b.store (lock ∷ []) }).outputs
    by_case true = same_adds b.outputs
    by_case false = NoClosed (grants_of b.store (lock ∷ [])) refl refl

  served_up_adds : (by : Sender) (ask : Ask) → Adds b.outputs (served_up by ask b).outputs
  served_up_adds by (Lock shared cells) = locked_adds (record { by = by; shared = shared; cells = cells })
  served_up_adds by Unlock =
      let q = granted_in_order (those (λ l. not (is_of_txn by.txn l)) b.held) [] b.waiting in
      NoClosed (Answered by Unlock Done ∷ grants_of b.store q.granted) refl (grants_open b.store q.granted)
  served_up_adds by other = answering_adds b.outputs by other (answer_of other b.store)

  pub served_adds : (power : Power) (by : Sender) (ask : Ask) → Adds b.outputs (served_by power by ask b).outputs
  served_adds IsUp by ask = served_up_adds by ask
  served_adds (IsDown late were) by ask = answering_adds b.outputs by ask Gone

  -- what the dropping of a graph's locks adds
  abbrev dropped : ℕ → List Output
  dropped g = gones_of (those (is_of_graph g) b.waiting) ++ grants_of b.store (granted_in_order (those (λ l. not (is_of_graph g l)) b.held) [] (those (λ l. not (is_of_graph g l)) b.waiting)).granted

  dropped_open : (g : ℕ) → has_closed (dropped g) ≡ false
  dropped_open g =
      let gone = gones_of (those (is_of_graph g) b.waiting) in
      let granted = grants_of b.store (granted_in_order (those (λ l. not (is_of_graph g l)) b.held) [] (those (λ l. not (is_of_graph g l)) b.waiting)).granted in
      closed_append gone granted ∙ neither (has_closed gone) (has_closed granted) (gones_open (those (is_of_graph g) b.waiting)) (grants_open b.store (granted_in_order (those (λ l. not (is_of_graph g l)) b.held) [] (those (λ l. not (is_of_graph g l)) b.waiting)).granted)

  pub steered_adds : (control : Control) → Adds b.outputs (steered control b).outputs
  steered_adds (Control.Down late) = Closes (gones_of b.waiting) refl
  steered_adds Control.Up = NoClosed (Opened ∷ []) refl refl
  steered_adds (Control.Connect g) = by_case (is_up b.power) where
    by_case : (u : Bool) → Adds b.outputs (if u then (let c = without_graph g b in record c { connected = with_at c.connected g true; outputs = c.outputs ++ Connected g ∷ [] }) else b).outputs
    by_case true = NoClosed (dropped g ++ Connected g ∷ []) (append_assoc b.outputs (dropped g) (Connected g ∷ [])) (closed_append (dropped g) (Connected g ∷ []) ∙ neither (has_closed (dropped g)) false (dropped_open g) refl)
    by_case false = same_adds b.outputs
  steered_adds (Control.Disconnect g) = NoClosed (dropped g) refl (dropped_open g)
