-- What a brick makes of the front of its line: its store, and the copies in its answers.
use Rattle.std.proofs.Common.{◌≡◌, ℕ, Bool, true, false, refl, Option, Some, None}
use Rattle.std.specs.Prelude.{if◌then◌else◌, List, [], ◌∷◌, ◌++◌, not}
use Rattle.fop_types.specs.declared.cells.Cell.{Cell}
use Rattle.afr_machine.specs.Replicas.{with_at}
use Rattle.afr_machine.specs.Copies.{Copy, Store, changes_of, fetched_of}
use Rattle.afr_machine.specs.Requests.{Sender, Ask, Control, Answer, Output}
use Rattle.afr_machine.specs.Requests.Ask.{Lock, Unlock, Fetch}
use Rattle.afr_machine.specs.Requests.Answer.{Done, Content, Gone}
use Rattle.afr_machine.specs.Requests.Output.{Answered, Closed, Opened, Connected}
use Rattle.afr_machine.specs.Locks.{BrickLock, conflicts_among, those, is_of_txn, is_of_graph, granted_in_order}
use Rattle.afr_machine.specs.Bricks.{Power, Brick, stored_by, answer_of, answer_of_fetch, grants_of, gones_of, locked, without_graph, served_up, served_by, is_up, steered}
use Rattle.afr_machine.specs.Bricks.Power.{IsUp, IsDown}
use Rattle.afr_machine.specs.Changes.{Change}
use Rattle.afr_machine.specs.Steps.{IsRefusal}
use Rattle.afr_laws.specs.Copies.{IsCopyOf, Shows, EachAnswer}

-- ---- the store

locked_store : (lock : BrickLock) (b : Brick) → (locked lock b).store ≡ b.store
locked_store lock b = by_case (conflicts_among (b.held ++ b.waiting) lock) where
  by_case : (c : Bool) → (if c then record b { waiting = b.waiting ++ lock ∷ [] } else record b { held = b.held ++ lock ∷ []; outputs = b.outputs ++ grants_of b.store (lock ∷ []) }).store ≡ b.store
  by_case true = refl
  by_case false = refl

served_up_store : (by : Sender) (ask : Ask) (b : Brick) → (served_up by ask b).store ≡ stored_by ask b.store
served_up_store by (Lock shared cells) b = locked_store (record { by = by; shared = shared; cells = cells }) b
served_up_store by other b = refl

pub served_store : (power : Power) (by : Sender) (ask : Ask) (b : Brick) → (served_by power by ask b).store ≡ stored_by ask b.store
served_store IsUp by ask b = served_up_store by ask b
served_store (IsDown late were) by ask b = refl

pub steered_store : (control : Control) (b : Brick) → (steered control b).store ≡ b.store
steered_store (Control.Connect g) b = by_case (is_up b.power) where
  by_case : (u : Bool) → (if u then (let c = without_graph g b in record c { connected = with_at c.connected g true; outputs = c.outputs ++ Connected g ∷ [] }) else b).store ≡ b.store
  by_case true = refl
  by_case false = refl
steered_store other b = refl

-- ---- the outputs

module _ (changes : ℕ → Change) where
  pub answers_append : (xs ys : List Output) → EachAnswer (Shows changes) xs → EachAnswer (Shows changes) ys → EachAnswer (Shows changes) (xs ++ ys)
  answers_append [] ys p q = q
  answers_append (Answered by ask answer ∷ xs) ys p q = (p.0, answers_append xs ys p.1 q)
  answers_append (Closed ∷ xs) ys p q = answers_append xs ys p q
  answers_append (Opened ∷ xs) ys p q = answers_append xs ys p q
  answers_append (Connected graph ∷ xs) ys p q = answers_append xs ys p q

  grants_show : (store : Store) (ls : List BrickLock) → EachAnswer (Shows changes) (grants_of store ls)
  grants_show store [] = tt
  grants_show store (l ∷ ls) = (tt, grants_show store ls)

  gones_show : (ls : List BrickLock) → EachAnswer (Shows changes) (gones_of ls)
  gones_show [] = tt
  gones_show (l ∷ ls) = (tt, gones_show ls)

  pub gone_shows : (ask : Ask) → Shows changes ask Gone
  gone_shows (Fetch cell) = tt
  gone_shows other = tt

  pub refusal_shows : (ask : Ask) (answer : Answer) → IsRefusal answer → Shows changes ask answer
  refusal_shows (Fetch cell) (Content found) h = absurd h
  refusal_shows (Fetch cell) other h = tt
  refusal_shows other answer h = tt

  fetch_shows : (cell : Cell) (copy : Option Copy) (last : ℕ) → IsCopyOf changes cell (changes_of copy) last → Shows changes (Fetch cell) (answer_of_fetch (fetched_of copy last))
  fetch_shows cell None last n = tt
  fetch_shows cell (Some copy) last n = n

  answer_shows : (ask : Ask) (store : Store) → ((cell : Cell) → IsCopyOf changes cell (changes_of (store cell).copy) (store cell).last) → Shows changes ask (answer_of ask store)
  answer_shows (Fetch cell) store n = fetch_shows cell (store cell).copy (store cell).last (n cell)
  answer_shows other store n = tt

  module _ (b : Brick) (stored : (cell : Cell) → IsCopyOf changes cell (changes_of (b.store cell).copy) (b.store cell).last) (outputs : EachAnswer (Shows changes) b.outputs) where
    locked_shows : (lock : BrickLock) → EachAnswer (Shows changes) (locked lock b).outputs
    locked_shows lock = by_case (conflicts_among (b.held ++ b.waiting) lock) where
      by_case : (c : Bool) → EachAnswer (Shows changes) (if c then record b { waiting = b.waiting ++ lock ∷ [] } else record b { held = b.held ++ lock ∷ []; outputs = b.outputs ++ grants_of b.store (lock ∷ []) }).outputs
      by_case true = outputs
      by_case false = answers_append b.outputs (grants_of b.store (lock ∷ [])) outputs (tt, tt)

    served_up_shows : (by : Sender) (ask : Ask) → EachAnswer (Shows changes) (served_up by ask b).outputs
    served_up_shows by (Lock shared cells) = locked_shows (record { by = by; shared = shared; cells = cells })
    served_up_shows by Unlock =
        let q = granted_in_order (those (λ l. not (is_of_txn by.txn l)) b.held) [] b.waiting in
        answers_append b.outputs (Answered by Unlock Done ∷ [] ++ grants_of b.store q.granted) outputs (tt, grants_show b.store q.granted)
    served_up_shows by other = answers_append b.outputs (Answered by other (answer_of other b.store) ∷ []) outputs (answer_shows other b.store stored, tt)

    pub served_shows : (power : Power) (by : Sender) (ask : Ask) → EachAnswer (Shows changes) (served_by power by ask b).outputs
    served_shows IsUp by ask = served_up_shows by ask
    served_shows (IsDown late were) by ask = answers_append b.outputs (Answered by ask Gone ∷ []) outputs (gone_shows ask, tt)

    without_shows : (g : ℕ) → EachAnswer (Shows changes) (without_graph g b).outputs
    without_shows g =
        let q = granted_in_order (those (λ l. not (is_of_graph g l)) b.held) [] (those (λ l. not (is_of_graph g l)) b.waiting) in
        let gone = gones_of (those (is_of_graph g) b.waiting) in
        answers_append b.outputs (gone ++ grants_of b.store q.granted) outputs (answers_append gone (grants_of b.store q.granted) (gones_show (those (is_of_graph g) b.waiting)) (grants_show b.store q.granted))

    pub steered_shows : (control : Control) → EachAnswer (Shows changes) (steered control b).outputs
    steered_shows (Control.Down late) = answers_append b.outputs (Closed ∷ gones_of b.waiting) outputs (gones_show b.waiting)
    steered_shows Control.Up = answers_append b.outputs (Opened ∷ []) outputs tt
    steered_shows (Control.Connect g) = by_case (is_up b.power) where
      by_case : (u : Bool) → EachAnswer (Shows changes) (if u then (let c = without_graph g b in record c { connected = with_at c.connected g true; outputs = c.outputs ++ Connected g ∷ [] }) else b).outputs
      by_case true = answers_append (without_graph g b).outputs (Connected g ∷ []) (without_shows g) tt
      by_case false = outputs
    steered_shows (Control.Disconnect g) = without_shows g
