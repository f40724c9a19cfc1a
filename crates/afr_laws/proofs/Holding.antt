-- Which moves of a brick drop a lock: the unlock of its transaction, a control of its graph, a Down.
use Rattle.std.proofs.Common.{◌≡◌, ◌∙◌, ℕ, Bool, true, false, refl, sym, ap, subst, ◌⊎◌, inl, inr, Option, Some, None}
use Rattle.std.specs.Prelude.{if◌then◌else◌, List, [], ◌∷◌, ◌++◌, ◌==◌, not}
use Rattle.std.proofs.lemmas.Bool.{ne_eqb, eqb-false}
use Rattle.afr_machine.specs.Replicas.{with_at}
use Rattle.afr_machine.specs.Copies.{Store}
use Rattle.afr_machine.specs.Requests.{Sender, Ask, Answer, Control, Output}
use Rattle.afr_machine.specs.Requests.Ask.{Lock, Unlock}
use Rattle.afr_machine.specs.Requests.Answer.{Done, Gone}
use Rattle.afr_machine.specs.Requests.Output.{Answered, Closed, Opened, Connected}
use Rattle.afr_machine.specs.Locks.{BrickLock, conflicts_among, those, is_of_txn, is_of_graph, granted_in_order}
use Rattle.afr_machine.specs.Bricks.{Power, Brick, grants_of, gones_of, stored_by, less_late, answer_of, locked, requeued, without_graph, answering, served_by, is_up, steered}
use Rattle.afr_machine.specs.Bricks.Power.{IsUp, IsDown}
use Rattle.afr_laws.specs.Connections.{is_control_of}
use Rattle.afr_laws.specs.Grants.{IsAmong, has_closed, IsHeldBy, lock_granted, OnLock, EachGranted}

-- ---- lists

pub among_left : (lock : BrickLock) (xs ys : List BrickLock) → IsAmong lock xs → IsAmong lock (xs ++ ys)
among_left lock [] ys h = absurd h
among_left lock (x ∷ xs) ys (inl h) = inl h
among_left lock (x ∷ xs) ys (inr h) = inr (among_left lock xs ys h)

pub among_last : (lock : BrickLock) (xs : List BrickLock) → IsAmong lock (xs ++ lock ∷ [])
among_last lock [] = inl refl
among_last lock (x ∷ xs) = inr (among_last lock xs)

pub among_those : (passes : BrickLock → Bool) (lock : BrickLock) (xs : List BrickLock) → passes lock ≡ true → IsAmong lock xs → IsAmong lock (those passes xs)
among_those passes lock [] p h = absurd h
among_those passes lock (x ∷ xs) p (inl h) = subst (λ b. IsAmong lock (if b then x ∷ those passes xs else those passes xs)) (sym (ap passes (sym h) ∙ p)) (inl h)
among_those passes lock (x ∷ xs) p (inr h) = by_case (passes x) (among_those passes lock xs p h) where
  by_case : (b : Bool) → IsAmong lock (those passes xs) → IsAmong lock (if b then x ∷ those passes xs else those passes xs)
  by_case true rest = inr rest
  by_case false rest = rest

pub among_queue : (lock : BrickLock) (held still ws : List BrickLock) → IsAmong lock held → IsAmong lock (granted_in_order held still ws).held
among_queue lock held still [] h = h
among_queue lock held still (l ∷ ls) h = by_case (conflicts_among (held ++ still) l) (among_queue lock held (still ++ l ∷ []) ls h) (among_queue lock (held ++ l ∷ []) still ls (among_left lock held (l ∷ []) h)) where
  by_case : (b : Bool) → IsAmong lock (granted_in_order held (still ++ l ∷ []) ls).held → IsAmong lock (granted_in_order (held ++ l ∷ []) still ls).held →
      IsAmong lock (if b then granted_in_order held (still ++ l ∷ []) ls else (let q = granted_in_order (held ++ l ∷ []) still ls in record q { granted = l ∷ q.granted })).held
  by_case true waits grants = waits
  by_case false waits grants = grants

pub closed_left : (xs ys : List Output) → has_closed xs ≡ true → has_closed (xs ++ ys) ≡ true
closed_left [] ys h = absurd cc
closed_left (Answered by ask answer ∷ xs) ys h = closed_left xs ys h
closed_left (Closed ∷ xs) ys h = refl
closed_left (Opened ∷ xs) ys h = closed_left xs ys h
closed_left (Connected graph ∷ xs) ys h = closed_left xs ys h

closed_right : (xs ys : List Output) → has_closed ys ≡ true → has_closed (xs ++ ys) ≡ true
closed_right [] ys h = h
closed_right (Answered by ask answer ∷ xs) ys h = closed_right xs ys h
closed_right (Closed ∷ xs) ys h = refl
closed_right (Opened ∷ xs) ys h = closed_right xs ys h
closed_right (Connected graph ∷ xs) ys h = closed_right xs ys h

-- ---- one lock

-- the request does not drop the lock
abbrev pub drops : Ask → Sender → BrickLock → Bool
drops Unlock by lock = lock.by.txn == by.txn
drops other by lock = false

module _ (lock : BrickLock) (b : Brick) (h : IsHeldBy b lock) where
  -- more outputs, and the lock still among those held
  more : (new : Brick) (outputs : List Output) → new.outputs ≡ b.outputs ++ outputs → (IsAmong lock b.held → IsAmong lock new.held) → IsHeldBy new lock
  more new outputs is kept = by_case h where
    by_case : IsAmong lock b.held ⊎ (has_closed b.outputs ≡ true) → IsHeldBy new lock
    by_case (inl among) = inl (kept among)
    by_case (inr closing) = inr (ap has_closed is ∙ closed_left b.outputs outputs closing)

  locked_holds : (other : BrickLock) → IsHeldBy (locked other b) lock
  locked_holds other = by_case (conflicts_among (b.held ++ b.waiting) other) where
    by_case : (c : Bool) → IsHeldBy (if c then record b { waiting = b.waiting ++ other ∷ [] } else record b { held = b.held ++ other ∷ []; outputs = b.outputs ++ grants_of b.store (other ∷ []) }) lock
    by_case true = h
    by_case false = more (record b { held = b.held ++ other ∷ []; outputs = b.outputs ++ grants_of b.store (other ∷ []) }) (grants_of b.store (other ∷ [])) refl (among_left lock b.held (other ∷ []))

  fewer_holds : (passes : BrickLock → Bool) (ws : List BrickLock) (first : List Output) → passes lock ≡ true → IsHeldBy (requeued (granted_in_order (those passes b.held) [] ws) first b) lock
  fewer_holds passes ws first p = more (requeued (granted_in_order (those passes b.held) [] ws) first b) (first ++ grants_of b.store (granted_in_order (those passes b.held) [] ws).granted) refl (λ among. among_queue lock (those passes b.held) [] ws (among_those passes lock b.held p among))

  pub answering_holds : (by : Sender) (ask : Ask) (answer : Answer) → IsHeldBy (answering by ask answer b) lock
  answering_holds by ask answer = more (answering by ask answer b) (Answered by ask answer ∷ []) refl (λ among. among)

pub served_holds : (lock : BrickLock) (b : Brick) → IsHeldBy b lock → (power : Power) (by : Sender) (ask : Ask) → drops ask by lock ≡ false → IsHeldBy (served_by power by ask b) lock
served_holds lock b h (IsDown late were) by ask keeps = answering_holds lock (record b { store = stored_by ask b.store; power = less_late b.power }) h by ask Gone
served_holds lock b h IsUp by (Lock shared cells) keeps = locked_holds lock b h (record { by = by; shared = shared; cells = cells })
served_holds lock b h IsUp by Unlock keeps = fewer_holds lock b h (λ l. not (is_of_txn by.txn l)) b.waiting (Answered by Unlock Done ∷ []) (ap not keeps)
served_holds lock b h IsUp by other keeps = answering_holds lock b h by other (answer_of other b.store)

-- a control that is not of the lock's graph drops it not; a Down is answered Closed
pub steered_holds : (lock : BrickLock) (b : Brick) → IsHeldBy b lock → (control : Control) → is_control_of lock.by.graph control ≡ false → IsHeldBy (steered control b) lock
steered_holds lock b h (Control.Down late) keeps = inr (closed_right b.outputs (Closed ∷ gones_of b.waiting) refl)
steered_holds lock b h Control.Up keeps = more lock b h (steered Control.Up b) (Opened ∷ []) refl (λ among. among)
steered_holds lock b h (Control.Connect g) keeps = by_case (is_up b.power) where
  dropped : IsHeldBy (without_graph g b) lock
  dropped = fewer_holds lock b h (λ l. not (is_of_graph g l)) (those (λ l. not (is_of_graph g l)) b.waiting) (gones_of (those (is_of_graph g) b.waiting)) (ap not (flip_eq g lock.by.graph keeps))
    where
      flip_eq : (a c : ℕ) → (a == c) ≡ false → (c == a) ≡ false
      flip_eq a c e = ne_eqb c a (λ same. eqb-false a c e (sym same))

  by_case : (u : Bool) → IsHeldBy (if u then (let c = without_graph g b in record c { connected = with_at c.connected g true; outputs = c.outputs ++ Connected g ∷ [] }) else b) lock
  by_case true = more lock (without_graph g b) dropped (record (without_graph g b) { connected = with_at (without_graph g b).connected g true; outputs = (without_graph g b).outputs ++ Connected g ∷ [] }) (Connected g ∷ []) refl (λ among. among)
  by_case false = h
steered_holds lock b h (Control.Disconnect g) keeps = fewer_holds lock b h (λ l. not (is_of_graph g l)) (those (λ l. not (is_of_graph g l)) b.waiting) (gones_of (those (is_of_graph g) b.waiting)) (ap not (flip_eq g lock.by.graph keeps))
  where
    flip_eq : (a c : ℕ) → (a == c) ≡ false → (c == a) ≡ false
    flip_eq a c e = ne_eqb c a (λ same. eqb-false a c e (sym same))

-- ---- a Closed on its way stays on its way

pub served_closes : (b : Brick) (power : Power) (by : Sender) (ask : Ask) → has_closed b.outputs ≡ true → has_closed (served_by power by ask b).outputs ≡ true
served_closes b (IsDown late were) by ask h = closed_left b.outputs (Answered by ask Gone ∷ []) h
served_closes b IsUp by (Lock shared cells) h = by_case (conflicts_among (b.held ++ b.waiting) (record { by = by; shared = shared; cells = cells })) where
  lock : BrickLock
  lock = record { by = by; shared = shared; cells = cells }

  by_case : (c : Bool) → has_closed (if c then record b { waiting = b.waiting ++ record { by = by; shared = shared; cells = cells } ∷ [] } else record b { held = b.held ++ record { by = by; shared = shared; cells = cells } ∷ []; outputs = b.outputs ++ grants_of b.store (record { by = by; shared = shared; cells = cells } ∷ []) }).outputs ≡ true
  by_case true = h
  by_case false = closed_left b.outputs (grants_of b.store (record { by = by; shared = shared; cells = cells } ∷ [])) h
served_closes b IsUp by Unlock h = closed_left b.outputs (Answered by Unlock Done ∷ grants_of b.store (granted_in_order (those (λ l. not (is_of_txn by.txn l)) b.held) [] b.waiting).granted) h
served_closes b IsUp by other h = closed_left b.outputs (Answered by other (answer_of other b.store) ∷ []) h

graph_closes : (b : Brick) (g : ℕ) → has_closed b.outputs ≡ true → has_closed (without_graph g b).outputs ≡ true
graph_closes b g h =
    closed_left b.outputs (gones_of (those (is_of_graph g) b.waiting) ++ grants_of b.store (granted_in_order (those (λ l. not (is_of_graph g l)) b.held) [] (those (λ l. not (is_of_graph g l)) b.waiting)).granted) h

pub steered_closes : (b : Brick) (control : Control) → has_closed b.outputs ≡ true → has_closed (steered control b).outputs ≡ true
steered_closes b (Control.Down late) h = closed_left b.outputs (Closed ∷ gones_of b.waiting) h
steered_closes b Control.Up h = closed_left b.outputs (Opened ∷ []) h
steered_closes b (Control.Connect g) h = by_case (is_up b.power) where
  by_case : (u : Bool) → has_closed (if u then (let c = without_graph g b in record c { connected = with_at c.connected g true; outputs = c.outputs ++ Connected g ∷ [] }) else b).outputs ≡ true
  by_case true = closed_left (without_graph g b).outputs (Connected g ∷ []) (graph_closes b g h)
  by_case false = h
steered_closes b (Control.Disconnect g) h = graph_closes b g h

-- ---- grants on their way

abbrev pub GrantedIn : BrickLock → List Output → Type 0
GrantedIn lock [] = ⊥
GrantedIn lock (Answered by ask answer ∷ os) = (lock_granted by ask answer ≡ Some lock) ⊎ GrantedIn lock os
GrantedIn lock (Closed ∷ os) = GrantedIn lock os
GrantedIn lock (Opened ∷ os) = GrantedIn lock os
GrantedIn lock (Connected graph ∷ os) = GrantedIn lock os

pub granted_append : (P : BrickLock → Type 0) (xs ys : List Output) → EachGranted P xs → EachGranted P ys → EachGranted P (xs ++ ys)
granted_append P [] ys p q = q
granted_append P (Answered by ask answer ∷ xs) ys p q = (p.0, granted_append P xs ys p.1 q)
granted_append P (Closed ∷ xs) ys p q = granted_append P xs ys p q
granted_append P (Opened ∷ xs) ys p q = granted_append P xs ys p q
granted_append P (Connected graph ∷ xs) ys p q = granted_append P xs ys p q

on_map : (P Q : BrickLock → Type 0) (o : Option BrickLock) → ((lock : BrickLock) → o ≡ Some lock → P lock → Q lock) → OnLock P o → OnLock Q o
on_map P Q None more p = tt
on_map P Q (Some lock) more p = more lock refl p

pub granted_map : (P Q : BrickLock → Type 0) (os : List Output) → ((lock : BrickLock) → GrantedIn lock os → P lock → Q lock) → EachGranted P os → EachGranted Q os
granted_map P Q [] more p = tt
granted_map P Q (Answered by ask answer ∷ os) more p = (on_map P Q (lock_granted by ask answer) (λ lock is. more lock (inl is)) p.0, granted_map P Q os (λ lock i. more lock (inr i)) p.1)
granted_map P Q (Closed ∷ os) more p = granted_map P Q os more p
granted_map P Q (Opened ∷ os) more p = granted_map P Q os more p
granted_map P Q (Connected graph ∷ os) more p = granted_map P Q os more p

grants_all : (Q : BrickLock → Type 0) (store : Store) (ls : List BrickLock) → ((lock : BrickLock) → IsAmong lock ls → Q lock) → EachGranted Q (grants_of store ls)
grants_all Q store [] all = tt
grants_all Q store (l ∷ ls) all = (all l (inl refl), grants_all Q store ls (λ lock i. all lock (inr i)))

gones_all : (Q : BrickLock → Type 0) (ls : List BrickLock) → EachGranted Q (gones_of ls)
gones_all Q [] = tt
gones_all Q (l ∷ ls) = (tt, gones_all Q ls)

granted_held : (lock : BrickLock) (held still ws : List BrickLock) → IsAmong lock (granted_in_order held still ws).granted → IsAmong lock (granted_in_order held still ws).held
granted_held lock held still [] h = absurd h
granted_held lock held still (l ∷ ls) h = by_case (conflicts_among (held ++ still) l) (granted_held lock held (still ++ l ∷ []) ls) (granted_held lock (held ++ l ∷ []) still ls) h where
  here : lock ≡ l → IsAmong lock (granted_in_order (held ++ l ∷ []) still ls).held
  here e = among_queue lock (held ++ l ∷ []) still ls (subst (λ x. IsAmong lock (held ++ x ∷ [])) e (among_last lock held))

  by_case : (b : Bool) → (IsAmong lock (granted_in_order held (still ++ l ∷ []) ls).granted → IsAmong lock (granted_in_order held (still ++ l ∷ []) ls).held) →
      (IsAmong lock (granted_in_order (held ++ l ∷ []) still ls).granted → IsAmong lock (granted_in_order (held ++ l ∷ []) still ls).held) →
      IsAmong lock (if b then granted_in_order held (still ++ l ∷ []) ls else (let q = granted_in_order (held ++ l ∷ []) still ls in record q { granted = l ∷ q.granted })).granted →
      IsAmong lock (if b then granted_in_order held (still ++ l ∷ []) ls else (let q = granted_in_order (held ++ l ∷ []) still ls in record q { granted = l ∷ q.granted })).held
  by_case true waits grants i = waits i
  by_case false waits grants (inl e) = here e
  by_case false waits grants (inr i) = grants i

pub no_rows : (Q : BrickLock → Type 0) (by : Sender) (ask : Ask) (answer : Answer) → lock_granted by ask answer ≡ None → OnLock Q (lock_granted by ask answer)
no_rows Q by ask answer none = subst (OnLock Q) (sym none) tt

pub gone_grants_none : (by : Sender) (ask : Ask) → lock_granted by ask Gone ≡ None
gone_grants_none by (Lock shared cells) = refl
gone_grants_none by other = refl

-- what serving adds to the outputs: each lock that it grants is held then
module _ (Q : BrickLock → Type 0) (b : Brick) (old : EachGranted Q b.outputs) where
  pub served_grants : (power : Power) (by : Sender) (ask : Ask) → ((lock : BrickLock) → IsAmong lock (served_by power by ask b).held → Q lock) → EachGranted Q (served_by power by ask b).outputs
  served_grants (IsDown late were) by ask all = granted_append Q b.outputs (Answered by ask Gone ∷ []) old (no_rows Q by ask Gone (gone_grants_none by ask), tt)
  served_grants IsUp by (Lock shared cells) all = by_case (conflicts_among (b.held ++ b.waiting) (record { by = by; shared = shared; cells = cells })) all where
    by_case : (c : Bool) → ((lock : BrickLock) → IsAmong lock (if c then record b { waiting = b.waiting ++ record { by = by; shared = shared; cells = cells } ∷ [] } else record b { held = b.held ++ record { by = by; shared = shared; cells = cells } ∷ []; outputs = b.outputs ++ grants_of b.store (record { by = by; shared = shared; cells = cells } ∷ []) }).held → Q lock) →
        EachGranted Q (if c then record b { waiting = b.waiting ++ record { by = by; shared = shared; cells = cells } ∷ [] } else record b { held = b.held ++ record { by = by; shared = shared; cells = cells } ∷ []; outputs = b.outputs ++ grants_of b.store (record { by = by; shared = shared; cells = cells } ∷ []) }).outputs
    by_case true all = old
    by_case false all = granted_append Q b.outputs (grants_of b.store (record { by = by; shared = shared; cells = cells } ∷ [])) old (all (record { by = by; shared = shared; cells = cells }) (among_last (record { by = by; shared = shared; cells = cells }) b.held), tt)
  served_grants IsUp by Unlock all =
      let q = granted_in_order (those (λ l. not (is_of_txn by.txn l)) b.held) [] b.waiting in
      granted_append Q b.outputs (Answered by Unlock Done ∷ grants_of b.store q.granted) old (tt, grants_all Q b.store q.granted (λ lock i. all lock (granted_held lock (those (λ l. not (is_of_txn by.txn l)) b.held) [] b.waiting i)))
  served_grants IsUp by other all = granted_append Q b.outputs (Answered by other (answer_of other b.store) ∷ []) old (tt, tt)

  graph_grants : (g : ℕ) → ((lock : BrickLock) → IsAmong lock (without_graph g b).held → Q lock) → EachGranted Q (without_graph g b).outputs
  graph_grants g all =
      let stay = those (λ l. not (is_of_graph g l)) b.waiting in
      let q = granted_in_order (those (λ l. not (is_of_graph g l)) b.held) [] stay in
      granted_append Q b.outputs (gones_of (those (is_of_graph g) b.waiting) ++ grants_of b.store q.granted) old
      (granted_append Q (gones_of (those (is_of_graph g) b.waiting)) (grants_of b.store q.granted) (gones_all Q (those (is_of_graph g) b.waiting)) (grants_all Q b.store q.granted (λ lock i. all lock (granted_held lock (those (λ l. not (is_of_graph g l)) b.held) [] stay i))))

  pub steered_grants : (control : Control) → ((lock : BrickLock) → IsAmong lock (steered control b).held → Q lock) → EachGranted Q (steered control b).outputs
  steered_grants (Control.Down late) all = granted_append Q b.outputs (Closed ∷ gones_of b.waiting) old (gones_all Q b.waiting)
  steered_grants Control.Up all = granted_append Q b.outputs (Opened ∷ []) old tt
  steered_grants (Control.Connect g) all = by_case (is_up b.power) all where
    by_case : (u : Bool) → ((lock : BrickLock) → IsAmong lock (if u then (let c = without_graph g b in record c { connected = with_at c.connected g true; outputs = c.outputs ++ Connected g ∷ [] }) else b).held → Q lock) →
        EachGranted Q (if u then (let c = without_graph g b in record c { connected = with_at c.connected g true; outputs = c.outputs ++ Connected g ∷ [] }) else b).outputs
    by_case true all = granted_append Q (without_graph g b).outputs (Connected g ∷ []) (graph_grants g all) tt
    by_case false all = old
  steered_grants (Control.Disconnect g) all = graph_grants g all
