-- No two held locks of a brick conflict.
use Rattle.std.proofs.Common.{◌≡◌, ◌∙◌, Bool, true, false, refl, sym, subst, append_assoc}
use Rattle.std.specs.Prelude.{if◌then◌else◌, List, [], ◌∷◌, ◌++◌, ◌||◌, not}
use Rattle.std.proofs.lemmas.List.{append-nil}
use Rattle.afr_machine.specs.Replicas.{Size, with_at}
use Rattle.afr_machine.specs.Requests.{Sender, Ask, Control, Input}
use Rattle.afr_machine.specs.Requests.Ask.{Lock, Unlock}
use Rattle.afr_machine.specs.Requests.Output.{Connected}
use Rattle.afr_machine.specs.Locks.{BrickLock, conflict, conflicts_among, those, is_of_txn, is_of_graph, granted_in_order}
use Rattle.afr_machine.specs.Bricks.{Power, Brick, grants_of, locked, without_graph, served_up, served_by, is_up, steered}
use Rattle.afr_machine.specs.Bricks.Power.{IsUp, IsDown}
use Rattle.afr_machine.specs.States.{State}
use Rattle.afr_machine.specs.Steps.{after, IsReached}
use Rattle.afr_machine.specs.Moves.{IsTaken, BrickMove}
use Rattle.afr_machine.specs.Moves.BrickMove.{Stays, Takes, Hands, Serves, Refuses, GivesUp, Steers}
use Rattle.afr_machine.proofs.BrickMoves.{bricks_move}
use Rattle.afr_laws.specs.Locks.{AreApartFrom, HeldApart}
use Rattle.afr_laws.proofs.Bools.{neither_left, neither_right, neither}

pub conflicts_append : (xs ys : List BrickLock) (l : BrickLock) → conflicts_among (xs ++ ys) l ≡ (conflicts_among xs l || conflicts_among ys l)
conflicts_append [] ys l = refl
conflicts_append (x ∷ xs) ys l = by_case (conflict x l) (conflicts_append xs ys l) where
  by_case : (b : Bool) → conflicts_among (xs ++ ys) l ≡ (conflicts_among xs l || conflicts_among ys l) → (b || conflicts_among (xs ++ ys) l) ≡ ((b || conflicts_among xs l) || conflicts_among ys l)
  by_case true e = refl
  by_case false e = e

-- one more that conflicts with none
apart_push : (before held : List BrickLock) (l : BrickLock) → AreApartFrom before held → conflicts_among (before ++ held) l ≡ false → AreApartFrom before (held ++ l ∷ [])
apart_push before [] l apart none = (subst (λ z. conflicts_among z l ≡ false) (append-nil before) none, tt)
apart_push before (h ∷ hs) l apart none = (apart.0, apart_push (before ++ h ∷ []) hs l apart.1 (subst (λ z. conflicts_among z l ≡ false) (sym (append_assoc before (h ∷ []) hs)) none))

-- fewer locks
apart_those : (passes : BrickLock → Bool) (before fewer held : List BrickLock) → ((l : BrickLock) → conflicts_among before l ≡ false → conflicts_among fewer l ≡ false) → AreApartFrom before held → AreApartFrom fewer (those passes held)
apart_those passes before fewer [] sub apart = tt
apart_those passes before fewer (h ∷ hs) sub apart = by_case (passes h) (apart_those passes (before ++ h ∷ []) (fewer ++ h ∷ []) hs kept apart.1) (apart_those passes (before ++ h ∷ []) fewer hs dropped apart.1) where
  parts : (l : BrickLock) → conflicts_among (before ++ h ∷ []) l ≡ false → (conflicts_among before l || conflicts_among (h ∷ []) l) ≡ false
  parts l e = sym (conflicts_append before (h ∷ []) l) ∙ e

  kept : (l : BrickLock) → conflicts_among (before ++ h ∷ []) l ≡ false → conflicts_among (fewer ++ h ∷ []) l ≡ false
  kept l e =
      let a = neither_left (conflicts_among before l) (conflicts_among (h ∷ []) l) (parts l e) in
      let b = neither_right (conflicts_among before l) (conflicts_among (h ∷ []) l) (parts l e) in
      conflicts_append fewer (h ∷ []) l ∙ neither (conflicts_among fewer l) (conflicts_among (h ∷ []) l) (sub l a) b

  dropped : (l : BrickLock) → conflicts_among (before ++ h ∷ []) l ≡ false → conflicts_among fewer l ≡ false
  dropped l e = sub l (neither_left (conflicts_among before l) (conflicts_among (h ∷ []) l) (parts l e))

  by_case : (b : Bool) → AreApartFrom (fewer ++ h ∷ []) (those passes hs) → AreApartFrom fewer (those passes hs) → AreApartFrom fewer (if b then h ∷ those passes hs else those passes hs)
  by_case true keeps drops = (sub h apart.0, keeps)
  by_case false keeps drops = drops

apart_queue : (held still ws : List BrickLock) → AreApartFrom [] held → AreApartFrom [] (granted_in_order held still ws).held
apart_queue held still [] apart = apart
apart_queue held still (l ∷ ls) apart =
    by_case (conflicts_among (held ++ still) l) refl (apart_queue held (still ++ l ∷ []) ls apart)
    (λ free. apart_queue (held ++ l ∷ []) still ls (apart_push [] held l apart (neither_left _ _ (sym (conflicts_append held still l) ∙ free))))
  where
    by_case : (b : Bool) → conflicts_among (held ++ still) l ≡ b → AreApartFrom [] (granted_in_order held (still ++ l ∷ []) ls).held →
        (conflicts_among (held ++ still) l ≡ false → AreApartFrom [] (granted_in_order (held ++ l ∷ []) still ls).held) →
        AreApartFrom [] (if b then granted_in_order held (still ++ l ∷ []) ls else (let q = granted_in_order (held ++ l ∷ []) still ls in record q { granted = l ∷ q.granted })).held
    by_case true e waits grants = waits
    by_case false e waits grants = grants e

-- ---- moves

module _ (b : Brick) (apart : AreApartFrom [] b.held) where
  locked_apart : (lock : BrickLock) → AreApartFrom [] (locked lock b).held
  locked_apart lock = by_case (conflicts_among (b.held ++ b.waiting) lock) refl where
    by_case : (c : Bool) → conflicts_among (b.held ++ b.waiting) lock ≡ c →
        AreApartFrom [] (if c then record b { waiting = b.waiting ++ lock ∷ [] } else record b { held = b.held ++ lock ∷ []; outputs = b.outputs ++ grants_of b.store (lock ∷ []) }).held
    by_case true e = apart
    by_case false e = apart_push [] b.held lock apart (neither_left _ _ (sym (conflicts_append b.held b.waiting lock) ∙ e))

  fewer_apart : (passes : BrickLock → Bool) (ws : List BrickLock) → AreApartFrom [] (granted_in_order (those passes b.held) [] ws).held
  fewer_apart passes ws = apart_queue (those passes b.held) [] ws (apart_those passes [] [] b.held (λ l e. e) apart)

  served_up_apart : (by : Sender) (ask : Ask) → AreApartFrom [] (served_up by ask b).held
  served_up_apart by (Lock shared cells) = locked_apart (record { by = by; shared = shared; cells = cells })
  served_up_apart by Unlock = fewer_apart (λ l. not (is_of_txn by.txn l)) b.waiting
  served_up_apart by other = apart

  served_apart : (power : Power) (by : Sender) (ask : Ask) → AreApartFrom [] (served_by power by ask b).held
  served_apart IsUp by ask = served_up_apart by ask
  served_apart (IsDown late were) by ask = apart

  steered_apart : (control : Control) → AreApartFrom [] (steered control b).held
  steered_apart (Control.Down late) = tt
  steered_apart Control.Up = apart
  steered_apart (Control.Connect g) = by_case (is_up b.power) where
    by_case : (u : Bool) → AreApartFrom [] (if u then (let c = without_graph g b in record c { connected = with_at c.connected g true; outputs = c.outputs ++ Connected g ∷ [] }) else b).held
    by_case true = fewer_apart (λ l. not (is_of_graph g l)) (those (λ l. not (is_of_graph g l)) b.waiting)
    by_case false = apart
  steered_apart (Control.Disconnect g) = fewer_apart (λ l. not (is_of_graph g l)) (those (λ l. not (is_of_graph g l)) b.waiting)

move_apart : (may : List Input → Type 0) (old new : Brick) → BrickMove may old new → AreApartFrom [] old.held → AreApartFrom [] new.held
move_apart may old new (Stays is) apart = subst (λ (b : Brick). AreApartFrom [] b.held) (sym is) apart
move_apart may old new (Takes inputs its is) apart = subst (λ (b : Brick). AreApartFrom [] b.held) (sym is) apart
move_apart may old new (Hands first rest front is) apart = subst (λ (b : Brick). AreApartFrom [] b.held) (sym is) apart
move_apart may old new (Serves by ask rest front served is) apart = subst (λ (b : Brick). AreApartFrom [] b.held) (sym is) (served_apart (record old { line = rest }) apart old.power by ask)
move_apart may old new (Refuses by ask answer rest front refusable refusal is) apart = subst (λ (b : Brick). AreApartFrom [] b.held) (sym is) apart
move_apart may old new (GivesUp by ask rest front served is) apart = subst (λ (b : Brick). AreApartFrom [] b.held) (sym is) apart
move_apart may old new (Steers control rest front is) apart = subst (λ (b : Brick). AreApartFrom [] b.held) (sym is) (steered_apart (record old { line = rest }) apart control)

pub held_apart : (size : Size) (m : State) → IsReached size m → HeldApart m
held_apart size m IsReached.Start k = tt
held_apart size m (IsReached.Further old step reached allowed) k = move_apart (IsTaken old step k) (old.bricks k) ((after size old step).bricks k) (bricks_move size old step allowed k) (held_apart size old reached k)
