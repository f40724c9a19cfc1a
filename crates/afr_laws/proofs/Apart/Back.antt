-- A step after which a Closed is on its way grants nothing anew: what is granted then was granted before.
use Rattle.std.proofs.Common.{◌≡◌, ◌∙◌, ℕ, ◌≤◌, Bool, true, false, refl, sym, ap, subst, ◌⊎◌, inl, inr, Option, Some, None}
use Rattle.std.specs.Prelude.{List, [], ◌∷◌}
use Rattle.fop_types.specs.declared.contents.Row.{Row}
use Rattle.fop_types.specs.declared.cells.Cell.{Cell}
use Rattle.afr_machine.specs.Replicas.{with_at}
use Rattle.afr_machine.specs.Requests.{Sender, Ask, Answer, Output}
use Rattle.afr_machine.specs.Requests.Ask.{Lock}
use Rattle.afr_machine.specs.Requests.Answer.{Rows}
use Rattle.afr_machine.specs.Requests.Output.{Answered}
use Rattle.afr_machine.specs.Locks.{BrickLock, conflict}
use Rattle.afr_machine.specs.Transactions.{Grant, Txn}
use Rattle.afr_machine.specs.States.{State, is_current}
use Rattle.afr_machine.specs.Answering.{landed, at_rest}
use Rattle.afr_laws.specs.Senders.{EachOutput}
use Rattle.afr_laws.specs.Numbered.{IsNumbered, AreNumbered}
use Rattle.afr_laws.specs.Locks.{HeldApart}
use Rattle.afr_laws.specs.Grants.{has_closed, lock_of, lock_granted, is_unlocking, GrantsAreHeld}
use Rattle.afr_laws.specs.Apart.{IsGranting, Holds, IsGranted, GrantsApart}
use Rattle.afr_laws.specs.Apart.IsGranted.{HandedIn, OnItsWay}
use Rattle.afr_laws.proofs.Bools.{is_or_not}
use Rattle.afr_laws.proofs.Carry.{at_case}
use Rattle.afr_laws.proofs.GrantTurns.{GrantsTurn, goes_unlocks}
use Rattle.afr_laws.proofs.GrantTurns.GrantsTurn.{KeepsGrants, NoGrants}
use Rattle.afr_laws.proofs.Heard.{Heard}
use Rattle.afr_laws.proofs.Heard.Heard.{Took, Passed, OpenDone, OpenMissed}
use Rattle.afr_laws.proofs.Stages.{StageGoes, hearing_stage, GrantsGo, hearing_grants}
use Rattle.afr_laws.proofs.Stages.GrantsGo.{SameGrants, Granted, Released}
use Rattle.afr_laws.proofs.Holding.{GrantedIn}
use Rattle.afr_laws.proofs.Unlocks.{granted_sender}
use Rattle.afr_laws.proofs.Apart.Pairs.{held_pair}

pub record GrantsBack (m new : State) : Type 0 where
  pub handed : (t k : ℕ) (grant : Grant) → Holds new t k grant → IsGranted m k (lock_of t (new.txns t).graph grant)
  pub coming : (k : ℕ) (lock : BrickLock) → has_closed (new.bricks k).outputs ≡ true → IsGranting lock (new.bricks k).outputs → is_current (new.links k lock.by.graph) lock.by.connection ≡ true → IsGranted m k lock

pub back_apart : (m new : State) → GrantsBack m new → GrantsAreHeld new → HeldApart new → GrantsApart m → GrantsApart new
back_apart m new back held apart old k a b differ x y = by_case (is_or_not (has_closed (new.bricks k).outputs)) where
  before : (lock : BrickLock) → has_closed (new.bricks k).outputs ≡ true → IsGranted new k lock → IsGranted m k lock
  before lock closing (HandedIn t grant h is) = subst (IsGranted m k) (sym is) (back.handed t k grant h)
  before lock closing (OnItsWay h current) = back.coming k lock closing h current

  by_case : (has_closed (new.bricks k).outputs ≡ true) ⊎ (has_closed (new.bricks k).outputs ≡ false) → conflict a b ≡ false
  by_case (inl closing) = old k a b differ (before a closing x) (before b closing y)
  by_case (inr none) = held_pair new held apart k none a b differ x y

-- ---- what was granted is numbered

pub granting_in : (lock : BrickLock) (os : List Output) → IsGranting lock os → GrantedIn lock os
granting_in lock [] h = absurd h
granting_in lock (Answered by ask answer ∷ os) (inl is) = inl is
granting_in lock (Answered by ask answer ∷ os) (inr h) = inr (granting_in lock os h)
granting_in lock (Output.Closed ∷ os) h = absurd h
granting_in lock (Output.Opened ∷ os) h = granting_in lock os h
granting_in lock (Output.Connected graph ∷ os) h = granting_in lock os h

-- connections that are open now, of those that were opened, were open before
abbrev pub LinksBack : State → State → Type 0
LinksBack m new = (k g c : ℕ) → c ≤ (m.links k g).last → is_current (new.links k g) c ≡ true → is_current (m.links k g) c ≡ true

module _ (m new : State) (numbered : AreNumbered m) (g : GrantsAreHeld m) (links : LinksBack m new) where
  -- on its way before, and still
  pub came : (k : ℕ) (lock : BrickLock) → IsGranting lock (m.bricks k).outputs → is_current (new.links k lock.by.graph) lock.by.connection ≡ true → IsGranted m k lock
  came k lock h current =
      let n = (granted_sender (IsNumbered m k) lock (m.bricks k).outputs (numbered k).outputs (granting_in lock (m.bricks k).outputs h)).1 in
      OnItsWay h (links k lock.by.graph lock.by.connection n.connection current)

  -- a grant that its transaction keeps
  pub kept : (t k : ℕ) (grant : Grant) → (new.txns t).graph ≡ (m.txns t).graph → (m.txns t).grants k ≡ Some grant → is_unlocking (m.txns t).stage ≡ false → Holds new t k grant → IsGranted m k (lock_of t (new.txns t).graph grant)
  kept t k grant graph is ul h =
      let cur : is_current (new.links k (m.txns t).graph) grant.connection ≡ true = subst (λ n. is_current (new.links k n) grant.connection ≡ true) graph h.still_open in
      subst (λ n. IsGranted m k (lock_of t n grant)) (sym graph)
      (HandedIn t grant (record { granted = is; still_open = links k (m.txns t).graph grant.connection (g.handed t k grant is).numbered cur; holding = ul }) refl)

  pub turned_back : (t k : ℕ) (grant : Grant) → (new.txns t).graph ≡ (m.txns t).graph → GrantsTurn (m.txns t) (new.txns t) → Holds new t k grant → IsGranted m k (lock_of t (new.txns t).graph grant)
  turned_back t k grant graph (KeepsGrants same ul less) h = kept t k grant graph (sym (ap (λ (f : ℕ → Option Grant). f k) same) ∙ h.granted) (ul h.holding) h
  turned_back t k grant graph (NoGrants empty) h = absurd (let no : None ≡ Some grant = sym (empty k) ∙ h.granted in cc)

  pub emptied_back : (t k : ℕ) (grant : Grant) → ((j : ℕ) → (new.txns t).grants j ≡ None) → Holds new t k grant → IsGranted m k (lock_of t (new.txns t).graph grant)
  emptied_back t k grant empty h = absurd (let no : None ≡ Some grant = sym (empty k) ∙ h.granted in cc)

  -- ---- the transaction that a reply is handed in to

  module _ (k : ℕ) (by : Sender) (ask : Ask) (answer : Answer) (rest : List Output) (front : (m.bricks k).outputs ≡ Answered by ask answer ∷ rest) (connected : is_current (m.links k by.graph) by.connection ≡ true)
      (graph : (new.txns by.txn).graph ≡ (m.txns by.txn).graph) where
    own : by.graph ≡ (m.txns by.txn).graph
    own = (subst (EachOutput (IsNumbered m k)) front (numbered k).outputs).0.graph

    fresh : (shared : Bool) (cells : List Cell) (rows : Cell → Row) → ask ≡ Lock shared cells → answer ≡ Rows rows → IsGranted m k (lock_of by.txn (new.txns by.txn).graph (record { connection = by.connection; shared = shared; cells = cells; rows = rows }))
    fresh shared cells rows is_lock is_rows =
        let granted : lock_granted by ask answer ≡ Some (record { by = by; shared = shared; cells = cells }) = ap (λ a. lock_granted by a answer) is_lock ∙ ap (lock_granted by (Lock shared cells)) is_rows in
        let way : IsGranted m k (record { by = by; shared = shared; cells = cells }) = OnItsWay (subst (IsGranting (record { by = by; shared = shared; cells = cells })) (sym front) (inl granted)) connected in
        subst (λ n. IsGranted m k (lock_of by.txn n (record { connection = by.connection; shared = shared; cells = cells; rows = rows }))) (own ∙ sym graph) way

    granted_back : (shared : Bool) (cells : List Cell) (rows : Cell → Row) → ask ≡ Lock shared cells → answer ≡ Rows rows → (new.txns by.txn).grants ≡ with_at (m.txns by.txn).grants k (Some (record { connection = by.connection; shared = shared; cells = cells; rows = rows })) →
        (is_unlocking (new.txns by.txn).stage ≡ false → is_unlocking (m.txns by.txn).stage ≡ false) → (j : ℕ) (grant : Grant) → Holds new by.txn j grant → IsGranted m j (lock_of by.txn (new.txns by.txn).graph grant)
    granted_back shared cells rows is_lock is_rows grants ul j grant h =
        at_case (λ n (o : Option Grant). (gr : Grant) → o ≡ Some gr → Holds new by.txn n gr → IsGranted m n (lock_of by.txn (new.txns by.txn).graph gr)) (m.txns by.txn).grants k (Some (record { connection = by.connection; shared = shared; cells = cells; rows = rows }))
        (λ gr e hold. subst (λ (z : Grant). IsGranted m k (lock_of by.txn (new.txns by.txn).graph z)) (same gr e) (fresh shared cells rows is_lock is_rows)) j
        (λ ne gr e hold. kept by.txn j gr graph e (ul hold.holding) hold) grant (sym (ap (λ (f : ℕ → Option Grant). f j) grants) ∙ h.granted) h
      where
        g0 : Grant
        g0 = record { connection = by.connection; shared = shared; cells = cells; rows = rows }

        same : (gr : Grant) → Some (record { connection = by.connection; shared = shared; cells = cells; rows = rows }) ≡ Some gr → g0 ≡ gr
        same gr e = cc

    released_back : (new.txns by.txn).grants ≡ with_at (m.txns by.txn).grants k None → (is_unlocking (new.txns by.txn).stage ≡ false → is_unlocking (m.txns by.txn).stage ≡ false) → (j : ℕ) (grant : Grant) → Holds new by.txn j grant → IsGranted m j (lock_of by.txn (new.txns by.txn).graph grant)
    released_back grants ul j grant h =
        at_case (λ n (o : Option Grant). (gr : Grant) → o ≡ Some gr → Holds new by.txn n gr → IsGranted m n (lock_of by.txn (new.txns by.txn).graph gr)) (m.txns by.txn).grants k None (λ gr e hold. absurd cc) j
        (λ ne gr e hold. kept by.txn j gr graph e (ul hold.holding) hold) grant (sym (ap (λ (f : ℕ → Option Grant). f j) grants) ∙ h.granted) h

    goes_back : GrantsGo (at_rest (m.txns by.txn) k) (new.txns by.txn) k by.connection ask answer → StageGoes (m.txns by.txn).stage (new.txns by.txn).stage → (j : ℕ) (grant : Grant) → Holds new by.txn j grant → IsGranted m j (lock_of by.txn (new.txns by.txn).graph grant)
    goes_back (SameGrants same) goes j grant h = kept by.txn j grant graph (sym (ap (λ (f : ℕ → Option Grant). f j) same) ∙ h.granted) (goes_unlocks _ _ goes h.holding) h
    goes_back (Granted shared cells rows is_lock is_rows grants stage) goes j grant h = granted_back shared cells rows is_lock is_rows grants (goes_unlocks _ _ goes) j grant h
    goes_back (Released is grants) goes j grant h = released_back grants (goes_unlocks _ _ goes) j grant h

    as_before : (z : Txn) → new.txns by.txn ≡ z → z.grants ≡ (m.txns by.txn).grants → z.stage ≡ (m.txns by.txn).stage → (j : ℕ) (grant : Grant) → Holds new by.txn j grant → IsGranted m j (lock_of by.txn (new.txns by.txn).graph grant)
    as_before z is grants stage j grant h =
        kept by.txn j grant graph (sym (ap (λ (w : Txn). w.grants j) is ∙ ap (λ (f : ℕ → Option Grant). f j) grants) ∙ h.granted) (sym (ap (λ (w : Txn). is_unlocking w.stage) is ∙ ap is_unlocking stage) ∙ h.holding) h

    pub heard_back : Heard (m.txns by.txn) (new.txns by.txn) k by.connection ask answer → (j : ℕ) (grant : Grant) → Holds new by.txn j grant → IsGranted m j (lock_of by.txn (new.txns by.txn).graph grant)
    heard_back (Took plain waits same is) =
        goes_back (subst (λ (z : Txn). GrantsGo (at_rest (m.txns by.txn) k) z k by.connection ask answer) (sym is) (hearing_grants (at_rest (m.txns by.txn) k) k by.connection ask answer))
        (subst (λ (z : Txn). StageGoes (m.txns by.txn).stage z.stage) (sym is) (hearing_stage (at_rest (m.txns by.txn) k) k by.connection ask answer))
    heard_back (Passed plain passes is) = as_before (landed (m.txns by.txn) k) is refl refl
    heard_back (OpenDone opens is) = as_before (landed (m.txns by.txn) k) is refl refl
    heard_back (OpenMissed opens is) = as_before (record (landed (m.txns by.txn) k) { waits = with_at (m.txns by.txn).waits k false; out = with_at (m.txns by.txn).out k true }) is refl refl
