-- Two locks of one list that are apart; and granted locks, while no Closed is on its way: the brick holds both.
use Rattle.std.proofs.Common.{◌≡◌, ◌∙◌, ℕ, Bool, true, false, refl, sym, ap, subst, ◌⊎◌, inl, inr}
use Rattle.std.specs.Prelude.{List, [], ◌∷◌, ◌++◌, ◌≢◌}
use Rattle.afr_machine.specs.Requests.{Output}
use Rattle.afr_machine.specs.Requests.Output.{Answered, Closed, Opened, Connected}
use Rattle.afr_machine.specs.Locks.{BrickLock, conflict, conflicts_among}
use Rattle.afr_machine.specs.States.{State, is_current}
use Rattle.afr_laws.specs.Locks.{AreApartFrom, HeldApart}
use Rattle.afr_laws.specs.Grants.{IsAmong, has_closed, IsHeldBy, OnLock, EachGranted, GrantsAreHeld}
use Rattle.afr_laws.specs.Apart.{IsGranting, IsGranted}
use Rattle.afr_laws.specs.Apart.IsGranted.{HandedIn, OnItsWay}
use Rattle.afr_laws.proofs.Bools.{neither_left, neither_right}
use Rattle.afr_laws.proofs.Sharing.{conflict_sym}

-- ---- two locks of one list

among_before : (a : BrickLock) (xs ys : List BrickLock) → IsAmong a xs → IsAmong a (xs ++ ys)
among_before a [] ys h = absurd h
among_before a (x ∷ xs) ys (inl h) = inl h
among_before a (x ∷ xs) ys (inr h) = inr (among_before a xs ys h)

among_end : (a : BrickLock) (xs : List BrickLock) → IsAmong a (xs ++ a ∷ [])
among_end a [] = inl refl
among_end a (x ∷ xs) = inr (among_end a xs)

member_apart : (a b : BrickLock) (before : List BrickLock) → conflicts_among before b ≡ false → IsAmong a before → conflict a b ≡ false
member_apart a b [] none h = absurd h
member_apart a b (x ∷ xs) none (inl h) = ap (λ l. conflict l b) h ∙ neither_left (conflict x b) (conflicts_among xs b) none
member_apart a b (x ∷ xs) none (inr h) = member_apart a b xs (neither_right (conflict x b) (conflicts_among xs b) none) h

earlier_apart : (a b : BrickLock) (before ls : List BrickLock) → AreApartFrom before ls → IsAmong a before → IsAmong b ls → conflict a b ≡ false
earlier_apart a b before [] apart earlier h = absurd h
earlier_apart a b before (l ∷ ls) apart earlier (inl h) = member_apart a b before (subst (λ x. conflicts_among before x ≡ false) (sym h) apart.0) earlier
earlier_apart a b before (l ∷ ls) apart earlier (inr h) = earlier_apart a b (before ++ l ∷ []) ls apart.1 (among_before a before (l ∷ []) earlier) h

pub two_apart : (a b : BrickLock) (before ls : List BrickLock) → AreApartFrom before ls → IsAmong a ls → IsAmong b ls → (a ≡ b → ⊥) → conflict a b ≡ false
two_apart a b before [] apart h i differ = absurd h
two_apart a b before (l ∷ ls) apart (inl h) (inl i) differ = absurd (differ (h ∙ sym i))
two_apart a b before (l ∷ ls) apart (inl h) (inr i) differ = earlier_apart a b (before ++ l ∷ []) ls apart.1 (subst (λ x. IsAmong a (before ++ x ∷ [])) h (among_end a before)) i
two_apart a b before (l ∷ ls) apart (inr h) (inl i) differ = conflict_sym a b ∙ earlier_apart b a (before ++ l ∷ []) ls apart.1 (subst (λ x. IsAmong b (before ++ x ∷ [])) i (among_end b before)) h
two_apart a b before (l ∷ ls) apart (inr h) (inr i) differ = two_apart a b (before ++ l ∷ []) ls apart.1 h i differ

-- ---- two granted locks, while no Closed is on its way

pub granting_each : (P : BrickLock → Type 0) (lock : BrickLock) (os : List Output) → EachGranted P os → IsGranting lock os → P lock
granting_each P lock [] p h = absurd h
granting_each P lock (Answered by ask answer ∷ os) p (inl is) = subst (OnLock P) is p.0
granting_each P lock (Answered by ask answer ∷ os) p (inr h) = granting_each P lock os p.1 h
granting_each P lock (Closed ∷ os) p h = absurd h
granting_each P lock (Opened ∷ os) p h = granting_each P lock os p h
granting_each P lock (Connected graph ∷ os) p h = granting_each P lock os p h

held_now : (outputs_closed : Bool) {A : Type 0} → outputs_closed ≡ false → A ⊎ (outputs_closed ≡ true) → A
held_now c none (inl a) = a
held_now c none (inr closing) = absurd (let never : true ≡ false = sym closing ∙ none in cc)

module _ (m : State) (g : GrantsAreHeld m) (apart : HeldApart m) (k : ℕ) (none : has_closed (m.bricks k).outputs ≡ false) where
  -- the brick holds what it granted
  pub granted_held : (lock : BrickLock) → IsGranted m k lock → IsAmong lock (m.bricks k).held
  granted_held lock (HandedIn t grant h is) = subst (λ l. IsAmong l (m.bricks k).held) (sym is) (held_now (has_closed (m.bricks k).outputs) none ((g.handed t k grant h.granted).held h.still_open h.holding))
  granted_held lock (OnItsWay h current) =
      held_now (has_closed (m.bricks k).outputs) none
      (granting_each (λ l. is_current (m.links k l.by.graph) l.by.connection ≡ true → IsHeldBy (m.bricks k) l) lock (m.bricks k).outputs (g.coming k) h current)

  pub held_pair : (a b : BrickLock) → a.by.txn ≢ b.by.txn → IsGranted m k a → IsGranted m k b → conflict a b ≡ false
  held_pair a b differ x y = two_apart a b [] (m.bricks k).held (apart k) (granted_held a x) (granted_held b y) (λ e. differ (ap (λ (l : BrickLock). l.by.txn) e))
