-- Requests on their way, in lists: appended, granted in order, dropped.
use Rattle.std.proofs.Common.{◌≡◌, ◌∙◌, ◌≤◌, Bool, true, false, refl, sym, ap, subst, ◌⊎◌, inl, inr, append_assoc, arith, length}
use Rattle.std.specs.Prelude.{if◌then◌else◌, List, [], ◌∷◌, ◌++◌, not}
use Rattle.std.proofs.lemmas.List.{length-append, append-nil}
use Rattle.afr_machine.specs.Copies.{Store}
use Rattle.afr_machine.specs.Requests.{Sender, Ask, Input, Output}
use Rattle.afr_machine.specs.Requests.Input.{Asked, Steered}
use Rattle.afr_machine.specs.Requests.Output.{Answered, Closed, Opened, Connected}
use Rattle.afr_machine.specs.Locks.{BrickLock, conflicts_among, those, granted_in_order}
use Rattle.afr_machine.specs.Bricks.{ask_of, grants_of, gones_of}
use Rattle.afr_laws.specs.Flights.{in_locks, in_line, in_outputs, any_lock}

module _ (mine : Sender → Bool) where
  pub locks_append : (xs ys : List BrickLock) → in_locks mine (xs ++ ys) ≡ in_locks mine xs ++ in_locks mine ys
  locks_append [] ys = refl
  locks_append (x ∷ xs) ys = by_case (mine x.by) (locks_append xs ys) where
    by_case : (b : Bool) → in_locks mine (xs ++ ys) ≡ in_locks mine xs ++ in_locks mine ys →
        (if b then ask_of x ∷ in_locks mine (xs ++ ys) else in_locks mine (xs ++ ys)) ≡ (if b then ask_of x ∷ in_locks mine xs else in_locks mine xs) ++ in_locks mine ys
    by_case true e = ap (λ l. ask_of x ∷ l) e
    by_case false e = e

  pub line_append : (xs ys : List Input) → in_line mine (xs ++ ys) ≡ in_line mine xs ++ in_line mine ys
  line_append [] ys = refl
  line_append (Steered control ∷ xs) ys = line_append xs ys
  line_append (Asked by ask ∷ xs) ys = by_case (mine by) (line_append xs ys) where
    by_case : (b : Bool) → in_line mine (xs ++ ys) ≡ in_line mine xs ++ in_line mine ys →
        (if b then ask ∷ in_line mine (xs ++ ys) else in_line mine (xs ++ ys)) ≡ (if b then ask ∷ in_line mine xs else in_line mine xs) ++ in_line mine ys
    by_case true e = ap (λ l. ask ∷ l) e
    by_case false e = e

  pub outputs_append : (xs ys : List Output) → in_outputs mine (xs ++ ys) ≡ in_outputs mine xs ++ in_outputs mine ys
  outputs_append [] ys = refl
  outputs_append (Closed ∷ xs) ys = outputs_append xs ys
  outputs_append (Opened ∷ xs) ys = outputs_append xs ys
  outputs_append (Connected graph ∷ xs) ys = outputs_append xs ys
  outputs_append (Answered by ask answer ∷ xs) ys = by_case (mine by) (outputs_append xs ys) where
    by_case : (b : Bool) → in_outputs mine (xs ++ ys) ≡ in_outputs mine xs ++ in_outputs mine ys →
        (if b then ask ∷ in_outputs mine (xs ++ ys) else in_outputs mine (xs ++ ys)) ≡ (if b then ask ∷ in_outputs mine xs else in_outputs mine xs) ++ in_outputs mine ys
    by_case true e = ap (λ l. ask ∷ l) e
    by_case false e = e

  pub grants_fly : (store : Store) (xs : List BrickLock) → in_outputs mine (grants_of store xs) ≡ in_locks mine xs
  grants_fly store [] = refl
  grants_fly store (x ∷ xs) = by_case (mine x.by) (grants_fly store xs) where
    by_case : (b : Bool) → in_outputs mine (grants_of store xs) ≡ in_locks mine xs → (if b then ask_of x ∷ in_outputs mine (grants_of store xs) else in_outputs mine (grants_of store xs)) ≡ (if b then ask_of x ∷ in_locks mine xs else in_locks mine xs)
    by_case true e = ap (λ l. ask_of x ∷ l) e
    by_case false e = e

  pub gones_fly : (xs : List BrickLock) → in_outputs mine (gones_of xs) ≡ in_locks mine xs
  gones_fly [] = refl
  gones_fly (x ∷ xs) = by_case (mine x.by) (gones_fly xs) where
    by_case : (b : Bool) → in_outputs mine (gones_of xs) ≡ in_locks mine xs → (if b then ask_of x ∷ in_outputs mine (gones_of xs) else in_outputs mine (gones_of xs)) ≡ (if b then ask_of x ∷ in_locks mine xs else in_locks mine xs)
    by_case true e = ap (λ l. ask_of x ∷ l) e
    by_case false e = e

  -- ---- short lists

  nothing_before : (a : Ask) (xs ys : List Ask) → length (xs ++ a ∷ ys) ≤ 1 → xs ≡ []
  nothing_before a [] ys l = refl
  nothing_before a (x ∷ xs) ys l = absurd (omega (arith, length-append xs (a ∷ ys)))

  nothing_after : (a : Ask) (xs : List Ask) → length (a ∷ xs) ≤ 1 → xs ≡ []
  nothing_after a [] l = refl
  nothing_after a (x ∷ xs) l = absurd (omega arith)

  first_nothing : (xs ys : List Ask) → xs ++ ys ≡ [] → xs ≡ []
  first_nothing [] ys e = refl
  first_nothing (x ∷ xs) ys e = absurd cc

  one_lock : (l : BrickLock) (ls : List BrickLock) → in_locks mine (l ∷ ls) ≡ in_locks mine (l ∷ []) ++ in_locks mine ls
  one_lock l ls = locks_append (l ∷ []) ls

  -- a lock more at the front of a list with one at most
  commutes : (xs ys : List Ask) (b : Bool) (a : Ask) → length (xs ++ ((if b then a ∷ [] else []) ++ ys)) ≤ 1 → (if b then a ∷ [] else []) ++ (xs ++ ys) ≡ xs ++ ((if b then a ∷ [] else []) ++ ys)
  commutes xs ys true a l = ap (λ z. a ∷ (z ++ ys)) (nothing_before a xs ys l) ∙ ap (λ z. z ++ (a ∷ ys)) (sym (nothing_before a xs ys l))
  commutes xs ys false a l = refl

  lock_as : (l : BrickLock) → in_locks mine (l ∷ []) ≡ (if mine l.by then ask_of l ∷ [] else [])
  lock_as l = refl

  -- granted in order, those that were granted and those that still wait are the ones that waited
  pub queue_flies : (held still ws : List BrickLock) → length (in_locks mine still ++ in_locks mine ws) ≤ 1 →
      in_locks mine (granted_in_order held still ws).granted ++ in_locks mine (granted_in_order held still ws).waiting ≡ in_locks mine still ++ in_locks mine ws
  queue_flies held still [] short = sym (append-nil (in_locks mine still))
  queue_flies held still (l ∷ ls) short = by_case (conflicts_among (held ++ still) l) (queue_flies held (still ++ l ∷ []) ls waits_short) (queue_flies (held ++ l ∷ []) still ls granted_short) where
    regrouped : in_locks mine (still ++ l ∷ []) ++ in_locks mine ls ≡ in_locks mine still ++ in_locks mine (l ∷ ls)
    regrouped = ap (λ z. z ++ in_locks mine ls) (locks_append still (l ∷ [])) ∙ append_assoc (in_locks mine still) (in_locks mine (l ∷ [])) (in_locks mine ls) ∙ ap (λ z. in_locks mine still ++ z) (sym (one_lock l ls))

    waits_short : length (in_locks mine (still ++ l ∷ []) ++ in_locks mine ls) ≤ 1
    waits_short = rw regrouped short

    short' : length (in_locks mine still ++ (in_locks mine (l ∷ []) ++ in_locks mine ls)) ≤ 1
    short' = subst (λ z. length (in_locks mine still ++ z) ≤ 1) (one_lock l ls) short

    granted_short : length (in_locks mine still ++ in_locks mine ls) ≤ 1
    granted_short = omega (arith, short', length-append (in_locks mine still) (in_locks mine (l ∷ []) ++ in_locks mine ls), length-append (in_locks mine (l ∷ [])) (in_locks mine ls), length-append (in_locks mine still) (in_locks mine ls))

    by_case : (b : Bool) →
        in_locks mine (granted_in_order held (still ++ l ∷ []) ls).granted ++ in_locks mine (granted_in_order held (still ++ l ∷ []) ls).waiting ≡ in_locks mine (still ++ l ∷ []) ++ in_locks mine ls →
        in_locks mine (granted_in_order (held ++ l ∷ []) still ls).granted ++ in_locks mine (granted_in_order (held ++ l ∷ []) still ls).waiting ≡ in_locks mine still ++ in_locks mine ls →
        in_locks mine (if b then granted_in_order held (still ++ l ∷ []) ls else (let q = granted_in_order (held ++ l ∷ []) still ls in record q { granted = l ∷ q.granted })).granted
        ++ in_locks mine (if b then granted_in_order held (still ++ l ∷ []) ls else (let q = granted_in_order (held ++ l ∷ []) still ls in record q { granted = l ∷ q.granted })).waiting
        ≡ in_locks mine still ++ in_locks mine (l ∷ ls)
    by_case true waits granted = waits ∙ regrouped
    by_case false waits granted =
        let g = in_locks mine (granted_in_order (held ++ l ∷ []) still ls).granted in
        let w = in_locks mine (granted_in_order (held ++ l ∷ []) still ls).waiting in
        ap (λ z. z ++ w) (one_lock l (granted_in_order (held ++ l ∷ []) still ls).granted)
        ∙ append_assoc (in_locks mine (l ∷ [])) g w
        ∙ ap (λ z. in_locks mine (l ∷ []) ++ z) granted
        ∙ commutes (in_locks mine still) (in_locks mine ls) (mine l.by) (ask_of l) short'
        ∙ ap (λ z. in_locks mine still ++ z) (sym (one_lock l ls))

  -- those that pass a test and those that do not are all, where there is one at most
  pub split_flies : (passes : BrickLock → Bool) (ws : List BrickLock) → length (in_locks mine ws) ≤ 1 →
      in_locks mine (those passes ws) ++ in_locks mine (those (λ l. not (passes l)) ws) ≡ in_locks mine ws
  split_flies passes [] short = refl
  split_flies passes (l ∷ ls) short = by_case (passes l) (split_flies passes ls rest_short) where
    short' : length (in_locks mine (l ∷ []) ++ in_locks mine ls) ≤ 1
    short' = subst (λ z. length z ≤ 1) (one_lock l ls) short

    rest_short : length (in_locks mine ls) ≤ 1
    rest_short = omega (arith, short', length-append (in_locks mine (l ∷ [])) (in_locks mine ls))

    a : List Ask
    a = in_locks mine (those passes ls)

    b : List Ask
    b = in_locks mine (those (λ x. not (passes x)) ls)

    by_case : (p : Bool) → a ++ b ≡ in_locks mine ls →
        in_locks mine (if p then l ∷ those passes ls else those passes ls) ++ in_locks mine (if not p then l ∷ those (λ x. not (passes x)) ls else those (λ x. not (passes x)) ls) ≡ in_locks mine (l ∷ ls)
    by_case true e = ap (λ z. z ++ b) (one_lock l (those passes ls)) ∙ append_assoc (in_locks mine (l ∷ [])) a b ∙ ap (λ z. in_locks mine (l ∷ []) ++ z) e ∙ sym (one_lock l ls)
    by_case false e =
        ap (λ z. a ++ z) (one_lock l (those (λ x. not (passes x)) ls))
        ∙ sym (commutes a b (mine l.by) (ask_of l) (fits e))
        ∙ ap (λ z. in_locks mine (l ∷ []) ++ z) e ∙ sym (one_lock l ls)
      where
        fits : a ++ b ≡ in_locks mine ls → length (a ++ (in_locks mine (l ∷ []) ++ b)) ≤ 1
        fits e = omega (arith, short', ap (length {A = Ask}) e, length-append a b, length-append a (in_locks mine (l ∷ []) ++ b), length-append (in_locks mine (l ∷ [])) b, length-append (in_locks mine (l ∷ [])) (in_locks mine ls))

  -- ---- locks among them

  pub locks_are : (ls : List BrickLock) → (in_locks mine ls ≡ []) ⊎ (any_lock (in_locks mine ls) ≡ true)
  locks_are [] = inl refl
  locks_are (l ∷ ls) = by_case (mine l.by) (locks_are ls) where
    by_case : (b : Bool) → (in_locks mine ls ≡ []) ⊎ (any_lock (in_locks mine ls) ≡ true) →
        ((if b then ask_of l ∷ in_locks mine ls else in_locks mine ls) ≡ []) ⊎ (any_lock (if b then ask_of l ∷ in_locks mine ls else in_locks mine ls) ≡ true)
    by_case true rest = inr refl
    by_case false rest = rest
