-- Owners, and the waiters of one owner where waiters are put in and taken out.
use Rattle.std.proofs.Common.{◌≡◌, ◌∙◌, ◌++◌, ◌∷◌, ◌&&◌, ◌||◌, ◌==◌, ℕ, zero, suc, Bool, true, false, List, [], length, drop, refl, ap, sym, arith}
use Rattle.std.specs.Prelude.{if◌then◌else◌}
use Rattle.std.specs.declared.cmp.Ordering.{Ordering}
use Rattle.std.specs.declared.cmp.Ordering.TheVariants.{Less, Equal, Greater}
use Rattle.std.specs.Ordering.{match_ordering, is_eq, nat_cmp, ordering_then}
use Rattle.std.specs.Map.{remove_entry}
use Rattle.std.specs.BTreeMap.{insert_entry, is_at}
use Rattle.std.proofs.lemmas.Bool.{eqb-true}
use Rattle.fop_types.specs.declared.cells.Cell.{Cell}
use Rattle.brick_locks.specs.Leaving.{is_owner}
use Rattle.brick_locks.specs.Locks.{owners}
use Rattle.brick_locks.specs.declared.owner.Owner.{Owner}
use Rattle.brick_locks.specs.declared.request.Request.{Request}
use Rattle.brick_machine.specs.Waiting.{Waiting, owner_cmp, without_waiter, with_waiter}
use Rattle.brick_machine.specs.Waits.{waiter_cells, request_cells}
use Rattle.brick_machine.specs.Locking.{left_waiting}
use Rattle.brick_machine.specs.Serving.{owner_of}
use Rattle.brick_machine.specs.declared.waiters.Waiter.{Waiter}

-- ---- owners

pub same_number : (a b : ℕ) → is_eq (nat_cmp a b) ≡ (a == b)
same_number a b = grind (arith)

is_itself : (n : ℕ) → (n == n) ≡ true
is_itself n = grind (arith)

pub tied_both : (a b : Ordering) → is_eq (ordering_then a b) ≡ (is_eq a && is_eq b)
tied_both Less b = refl
tied_both Equal b = refl
tied_both Greater b = refl

pub at_owner : (o p : Owner) → is_eq (owner_cmp o p) ≡ is_owner o p
at_owner o p =
    tied_both (nat_cmp o.graph p.graph) (nat_cmp o.call p.call)
    ∙ ap (λ (b : Bool). b && is_eq (nat_cmp o.call p.call)) (same_number o.graph p.graph)
    ∙ ap (λ (b : Bool). (o.graph == p.graph) && b) (same_number o.call p.call)

pub owner_itself : (o : Owner) → is_owner o o ≡ true
owner_itself o = ap (λ (b : Bool). b && (o.call == o.call)) (is_itself o.graph) ∙ is_itself o.call

both_true : (a b : Bool) → (a && b) ≡ true → (a ≡ true) × (b ≡ true)
both_true true b h = (refl, h)
both_true false b h = absurd cc

pub one_owner : (o p : Owner) → is_owner o p ≡ true → o ≡ p
one_owner o p h =
    let two = both_true (o.graph == p.graph) (o.call == p.call) h in
    ap (λ (g : ℕ). owner_of g o.call) (eqb-true o.graph p.graph two.0) ∙ ap (λ (c : ℕ). owner_of p.graph c) (eqb-true o.call p.call two.1)

-- ---- the waiters of an owner

module _ (o p : Owner) (other : is_owner o p ≡ false) where
  off : (q : Owner) → is_eq (owner_cmp p q) ≡ true → is_owner o q ≡ false
  off q h = ap (λ (x : Owner). is_owner o x) (sym (one_owner p q (sym (at_owner p q) ∙ h))) ∙ other

  -- what another owner's waiter adds and leaves
  pub with_other : (w : Waiter) (ws : Waiting) → waiter_cells o (with_waiter ws p w) ≡ waiter_cells o ws
  with_other w [] = rw other refl
  with_other w (e ∷ es) = by_order (with_other w es) (owner_cmp p e.0) refl
    where
      by_order : waiter_cells o (with_waiter es p w) ≡ waiter_cells o es
          → (r : Ordering) → owner_cmp p e.0 ≡ r → waiter_cells o (match_ordering r ((p, w) ∷ e ∷ es) ((e.0, w) ∷ es) (e ∷ with_waiter es p w)) ≡ waiter_cells o (e ∷ es)
      by_order rest Less h = rw other refl
      by_order rest Equal h = rw (off e.0 (ap is_eq h)) refl
      by_order rest Greater h = ap (λ (l : List (List Cell)). if is_owner o e.0 then e.1.cells ∷ l else l) rest

  pub without_other : (ws : Waiting) → waiter_cells o (without_waiter ws p) ≡ waiter_cells o ws
  without_other [] = refl
  without_other (e ∷ es) = by_test (without_other es) (is_at (owner_cmp p) e.0) refl
    where
      by_test : waiter_cells o (without_waiter es p) ≡ waiter_cells o es
          → (b : Bool) → is_at (owner_cmp p) e.0 ≡ b → waiter_cells o (if b then es else e ∷ without_waiter es p) ≡ waiter_cells o (e ∷ es)
      by_test rest true h = rw (off e.0 h) refl
      by_test rest false h = ap (λ (l : List (List Cell)). if is_owner o e.0 then e.1.cells ∷ l else l) rest

-- an owner without a waiter
none_front : (b : Bool) (c : List Cell) (l : List (List Cell)) → (if b then c ∷ l else l) ≡ [] → (b ≡ false) × (l ≡ [])
none_front true c l h = absurd cc
none_front false c l h = (refl, h)

pub with_own : (o : Owner) (w : Waiter) (ws : Waiting) → waiter_cells o ws ≡ [] → waiter_cells o (with_waiter ws o w) ≡ w.cells ∷ []
with_own o w [] none = rw (owner_itself o) refl
with_own o w (e ∷ es) none = by_order (λ h. with_own o w es h) (none_front (is_owner o e.0) e.1.cells (waiter_cells o es) none) (owner_cmp o e.0) refl
  where
    by_order : (waiter_cells o es ≡ [] → waiter_cells o (with_waiter es o w) ≡ w.cells ∷ []) → (is_owner o e.0 ≡ false) × (waiter_cells o es ≡ [])
        → (r : Ordering) → owner_cmp o e.0 ≡ r → waiter_cells o (match_ordering r ((o, w) ∷ e ∷ es) ((e.0, w) ∷ es) (e ∷ with_waiter es o w)) ≡ w.cells ∷ []
    by_order rest two Less h = rw (owner_itself o) (ap (λ (l : List (List Cell)). w.cells ∷ l) none)
    by_order rest two Equal h =
        let own : is_owner o e.0 ≡ true = sym (at_owner o e.0) ∙ ap is_eq h in
        absurd (let t : true ≡ false = sym own ∙ two.0 in cc)
    by_order rest two Greater h = rw two.0 (rest two.1)

pub without_own : (o : Owner) (ws : Waiting) → waiter_cells o (without_waiter ws o) ≡ drop 1 (waiter_cells o ws)
without_own o [] = refl
without_own o (e ∷ es) = by_test (without_own o es) (is_eq (owner_cmp o e.0)) refl
  where
    by_test : waiter_cells o (without_waiter es o) ≡ drop 1 (waiter_cells o es)
        → (b : Bool) → is_eq (owner_cmp o e.0) ≡ b → waiter_cells o (if b then es else e ∷ without_waiter es o) ≡ drop 1 (waiter_cells o (e ∷ es))
    by_test rest true h =
        let own : is_owner o e.0 ≡ true = sym (at_owner o e.0) ∙ h in
        rw own refl
    by_test rest false h =
        let other : is_owner o e.0 ≡ false = sym (at_owner o e.0) ∙ h in
        rw other rest

-- ---- the owners of requests wait no longer

drop_none : {X : Type 0} (n : ℕ) → ◌≡◌ {A = List X} (drop n []) []
drop_none zero = refl
drop_none (suc n) = refl

drop_both : {X : Type 0} (n : ℕ) (xs : List X) → drop n (drop 1 xs) ≡ drop (suc n) xs
drop_both n [] = drop_none n
drop_both n (x ∷ xs) = refl

pub left_cells : (o : Owner) (rs : List Request) (ws : Waiting) → waiter_cells o (left_waiting ws (owners rs)) ≡ drop (length (request_cells o rs)) (waiter_cells o ws)
left_cells o [] ws = refl
left_cells o (r ∷ rs) ws = left_cells o rs (without_waiter ws r.owner) ∙ by_test (is_owner o r.owner) refl
  where
    by_test : (b : Bool) → is_owner o r.owner ≡ b
        → drop (length (request_cells o rs)) (waiter_cells o (without_waiter ws r.owner))
        ≡ drop (length (if b then r.cells ∷ request_cells o rs else request_cells o rs)) (waiter_cells o ws)
    by_test true h =
        ap (λ (p : Owner). drop (length (request_cells o rs)) (waiter_cells o (without_waiter ws p))) (sym (one_owner o r.owner h))
        ∙ ap (λ (l : List (List Cell)). drop (length (request_cells o rs)) l) (without_own o ws)
        ∙ drop_both (length (request_cells o rs)) (waiter_cells o ws)
    by_test false h = ap (λ (l : List (List Cell)). drop (length (request_cells o rs)) l) (without_other o r.owner h ws)

pub drop_whole : {X : Type 0} (xs : List X) → drop (length xs) xs ≡ []
drop_whole [] = refl
drop_whole (x ∷ xs) = drop_whole xs

-- where no owner has a waiter there is none
pub none_waits : (ws : Waiting) → ((o : Owner) → waiter_cells o ws ≡ []) → ws ≡ []
none_waits [] none = refl
none_waits (e ∷ es) none =
    absurd (let two = none_front (is_owner e.0 e.0) e.1.cells (waiter_cells e.0 es) (none e.0) in let t : true ≡ false = sym (owner_itself e.0) ∙ two.0 in cc)
