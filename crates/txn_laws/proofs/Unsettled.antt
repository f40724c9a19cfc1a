-- The unsettled changes on some cells, with a change less or more.
use Rattle.std.proofs.Common.{◌≡◌, ℕ, ◌+◌, ◌≤◌, Bool, true, false, ◌&&◌, ◌||◌, not, cond, List, [], ◌∷◌, Option, Some, None, is_some, refl, sym, ap, subst, arith}
use Rattle.std.specs.BTreeMap.{insert_entry}
use Rattle.std.specs.List.{AllByRecursion}
use Rattle.std.specs.List.Sorted.{IsStrictlySortedBy}
use Rattle.std.specs.Map.{keys_of}
use Rattle.std.specs.declared.cmp.Ordering.{Ordering}
use Rattle.std.specs.declared.cmp.Ordering.TheVariants.{Less, Equal, Greater}
use Rattle.std.specs.Ordering.{is_eq, nat_cmp, match_ordering}
use Rattle.std.proofs.lemmas.Bool.{cond_both, and_from, and_left, or_from, or_left, or_right, true≢false}
use Rattle.std.proofs.lemmas.Map.Keys.{sorted_head, sorted_tail}
use Rattle.fop_types.specs.Orders.{cell_cmp}
use Rattle.fop_types.specs.declared.cells.Cell.{Cell}
use Rattle.afr_ledger.specs.Changes.{numbered, touching, touches_any, without}
use Rattle.afr_ledger.specs.declared.unsettled.Unsettled.{Unsettled}
use Rattle.afr_phases.specs.Flags.{bit}
use Rattle.txn_laws.specs.Rounds.{unsettled_on, is_unsettled_on}
use Rattle.txn_laws.proofs.Counts.{bit_most}

at_self : (n : ℕ) → is_eq (nat_cmp n n) ≡ true
at_self n = grind arith

pub same_number : (a b : ℕ) → is_eq (nat_cmp a b) ≡ true → a ≡ b
same_number a b h = grind (arith, h)

removed : (touches same rest : Bool) (n : ℕ) → n + bit (not rest) ≤ bit touches + n + bit (not ((same && touches) || rest))
removed true true rest n = omega (arith, bit_most (not rest))
removed true false rest n = omega arith
removed false true rest n = omega arith
removed false false rest n = omega arith

kept_one : (own less all : Bool) (t n m : ℕ) → n ≤ m → n + bit (not less) ≤ m + bit (not all) → t + n + bit (not (own || less)) ≤ t + m + bit (not (own || all))
kept_one true less all t n m fewer pays = omega arith
kept_one false less all t n m fewer pays = omega arith

first_one : (touches rest : Bool) (n : ℕ) → rest ≡ false → n + 1 ≤ bit touches + n + bit (not (touches || rest))
first_one true rest n none = omega arith
first_one false true n none = absurd (true≢false none)
first_one false false n none = omega arith

module _ (set : ℕ) (cells : List Cell) where
  -- the least change that touches the cells is unsettled on them
  pub found_on : (us : List (ℕ × Unsettled Cell)) (change : ℕ) → touching cell_cmp set cells us ≡ Some change → is_unsettled_on set cells change us ≡ true
  found_on [] change e = absurd cc
  found_on (u ∷ us) change e = by (touches_any cell_cmp set cells u.1) (found_on us change) e where
    here : ◌≡◌ {A = Option ℕ} (Some u.0) (Some change) → is_eq (nat_cmp change u.0) ≡ true
    here h = let same : u.0 ≡ change = cc in subst (λ (m : ℕ). is_eq (nat_cmp change m) ≡ true) (sym same) (at_self change)

    by : (b : Bool) → (touching cell_cmp set cells us ≡ Some change → is_unsettled_on set cells change us ≡ true)
        → cond b (Some u.0) (touching cell_cmp set cells us) ≡ Some change → ((is_eq (nat_cmp change u.0) && b) || is_unsettled_on set cells change us) ≡ true
    by true rest h = or_left (is_eq (nat_cmp change u.0) && true) (is_unsettled_on set cells change us) (and_from (is_eq (nat_cmp change u.0)) true (here h) refl)
    by false rest h = or_right (is_eq (nat_cmp change u.0) && false) (is_unsettled_on set cells change us) (rest h)

  -- a change that is not there is not unsettled on them
  pub nobody_on : (us : List (ℕ × Unsettled Cell)) (change : ℕ) → numbered change us ≡ None → is_unsettled_on set cells change us ≡ false
  nobody_on [] change e = refl
  nobody_on (u ∷ us) change e = by (is_eq (nat_cmp change u.0)) (nobody_on us change) e where
    by : (b : Bool) → (numbered change us ≡ None → is_unsettled_on set cells change us ≡ false)
        → cond b (Some u.1) (numbered change us) ≡ None → ((b && touches_any cell_cmp set cells u.1) || is_unsettled_on set cells change us) ≡ false
    by true rest h = absurd cc
    by false rest h = rest h

  -- ---- a change less

  pub fewer_without : (n : ℕ) (us : List (ℕ × Unsettled Cell)) → unsettled_on set cells (without n us) ≤ unsettled_on set cells us
  fewer_without n [] = omega arith
  fewer_without n (u ∷ us) =
      cond_both (is_eq (nat_cmp n u.0)) us (u ∷ without n us) (λ (l : List (ℕ × Unsettled Cell)). unsettled_on set cells l ≤ unsettled_on set cells (u ∷ us))
      (λ e. omega arith) (λ e. omega (arith, fewer_without n us))

  -- a job that settles a change of any number has no more rounds by it
  pub decided_pays : (n change : ℕ) (us : List (ℕ × Unsettled Cell))
      → unsettled_on set cells (without n us) + bit (not (is_unsettled_on set cells change (without n us))) ≤ unsettled_on set cells us + bit (not (is_unsettled_on set cells change us))
  decided_pays n change [] = omega arith
  decided_pays n change (u ∷ us) =
      cond_both (is_eq (nat_cmp n u.0)) us (u ∷ without n us)
      (λ (l : List (ℕ × Unsettled Cell)). unsettled_on set cells l + bit (not (is_unsettled_on set cells change l)) ≤ unsettled_on set cells (u ∷ us) + bit (not (is_unsettled_on set cells change (u ∷ us))))
      (λ e. removed (touches_any cell_cmp set cells u.1) (is_eq (nat_cmp change u.0)) (is_unsettled_on set cells change us) (unsettled_on set cells us))
      (λ e. kept_one (is_eq (nat_cmp change u.0) && touches_any cell_cmp set cells u.1) (is_unsettled_on set cells change (without n us)) (is_unsettled_on set cells change us) (bit (touches_any cell_cmp set cells u.1)) (unsettled_on set cells (without n us)) (unsettled_on set cells us)
      (fewer_without n us) (decided_pays n change us))

  above : (change : ℕ) (us : List (ℕ × Unsettled Cell)) → AllByRecursion (λ y. nat_cmp change y ≡ Less) (keys_of us) → is_unsettled_on set cells change us ≡ false
  above change [] h = refl
  above change (u ∷ us) h =
      or_from (is_eq (nat_cmp change u.0) && touches_any cell_cmp set cells u.1) (is_unsettled_on set cells change us)
      (and_left (is_eq (nat_cmp change u.0)) (touches_any cell_cmp set cells u.1) (ap is_eq h.0)) (above change us h.1)

  -- the change that is decided is not unsettled any more, or it was not so before
  pub own_pays : (change : ℕ) (us : List (ℕ × Unsettled Cell)) → IsStrictlySortedBy nat_cmp (keys_of us) → is_some (numbered change us) ≡ true
      → unsettled_on set cells (without change us) + 1 ≤ unsettled_on set cells us + bit (not (is_unsettled_on set cells change us))
  own_pays change [] sorted there = absurd (true≢false (sym there))
  own_pays change (u ∷ us) sorted there = by (is_eq (nat_cmp change u.0)) refl there (own_pays change us (sorted_tail nat_cmp u.0 (keys_of us) sorted)) where
    apart : is_eq (nat_cmp change u.0) ≡ true → is_unsettled_on set cells change us ≡ false
    apart e = above change us (subst (λ (n : ℕ). AllByRecursion (λ y. nat_cmp n y ≡ Less) (keys_of us)) (sym (same_number change u.0 e)) (sorted_head nat_cmp u.0 (keys_of us) sorted))

    by : (b : Bool) → is_eq (nat_cmp change u.0) ≡ b → is_some (cond b (Some u.1) (numbered change us)) ≡ true
        → (is_some (numbered change us) ≡ true → unsettled_on set cells (without change us) + 1 ≤ unsettled_on set cells us + bit (not (is_unsettled_on set cells change us)))
        → unsettled_on set cells (cond b us (u ∷ without change us)) + 1 ≤ bit (touches_any cell_cmp set cells u.1) + unsettled_on set cells us + bit (not ((b && touches_any cell_cmp set cells u.1) || is_unsettled_on set cells change us))
    by true e h rest = first_one (touches_any cell_cmp set cells u.1) (is_unsettled_on set cells change us) (unsettled_on set cells us) (apart e)
    by false e h rest = omega (arith, rest h)

  pub touch_less : (n : ℕ) (us : List (ℕ × Unsettled Cell)) → is_some (touching cell_cmp set cells (without n us)) ≡ true → is_some (touching cell_cmp set cells us) ≡ true
  touch_less n [] = λ h. h
  touch_less n (u ∷ us) =
      cond_both (is_eq (nat_cmp n u.0)) us (u ∷ without n us) (λ (l : List (ℕ × Unsettled Cell)). is_some (touching cell_cmp set cells l) ≡ true → is_some (touching cell_cmp set cells (u ∷ us)) ≡ true)
      (λ e. gone (touches_any cell_cmp set cells u.1)) (λ e. stays (touches_any cell_cmp set cells u.1) (touch_less n us))
    where
      gone : (b : Bool) → is_some (touching cell_cmp set cells us) ≡ true → is_some (cond b (Some u.0) (touching cell_cmp set cells us)) ≡ true
      gone true h = refl
      gone false h = h

      stays : (b : Bool) → (is_some (touching cell_cmp set cells (without n us)) ≡ true → is_some (touching cell_cmp set cells us) ≡ true)
          → is_some (cond b (Some u.0) (touching cell_cmp set cells (without n us))) ≡ true → is_some (cond b (Some u.0) (touching cell_cmp set cells us)) ≡ true
      stays true rest h = refl
      stays false rest h = rest h

  -- ---- a change more

  pub one_more : (n : ℕ) (w : Unsettled Cell) (us : List (ℕ × Unsettled Cell)) → unsettled_on set cells (insert_entry nat_cmp us n w) ≤ unsettled_on set cells us + 1
  one_more n w [] = omega (arith, bit_most (touches_any cell_cmp set cells w))
  one_more n w (u ∷ us) = by (nat_cmp n u.0) (one_more n w us) where
    by : (o : Ordering) → unsettled_on set cells (insert_entry nat_cmp us n w) ≤ unsettled_on set cells us + 1
        → unsettled_on set cells (match_ordering o ((n, w) ∷ u ∷ us) ((u.0, w) ∷ us) (u ∷ insert_entry nat_cmp us n w)) ≤ unsettled_on set cells (u ∷ us) + 1
    by Less rest = omega (arith, bit_most (touches_any cell_cmp set cells w))
    by Equal rest = omega (arith, bit_most (touches_any cell_cmp set cells w))
    by Greater rest = omega arith

-- a number that is unsettled with a change less was so before
pub numbered_less : (n m : ℕ) (us : List (ℕ × Unsettled Cell)) → is_some (numbered m (without n us)) ≡ true → is_some (numbered m us) ≡ true
numbered_less n m [] = λ h. h
numbered_less n m (u ∷ us) =
    cond_both (is_eq (nat_cmp n u.0)) us (u ∷ without n us) (λ (l : List (ℕ × Unsettled Cell)). is_some (numbered m l) ≡ true → is_some (numbered m (u ∷ us)) ≡ true)
    (λ e. gone (is_eq (nat_cmp m u.0))) (λ e. stays (is_eq (nat_cmp m u.0)) (numbered_less n m us))
  where
    gone : (b : Bool) → is_some (numbered m us) ≡ true → is_some (cond b (Some u.1) (numbered m us)) ≡ true
    gone true h = refl
    gone false h = h

    stays : (b : Bool) → (is_some (numbered m (without n us)) ≡ true → is_some (numbered m us) ≡ true)
        → is_some (cond b (Some u.1) (numbered m (without n us))) ≡ true → is_some (cond b (Some u.1) (numbered m us)) ≡ true
    stays true rest h = refl
    stays false rest h = rest h
