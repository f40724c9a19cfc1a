-- A run of entries on a thing: those from a number on, up to the first that has the thing exclusive.
use Rattle.std.proofs.Common.{◌≡◌, ℕ, ◌+◌, ◌<◌, ◌≤◌, Bool, true, false, not, ◌&&◌, ◌||◌, ◌==◌, nat_lt, nat_le, cond, List, [], ◌∷◌, Option, Some, None, IfSome, IfNone, refl, sym, ap, ◌∙◌, arith}
use Rattle.std.specs.List.{list_any, filter}
use Rattle.std.specs.Ordering.{nat_cmp, is_eq}
use Rattle.std.proofs.lemmas.Bool.{and_parts, leb-true, le-ltb, ltb-false}
use Rattle.queue_index.specs.declared.key.Key.{Key}
use Rattle.queue_index.specs.Queue.{item_at, numbers, touches, touching_from, passes, is_at_number}
use Rattle.queue_index.specs.Rivals.{of_mode, rival_keys, meets_key}
use Rattle.queue_index.specs.Next.{is_past, is_in_run, is_next_on}
use Rattle.queue_index.proofs.Lists.{none}
use Rattle.queue_index.proofs.Numbers.{Rise, number_in, number_is}
use Rattle.queue_index.proofs.Touching.{all_late}
use Rattle.queue_index.proofs.Contention.{put_number, other_mode}

low_apart : (q n : ℕ) → q < n → is_eq (nat_cmp q n) ≡ false
low_apart q n h = grind (arith, h)

lt_true : (a b : ℕ) → nat_lt a b ≡ true → a < b
lt_true a b h = grind (arith, h)

or_nothing : (a : Bool) → (a || false) ≡ a
or_nothing true = refl
or_nothing false = refl

and_nothing : (a : Bool) → (a && false) ≡ false
and_nothing true = refl
and_nothing false = refl

-- ---- one number more, and the last
move : (f h r b : Bool) → (h ≡ true → b ≡ true) → ((f || h) || (r && b)) ≡ (f || ((h || r) && b))
move true h r b k = refl
move false true r b k = sym (k refl)
move false false r b k = refl

within_at : (q n : ℕ) (o : Option ℕ) → is_past o n ≡ false → is_eq (nat_cmp q n) ≡ true → not (is_past o q) ≡ true
within_at q n o near at = ap (λ (m : ℕ). not (is_past o m)) (number_is q n at) ∙ ap not near

pub run_more : (q n : ℕ) (ns ms : List ℕ) (o : Option ℕ) (f g w : Bool) → ns ≡ n ∷ ms → is_past o n ≡ false → g ≡ cond (is_eq (nat_cmp n q)) true f → (f || (list_any (λ m. is_eq (nat_cmp q m)) ns && not (is_past o q))) ≡ w → (g || (list_any (λ m. is_eq (nat_cmp q m)) ms && not (is_past o q))) ≡ w
run_more q n ns ms o f g w is near puts so_far =
    ap (λ (b : Bool). b || (list_any (λ m. is_eq (nat_cmp q m)) ms && not (is_past o q))) (put_number n q f g puts)
    ∙ move f (is_eq (nat_cmp q n)) (list_any (λ m. is_eq (nat_cmp q m)) ms) (not (is_past o q)) (within_at q n o near)
    ∙ sym (ap (λ (l : List ℕ). f || (list_any (λ m. is_eq (nat_cmp q m)) l && not (is_past o q))) is)
    ∙ so_far

pub run_all : (q : ℕ) (ns : List ℕ) (o : Option ℕ) (f w : Bool) → ns ≡ [] → (f || (list_any (λ m. is_eq (nat_cmp q m)) ns && not (is_past o q))) ≡ w → f ≡ w
run_all q ns o f w nothing so_far = sym (or_nothing f) ∙ sym (ap (λ (l : List ℕ). f || (list_any (λ m. is_eq (nat_cmp q m)) l && not (is_past o q))) nothing) ∙ so_far

module _ {T : Type 0} (keys : T → List Key) where
  none_later : (k : Key) (f q : ℕ) (es : List (ℕ × T)) → q < f → list_any (λ m. is_eq (nat_cmp q m)) (numbers (touching_from keys k f es)) ≡ false
  none_later k f q [] h = refl
  none_later k f q (e ∷ es) h = elim (nat_le f e.0 && touches keys k e.1) as (λ (b : Bool). (nat_le f e.0 && touches keys k e.1) ≡ b → list_any (λ m. is_eq (nat_cmp q m)) (numbers (cond b (e ∷ touching_from keys k f es) (touching_from keys k f es))) ≡ false) [
    | true ↦ λ t. ap (λ (b : Bool). b || list_any (λ m. is_eq (nat_cmp q m)) (numbers (touching_from keys k f es))) (low_apart q e.0 (let low = leb-true f e.0 (and_parts (nat_le f e.0) (touches keys k e.1) t).0 in omega (arith, low, h))) ∙ none_later k f q es h
    | false ↦ λ t. none_later k f q es h
  ] refl

  -- what comes behind the end is not in the run
  behind : (k : Key) (q n last : ℕ) (ns : List ℕ) (es : List (ℕ × T)) → ns ≡ n ∷ numbers (touching_from keys k (n + 1) es) → last < n → (b : Bool) → nat_lt last q ≡ b → (list_any (λ m. is_eq (nat_cmp q m)) ns && not b) ≡ false
  behind k q n last ns es is far true t = and_nothing (list_any (λ m. is_eq (nat_cmp q m)) ns)
  behind k q n last ns es is far false t =
      let low : q < n = (let near = ltb-false last q t in omega (arith, near, far)) in
      ap (λ (l : List ℕ). list_any (λ m. is_eq (nat_cmp q m)) l && true) is
      ∙ ap (λ (b : Bool). (b || list_any (λ m. is_eq (nat_cmp q m)) (numbers (touching_from keys k (n + 1) es))) && true) (low_apart q n low)
      ∙ ap (λ (b : Bool). b && true) (none_later k (n + 1) q es (omega (arith, low)))

  pub run_over : (k : Key) (q n : ℕ) (ns : List ℕ) (es : List (ℕ × T)) (o : Option ℕ) (f w : Bool) → ns ≡ n ∷ numbers (touching_from keys k (n + 1) es) → is_past o n ≡ true → (f || (list_any (λ m. is_eq (nat_cmp q m)) ns && not (is_past o q))) ≡ w → f ≡ w
  run_over k q n ns es None f w is far so_far = absurd cc
  run_over k q n ns es (Some last) f w is far so_far = sym (or_nothing f) ∙ sym (ap (λ (b : Bool). f || b) (behind k q n last ns es is (lt_true last n far) (nat_lt last q) refl)) ∙ so_far

  -- ---- the run that a walk starts with
  not_not : (b : Bool) → not (not b) ≡ b
  not_not true = refl
  not_not false = refl

  before_end : (k : Key) (q m from : ℕ) (es : List (ℕ × T)) → numbers (touching_from keys k from es) ≡ m ∷ numbers (touching_from keys k (m + 1) es) → (b : Bool) → nat_lt m q ≡ b → list_any (λ n. nat_lt n q) (numbers (touching_from keys k from es)) ≡ b
  before_end k q m from es is true t = ap (list_any (λ n. nat_lt n q)) is ∙ ap (λ (b : Bool). b || list_any (λ n. nat_lt n q) (numbers (touching_from keys k (m + 1) es))) t
  before_end k q m from es is false t =
      ap (list_any (λ n. nat_lt n q)) is
      ∙ ap (λ (b : Bool). b || list_any (λ n. nat_lt n q) (numbers (touching_from keys k (m + 1) es))) t
      ∙ all_late keys k (m + 1) q es (let low = ltb-false m q t in omega (arith, low))

  end_is : (k : Key) (q from : ℕ) (es : List (ℕ × T)) (o : Option ℕ) → IfSome o (λ m. numbers (touching_from keys k from es) ≡ m ∷ numbers (touching_from keys k (m + 1) es)) → IfNone o (numbers (touching_from keys k from es) ≡ []) → list_any (λ n. nat_lt n q) (numbers (touching_from keys k from es)) ≡ is_past o q
  end_is k q from es None some nothing = ap (list_any (λ n. nat_lt n q)) nothing
  end_is k q from es (Some m) some nothing = before_end k q m from es some (nat_lt m q) refl

  turn_run : (q : ℕ) (o : Option T) (t p : ℕ → T → Bool) (b : Bool) (r : ℕ → Bool) → not (r q) ≡ b → (passes (λ n y. t n y && p n y) q o && b) ≡ passes (λ n y. p n y && (t n y && not (r n))) q o
  turn_run q None t p b r is = refl
  turn_run q (Some y) t p b r is = ap (λ (c : Bool). (t q y && p q y) && c) (sym is) ∙ turn (t q y) (p q y) (not (r q))
    where
      turn : (a c d : Bool) → ((a && c) && d) ≡ (c && (a && d))
      turn true true d = refl
      turn true false d = refl
      turn false true d = refl
      turn false false d = refl

  pub run_start : (k last : Key) (q from : ℕ) (es : List (ℕ × T)) (o : Option ℕ) (f : Bool) → Rise es → IfSome o (λ m. numbers (touching_from keys last from es) ≡ m ∷ numbers (touching_from keys last (m + 1) es)) → IfNone o (numbers (touching_from keys last from es) ≡ []) → (f || (list_any (λ n. is_eq (nat_cmp q n)) (numbers (touching_from keys k from es)) && not (is_past o q))) ≡ (f || is_at_number (λ n y. touches keys k y && is_in_run keys es last from n) es q)
  run_start k last q from es o f s some nothing =
      ap (λ (b : Bool). f || b) (
      ap (λ (b : Bool). b && not (is_past o q)) (number_in (λ e. nat_le from e.0 && touches keys k e.1) q es s)
      ∙ turn_run q (item_at q es) (λ n y. nat_le from n) (λ n y. touches keys k y) (not (is_past o q)) (λ n. list_any (λ m. nat_lt m n) (numbers (touching_from keys last from es))) (ap not (end_is last q from es o some nothing)))

  -- ---- the runs on the thing of a key
  two_runs : (f a b r : Bool) → ((f || (a && r)) || (b && r)) ≡ (f || ((a || (b || false)) && r))
  two_runs true a b r = refl
  two_runs false true b true = refl
  two_runs false true b false = and_nothing b
  two_runs false false b r = ap (λ (c : Bool). c && r) (sym (or_nothing b))

  at_two : (i j : Key) (r : ℕ → Bool) (q : ℕ) (o : Option T) (f : Bool) → ((f || passes (λ n y. touches keys i y && r n) q o) || passes (λ n y. touches keys j y && r n) q o) ≡ (f || passes (λ n y. list_any (λ k. touches keys k y) (i ∷ j ∷ []) && r n) q o)
  at_two i j r q None f = or_nothing (f || false)
  at_two i j r q (Some y) f = two_runs f (touches keys i y) (touches keys j y) (r q)

  at_one : (i : Key) (r : ℕ → Bool) (q : ℕ) (o : Option T) (f : Bool) → (f || passes (λ n y. touches keys i y && r n) q o) ≡ (f || passes (λ n y. list_any (λ k. touches keys k y) (i ∷ []) && r n) q o)
  at_one i r q None f = refl
  at_one i r q (Some y) f = ap (λ (b : Bool). f || (b && r q)) (sym (or_nothing (touches keys i y)))

  at_none : (r : ℕ → Bool) (q : ℕ) (o : Option T) (f : Bool) → f ≡ (f || passes (λ n y. list_any (λ k. touches keys k y) [] && r n) q o)
  at_none r q None f = sym (or_nothing f)
  at_none r q (Some y) f = sym (or_nothing f)

  with_keys : (k : Key) (ks : List Key) (r : ℕ → Bool) (q : ℕ) (o : Option T) (f : Bool) → rival_keys k ≡ ks → (f || passes (λ n y. list_any (λ j. touches keys j y) ks && r n) q o) ≡ (f || passes (λ n y. meets_key keys k y && r n) q o)
  with_keys k ks r q o f is = sym (ap (λ (l : List Key). f || passes (λ n y. list_any (λ j. touches keys j y) l && r n) q o) is)

  pub next_exclusive : (k i j : Key) (q from : ℕ) (es : List (ℕ × T)) (f g h : Bool) → (k.mode == 0) ≡ true → i ≡ of_mode 0 k → j ≡ of_mode 1 k → g ≡ (f || is_at_number (λ n y. touches keys i y && is_in_run keys es i from n) es q) → h ≡ (g || is_at_number (λ n y. touches keys j y && is_in_run keys es i from n) es q) → h ≡ (f || is_at_number (is_next_on keys es from k) es q)
  next_exclusive k i j q from es f g h mode is js one two =
      two
      ∙ ap (λ (b : Bool). b || is_at_number (λ n y. touches keys j y && is_in_run keys es i from n) es q) one
      ∙ ap (λ (l : Key). (f || is_at_number (λ n y. touches keys l y && is_in_run keys es l from n) es q) || is_at_number (λ n y. touches keys j y && is_in_run keys es l from n) es q) is
      ∙ ap (λ (l : Key). (f || is_at_number (λ n y. touches keys (of_mode 0 k) y && is_in_run keys es (of_mode 0 k) from n) es q) || is_at_number (λ n y. touches keys l y && is_in_run keys es (of_mode 0 k) from n) es q) js
      ∙ at_two (of_mode 0 k) (of_mode 1 k) (is_in_run keys es (of_mode 0 k) from) q (item_at q es) f
      ∙ with_keys k (of_mode 0 k ∷ of_mode 1 k ∷ []) (is_in_run keys es (of_mode 0 k) from) q (item_at q es) f (ap (λ (b : Bool). cond b (of_mode 0 k ∷ of_mode 1 k ∷ []) (cond (k.mode == 1) (of_mode 0 k ∷ []) [])) mode)

  pub next_shared : (k i : Key) (q from : ℕ) (es : List (ℕ × T)) (f g : Bool) → (k.mode == 0) ≡ false → (k.mode == 1) ≡ true → i ≡ of_mode 0 k → g ≡ (f || is_at_number (λ n y. touches keys i y && is_in_run keys es i from n) es q) → g ≡ (f || is_at_number (is_next_on keys es from k) es q)
  next_shared k i q from es f g off mode is one =
      one
      ∙ ap (λ (l : Key). f || is_at_number (λ n y. touches keys l y && is_in_run keys es l from n) es q) is
      ∙ at_one (of_mode 0 k) (is_in_run keys es (of_mode 0 k) from) q (item_at q es) f
      ∙ with_keys k (of_mode 0 k ∷ []) (is_in_run keys es (of_mode 0 k) from) q (item_at q es) f (other_mode keys k true off mode)

  pub next_name : (k : Key) (q from : ℕ) (es : List (ℕ × T)) (f : Bool) → (k.mode == 0) ≡ false → (k.mode == 1) ≡ false → f ≡ (f || is_at_number (is_next_on keys es from k) es q)
  next_name k q from es f off neither = at_none (is_in_run keys es (of_mode 0 k) from) q (item_at q es) f ∙ with_keys k [] (is_in_run keys es (of_mode 0 k) from) q (item_at q es) f (other_mode keys k false off neither)
