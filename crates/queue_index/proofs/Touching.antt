-- The entries that have a key, from one number to the next.
use Rattle.std.proofs.Common.{◌≡◌, ℕ, ◌+◌, ◌<◌, ◌≤◌, ◌^◌, Bool, true, false, ◌&&◌, ◌||◌, nat_lt, nat_le, cond, List, [], ◌∷◌, Option, Some, None, refl, sym, ap, ◌∙◌, arith, subst}
use Rattle.std.specs.List.{list_any, AllByRecursion}
use Rattle.std.specs.declared.cmp.Ordering.TheVariants.{Less}
use Rattle.std.specs.Ordering.{is_eq, nat_cmp}
use Rattle.std.specs.Map.{keys_of}
use Rattle.std.specs.BTreeSet.{BTreeSet}
use Rattle.std.specs.List.Sorted.{IsStrictlySortedBy}
use Rattle.std.proofs.lemmas.Map.Keys.{sorted_head, sorted_tail}
use Rattle.std.proofs.lemmas.Bool.{and_parts, le-leb, lt-leb, leb-true, le-ltb, ltb-false, cases_lt}
use mathlib.Core.Logic.{⊎_elim}
use Rattle.queue_index.specs.declared.key.Key.{Key}
use Rattle.queue_index.specs.declared.place.Place.{Place}
use Rattle.queue_index.specs.Places.{IsFirst, IsNone}
use Rattle.queue_index.specs.Queue.{item_at, items, numbers, before, touches, touching, touching_from}
use Rattle.queue_index.specs.Whole.{has, IsWhole}
use Rattle.queue_index.proofs.Entries.{founds, each, found_in, absurd_none}

less_is : (a b : ℕ) → nat_cmp a b ≡ Less → a < b
less_is a b h = grind (arith, h)

eq_is : (a b : ℕ) → is_eq (nat_cmp a b) ≡ true → a ≡ b
eq_is a b h = grind (arith, h)

decided : (b : Bool) → (b ≡ true → ⊥) → b ≡ false
decided true h = absurd (h refl)
decided false h = refl

module _ {T : Type 0} (keys : T → List Key) where
  -- no entry from a number on has the key
  none_from : (k : Key) (from : ℕ) (es : List (ℕ × T)) → AllByRecursion (λ e. (nat_le from e.0 && touches keys k e.1) ≡ false) es → touching_from keys k from es ≡ []
  none_from k from [] h = refl
  none_from k from (e ∷ es) h = ap (λ (b : Bool). cond b (e ∷ touching_from keys k from es) (touching_from keys k from es)) h.0 ∙ none_from k from es h.1

  -- where all numbers are late enough for both, it does not matter from where
  from_either : (k : Key) (a b m : ℕ) (es : List (ℕ × T)) → a ≤ m + 1 → b ≤ m + 1 → AllByRecursion (λ y. nat_cmp m y ≡ Less) (keys_of es) → touching_from keys k a es ≡ touching_from keys k b es
  from_either k a b m [] p q h = refl
  from_either k a b m (e ∷ es) p q h =
      let low = less_is m e.0 h.0 in
      let one : nat_le a e.0 ≡ true = le-leb a e.0 (omega (arith, low, p)) in
      let two : nat_le b e.0 ≡ true = le-leb b e.0 (omega (arith, low, q)) in
      ap (λ (t : Bool). cond (t && touches keys k e.1) (e ∷ touching_from keys k a es) (touching_from keys k a es)) (one ∙ sym two)
      ∙ ap (λ (l : List (ℕ × T)). cond (nat_le b e.0 && touches keys k e.1) (e ∷ l) l) (from_either k a b m es p q h.1)

  keys_after : (n : ℕ) (es : List (ℕ × T)) → AllByRecursion (λ y. nat_cmp n y ≡ Less) (keys_of es) → AllByRecursion (λ e. n < e.0) es
  keys_after n [] h = tt
  keys_after n (e ∷ es) h = (less_is n e.0 h.0, keys_after n es h.1)

  -- the first one, and those after it
  first_and_rest : (k : Key) (from m : ℕ) (x : T) (es : List (ℕ × T)) → IsStrictlySortedBy nat_cmp (keys_of es) → AllByRecursion (λ e. from ≤ e.0 → touches keys k e.1 ≡ true → m ≤ e.0) es → item_at m es ≡ Some x → touches keys k x ≡ true → from ≤ m → touching_from keys k from es ≡ (m, x) ∷ touching_from keys k (m + 1) es
  first_and_rest k from m x [] s h is has late = absurd cc
  first_and_rest k from m x (e ∷ es) s h is has late = elim (is_eq (nat_cmp m e.0)) as (λ (b : Bool). is_eq (nat_cmp m e.0) ≡ b → cond b (Some e.1) (item_at m es) ≡ Some x → touching_from keys k from (e ∷ es) ≡ (m, x) ∷ touching_from keys k (m + 1) (e ∷ es)) [
    | true ↦ λ t one.
        let v : e.1 ≡ x = cc in
        let j : m ≡ e.0 = eq_is m e.0 t in
        let here : touches keys k e.1 ≡ true = subst (λ (y : T). touches keys k y ≡ true) (sym v) has in
        let low : nat_le from e.0 ≡ true = le-leb from e.0 (omega (arith, j, late)) in
        let past : nat_le (m + 1) e.0 ≡ false = lt-leb (m + 1) e.0 (omega (arith, j)) in
        let same : ◌≡◌ {A = ℕ × T} e (m, x) = ap (λ (y : T). (e.0, y)) v ∙ ap (λ (n : ℕ). (n, x)) (sym j) in
        ap (λ (b : Bool). cond (b && touches keys k e.1) (e ∷ touching_from keys k from es) (touching_from keys k from es)) low
        ∙ ap (λ (b : Bool). cond b (e ∷ touching_from keys k from es) (touching_from keys k from es)) here
        ∙ ap (λ (l : List (ℕ × T)). e ∷ l) (from_either k from (m + 1) m es (omega (arith, late)) (omega arith) (subst (λ (n : ℕ). AllByRecursion (λ y. nat_cmp n y ≡ Less) (keys_of es)) (sym j) (sorted_head nat_cmp e.0 (keys_of es) s)))
        ∙ ap (λ (f : ℕ × T). f ∷ touching_from keys k (m + 1) es) same
        ∙ ap (λ (b : Bool). (m, x) ∷ cond (b && touches keys k e.1) (e ∷ touching_from keys k (m + 1) es) (touching_from keys k (m + 1) es)) (sym past)
    | false ↦ λ t one.
        let low : e.0 < m = found_in (λ n y. e.0 < n) m x es (keys_after e.0 es (sorted_head nat_cmp e.0 (keys_of es) s)) one in
        let not_here : (nat_le from e.0 && touches keys k e.1) ≡ false = decided (nat_le from e.0 && touches keys k e.1) (λ b. let p = and_parts (nat_le from e.0) (touches keys k e.1) b in let f = leb-true from e.0 p.0 in let g = h.0 f p.1 in omega (arith, low, g)) in
        let past : nat_le (m + 1) e.0 ≡ false = lt-leb (m + 1) e.0 (omega (arith, low)) in
        ap (λ (b : Bool). cond b (e ∷ touching_from keys k from es) (touching_from keys k from es)) not_here
        ∙ first_and_rest k from m x es (sorted_tail nat_cmp e.0 (keys_of es) s) h.1 one has late
        ∙ ap (λ (b : Bool). (m, x) ∷ cond (b && touches keys k e.1) (e ∷ touching_from keys k (m + 1) es) (touching_from keys k (m + 1) es)) (sym past)
  ] refl is

  has_some : (o : Option T) (k : Key) → has keys o k ≡ true → (x : T) × (o ≡ Some x) × (touches keys k x ≡ true)
  has_some None k h = absurd cc
  has_some (Some x) k h = (x, refl, h)

  has_at : (o : Option T) (x : T) (k : Key) → o ≡ Some x → has keys o k ≡ touches keys k x
  has_at o x k is = ap (λ (t : Option T). has keys t k) is

  pub next_is : (es : List (ℕ × T)) (places : BTreeSet Place) (from m : ℕ) (k : Key) → IsWhole keys es places → IsFirst places k from m → numbers (touching_from keys k from es) ≡ m ∷ numbers (touching_from keys k (m + 1) es)
  next_is es places from m k w f =
      let found = has_some (item_at m es) k (sym (w.placed k m) ∙ f.there) in
      ap (λ (l : List (ℕ × T)). numbers l) (first_and_rest k from m found.0 es w.rising
      (each (λ n y. from ≤ n → touches keys k y ≡ true → m ≤ n) es es (founds es w.rising) (λ n y is late t. f.least n late (w.placed k n ∙ has_at (item_at n es) y k is ∙ t)))
      found.1 found.2 f.late)

  pub next_none : (es : List (ℕ × T)) (places : BTreeSet Place) (from : ℕ) (k : Key) → IsWhole keys es places → IsNone places k from → numbers (touching_from keys k from es) ≡ []
  next_none es places from k w f =
      ap (λ (l : List (ℕ × T)). numbers l) (none_from k from es
      (each (λ n y. (nat_le from n && touches keys k y) ≡ false) es es (founds es w.rising) (λ n y is. decided (nat_le from n && touches keys k y) (λ b. let p = and_parts (nat_le from n) (touches keys k y) b in let t : true ≡ false = sym (w.placed k n ∙ has_at (item_at n es) y k is ∙ p.1) ∙ f n (leb-true from n p.0) in absurd cc))))

  pub next_fits : (es : List (ℕ × T)) (places : BTreeSet Place) (from m : ℕ) (k : Key) → IsWhole keys es places → IsFirst places k from m → m + 1 < 2 ^ 64
  next_fits es places from m k w f =
      let found = has_some (item_at m es) k (sym (w.placed k m) ∙ f.there) in
      ⊎_elim (λ l. l) (λ l. absurd (absurd_none m found.0 es found.1 (w.small m l))) (cases_lt (m + 1) (2 ^ 64))

  -- ---- all of them
  all_from : (k : Key) (es : List (ℕ × T)) → touching_from keys k 0 es ≡ touching keys k es
  all_from k [] = refl
  all_from k (e ∷ es) = ap (λ (b : Bool). cond (b && touches keys k e.1) (e ∷ touching_from keys k 0 es) (touching_from keys k 0 es)) (le-leb 0 e.0 (omega arith)) ∙ ap (λ (l : List (ℕ × T)). cond (touches keys k e.1) (e ∷ l) l) (all_from k es)

  pub numbers_start : (k : Key) (es : List (ℕ × T)) → numbers (touching_from keys k 0 es) ≡ numbers (touching keys k es)
  numbers_start k es = ap (λ (l : List (ℕ × T)). numbers l) (all_from k es)

  -- ---- whether one stands before a number
  any_step : (k : Key) (n : ℕ) (e : ℕ × T) (es : List (ℕ × T)) (a b : Bool) → nat_lt e.0 n ≡ a → touches keys k e.1 ≡ b → list_any (touches keys k) (items (before n es)) ≡ list_any (λ j. nat_lt j n) (numbers (touching keys k es)) → list_any (touches keys k) (items (before n (e ∷ es))) ≡ list_any (λ j. nat_lt j n) (numbers (touching keys k (e ∷ es)))
  any_step k n e es true true s t on =
      ap (λ (b : Bool). list_any (touches keys k) (items (cond b (e ∷ before n es) (before n es)))) s
      ∙ ap (λ (b : Bool). b || list_any (touches keys k) (items (before n es))) t
      ∙ ap (λ (b : Bool). b || list_any (λ j. nat_lt j n) (numbers (touching keys k es))) (sym s)
      ∙ ap (λ (b : Bool). list_any (λ j. nat_lt j n) (numbers (cond b (e ∷ touching keys k es) (touching keys k es)))) (sym t)
  any_step k n e es true false s t on =
      ap (λ (b : Bool). list_any (touches keys k) (items (cond b (e ∷ before n es) (before n es)))) s
      ∙ ap (λ (b : Bool). b || list_any (touches keys k) (items (before n es))) t
      ∙ on
      ∙ ap (λ (b : Bool). list_any (λ j. nat_lt j n) (numbers (cond b (e ∷ touching keys k es) (touching keys k es)))) (sym t)
  any_step k n e es false true s t on =
      ap (λ (b : Bool). list_any (touches keys k) (items (cond b (e ∷ before n es) (before n es)))) s
      ∙ on
      ∙ ap (λ (b : Bool). b || list_any (λ j. nat_lt j n) (numbers (touching keys k es))) (sym s)
      ∙ ap (λ (b : Bool). list_any (λ j. nat_lt j n) (numbers (cond b (e ∷ touching keys k es) (touching keys k es)))) (sym t)
  any_step k n e es false false s t on =
      ap (λ (b : Bool). list_any (touches keys k) (items (cond b (e ∷ before n es) (before n es)))) s
      ∙ on
      ∙ ap (λ (b : Bool). list_any (λ j. nat_lt j n) (numbers (cond b (e ∷ touching keys k es) (touching keys k es)))) (sym t)

  any_number : (k : Key) (n : ℕ) (es : List (ℕ × T)) → list_any (touches keys k) (items (before n es)) ≡ list_any (λ j. nat_lt j n) (numbers (touching keys k es))
  any_number k n [] = refl
  any_number k n (e ∷ es) = any_step k n e es (nat_lt e.0 n) (touches keys k e.1) refl refl (any_number k n es)

  pub all_late : (k : Key) (f n : ℕ) (es : List (ℕ × T)) → n ≤ f → list_any (λ j. nat_lt j n) (numbers (touching_from keys k f es)) ≡ false
  all_late k f n [] h = refl
  all_late k f n (e ∷ es) h = elim (nat_le f e.0 && touches keys k e.1) as (λ (b : Bool). (nat_le f e.0 && touches keys k e.1) ≡ b → list_any (λ j. nat_lt j n) (numbers (cond b (e ∷ touching_from keys k f es) (touching_from keys k f es))) ≡ false) [
    | true ↦ λ t. ap (λ (b : Bool). b || list_any (λ j. nat_lt j n) (numbers (touching_from keys k f es))) (le-ltb e.0 n (let low = leb-true f e.0 (and_parts (nat_le f e.0) (touches keys k e.1) t).0 in omega (arith, low, h))) ∙ all_late k f n es h
    | false ↦ λ t. all_late k f n es h
  ] refl

  pub before_first : (k : Key) (n m : ℕ) (es : List (ℕ × T)) → numbers (touching_from keys k 0 es) ≡ m ∷ numbers (touching_from keys k (m + 1) es) → nat_lt m n ≡ list_any (touches keys k) (items (before n es))
  before_first k n m es is =
      let whole : list_any (touches keys k) (items (before n es)) ≡ (nat_lt m n || list_any (λ j. nat_lt j n) (numbers (touching_from keys k (m + 1) es))) = any_number k n es ∙ ap (list_any (λ j. nat_lt j n)) (sym (numbers_start k es) ∙ is) in
      sym (whole ∙ (elim (nat_lt m n) as (λ (b : Bool). nat_lt m n ≡ b → (b || list_any (λ j. nat_lt j n) (numbers (touching_from keys k (m + 1) es))) ≡ b) [
        | true ↦ λ t. refl
        | false ↦ λ t. all_late k (m + 1) n es (let low = ltb-false m n t in omega (arith, low))
      ]) refl)

  pub before_none : (k : Key) (n : ℕ) (es : List (ℕ × T)) → numbers (touching_from keys k 0 es) ≡ [] → false ≡ list_any (touches keys k) (items (before n es))
  before_none k n es is = sym (any_number k n es ∙ ap (list_any (λ j. nat_lt j n)) (sym (numbers_start k es) ∙ is))

  -- ---- whether one has the key at all
  any_of_all : (k : Key) (es : List (ℕ × T)) → list_any (touches keys k) (items es) ≡ (list_any (λ _. true) (numbers (touching keys k es)))
  any_of_all k [] = refl
  any_of_all k (e ∷ es) = elim (touches keys k e.1) as (λ (b : Bool). (b || list_any (touches keys k) (items es)) ≡ list_any (λ _. true) (numbers (cond b (e ∷ touching keys k es) (touching keys k es)))) [ true ↦ refl | false ↦ any_of_all k es ]

  pub has_first : (k : Key) (m : ℕ) (ms : List ℕ) (es : List (ℕ × T)) → numbers (touching_from keys k 0 es) ≡ m ∷ ms → true ≡ list_any (touches keys k) (items es)
  has_first k m ms es is = sym (any_of_all k es ∙ ap (list_any (λ _. true)) (sym (numbers_start k es) ∙ is))

  pub has_none : (k : Key) (es : List (ℕ × T)) → numbers (touching_from keys k 0 es) ≡ [] → false ≡ list_any (touches keys k) (items es)
  has_none k es is = sym (any_of_all k es ∙ ap (list_any (λ _. true)) (sym (numbers_start k es) ∙ is))
