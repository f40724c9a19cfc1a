-- The numbers of entries that conflict, as they are put into a set one after the other.
use Rattle.std.proofs.Common.{◌≡◌, ℕ, ◌+◌, ◌<◌, Bool, true, false, ◌||◌, ◌==◌, cond, List, [], ◌∷◌, Option, Some, None, refl, sym, ap, ◌∙◌, arith, drop, length, get_or}
use Rattle.std.proofs.lemmas.List.{drop_more}
use Rattle.std.specs.List.{list_any, filter, AllByRecursion}
use Rattle.std.specs.Ordering.{nat_cmp, is_eq}
use Rattle.std.specs.BTreeSet as sorted
use Rattle.std.specs.BTreeSet.{BTreeSet}
use Rattle.queue_index.specs.declared.key.Key.{Key}
use Rattle.queue_index.specs.Queue.{item_at, items, numbers, touches, touching, touching_from, passes, is_at_number}
use Rattle.queue_index.specs.Rivals.{of_mode, rival_keys, meets_key, conflicts, is_rival, meets_number, meets_at}
use Rattle.queue_index.proofs.Entries.{founds}
use Rattle.queue_index.proofs.Touching.{numbers_start}
use Rattle.queue_index.proofs.Lists.{none}
use Rattle.queue_index.proofs.Numbers.{Rise, number_in}

-- ---- one more that is put in
or_move : (f a r : Bool) → ((f || a) || r) ≡ (f || (a || r))
or_move true a r = refl
or_move false a r = refl

or_nothing : (a : Bool) → (a || false) ≡ a
or_nothing true = refl
or_nothing false = refl

module _ {X : Type 0} (p : X → Bool) where
  -- the first of those that are left
  pub put_first : (x : X) (xs ns : List X) (f g w : Bool) → ns ≡ x ∷ xs → g ≡ (f || p x) → (f || list_any p ns) ≡ w → (g || list_any p xs) ≡ w
  put_first x xs ns f g w is puts so_far = ap (λ (b : Bool). b || list_any p xs) puts ∙ or_move f (p x) (list_any p xs) ∙ sym (ap (λ (l : List X). f || list_any p l) is) ∙ so_far

  -- none is left
  pub put_all : (ns : List X) (f w : Bool) → ns ≡ [] → (f || list_any p ns) ≡ w → f ≡ w
  put_all ns f w nothing so_far = sym (or_nothing f) ∙ sym (ap (λ (l : List X). f || list_any p l) nothing) ∙ so_far

  -- the one at a place
  pub put_rest : (xs : List X) (i : ℕ) (x : X) (f g w : Bool) → i < length xs → x ≡ get_or xs i x → g ≡ (f || p x) → (f || list_any p (drop i xs)) ≡ w → (g || list_any p (drop (i + 1) xs)) ≡ w
  put_rest xs i x f g w fits here puts so_far = put_first x (drop (i + 1) xs) (drop i xs) f g w (drop_more xs i x fits ∙ ap (λ (y : X). y ∷ drop (i + 1) xs) (sym here)) puts so_far

eq_turn : (a b : ℕ) → is_eq (nat_cmp a b) ≡ is_eq (nat_cmp b a)
eq_turn a b = grind (arith)

cond_or : (b f : Bool) → cond b true f ≡ (f || b)
cond_or true true = refl
cond_or true false = refl
cond_or false true = refl
cond_or false false = refl

pub put_number : (n q : ℕ) (f g : Bool) → g ≡ cond (is_eq (nat_cmp n q)) true f → g ≡ (f || is_eq (nat_cmp q n))
put_number n q f g is = is ∙ cond_or (is_eq (nat_cmp n q)) f ∙ ap (λ (b : Bool). f || b) (eq_turn n q)

module _ {T : Type 0} (keys : T → List Key) where
  -- ---- the entries that have a key
  pub key_start : (k : Key) (q : ℕ) (f : Bool) (es : List (ℕ × T)) → Rise es → (f || list_any (λ n. is_eq (nat_cmp q n)) (numbers (touching_from keys k 0 es))) ≡ (f || is_at_number (λ _. touches keys k) es q)
  key_start k q f es s = ap (λ (b : Bool). f || b) (ap (list_any (λ n. is_eq (nat_cmp q n))) (numbers_start keys k es) ∙ number_in (λ e. touches keys k e.1) q es s)

  -- ---- those that conflict with a key
  or_two : (f a b : Bool) → ((f || a) || b) ≡ (f || (a || (b || false)))
  or_two true a b = refl
  or_two false true b = refl
  or_two false false b = sym (or_nothing b)

  at_two : (i j : Key) (q : ℕ) (o : Option T) (f : Bool) → ((f || passes (λ _. touches keys i) q o) || passes (λ _. touches keys j) q o) ≡ (f || passes (λ _ x. list_any (λ k. touches keys k x) (i ∷ j ∷ [])) q o)
  at_two i j q None f = or_nothing (f || false)
  at_two i j q (Some x) f = or_two f (touches keys i x) (touches keys j x)

  at_one : (i : Key) (q : ℕ) (o : Option T) (f : Bool) → (f || passes (λ _. touches keys i) q o) ≡ (f || passes (λ _ x. list_any (λ k. touches keys k x) (i ∷ [])) q o)
  at_one i q None f = refl
  at_one i q (Some x) f = ap (λ (b : Bool). f || b) (sym (or_nothing (touches keys i x)))

  at_none : (q : ℕ) (o : Option T) (f : Bool) → f ≡ (f || passes (λ _ x. list_any (λ k. touches keys k x) []) q o)
  at_none q None f = sym (or_nothing f)
  at_none q (Some x) f = sym (or_nothing f)

  with_keys : (k : Key) (ks : List Key) (q : ℕ) (o : Option T) (f : Bool) → rival_keys k ≡ ks → (f || passes (λ _ x. list_any (λ j. touches keys j x) ks) q o) ≡ (f || passes (λ _. meets_key keys k) q o)
  with_keys k ks q o f is = sym (ap (λ (l : List Key). f || passes (λ _ x. list_any (λ j. touches keys j x) l) q o) is)

  pub put_exclusive : (k i j : Key) (q : ℕ) (o : Option T) (f g h : Bool) → (k.mode == 0) ≡ true → i ≡ of_mode 0 k → j ≡ of_mode 1 k → g ≡ (f || passes (λ _. touches keys i) q o) → h ≡ (g || passes (λ _. touches keys j) q o) → h ≡ (f || passes (λ _. meets_key keys k) q o)
  put_exclusive k i j q o f g h mode is js one two =
      two
      ∙ ap (λ (b : Bool). b || passes (λ _. touches keys j) q o) one
      ∙ at_two i j q o f
      ∙ ap (λ (l : Key). f || passes (λ _ x. list_any (λ k. touches keys k x) (l ∷ j ∷ [])) q o) is
      ∙ ap (λ (l : Key). f || passes (λ _ x. list_any (λ k. touches keys k x) (of_mode 0 k ∷ l ∷ [])) q o) js
      ∙ with_keys k (of_mode 0 k ∷ of_mode 1 k ∷ []) q o f (ap (λ (b : Bool). cond b (of_mode 0 k ∷ of_mode 1 k ∷ []) (cond (k.mode == 1) (of_mode 0 k ∷ []) [])) mode)

  pub other_mode : (k : Key) (b : Bool) → (k.mode == 0) ≡ false → (k.mode == 1) ≡ b → rival_keys k ≡ cond b (of_mode 0 k ∷ []) []
  other_mode k b off is = ap (λ (c : Bool). cond c (of_mode 0 k ∷ of_mode 1 k ∷ []) (cond (k.mode == 1) (of_mode 0 k ∷ []) [])) off ∙ ap (λ (c : Bool). cond c (of_mode 0 k ∷ []) []) is

  pub put_shared : (k i : Key) (q : ℕ) (o : Option T) (f g : Bool) → (k.mode == 0) ≡ false → (k.mode == 1) ≡ true → i ≡ of_mode 0 k → g ≡ (f || passes (λ _. touches keys i) q o) → g ≡ (f || passes (λ _. meets_key keys k) q o)
  put_shared k i q o f g off mode is one =
      one
      ∙ at_one i q o f
      ∙ ap (λ (l : Key). f || passes (λ _ x. list_any (λ k. touches keys k x) (l ∷ [])) q o) is
      ∙ with_keys k (of_mode 0 k ∷ []) q o f (other_mode k true off mode)

  pub put_name : (k : Key) (q : ℕ) (o : Option T) (f : Bool) → (k.mode == 0) ≡ false → (k.mode == 1) ≡ false → f ≡ (f || passes (λ _. meets_key keys k) q o)
  put_name k q o f off neither = at_none q o f ∙ with_keys k [] q o f (other_mode k false off neither)

  -- ---- those that conflict with an item
  on_keys : (ks : List Key) (q : ℕ) (o : Option T) → list_any (λ k. passes (λ _. meets_key keys k) q o) ks ≡ passes (λ _ y. list_any (λ k. meets_key keys k y) ks) q o
  on_keys ks q None = none ks
  on_keys ks q (Some y) = refl

  pub item_start : (x : T) (q : ℕ) (f : Bool) (es : List (ℕ × T)) → (f || list_any (λ k. is_at_number (λ _. meets_key keys k) es q) (keys x)) ≡ (f || is_at_number (λ _. conflicts keys x) es q)
  item_start x q f es = ap (λ (b : Bool). f || b) (on_keys (keys x) q (item_at q es))

  -- ---- those that conflict with one that has a key
  meets_all : (q : ℕ) (p : ℕ × T → Bool) (es fs : List (ℕ × T)) → AllByRecursion (λ e. item_at e.0 es ≡ Some e.1) fs → list_any (meets_at keys es q) (numbers (filter p fs)) ≡ list_any (λ x. passes (λ _. conflicts keys x) q (item_at q es)) (items (filter p fs))
  meets_all q p es [] h = refl
  meets_all q p es (e ∷ fs) h = elim (p e) as (λ (b : Bool). list_any (meets_at keys es q) (numbers (cond b (e ∷ filter p fs) (filter p fs))) ≡ list_any (λ x. passes (λ _. conflicts keys x) q (item_at q es)) (items (cond b (e ∷ filter p fs) (filter p fs)))) [
    | true ↦ ap (λ (o : Option T). meets_number keys es q o || list_any (meets_at keys es q) (numbers (filter p fs))) h.0 ∙ ap (λ (b : Bool). passes (λ _. conflicts keys e.1) q (item_at q es) || b) (meets_all q p es fs h.1)
    | false ↦ meets_all q p es fs h.1
  ]

  through : (q : ℕ) (xs : List T) (o : Option T) → list_any (λ x. passes (λ _. conflicts keys x) q o) xs ≡ passes (λ _ y. list_any (λ x. conflicts keys x y) xs) q o
  through q xs None = none xs
  through q xs (Some y) = refl

  pub rivals_start : (k : Key) (q : ℕ) (es : List (ℕ × T)) → Rise es → list_any (meets_at keys es q) (numbers (touching_from keys k 0 es)) ≡ is_at_number (λ _. is_rival keys k es) es q
  rivals_start k q es s = ap (list_any (meets_at keys es q)) (numbers_start keys k es) ∙ meets_all q (λ e. touches keys k e.1) es es (founds es s) ∙ through q (items (touching keys k es)) (item_at q es)

-- a set that is empty, and all that are left
pub set_start : (s : BTreeSet ℕ) (q : ℕ) (b w : Bool) → s.keys ≡ [] → b ≡ w → (sorted.contains nat_cmp s q || b) ≡ w
set_start s q b w nothing is = ap (λ (l : List ℕ). sorted.contains nat_cmp (record { keys = l }) q || b) nothing ∙ is
