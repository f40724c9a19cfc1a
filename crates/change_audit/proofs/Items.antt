-- Items of lists: what holds of those before a place, or of a mapped list; what is behind a prefix.
use Rattle.std.proofs.Common.{◌≡◌, refl, sym, ap, subst, ◌∙◌, arith, get_or}
use Rattle.std.specs.Prelude.{ℕ, zero, suc, ◌<◌, ◌≤◌, ◌+◌, ◌↔◌, nat_lt, Bool, true, false, IsTrue, List, [], ◌∷◌, ◌++◌, Option, None, Some, length, map, take, drop, slice_get, MatchOption}
use Rattle.std.specs.List.{AllByRecursion}
use Rattle.std.proofs.lemmas.Bool.{ltb-true, ltb-false}
use Rattle.std.proofs.lemmas.List.{take_more}
use Rattle.std.proofs.lemmas.Option.{slice_get-get_or}
use Rattle.mount_log.proofs.Items.{some_is}

module _ {X : Type 0} where
  -- what holds of the items before a place holds of the next, too
  pub each_more : (P : ℕ → X → Type 0) (xs : List X) (n : ℕ) → ((x : X) → slice_get xs n ≡ Some x → P n x) → ((k : ℕ) (y : X) → k < n → slice_get xs k ≡ Some y → P k y)
      → (k : ℕ) (y : X) → k < n + 1 → slice_get xs k ≡ Some y → P k y
  each_more P xs n own before k y lt is = by (nat_lt k n) refl where
    by : (t : Bool) → nat_lt k n ≡ t → P k y
    by true e = before k y (ltb-true k n e) is
    by false e =
        let le = ltb-false k n e in let same : k ≡ n = omega (arith, lt, le) in
        subst (λ (m : ℕ). P m y) (sym same) (own y (sym (ap (slice_get xs) same) ∙ is))

  -- an item that was read is the one at its place
  pub item_is : (xs : List X) (i : ℕ) (x y : X) → i < length xs → x ≡ get_or xs i x → slice_get xs i ≡ Some y → x ≡ y
  item_is xs i x y lt read is = some_is x y (ap Some read ∙ sym (slice_get-get_or xs i x lt) ∙ is)

  -- nothing is found behind the end
  pub none_there : (xs : List X) (k : ℕ) → None ≡ slice_get xs k → length xs ≤ k
  none_there [] k is = omega arith
  none_there (x ∷ xs) zero is = absurd cc
  none_there (x ∷ xs) (suc k) is = let le = none_there xs k is in omega (arith, le)

  pub none_within : (xs : List X) (k : ℕ) → None ≡ slice_get xs k → k < length xs → ⊥
  none_within xs k is lt = let le = none_there xs k is in absurd (omega (arith, le, lt))

  drop_long : (xs ys : List X) → drop (length xs) (xs ++ ys) ≡ ys
  drop_long [] ys = refl
  drop_long (x ∷ xs) ys = drop_long xs ys

  pub drop_front : (xs ys : List X) (n : ℕ) → length xs ≡ n → drop n (xs ++ ys) ≡ ys
  drop_front xs ys n is = ap (λ (m : ℕ). drop m (xs ++ ys)) (sym is) ∙ drop_long xs ys

  pub all_push : (P : X → Type 0) (xs : List X) (x : X) → AllByRecursion P xs → P x → AllByRecursion P (xs ++ x ∷ [])
  all_push P [] x all p = (p, tt)
  all_push P (y ∷ xs) x all p = (all.0, all_push P xs x all.1 p)

  pub all_next : (P : X → Type 0) (xs : List X) (i : ℕ) (d : X) → i < length xs → P (get_or xs i d) → AllByRecursion P (take i xs) → AllByRecursion P (take (i + 1) xs)
  all_next P xs i d lt p all = subst (AllByRecursion P) (sym (take_more xs i d lt)) (all_push P (take i xs) (get_or xs i d) all p)

  -- an item that is read has what all have
  pub all_read : (P : X → Type 0) (xs : List X) (i : ℕ) (d : X) → i < length xs → AllByRecursion P xs → P (get_or xs i d)
  all_read P [] i d lt all = absurd (omega (arith, lt))
  all_read P (y ∷ xs) zero d lt all = all.0
  all_read P (y ∷ xs) (suc i) d lt all = all_read P xs i d (omega (arith, lt)) all.1

pub all_mapped : {X Y : Type 0} (f : X → Y) (Q : X → Type 0) (P : Y → Type 0) → ((x : X) → Q x → P (f x)) → (xs : List X) → AllByRecursion Q xs → AllByRecursion P (map f xs)
all_mapped f Q P gives [] all = tt
all_mapped f Q P gives (x ∷ xs) all = (gives x all.0, all_mapped f Q P gives xs all.1)

-- what holds of the item that is found, if one is
pub record IsFound {X : Type 0} (o : Option X) (P : X → Type 0) : Type 0 where
  pub item : X
  pub is : o ≡ Some item
  pub holds : P item

module _ {X : Type 0} (P : X → Type 0) where
  pub found : (o : Option X) → MatchOption o ⊥ P → IsFound o P
  found None e = absurd e
  found (Some x) p = record { item = x; is = refl; holds = p }

  -- a test of the item that was read
  pub reads_some : (o : Option X) (x : X) (b : Bool) → Some x ≡ o → (IsTrue b ↔ P x) → (IsTrue b ↔ MatchOption o ⊥ P)
  reads_some o x b is same = subst (λ (m : Option X). IsTrue b ↔ MatchOption m ⊥ P) is same

  pub reads_none : (o : Option X) → None ≡ o → (IsTrue false ↔ MatchOption o ⊥ P)
  reads_none None is = (λ e. absurd cc, λ e. absurd e)
  reads_none (Some x) is = absurd cc
