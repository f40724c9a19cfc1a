-- Entries with fresh numbers: the same items in the same order, with rising numbers.
use Rattle.std.proofs.Common.{◌≡◌, ℕ, ◌+◌, ◌-◌, ◌^◌, ◌<◌, suc, Bool, true, false, ◌||◌, nat_lt, cond, List, [], ◌∷◌, ◌++◌, Some, length, slice_get, refl, sym, ap, ◌∙◌, arith, lt-ltb, le-ltb}
use Rattle.std.specs.List.{list_any, AllByRecursion}
use Rattle.std.specs.declared.cmp.Ordering.TheVariants.{Less}
use Rattle.std.specs.Ordering.{nat_cmp, is_eq}
use Rattle.std.specs.Map.{keys_of as keys_in}
use Rattle.std.specs.List.Sorted.{IsStrictlySortedBy}
use Rattle.queue_index.specs.Queue.{item_at, items, after_entry, number_after, is_end_used, is_front_used, numbered_from, renumbered, with_free_end, with_free_front}
use Rattle.queue_index.proofs.Entries.{found_in}
use Rattle.queue_index.proofs.Lists.{joined}
use Rattle.queue_index.proofs.Numbers.{Rise, number_is, head_first, tail_rises}

less_is : (a b : ℕ) → a < b → nat_cmp a b ≡ Less
less_is a b h = grind (arith, h)

number_itself : (a : ℕ) → is_eq (nat_cmp a a) ≡ true
number_itself a = grind (arith)

high_apart : (n m : ℕ) → m < n → is_eq (nat_cmp n m) ≡ false
high_apart n m h = grind (arith, h)

module _ {T : Type 0} where
  -- ---- one entry more
  pub items_last : (es : List (ℕ × T)) (e : ℕ × T) → items (es ++ e ∷ []) ≡ items es ++ e.1 ∷ []
  items_last [] e = refl
  items_last (d ∷ es) e = ap (λ (l : List T). d.1 ∷ l) (items_last es e)

  numbered_last : (m : ℕ) (xs : List T) (x : T) → numbered_from m (xs ++ x ∷ []) ≡ numbered_from m xs ++ (m + length xs, x) ∷ []
  numbered_last m [] x = ap (λ (n : ℕ). (n, x) ∷ []) (let e : m ≡ m + 0 = omega arith in e)
  numbered_last m (y ∷ xs) x =
      let e : m + 1 + length xs ≡ m + suc (length xs) = omega arith in
      ap (λ (l : List (ℕ × T)). (m, y) ∷ l) (numbered_last (m + 1) xs x ∙ ap (λ (n : ℕ). numbered_from (m + 1) xs ++ (n, x) ∷ []) e)

  numbered_len : (m : ℕ) (xs : List T) → length (numbered_from m xs) ≡ length xs
  numbered_len m [] = refl
  numbered_len m (x ∷ xs) = ap suc (numbered_len (m + 1) xs)

  last_of : (m : ℕ) (x : T) (xs : List T) → after_entry (slice_get (numbered_from m (x ∷ xs)) (length (numbered_from m (x ∷ xs)) - 1)) ≡ m + length (x ∷ xs)
  last_of m x [] = omega arith
  last_of m x (y ∷ xs) =
      let back : length (numbered_from m (x ∷ y ∷ xs)) - 1 ≡ suc (length (numbered_from (m + 1) (y ∷ xs)) - 1) = omega arith in
      let e : m + 1 + length (y ∷ xs) ≡ m + length (x ∷ y ∷ xs) = omega arith in
      ap (λ (i : ℕ). after_entry (slice_get (numbered_from m (x ∷ y ∷ xs)) i)) back ∙ last_of (m + 1) y xs ∙ e

  after_numbered : (xs : List T) → number_after (numbered_from (2 ^ 63) xs) ≡ 2 ^ 63 + length xs
  after_numbered [] = refl
  after_numbered (x ∷ xs) = last_of (2 ^ 63) x xs

  pub fresh_more : (es fs : List (ℕ × T)) (n : ℕ) (x : T) → es ≡ numbered_from (2 ^ 63) (items es) → n ≡ number_after es → fs ≡ es ++ (n, x) ∷ [] → fs ≡ numbered_from (2 ^ 63) (items fs)
  fresh_more es fs n x is after more =
      let number : n ≡ 2 ^ 63 + length (items es) = after ∙ ap (λ (l : List (ℕ × T)). number_after l) is ∙ after_numbered (items es) in
      more
      ∙ ap (λ (l : List (ℕ × T)). l ++ (n, x) ∷ []) is
      ∙ ap (λ (k : ℕ). numbered_from (2 ^ 63) (items es) ++ (k, x) ∷ []) number
      ∙ sym (numbered_last (2 ^ 63) (items es) x)
      ∙ ap (numbered_from (2 ^ 63)) (sym (ap (λ (l : List (ℕ × T)). items l) more ∙ items_last es (n, x)))

  pub items_more : (es fs : List (ℕ × T)) (n : ℕ) (x y : T) (rest left all : List T) → fs ≡ es ++ (n, x) ∷ [] → x ≡ y → left ≡ y ∷ rest → items es ++ left ≡ all → items fs ++ rest ≡ all
  items_more es fs n x y rest left all more same step so_far =
      ap (λ (l : List (ℕ × T)). items l ++ rest) more
      ∙ ap (λ (l : List T). l ++ rest) (items_last es (n, x))
      ∙ joined (items es) x rest
      ∙ ap (λ (z : T). items es ++ z ∷ rest) same
      ∙ ap (λ (l : List T). items es ++ l) (sym step)
      ∙ so_far

  -- ---- the same items, and rising numbers
  items_numbered : (m : ℕ) (xs : List T) → items (numbered_from m xs) ≡ xs
  items_numbered m [] = refl
  items_numbered m (x ∷ xs) = ap (λ (l : List T). x ∷ l) (items_numbered (m + 1) xs)

  pub items_free_end : (es : List (ℕ × T)) → items (with_free_end es) ≡ items es
  items_free_end es = elim (is_end_used es) as (λ (b : Bool). items (cond b (renumbered es) es) ≡ items es) [ true ↦ items_numbered (2 ^ 63) (items es) | false ↦ refl ]

  pub items_free_front : (es : List (ℕ × T)) → items (with_free_front es) ≡ items es
  items_free_front es = elim (is_front_used es) as (λ (b : Bool). items (cond b (renumbered es) es) ≡ items es) [ true ↦ items_numbered (2 ^ 63) (items es) | false ↦ refl ]

  all_later : (k m : ℕ) (xs : List T) → k < m → AllByRecursion (λ y. nat_cmp k y ≡ Less) (keys_in (numbered_from m xs))
  all_later k m [] h = tt
  all_later k m (x ∷ xs) h = (less_is k m h, all_later k (m + 1) xs (omega (arith, h)))

  numbered_rise : (m : ℕ) (xs : List T) → Rise (numbered_from m xs)
  unfolding IsStrictlySortedBy
  numbered_rise m [] = tt
  numbered_rise m (x ∷ xs) = (all_later m (m + 1) xs (omega arith), numbered_rise (m + 1) xs)

  pub free_end_rises : (es : List (ℕ × T)) → Rise es → Rise (with_free_end es)
  free_end_rises es s = elim (is_end_used es) as (λ (b : Bool). Rise (cond b (renumbered es) es)) [ true ↦ numbered_rise (2 ^ 63) (items es) | false ↦ s ]

  pub free_front_rises : (es : List (ℕ × T)) → Rise es → Rise (with_free_front es)
  free_front_rises es s = elim (is_front_used es) as (λ (b : Bool). Rise (cond b (renumbered es) es)) [ true ↦ numbered_rise (2 ^ 63) (items es) | false ↦ s ]

  -- ---- what is true of entries by their order alone
  abbrev pub any_by : (Bool → T → T → Bool) → List (ℕ × T) → ℕ → T → Bool
  any_by g es n r = list_any (λ e. g (nat_lt e.0 n) e.1 r) es

  any_later : (g : Bool → T → T → Bool) (n : ℕ) (r : T) (es : List (ℕ × T)) → AllByRecursion (λ e. n < e.0) es → any_by g es n r ≡ list_any (λ x. g false x r) (items es)
  any_later g n r [] h = refl
  any_later g n r (e ∷ es) h =
      let low = h.0 in
      ap (λ (b : Bool). g b e.1 r || any_by g es n r) (le-ltb e.0 n (omega (arith, low)))
      ∙ ap (λ (b : Bool). g false e.1 r || b) (any_later g n r es h.1)

  -- the entry of other entries with the same items that is where that of number m is
  pub record IsSame (es fs : List (ℕ × T)) (m : ℕ) (r : T) : Type 0 where
    pub number : ℕ
    pub there : item_at number es ≡ Some r
    pub alike : (g : Bool → T → T → Bool) → any_by g es number r ≡ any_by g fs m r

  pub same_entry : (es fs : List (ℕ × T)) → Rise es → Rise fs → items es ≡ items fs → (m : ℕ) (r : T) → item_at m fs ≡ Some r → IsSame es fs m r
  same_entry [] [] s t same m r is = absurd cc
  same_entry [] (f ∷ fs) s t same m r is = absurd cc
  same_entry (e ∷ es) [] s t same m r is = absurd cc
  same_entry (e ∷ es) (f ∷ fs) s t same m r is =
      let first : e.1 ≡ f.1 = cc in
      let rest : items es ≡ items fs = cc in
      at_one first rest (is_eq (nat_cmp m f.0)) refl is (λ on. same_entry es fs (tail_rises e es s) (tail_rises f fs t) rest m r on)
    where
      at_one : e.1 ≡ f.1 → items es ≡ items fs → (b : Bool) → is_eq (nat_cmp m f.0) ≡ b → cond b (Some f.1) (item_at m fs) ≡ Some r → (item_at m fs ≡ Some r → IsSame es fs m r) → IsSame (e ∷ es) (f ∷ fs) m r
      at_one first rest true u one on =
          let value : f.1 ≡ r = cc in
          let own : (n : ℕ) → nat_lt n n ≡ false = λ n. le-ltb n n (omega arith) in
          record {
            number = e.0;
            there = ap (λ (b : Bool). cond b (Some e.1) (item_at e.0 es)) (number_itself e.0) ∙ ap Some (first ∙ value);
            alike = λ g.
                ap (λ (b : Bool). g b e.1 r || any_by g es e.0 r) (own e.0)
                ∙ ap (λ (x : T). g false x r || any_by g es e.0 r) first
                ∙ ap (λ (b : Bool). g false f.1 r || b) (any_later g e.0 r es (head_first e es s) ∙ ap (list_any (λ x. g false x r)) rest ∙ sym (any_later g f.0 r fs (head_first f fs t)))
                ∙ ap (λ (b : Bool). g b f.1 r || any_by g fs f.0 r) (sym (own f.0))
                ∙ ap (λ (n : ℕ). any_by g (f ∷ fs) n r) (sym (number_is m f.0 u));
          }
      at_one first rest false u one on =
          let two = on one in
          let late : e.0 < two.number = found_in (λ n x. e.0 < n) two.number r es (head_first e es s) two.there in
          let later : f.0 < m = found_in (λ n x. f.0 < n) m r fs (head_first f fs t) one in
          record {
            number = two.number;
            there = ap (λ (b : Bool). cond b (Some e.1) (item_at two.number es)) (high_apart two.number e.0 late) ∙ two.there;
            alike = λ g.
                ap (λ (b : Bool). g b e.1 r || any_by g es two.number r) (lt-ltb e.0 two.number late)
                ∙ ap (λ (x : T). g true x r || any_by g es two.number r) first
                ∙ ap (λ (b : Bool). g true f.1 r || b) (two.alike g)
                ∙ ap (λ (b : Bool). g b f.1 r || any_by g fs m r) (sym (lt-ltb f.0 m later));
          }
