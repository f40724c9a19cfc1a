-- Entries by their numbers: what a walk over the numbers finds is what a test of each entry finds.
use Rattle.std.proofs.Common.{◌≡◌, ℕ, ◌<◌, Bool, true, false, ◌&&◌, ◌||◌, cond, List, [], ◌∷◌, Option, Some, refl, sym, ap, ◌∙◌, arith, subst}
use Rattle.std.specs.List.{list_any, filter, AllByRecursion}
use Rattle.std.specs.declared.cmp.Ordering.TheVariants.{Less}
use Rattle.std.specs.Ordering.{nat_cmp, is_eq}
use Rattle.std.specs.Map.{keys_of as keys_in}
use Rattle.std.specs.List.Sorted.{IsStrictlySortedBy}
use Rattle.std.specs.BTreeSet as sorted
use Rattle.std.specs.BTreeSet.{BTreeSet}
use Rattle.std.specs.Cmp.{nat_cmp_total}
use Rattle.std.proofs.lemmas.Map.Keys.{sorted_head, sorted_tail}
use Rattle.std.proofs.lemmas.Map.Lookups.{btree_set_from_contains, exact_unsigned}
use Rattle.queue_index.specs.Queue.{item_at, numbers, passes, is_at_number}
use Rattle.queue_index.proofs.Entries.{founds, found_in}
use Rattle.queue_index.proofs.Lists.{all_filter}

-- the numbers rise
abbrev pub Rise : {T : Type 0} → List (ℕ × T) → Type 0
Rise es = IsStrictlySortedBy nat_cmp (keys_in es)

less_is : (a b : ℕ) → nat_cmp a b ≡ Less → a < b
less_is a b h = grind (arith, h)

pub number_is : (a b : ℕ) → is_eq (nat_cmp a b) ≡ true → a ≡ b
number_is a b h = grind (arith, h)

low_apart : (q n : ℕ) → q < n → is_eq (nat_cmp q n) ≡ false
low_apart q n h = grind (arith, h)

module _ {T : Type 0} where
  pub keys_after : (n : ℕ) (es : List (ℕ × T)) → AllByRecursion (λ y. nat_cmp n y ≡ Less) (keys_in es) → AllByRecursion (λ e. n < e.0) es
  keys_after n [] h = tt
  keys_after n (e ∷ es) h = (less_is n e.0 h.0, keys_after n es h.1)

  pub head_first : (e : ℕ × T) (es : List (ℕ × T)) → Rise (e ∷ es) → AllByRecursion (λ d. e.0 < d.0) es
  head_first e es s = keys_after e.0 es (sorted_head nat_cmp e.0 (keys_in es) s)

  pub tail_rises : (e : ℕ × T) (es : List (ℕ × T)) → Rise (e ∷ es) → Rise es
  tail_rises e es s = sorted_tail nat_cmp e.0 (keys_in es) s

  pub any_numbers : (p : ℕ → T → Bool) (q : ℕ × T → Bool) (es fs : List (ℕ × T)) → AllByRecursion (λ e. item_at e.0 es ≡ Some e.1) fs → list_any (is_at_number p es) (numbers (filter q fs)) ≡ list_any (λ e. q e && p e.0 e.1) fs
  any_numbers p q es [] h = refl
  any_numbers p q es (e ∷ fs) h = elim (q e) as (λ (b : Bool). list_any (is_at_number p es) (numbers (cond b (e ∷ filter q fs) (filter q fs))) ≡ ((b && p e.0 e.1) || list_any (λ e. q e && p e.0 e.1) fs)) [
    | true ↦ ap (λ (o : Option T). passes p e.0 o || list_any (is_at_number p es) (numbers (filter q fs))) h.0 ∙ ap (λ (b : Bool). p e.0 e.1 || b) (any_numbers p q es fs h.1)
    | false ↦ any_numbers p q es fs h.1
  ]

  none_above : (p : ℕ × T → Bool) (q : ℕ) (es : List (ℕ × T)) → AllByRecursion (λ e. q < e.0) es → list_any (λ n. is_eq (nat_cmp q n)) (numbers (filter p es)) ≡ false
  none_above p q [] h = refl
  none_above p q (e ∷ es) h = elim (p e) as (λ (b : Bool). list_any (λ n. is_eq (nat_cmp q n)) (numbers (cond b (e ∷ filter p es) (filter p es))) ≡ false) [
    | true ↦ ap (λ (b : Bool). b || list_any (λ n. is_eq (nat_cmp q n)) (numbers (filter p es))) (low_apart q e.0 h.0) ∙ none_above p q es h.1
    | false ↦ none_above p q es h.1
  ]

  pub number_in : (p : ℕ × T → Bool) (q : ℕ) (es : List (ℕ × T)) → Rise es → list_any (λ n. is_eq (nat_cmp q n)) (numbers (filter p es)) ≡ is_at_number (λ n r. p (n, r)) es q
  number_in p q [] s = refl
  number_in p q (e ∷ es) s = at_one (is_eq (nat_cmp q e.0)) refl (p e) refl (number_in p q es (tail_rises e es s))
    where
      at_one : (b : Bool) → is_eq (nat_cmp q e.0) ≡ b → (c : Bool) → p e ≡ c → list_any (λ n. is_eq (nat_cmp q n)) (numbers (filter p es)) ≡ passes (λ n r. p (n, r)) q (item_at q es) → list_any (λ n. is_eq (nat_cmp q n)) (numbers (cond (p e) (e ∷ filter p es) (filter p es))) ≡ passes (λ n r. p (n, r)) q (cond (is_eq (nat_cmp q e.0)) (Some e.1) (item_at q es))
      at_one true t true u on =
          ap (λ (b : Bool). list_any (λ n. is_eq (nat_cmp q n)) (numbers (cond b (e ∷ filter p es) (filter p es)))) u
          ∙ ap (λ (b : Bool). b || list_any (λ n. is_eq (nat_cmp q n)) (numbers (filter p es))) t
          ∙ sym (ap (λ (n : ℕ). p (n, e.1)) (number_is q e.0 t) ∙ u)
          ∙ ap (λ (b : Bool). passes (λ n r. p (n, r)) q (cond b (Some e.1) (item_at q es))) (sym t)
      at_one true t false u on =
          ap (λ (b : Bool). list_any (λ n. is_eq (nat_cmp q n)) (numbers (cond b (e ∷ filter p es) (filter p es)))) u
          ∙ none_above p q es (subst (λ (n : ℕ). AllByRecursion (λ d. n < d.0) es) (sym (number_is q e.0 t)) (head_first e es s))
          ∙ sym (ap (λ (n : ℕ). p (n, e.1)) (number_is q e.0 t) ∙ u)
          ∙ ap (λ (b : Bool). passes (λ n r. p (n, r)) q (cond b (Some e.1) (item_at q es))) (sym t)
      at_one false t true u on =
          ap (λ (b : Bool). list_any (λ n. is_eq (nat_cmp q n)) (numbers (cond b (e ∷ filter p es) (filter p es)))) u
          ∙ ap (λ (b : Bool). b || list_any (λ n. is_eq (nat_cmp q n)) (numbers (filter p es))) t
          ∙ on
          ∙ ap (λ (b : Bool). passes (λ n r. p (n, r)) q (cond b (Some e.1) (item_at q es))) (sym t)
      at_one false t false u on =
          ap (λ (b : Bool). list_any (λ n. is_eq (nat_cmp q n)) (numbers (cond b (e ∷ filter p es) (filter p es)))) u
          ∙ on
          ∙ ap (λ (b : Bool). passes (λ n r. p (n, r)) q (cond b (Some e.1) (item_at q es))) (sym t)

  fewer_less : (n : ℕ) (p : ℕ × T → Bool) (es : List (ℕ × T)) → AllByRecursion (λ y. nat_cmp n y ≡ Less) (keys_in es) → AllByRecursion (λ y. nat_cmp n y ≡ Less) (keys_in (filter p es))
  fewer_less n p [] h = tt
  fewer_less n p (e ∷ es) h = elim (p e) as (λ (b : Bool). AllByRecursion (λ y. nat_cmp n y ≡ Less) (keys_in (cond b (e ∷ filter p es) (filter p es)))) [ true ↦ (h.0, fewer_less n p es h.1) | false ↦ fewer_less n p es h.1 ]

  pub fewer_rise : (p : ℕ × T → Bool) (es : List (ℕ × T)) → Rise es → Rise (filter p es)
  unfolding IsStrictlySortedBy
  fewer_rise p [] s = tt
  fewer_rise p (e ∷ es) s = elim (p e) as (λ (b : Bool). IsStrictlySortedBy nat_cmp (keys_in (cond b (e ∷ filter p es) (filter p es)))) [ true ↦ (fewer_less e.0 p es s.0, fewer_rise p es s.1) | false ↦ fewer_rise p es s.1 ]

  -- a set of numbers that has those of the entries that pass, and no others
  pub set_is : (p : ℕ × T → Bool) (found : BTreeSet ℕ) (es : List (ℕ × T)) → Rise es → sorted.IsOrdered nat_cmp found → ((q : ℕ) → sorted.contains nat_cmp found q ≡ is_at_number (λ n r. p (n, r)) es q) → found.keys ≡ numbers (filter p es)
  set_is p found es s t h = btree_set_from_contains nat_cmp_total found (record { keys = numbers (filter p es) }) t (fewer_rise p es s) (λ q. h q ∙ sym (number_in p q es s)) exact_unsigned

  -- an entry that stays was there before
  pub was_there : (t : ℕ × T → Bool) (es : List (ℕ × T)) (n : ℕ) (r : T) → Rise es → item_at n (filter t es) ≡ Some r → item_at n es ≡ Some r
  was_there t es n r s is = found_in (λ m x. item_at m es ≡ Some x) n r (filter t es) (all_filter (λ (e : ℕ × T). item_at e.0 es ≡ Some e.1) t es (founds es s)) is
