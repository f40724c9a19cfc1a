-- Items whose names rise: what is found under a name among them after one was put in or taken out, and that two such lists
-- are one where they have the same under each name.
use Rattle.std.proofs.Common.{◌≡◌, ◌∙◌, ℕ, Bool, true, false, List, [], ◌∷◌, Option, Some, None, if◌then◌else◌, nat_eq, refl, ap, sym, subst}
use Rattle.std.specs.Cmp.Lexicographic.{slice_cmp, pointwise}
use Rattle.std.specs.List.{AllByRecursion}
use Rattle.std.specs.List.Sorted.{IsStrictlySortedBy}
use Rattle.std.specs.Ordering.{nat_cmp, is_eq, match_ordering, ordering_reverse}
use Rattle.std.specs.declared.cmp.Ordering.{Ordering}
use Rattle.std.specs.declared.cmp.Ordering.TheVariants.{Less, Equal, Greater}
use Rattle.std.proofs.lemmas.Cmp.{nat_list_cmp_total, tied_itself}
use Rattle.contents.specs.Rising.{Rise, item_names}
use Rattle.contents.proofs.SameNames.{same_name, other_name, name_is}
use Rattle.dht_fops.specs.Standing.{AreOnce}
use Rattle.fop_types.specs.Names.{item_named, with_item, without_item}
use Rattle.fop_types.specs.declared.contents.Item.{Item}

-- ---- names

abbrev pub same : List ℕ → List ℕ → Bool
same a b = pointwise nat_eq a b

pub same_self : (a : List ℕ) → same a a ≡ true
same_self a = same_name a a refl

equal_is : (o : Ordering) → is_eq o ≡ true → o ≡ Equal
equal_is Less e = absurd cc
equal_is Equal e = refl
equal_is Greater e = absurd cc

pub same_is : (a b : List ℕ) → same a b ≡ true → a ≡ b
same_is a b e = by_case (is_eq (slice_cmp nat_cmp a b)) refl
  where
    by_case : (x : Bool) → is_eq (slice_cmp nat_cmp a b) ≡ x → a ≡ b
    by_case true f = name_is a b (equal_is (slice_cmp nat_cmp a b) f)
    by_case false f = let no : same a b ≡ false = other_name a b f in absurd cc

pub not_same : (a b : List ℕ) → (a ≡ b → ⊥) → same a b ≡ false
not_same a b d = by_case (same a b) refl
  where
    by_case : (x : Bool) → same a b ≡ x → x ≡ false
    by_case true f = absurd (d (same_is a b f))
    by_case false f = refl

pub less_off : (a b : List ℕ) → slice_cmp nat_cmp a b ≡ Less → same a b ≡ false
less_off a b h = other_name a b (ap is_eq h)

pub greater_off : (a b : List ℕ) → slice_cmp nat_cmp a b ≡ Greater → same a b ≡ false
greater_off a b h = other_name a b (ap is_eq h)

pub turned : (a b : List ℕ) → slice_cmp nat_cmp a b ≡ Less → slice_cmp nat_cmp b a ≡ Greater
turned a b h = nat_list_cmp_total.antisymm b a ∙ ap ordering_reverse h

pub back : (a b : List ℕ) → slice_cmp nat_cmp a b ≡ Greater → slice_cmp nat_cmp b a ≡ Less
back a b h = nat_list_cmp_total.antisymm b a ∙ ap ordering_reverse h

-- ---- the first of items whose names rise

abbrev pub IsRising : List Item → Type 0
IsRising items = Rise (item_names items)

abbrev pub Above : List ℕ → List Item → Type 0
Above n items = AllByRecursion (λ (m : List ℕ). slice_cmp nat_cmp n m ≡ Less) (item_names items)

pub first_above : (i : Item) (is : List Item) → IsRising (i ∷ is) → Above i.name is
unfolding IsStrictlySortedBy
first_above i is s = s.0

pub rest_rises : (i : Item) (is : List Item) → IsRising (i ∷ is) → IsRising is
unfolding IsStrictlySortedBy
rest_rises i is s = s.1

pub rises_on : (i : Item) (is : List Item) → Above i.name is → IsRising is → IsRising (i ∷ is)
unfolding IsStrictlySortedBy
rises_on i is a s = (a, s)

pub none_rises : IsRising []
unfolding IsStrictlySortedBy
none_rises = tt

pub above_more : (m n : List ℕ) (is : List Item) → slice_cmp nat_cmp m n ≡ Less → Above n is → Above m is
above_more m n [] h a = tt
above_more m n (i ∷ is) h a = (nat_list_cmp_total.trans m n i.name h a.0, above_more m n is h a.1)

pub above_none : (n : List ℕ) (is : List Item) → Above n is → item_named is n ≡ None
above_none n [] a = refl
above_none n (i ∷ is) a =
    let off : same i.name n ≡ false = greater_off i.name n (turned n i.name a.0) in
    ap (λ (b : Bool). if b then Some i else item_named is n) off ∙ above_none n is a.1

pub rise_once : (is : List Item) → IsRising is → AreOnce is
rise_once [] s = tt
rise_once (i ∷ is) s = (above_none i.name is (first_above i is s), rise_once is (rest_rises i is s))

-- ---- one item more or less

if_same : {A : Type 0} → (b : Bool) (x y z : A) → (b ≡ false → y ≡ z) → (if b then x else y) ≡ (if b then x else z)
if_same true x y z h = refl
if_same false x y z h = h refl

pub named_with : (is : List Item) (i : Item) (n : List ℕ) → item_named (with_item is i) n ≡ (if same i.name n then Some i else item_named is n)
named_with [] i n = refl
named_with (o ∷ is) i n = by_order (slice_cmp nat_cmp i.name o.name) refl (named_with is i n)
  where
    apart : slice_cmp nat_cmp i.name o.name ≡ Greater → same i.name n ≡ true → same o.name n ≡ false
    apart f e = subst (λ (m : List ℕ). same o.name m ≡ false) (same_is i.name n e) (less_off o.name i.name (back i.name o.name f))

    swapped : (a b : Bool) → (b ≡ true → a ≡ false) → (if a then Some o else (if b then Some i else item_named is n)) ≡ (if b then Some i else (if a then Some o else item_named is n))
    swapped true true h = let no = h refl in absurd cc
    swapped true false h = refl
    swapped false true h = refl
    swapped false false h = refl

    by_order : (r : Ordering) → slice_cmp nat_cmp i.name o.name ≡ r → item_named (with_item is i) n ≡ (if same i.name n then Some i else item_named is n)
        → item_named (match_ordering r (i ∷ o ∷ is) (i ∷ is) (o ∷ with_item is i)) n ≡ (if same i.name n then Some i else item_named (o ∷ is) n)
    by_order Less f h = refl
    by_order Equal f h =
        if_same (same i.name n) (Some i) (item_named is n) (item_named (o ∷ is) n)
        (λ off. ap (λ (b : Bool). if b then Some o else item_named is n) (sym (subst (λ (m : List ℕ). same m n ≡ false) (name_is i.name o.name f) off)))
    by_order Greater f h = ap (λ (t : Option Item). if same o.name n then Some o else t) h ∙ swapped (same o.name n) (same i.name n) (apart f)

pub named_without : (is : List Item) (n m : List ℕ) → AreOnce is → item_named (without_item is n) m ≡ (if same n m then None else item_named is m)
named_without [] n m once = by_case (same n m)
  where
    by_case : (b : Bool) → ◌≡◌ {A = Option Item} None (if b then None else None)
    by_case true = refl
    by_case false = refl
named_without (o ∷ is) n m once = by_case (same o.name n) (same n m) (same o.name m) refl refl refl (named_without is n m once.1)
  where
    by_case : (a b c : Bool) → same o.name n ≡ a → same n m ≡ b → same o.name m ≡ c → item_named (without_item is n) m ≡ (if b then None else item_named is m)
        → item_named (if a then is else o ∷ without_item is n) m ≡ (if b then None else (if c then Some o else item_named is m))
    by_case true true c e f g h = subst (λ (k : List ℕ). item_named is k ≡ None) (same_is o.name n e ∙ same_is n m f) once.0
    by_case true false true e f g h = let no : same n m ≡ true = subst (λ (k : List ℕ). same k m ≡ true) (same_is o.name n e) g in absurd cc
    by_case true false false e f g h = refl
    by_case false true true e f g h = let no : same o.name n ≡ true = subst (λ (k : List ℕ). same o.name k ≡ true) (sym (same_is n m f)) g in absurd cc
    by_case false true false e f g h = ap (λ (x : Bool). if x then Some o else item_named (without_item is n) m) g ∙ h
    by_case false false true e f g h = ap (λ (x : Bool). if x then Some o else item_named (without_item is n) m) g
    by_case false false false e f g h = ap (λ (x : Bool). if x then Some o else item_named (without_item is n) m) g ∙ h

-- ---- two lists with the same under each name

none_some : (a b : Option Item) (i : Item) → a ≡ b → a ≡ None → b ≡ Some i → ⊥
none_some a b i e f g = absurd cc

first_named : (i : Item) (is : List Item) → item_named (i ∷ is) i.name ≡ Some i
first_named i is = ap (λ (b : Bool). if b then Some i else item_named is i.name) (same_self i.name)

some_is : (a b : Item) → ◌≡◌ {A = Option Item} (Some a) (Some b) → a ≡ b
some_is a b e = cc

pub same_items : (xs ys : List Item) → IsRising xs → IsRising ys → ((n : List ℕ) → item_named xs n ≡ item_named ys n) → xs ≡ ys
same_items [] [] s t h = refl
same_items [] (y ∷ ys) s t h = absurd (none_some None (item_named (y ∷ ys) y.name) y (h y.name) refl (first_named y ys))
same_items (x ∷ xs) [] s t h = absurd (none_some None (item_named (x ∷ xs) x.name) x (sym (h x.name)) refl (first_named x xs))
same_items (x ∷ xs) (y ∷ ys) s t h = by_order (slice_cmp nat_cmp x.name y.name) refl (λ k. same_items xs ys (rest_rises x xs s) (rest_rises y ys t) k)
  where
    -- a name below both heads
    below : (a b : Item) (bs : List Item) → slice_cmp nat_cmp a.name b.name ≡ Less → IsRising (b ∷ bs) → item_named (b ∷ bs) a.name ≡ None
    below a b bs f r = above_none a.name (b ∷ bs) (f, above_more a.name b.name bs f (first_above b bs r))

    heads : x.name ≡ y.name → x ≡ y
    heads e = some_is x y (sym (first_named x xs) ∙ h x.name ∙ subst (λ (n : List ℕ). item_named (y ∷ ys) n ≡ Some y) (sym e) (first_named y ys))

    tails : x.name ≡ y.name → (n : List ℕ) → item_named xs n ≡ item_named ys n
    tails e n = by_case (same x.name n) refl
      where
        off : same x.name n ≡ false → item_named xs n ≡ item_named ys n
        off f =
            let g : same y.name n ≡ false = subst (λ (k : List ℕ). same k n ≡ false) e f in
            sym (ap (λ (b : Bool). if b then Some x else item_named xs n) f) ∙ h n ∙ ap (λ (b : Bool). if b then Some y else item_named ys n) g

        by_case : (b : Bool) → same x.name n ≡ b → item_named xs n ≡ item_named ys n
        by_case true f =
            let a : item_named xs n ≡ None = subst (λ (k : List ℕ). item_named xs k ≡ None) (same_is x.name n f) (above_none x.name xs (first_above x xs s)) in
            let b : item_named ys n ≡ None = subst (λ (k : List ℕ). item_named ys k ≡ None) (sym e ∙ same_is x.name n f) (above_none y.name ys (first_above y ys t)) in
            a ∙ sym b
        by_case false f = off f

    by_order : (r : Ordering) → slice_cmp nat_cmp x.name y.name ≡ r → (((n : List ℕ) → item_named xs n ≡ item_named ys n) → xs ≡ ys) → ◌≡◌ {A = List Item} (x ∷ xs) (y ∷ ys)
    by_order Less f rest = absurd (none_some (item_named (y ∷ ys) x.name) (item_named (x ∷ xs) x.name) x (sym (h x.name)) (below x y ys f t) (first_named x xs))
    by_order Equal f rest =
        let e : x.name ≡ y.name = name_is x.name y.name f in
        ap (λ (i : Item). i ∷ xs) (heads e) ∙ ap (λ (l : List Item). y ∷ l) (rest (tails e))
    by_order Greater f rest = absurd (none_some (item_named (x ∷ xs) y.name) (item_named (y ∷ ys) y.name) y (h y.name) (below y x xs (back x.name y.name f) s) (first_named y ys))
