-- The items of a directory and the attributes of an object, as things whose names rise.
use Rattle.std.proofs.Common.{◌≡◌, ℕ, suc, ◌<◌, ◌≤◌, true, List, [], ◌∷◌, ◌++◌, Option, Some, None, refl, sym, ap, ◌∙◌, subst, length, take, drop, slice_get, if◌then◌else◌, arith}
use Rattle.std.specs.Prelude.{nat_eq, insert}
use Rattle.std.specs.List.{remove}
use Rattle.std.specs.Ordering.{nat_cmp, match_ordering}
use Rattle.std.specs.Cmp.Lexicographic.{slice_cmp, pointwise}
use Rattle.fop_types.specs.Names.{item_named, with_item, without_item, attr_named, with_attr, without_attr}
use Rattle.fop_types.specs.declared.contents.Attr.{Attr}
use Rattle.fop_types.specs.declared.contents.Item.{Item}
use Rattle.contents.specs.Rising.{Rise, item_names, attr_names, GoesAt}
use Rattle.contents.proofs.RisingNames.{names, with_named, without_named, named, length_names, there_few, with_free, with_taken, absent, present, with_rises, without_rises}

abbrev name_of : Item → List ℕ
name_of i = i.name

abbrev key_of : Attr → List ℕ
key_of a = a.name

-- ---- the words of items and of attributes are those of things with names
with_item_is : (is : List Item) (i : Item) → with_item is i ≡ with_named name_of is i
with_item_is [] i = refl
with_item_is (o ∷ is) i = ap (λ (l : List Item). match_ordering (slice_cmp nat_cmp i.name o.name) (i ∷ o ∷ is) (i ∷ is) (o ∷ l)) (with_item_is is i)

without_item_is : (is : List Item) (n : List ℕ) → without_item is n ≡ without_named name_of is n
without_item_is [] n = refl
without_item_is (o ∷ is) n = ap (λ (l : List Item). if pointwise nat_eq o.name n then is else o ∷ l) (without_item_is is n)

item_named_is : (is : List Item) (n : List ℕ) → item_named is n ≡ named name_of is n
item_named_is [] n = refl
item_named_is (o ∷ is) n = ap (λ (l : Option Item). if pointwise nat_eq o.name n then Some o else l) (item_named_is is n)

with_attr_is : (xs : List Attr) (a : Attr) → with_attr xs a ≡ with_named key_of xs a
with_attr_is [] a = refl
with_attr_is (o ∷ xs) a = ap (λ (l : List Attr). match_ordering (slice_cmp nat_cmp a.name o.name) (a ∷ o ∷ xs) (a ∷ xs) (o ∷ l)) (with_attr_is xs a)

without_attr_is : (xs : List Attr) (n : List ℕ) → without_attr xs n ≡ without_named key_of xs n
without_attr_is [] n = refl
without_attr_is (o ∷ xs) n = ap (λ (l : List Attr). if pointwise nat_eq o.name n then xs else o ∷ l) (without_attr_is xs n)

attr_named_is : (xs : List Attr) (n : List ℕ) → attr_named xs n ≡ named key_of xs n
attr_named_is [] n = refl
attr_named_is (o ∷ xs) n = ap (λ (l : Option Attr). if pointwise nat_eq o.name n then Some o else l) (attr_named_is xs n)

few_of : {X : Type 0} (name : X → List ℕ) (xs : List X) (n : List ℕ) (i : ℕ) → GoesAt (names name xs) n i → i ≤ length xs
few_of name xs n i g = let w = g.within in let e = length_names name xs in omega (arith, w, e)

-- ---- items
pub item_taken : (is : List Item) (i : Item) (at : ℕ) (n : List ℕ) → n ≡ i.name → Rise (item_names is) → slice_get (item_names is) at ≡ Some n → (at < length is) × (with_item is i ≡ take at is ++ i ∷ drop (suc at) is)
item_taken is i at n same s h = (there_few name_of is at n h, with_item_is is i ∙ with_taken name_of is i at s (h ∙ ap Some same))

pub item_free : (is : List Item) (i : Item) (at : ℕ) (n : List ℕ) → n ≡ i.name → Rise (item_names is) → GoesAt (item_names is) n at → (at ≤ length is) × (with_item is i ≡ insert is at i)
item_free is i at n same s g = (few_of name_of is n at g, with_item_is is i ∙ with_free name_of is i at s (subst (λ (m : List ℕ). GoesAt (item_names is) m at) same g))

pub item_there : (is : List Item) (n : List ℕ) (at : ℕ) → Rise (item_names is) → slice_get (item_names is) at ≡ Some n → (at < length is) × (without_item is n ≡ remove is at)
item_there is n at s h = (there_few name_of is at n h, without_item_is is n ∙ (present name_of is n at s h).0)

pub item_absent : (is : List Item) (n : List ℕ) (at : ℕ) → Rise (item_names is) → GoesAt (item_names is) n at → without_item is n ≡ is
item_absent is n at s g = without_item_is is n ∙ (absent name_of is n at s g).0

pub item_found : (is : List Item) (n : List ℕ) (at : ℕ) → Rise (item_names is) → slice_get (item_names is) at ≡ Some n → slice_get is at ≡ item_named is n
item_found is n at s h = sym (item_named_is is n ∙ (present name_of is n at s h).1)

pub item_missing : (is : List Item) (n : List ℕ) (at : ℕ) → Rise (item_names is) → GoesAt (item_names is) n at → None ≡ item_named is n
item_missing is n at s g = sym (item_named_is is n ∙ (absent name_of is n at s g).1)

pub item_in_rises : (is : List Item) (i : Item) → Rise (item_names is) → Rise (item_names (with_item is i))
item_in_rises is i s = subst (λ (l : List Item). Rise (item_names l)) (sym (with_item_is is i)) (with_rises name_of is i s)

pub item_out_rises : (is : List Item) (n : List ℕ) → Rise (item_names is) → Rise (item_names (without_item is n))
item_out_rises is n s = subst (λ (l : List Item). Rise (item_names l)) (sym (without_item_is is n)) (without_rises name_of is n s)

-- items of which one was taken out
pub rest_rises : (old held seen : List Item) (n : List ℕ) (i : ℕ) → held ≡ old → seen ≡ old → Rise (item_names old) → without_item seen n ≡ remove seen i → Rise (item_names (remove held i))
rest_rises old held seen n i same again s out =
    let left : without_item old n ≡ remove old i = subst (λ (l : List Item). without_item l n ≡ remove l i) again out in
    subst (λ (l : List Item). Rise (item_names (remove l i))) (sym same) (subst (λ (l : List Item). Rise (item_names l)) left (item_out_rises old n s))

-- ---- attributes
pub attr_taken : (xs : List Attr) (a : Attr) (at : ℕ) (n : List ℕ) → n ≡ a.name → Rise (attr_names xs) → slice_get (attr_names xs) at ≡ Some n → (at < length xs) × (with_attr xs a ≡ take at xs ++ a ∷ drop (suc at) xs)
attr_taken xs a at n same s h = (there_few key_of xs at n h, with_attr_is xs a ∙ with_taken key_of xs a at s (h ∙ ap Some same))

pub attr_free : (xs : List Attr) (a : Attr) (at : ℕ) (n : List ℕ) → n ≡ a.name → Rise (attr_names xs) → GoesAt (attr_names xs) n at → (at ≤ length xs) × (with_attr xs a ≡ insert xs at a)
attr_free xs a at n same s g = (few_of key_of xs n at g, with_attr_is xs a ∙ with_free key_of xs a at s (subst (λ (m : List ℕ). GoesAt (attr_names xs) m at) same g))

pub attr_there : (xs : List Attr) (n : List ℕ) (at : ℕ) → Rise (attr_names xs) → slice_get (attr_names xs) at ≡ Some n → (at < length xs) × (without_attr xs n ≡ remove xs at)
attr_there xs n at s h = (there_few key_of xs at n h, without_attr_is xs n ∙ (present key_of xs n at s h).0)

pub attr_absent : (xs : List Attr) (n : List ℕ) (at : ℕ) → Rise (attr_names xs) → GoesAt (attr_names xs) n at → without_attr xs n ≡ xs
attr_absent xs n at s g = without_attr_is xs n ∙ (absent key_of xs n at s g).0

pub attr_found : (xs : List Attr) (n : List ℕ) (at : ℕ) → Rise (attr_names xs) → slice_get (attr_names xs) at ≡ Some n → slice_get xs at ≡ attr_named xs n
attr_found xs n at s h = sym (attr_named_is xs n ∙ (present key_of xs n at s h).1)

pub attr_missing : (xs : List Attr) (n : List ℕ) (at : ℕ) → Rise (attr_names xs) → GoesAt (attr_names xs) n at → None ≡ attr_named xs n
attr_missing xs n at s g = sym (attr_named_is xs n ∙ (absent key_of xs n at s g).1)

pub attr_in_rises : (xs : List Attr) (a : Attr) → Rise (attr_names xs) → Rise (attr_names (with_attr xs a))
attr_in_rises xs a s = subst (λ (l : List Attr). Rise (attr_names l)) (sym (with_attr_is xs a)) (with_rises key_of xs a s)

pub attr_out_rises : (xs : List Attr) (n : List ℕ) → Rise (attr_names xs) → Rise (attr_names (without_attr xs n))
attr_out_rises xs n s = subst (λ (l : List Attr). Rise (attr_names l)) (sym (without_attr_is xs n)) (without_rises key_of xs n s)
