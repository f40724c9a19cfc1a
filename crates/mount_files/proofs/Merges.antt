-- The names of a directory over the sets: they rise, and under each name is what the last set has there, links left out.
use Rattle.std.proofs.Common.{◌≡◌, ◌≢◌, ◌⊎◌, inl, inr, ◌∙◌, ℕ, zero, suc, ◌+◌, ◌<◌, ◌≤◌, ◌==◌, Bool, true, false, List, [], ◌∷◌, Option, Some, None, if◌then◌else◌, nat_lt, refl, ap, sym, subst, arith}
use Rattle.std.proofs.lemmas.Bool.{eqb-true, eqb-false, ltb-true, ltb-false}
use Rattle.std.proofs.lemmas.Cmp.{nat_list_cmp_total}
use Rattle.std.specs.Cmp.Lexicographic.{slice_cmp}
use Rattle.std.specs.List.{range_with_len}
use Rattle.std.specs.Ordering.{nat_cmp, match_ordering}
use Rattle.std.specs.declared.cmp.Ordering.{Ordering}
use Rattle.std.specs.declared.cmp.Ordering.TheVariants.{Less, Equal, Greater}
use Rattle.contents.proofs.SameNames.{name_is}
use Rattle.dht_fops.specs.Merges.{real_items, with_first, merged}
use Rattle.dht_fops.specs.Shown.{SetContents, names_over}
use Rattle.fop_types.specs.Cells.{names_cell}
use Rattle.fop_types.specs.Names.{item_named, is_link}
use Rattle.fop_types.specs.StoreOps.{items_of}
use Rattle.fop_types.specs.declared.cells.Gfid.{Gfid}
use Rattle.fop_types.specs.declared.contents.Item.{Item}
use Rattle.mount_files.proofs.Rises.{same, same_is, IsRising, Above, first_above, rest_rises, rises_on, none_rises, above_more, above_none, less_off, back, greater_off}

-- ---- links left out

abbrev pub real_of : Option Item → Option Item
real_of None = None
real_of (Some item) = if is_link item.kind then None else Some item

real_above : (n : List ℕ) (is : List Item) → Above n is → Above n (real_items is)
real_above n [] a = tt
real_above n (i ∷ is) a = by_link (is_link i.kind) (real_above n is a.1)
  where
    by_link : (b : Bool) → Above n (real_items is) → Above n (if b then real_items is else i ∷ real_items is)
    by_link true h = h
    by_link false h = (a.0, h)

pub real_rises : (is : List Item) → IsRising is → IsRising (real_items is)
real_rises [] s = s
real_rises (i ∷ is) s = by_link (is_link i.kind) (real_rises is (rest_rises i is s))
  where
    by_link : (b : Bool) → IsRising (real_items is) → IsRising (if b then real_items is else i ∷ real_items is)
    by_link true h = h
    by_link false h = rises_on i (real_items is) (real_above i.name is (first_above i is s)) h

pub real_named : (is : List Item) (n : List ℕ) → IsRising is → item_named (real_items is) n ≡ real_of (item_named is n)
real_named [] n s = refl
real_named (i ∷ is) n s = by_case (is_link i.kind) (same i.name n) refl refl (real_named is n (rest_rises i is s))
  where
    by_case : (l b : Bool) → is_link i.kind ≡ l → same i.name n ≡ b → item_named (real_items is) n ≡ real_of (item_named is n)
        → item_named (if l then real_items is else i ∷ real_items is) n ≡ real_of (if b then Some i else item_named is n)
    by_case true true e f h =
        let gone : item_named is n ≡ None = subst (λ (m : List ℕ). item_named is m ≡ None) (same_is i.name n f) (above_none i.name is (first_above i is s)) in
        h ∙ ap real_of gone ∙ sym (ap (λ (x : Bool). if x then None else Some i) e)
    by_case true false e f h = h
    by_case false true e f h = ap (λ (x : Bool). if x then Some i else item_named (real_items is) n) f ∙ sym (ap (λ (x : Bool). if x then None else Some i) e)
    by_case false false e f h = ap (λ (x : Bool). if x then Some i else item_named (real_items is) n) f ∙ h

-- ---- merges

abbrev pub or_else : Option Item → Option Item → Option Item
or_else None other = other
or_else (Some item) other = Some item

or_none : (a : Option Item) → or_else a None ≡ a
or_none None = refl
or_none (Some item) = refl

module _ (x : Item) (xs : List Item) (n : List ℕ) (ih : (os : List Item) → IsRising os → item_named (merged xs os) n ≡ or_else (item_named os n) (item_named xs n)) where
  first_named : (os : List Item) → IsRising os → item_named (with_first x (merged xs) os) n ≡ or_else (item_named os n) (item_named (x ∷ xs) n)
  first_named [] s = ap (λ (t : Option Item). if same x.name n then Some x else t) (ih [] s)
  first_named (o ∷ os) s = by_order (slice_cmp nat_cmp o.name x.name) refl (first_named os rest)
    where
      rest : IsRising os
      rest = rest_rises o os s

      before : (b : Bool) (t u : Option Item) → t ≡ or_else u (item_named (x ∷ xs) n) → (if b then Some o else t) ≡ or_else (if b then Some o else u) (item_named (x ∷ xs) n)
      before true t u h = refl
      before false t u h = h

      both : (b c : Bool) → same o.name n ≡ b → same x.name n ≡ c → o.name ≡ x.name → (if b then Some o else item_named (merged xs os) n) ≡ or_else (if b then Some o else item_named os n) (if c then Some x else item_named xs n)
      both true c e f g = refl
      both false true e f g = let no : same x.name n ≡ false = subst (λ (m : List ℕ). same m n ≡ false) g e in absurd cc
      both false false e f g = ih os rest

      lower : (c : Bool) → same x.name n ≡ c → slice_cmp nat_cmp o.name x.name ≡ Greater
          → (if c then Some x else item_named (merged xs (o ∷ os)) n) ≡ or_else (item_named (o ∷ os) n) (if c then Some x else item_named xs n)
      lower true e f =
          let less = back o.name x.name f in
          let none : item_named (o ∷ os) n ≡ None = subst (λ (m : List ℕ). item_named (o ∷ os) m ≡ None) (same_is x.name n e) (above_none x.name (o ∷ os) (less, above_more x.name o.name os less (first_above o os s))) in
          sym (ap (λ (t : Option Item). or_else t (Some x)) none)
      lower false e f = ih (o ∷ os) s

      by_order : (r : Ordering) → slice_cmp nat_cmp o.name x.name ≡ r → item_named (with_first x (merged xs) os) n ≡ or_else (item_named os n) (item_named (x ∷ xs) n)
          → item_named (match_ordering r (o ∷ with_first x (merged xs) os) (o ∷ merged xs os) (x ∷ merged xs (o ∷ os))) n ≡ or_else (item_named (o ∷ os) n) (item_named (x ∷ xs) n)
      by_order Less f h = before (same o.name n) (item_named (with_first x (merged xs) os) n) (item_named os n) h
      by_order Equal f h = both (same o.name n) (same x.name n) refl refl (name_is o.name x.name f)
      by_order Greater f h = lower (same x.name n) refl f

pub merged_named : (is others : List Item) (n : List ℕ) → IsRising others → item_named (merged is others) n ≡ or_else (item_named others n) (item_named is n)
merged_named [] others n s = sym (or_none (item_named others n))
merged_named (x ∷ xs) others n s = first_named x xs n (λ os t. merged_named xs os n t) others s

module _ (x : Item) (xs : List Item) (k : List ℕ) (ih : (os : List Item) → Above k os → Above k (merged xs os)) where
  above_first : (os : List Item) → slice_cmp nat_cmp k x.name ≡ Less → Above k os → Above k (with_first x (merged xs) os)
  above_first [] h a = (h, ih [] tt)
  above_first (o ∷ os) h a = by_order (slice_cmp nat_cmp o.name x.name) (above_first os h a.1)
    where
      by_order : (r : Ordering) → Above k (with_first x (merged xs) os) → Above k (match_ordering r (o ∷ with_first x (merged xs) os) (o ∷ merged xs os) (x ∷ merged xs (o ∷ os)))
      by_order Less t = (a.0, t)
      by_order Equal t = (a.0, ih os a.1)
      by_order Greater t = (h, ih (o ∷ os) a)

merged_above : (k : List ℕ) (is others : List Item) → Above k is → Above k others → Above k (merged is others)
merged_above k [] others a b = b
merged_above k (x ∷ xs) others a b = above_first x xs k (λ os c. merged_above k xs os a.1 c) others a.0 b

module _ (x : Item) (xs : List Item) (above : Above x.name xs) (ih : (os : List Item) → IsRising os → IsRising (merged xs os)) where
  first_rises : (os : List Item) → IsRising os → IsRising (with_first x (merged xs) os)
  first_rises [] s = rises_on x (merged xs []) (merged_above x.name xs [] above tt) (ih [] s)
  first_rises (o ∷ os) s = by_order (slice_cmp nat_cmp o.name x.name) refl (first_rises os rest)
    where
      rest : IsRising os
      rest = rest_rises o os s

      high : Above o.name os
      high = first_above o os s

      by_order : (r : Ordering) → slice_cmp nat_cmp o.name x.name ≡ r → IsRising (with_first x (merged xs) os) → IsRising (match_ordering r (o ∷ with_first x (merged xs) os) (o ∷ merged xs os) (x ∷ merged xs (o ∷ os)))
      by_order Less f t = rises_on o (with_first x (merged xs) os) (above_first x xs o.name (λ qs c. merged_above o.name xs qs (above_more o.name x.name xs f above) c) os f high) t
      by_order Equal f t =
          let e = name_is o.name x.name f in
          rises_on o (merged xs os) (merged_above o.name xs os (subst (λ (m : List ℕ). Above m xs) (sym e) above) high) (ih os rest)
      by_order Greater f t =
          let less = back o.name x.name f in
          rises_on x (merged xs (o ∷ os)) (merged_above x.name xs (o ∷ os) above (less, above_more x.name o.name os less high)) (ih (o ∷ os) s)

pub merged_rises : (is others : List Item) → IsRising is → IsRising others → IsRising (merged is others)
merged_rises [] others s t = t
merged_rises (x ∷ xs) others s t = first_rises x xs (first_above x xs s) (λ os u. merged_rises xs os (rest_rises x xs s) u) others t

-- ---- over the sets

-- one list of items for each set
abbrev pub Family : Type 0
Family = ℕ → List Item

abbrev pub over : Family → List ℕ → List Item → List Item
over family [] names = names
over family (set ∷ sets) names = over family sets (merged names (real_items (family set)))

abbrev pub family_of : SetContents → Gfid → Family
family_of contents dir set = items_of (contents set (names_cell dir))

pub over_is : (contents : SetContents) (dir : Gfid) (sets : List ℕ) (names : List Item) → names_over contents dir sets names ≡ over (family_of contents dir) sets names
over_is contents dir [] names = refl
over_is contents dir (set ∷ sets) names = over_is contents dir sets (merged names (real_items (items_of (contents set (names_cell dir)))))

pub over_rises : (family : Family) (sets : List ℕ) (names : List Item) → ((set : ℕ) → IsRising (family set)) → IsRising names → IsRising (over family sets names)
over_rises family [] names all s = s
over_rises family (set ∷ sets) names all s = over_rises family sets (merged names (real_items (family set))) all (merged_rises names (real_items (family set)) s (real_rises (family set) (all set)))

-- what a set has under a name, links left out
abbrev pub real_at : Family → List ℕ → ℕ → Option Item
real_at family n set = real_of (item_named (family set) n)

abbrev pub last_of : (ℕ → Option Item) → List ℕ → Option Item → Option Item
last_of found [] so_far = so_far
last_of found (set ∷ sets) so_far = last_of found sets (or_else (found set) so_far)

pub over_named : (family : Family) (sets : List ℕ) (names : List Item) (n : List ℕ) → ((set : ℕ) → IsRising (family set)) → item_named (over family sets names) n ≡ last_of (real_at family n) sets (item_named names n)
over_named family [] names n all = refl
over_named family (set ∷ sets) names n all =
    over_named family sets (merged names (real_items (family set))) n all
    ∙ ap (λ (t : Option Item). last_of (real_at family n) sets t) (merged_named names (real_items (family set)) n (real_rises (family set) (all set))
    ∙ ap (λ (t : Option Item). or_else t (item_named names n)) (real_named (family set) n (all set)))

pub last_same : (a b : ℕ → Option Item) (sets : List ℕ) (so_far : Option Item) → ((set : ℕ) → a set ≡ b set) → last_of a sets so_far ≡ last_of b sets so_far
last_same a b [] so_far h = refl
last_same a b (set ∷ sets) so_far h = last_same a b sets (or_else (a set) so_far) h ∙ ap (λ (t : Option Item). last_of b sets (or_else t so_far)) (h set)

pub last_none : (a : ℕ → Option Item) (sets : List ℕ) (so_far : Option Item) → ((set : ℕ) → a set ≡ None) → last_of a sets so_far ≡ so_far
last_none a [] so_far h = refl
last_none a (set ∷ sets) so_far h = last_none a sets (or_else (a set) so_far) h ∙ ap (λ (t : Option Item). or_else t so_far) (h set)

last_stays : (a : ℕ → Option Item) (one : ℕ) (item : Item) (sets : List ℕ) → a one ≡ Some item → ((set : ℕ) → set ≢ one → a set ≡ None) → last_of a sets (Some item) ≡ Some item
last_stays a one item [] here others = refl
last_stays a one item (set ∷ sets) here others = ap (λ (t : Option Item). last_of a sets t) (by_case (set == one) refl) ∙ last_stays a one item sets here others
  where
    by_case : (b : Bool) → (set == one) ≡ b → or_else (a set) (Some item) ≡ Some item
    by_case true e = ap (λ (t : Option Item). or_else t (Some item)) (ap a (eqb-true set one e) ∙ here)
    by_case false e = ap (λ (t : Option Item). or_else t (Some item)) (others set (eqb-false set one e))

pub last_one : (a : ℕ → Option Item) (one : ℕ) (item : Item) (count first : ℕ) (so_far : Option Item) → first ≤ one → one < first + count → a one ≡ Some item → ((set : ℕ) → set ≢ one → a set ≡ None)
    → last_of a (range_with_len first count) so_far ≡ Some item
last_one a one item zero first so_far low high here others = absurd (omega arith)
last_one a one item (suc count) first so_far low high here others = by_case (first == one) refl (λ above. last_one a one item count (first + 1) (or_else (a first) so_far) above (omega arith) here others)
  where
    above_by : (x y : ℕ) (c : Bool) → nat_lt x y ≡ c → x ≤ y → (x ≡ y → ⊥) → x + 1 ≤ y
    above_by x y true f h d = let less = ltb-true x y f in omega arith
    above_by x y false f h d = absurd (d (let more = ltb-false x y f in omega arith))

    by_case : (b : Bool) → (first == one) ≡ b → (first + 1 ≤ one → last_of a (range_with_len (first + 1) count) (or_else (a first) so_far) ≡ Some item) → last_of a (range_with_len (first + 1) count) (or_else (a first) so_far) ≡ Some item
    by_case true e later =
        ap (λ (t : Option Item). last_of a (range_with_len (first + 1) count) (or_else t so_far)) (ap a (eqb-true first one e) ∙ here)
        ∙ last_stays a one item (range_with_len (first + 1) count) here others
    by_case false e later = later (above_by first one (nat_lt first one) refl low (eqb-false first one e))
