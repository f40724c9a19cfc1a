-- A name that is free makes a list of names longer by one; so none is replaced.
use Rattle.std.proofs.Common.{◌≡◌, ◌<◌, ◌∷◌, ◌++◌, ◌∙◌, ℕ, suc, zero, ◌≤◌, true, false, true≢false, sym, refl, ap, List, [], length, take, drop, arith}
use Rattle.std.specs.List.{insert, remove}
use Rattle.std.proofs.lemmas.List.{length-set}
use Rattle.fop_types.proofs.Places.{set_parts}
use Rattle.std.specs.Prelude.{Bool, Some, None, nat_eq, is_some, if◌then◌else◌}
use Rattle.std.specs.declared.cmp.Ordering.{Ordering}
use Rattle.std.specs.declared.cmp.Ordering.TheVariants.{Less, Equal, Greater}
use Rattle.std.specs.Ordering.{nat_cmp, is_eq, ordering_reverse}
use Rattle.std.specs.Cmp.{tied_back}
use Rattle.std.specs.Cmp.Lexicographic.{slice_cmp, pointwise, texts_ties, nat_list_cmp_total}
use Rattle.fop_types.specs.declared.contents.Item.{Item}
use Rattle.fop_types.specs.Names.{item_named, with_item}

same_name : (a b : List ℕ) → slice_cmp nat_cmp a b ≡ Equal → pointwise nat_eq b a ≡ true
same_name a b e = texts_ties b a ∙ ap is_eq (tied_back nat_list_cmp_total a b e)

other_name : (a b : List ℕ) → slice_cmp nat_cmp a b ≡ Greater → pointwise nat_eq b a ≡ false
other_name a b e = texts_ties b a ∙ ap is_eq (nat_list_cmp_total.antisymm b a ∙ ap ordering_reverse e)

longer_by : (o : Ordering) (items : List Item) (item other : Item) → slice_cmp nat_cmp item.name other.name ≡ o → item_named (other ∷ items) item.name ≡ None
    → (item_named items item.name ≡ None → length (with_item items item) ≡ suc (length items))
    → length (with_item (other ∷ items) item) ≡ suc (suc (length items))
longer_by Less items item other e free rest = rw e refl
longer_by Equal items item other e free rest =
    let taken : Some other ≡ None = sym (ap (λ (b : Bool). if b then Some other else item_named items item.name) (same_name item.name other.name e)) ∙ free in
    absurd (true≢false (ap is_some taken))
longer_by Greater items item other e free rest =
    let later : item_named items item.name ≡ None = sym (ap (λ (b : Bool). if b then Some other else item_named items item.name) (other_name item.name other.name e)) ∙ free in
    rw e (ap suc (rest later))

pub longer : (items : List Item) (item : Item) → item_named items item.name ≡ None → length (with_item items item) ≡ suc (length items)
longer [] item free = refl
longer (other ∷ items) item free = longer_by (slice_cmp nat_cmp item.name other.name) items item other refl free (longer items item)

-- so an item that takes another's place has a name that is there
pub taken_is_named : (all items : List Item) (item : Item) (i : ℕ) → items ≡ all → item_named all item.name ≡ None → i < length items
    → with_item items item ≡ take i items ++ item ∷ drop (suc i) items → ⊥
taken_is_named all items item i seen free_of_all fits same =
    let free : item_named items item.name ≡ None = ap (λ (l : List Item). item_named l item.name) seen ∙ free_of_all in
    let lengths : length (with_item items item) ≡ length items = ap length (same ∙ sym (set_parts items i item fits)) ∙ length-set items i item in
    let more : length (with_item items item) ≡ suc (length items) = longer items item free in
    omega (arith, lengths, more)

-- what was put in is taken out again
pub remove_inserted : {X : Type 0} → (xs : List X) (i : ℕ) (x : X) → i ≤ length xs → remove (insert xs i x) i ≡ xs
remove_inserted [] zero x fits = refl
remove_inserted [] (suc i) x fits = absurd (omega arith)
remove_inserted (y ∷ ys) zero x fits = refl
remove_inserted (y ∷ ys) (suc i) x fits = ap (λ (l : List _). y ∷ l) (remove_inserted ys i x (omega arith))
