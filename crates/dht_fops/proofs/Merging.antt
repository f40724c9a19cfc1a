-- Merges of lists that are kept last name first.
use Rattle.std.proofs.Common.{◌≡◌, if◌then◌else◌, Bool, true, false, List, [], ◌∷◌, ◌++◌, reverse, refl, ap}
use Rattle.std.proofs.lemmas.List.{reverse-append, reverse-reverse}
use Rattle.std.specs.Cmp.Lexicographic.{slice_cmp}
use Rattle.std.specs.Ordering.{nat_cmp}
use Rattle.std.specs.declared.cmp.Ordering.TheVariants.{Less, Equal, Greater}
use Rattle.dht_fops.specs.Merges.{merged, real_items}
use Rattle.fop_types.specs.Names.{is_link}
use Rattle.fop_types.specs.declared.contents.Item.{Item}

reverse_last : (items : List Item) (item : Item) → reverse (items ++ item ∷ []) ≡ item ∷ reverse items
reverse_last items item = reverse-append items (item ∷ [])

pub only_first : (left : List Item) (x : Item) → merged (reverse (left ++ x ∷ [])) [] ≡ x ∷ merged (reverse left) []
only_first left x = rw reverse_last refl

pub only_second : (right : List Item) (y : Item) → merged [] (reverse (right ++ y ∷ [])) ≡ y ∷ merged [] (reverse right)
only_second right y = reverse_last right y

pub next_first : (left right : List Item) (x y : Item) → slice_cmp nat_cmp y.name x.name ≡ Greater → merged (reverse (left ++ x ∷ [])) (reverse (right ++ y ∷ [])) ≡ x ∷ merged (reverse left) (reverse (right ++ y ∷ []))
next_first left right x y e = rw (reverse_last left x, reverse_last right y, e) refl

pub next_second : (left right : List Item) (x y : Item) → slice_cmp nat_cmp y.name x.name ≡ Less → merged (reverse (left ++ x ∷ [])) (reverse (right ++ y ∷ [])) ≡ y ∷ merged (reverse (left ++ x ∷ [])) (reverse right)
next_second left right x y e = rw (reverse_last left x, reverse_last right y, e) refl

pub next_both : (left right : List Item) (x y : Item) → slice_cmp nat_cmp y.name x.name ≡ Equal → merged (reverse (left ++ x ∷ [])) (reverse (right ++ y ∷ [])) ≡ y ∷ merged (reverse left) (reverse right)
next_both left right x y e = rw (reverse_last left x, reverse_last right y, e) refl

real_by : (b : Bool) (other item : Item) (items : List Item) → real_items (items ++ item ∷ []) ≡ real_items items ++ item ∷ [] → (if b then real_items (items ++ item ∷ []) else other ∷ real_items (items ++ item ∷ [])) ≡ (if b then real_items items else other ∷ real_items items) ++ item ∷ []
real_by true other item items h = h
real_by false other item items h = ap (λ (l : List Item). other ∷ l) h

pub real_push : (items : List Item) (item : Item) → is_link item.kind ≡ false → real_items (items ++ item ∷ []) ≡ real_items items ++ item ∷ []
real_push [] item e = rw e refl
real_push (other ∷ items) item e = real_by (is_link other.kind) other item items (real_push items item e)

link_by : (b : Bool) (other item : Item) (items : List Item) → real_items (items ++ item ∷ []) ≡ real_items items → (if b then real_items (items ++ item ∷ []) else other ∷ real_items (items ++ item ∷ [])) ≡ (if b then real_items items else other ∷ real_items items)
link_by true other item items h = h
link_by false other item items h = ap (λ (l : List Item). other ∷ l) h

pub link_push : (items : List Item) (item : Item) → is_link item.kind ≡ true → real_items (items ++ item ∷ []) ≡ real_items items
link_push [] item e = rw e refl
link_push (other ∷ items) item e = link_by (is_link other.kind) other item items (link_push items item e)

pub reverse_twice : (items : List Item) → reverse (reverse items) ≡ items
reverse_twice items = reverse-reverse items
