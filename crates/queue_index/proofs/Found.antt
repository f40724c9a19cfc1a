-- The first place from a number on, in what a range of the places gives.
use Rattle.std.proofs.Common.{◌≡◌, ℕ, ◌≤◌, Bool, true, false, List, [], ◌∷◌, refl, sym, ◌∙◌, subst, IfSome, slice_get}
use Rattle.std.specs.Ordering.{is_gt}
use Rattle.std.specs.declared.ops.Bound.TheVariants.{Included, Unbounded}
use Rattle.std.specs.BTreeSet.{BTreeSet, contains, IsKeyRangeOf, IsKeyInRange}
use Rattle.std.specs.BTreeMap.Range.{IsLeBy}
use Rattle.queue_index.specs.declared.key.Key.{Key}
use Rattle.queue_index.specs.declared.place.Place.{Place}
use Rattle.queue_index.specs.Places.{is_key, place_cmp, place, IsFirst, IsNone}
use Rattle.queue_index.proofs.Orders.{of_the_key, key_is, key_itself, at_or_after, number_after}

head_in : (s : BTreeSet Place) (key : Key) (from : ℕ) (x : Place) (t r : List Place) → r ≡ x ∷ t → IsKeyRangeOf place_cmp (Included (place key from)) Unbounded s r → IsKeyInRange place_cmp (Included (place key from)) Unbounded s x
head_in s key from x t r is part = subst (λ (l : List Place). IfSome (slice_get l 0) (IsKeyInRange place_cmp (Included (place key from)) Unbounded s)) is part.1

head_least : (s : BTreeSet Place) (key : Key) (from : ℕ) (x : Place) (t r : List Place) → r ≡ x ∷ t → IsKeyRangeOf place_cmp (Included (place key from)) Unbounded s r → (n : ℕ) → from ≤ n → contains place_cmp s (place key n) ≡ true → is_gt (place_cmp x (place key n)) ≡ false
head_least s key from x t r is part n late there = subst (λ (l : List Place). IfSome (slice_get l 0) (λ k. IsLeBy place_cmp k (place key n))) is (part.2 (place key n) (at_or_after key from n late, tt) there)

pub first_is : (s : BTreeSet Place) (key : Key) (from : ℕ) (x : Place) (t r : List Place) → r ≡ x ∷ t → IsKeyRangeOf place_cmp (Included (place key from)) Unbounded s r → is_key x.key key ≡ true → IsFirst s key from x.number
first_is s key from x t r is part same =
    let e : x.key ≡ key = key_is x.key key same in
    let h = head_in s key from x t r is part in
    record {
      late = number_after key from x.number (subst (λ (k : Key). is_gt (place_cmp (place key from) (place k x.number)) ≡ false) e h.0.0);
      there = subst (λ (k : Key). contains place_cmp s (place k x.number) ≡ true) e h.1;
      least = λ n late there. number_after key x.number n (subst (λ (k : Key). is_gt (place_cmp (place k x.number) (place key n)) ≡ false) e (head_least s key from x t r is part n late there));
    }

decided : (b : Bool) → (b ≡ true → ⊥) → b ≡ false
decided true h = absurd (h refl)
decided false h = refl

pub none_of : (s : BTreeSet Place) (key : Key) (from : ℕ) (x : Place) (t r : List Place) → r ≡ x ∷ t → IsKeyRangeOf place_cmp (Included (place key from)) Unbounded s r → is_key x.key key ≡ false → IsNone s key from
none_of s key from x t r is part other n late = decided _ (λ there.
    let h = head_in s key from x t r is part in
    let e : key ≡ x.key = of_the_key key from n x h.0.0 (head_least s key from x t r is part n late there) in
    let same : is_key x.key key ≡ true = subst (λ (k : Key). is_key k key ≡ true) e (key_itself key) in
    absurd (let f : true ≡ false = sym same ∙ other in cc))

pub none_at_all : (s : BTreeSet Place) (key : Key) (from : ℕ) (r : List Place) → r ≡ [] → IsKeyRangeOf place_cmp (Included (place key from)) Unbounded s r → IsNone s key from
none_at_all s key from r is part n late = part.5 is (place key n) (at_or_after key from n late, tt)
