-- One place more, put in or taken out.
use Rattle.std.proofs.Common.{◌≡◌, ℕ, ◌+◌, ◌<◌, Bool, true, false, not, ◌&&◌, ◌||◌, ◌==◌, cond, List, [], ◌∷◌, ◌++◌, refl, sym, ap, ◌∙◌, arith, get_or, take, length, suc, zero}
use Rattle.std.proofs.Math.Seq.{take-suc}
use Rattle.std.specs.Ordering.{is_eq}
use Rattle.queue_index.specs.declared.key.Key.{Key}
use Rattle.queue_index.specs.declared.place.Place.{Place}
use Rattle.queue_index.specs.Places.{is_key, has_key, is_of, place_cmp, place}
use Rattle.queue_index.proofs.Orders.{same_place}

up : (i : ℕ) → i + 1 ≡ suc i
up i = omega arith

one_more : (xs : List Key) (i : ℕ) (r : Key) → r ≡ get_or xs i r → i < length xs → take (i + 1) xs ≡ take i xs ++ r ∷ []
one_more xs i r is fits = ap (λ (n : ℕ). take n xs) (up i) ∙ take-suc xs i r fits ∙ ap (λ (x : Key). take i xs ++ x ∷ []) (sym is)

eq_flip : (a b : ℕ) → (a == b) ≡ (b == a)
eq_flip a b = grind (arith)

key_flip : (a b : Key) → is_key a b ≡ is_key b a
key_flip a b =
    ap (λ (t : Bool). t && ((a.hi == b.hi) && ((a.lo == b.lo) && (a.mode == b.mode)))) (eq_flip a.kind b.kind)
    ∙ ap (λ (t : Bool). (b.kind == a.kind) && (t && ((a.lo == b.lo) && (a.mode == b.mode)))) (eq_flip a.hi b.hi)
    ∙ ap (λ (t : Bool). (b.kind == a.kind) && ((b.hi == a.hi) && (t && (a.mode == b.mode)))) (eq_flip a.lo b.lo)
    ∙ ap (λ (t : Bool). (b.kind == a.kind) && ((b.hi == a.hi) && ((b.lo == a.lo) && t))) (eq_flip a.mode b.mode)

hit : (k : Key) (n : ℕ) (q : Place) → is_eq (place_cmp (place k n) q) ≡ (is_key q.key k && (q.number == n))
hit k n q = same_place (place k n) q ∙ ap (λ (t : Bool). t && (n == q.number)) (key_flip k q.key) ∙ ap (λ (t : Bool). is_key q.key k && t) (eq_flip n q.number)

any_last : (k : Key) (xs : List Key) (x : Key) → has_key k (xs ++ x ∷ []) ≡ (has_key k xs || is_key k x)
any_last k [] x = elim (is_key k x) as (λ (b : Bool). (b || false) ≡ b) [ true ↦ refl | false ↦ refl ]
any_last k (y ∷ xs) x = elim (is_key k y) as (λ (b : Bool). (b || has_key k (xs ++ x ∷ [])) ≡ ((b || has_key k xs) || is_key k x)) [ true ↦ refl | false ↦ any_last k xs x ]

is_of_more : (xs : List Key) (i : ℕ) (k : Key) (n : ℕ) (q : Place) → k ≡ get_or xs i k → i < length xs → is_of (take (i + 1) xs) n q ≡ ((has_key q.key (take i xs) || is_key q.key k) && (q.number == n))
is_of_more xs i k n q is fits = ap (λ (l : List Key). is_of l n q) (one_more xs i k is fits) ∙ ap (λ (t : Bool). t && (q.number == n)) (any_last q.key (take i xs) k)

put_bools : (h n old a : Bool) → cond (h && n) true (old || (a && n)) ≡ (old || ((a || h) && n))
put_bools true true true a = refl
put_bools true true false true = refl
put_bools true true false false = refl
put_bools true false old true = refl
put_bools true false old false = refl
put_bools false n old true = refl
put_bools false n old false = refl

out_bools : (h n old a : Bool) → cond (h && n) false (old && not (a && n)) ≡ (old && not ((a || h) && n))
out_bools true true true true = refl
out_bools true true true false = refl
out_bools true true false a = refl
out_bools true false old true = refl
out_bools true false old false = refl
out_bools false n old true = refl
out_bools false n old false = refl

-- the places so far were put in, and one more
pub put_one : (xs : List Key) (i : ℕ) (k : Key) (n : ℕ) (q : Place) (old now new : Bool) → k ≡ get_or xs i k → i < length xs → now ≡ (old || is_of (take i xs) n q) → new ≡ cond (is_eq (place_cmp (place k n) q)) true now → new ≡ (old || is_of (take (i + 1) xs) n q)
put_one xs i k n q old now new is fits so_far step =
    step
    ∙ ap (λ (t : Bool). cond t true now) (hit k n q)
    ∙ ap (λ (t : Bool). cond (is_key q.key k && (q.number == n)) true t) so_far
    ∙ put_bools (is_key q.key k) (q.number == n) old (has_key q.key (take i xs))
    ∙ ap (λ (t : Bool). old || t) (sym (is_of_more xs i k n q is fits))

-- the places so far were taken out, and one more
pub take_one : (xs : List Key) (i : ℕ) (k : Key) (n : ℕ) (q : Place) (old now new : Bool) → k ≡ get_or xs i k → i < length xs → now ≡ (old && not (is_of (take i xs) n q)) → new ≡ cond (is_eq (place_cmp (place k n) q)) false now → new ≡ (old && not (is_of (take (i + 1) xs) n q))
take_one xs i k n q old now new is fits so_far step =
    step
    ∙ ap (λ (t : Bool). cond t false now) (hit k n q)
    ∙ ap (λ (t : Bool). cond (is_key q.key k && (q.number == n)) false t) so_far
    ∙ out_bools (is_key q.key k) (q.number == n) old (has_key q.key (take i xs))
    ∙ ap (λ (t : Bool). old && not t) (sym (is_of_more xs i k n q is fits))

-- what was put in by half is taken out
part_of : (k : Key) (i : ℕ) (xs : List Key) → has_key k (take i xs) ≡ true → has_key k xs ≡ true
part_of k zero xs h = absurd cc
part_of k (suc i) [] h = absurd cc
part_of k (suc i) (x ∷ xs) h = elim (is_key k x) as (λ (b : Bool). (b || has_key k (take i xs)) ≡ true → (b || has_key k xs) ≡ true) [ true ↦ λ _. refl | false ↦ λ t. part_of k i xs t ] h

back_bools : (old part all n : Bool) → (part ≡ true → all ≡ true) → (n ≡ true → old ≡ false) → ((old || (part && n)) && not (all && n)) ≡ old
back_bools true part all true p h = absurd (let t = h refl in cc)
back_bools true true true false p h = refl
back_bools true true false false p h = refl
back_bools true false true false p h = refl
back_bools true false false false p h = refl
back_bools false true true true p h = refl
back_bools false true false true p h = absurd (let t = p refl in cc)
back_bools false true true false p h = refl
back_bools false true false false p h = refl
back_bools false false all n p h = refl

pub put_back : (xs : List Key) (i n : ℕ) (q : Place) (old now new : Bool) → ((q.number ≡ n) → old ≡ false) → now ≡ (old || is_of (take i xs) n q) → new ≡ (now && not (is_of xs n q)) → new ≡ old
put_back xs i n q old now new fresh so_far step =
    step
    ∙ ap (λ (t : Bool). t && not (is_of xs n q)) so_far
    ∙ back_bools old (has_key q.key (take i xs)) (has_key q.key xs) (q.number == n) (part_of q.key i xs) (λ h. fresh (grind (arith, h)))
