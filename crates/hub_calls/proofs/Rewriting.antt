-- A loop that writes each element of a list.
use Rattle.std.proofs.Common.{◌≡◌, ℕ, ◌+◌, ◌≤◌, ◌<◌, ◌++◌, List, length, map, take, drop, ap, ap₂, ◌∙◌, arith, get_or, set, length-append, length-take, length-drop, take_all, append-nil}
use Rattle.std.proofs.lemmas.List.{length-map, drop_all, get_or_default, take-append-le}
use Rattle.std.proofs.lemmas.List.Edits.{map_over_more}

long : {X : Type 0} (f : X → X) (xs ys : List X) (i : ℕ) → ys ≡ map f (take i xs) ++ drop i xs → length ys ≡ length xs
long f xs ys i is = ap length is ∙ length-append (map f (take i xs)) (drop i xs) ∙ omega (arith, length-map (take i xs) f, length-take i xs, length-drop i xs)

-- a loop that writes f x over each element x goes on, and has ended
pub written_more : {X : Type 0} (f : X → X) (xs ys : List X) (i : ℕ) (d : X) → i < length ys → ys ≡ map f (take i xs) ++ drop i xs → set ys i (f (get_or ys i d)) ≡ map f (take (i + 1) xs) ++ drop (i + 1) xs
written_more f xs ys i d below is = map_over_more f xs ys i (get_or ys i d) (omega (arith, long f xs ys i is)) is (get_or_default ys i d (get_or ys i d) below)

pub written : {X : Type 0} (f : X → X) (xs ys : List X) (i : ℕ) → ys ≡ map f (take i xs) ++ drop i xs → length ys ≤ i → ys ≡ map f xs
written f xs ys i is through =
    let all : length xs ≤ i = omega (arith, long f xs ys i is) in
    is ∙ ap₂ (λ p q. map f p ++ q) (take_all i xs all) (drop_all i xs all) ∙ append-nil (map f xs)

-- what was written is the list again
pub put_back : {X : Type 0} (n : ℕ) (ys rest : List X) → n ≡ length ys → take n (ys ++ rest) ≡ ys
put_back n ys rest is = take-append-le n ys rest (omega arith) ∙ take_all n ys (omega arith)
