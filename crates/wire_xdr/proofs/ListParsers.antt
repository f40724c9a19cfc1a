-- One step of a list that is read item by item.
use Rattle.std.proofs.Common.{◌≡◌, ◌<◌, ◌≤◌, ◌∷◌, ◌∙◌, ◌++◌, ◌+◌, ◌-◌, ℕ, suc, zero, Bool, true, false, sym, refl, ap, ap₂, subst, List, [], length, arith, append_assoc, append-nil, Option, Some, None, Result, Ok, Err, Bor}
use Rattle.std.specs.Prelude.{slice_get}
use Rattle.wire_xdr.specs.declared.decode.faults.Fault.{Fault}
use Rattle.wire_xdr.specs.declared.decode.faults.Fault.TheVariants.{Wrong, Short, Memory}
use Rattle.wire_xdr.specs.code.Parsers.{Parser, Gives, after, chain, done, two, items_at}
use Rattle.wire_xdr.specs.code.Loops.{last_of, pushed}

pub last_is : {A : Type 0} (xs : List A) → slice_get xs (length xs - 1) ≡ last_of xs
last_is [] = refl
last_is (x ∷ []) = refl
last_is (x ∷ y ∷ xs) =
    let e : length (x ∷ y ∷ xs) - 1 ≡ suc (length (y ∷ xs) - 1) = omega arith in rw e (last_is (y ∷ xs))

pub last_push : {A : Type 0} (xs : List A) (x : A) → last_of (xs ++ x ∷ []) ≡ Some x
last_push [] x = refl
last_push (y ∷ []) x = refl
last_push (y ∷ z ∷ xs) x = last_push (z ∷ xs) x

pushed_after : {A : Type 0} (xs : List A) (x : A) (r : Result (List A × List ℕ) Fault)
    → pushed xs (after (λ (ys : List A). done (x ∷ ys)) r) ≡ pushed (xs ++ x ∷ []) r
pushed_after xs x (Ok p) = ap (λ (l : List _). Ok (l, p.1)) (sym (append_assoc xs (x ∷ []) p.0))
pushed_after xs x (Err f) = refl

pub items_step : {A : Type 0} (item : Option A → ℕ → Parser A) (xs : List A) (x : A) (n m : ℕ) (bytes rest : List ℕ) (all : Result (List A × List ℕ) Fault)
    → n ≡ suc m → pushed xs (items_at item (last_of xs) n bytes) ≡ all → item (last_of xs) m bytes ≡ Ok (x, rest)
    → pushed (xs ++ x ∷ []) (items_at item (last_of (xs ++ x ∷ [])) m rest) ≡ all
items_step item xs x n m bytes rest all size before found =
    ap (λ (e : Option _). pushed (xs ++ x ∷ []) (items_at item e m rest)) (last_push xs x)
    ∙ sym (pushed_after xs x (items_at item (Some x) m rest))
    ∙ ap (λ (r : Result _ Fault). pushed xs (after (λ (y : _). chain (items_at item (Some y) m) (λ (ys : List _). done (y ∷ ys))) r)) (sym found)
    ∙ ap (λ (k : ℕ). pushed xs (items_at item (last_of xs) k bytes)) (sym size) ∙ before

pub items_stop : {A : Type 0} (item : Option A → ℕ → Parser A) (xs : List A) (n m : ℕ) (bytes : List ℕ) (f : Fault) (all : Result (List A × List ℕ) Fault)
    → n ≡ suc m → pushed xs (items_at item (last_of xs) n bytes) ≡ all → item (last_of xs) m bytes ≡ Err f → all ≡ Err f
items_stop item xs n m bytes f all size before found =
    sym before ∙ ap (λ (k : ℕ). pushed xs (items_at item (last_of xs) k bytes)) size
    ∙ ap (λ (r : Result _ Fault). pushed xs (after (λ (y : _). chain (items_at item (Some y) m) (λ (ys : List _). done (y ∷ ys))) r)) found

pub items_end : {A : Type 0} (item : Option A → ℕ → Parser A) (xs : List A) (n : ℕ) (bytes : List ℕ) (all : Result (List A × List ℕ) Fault)
    → n ≡ 0 → pushed xs (items_at item (last_of xs) n bytes) ≡ all → all ≡ Ok (xs, bytes)
items_end item xs n bytes all none before =
    sym before ∙ ap (λ (k : ℕ). pushed xs (items_at item (last_of xs) k bytes)) none ∙ ap (λ (l : List _). Ok (l, bytes)) (append-nil xs)

pub items_start : {A : Type 0} (r : Result (List A × List ℕ) Fault) → pushed [] r ≡ r
items_start (Ok p) = refl
items_start (Err f) = refl

-- the same in the words of the loops
pub list_step : {A : Type 0} (item : Option A → ℕ → Parser A) (old mid now new : List A) (x : A) (n : ℕ) (bytes rest : List ℕ) (all : Result (List A × List ℕ) Fault)
    → 0 < n → mid ≡ old → now ≡ mid → new ≡ mid ++ x ∷ [] → pushed old (items_at item (last_of old) n bytes) ≡ all → item (last_of now) (n - 1) bytes ≡ Ok (x, rest)
    → pushed new (items_at item (last_of new) (n - 1) rest) ≡ all
list_step item old mid now new x n bytes rest all some em ew en before found =
    let size : n ≡ suc (n - 1) = omega (arith, some) in
    let place : new ≡ old ++ x ∷ [] = en ∙ ap (λ (l : List _). l ++ x ∷ []) em in
    ap (λ (l : List _). pushed l (items_at item (last_of l) (n - 1) rest)) place
    ∙ items_step item old x n (n - 1) bytes rest all size before (ap (λ (l : List _). item (last_of l) (n - 1) bytes) (sym em ∙ sym ew) ∙ found)

pub list_stop : {A : Type 0} (item : Option A → ℕ → Parser A) (f : Fault) (old mid now : List A) (n : ℕ) (bytes : List ℕ) (all : Result (List A × List ℕ) Fault)
    → 0 < n → mid ≡ old → now ≡ mid → pushed old (items_at item (last_of old) n bytes) ≡ all
    → Gives {X = A × Bor (List ℕ)} {A = A} (λ (x : A × Bor (List ℕ)). (x.0, x.1.now)) (Err f) (item (last_of now) (n - 1) bytes)
    → Gives {X = List A × Bor (List ℕ)} {A = List A} (λ (x : List A × Bor (List ℕ)). (x.0, x.1.now)) (Err f) all
list_stop item (Wrong l) old mid now n bytes all some em ew before found =
    items_stop item old n (n - 1) bytes (Wrong l) all (omega (arith, some)) before (ap (λ (l : List _). item (last_of l) (n - 1) bytes) (sym em ∙ sym ew) ∙ found)
list_stop item Short old mid now n bytes all some em ew before found =
    items_stop item old n (n - 1) bytes Short all (omega (arith, some)) before (ap (λ (l : List _). item (last_of l) (n - 1) bytes) (sym em ∙ sym ew) ∙ found)
list_stop item (Memory error) old mid now n bytes all some em ew before found = tt
