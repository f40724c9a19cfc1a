-- A fact about a result, carried on to another fact.
use Rattle.std.proofs.Common.{◌≡◌, ap}
use Rattle.std.specs.Prelude.{Result, Ok, Err, OnOk, OnErr, IfOk}
use Rattle.cell_store.specs.declared.kept.Kept.{Kept}

pub on_ok : {A B P Q : Type 0} (r : Result A B) → OnOk r P → (P → Q) → OnOk r Q
on_ok (Ok a) p f = f p
on_ok (Err b) p f = tt

pub on_err : {A B P Q : Type 0} (r : Result A B) → OnErr r P → (P → Q) → OnErr r Q
on_err (Ok a) p f = tt
on_err (Err b) p f = f p

pub if_ok : {A B : Type 0} {P Q : A → Type 0} (r : Result A B) → IfOk r P → ((a : A) → P a → Q a) → IfOk r Q
if_ok (Ok a) p f = f a p
if_ok (Err b) p f = tt

-- the count of marks is left by what a call made, whether it came through or not
pub same_count : {A B : Type 0} (r : Result A B) (kept made w : Kept) → OnOk r (w ≡ made) → OnErr r (w ≡ kept) → made.dirty ≡ kept.dirty → w.dirty ≡ kept.dirty
same_count (Ok a) kept made w ok err same = rw ok same
same_count (Err b) kept made w ok err same = ap (λ (k : Kept). k.dirty) err
