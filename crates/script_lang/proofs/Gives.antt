-- What holds of what a choice gives, where it gives something.
use Rattle.std.proofs.Common.{◌≡◌, Bool, true, false, cond, ◌||◌, Option, Some, None, Result, Ok, Err, IfOk, refl}
use Rattle.std.specs.Prelude.{IfSome}

pub record Gives {A E : Type 0} (P : A → Type 0) (r : Result A E) : Type 0 where
  pub holds : IfOk r P

pub record Finds {A : Type 0} (P : A → Type 0) (o : Option A) : Type 0 where
  pub holds : IfSome o P

pub gives : {A E : Type 0} {P : A → Type 0} (a : A) → P a → Gives {E = E} P (Ok a)
gives a h = record { holds = h }

pub refuses : {A E : Type 0} {P : A → Type 0} (e : E) → Gives {A = A} P (Err e)
refuses e = record { holds = tt }

pub finds : {A : Type 0} {P : A → Type 0} (a : A) → P a → Finds P (Some a)
finds a h = record { holds = h }

pub none : {A : Type 0} {P : A → Type 0} → Finds P None
none = record { holds = tt }

pub either : {A E : Type 0} {P : A → Type 0} (b : Bool) (x y : Result A E) → Gives P x → Gives P y → Gives P (cond b x y)
either true x y h k = h
either false x y h k = k

-- a refusal where the test holds
pub past : {A E : Type 0} {P : A → Type 0} (b : Bool) (e : E) (x : Result A E) → (b ≡ false → Gives P x) → Gives P (cond b (Err e) x)
past true e x h = refuses e
past false e x h = h refl

pub past_or : {A E : Type 0} {P : A → Type 0} (b c : Bool) (e : E) (x : Result A E) → (b ≡ false → c ≡ false → Gives P x) → Gives P (cond (b || c) (Err e) x)
past_or true c e x h = refuses e
past_or false true e x h = refuses e
past_or false false e x h = h refl refl

-- a refusal where it does not
pub only_if : {A E : Type 0} {P : A → Type 0} (b : Bool) (e : E) (x : Result A E) → (b ≡ true → Gives P x) → Gives P (cond b x (Err e))
only_if true e x h = h refl
only_if false e x h = refuses e

pub one_of : {A : Type 0} {P : A → Type 0} (b : Bool) (x y : Option A) → Finds P x → Finds P y → Finds P (cond b x y)
one_of true x y h k = h
one_of false x y h k = k

pub found_if : {A : Type 0} {P : A → Type 0} (b : Bool) (x : Option A) → (b ≡ true → Finds P x) → Finds P (cond b x None)
found_if true x h = h refl
found_if false x h = none
