-- Tests over lists, of every kind.
use Rattle.std.proofs.Common.{◌≡◌, ◌≤◌, suc, Bool, true, false, not, ◌&&◌, ◌||◌, cond, List, [], ◌∷◌, ◌++◌, refl, sym, ap, ◌∙◌, map, length, arith}
use Rattle.std.specs.List.{list_any, filter, AllByRecursion}

-- ---- truth values
pub or_false : (a b : Bool) → (a || b) ≡ false → (a ≡ false) × (b ≡ false)
or_false true b h = absurd cc
or_false false b h = (refl, h)

pub or_true : (a : Bool) → (a || true) ≡ true
or_true true = refl
or_true false = refl

pub and_true : (a : Bool) → (a && true) ≡ a
and_true true = refl
and_true false = refl

pub and_flip : (a b : Bool) → (a && b) ≡ (b && a)
and_flip true true = refl
and_flip true false = refl
and_flip false true = refl
and_flip false false = refl

pub not_false : (b : Bool) → not b ≡ true → b ≡ false
not_false true h = absurd cc
not_false false h = refl

pub both_same : {X : Type 0} (b : Bool) (x : X) → cond b x x ≡ x
both_same true x = refl
both_same false x = refl

pub decided : (b : Bool) → (b ≡ true → ⊥) → b ≡ false
decided true h = absurd (h refl)
decided false h = refl

-- ---- whether one passes
pub any-append : {X : Type 0} (p : X → Bool) (xs ys : List X) → list_any p (xs ++ ys) ≡ (list_any p xs || list_any p ys)
any-append p [] ys = refl
any-append p (x ∷ xs) ys = elim (p x) as (λ b. (b || list_any p (xs ++ ys)) ≡ ((b || list_any p xs) || list_any p ys)) [ true ↦ refl | false ↦ any-append p xs ys ]

pub any_same : {X : Type 0} (p q : X → Bool) (xs : List X) → ((x : X) → p x ≡ q x) → list_any p xs ≡ list_any q xs
any_same p q [] h = refl
any_same p q (x ∷ xs) h = ap (λ b. b || list_any p xs) (h x) ∙ ap (λ t. q x || t) (any_same p q xs h)

or_swap : (a b c d : Bool) → ((a || b) || (c || d)) ≡ ((a || c) || (b || d))
or_swap true b c d = refl
or_swap false true true d = refl
or_swap false true false d = refl
or_swap false false true d = refl
or_swap false false false d = refl

pub any_or : {X : Type 0} (p q : X → Bool) (xs : List X) → list_any (λ x. p x || q x) xs ≡ (list_any p xs || list_any q xs)
any_or p q [] = refl
any_or p q (x ∷ xs) = ap (λ t. (p x || q x) || t) (any_or p q xs) ∙ or_swap (p x) (q x) (list_any p xs) (list_any q xs)

pub none : {X : Type 0} (xs : List X) → list_any (λ _. false) xs ≡ false
none [] = refl
none (x ∷ xs) = none xs

and_or : (a b c : Bool) → ((a && c) || (b && c)) ≡ ((a || b) && c)
and_or true true true = refl
and_or true true false = refl
and_or true false true = refl
and_or true false false = refl
and_or false b c = refl

pub any_and : {X : Type 0} (p : X → Bool) (b : Bool) (xs : List X) → list_any (λ x. p x && b) xs ≡ (list_any p xs && b)
any_and p b [] = refl
any_and p b (x ∷ xs) = ap (λ t. (p x && b) || t) (any_and p b xs) ∙ and_or (p x) (list_any p xs) b

pub any_when : {X : Type 0} (b : Bool) (p : X → Bool) (xs : List X) → list_any (λ x. b && p x) xs ≡ (b && list_any p xs)
any_when true p xs = refl
any_when false p xs = none xs

pub any_swap : {X Y : Type 0} (f : X → Y → Bool) (xs : List X) (ys : List Y) → list_any (λ x. list_any (f x) ys) xs ≡ list_any (λ y. list_any (λ x. f x y) xs) ys
any_swap f [] ys = sym (none ys)
any_swap f (x ∷ xs) ys = ap (λ t. list_any (f x) ys || t) (any_swap f xs ys) ∙ sym (any_or (f x) (λ y. list_any (λ z. f z y) xs) ys)

pub any_map : {X Y : Type 0} (p : Y → Bool) (f : X → Y) (xs : List X) → list_any p (map f xs) ≡ list_any (λ x. p (f x)) xs
any_map p f [] = refl
any_map p f (x ∷ xs) = ap (λ t. p (f x) || t) (any_map p f xs)

pub any_cond : {X : Type 0} (p : X → Bool) (b : Bool) (x : X) (xs : List X) → list_any p (cond b (x ∷ xs) xs) ≡ cond b (p x || list_any p xs) (list_any p xs)
any_cond p true x xs = refl
any_cond p false x xs = refl

pub any_filter : {X : Type 0} (p q : X → Bool) (xs : List X) → list_any p (filter q xs) ≡ list_any (λ x. q x && p x) xs
any_filter p q [] = refl
any_filter p q (x ∷ xs) = elim (q x) as (λ b. list_any p (cond b (x ∷ filter q xs) (filter q xs)) ≡ ((b && p x) || list_any (λ x. q x && p x) xs)) [ true ↦ ap (λ t. p x || t) (any_filter p q xs) | false ↦ any_filter p q xs ]

pub filter_all : {X : Type 0} (xs : List X) → filter (λ _. true) xs ≡ xs
filter_all [] = refl
filter_all (x ∷ xs) = ap (λ t. x ∷ t) (filter_all xs)

-- none passes among fewer
pub any_left : {X : Type 0} (p q : X → Bool) (xs : List X) → list_any p xs ≡ false → list_any p (filter q xs) ≡ false
any_left p q [] h = refl
any_left p q (x ∷ xs) h =
    let two = or_false (p x) (list_any p xs) h in
    any_cond p (q x) x (filter q xs) ∙ ap (λ t. cond (q x) (t || list_any p (filter q xs)) (list_any p (filter q xs))) two.0 ∙ both_same (q x) _ ∙ any_left p q xs two.1

-- one that passes is not among those that are gone
other_part : (t a b c : Bool) → (a || b) ≡ true → (b ≡ true → c ≡ true) → (t ≡ true → a ≡ false) → cond (not t) (a || c) c ≡ true
other_part true true b c h k off = absurd (let f = off refl in cc)
other_part true false b c h k off = k h
other_part false true b c h k off = refl
other_part false false b c h k off = k h

here_off : (t a b : Bool) → cond t (a || b) b ≡ false → t ≡ true → a ≡ false
here_off true a b h is = (or_false a b h).0
here_off false a b h is = absurd cc

rest_off : (t a b : Bool) → cond t (a || b) b ≡ false → b ≡ false
rest_off true a b h = (or_false a b h).1
rest_off false a b h = h

pub any_rest : {X : Type 0} (p t : X → Bool) (xs : List X) → list_any p xs ≡ true → list_any p (filter t xs) ≡ false → list_any p (filter (λ x. not (t x)) xs) ≡ true
any_rest p t [] h off = h
any_rest p t (x ∷ xs) h off =
    let split : cond (t x) (p x || list_any p (filter t xs)) (list_any p (filter t xs)) ≡ false = sym (any_cond p (t x) x (filter t xs)) ∙ off in
    any_cond p (not (t x)) x (filter (λ x. not (t x)) xs)
    ∙ other_part (t x) (p x) (list_any p xs) (list_any p (filter (λ x. not (t x)) xs)) h (λ more. any_rest p t xs more (rest_off (t x) (p x) (list_any p (filter t xs)) split)) (here_off (t x) (p x) (list_any p (filter t xs)) split)

-- ---- those that pass
pub filter-append : {X : Type 0} (p : X → Bool) (xs ys : List X) → filter p (xs ++ ys) ≡ filter p xs ++ filter p ys
filter-append p [] ys = refl
filter-append p (x ∷ xs) ys = elim (p x) as (λ b. cond b (x ∷ filter p (xs ++ ys)) (filter p (xs ++ ys)) ≡ cond b (x ∷ filter p xs) (filter p xs) ++ filter p ys) [ true ↦ ap (λ t. x ∷ t) (filter-append p xs ys) | false ↦ filter-append p xs ys ]

pub filter_filter : {X : Type 0} (p q : X → Bool) (xs : List X) → filter p (filter q xs) ≡ filter (λ x. q x && p x) xs
filter_filter p q [] = refl
filter_filter p q (x ∷ xs) = elim (q x) as (λ b. filter p (cond b (x ∷ filter q xs) (filter q xs)) ≡ cond (b && p x) (x ∷ filter (λ x. q x && p x) xs) (filter (λ x. q x && p x) xs)) [ true ↦ ap (λ t. cond (p x) (x ∷ t) t) (filter_filter p q xs) | false ↦ filter_filter p q xs ]

filter_cond : {X : Type 0} (p : X → Bool) (b : Bool) (x : X) (xs : List X) → filter p (cond b (x ∷ xs) xs) ≡ cond b (cond (p x) (x ∷ filter p xs) (filter p xs)) (filter p xs)
filter_cond p true x xs = refl
filter_cond p false x xs = refl

cond_swap : {X : Type 0} (a b : Bool) (x : X) (t : List X) → cond b (cond a (x ∷ t) t) t ≡ cond a (cond b (x ∷ t) t) t
cond_swap true true x t = refl
cond_swap true false x t = refl
cond_swap false true x t = refl
cond_swap false false x t = refl

pub filter_swap : {X : Type 0} (p q : X → Bool) (xs : List X) → filter p (filter q xs) ≡ filter q (filter p xs)
filter_swap p q [] = refl
filter_swap p q (x ∷ xs) = filter_cond p (q x) x (filter q xs) ∙ ap (λ t. cond (q x) (cond (p x) (x ∷ t) t) t) (filter_swap p q xs) ∙ cond_swap (p x) (q x) x (filter q (filter p xs)) ∙ sym (filter_cond q (p x) x (filter p xs))

-- two tests that agree on the members
pub filter_members : {X : Type 0} (p q : X → Bool) (xs : List X) → AllByRecursion (λ x. p x ≡ q x) xs → filter p xs ≡ filter q xs
filter_members p q [] h = refl
filter_members p q (x ∷ xs) h = ap (λ b. cond b (x ∷ filter p xs) (filter p xs)) h.0 ∙ ap (λ t. cond (q x) (x ∷ t) t) (filter_members p q xs h.1)

pub filter_map_is : {X Y : Type 0} (p : Y → Bool) (f : X → Y) (xs : List X) → filter p (map f xs) ≡ map f (filter (λ x. p (f x)) xs)
filter_map_is p f [] = refl
filter_map_is p f (x ∷ xs) = elim (p (f x)) as (λ b. cond b (f x ∷ filter p (map f xs)) (filter p (map f xs)) ≡ map f (cond b (x ∷ filter (λ x. p (f x)) xs) (filter (λ x. p (f x)) xs))) [ true ↦ ap (λ t. f x ∷ t) (filter_map_is p f xs) | false ↦ filter_map_is p f xs ]

pub all_filter : {X : Type 0} (P : X → Type 0) (p : X → Bool) (xs : List X) → AllByRecursion P xs → AllByRecursion P (filter p xs)
all_filter P p [] h = tt
all_filter P p (x ∷ xs) h = elim (p x) as (λ b. AllByRecursion P (cond b (x ∷ filter p xs) (filter p xs))) [ true ↦ (h.0, all_filter P p xs h.1) | false ↦ all_filter P p xs h.1 ]

pub all_pass : {X : Type 0} (p : X → Bool) (xs : List X) → AllByRecursion (λ x. p x ≡ true) (filter p xs)
all_pass p [] = tt
all_pass p (x ∷ xs) = (elim (p x) as (λ b. p x ≡ b → AllByRecursion (λ x. p x ≡ true) (cond b (x ∷ filter p xs) (filter p xs))) [ true ↦ λ t. (t, all_pass p xs) | false ↦ λ _. all_pass p xs ]) refl

pub fewer : {X : Type 0} (p : X → Bool) (xs : List X) → length (filter p xs) ≤ length xs
fewer p [] = omega arith
fewer p (x ∷ xs) = elim (p x) as (λ b. length (cond b (x ∷ filter p xs) (filter p xs)) ≤ suc (length xs)) [ true ↦ (let i = fewer p xs in omega (arith, i)) | false ↦ (let i = fewer p xs in omega (arith, i)) ]

-- ---- ends of lists
pub nil_end : {X : Type 0} (xs : List X) → xs ++ [] ≡ xs
nil_end [] = refl
nil_end (x ∷ xs) = ap (λ t. x ∷ t) (nil_end xs)

pub joined : {X : Type 0} (xs : List X) (y : X) (ys : List X) → (xs ++ y ∷ []) ++ ys ≡ xs ++ y ∷ ys
joined [] y ys = refl
joined (x ∷ xs) y ys = ap (λ t. x ∷ t) (joined xs y ys)

pub all_middle : {X : Type 0} (P : X → Type 0) (xs : List X) (y : X) (ys : List X) → AllByRecursion P (xs ++ y ∷ ys) → P y
all_middle P [] y ys h = h.0
all_middle P (x ∷ xs) y ys h = all_middle P xs y ys h.1
