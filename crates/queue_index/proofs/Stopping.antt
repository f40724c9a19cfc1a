-- Why a walk may stop at the first entry that has a thing exclusive. Where the entries of a key leave, take one
-- that conflicts with entries before it that leave, and with none before it that stays. It comes next after the
-- last of these: an entry between the two that has their thing exclusive would conflict with it too.
use Rattle.std.proofs.Common.{◌≡◌, ℕ, ◌+◌, ◌<◌, Bool, true, false, not, ◌&&◌, ◌||◌, ◌==◌, nat_lt, nat_le, cond, List, [], ◌∷◌, refl, sym, ap, ◌∙◌, arith, subst}
use Rattle.std.specs.List.{list_any, filter, AllByRecursion}
use Rattle.std.proofs.lemmas.Bool.{and_parts, leb-true, le-ltb}
use Rattle.queue_index.specs.declared.key.Key.{Key}
use Rattle.queue_index.specs.Places.{is_key}
use Rattle.queue_index.specs.Queue.{numbers, touches, touching, touching_from}
use Rattle.queue_index.specs.Rivals.{of_mode, meets_key, conflicts}
use Rattle.queue_index.specs.Next.{is_in_run, is_next_on, is_next_to, is_next}
use Rattle.queue_index.proofs.Lists.{or_true, decided, any_or, any_map, any_filter, any_left, not_false}
use Rattle.queue_index.proofs.Numbers.{Rise, head_first, tail_rises}
use Rattle.queue_index.proofs.Orders.{key_is}

or_nothing : (a : Bool) → (a || false) ≡ a
or_nothing true = refl
or_nothing false = refl

both : (a b : Bool) → a ≡ true → b ≡ true → (a && b) ≡ true
both a b h k = ap (λ (c : Bool). c && b) h ∙ k

lt_is : (a b : ℕ) → a < b → nat_lt a b ≡ true
lt_is a b h = grind (arith, h)

le_is : (a b : ℕ) → nat_lt a b ≡ true → nat_le (a + 1) b ≡ true
le_is a b h = grind (arith, h)

-- ---- lists of which some pass
every : {X : Type 0} (P : X → Type 0) (xs : List X) → ((x : X) → P x) → AllByRecursion P xs
every P [] h = tt
every P (x ∷ xs) h = (h x, every P xs h)

any_implies : {X : Type 0} (p q : X → Bool) (xs : List X) → AllByRecursion (λ x. p x ≡ true → q x ≡ true) xs → list_any p xs ≡ true → list_any q xs ≡ true
any_implies p q [] h some = some
any_implies p q (x ∷ xs) h some = elim (p x) as (λ (b : Bool). p x ≡ b → (b || list_any p xs) ≡ true → (q x || list_any q xs) ≡ true) [
  | true ↦ λ t _. ap (λ (c : Bool). c || list_any q xs) (h.0 t)
  | false ↦ λ t more. ap (λ (c : Bool). q x || c) (any_implies p q xs h.1 more) ∙ or_true (q x)
] refl some

any_of : {X : Type 0} (p q : X → Bool) (xs : List X) → ((x : X) → p x ≡ true → q x ≡ true) → list_any p xs ≡ true → list_any q xs ≡ true
any_of p q xs h some = any_implies p q xs (every (λ x. p x ≡ true → q x ≡ true) xs h) some

one_says : {X : Type 0} (p : X → Bool) (b : Bool) (xs : List X) → ((x : X) → p x ≡ true → b ≡ true) → list_any p xs ≡ true → b ≡ true
one_says p b [] h some = absurd cc
one_says p b (x ∷ xs) h some = elim (p x) as (λ (c : Bool). p x ≡ c → (c || list_any p xs) ≡ true → b ≡ true) [ true ↦ λ t _. h x t | false ↦ λ t more. one_says p b xs h more ] refl some

halves : (t b : Bool) → b ≡ true → ((t && b) || (not t && b)) ≡ true
halves true b h = ap (λ (c : Bool). c || false) h
halves false b h = h

some_left : {X : Type 0} (t b : X → Bool) (xs : List X) → list_any (λ x. not (t x) && b x) xs ≡ false → list_any b xs ≡ true → list_any (λ x. t x && b x) xs ≡ true
some_left t b xs off some =
    let two : list_any (λ x. (t x && b x) || (not (t x) && b x)) xs ≡ true = any_of b (λ x. (t x && b x) || (not (t x) && b x)) xs (λ x h. halves (t x) (b x) h) some in
    sym (or_nothing (list_any (λ x. t x && b x) xs))
    ∙ ap (λ (c : Bool). list_any (λ x. t x && b x) xs || c) (sym off)
    ∙ sym (any_or (λ x. t x && b x) (λ x. not (t x) && b x) xs)
    ∙ two

quarters : (a t b : Bool) → (a && b) ≡ true → ((a && (t && b)) || (not t && b)) ≡ true
quarters true true true h = refl
quarters true true false h = h
quarters true false b h = h
quarters false t b h = absurd cc

none_left : {X : Type 0} (a t b : X → Bool) (xs : List X) → list_any (λ x. a x && (t x && b x)) xs ≡ false → list_any (λ x. not (t x) && b x) xs ≡ false → list_any (λ x. a x && b x) xs ≡ false
none_left a t b xs one two = decided (list_any (λ x. a x && b x) xs) (λ h.
    let some : list_any (λ x. (a x && (t x && b x)) || (not (t x) && b x)) xs ≡ true = any_of (λ x. a x && b x) (λ x. (a x && (t x && b x)) || (not (t x) && b x)) xs (λ x k. quarters (a x) (t x) (b x) k) h in
    let no : false ≡ true =
    sym (any_or (λ x. a x && (t x && b x)) (λ x. not (t x) && b x) xs
    ∙ ap (λ (c : Bool). c || list_any (λ x. not (t x) && b x) xs) one
    ∙ two)
    ∙ some in
    absurd cc)

-- ---- the last one that passes
abbrev is_last : {T : Type 0} → (ℕ × T → Bool) → List (ℕ × T) → ℕ × T → Bool
is_last p es e = p e && not (list_any (λ d. nat_lt e.0 d.0 && p d) es)

module _ {T : Type 0} (p : ℕ × T → Bool) where
  later_last : (e : ℕ × T) (es fs : List (ℕ × T)) → AllByRecursion (λ d. e.0 < d.0) fs → AllByRecursion (λ d. is_last p es d ≡ true → is_last p (e ∷ es) d ≡ true) fs
  later_last e es [] h = tt
  later_last e es (d ∷ fs) h =
      let low = h.0 in
      let off : nat_lt d.0 e.0 ≡ false = le-ltb d.0 e.0 (omega (arith, low)) in
      (λ t. ap (λ (c : Bool). p d && not ((c && p e) || list_any (λ x. nat_lt d.0 x.0 && p x) es)) off ∙ t, later_last e es fs h.1)

  last_there : (es : List (ℕ × T)) → Rise es → list_any p es ≡ true → list_any (is_last p es) es ≡ true
  last_there [] s h = h
  last_there (e ∷ es) s h = elim (list_any p es) as (λ (b : Bool). list_any p es ≡ b → (p e || b) ≡ true → list_any (is_last p (e ∷ es)) (e ∷ es) ≡ true) [
    | true ↦ λ t _. ap (λ (c : Bool). is_last p (e ∷ es) e || c) (any_implies (is_last p es) (is_last p (e ∷ es)) es (later_last e es es (head_first e es s)) (last_there es (tail_rises e es s) t)) ∙ or_true (is_last p (e ∷ es) e)
    | false ↦ λ t one.
        let here : p e ≡ true = sym (or_nothing (p e)) ∙ one in
        let own : nat_lt e.0 e.0 ≡ false = le-ltb e.0 e.0 (omega arith) in
        let none : list_any (λ d. nat_lt e.0 d.0 && p d) es ≡ false = sym (any_filter p (λ d. nat_lt e.0 d.0) es) ∙ any_left p (λ d. nat_lt e.0 d.0) es t in
        let last : is_last p (e ∷ es) e ≡ true =
        ap (λ (c : Bool). p e && not ((c && p e) || list_any (λ d. nat_lt e.0 d.0 && p d) es)) own
        ∙ ap (λ (c : Bool). p e && not c) none
        ∙ ap (λ (c : Bool). c && true) here in
        ap (λ (c : Bool). c || list_any (is_last p (e ∷ es)) es) last
  ] refl h

module _ {T : Type 0} (keys : T → List Key) where
  -- an entry is before a number and conflicts with an item
  abbrev pub keeps : ℕ → T → ℕ × T → Bool
  keeps q y e = nat_lt e.0 q && conflicts keys e.1 y

  -- ---- who has the thing exclusive conflicts with all that conflict there
  wider : (k : Key) (y : T) → meets_key keys k y ≡ true → meets_key keys (of_mode 0 k) y ≡ true
  wider k y h = elim (k.mode == 0) as (λ (b : Bool). list_any (λ j. touches keys j y) (cond b (of_mode 0 k ∷ of_mode 1 k ∷ []) (cond (k.mode == 1) (of_mode 0 k ∷ []) [])) ≡ true → list_any (λ j. touches keys j y) (of_mode 0 k ∷ of_mode 1 k ∷ []) ≡ true) [
    | true ↦ λ t. t
    | false ↦ elim (k.mode == 1) as (λ (b : Bool). list_any (λ j. touches keys j y) (cond b (of_mode 0 k ∷ []) []) ≡ true → list_any (λ j. touches keys j y) (of_mode 0 k ∷ of_mode 1 k ∷ []) ≡ true) [
      | true ↦ λ t. ap (λ (c : Bool). c || (touches keys (of_mode 1 k) y || false)) (sym (or_nothing (touches keys (of_mode 0 k) y)) ∙ t)
      | false ↦ λ t. absurd cc
    ]
  ] h

  conflicts_there : (k : Key) (z y : T) → meets_key keys k y ≡ true → touches keys (of_mode 0 k) z ≡ true → conflicts keys z y ≡ true
  conflicts_there k z y meets has = any_of (is_key (of_mode 0 k)) (λ j. meets_key keys j y) (keys z) (λ j h. subst (λ (i : Key). meets_key keys i y ≡ true) (key_is (of_mode 0 k) j h) (wider k y meets)) has

  -- ---- none between
  run_there : (k : Key) (n q : ℕ) (y : T) (es : List (ℕ × T)) → nat_lt n q ≡ true → list_any (λ d. nat_lt n d.0 && keeps q y d) es ≡ false → meets_key keys k y ≡ true → is_in_run keys es (of_mode 0 k) (n + 1) q ≡ true
  run_there k n q y es low none meets =
      let i = of_mode 0 k in
      let has = λ (e : ℕ × T). nat_le (n + 1) e.0 && touches keys i e.1 in
      let off : list_any (λ m. nat_lt m q) (numbers (touching_from keys i (n + 1) es)) ≡ false = decided (list_any (λ m. nat_lt m q) (numbers (touching_from keys i (n + 1) es))) (λ h.
      let some : list_any (λ e. has e && nat_lt e.0 q) es ≡ true = sym (any_map (λ m. nat_lt m q) (λ (e : ℕ × T). e.0) (filter has es) ∙ any_filter (λ e. nat_lt e.0 q) has es) ∙ h in
      let no : false ≡ true = sym none ∙ any_of (λ e. has e && nat_lt e.0 q) (λ d. nat_lt n d.0 && keeps q y d) es (λ e t.
      let two = and_parts (has e) (nat_lt e.0 q) t in
      let parts = and_parts (nat_le (n + 1) e.0) (touches keys i e.1) two.0 in
      let late = leb-true (n + 1) e.0 parts.0 in
      both (nat_lt n e.0) (keeps q y e) (lt_is n e.0 (omega (arith, late))) (both (nat_lt e.0 q) (conflicts keys e.1 y) two.1 (conflicts_there k e.1 y meets parts.1))) some in
      absurd cc) in
      both (nat_le (n + 1) q) (not (list_any (λ m. nat_lt m q) (numbers (touching_from keys i (n + 1) es)))) (le_is n q low) (ap not off)

  last_is_before : (n q : ℕ) (x y : T) (es : List (ℕ × T)) → keeps q y (n, x) ≡ true → list_any (λ d. nat_lt n d.0 && keeps q y d) es ≡ false → is_next_to keys es (n + 1) x q y ≡ true
  last_is_before n q x y es kept none =
      let two = and_parts (nat_lt n q) (conflicts keys x y) kept in
      any_of (λ k. meets_key keys k y) (λ k. is_next_on keys es (n + 1) k q y) (keys x) (λ k h. both (meets_key keys k y) (is_in_run keys es (of_mode 0 k) (n + 1) q) h (run_there k n q y es two.0 none h)) two.1

  -- what conflicts with an earlier one that leaves, and with none that stays, comes next
  pub kept_is_next : (k : Key) (q : ℕ) (y : T) (es : List (ℕ × T)) → Rise es → list_any (keeps q y) es ≡ true → list_any (λ e. not (touches keys k e.1) && keeps q y e) es ≡ false → is_next keys k es q y ≡ true
  kept_is_next k q y es s kept free =
      let leaves = λ (e : ℕ × T). touches keys k e.1 && keeps q y e in
      any_filter (λ e. is_next_to keys es (e.0 + 1) e.1 q y) (λ e. touches keys k e.1) es
      ∙ any_of (is_last leaves es) (λ e. touches keys k e.1 && is_next_to keys es (e.0 + 1) e.1 q y) es (λ e t.
      let two = and_parts (leaves e) (not (list_any (λ d. nat_lt e.0 d.0 && leaves d) es)) t in
      let own = and_parts (touches keys k e.1) (keeps q y e) two.0 in
      both (touches keys k e.1) (is_next_to keys es (e.0 + 1) e.1 q y) own.0 (last_is_before e.0 q e.1 y es own.1 (none_left (λ d. nat_lt e.0 d.0) (λ d. touches keys k d.1) (keeps q y) es (not_false (list_any (λ d. nat_lt e.0 d.0 && leaves d) es) two.1) free)))
      (last_there leaves es s (some_left (λ e. touches keys k e.1) (keeps q y) es free kept))

  -- what comes next conflicts with an earlier one
  next_to_kept : (n q : ℕ) (x y : T) (es : List (ℕ × T)) → is_next_to keys es (n + 1) x q y ≡ true → keeps q y (n, x) ≡ true
  next_to_kept n q x y es h =
      both (nat_lt n q) (conflicts keys x y)
      (one_says (λ k. is_next_on keys es (n + 1) k q y) (nat_lt n q) (keys x) (λ k t.
      let run = and_parts (meets_key keys k y) (is_in_run keys es (of_mode 0 k) (n + 1) q) t in
      let late = leb-true (n + 1) q (and_parts (nat_le (n + 1) q) (not (list_any (λ m. nat_lt m q) (numbers (touching_from keys (of_mode 0 k) (n + 1) es)))) run.1).0 in
      lt_is n q (omega (arith, late))) h)
      (any_of (λ k. is_next_on keys es (n + 1) k q y) (λ k. meets_key keys k y) (keys x) (λ k t. (and_parts (meets_key keys k y) (is_in_run keys es (of_mode 0 k) (n + 1) q) t).0) h)

  pub next_is_kept : (k : Key) (q : ℕ) (y : T) (es : List (ℕ × T)) → is_next keys k es q y ≡ true → list_any (keeps q y) es ≡ true
  next_is_kept k q y es h = any_of (λ e. touches keys k e.1 && is_next_to keys es (e.0 + 1) e.1 q y) (keeps q y) es (λ e t. next_to_kept e.0 q e.1 y es (and_parts (touches keys k e.1) (is_next_to keys es (e.0 + 1) e.1 q y) t).1) (sym (any_filter (λ e. is_next_to keys es (e.0 + 1) e.1 q y) (λ e. touches keys k e.1) es) ∙ h)
