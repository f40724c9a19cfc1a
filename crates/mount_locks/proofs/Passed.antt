-- No shared request that waits is passed by a later hold, so what stands behind it need not be looked at.
use Rattle.std.proofs.Common.{◌≡◌, ℕ, ◌<◌, ◌≤◌, Bool, true, false, not, ◌&&◌, ◌||◌, ◌==◌, nat_lt, nat_le, ◌+◌, cond, List, [], ◌∷◌, ◌++◌, Option, Some, None, refl, sym, ap, ◌∙◌, arith, subst, lt-ltb, le-ltb}
use Rattle.std.specs.List.{list_any, filter, AllByRecursion}
use Rattle.std.specs.Ordering.{nat_cmp, is_eq}
use Rattle.std.proofs.lemmas.Bool.{and_parts, leb-true}
use Rattle.queue_index.specs.declared.key.Key.{Key}
use Rattle.queue_index.specs.Queue.{item_at, numbers, changed_at, touches, touching_from, passes, is_at_number}
use Rattle.queue_index.proofs.Entries.{founds, each}
use Rattle.mount_locks.specs.declared.request.Request.{Request}
use Rattle.mount_locks.specs.Keys.{keys_of, marked}
use Rattle.mount_locks.specs.Rule.{conflicts}
use Rattle.mount_locks.specs.Walks.{bars, blocks, is_blocked, keeps, is_kept, passes_by, is_passed, AreUnpassed, is_due, turn_of, turn_at}
use Rattle.queue_index.proofs.Lists.{any-append, any_same, any_or, any_left, or_false, or_true}
use Rattle.mount_locks.proofs.Apart.{conflicts_flip}
use Rattle.queue_index.proofs.Numbers.{Rise, number_is, was_there}
use Rattle.mount_locks.proofs.Numbered.{same_number}
use Rattle.mount_locks.proofs.Blocked.{unchanged}

-- ---- what is looked at is all that blocks
kept_bools : (c l t g : Bool) → t ≡ false → (c && (l || (not t && g))) ≡ (c && (l || g))
kept_bools c l true g h = absurd cc
kept_bools c l false g h = refl

kept_alone : (es : List (ℕ × Request)) (n : ℕ) (r : Request) → r.shared ≡ false → is_kept es n r ≡ is_blocked es n r
kept_alone es n r alone = any_same (keeps n r) (blocks n r) es (λ e. kept_bools (conflicts e.1 r) (nat_lt e.0 n) r.shared e.1.granted alone)

two_bools : (c l t g : Bool) → t ≡ true → (c && (l || g)) ≡ ((c && (l || (not t && g))) || (c && (not l && g)))
two_bools c l false g h = absurd cc
two_bools true true true g h = refl
two_bools true false true g h = refl
two_bools false l true g h = refl

or_nothing : (a b : Bool) → b ≡ false → (a || b) ≡ a
or_nothing true b h = refl
or_nothing false b h = h

kept_shared : (es : List (ℕ × Request)) (n : ℕ) (r : Request) → r.shared ≡ true → is_passed es n r ≡ false → is_kept es n r ≡ is_blocked es n r
kept_shared es n r shared unpassed = sym (
    any_same (blocks n r) (λ e. keeps n r e || passes_by n r e) es (λ e. two_bools (conflicts e.1 r) (nat_lt e.0 n) r.shared e.1.granted shared)
    ∙ any_or (keeps n r) (passes_by n r) es
    ∙ or_nothing (is_kept es n r) (is_passed es n r) unpassed)

pub kept_is : (es : List (ℕ × Request)) (n : ℕ) (r : Request) → AreUnpassed es → item_at n es ≡ Some r → r.granted ≡ false → is_kept es n r ≡ is_blocked es n r
kept_is es n r unpassed is waits = at_one r.shared refl
  where
    at_one : (b : Bool) → r.shared ≡ b → is_kept es n r ≡ is_blocked es n r
    at_one true t = kept_shared es n r t (unpassed n r is waits t)
    at_one false t = kept_alone es n r t

-- ---- a turn
any_there : (p : ℕ × Request → Bool) (n : ℕ) (r : Request) (es : List (ℕ × Request)) → item_at n es ≡ Some r → p (n, r) ≡ true → list_any p es ≡ true
any_there p n r [] is h = absurd cc
any_there p n r (e ∷ es) is h = at_one (is_eq (nat_cmp n e.0)) refl is (λ t. any_there p n r es t h)
  where
    at_one : (b : Bool) → is_eq (nat_cmp n e.0) ≡ b → cond b (Some e.1) (item_at n es) ≡ Some r → (item_at n es ≡ Some r → list_any p es ≡ true) → (p e || list_any p es) ≡ true
    at_one true t one on =
        let v : e.1 ≡ r = cc in
        let here : p e ≡ true = ap (λ (x : Request). p (e.0, x)) v ∙ ap (λ (m : ℕ). p (m, r)) (sym (number_is n e.0 t)) ∙ h in
        ap (λ (b : Bool). b || list_any p es) here
    at_one false t one on = ap (λ (b : Bool). p e || b) (on one) ∙ or_true (p e)

due_free : (g b : Bool) → (not g && not b) ≡ true → b ≡ false
due_free true b h = absurd cc
due_free false true h = absurd cc
due_free false false h = refl

late_bools : (c l : Bool) → (c ≡ true → l ≡ false → ⊥) → (c && (not l && true)) ≡ false
late_bools true true h = refl
late_bools true false h = absurd (h refl refl)
late_bools false l h = refl

front_blocks : (c a g : Bool) → c ≡ true → a ≡ true → (c && (a || g)) ≡ true
front_blocks true true g h k = refl
front_blocks true false g h k = absurd cc
front_blocks false a g h k = absurd cc

apart_numbers : (n m : ℕ) → is_eq (nat_cmp n m) ≡ false → nat_lt m n ≡ false → nat_lt n m ≡ true
apart_numbers n m h k = grind (arith, h, k)

-- what is granted at its turn passes none that waits: it conflicts with none before it
granted_passes : (es : List (ℕ × Request)) (n m : ℕ) (r s : Request) → item_at n es ≡ Some r → is_blocked es m s ≡ false → is_eq (nat_cmp n m) ≡ false → (conflicts s r && (not (nat_lt m n) && true)) ≡ false
granted_passes es n m r s is free apart = late_bools (conflicts s r) (nat_lt m n) (λ both late.
    let blocked : is_blocked es m s ≡ true = any_there (blocks m s) n r es is (front_blocks (conflicts r s) (nat_lt n m) r.granted (conflicts_flip r s ∙ both) (apart_numbers n m apart late)) in
    let no : true ≡ false = sym blocked ∙ free in
    absurd cc)

-- at the number that is granted, none passes
abbrev pub IsFree : ℕ → ℕ → Request → ℕ → Request → Type 0
IsFree m n r k x = (m == k) ≡ true → (conflicts x r && (not (nat_lt k n) && true)) ≡ false

passed_on : (m n : ℕ) (r : Request) (es : List (ℕ × Request)) → AllByRecursion (λ e. IsFree m n r e.0 e.1) es → is_passed es n r ≡ false → is_passed (changed_at marked m es) n r ≡ false
passed_on m n r [] free h = refl
passed_on m n r (e ∷ es) free h =
    let two = or_false (passes_by n r e) (is_passed es n r) h in
    at_one (m == e.0) refl two.0 (passed_on m n r es free.1 two.1)
  where
    at_one : (b : Bool) → (m == e.0) ≡ b → passes_by n r e ≡ false → is_passed (changed_at marked m es) n r ≡ false → (passes_by n r (cond {A = ℕ × Request} b (e.0, marked e.1) e) || is_passed (changed_at marked m es) n r) ≡ false
    at_one true t off on = ap (λ (b : Bool). b || is_passed (changed_at marked m es) n r) (free.0 t) ∙ on
    at_one false t off on = ap (λ (b : Bool). b || is_passed (changed_at marked m es) n r) off ∙ on

same_item : (x s : Request) (o : Option Request) → o ≡ Some x → o ≡ Some s → s ≡ x
same_item x s o a b = let t : ◌≡◌ {A = Option Request} (Some s) (Some x) = sym b ∙ a in cc

pub turn_unpassed : (es fs : List (ℕ × Request)) (m : ℕ) → Rise es → AreUnpassed es → fs ≡ turn_at es m → AreUnpassed fs
turn_unpassed es fs m s h is = subst (λ (l : List (ℕ × Request)). AreUnpassed l) (sym is) (at_one (item_at m es) refl)
  where
    at_two : (y : Request) → item_at m es ≡ Some y → (b : Bool) → is_due es m y ≡ b → AreUnpassed (cond b (changed_at marked m es) es)
    at_two y t false off = h
    at_two y t true due = λ n r at waits shared.
        let back = unchanged m n r es at waits in
        let free : is_blocked es m y ≡ false = due_free y.granted (is_blocked es m y) due in
        passed_on m n r es
        (each (λ k x. IsFree m n r k x) es es (founds es s) (λ k x found same.
        let number : m ≡ k = same_number m k same in
        let item : y ≡ x = same_item x y (item_at m es) (subst (λ (j : ℕ). item_at j es ≡ Some x) (sym number) found) t in
        subst (λ (j : ℕ). (conflicts x r && (not (nat_lt j n) && true)) ≡ false) number (subst (λ (z : Request). (conflicts z r && (not (nat_lt m n) && true)) ≡ false) item (granted_passes es n m r y back.0 free back.1))))
        (h n r back.0 waits shared)

    at_one : (o : Option Request) → item_at m es ≡ o → AreUnpassed (turn_of es m o)
    at_one None t = h
    at_one (Some y) t = at_two y t (is_due es m y) refl

-- ---- some leave
pub left_unpassed : (t : ℕ × Request → Bool) (es fs : List (ℕ × Request)) → Rise es → AreUnpassed es → fs ≡ filter t es → AreUnpassed fs
left_unpassed t es fs s h is = subst (λ (l : List (ℕ × Request)). AreUnpassed l) (sym is) (λ n r at waits shared. any_left (passes_by n r) t es (h n r (was_there t es n r s at) waits shared))

-- ---- one that waits is put in
waits_bools : (c l g : Bool) → g ≡ false → (c && (not l && g)) ≡ false
waits_bools c l true h = absurd cc
waits_bools true true false h = refl
waits_bools true false false h = refl
waits_bools false l false h = refl

early_bools : (c l g : Bool) → l ≡ true → (c && (not l && g)) ≡ false
early_bools true true g h = refl
early_bools false true g h = refl
early_bools c false g h = absurd cc

none_late : (n : ℕ) (r : Request) (es : List (ℕ × Request)) → AllByRecursion (λ e. e.0 < n) es → is_passed es n r ≡ false
none_late n r [] h = refl
none_late n r (e ∷ es) h = ap (λ (b : Bool). b || is_passed es n r) (early_bools (conflicts e.1 r) (nat_lt e.0 n) e.1.granted (lt-ltb e.0 n h.0)) ∙ none_late n r es h.1

pub at_end : (m n : ℕ) (x : Request) (es : List (ℕ × Request)) → is_eq (nat_cmp m n) ≡ false → item_at m (es ++ (n, x) ∷ []) ≡ item_at m es
at_end m n x [] h = ap (λ (b : Bool). cond b (Some x) None) h
at_end m n x (e ∷ es) h = ap (λ (o : Option Request). cond (is_eq (nat_cmp m e.0)) (Some e.1) o) (at_end m n x es h)

pub end_unpassed : (es fs : List (ℕ × Request)) (n : ℕ) (x : Request) → x.granted ≡ false → fs ≡ es ++ (n, x) ∷ [] → AllByRecursion (λ e. e.0 < n) es → AreUnpassed es → AreUnpassed fs
end_unpassed es fs n x waiting is low h = subst (λ (l : List (ℕ × Request)). AreUnpassed l) (sym is) (λ m r at waits shared.
    any-append (passes_by m r) es ((n, x) ∷ [])
    ∙ ap (λ (b : Bool). is_passed es m r || (b || false)) (waits_bools (conflicts x r) (nat_lt n m) x.granted waiting)
    ∙ or_nothing (is_passed es m r) false refl
    ∙ at_one m r waits shared at (is_eq (nat_cmp m n)) refl)
  where
    at_one : (m : ℕ) (r : Request) → r.granted ≡ false → r.shared ≡ true → item_at m (es ++ (n, x) ∷ []) ≡ Some r → (b : Bool) → is_eq (nat_cmp m n) ≡ b → is_passed es m r ≡ false
    at_one m r waits shared at true t = none_late m r es (subst (λ (j : ℕ). AllByRecursion (λ e. e.0 < j) es) (sym (number_is m n t)) low)
    at_one m r waits shared at false t = h m r (sym (at_end m n x es t) ∙ at) waits shared

-- an exclusive one put in first
not_first : (x r : Request) (b : Bool) (o : Option Request) → x.shared ≡ false → r.shared ≡ true → cond b (Some x) o ≡ Some r → o ≡ Some r
not_first x r true o alone shared is = absurd (let v : x ≡ r = cc in let t : false ≡ true = sym alone ∙ ap (λ (y : Request). y.shared) v ∙ shared in cc)
not_first x r false o alone shared is = is

pub front_unpassed : (es fs : List (ℕ × Request)) (n : ℕ) (x : Request) → x.granted ≡ false → x.shared ≡ false → fs ≡ (n, x) ∷ es → AreUnpassed es → AreUnpassed fs
front_unpassed es fs n x waiting alone is h = subst (λ (l : List (ℕ × Request)). AreUnpassed l) (sym is) (λ m r at waits shared.
    ap (λ (b : Bool). b || is_passed es m r) (waits_bools (conflicts x r) (nat_lt n m) x.granted waiting)
    ∙ h m r (not_first x r (is_eq (nat_cmp m n)) (item_at m es) alone shared at) waits shared)

-- ---- where a walk for a shared one may stop
no_bar : (call n m : ℕ) (o : Option Request) → nat_lt m n ≡ false → passes (bars true call n) m o ≡ false
no_bar call n m None h = refl
no_bar call n m (Some s) h = ap (λ (b : Bool). not (s.call == call) && (b || false)) h ∙ both_false (not (s.call == call))
  where
    both_false : (b : Bool) → (b && false) ≡ false
    both_false true = refl
    both_false false = refl

all_late : (k : Key) (call f n : ℕ) (es fs : List (ℕ × Request)) → n ≤ f → list_any (is_at_number (bars true call n) es) (numbers (touching_from keys_of k f fs)) ≡ false
all_late k call f n es [] h = refl
all_late k call f n es (e ∷ fs) h = at_one (nat_le f e.0 && touches keys_of k e.1) refl (all_late k call f n es fs h)
  where
    at_one : (b : Bool) → (nat_le f e.0 && touches keys_of k e.1) ≡ b → list_any (is_at_number (bars true call n) es) (numbers (touching_from keys_of k f fs)) ≡ false → list_any (is_at_number (bars true call n) es) (numbers (cond b (e ∷ touching_from keys_of k f fs) (touching_from keys_of k f fs))) ≡ false
    at_one true t on =
        let low = leb-true f e.0 (and_parts (nat_le f e.0) (touches keys_of k e.1) t).0 in
        ap (λ (b : Bool). b || list_any (is_at_number (bars true call n) es) (numbers (touching_from keys_of k f fs))) (no_bar call n e.0 (item_at e.0 es) (le-ltb e.0 n (omega (arith, low, h)))) ∙ on
    at_one false t on = on

pub late_none : (k : Key) (together : Bool) (call n m from : ℕ) (es : List (ℕ × Request)) (w : Bool) → together ≡ true → n ≤ m → numbers (touching_from keys_of k from es) ≡ m ∷ numbers (touching_from keys_of k (m + 1) es) → list_any (is_at_number (bars together call n) es) (numbers (touching_from keys_of k from es)) ≡ w → false ≡ w
late_none k together call n m from es w shared late found so_far =
    let one : is_at_number (bars true call n) es m ≡ false = no_bar call n m (item_at m es) (le-ltb m n (omega (arith, late))) in
    let rest : list_any (is_at_number (bars true call n) es) (numbers (touching_from keys_of k (m + 1) es)) ≡ false = all_late k call (m + 1) n es es (omega (arith, late)) in
    let none : list_any (is_at_number (bars true call n) es) (m ∷ numbers (touching_from keys_of k (m + 1) es)) ≡ false = ap (λ (b : Bool). b || list_any (is_at_number (bars true call n) es) (numbers (touching_from keys_of k (m + 1) es))) one ∙ rest in
    sym none
    ∙ ap (λ (b : Bool). list_any (is_at_number (bars b call n) es) (m ∷ numbers (touching_from keys_of k (m + 1) es))) (sym shared)
    ∙ sym (ap (list_any (is_at_number (bars together call n) es)) found)
    ∙ so_far
