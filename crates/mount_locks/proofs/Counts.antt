-- How many requests wait, where one is put in, granted or taken out.
use Rattle.std.proofs.Common.{◌≡◌, ℕ, ◌+◌, ◌<◌, ◌≤◌, suc, Bool, true, false, not, cond, List, [], ◌∷◌, ◌++◌, Some, refl, sym, ap, ◌∙◌, arith, subst, length}
use Rattle.std.specs.List.{AllByRecursion}
use Rattle.std.specs.Ordering.{nat_cmp, is_eq}
use Rattle.queue_index.specs.Queue.{item_at, items, without, changed_at, passes, is_at_number, with_free_end, with_free_front}
use Rattle.queue_index.proofs.Entries.{at_is}
use Rattle.queue_index.proofs.Renumbered.{items_last, items_free_end, items_free_front}
use Rattle.mount_locks.specs.declared.request.Request.{Request}
use Rattle.mount_locks.specs.Keys.{marked}
use Rattle.mount_locks.specs.Rule.{waiting}
use Rattle.queue_index.proofs.Numbers.{Rise, number_is, head_first, tail_rises}
use Rattle.mount_locks.proofs.Numbered.{changed_none, without_none}

more : (b : Bool) (x : Request) (k : ℕ) (us vs : List Request) → length us ≡ length vs + k → length (cond b (x ∷ us) us) ≡ length (cond b (x ∷ vs) vs) + k
more true x k us vs i = omega (arith, i)
more false x k us vs i = i

one_more : (b : Bool) (x : Request) (us : List Request) → length (cond b (x ∷ us) us) ≡ length us + cond b 1 0
one_more true x us = omega arith
one_more false x us = omega arith

few_more : (b : Bool) (x : Request) (us : List Request) (k : ℕ) → length us ≤ k → length (cond b (x ∷ us) us) ≤ suc k
few_more true x us k i = omega (arith, i)
few_more false x us k i = omega (arith, i)

pub count_fits : (es : List (ℕ × Request)) → length (waiting (items es)) ≤ length es
count_fits [] = omega arith
count_fits (e ∷ es) = few_more (not e.1.granted) e.1 (waiting (items es)) (length es) (count_fits es)

pub last_longer : (es : List (ℕ × Request)) (e : ℕ × Request) → length (es ++ e ∷ []) ≡ length es + 1
last_longer [] e = refl
last_longer (d ∷ es) e = let i = last_longer es e in omega (arith, i)

pub count_marked : (n : ℕ) (es : List (ℕ × Request)) → Rise es → is_at_number (λ _ r. not r.granted) es n ≡ true → length (waiting (items es)) ≡ length (waiting (items (changed_at marked n es))) + 1
count_marked n [] s h = absurd cc
count_marked n (e ∷ es) s h = at_one (is_eq (nat_cmp n e.0)) refl h (count_marked n es (tail_rises e es s))
  where
    at_one : (b : Bool) → is_eq (nat_cmp n e.0) ≡ b → passes (λ _ r. not r.granted) n (cond b (Some e.1) (item_at n es)) ≡ true → (is_at_number (λ _ r. not r.granted) es n ≡ true → length (waiting (items es)) ≡ length (waiting (items (changed_at marked n es))) + 1) → length (waiting (items (e ∷ es))) ≡ length (waiting (items (changed_at marked n (e ∷ es)))) + 1
    at_one true t h on =
        let same = changed_none n es (subst (λ (j : ℕ). AllByRecursion (λ d. j < d.0) es) (sym (number_is n e.0 t)) (head_first e es s)) in
        let up : length (waiting (items (e ∷ es))) ≡ length (waiting (items es)) + 1 = one_more (not e.1.granted) e.1 (waiting (items es)) ∙ ap (λ (b : Bool). length (waiting (items es)) + cond b 1 0) h in
        let down : length (waiting (items (changed_at marked n (e ∷ es)))) ≡ length (waiting (items es)) = ap (λ (b : Bool). length (waiting (items (cond {A = ℕ × Request} b (e.0, marked e.1) e ∷ changed_at marked n es)))) (sym (at_is n e.0) ∙ t) ∙ ap (λ (l : List (ℕ × Request)). length (waiting (items l))) same in
        omega (arith, up, down)
    at_one false t h on =
        let head : length (waiting (items (changed_at marked n (e ∷ es)))) ≡ length (cond (not e.1.granted) (e.1 ∷ waiting (items (changed_at marked n es))) (waiting (items (changed_at marked n es)))) = ap (λ (b : Bool). length (waiting (items (cond {A = ℕ × Request} b (e.0, marked e.1) e ∷ changed_at marked n es)))) (sym (at_is n e.0) ∙ t) in
        more (not e.1.granted) e.1 1 (waiting (items es)) (waiting (items (changed_at marked n es))) (on h) ∙ ap (λ (k : ℕ). k + 1) (sym head)

pub count_without : (n : ℕ) (b : Bool) (es : List (ℕ × Request)) → Rise es → is_at_number (λ _ r. not r.granted) es n ≡ b → length (waiting (items es)) ≡ length (waiting (items (without n es))) + cond b 1 0
count_without n true [] s h = absurd cc
count_without n false [] s h = refl
count_without n w (e ∷ es) s h = at_one (is_eq (nat_cmp n e.0)) refl h (count_without n w es (tail_rises e es s))
  where
    at_one : (b : Bool) → is_eq (nat_cmp n e.0) ≡ b → passes (λ _ r. not r.granted) n (cond b (Some e.1) (item_at n es)) ≡ w → (is_at_number (λ _ r. not r.granted) es n ≡ w → length (waiting (items es)) ≡ length (waiting (items (without n es))) + cond w 1 0) → length (waiting (items (e ∷ es))) ≡ length (waiting (items (without n (e ∷ es)))) + cond w 1 0
    at_one true t h on =
        let same = without_none n es (subst (λ (j : ℕ). AllByRecursion (λ d. j < d.0) es) (sym (number_is n e.0 t)) (head_first e es s)) in
        let down : length (waiting (items (without n (e ∷ es)))) ≡ length (waiting (items es)) = ap (λ (b : Bool). length (waiting (items (cond (not b) (e ∷ without n es) (without n es))))) (sym (at_is n e.0) ∙ t) ∙ ap (λ (l : List (ℕ × Request)). length (waiting (items l))) same in
        one_more (not e.1.granted) e.1 (waiting (items es)) ∙ ap (λ (b : Bool). length (waiting (items es)) + cond b 1 0) h ∙ ap (λ (k : ℕ). k + cond w 1 0) (sym down)
    at_one false t h on =
        let head : length (waiting (items (without n (e ∷ es)))) ≡ length (cond (not e.1.granted) (e.1 ∷ waiting (items (without n es))) (waiting (items (without n es)))) = ap (λ (b : Bool). length (waiting (items (cond (not b) (e ∷ without n es) (without n es))))) (sym (at_is n e.0) ∙ t) in
        more (not e.1.granted) e.1 (cond w 1 0) (waiting (items es)) (waiting (items (without n es))) (on h) ∙ ap (λ (k : ℕ). k + cond w 1 0) (sym head)

-- ---- a count that is kept
room_last : (es fs : List (ℕ × Request)) (e : ℕ × Request) (w k : ℕ) → w ≡ length (waiting (items es)) → fs ≡ es ++ e ∷ [] → k ≡ length fs → w + 1 ≤ k
room_last es fs e w k count is long =
    let fits = count_fits es in
    let one : length fs ≡ length es + 1 = ap (λ (l : List (ℕ × Request)). length l) is ∙ last_longer es e in
    omega (arith, count, long, fits, one)

room_first : (es fs : List (ℕ × Request)) (e : ℕ × Request) (w k : ℕ) → w ≡ length (waiting (items es)) → fs ≡ e ∷ es → k ≡ length fs → w + 1 ≤ k
room_first es fs e w k count is long =
    let fits = count_fits es in
    let one : length fs ≡ suc (length es) = ap (λ (l : List (ℕ × Request)). length l) is in
    omega (arith, count, long, fits, one)

pub room_in_last : (es fs : List (ℕ × Request)) (e : ℕ × Request) (w k : ℕ) → w ≡ length (waiting (items es)) → fs ≡ with_free_end es ++ e ∷ [] → k ≡ length fs → w + 1 ≤ k
room_in_last es fs e w k count is long = room_last (with_free_end es) fs e w k (count ∙ ap (λ (l : List Request). length (waiting l)) (sym (items_free_end es))) is long

pub room_in_first : (es fs : List (ℕ × Request)) (e : ℕ × Request) (w k : ℕ) → w ≡ length (waiting (items es)) → fs ≡ e ∷ with_free_front es → k ≡ length fs → w + 1 ≤ k
room_in_first es fs e w k count is long = room_first (with_free_front es) fs e w k (count ∙ ap (λ (l : List Request). length (waiting l)) (sym (items_free_front es))) is long

-- one that waits is put in
waits_more : (r : Request) (us : List Request) → r.granted ≡ false → length (waiting (r ∷ us)) ≡ length (waiting us) + 1
waits_more r us waits = one_more (not r.granted) r (waiting us) ∙ ap (λ (b : Bool). length (waiting us) + cond (not b) 1 0) waits

waits_last : (us : List Request) (r : Request) → r.granted ≡ false → length (waiting (us ++ r ∷ [])) ≡ length (waiting us) + 1
waits_last [] r waits = waits_more r [] waits
waits_last (x ∷ us) r waits = more (not x.granted) x 1 (waiting (us ++ r ∷ [])) (waiting us) (waits_last us r waits)

pub count_in_last : (es fs : List (ℕ × Request)) (n : ℕ) (r : Request) (w : ℕ) → r.granted ≡ false → w ≡ length (waiting (items es)) → fs ≡ with_free_end es ++ (n, r) ∷ [] → w + 1 ≡ length (waiting (items fs))
count_in_last es fs n r w waits count is =
    ap (λ (k : ℕ). k + 1) (count ∙ ap (λ (l : List Request). length (waiting l)) (sym (items_free_end es)))
    ∙ sym (ap (λ (l : List (ℕ × Request)). length (waiting (items l))) is ∙ ap (λ (l : List Request). length (waiting l)) (items_last (with_free_end es) (n, r)) ∙ waits_last (items (with_free_end es)) r waits)

pub count_in_first : (es fs : List (ℕ × Request)) (n : ℕ) (r : Request) (w : ℕ) → r.granted ≡ false → w ≡ length (waiting (items es)) → fs ≡ (n, r) ∷ with_free_front es → w + 1 ≡ length (waiting (items fs))
count_in_first es fs n r w waits count is =
    ap (λ (k : ℕ). k + 1) (count ∙ ap (λ (l : List Request). length (waiting l)) (sym (items_free_front es)))
    ∙ sym (ap (λ (l : List (ℕ × Request)). length (waiting (items l))) is ∙ waits_more r (items (with_free_front es)) waits)

pub one_granted : (n w : ℕ) (es now fs : List (ℕ × Request)) → es ≡ now → Rise es → is_at_number (λ _ r. not r.granted) now n ≡ true → w ≡ length (waiting (items es)) → fs ≡ changed_at marked n es → w ≡ length (waiting (items fs)) + 1
one_granted n w es now fs same s there count is =
    count
    ∙ count_marked n es s (subst (λ (l : List (ℕ × Request)). is_at_number (λ _ r. not r.granted) l n ≡ true) (sym same) there)
    ∙ ap (λ (l : List (ℕ × Request)). length (waiting (items l)) + 1) (sym is)

one_out : (n w : ℕ) (b : Bool) (es fs : List (ℕ × Request)) → Rise es → is_at_number (λ _ r. not r.granted) es n ≡ b → w ≡ length (waiting (items es)) → fs ≡ without n es → w ≡ length (waiting (items fs)) + cond b 1 0
one_out n w b es fs s there count is = count ∙ count_without n b es s there ∙ ap (λ (l : List (ℕ × Request)). length (waiting (items l)) + cond b 1 0) (sym is)

pub waiter_out : (n w : ℕ) (b : Bool) (es fs : List (ℕ × Request)) → Rise es → b ≡ is_at_number (λ _ r. not r.granted) es n → b ≡ true → w ≡ length (waiting (items es)) → fs ≡ without n es → w ≡ length (waiting (items fs)) + 1
waiter_out n w b es fs s there on count is = one_out n w true es fs s (sym there ∙ on) count is

pub other_out : (n w : ℕ) (b : Bool) (es fs : List (ℕ × Request)) → Rise es → b ≡ is_at_number (λ _ r. not r.granted) es n → b ≡ false → w ≡ length (waiting (items es)) → fs ≡ without n es → w ≡ length (waiting (items fs))
other_out n w b es fs s there off count is = let i = one_out n w false es fs s (sym there ∙ off) count is in omega (arith, i)

-- where nobody waits, all are granted
granted_if : (b : Bool) (x : Request) (us : List Request) → length (cond (not b) (x ∷ us) us) ≡ 0 → (b ≡ true) × (length us ≡ 0)
granted_if true x us h = (refl, h)
granted_if false x us h = absurd (omega (arith, h))

pub all_granted : (es : List (ℕ × Request)) → length (waiting (items es)) ≡ 0 → AllByRecursion (λ e. e.1.granted ≡ true) es
all_granted [] h = tt
all_granted (e ∷ es) h = let two = granted_if e.1.granted e.1 (waiting (items es)) h in (two.0, all_granted es two.1)
