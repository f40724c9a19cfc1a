-- Requests by their numbers: what a walk over the numbers finds is what a test of each entry finds.
use Rattle.std.proofs.Common.{◌≡◌, ℕ, ◌<◌, suc, Bool, true, false, not, ◌&&◌, ◌||◌, ◌==◌, cond, List, [], ◌∷◌, ◌++◌, Option, Some, refl, sym, ap, ◌∙◌, arith, subst, length}
use Rattle.std.specs.List.{list_any, filter, AllByRecursion}
use Rattle.std.specs.declared.cmp.Ordering.TheVariants.{Less}
use Rattle.std.specs.Ordering.{nat_cmp, is_eq}
use Rattle.std.specs.Map.{keys_of as keys_in}
use Rattle.std.specs.List.Sorted.{IsStrictlySortedBy}
use Rattle.std.specs.BTreeSet as sorted
use Rattle.std.specs.BTreeSet.{BTreeSet}
use Rattle.std.specs.Cmp.{nat_cmp_total}
use Rattle.std.proofs.lemmas.Map.Keys.{sorted_head, sorted_tail}
use Rattle.std.proofs.lemmas.Map.Lookups.{btree_set_from_contains, exact_unsigned}
use Rattle.queue_index.specs.declared.key.Key.{Key}
use Rattle.queue_index.specs.Queue.{item_at, numbers, without, changed_at, touches, touching_from, passes, is_at_number}
use Rattle.queue_index.proofs.Entries.{founds, each, found_in, at_is}
use Rattle.queue_index.proofs.Touching.{numbers_start}
use Rattle.queue_index.proofs.Numbers.{Rise, head_first, tail_rises, number_in}
use Rattle.mount_locks.specs.declared.request.Request.{Request}
use Rattle.mount_locks.specs.Keys.{keys_of, marked}
use Rattle.queue_index.proofs.Lists.{all_middle, all_filter, filter_filter, filter_members, fewer}

pub same_number : (a b : ℕ) → (a == b) ≡ true → a ≡ b
same_number a b h = grind (arith, h)

pub number_itself : (a : ℕ) → is_eq (nat_cmp a a) ≡ true
number_itself a = grind (arith)

pub equal_itself : (a : ℕ) → (a == a) ≡ true
equal_itself a = grind (arith)

pub above_apart : (n m : ℕ) → n < m → (n == m) ≡ false
above_apart n m h = grind (arith, h)

pub below_apart : (n m : ℕ) → m < n → (n == m) ≡ false
below_apart n m h = grind (arith, h)

-- ---- what stands before an entry, and after it
pub all_below : (pre : List (ℕ × Request)) (e : ℕ × Request) (post : List (ℕ × Request)) → Rise (pre ++ e ∷ post) → AllByRecursion (λ d. d.0 < e.0) pre
all_below [] e post s = tt
all_below (d ∷ pre) e post s = (all_middle (λ (x : ℕ × Request). d.0 < x.0) pre e post (head_first d (pre ++ e ∷ post) s), all_below pre e post (tail_rises d (pre ++ e ∷ post) s))

pub all_above : (pre : List (ℕ × Request)) (e : ℕ × Request) (post : List (ℕ × Request)) → Rise (pre ++ e ∷ post) → AllByRecursion (λ d. e.0 < d.0) post
all_above [] e post s = head_first e post s
all_above (d ∷ pre) e post s = all_above pre e post (tail_rises d (pre ++ e ∷ post) s)

-- ---- an entry changed, or taken out
pub changed_none : (n : ℕ) (es : List (ℕ × Request)) → AllByRecursion (λ e. n < e.0) es → changed_at marked n es ≡ es
changed_none n [] h = refl
changed_none n (e ∷ es) h = ap (λ (b : Bool). cond {A = ℕ × Request} b (e.0, marked e.1) e ∷ changed_at marked n es) (above_apart n e.0 h.0) ∙ ap (λ (l : List (ℕ × Request)). e ∷ l) (changed_none n es h.1)

pub changed_middle : (n : ℕ) (r : Request) (pre post : List (ℕ × Request)) → AllByRecursion (λ e. e.0 < n) pre → AllByRecursion (λ e. n < e.0) post → changed_at marked n (pre ++ (n, r) ∷ post) ≡ pre ++ (n, marked r) ∷ post
changed_middle n r [] post low high = ap (λ (b : Bool). cond {A = ℕ × Request} b (n, marked r) (n, r) ∷ changed_at marked n post) (equal_itself n) ∙ ap (λ (l : List (ℕ × Request)). (n, marked r) ∷ l) (changed_none n post high)
changed_middle n r (e ∷ pre) post low high = ap (λ (b : Bool). cond {A = ℕ × Request} b (e.0, marked e.1) e ∷ changed_at marked n (pre ++ (n, r) ∷ post)) (below_apart n e.0 low.0) ∙ ap (λ (l : List (ℕ × Request)). e ∷ l) (changed_middle n r pre post low.1 high)

pub without_none : (n : ℕ) (es : List (ℕ × Request)) → AllByRecursion (λ e. n < e.0) es → without n es ≡ es
without_none n [] h = refl
without_none n (e ∷ es) h = ap (λ (b : Bool). cond (not b) (e ∷ without n es) (without n es)) (above_apart n e.0 h.0) ∙ ap (λ (l : List (ℕ × Request)). e ∷ l) (without_none n es h.1)

pub keys_middle : (pre post : List (ℕ × Request)) (n : ℕ) (r s : Request) → keys_in (pre ++ (n, r) ∷ post) ≡ keys_in (pre ++ (n, s) ∷ post)
keys_middle [] post n r s = refl
keys_middle (e ∷ pre) post n r s = ap (λ (l : List ℕ). e.0 ∷ l) (keys_middle pre post n r s)

-- ---- the numbers of entries that pass
first_number : (b : Bool) (e : ℕ × Request) (l : List (ℕ × Request)) → cond b (e.0 ∷ numbers l) (numbers l) ≡ numbers (cond b (e ∷ l) l)
first_number true e l = refl
first_number false e l = refl

pub filter_numbers : (p : ℕ → Request → Bool) (es fs : List (ℕ × Request)) → AllByRecursion (λ e. item_at e.0 es ≡ Some e.1) fs → filter (is_at_number p es) (numbers fs) ≡ numbers (filter (λ e. p e.0 e.1) fs)
filter_numbers p es [] h = refl
filter_numbers p es (e ∷ fs) h =
    ap (λ (o : Option Request). cond (passes p e.0 o) (e.0 ∷ filter (is_at_number p es) (numbers fs)) (filter (is_at_number p es) (numbers fs))) h.0
    ∙ ap (λ (l : List ℕ). cond (p e.0 e.1) (e.0 ∷ l) l) (filter_numbers p es fs h.1)
    ∙ first_number (p e.0 e.1) e (filter (λ e. p e.0 e.1) fs)

-- ---- whether a number is among them
-- ---- the first entry that has a key
pub first_touches : (k : Key) (m : ℕ) (ms : List ℕ) (es : List (ℕ × Request)) → Rise es → numbers (touching_from keys_of k 0 es) ≡ m ∷ ms → is_at_number (λ _ r. touches keys_of k r) es m ≡ true
first_touches k m ms es s is =
    let here : list_any (λ n. is_eq (nat_cmp m n)) (m ∷ ms) ≡ true = ap (λ (b : Bool). b || list_any (λ n. is_eq (nat_cmp m n)) ms) (number_itself m) in
    sym (number_in (λ e. touches keys_of k e.1) m es s) ∙ ap (list_any (λ n. is_eq (nat_cmp m n))) (sym (numbers_start keys_of k es) ∙ is) ∙ here

kept_bools : (b t : Bool) → (b ≡ true → t ≡ true) → (not b && not t) ≡ not t
kept_bools true true h = refl
kept_bools true false h = absurd (let t = h refl in cc)
kept_bools false t h = refl

-- one that has a key, taken out, leaves the same that have it not
pub taken_out : (k : Key) (m : ℕ) (es : List (ℕ × Request)) → Rise es → is_at_number (λ _ r. touches keys_of k r) es m ≡ true → filter (λ e. not (touches keys_of k e.1)) (without m es) ≡ filter (λ e. not (touches keys_of k e.1)) es
taken_out k m es s there =
    filter_filter (λ e. not (touches keys_of k e.1)) (λ e. not (m == e.0)) es
    ∙ filter_members (λ e. not (m == e.0) && not (touches keys_of k e.1)) (λ e. not (touches keys_of k e.1)) es
    (each (λ n x. (not (m == n) && not (touches keys_of k x)) ≡ not (touches keys_of k x)) es es (founds es s) (λ n x is. kept_bools (m == n) (touches keys_of k x) (λ same. sym (ap (λ (o : Option Request). passes (λ _ r. touches keys_of k r) n o) is) ∙ subst (λ (j : ℕ). is_at_number (λ _ r. touches keys_of k r) es j ≡ true) (same_number m n same) there)))

pub shorter : (k : Key) (m : ℕ) (es : List (ℕ × Request)) → is_at_number (λ _ r. touches keys_of k r) es m ≡ true → length (without m es) < length es
shorter k m [] h = absurd cc
shorter k m (e ∷ es) h = at_one (is_eq (nat_cmp m e.0)) refl h (shorter k m es)
  where
    at_one : (b : Bool) → is_eq (nat_cmp m e.0) ≡ b → passes (λ _ r. touches keys_of k r) m (cond b (Some e.1) (item_at m es)) ≡ true → (is_at_number (λ _ r. touches keys_of k r) es m ≡ true → length (without m es) < length es) → length (cond (not (m == e.0)) (e ∷ without m es) (without m es)) < suc (length es)
    at_one true t h on =
        let is : length (cond (not (m == e.0)) (e ∷ without m es) (without m es)) ≡ length (without m es) = ap (λ (b : Bool). length (cond (not b) (e ∷ without m es) (without m es))) (sym (at_is m e.0) ∙ t) in
        let few = fewer (λ (d : ℕ × Request). not (m == d.0)) es in
        omega (arith, is, few)
    at_one false t h on =
        let is : length (cond (not (m == e.0)) (e ∷ without m es) (without m es)) ≡ suc (length (without m es)) = ap (λ (b : Bool). length (cond (not b) (e ∷ without m es) (without m es))) (sym (at_is m e.0) ∙ t) in
        let less = on h in
        omega (arith, is, less)

pub none_has : (p : ℕ × Request → Bool) (es : List (ℕ × Request)) → numbers (filter p es) ≡ [] → filter (λ e. not (p e)) es ≡ es
none_has p [] h = refl
none_has p (e ∷ es) h = elim (p e) as (λ (b : Bool). numbers (cond b (e ∷ filter p es) (filter p es)) ≡ [] → cond (not b) (e ∷ filter (λ e. not (p e)) es) (filter (λ e. not (p e)) es) ≡ e ∷ es) [ true ↦ λ t. absurd cc | false ↦ λ t. ap (λ (l : List (ℕ × Request)). e ∷ l) (none_has p es t) ] h

-- ---- all that have a key taken out, one by one
pub forget_less : (k : Key) (m : ℕ) (ms : List ℕ) (es seen fs : List (ℕ × Request)) → Rise es → seen ≡ es → numbers (touching_from keys_of k 0 seen) ≡ m ∷ ms → fs ≡ without m es → length fs < length es
forget_less k m ms es seen fs s same found is =
    subst (λ (l : List (ℕ × Request)). length l < length es) (sym is) (shorter k m es (first_touches k m ms es s (sym (ap (λ (l : List (ℕ × Request)). numbers (touching_from keys_of k 0 l)) same) ∙ found)))

pub forget_one : (k : Key) (m : ℕ) (ms : List ℕ) (es seen fs ws : List (ℕ × Request)) → Rise es → seen ≡ es → numbers (touching_from keys_of k 0 seen) ≡ m ∷ ms → fs ≡ without m es → filter (λ e. not (touches keys_of k e.1)) es ≡ ws → filter (λ e. not (touches keys_of k e.1)) fs ≡ ws
forget_one k m ms es seen fs ws s same found is so_far =
    ap (λ (l : List (ℕ × Request)). filter (λ e. not (touches keys_of k e.1)) l) is
    ∙ taken_out k m es s (first_touches k m ms es s (sym (ap (λ (l : List (ℕ × Request)). numbers (touching_from keys_of k 0 l)) same) ∙ found))
    ∙ so_far

pub forgotten : (k : Key) (es seen ws : List (ℕ × Request)) → seen ≡ es → numbers (touching_from keys_of k 0 seen) ≡ [] → filter (λ e. not (touches keys_of k e.1)) es ≡ ws → es ≡ ws
forgotten k es seen ws same none so_far =
    sym (none_has (λ e. touches keys_of k e.1) es (sym (numbers_start keys_of k es) ∙ sym (ap (λ (l : List (ℕ × Request)). numbers (touching_from keys_of k 0 l)) same) ∙ none)) ∙ so_far
