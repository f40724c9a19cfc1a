-- Requests by their numbers: what a walk over all of them finds is what a test of each finds.
use Rattle.std.proofs.Common.{◌≡◌, ℕ, ◌<◌, Bool, true, false, not, ◌&&◌, ◌||◌, ◌==◌, nat_lt, cond, List, [], ◌∷◌, ◌++◌, Option, Some, None, refl, sym, ap, ◌∙◌, arith, subst, map, append_assoc, lt-ltb, le-ltb}
use Rattle.std.specs.List.{list_any, filter, AllByRecursion}
use Rattle.std.specs.declared.cmp.Ordering.{Ordering}
use Rattle.std.specs.declared.cmp.Ordering.TheVariants.{Less}
use Rattle.std.specs.Ordering.{nat_cmp, is_eq}
use Rattle.std.specs.Map.{keys_of}
use Rattle.std.specs.List.Sorted.{IsStrictlySortedBy}
use Rattle.std.specs.BTreeSet as sorted
use Rattle.std.specs.BTreeSet.{BTreeSet}
use Rattle.std.specs.Cmp.{nat_cmp_total}
use Rattle.std.proofs.lemmas.Map.Keys.{sorted_head, sorted_tail}
use Rattle.std.proofs.lemmas.Map.Lookups.{btree_set_from_contains, exact_unsigned}
use Rattle.queue_index.specs.declared.key.Key.{Key}
use Rattle.queue_index.specs.Queue.{item_at, items, numbers, before, without, touches, touching, passes, is_at_number}
use Rattle.queue_index.proofs.Entries.{founds, at_is}
use Rattle.brick_locks.specs.declared.owner.Owner.{Owner}
use Rattle.brick_locks.specs.declared.request.Request.{Request}
use Rattle.brick_locks.specs.Locks.{is_kept_by, held_after, waiting_after, is_freed, freed_after, gone_after, owners}
use Rattle.brick_locks.specs.Walks.{owner_if, with_owner, picked, waits}
use Rattle.queue_index.proofs.Lists.{filter_filter}

less_is : (a b : ℕ) → nat_cmp a b ≡ Less → a < b
less_is a b h = grind (arith, h)

-- ---- what stands before an entry
none_before : (n : ℕ) (es : List (ℕ × Request)) → AllByRecursion (λ y. nat_cmp n y ≡ Less) (keys_of es) → before n es ≡ []
none_before n [] h = refl
none_before n (e ∷ es) h = ap (λ (b : Bool). cond b (e ∷ before n es) (before n es)) (le-ltb e.0 n (let l = less_is n e.0 h.0 in omega (arith, l))) ∙ none_before n es h.1

at_middle : (P : ℕ → Type 0) (pre : List (ℕ × Request)) (e : ℕ × Request) (post : List (ℕ × Request)) → AllByRecursion P (keys_of (pre ++ e ∷ post)) → P e.0
at_middle P [] e post h = h.0
at_middle P (d ∷ pre) e post h = at_middle P pre e post h.1

before_here : (pre : List (ℕ × Request)) (e : ℕ × Request) (post : List (ℕ × Request)) → IsStrictlySortedBy nat_cmp (keys_of (pre ++ e ∷ post)) → before e.0 (pre ++ e ∷ post) ≡ pre
before_here [] e post s = ap (λ (b : Bool). cond b (e ∷ before e.0 post) (before e.0 post)) (le-ltb e.0 e.0 (omega arith)) ∙ none_before e.0 post (sorted_head nat_cmp e.0 (keys_of post) s)
before_here (d ∷ pre) e post s =
    ap (λ (b : Bool). cond b (d ∷ before e.0 (pre ++ e ∷ post)) (before e.0 (pre ++ e ∷ post))) (lt-ltb d.0 e.0 (less_is d.0 e.0 (at_middle (λ y. nat_cmp d.0 y ≡ Less) pre e post (sorted_head nat_cmp d.0 (keys_of (pre ++ e ∷ post)) s))))
    ∙ ap (λ (l : List (ℕ × Request)). d ∷ l) (before_here pre e post (sorted_tail nat_cmp d.0 (keys_of (pre ++ e ∷ post)) s))

-- what stands before the last entry
pub before_last : (es : List (ℕ × Request)) (n : ℕ) (r : Request) → IsStrictlySortedBy nat_cmp (keys_of (es ++ (n, r) ∷ [])) → before n (es ++ (n, r) ∷ []) ≡ es
before_last es n r s = before_here es (n, r) [] s

pub kept_last : (es fs : List (ℕ × Request)) (n : ℕ) (r : Request) (b : Bool) → fs ≡ es ++ (n, r) ∷ [] → IsStrictlySortedBy nat_cmp (keys_of fs) → b ≡ is_kept_by (items (before n fs)) r → b ≡ is_kept_by (items es) r
kept_last es fs n r b is s e = e ∙ ap (λ (l : List (ℕ × Request)). is_kept_by (items l) r) (ap (before n) is ∙ before_last es n r (subst (λ (l : List (ℕ × Request)). IsStrictlySortedBy nat_cmp (keys_of l)) is s))

-- ---- a walk
walk : (List Request → Request → Bool) → List Request → List Request → List Request
walk p before [] = []
walk p before (r ∷ rs) = cond (p before r) (r ∷ walk p (before ++ r ∷ []) rs) (walk p (before ++ r ∷ []) rs)

items_last : (pre : List (ℕ × Request)) (e : ℕ × Request) → items (pre ++ e ∷ []) ≡ items pre ++ e.1 ∷ []
items_last [] e = refl
items_last (d ∷ pre) e = ap (λ (l : List Request). d.1 ∷ l) (items_last pre e)

walked : (p : List Request → Request → Bool) (pre post all : List (ℕ × Request)) → all ≡ pre ++ post → IsStrictlySortedBy nat_cmp (keys_of all) → walk p (items pre) (items post) ≡ items (filter (λ e. p (items (before e.0 all)) e.1) post)
unfolding walk
walked p pre [] all is s = refl
walked p pre (e ∷ post) all is s =
    let here : before e.0 all ≡ pre = ap (before e.0) is ∙ before_here pre e post (subst (λ (l : List (ℕ × Request)). IsStrictlySortedBy nat_cmp (keys_of l)) is s) in
    let rest : walk p (items pre ++ e.1 ∷ []) (items post) ≡ items (filter (λ f. p (items (before f.0 all)) f.1) post) = ap (λ (l : List Request). walk p l (items post)) (sym (items_last pre e)) ∙ walked p (pre ++ e ∷ []) post all (is ∙ sym (append_assoc pre (e ∷ []) post)) s in
    ap (λ (l : List Request). cond (p (items pre) e.1) (e.1 ∷ l) l) rest
    ∙ ap (λ (l : List (ℕ × Request)). cond (p (items l) e.1) (e.1 ∷ items (filter (λ f. p (items (before f.0 all)) f.1) post)) (items (filter (λ f. p (items (before f.0 all)) f.1) post))) (sym here)
    ∙ first (p (items (before e.0 all)) e.1) e (filter (λ f. p (items (before f.0 all)) f.1) post)
  where
    first : (b : Bool) (e : ℕ × Request) (l : List (ℕ × Request)) → cond b (e.1 ∷ items l) (items l) ≡ items (cond b (e ∷ l) l)
    first true e l = refl
    first false e l = refl

cond_not : (b : Bool) (x y : List Request) → cond b x y ≡ cond (not b) y x
cond_not true x y = refl
cond_not false x y = refl

held_walk : (before rs : List Request) → held_after before rs ≡ walk (λ b r. not (is_kept_by b r)) before rs
unfolding walk
held_walk before [] = refl
held_walk before (r ∷ rs) = ap (λ (l : List Request). cond (is_kept_by before r) l (r ∷ l)) (held_walk (before ++ r ∷ []) rs) ∙ cond_not (is_kept_by before r) (walk (λ b r. not (is_kept_by b r)) (before ++ r ∷ []) rs) (r ∷ walk (λ b r. not (is_kept_by b r)) (before ++ r ∷ []) rs)

waiting_walk : (before rs : List Request) → waiting_after before rs ≡ walk is_kept_by before rs
unfolding walk
waiting_walk before [] = refl
waiting_walk before (r ∷ rs) = ap (λ (l : List Request). cond (is_kept_by before r) (r ∷ l) l) (waiting_walk (before ++ r ∷ []) rs)

freed_walk : (stays : Request → Bool) (before rs : List Request) → freed_after stays before rs ≡ walk (is_freed stays) before rs
unfolding walk
freed_walk stays before [] = refl
freed_walk stays before (r ∷ rs) = ap (λ (l : List Request). cond (is_freed stays before r) (r ∷ l) l) (freed_walk stays (before ++ r ∷ []) rs)

gone_walk : (stays : Request → Bool) (before rs : List Request) → gone_after stays before rs ≡ walk (λ b r. not (stays r) && is_kept_by b r) before rs
unfolding walk
gone_walk stays before [] = refl
gone_walk stays before (r ∷ rs) = ap (λ (l : List Request). cond (not (stays r) && is_kept_by before r) (r ∷ l) l) (gone_walk stays (before ++ r ∷ []) rs)

pub held_is : (es : List (ℕ × Request)) → IsStrictlySortedBy nat_cmp (keys_of es) → held_after [] (items es) ≡ items (filter (λ e. not (waits es e.0 e.1)) es)
held_is es s = held_walk [] (items es) ∙ walked (λ b r. not (is_kept_by b r)) [] es es refl s

pub waiting_is : (es : List (ℕ × Request)) → IsStrictlySortedBy nat_cmp (keys_of es) → waiting_after [] (items es) ≡ items (filter (λ e. waits es e.0 e.1) es)
waiting_is es s = waiting_walk [] (items es) ∙ walked is_kept_by [] es es refl s

pub freed_is : (stays : Request → Bool) (es : List (ℕ × Request)) → IsStrictlySortedBy nat_cmp (keys_of es) → freed_after stays [] (items es) ≡ items (filter (λ e. is_freed stays (items (before e.0 es)) e.1) es)
freed_is stays es s = freed_walk stays [] (items es) ∙ walked (is_freed stays) [] es es refl s

pub gone_is : (stays : Request → Bool) (es : List (ℕ × Request)) → IsStrictlySortedBy nat_cmp (keys_of es) → gone_after stays [] (items es) ≡ items (filter (λ e. not (stays e.1) && waits es e.0 e.1) es)
gone_is stays es s = gone_walk stays [] (items es) ∙ walked (λ b r. not (stays r) && is_kept_by b r) [] es es refl s

-- ---- numbers of entries
pub picked_is : (p : ℕ → Request → Bool) (q : ℕ × Request → Bool) (es fs : List (ℕ × Request)) → AllByRecursion (λ e. item_at e.0 es ≡ Some e.1) fs → picked p es (numbers (filter q fs)) ≡ owners (items (filter (λ e. q e && p e.0 e.1) fs))
picked_is p q es [] h = refl
picked_is p q es (e ∷ fs) h = elim (q e) as (λ (b : Bool). picked p es (numbers (cond b (e ∷ filter q fs) (filter q fs))) ≡ owners (items (cond (b && p e.0 e.1) (e ∷ filter (λ e. q e && p e.0 e.1) fs) (filter (λ e. q e && p e.0 e.1) fs)))) [
  | true ↦
      ap (λ (o : Option Request). with_owner (owner_if p e.0 o) (picked p es (numbers (filter q fs)))) h.0
      ∙ ap (λ (l : List Owner). with_owner (cond (p e.0 e.1) (Some e.1.owner) None) l) (picked_is p q es fs h.1)
      ∙ first (p e.0 e.1) (filter (λ e. q e && p e.0 e.1) fs)
  | false ↦ picked_is p q es fs h.1
]
  where
    first : (b : Bool) (l : List (ℕ × Request)) → with_owner (cond b (Some e.1.owner) None) (owners (items l)) ≡ owners (items (cond b (e ∷ l) l))
    first true l = refl
    first false l = refl
