-- What is true of all requests: who waits is blocked, and no owner asks twice.
use Rattle.std.proofs.Common.{◌≡◌, ℕ, Bool, true, false, ◌&&◌, ◌||◌, ◌==◌, cond, List, [], ◌∷◌, ◌++◌, refl, sym, ap, ◌∙◌, subst}
use Rattle.std.specs.List.{list_any, filter}
use Rattle.queue_index.specs.Queue.{items, with_free_end}
use Rattle.queue_index.proofs.Renumbered.{items_free_end}
use Rattle.queue_index.proofs.Lists.{any-append, any_left, any_cond, or_false}
use Rattle.brick_locks.specs.declared.request.Request.{Request}
use Rattle.brick_locks.specs.declared.owner.Owner.{Owner}
use Rattle.brick_locks.specs.Locks.{conflicts, is_kept_by, is_of, is_known, held_after, waiting_after, held, waiting, request, WaitersAreBlocked, OwnersDiffer}
use Rattle.brick_locks.proofs.Freeing.{eq_flip}

-- ---- each request holds or waits
parts : (k p a b c : Bool) → c ≡ (a || b) → (p || c) ≡ (cond k a (p || a) || cond k (p || b) b)
parts true true true b c h = refl
parts true true false b c h = refl
parts true false a b c h = h
parts false true a b c h = refl
parts false false a b c h = h

any_either : (p : Request → Bool) (k : Bool) (r : Request) (us : List Request) → list_any p (cond k us (r ∷ us)) ≡ cond k (list_any p us) (p r || list_any p us)
any_either p true r us = refl
any_either p false r us = refl

all_parts : (p : Request → Bool) (before rs : List Request) → list_any p rs ≡ (list_any p (held_after before rs) || list_any p (waiting_after before rs))
all_parts p before [] = refl
all_parts p before (r ∷ rs) =
    parts (is_kept_by before r) (p r) (list_any p (held_after (before ++ r ∷ []) rs)) (list_any p (waiting_after (before ++ r ∷ []) rs)) (list_any p rs) (all_parts p (before ++ r ∷ []) rs)
    ∙ ap (λ (b : Bool). b || cond (is_kept_by before r) (p r || list_any p (waiting_after (before ++ r ∷ []) rs)) (list_any p (waiting_after (before ++ r ∷ []) rs))) (sym (any_either p (is_kept_by before r) r (held_after (before ++ r ∷ []) rs)))
    ∙ ap (λ (b : Bool). list_any p (held_after before (r ∷ rs)) || b) (sym (any_cond p (is_kept_by before r) r (waiting_after (before ++ r ∷ []) rs)))

pub waiters_blocked : (rs : List Request) → WaitersAreBlocked rs
waiters_blocked rs = λ earlier r later is waits. sym (all_parts (conflicts r) [] earlier) ∙ waits

-- ---- no owner asks twice
of_flip : (r s : Request) → is_of r.owner s ≡ is_of s.owner r
of_flip r s = ap (λ (b : Bool). b && (r.owner.call == s.owner.call)) (eq_flip r.owner.graph s.owner.graph) ∙ ap (λ (b : Bool). (s.owner.graph == r.owner.graph) && b) (eq_flip r.owner.call s.owner.call)

known_last : (o : Owner) (rs : List Request) (r : Request) → is_known o rs ≡ false → is_of o r ≡ false → is_known o (rs ++ r ∷ []) ≡ false
known_last o rs r none apart = any-append (is_of o) rs (r ∷ []) ∙ ap (λ (b : Bool). b || (is_of o r || false)) none ∙ ap (λ (b : Bool). b || false) apart

differ_last : (rs : List Request) (r : Request) → OwnersDiffer rs → is_known r.owner rs ≡ false → OwnersDiffer (rs ++ r ∷ [])
differ_last [] r h none = (refl, tt)
differ_last (x ∷ rs) r h none =
    let two = or_false (is_of r.owner x) (is_known r.owner rs) none in
    (known_last x.owner rs r h.0 (of_flip x r ∙ two.0), differ_last rs r h.1 two.1)

pub differ_fewer : (t : Request → Bool) (rs : List Request) → OwnersDiffer rs → OwnersDiffer (filter t rs)
differ_fewer t [] h = tt
differ_fewer t (r ∷ rs) h = elim (t r) as (λ (b : Bool). OwnersDiffer (cond b (r ∷ filter t rs) (filter t rs))) [
  | true ↦ (any_left (is_of r.owner) t rs h.0, differ_fewer t rs h.1)
  | false ↦ differ_fewer t rs h.1
]

items_last : (es : List (ℕ × Request)) (e : ℕ × Request) → items (es ++ e ∷ []) ≡ items es ++ e.1 ∷ []
items_last [] e = refl
items_last (d ∷ es) e = ap (λ (l : List Request). d.1 ∷ l) (items_last es e)

differ_pushed : (es fs : List (ℕ × Request)) (n : ℕ) (r : Request) (now : List Request) → fs ≡ es ++ (n, r) ∷ [] → items es ≡ now → is_known r.owner now ≡ false → OwnersDiffer (items es) → OwnersDiffer (items fs)
differ_pushed es fs n r now is same fresh h = subst (λ (l : List Request). OwnersDiffer l) (sym (ap (λ (l : List (ℕ × Request)). items l) is ∙ items_last es (n, r))) (differ_last (items es) r h (ap (λ (l : List Request). is_known r.owner l) same ∙ fresh))

pub differ_in : (es fs : List (ℕ × Request)) (n : ℕ) (r : Request) (now : List Request) → fs ≡ with_free_end es ++ (n, r) ∷ [] → items es ≡ now → is_known r.owner now ≡ false → OwnersDiffer (items es) → OwnersDiffer (items fs)
differ_in es fs n r now is same fresh h = differ_pushed (with_free_end es) fs n r now is (items_free_end es ∙ same) fresh (subst (λ (l : List Request). OwnersDiffer l) (sym (items_free_end es)) h)

pub differ_left : (t : Request → Bool) (es fs : List (ℕ × Request)) → items fs ≡ filter t (items es) → OwnersDiffer (items es) → OwnersDiffer (items fs)
differ_left t es fs is h = subst (λ (l : List Request). OwnersDiffer l) (sym is) (differ_fewer t (items es) h)
