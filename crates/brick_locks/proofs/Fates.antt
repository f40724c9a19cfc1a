-- The request that was put in last, and what becomes of it.
use Rattle.std.proofs.Common.{◌≡◌, ℕ, Bool, cond, List, [], ◌∷◌, ◌++◌, sym, ap, ◌∙◌}
use Rattle.std.specs.List.{list_any}
use Rattle.std.specs.Map.{keys_of}
use Rattle.std.specs.Ordering.{nat_cmp}
use Rattle.std.specs.List.Sorted.{IsStrictlySortedBy}
use Rattle.fop_types.specs.declared.cells.Cell.{Cell}
use Rattle.queue_index.specs.Queue.{items, before, with_free_end}
use Rattle.queue_index.proofs.Renumbered.{items_last, items_free_end}
use Rattle.brick_locks.specs.declared.owner.Owner.{Owner}
use Rattle.brick_locks.specs.declared.request.Request.{Request}
use Rattle.brick_locks.specs.declared.locks.Asked.{Asked}
use Rattle.brick_locks.specs.declared.locks.Asked.TheVariants.{Granted, Queued}
use Rattle.brick_locks.specs.Locks.{request}
use Rattle.brick_locks.specs.Fate.{fate_after}
use Rattle.brick_locks.specs.Walks.{meets}
use Rattle.brick_locks.proofs.Numbered.{kept_last}

fate_is : (es fs : List (ℕ × Request)) (n : ℕ) (own cs : List Cell) (o : Owner) (together b : Bool) → own ≡ cs → fs ≡ es ++ (n, request o own together) ∷ [] → IsStrictlySortedBy nat_cmp (keys_of fs) → b ≡ list_any (meets cs together) (items (before n fs)) → cond b Queued Granted ≡ fate_after (items es) (request o cs together)
fate_is es fs n own cs o together b same is s e = ap (λ (x : Bool). cond x Queued Granted) (kept_last es fs n (request o cs together) b (is ∙ ap (λ (l : List Cell). es ++ (n, request o l together) ∷ []) same) s e)

pub fate_in : (es fs : List (ℕ × Request)) (n : ℕ) (own cs : List Cell) (o : Owner) (together b : Bool) → own ≡ cs → fs ≡ with_free_end es ++ (n, request o own together) ∷ [] → IsStrictlySortedBy nat_cmp (keys_of fs) → b ≡ list_any (meets cs together) (items (before n fs)) → cond b Queued Granted ≡ fate_after (items es) (request o cs together)
fate_in es fs n own cs o together b same is s e = fate_is (with_free_end es) fs n own cs o together b same is s e ∙ ap (λ (l : List Request). fate_after l (request o cs together)) (items_free_end es)

pub asked_in : (es fs : List (ℕ × Request)) (n : ℕ) (own cs : List Cell) (o : Owner) (together : Bool) (now : List Request) → own ≡ cs → fs ≡ with_free_end es ++ (n, request o own together) ∷ [] → items es ≡ now → items fs ≡ now ++ request o cs together ∷ []
asked_in es fs n own cs o together now same is before =
    ap (λ (l : List (ℕ × Request)). items l) is
    ∙ items_last (with_free_end es) (n, request o own together)
    ∙ ap (λ (l : List Request). l ++ request o own together ∷ []) (items_free_end es ∙ before)
    ∙ ap (λ (l : List Cell). now ++ request o l together ∷ []) same
