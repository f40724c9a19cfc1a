-- The first rank of a request, by a range of the ranks.
use Rattle.std.proofs.Common.{◌≡◌, ℕ, Bool, true, false, not, ◌&&◌, cond, List, [], ◌∷◌, Option, Some, None, IfSome, refl, sym, ap, ◌∙◌, subst, slice_get, if◌then◌else◌}
use Rattle.std.specs.Option.{IsSome}
use Rattle.std.specs.declared.cmp.Ordering.{Ordering}
use Rattle.std.specs.declared.cmp.Ordering.TheVariants.{Less, Equal, Greater}
use Rattle.std.specs.Ordering.{is_gt, is_le}
use Rattle.std.specs.declared.ops.Bound.TheVariants.{Included, Unbounded}
use Rattle.std.specs.BTreeMap.{BTreeMap, get, is_at}
use Rattle.std.specs.BTreeMap.Range.{IsLeBy, IsEntryInRange, IsRangeOf, range_contains, entries_between}
use Rattle.std.specs.Map.{lookup}
use Rattle.hub_tables.specs.PhaseControls.{rank_cmp, is_request, rank, first_of_request}
use Rattle.hub_tables.specs.declared.controls.Rank.{Rank}
use Rattle.hub_tables.specs.declared.requests.Nth.{Nth}
use Rattle.hub_tables.proofs.Orders.{of_request, at_or_after, request_is, rank_itself}

le_not_gt : (o : Ordering) → is_gt o ≡ false → is_le o && not false ≡ true
le_not_gt Less h = refl
le_not_gt Equal h = refl
le_not_gt Greater h = absurd cc

-- an entry of a request is in the range that begins with its first rank
in_later : (request : Nth) (r : Rank) → is_request r.request request ≡ true → range_contains rank_cmp (Included (rank request 0)) Unbounded r ≡ true
in_later request r h = le_not_gt (rank_cmp (rank request 0) r) (at_or_after request r h)

module _ {T : Type 0} (request : Nth) where
  abbrev later : List (Rank × T) → List (Rank × T)
  later es = entries_between rank_cmp (Included (rank request 0)) Unbounded es

  pub first_is : (es t : List (Rank × T)) (e : Rank × T) → later es ≡ e ∷ t → is_request e.0.request request ≡ true → first_of_request es request ≡ Some e.0
  first_is [] t e is same = absurd cc
  first_is (x ∷ xs) t e is same = by (is_request x.0.request request) refl (range_contains rank_cmp (Included (rank request 0)) Unbounded x.0) refl is (λ later. first_is xs t e later same) where
    by : (b : Bool) → is_request x.0.request request ≡ b → (i : Bool) → range_contains rank_cmp (Included (rank request 0)) Unbounded x.0 ≡ i
        → cond i (x ∷ later xs) (later xs) ≡ e ∷ t → (later xs ≡ e ∷ t → first_of_request xs request ≡ Some e.0)
        → (if b then Some x.0 else first_of_request xs request) ≡ Some e.0
    by b of_it true inside is rest =
        let this : x ≡ e = cc in
        let b_is : b ≡ true = sym of_it ∙ ap (λ (p : Rank × T). is_request p.0.request request) this ∙ same in
        ap (λ (c : Bool). if c then Some x.0 else first_of_request xs request) b_is ∙ ap (λ (p : Rank × T). Some p.0) this
    by true of_it false inside is rest = absurd (let t : true ≡ false = sym (in_later request x.0 of_it) ∙ inside in cc)
    by false of_it false inside is rest = rest is

  pub none_from : (es : List (Rank × T)) → later es ≡ [] → first_of_request es request ≡ None
  none_from [] none = refl
  none_from (x ∷ xs) none = by (is_request x.0.request request) refl (range_contains rank_cmp (Included (rank request 0)) Unbounded x.0) refl none (λ later. none_from xs later) where
    by : (b : Bool) → is_request x.0.request request ≡ b → (i : Bool) → range_contains rank_cmp (Included (rank request 0)) Unbounded x.0 ≡ i
        → cond i (x ∷ later xs) (later xs) ≡ [] → (later xs ≡ [] → first_of_request xs request ≡ None)
        → (if b then Some x.0 else first_of_request xs request) ≡ None
    by b of_it true inside none rest = absurd cc
    by true of_it false inside none rest = absurd (let t : true ≡ false = sym (in_later request x.0 of_it) ∙ inside in cc)
    by false of_it false inside none rest = rest none

  -- what is found is an entry of the request
  pub found_there : (es : List (Rank × T)) (r : Rank) → first_of_request es request ≡ Some r → (is_request r.request request ≡ true) × IsSome (lookup (is_at (rank_cmp r)) es)
  found_there [] r is = absurd cc
  found_there (x ∷ xs) r is = by (is_request x.0.request request) refl is (λ later. found_there xs r later) where
    behind : (b : Bool) → IsSome (lookup (is_at (rank_cmp r)) xs) → IsSome (cond b (Some x.1) (lookup (is_at (rank_cmp r)) xs))
    behind true some = refl
    behind false some = some

    by : (b : Bool) → is_request x.0.request request ≡ b → (if b then Some x.0 else first_of_request xs request) ≡ Some r
        → (first_of_request xs request ≡ Some r → (is_request r.request request ≡ true) × IsSome (lookup (is_at (rank_cmp r)) xs))
        → (is_request r.request request ≡ true) × IsSome (cond (is_at (rank_cmp r) x.0) (Some x.1) (lookup (is_at (rank_cmp r)) xs))
    by true of_it is rest =
        let this : x.0 ≡ r = cc in
        let own : is_at (rank_cmp r) x.0 ≡ true = ap (is_at (rank_cmp r)) this ∙ rank_itself r in
        (subst (λ (q : Rank). is_request q.request request ≡ true) this of_it, subst (λ (c : Bool). IsSome (cond c (Some x.1) (lookup (is_at (rank_cmp r)) xs))) (sym own) refl)
    by false of_it is rest = let h = rest is in (h.0, behind (is_at (rank_cmp r) x.0) h.1)

  pub first_is_other : (m : BTreeMap Rank T) (t r : List (Rank × T)) (e : Rank × T) → r ≡ e ∷ t → IsRangeOf rank_cmp (Included (rank request 0)) Unbounded m r → is_request e.0.request request ≡ false → first_of_request m.entries request ≡ None
  first_is_other m t r e is part other = by (first_of_request m.entries request) refl where
    by : (o : Option Rank) → first_of_request m.entries request ≡ o → o ≡ None
    by None found = refl
    by (Some q) found =
        let h = found_there m.entries q found in
        let low = subst (λ (l : List (Rank × T)). IfSome (slice_get l 0) (IsEntryInRange rank_cmp (Included (rank request 0)) Unbounded m)) is part.1 in
        let head = subst (λ (l : List (Rank × T)). IfSome (slice_get l 0) (λ x. IsLeBy rank_cmp x.0 q)) is (part.2 q (at_or_after request q h.0, tt) h.1) in
        let high : is_gt (rank_cmp e.0 (rank request q.order)) ≡ false = subst (λ (n : Nth). is_gt (rank_cmp e.0 (rank n q.order)) ≡ false) (request_is q.request request h.0) head in
        absurd (let t : true ≡ false = sym (of_request request 0 q.order e.0 low.0.0 high) ∙ other in cc)
