-- The orders of requests and of ranks are total, and tell all of them apart; so the ranks of one request are together.
use Rattle.std.proofs.Common.{◌≡◌, ℕ, ◌≤◌, Bool, true, false, ◌&&◌, ◌==◌, refl, sym, ap, ◌∙◌, arith, subst}
use Rattle.std.specs.declared.cmp.Ordering.{Ordering}
use Rattle.std.specs.declared.cmp.Ordering.TheVariants.{Less, Equal, Greater}
use Rattle.std.specs.Ordering.{nat_cmp, ordering_then, is_eq, is_gt, ordering_reverse}
use Rattle.std.specs.Cmp.{IsTotalOrder, then_total, on_total, nat_cmp_total}
use Rattle.std.proofs.lemmas.Map.Lookups.{CmpEqualImpliesEq, exact_pairs, exact_unsigned}
use Rattle.std.proofs.lemmas.Cmp.{tied_itself}
use Rattle.hub_tables.specs.PhaseControls.{nth_cmp, rank_cmp, is_request, rank}
use Rattle.hub_tables.specs.declared.controls.Rank.{Rank}
use Rattle.hub_tables.specs.declared.requests.Nth.{Nth}

nth_total : IsTotalOrder nth_cmp
nth_total = then_total (on_total (λ (n : Nth). n.brick) nat_cmp_total) (then_total (on_total (λ (n : Nth). n.proc) nat_cmp_total) (on_total (λ (n : Nth). n.count) nat_cmp_total))

pub rank_total : IsTotalOrder rank_cmp
rank_total = then_total (on_total (λ (r : Rank). r.request) nth_total) (on_total (λ (r : Rank). r.order) nat_cmp_total)

nth_exact : CmpEqualImpliesEq nth_cmp
nth_exact a b h =
    let made : ℕ × (ℕ × ℕ) → Nth = λ p. record { brick = p.0; proc = p.1.0; count = p.1.1 } in
    let two : CmpEqualImpliesEq (λ (x y : ℕ × ℕ). ordering_then (nat_cmp x.0 y.0) (nat_cmp x.1 y.1)) = exact_pairs nat_cmp nat_cmp exact_unsigned exact_unsigned in
    ap made (exact_pairs nat_cmp (λ (x y : ℕ × ℕ). ordering_then (nat_cmp x.0 y.0) (nat_cmp x.1 y.1)) exact_unsigned two (a.brick, (a.proc, a.count)) (b.brick, (b.proc, b.count)) h)

eq_then : (a b : Ordering) → is_eq (ordering_then a b) ≡ (is_eq a && is_eq b)
eq_then Less b = refl
eq_then Equal b = refl
eq_then Greater b = refl

eq_nat : (a b : ℕ) → is_eq (nat_cmp a b) ≡ (a == b)
eq_nat a b = grind (arith)

same_nth : (a b : Nth) → is_eq (nth_cmp a b) ≡ is_request a b
same_nth a b =
    eq_then (nat_cmp a.brick b.brick) _
    ∙ ap (λ (t : Bool). t && is_eq (ordering_then (nat_cmp a.proc b.proc) (nat_cmp a.count b.count))) (eq_nat a.brick b.brick)
    ∙ ap (λ (t : Bool). (a.brick == b.brick) && t) (eq_then (nat_cmp a.proc b.proc) (nat_cmp a.count b.count) ∙ ap (λ (t : Bool). t && is_eq (nat_cmp a.count b.count)) (eq_nat a.proc b.proc))
    ∙ ap (λ (t : Bool). (a.brick == b.brick) && ((a.proc == b.proc) && t)) (eq_nat a.count b.count)

eq_is : (r : Ordering) → is_eq r ≡ true → r ≡ Equal
eq_is Less h = absurd cc
eq_is Equal h = refl
eq_is Greater h = absurd cc

pub request_is : (a b : Nth) → is_request a b ≡ true → a ≡ b
request_is a b h = nth_exact a b (eq_is (nth_cmp a b) (same_nth a b ∙ h))

pub request_itself : (a : Nth) → is_request a a ≡ true
request_itself a = sym (same_nth a a) ∙ ap is_eq (tied_itself nth_total a)

-- a rank between two of one request is of that request
between : (r s a b : Ordering) → s ≡ ordering_reverse r → is_gt (ordering_then r a) ≡ false → is_gt (ordering_then s b) ≡ false → r ≡ Equal
between Less s a b h low high = absurd (let t : is_gt (ordering_then Greater b) ≡ false = subst (λ (x : Ordering). is_gt (ordering_then x b) ≡ false) h high in cc)
between Equal s a b h low high = refl
between Greater s a b h low high = absurd cc

pub of_request : (request : Nth) (m n : ℕ) (r : Rank) → is_gt (rank_cmp (rank request m) r) ≡ false → is_gt (rank_cmp r (rank request n)) ≡ false → is_request r.request request ≡ true
of_request request m n r low high =
    let same : request ≡ r.request = nth_exact request r.request (between (nth_cmp request r.request) (nth_cmp r.request request) (nat_cmp m r.order) (nat_cmp r.order n) (nth_total.antisymm r.request request) low high) in
    subst (λ (q : Nth). is_request q request ≡ true) same (request_itself request)

not_gt : (n : ℕ) → is_gt (nat_cmp 0 n) ≡ false
not_gt n = grind (arith)

-- each rank of a request is at or behind the first one that there may be
pub at_or_after : (request : Nth) (r : Rank) → is_request r.request request ≡ true → is_gt (rank_cmp (rank request 0) r) ≡ false
at_or_after request r h =
    let same : r.request ≡ request = request_is r.request request h in
    let tied : nth_cmp request r.request ≡ Equal = ap (nth_cmp request) same ∙ tied_itself nth_total request in
    ap (λ (t : Ordering). is_gt (ordering_then t (nat_cmp 0 r.order))) tied ∙ not_gt r.order

rank_exact : CmpEqualImpliesEq rank_cmp
rank_exact a b h =
    let made : Nth × ℕ → Rank = λ p. record { request = p.0; order = p.1 } in
    ap made (exact_pairs nth_cmp nat_cmp nth_exact exact_unsigned (a.request, a.order) (b.request, b.order) h)

pub rank_is : (a b : Rank) → is_eq (rank_cmp a b) ≡ true → a ≡ b
rank_is a b h = rank_exact a b (eq_is (rank_cmp a b) h)

pub rank_itself : (r : Rank) → is_eq (rank_cmp r r) ≡ true
rank_itself r = ap is_eq (tied_itself rank_total r)
