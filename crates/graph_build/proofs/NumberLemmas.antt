-- The numbers of sets, place by place.
use Rattle.std.proofs.Common.{◌≡◌, ℕ, zero, suc, ◌+◌, ◌<◌, ◌==◌, Bool, true, false, cond, List, [], ◌∷◌, length, drop, get_or, slice_set, replicate, Option, Some, None, refl, sym, ap, ◌∙◌, arith}
use Rattle.std.proofs.lemmas.List.{drop_more}
use Rattle.graph_build.specs.Plans.{or_number, number_from}
use Rattle.graph_build.proofs.MarkLemmas.{no_zero, zero_no, both_suc}

-- what came later, or else what was there
abbrev pub or_before : Option ℕ → Option ℕ → Option ℕ
or_before None before = before
or_before (Some later) before = Some later

pub number_set : (ns : List (Option ℕ)) (p q n : ℕ) → p < length ns → get_or (slice_set ns p (Some n)) q None ≡ cond (q == p) (Some n) (get_or ns q None)
number_set [] p q n within = absurd (omega (arith, within))
number_set (b ∷ bs) zero zero n within = refl
number_set (b ∷ bs) zero (suc q) n within = ap (λ t. cond t (Some n) (get_or bs q None)) (sym (no_zero q))
number_set (b ∷ bs) (suc p) zero n within = ap (λ t. cond t (Some n) b) (sym (zero_no p))
number_set (b ∷ bs) (suc p) (suc q) n within = number_set bs p q n (omega (arith, within)) ∙ ap (λ t. cond t (Some n) (get_or bs q None)) (both_suc p q)

or_swap : (later before : Option ℕ) (b : Bool) (n : ℕ) → or_before later (cond b (Some n) before) ≡ or_before (or_number later b n) before
or_swap (Some k) before b n = refl
or_swap None before true n = refl
or_swap None before false n = refl

pub number_step : (ns : List (Option ℕ)) (sets : List ℕ) (n q : ℕ) (r : Option ℕ) → n < length sets → get_or sets n 0 < length ns
    → or_before (number_from n (drop n sets) q) (get_or ns q None) ≡ r
    → or_before (number_from (n + 1) (drop (n + 1) sets) q) (get_or (slice_set ns (get_or sets n 0) (Some n)) q None) ≡ r
number_step ns sets n q r within fits whole =
    ap (or_before (number_from (n + 1) (drop (n + 1) sets) q)) (number_set ns (get_or sets n 0) q n fits)
    ∙ or_swap (number_from (n + 1) (drop (n + 1) sets) q) (get_or ns q None) (q == get_or sets n 0) n
    ∙ ap (λ l. or_before (number_from n l q) (get_or ns q None)) (sym (drop_more sets n 0 within)) ∙ whole

pub none_before : (o : Option ℕ) → or_before o None ≡ o
none_before None = refl
none_before (Some n) = refl

pub none_in : (k q : ℕ) → get_or {A = Option ℕ} (replicate k None) q None ≡ None
none_in zero q = refl
none_in (suc k) zero = refl
none_in (suc k) (suc q) = none_in k q
