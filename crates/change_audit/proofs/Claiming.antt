-- A change that was taken is that entry's, and those that were taken before stay.
use Rattle.std.proofs.Common.{◌≡◌, ap, subst, ◌∙◌}
use Rattle.std.specs.Prelude.{ℕ, false, List, Option, None, Some, is_some}
use Rattle.std.specs.Ordering.{nat_cmp}
use Rattle.std.specs.BTreeMap.{insert_entry}
use Rattle.std.proofs.lemmas.Cmp.{nat_cmp_total}
use Rattle.std.proofs.lemmas.Map.Lookups.{exact_unsigned}
use Rattle.fop_types.proofs.MapLemmas.{lookup-put_same, lookup-put_other, apart}
use Rattle.change_audit.specs.Claims.{claim_of, KeepClaims}

pub claimed_now : (before after : List (ℕ × ℕ)) (change k : ℕ) → after ≡ insert_entry nat_cmp before change k → claim_of after change ≡ Some k
claimed_now before after change k is = ap (λ (l : List (ℕ × ℕ)). claim_of l change) is ∙ lookup-put_same nat_cmp exact_unsigned nat_cmp_total before change k

untaken : (o : Option ℕ) (k : ℕ) → is_some o ≡ false → o ≡ Some k → ⊥
untaken None k free is = absurd cc
untaken (Some j) k free is = absurd cc

pub claims_kept : (before after : List (ℕ × ℕ)) (change k : ℕ) → is_some (claim_of before change) ≡ false → after ≡ insert_entry nat_cmp before change k → KeepClaims before after
claims_kept before after change k free is other j there =
    ap (λ (l : List (ℕ × ℕ)). claim_of l other) is
    ∙ lookup-put_other nat_cmp exact_unsigned nat_cmp_total before change other k
    (apart nat_cmp exact_unsigned other change (λ same. untaken (claim_of before change) j free (subst (λ (n : ℕ). claim_of before n ≡ Some j) same there)))
    ∙ there
