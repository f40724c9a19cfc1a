-- The first plan of some volfiles that has a set.
use Rattle.std.proofs.Common.{◌≡◌, refl, sym, ap, ◌∙◌}
use Rattle.std.specs.Prelude.{ℕ, List, [], ◌∷◌, Option, None, Some, slice_get}
use Rattle.fop_types.specs.declared.jobs.SetPlan.{SetPlan}
use Rattle.graph_build.specs.declared.plans.Plan.{Plan}
use Rattle.run_report.specs.Reports.{set_among, set_by, or_later}

module _ (plans : List Plan) (v : ℕ) (vs : List ℕ) (n : ℕ) where
  pub stops : slice_get plans v ≡ None → set_among plans (v ∷ vs) n ≡ None
  stops none = ap (λ (o : Option Plan). set_by o n (set_among plans vs n)) none

  pub finds : (plan : Plan) (s : SetPlan) → slice_get plans v ≡ Some plan → slice_get plan.sets n ≡ Some s → set_among plans (v ∷ vs) n ≡ Some s
  finds plan s there found = ap (λ (o : Option Plan). set_by o n (set_among plans vs n)) there ∙ ap (λ (o : Option SetPlan). or_later o (set_among plans vs n)) found

  pub goes_on : (plan : Plan) → slice_get plans v ≡ Some plan → slice_get plan.sets n ≡ None → set_among plans (v ∷ vs) n ≡ set_among plans vs n
  goes_on plan there none = ap (λ (o : Option Plan). set_by o n (set_among plans vs n)) there ∙ ap (λ (o : Option SetPlan). or_later o (set_among plans vs n)) none
