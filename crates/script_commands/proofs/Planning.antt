-- The plans of a script's volfiles: one for each, with sets and nodes as the laws of plans have them.
use Rattle.std.proofs.Common.{◌≡◌, ◌+◌, List, [], ◌∷◌, ◌++◌, length, refl, sym, subst, ◌∙◌, arith}
use Rattle.std.specs.Prelude.{ℕ, suc, Result, Ok, Err, IfOk}
use Rattle.std.specs.List.{AllByRecursion}
use Rattle.std.proofs.lemmas.List.{length_push}
use Rattle.volfile.specs.Volumes.{IsVolfile}
use Rattle.script_lang.specs.Accepted.{IsAccepted, IsVolfileLine}
use Rattle.volfile.specs.declared.brick_lines.BrickLine.{BrickLine}
use Rattle.script_lang.specs.declared.scripts.NamedVolfile.{NamedVolfile}
use Rattle.script_lang.specs.declared.scripts.Script.{Script}
use Rattle.graph_build.specs.NodeLaw.{PlansHaveNodes}
use Rattle.graph_build.specs.PlanLaw.{PlansHaveSets}
use Rattle.graph_build.specs.Plans.{planned}
use Rattle.graph_build.specs.declared.plans.Plan.{Plan}
use Rattle.graph_build.specs.declared.errors.PlanError.{PlanError}
use Rattle.graph_build.specs.declared.errors.PlanError.TheVariants as fault
use Rattle.mount_log.specs.Scripts.{IsPlanOver, IsScript}
use Rattle.script_commands.specs.Plans.{plan_then, plans_of}
use Rattle.script_commands.specs.declared.refusals.Refusal.{Refusal}

pub all_push : {X : Type 0} (P : X → Type 0) (xs : List X) (x : X) → AllByRecursion P xs → P x → AllByRecursion P (xs ++ x ∷ [])
all_push P [] x all own = (own, record {})
all_push P (y ∷ xs) x all own = (all.0, all_push P xs x all.1 own)

-- as many plans as there are to be, each over so many bricks
record ArePlans (bricks many : ℕ) (plans : List Plan) : Type 0 where
  pub count : length plans ≡ many
  pub each : AllByRecursion (IsPlanOver bricks) plans

module _ (sets : PlansHaveSets) (nodes : PlansHaveNodes) (bricks : List BrickLine) where
  own : (v : NamedVolfile) (plan : Plan) → IsVolfileLine v → planned v.volfile.volumes bricks ≡ Ok plan → IsPlanOver (length bricks) plan
  own v plan line is = record { nodes = nodes v.volfile bricks plan line.volfile is; sets = sets v.volfile bricks plan line.volfile is }

  planned_from : (many : ℕ) (done : List Plan) (vs : List NamedVolfile) (plans : List Plan) → ArePlans (length bricks) many done → AllByRecursion IsVolfileLine vs
      → plans_of done vs bricks ≡ Ok plans → ArePlans (length bricks) (many + length vs) plans
  planned_from many done [] plans are lines is = subst (λ (r : Result (List Plan) Refusal). IfOk r (λ found. ArePlans (length bricks) (many + 0) found)) is (record { count = let c = are.count in omega (arith, c); each = are.each })
  planned_from many done (v ∷ vs) plans are lines is = by (planned v.volfile.volumes bricks) (λ plan more. planned_from (many + 1) (done ++ plan ∷ []) vs plans more lines.1) refl is where
    by : (r : Result Plan PlanError)
        → ((plan : Plan) → ArePlans (length bricks) (many + 1) (done ++ plan ∷ []) → plans_of (done ++ plan ∷ []) vs bricks ≡ Ok plans → ArePlans (length bricks) ((many + 1) + length vs) plans)
        → planned v.volfile.volumes bricks ≡ r → plan_then r v.volfile (λ plan. plans_of (done ++ plan ∷ []) vs bricks) ≡ Ok plans → ArePlans (length bricks) (many + length (v ∷ vs)) plans
    by (Ok plan) rest was goes =
        let more : ArePlans (length bricks) ((many + 1) + length vs) plans = rest plan (record {
          count = let c = are.count in let l = length_push done plan in omega (arith, c, l);
          each = all_push (IsPlanOver (length bricks)) done plan are.each (own v plan lines.0 was);
        }) goes in
        record { count = let c = more.count in let s : length (v ∷ vs) ≡ suc (length vs) = refl in omega (arith, c, s); each = more.each }
    by (Err (fault.At volume kind)) rest was goes = absurd cc
    by (Err fault.Mem) rest was goes = absurd cc

pub script_planned : PlansHaveSets → PlansHaveNodes → (script : Script) (plans : List Plan) → IsAccepted script → plans_of [] script.volfiles script.bricks ≡ Ok plans → IsScript script plans
script_planned sets nodes script plans limits is = let are : ArePlans (length script.bricks) (0 + length script.volfiles) plans = planned_from sets nodes script.bricks 0 [] script.volfiles plans (record { count = refl; each = record {} }) limits.volfiles.forms is in record {
  accepted = limits;
  many = let c = are.count in omega (arith, c);
  each = are.each;
}
