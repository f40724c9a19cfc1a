-- What the sets of every plan are. A set has one brick or three, of which more than half are a quorum; its number is its
-- place; and no two sets, clients or bricks of a plan are the same.
use Rattle.std.specs.Prelude.{◌≡◌, ◌≤◌, ⊤, ℕ, ◌+◌, ◌==◌, true, List, [], ◌∷◌, length, flat_map, Ok}
use Rattle.std.specs.List.{AllByRecursion, IsDistinct}
use Rattle.volfile.specs.TextLines.{is_text, is_name}
use Rattle.volfile.specs.Volumes.{IsVolfile}
use Rattle.volfile.specs.declared.volumes.Volfile.{Volfile}
use Rattle.volfile.specs.declared.brick_lines.BrickLine.{BrickLine}
use Rattle.graph_build.specs.Plans.{planned}
use Rattle.graph_build.specs.declared.plans.Plan.{Plan}
use Rattle.fop_types.specs.declared.jobs.SetPlan.{SetPlan}
use Rattle.fop_types.specs.Jobs.{IsSetPlan}

-- the set at a place; no set has five replicas yet
pub record IsSet (place : ℕ) (s : SetPlan) : Type 0 where
  pub number : s.number ≡ place
  pub name : is_name s.name ≡ true
  pub plan : IsSetPlan s
  pub few : length s.bricks ≤ 3
  pub client_names : AllByRecursion (λ name. is_name name ≡ true) s.clients

-- sets whose first is at this place
abbrev pub AreSetsFrom : ℕ → List SetPlan → Type 0
AreSetsFrom place [] = ⊤
AreSetsFrom place (s ∷ ss) = IsSet place s × AreSetsFrom (place + 1) ss

pub record AreSets (sets : List SetPlan) : Type 0 where
  pub some : 1 ≤ length sets
  pub few : length sets ≤ 255
  pub each : AreSetsFrom 0 sets
  pub names : IsDistinct (λ s t. is_text s.name t.name) sets
  pub clients : IsDistinct is_text (flat_map (λ s. s.clients) sets)
  pub bricks : IsDistinct ◌==◌ (flat_map (λ s. s.bricks) sets)

abbrev pub PlansHaveSets : Type 0
PlansHaveSets = (v : Volfile) (bricks : List BrickLine) (plan : Plan) → IsVolfile v → planned v.volumes bricks ≡ Ok plan → AreSets plan.sets
