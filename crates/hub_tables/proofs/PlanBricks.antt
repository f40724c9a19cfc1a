-- The bricks of a plan's nodes, one node after another.
use Rattle.std.proofs.Common.{◌≡◌, ℕ, ◌<◌, ◌==◌, Bool, true, false, ◌||◌, List, [], ◌∷◌, refl, sym, ap, ◌∙◌}
use Rattle.graph_build.specs.declared.plans.NodePlan.{NodePlan}
use Rattle.hub_tables.specs.declared.small_set.SmallSet.{SmallSet}
use Rattle.hub_tables.specs.SmallSets.{no_numbers, has}
use Rattle.hub_tables.specs.PlanBricks.{is_client_of, has_client}
use Rattle.hub_tables.proofs.SetsWhere.{none_has}

-- the set has the bricks of these nodes but for those that only the rest of the nodes have
abbrev pub AreBricksOf : List NodePlan → SmallSet → List NodePlan → Type 0
AreBricksOf nodes set rest = (brick : ℕ) → brick < 64 → (has set brick || has_client brick rest) ≡ has_client brick nodes

pub no_bricks : (nodes : List NodePlan) → AreBricksOf nodes no_numbers nodes
no_bricks nodes = λ brick low. ap (λ (b : Bool). b || has_client brick nodes) (none_has brick)

swapped : (a b c : Bool) → ((a || b) || c) ≡ (b || (a || c))
swapped true true c = refl
swapped true false c = refl
swapped false true c = refl
swapped false false c = refl

pub bricks_next : (nodes rest : List NodePlan) (node : NodePlan) (old new : SmallSet) → AreBricksOf nodes old (node ∷ rest)
    → ((brick : ℕ) → brick < 64 → has new brick ≡ (is_client_of brick node.kind || has old brick)) → AreBricksOf nodes new rest
bricks_next nodes rest node old new so_far next = λ brick low.
    ap (λ (b : Bool). b || has_client brick rest) (next brick low) ∙ swapped (is_client_of brick node.kind) (has old brick) (has_client brick rest) ∙ so_far brick low

or_none : (b : Bool) → (b || false) ≡ b
or_none true = refl
or_none false = refl

pub bricks_all : (nodes : List NodePlan) (set : SmallSet) → AreBricksOf nodes set [] → (brick : ℕ) → brick < 64 → has set brick ≡ has_client brick nodes
bricks_all nodes set all = λ brick low. sym (or_none (has set brick)) ∙ all brick low
