-- A node fits below another one where both count over as many sets, and the upper one's weight and breadth are those of the
-- lower one at least.
use Rattle.std.proofs.Common.{◌≡◌, refl, sym, ap, subst, ◌∙◌, arith}
use Rattle.std.proofs.lemmas.List.{length-map}
use Rattle.std.proofs.lemmas.Nat.{mul-le}
use Rattle.std.specs.Prelude.{ℕ, zero, suc, ◌<◌, ◌≤◌, ◌+◌, ◌*◌, List, [], ◌∷◌, length, map, Option, Some, slice_get}
use Rattle.xlator_law.specs.Law.{Promise, breadth}
use Rattle.frame_driver.specs.Follows.{promise_at, FitsAt}
use Rattle.graph_items.specs.declared.items.Down.{Down}
use Rattle.graph_nodes.specs.declared.costs.Shape.{Shape}
use Rattle.graph_nodes.specs.declared.costs.Shape.TheVariants as shape
use Rattle.graph_nodes.specs.declared.kinds.Node.{Node}
use Rattle.graph_nodes.specs.declared.locals.Local.{Local}
use Rattle.graph_nodes.specs.Costs.{units_of, shape_of, sets_of, weight_of, breadth_of, cost_of}
use Rattle.graph_nodes.specs.Promises.{promise_of, node_promise}

-- the breadth of a promise is that of its shape
breadth_is : (s : Shape) (sets weight below : ℕ) → breadth (promise_of s sets weight below) ≡ breadth_of s below
breadth_is shape.Relay sets weight below = omega arith
breadth_is shape.Queue sets weight below = omega arith
breadth_is shape.Cache sets weight below = omega arith
breadth_is shape.Distribute sets weight below = omega arith
breadth_is (shape.Set replicas) sets weight below = refl
breadth_is shape.Client sets weight below = omega arith

-- what enters costs at the lower node what the upper one counts for it at most
cost_fits : (s : Shape) (sets weight most : ℕ) (d : Down) → weight_of s sets weight ≤ most → cost_of s sets weight d ≤ units_of sets d * most
cost_fits s sets weight most d h = mul-le (units_of sets d) (weight_of s sets weight) (units_of sets d) most (omega arith) h

pub promise_there : (nodes : List Node) (k : ℕ) (n : Node) → slice_get nodes k ≡ Some n → promise_at (map node_promise nodes) k ≡ node_promise n
promise_there [] k n is = absurd cc
promise_there (x ∷ xs) zero n is = let same : x ≡ n = cc in ap node_promise same
promise_there (x ∷ xs) (suc k) n is = promise_there xs k n is

pub there : (nodes : List Node) (k : ℕ) (n : Node) → slice_get nodes k ≡ Some n → k < length nodes
there [] k n is = absurd cc
there (x ∷ xs) zero n is = omega (arith)
there (x ∷ xs) (suc k) n is = let ih = there xs k n is in omega (arith, ih)

-- the node fits below the other one, as any child
pub fits_there : (sets : ℕ) (nodes : List Node) (at to : ℕ) (above under : Node) → slice_get nodes at ≡ Some above → slice_get nodes to ≡ Some under
    → sets_of above.kind above.sets ≡ sets → sets_of under.kind under.sets ≡ sets
    → weight_of (shape_of under.kind) sets under.weight ≤ above.weight → breadth_of (shape_of under.kind) under.breadth ≤ above.breadth
    → (child : ℕ) → FitsAt (map node_promise nodes) at child to
fits_there sets nodes at to above under a u over under_is heavy wide child = record {
  there = let t = there nodes to under u in let l = length-map nodes node_promise in omega (arith, t, l);
  cost = λ d. subst (λ (p : Promise Down Local). p.cost d ≤ (promise_at (map node_promise nodes) at).child_cost child d) (sym (promise_there nodes to under u)) (subst (λ (p : Promise Down Local). (node_promise under).cost d ≤ p.child_cost child d) (sym (promise_there nodes at above a)) (costs d));
  breadth = subst (λ (p : Promise Down Local). breadth p ≤ (promise_at (map node_promise nodes) at).below) (sym (promise_there nodes to under u)) (subst (λ (p : Promise Down Local). breadth (node_promise under) ≤ p.below) (sym (promise_there nodes at above a)) broad);
} where
  costs : (d : Down) → (node_promise under).cost d ≤ (node_promise above).child_cost child d
  costs d = subst (λ (k : ℕ). cost_of (shape_of under.kind) k under.weight d ≤ units_of (sets_of above.kind above.sets) d * above.weight) (sym under_is) (subst (λ (k : ℕ). cost_of (shape_of under.kind) sets under.weight d ≤ units_of k d * above.weight) (sym over) (cost_fits (shape_of under.kind) sets under.weight above.weight d heavy))

  broad : breadth (node_promise under) ≤ above.breadth
  broad = subst (λ (k : ℕ). k ≤ above.breadth) (sym (breadth_is (shape_of under.kind) (sets_of under.kind under.sets) under.weight under.breadth)) wide

-- the same, where the lower node counts over as many sets as the upper one
pub fits_below : (nodes : List Node) (at to : ℕ) (above under : Node) → slice_get nodes at ≡ Some above → slice_get nodes to ≡ Some under
    → sets_of under.kind under.sets ≡ sets_of above.kind above.sets
    → weight_of (shape_of under.kind) (sets_of above.kind above.sets) under.weight ≤ above.weight → breadth_of (shape_of under.kind) under.breadth ≤ above.breadth
    → (child : ℕ) → FitsAt (map node_promise nodes) at child to
fits_below nodes at to above under a u same heavy wide child = fits_there (sets_of above.kind above.sets) nodes at to above under a u refl same heavy wide child
