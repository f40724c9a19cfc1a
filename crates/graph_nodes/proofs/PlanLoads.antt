-- The loads of a plan's nodes, in a list with room for 1,024.
use Rattle.std.proofs.Common.{◌≡◌, refl, sym, ap, subst, ◌∙◌, arith}
use Rattle.std.specs.Prelude.{ℕ, zero, suc, ◌+◌, ◌-◌, ◌<◌, ◌≤◌, max, List, [], ◌∷◌, ◌++◌, length, get_or, take, drop, replicate, slice_get, slice_set, Option, None, Some}
use Rattle.std.proofs.lemmas.List.{append_assoc, at_drop_more, length-set, length_push, length-take-le, take_all, take_more, set_at, set_past, get_or_at}
use Rattle.fop_types.specs.declared.jobs.SetPlan.{SetPlan}
use Rattle.graph_build.specs.declared.plans.NodePlan.{NodePlan}
use Rattle.graph_build.specs.declared.plans.Plan.{Plan}
use Rattle.graph_nodes.specs.PlanCosts.{no_load, with_load, greatest, planned_shape, load_of, planned_load, loads_behind, top_weight}
use Rattle.graph_nodes.specs.declared.loads.Load.{Load}

-- a place without room is not kept
pub set_beyond : {X : Type 0} (xs : List X) (i : ℕ) (y : X) → length xs ≤ i → xs ≡ slice_set xs i y
set_beyond xs i y le = sym (set_past xs i y le)

-- ---- places without a load

-- a place behind all loads, and one that has no load
abbrev load_with : ℕ → ℕ → Load
load_with weight breadth = record { weight = weight; breadth = breadth }

with_none : (most : Load) → with_load most (Some no_load) ≡ most
with_none most =
    let w : max most.weight 0 ≡ most.weight = omega arith in let b : max most.breadth 0 ≡ most.breadth = omega arith in
    let first : with_load most (Some no_load) ≡ load_with most.weight (max most.breadth 0) = ap (λ (n : ℕ). load_with n (max most.breadth 0)) w in
    first ∙ ap (load_with most.weight) b

in_room : (m p : ℕ) (most : Load) → with_load most (slice_get (replicate m no_load) p) ≡ most
in_room zero p most = refl
in_room (suc m) zero most = with_none most
in_room (suc m) (suc p) most = in_room m p most

at_place : (loads : List Load) (m p : ℕ) (most : Load) → with_load most (slice_get (loads ++ replicate m no_load) p) ≡ with_load most (slice_get loads p)
at_place [] m p most = in_room m p most
at_place (l ∷ ls) m zero most = refl
at_place (l ∷ ls) m (suc p) most = at_place ls m p most

greatest_same : (places : List ℕ) (most : Load) (loads : List Load) (m : ℕ) → greatest places most (loads ++ replicate m no_load) ≡ greatest places most loads
greatest_same [] most loads m = refl
greatest_same (p ∷ ps) most loads m =
    ap (λ (l : Load). greatest ps l (loads ++ replicate m no_load)) (at_place loads m p most) ∙ greatest_same ps (with_load most (slice_get loads p)) loads m

planned_same : (sets : List SetPlan) (loads : List Load) (m : ℕ) (n : NodePlan) → planned_load sets (loads ++ replicate m no_load) n ≡ planned_load sets loads n
planned_same sets loads m n = ap (λ (l : Load). load_of (planned_shape sets n.kind) (length sets) l) (greatest_same n.children no_load loads m)

-- ---- one node more

behind_push : (ns : List NodePlan) (n : NodePlan) (sets : List SetPlan) (loads : List Load)
    → loads_behind (ns ++ n ∷ []) sets loads ≡ loads_behind ns sets loads ++ planned_load sets (loads_behind ns sets loads) n ∷ []
behind_push [] n sets loads = refl
behind_push (x ∷ xs) n sets loads = behind_push xs n sets (loads ++ planned_load sets loads x ∷ [])

long_behind : (ns : List NodePlan) (sets : List SetPlan) (loads : List Load) → length (loads_behind ns sets loads) ≡ length loads + length ns
long_behind [] sets loads = let z : length loads ≡ length loads + 0 = omega arith in z
long_behind (x ∷ xs) sets loads =
    let h = long_behind xs sets (loads ++ planned_load sets loads x ∷ []) in let p = length_push loads (planned_load sets loads x) in
    let z : length (loads_behind xs sets (loads ++ planned_load sets loads x ∷ [])) ≡ length loads + suc (length xs) = omega (arith, h, p) in z

-- the loads of so many first nodes
abbrev pub first_loads : List NodePlan → List SetPlan → ℕ → List Load
first_loads nodes sets at = loads_behind (take at nodes) sets []

-- what is kept, and the last load, where so many nodes were gone through
pub record AreFirst (nodes : List NodePlan) (sets : List SetPlan) (at : ℕ) (loads : List Load) (top : Load) : Type 0 where
  pub kept : loads ≡ first_loads nodes sets at ++ replicate (1024 - at) no_load
  pub last : top ≡ get_or (first_loads nodes sets at) (at - 1) no_load

pub none_first : (nodes : List NodePlan) (sets : List SetPlan) → AreFirst nodes sets 0 (replicate 1024 no_load) no_load
none_first nodes sets = record { kept = refl; last = refl }

module _ (nodes : List NodePlan) (sets : List SetPlan) (at : ℕ) (n : NodePlan) (loads : List Load) (top : Load) (there : at < length nodes) (few : length nodes ≤ 1024)
    (read : n ≡ get_or nodes at n) (are : AreFirst nodes sets at loads top) where
  abbrev so_far : List Load
  so_far = first_loads nodes sets at

  abbrev load : Load
  load = planned_load sets so_far n

  abbrev left : List Load
  left = replicate (1024 - (at + 1)) no_load

  long : length so_far ≡ at
  long =
      let all : length so_far ≡ 0 + length (take at nodes) = long_behind (take at nodes) sets [] in
      let first = length-take-le at nodes (omega (arith, there)) in omega (arith, all, first)

  made : planned_load sets loads n ≡ load
  made = ap (λ (ls : List Load). planned_load sets ls n) are.kept ∙ planned_same sets so_far (1024 - at) n

  grown : first_loads nodes sets (at + 1) ≡ so_far ++ load ∷ []
  grown =
      let more : take (at + 1) nodes ≡ take at nodes ++ n ∷ [] = take_more nodes at n there ∙ ap (λ (x : NodePlan). take at nodes ++ x ∷ []) (sym read) in
      let pushed : first_loads nodes sets (at + 1) ≡ loads_behind (take at nodes ++ n ∷ []) sets [] = ap (λ (ns : List NodePlan). loads_behind ns sets []) more in
      pushed ∙ behind_push (take at nodes) n sets []

  one_more : AreFirst nodes sets (at + 1) (slice_set loads at (planned_load sets loads n)) (planned_load sets loads n)
  one_more =
      let fits : 1024 - at ≡ suc (1024 - (at + 1)) = omega (arith, there, few) in
      let room : so_far ++ replicate (1024 - at) no_load ≡ so_far ++ no_load ∷ left = ap (λ (m : ℕ). so_far ++ replicate m no_load) fits in
      let set : slice_set loads at load ≡ slice_set (so_far ++ no_load ∷ left) at load = ap (λ (ls : List Load). slice_set ls at load) (are.kept ∙ room) in
      let put : slice_set (so_far ++ no_load ∷ left) at load ≡ so_far ++ load ∷ left = set_at so_far no_load left load at long in
      let apart : so_far ++ load ∷ left ≡ (so_far ++ load ∷ []) ++ left = sym (append_assoc so_far (load ∷ []) left) in
      let back : at ≡ at + 1 - 1 = omega arith in
      let last_of : load ≡ get_or (so_far ++ load ∷ []) at no_load = sym (get_or_at so_far load [] no_load at long) in
      let by_place : get_or (first_loads nodes sets (at + 1)) at no_load ≡ get_or (first_loads nodes sets (at + 1)) (at + 1 - 1) no_load
      = ap (λ (k : ℕ). get_or (first_loads nodes sets (at + 1)) k no_load) back in
      record {
        kept = ap (λ (l : Load). slice_set loads at l) made ∙ set ∙ put ∙ apart ∙ ap (λ (ls : List Load). ls ++ left) (sym grown);
        last = made ∙ last_of ∙ ap (λ (ls : List Load). get_or ls at no_load) (sym grown) ∙ by_place;
      }

  pub next_first : (loads_after : List Load) (top_after : Load) → top_after ≡ planned_load sets loads n → loads_after ≡ slice_set loads at top_after → AreFirst nodes sets (at + 1) loads_after top_after
  next_first loads_after top_after is kept =
      subst (λ (ls : List Load). AreFirst nodes sets (at + 1) ls top_after) (sym kept)
      (subst (λ (l : Load). AreFirst nodes sets (at + 1) (slice_set loads at l) l) (sym is) one_more)

-- a node that was read from the plan, with what is kept of the list
pub next_read : (plan : Plan) (nodes : List NodePlan) (sets : List SetPlan) (at : ℕ) (n : NodePlan) (loads loads_after : List Load) (top top_after : Load) → nodes ≡ plan.nodes → sets ≡ plan.sets → at < length nodes → n ≡ get_or nodes at n
    → top_after ≡ planned_load sets loads n → loads_after ≡ slice_set loads at top_after → (length loads ≡ 1024) × (length plan.nodes ≤ 1024 → AreFirst plan.nodes plan.sets at loads top)
    → (length loads_after ≡ 1024) × (length plan.nodes ≤ 1024 → AreFirst plan.nodes plan.sets (at + 1) loads_after top_after)
next_read plan nodes sets at n loads loads_after top top_after nodes_are sets_are there read is kept inv =
    let made : top_after ≡ planned_load plan.sets loads n = is ∙ ap (λ (ss : List SetPlan). planned_load ss loads n) sets_are in
    let low : at < length plan.nodes = subst (λ (ns : List NodePlan). at < length ns) nodes_are there in
    let found : n ≡ get_or plan.nodes at n = subst (λ (ns : List NodePlan). n ≡ get_or ns at n) nodes_are read in
    (ap length kept ∙ length-set loads at top_after ∙ inv.0, λ few. next_first plan.nodes plan.sets at n loads top low few found (inv.1 few) loads_after top_after made kept)

-- ---- the loads of a node's children

-- one child more
pub below_next : (children : List ℕ) (loads : List Load) (i d : ℕ) (most next all : Load) (read : Option Load) → i < length children → read ≡ slice_get loads (get_or children i d) → next ≡ with_load most read
    → greatest (drop i children) most loads ≡ all → greatest (drop (i + 1) children) next loads ≡ all
below_next children loads i d most next all read there is made so =
    ap (λ (l : Load). greatest (drop (i + 1) children) l loads) (made ∙ ap (with_load most) is) ∙ sym (at_drop_more (λ (cs : List ℕ). greatest cs most loads) children i d there) ∙ so

-- where all nodes were gone through
pub all_first : (plan : Plan) (at : ℕ) (loads : List Load) (top : Load) → at ≡ length plan.nodes → AreFirst plan.nodes plan.sets at loads top → top.weight ≡ top_weight plan
all_first plan at loads top all are =
    let whole : take at plan.nodes ≡ plan.nodes = take_all at plan.nodes (omega (arith, all)) in
    let first : top ≡ get_or (loads_behind plan.nodes plan.sets []) (at - 1) no_load = are.last ∙ ap (λ (ns : List NodePlan). get_or (loads_behind ns plan.sets []) (at - 1) no_load) whole in
    let last_of : get_or (loads_behind plan.nodes plan.sets []) (at - 1) no_load ≡ get_or (loads_behind plan.nodes plan.sets []) (length plan.nodes - 1) no_load
    = ap (λ (k : ℕ). get_or (loads_behind plan.nodes plan.sets []) (k - 1) no_load) all in
    ap (λ (l : Load). l.weight) (first ∙ last_of)
