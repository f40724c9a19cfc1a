-- Each entry that was found to fit gives that all nodes fit.
use Rattle.std.proofs.Common.{◌≡◌, refl, sym, ap, subst, ◌∙◌, arith, inl, inr}
use Rattle.std.proofs.lemmas.List.{length-map}
use Rattle.std.proofs.lemmas.Nat.{div-mul-add}
use Rattle.std.proofs.lemmas.Bool.{cases_eq, ltb-true}
use Rattle.std.specs.Prelude.{ℕ, ◌≢◌, ◌⊎◌, zero, suc, ◌<◌, ◌≤◌, ◌+◌, ◌*◌, ◌/◌, nat_lt, cond, Bool, true, false, List, [], ◌∷◌, length, map, Option, Some, None, IfSome, slice_get, slice_index_or}
use Rattle.xlator_law.specs.Law.{breadth}
use Rattle.frame_driver.specs.declared.wiring.Child.{Child}
use Rattle.frame_driver.specs.declared.wiring.Child.TheVariants as child
use Rattle.frame_driver.specs.declared.wiring.Wiring.{Wiring}
use Rattle.frame_driver.specs.Wiring.{below, IsWired}
use Rattle.frame_driver.specs.Follows.{promise_at, FitsAt}
use Rattle.frame_trees.specs.Fitting.{FitsChild, HasChildren}
use Rattle.frame_trees.specs.declared.kinds.Node.{Node}
use Rattle.frame_trees.specs.Kinds.{node_promise, children_of, cost_of}

promise_there : (nodes : List Node) (k : ℕ) (n : Node) → slice_get nodes k ≡ Some n → promise_at (map node_promise nodes) k ≡ node_promise n
promise_there [] k n is = absurd cc
promise_there (x ∷ xs) zero n is = let same : x ≡ n = cc in ap node_promise same
promise_there (x ∷ xs) (suc k) n is = promise_there xs k n is

there : (nodes : List Node) (k : ℕ) (n : Node) → slice_get nodes k ≡ Some n → k < length nodes
there [] k n is = absurd cc
there (x ∷ xs) zero n is = omega (arith)
there (x ∷ xs) (suc k) n is = let ih = there xs k n is in omega (arith, ih)

-- the node fits below the other one, as any child
pub fits_there : (nodes : List Node) (at to : ℕ) (above under : Node) → slice_get nodes at ≡ Some above → slice_get nodes to ≡ Some under → cost_of under.kind under.below ≤ above.below → breadth (node_promise under) ≤ above.breadth → (child : ℕ) → FitsAt (map node_promise nodes) at child to
fits_there nodes at to above under a u cost wide child = record {
  there = let t = there nodes to under u in let l = length-map nodes node_promise in omega (arith, t, l);
  cost = λ fop. subst (λ p. p.cost fop ≤ (promise_at (map node_promise nodes) at).child_cost child fop) (sym (promise_there nodes to under u)) (subst (λ p. cost_of under.kind under.below ≤ p.child_cost child fop) (sym (promise_there nodes at above a)) cost);
  breadth = subst (λ p. breadth p ≤ (promise_at (map node_promise nodes) at).below) (sym (promise_there nodes to under u)) (subst (λ p. breadth (node_promise under) ≤ p.below) (sym (promise_there nodes at above a)) wide);
}

-- the entries of the wiring below this place fit
abbrev pub FitBelow : List Node → Wiring → ℕ → Type 0
FitBelow nodes w i = (k : ℕ) → k < i → FitsChild nodes (k / w.width) (slice_index_or w.below.items k child.Nothing)

pub all_fit : (nodes : List Node) (w : Wiring) → 0 < w.width → FitBelow nodes w (length w.below.items) → (node n to : ℕ) → below w node n ≡ child.Node to → FitsAt (map node_promise nodes) node n to
all_fit nodes w wide fit node n to is = by_width (nat_lt n w.width) refl is where
  within : (xs : List Child) (k t : ℕ) → slice_index_or xs k child.Nothing ≡ child.Node t → k < length xs
  within [] k t is = absurd cc
  within (x ∷ xs) zero t is = omega (arith)
  within (x ∷ xs) (suc k) t is = let ih = within xs k t is in omega (arith, ih)

  by_entry : n < w.width → slice_index_or w.below.items (node * w.width + n) child.Nothing ≡ child.Node to → FitsAt (map node_promise nodes) node n to
  by_entry lt at =
      let e = fit (node * w.width + n) (within w.below.items (node * w.width + n) to at) in
      let f : FitsChild nodes ((node * w.width + n) / w.width) (child.Node to) = subst (λ (c : Child). FitsChild nodes ((node * w.width + n) / w.width) c) at e in
      subst (λ m. FitsAt (map node_promise nodes) m n to) (div-mul-add node w.width n lt) (f n)

  by_width : (b : Bool) → nat_lt n w.width ≡ b → cond b (slice_index_or w.below.items (node * w.width + n) child.Nothing) child.Nothing ≡ child.Node to → FitsAt (map node_promise nodes) node n to
  by_width true lt at = by_entry (ltb-true n w.width lt) at
  by_width false lt at = absurd cc

pub no_width : (nodes : List Node) (w : Wiring) → w.width ≡ 0 → (node n to : ℕ) → below w node n ≡ child.Node to → FitsAt (map node_promise nodes) node n to
no_width nodes w none node n to is = by_width (nat_lt n w.width) refl is where
  by_width : (b : Bool) → nat_lt n w.width ≡ b → cond b (slice_index_or w.below.items (node * w.width + n) child.Nothing) child.Nothing ≡ child.Node to → FitsAt (map node_promise nodes) node n to
  by_width true lt at = absurd (let l = ltb-true n w.width lt in omega (arith, l, none))
  by_width false lt at = absurd cc

-- one entry more
pub fit_more : (nodes : List Node) (w : Wiring) (i : ℕ) → FitBelow nodes w i → FitsChild nodes (i / w.width) (slice_index_or w.below.items i child.Nothing) → FitBelow nodes w (i + 1)
fit_more nodes w i fit here k lt = by_place (place_of (cases_eq k i)) where
  place_of : (k ≡ i) ⊎ (k ≢ i) → (k < i) ⊎ (k ≡ i)
  place_of (inl same) = inr same
  place_of (inr differs) = inl (omega (arith, lt, differs))

  by_place : (k < i) ⊎ (k ≡ i) → FitsChild nodes (k / w.width) (slice_index_or w.below.items k child.Nothing)
  by_place (inl below) = fit k below
  by_place (inr same) = subst (λ n. FitsChild nodes (n / w.width) (slice_index_or w.below.items n child.Nothing)) (sym same) here

-- ---- each child that a node has is wired

pub one_child : (w : Wiring) (node : ℕ) → IsWired (below w node 0) → HasChildren w node 1
one_child w node a zero lt = a
one_child w node a (suc n) lt = absurd (omega (arith, lt))

pub two_children : (w : Wiring) (node : ℕ) → IsWired (below w node 0) → IsWired (below w node 1) → HasChildren w node 2
two_children w node a b zero lt = a
two_children w node a b (suc zero) lt = b
two_children w node a b (suc (suc n)) lt = absurd (omega (arith, lt))

-- the nodes before this place have their children
abbrev pub WiredBelow : List Node → Wiring → ℕ → Type 0
WiredBelow nodes w i = (k : ℕ) → k < i → (n : Node) → slice_get nodes k ≡ Some n → HasChildren w k (children_of n.kind)

pub wired_none : (nodes : List Node) (w : Wiring) → WiredBelow nodes w 0
wired_none nodes w k lt n is = absurd (omega (arith, lt))

pub wired_more : (nodes : List Node) (w : Wiring) (i : ℕ) (n : Node) → slice_get nodes i ≡ Some n → WiredBelow nodes w i → HasChildren w i (children_of n.kind) → WiredBelow nodes w (i + 1)
wired_more nodes w i n at before here k lt m is = by_place (cases_eq k i) where
  some_node : (a b : Node) → Some a ≡ Some b → a ≡ b
  some_node a b e = cc

  by_place : (k ≡ i) ⊎ (k ≢ i) → HasChildren w k (children_of m.kind)
  by_place (inl same) =
      let e : n ≡ m = some_node n m (sym at ∙ ap (slice_get nodes) (sym same) ∙ is) in
      subst (λ j. HasChildren w j (children_of m.kind)) (sym same) (subst (λ (x : Node). HasChildren w i (children_of x.kind)) e here)
  by_place (inr differs) = before k (omega (arith, lt, differs)) m is

pub all_wired : (nodes : List Node) (w : Wiring) → WiredBelow nodes w (length nodes) → (node n : ℕ) → n < (promise_at (map node_promise nodes) node).children → IsWired (below w node n)
all_wired nodes w wired node n lt = by_node (slice_get nodes node) refl where
  none : (xs : List Node) (k : ℕ) → slice_get xs k ≡ None → n < (promise_at (map node_promise xs) k).children → ⊥
  none [] k is h = omega (arith, h)
  none (x ∷ xs) zero is h = absurd cc
  none (x ∷ xs) (suc k) is h = none xs k is h

  by_node : (c : Option Node) → slice_get nodes node ≡ c → IsWired (below w node n)
  by_node None at = absurd (none nodes node at lt)
  by_node (Some m) at = wired node (there nodes node m at) m at n (subst (λ p. n < p.children) (promise_there nodes node m at) lt)
