-- Each entry that was found to fit gives that all nodes fit, and each child that was found that all are there.
use Rattle.std.proofs.Common.{◌≡◌, refl, sym, ap, subst, ◌∙◌, arith, inl, inr, get_or}
use Rattle.std.proofs.lemmas.Nat.{div-mul-add}
use Rattle.std.proofs.lemmas.Bool.{cases_eq, ltb-true}
use Rattle.std.proofs.lemmas.Option.{slice_get_read}
use Rattle.std.specs.Prelude.{ℕ, ◌≢◌, ◌⊎◌, zero, suc, ◌<◌, ◌≤◌, ◌+◌, ◌*◌, ◌/◌, nat_lt, cond, Bool, true, false, List, [], ◌∷◌, length, map, Option, Some, None, slice_get, slice_index_or}
use Rattle.frame_driver.specs.declared.wiring.Child.{Child}
use Rattle.frame_driver.specs.declared.wiring.Child.TheVariants as child
use Rattle.frame_driver.specs.declared.wiring.Wiring.{Wiring}
use Rattle.frame_driver.specs.Wiring.{below, IsWired}
use Rattle.frame_driver.specs.Follows.{promise_at, FitsAt}
use Rattle.graph_nodes.specs.Fitting.{FitsChild, HasChildren}
use Rattle.graph_nodes.specs.Promises.{node_promise}
use Rattle.graph_nodes.specs.declared.kinds.Node.{Node}
use Rattle.graph_nodes.proofs.Fitting.{promise_there, there}

-- the entries of the wiring below this place fit
abbrev pub FitBelow : List Node → Wiring → ℕ → Type 0
FitBelow nodes w i = (k : ℕ) → k < i → FitsChild (map node_promise nodes) (k / w.width) (slice_index_or w.below.items k child.Nothing)

pub all_fit : (nodes : List Node) (w : Wiring) → 0 < w.width → FitBelow nodes w (length w.below.items) → (node n to : ℕ) → below w node n ≡ child.Node to → FitsAt (map node_promise nodes) node n to
all_fit nodes w wide fit node n to is = by_width (nat_lt n w.width) refl is where
  within : (xs : List Child) (k t : ℕ) → slice_index_or xs k child.Nothing ≡ child.Node t → k < length xs
  within [] k t is = absurd cc
  within (x ∷ xs) zero t is = omega (arith)
  within (x ∷ xs) (suc k) t is = let ih = within xs k t is in omega (arith, ih)

  by_entry : n < w.width → slice_index_or w.below.items (node * w.width + n) child.Nothing ≡ child.Node to → FitsAt (map node_promise nodes) node n to
  by_entry lt at =
      let e = fit (node * w.width + n) (within w.below.items (node * w.width + n) to at) in
      let f : FitsChild (map node_promise nodes) ((node * w.width + n) / w.width) (child.Node to) = subst (λ (c : Child). FitsChild (map node_promise nodes) ((node * w.width + n) / w.width) c) at e in
      subst (λ m. FitsAt (map node_promise nodes) m n to) (div-mul-add node w.width n lt) (f n)

  by_width : (b : Bool) → nat_lt n w.width ≡ b → cond b (slice_index_or w.below.items (node * w.width + n) child.Nothing) child.Nothing ≡ child.Node to → FitsAt (map node_promise nodes) node n to
  by_width true lt at = by_entry (ltb-true n w.width lt) at
  by_width false lt at = absurd cc

pub no_width : (nodes : List Node) (w : Wiring) → w.width ≡ 0 → (node n to : ℕ) → below w node n ≡ child.Node to → FitsAt (map node_promise nodes) node n to
no_width nodes w none node n to is = by_width (nat_lt n w.width) refl is where
  by_width : (b : Bool) → nat_lt n w.width ≡ b → cond b (slice_index_or w.below.items (node * w.width + n) child.Nothing) child.Nothing ≡ child.Node to → FitsAt (map node_promise nodes) node n to
  by_width true lt at = absurd (let l = ltb-true n w.width lt in omega (arith, l, none))
  by_width false lt at = absurd cc

-- one entry more
pub fit_more : (nodes : List Node) (w : Wiring) (i : ℕ) → FitBelow nodes w i → FitsChild (map node_promise nodes) (i / w.width) (slice_index_or w.below.items i child.Nothing) → FitBelow nodes w (i + 1)
fit_more nodes w i fit here k lt = by_place (place_of (cases_eq k i)) where
  place_of : (k ≡ i) ⊎ (k ≢ i) → (k < i) ⊎ (k ≡ i)
  place_of (inl same) = inr same
  place_of (inr differs) = inl (omega (arith, lt, differs))

  by_place : (k < i) ⊎ (k ≡ i) → FitsChild (map node_promise nodes) (k / w.width) (slice_index_or w.below.items k child.Nothing)
  by_place (inl below) = fit k below
  by_place (inr same) = subst (λ n. FitsChild (map node_promise nodes) (n / w.width) (slice_index_or w.below.items n child.Nothing)) (sym same) here

-- ---- each child that a node has is wired

pub has_none : (w : Wiring) (node : ℕ) → HasChildren w node 0
has_none w node n lt = absurd (omega (arith, lt))

pub has_more : (w : Wiring) (node count : ℕ) → HasChildren w node count → IsWired (below w node count) → HasChildren w node (count + 1)
has_more w node count before here n lt = by_place (cases_eq n count) where
  by_place : (n ≡ count) ⊎ (n ≢ count) → IsWired (below w node n)
  by_place (inl same) = subst (λ k. IsWired (below w node k)) (sym same) here
  by_place (inr differs) = before n (omega (arith, lt, differs))

-- the nodes before this place have their children
abbrev pub WiredBelow : List Node → Wiring → ℕ → Type 0
WiredBelow nodes w i = (k : ℕ) → k < i → (n : Node) → slice_get nodes k ≡ Some n → HasChildren w k (node_promise n).children

pub wired_none : (nodes : List Node) (w : Wiring) → WiredBelow nodes w 0
wired_none nodes w k lt n is = absurd (omega (arith, lt))

pub wired_more : (nodes : List Node) (w : Wiring) (i : ℕ) (n : Node) → slice_get nodes i ≡ Some n → WiredBelow nodes w i → HasChildren w i (node_promise n).children → WiredBelow nodes w (i + 1)
wired_more nodes w i n at before here k lt m is = by_place (cases_eq k i) where
  some_node : (a b : Node) → Some a ≡ Some b → a ≡ b
  some_node a b e = cc

  by_place : (k ≡ i) ⊎ (k ≢ i) → HasChildren w k (node_promise m).children
  by_place (inl same) =
      let e : n ≡ m = some_node n m (sym at ∙ ap (slice_get nodes) (sym same) ∙ is) in
      subst (λ j. HasChildren w j (node_promise m).children) (sym same) (subst (λ (x : Node). HasChildren w i (node_promise x).children) e here)
  by_place (inr differs) = before k (omega (arith, lt, differs)) m is

-- the same of a node that was read
pub wired_read : (nodes : List Node) (w : Wiring) (i : ℕ) (n : Node) → i < length nodes → n ≡ get_or nodes i n → WiredBelow nodes w i → HasChildren w i (node_promise n).children → WiredBelow nodes w (i + 1)
wired_read nodes w i n low read before here = wired_more nodes w i n (slice_get_read nodes (length nodes) i n refl low read) before here

pub all_wired : (nodes : List Node) (w : Wiring) → WiredBelow nodes w (length nodes) → (node n : ℕ) → n < (promise_at (map node_promise nodes) node).children → IsWired (below w node n)
all_wired nodes w wired node n lt = by_node (slice_get nodes node) refl where
  none : (xs : List Node) (k : ℕ) → slice_get xs k ≡ None → n < (promise_at (map node_promise xs) k).children → ⊥
  none [] k is h = omega (arith, h)
  none (x ∷ xs) zero is h = absurd cc
  none (x ∷ xs) (suc k) is h = none xs k is h

  by_node : (c : Option Node) → slice_get nodes node ≡ c → IsWired (below w node n)
  by_node None at = absurd (none nodes node at lt)
  by_node (Some m) at = wired node (there nodes node m at) m at n (subst (λ p. n < p.children) (promise_there nodes node m at) lt)
