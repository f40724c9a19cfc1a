-- An io-cache node drops pages, and no node promises anything else by that.
use Rattle.std.proofs.Common.{◌≡◌, refl, sym, ap, ◌∙◌}
use Rattle.std.proofs.Math.Seq.{map-set_same}
use Rattle.std.proofs.lemmas.Option.{get_or_from_slice_get}
use Rattle.std.specs.Prelude.{ℕ, List, Option, None, Some, map, slice_get}
use Rattle.graph_nodes.specs.declared.kinds.IoCache.{IoCache}
use Rattle.graph_nodes.specs.declared.kinds.Kind.{Kind}
use Rattle.graph_nodes.specs.declared.kinds.Kind.TheVariants as kind
use Rattle.graph_nodes.specs.declared.kinds.Node.{Node}
use Rattle.graph_nodes.specs.Caching.{changed, changed_in, changed_at, node_with}
use Rattle.graph_nodes.specs.Costs.{shape_of, sets_of}
use Rattle.graph_nodes.specs.Promises.{promise_of, node_promise}

-- the node that was an io-cache
pub cache_changed : (change : IoCache → IoCache) (n : Node) (c : IoCache) → n.kind ≡ kind.IoCache c → record n { kind = kind.IoCache (change c) } ≡ node_with change n
cache_changed change n c is = ap (λ (k : Kind). record n { kind = changed change k }) (sym is)

kind_promise : (change : IoCache → IoCache) (k : Kind) (sets weight breadth : ℕ) → promise_of (shape_of (changed change k)) (sets_of (changed change k) sets) weight breadth ≡ promise_of (shape_of k) (sets_of k sets) weight breadth
kind_promise change kind.Root sets weight breadth = refl
kind_promise change kind.Pass sets weight breadth = refl
kind_promise change (kind.IoThreads q) sets weight breadth = refl
kind_promise change (kind.IoCache c) sets weight breadth = refl
kind_promise change (kind.Distribute d) sets weight breadth = refl
kind_promise change (kind.Replicate r) sets weight breadth = refl
kind_promise change (kind.Client c) sets weight breadth = refl

node_keeps : (change : IoCache → IoCache) (n : Node) → node_promise (node_with change n) ≡ node_promise n
node_keeps change n = kind_promise change n.kind n.sets n.weight n.breadth

promises_in : (change : IoCache → IoCache) (nodes : List Node) (at : ℕ) (o : Option Node) → slice_get nodes at ≡ o → map node_promise (changed_in change nodes at o) ≡ map node_promise nodes
promises_in change nodes at None is = refl
promises_in change nodes at (Some n) is = map-set_same node_promise nodes at (node_with change n) n (node_keeps change n ∙ ap node_promise (sym (get_or_from_slice_get nodes at n n is)))

pub promises_at : (change : IoCache → IoCache) (nodes new : List Node) (at : ℕ) → new ≡ changed_at change nodes at → map node_promise new ≡ map node_promise nodes
promises_at change nodes new at is = ap (map node_promise) is ∙ promises_in change nodes at (slice_get nodes at) refl
