-- What drops pages of an io-cache node: the end of a file's pages, and that of its graph. Ours.
use Rattle.std.specs.Prelude.{ℕ, true, List, Option, None, Some, slice_get, slice_set}
use Rattle.fop_types.specs.declared.cells.Gfid.{Gfid}
use Rattle.io_cache.specs.Pages.{no_pages, without_file}
use Rattle.graph_nodes.specs.declared.kinds.IoCache.{IoCache}
use Rattle.graph_nodes.specs.declared.kinds.Kind.{Kind}
use Rattle.graph_nodes.specs.declared.kinds.Kind.TheVariants as kind
use Rattle.graph_nodes.specs.declared.kinds.Node.{Node}

-- an io-cache node changes so, and any other stays
abbrev pub changed : (IoCache → IoCache) → Kind → Kind
changed change kind.Root = kind.Root
changed change kind.Pass = kind.Pass
changed change (kind.IoThreads node) = kind.IoThreads node
changed change (kind.IoCache node) = kind.IoCache (change node)
changed change (kind.Distribute node) = kind.Distribute node
changed change (kind.Replicate node) = kind.Replicate node
changed change (kind.Client node) = kind.Client node

-- without the pages of a file
abbrev pub without_pages : Gfid → IoCache → IoCache
without_pages gfid c = record c { pages = without_file gfid c.pages }

-- without pages, and none is kept from now on
abbrev pub retired : IoCache → IoCache
retired c = record c { pages = no_pages c.pages.capacity; retired = true }

abbrev pub node_with : (IoCache → IoCache) → Node → Node
node_with change n = record n { kind = changed change n.kind }

abbrev pub changed_in : (IoCache → IoCache) → List Node → ℕ → Option Node → List Node
changed_in change nodes at None = nodes
changed_in change nodes at (Some n) = slice_set nodes at (node_with change n)

-- the nodes where that one changes so, if there is one
abbrev pub changed_at : (IoCache → IoCache) → List Node → ℕ → List Node
changed_at change nodes at = changed_in change nodes at (slice_get nodes at)

abbrev pub cached_by : (IoCache → IoCache) → Option ℕ → List Node → List Node
cached_by change None nodes = nodes
cached_by change (Some at) nodes = changed_at change nodes at
