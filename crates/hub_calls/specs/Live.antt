-- The live graphs, by their numbers from 1, each with the volfile that it is made from, and which of them may go. Ours.
use Rattle.std.specs.Prelude.{◌≡◌, ℕ, ◌==◌, true, false, List, [], map}
use Rattle.graph_nodes.specs.Mounted.{has}
use Rattle.hub_tables.specs.OpenCalls.{CallsState, count_of}
use Rattle.hub_calls.specs.declared.graphs.LiveGraph.{LiveGraph}
use Rattle.hub_calls.specs.declared.graphs.LiveGraphs.{LiveGraphs}

abbrev pub volfile_in : ℕ × LiveGraph → ℕ × ℕ
volfile_in graph = (graph.0, graph.1.volfile)

abbrev pub volfiles_in : List (ℕ × LiveGraph) → List (ℕ × ℕ)
volfiles_in graphs = map volfile_in graphs

-- no graph was made
abbrev pub HasNoGraphs : LiveGraphs → Type 0
HasNoGraphs live = (live.graphs.entries ≡ []) × (live.newest ≡ 0)

-- only graphs that are done with have gone, of those with the first numbers: such a one has no call without a reply, and is not the
-- newest
abbrev pub OnlyDoneGo : CallsState → ℕ → List ℕ → List ℕ → Type 0
OnlyDoneGo calls newest before after = (graph : ℕ) → has before graph ≡ true → has after graph ≡ false → (count_of calls graph ≡ 0) × ((graph == newest) ≡ false)
