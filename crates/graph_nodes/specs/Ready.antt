-- The ready tasks of a mount: the io-threads nodes in which a frame waits, by graph and then by node. Ours.
use Rattle.std.specs.Prelude.{ℕ, ◌==◌, Bool, ◌&&◌, List, [], ◌∷◌, ◌++◌, map}
use Rattle.std.specs.List.{list_any}
use Rattle.graph_nodes.specs.declared.graph.Graph.{Graph}

abbrev pub task_of : ℕ → ℕ → ℕ × ℕ
task_of number node = (number, node)

-- those of the graph of this number
abbrev pub tasks_of : ℕ → Graph → List (ℕ × ℕ)
tasks_of number g = map (task_of number) g.cx.ready.keys

abbrev pub tasks_in : List (ℕ × Graph) → List (ℕ × ℕ)
tasks_in [] = []
tasks_in (e ∷ es) = tasks_of e.0 e.1 ++ tasks_in es

-- whether the task of this node of this graph is among them
abbrev pub has_task : List (ℕ × ℕ) → ℕ → ℕ → Bool
has_task tasks number node = list_any (λ t. (number == t.0) && (node == t.1)) tasks
