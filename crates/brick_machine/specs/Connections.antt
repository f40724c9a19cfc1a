-- The connected graphs of a brick, each with the descriptors that are open on its connection.
use Rattle.std.specs.Prelude.{ℕ, ◌||◌, ◌==◌, Bool, false, List, [], ◌∷◌, Option, Some, None, is_some}
use Rattle.std.specs.Ordering.{nat_cmp}
use Rattle.std.specs.List.{list_any}
use Rattle.std.specs.Map.{lookup, set_value, remove_entry}
use Rattle.std.specs.BTreeMap.{insert_entry, is_at}
use Rattle.std.specs.BTreeSet.{insert_key}
use Rattle.std.specs.Set.{remove_key}

abbrev pub Connections : Type 0
Connections = List (ℕ × List ℕ)

abbrev pub fds_of : Connections → ℕ → Option (List ℕ)
fds_of graphs graph = lookup (is_at (nat_cmp graph)) graphs

abbrev pub is_connected : Connections → ℕ → Bool
is_connected graphs graph = is_some (fds_of graphs graph)

-- a new connection has no descriptor, also where it takes the place of another one
abbrev pub with_graph : Connections → ℕ → Connections
with_graph graphs graph = insert_entry nat_cmp graphs graph []

abbrev pub without_graph : Connections → ℕ → Connections
without_graph graphs graph = remove_entry (is_at (nat_cmp graph)) graphs

abbrev pub is_among : ℕ → Option (List ℕ) → Bool
is_among fd None = false
is_among fd (Some fds) = list_any (is_at (nat_cmp fd)) fds

-- a request names no descriptor by 0, and else one that was opened on its connection
abbrev pub is_good : Connections → ℕ → ℕ → Bool
is_good graphs graph fd = (fd == 0) || is_among fd (fds_of graphs graph)

abbrev pub changed_fds : Connections → ℕ → (List ℕ → List ℕ) → Option (List ℕ) → Connections
changed_fds graphs graph change None = graphs
changed_fds graphs graph change (Some fds) = set_value (is_at (nat_cmp graph)) graphs (change fds)

abbrev pub with_fds : Connections → ℕ → (List ℕ → List ℕ) → Connections
with_fds graphs graph change = changed_fds graphs graph change (fds_of graphs graph)

abbrev pub with_fd : Connections → ℕ → ℕ → Connections
with_fd graphs graph fd = with_fds graphs graph (λ fds. insert_key nat_cmp fds fd)

abbrev pub without_fd : Connections → ℕ → ℕ → Connections
without_fd graphs graph fd = with_fds graphs graph (λ fds. remove_key (is_at (nat_cmp fd)) fds)
