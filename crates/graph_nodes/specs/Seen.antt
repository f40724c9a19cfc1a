-- What contracts see of a graph among those of a mount: its clients, without the descriptors that are open on their
-- connections, and whether no frame of it is open. A client is connected, and its connection ends, in the words of
-- graph_items. Ours.
use Rattle.std.specs.Prelude.{ℕ, ◌≡◌, ◌+◌, ◌==◌, ◌&&◌, nat_lt, Bool, true, false, cond, List, [], ◌∷◌, length, map, Option, Some, None, is_some, if◌then◌else◌, refl}
use Rattle.std.specs.BTreeMap.{is_at}
use Rattle.std.specs.Coded.{Coded, code_by, coded×, coded_ℕ, coded_bool, coded_list, coded_option}
use Rattle.std.specs.Map.{lookup}
use Rattle.std.specs.Ordering.{nat_cmp}
use Rattle.client_xlator.specs.Client.{ClientState}
use Rattle.fop_types.specs.declared.cells.Gfid.{Gfid}
use Rattle.graph_build.specs.declared.plans.Plan.{Plan}
use Rattle.graph_items.specs.Clients.{new_clients, connection_at, last_at, connected_at}
use Rattle.inode_table.specs.Inodes.{gfid_code}
use Rattle.graph_nodes.specs.declared.graph.Graph.{Graph}
use Rattle.graph_nodes.specs.Plans.{bricks_in}

-- `clients` has one for each brick by its number, of which no descriptor is known
pub record SeenGraph : Type 0 where
  pub clients : List ClientState
  pub drained : Bool

abbrev pub seen_client : ClientState → ClientState
seen_client c = record c { known = [] }

abbrev pub seen_graph : Graph → SeenGraph
seen_graph g = record { clients = map seen_client g.cx.clients; drained = g.board.frames == 0 }

abbrev pub seen_entry : ℕ × Graph → ℕ × SeenGraph
seen_entry e = (e.0, seen_graph e.1)

-- graphs by their numbers, each as it is seen
abbrev pub seen_in : List (ℕ × Graph) → List (ℕ × SeenGraph)
seen_in es = map seen_entry es

-- ---- what is asked of them

abbrev pub graph_at : List (ℕ × SeenGraph) → ℕ → Option SeenGraph
graph_at graphs number = lookup (is_at (nat_cmp number)) graphs

abbrev pub connection_by : Option SeenGraph → ℕ → Option ℕ
connection_by None brick = None
connection_by (Some g) brick = connection_at g.clients brick

-- the number of a graph's open connection to a brick
abbrev pub connection_in : List (ℕ × SeenGraph) → ℕ → ℕ → Option ℕ
connection_in graphs number brick = connection_by (graph_at graphs number) brick

abbrev pub is_drained_by : Option SeenGraph → Bool
is_drained_by None = false
is_drained_by (Some g) = g.drained

-- whether there is a graph of this number, without open frames
abbrev pub is_drained_in : List (ℕ × SeenGraph) → ℕ → Bool
is_drained_in graphs number = is_drained_by (graph_at graphs number)

-- ---- what calls make of them

-- the graph of this number, if there is one, changes so
abbrev pub changed_at : (SeenGraph → SeenGraph) → ℕ → List (ℕ × SeenGraph) → List (ℕ × SeenGraph)
changed_at change number [] = []
changed_at change number (e ∷ es) = cond (is_at (nat_cmp number) e.0) ((e.0, change e.1) ∷ es) (e ∷ changed_at change number es)

-- A graph may connect to a brick of which it has a client that is not connected, as long as there is a next number.
abbrev pub may_connect : List ClientState → ℕ → Bool
may_connect cs brick = if is_some (connection_at cs brick) then false else nat_lt brick (length cs) && nat_lt (last_at cs brick) 4294967295

-- the number of the connection that it opens
abbrev pub next_connection : List ClientState → ℕ → Option ℕ
next_connection cs brick = if may_connect cs brick then Some (last_at cs brick + 1) else None

abbrev pub next_by : Option SeenGraph → ℕ → Option ℕ
next_by None brick = None
next_by (Some g) brick = next_connection g.clients brick

abbrev pub next_in : List (ℕ × SeenGraph) → ℕ → ℕ → Option ℕ
next_in graphs number brick = next_by (graph_at graphs number) brick

abbrev pub connects : ℕ → SeenGraph → SeenGraph
connects brick g = if may_connect g.clients brick then record g { clients = connected_at g.clients brick } else g

-- a graph of a plan, before any connection and any frame
abbrev pub new_graph : Plan → ℕ → SeenGraph
new_graph plan number = record { clients = new_clients (bricks_in plan.nodes) number; drained = true }

-- The graph of this number was at work, and its clients have changed so. Whether it has open frames is left open. Of the others
-- nothing has changed.
pub record Works (change : List ClientState → List ClientState) (number : ℕ) (old new : List (ℕ × SeenGraph)) : Type 0 where
  pub drained : Bool
  pub graphs : new ≡ changed_at (λ g. record { clients = change g.clients; drained = drained }) number old

abbrev pub same_clients : List ClientState → List ClientState
same_clients cs = cs

-- ---- how one is distinguished from another: by its fields

abbrev pub client_code : Coded ClientState
client_code =
    code_by (ℕ × (ℕ × (ℕ × (Option ℕ × List (ℕ × Gfid))))) (coded× coded_ℕ (coded× coded_ℕ (coded× coded_ℕ (coded× (coded_option coded_ℕ) (coded_list (coded× coded_ℕ gfid_code))))))
    (λ c. (c.brick, (c.graph, (c.last, (c.connection, c.known))))) (λ p. record { brick = p.0; graph = p.1.0; last = p.1.1.0; connection = p.1.1.1.0; known = p.1.1.1.1 }) (λ _. refl)

abbrev pub seen_code : Coded SeenGraph
seen_code = code_by (List ClientState × Bool) (coded× (coded_list client_code) coded_bool) (λ g. (g.clients, g.drained)) (λ p. record { clients = p.0; drained = p.1 }) (λ _. refl)
