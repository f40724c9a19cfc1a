-- What is seen of graphs: how it is looked up, and what is seen after one of them changed.
use Rattle.std.proofs.Common.{◌≡◌, refl, sym, ap, ◌∙◌}
use Rattle.std.proofs.lemmas.Bool.{eq-eqb, ne_eqb}
use Rattle.std.proofs.lemmas.List.{length-map, map-set}
use Rattle.std.proofs.lemmas.Option.{slice_get-map}
use Rattle.std.specs.Prelude.{ℕ, zero, suc, ◌+◌, ◌==◌, ◌&&◌, ◌↔◌, nat_lt, Bool, true, false, cond, IsTrue, List, [], ◌∷◌, length, map, Option, None, Some, is_some, option_map, slice_get, slice_set, if◌then◌else◌}
use Rattle.std.specs.BTreeMap.{BTreeMap, get, insert_entry, is_at}
use Rattle.std.specs.List.{range_with_len}
use Rattle.std.specs.Map.{lookup, remove_entry, set_value}
use Rattle.std.specs.Ordering.{nat_cmp, match_ordering}
use Rattle.std.specs.declared.cmp.Ordering.{Ordering}
use Rattle.std.specs.declared.cmp.Ordering.TheVariants.{Less, Equal, Greater}
use Rattle.client_xlator.specs.Client.{ClientState, new_client, connected, ended, noted, noted_on}
use Rattle.fop_types.specs.declared.cells.Gfid.{Gfid}
use Rattle.frame_driver.specs.Machine.{empty_board}
use Rattle.frame_driver.specs.declared.board.Board.{Board}
use Rattle.graph_build.specs.declared.plans.Plan.{Plan}
use Rattle.graph_items.specs.declared.items.Down.{Down}
use Rattle.graph_items.specs.declared.items.Up.{Up}
use Rattle.graph_items.specs.Clients.{new_clients, connection_by, connection_at, last_by, last_at, changed_by, connected_at, ended_at, noted_at}
use Rattle.graph_nodes.specs.declared.context.Context.{Context}
use Rattle.graph_nodes.specs.declared.graph.Graph.{Graph}
use Rattle.graph_nodes.specs.declared.locals.Local.{Local}
use Rattle.graph_nodes.specs.declared.outer.Waiting.{Waiting}
use Rattle.graph_nodes.specs.declared.opening.Asked.{Asked}
use Rattle.graph_nodes.specs.Calls.{noted_as, noted_by, noted_of}
use Rattle.graph_nodes.specs.Plans.{bricks_in}
use Rattle.graph_nodes.specs.OpenWinds.{WindsState, opened_in, waiting_in}
use Rattle.graph_nodes.specs.Seen.{SeenGraph, new_graph, seen_client, seen_graph, seen_entry, seen_in, graph_at, changed_at, may_connect, next_connection, connects, Works}

-- ---- clients, without their descriptors

abbrev pub seen_clients : List ClientState → List ClientState
seen_clients cs = map seen_client cs

seen_found : (cs : List ClientState) (brick : ℕ) → slice_get (seen_clients cs) brick ≡ option_map seen_client (slice_get cs brick)
seen_found cs brick = slice_get-map seen_client cs brick

pub same_connection : (cs : List ClientState) (brick : ℕ) → connection_at (seen_clients cs) brick ≡ connection_at cs brick
same_connection cs brick = ap connection_by (seen_found cs brick) ∙ by (slice_get cs brick) where
  by : (o : Option ClientState) → connection_by (option_map seen_client o) ≡ connection_by o
  by None = refl
  by (Some c) = refl

same_last : (cs : List ClientState) (brick : ℕ) → last_at (seen_clients cs) brick ≡ last_at cs brick
same_last cs brick = ap last_by (seen_found cs brick) ∙ by (slice_get cs brick) where
  by : (o : Option ClientState) → last_by (option_map seen_client o) ≡ last_by o
  by None = refl
  by (Some c) = refl

pub same_may : (cs : List ClientState) (brick : ℕ) → may_connect (seen_clients cs) brick ≡ may_connect cs brick
same_may cs brick =
    ap (λ (o : Option ℕ). if is_some o then false else nat_lt brick (length (seen_clients cs)) && nat_lt (last_at (seen_clients cs) brick) 4294967295) (same_connection cs brick)
    ∙ ap (λ (n : ℕ). if is_some (connection_at cs brick) then false else nat_lt brick n && nat_lt (last_at (seen_clients cs) brick) 4294967295) (length-map cs seen_client)
    ∙ ap (λ (n : ℕ). if is_some (connection_at cs brick) then false else nat_lt brick (length cs) && nat_lt n 4294967295) (same_last cs brick)

pub same_next : (cs : List ClientState) (brick : ℕ) → next_connection (seen_clients cs) brick ≡ next_connection cs brick
same_next cs brick =
    ap (λ (b : Bool). if b then Some (last_at (seen_clients cs) brick + 1) else None) (same_may cs brick)
    ∙ ap (λ (n : ℕ). if may_connect cs brick then Some (n + 1) else None) (same_last cs brick)

set_seen : (cs : List ClientState) (brick : ℕ) (c : ClientState) → seen_clients (slice_set cs brick c) ≡ slice_set (seen_clients cs) brick (seen_client c)
set_seen cs brick c = map-set seen_client cs brick c

put_back : (cs : List ClientState) (brick : ℕ) (c : ClientState) → slice_get cs brick ≡ Some c → slice_set cs brick c ≡ cs
put_back [] brick c is = absurd cc
put_back (x ∷ xs) zero c is = let this : x ≡ c = cc in ap (λ (y : ClientState). y ∷ xs) (sym this)
put_back (x ∷ xs) (suc brick) c is = ap (λ (cs : List ClientState). x ∷ cs) (put_back xs brick c is)

pub next_is : (cs : List ClientState) (brick : ℕ) (b : Bool) → may_connect cs brick ≡ b → (if b then Some (last_at cs brick + 1) else None) ≡ next_connection cs brick
next_is cs brick b is = ap (λ (x : Bool). if x then Some (last_at cs brick + 1) else None) (sym is)

-- a client changes, and is seen to change so
changed_seen : (change seen : ClientState → ClientState) → ((c : ClientState) → seen_client (change c) ≡ seen (seen_client c)) → (cs : List ClientState) (brick : ℕ)
    → seen_clients (changed_by change cs brick (slice_get cs brick)) ≡ changed_by seen (seen_clients cs) brick (slice_get (seen_clients cs) brick)
changed_seen change seen same cs brick = by (slice_get cs brick) ∙ ap (changed_by seen (seen_clients cs) brick) (sym (seen_found cs brick)) where
  by : (o : Option ClientState) → seen_clients (changed_by change cs brick o) ≡ changed_by seen (seen_clients cs) brick (option_map seen_client o)
  by None = refl
  by (Some c) = set_seen cs brick (change c) ∙ ap (slice_set (seen_clients cs) brick) (same c)

connected_seen : (cs : List ClientState) (brick : ℕ) → seen_clients (connected_at cs brick) ≡ connected_at (seen_clients cs) brick
connected_seen cs brick = changed_seen connected connected (λ c. refl) cs brick

pub ended_seen : (cs : List ClientState) (brick : ℕ) → seen_clients (ended_at cs brick) ≡ ended_at (seen_clients cs) brick
ended_seen cs brick = changed_seen ended ended (λ c. refl) cs brick

-- a descriptor that is noted is not seen
noted_client : (o : Option ℕ) (c : ClientState) (fd : ℕ) (gfid : Gfid) → seen_client (noted_on o c fd gfid) ≡ seen_client c
noted_client None c fd gfid = refl
noted_client (Some n) c fd gfid = refl

unseen : (cs : List ClientState) (brick fd : ℕ) (gfid : Gfid) → seen_clients (noted_at cs brick fd gfid) ≡ seen_clients cs
unseen cs brick fd gfid = by (slice_get cs brick) refl where
  by : (o : Option ClientState) → slice_get cs brick ≡ o → seen_clients (changed_by (λ c. noted c fd gfid) cs brick o) ≡ seen_clients cs
  by None is = refl
  by (Some c) is = set_seen cs brick (noted c fd gfid) ∙ ap (slice_set (seen_clients cs) brick) (noted_client c.connection c fd gfid) ∙ put_back (seen_clients cs) brick (seen_client c) (seen_found cs brick ∙ ap (option_map seen_client) is)

noted_as_unseen : (cs : List ClientState) (brick : ℕ) (o : Option (ℕ × Gfid)) → seen_clients (noted_as cs brick o) ≡ seen_clients cs
noted_as_unseen cs brick None = refl
noted_as_unseen cs brick (Some f) = unseen cs brick f.0 f.1

noted_by_unseen : (cs : List ClientState) (brick : ℕ) (before : Bool) (o : Option Waiting) → seen_clients (noted_by cs brick before o) ≡ seen_clients cs
noted_by_unseen cs brick before None = refl
noted_by_unseen cs brick before (Some w) = noted_as_unseen cs brick (opened_in w before)

pub noted_unseen : (done : Bool) (cs : List ClientState) (outer : List WindsState) (o : Option ℕ) (asked : Asked) → seen_clients (noted_of done cs outer o asked) ≡ seen_clients cs
noted_unseen true cs outer None asked = refl
noted_unseen true cs outer (Some brick) asked = noted_by_unseen cs brick asked.before (waiting_in (slice_get outer brick) asked.wind)
noted_unseen false cs outer o asked = refl

-- new clients have no descriptors
pub new_seen : (bricks graph : ℕ) → seen_clients (new_clients bricks graph) ≡ new_clients bricks graph
new_seen bricks graph = by (range_with_len 0 bricks) where
  by : (ns : List ℕ) → seen_clients (map (λ (brick : ℕ). new_client brick graph) ns) ≡ map (λ (brick : ℕ). new_client brick graph) ns
  by [] = refl
  by (n ∷ ns) = ap (λ (cs : List ClientState). new_client n graph ∷ cs) (by ns)

-- ---- look-ups

pub drained_is : (frames : ℕ) (b : Bool) → (IsTrue b ↔ (frames ≡ 0)) → b ≡ (frames == 0)
drained_is frames true both = sym (eq-eqb frames 0 (both.0 refl))
drained_is frames false both = sym (ne_eqb frames 0 (λ e. let t : false ≡ true = both.1 e in absurd cc))

found_seen : (test : ℕ → Bool) (es : List (ℕ × Graph)) → lookup test (seen_in es) ≡ option_map seen_graph (lookup test es)
found_seen test [] = refl
found_seen test (e ∷ es) = by (test e.0) (found_seen test es) where
  by : (b : Bool) → lookup test (seen_in es) ≡ option_map seen_graph (lookup test es) → cond b (Some (seen_graph e.1)) (lookup test (seen_in es)) ≡ option_map seen_graph (cond b (Some e.1) (lookup test es))
  by true rest = refl
  by false rest = rest

pub graph_seen : (live : BTreeMap ℕ Graph) (n : ℕ) (o : Option Graph) → o ≡ get nat_cmp live n → graph_at (seen_in live.entries) n ≡ option_map seen_graph o
graph_seen live n o is = found_seen (is_at (nat_cmp n)) live.entries ∙ ap (option_map seen_graph) (sym is)

abbrev seen_as : Context → Board Down Up Local → SeenGraph
seen_as cx b = record { clients = seen_clients cx.clients; drained = b.frames == 0 }

-- ---- one of the graphs changes

module _ (change : SeenGraph → SeenGraph) (n : ℕ) where
  set_changes : (es : List (ℕ × Graph)) (old new : Graph) → lookup (is_at (nat_cmp n)) es ≡ Some old → seen_graph new ≡ change (seen_graph old) → seen_in (set_value (is_at (nat_cmp n)) es new) ≡ changed_at change n (seen_in es)
  set_changes [] old new found is = refl
  set_changes (e ∷ es) old new found is = by (is_at (nat_cmp n) e.0) found (λ later. set_changes es old new later is) where
    by : (b : Bool) → cond b (Some e.1) (lookup (is_at (nat_cmp n)) es) ≡ Some old → (lookup (is_at (nat_cmp n)) es ≡ Some old → seen_in (set_value (is_at (nat_cmp n)) es new) ≡ changed_at change n (seen_in es))
        → seen_in (cond b ((e.0, new) ∷ es) (e ∷ set_value (is_at (nat_cmp n)) es new)) ≡ cond b ((e.0, change (seen_graph e.1)) ∷ seen_in es) (seen_entry e ∷ changed_at change n (seen_in es))
    by true found rest = let this : old ≡ e.1 = cc in ap (λ (s : SeenGraph). (e.0, s) ∷ seen_in es) (is ∙ ap (λ (g : Graph). change (seen_graph g)) this)
    by false found rest = ap (λ (gs : List (ℕ × SeenGraph)). seen_entry e ∷ gs) (rest found)

  none_changes : (es : List (ℕ × Graph)) → lookup (is_at (nat_cmp n)) es ≡ None → seen_in es ≡ changed_at change n (seen_in es)
  none_changes [] none = refl
  none_changes (e ∷ es) none = by (is_at (nat_cmp n) e.0) none (λ later. none_changes es later) where
    by : (b : Bool) → cond b (Some e.1) (lookup (is_at (nat_cmp n)) es) ≡ None → (lookup (is_at (nat_cmp n)) es ≡ None → seen_in es ≡ changed_at change n (seen_in es))
        → seen_in (e ∷ es) ≡ cond b ((e.0, change (seen_graph e.1)) ∷ seen_in es) (seen_entry e ∷ changed_at change n (seen_in es))
    by true none rest = absurd cc
    by false none rest = ap (λ (gs : List (ℕ × SeenGraph)). seen_entry e ∷ gs) (rest none)

  -- as a graph that was lent is written back
  pub changes_through : (live : BTreeMap ℕ Graph) (written : List (ℕ × Graph)) (old new : Graph) → Some old ≡ get nat_cmp live n → written ≡ set_value (is_at (nat_cmp n)) live.entries new → seen_graph new ≡ change (seen_graph old)
      → seen_in written ≡ changed_at change n (seen_in live.entries)
  changes_through live written old new found is same = ap seen_in is ∙ set_changes live.entries old new (sym found) same

  -- where there is no such graph
  pub changes_none : (live live_new : BTreeMap ℕ Graph) → None ≡ get nat_cmp live n → live_new ≡ live → seen_in live_new.entries ≡ changed_at change n (seen_in live.entries)
  changes_none live live_new none is = ap (λ (m : BTreeMap ℕ Graph). seen_in m.entries) is ∙ none_changes live.entries (sym none)

-- a graph changes, and is not seen to
pub seen_through : (live : BTreeMap ℕ Graph) (written : List (ℕ × Graph)) (n : ℕ) (old new : Graph) → Some old ≡ get nat_cmp live n → written ≡ set_value (is_at (nat_cmp n)) live.entries new → seen_graph new ≡ seen_graph old → seen_in written ≡ seen_in live.entries
seen_through live written n old new found is same = changes_through (λ g. g) n live written old new found is same ∙ by (seen_in live.entries) where
  by : (gs : List (ℕ × SeenGraph)) → changed_at (λ g. g) n gs ≡ gs
  by [] = refl
  by (g ∷ gs) = cases (is_at (nat_cmp n) g.0) (by gs) where
    cases : (b : Bool) → changed_at (λ g. g) n gs ≡ gs → cond b ((g.0, g.1) ∷ gs) (g ∷ changed_at (λ g. g) n gs) ≡ g ∷ gs
    cases true rest = refl
    cases false rest = ap (λ (hs : List (ℕ × SeenGraph)). g ∷ hs) rest

pub seen_same : (old new : Graph) → new.board ≡ old.board → new.cx ≡ old.cx → seen_graph new ≡ seen_graph old
seen_same old new board cx =
    ap (λ (b : Board Down Up Local). seen_as new.cx b) board ∙ ap (λ (x : Context). seen_as x old.board) cx

-- a graph opens a connection, or none
module _ (old : Graph) (brick : ℕ) where
  abbrev by_choice : Bool → SeenGraph
  by_choice b = if b then record (seen_graph old) { clients = connected_at (seen_clients old.cx.clients) brick } else seen_graph old

  choice : (b : Bool) → may_connect old.cx.clients brick ≡ b → by_choice b ≡ connects brick (seen_graph old)
  choice b is = ap by_choice (sym is ∙ sym (same_may old.cx.clients brick))

  pub seen_connected : (new : Graph) → may_connect old.cx.clients brick ≡ true → new.board ≡ old.board → new.cx ≡ record old.cx { clients = connected_at old.cx.clients brick } → seen_graph new ≡ connects brick (seen_graph old)
  seen_connected new may board cx =
      ap (λ (b : Board Down Up Local). seen_as new.cx b) board ∙ ap (λ (x : Context). seen_as x old.board) cx
      ∙ ap (λ (cs : List ClientState). record (seen_graph old) { clients = cs }) (connected_seen old.cx.clients brick) ∙ choice true may

  pub seen_unconnected : may_connect old.cx.clients brick ≡ false → seen_graph old ≡ connects brick (seen_graph old)
  seen_unconnected may = choice false may

-- a graph was at work
module _ (change : List ClientState → List ClientState) (n : ℕ) (live : BTreeMap ℕ Graph) where
  pub works_through : (written : List (ℕ × Graph)) (old new : Graph) → Some old ≡ get nat_cmp live n → written ≡ set_value (is_at (nat_cmp n)) live.entries new → seen_clients new.cx.clients ≡ change (seen_clients old.cx.clients)
      → Works change n (seen_in live.entries) (seen_in written)
  works_through written old new found is same = record {
    drained = new.board.frames == 0;
    graphs = changes_through _ n live written old new found is (ap (λ (cs : List ClientState). record { clients = cs; drained = new.board.frames == 0 }) same);
  }

  pub works_none : (live_new : BTreeMap ℕ Graph) → None ≡ get nat_cmp live n → live_new ≡ live → Works change n (seen_in live.entries) (seen_in live_new.entries)
  works_none live_new none is = record { drained = true; graphs = changes_none _ n live live_new none is }

-- ---- a graph comes, and one goes

put_seen : (es : List (ℕ × Graph)) (n : ℕ) (g : Graph) → seen_in (insert_entry nat_cmp es n g) ≡ insert_entry nat_cmp (seen_in es) n (seen_graph g)
put_seen [] n g = refl
put_seen (e ∷ es) n g = by (nat_cmp n e.0) (put_seen es n g) where
  by : (o : Ordering) → seen_in (insert_entry nat_cmp es n g) ≡ insert_entry nat_cmp (seen_in es) n (seen_graph g)
      → seen_in (match_ordering o ((n, g) ∷ e ∷ es) ((e.0, g) ∷ es) (e ∷ insert_entry nat_cmp es n g)) ≡ match_ordering o ((n, seen_graph g) ∷ seen_entry e ∷ seen_in es) ((e.0, seen_graph g) ∷ seen_in es) (seen_entry e ∷ insert_entry nat_cmp (seen_in es) n (seen_graph g))
  by Less rest = refl
  by Equal rest = refl
  by Greater rest = ap (λ (gs : List (ℕ × SeenGraph)). seen_entry e ∷ gs) rest

pub gone_seen : (test : ℕ → Bool) (es : List (ℕ × Graph)) → seen_in (remove_entry test es) ≡ remove_entry test (seen_in es)
gone_seen test [] = refl
gone_seen test (e ∷ es) = by (test e.0) (gone_seen test es) where
  by : (b : Bool) → seen_in (remove_entry test es) ≡ remove_entry test (seen_in es) → seen_in (cond b es (e ∷ remove_entry test es)) ≡ cond b (seen_in es) (seen_entry e ∷ remove_entry test (seen_in es))
  by true rest = refl
  by false rest = ap (λ (gs : List (ℕ × SeenGraph)). seen_entry e ∷ gs) rest

-- a graph of a plan comes
pub made_seen : (live live_new : BTreeMap ℕ Graph) (plan : Plan) (n : ℕ) (g : Graph) → live_new.entries ≡ insert_entry nat_cmp live.entries n g → g.board ≡ empty_board n → g.cx.clients ≡ new_clients (bricks_in plan.nodes) n
    → seen_in live_new.entries ≡ insert_entry nat_cmp (seen_in live.entries) n (new_graph plan n)
made_seen live live_new plan n g put board clients = ap seen_in put ∙ put_seen live.entries n g ∙ ap (insert_entry nat_cmp (seen_in live.entries) n) fresh where
  fresh : seen_graph g ≡ new_graph plan n
  fresh =
      ap (λ (b : Board Down Up Local). seen_as g.cx b) board
      ∙ ap (λ (cs : List ClientState). record { clients = cs; drained = true }) (ap seen_clients clients ∙ new_seen (bricks_in plan.nodes) n)
