-- A graph's connection ends; and graphs that are done with go.
use Rattle.std.proofs.Common.{◌≡◌, ℕ, zero, suc, ◌==◌, ◌&&◌, not, Bool, true, false, cond, List, [], ◌∷◌, Option, None, Some, option_map, slice_get, slice_set, refl, sym, ap, subst, ◌∙◌, arith}
use Rattle.std.proofs.lemmas.Bool.{eqb-true}
use Rattle.std.specs.BTreeMap.{is_at}
use Rattle.std.specs.Ordering.{nat_cmp}
use Rattle.client_xlator.specs.Client.{ClientState, ended}
use Rattle.graph_items.specs.Clients.{connection_at, connection_by as connection_of, changed_by, ended_at}
use Rattle.graph_nodes.specs.Mounted.{has}
use Rattle.graph_nodes.specs.Seen.{SeenGraph, graph_at, changed_at, connection_by, connection_in, Works}
use Rattle.hub_tables.specs.OpenCalls.{CallsState, count_of}
use Rattle.hub_calls.specs.Live.{OnlyDoneGo}

-- ---- a connection that has ended

changed_is : (change : SeenGraph → SeenGraph) (n : ℕ) (es : List (ℕ × SeenGraph)) → graph_at (changed_at change n es) n ≡ option_map change (graph_at es n)
changed_is change n [] = refl
changed_is change n (e ∷ es) = by (is_at (nat_cmp n) e.0) refl (changed_is change n es) where
  by : (b : Bool) → is_at (nat_cmp n) e.0 ≡ b → graph_at (changed_at change n es) n ≡ option_map change (graph_at es n)
      → graph_at (cond b ((e.0, change e.1) ∷ es) (e ∷ changed_at change n es)) n ≡ option_map change (cond b (Some e.1) (graph_at es n))
  by true is rest = ap (λ (b : Bool). cond b (Some (change e.1)) (graph_at es n)) is
  by false is rest = ap (λ (b : Bool). cond b (Some e.1) (graph_at (changed_at change n es) n)) is ∙ rest

put_there : (cs : List ClientState) (brick : ℕ) (c d : ClientState) → slice_get cs brick ≡ Some c → slice_get (slice_set cs brick d) brick ≡ Some d
put_there [] brick c d is = absurd cc
put_there (x ∷ xs) zero c d is = refl
put_there (x ∷ xs) (suc brick) c d is = put_there xs brick c d is

none_at : (cs : List ClientState) (brick : ℕ) → connection_at (ended_at cs brick) brick ≡ None
none_at cs brick = by (slice_get cs brick) refl where
  by : (o : Option ClientState) → slice_get cs brick ≡ o → connection_at (changed_by ended cs brick o) brick ≡ None
  by None is = ap connection_of is
  by (Some c) is = ap connection_of (put_there cs brick c (ended c) is)

pub has_ended : (graph brick : ℕ) (old new : List (ℕ × SeenGraph)) → Works (λ cs. ended_at cs brick) graph old new → connection_in new graph brick ≡ None
has_ended graph brick old new works =
    ap (λ (gs : List (ℕ × SeenGraph)). connection_in gs graph brick) works.graphs
    ∙ ap (λ (o : Option SeenGraph). connection_by o brick) (changed_is (λ g. record { clients = ended_at g.clients brick; drained = works.drained }) graph old)
    ∙ by (graph_at old graph) where
      by : (o : Option SeenGraph) → connection_by (option_map (λ (g : SeenGraph). record { clients = ended_at g.clients brick; drained = works.drained }) o) brick ≡ None
      by None = refl
      by (Some g) = none_at g.clients brick

-- ---- graphs that go

at_is : (a b : ℕ) → is_at (nat_cmp a) b ≡ (a == b)
at_is a b = grind arith

-- one graph is removed, or none
pub others_stay : (number : ℕ) (gone : Bool) (old new : List ℕ) → ((q : ℕ) → has new q ≡ (not (gone && is_at (nat_cmp number) q) && has old q)) → (q : ℕ) → (number == q) ≡ false → has new q ≡ has old q
others_stay number gone old new are q apart = are q ∙ ap (λ (b : Bool). not (gone && b) && has old q) (at_is number q ∙ apart) ∙ by gone where
  by : (b : Bool) → (not (b && false) && has old q) ≡ has old q
  by true = refl
  by false = refl

pub none_has_gone : (calls : CallsState) (newest : ℕ) (numbers : List ℕ) → OnlyDoneGo calls newest numbers numbers
none_has_gone calls newest numbers graph there gone = let no : ◌≡◌ {A = Bool} true false = sym there ∙ gone in absurd cc

-- a graph more, which is done with, may have gone
pub one_more_goes : (calls : CallsState) (newest graph : ℕ) (before now after : List ℕ) → (graph == newest) ≡ false → count_of calls graph ≡ 0 → ((q : ℕ) → (graph == q) ≡ false → has after q ≡ has now q)
    → OnlyDoneGo calls newest before now → OnlyDoneGo calls newest before after
one_more_goes calls newest graph before now after older none others so_far q there gone = by (graph == q) refl where
  by : (b : Bool) → (graph == q) ≡ b → (count_of calls q ≡ 0) × ((q == newest) ≡ false)
  by true same = subst (λ (k : ℕ). (count_of calls k ≡ 0) × ((k == newest) ≡ false)) (eqb-true graph q same) (none, older)
  by false apart = so_far q there (sym (others q apart) ∙ gone)
