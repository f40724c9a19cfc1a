-- The graph of a call is that of the table; the sets of new names.
use Rattle.std.proofs.Common.{◌≡◌, sym, ap, subst, ◌∙◌, arith}
use Rattle.std.specs.Prelude.{ℕ, zero, suc, ◌≤◌, ◌+◌, ◌-◌, List, [], ◌∷◌, ◌++◌, Option, Some, length, take, slice_get, IfSome}
use Rattle.fop_types.specs.declared.cells.Gfid.{Gfid}
use Rattle.fop_types.specs.declared.flat.FlatOp.{FlatOp}
use Rattle.fop_types.specs.declared.flat.FlatOp.TheVariants as flat
use Rattle.fop_types.specs.declared.jobs.SetPlan.{SetPlan}
use Rattle.graph_build.specs.declared.plans.Plan.{Plan}
use Rattle.script_lang.specs.declared.scripts.Action.{Action}
use Rattle.script_lang.specs.declared.scripts.Action.TheVariants as action
use Rattle.script_lang.specs.declared.scripts.Script.{Script}
use Rattle.brick_machine.specs.Journal.{Journal}
use Rattle.mount_log.proofs.Items.{some_is}
use Rattle.mount_log.specs.Causes.{set_of_plan, plan_of_volfile}
use Rattle.mount_log.specs.Connections.{graph_of_call}
use Rattle.mount_log.specs.Graphs.{switched_by, with_switch, switches_in}
use Rattle.mount_log.specs.Submissions.{submit_event}
use Rattle.mount_log.specs.declared.logs.HubEvent.{HubEvent}
use Rattle.mount_log.specs.declared.logs.HubEvent.TheVariants as logged
use Rattle.mount_log.specs.declared.logs.Log.{Log}
use Rattle.change_audit.specs.Answered.{IsQuorum}
use Rattle.change_audit.specs.Borne.{IsBorne, IsBearer}
use Rattle.change_audit.specs.Bearing.{HasBearers}
use Rattle.change_audit.specs.CallGraphs.{submitted_in, graphs_from, AreGraphsOf, HasGraph}
use Rattle.change_audit.specs.Placed.{HasSets, IsMadeIn, IsSplitIn, IsHashed, IsOnSet}
use Rattle.change_audit.specs.Placed.IsSplitIn.{Root, Made}
use Rattle.change_audit.specs.Placing.{HasTableSets, IsMadeByTable, IsSplitByTable, IsHashedByTable, IsOnSetByTable}
use Rattle.change_audit.specs.Placing.IsSplitByTable.{AtRoot, ByTable}
use Rattle.change_audit.specs.declared.call_graphs.CallGraphs.{CallGraphs}

-- ---- switches

long_act : (a : Action) (rest : List ℕ) → length (with_switch a rest) ≡ length (with_switch a []) + length rest
long_act (action.Switch volfile) rest = omega arith
long_act (action.Down brick serve) rest = omega arith
long_act (action.Up brick) rest = omega arith
long_act (action.Cut brick) rest = omega arith
long_act (action.Fault brick p n) rest = omega arith
long_act action.Heal rest = omega arith

long : (e : HubEvent) (rest : List ℕ) → length (switched_by e rest) ≡ length (switched_by e []) + length rest
long (logged.Act a) rest = long_act a rest
long (logged.Submit session line) rest = omega arith
long (logged.Arrive brick bytes) rest = omega arith
long (logged.Run graph task) rest = omega arith
long (logged.Arm brick p count a) rest = omega arith

-- ---- the table of calls

-- the graphs of the calls so far, with those of one event more
pub graphs_next : (graphs after : List ℕ) (graph step : ℕ) (e : HubEvent) (es : List HubEvent) → ((rest : List ℕ) → after ++ rest ≡ graphs ++ submitted_in graph e rest)
    → ((rest : List ℕ) → length (switched_by e rest) ≡ step + length rest) → after ++ graphs_from (graph + step) es ≡ graphs ++ graphs_from graph (e ∷ es)
graphs_next graphs after graph step e es added counted =
    let one = counted [] in
    let same : graph + step ≡ graph + length (switched_by e []) = omega (arith, one) in
    added (graphs_from (graph + step) es) ∙ ap (λ (n : ℕ). graphs ++ submitted_in graph e (graphs_from n es)) same

-- ---- the graph of each call

-- the graph of the call whose submission is the event of this number, behind events of which the last has the number `last`
pub record IsGraphAt (es : List HubEvent) (graph last number g : ℕ) : Type 0 where
  pub graph_is : g ≡ graph + length (switches_in (take (number - (last + 1)) es))
  pub later : last + 1 ≤ number

behind : (e : HubEvent) (es : List HubEvent) (graph last number g : ℕ) → IsGraphAt es (graph + length (switched_by e [])) (last + 1) number g → IsGraphAt (e ∷ es) graph last number g
behind e es graph last number g at =
    let later = at.later in
    let more : number - (last + 1) ≡ suc (number - (last + 1 + 1)) = omega (arith, later) in
    let graph_is = at.graph_is in
    let sum = long e (switches_in (take (number - (last + 1 + 1)) es)) in
    let is : g ≡ graph + length (switched_by e (switches_in (take (number - (last + 1 + 1)) es))) = omega (arith, graph_is, sum) in
    record { graph_is = is ∙ ap (λ (n : ℕ). graph + length (switches_in (take n (e ∷ es)))) (sym more); later = omega (arith, later) }

graph_at : (es : List HubEvent) (graph last c g : ℕ) → slice_get (graphs_from graph es) c ≡ Some g → IsGraphAt es graph last (submit_event last es (suc c)) g
graph_at [] graph last c g is = absurd cc
graph_at (logged.Submit session line ∷ es) graph last zero g is =
    let same = some_is graph g is in
    let none : last + 1 - (last + 1) ≡ 0 = omega arith in
    let first : g ≡ graph + length (switches_in (take 0 (logged.Submit session line ∷ es))) = omega (arith, same) in
    record { graph_is = first ∙ ap (λ (n : ℕ). graph + length (switches_in (take n (logged.Submit session line ∷ es)))) (sym none); later = omega arith }
graph_at (logged.Submit session line ∷ es) graph last (suc c) g is =
    behind (logged.Submit session line) es graph last (submit_event (last + 1) es (suc c)) g (graph_at es (graph + length (switched_by (logged.Submit session line) [])) (last + 1) c g is)
graph_at (logged.Arrive brick bytes ∷ es) graph last c g is =
    behind (logged.Arrive brick bytes) es graph last (submit_event (last + 1) es (suc c)) g (graph_at es (graph + length (switched_by (logged.Arrive brick bytes) [])) (last + 1) c g is)
graph_at (logged.Run number task ∷ es) graph last c g is =
    behind (logged.Run number task) es graph last (submit_event (last + 1) es (suc c)) g (graph_at es (graph + length (switched_by (logged.Run number task) [])) (last + 1) c g is)
graph_at (logged.Act a ∷ es) graph last c g is =
    behind (logged.Act a) es graph last (submit_event (last + 1) es (suc c)) g (graph_at es (graph + length (switched_by (logged.Act a) [])) (last + 1) c g is)
graph_at (logged.Arm brick p count a ∷ es) graph last c g is =
    behind (logged.Arm brick p count a) es graph last (submit_event (last + 1) es (suc c)) g (graph_at es (graph + length (switched_by (logged.Arm brick p count a) [])) (last + 1) c g is)

module _ (script : Script) (log : Log) (tables : CallGraphs) (are : AreGraphsOf script log tables) where
  pub graph_is : (call graph : ℕ) → HasGraph tables call graph → graph ≡ graph_of_call log call
  graph_is call graph has =
      let from_one = has.from_one in
      let number : suc (call - 1) ≡ call = omega (arith, from_one) in
      let at = graph_at log.events 1 0 (call - 1) graph (ap (λ (l : List ℕ). slice_get l (call - 1)) (sym are.calls) ∙ has.there) in
      at.graph_is ∙ ap (λ (n : ℕ). 1 + length (switches_in (take (submit_event 0 log.events n - 1) log.events))) number

  -- ---- the sets of new names

  has_sets : (plans : List Plan) (graph many : ℕ) → HasTableSets plans tables graph many → HasSets script plans log graph many
  has_sets plans graph many has = record {
    plan = has.plan;
    plan_is = ap (λ (vs : List ℕ). plan_of_volfile plans (slice_get vs (graph - 1))) (sym are.volfiles) ∙ has.plan_is;
    many_is = has.many_is;
  }

  made_in : (ops : List FlatOp) (dir : Gfid) (graph : ℕ) → IsMadeByTable log tables ops dir graph → IsMadeIn log ops dir graph
  made_in ops dir graph made = record {
    place = made.place;
    entry = made.entry;
    there = made.there;
    parent = made.makes.parent;
    name = made.makes.name;
    mode = made.makes.mode;
    makes = made.at ∙ ap Some made.makes.is;
    graph_is = graph_is made.entry.call graph made.graph_is;
  }

  split_in : (ops : List FlatOp) (dir : Gfid) (graph : ℕ) → IsSplitByTable log tables ops dir graph → IsSplitIn log ops dir graph
  split_in ops dir graph (AtRoot root_is one) = Root root_is one
  split_in ops dir graph (ByTable made) = Made (made_in ops dir graph made)

  hashed : (plans : List Plan) (ops : List FlatOp) (dir : Gfid) (name : List ℕ) (set : ℕ) → IsHashedByTable plans log tables ops dir name set → IsHashed script plans log ops dir name set
  hashed plans ops dir name set is = record {
    graph = is.graph;
    split = split_in ops dir is.graph is.split;
    many = is.many;
    has = has_sets plans is.graph is.many is.has;
    set_is = is.set_is;
  }

  on_set : (plans : List Plan) (ops : List FlatOp) (operation : FlatOp) (set : ℕ) → IsOnSetByTable plans log tables ops operation set → IsOnSet script plans log ops operation set
  on_set plans ops (flat.Create parent name mode drawn) set is = hashed plans ops parent name set is
  on_set plans ops (flat.Mkdir parent name mode drawn) set is = is
  on_set plans ops (flat.Lookup parent name) set is = tt
  on_set plans ops (flat.Rmdir parent name) set is = tt
  on_set plans ops (flat.Unlink parent name) set is = tt
  on_set plans ops (flat.Rename parent name target new_name) set is = tt
  on_set plans ops (flat.Open gfid) set is = tt
  on_set plans ops (flat.Stat gfid) set is = tt
  on_set plans ops (flat.List gfid) set is = tt
  on_set plans ops (flat.Chmod gfid mode) set is = tt
  on_set plans ops (flat.Truncate gfid size) set is = tt
  on_set plans ops (flat.SetAttr gfid attr) set is = tt
  on_set plans ops (flat.GetAttr gfid name) set is = tt
  on_set plans ops (flat.DelAttr gfid name) set is = tt
  on_set plans ops (flat.Read gfid offset count) set is = tt
  on_set plans ops (flat.Write gfid offset bytes) set is = tt

  -- a change of a call that the bricks of a set of its graph bear by the event of a number
  pub borne : (plans : List Plan) (bricks : List Journal) (ops : List FlatOp) (call graph change number set : ℕ) (operation : FlatOp) (from : Option ℕ) (plan : SetPlan) → HasGraph tables call graph
      → set_of_plan (plan_of_volfile plans (slice_get tables.volfiles (graph - 1))) set ≡ Some plan → IsOnSetByTable plans log tables ops operation set → IfSome from (λ one. set ≡ one)
      → HasBearers log bricks plan call graph change number operation → IsBorne script plans log bricks ops call change number operation from
  borne plans bricks ops call graph change number set operation from plan has set_is placed taken have =
      let same = graph_is call graph has in
      record {
        set = set;
        plan = plan;
        plan_is =
            ap (λ (vs : List ℕ). set_of_plan (plan_of_volfile plans (slice_get vs (graph_of_call log call - 1))) set) (sym are.volfiles)
            ∙ ap (λ (n : ℕ). set_of_plan (plan_of_volfile plans (slice_get tables.volfiles (n - 1))) set) (sym same) ∙ set_is;
        placed = on_set plans ops operation set placed;
        taken = taken;
        op = have.op;
        op_is = have.op_is;
        bearers = have.bearers;
        quorum = subst (λ (n : ℕ). IsQuorum plan have.bearers (IsBearer log bricks plan call n change number have.op)) same have.quorum;
      }
