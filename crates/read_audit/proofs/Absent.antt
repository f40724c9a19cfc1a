-- Names that are nowhere, and what else is read of directories and objects.
use Rattle.std.proofs.Common.{◌≡◌, refl, sym, ap, subst, ◌∙◌, arith}
use Rattle.std.specs.Prelude.{ℕ, ◌+◌, ◌-◌, ◌<◌, nat_lt, Bool, true, false, List, Option, None, Some, length, slice_get, IfSome}
use Rattle.std.proofs.lemmas.Bool.{ltb-true, ltb-false}
use Rattle.dht_fops.specs.Objects.{home}
use Rattle.dht_linkto.specs.Known.{is_no_object}
use Rattle.fop_types.specs.Cells.{meta_cell, names_cell}
use Rattle.fop_types.specs.declared.cells.Cell.{Cell}
use Rattle.fop_types.specs.declared.cells.Gfid.{Gfid}
use Rattle.fop_types.specs.declared.contents.Content.{Content as Held}
use Rattle.fop_types.specs.declared.contents.Content.TheVariants.{Meta}
use Rattle.fop_types.specs.declared.contents.Item.{Item}
use Rattle.fop_types.specs.declared.fops.Object.{Object}
use Rattle.graph_build.specs.declared.plans.Plan.{Plan}
use Rattle.script_lang.specs.declared.scripts.Script.{Script}
use Rattle.brick_machine.specs.Journal.{Journal}
use Rattle.mount_log.specs.Causes.{plan_of_volfile}
use Rattle.mount_log.specs.Connections.{graph_of_call}
use Rattle.mount_log.specs.declared.logs.Log.{Log}
use Rattle.change_audit.specs.CallGraphs.{AreGraphsOf}
use Rattle.change_audit.specs.declared.call_graphs.CallGraphs.{CallGraphs}
use Rattle.read_audit.proofs.Reading.{shown}
use Rattle.read_audit.specs.Erring.{AreNames, HasNoAttr, Lack, IsFetchedSomewhere}
use Rattle.read_audit.specs.Errors.{IsShowing, IsNotOn, IsNowhere, IsWithoutAttr}
use Rattle.read_audit.specs.Names.{ShowsNames}
use Rattle.read_audit.specs.Read.{IsFetched}

-- what holds of the numbers below one, and of that, holds of those below the next
pub below_next : (P : ℕ → Type 0) (n : ℕ) → P n → ((k : ℕ) → k < n → P k) → (k : ℕ) → k < n + 1 → P k
below_next P n own before k lt = by (nat_lt k n) refl where
  by : (t : Bool) → nat_lt k n ≡ t → P k
  by true is = before k (ltb-true k n is)
  by false is = let le = ltb-false k n is in let same : n ≡ k = omega (arith, lt, le) in subst P same own

module _ (script : Script) (plans : List Plan) (log : Log) (bricks : List Journal) (call number : ℕ) where
  -- ---- names

  pub not_on : (dir : Gfid) (name : List ℕ) (set : ℕ) (names : Option (List Item)) → IfSome names (λ items. ShowsNames script plans log bricks call number set dir items) → Lack names name → IsNotOn script plans log bricks call number dir name set
  not_on dir name set None shows lack = absurd lack
  not_on dir name set (Some items) shows lack = record { items = items; shows = shows; link = λ item is. subst (λ (o : Option Item). is_no_object o ≡ true) is lack }

  pub somewhere : (set : ℕ) (cell own : Cell) (content : Held) → cell ≡ own → IsFetched script plans log bricks call number set cell content → IsFetchedSomewhere script plans log bricks call number own content
  somewhere set cell own content same fetched = record { set = set; fetched = subst (λ (c : Cell). IsFetched script plans log bricks call number set c content) same fetched }

  pub showing : (dir : Gfid) (P : Bool → List Item → Type 0) (found : Option Held) (content : Held) → found ≡ Some content → IfSome found (λ c. IsFetchedSomewhere script plans log bricks call number (names_cell dir) c) → AreNames P content
      → IsShowing script plans log bricks call number dir P
  showing dir P found content is fetched are = record {
    set = own.set;
    removed = are.removed;
    items = are.items;
    fetched = subst (λ (h : Held). IsFetched script plans log bricks call number own.set (names_cell dir) h) are.is own.fetched;
    is = are.holds;
  } where
    own : IsFetchedSomewhere script plans log bricks call number (names_cell dir) content
    own = subst (λ (f : Option Held). IfSome f (λ c. IsFetchedSomewhere script plans log bricks call number (names_cell dir) c)) is fetched

  -- ---- attributes

  pub without_attr : (object : Object) (name : List ℕ) (set : ℕ) (cell : Cell) (found : Option Held) (content : Held) → set ≡ home object → cell ≡ meta_cell object.gfid → found ≡ Some content
      → IfSome found (λ c. IsFetched script plans log bricks call number set cell c) → HasNoAttr name content → IsWithoutAttr script plans log bricks call number object name
  without_attr object name set cell found content set_is cell_is is fetched has = record {
    mode = has.mode;
    attrs = has.attrs;
    span = has.span;
    meta =
        subst (λ (s : ℕ). IsFetched script plans log bricks call number s (meta_cell object.gfid) (Meta has.mode has.attrs has.span)) set_is
        (shown script plans log bricks call number set cell (meta_cell object.gfid) content (Meta has.mode has.attrs has.span) cell_is has.is
        (subst (λ (f : Option Held). IfSome f (λ c. IsFetched script plans log bricks call number set cell c)) is fetched));
    none = has.none;
  }

module _ (script : Script) (log : Log) (tables : CallGraphs) (are : AreGraphsOf script log tables) where
  -- the plan of the graph of a call, by its volfile in the table
  pub nowhere : (plans : List Plan) (bricks : List Journal) (call graph number : ℕ) (dir : Gfid) (name : List ℕ) (plan : Plan) (sets : ℕ) → graph ≡ graph_of_call log call → plan_of_volfile plans (slice_get tables.volfiles (graph - 1)) ≡ Some plan
      → sets ≡ length plan.sets → ((set : ℕ) → set < sets → IsNotOn script plans log bricks call number dir name set) → IsNowhere script plans log bricks call number dir name
  nowhere plans bricks call graph number dir name plan sets same is many none = record {
    plan = plan;
    plan_is =
        ap (λ (vs : List ℕ). plan_of_volfile plans (slice_get vs (graph_of_call log call - 1))) (sym are.volfiles)
        ∙ ap (λ (n : ℕ). plan_of_volfile plans (slice_get tables.volfiles (n - 1))) (sym same) ∙ is;
    none = subst (λ (n : ℕ). (set : ℕ) → set < n → IsNotOn script plans log bricks call number dir name set) many none;
  }
