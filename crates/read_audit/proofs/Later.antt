-- What was read by an event was read by each later one.
use Rattle.std.proofs.Common.{arith}
use Rattle.std.specs.Prelude.{ℕ, ◌≤◌, List, [], ◌∷◌, Option, None, Some}
use Rattle.std.specs.List.{AllByRecursion}
use Rattle.fop_types.specs.declared.cells.Cell.{Cell}
use Rattle.fop_types.specs.declared.cells.Gfid.{Gfid}
use Rattle.fop_types.specs.declared.contents.Content.{Content as Held}
use Rattle.fop_types.specs.declared.contents.Item.{Item}
use Rattle.fop_types.specs.declared.fops.Object.{Object}
use Rattle.fop_types.specs.declared.jobs.SetPlan.{SetPlan}
use Rattle.graph_build.specs.declared.plans.Plan.{Plan}
use Rattle.script_lang.specs.declared.scripts.Script.{Script}
use Rattle.brick_machine.specs.Journal.{Journal}
use Rattle.mount_log.specs.Connections.{graph_of_call}
use Rattle.mount_log.specs.declared.logs.Log.{Log}
use Rattle.read_audit.specs.Errors.{IsNotOn, IsNowhere}
use Rattle.read_audit.specs.Names.{IsStep, LeadsTo, IsWithout, IsLacking, ShowsNames}
use Rattle.read_audit.specs.Names.ShowsNames.{Shown, NoCopy}
use Rattle.read_audit.specs.Read.{IsFetched}
use Rattle.read_audit.specs.Taken.{Reaches}

all_by : (P Q : ℕ → Type 0) → ((n : ℕ) → P n → Q n) → (ns : List ℕ) → AllByRecursion P ns → AllByRecursion Q ns
all_by P Q gives [] all = tt
all_by P Q gives (n ∷ ns) all = (gives n all.0, all_by P Q gives ns all.1)

module _ (script : Script) (plans : List Plan) (log : Log) (bricks : List Journal) where
  module _ (call number later : ℕ) (le : number ≤ later) where
    pub fetched_later : (set : ℕ) (cell : Cell) (content : Held) → IsFetched script plans log bricks call number set cell content → IsFetched script plans log bricks call later set cell content
    fetched_later set cell content is = let lt = is.in_time in record {
      plan = is.plan;
      plan_is = is.plan_is;
      source = is.source;
      wind = is.wind;
      fd = is.fd;
      last = is.last;
      event = is.event;
      answered = is.answered;
      of_call = is.of_call;
      in_time = omega (arith, lt, le);
      cells = is.cells;
      place = is.place;
      has = is.has;
      rows = is.rows;
      group = is.group;
    }

    pub step_later : (dir : Gfid) (name : List ℕ) (to : Object) → IsStep script plans log bricks call number dir name to → IsStep script plans log bricks call later dir name to
    step_later dir name to is = record {
      set = is.set;
      items = is.items;
      fetched = fetched_later is.set _ _ is.fetched;
      item = is.item;
      named = is.named;
      real = is.real;
      to_is = is.to_is;
    }

    pub leads_later : (path : List (List ℕ)) (from to : Object) → LeadsTo script plans log bricks call number path from to → LeadsTo script plans log bricks call later path from to
    leads_later [] from to leads = leads
    leads_later (name ∷ names) from to leads = record {
      object = leads.object;
      step = step_later from.gfid name leads.object leads.step;
      rest = leads_later names leads.object to leads.rest;
    }

    pub reaches_later : (path : List (List ℕ)) (to : Option Gfid) → Reaches script plans log bricks call number path to → Reaches script plans log bricks call later path to
    reaches_later path None reaches = tt
    reaches_later path (Some gfid) reaches = record { object = reaches.object; leads = leads_later path _ reaches.object reaches.leads; is = reaches.is }

    -- ---- names that are nowhere

    without_later : (plan : SetPlan) (graph : ℕ) (cell : Cell) (brick : ℕ) → IsWithout log bricks plan call graph cell number brick → IsWithout log bricks plan call graph cell later brick
    without_later plan graph cell brick is = let lt = is.in_time in record {
      member = is.member;
      wind = is.wind;
      shared = is.shared;
      row = is.row;
      event = is.event;
      granted = is.granted;
      absent = is.absent;
      in_time = omega (arith, lt, le);
    }

    lacking_later : (set : ℕ) (cell : Cell) → IsLacking script plans log bricks call number set cell → IsLacking script plans log bricks call later set cell
    lacking_later set cell is = let of = is.quorum in record {
      behind = is.behind;
      plan = is.plan;
      plan_is = is.plan_is;
      holders = is.holders;
      quorum = record {
        differ = of.differ;
        enough = of.enough;
        each =
            all_by (λ (b : ℕ). IsWithout log bricks is.plan call (graph_of_call log call) cell number b) (λ (b : ℕ). IsWithout log bricks is.plan call (graph_of_call log call) cell later b)
            (without_later is.plan (graph_of_call log call) cell) is.holders of.each;
      };
    }

    shows_later : (set : ℕ) (dir : Gfid) (items : List Item) → ShowsNames script plans log bricks call number set dir items → ShowsNames script plans log bricks call later set dir items
    shows_later set dir items (Shown fetched) = Shown (fetched_later set _ _ fetched)
    shows_later set dir items (NoCopy none lacking) = NoCopy none (lacking_later set _ lacking)

    not_on_later : (dir : Gfid) (name : List ℕ) (set : ℕ) → IsNotOn script plans log bricks call number dir name set → IsNotOn script plans log bricks call later dir name set
    not_on_later dir name set is = record { items = is.items; shows = shows_later set dir is.items is.shows; link = is.link }

    pub nowhere_later : (dir : Gfid) (name : List ℕ) → IsNowhere script plans log bricks call number dir name → IsNowhere script plans log bricks call later dir name
    nowhere_later dir name is = record { plan = is.plan; plan_is = is.plan_is; none = λ set lt. not_on_later dir name set (is.none set lt) }
