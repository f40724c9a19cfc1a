-- Lists of names: those of all sets, and what is shown of them.
use Rattle.std.proofs.Common.{◌≡◌, refl, sym, ap, subst, ◌∙◌, arith, get_or}
use Rattle.std.specs.Prelude.{ℕ, zero, suc, ◌+◌, ◌-◌, ◌<◌, ◌≤◌, nat_lt, Bool, true, false, List, [], ◌∷◌, ◌++◌, Option, Some, length, take, slice_get, IfSome}
use Rattle.std.specs.List.{AllByRecursion}
use Rattle.std.specs.declared.cmp.Ordering.TheVariants.{Less}
use Rattle.std.proofs.lemmas.Bool.{ltb-true, ltb-false}
use Rattle.std.proofs.lemmas.List.{length_push}
use Rattle.std.proofs.lemmas.Option.{slice_get_within, get_or_from_slice_get, slice_get-get_or}
use Rattle.fop_types.specs.Bounds.{item_cmp, Rises, RisesFrom}
use Rattle.fop_types.specs.Cells.{names_cell}
use Rattle.fop_types.specs.Names.{is_link}
use Rattle.fop_types.specs.declared.cells.Cell.{Cell}
use Rattle.fop_types.specs.declared.cells.Gfid.{Gfid}
use Rattle.fop_types.specs.declared.contents.Item.{Item}
use Rattle.graph_build.specs.declared.plans.Plan.{Plan}
use Rattle.script_lang.specs.declared.scripts.Script.{Script}
use Rattle.brick_machine.specs.Journal.{Journal}
use Rattle.mount_log.specs.Causes.{plan_of_volfile}
use Rattle.mount_log.specs.Connections.{graph_of_call}
use Rattle.mount_log.specs.declared.logs.Log.{Log}
use Rattle.mount_log.proofs.Lists.{each_push}
use Rattle.change_audit.proofs.Items.{all_next}
use Rattle.change_audit.specs.CallGraphs.{AreGraphsOf}
use Rattle.change_audit.specs.declared.call_graphs.CallGraphs.{CallGraphs}
use Rattle.read_audit.specs.Names.{ShowsNames, IsAmong, IsOnASet, AreShown, ListsAll, IsLacking}
use Rattle.read_audit.specs.Names.ShowsNames.{NoCopy}
use Rattle.read_audit.specs.Naming.{HaveFirst}

-- ---- names that rise

-- each item is below the next one
abbrev AreBelow : List Item → Type 0
AreBelow items = (k : ℕ) (item next : Item) → slice_get items k ≡ Some item → slice_get items (k + 1) ≡ Some next → item_cmp item next ≡ Less

rises_from : (e : Item) (items : List Item) → AreBelow (e ∷ items) → RisesFrom item_cmp true (Some e) items
rises_from e [] below = tt
rises_from e (x ∷ xs) below = (below zero e x refl refl, rises_from x xs rest) where
  rest : AreBelow (x ∷ xs)
  rest k item next here there = let same : suc k + 1 ≡ suc (k + 1) = omega arith in below (suc k) item next here (ap (slice_get (e ∷ x ∷ xs)) same ∙ there)

rises : (items : List Item) → AreBelow items → Rises item_cmp true items
rises [] below = tt
rises (x ∷ xs) below = (tt, rises_from x xs below)

-- of the items before a place, each is below the next one
abbrev pub AreRisingTo : List Item → ℕ → Type 0
AreRisingTo items n = (k : ℕ) (item next : Item) → k + 1 < n → slice_get items k ≡ Some item → slice_get items (k + 1) ≡ Some next → item_cmp item next ≡ Less

pub rising_next : (items : List Item) (n : ℕ) (a b : Item) → 1 ≤ n → n < length items → a ≡ get_or items (n - 1) a → b ≡ get_or items n b → item_cmp a b ≡ Less → AreRisingTo items n → AreRisingTo items (n + 1)
rising_next items n a b from_one lt read_a read_b less before k item next within here there = by (nat_lt (k + 1) n) refl where
  by : (t : Bool) → nat_lt (k + 1) n ≡ t → item_cmp item next ≡ Less
  by true is = before k item next (ltb-true (k + 1) n is) here there
  by false is =
      let le = ltb-false (k + 1) n is in
      let at : n ≡ k + 1 = omega (arith, within, le) in
      let back : n - 1 ≡ k = omega (arith, at) in
      let first : a ≡ item = read_a ∙ ap (λ (m : ℕ). get_or items m a) back ∙ get_or_from_slice_get items k item a here in
      let second : b ≡ next = read_b ∙ ap (λ (m : ℕ). get_or items m b) at ∙ get_or_from_slice_get items (k + 1) next b there in
      subst (λ (x : Item). item_cmp item x ≡ Less) second (subst (λ (x : Item). item_cmp x b ≡ Less) first less)

pub rising_all : (items : List Item) (n : ℕ) → length items ≤ n → AreRisingTo items n → Rises item_cmp true items
rising_all items n le before = rises items (λ k item next here there. let lt = slice_get_within items (k + 1) next there in before k item next (omega (arith, lt, le)) here there)

-- ---- the lists of sets

module _ (script : Script) (plans : List Plan) (log : Log) (bricks : List Journal) (call number : ℕ) where
  pub have_none : (dir : Gfid) (lists : List (List Item)) → lists ≡ [] → HaveFirst script plans log bricks call number dir 0 lists
  have_none dir lists none = subst (λ (l : List (List Item)). HaveFirst script plans log bricks call number dir 0 l) (sym none) (record { long = refl; have = λ set items there. absurd cc })

  pub have_next : (dir : Gfid) (set : ℕ) (lists more : List (List Item)) (items : List Item) (found : Option (List Item)) → more ≡ lists ++ items ∷ [] → found ≡ Some items
      → IfSome found (λ names. ShowsNames script plans log bricks call number set dir names) → HaveFirst script plans log bricks call number dir set lists → HaveFirst script plans log bricks call number dir (set + 1) more
  have_next dir set lists more items found is there has so_far = record {
    long = ap length is ∙ length_push lists items ∙ ap (λ (n : ℕ). n + 1) so_far.long;
    have =
        subst (λ (l : List (List Item)). (s : ℕ) (i : List Item) → slice_get l s ≡ Some i → ShowsNames script plans log bricks call number s dir i) (sym is)
        (each_push (λ (s : ℕ) (i : List Item). ShowsNames script plans log bricks call number s dir i) lists items own so_far.have);
  } where
    own : ShowsNames script plans log bricks call number (length lists) dir items
    own =
        subst (λ (s : ℕ). ShowsNames script plans log bricks call number s dir items) (sym so_far.long)
        (subst (λ (f : Option (List Item)). IfSome f (λ names. ShowsNames script plans log bricks call number set dir names)) there has)

  pub have_all : (dir : Gfid) (set sets : ℕ) (lists all : List (List Item)) → set ≡ sets → all ≡ lists → HaveFirst script plans log bricks call number dir set lists → HaveFirst script plans log bricks call number dir sets all
  have_all dir set sets lists all at is have =
      subst (λ (l : List (List Item)). HaveFirst script plans log bricks call number dir sets l) (sym is)
      (subst (λ (n : ℕ). HaveFirst script plans log bricks call number dir n lists) at have)

  pub none_are : (set : ℕ) (dir : Gfid) (cell : Cell) (items : List Item) → cell ≡ names_cell dir → items ≡ [] → IsLacking script plans log bricks call number set cell → ShowsNames script plans log bricks call number set dir items
  none_are set dir cell items same none lacking = NoCopy none (subst (λ (c : Cell). IsLacking script plans log bricks call number set c) same lacking)

module _ (script : Script) (log : Log) (tables : CallGraphs) (are : AreGraphsOf script log tables) where
  -- the plan of the graph of a call, by its volfile in the table
  pub listed : (plans : List Plan) (bricks : List Journal) (call graph number : ℕ) (dir : Gfid) (plan : Plan) (sets : ℕ) (lists slice : List (List Item)) (shown : List Item) → graph ≡ graph_of_call log call
      → plan_of_volfile plans (slice_get tables.volfiles (graph - 1)) ≡ Some plan → sets ≡ length plan.sets → HaveFirst script plans log bricks call number dir sets lists → slice ≡ lists → AllByRecursion (AreShown shown) slice → AllByRecursion (IsOnASet slice) shown → Rises item_cmp true shown → ListsAll script plans log bricks call number dir shown
  listed plans bricks call graph number dir plan sets lists slice shown same is many have read all only rising = record {
    plan = plan;
    plan_is =
        ap (λ (vs : List ℕ). plan_of_volfile plans (slice_get vs (graph_of_call log call - 1))) (sym are.volfiles)
        ∙ ap (λ (n : ℕ). plan_of_volfile plans (slice_get tables.volfiles (n - 1))) (sym same) ∙ is;
    lists = lists;
    many = have.long ∙ many;
    have = have.have;
    all = subst (AllByRecursion (AreShown shown)) read all;
    only = subst (λ (l : List (List Item)). AllByRecursion (IsOnASet l) shown) read only;
    rising = rising;
  }

-- ---- one name

pub on_a_set : (lists : List (List Item)) (set : ℕ) (items slice : List Item) (shown : Item) → set < length lists → is_link shown.kind ≡ false → items ≡ get_or lists set items → slice ≡ items → IsAmong slice shown → IsOnASet lists shown
on_a_set lists set items slice shown lt real read same among = record {
  real = real;
  set = set;
  items = items;
  there = slice_get-get_or lists set items lt ∙ ap Some (sym read);
  among = subst (λ (l : List Item). IsAmong l shown) same among;
}

-- ---- all items

pub all_read : {X : Type 0} (P : X → Type 0) (xs : List X) (i : ℕ) (x : X) → i < length xs → x ≡ get_or xs i x → P x → AllByRecursion P (take i xs) → AllByRecursion P (take (i + 1) xs)
all_read P xs i x lt read p all = all_next P xs i x lt (subst P read p) all
