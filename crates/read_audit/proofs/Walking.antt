-- Steps, and the paths that they lead along.
use Rattle.std.proofs.Common.{◌≡◌, refl, sym, ap, subst, ◌∙◌, get_or}
use Rattle.std.specs.Prelude.{ℕ, ◌+◌, ◌<◌, ◌≤◌, false, List, ◌∷◌, Option, Some, length, drop, IfSome}
use Rattle.std.proofs.Math.ListN.{drop_of_length-le}
use Rattle.std.proofs.lemmas.List.{drop_more}
use Rattle.call_fops.specs.Walks.{root_object}
use Rattle.fop_types.specs.Cells.{names_cell}
use Rattle.fop_types.specs.declared.cells.Cell.{Cell}
use Rattle.fop_types.specs.declared.cells.Gfid.{Gfid}
use Rattle.fop_types.specs.declared.contents.Content.{Content as Held}
use Rattle.fop_types.specs.declared.contents.Content.TheVariants.{Names}
use Rattle.fop_types.specs.declared.contents.Item.{Item}
use Rattle.fop_types.specs.declared.fops.Object.{Object}
use Rattle.graph_build.specs.declared.plans.Plan.{Plan}
use Rattle.script_lang.specs.declared.scripts.Script.{Script}
use Rattle.brick_machine.specs.Journal.{Journal}
use Rattle.mount_log.specs.declared.logs.Log.{Log}
use Rattle.read_audit.proofs.Reading.{shown}
use Rattle.read_audit.specs.Names.{IsStep, LeadsTo, ShowsNames}
use Rattle.read_audit.specs.Names.ShowsNames.{Shown}
use Rattle.read_audit.specs.Naming.{HasObject}
use Rattle.read_audit.specs.Read.{IsFetched}

module _ (script : Script) (plans : List Plan) (log : Log) (bricks : List Journal) (call number : ℕ) where
  -- ---- contents

  pub step_is : (set : ℕ) (dir : Gfid) (cell : Cell) (content : Held) (name : List ℕ) (to : Object) → cell ≡ names_cell dir → IsFetched script plans log bricks call number set cell content → HasObject name set to content
      → IsStep script plans log bricks call number dir name to
  step_is set dir cell content name to same fetched has = record {
    set = set;
    items = has.items;
    fetched = shown script plans log bricks call number set cell (names_cell dir) content _ same has.is fetched;
    item = has.has.item;
    named = has.has.means.named;
    real = has.has.means.real;
    to_is = has.has.to_is;
  }

  pub names_are : (set : ℕ) (dir : Gfid) (cell : Cell) (content : Held) (items : List Item) → cell ≡ names_cell dir → IsFetched script plans log bricks call number set cell content → content ≡ Names false items
      → ShowsNames script plans log bricks call number set dir items
  names_are set dir cell content items same fetched is = Shown (shown script plans log bricks call number set cell (names_cell dir) content (Names false items) same is fetched)

  -- ---- paths

  -- what is left of a path leads on from an object to where the whole path leads
  abbrev pub LeadsOn : List (List ℕ) → ℕ → Object → Type 0
  LeadsOn path k from = (to : Object) → LeadsTo script plans log bricks call number (drop k path) from to → LeadsTo script plans log bricks call number path root_object to

  pub leads_next : (path : List (List ℕ)) (k : ℕ) (name : List ℕ) (from next : Object) (found : Option Object) → k < length path → name ≡ get_or path k name → found ≡ Some next
      → IfSome found (λ to. IsStep script plans log bricks call number from.gfid name to) → LeadsOn path k from → LeadsOn path (k + 1) next
  leads_next path k name from next found lt read is step on to rest =
      let own : IsStep script plans log bricks call number from.gfid name next = subst (λ (f : Option Object). IfSome f (λ x. IsStep script plans log bricks call number from.gfid name x)) is step in
      let left : drop k path ≡ name ∷ drop (k + 1) path = drop_more path k name lt ∙ ap (λ (n : List ℕ). n ∷ drop (k + 1) path) (sym read) in
      on to (subst (λ (l : List (List ℕ)). LeadsTo script plans log bricks call number l from to) (sym left) (record { object = next; step = own; rest = rest }))

  pub leads_end : (path : List (List ℕ)) (k : ℕ) (from : Object) → length path ≤ k → LeadsOn path k from → LeadsTo script plans log bricks call number path root_object from
  leads_end path k from le on = on from (subst (λ (l : List (List ℕ)). LeadsTo script plans log bricks call number l from from) (sym (drop_of_length-le path le)) refl)
