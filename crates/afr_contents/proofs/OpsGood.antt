-- An op that finds settled copies of the cells that it needs makes good copies.
use Rattle.std.proofs.Common.{◌≡◌, ◌∙◌, ℕ, Bool, true, false, refl, sym, ap, subst, Option, Some, None, inl, inr}
use Rattle.std.specs.Prelude.{[], ◌∷◌, is_some, if◌then◌else◌}
use Rattle.fop_types.specs.StoreOps.{needs, births, fits, born_on, content_after}
use Rattle.fop_types.specs.declared.cells.Cell.{Cell}
use Rattle.fop_types.specs.declared.contents.Content.{Content}
use Rattle.fop_types.specs.declared.store_ops.StoreOp.{StoreOp}
use Rattle.afr_machine.specs.Replicas.{Size}
use Rattle.afr_machine.specs.Touching.{has_cell}
use Rattle.afr_machine.specs.Copies.{Copy, Store, content_of, contents_of, changes_after, copy_with, op_of}
use Rattle.afr_machine.specs.Requests.Ask.{Op}
use Rattle.afr_machine.specs.Bricks.{stored_by}
use Rattle.afr_machine.specs.States.{State}
use Rattle.afr_machine.specs.Steps.{IsReached}
use Rattle.afr_laws.specs.Copies.{IsOpOf}
use Rattle.afr_laws.specs.OneBirth.{AreBorn}
use Rattle.afr_laws.proofs.Bools.{apart_bools}
use Rattle.afr_laws.proofs.Copies.Contents.{content_stays}
use Rattle.afr_laws.proofs.OwnChanges.Steps.{changes_are_own}
use Rattle.afr_contents.specs.Adopted.{first_of, settled}
use Rattle.afr_contents.specs.Good.{IsGood, IsSettledCopy}
use Rattle.afr_contents.specs.Coming.{FindsSettled}
use Rattle.afr_contents.specs.Good.IsGood.{Absent, Settled, Ahead}
use Rattle.afr_contents.proofs.Ops.{some_of, fits_same, content_same, left_alone, born_settled, unborn}
use Rattle.afr_contents.proofs.AsBorn.{adopted_as_born}

module _ (size : Size) (m : State) (r : IsReached size m) (store : Store) (u : ℕ) (op : StoreOp) (of_change : IsOpOf m.changes u op) (born_as : AreBorn m.born (births op)) where
  module _ (cell : Cell) where
    abbrev Served : Bool → Type 0
    Served altered = IsGood m cell (copy_with (changes_after altered u (store cell).copy) (content_after (contents_of store) op cell))

    -- a cell that it does not need
    kept : (copy : Option Copy) (content : Option Content) → content ≡ born_on cell (content_of copy) (births op) → IsGood m cell copy → IsGood m cell (copy_with (changes_after false u copy) content)
    kept (Some held) content is good = subst (λ x. IsGood m cell (copy_with held.changes x)) (sym (is ∙ unborn cell (births op) held.content)) good
    kept None None is good = good
    kept None (Some content) is (Absent e empty) = Settled (record { changes = []; content = content }) refl (sym empty) (by_case (m.adopted cell) refl) where
      born : m.born cell ≡ Some content
      born = sym (born_settled m.born cell (births op) None born_as) ∙ ap (λ x. first_of x (m.born cell)) (sym is)

      by_case : (x : Option Content) → m.adopted cell ≡ x → first_of (m.adopted cell) (m.born cell) ≡ Some content
      by_case None x_is = ap (λ x. first_of x (m.born cell)) x_is ∙ born
      by_case (Some there) x_is = ap (λ x. first_of x (m.born cell)) x_is ∙ sym (adopted_as_born size m r cell there empty x_is) ∙ born
    kept None (Some content) is (Settled held e changes there) = absurd (let no : None ≡ Some held = e in cc)
    kept None (Some content) is (Ahead held v e a) = absurd (let no : None ≡ Some held = e in cc)

    -- one that it needs, where it finds settled copies
    module _ (n : FindsSettled m store u op) (has : has_cell (needs op) cell ≡ true) where
      agrees : (d : Cell) → has_cell (needs op) d ≡ true → contents_of store d ≡ settled m d
      agrees d there = ap content_of (n d there).1.is ∙ sym (n d there).1.content

      op_is : op ≡ (m.changes u).op
      op_is = by_case of_change where
        by_case : IsOpOf m.changes u op → op ≡ (m.changes u).op
        by_case (inl birth) = apart_bools has (ap (λ cs. has_cell cs cell) birth.1)
        by_case (inr sent) = sent.1

      touched : has_cell (m.changes u).cells cell ≡ true
      touched = ap (λ cs. has_cell cs cell) ((changes_are_own size m r).fit.needs_are u ∙ ap needs (sym op_is)) ∙ has

      some_content : is_some (content_after (contents_of store) op cell) ≡ true
      some_content = content_stays (contents_of store) op cell (ap (λ c. is_some (content_of c)) (n cell has).1.is)

      altered : fits (contents_of store) op ≡ true → Served true
      altered fit = some_of (content_after (contents_of store) op cell) some_content ahead where
        f : IsSettledCopy m cell (store cell).copy
        f = (n cell has).1

        ahead : (content : Content) → content_after (contents_of store) op cell ≡ Some content → Served true
        ahead content is =
            Ahead (record { changes = u ∷ f.held.changes; content = content }) u
            (ap (λ c. copy_with (changes_after true u c) (content_after (contents_of store) op cell)) f.is ∙ ap (copy_with (u ∷ f.held.changes)) is)
            (record {
              unsettled = (n cell has).0;
              touches = touched;
              fitting = ap (fits (settled m)) (sym op_is) ∙ sym (fits_same (contents_of store) (settled m) op agrees) ∙ fit;
              changes = ap (λ l. u ∷ l) f.changes;
              content = ap (λ o. content_after (settled m) o cell) (sym op_is) ∙ sym (content_same (contents_of store) (settled m) op agrees cell (agrees cell has)) ∙ is;
            })

    abbrev After : Bool → Type 0
    After b = IsGood m cell (if b then op_of (contents_of store) u op cell (store cell) else store cell).copy

    pub op_leaves : has_cell (needs op) cell ≡ false → IsGood m cell (store cell).copy → IsGood m cell (stored_by (Op u op) store cell).copy
    op_leaves other good = by_fit (fits (contents_of store) op) where
      by_fit : (b : Bool) → After b
      by_fit false = good
      by_fit true = subst Served (sym other) (kept (store cell).copy (content_after (contents_of store) op cell) (left_alone (contents_of store) op cell other) good)

    pub op_makes : FindsSettled m store u op → has_cell (needs op) cell ≡ true → IsGood m cell (store cell).copy → IsGood m cell (stored_by (Op u op) store cell).copy
    op_makes n has good = by_fit (fits (contents_of store) op) refl where
      by_fit : (b : Bool) → fits (contents_of store) op ≡ b → After b
      by_fit false fit = good
      by_fit true fit = subst Served (sym has) (altered n has fit)
