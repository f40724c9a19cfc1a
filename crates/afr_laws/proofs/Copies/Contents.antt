-- An op that fits finds the cells that it needs, and takes no content away.
use Rattle.std.proofs.Common.{◌≡◌, ◌∙◌, Bool, true, false, refl, ap, ◌⊎◌, inl, inr, Option, Some, None, is_some}
use Rattle.std.specs.Prelude.{if◌then◌else◌, List, [], ◌∷◌, not}
use Rattle.std.specs.Ordering.{is_eq}
use Rattle.fop_types.specs.Orders.{cell_cmp}
use Rattle.fop_types.specs.StoreOps.{Contents, Edit, needs, births, fits, holds, are_present, is_unfit, edits, edited_if_present, born_if_absent, edited_on, born_on, content_after}
use Rattle.fop_types.specs.declared.cells.Aspect.{Aspect}
use Rattle.fop_types.specs.declared.cells.Aspect.TheVariants as aspect
use Rattle.fop_types.specs.declared.cells.Cell.{Cell}
use Rattle.fop_types.specs.declared.contents.Content.{Content}
use Rattle.fop_types.specs.declared.store_ops.StoreOp.{StoreOp}
use Rattle.afr_machine.specs.Touching.{is_cell, has_cell}
use Rattle.afr_laws.proofs.Bools.{both_left, either_way}
use Rattle.afr_laws.proofs.Sharing.{cells_are}

holds_some : (aspect : Aspect) (content : Option Content) → holds aspect content ≡ true → is_some content ≡ true
holds_some a (Some content) h = refl
holds_some aspect.Data None h = absurd cc
holds_some aspect.Meta None h = absurd cc
holds_some aspect.Entry None h = absurd cc

present_each : (contents : Contents) (cells : List Cell) (cell : Cell) → are_present contents cells ≡ true → has_cell cells cell ≡ true → is_some (contents cell) ≡ true
present_each contents [] cell p h = absurd cc
present_each contents (c ∷ cs) cell p h = by_case (present_each contents cs cell) (holds c.aspect (contents c)) refl p where
  here : (are_present contents cs ≡ true → has_cell cs cell ≡ true → is_some (contents cell) ≡ true) → holds c.aspect (contents c) ≡ true → are_present contents cs ≡ true → (is_cell cell c ≡ true) ⊎ (has_cell cs cell ≡ true) → is_some (contents cell) ≡ true
  here more e rest (inl same) = ap (λ x. is_some (contents x)) (cells_are cell c same) ∙ holds_some c.aspect (contents c) e
  here more e rest (inr other) = more rest other

  by_case : (are_present contents cs ≡ true → has_cell cs cell ≡ true → is_some (contents cell) ≡ true) → (b : Bool) → holds c.aspect (contents c) ≡ b → (if b then are_present contents cs else false) ≡ true → is_some (contents cell) ≡ true
  by_case more true e rest = here more e rest (either_way (is_cell cell c) (has_cell cs cell) h)
  by_case more false e rest = absurd cc

pub needed_present : (contents : Contents) (op : StoreOp) (cell : Cell) → fits contents op ≡ true → has_cell (needs op) cell ≡ true → is_some (contents cell) ≡ true
needed_present contents op cell f h = present_each contents (needs op) cell (both_left (are_present contents (needs op)) (not (is_unfit contents op)) f) h

edited_some : (edit : Edit) (content : Option Content) → is_some content ≡ true → is_some (edited_if_present edit content) ≡ true
edited_some edit (Some content) h = refl
edited_some edit None h = absurd cc

edits_some : (cell : Cell) (es : List (Cell × Edit)) (content : Option Content) → is_some content ≡ true → is_some (edited_on cell content es) ≡ true
edits_some cell [] content h = h
edits_some cell (e ∷ es) content h = edits_some cell es (if is_eq (cell_cmp cell e.0) then edited_if_present e.1 content else content) (by_case (is_eq (cell_cmp cell e.0))) where
  by_case : (b : Bool) → is_some (if b then edited_if_present e.1 content else content) ≡ true
  by_case true = edited_some e.1 content h
  by_case false = h

born_some : (new : Content) (content : Option Content) → is_some (born_if_absent new content) ≡ true
born_some new (Some content) = refl
born_some new None = refl

births_some : (cell : Cell) (bs : List (Cell × Content)) (content : Option Content) → is_some content ≡ true → is_some (born_on cell content bs) ≡ true
births_some cell [] content h = h
births_some cell (b ∷ bs) content h = births_some cell bs (if is_eq (cell_cmp cell b.0) then born_if_absent b.1 content else content) (by_case (is_eq (cell_cmp cell b.0))) where
  by_case : (c : Bool) → is_some (if c then born_if_absent b.1 content else content) ≡ true
  by_case true = born_some b.1 content
  by_case false = h

pub content_stays : (contents : Contents) (op : StoreOp) (cell : Cell) → is_some (contents cell) ≡ true → is_some (content_after contents op cell) ≡ true
content_stays contents op cell h = births_some cell (births op) (edited_on cell (contents cell) (edits contents op)) (edits_some cell (edits contents op) (contents cell) h)
