-- What an op makes of a cell depends on the cells that it needs alone; and it leaves all others but for births.
use Rattle.std.proofs.Common.{◌≡◌, ◌∙◌, ℕ, Bool, true, false, refl, sym, ap, subst, Option, Some, None}
use Rattle.std.specs.Prelude.{List, [], ◌∷◌, ◌&&◌, ◌||◌, not, is_none, is_some, if◌then◌else◌}
use Rattle.std.specs.Ordering.{is_eq, match_ordering}
use Rattle.std.specs.declared.cmp.Ordering.{Ordering}
use Rattle.std.specs.declared.cmp.Ordering.TheVariants.{Less, Equal, Greater}
use Rattle.std.proofs.lemmas.Cmp.{tied_itself}
use Rattle.fop_types.proofs.MapLemmas.{gfid_exact, cell_cmp_total}
use Rattle.fop_types.specs.Cells.{data_cell, meta_cell, names_cell}
use Rattle.fop_types.specs.Names.{has_real_name, attr_named, item_named, is_same_name}
use Rattle.fop_types.specs.Orders.{gfid_cmp}
use Rattle.fop_types.specs.StoreOps.{Contents, Edit, needs, births, both_names, edits, moved_in, item_in, items_of, attrs_of, is_removed, is_taken, is_that_directory, is_directory_item, is_unfit, holds, are_present, fits, with_content, edited_if_present, after_edits, born_if_absent, after_births, contents_after, edited_on, born_on, content_after}
use Rattle.fop_types.specs.StoreOps.Edit.{DropItem}
use Rattle.fop_types.specs.declared.cells.Cell.{Cell}
use Rattle.fop_types.specs.declared.cells.Gfid.{Gfid}
use Rattle.fop_types.specs.declared.contents.Content.{Content}
use Rattle.fop_types.specs.declared.contents.Item.{Item}
use Rattle.fop_types.specs.declared.store_ops.StoreOp.{StoreOp}
use Rattle.fop_types.specs.declared.store_ops.StoreOp.TheVariants.{Write, Truncate, SetMode, SetAttr, DelAttr, AddName, DropName, DropDir, Move, MakeCopy}
use Rattle.afr_machine.specs.Touching.{is_cell, has_cell}
use Rattle.afr_laws.specs.OneBirth.{AreBorn}
use Rattle.afr_laws.proofs.Bools.{apart_bools, or_left, or_last}
use Rattle.afr_laws.proofs.Sharing.{cells_are}
use Rattle.afr_contents.specs.Adopted.{first_of}

is_itself : (cell : Cell) → is_cell cell cell ≡ true
is_itself cell = ap is_eq (tied_itself cell_cmp_total cell)

-- a content that is there
pub some_of : {P : Type 0} → (x : Option Content) → is_some x ≡ true → ((content : Content) → x ≡ Some content → P) → P
some_of (Some content) h f = f content refl
some_of None h f = absurd (let e : false ≡ true = h in cc)

pub first_is : (x y : Option Content) → is_some x ≡ true → first_of x y ≡ x
first_is (Some content) y h = refl
first_is None y h = absurd (let e : false ≡ true = h in cc)

-- ---- the cells of an op

pub first_has : (cell : Cell) (cells : List Cell) → has_cell (cell ∷ cells) cell ≡ true
first_has cell cells = or_left (is_cell cell cell) (has_cell cells cell) (is_itself cell)

both_first : (a b : Gfid) → has_cell (both_names a b) (names_cell a) ≡ true
both_first a b = by_order (gfid_cmp a b) where
  by_order : (o : Ordering) → has_cell (match_ordering o (names_cell a ∷ names_cell b ∷ []) (names_cell a ∷ []) (names_cell b ∷ names_cell a ∷ [])) (names_cell a) ≡ true
  by_order Less = first_has (names_cell a) (names_cell b ∷ [])
  by_order Equal = first_has (names_cell a) []
  by_order Greater = or_last (is_cell (names_cell a) (names_cell b)) (has_cell (names_cell a ∷ []) (names_cell a)) (first_has (names_cell a) [])

both_second : (a b : Gfid) → has_cell (both_names a b) (names_cell b) ≡ true
both_second a b = by_order (gfid_cmp a b) refl where
  by_order : (o : Ordering) → gfid_cmp a b ≡ o → has_cell (match_ordering o (names_cell a ∷ names_cell b ∷ []) (names_cell a ∷ []) (names_cell b ∷ names_cell a ∷ [])) (names_cell b) ≡ true
  by_order Less e = or_last (is_cell (names_cell b) (names_cell a)) (has_cell (names_cell b ∷ []) (names_cell b)) (first_has (names_cell b) [])
  by_order Equal e = subst (λ (g : Gfid). has_cell (names_cell g ∷ []) (names_cell b) ≡ true) (sym (gfid_exact a b e)) (first_has (names_cell b) [])
  by_order Greater e = first_has (names_cell b) (names_cell a ∷ [])

-- ---- two contents that agree on these

module _ (a b : Contents) (op : StoreOp) (same : (cell : Cell) → has_cell (needs op) cell ≡ true → a cell ≡ b cell) where
  present_same : (cells : List Cell) → ((cell : Cell) → has_cell cells cell ≡ true → a cell ≡ b cell) → are_present a cells ≡ are_present b cells
  present_same [] h = refl
  present_same (c ∷ cs) h =
      ap (λ x. if holds c.aspect x then are_present a cs else false) (h c (first_has c cs))
      ∙ ap (λ x. if holds c.aspect (b c) then x else false) (present_same cs (λ cell has. h cell (or_last (is_cell cell c) (has_cell cs cell) has)))

item_same : (a b : Contents) (parent : Gfid) (name : List ℕ) → a (names_cell parent) ≡ b (names_cell parent) → item_in a parent name ≡ item_in b parent name
item_same a b parent name h = ap (λ x. item_named (items_of x) name) h

edits_same : (a b : Contents) (op : StoreOp) → ((cell : Cell) → has_cell (needs op) cell ≡ true → a cell ≡ b cell) → edits a op ≡ edits b op
edits_same a b (Move parent name target new_name) same =
    ap (λ (i : Option Item). (names_cell parent, DropItem name) ∷ moved_in i target new_name) (item_same a b parent name (same (names_cell parent) (both_first parent target)))
edits_same a b other same = refl

unfit_same : (a b : Contents) (op : StoreOp) → ((cell : Cell) → has_cell (needs op) cell ≡ true → a cell ≡ b cell) → is_unfit a op ≡ is_unfit b op
unfit_same a b (DelAttr gfid name) same = ap (λ x. is_none (attr_named (attrs_of x) name)) (same (meta_cell gfid) (first_has (meta_cell gfid) []))
unfit_same a b (AddName parent item mode span) same = ap (λ x. is_removed x || is_taken (item_named (items_of x) item.name)) (same (names_cell parent) (first_has (names_cell parent) []))
unfit_same a b (DropName parent name) same = ap (λ x. is_none (item_named (items_of x) name)) (same (names_cell parent) (first_has (names_cell parent) []))
unfit_same a b (DropDir parent name gfid) same =
    ap (λ x. not (is_that_directory (item_named (items_of x) name) gfid) || has_real_name (items_of (a (names_cell gfid)))) (same (names_cell parent) (both_first parent gfid))
    ∙ ap (λ x. not (is_that_directory (item_in b parent name) gfid) || has_real_name (items_of x)) (same (names_cell gfid) (both_second parent gfid))
unfit_same a b (Move parent name target new_name) same =
    ap (λ x. (is_none (item_named (items_of x) name) || is_removed (a (names_cell target))) || (is_directory_item (item_in a target new_name) || is_same_name parent name target new_name)) (same (names_cell parent) (both_first parent target))
    ∙ ap (λ x. (is_none (item_in b parent name) || is_removed x) || (is_directory_item (item_named (items_of x) new_name) || is_same_name parent name target new_name)) (same (names_cell target) (both_second parent target))
unfit_same a b other same = refl

pub fits_same : (a b : Contents) (op : StoreOp) → ((cell : Cell) → has_cell (needs op) cell ≡ true → a cell ≡ b cell) → fits a op ≡ fits b op
fits_same a b op same = ap (λ x. x && not (is_unfit a op)) (present_same a b op same (needs op) same) ∙ ap (λ x. are_present b (needs op) && not x) (unfit_same a b op same)

pub content_same : (a b : Contents) (op : StoreOp) → ((cell : Cell) → has_cell (needs op) cell ≡ true → a cell ≡ b cell) → (cell : Cell) → a cell ≡ b cell → content_after a op cell ≡ content_after b op cell
content_same a b op same cell is = ap (λ x. born_on cell (edited_on cell x (edits a op)) (births op)) is ∙ ap (λ es. born_on cell (edited_on cell (b cell) es) (births op)) (edits_same a b op same)

-- ---- the contents of all cells, cell by cell

after_edits_on : (es : List (Cell × Edit)) (a : Contents) (cell : Cell) → after_edits a es cell ≡ edited_on cell (a cell) es
after_edits_on [] a cell = refl
after_edits_on (e ∷ es) a cell = after_edits_on es (with_content a e.0 (edited_if_present e.1 (a e.0))) cell ∙ by_case (is_cell cell e.0) refl where
  by_case : (b : Bool) → is_cell cell e.0 ≡ b → edited_on cell (if b then edited_if_present e.1 (a e.0) else a cell) es ≡ edited_on cell (if b then edited_if_present e.1 (a cell) else a cell) es
  by_case true is = ap (λ c. edited_on cell (edited_if_present e.1 (a c)) es) (sym (cells_are cell e.0 is))
  by_case false is = refl

pub after_births_on : (bs : List (Cell × Content)) (a : Contents) (cell : Cell) → after_births a bs cell ≡ born_on cell (a cell) bs
after_births_on [] a cell = refl
after_births_on (b ∷ bs) a cell = after_births_on bs (with_content a b.0 (born_if_absent b.1 (a b.0))) cell ∙ by_case (is_cell cell b.0) refl where
  by_case : (c : Bool) → is_cell cell b.0 ≡ c → born_on cell (if c then born_if_absent b.1 (a b.0) else a cell) bs ≡ born_on cell (if c then born_if_absent b.1 (a cell) else a cell) bs
  by_case true is = ap (λ x. born_on cell (born_if_absent b.1 (a x)) bs) (sym (cells_are cell b.0 is))
  by_case false is = refl

pub contents_on : (a : Contents) (op : StoreOp) (cell : Cell) → contents_after a op cell ≡ content_after a op cell
contents_on a op cell = after_births_on (births op) (after_edits a (edits a op)) cell ∙ ap (λ x. born_on cell x (births op)) (after_edits_on (edits a op) a cell)

-- ---- a cell that the op does not need

abbrev AreOf : List Cell → List (Cell × Edit) → Type 0
AreOf cells [] = Unit {0}
AreOf cells (e ∷ es) = (has_cell cells e.0 ≡ true) × AreOf cells es

edits_are_of : (a : Contents) (op : StoreOp) → AreOf (needs op) (edits a op)
edits_are_of a (Write gfid offset bytes) = (first_has (data_cell gfid) [], tt)
edits_are_of a (Truncate gfid size) = (first_has (data_cell gfid) [], tt)
edits_are_of a (SetMode gfid mode) = (first_has (meta_cell gfid) [], tt)
edits_are_of a (SetAttr gfid attr) = (first_has (meta_cell gfid) [], tt)
edits_are_of a (DelAttr gfid name) = (first_has (meta_cell gfid) [], tt)
edits_are_of a (AddName parent item mode span) = (first_has (names_cell parent) [], tt)
edits_are_of a (DropName parent name) = (first_has (names_cell parent) [], tt)
edits_are_of a (DropDir parent name gfid) = (both_first parent gfid, (both_second parent gfid, tt))
edits_are_of a (Move parent name target new_name) = (both_first parent target, moved (item_in a parent name)) where
  moved : (item : Option Item) → AreOf (both_names parent target) (moved_in item target new_name)
  moved None = tt
  moved (Some item) = (both_second parent target, tt)
edits_are_of a (MakeCopy gfid span) = tt

edits_leave : (cells : List Cell) (cell : Cell) → has_cell cells cell ≡ false → (es : List (Cell × Edit)) (content : Option Content) → AreOf cells es → edited_on cell content es ≡ content
edits_leave cells cell none [] content of = refl
edits_leave cells cell none (e ∷ es) content of = by_case (edits_leave cells cell none es content of.1) (is_cell cell e.0) refl where
  by_case : edited_on cell content es ≡ content → (b : Bool) → is_cell cell e.0 ≡ b → edited_on cell (if b then edited_if_present e.1 content else content) es ≡ content
  by_case rest true is = apart_bools of.0 (subst (λ c. has_cell cells c ≡ false) (cells_are cell e.0 is) none)
  by_case rest false is = rest

pub left_alone : (a : Contents) (op : StoreOp) (cell : Cell) → has_cell (needs op) cell ≡ false → content_after a op cell ≡ born_on cell (a cell) (births op)
left_alone a op cell none = ap (λ x. born_on cell x (births op)) (edits_leave (needs op) cell none (edits a op) (a cell) (edits_are_of a op))

-- ---- births

pub unborn : (cell : Cell) (bs : List (Cell × Content)) (content : Content) → born_on cell (Some content) bs ≡ Some content
unborn cell [] content = refl
unborn cell (b ∷ bs) content = by_case (unborn cell bs content) (is_cell cell b.0) where
  by_case : born_on cell (Some content) bs ≡ Some content → (c : Bool) → born_on cell (if c then born_if_absent b.1 (Some content) else Some content) bs ≡ Some content
  by_case rest true = rest
  by_case rest false = rest

from_none : (born : Contents) (cell : Cell) (bs : List (Cell × Content)) → AreBorn born bs → first_of (born_on cell None bs) (born cell) ≡ born cell
from_none born cell [] h = refl
from_none born cell (b ∷ bs) h = by_case (from_none born cell bs h.1) (is_cell cell b.0) refl where
  by_case : first_of (born_on cell None bs) (born cell) ≡ born cell → (c : Bool) → is_cell cell b.0 ≡ c → first_of (born_on cell (if c then Some b.1 else None) bs) (born cell) ≡ born cell
  by_case rest true is = ap (λ x. first_of x (born cell)) (unborn cell bs b.1) ∙ sym (ap born (cells_are cell b.0 is) ∙ h.0)
  by_case rest false is = rest

-- births that are as the cells were born leave what is adopted or born
pub born_settled : (born : Contents) (cell : Cell) (bs : List (Cell × Content)) (content : Option Content) → AreBorn born bs → first_of (born_on cell content bs) (born cell) ≡ first_of content (born cell)
born_settled born cell bs (Some content) h = ap (λ x. first_of x (born cell)) (unborn cell bs content)
born_settled born cell bs None h = from_none born cell bs h
