-- The contents of all sets after the content of one cell on one set is another.
use Rattle.std.proofs.Common.{◌≡◌, ◌≢◌, ◌⊎◌, inl, inr, ◌∙◌, ℕ, ◌==◌, Bool, true, false, Option, if◌then◌else◌, refl, ap, sym, subst}
use Rattle.std.proofs.Math.Path.{fun_ext}
use Rattle.std.proofs.lemmas.Bool.{eqb-true, eqb-false}
use Rattle.std.proofs.lemmas.Cmp.{tied_itself}
use Rattle.std.specs.Ordering.{is_eq}
use Rattle.dht_fops.specs.Shown.{SetContents}
use Rattle.dht_fops.specs.Standing.{Volumes}
use Rattle.fop_types.proofs.MapLemmas.{cell_cmp_total, cell_exact, apart}
use Rattle.fop_types.specs.Cells.{data_cell, meta_cell, names_cell}
use Rattle.fop_types.specs.Files.{Files, object_at}
use Rattle.fop_types.specs.Orders.{cell_cmp}
use Rattle.fop_types.specs.StoreOps.{Contents, with_content}
use Rattle.fop_types.specs.declared.cells.Aspect.{Aspect}
use Rattle.fop_types.specs.declared.cells.Aspect.TheVariants as aspect
use Rattle.fop_types.specs.declared.cells.Cell.{Cell}
use Rattle.fop_types.specs.declared.cells.Gfid.{Gfid}
use Rattle.fop_types.specs.declared.contents.Content.{Content}
use Rattle.mount_files.proofs.Local.{Column, column, ShownOf, AllShown, gfid_is, shown_with}
use Rattle.afr_machine.specs.Replicas.{with_at}

-- ---- one set

pub content_off : (contents : Contents) (cell other : Cell) (x : Option Content) → other ≢ cell → with_content contents cell x other ≡ contents other
content_off contents cell other x d = ap (λ (b : Bool). if b then x else contents other) (apart cell_cmp cell_exact other cell d)

pub content_here : (contents : Contents) (cell : Cell) (x : Option Content) → with_content contents cell x cell ≡ x
content_here contents cell x = ap (λ (b : Bool). if b then x else contents cell) (ap is_eq (tied_itself cell_cmp_total cell))

-- ---- all sets

module _ {A : Type 0} where
  pub set_here : (table : ℕ → A) (set : ℕ) (x : A) → with_at table set x set ≡ x
  set_here table set x = by_case (set == set) refl
    where
      by_case : (b : Bool) → (set == set) ≡ b → (if b then x else table set) ≡ x
      by_case true e = refl
      by_case false e = absurd (eqb-false set set e refl)

  pub set_off : (table : ℕ → A) (set other : ℕ) (x : A) → other ≢ set → with_at table set x other ≡ table other
  set_off table set other x d = by_case (other == set) refl
    where
      by_case : (b : Bool) → (other == set) ≡ b → (if b then x else table other) ≡ table other
      by_case true e = absurd (d (eqb-true other set e))
      by_case false e = refl

pub number_is : (a b : ℕ) → (a ≡ b) ⊎ (a ≢ b)
number_is a b = by_case (a == b) refl
  where
    by_case : (x : Bool) → (a == b) ≡ x → (a ≡ b) ⊎ (a ≢ b)
    by_case true e = inl (eqb-true a b e)
    by_case false e = inr (eqb-false a b e)

-- a cell that a set's new contents leave as it was is left on all
pub column_off : (contents : SetContents) (set : ℕ) (new : Contents) (cell : Cell) → new cell ≡ contents set cell → column (with_at contents set new) cell ≡ column contents cell
column_off contents set new cell same = fun_ext (λ other. by_case other (number_is other set))
  where
    by_case : (other : ℕ) → (other ≡ set) ⊎ (other ≢ set) → with_at contents set new other cell ≡ contents other cell
    by_case other (inl e) = subst (λ (k : ℕ). with_at contents set new k cell ≡ contents k cell) (sym e) (ap (λ (c : Contents). c cell) (set_here contents set new) ∙ same)
    by_case other (inr d) = ap (λ (c : Contents). c cell) (set_off contents set other new d)

abbrev pub put_at : SetContents → ℕ → Cell → Option Content → SetContents
put_at contents set cell x = with_at contents set (with_content (contents set) cell x)

pub put_off : (contents : SetContents) (set : ℕ) (cell other : Cell) (x : Option Content) → other ≢ cell → column (put_at contents set cell x) other ≡ column contents other
put_off contents set cell other x d = column_off contents set (with_content (contents set) cell x) other (content_off (contents set) cell other x d)

pub put_here : (contents : SetContents) (set : ℕ) (cell : Cell) (x : Option Content) → put_at contents set cell x set cell ≡ x
put_here contents set cell x = ap (λ (c : Contents). c cell) (set_here contents set (with_content (contents set) cell x)) ∙ content_here (contents set) cell x

pub put_else : (contents : SetContents) (set : ℕ) (cell : Cell) (x : Option Content) (other : ℕ) → other ≢ set → put_at contents set cell x other cell ≡ contents other cell
put_else contents set cell x other d = ap (λ (c : Contents). c cell) (set_off contents set other (with_content (contents set) cell x) d)

-- ---- cells of different aspects

pub data_meta : (a b : Gfid) → data_cell a ≢ meta_cell b
data_meta a b e = let no : aspect.Data ≡ aspect.Meta = ap (λ (c : Cell). c.aspect) e in absurd cc

pub data_names : (a b : Gfid) → data_cell a ≢ names_cell b
data_names a b e = let no : aspect.Data ≡ aspect.Entry = ap (λ (c : Cell). c.aspect) e in absurd cc

pub meta_names : (a b : Gfid) → meta_cell a ≢ names_cell b
meta_names a b e = let no : aspect.Meta ≡ aspect.Entry = ap (λ (c : Cell). c.aspect) e in absurd cc

-- ---- a step on one cell

abbrev pub put_in : Volumes → ℕ → Cell → Option Content → Files → Volumes
put_in s set cell x files = record s { contents = put_at s.contents set cell x; files = files }

pub all_with : (s : Volumes) (count set : ℕ) (cell : Cell) (x : Option Content) (files : Files) → AllShown s count → ((q : Gfid) → q ≢ cell.gfid → object_at files q ≡ object_at s.files q)
    → ShownOf (put_in s set cell x files) count cell.gfid → AllShown (put_in s set cell x files) count
all_with s count set cell x files all same here q = by_case (gfid_is q cell.gfid)
  where
    by_case : (q ≡ cell.gfid) ⊎ (q ≢ cell.gfid) → ShownOf (put_in s set cell x files) count q
    by_case (inl e) = subst (λ (g : Gfid). ShownOf (put_in s set cell x files) count g) (sym e) here
    by_case (inr d) =
        shown_with s.kinds s.homes count (s.kinds q) (s.homes q) (column s.contents (data_cell q)) (column s.contents (meta_cell q)) (column s.contents (names_cell q)) _ _ _ (object_at s.files q) (object_at files q) (all q)
        (put_off s.contents set cell (data_cell q) x (λ e. d (ap (λ (c : Cell). c.gfid) e)))
        (put_off s.contents set cell (meta_cell q) x (λ e. d (ap (λ (c : Cell). c.gfid) e)))
        (put_off s.contents set cell (names_cell q) x (λ e. d (ap (λ (c : Cell). c.gfid) e)))
        (same q d)
