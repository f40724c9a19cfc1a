-- After births that are as the first ones, each cell is born as they say; and what was born stays.
use Rattle.std.proofs.Common.{◌≡◌, ◌∙◌, ℕ, Bool, true, false, refl, sym, ap, subst, Option, Some, None}
use Rattle.std.specs.Prelude.{if◌then◌else◌, List, [], ◌∷◌}
use Rattle.std.specs.Ordering.{is_eq}
use Rattle.fop_types.specs.Cells.{data_cell, meta_cell, names_cell}
use Rattle.fop_types.specs.Orders.{cell_cmp}
use Rattle.fop_types.specs.StoreOps.{Contents, born, births, with_content, born_if_absent, after_births}
use Rattle.fop_types.specs.declared.cells.Aspect.TheVariants as aspect
use Rattle.fop_types.specs.declared.cells.Cell.{Cell}
use Rattle.fop_types.specs.declared.cells.Gfid.{Gfid}
use Rattle.fop_types.specs.declared.cells.Kind.{Kind}
use Rattle.fop_types.specs.declared.cells.Kind.TheVariants.{File, Dir, Link}
use Rattle.fop_types.specs.declared.contents.Content.{Content}
use Rattle.fop_types.specs.declared.contents.Span.{Span}
use Rattle.fop_types.specs.declared.store_ops.StoreOp.{StoreOp}
use Rattle.fop_types.specs.declared.store_ops.StoreOp.TheVariants as op
use Rattle.std.proofs.lemmas.Cmp.{tied_itself}
use Rattle.fop_types.proofs.MapLemmas.{cell_cmp_total, cell_exact, apart}
use Rattle.afr_machine.specs.Touching.{is_cell}
use Rattle.afr_machine.specs.Births.{IsAsFirst, AreAsFirst}
use Rattle.afr_laws.specs.OneBirth.{AreBorn}
use Rattle.afr_laws.proofs.Sharing.{cells_are}

-- ---- one birth

born_stays : (new content : Content) (old : Option Content) → old ≡ Some content → born_if_absent new old ≡ Some content
born_stays new content (Some there) is = is
born_stays new content None is = absurd cc

born_now : (new : Content) (old : Option Content) → IsAsFirst old new → born_if_absent new old ≡ Some new
born_now new None first = refl
born_now new (Some there) first = ap Some (sym first)

module _ (contents : Contents) (at : Cell) (new : Content) where
  abbrev next : Contents
  next = with_content contents at (born_if_absent new (contents at))

  one_stays : (cell : Cell) (content : Content) → contents cell ≡ Some content → next cell ≡ Some content
  one_stays cell content is = by_case (is_cell cell at) refl where
    by_case : (b : Bool) → is_cell cell at ≡ b → (if b then born_if_absent new (contents at) else contents cell) ≡ Some content
    by_case true e = born_stays new content (contents at) (sym (ap contents (cells_are cell at e)) ∙ is)
    by_case false e = is

  one_born : (cell : Cell) → is_cell cell at ≡ true → IsAsFirst (contents at) new → next cell ≡ Some new
  one_born cell e first = ap (λ b. if b then born_if_absent new (contents at) else contents cell) e ∙ born_now new (contents at) first

pub births_stay : (bs : List (Cell × Content)) (contents : Contents) (cell : Cell) (content : Content) → contents cell ≡ Some content → after_births contents bs cell ≡ Some content
births_stay [] contents cell content is = is
births_stay (b ∷ bs) contents cell content is = births_stay bs (with_content contents b.0 (born_if_absent b.1 (contents b.0))) cell content (one_stays contents b.0 b.1 cell content is)

-- ---- the births of one op

is_itself : (cell : Cell) → is_cell cell cell ≡ true
is_itself cell = ap is_eq (tied_itself cell_cmp_total cell)

-- two births of different cells
pair_born : (contents : Contents) (a b : Cell) (x y : Content) → (a ≡ b → ⊥) → IsAsFirst (contents a) x → IsAsFirst (contents b) y → AreBorn (after_births contents ((a, x) ∷ (b, y) ∷ [])) ((a, x) ∷ (b, y) ∷ [])
pair_born contents a b x y differ first second =
    let middle = with_content contents a (born_if_absent x (contents a)) in
    let still : middle b ≡ contents b = ap (λ t. if t then born_if_absent x (contents a) else contents b) (apart cell_cmp cell_exact b a (λ e. differ (sym e))) in
    (one_stays middle b y a x (one_born contents a x a (is_itself a) first), (one_born middle b y b (is_itself b) (subst (λ o. IsAsFirst o y) (sym still) second), tt))

born_of : (contents : Contents) (kind : Kind) (gfid : Gfid) (mode : ℕ) (span : Option Span) → AreAsFirst contents (born kind gfid mode span) → AreBorn (after_births contents (born kind gfid mode span)) (born kind gfid mode span)
born_of contents File gfid mode span f = pair_born contents (data_cell gfid) (meta_cell gfid) _ _ (λ e. absurd (let no : aspect.Data ≡ aspect.Meta = ap (λ (c : Cell). c.aspect) e in cc)) f.0 f.1.0
born_of contents Dir gfid mode span f = pair_born contents (meta_cell gfid) (names_cell gfid) _ _ (λ e. absurd (let no : aspect.Meta ≡ aspect.Entry = ap (λ (c : Cell). c.aspect) e in cc)) f.0 f.1.0
born_of contents Link gfid mode span f = tt

pub births_born : (contents : Contents) (o : StoreOp) → AreAsFirst contents (births o) → AreBorn (after_births contents (births o)) (births o)
births_born contents (op.AddName parent item mode span) f = born_of contents item.kind item.gfid mode span f
births_born contents (op.MakeCopy gfid span) f = born_of contents Dir gfid 0 span f
births_born contents other f = tt

pub born_more : (old new : Contents) → ((cell : Cell) (content : Content) → old cell ≡ Some content → new cell ≡ Some content) → (bs : List (Cell × Content)) → AreBorn old bs → AreBorn new bs
born_more old new more [] a = tt
born_more old new more (b ∷ bs) a = (more b.0 b.1 a.0, born_more old new more bs a.1)
