use Rattle.std.proofs.Common.{◌≡◌, sym, subst}
use Rattle.std.specs.Prelude.{ℕ, ◌+◌, List, take}
use Rattle.std.specs.List.{AllZip}
use Rattle.fop_types.specs.declared.answers.SplitRow.{SplitRow}
use Rattle.error_audit.specs.Finding.{IsPlaceOf}
use Rattle.error_audit.specs.code.Searches.{of_brick, of_first}
use Rattle.error_audit.proofs.Searching.{places_next, places_same, places_all, places_none}
use Rattle.error_audit.proofs.split_clues.places_of.Goals as goal

pub loop-row-preserved-then-row-first : goal.loop-row-preserved-then-row-first
loop-row-preserved-then-row-first c =
    places_same (λ (row : SplitRow) (place : ℕ). IsPlaceOf c.args.cells.now row.cell place) c.in-Some.first.now.brick c.args.rows.now c.loop-row.row-index _ c.loop-row-test.true c.loop-row.places.items c.if-row-first.true
    c.loop-row.invariant

pub loop-row-preserved : goal.loop-row-preserved
loop-row-preserved c =
    subst (λ (l : List ℕ). AllZip (λ (row : SplitRow) (place : ℕ). IsPlaceOf c.args.cells.now row.cell place) (of_brick c.in-Some.first.now.brick (take (c.loop-row.row-index + 1) c.args.rows.now)) l) (sym c.in_ok-push.ensures.items)
    (places_next (λ (row : SplitRow) (place : ℕ). IsPlaceOf c.args.cells.now row.cell place) c.in-Some.first.now.brick c.args.rows.now c.loop-row.row-index _ c.loop-row-test.true c.loop-row.places.items c.place_of.result c.if-row-first.false
    c.place_of.ensures c.loop-row.invariant)

pub returns : goal.returns
returns c =
    places_all (λ (row : SplitRow) (place : ℕ). IsPlaceOf c.args.cells.now row.cell place) c.args.rows.now c.in-Some.first.now c.loop-row.row-index c.loop-row.places.items (sym c.in-Some.ensures.value) c.loop-row-test.false c.loop-row.invariant

pub returns-in_default : goal.returns-in_default
returns-in_default c =
    subst (AllZip (λ (row : SplitRow) (place : ℕ). IsPlaceOf c.args.cells.now row.cell place) (of_first c.args.rows.now)) (sym c.new-places.ensures.items)
    (places_none (λ (row : SplitRow) (place : ℕ). IsPlaceOf c.args.cells.now row.cell place) c.args.rows.now (sym c.in_default.ensures.value))
