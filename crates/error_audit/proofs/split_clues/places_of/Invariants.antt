use Rattle.std.proofs.Common.{take, ℕ}
use Rattle.std.specs.List.{AllZip}
use Rattle.fop_types.specs.declared.answers.SplitRow.{SplitRow}
use Rattle.error_audit.specs.Finding.{IsPlaceOf}
use Rattle.error_audit.specs.code.Searches.{of_brick}
use Rattle.error_audit.proofs.split_clues.places_of.Given as goal

abbrev pub invariant-loop-row : goal.invariant-loop-row
invariant-loop-row l = AllZip (λ (row : SplitRow) (place : ℕ). IsPlaceOf l.cells row.cell place) (of_brick l.first.brick (take l.row-index l.rows)) l.places.items
