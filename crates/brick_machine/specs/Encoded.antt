-- What a brick keeps has an encoding, but for the number of items of its lists: all of it came in its inputs, and an
-- input is what has one. So each output has one, too; one whose list would be too long is `Unfit` instead.
use Rattle.std.specs.Prelude.{◌≡◌, ℕ, ◌≤◌, true, length, List, [], ◌∷◌, Option, Some, None}
use Rattle.std.specs.Map.{keys_of}
use Rattle.afr_changelog.specs.Counters.{full_count}
use Rattle.fop_types.specs.Bounds.{Each, Rises, IsHyper, IsMode, IsAttr, attr_cmp, IsSpan, IsItem, item_cmp, IsCell}
use Rattle.fop_types.specs.Limits.{max_data}
use Rattle.fop_types.specs.Orders.{cell_cmp}
use Rattle.fop_types.specs.declared.cells.Cell.{Cell}
use Rattle.fop_types.specs.declared.contents.Content.{Content}
use Rattle.fop_types.specs.declared.contents.Content.TheVariants.{Bytes, Meta, Names}
use Rattle.wire_xdr.specs.WireText.{IsOutKind}
use Rattle.brick_machine.specs.Machine.{state_of, outputs_of}
use Rattle.cell_store.specs.declared.kept.Kept.{Kept}
use Rattle.cell_store.specs.Cells.{Cells}

abbrev pub IsStored : Content → Type 0
IsStored (Bytes bytes) = length bytes ≤ max_data
IsStored (Meta mode attrs span) = IsMode mode × (Each IsAttr attrs × Rises attr_cmp true attrs) × IsSpan span
IsStored (Names removed items) = Each IsItem items × Rises item_cmp true items

abbrev pub IsStoredIfThere : Option Content → Type 0
IsStoredIfThere None = Unit {0}
IsStoredIfThere (Some content) = IsStored content

pub record IsKept (kept : Kept) : Type 0 where
  pub content : IsStoredIfThere kept.content
  pub last : IsHyper kept.last
  pub dirty : kept.dirty ≤ full_count
  pub pending : Each (λ n. n ≤ full_count) kept.pending
  pub five : length kept.pending ≡ 5

abbrev pub IsEntry : Cell × Kept → Type 0
IsEntry e = IsCell e.0 × IsKept e.1

pub record AreKept (cells : Cells) : Type 0 where
  pub entries : Each IsEntry cells
  pub rising : Rises cell_cmp true (keys_of cells)

-- each output is of a kind that has an encoding
abbrev pub OutputsAreEncoded : Type 0
OutputsAreEncoded = (journal : List (List ℕ)) → Each (λ o. IsOutKind true o.kind) (outputs_of journal)

-- and so has what is kept of each cell
abbrev pub CellsAreKept : Type 0
CellsAreKept = (journal : List (List ℕ)) → AreKept (state_of journal).store.cells
