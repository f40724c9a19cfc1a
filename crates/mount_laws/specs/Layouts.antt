-- A layout that was learnt is that of the directory's copies: a copy's range never changes once it is there. Ours.
use Rattle.std.specs.Prelude.{◌≡◌, ℕ, List, slice_get, Option, Some}
use Rattle.dht_fops.specs.Looks.{span_of}
use Rattle.fop_types.specs.Bounds.{Each}
use Rattle.fop_types.specs.Cells.{meta_cell}
use Rattle.fop_types.specs.declared.cells.Gfid.{Gfid}
use Rattle.fop_types.specs.declared.contents.Span.{Span}
use Rattle.mount_laws.specs.States.{State}

-- each range is the one that the set's copy has now
abbrev pub IsLayoutOf : State → (Gfid × List (Option Span)) → Type 0
IsLayoutOf m layout = (set : ℕ) (span : Option Span) → slice_get layout.1 set ≡ Some span → span_of (m.adopted set (meta_cell layout.0)) ≡ span

abbrev pub LayoutStands : State → Type 0
LayoutStands m = Each (IsLayoutOf m) m.learnt
