-- The orders of gfids and of cells, by which maps from them are kept: by the halves of a gfid, the
-- higher first, and then by aspect.
use Rattle.std.specs.declared.cmp.Ordering.{Ordering}
use Rattle.std.specs.Ordering.{nat_cmp, ordering_then}
use Rattle.fop_types.specs.declared.cells.Gfid.{Gfid}
use Rattle.fop_types.specs.declared.cells.Cell.{Cell}
use Rattle.fop_types.specs.Rank.{rank}

abbrev pub gfid_cmp : Gfid → Gfid → Ordering
gfid_cmp a b = ordering_then (nat_cmp a.hi b.hi) (nat_cmp a.lo b.lo)

abbrev pub cell_cmp : Cell → Cell → Ordering
cell_cmp a b = ordering_then (gfid_cmp a.gfid b.gfid) (nat_cmp (rank a.aspect) (rank b.aspect))
