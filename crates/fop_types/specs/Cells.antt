-- The root's gfid, and the cells of an object: a file has data and metadata, a directory metadata and names.
use Rattle.fop_types.specs.declared.cells.Gfid.{Gfid}
use Rattle.fop_types.specs.declared.cells.Aspect.TheVariants as aspect
use Rattle.fop_types.specs.declared.cells.Cell.{Cell}

abbrev pub root : Gfid
root = record { hi = 0; lo = 1 }

abbrev pub data_cell : Gfid → Cell
data_cell gfid = record { gfid = gfid; aspect = aspect.Data }

abbrev pub meta_cell : Gfid → Cell
meta_cell gfid = record { gfid = gfid; aspect = aspect.Meta }

abbrev pub names_cell : Gfid → Cell
names_cell gfid = record { gfid = gfid; aspect = aspect.Entry }
