-- What an answer of a replica carries, where it is the Done that was asked for.
use Rattle.std.specs.Prelude.{ℕ, Bool, true, false, ◌==◌, List, Option, Some, None, length, if◌then◌else◌}
use Rattle.fop_types.specs.Bounds.{content_kind}
use Rattle.fop_types.specs.Rank.{rank}
use Rattle.fop_types.specs.declared.cells.Aspect.{Aspect}
use Rattle.fop_types.specs.declared.cells.Cell.{Cell}
use Rattle.fop_types.specs.declared.contents.Content.{Content}
use Rattle.fop_types.specs.declared.contents.Row.{Row}
use Rattle.fop_types.specs.declared.messages.DoneArm.{DoneArm}
use Rattle.fop_types.specs.declared.messages.DoneArm.TheVariants as arm
use Rattle.fop_types.specs.declared.messages.BrickRep.{BrickRep}
use Rattle.fop_types.specs.declared.messages.BrickRep.TheVariants as rep

abbrev pub is_fault : BrickRep → Bool
is_fault (rep.Done done) = false
is_fault rep.Gone = false
is_fault rep.Fault = true
is_fault rep.Unfit = false
is_fault rep.BadFd = false

abbrev pub is_nothing : DoneArm → Bool
is_nothing arm.Nothing = true
is_nothing (arm.Rows rows) = false
is_nothing (arm.Content content last) = false
is_nothing (arm.Cells cells) = false

-- a Done that carries nothing
abbrev pub is_plain_done : BrickRep → Bool
is_plain_done (rep.Done done) = is_nothing done
is_plain_done rep.Gone = false
is_plain_done rep.Fault = false
is_plain_done rep.Unfit = false
is_plain_done rep.BadFd = false

abbrev pub rows_of : DoneArm → ℕ → Option (List Row)
rows_of arm.Nothing count = None
rows_of (arm.Rows rows) count = if length rows == count then Some rows else None
rows_of (arm.Content content last) count = None
rows_of (arm.Cells cells) count = None

-- the rows of a lock: one for each cell
abbrev pub rows_in : BrickRep → ℕ → Option (List Row)
rows_in (rep.Done done) count = rows_of done count
rows_in rep.Gone count = None
rows_in rep.Fault count = None
rows_in rep.Unfit count = None
rows_in rep.BadFd count = None

abbrev pub content_of : DoneArm → Aspect → Option (Content × ℕ)
content_of arm.Nothing aspect = None
content_of (arm.Rows rows) aspect = None
content_of (arm.Content content last) aspect = if content_kind content == rank aspect then Some (content, last) else None
content_of (arm.Cells cells) aspect = None

-- the content of a fetch, of the cell's aspect, and the number of its last change
abbrev pub content_in : BrickRep → Aspect → Option (Content × ℕ)
content_in (rep.Done done) aspect = content_of done aspect
content_in rep.Gone aspect = None
content_in rep.Fault aspect = None
content_in rep.Unfit aspect = None
content_in rep.BadFd aspect = None

abbrev pub cells_of : DoneArm → Option (List Cell)
cells_of arm.Nothing = None
cells_of (arm.Rows rows) = None
cells_of (arm.Content content last) = None
cells_of (arm.Cells cells) = Some cells

-- the cells of an index
abbrev pub cells_in : BrickRep → Option (List Cell)
cells_in (rep.Done done) = cells_of done
cells_in rep.Gone = None
cells_in rep.Fault = None
cells_in rep.Unfit = None
cells_in rep.BadFd = None
