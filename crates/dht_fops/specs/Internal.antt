-- The fops that the mount submits by itself: the descriptors that are opened again in a new graph, and a heal, which lists
-- the cells of every set and then looks at each. An error in one part stops none of the others.
use Rattle.std.specs.Prelude.{ℕ, ◌+◌, ◌*◌, List, [], ◌∷◌, ◌++◌, None, map, take}
use Rattle.dht_fops.specs.Courses.{Course, answers, after_any}
use Rattle.dht_fops.specs.Courses.Course.{Asks}
use Rattle.fop_types.specs.declared.answers.Answer.TheVariants as answer
use Rattle.fop_types.specs.declared.cells.Cell.{Cell}
use Rattle.fop_types.specs.declared.fops.OpenFd.{OpenFd}
use Rattle.fop_types.specs.declared.jobs.Job.TheVariants as job
use Rattle.fop_types.specs.declared.jobs.SetReply.{SetReply}
use Rattle.fop_types.specs.declared.jobs.SetReply.TheVariants as reply

abbrev pub opens_again : List OpenFd → Course
opens_again [] = answers answer.Done None
opens_again (open_fd ∷ fds) = Asks open_fd.set (job.Open open_fd.fd open_fd.gfid) (after_any (opens_again fds))

abbrev pub cells_in : SetReply → List Cell
cells_in (reply.Contents contents place) = []
cells_in (reply.Decided number) = []
cells_in reply.Opened = []
cells_in (reply.Listed cells answered short) = cells
cells_in (reply.Healed records) = []
cells_in (reply.Skipped cause) = []
cells_in (reply.Io error) = []

abbrev pub heals : List (ℕ × Cell) → Course
heals [] = answers answer.Done None
heals (one ∷ cells) = Asks one.0 (job.Heal one.1) (after_any (heals cells))

-- a set has at most two cells for each object that was made, and the root's two; what it lists beyond that is left out
abbrev pub with_cells : List (ℕ × Cell) → ℕ → ℕ → List Cell → List (ℕ × Cell)
with_cells so_far count set cells = so_far ++ map (λ cell. (set, cell)) (take (2 * count + 2) cells)

abbrev pub indexes : ℕ → List ℕ → List (ℕ × Cell) → Course
indexes count [] cells = heals cells
indexes count (set ∷ sets) cells = Asks set job.Index (λ reply. indexes count sets (with_cells cells count set (cells_in reply)))
