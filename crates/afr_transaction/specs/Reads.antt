-- A read. Each cell is fetched from its lowest sound replica that is still used. A directory's cell that is absent on
-- all reached replicas of a set other than the first is read as absent. Where a cell has no sound replica the copies
-- are split; where its sound replicas are all out by now, the read begins again.
use Rattle.std.specs.Prelude.{ℕ, zero, suc, ◌+◌, ◌-◌, ◌==◌, Bool, true, false, ◌&&◌, ◌||◌, not, List, [], ◌∷◌, ◌++◌, Option, Some, None, is_none, length, slice_get, if◌then◌else◌}
use Rattle.fop_types.specs.declared.answers.IoError.TheVariants as io
use Rattle.fop_types.specs.declared.answers.SplitRow.{SplitRow}
use Rattle.fop_types.specs.declared.cells.Cell.{Cell}
use Rattle.fop_types.specs.declared.contents.Content.{Content}
use Rattle.fop_types.specs.declared.contents.Mask.{Mask}
use Rattle.fop_types.specs.declared.jobs.Job.{Job}
use Rattle.fop_types.specs.declared.jobs.Job.TheVariants as job
use Rattle.fop_types.specs.declared.jobs.SetReply.TheVariants as reply
use Rattle.fop_types.specs.declared.messages.BrickReq.TheVariants as req
use Rattle.afr_ledger.specs.Ledger.{State}
use Rattle.afr_phases.specs.Flags.{both, lowest}
use Rattle.afr_phases.specs.Outs.{is_short, left}
use Rattle.afr_phases.specs.Waves.{taken}
use Rattle.afr_phases.specs.Shown.{sound_at, rows_of_cell}
use Rattle.afr_transaction.specs.declared.need.Need.{Need}
use Rattle.afr_transaction.specs.declared.phase.Phase.TheVariants as phase
use Rattle.afr_transaction.specs.declared.phase.Then.TheVariants as next
use Rattle.afr_transaction.specs.declared.txn.Txn.{Txn}
use Rattle.afr_transaction.specs.Sound.{is_absent}
use Rattle.afr_transaction.specs.Txns.{only, asking, alive}
use Rattle.afr_transaction.specs.Locked.{unlock, fail}

abbrev pub is_directory_read : Job → Bool
is_directory_read (job.Read cells fd dir) = dir
is_directory_read (job.Change cells fd op effect) = false
is_directory_read (job.Birth cells op) = false
is_directory_read (job.Open fd gfid) = false
is_directory_read job.Index = false
is_directory_read (job.Heal cell) = false

abbrev pub fd_of : Job → ℕ
fd_of (job.Read cells fd dir) = fd
fd_of (job.Change cells fd op effect) = fd
fd_of (job.Birth cells op) = 0
fd_of (job.Open fd gfid) = fd
fd_of job.Index = 0
fd_of (job.Heal cell) = 0

-- the `c`-th cell is read as absent
unfoldable pub lacks : Txn → ℕ → Bool
lacks txn c = (is_directory_read txn.job && not (txn.set == 0)) && is_absent txn.shown c

-- the sound replicas of the `c`-th cell
unfoldable pub sound_on : Txn → ℕ → List Bool
sound_on txn c = sound_at txn.shown c txn.size.n txn.size.q

-- the `c`-th cell has no sound replica, and is not read as absent
unfoldable pub is_bare : Txn → ℕ → Bool
is_bare txn c = not (lacks txn c) && is_none (lowest (sound_on txn c))

-- some cell from the `c`-th on is so
abbrev pub is_split_read : Txn → ℕ → List Cell → Bool
is_split_read txn c [] = false
is_split_read txn c (cell ∷ cells) = is_bare txn c || is_split_read txn (c + 1) cells

abbrev pub split_cell : Txn → ℕ → Cell → List SplitRow
split_cell txn c cell = if lacks txn c then [] else rows_of_cell txn.shown txn.bricks c cell

-- the rows of the cells that had to be sound: all but those that are read as absent
abbrev pub split_rows : Txn → ℕ → List Cell → List SplitRow
split_rows txn c [] = []
split_rows txn c (cell ∷ cells) = split_cell txn c cell ++ split_rows txn (c + 1) cells

-- the contents so far, and those of the cells that follow, of which there are `left`, as long as they are read as absent
abbrev pub with_absent : Txn → List (Option Content) → ℕ → List (Option Content)
with_absent txn contents zero = contents
with_absent txn contents (suc left) =
    if lacks txn (length contents) then with_absent txn (contents ++ None ∷ []) left else contents

-- a cell is fetched from a replica; where none is left, the read begins again
abbrev pub fetching : Txn → ℕ → List (Option Content) → Cell → Option ℕ → State Cell → Mask → List ℕ → Txn × Need
fetching txn place contents cell None ledger live last = unlock txn next.Again ledger live last
fetching txn place contents cell (Some k) ledger live last =
    asking txn (only k) (req.Fetch (fd_of txn.job) cell) (phase.Fetching place k contents)

-- the next cell is fetched; after the last one the locks are released, and the contents are the answer
abbrev pub fetch_at : Txn → ℕ → List (Option Content) → Option Cell → State Cell → Mask → List ℕ → Txn × Need
fetch_at txn place contents None ledger live last = unlock txn (next.Answer (reply.Contents contents place)) ledger live last
fetch_at txn place contents (Some cell) ledger live last =
    fetching txn place contents cell (lowest (both (sound_on txn (length contents)) (alive txn))) ledger live last

abbrev pub fetch_next : Txn → ℕ → List (Option Content) → State Cell → Mask → List ℕ → Txn × Need
fetch_next txn place contents ledger live last =
    let all = with_absent txn contents (length txn.cells - length contents) in
    fetch_at txn place all (slice_get txn.cells (length all)) ledger live last

-- a read whose locks are granted: its place is the length of the history at this moment
abbrev pub ready_to_read : Txn → State Cell → Mask → List ℕ → Txn × Need
ready_to_read txn ledger live last =
    if is_split_read txn 0 txn.cells
    then unlock txn (next.Answer (reply.Io (io.Split txn.set (split_rows txn 0 txn.cells)))) ledger live last
    else fetch_next txn (length ledger.history) [] ledger live last

-- the answer to a fetch: the content, or the replica is out and the next sound one is asked
abbrev pub fetch_taken : Txn → ℕ → ℕ → List (Option Content) → Option (Content × ℕ) → Bool → ℕ → State Cell → Mask → List ℕ → Txn × Need
fetch_taken txn place k contents (Some content) fault mark ledger live last =
    fetch_next (record txn { wave = taken txn.wave k true }) place (contents ++ Some content.0 ∷ []) ledger live last
fetch_taken txn place k contents None fault mark ledger live last =
    let lost = record txn { outs = left txn.outs k fault mark; wave = taken txn.wave k false } in
    if is_short lost.outs lost.size.n lost.size.q then fail lost ledger live last
    else fetch_next lost place contents ledger live last
