-- The descriptors of one session, out of the table of all sessions, and what becomes of them.
use Rattle.std.specs.Prelude.{ℕ, ◌+◌, ◌==◌, List, [], ◌∷◌, if◌then◌else◌}
use Rattle.std.specs.FinMap as fin
use Rattle.fop_types.specs.Calls.{Descriptor, Descriptors}
use Rattle.fd_table.specs.Fds.{Fds, opened_at, with_fd, without_fd, with_offset}
use Rattle.fd_table.specs.declared.fd.Fd.{Fd}
use Rattle.fd_table.specs.declared.fd.FdKey.{FdKey}
use Rattle.call_fops.specs.declared.replies.FdMove.{FdMove}
use Rattle.call_fops.specs.declared.replies.FdMove.TheVariants.{Stays, Opens, Advances, Seeks, Closes}

abbrev pub descriptor_of : Fd → Descriptor
descriptor_of d = record { file = d.gfid; offset = d.offset }

abbrev pub entries_of : ℕ → List (FdKey × Fd) → List (ℕ × Descriptor)
entries_of session [] = []
entries_of session (e ∷ es) = if e.0.session == session then (e.0.fd, descriptor_of e.1) ∷ entries_of session es else entries_of session es

-- the descriptors of a session
abbrev pub fds_of : Fds → ℕ → Descriptors
fds_of fds session = fin.from_entries (entries_of session (fin.entries fds))

-- the table after a call of a session was answered
abbrev pub fds_after : Fds → ℕ → FdMove → Fds
fds_after fds session Stays = fds
fds_after fds session (Opens fd gfid set) = with_fd fds session fd (opened_at gfid set)
fds_after fds session (Advances fd by) = with_offset fds session fd (λ at. at + by)
fds_after fds session (Seeks fd offset) = with_offset fds session fd (λ _. offset)
fds_after fds session (Closes fd) = without_fd fds session fd
