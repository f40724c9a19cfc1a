-- An offset that is set to a sum is moved on.
use Rattle.std.proofs.Common.{◌≡◌, sym, ap, ◌∙◌, ℕ, ◌+◌}
use Rattle.std.specs.Prelude.{Option, Some}
use Rattle.fd_table.specs.Fds.{Fds, fd_at, with_fd, with_offset, put_back}
use Rattle.fd_table.specs.declared.fd.Fd.{Fd}

pub moved_on : (fds : Fds) (session fd by offset : ℕ) (d : Fd) → fd_at fds session fd ≡ Some d → offset ≡ d.offset + by
    → with_offset fds session fd (λ _. offset) ≡ with_offset fds session fd (λ at. at + by)
moved_on fds session fd by offset d is sum =
    ap (λ (o : Option Fd). put_back fds session fd o (λ _. offset)) is
    ∙ ap (λ (n : ℕ). with_fd fds session fd (record d { offset = n })) sum
    ∙ ap (λ (o : Option Fd). put_back fds session fd o (λ at. at + by)) (sym is)
