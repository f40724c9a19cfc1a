-- The descriptors that are open: a finite map from session and number to file, set and offset.
use Rattle.std.specs.Prelude.{ℕ, refl}
use Rattle.std.specs.Coded.{Coded, code_by, coded×, coded_ℕ}
use Rattle.std.specs.Ordering.{nat_cmp, on, then_cmp}
use Rattle.std.specs.Prelude.{Option, Some, None}
use Rattle.std.specs.declared.cmp.Ordering.{Ordering}
use Rattle.std.specs.FinMap as map
use Rattle.fop_types.specs.declared.cells.Gfid.{Gfid}
use Rattle.fd_table.specs.declared.fd.FdKey.{FdKey}
use Rattle.fd_table.specs.declared.fd.Fd.{Fd}

-- by session, and then by number
abbrev pub fd_cmp : FdKey → FdKey → Ordering
fd_cmp = then_cmp (on (λ k. k.session) nat_cmp) (on (λ k. k.fd) nat_cmp)

-- the open descriptors; `map.entries` lists them in that order
abbrev pub Fds : Type 0
Fds = map.FinMap fd_cmp Fd

abbrev pub fd_key : ℕ → ℕ → FdKey
fd_key session fd = record { session = session; fd = fd }

-- the descriptor of that session and number, None where it is not open
abbrev pub fd_at : Fds → ℕ → ℕ → Option Fd
fd_at fds session fd = map.get fds (fd_key session fd)

-- a descriptor as an open leaves it: at the beginning of its file
abbrev pub opened_at : Gfid → ℕ → Fd
opened_at gfid set = record { gfid = gfid; set = set; offset = 0 }

-- the table where that descriptor is d, and every other is as before
abbrev pub with_fd : Fds → ℕ → ℕ → Fd → Fds
with_fd fds session fd d = map.insert fds (fd_key session fd) d

-- the table where that descriptor is not open, and every other is as before
abbrev pub without_fd : Fds → ℕ → ℕ → Fds
without_fd fds session fd = map.remove fds (fd_key session fd)

abbrev pub put_back : Fds → ℕ → ℕ → Option Fd → (ℕ → ℕ) → Fds
put_back fds session fd None move = fds
put_back fds session fd (Some d) move = with_fd fds session fd (record d { offset = move d.offset })

-- the table where that descriptor, if it is open, has its offset moved, and all else is as before
abbrev pub with_offset : Fds → ℕ → ℕ → (ℕ → ℕ) → Fds
with_offset fds session fd move = put_back fds session fd (fd_at fds session fd) move

-- how one table is distinguished from another: by its entries, as numbers
abbrev pub fd_key_code : Coded FdKey
fd_key_code = code_by (ℕ × ℕ) (coded× coded_ℕ coded_ℕ) (λ k. (k.session, k.fd)) (λ p. record { session = p.0; fd = p.1 }) (λ _. refl)

abbrev pub fd_code : Coded Fd
fd_code = code_by ((ℕ × ℕ) × (ℕ × ℕ)) (coded× (coded× coded_ℕ coded_ℕ) (coded× coded_ℕ coded_ℕ)) (λ d. ((d.gfid.hi, d.gfid.lo), (d.set, d.offset))) (λ p. record { gfid = record { hi = p.0.0; lo = p.0.1 }; set = p.1.0; offset = p.1.1 }) (λ _. refl)

abbrev pub fds_code : Coded Fds
fds_code = map.code fd_key_code fd_code
