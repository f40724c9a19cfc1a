-- The fops of a call that is not answered at once: there is one, on objects that are known, within its bounds.
use Rattle.std.specs.Prelude.{◌≡◌, ◌⊎◌, ℕ, ◌≤◌, Some, None, IfSome, IsSome}
use Rattle.fop_types.specs.Bounds.{IsCall, IsFop, IsGfid, IsObject}
use Rattle.fop_types.specs.Calls.{at_once}
use Rattle.fop_types.specs.Limits.{max_data}
use Rattle.fop_types.specs.declared.calls.Call.{Call}
use Rattle.fop_types.specs.declared.cells.Gfid.{Gfid}
use Rattle.fop_types.specs.declared.fops.Fop.{Fop}
use Rattle.fop_types.specs.declared.fops.Object.{Object}
use Rattle.fd_table.specs.Fds.{Fds, fd_at}
use Rattle.fd_table.specs.declared.fd.Fd.{Fd}
use Rattle.call_fops.specs.Asked.{fop_next, hold_of, file_object}
use Rattle.call_fops.specs.Descriptors.{fds_of}
use Rattle.call_fops.specs.Walks.{Walked}
use Rattle.call_fops.specs.declared.holding.Hold.{Hold}

-- the file of an open descriptor of the session
pub record IsOpenFile (fds : Fds) (session : ℕ) (object : Object) : Type 0 where
  pub fd : ℕ
  pub descriptor : Fd
  pub opened : fd_at fds session fd ≡ Some descriptor
  pub file : object ≡ file_object descriptor

-- an object that the walk has reached, or such a file
abbrev pub IsKnown : Walked → Fds → ℕ → Object → Type 0
IsKnown w fds session object = (object ≡ w.first.at) ⊎ ((object ≡ w.second.at) ⊎ IsOpenFile fds session object)

-- P of the objects that a walk has reached, and of the files of a session's open descriptors
pub record OnKnown (P : Object → Type 0) (w : Walked) (fds : Fds) (session : ℕ) : Type 0 where
  pub first : P w.first.at
  pub second : P w.second.at
  pub files : (fd : ℕ) → IfSome (fd_at fds session fd) (λ d. P (file_object d))

abbrev pub HoldsOn : (Object → Type 0) → Hold → Type 0
HoldsOn P hold = P hold.first × IfSome hold.second P

-- P of the objects that a fop names, which are those that it holds
abbrev pub NamesOn : (Object → Type 0) → Fop → Type 0
NamesOn P f = IfSome (hold_of f) (HoldsOn P)

-- `sent`: a call that is not answered at once sends a fop. `known`: each object that the fop names was reached by the walk,
-- or is the file of an open descriptor of the session. `bounded`: the fop is within its bounds where the call is, these
-- objects are, and no offset is beyond the greatest length of a file.
pub record FopsAreBounded : Type 0 where
  pub sent : (c : Call) (w : Walked) (session : ℕ) (drawn : Gfid) (fds : Fds)
      → at_once (fds_of fds session) c ≡ None → IsSome (fop_next c w session drawn fds)
  pub known : (c : Call) (w : Walked) (session : ℕ) (drawn : Gfid) (fds : Fds)
      → IfSome (fop_next c w session drawn fds) (NamesOn (IsKnown w fds session))
  pub bounded : (c : Call) (w : Walked) (session : ℕ) (drawn : Gfid) (fds : Fds)
      → at_once (fds_of fds session) c ≡ None → IsCall c → session ≤ 255 → IsGfid drawn → OnKnown IsObject w fds session
      → ((fd : ℕ) → IfSome (fd_at fds session fd) (λ d. d.offset ≤ max_data))
      → IfSome (fop_next c w session drawn fds) IsFop
