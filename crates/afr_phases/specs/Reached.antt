-- Who is used after a lock phase: each replica that is not out holds its lock, on the connection that is open. And who is out
-- where those are noted that have lost their lock.
use Rattle.std.specs.Prelude.{◌≡◌, ℕ, ◌<◌, true, false, List, None, is_some, slice_index_or, length}
use Rattle.fop_types.specs.declared.contents.Mask.{Mask}
use Rattle.afr_phases.specs.declared.outs.Outs.{Outs}
use Rattle.afr_phases.specs.declared.locks.Locks.{Locks}
use Rattle.afr_phases.specs.declared.locking.LockStep.{LockStep}
use Rattle.afr_phases.specs.declared.locking.LockStep.TheVariants as step
use Rattle.afr_phases.specs.Flags.{flag}
use Rattle.afr_phases.specs.Outs.{is_out, used}
use Rattle.afr_phases.specs.Locks.{stands}
use Rattle.afr_phases.specs.Locking.{next_lock, without_lost}

abbrev pub ReachedHoldLocks : Type 0
ReachedHoldLocks = (outs reached : Outs) (locks : Locks) (n q from : ℕ) (live : Mask) (last : List ℕ) → length outs.at ≡ 5
    → ◌≡◌ {A = Outs × LockStep} (next_lock outs locks n q from live last) (reached, step.Reached)
    → (k : ℕ) → k < 5 → flag (used reached n) k ≡ true → stands locks k live last ≡ true

-- each replica of n that granted a lock which is not held any more
abbrev pub LostAreOut : Type 0
LostAreOut = (outs : Outs) (locks : Locks) (n k : ℕ) (live : Mask) (last : List ℕ) → length outs.at ≡ 5 → k < 5 → k < n
    → is_some (slice_index_or locks.at k None) ≡ true → stands locks k live last ≡ false → is_out (without_lost outs locks n live last) k ≡ true
