-- The lock phase: locks are asked of one replica after another, by rising replica, and not of one that is out. One that
-- has no open connection when it would be asked is out. Whether too many are out is looked at after each replica, also
-- after the last: then the phase is short. Else, at its end, a replica whose lock is not held any more is out, and those
-- that are left are the reached set, where they are a quorum.
use Rattle.std.specs.Prelude.{ℕ, zero, suc, ◌+◌, ◌-◌, Bool, false, ◌&&◌, not, nat_lt, List, Option, Some, None, slice_index, if◌then◌else◌}
use Rattle.fop_types.specs.declared.contents.Mask.{Mask}
use Rattle.afr_phases.specs.declared.outs.Outs.{Outs}
use Rattle.afr_phases.specs.declared.locks.Locks.{Locks}
use Rattle.afr_phases.specs.declared.locking.LockStep.{LockStep}
use Rattle.afr_phases.specs.declared.locking.LockStep.TheVariants as step
use Rattle.afr_phases.specs.Flags.{flag, names}
use Rattle.afr_phases.specs.Outs.{is_out, is_short, left}
use Rattle.afr_phases.specs.Locks.{standing, keeping}

-- who is out, and the replica that is asked, looking at `count` replicas from `k` on
abbrev pub next_to_lock : ℕ → Outs → ℕ → ℕ → ℕ → Mask → List ℕ → Outs × Option ℕ
next_to_lock zero outs n q k live last = (outs, None)
next_to_lock (suc count) outs n q k live last =
    if is_short outs n q then (outs, None)
    else if is_out outs k then next_to_lock count outs n q (k + 1) live last
    else if names live k then (outs, Some k)
    else next_to_lock count (left outs k false (slice_index last k)) n q (k + 1) live last

-- a replica is out as lost, with the number of its last connection, where it is lost
abbrev pub lost : Outs → Bool → ℕ → List ℕ → Outs
lost outs is_lost k last = if is_lost then left outs k false (slice_index last k) else outs

-- the replicas of n that are not among these are out as lost
abbrev pub kept_only : Outs → List Bool → ℕ → List ℕ → Outs
kept_only outs kept n last =
    let a = lost outs (nat_lt 0 n && not (flag kept 0)) 0 last in
    let b = lost a (nat_lt 1 n && not (flag kept 1)) 1 last in
    let c = lost b (nat_lt 2 n && not (flag kept 2)) 2 last in
    let d = lost c (nat_lt 3 n && not (flag kept 3)) 3 last in
    lost d (nat_lt 4 n && not (flag kept 4)) 4 last

-- the replicas of n that have lost their lock are out: each granted it on a connection that has ended since
unfoldable pub without_lost : Outs → Locks → ℕ → Mask → List ℕ → Outs
without_lost outs locks n live last = kept_only outs (keeping locks live last) n last

-- the end of the phase, by those who are left
abbrev pub ended_with : Outs → ℕ → ℕ → Outs × LockStep
ended_with outs n q = (outs, if is_short outs n q then step.Short else step.Reached)

abbrev pub ended : Outs → Locks → ℕ → ℕ → Mask → List ℕ → Outs × LockStep
ended outs locks n q live last =
    if is_short outs n q then (outs, step.Short)
    else ended_with (kept_only outs (standing locks live last) n last) n q

abbrev pub asked_or_ended : Outs × Option ℕ → Locks → ℕ → ℕ → Mask → List ℕ → Outs × LockStep
asked_or_ended (outs, Some k) locks n q live last = (outs, step.Ask k)
asked_or_ended (outs, None) locks n q live last = ended outs locks n q live last

-- the next step of a lock phase in which the replicas below `from` were asked
abbrev pub next_lock : Outs → Locks → ℕ → ℕ → ℕ → Mask → List ℕ → Outs × LockStep
next_lock outs locks n q from live last = asked_or_ended (next_to_lock (n - from) outs n q from live last) locks n q live last
