use Rattle.std.proofs.Common.{◌≡◌, ◌-◌, ℕ, Option}
use Rattle.afr_phases.specs.declared.outs.Outs.{Outs}
use Rattle.afr_phases.specs.Locking.{next_to_lock}
use Rattle.afr_phases.proofs.locking.next_to_lock.Given as goal

abbrev pub invariant-loop-k : goal.invariant-loop-k
invariant-loop-k l = ◌≡◌ {A = Outs × Option ℕ} (next_to_lock (l.n - l.k) l.outs l.n l.q l.k l.live l.last) (next_to_lock (l.n - l.from) l.initial.outs l.n l.q l.from l.live l.last)
