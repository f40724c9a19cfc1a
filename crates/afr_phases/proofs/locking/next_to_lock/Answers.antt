use Rattle.std.proofs.Common.{◌∙◌, arith}
use Rattle.afr_phases.proofs.LockSteps.{step_out, step_ask, step_lost}
use Rattle.afr_phases.proofs.locking.next_to_lock.Goals as goal

pub loop-k-preserved-then-is_out : goal.loop-k-preserved-then-is_out
loop-k-preserved-then-is_out c = step_out c.args.n c.args.q c.loop-k.k c.loop-k.outs c.args.live c.args.last.now (omega arith) (cc) (cc) ∙ c.loop-k.invariant

pub returns-then-names : goal.returns-then-names
returns-then-names c = step_ask c.args.n c.args.q c.loop-k.k c.loop-k.outs c.args.live c.args.last.now (omega arith) (cc) (cc) (cc) ∙ c.loop-k.invariant

pub loop-k-preserved : goal.loop-k-preserved
loop-k-preserved c = rw (c.leave.ensures, c.number_at.ensures) (step_lost c.args.n c.args.q c.loop-k.k c.loop-k.outs c.args.live c.args.last.now (omega arith) (cc) (cc) (cc) ∙ c.loop-k.invariant)
