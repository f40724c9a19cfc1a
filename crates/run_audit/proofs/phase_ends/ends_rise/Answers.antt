use Rattle.std.proofs.Common.{◌≡◌, ◌<◌, ◌≤◌, refl, sym, subst, arith}
use Rattle.std.specs.Prelude.{ℕ, ◌+◌}
use Rattle.run_audit.specs.Noted.{ended_at}
use Rattle.run_audit.proofs.Phased.{rises_next, rises_all}
use Rattle.run_audit.proofs.phase_ends.ends_rise.Goals as goal

pub loop-phase-preserved : goal.loop-phase-preserved
loop-phase-preserved c =
    rises_next c.args.ended.now c.args.last c.loop-phase.phase c.loop-phase.invariant
    (subst (λ (n : ℕ). n ≤ ended_at c.args.ended.now c.args.last (c.loop-phase.phase + 1)) c.end_of.ensures
    (subst (λ (n : ℕ). c.end_of.result ≤ n) c.end_of-in-loop-phase.ensures c.if-end_of.false))

pub returns : goal.returns
returns c = (λ _. rises_all c.args.ended.now c.args.last c.loop-phase.phase (omega (arith, c.loop-phase-test.false)) c.loop-phase.invariant, λ _. refl)

pub returns-then-end_of : goal.returns-then-end_of
returns-then-end_of c = (λ no. absurd cc, λ rises. absurd (let r = rises c.loop-phase.phase in omega (arith, r, c.if-end_of.true, c.end_of.ensures, c.end_of-in-loop-phase.ensures)))
