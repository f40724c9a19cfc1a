use Rattle.std.proofs.Common.{◌≡◌, ◌<◌, ◌≤◌, sym, ap, subst, ◌∙◌, arith}
use Rattle.std.specs.Prelude.{Some}
use Rattle.mount_log.specs.Controls.{control_at}
use Rattle.run_audit.specs.Noted.{carried_at}
use Rattle.run_audit.specs.declared.run_notes.ControlAt.{ControlAt}
use Rattle.run_audit.proofs.NotedFor.{following_noted}
use Rattle.run_audit.proofs.moments.are_following.Goals as goal

pub returns-then-not-is_following-clause-complete : goal.returns-then-not-is_following-clause-complete
returns-then-not-is_following-clause-complete c = λ noted all.
    let lt : c.args.since < c.loop-m.m = (let le = c.loop-m.invariant.0 in let ne = c.if-m-since.false in omega (arith, le, ne)) in
    let f = all c.loop-m.m lt c.loop-m-test.true in
    let place = c.noted_at.ensures (record { phase = c.args.phase; at = f.at }) (following_noted c.args.script.now c.args.notes.now noted c.args.last c.args.phase c.loop-m.m (omega (arith, lt)) f) in
    sym c.if-not-is_following.true
    ∙ c.is_following.ensures.complete f.control (ap (λ (x : ControlAt). x.phase) place)
    (subst (λ (x : ControlAt). carried_at c.args.notes.now.carried x.phase x.at ≡ c.loop-m.m) (sym place) f.number_is)
    (subst (λ (x : ControlAt). control_at c.args.script.now x.phase x.at ≡ Some f.control) (sym place) f.there)
    (record { brick = f.brick; proc = f.proc; count = f.count; when_is = f.when_is })
