use Rattle.read_audit.proofs.Fetching.{holders_are}
use Rattle.read_audit.proofs.quorums.have_locked.Goals as goal

pub returns : goal.returns
returns c = λ yes.
    holders_are c.args.log.now c.args.bricks.now c.args.plan.now c.args.call c.args.graph c.args.cells.now c.args.cell.now c.in-Some.place c.args.at.event c.args.at.source c.in_ok-rows.rows.items
    c.in-Some.ensures (rw c.as_slice.ensures.value at (c.in_ok-yes.ensures.differ yes)) (rw c.as_slice.ensures.value at (c.in_ok-yes.ensures.quorum yes)) (rw c.as_slice.ensures.value at (c.in_ok-yes.ensures.among yes)) (rw c.as_slice.ensures.value at (c.in_ok-yes.ensures.sound yes)) c.in_ok-rows.ensures
