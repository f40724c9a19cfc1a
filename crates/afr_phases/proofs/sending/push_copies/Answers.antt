use Rattle.afr_phases.proofs.OneEach.{five_asked}
use Rattle.afr_phases.proofs.sending.push_copies.Goals as goal

pub returns : goal.returns
returns c =
    five_asked c.args.to.now c.args.req.now c.args.list.now.items _ _ _ _ _ c.in_ok-latest.ensures c.in_ok-latest-2.ensures c.in_ok-latest-3.ensures c.in_ok-latest-4.ensures c.in_ok-latest-5.ensures
