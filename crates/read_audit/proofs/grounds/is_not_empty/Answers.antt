use Rattle.read_audit.proofs.grounds.is_not_empty.Goals as goal

pub returns : goal.returns
returns c = λ yes. (c.is_whole.ensures c.if-not-is_whole.false, c.in_ok-yes.ensures yes)
