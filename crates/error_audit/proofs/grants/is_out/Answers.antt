use Rattle.error_audit.proofs.grants.is_out.Goals as goal

pub returns-then-branch-clause-sound : goal.returns-then-branch-clause-sound
returns-then-branch-clause-sound c = λ _. c.in_ok-was_lost.ensures.sound c.if-branch.true
