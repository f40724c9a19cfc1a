use Rattle.run_judge.proofs.audits.has_course.Goals as goal

pub returns-clause-names : goal.returns-clause-names
returns-clause-names c = λ _. c.in_ok-is_from_bricks.ensures.names c.if-not-branch-2.false

pub returns-clause-errors : goal.returns-clause-errors
returns-clause-errors c = λ _. c.in_ok-is_from_bricks.ensures.errors c.if-not-branch-2.false
