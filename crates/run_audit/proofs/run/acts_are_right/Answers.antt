use Rattle.std.proofs.Common.{◌≡◌, sym, ◌∙◌}
use Rattle.run_audit.proofs.Settling.{all_answered, answered_by}
use Rattle.run_audit.proofs.run.acts_are_right.Goals as goal

pub returns-clause-answered : goal.returns-clause-answered
returns-clause-answered c = λ _. all_answered c.args.log.now c.args.numbers.now c.requires (c.acts_are_answered.ensures.0 c.if-not-acts_are_answered.false)

pub returns-then-not-acts_are_answered-clause-complete : goal.returns-then-not-acts_are_answered-clause-complete
returns-then-not-acts_are_answered-clause-complete c = λ noted many acts answered.
    sym c.if-not-acts_are_answered.true ∙ c.acts_are_answered.ensures.1 (answered_by c.args.log.now c.args.numbers.now c.requires answered)
