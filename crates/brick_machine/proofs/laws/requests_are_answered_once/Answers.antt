use Rattle.brick_machine.proofs.Once.{each_answered_once, answered_in_turn}
use Rattle.brick_machine.proofs.laws.requests_are_answered_once.Goals as goal

pub returns-clause-once : goal.returns-clause-once
returns-clause-once c = each_answered_once

pub returns-clause-in_turn : goal.returns-clause-in_turn
returns-clause-in_turn c = answered_in_turn
