use Rattle.std.proofs.Common.{◌≡◌, drop}
use Rattle.script_lang.specs.StatementText.{is_brick_used}
use Rattle.script_lang.proofs.statements.is_used.Given as goal

abbrev pub invariant-loop-brick : goal.invariant-loop-brick
invariant-loop-brick l = is_brick_used (drop l.brick-index l.bricks) l.name l.host l.path ≡ is_brick_used l.bricks l.name l.host l.path
