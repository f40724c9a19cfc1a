use Rattle.std.proofs.Common.{◌≡◌, sym, ◌∙◌}
use Rattle.std.specs.Prelude.{true, false}
use Rattle.line_audit.proofs.Causing.{down_armed, down_at}
use Rattle.line_audit.proofs.causes.is_down_caused.Goals as goal

pub returns-clause-sound : goal.returns-clause-sound
returns-clause-sound c = λ yes. down_armed c.args.log.now c.args.k c.args.line.now c.args.serve c.args.armed c.requires.there c.requires.bytes c.requires.armed (c.is_before_request.ensures.0 yes)

pub returns-clause-complete : goal.returns-clause-complete
returns-clause-complete c = λ early at.
    c.is_before_request.ensures.1
    (down_at c.args.log.now c.args.k c.args.line.now c.args.serve c.args.armed c.requires.there c.requires.armed early (λ acted. let no : false ≡ true = sym c.if-is_act_of_down.false ∙ c.is_act_of_down.ensures.1 acted in absurd cc)
    at)
