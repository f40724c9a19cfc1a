use Rattle.std.proofs.Common.{◌≡◌, sym, ap, ◌∙◌}
use Rattle.error_audit.proofs.brick_replies.is_wind_of.Goals as goal

pub returns-in-Some-clause-sound : goal.returns-in-Some-clause-sound
returns-in-Some-clause-sound c = λ yes.
    record { place = c.args.place; line = c.in-Some.line.now; there = sym c.in-Some.ensures; call_is = c.is_line_of.ensures.call yes; wind_is = c.is_line_of.ensures.wind yes }
