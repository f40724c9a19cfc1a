use Rattle.std.proofs.Common.{◌≡◌, sym, ◌∙◌}
use Rattle.line_audit.proofs.Ending.{ended}
use Rattle.line_audit.proofs.Finding.{ending_found, no_ending}
use Rattle.line_audit.proofs.tied_ends.has_end.Goals as goal

pub returns-clause-sound : goal.returns-clause-sound
returns-clause-sound c = λ yes.
    ended c.args.log.now c.args.brick c.args.number c.args.graph c.args.ended.end c.in-Some.line.now (sym c.in-Some.ensures) (c.is_ending_of.ensures.sound c.if-not-is_ending_of.false) (c.in_ok-yes.ensures.sound yes)

pub returns-in_default-clause-complete : goal.returns-in_default-clause-complete
returns-in_default-clause-complete c = λ slots place h. absurd (no_ending c.args.log.now c.args.brick c.args.number c.args.graph c.args.ended.end (sym c.in_default.ensures) h (place.end h))

pub returns-then-not-is_ending_of-clause-complete : goal.returns-then-not-is_ending_of-clause-complete
returns-then-not-is_ending_of-clause-complete c = λ slots place h.
    let there = sym c.in-Some.ensures in
    let found = ending_found c.args.log.now c.args.brick c.args.number c.args.graph c.args.ended.end c.in-Some.line.now there h (place.end h) in
    sym c.if-not-is_ending_of.true ∙ c.is_ending_of.ensures.complete (slots c.args.ended.end c.in-Some.line.now there) found.0

pub returns-clause-complete : goal.returns-clause-complete
returns-clause-complete c = λ slots place h.
    let there = sym c.in-Some.ensures in
    let found = ending_found c.args.log.now c.args.brick c.args.number c.args.graph c.args.ended.end c.in-Some.line.now there h (place.end h) in
    c.in_ok-yes.ensures.complete (slots c.args.ended.end c.in-Some.line.now there) (place.disconnect c.in-Some.line.now there) found.1
