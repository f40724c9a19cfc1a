use Rattle.std.proofs.Common.{◌≡◌, sym, ap, ◌∙◌}
use Rattle.std.specs.Prelude.{Some}
use Rattle.mount_log.specs.Controls.{ByArmed}
use Rattle.run_audit.proofs.sent_for.is_control_line.Goals as goal

pub returns-then-place-k-clause-sound : goal.returns-then-place-k-clause-sound
returns-then-place-k-clause-sound c = λ yes line a.
    let own = c.has_control.ensures.sound yes in ByArmed c.args.at.phase c.args.at.at own.control own.there (sym c.in-Some.ensures ∙ ap Some c.if-place-k.true)
