use Rattle.std.proofs.Common.{◌<◌, List, length, sym, subst, ◌∙◌}
use Rattle.std.specs.List.{AllByRecursion}
use Rattle.script_lang.specs.declared.scripts.CallLine.{CallLine}
use Rattle.script_lang.specs.declared.scripts.Phase.{Phase}
use Rattle.mount_log.proofs.Sessions.{lines_are_below}
use Rattle.mount_log.proofs.session_lines.lines_of_sessions.Goals as goal

pub share_all-requires-clause-sessions : goal.share_all-requires-clause-sessions
share_all-requires-clause-sessions c =
    subst (λ (l : List Phase). AllByRecursion (λ (p : Phase). AllByRecursion (λ (line : CallLine). line.session < length c.in_ok-lines.lines.items) p.calls) l) (sym c.as_slice.ensures)
    (lines_are_below c.args.script.now (length c.in_ok-lines.lines.items) c.requires (c.in_ok-lines.ensures.sessions ∙ c.len.ensures))
