use Rattle.std.proofs.Common.{◌≡◌, ℕ, ◌<◌}
use Rattle.history_replay.specs.Reports.{of_session}
use Rattle.history_replay.proofs.lines.are_lines.Given as goal

abbrev pub invariant-loop-session : goal.invariant-loop-session
invariant-loop-session l = (session : ℕ) → session < l.session → of_session session l.lines ≡ of_session session l.phase
