use Rattle.std.proofs.Common.{drop}
use Rattle.history_replay.specs.Reports.{AreInPhases}
use Rattle.history_replay.proofs.lines.are_in_phases.Given as goal

abbrev pub invariant-loop-phase : goal.invariant-loop-phase
invariant-loop-phase l = AreInPhases l.rest (drop l.phase-index l.phases) → AreInPhases l.lines l.phases
