use Rattle.std.proofs.Common.{◌≡◌, ◌+◌, ◌++◌}
use Rattle.hub_tables.specs.Agendas.{owed_by, controls_after, outgoing}
use Rattle.hub_tables.specs.PhaseControls.{ControlsState}
use Rattle.hub_tables.proofs.agenda.Agenda.send_each.Given as goal

abbrev pub invariant-loop-line : goal.invariant-loop-line
invariant-loop-line l =
    (l.self ≡ record (l.fn.self) { owed = l.self.owed; controls = l.self.controls })
    × (l.self.owed + owed_by l.fn.lines ≡ l.fn.self.owed + owed_by l.lines)
    × ((c : ControlsState) → controls_after c l.fn.lines ≡ l.fn.self.controls → controls_after c l.lines ≡ l.self.controls)
    × (l.self.controls ≡ controls_after l.fn.self.controls l.yielded)
    × (l.lines ≡ l.fn.lines ++ outgoing l.fn.self.controls l.yielded)
