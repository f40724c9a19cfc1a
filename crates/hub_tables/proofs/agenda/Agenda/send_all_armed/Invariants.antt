use Rattle.std.proofs.Common.{◌≡◌, ◌+◌, ◌-◌, ◌++◌, length}
use Rattle.hub_tables.specs.Agendas.{without_armed_of, armed_lines, owed_by, controls_after}
use Rattle.hub_tables.specs.PhaseControls.{ControlsState}
use Rattle.hub_tables.proofs.agenda.Agenda.send_all_armed.Given as goal

abbrev pub invariant-loop : goal.invariant-loop
invariant-loop l =
    (l.self ≡ record (l.fn.self) { owed = l.self.owed; controls = l.self.controls })
    × (without_armed_of l.self.controls l.request (length l.fn.self.controls.armed - l.counter) ≡ without_armed_of l.fn.self.controls l.request (length l.fn.self.controls.armed))
    × (l.self.owed + owed_by l.fn.lines ≡ l.fn.self.owed + owed_by l.lines)
    × ((c : ControlsState) → controls_after c l.lines ≡ controls_after c l.fn.lines)
    × (l.lines ++ armed_lines l.event l.self.controls l.request (length l.fn.self.controls.armed - l.counter) ≡ l.fn.lines ++ armed_lines l.event l.fn.self.controls l.request (length l.fn.self.controls.armed))
