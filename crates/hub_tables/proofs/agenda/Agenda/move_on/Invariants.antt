use Rattle.std.proofs.Common.{◌≡◌, ◌-◌, length}
use Rattle.hub_tables.specs.Agendas.{moved_on}
use Rattle.hub_tables.specs.Sessions.{first_line}
use Rattle.hub_tables.proofs.agenda.Agenda.move_on.Given as goal

abbrev pub invariant-loop : goal.invariant-loop
invariant-loop l =
    moved_on (first_line l.left) l.phases l.idle (length l.phases - l.counter) l.self ≡ moved_on (first_line l.left) l.phases l.idle (length l.phases) l.fn.self
