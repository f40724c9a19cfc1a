use Rattle.std.proofs.Common.{◌≡◌, List, [], ◌∷◌, length, subst, sym, ap, ◌∙◌}
use Rattle.graph_build.specs.declared.plans.Plan.{Plan}
use Rattle.mount_log.specs.Scripts.{IsScript}
use Rattle.mount_log.specs.declared.logs.Log.{Log}
use Rattle.script_lang.specs.declared.scripts.Script.{Script}
use Rattle.hub_tables.specs.Agendas.{with_phase, with_sends, moved_on}
use Rattle.hub_tables.specs.Sessions.{first_line}
use Rattle.hub_calls.specs.Dues.{is_idle, ready_in}
use Rattle.hub_calls.specs.EventNumbers.{AreOfEvent}
use Rattle.hub_calls.specs.Hubs.{new_sent}
use Rattle.hub_calls.proofs.Agendas.{begun_agenda}
use Rattle.hub_calls.proofs.EventNumbers.{none_of_event}
use Rattle.hub_calls.proofs.Planning.{start_planned}
use Rattle.hub_calls.proofs.hub.Hub.new.Goals as goal

pub returns-in-Ok-clause-agenda : goal.returns-in-Ok-clause-agenda
returns-in-Ok-clause-agenda c =
    let on = c.in_ok-planned.planned in
    let tasks = ready_in on.plans c.begin.new.self.parts.graphs.nodes.tasks in
    begun_agenda c.args.script on.left c.new-log.result c.begin.new.log tasks c.new-engine.result.agenda c.begin.new.self.agenda c.new-log.ensures c.in_ok-planned.ensures.left c.new-engine.ensures.agenda
    (subst (λ (s : Script). c.begin.new.self.agenda ≡ moved_on (first_line on.left) s.phases (is_idle tasks) (length s.phases) (with_phase (first_line on.left) s.phases (with_sends c.new-engine.result.agenda (new_sent c.new-log.result c.begin.new.log))))
    c.in_ok-planned.ensures.given.0 c.in-Ok.ensures.agenda)

pub returns-in-Ok-clause-first : goal.returns-in-Ok-clause-first
returns-in-Ok-clause-first c =
    let on = c.in_ok-planned.planned in
    let is : IsScript c.args.script on.plans = subst (λ (ps : List Plan). IsScript c.args.script ps) (sym c.in_ok-planned.ensures.given.1) c.requires in
    c.in-Ok.ensures.first c.new-engine.ensures.graphs (start_planned c.args.script on is c.in_ok-planned.ensures.given.0) ∙ ap (λ (s : Script). (1, s.start) ∷ []) c.in_ok-planned.ensures.given.0

pub returns-in-Ok-clause-numbered : goal.returns-in-Ok-clause-numbered
returns-in-Ok-clause-numbered c = c.in-Ok.ensures.numbered (subst (λ (l : Log). AreOfEvent 0 l) (sym c.new-log.ensures) (none_of_event 0))
