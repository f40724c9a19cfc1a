use Rattle.std.proofs.Common.{◌≡◌, ap, subst, sym, ◌∙◌}
use Rattle.std.specs.Prelude.{List, Option, Some, ℕ, MatchOption}
use Rattle.hub_tables.specs.Agendas.{AgendaState, with_output}
use Rattle.hub_calls.specs.Hubs.{HubState, AddsEvent, ClosesWith, is_due_output}
use Rattle.mount_log.specs.declared.logs.HubEvent.TheVariants as logged
use Rattle.world_bricks.specs.Lines.{LinesState, with_sent, next_output, with_arrival}
use Rattle.world_bricks.specs.Worlds.{with_next}
use Rattle.world_bricks.proofs.parts.Parts.arrive.Goals as goal

pub returns-clause-happens : goal.returns-clause-happens
returns-clause-happens c = λ _.
    let old : LinesState = c.args.self.now.lines in
    let taken : c.take_output.new.self ≡ with_arrival old c.args.brick =
    subst (λ (o : Option (List ℕ)). MatchOption o (c.take_output.new.self ≡ old) (λ _. c.take_output.new.self ≡ with_arrival old c.args.brick)) c.in-Some.is c.in_ok-output.ensures.taken in
    let hub : c.deliver.new.self.hub ≡ c.arrive.new.self = c.in_ok-deliver.ensures.hub in
    record {
      output = c.in-Some.output;
      next = sym c.in_ok-output.ensures.output ∙ c.in-Some.is;
      does = record {
        event = subst (λ (h : HubState). AddsEvent c.args.self.now.hub.log h.log (logged.Arrive c.args.brick c.in-Some.output)) (sym hub) c.in_ok-arrive.ensures.event;
        sent = c.in_ok-deliver.ensures.sent ∙ ap (λ (l : LinesState). with_sent l c.arrive.new.self.log.sent) taken ∙ ap (λ (h : HubState). with_sent (with_arrival old c.args.brick) h.log.sent) (sym hub);
      };
    }

pub returns-clause-agenda : goal.returns-clause-agenda
returns-clause-agenda c = λ _.
    let old : HubState = c.args.self.now.hub in
    let begun : AgendaState = with_output old.agenda (is_due_output c.in-Some.output) in
    let next : next_output c.args.self.now.lines c.args.brick ≡ Some c.in-Some.output = sym c.in_ok-output.ensures.output ∙ c.in-Some.is in
    let closed : ClosesWith old.script old.log c.deliver.new.self.hub.log c.deliver.new.self.hub.tasks begun c.deliver.new.self.hub.agenda =
    subst (λ (h : HubState). ClosesWith old.script old.log h.log h.tasks begun h.agenda) (sym c.in_ok-deliver.ensures.hub) c.in_ok-arrive.ensures.agenda in
    subst (λ (o : Option (List ℕ)). ClosesWith old.script old.log c.deliver.new.self.hub.log c.deliver.new.self.hub.tasks (with_next o old.agenda) c.deliver.new.self.hub.agenda) (sym next) closed
