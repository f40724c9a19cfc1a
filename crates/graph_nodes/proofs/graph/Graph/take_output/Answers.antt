use Rattle.std.proofs.Common.{refl, ap, ◌∙◌}
use Rattle.std.proofs.lemmas.Result.{on_ok_weaker}
use Rattle.graph_nodes.proofs.Living.{keeps_as, keeps_on, works_on}
use Rattle.std.specs.Prelude.{◌&&◌, List}
use Rattle.graph_nodes.specs.Calls.{running, TakesOutput, IsTakenBy, is_done, noted_of}
use Rattle.graph_nodes.specs.OpenWinds.{WindsState}
use Rattle.graph_nodes.proofs.Giving.{if_ok_weaker, output_taken}
use Rattle.graph_nodes.proofs.graph.Graph.take_output.Goals as goal

pub returns-in-Ok-clause-kept : goal.returns-in-Ok-clause-kept
returns-in-Ok-clause-kept c = keeps_on c.args.self.now _ c.take_noted.new.self refl refl refl refl c.take_noted.ensures.kept

pub returns-in-Ok-clause-works : goal.returns-in-Ok-clause-works
returns-in-Ok-clause-works c = on_ok_weaker c.take_noted.result (λ works. works_on c.args.self.now (record c.args.self.now { cx = record c.args.self.now.cx { clients = c.note_opened-noted.new.clients } }) c.take_noted.new.self refl refl refl works) c.take_noted.ensures.works

pub returns-in-Err-clause-kept : goal.returns-in-Err-clause-kept
returns-in-Err-clause-kept c = keeps_as c.args.self.now _ refl refl refl refl

pub returns-in-Ok-clause-takes : goal.returns-in-Ok-clause-takes
returns-in-Ok-clause-takes c = if_ok_weaker (λ settled. IsTakenBy (c.asked_by-asked.result.before && is_done c.args.rep) c.brick_of-brick.result c.asked_by-asked.result.wind c.args.rep c.args.taken c.note_opened-noted.new.clients c.args.self.now.board settled c.take_noted.new.self.board) (λ settled. TakesOutput c.args.w c.args.rep c.args.taken settled c.args.self.now (running c.take_noted.new.self)) c.take_noted.result
    (output_taken c.args.self.now c.take_noted.new.self c.note_opened-noted.new.clients c.args.w c.args.rep c.args.taken c.asked_by-asked.result c.brick_of-brick.result c.is_done-done.result c.asked_by-asked.ensures c.brick_of-brick.ensures.is c.is_done-done.ensures
    (c.in-Ok.ensures ∙ ap (λ (outer : List WindsState). noted_of c.is_done-done.result c.args.self.now.cx.clients outer c.brick_of-brick.result c.asked_by-asked.result) c.as_slice.ensures.value) c.take_noted.ensures.nodes c.take_noted.ensures.cx) c.take_noted.ensures.taken
