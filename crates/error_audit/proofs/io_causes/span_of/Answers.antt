use Rattle.std.proofs.Common.{◌≡◌, sym, ap, subst, ◌∙◌, map}
use Rattle.std.specs.Prelude.{ℕ, ◌≤◌, ◌<◌, ◌^◌, true, false, List, Option, None, Some}
use Rattle.mount_log.proofs.Items.{some_is}
use Rattle.mount_log.specs.CallGraphs.{call_at}
use Rattle.mount_log.specs.declared.call_graphs.CallAt.{CallAt}
use Rattle.error_audit.specs.Evidence.{HaveNumbers}
use Rattle.error_audit.proofs.Evidenced.{numbers_of, call_of, same_span}
use Rattle.error_audit.proofs.io_causes.span_of.Goals as goal

pub returns-clause-graph : goal.returns-clause-graph
returns-clause-graph c =
    c.unit_of.ensures ∙ sym (call_of c.args.script.now c.args.log.now c.args.tables.now c.requires c.as_slice.result.now c.args.reply.now.call c.in-Some.at c.as_slice.ensures.value (sym c.in-Some.ensures)).graph_is

pub returns-clause-since : goal.returns-clause-since
returns-clause-since c = sym (call_of c.args.script.now c.args.log.now c.args.tables.now c.requires c.as_slice.result.now c.args.reply.now.call c.in-Some.at c.as_slice.ensures.value (sym c.in-Some.ensures)).event_is

pub returns-clause-from_one : goal.returns-clause-from_one
returns-clause-from_one c =
    subst (λ (n : ℕ). 1 ≤ n) (sym c.unit_of.ensures) (call_of c.args.script.now c.args.log.now c.args.tables.now c.requires c.as_slice.result.now c.args.reply.now.call c.in-Some.at c.as_slice.ensures.value (sym c.in-Some.ensures)).from_one

pub returns-clause-numbers : goal.returns-clause-numbers
returns-clause-numbers c =
    subst (λ (n : ℕ). HaveNumbers c.args.log.now n (map (λ l. l.items) c.args.tables.now.openings.items)) (sym c.unit_of.ensures)
    (numbers_of c.args.script.now c.args.log.now c.args.tables.now c.requires c.messages_read_back.ensures c.in-Some.at.graph (c.fits.ensures.0 c.if-not-fits.false))

pub returns-clause-complete : goal.returns-clause-complete
returns-clause-complete c = λ at there low.
    let same : c.in-Some.at ≡ at = some_is c.in-Some.at at (c.in-Some.ensures ∙ ap (λ (l : List CallAt). call_at l c.args.reply.now.call) c.as_slice.ensures.value ∙ there) in
    same_span c.unit_of.result c.in-Some.at.event at (c.unit_of.ensures ∙ ap (λ (a : CallAt). a.graph) same) (ap (λ (a : CallAt). a.event) same)

pub returns-in_default-clause-complete : goal.returns-in_default-clause-complete
returns-in_default-clause-complete c = λ at there low.
    let none : ◌≡◌ {A = Option CallAt} None (Some at) = c.in_default.ensures ∙ ap (λ (l : List CallAt). call_at l c.args.reply.now.call) c.as_slice.ensures.value ∙ there in absurd cc

pub returns-then-not-fits-clause-complete : goal.returns-then-not-fits-clause-complete
returns-then-not-fits-clause-complete c = λ at there low.
    let same : c.in-Some.at ≡ at = some_is c.in-Some.at at (c.in-Some.ensures ∙ ap (λ (l : List CallAt). call_at l c.args.reply.now.call) c.as_slice.ensures.value ∙ there) in
    let e : false ≡ true = sym c.if-not-fits.true ∙ c.fits.ensures.1 (subst (λ (a : CallAt). a.graph < 2 ^ 32) (sym same) low) in absurd cc
