use Rattle.std.proofs.Common.{◌≡◌, refl, sym, ap, subst, ◌∙◌, map}
use Rattle.std.specs.Prelude.{List}
use Rattle.error_audit.specs.Evidence.{HasNumbers}
use Rattle.error_audit.specs.Finding.{openings_in, ends_in, loss_in}
use Rattle.error_audit.specs.Opened.{openings_at}
use Rattle.error_audit.specs.code.Searches.{loss_of}
use Rattle.error_audit.specs.declared.connections.Opening.{Opening}
use Rattle.error_audit.proofs.Searching.{same_loss}
use Rattle.error_audit.proofs.io_causes.is_pair_lost.Goals as goal

pub is_lost-requires-clause-numbers : goal.is_lost-requires-clause-numbers
is_lost-requires-clause-numbers c =
    subst (λ (l : List Opening). HasNumbers c.args.log.now c.args.span.graph c.args.pair.now.0 l)
    (sym (c.openings_at-openings.ensures ∙ ap (λ l. openings_at (map (λ v. v.items) l) c.args.pair.now.0) c.as_slice.ensures.value)) (c.requires.numbers c.args.pair.now.0)

pub returns-clause-exact : goal.returns-clause-exact
returns-clause-exact c =
    let same : c.openings_at-openings.result.now ≡ openings_in c.args.tables.now c.args.pair.now.0 =
    c.openings_at-openings.ensures ∙ ap (λ l. openings_at (map (λ v. v.items) l) c.args.pair.now.0) c.as_slice.ensures.value in
    let loss : c.find_loss-loss.result ≡ loss_in c.args.tables.now c.args.span c.args.reply.now.event c.args.pair.now =
    c.find_loss-loss.ensures
    ∙ ap (λ (l : List Opening). loss_of l (ends_in c.args.tables.now c.args.pair.now.0) c.args.span.graph c.args.pair.now.0 c.args.pair.now.1 c.args.reply.now.event) same in
    same_loss c.in_ok-yes.yes c.args.log.now c.openings_at-openings.result.now (openings_in c.args.tables.now c.args.pair.now.0) c.args.plan.now c.args.span.graph c.args.span.since
    c.args.reply.now.event c.args.pair.now c.args.pair.now c.find_loss-loss.result (loss_in c.args.tables.now c.args.span c.args.reply.now.event c.args.pair.now) same refl loss
    c.in_ok-yes.ensures.exact
