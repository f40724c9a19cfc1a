use Rattle.std.proofs.Common.{◌≡◌, sym, ap, subst, ◌∙◌, map}
use Rattle.std.specs.Prelude.{ℕ, List}
use Rattle.mount_log.specs.Causes.{Lost}
use Rattle.error_audit.specs.Finding.{openings_in, ends_in, loss_out, pair_out}
use Rattle.error_audit.specs.Opened.{openings_to, openings_at}
use Rattle.error_audit.specs.code.Searches.{named, out_of}
use Rattle.error_audit.specs.declared.connections.Opening.{Opening}
use Rattle.error_audit.specs.declared.losses.Loss.{Loss}
use Rattle.error_audit.proofs.Searching.{same_loss}
use Rattle.error_audit.proofs.grants.was_lost.Goals as goal

pub returns-clause-sound : goal.returns-clause-sound
returns-clause-sound c = λ yes. Lost c.number_of-number.result (c.in_ok-yes.ensures.sound yes)

pub returns-clause-exact : goal.returns-clause-exact
returns-clause-exact c =
    let t = c.args.tables.now in let until = c.args.reply.now.event in
    let same : c.openings_at-openings.result.now ≡ openings_in t c.args.brick =
    c.openings_at-openings.ensures ∙ ap (λ l. openings_at (map (λ v. v.items) l) c.args.brick) c.as_slice.ensures.value in
    let loss : c.find_out-loss.result ≡ loss_out t c.args.span until c.args.brick =
    c.find_out-loss.ensures ∙ ap (λ (l : List Opening). out_of l (ends_in t c.args.brick) c.args.span.graph c.args.brick until) same in
    let number : c.number_of-number.result ≡ (pair_out t c.args.span until c.args.brick).1 =
    c.number_of-number.ensures ∙ ap named c.count_openings.ensures
    ∙ ap (λ (l : List Opening). named (openings_to c.find_out-loss.result.found c.args.span.graph c.args.brick l)) same
    ∙ ap (λ (x : Loss). named (openings_to x.found c.args.span.graph c.args.brick (openings_in t c.args.brick))) loss in
    same_loss c.in_ok-yes.yes c.args.log.now c.openings_at-openings.result.now (openings_in t c.args.brick) c.args.plan.now c.args.span.graph c.args.span.since until
    (c.args.brick, c.number_of-number.result) (pair_out t c.args.span until c.args.brick) c.find_out-loss.result (loss_out t c.args.span until c.args.brick)
    same (ap (λ (n : ℕ). (c.args.brick, n)) number) loss c.in_ok-yes.ensures.exact
