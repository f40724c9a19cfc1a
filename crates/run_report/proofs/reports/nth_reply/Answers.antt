use Rattle.std.proofs.Common.{◌≡◌, sym, ap, subst, ◌∙◌, arith}
use Rattle.std.specs.Prelude.{Some, None}
use Rattle.std.proofs.lemmas.Option.{slice_get-get_or}
use Rattle.run_report.proofs.reports.nth_reply.Goals as goal

pub returns-in-Some : goal.returns-in-Some
returns-in-Some c =
    c.reply_at.ensures ∙ c.requires.places.each c.args.index (Some c.in-Some.at) (slice_get-get_or c.args.places.now c.args.index None c.requires.within ∙ ap Some c.in-Some.is)

pub returns-in-None : goal.returns-in-None
returns-in-None c = c.requires.places.each c.args.index None (slice_get-get_or c.args.places.now c.args.index None c.requires.within ∙ ap Some c.in-None.is)
