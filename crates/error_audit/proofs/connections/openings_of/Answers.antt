use Rattle.std.proofs.Common.{refl, ap, ◌∙◌, ◌+◌, ◌++◌, drop}
use Rattle.std.specs.Prelude.{List}
use Rattle.std.proofs.lemmas.List.{append_assoc}
use Rattle.mount_log.proofs.Lists.{grown_by}
use Rattle.error_audit.specs.Opened.{openings_of}
use Rattle.error_audit.specs.declared.connections.Opening.{Opening}
use Rattle.error_audit.proofs.connections.openings_of.Goals as goal

pub loop-line-preserved : goal.loop-line-preserved
loop-line-preserved c =
    let rest = openings_of (drop (c.loop-line.line-index + 1) c.args.sent.now) in
    grown_by openings_of c.args.sent.now c.args.sent.now c.loop-line.line-index c.line-item.result c.loop-line.openings.items c.push_line.new.openings.items rest (openings_of c.args.sent.now) refl c.loop-line-test.true c.line-item.is
    (ap (λ (l : List Opening). l ++ rest) c.in_ok-push_line.ensures ∙ append_assoc c.loop-line.openings.items _ rest) c.loop-line.invariant
