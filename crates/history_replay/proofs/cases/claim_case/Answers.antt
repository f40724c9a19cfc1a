use Rattle.std.proofs.Common.{sym, ap, ◌∙◌}
use Rattle.fop_types.specs.Calls.{at_once}
use Rattle.history_replay.specs.code.Cases.{Case}
use Rattle.history_replay.proofs.Adding.{case_said}
use Rattle.history_replay.proofs.cases.claim_case.Goals as goal

pub returns-in_ok-claim_once-in-Some : goal.returns-in_ok-claim_once-in-Some
returns-in_ok-claim_once-in-Some c =
    case_said c.args.case.now c.args.fds.now c.in_ok-claim_once-in-Some.field-0 c.args.claims.now c.claim_once.new.claims c.in-Some.answer
    (ap (λ (k : Case). at_once c.args.fds.now k.call) (sym c.case.view_is) ∙ sym c.in-Some.ensures) c.in_ok-claim_once-in-Some.ensures
