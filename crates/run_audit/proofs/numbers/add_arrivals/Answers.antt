use Rattle.std.proofs.Common.{◌≡◌, ap, ◌∙◌, ◌++◌}
use Rattle.std.specs.Prelude.{ℕ, List}
use Rattle.run_audit.proofs.Arriving.{arrived_by}
use Rattle.run_audit.proofs.numbers.add_arrivals.Goals as goal

pub returns : goal.returns
returns c = c.in_ok-add_due.ensures ∙ ap (λ (l : List ℕ). c.args.numbers.now ++ l) (arrived_by c.args.log.now.events c.args.heads.now c.requires)
