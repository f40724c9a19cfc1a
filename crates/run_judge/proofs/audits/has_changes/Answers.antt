use Rattle.std.proofs.Common.{subst}
use Rattle.std.specs.Prelude.{ℕ, List, Option, IfSome}
use Rattle.change_audit.specs.Borne.{AreBorne}
use Rattle.read_audit.specs.Taken.{EntriesRestOnNames}
use Rattle.run_judge.proofs.audits.has_changes.Goals as goal

pub returns : goal.returns
returns c = λ yes. record {
  ops = c.args.ops.now;
  files = c.requires.files;
  from = c.in-Some.from;
  names = subst (λ (f : Option (List (Option ℕ))). IfSome f (λ sets. EntriesRestOnNames c.args.script.now c.args.plans.now c.args.log.now c.args.bricks.now c.args.ops.now sets)) c.in-Some.is c.in_ok-taken.ensures;
  borne = subst (λ (l : List (Option ℕ)). AreBorne c.args.script.now c.args.plans.now c.args.log.now c.args.bricks.now c.args.ops.now l) c.as_slice-sets.ensures (c.in_ok-yes.ensures.sound yes);
}
