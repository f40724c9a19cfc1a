use Rattle.std.proofs.Common.{sym, ap, ◌∙◌}
use Rattle.frame_stack.specs.Cells.{cell_at}
use Rattle.frame_stack.proofs.Vacancy.{replaced}
use Rattle.frame_stack.proofs.keyed.Keyed.replace.Goals as goal

pub invariant_of-self : goal.invariant_of-self
invariant_of-self g c = rw c.replace.ensures.after (replaced _ _ _ c.args.key _ c.args.value (ap (λ cs. cell_at cs c.args.key) c.self.view_is ∙ sym c.in-Some.ensures) c.self.invariant)
