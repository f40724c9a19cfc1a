use Rattle.std.proofs.Common.{ℕ, Option, ap, ◌∙◌}
use Rattle.hub_tables.specs.PhaseControls.{armed_by}
use Rattle.hub_tables.specs.declared.actions.Due.{Due}
use Rattle.hub_tables.proofs.controls.Controls.arms.Goals as goal

pub returns : goal.returns
returns c = rw (← c.self.view_is) (c.armed_by.ensures ∙ ap (λ (e : Option (ℕ × Due)). armed_by e c.args.brick c.args.proc c.args.count c.args.action) c.first_of.ensures)
