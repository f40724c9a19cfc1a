use Rattle.std.proofs.Common.{◌≡◌, ℕ, length, Option, ap, ◌∙◌}
use Rattle.script_lang.specs.declared.scripts.Action.{Action}
use Rattle.hub_tables.specs.PhaseControls.{place_by}
use Rattle.hub_tables.proofs.PhaseControls.{none_unarmed}
use Rattle.hub_tables.proofs.controls.Controls.come_by.Goals as goal

pub returns : goal.returns
returns c = rw (← c.self.view_is)
    (c.place_by.ensures ∙ ap (λ (e : Option (ℕ × Action)). place_by e c.args.action) c.first_of.ensures
    ∙ none_unarmed (length c.self.inside.unarmed.entries) _ (c.is_empty.ensures.0 c.if-not-is_empty.false))
