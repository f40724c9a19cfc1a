use Rattle.std.proofs.Common.{ap, sym, ◌∙◌, List, []}
use Rattle.volfile.specs.declared.brick_lines.BrickLine.{BrickLine}
use Rattle.script_lang.specs.declared.scripts.NamedVolfile.{NamedVolfile}
use Rattle.script_commands.specs.Plans.{plans_of}
use Rattle.script_commands.proofs.Planning.{script_planned}
use Rattle.script_commands.proofs.plans.plan.Goals as goal

pub returns-in-Ok-follow_phases-clause-script : goal.returns-in-Ok-follow_phases-clause-script
returns-in-Ok-follow_phases-clause-script c = script_planned c.plans_have_sets.ensures c.plans_have_nodes.ensures c.args.script c.in-Ok.plans c.requires
    (ap (λ (vs : List NamedVolfile). plans_of [] vs c.args.script.bricks) (sym c.as_slice.ensures) ∙ ap (λ (bs : List BrickLine). plans_of [] c.as_slice.result.now bs) (sym c.as_slice-2.ensures) ∙ c.in-Ok.ensures.planned)
