use Rattle.std.specs.Prelude.{◌≡◌, IsOk}
use Rattle.run_commands.specs.Seeds.{IsSeeded}
use Rattle.run_commands.proofs.Seeding.{starts, seeded, where_made}
use Rattle.run_commands.proofs.generating.run_generated.Goals as goal

pub returns-clause-seeded : goal.returns-clause-seeded
returns-clause-seeded c = where_made c.line_left.result ((c.line_left.new.rack ≡ c.into_parts-script.result.2) × IsOk c.run-ran.result) (IsSeeded c.args.number c.args.script c.args.plans c.line_left.new.rack)
    (seeded c.args.number c.args.script c.args.plans c.in_ok-world.world c.run-ran.new.self c.run-ran.result c.into_parts-script.result.2 c.line_left.new.rack
    (starts c.args.script c.args.plans c.in_ok-world.world c.in_ok-world.ensures.start c.in_ok-world.ensures.events c.in_ok-world.ensures.agenda) c.run-ran.ensures.run c.into_parts-script.ensures.rack)
    c.line_left.ensures.kept
