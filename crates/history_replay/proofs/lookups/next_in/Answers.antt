use Rattle.fop_types.specs.Cells.{root}
use Rattle.history_replay.proofs.Paths.{next_there, next_past}
use Rattle.history_replay.proofs.lookups.next_in.Goals as goal

pub returns-in_default : goal.returns-in_default
returns-in_default c = λ other. next_past c.args.path.now root c.args.found.now other c.in_default.ensures.lookup.3

pub returns : goal.returns
returns c = λ other.
    next_there c.args.path.now root c.last_found-parent.result c.args.found.now other c.in-Some.name.now c.in_ok-name.name c.in-Some.ensures.lookup.3.0
    c.in-Some.ensures.lookup.1 c.in_ok-name.ensures c.last_found-parent.ensures
