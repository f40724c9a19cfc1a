use Rattle.self_heal.proofs.Lasting.{waits_are_open}
use Rattle.self_heal.proofs.laws.waits_are_open.Goals as goal

pub returns : goal.returns
returns c = waits_are_open
