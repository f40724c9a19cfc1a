use Rattle.brick_machine.proofs.Taken.{wrong_bytes}
use Rattle.brick_machine.proofs.laws.malformed_bytes_change_nothing.Goals as goal

pub returns : goal.returns
returns c = wrong_bytes
