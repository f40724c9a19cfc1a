use Rattle.afr_laws.proofs.Copies.Follows.{keeps_numbers}
use Rattle.afr_laws.proofs.numbers.every_state_keeps_numbers.Goals as goal

pub returns : goal.returns
returns c = keeps_numbers
