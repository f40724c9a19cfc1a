use Rattle.self_heal.proofs.Backing.{clears_follow_replacements}
use Rattle.self_heal.proofs.laws.clears_follow_replacements.Goals as goal

pub returns : goal.returns
returns c = clears_follow_replacements
