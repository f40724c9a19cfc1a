use Rattle.afr_contents.proofs.Agreeing.{set_is_guarded}
use Rattle.afr_contents.proofs.good.every_set_is_guarded.Goals as goal

pub returns : goal.returns
returns c = set_is_guarded
