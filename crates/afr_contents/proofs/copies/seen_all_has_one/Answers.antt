use Rattle.afr_contents.proofs.OneOnAll.{seen_all_has_one}
use Rattle.afr_contents.proofs.copies.seen_all_has_one.Goals as goal

pub returns : goal.returns
returns c = seen_all_has_one
