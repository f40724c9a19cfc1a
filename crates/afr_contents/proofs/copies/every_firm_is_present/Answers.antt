use Rattle.afr_contents.proofs.Firm.{firm_is_present}
use Rattle.afr_contents.proofs.copies.every_firm_is_present.Goals as goal

pub returns : goal.returns
returns c = firm_is_present
