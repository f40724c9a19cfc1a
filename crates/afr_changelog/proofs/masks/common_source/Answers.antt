use Rattle.std.proofs.Common.{arith}
use Rattle.afr_changelog.proofs.CommonBits.{naming_more, naming_all, lowest_common}
use Rattle.afr_changelog.proofs.masks.common_source.Goals as goal

pub loop-mask-preserved : goal.loop-mask-preserved
loop-mask-preserved c = λ j. naming_more c.args.masks.now c.loop-mask.mask-index c.loop-mask.common j _ _ c.loop-mask-test.true (c.loop-mask.invariant j)

pub returns-else-common-eq0 : goal.returns-else-common-eq0
returns-else-common-eq0 c = lowest_common _ c.loop-mask.common (omega arith) (c.loop-mask.auto.common-fits.fits) (λ j. naming_all _ _ _ j _ (omega arith) (omega arith) (c.loop-mask.invariant j))
