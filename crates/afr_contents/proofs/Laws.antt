-- What is found at replicas, of every state.
use Rattle.afr_contents.specs.Found.{FreeIsGood, ReadyHaveAdopted, AppliersHaveAdopted, SourcesAreGood}
use Rattle.afr_contents.proofs.Coming.{every_copy_is_good}
use Rattle.afr_contents.proofs.Found.{free_is_good, ready_have_adopted, appliers_have, source_good}

pub free_good : FreeIsGood
free_good size m is r = free_is_good size m (every_copy_is_good size m is r)

pub ready_adopted : ReadyHaveAdopted
ready_adopted size m is r = ready_have_adopted size m is r (every_copy_is_good size m is r)

pub appliers_adopted : AppliersHaveAdopted
appliers_adopted size m is r t u k cell a = appliers_have size m is r (every_copy_is_good size m is r) t u k cell a

pub sources_good : SourcesAreGood
sources_good size m is r t i run cell copies has last in_it = source_good size m is r (every_copy_is_good size m is r) t run cell copies has last i in_it
