-- What is kept of the volumes that are known: marks of the places that they use and of the bricks that they
-- have.
use Rattle.std.specs.Prelude.{◌≡◌, ◌≤◌, ℕ, Bool, List, length}
use Rattle.std.specs.List.{AllByRecursion}
use Rattle.graph_build.specs.Marks.{at}
use Rattle.graph_build.specs.PlanRules.{is_used, is_taken}
use Rattle.graph_build.specs.declared.infos.Info.{Info}

-- over at most 256 others
abbrev pub IsFew : Info → Type 0
IsFew f = length f.below ≤ 256

pub record IsKept (infos : List Info) (used taken : List Bool) : Type 0 where
  pub used_size : length used ≡ 256
  pub taken_size : length taken ≡ 256
  pub uses : (q : ℕ) → at used q ≡ is_used infos q
  pub bricks : (q : ℕ) → at taken q ≡ is_taken infos q
  pub few : AllByRecursion IsFew infos
