-- A plan that follows has at least as many sets.
use Rattle.std.proofs.Common.{◌≡◌, ◌≤◌, true, List, [], ◌∷◌, length, arith}
use Rattle.std.proofs.lemmas.Bool.{and_parts}
use Rattle.graph_build.specs.Follows.{is_same_set, sets_follow}
use Rattle.fop_types.specs.declared.jobs.SetPlan.{SetPlan}

pub longer : (all left sets : List SetPlan) → sets_follow all left sets ≡ true → length left ≤ length sets
longer all [] sets h = omega arith
longer all (s ∷ ss) [] h = absurd cc
longer all (s ∷ ss) (t ∷ ts) h = let more = longer all ss ts (and_parts (is_same_set s t) (sets_follow all ss ts) h).1 in omega (arith, more)
