-- When a plan follows another: its first sets are those of the other, with the same bricks, order and client
-- names, and its later sets have bricks that the other has not.
use Rattle.std.specs.Prelude.{ℕ, ◌==◌, ◌&&◌, not, Bool, false, List, [], ◌∷◌}
use Rattle.std.specs.List.{list_all, list_any}
use Rattle.std.specs.Cmp.Lexicographic.{pointwise}
use Rattle.fop_types.specs.declared.jobs.SetPlan.{SetPlan}

abbrev pub is_same_set : SetPlan → SetPlan → Bool
is_same_set a b = pointwise ◌==◌ a.bricks b.bricks && pointwise (pointwise ◌==◌) a.clients b.clients

abbrev pub has_brick : ℕ → SetPlan → Bool
has_brick brick s = list_any (λ b. b == brick) s.bricks

-- whether no set has a brick of this one
abbrev pub is_new : List SetPlan → SetPlan → Bool
is_new old s = list_all (λ b. not (list_any (has_brick b) old)) s.bricks

-- whether the sets follow: those of `left` still have to come first
abbrev pub sets_follow : List SetPlan → List SetPlan → List SetPlan → Bool
sets_follow old [] new = list_all (is_new old) new
sets_follow old (s ∷ ss) [] = false
sets_follow old (s ∷ ss) (t ∷ ts) = is_same_set s t && sets_follow old ss ts
