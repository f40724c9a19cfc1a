-- The first set that has a brick, searched from the front.
use Rattle.std.proofs.Common.{◌≡◌, refl, sym, ap, ◌∙◌, drop, get_or}
use Rattle.std.specs.Prelude.{ℕ, ◌+◌, ◌<◌, ◌≤◌, ◌==◌, true, false, List, [], ◌∷◌, Option, None, Some, length}
use Rattle.std.specs.List.{list_any}
use Rattle.std.proofs.lemmas.List.{at_drop_more, at_drop_all}
use Rattle.fop_types.specs.declared.jobs.SetPlan.{SetPlan}
use Rattle.change_audit.specs.CallGraphs.{set_for}

module _ (sets items : List SetPlan) (k brick : ℕ) (same : items ≡ sets) where
  -- the set at a place, before those behind it
  here : (s : SetPlan) → k < length items → s ≡ get_or items k s → set_for (drop k sets) brick ≡ set_for (s ∷ drop (k + 1) sets) brick
  here s lt is =
      ap (λ (l : List SetPlan). set_for (drop k l) brick) (sym same) ∙ at_drop_more (λ l. set_for l brick) items k s lt ∙ ap (λ (x : SetPlan). set_for (x ∷ drop (k + 1) items) brick) (sym is)
      ∙ ap (λ (l : List SetPlan). set_for (s ∷ drop (k + 1) l) brick) same

  off : (s : SetPlan) (rest : List SetPlan) → list_any (λ b. b == brick) s.bricks ≡ false → set_for (s ∷ rest) brick ≡ set_for rest brick
  off s rest e = rw e refl

  on : (s : SetPlan) (rest : List SetPlan) → list_any (λ b. b == brick) s.bricks ≡ true → set_for (s ∷ rest) brick ≡ Some s.number
  on s rest e = rw e refl

  pub set_next : (s : SetPlan) (all : Option ℕ) → k < length items → s ≡ get_or items k s → list_any (λ b. b == brick) s.bricks ≡ false → set_for (drop k sets) brick ≡ all → set_for (drop (k + 1) sets) brick ≡ all
  set_next s all lt is e so_far = sym (off s (drop (k + 1) sets) e) ∙ sym (here s lt is) ∙ so_far

  pub set_found : (s : SetPlan) (all : Option ℕ) → k < length items → s ≡ get_or items k s → list_any (λ b. b == brick) s.bricks ≡ true → set_for (drop k sets) brick ≡ all → Some s.number ≡ all
  set_found s all lt is e so_far = sym (on s (drop (k + 1) sets) e) ∙ sym (here s lt is) ∙ so_far

  pub none_found : (all : Option ℕ) → length items ≤ k → set_for (drop k sets) brick ≡ all → None ≡ all
  none_found all le so_far = sym (at_drop_all (λ l. set_for l brick) items k le) ∙ ap (λ (l : List SetPlan). set_for (drop k l) brick) same ∙ so_far
