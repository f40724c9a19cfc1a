-- What a node does with a frame, as a step that meets the law.
use Rattle.std.proofs.Common.{◌≡◌, ◌∙◌, ℕ, ◌+◌, ◌<◌, ◌≤◌, Bool, true, false, ◌||◌, ◌==◌, List, [], ◌∷◌, refl, sym, ap, subst, arith}
use Rattle.xlator_law.specs.Law.{Promise, Slots, IsNone, IsWinding, IsWaiting, IsStepFrom, with_winds}
use Rattle.xlator_law.specs.declared.step.Step.{Step}
use Rattle.xlator_law.specs.declared.step.Step.TheVariants as step
use Rattle.graph_items.specs.declared.items.Down.{Down}
use Rattle.graph_items.specs.declared.items.Up.{Up}
use Rattle.graph_nodes.specs.declared.locals.Local.{Local}
use Rattle.graph_nodes.specs.Moves.{IsMove, to_child}
use Rattle.graph_nodes.specs.Moves.Move.{On, Waits, Back}

or_false : (b : Bool) → (b || false) ≡ b
or_false true = refl
or_false false = refl

module _ (p : Promise Down Local) (before : Slots) (most : ℕ) where
  pub wound : (ws : List (ℕ × ℕ × Down)) (l : Local) (s : Step Down Up Local) → IsWinding p before most ws l → IsMove (On ws l) s → IsStepFrom p before most s
  wound ws l (step.Wind winds kept) h m =
      subst (λ (k : Local). IsWinding p before most winds.items k) (sym m.1) (subst (λ (xs : List (ℕ × ℕ × Down)). IsWinding p before most xs l) (sym m.0) h)
  wound ws l (step.Wait kept) h m = absurd m
  wound ws l (step.Unwind reply) h m = absurd m

  pub waited : (l : Local) (s : Step Down Up Local) → IsWaiting p before most l → IsMove (Waits l) s → IsStepFrom p before most s
  waited l s h m = subst (λ (x : Step Down Up Local). IsStepFrom p before most x) (sym m) h

  pub unwound : (reply : Up) (s : Step Down Up Local) → IsNone before → IsMove (Back reply) s → IsStepFrom p before most s
  unwound reply s h m = subst (λ (x : Step Down Up Local). IsStepFrom p before most x) (sym m) h

  -- one thing is handed to a child, in slot 0
  pub handed : (child : ℕ) (d : Down) (l : Local) (s : Step Down Up Local) → IsNone before → child < p.children → 0 < p.slots → 1 + p.child_cost child d + p.left l ≤ most
      → ((k : ℕ) → p.unanswered l k ≡ (k == 0)) → p.waits l ≡ false → p.owns l ≡ true → IsMove (to_child child d l) s → IsStepFrom p before most s
  handed child d l s none low slots paid kept going own m = wound ((child, 0, d) ∷ []) l s (record {
    fresh = (none 0, refl, tt);
    within = (low, slots, tt);
    paid = omega (arith, paid);
    kept = λ k. kept k ∙ sym (ap (λ (b : Bool). b || ((k == 0) || false)) (none k) ∙ or_false (k == 0));
    some = (0, kept 0);
    going = going;
    own = own;
  }) m
