-- The loops over winds that a step opens, and over winds that end from outside: one turn of each.
use Rattle.std.proofs.Common.{◌≡◌, sym, subst, ap, ◌∙◌}
use Rattle.std.specs.Prelude.{ℕ, ◌+◌, List, [], ◌∷◌, Result, Ok, Err, IsErrAnd, IsErrOf}
use Rattle.xlator_law.specs.declared.winds.Place.{Place}
use Rattle.xlator_law.specs.declared.winds.Settled.{Settled}
use Rattle.frame_stack.specs.Stack.{settled_as}
use Rattle.frame_driver.specs.declared.board.Board.{Board}
use Rattle.frame_driver.specs.declared.items.Bailed.{Bailed}
use Rattle.frame_driver.specs.declared.wiring.Wiring.{Wiring}
use Rattle.frame_driver.specs.Bailing.{won_by, AreEnded, AreOurs}
use Rattle.frame_driver.specs.Leading.{Leads}
use Rattle.frame_driver.specs.Machine.{IsCutOff, IsEnded, IsWoundDown, AreWoundDown}
use Rattle.frame_driver.specs.Tasks.{IsWindOurs}
use Rattle.frame_driver.proofs.Opening.{Winding, winding_next, winding_last, winding_cut}
use Rattle.frame_driver.proofs.Replying.{Ending, ending_next, ending_last, first_ours}

module _ {F R L : Type 0} where
  -- the wind that was taken from the list may be opened, and was
  pub winding_now : (wiring : Wiring) (place : Place) (key : ℕ) (old now : Board F R L) (all list rest : List (ℕ × ℕ × F)) (x : ℕ × ℕ × F) → Winding wiring place key old now all list → list ≡ x ∷ rest → Winding wiring place key old now all (x ∷ rest)
  winding_now wiring place key old now all list rest x w is = subst (λ (l : List (ℕ × ℕ × F)). Winding wiring place key old now all l) is w

  pub winding_on : (wiring : Wiring) (place : Place) (key : ℕ) (old now next : Board F R L) (all list rest : List (ℕ × ℕ × F)) (x : ℕ × ℕ × F) → Winding wiring place key old now all list → list ≡ x ∷ rest → IsWoundDown wiring place key now next x → Leads now next → Winding wiring place key old next all rest
  winding_on wiring place key old now next all list rest x w is wound leads = winding_next wiring place key old now next all rest x (winding_now wiring place key old now all list rest x w is) wound leads

  -- none is left in the list
  pub winding_done : (wiring : Wiring) (place : Place) (key : ℕ) (old now : Board F R L) (all list : List (ℕ × ℕ × F)) → Winding wiring place key old now all list → list ≡ [] → AreWoundDown wiring place key old all now
  winding_done wiring place key old now all list w is = winding_last wiring place key old now all (subst (λ (l : List (ℕ × ℕ × F)). Winding wiring place key old now all l) is w)

  -- no number was left for the wind that was taken from the list
  pub winding_stopped : (wiring : Wiring) (place : Place) (key : ℕ) (old now new : Board F R L) (all list rest : List (ℕ × ℕ × F)) (x : ℕ × ℕ × F) → Winding wiring place key old now all list → list ≡ x ∷ rest → (new ≡ now) × (now.stack.opened ≡ 4294967295) → IsCutOff wiring key place old all new
  winding_stopped wiring place key old now new all list rest x w is full =
      let on : Winding wiring place key old now all (x ∷ rest) = subst (λ (l : List (ℕ × ℕ × F)). Winding wiring place key old now all l) is w in
      subst (λ (b : Board F R L). IsCutOff wiring key place old all b) (sym full.0) (winding_cut wiring place key old now all rest x on full.1)

  -- the wind that was taken from the list ends
  pub ending_on : (all list rest : List (Bailed R)) (x : Bailed R) (old now next : Board F R L) (won more : ℕ) (settled : Settled) → Ending all list old now won → list ≡ x ∷ rest → IsEnded x.wind x.reply now next → settled ≡ settled_as now.stack x.wind → Leads now next → more ≡ won_by settled → Ending all rest old next (won + more)
  ending_on all list rest x old now next won more settled e is ended at leads by =
      let on : Ending all (x ∷ rest) old now won = subst (λ (l : List (Bailed R)). Ending all l old now won) is e in
      subst (λ n. Ending all rest old next (won + n)) (sym by) (ending_next all rest x old now next won settled on ended at leads)

  pub ending_ours : (all list rest : List (Bailed R)) (x : Bailed R) (old now : Board F R L) (won : ℕ) → Ending all list old now won → list ≡ x ∷ rest → IsWindOurs now.stack now.graph x.wind
  ending_ours all list rest x old now won e is = first_ours now.stack now.graph x rest (subst (λ (l : List (Bailed R)). AreOurs now.stack now.graph l) is e.ours)

  pub ending_done : (all list : List (Bailed R)) (old now : Board F R L) (won : ℕ) → Ending all list old now won → list ≡ [] → AreEnded all old now won
  ending_done all list old now won e is = ending_last all old now won (subst (λ (l : List (Bailed R)). Ending all l old now won) is e)

-- an error that `?` hands on as it is
pub handed_on : {T U E : Type 0} (r : Result T E) (e x : E) → IsErrAnd r (λ y. y ≡ e) → IsErrOf r x → IsErrOf {T = U} {E = E} (Err e) x
handed_on (Ok v) e x is h = absurd is
handed_on (Err y) e x is h = let same : y ≡ x = cc in ap (λ z. Err z) (sym is ∙ same)
