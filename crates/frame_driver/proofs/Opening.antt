-- The winds of a step, as they are opened one after another.
use Rattle.std.proofs.Common.{◌≡◌, refl, sym, ap, subst, ◌∙◌}
use Rattle.std.proofs.lemmas.List.{append-nil}
use Rattle.std.specs.Prelude.{ℕ, List, [], ◌∷◌, ◌++◌, Option, Some, None}
use Rattle.xlator_law.specs.declared.winds.Place.{Place}
use Rattle.xlator_law.specs.declared.winds.WindNo.{WindNo}
use Rattle.frame_stack.specs.declared.frame.Frame.{Frame}
use Rattle.frame_stack.specs.Cells.{cell_at}
use Rattle.frame_stack.specs.Stack.{Stack, awaits, frame_at, HasNoWind, with_local, without_frame}
use Rattle.frame_driver.specs.declared.board.Board.{Board}
use Rattle.frame_driver.specs.declared.wiring.Wiring.{Wiring}
use Rattle.frame_driver.specs.Leading.{Leads}
use Rattle.frame_driver.specs.Machine.{IsAt, IsWoundDown, AreWoundDown, IsCutOff, MayWind, AreWired}
use Rattle.frame_driver.specs.Machine.AreWoundDown.{NoWind, OneMore}
use Rattle.frame_driver.specs.Tasks.{ParentIsOurs}
use Rattle.frame_driver.proofs.Carrying.{bare}
use Rattle.frame_driver.proofs.Leading.{leads_same, leads_then, leads_still, leads_local, leads_freed}
use Rattle.frame_driver.proofs.Winding.{wound_stack, graph_kept}

-- the winds of `done` were opened, and `rest` may be
pub record Winding {F R L : Type 0} (wiring : Wiring) (place : Place) (key : ℕ) (old now : Board F R L) (all rest : List (ℕ × ℕ × F)) : Type 0 where
  pub done : List (ℕ × ℕ × F)
  pub split : done ++ rest ≡ all
  pub wound : AreWoundDown wiring place key old done now
  pub may : MayWind now.stack key rest
  pub wired : AreWired wiring place.node rest
  pub there : IsAt now.stack key place
  pub home : place.graph ≡ now.graph
  pub leads : Leads old now

module _ {F R L : Type 0} (wiring : Wiring) (place : Place) (key : ℕ) (old : Board F R L) where
  pub winding_first : (all : List (ℕ × ℕ × F)) → MayWind old.stack key all → AreWired wiring place.node all → IsAt old.stack key place → place.graph ≡ old.graph → Winding wiring place key old old all all
  winding_first all may wired there home = record { done = []; split = refl; wound = NoWind; may = may; wired = wired; there = there; home = home; leads = leads_same old }

  append_one : (xs : List (ℕ × ℕ × F)) (x : ℕ × ℕ × F) (ys : List (ℕ × ℕ × F)) → (xs ++ x ∷ []) ++ ys ≡ xs ++ x ∷ ys
  append_one [] x ys = refl
  append_one (z ∷ zs) x ys = ap (λ l. z ∷ l) (append_one zs x ys)

  pub winding_next : (now next : Board F R L) (all rest : List (ℕ × ℕ × F)) (x : ℕ × ℕ × F) → Winding wiring place key old now all (x ∷ rest) → IsWoundDown wiring place key now next x → Leads now next → Winding wiring place key old next all rest
  winding_next now next all rest x w is leads =
      let frames : next.stack.frames ≡ now.stack.frames = ap (λ (s : Stack L). s.frames) (wound_stack wiring place key now next x is) ∙ ap (λ (s : Stack L). s.frames) is.opened.wound.made in
      record {
        done = w.done ++ x ∷ [];
        split = append_one w.done x rest ∙ w.split;
        wound = OneMore w.done x now next w.wound is;
        may = w.may.1 next.stack (λ k n. ap (λ (s : Stack L). awaits s k n) (wound_stack wiring place key now next x is) ∙ is.opened.awaits k n);
        wired = w.wired.1;
        there = subst (λ (fs : List (Option (Frame L))). IsAt (record now.stack { frames = fs }) key place) (sym frames) w.there;
        home = w.home ∙ sym (graph_kept wiring place key now (x ∷ []) next (OneMore [] x now next NoWind is));
        leads = leads_then old now next w.leads leads;
      }

  pub winding_last : (now : Board F R L) (all : List (ℕ × ℕ × F)) → Winding wiring place key old now all [] → AreWoundDown wiring place key old all now
  winding_last now all w = subst (λ xs. AreWoundDown wiring place key old xs now) (sym (append-nil w.done) ∙ w.split) w.wound

  -- no number was left for the next wind
  pub winding_cut : (now : Board F R L) (all rest : List (ℕ × ℕ × F)) (x : ℕ × ℕ × F) → Winding wiring place key old now all (x ∷ rest) → now.stack.opened ≡ 4294967295 → IsCutOff wiring key place old all now
  winding_cut now all rest x w full = record { done = w.done; next = x; rest = rest; split = w.split; wound = w.wound; full = full }

  -- what the next wind leads to, the winds so far and it lead to
  pub winding_leads : (now next : Board F R L) (all rest : List (ℕ × ℕ × F)) → Winding wiring place key old now all rest → Leads now next → Leads old next
  winding_leads now next all rest w leads = leads_then old now next w.leads leads

-- ---- what the parts of a step lead to

module _ {F R L : Type 0} (a : Board F R L) (key : ℕ) (place : Place) (home : place.graph ≡ a.graph) (at : frame_at a.stack key ≡ bare place) where
  -- the frame waits, and is noted
  pub waited_leads : (local : L) (s : Stack L) (noted : List ℕ) → s ≡ with_local a.stack key (Some local) → Leads a (record a { stack = s; waiting = noted })
  waited_leads local s noted is = subst (λ (t : Stack L). Leads a (record a { stack = t; waiting = noted })) (sym is)
      (leads_then a (record a { stack = with_local a.stack key (Some local) }) (record a { stack = with_local a.stack key (Some local); waiting = noted }) (leads_local a key place None (Some local) home at) (leads_still _ _ refl refl))

  -- the frame ends
  pub ended_leads : (s : Stack L) (n : ℕ) → HasNoWind a.stack key → s ≡ without_frame a.stack key → Leads a (record a { stack = s; frames = n })
  ended_leads s n none is = subst (λ (t : Stack L). Leads a (record a { stack = t; frames = n })) (sym is)
      (leads_then a (record a { stack = without_frame a.stack key }) (record a { stack = without_frame a.stack key; frames = n }) (leads_freed a key place home at none) (leads_still _ _ refl refl))

  -- the frame's winds were opened, and it keeps its local
  pub wound_leads : (mid : Board F R L) (local : L) (s : Stack L) → Leads a mid → mid.stack.frames ≡ a.stack.frames → s ≡ with_local mid.stack key (Some local) → Leads a (record mid { stack = s })
  wound_leads mid local s leads frames is = subst (λ (t : Stack L). Leads a (record mid { stack = t })) (sym is)
      (leads_then a mid (record mid { stack = with_local mid.stack key (Some local) }) leads (leads_local mid key place None (Some local) (home ∙ sym leads.same) (ap (λ fs. cell_at fs key) frames ∙ at)))

  -- a frame that ends has its parent's wind in its graph as before
  pub parent_still : (s : Stack L) (parent : Option WindNo) → s ≡ without_frame a.stack key → ParentIsOurs a.stack a.graph parent → ParentIsOurs s a.graph parent
  parent_still s None is ours = tt
  parent_still s (Some w) is ours = subst (λ (t : Stack L). ParentIsOurs t a.graph (Some w)) (sym is) ours
