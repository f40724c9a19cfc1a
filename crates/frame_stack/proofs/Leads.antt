-- Each call is a step of the reached stacks.
use Rattle.std.proofs.Common.{◌≡◌, refl, sym, ap, subst, ◌∙◌, arith, set}
use Rattle.std.specs.Prelude.{ℕ, ◌==◌, cond, Bool, true, false, List, [], ◌∷◌, ◌++◌, Option, Some, None, IsSome, IfSome}
use Rattle.std.proofs.lemmas.Bool.{eqb-true}
use Rattle.std.proofs.lemmas.List.{append-nil, set-get_or}
use Rattle.xlator_law.specs.declared.winds.WindNo.{WindNo}
use Rattle.frame_stack.specs.declared.frame.Opener.{Opener}
use Rattle.frame_stack.specs.declared.frame.Frame.{Frame}
use Rattle.frame_stack.specs.Cells.{cell_at, IsInserted}
use Rattle.frame_stack.specs.Stack.{Stack, Line, empty_stack, HasParent, frame_at, word_at, pending, replied, awaits, HasNoWind, with_local, without_frame, opener_at, IsWound, after_settle, after_resume, resumed}
use Rattle.frame_stack.specs.Moves.{Move}
use Rattle.frame_stack.specs.Reached.{IsReached, Started, Opened, Wound, Handed, Settled, Resumed, Kept, Freed, Leads, opening, ending, end_of, ended_by}
use Rattle.frame_stack.proofs.Reported.{IsSlot}
use Rattle.frame_stack.proofs.Balanced.{reported}

module _ {L : Type 0} where
  -- a step with no move and no line
  quietly : (s t : Stack L) → ((moves : List Move) (handed : List Line) → IsReached s moves handed → IsReached t moves handed) → Leads s t [] []
  quietly s t f moves handed r = subst (λ m. IsReached t m (handed ++ [])) (sym (append-nil moves)) (subst (λ h. IsReached t moves h) (sym (append-nil handed)) (f moves handed r))

  pub leads_new : IsReached {L = L} empty_stack [] []
  leads_new = Started

  pub leads_open : (s t : Stack L) (key : ℕ) (f : Frame L) → HasParent s f.place.graph f.place.call f.place.parent → IsInserted s.frames t.frames key f → t ≡ record s { frames = t.frames } → Leads s t [] []
  leads_open s t key f has ins is = quietly s t (λ moves handed r. Opened s t moves handed key f r has ins is)

  pub leads_wind : (s t : Stack L) (key slot : ℕ) (w : WindNo) → IsSome (frame_at s key) → awaits s key slot ≡ false → IsWound s t key slot w → Leads s t (opening w (opener_at s key slot) ∷ []) []
  leads_wind s t key slot w there free is moves handed r = subst (λ h. IsReached t (moves ++ opening w (opener_at s key slot) ∷ []) h) (sym (append-nil handed)) (Wound s t moves handed key slot w r there free is)

  pub leads_lines : (s : Stack L) → Leads s (record s { lines = [] }) [] s.lines
  leads_lines s moves handed r = subst (λ m. IsReached (record s { lines = [] }) m (handed ++ s.lines)) (sym (append-nil moves)) (Handed s (record s { lines = [] }) moves handed r refl)

  pub leads_settle : (s : Stack L) (w : WindNo) → Leads s (after_settle s w) [] []
  leads_settle s w = by_case (word_at s w.slot == pending w) refl where
    by_case : (b : Bool) → (word_at s w.slot == pending w) ≡ b → Leads s (cond b (record s { words = set s.words w.slot (replied w) }) s) [] []
    by_case true e = quietly s _ (λ moves handed r. Settled s _ moves handed w r (eqb-true (word_at s w.slot) (pending w) e) refl)
    by_case false e = quietly s s (λ moves handed r. r)

  pub leads_resume : (s : Stack L) (w : WindNo) → Leads s (after_resume s w) (ended_by s w) []
  leads_resume s w = by_case (word_at s w.slot == replied w) refl where
    by_cell : (c : Option Opener) → cell_at s.openers w.slot ≡ c → word_at s w.slot ≡ replied w → Leads s (resumed s w c) (end_of w c) []
    by_cell None at e moves handed r = absurd (let slot = subst (λ c. IsSlot moves w.slot c (word_at s w.slot)) at ((reported s moves handed r).slots w.slot) in let f = slot.1 in omega (arith, e, f))
    by_cell (Some o) at e moves handed r = subst (λ h. IsReached (resumed s w (Some o)) (moves ++ ending w o ∷ []) h) (sym (append-nil handed)) (Resumed s (resumed s w (Some o)) moves handed w o r e at refl)

    by_case : (b : Bool) → (word_at s w.slot == replied w) ≡ b → Leads s (cond b (resumed s w (cell_at s.openers w.slot)) s) (cond b (end_of w (cell_at s.openers w.slot)) []) []
    by_case true e = by_cell (cell_at s.openers w.slot) refl (eqb-true (word_at s w.slot) (replied w) e)
    by_case false e = quietly s s (λ moves handed r. r)

  pub leads_local : (s : Stack L) (key : ℕ) (local : Option L) → Leads s (with_local s key local) [] []
  leads_local s key local = quietly s (with_local s key local) (λ moves handed r. Kept s (with_local s key local) moves handed key local r refl)

  pub leads_free : (s : Stack L) (key : ℕ) → IfSome (frame_at s key) (λ f. (f.local ≡ None) × (HasNoWind s key)) → Leads s (without_frame s key) [] []
  leads_free s key may = by_cell (frame_at s key) refl may where
    by_cell : (c : Option (Frame L)) → frame_at s key ≡ c → IfSome c (λ f. (f.local ≡ None) × (HasNoWind s key)) → Leads s (without_frame s key) [] []
    by_cell None at h = let same : set s.frames key None ≡ s.frames = ap (set s.frames key) (sym at) ∙ set-get_or s.frames key None in subst (λ fs. Leads s (record s { frames = fs }) [] []) (sym same) (quietly s s (λ moves handed r. r))
    by_cell (Some f) at h = quietly s (without_frame s key) (λ moves handed r. Freed s (without_frame s key) moves handed key r h.1 refl)

  -- the same of a state that is known to be what the call makes
  pub settle_to : (s t : Stack L) (w : WindNo) → t ≡ after_settle s w → Leads s t [] []
  settle_to s t w is = subst (λ x. Leads s x [] []) (sym is) (leads_settle s w)

  pub resume_to : (s t : Stack L) (w : WindNo) → t ≡ after_resume s w → Leads s t (ended_by s w) []
  resume_to s t w is = subst (λ x. Leads s x (ended_by s w) []) (sym is) (leads_resume s w)

  pub local_to : (s t : Stack L) (key : ℕ) (local : Option L) → t ≡ with_local s key local → Leads s t [] []
  local_to s t key local is = subst (λ x. Leads s x [] []) (sym is) (leads_local s key local)
