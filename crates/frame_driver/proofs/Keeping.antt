-- A frame whose local is out, as its step is carried out.
use Rattle.std.proofs.Common.{◌≡◌, refl, sym, ap, subst, ◌∙◌}
use Rattle.std.specs.Prelude.{ℕ, List, Option, Some, None, IfSome, IsSomeAnd}
use Rattle.xlator_law.specs.declared.winds.Place.{Place}
use Rattle.frame_stack.specs.Cells.{cell_at}
use Rattle.frame_stack.specs.declared.frame.Frame.{Frame}
use Rattle.frame_stack.specs.Stack.{Stack, frame_at, HasNoWind, with_local, without_frame}
use Rattle.frame_driver.specs.declared.board.Board.{Board}
use Rattle.frame_driver.specs.declared.wiring.Wiring.{Wiring}
use Rattle.frame_driver.specs.Leading.{Leads}
use Rattle.frame_driver.specs.Machine.{IsAt, AreWoundDown, GoesOnWinding}
use Rattle.frame_driver.proofs.Carrying.{bare}
use Rattle.frame_driver.proofs.Leading.{leads_then}
use Rattle.frame_driver.proofs.Opening.{wound_leads, ended_leads}
use Rattle.frame_driver.proofs.Winding.{frames_kept}

module _ {L : Type 0} (s : Stack L) (key : ℕ) (place : Place) (out : frame_at s key ≡ bare place) where
  pub out_at : IsAt s key place
  out_at = subst (λ (c : Option (Frame L)). IsSomeAnd c (λ f. f.place ≡ place)) (sym out) refl

  pub out_none : IsSomeAnd (frame_at s key) (λ f. f.local ≡ None)
  out_none = subst (λ (c : Option (Frame L)). IsSomeAnd c (λ f. f.local ≡ None)) (sym out) refl

  pub out_ends : HasNoWind s key → IfSome (frame_at s key) (λ f. (f.local ≡ None) × HasNoWind s key)
  out_ends none = subst (λ (c : Option (Frame L)). IfSome c (λ f. (f.local ≡ None) × HasNoWind s key)) (sym out) (refl, none)

module _ {F R L : Type 0} (wiring : Wiring) (key : ℕ) (place : Place) (old mid : Board F R L) (winds : List (ℕ × ℕ × F)) (out : frame_at old.stack key ≡ bare place) (wound : AreWoundDown wiring place key old winds mid) where
  -- the local is out still
  pub out_still : IsSomeAnd (frame_at mid.stack key) (λ f. f.local ≡ None)
  out_still = out_none mid.stack key place (ap (λ fs. cell_at fs key) (frames_kept wiring place key old winds mid wound) ∙ out)

  pub wound_kept : (local : L) (s : Stack L) → s ≡ with_local mid.stack key (Some local) → GoesOnWinding wiring key place old winds local (record mid { stack = s })
  wound_kept local s is = record { mid = mid; wound = wound; put = ap (λ (t : Stack L). record mid { stack = t }) is }

  pub wound_led : (local : L) (s : Stack L) → place.graph ≡ old.graph → Leads old mid → s ≡ with_local mid.stack key (Some local) → Leads old (record mid { stack = s })
  wound_led local s home leads is = wound_leads old key place home out mid local s leads (frames_kept wiring place key old winds mid wound) is

-- the frame ends, and what comes then
pub ended_led : {F R L : Type 0} (a : Board F R L) (key : ℕ) (place : Place) (s : Stack L) (n : ℕ) (new : Board F R L) → place.graph ≡ a.graph → frame_at a.stack key ≡ bare place → HasNoWind a.stack key → s ≡ without_frame a.stack key → Leads (record a { stack = s; frames = n }) new → Leads a new
ended_led a key place s n new home out none is leads = leads_then a (record a { stack = s; frames = n }) new (ended_leads a key place home out s n none is) leads
