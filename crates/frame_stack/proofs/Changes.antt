-- What the opening of a wind changes, as one wind.
use Rattle.std.proofs.Common.{◌≡◌, sym, subst}
use Rattle.std.specs.Prelude.{ℕ, ◌≤◌, length, Some}
use Rattle.xlator_law.specs.declared.winds.WindNo.{WindNo}
use Rattle.frame_stack.specs.Stack.{Stack, opener_at, IsWound}
use Rattle.frame_stack.specs.Changes.{ChangesOpener}
use Rattle.frame_stack.proofs.Openers.{opener_wound}

pub wound_openers : {L : Type 0} (s t : Stack L) (key slot : ℕ) (w : WindNo) → length s.words ≡ length s.openers → IsWound s t key slot w → ChangesOpener s t w (Some (opener_at s key slot))
wound_openers s t key slot w lengths is = subst (λ (x : Stack _). ChangesOpener s x w (Some (opener_at s key slot))) (sym is.made) (opener_wound s w (opener_at s key slot) is.within (subst (λ n. w.slot ≤ n) (sym lengths) is.within) is.free)
