-- What is under a frame is of its graph and call.
use Rattle.std.proofs.Common.{◌≡◌, sym, subst, ◌∙◌}
use Rattle.std.specs.Prelude.{ℕ, Option, Some, None, IfSome, IsSomeAnd}
use Rattle.xlator_law.specs.declared.winds.WindNo.{WindNo}
use Rattle.frame_stack.specs.declared.frame.Frame.{Frame}
use Rattle.frame_stack.specs.declared.frame.Opener.{Opener}
use Rattle.frame_stack.specs.Reached.{IsBalanced}
use Rattle.frame_stack.specs.Stack.{Stack, frame_at, opener_of}
use Rattle.frame_stack.proofs.Balanced.{balanced}
use Rattle.frame_driver.specs.Sound.{IsReachable}
use Rattle.frame_laws.specs.Laws.{FramesUnderAreOfTheCall, WindsAreOfTheCall}
use Rattle.frame_laws.specs.Under.{IsOpenIn, IsWoundBy, IsOpenedBy, IsUnder}
use Rattle.frame_laws.specs.Under.IsUnder.{Itself, Further}

-- the frame, which is open, is in this graph and of this call
abbrev pub IsOf : {L : Type 0} → ℕ → ℕ → Option (Frame L) → Type 0
IsOf g call c = IsSomeAnd c (λ f. (f.place.graph ≡ g) × (f.place.call ≡ call))

module _ {L : Type 0} (s : Stack L) (reachable : IsReachable s) (g call : ℕ) where
  facts : IsBalanced s reachable.moves reachable.handed
  facts = balanced s reachable.moves reachable.handed reachable.reached

  pub wind_of : (key : ℕ) (w : WindNo) → IsOpenIn s g call key → (wound : IsWoundBy s key w) → (wound.opener.graph ≡ g) × (wound.opener.call ≡ call)
  wind_of key w is wound = by_cell (frame_at s key) held is where
    held : IsOf wound.opener.graph wound.opener.call (frame_at s key)
    held = subst (λ (k : ℕ). IsOf wound.opener.graph wound.opener.call (frame_at s k)) wound.own (facts.held w wound.opener wound.opened)

    by_cell : (c : Option (Frame L)) → IsOf wound.opener.graph wound.opener.call c → IsOf g call c → (wound.opener.graph ≡ g) × (wound.opener.call ≡ call)
    by_cell None h i = absurd h
    by_cell (Some f) h i = (sym h.0 ∙ i.0, sym h.1 ∙ i.1)

  opened_of : (low high : ℕ) → IsOpenIn s g call high → IsOpenedBy s low high → IsOpenIn s g call low
  opened_of low high is opened = subst (λ (c : Option (Frame L)). IsOf g call c) (sym opened.there) (sym same.0 ∙ mine.0, sym same.1 ∙ mine.1) where
    mine : (opened.wound.opener.graph ≡ g) × (opened.wound.opener.call ≡ call)
    mine = wind_of high opened.wind is opened.wound

    under : IfSome (Some opened.wind) (λ w. IfSome (opener_of s w) (λ o. (o.graph ≡ opened.frame.place.graph) × (o.call ≡ opened.frame.place.call)))
    under = subst (λ (p : Option WindNo). IfSome p (λ w. IfSome (opener_of s w) (λ o. (o.graph ≡ opened.frame.place.graph) × (o.call ≡ opened.frame.place.call)))) opened.parent (facts.parents low opened.frame opened.there)

    same : (opened.wound.opener.graph ≡ opened.frame.place.graph) × (opened.wound.opener.call ≡ opened.frame.place.call)
    same = subst (λ (c : Option Opener). IfSome c (λ o. (o.graph ≡ opened.frame.place.graph) × (o.call ≡ opened.frame.place.call))) opened.wound.opened under

  pub under_of : (low high : ℕ) → IsOpenIn s g call high → IsUnder s low high → IsOpenIn s g call low
  under_of low _ is Itself = is
  under_of low _ is (Further mid high under opened) = under_of low mid (opened_of mid high is opened) under

pub frames_under : (L : Type 0) → FramesUnderAreOfTheCall L
frames_under L s reachable g call low high is under = under_of s reachable g call low high is under

pub winds_of : (L : Type 0) → WindsAreOfTheCall L
winds_of L s reachable g call key w is wound = wind_of s reachable g call key w is wound
