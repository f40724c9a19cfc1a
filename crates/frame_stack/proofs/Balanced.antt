-- Every reached stack has balanced winds.
use Rattle.std.proofs.Common.{◌≡◌, refl, sym, ap, subst, ◌∙◌, arith, inl, inr}
use Rattle.std.specs.Prelude.{ℕ, ◌⊎◌, ◌≤◌, ◌+◌, ◌*◌, ◌==◌, ◌||◌, cond, Bool, true, false, List, [], ◌∷◌, ◌++◌, slice_get, Option, Some, None, IfSome, IsSomeAnd, count_by}
use Rattle.std.proofs.lemmas.Bool.{ne_eqb}
use Rattle.xlator_law.specs.declared.winds.WindNo.{WindNo}
use Rattle.xlator_law.specs.declared.winds.Place.{Place}
use Rattle.frame_stack.specs.declared.frame.Opener.{Opener}
use Rattle.frame_stack.specs.declared.frame.Frame.{Frame}
use Rattle.frame_stack.specs.Cells.{cell_at}
use Rattle.frame_stack.specs.Stack.{Stack, Line, frame_at, word_at, pending, replied, opener_of}
use Rattle.frame_stack.specs.Moves.{Move, openings}
use Rattle.frame_stack.specs.Reached.{IsReached, Started, Opened, Wound, Handed, Settled, Resumed, Kept, Freed, IsOpenAs, HasNoFrame, IsBalanced, WindsAreBalanced, opening, ending}
use Rattle.frame_stack.proofs.Lists.{count_none}
use Rattle.frame_stack.proofs.Reported.{AreReported, IsSlot, IsUnder, started, is_of_graph}
use Rattle.frame_stack.proofs.Openers.{opener_word}
use Rattle.frame_stack.proofs.Steps.{frame_opened, local_changed, frame_freed, lines_handed, wind_settled}
use Rattle.frame_stack.proofs.Opening.{wind_opened}
use Rattle.frame_stack.proofs.Ending.{wind_ended}

module _ {L : Type 0} where
  pub reported : (s : Stack L) (moves : List Move) (handed : List Line) → IsReached s moves handed → AreReported s moves handed
  reported _ _ _ Started = started
  reported _ _ _ (Opened s t moves handed key f before has ins is) = frame_opened s t moves handed key f (reported s moves handed before) has ins is
  reported _ _ _ (Wound s t moves handed key slot w before there _ is) = wind_opened s t moves handed key slot w (reported s moves handed before) there is
  reported _ _ _ (Handed s t moves handed before is) = subst (λ x. AreReported x moves (handed ++ s.lines)) (sym is) (lines_handed s moves handed (reported s moves handed before))
  reported _ _ _ (Settled s t moves handed w before at is) = subst (λ x. AreReported x moves handed) (sym is) (wind_settled s moves handed w (reported s moves handed before) at)
  reported _ _ _ (Resumed s t moves handed w o before at has is) = subst (λ x. AreReported x (moves ++ ending w o ∷ []) handed) (sym is) (wind_ended s moves handed w o (reported s moves handed before) at has)
  reported _ _ _ (Kept s t moves handed key local before is) = subst (λ x. AreReported x moves handed) (sym is) (local_changed s moves handed key local (reported s moves handed before))
  reported _ _ _ (Freed s t moves handed key before none is) = subst (λ x. AreReported x moves handed) (sym is) (frame_freed s moves handed key (reported s moves handed before) none)

  -- no opener is of a graph without a frame
  none_of : (s : Stack L) (moves : List Move) (handed : List Line) (g : ℕ) → AreReported s moves handed → HasNoFrame s g → count_by (is_of_graph g) s.openers ≡ 0
  none_of s moves handed g t none = count_none (is_of_graph g) s.openers refl (λ k o is. ne_eqb o.graph g (λ same. by_frame o (frame_at s o.frame) refl (t.held k o is) same)) where
    by_frame : (o : Opener) (c : Option (Frame L)) → frame_at s o.frame ≡ c → IsSomeAnd c (λ f. (f.place.graph ≡ o.graph) × (f.place.call ≡ o.call)) → o.graph ≡ g → ⊥
    by_frame o None at h same = h
    by_frame o (Some f) at h same = none o.frame f at (h.0 ∙ same)

  held : (s : Stack L) (moves : List Move) (handed : List Line) (w : WindNo) (o : Opener) → AreReported s moves handed → opener_of s w ≡ Some o → IsOpenAs s.frames o
  held s moves handed w o t is = by_case ((word_at s w.slot == pending w) || (word_at s w.slot == replied w)) is where
    by_case : (b : Bool) → cond b (cell_at s.openers w.slot) None ≡ Some o → IsOpenAs s.frames o
    by_case true e = t.held w.slot o e
    by_case false e = absurd cc

  parents : (s : Stack L) (p : Place) → IsUnder s p → IfSome p.parent (λ w. IfSome (opener_of s w) (λ o. (o.graph ≡ p.graph) × (o.call ≡ p.call)))
  parents s p under = by_parent p.parent under where
    by_parent : (parent : Option WindNo) → IfSome parent (λ w. (pending w ≤ word_at s w.slot) × IfSome (opener_of s w) (λ o. (o.graph ≡ p.graph) × (o.call ≡ p.call))) → IfSome parent (λ w. IfSome (opener_of s w) (λ o. (o.graph ≡ p.graph) × (o.call ≡ p.call)))
    by_parent None h = tt
    by_parent (Some w) h = h.1

  -- an open wind's opening has its number
  number_of : (s : Stack L) (moves : List Move) (handed : List Line) (w : WindNo) (o : Opener) → AreReported s moves handed → opener_of s w ≡ Some o → slice_get (openings moves) o.number ≡ Some (opening w o)
  number_of s moves handed w o t is = by_slot (subst (λ c. IsSlot moves w.slot c (word_at s w.slot)) (opener_word s w o is).1 (t.slots w.slot)) where
    same_turn : (turn : ℕ) → (word_at s w.slot ≡ pending w) ⊎ (word_at s w.slot ≡ replied w) → (word_at s w.slot ≡ turn * 4 + 1) ⊎ (word_at s w.slot ≡ turn * 4 + 2) → turn ≡ w.turn
    same_turn turn (inl e) (inl f) = omega (arith, e, f)
    same_turn turn (inl e) (inr f) = absurd (omega (arith, e, f))
    same_turn turn (inr e) (inl f) = absurd (omega (arith, e, f))
    same_turn turn (inr e) (inr f) = omega (arith, e, f)

    by_slot : IsSlot moves w.slot (Some o) (word_at s w.slot) → slice_get (openings moves) o.number ≡ Some (opening w o)
    by_slot was = was.3 ∙ ap (λ (turn : ℕ). Some (opening (record { slot = w.slot; turn = turn }) o)) (same_turn was.0 (opener_word s w o is).0 was.1)

  pub balanced : (s : Stack L) (moves : List Move) (handed : List Line) → IsReached s moves handed → IsBalanced s moves handed
  balanced s moves handed r = let t = reported s moves handed r in record {
    reported = t.reported;
    orderly = t.orderly;
    drained = λ g none. let a = t.counted g in let z = none_of s moves handed g t none in omega (arith, a, z);
    held = λ w o is. held s moves handed w o t is;
    parents = λ key f is. parents s f.place (t.parents key f is);
    counted = t.numbered;
    numbered = λ w o is. number_of s moves handed w o t is;
  }

pub winds_balanced : (L : Type 0) → WindsAreBalanced L
winds_balanced L = balanced {L = L}
