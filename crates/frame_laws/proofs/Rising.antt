-- The open winds of a frame were opened after the open wind that opened it: their numbers are higher.
use Rattle.std.proofs.Common.{◌≡◌, refl, sym, ap, subst, ◌∙◌, arith, set, inl, inr}
use Rattle.std.proofs.lemmas.Bool.{cases_eq}
use Rattle.std.proofs.lemmas.List.{get_or-set_other}
use Rattle.std.proofs.lemmas.Option.{same_Some, slice_get_within}
use Rattle.std.specs.Prelude.{ℕ, ◌⊎◌, ◌≢◌, ◌≤◌, ◌<◌, List, Option, Some, None, IfSome, IsSomeAnd}
use Rattle.xlator_law.specs.declared.winds.WindNo.{WindNo}
use Rattle.xlator_law.specs.declared.winds.Place.{Place}
use Rattle.frame_stack.specs.declared.frame.Frame.{Frame}
use Rattle.frame_stack.specs.declared.frame.Opener.{Opener}
use Rattle.frame_stack.specs.Cells.{cell_at, put_at, IsInserted}
use Rattle.frame_stack.specs.Moves.{Move, openings}
use Rattle.frame_stack.specs.Reached.{IsReached, opening}
use Rattle.frame_stack.specs.Reached.IsReached.{Started, Opened, Wound, Handed, Settled, Resumed, Kept, Freed}
use Rattle.frame_stack.specs.Stack.{Stack, Line, frame_at, word_at, pending, replied, opener_of, opener_in, opener_at, keeping, with_local, without_frame, IsWound, resumed}
use Rattle.frame_stack.proofs.Balanced.{balanced, reported}
use Rattle.frame_stack.proofs.Changes.{wound_openers}
use Rattle.frame_stack.proofs.Openers.{cases_wind, opener_settled, opener_resumed}
use Rattle.frame_stack.proofs.Puts.{put_same, put_other, set_default}
use Rattle.frame_stack.proofs.Reported.{AreReported}
use Rattle.frame_driver.proofs.Frames.{turns_local, each_frame}

-- what is there after one cell was emptied was there before
emptied : {T : Type 0} (cells : List (Option T)) (key k : ℕ) (x : T) → cell_at (set cells key None) k ≡ Some x → cell_at cells k ≡ Some x
emptied cells key k x is = by_key (cases_eq k key) where
  by_key : (k ≡ key) ⊎ (k ≢ key) → cell_at cells k ≡ Some x
  by_key (inl same) = absurd (let e : None ≡ Some x = sym (set_default cells key None) ∙ ap (cell_at (set cells key None)) (sym same) ∙ is in cc)
  by_key (inr differs) = sym (get_or-set_other cells key k None None differs) ∙ is

module _ {L : Type 0} where
  abbrev pub Rises : Stack L → Type 0
  Rises s = (key : ℕ) (f : Frame L) (w : WindNo) (o : Opener) (j : ℕ) (q : Opener) → frame_at s key ≡ Some f → f.place.parent ≡ Some w → opener_of s w ≡ Some o → cell_at s.openers j ≡ Some q → q.frame ≡ key → o.number < q.number

  -- the number of an open wind is below that of the next one
  pub number_below : (s : Stack L) (moves : List Move) (handed : List Line) → IsReached s moves handed → (w : WindNo) (o : Opener) → opener_of s w ≡ Some o → o.number < s.opened
  number_below s moves handed reached w o is =
      let facts = balanced s moves handed reached in
      let within = slice_get_within (openings moves) o.number (opening w o) (facts.numbered w o is) in
      let counted = facts.counted in
      omega (arith, within, counted)

  -- ---- steps that open no frame and no wind

  -- the second frame, if it is open, is at the place of the first
  abbrev HadPlace : Option (Frame L) → Option (Frame L) → Type 0
  HadPlace was now = (f : Frame L) → now ≡ Some f → (e : Frame L) × (was ≡ Some e) × (e.place ≡ f.place)

  had_itself : (c : Option (Frame L)) → HadPlace c c
  had_itself c f is = (f, is, refl)

  -- frames, open winds and openers were there before
  record Keeps (s t : Stack L) : Type 0 where
    frames : (key : ℕ) → HadPlace (frame_at s key) (frame_at t key)
    winds : (w : WindNo) (o : Opener) → opener_of t w ≡ Some o → opener_of s w ≡ Some o
    cells : (j : ℕ) (q : Opener) → cell_at t.openers j ≡ Some q → cell_at s.openers j ≡ Some q

  kept_rises : (s t : Stack L) → Keeps s t → Rises s → Rises t
  kept_rises s t keeps was key f w o j q at parent opened cell own =
      let had = keeps.frames key f at in
      was key had.0 w o j q had.1 (ap (λ (p : Place). p.parent) had.2 ∙ parent) (keeps.winds w o opened) (keeps.cells j q cell) own

  settled_keeps : (s : Stack L) (w : WindNo) → word_at s w.slot ≡ pending w → Keeps s (record s { words = set s.words w.slot (replied w) })
  settled_keeps s w at = record {
    frames = λ key. had_itself (frame_at s key);
    winds = λ v o is. sym (opener_settled s w at v) ∙ is;
    cells = λ j q is. is;
  }

  resumed_keeps : (s : Stack L) (w : WindNo) (o : Opener) → word_at s w.slot ≡ replied w → Keeps s (resumed s w (Some o))
  resumed_keeps s w o at = record {
    frames = λ key. had_itself (frame_at s key);
    winds = λ v p is. by_wind v p is (cases_wind v w);
    cells = λ j q is. emptied s.openers w.slot j q is;
  } where
    by_wind : (v : WindNo) (p : Opener) → opener_of (resumed s w (Some o)) v ≡ Some p → (v ≡ w) ⊎ (v ≢ w) → opener_of s v ≡ Some p
    by_wind v p is (inl same) = absurd (let e : None ≡ Some p = sym (opener_resumed s w (Some o) at).here ∙ ap (opener_of (resumed s w (Some o))) (sym same) ∙ is in cc)
    by_wind v p is (inr differs) = sym ((opener_resumed s w (Some o) at).others v differs) ∙ is

  freed_keeps : (s : Stack L) (key : ℕ) → Keeps s (without_frame s key)
  freed_keeps s key = record {
    frames = λ k f is. (f, emptied s.frames key k f is, refl);
    winds = λ w o is. is;
    cells = λ j q is. is;
  }

  local_keeps : (s : Stack L) (key : ℕ) (local : Option L) → Keeps s (with_local s key local)
  local_keeps s key local = record {
    frames = by_frame (frame_at s key) refl;
    winds = λ w o. by_winds w o (frame_at s key);
    cells = λ j q. by_cells j q (frame_at s key);
  } where
    by_winds : (w : WindNo) (o : Opener) (c : Option (Frame L)) → opener_of (keeping s key local c) w ≡ Some o → opener_of s w ≡ Some o
    by_winds w o None is = is
    by_winds w o (Some e) is = is

    by_cells : (j : ℕ) (q : Opener) (c : Option (Frame L)) → cell_at (keeping s key local c).openers j ≡ Some q → cell_at s.openers j ≡ Some q
    by_cells j q None is = is
    by_cells j q (Some e) is = is

    by_frame : (c : Option (Frame L)) → frame_at s key ≡ c → (k : ℕ) → HadPlace (frame_at s k) (frame_at (with_local s key local) k)
    by_frame None at = λ k. subst (λ (c : Option (Frame L)). HadPlace (frame_at s k) (frame_at (keeping s key local c) k)) (sym at) (had_itself (frame_at s k))
    by_frame (Some e) at = each_frame (λ k now. HadPlace (frame_at s k) now) s (with_local s key local) key (Some e) (Some (record e { local = local })) (turns_local s key e.place e.local local at) (λ k differs. had_itself (frame_at s k)) (λ f is. (e, at, ap (λ (x : Frame L). x.place) (same_Some (record e { local = local }) f is)))

  -- ---- steps that open a frame or a wind

  -- a frame that is opened has no wind yet
  opened_rises : (s : Stack L) (frames : List (Option (Frame L))) (moves : List Move) (handed : List Line) (key : ℕ) (g : Frame L) → AreReported s moves handed → IsInserted s.frames frames key g → Rises s → Rises (record s { frames = frames })
  opened_rises s frames moves handed key g facts ins was k f w o j q at parent opened cell own = by_key (cases_eq k key) where
    by_key : (k ≡ key) ⊎ (k ≢ key) → o.number < q.number
    by_key (inl same) = absurd (subst (λ (c : Option (Frame L)). IsSomeAnd c (λ x. (x.place.graph ≡ q.graph) × (x.place.call ≡ q.call))) (ap (cell_at s.frames) (own ∙ same) ∙ ins.vacant) (facts.held j q cell))
    by_key (inr differs) = was k f w o j q (sym (ap (λ fs. cell_at fs k) ins.put ∙ put_other s.frames key k (Some g) None differs) ∙ at) parent opened cell own

  next_number : (key slot number : ℕ) (c : Option (Frame L)) → (opener_in key slot number c).number ≡ number
  next_number key slot number None = refl
  next_number key slot number (Some f) = refl

  -- a wind that is opened has the highest number, and has opened no frame yet
  wound_rises : (s t : Stack L) (moves : List Move) (handed : List Line) (key slot : ℕ) (w : WindNo) → IsReached s moves handed → IsWound s t key slot w → Rises s → Rises t
  wound_rises s t moves handed key slot w reached is was k f v o j q at parent opened cell own = by_slot (cases_eq j w.slot) where
    facts : AreReported s moves handed
    facts = reported s moves handed reached

    at_before : frame_at s k ≡ Some f
    at_before = ap (λ (x : Stack L). frame_at x k) (sym is.made) ∙ at

    past : pending v ≤ word_at s v.slot
    past = let h : IfSome (Some v) (λ x. (pending x ≤ word_at s x.slot) × IfSome (opener_of s x) (λ y. (y.graph ≡ f.place.graph) × (y.call ≡ f.place.call))) = subst (λ (p : Option WindNo). IfSome p (λ x. (pending x ≤ word_at s x.slot) × IfSome (opener_of s x) (λ y. (y.graph ≡ f.place.graph) × (y.call ≡ f.place.call)))) parent (facts.parents k f at_before) in h.0

    other : v ≡ w → ⊥
    other same =
        let p = past in
        let free = is.free in
        let turn : v.turn ≡ w.turn = ap (λ (x : WindNo). x.turn) same in
        let word : word_at s v.slot ≡ word_at s w.slot = ap (λ (x : WindNo). word_at s x.slot) same in
        omega (arith, p, free, turn, word)

    opened_before : opener_of s v ≡ Some o
    opened_before = sym ((wound_openers s t key slot w facts.lengths is).others v other) ∙ opened

    cell_now : cell_at (put_at s.openers w.slot (Some (opener_at s key slot))) j ≡ Some q
    cell_now = ap (λ (x : Stack L). cell_at x.openers j) (sym is.made) ∙ cell

    by_slot : (j ≡ w.slot) ⊎ (j ≢ w.slot) → o.number < q.number
    by_slot (inl same) =
        let e : opener_at s key slot ≡ q = same_Some (opener_at s key slot) q (sym (put_same s.openers w.slot (Some (opener_at s key slot)) None is.within) ∙ ap (cell_at (put_at s.openers w.slot (Some (opener_at s key slot)))) (sym same) ∙ cell_now) in
        let n : q.number ≡ s.opened = ap (λ (x : Opener). x.number) (sym e) ∙ next_number key slot s.opened (frame_at s key) in
        let b = number_below s moves handed reached v o opened_before in
        omega (arith, n, b)
    by_slot (inr differs) = was k f v o j q at_before parent opened_before (sym (put_other s.openers w.slot j (Some (opener_at s key slot)) None differs) ∙ cell_now) own

  -- ---- every stack that calls lead to

  pub rises : (s : Stack L) (moves : List Move) (handed : List Line) → IsReached s moves handed → Rises s
  rises _ _ _ Started = λ key f w o j q at parent opened cell own. absurd cc
  rises _ _ _ (Opened s t moves handed key f before has ins is) = subst (λ (x : Stack L). Rises x) (sym is) (opened_rises s t.frames moves handed key f (reported s moves handed before) ins (rises s moves handed before))
  rises _ _ _ (Wound s t moves handed key slot w before there free is) = wound_rises s t moves handed key slot w before is (rises s moves handed before)
  rises _ _ _ (Handed s t moves handed before is) = subst (λ (x : Stack L). Rises x) (sym is) (rises s moves handed before)
  rises _ _ _ (Settled s t moves handed w before at is) = subst (λ (x : Stack L). Rises x) (sym is) (kept_rises s (record s { words = set s.words w.slot (replied w) }) (settled_keeps s w at) (rises s moves handed before))
  rises _ _ _ (Resumed s t moves handed w o before at has is) = subst (λ (x : Stack L). Rises x) (sym is) (kept_rises s (resumed s w (Some o)) (resumed_keeps s w o at) (rises s moves handed before))
  rises _ _ _ (Kept s t moves handed key local before is) = subst (λ (x : Stack L). Rises x) (sym is) (kept_rises s (with_local s key local) (local_keeps s key local) (rises s moves handed before))
  rises _ _ _ (Freed s t moves handed key before none is) = subst (λ (x : Stack L). Rises x) (sym is) (kept_rises s (without_frame s key) (freed_keeps s key) (rises s moves handed before))
