-- The steps that open and end no wind keep what every reached stack keeps.
use Rattle.std.proofs.Common.{◌≡◌, refl, sym, ap, subst, ◌∙◌, arith, set, inl, inr}
use Rattle.std.specs.Prelude.{ℕ, ◌≢◌, ◌⊎◌, ◌≤◌, ◌<◌, ◌+◌, ◌*◌, ◌==◌, Bool, true, List, [], ◌++◌, Option, Some, None, IfSome, IsSomeAnd}
use Rattle.std.proofs.lemmas.Bool.{cases_eq, eq-eqb}
use Rattle.std.proofs.lemmas.List.{length-set, get_or-set_same, get_or-set_other, append-nil}
use Rattle.xlator_law.specs.declared.winds.WindNo.{WindNo}
use Rattle.xlator_law.specs.declared.winds.Place.{Place}
use Rattle.frame_stack.specs.declared.frame.Opener.{Opener}
use Rattle.frame_stack.specs.declared.frame.Frame.{Frame}
use Rattle.frame_stack.specs.Cells.{cell_at, put_at, IsInserted}
use Rattle.frame_stack.specs.Stack.{Stack, Line, frame_at, word_at, word_of, pending, replied, HasParent, opener_of, with_local, keeping, without_frame, HasNoWind, is_in}
use Rattle.frame_stack.specs.Moves.{Move}
use Rattle.frame_stack.specs.Reached.{IsOpenAs}
use Rattle.frame_stack.proofs.Vacancy.{some_within}
use Rattle.frame_stack.proofs.Puts.{put_same, put_other, set_default}
use Rattle.frame_stack.proofs.Lists.{none_passes, and_true}
use Rattle.frame_stack.proofs.Sound.{in_range}
use Rattle.frame_stack.proofs.Reported.{AreReported, Says, IsSlot, IsUnder, still_under, frames_changed}
use Rattle.frame_stack.proofs.Openers.{opener_word, opener_settled}

pub says_still : {b : Bool} {n m m2 : ℕ} → Says b n m → (n ≤ m2 → n ≤ m) → (m2 < n → m < n) → Says b n m2
says_still s f g = record { yes = λ h. s.yes (f h); no = λ h. s.no (g h) }

module _ {L : Type 0} where
  -- an open frame in the opener's graph and call
  abbrev IsFrameOf : Opener → Option (Frame L) → Type 0
  IsFrameOf o c = IsSomeAnd c (λ f. (f.place.graph ≡ o.graph) × (f.place.call ≡ o.call))

  some_frame : (f g : Frame L) → Some f ≡ Some g → f ≡ g
  some_frame f g e = cc

  -- a place whose parent wind is open is under it
  pub under_parent : (s : Stack L) (p : Place) → HasParent s p.graph p.call p.parent → IsUnder s p
  under_parent s p has = by_parent p.parent has where
    by_opener : (w : WindNo) (c : Option Opener) → opener_of s w ≡ c → IsSomeAnd c (λ o. (o.graph ≡ p.graph) × (o.call ≡ p.call)) → (pending w ≤ word_at s w.slot) × IfSome (opener_of s w) (λ o. (o.graph ≡ p.graph) × (o.call ≡ p.call))
    by_opener w None at h = absurd h
    by_opener w (Some o) at h = (word (opener_word s w o at).0, subst (λ (c : Option Opener). IfSome c (λ o. (o.graph ≡ p.graph) × (o.call ≡ p.call))) (sym at) h) where
      word : (word_at s w.slot ≡ pending w) ⊎ (word_at s w.slot ≡ replied w) → pending w ≤ word_at s w.slot
      word (inl e) = omega (arith, e)
      word (inr e) = omega (arith, e)

    by_parent : (parent : Option WindNo) → IfSome parent (λ w. IsSomeAnd (opener_of s w) (λ o. (o.graph ≡ p.graph) × (o.call ≡ p.call))) → IfSome parent (λ w. (pending w ≤ word_at s w.slot) × IfSome (opener_of s w) (λ o. (o.graph ≡ p.graph) × (o.call ≡ p.call)))
    by_parent None h = tt
    by_parent (Some w) h = by_opener w (opener_of s w) refl h

  pub frame_opened : (s t : Stack L) (moves : List Move) (handed : List Line) (key : ℕ) (f : Frame L) → AreReported s moves handed → HasParent s f.place.graph f.place.call f.place.parent → IsInserted s.frames t.frames key f → t ≡ record s { frames = t.frames } → AreReported t moves handed
  frame_opened s t moves handed key f reported has ins is = subst (λ x. AreReported x moves handed) (sym is) (frames_changed s t.frames moves handed reported (λ k o at stands. stay o stands (cases_eq o.frame key)) (λ k g at. under k g at (cases_eq k key))) where
    stay : (o : Opener) → IsOpenAs s.frames o → (o.frame ≡ key) ⊎ (o.frame ≢ key) → IsOpenAs t.frames o
    stay o stands (inl same) = absurd (subst (IsFrameOf o) (ap (cell_at s.frames) same ∙ ins.vacant) stands)
    stay o stands (inr differs) = subst (IsFrameOf o) (sym (ap (λ fs. cell_at fs o.frame) ins.put ∙ put_other s.frames key o.frame (Some f) None differs)) stands

    under : (k : ℕ) (g : Frame L) → cell_at t.frames k ≡ Some g → (k ≡ key) ⊎ (k ≢ key) → IsUnder s g.place
    under k g at (inl same) = subst (λ (x : Frame L). IsUnder s x.place) (some_frame f g (sym (put_same s.frames key (Some f) None ins.within) ∙ ap (λ n. cell_at (put_at s.frames key (Some f)) n) (sym same) ∙ ap (λ fs. cell_at fs k) (sym ins.put) ∙ at)) (under_parent s f.place has)
    under k g at (inr differs) = reported.parents k g (sym (ap (λ fs. cell_at fs k) ins.put ∙ put_other s.frames key k (Some f) None differs) ∙ at)

  local_kept : (s : Stack L) (moves : List Move) (handed : List Line) (key : ℕ) (local : Option L) (c : Option (Frame L)) → frame_at s key ≡ c → AreReported s moves handed → AreReported (keeping s key local c) moves handed
  local_kept s moves handed key local None at reported = reported
  local_kept s moves handed key local (Some f) at reported = frames_changed s (set s.frames key (Some g)) moves handed reported (λ k o is stands. stay o stands (cases_eq o.frame key)) (λ k h is. under k h is (cases_eq k key)) where
    g : Frame L
    g = record f { local = local }

    here : cell_at (set s.frames key (Some g)) key ≡ Some g
    here = get_or-set_same s.frames key (Some g) None (some_within s.frames key f at)

    stay : (o : Opener) → IsOpenAs s.frames o → (o.frame ≡ key) ⊎ (o.frame ≢ key) → IsOpenAs (set s.frames key (Some g)) o
    stay o stands (inl same) = subst (IsFrameOf o) (sym (ap (λ n. cell_at (set s.frames key (Some g)) n) same ∙ here)) (subst (IsFrameOf o) (ap (cell_at s.frames) same ∙ at) stands)
    stay o stands (inr differs) = subst (IsFrameOf o) (sym (get_or-set_other s.frames key o.frame (Some g) None differs)) stands

    under : (k : ℕ) (h : Frame L) → cell_at (set s.frames key (Some g)) k ≡ Some h → (k ≡ key) ⊎ (k ≢ key) → IsUnder s h.place
    under k h is (inl same) = subst (λ (x : Frame L). IsUnder s x.place) (some_frame g h (sym here ∙ ap (λ n. cell_at (set s.frames key (Some g)) n) (sym same) ∙ is)) (reported.parents key f at)
    under k h is (inr differs) = reported.parents k h (sym (get_or-set_other s.frames key k (Some g) None differs) ∙ is)

  pub local_changed : (s : Stack L) (moves : List Move) (handed : List Line) (key : ℕ) (local : Option L) → AreReported s moves handed → AreReported (with_local s key local) moves handed
  local_changed s moves handed key local reported = local_kept s moves handed key local (frame_at s key) refl reported

  pub frame_freed : (s : Stack L) (moves : List Move) (handed : List Line) (key : ℕ) → AreReported s moves handed → HasNoWind s key → AreReported (without_frame s key) moves handed
  frame_freed s moves handed key reported none = frames_changed s (set s.frames key None) moves handed reported (λ k o is stands. subst (IsFrameOf o) (sym (get_or-set_other s.frames key o.frame None None (λ same. apart o k is same))) stands) (λ k g is. under k g is (cases_eq k key)) where
    apart : (o : Opener) (k : ℕ) → cell_at s.openers k ≡ Some o → o.frame ≢ key
    apart o k is same = let passes : is_in key o.slot (Some o) ≡ true = and_true (o.frame == key) (o.slot == o.slot) (eq-eqb o.frame key same) (eq-eqb o.slot o.slot refl) in let fails = none_passes (is_in key o.slot) s.openers k o (none o.slot) is in absurd cc

    under : (k : ℕ) (g : Frame L) → cell_at (set s.frames key None) k ≡ Some g → (k ≡ key) ⊎ (k ≢ key) → IsUnder s g.place
    under k g is (inl same) = absurd (let e : None ≡ Some g = sym (set_default s.frames key None) ∙ ap (λ n. cell_at (set s.frames key None) n) (sym same) ∙ is in cc)
    under k g is (inr differs) = reported.parents k g (sym (get_or-set_other s.frames key k None None differs) ∙ is)

  pub lines_handed : (s : Stack L) (moves : List Move) (handed : List Line) → AreReported s moves handed → AreReported (record s { lines = [] }) moves (handed ++ s.lines)
  lines_handed s moves handed t = record {
    reported = append-nil (handed ++ s.lines) ∙ t.reported;
    orderly = t.orderly;
    lengths = t.lengths;
    opened = t.opened;
    ended = t.ended;
    slots = t.slots;
    held = t.held;
    parents = t.parents;
    numbered = t.numbered;
    counted = t.counted;
  }

  pub wind_settled : (s : Stack L) (moves : List Move) (handed : List Line) (w : WindNo) → AreReported s moves handed → word_at s w.slot ≡ pending w → AreReported (record s { words = set s.words w.slot (replied w) }) moves handed
  wind_settled s moves handed w t at = record {
    reported = t.reported;
    orderly = t.orderly;
    lengths = length-set s.words w.slot (replied w) ∙ t.lengths;
    opened = λ v. elim (cases_eq v.slot w.slot) [
      | inl same ↦ let old = before v.slot same in let new = after v.slot same in says_still (t.opened v) (λ h. omega (arith, h, old, new)) (λ h. omega (arith, h, old, new))
      | inr differs ↦ let e = other v.slot differs in says_still (t.opened v) (λ h. omega (arith, h, e)) (λ h. omega (arith, h, e))
    ];
    ended = λ v. elim (cases_eq v.slot w.slot) [
      | inl same ↦ let old = before v.slot same in let new = after v.slot same in says_still (t.ended v) (λ h. omega (arith, h, old, new)) (λ h. omega (arith, h, old, new))
      | inr differs ↦ let e = other v.slot differs in says_still (t.ended v) (λ h. omega (arith, h, e)) (λ h. omega (arith, h, e))
    ];
    slots = λ k. elim (cases_eq k w.slot) [
      | inl same ↦ subst (λ n. IsSlot moves k (cell_at s.openers k) n) (sym (after k same)) (moved k (cell_at s.openers k) (subst (λ n. IsSlot moves k (cell_at s.openers k) n) (before k same) (t.slots k)))
      | inr differs ↦ subst (λ n. IsSlot moves k (cell_at s.openers k) n) (sym (other k differs)) (t.slots k)
    ];
    held = t.held;
    parents = λ key f is. still_under s (record s { words = set s.words w.slot (replied w) }) f.place (λ v h. (risen v h (cases_eq v.slot w.slot), inl (opener_settled s w at v))) (t.parents key f is);
    numbered = t.numbered;
    counted = t.counted;
  } where
    before : (k : ℕ) → k ≡ w.slot → word_of s.words k ≡ w.turn * 4 + 1
    before k same = ap (word_of s.words) same ∙ at

    after : (k : ℕ) → k ≡ w.slot → word_of (set s.words w.slot (replied w)) k ≡ w.turn * 4 + 2
    after k same = ap (word_of (set s.words w.slot (replied w))) same ∙ get_or-set_same s.words w.slot (replied w) 0 (in_range s.words w.slot (omega (arith, at)))

    other : (k : ℕ) → k ≢ w.slot → word_of (set s.words w.slot (replied w)) k ≡ word_of s.words k
    other k differs = get_or-set_other s.words w.slot k (replied w) 0 differs

    risen : (v : WindNo) → pending v ≤ word_at s v.slot → (v.slot ≡ w.slot) ⊎ (v.slot ≢ w.slot) → pending v ≤ word_of (set s.words w.slot (replied w)) v.slot
    risen v h (inl same) = let old = before v.slot same in let new = after v.slot same in omega (arith, h, old, new)
    risen v h (inr differs) = let e = other v.slot differs in omega (arith, h, e)

    moved : (k : ℕ) (c : Option Opener) → IsSlot moves k c (w.turn * 4 + 1) → IsSlot moves k c (w.turn * 4 + 2)
    moved k None was = absurd (let e = was.1 in omega (arith, e))
    moved k (Some o) was = (was.0, inr (turned was.0 was.1), was.2, was.3) where
      turned : (turn : ℕ) → (w.turn * 4 + 1 ≡ turn * 4 + 1) ⊎ (w.turn * 4 + 1 ≡ turn * 4 + 2) → w.turn * 4 + 2 ≡ turn * 4 + 2
      turned turn (inl e) = omega (arith, e)
      turned turn (inr e) = absurd (omega (arith, e))
