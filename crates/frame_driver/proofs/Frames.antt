-- What changes where the frame of one number is opened, changed or ended, for every fact about frames one by one
-- and for every sum over them.
use Rattle.std.proofs.Common.{◌≡◌, sym, ap, subst, ◌∙◌, arith, set, inl, inr}
use Rattle.std.proofs.lemmas.Bool.{cases_eq}
use Rattle.std.proofs.lemmas.List.{get_or-set_same, get_or-set_other}
use Rattle.std.proofs.lemmas.List.Sums.{sum_by-set, sum_by-append, sum_by-cons}
use Rattle.std.specs.Prelude.{ℕ, ◌≢◌, ◌⊎◌, ◌+◌, [], ◌∷◌, ◌++◌, length, Option, Some, None}
use Rattle.std.specs.List.{sum_by}
use Rattle.xlator_law.specs.declared.winds.Place.{Place}
use Rattle.frame_stack.specs.Cells.{cell_at, put_at, IsInserted}
use Rattle.frame_stack.specs.declared.frame.Frame.{Frame}
use Rattle.frame_stack.specs.Stack.{Stack, frame_at, keeping, with_local, without_frame}
use Rattle.frame_stack.proofs.Puts.{put_last, put_in, put_same, put_other}
use Rattle.frame_stack.proofs.Vacancy.{some_within}

module _ {L : Type 0} where
  pub record Turns (s t : Stack L) (key : ℕ) (was now : Option (Frame L)) : Type 0 where
    pub before : frame_at s key ≡ was
    pub here : frame_at t key ≡ now
    pub others : (k : ℕ) → k ≢ key → frame_at t k ≡ frame_at s k
    pub sums : (f : Option (Frame L) → ℕ) → f None ≡ 0 → sum_by f t.frames + f was ≡ sum_by f s.frames + f now

  pub turns_then : (s t u : Stack L) (key : ℕ) (a b c : Option (Frame L)) → Turns s t key a b → Turns t u key b c → Turns s u key a c
  turns_then s t u key a b c x y = record {
    before = x.before;
    here = y.here;
    others = λ k differs. y.others k differs ∙ x.others k differs;
    sums = λ f none. let p = x.sums f none in let q = y.sums f none in omega (arith, p, q);
  }

  -- the frames are as they were
  pub turns_kept : (s t : Stack L) (key : ℕ) (c : Option (Frame L)) → frame_at s key ≡ c → t.frames ≡ s.frames → Turns s t key c c
  turns_kept s t key c is same = record {
    before = is;
    here = ap (λ fs. cell_at fs key) same ∙ is;
    others = λ k differs. ap (λ fs. cell_at fs k) same;
    sums = λ f none. let p : sum_by f t.frames ≡ sum_by f s.frames = ap (sum_by f) same in omega (arith, p);
  }

  set_turns : (s : Stack L) (key : ℕ) (f : Frame L) (now : Option (Frame L)) → frame_at s key ≡ Some f → Turns s (record s { frames = set s.frames key now }) key (Some f) now
  set_turns s key f now is = record {
    before = is;
    here = get_or-set_same s.frames key now None (some_within s.frames key f is);
    others = λ k differs. get_or-set_other s.frames key k now None differs;
    sums = λ g none.
        let t = sum_by-set g s.frames key now None (some_within s.frames key f is) in
        let o : g (cell_at s.frames key) ≡ g (Some f) = ap g is in
        omega (arith, t, o);
  }

  pub turns_local : (s : Stack L) (key : ℕ) (place : Place) (from to : Option L) → frame_at s key ≡ Some (record { place = place; local = from }) → Turns s (with_local s key to) key (Some (record { place = place; local = from })) (Some (record { place = place; local = to }))
  turns_local s key place from to is =
      let e : with_local s key to ≡ record s { frames = set s.frames key (Some (record { place = place; local = to })) } = ap (keeping s key to) is in
      subst (λ (t : Stack L). Turns s t key (Some (record { place = place; local = from })) (Some (record { place = place; local = to }))) (sym e) (set_turns s key (record { place = place; local = from }) (Some (record { place = place; local = to })) is)

  pub turns_freed : (s : Stack L) (key : ℕ) (f : Frame L) → frame_at s key ≡ Some f → Turns s (without_frame s key) key (Some f) None
  turns_freed s key f is = set_turns s key f None is

  pub turns_inserted : (s t : Stack L) (key : ℕ) (f : Frame L) → IsInserted s.frames t.frames key f → Turns s t key None (Some f)
  turns_inserted s t key f ins = record {
    before = ins.vacant;
    here = ap (λ fs. cell_at fs key) ins.put ∙ put_same s.frames key (Some f) None ins.within;
    others = λ k differs. ap (λ fs. cell_at fs k) ins.put ∙ put_other s.frames key k (Some f) None differs;
    sums = λ g none. let e : sum_by g t.frames ≡ sum_by g (put_at s.frames key (Some f)) = ap (sum_by g) ins.put in let p = by_place g none (cases_eq key (length s.frames)) in omega (arith, e, p);
  } where
    by_place : (g : Option (Frame L) → ℕ) → g None ≡ 0 → (key ≡ length s.frames) ⊎ (key ≢ length s.frames) → sum_by g (put_at s.frames key (Some f)) + g None ≡ sum_by g s.frames + g (Some f)
    by_place g none (inl same) =
        let e : sum_by g (put_at s.frames key (Some f)) ≡ sum_by g (s.frames ++ Some f ∷ []) = ap (sum_by g) (put_last s.frames key (Some f) same) in
        let a = sum_by-append g s.frames (Some f ∷ []) in
        let c = sum_by-cons g (Some f) [] in
        omega (arith, e, a, c, none)
    by_place g none (inr differs) =
        let e : sum_by g (put_at s.frames key (Some f)) ≡ sum_by g (set s.frames key (Some f)) = ap (sum_by g) (put_in s.frames key (Some f) differs) in
        let h = ins.within in
        let t = sum_by-set g s.frames key (Some f) None (omega (arith, h, differs)) in
        let o : g (cell_at s.frames key) ≡ g None = ap g ins.vacant in
        omega (arith, e, t, o)

  -- what holds of each frame by itself holds of all after a change of one, where it holds of that one
  pub each_frame : (P : ℕ → Option (Frame L) → Type 0) (s t : Stack L) (key : ℕ) (was now : Option (Frame L)) → Turns s t key was now → ((k : ℕ) → k ≢ key → P k (frame_at s k)) → P key now → (k : ℕ) → P k (frame_at t k)
  each_frame P s t key was now turns others here k = by_key (cases_eq k key) where
    by_key : (k ≡ key) ⊎ (k ≢ key) → P k (frame_at t k)
    by_key (inl same) = subst (λ i. P i (frame_at t i)) (sym same) (subst (P key) (sym turns.here) here)
    by_key (inr differs) = subst (P k) (sym (turns.others k differs)) (others k differs)
