-- Each change of a board is one of calls of the stack, and leaves other graphs' frames and winds as they were.
use Rattle.std.proofs.Common.{◌≡◌, refl, sym, ap, subst, ◌∙◌, arith, inl, inr}
use Rattle.std.proofs.lemmas.Bool.{cases_eq, ne_eqb}
use Rattle.std.proofs.lemmas.List.{append-nil, append_assoc}
use Rattle.std.specs.Prelude.{ℕ, ◌≢◌, ◌⊎◌, ◌==◌, ◌||◌, cond, List, [], ◌∷◌, ◌++◌, Option, Some, None, IsSome, IsSomeAnd, count_by}
use Rattle.xlator_law.specs.declared.winds.WindNo.{WindNo}
use Rattle.xlator_law.specs.declared.winds.Place.{Place}
use Rattle.frame_stack.specs.Cells.{cell_at}
use Rattle.frame_stack.specs.Changes.{ChangesOpener}
use Rattle.frame_stack.specs.declared.frame.Frame.{Frame}
use Rattle.frame_stack.specs.declared.frame.Opener.{Opener}
use Rattle.frame_stack.specs.Moves.{Move}
use Rattle.frame_stack.specs.Reached.{IsReached, Opened, Wound, Kept, Freed, Leads as MovesBy, opening, ended_by}
use Rattle.frame_stack.specs.Stack.{Stack, HasParent, HasNoWind, frame_at, word_of, pending, replied, opener_of, opener_at, opener_in, keeping, with_local, without_frame, after_settle, after_resume}
use Rattle.frame_stack.proofs.Leads.{leads_settle, leads_resume}
use Rattle.frame_stack.proofs.Openers.{cases_wind, no_opener}
use Rattle.frame_driver.specs.declared.board.Board.{Board}
use Rattle.frame_driver.specs.Leading.{KeepsOthers, ReachesOn, Leads}
use Rattle.frame_driver.specs.Machine.{IsWindOpened, IsOpened, Ends, IsEnded}
use Rattle.frame_driver.specs.Sound.{is_of, IsReachable}
use Rattle.frame_driver.specs.Tasks.{one, IsOurs, IsOpenerOurs, IsWindOurs}
use Rattle.frame_driver.proofs.Carrying.{bare}
use Rattle.frame_driver.proofs.Ending.{ended_by as ended_either, ends_frames}
use Rattle.frame_driver.proofs.Frames.{Turns, turns_local, turns_freed, turns_inserted}

-- ---- moves of the stack

module _ {L : Type 0} where
  on_same : (a : Stack L) → ReachesOn a a
  on_same a moves handed r = ([], subst (λ m. IsReached a m handed) (sym (append-nil moves)) r)

  on_both : (a b c : Stack L) → ReachesOn a b → ReachesOn b c → ReachesOn a c
  on_both a b c f g moves handed r =
      let one = f moves handed r in
      let two = g (moves ++ one.0) handed one.1 in
      (one.0 ++ two.0, subst (λ m. IsReached c m handed) (append_assoc moves one.0 two.0) two.1)

  on_by : (a b : Stack L) (made : List Move) → MovesBy a b made [] → ReachesOn a b
  on_by a b made leads moves handed r = (made, subst (λ h. IsReached b (moves ++ made) h) (append-nil handed) (leads moves handed r))

-- ---- other graphs

module _ {L : Type 0} (g : ℕ) where
  others_same : (s : Stack L) → KeepsOthers g s s
  others_same s = record { frames = λ key f other is. is; framed = λ key f other is. is; winds = λ w o other is. is; wound = λ w o other is. is; counts = λ h other. refl }

  others_both : (s t u : Stack L) → KeepsOthers g s t → KeepsOthers g t u → KeepsOthers g s u
  others_both s t u a b = record {
    frames = λ key f other is. b.frames key f other (a.frames key f other is);
    framed = λ key f other is. a.framed key f other (b.framed key f other is);
    winds = λ w o other is. b.winds w o other (a.winds w o other is);
    wound = λ w o other is. a.wound w o other (b.wound w o other is);
    counts = λ h other. b.counts h other ∙ a.counts h other;
  }

  -- one frame of the graph changes
  others_turns : (s t : Stack L) (key : ℕ) (was now : Option (Frame L)) → Turns s t key was now → IsOurs g was → IsOurs g now → ((w : WindNo) → opener_of t w ≡ opener_of s w) → KeepsOthers g s t
  others_turns s t key was now turns mine_was mine_now openers = record {
    frames = λ k f other is. by_key k f other is (cases_eq k key);
    framed = λ k f other is. back k f other is (cases_eq k key);
    winds = λ w o other is. openers w ∙ is;
    wound = λ w o other is. sym (openers w) ∙ is;
    counts = λ h other. let c = turns.sums (λ (x : Option (Frame L)). one (is_of h x)) refl in let a = none h other was mine_was in let b = none h other now mine_now in omega (arith, c, a, b);
  } where
    none : (h : ℕ) → h ≢ g → (c : Option (Frame L)) → IsOurs g c → one (is_of h c) ≡ 0
    none h other None mine = refl
    none h other (Some f) mine = ap one (ne_eqb f.place.graph h (λ e. other (sym e ∙ mine)))

    by_key : (k : ℕ) (f : Frame L) → f.place.graph ≢ g → frame_at s k ≡ Some f → (k ≡ key) ⊎ (k ≢ key) → frame_at t k ≡ Some f
    by_key k f other is (inl same) = absurd (other (subst (λ (c : Option (Frame L)). IsOurs g c) (sym turns.before ∙ ap (frame_at s) (sym same) ∙ is) mine_was))
    by_key k f other is (inr differs) = turns.others k differs ∙ is

    back : (k : ℕ) (f : Frame L) → f.place.graph ≢ g → frame_at t k ≡ Some f → (k ≡ key) ⊎ (k ≢ key) → frame_at s k ≡ Some f
    back k f other is (inl same) = absurd (other (subst (λ (c : Option (Frame L)). IsOurs g c) (sym turns.here ∙ ap (frame_at t) (sym same) ∙ is) mine_now))
    back k f other is (inr differs) = sym (turns.others k differs) ∙ is

  -- one wind of the graph is opened or ends
  others_wind : (s t : Stack L) (w : WindNo) (was now : Option Opener) → t.frames ≡ s.frames → opener_of s w ≡ was → ChangesOpener s t w now → ((o : Opener) → was ≡ Some o → o.graph ≡ g) → ((o : Opener) → now ≡ Some o → o.graph ≡ g) → KeepsOthers g s t
  others_wind s t w was now frames at changes mine_was mine_now = record {
    frames = λ k f other is. ap (λ fs. cell_at fs k) frames ∙ is;
    framed = λ k f other is. ap (λ fs. cell_at fs k) (sym frames) ∙ is;
    winds = λ v o other is. on v o other is (cases_wind v w);
    wound = λ v o other is. back v o other is (cases_wind v w);
    counts = λ h other. ap (count_by (is_of h)) frames;
  } where
    on : (v : WindNo) (o : Opener) → o.graph ≢ g → opener_of s v ≡ Some o → (v ≡ w) ⊎ (v ≢ w) → opener_of t v ≡ Some o
    on v o other is (inl same) = absurd (other (mine_was o (sym at ∙ ap (opener_of s) (sym same) ∙ is)))
    on v o other is (inr differs) = changes.others v differs ∙ is

    back : (v : WindNo) (o : Opener) → o.graph ≢ g → opener_of t v ≡ Some o → (v ≡ w) ⊎ (v ≢ w) → opener_of s v ≡ Some o
    back v o other is (inl same) = absurd (other (mine_now o (sym changes.here ∙ ap (opener_of t) (sym same) ∙ is)))
    back v o other is (inr differs) = sym (changes.others v differs) ∙ is

opener_by : {L : Type 0} (s t : Stack L) → t.openers ≡ s.openers → t.words ≡ s.words → (w : WindNo) → opener_of t w ≡ opener_of s w
opener_by s t openers words w = ap (λ ws. cond ((word_of ws w.slot == pending w) || (word_of ws w.slot == replied w)) (cell_at t.openers w.slot) None) words ∙ ap (λ os. cond ((word_of s.words w.slot == pending w) || (word_of s.words w.slot == replied w)) (cell_at os w.slot) None) openers

-- ---- changes of a board

module _ {F R L : Type 0} where
  pub leads_same : (a : Board F R L) → Leads a a
  leads_same a = record { same = refl; reaches = on_same a.stack; others = others_same a.graph a.stack }

  pub leads_then : (a b c : Board F R L) → Leads a b → Leads b c → Leads a c
  leads_then a b c f g = record {
    same = g.same ∙ f.same;
    reaches = on_both a.stack b.stack c.stack f.reaches g.reaches;
    others = others_both a.graph a.stack b.stack c.stack f.others (subst (λ n. KeepsOthers n b.stack c.stack) f.same g.others);
  }

  -- the stack is as it was
  pub leads_still : (a b : Board F R L) → b.graph ≡ a.graph → b.stack ≡ a.stack → Leads a b
  leads_still a b graph stack = record {
    same = graph;
    reaches = subst (λ s. ReachesOn a.stack s) (sym stack) (on_same a.stack);
    others = subst (λ s. KeepsOthers a.graph a.stack s) (sym stack) (others_same a.graph a.stack);
  }

  pub leads_opened : (place : Place) (key : ℕ) (old new : Board F R L) → place.graph ≡ old.graph → HasParent old.stack place.graph place.call place.parent → IsOpened place key old new → Leads old new
  leads_opened place key old new home has o = record {
    same = ap (λ (b : Board F R L). b.graph) o.rest;
    reaches = λ moves handed r. ([], subst (λ m. IsReached new.stack m handed) (sym (append-nil moves)) (Opened old.stack new.stack moves handed key _ r has o.inserted (ap (λ (b : Board F R L). b.stack) o.rest)));
    others = others_turns old.graph old.stack new.stack key None (bare place) (turns_inserted old.stack new.stack key (record { place = place; local = None }) o.inserted) tt home (opener_by old.stack new.stack (ap (λ (b : Board F R L). b.stack.openers) o.rest) (ap (λ (b : Board F R L). b.stack.words) o.rest));
  }

  pub leads_wound : (place : Place) (key slot : ℕ) (old new : Board F R L) (w : WindNo) → place.graph ≡ old.graph → IsWindOpened place key slot old new w → Leads old new
  leads_wound place key slot old new w home is = record {
    same = ap (λ (b : Board F R L). b.graph) is.rest;
    reaches = λ moves handed r. (opening w (opener_at old.stack key slot) ∷ [], Wound old.stack new.stack moves handed key slot w r there is.free is.wound);
    others = others_wind old.graph old.stack new.stack w None (Some (opener_at old.stack key slot)) (ap (λ (s : Stack L). s.frames) is.wound.made) vacant is.openers (λ o e. absurd cc) (λ o e. ap (λ (q : Opener). q.graph) (sym (some_opener (opener_at old.stack key slot) o e)) ∙ mine (frame_at old.stack key) is.there);
  } where
    some_opener : (a b : Opener) → Some a ≡ Some b → a ≡ b
    some_opener a b e = cc

    there : IsSome (frame_at old.stack key)
    there = by_cell (frame_at old.stack key) is.there where
      by_cell : (c : Option (Frame L)) → IsSomeAnd c (λ f. f.place ≡ place) → IsSome c
      by_cell None h = absurd h
      by_cell (Some f) h = refl

    mine : (c : Option (Frame L)) → IsSomeAnd c (λ f. f.place ≡ place) → (opener_in key slot old.stack.opened c).graph ≡ old.graph
    mine None h = absurd h
    mine (Some f) h = ap (λ (p : Place). p.graph) h ∙ home

    vacant : opener_of old.stack w ≡ None
    vacant = let f = is.wound.free in no_opener old.stack w (λ e. omega (arith, e, f)) (λ e. omega (arith, e, f))

  -- the frame of a number gets a local, or loses it
  pub leads_local : (a : Board F R L) (key : ℕ) (place : Place) (from to : Option L) → place.graph ≡ a.graph → frame_at a.stack key ≡ Some (record { place = place; local = from }) → Leads a (record a { stack = with_local a.stack key to })
  leads_local a key place from to home at = record {
    same = refl;
    reaches = λ moves handed r. ([], subst (λ m. IsReached (with_local a.stack key to) m handed) (sym (append-nil moves)) (Kept a.stack (with_local a.stack key to) moves handed key to r refl));
    others = others_turns a.graph a.stack (with_local a.stack key to) key (Some (record { place = place; local = from })) (Some (record { place = place; local = to })) (turns_local a.stack key place from to at) home home (λ w. by_cell w (frame_at a.stack key));
  } where
    by_cell : (w : WindNo) (c : Option (Frame L)) → opener_of (keeping a.stack key to c) w ≡ opener_of a.stack w
    by_cell w None = refl
    by_cell w (Some f) = refl

  pub leads_freed : (a : Board F R L) (key : ℕ) (place : Place) → place.graph ≡ a.graph → frame_at a.stack key ≡ bare place → HasNoWind a.stack key → Leads a (record a { stack = without_frame a.stack key })
  leads_freed a key place home at none = record {
    same = refl;
    reaches = λ moves handed r. ([], subst (λ m. IsReached (without_frame a.stack key) m handed) (sym (append-nil moves)) (Freed a.stack (without_frame a.stack key) moves handed key r none refl));
    others = others_turns a.graph a.stack (without_frame a.stack key) key (bare place) None (turns_freed a.stack key (record { place = place; local = None }) at) home tt (λ w. refl);
  }

  -- a stack that was reached is reached from then on
  pub reached_on : (old new : Board F R L) → Leads old new → IsReachable old.stack → IsReachable new.stack
  reached_on old new l r = let next = l.reaches r.moves r.handed r.reached in record { moves = r.moves ++ next.0; handed = r.handed; reached = next.1 }

  -- a wind of this graph is settled, and ended
  module _ (a : Board F R L) (w : WindNo) where
    pub leads_settled : (s : Stack L) → s ≡ after_settle a.stack w → s.frames ≡ a.stack.frames → ((v : WindNo) → opener_of s v ≡ opener_of a.stack v) → Leads a (record a { stack = s })
    leads_settled s is frames openers = record {
      same = refl;
      reaches = subst (λ t. ReachesOn a.stack t) (sym is) (on_by a.stack (after_settle a.stack w) [] (leads_settle a.stack w));
      others = record { frames = λ k f other i. ap (λ fs. cell_at fs k) frames ∙ i; framed = λ k f other i. ap (λ fs. cell_at fs k) (sym frames) ∙ i; winds = λ v o other i. openers v ∙ i; wound = λ v o other i. sym (openers v) ∙ i; counts = λ h other. ap (count_by (is_of h)) frames };
    }

    pub leads_resumed : (s : Stack L) → s ≡ after_resume a.stack w → s.frames ≡ a.stack.frames → ChangesOpener a.stack s w None → ((o : Opener) → opener_of a.stack w ≡ Some o → o.graph ≡ a.graph) → Leads a (record a { stack = s })
    leads_resumed s is frames changes ours = record {
      same = refl;
      reaches = subst (λ t. ReachesOn a.stack t) (sym is) (on_by a.stack (after_resume a.stack w) (ended_by a.stack w) (leads_resume a.stack w));
      others = others_wind a.graph a.stack s w (opener_of a.stack w) None frames refl changes ours (λ o e. absurd cc);
    }

-- a wind of the graph ends
module _ {F R L : Type 0} (w : WindNo) (reply : R) (old new : Board F R L) (ours : IsWindOurs old.stack old.graph w) where
  opener_mine : (o : Opener) → opener_of old.stack w ≡ Some o → o.graph ≡ old.graph
  opener_mine o is = subst (λ (c : Option Opener). IsOpenerOurs old.graph c) is ours

  ends_leads : Ends w reply old new → Leads old new
  ends_leads e = record {
    same = ap (λ (b : Board F R L). b.graph) e.made;
    reaches = subst (λ (b : Board F R L). ReachesOn old.stack b.stack) (sym e.made) (on_both old.stack (after_settle old.stack w) (after_resume (after_settle old.stack w) w) (on_by old.stack (after_settle old.stack w) [] (leads_settle old.stack w)) (on_by (after_settle old.stack w) (after_resume (after_settle old.stack w) w) (ended_by (after_settle old.stack w) w) (leads_resume (after_settle old.stack w) w)));
    others = others_wind old.graph old.stack new.stack w (opener_of old.stack w) None (ends_frames w reply old new e) refl e.openers opener_mine (λ o i. absurd cc);
  }

  pub leads_ended : IsEnded w reply old new → Leads old new
  leads_ended is = ended_either w reply old new (Leads old) is (leads_same old) ends_leads
