-- Each step keeps that the tasks are of the graph, and that the board counts the frames of its graph.
use Rattle.std.proofs.Common.{◌≡◌, refl, sym, ap, subst, ◌∙◌, arith, set, inl, inr}
use Rattle.std.proofs.lemmas.Bool.{cases_eq, eq-eqb, eqb-true}
use Rattle.std.proofs.lemmas.List.{length-set, get_or-set_same, get_or-set_other}
use Rattle.std.specs.Prelude.{ℕ, ◌≢◌, ◌⊎◌, ◌≤◌, ◌<◌, ◌-◌, ◌==◌, ◌||◌, cond, Bool, true, false, List, [], ◌∷◌, ◌++◌, length, Option, Some, None, is_some, IfSome, IsSomeAnd, count_by}
use Rattle.xlator_law.specs.declared.step.Step.{Step}
use Rattle.xlator_law.specs.declared.step.Step.TheVariants.{Wind, Wait, Unwind}
use Rattle.xlator_law.specs.declared.winds.WindNo.{WindNo}
use Rattle.xlator_law.specs.declared.winds.Place.{Place}
use Rattle.xlator_law.specs.Law.{Promise}
use Rattle.frame_stack.specs.Cells.{cell_at, taken}
use Rattle.frame_stack.specs.declared.frame.Frame.{Frame}
use Rattle.frame_stack.specs.declared.frame.Opener.{Opener}
use Rattle.frame_stack.specs.Stack.{Stack, frame_at, word_at, word_of, pending, replied, next_free, opener_of, opener_at, opener_in, keeping, with_local, without_frame, after_settle, after_resume, resumed}
use Rattle.frame_stack.proofs.Balanced.{balanced}
use Rattle.frame_stack.proofs.Openers.{no_opener}
use Rattle.frame_stack.proofs.Puts.{put_other}
use Rattle.frame_stack.proofs.Sound.{in_range}
use Rattle.frame_driver.specs.declared.board.Board.{Board}
use Rattle.frame_driver.specs.declared.items.Task.{Task}
use Rattle.frame_driver.specs.declared.items.Task.TheVariants.{Enter, Resume, Go}
use Rattle.frame_driver.specs.declared.wiring.Child.{Child}
use Rattle.frame_driver.specs.declared.wiring.Child.TheVariants.{Node, Outside, Nothing}
use Rattle.frame_driver.specs.declared.wiring.Wiring.{Wiring}
use Rattle.frame_driver.specs.Follows.{Fits}
use Rattle.frame_driver.specs.Machine.{IsAt, IsWoundDown, AreWoundDown, handed_to, Ends, EndsBy, IsEnded, IsAnswered, IsCarried, freed}
use Rattle.frame_driver.specs.Machine.AreWoundDown.{NoWind, OneMore}
use Rattle.frame_driver.specs.Sound.{is_of, IsReachable}
use Rattle.frame_driver.specs.Tasks.{one, IsOurs, WasOpened, IsTask, AreTasks}
use Rattle.frame_driver.specs.Wiring.{below}
use Rattle.frame_driver.proofs.Carrying.{bare, carried_turns, Took}
use Rattle.frame_driver.proofs.Ending.{answered_still, ends_frames}
use Rattle.frame_driver.proofs.Frames.{Turns, turns_local, turns_freed}
use Rattle.frame_driver.proofs.Standing.{count_cons}
use Rattle.frame_driver.proofs.Winding.{wound_stack, frames_kept, count_kept}

-- ---- what a task rests on

-- what was of this graph is of it still
pub record Stays {L : Type 0} (g : ℕ) (s t : Stack L) : Type 0 where
  pub ours : (key : ℕ) → IsOurs g (frame_at s key) → IsOurs g (frame_at t key)
  pub opened : (call : ℕ) (w : WindNo) → WasOpened s g call w → WasOpened t g call w

module _ {L : Type 0} (g : ℕ) where
  pub stays_then : (s t u : Stack L) → Stays g s t → Stays g t u → Stays g s u
  stays_then s t u a b = record { ours = λ key h. b.ours key (a.ours key h); opened = λ call w h. b.opened call w (a.opened call w h) }

  opened_as : (s t : Stack L) (call : ℕ) (w : WindNo) → word_at t w.slot ≡ word_at s w.slot → opener_of t w ≡ opener_of s w → WasOpened s g call w → WasOpened t g call w
  opened_as s t call w word opener h = record { past = subst (λ n. pending w ≤ n) (sym word) h.past; kept = λ o is. h.kept o (sym opener ∙ is) }

  -- one frame changes
  pub stays_turns : (s t : Stack L) (key : ℕ) (was now : Option (Frame L)) → Turns s t key was now → IsOurs g now → t.openers ≡ s.openers → t.words ≡ s.words → Stays g s t
  stays_turns s t key was now turns mine openers words = record {
    ours = λ k h. by_key k h (cases_eq k key);
    opened = λ call w h. opened_as s t call w (ap (λ ws. word_of ws w.slot) words) (same w) h;
  } where
    by_key : (k : ℕ) → IsOurs g (frame_at s k) → (k ≡ key) ⊎ (k ≢ key) → IsOurs g (frame_at t k)
    by_key k h (inl same) = subst (λ i. IsOurs g (frame_at t i)) (sym same) (subst (λ (c : Option (Frame L)). IsOurs g c) (sym turns.here) mine)
    by_key k h (inr differs) = subst (λ (c : Option (Frame L)). IsOurs g c) (sym (turns.others k differs)) h

    same : (w : WindNo) → opener_of t w ≡ opener_of s w
    same w = ap (λ ws. cond ((word_of ws w.slot == pending w) || (word_of ws w.slot == replied w)) (cell_at t.openers w.slot) None) words ∙ ap (λ os. cond ((word_of s.words w.slot == pending w) || (word_of s.words w.slot == replied w)) (cell_at os w.slot) None) openers

  module _ {F R : Type 0} where
    task_stays : (n : ℕ) (s t : Stack L) → Stays g s t → (x : Task F R) → IsTask n g s x → IsTask n g t x
    task_stays n s t st (Enter node call None fop) h = h
    task_stays n s t st (Enter node call (Some w) fop) h = (h.0, st.opened call w h.1)
    task_stays n s t st (Resume frame slot reply) h = st.ours frame h
    task_stays n s t st (Go frame) h = st.ours frame h

    pub tasks_stay : (n : ℕ) (s t : Stack L) → Stays g s t → (xs : List (Task F R)) → AreTasks n g s xs → AreTasks n g t xs
    tasks_stay n s t st [] h = tt
    tasks_stay n s t st (x ∷ xs) h = (task_stays n s t st x h.0, tasks_stay n s t st xs h.1)

    pub tasks_push : (n : ℕ) (s : Stack L) (xs : List (Task F R)) (x : Task F R) → AreTasks n g s xs → IsTask n g s x → AreTasks n g s (xs ++ x ∷ [])
    tasks_push n s [] x a b = (b, tt)
    tasks_push n s (y ∷ ys) x a b = (a.0, tasks_push n s ys x a.1 b)

-- the frame that opens a wind is of its place
pub opener_here : {L : Type 0} (place : Place) (key : ℕ) (s : Stack L) (slot : ℕ) → IsAt s key place → ((opener_at s key slot).graph ≡ place.graph) × ((opener_at s key slot).call ≡ place.call)
opener_here {L = L} place key s slot at = by_cell (frame_at s key) at where
  by_cell : (c : Option (Frame L)) → IsSomeAnd c (λ f. f.place ≡ place) → ((opener_in key slot s.opened c).graph ≡ place.graph) × ((opener_in key slot s.opened c).call ≡ place.call)
  by_cell None h = absurd h
  by_cell (Some f) h = (ap (λ (p : Place). p.graph) h, ap (λ (p : Place). p.call) h)

-- ---- a wind is opened

module _ {F R L : Type 0} (g n : ℕ) (wiring : Wiring) (place : Place) (key : ℕ) where
  wound_stays : (old new : Board F R L) (x : ℕ × ℕ × F) → IsWoundDown wiring place key old new x → Stays g old.stack new.stack
  wound_stays old new x is = record {
    ours = λ k h. subst (λ fs. IsOurs g (cell_at fs k)) (sym frames) h;
    opened = λ call v h. opened call v h (cases_eq v.slot is.wind.slot);
  } where
    at : new.stack ≡ is.mid.stack
    at = wound_stack wiring place key old new x is

    frames : new.stack.frames ≡ old.stack.frames
    frames = ap (λ (s : Stack L). s.frames) at ∙ ap (λ (s : Stack L). s.frames) is.opened.wound.made

    opened : (call : ℕ) (v : WindNo) → WasOpened old.stack g call v → (v.slot ≡ is.wind.slot) ⊎ (v.slot ≢ is.wind.slot) → WasOpened new.stack g call v
    opened call v h (inl same) =
        let f = is.opened.wound.free in
        let p = h.past in
        let e : word_at old.stack v.slot ≡ word_at old.stack is.wind.slot = ap (word_at old.stack) same in
        let w : word_at new.stack v.slot ≡ pending is.wind = ap (λ (s : Stack L). word_at s v.slot) at ∙ ap (word_at is.mid.stack) same ∙ is.opened.pending in
        record {
          past = omega (arith, f, p, e, w);
          kept = λ o has. absurd (let none : opener_of new.stack v ≡ None = no_opener new.stack v (λ i. omega (arith, f, p, e, w, i)) (λ i. omega (arith, f, p, e, w, i)) in cc);
        }
    opened call v h (inr differs) = opened_as g old.stack new.stack call v
        (ap (λ (s : Stack L). word_at s v.slot) at ∙ ap (λ (s : Stack L). word_at s v.slot) is.opened.wound.made ∙ put_other old.stack.words is.wind.slot v.slot (pending is.wind) 0 differs)
        (ap (λ (s : Stack L). opener_of s v) at ∙ is.opened.openers.others v (λ e. differs (ap (λ (x : WindNo). x.slot) e)))
        h

  wound_was : (old new : Board F R L) (x : ℕ × ℕ × F) → (is : IsWoundDown wiring place key old new x) → place.graph ≡ g → WasOpened new.stack g place.call is.wind
  wound_was old new x is home = record {
    past = let w : word_at new.stack is.wind.slot ≡ pending is.wind = ap (λ (s : Stack L). word_at s is.wind.slot) at ∙ is.opened.pending in omega (arith, w);
    kept = λ o has. let e : o ≡ opener_at old.stack key x.1 = some_opener o (opener_at old.stack key x.1) (sym has ∙ ap (λ (s : Stack L). opener_of s is.wind) at ∙ is.opened.openers.here) in let h = opener_here place key old.stack x.1 is.opened.there in (ap (λ (q : Opener). q.graph) e ∙ h.0 ∙ home, ap (λ (q : Opener). q.call) e ∙ h.1);
  } where
    at : new.stack ≡ is.mid.stack
    at = wound_stack wiring place key old new x is

    some_opener : (a b : Opener) → Some a ≡ Some b → a ≡ b
    some_opener a b e = cc

  module _ {L2 : Type 0} (ps : List (Promise F L2)) (fits : Fits ps wiring) (few : length ps ≤ n) (home : place.graph ≡ g) where
    handed_tasks : (s : Stack L) (b : Board F R L) (to : Child) (child : ℕ) (w : WindNo) (fop : F) → below wiring place.node child ≡ to → WasOpened s g place.call w → AreTasks n g s b.queue → AreTasks n g s (handed_to b to place child w fop).queue
    handed_tasks s b (Node to) child w fop is was a = tasks_push g n s b.queue (Enter to place.call (Some w) fop) a ((let t = (fits.fit place.node child to is).there in omega (arith, t, few)), was)
    handed_tasks s b Outside child w fop is was a = a
    handed_tasks s b Nothing child w fop is was a = a

    pub wound_tasks : (old : Board F R L) (xs : List (ℕ × ℕ × F)) (new : Board F R L) → AreWoundDown wiring place key old xs new → AreTasks n g old.stack old.queue → AreTasks n g new.stack new.queue
    wound_tasks old _ _ NoWind a = a
    wound_tasks old _ _ (OneMore xs x mid new before is) a =
        let ih = wound_tasks old xs mid before a in
        let q : AreTasks n g new.stack is.mid.queue = subst (λ (b : Board F R L). AreTasks n g new.stack b.queue) (sym is.opened.rest) (tasks_stay g n mid.stack new.stack (wound_stays mid new x is) mid.queue ih) in
        subst (λ (b : Board F R L). AreTasks n g new.stack b.queue) (sym is.handed) (handed_tasks new.stack is.mid (below wiring place.node x.0) x.0 is.wind x.2 refl (wound_was mid new x is home) q)

-- ---- a wind ends

module _ {F R L : Type 0} (w : WindNo) (reply : R) (old new : Board F R L) (e : Ends w reply old new) where
  pub ended_word : word_at old.stack w.slot ≡ pending w → word_at new.stack w.slot ≡ next_free w
  ended_word at = ap (λ (b : Board F R L). word_at b.stack w.slot) e.made
      ∙ ap (λ (b : Bool). word_at (after_resume (cond b settled old.stack) w) w.slot) (eq-eqb (word_at old.stack w.slot) (pending w) at)
      ∙ ap (λ (b : Bool). word_at (cond b (resumed settled w (cell_at old.stack.openers w.slot)) settled) w.slot) (eq-eqb (word_at settled w.slot) (replied w) (get_or-set_same old.stack.words w.slot (replied w) 0 within))
      ∙ get_or-set_same (set old.stack.words w.slot (replied w)) w.slot (next_free w) 0 (let l = length-set old.stack.words w.slot (replied w) in let i = within in omega (arith, l, i)) where
        settled : Stack L
        settled = record old.stack { words = set old.stack.words w.slot (replied w) }

        within : w.slot < length old.stack.words
        within = in_range old.stack.words w.slot (omega (arith, at))

  pub other_word : (slot : ℕ) → slot ≢ w.slot → word_at new.stack slot ≡ word_at old.stack slot
  other_word slot differs = ap (λ (b : Board F R L). word_at b.stack slot) e.made ∙ by_resume (word_at (after_settle old.stack w) w.slot == replied w) ∙ by_settle (word_at old.stack w.slot == pending w) where
    by_settle : (b : Bool) → word_at (cond b (record old.stack { words = set old.stack.words w.slot (replied w) }) old.stack) slot ≡ word_at old.stack slot
    by_settle true = get_or-set_other old.stack.words w.slot slot (replied w) 0 differs
    by_settle false = refl

    by_resume : (b : Bool) → word_at (cond b (resumed (after_settle old.stack w) w (cell_at (after_settle old.stack w).openers w.slot)) (after_settle old.stack w)) slot ≡ word_at (after_settle old.stack w) slot
    by_resume true = get_or-set_other (after_settle old.stack w).words w.slot slot (next_free w) 0 differs
    by_resume false = refl

  pub ends_stays : (g : ℕ) → word_at old.stack w.slot ≡ pending w → Stays g old.stack new.stack
  ends_stays g at = record {
    ours = λ k h. subst (λ fs. IsOurs g (cell_at fs k)) (sym (ends_frames w reply old new e)) h;
    opened = λ call v h. opened call v h (cases_eq v.slot w.slot);
  } where
    opened : (call : ℕ) (v : WindNo) → WasOpened old.stack g call v → (v.slot ≡ w.slot) ⊎ (v.slot ≢ w.slot) → WasOpened new.stack g call v
    opened call v h (inl same) =
        let p = h.past in
        let o : word_at old.stack v.slot ≡ pending w = ap (word_at old.stack) same ∙ at in
        let n : word_at new.stack v.slot ≡ next_free w = ap (word_at new.stack) same ∙ ended_word at in
        record {
          past = omega (arith, p, o, n);
          kept = λ q has. absurd (let none : opener_of new.stack v ≡ None = no_opener new.stack v (λ i. omega (arith, p, o, n, i)) (λ i. omega (arith, p, o, n, i)) in cc);
        }
    opened call v h (inr differs) = opened_as g old.stack new.stack call v (other_word v.slot differs) (e.openers.others v (λ i. differs (ap (λ (x : WindNo). x.slot) i))) h

module _ {L : Type 0} (g : ℕ) where
  -- the frame that opened a wind of this graph is of this graph
  opener_ours : (s : Stack L) (w : WindNo) (o : Opener) → IsReachable s → opener_of s w ≡ Some o → o.graph ≡ g → IsOurs g (frame_at s o.frame)
  opener_ours s w o r is home = by_cell (frame_at s o.frame) ((balanced s r.moves r.handed r.reached).held w o is) where
    by_cell : (c : Option (Frame L)) → IsSomeAnd c (λ f. (f.place.graph ≡ o.graph) × (f.place.call ≡ o.call)) → IsOurs g c
    by_cell None h = tt
    by_cell (Some f) h = h.0 ∙ home

  local_stays : (s : Stack L) (key : ℕ) (place : Place) (local : Option L) → frame_at s key ≡ bare place → place.graph ≡ g → Stays g s (with_local s key local)
  local_stays s key place local at home = subst (λ (t : Stack L). Stays g s t) (sym e) (stays_turns g s (record s { frames = set s.frames key (Some (record { place = place; local = local })) }) key (bare place) (Some (record { place = place; local = local })) (subst (λ (t : Stack L). Turns s t key (bare place) (Some (record { place = place; local = local }))) e (turns_local s key place None local at)) home refl refl) where
    e : with_local s key local ≡ record s { frames = set s.frames key (Some (record { place = place; local = local })) }
    e = ap (keeping s key local) at

module _ {F R L : Type 0} (g n : ℕ) where
  -- A wind of this graph that ends leaves tasks of this graph.
  pub ended_tasks : (w : WindNo) (reply : R) (old new : Board F R L) → ((o : Opener) → opener_of old.stack w ≡ Some o → IsOurs g (frame_at old.stack o.frame)) → IsEnded w reply old new → AreTasks n g old.stack old.queue → AreTasks n g new.stack new.queue
  ended_tasks w reply old new ours is a = by_case (word_at old.stack w.slot == pending w) refl is where
    ends : word_at old.stack w.slot ≡ pending w → Ends w reply old new → AreTasks n g new.stack new.queue
    ends at e = subst (λ (b : Board F R L). AreTasks n g new.stack b.queue) (sym e.made) (tasks_push g n new.stack old.queue (Resume e.opener.frame e.opener.slot reply) (tasks_stay g n old.stack new.stack (ends_stays w reply old new e g at) old.queue a) ((ends_stays w reply old new e g at).ours e.opener.frame (ours e.opener e.opened)))

    by_case : (b : Bool) → (word_at old.stack w.slot == pending w) ≡ b → EndsBy b w reply old new → AreTasks n g new.stack new.queue
    by_case true on e = ends (eqb-true (word_at old.stack w.slot) (pending w) on) e
    by_case false off e = subst (λ (b : Board F R L). AreTasks n g b.stack b.queue) (sym e) a

  pub replied_tasks : (w : WindNo) (reply : R) (old new : Board F R L) → IsReachable old.stack → ((o : Opener) → opener_of old.stack w ≡ Some o → o.graph ≡ g) → IsEnded w reply old new → AreTasks n g old.stack old.queue → AreTasks n g new.stack new.queue
  replied_tasks w reply old new r ours is a = ended_tasks w reply old new (λ o has. opener_ours g old.stack w o r has (ours o has)) is a

  -- ---- a step of a frame

  module _ (ps : List (Promise F L)) (wiring : Wiring) (fits : Fits ps wiring) (few : length ps ≤ n) (key : ℕ) (place : Place) (home : place.graph ≡ g) (old new : Board F R L) where
    pub carried_tasks : (step : Step F R L) → frame_at old.stack key ≡ bare place → IsReachable old.stack → IsCarried wiring key place old step new → AreTasks n g old.stack old.queue → AreTasks n g new.stack new.queue
    carried_tasks (Wind winds local) at r c a =
        let t = wound_tasks g n wiring place key ps fits few home old winds.items c.mid c.wound a in
        let there : frame_at c.mid.stack key ≡ bare place = ap (λ fs. cell_at fs key) (frames_kept wiring place key old winds.items c.mid c.wound) ∙ at in
        subst (λ (b : Board F R L). AreTasks n g b.stack b.queue) (sym c.put) (tasks_stay g n c.mid.stack (with_local c.mid.stack key (Some local)) (local_stays g c.mid.stack key place (Some local) there home) c.mid.queue t)
    carried_tasks (Wait local) at r c a = subst (λ (b : Board F R L). AreTasks n g b.stack b.queue) (sym c) (tasks_stay g n old.stack (with_local old.stack key (Some local)) (local_stays g old.stack key place (Some local) at home) old.queue a)
    carried_tasks (Unwind reply) at r c a = by_parent place.parent under c where
      free : Stays g old.stack (without_frame old.stack key)
      free = stays_turns g old.stack (without_frame old.stack key) key (bare place) None (turns_freed old.stack key (record { place = place; local = None }) at) tt refl refl

      rest : AreTasks n g (without_frame old.stack key) old.queue
      rest = tasks_stay g n old.stack (without_frame old.stack key) free old.queue a

      under : IfSome place.parent (λ w. IfSome (opener_of old.stack w) (λ o. (o.graph ≡ place.graph) × (o.call ≡ place.call)))
      under = (balanced old.stack r.moves r.handed r.reached).parents key (record { place = place; local = None }) at

      by_parent : (parent : Option WindNo) → IfSome parent (λ w. IfSome (opener_of old.stack w) (λ o. (o.graph ≡ place.graph) × (o.call ≡ place.call))) → IsAnswered parent place.call reply (freed old key) new → AreTasks n g new.stack new.queue
      by_parent None h is = subst (λ (b : Board F R L). AreTasks n g b.stack b.queue) (sym is) rest
      by_parent (Some w) h is = ended_tasks w reply (freed old key) new (λ o has. free.ours o.frame (opener_ours g old.stack w o r has (some_opener o has))) is rest where
        some_opener : (o : Opener) → opener_of old.stack w ≡ Some o → o.graph ≡ g
        some_opener o has = let p : IfSome (Some o) (λ q. (q.graph ≡ place.graph) × (q.call ≡ place.call)) = subst (λ (x : Option Opener). IfSome x (λ q. (q.graph ≡ place.graph) × (q.call ≡ place.call))) has h in p.0 ∙ home

-- ---- the count of frames

module _ {F R L : Type 0} (g : ℕ) where
  -- a frame of the graph whose local is out is counted as one
  pub took_counted : (b mid : Board F R L) (key : ℕ) (place : Place) (was : Option (Frame L)) → Took b mid key place was → place.graph ≡ g → one (is_of g was) ≡ one (is_some was) → b.frames ≡ count_by (is_of g) b.stack.frames → mid.frames ≡ count_by (is_of g) mid.stack.frames
  took_counted b mid key place was took home whole counted =
      let s = took.turns.sums (λ (x : Option (Frame L)). one (is_of g x)) refl in
      let i : one (is_of {L = L} g (bare place)) ≡ 1 = ap one (eq-eqb place.graph g home) in
      let c = took.count in
      omega (arith, s, i, c, whole, counted)

  module _ (wiring : Wiring) (key : ℕ) (place : Place) (home : place.graph ≡ g) (old new : Board F R L) where
    pub carried_counted : (step : Step F R L) → frame_at old.stack key ≡ bare place → IsCarried wiring key place old step new → old.frames ≡ count_by (is_of g) old.stack.frames → new.frames ≡ count_by (is_of g) new.stack.frames
    carried_counted (Wind winds local) at c counted =
        let s = (carried_turns wiring key place old new (Wind winds local) at c).sums (λ (x : Option (Frame L)). one (is_of g x)) refl in
        let n : new.frames ≡ old.frames = ap (λ (b : Board F R L). b.frames) c.put ∙ count_kept wiring place key old winds.items c.mid c.wound in
        omega (arith, s, n, counted)
    carried_counted (Wait local) at c counted =
        let s = (carried_turns wiring key place old new (Wait local) at c).sums (λ (x : Option (Frame L)). one (is_of g x)) refl in
        let n : new.frames ≡ old.frames = ap (λ (b : Board F R L). b.frames) c in
        omega (arith, s, n, counted)
    carried_counted (Unwind reply) at c counted =
        let s = (carried_turns wiring key place old new (Unwind reply) at c).sums (λ (x : Option (Frame L)). one (is_of g x)) refl in
        let n : new.frames ≡ old.frames - 1 = (answered_still place.parent place.call reply (freed old key) new c).count in
        let i : one (is_of {L = L} g (bare place)) ≡ 1 = ap one (eq-eqb place.graph g home) in
        omega (arith, s, n, i, counted)

-- no more frames are counted than are open
pub few_counted : {L : Type 0} (g : ℕ) (fs : List (Option (Frame L))) → count_by (is_of g) fs ≤ taken fs
few_counted {L = L} g [] = omega (arith)
few_counted {L = L} g (c ∷ fs) =
    let ih = few_counted g fs in
    let a = count_cons (is_of g) c fs in
    let b = count_cons is_some c fs in
    let s = by_cell c in
    omega (arith, ih, a, b, s) where
      by_cell : (c : Option (Frame L)) → one (is_of g c) ≤ one (is_some c)
      by_cell None = omega (arith)
      by_cell (Some f) = by_bool (f.place.graph == g) where
        by_bool : (t : Bool) → one t ≤ 1
        by_bool true = omega (arith)
        by_bool false = omega (arith)
