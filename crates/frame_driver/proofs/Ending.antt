-- What the end of a pending wind finds, and what it leaves as it was.
use Rattle.std.proofs.Common.{◌≡◌, refl, sym, ap, subst, ◌∙◌, arith, set}
use Rattle.std.proofs.lemmas.Bool.{eqb-true, eq-eqb}
use Rattle.std.proofs.lemmas.List.{get_or-set_same}
use Rattle.std.specs.Prelude.{ℕ, zero, suc, ◌==◌, ◌||◌, ◌&&◌, ◌+◌, cond, not, Bool, true, false, List, [], ◌∷◌, Option, Some, None, is_some, count_by}
use Rattle.std.specs.List.{list_any}
use Rattle.xlator_law.specs.declared.winds.WindNo.{WindNo}
use Rattle.xlator_law.specs.declared.winds.Parent.{Parent}
use Rattle.xlator_law.specs.declared.winds.Settled.TheVariants.{Won, Lost}
use Rattle.frame_stack.specs.declared.frame.Opener.{Opener}
use Rattle.frame_stack.specs.Cells.{cell_at, taken}
use Rattle.frame_stack.specs.Changes.{ChangesOpener}
use Rattle.frame_stack.specs.Stack.{Stack, word_at, pending, replied, awaits, is_in, parent_of, opener_of, after_settle, after_resume, settled_as, resumed_as, AwaitsLess, resumed}
use Rattle.frame_stack.proofs.Lists.{count_push}
use Rattle.frame_stack.proofs.Sound.{in_range}
use Rattle.frame_driver.specs.declared.board.Board.{Board}
use Rattle.frame_driver.specs.declared.items.Task.TheVariants.{Resume}
use Rattle.frame_driver.specs.Follows.{expected}
use Rattle.frame_driver.specs.Machine.{Ends, EndsBy, IsEnded, IsAnswered, with_task}
use Rattle.frame_driver.specs.Tasks.{one, is_due, is_going}

or_true : (a b : Bool) → b ≡ true → (a || b) ≡ true
or_true true b h = refl
or_true false b h = h

or_first : (a b : Bool) → a ≡ true → (a || b) ≡ true
or_first true b h = refl
or_first false b h = absurd cc

pub both : (a b : Bool) → a ≡ true → b ≡ true → (a && b) ≡ true
both true b h i = i
both false b h i = absurd cc

pub first_yes : (a b : Bool) → (a && b) ≡ true → a ≡ true
first_yes true b h = refl
first_yes false b h = absurd cc

pub last_yes : (a b : Bool) → (a && b) ≡ true → b ≡ true
last_yes true b h = h
last_yes false b h = absurd cc

module _ {X : Type 0} (p : Option X → Bool) where
  pub any_cell : (cells : List (Option X)) (k : ℕ) (x : X) → cell_at cells k ≡ Some x → p (Some x) ≡ true → list_any p cells ≡ true
  any_cell [] k x is h = absurd cc
  any_cell (c ∷ cells) zero x is h = or_first (p c) (list_any p cells) (subst (λ o. p o ≡ true) (sym is) h)
  any_cell (c ∷ cells) (suc k) x is h = or_true (p c) (list_any p cells) (any_cell cells k x is h)

module _ {L : Type 0} (s : Stack L) (w : WindNo) where
  pub settled_frames : (after_settle s w).frames ≡ s.frames
  settled_frames = by_case (word_at s w.slot == pending w) where
    by_case : (b : Bool) → (cond b (record s { words = set s.words w.slot (replied w) }) s).frames ≡ s.frames
    by_case true = refl
    by_case false = refl

  pub resumed_frames : (after_resume s w).frames ≡ s.frames
  resumed_frames = by_case (word_at s w.slot == replied w) where
    by_case : (b : Bool) → (cond b (resumed s w (cell_at s.openers w.slot)) s).frames ≡ s.frames
    by_case true = refl
    by_case false = refl

won_pending : {L : Type 0} (s : Stack L) (w : WindNo) → Won ≡ settled_as s w → (word_at s w.slot == pending w) ≡ true
won_pending s w h = by_case (word_at s w.slot == pending w) refl h where
  by_case : (b : Bool) → (word_at s w.slot == pending w) ≡ b → Won ≡ cond b Won (Lost (word_at s w.slot)) → b ≡ true
  by_case true e h = refl
  by_case false e h = absurd cc

lost_pending : {L : Type 0} (s : Stack L) (w : WindNo) (n : ℕ) → Lost n ≡ settled_as s w → (word_at s w.slot == pending w) ≡ false
lost_pending s w n h = by_case (word_at s w.slot == pending w) refl h where
  by_case : (b : Bool) → (word_at s w.slot == pending w) ≡ b → Lost n ≡ cond b Won (Lost (word_at s w.slot)) → b ≡ false
  by_case true e h = absurd cc
  by_case false e h = refl

-- a wind that was pending and is settled
module _ {L : Type 0} (old mid : Stack L) (w : WindNo) (won : Won ≡ settled_as old w) (settles : mid ≡ after_settle old w) where
  settled_is : mid ≡ record old { words = set old.words w.slot (replied w) }
  settled_is = settles ∙ ap (λ b. cond b (record old { words = set old.words w.slot (replied w) }) old) (won_pending old w won)

  settled_word : word_at mid w.slot ≡ replied w
  settled_word = let e = eqb-true (word_at old w.slot) (pending w) (won_pending old w won) in ap (λ (s : Stack L). word_at s w.slot) settled_is ∙ get_or-set_same old.words w.slot (replied w) 0 (in_range old.words w.slot (omega (arith, e)))

  settled_ready : (word_at mid w.slot == replied w) ≡ true
  settled_ready = eq-eqb (word_at mid w.slot) (replied w) settled_word

  -- it has an opener
  pub ended_some : (parent : Option Parent) → is_some parent ≡ (word_at mid w.slot == replied w) → None ≡ parent → ⊥
  ended_some parent some none = let no : is_some parent ≡ false = ap is_some (sym none) in let yes : is_some parent ≡ true = some ∙ settled_ready in absurd cc

module _ {F R L : Type 0} (old new : Board F R L) (w : WindNo) (reply : R) (parent : Parent) (mid after : Stack L) where
  ends_by : Won ≡ settled_as old.stack w → mid ≡ after_settle old.stack w → Some parent ≡ resumed_as mid w → after ≡ after_resume mid w → new ≡ with_task (record old { stack = after }) (Resume parent.frame parent.slot reply) → AwaitsLess mid after (Some parent) → taken after.openers + 1 ≡ taken mid.openers → ((v : WindNo) → opener_of mid v ≡ opener_of old.stack v) → ChangesOpener mid after w None → Ends w reply old new
  ends_by won settles resumes is_after made less fewer kept ends = by_cell (cell_at old.stack.openers w.slot) refl where
    is : mid ≡ record old.stack { words = set old.stack.words w.slot (replied w) }
    is = settled_is old.stack mid w won settles

    gives : Some parent ≡ parent_of (cell_at old.stack.openers w.slot)
    gives = resumes ∙ ap (λ b. cond b (parent_of (cell_at mid.openers w.slot)) None) (settled_ready old.stack mid w won settles) ∙ ap (λ (s : Stack L). parent_of (cell_at s.openers w.slot)) is

    same : (k n : ℕ) → awaits mid k n ≡ awaits old.stack k n
    same k n = ap (λ (s : Stack L). awaits s k n) is

    some_parent : (a b : Parent) → Some a ≡ Some b → a ≡ b
    some_parent a b e = cc

    by_cell : (c : Option Opener) → cell_at old.stack.openers w.slot ≡ c → Ends w reply old new
    by_cell None at = absurd (let e : Some parent ≡ None = gives ∙ ap parent_of at in cc)
    by_cell (Some o) at =
        let p : parent ≡ record { frame = o.frame; slot = o.slot } = some_parent parent (record { frame = o.frame; slot = o.slot }) (gives ∙ ap parent_of at) in
        record {
          opener = o;
          opened = ap (λ b. cond (b || (word_at old.stack w.slot == replied w)) (cell_at old.stack.openers w.slot) None) (won_pending old.stack w won) ∙ at;
          there = any_cell (is_in o.frame o.slot) old.stack.openers w.slot o at (both (o.frame == o.frame) (o.slot == o.slot) (eq-eqb o.frame o.frame refl) (eq-eqb o.slot o.slot refl));
          less = λ k n. ap (λ (b : Board F R L). awaits b.stack k n) made ∙ less k n ∙ ap (λ b. b && not ((parent.frame == k) && (parent.slot == n))) (same k n) ∙ ap (λ (q : Parent). awaits old.stack k n && not ((q.frame == k) && (q.slot == n))) p;
          taken = ap (λ (b : Board F R L). taken b.stack.openers + 1) made ∙ fewer ∙ ap (λ (s : Stack L). taken s.openers) is;
          openers = subst (λ (b : Board F R L). ChangesOpener old.stack b.stack w None) (sym made) (record { here = ends.here; others = λ v differs. ends.others v differs ∙ kept v });
          made = made ∙ ap (λ (s : Stack L). with_task (record old { stack = s }) (Resume parent.frame parent.slot reply)) (is_after ∙ ap (λ (s : Stack L). after_resume s w) settles) ∙ ap (λ (q : Parent). with_task (record old { stack = after_resume (after_settle old.stack w) w }) (Resume q.frame q.slot reply)) p;
        }

  pub ended_won : Won ≡ settled_as old.stack w → mid ≡ after_settle old.stack w → Some parent ≡ resumed_as mid w → after ≡ after_resume mid w → new ≡ with_task (record old { stack = after }) (Resume parent.frame parent.slot reply) → AwaitsLess mid after (Some parent) → taken after.openers + 1 ≡ taken mid.openers → ((v : WindNo) → opener_of mid v ≡ opener_of old.stack v) → ChangesOpener mid after w None → IsEnded w reply old new
  ended_won won settles resumes is_after made less fewer kept ends = subst (λ b. EndsBy b w reply old new) (sym (won_pending old.stack w won)) (ends_by won settles resumes is_after made less fewer kept ends)

pub ended_lost : {F R L : Type 0} (old new : Board F R L) (w : WindNo) (reply : R) (n : ℕ) → Lost n ≡ settled_as old.stack w → new ≡ old → IsEnded w reply old new
ended_lost old new w reply n lost same = subst (λ b. EndsBy b w reply old new) (sym (lost_pending old.stack w n lost)) same

-- ---- what an end leaves as it was

less_one : (a h : Bool) → (h ≡ true → a ≡ true) → one (a && not h) + one h ≡ one a
less_one true true f = refl
less_one true false f = refl
less_one false true f = absurd (let no = f refl in cc)
less_one false false f = refl

module _ {F R L : Type 0} (w : WindNo) (reply : R) (old new : Board F R L) where
  pub ends_frames : Ends w reply old new → new.stack.frames ≡ old.stack.frames
  ends_frames e = ap (λ (b : Board F R L). b.stack.frames) e.made ∙ resumed_frames (after_settle old.stack w) w ∙ settled_frames old.stack w

  -- a slot's wind that was open has its answer in a task, and all else is as it was
  ends_expected : Ends w reply old new → (k n : ℕ) → expected new k n ≡ expected old k n
  ends_expected e k n =
      let hit = (e.opener.frame == k) && (e.opener.slot == n) in
      let c : count_by (is_due k n) new.queue ≡ count_by (is_due k n) old.queue + one ((e.opener.frame == k) && (e.opener.slot == n)) = ap (λ (b : Board F R L). count_by (is_due k n) b.queue) e.made ∙ count_push (is_due k n) old.queue (Resume e.opener.frame e.opener.slot reply) in
      let a : one (awaits new.stack k n) ≡ one (awaits old.stack k n && not ((e.opener.frame == k) && (e.opener.slot == n))) = ap one (e.less k n) in
      let l = less_one (awaits old.stack k n) ((e.opener.frame == k) && (e.opener.slot == n)) there in
      omega (arith, c, a, l) where
        there : ((e.opener.frame == k) && (e.opener.slot == n)) ≡ true → awaits old.stack k n ≡ true
        there h = subst (λ i. awaits old.stack i n ≡ true) (eqb-true e.opener.frame k (first_yes (e.opener.frame == k) (e.opener.slot == n) h)) (subst (λ i. awaits old.stack e.opener.frame i ≡ true) (eqb-true e.opener.slot n (last_yes (e.opener.frame == k) (e.opener.slot == n) h)) e.there)

  ends_going : Ends w reply old new → (k : ℕ) → count_by (is_going k) new.queue ≡ count_by (is_going k) old.queue
  ends_going e k = let c : count_by (is_going k) new.queue ≡ count_by (is_going k) old.queue + 0 = ap (λ (b : Board F R L). count_by (is_going k) b.queue) e.made ∙ count_push (is_going k) old.queue (Resume e.opener.frame e.opener.slot reply) in omega (arith, c)

-- what holds of a board that is as before, and after an end, holds in both cases
pub ended_by : {F R L : Type 0} (w : WindNo) (reply : R) (old new : Board F R L) (P : Board F R L → Type 0) → IsEnded w reply old new → P old → (Ends w reply old new → P new) → P new
ended_by w reply old new P is same ends = by_case (word_at old.stack w.slot == pending w) is where
  by_case : (b : Bool) → EndsBy b w reply old new → P new
  by_case true e = ends e
  by_case false e = subst P (sym e) same

-- What a board shows that an end leaves as it was.
pub record Still {F R L : Type 0} (old new : Board F R L) : Type 0 where
  pub frames : new.stack.frames ≡ old.stack.frames
  pub expected : (k n : ℕ) → expected new k n ≡ expected old k n
  pub going : (k : ℕ) → count_by (is_going k) new.queue ≡ count_by (is_going k) old.queue
  pub graph : new.graph ≡ old.graph
  pub count : new.frames ≡ old.frames
  pub waiting : new.waiting ≡ old.waiting

module _ {F R L : Type 0} where
  pub ended_still : (w : WindNo) (reply : R) (old new : Board F R L) → IsEnded w reply old new → Still old new
  ended_still w reply old new is = ended_by w reply old new (Still old) is
      (record { frames = refl; expected = λ k n. refl; going = λ k. refl; graph = refl; count = refl; waiting = refl })
      (λ e. record {
        frames = ends_frames w reply old new e;
        expected = ends_expected w reply old new e;
        going = ends_going w reply old new e;
        graph = ap (λ (b : Board F R L). b.graph) e.made;
        count = ap (λ (b : Board F R L). b.frames) e.made;
        waiting = ap (λ (b : Board F R L). b.waiting) e.made;
      })

  pub answered_still : (parent : Option WindNo) (call : ℕ) (reply : R) (old new : Board F R L) → IsAnswered parent call reply old new → Still old new
  answered_still None call reply old new is = record {
    frames = ap (λ (b : Board F R L). b.stack.frames) is;
    expected = λ k n. ap (λ (b : Board F R L). expected b k n) is;
    going = λ k. ap (λ (b : Board F R L). count_by (is_going k) b.queue) is;
    graph = ap (λ (b : Board F R L). b.graph) is;
    count = ap (λ (b : Board F R L). b.frames) is;
    waiting = ap (λ (b : Board F R L). b.waiting) is;
  }
  answered_still (Some w) call reply old new is = ended_still w reply old new is
