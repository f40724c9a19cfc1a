-- Each step keeps that each open wind is in one place.
use Rattle.std.proofs.Common.{◌≡◌, refl, sym, ap, subst, ◌∙◌, arith, inl, inr}
use Rattle.std.proofs.lemmas.Bool.{cases_eq, eqb-true, eq-eqb}
use Rattle.std.specs.Prelude.{ℕ, ◌≢◌, ◌⊎◌, ◌≤◌, ◌+◌, ◌*◌, ◌==◌, Bool, true, false, List, Option, Some, None, is_some, count_by}
use Rattle.xlator_law.specs.declared.step.Step.{Step}
use Rattle.xlator_law.specs.declared.step.Step.TheVariants.{Wind, Wait, Unwind}
use Rattle.xlator_law.specs.declared.winds.WindNo.{WindNo}
use Rattle.xlator_law.specs.declared.winds.Place.{Place}
use Rattle.frame_stack.specs.Changes.{ChangesOpener}
use Rattle.frame_stack.specs.declared.frame.Frame.{Frame}
use Rattle.frame_stack.specs.declared.frame.Opener.{Opener}
use Rattle.frame_stack.specs.Moves.{is_wind}
use Rattle.frame_stack.specs.Stack.{Stack, frame_at, word_at, pending, replied, opener_of, keeping, with_local}
use Rattle.frame_stack.proofs.Lists.{count_push}
use Rattle.frame_stack.proofs.Openers.{cases_wind, no_opener, opener_word}
use Rattle.frame_stack.proofs.Puts.{put_other}
use Rattle.frame_stack.proofs.Winds.{same_wind}
use Rattle.frame_driver.specs.declared.board.Board.{Board}
use Rattle.frame_driver.specs.declared.items.Task.TheVariants.{Enter, Resume}
use Rattle.frame_driver.specs.declared.wiring.Child.{Child}
use Rattle.frame_driver.specs.declared.wiring.Child.TheVariants.{Node, Outside, Nothing}
use Rattle.frame_driver.specs.declared.wiring.Wiring.{Wiring}
use Rattle.frame_driver.specs.Machine.{AreWoundDown, handed_to, Ends, EndsBy, IsEnded, IsAnswered, IsCarried, freed}
use Rattle.frame_driver.specs.Machine.AreWoundDown.{NoWind, OneMore}
use Rattle.frame_driver.specs.Parts.{is_same, is_parent, is_queued, is_sent, opened, places, IsParted}
use Rattle.frame_driver.specs.Tasks.{one}
use Rattle.frame_driver.specs.Wiring.{below, IsWired}
use Rattle.frame_driver.proofs.Carrying.{bare, Took}
use Rattle.frame_driver.proofs.Ending.{first_yes, last_yes, ends_frames}
use Rattle.frame_driver.proofs.Frames.{turns_local, turns_freed}
use Rattle.frame_driver.proofs.Tasking.{ended_word, other_word}
use Rattle.frame_driver.proofs.Winding.{wound_stack}

-- ---- winds

pub itself : (w : WindNo) → is_wind w w ≡ true
itself w = same_wind w w refl refl

wind_at : ℕ → ℕ → WindNo
wind_at slot turn = record { slot = slot; turn = turn }

same_numbers : (v w : WindNo) → v.slot ≡ w.slot → v.turn ≡ w.turn → v ≡ w
unfolding wind_at
same_numbers v w s t = let p : wind_at v.slot v.turn ≡ wind_at w.slot v.turn = ap (λ n. wind_at n v.turn) s in let q : wind_at w.slot v.turn ≡ wind_at w.slot w.turn = ap (wind_at w.slot) t in p ∙ q

pub is_same_wind : (v w : WindNo) → is_wind v w ≡ true → v ≡ w
is_same_wind v w e = same_numbers v w (eqb-true v.slot w.slot (first_yes (v.slot == w.slot) (v.turn == w.turn) e)) (eqb-true v.turn w.turn (last_yes (v.slot == w.slot) (v.turn == w.turn) e))

apart : (v w : WindNo) → v ≢ w → is_wind v w ≡ false
apart v w differs = by_case (is_wind v w) refl where
  by_case : (b : Bool) → is_wind v w ≡ b → is_wind v w ≡ false
  by_case false e = e
  by_case true e = absurd (differs (is_same_wind v w e))

-- what a wind that gets an opener, or loses the one that it had, adds to the open winds
gains : {L : Type 0} (s t : Stack L) (w : WindNo) (o : Opener) → opener_of s w ≡ None → ChangesOpener s t w (Some o) → (v : WindNo) → opened t v ≡ opened s v + one (is_wind v w)
gains s t w o was now v = by_wind (cases_wind v w) where
  by_wind : (v ≡ w) ⊎ (v ≢ w) → opened t v ≡ opened s v + one (is_wind v w)
  by_wind (inl same) = let a : opened t v ≡ 1 = ap (opened t) same ∙ ap (λ (c : Option Opener). one (is_some c)) now.here in let b : opened s v ≡ 0 = ap (opened s) same ∙ ap (λ (c : Option Opener). one (is_some c)) was in let c : one (is_wind v w) ≡ 1 = ap (λ (x : WindNo). one (is_wind x w)) same ∙ ap one (itself w) in omega (arith, a, b, c)
  by_wind (inr differs) = let a : opened t v ≡ opened s v = ap (λ (c : Option Opener). one (is_some c)) (now.others v differs) in let c : one (is_wind v w) ≡ 0 = ap one (apart v w differs) in omega (arith, a, c)

loses : {L : Type 0} (s t : Stack L) (w : WindNo) (o : Opener) → opener_of s w ≡ Some o → ChangesOpener s t w None → (v : WindNo) → opened t v + one (is_wind v w) ≡ opened s v
loses s t w o was now v = by_wind (cases_wind v w) where
  by_wind : (v ≡ w) ⊎ (v ≢ w) → opened t v + one (is_wind v w) ≡ opened s v
  by_wind (inl same) = let a : opened t v ≡ 0 = ap (opened t) same ∙ ap (λ (c : Option Opener). one (is_some c)) now.here in let b : opened s v ≡ 1 = ap (opened s) same ∙ ap (λ (c : Option Opener). one (is_some c)) was in let c : one (is_wind v w) ≡ 1 = ap (λ (x : WindNo). one (is_wind x w)) same ∙ ap one (itself w) in omega (arith, a, b, c)
  by_wind (inr differs) = let a : opened t v ≡ opened s v = ap (λ (c : Option Opener). one (is_some c)) (now.others v differs) in let c : one (is_wind v w) ≡ 0 = ap one (apart v w differs) in omega (arith, a, c)

-- ---- no wind is replied and not ended

abbrev pub NoneReplied : {L : Type 0} → Stack L → Type 0
NoneReplied s = (slot turn : ℕ) → word_at s slot ≢ turn * 4 + 2

-- an open wind is pending, where none is replied
pub open_pending : {L : Type 0} (s : Stack L) (w : WindNo) (o : Opener) → NoneReplied s → opener_of s w ≡ Some o → word_at s w.slot ≡ pending w
open_pending s w o none is = by_word (opener_word s w o is).0 where
  by_word : (word_at s w.slot ≡ pending w) ⊎ (word_at s w.slot ≡ replied w) → word_at s w.slot ≡ pending w
  by_word (inl p) = p
  by_word (inr r) = absurd (none w.slot w.turn r)

-- an open wind has an opener
pub open_some : {L : Type 0} (s : Stack L) (w : WindNo) → 1 ≤ opened s w → (o : Opener) × (opener_of s w ≡ Some o)
open_some s w h = by_opener (opener_of s w) refl h where
  by_opener : (c : Option Opener) → opener_of s w ≡ c → 1 ≤ one (is_some c) → (o : Opener) × (opener_of s w ≡ Some o)
  by_opener None at h = absurd (omega (arith, h))
  by_opener (Some o) at h = (o, at)

local_opened : {L : Type 0} (v : WindNo) (s : Stack L) (key : ℕ) (local : Option L) → opened (with_local s key local) v ≡ opened s v
local_opened {L = L} v s key local = by_cell (frame_at s key) where
  by_cell : (c : Option (Frame L)) → opened (keeping s key local c) v ≡ opened s v
  by_cell None = refl
  by_cell (Some f) = refl

-- a local that goes out or comes back leaves the parents of frames
parents_local : {L : Type 0} (v : WindNo) (s : Stack L) (key : ℕ) (local : Option L) → count_by (is_parent v) (with_local s key local).frames ≡ count_by (is_parent v) s.frames
parents_local {L = L} v s key local = by_cell (frame_at s key) refl where
  by_cell : (c : Option (Frame L)) → frame_at s key ≡ c → count_by (is_parent v) (keeping s key local c).frames ≡ count_by (is_parent v) s.frames
  by_cell None at = refl
  by_cell (Some f) at =
      let t = (turns_local s key f.place f.local local at).sums (λ (x : Option (Frame L)). one (is_parent v x)) refl in
      let e : count_by (is_parent v) (with_local s key local).frames ≡ count_by (is_parent v) (keeping s key local (Some f)).frames = ap (λ (c : Option (Frame L)). count_by (is_parent v) (keeping s key local c).frames) at in
      omega (arith, t, e)

local_ended : {L : Type 0} (s : Stack L) (key : ℕ) (local : Option L) → NoneReplied s → NoneReplied (with_local s key local)
local_ended {L = L} s key local none = by_cell (frame_at s key) where
  by_cell : (c : Option (Frame L)) → NoneReplied (keeping s key local c)
  by_cell None = none
  by_cell (Some f) = none

-- ---- where each step puts its winds

module _ {F R L : Type 0} (outer : WindNo → ℕ) where
  handed_places : (v : WindNo) (b : Board F R L) (to : Child) (place : Place) (child : ℕ) (w : WindNo) (fop : F) → IsWired to → places outer (handed_to b to place child w fop) v ≡ places outer b v + one (is_wind v w)
  handed_places v b (Node to) place child w fop wired = let c = count_push (is_queued v) b.queue (Enter to place.call (Some w) fop) in omega (arith, c)
  handed_places v b Outside place child w fop wired = let c = count_push (is_sent v) b.sent (record { wind = w; node = place.node; child = child; fop = fop }) in omega (arith, c)
  handed_places v b Nothing place child w fop wired = absurd wired

  module _ (wiring : Wiring) (place : Place) (key : ℕ) (old : Board F R L) where
    wound_places : (v : WindNo) (xs : List (ℕ × ℕ × F)) (new : Board F R L) → AreWoundDown wiring place key old xs new → places outer new v + opened old.stack v ≡ places outer old v + opened new.stack v
    wound_places v _ _ NoWind = refl
    wound_places v _ _ (OneMore xs x mid new before is) =
        let ih = wound_places v xs mid before in
        let h = handed_places v is.mid (below wiring place.node x.0) place x.0 is.wind x.2 is.wired in
        let n : places outer new v ≡ places outer (handed_to is.mid (below wiring place.node x.0) place x.0 is.wind x.2) v = ap (λ (b : Board F R L). places outer b v) is.handed in
        let f : count_by (is_parent v) is.mid.stack.frames ≡ count_by (is_parent v) mid.stack.frames = ap (λ (s : Stack L). count_by (is_parent v) s.frames) is.opened.wound.made in
        let q : count_by (is_queued v) is.mid.queue ≡ count_by (is_queued v) mid.queue = ap (λ (b : Board F R L). count_by (is_queued v) b.queue) is.opened.rest in
        let t : count_by (is_sent v) is.mid.sent ≡ count_by (is_sent v) mid.sent = ap (λ (b : Board F R L). count_by (is_sent v) b.sent) is.opened.rest in
        let fr = is.opened.wound.free in
        let g = gains mid.stack is.mid.stack is.wind _ (no_opener mid.stack is.wind (λ e. omega (arith, e, fr)) (λ e. omega (arith, e, fr))) is.opened.openers v in
        let s : opened new.stack v ≡ opened is.mid.stack v = ap (λ (x : Stack L). opened x v) (wound_stack wiring place key mid new x is) in
        omega (arith, ih, h, n, f, q, t, g, s)

    wound_ended : (xs : List (ℕ × ℕ × F)) (new : Board F R L) → AreWoundDown wiring place key old xs new → NoneReplied old.stack → NoneReplied new.stack
    wound_ended _ _ NoWind none = none
    wound_ended _ _ (OneMore xs x mid new before is) none = after (wound_ended xs mid before none) where
      at : new.stack ≡ is.mid.stack
      at = wound_stack wiring place key mid new x is

      after : NoneReplied mid.stack → NoneReplied new.stack
      after none slot turn = by_slot (cases_eq slot is.wind.slot) where
        by_slot : (slot ≡ is.wind.slot) ⊎ (slot ≢ is.wind.slot) → word_at new.stack slot ≢ turn * 4 + 2
        by_slot (inl same) e = let p : word_at new.stack slot ≡ is.wind.turn * 4 + 1 = ap (λ (s : Stack L). word_at s slot) at ∙ ap (word_at is.mid.stack) same ∙ is.opened.pending in omega (arith, p, e)
        by_slot (inr differs) e = none slot turn (sym (ap (λ (s : Stack L). word_at s slot) at ∙ ap (λ (s : Stack L). word_at s slot) is.opened.wound.made ∙ put_other mid.stack.words is.wind.slot slot (pending is.wind) 0 differs) ∙ e)

  -- a wind that is pending ends: it was in one place more than it is now
  ends_parted : (w : WindNo) (reply : R) (old new : Board F R L) → Ends w reply old new → word_at old.stack w.slot ≡ pending w → ((v : WindNo) → places outer old v + one (is_wind v w) ≡ opened old.stack v) → NoneReplied old.stack → IsParted outer new
  ends_parted w reply old new e at before none = record {
    placed = λ v.
        let b = before v in
        let l = loses old.stack new.stack w e.opener e.opened e.openers v in
        let f : count_by (is_parent v) new.stack.frames ≡ count_by (is_parent v) old.stack.frames = ap (count_by (is_parent v)) (ends_frames w reply old new e) in
        let q : count_by (is_queued v) new.queue ≡ count_by (is_queued v) old.queue + 0 = ap (λ (x : Board F R L). count_by (is_queued v) x.queue) e.made ∙ count_push (is_queued v) old.queue (Resume e.opener.frame e.opener.slot reply) in
        let t : count_by (is_sent v) new.sent ≡ count_by (is_sent v) old.sent = ap (λ (x : Board F R L). count_by (is_sent v) x.sent) e.made in
        omega (arith, b, l, f, q, t);
    ended = λ slot turn. by_slot slot turn (cases_eq slot w.slot);
  } where
    by_slot : (slot turn : ℕ) → (slot ≡ w.slot) ⊎ (slot ≢ w.slot) → word_at new.stack slot ≢ turn * 4 + 2
    by_slot slot turn (inl same) i = let n : word_at new.stack slot ≡ w.turn * 4 + 4 = ap (word_at new.stack) same ∙ ended_word w reply old new e at in omega (arith, n, i)
    by_slot slot turn (inr differs) i = none slot turn (sym (other_word w reply old new e slot differs) ∙ i)

  -- a wind that has to be in one place more is pending, so it ends
  pub ended_parted : (w : WindNo) (reply : R) (old new : Board F R L) → IsEnded w reply old new → ((v : WindNo) → places outer old v + one (is_wind v w) ≡ opened old.stack v) → NoneReplied old.stack → IsParted outer new
  ended_parted w reply old new is before none = by_case (word_at old.stack w.slot == pending w) refl is where
    has : (o : Opener) × (opener_of old.stack w ≡ Some o)
    has = open_some old.stack w (let b = before w in let i : one (is_wind w w) ≡ 1 = ap one (itself w) in omega (arith, b, i))

    at : word_at old.stack w.slot ≡ pending w
    at = open_pending old.stack w has.0 none has.1

    by_case : (b : Bool) → (word_at old.stack w.slot == pending w) ≡ b → EndsBy b w reply old new → IsParted outer new
    by_case true on e = ends_parted w reply old new e at before none
    by_case false off e = absurd (let on = eq-eqb (word_at old.stack w.slot) (pending w) at in cc)

  -- the wind that opened a frame, which ends
  answered_parted : (parent : Option WindNo) (call : ℕ) (reply : R) (old new : Board F R L) → IsAnswered parent call reply old new → ((v : WindNo) → places outer old v + one (is_same v parent) ≡ opened old.stack v) → NoneReplied old.stack → IsParted outer new
  answered_parted None call reply old new is before none = subst (λ (x : Board F R L). IsParted outer x) (sym is) (record { placed = λ v. let b = before v in omega (arith, b); ended = none })
  answered_parted (Some w) call reply old new is before none = ended_parted w reply old new is before none

  module _ (wiring : Wiring) (key : ℕ) (place : Place) (old new : Board F R L) where
    pub carried_parted : (step : Step F R L) → frame_at old.stack key ≡ bare place → IsCarried wiring key place old step new → IsParted outer old → IsParted outer new
    carried_parted (Wind winds local) at c parted = subst (λ (x : Board F R L). IsParted outer x) (sym c.put) (record {
      placed = λ v.
          let b = parted.placed v in
          let w = wound_places wiring place key old v winds.items c.mid c.wound in
          let f = parents_local v c.mid.stack key (Some local) in
          let o = local_opened v c.mid.stack key (Some local) in
          omega (arith, b, w, f, o);
      ended = local_ended c.mid.stack key (Some local) (wound_ended wiring place key old winds.items c.mid c.wound parted.ended);
    })
    carried_parted (Wait local) at c parted = subst (λ (x : Board F R L). IsParted outer x) (sym c) (record {
      placed = λ v. let b = parted.placed v in let f = parents_local v old.stack key (Some local) in let o = local_opened v old.stack key (Some local) in omega (arith, b, f, o);
      ended = local_ended old.stack key (Some local) parted.ended;
    })
    carried_parted (Unwind reply) at c parted = answered_parted place.parent place.call reply (freed old key) new c
        (λ v. let b = parted.placed v in let s = (turns_freed old.stack key (record { place = place; local = None }) at).sums (λ (x : Option (Frame L)). one (is_parent v x)) refl in omega (arith, b, s))
        parted.ended

-- a frame whose local goes out has the parent that it had; one that is opened has its own
pub took_places : {F R L : Type 0} (outer : WindNo → ℕ) (v : WindNo) (b mid : Board F R L) (key : ℕ) (place : Place) (was : Option (Frame L)) → Took b mid key place was → places outer mid v + one (is_parent v was) ≡ places outer b v + one (is_same v place.parent)
took_places {F = F} {R = R} {L = L} outer v b mid key place was took =
    let s = took.turns.sums (λ (x : Option (Frame L)). one (is_parent v x)) refl in
    let q : count_by (is_queued v) mid.queue ≡ count_by (is_queued v) b.queue = ap (λ (x : Board F R L). count_by (is_queued v) x.queue) took.rest in
    let t : count_by (is_sent v) mid.sent ≡ count_by (is_sent v) b.sent = ap (λ (x : Board F R L). count_by (is_sent v) x.sent) took.rest in
    omega (arith, s, q, t)

pub took_opened : {F R L : Type 0} (v : WindNo) (b mid : Board F R L) (key : ℕ) (place : Place) (was : Option (Frame L)) → Took b mid key place was → opened mid.stack v ≡ opened b.stack v
took_opened {F = F} {R = R} {L = L} v b mid key place was took = ap (λ (x : Board F R L). opened x.stack v) took.rest

pub took_ended : {F R L : Type 0} (b mid : Board F R L) (key : ℕ) (place : Place) (was : Option (Frame L)) → Took b mid key place was → NoneReplied b.stack → NoneReplied mid.stack
took_ended {F = F} {R = R} {L = L} b mid key place was took none = subst (λ (x : Board F R L). NoneReplied x.stack) (sym took.rest) none
