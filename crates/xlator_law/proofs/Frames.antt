-- What the law of one step gives for a whole frame: the cost falls by what is paid, and a slot's winds and
-- answers alternate.
use Rattle.std.proofs.Common.{◌≡◌, refl, sym, ap, subst, ◌∙◌}
use Rattle.std.proofs.Common.{arith}
use Rattle.std.proofs.lemmas.Bool.{eqb-true}
use Rattle.std.proofs.lemmas.List.{append-nil, append_assoc}
use Rattle.std.specs.Prelude.{ℕ, ◌+◌, ◌<◌, ◌≤◌, ◌==◌, ◌&&◌, ◌||◌, Bool, true, false, not, List, [], ◌∷◌, ◌++◌}
use Rattle.xlator_law.specs.declared.step.Step.{Step}
use Rattle.xlator_law.specs.declared.step.Step.TheVariants.{Wind, Wait, Unwind}
use Rattle.xlator_law.specs.declared.winds.Entry.{Entry}
use Rattle.xlator_law.specs.Law.{Slots, no_slots, without, with_winds, is_wound, AreFresh, AreWithin, wind_cost, Promise, Cause, IsStepFrom}
use Rattle.xlator_law.specs.Frames.{one_if, times_answered, times_wound, Event, winds_in, replies_in, winds_of, IsTrace, IsBounded, any_step, FramesAreBounded}
use Rattle.xlator_law.specs.Frames.Event.{Wound, Answered, WentOn}
use Rattle.xlator_law.specs.Frames.IsTrace.{Entered, Resumed, Continued}

in_append : {R : Type 0} (s : ℕ) (xs : List (ℕ × R)) (x : ℕ × R) → times_answered s (xs ++ x ∷ []) ≡ times_answered s xs + one_if (s == x.0)
in_append s [] x = omega (arith)
in_append s (y ∷ ys) x = let ih = in_append s ys x in omega (arith, ih)

or_false : (b : Bool) → 0 + one_if b ≡ one_if (b || false)
or_false true = refl
or_false false = refl

left_out : (w e : Bool) → (e ≡ true → w ≡ true) → one_if e + one_if (w && not e) ≡ one_if w
left_out true true h = refl
left_out true false h = refl
left_out false true h = absurd (let no = h refl in cc)
left_out false false h = refl

one_more : (b e i : Bool) (t : ℕ) → t + one_if b ≡ one_if (b || i) → (e ≡ true → b ≡ false) → (e ≡ true → i ≡ false) → one_if e + t + one_if b ≡ one_if (b || (e || i))
one_more true true i t h p q = absurd (let no = p refl in cc)
one_more true false i t h p q = omega (arith, h)
one_more false true true t h p q = absurd (let no = q refl in cc)
one_more false true false t h p q = omega (arith, h)
one_more false false i t h p q = omega (arith, h)

-- the slot that answered is left out, and no other
without_times : (waiting : Slots) (slot s : ℕ) → waiting slot ≡ true → one_if (s == slot) + one_if (without slot waiting s) ≡ one_if (waiting s)
without_times waiting slot s w = left_out (waiting s) (s == slot) (λ e. subst (λ n. waiting n ≡ true) (sym (eqb-true s slot e)) w)

module _ {F : Type 0} where
  cost_append : (child : ℕ → F → ℕ) (xs ys : List (ℕ × ℕ × F)) → wind_cost child (xs ++ ys) ≡ wind_cost child xs + wind_cost child ys
  cost_append child [] ys = omega (arith)
  cost_append child (x ∷ xs) ys = let ih = cost_append child xs ys in omega (arith, ih)

  wound_append : (s : ℕ) (xs ys : List (ℕ × ℕ × F)) → times_wound s (xs ++ ys) ≡ times_wound s xs + times_wound s ys
  wound_append s [] ys = omega (arith)
  wound_append s (x ∷ xs) ys = let ih = wound_append s xs ys in omega (arith, ih)

  -- fresh winds add their slots, each once
  fresh_times : (before : Slots) (ws : List (ℕ × ℕ × F)) → AreFresh before ws → (s : ℕ) → times_wound s ws + one_if (before s) ≡ one_if (with_winds before ws s)
  fresh_times before [] h s = or_false (before s)
  fresh_times before (w ∷ ws) h s = one_more (before s) (s == w.1) (is_wound ws s) (times_wound s ws) (fresh_times before ws h.2 s) (λ e. at before e h.0) (λ e. at (is_wound ws) e h.1) where
    at : (slots : Slots) → (s == w.1) ≡ true → slots w.1 ≡ false → slots s ≡ false
    at slots e f = subst (λ n. slots n ≡ false) (sym (eqb-true s w.1 e)) f

  within_append : (children slots : ℕ) (xs ys : List (ℕ × ℕ × F)) → AreWithin children slots xs → AreWithin children slots ys → AreWithin children slots (xs ++ ys)
  within_append children slots [] ys a b = b
  within_append children slots (x ∷ xs) ys a b = (a.0, a.1, within_append children slots xs ys a.2 b)

  wound_within : (children slots : ℕ) (ws : List (ℕ × ℕ × F)) → AreWithin children slots ws → (s : ℕ) → is_wound ws s ≡ true → s < slots
  wound_within children slots [] h s is = absurd cc
  wound_within children slots (w ∷ ws) h s is = by_case (s == w.1) refl (wound_within children slots ws h.2 s) is where
    by_case : (b : Bool) → (s == w.1) ≡ b → (is_wound ws s ≡ true → s < slots) → (b || is_wound ws s) ≡ true → s < slots
    by_case true e later i = subst (λ n. n < slots) (sym (eqb-true s w.1 e)) h.1
    by_case false e later i = later i

-- what the events of a further step add
module _ {F R : Type 0} where
  answered_winds : (es : List (Event F R)) (slot : ℕ) (reply : R) (ws : List (ℕ × ℕ × F)) → winds_in (es ++ Answered slot reply ∷ Wound ws ∷ []) ≡ winds_in es ++ ws
  answered_winds [] slot reply ws = append-nil ws
  answered_winds (Wound winds ∷ es) slot reply ws = ap (λ (l : List (ℕ × ℕ × F)). winds ++ l) (answered_winds es slot reply ws) ∙ sym (append_assoc winds (winds_in es) ws)
  answered_winds (Answered s r ∷ es) slot reply ws = answered_winds es slot reply ws
  answered_winds (WentOn ∷ es) slot reply ws = answered_winds es slot reply ws

  answered_replies : (es : List (Event F R)) (slot : ℕ) (reply : R) (ws : List (ℕ × ℕ × F)) → replies_in (es ++ Answered slot reply ∷ Wound ws ∷ []) ≡ replies_in es ++ (slot, reply) ∷ []
  answered_replies [] slot reply ws = refl
  answered_replies (Wound winds ∷ es) slot reply ws = answered_replies es slot reply ws
  answered_replies (Answered s r ∷ es) slot reply ws = ap (λ (l : List (ℕ × R)). (s, r) ∷ l) (answered_replies es slot reply ws)
  answered_replies (WentOn ∷ es) slot reply ws = answered_replies es slot reply ws

  went_winds : (es : List (Event F R)) (ws : List (ℕ × ℕ × F)) → winds_in (es ++ WentOn ∷ Wound ws ∷ []) ≡ winds_in es ++ ws
  went_winds [] ws = append-nil ws
  went_winds (Wound winds ∷ es) ws = ap (λ (l : List (ℕ × ℕ × F)). winds ++ l) (went_winds es ws) ∙ sym (append_assoc winds (winds_in es) ws)
  went_winds (Answered s r ∷ es) ws = went_winds es ws
  went_winds (WentOn ∷ es) ws = went_winds es ws

  went_replies : (es : List (Event F R)) (ws : List (ℕ × ℕ × F)) → replies_in (es ++ WentOn ∷ Wound ws ∷ []) ≡ replies_in es
  went_replies [] ws = refl
  went_replies (Wound winds ∷ es) ws = went_replies es ws
  went_replies (Answered s r ∷ es) ws = ap (λ (l : List (ℕ × R)). (s, r) ∷ l) (went_replies es ws)
  went_replies (WentOn ∷ es) ws = went_replies es ws

-- where each slot was wound as often as it was answered, and once more where it is in `before`
module _ {F R L : Type 0} (p : Promise F L) (fop : F) where
  -- a step that is paid out of `most` takes a bounded frame on
  taken : (before : Slots) (most : ℕ) (winds : List (ℕ × ℕ × F)) (replies : List (ℕ × R)) (step : Step F R L) →
      IsStepFrom p before most step →
      wind_cost p.child_cost winds + most ≤ p.cost fop → AreWithin p.children p.slots winds →
      ((s : ℕ) → times_wound s winds ≡ times_answered s replies + one_if (before s)) →
      ((s : ℕ) → before s ≡ true → s < p.slots) →
      IsBounded p fop (winds ++ winds_of step) replies step
  taken before most winds replies (Wind sent local) step paid within answered narrow = record {
    paid = let c = cost_append p.child_cost winds sent.items in let o = step.paid in omega (arith, c, o, paid);
    within = within_append p.children p.slots winds sent.items within step.within;
    answered = λ s. let a = answered s in
        let w = wound_append s winds sent.items in
        let f = fresh_times before sent.items step.fresh s in
        let k : one_if (p.unanswered local s) ≡ one_if (with_winds before sent.items s) = ap one_if (step.kept s) in
        omega (arith, a, w, f, k);
    narrow = λ s is. by_case s (before s) refl (sym (step.kept s) ∙ is);
  } where
    by_case : (s : ℕ) (b : Bool) → before s ≡ b → (b || is_wound sent.items s) ≡ true → s < p.slots
    by_case s true e i = narrow s e
    by_case s false e i = wound_within p.children p.slots sent.items step.within s i
  taken before most winds replies (Wait local) step paid within answered narrow = record {
    paid = let c = cost_append p.child_cost winds [] in let o = step.paid in omega (arith, c, o, paid);
    within = within_append p.children p.slots winds [] within tt;
    answered = λ s. let a = answered s in
        let w = wound_append s winds [] in
        let k : one_if (p.unanswered local s) ≡ 0 = ap one_if (step.kept s) in
        let n : one_if (before s) ≡ 0 = ap one_if (step.answered s) in
        omega (arith, a, w, k, n);
    narrow = λ s is. absurd (let no = step.kept s in cc);
  }
  taken before most winds replies (Unwind reply) step paid within answered narrow = record {
    paid = let c = cost_append p.child_cost winds [] in omega (arith, c, paid);
    within = within_append p.children p.slots winds [] within tt;
    answered = λ s. let a = answered s in
        let w = wound_append s winds [] in
        let n : one_if (before s) ≡ 0 = ap one_if (step s) in
        omega (arith, a, w, n);
    narrow = λ s is. absurd cc;
  }

module _ {F R L : Type 0} (p : Promise F L) (made : Cause F R L → Step F R L → Type 0) (entry : Entry) (fop : F) where
  as_lists : (winds winds2 : List (ℕ × ℕ × F)) (replies replies2 : List (ℕ × R)) (step : Step F R L) → winds2 ≡ winds → replies2 ≡ replies → IsBounded p fop winds replies step → IsBounded p fop winds2 replies2 step
  as_lists winds winds2 replies replies2 step w r is = subst (λ (l : List (ℕ × ℕ × F)). IsBounded p fop l replies2 step) (sym w) (subst (λ (l : List (ℕ × R)). IsBounded p fop winds l step) (sym r) is)

  pub bounded : (events : List (Event F R)) (step : Step F R L) → IsTrace p made entry fop events step → IsBounded p fop (winds_in events) (replies_in events) step
  bounded _ _ (Entered step is makes) =
      as_lists (winds_of step) _ [] _ step (append-nil (winds_of step)) refl (taken p fop no_slots (p.cost fop) [] [] step is (omega (arith)) tt (λ s. refl) (λ s i. absurd cc))
  bounded _ _ (Resumed events sent local slot reply step trace waits is makes) =
      let old = bounded events (Wind sent local) trace in
      as_lists (winds_in events ++ winds_of step) _ (replies_in events ++ (slot, reply) ∷ []) _ step (answered_winds events slot reply (winds_of step)) (answered_replies events slot reply (winds_of step))
      (taken p fop (without slot (p.unanswered local)) (p.left local) (winds_in events) (replies_in events ++ (slot, reply) ∷ []) step is old.paid old.within
      (λ s. let a = old.answered s in let i = in_append s (replies_in events) (slot, reply) in let t = without_times (p.unanswered local) slot s waits in omega (arith, a, i, t))
      (λ s i. old.narrow s (first (p.unanswered local s) (not (s == slot)) i))) where
        first : (a b : Bool) → (a && b) ≡ true → a ≡ true
        first true b h = refl
        first false b h = absurd cc
  bounded _ _ (Continued events local step trace is makes) =
      let old = bounded events (Wait local) trace in
      as_lists (winds_in events ++ winds_of step) _ (replies_in events) _ step (went_winds events (winds_of step)) (went_replies events (winds_of step))
      (taken p fop (p.unanswered local) (p.left local) (winds_in events) (replies_in events) step is old.paid old.within old.answered old.narrow)

pub frames : (F R L : Type 0) → FramesAreBounded F R L
frames F R L p entry fop events step trace = bounded p any_step entry fop events step trace
