-- What a task keeps that is put behind the others.
use Rattle.std.proofs.Common.{◌≡◌, refl, sym, ap, subst, ◌∙◌, arith, inl, inr}
use Rattle.std.proofs.lemmas.Bool.{cases_eq, eq-eqb, ne_eqb}
use Rattle.std.specs.Prelude.{ℕ, ◌≢◌, ◌⊎◌, ◌<◌, ◌≤◌, ◌+◌, ◌*◌, ◌==◌, cond, List, length, Option, Some, None, IsSomeAnd, count_by}
use Rattle.xlator_law.specs.declared.winds.WindNo.{WindNo}
use Rattle.xlator_law.specs.Law.{Promise}
use Rattle.frame_stack.specs.declared.frame.Frame.{Frame}
use Rattle.frame_stack.specs.Stack.{frame_at}
use Rattle.frame_stack.proofs.Lists.{count_push}
use Rattle.frame_driver.specs.declared.board.Board.{Board}
use Rattle.frame_driver.specs.declared.items.Task.TheVariants.{Enter, Go}
use Rattle.frame_driver.specs.Account.{owed, account}
use Rattle.frame_driver.specs.Breadth.{Nests}
use Rattle.frame_driver.specs.Follows.{promise_at, waits_in, expected, FollowsAt}
use Rattle.frame_driver.specs.Machine.{with_task}
use Rattle.frame_driver.specs.Parts.{is_queued, IsParted}
use Rattle.frame_driver.specs.Sound.{Sound}
use Rattle.frame_driver.specs.Tasks.{one, is_due, is_going, IsOurs}
use Rattle.frame_driver.specs.Total.{load_of, total}
use Rattle.frame_driver.specs.Waits.{AreHeld}
use Rattle.frame_driver.proofs.Nesting.{tasks_push as nests_push}
use Rattle.frame_driver.proofs.Standing.{moved}
use Rattle.frame_driver.proofs.Tasking.{tasks_push}
use Rattle.frame_driver.proofs.Total.{sum_push}

module _ {F R L : Type 0} (old new : Board F R L) where
  -- a fop that is to enter
  module _ (node call : ℕ) (fop : F) (is : new ≡ with_task old (Enter node call None fop)) where
    pub submitted_sound : (ps : ℕ → List (Promise F L)) → node < length (ps old.graph) → Sound ps old → Sound ps new
    submitted_sound ps there s = subst (Sound ps) (sym is) (record {
      follows = λ k. moved ps old (with_task old (Enter node call None fop)) k refl
          (λ n. let c = count_push (is_due k n) old.queue (Enter node call None fop) in omega (arith, c))
          (let c = count_push (is_going k) old.queue (Enter node call None fop) in omega (arith, c))
          (s.follows k);
      tasks = tasks_push old.graph (length (ps old.graph)) old.stack old.queue (Enter node call None fop) s.tasks (there, tt);
      reachable = s.reachable;
      counted = s.counted;
    })

    pub submitted_parted : (outer : WindNo → ℕ) → IsParted outer old → IsParted outer new
    submitted_parted outer p = subst (IsParted outer) (sym is) (record {
      placed = λ w. let h = p.placed w in let c = count_push (is_queued w) old.queue (Enter node call None fop) in omega (arith, h, c);
      ended = p.ended;
    })

    pub submitted_held : (ps : ℕ → List (Promise F L)) (outer : ℕ → ℕ) → AreHeld ps outer old → AreHeld ps outer new
    submitted_held ps outer h = subst (AreHeld ps outer) (sym is) (λ k. let e = h k in let c = count_push (is_going k) old.queue (Enter node call None fop) in omega (arith, e, c))

    pub submitted_nests : (ps : ℕ → List (Promise F L)) → Nests ps old → Nests ps new
    submitted_nests ps n = subst (Nests ps) (sym is) (record { frames = n.frames; tasks = nests_push ps old.graph old.stack old.queue (Enter node call None fop) n.tasks tt })

    pub submitted_work : (ps : ℕ → List (Promise F L)) → total ps new ≡ total ps old + 2 + 3 * (promise_at (ps old.graph) node).cost fop
    submitted_work ps = let t : total ps new ≡ total ps (with_task old (Enter node call None fop)) = ap (total ps) is in let c = sum_push (load_of (ps old.graph)) old.queue (Enter node call None fop) in omega (arith, t, c)

    pub submitted_paid : (ps : ℕ → List (Promise F L)) (c : ℕ) → account ps c new ≡ account ps c old + cond (call == c) ((promise_at (ps old.graph) node).cost fop) 0
    submitted_paid ps c = let t : account ps c new ≡ account ps c (with_task old (Enter node call None fop)) = ap (account ps c) is in let p = sum_push (owed (ps old.graph) c) old.queue (Enter node call None fop) in omega (arith, t, p)

  -- a frame that is to go on
  module _ (frame : ℕ) (is : new ≡ with_task old (Go frame)) where
    pub went_sound : (ps : ℕ → List (Promise F L)) → IsSomeAnd (frame_at old.stack frame) (λ f. f.place.graph ≡ old.graph) → count_by (is_going frame) old.queue + 1 ≤ one (waits_in ps (frame_at old.stack frame)) → Sound ps old → Sound ps new
    went_sound ps home once s = subst (Sound ps) (sym is) (record {
      follows = λ k. by_key k (cases_eq k frame);
      tasks = tasks_push old.graph (length (ps old.graph)) old.stack old.queue (Go frame) s.tasks (ours (frame_at old.stack frame) home);
      reachable = s.reachable;
      counted = s.counted;
    }) where
      ours : (c : Option (Frame L)) → IsSomeAnd c (λ f. f.place.graph ≡ old.graph) → IsOurs old.graph c
      ours None h = tt
      ours (Some f) h = h

      same : (k n : ℕ) → expected (with_task old (Go frame)) k n ≡ expected old k n
      same k n = let c = count_push (is_due k n) old.queue (Go frame) in omega (arith, c)

      by_key : (k : ℕ) → (k ≡ frame) ⊎ (k ≢ frame) → FollowsAt ps (with_task old (Go frame)) k
      by_key k (inl e) = record {
        expects = λ n. same k n ∙ (s.follows k).expects n;
        going =
            let c = count_push (is_going k) old.queue (Go frame) in
            let i : one (k == frame) ≡ 1 = ap one (eq-eqb k frame e) in
            let o : count_by (is_going k) old.queue + 1 ≤ one (waits_in ps (frame_at old.stack k)) = subst (λ i. count_by (is_going i) old.queue + 1 ≤ one (waits_in ps (frame_at old.stack i))) (sym e) once in
            omega (arith, c, i, o);
        stands = (s.follows k).stands;
      }
      by_key k (inr differs) = moved ps old (with_task old (Go frame)) k refl (same k)
          (let c = count_push (is_going k) old.queue (Go frame) in let i : one (k == frame) ≡ 0 = ap one (ne_eqb k frame differs) in omega (arith, c, i))
          (s.follows k)

    pub went_parted : (outer : WindNo → ℕ) → IsParted outer old → IsParted outer new
    went_parted outer p = subst (IsParted outer) (sym is) (record {
      placed = λ w. let h = p.placed w in let c = count_push (is_queued w) old.queue (Go frame) in omega (arith, h, c);
      ended = p.ended;
    })

    pub went_held : (ps : ℕ → List (Promise F L)) (outer : ℕ → ℕ) → AreHeld ps (λ k. outer k + one (k == frame)) old → AreHeld ps outer new
    went_held ps outer h = subst (AreHeld ps outer) (sym is) (λ k. let e = h k in let c = count_push (is_going k) old.queue (Go frame) in omega (arith, e, c))

    pub went_nests : (ps : ℕ → List (Promise F L)) → Nests ps old → Nests ps new
    went_nests ps n = subst (Nests ps) (sym is) (record { frames = n.frames; tasks = nests_push ps old.graph old.stack old.queue (Go frame) n.tasks tt })

    pub went_work : (ps : ℕ → List (Promise F L)) → total ps new ≡ total ps old + 1
    went_work ps = let t : total ps new ≡ total ps (with_task old (Go frame)) = ap (total ps) is in let c = sum_push (load_of (ps old.graph)) old.queue (Go frame) in omega (arith, t, c)

    pub went_paid : (ps : ℕ → List (Promise F L)) (c : ℕ) → account ps c new ≡ account ps c old
    went_paid ps c = let t : account ps c new ≡ account ps c (with_task old (Go frame)) = ap (account ps c) is in let p = sum_push (owed (ps old.graph) c) old.queue (Go frame) in omega (arith, t, p)
