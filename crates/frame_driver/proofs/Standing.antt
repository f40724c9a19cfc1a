-- Each step keeps that the frames follow their nodes.
use Rattle.std.proofs.Common.{◌≡◌, refl, sym, ap, subst, ◌∙◌, arith, inl, inr}
use Rattle.std.proofs.lemmas.Bool.{cases_eq, eq-eqb, ne_eqb}
use Rattle.std.proofs.lemmas.List.Sums.{sum_by-cons}
use Rattle.std.specs.Prelude.{ℕ, ◌≢◌, ◌⊎◌, zero, suc, ◌<◌, ◌≤◌, ◌+◌, ◌==◌, ◌||◌, ◌&&◌, not, cond, Bool, true, false, List, [], ◌∷◌, length, Option, Some, None, IsSome, IsSomeAnd, count_by}
use Rattle.xlator_law.specs.declared.step.Step.{Step}
use Rattle.xlator_law.specs.declared.step.Step.TheVariants.{Wind, Wait, Unwind}
use Rattle.xlator_law.specs.declared.winds.Place.{Place}
use Rattle.xlator_law.specs.declared.winds.WindNo.{WindNo}
use Rattle.xlator_law.specs.Law.{Promise, Slots, no_slots, without, is_wound, IsNone, IsSomeSlot, IsStepFrom}
use Rattle.frame_stack.specs.declared.frame.Frame.{Frame}
use Rattle.frame_stack.specs.Stack.{Stack, frame_at, awaits, keeping, with_local}
use Rattle.frame_driver.specs.declared.board.Board.{Board}
use Rattle.frame_driver.specs.declared.items.Task.{Task}
use Rattle.frame_driver.specs.declared.items.Task.TheVariants.{Enter, Resume, Go}
use Rattle.frame_driver.specs.declared.wiring.Wiring.{Wiring}
use Rattle.frame_driver.specs.Follows.{promise_at, promise_of, slots_in, waits_in, StandsBy, Stands, expected, FollowsAt}
use Rattle.frame_driver.specs.Machine.{IsOpened, IsCarried, before_task, freed, out_of}
use Rattle.frame_driver.specs.Tasks.{one, is_due, is_going}
use Rattle.frame_driver.proofs.Carrying.{bare, carried_turns, Took, begun_took, out_took}
use Rattle.frame_driver.proofs.Ending.{Still, answered_still}
use Rattle.frame_driver.proofs.Frames.{Turns}
use Rattle.frame_driver.proofs.Winding.{flip, awaits_more, others_await, tasks_kept, fresh_out}

pub count_cons : {X : Type 0} (p : X → Bool) (x : X) (xs : List X) → count_by p (x ∷ xs) ≡ one (p x) + count_by p xs
count_cons p x xs = sum_by-cons (λ y. cond (p y) 1 0) x xs

or_counts : (a i b : Bool) (d : ℕ) → one a + d ≡ one b → (i ≡ true → b ≡ false) → one (a || i) + d ≡ one (b || i)
or_counts true true true d e f = absurd (let no = f refl in cc)
or_counts true true false d e f = absurd (omega (arith, e))
or_counts false true true d e f = absurd (let no = f refl in cc)
or_counts false true false d e f = omega (arith, e)
or_counts true false true d e f = e
or_counts true false false d e f = e
or_counts false false true d e f = e
or_counts false false false d e f = e

taken_out : (u h : Bool) (x : ℕ) → one h + x ≡ one u → x ≡ one (u && not h)
taken_out true true x e = omega (arith, e)
taken_out true false x e = omega (arith, e)
taken_out false true x e = absurd (omega (arith, e))
taken_out false false x e = omega (arith, e)

some_one : (b : Bool) → 1 ≤ one b → b ≡ true
some_one true h = refl
some_one false h = absurd (omega (arith, h))

-- a local that goes out or comes back changes no wind
pub local_awaits : {L : Type 0} (s : Stack L) (key : ℕ) (local : Option L) (k n : ℕ) → awaits (with_local s key local) k n ≡ awaits s k n
local_awaits {L = L} s key local k n = by_cell (frame_at s key) where
  by_cell : (c : Option (Frame L)) → awaits (keeping s key local c) k n ≡ awaits s k n
  by_cell None = refl
  by_cell (Some f) = refl

some_kept : {F L : Type 0} (ps : ℕ → List (Promise F L)) (c : Option (Frame L)) → Stands ps c → (c ≡ None → ⊥) → IsSomeAnd c (λ f. IsSome f.local)
some_kept ps None h some = absurd (some refl)
some_kept {L = L} ps (Some f) h some = by_local f.local h where
  by_local : (o : Option L) → StandsBy (promise_of ps f.place) o → IsSome o
  by_local None h = absurd h
  by_local (Some l) h = refl

module _ {F R L : Type 0} (ps : ℕ → List (Promise F L)) where
  -- a frame that is as it was, and expects what it expected
  pub moved : (b c : Board F R L) (k : ℕ) → frame_at c.stack k ≡ frame_at b.stack k → ((n : ℕ) → expected c k n ≡ expected b k n) → count_by (is_going k) c.queue ≡ count_by (is_going k) b.queue → FollowsAt ps b k → FollowsAt ps c k
  moved b c k frame_same expected_same going_same f = record {
    expects = λ n. expected_same n ∙ f.expects n ∙ ap (λ (x : Option (Frame L)). one (slots_in ps x n)) (sym frame_same);
    going = subst (λ (x : Option (Frame L)). count_by (is_going k) c.queue ≤ one (waits_in ps x)) (sym frame_same) (let g = f.going in omega (arith, g, going_same));
    stands = subst (λ (x : Option (Frame L)). Stands ps x) (sym frame_same) f.stands;
  }

  -- a frame that stands with its local
  standing : (b : Board F R L) (k : ℕ) (place : Place) (local : L) → frame_at b.stack k ≡ Some (record { place = place; local = Some local }) →
      ((n : ℕ) → expected b k n ≡ one ((promise_of ps place).unanswered local n)) → count_by (is_going k) b.queue ≡ 0 → StandsBy (promise_of ps place) (Some local) → FollowsAt ps b k
  standing b k place local is expects_so idle stands_so = record {
    expects = λ n. expects_so n ∙ ap (λ (x : Option (Frame L)). one (slots_in ps x n)) (sym is);
    going = omega (arith, idle);
    stands = subst (λ (x : Option (Frame L)). Stands ps x) (sym is) stands_so;
  }

  gone : (b : Board F R L) (k : ℕ) → frame_at b.stack k ≡ None → ((n : ℕ) → expected b k n ≡ 0) → count_by (is_going k) b.queue ≡ 0 → FollowsAt ps b k
  gone b k is none idle = record {
    expects = λ n. none n ∙ ap (λ (x : Option (Frame L)). one (slots_in ps x n)) (sym is);
    going = omega (arith, idle);
    stands = subst (λ (x : Option (Frame L)). Stands ps x) (sym is) tt;
  }

  -- The frame's local is out, it expects these slots, and all other frames follow.
  pub record Focused (b : Board F R L) (key : ℕ) (place : Place) (before : Slots) : Type 0 where
    pub out : frame_at b.stack key ≡ bare place
    pub expects : (n : ℕ) → expected b key n ≡ one (before n)
    pub idle : count_by (is_going key) b.queue ≡ 0
    pub others : (k : ℕ) → k ≢ key → FollowsAt ps b k

  pub focused : (b mid : Board F R L) (key : ℕ) (place : Place) (was : Option (Frame L)) (before : Slots) → Took b mid key place was → ((n : ℕ) → expected b key n ≡ one (before n)) → count_by (is_going key) b.queue ≡ 0 → ((k : ℕ) → k ≢ key → FollowsAt ps b k) → Focused mid key place before
  focused b mid key place was before took expects idle others = record {
    out = took.turns.here;
    expects = λ n. ap (λ (x : Board F R L). expected x key n) took.rest ∙ expects n;
    idle = ap (λ (x : Board F R L). count_by (is_going key) x.queue) took.rest ∙ idle;
    others = λ k differs. moved b mid k (took.turns.others k differs) (λ n. ap (λ (x : Board F R L). expected x k n) took.rest) (ap (λ (x : Board F R L). count_by (is_going k) x.queue) took.rest) (others k differs);
  }

  -- the task is taken, and it is for no slot of this frame
  pub popped : (b : Board F R L) (t : Task F R) (k : ℕ) → ((n : ℕ) → is_due k n t ≡ false) → is_going k t ≡ false → FollowsAt ps (before_task b t) k → FollowsAt ps b k
  popped b t k none idle f = moved (before_task b t) b k refl
      (λ n. let c = count_cons (is_due k n) t b.queue in let z : one (is_due k n t) ≡ 0 = ap one (none n) in omega (arith, c, z))
      (let c = count_cons (is_going k) t b.queue in let z : one (is_going k t) ≡ 0 = ap one idle in omega (arith, c, z))
      f

  pub entering : (b mid : Board F R L) (key node call : ℕ) (parent : Option WindNo) (fop : F) (place : Place) → ((k : ℕ) → FollowsAt ps (before_task b (Enter node call parent fop)) k) → IsOpened place key b mid → Focused mid key place no_slots
  entering b mid key node call parent fop place fs o =
      let f = at key in focused b mid key place None no_slots (begun_took place key b mid o)
      (λ n. f.expects n ∙ ap (λ (x : Option (Frame L)). one (slots_in ps x n)) o.inserted.vacant)
      (let g : count_by (is_going key) b.queue ≤ 0 = subst (λ (x : Option (Frame L)). count_by (is_going key) b.queue ≤ one (waits_in ps x)) o.inserted.vacant f.going in omega (arith, g))
      (λ k differs. at k) where
        at : (k : ℕ) → FollowsAt ps b k
        at k = popped b (Enter node call parent fop) k (λ n. refl) refl (fs k)

  -- ---- a slot that was answered, by a task that was taken

  module _ (b : Board F R L) (key slot : ℕ) (reply : R) (fs : (k : ℕ) → FollowsAt ps (before_task b (Resume key slot reply)) k) where
    own : (n : ℕ) → ((key == key) && (slot == n)) ≡ (n == slot)
    own n = ap (λ t. t && (slot == n)) (eq-eqb key key refl) ∙ flip slot n

    more : (n : ℕ) → expected (before_task b (Resume key slot reply)) key n ≡ one ((key == key) && (slot == n)) + expected b key n
    more n = let c = count_cons (is_due key n) (Resume key slot reply) b.queue in omega (arith, c)

    here : 1 ≤ expected (before_task b (Resume key slot reply)) key slot
    here = let m = more slot in let i : one ((key == key) && (slot == slot)) ≡ 1 = ap one (own slot ∙ eq-eqb slot slot refl) in omega (arith, m, i)

    pub due_kept : IsSomeAnd (frame_at b.stack key) (λ f. IsSome f.local)
    due_kept = some_kept ps (frame_at b.stack key) (fs key).stands (λ none. let e : expected (before_task b (Resume key slot reply)) key slot ≡ 0 = (fs key).expects slot ∙ ap (λ (x : Option (Frame L)). one (slots_in ps x slot)) none in let h = here in omega (arith, e, h))

    module _ (place : Place) (local : L) (stood : frame_at b.stack key ≡ Some (record { place = place; local = Some local })) where
      due_stands : StandsBy (promise_of ps place) (Some local)
      due_stands = subst (λ (x : Option (Frame L)). Stands ps x) stood (fs key).stands

      pub due_own : (promise_of ps place).owns local ≡ true
      due_own = due_stands.0

      pub due_unanswered : (promise_of ps place).unanswered local slot ≡ true
      due_unanswered = some_one ((promise_of ps place).unanswered local slot) (let e : expected (before_task b (Resume key slot reply)) key slot ≡ one ((promise_of ps place).unanswered local slot) = (fs key).expects slot ∙ ap (λ (x : Option (Frame L)). one (slots_in ps x slot)) stood in let h = here in omega (arith, e, h))

      -- a frame that expects an answer waits for nothing else
      pub due_still : (promise_of ps place).waits local ≡ false
      due_still = by_case due_stands.1 where
        by_case : (((promise_of ps place).waits local ≡ true) × IsNone ((promise_of ps place).unanswered local)) ⊎ (((promise_of ps place).waits local ≡ false) × IsSomeSlot ((promise_of ps place).unanswered local)) → (promise_of ps place).waits local ≡ false
        by_case (inl waits) = absurd (let none = waits.1 slot in let some = due_unanswered in cc)
        by_case (inr going) = going.0

      pub resuming : Focused (out_of b key) key place (without slot ((promise_of ps place).unanswered local))
      resuming = focused b (out_of b key) key place (Some (record { place = place; local = Some local })) _ (out_took b key place local stood)
          (λ n. taken_out ((promise_of ps place).unanswered local n) (n == slot) (expected b key n) (ap (λ h. one h + expected b key n) (sym (own n)) ∙ sym (more n) ∙ (fs key).expects n ∙ ap (λ (x : Option (Frame L)). one (slots_in ps x n)) stood))
          idle
          (λ k differs. popped b (Resume key slot reply) k (λ n. ap (λ t. t && (slot == n)) (ne_eqb key k (λ same. differs (sym same)))) refl (fs k)) where
            idle : count_by (is_going key) b.queue ≡ 0
            idle =
                let g : count_by (is_going key) (before_task b (Resume key slot reply)).queue ≤ one ((promise_of ps place).waits local) = subst (λ (x : Option (Frame L)). count_by (is_going key) (before_task b (Resume key slot reply)).queue ≤ one (waits_in ps x)) stood (fs key).going in
                let c = count_cons (is_going key) (Resume key slot reply) b.queue in
                let z : one ((promise_of ps place).waits local) ≡ 0 = ap one due_still in
                omega (arith, g, c, z)

  -- ---- a wait that is over, by a task that was taken

  module _ (b : Board F R L) (key : ℕ) (fs : (k : ℕ) → FollowsAt ps (before_task b (Go key)) k) where
    once : count_by (is_going key) (before_task b (Go key)).queue ≡ 1 + count_by (is_going key) b.queue
    once = let c : count_by (is_going key) (before_task b (Go key)).queue ≡ one (key == key) + count_by (is_going key) b.queue = count_cons (is_going key) (Go key) b.queue in let i : one (key == key) ≡ 1 = ap one (eq-eqb key key refl) in omega (arith, c, i)

    pub ready_kept : IsSomeAnd (frame_at b.stack key) (λ f. IsSome f.local)
    ready_kept = some_kept ps (frame_at b.stack key) (fs key).stands (λ none. let g : count_by (is_going key) (before_task b (Go key)).queue ≤ 0 = subst (λ (x : Option (Frame L)). count_by (is_going key) (before_task b (Go key)).queue ≤ one (waits_in ps x)) none (fs key).going in let h = once in omega (arith, g, h))

    module _ (place : Place) (local : L) (stood : frame_at b.stack key ≡ Some (record { place = place; local = Some local })) where
      most_one : count_by (is_going key) (before_task b (Go key)).queue ≤ one ((promise_of ps place).waits local)
      most_one = subst (λ (x : Option (Frame L)). count_by (is_going key) (before_task b (Go key)).queue ≤ one (waits_in ps x)) stood (fs key).going

      pub ready_own : (promise_of ps place).owns local ≡ true
      ready_own = let s : StandsBy (promise_of ps place) (Some local) = subst (λ (x : Option (Frame L)). Stands ps x) stood (fs key).stands in s.0

      pub ready_waits : (promise_of ps place).waits local ≡ true
      ready_waits = some_one ((promise_of ps place).waits local) (let g = most_one in let c = once in omega (arith, g, c))

      pub going_on : Focused (out_of b key) key place ((promise_of ps place).unanswered local)
      going_on = focused b (out_of b key) key place (Some (record { place = place; local = Some local })) _ (out_took b key place local stood)
          (λ n. let c : count_by (is_due key n) (before_task b (Go key)).queue ≡ 0 + count_by (is_due key n) b.queue = count_cons (is_due key n) (Go key) b.queue in let e : expected (before_task b (Go key)) key n ≡ one ((promise_of ps place).unanswered local n) = (fs key).expects n ∙ ap (λ (x : Option (Frame L)). one (slots_in ps x n)) stood in omega (arith, c, e))
          (let g = most_one in let c = once in let o : one ((promise_of ps place).waits local) ≡ 1 = ap one ready_waits in omega (arith, g, c, o))
          (λ k differs. popped b (Go key) k (λ n. refl) (ne_eqb k key differs) (fs k))

module _ {F R L : Type 0} (ps : ℕ → List (Promise F L)) (wiring : Wiring) (key : ℕ) (place : Place) (old new : Board F R L) (before : Slots) (most : ℕ) (f : Focused ps old key place before) where
  -- a frame carries out a step by the law of its node, and then follows it, as all others did
  pub carried_follows : (step : Step F R L) → IsStepFrom (promise_of ps place) before most step → IsCarried wiring key place old step new → (k : ℕ) → FollowsAt ps new k
  carried_follows (Wind winds local) is c k = by_key (cases_eq k key) where
    turns : Turns old.stack new.stack key (bare place) (Some (record { place = place; local = Some local }))
    turns = carried_turns wiring key place old new (Wind winds local) f.out c

    going : (i : ℕ) → count_by (is_going i) new.queue ≡ count_by (is_going i) old.queue
    going i = ap (λ (b : Board F R L). count_by (is_going i) b.queue) c.put ∙ tasks_kept wiring place key (is_going i) (λ node call parent fop. refl) old winds.items c.mid c.wound

    from_mid : (i n : ℕ) → expected new i n ≡ one (awaits c.mid.stack i n) + count_by (is_due i n) old.queue
    from_mid i n =
        let a : one (awaits new.stack i n) ≡ one (awaits c.mid.stack i n) = ap (λ (b : Board F R L). one (awaits b.stack i n)) c.put ∙ ap one (local_awaits c.mid.stack key (Some local) i n) in
        let q : count_by (is_due i n) new.queue ≡ count_by (is_due i n) old.queue = ap (λ (b : Board F R L). count_by (is_due i n) b.queue) c.put ∙ tasks_kept wiring place key (is_due i n) (λ node call parent fop. refl) old winds.items c.mid c.wound in
        omega (arith, a, q)

    by_key : (k ≡ key) ⊎ (k ≢ key) → FollowsAt ps new k
    by_key (inl same) = subst (λ i. FollowsAt ps new i) (sym same) (standing ps new key place local turns.here
        (λ n. from_mid key n
        ∙ ap (λ b. one b + count_by (is_due key n) old.queue) (awaits_more wiring place key old winds.items c.mid c.wound n)
        ∙ or_counts (awaits old.stack key n) (is_wound winds.items n) (before n) (count_by (is_due key n) old.queue) (f.expects n) (fresh_out before winds.items n is.fresh)
        ∙ ap one (sym (is.kept n)))
        (going key ∙ f.idle)
        (is.own, inr (is.going, is.some)))
    by_key (inr differs) = moved ps old new k (turns.others k differs)
        (λ n. from_mid k n ∙ ap (λ b. one b + count_by (is_due k n) old.queue) (others_await wiring place key old winds.items c.mid c.wound k n differs))
        (going k) (f.others k differs)
  carried_follows (Wait local) is c k = by_key (cases_eq k key) where
    turns : Turns old.stack new.stack key (bare place) (Some (record { place = place; local = Some local }))
    turns = carried_turns wiring key place old new (Wait local) f.out c

    same_expected : (i n : ℕ) → expected new i n ≡ expected old i n
    same_expected i n = ap (λ (b : Board F R L). expected b i n) c ∙ ap (λ b. one b + count_by (is_due i n) old.queue) (local_awaits old.stack key (Some local) i n)

    going : (i : ℕ) → count_by (is_going i) new.queue ≡ count_by (is_going i) old.queue
    going i = ap (λ (b : Board F R L). count_by (is_going i) b.queue) c

    by_key : (k ≡ key) ⊎ (k ≢ key) → FollowsAt ps new k
    by_key (inl same) = subst (λ i. FollowsAt ps new i) (sym same) (standing ps new key place local turns.here
        (λ n. same_expected key n ∙ f.expects n ∙ ap one (is.answered n ∙ sym (is.kept n)))
        (going key ∙ f.idle)
        (is.own, inl (is.waits, is.kept)))
    by_key (inr differs) = moved ps old new k (turns.others k differs) (λ n. same_expected k n) (going k) (f.others k differs)
  carried_follows (Unwind reply) is c k = by_key (cases_eq k key) where
    turns : Turns old.stack new.stack key (bare place) None
    turns = carried_turns wiring key place old new (Unwind reply) f.out c

    still : Still (freed old key) new
    still = answered_still place.parent place.call reply (freed old key) new c

    by_key : (k ≡ key) ⊎ (k ≢ key) → FollowsAt ps new k
    by_key (inl same) = subst (λ i. FollowsAt ps new i) (sym same) (gone ps new key turns.here
        (λ n. still.expected key n ∙ f.expects n ∙ ap one (is n))
        (still.going key ∙ f.idle))
    by_key (inr differs) = moved ps old new k (turns.others k differs) (λ n. still.expected k n) (still.going k) (f.others k differs)

-- the node of a local that is owned is there
pub in_range : {F L : Type 0} (ps : List (Promise F L)) (at : ℕ) (l : L) → (promise_at ps at).owns l ≡ true → at < length ps
in_range [] at l h = absurd cc
in_range (q ∷ qs) zero l h = omega (arith)
in_range (q ∷ qs) (suc at) l h = let ih = in_range qs at l h in omega (arith, ih)
