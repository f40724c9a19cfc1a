-- What each task keeps, and what a run of the queue keeps while it goes on.
use Rattle.std.proofs.Common.{◌≡◌, refl, sym, ap, subst, ◌∙◌, arith, inl, inr}
use Rattle.std.proofs.lemmas.Bool.{eq-eqb, ne_eqb}
use Rattle.std.specs.Prelude.{ℕ, ◌≢◌, ◌⊎◌, ◌≤◌, ◌+◌, ◌*◌, ◌==◌, cond, false, List, length, Option, Some, None, is_some, count_by}
use Rattle.xlator_law.specs.declared.step.Step.{Step}
use Rattle.xlator_law.specs.declared.winds.WindNo.{WindNo}
use Rattle.xlator_law.specs.declared.winds.Place.{Place}
use Rattle.xlator_law.specs.Law.{Promise, Slots, no_slots, without, Cause, IsStep, IsStepFrom}
use Rattle.xlator_law.specs.Law.Cause.{Enter as ByFop, Reply as ByReply, Go as ByGo}
use Rattle.frame_stack.specs.declared.frame.Frame.{Frame}
use Rattle.frame_stack.specs.declared.frame.Opener.{Opener}
use Rattle.frame_stack.specs.Stack.{opener_of}
use Rattle.frame_driver.specs.declared.board.Board.{Board}
use Rattle.frame_driver.specs.declared.items.Task.{Task}
use Rattle.frame_driver.specs.declared.items.Task.TheVariants.{Enter, Resume, Go}
use Rattle.frame_driver.specs.declared.wiring.Wiring.{Wiring}
use Rattle.frame_driver.specs.Account.{spend, owed, account}
use Rattle.frame_driver.specs.Breadth.{promise_in, HasRoomUnder, FrameFits, Nests}
use Rattle.frame_driver.specs.Follows.{promise_at, promise_of, waits_in, Fits}
use Rattle.frame_driver.specs.Leading.{Leads}
use Rattle.frame_driver.specs.Machine.{Graph, IsCarried, IsEntered, EntersBy, IsResumed, GoesOn, IsDone, before_task, is_lost, is_ended, place_for, out_of}
use Rattle.frame_driver.specs.Parts.{is_same, is_parent, is_queued, opened, IsParted}
use Rattle.frame_driver.specs.Roots.{IsRootAt, IsRooted, AreRooted}
use Rattle.frame_driver.specs.Sound.{is_of, IsReachable, Sound}
use Rattle.frame_driver.specs.Tasks.{one, is_going, IsOurs, AreTasks}
use Rattle.frame_driver.specs.Total.{weigh_by, weigh, load_of, total}
use Rattle.frame_driver.specs.Waits.{noted, AreHeld}
use Rattle.frame_driver.proofs.Carrying.{bare, Took, begun_took, out_took, carried_graph}
use Rattle.frame_driver.proofs.Leading.{leads_opened, leads_local, reached_on}
use Rattle.frame_driver.proofs.Nesting.{took_nests, carried_nests}
use Rattle.frame_driver.proofs.Parts.{NoneReplied, carried_parted, took_places}
use Rattle.frame_driver.proofs.Rooting.{carried_rooted}
use Rattle.frame_driver.proofs.Standing.{count_cons, Focused, entering, due_still, resuming, ready_waits, going_on, carried_follows}
use Rattle.frame_driver.proofs.Taking.{promise_same, has_parent}
use Rattle.frame_driver.proofs.Tasking.{tasks_stay, stays_turns, took_counted, carried_tasks, carried_counted}
use Rattle.frame_driver.proofs.Total.{took_total, took_account, carried_total, carried_account}
use Rattle.frame_driver.proofs.Waits.{stepped_held}

-- A task that was taken, as a step of a frame: where the frame's local was taken out of, or the frame was opened
-- for it; the step, by the law; and how the task pays for it.
pub record Stepped {F R L : Type 0} (ps : ℕ → List (Promise F L)) (wiring : Wiring) (task : Task F R) (old new : Board F R L) : Type 0 where
  pub key : ℕ
  pub place : Place
  pub was : Option (Frame L)
  pub mid : Board F R L
  pub before : Slots
  pub most : ℕ
  pub step : Step F R L
  pub home : place.graph ≡ old.graph
  pub took : Took old mid key place was
  pub focused : Focused ps mid key place before
  pub reachable : IsReachable mid.stack
  pub lawful : IsStepFrom (promise_of ps place) before most step
  pub carried : IsCarried wiring key place mid step new
  pub whole : one (is_of old.graph was) ≡ one (is_some was)
  pub alike : (qs : ℕ → List (Promise F L)) → promise_of ps place ≡ promise_of qs place → weigh ps was ≡ weigh qs was
  pub load : 2 + 3 * most ≤ weigh ps was + load_of (ps old.graph) task
  pub spent : (c : ℕ) → cond (place.call == c) most 0 ≤ spend ps c was + owed (ps old.graph) c task
  pub parent : (v : WindNo) → one (is_parent v was) + one (is_queued v task) ≡ one (is_same v place.parent)
  pub ours : IsOurs old.graph was
  pub waited : one (waits_in ps was) ≡ one (is_going key task)
  pub others : (k : ℕ) → k ≢ key → is_going k task ≡ false
  pub source : (root : ℕ) → AreRooted root (before_task old task) → IsRootAt root place.parent place.node
  pub alone : (was ≡ None) ⊎ (promise_in ps was ≡ promise_of ps place)
  pub under : Nests ps (before_task old task) → HasRoomUnder ps old.stack (promise_of ps place) place.parent

module _ {F R L : Type 0} (ps : ℕ → List (Promise F L)) (wiring : Wiring) (task : Task F R) (old new : Board F R L) (s : Stepped ps wiring task old new) where
  at_mid : s.mid.graph ≡ old.graph
  at_mid = ap (λ (b : Board F R L). b.graph) s.took.rest

  at_new : new.graph ≡ old.graph
  at_new = carried_graph wiring s.key s.place s.mid new s.step s.carried ∙ at_mid

  pub stepped_sound : Fits (ps old.graph) wiring → Leads old new → Sound ps (before_task old task) → Sound ps new
  stepped_sound fits leads sound = record {
    follows = carried_follows ps wiring s.key s.place s.mid new s.before s.most s.focused s.step s.lawful s.carried;
    tasks = subst (λ g. AreTasks (length (ps g)) g new.stack new.queue) (sym at_new) (carried_tasks old.graph (length (ps old.graph)) (ps old.graph) wiring fits (omega (arith)) s.key s.place s.home s.mid new s.step s.took.turns.here s.reachable s.carried mid_tasks);
    reachable = reached_on old new leads sound.reachable;
    counted = subst (λ g. new.frames ≡ count_by (is_of g) new.stack.frames) (sym at_new) (carried_counted old.graph wiring s.key s.place s.home s.mid new s.step s.took.turns.here s.carried (took_counted old.graph old s.mid s.key s.place s.was s.took s.home s.whole sound.counted));
  } where
    mid_tasks : AreTasks (length (ps old.graph)) old.graph s.mid.stack s.mid.queue
    mid_tasks = subst (λ (b : Board F R L). AreTasks (length (ps old.graph)) old.graph s.mid.stack b.queue) (sym s.took.rest) (tasks_stay old.graph (length (ps old.graph)) old.stack s.mid.stack (stays_turns old.graph old.stack s.mid.stack s.key s.was (bare s.place) s.took.turns s.home (ap (λ (b : Board F R L). b.stack.openers) s.took.rest) (ap (λ (b : Board F R L). b.stack.words) s.took.rest)) old.queue sound.tasks.1)

  mid_home : s.place.graph ≡ s.mid.graph
  mid_home = s.home ∙ sym at_mid

  mid_fits : Fits (ps old.graph) wiring → Fits (ps s.mid.graph) wiring
  mid_fits fits = subst (λ g. Fits (ps g) wiring) (sym at_mid) fits

  pub stepped_total : Fits (ps old.graph) wiring → total ps new + 1 ≤ total ps old + load_of (ps old.graph) task
  stepped_total fits =
      let c = carried_total ps wiring s.key s.place s.mid new s.before s.most mid_home (mid_fits fits) s.step s.took.turns.here s.lawful s.carried in
      let t = took_total ps old s.mid s.key s.place s.was s.took in
      let l = s.load in
      omega (arith, c, t, l)

  pub stepped_account : Fits (ps old.graph) wiring → (call : ℕ) → account ps call new ≤ account ps call old + owed (ps old.graph) call task
  stepped_account fits call =
      let c = carried_account ps wiring s.key s.place s.mid new s.before s.most mid_home (mid_fits fits) call s.step s.took.turns.here s.lawful s.carried in
      let t = took_account ps old s.mid s.key s.place s.was s.took call in
      let l = s.spent call in
      omega (arith, c, t, l)

  pub stepped_parted : (outer : WindNo → ℕ) → IsParted outer (before_task old task) → IsParted outer new
  stepped_parted outer parted = carried_parted outer wiring s.key s.place s.mid new s.step s.took.turns.here s.carried (record {
    placed = λ v.
        let b = parted.placed v in
        let c = count_cons (is_queued v) task old.queue in
        let p = took_places outer v old s.mid s.key s.place s.was s.took in
        let o : opened s.mid.stack v ≡ opened old.stack v = ap (λ (x : Board F R L). opened x.stack v) s.took.rest in
        let q = s.parent v in
        omega (arith, b, c, p, o, q);
    ended = subst (λ (x : Board F R L). NoneReplied x.stack) (sym s.took.rest) parted.ended;
  })

  pub stepped_noted : (outer : ℕ → ℕ) → AreHeld ps outer (before_task old task) → AreHeld ps outer new
  stepped_noted outer held = stepped_held ps outer wiring s.key s.place old s.mid new s.step s.before s.most s.was s.took s.lawful s.carried
      (let h : noted outer (before_task old task) s.key ≡ one (waits_in ps s.was) = held s.key ∙ ap (λ (c : Option (Frame L)). one (waits_in ps c)) s.took.turns.before in let c = count_cons (is_going s.key) task old.queue in let w = s.waited in omega (arith, h, c, w))
      (λ k differs. let h = held k in let c = count_cons (is_going k) task old.queue in let z : one (is_going k task) ≡ 0 = ap one (s.others k differs) in omega (arith, h, c, z))

  pub stepped_rooted : (root : ℕ) → AreRooted root (before_task old task) → AreRooted root new
  stepped_rooted root all = carried_rooted root wiring s.key s.place old s.mid new s.was s.step s.took s.home (s.source root all) s.carried (record { frames = all.frames; tasks = all.tasks.1 })

  pub stepped_nests : Fits (ps old.graph) wiring → IsReachable old.stack → Nests ps (before_task old task) → Nests ps new
  stepped_nests fits reachable n = carried_nests ps wiring s.key s.place s.mid new s.before s.most s.focused mid_home (mid_fits fits) s.step s.lawful s.carried
      (took_nests ps old s.mid s.key s.place s.was s.took reachable s.alone (s.under n) (record { frames = n.frames; tasks = n.tasks.1 }))

-- ---- each kind of task is a step

module _ {X C F R L : Type 0} (makes : X → C → Cause F R L → Step F R L → X → C → Type 0) (ps : ℕ → List (Promise F L)) (own : List (Promise F L)) (wiring : Wiring) (old new : Graph X C F R L) (ours : ps old.board.graph ≡ own) where
  pub law_for : (place : Place) (cause : Cause F R L) (step : Step F R L) → place.graph ≡ old.board.graph → IsStep (promise_at own place.node) cause step → IsStep (promise_of ps place) cause step
  law_for place cause step home is = subst (λ (p : Promise F L). IsStep p cause step) (sym (promise_same ps own old.board.graph place home ours)) is

  pub entered_stepped : (node call : ℕ) (parent : Option WindNo) (fop : F) → Sound ps (before_task old.board (Enter node call parent fop)) → is_lost old.board.stack parent ≡ false → IsEntered makes own (IsCarried wiring) (place_for old.board node call parent) fop old new → Stepped ps wiring (Enter node call parent fop) old.board new.board
  entered_stepped node call parent fop sound live e = record {
    key = e.key;
    place = place_for old.board node call parent;
    was = None;
    mid = e.mid;
    before = no_slots;
    most = (promise_at (ps old.board.graph) node).cost fop;
    step = e.step;
    home = refl;
    took = begun_took (place_for old.board node call parent) e.key old.board e.mid e.opened;
    focused = entering ps old.board e.mid e.key node call parent fop (place_for old.board node call parent) sound.follows e.opened;
    reachable = reached_on old.board e.mid (leads_opened (place_for old.board node call parent) e.key old.board e.mid refl (has_parent old.board.stack old.board.graph call parent live sound.tasks.0.1) e.opened) sound.reachable;
    lawful = law_for (place_for old.board node call parent) (ByFop (record { frame = e.key; call = call }) fop) e.step refl e.steps.lawful;
    carried = e.carried;
    whole = refl;
    alike = λ qs same. refl;
    load = omega (arith);
    spent = λ c. omega (arith);
    parent = λ v. omega (arith);
    ours = tt;
    waited = refl;
    others = λ k differs. refl;
    source = λ root r. r.tasks.0;
    alone = inl refl;
    under = λ n. n.tasks.0;
  }

  pub resumed_stepped : (key slot : ℕ) (reply : R) → Sound ps (before_task old.board (Resume key slot reply)) → IsResumed makes own (IsCarried wiring) key slot reply old new → Stepped ps wiring (Resume key slot reply) old.board new.board
  resumed_stepped key slot reply sound r = record {
    key = key;
    place = r.place;
    was = Some (record { place = r.place; local = Some r.local });
    mid = out_of old.board key;
    before = without slot ((promise_of ps r.place).unanswered r.local);
    most = (promise_of ps r.place).left r.local;
    step = r.step;
    home = r.home;
    took = out_took old.board key r.place r.local r.stood;
    focused = resuming ps old.board key slot reply sound.follows r.place r.local r.stood;
    reachable = reached_on old.board (out_of old.board key) (leads_local old.board key r.place (Some r.local) None r.home r.stood) sound.reachable;
    lawful = law_for r.place (ByReply r.local slot reply) r.step r.home r.steps.lawful;
    carried = r.carried;
    whole = ap one (eq-eqb r.place.graph old.board.graph r.home);
    alike = λ qs same. ap (λ (p : Promise F L). weigh_by p (Some r.local)) same;
    load = omega (arith);
    spent = λ c. omega (arith);
    parent = λ v. omega (arith);
    ours = r.home;
    waited = ap one (due_still ps old.board key slot reply sound.follows r.place r.local r.stood);
    others = λ k differs. refl;
    source = λ root all. subst (λ (c : Option (Frame L)). IsRooted old.board.graph root c) r.stood (all.frames key) r.home;
    alone = inr refl;
    under = λ n. subst (FrameFits ps old.board.stack) r.stood (n.frames key);
  }

  pub went_stepped : (key : ℕ) → Sound ps (before_task old.board (Go key)) → GoesOn makes own (IsCarried wiring) key old new → Stepped ps wiring (Go key) old.board new.board
  went_stepped key sound r = record {
    key = key;
    place = r.place;
    was = Some (record { place = r.place; local = Some r.local });
    mid = out_of old.board key;
    before = (promise_of ps r.place).unanswered r.local;
    most = (promise_of ps r.place).left r.local;
    step = r.step;
    home = r.home;
    took = out_took old.board key r.place r.local r.stood;
    focused = going_on ps old.board key sound.follows r.place r.local r.stood;
    reachable = reached_on old.board (out_of old.board key) (leads_local old.board key r.place (Some r.local) None r.home r.stood) sound.reachable;
    lawful = law_for r.place (ByGo r.local) r.step r.home r.steps.lawful;
    carried = r.carried;
    whole = ap one (eq-eqb r.place.graph old.board.graph r.home);
    alike = λ qs same. ap (λ (p : Promise F L). weigh_by p (Some r.local)) same;
    load = omega (arith);
    spent = λ c. omega (arith);
    parent = λ v. omega (arith);
    ours = r.home;
    waited = ap one (ready_waits ps old.board key sound.follows r.place r.local r.stood ∙ sym (eq-eqb key key refl));
    others = λ k differs. ne_eqb k key differs;
    source = λ root all. subst (λ (c : Option (Frame L)). IsRooted old.board.graph root c) r.stood (all.frames key) r.home;
    alone = inr refl;
    under = λ n. subst (FrameFits ps old.board.stack) r.stood (n.frames key);
  }

  -- What a task that was done comes to, in either case: it was a step, or the wind of its fop had ended.
  pub by_step : (P : Board F R L → Type 0) (task : Task F R) → Sound ps (before_task old.board task) → IsDone makes own wiring task old new → (Stepped ps wiring task old.board new.board → P new.board) → ((node call : ℕ) (w : WindNo) (fop : F) → task ≡ Enter node call (Some w) fop → opener_of old.board.stack w ≡ None → P old.board) → P new.board
  by_step P (Enter node call None fop) sound is step lost = step (entered_stepped node call None fop sound refl is)
  by_step P (Enter node call (Some w) fop) sound is step lost = by_opener (opener_of old.board.stack w) refl is where
    by_opener : (c : Option Opener) → opener_of old.board.stack w ≡ c → EntersBy makes own wiring (is_ended c) node call (Some w) fop old new → P new.board
    by_opener None at same = subst (λ (g : Graph X C F R L). P g.board) (sym same) (lost node call w fop refl at)
    by_opener (Some o) at entered = step (entered_stepped node call (Some w) fop sound (ap is_ended at) entered)
  by_step P (Resume key slot reply) sound is step lost = step (resumed_stepped key slot reply sound is)
  by_step P (Go key) sound is step lost = step (went_stepped key sound is)
