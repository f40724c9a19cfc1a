-- What each task that is done keeps, and what a run of the queue keeps while it goes on.
use Rattle.std.proofs.Common.{◌≡◌, refl, sym, ap, subst, ◌∙◌, arith}
use Rattle.std.proofs.lemmas.List.Sums.{sum_by-cons}
use Rattle.std.proofs.lemmas.Bool.{eq-eqb}
use Rattle.std.specs.Prelude.{ℕ, ◌≤◌, ◌<◌, ◌+◌, ◌*◌, ◌==◌, cond, Bool, true, false, List, [], ◌∷◌, map, Option, Some, None, is_some}
use Rattle.xlator_law.specs.declared.step.Step.{Step}
use Rattle.xlator_law.specs.declared.winds.WindNo.{WindNo}
use Rattle.xlator_law.specs.declared.winds.Place.{Place}
use Rattle.xlator_law.specs.Law.{Promise, Cause, IsStepFrom}
use Rattle.xlator_law.specs.Law.Cause.{Enter as ByFop, Reply as ByReply, Go as ByGo}
use Rattle.frame_stack.specs.declared.frame.Opener.{Opener}
use Rattle.frame_stack.specs.Stack.{opener_of}
use Rattle.frame_driver.specs.declared.board.Board.{Board}
use Rattle.frame_driver.specs.declared.items.Task.{Task}
use Rattle.frame_driver.specs.declared.items.Task.TheVariants.{Enter, Resume, Go}
use Rattle.frame_driver.specs.declared.wiring.Wiring.{Wiring}
use Rattle.frame_driver.specs.Account.{owed, account}
use Rattle.frame_driver.specs.Breadth.{Nests}
use Rattle.frame_driver.specs.Follows.{promise_at, promise_of, Fits}
use Rattle.frame_driver.specs.Leading.{Leads}
use Rattle.frame_driver.specs.Machine.{Graph, Makes, IsCarried, IsEntered, EntersBy, IsDone, IsRun, IsCutShort, IsCut, IsDoneSo, before_task, is_lost, place_for, out_of, queued}
use Rattle.frame_driver.specs.Machine.IsRun.{NoTask, OneTask}
use Rattle.frame_driver.specs.Parts.{is_queued, opened, IsParted}
use Rattle.frame_driver.specs.Roots.{AreRooted}
use Rattle.frame_driver.specs.Sound.{Sound, SoundWith}
use Rattle.frame_driver.specs.Tasks.{one, is_due, is_going}
use Rattle.frame_driver.specs.Total.{load_of, total}
use Rattle.frame_driver.specs.Traces.{SomeMakes, IsTraced, AreTraced}
use Rattle.frame_driver.specs.Waits.{AreHeld}
use Rattle.frame_driver.proofs.Carrying.{begun_took, out_took}
use Rattle.frame_driver.proofs.Leading.{leads_same, leads_then, leads_still}
use Rattle.frame_driver.proofs.Parts.{itself}
use Rattle.frame_driver.proofs.Running.{Stepped, by_step, stepped_sound, stepped_total, stepped_account, stepped_parted, stepped_nests, stepped_noted, stepped_rooted, law_for}
use Rattle.frame_driver.proofs.Standing.{count_cons, due_unanswered, popped}
use Rattle.frame_driver.proofs.Taking.{promise_same}
use Rattle.frame_driver.proofs.Total.{took_total, carried_total}
use Rattle.frame_driver.proofs.Traces.{some_makes, first_traced, reply_traced, go_traced, stepped_traced}

-- ---- a task that is done

module _ {X C F R L : Type 0} (makes : X → C → Cause F R L → Step F R L → X → C → Type 0) (ps : ℕ → List (Promise F L)) (own : List (Promise F L)) (wiring : Wiring) (fits : Fits own wiring) (old new : Graph X C F R L) (ours : ps old.board.graph ≡ own) (task : Task F R) (sound : Sound ps (before_task old.board task)) (done : IsDone makes own wiring task old new) where
  ps_fits : Fits (ps old.board.graph) wiring
  ps_fits = subst (λ qs. Fits qs wiring) (sym ours) fits

  by_kind : (P : Board F R L → Type 0) → (Stepped ps wiring task old.board new.board → P new.board) → ((node call : ℕ) (w : WindNo) (fop : F) → task ≡ Enter node call (Some w) fop → opener_of old.board.stack w ≡ None → P old.board) → P new.board
  by_kind P step lost = by_step makes ps own wiring old new ours P task sound done step lost

  pub done_sound : Leads old.board new.board → Sound ps new.board
  done_sound leads = by_kind (Sound ps) (λ s. stepped_sound ps wiring task old.board new.board s ps_fits leads sound) (λ node call w fop is none. record {
    follows = λ key. popped ps old.board task key
        (λ n. ap (is_due key n) is) (ap (is_going key) is) (sound.follows key);
    tasks = sound.tasks.1;
    reachable = sound.reachable;
    counted = sound.counted;
  })

  pub done_total : total ps new.board + 1 ≤ total ps (before_task old.board task)
  done_total =
      let c = sum_by-cons (load_of (ps old.board.graph)) task old.board.queue in
      let t : total ps new.board + 1 ≤ total ps old.board + load_of (ps old.board.graph) task = by_kind (λ b. total ps b + 1 ≤ total ps old.board + load_of (ps old.board.graph) task) (λ s. stepped_total ps wiring task old.board new.board s ps_fits) (λ node call w fop is none. let e : load_of (ps old.board.graph) task ≡ 2 + 3 * (promise_at (ps old.board.graph) node).cost fop = ap (load_of (ps old.board.graph)) is in omega (arith, e)) in
      omega (arith, c, t)

  pub done_account : (call : ℕ) → account ps call new.board ≤ account ps call (before_task old.board task)
  done_account call =
      let c = sum_by-cons (owed (ps old.board.graph) call) task old.board.queue in
      let t : account ps call new.board ≤ account ps call old.board + owed (ps old.board.graph) call task = by_kind (λ b. account ps call b ≤ account ps call old.board + owed (ps old.board.graph) call task) (λ s. stepped_account ps wiring task old.board new.board s ps_fits call) (λ node c w fop is none. omega (arith)) in
      omega (arith, c, t)

  pub done_parted : (outer : WindNo → ℕ) → IsParted outer (before_task old.board task) → IsParted outer new.board
  done_parted outer parted = by_kind (IsParted outer) (λ s. stepped_parted ps wiring task old.board new.board s outer parted) (λ node call w fop is none. absurd (
      let p = parted.placed w in
      let c = count_cons (is_queued w) task old.board.queue in
      let i : one (is_queued w task) ≡ 1 = ap (λ (t : Task F R). one (is_queued w t)) is ∙ ap one (itself w) in
      let o : opened old.board.stack w ≡ 0 = ap (λ (x : Option Opener). one (is_some x)) none in
      omega (arith, p, c, i, o)))

  pub done_nests : Nests ps (before_task old.board task) → Nests ps new.board
  done_nests n = by_kind (Nests ps) (λ s. stepped_nests ps wiring task old.board new.board s ps_fits sound.reachable n) (λ node call w fop is none. record { frames = n.frames; tasks = n.tasks.1 })

  pub done_held : (outer : ℕ → ℕ) → AreHeld ps outer (before_task old.board task) → AreHeld ps outer new.board
  done_held outer held = by_kind (AreHeld ps outer) (λ s. stepped_noted ps wiring task old.board new.board s outer held) (λ node call w fop is none k.
      let h = held k in
      let c = count_cons (is_going k) task old.board.queue in
      let z : one (is_going k task) ≡ 0 = ap (λ (t : Task F R). one (is_going k t)) is in
      omega (arith, h, c, z))

  pub done_rooted : (root : ℕ) → AreRooted root (before_task old.board task) → AreRooted root new.board
  done_rooted root all = by_kind (AreRooted root) (λ s. stepped_rooted ps wiring task old.board new.board s root all) (λ node call w fop is none. record { frames = all.frames; tasks = all.tasks.1 })

-- ---- traces

module _ {X C F R L : Type 0} (promise : X → Promise F L) (makes : X → C → Cause F R L → Step F R L → X → C → Type 0) (ps : ℕ → List (Promise F L)) (own : List (Promise F L)) (wiring : Wiring) (old new : Graph X C F R L) (ours : ps old.board.graph ≡ own) (nodes : own ≡ map promise old.nodes) where
  made_by : (place : Place) (cause : Cause F R L) (step : Step F R L) → place.graph ≡ old.board.graph → Makes makes place.node cause step old.nodes old.cx new.nodes new.cx → SomeMakes promise makes (promise_of ps place) cause step
  made_by place cause step home m = subst (λ (p : Promise F L). SomeMakes promise makes p cause step) (sym (promise_same ps own old.board.graph place home ours ∙ ap (λ qs. promise_at qs place.node) nodes)) (some_makes promise makes old.nodes old.cx new.nodes new.cx place.node cause step m)

  entered_traced : (place : Place) (fop : F) → place.graph ≡ old.board.graph → AreTraced promise makes ps old.board → IsEntered makes own (IsCarried wiring) place fop old new → AreTraced promise makes ps new.board
  entered_traced place fop home all e = stepped_traced promise makes ps wiring e.key place old.board e.mid new.board None e.step (begun_took place e.key old.board e.mid e.opened)
      (λ local leaves. first_traced promise makes (promise_of ps place) e.key place.call fop e.step local (law_for makes ps own wiring old new ours place (ByFop (record { frame = e.key; call = place.call }) fop) e.step home e.steps.lawful) (made_by place (ByFop (record { frame = e.key; call = place.call }) fop) e.step home e.steps.made) leaves)
      e.carried all

  pub done_traced : (task : Task F R) → Sound ps (before_task old.board task) → IsDone makes own wiring task old new → AreTraced promise makes ps old.board → AreTraced promise makes ps new.board
  done_traced (Enter node call parent fop) sound is all = by_lost (is_lost old.board.stack parent) is where
    by_lost : (b : Bool) → EntersBy makes own wiring b node call parent fop old new → AreTraced promise makes ps new.board
    by_lost true same = subst (λ (g : Graph X C F R L). AreTraced promise makes ps g.board) (sym same) all
    by_lost false e = entered_traced (place_for old.board node call parent) fop refl all e
  done_traced (Resume key slot reply) sound r all = stepped_traced promise makes ps wiring key r.place old.board (out_of old.board key) new.board (Some (record { place = r.place; local = Some r.local })) r.step (out_took old.board key r.place r.local r.stood)
      (λ local leaves. reply_traced promise makes (promise_of ps r.place) key r.place.call r.local local slot reply r.step (subst (IsTraced promise makes ps key) r.stood (all key)) (due_unanswered ps old.board key slot reply sound.follows r.place r.local r.stood) (law_for makes ps own wiring old new ours r.place (ByReply r.local slot reply) r.step r.home r.steps.lawful) (made_by r.place (ByReply r.local slot reply) r.step r.home r.steps.made) leaves)
      r.carried all
  done_traced (Go key) sound r all = stepped_traced promise makes ps wiring key r.place old.board (out_of old.board key) new.board (Some (record { place = r.place; local = Some r.local })) r.step (out_took old.board key r.place r.local r.stood)
      (λ local leaves. go_traced promise makes (promise_of ps r.place) key r.place.call r.local local r.step (subst (IsTraced promise makes ps key) r.stood (all key)) (subst (λ (p : Promise F L). p.waits r.local ≡ true) (sym (promise_same ps own old.board.graph r.place r.home ours)) r.waits) (law_for makes ps own wiring old new ours r.place (ByGo r.local) r.step r.home r.steps.lawful) (made_by r.place (ByGo r.local) r.step r.home r.steps.made) leaves)
      r.carried all

-- ---- the measure of a run: other graphs' frames count alike throughout

abbrev pub quiet : {F L : Type 0} → List (Promise F L) → ℕ → ℕ → List (Promise F L)
quiet own g h = cond (h == g) own []

quiet_here : {F L : Type 0} (own : List (Promise F L)) (g : ℕ) → quiet own g g ≡ own
quiet_here own g = ap (λ b. cond b own []) (eq-eqb g g refl)

pub done_quiet : {X C F R L : Type 0} (makes : X → C → Cause F R L → Step F R L → X → C → Type 0) (ps : ℕ → List (Promise F L)) (own : List (Promise F L)) (wiring : Wiring) → Fits own wiring → (old new : Graph X C F R L) → ps old.board.graph ≡ own → (task : Task F R) → Sound ps (before_task old.board task) → IsDone makes own wiring task old new → total (quiet own old.board.graph) new.board + 1 ≤ total (quiet own old.board.graph) (before_task old.board task)
done_quiet {F = F} {R = R} {L = L} makes ps own wiring fits old new ours task sound done =
    let c = sum_by-cons (load_of (qs old.board.graph)) task old.board.queue in
    let t : total qs new.board + 1 ≤ total qs old.board + load_of (qs old.board.graph) task = by_step makes ps own wiring old new ours (λ b. total qs b + 1 ≤ total qs old.board + load_of (qs old.board.graph) task) task sound done by_stepped (λ node call w fop is none. let e : load_of (qs old.board.graph) task ≡ 2 + 3 * (promise_at (qs old.board.graph) node).cost fop = ap (load_of (qs old.board.graph)) is in omega (arith, e)) in
    omega (arith, c, t) where
      qs : ℕ → List (Promise F L)
      qs = quiet own old.board.graph

      by_stepped : Stepped ps wiring task old.board new.board → total qs new.board + 1 ≤ total qs old.board + load_of (qs old.board.graph) task
      by_stepped s =
          let at : s.mid.graph ≡ old.board.graph = ap (λ (b : Board F R L). b.graph) s.took.rest in
          let same : promise_of ps s.place ≡ promise_of qs s.place = promise_same ps own old.board.graph s.place s.home ours ∙ sym (promise_same qs own old.board.graph s.place s.home (quiet_here own old.board.graph)) in
          let lists : ps old.board.graph ≡ qs old.board.graph = ours ∙ sym (quiet_here own old.board.graph) in
          let f : Fits (qs s.mid.graph) wiring = subst (λ g. Fits (qs g) wiring) (sym at) (subst (λ rs. Fits rs wiring) (sym (quiet_here own old.board.graph)) fits) in
          let c = carried_total qs wiring s.key s.place s.mid new.board s.before s.most (s.home ∙ sym at) f s.step s.took.turns.here (subst (λ (p : Promise F L). IsStepFrom p s.before s.most s.step) same s.lawful) s.carried in
          let t = took_total qs old.board s.mid s.key s.place s.was s.took in
          let l = s.load in
          let w = s.alike qs same in
          let o : load_of (ps old.board.graph) task ≡ load_of (qs old.board.graph) task = ap (λ rs. load_of rs task) lists in
          omega (arith, c, t, l, w, o)

-- ---- a run

pub record Running {X C F R L : Type 0} (promise : X → Promise F L) (makes : X → C → Cause F R L → Step F R L → X → C → Type 0) (own now_own : List (Promise F L)) (wiring : Wiring) (old now : Graph X C F R L) : Type 0 where
  pub same : now_own ≡ own
  pub nodes : now_own ≡ map promise now.nodes
  pub leads : Leads old.board now.board
  pub fine : SoundWith own now.board
  pub sound : (ps : ℕ → List (Promise F L)) → ps old.board.graph ≡ own → Sound ps old.board → Sound ps now.board
  pub traced : (ps : ℕ → List (Promise F L)) → ps old.board.graph ≡ own → Sound ps old.board → AreTraced promise makes ps old.board → AreTraced promise makes ps now.board
  pub parted : (outer : WindNo → ℕ) → IsParted outer old.board → IsParted outer now.board
  pub nests : (ps : ℕ → List (Promise F L)) → ps old.board.graph ≡ own → Sound ps old.board → Nests ps old.board → Nests ps now.board
  pub held : (ps : ℕ → List (Promise F L)) (outer : ℕ → ℕ) → ps old.board.graph ≡ own → Sound ps old.board → AreHeld ps outer old.board → AreHeld ps outer now.board
  pub less : (ps : ℕ → List (Promise F L)) → ps old.board.graph ≡ own → Sound ps old.board → total ps now.board ≤ total ps old.board
  pub paid : (ps : ℕ → List (Promise F L)) (call : ℕ) → ps old.board.graph ≡ own → Sound ps old.board → account ps call now.board ≤ account ps call old.board
  pub rooted : (root : ℕ) → AreRooted root old.board → AreRooted root now.board
  pub ran : IsRun makes own wiring old now

pub running_first : {X C F R L : Type 0} (promise : X → Promise F L) (makes : X → C → Cause F R L → Step F R L → X → C → Type 0) (own : List (Promise F L)) (wiring : Wiring) (old : Graph X C F R L) → own ≡ map promise old.nodes → SoundWith own old.board → Running promise makes own own wiring old old
running_first promise makes own wiring old nodes fine = record {
  same = refl;
  nodes = nodes;
  leads = leads_same old.board;
  fine = fine;
  sound = λ ps ours s. s;
  traced = λ ps ours s t. t;
  parted = λ outer p. p;
  nests = λ ps ours s n. n;
  held = λ ps outer ours s h. h;
  less = λ ps ours s. omega (arith);
  paid = λ ps call ours s. omega (arith);
  rooted = λ root all. all;
  ran = NoTask;
}

module _ {X C F R L : Type 0} (promise : X → Promise F L) (makes : X → C → Cause F R L → Step F R L → X → C → Type 0) (own now_own : List (Promise F L)) (wiring : Wiring) (fits : Fits own wiring) (old now next : Graph X C F R L) (task : Task F R) (rest : List (Task F R)) (r : Running promise makes own now_own wiring old now) (is : now.board.queue ≡ task ∷ rest) where
  -- the board before the task was taken
  whole : before_task (queued now rest).board task ≡ now.board
  whole = ap (λ (q : List (Task F R)). record now.board { queue = q }) (sym is)

  as_whole : (P : Board F R L → Type 0) → P now.board → P (before_task (queued now rest).board task)
  as_whole P h = subst P (sym whole) h

  pub running_fine : SoundWith now_own (before_task (queued now rest).board task)
  running_fine = subst (λ qs. SoundWith qs (before_task (queued now rest).board task)) (sym r.same) (as_whole (SoundWith own) r.fine)

  pub running_fits : Fits now_own wiring
  running_fits = subst (λ qs. Fits qs wiring) (sym r.same) fits

  module _ (done : IsDone makes now_own wiring task (queued now rest) next) where
    done_so : IsDone makes own wiring task (queued now rest) next
    done_so = subst (λ qs. IsDone makes qs wiring task (queued now rest) next) r.same done

    at : (ps : ℕ → List (Promise F L)) → ps old.board.graph ≡ own → ps now.board.graph ≡ own
    at ps ours = ap ps r.leads.same ∙ ours

    pub running_next : (next_own : List (Promise F L)) → next_own ≡ now_own → next_own ≡ map promise next.nodes → Leads (queued now rest).board next.board → Running promise makes own next_own wiring old next
    running_next next_own same nodes leads = record {
      same = same ∙ r.same;
      nodes = nodes;
      leads = leads_then old.board now.board next.board r.leads (leads_then now.board (queued now rest).board next.board (leads_still now.board (queued now rest).board refl refl) leads);
      fine = record { all = r.fine.all; ours = ap r.fine.all leads.same ∙ r.fine.ours; sound = next_sound r.fine.all r.fine.ours r.fine.sound };
      sound = λ ps ours s. next_sound ps (at ps ours) (r.sound ps ours s);
      traced = λ ps ours s t. done_traced promise makes ps own wiring (queued now rest) next (at ps ours) (sym r.same ∙ r.nodes) task (as_whole (Sound ps) (r.sound ps ours s)) done_so (r.traced ps ours s t);
      parted = λ outer p. done_parted makes r.fine.all own wiring fits (queued now rest) next r.fine.ours task (as_whole (Sound r.fine.all) r.fine.sound) done_so outer (as_whole (IsParted outer) (r.parted outer p));
      nests = λ ps ours s n. done_nests makes ps own wiring fits (queued now rest) next (at ps ours) task (as_whole (Sound ps) (r.sound ps ours s)) done_so (as_whole (Nests ps) (r.nests ps ours s n));
      held = λ ps outer ours s h. done_held makes ps own wiring fits (queued now rest) next (at ps ours) task (as_whole (Sound ps) (r.sound ps ours s)) done_so outer (as_whole (AreHeld ps outer) (r.held ps outer ours s h));
      less = λ ps ours s.
          let d = done_total makes ps own wiring fits (queued now rest) next (at ps ours) task (as_whole (Sound ps) (r.sound ps ours s)) done_so in
          let w : total ps (before_task (queued now rest).board task) ≡ total ps now.board = ap (total ps) whole in
          let l = r.less ps ours s in
          omega (arith, d, w, l);
      paid = λ ps call ours s.
          let d = done_account makes ps own wiring fits (queued now rest) next (at ps ours) task (as_whole (Sound ps) (r.sound ps ours s)) done_so call in
          let w : account ps call (before_task (queued now rest).board task) ≡ account ps call now.board = ap (account ps call) whole in
          let l = r.paid ps call ours s in
          omega (arith, d, w, l);
      rooted = λ root all. done_rooted makes r.fine.all own wiring fits (queued now rest) next r.fine.ours task (as_whole (Sound r.fine.all) r.fine.sound) done_so root (as_whole (AreRooted root) (r.rooted root all));
      ran = OneTask now next task rest r.ran is done_so;
    } where
      next_sound : (ps : ℕ → List (Promise F L)) → ps now.board.graph ≡ own → Sound ps now.board → Sound ps next.board
      next_sound ps ours s = done_sound makes ps own wiring fits (queued now rest) next ours task (as_whole (Sound ps) s) done_so leads

    pub running_less : total (quiet own old.board.graph) next.board < total (quiet own old.board.graph) now.board
    running_less =
        let d : total (quiet own now.board.graph) next.board + 1 ≤ total (quiet own now.board.graph) (before_task (queued now rest).board task) = done_quiet makes r.fine.all own wiring fits (queued now rest) next r.fine.ours task (as_whole (Sound r.fine.all) r.fine.sound) done_so in
        let e : total (quiet own old.board.graph) next.board + 1 ≤ total (quiet own old.board.graph) (before_task (queued now rest).board task) = subst (λ g. total (quiet own g) next.board + 1 ≤ total (quiet own g) (before_task (queued now rest).board task)) r.leads.same d in
        let w : total (quiet own old.board.graph) (before_task (queued now rest).board task) ≡ total (quiet own old.board.graph) now.board = ap (total (quiet own old.board.graph)) whole in
        omega (arith, e, w)

  -- a run that is cut short
  pub running_cut : IsDoneSo makes now_own (IsCut wiring) task (queued now rest) next → IsCutShort makes own wiring old next
  running_cut cut = record { mid = now; task = task; rest = rest; ran = r.ran; next = is; cut = subst (λ qs. IsDoneSo makes qs (IsCut wiring) task (queued now rest) next) r.same cut }

  pub running_leads : Leads (queued now rest).board next.board → Leads old.board next.board
  running_leads leads = leads_then old.board now.board next.board r.leads (leads_then now.board (queued now rest).board next.board (leads_still now.board (queued now rest).board refl refl) leads)
