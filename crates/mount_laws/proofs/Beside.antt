-- A fop under way beside a change: each step keeps what is said of the two.
use Rattle.std.proofs.Common.{◌≡◌, ◌∙◌, ℕ, ◌+◌, ◌<◌, ◌≤◌, inr, Bool, true, false, refl, sym, ap, subst, List, [], ◌∷◌, ◌++◌, length, Option, None, nat_lt, arith}
use Rattle.std.specs.Prelude.{◌≢◌}
use Rattle.std.proofs.lemmas.Bool.{ltb-true, ltb-false}
use Rattle.afr_machine.specs.Changes.{Verdict}
use Rattle.afr_machine.specs.Changes.Verdict.{Undrawn, Unsettled, Adopted, Dropped}
use Rattle.afr_machine.specs.Replicas.{with_at}
use Rattle.afr_machine.specs.Touching.{share}
use Rattle.afr_machine.specs.Transactions.{cells_of_job, settles_first}
use Rattle.dht_fops.specs.Courses.{Course}
use Rattle.dht_fops.specs.Handed.{Handed}
use Rattle.dht_fops.specs.Handed.Event.{Replied, Held}
use Rattle.fop_types.specs.Bounds.{Each}
use Rattle.fop_types.specs.declared.answers.FopAnswer.TheVariants as fop_answer
use Rattle.fop_types.specs.declared.cells.Cell.{Cell}
use Rattle.fop_types.specs.declared.cells.Gfid.{Gfid}
use Rattle.fop_types.specs.declared.fops.Fop.{Fop}
use Rattle.fop_types.specs.declared.jobs.Job.{Job}
use Rattle.fop_types.specs.declared.jobs.Job.TheVariants as job
use Rattle.fop_types.specs.declared.jobs.SetReply.{SetReply}
use Rattle.mount_laws.specs.Guards.{Allowed, IsReached, IsUnderWay, IsUnsettledOn, IsChange, MaySettle, MayBeginChange, MayDecide}
use Rattle.mount_laws.specs.Holding.{HoldsApart, HoldCovers, AreHeld, AreHeldExclusively, IsHeldFor}
use Rattle.mount_laws.specs.Holds.{Hold}
use Rattle.mount_laws.specs.Runs.{Run, Stage, SettledJob, Sight, begun, going_on, held_longer, released}
use Rattle.mount_laws.specs.Runs.Stage.{Waiting, Settled, Changing, Bearing, Decided}
use Rattle.mount_laws.specs.Settling.{IsSettledJob, StandsBeside, EachStandsBeside, RunningIsAlone, AreNumbered}
use Rattle.mount_laws.specs.States.{State, Change, Call, Status, Runs, has_begun, holds_by, held}
use Rattle.mount_laws.specs.States.Status.{Unsubmitted, Ready, Running}
use Rattle.mount_laws.specs.Steps.{Step, Task, after, is_lookup, status_after, volume_of, change_by, at_stage}
use Rattle.mount_laws.proofs.Apart.{holds_apart}
use Rattle.mount_laws.proofs.Held.{holds_cover, covered_held}
use Rattle.mount_laws.proofs.Moving.{unwrap, quiet}
use Rattle.mount_laws.proofs.Releasing.{each_without, fewer_share, held_without}
use Rattle.mount_laws.proofs.Sharing.{held_apart}
use Rattle.mount_laws.proofs.Tables.{at_case}

-- ---- lists

pub each_map : {A : Type 0} (P Q : A → Type 0) (xs : List A) → ((x : A) → P x → Q x) → Each P xs → Each Q xs
each_map P Q [] f e = tt
each_map P Q (x ∷ xs) f e = (f x e.0, each_map P Q xs f e.1)

pub each_of : {A : Type 0} (P : A → Type 0) (xs : List A) → ((x : A) → P x) → Each P xs
each_of P [] f = tt
each_of P (x ∷ xs) f = (f x, each_of P xs f)

pub each_append : {A : Type 0} (P : A → Type 0) (xs ys : List A) → Each P xs → Each P ys → Each P (xs ++ ys)
each_append P [] ys a b = b
each_append P (x ∷ xs) ys a b = (a.0, each_append P xs ys a.1 b)

-- ---- the job that is asked

pub record SameJob (set : ℕ) (asked : Job) (other : ℕ) (wanted : Job) : Type 0 where
  pub set_is : set ≡ other
  pub job_is : asked ≡ wanted

pub one_job : (course : Course) (set other : ℕ) (asked wanted : Job) (next later : SetReply → Course) → course ≡ Course.Asks set asked next → course ≡ Course.Asks other wanted later → SameJob set asked other wanted
one_job course set other asked wanted next later e f = record { set_is = cc; job_is = cc }

-- the change of a job
record IsChangeOf (c set : ℕ) (asked : Job) (f : Fop) (hs : List Hold) : Type 0 where
  pub by : (change_by c set asked).by ≡ c
  pub unsettled : (change_by c set asked).verdict ≡ Unsettled
  pub on_set : (change_by c set asked).set ≡ set
  pub cells : (change_by c set asked).cells ≡ cells_of_job asked
  pub alone : AreHeldExclusively hs (cells_of_job asked)
  pub no_lookup : is_lookup f ≡ false
  pub settles : settles_first asked ≡ true

change_of_job : (c set : ℕ) (asked : Job) (f : Fop) (hs : List Hold) → IsChange asked → IsHeldFor hs f asked → IsChangeOf c set asked f hs
change_of_job c set (job.Change cells fd o effect) f hs is h = record { by = refl; unsettled = refl; on_set = refl; cells = refl; alone = h.alone; no_lookup = h.no_lookup; settles = refl }
change_of_job c set (job.Read cells fd dir) f hs is h = absurd is
change_of_job c set (job.Birth cells o) f hs is h = absurd is
change_of_job c set (job.Open fd gfid) f hs is h = absurd is
change_of_job c set job.Index f hs is h = absurd is
change_of_job c set (job.Heal cell) f hs is h = absurd is

-- ---- more holds

longer_exclusive : (d : Hold) (hs : List Hold) (cells : List Cell) → AreHeldExclusively hs cells → AreHeldExclusively (d ∷ hs) cells
longer_exclusive d hs [] h = tt
longer_exclusive d hs (cell ∷ cells) h = (inr h.0, longer_exclusive d hs cells h.1)

-- ---- a fop that goes on, beside a change that stays

module _ (c : ℕ) (run : Run) (u : ℕ) (change : Change) (a : StandsBeside c run u change) where
  -- with another stage, at which nothing is said of its job
  aside : (stage : Stage) → ((w : ℕ) → stage ≢ Changing w) → ((place : ℕ) → stage ≢ Settled place) → (saw : List Sight) → StandsBeside c (record run { stage = stage; saw = saw }) u change
  aside stage no_change no_rest saw = record {
    own_is_held = a.own_is_held;
    running_is_unsettled = λ e. absurd (no_change u e);
    none_left = λ place set asked next e. absurd (no_rest place e);
    settled = a.settled;
    lookup = a.lookup;
  }

  -- a job that settled it has rested
  rested : (set : ℕ) (asked : Job) (next : SetReply → Course) → run.course ≡ Course.Asks set asked next → (IsUnsettledOn change set (cells_of_job asked) → ⊥) → (place : ℕ)
      → StandsBeside c (record run { stage = Settled place; settled = record { set = set; cells = cells_of_job asked } ∷ run.settled }) u change
  rested set asked next asks none place = record {
    own_is_held = a.own_is_held;
    running_is_unsettled = λ e. absurd cc;
    none_left = λ at other wanted later e f settles on. let same = one_job run.course set other asked wanted next later asks f in
        none (subst (λ (s : ℕ). IsUnsettledOn change s (cells_of_job asked)) (sym same.set_is) (subst (λ (j : Job). IsUnsettledOn change other (cells_of_job j)) (sym same.job_is) on));
    settled = (λ on. absurd (none on), a.settled);
    lookup = a.lookup;
  }

  -- it was handed a reply
  gone_on : (handed : Handed) (course : Course) (saw : List Sight) → StandsBeside c (going_on run handed course saw) u change
  gone_on handed course saw = record {
    own_is_held = a.own_is_held;
    running_is_unsettled = λ e. absurd cc;
    none_left = λ place set asked next e. absurd cc;
    settled = a.settled;
    lookup = a.lookup;
  }

  -- its hold was extended
  held_on : (handed : Handed) (course : Course) (saw : List Sight) (dir : Gfid) → StandsBeside c (held_longer (going_on run handed course saw) dir) u change
  held_on handed course saw dir = record {
    own_is_held = λ by drawn. longer_exclusive (record { gfid = dir; shared = false }) run.holds change.cells (a.own_is_held by drawn);
    running_is_unsettled = λ e. absurd cc;
    none_left = λ place set asked next e. absurd cc;
    settled = a.settled;
    lookup = a.lookup;
  }

  -- it lets go of an object on which the change is not unsettled as its own
  let_go : (gfid : Gfid) → (change.by ≡ c → change.verdict ≡ Unsettled → Each (λ (cell : Cell). cell.gfid ≢ gfid) change.cells) → StandsBeside c (released run gfid) u change
  let_go gfid others = record {
    own_is_held = λ by was. held_without gfid run.holds change.cells (a.own_is_held by was) (others by was);
    running_is_unsettled = λ e. let r = a.running_is_unsettled e in record { by = r.by; unsettled = r.unsettled; asked = r.asked };
    none_left = a.none_left;
    settled = each_without (IsSettledJob c change) (IsSettledJob c change) gfid run.settled (λ done k on. k (record { verdict = on.verdict; on_set = on.on_set; touches = fewer_share gfid change.cells done.cells on.touches })) a.settled;
    lookup = a.lookup;
  }

  -- the change is decided
  decided : (verdict : Verdict) → verdict ≢ Undrawn → verdict ≢ Unsettled → change.verdict ≡ Unsettled → run.stage ≢ Changing u → StandsBeside c run u (record change { verdict = verdict })
  decided verdict drawn settled was other = record {
    own_is_held = λ by d. absurd (settled d);
    running_is_unsettled = λ e. absurd (other e);
    none_left = λ place set asked next e f g on. settled on.verdict;
    settled = each_of (IsSettledJob c (record change { verdict = verdict })) run.settled (λ done on. absurd (settled on.verdict));
    lookup = λ look by. let clash : Unsettled ≡ Undrawn = sym was ∙ a.lookup look by in absurd cc;
  }

-- ---- tables of calls and changes

abbrev EachBeside : (ℕ → Call) → (ℕ → Change) → Type 0
EachBeside calls changes = (c : ℕ) (run : Run) → (calls c).status ≡ Running run → (u : ℕ) → StandsBeside c run u (changes u)

abbrev NoneUnbegun : (ℕ → Call) → (ℕ → Change) → Type 0
NoneUnbegun calls changes = (c : ℕ) → has_begun (calls c).status ≡ false → (u : ℕ) → (changes u).by ≡ c → (changes u).verdict ≡ Undrawn

-- one call's status changes
one_beside : (calls : ℕ → Call) (changes : ℕ → Change) (c : ℕ) (call : Call) → EachBeside calls changes → ((run : Run) → call.status ≡ Running run → (u : ℕ) → StandsBeside c run u (changes u)) → EachBeside (with_at calls c call) changes
one_beside calls changes c call a new i =
    at_case (λ j (one : Call). (run : Run) → one.status ≡ Running run → (u : ℕ) → StandsBeside j run u (changes u)) calls c call new i (λ other. a i)

one_unbegun : (calls : ℕ → Call) (changes : ℕ → Change) (c : ℕ) (call : Call) → NoneUnbegun calls changes → (has_begun call.status ≡ false → (u : ℕ) → (changes u).by ≡ c → (changes u).verdict ≡ Undrawn) → NoneUnbegun (with_at calls c call) changes
one_unbegun calls changes c call a new i =
    at_case (λ j (one : Call). has_begun one.status ≡ false → (u : ℕ) → (changes u).by ≡ j → (changes u).verdict ≡ Undrawn) calls c call new i (λ other. a i)

-- a fop goes on
run_beside : (calls : ℕ → Call) (changes : ℕ → Change) (c : ℕ) (run : Run) → EachBeside calls changes → ((u : ℕ) → StandsBeside c run u (changes u)) → EachBeside (with_at calls c (record (calls c) { status = Running run })) changes
run_beside calls changes c run a new =
    one_beside calls changes c (record (calls c) { status = Running run }) a (λ other e. subst (λ (r : Run). (u : ℕ) → StandsBeside c r u (changes u)) (unwrap run other e) new)

-- one change changes
change_beside : (calls : ℕ → Call) (changes : ℕ → Change) (u : ℕ) (change : Change) → EachBeside calls changes → ((c : ℕ) (run : Run) → (calls c).status ≡ Running run → StandsBeside c run u change) → EachBeside calls (with_at changes u change)
change_beside calls changes u change a new c run runs w =
    at_case (λ i (one : Change). StandsBeside c run i one) changes u change (new c run runs) w (λ other. a c run runs w)

change_unbegun : (calls : ℕ → Call) (changes : ℕ → Change) (u : ℕ) (change : Change) → NoneUnbegun calls changes → ((c : ℕ) → has_begun (calls c).status ≡ false → change.by ≡ c → change.verdict ≡ Undrawn) → NoneUnbegun calls (with_at changes u change)
change_unbegun calls changes u change a new c b w =
    at_case (λ i (one : Change). one.by ≡ c → one.verdict ≡ Undrawn) changes u change (new c b) w (λ other. a c b w)

-- ---- each step

abbrev BesideIn : State → Type 0
BesideIn m = EachBeside m.calls m.changes × NoneUnbegun m.calls m.changes

module _ (m : State) (apart : HoldsApart m) (cover : HoldCovers m) (numbered : AreNumbered m) (a : EachBeside m.calls m.changes) (b : NoneUnbegun m.calls m.changes) where
  -- the fop of a job goes on, and nothing else changes
  goes : (t : Task) (run : Run) → Runs m t.call t.run → ((u : ℕ) → StandsBeside t.call t.run u (m.changes u) → StandsBeside t.call run u (m.changes u)) → BesideIn (record m { calls = with_at m.calls t.call (record (m.calls t.call) { status = Running run }) })
  goes t run runs new = (
    run_beside m.calls m.changes t.call run a (λ u. new u (a t.call t.run runs u)),
    one_unbegun m.calls m.changes t.call (record (m.calls t.call) { status = Running run }) b (λ none. absurd cc),
  )

  -- a fop whose job settles is at no change of its own
  settling_is_alone : (c : ℕ) (run : Run) (t : Task) (u : ℕ) → Runs m c run → run.stage ≡ Changing u → MaySettle m t u → ⊥
  settling_is_alone c run t u runs stage h =
      let running = (a c run runs u).running_is_unsettled stage in
      let other : t.call ≢ c = λ same. waits (subst (λ (i : ℕ). Runs m i t.run) same h.under_way.runs) in
      let own = (a c run runs u).own_is_held running.by running.unsettled in
      let mine : AreHeldExclusively (held m c) (m.changes u).cells = subst (λ (s : Status). AreHeldExclusively (holds_by s) (m.changes u).cells) (sym runs) own in
      let theirs : AreHeld (held m t.call) (cells_of_job t.job) = subst (λ (s : Status). AreHeld (holds_by s) (cells_of_job t.job)) (sym h.under_way.runs)
      (covered_held t.run.holds t.run.fop t.job h.settles (cover.asked t.call t.run t.set t.job t.next h.under_way.runs h.under_way.asks)) in
      let none = held_apart (held m c) (held m t.call) (m.changes u).cells (cells_of_job t.job) (apart c t.call (λ e. other (sym e))) mine theirs in
      let clash : true ≡ false = sym h.unsettled.touches ∙ none in absurd cc
    where
      waits : Runs m c t.run → ⊥
      waits again = let one : t.run ≡ run = unwrap t.run run (sym again ∙ runs) in
          let clash : Waiting ≡ Changing u = sym h.waiting ∙ ap (λ (r : Run). r.stage) one ∙ stage in absurd cc

  -- the change of this number is decided
  decides : (u : ℕ) (verdict : Verdict) → verdict ≢ Undrawn → verdict ≢ Unsettled → (m.changes u).verdict ≡ Unsettled → (calls : ℕ → Call) → EachBeside calls m.changes → NoneUnbegun calls m.changes
      → ((c : ℕ) (run : Run) → (calls c).status ≡ Running run → run.stage ≢ Changing u)
      → EachBeside calls (with_at m.changes u (record (m.changes u) { verdict = verdict })) × NoneUnbegun calls (with_at m.changes u (record (m.changes u) { verdict = verdict }))
  decides u verdict drawn settled was calls new unbegun other = (
    change_beside calls m.changes u (record (m.changes u) { verdict = verdict }) new (λ c run runs. decided c run u (m.changes u) (new c run runs u) verdict drawn settled was (other c run runs)),
    change_unbegun calls m.changes u (record (m.changes u) { verdict = verdict }) unbegun (λ c none by. let clash : Unsettled ≡ Undrawn = sym was ∙ unbegun c none u by in absurd cc),
  )

  settles : (t : Task) (u : ℕ) (verdict : Verdict) (saw : List Sight) → verdict ≢ Undrawn → verdict ≢ Unsettled → MaySettle m t u
      → EachBeside (with_at m.calls t.call (record (m.calls t.call) { status = Running (record t.run { saw = saw }) })) (with_at m.changes u (record (m.changes u) { verdict = verdict }))
      × NoneUnbegun (with_at m.calls t.call (record (m.calls t.call) { status = Running (record t.run { saw = saw }) })) (with_at m.changes u (record (m.changes u) { verdict = verdict }))
  settles t u verdict saw drawn settled h =
      let run = record t.run { saw = saw } in
      let calls = with_at m.calls t.call (record (m.calls t.call) { status = Running run }) in
      let g = goes t run h.under_way.runs (λ w old. same w old) in
      decides u verdict drawn settled h.unsettled.verdict calls g.0 g.1
      (λ c other. at_case (λ i (one : Call). one.status ≡ Running other → other.stage ≢ Changing u) m.calls t.call (record (m.calls t.call) { status = Running run })
      (λ e f. let one : run ≡ other = unwrap run other e in let moved : t.run.stage ≡ other.stage = ap (λ (r : Run). r.stage) one in let clash : Waiting ≡ Changing u = sym h.waiting ∙ moved ∙ f in absurd cc) c
      (λ differ e f. settling_is_alone c other t u e f h))
    where
      same : (w : ℕ) → StandsBeside t.call t.run w (m.changes w) → StandsBeside t.call (record t.run { saw = saw }) w (m.changes w)
      same w old = record { own_is_held = old.own_is_held; running_is_unsettled = λ e. let r = old.running_is_unsettled e in record { by = r.by; unsettled = r.unsettled; asked = r.asked }; none_left = old.none_left; settled = old.settled; lookup = old.lookup }

  decides_own : (t : Task) (u : ℕ) (number : Option ℕ) (saw : List Sight) → MayDecide m t u
      → EachBeside (with_at m.calls t.call (record (m.calls t.call) { status = Running (record t.run { stage = Decided number; saw = saw }) })) (with_at m.changes u (record (m.changes u) { verdict = Adopted }))
      × NoneUnbegun (with_at m.calls t.call (record (m.calls t.call) { status = Running (record t.run { stage = Decided number; saw = saw }) })) (with_at m.changes u (record (m.changes u) { verdict = Adopted }))
  decides_own t u number saw h =
      let run = record t.run { stage = Decided number; saw = saw } in
      let calls = with_at m.calls t.call (record (m.calls t.call) { status = Running run }) in
      let g = goes t run h.under_way.runs (λ w old. aside t.call t.run w (m.changes w) old (Decided number) (λ n e. absurd cc) (λ n e. absurd cc) saw) in
      let mine = (a t.call t.run h.under_way.runs u).running_is_unsettled h.turn in
      decides u Adopted (λ e. absurd cc) (λ e. absurd cc) h.unsettled calls g.0 g.1
      (λ c other. at_case (λ i (one : Call). one.status ≡ Running other → other.stage ≢ Changing u) m.calls t.call (record (m.calls t.call) { status = Running run })
      (λ e f. let one : run ≡ other = unwrap run other e in let moved : Decided number ≡ other.stage = ap (λ (r : Run). r.stage) one in let clash : Decided number ≡ Changing u = moved ∙ f in absurd cc) c
      (λ differ e f. differ (sym ((a c other e u).running_is_unsettled f).by ∙ mine.by)))

  unsettles : (t : Task) (u : ℕ) → MayBeginChange m t u
      → EachBeside (with_at m.calls t.call (record (m.calls t.call) { status = Running (at_stage t.run (Changing u)) })) (with_at m.changes u (change_by t.call t.set t.job))
      × NoneUnbegun (with_at m.calls t.call (record (m.calls t.call) { status = Running (at_stage t.run (Changing u)) })) (with_at m.changes u (change_by t.call t.set t.job))
  unsettles t u h = (
    change_running,
    change_none,
  )
    where
      run : Run
      run = at_stage t.run (Changing u)

      new : Change
      new = change_by t.call t.set t.job

      made : IsChangeOf t.call t.set t.job t.run.fop t.run.holds
      made = change_of_job t.call t.set t.job t.run.fop t.run.holds h.is_change (cover.asked t.call t.run t.set t.job t.next h.under_way.runs h.under_way.asks)

      was : StandsBeside t.call t.run u (m.changes u)
      was = a t.call t.run h.under_way.runs u

      mine_by : new.by ≡ t.call
      mine_by = made.by

      not_mine : (c : ℕ) → c ≢ t.call → new.by ≡ c → ⊥
      not_mine c ne by = ne (sym by ∙ mine_by)

      -- its own fop beside it
      mine : StandsBeside t.call run u new
      mine = record {
        own_is_held = λ by drawn. subst (λ (cells : List Cell). AreHeldExclusively t.run.holds cells) (sym made.cells) made.alone;
        running_is_unsettled = λ e. record {
          by = made.by;
          unsettled = made.unsettled;
          asked = λ set asked next f.
              let one = one_job t.run.course t.set set t.job asked t.next next h.under_way.asks f in
              subst (λ (s : ℕ). new ≡ change_by t.call s asked) one.set_is (ap (λ (j : Job). change_by t.call t.set j) one.job_is);
        };
        none_left = λ place set asked next e. absurd cc;
        settled = each_of (IsSettledJob t.call new) t.run.settled (λ done on. made.by);
        lookup = λ look by. let looks : is_lookup t.run.fop ≡ true = look in let clash : true ≡ false = sym looks ∙ made.no_lookup in absurd cc;
      }

      -- its own fop beside an other change
      other_change : (w : ℕ) → w ≢ u → StandsBeside t.call run w (m.changes w)
      other_change w ne =
          let old = a t.call t.run h.under_way.runs w in
          record { own_is_held = old.own_is_held; running_is_unsettled = λ e. absurd (ne (changing_of u w e)); none_left = λ place set asked next e. absurd cc; settled = old.settled; lookup = old.lookup }
        where
          changing_of : (x y : ℕ) → Changing x ≡ Changing y → y ≡ x
          changing_of x y e = cc

      -- what an other call holds is apart from it
      no_share : (c : ℕ) → c ≢ t.call → (hs : List Hold) → held m c ≡ hs → (cells : List Cell) → AreHeld hs cells → share new.cells cells ≡ true → ⊥
      no_share c ne hs is cells h2 s =
          let alone : AreHeldExclusively (held m t.call) new.cells = subst (λ (st : Status). AreHeldExclusively (holds_by st) new.cells) (sym h.under_way.runs)
          (subst (λ (cs : List Cell). AreHeldExclusively t.run.holds cs) (sym made.cells) made.alone) in
          let none = held_apart (held m t.call) (held m c) new.cells cells (apart t.call c (λ e. ne (sym e))) alone (subst (λ (ks : List Hold). AreHeld ks cells) (sym is) h2) in
          let clash : true ≡ false = sym s ∙ none in absurd cc

      -- an other fop beside it
      other_fop : (c : ℕ) (other : Run) → c ≢ t.call → Runs m c other → StandsBeside c other u new
      other_fop c other ne runs =
          let old = a c other runs u in
          let holds : held m c ≡ other.holds = ap (λ (s : Status). holds_by s) runs in
          record {
            own_is_held = λ by drawn. absurd (not_mine c ne by);
            running_is_unsettled = λ e. let clash : Unsettled ≡ Undrawn = sym (old.running_is_unsettled e).unsettled ∙ h.fresh in absurd cc;
            none_left = λ place set asked next e f settles on.
                no_share c ne other.holds holds (cells_of_job asked) (covered_held other.holds other.fop asked settles (cover.asked c other set asked next runs f)) on.touches;
            settled = each_map (λ (done : SettledJob). AreHeld other.holds done.cells) (IsSettledJob c new) other.settled (λ done held_cells on. absurd (no_share c ne other.holds holds done.cells held_cells on.touches)) (cover.settled c other runs);
            lookup = λ look by. absurd (not_mine c ne by);
          }

      change_running : EachBeside (with_at m.calls t.call (record (m.calls t.call) { status = Running run })) (with_at m.changes u new)
      change_running c =
          at_case (λ i (one : Call). (other : Run) → one.status ≡ Running other → (w : ℕ) → StandsBeside i other w (with_at m.changes u new w)) m.calls t.call (record (m.calls t.call) { status = Running run })
          (λ other e. subst (λ (r : Run). (w : ℕ) → StandsBeside t.call r w (with_at m.changes u new w)) (unwrap run other e)
          (λ w. at_case (λ i (one : Change). StandsBeside t.call run i one) m.changes u new mine w (other_change w))) c
          (λ ne other e w. at_case (λ i (one : Change). StandsBeside c other i one) m.changes u new (other_fop c other ne e) w (λ differ. a c other e w))

      change_none : NoneUnbegun (with_at m.calls t.call (record (m.calls t.call) { status = Running run })) (with_at m.changes u new)
      change_none c =
          at_case (λ i (one : Call). has_begun one.status ≡ false → (w : ℕ) → (with_at m.changes u new w).by ≡ i → (with_at m.changes u new w).verdict ≡ Undrawn) m.calls t.call (record (m.calls t.call) { status = Running run })
          (λ none. absurd cc) c
          (λ ne none w. at_case (λ i (one : Change). one.by ≡ c → one.verdict ≡ Undrawn) m.changes u new (λ by. absurd (not_mine c ne by)) w (λ differ. b c none w))

  -- a fop begins where its call has made no change
  begins : (c : ℕ) (run : Run) → (m.calls c).status ≡ Ready → run.stage ≡ Waiting → run.settled ≡ [] → BesideIn (record m { calls = with_at m.calls c (record (m.calls c) { status = Running run }) })
  begins c run ready waiting nothing = (
    run_beside m.calls m.changes c run a (λ u. new u),
    one_unbegun m.calls m.changes c (record (m.calls c) { status = Running run }) b (λ none. absurd cc),
  )
    where
      undrawn : (u : ℕ) → (m.changes u).by ≡ c → (m.changes u).verdict ≡ Undrawn
      undrawn = b c (ap (λ (s : Status). has_begun s) ready)

      new : (u : ℕ) → StandsBeside c run u (m.changes u)
      new u = record {
        own_is_held = λ by was. let clash : Unsettled ≡ Undrawn = sym was ∙ undrawn u by in absurd cc;
        running_is_unsettled = λ e. let clash : Waiting ≡ Changing u = sym waiting ∙ e in absurd cc;
        none_left = λ place set asked next e. let clash : Waiting ≡ Settled place = sym waiting ∙ e in absurd cc;
        settled = subst (λ (jobs : List SettledJob). Each (IsSettledJob c (m.changes u)) jobs) (sym nothing) tt;
        lookup = λ look by. undrawn u by;
      }

  -- a call without a fop
  stops : (c : ℕ) (call : Call) → ((run : Run) → call.status ≡ Running run → ⊥) → (has_begun call.status ≡ false → (u : ℕ) → (m.changes u).by ≡ c → (m.changes u).verdict ≡ Undrawn) → BesideIn (record m { calls = with_at m.calls c call })
  stops c call quiet none = (one_beside m.calls m.changes c call a (λ run e. absurd (quiet run e)), one_unbegun m.calls m.changes c call b none)

step_beside : (m : State) (step : Step) → Allowed m step → HoldsApart m → HoldCovers m → AreNumbered m → EachBeside m.calls m.changes → NoneUnbegun m.calls m.changes → BesideIn (after m step)
step_beside m (Step.Submits draws) h apart cover numbered a b =
    stops m apart cover numbered a b (m.submitted + 1) _ (λ run e. absurd cc) (λ none. b (m.submitted + 1) (ap (λ (s : Status). has_begun s) (numbered (m.submitted + 1) (omega arith))))
step_beside m (Step.Concludes c) h apart cover numbered a b = stops m apart cover numbered a b c _ (λ run e. absurd cc) (λ none. absurd cc)
step_beside m (Step.Switches names) h apart cover numbered a b = (a, b)
step_beside m (Step.Begins c f kept) h apart cover numbered a b = begins m apart cover numbered a b c (begun f (volume_of m c) (m.calls c).names kept) h.ready refl refl
step_beside m (Step.Settles t u true) h apart cover numbered a b = settles m apart cover numbered a b t u Adopted _ (λ e. absurd cc) (λ e. absurd cc) h
step_beside m (Step.Settles t u false) h apart cover numbered a b = settles m apart cover numbered a b t u Dropped _ (λ e. absurd cc) (λ e. absurd cc) h
step_beside m (Step.EndsSettling t) h apart cover numbered a b =
    goes m apart cover numbered a b t _ h.under_way.runs (λ u old. rested t.call t.run u (m.changes u) old t.set t.job t.next h.under_way.asks (h.none u) (length m.history))
step_beside m (Step.BeginsChange t u) h apart cover numbered a b = unsettles m apart cover numbered a b t u h
step_beside m (Step.Decides t u) h apart cover numbered a b = decides_own m apart cover numbered a b t u _ _ h
step_beside m (Step.SendsBirths t) h apart cover numbered a b =
    goes m apart cover numbered a b t _ h.under_way.runs (λ u old. aside t.call t.run u (m.changes u) old Bearing (λ w e. absurd cc) (λ w e. absurd cc) t.run.saw)
step_beside m (Step.ConfirmsBirths t) h apart cover numbered a b =
    goes m apart cover numbered a b t _ h.under_way.runs (λ u old. aside t.call t.run u (m.changes u) old (Decided None) (λ w e. absurd cc) (λ w e. absurd cc) t.run.saw)
step_beside m (Step.HandsIn t shown) h apart cover numbered a b =
    goes m apart cover numbered a b t _ h.under_way.runs (λ u old. gone_on t.call t.run u (m.changes u) old (Replied t.set t.job shown ∷ t.run.handed) (t.next shown) _)
step_beside m (Step.Extends c run dir next) h apart cover numbered a b = (
  run_beside m.calls m.changes c _ a
      (λ u. held_on c run u (m.changes u) (a c run h.runs u) (Held dir ∷ run.handed) next run.saw dir),
  one_unbegun m.calls m.changes c _ b (λ none. absurd cc),
)
step_beside m (Step.Releases c run gfid) h apart cover numbered a b = (
  run_beside m.calls m.changes c _ a (λ u. let_go c run u (m.changes u) (a c run h.runs u) gfid (h.settled u)),
  one_unbegun m.calls m.changes c _ b (λ none. absurd cc),
)
step_beside m (Step.Learns c run dir spans) h apart cover numbered a b = (a, b)
step_beside m (Step.Answers c run answer place) h apart cover numbered a b =
    stops m apart cover numbered a b c _ (λ other e. quiet (is_lookup run.fop) answer other e) (λ none u by. by_kind (is_lookup run.fop) refl none u by)
  where
    by_kind : (k : Bool) → is_lookup run.fop ≡ k → has_begun (status_after k answer) ≡ false → (u : ℕ) → (m.changes u).by ≡ c → (m.changes u).verdict ≡ Undrawn
    by_kind true e none u by = (a c run h.runs u).lookup e by
    by_kind false e none u by = absurd cc
step_beside m (Step.AnswersAbove c run answer) h apart cover numbered a b =
    stops m apart cover numbered a b c _ (λ other e. quiet (is_lookup run.fop) (fop_answer.Call answer) other e) (λ none u by. absurd (over (is_lookup run.fop) none))
  where
    over : (k : Bool) → has_begun (status_after k (fop_answer.Call answer)) ≡ false → ⊥
    over true none = absurd cc
    over false none = absurd cc

-- ---- numbers of calls

pub counted : (m : State) → AreNumbered m → (c : ℕ) → (m.calls c).status ≢ Unsubmitted → c ≤ m.submitted
counted m numbered c known = by_order (nat_lt m.submitted c) refl
  where
    by_order : (b : Bool) → nat_lt m.submitted c ≡ b → c ≤ m.submitted
    by_order true e = absurd (known (numbered c (ltb-true m.submitted c e)))
    by_order false e = ltb-false m.submitted c e

number_at : (m : State) (c : ℕ) (call : Call) (submitted : ℕ) → AreNumbered m → m.submitted ≤ submitted → c ≤ submitted → (i : ℕ) → submitted < i → (with_at m.calls c call i).status ≡ Unsubmitted
number_at m c call submitted numbered more known i =
    at_case (λ j (one : Call). submitted < j → one.status ≡ Unsubmitted) m.calls c call (λ h. absurd (omega (arith, h))) i (λ other h. numbered i (omega arith))

number_run : (m : State) (t : Task) → AreNumbered m → IsUnderWay m t → (call : Call) → (i : ℕ) → m.submitted < i → (with_at m.calls t.call call i).status ≡ Unsubmitted
number_run m t n h call = number_at m t.call call m.submitted n (omega arith) (counted m n t.call (λ e. let clash : Running t.run ≡ Unsubmitted = sym h.runs ∙ e in absurd cc))

step_numbered : (m : State) (step : Step) → Allowed m step → AreNumbered m → AreNumbered (after m step)
step_numbered m (Step.Submits draws) h n = number_at m (m.submitted + 1) _ (m.submitted + 1) n (omega arith) (omega arith)
step_numbered m (Step.Concludes c) h n = number_at m c _ m.submitted n (omega arith) (counted m n c (λ e. let clash : Ready ≡ Unsubmitted = sym h ∙ e in absurd cc))
step_numbered m (Step.Switches names) h n = n
step_numbered m (Step.Begins c f kept) h n = number_at m c _ m.submitted n (omega arith) (counted m n c (λ e. let clash : Ready ≡ Unsubmitted = sym h.ready ∙ e in absurd cc))
step_numbered m (Step.Settles t u true) h n = number_run m t n h.under_way _
step_numbered m (Step.Settles t u false) h n = number_run m t n h.under_way _
step_numbered m (Step.EndsSettling t) h n = number_run m t n h.under_way _
step_numbered m (Step.BeginsChange t u) h n = number_run m t n h.under_way _
step_numbered m (Step.Decides t u) h n = number_run m t n h.under_way _
step_numbered m (Step.SendsBirths t) h n = number_run m t n h.under_way _
step_numbered m (Step.ConfirmsBirths t) h n = number_run m t n h.under_way _
step_numbered m (Step.HandsIn t shown) h n = number_run m t n h.under_way _
step_numbered m (Step.Extends c run dir next) h n = number_at m c _ m.submitted n (omega arith) (counted m n c (λ e. let clash : Running run ≡ Unsubmitted = sym h.runs ∙ e in absurd cc))
step_numbered m (Step.Releases c run gfid) h n = number_at m c _ m.submitted n (omega arith) (counted m n c (λ e. let clash : Running run ≡ Unsubmitted = sym h.runs ∙ e in absurd cc))
step_numbered m (Step.Learns c run dir spans) h n = n
step_numbered m (Step.Answers c run answer place) h n = number_at m c _ m.submitted n (omega arith) (counted m n c (λ e. let clash : Running run ≡ Unsubmitted = sym h.runs ∙ e in absurd cc))
step_numbered m (Step.AnswersAbove c run answer) h n = number_at m c _ m.submitted n (omega arith) (counted m n c (λ e. let clash : Running run ≡ Unsubmitted = sym h.runs ∙ e in absurd cc))

pub numbered : (first : List (List ℕ)) (m : State) → IsReached first m → AreNumbered m
numbered first _ (IsReached.Start planned) = λ c h. refl
numbered first _ (IsReached.Further old step reached allowed) = step_numbered old step allowed (numbered first old reached)

both : (first : List (List ℕ)) (m : State) → IsReached first m → BesideIn m
both first _ (IsReached.Start planned) = (λ c run e. absurd cc, λ c none u by. refl)
both first _ (IsReached.Further old step reached allowed) =
    let b = both first old reached in
    step_beside old step allowed (holds_apart first old reached) (holds_cover first old reached) (numbered first old reached) b.0 b.1

pub each_beside : (first : List (List ℕ)) (m : State) → IsReached first m → EachStandsBeside m
each_beside first m reached = let b = both first m reached in record { running = b.0; unbegun = b.1 }

pub running_alone : (first : List (List ℕ)) (m : State) → IsReached first m → RunningIsAlone m
running_alone first m reached = λ c run t u runs stage h. let b = both first m reached in
    settling_is_alone m (holds_apart first m reached) (holds_cover first m reached) (numbered first m reached) b.0 b.1 c run t u runs stage h
