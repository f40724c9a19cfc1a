-- What a fop holds was made; so no other call changes what is adopted on the cells that the fop has settled, not even by a birth.
use Rattle.std.proofs.Common.{◌≡◌, ◌≢◌, ◌⊎◌, inl, inr, ◌∙◌, ℕ, Bool, true, false, ◌||◌, refl, sym, ap, subst, List, [], ◌∷◌, ◌++◌, Option, Some, None, is_some}
use Rattle.afr_machine.specs.Changes.Verdict.{Undrawn, Unsettled, Adopted}
use Rattle.afr_machine.specs.Replicas.{with_at}
use Rattle.afr_machine.specs.Touching.{has_cell}
use Rattle.afr_machine.specs.Transactions.{cells_of_job}
use Rattle.dht_fops.specs.Answers.{AreMade, change_of, flat_op}
use Rattle.dht_fops.specs.Courses.{Course}
use Rattle.dht_fops.specs.Handed.{Handed, Always, AnyJob, AnyAnswer}
use Rattle.dht_fops.specs.Handed.Event.{Replied, Held}
use Rattle.dht_laws.proofs.HomesOfFops.{fops_bear, fops_extend}
use Rattle.dht_laws.proofs.TracesOfFops.{fops_change_links}
use Rattle.dht_laws.specs.Endings.{GoesOn, IsNotMade, IsInOrder, Made, last_made}
use Rattle.dht_laws.specs.Holds.{IsOwnHold}
use Rattle.fop_types.specs.Bounds.{Each}
use Rattle.fop_types.specs.Cells.{meta_cell, names_cell}
use Rattle.fop_types.specs.StoreOps.{Contents, needs, births, contents_after, after_births}
use Rattle.fop_types.specs.declared.answers.FopAnswer.{FopAnswer}
use Rattle.fop_types.specs.declared.cells.Cell.{Cell}
use Rattle.fop_types.specs.declared.cells.Gfid.{Gfid}
use Rattle.fop_types.specs.declared.cells.Kind.{Kind}
use Rattle.fop_types.specs.declared.cells.Kind.TheVariants as kind
use Rattle.fop_types.specs.declared.contents.Content.{Content}
use Rattle.fop_types.specs.declared.contents.Span.{Span}
use Rattle.fop_types.specs.declared.flat.FlatOp.{FlatOp}
use Rattle.fop_types.specs.declared.flat.FlatOp.TheVariants as flat
use Rattle.fop_types.specs.declared.fops.Fop.{Fop}
use Rattle.fop_types.specs.declared.fops.Fop.TheVariants as fop
use Rattle.fop_types.specs.declared.fops.Object.{Object}
use Rattle.fop_types.specs.declared.history.Entry.{Entry}
use Rattle.fop_types.specs.declared.jobs.Job.{Job}
use Rattle.fop_types.specs.declared.jobs.Job.TheVariants as job
use Rattle.fop_types.specs.declared.jobs.SetReply.{SetReply}
use Rattle.fop_types.specs.declared.store_ops.StoreOp.{StoreOp}
use Rattle.fop_types.specs.declared.store_ops.StoreOp.TheVariants as op
use Rattle.mount_files.proofs.Cells.{number_is, set_here, set_off}
use Rattle.mount_files.proofs.Keeping.{op_leaves, op_absent}
use Rattle.mount_files.proofs.Ops.{applied_is}
use Rattle.mount_files.specs.Pairs.{Needs, Bears, Fits}
use Rattle.mount_laws.specs.Births.{IsAdding}
use Rattle.mount_laws.specs.Effects.{WasReplied, IsJobOf, part_of}
use Rattle.mount_laws.specs.Guards.{Allowed, IsReached, IsBirth, DrawsOwn}
use Rattle.mount_laws.specs.Holding.{IsHeldFor, IsBornBy, AreHeld, drawn_by}
use Rattle.mount_laws.specs.Holds.{Hold, Holds, holds_of, extensions}
use Rattle.fop_types.specs.Jobs.{cells_of}
use Rattle.mount_laws.specs.Objects.{volumes, AreEventsMade}
use Rattle.mount_laws.specs.Runs.{Run, SettledJob, first_course, Leads}
use Rattle.mount_laws.specs.Runs.Leads.{Begun, Answered, Extended}
use Rattle.mount_laws.specs.Seeing.{IsListed, WasSettled}
use Rattle.mount_laws.specs.States.{State, Runs, set_count}
use Rattle.mount_laws.specs.Steps.{Step, Task, after, adopting, births_by, applied}
use Rattle.mount_laws.proofs.Answering.{IsLastMade, last_is, runs_made}
use Rattle.mount_laws.proofs.Drawing.{began_in, one_part}
use Rattle.mount_laws.proofs.Entering.{began_is, own_of_run}
use Rattle.mount_laws.proofs.Free.{drawn_free}
use Rattle.mount_laws.proofs.Held.{holds_own, holds_cover, jobs_asked}
use Rattle.mount_laws.proofs.Leading.{led_always}
use Rattle.mount_laws.proofs.Making.{objects_made, handed_made, found_made}
use Rattle.mount_laws.proofs.One.{births_apart}
use Rattle.mount_laws.proofs.Sharing.{is_cell_refl, each_has}
use Rattle.mount_shown.proofs.Bearing.{pending_add, copying}
use Rattle.mount_shown.proofs.Decided.{own_entry}
use Rattle.mount_shown.proofs.Founding.{settled_own}
use Rattle.mount_shown.proofs.Jobs.{goes_on, some_roots, roots_within, names_many}
use Rattle.mount_shown.specs.Bridge.{op_of}
use Rattle.mount_shown.specs.Pending.{KeepsFiles}

-- ---- what is held was made

abbrev pub IsMadeGfid : State → Gfid → Type 0
IsMadeGfid m g = is_some (m.kinds g) ≡ true

made_kind : (m : State) (g : Gfid) (k : Kind) → m.kinds g ≡ Some k → IsMadeGfid m g
made_kind m g k e = ap (λ (x : Option Kind). is_some x) e

one_hold : (m : State) (object : Object) (b : Bool) (g : Gfid) → m.kinds object.gfid ≡ Some object.kind → Holds (record { gfid = object.gfid; shared = b } ∷ []) g → IsMadeGfid m g
one_hold m object b g made (inl e) = made_kind m g object.kind (ap (λ (x : Gfid). m.kinds x) (sym e) ∙ made)
one_hold m object b g made (inr x) = absurd x

fop_made : (m : State) (f : Fop) (g : Gfid) → AreMade (volumes m) f → Holds (holds_of f) g → IsMadeGfid m g
fop_made m (fop.Lookup parent name) g made h = one_hold m parent true g made.kind_is h
fop_made m (fop.Mkdir parent name mode drawn) g made h = one_hold m parent false g made.kind_is h
fop_made m (fop.Rmdir parent name) g made h = one_hold m parent false g made.kind_is h
fop_made m (fop.Create fd parent name mode drawn) g made h = one_hold m parent false g made.kind_is h
fop_made m (fop.Unlink parent name) g made h = one_hold m parent false g made.kind_is h
fop_made m (fop.Rename parent name target new_name) g made (inl e) = one_hold m parent false g made.0.kind_is (inl e)
fop_made m (fop.Rename parent name target new_name) g made (inr h) = one_hold m target false g made.1.kind_is h
fop_made m (fop.Open fd object) g made h = one_hold m object true g made.kind_is h
fop_made m (fop.Stat object) g made h = one_hold m object true g made.kind_is h
fop_made m (fop.List object) g made h = one_hold m object true g made.kind_is h
fop_made m (fop.Chmod object mode) g made h = one_hold m object false g made.kind_is h
fop_made m (fop.Truncate object size) g made h = one_hold m object false g made.kind_is h
fop_made m (fop.SetAttr object attr) g made h = one_hold m object false g made.kind_is h
fop_made m (fop.GetAttr object name) g made h = one_hold m object true g made.kind_is h
fop_made m (fop.DelAttr object name) g made h = one_hold m object false g made.kind_is h
fop_made m (fop.Read fd object offset n) g made h = one_hold m object true g made.kind_is h
fop_made m (fop.Write fd object offset bytes) g made h = one_hold m object false g made.kind_is h
fop_made m (fop.Migrate fds) g made h = absurd h
fop_made m (fop.Heal n) g made h = absurd h

-- each extension of the hold
abbrev AllHolds : (Handed → Gfid → Type 0) → Handed → Type 0
AllHolds H [] = Unit {0}
AllHolds H (Replied set asked shown ∷ handed) = AllHolds H handed
AllHolds H (Held dir ∷ handed) = H handed dir × AllHolds H handed

led_holds : (P : Handed → ℕ → Job → Type 0) (H : Handed → Gfid → Type 0) (Q : Handed → FopAnswer → Option ℕ → Type 0) (first : Course) (handed : Handed) (course : Course) → Leads first handed course → Always P H Q [] first → AllHolds H handed
led_holds P H Q first _ _ Begun a = tt
led_holds P H Q first _ _ (Answered handed set asked next shown l) a = led_holds P H Q first handed (Course.Asks set asked next) l a
led_holds P H Q first _ _ (Extended handed dir next l) a = ((led_always P H Q first handed (Course.Extends dir next) l a).0, led_holds P H Q first handed (Course.Extends dir next) l a)

extended_made : (m : State) (f : Fop) (handed : Handed) (g : Gfid) → AreEventsMade m.kinds m.homes handed → AllHolds (IsOwnHold f) handed → Holds (extensions handed) g → IsMadeGfid m g
extended_made m f [] g made own h = absurd h
extended_made m f (Replied set asked shown ∷ handed) g made own h = extended_made m f handed g made.1 own h
extended_made m f (Held dir ∷ handed) g made own (inl e) =
    let k = own.0 in
    let found = found_made m.kinds m.homes handed k.set dir kind.Dir made.1 (inl (record { dir = k.parent.gfid; name = k.name; saw = k.saw })) in
    made_kind m g kind.Dir (ap (λ (x : Gfid). m.kinds x) (sym e) ∙ found.made.0)
extended_made m f (Held dir ∷ handed) g made own (inr h) = extended_made m f handed g made.1 own.1 h

either_holds : (hs ks : List Hold) (g : Gfid) → Holds (hs ++ ks) g → Holds hs g ⊎ Holds ks g
either_holds [] ks g h = inr h
either_holds (one ∷ hs) ks g (inl e) = inl (inl e)
either_holds (one ∷ hs) ks g (inr h) = by_rest (either_holds hs ks g h)
  where
    by_rest : Holds hs g ⊎ Holds ks g → Holds (one ∷ hs) g ⊎ Holds ks g
    by_rest (inl k) = inl (inr k)
    by_rest (inr k) = inr k

pub held_made : (first : List (List ℕ)) (m : State) → IsReached first m → (c : ℕ) (run : Run) → Runs m c run → (g : Gfid) → Holds run.holds g → IsMadeGfid m g
held_made first m reached c run runs g h = by_hold (either_holds (holds_of run.fop) (extensions run.handed) g ((holds_own first m reached c run runs).1.1.held g h))
  where
    by_hold : Holds (holds_of run.fop) g ⊎ Holds (extensions run.handed) g → IsMadeGfid m g
    by_hold (inl k) = fop_made m run.fop g ((objects_made first m reached).fops c run runs) k
    by_hold (inr k) =
        extended_made m run.fop run.handed g (handed_made first m reached c run runs).0
        (led_holds AnyJob (IsOwnHold run.fop) AnyAnswer (first_course run) run.handed run.course (jobs_asked first m reached c run runs)
        (fops_extend run.volume run.names run.kept run.fop (some_roots first m reached c run runs) (roots_within first m reached c run runs) (names_many first m reached c run runs))) k

-- ---- a directory whose births are sent by its mkdir was not made

mkdir_unmade : (first : List (List ℕ)) (m : State) → IsReached first m → (t : Task) → Allowed m (Step.SendsBirths t) → (parent : Object) (name : List ℕ) (mode : ℕ) (drawn : Gfid) → t.run.fop ≡ fop.Mkdir parent name mode drawn → IsMadeGfid m drawn → ⊥
mkdir_unmade first m reached t h parent name mode drawn is made = by_kind (m.kinds drawn) refl made
  where
    draws : (m.calls t.call).drawn ≡ Some drawn
    draws = subst (λ (f : Fop). DrawsOwn (m.calls t.call).drawn f) is ((began_in first m reached).draws t.call t.run.fop (began_is first m reached t.call t.run h.under_way.runs))

    no_change : (asked : Job) (cells : List Cell) (fd : ℕ) (o : StoreOp) (entry : Entry) (one other : ℕ) (next later : SetReply → Course) → IsBirth asked → Course.Asks one asked next ≡ Course.Asks other (job.Change cells fd o (Some entry)) later → ⊥
    no_change (job.Birth bs b) cells fd o entry one other next later k e = absurd cc
    no_change (job.Read cs f d) cells fd o entry one other next later k e = k
    no_change (job.Change cs f b x) cells fd o entry one other next later k e = k
    no_change (job.Open f g) cells fd o entry one other next later k e = k
    no_change job.Index cells fd o entry one other next later k e = k
    no_change (job.Heal x) cells fd o entry one other next later k e = k

    of_birth : (asked : Job) (f : Fop) (one : Option Made) → IsBirth asked → IsInOrder f one asked → IsNotMade f one
    of_birth (job.Birth cells o) f one k i = i
    of_birth (job.Read cells fd dir) f one k i = absurd k
    of_birth (job.Change cells fd o effect) f one k i = absurd k
    of_birth (job.Open fd gfid) f one k i = absurd k
    of_birth job.Index f one k i = absurd k
    of_birth (job.Heal cell) f one k i = absurd k

    -- its own operation was made
    by_last : IsLastMade m.changes m.history t.call (last_made t.run.handed) → IsNotMade t.run.fop (last_made t.run.handed) → ⊥
    by_last l none =
        let own = own_entry first m reached l.change.change l.entry (λ e. let clash : Adopted ≡ Undrawn = sym l.change.adopted ∙ e in absurd cc) l.change.effect in
        let f : own.fop ≡ t.run.fop = some_is own.fop t.run.fop (sym own.began_is ∙ ap m.began l.change.by ∙ began_is first m reached t.call t.run h.under_way.runs) in
        let part : part_of (Some (flat.Mkdir parent.gfid name mode drawn)) l.entry.part ≡ Some own.part = subst (λ (x : Fop). part_of (flat_op x) l.entry.part ≡ Some own.part) (f ∙ is) own.part_is in
        let whole = (one_part (flat.Mkdir parent.gfid name mode drawn) l.entry.part own.part refl part).0 in
        subst (λ (x : Option Made). IsNotMade t.run.fop x) l.made_is none
        (ap change_of (sym l.change.op_is) ∙ own.makes ∙ ap (λ (x : FlatOp). Some x) (sym whole) ∙ sym (ap flat_op is))
      where
        some_is : (x y : Fop) → ◌≡◌ {A = Option Fop} (Some x) (Some y) → x ≡ y
        some_is x y e = cc

    by_add : IsAdding m.changes t.call (m.homes drawn) drawn → ⊥
    by_add k = by_run (own_of_run first m reached t.call t.run h.under_way.runs k.change k.entry k.by (record { begun = k.begun; effect = k.effect }))
      where
        order : GoesOn t.run.fop t.run.handed t.set t.job
        order = goes_on first m reached t.call t.run h.under_way.runs t.set t.job t.next h.under_way.asks

        by_run : WasReplied t.run.handed k.entry (m.changes k.change).verdict ⊎ IsJobOf t.run k.change k.entry (m.changes k.change).verdict → ⊥
        by_run (inl w) = by_last (last_is m.changes m.history t.call t.run.fop t.run.handed k.entry (m.changes k.change).verdict order.0 (runs_made first m reached t.call t.run h.under_way.runs).handed w) (of_birth t.job t.run.fop (last_made t.run.handed) h.is_birth order.1)
        by_run (inr j) = no_change t.job j.cells j.fd j.op k.entry t.set j.set t.next j.next h.is_birth (sym h.under_way.asks ∙ j.asks)

    by_kind : (k : Option Kind) → m.kinds drawn ≡ k → is_some k ≡ true → ⊥
    by_kind None e x = absurd cc
    by_kind (Some k) e x = by_add ((drawn_free fops_bear fops_change_links first m reached).made t.call drawn k draws e)

-- ---- cells that stay

-- an op leaves a cell that it neither needs nor gives birth to
exactly : (contents : Contents) (o : StoreOp) (cell : Cell) → (Needs (needs o) cell → ⊥) → (Bears o cell.gfid → ⊥) → contents_after contents o cell ≡ contents cell
exactly contents o cell off none = by_content (contents cell) refl
  where
    by_content : (x : Option Content) → contents cell ≡ x → contents_after contents o cell ≡ contents cell
    by_content None e = op_absent contents o cell none e ∙ sym e
    by_content (Some x) e = op_leaves contents o cell x off e ∙ sym e

module _ (first : List (List ℕ)) (m : State) (reached : IsReached first m) (a : KeepsFiles m) (c : ℕ) (run : Run) (runs : Runs m c run) where
  settled_made : (set : ℕ) (cell : Cell) → WasSettled run.settled set cell → Holds run.holds cell.gfid
  settled_made set cell seen = each_has (λ (x : Cell). Holds run.holds x.gfid) seen.cells cell (listed run.settled ((holds_cover first m reached).settled c run runs) seen.listed) seen.has
    where
      listed : (jobs : List SettledJob) → Each (λ (done : SettledJob). AreHeld run.holds done.cells) jobs → IsListed jobs (record { set = set; cells = seen.cells }) → AreHeld run.holds seen.cells
      listed [] e l = absurd l
      listed (one ∷ jobs) e (inl is) = subst (λ (done : SettledJob). AreHeld run.holds done.cells) is e.0
      listed (one ∷ jobs) e (inr l) = listed jobs e.1 l

  -- another call's change is adopted
  pub adopts_same : (u : ℕ) → (m.changes u).verdict ≡ Unsettled → ((m.changes u).by ≡ c → ⊥) → (set : ℕ) (cell : Cell) → WasSettled run.settled set cell → (adopting m u).adopted set cell ≡ m.adopted set cell
  adopts_same u was other set cell seen = by_set (number_is set (m.changes u).set)
    where
      fit : Fits (volumes m) (set_count m) (op_of (m.changes u))
      fit = a.alone u was

      unborn : Bears (m.changes u).op cell.gfid → ⊥
      unborn b =
          let none = (pending_add first m reached a u was cell.gfid b).unmade in
          let made = held_made first m reached c run runs cell.gfid (settled_made set cell seen) in
          let clash : false ≡ true = sym (ap (λ (x : Option Kind). is_some x) none) ∙ made in absurd cc

      by_set : (set ≡ (m.changes u).set) ⊎ (set ≢ (m.changes u).set) → (adopting m u).adopted set cell ≡ m.adopted set cell
      by_set (inr differ) = ap (λ (x : Contents). x cell) (set_off m.adopted (m.changes u).set set (applied (m.adopted (m.changes u).set) (m.changes u).op) differ)
      by_set (inl same) =
          subst (λ (s : ℕ). (adopting m u).adopted s cell ≡ m.adopted s cell) (sym same)
          (ap (λ (x : Contents). x cell) (set_here m.adopted (m.changes u).set (applied (m.adopted (m.changes u).set) (m.changes u).op) ∙ applied_is (m.adopted (m.changes u).set) (m.changes u).op fit.fits_set)
          ∙ exactly (m.adopted (m.changes u).set) (m.changes u).op cell (λ n. other (settled_own first m reached c run runs set cell seen u was (sym same) n)) unborn)

  -- another call's births are sent
  pub births_same : (t : Task) → Allowed m (Step.SendsBirths t) → c ≢ t.call → (set : ℕ) (cell : Cell) → WasSettled run.settled set cell → (after m (Step.SendsBirths t)).adopted set cell ≡ m.adopted set cell
  births_same t h other set cell seen = by_job t.job refl h.is_birth ((holds_cover first m reached).asked t.call t.run t.set t.job t.next h.under_way.runs h.under_way.asks)
    where
      -- the copy is of another object
      off : (cells : List Cell) (gfid : Gfid) (span : Option Span) → t.job ≡ job.Birth cells (op.MakeCopy gfid span) → cells ≡ cells_of (births (op.MakeCopy gfid span)) → IsBornBy t.run.fop (op.MakeCopy gfid span) → gfid ≡ cell.gfid → ⊥
      off cells gfid span is are by same =
          by_fop t.run.fop refl by
          (births_apart first m reached c run t (meta_cell gfid) other runs (subst (λ (g : Gfid). Holds run.holds g) (sym same) (settled_made set cell seen)) h
          (subst (λ (j : Job). has_cell (cells_of_job j) (meta_cell gfid) ≡ true) (sym is) (subst (λ (cs : List Cell). has_cell cs (meta_cell gfid) ≡ true) (sym are) (ap (λ b. b || has_cell (names_cell gfid ∷ []) (meta_cell gfid)) (is_cell_refl (meta_cell gfid))))))
        where
          made : IsMadeGfid m gfid
          made = subst (λ (g : Gfid). IsMadeGfid m g) (sym same) (held_made first m reached c run runs cell.gfid (settled_made set cell seen))

          by_fop : (f : Fop) → t.run.fop ≡ f → IsBornBy f (op.MakeCopy gfid span) → drawn_by f ≡ Some gfid → ⊥
          by_fop (fop.Mkdir parent name mode drawn) e b d = mkdir_unmade first m reached t h parent name mode drawn e (subst (λ (g : Gfid). IsMadeGfid m g) b made)
          by_fop (fop.Rename parent name target new_name) e b d = absurd cc
          by_fop (fop.Lookup parent name) e b d = b
          by_fop (fop.Rmdir parent name) e b d = b
          by_fop (fop.Create fd parent name mode own) e b d = b
          by_fop (fop.Unlink parent name) e b d = b
          by_fop (fop.Open fd object) e b d = b
          by_fop (fop.Stat object) e b d = b
          by_fop (fop.List object) e b d = b
          by_fop (fop.Chmod object mode) e b d = b
          by_fop (fop.Truncate object size) e b d = b
          by_fop (fop.SetAttr object attr) e b d = b
          by_fop (fop.GetAttr object name) e b d = b
          by_fop (fop.DelAttr object name) e b d = b
          by_fop (fop.Read fd object offset count) e b d = b
          by_fop (fop.Write fd object offset bytes) e b d = b
          by_fop (fop.Migrate fds) e b d = b
          by_fop (fop.Heal count) e b d = b

      bears_copy : (gfid : Gfid) (span : Option Span) → Bears (op.MakeCopy gfid span) cell.gfid → gfid ≡ cell.gfid
      bears_copy gfid span (inl e) = e
      bears_copy gfid span (inr (inl e)) = e
      bears_copy gfid span (inr (inr x)) = absurd x

      by_copy : (cells : List Cell) (gfid : Gfid) (span : Option Span) → t.job ≡ job.Birth cells (op.MakeCopy gfid span) → cells ≡ cells_of (births (op.MakeCopy gfid span)) → IsBornBy t.run.fop (op.MakeCopy gfid span) → (after m (Step.SendsBirths t)).adopted set cell ≡ m.adopted set cell
      by_copy cells gfid span is are by = by_set (number_is set t.set)
        where
          by_set : (set ≡ t.set) ⊎ (set ≢ t.set) → with_at m.adopted t.set (after_births (m.adopted t.set) (births_by t.job)) set cell ≡ m.adopted set cell
          by_set (inr differ) = ap (λ (x : Contents). x cell) (set_off m.adopted t.set set (after_births (m.adopted t.set) (births_by t.job)) differ)
          by_set (inl same) =
              subst (λ (s : ℕ). with_at m.adopted t.set (after_births (m.adopted t.set) (births_by t.job)) s cell ≡ m.adopted s cell) (sym same)
              (ap (λ (x : Contents). x cell) (set_here m.adopted t.set (after_births (m.adopted t.set) (births_by t.job)))
              ∙ ap (λ (j : Job). after_births (m.adopted t.set) (births_by j) cell) is
              ∙ exactly (m.adopted t.set) (op.MakeCopy gfid span) cell (λ n. n) (λ b. off cells gfid span is are by (bears_copy gfid span b)))

      by_job : (asked : Job) → t.job ≡ asked → IsBirth asked → IsHeldFor t.run.holds t.run.fop asked → (after m (Step.SendsBirths t)).adopted set cell ≡ m.adopted set cell
      by_job (job.Birth cells o) e k held =
          let copy = copying t.run.fop o held.1.1 in
          by_copy cells copy.gfid copy.span (e ∙ ap (λ (x : StoreOp). job.Birth cells x) copy.op_is) (held.1.0 ∙ ap (λ (x : StoreOp). cells_of (births x)) copy.op_is) (subst (λ (x : StoreOp). IsBornBy t.run.fop x) copy.op_is held.1.1)
      by_job (job.Read cells fd dir) e k held = absurd k
      by_job (job.Change cells fd o effect) e k held = absurd k
      by_job (job.Open fd gfid) e k held = absurd k
      by_job job.Index e k held = absurd k
      by_job (job.Heal x) e k held = absurd k
