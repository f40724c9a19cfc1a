-- The job that a fop asks for is what its course asks, and is covered by what the call holds; so are the jobs that have
-- settled.
use Rattle.std.specs.Prelude.{◌≢◌}
use Rattle.std.proofs.Common.{◌≡◌, ◌⊎◌, ℕ, inl, inr, true, false, refl, sym, ap, subst, List, [], ◌∷◌, ◌++◌, Option, Some}
use Rattle.afr_machine.specs.Transactions.{cells_of_job, settles_first}
use Rattle.dht_fops.specs.Courses.{Course}
use Rattle.dht_fops.specs.Handed.{Always, AnyHold, AnyAnswer}
use Rattle.dht_fops.specs.Handed.Event.{Replied, Held}
use Rattle.dht_fops.specs.Volumes.{Kept}
use Rattle.dht_fops.specs.declared.volume.Volume.{Volume}
use Rattle.fop_types.specs.Bounds.{Each}
use Rattle.fop_types.specs.declared.cells.Cell.{Cell}
use Rattle.fop_types.specs.declared.cells.Gfid.{Gfid}
use Rattle.fop_types.specs.declared.fops.Fop.{Fop}
use Rattle.fop_types.specs.declared.jobs.Job.{Job}
use Rattle.fop_types.specs.declared.jobs.Job.TheVariants as job
use Rattle.fop_types.specs.declared.jobs.SetReply.{SetReply}
use Rattle.mount_laws.specs.Guards.{IsReached, NeedsNoMore}
use Rattle.mount_laws.specs.Holding.{JobAsked, HoldsOwn, HoldsEnough, AreAmong, AreHeld, AreHeldExclusively, AreHeldOrDrawn, IsHeldFor, IsCovered, HoldCovers, own_holds, drawn_by}
use Rattle.mount_laws.specs.Holds.{Hold, Holds, HoldsExclusively, holds_of, holds_without, extensions}
use Rattle.mount_laws.specs.Runs.{Run, SettledJob, Sight, Leads, first_course, begun, going_on, held_longer, released}
use Rattle.mount_laws.specs.States.{State, Runs}
use Rattle.mount_laws.specs.Steps.{volume_of, sights_by}
use Rattle.mount_laws.proofs.Covering.{courses_covered, alone_holds}
use Rattle.mount_laws.proofs.Leading.{led_always}
use Rattle.mount_laws.proofs.Moving.{RunMove, run_moves}
use Rattle.mount_laws.proofs.Moving.RunMove.{Stays, Begins, Settles, EndsSettling, BeginsChange, Decides, SendsBirths, ConfirmsBirths, HandsIn, Extends, Releases}
use Rattle.mount_laws.proofs.Releasing.{fewer_holds, fewer_exclusive, without_or, without_or_exclusive, each_without, cells_held}

-- ---- the job that is asked

module _ (m : State) (a : JobAsked m) where
  move_asked : (c : ℕ) (run : Run) → RunMove m c run → Leads (first_course run) run.handed run.course
  move_asked _ _ (Stays c run runs) = a c run runs
  move_asked _ _ (Begins c f kept h) = Leads.Begun
  move_asked _ _ (Settles t u adopts h) = a t.call t.run h.under_way.runs
  move_asked _ _ (EndsSettling t h) = a t.call t.run h.under_way.runs
  move_asked _ _ (BeginsChange t u h) = a t.call t.run h.under_way.runs
  move_asked _ _ (Decides t u h) = a t.call t.run h.under_way.runs
  move_asked _ _ (SendsBirths t h) = a t.call t.run h.under_way.runs
  move_asked _ _ (ConfirmsBirths t h) = a t.call t.run h.under_way.runs
  move_asked _ _ (HandsIn t shown h) = Leads.Answered t.run.handed t.set t.job t.next shown (subst (λ (course : Course). Leads (first_course t.run) t.run.handed course) h.under_way.asks (a t.call t.run h.under_way.runs))
  move_asked _ _ (Releases c run gfid h) = a c run h.runs
  move_asked _ _ (Extends c run dir next h) = Leads.Extended run.handed dir next (subst (λ (course : Course). Leads (first_course run) run.handed course) h.extends (a c run h.runs))

pub jobs_asked : (first : List (List ℕ)) (m : State) → IsReached first m → JobAsked m
jobs_asked first _ (IsReached.Start planned) = λ c run runs. absurd cc
jobs_asked first _ (IsReached.Further old step reached allowed) = λ c run runs. move_asked old (jobs_asked first old reached) c run (run_moves old step allowed c run runs)

-- ---- what is held

no_more : (hs : List Hold) → hs ++ [] ≡ hs
no_more [] = refl
no_more (one ∷ hs) = ap (λ (ks : List Hold). one ∷ ks) (no_more hs)

-- a hold more, at the front or further behind
more_holds : (hs : List Hold) (d : Hold) (es : List Hold) (gfid : Gfid) → Holds (d ∷ hs ++ es) gfid → Holds (hs ++ d ∷ es) gfid
more_holds [] d es gfid h = h
more_holds (one ∷ hs) d es gfid (inl e) = inr (more_holds hs d es gfid (inl e))
more_holds (one ∷ hs) d es gfid (inr (inl e)) = inl e
more_holds (one ∷ hs) d es gfid (inr (inr h)) = inr (more_holds hs d es gfid (inr h))

more_exclusive : (hs : List Hold) (d : Hold) (es : List Hold) (gfid : Gfid) → HoldsExclusively (d ∷ hs ++ es) gfid → HoldsExclusively (hs ++ d ∷ es) gfid
more_exclusive [] d es gfid h = h
more_exclusive (one ∷ hs) d es gfid (inl e) = inr (more_exclusive hs d es gfid (inl e))
more_exclusive (one ∷ hs) d es gfid (inr (inl e)) = inl e
more_exclusive (one ∷ hs) d es gfid (inr (inr h)) = inr (more_exclusive hs d es gfid (inr h))

same_holds : (hs : List Hold) (d : Hold) (es : List Hold) (gfid : Gfid) → Holds (hs ++ d ∷ es) gfid → Holds (d ∷ hs ++ es) gfid
same_holds [] d es gfid h = h
same_holds (one ∷ hs) d es gfid (inl e) = inr (inl e)
same_holds (one ∷ hs) d es gfid (inr h) = by_case (same_holds hs d es gfid h)
  where
    by_case : Holds (d ∷ hs ++ es) gfid → Holds (d ∷ (one ∷ hs ++ es)) gfid
    by_case (inl e) = inl e
    by_case (inr k) = inr (inr k)

same_exclusive : (hs : List Hold) (d : Hold) (es : List Hold) (gfid : Gfid) → HoldsExclusively (hs ++ d ∷ es) gfid → HoldsExclusively (d ∷ hs ++ es) gfid
same_exclusive [] d es gfid h = h
same_exclusive (one ∷ hs) d es gfid (inl e) = inr (inl e)
same_exclusive (one ∷ hs) d es gfid (inr h) = by_case (same_exclusive hs d es gfid h)
  where
    by_case : HoldsExclusively (d ∷ hs ++ es) gfid → HoldsExclusively (d ∷ (one ∷ hs ++ es)) gfid
    by_case (inl e) = inl e
    by_case (inr k) = inr (inr k)

longer_among : (d : Hold) (hs ks es : List Hold) → AreAmong (ks ++ es) hs → AreAmong (ks ++ d ∷ es) (d ∷ hs)
longer_among d hs ks es a = record { held = held; exclusively = exclusively }
  where
    held : (gfid : Gfid) → Holds (d ∷ hs) gfid → Holds (ks ++ d ∷ es) gfid
    held gfid (inl e) = more_holds ks d es gfid (inl e)
    held gfid (inr h) = more_holds ks d es gfid (inr (a.held gfid h))

    exclusively : (gfid : Gfid) → HoldsExclusively (d ∷ hs) gfid → HoldsExclusively (ks ++ d ∷ es) gfid
    exclusively gfid (inl e) = more_exclusive ks d es gfid (inl e)
    exclusively gfid (inr h) = more_exclusive ks d es gfid (inr (a.exclusively gfid h))

fewer_among : (gfid : Gfid) (own hs : List Hold) → AreAmong own hs → AreAmong own (holds_without gfid hs)
fewer_among gfid own hs a = record { held = λ x h. a.held x (fewer_holds gfid hs x h); exclusively = λ x h. a.exclusively x (fewer_exclusive gfid hs x h) }

abbrev IsOwn : Run → Type 0
IsOwn run = HoldsEnough run (own_holds run.fop run.handed)

-- the fop begins
begun_own : (v : Volume) (names : List (List ℕ)) (kept : Kept) (f : Fop) → IsOwn (begun f v names kept)
begun_own v names kept f = subst (λ (hs : List Hold). HoldsEnough (begun f v names kept) hs) (sym (no_more (holds_of f))) (λ gfid h. inl h, (λ gfid h. inl h, record { held = λ gfid h. h; exclusively = λ gfid h. h }))

-- it goes on
replied_own : (run : Run) (set : ℕ) (asked : Job) (next : SetReply → Course) (shown : SetReply) (saw : List Sight) → run.course ≡ Course.Asks set asked next → IsOwn run → IsOwn (going_on run (Replied set asked shown ∷ run.handed) (next shown) saw)
replied_own run set asked next shown saw asks a = (λ gfid h. held gfid (a.0 gfid h), (λ gfid h. exclusively gfid (a.1.0 gfid h), a.1.1))
  where
    later : (gfid : Gfid) → NeedsNoMore gfid run.handed run.course → NeedsNoMore gfid (Replied set asked shown ∷ run.handed) (next shown)
    later gfid n = (subst (λ (course : Course). NeedsNoMore gfid run.handed course) asks n).1 shown

    held : (gfid : Gfid) → Holds run.holds gfid ⊎ NeedsNoMore gfid run.handed run.course → Holds run.holds gfid ⊎ NeedsNoMore gfid (Replied set asked shown ∷ run.handed) (next shown)
    held gfid (inl k) = inl k
    held gfid (inr n) = inr (later gfid n)

    exclusively : (gfid : Gfid) → HoldsExclusively run.holds gfid ⊎ NeedsNoMore gfid run.handed run.course → HoldsExclusively run.holds gfid ⊎ NeedsNoMore gfid (Replied set asked shown ∷ run.handed) (next shown)
    exclusively gfid (inl k) = inl k
    exclusively gfid (inr n) = inr (later gfid n)

extended_own : (run : Run) (dir : Gfid) (next : Course) (saw : List Sight) → run.course ≡ Course.Extends dir next → IsOwn run → IsOwn (held_longer (going_on run (Held dir ∷ run.handed) next saw) dir)
extended_own run dir next saw extends a = (
  λ gfid h. held gfid (same_holds (holds_of run.fop) d (extensions run.handed) gfid h),
  (λ gfid h. exclusively gfid (same_exclusive (holds_of run.fop) d (extensions run.handed) gfid h), longer_among d run.holds (holds_of run.fop) (extensions run.handed) a.1.1),
)
  where
    d : Hold
    d = record { gfid = dir; shared = false }

    later : (gfid : Gfid) → NeedsNoMore gfid run.handed run.course → NeedsNoMore gfid (Held dir ∷ run.handed) next
    later gfid n = (subst (λ (course : Course). NeedsNoMore gfid run.handed course) extends n).1

    held_before : (gfid : Gfid) → Holds run.holds gfid ⊎ NeedsNoMore gfid run.handed run.course → Holds (d ∷ run.holds) gfid ⊎ NeedsNoMore gfid (Held dir ∷ run.handed) next
    held_before gfid (inl k) = inl (inr k)
    held_before gfid (inr n) = inr (later gfid n)

    held : (gfid : Gfid) → Holds (d ∷ holds_of run.fop ++ extensions run.handed) gfid → Holds (d ∷ run.holds) gfid ⊎ NeedsNoMore gfid (Held dir ∷ run.handed) next
    held gfid (inl e) = inl (inl e)
    held gfid (inr h) = held_before gfid (a.0 gfid h)

    exclusive_before : (gfid : Gfid) → HoldsExclusively run.holds gfid ⊎ NeedsNoMore gfid run.handed run.course → HoldsExclusively (d ∷ run.holds) gfid ⊎ NeedsNoMore gfid (Held dir ∷ run.handed) next
    exclusive_before gfid (inl k) = inl (inr k)
    exclusive_before gfid (inr n) = inr (later gfid n)

    exclusively : (gfid : Gfid) → HoldsExclusively (d ∷ holds_of run.fop ++ extensions run.handed) gfid → HoldsExclusively (d ∷ run.holds) gfid ⊎ NeedsNoMore gfid (Held dir ∷ run.handed) next
    exclusively gfid (inl e) = inl (inl e)
    exclusively gfid (inr h) = exclusive_before gfid (a.1.0 gfid h)

released_own : (run : Run) (gfid : Gfid) → NeedsNoMore gfid run.handed run.course → IsOwn run → IsOwn (released run gfid)
released_own run gfid unneeded a = (λ x h. held x (a.0 x h), (λ x h. exclusively x (a.1.0 x h), fewer_among gfid (own_holds run.fop run.handed) run.holds a.1.1))
  where
    unneeded_too : (x : Gfid) → x ≡ gfid → NeedsNoMore x run.handed run.course
    unneeded_too x e = subst (λ (g : Gfid). NeedsNoMore g run.handed run.course) (sym e) unneeded

    by_held : (x : Gfid) → Holds (holds_without gfid run.holds) x ⊎ (x ≡ gfid) → Holds (holds_without gfid run.holds) x ⊎ NeedsNoMore x run.handed run.course
    by_held x (inl k) = inl k
    by_held x (inr e) = inr (unneeded_too x e)

    held : (x : Gfid) → Holds run.holds x ⊎ NeedsNoMore x run.handed run.course → Holds (holds_without gfid run.holds) x ⊎ NeedsNoMore x run.handed run.course
    held x (inl k) = by_held x (without_or gfid run.holds x k)
    held x (inr n) = inr n

    by_exclusive : (x : Gfid) → HoldsExclusively (holds_without gfid run.holds) x ⊎ (x ≡ gfid) → HoldsExclusively (holds_without gfid run.holds) x ⊎ NeedsNoMore x run.handed run.course
    by_exclusive x (inl k) = inl k
    by_exclusive x (inr e) = inr (unneeded_too x e)

    exclusively : (x : Gfid) → HoldsExclusively run.holds x ⊎ NeedsNoMore x run.handed run.course → HoldsExclusively (holds_without gfid run.holds) x ⊎ NeedsNoMore x run.handed run.course
    exclusively x (inl k) = by_exclusive x (without_or_exclusive gfid run.holds x k)
    exclusively x (inr n) = inr n

module _ (m : State) (a : HoldsOwn m) where
  move_own : (c : ℕ) (run : Run) → RunMove m c run → IsOwn run
  move_own _ _ (Stays c run runs) = a c run runs
  move_own _ _ (Begins c f kept h) = begun_own (volume_of m c) (m.calls c).names kept f
  move_own _ _ (Settles t u adopts h) = a t.call t.run h.under_way.runs
  move_own _ _ (EndsSettling t h) = a t.call t.run h.under_way.runs
  move_own _ _ (BeginsChange t u h) = a t.call t.run h.under_way.runs
  move_own _ _ (Decides t u h) = a t.call t.run h.under_way.runs
  move_own _ _ (SendsBirths t h) = a t.call t.run h.under_way.runs
  move_own _ _ (ConfirmsBirths t h) = a t.call t.run h.under_way.runs
  move_own _ _ (HandsIn t shown h) = replied_own t.run t.set t.job t.next shown (sights_by t.set t.job shown ++ t.run.saw) h.under_way.asks (a t.call t.run h.under_way.runs)
  move_own _ _ (Extends c run dir next h) = extended_own run dir next run.saw h.extends (a c run h.runs)
  move_own _ _ (Releases c run gfid h) = released_own run gfid h.unneeded (a c run h.runs)

pub holds_own : (first : List (List ℕ)) (m : State) → IsReached first m → HoldsOwn m
holds_own first _ (IsReached.Start planned) = λ c run runs. absurd cc
holds_own first _ (IsReached.Further old step reached allowed) = λ c run runs. move_own old (holds_own first old reached) c run (run_moves old step allowed c run runs)

-- ---- what covers it

-- the cells of a job that is asked are of objects that are needed
abbrev AreNeeded : (Gfid → Type 0) → List Cell → Type 0
AreNeeded Over cells = (gfid : Gfid) → Over gfid → Each (λ (cell : Cell). cell.gfid ≢ gfid) cells

module _ (own hs : List Hold) (Over : Gfid → Type 0) (keep : (gfid : Gfid) → Holds own gfid → Holds hs gfid ⊎ Over gfid) (keep_exclusive : (gfid : Gfid) → HoldsExclusively own gfid → HoldsExclusively hs gfid ⊎ Over gfid) where
  needed_held : (cells : List Cell) → AreNeeded Over cells → AreHeld own cells → AreHeld hs cells
  needed_held [] clear h = tt
  needed_held (cell ∷ cells) clear h = (by_case (keep cell.gfid h.0), needed_held cells (λ gfid over. (clear gfid over).1) h.1)
    where
      by_case : Holds hs cell.gfid ⊎ Over cell.gfid → Holds hs cell.gfid
      by_case (inl k) = k
      by_case (inr over) = absurd ((clear cell.gfid over).0 refl)

  needed_exclusive : (cells : List Cell) → AreNeeded Over cells → AreHeldExclusively own cells → AreHeldExclusively hs cells
  needed_exclusive [] clear h = tt
  needed_exclusive (cell ∷ cells) clear h = (by_case (keep_exclusive cell.gfid h.0), needed_exclusive cells (λ gfid over. (clear gfid over).1) h.1)
    where
      by_case : HoldsExclusively hs cell.gfid ⊎ Over cell.gfid → HoldsExclusively hs cell.gfid
      by_case (inl k) = k
      by_case (inr over) = absurd ((clear cell.gfid over).0 refl)

  needed_drawn : (drawn : Option Gfid) (cells : List Cell) → AreNeeded Over cells → AreHeldOrDrawn own drawn cells → AreHeldOrDrawn hs drawn cells
  needed_drawn drawn [] clear h = tt
  needed_drawn drawn (cell ∷ cells) clear h = (one h.0, needed_drawn drawn cells (λ gfid over. (clear gfid over).1) h.1)
    where
      by_case : HoldsExclusively hs cell.gfid ⊎ Over cell.gfid → HoldsExclusively hs cell.gfid ⊎ (drawn ≡ Some cell.gfid)
      by_case (inl k) = inl k
      by_case (inr over) = absurd ((clear cell.gfid over).0 refl)

      one : HoldsExclusively own cell.gfid ⊎ (drawn ≡ Some cell.gfid) → HoldsExclusively hs cell.gfid ⊎ (drawn ≡ Some cell.gfid)
      one (inl k) = by_case (keep_exclusive cell.gfid k)
      one (inr k) = inr k

  needed_for : (f : Fop) (asked : Job) → AreNeeded Over (cells_of_job asked) → IsHeldFor own f asked → IsHeldFor hs f asked
  needed_for f (job.Read cells fd dir) clear h = needed_held cells clear h
  needed_for f (job.Change cells fd o effect) clear h = record { alone = needed_exclusive cells clear h.alone; whole = h.whole; no_lookup = h.no_lookup }
  needed_for f (job.Birth cells o) clear h = (needed_drawn (drawn_by f) cells clear h.0, h.1)
  needed_for f (job.Open fd gfid) clear h = tt
  needed_for f job.Index clear h = tt
  needed_for f (job.Heal cell) clear h = tt

asked_covered : (m : State) → JobAsked m → HoldsOwn m → (c : ℕ) (run : Run) (set : ℕ) (asked : Job) (next : SetReply → Course) → Runs m c run → run.course ≡ Course.Asks set asked next → IsHeldFor run.holds run.fop asked
asked_covered m a own c run set asked next runs asks =
    needed_for (own_holds run.fop run.handed) run.holds (λ gfid. NeedsNoMore gfid run.handed run.course) (own c run runs).0 (own c run runs).1.0 run.fop asked
    (λ gfid over. (subst (λ (course : Course). NeedsNoMore gfid run.handed course) asks over).0)
    ((subst (λ (course : Course). Always (IsCovered run.fop) AnyHold AnyAnswer run.handed course) asks
    (led_always (IsCovered run.fop) AnyHold AnyAnswer (first_course run) run.handed run.course (a c run runs) ((courses_covered run.volume run.names run.kept run.fop).at []))).0)

pub alone_held : (hs : List Hold) (cells : List Cell) → AreHeldExclusively hs cells → AreHeld hs cells
alone_held hs [] h = tt
alone_held hs (cell ∷ cells) h = (alone_holds hs cell.gfid h.0, alone_held hs cells h.1)

-- a job that settles is of objects that are held
pub covered_held : (hs : List Hold) (f : Fop) (asked : Job) → settles_first asked ≡ true → IsHeldFor hs f asked → AreHeld hs (cells_of_job asked)
covered_held hs f (job.Read cells fd dir) s h = h
covered_held hs f (job.Change cells fd op effect) s h = alone_held hs cells h.alone
covered_held hs f (job.Birth cells op) s h = absurd cc
covered_held hs f (job.Open fd gfid) s h = absurd cc
covered_held hs f job.Index s h = absurd cc
covered_held hs f (job.Heal cell) s h = absurd cc

-- ---- settled jobs

longer_held : (d : Hold) (hs : List Hold) (cells : List Cell) → AreHeld hs cells → AreHeld (d ∷ hs) cells
longer_held d hs [] h = tt
longer_held d hs (cell ∷ cells) h = (inr h.0, longer_held d hs cells h.1)

longer_settled : (d : Hold) (hs : List Hold) (jobs : List SettledJob) → Each (λ (done : SettledJob). AreHeld hs done.cells) jobs → Each (λ (done : SettledJob). AreHeld (d ∷ hs) done.cells) jobs
longer_settled d hs [] h = tt
longer_settled d hs (done ∷ jobs) h = (longer_held d hs done.cells h.0, longer_settled d hs jobs h.1)

module _ (m : State) (a : HoldCovers m) where
  move_settled : (c : ℕ) (run : Run) → RunMove m c run → Each (λ (done : SettledJob). AreHeld run.holds done.cells) run.settled
  move_settled _ _ (Stays c run runs) = a.settled c run runs
  move_settled _ _ (Begins c f kept h) = tt
  move_settled _ _ (Settles t u adopts h) = a.settled t.call t.run h.under_way.runs
  move_settled _ _ (EndsSettling t h) =
      (covered_held t.run.holds t.run.fop t.job h.settles (a.asked t.call t.run t.set t.job t.next h.under_way.runs h.under_way.asks), a.settled t.call t.run h.under_way.runs)
  move_settled _ _ (BeginsChange t u h) = a.settled t.call t.run h.under_way.runs
  move_settled _ _ (Decides t u h) = a.settled t.call t.run h.under_way.runs
  move_settled _ _ (SendsBirths t h) = a.settled t.call t.run h.under_way.runs
  move_settled _ _ (ConfirmsBirths t h) = a.settled t.call t.run h.under_way.runs
  move_settled _ _ (HandsIn t shown h) = a.settled t.call t.run h.under_way.runs
  move_settled _ _ (Releases c run gfid h) =
      each_without (λ (done : SettledJob). AreHeld run.holds done.cells) (λ (done : SettledJob). AreHeld (holds_without gfid run.holds) done.cells) gfid run.settled (λ done k. cells_held gfid run.holds done.cells k) (a.settled c run h.runs)
  move_settled _ _ (Extends c run dir next h) = longer_settled (record { gfid = dir; shared = false }) run.holds run.settled (a.settled c run h.runs)

pub holds_cover : (first : List (List ℕ)) (m : State) → IsReached first m → HoldCovers m
holds_cover first m reached = record { asked = asked_covered m (jobs_asked first m reached) (holds_own first m reached); settled = by_steps m reached }
  where
    by_steps : (n : State) → IsReached first n → (c : ℕ) (run : Run) → Runs n c run → Each (λ (done : SettledJob). AreHeld run.holds done.cells) run.settled
    by_steps _ (IsReached.Start planned) = λ c run runs. absurd cc
    by_steps _ (IsReached.Further old step reached allowed) = λ c run runs.
        move_settled old (record { asked = asked_covered old (jobs_asked first old reached) (holds_own first old reached); settled = by_steps old reached }) c run (run_moves old step allowed c run runs)
