-- Each birth of a cell gives it the content of its first birth; a present cell is as it was born, until it is firm.
use Rattle.std.proofs.Common.{◌≡◌, ◌∙◌, ◌⊎◌, ℕ, ◌+◌, ◌<◌, ◌≤◌, inl, inr, Bool, true, false, refl, sym, ap, subst, List, [], ◌∷◌, length, Option, Some, None, is_some, if◌then◌else◌, arith}
use Rattle.std.specs.Prelude.{◌≢◌, ◌||◌}
use Rattle.afr_machine.specs.Changes.{Verdict}
use Rattle.afr_machine.specs.Changes.Verdict.{Undrawn, Unsettled, Adopted, Dropped}
use Rattle.afr_machine.specs.Copies.{root_alone, contents_of}
use Rattle.afr_machine.specs.Replicas.{with_at}
use Rattle.afr_machine.specs.Touching.{is_cell, has_cell}
use Rattle.afr_machine.specs.Transactions.{cells_of_job}
use Rattle.afr_machine.proofs.Tables.{at_same, at_other}
use Rattle.dht_fops.specs.Answers.{flat_op, change_of}
use Rattle.dht_fops.specs.Courses.{Course}
use Rattle.dht_fops.specs.Handed.{Handed, Always, AnyHold}
use Rattle.dht_fops.specs.Handed.Event.{Replied, Held}
use Rattle.dht_fops.specs.Looks.{span_of}
use Rattle.dht_fops.specs.Shown.{SetContents}
use Rattle.dht_laws.specs.Births.{BearsFrom, IsBirthFrom, after_birth, FopsBearFirst, FopsBearOnce}
use Rattle.dht_laws.specs.Endings.{Made, made_of, last_made, HaveNoFault, IsNotMade, IsInOrder, GoesOn, EndsWith, FopsAnswerChanges}
use Rattle.dht_laws.specs.Links.{FopsChangeLinks}
use Rattle.fop_types.specs.Cells.{root, meta_cell, names_cell}
use Rattle.fop_types.specs.StoreOps.{Contents, births, needs, after_births}
use Rattle.fop_types.specs.declared.cells.Cell.{Cell}
use Rattle.fop_types.specs.declared.cells.Gfid.{Gfid}
use Rattle.fop_types.specs.declared.cells.Kind.{Kind}
use Rattle.fop_types.specs.declared.cells.Kind.TheVariants as kind
use Rattle.fop_types.specs.declared.contents.Content.{Content}
use Rattle.fop_types.specs.declared.contents.Content.TheVariants.{Bytes, Meta, Names}
use Rattle.fop_types.specs.declared.contents.Item.{Item}
use Rattle.fop_types.specs.declared.contents.Span.{Span}
use Rattle.fop_types.specs.declared.flat.FlatOp.{FlatOp}
use Rattle.fop_types.specs.declared.flat.FlatOp.TheVariants as flat
use Rattle.fop_types.specs.declared.fops.Fop.{Fop}
use Rattle.fop_types.specs.declared.fops.Fop.TheVariants as fop
use Rattle.fop_types.specs.declared.history.Entry.{Entry}
use Rattle.fop_types.specs.declared.jobs.Job.{Job}
use Rattle.fop_types.specs.declared.jobs.Job.TheVariants as job
use Rattle.fop_types.specs.declared.jobs.SetReply.{SetReply}
use Rattle.fop_types.specs.declared.store_ops.StoreOp.{StoreOp}
use Rattle.fop_types.specs.declared.store_ops.StoreOp.TheVariants as op
use Rattle.mount_laws.specs.Births.{given, IsAsFirst, OneBirth, IsAsBorn, UnconfirmedIsBorn, WasAsked, HasSent, IsSending, IsMkdir, HasBorn, IsAdding, IsBornOf, IsBeyond, CopiesStand}
use Rattle.mount_laws.specs.Effects.{part_of, HasEffect, WasReplied, IsJobOf, IsOwnEntry, IsOwnEffect}
use Rattle.mount_laws.specs.Guards.{Allowed, IsReached, IsUnderWay, IsChange, IsBirth, MayBeginChange, MaySendBirths}
use Rattle.mount_laws.specs.Objects.{IsMadeBy}
use Rattle.mount_laws.specs.Runs.{Run, Leads, first_course}
use Rattle.mount_laws.specs.Runs.Leads.{Begun, Answered, Extended}
use Rattle.mount_laws.specs.Runs.Stage.{Waiting, Settled}
use Rattle.mount_laws.specs.States.{State, Change, Call, Status, Runs, start}
use Rattle.mount_laws.specs.States.Status.{Ready}
use Rattle.mount_laws.specs.Steps.{Step, Task, after, nth_gfid, change_by, births_by, applied}
use Rattle.mount_laws.proofs.Answering.{IsMadeChange, IsLastMade, last_is, runs_made}
use Rattle.mount_laws.proofs.Beside.{one_job}
use Rattle.mount_laws.proofs.Beyond.{in_its_graph}
use Rattle.mount_laws.proofs.Born.{or_else, births_are, given_by_copy, births_as_born, later_as_born, applied_as_born}
use Rattle.mount_laws.proofs.Copies.{step_firmer, IsFirmer, copies_stand}
use Rattle.mount_laws.proofs.Drawing.{drawn_apart, adds_drawn, one_part}
use Rattle.mount_laws.proofs.Entering.{began_is, effect_own, own_of_run, is_later}
use Rattle.mount_laws.proofs.Firm.{firm_touched, are_whole}
use Rattle.mount_laws.proofs.Free.{FreeIn, free_in, running, some_or, IsOwnSent, IsCopySent, IsAddBegun, sent_of, begun_of, born_drawn, next_unborn}
use Rattle.mount_laws.proofs.Held.{jobs_asked}
use Rattle.mount_laws.proofs.Leading.{led_always}
use Rattle.mount_laws.proofs.Making.{made_by_change}
use Rattle.mount_laws.proofs.Sharing.{is_cell_refl}
use Rattle.mount_laws.proofs.Tables.{at_case}

unwrap : {A : Type 0} (a b : A) → ◌≡◌ {A = Option A} (Some a) (Some b) → a ≡ b
unwrap a b e = cc

-- the laws of courses that are cited here
pub record CourseLaws : Type 0 where
  pub bear_first : FopsBearFirst
  pub bear_once : FopsBearOnce
  pub links : FopsChangeLinks
  pub answers : FopsAnswerChanges

-- ---- each set is asked for one birth

abbrev least_of : Handed → ℕ
least_of [] = 0
least_of (Held dir ∷ handed) = least_of handed
least_of (Replied set asked shown ∷ handed) = after_birth (least_of handed) set asked

record AsksRising (handed : Handed) (course : Course) : Type 0 where
  pub next : BearsFrom (least_of handed) course
  pub before : (set : ℕ) → WasAsked handed set → set < least_of handed

asked_before : (handed : Handed) (one : ℕ) (asked : Job) (shown : SetReply) → IsBirthFrom (least_of handed) one asked → ((set : ℕ) → WasAsked handed set → set < least_of handed)
    → (set : ℕ) → WasAsked (Replied one asked shown ∷ handed) set → set < after_birth (least_of handed) one asked
asked_before handed one (job.Birth cells o) shown from a set (inl e) = omega (arith, e)
asked_before handed one (job.Birth cells o) shown from a set (inr w) = let k = a set w in omega (arith, k, from)
asked_before handed one (job.Read cells fd dir) shown from a set w = a set w
asked_before handed one (job.Change cells fd o effect) shown from a set w = a set w
asked_before handed one (job.Open fd gfid) shown from a set w = a set w
asked_before handed one job.Index shown from a set w = a set w
asked_before handed one (job.Heal cell) shown from a set w = a set w

asks_rising : (first : Course) (handed : Handed) (course : Course) → Leads first handed course → BearsFrom 0 first → AsksRising handed course
asks_rising first _ _ Begun b = record { next = b; before = λ set w. absurd w }
asks_rising first _ _ (Answered handed set asked next reply l) b =
    let a = asks_rising first handed (Course.Asks set asked next) l b in record { next = a.next.1 reply; before = asked_before handed set asked reply a.next.0 a.before }
asks_rising first _ _ (Extended handed dir next l) b = let a = asks_rising first handed (Course.Extends dir next) l b in record { next = a.next; before = a.before }

-- ---- births of a job under way

module _ (laws : CourseLaws) (first : List (List ℕ)) (m : State) (reached : IsReached first m) (t : Task) (way : IsUnderWay m t) where
  -- the set was not asked for a birth before
  not_asked : IsBirth t.job → WasAsked t.run.handed t.set → ⊥
  not_asked is w =
      let a = asks_rising (first_course t.run) t.run.handed t.run.course (jobs_asked first m reached t.call t.run way.runs) (laws.bear_once t.run.volume t.run.names t.run.kept t.run.fop) in
      below t.job is (subst (λ (course : Course). BearsFrom (least_of t.run.handed) course) way.asks a.next).0 (a.before t.set w)
    where
      below : (asked : Job) → IsBirth asked → IsBirthFrom (least_of t.run.handed) t.set asked → t.set < least_of t.run.handed → ⊥
      below (job.Birth cells o) is from less = omega (arith, from, less)
      below (job.Read cells fd dir) is from less = is
      below (job.Change cells fd o effect) is from less = is
      below (job.Open fd gfid) is from less = is
      below job.Index is from less = is
      below (job.Heal cell) is from less = is

  -- a mkdir that asks for a birth has changed nothing
  goes_on : GoesOn t.run.fop t.run.handed t.set t.job
  goes_on = (subst (λ (course : Course). Always (GoesOn t.run.fop) AnyHold (EndsWith t.run.fop) t.run.handed course) way.asks
      (led_always (GoesOn t.run.fop) AnyHold (EndsWith t.run.fop) (first_course t.run) t.run.handed t.run.course (jobs_asked first m reached t.call t.run way.runs) (laws.answers t.run.volume t.run.names t.run.kept t.run.fop))).0

  mkdir_part : (f : Fop) (number : ℕ) (part : FlatOp) → IsMkdir f → part_of (flat_op f) number ≡ Some part → flat_op f ≡ Some part
  mkdir_part (fop.Mkdir dir name more drawn) number part mkdir p = ap (λ (x : FlatOp). Some x) (one_part (flat.Mkdir dir.gfid name more drawn) number part refl p).0
  mkdir_part (fop.Lookup dir name) number part mkdir p = absurd mkdir
  mkdir_part (fop.Rmdir dir name) number part mkdir p = absurd mkdir
  mkdir_part (fop.Create fd dir name more drawn) number part mkdir p = absurd mkdir
  mkdir_part (fop.Unlink dir name) number part mkdir p = absurd mkdir
  mkdir_part (fop.Rename dir name target new_name) number part mkdir p = absurd mkdir
  mkdir_part (fop.Open fd object) number part mkdir p = absurd mkdir
  mkdir_part (fop.Stat object) number part mkdir p = absurd mkdir
  mkdir_part (fop.List object) number part mkdir p = absurd mkdir
  mkdir_part (fop.Chmod object more) number part mkdir p = absurd mkdir
  mkdir_part (fop.Truncate object size) number part mkdir p = absurd mkdir
  mkdir_part (fop.SetAttr object attr) number part mkdir p = absurd mkdir
  mkdir_part (fop.GetAttr object name) number part mkdir p = absurd mkdir
  mkdir_part (fop.DelAttr object name) number part mkdir p = absurd mkdir
  mkdir_part (fop.Read fd object offset count) number part mkdir p = absurd mkdir
  mkdir_part (fop.Write fd object offset bytes) number part mkdir p = absurd mkdir
  mkdir_part (fop.Migrate fds) number part mkdir p = absurd mkdir
  mkdir_part (fop.Heal count) number part mkdir p = absurd mkdir

  no_effect_yet : IsBirth t.job → IsMkdir t.run.fop → (u : ℕ) (entry : Entry) → (m.changes u).by ≡ t.call → HasEffect (m.changes u) entry → ⊥
  no_effect_yet is mkdir u entry by effect = by_case (own_of_run first m reached t.call t.run way.runs u entry by effect)
    where
      not_made : (asked : Job) → IsBirth asked → IsInOrder t.run.fop (last_made t.run.handed) asked → IsNotMade t.run.fop (last_made t.run.handed)
      not_made (job.Birth cells o) is k = k
      not_made (job.Read cells fd dir) is k = absurd is
      not_made (job.Change cells fd o effect) is k = absurd is
      not_made (job.Open fd gfid) is k = absurd is
      not_made job.Index is k = absurd is
      not_made (job.Heal cell) is k = absurd is

      no_change : (asked : Job) → IsBirth asked → (j : IsJobOf t.run u entry (m.changes u).verdict) → asked ≡ job.Change j.cells j.fd j.op (Some entry) → ⊥
      no_change (job.Birth cells o) is j e = absurd cc
      no_change (job.Read cells fd dir) is j e = is
      no_change (job.Change cells fd o effect) is j e = is
      no_change (job.Open fd gfid) is j e = is
      no_change job.Index is j e = is
      no_change (job.Heal cell) is j e = is

      is_own : (l : IsLastMade m.changes m.history t.call (last_made t.run.handed)) → change_of l.op ≡ flat_op t.run.fop
      is_own l =
          let begun : (m.changes l.change.change).verdict ≢ Undrawn = λ e. (let clash : Adopted ≡ Undrawn = sym l.change.adopted ∙ e in absurd cc) in
          let own : IsOwnEntry m.began (m.changes l.change.change) l.entry = subst (λ (x : Option Entry). IsOwnEffect m.began (m.changes l.change.change) x) l.change.effect (effect_own first m reached l.change.change begun) in
          let same : own.fop ≡ t.run.fop = unwrap own.fop t.run.fop (sym own.began_is ∙ ap m.began l.change.by ∙ began_is first m reached t.call t.run way.runs) in
          ap change_of (sym l.change.op_is) ∙ own.makes ∙ sym (mkdir_part t.run.fop l.entry.part own.part mkdir (subst (λ (f : Fop). part_of (flat_op f) l.entry.part ≡ Some own.part) same own.part_is))

      by_case : WasReplied t.run.handed entry (m.changes u).verdict ⊎ IsJobOf t.run u entry (m.changes u).verdict → ⊥
      by_case (inr j) = no_change t.job is j (one_job t.run.course t.set j.set t.job (job.Change j.cells j.fd j.op (Some entry)) t.next j.next way.asks j.asks).job_is
      by_case (inl w) =
          let l = last_is m.changes m.history t.call t.run.fop t.run.handed entry (m.changes u).verdict goes_on.0 (runs_made first m reached t.call t.run way.runs).handed w in
          (subst (λ (x : Option Made). IsNotMade t.run.fop x) l.made_is (not_made t.job is goes_on.1)) (is_own l)

  -- a change of the call makes the drawn object
  record IsMaking (gfid : Gfid) : Type 0 where
    pub change : ℕ
    pub by : (m.changes change).by ≡ t.call
    pub entry : Entry
    pub effect : HasEffect (m.changes change) entry
    pub part : entry.part ≡ 1
    pub call : entry.call ≡ t.call

  adding_makes : (gfid : Gfid) (set : ℕ) → IsAdding m.changes t.call set gfid → IsMaking gfid
  adding_makes gfid set a =
      let k = adds_drawn first m reached a.change a.entry a.parent a.item a.mode a.span a.begun a.effect a.op_is in
      record { change = a.change; by = a.by; entry = a.entry; effect = record { begun = a.begun; effect = a.effect }; part = k.1.0; call = k.1.1 ∙ a.by }

  made_makes : (gfid : Gfid) → (m.calls t.call).drawn ≡ Some gfid → is_some (m.kinds gfid) ≡ true → IsMaking gfid
  made_makes gfid drawn there = by_kind (m.kinds gfid) refl there
    where
      by_made : (k : Kind) → ((gfid ≡ root) × (k ≡ kind.Dir)) ⊎ IsMadeBy m.changes m.homes gfid k → IsMaking gfid
      by_made k (inl r) = absurd ((drawn_apart first m reached).no_root t.call gfid drawn r.0)
      by_made k (inr b) =
          let begun : (m.changes b.change).verdict ≢ Undrawn = λ e. (let clash : Adopted ≡ Undrawn = sym b.adopted ∙ e in absurd cc) in
          let theirs = adds_drawn first m reached b.change b.entry b.parent b.item b.mode b.span begun b.effect b.op_is in
          let by = (drawn_apart first m reached).apart (m.changes b.change).by t.call gfid (theirs.0 ∙ ap (λ (g : Gfid). Some g) b.gfid_is) drawn in
          record { change = b.change; by = by; entry = b.entry; effect = record { begun = begun; effect = b.effect }; part = theirs.1.0; call = theirs.1.1 ∙ by }

      by_kind : (k : Option Kind) → m.kinds gfid ≡ k → is_some k ≡ true → IsMaking gfid
      by_kind None e h = absurd cc
      by_kind (Some k) e h = by_made k (made_by_change first m reached gfid k e)

  -- before a birth of its own, the object has no cell on the set
  sent_unborn : t.run.stage ≡ Waiting → IsBirth t.job → (cell : Cell) → IsOwnSent m t cell → m.born t.set cell ≡ None
  sent_unborn waiting is cell own = by_there (some_or (m.born t.set cell))
    where
      none : IsBornOf m.kinds m.changes t.call t.run cell.gfid t.set → ⊥
      none (inl made) = let k = made_makes cell.gfid own.drawn made in no_effect_yet is own.mkdir k.change k.entry k.by k.effect
      none (inr (inr a)) = let k = adding_makes cell.gfid t.set a in no_effect_yet is own.mkdir k.change k.entry k.by k.effect
      none (inr (inl b)) = by_sent b.sent
        where
          by_sent : WasAsked t.run.handed t.set ⊎ IsSending t.run t.set → ⊥
          by_sent (inl w) = not_asked is w
          by_sent (inr s) = subst HasSent waiting s.sent

      by_there : (m.born t.set cell ≡ None) ⊎ (is_some (m.born t.set cell) ≡ true) → m.born t.set cell ≡ None
      by_there (inl k) = k
      by_there (inr there) = absurd (none (running m (free_in laws.bear_first laws.links first m reached) t.call t.run way.runs cell.gfid own.drawn t.set cell refl there))

  -- and before it is added
  begun_unborn : (u : ℕ) → MayBeginChange m t u → (cell : Cell) → IsAddBegun m t cell → m.born t.set cell ≡ None
  begun_unborn u h cell b = by_there (some_or (m.born t.set cell))
    where
      later : IsMaking cell.gfid → ⊥
      later k =
          let new : HasEffect (change_by t.call t.set t.job) b.entry = subst (λ (j : Job). HasEffect (change_by t.call t.set j) b.entry) (sym b.job_is) (record { begun = λ e. (let clash : Unsettled ≡ Undrawn = e in absurd cc); effect = refl }) in
          let less = (is_later first m reached t u h k.change k.entry b.entry k.effect new (k.call ∙ sym b.call_is)).0 in
          let mine = b.part_is in let old = k.part in omega (arith, less, mine, old)

      none : IsBornOf m.kinds m.changes t.call t.run cell.gfid t.set → ⊥
      none (inl made) = later (made_makes cell.gfid b.drawn made)
      none (inr (inr a)) = later (adding_makes cell.gfid t.set a)
      none (inr (inl k)) = let zero_set = b.on_first (b.is_dir k.mkdir) in let further = k.further in omega (arith, zero_set, further)

      by_there : (m.born t.set cell ≡ None) ⊎ (is_some (m.born t.set cell) ≡ true) → m.born t.set cell ≡ None
      by_there (inl k) = k
      by_there (inr there) = absurd (none (running m (free_in laws.bear_first laws.links first m reached) t.call t.run way.runs cell.gfid b.drawn t.set cell refl there))

-- ---- copies beyond the sets of the maker's graph

-- a cell that is born there has the content of a copy without a range
abbrev BornBare : State → Type 0
BornBare m = (gfid : Gfid) (set : ℕ) → IsBeyond m gfid set → (cell : Cell) (x : Content) → cell.gfid ≡ gfid → m.born set cell ≡ Some x → given (births (op.MakeCopy gfid None)) cell ≡ Some x

-- calls that were there
abbrev WereCalls : (ℕ → Call) → (ℕ → Call) → Type 0
WereCalls old new = (c : ℕ) → ((new c).drawn ≡ (old c).drawn) × ((new c).names ≡ (old c).names)

status_were : (calls : ℕ → Call) (c : ℕ) (status : Status) → WereCalls calls (with_at calls c (record (calls c) { status = status }))
status_were calls c status i = at_case (λ j (one : Call). (one.drawn ≡ (calls j).drawn) × (one.names ≡ (calls j).names)) calls c (record (calls c) { status = status }) (refl, refl) i (λ differ. (refl, refl))

was_beyond : (m n : State) → WereCalls m.calls n.calls → (gfid : Gfid) (set : ℕ) → IsBeyond n gfid set → IsBeyond m gfid set
was_beyond m n were gfid set b = let k = were b.call in record { call = b.call; drawn = sym k.0 ∙ b.drawn; beyond = subst (λ (ns : List (List ℕ)). length ns ≤ set) k.1 b.beyond }

bare_still : (m n : State) → WereCalls m.calls n.calls → BornBare m → (gfid : Gfid) (set : ℕ) → IsBeyond n gfid set → (cell : Cell) (x : Content) → cell.gfid ≡ gfid → m.born set cell ≡ Some x → given (births (op.MakeCopy gfid None)) cell ≡ Some x
bare_still m n were a gfid set b = a gfid set (was_beyond m n were gfid set b)

-- what a set with births has: what it had, or what it is given
born_or_given : (born : SetContents) (s : ℕ) (bs : List (Cell × Content)) (set : ℕ) (cell : Cell) (x : Content) → with_at born s (after_births (born s) bs) set cell ≡ Some x → (born set cell ≡ Some x) ⊎ ((set ≡ s) × (given bs cell ≡ Some x))
born_or_given born s bs set cell x = at_case (λ i (one : Contents). one cell ≡ Some x → (born i cell ≡ Some x) ⊎ ((i ≡ s) × (given bs cell ≡ Some x))) born s (after_births (born s) bs)
    (λ e. by_case (born s cell) (given bs cell) (sym (births_are bs (born s) cell) ∙ e)) set (λ differ e. inl e)
  where
    by_case : (a b : Option Content) → or_else a b ≡ Some x → (a ≡ Some x) ⊎ ((s ≡ s) × (b ≡ Some x))
    by_case None b e = inr (refl, e)
    by_case (Some y) b e = inl e

module _ (laws : CourseLaws) (first : List (List ℕ)) where
  -- on a set that its graph has, a call gives birth to its own
  own_within : (m : State) → IsReached first m → (t : Task) → IsUnderWay m t → (gfid : Gfid) → (b : IsBeyond m gfid t.set) → (m.calls t.call).drawn ≡ Some gfid → t.set < t.run.volume.sets → ⊥
  own_within m reached t way gfid b drawn within =
      let same : b.call ≡ t.call = (drawn_apart first m reached).apart b.call t.call gfid b.drawn drawn in
      let beyond : length (m.calls t.call).names ≤ t.set = subst (λ (c : ℕ). length (m.calls c).names ≤ t.set) same b.beyond in
      let sets = ((in_its_graph first m reached).planned t.call t.run way.runs).sets in
      omega (arith, beyond, sets, within)

  bare_with : (m n : State) → IsReached first m → (t : Task) → IsUnderWay m t → WereCalls m.calls n.calls
      → ((cell : Cell) (x : Content) → given (births_by t.job) cell ≡ Some x → (((m.calls t.call).drawn ≡ Some cell.gfid) × (t.set < t.run.volume.sets)) ⊎ (given (births (op.MakeCopy cell.gfid None)) cell ≡ Some x)) → BornBare m
      → (gfid : Gfid) (set : ℕ) → IsBeyond n gfid set → (cell : Cell) (x : Content) → cell.gfid ≡ gfid → with_at m.born t.set (after_births (m.born t.set) (births_by t.job)) set cell ≡ Some x → given (births (op.MakeCopy gfid None)) cell ≡ Some x
  bare_with m n reached t way were given_is a gfid set b cell x e is = by_case (born_or_given m.born t.set (births_by t.job) set cell x is)
    where
      old : IsBeyond m gfid set
      old = was_beyond m n were gfid set b

      by_given : set ≡ t.set → (((m.calls t.call).drawn ≡ Some cell.gfid) × (t.set < t.run.volume.sets)) ⊎ (given (births (op.MakeCopy cell.gfid None)) cell ≡ Some x) → given (births (op.MakeCopy gfid None)) cell ≡ Some x
      by_given same (inr copy) = subst (λ (g : Gfid). given (births (op.MakeCopy g None)) cell ≡ Some x) e copy
      by_given same (inl own) = absurd (own_within m reached t way gfid (subst (λ (s : ℕ). IsBeyond m gfid s) same old) (own.0 ∙ ap (λ (g : Gfid). Some g) e) own.1)

      by_case : (m.born set cell ≡ Some x) ⊎ ((set ≡ t.set) × (given (births_by t.job) cell ≡ Some x)) → given (births (op.MakeCopy gfid None)) cell ≡ Some x
      by_case (inl was) = a gfid set old cell x e was
      by_case (inr new) = by_given new.0 (given_is cell x new.1)

  sent_kind : (m : State) → IsReached first m → (t : Task) → IsUnderWay m t → IsBirth t.job → (cell : Cell) (x : Content) → given (births_by t.job) cell ≡ Some x
      → (((m.calls t.call).drawn ≡ Some cell.gfid) × (t.set < t.run.volume.sets)) ⊎ (given (births (op.MakeCopy cell.gfid None)) cell ≡ Some x)
  sent_kind m reached t way is cell x e = by_case (sent_of laws.bear_first laws.links first m reached t way is cell x e)
    where
      by_case : IsOwnSent m t cell ⊎ IsCopySent m t cell x → (((m.calls t.call).drawn ≡ Some cell.gfid) × (t.set < t.run.volume.sets)) ⊎ (given (births (op.MakeCopy cell.gfid None)) cell ≡ Some x)
      by_case (inl own) = inl (own.drawn, own.within)
      by_case (inr copy) = inr copy.content

  begun_kind : (m : State) → IsReached first m → (t : Task) → IsUnderWay m t → IsChange t.job → (cell : Cell) (x : Content) → given (births_by t.job) cell ≡ Some x
      → (((m.calls t.call).drawn ≡ Some cell.gfid) × (t.set < t.run.volume.sets)) ⊎ (given (births (op.MakeCopy cell.gfid None)) cell ≡ Some x)
  begun_kind m reached t way is cell x e = let b = begun_of laws.bear_first laws.links first m reached t way is cell x e in inl (b.drawn, b.within)

  -- a new call's object has no cell
  next_bare : (m : State) → IsReached first m → (draws : Bool) → BornBare m → BornBare (after m (Step.Submits draws))
  next_bare m reached draws a gfid set b cell x e is = by_call (with_at m.calls (m.submitted + 1) (new draws) b.call) b.drawn b.beyond (at_case (λ i (one : Call). ((one.drawn ≡ (m.calls i).drawn) × (one.names ≡ (m.calls i).names)) ⊎ ((one.drawn ≡ (new draws).drawn) × (one.names ≡ m.names))) m.calls (m.submitted + 1) (new draws) (inr (refl, refl)) b.call (λ differ. inl (refl, refl)))
    where
      new : Bool → Call
      new d = record { names = m.names; drawn = if d then Some (nth_gfid (m.draws + 1)) else None; status = Ready }

      fresh : (d : Bool) → (new d).drawn ≡ Some gfid → ⊥
      fresh true f = let none = next_unborn m (born_drawn laws.bear_first laws.links first m reached) set cell (e ∙ sym (unwrap (nth_gfid (m.draws + 1)) gfid f)) in let clash : ◌≡◌ {A = Option Content} None (Some x) = sym none ∙ is in absurd cc
      fresh false f = absurd cc

      by_call : (one : Call) → one.drawn ≡ Some gfid → length one.names ≤ set → ((one.drawn ≡ (m.calls b.call).drawn) × (one.names ≡ (m.calls b.call).names)) ⊎ ((one.drawn ≡ (new draws).drawn) × (one.names ≡ m.names)) → given (births (op.MakeCopy gfid None)) cell ≡ Some x
      by_call one drawn beyond (inl k) = a gfid set (record { call = b.call; drawn = sym k.0 ∙ drawn; beyond = subst (λ (ns : List (List ℕ)). length ns ≤ set) k.1 beyond }) cell x e is
      by_call one drawn beyond (inr k) = absurd (fresh draws (sym k.0 ∙ drawn))

  step_bare : (m : State) (step : Step) → IsReached first m → Allowed m step → BornBare m → BornBare (after m step)
  step_bare m (Step.Submits draws) reached h a = next_bare m reached draws a
  step_bare m (Step.Concludes c) reached h a = bare_still m (after m (Step.Concludes c)) (status_were m.calls c _) a
  step_bare m (Step.Switches names) reached h a = bare_still m (after m (Step.Switches names)) (λ c. (refl, refl)) a
  step_bare m (Step.Begins c f kept) reached h a = bare_still m (after m (Step.Begins c f kept)) (status_were m.calls c _) a
  step_bare m (Step.Settles t u true) reached h a = bare_still m (after m (Step.Settles t u true)) (status_were m.calls t.call _) a
  step_bare m (Step.Settles t u false) reached h a = bare_still m (after m (Step.Settles t u false)) (status_were m.calls t.call _) a
  step_bare m (Step.EndsSettling t) reached h a = bare_still m (after m (Step.EndsSettling t)) (status_were m.calls t.call _) a
  step_bare m (Step.BeginsChange t u) reached h a = bare_with m (after m (Step.BeginsChange t u)) reached t h.under_way (status_were m.calls t.call _) (begun_kind m reached t h.under_way h.is_change) a
  step_bare m (Step.Decides t u) reached h a = bare_still m (after m (Step.Decides t u)) (status_were m.calls t.call _) a
  step_bare m (Step.SendsBirths t) reached h a = bare_with m (after m (Step.SendsBirths t)) reached t h.under_way (status_were m.calls t.call _) (sent_kind m reached t h.under_way h.is_birth) a
  step_bare m (Step.ConfirmsBirths t) reached h a = bare_still m (after m (Step.ConfirmsBirths t)) (status_were m.calls t.call _) a
  step_bare m (Step.HandsIn t shown) reached h a = bare_still m (after m (Step.HandsIn t shown)) (status_were m.calls t.call _) a
  step_bare m (Step.Extends c run dir next) reached h a = bare_still m (after m (Step.Extends c run dir next)) (status_were m.calls c _) a
  step_bare m (Step.Releases c run gfid) reached h a = bare_still m (after m (Step.Releases c run gfid)) (status_were m.calls c _) a
  step_bare m (Step.Learns c run dir spans) reached h a = bare_still m (after m (Step.Learns c run dir spans)) (λ i. (refl, refl)) a
  step_bare m (Step.Answers c run answer place) reached h a = bare_still m (after m (Step.Answers c run answer place)) (status_were m.calls c _) a
  step_bare m (Step.AnswersAbove c run answer) reached h a = bare_still m (after m (Step.AnswersAbove c run answer)) (status_were m.calls c _) a

  born_bare : (m : State) → IsReached first m → BornBare m
  born_bare _ (IsReached.Start planned) = λ gfid set b. absurd (let clash : ◌≡◌ {A = Option Gfid} None (Some gfid) = b.drawn in cc)
  born_bare _ (IsReached.Further old step reached allowed) = step_bare old step reached allowed (born_bare old reached)

  -- ---- one birth

  sent_as_first : (m : State) → IsReached first m → (t : Task) (cell : Cell) → MaySendBirths m t → IsAsFirst (m.born t.set cell) (given (births_by t.job) cell)
  sent_as_first m reached t cell h x e = by_case (sent_of laws.bear_first laws.links first m reached t h.under_way h.is_birth cell x e)
    where
      by_born : IsCopySent m t cell x → (o : Option Content) → m.born t.set cell ≡ o → (o ≡ None) ⊎ (o ≡ Some x)
      by_born copy None f = inl refl
      by_born copy (Some y) f = inr (ap (λ (z : Content). Some z) (unwrap y x (sym (born_bare m reached cell.gfid t.set copy.beyond cell y refl f) ∙ copy.content)))

      by_case : IsOwnSent m t cell ⊎ IsCopySent m t cell x → (m.born t.set cell ≡ None) ⊎ (m.born t.set cell ≡ Some x)
      by_case (inl own) = inl (sent_unborn laws first m reached t h.under_way h.waiting h.is_birth cell own)
      by_case (inr copy) = by_born copy (m.born t.set cell) refl

  begun_as_first : (m : State) → IsReached first m → (t : Task) (u : ℕ) (cell : Cell) → MayBeginChange m t u → IsAsFirst (m.born t.set cell) (given (births_by t.job) cell)
  begun_as_first m reached t u cell h x e = inl (begun_unborn laws first m reached t h.under_way u h cell (begun_of laws.bear_first laws.links first m reached t h.under_way h.is_change cell x e))

  pub one_birth : (m : State) → IsReached first m → OneBirth m
  one_birth m reached = record { sent = λ t cell h. sent_as_first m reached t cell h; begun = λ t u cell h. begun_as_first m reached t u cell h }

  -- ---- changes give birth to what was born

  abbrev AreBorn : (ℕ → Change) → SetContents → Type 0
  AreBorn changes born = (u : ℕ) (cell : Cell) (x : Content) → (changes u).verdict ≢ Undrawn → given (births (changes u).op) cell ≡ Some x → born (changes u).set cell ≡ Some x

  decided_born : (m : State) (u : ℕ) (verdict : Verdict) → (m.changes u).verdict ≡ Unsettled → AreBorn m.changes m.born → AreBorn (with_at m.changes u (record (m.changes u) { verdict = verdict })) m.born
  decided_born m u verdict was a w cell x =
      at_case (λ i (one : Change). one.verdict ≢ Undrawn → given (births one.op) cell ≡ Some x → m.born one.set cell ≡ Some x) m.changes u (record (m.changes u) { verdict = verdict })
      (λ begun. a u cell x (λ e. let clash : Unsettled ≡ Undrawn = sym was ∙ e in absurd cc)) w (λ differ. a w cell x)

  -- what was born stays
  pub born_stays : (born : SetContents) (s : ℕ) (bs : List (Cell × Content)) (set : ℕ) (cell : Cell) (x : Content) → born set cell ≡ Some x → with_at born s (after_births (born s) bs) set cell ≡ Some x
  born_stays born s bs set cell x e = at_case (λ i (one : Contents). born i cell ≡ Some x → one cell ≡ Some x) born s (after_births (born s) bs) (λ f. births_are bs (born s) cell ∙ ap (λ (o : Option Content). or_else o (given bs cell)) f) set (λ differ f. f) e

  -- what is given is born
  given_born : (born : SetContents) (s : ℕ) (bs : List (Cell × Content)) (cell : Cell) (x : Content) → given bs cell ≡ Some x → (born s cell ≡ None) ⊎ (born s cell ≡ Some x) → with_at born s (after_births (born s) bs) s cell ≡ Some x
  given_born born s bs cell x g k = ap (λ (one : Contents). one cell) (at_same born s (after_births (born s) bs)) ∙ births_are bs (born s) cell ∙ by_case k
    where
      by_case : (born s cell ≡ None) ⊎ (born s cell ≡ Some x) → or_else (born s cell) (given bs cell) ≡ Some x
      by_case (inl none) = ap (λ (o : Option Content). or_else o (given bs cell)) none ∙ g
      by_case (inr same) = ap (λ (o : Option Content). or_else o (given bs cell)) same

  made_born : (m : State) → IsReached first m → (t : Task) (u : ℕ) → MayBeginChange m t u → (cell : Cell) (x : Content) → given (births (change_by t.call t.set t.job).op) cell ≡ Some x
      → with_at m.born t.set (after_births (m.born t.set) (births_by t.job)) (change_by t.call t.set t.job).set cell ≡ Some x
  made_born m reached t u h cell x = of_job t.job h.is_change (begun_as_first m reached t u cell h x)
    where
      of_job : (asked : Job) → IsChange asked → (given (births_by asked) cell ≡ Some x → (m.born t.set cell ≡ None) ⊎ (m.born t.set cell ≡ Some x)) → given (births (change_by t.call t.set asked).op) cell ≡ Some x
          → with_at m.born t.set (after_births (m.born t.set) (births_by asked)) (change_by t.call t.set asked).set cell ≡ Some x
      of_job (job.Change cells fd o effect) is k g = given_born m.born t.set (births o) cell x g (k g)
      of_job (job.Read cells fd dir) is k g = absurd is
      of_job (job.Birth cells o) is k g = absurd is
      of_job (job.Open fd gfid) is k g = absurd is
      of_job job.Index is k g = absurd is
      of_job (job.Heal one) is k g = absurd is

  step_born : (m : State) (step : Step) → IsReached first m → Allowed m step → AreBorn m.changes m.born → AreBorn (after m step).changes (after m step).born
  step_born m (Step.BeginsChange t u) reached h a = λ w cell x.
      at_case (λ i (one : Change). one.verdict ≢ Undrawn → given (births one.op) cell ≡ Some x → with_at m.born t.set (after_births (m.born t.set) (births_by t.job)) one.set cell ≡ Some x) m.changes u (change_by t.call t.set t.job)
      (λ begun g. made_born m reached t u h cell x g) w (λ differ begun g. born_stays m.born t.set (births_by t.job) (m.changes w).set cell x (a w cell x begun g))
  step_born m (Step.SendsBirths t) reached h a = λ w cell x begun g. born_stays m.born t.set (births_by t.job) (m.changes w).set cell x (a w cell x begun g)
  step_born m (Step.Settles t u true) reached h a = decided_born m u Adopted h.unsettled.verdict a
  step_born m (Step.Settles t u false) reached h a = decided_born m u Dropped h.unsettled.verdict a
  step_born m (Step.Decides t u) reached h a = decided_born m u Adopted h.unsettled a
  step_born m (Step.Submits draws) reached h a = a
  step_born m (Step.Concludes c) reached h a = a
  step_born m (Step.Switches names) reached h a = a
  step_born m (Step.Begins c f kept) reached h a = a
  step_born m (Step.EndsSettling t) reached h a = a
  step_born m (Step.ConfirmsBirths t) reached h a = a
  step_born m (Step.HandsIn t shown) reached h a = a
  step_born m (Step.Extends c run dir next) reached h a = a
  step_born m (Step.Releases c run gfid) reached h a = a
  step_born m (Step.Learns c run dir spans) reached h a = a
  step_born m (Step.Answers c run answer place) reached h a = a
  step_born m (Step.AnswersAbove c run answer) reached h a = a

  are_born : (m : State) → IsReached first m → AreBorn m.changes m.born
  are_born _ (IsReached.Start planned) = λ u cell x begun. absurd (begun refl)
  are_born _ (IsReached.Further old step reached allowed) = step_born old step reached allowed (are_born old reached)

  -- ---- cells that are as they were born

  abbrev AsBornIn : (ℕ → Cell → Bool) → SetContents → SetContents → Type 0
  AsBornIn firm born adopted = (set : ℕ) (cell : Cell) → IsAsBorn (firm set cell) (born set cell) (adopted set cell)

  -- a firm cell says less
  firm_as_born : (old new : Bool) (born now : Option Content) → (old ≡ true → new ≡ true) → IsAsBorn old born now → IsAsBorn new born now
  firm_as_born old true born now more a = record { there = a.there; span = a.span; same = λ soft. absurd cc }
  firm_as_born false false born now more a = a
  firm_as_born true false born now more a = let clash : false ≡ true = more refl in absurd cc

  adopted_as_born : (m : State) → IsReached first m → (u : ℕ) → (m.changes u).verdict ≡ Unsettled → UnconfirmedIsBorn m → AsBornIn m.firm m.born (with_at m.adopted (m.changes u).set (applied (m.adopted (m.changes u).set) (m.changes u).op))
  adopted_as_born m reached u was a set cell =
      at_case (λ i (one : Contents). IsAsBorn (m.firm i cell) (m.born i cell) (one cell)) m.adopted (m.changes u).set (applied (m.adopted (m.changes u).set) (m.changes u).op)
      (applied_as_born (m.adopted (m.changes u).set) (m.changes u).op cell (m.firm (m.changes u).set cell) (m.born (m.changes u).set cell)
      (λ needed. (firm_touched first m reached).touched u cell begun (subst (λ (cells : List Cell). has_cell cells cell ≡ true) (sym (are_whole first m reached u begun)) needed))
      (λ x g. are_born m reached u cell x begun g) (a (m.changes u).set cell)) set (λ differ. a set cell)
    where
      begun : (m.changes u).verdict ≢ Undrawn
      begun e = let clash : Unsettled ≡ Undrawn = sym was ∙ e in absurd cc

  step_as_born : (m : State) (step : Step) → IsReached first m → Allowed m step → UnconfirmedIsBorn m → UnconfirmedIsBorn (after m step)
  step_as_born m (Step.Settles t u true) reached h a = adopted_as_born m reached u h.unsettled.verdict a
  step_as_born m (Step.Decides t u) reached h a = adopted_as_born m reached u h.unsettled a
  step_as_born m (Step.SendsBirths t) reached h a = λ set cell.
      at_case (λ i (one : Contents). IsAsBorn (m.firm i cell) (with_at m.born t.set (after_births (m.born t.set) (births_by t.job)) i cell) (one cell)) m.adopted t.set (after_births (m.adopted t.set) (births_by t.job))
      (subst (λ (one : Contents). IsAsBorn (m.firm t.set cell) (one cell) (after_births (m.adopted t.set) (births_by t.job) cell)) (sym (at_same m.born t.set (after_births (m.born t.set) (births_by t.job))))
      (subst (λ (c : Option Content). IsAsBorn (m.firm t.set cell) c (after_births (m.adopted t.set) (births_by t.job) cell)) (sym (births_are (births_by t.job) (m.born t.set) cell))
      (subst (λ (c : Option Content). IsAsBorn (m.firm t.set cell) (or_else (m.born t.set cell) (given (births_by t.job) cell)) c) (sym (births_are (births_by t.job) (m.adopted t.set) cell))
      (births_as_born (m.firm t.set cell) (m.born t.set cell) (m.adopted t.set cell) (given (births_by t.job) cell) (sent_as_first m reached t cell h) (a t.set cell))))) set
      (λ differ. subst (λ (one : Contents). IsAsBorn (m.firm set cell) (one cell) (m.adopted set cell)) (sym (at_other m.born t.set (after_births (m.born t.set) (births_by t.job)) set differ)) (a set cell))
  step_as_born m (Step.BeginsChange t u) reached h a = λ set cell.
      firm_as_born (m.firm set cell) ((after m (Step.BeginsChange t u)).firm set cell) (with_at m.born t.set (after_births (m.born t.set) (births_by t.job)) set cell) (m.adopted set cell) (step_firmer m (Step.BeginsChange t u) set cell)
      (at_case (λ i (one : Contents). IsAsBorn (m.firm i cell) (one cell) (m.adopted i cell)) m.born t.set (after_births (m.born t.set) (births_by t.job))
      (subst (λ (c : Option Content). IsAsBorn (m.firm t.set cell) c (m.adopted t.set cell)) (sym (births_are (births_by t.job) (m.born t.set) cell)) (later_as_born (m.firm t.set cell) (m.born t.set cell) (m.adopted t.set cell) (given (births_by t.job) cell) (a t.set cell))) set
      (λ differ. a set cell))
  step_as_born m (Step.ConfirmsBirths t) reached h a = λ set cell. firm_as_born (m.firm set cell) ((after m (Step.ConfirmsBirths t)).firm set cell) (m.born set cell) (m.adopted set cell) (step_firmer m (Step.ConfirmsBirths t) set cell) (a set cell)
  step_as_born m (Step.Settles t u false) reached h a = a
  step_as_born m (Step.Submits draws) reached h a = a
  step_as_born m (Step.Concludes c) reached h a = a
  step_as_born m (Step.Switches names) reached h a = a
  step_as_born m (Step.Begins c f kept) reached h a = a
  step_as_born m (Step.EndsSettling t) reached h a = a
  step_as_born m (Step.HandsIn t shown) reached h a = a
  step_as_born m (Step.Extends c run dir next) reached h a = a
  step_as_born m (Step.Releases c run gfid) reached h a = a
  step_as_born m (Step.Learns c run dir spans) reached h a = a
  step_as_born m (Step.Answers c run answer place) reached h a = a
  step_as_born m (Step.AnswersAbove c run answer) reached h a = a

  same_as_born : (firm : Bool) (c : Option Content) → IsAsBorn firm c c
  same_as_born firm c = record { there = λ h. h; span = λ h. refl; same = λ soft h. refl }

  pub unconfirmed_born : (m : State) → IsReached first m → UnconfirmedIsBorn m
  unconfirmed_born _ (IsReached.Start planned) = λ set cell. same_as_born ((start first).firm set cell) (contents_of root_alone cell)
  unconfirmed_born _ (IsReached.Further old step reached allowed) = step_as_born old step reached allowed (unconfirmed_born old reached)

  -- ---- copies without a range

  bare_span : (gfid : Gfid) (x : Content) → given (births (op.MakeCopy gfid None)) (meta_cell gfid) ≡ Some x → span_of (Some x) ≡ None
  bare_span gfid x h = ap span_of (sym h ∙ ap (λ (b : Bool). if b then Some (Meta 0 [] None) else (if is_cell (meta_cell gfid) (names_cell gfid) then Some (Names false []) else None)) (is_cell_refl (meta_cell gfid)))

  pub bare_copy : (m : State) → IsReached first m → (gfid : Gfid) (set : ℕ) → IsBeyond m gfid set → span_of (m.adopted set (meta_cell gfid)) ≡ None
  bare_copy m reached gfid set b = by_there (some_or (m.adopted set (meta_cell gfid)))
    where
      of_born : (o : Option Content) → m.born set (meta_cell gfid) ≡ o → span_of o ≡ None
      of_born None e = refl
      of_born (Some x) e = bare_span gfid x (born_bare m reached gfid set b (meta_cell gfid) x refl e)

      by_there : (m.adopted set (meta_cell gfid) ≡ None) ⊎ (is_some (m.adopted set (meta_cell gfid)) ≡ true) → span_of (m.adopted set (meta_cell gfid)) ≡ None
      by_there (inl none) = ap span_of none
      by_there (inr there) = (unconfirmed_born m reached set (meta_cell gfid)).span there ∙ of_born (m.born set (meta_cell gfid)) refl

  pub copies : (m : State) → IsReached first m → CopiesStand m
  copies m reached = record { firm = λ c gfid set drawn made further within. copies_stand laws.bear_first first m reached c gfid set drawn made further within; bare = λ gfid set b. bare_copy m reached gfid set b }
