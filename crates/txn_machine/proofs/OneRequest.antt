-- A request of a phase meets its guard, in a state that is that of the moment after the turn.
use Rattle.std.proofs.Common.{◌≡◌, ◌∙◌, ℕ, ◌<◌, inl, inr, Bool, true, false, ◌&&◌, ◌||◌, ◌==◌, not, nat_lt, List, [], ◌∷◌, Option, Some, None, is_none, is_some, length, slice_index, slice_index_or, refl, sym, ap, subst, arith}
use Rattle.std.specs.Prelude.{slice_get}
use Rattle.std.proofs.lemmas.Bool.{and_parts, or_parts, eqb-true, eq-eqb, not-true, true≢false}
use Rattle.fop_types.specs.Bounds.{Each}
use Rattle.fop_types.specs.Jobs.{cells_of}
use Rattle.fop_types.specs.StoreOps.{births}
use Rattle.fop_types.specs.declared.cells.Cell.{Cell}
use Rattle.fop_types.specs.declared.cells.Gfid.{Gfid}
use Rattle.fop_types.specs.declared.contents.Mask.{Mask}
use Rattle.fop_types.specs.declared.jobs.Job.{Job}
use Rattle.fop_types.specs.declared.jobs.Job.TheVariants as job
use Rattle.fop_types.specs.declared.messages.BrickReq.{BrickReq}
use Rattle.fop_types.specs.declared.messages.BrickReq.TheVariants as req
use Rattle.fop_types.specs.declared.store_ops.StoreOp.{StoreOp}
use Rattle.afr_ledger.specs.Ledger.{State as Ledger}
use Rattle.afr_machine.specs.Births.{cells_of_work, AreLeftAlone}
use Rattle.afr_machine.specs.Replicas.{Size}
use Rattle.afr_machine.specs.Sending.{HasGrant, IsMember, IsNext, MayLock, MayUnlock, MayRead, MayPoll}
use Rattle.afr_machine.specs.States.{State, is_current, link_of, phase_of}
use Rattle.afr_machine.specs.Steps.{MayMiss}
use Rattle.afr_machine.specs.Touching.{has_cell}
use Rattle.afr_machine.specs.Transactions.{Grant, Stage, Work, cells_of_job}
use Rattle.afr_machine.specs.Turns.{is_granted, open_grants}
use Rattle.afr_phases.specs.declared.wave.Wave.{Wave}
use Rattle.afr_phases.specs.Asked.{is_within, is_waiting, are_granted_within}
use Rattle.afr_phases.specs.Flags.{flag, names}
use Rattle.afr_phases.specs.Locks.{is_open, stands}
use Rattle.afr_phases.specs.Outs.{is_out}
use Rattle.afr_phases.specs.Waves.{is_asked, is_over}
use Rattle.afr_phases.proofs.Asked.{within_at}
use Rattle.afr_phases.proofs.Truths.{flags_at}
use Rattle.afr_transaction.specs.declared.jobs.Kind.TheVariants as kind
use Rattle.afr_transaction.specs.declared.need.Need.{Need}
use Rattle.afr_transaction.specs.declared.need.Need.TheVariants as need
use Rattle.afr_transaction.specs.declared.phase.Phase.{Phase}
use Rattle.afr_transaction.specs.declared.phase.Phase.TheVariants as phase
use Rattle.afr_transaction.specs.declared.txn.Txn.{Txn}
use Rattle.afr_transaction.specs.Changes.{unsettled_of}
use Rattle.afr_transaction.specs.Jobs.{kind_of, birth_op, change_op}
use Rattle.afr_transaction.specs.Locked.{is_read}
use Rattle.afr_transaction.specs.Reads.{fd_of, sound_on}
use Rattle.afr_transaction.specs.Requests.{HasGranted, IsOfPhase, Sends}
use Rattle.afr_transaction.specs.Shapes.{is_asking, suits}
use Rattle.afr_transaction.specs.Txns.{alive}
use Rattle.txn_machine.specs.Asks.{settle_of, ask_of, MayBeAsked}
use Rattle.txn_machine.specs.Guards.{IsAfter, MeetsGuard, AreMet}
use Rattle.txn_machine.specs.Records.{IsStageOf, asks_members, asks_at_once, own_in, work_of, connection_of, IsDrawnFor, AreBirthsApart}
use Rattle.txn_machine.specs.Works.{AreReached, WorksIn, Works}
use Rattle.txn_machine.proofs.Rows.{has_at, sound_in, accuses_outside}
use Rattle.txn_machine.proofs.Turns.{AsksIn, Asks, AreAsked}

-- ---- jobs by their kind

record IsReadJob (j : Job) : Type 0 where
  cells : List Cell
  fd : ℕ
  dir : Bool
  is : j ≡ job.Read cells fd dir

read_of : (j : Job) → kind_of j ≡ kind.Read → IsReadJob j
read_of (job.Read cells fd dir) h = record { cells = cells; fd = fd; dir = dir; is = refl }
read_of (job.Change cells fd op effect) h = absurd cc
read_of (job.Birth cells op) h = absurd cc
read_of (job.Open fd gfid) h = absurd cc
read_of job.Index h = absurd cc
read_of (job.Heal cell) h = absurd cc

record IsBirthJob (j : Job) (op : StoreOp) : Type 0 where
  cells : List Cell
  is : j ≡ job.Birth cells op

birth_of : (j : Job) (op : StoreOp) → birth_op j ≡ Some op → IsBirthJob j op
birth_of (job.Read cells fd dir) op h = absurd cc
birth_of (job.Change cells fd o effect) op h = absurd cc
birth_of (job.Birth cells o) op h = record { cells = cells; is = (let same : o ≡ op = cc in ap (λ (x : StoreOp). job.Birth cells x) same) }
birth_of (job.Open fd gfid) op h = absurd cc
birth_of job.Index op h = absurd cc
birth_of (job.Heal cell) op h = absurd cc

open_of : (j : Job) (fd : ℕ) (gfid : Gfid) → kind_of j ≡ kind.Open fd gfid → j ≡ job.Open fd gfid
open_of (job.Read cells f dir) fd gfid h = absurd cc
open_of (job.Change cells f op effect) fd gfid h = absurd cc
open_of (job.Birth cells op) fd gfid h = absurd cc
open_of (job.Open f g) fd gfid h =
    let one : f ≡ fd = cc in
    let other : g ≡ gfid = cc in
    ap (λ (x : ℕ). job.Open x g) one ∙ ap (λ (x : Gfid). job.Open fd x) other
open_of job.Index fd gfid h = absurd cc
open_of (job.Heal cell) fd gfid h = absurd cc

index_of : (j : Job) → kind_of j ≡ kind.Index → j ≡ job.Index
index_of (job.Read cells fd dir) h = absurd cc
index_of (job.Change cells fd op effect) h = absurd cc
index_of (job.Birth cells op) h = absurd cc
index_of (job.Open fd gfid) h = absurd cc
index_of job.Index h = refl
index_of (job.Heal cell) h = absurd cc

-- ---- truths

same : (a b : Bool) → (a ≡ true → b ≡ true) → (b ≡ true → a ≡ true) → a ≡ b
same true b h k = sym (h refl)
same false true h k = k refl
same false false h k = refl

swapped : (a b : ℕ) → (a == b) ≡ (b == a)
swapped a b = same (a == b) (b == a) (λ h. eq-eqb b a (sym (eqb-true a b h))) (λ h. eq-eqb a b (sym (eqb-true b a h)))

stands_by : (o : Option ℕ) (stands : Bool) → is_some o ≡ true → (is_none o || stands) ≡ true → stands ≡ true
stands_by None stands granted h = absurd (true≢false (sym granted))
stands_by (Some connection) stands granted h = h

each_with : (P Q R : ℕ × BrickReq → Type 0) → ((r : ℕ × BrickReq) → P r → Q r → R r) → (list : List (ℕ × BrickReq)) → Each P list → Each Q list → Each R list
each_with P Q R h [] p q = tt
each_with P Q R h (r ∷ rs) p q = (h r p.0 q.0, each_with P Q R h rs p.1 q.1)

module _ (size : Size) (m : State) (t : ℕ) (txn : Txn) (wave : Wave) (ledger : Ledger Cell) (live : Mask) (last : List ℕ) (after : IsAfter size m t txn wave ledger live last) where
  -- ---- grants

  current_is : (k connection : ℕ) → k < size.replicas → is_current (link_of m t k) connection ≡ (names live k && slice_index last k == connection)
  current_is k connection low =
      let opened : is_current (link_of m t k) connection ≡ (names live k && connection == (link_of m t k).last) = ap (λ (b : Bool). b && connection == (link_of m t k).last) (after.links.opened k low) in
      opened
      ∙ ap (λ (n : ℕ). names live k && connection == n) (after.links.lasts k low)
      ∙ ap (λ (b : Bool). names live k && b) (swapped connection (slice_index last k))

  -- a lock is held by the machine's record exactly where it is held by the transaction's
  granted_is : (k : ℕ) → k < size.replicas → open_grants m t k ≡ stands txn.locks k live last
  granted_is k low = by ((m.txns t).grants k) (after.itself.grants k) where
    by : (g : Option Grant) → connection_of g ≡ slice_index_or txn.locks.at k None → is_granted g m t k ≡ stands txn.locks k live last
    by None e = ap (λ (o : Option ℕ). is_open o k live last) e
    by (Some grant) e =
        let held : (names live k && slice_index last k == grant.connection) ≡ stands txn.locks k live last = ap (λ (o : Option ℕ). is_open o k live last) e in
        current_is k grant.connection low ∙ held

  has_grant : (k : ℕ) → k < size.replicas → stands txn.locks k live last ≡ true → HasGrant m t k
  has_grant k low h = by ((m.txns t).grants k) refl (granted_is k low ∙ h) where
    by : (g : Option Grant) → (m.txns t).grants k ≡ g → is_granted g m t k ≡ true → HasGrant m t k
    by None e holds = absurd (true≢false (sym holds))
    by (Some grant) e holds = record { grant = grant; granted = e; still_open = holds }

  -- ---- members

  not_out : (k : ℕ) → k < size.replicas → flag (alive txn) k ≡ true → (m.txns t).out k ≡ false
  not_out k low used = by ((m.txns t).out k) refl where
    in_use : is_out txn.outs k ≡ false
    in_use = not-true (is_out txn.outs k) (and_parts (nat_lt k txn.size.n) (not (is_out txn.outs k)) (flags_at (λ j. nat_lt j txn.size.n && not (is_out txn.outs j)) k used)).1

    by : (b : Bool) → (m.txns t).out k ≡ b → b ≡ false
    by true e = absurd (true≢false (sym (after.itself.outs k low e) ∙ in_use))
    by false e = refl

  module _ (k : ℕ) (asked : is_asked txn.wave k ≡ true) (low : k < size.replicas) where
    member : asks_members txn.phase ≡ true → AreReached txn → flag (alive txn) k ≡ true → stands txn.locks k live last ≡ true → IsMember size m t k
    member members reaches used holds = record {
      replica = low;
      reached = (after.itself.shown members).reached k low ∙ reaches k used;
      not_out = not_out k low used;
      answered = after.itself.answered k asked;
      grant = has_grant k low holds;
    }

    next : asks_members txn.phase ≡ true → asks_at_once txn.phase ≡ true → AreReached txn → flag (alive txn) k ≡ true → stands txn.locks k live last ≡ true → IsNext size m t k
    next members once reaches used holds = record { member = member members reaches used holds; is_left = after.itself.is_left once k asked }

    missing : asks_at_once txn.phase ≡ true → ((m.txns t).stage ≡ Stage.Polling → ⊥) → stands txn.locks k live last ≡ false → MayMiss m t k
    missing once apart lost = record {
      is_left = after.itself.is_left once k asked;
      answered = after.itself.answered k asked;
      lost = inr (granted_is k low ∙ lost, λ e. absurd (apart e));
      released = λ e. granted_is k low ∙ lost;
    }

    poll : asks_at_once txn.phase ≡ true → (m.txns t).stage ≡ Stage.Polling → flag (alive txn) k ≡ true → names live k ≡ true → MayPoll size m t k
    poll once stage used connected = record {
      replica = low;
      turn = stage;
      is_left = after.itself.is_left once k asked;
      not_out = not_out k low used;
      answered = after.itself.answered k asked;
      connected = after.links.opened k low ∙ connected;
    }

  -- ---- cells and changes

  own_cells : txn.settles ≡ None → cells_of_job txn.job ≡ txn.cells
  own_cells own =
      let own_is : work_of txn.settles ≡ Work.Own = ap work_of own in
      let works : (m.txns t).work ≡ Work.Own = after.itself.work_is ∙ own_is in
      let locked : cells_of_work m.changes (m.txns t) (m.txns t).work ≡ cells_of_job (m.txns t).job = ap (λ (w : Work). cells_of_work m.changes (m.txns t) w) works in
      ap cells_of_job (sym after.itself.job_is) ∙ sym locked ∙ after.itself.cells

  settled_cells : (change : ℕ) → txn.settles ≡ Some change → txn.cells ≡ (m.changes change).cells
  settled_cells change is =
      let settles : work_of txn.settles ≡ Work.Settles change = ap work_of is in
      let works : (m.txns t).work ≡ Work.Settles change = after.itself.work_is ∙ settles in
      let locked : cells_of_work m.changes (m.txns t) (m.txns t).work ≡ (m.changes change).cells = ap (λ (w : Work). cells_of_work m.changes (m.txns t) w) works in
      sym after.itself.cells ∙ locked

  drawn_cells : (change : ℕ) → own_in txn.phase ≡ Some change → txn.settles ≡ None → txn.cells ≡ (m.changes change).cells
  drawn_cells change at own =
      let drawn : cells_of_job txn.job ≡ (m.changes change).cells = ap cells_of_job (after.itself.own change at).is in
      sym (own_cells own) ∙ drawn

  drawn_op : (change : ℕ) (op : ℕ × StoreOp) → own_in txn.phase ≡ Some change → ◌≡◌ {A = Option (ℕ × StoreOp)} (change_op txn.job) (Some op) → op.1 ≡ (m.changes change).op
  drawn_op change op at is =
      let drawn : IsDrawnFor (m.changes change) txn.job = after.itself.own change at in
      let other : ◌≡◌ {A = Option (ℕ × StoreOp)} (change_op txn.job) (Some (drawn.fd, (m.changes change).op)) = ap change_op drawn.is in
      let pair : ◌≡◌ {A = ℕ × StoreOp} op (drawn.fd, (m.changes change).op) = cc in
      ap (λ (p : ℕ × StoreOp). p.1) pair

  drawn_apart : (change : ℕ) → txn.phase ≡ phase.Writing change → AreLeftAlone m t (cells_of (births (m.changes change).op))
  drawn_apart change e = subst (λ (j : Job). AreBirthsApart m t j) (after.itself.own change (ap own_in e)).is (after.apart change e)

  -- ---- one request

  abbrev Meets : ℕ → BrickReq → Type 0
  Meets k r = MeetsGuard size m t txn live last k r

  stage_in : (p : Phase) → txn.phase ≡ p → IsStageOf p txn (m.txns t).stage
  stage_in p e = subst (λ (q : Phase). IsStageOf q txn (m.txns t).stage) e after.itself.stage

  module _ (k : ℕ) (asked : is_asked txn.wave k ≡ true) (low : k < size.replicas) where
    -- no member of a lock phase is asked
    plain : (p : Phase) (r : BrickReq) → txn.phase ≡ p → asks_members p ≡ false → MayBeAsked size m t k (ask_of txn.settles r) → Meets k r
    plain p r e others guard = record { asked = λ h. guard; missed = λ members once h. absurd (true≢false (sym members ∙ ap asks_members e ∙ others)) }

    -- a member is asked where it has not lost its lock, and else missed
    of_member : (r : BrickReq) → asks_members txn.phase ≡ true → HasGranted txn k → (stands txn.locks k live last ≡ true → MayBeAsked size m t k (ask_of txn.settles r))
        → (asks_at_once txn.phase ≡ true → stands txn.locks k live last ≡ false → MayMiss m t k) → Meets k r
    of_member r members granted guard miss = record {
      asked = λ holds. guard (stands_by (slice_index_or txn.locks.at k None) (stands txn.locks k live last) granted (holds members));
      missed = λ ms once lost. miss once (or_parts (is_none (slice_index_or txn.locks.at k None)) (stands txn.locks k live last) lost).1;
    }

    locked : (at : ℕ) (r : BrickReq) → txn.phase ≡ phase.Locking at → IsOfPhase (phase.Locking at) txn k r → AsksIn (phase.Locking at) txn wave ledger live last k → Meets k r
    locked at r e fits asks = plain (phase.Locking at) r e refl (subst (λ (q : BrickReq). MayBeAsked size m t k (ask_of txn.settles q)) (sym fits.1) guard) where
      stage : (m.txns t).stage ≡ Stage.Locking txn.cells (is_read txn.job && is_none txn.settles) at
      stage = stage_in (phase.Locking at) e

      guard : MayLock size m t k (is_read txn.job && is_none txn.settles) txn.cells
      guard = record {
        replica = low;
        turn = stage ∙ ap (λ (j : ℕ). Stage.Locking txn.cells (is_read txn.job && is_none txn.settles) j) (sym fits.0);
        not_out = not_out k low asks.0;
        answered = after.itself.answered k asked;
        connected = after.links.opened k low ∙ asks.1;
      }

    unlocked : (p : Phase) (r : BrickReq) → txn.phase ≡ p → asks_members p ≡ false → asks_at_once p ≡ true → (m.txns t).stage ≡ Stage.Unlocking → r ≡ req.Unlock txn.call → stands txn.locks k live last ≡ true → Meets k r
    unlocked p r e others once stage is holds = plain p r e others (subst (λ (q : BrickReq). MayBeAsked size m t k (ask_of txn.settles q)) (sym is) guard) where
      guard : MayUnlock size m t k
      guard = record {
        replica = low;
        turn = stage;
        is_left = after.itself.is_left (ap asks_at_once e ∙ once) k asked;
        answered = after.itself.answered k asked;
        grant = has_grant k low holds;
      }

    fetched : (p : Phase) (r : BrickReq) (c fd : ℕ) (cell : Cell) → txn.phase ≡ p → asks_members p ≡ true → asks_at_once p ≡ false → (m.txns t).stage ≡ Stage.Locked
        → AreReached txn → txn.settles ≡ None → kind_of txn.job ≡ kind.Read → HasGranted txn k → slice_get txn.cells c ≡ Some cell → r ≡ req.Fetch fd cell
        → flag (alive txn) k ≡ true → flag (sound_on txn c) k ≡ true → Meets k r
    fetched p r c fd cell e members once stage reaches own reads granted at is used sound =
        of_member r (ap asks_members e ∙ members) granted
        (λ holds. subst (λ (q : BrickReq). MayBeAsked size m t k (ask_of txn.settles q)) (sym is) (inl (guard holds)))
        (λ all lost. absurd (true≢false (sym all ∙ ap asks_at_once e ∙ once)))
      where
        read : IsReadJob txn.job
        read = read_of txn.job reads

        named : txn.cells ≡ read.cells
        named =
            let own_are : cells_of_job txn.job ≡ read.cells = ap cells_of_job read.is in
            sym (own_cells own) ∙ own_are

        guard : stands txn.locks k live last ≡ true → MayRead size m t k cell
        guard holds = record {
          member = member k asked low (ap asks_members e ∙ members) reaches used holds;
          turn = stage;
          work_is = (let works : work_of txn.settles ≡ Work.Own = ap work_of own in after.itself.work_is ∙ works);
          cells = read.cells;
          fd = read.fd;
          dir = read.dir;
          job_is = after.itself.job_is ∙ read.is;
          of_job = subst (λ (cells : List Cell). has_cell cells cell ≡ true) named (has_at txn.cells c cell at);
          sound = sound_in size (phase_of m t) txn (after.itself.shown (ap asks_members e ∙ members)) after.itself.replicas after.itself.quorum c k cell at sound;
        }

    -- a request to several members
    to_members : (p : Phase) (r : BrickReq) (stage : Stage) → txn.phase ≡ p → asks_members p ≡ true → asks_at_once p ≡ true → (m.txns t).stage ≡ stage → (stage ≡ Stage.Polling → ⊥)
        → AreReached txn → flag (alive txn) k ≡ true → HasGranted txn k → (IsNext size m t k → MayBeAsked size m t k (ask_of txn.settles r)) → Meets k r
    to_members p r stage e members once is apart reaches used granted guard =
        of_member r (ap asks_members e ∙ members) granted
        (λ holds. guard (next k asked low (ap asks_members e ∙ members) (ap asks_at_once e ∙ once) reaches used holds))
        (λ all lost. missing k asked low all (λ polls. apart (sym is ∙ polls)) lost)

    by_phase : (p : Phase) (r : BrickReq) → txn.phase ≡ p → WorksIn p txn → IsOfPhase p txn k r → AsksIn p txn wave ledger live last k → Meets k r
    by_phase (phase.Locking at) r e works fits asks = locked at r e fits asks
    by_phase (phase.Unlocking how) r e works fits asks = unlocked (phase.Unlocking how) r e refl refl (stage_in (phase.Unlocking how) e) fits.1 asks
    by_phase (phase.Fetching place from contents) r e works fits asks =
        fetched (phase.Fetching place from contents) r (length contents) (fd_of txn.job) fits.1.cell e refl refl (stage_in (phase.Fetching place from contents) e) works.0 works.1.0 works.1.1 fits.0 fits.1.at fits.1.is asks.0 asks.1
    by_phase (phase.Copying sinks rest) r e works fits asks = absurd fits
    by_phase (phase.Marking change) r e works fits asks =
        to_members (phase.Marking change) r (Stage.Marking change) e refl refl (stage_in (phase.Marking change) e) (λ h. absurd cc) works.0 asks fits.0
        (λ is. subst (λ (q : BrickReq). MayBeAsked size m t k (ask_of txn.settles q)) (sym fits.1)
        (record { next = is; turn = stage_in (phase.Marking change) e; cells_are = drawn_cells change (ap own_in e) works.1 }))
    by_phase (phase.Writing change) r e works fits asks =
        to_members (phase.Writing change) r (Stage.Applying change) e refl refl (stage_in (phase.Writing change) e) (λ h. absurd cc) works.0 asks.0 fits.0
        (λ is. subst (λ (q : BrickReq). MayBeAsked size m t k (ask_of txn.settles q)) (sym fits.1.is)
        (inl (record {
          next = is;
          turn = stage_in (phase.Writing change) e;
          op_is = drawn_op change fits.1.op (ap own_in e) fits.1.at;
          unsettled = after.unsettled change (unsettled_of txn change) asks.1 refl;
          births_apart = subst (λ (op : StoreOp). AreLeftAlone m t (cells_of (births op))) (sym (drawn_op change fits.1.op (ap own_in e) fits.1.at)) (drawn_apart change e);
        })))
    by_phase (phase.Posting change adopted) r e works fits asks =
        to_members (phase.Posting change adopted) r (Stage.Posting change) e refl refl (stage_in (phase.Posting change adopted) e) (λ h. absurd cc) works.0 asks.0 fits.0
        (λ is. subst (λ (q : BrickReq). MayBeAsked size m t k (ask_of txn.settles q)) (sym fits.1.is)
        (record {
          next = is;
          turn = stage_in (phase.Posting change adopted) e;
          cells_are = drawn_cells change (ap own_in e) works.1;
          accused_are = accuses_outside size fits.1.accused txn.size.n (alive txn) (m.changes change).done fits.1.small fits.1.exactly txn.size.few after.itself.replicas
              (λ j below. asks.1 j (omega (arith, below, txn.size.few)) ∙ sym (after.done change adopted e j (omega (arith, below, after.itself.replicas))));
        }))
    by_phase (phase.Settling verdict) r e works fits asks =
        to_members (phase.Settling verdict) r (Stage.Settling verdict.change (flag verdict.group) verdict.held) e refl refl (stage_in (phase.Settling verdict) e) (λ h. absurd cc) works.0 asks fits.0
        (λ is. subst (λ (q : BrickReq). MayBeAsked size m t k (ask_of txn.settles q)) (sym fits.1.is)
        (subst (λ (s : Option ℕ). MayBeAsked size m t k (settle_of s txn.cells fits.1.accused)) (sym works.1)
        (record {
          next = is;
          group = flag verdict.group;
          adopts = verdict.held;
          turn = stage_in (phase.Settling verdict) e;
          cells_are = settled_cells verdict.change works.1;
          accused_are = accuses_outside size fits.1.accused txn.size.n verdict.group (flag verdict.group) fits.1.small fits.1.exactly txn.size.few after.itself.replicas (λ j below. refl);
        })))
    by_phase phase.Bearing r e works fits asks =
        to_members phase.Bearing r Stage.Bearing e refl refl (stage_in phase.Bearing e) (λ h. absurd cc) works asks fits.0
        (λ is. subst (λ (q : BrickReq). MayBeAsked size m t k (ask_of txn.settles q)) (sym fits.1.is)
        (inr (record {
          next = is;
          turn = stage_in phase.Bearing e;
          cells = (birth_of txn.job fits.1.op fits.1.at).cells;
          job_is = after.itself.job_is ∙ (birth_of txn.job fits.1.op fits.1.at).is;
          no_number = refl;
        })))
    by_phase phase.Opening r e works fits asks =
        plain phase.Opening r e refl (subst (λ (q : BrickReq). MayBeAsked size m t k (ask_of txn.settles q)) (sym fits.is)
        (record {
          poll = poll k asked low (ap asks_at_once e) (stage_in phase.Opening e) asks.0 asks.1;
          fd = fits.fd;
          gfid = fits.gfid;
          job_is = after.itself.job_is ∙ open_of txn.job fits.fd fits.gfid fits.at;
        }))
    by_phase (phase.Listing all) r e works fits asks =
        plain (phase.Listing all) r e refl (subst (λ (q : BrickReq). MayBeAsked size m t k (ask_of txn.settles q)) (sym fits)
        (record { poll = poll k asked low (ap asks_at_once e) (stage_in (phase.Listing all) e) asks.0 asks.1; job_is = after.itself.job_is ∙ index_of txn.job works }))
    by_phase phase.Over r e works fits asks = absurd fits

-- ---- all requests of a turn

-- where requests are sent, they wait for their answers
abbrev pub IsAskingFor : Txn → Need → Type 0
IsAskingFor txn (need.Send list) = is_asking txn ≡ true
IsAskingFor txn (need.Copy job rows) = Unit {0}
IsAskingFor txn (need.Reply reply) = Unit {0}
IsAskingFor txn need.Wait = Unit {0}

asked_low : (txn : Txn) (k : ℕ) → is_asking txn ≡ true → is_asked txn.wave k ≡ true → k < txn.size.n
asked_low txn k asking asked =
    let a = and_parts (is_waiting txn.size.n txn.wave) (are_granted_within txn.size.n txn.locks && suits txn.phase txn) asking in
    within_at txn.size.n k txn.wave.asked (and_parts (not (is_over txn.wave)) (is_within txn.size.n txn.wave.asked) a.0).1 asked

pub all_met : (txn : Txn) (turned : Need) (wave : Wave) (ledger : Ledger Cell) (live : Mask) (last : List ℕ) → IsAskingFor txn turned → Sends txn turned → Works txn → AreAsked txn turned wave ledger live last → AreMet txn turned wave ledger live last
all_met txn (need.Send list) wave ledger live last asking sends works asks = λ size m t after.
    each_with (λ (r : ℕ × BrickReq). IsOfPhase txn.phase txn r.0 r.1) (λ (r : ℕ × BrickReq). Asks txn wave ledger live last r.0) (λ (r : ℕ × BrickReq). MeetsGuard size m t txn live last r.0 r.1)
    (λ r fits a. by_phase size m t txn wave ledger live last after r.0 a.0 (omega (arith, asked_low txn r.0 asking a.0, after.itself.replicas)) txn.phase r.1 refl works fits a.1) list sends.1 asks
all_met txn (need.Copy job rows) wave ledger live last asking sends works asks = tt
all_met txn (need.Reply reply) wave ledger live last asking sends works asks = tt
all_met txn need.Wait wave ledger live last asking sends works asks = tt
