-- A state in which a transaction of a set of one replica posts.
use Rattle.std.proofs.Common.{◌≡◌, ◌∙◌, ℕ, zero, suc, ◌<◌, inl, true, false, ◌||◌, ◌==◌, if◌then◌else◌, List, [], ◌∷◌, Some, None, is_some, refl, sym, ap, subst, arith}
use Rattle.std.specs.Prelude.{slice_get, slice_index, slice_index_or}
use Rattle.std.specs.Ordering.{is_eq, nat_cmp}
use Rattle.std.specs.FinMap.{nat_cmp-IsAntisymmetric}
use Rattle.std.specs.declared.cmp.Ordering.{Ordering}
use Rattle.std.specs.declared.cmp.Ordering.TheVariants.{Less, Equal, Greater}
use Rattle.std.proofs.lemmas.Bool.{ne_eqb, true≢false}
use Rattle.fop_types.specs.Cells.{root, meta_cell}
use Rattle.fop_types.specs.Orders.{cell_cmp}
use Rattle.fop_types.specs.declared.cells.Cell.{Cell}
use Rattle.fop_types.specs.declared.contents.Mask.{Mask}
use Rattle.fop_types.specs.declared.jobs.Job.{Job}
use Rattle.fop_types.specs.declared.jobs.Job.TheVariants as job
use Rattle.fop_types.specs.declared.jobs.SetPlan.{SetPlan}
use Rattle.fop_types.specs.declared.messages.BrickRep.TheVariants as rep
use Rattle.fop_types.specs.declared.messages.DoneArm.TheVariants as arm
use Rattle.fop_types.specs.declared.store_ops.StoreOp.{StoreOp}
use Rattle.fop_types.specs.declared.store_ops.StoreOp.TheVariants as op
use Rattle.fop_types.proofs.MapLemmas.{cell_exact}
use Rattle.afr_ledger.specs.Changes.{numbered}
use Rattle.afr_ledger.specs.Ledger.{State as Ledger}
use Rattle.afr_ledger.specs.declared.unsettled.Unsettled.{Unsettled}
use Rattle.afr_machine.specs.Changes.{is_unsettled}
use Rattle.afr_machine.specs.Copies.{rows_of, root_alone}
use Rattle.afr_machine.specs.Phases.{IsReadyIn, shown_in}
use Rattle.afr_machine.specs.Replicas.{Size}
use Rattle.afr_machine.specs.Requests.{Ask, Control, Sender, Output, Answer}
use Rattle.afr_machine.specs.States.{State, start, phase_of, link_of}
use Rattle.afr_machine.specs.Steps.{Step, IsReached, Start, Further, after, KeepsApart}
use Rattle.afr_machine.specs.Touching.{has_cell}
use Rattle.afr_machine.specs.Transactions.{Grant, Work, is_over}
use Rattle.afr_machine.specs.Turns.{Turn, members}
use Rattle.afr_phases.specs.declared.wave.Wave.{Wave}
use Rattle.afr_phases.specs.Flags.{flag, names, no_flags}
use Rattle.afr_phases.specs.Outs.{is_out, no_outs}
use Rattle.afr_phases.specs.Shown.{shown_at}
use Rattle.afr_phases.specs.Waves.{is_asked}
use Rattle.afr_transaction.specs.declared.phase.Phase.TheVariants as phase
use Rattle.afr_transaction.specs.declared.txn.Txn.{Txn}
use Rattle.afr_phases.specs.Locking.{without_lost}
use Rattle.afr_transaction.specs.declared.need.Need.{Need}
use Rattle.afr_transaction.specs.Begins.{fresh, started}
use Rattle.afr_transaction.specs.Parts.{is_unsound}
use Rattle.afr_transaction.specs.Reads.{lacks, sound_on}
use Rattle.txn_laws.specs.Runs.{AreEvents, Event, Answer as LawAnswer}
use Rattle.txn_machine.specs.Guards.{IsAfter}
use Rattle.txn_machine.specs.Records.{connection_of, own_in, IsDrawnFor, IsRecordOf}
use Rattle.txn_machine.specs.Witness.{PostIsMet, after_run}

abbrev one : Size
one = record { replicas = 1; quorum = 1 }

abbrev cells : List Cell
cells = meta_cell root ∷ []

abbrev the_op : StoreOp
the_op = op.SetMode root 0

abbrev the_job : Job
the_job = job.Change cells 0 the_op None

abbrev me : Sender
me = record { txn = 1; graph = 1; connection = 1 }

-- ---- a begin and a connection

abbrev m1 : State
m1 = after one start (Step.Turns 1 (Turn.Begins 1 the_job))

r1 : IsReached one m1
r1 =
    Further start (Step.Turns 1 (Turn.Begins 1 the_job)) Start
    (refl, ((omega arith, omega arith, ((omega arith, omega arith), tt), (tt, tt)), omega arith, ((omega arith, omega arith), omega arith), refl))

abbrev m2 : State
m2 = after one m1 (Step.Connects 0 1)

r2 : IsReached one m2
r2 = Further m1 (Step.Connects 0 1) r1 (omega arith, refl)

abbrev m3 : State
m3 = after one m2 (Step.Steers 0)

r3 : IsReached one m3
r3 = Further m2 (Step.Steers 0) r2 (record { steering = Control.Connect 1; rest = []; front = refl })

abbrev m4 : State
m4 = after one m3 (Step.HandsIn 0)

r4 : IsReached one m4
r4 = Further m3 (Step.HandsIn 0) r3 (record { first = Output.Connected 1; rest = []; front = refl })

-- ---- its lock

abbrev m5 : State
m5 = after one m4 (Step.Turns 1 (Turn.LocksFor Work.Own))

r5 : IsReached one m5
r5 = Further m4 (Step.Turns 1 (Turn.LocksFor Work.Own)) r4 (record { turn = refl; locks = refl; unmarked = refl; apart = λ h. refl })

abbrev m6 : State
m6 = after one m5 (Step.Asks 1 0 false (Ask.Lock false cells))

r6 : IsReached one m6
r6 = Further m5 (Step.Asks 1 0 false (Ask.Lock false cells)) r5 (record { replica = omega arith; turn = refl; not_out = refl; answered = refl; connected = refl }, λ h. absurd (true≢false (sym h)))

abbrev m7 : State
m7 = after one m6 (Step.Serves 0)

r7 : IsReached one m7
r7 = Further m6 (Step.Serves 0) r6 (record { by = me; asked = Ask.Lock false cells; rest = []; front = refl; served = refl })

abbrev m8 : State
m8 = after one m7 (Step.HandsIn 0)

r8 : IsReached one m8
r8 = Further m7 (Step.HandsIn 0) r7 (record { first = Output.Answered me (Ask.Lock false cells) (Answer.Rows (rows_of root_alone)); rest = []; front = refl })

-- of the one replica
only_one : (P : ℕ → Type 0) → P 0 → (k : ℕ) → k < 1 → P k
only_one P h zero low = h
only_one P h (suc k) low = absurd (omega arith)

abbrev m9 : State
m9 = after one m8 (Step.Turns 1 Turn.Reaches)

r9 : IsReached one m9
r9 =
    Further m8 (Step.Turns 1 Turn.Reaches) r8
    (record { cells = cells; shared = false; turn = refl; answered = record { waits = only_one (λ k. (m8.txns 1).waits k ≡ false) refl; is_left = only_one (λ k. (m8.txns 1).left k ≡ false) refl }; many = omega arith })

-- ---- its mark

the_cell : (cell : Cell) → has_cell cells cell ≡ true → cell ≡ meta_cell root
the_cell cell h = by (cell_cmp cell (meta_cell root)) refl h where
  by : (o : Ordering) → cell_cmp cell (meta_cell root) ≡ o → (is_eq o || false) ≡ true → cell ≡ meta_cell root
  by Less e i = absurd cc
  by Equal e i = cell_exact cell (meta_cell root) e
  by Greater e i = absurd cc

abbrev m10 : State
m10 = after one m9 (Step.Turns 1 Turn.Marks)

sound_here : IsReadyIn one (phase_of m9 1) (meta_cell root) 0
sound_here = inl (record { row = rows_of root_alone (meta_cell root); reached = refl; present = refl; trusts_itself = refl; few_accusers = omega arith })

r10 : IsReached one m10
r10 =
    Further m9 (Step.Turns 1 Turn.Marks) r9
    (record {
      cells = cells;
      fd = 0;
      op = the_op;
      effect = None;
      job_is = refl;
      work_is = refl;
      copied = tt;
      unmarked = refl;
      answered = record { waits = only_one (λ k. (m9.txns 1).waits k ≡ false) refl; is_left = only_one (λ k. (m9.txns 1).left k ≡ false) refl };
      many = omega arith;
      ready = only_one (λ k. members m9 1 k ≡ true → (cell : Cell) → has_cell cells cell ≡ true → IsReadyIn one (phase_of m9 1) cell k) (λ is cell h. subst (λ (c : Cell). IsReadyIn one (phase_of m9 1) c 0) (sym (the_cell cell h)) sound_here);
      apart = refl;
    })

-- its grant, and whom it may ask
abbrev my_grant : Grant
my_grant = record { connection = 1; shared = false; cells = cells; rows = rows_of root_alone }

abbrev m11 : State
m11 = after one m10 (Step.Asks 1 0 false (Ask.Mark 1 cells))

r11 : IsReached one m11
r11 =
    Further m10 (Step.Asks 1 0 false (Ask.Mark 1 cells)) r10 (
      record {
        next = record { member = record { replica = omega arith; reached = refl; not_out = refl; answered = refl; grant = record { grant = my_grant; granted = refl; still_open = refl } }; is_left = refl };
        turn = refl;
        cells_are = refl;
      },
      λ h. absurd (true≢false (sym h)),
    )

abbrev m12 : State
m12 = after one m11 (Step.Serves 0)

r12 : IsReached one m12
r12 = Further m11 (Step.Serves 0) r11 (record { by = me; asked = Ask.Mark 1 cells; rest = []; front = refl; served = refl })

abbrev m13 : State
m13 = after one m12 (Step.HandsIn 0)

r13 : IsReached one m13
r13 = Further m12 (Step.HandsIn 0) r12 (record { first = Output.Answered me (Ask.Mark 1 cells) Answer.Done; rest = []; front = refl })

-- ---- its op

abbrev m14 : State
m14 = after one m13 (Step.Unsettles 1)

others_over : (other : ℕ) → (other == 1) ≡ false → is_over (m13.txns other).stage ≡ true
others_over other e = rw e refl

keeps_apart : KeepsApart m13 1 cells
keeps_apart other ne over first settled = absurd (true≢false (sym (others_over other (ne_eqb other 1 ne)) ∙ over))

r14 : IsReached one m14
r14 =
    Further m13 (Step.Unsettles 1) r13
    (record {
      change = 1;
      turn = refl;
      answered = record { waits = only_one (λ k. (m13.txns 1).waits k ≡ false) refl; is_left = only_one (λ k. (m13.txns 1).left k ≡ false) refl };
      many = omega arith;
      alone = refl;
      apart = keeps_apart;
      present = λ cell h. subst (λ (c : Cell). is_some (m13.adopted c) ≡ true) (sym (the_cell cell h)) refl;
      as_first = tt;
    })

abbrev m15 : State
m15 = after one m14 (Step.Asks 1 0 false (Ask.Op 1 the_op))

r15 : IsReached one m15
r15 =
    Further m14 (Step.Asks 1 0 false (Ask.Op 1 the_op)) r14 (
      inl (record {
        next = record { member = record { replica = omega arith; reached = refl; not_out = refl; answered = refl; grant = record { grant = my_grant; granted = refl; still_open = refl } }; is_left = refl };
        turn = refl;
        op_is = refl;
        unsettled = refl;
        births_apart = λ other ne holds. refl;
      }),
      λ h. absurd (true≢false (sym h)),
    )

abbrev m16 : State
m16 = after one m15 (Step.Serves 0)

r16 : IsReached one m16
r16 = Further m15 (Step.Serves 0) r15 (record { by = me; asked = Ask.Op 1 the_op; rest = []; front = refl; served = refl })

abbrev m17 : State
m17 = after one m16 (Step.HandsIn 0)

r17 : IsReached one m17
r17 = Further m16 (Step.HandsIn 0) r16 (record { first = Output.Answered me (Ask.Op 1 the_op) Answer.Done; rest = []; front = refl })

-- ---- its post

abbrev m18 : State
m18 = after one m17 (Step.Turns 1 Turn.Posts)

r18 : IsReached one m18
r18 =
    Further m17 (Step.Turns 1 Turn.Posts) r17
    (record { change = 1; turn = refl; answered = record { waits = only_one (λ k. (m17.txns 1).waits k ≡ false) refl; is_left = only_one (λ k. (m17.txns 1).left k ≡ false) refl }; many = omega arith })

-- the transaction as it sends its post
abbrev the_txn : Txn
the_txn = record {
  set = 0;
  size = record { n = 1; q = 1; odd = refl; few = omega arith; quorum = refl };
  bricks = 0 ∷ [];
  call = 1;
  job = the_job;
  outs = no_outs;
  locks = record { at = Some 1 ∷ None ∷ None ∷ None ∷ None ∷ [] };
  wave = record { asked = true ∷ false ∷ false ∷ false ∷ false ∷ []; confirmed = no_flags };
  cells = cells;
  settles = None;
  shown = record { rows = Some (rows_of root_alone (meta_cell root) ∷ []) ∷ None ∷ None ∷ None ∷ None ∷ []; reached = true ∷ false ∷ false ∷ false ∷ false ∷ [] };
  records = [];
  phase = phase.Posting 1 None;
}

-- who confirmed the op, and the ledger
abbrev op_wave : Wave
op_wave = record { asked = no_flags; confirmed = true ∷ false ∷ false ∷ false ∷ false ∷ [] }

abbrev the_ledger : Ledger Cell
the_ledger = record { drawn = 1; unsettled = (1, record { change = 1; set = 0; cells = cells; effect = None }) ∷ []; history = [] }

-- the run that leads to it: each answer is Done
abbrev the_set : SetPlan
the_set = record { number = 0; name = []; bricks = 0 ∷ []; q = 1; clients = [] ∷ [] }

abbrev live : Mask
live = record { 0 = 1 }

abbrev last : List ℕ
last = 1 ∷ []

abbrev at_first : Ledger Cell
at_first = record { drawn = 0; unsettled = []; history = [] }

abbrev with_one : Ledger Cell
with_one = record { drawn = 1; unsettled = []; history = [] }

abbrev events : List Event
events =
    LawAnswer 0 0 (rep.Done (arm.Rows (rows_of root_alone (meta_cell root) ∷ []))) at_first live last
    ∷ LawAnswer 0 1 (rep.Done arm.Nothing) with_one live last ∷ LawAnswer 0 2 (rep.Done arm.Nothing) the_ledger live last ∷ []

abbrev begun : Txn × Need
begun = started (fresh the_txn.size the_set 1 the_job) at_first live last

are_events : AreEvents events begun.0 begun.1
unfolding is_unsound sound_on lacks without_lost
are_events = ((tt, refl), ((tt, refl), ((tt, refl), tt)))

run_is : after_run events begun.0 ≡ the_txn
unfolding is_unsound sound_on lacks without_lost
run_is = refl

grants_are : (k : ℕ) → connection_of ((m18.txns 1).grants k) ≡ slice_index_or the_txn.locks.at k None
grants_are zero = refl
grants_are (suc zero) = refl
grants_are (suc (suc zero)) = refl
grants_are (suc (suc (suc zero))) = refl
grants_are (suc (suc (suc (suc zero)))) = refl
grants_are (suc (suc (suc (suc (suc k))))) = rw (ne_eqb (suc (suc (suc (suc (suc k))))) 0 (λ e. absurd cc)) refl

asked_one : (k : ℕ) → is_asked the_txn.wave k ≡ true → k ≡ 0
asked_one zero h = refl
asked_one (suc zero) h = absurd (true≢false (sym h))
asked_one (suc (suc zero)) h = absurd (true≢false (sym h))
asked_one (suc (suc (suc zero))) h = absurd (true≢false (sym h))
asked_one (suc (suc (suc (suc zero)))) h = absurd (true≢false (sym h))
asked_one (suc (suc (suc (suc (suc k))))) h = absurd (true≢false (sym h))

rows_are : (c : ℕ) (cell : Cell) → slice_get cells c ≡ Some cell → shown_in (phase_of m18 1) cell 0 ≡ shown_at the_txn.shown c 0
rows_are zero cell h = let same : meta_cell root ≡ cell = cc in subst (λ (x : Cell). shown_in (phase_of m18 1) x 0 ≡ shown_at the_txn.shown 0 0) same refl
rows_are (suc c) cell h = absurd cc

the_number : (u : ℕ) → own_in the_txn.phase ≡ Some u → 1 ≡ u
the_number u e = cc

recorded : IsRecordOf one m18 1 the_txn
recorded = record {
  replicas = refl;
  quorum = refl;
  job_is = refl;
  work_is = refl;
  stage = refl;
  cells = refl;
  outs = only_one (λ k. (m18.txns 1).out k ≡ true → is_out the_txn.outs k ≡ true) (λ h. absurd (true≢false (sym h)));
  grants = grants_are;
  answered = λ k h. subst (λ (j : ℕ). (m18.txns 1).waits j ≡ false) (sym (asked_one k h)) refl;
  is_left = λ once k h. subst (λ (j : ℕ). (m18.txns 1).left j ≡ true) (sym (asked_one k h)) refl;
  shown = λ members. record {
    reached = only_one (λ k. (phase_of m18 1).reached k ≡ flag the_txn.shown.reached k) refl;
    rows = λ k c cell low at. only_one (λ (j : ℕ). shown_in (phase_of m18 1) cell j ≡ shown_at the_txn.shown c j) (rows_are c cell at) k low;
  };
  own = λ u e. subst (λ (v : ℕ). IsDrawnFor (m18.changes v) the_job) (the_number u e) (record { fd = 0; is = refl });
}

unsettled_is : (u : ℕ) (change : Unsettled Cell) → numbered u the_ledger.unsettled ≡ Some change → is_unsettled (m18.changes u).verdict ≡ true
unsettled_is u change h = by (nat_cmp u 1) refl h where
  by : (o : Ordering) → nat_cmp u 1 ≡ o → (if is_eq o then Some (record { change = 1; set = 0; cells = cells; effect = None }) else None) ≡ Some change → is_unsettled (m18.changes u).verdict ≡ true
  by Less e i = absurd cc
  by Equal e i = subst (λ (v : ℕ). is_unsettled (m18.changes v).verdict ≡ true) (sym (nat_cmp-IsAntisymmetric u 1 e)) refl
  by Greater e i = absurd cc

after_post : IsAfter one m18 1 the_txn op_wave the_ledger live last
after_post = record {
  itself = recorded;
  links = record {
    opened = only_one (λ k. (link_of m18 1 k).is_open ≡ names live k) refl;
    lasts = only_one (λ k. (link_of m18 1 k).last ≡ slice_index last k) refl;
  };
  unsettled = λ u change h is. unsettled_is u change h;
  done = λ change adopted e k low. subst (λ (v : ℕ). (m18.changes v).done k ≡ flag op_wave.confirmed k) (the_number change (ap own_in e)) (only_one (λ (j : ℕ). (m18.changes 1).done j ≡ flag op_wave.confirmed j) refl k low);
  apart = λ change e. absurd cc;
}

pub posts_are_met : PostIsMet
posts_are_met = record {
  size = one;
  is_size = record { odd = refl; few = omega arith };
  m = m18;
  reached = r18;
  set_size = the_txn.size;
  set = the_set;
  call = 1;
  job = the_job;
  begun = at_first;
  live = live;
  last = last;
  events = events;
  are = are_events;
  txn = the_txn;
  run = run_is;
  change = 1;
  posts = refl;
  wave = op_wave;
  ledger = the_ledger;
  met = after_post;
}
