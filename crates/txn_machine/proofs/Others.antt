-- Sending to one replica, and missing one, leaves the guards of the others.
use Rattle.std.proofs.Common.{◌≡◌, ◌∙◌, ℕ, ◌⊎◌, inl, inr, Bool, true, false, ◌==◌, List, [], ◌∷◌, Option, Some, None, refl, sym, ap, subst, if◌then◌else◌}
use Rattle.std.specs.Prelude.{◌≢◌}
use Rattle.std.proofs.lemmas.Bool.{eq-eqb, or_parts, true≢false}
use Rattle.fop_types.specs.Bounds.{Each}
use Rattle.fop_types.specs.Jobs.{cells_of}
use Rattle.fop_types.specs.StoreOps.{births}
use Rattle.fop_types.specs.declared.cells.Cell.{Cell}
use Rattle.fop_types.specs.declared.contents.Mask.{Mask}
use Rattle.fop_types.specs.declared.contents.Row.{Row}
use Rattle.fop_types.specs.declared.messages.BrickReq.{BrickReq}
use Rattle.fop_types.specs.declared.store_ops.StoreOp.{StoreOp}
use Rattle.afr_changelog.specs.Soundness.{IsSound}
use Rattle.afr_machine.specs.Births.{cells_of_work, AreLeftAlone}
use Rattle.afr_machine.specs.Changes.{Change, is_unsettled}
use Rattle.afr_machine.specs.Phases.{Phase, rows_up_to, IsSoundIn}
use Rattle.afr_machine.specs.Replicas.{Replicas, Size, outside, with_at}
use Rattle.afr_machine.specs.Requests.{Ask}
use Rattle.afr_machine.specs.Sending.{HasGrant, IsMember, IsNext, MayApply, MayBear, MayRead, MayFetch, MayPoll, MayAsk, writes, asking, wrote_if, after_asking}
use Rattle.afr_machine.specs.States.{State, Link, is_current, link_of, phase_of}
use Rattle.afr_machine.specs.Steps.{Step, MayMiss, after}
use Rattle.afr_machine.specs.Touching.{share}
use Rattle.afr_machine.specs.Transactions.{Grant, Stage, Txn as Record, may_hold}
use Rattle.afr_machine.specs.Turns.{is_granted, open_grants}
use Rattle.afr_machine.proofs.Tables.{at_same, at_other}
use Rattle.afr_phases.specs.Asked.{is_named}
use Rattle.afr_transaction.specs.declared.txn.Txn.{Txn}
use Rattle.txn_machine.specs.Asks.{ask_of, MayBeAsked}
use Rattle.txn_machine.specs.Guards.{MeetsGuard}
use Rattle.txn_machine.specs.Sent.{OneAfterAnother}

-- What the guards of the requests of transaction t to replica j speak of is the same in both states.
record IsSameFor (m n : State) (t j : ℕ) : Type 0 where
  links : n.links ≡ m.links
  changes : n.changes ≡ m.changes
  graph : (n.txns t).graph ≡ (m.txns t).graph
  job_is : (n.txns t).job ≡ (m.txns t).job
  work_is : (n.txns t).work ≡ (m.txns t).work
  stage : (n.txns t).stage ≡ (m.txns t).stage
  grants : (n.txns t).grants ≡ (m.txns t).grants
  out : (n.txns t).out j ≡ (m.txns t).out j
  waits : (n.txns t).waits j ≡ (m.txns t).waits j
  left_is : (n.txns t).left j ≡ (m.txns t).left j
  reached : (phase_of n t).reached ≡ (phase_of m t).reached
  rows : (phase_of n t).rows ≡ (phase_of m t).rows
  others : (other : ℕ) → other ≢ t → n.txns other ≡ m.txns other

module _ (size : Size) (m n : State) (t j : ℕ) (s : IsSameFor m n t j) where
  link_same : link_of n t j ≡ link_of m t j
  link_same = ap (λ (links : ℕ → ℕ → Link). links j (n.txns t).graph) s.links ∙ ap (λ (g : ℕ). m.links j g) s.graph

  opened : (link_of m t j).is_open ≡ true → (link_of n t j).is_open ≡ true
  opened h = ap (λ (l : Link). l.is_open) link_same ∙ h

  granted_same : open_grants n t j ≡ open_grants m t j
  granted_same = ap (λ (grants : ℕ → Option Grant). is_granted (grants j) n t j) s.grants ∙ by ((m.txns t).grants j) where
    by : (g : Option Grant) → is_granted g n t j ≡ is_granted g m t j
    by None = refl
    by (Some grant) = ap (λ (l : Link). is_current l grant.connection) link_same

  grant_same : HasGrant m t j → HasGrant n t j
  grant_same h = record {
    grant = h.grant;
    granted = ap (λ (grants : ℕ → Option Grant). grants j) s.grants ∙ h.granted;
    still_open = ap (λ (l : Link). is_current l h.grant.connection) link_same ∙ h.still_open;
  }

  member_same : IsMember size m t j → IsMember size n t j
  member_same h = record {
    replica = h.replica;
    reached = ap (λ (r : Replicas). r j) s.reached ∙ h.reached;
    not_out = s.out ∙ h.not_out;
    answered = s.waits ∙ h.answered;
    grant = grant_same h.grant;
  }

  next_same : IsNext size m t j → IsNext size n t j
  next_same h = record { member = member_same h.member; is_left = s.left_is ∙ h.is_left }

  poll_same : MayPoll size m t j → MayPoll size n t j
  poll_same h = record {
    replica = h.replica;
    turn = s.stage ∙ h.turn;
    is_left = s.left_is ∙ h.is_left;
    not_out = s.out ∙ h.not_out;
    answered = s.waits ∙ h.answered;
    connected = opened h.connected;
  }

  alone_same : (cells : List Cell) → AreLeftAlone m t cells → AreLeftAlone n t cells
  alone_same cells h other ne holds =
      let e : n.txns other ≡ m.txns other = s.others other ne in
      ap (λ (changes : ℕ → Change). share cells (cells_of_work changes (n.txns other) (n.txns other).work)) s.changes
      ∙ ap (λ (x : Record). share cells (cells_of_work m.changes x x.work)) e
      ∙ h other ne (ap (λ (x : Record). may_hold x.stage) (sym e) ∙ holds)

  sound_same : (cell : Cell) → IsSoundIn size (phase_of m t) cell j → IsSoundIn size (phase_of n t) cell j
  sound_same cell h =
      subst (λ (reached : Replicas). IsSound (rows_up_to size.replicas (λ k. if reached k then Some ((phase_of n t).rows k cell) else None)) size.replicas size.quorum j) (sym s.reached)
      (subst (λ (rows : ℕ → Cell → Row). IsSound (rows_up_to size.replicas (λ k. if (phase_of m t).reached k then Some (rows k cell) else None)) size.replicas size.quorum j) (sym s.rows) h)

  cells_same : (u : ℕ) (cells : List Cell) → cells ≡ (m.changes u).cells → cells ≡ (n.changes u).cells
  cells_same u cells h = h ∙ ap (λ (changes : ℕ → Change). (changes u).cells) (sym s.changes)

  apply_same : (u : ℕ) (op : StoreOp) → MayApply size m t j u op → MayApply size n t j u op
  apply_same u op h = record {
    next = next_same h.next;
    turn = s.stage ∙ h.turn;
    op_is = h.op_is ∙ ap (λ (changes : ℕ → Change). (changes u).op) (sym s.changes);
    unsettled = ap (λ (changes : ℕ → Change). is_unsettled (changes u).verdict) s.changes ∙ h.unsettled;
    births_apart = alone_same (cells_of (births op)) h.births_apart;
  }

  bear_same : (u : ℕ) (op : StoreOp) → MayBear size m t j u op → MayBear size n t j u op
  bear_same u op h = record { next = next_same h.next; turn = s.stage ∙ h.turn; cells = h.cells; job_is = s.job_is ∙ h.job_is; no_number = h.no_number }

  read_same : (cell : Cell) → MayRead size m t j cell → MayRead size n t j cell
  read_same cell h = record {
    member = member_same h.member;
    turn = s.stage ∙ h.turn;
    work_is = s.work_is ∙ h.work_is;
    cells = h.cells;
    fd = h.fd;
    dir = h.dir;
    job_is = s.job_is ∙ h.job_is;
    of_job = h.of_job;
    sound = sound_same cell h.sound;
  }

  fetch_same : (cell : Cell) → MayFetch size m t j cell → MayFetch size n t j cell
  fetch_same cell h = record {
    member = member_same h.member;
    run = h.run;
    turn = s.stage ∙ h.turn;
    replacing = h.replacing;
    of_run = h.of_run;
    source = h.source;
    not_fetched = h.not_fetched;
  }

  op_same : (u : ℕ) (op : StoreOp) → MayApply size m t j u op ⊎ MayBear size m t j u op → MayApply size n t j u op ⊎ MayBear size n t j u op
  op_same u op (inl h) = inl (apply_same u op h)
  op_same u op (inr h) = inr (bear_same u op h)

  fetched_same : (cell : Cell) → MayRead size m t j cell ⊎ MayFetch size m t j cell → MayRead size n t j cell ⊎ MayFetch size n t j cell
  fetched_same cell (inl h) = inl (read_same cell h)
  fetched_same cell (inr h) = inr (fetch_same cell h)

  ask_same : (ask : Ask) → MayAsk size m t j ask → MayAsk size n t j ask
  ask_same (Ask.Lock shared cells) h = record {
    replica = h.replica;
    turn = s.stage ∙ h.turn;
    not_out = s.out ∙ h.not_out;
    answered = s.waits ∙ h.answered;
    connected = opened h.connected;
  }
  ask_same Ask.Unlock h = record {
    replica = h.replica;
    turn = s.stage ∙ h.turn;
    is_left = s.left_is ∙ h.is_left;
    answered = s.waits ∙ h.answered;
    grant = grant_same h.grant;
  }
  ask_same (Ask.Mark u cells) h = record { next = next_same h.next; turn = s.stage ∙ h.turn; cells_are = cells_same u cells h.cells_are }
  ask_same (Ask.Op u op) h = op_same u op h
  ask_same (Ask.Post u cells accused) h = record {
    next = next_same h.next;
    turn = s.stage ∙ h.turn;
    cells_are = cells_same u cells h.cells_are;
    accused_are = h.accused_are ∙ ap (λ (changes : ℕ → Change). outside size (changes u).done) (sym s.changes);
  }
  ask_same (Ask.Fetch cell) h = fetched_same cell h
  ask_same (Ask.Replace cell found) h = record {
    member = member_same h.member;
    run = h.run;
    turn = s.stage ∙ h.turn;
    replacing = h.replacing;
    of_run = h.of_run;
    sink = h.sink;
    fetched = h.fetched;
    not_replaced = h.not_replaced;
  }
  ask_same (Ask.Clear cells who) h = record { next = next_same h.next; run = h.run; turn = s.stage ∙ h.turn; clearing = h.clearing; cells_are = h.cells_are; who_are = h.who_are }
  ask_same (Ask.Settle u cells accused) h = record {
    next = next_same h.next;
    group = h.group;
    adopts = h.adopts;
    turn = s.stage ∙ h.turn;
    cells_are = cells_same u cells h.cells_are;
    accused_are = h.accused_are;
  }
  ask_same Ask.Index h = record { poll = poll_same h.poll; job_is = s.job_is ∙ h.job_is }
  ask_same Ask.Open h = record { poll = poll_same h.poll; fd = h.fd; gfid = h.gfid; job_is = s.job_is ∙ h.job_is }
  ask_same Ask.Release h = absurd h
  ask_same Ask.OpenFirst h = absurd h

  asked_same : (ask : Option Ask) → MayBeAsked size m t j ask → MayBeAsked size n t j ask
  asked_same None h = absurd h
  asked_same (Some ask) h = ask_same ask h

  lost_same : ((m.txns t).out j ≡ true) ⊎ ((open_grants m t j ≡ false) × ((m.txns t).stage ≡ Stage.Polling → (link_of m t j).is_open ≡ false))
      → ((n.txns t).out j ≡ true) ⊎ ((open_grants n t j ≡ false) × ((n.txns t).stage ≡ Stage.Polling → (link_of n t j).is_open ≡ false))
  lost_same (inl out) = inl (s.out ∙ out)
  lost_same (inr lost) = inr (granted_same ∙ lost.0, λ e. ap (λ (l : Link). l.is_open) link_same ∙ lost.1 (sym s.stage ∙ e))

  missed_same : MayMiss m t j → MayMiss n t j
  missed_same h = record {
    is_left = s.left_is ∙ h.is_left;
    answered = s.waits ∙ h.answered;
    lost = lost_same h.lost;
    released = λ e. granted_same ∙ h.released (sym s.stage ∙ e);
  }

  meets_same : (txn : Txn) (live : Mask) (last : List ℕ) (r : BrickReq) → MeetsGuard size m t txn live last j r → MeetsGuard size n t txn live last j r
  meets_same txn live last r h = record {
    asked = λ holds. asked_same (ask_of txn.settles r) (h.asked holds);
    missed = λ members once lost. missed_same (h.missed members once lost);
  }

-- ---- the two steps

wrote_reached : (b : Bool) (phase : Phase) → (wrote_if b phase).reached ≡ phase.reached
wrote_reached true phase = refl
wrote_reached false phase = refl

wrote_rows : (b : Bool) (phase : Phase) → (wrote_if b phase).rows ≡ phase.rows
wrote_rows true phase = refl
wrote_rows false phase = refl

module _ (size : Size) (m : State) (t k j : ℕ) (apart : j ≢ k) where
  module _ (first : Bool) (ask : Ask) where
    abbrev asker : Record
    asker = asking (m.txns t) k (link_of m t k).last first ask

    now_is : (after_asking m t k first ask).txns t ≡ asker
    now_is = at_same m.txns t asker

    phase_is : phase_of (after_asking m t k first ask) t ≡ wrote_if (writes ask) (phase_of m t)
    phase_is =
        let moved : phase_of (after_asking m t k first ask) t ≡ with_at m.phases (m.txns t).phase (wrote_if (writes ask) (phase_of m t)) (m.txns t).phase =
        ap (λ (x : Record). with_at m.phases (m.txns t).phase (wrote_if (writes ask) (phase_of m t)) x.phase) now_is in
        moved ∙ at_same m.phases (m.txns t).phase (wrote_if (writes ask) (phase_of m t))

    waits_is : ((after_asking m t k first ask).txns t).waits j ≡ (m.txns t).waits j
    waits_is =
        let moved : ((after_asking m t k first ask).txns t).waits j ≡ with_at (m.txns t).waits k true j = ap (λ (x : Record). x.waits j) now_is in
        moved ∙ at_other (m.txns t).waits k true j apart

    left_is_same : ((after_asking m t k first ask).txns t).left j ≡ (m.txns t).left j
    left_is_same =
        let moved : ((after_asking m t k first ask).txns t).left j ≡ with_at (m.txns t).left k false j = ap (λ (x : Record). x.left j) now_is in
        moved ∙ at_other (m.txns t).left k false j apart

    after_sending : IsSameFor m (after_asking m t k first ask) t j
    after_sending = record {
      links = refl;
      changes = refl;
      graph = ap (λ (x : Record). x.graph) now_is;
      job_is = ap (λ (x : Record). x.job) now_is;
      work_is = ap (λ (x : Record). x.work) now_is;
      stage = ap (λ (x : Record). x.stage) now_is;
      grants = ap (λ (x : Record). x.grants) now_is;
      out = ap (λ (x : Record). x.out j) now_is;
      waits = waits_is;
      left_is = left_is_same;
      reached = ap (λ (p : Phase). p.reached) phase_is ∙ wrote_reached (writes ask) (phase_of m t);
      rows = ap (λ (p : Phase). p.rows) phase_is ∙ wrote_rows (writes ask) (phase_of m t);
      others = λ other ne. at_other m.txns t asker other ne;
    }

  abbrev misser : Record
  misser = record (m.txns t) { left = with_at (m.txns t).left k false; out = with_at (m.txns t).out k true }

  missed_is : (after size m (Step.Misses t k)).txns t ≡ misser
  missed_is = at_same m.txns t misser

  missed_out : ((after size m (Step.Misses t k)).txns t).out j ≡ (m.txns t).out j
  missed_out =
      let moved : ((after size m (Step.Misses t k)).txns t).out j ≡ with_at (m.txns t).out k true j = ap (λ (x : Record). x.out j) missed_is in
      moved ∙ at_other (m.txns t).out k true j apart

  missed_left : ((after size m (Step.Misses t k)).txns t).left j ≡ (m.txns t).left j
  missed_left =
      let moved : ((after size m (Step.Misses t k)).txns t).left j ≡ with_at (m.txns t).left k false j = ap (λ (x : Record). x.left j) missed_is in
      moved ∙ at_other (m.txns t).left k false j apart

  after_missing : IsSameFor m (after size m (Step.Misses t k)) t j
  after_missing = record {
    links = refl;
    changes = refl;
    graph = ap (λ (x : Record). x.graph) missed_is;
    job_is = ap (λ (x : Record). x.job) missed_is;
    work_is = ap (λ (x : Record). x.work) missed_is;
    stage = ap (λ (x : Record). x.stage) missed_is;
    grants = ap (λ (x : Record). x.grants) missed_is;
    out = missed_out;
    waits = ap (λ (x : Record). x.waits j) missed_is;
    left_is = missed_left;
    reached = ap (λ (x : Record). (m.phases x.phase).reached) missed_is;
    rows = ap (λ (x : Record). (m.phases x.phase).rows) missed_is;
    others = λ other ne. at_other m.txns t misser other ne;
  }

-- ---- one after another

-- a replica that no request names is asked by none
each_other : (k : ℕ) (P Q : ℕ × BrickReq → Type 0) → ((r : ℕ × BrickReq) → r.0 ≢ k → P r → Q r) → (list : List (ℕ × BrickReq)) → is_named k list ≡ false → Each P list → Each Q list
each_other k P Q h [] none p = tt
each_other k P Q h (r ∷ rs) none p =
    let parts = or_parts (r.0 == k) (is_named k rs) none in
    (h r (λ e. true≢false (sym (eq-eqb r.0 k e) ∙ parts.0)) p.0, each_other k P Q h rs parts.1 p.1)

pub one_after_another : OneAfterAnother
one_after_another size m t txn live last [] apart meets = tt
one_after_another size m t txn live last (r ∷ rs) apart meets = (
  λ first ask is carries holds. (
    (subst (λ (a : Option Ask). MayBeAsked size m t r.0 a) is (meets.0.asked holds), carries),
    one_after_another size (after_asking m t r.0 first ask) t txn live last rs apart.1
        (each_other r.0 (λ (q : ℕ × BrickReq). MeetsGuard size m t txn live last q.0 q.1) (λ (q : ℕ × BrickReq). MeetsGuard size (after_asking m t r.0 first ask) t txn live last q.0 q.1)
        (λ q ne h. meets_same size m (after_asking m t r.0 first ask) t q.0 (after_sending size m t r.0 q.0 ne first ask) txn live last q.1 h) rs apart.0 meets.1),
  ),
  λ members once lost. (
    meets.0.missed members once lost,
    one_after_another size (after size m (Step.Misses t r.0)) t txn live last rs apart.1
        (each_other r.0 (λ (q : ℕ × BrickReq). MeetsGuard size m t txn live last q.0 q.1) (λ (q : ℕ × BrickReq). MeetsGuard size (after size m (Step.Misses t r.0)) t txn live last q.0 q.1)
        (λ q ne h. meets_same size m (after size m (Step.Misses t r.0)) t q.0 (after_missing size m t r.0 q.0 ne) txn live last q.1 h) rs apart.0 meets.1),
  ),
)
