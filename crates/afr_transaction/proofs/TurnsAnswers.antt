-- The turn of an answer, by phase: others are asked still, or it is the last answer of its phase and the job goes on.
use Rattle.std.proofs.Common.{◌≡◌, ◌∙◌, ℕ, ◌+◌, ◌<◌, ◌⊎◌, inl, inr, Bool, true, false, ◌&&◌, not, cond, List, [], ◌∷◌, ◌++◌, Option, Some, None, is_some, refl, sym, ap, subst, arith, ◌≤◌}
use Rattle.std.specs.Prelude.{length, slice_get, slice_index}
use Rattle.std.proofs.lemmas.Bool.{cond_both, and_from, and_parts, true≢false}
use Rattle.fop_types.specs.declared.cells.Cell.{Cell}
use Rattle.fop_types.specs.declared.contents.Content.{Content}
use Rattle.fop_types.specs.declared.contents.Mask.{Mask}
use Rattle.fop_types.specs.declared.contents.Row.{Row}
use Rattle.fop_types.specs.declared.jobs.SetReply.TheVariants as reply
use Rattle.fop_types.specs.declared.messages.BrickRep.{BrickRep}
use Rattle.fop_types.specs.declared.store_ops.StoreOp.{StoreOp}
use Rattle.afr_ledger.specs.Ledger.{State}
use Rattle.afr_phases.specs.declared.locking.LockStep.{LockStep}
use Rattle.afr_phases.specs.declared.locking.LockStep.TheVariants as step
use Rattle.afr_phases.specs.declared.outs.Outs.{Outs}
use Rattle.afr_phases.specs.declared.wave.Wave.{Wave}
use Rattle.afr_phases.specs.Answers.{is_fault, is_plain_done, rows_in, content_in, cells_in}
use Rattle.afr_phases.specs.Asked.{is_within, is_only, is_waiting, are_granted_within, IsLast}
use Rattle.afr_phases.specs.Flags.{mask_of, outside}
use Rattle.afr_phases.specs.Hearing.{heard}
use Rattle.afr_phases.specs.Locking.{next_lock}
use Rattle.afr_phases.specs.Locks.{granted}
use Rattle.afr_phases.specs.Outs.{is_short, left}
use Rattle.afr_phases.specs.Shown.{with_rows}
use Rattle.afr_phases.specs.Tracked.{IsTracked}
use Rattle.afr_phases.specs.Waves.{is_asked, is_over, taken}
use Rattle.afr_phases.proofs.Asked.{within_at, only_at, over_after, asked_after, waiting_after, last_of}
use Rattle.afr_phases.proofs.Grants.{IsStepOf, step_of, granted_within}
use Rattle.afr_phases.proofs.Stays.{IsStepFrom, step_from, used_left, used_heard, five_heard}
use Rattle.afr_phases.proofs.Tracked.{sent, heard_one, left_places}
use Rattle.afr_transaction.specs.declared.need.Need.{Need}
use Rattle.afr_transaction.specs.declared.need.Need.TheVariants as need
use Rattle.afr_transaction.specs.declared.phase.Adopted.{Adopted}
use Rattle.afr_transaction.specs.declared.phase.Phase.{Phase}
use Rattle.afr_transaction.specs.declared.phase.Phase.TheVariants as phase
use Rattle.afr_transaction.specs.declared.phase.Then.{Then}
use Rattle.afr_transaction.specs.declared.phase.Then.TheVariants as next
use Rattle.afr_transaction.specs.declared.phase.Verdict.{Verdict}
use Rattle.afr_transaction.specs.declared.size.Size.{Size}
use Rattle.afr_transaction.specs.declared.txn.Txn.{Txn}
use Rattle.afr_transaction.specs.Answers.{lock_step, lock_on, lock_answered, hearing, waiting, write_by, mark_answered, write_answered, post_ended, post_answered, settle_answered, birth_answered, unlock_answered, open_answered, list_taken, list_answered, fetch_answered, aspect_at, answered_in, idle}
use Rattle.afr_transaction.specs.Changes.{may_begin, begun, writing, posting, post_decided}
use Rattle.afr_transaction.specs.Copied.{copy_next}
use Rattle.afr_transaction.specs.Jobs.{change_op}
use Rattle.afr_transaction.specs.Listing.{with_cells}
use Rattle.afr_transaction.specs.Locked.{locking, going, unlock, fail, lock_taken, reached}
use Rattle.afr_transaction.specs.Polls.{open_ended, list_ended}
use Rattle.afr_transaction.specs.Reads.{fetch_next, fetch_taken}
use Rattle.afr_transaction.specs.Ready.{ready}
use Rattle.afr_transaction.specs.Settles.{settle_decided, settle_parts}
use Rattle.afr_transaction.specs.Requests.{HoldsLocks, KeepsIn, Sends}
use Rattle.afr_transaction.specs.Shapes.{suits, is_group, is_asking, GoesOn, AfterAnswer}
use Rattle.afr_transaction.specs.Txns.{alive, io_of, over, kept}
use Rattle.afr_phases.proofs.Encoded.{mask_small}
use Rattle.afr_transaction.proofs.TurnsBase.{On, OnWith, IsStill, asks_alive, someone, accuses, over_on}
use Rattle.afr_transaction.proofs.TurnsCopies.{settle_is, next_on}
use Rattle.afr_transaction.proofs.TurnsLocked.{locking_on, going_on, unlock_on, fail_on}
use Rattle.afr_transaction.proofs.TurnsReads.{fetch_on}
use Rattle.afr_transaction.proofs.TurnsReady.{ready_on}

after_last : (size : Size) (k : ℕ) (wave : Wave) (txn : Txn) (need : Need) → IsLast k wave → GoesOn size txn need → AfterAnswer size k wave txn need
after_last size k wave txn (need.Send list) last h = (last, h)
after_last size k wave txn (need.Copy job rows) last h = (last, h)
after_last size k wave txn (need.Reply reply) last h = (last, h)
after_last size k wave txn need.Wait last h = absurd h

-- a turn after the answer of replica k, and one with its ledger
abbrev pub After : Type 0 → Txn → ℕ → Txn × Need → Type 0
After G txn k t = AfterAnswer txn.size k txn.wave t.0 t.1 × (G → Sends t.0 t.1)

abbrev pub AfterWith : Type 0 → Txn → ℕ → Txn × (Need × State Cell) → Type 0
AfterWith G txn k t = AfterAnswer txn.size k txn.wave t.0 t.1.0 × (G → Sends t.0 t.1.0)

module _ (G : Type 0) (live : Mask) (last : List ℕ) (ledger : State Cell) (txn : Txn) (k mark : ℕ) (rep : BrickRep) (waits : is_waiting txn.size.n txn.wave ≡ true) (locks : are_granted_within txn.size.n txn.locks ≡ true) (five : G → length txn.outs.at ≡ 5) where
  within : is_within txn.size.n txn.wave.asked ≡ true
  within = (and_parts (not (is_over txn.wave)) (is_within txn.size.n txn.wave.asked) waits).1

  -- the last one has answered
  on_last : (confirms : Bool) (t : Txn × Need) → is_over (taken txn.wave k confirms) ≡ true → On G txn.size t → After G txn k t
  on_last confirms t over h = (after_last txn.size k txn.wave t.0 t.1 (last_of txn.size.n k txn.wave confirms txn.size.few within over) h.0, h.1)

  on_last_with : (confirms : Bool) (t : Txn × (Need × State Cell)) → is_over (taken txn.wave k confirms) ≡ true → OnWith G txn.size t → AfterWith G txn k t
  on_last_with confirms t over h = on_last confirms (t.0, t.1.0) over h

  -- others are asked still
  still_asked : (after : Txn) (confirms : Bool) (p : Phase) → after.wave ≡ taken txn.wave k confirms → after.size ≡ txn.size → are_granted_within txn.size.n after.locks ≡ true
      → (G → length after.outs.at ≡ 5) → (G → KeepsIn p (record after { phase = p })) → suits p (record after { phase = p }) ≡ true → is_over after.wave ≡ false → After G txn k (waiting after p)
  still_asked after confirms p wave size granted places keeps fits more = (
    (
      size,
      (
        and_from (is_waiting after.size.n after.wave) (are_granted_within after.size.n after.locks && suits p (record after { phase = p }))
            (subst (λ (s : Size). is_waiting s.n after.wave ≡ true) (sym size)
            (subst (λ (w : Wave). is_waiting txn.size.n w ≡ true) (sym wave) (waiting_after txn.size.n k txn.wave confirms waits (ap is_over (sym wave) ∙ more))))
            (and_from (are_granted_within after.size.n after.locks) (suits p (record after { phase = p })) (subst (λ (s : Size). are_granted_within s.n after.locks ≡ true) (sym size) granted) fits),
        λ j. ap (λ (w : Wave). is_asked w j) wave ∙ asked_after txn.wave k j confirms,
      ),
    ),
    λ g. record { places = places g; locks = keeps g },
  )

  -- ---- phases that go to several replicas

  places_heard : G → length (hearing txn k rep mark).outs.at ≡ 5
  places_heard g = five_heard txn.size.n txn.outs k mark rep (five g)

  holds_heard : (G → HoldsLocks txn) → G → HoldsLocks (hearing txn k rep mark)
  holds_heard holds g j f = holds g j (used_heard txn.size.n txn.outs k mark rep j f)

  -- others are asked still, or the phase is over
  either : (p : Phase) (t : Txn × Need) → (G → KeepsIn p (record (hearing txn k rep mark) { phase = p })) → suits p (record (hearing txn k rep mark) { phase = p }) ≡ true → (IsStill G (hearing txn k rep mark) → On G txn.size t)
      → After G txn k (cond (not (is_over (taken txn.wave k (is_plain_done rep)))) (waiting (hearing txn k rep mark) p) t)
  either p t keeps fits goes = by (is_over (taken txn.wave k (is_plain_done rep))) refl where
    by : (b : Bool) → is_over (taken txn.wave k (is_plain_done rep)) ≡ b → After G txn k (cond (not b) (waiting (hearing txn k rep mark) p) t)
    by true e = on_last (is_plain_done rep) t e (goes (e, (locks, places_heard)))
    by false e = still_asked (hearing txn k rep mark) (is_plain_done rep) p refl refl locks places_heard keeps fits e

  either_with : (p : Phase) (after : State Cell) (t : Txn × (Need × State Cell)) → (G → KeepsIn p (record (hearing txn k rep mark) { phase = p })) → suits p (record (hearing txn k rep mark) { phase = p }) ≡ true → (IsStill G (hearing txn k rep mark) → OnWith G txn.size t)
      → AfterWith G txn k (cond (not (is_over (taken txn.wave k (is_plain_done rep)))) (kept (waiting (hearing txn k rep mark) p) after) t)
  either_with p after t keeps fits goes = by (is_over (taken txn.wave k (is_plain_done rep))) refl where
    by : (b : Bool) → is_over (taken txn.wave k (is_plain_done rep)) ≡ b → AfterWith G txn k (cond (not b) (kept (waiting (hearing txn k rep mark) p) after) t)
    by true e = on_last_with (is_plain_done rep) t e (goes (e, (locks, places_heard)))
    by false e = still_asked (hearing txn k rep mark) (is_plain_done rep) p refl refl locks places_heard keeps fits e

  -- ---- a change

  op_on : (op : Option (ℕ × StoreOp)) (change : ℕ) → ◌≡◌ {A = Option (ℕ × StoreOp)} (change_op txn.job) op → (G → HoldsLocks txn) → IsStill G (hearing txn k rep mark) → is_short (hearing txn k rep mark).outs txn.size.n txn.size.q ≡ false
      → OnWith G txn.size (write_by op (hearing txn k rep mark) change ledger live last)
  op_on None change at holds still enough = unlock_on G live last (hearing txn k rep mark) next.Again ledger still
  op_on (Some op) change at holds still enough =
      cond_both (may_begin (hearing txn k rep mark) change ledger) (begun (hearing txn k rep mark) change op.0 op.1 ledger) _ (OnWith G txn.size)
      (λ e. let some = someone (hearing txn k rep mark) enough in asks_alive G (hearing txn k rep mark) _ (phase.Writing change) still.1.0 still.1.1 some.0 some.1 refl
      (λ g. (holds_heard holds g, sent txn.size.n (hearing txn k rep mark).outs (still.1.1 g))) (λ g j f. (holds_heard holds g j f, record { op = op; at = at; is = refl })))
      (λ e. unlock_on G live last (hearing txn k rep mark) next.Again ledger still)

  mark_on : (change : ℕ) → (G → HoldsLocks txn) → AfterWith G txn k (mark_answered (hearing txn k rep mark) change ledger live last)
  mark_on change holds =
      either_with (phase.Marking change) ledger _ (holds_heard holds) refl (λ still. cond_both (is_short (hearing txn k rep mark).outs txn.size.n txn.size.q) _ _ (OnWith G txn.size)
      (λ e. fail_on G live last (hearing txn k rep mark) ledger still) (λ e. op_on (change_op txn.job) change refl holds still e))

  write_on : (change : ℕ) → (G → HoldsLocks txn) → (G → IsTracked txn.size.n (hearing txn k rep mark).outs (hearing txn k rep mark).wave) → After G txn k (write_answered (hearing txn k rep mark) change ledger live last)
  write_on change holds tracked =
      either (phase.Writing change) _ (λ g. (holds_heard holds g, tracked g)) refl (λ still. cond_both (is_short (hearing txn k rep mark).outs txn.size.n txn.size.q) _ _ (On G txn.size)
      (λ e. fail_on G live last (hearing txn k rep mark) ledger still)
      (λ e. let some = someone (hearing txn k rep mark) e in asks_alive G (hearing txn k rep mark) _ (phase.Posting change None) still.1.0 still.1.1 some.0 some.1 refl (holds_heard holds)
      (λ g j f. (holds_heard holds g j f, record { accused = mask_of (outside txn.size.n (alive (hearing txn k rep mark))); small = mask_small (outside txn.size.n (alive (hearing txn k rep mark))); exactly = accuses txn.size.n (alive (hearing txn k rep mark)); is = refl }))))

  ended_on : (adopted : Option Adopted) (after : State Cell) → IsStill G (hearing txn k rep mark) → On G txn.size (post_ended (hearing txn k rep mark) adopted after live last)
  ended_on None after still = fail_on G live last (hearing txn k rep mark) after still
  ended_on (Some adopted) after still = unlock_on G live last (hearing txn k rep mark) (next.Answer (reply.Decided adopted.entry)) after still

  post_on : (change : ℕ) (adopted : Option Adopted) → (G → HoldsLocks txn) → AfterWith G txn k (post_answered (hearing txn k rep mark) change adopted ledger live last)
  post_on change adopted holds = by (is_over (taken txn.wave k (is_plain_done rep))) refl where
    by : (b : Bool) → is_over (taken txn.wave k (is_plain_done rep)) ≡ b
        → AfterWith G txn k (cond b (kept (post_ended (hearing txn k rep mark) (post_decided (hearing txn k rep mark) change adopted ledger).0 (post_decided (hearing txn k rep mark) change adopted ledger).1 live last) (post_decided (hearing txn k rep mark) change adopted ledger).1)
        (kept (waiting (hearing txn k rep mark) (phase.Posting change (post_decided (hearing txn k rep mark) change adopted ledger).0)) (post_decided (hearing txn k rep mark) change adopted ledger).1))
    by true e = on_last (is_plain_done rep) (post_ended (hearing txn k rep mark) _ _ live last) e (ended_on (post_decided (hearing txn k rep mark) change adopted ledger).0 (post_decided (hearing txn k rep mark) change adopted ledger).1 (e, (locks, places_heard)))
    by false e = still_asked (hearing txn k rep mark) (is_plain_done rep) (phase.Posting change (post_decided (hearing txn k rep mark) change adopted ledger).0) refl refl locks places_heard (holds_heard holds) refl e

  -- ---- a settling

  settle_on : (verdict : Verdict) → (G → HoldsLocks txn) → is_group txn verdict ≡ true → AfterWith G txn k (settle_answered (hearing txn k rep mark) verdict ledger live last)
  settle_on verdict holds group = goes (settle_decided (hearing txn k rep mark) verdict ledger) where
    settles : is_some txn.settles ≡ true
    settles = (and_parts (is_some txn.settles) _ group).0

    goes : (d : Bool × State Cell) → AfterWith G txn k (cond (not (is_over (taken txn.wave k (is_plain_done rep)))) (kept (waiting (hearing txn k rep mark) (phase.Settling (record verdict { decided = d.0 }))) d.1)
        (cond d.0 (copy_next (hearing txn k rep mark) (settle_parts (hearing txn k rep mark) verdict.group) d.1 live last) (kept (fail (hearing txn k rep mark) d.1 live last) d.1)))
    goes d = either_with (phase.Settling (record verdict { decided = d.0 })) d.1 _ (holds_heard holds) group (λ still. cond_both d.0 _ _ (OnWith G txn.size)
        (λ e. next_on G live last (hearing txn k rep mark) (settle_parts (hearing txn k rep mark) verdict.group) d.1 (settle_is (hearing txn k rep mark) verdict group) still (holds_heard holds) (inl settles))
        (λ e. fail_on G live last (hearing txn k rep mark) d.1 still))

  -- ---- a birth, a release, and the jobs without locks

  birth_on : (G → HoldsLocks txn) → After G txn k (birth_answered (hearing txn k rep mark) ledger live last)
  birth_on holds =
      either phase.Bearing _ (holds_heard holds) refl (λ still. cond_both (is_short (hearing txn k rep mark).outs txn.size.n txn.size.q) _ _ (On G txn.size)
      (λ e. fail_on G live last (hearing txn k rep mark) ledger still) (λ e. unlock_on G live last (hearing txn k rep mark) (next.Answer (reply.Decided None)) ledger still))

  release_on : (after : Then) → After G txn k (unlock_answered (hearing txn k rep mark) after ledger live last)
  release_on after = either (phase.Unlocking after) _ (λ g. tt) refl (λ still. going_on G live last (hearing txn k rep mark) after ledger still.0 still.1.1)

  open_on : After G txn k (open_answered (hearing txn k rep mark))
  open_on =
      either phase.Opening _ (λ g. tt) refl (λ still. cond_both (is_short (hearing txn k rep mark).outs txn.size.n txn.size.q) _ _ (On G txn.size)
      (λ e. over_on G (hearing txn k rep mark) (reply.Io (io_of (hearing txn k rep mark))) still.0) (λ e. over_on G (hearing txn k rep mark) reply.Opened still.0))

  -- a replica has listed its cells or not
  listed_on : (after : Txn) (confirms : Bool) (all : List Cell) → after.wave ≡ taken txn.wave k confirms → after.size ≡ txn.size → are_granted_within txn.size.n after.locks ≡ true → (G → length after.outs.at ≡ 5)
      → After G txn k (cond (not (is_over after.wave)) (waiting after (phase.Listing all)) (list_ended after all))
  listed_on after confirms all wave size granted places = by (is_over after.wave) refl where
    by : (b : Bool) → is_over after.wave ≡ b → After G txn k (cond (not b) (waiting after (phase.Listing all)) (list_ended after all))
    by true e = on_last confirms (list_ended after all) (ap is_over (sym wave) ∙ e) ((size, e), λ g. tt)
    by false e = still_asked after confirms (phase.Listing all) wave size granted places (λ g. tt) refl e

  list_on : (all : List Cell) → After G txn k (list_answered txn k rep mark all)
  list_on all = by (cells_in rep) where
    by : (o : Option (List Cell)) → After G txn k (cond (not (is_over (list_taken txn k o (is_fault rep) mark all).0.wave))
        (waiting (list_taken txn k o (is_fault rep) mark all).0 (phase.Listing (list_taken txn k o (is_fault rep) mark all).1))
        (list_ended (list_taken txn k o (is_fault rep) mark all).0 (list_taken txn k o (is_fault rep) mark all).1))
    by None = listed_on (record txn { outs = left txn.outs k (is_fault rep) mark; wave = taken txn.wave k false }) false all refl refl locks (λ g. left_places txn.outs k mark (is_fault rep) (five g))
    by (Some cells) = listed_on (record txn { wave = taken txn.wave k true }) true (with_cells all cells) refl refl locks five

  -- ---- one replica at a time

  step_on : (after : Txn) (t : Outs × LockStep) → IsStepOf after.size.n after.size.q t → (G → IsStepFrom after.size.n after.locks t) → IsStill G after → OnWith G after.size (lock_step after t ledger live last)
  step_on after (outs, step.Ask at) low from still = locking_on G (record after { outs = outs }) at low still.1.0 from
  step_on after (outs, step.Short) low from still = fail_on G live last (record after { outs = outs }) ledger (still.0, (still.1.0, from))
  step_on after (outs, step.Reached) enough from still = ready_on G live last (reached (record after { outs = outs })) ledger (still.0, (still.1.0, λ g. (from g).0)) (λ g. (from g).1) enough

  lock_goes : (after : Txn) (from : ℕ) → IsStill G after → OnWith G after.size (lock_on after from ledger live last)
  lock_goes after from still = step_on after (next_lock after.outs after.locks after.size.n after.size.q from live last) (step_of after.size.n after.size.q live last after.outs after.locks from)
      (λ g. step_from after.size.n after.size.q from after.outs after.locks live last (still.1.1 g)) still

  locked_on : (rows : Option (List Row)) → is_only k txn.wave.asked ≡ true → k < txn.size.n → AfterWith G txn k (lock_on (lock_taken txn k rows (is_fault rep) mark last) (k + 1) ledger live last)
  locked_on None one low =
      on_last_with false (lock_on (lock_taken txn k None (is_fault rep) mark last) (k + 1) ledger live last) (over_after txn.wave k false one)
      (lock_goes (record txn { outs = left txn.outs k (is_fault rep) mark; wave = taken txn.wave k false }) (k + 1) (over_after txn.wave k false one, (locks, λ g. left_places txn.outs k mark (is_fault rep) (five g))))
  locked_on (Some rows) one low =
      on_last_with true (lock_on (lock_taken txn k (Some rows) (is_fault rep) mark last) (k + 1) ledger live last) (over_after txn.wave k true one)
      (lock_goes (record txn { locks = granted txn.locks k (slice_index last k); shown = with_rows txn.shown k rows; wave = taken txn.wave k true }) (k + 1)
      (over_after txn.wave k true one, (granted_within txn.size.n k (slice_index last k) txn.locks locks low, five)))

  fetched_on : (place : ℕ) (contents : List (Option Content)) (content : Option (Content × ℕ)) → (G → HoldsLocks txn) → is_only k txn.wave.asked ≡ true
      → After G txn k (fetch_taken txn place k contents content (is_fault rep) mark ledger live last)
  fetched_on place contents (Some content) holds one =
      on_last true (fetch_taken txn place k contents (Some content) (is_fault rep) mark ledger live last) (over_after txn.wave k true one)
      (fetch_on G live last (record txn { wave = taken txn.wave k true }) ledger (over_after txn.wave k true one, (locks, five)) holds place (contents ++ Some content.0 ∷ []))
  fetched_on place contents None holds one =
      on_last false (fetch_taken txn place k contents None (is_fault rep) mark ledger live last) (over_after txn.wave k false one)
      (cond_both (is_short (left txn.outs k (is_fault rep) mark) txn.size.n txn.size.q) _ _ (On G txn.size)
      (λ e. fail_on G live last (record txn { outs = left txn.outs k (is_fault rep) mark; wave = taken txn.wave k false }) ledger (over_after txn.wave k false one, (locks, λ g. left_places txn.outs k mark (is_fault rep) (five g))))
      (λ e. fetch_on G live last (record txn { outs = left txn.outs k (is_fault rep) mark; wave = taken txn.wave k false }) ledger (over_after txn.wave k false one, (locks, λ g. left_places txn.outs k mark (is_fault rep) (five g))) (λ g j f. holds g j (used_left txn.size.n txn.outs k mark (is_fault rep) j f)) place contents))

  -- ---- the phase

  alone : (at : ℕ) → is_only at txn.wave.asked ≡ true → is_asked txn.wave k ≡ true → is_only k txn.wave.asked ≡ true
  alone at one asked = subst (λ (i : ℕ). is_only i txn.wave.asked ≡ true) (sym (only_at at k txn.wave.asked one asked)) one

  small : k < txn.size.n → k < 5
  small low = omega (arith, txn.size.few)

  pub phase_on : (p : Phase) → (G → KeepsIn p txn) → suits p txn ≡ true → is_asked txn.wave k ≡ true → AfterWith G txn k (answered_in p txn k rep mark ledger live last)
  phase_on (phase.Locking at) keeps fits asked = locked_on (rows_in rep (length txn.cells)) (alone at fits asked) (within_at txn.size.n k txn.wave.asked within asked)
  phase_on (phase.Unlocking after) keeps fits asked = release_on after
  phase_on (phase.Fetching place from contents) keeps fits asked =
      fetched_on place contents (content_in rep (aspect_at (slice_get txn.cells (length contents)))) keeps (alone from fits asked)
  phase_on (phase.Copying sinks parts) keeps fits asked = absurd (true≢false (sym fits))
  phase_on (phase.Marking change) keeps fits asked = mark_on change keeps
  phase_on (phase.Writing change) keeps fits asked = write_on change (λ g. (keeps g).0) (λ g. heard_one txn.size.n k mark rep txn.outs txn.wave (small (within_at txn.size.n k txn.wave.asked within asked)) asked (keeps g).1)
  phase_on (phase.Posting change adopted) keeps fits asked = post_on change adopted keeps
  phase_on (phase.Settling verdict) keeps fits asked = settle_on verdict keeps fits
  phase_on phase.Bearing keeps fits asked = birth_on keeps
  phase_on phase.Opening keeps fits asked = open_on
  phase_on (phase.Listing all) keeps fits asked = list_on all
  phase_on phase.Over keeps fits asked = absurd (true≢false (sym fits))
