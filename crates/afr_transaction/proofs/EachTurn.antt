-- Every turn of a transaction: its begin, an answer, and a copy that is done.
use Rattle.std.proofs.Common.{◌≡◌, ◌∙◌, ℕ, Bool, true, false, ◌&&◌, not, cond, List, [], Option, Some, None, is_none, refl, sym, ap, subst}
use Rattle.std.proofs.lemmas.Bool.{cond_both, and_from, and_parts, true≢false}
use Rattle.fop_types.specs.declared.cells.Cell.{Cell}
use Rattle.fop_types.specs.declared.cells.Gfid.{Gfid}
use Rattle.fop_types.specs.declared.contents.Mask.{Mask}
use Rattle.fop_types.specs.declared.copy_jobs.CopyDone.{CopyDone}
use Rattle.fop_types.specs.declared.jobs.Job.{Job}
use Rattle.fop_types.specs.declared.jobs.SetPlan.{SetPlan}
use Rattle.fop_types.specs.declared.jobs.SetReply.TheVariants as reply
use Rattle.fop_types.specs.declared.messages.BrickRep.{BrickRep}
use Rattle.fop_types.specs.declared.messages.BrickReq.TheVariants as req
use Rattle.afr_ledger.specs.Ledger.{State}
use Rattle.afr_phases.specs.Asked.{is_waiting, are_granted_within}
use Rattle.afr_phases.specs.Flags.{flags_of, lowest}
use Rattle.afr_phases.specs.Outs.{is_short}
use Rattle.afr_phases.specs.Waves.{is_asked, is_over}
use Rattle.afr_phases.proofs.Grants.{none_granted}
use Rattle.afr_phases.proofs.Reached.{kept_places}
use Rattle.afr_phases.proofs.Truths.{lowest_there}
use Rattle.afr_transaction.specs.declared.jobs.Kind.{Kind}
use Rattle.afr_transaction.specs.declared.jobs.Kind.TheVariants as kind
use Rattle.afr_transaction.specs.declared.phase.Phase.{Phase}
use Rattle.afr_transaction.specs.declared.phase.Phase.TheVariants as phase
use Rattle.afr_transaction.specs.declared.size.Size.{Size}
use Rattle.afr_transaction.specs.declared.txn.Txn.{Txn}
use Rattle.afr_transaction.specs.Answers.{answered, copied_in, copied, idle}
use Rattle.afr_transaction.specs.Begins.{fresh, started_by, started}
use Rattle.afr_transaction.specs.Jobs.{kind_of}
use Rattle.afr_transaction.specs.Polls.{polled, open_ended, opening, list_ended, listing}
use Rattle.afr_transaction.specs.Requests.{Keeps, KeepsIn, Sends, BeginsSend, AnswersSend, CopiesSend}
use Rattle.afr_transaction.specs.Shapes.{suits, are_copies, is_asking, is_copying, GoesOn, AfterAnswer, BeginsGoOn, AnswersGoOn, CopiesGoOn}
use Rattle.afr_transaction.specs.Txns.{alive, io_of}
use Rattle.afr_transaction.proofs.TurnsAnswers.{AfterWith, phase_on}
use Rattle.afr_transaction.proofs.TurnsBase.{On, OnWith, IsStill, asks_alive, over_on}
use Rattle.afr_transaction.proofs.TurnsCopies.{taken_on}
use Rattle.afr_transaction.proofs.TurnsLocked.{again_on}

-- ---- the begin

module _ (G : Type 0) (txn : Txn) (still : IsStill G txn) where
  open_on : (fd : ℕ) (gfid : Gfid) → kind_of txn.job ≡ kind.Open fd gfid → On G txn.size (opening txn fd gfid)
  open_on fd gfid is =
      cond_both (is_none (lowest (alive txn))) _ _ (On G txn.size)
      (λ e. cond_both (is_short txn.outs txn.size.n txn.size.q) _ _ (On G txn.size) (λ s. over_on G txn (reply.Io (io_of txn)) still.0) (λ s. over_on G txn reply.Opened still.0))
      (λ e. let some = lowest_there (alive txn) e in asks_alive G txn (req.Open fd gfid) phase.Opening still.1.0 still.1.1 some.0 some.1.0 refl (λ g. tt) (λ g j f. record { fd = fd; gfid = gfid; at = is; is = refl }))

  list_on : On G txn.size (listing txn)
  list_on =
      cond_both (is_none (lowest (alive txn))) _ _ (On G txn.size) (λ e. ((refl, still.0), λ g. tt))
      (λ e. let some = lowest_there (alive txn) e in asks_alive G txn req.Index (phase.Listing []) still.1.0 still.1.1 some.0 some.1.0 refl (λ g. tt) (λ g j f. refl))

kind_on : (G : Type 0) (k : Kind) (txn : Txn) (ledger : State Cell) (live : Mask) (last : List ℕ) → kind_of txn.job ≡ k → IsStill G txn → On G txn.size (started_by k txn ledger live last)
kind_on G kind.Read txn ledger live last is still = again_on G live last txn ledger still.0 still.1.1
kind_on G kind.Change txn ledger live last is still = again_on G live last txn ledger still.0 still.1.1
kind_on G kind.Birth txn ledger live last is still = again_on G live last txn ledger still.0 still.1.1
kind_on G kind.Heal txn ledger live last is still = again_on G live last txn ledger still.0 still.1.1
kind_on G (kind.Open fd gfid) txn ledger live last is still =
    open_on G (polled txn live last) (still.0, (still.1.0, λ g. kept_places txn.outs (flags_of live) txn.size.n last (still.1.1 g))) fd gfid is
kind_on G kind.Index txn ledger live last is still =
    list_on G (polled txn live last) (still.0, (still.1.0, λ g. kept_places txn.outs (flags_of live) txn.size.n last (still.1.1 g)))

begun : (size : Size) (set : SetPlan) (call : ℕ) (job : Job) (ledger : State Cell) (live : Mask) (last : List ℕ) → On (Unit {0}) size (started (fresh size set call job) ledger live last)
begun size set call job ledger live last = kind_on (Unit {0}) (kind_of job) (fresh size set call job) ledger live last refl (refl, (none_granted size.n, λ g. refl))

pub begins : BeginsGoOn
begins size set call job ledger live last = (begun size set call job ledger live last).0

pub begin_sends : BeginsSend
begin_sends size set call job ledger live last = (begun size set call job ledger live last).1 tt

-- ---- an answer

kept : (txn : Txn) (p : Phase) → KeepsIn p txn → KeepsIn p (idle txn)
kept txn (phase.Locking at) h = h
kept txn (phase.Unlocking after) h = h
kept txn (phase.Fetching place from contents) h = h
kept txn (phase.Copying sinks parts) h = h
kept txn (phase.Marking change) h = h
kept txn (phase.Writing change) h = h
kept txn (phase.Posting change adopted) h = h
kept txn (phase.Settling verdict) h = h
kept txn phase.Bearing h = h
kept txn phase.Opening h = h
kept txn (phase.Listing all) h = h
kept txn phase.Over h = h

heard : (txn : Txn) (k mark : ℕ) (rep : BrickRep) (ledger : State Cell) (live : Mask) (last : List ℕ) → is_asking txn ≡ true → is_asked txn.wave k ≡ true
    → AfterWith (Keeps txn) (idle txn) k (answered txn k rep mark ledger live last)
heard txn k mark rep ledger live last asking asked =
    let a = and_parts (is_waiting txn.size.n txn.wave) (are_granted_within txn.size.n txn.locks && suits txn.phase txn) asking in
    let b = and_parts (are_granted_within txn.size.n txn.locks) (suits txn.phase txn) a.1 in
    phase_on (Keeps txn) live last ledger (idle txn) k mark rep a.0 b.0 (λ g. g.places) txn.phase (λ g. kept txn txn.phase g.locks) (same txn.phase b.1) asked
  where
    same : (p : Phase) → suits p txn ≡ true → suits p (idle txn) ≡ true
    same (phase.Locking at) h = h
    same (phase.Unlocking after) h = h
    same (phase.Fetching place from contents) h = h
    same (phase.Copying sinks parts) h = h
    same (phase.Marking change) h = h
    same (phase.Writing change) h = h
    same (phase.Posting change adopted) h = h
    same (phase.Settling verdict) h = h
    same phase.Bearing h = h
    same phase.Opening h = h
    same (phase.Listing all) h = h
    same phase.Over h = h

pub answers : AnswersGoOn
answers txn k mark rep ledger live last asking asked = (heard txn k mark rep ledger live last asking asked).0

pub answer_sends : AnswersSend
answer_sends txn k mark rep ledger live last asking keeps asked = (heard txn k mark rep ledger live last asking asked).1 keeps

-- ---- a copy that is done

copy_on : (G : Type 0) (p : Phase) (txn : Txn) (done : CopyDone) (ledger : State Cell) (live : Mask) (last : List ℕ) → IsStill G txn → (G → KeepsIn p txn) → are_copies p ≡ true → OnWith G txn.size (copied_in p txn done ledger live last)
copy_on G (phase.Copying sinks parts) txn done ledger live last still keeps h = taken_on G live last txn sinks parts done ledger h still keeps
copy_on G (phase.Locking at) txn done ledger live last still keeps h = absurd (true≢false (sym h))
copy_on G (phase.Unlocking after) txn done ledger live last still keeps h = absurd (true≢false (sym h))
copy_on G (phase.Fetching place from contents) txn done ledger live last still keeps h = absurd (true≢false (sym h))
copy_on G (phase.Marking change) txn done ledger live last still keeps h = absurd (true≢false (sym h))
copy_on G (phase.Writing change) txn done ledger live last still keeps h = absurd (true≢false (sym h))
copy_on G (phase.Posting change adopted) txn done ledger live last still keeps h = absurd (true≢false (sym h))
copy_on G (phase.Settling verdict) txn done ledger live last still keeps h = absurd (true≢false (sym h))
copy_on G phase.Bearing txn done ledger live last still keeps h = absurd (true≢false (sym h))
copy_on G phase.Opening txn done ledger live last still keeps h = absurd (true≢false (sym h))
copy_on G (phase.Listing all) txn done ledger live last still keeps h = absurd (true≢false (sym h))
copy_on G phase.Over txn done ledger live last still keeps h = absurd (true≢false (sym h))

done_on : (txn : Txn) (done : CopyDone) (ledger : State Cell) (live : Mask) (last : List ℕ) → is_copying txn ≡ true → OnWith (Keeps txn) txn.size (copied txn done ledger live last)
done_on txn done ledger live last copying =
    let a = and_parts (is_over txn.wave) (are_granted_within txn.size.n txn.locks && are_copies txn.phase) copying in
    let b = and_parts (are_granted_within txn.size.n txn.locks) (are_copies txn.phase) a.1 in
    copy_on (Keeps txn) txn.phase (idle txn) done ledger live last (a.0, (b.0, λ g. g.places)) (λ g. kept txn txn.phase g.locks) b.1

pub copies : CopiesGoOn
copies txn done ledger live last copying = (done_on txn done ledger live last copying).0

pub copy_sends : CopiesSend
copy_sends txn done ledger live last copying keeps = (done_on txn done ledger live last copying).1 keeps
