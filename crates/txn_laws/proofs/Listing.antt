-- An I/O error for lack of replicas lists all that are out.
use Rattle.std.proofs.Common.{◌≡◌, ◌∙◌, ◌+◌, Bool, true, false, if◌then◌else◌, Option, Some, None, sym, subst}
use Rattle.std.proofs.lemmas.Bool.{true≢false}
use Rattle.fop_types.specs.declared.answers.IoError.{IoError}
use Rattle.fop_types.specs.declared.cells.Cell.{Cell}
use Rattle.fop_types.specs.declared.jobs.SetReply.{SetReply}
use Rattle.fop_types.specs.declared.jobs.SetReply.TheVariants as reply
use Rattle.afr_ledger.specs.Ledger.{State}
use Rattle.afr_phases.specs.declared.outs.Outs.{Outs}
use Rattle.afr_phases.specs.Answers.{is_fault}
use Rattle.afr_phases.specs.Locking.{next_lock}
use Rattle.afr_phases.specs.Outs.{left}
use Rattle.afr_transaction.specs.declared.txn.Txn.{Txn}
use Rattle.afr_transaction.specs.Answers.{answered, copied, idle}
use Rattle.afr_transaction.specs.Copies.{with_outs}
use Rattle.afr_transaction.specs.Locked.{lock_taken}
use Rattle.txn_laws.specs.Granted.{is_as_asked}
use Rattle.txn_laws.specs.Lists.{AreOutStill, error_in, ListsAll, AnswersList, CopiesList}
use Rattle.txn_laws.specs.Own.{IsSameJob}
use Rattle.txn_laws.proofs.Failures.{Any, any_reached, Said, DecidedSaid, IsKeptOrSaid, ReplySaid, answers_said, copies_said}
use Rattle.txn_laws.proofs.Known.{answers_stay, copies_stay}

-- all of these are out
module _ (outs : Outs) where
  abbrev All : Outs → Type 0
  All after = AreOutStill outs after

  more : (a b : Outs) → AreOutStill a b → All a → All b
  more a b f g k out h = f k out (g k out h)

  error_said : (now : Txn) (ledger : State Cell) (r : SetReply) (error : IoError) → ReplySaid Any All more now ledger r → error_in r ≡ Some error → Said Any All more now ledger error
  error_said now ledger (reply.Contents contents place) error said e = absurd cc
  error_said now ledger (reply.Decided number) error said e = absurd cc
  error_said now ledger reply.Opened error said e = absurd cc
  error_said now ledger (reply.Listed cells answered None) error said e = absurd cc
  error_said now ledger (reply.Listed cells answered (Some other)) error said e = let same : other ≡ error = cc in subst (λ (x : IoError). Said Any All more now ledger x) same said
  error_said now ledger (reply.Healed records) error said e = absurd cc
  error_said now ledger (reply.Skipped cause) error said e = absurd cc
  error_said now ledger (reply.Io other) error said e = let same : other ≡ error = cc in subst (λ (x : IoError). Said Any All more now ledger x) same said

  lists : (txn now : Txn) (ledger : State Cell) (error : IoError) → IsSameJob txn now → Said Any All more now ledger error → ListsAll txn now ledger error outs
  lists txn now ledger error stay said = record {
    job = said.job;
    is = said.is;
    own = record { set = said.own.set ∙ stay.set; size = said.own.size ∙ stay.size; bricks = said.own.bricks ∙ stay.bricks; call = said.own.call ∙ stay.call; job = said.own.job ∙ stay.job };
    cause = said.cause;
    all = said.whole;
  }

-- who is out with an answer
with_asked : (outs gone : Outs) (c : Bool) → c ≡ true → AreOutStill (if c then outs else gone) outs
with_asked outs gone true e = λ k out h. h
with_asked outs gone false e = absurd (true≢false (sym e))

with_other : (outs gone : Outs) (c : Bool) → c ≡ false → AreOutStill (if c then outs else gone) gone
with_other outs gone true e = absurd (true≢false e)
with_other outs gone false e = λ k out h. h

pub answers_list : AnswersList
answers_list txn k mark rep ledger live last r error asking keeps tracks asked none e is =
    let t = answered txn k rep mark ledger live last in
    let gone : Outs = left txn.outs k (is_fault rep) mark in
    let outs : Outs = if is_as_asked txn.phase txn.cells rep then txn.outs else gone in
    let judged = answers_said Any (All outs) (more outs) txn k mark rep ledger live last asking keeps tracks asked
    ((λ c. with_asked txn.outs gone (is_as_asked txn.phase txn.cells rep) c), (λ c. with_other txn.outs gone (is_as_asked txn.phase txn.cells rep) c))
    (λ at a rows b. any_reached (All outs) (more outs) live last (lock_taken (idle txn) k rows (is_fault rep) mark last) (next_lock (lock_taken (idle txn) k rows (is_fault rep) mark last).outs (lock_taken (idle txn) k rows (is_fault rep) mark last).locks txn.size.n txn.size.q (k + 1) live last)) in
    let decided = subst (λ (o : Option SetReply). IsKeptOrSaid Any (All outs) (more outs) o t.0 t.1.1 t.1.0) none judged.1 in
    let said = subst (λ (o : Option SetReply). DecidedSaid Any (All outs) (more outs) t.0 t.1.1 o) e decided in
    lists outs txn t.0 t.1.1 error (answers_stay txn k mark rep ledger live last) (error_said outs t.0 t.1.1 r error said is)

pub copies_list : CopiesList
copies_list txn done ledger live last r error copying keeps e is =
    let t = copied txn done ledger live last in
    let outs : Outs = with_outs txn.size.n txn.outs done.outs in
    let said = subst (λ (o : Option SetReply). DecidedSaid Any (All outs) (more outs) t.0 t.1.1 o) e (copies_said Any (All outs) (more outs) txn done ledger live last copying keeps (λ k out h. h)).1 in
    lists outs txn t.0 t.1.1 error (copies_stay txn done ledger live last) (error_said outs t.0 t.1.1 r error said is)
