-- Each turn of a transaction: what it sends meets its guards.
use Rattle.std.proofs.Common.{ℕ}
use Rattle.afr_phases.specs.declared.wave.Wave.{Wave}
use Rattle.afr_phases.specs.Answers.{is_plain_done}
use Rattle.afr_phases.specs.Waves.{quiet, taken}
use Rattle.afr_transaction.specs.declared.need.Need.{Need}
use Rattle.afr_transaction.specs.declared.need.Need.TheVariants as need
use Rattle.afr_transaction.specs.declared.size.Size.{Size}
use Rattle.afr_transaction.specs.declared.txn.Txn.{Txn}
use Rattle.afr_transaction.specs.Answers.{answered, copied}
use Rattle.afr_transaction.specs.Begins.{fresh, started}
use Rattle.afr_transaction.specs.Shapes.{GoesOn, AfterAnswer}
use Rattle.afr_transaction.proofs.EachTurn.{begins, begin_sends, answers, answer_sends, copies, copy_sends}
use Rattle.txn_machine.specs.Guards.{BeginsMeet, AnswersMeet, CopiesMeet}
use Rattle.txn_machine.proofs.OneRequest.{IsAskingFor, all_met}
use Rattle.txn_machine.proofs.Turns.{begun_fits, answer_fits, done_fits}

asking_on : (size : Size) (txn : Txn) (turned : Need) → GoesOn size txn turned → IsAskingFor txn turned
asking_on size txn (need.Send list) h = h.1.0
asking_on size txn (need.Copy job rows) h = tt
asking_on size txn (need.Reply reply) h = tt
asking_on size txn need.Wait h = tt

asking_after : (size : Size) (k : ℕ) (wave : Wave) (txn : Txn) (turned : Need) → AfterAnswer size k wave txn turned → IsAskingFor txn turned
asking_after size k wave txn (need.Send list) h = h.1.1.0
asking_after size k wave txn (need.Copy job rows) h = tt
asking_after size k wave txn (need.Reply reply) h = tt
asking_after size k wave txn need.Wait h = tt

pub begins_meet : BeginsMeet
begins_meet size set call job ledger live last =
    let fits = begun_fits size set call job ledger live last in (
      fits.0,
      all_met (started (fresh size set call job) ledger live last).0 (started (fresh size set call job) ledger live last).1 quiet ledger live last
          (asking_on size (started (fresh size set call job) ledger live last).0 (started (fresh size set call job) ledger live last).1 (begins size set call job ledger live last))
          (begin_sends size set call job ledger live last) fits.0 fits.1,
    )

pub answers_meet : AnswersMeet
answers_meet txn k mark rep ledger live last asking keeps works asked =
    let fits = answer_fits txn k mark rep ledger live last asking keeps works asked in (
      fits.0,
      all_met (answered txn k rep mark ledger live last).0 (answered txn k rep mark ledger live last).1.0 (taken txn.wave k (is_plain_done rep)) (answered txn k rep mark ledger live last).1.1 live last
          (asking_after txn.size k txn.wave (answered txn k rep mark ledger live last).0 (answered txn k rep mark ledger live last).1.0 (answers txn k mark rep ledger live last asking asked))
          (answer_sends txn k mark rep ledger live last asking keeps asked) fits.0 fits.1,
    )

pub copies_meet : CopiesMeet
copies_meet txn done ledger live last copying keeps works =
    let fits = done_fits txn done ledger live last copying works in (
      fits.0,
      all_met (copied txn done ledger live last).0 (copied txn done ledger live last).1.0 quiet (copied txn done ledger live last).1.1 live last
          (asking_on txn.size (copied txn done ledger live last).0 (copied txn done ledger live last).1.0 (copies txn done ledger live last copying))
          (copy_sends txn done ledger live last copying keeps) fits.0 fits.1,
    )
