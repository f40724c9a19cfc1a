use Rattle.std.proofs.Common.{◌≡◌, ◌⊎◌, refl}
use Rattle.fop_types.specs.declared.cells.Cell.{Cell}
use Rattle.afr_ledger.specs.Ledger.{State}
use Rattle.afr_transaction.specs.declared.phase.Phase.TheVariants as phase
use Rattle.afr_transaction.specs.declared.txn.Txn.{Txn}
use Rattle.afr_transaction.specs.Changes.{post_decided}
use Rattle.afr_transaction.specs.Settles.{settle_decided}
use Rattle.afr_transaction.proofs.Turned.{on_err, given_err, after_unlock, after_mark, after_op, after_post, after_settle, after_birth, after_open}
use Rattle.afr_transaction.proofs.txn.Txn.answer.Goals as goal

pub returns-in-Unlocking-clause-turn : goal.returns-in-Unlocking-clause-turn
returns-in-Unlocking-clause-turn c =
    after_unlock c.args.self.now c.args.replica c.args.rep c.args.mark c.args.ledger.now c.args.live c.args.last.now
    c.replace-phase.result c.replace-phase.new.dest c.take_reply.new.self c.replace-phase.ensures.value c.replace-phase.ensures.after c.take_reply.ensures
    c.in-Unlocking.after c.in-Unlocking.is c.unlock_answered.new.self c.unlock_answered.result c.unlock_answered.ensures

pub returns-in-Marking-clause-turn : goal.returns-in-Marking-clause-turn
returns-in-Marking-clause-turn c =
    after_mark c.args.self.now c.args.replica c.args.rep c.args.mark c.args.ledger.now c.args.live c.args.last.now
    c.replace-phase.result c.replace-phase.new.dest c.take_reply-in-Marking.new.self c.replace-phase.ensures.value c.replace-phase.ensures.after c.take_reply-in-Marking.ensures
    c.in-Marking.change c.in-Marking.is c.mark_answered.new.self c.mark_answered.new.ledger c.mark_answered.result c.mark_answered.ensures.turn

pub returns-in-Writing-clause-turn : goal.returns-in-Writing-clause-turn
returns-in-Writing-clause-turn c =
    after_op c.args.self.now c.args.replica c.args.rep c.args.mark c.args.ledger.now c.args.live c.args.last.now
    c.replace-phase.result c.replace-phase.new.dest c.take_reply-in-Writing.new.self c.replace-phase.ensures.value c.replace-phase.ensures.after c.take_reply-in-Writing.ensures
    c.in-Writing.change c.in-Writing.is c.write_answered.new.self c.write_answered.result c.write_answered.ensures

pub returns-in-Posting-clause-turn : goal.returns-in-Posting-clause-turn
returns-in-Posting-clause-turn c =
    after_post c.args.self.now c.args.replica c.args.rep c.args.mark c.args.ledger.now c.args.live c.args.last.now
    c.replace-phase.result c.replace-phase.new.dest c.take_reply-in-Posting.new.self c.replace-phase.ensures.value c.replace-phase.ensures.after c.take_reply-in-Posting.ensures
    c.in-Posting.change c.in-Posting.adopted c.in-Posting.is c.post_answered.new.self c.post_answered.new.ledger c.post_answered.result c.post_answered.ensures.turn

pub returns-in-Settling-clause-turn : goal.returns-in-Settling-clause-turn
returns-in-Settling-clause-turn c =
    after_settle c.args.self.now c.args.replica c.args.rep c.args.mark c.args.ledger.now c.args.live c.args.last.now
    c.replace-phase.result c.replace-phase.new.dest c.take_reply-in-Settling.new.self c.replace-phase.ensures.value c.replace-phase.ensures.after c.take_reply-in-Settling.ensures
    c.in-Settling.verdict c.in-Settling.is c.settle_answered.new.self c.settle_answered.new.ledger c.settle_answered.result c.settle_answered.ensures.turn

pub returns-in-Bearing-clause-turn : goal.returns-in-Bearing-clause-turn
returns-in-Bearing-clause-turn c =
    after_birth c.args.self.now c.args.replica c.args.rep c.args.mark c.args.ledger.now c.args.live c.args.last.now
    c.replace-phase.result c.replace-phase.new.dest c.take_reply-in-Bearing.new.self c.replace-phase.ensures.value c.replace-phase.ensures.after c.take_reply-in-Bearing.ensures
    c.in-Bearing.is c.birth_answered.new.self c.birth_answered.result c.birth_answered.ensures

pub returns-in-Opening-clause-turn : goal.returns-in-Opening-clause-turn
returns-in-Opening-clause-turn c =
    after_open c.args.self.now c.args.replica c.args.rep c.args.mark c.args.ledger.now c.args.live c.args.last.now
    c.replace-phase.result c.replace-phase.new.dest c.take_reply-in-Opening.new.self c.replace-phase.ensures.value c.replace-phase.ensures.after c.take_reply-in-Opening.ensures
    c.in-Opening.is c.open_answered.new.self c.open_answered.result c.open_answered.ensures

pub returns-in-Unlocking-clause-err : goal.returns-in-Unlocking-clause-err
returns-in-Unlocking-clause-err c =
    given_err c.args.self.now c.args.replica c.args.rep c.args.mark c.args.ledger.now c.args.live c.args.last.now
    c.replace-phase.result c.replace-phase.new.dest c.take_reply.new.self c.replace-phase.ensures.value c.replace-phase.ensures.after c.take_reply.ensures
    (phase.Unlocking c.in-Unlocking.after) (λ (t : Txn) (made : State Cell). made ≡ c.args.ledger.now) c.in-Unlocking.is (λ t made h. h)
    c.args.ledger.now c.unlock_answered.result (on_err c.unlock_answered.result refl)

pub returns-in-Marking-clause-err : goal.returns-in-Marking-clause-err
returns-in-Marking-clause-err c =
    given_err c.args.self.now c.args.replica c.args.rep c.args.mark c.args.ledger.now c.args.live c.args.last.now
    c.replace-phase.result c.replace-phase.new.dest c.take_reply-in-Marking.new.self c.replace-phase.ensures.value c.replace-phase.ensures.after c.take_reply-in-Marking.ensures
    (phase.Marking c.in-Marking.change) (λ (t : Txn) (made : State Cell). made ≡ c.args.ledger.now) c.in-Marking.is (λ t made h. h)
    c.mark_answered.new.ledger c.mark_answered.result c.mark_answered.ensures.err

pub returns-in-Writing-clause-err : goal.returns-in-Writing-clause-err
returns-in-Writing-clause-err c =
    given_err c.args.self.now c.args.replica c.args.rep c.args.mark c.args.ledger.now c.args.live c.args.last.now
    c.replace-phase.result c.replace-phase.new.dest c.take_reply-in-Writing.new.self c.replace-phase.ensures.value c.replace-phase.ensures.after c.take_reply-in-Writing.ensures
    (phase.Writing c.in-Writing.change) (λ (t : Txn) (made : State Cell). made ≡ c.args.ledger.now) c.in-Writing.is (λ t made h. h)
    c.args.ledger.now c.write_answered.result (on_err c.write_answered.result refl)

pub returns-in-Posting-clause-err : goal.returns-in-Posting-clause-err
returns-in-Posting-clause-err c =
    given_err c.args.self.now c.args.replica c.args.rep c.args.mark c.args.ledger.now c.args.live c.args.last.now
    c.replace-phase.result c.replace-phase.new.dest c.take_reply-in-Posting.new.self c.replace-phase.ensures.value c.replace-phase.ensures.after c.take_reply-in-Posting.ensures
    (phase.Posting c.in-Posting.change c.in-Posting.adopted) (λ (t : Txn) (made : State Cell). (made ≡ c.args.ledger.now) ⊎ (made ≡ (post_decided t c.in-Posting.change c.in-Posting.adopted c.args.ledger.now).1)) c.in-Posting.is (λ t made h. h)
    c.post_answered.new.ledger c.post_answered.result c.post_answered.ensures.err

pub returns-in-Settling-clause-err : goal.returns-in-Settling-clause-err
returns-in-Settling-clause-err c =
    given_err c.args.self.now c.args.replica c.args.rep c.args.mark c.args.ledger.now c.args.live c.args.last.now
    c.replace-phase.result c.replace-phase.new.dest c.take_reply-in-Settling.new.self c.replace-phase.ensures.value c.replace-phase.ensures.after c.take_reply-in-Settling.ensures
    (phase.Settling c.in-Settling.verdict) (λ (t : Txn) (made : State Cell). (made ≡ c.args.ledger.now) ⊎ (made ≡ (settle_decided t c.in-Settling.verdict c.args.ledger.now).1)) c.in-Settling.is (λ t made h. h)
    c.settle_answered.new.ledger c.settle_answered.result c.settle_answered.ensures.err

pub returns-in-Bearing-clause-err : goal.returns-in-Bearing-clause-err
returns-in-Bearing-clause-err c =
    given_err c.args.self.now c.args.replica c.args.rep c.args.mark c.args.ledger.now c.args.live c.args.last.now
    c.replace-phase.result c.replace-phase.new.dest c.take_reply-in-Bearing.new.self c.replace-phase.ensures.value c.replace-phase.ensures.after c.take_reply-in-Bearing.ensures
    phase.Bearing (λ (t : Txn) (made : State Cell). made ≡ c.args.ledger.now) c.in-Bearing.is (λ t made h. h)
    c.args.ledger.now c.birth_answered.result (on_err c.birth_answered.result refl)

pub returns-in-Opening-clause-err : goal.returns-in-Opening-clause-err
returns-in-Opening-clause-err c =
    given_err c.args.self.now c.args.replica c.args.rep c.args.mark c.args.ledger.now c.args.live c.args.last.now
    c.replace-phase.result c.replace-phase.new.dest c.take_reply-in-Opening.new.self c.replace-phase.ensures.value c.replace-phase.ensures.after c.take_reply-in-Opening.ensures
    phase.Opening (λ (t : Txn) (made : State Cell). made ≡ c.args.ledger.now) c.in-Opening.is (λ t made h. h)
    c.args.ledger.now c.open_answered.result (on_err c.open_answered.result refl)
