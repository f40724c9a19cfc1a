use Rattle.afr_transaction.proofs.Moves.{answers_move, copies_draw}
use Rattle.txn_laws.proofs.Draws.{answers_draw_to_mark, copies_draw_to_mark}
use Rattle.txn_laws.proofs.laws.turns_move_the_ledger.Goals as goal

pub returns-clause-answers : goal.returns-clause-answers
returns-clause-answers c = answers_move

pub returns-clause-copies : goal.returns-clause-copies
returns-clause-copies c = copies_draw

pub returns-clause-draws : goal.returns-clause-draws
returns-clause-draws c = answers_draw_to_mark

pub returns-clause-draws_after_copies : goal.returns-clause-draws_after_copies
returns-clause-draws_after_copies c = copies_draw_to_mark
