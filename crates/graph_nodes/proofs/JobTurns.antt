-- A job begins on what its node sees of the connections, and goes on once the records of a copy are kept.
use Rattle.std.proofs.Common.{◌≡◌, ℕ, List, Result, IfOk, length, subst}
use Rattle.fop_types.specs.declared.contents.Mask.{Mask}
use Rattle.fop_types.specs.declared.copy_jobs.CopyDone.{CopyDone}
use Rattle.fop_types.specs.declared.jobs.Job.{Job}
use Rattle.fop_types.specs.declared.jobs.SetPlan.{SetPlan}
use Rattle.afr_transaction.specs.Answers.{copied}
use Rattle.afr_transaction.specs.Begins.{IsBegun as TxnIsBegun}
use Rattle.afr_transaction.specs.declared.need.Need.{Need}
use Rattle.afr_transaction.specs.declared.txn.Txn.{Txn}
use Rattle.xlator_law.specs.declared.step.Step.{Step}
use Rattle.graph_items.specs.declared.items.Down.{Down}
use Rattle.graph_items.specs.declared.items.Up.{Up}
use Rattle.graph_nodes.specs.declared.context.Context.{Context}
use Rattle.graph_nodes.specs.declared.locals.Local.{Local}
use Rattle.graph_nodes.specs.Costs.{requests_for}
use Rattle.graph_nodes.specs.Replicate.{live, lasts, went, turned, recorded, on_copy_done, IsTurn, IsJobBegun}

pub job_begun : (plan : SetPlan) (old new : Context) (call requests : ℕ) (j : Job) (step : Step Down Up Local) (txn : Txn) (need : Need) (at_live : Mask) (at_last : List ℕ)
    → TxnIsBegun txn need plan call j old.ledger at_live at_last
    → at_live ≡ live plan old.clients → at_last ≡ lasts plan old.clients → requests ≡ requests_for (length plan.bricks)
    → IsTurn (went plan txn requests old need) step new → IsJobBegun plan old call j step new
job_begun plan old new call requests j step txn need at_live at_last begun live_is last_is count turn = record {
  txn = txn;
  need = need;
  begun = subst (λ (m : Mask). TxnIsBegun txn need plan call j old.ledger m (lasts plan old.clients)) live_is
      (subst (λ (l : List ℕ). TxnIsBegun txn need plan call j old.ledger at_live l) last_is begun);
  turn = subst (λ (n : ℕ). IsTurn (went plan txn n old need) step new) count turn;
}

pub recorded_turn : {E : Type 0} (plan : SetPlan) (requests : ℕ) (old mid new : Context) (txn : Txn) (done : CopyDone) (result : Result (Step Down Up Local) E)
    → mid ≡ recorded plan.bricks old done.records
    → IfOk result (λ step. IsTurn (turned plan requests mid (copied txn done mid.ledger (live plan mid.clients) (lasts plan mid.clients))) step new)
    → IfOk result (λ step. IsTurn (on_copy_done plan requests old txn done) step new)
recorded_turn plan requests old mid new txn done result is h =
    subst (λ (c : Context). IfOk result (λ step. IsTurn (turned plan requests c (copied txn done c.ledger (live plan c.clients) (lasts plan c.clients))) step new)) is h
