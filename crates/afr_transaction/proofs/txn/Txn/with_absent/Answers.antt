use Rattle.std.proofs.Common.{◌≡◌, ℕ, ◌+◌, ◌-◌, ◌∙◌, None, true, false, ap, arith, length}
use Rattle.afr_transaction.specs.Reads.{lacks, with_absent}
use Rattle.afr_transaction.proofs.Steps.{absent_more, absent_stop, one_longer}
use Rattle.afr_transaction.proofs.txn.Txn.with_absent.Goals as goal

pub returns-then-not-lacks : goal.returns-then-not-lacks
returns-then-not-lacks c =
    let off : lacks c.args.self.now c.loop-c.c ≡ false = cc in
    absent_stop c.args.self.now (length c.args.self.now.cells) c.loop-c.c c.loop-c.all c.loop-c.invariant.at (omega arith) off ∙ c.loop-c.invariant.rest
    ∙ ap (λ (m : ℕ). with_absent c.args.self.now c.args.contents (length c.args.self.now.cells - m)) c.len-known.ensures

pub loop-c-preserved : goal.loop-c-preserved
loop-c-preserved c =
    let so : lacks c.args.self.now c.loop-c.c ≡ true = cc in
    record {
      at = ap length c.in_ok-push.ensures.ok ∙ one_longer c.loop-c.all None ∙ ap (λ m. m + 1) c.loop-c.invariant.at;
      rest = absent_more c.args.self.now (length c.args.self.now.cells) c.loop-c.c c.loop-c.all c.loop-c.invariant.at (omega arith) _ c.in_ok-push.ensures.ok so ∙ c.loop-c.invariant.rest;
    }
