use Rattle.std.proofs.Common.{◌≡◌, ◌+◌, List, Bool, ap, length, arith, drop, ◌∙◌}
use Rattle.afr_phases.specs.Flags.{both}
use Rattle.afr_transaction.specs.Parts.{common_from}
use Rattle.afr_transaction.specs.Reads.{sound_on}
use Rattle.afr_transaction.proofs.Steps.{common_more}
use Rattle.afr_transaction.proofs.txn.Txn.common.Goals as goal

pub loop-cell-preserved : goal.loop-cell-preserved
loop-cell-preserved c =
    let made : c.narrow.new.self.flags ≡ both c.loop-cell.common.flags (sound_on c.args.self.now c.loop-cell.c) = c.narrow.ensures ∙ ap (λ (s : List Bool). both c.loop-cell.common.flags s) c.sound_on.ensures in
    record {
      at = omega arith;
      rest = ap (λ (f : List Bool). common_from c.args.self.now f (c.loop-cell.c + 1) (drop (c.loop-cell._cell-index + 1) c.args.self.now.cells)) made
          ∙ common_more c.args.self.now c.loop-cell.c c.loop-cell._cell-index c.loop-cell.common.flags c.args.self.now.cells _ (omega (arith, ap length c.as_slice-cell-items.ensures)) c.loop-cell.invariant.rest;
    }
