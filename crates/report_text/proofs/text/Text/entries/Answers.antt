use Rattle.report_text.proofs.Entries.{text_with_entry}
use Rattle.report_text.proofs.text.Text.entries.Goals as goal

pub loop-at-preserved : goal.loop-at-preserved
loop-at-preserved c = text_with_entry _ _ _ c.args.history.now c.loop-at.at _ c.loop-at-test.true c.loop-at.invariant c.in_ok-entry.ensures
