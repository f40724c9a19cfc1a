use Rattle.script_commands.proofs.VerdictLemmas.{bad_report, bad_script, fault_unwritten, fault_written, no_report}
use Rattle.script_commands.proofs.verdicts.write_replayed.Goals as goal

pub returns-in-NoReport-clause-refused : goal.returns-in-NoReport-clause-refused
returns-in-NoReport-clause-refused g c = λ one. fault_written _ _ c.args.text.now _ (no_report c.args.text.now c.args.replayed c.in-NoReport.lines c.requires.few c.requires.said c.in-NoReport.is) (c.write_fault.ensures.refused one)

pub returns-in-NoReport-clause-short : goal.returns-in-NoReport-clause-short
returns-in-NoReport-clause-short g c = λ four. fault_unwritten _ _ c.args.text.now _ (no_report c.args.text.now c.args.replayed c.in-NoReport.lines c.requires.few c.requires.said c.in-NoReport.is) (c.write_fault.ensures.write_fault four).1

pub returns-in-Refused-clause-refused : goal.returns-in-Refused-clause-refused
returns-in-Refused-clause-refused g c = λ one. fault_written _ _ c.args.text.now _ (bad_script c.args.text.now c.args.replayed c.in-Refused.refusal c.requires.few c.requires.said c.in-Refused.is) (c.refuse.ensures.refused one)

pub returns-in-Refused-clause-short : goal.returns-in-Refused-clause-short
returns-in-Refused-clause-short g c = λ four. fault_unwritten _ _ c.args.text.now _ (bad_script c.args.text.now c.args.replayed c.in-Refused.refusal c.requires.few c.requires.said c.in-Refused.is) (c.refuse.ensures.write_fault four).1

pub returns-in-BadReport-clause-refused : goal.returns-in-BadReport-clause-refused
returns-in-BadReport-clause-refused g c = λ one. fault_written _ _ c.args.text.now _ (bad_report c.args.text.now c.args.replayed c.in-BadReport.line c.requires.few c.requires.said c.in-BadReport.is) (c.write_fault-in-BadReport.ensures.refused one)

pub returns-in-BadReport-clause-short : goal.returns-in-BadReport-clause-short
returns-in-BadReport-clause-short g c = λ four. fault_unwritten _ _ c.args.text.now _ (bad_report c.args.text.now c.args.replayed c.in-BadReport.line c.requires.few c.requires.said c.in-BadReport.is) (c.write_fault-in-BadReport.ensures.write_fault four).1
