use Rattle.report_text.proofs.text.Text.+octal.Given as goal

abbrev pub decreases-octal : goal.decreases-octal
decreases-octal l = l.number
