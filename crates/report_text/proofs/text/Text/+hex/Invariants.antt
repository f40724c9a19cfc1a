use Rattle.report_text.proofs.text.Text.+hex.Given as goal

abbrev pub decreases-hex : goal.decreases-hex
decreases-hex l = l.count
