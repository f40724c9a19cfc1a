use Rattle.graph_nodes.proofs.fits.fits.Goals as goal

pub returns-then-wired : goal.returns-then-wired
returns-then-wired c = λ yes. record { wired = c.all_wired-wired.ensures c.if-wired.true; fit = c.all_fit.ensures yes }
