use Rattle.std.proofs.Common.{◌≡◌, drop}
use Rattle.run_report.specs.Reports.{set_among}
use Rattle.run_report.proofs.names.Names.set_plan.Given as goal

abbrev pub invariant-loop-volfile : goal.invariant-loop-volfile
invariant-loop-volfile l = set_among l.self.plans (drop l.volfile-index l.self.volfiles) l.set ≡ set_among l.self.plans l.self.volfiles l.set
