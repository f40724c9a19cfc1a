use Rattle.std.proofs.Common.{◌≡◌, take}
use Rattle.afr_phases.specs.Outs.{outs_listed}
use Rattle.afr_phases.proofs.outs.Outs.list.Given as goal

abbrev pub invariant-loop-out : goal.invariant-loop-out
invariant-loop-out l = l.list.items ≡ outs_listed (take l.out-index l.self.at)
