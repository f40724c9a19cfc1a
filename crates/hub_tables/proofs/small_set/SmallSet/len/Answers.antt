use Rattle.std.proofs.Common.{◌<◌, ◌^◌, arith}
use Rattle.hub_tables.proofs.SmallSets.{ones_numbers}
use Rattle.hub_tables.proofs.small_set.SmallSet.len.Goals as goal

pub returns-clause-value : goal.returns-clause-value
returns-clause-value c = let h = c.well_formed in ones_numbers c.args.self (omega arith)
