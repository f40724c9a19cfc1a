use Rattle.std.proofs.Common.{sym, ap, ◌∙◌}
use Rattle.std.specs.BTreeMap.{is_at}
use Rattle.std.specs.Ordering.{nat_cmp}
use Rattle.graph_nodes.proofs.Together.{dropped_by, gone_numbers}
use Rattle.graph_nodes.specs.Seen.{seen_in}
use Rattle.graph_nodes.proofs.Seen.{gone_seen}
use Rattle.graph_nodes.proofs.making.remove_in.Goals as goal

pub returns-then-drained-clause-live : goal.returns-then-drained-clause-live
returns-then-drained-clause-live c = λ mount all. dropped_by c.args.live.now c.remove.new.self c.args.number mount (c.is_drained_in-drained.ensures.frames c.if-drained.true) c.remove.ensures.updates.0 all

pub returns-then-drained-clause-numbers : goal.returns-then-drained-clause-numbers
returns-then-drained-clause-numbers c = gone_numbers c.args.live.now c.remove.new.self c.args.number c.remove.ensures.updates.0

pub returns-clause-live : goal.returns-clause-live
returns-clause-live c = λ mount all. all

pub returns-then-drained-clause-drained : goal.returns-then-drained-clause-drained
returns-then-drained-clause-drained c = sym c.if-drained.true ∙ c.is_drained_in-drained.ensures.drained

pub returns-clause-drained : goal.returns-clause-drained
returns-clause-drained c = sym c.if-drained.false ∙ c.is_drained_in-drained.ensures.drained

pub returns-then-drained-clause-graphs : goal.returns-then-drained-clause-graphs
returns-then-drained-clause-graphs c = ap seen_in c.remove.ensures.entries ∙ gone_seen (is_at (nat_cmp c.args.number)) c.args.live.now.entries
