use Rattle.std.proofs.Common.{◌≡◌, ◌+◌, ◌≤◌, ◌++◌, length, take, drop}
use Rattle.rtrb.specs.Ring.{sent, received, known_free, known_items}
use Rattle.brick_link.specs.Ends.{ring_into, ring_from}
use Rattle.brick_link.proofs.port.Port.send.Given as goal

abbrev pub invariant-loop-count : goal.invariant-loop-count
invariant-loop-count l = record {
  waiting : l.waiting ≡ length l.fn.self.backlog;
  backlog : l.self-inside.backlog.items ≡ drop l.count l.fn.self.backlog;
  sent : sent l.self-inside.producer ≡ l.fn.self.sent ++ take l.count l.fn.self.backlog;
  received : received l.self-inside.consumer ≡ l.fn.self.received;
  seen : known_items l.self-inside.consumer ≡ l.fn.self.seen;
  outward : ring_into l.self-inside.producer ≡ l.fn.self.outward;
  inward : ring_from l.self-inside.consumer ≡ l.fn.self.inward;
  free : l.fn.self.free ≤ known_free l.self-inside.producer + l.count;
}
