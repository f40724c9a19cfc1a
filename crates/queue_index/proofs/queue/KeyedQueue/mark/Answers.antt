use Rattle.std.proofs.Common.{sym, ap, ◌∙◌}
use Rattle.std.specs.BTreeMap.{is_at}
use Rattle.std.specs.Map.{set_value}
use Rattle.std.specs.Ordering.{nat_cmp}
use Rattle.queue_index.proofs.Entries.{changed_is, changed_no}
use Rattle.queue_index.proofs.queue.KeyedQueue.mark.Goals as goal

pub returns-in_default : goal.returns-in_default
returns-in_default g c = rw (← c.self.view_is) (ap (λ m. m.entries) c.get_mut.follows.holds-at-none ∙ sym (changed_no g.T.Keyed.marked c.args.number c.self.inside.held.entries (sym c.in_default.ensures.value)))

pub returns : goal.returns
returns g c = rw (← c.self.view_is) ((c.get_mut.follows.holds c.mark.new.self).0 ∙ ap (λ w. set_value (is_at (nat_cmp c.args.number)) c.self.inside.held.entries w) c.mark.ensures ∙ changed_is g.T.Keyed.marked c.args.number c.in-Some.item.now c.self.inside.held.entries c.self.invariant.rising (sym c.in-Some.ensures.value))
