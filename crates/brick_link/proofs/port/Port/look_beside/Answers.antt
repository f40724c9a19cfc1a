use Rattle.std.proofs.Common.{rules}
use Rattle.brick_link.specs.Ends.{IsLooked}
use Rattle.brick_link.proofs.Looks.{seen_longer}
use Rattle.brick_link.proofs.port.Port.look_beside.Goals as goal

pub returns-clause-here : goal.returns-clause-here
returns-clause-here c = rw (← c.self.view_is) (record { same = search rules; free = search rules; seen = seen_longer _ _ _ c.slots_beside.ensures.consumer.2 c.slots_beside-2.ensures.looked.2 }, search rules)
