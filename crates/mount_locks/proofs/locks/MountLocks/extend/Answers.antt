use Rattle.std.proofs.Common.{refl, ap, ◌∙◌, List, [], ◌∷◌, ◌++◌}
use Rattle.fop_types.specs.declared.cells.Gfid.{Gfid}
use Rattle.mount_locks.specs.Rule.{extension_of}
use Rattle.mount_locks.proofs.Asking.{extended_in, front_waits}
use Rattle.mount_locks.proofs.Once.{extend_once}
use Rattle.mount_locks.proofs.locks.MountLocks.extend.Goals as goal

pub invariant_of-self-2 : goal.invariant_of-self-2
invariant_of-self-2 c = (extended_in c.self.inside.queue c.push_front.new.self c.settle-held.new.queue c.in_ok-number.number c.args.call c.push.new.self (c.args.gfid ∷ []) c.settle-held.result c.numbers_rise.ensures (c.in_ok-push.ensures.ok ∙ ap (λ (l : List Gfid). l ++ c.args.gfid ∷ []) c.new-gfids.ensures) c.in_ok-number.ensures.added c.numbers_rise-2.ensures c.self.invariant c.settle-held.ensures.turned c.settle-held.ensures.held c.settle-held.ensures.unpassed).settled

pub returns-clause-answer : goal.returns-clause-answer
returns-clause-answer c = rw (← c.self.view_is) (extended_in c.self.inside.queue c.push_front.new.self c.settle-held.new.queue c.in_ok-number.number c.args.call c.push.new.self (c.args.gfid ∷ []) c.settle-held.result c.numbers_rise.ensures (c.in_ok-push.ensures.ok ∙ ap (λ (l : List Gfid). l ++ c.args.gfid ∷ []) c.new-gfids.ensures) c.in_ok-number.ensures.added c.numbers_rise-2.ensures c.self.invariant c.settle-held.ensures.turned c.settle-held.ensures.held c.settle-held.ensures.unpassed).answer_is

pub returns-clause-ok : goal.returns-clause-ok
returns-clause-ok c = rw (← c.self.view_is) (extended_in c.self.inside.queue c.push_front.new.self c.settle-held.new.queue c.in_ok-number.number c.args.call c.push.new.self (c.args.gfid ∷ []) c.settle-held.result c.numbers_rise.ensures (c.in_ok-push.ensures.ok ∙ ap (λ (l : List Gfid). l ++ c.args.gfid ∷ []) c.new-gfids.ensures) c.in_ok-number.ensures.added c.numbers_rise-2.ensures c.self.invariant c.settle-held.ensures.turned c.settle-held.ensures.held c.settle-held.ensures.unpassed).queue_is

pub returns-clause-once : goal.returns-clause-once
returns-clause-once c = extend_once c.args.self.now _ (extension_of c.args.call (c.args.gfid ∷ [])) refl (returns-clause-ok c)

pub settle-held-requires : goal.settle-held-requires
settle-held-requires c = front_waits c.self.inside.queue c.push_front.new.self c.in_ok-number.number (extension_of c.args.call c.push.new.self) c.numbers_rise.ensures refl refl c.in_ok-number.ensures.added c.self.invariant
