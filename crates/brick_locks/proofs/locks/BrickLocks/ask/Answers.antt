use Rattle.std.proofs.Common.{◌≡◌, sym, ap, ◌∙◌, cond, Bool, List, subst}
use Rattle.queue_index.specs.Queue.{items}
use Rattle.brick_locks.specs.declared.request.Request.{Request}
use Rattle.brick_locks.specs.declared.locks.Asked.{Asked}
use Rattle.brick_locks.specs.declared.locks.Asked.TheVariants.{Granted, Queued}
use Rattle.brick_locks.specs.Locks.{request, is_kept_by}
use Rattle.brick_locks.specs.Fate.{fate_after}
use Rattle.brick_locks.proofs.Fates.{fate_in, asked_in}
use Rattle.brick_locks.proofs.Laws.{differ_in}
use Rattle.brick_locks.proofs.locks.BrickLocks.ask.Goals as goal

pub returns-then-is_kept-clause-fate : goal.returns-then-is_kept-clause-fate
returns-then-is_kept-clause-fate c = rw (← c.self.view_is) (ap (λ (b : Bool). cond b Queued Granted) (sym c.if-is_kept.true) ∙ fate_in c.self.inside.queue c.push_back.new.self c.in_ok-number.number (c.from_vec-own.result) c.args.cells.now c.args.owner c.args.shared c.is_kept.result (c.from_vec-own.ensures ∙ c.in_ok-from_slice.ensures.items) c.in_ok-number.ensures.added c.numbers_rise.ensures c.is_kept.ensures)

pub returns-clause-fate : goal.returns-clause-fate
returns-clause-fate c = rw (← c.self.view_is) (ap (λ (b : Bool). cond b Queued Granted) (sym c.if-is_kept.false) ∙ fate_in c.self.inside.queue c.push_back.new.self c.in_ok-number.number (c.from_vec-own.result) c.args.cells.now c.args.owner c.args.shared c.is_kept.result (c.from_vec-own.ensures ∙ c.in_ok-from_slice.ensures.items) c.in_ok-number.ensures.added c.numbers_rise.ensures c.is_kept.ensures)

pub invariant_of-self-then-is_kept : goal.invariant_of-self-then-is_kept
invariant_of-self-then-is_kept c = differ_in c.self.inside.queue c.push_back.new.self c.in_ok-number.number (request c.args.owner c.from_vec-own.result c.args.shared) c.args.self.now c.in_ok-number.ensures.added c.self.view_is c.requires c.self.invariant

pub invariant_of-self-2 : goal.invariant_of-self-2
invariant_of-self-2 c = differ_in c.self.inside.queue c.push_back.new.self c.in_ok-number.number (request c.args.owner c.from_vec-own.result c.args.shared) c.args.self.now c.in_ok-number.ensures.added c.self.view_is c.requires c.self.invariant

pub returns-then-is_kept-clause-asked : goal.returns-then-is_kept-clause-asked
returns-then-is_kept-clause-asked c = asked_in c.self.inside.queue c.push_back.new.self c.in_ok-number.number c.from_vec-own.result c.args.cells.now c.args.owner c.args.shared c.args.self.now (c.from_vec-own.ensures ∙ c.in_ok-from_slice.ensures.items) c.in_ok-number.ensures.added c.self.view_is

pub returns-clause-asked : goal.returns-clause-asked
returns-clause-asked c = asked_in c.self.inside.queue c.push_back.new.self c.in_ok-number.number c.from_vec-own.result c.args.cells.now c.args.owner c.args.shared c.args.self.now (c.from_vec-own.ensures ∙ c.in_ok-from_slice.ensures.items) c.in_ok-number.ensures.added c.self.view_is
