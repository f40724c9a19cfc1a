use Rattle.std.proofs.Common.{◌∙◌}
use Rattle.brick_machine.proofs.Runs.{served_whole}
use Rattle.brick_machine.proofs.brick.Brick.serve.Goals as goal

pub invariant_of-self-2 : goal.invariant_of-self-2
invariant_of-self-2 c =
    served_whole c.self.inside.inputs.items _ _ _ _ _ c.args.input _ _ _ c.in_ok-message.message c.len.result _ _ c.self.inside.is_spent c.self.invariant c.if-self.false
    c.reserve.ensures.items c.push_reserved.ensures.items c.as_slice.ensures (c.in_ok-message.ensures ∙ c.in_ok-read.ensures.read) (c.len.ensures ∙ c.reserve.new.self.ok.0) c.new-outs.ensures
    c.in_ok-serve.ensures.state c.in_ok-serve.ensures.outs c.into_made-made.ensures c.in_ok-append.ensures.items
