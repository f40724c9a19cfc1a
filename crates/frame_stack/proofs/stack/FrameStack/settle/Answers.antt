use Rattle.std.proofs.Common.{rules, sym, ap, ◌∙◌, arith}
use Rattle.frame_stack.specs.Stack.{word_of}
use Rattle.frame_stack.proofs.Leads.{settle_to}
use Rattle.frame_stack.proofs.Sound.{settled_kept}
use Rattle.frame_stack.proofs.stack.FrameStack.settle.Goals as goal

pub invariant_of-self : goal.invariant_of-self
invariant_of-self g c = settled_kept _ _ _ c.args.w.slot c.args.w.turn _ (ap (λ ws. word_of ws c.args.w.slot) (sym c.deref.ensures.value) ∙ sym c.word_in-word.ensures ∙ c.if-word-w.false) (let f = c.if-word-w.false in omega (arith, f)) c.self.invariant

pub returns-clause-leads : goal.returns-clause-leads
returns-clause-leads g c = settle_to c.args.self.now _ c.args.w (search rules)
