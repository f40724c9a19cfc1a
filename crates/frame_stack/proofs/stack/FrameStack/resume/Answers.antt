use Rattle.std.proofs.Common.{rules, sym, ap, ◌∙◌, arith}
use Rattle.frame_stack.specs.Stack.{word_of, awaits, is_in}
use Rattle.frame_stack.proofs.Leads.{resume_to}
use Rattle.std.specs.Prelude.{not, ◌&&◌, ◌==◌}
use Rattle.std.specs.List.{list_any}
use Rattle.frame_stack.proofs.Awaiting.{awaits_emptied}
use Rattle.frame_stack.proofs.Sound.{resumed_kept}
use Rattle.frame_stack.proofs.stack.FrameStack.resume.Goals as goal

pub invariant_of-self-2 : goal.invariant_of-self-2
invariant_of-self-2 g c = rw c.remove.ensures.emptied (resumed_kept _ _ _ c.args.w.slot c.args.w.turn _ (ap (λ ws. word_of ws c.args.w.slot) (sym c.deref.ensures.value) ∙ sym c.word_in-word.ensures ∙ c.if-word-w.false) (let f = c.if-word-w.false in omega (arith, f)) c.self.invariant)

pub returns-clause-leads : goal.returns-clause-leads
returns-clause-leads g c = resume_to c.args.self.now _ c.args.w (search rules)

pub returns-clause-awaits : goal.returns-clause-awaits
returns-clause-awaits g c = λ k n. ap (list_any (is_in k n)) c.remove.ensures.emptied ∙ awaits_emptied c.self.inside.openers c.self.inside.words.items c.self.inside.opened c.args.w.slot c.in-Some.opener c.self.invariant (sym c.remove.ensures.value ∙ c.in-Some.is) k n ∙ ap (λ s. awaits s k n && not ((c.in-Some.opener.frame == k) && (c.in-Some.opener.slot == n))) c.self.view_is
