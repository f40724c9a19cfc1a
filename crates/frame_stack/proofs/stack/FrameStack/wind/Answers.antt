use Rattle.std.proofs.Common.{◌≡◌, sym, ap, ◌∙◌, subst, ◌<◌, ◌≤◌, ◌+◌, ◌*◌, length, rules}
use Rattle.frame_stack.specs.Cells.{taken, put_at}
use Rattle.frame_stack.specs.Stack.{word_of, awaits}
use Rattle.std.specs.Prelude.{false, ◌||◌, ◌&&◌, ◌==◌}
use Rattle.frame_stack.proofs.Awaiting.{awaits_put}
use Rattle.frame_stack.proofs.Puts.{put_same}
use Rattle.frame_stack.proofs.Changes.{wound_openers}
use Rattle.frame_stack.proofs.Sound.{wound_kept}
use Rattle.frame_stack.proofs.stack.FrameStack.wind.Goals as goal

pub invariant_of-self-2 : goal.invariant_of-self-2
invariant_of-self-2 g c = wound_kept c.self.inside.openers _ c.self.inside.words.items _ _ _ _ _ (subst (λ s. awaits s c.args.frame c.args.slot ≡ false) (sym c.self.view_is) c.requires.slot) c.self.invariant c.if-self.false (subst (λ s. taken s.openers < 2147483648) (sym c.self.view_is) c.requires.room) c.in_ok-slot.ensures.ok (ap (λ ws. word_of ws c.in_ok-slot.slot) (sym c.in_ok-reserve-2.ensures.items) ∙ c.open_word-turn.ensures.turn) (c.open_word-turn.ensures.pending ∙ ap (λ ws. put_at ws c.in_ok-slot.slot (c.open_word-turn.result * 4 + 1)) c.in_ok-reserve-2.ensures.items)

pub returns-clause-awaits : goal.returns-clause-awaits
returns-clause-awaits g c = λ k n. awaits_put c.self.inside.openers _ c.in_ok-slot.slot _ c.in_ok-slot.ensures.ok k n ∙ ap (λ s. awaits s k n || ((c.args.frame == k) && (c.args.slot == n))) c.self.view_is

pub returns-clause-pending : goal.returns-clause-pending
returns-clause-pending g c = ap (λ ws. word_of ws c.in_ok-slot.slot) (c.open_word-turn.ensures.pending ∙ ap (λ ws. put_at ws c.in_ok-slot.slot (c.open_word-turn.result * 4 + 1)) c.in_ok-reserve-2.ensures.items) ∙ put_same c.self.inside.words.items c.in_ok-slot.slot _ 0 (subst (λ n. c.in_ok-slot.slot ≤ n) (sym c.self.invariant.lengths) c.in_ok-slot.ensures.ok.within)

pub returns-clause-openers : goal.returns-clause-openers
returns-clause-openers g c = wound_openers c.args.self.now _ c.args.frame c.args.slot (record { slot = c.in_ok-slot.slot; turn = c.open_word-turn.result }) (subst (λ s. length s.words ≡ length s.openers) c.self.view_is c.self.invariant.lengths) (search rules)
