use Rattle.std.proofs.Common.{ℕ, ap, sym, ◌∙◌}
use Rattle.frame_driver.specs.declared.board.Board.{Board}
use Rattle.frame_trees.specs.declared.kinds.Kept.{Kept}
use Rattle.frame_trees.proofs.Staying.{idle_tree, went_tree}
use Rattle.frame_trees.proofs.tree.wake.Goals as goal

pub returns-in_default : goal.returns-in_default
returns-in_default c = λ nodes wiring is. idle_tree nodes wiring c.args.board.now c.pop.new.self is (c.in_default.ensures.0 ∙ sym c.in_default.ensures.1)

pub returns-then-open : goal.returns-then-open
returns-then-open c = λ nodes wiring is. went_tree nodes wiring c.args.board.now c.go_on.new.self c.in-Some.frame c.pop.new.self is c.in-Some.ensures (c.has_frame-open.ensures.0 c.if-open.true) (ap (λ (b : Board ℕ ℕ Kept). b.graph) c.in_ok-go_on.ensures.going) c.in_ok-go_on.ensures.sound c.in_ok-go_on.ensures.held
