use Rattle.std.proofs.Common.{ap}
use Rattle.frame_driver.specs.declared.board.Board.{Board}
use Rattle.graph_items.specs.declared.items.Down.{Down}
use Rattle.graph_items.specs.declared.items.Up.{Up}
use Rattle.graph_nodes.specs.declared.locals.Local.{Local}
use Rattle.graph_nodes.proofs.Living.{woken_works}
use Rattle.graph_nodes.proofs.parked.wake.Goals as goal

pub returns-then-ours-clause-works : goal.returns-then-ours-clause-works
returns-then-ours-clause-works c =
    let ours = c.may_go-ours.ensures.there c.if-ours.true in
    woken_works c.args.board.now c.go_on.new.self c.args.parked.now.keys _ c.in-Some.frame ours.0 ours.1 c.remove.ensures.keys
    (ap (λ (b : Board Down Up Local). b.graph) c.in_ok-go_on.ensures.going) c.in_ok-go_on.ensures.sound c.in_ok-go_on.ensures.held

pub returns-in_default-clause-works : goal.returns-in_default-clause-works
returns-in_default-clause-works c = λ ps nodes wiring is. is

pub returns-clause-works : goal.returns-clause-works
returns-clause-works c = λ ps nodes wiring is. is
