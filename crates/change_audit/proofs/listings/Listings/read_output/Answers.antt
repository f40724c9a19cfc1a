use Rattle.change_audit.proofs.ListedCells.{index_is, list_read}
use Rattle.change_audit.proofs.listings.Listings.read_output.Goals as goal

pub returns : goal.returns
returns c =
    list_read c.args.log.now c.args.bricks.now c.args.self.now c.note_all.new.self c.in-Some-list_on.cells.now c.args.event
    (index_is c.args.log.now c.args.bricks.now c.args.event c.args.brick c.args.output.now c.args.bytes.now c.in-Some.wind c.in-Some-list_on.cells.now c.requires.arrived c.requires.read
    c.in-Some-list_on.ensures.found (c.in_ok-is_asked.ensures.asked c.if-not-branch.false) (c.in_ok-is_asked.ensures.internal c.if-not-branch.false))
    c.in_ok-note_all.ensures
