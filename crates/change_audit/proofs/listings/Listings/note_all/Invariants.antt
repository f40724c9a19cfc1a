use Rattle.change_audit.specs.Listings.{AddsCells}
use Rattle.change_audit.proofs.listings.Listings.note_all.Given as goal

abbrev pub invariant-loop-k : goal.invariant-loop-k
invariant-loop-k l = AddsCells l.fn.self l.self l.cells l.event
