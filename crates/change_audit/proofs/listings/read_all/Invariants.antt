use Rattle.change_audit.specs.Listings.{AreListings}
use Rattle.change_audit.proofs.listings.read_all.Given as goal

abbrev pub invariant-loop-event : goal.invariant-loop-event
invariant-loop-event l = AreListings l.log l.bricks l.listings
