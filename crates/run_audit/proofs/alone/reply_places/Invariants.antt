use Rattle.std.specs.Prelude.{◌≡◌, length}
use Rattle.run_audit.specs.CallPhases.{AreSingle}
use Rattle.run_audit.proofs.OneByOne.{ArePlacesTo}
use Rattle.run_audit.proofs.alone.reply_places.Given as goal

abbrev pub invariant-loop : goal.invariant-loop
invariant-loop l = length l.places.items ≡ l.counter

abbrev pub invariant-loop-k : goal.invariant-loop-k
invariant-loop-k l = (length l.places.items ≡ l.calls) × (AreSingle l.replies → ArePlacesTo l.k l.replies l.places.items)
