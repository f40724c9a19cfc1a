use Rattle.std.proofs.Common.{◌≡◌, ◌+◌, drop}
use Rattle.afr_transaction.specs.Parts.{place_of}
use Rattle.afr_transaction.proofs.parts.place_of.Given as goal

abbrev pub invariant-loop-part : goal.invariant-loop-part
invariant-loop-part l = record {
  at : l.place ≡ l.part-index;
  rest : l.place + place_of (drop l.part-index l.parts) l.sources l.sinks ≡ place_of l.parts l.sources l.sinks;
}
