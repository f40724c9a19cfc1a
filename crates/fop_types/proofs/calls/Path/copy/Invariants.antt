use Rattle.std.proofs.Common.{◌≡◌, take}
use Rattle.fop_types.proofs.calls.Path.copy.Given as goal

abbrev pub invariant-loop-part : goal.invariant-loop-part
invariant-loop-part l = l.copies.items ≡ take l.part-index l.parts
