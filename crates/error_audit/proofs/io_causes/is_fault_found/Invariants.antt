use Rattle.std.specs.Prelude.{◌≡◌, Contains, take}
use Rattle.error_audit.specs.AtPlaces.{IsFaultedAt}
use Rattle.error_audit.specs.declared.evidence.Found.{Found}
use Rattle.error_audit.proofs.io_causes.is_fault_found.Given as goal

abbrev pub invariant-loop-one : goal.invariant-loop-one
invariant-loop-one l =
    (one : Found) → Contains (take l.one-index l.found) one → (one.brick ≡ l.pair.0) × (one.taken ≡ l.pair.1) × IsFaultedAt l.log l.plan l.reply.call l.reply.event l.pair one.at → ⊥
