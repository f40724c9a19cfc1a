use Rattle.std.specs.Prelude.{◌≡◌, List, Contains, take}
use Rattle.fop_types.specs.declared.contents.Row.{Row}
use Rattle.error_audit.specs.Showing.{IsGrantedAt}
use Rattle.error_audit.specs.declared.evidence.Found.{Found}
use Rattle.error_audit.proofs.grants.find_granted.Given as goal

abbrev pub invariant-loop-one : goal.invariant-loop-one
invariant-loop-one l =
    (one : Found) → Contains (take l.one-index l.found) one → (one.brick ≡ l.brick) × ((rows : List Row) × IsGrantedAt l.log l.reply.call l.reply.event l.phase.from l.phase.cells l.brick l.lock one.at rows) → ⊥
