use Rattle.std.proofs.Common.{ap, arith, length}
use Rattle.std.proofs.lemmas.Option.{slice_get_within}
use Rattle.line_audit.proofs.Firsts.{not_behind, behind_it}
use Rattle.line_audit.proofs.due.ends_in.Goals as goal

pub loop-place-preserved : goal.loop-place-preserved
loop-place-preserved c = λ slots order e.
    behind_it c.loop-place.place e.place (c.loop-place.invariant slots order e) (λ same. let hit = c.ends_at.ensures.complete slots e same in absurd cc)

pub returns-then-winds-place-clause-complete : goal.returns-then-winds-place-clause-complete
returns-then-winds-place-clause-complete c = λ slots order e.
    absurd (not_behind c.args.log.now.winds c.as_slice-winds.result.now c.as_slice-winds.ensures c.args.number c.loop-place.place _ c.loop-place-test.true c.if-winds-place.true order c.args.wind c.args.graph e
    (c.loop-place.invariant slots order e))

pub returns-clause-complete : goal.returns-clause-complete
returns-clause-complete c = λ slots order e.
    let le = c.loop-place.invariant slots order e in let lt = slice_get_within c.args.log.now.winds e.place e.ending e.there in let same = ap length c.as_slice-winds.ensures in
    absurd (omega (arith, le, lt, same, c.loop-place-test.false))
