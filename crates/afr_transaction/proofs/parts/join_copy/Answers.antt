use Rattle.std.proofs.Common.{◌≡◌, List, ◌++◌, ◌∷◌, [], ap, length, arith, ◌∙◌}
use Rattle.fop_types.specs.declared.cells.Cell.{Cell}
use Rattle.afr_transaction.specs.declared.phase.Part.{Part}
use Rattle.afr_transaction.specs.Parts.{place_of}
use Rattle.afr_transaction.proofs.Joins.{join_back, join_new}
use Rattle.afr_transaction.proofs.parts.join_copy.Goals as goal

pub returns-then-place-len : goal.returns-then-place-len
returns-then-place-len c =
    join_back c.args.parts.now c.remove-part.new.self c.insert.new.self c.remove-part.result c.push.new.self c.place_of-place.result c.args.cell c.args.sources c.args.sinks
    (c.place_of-place.ensures ∙ ap (λ (l : List Part). place_of l c.args.sources c.args.sinks) c.as_slice.ensures)
    (omega (arith, c.len.ensures)) c.remove-part.ensures.value c.remove-part.ensures.rest c.in_ok-push.ensures.ok c.in_ok-insert.ensures.ok

pub returns : goal.returns
returns c =
    join_new c.args.parts.now c.push-3.new.self c.push-2.new.self c.place_of-place.result c.args.cell c.args.sources c.args.sinks
    (c.place_of-place.ensures ∙ ap (λ (l : List Part). place_of l c.args.sources c.args.sinks) c.as_slice.ensures)
    (omega (arith, c.len.ensures))
    (c.in_ok-push-2.ensures.ok ∙ ap (λ (l : List Cell). l ++ c.args.cell ∷ []) c.new-cells.ensures) c.in_ok-push-3.ensures.ok
