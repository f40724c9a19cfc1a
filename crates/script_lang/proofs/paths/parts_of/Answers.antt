use Rattle.std.proofs.Common.{◌∷◌, ◌++◌, [], ap, ◌∙◌}
use Rattle.std.proofs.lemmas.List.{take_rest}
use Rattle.script_lang.proofs.Parts.{parts_end, parts_next}
use Rattle.script_lang.proofs.paths.parts_of.Goals as goal

pub returns-then-end-rest : goal.returns-then-end-rest
returns-then-end-rest c = parts_end c.args.joined.now _ c.loop-parts.parts _ c.loop-parts.at _ (take_rest c.args.joined.now c.loop-parts.at) c.len_to-end.ensures.len c.if-end-rest.true c.loop-parts.invariant.1 (c.in_ok-push.ensures.ok ∙ ap (λ x. c.loop-parts.parts ++ x ∷ []) c.in_ok-from_bytes.ensures)

pub loop-parts-preserved : goal.loop-parts-preserved
loop-parts-preserved c = parts_next c.args.joined.now _ c.loop-parts.parts _ c.loop-parts.at _ c.loop-parts.invariant.0 (take_rest c.args.joined.now c.loop-parts.at) c.len_to-end.ensures.len c.len_to-end.ensures.within c.if-end-rest.false c.loop-parts.invariant.1 (c.in_ok-push.ensures.ok ∙ ap (λ x. c.loop-parts.parts ++ x ∷ []) c.in_ok-from_bytes.ensures)
