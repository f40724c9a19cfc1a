use Rattle.std.proofs.Common.{◌≡◌, ap, subst, ◌∙◌, ◌++◌, arith}
use Rattle.std.specs.Prelude.{ℕ, Bool, false, List, [], ◌∷◌}
use Rattle.std.proofs.lemmas.List.{replicate_more}
use Rattle.log_audit.specs.Replied.{AreSeen}
use Rattle.log_audit.proofs.Seen.{none_seen}
use Rattle.log_audit.proofs.finished.none_seen.Goals as goal

pub loop-preserved : goal.loop-preserved
loop-preserved c = c.in_ok-push.ensures.items ∙ ap (λ (l : List Bool). l ++ false ∷ []) c.loop.invariant ∙ replicate_more c.loop.counter false

pub returns : goal.returns
returns c =
    let all = c.loop-test.false in let few = c.loop.auto.counter-end in let same : c.loop.counter ≡ c.args.calls = omega (arith, all, few) in
    subst (λ (n : ℕ). AreSeen n [] c.loop.seen.items) same (none_seen c.loop.counter c.loop.seen.items c.loop.invariant)
