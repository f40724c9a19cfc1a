use Rattle.std.proofs.Common.{◌∙◌, rules}
use Rattle.dht_linkto.proofs.Left.{left_take, left_skip_hashed, left_skip_linked}
use Rattle.dht_linkto.proofs.sets.first_left.Goals as goal
use Rattle.dht_linkto.proofs.sets.first_left.Goals.{else-set-hashed-via-then-set-hashed+else-not-is_set, else-set-hashed-via-else-set-hashed}

pub returns-then-not-is_set-clause-some : goal.returns-then-not-is_set-clause-some
returns-then-not-is_set-clause-some c =
    c.loop-set.invariant ∙ left_take _ _ _ _ c.loop-set-test.true c.if-set-hashed.true (search rules)

pub loop-set-preserved : goal.loop-set-preserved
loop-set-preserved c =
    elim c.else-set-hashed.branch [
      | else-set-hashed-via-then-set-hashed+else-not-is_set w ↦ c.loop-set.invariant ∙ left_skip_linked _ _ _ _ c.loop-set-test.true w.if-set-hashed.true (search rules)
      | else-set-hashed-via-else-set-hashed w ↦ c.loop-set.invariant ∙ left_skip_hashed _ _ _ _ c.loop-set-test.true w.if-set-hashed.false
    ]
