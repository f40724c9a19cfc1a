use Rattle.std.proofs.Common.{◌≡◌, ap, ◌∙◌, ◌+◌, ◌++◌, drop}
use Rattle.std.specs.Prelude.{Bool, List, ◌∷◌, if◌then◌else◌}
use Rattle.mount_log.proofs.Lists.{grown}
use Rattle.line_audit.specs.Linked.{without_link}
use Rattle.line_audit.proofs.links.without_link.Goals as goal

same_unless : {X : Type 0} (kept rest : List X) (x : X) (t u : Bool) → t ≡ u → kept ++ (if t then rest else x ∷ rest) ≡ kept ++ (if u then rest else x ∷ rest)
same_unless kept rest x t u is = ap (λ (b : Bool). kept ++ (if b then rest else x ∷ rest)) is

pub loop-link-preserved : goal.loop-link-preserved
loop-link-preserved c =
    let rest = without_link c.args.graph c.args.brick (drop (c.loop-link.link-index + 1) c.args.links.now) in
    grown (without_link c.args.graph c.args.brick) c.args.links.now c.loop-link.link-index _ c.loop-link.kept.items c.keep_unless.new.kept.items rest (without_link c.args.graph c.args.brick c.args.links.now)
    c.loop-link-test.true (c.in_ok-keep_unless.ensures rest ∙ same_unless c.loop-link.kept.items rest _ _ _ c.is_of.ensures) c.loop-link.invariant
