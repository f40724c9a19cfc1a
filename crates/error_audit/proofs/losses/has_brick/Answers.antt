use Rattle.std.proofs.Common.{◌≡◌, sym, ap, ◌∙◌}
use Rattle.std.specs.Prelude.{◌==◌}
use Rattle.std.specs.List.{list_any}
use Rattle.error_audit.proofs.Evident.{member, is_member}
use Rattle.error_audit.proofs.losses.has_brick.Goals as goal

pub returns : goal.returns
returns c =
    let is : c.contains.result ≡ list_any (λ y. y == c.args.brick) c.args.plan.now.bricks = c.contains.ensures.value ∙ ap (list_any (λ y. y == c.args.brick)) c.as_slice.ensures in (
      λ yes. member c.args.plan.now.bricks c.args.brick (sym is ∙ yes),
      λ among. is ∙ is_member c.args.plan.now.bricks c.args.brick among,
    )
