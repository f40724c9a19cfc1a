use Rattle.std.proofs.Common.{◌≡◌}
use Rattle.error_audit.proofs.Sourcing.{are_masks}
use Rattle.error_audit.proofs.sources.have_none.Goals as goal

pub returns-then-is_empty : goal.returns-then-is_empty
returns-then-is_empty c = (λ bad. absurd cc, λ none. absurd (are_masks c.args.masks.now c.is_empty.result c.is_empty.ensures c.if-is_empty.true none))
