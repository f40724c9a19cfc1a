use Rattle.std.proofs.Common.{sym, ap, ◌∙◌}
use Rattle.std.specs.Prelude.{Some}
use Rattle.std.proofs.lemmas.Option.{slice_get-get_or}
use Rattle.mount_log.proofs.Items.{some_is}
use Rattle.mount_log.proofs.Lists.{same_list, lists_same}
use Rattle.log_audit.proofs.bricks.is_at.Goals as goal

pub returns-in-Some : goal.returns-in-Some
returns-in-Some c =
    let there = slice_get-get_or c.args.list.now c.args.at c.in-Some.found.now c.in-Some.ensures.lookup.3.0 ∙ ap Some (sym (c.in-Some.ensures.lookup.3.1 c.in-Some.found.now)) in (
      λ yes. there ∙ ap Some (sym c.as_slice.ensures ∙ same_list _ _ (sym c.eq.ensures ∙ yes) ∙ c.as_slice-in-Some.ensures),
      λ is. c.eq.ensures ∙ lists_same _ _ (c.as_slice.ensures ∙ some_is c.in-Some.found.now c.args.bytes.now (sym there ∙ is) ∙ sym c.as_slice-in-Some.ensures),
    )
