use Rattle.std.proofs.Common.{◌≡◌, refl, sym, ap, ◌∙◌, map}
use Rattle.std.specs.Prelude.{List}
use Rattle.error_audit.specs.code.Searches.{last_in}
use Rattle.error_audit.specs.declared.locks.LockAt.{LockAt}
use Rattle.error_audit.proofs.Searching.{none_beyond}
use Rattle.error_audit.proofs.split_clues.last_lock.Goals as goal

pub returns-in-Some : goal.returns-in-Some
returns-in-Some c = c.last_in.ensures ∙ ap (λ (l : List LockAt). last_in l c.args.brick 0) c.in-Some.ensures.there

pub returns-in-None : goal.returns-in-None
returns-in-None c = sym (ap (λ (l : List LockAt). last_in l c.args.brick 0) (none_beyond (λ l. l.items) c.args.locks.now c.args.call c.in-None.ensures.none))
