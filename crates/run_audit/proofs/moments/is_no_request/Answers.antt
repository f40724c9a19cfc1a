use Rattle.std.proofs.Common.{◌≡◌, ◌<◌, sym, subst, ◌∙◌}
use Rattle.std.specs.Prelude.{ℕ, List, Some, length}
use Rattle.mount_log.proofs.Items.{some_is}
use Rattle.mount_log.specs.Procedures.{proc_in}
use Rattle.run_audit.specs.Noted.{begun}
use Rattle.run_audit.proofs.Timing.{nth_there, other_there, come_within}
use Rattle.run_audit.proofs.moments.is_no_request.Goals as goal

pub returns : goal.returns
returns c =
    let proc : proc_in c.args.line.now.bytes ≡ Some c.args.proc = subst (λ (l : List ℕ). proc_in l ≡ Some c.args.proc) c.as_slice.ensures (c.is_request_of.ensures.0 c.if-not-is_request_of.false) in
    let behind : begun c.args.notes.now.ended (length c.args.log.now.events) c.args.phase < c.args.line.now.event = subst (λ (n : ℕ). n < c.args.line.now.event) c.begun_in.ensures c.if-line-begun_in.false in
    let within = come_within c.args.notes.now.ended (length c.args.log.now.events) c.args.phase c.args.number c.args.line.now.event c.requires.within behind c.if-line-number.false in (
      λ yes is.
          absurd
          (let other = c.is_other.ensures.0 yes in
          other.differs
          (some_is other.number c.args.count
          (sym other.there ∙ nth_there c.args.log.now c.args.notes.now c.args.tables.now c.requires.tables c.args.phase c.args.place c.args.count c.args.line.now c.requires.there within is.nth))),
      λ none. c.is_other.ensures.1
          (other_there c.args.log.now c.args.notes.now c.args.tables.now c.requires.tables c.args.phase c.args.place c.args.count c.args.line.now c.requires.there within c.args.brick c.args.number c.args.proc
          c.if-line-brick.false proc c.if-line-number.false none),
    )
