use Rattle.std.proofs.Common.{◌∙◌, arith, sym, ap, List, ℕ}
use Rattle.contents.proofs.Bytes.{written_within, written_to_end}
use Rattle.contents.proofs.file_bytes.write_at.Goals as goal

pub returns-then-offset-new-clause-ok : goal.returns-then-offset-new-clause-ok
returns-then-offset-new-clause-ok c =
    c.overwrite.ensures
    ∙ written_within c.args.bytes.now.items c.args.new.now c.args.offset (sym c.is_empty.ensures ∙ c.if-is_empty.false) (omega (arith, c.if-offset-new.true, c.len.ensures))

pub returns-clause-ok : goal.returns-clause-ok
returns-clause-ok c =
    c.in_ok-end_with.ensures.ok
    ∙ written_to_end c.args.bytes.now.items c.args.new.now c.args.offset (sym c.is_empty.ensures ∙ c.if-is_empty.false) (omega (arith, c.if-offset-new.false, c.len.ensures))
