use Rattle.std.proofs.Common.{◌+◌, sym, ◌∙◌, arith}
use Rattle.std.proofs.lemmas.List.{take_rest}
use Rattle.volfile.proofs.QuoteLemmas.{no_slash, two_slashes, one_slash}
use Rattle.volfile.proofs.statements.is_type.Goals as goal

pub returns-then-end-word : goal.returns-then-end-word
returns-then-end-word c = no_slash c.args.word.now _ c.len_to-end.ensures.len c.if-end-word.true

pub returns-then-len_to-rest : goal.returns-then-len_to-rest
returns-then-len_to-rest c =
    two_slashes c.args.word.now _ c.len_to-end.result c.len_to-end.ensures.len (omega (arith, c.if-end-word.false, c.len_to-end.ensures.within)) (take_rest c.args.word.now (c.len_to-end.result + 1))
    (omega (arith, c.len_to.ensures.len, c.if-len_to-rest.true))

pub returns : goal.returns
returns c =
    c.are_some.ensures
    ∙ sym (one_slash c.args.word.now _ c.len_to-end.result c.len_to-end.ensures.len (omega (arith, c.if-end-word.false, c.len_to-end.ensures.within)) (take_rest c.args.word.now (c.len_to-end.result + 1))
    (omega (arith, c.len_to.ensures.len, c.len_to.ensures.within, c.if-len_to-rest.false)))
