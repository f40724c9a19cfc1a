use Rattle.std.proofs.Common.{◌+◌, ◌-◌, ◌∷◌, sym, length, take, drop, ap, ◌∙◌, map, ◌++◌, arith, List, ℕ}
use Rattle.std.proofs.lemmas.List.{take_rest}
use Rattle.volfile.specs.TextLines.{words_of}
use Rattle.volfile.proofs.QuoteLemmas.{no_quote, open_quote, more_quotes, text_refused, text_taken}
use Rattle.volfile.proofs.quotes.words_said.Goals as goal

pub returns-then-opening-said : goal.returns-then-opening-said
returns-then-opening-said c = no_quote _ c.args.said.now _ c.len_to-opening.ensures.len c.if-opening-said.true c.in_ok-found.ensures

pub returns-then-closing-rest : goal.returns-then-closing-rest
returns-then-closing-rest c =
    open_quote c.args.said.now _ c.len_to-opening.result c.len_to-closing.result c.len_to-opening.ensures.len (omega (arith, c.if-opening-said.false, c.len_to-opening.ensures.within)) (take_rest c.args.said.now (c.len_to-opening.result + 1))
    c.len_to-closing.ensures.len c.if-closing-rest.true

pub returns-then-len_to-behind : goal.returns-then-len_to-behind
returns-then-len_to-behind c =
    let said = c.args.said.now in
    let n = c.len_to-opening.result in
    let m = c.len_to-closing.result in
    let rest = take (length said - (n + 1)) (drop (n + 1) said) in
    more_quotes said rest _ n m c.len_to-opening.ensures.len (omega (arith, c.if-opening-said.false, c.len_to-opening.ensures.within)) (take_rest said (n + 1))
    c.len_to-closing.ensures.len (omega (arith, c.if-closing-rest.false, c.len_to-closing.ensures.within)) (take_rest rest (m + 1)) (omega (arith, c.len_to.ensures.len, c.if-len_to-behind.true))

pub returns-then-not-may_stand : goal.returns-then-not-may_stand
returns-then-not-may_stand c =
    let said = c.args.said.now in
    let n = c.len_to-opening.result in
    let m = c.len_to-closing.result in
    let rest = take (length said - (n + 1)) (drop (n + 1) said) in
    text_refused said rest _ n m _ c.may_stand.result c.len_to-opening.ensures.len (omega (arith, c.if-opening-said.false, c.len_to-opening.ensures.within)) (take_rest said (n + 1))
    c.len_to-closing.ensures.len (omega (arith, c.if-closing-rest.false, c.len_to-closing.ensures.within)) (take_rest rest (m + 1)) (omega (arith, c.len_to.ensures.len, c.len_to.ensures.within, c.if-len_to-behind.false))
    (ap (map (λ w. w.now)) c.as_slice.ensures.value ∙ c.in_ok-found.ensures) c.may_stand.ensures c.if-not-may_stand.true

pub returns : goal.returns
returns c =
    let said = c.args.said.now in
    let n = c.len_to-opening.result in
    let m = c.len_to-closing.result in
    let rest = take (length said - (n + 1)) (drop (n + 1) said) in
    text_taken said rest _ n m _ _ c.may_stand.result c.len_to-opening.ensures.len (omega (arith, c.if-opening-said.false, c.len_to-opening.ensures.within)) (take_rest said (n + 1))
    c.len_to-closing.ensures.len (omega (arith, c.if-closing-rest.false, c.len_to-closing.ensures.within)) (take_rest rest (m + 1)) (omega (arith, c.len_to.ensures.len, c.len_to.ensures.within, c.if-len_to-behind.false))
    (ap (map (λ w. w.now)) c.as_slice.ensures.value ∙ c.in_ok-found.ensures) c.may_stand.ensures c.if-not-may_stand.false
    (c.in_ok-add_text.ensures ∙ ap (λ (l : List (List ℕ)). l ++ take m rest ∷ words_of (take (length rest - (m + 1)) (drop (m + 1) rest))) (ap (map (λ w. w.now)) (sym c.as_slice.ensures.value)))
