use Rattle.std.proofs.Common.{◌≡◌, sym, ap, subst, ◌∙◌, arith}
use Rattle.std.specs.Prelude.{ℕ, ◌+◌, ◌++◌, ◌∷◌, [], List, Option, length, take}
use Rattle.std.proofs.lemmas.List.{take_more, length-take-le}
use Rattle.mount_log.specs.declared.logs.ReplyLine.{ReplyLine}
use Rattle.run_report.specs.Numbers.{AreByNumber, noted}
use Rattle.run_report.proofs.Numbers.{one_more}
use Rattle.run_report.proofs.reports.by_number.Goals as goal

pub loop-at-preserved : goal.loop-at-preserved
loop-at-preserved c =
    let rs = take c.loop-at.at c.args.replies.now in let r = c.index-replies-at.result in
    let long : length rs ≡ c.loop-at.at = length-take-le c.loop-at.at c.args.replies.now (omega (arith, c.loop-at-test.true)) in
    let same = c.index-replies-at.is in
    let more : take (c.loop-at.at + 1) c.args.replies.now ≡ rs ++ r ∷ [] = take_more c.args.replies.now c.loop-at.at r c.loop-at-test.true ∙ ap (λ (x : ReplyLine). rs ++ x ∷ []) (sym same) in
    let places : c.note.new.places.items ≡ noted c.loop-at.places.items r.call (length rs) =
    c.note.ensures ∙ ap (λ (x : ReplyLine). noted c.loop-at.places.items x.call c.loop-at.at) (sym same) ∙ ap (noted c.loop-at.places.items r.call) (sym long) in
    subst (λ (l : List (Option ℕ)). AreByNumber (length c.args.replies.now) (take (c.loop-at.at + 1) c.args.replies.now) l) (sym places)
    (subst (λ (l : List ReplyLine). AreByNumber (length c.args.replies.now) l (noted c.loop-at.places.items r.call (length rs))) (sym more)
    (one_more rs r (length c.args.replies.now) c.loop-at.places.items c.loop-at.invariant))
