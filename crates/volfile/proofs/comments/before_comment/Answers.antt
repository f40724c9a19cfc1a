use Rattle.std.proofs.Common.{◌∙◌, ap, take, false}
use Rattle.volfile.proofs.PartLemmas.{comment_front}
use Rattle.volfile.proofs.comments.before_comment.Goals as goal

pub returns : goal.returns
returns c = ap (λ n. take n c.args.line.now) c.len_to_comment.ensures.len ∙ comment_front c.args.line.now false
