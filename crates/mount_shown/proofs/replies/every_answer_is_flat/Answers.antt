use Rattle.mount_shown.proofs.Replying.{every_answer_flat}
use Rattle.mount_shown.proofs.replies.every_answer_is_flat.Goals as goal

pub returns : goal.returns
returns c = every_answer_flat
