use Rattle.std.proofs.Common.{◌∙◌}
use Rattle.mount_log.proofs.FirstUnits.{head_read}
use Rattle.mount_log.proofs.heads.arrived_head.Goals as goal

pub returns : goal.returns
returns c = c.first_head.ensures ∙ head_read c.messages_read_back.ensures c.args.bytes.now c.requires
