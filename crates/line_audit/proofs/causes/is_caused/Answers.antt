use Rattle.std.proofs.Common.{ℕ, ◌<◌, length, subst}
use Rattle.line_audit.proofs.Causing.{long_caused}
use Rattle.line_audit.proofs.causes.is_caused.Goals as goal

pub returns-then-len-gt-LONGEST-clause-sound : goal.returns-then-len-gt-LONGEST-clause-sound
returns-then-len-gt-LONGEST-clause-sound c =
    let long : 8 < length c.args.line.now.bytes = subst (λ (n : ℕ). 8 < n) c.len.ensures.value c.if-len-gt-LONGEST.true in
    λ _. long_caused c.messages_read_back.ensures c.args.log.now c.args.line.now long
