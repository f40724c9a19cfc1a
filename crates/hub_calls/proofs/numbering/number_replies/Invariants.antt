use Rattle.std.proofs.Common.{◌≡◌, ◌++◌, take, drop, map}
use Rattle.hub_calls.specs.EventNumbers.{reply_in}
use Rattle.hub_calls.proofs.numbering.number_replies.Given as goal

abbrev pub invariant-loop-line : goal.invariant-loop-line
invariant-loop-line l = l.line-items ≡ map (reply_in l.number) (take l.line-index l.fn.lines) ++ drop l.line-index l.fn.lines
