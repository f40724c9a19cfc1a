use Rattle.std.proofs.Common.{◌≡◌, length}
use Rattle.report_reader.specs.code.Readers.{each_word, left, onto}
use Rattle.report_reader.specs.code.Forms.{item_of}
use Rattle.report_reader.proofs.lists.items.Given as goal

abbrev pub invariant-loop-word : goal.invariant-loop-word
invariant-loop-word l = onto l.all (each_word item_of (left l.rest)) ≡ each_word item_of (left l.words)

abbrev pub decreases-loop-word : goal.decreases-loop-word
decreases-loop-word l = length (left l.rest)
