use Rattle.std.proofs.Common.{◌≡◌}
use Rattle.std.specs.Prelude.{drop}
use Rattle.script_commands.specs.Heads.{head_with}
use Rattle.script_commands.proofs.head_sinks.HeadSink.keep.Given as goal

abbrev pub invariant-loop-byte : goal.invariant-loop-byte
invariant-loop-byte g l = (l.self.0 ≡ l.initial.self.0) × (head_with l.self.1 (drop l.byte-index l.bytes) ≡ head_with l.initial.self.1 l.bytes)
