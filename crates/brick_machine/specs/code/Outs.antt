-- The outputs of one input, in bytes, as they are made.
use Rattle.std.specs.Prelude.{ℕ, List, ◌++◌, map}
use Rattle.fop_types.specs.declared.messages.OutKind.{OutKind}
use Rattle.wire_xdr.specs.WireText.{output_text}
use Rattle.brick_machine.specs.Machine.{with_taken}

pub record Outgoing : Type 0 where
  pub taken : ℕ
  pub texts : List (List ℕ)

abbrev pub put_out : Outgoing → List OutKind → Outgoing
put_out outs kinds = record outs { texts = outs.texts ++ map output_text (with_taken outs.taken kinds) }
