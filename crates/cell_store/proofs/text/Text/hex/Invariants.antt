use Rattle.std.proofs.Common.{◌≡◌, ◌++◌, take, flat_map}
use Rattle.cell_store.specs.Dump.{byte_hex}
use Rattle.cell_store.proofs.text.Text.hex.Given as goal

abbrev pub invariant-loop-byte : goal.invariant-loop-byte
invariant-loop-byte l = l.self ≡ l.initial.self ++ flat_map byte_hex (take l.byte-index l.bytes)
