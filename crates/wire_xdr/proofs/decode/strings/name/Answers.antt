use Rattle.std.proofs.Common.{rules, arith, sym, ◌≡◌, ◌≤◌, ◌<◌, Option, Some, None, take, length, ℕ, ◌+◌, ◌-◌, Bool, true, false, List, [], ◌∷◌, ◌++◌, Fits, w8, w32, w64, Bor, MutBor}
use Rattle.wire_xdr.specs.code.Parsers.{Gives, string_at}
use Rattle.wire_xdr.proofs.StringParsers.{string_length}
use Rattle.wire_xdr.proofs.decode.strings.name.Goals as goal

pub slice_bounds-result-end : goal.slice_bounds-result-end
slice_bounds-result-end c = sym (string_length _ _ _ _ _ _ c.in_ok-after.ensures)
