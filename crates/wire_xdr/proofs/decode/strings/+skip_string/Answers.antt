use Rattle.std.proofs.Common.{rules, arith, sym, ◌≡◌, ◌≤◌, ◌<◌, Option, Some, None, take, length, ℕ, ◌+◌, ◌-◌, ◌*◌, ◌/◌, ◌%◌, Bool, true, false, nat_eq, nat_lt, List, [], ◌∷◌, ◌++◌, slice_index_or, slice_set, bit_and, bit_or, Fits, w8, w32, w64, Bor, MutBor}
use Rattle.std.specs.Option.{option_copied}
use Rattle.wire_xdr.specs.code.Classes.{class_test}
use Rattle.wire_xdr.specs.code.Parsers.{Gives, string_at}
use Rattle.wire_xdr.proofs.StringParsers.{at_end_passes, at_end_fails, goes_gives}
use Rattle.wire_xdr.proofs.decode.strings.+skip_string.Goals as goal

pub returns-then-is_last_quad : goal.returns-then-is_last_quad
returns-then-is_last_quad n c = at_end_passes _ _ _ _ _ _ c.split_at.ensures.front c.split_at.ensures.back (omega (arith, c.if-size-eq0.false)) c.if-size-le4.true c.if-bytes-lt4.false (sym c.if-is_last_quad.ensures)

pub returns-then-is_inner_quad : goal.returns-then-is_inner_quad
returns-then-is_inner_quad n c = goes_gives (λ (x : Bor (List ℕ)). x.now) _ _ _ _ _ _ _ _ c.split_at.ensures.front c.split_at.ensures.back c.left_of.ensures c.if-size-le4.false c.if-bytes-lt4.false (sym c.if-is_inner_quad.ensures) c.skip_string.ensures
