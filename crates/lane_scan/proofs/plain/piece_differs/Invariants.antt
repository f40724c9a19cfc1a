-- The bytes of the piece so far are the same.
use Rattle.std.proofs.Common.{◌≡◌, ℕ, ◌*◌, ◌<◌, ◌≤◌, get_or}
use Rattle.lane_scan.proofs.plain.piece_differs.Given as goal

abbrev pub invariant-loop-i : goal.invariant-loop-i
invariant-loop-i l = (j : ℕ) → 64 * l.k ≤ j → j < l.i → get_or l.a j 0 ≡ get_or l.b j 0
