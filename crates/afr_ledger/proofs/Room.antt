-- A history with one entry more.
use Rattle.std.proofs.Common.{◌≡◌, ℕ, ◌+◌, ◌<◌, ◌≤◌, List, [], ◌∷◌, ◌++◌, refl, length, arith}
use Rattle.fop_types.specs.declared.history.Entry.{Entry}

one_longer : (es : List Entry) (e : Entry) → length (es ++ e ∷ []) ≡ length es + 1
one_longer [] e = refl
one_longer (d ∷ es) e = omega (arith, one_longer es e)

pub still_fits : (es : List Entry) (e : Entry) → length es < 4294967295 → length (es ++ e ∷ []) ≤ 4294967295
still_fits es e h = omega (arith, one_longer es e)
