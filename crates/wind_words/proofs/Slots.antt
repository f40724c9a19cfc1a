-- What shows that a slot is free.
use Rattle.std.proofs.Common.{◌≡◌, ℕ, ◌+◌, ◌<◌, [], sym, ap, subst, arith}
use Rattle.xlator_law.specs.declared.winds.WindNo.{WindNo}
use Rattle.wind_words.specs.declared.view.View.{View}
use Rattle.wind_words.specs.Winds.{wind, times, turn_after}
use Rattle.wind_words.specs.Calls.{IsFree, IsUnusedFrom, with_opened}
use Rattle.wind_words.proofs.Counts.{times_push, one_other_slot}

-- a slot of which no wind was opened or collected
pub unused_free : (v : View) (slot : ℕ) → v.collected ≡ [] → IsUnusedFrom v slot → IsFree v slot
unused_free v slot none unused = record {
  collected = λ turn. let c : times (wind slot turn) v.collected ≡ 0 = ap (times (wind slot turn)) none in omega (arith, c, unused slot turn);
  left = subst (λ l. turn_after slot l < 4294967295) (sym none) (omega arith);
}

pub unused_still : (v : View) (slot : ℕ) (w : WindNo) → w.slot ≡ slot → IsUnusedFrom v slot → IsUnusedFrom (with_opened v w) (slot + 1)
unused_still v slot w s unused later turn h =
    omega (arith, times_push (wind later turn) v.opened w, one_other_slot (wind later turn) w (λ e. omega (arith, e, s, h)), unused later turn (omega (arith, h)))
