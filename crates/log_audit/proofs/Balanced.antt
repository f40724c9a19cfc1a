-- Where no slot's last wind is open, the winds are balanced.
use Rattle.std.proofs.Common.{◌≡◌, refl, sym, ap, ◌∙◌, arith}
use Rattle.std.specs.Prelude.{ℕ, zero, suc, ◌≤◌, ◌==◌, not, Bool, true, false, List, [], ◌∷◌, Option, Some, None, if◌then◌else◌, MatchBool}
use Rattle.xlator_law.specs.declared.winds.WindNo.{WindNo}
use Rattle.mount_log.specs.Winds.{times_opened, times_ended, WindsAreOnce, WindsAreBalanced}
use Rattle.mount_log.specs.declared.logs.WindLine.{WindLine}
use Rattle.log_audit.specs.Slots.{slot_at, is_closed, are_closed}
use Rattle.log_audit.specs.Agreeing.{IsLast, IsOther, Agrees, Agree}
use Rattle.log_audit.specs.declared.slots.Turn.{Turn}

both_closed : (a b : Bool) → (if a then b else false) ≡ true → (a ≡ true) × (b ≡ true)
both_closed true b e = (refl, e)
both_closed false b e = absurd cc

each_closed : (slots : List (Option Turn)) (n : ℕ) → are_closed slots ≡ true → is_closed (slot_at slots n) ≡ true
each_closed [] n e = refl
each_closed (o ∷ slots) zero e = (both_closed (is_closed o) (are_closed slots) e).0
each_closed (o ∷ slots) (suc n) e = each_closed slots n (both_closed (is_closed o) (are_closed slots) e).1

record IsEven (w : WindNo) (lines : List WindLine) : Type 0 where
  pub once : times_opened w lines ≤ 1
  pub done : times_ended w lines ≡ times_opened w lines

not_open : (b : Bool) → not b ≡ true → b ≡ false
not_open true e = absurd cc
not_open false e = refl

even_turn : (w : WindNo) (last : Turn) (lines : List WindLine) → last.pending ≡ false → (b : Bool) → MatchBool b (IsLast w last lines) (IsOther w last lines) → IsEven w lines
even_turn w last lines closed true l =
    let o = l.opened in let d : times_ended w lines ≡ 1 = l.ended ∙ ap (λ (b : Bool). if b then 0 else 1) closed in
    record { once = omega (arith, o); done = d ∙ sym o }
even_turn w last lines closed false o = record { once = o.once; done = o.done }

even : (w : WindNo) (o : Option Turn) (lines : List WindLine) → is_closed o ≡ true → Agrees w o lines → IsEven w lines
even w None lines closed a = let b = a.0 in let c = a.1 in record { once = omega (arith, b); done = c ∙ sym b }
even w (Some last) lines closed a = even_turn w last lines (not_open last.pending closed) (last.turn == w.turn) a

-- ---- as far as the lines go

record IsOnce (w : WindNo) (lines : List WindLine) : Type 0 where
  pub opened : times_opened w lines ≤ 1
  pub ended : times_ended w lines ≤ times_opened w lines

at_most : (b : Bool) (n : ℕ) → n ≡ (if b then 0 else 1) → n ≤ 1
at_most true n e = omega (arith, e)
at_most false n e = omega (arith, e)

once_turn : (w : WindNo) (last : Turn) (lines : List WindLine) → (b : Bool) → MatchBool b (IsLast w last lines) (IsOther w last lines) → IsOnce w lines
once_turn w last lines true l =
    let o = l.opened in let d : times_ended w lines ≤ 1 = at_most last.pending (times_ended w lines) l.ended in
    record { opened = omega (arith, o); ended = omega (arith, d, o) }
once_turn w last lines false o = let d = o.done in record { opened = o.once; ended = omega (arith, d) }

once_of : (w : WindNo) (o : Option Turn) (lines : List WindLine) → Agrees w o lines → IsOnce w lines
once_of w None lines a = let b = a.0 in let c = a.1 in record { opened = omega (arith, b); ended = omega (arith, b, c) }
once_of w (Some last) lines a = once_turn w last lines (last.turn == w.turn) a

pub once : (slots : List (Option Turn)) (lines : List WindLine) → Agree slots lines → WindsAreOnce lines
once slots lines a =
    let each : (w : WindNo) → IsOnce w lines = λ w. once_of w (slot_at slots w.slot) lines (a.winds w) in
    record { opened_once = λ w. (each w).opened; ended_once = λ w. (each w).ended; ends = a.ends }

-- ---- where each has ended

pub balanced : (slots : List (Option Turn)) (lines : List WindLine) → Agree slots lines → are_closed slots ≡ true → WindsAreBalanced lines
balanced slots lines a closed = record {
  once = once slots lines a;
  all_ended = λ w. (even w (slot_at slots w.slot) lines (each_closed slots w.slot closed) (a.winds w)).done;
}

pub none_yet : Agree [] []
none_yet = record { winds = λ w. (refl, refl); ends = λ k line is ends. absurd cc }
