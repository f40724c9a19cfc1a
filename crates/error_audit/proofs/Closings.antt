-- A connection that ended stays closed as long as no other is opened.
use Rattle.std.proofs.Common.{◌≡◌, refl, sym, ap, ◌∙◌, arith}
use Rattle.std.specs.Prelude.{ℕ, zero, suc, ◌+◌, ◌-◌, ◌<◌, ◌≤◌, ◌==◌, nat_le, ◌&&◌, ◌||◌, not, Bool, true, false, List, [], ◌∷◌, if◌then◌else◌}
use Rattle.std.specs.List.{list_any}
use Rattle.std.specs.Cmp.Lexicographic.{pointwise}
use Rattle.std.proofs.lemmas.Bool.{eqb-true, leb-true, leb-false}
use Rattle.fop_types.specs.declared.messages.Input.{Input}
use Rattle.fop_types.specs.declared.messages.Input.TheVariants as input
use Rattle.wire_xdr.specs.WireText.{input_text}
use Rattle.mount_log.specs.Connections.{is_sent_in, was_sent, ends_in, is_open_after, connect_in, connects_among, last_connection}
use Rattle.mount_log.specs.declared.logs.Log.{Log}
use Rattle.mount_log.specs.declared.logs.SentLine.{SentLine}
use Rattle.error_audit.specs.Evidence.{HasNumbers}
use Rattle.error_audit.specs.Opened.{openings_to}
use Rattle.error_audit.specs.declared.connections.Opening.{Opening}

abbrev one : Bool → ℕ
one b = if b then 1 else 0

-- a number that is at most n is at most the next
le_next : (e n : ℕ) (r : Bool) → one (nat_le e n && r) ≤ one (nat_le e (suc n) && r)
le_next e n r = by (nat_le e n) refl (nat_le e (suc n)) refl r where
  by : (a : Bool) → nat_le e n ≡ a → (b : Bool) → nat_le e (suc n) ≡ b → (r : Bool) → one (a && r) ≤ one (b && r)
  by false le b next r = omega arith
  by true le true next true = omega arith
  by true le true next false = omega arith
  by true le false next r = absurd (let l = leb-true e n le in let m = leb-false e (suc n) next in omega (arith, l, m))

-- one that is n
at_n : (e n : ℕ) (r : Bool) → ((e == n) && r) ≡ true → one (nat_le e n && r) ≡ 1
at_n e n r is = by (nat_le e n) refl (e == n) refl r is where
  by : (a : Bool) → nat_le e n ≡ a → (b : Bool) → (e == n) ≡ b → (r : Bool) → (b && r) ≡ true → one (a && r) ≡ 1
  by true le true same true is = refl
  by true le true same false is = absurd cc
  by true le false same r is = absurd cc
  by false le true same r is = absurd (let s = eqb-true e n same in let m = leb-false e n le in omega (arith, s, m))
  by false le false same r is = absurd cc

at_next : (e n : ℕ) (r : Bool) → ((e == suc n) && r) ≡ true → one (nat_le e n && r) ≡ 0
at_next e n r is = by (nat_le e n) refl (e == suc n) refl r is where
  by : (a : Bool) → nat_le e n ≡ a → (b : Bool) → (e == suc n) ≡ b → (r : Bool) → (b && r) ≡ true → one (a && r) ≡ 0
  by false le b same r is = refl
  by true le true same r is = absurd (let s = eqb-true e (suc n) same in let l = leb-true e n le in omega (arith, s, l))
  by true le false same r is = absurd cc

module _ (graph brick : ℕ) where
  abbrev x : Input
  x = input.Connect graph 1

  among_next : (n : ℕ) (lines : List SentLine) → connects_among n graph brick lines ≤ connects_among (suc n) graph brick lines
  among_next n [] = omega arith
  among_next n (line ∷ lines) =
      let ih = among_next n lines in let own : connect_in n graph brick line ≤ connect_in (suc n) graph brick line = le_next line.event n ((line.brick == brick) && pointwise ◌==◌ line.bytes (input_text x)) in
      omega (arith, ih, own)

  some_among : (n : ℕ) (lines : List SentLine) → list_any (is_sent_in n brick x) lines ≡ true → 1 ≤ connects_among n graph brick lines
  some_among n [] any = absurd cc
  some_among n (line ∷ lines) any = by (is_sent_in n brick x line) refl any (some_among n lines) where
    by : (b : Bool) → is_sent_in n brick x line ≡ b → (b || list_any (is_sent_in n brick x) lines) ≡ true
        → (list_any (is_sent_in n brick x) lines ≡ true → 1 ≤ connects_among n graph brick lines) → 1 ≤ connect_in n graph brick line + connects_among n graph brick lines
    by true is rest from = let own : connect_in n graph brick line ≡ 1 = at_n line.event n ((line.brick == brick) && pointwise ◌==◌ line.bytes (input_text x)) is in omega (arith, own)
    by false is rest from = let ih = from rest in omega (arith, ih)

  more_among : (n : ℕ) (lines : List SentLine) → list_any (is_sent_in (suc n) brick x) lines ≡ true → connects_among n graph brick lines < connects_among (suc n) graph brick lines
  more_among n [] any = absurd cc
  more_among n (line ∷ lines) any = by (is_sent_in (suc n) brick x line) refl any (more_among n lines) where
    by : (b : Bool) → is_sent_in (suc n) brick x line ≡ b → (b || list_any (is_sent_in (suc n) brick x) lines) ≡ true
        → (list_any (is_sent_in (suc n) brick x) lines ≡ true → connects_among n graph brick lines < connects_among (suc n) graph brick lines)
        → connect_in n graph brick line + connects_among n graph brick lines < connect_in (suc n) graph brick line + connects_among (suc n) graph brick lines
    by true is rest from =
        let now : connect_in (suc n) graph brick line ≡ 1 = at_n line.event (suc n) ((line.brick == brick) && pointwise ◌==◌ line.bytes (input_text x)) is in
        let before : connect_in n graph brick line ≡ 0 = at_next line.event n ((line.brick == brick) && pointwise ◌==◌ line.bytes (input_text x)) is in
        let others = among_next n lines in omega (arith, now, before, others)
    by false is rest from =
        let ih = from rest in let own : connect_in n graph brick line ≤ connect_in (suc n) graph brick line = le_next line.event n ((line.brick == brick) && pointwise ◌==◌ line.bytes (input_text x)) in
        omega (arith, ih, own)

not_true : (b : Bool) → (b ≡ true → ⊥) → b ≡ false
not_true true h = absurd (h refl)
not_true false h = refl

closed_by : (a b c : Bool) → a ≡ false → b ≡ false → (a || (b && c)) ≡ false
closed_by false false c is shut = refl
closed_by true b c is shut = absurd cc
closed_by false true c is shut = absurd cc

ended_by : (a b c : Bool) → a ≡ false → c ≡ true → (a || (b && not c)) ≡ false
ended_by false true true is ends = refl
ended_by false false true is ends = refl
ended_by true b c is ends = absurd cc
ended_by false b false is ends = absurd cc

module _ (log : Log) (graph brick : ℕ) where
  abbrev pub last : ℕ → ℕ
  last n = last_connection log graph brick n

  later : (n d : ℕ) → last n ≤ last (n + d)
  later n zero = let e : n + 0 ≡ n = omega arith in let same : last (n + 0) ≡ last n = ap last e in omega (arith, same)
  later n (suc d) =
      let e : n + suc d ≡ suc (n + d) = omega arith in let same : last (n + suc d) ≡ last (suc (n + d)) = ap last e in
      let ih = later n d in let step : last (n + d) ≤ last (suc (n + d)) = among_next graph brick (n + d) log.sent in
      omega (arith, same, ih, step)

  rises : (n m : ℕ) → n ≤ m → last n ≤ last m
  rises n m le = let e : n + (m - n) ≡ m = omega (arith, le) in let same : last (n + (m - n)) ≡ last m = ap last e in let l = later n (m - n) in omega (arith, same, l)

  -- a brick that was never connected
  pub closed_ever : (m : ℕ) → last m ≡ 0 → is_open_after log graph brick m ≡ false
  closed_ever zero none = not_true (was_sent log 0 brick (input.Connect graph 1)) (λ sent. let l : 1 ≤ last 0 = some_among graph brick 0 log.sent sent in absurd (omega (arith, l, none)))
  closed_ever (suc m) none =
      let up : last m ≤ last (suc m) = among_next graph brick m log.sent in
      closed_by (was_sent log (suc m) brick (input.Connect graph 1)) (is_open_after log graph brick m) (not (ends_in log graph brick (suc m)))
      (not_true (was_sent log (suc m) brick (input.Connect graph 1)) (λ sent. let l : 1 ≤ last (suc m) = some_among graph brick (suc m) log.sent sent in absurd (omega (arith, l, none))))
      (closed_ever m (omega (arith, up, none)))

  module _ (k m : ℕ) (ends : ends_in log graph brick (suc k) ≡ true) (same : last m ≡ last k) where
    quiet : (n : ℕ) → k ≤ n → suc n ≤ m → was_sent log (suc n) brick (input.Connect graph 1) ≡ false
    quiet n from to = not_true (was_sent log (suc n) brick (input.Connect graph 1)) (λ sent.
        let up : last n < last (suc n) = more_among graph brick n log.sent sent in let a = rises k n from in let b = rises (suc n) m to in absurd (omega (arith, up, a, b, same)))

    closed_for : (d : ℕ) → suc (k + d) ≤ m → is_open_after log graph brick (suc (k + d)) ≡ false
    closed_for zero to =
        let e : k + 0 ≡ k = omega arith in
        ap (λ (n : ℕ). is_open_after log graph brick (suc n)) e
        ∙ ended_by (was_sent log (suc k) brick (input.Connect graph 1)) (is_open_after log graph brick k) (ends_in log graph brick (suc k)) (quiet k (omega arith) (omega (arith, to))) ends
    closed_for (suc d) to =
        let e : k + suc d ≡ suc (k + d) = omega arith in
        ap (λ (n : ℕ). is_open_after log graph brick (suc n)) e
        ∙ closed_by (was_sent log (suc (suc (k + d))) brick (input.Connect graph 1)) (is_open_after log graph brick (suc (k + d))) (not (ends_in log graph brick (suc (suc (k + d)))))
        (quiet (suc (k + d)) (omega arith) (omega (arith, to))) (closed_for d (omega (arith, to)))

  -- the connection ended in the event `from`, and none was opened up to the event `m`
  pub closed_since : (from m : ℕ) → 1 ≤ from → from ≤ m → ends_in log graph brick from ≡ true → last m ≡ last (from - 1) → is_open_after log graph brick m ≡ false
  closed_since from m one le ends same =
      let f : suc (from - 1) ≡ from = omega (arith, one) in let t : suc (from - 1 + (m - from)) ≡ m = omega (arith, one, le) in
      sym (ap (is_open_after log graph brick) t) ∙ closed_for (from - 1) m (ap (ends_in log graph brick) f ∙ ends) same (m - from) (omega (arith, t))

-- the same by the openings
pub never_open : (log : Log) (graph brick m : ℕ) (openings : List Opening) → HasNumbers log graph brick openings → openings_to m graph brick openings ≡ 0 → is_open_after log graph brick m ≡ false
never_open log graph brick m openings numbers none = closed_ever log graph brick m (sym (numbers m) ∙ none)

pub not_open : (log : Log) (graph brick from m : ℕ) (openings : List Opening) → HasNumbers log graph brick openings → 1 ≤ from → from ≤ m → ends_in log graph brick from ≡ true
    → openings_to m graph brick openings ≡ openings_to (from - 1) graph brick openings → is_open_after log graph brick m ≡ false
not_open log graph brick from m openings numbers one le ends same = closed_since log graph brick from m one le ends (sym (numbers m) ∙ same ∙ numbers (from - 1))
