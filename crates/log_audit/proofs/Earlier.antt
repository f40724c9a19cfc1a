-- Lines that were sent before an event, with one line more and before a later event.
use Rattle.std.proofs.Common.{◌≡◌, refl, sym, ap, subst, ◌∙◌, arith}
use Rattle.std.specs.Prelude.{ℕ, zero, suc, ◌<◌, ◌≤◌, ◌+◌, ◌==◌, ◌&&◌, nat_lt, nat_le, Bool, true, false, List, [], ◌∷◌, ◌++◌, Some, length, map, take, slice_get, if◌then◌else◌}
use Rattle.std.proofs.lemmas.Bool.{ltb-true, lt-ltb, ltb-false, leb-true, false_from_ne_true}
use Rattle.std.proofs.lemmas.List.{take_more}
use Rattle.std.proofs.Common.{get_or}
use Rattle.std.proofs.lemmas.Option.{slice_get_within, slice_get-get_or}
use Rattle.mount_log.specs.Arrivals.{inputs_to, sent_before}
use Rattle.mount_log.specs.Ties.{do_rise}
use Rattle.mount_log.specs.declared.logs.HubEvent.{HubEvent}
use Rattle.mount_log.specs.declared.logs.SentLine.{SentLine}
use Rattle.log_audit.specs.Arriving.{IsTimely, AreTimely, IsLow, ArePassed, SentInOrder}
use Rattle.log_audit.specs.declared.timely.Passed.{Passed}
use Rattle.mount_log.proofs.Bools.{both}
use Rattle.mount_log.proofs.Items.{some_is, was_there, is_last}

abbrev one : Bool → ℕ
one b = if b then 1 else 0

both_more : (a b c : Bool) → (a ≡ true → b ≡ true) → one (a && c) ≤ one (b && c)
both_more true true c h = let n = one c in let z : n ≤ n = omega arith in z
both_more true false c h = absurd (let e : false ≡ true = h refl in cc)
both_more false true c h = omega arith
both_more false false c h = omega arith

both_now : (a c : Bool) → a ≡ true → one c ≤ one (a && c)
both_now true c e = let n = one c in let z : n ≤ n = omega arith in z
both_now false c e = absurd cc

later_too : (n m e : ℕ) → n ≤ m → nat_lt e n ≡ true → nat_lt e m ≡ true
later_too n m e le is = let l = ltb-true e n is in lt-ltb e m (omega (arith, l, le))

before_more : (n m brick : ℕ) (xs : List SentLine) → n ≤ m → sent_before n brick xs ≤ sent_before m brick xs
before_more n m brick [] le = omega arith
before_more n m brick (x ∷ xs) le =
    let ih = before_more n m brick xs le in let h = both_more (nat_lt x.event n) (nat_lt x.event m) (x.brick == brick) (later_too n m x.event le) in omega (arith, ih, h)

before_push : (n brick : ℕ) (xs : List SentLine) (x : SentLine) → sent_before n brick (xs ++ x ∷ []) ≡ sent_before n brick xs + one (nat_lt x.event n && (x.brick == brick))
before_push n brick [] x = let k = one (nat_lt x.event n && (x.brick == brick)) in let z : k + 0 ≡ 0 + k = omega arith in z
before_push n brick (y ∷ xs) x = let ih = before_push n brick xs x in omega (arith, ih)

before_take : (n brick i : ℕ) (xs : List SentLine) → sent_before n brick (take i xs) ≤ sent_before n brick xs
before_take n brick zero xs = omega arith
before_take n brick (suc i) [] = omega arith
before_take n brick (suc i) (x ∷ xs) = let ih = before_take n brick i xs in omega (arith, ih)

with_input : (b : Bool) (bytes : List ℕ) (rest : List (List ℕ)) → length (if b then bytes ∷ rest else rest) ≡ one b + length rest
with_input true bytes rest = let n = length rest in let s : suc n ≡ 1 + n = omega arith in s
with_input false bytes rest = let n = length rest in let s : n ≡ 0 + n = omega arith in s

inputs_push : (brick : ℕ) (xs : List SentLine) (x : SentLine) → length (inputs_to brick (xs ++ x ∷ [])) ≡ length (inputs_to brick xs) + one (x.brick == brick)
inputs_push brick [] x = let p = with_input (x.brick == brick) x.bytes [] in omega (arith, p)
inputs_push brick (y ∷ xs) x =
    let ih = inputs_push brick xs x in let p = with_input (y.brick == brick) y.bytes (inputs_to brick (xs ++ x ∷ [])) in let q = with_input (y.brick == brick) y.bytes (inputs_to brick xs) in
    omega (arith, ih, p, q)

pub low_later : (brick before number : ℕ) (sent : List SentLine) (p : Passed) → before ≤ number → IsLow brick before sent p → IsLow brick number sent p
low_later brick before number sent p le l = let m = before_more before number brick (take p.next sent) le in let a = l.low in record { low = omega (arith, m, a); few = l.few; all = l.all }

-- a line is passed that was sent before the event
pub low_next : (brick number : ℕ) (sent : List SentLine) (p : Passed) (line : SentLine) (count : ℕ) → p.next < length sent → line ≡ get_or sent p.next line → line.event < number
    → count ≡ one (line.brick == brick) → count ≤ 1 → IsLow brick number sent p → IsLow brick number sent (record { next = p.next + 1; count = p.count + count })
low_next brick number sent p line count lt is earlier one_is few l =
    let more = take_more sent p.next line lt ∙ ap (λ (x : SentLine). take p.next sent ++ x ∷ []) (sym is) in
    let pushed = ap (sent_before number brick) more ∙ before_push number brick (take p.next sent) line in
    let now = both_now (nat_lt line.event number) (line.brick == brick) (lt-ltb line.event number earlier) in
    let each = ap (λ (xs : List SentLine). length (inputs_to brick xs)) more ∙ inputs_push brick (take p.next sent) line in
    let a = l.low in let b = l.few in let c = l.all in
    record { low = omega (arith, pushed, now, one_is, a); few = omega (arith, few, b); all = omega (arith, each, one_is, c) }

-- so many are few of all
pub counted : (brick number : ℕ) (sent : List SentLine) (p : Passed) → IsLow brick number sent p → p.count ≤ sent_before number brick sent
counted brick number sent p l = let t = before_take number brick p.next sent in let a = l.low in omega (arith, t, a)

-- the events are timely with one more
pub timely_next : (brick : ℕ) (events : List HubEvent) (sent : List SentLine) (k : ℕ) (e : HubEvent) → k < length events → e ≡ get_or events k e
    → IsTimely brick sent (k + 1) e → AreTimely brick (take k events) sent → length (take k events) ≡ k → AreTimely brick (take (k + 1) events) sent
timely_next brick events sent k e lt is own before long = record { each = λ i x there. by i x (ap (λ (l : List HubEvent). slice_get l i) (sym more) ∙ there) (nat_lt i (length (take k events))) refl } where
  more : take (k + 1) events ≡ take k events ++ e ∷ []
  more = take_more events k e lt ∙ ap (λ (x : HubEvent). take k events ++ x ∷ []) (sym is)

  by : (i : ℕ) (x : HubEvent) → slice_get (take k events ++ e ∷ []) i ≡ Some x → (b : Bool) → nat_lt i (length (take k events)) ≡ b → IsTimely brick sent (i + 1) x
  by i x there true f = before.each i x (was_there (take k events) e x i there (ltb-true i (length (take k events)) f))
  by i x there false f =
      let l = is_last (take k events) e x i there (ltb-false i (length (take k events)) f) in
      subst (λ (y : HubEvent). IsTimely brick sent (i + 1) y) (sym l.1) (subst (λ (n : ℕ). IsTimely brick sent (n + 1) e) (sym (l.0 ∙ long)) own)

-- ---- where what was sent is in order, none is missed

only_right : (a b : Bool) → one (a && b) ≤ one b
only_right true b = let n = one b in let z : n ≤ n = omega arith in z
only_right false b = omega arith

not_counted : (a b : Bool) → a ≡ false → one (a && b) ≡ 0
not_counted true b e = absurd cc
not_counted false b e = refl

not_before : (e n : ℕ) → n ≤ e → nat_lt e n ≡ false
not_before e n le = false_from_ne_true (nat_lt e n) (λ t. let l = ltb-true e n t in absurd (omega (arith, l, le)))

-- the first number is not below the floor, and is the floor of the others
record Rises (floor last first : ℕ) (others : List ℕ) : Type 0 where
  pub from : floor ≤ first
  pub others_rise : do_rise first last others ≡ true

rises : (floor last first : ℕ) (others : List ℕ) → do_rise floor last (first ∷ others) ≡ true → Rises floor last first others
rises floor last first others e =
    let p = both (nat_le floor first) (nat_le first last && do_rise first last others) e in let q = both (nat_le first last) (do_rise first last others) p.1 in
    record { from = leb-true floor first p.0; others_rise = q.1 }

none_later : (number brick floor last : ℕ) (xs : List SentLine) → number ≤ floor → do_rise floor last (map (λ (l : SentLine). l.event) xs) ≡ true → sent_before number brick xs ≡ 0
none_later number brick floor last [] le order = refl
none_later number brick floor last (x ∷ xs) le order =
    let r = rises floor last x.event (map (λ (l : SentLine). l.event) xs) order in let f = r.from in
    let ih = none_later number brick x.event last xs (omega (arith, le, f)) r.others_rise in
    let z = not_counted (nat_lt x.event number) (x.brick == brick) (not_before x.event number (omega (arith, le, f))) in
    omega (arith, ih, z)

all_counted : (number brick floor last k : ℕ) (xs : List SentLine) → do_rise floor last (map (λ (l : SentLine). l.event) xs) ≡ true → ((line : SentLine) → slice_get xs k ≡ Some line → number ≤ line.event)
    → sent_before number brick xs ≤ length (inputs_to brick (take k xs))
all_counted number brick floor last zero [] order stop = omega arith
all_counted number brick floor last (suc k) [] order stop = omega arith
all_counted number brick floor last zero (x ∷ xs) order stop =
    let r = rises floor last x.event (map (λ (l : SentLine). l.event) xs) order in let le = stop x refl in
    let ih = none_later number brick x.event last xs le r.others_rise in let z = not_counted (nat_lt x.event number) (x.brick == brick) (not_before x.event number le) in
    omega (arith, ih, z)
all_counted number brick floor last (suc k) (x ∷ xs) order stop =
    let r = rises floor last x.event (map (λ (l : SentLine). l.event) xs) order in
    let ih = all_counted number brick x.event last k xs r.others_rise stop in
    let a = only_right (nat_lt x.event number) (x.brick == brick) in let b = with_input (x.brick == brick) x.bytes (inputs_to brick (take k xs)) in
    omega (arith, ih, a, b)

pub none_missed : (brick number : ℕ) (events : List HubEvent) (sent : List SentLine) (p : Passed) → SentInOrder events sent → IsLow brick number sent p → ArePassed number sent p → sent_before number brick sent ≤ p.count
none_missed brick number events sent p order l passed = let a = l.all in let b = all_counted number brick 0 (length events) p.next sent order passed in omega (arith, a, b)

pub none_left : (number : ℕ) (sent : List SentLine) (p : Passed) → length sent ≤ p.next → ArePassed number sent p
none_left number sent p le line there = let lt = slice_get_within sent p.next line there in absurd (omega (arith, le, lt))

pub stops_at : (number : ℕ) (sent : List SentLine) (p : Passed) (line : SentLine) → p.next < length sent → line ≡ get_or sent p.next line → number ≤ line.event → ArePassed number sent p
stops_at number sent p line lt is le other there =
    let same : line ≡ other = some_is line other (sym (slice_get-get_or sent p.next line lt ∙ ap Some (sym is)) ∙ there) in
    subst (λ (x : SentLine). number ≤ x.event) same le
