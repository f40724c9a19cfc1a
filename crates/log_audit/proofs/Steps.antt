-- What a line makes of what the slots say of a wind.
use Rattle.std.proofs.Common.{◌≡◌, refl, sym, ap, subst, ◌∙◌, arith}
use Rattle.std.specs.Prelude.{ℕ, ◌≢◌, ◌<◌, ◌≤◌, ◌==◌, ◌&&◌, nat_lt, not, Bool, true, false, List, [], ◌∷◌, ◌++◌, length, slice_get, Option, Some, None, if◌then◌else◌, MatchBool}
use Rattle.std.proofs.lemmas.Bool.{eqb-true as from_same, eqb-false as from_other, false_from_ne_true, true_from_ne_false, ltb-true as ltb-lt, ltb-false as ltb-le}
use Rattle.std.proofs.lemmas.List.{length-append}
use Rattle.xlator_law.specs.declared.winds.WindNo.{WindNo}
use Rattle.mount_log.specs.Winds.{is_wind, times_opened, times_ended, IsEndOf}
use Rattle.mount_log.specs.declared.logs.WindLine.{WindLine}
use Rattle.log_audit.specs.Slots.{slot_at, step, opening_of, is_end_of, Takes}
use Rattle.log_audit.specs.Agreeing.{IsLast, IsOther, Agrees, Agree}
use Rattle.log_audit.specs.declared.slots.Turn.{Turn}
use Rattle.mount_log.proofs.Items.{get_later, get_last, was_there, is_last}
use Rattle.log_audit.proofs.Counts.{opens, finishes, opened_push, ended_push}

-- ---- tests

pub eqb-true : {a b : ℕ} → a ≡ b → (a == b) ≡ true
eqb-true {a} {b} e = true_from_ne_false (a == b) (λ f. from_other a b f e)

eqb-false : {a b : ℕ} → a ≢ b → (a == b) ≡ false
eqb-false {a} {b} ne = false_from_ne_true (a == b) (λ e. ne (from_same a b e))

pub eqb-to : {a b : ℕ} → (a == b) ≡ true → a ≡ b
eqb-to {a} {b} e = from_same a b e

eqb-not : {a b : ℕ} → (a == b) ≡ false → a ≢ b
eqb-not {a} {b} e = from_other a b e

split : {P Q : Type 0} (b : Bool) → (b ≡ true → P) → (b ≡ false → Q) → MatchBool b P Q
split true p q = p refl
split false p q = q refl

pub from_true : (w : WindNo) (last : Turn) (lines : List WindLine) (b : Bool) → b ≡ true → MatchBool b (IsLast w last lines) (IsOther w last lines) → IsLast w last lines
from_true w last lines true e m = m
from_true w last lines false e m = absurd cc

pub from_false : (w : WindNo) (last : Turn) (lines : List WindLine) (b : Bool) → b ≡ false → MatchBool b (IsLast w last lines) (IsOther w last lines) → IsOther w last lines
from_false w last lines true e m = absurd cc
from_false w last lines false e m = m

no_left : (a b : Bool) → a ≡ false → (a && b) ≡ false
no_left true b e = absurd cc
no_left false b e = refl

no_right : (a b : Bool) → b ≡ false → (a && b) ≡ false
no_right true b e = e
no_right false b e = refl

pub both : (a b : Bool) → a ≡ true → b ≡ true → (a && b) ≡ true
both true b e f = f
both false b e f = absurd cc

pub left_of : (a b : Bool) → (a && b) ≡ true → a ≡ true
left_of true b e = refl
left_of false b e = absurd cc

pub right_of : (a b : Bool) → (a && b) ≡ true → b ≡ true
right_of true b e = e
right_of false b e = absurd cc

pub count_one : (b : Bool) → b ≡ true → ◌≡◌ {A = ℕ} (if b then 1 else 0) 1
count_one true e = refl
count_one false e = absurd cc

count_none : (b : Bool) → b ≡ false → ◌≡◌ {A = ℕ} (if b then 1 else 0) 0
count_none true e = absurd cc
count_none false e = refl

pub same_wind : (a b : WindNo) → a.slot ≡ b.slot → a.turn ≡ b.turn → is_wind a b ≡ true
same_wind a b e f = both (a.slot == b.slot) (a.turn == b.turn) (eqb-true e) (eqb-true f)

made_of : (a b : WindNo) → a.slot ≡ b.slot → a.turn ≡ b.turn → b ≡ a
made_of a b e f = subst (λ (s : ℕ). b ≡ record { slot = s; turn = a.turn }) (sym e) (subst (λ (t : ℕ). b ≡ record { slot = b.slot; turn = t }) (sym f) refl)

other_turn : (a b : WindNo) → a.turn ≢ b.turn → is_wind a b ≡ false
other_turn a b ne = no_right (a.slot == b.slot) (a.turn == b.turn) (eqb-false ne)

-- ---- a line of another wind

last_kept : (w : WindNo) (last : Turn) (lines : List WindLine) (line : WindLine) → is_wind w line.wind ≡ false → IsLast w last lines → IsLast w last (lines ++ line ∷ [])
last_kept w last lines line other l = record {
  opened = let p = opened_push w lines line in let z : opens w line ≡ 0 = count_none (line.opened && is_wind w line.wind) (no_right line.opened (is_wind w line.wind) other) in let o = l.opened in omega (arith, p, z, o);
  ended = let p = ended_push w lines line in let z : finishes w line ≡ 0 = count_none (not line.opened && is_wind w line.wind) (no_right (not line.opened) (is_wind w line.wind) other) in let o = l.ended in omega (arith, p, z, o);
  place = l.place;
  opening = l.opening;
  within = let a = length-append lines (line ∷ []) in let b = l.within in omega (arith, a, b);
  there = get_later lines line l.opening l.place l.there;
  is_opening = l.is_opening;
  wind = l.wind;
  graph = l.graph;
  call = l.call;
}

other_kept : (w : WindNo) (last : Turn) (lines : List WindLine) (line : WindLine) → is_wind w line.wind ≡ false → IsOther w last lines → IsOther w last (lines ++ line ∷ [])
other_kept w last lines line other o =
    let p = opened_push w lines line in let z : opens w line ≡ 0 = count_none (line.opened && is_wind w line.wind) (no_right line.opened (is_wind w line.wind) other) in
    let q = ended_push w lines line in let y : finishes w line ≡ 0 = count_none (not line.opened && is_wind w line.wind) (no_right (not line.opened) (is_wind w line.wind) other) in
    let a = o.once in let d = o.done in
    record {
      once = omega (arith, p, z, a);
      done = omega (arith, p, z, q, y, d);
      later = λ lt. let n = o.later lt in omega (arith, p, z, n);
    }

pub kept : (w : WindNo) (o : Option Turn) (lines : List WindLine) (line : WindLine) → is_wind w line.wind ≡ false → Agrees w o lines → Agrees w o (lines ++ line ∷ [])
kept w None lines line other a =
    let p = opened_push w lines line in let z : opens w line ≡ 0 = count_none (line.opened && is_wind w line.wind) (no_right line.opened (is_wind w line.wind) other) in
    let q = ended_push w lines line in let y : finishes w line ≡ 0 = count_none (not line.opened && is_wind w line.wind) (no_right (not line.opened) (is_wind w line.wind) other) in
    let b = a.0 in let c = a.1 in (omega (arith, p, z, b), omega (arith, q, y, c))
kept w (Some last) lines line other a =
    split (last.turn == w.turn)
    (λ e. last_kept w last lines line other (from_true w last lines (last.turn == w.turn) e a))
    (λ e. other_kept w last lines line other (from_false w last lines (last.turn == w.turn) e a))

-- ---- an opening

begun : (w : WindNo) (lines : List WindLine) (line : WindLine) → line.wind ≡ w → is_wind w line.wind ≡ true → line.opened ≡ true → times_opened w lines ≡ 0 → times_ended w lines ≡ 0 → IsLast w (opening_of line) (lines ++ line ∷ [])
begun w lines line is same opened a b = record {
  opened = let p = opened_push w lines line in let z : opens w line ≡ 1 = count_one (line.opened && is_wind w line.wind) (both line.opened (is_wind w line.wind) opened same) in omega (arith, p, z, a);
  ended = let p = ended_push w lines line in let z : finishes w line ≡ 0 = count_none (not line.opened && is_wind w line.wind) (no_left (not line.opened) (is_wind w line.wind) (ap not opened)) in let s : times_ended w (lines ++ line ∷ []) ≡ 0 = omega (arith, p, z, b) in s;
  place = length lines;
  opening = line;
  within = let n = length-append lines (line ∷ []) in omega (arith, n);
  there = get_last lines line;
  is_opening = opened;
  wind = is;
  graph = refl;
  call = refl;
}

record Past (w : WindNo) (last : Turn) (lines : List WindLine) : Type 0 where
  pub once : times_opened w lines ≤ 1
  pub done : times_ended w lines ≡ times_opened w lines
  pub later : last.turn < w.turn → times_opened w lines ≡ 0

-- the slot's next wind is opened
module _ (w : WindNo) (lines : List WindLine) (line : WindLine) (slot : line.wind.slot ≡ w.slot) (opened : line.opened ≡ true) where
  -- where none of the slot was opened
  first_opened : (times_opened w lines ≡ 0) × (times_ended w lines ≡ 0) → Agrees w (Some (opening_of line)) (lines ++ line ∷ [])
  first_opened a =
      split (line.wind.turn == w.turn)
      (λ e. let t : line.wind.turn ≡ w.turn = eqb-to e in begun w lines line (made_of w line.wind (sym slot) (sym t)) (same_wind w line.wind (sym slot) (sym t)) opened a.0 a.1)
      (λ e. let other : is_wind w line.wind ≡ false = other_turn w line.wind (λ t. eqb-not e (sym t)) in
      let p = opened_push w lines line in let z : opens w line ≡ 0 = count_none (line.opened && is_wind w line.wind) (no_right line.opened (is_wind w line.wind) other) in
      let q = ended_push w lines line in let y : finishes w line ≡ 0 = count_none (not line.opened && is_wind w line.wind) (no_right (not line.opened) (is_wind w line.wind) other) in
      let b = a.0 in let c = a.1 in
      record { once = omega (arith, p, z, b); done = omega (arith, p, z, q, y, b, c); later = λ _. omega (arith, p, z, b) })

  -- where the last has ended
  next_opened : (last : Turn) → last.pending ≡ false → last.turn < line.wind.turn → Agrees w (Some last) lines → Agrees w (Some (opening_of line)) (lines ++ line ∷ [])
  next_opened last ended rises a =
      split (line.wind.turn == w.turn)
      (λ e. let t : line.wind.turn ≡ w.turn = eqb-to e in
      let ne : last.turn ≢ w.turn = λ s. absurd (omega (arith, rises, s, t)) in
      let o : IsOther w last lines = from_false w last lines (last.turn == w.turn) (eqb-false ne) a in
      let none : times_opened w lines ≡ 0 = o.later (omega (arith, rises, t)) in
      let d = o.done in
      begun w lines line (made_of w line.wind (sym slot) (sym t)) (same_wind w line.wind (sym slot) (sym t)) opened none (d ∙ none))
      (λ e. let ne : w.turn ≢ line.wind.turn = λ s. eqb-not e (sym s) in
      let other : is_wind w line.wind ≡ false = other_turn w line.wind ne in
      past last.turn (counts (last.turn == w.turn) refl) other ne) where
        counts : (b : Bool) → (last.turn == w.turn) ≡ b → Past w last lines
        counts true e =
            let l : IsLast w last lines = from_true w last lines (last.turn == w.turn) e a in
            let o = l.opened in let d : times_ended w lines ≡ 1 = l.ended ∙ ap (λ (b : Bool). if b then 0 else 1) ended in
            let t : last.turn ≡ w.turn = eqb-to e in
            record { once = omega (arith, o); done = d ∙ sym o; later = λ lt. absurd (omega (arith, lt, t)) }
        counts false e = let o : IsOther w last lines = from_false w last lines (last.turn == w.turn) e a in record { once = o.once; done = o.done; later = o.later }

        past : (n : ℕ) → Past w last lines → is_wind w line.wind ≡ false → w.turn ≢ line.wind.turn → IsOther w (opening_of line) (lines ++ line ∷ [])
        past n so other ne =
            let p = opened_push w lines line in let z : opens w line ≡ 0 = count_none (line.opened && is_wind w line.wind) (no_right line.opened (is_wind w line.wind) other) in
            let q = ended_push w lines line in let y : finishes w line ≡ 0 = count_none (not line.opened && is_wind w line.wind) (no_right (not line.opened) (is_wind w line.wind) other) in
            let b = so.once in let c = so.done in
            record { once = omega (arith, p, z, b); done = omega (arith, p, z, q, y, c); later = λ lt. let m = so.later (omega (arith, rises, lt)) in omega (arith, p, z, m) }

-- ---- an end

module _ (w : WindNo) (lines : List WindLine) (line : WindLine) (last : Turn) (slot : line.wind.slot ≡ w.slot) (ends : line.opened ≡ false) (is_open : last.pending ≡ true) (turn : last.turn ≡ line.wind.turn) where
  ended_last : line.wind ≡ w → is_wind w line.wind ≡ true → IsLast w last lines → IsLast w (record last { pending = false }) (lines ++ line ∷ [])
  ended_last is same l = record {
    opened = let p = opened_push w lines line in let z : opens w line ≡ 0 = count_none (line.opened && is_wind w line.wind) (no_left line.opened (is_wind w line.wind) ends) in let o = l.opened in omega (arith, p, z, o);
    ended = let p = ended_push w lines line in let z : finishes w line ≡ 1 = count_one (not line.opened && is_wind w line.wind) (both (not line.opened) (is_wind w line.wind) (ap not ends) same) in let o : times_ended w lines ≡ 0 = l.ended ∙ ap (λ (b : Bool). if b then 0 else 1) is_open in let s : times_ended w (lines ++ line ∷ []) ≡ 1 = omega (arith, p, z, o) in s;
    place = l.place;
    opening = l.opening;
    within = let a = length-append lines (line ∷ []) in let b = l.within in omega (arith, a, b);
    there = get_later lines line l.opening l.place l.there;
    is_opening = l.is_opening;
    wind = l.wind;
    graph = l.graph;
    call = l.call;
  }

  pub last_ended : Agrees w (Some last) lines → Agrees w (Some (record last { pending = false })) (lines ++ line ∷ [])
  last_ended a =
      split (last.turn == w.turn)
      (λ e. let t : line.wind.turn ≡ w.turn = sym turn ∙ eqb-to e in
      ended_last (made_of w line.wind (sym slot) (sym t)) (same_wind w line.wind (sym slot) (sym t)) (from_true w last lines (last.turn == w.turn) e a))
      (λ e. let ne : w.turn ≢ line.wind.turn = λ s. eqb-not e (turn ∙ sym s) in
      let o = other_kept w last lines line (other_turn w line.wind ne) (from_false w last lines (last.turn == w.turn) e a) in
      record { once = o.once; done = o.done; later = o.later })

-- ---- a step of the wind's own slot

pub if_true : {A : Type 0} (b : Bool) (x y : A) → b ≡ true → (if b then x else y) ≡ x
if_true true x y e = refl
if_true false x y e = absurd cc

pub if_false : {A : Type 0} (b : Bool) (x y : A) → b ≡ false → (if b then x else y) ≡ y
if_false true x y e = absurd cc
if_false false x y e = refl

made_by : {A : Type 0} {x y : A} → Some x ≡ Some y → x ≡ y
made_by e = cc

-- which test let a line pass
pub passed : {A : Type 0} (b : Bool) (x y : A) → (if b then Some x else None) ≡ Some y → (b ≡ true) × (x ≡ y)
passed true x y e = (refl, made_by e)
passed false x y e = absurd cc

module _ (w : WindNo) (lines : List WindLine) (line : WindLine) (slot : line.wind.slot ≡ w.slot) where
  opened_by : (o : Option Turn) (next : Turn) → line.opened ≡ true → step o line ≡ Some next → Agrees w o lines → Agrees w (Some next) (lines ++ line ∷ [])
  opened_by None next opened s a =
      let e : opening_of line ≡ next = made_by (sym (if_true line.opened (Some (opening_of line)) None opened) ∙ s) in
      subst (λ (t : Turn). Agrees w (Some t) (lines ++ line ∷ [])) e (first_opened w lines line slot opened a)
  opened_by (Some last) next opened s a =
      let p = passed (not last.pending && nat_lt last.turn line.wind.turn) (opening_of line) next (sym (if_true line.opened _ _ opened) ∙ s) in
      let closed : last.pending ≡ false = not_open last.pending (left_of (not last.pending) (nat_lt last.turn line.wind.turn) p.0) in
      let rises : last.turn < line.wind.turn = ltb-lt last.turn line.wind.turn (right_of (not last.pending) (nat_lt last.turn line.wind.turn) p.0) in
      subst (λ (t : Turn). Agrees w (Some t) (lines ++ line ∷ [])) p.1 (next_opened w lines line slot opened last closed rises a) where
        not_open : (b : Bool) → not b ≡ true → b ≡ false
        not_open true e = absurd cc
        not_open false e = refl

  ended_by : (o : Option Turn) (next : Turn) → line.opened ≡ false → step o line ≡ Some next → Agrees w o lines → Agrees w (Some next) (lines ++ line ∷ [])
  ended_by None next ends s a = absurd (no_end (sym (if_false line.opened (Some (opening_of line)) None ends) ∙ s)) where
    no_end : None ≡ Some next → ⊥
    no_end e = absurd cc
  ended_by (Some last) next ends s a =
      let p = passed (is_end_of last line) (record last { pending = false }) next (sym (if_false line.opened _ _ ends) ∙ s) in
      let is_open : last.pending ≡ true = left_of last.pending ((last.turn == line.wind.turn) && ((last.graph == line.graph) && (last.call == line.call))) p.0 in
      let rest = right_of last.pending ((last.turn == line.wind.turn) && ((last.graph == line.graph) && (last.call == line.call))) p.0 in
      let turn : last.turn ≡ line.wind.turn = eqb-to (left_of (last.turn == line.wind.turn) ((last.graph == line.graph) && (last.call == line.call)) rest) in
      subst (λ (t : Turn). Agrees w (Some t) (lines ++ line ∷ [])) p.1 (last_ended w lines line last slot ends is_open turn a)

  own_step : (b : Bool) → line.opened ≡ b → (o : Option Turn) (next : Turn) → step o line ≡ Some next → Agrees w o lines → Agrees w (Some next) (lines ++ line ∷ [])
  own_step true is o next s a = opened_by o next is s a
  own_step false is o next s a = ended_by o next is s a

-- ---- the end that a line is

-- an end is that of the open wind of its slot
end_of : (lines : List WindLine) (line : WindLine) (o : Option Turn) (next : Turn) → line.opened ≡ false → step o line ≡ Some next → Agrees line.wind o lines → IsEndOf (lines ++ line ∷ []) (length lines) line
end_of lines line None next ends s a = absurd (no_end (sym (if_false line.opened (Some (opening_of line)) None ends) ∙ s)) where
  no_end : None ≡ Some next → ⊥
  no_end e = absurd cc
end_of lines line (Some last) next ends s a =
    let p = passed (is_end_of last line) (record last { pending = false }) next (sym (if_false line.opened _ _ ends) ∙ s) in
    let rest = right_of last.pending ((last.turn == line.wind.turn) && ((last.graph == line.graph) && (last.call == line.call))) p.0 in
    let same = left_of (last.turn == line.wind.turn) ((last.graph == line.graph) && (last.call == line.call)) rest in
    let parts = right_of (last.turn == line.wind.turn) ((last.graph == line.graph) && (last.call == line.call)) rest in
    let l : IsLast line.wind last lines = from_true line.wind last lines (last.turn == line.wind.turn) same a in
    record {
      opened_at = l.place;
      opening = l.opening;
      earlier = l.within;
      there = get_later lines line l.opening l.place l.there;
      is_opening = l.is_opening;
      same_wind = l.wind;
      same_graph = l.graph ∙ eqb-to (left_of (last.graph == line.graph) (last.call == line.call) parts);
      same_call = l.call ∙ eqb-to (right_of (last.graph == line.graph) (last.call == line.call) parts);
    }

end_later : (lines : List WindLine) (line end : WindLine) (k : ℕ) → IsEndOf lines k end → IsEndOf (lines ++ line ∷ []) k end
end_later lines line end k e = record {
  opened_at = e.opened_at;
  opening = e.opening;
  earlier = e.earlier;
  there = get_later lines line e.opening e.opened_at e.there;
  is_opening = e.is_opening;
  same_wind = e.same_wind;
  same_graph = e.same_graph;
  same_call = e.same_call;
}

-- ---- a line keeps what the slots say

pub taken : (old new : List (Option Turn)) (lines : List WindLine) (line : WindLine) → Takes old line new → Agree old lines → Agree new (lines ++ line ∷ [])
taken old new lines line t a = record {
  winds = λ (w : WindNo). by_slot w (w.slot == line.wind.slot) refl;
  ends = λ k end is ends. by_place k end is ends (nat_lt k (length lines)) refl;
} where
  by_slot : (w : WindNo) (b : Bool) → (w.slot == line.wind.slot) ≡ b → Agrees w (slot_at new w.slot) (lines ++ line ∷ [])
  by_slot w true e =
      let s : w.slot ≡ line.wind.slot = eqb-to e in
      let before : Agrees w (slot_at old line.wind.slot) lines = subst (λ (n : ℕ). Agrees w (slot_at old n) lines) s (a.winds w) in
      let after : Agrees w (Some t.next) (lines ++ line ∷ []) = own_step w lines line (sym s) line.opened refl (slot_at old line.wind.slot) t.next t.own before in
      subst (λ (o : Option Turn). Agrees w o (lines ++ line ∷ [])) (sym (ap (slot_at new) s ∙ t.now)) after
  by_slot w false e =
      subst (λ (o : Option Turn). Agrees w o (lines ++ line ∷ [])) (sym (t.others w.slot e))
      (kept w (slot_at old w.slot) lines line (no_left (w.slot == line.wind.slot) (w.turn == line.wind.turn) e) (a.winds w))

  by_place : (k : ℕ) (end : WindLine) → slice_get (lines ++ line ∷ []) k ≡ Some end → end.opened ≡ false → (b : Bool) → nat_lt k (length lines) ≡ b → IsEndOf (lines ++ line ∷ []) k end
  by_place k end is ends true e = end_later lines line end k (a.ends k end (was_there lines line end k is (ltb-lt k (length lines) e)) ends)
  by_place k end is ends false e =
      let l = is_last lines line end k is (ltb-le k (length lines) e) in
      let own : line.opened ≡ false = ap (λ (x : WindLine). x.opened) (sym l.1) ∙ ends in
      let made : IsEndOf (lines ++ line ∷ []) (length lines) line = end_of lines line (slot_at old line.wind.slot) t.next own t.own (a.winds line.wind) in
      subst (λ (x : WindLine). IsEndOf (lines ++ line ∷ []) k x) (sym l.1) (subst (λ (n : ℕ). IsEndOf (lines ++ line ∷ []) n line) (sym l.0) made)
