-- Winds of a slot that follow one another, with one line more; and a line that keeps this, and opens and ends winds once, is not
-- refused.
use Rattle.std.proofs.Common.{◌≡◌, refl, sym, ap, subst, ◌∙◌, arith}
use Rattle.std.specs.Prelude.{ℕ, zero, suc, ◌<◌, ◌≤◌, ◌+◌, ◌==◌, ◌&&◌, nat_lt, not, Bool, true, false, List, [], ◌∷◌, ◌++◌, length, take, slice_get, Option, Some, None, if◌then◌else◌, MatchBool}
use Rattle.std.proofs.lemmas.Bool.{ltb-true, ltb-false, lt-ltb}
use Rattle.xlator_law.specs.declared.winds.WindNo.{WindNo}
use Rattle.mount_log.specs.Winds.{is_wind, times_opened, times_ended, IsEndOf, WindsAreOnce, WindsAreBalanced}
use Rattle.mount_log.specs.declared.logs.WindLine.{WindLine}
use Rattle.mount_log.proofs.Items.{some_is, was_there, is_last}
use Rattle.mount_log.proofs.Lists.{take_next}
use Rattle.log_audit.specs.Slots.{slot_at, step, opening_of, is_end_of, is_closed, are_closed}
use Rattle.log_audit.specs.Agreeing.{IsLast, IsOther, Agrees, Agree}
use Rattle.log_audit.specs.Following.{IsNextOfSlot, WindsFollow}
use Rattle.log_audit.specs.declared.slots.Turn.{Turn}
use Rattle.log_audit.proofs.Counts.{opens, finishes, ended_push}
use Rattle.log_audit.proofs.Steps.{eqb-true, eqb-to, from_true, from_false, right_of, left_of, both, count_one, same_wind, if_true, if_false, passed}
use Rattle.log_audit.proofs.Submitting.{take_within, take_long}

-- ---- lines and counts

taken_there : (xs : List WindLine) (i k : ℕ) (x : WindLine) → slice_get (take i xs) k ≡ Some x → (k < i) × (slice_get xs k ≡ Some x)
taken_there xs zero k x is = absurd cc
taken_there [] (suc i) k x is = absurd cc
taken_there (y ∷ xs) (suc i) zero x is = (omega arith, is)
taken_there (y ∷ xs) (suc i) (suc k) x is = let ih = taken_there xs i k x is in let lt = ih.0 in (omega (arith, lt), ih.1)

there_taken : (xs : List WindLine) (i k : ℕ) (x : WindLine) → k < i → slice_get xs k ≡ Some x → slice_get (take i xs) k ≡ Some x
there_taken xs zero k x lt is = absurd (omega (arith, lt))
there_taken [] (suc i) k x lt is = absurd cc
there_taken (y ∷ xs) (suc i) zero x lt is = is
there_taken (y ∷ xs) (suc i) (suc k) x lt is = there_taken xs i k x (omega (arith, lt)) is

counts_one : (w : WindNo) (a : WindLine) → a.opened ≡ true → a.wind ≡ w → opens w a ≡ 1
counts_one w a opened same =
    count_one (a.opened && is_wind w a.wind) (both a.opened (is_wind w a.wind) opened (same_wind w a.wind (ap (λ (x : WindNo). x.slot) (sym same)) (ap (λ (x : WindNo). x.turn) (sym same))))

one_opened : (w : WindNo) (lines : List WindLine) (k : ℕ) (line : WindLine) → slice_get lines k ≡ Some line → line.opened ≡ true → line.wind ≡ w → 1 ≤ times_opened w lines
one_opened w [] k line is opened same = absurd cc
one_opened w (l ∷ lines) zero line is opened same = let o : opens w l ≡ 1 = ap (opens w) (some_is l line is) ∙ counts_one w line opened same in omega (arith, o)
one_opened w (l ∷ lines) (suc k) line is opened same = let ih = one_opened w lines k line is opened same in omega (arith, ih)

-- what was opened once has one opening
same_opening : (w : WindNo) (lines : List WindLine) (j k : ℕ) (a b : WindLine) → slice_get lines j ≡ Some a → slice_get lines k ≡ Some b → a.opened ≡ true → b.opened ≡ true → a.wind ≡ w → b.wind ≡ w
    → times_opened w lines ≤ 1 → a ≡ b
same_opening w [] j k a b p q a_opened b_opened a_wind b_wind few = absurd cc
same_opening w (x ∷ lines) zero zero a b p q a_opened b_opened a_wind b_wind few = sym (some_is x a p) ∙ some_is x b q
same_opening w (x ∷ lines) zero (suc k) a b p q a_opened b_opened a_wind b_wind few =
    let more = one_opened w lines k b q b_opened b_wind in let o : opens w x ≡ 1 = ap (opens w) (some_is x a p) ∙ counts_one w a a_opened a_wind in absurd (omega (arith, few, more, o))
same_opening w (x ∷ lines) (suc j) zero a b p q a_opened b_opened a_wind b_wind few =
    let more = one_opened w lines j a p a_opened a_wind in let o : opens w x ≡ 1 = ap (opens w) (some_is x b q) ∙ counts_one w b b_opened b_wind in absurd (omega (arith, few, more, o))
same_opening w (x ∷ lines) (suc j) (suc k) a b p q a_opened b_opened a_wind b_wind few = same_opening w lines j k a b p q a_opened b_opened a_wind b_wind (omega (arith, few))

fewer_ended : (w : WindNo) (i : ℕ) (lines : List WindLine) → times_ended w (take i lines) ≤ times_ended w lines
fewer_ended w zero lines = omega arith
fewer_ended w (suc i) [] = omega arith
fewer_ended w (suc i) (l ∷ lines) = let ih = fewer_ended w i lines in omega (arith, ih)

not_pending : (b : Bool) → ◌≡◌ {A = ℕ} (if b then 0 else 1) 1 → b ≡ false
not_pending true e = absurd cc
not_pending false e = refl

is_pending : (b : Bool) → ◌≡◌ {A = ℕ} (if b then 0 else 1) 0 → b ≡ true
is_pending true e = refl
is_pending false e = absurd cc

not_open : (b : Bool) → not b ≡ true → b ≡ false
not_open true e = absurd cc
not_open false e = refl

-- ---- one line more

-- a wind that was opened has no higher turn than the last of its slot
older : (w : WindNo) (last : Turn) (lines : List WindLine) → Agrees w (Some last) lines → 1 ≤ times_opened w lines → w.turn ≤ last.turn
older w last lines a one = by (last.turn == w.turn) refl where
  other : IsOther w last lines → (b : Bool) → nat_lt last.turn w.turn ≡ b → w.turn ≤ last.turn
  other o true e = let z = o.later (ltb-true last.turn w.turn e) in absurd (omega (arith, z, one))
  other o false e = ltb-false last.turn w.turn e

  by : (b : Bool) → (last.turn == w.turn) ≡ b → w.turn ≤ last.turn
  by true e = let s : last.turn ≡ w.turn = eqb-to e in omega (arith, s)
  by false e = other (from_false w last lines (last.turn == w.turn) e a) (nat_lt last.turn w.turn) refl

even_if : (w : WindNo) (last : Turn) (lines : List WindLine) → last.pending ≡ false → (b : Bool) → MatchBool b (IsLast w last lines) (IsOther w last lines) → times_ended w lines ≡ times_opened w lines
even_if w last lines closed true l = l.ended ∙ ap (λ (b : Bool). if b then 0 else 1) closed ∙ sym l.opened
even_if w last lines closed false o = o.done

module _ (slots : List (Option Turn)) (lines : List WindLine) (line : WindLine) (next : Turn) (a : Agree slots lines) (own : step (slot_at slots line.wind.slot) line ≡ Some next) (opened : line.opened ≡ true) where
  rises_over : (k : ℕ) (earlier : WindLine) → slice_get lines k ≡ Some earlier → earlier.opened ≡ true → earlier.wind.slot ≡ line.wind.slot → earlier.wind.turn < line.wind.turn
  rises_over k earlier there is_opening slot = by (slot_at slots line.wind.slot) (subst (λ (n : ℕ). Agrees earlier.wind (slot_at slots n) lines) slot (a.winds earlier.wind)) own where
    by : (o : Option Turn) → Agrees earlier.wind o lines → step o line ≡ Some next → earlier.wind.turn < line.wind.turn
    by None agrees s = let z = agrees.0 in let one = one_opened earlier.wind lines k earlier there is_opening refl in absurd (omega (arith, z, one))
    by (Some last) agrees s =
        let p = passed (not last.pending && nat_lt last.turn line.wind.turn) (opening_of line) next (sym (if_true line.opened _ _ opened) ∙ s) in
        let rises : last.turn < line.wind.turn = ltb-true last.turn line.wind.turn (right_of (not last.pending) (nat_lt last.turn line.wind.turn) p.0) in
        let le = older earlier.wind last lines agrees (one_opened earlier.wind lines k earlier there is_opening refl) in
        omega (arith, rises, le)

  all_ended : (w : WindNo) → w.slot ≡ line.wind.slot → times_ended w lines ≡ times_opened w lines
  all_ended w slot = by (slot_at slots line.wind.slot) (subst (λ (n : ℕ). Agrees w (slot_at slots n) lines) slot (a.winds w)) own where
    by : (o : Option Turn) → Agrees w o lines → step o line ≡ Some next → times_ended w lines ≡ times_opened w lines
    by None agrees s = agrees.1 ∙ sym agrees.0
    by (Some last) agrees s =
        let p = passed (not last.pending && nat_lt last.turn line.wind.turn) (opening_of line) next (sym (if_true line.opened _ _ opened) ∙ s) in
        even_if w last lines (not_open last.pending (left_of (not last.pending) (nat_lt last.turn line.wind.turn) p.0)) (last.turn == w.turn) agrees

pub follow_more : (slots : List (Option Turn)) (lines : List WindLine) (line : WindLine) (next : Turn) → step (slot_at slots line.wind.slot) line ≡ Some next → Agree slots lines → WindsFollow lines → WindsFollow (lines ++ line ∷ [])
follow_more slots lines line next own a f = record { each = λ k opening is opened. at k opening is opened (nat_lt k (length lines)) refl } where
  at : (k : ℕ) (opening : WindLine) → slice_get (lines ++ line ∷ []) k ≡ Some opening → opening.opened ≡ true → (b : Bool) → nat_lt k (length lines) ≡ b → IsNextOfSlot (lines ++ line ∷ []) k opening
  at k opening is opened true e =
      let lt = ltb-true k (length lines) e in let n = f.each k opening (was_there lines line opening k is lt) opened in
      let same : take k lines ≡ take k (lines ++ line ∷ []) = sym (take_within lines line k (omega (arith, lt))) in
      record {
        rises = λ j earlier less there is_opening slot. n.rises j earlier less (was_there lines line earlier j there (omega (arith, less, lt))) is_opening slot;
        ended = λ w slot. subst (λ (ls : List WindLine). times_ended w ls ≡ times_opened w ls) same (n.ended w slot);
      }
  at k opening is opened false e =
      let l = is_last lines line opening k is (ltb-false k (length lines) e) in let n = l.0 in
      let is_opening : line.opened ≡ true = ap (λ (x : WindLine). x.opened) (sym l.1) ∙ opened in
      let slots_are : opening.wind.slot ≡ line.wind.slot = ap (λ (x : WindLine). x.wind.slot) l.1 in
      let all : take k (lines ++ line ∷ []) ≡ lines = ap (λ (m : ℕ). take m (lines ++ line ∷ [])) l.0 ∙ take_within lines line (length lines) (omega arith) ∙ take_long lines in
      record {
        rises = λ j earlier less there was_opening slot.
            subst (λ (x : WindLine). earlier.wind.turn < x.wind.turn) (sym l.1)
            (rises_over slots lines line next a own is_opening j earlier (was_there lines line earlier j there (omega (arith, less, n))) was_opening (slot ∙ slots_are));
        ended = λ w slot. subst (λ (ls : List WindLine). times_ended w ls ≡ times_opened w ls) (sym all) (all_ended slots lines line next a own is_opening w (slot ∙ slots_are));
      }

pub none_follow : WindsFollow []
none_follow = record { each = λ k opening is opened. absurd cc }

-- ---- no such line is refused

no_none : {A : Type 0} {x : A} → Some x ≡ None → ⊥
no_none e = absurd cc

module _ (slots : List (Option Turn)) (lines : List WindLine) (i : ℕ) (line : WindLine) (there : slice_get lines i ≡ Some line) (a : Agree slots (take i lines)) (once : WindsAreOnce lines) (f : WindsFollow lines) where
  opening_comes : line.opened ≡ true → (o : Option Turn) → slot_at slots line.wind.slot ≡ o → step o line ≡ None → ⊥
  opening_comes opened None is s = no_none (sym (if_true line.opened (Some (opening_of line)) None opened) ∙ s)
  opening_comes opened (Some last) is s =
      let w : WindNo = record { slot = line.wind.slot; turn = last.turn } in
      let l : IsLast w last (take i lines) = from_true w last (take i lines) (last.turn == w.turn) (eqb-true refl) (subst (λ (o : Option Turn). Agrees w o (take i lines)) is (a.winds w)) in
      let n = f.each i line there opened in
      let closed : last.pending ≡ false = not_pending last.pending (sym l.ended ∙ n.ended w refl ∙ l.opened) in
      let at = taken_there lines i l.place l.opening l.there in
      let less = n.rises l.place l.opening at.0 at.1 l.is_opening (ap (λ (x : WindNo). x.slot) l.wind) in
      let lt : last.turn < line.wind.turn = subst (λ (m : ℕ). m < line.wind.turn) (ap (λ (x : WindNo). x.turn) l.wind) less in
      let test = both (not last.pending) (nat_lt last.turn line.wind.turn) (ap not closed) (lt-ltb last.turn line.wind.turn lt) in
      no_none (sym (if_true (not last.pending && nat_lt last.turn line.wind.turn) (Some (opening_of line)) None test) ∙ (sym (if_true line.opened _ _ opened) ∙ s))

  module _ (ends : line.opened ≡ false) where
    its_end : IsEndOf lines i line
    its_end = once.ends i line there ends

    opened_before : 1 ≤ times_opened line.wind (take i lines)
    opened_before = one_opened line.wind (take i lines) its_end.opened_at its_end.opening (there_taken lines i its_end.opened_at its_end.opening its_end.earlier its_end.there) its_end.is_opening its_end.same_wind

    not_ended : times_ended line.wind (take i lines) ≡ 0
    not_ended =
        let its : finishes line.wind line ≡ 1 = count_one (not line.opened && is_wind line.wind line.wind) (both (not line.opened) (is_wind line.wind line.wind) (ap not ends) (same_wind line.wind line.wind refl refl)) in
        let pushed = ap (times_ended line.wind) (take_next lines i line there) ∙ ended_push line.wind (take i lines) line in
        let few = fewer_ended line.wind (i + 1) lines in let e = once.ended_once line.wind in let o = once.opened_once line.wind in
        omega (arith, its, pushed, few, e, o)

    -- the slot's last wind is the one that ends, and is open
    ends_last : (last : Turn) → (last.turn == line.wind.turn) ≡ true → IsLast line.wind last (take i lines) → is_end_of last line ≡ true
    ends_last last turn l =
        let o = l.opened in
        let same : l.opening ≡ its_end.opening = same_opening line.wind (take i lines) l.place its_end.opened_at l.opening its_end.opening l.there
        (there_taken lines i its_end.opened_at its_end.opening its_end.earlier its_end.there) l.is_opening its_end.is_opening l.wind its_end.same_wind (omega (arith, o)) in
        let graph : last.graph ≡ line.graph = sym l.graph ∙ ap (λ (x : WindLine). x.graph) same ∙ its_end.same_graph in
        let call : last.call ≡ line.call = sym l.call ∙ ap (λ (x : WindLine). x.call) same ∙ its_end.same_call in
        both last.pending ((last.turn == line.wind.turn) && ((last.graph == line.graph) && (last.call == line.call))) (is_pending last.pending (sym l.ended ∙ not_ended))
        (both (last.turn == line.wind.turn) ((last.graph == line.graph) && (last.call == line.call)) turn (both (last.graph == line.graph) (last.call == line.call) (eqb-true graph) (eqb-true call)))

    not_other : (last : Turn) → IsOther line.wind last (take i lines) → ⊥
    not_other last o = let d = o.done in absurd (omega (arith, d, opened_before, not_ended))

    ends_its : (last : Turn) → Agrees line.wind (Some last) (take i lines) → (b : Bool) → (last.turn == line.wind.turn) ≡ b → is_end_of last line ≡ true
    ends_its last agrees true e = ends_last last e (from_true line.wind last (take i lines) (last.turn == line.wind.turn) e agrees)
    ends_its last agrees false e = absurd (not_other last (from_false line.wind last (take i lines) (last.turn == line.wind.turn) e agrees))

    end_comes : (o : Option Turn) → Agrees line.wind o (take i lines) → step o line ≡ None → ⊥
    end_comes None agrees s = let z = agrees.0 in absurd (omega (arith, z, opened_before))
    end_comes (Some last) agrees s =
        let test = ends_its last agrees (last.turn == line.wind.turn) refl in
        no_none (sym (if_true (is_end_of last line) (Some (record last { pending = false })) None test) ∙ (sym (if_false line.opened _ _ ends) ∙ s))

  pub none_refused : step (slot_at slots line.wind.slot) line ≡ None → ⊥
  none_refused s = by line.opened refl where
    by : (b : Bool) → line.opened ≡ b → ⊥
    by true opened = opening_comes opened (slot_at slots line.wind.slot) refl s
    by false ends = end_comes ends (slot_at slots line.wind.slot) (a.winds line.wind) s

-- ---- where each wind has ended, no slot's last is open

each_closed : (slots : List (Option Turn)) → ((n : ℕ) → is_closed (slot_at slots n) ≡ true) → are_closed slots ≡ true
each_closed [] all = refl
each_closed (o ∷ slots) all = ap (λ (b : Bool). if b then are_closed slots else false) (all 0) ∙ each_closed slots (λ n. all (suc n))

pub all_closed : (slots : List (Option Turn)) (lines : List WindLine) → Agree slots lines → WindsAreBalanced lines → are_closed slots ≡ true
all_closed slots lines a b = each_closed slots (λ n. at n (slot_at slots n) refl) where
  at : (n : ℕ) (o : Option Turn) → slot_at slots n ≡ o → is_closed o ≡ true
  at n None is = refl
  at n (Some last) is =
      let w : WindNo = record { slot = n; turn = last.turn } in
      let l : IsLast w last lines = from_true w last lines (last.turn == w.turn) (eqb-true refl) (subst (λ (o : Option Turn). Agrees w o lines) is (a.winds w)) in
      ap not (not_pending last.pending (sym l.ended ∙ b.all_ended w ∙ l.opened))
