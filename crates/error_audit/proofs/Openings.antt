-- The connections of a graph to a brick are the openings.
use Rattle.std.proofs.Common.{◌≡◌, refl, sym, ap, subst, ◌∙◌, arith, inl, inr, get_or}
use Rattle.std.specs.Prelude.{ℕ, zero, suc, ◌+◌, ◌<◌, ◌≤◌, ◌==◌, ◌⊎◌, nat_le, ◌&&◌, Bool, true, false, List, [], ◌∷◌, ◌++◌, None, Some, option_map, length, map, take, slice_get, slice_index_or, slice_set, if◌then◌else◌}
use Rattle.std.specs.Cmp.Derive.{both_true}
use Rattle.std.specs.Cmp.Lexicographic.{pointwise}
use Rattle.std.proofs.lemmas.Bool.{eq-eqb, eqb-true, ne_eqb, cases_eq}
use Rattle.std.proofs.lemmas.List.{map-set, get_or-set_same, get_or-set_other, get_or-map, length-map, append-nil, take_more, take_all}
use Rattle.std.proofs.lemmas.Option.{slice_get-map, get_or_from_slice_get}
use Rattle.fop_types.specs.declared.messages.Input.{Input}
use Rattle.fop_types.specs.declared.messages.Input.TheVariants as input
use Rattle.wire_xdr.specs.WireText.{input_text}
use Rattle.wire_xdr.specs.Xdr.{IsUnit}
use Rattle.wire_messages.specs.Messages.{input_in, MessagesReadBack}
use Rattle.wire_messages.specs.declared.messages.Message.{Message}
use Rattle.wire_messages.specs.declared.messages.Message.TheVariants.{Whole, Wrong}
use Rattle.mount_log.specs.Connections.{connect_in, connects_among, last_connection}
use Rattle.mount_log.specs.declared.logs.Log.{Log}
use Rattle.mount_log.specs.declared.logs.SentLine.{SentLine}
use Rattle.error_audit.specs.Opened.{opening_of, opened_in, openings_of, is_opening, openings_to, to_brick, openings_at, IsPut, AreByBrick}
use Rattle.error_audit.specs.declared.connections.Opening.{Opening}
use Rattle.mount_log.proofs.Bools.{both, same_bool, and_true, and_false}
use Rattle.mount_log.proofs.Lists.{lists_same, same_list}

abbrev one : Bool → ℕ
one b = if b then 1 else 0

one_more : (a b c d : Bool) (n : ℕ) → (d ≡ true → n ≡ one (a && (b && c))) → (d ≡ false → n ≡ 0) → one (a && (b && (c && d))) ≡ n
one_more a b c true n hit miss = ap (λ (x : Bool). one (a && (b && x))) (and_true c) ∙ sym (hit refl)
one_more a b c false n hit miss = ap (λ (x : Bool). one (a && (b && x))) (and_false c) ∙ ap (λ (x : Bool). one (a && x)) (and_false b) ∙ ap one (and_false a) ∙ sym (miss refl)

none : (a b : Bool) → one (a && (b && false)) ≡ 0
none a b = ap (λ (x : Bool). one (a && x)) (and_false b) ∙ ap one (and_false a)

module _ (last graph brick : ℕ) where
  openings_both : (xs ys : List Opening) → openings_to last graph brick (xs ++ ys) ≡ openings_to last graph brick xs + openings_to last graph brick ys
  openings_both [] ys = let n = openings_to last graph brick ys in let e : n ≡ 0 + n = omega arith in e
  openings_both (x ∷ xs) ys = let ih = openings_both xs ys in omega (arith, ih)

module _ (back : MessagesReadBack) (graph : ℕ) (fits : IsUnit graph) where
  abbrev text : List ℕ
  text = input_text (input.Connect graph 1)

  -- whether an input connects the graph
  abbrev connects : Message Input → Bool
  connects (Whole (input.Connect g version)) = (g == graph) && (version == 1)
  connects (Whole (input.Request wind g req)) = false
  connects (Whole (input.Down serve)) = false
  connects (Whole input.Up) = false
  connects (Whole (input.Disconnect g)) = false
  connects (Whole (input.FaultAt p number)) = false
  connects (Wrong place) = false

  from_text : (bytes : List ℕ) → bytes ≡ text → connects (input_in bytes) ≡ true
  from_text bytes e = ap connects (ap input_in e ∙ back.0.0 (input.Connect graph 1) (fits, refl)) ∙ both_true (eq-eqb graph graph refl) refl

  to_text : (bytes : List ℕ) (m : Message Input) → input_in bytes ≡ m → connects m ≡ true → bytes ≡ text
  to_text bytes (Whole (input.Connect g version)) is hit =
      let p = both (g == graph) (version == 1) hit in
      (back.0.1 bytes (input.Connect g version) is).1 ∙ ap (λ (n : ℕ). input_text (input.Connect n version)) (eqb-true g graph p.0) ∙ ap (λ (n : ℕ). input_text (input.Connect graph n)) (eqb-true version 1 p.1)
  to_text bytes (Whole (input.Request wind g req)) is hit = absurd cc
  to_text bytes (Whole (input.Down serve)) is hit = absurd cc
  to_text bytes (Whole input.Up) is hit = absurd cc
  to_text bytes (Whole (input.Disconnect g)) is hit = absurd cc
  to_text bytes (Whole (input.FaultAt p number)) is hit = absurd cc
  to_text bytes (Wrong place) is hit = absurd cc

  text_is : (bytes : List ℕ) → pointwise ◌==◌ bytes text ≡ connects (input_in bytes)
  text_is bytes = same_bool (pointwise ◌==◌ bytes text) (connects (input_in bytes)) (λ e. from_text bytes (same_list bytes text e)) (λ e. lists_same bytes text (to_text bytes (input_in bytes) refl e))

  module _ (last brick : ℕ) where
    opened : (line : SentLine) (m : Message Input) → one (nat_le line.event last && ((line.brick == brick) && connects m)) ≡ openings_to last graph brick (opened_in line m)
    opened line (Whole (input.Connect g version)) =
        one_more (nat_le line.event last) (line.brick == brick) (g == graph) (version == 1) (openings_to last graph brick (if version == 1 then opening_of line g ∷ [] else []))
        (λ is. let n : ℕ = one (is_opening last graph brick (opening_of line g)) in let z : n + 0 ≡ n = omega arith in ap (λ (b : Bool). openings_to last graph brick (if b then opening_of line g ∷ [] else [])) is ∙ z)
        (λ is. ap (λ (b : Bool). openings_to last graph brick (if b then opening_of line g ∷ [] else [])) is)
    opened line (Whole (input.Request wind g req)) = none (nat_le line.event last) (line.brick == brick)
    opened line (Whole (input.Down serve)) = none (nat_le line.event last) (line.brick == brick)
    opened line (Whole input.Up) = none (nat_le line.event last) (line.brick == brick)
    opened line (Whole (input.Disconnect g)) = none (nat_le line.event last) (line.brick == brick)
    opened line (Whole (input.FaultAt p number)) = none (nat_le line.event last) (line.brick == brick)
    opened line (Wrong place) = none (nat_le line.event last) (line.brick == brick)

    line_opens : (line : SentLine) → connect_in last graph brick line ≡ openings_to last graph brick (opened_in line (input_in line.bytes))
    line_opens line = ap (λ (b : Bool). one (nat_le line.event last && ((line.brick == brick) && b))) (text_is line.bytes) ∙ opened line (input_in line.bytes)

    connected : (lines : List SentLine) → connects_among last graph brick lines ≡ openings_to last graph brick (openings_of lines)
    connected [] = refl
    connected (line ∷ lines) =
        let ih = connected lines in let own = line_opens line in let two = openings_both last graph brick (opened_in line (input_in line.bytes)) (openings_of lines) in
        omega (arith, ih, own, two)

-- the number of a graph's last connection to a brick
pub number_is : MessagesReadBack → (log : Log) (last graph brick : ℕ) → IsUnit graph → openings_to last graph brick (openings_of log.sent) ≡ last_connection log graph brick last
number_is back log last graph brick fits = sym (connected back graph fits last brick log.sent)

-- ---- by brick

kept : (last graph brick : ℕ) (o : Opening) → (o.brick == brick) ≡ false → is_opening last graph brick o ≡ false
kept last graph brick o other = ap (λ (b : Bool). nat_le o.event last && (b && (o.graph == graph))) other ∙ and_false (nat_le o.event last)

-- the openings to a brick are as many among those to the brick
pub same_to_brick : (last graph brick : ℕ) (os : List Opening) → openings_to last graph brick (to_brick brick os) ≡ openings_to last graph brick os
same_to_brick last graph brick [] = refl
same_to_brick last graph brick (o ∷ os) = by (o.brick == brick) refl (same_to_brick last graph brick os) where
  by : (b : Bool) → (o.brick == brick) ≡ b → openings_to last graph brick (to_brick brick os) ≡ openings_to last graph brick os
      → openings_to last graph brick (if b then o ∷ to_brick brick os else to_brick brick os) ≡ one (is_opening last graph brick o) + openings_to last graph brick os
  by true is rest = ap (λ (n : ℕ). one (is_opening last graph brick o) + n) rest
  by false is rest =
      let zero_is : one (is_opening last graph brick o) ≡ 0 = ap one (kept last graph brick o is) in omega (arith, zero_is, rest)

-- those to a brick, with one more
pub to_brick_push : (brick : ℕ) (os : List Opening) (o : Opening) → to_brick brick (os ++ o ∷ []) ≡ to_brick brick os ++ to_brick brick (o ∷ [])
to_brick_push brick [] o = refl
to_brick_push brick (x ∷ os) o = by (x.brick == brick) (to_brick_push brick os o) where
  by : (b : Bool) → to_brick brick (os ++ o ∷ []) ≡ to_brick brick os ++ to_brick brick (o ∷ [])
      → (if b then x ∷ to_brick brick (os ++ o ∷ []) else to_brick brick (os ++ o ∷ [])) ≡ (if b then x ∷ to_brick brick os else to_brick brick os) ++ to_brick brick (o ∷ [])
  by true rest = ap (λ (l : List Opening). x ∷ l) rest
  by false rest = rest

module _ {V : Type 0} (f : V → List Opening) where
  -- the list of the opening's brick has it at its end
  pub puts : (qs : List V) (before q : V) (o : Opening) → o.brick < length qs → before ≡ slice_index_or qs o.brick before → f q ≡ f before ++ o ∷ [] → IsPut (map f qs) o (map f (slice_set qs o.brick q))
  puts qs before q o low is pushed brick = by (cases_eq o.brick brick) where
    set_is : openings_at (map f (slice_set qs o.brick q)) brick ≡ slice_index_or (slice_set (map f qs) o.brick (f q)) brick []
    set_is = ap (λ (l : List (List Opening)). openings_at l brick) (map-set f qs o.brick q)

    by : (o.brick ≡ brick) ⊎ (o.brick ≡ brick → ⊥) → openings_at (map f (slice_set qs o.brick q)) brick ≡ openings_at (map f qs) brick ++ to_brick brick (o ∷ [])
    by (inl e) =
        let own : to_brick brick (o ∷ []) ≡ o ∷ [] = ap (λ (b : Bool). if b then o ∷ [] else []) (eq-eqb o.brick brick e) in
        let old : openings_at (map f qs) brick ≡ f before = ap (openings_at (map f qs)) (sym e) ∙ get_or-map f qs o.brick before [] low ∙ ap f (sym is) in
        set_is ∙ sym (ap (λ (n : ℕ). slice_index_or (slice_set (map f qs) o.brick (f q)) n []) e) ∙ get_or-set_same (map f qs) o.brick (f q) [] (omega (arith, length-map qs f, low)) ∙ pushed
        ∙ ap (λ (l : List Opening). l ++ o ∷ []) (sym old) ∙ ap (λ (l : List Opening). openings_at (map f qs) brick ++ l) (sym own)
    by (inr d) =
        let none_own : to_brick brick (o ∷ []) ≡ [] = ap (λ (b : Bool). if b then o ∷ [] else []) (ne_eqb o.brick brick d) in
        set_is ∙ get_or-set_other (map f qs) o.brick brick (f q) [] (λ e. d (sym e)) ∙ sym (append-nil (openings_at (map f qs) brick)) ∙ ap (λ (l : List Opening). openings_at (map f qs) brick ++ l) (sym none_own)

  pub list_there : (qs : List V) (i : ℕ) (q : V) → slice_get qs i ≡ Some q → openings_at (map f qs) i ≡ f q
  list_there qs i q e = get_or_from_slice_get (map f qs) i (f q) [] (slice_get-map f qs i ∙ ap (option_map f) e)

  pub list_none : (qs : List V) (i : ℕ) → slice_get qs i ≡ None → openings_at (map f qs) i ≡ []
  list_none [] i e = refl
  list_none (q ∷ qs) zero e = absurd cc
  list_none (q ∷ qs) (suc i) e = list_none qs i e

  -- one empty list more
  pub empty_more : (qs : List V) (q : V) → f q ≡ [] → AreByBrick [] (map f qs) → AreByBrick [] (map f (qs ++ q ∷ []))
  empty_more [] q none are zero = none
  empty_more [] q none are (suc brick) = refl
  empty_more (x ∷ qs) q none are zero = are 0
  empty_more (x ∷ qs) q none are (suc brick) = empty_more qs q none (λ n. are (suc n)) brick

-- the next opening is put
pub next_put : (os : List Opening) (k : ℕ) (d : Opening) (old new : List (List Opening)) → k < length os → AreByBrick (take k os) old → IsPut old (get_or os k d) new → AreByBrick (take (k + 1) os) new
next_put os k d old new lt are put brick =
    put brick ∙ ap (λ (l : List Opening). l ++ to_brick brick (get_or os k d ∷ [])) (are brick) ∙ sym (to_brick_push brick (take k os) (get_or os k d)) ∙ sym (ap (to_brick brick) (take_more os k d lt))

pub all_put : (os : List Opening) (k : ℕ) (lists : List (List Opening)) → length os ≤ k → AreByBrick (take k os) lists → AreByBrick os lists
all_put os k lists le are = subst (λ (l : List Opening). AreByBrick l lists) (take_all k os le) are
