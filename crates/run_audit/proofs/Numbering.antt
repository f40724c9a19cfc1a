-- Requests by their numbers in a phase, line by line.
use Rattle.std.proofs.Common.{◌≡◌, refl, sym, ap, subst, ◌∙◌, arith, inl, inr}
use Rattle.std.specs.Prelude.{ℕ, zero, suc, ◌≢◌, ◌<◌, ◌≤◌, ◌+◌, ◌-◌, ◌*◌, ◌^◌, ◌==◌, ◌&&◌, ◌⊎◌, nat_lt, nat_le, Bool, true, false, List, [], ◌∷◌, ◌++◌, Option, None, Some, length, map, slice_get, slice_set, take, if◌then◌else◌}
use Rattle.std.proofs.lemmas.Bool.{ltb-true, ltb-false, leb-true, eqb-true, eqb-false, false_from_ne_true, true_from_ne_false}
use Rattle.std.proofs.lemmas.List.{length-append, length-take-le}
use Rattle.std.proofs.lemmas.Option.{slice_get_within}
use Rattle.mount_log.proofs.Items.{some_is, at_set, beside_set, was_there, is_last}
use Rattle.mount_log.specs.Ties.{do_rise}
use Rattle.mount_log.specs.Arms.{is_rank, is_request_since, requests_since}
use Rattle.mount_log.specs.Procedures.{rank_in}
use Rattle.mount_log.specs.declared.logs.SentLine.{SentLine}
use Rattle.run_audit.specs.Noted.{ended_at, begun, AreRising, IsWithin}
use Rattle.run_audit.specs.Numbered.{held, cell_of, AreZero, HaveCounts, IsOneMore, IsCountedBy, IsCounted, AreTooMany, HasNoNumber, AreInEvents, IsNthOf, AreNth}
use Rattle.run_audit.specs.declared.nth_requests.PhaseCount.{PhaseCount}
use Rattle.mount_log.proofs.Lists.{take_next, each_push}
use Rattle.run_audit.proofs.Phased.{begun_next, begun_behind, same_phase}

-- ---- tests

no_left : (a b : Bool) → a ≡ false → (a && b) ≡ false
no_left true b e = absurd cc
no_left false b e = refl

no_right : (a b : Bool) → b ≡ false → (a && b) ≡ false
no_right true b e = e
no_right false b e = refl

both : (a b : Bool) → a ≡ true → b ≡ true → (a && b) ≡ true
both true b e f = f
both false b e f = absurd cc

one_if : (b : Bool) → b ≡ true → ◌≡◌ {A = ℕ} (if b then 1 else 0) 1
one_if true e = refl
one_if false e = absurd cc

none_if : (b : Bool) → b ≡ false → ◌≡◌ {A = ℕ} (if b then 1 else 0) 0
none_if true e = absurd cc
none_if false e = refl

lt_true : (a b : ℕ) → a < b → nat_lt a b ≡ true
lt_true a b lt = true_from_ne_false (nat_lt a b) (λ f. absurd (let le = ltb-false a b f in omega (arith, le, lt)))

lt_false : (a b : ℕ) → b ≤ a → nat_lt a b ≡ false
lt_false a b le = false_from_ne_true (nat_lt a b) (λ t. absurd (let lt = ltb-true a b t in omega (arith, le, lt)))

eq_true : (a b : ℕ) → a ≡ b → (a == b) ≡ true
eq_true a b e = true_from_ne_false (a == b) (λ f. eqb-false a b f e)

eq_false : (a b : ℕ) → a ≢ b → (a == b) ≡ false
eq_false a b ne = false_from_ne_true (a == b) (λ t. ne (eqb-true a b t))

-- ---- counts

requests_push : (since brick rank : ℕ) (xs : List SentLine) (x : SentLine) → requests_since since brick rank (xs ++ x ∷ []) ≡ requests_since since brick rank xs + (if is_request_since since brick rank x then 1 else 0)
requests_push since brick rank [] x = comm (if is_request_since since brick rank x then 1 else 0) where
  comm : (n : ℕ) → n + 0 ≡ 0 + n
  comm n = omega arith
requests_push since brick rank (y ∷ ys) x = let ih = requests_push since brick rank ys x in more (if is_request_since since brick rank y then 1 else 0) (requests_since since brick rank (ys ++ x ∷ [])) (requests_since since brick rank ys) (if is_request_since since brick rank x then 1 else 0) ih where
  more : (n a b c : ℕ) → a ≡ b + c → n + a ≡ n + b + c
  more n a b c e = omega (arith, e)

none_since : (since brick rank : ℕ) (lines : List SentLine) → ((j : ℕ) (line : SentLine) → slice_get lines j ≡ Some line → line.event ≤ since) → requests_since since brick rank lines ≡ 0
none_since since brick rank [] low = refl
none_since since brick rank (x ∷ xs) low =
    let first : (if is_request_since since brick rank x then 1 else 0) ≡ 0 = none_if (is_request_since since brick rank x) (no_left (nat_lt since x.event) ((x.brick == brick) && is_rank rank (rank_in x.bytes)) (lt_false since x.event (low 0 x refl))) in
    let rest = none_since since brick rank xs (λ j line is. low (suc j) line is) in
    sum (if is_request_since since brick rank x then 1 else 0) (requests_since since brick rank xs) first rest where
      sum : (a b : ℕ) → a ≡ 0 → b ≡ 0 → a + b ≡ 0
      sum a b e f = omega (arith, e, f)

held_none : (phase : ℕ) (o : Option PhaseCount) → ((found : PhaseCount) → o ≡ Some found → found.phase < phase) → held phase o ≡ 0
held_none phase None early = refl
held_none phase (Some found) early = by (found.phase == phase) refl where
  by : (b : Bool) → (found.phase == phase) ≡ b → (if b then found.count else 0) ≡ 0
  by true e = let same = eqb-true found.phase phase e in let lt = early found refl in absurd (omega (arith, same, lt))
  by false e = refl

held_own : (phase n : ℕ) → held phase (Some (record { phase = phase; count = n })) ≡ n
held_own phase n = by (phase == phase) refl where
  by : (b : Bool) → (phase == phase) ≡ b → (if b then n else 0) ≡ n
  by true e = refl
  by false e = absurd (eqb-false phase phase e refl)

length_set : {X : Type 0} → (xs : List X) (j : ℕ) (x : X) → length (slice_set xs j x) ≡ length xs
length_set [] j x = refl
length_set (y ∷ xs) zero x = refl
length_set (y ∷ xs) (suc j) x = ap suc (length_set xs j x)

-- ---- a phase further

module _ (ended : List ℕ) (last : ℕ) (rising : AreRising ended last) where
  moved : (lines : List SentLine) (p q floor number : ℕ) (counts : List PhaseCount) → p ≤ q → floor ≤ number → number ≤ ended_at ended last q → HaveCounts ended last lines p floor counts → HaveCounts ended last lines q number counts
  moved lines p q floor number counts le later until have = by (nat_lt p q) refl where
    low : (j : ℕ) (line : SentLine) → slice_get lines j ≡ Some line → line.event ≤ number
    low j line is = let l = have.low j line is in omega (arith, l, later)

    by : (b : Bool) → nat_lt p q ≡ b → HaveCounts ended last lines q number counts
    by false e =
        let same : p ≡ q = (let g = ltb-false p q e in omega (arith, g, le)) in
        let here : HaveCounts ended last lines p number counts = record { many = have.many; early = have.early; low = low; until = subst (λ (r : ℕ). number ≤ ended_at ended last r) (sym same) until; counts_are = have.counts_are } in
        subst (λ (r : ℕ). HaveCounts ended last lines r number counts) same here
    by true e = record {
      many = have.many;
      early = λ i found is. (let l = have.early i found is in omega (arith, l, le));
      low = low;
      until = until;
      counts_are = λ brick rank b r.
          none_since (begun ended last q) brick rank lines (λ j line is. (let l = have.low j line is in let u = have.until in let g = begun_behind ended last p q rising (ltb-true p q e) in omega (arith, l, u, g)))
          ∙ sym (held_none q (slice_get counts (cell_of brick rank)) (λ found is. (let l = have.early (cell_of brick rank) found is in let lt = ltb-true p q e in omega (arith, l, lt))));
    }

  -- ---- a line more

  module _ (lines : List SentLine) (phase : ℕ) (line : SentLine) (old : List PhaseCount) (n : ℕ) (new : List PhaseCount) (have : HaveCounts ended last lines phase line.event old) where
    low_more : (j : ℕ) (y : SentLine) → slice_get (lines ++ line ∷ []) j ≡ Some y → y.event ≤ line.event
    low_more = each_push (λ (j : ℕ) (y : SentLine). y.event ≤ line.event) lines line (omega arith) have.low

    other : (brick rank : ℕ) → is_request_since (begun ended last phase) brick rank line ≡ false → requests_since (begun ended last phase) brick rank (lines ++ line ∷ []) ≡ requests_since (begun ended last phase) brick rank lines
    other brick rank none =
        let p = requests_push (begun ended last phase) brick rank lines line in let z = none_if (is_request_since (begun ended last phase) brick rank line) none in
        p ∙ plus (requests_since (begun ended last phase) brick rank lines) (if is_request_since (begun ended last phase) brick rank line then 1 else 0) z where
          plus : (a b : ℕ) → b ≡ 0 → a + b ≡ a
          plus a b e = omega (arith, e)

    not_counted : rank_in line.bytes ≡ None → new ≡ old → HaveCounts ended last (lines ++ line ∷ []) phase line.event new
    not_counted none same = subst (λ (l : List PhaseCount). HaveCounts ended last (lines ++ line ∷ []) phase line.event l) (sym same) (record {
      many = have.many;
      early = have.early;
      low = low_more;
      until = have.until;
      counts_are = λ brick rank b r. other brick rank (no_right (nat_lt (begun ended last phase) line.event) ((line.brick == brick) && is_rank rank (rank_in line.bytes)) (no_right (line.brick == brick) (is_rank rank (rank_in line.bytes)) (ap (is_rank rank) none))) ∙ have.counts_are brick rank b r;
    })

    module _ (rank : ℕ) (is : rank_in line.bytes ≡ Some rank) (more : IsOneMore ended last phase rank line old n new) where
      cell_fits : cell_of line.brick rank < length old
      cell_fits = let b = more.brick_fits in let r = more.rank_fits in let m = have.many in omega (arith, b, r, m)

      -- the request's own count
      one_more : requests_since (begun ended last phase) line.brick rank (lines ++ line ∷ []) ≡ n
      one_more =
          let p = requests_push (begun ended last phase) line.brick rank lines line in
          let yes : is_request_since (begun ended last phase) line.brick rank line ≡ true =
          both (nat_lt (begun ended last phase) line.event) ((line.brick == line.brick) && is_rank rank (rank_in line.bytes)) (lt_true (begun ended last phase) line.event more.behind)
          (both (line.brick == line.brick) (is_rank rank (rank_in line.bytes)) (eq_true line.brick line.brick refl) (ap (is_rank rank) is ∙ eq_true rank rank refl)) in
          let o = one_if (is_request_since (begun ended last phase) line.brick rank line) yes in
          let c = have.counts_are line.brick rank more.brick_fits more.rank_fits in
          p ∙ sum (requests_since (begun ended last phase) line.brick rank lines) (if is_request_since (begun ended last phase) line.brick rank line then 1 else 0) (held phase (slice_get old (cell_of line.brick rank))) o c
          ∙ sym more.count where
            sum : (a b d : ℕ) → b ≡ 1 → a ≡ d → a + b ≡ d + 1
            sum a b d e f = omega (arith, e, f)

      own_cell : held phase (slice_get new (cell_of line.brick rank)) ≡ n
      own_cell =
          ap (λ (l : List PhaseCount). held phase (slice_get l (cell_of line.brick rank))) more.counts
          ∙ ap (held phase) (at_set old (cell_of line.brick rank) (record { phase = phase; count = n }) cell_fits) ∙ held_own phase n

      other_cell : (i : ℕ) → i ≢ cell_of line.brick rank → slice_get new i ≡ slice_get old i
      other_cell i ne = ap (λ (l : List PhaseCount). slice_get l i) more.counts ∙ beside_set old (cell_of line.brick rank) i (record { phase = phase; count = n }) ne

      same_cell : (a b c d : ℕ) → c < 256 → d < 256 → cell_of a c ≡ cell_of b d → b ≡ a
      same_cell a b c d x y e = omega (arith, x, y, e)

      counted_at : (brick r : ℕ) → brick < 256 → r < 256 → requests_since (begun ended last phase) brick r (lines ++ line ∷ []) ≡ held phase (slice_get new (cell_of brick r))
      counted_at brick r bf rf = by (line.brick == brick) refl where
        beside : is_request_since (begun ended last phase) brick r line ≡ false → cell_of brick r ≢ cell_of line.brick rank → requests_since (begun ended last phase) brick r (lines ++ line ∷ []) ≡ held phase (slice_get new (cell_of brick r))
        beside none ne = other brick r none ∙ have.counts_are brick r bf rf ∙ ap (held phase) (sym (other_cell (cell_of brick r) ne))

        same_brick : line.brick ≡ brick → (t : Bool) → (rank == r) ≡ t → requests_since (begun ended last phase) brick r (lines ++ line ∷ []) ≡ held phase (slice_get new (cell_of brick r))
        same_brick b true e =
            subst (λ (m : ℕ). requests_since (begun ended last phase) m r (lines ++ line ∷ []) ≡ held phase (slice_get new (cell_of m r))) b
            (subst (λ (m : ℕ). requests_since (begun ended last phase) line.brick m (lines ++ line ∷ []) ≡ held phase (slice_get new (cell_of line.brick m))) (eqb-true rank r e) (one_more ∙ sym own_cell))
        same_brick b false e =
            beside
            (no_right (nat_lt (begun ended last phase) line.event) ((line.brick == brick) && is_rank r (rank_in line.bytes)) (no_right (line.brick == brick) (is_rank r (rank_in line.bytes)) (ap (is_rank r) is ∙ e)))
            (λ c. (let ne = eqb-false rank r e in ne (omega (arith, c, b))))

        by : (t : Bool) → (line.brick == brick) ≡ t → requests_since (begun ended last phase) brick r (lines ++ line ∷ []) ≡ held phase (slice_get new (cell_of brick r))
        by true e = same_brick (eqb-true line.brick brick e) (rank == r) refl
        by false e =
            beside
            (no_right (nat_lt (begun ended last phase) line.event) ((line.brick == brick) && is_rank r (rank_in line.bytes)) (no_left (line.brick == brick) (is_rank r (rank_in line.bytes)) e))
            (λ c. (let ne = eqb-false line.brick brick e in ne (same_cell brick line.brick r rank rf more.rank_fits c)))

      early_more : (i : ℕ) (found : PhaseCount) → slice_get new i ≡ Some found → found.phase ≤ phase
      early_more i found there = by (i == cell_of line.brick rank) refl where
        by : (t : Bool) → (i == cell_of line.brick rank) ≡ t → found.phase ≤ phase
        by false e = have.early i found (sym (other_cell i (eqb-false i (cell_of line.brick rank) e)) ∙ there)
        by true e =
            let same = eqb-true i (cell_of line.brick rank) e in
            let at : slice_get new i ≡ Some (record { phase = phase; count = n }) =
            ap (slice_get new) same ∙ ap (λ (l : List PhaseCount). slice_get l (cell_of line.brick rank)) more.counts ∙ at_set old (cell_of line.brick rank) (record { phase = phase; count = n }) cell_fits in
            let is_own : found ≡ record { phase = phase; count = n } = some_is found (record { phase = phase; count = n }) (sym there ∙ at) in
            let p = ap (λ (x : PhaseCount). x.phase) is_own in omega (arith, p)

      counted : HaveCounts ended last (lines ++ line ∷ []) phase line.event new
      counted = record {
        many = ap length more.counts ∙ length_set old (cell_of line.brick rank) (record { phase = phase; count = n }) ∙ have.many;
        early = early_more;
        low = low_more;
        until = have.until;
        counts_are = counted_at;
      }

    line_more : IsCounted ended last phase line old n new → HaveCounts ended last (lines ++ line ∷ []) phase line.event new
    line_more c = by (rank_in line.bytes) refl c where
      by : (o : Option ℕ) → rank_in line.bytes ≡ o → IsCountedBy o ended last phase line old n new → HaveCounts ended last (lines ++ line ∷ []) phase line.event new
      by None is same = not_counted is same
      by (Some rank) is more = counted rank is more

    number_is : (k : ℕ) (sent : List SentLine) → take (k + 1) sent ≡ lines ++ line ∷ [] → IsCounted ended last phase line old n new → IsNthOf ended last sent k n line
    number_is k sent all c p rank within is =
        by (rank_in line.bytes) refl c where
          by : (o : Option ℕ) → rank_in line.bytes ≡ o → IsCountedBy o ended last phase line old n new → requests_since (begun ended last p) line.brick rank (take (k + 1) sent) ≡ n
          by None none same = absurd (let e = sym none ∙ is in differ rank e) where
            differ : (r : ℕ) → ◌≡◌ {A = Option ℕ} None (Some r) → ⊥
            differ r e = cc
          by (Some r) found more =
              let same : p ≡ phase = same_phase ended last p phase line.event rising within (record { behind = more.behind; until = have.until }) in
              let ranks : rank ≡ r = some_is rank r (sym is ∙ found) in
              ap (requests_since (begun ended last p) line.brick rank) all
              ∙ ap (λ (q : ℕ). requests_since (begun ended last q) line.brick rank (lines ++ line ∷ [])) same
              ∙ ap (λ (q : ℕ). requests_since (begun ended last phase) line.brick q (lines ++ line ∷ [])) ranks ∙ one_more r found more

  -- ---- the loop

  pub line_next : (sent : List SentLine) (k phase q floor : ℕ) (counts new : List PhaseCount) (nth : List ℕ) (n : ℕ) (line : SentLine) → slice_get sent k ≡ Some line → phase ≤ q → floor ≤ line.event → line.event ≤ ended_at ended last q
      → IsCounted ended last q line counts n new → HaveCounts ended last (take k sent) phase floor counts × (length nth ≡ k) × AreNth ended last sent nth
      → HaveCounts ended last (take (k + 1) sent) q line.event new × (length (nth ++ n ∷ []) ≡ k + 1) × AreNth ended last sent (nth ++ n ∷ [])
  line_next sent k phase q floor counts new nth n line there le later until c so_far = (
    subst (λ (l : List SentLine). HaveCounts ended last l q line.event new) (sym more) (line_more (take k sent) q line counts n new have c),
    (let a = length-append nth (n ∷ []) in let m = so_far.1 in omega (arith, a, m)),
    each_push (λ (j m : ℕ). (y : SentLine) → slice_get sent j ≡ Some y → IsNthOf ended last sent j m y) nth n (subst (λ (j : ℕ). (y : SentLine) → slice_get sent j ≡ Some y → IsNthOf ended last sent j n y) (sym so_far.1) own) so_far.2,
  ) where
    more : take (k + 1) sent ≡ take k sent ++ line ∷ []
    more = take_next sent k line there

    have : HaveCounts ended last (take k sent) q line.event counts
    have = moved (take k sent) phase q floor line.event counts le later until so_far.0

    own : (y : SentLine) → slice_get sent k ≡ Some y → IsNthOf ended last sent k n y
    own y is = subst (λ (z : SentLine). IsNthOf ended last sent k n z) (some_is line y (sym there ∙ is)) (number_is (take k sent) q line counts n new have k sent more c)

pub zero_more : (counts : List PhaseCount) → AreZero counts → AreZero (counts ++ record { phase = 0; count = 0 } ∷ [])
zero_more counts zeros = each_push (λ (i : ℕ) (found : PhaseCount). (found.phase ≡ 0) × (found.count ≡ 0)) counts (record { phase = 0; count = 0 }) (refl, refl) zeros

-- ---- lines in the order of their events

-- no line from a place on is before the floor, which is behind the phases before
pub record IsFloor (ended : List ℕ) (last : ℕ) (sent : List SentLine) (k phase floor : ℕ) : Type 0 where
  pub low : (j : ℕ) (line : SentLine) → k ≤ j → slice_get sent j ≡ Some line → floor ≤ line.event
  pub behind : 1 ≤ phase → begun ended last phase < floor

all_rise : (a b : Bool) → (a && b) ≡ true → (a ≡ true) × (b ≡ true)
all_rise true b e = (refl, e)
all_rise false b e = absurd cc

no_lower : (floor last : ℕ) (xs : List SentLine) (j : ℕ) (line : SentLine) → do_rise floor last (map (λ l. l.event) xs) ≡ true → slice_get xs j ≡ Some line → (floor ≤ line.event) × (line.event ≤ last)
no_lower floor last [] j line rises is = absurd cc
no_lower floor last (x ∷ xs) zero line rises is =
    let e = all_rise (nat_le floor x.event) (nat_le x.event last && do_rise x.event last (map (λ l. l.event) xs)) rises in let f = all_rise (nat_le x.event last) (do_rise x.event last (map (λ l. l.event) xs)) e.1 in
    let own = ap (λ (l : SentLine). l.event) (some_is x line is) in let a = leb-true floor x.event e.0 in let b = leb-true x.event last f.0 in
    (omega (arith, a, own), omega (arith, b, own))
no_lower floor last (x ∷ xs) (suc j) line rises is =
    let e = all_rise (nat_le floor x.event) (nat_le x.event last && do_rise x.event last (map (λ l. l.event) xs)) rises in let f = all_rise (nat_le x.event last) (do_rise x.event last (map (λ l. l.event) xs)) e.1 in
    let ih = no_lower x.event last xs j line f.1 is in let a = leb-true floor x.event e.0 in let i = ih.0 in
    (omega (arith, a, i), ih.1)

in_their_order : (floor last : ℕ) (xs : List SentLine) (i j : ℕ) (a b : SentLine) → do_rise floor last (map (λ l. l.event) xs) ≡ true → i ≤ j → slice_get xs i ≡ Some a → slice_get xs j ≡ Some b → a.event ≤ b.event
in_their_order floor last [] i j a b rises le x y = absurd cc
in_their_order floor last (z ∷ zs) zero zero a b rises le x y = let e = ap (λ (l : SentLine). l.event) (some_is a b (sym x ∙ y)) in omega (arith, e)
in_their_order floor last (z ∷ zs) zero (suc j) a b rises le x y =
    let e = all_rise (nat_le floor z.event) (nat_le z.event last && do_rise z.event last (map (λ l. l.event) zs)) rises in let f = all_rise (nat_le z.event last) (do_rise z.event last (map (λ l. l.event) zs)) e.1 in
    let own = ap (λ (l : SentLine). l.event) (some_is z a x) in let n = no_lower z.event last zs j b f.1 y in let m = n.0 in omega (arith, m, own)
in_their_order floor last (z ∷ zs) (suc i) zero a b rises le x y = absurd (omega (arith, le))
in_their_order floor last (z ∷ zs) (suc i) (suc j) a b rises le x y =
    let e = all_rise (nat_le floor z.event) (nat_le z.event last && do_rise z.event last (map (λ l. l.event) zs)) rises in let f = all_rise (nat_le z.event last) (do_rise z.event last (map (λ l. l.event) zs)) e.1 in
    in_their_order z.event last zs i j a b f.1 (omega (arith, le)) x y

few_since : (since brick rank : ℕ) (lines : List SentLine) → requests_since since brick rank lines ≤ length lines
few_since since brick rank [] = omega arith
few_since since brick rank (x ∷ xs) = let ih = few_since since brick rank xs in one (is_request_since since brick rank x) (requests_since since brick rank xs) (length xs) ih where
  one : (b : Bool) (m n : ℕ) → m ≤ n → (if b then 1 else 0) + m ≤ suc n
  one true m n le = omega (arith, le)
  one false m n le = omega (arith, le)

pub not_higher : (last : ℕ) (sent : List SentLine) (k : ℕ) (line : SentLine) → slice_get sent k ≡ Some line → AreInEvents last sent → line.event ≤ last
not_higher last sent k line there order = (no_lower 0 last sent k line order.rises there).1

pub first_floor : (ended : List ℕ) (last : ℕ) (sent : List SentLine) → IsFloor ended last sent 0 0 0
first_floor ended last sent = record { low = λ j line le is. omega arith; behind = λ one. absurd (omega (arith, one)) }

module _ (ended : List ℕ) (last : ℕ) (sent : List SentLine) (k phase q floor : ℕ) (line : SentLine) (there : slice_get sent k ≡ Some line) (le : phase ≤ q) (first : phase < q → ended_at ended last (q - 1) < line.event) (order : AreInEvents last sent)
    (is : IsFloor ended last sent k phase floor) where
  not_lower : floor ≤ line.event
  not_lower = is.low k line (omega arith) there

  begun_before : 1 ≤ q → begun ended last q < line.event
  begun_before one = by (nat_lt phase q) refl where
    by : (b : Bool) → nat_lt phase q ≡ b → begun ended last q < line.event
    by true e =
        let s : q - 1 + 1 ≡ q = omega (arith, one) in let f = first (ltb-true phase q e) in
        subst (λ (n : ℕ). begun ended last n < line.event) s (subst (λ (n : ℕ). n < line.event) (sym (begun_next ended last (q - 1))) f)
    by false e =
        let g = ltb-false phase q e in let same : phase ≡ q = omega (arith, g, le) in
        subst (λ (n : ℕ). begun ended last n < line.event) same (let b = is.behind (omega (arith, one, same)) in let l = not_lower in omega (arith, b, l))

  pub next_floor : IsFloor ended last sent (k + 1) q line.event
  next_floor = record { low = λ j other later here. in_their_order 0 last sent k j line other order.rises (omega (arith, later)) there here; behind = begun_before }

  -- a request is behind the phases before
  pub request_behind : (rank : ℕ) → rank_in line.bytes ≡ Some rank → line.event ≤ begun ended last q → ⊥
  request_behind rank ranked low = by (q == 0) refl where
    by : (b : Bool) → (q == 0) ≡ b → ⊥
    by true e =
        let z : begun ended last q ≡ 0 = ap (λ (n : ℕ). begun ended last n) (eqb-true q 0 e) in let one = order.requests k rank line there ranked in absurd (omega (arith, z, one, low))
    by false e = let ne = eqb-false q 0 e in let b = begun_before (omega (arith, ne)) in absurd (omega (arith, b, low))

  -- and there are not too many
  pub has_number : (counts : List PhaseCount) → AreRising ended last → line.event ≤ ended_at ended last q → length sent < 2 ^ 64 → HaveCounts ended last (take k sent) phase floor counts → HasNoNumber ended last q line counts → ⊥
  has_number counts rising until fits have none = by none.is where
    so_far : HaveCounts ended last (take k sent) q line.event counts
    so_far = moved ended last rising (take k sent) phase q floor line.event counts le not_lower until have

    by : (line.event ≤ begun ended last q) ⊎ AreTooMany q none.rank line counts → ⊥
    by (inl low) = request_behind none.rank none.rank_is low
    by (inr too) =
        let many = too.many in let c = so_far.counts_are line.brick none.rank too.brick_fits too.rank_fits in let f = few_since (begun ended last q) line.brick none.rank (take k sent) in
        let l = length-take-le k sent in let w = slice_get_within sent k line there in
        absurd (omega (arith, many, c, f, l, w, fits))
