-- Numbers in decimal, octal and hexadecimal digits: each is written in one way.
use Rattle.std.proofs.Common.{◌≡◌, ℕ, zero, suc, ◌+◌, ◌-◌, ◌*◌, ◌^◌, ◌<◌, ◌≤◌, ◌/◌, ◌%◌, ◌==◌, ◌&&◌, ◌||◌, not, nat_lt, nat_le, Bool, true, false, cond, List, [], ◌∷◌, ◌++◌, append_assoc, append-nil, length, length-append, get_or, slice_index, Option, Some, None, decimal, refl, sym, ap, subst, ◌∙◌, arith, add-zero, eqb-true, ltb-true, ltb-false, le-leb, leb-true, lt-ltb, pow-suc}
use Rattle.std.proofs.lemmas.Bool.Decides.{nat_tests}
use Rattle.std.proofs.lemmas.List.{get_or_append_left}
use Rattle.std.proofs.lemmas.List.Folds.{list_all-append}
use Rattle.std.specs.Cmp.{first_so, second_so}
use Rattle.std.specs.List.{list_all}
use Rattle.std.specs.Fmt.{digits, digit_glyph}
use Rattle.std.proofs.lemmas.Str.Parse.{IsDigitsTest, WeighsDigits, IsNumeralModel, numerals_by_weight}
use Rattle.std.proofs.lemmas.Fmt.{decimal_nonempty, first_decimal, digits_decimal, digits_value-decimal, decimal-digits_value, decimal_digit, length-decimal-le}
use Rattle.volfile.proofs.WellRead.{both_so}
use Rattle.xl_base.specs.Words.{is_digit, number_of, has_decimal_form, fitting, decimal_of, is_hex_digit, hex_value, bytes_of, hex_of as hex_bytes_of}
use Rattle.fop_types.specs.Bounds.{Each, IsUnit, IsHyper}
use Rattle.report_text.specs.Words.{hex_of, bytes_hex}
use Rattle.report_text.proofs.Octal.{octal_digit, octal_step}
use Rattle.report_reader.specs.Reports.{IsByte}
use Rattle.report_reader.specs.code.Forms.{below, unit_of, part_of, is_octal, octal_after, has_octal_form, sixteen_bits, octal_of, hex_after}
use Rattle.report_reader.proofs.Laws.{IsWord, not_some, some_is}

-- ---- decimal
digit_range : (c : ℕ) → is_digit c ≡ true → (48 ≤ c) × (c ≤ 57)
digit_range c h = (leb-true 48 c (first_so (nat_le 48 c) (nat_le c 57) h), leb-true c 57 (second_so (nat_le 48 c) (nat_le c 57) h))

range_digit : (c : ℕ) → (48 ≤ c) × (c ≤ 57) → is_digit c ≡ true
range_digit c k = both_so (nat_le 48 c) (nat_le c 57) (le-leb 48 c k.0) (le-leb c 57 k.1)

tells : IsDigitsTest (λ ds. list_all is_digit ds ≡ true)
tells = record {
  empty = refl;
  parts = λ c cs h. (digit_range c (first_so (is_digit c) (list_all is_digit cs) h), second_so (is_digit c) (list_all is_digit cs) h);
  more = λ c cs k h. both_so (is_digit c) (list_all is_digit cs) (range_digit c k) h;
}

weighs : WeighsDigits number_of
weighs = record { empty = refl; more = λ c cs k. refl }

own : IsNumeralModel (λ ds. list_all is_digit ds ≡ true) number_of
own = numerals_by_weight (λ ds. list_all is_digit ds ≡ true) tells number_of weighs

pub decimal_digits : (n : ℕ) → n < 2 ^ 64 → list_all is_digit (decimal n) ≡ true
decimal_digits n h = digits_decimal own n h

pub fits : (n : ℕ) → n < 2 ^ 64 → fitting n ≡ Some n
fits n h = grind (arith, nat_tests)

pub fits_is : (n m : ℕ) → fitting n ≡ Some m → (n ≡ m) × (n < 2 ^ 64)
fits_is n m e = by (nat_lt n (2 ^ 64)) refl e
  where
    by : (b : Bool) → nat_lt n (2 ^ 64) ≡ b → cond b (Some n) None ≡ Some m → (n ≡ m) × (n < 2 ^ 64)
    by true is e = (some_is n m e, ltb-true n (2 ^ 64) is)
    by false is e = absurd (not_some m e)

-- the first of several digits is not `0`
first_fine : (w : List ℕ) → 0 < length w → (get_or w 0 0 ≡ 48 → length w ≡ 1) → (length w == 1 || not (slice_index w 0 == 48)) ≡ true
first_fine [] some lead = absurd (omega (arith, some))
first_fine (c ∷ []) some lead = refl
first_fine (c ∷ d ∷ ds) some lead = by (c == 48) refl
  where
    by : (b : Bool) → (c == 48) ≡ b → (length (c ∷ d ∷ ds) == 1 || not (slice_index (c ∷ d ∷ ds) 0 == 48)) ≡ true
    by true is = absurd (omega (arith, lead (eqb-true c 48 is)))
    by false is = grind (arith, nat_tests, is)

fine_first : (w : List ℕ) → (length w == 1 || not (slice_index w 0 == 48)) ≡ true → get_or w 0 0 ≡ 48 → length w ≡ 1
fine_first [] h is = absurd (omega (arith, is))
fine_first (c ∷ []) h is = refl
fine_first (c ∷ d ∷ ds) h is = absurd (no c ds d h is)
  where
    no : (c : ℕ) (ds : List ℕ) (d : ℕ) → (length (c ∷ d ∷ ds) == 1 || not (slice_index (c ∷ d ∷ ds) 0 == 48)) ≡ true → c ≡ 48 → ⊥
    no c ds d h is = grind (arith, nat_tests, h, is)

lead_of : (n : ℕ) → n < 2 ^ 64 → get_or (decimal n) 0 0 ≡ 48 → length (decimal n) ≡ 1
lead_of zero h is = ap length (decimal_digit 0 (omega arith))
lead_of (suc n) h is = absurd (omega (arith, first_decimal (suc n) (omega arith) h, is))

decimal_form : (n : ℕ) → n < 2 ^ 64 → has_decimal_form (decimal n) ≡ true
decimal_form n h =
    let w = decimal n in
    let some = decimal_nonempty n h in
    let one = le-leb 1 (length w) (omega (arith, some)) in
    let few = le-leb (length w) 20 (length-decimal-le 20 n (omega arith) (omega (arith, h)) h) in
    let all = digits_decimal own n h in
    let fine = first_fine w some (lead_of n h) in
    let a = nat_le 1 (length w) in
    let b = nat_le (length w) 20 in
    let c = list_all is_digit w in
    both_so (a && b && c) (length w == 1 || not (slice_index w 0 == 48)) (both_so (a && b) c (both_so a b one few) all) fine

decimal_takes : (n : ℕ) → n < 2 ^ 64 → decimal_of (decimal n) ≡ Some n
decimal_takes n h =
    ap (λ b. cond b (fitting (number_of (decimal n))) None) (decimal_form n h) ∙ ap fitting (digits_value-decimal own n h) ∙ fits n h

-- the parts of the form
form_digits : (a b c d : Bool) → (a && b && c && d) ≡ true → (a ≡ true) × (c ≡ true) × (d ≡ true)
form_digits true true true true h = (refl, refl, refl)
form_digits true true true false h = absurd cc
form_digits true true false d h = absurd cc
form_digits true false c d h = absurd cc
form_digits false b c d h = absurd cc

decimal_again : (w : List ℕ) (n : ℕ) → decimal_of w ≡ Some n → (n < 2 ^ 64) × (w ≡ decimal n)
decimal_again w n e = by (has_decimal_form w) refl e
  where
    by : (b : Bool) → has_decimal_form w ≡ b → cond b (fitting (number_of w)) None ≡ Some n → (n < 2 ^ 64) × (w ≡ decimal n)
    by false is e = absurd (not_some n e)
    by true is e =
        let form = form_digits (nat_le 1 (length w)) (nat_le (length w) 20) (list_all is_digit w) (length w == 1 || not (slice_index w 0 == 48)) is in
        let fit = fits_is (number_of w) n e in
        let some = leb-true 1 (length w) form.0 in
        let back = decimal-digits_value own w form.1 (omega (arith, some)) (fine_first w form.2) fit.1 in
        (omega (arith, fit.0, fit.1), sym back ∙ ap decimal fit.0)

pub hyper_law : IsWord IsHyper decimal decimal_of
hyper_law = record { takes = decimal_takes; again = decimal_again }

below_takes : (limit n : ℕ) → n < limit → n < 2 ^ 64 → below limit (decimal_of (decimal n)) ≡ Some n
below_takes limit n h k = ap (below limit) (decimal_takes n k) ∙ ap (λ b. cond b (Some n) None) (lt-ltb n limit h)

below_again : (limit : ℕ) (w : List ℕ) (n : ℕ) (o : Option ℕ) → decimal_of w ≡ o → below limit o ≡ Some n → (n < limit) × (w ≡ decimal n)
below_again limit w n None is e = absurd (not_some n e)
below_again limit w n (Some m) is e = by (nat_lt m limit) refl e
  where
    by : (b : Bool) → nat_lt m limit ≡ b → cond b (Some m) None ≡ Some n → (n < limit) × (w ≡ decimal n)
    by true less e = let same = some_is m n e in (omega (arith, ltb-true m limit less, same), (decimal_again w m is).1 ∙ ap decimal same)
    by false less e = absurd (not_some n e)

pub unit_law : IsWord IsUnit decimal unit_of
unit_law = record { takes = λ n h. below_takes 4294967296 n (omega (arith, h)) (omega (arith, h)); again = λ w n e. let b = below_again 4294967296 w n (decimal_of w) refl e in (omega (arith, b.0), b.1) }

pub part_law : IsWord (λ n. n < 256) decimal part_of
part_law = record { takes = λ n h. below_takes 256 n h (omega (arith, h)); again = λ w n e. below_again 256 w n (decimal_of w) refl e }

-- ---- octal
octal_push : (v : ℕ) (xs : List ℕ) (d : ℕ) → octal_after v (xs ++ d ∷ []) ≡ octal_after v xs * 8 + (d - 48)
octal_push v [] d = refl
octal_push v (x ∷ xs) d = octal_push (v * 8 + (x - 48)) xs d

pub octal_grows : (v : ℕ) (ds : List ℕ) → v ≤ octal_after v ds
octal_grows v [] = omega arith
octal_grows v (d ∷ ds) = omega (arith, octal_grows (v * 8 + (d - 48)) ds)

is_octal_digit : (d : ℕ) → d < 8 → is_octal (48 + d) ≡ true
is_octal_digit d h = both_so (nat_le 48 (48 + d)) (nat_le (48 + d) 55) (le-leb 48 (48 + d) (omega arith)) (le-leb (48 + d) 55 (omega (arith, h)))

-- what octal digits of a number are
record OctalOf (n : ℕ) (w : List ℕ) : Type 0 where
  some : 0 < length w
  all : list_all is_octal w ≡ true
  value : octal_after 0 w ≡ n
  lead : 0 < n → 48 < get_or w 0 0
  zero_is : n ≡ 0 → length w ≡ 1

octal_one : (n : ℕ) → n < 8 → OctalOf n (digits 8 false n)
octal_one n h = subst (OctalOf n) (sym (octal_digit n h)) (record {
  some = omega arith;
  all = both_so (is_octal (48 + n)) true (is_octal_digit n h) refl;
  value = omega arith;
  lead = λ some. omega (arith, some);
  zero_is = λ e. refl;
})

octal_more : (n : ℕ) (w : List ℕ) → 8 ≤ n → OctalOf (n / 8) w → OctalOf n (w ++ (48 + n % 8) ∷ [])
octal_more n w high o = record {
  some = omega (arith, length-append w ((48 + n % 8) ∷ []), o.some);
  all = list_all-append is_octal w ((48 + n % 8) ∷ []) ∙ both_so (list_all is_octal w) (list_all is_octal ((48 + n % 8) ∷ [])) o.all (both_so (is_octal (48 + n % 8)) true (is_octal_digit (n % 8) (omega arith)) refl);
  value = octal_push 0 w (48 + n % 8) ∙ omega (arith, o.value);
  lead = λ some. omega (arith, get_or_append_left w ((48 + n % 8) ∷ []) 0 0 o.some, o.lead (omega (arith, high)));
  zero_is = λ e. absurd (omega (arith, high, e));
}

-- with as many steps as there may be digits
octal_is : (k n : ℕ) → n < 8 ^ suc k → n < 2 ^ 16 → OctalOf n (digits 8 false n)
octal_is zero n h small = octal_one n (omega (arith, h))
octal_is (suc k) n h small = by (nat_lt n 8) refl (octal_is k (n / 8))
  where
    by : (b : Bool) → nat_lt n 8 ≡ b → (n / 8 < 8 ^ suc k → n / 8 < 2 ^ 16 → OctalOf (n / 8) (digits 8 false (n / 8))) → OctalOf n (digits 8 false n)
    by true is next = octal_one n (ltb-true n 8 is)
    by false is next =
        let high : 8 ≤ n = ltb-false n 8 is in
        subst (OctalOf n) (sym (octal_step n high small)) (octal_more n (digits 8 false (n / 8)) high (next (omega (arith, h, pow-suc 8 (suc k))) (omega (arith, small))))

sixteen : (n : ℕ) → n < 65536 → sixteen_bits n ≡ Some n
sixteen n h = ap (λ b. cond b (Some n) None) (lt-ltb n 65536 h)

octal_takes : (n : ℕ) → n < 65536 → octal_of (digits 8 false n) ≡ Some n
octal_takes n h =
    let o = octal_is 5 n (omega (arith, h)) (omega (arith, h)) in
    let w = digits 8 false n in
    let one = le-leb 1 (length w) (omega (arith, o.some)) in
    let all = o.all in
    let fine = first_fine w o.some (λ is. lead o is) in
    let form : has_octal_form w ≡ true = both_so (nat_le 1 (length w) && list_all is_octal w) (length w == 1 || not (slice_index w 0 == 48)) (both_so (nat_le 1 (length w)) (list_all is_octal w) one all) fine in
    ap (λ b. cond b (sixteen_bits (octal_after 0 w)) None) form ∙ ap sixteen_bits o.value ∙ sixteen n h
  where
    lead : OctalOf n (digits 8 false n) → get_or (digits 8 false n) 0 0 ≡ 48 → length (digits 8 false n) ≡ 1
    lead o is = by (nat_lt 0 n) refl
      where
        by : (b : Bool) → nat_lt 0 n ≡ b → length (digits 8 false n) ≡ 1
        by true some = absurd (omega (arith, o.lead (ltb-true 0 n some), is))
        by false none = o.zero_is (omega (arith, ltb-false 0 n none))

octal_bounds : (c : ℕ) → is_octal c ≡ true → (48 ≤ c) × (c ≤ 55)
octal_bounds c h = (leb-true 48 c (first_so (nat_le 48 c) (nat_le c 55) h), leb-true c 55 (second_so (nat_le 48 c) (nat_le c 55) h))

pub octal_digits : (n : ℕ) → n < 65536 → list_all is_octal (digits 8 false n) ≡ true
octal_digits n h = (octal_is 5 n (omega (arith, h)) (omega (arith, h))).all

octal_behind : (n : ℕ) (ds : List ℕ) → 0 < n → list_all is_octal ds ≡ true → octal_after n ds < 65536 → digits 8 false (octal_after n ds) ≡ digits 8 false n ++ ds
octal_behind n [] some all small = sym (append-nil (digits 8 false n))
octal_behind n (c ∷ cs) some all small =
    let m : ℕ = n * 8 + (c - 48) in
    let k = octal_bounds c (first_so (is_octal c) (list_all is_octal cs) all) in
    let front : m / 8 ≡ n = omega (arith, k) in
    let last : 48 + m % 8 ≡ c = omega (arith, k) in
    octal_behind m cs (omega (arith, some)) (second_so (is_octal c) (list_all is_octal cs) all) small
    ∙ ap (λ x. x ++ cs) (octal_step m (omega (arith, some)) (omega (arith, small, octal_grows m cs)) ∙ (λ i. digits 8 false (front i) ++ last i ∷ []))
    ∙ append_assoc (digits 8 false n) (c ∷ []) cs

octal_written : (w : List ℕ) → 0 < length w → list_all is_octal w ≡ true → (get_or w 0 0 ≡ 48 → length w ≡ 1) → octal_after 0 w < 65536 → w ≡ digits 8 false (octal_after 0 w)
octal_written [] some all lead small = absurd (omega (arith, some))
octal_written (c ∷ []) some all lead small =
    let k = octal_bounds c (first_so (is_octal c) true all) in
    let is : 48 + (0 * 8 + (c - 48)) ≡ c = omega (arith, k) in
    ap (λ x. x ∷ []) (sym is) ∙ sym (octal_digit (0 * 8 + (c - 48)) (omega (arith, k)))
octal_written (c ∷ d ∷ ds) some all lead small =
    let k = octal_bounds c (first_so (is_octal c) (list_all is_octal (d ∷ ds)) all) in
    let not_zero : c ≡ 48 → ⊥ = λ is. omega (arith, lead is) in
    let is : 48 + (0 * 8 + (c - 48)) ≡ c = omega (arith, k) in
    sym (octal_behind (0 * 8 + (c - 48)) (d ∷ ds) (omega (arith, k, not_zero)) (second_so (is_octal c) (list_all is_octal (d ∷ ds)) all) small
    ∙ ap (λ x. x ++ d ∷ ds) (octal_digit (0 * 8 + (c - 48)) (omega (arith, k)) ∙ ap (λ x. x ∷ []) is))

octal_again : (w : List ℕ) (n : ℕ) → octal_of w ≡ Some n → (n < 65536) × (w ≡ digits 8 false n)
octal_again w n e = by (has_octal_form w) refl e
  where
    in_bits : (m : ℕ) → sixteen_bits m ≡ Some n → (m ≡ n) × (m < 65536)
    in_bits m e = bits (nat_lt m 65536) refl e
      where
        bits : (b : Bool) → nat_lt m 65536 ≡ b → cond b (Some m) None ≡ Some n → (m ≡ n) × (m < 65536)
        bits true is e = (some_is m n e, ltb-true m 65536 is)
        bits false is e = absurd (not_some n e)

    by : (b : Bool) → has_octal_form w ≡ b → cond b (sixteen_bits (octal_after 0 w)) None ≡ Some n → (n < 65536) × (w ≡ digits 8 false n)
    by false is e = absurd (not_some n e)
    by true is e =
        let form = form_digits (nat_le 1 (length w)) true (list_all is_octal w) (length w == 1 || not (slice_index w 0 == 48)) (three (nat_le 1 (length w)) (list_all is_octal w) (length w == 1 || not (slice_index w 0 == 48)) is) in
        let fit = in_bits (octal_after 0 w) e in
        let some = leb-true 1 (length w) form.0 in
        (omega (arith, fit.0, fit.1), octal_written w (omega (arith, some)) form.1 (fine_first w form.2) fit.1 ∙ ap (digits 8 false) fit.0)
      where
        three : (a c d : Bool) → (a && c && d) ≡ true → (a && true && c && d) ≡ true
        three true c d h = h
        three false c d h = h

pub octal_law : IsWord (λ n. n < 65536) (digits 8 false) octal_of
octal_law = record { takes = octal_takes; again = octal_again }

-- ---- hexadecimal digits
pub glyph_digit : (d : ℕ) → d < 16 → is_hex_digit (digit_glyph false d) ≡ true
glyph_digit d h = grind (arith, nat_tests)

pub glyph_value : (d : ℕ) → d < 16 → hex_value (digit_glyph false d) ≡ d
glyph_value d h = grind (arith, nat_tests)

pub value_small : (b : ℕ) → is_hex_digit b ≡ true → hex_value b < 16
value_small b h = grind (arith, nat_tests)

pub value_glyph : (b : ℕ) → is_hex_digit b ≡ true → digit_glyph false (hex_value b) ≡ b
value_glyph b h = grind (arith, nat_tests)

-- ---- bytes in pairs of digits
pub bytes_digits : (bs : List ℕ) → Each IsByte bs → list_all is_hex_digit (bytes_hex bs) ≡ true
bytes_digits [] h = refl
bytes_digits (b ∷ bs) h =
    both_so (is_hex_digit (digit_glyph false (b / 16))) (list_all is_hex_digit (digit_glyph false (b % 16) ∷ bytes_hex bs)) (glyph_digit (b / 16) (omega (arith, h.0)))
    (both_so (is_hex_digit (digit_glyph false (b % 16))) (list_all is_hex_digit (bytes_hex bs)) (glyph_digit (b % 16) (omega arith)) (bytes_digits bs h.1))

bytes_even : (bs : List ℕ) → length (bytes_hex bs) % 2 ≡ 0
bytes_even [] = refl
bytes_even (b ∷ bs) = omega (arith, bytes_even bs)

bytes_back : (bs : List ℕ) → Each IsByte bs → bytes_of (bytes_hex bs) ≡ bs
bytes_back [] h = refl
bytes_back (b ∷ bs) h =
    let is : hex_value (digit_glyph false (b / 16)) * 16 + hex_value (digit_glyph false (b % 16)) ≡ b =
    omega (arith, glyph_value (b / 16) (omega (arith, h.0)), glyph_value (b % 16) (omega arith)) in
    ap (λ n. n ∷ bytes_of (bytes_hex bs)) is ∙ ap (λ l. b ∷ l) (bytes_back bs h.1)

bytes_takes : (bs : List ℕ) → Each IsByte bs → hex_bytes_of (bytes_hex bs) ≡ Some bs
bytes_takes bs h =
    ap (λ b. cond (b && (length (bytes_hex bs) % 2 == 0)) (Some (bytes_of (bytes_hex bs))) None) (bytes_digits bs h)
    ∙ ap (λ n. cond (n == 0) (Some (bytes_of (bytes_hex bs))) None) (bytes_even bs) ∙ ap Some (bytes_back bs h)

bytes_written : (w : List ℕ) → list_all is_hex_digit w ≡ true → length w % 2 ≡ 0 → Each IsByte (bytes_of w) × (w ≡ bytes_hex (bytes_of w))
bytes_written [] all even = (tt, refl)
bytes_written (a ∷ []) all even = absurd (omega (arith, even))
bytes_written (a ∷ b ∷ w) all even =
    let high = first_so (is_hex_digit a) (list_all is_hex_digit (b ∷ w)) all in
    let later = second_so (is_hex_digit a) (list_all is_hex_digit (b ∷ w)) all in
    let low = first_so (is_hex_digit b) (list_all is_hex_digit w) later in
    let x = hex_value a in
    let y = hex_value b in
    let front : (x * 16 + y) / 16 ≡ x = omega (arith, value_small b low) in
    let back : (x * 16 + y) % 16 ≡ y = omega (arith, value_small b low) in
    let rest = bytes_written w (second_so (is_hex_digit b) (list_all is_hex_digit w) later) (omega (arith, even)) in (
      (omega (arith, value_small a high, value_small b low), rest.0),
      ap (λ n. n ∷ b ∷ w) (sym (ap (digit_glyph false) front ∙ value_glyph a high))
          ∙ ap (λ n. digit_glyph false ((x * 16 + y) / 16) ∷ n ∷ w) (sym (ap (digit_glyph false) back ∙ value_glyph b low))
          ∙ ap (λ l. digit_glyph false ((x * 16 + y) / 16) ∷ digit_glyph false ((x * 16 + y) % 16) ∷ l) rest.1,
    )

bytes_again : (w bs : List ℕ) → hex_bytes_of w ≡ Some bs → Each IsByte bs × (w ≡ bytes_hex bs)
bytes_again w bs e = by (list_all is_hex_digit w) (length w % 2 == 0) refl refl e
  where
    by : (a b : Bool) → list_all is_hex_digit w ≡ a → (length w % 2 == 0) ≡ b → cond (a && b) (Some (bytes_of w)) None ≡ Some bs → Each IsByte bs × (w ≡ bytes_hex bs)
    by true true all even e =
        let same = some_is (bytes_of w) bs e in
        let written = bytes_written w all (eqb-true (length w % 2) 0 even) in
        (subst (Each IsByte) same written.0, written.1 ∙ ap bytes_hex same)
    by true false all even e = absurd (not_some bs e)
    by false b all even e = absurd (not_some bs e)

pub bytes_law : IsWord (Each IsByte) bytes_hex hex_bytes_of
bytes_law = record { takes = bytes_takes; again = bytes_again }

-- ---- the halves of a gfid
hex_push : (v : ℕ) (xs : List ℕ) (d : ℕ) → hex_after v (xs ++ d ∷ []) ≡ hex_after v xs * 16 + hex_value d
hex_push v [] d = refl
hex_push v (x ∷ xs) d = hex_push (v * 16 + hex_value x) xs d

pub hex_length : (k n : ℕ) → length (hex_of k n) ≡ k
unfolding hex_of
hex_length zero n = refl
hex_length (suc k) n = length-append (hex_of k (n / 16)) (digit_glyph false (n % 16) ∷ []) ∙ omega (arith, hex_length k (n / 16))

pub hex_digits : (k n : ℕ) → list_all is_hex_digit (hex_of k n) ≡ true
unfolding hex_of
hex_digits zero n = refl
hex_digits (suc k) n =
    list_all-append is_hex_digit (hex_of k (n / 16)) (digit_glyph false (n % 16) ∷ [])
    ∙ both_so (list_all is_hex_digit (hex_of k (n / 16))) (list_all is_hex_digit (digit_glyph false (n % 16) ∷ [])) (hex_digits k (n / 16))
    (both_so (is_hex_digit (digit_glyph false (n % 16))) true (glyph_digit (n % 16) (omega arith)) refl)

pub hex_back : (k n : ℕ) → n < 16 ^ k → hex_after 0 (hex_of k n) ≡ n
unfolding hex_of
hex_back zero n h = omega (arith, h)
hex_back (suc k) n h =
    hex_push 0 (hex_of k (n / 16)) (digit_glyph false (n % 16))
    ∙ omega (arith, hex_back k (n / 16) (omega (arith, h, pow-suc 16 k)), glyph_value (n % 16) (omega arith))

hex_behind : (k n : ℕ) (ds : List ℕ) → list_all is_hex_digit ds ≡ true → hex_of (k + length ds) (hex_after n ds) ≡ hex_of k n ++ ds
unfolding hex_of
hex_behind k n [] all = ap (λ m. hex_of m n) (add-zero k) ∙ sym (append-nil (hex_of k n))
hex_behind k n (c ∷ cs) all =
    let digit = first_so (is_hex_digit c) (list_all is_hex_digit cs) all in
    let m : ℕ = n * 16 + hex_value c in
    let small = value_small c digit in
    let front : m / 16 ≡ n = omega (arith, small) in
    let last : m % 16 ≡ hex_value c = omega (arith, small) in
    let places : k + length (c ∷ cs) ≡ suc k + length cs = omega arith in
    ap (λ p. hex_of p (hex_after m cs)) places ∙ hex_behind (suc k) m cs (second_so (is_hex_digit c) (list_all is_hex_digit cs) all)
    ∙ ap (λ x. x ++ cs) ((λ i. hex_of k (front i) ++ digit_glyph false (last i) ∷ []) ∙ ap (λ g. hex_of k n ++ g ∷ []) (value_glyph c digit))
    ∙ append_assoc (hex_of k n) (c ∷ []) cs

pub hex_written : (ds : List ℕ) (k : ℕ) → length ds ≡ k → list_all is_hex_digit ds ≡ true → hex_of k (hex_after 0 ds) ≡ ds
unfolding hex_of
hex_written ds k size all = let places : k ≡ 0 + length ds = omega (arith, size) in ap (λ p. hex_of p (hex_after 0 ds)) places ∙ hex_behind 0 0 ds all

hex_bound : (k n : ℕ) (ds : List ℕ) → n < 16 ^ k → list_all is_hex_digit ds ≡ true → hex_after n ds < 16 ^ (k + length ds)
hex_bound k n [] h all = subst (λ m. n < 16 ^ m) (sym (add-zero k)) h
hex_bound k n (c ∷ cs) h all =
    let digit = first_so (is_hex_digit c) (list_all is_hex_digit cs) all in
    let places : suc k + length cs ≡ k + length (c ∷ cs) = omega arith in
    subst (λ m. hex_after (n * 16 + hex_value c) cs < 16 ^ m) places
    (hex_bound (suc k) (n * 16 + hex_value c) cs (omega (arith, h, pow-suc 16 k, value_small c digit)) (second_so (is_hex_digit c) (list_all is_hex_digit cs) all))

pub hex_small : (ds : List ℕ) → length ds ≡ 16 → list_all is_hex_digit ds ≡ true → hex_after 0 ds < 2 ^ 64
hex_small ds size all = let places : 0 + length ds ≡ 16 = omega (arith, size) in omega (arith, subst (λ m. hex_after 0 ds < 16 ^ m) places (hex_bound 0 0 ds (omega arith) all))
