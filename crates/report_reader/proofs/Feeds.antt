-- Lines with the line feeds that end them.
use Rattle.std.proofs.Common.{◌≡◌, ℕ, suc, ◌+◌, ◌-◌, ◌<◌, ◌==◌, not, Bool, true, false, cond, List, [], ◌∷◌, ◌++◌, length, length-take, length-drop, take, drop, Option, Some, None, Result, Ok, Err, refl, sym, ap, subst, ◌∙◌, arith, eqb-true}
use Rattle.std.proofs.lemmas.List.{take_all, take_rest}
use Rattle.std.specs.Cmp.{first_so, second_so}
use Rattle.std.specs.List.{list_all}
use Rattle.std.specs.Option.{option_map}
use Rattle.volfile.specs.TextLines.{onto_first, front_len, line_after}
use Rattle.volfile.proofs.PrintedLines.{untrue}
use Rattle.volfile.proofs.WellRead.{both_so}
use Rattle.report_reader.specs.Readings.{lines_in}
use Rattle.report_reader.specs.declared.bad.Bad.{Bad}
use Rattle.report_reader.specs.declared.bad.ReportError.TheVariants.{At}
use Rattle.report_reader.specs.declared.drafts.Draft.{Draft}
use Rattle.report_reader.specs.code.LineForms.{line_read, nothing_if_empty, without_feed, fed_read, read_on, lines_read}
use Rattle.report_reader.proofs.Joins.{has_no}
use Rattle.report_reader.proofs.Laws.{not_some, some_is}

abbrev pub whole_text : List (List ℕ) → List ℕ
whole_text [] = []
whole_text (l ∷ ls) = l ++ whole_text ls

whole_onto : (b : ℕ) (ls : List (List ℕ)) → whole_text (onto_first b ls) ≡ b ∷ whole_text ls
whole_onto b [] = refl
whole_onto b (l ∷ ls) = refl

pub lines_whole : (bs : List ℕ) → whole_text (lines_in bs) ≡ bs
lines_whole [] = refl
lines_whole (b ∷ bs) = by (b == 10) refl (lines_whole bs)
  where
    by : (t : Bool) → (b == 10) ≡ t → whole_text (lines_in bs) ≡ bs → whole_text (cond t ((10 ∷ []) ∷ lines_in bs) (onto_first b (lines_in bs))) ≡ b ∷ bs
    by true is rest = ap (λ l. 10 ∷ l) rest ∙ ap (λ n. n ∷ bs) (sym (eqb-true b 10 is))
    by false is rest = whole_onto b (lines_in bs) ∙ ap (λ l. b ∷ l) rest

-- the first line of a text
pub lines_first : (l rest : List ℕ) → has_no 10 l → lines_in (l ++ 10 ∷ rest) ≡ (l ++ 10 ∷ []) ∷ lines_in rest
lines_first [] rest h = refl
lines_first (b ∷ l) rest h =
    ap (λ t. cond t ((10 ∷ []) ∷ lines_in (l ++ 10 ∷ rest)) (onto_first b (lines_in (l ++ 10 ∷ rest)))) (untrue (b == 10) (first_so (not (b == 10)) (list_all (λ b. not (b == 10)) l) h))
    ∙ ap (onto_first b) (lines_first l rest (second_so (not (b == 10)) (list_all (λ b. not (b == 10)) l) h))

pub feed_off : (l : List ℕ) → has_no 10 l → without_feed (l ++ 10 ∷ []) ≡ Some l
feed_off [] h = refl
feed_off (b ∷ l) h =
    ap (λ t. cond t (nothing_if_empty (l ++ 10 ∷ [])) (option_map (λ m. b ∷ m) (without_feed (l ++ 10 ∷ [])))) (untrue (b == 10) (first_so (not (b == 10)) (list_all (λ b. not (b == 10)) l) h))
    ∙ ap (option_map (λ m. b ∷ m)) (feed_off l (second_so (not (b == 10)) (list_all (λ b. not (b == 10)) l) h))

-- a line with its feed
pub record IsFed (l m : List ℕ) : Type 0 where
  pub one : has_no 10 m
  pub is : l ≡ m ++ 10 ∷ []

pub fed_is : (l m : List ℕ) → without_feed l ≡ Some m → IsFed l m
fed_is [] m e = absurd (not_some m e)
fed_is (b ∷ l) m e = by (b == 10) refl e (λ k w. fed_is l k w)
  where
    empty : (l : List ℕ) → nothing_if_empty l ≡ Some m → (l ≡ []) × (m ≡ [])
    empty [] e = (refl, sym (some_is [] m e))
    empty (c ∷ cs) e = absurd (not_some m e)

    more : (o : Option (List ℕ)) → without_feed l ≡ o → (b == 10) ≡ false → option_map (λ k. b ∷ k) o ≡ Some m → ((k : List ℕ) → without_feed l ≡ Some k → IsFed l k) → IsFed (b ∷ l) m
    more None was is e next = absurd (not_some m e)
    more (Some k) was is e next =
        let f = next k was in
        let same : b ∷ k ≡ m = some_is (b ∷ k) m e in
        record {
          one = subst (has_no 10) same (both_so (not (b == 10)) (list_all (λ c. not (c == 10)) k) (ap not is) f.one);
          is = ap (λ n. b ∷ n) f.is ∙ ap (λ (n : List ℕ). n ++ 10 ∷ []) same;
        }

    by : (t : Bool) → (b == 10) ≡ t → cond t (nothing_if_empty l) (option_map (λ k. b ∷ k) (without_feed l)) ≡ Some m → ((k : List ℕ) → without_feed l ≡ Some k → IsFed l k) → IsFed (b ∷ l) m
    by true is e next = let p = empty l e in record { one = subst (has_no 10) (sym p.1) refl; is = (λ i. eqb-true b 10 is i ∷ p.0 i) ∙ ap (λ (n : List ℕ). n ++ 10 ∷ []) (sym p.1) }
    by false is e next = more (without_feed l) refl is e next

-- ---- the first line of bytes
feed_free : (bs : List ℕ) → has_no 10 (take (front_len (λ b. b == 10) bs) bs)
feed_free [] = refl
feed_free (b ∷ bs) = by (b == 10) refl (feed_free bs)
  where
    by : (t : Bool) → (b == 10) ≡ t → has_no 10 (take (front_len (λ c. c == 10) bs) bs) → has_no 10 (take (cond t 0 (suc (front_len (λ c. c == 10) bs))) (b ∷ bs))
    by true is rest = refl
    by false is rest = both_so (not (b == 10)) (list_all (λ c. not (c == 10)) (take (front_len (λ c. c == 10) bs) bs)) (ap not is) rest

feed_cut : (bs : List ℕ) → front_len (λ b. b == 10) bs < length bs → bs ≡ take (front_len (λ b. b == 10) bs) bs ++ 10 ∷ drop (front_len (λ b. b == 10) bs + 1) bs
feed_cut [] some = absurd (omega (arith, some))
feed_cut (b ∷ bs) some = by (b == 10) refl some (λ k. feed_cut bs k)
  where
    n : ℕ
    n = front_len (λ c. c == 10) bs

    by : (t : Bool) → (b == 10) ≡ t → cond t 0 (suc n) < suc (length bs) → (n < length bs → bs ≡ take n bs ++ 10 ∷ drop (n + 1) bs) → ◌≡◌ {A = List ℕ} (b ∷ bs) (take (cond t 0 (suc n)) (b ∷ bs) ++ 10 ∷ drop (cond t 0 (suc n) + 1) (b ∷ bs))
    by true is some next = ap (λ c. c ∷ bs) (eqb-true b 10 is)
    by false is some next =
        let more : suc n + 1 ≡ suc (n + 1) = omega arith in
        ap (λ l. b ∷ l) (next (omega (arith, some))) ∙ ap (λ k. b ∷ take n bs ++ 10 ∷ drop k (b ∷ bs)) (sym more)

-- bytes without a feed are one line without one
one_line : (b : ℕ) (bs : List ℕ) → has_no 10 (b ∷ bs) → lines_in (b ∷ bs) ≡ (b ∷ bs) ∷ []
one_line b [] h = ap (λ t. cond t ((10 ∷ []) ∷ []) ((b ∷ []) ∷ [])) (untrue (b == 10) (first_so (not (b == 10)) true h))
one_line b (c ∷ cs) h =
    ap (λ t. cond t ((10 ∷ []) ∷ lines_in (c ∷ cs)) (onto_first b (lines_in (c ∷ cs)))) (untrue (b == 10) (first_so (not (b == 10)) (list_all (λ d. not (d == 10)) (c ∷ cs)) h))
    ∙ ap (onto_first b) (one_line c cs (second_so (not (b == 10)) (list_all (λ d. not (d == 10)) (c ∷ cs)) h))

unfed : (bs : List ℕ) → has_no 10 bs → without_feed bs ≡ None
unfed [] h = refl
unfed (b ∷ bs) h =
    ap (λ t. cond t (nothing_if_empty bs) (option_map (λ m. b ∷ m) (without_feed bs))) (untrue (b == 10) (first_so (not (b == 10)) (list_all (λ c. not (c == 10)) bs) h))
    ∙ ap (option_map (λ m. b ∷ m)) (unfed bs (second_so (not (b == 10)) (list_all (λ c. not (c == 10)) bs) h))

unfed_stops : (bs : List ℕ) (d : Draft) (k : ℕ) → has_no 10 bs → 0 < length bs → lines_read (lines_in bs) d k ≡ Err (At (line_after k))
unfed_stops [] d k h some = absurd (omega (arith, some))
unfed_stops (b ∷ bs) d k h some =
    ap (λ (ls : List (List ℕ)). lines_read ls d k) (one_line b bs h) ∙ ap (λ (o : Option (List ℕ)). read_on (fed_read d o) (line_after k) (λ e. lines_read [] e (line_after k))) (unfed (b ∷ bs) h)

pub line_unfed : (bs : List ℕ) (d : Draft) (k n : ℕ) → n ≡ front_len (λ b. b == 10) bs → n ≡ length bs → 0 < length bs → lines_read (lines_in bs) d k ≡ Err (At (line_after k))
line_unfed bs d k n is all some = unfed_stops bs d k (subst (has_no 10) (take_all (front_len (λ b. b == 10) bs) bs (omega (arith, is, all))) (feed_free bs)) some

-- one with a feed is read, and then those behind it
line_first : (bs : List ℕ) (d : Draft) (k n : ℕ) → n ≡ front_len (λ b. b == 10) bs → n < length bs
    → lines_read (lines_in bs) d k ≡ read_on (line_read d (take n bs)) (line_after k) (λ e. lines_read (lines_in (drop (n + 1) bs)) e (line_after k))
line_first bs d k n is within =
    let free : has_no 10 (take n bs) = subst (λ m. has_no 10 (take m bs)) (sym is) (feed_free bs) in
    let cut : bs ≡ take n bs ++ 10 ∷ drop (n + 1) bs = subst (λ m. bs ≡ take m bs ++ 10 ∷ drop (m + 1) bs) (sym is) (feed_cut bs (omega (arith, is, within))) in
    ap (λ (l : List ℕ). lines_read (lines_in l) d k) cut ∙ ap (λ (ls : List (List ℕ)). lines_read ls d k) (lines_first (take n bs) (drop (n + 1) bs) free)
    ∙ ap (λ (o : Option (List ℕ)). read_on (fed_read d o) (line_after k) (λ e. lines_read (lines_in (drop (n + 1) bs)) e (line_after k))) (feed_off (take n bs) free)

pub line_kept : (bs : List ℕ) (d e : Draft) (k n : ℕ) → n ≡ front_len (λ b. b == 10) bs → n < length bs → line_read d (take n bs) ≡ Ok e
    → lines_read (lines_in bs) d k ≡ lines_read (lines_in (take (length bs - (n + 1)) (drop (n + 1) bs))) e (line_after k)
line_kept bs d e k n is within read =
    line_first bs d k n is within ∙ ap (λ (r : Result Draft Bad). read_on r (line_after k) (λ x. lines_read (lines_in (drop (n + 1) bs)) x (line_after k))) read
    ∙ ap (λ (l : List ℕ). lines_read (lines_in l) e (line_after k)) (sym (take_rest bs (n + 1)))

pub line_bad : (bs : List ℕ) (d : Draft) (bad : Bad) (k n : ℕ) → n ≡ front_len (λ b. b == 10) bs → n < length bs → line_read d (take n bs) ≡ Err bad → lines_read (lines_in bs) d k ≡ Err (At (line_after k))
line_bad bs d bad k n is within read = line_first bs d k n is within ∙ ap (λ (r : Result Draft Bad). read_on r (line_after k) (λ x. lines_read (lines_in (drop (n + 1) bs)) x (line_after k))) read

pub rest_shorter : (bs : List ℕ) (n : ℕ) → n < length bs → length (take (length bs - (n + 1)) (drop (n + 1) bs)) < length bs
rest_shorter bs n within = omega (arith, within, length-take (length bs - (n + 1)) (drop (n + 1) bs), length-drop (n + 1) bs)
