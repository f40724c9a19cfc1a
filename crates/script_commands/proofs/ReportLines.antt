-- Where the report of a text begins: the text line by line, up to the first that is `report 1`.
use Rattle.std.proofs.Common.{◌≡◌, ℕ, suc, ◌+◌, ◌-◌, ◌<◌, ◌≤◌, ◌==◌, Bool, true, false, cond, List, [], ◌∷◌, ◌++◌, length, length-take, length-drop, take, drop, refl, sym, ap, subst, ◌∙◌, arith, eqb-true}
use Rattle.std.specs.Prelude.{◌≢◌, Result, Ok, Err}
use Rattle.std.specs.List.{AllByRecursion}
use Rattle.std.proofs.lemmas.List.{length_push, take_rest}
use Rattle.std.proofs.Math.Seq.{take-add}
use Rattle.volfile.specs.TextLines.{lines_of, onto_first, front_len, is_text}
use Rattle.volfile.proofs.PartLemmas.{front_within, lines_cut}
use Rattle.volfile.proofs.Places.{word_itself}
use Rattle.history_replay.specs.Reports.{last_or}
use Rattle.report_reader.specs.Readings.{lines_in, IsRefusedAt}
use Rattle.script_commands.specs.Plans.{accepted}
use Rattle.script_commands.specs.Replays.{report_line, AreWholeLines, HasNoReport, IsReportAt, IsReportRefused}
use Rattle.script_commands.specs.declared.plans.Accepted.{Accepted}
use Rattle.script_commands.proofs.Planning.{all_push}

-- ---- lines of two texts, of which the first ends with a line
onto_some : (b : ℕ) (ls : List (List ℕ)) → 0 < length (onto_first b ls)
onto_some b [] = omega arith
onto_some b (l ∷ ls) = omega arith

onto_joined : (b : ℕ) (ls more : List (List ℕ)) → 0 < length ls → onto_first b (ls ++ more) ≡ onto_first b ls ++ more
onto_joined b [] more some = absurd (omega (arith, some))
onto_joined b (l ∷ ls) more some = refl

lines_some : (b : ℕ) (bs : List ℕ) → 0 < length (lines_of (b ∷ bs))
lines_some b bs = elim (b == 10) as (λ t. 0 < length (cond t ([] ∷ lines_of bs) (onto_first b (lines_of bs)))) [
  | true ↦ omega arith
  | false ↦ onto_some b (lines_of bs)
]

lines_joined : (before rest : List ℕ) → AreWholeLines before → lines_of (before ++ rest) ≡ lines_of before ++ lines_of rest
lines_joined [] rest whole = refl
lines_joined (b ∷ []) rest whole = subst (λ c. lines_of (c ∷ rest) ≡ lines_of (c ∷ []) ++ lines_of rest) (sym whole) refl
lines_joined (b ∷ c ∷ cs) rest whole =
    let next : lines_of ((c ∷ cs) ++ rest) ≡ lines_of (c ∷ cs) ++ lines_of rest = lines_joined (c ∷ cs) rest whole in
    elim (b == 10) as (λ t. cond t ([] ∷ lines_of ((c ∷ cs) ++ rest)) (onto_first b (lines_of ((c ∷ cs) ++ rest))) ≡ cond t ([] ∷ lines_of (c ∷ cs)) (onto_first b (lines_of (c ∷ cs))) ++ lines_of rest) [
      | true ↦ ap (λ (ls : List (List ℕ)). [] ∷ ls) next
      | false ↦ ap (onto_first b) next ∙ onto_joined b (lines_of (c ∷ cs)) (lines_of rest) (lines_some c cs)
    ]

last_joined : (before more : List ℕ) (d : ℕ) → ((e : ℕ) → last_or e more ≡ 10) → last_or d (before ++ more) ≡ 10
last_joined [] more d ends = ends d
last_joined (b ∷ bs) more d ends = last_joined bs more b ends

-- ---- no more lines than bytes
onto_few : (b : ℕ) (ls : List (List ℕ)) → length (onto_first b ls) ≤ length ls + 1
onto_few b [] = omega arith
onto_few b (l ∷ ls) = omega arith

lines_few : (bs : List ℕ) → length (lines_of bs) ≤ length bs
lines_few [] = omega arith
lines_few (b ∷ bs) = elim (b == 10) as (λ t. length (cond t ([] ∷ lines_of bs) (onto_first b (lines_of bs))) ≤ suc (length bs)) [
  | true ↦ omega (arith, lines_few bs)
  | false ↦ omega (arith, lines_few bs, onto_few b (lines_of bs))
]

fed_few : (bs : List ℕ) → length (lines_in bs) ≤ length bs
fed_few [] = omega arith
fed_few (b ∷ bs) = elim (b == 10) as (λ t. length (cond t ((10 ∷ []) ∷ lines_in bs) (onto_first b (lines_in bs))) ≤ suc (length bs)) [
  | true ↦ omega (arith, fed_few bs)
  | false ↦ omega (arith, fed_few bs, onto_few b (lines_in bs))
]

-- ---- the first line, with its line feed
abbrev first_len : List ℕ → ℕ
first_len bs = front_len (λ b. b == 10) bs

first_alone : (bs : List ℕ) → 0 < length bs → lines_of (take (first_len bs + 1) bs) ≡ take (first_len bs) bs ∷ []
first_alone [] some = absurd (omega (arith, some))
first_alone (b ∷ bs) some = by (b == 10) refl (λ more. first_alone bs more)
  where
    longer : (bs : List ℕ) → (0 < length bs → lines_of (take (first_len bs + 1) bs) ≡ take (first_len bs) bs ∷ []) → onto_first b (lines_of (take (first_len bs + 1) bs)) ≡ (b ∷ take (first_len bs) bs) ∷ []
    longer [] next = refl
    longer (c ∷ cs) next = ap (onto_first b) (next (omega arith))

    by : (t : Bool) → (b == 10) ≡ t → (0 < length bs → lines_of (take (first_len bs + 1) bs) ≡ take (first_len bs) bs ∷ []) → lines_of (take (cond t 0 (suc (first_len bs)) + 1) (b ∷ bs)) ≡ take (cond t 0 (suc (first_len bs))) (b ∷ bs) ∷ []
    by true is next = ap (λ c. cond c ([] ∷ []) (onto_first b [])) is
    by false is next =
        let more : suc (first_len bs) + 1 ≡ suc (first_len bs + 1) = omega arith in
        ap (λ k. lines_of (take k (b ∷ bs))) more ∙ ap (λ c. cond c ([] ∷ lines_of (take (first_len bs + 1) bs)) (onto_first b (lines_of (take (first_len bs + 1) bs)))) is ∙ longer bs next

first_whole : (bs : List ℕ) (d : ℕ) → first_len bs < length bs → last_or d (take (first_len bs + 1) bs) ≡ 10
first_whole [] d fed = absurd (omega (arith, fed))
first_whole (b ∷ bs) d fed = by (b == 10) refl fed (λ more. first_whole bs b more)
  where
    by : (t : Bool) → (b == 10) ≡ t → cond t 0 (suc (first_len bs)) < suc (length bs) → (first_len bs < length bs → last_or b (take (first_len bs + 1) bs) ≡ 10) → last_or d (take (cond t 0 (suc (first_len bs)) + 1) (b ∷ bs)) ≡ 10
    by true is fed next = eqb-true b 10 is
    by false is fed next =
        let more : suc (first_len bs) + 1 ≡ suc (first_len bs + 1) = omega arith in
        ap (λ k. last_or d (take k (b ∷ bs))) more ∙ next (omega (arith, fed))

-- ---- the search
-- so many lines are before this byte, and none is `report 1`
pub record AreSearched (text : List ℕ) (at lines : ℕ) : Type 0 where
  pub before : HasNoReport (take at text) lines
  pub whole : at ≤ length text → AreWholeLines (take at text)
  pub few : lines ≤ at

other_line : (line : List ℕ) → is_text line report_line ≡ false → line ≢ report_line
other_line line not = λ same. let is : is_text line report_line ≡ true = ap (λ l. is_text l report_line) same ∙ word_itself report_line in absurd cc

head_is : (x y : List ℕ) (xs ys : List (List ℕ)) → ◌≡◌ {A = List (List ℕ)} (x ∷ xs) (y ∷ ys) → x ≡ y
head_is x y xs ys e = cc

searched_on : (text : List ℕ) (at lines : ℕ) → AreSearched text at lines → at < length text → take (first_len (drop at text)) (drop at text) ≢ report_line
    → AreSearched text (at + (first_len (drop at text) + 1)) (lines + 1)
searched_on text at lines s within other = record {
  before = record {
    none = subst (AllByRecursion (λ line. line ≢ report_line)) (sym parts) (all_push (λ line. line ≢ report_line) (lines_of (take at text)) (take n rest) s.before.none other);
    count = let a = ap length parts in let b = length_push (lines_of (take at text)) (take n rest) in let c = s.before.count in omega (arith, a, b, c);
  };
  whole = λ fits. ap (last_or 10) joined ∙ last_joined (take at text) (take (n + 1) rest) 10 (λ d. first_whole rest d (omega (arith, fits, length-drop at text)));
  few = let f = s.few in omega (arith, f);
}
  where
    rest : List ℕ
    rest = drop at text

    n : ℕ
    n = first_len (drop at text)

    joined : take (at + (n + 1)) text ≡ take at text ++ take (n + 1) rest
    joined = take-add at (n + 1) text

    parts : lines_of (take (at + (n + 1)) text) ≡ lines_of (take at text) ++ take n rest ∷ []
    parts =
        ap lines_of joined ∙ lines_joined (take at text) (take (n + 1) rest) (s.whole (omega (arith, within)))
        ∙ ap (λ (ls : List (List ℕ)). lines_of (take at text) ++ ls) (first_alone rest (omega (arith, within, length-drop at text)))

-- one line more that is another
pub searched_more : (text line : List ℕ) (at lines : ℕ) → AreSearched text at lines → at < length text → lines_of (drop at text) ≡ line ∷ lines_of (drop (at + (length line + 1)) text)
    → is_text line report_line ≡ false → AreSearched text (at + (length line + 1)) (lines + 1)
searched_more text line at lines s within cut not =
    let rest = drop at text in
    let own : lines_of rest ≡ take (first_len rest) rest ∷ lines_of (drop (first_len rest + 1) rest) = lines_cut rest (omega (arith, within, length-drop at text)) in
    let same : line ≡ take (first_len rest) rest = head_is line (take (first_len rest) rest) (lines_of (drop (at + (length line + 1)) text)) (lines_of (drop (first_len rest + 1) rest)) (sym cut ∙ own) in
    let len : length line ≡ first_len rest = omega (arith, ap length same, length-take (first_len rest) rest, front_within (λ b. b == 10) rest) in
    subst (λ k. AreSearched text (at + (k + 1)) (lines + 1)) (sym len) (searched_on text at lines s within (subst (λ l. l ≢ report_line) same (other_line line not)))

-- ---- a line of the report, counted in the whole text
line_fits : (text : List ℕ) (at lines own : ℕ) → IsReportAt text at lines → at ≤ length text → IsRefusedAt own (drop at text) → lines + own ≤ length text
line_fits text at lines own report within refused =
    let count = report.before.count in
    let line_is = refused.line_is in
    omega (arith, count, line_is, within, lines_few (take at text), length-take at text, fed_few (drop at text), length-drop at text)

pub line_in_text : (text : List ℕ) (at lines own : ℕ) → IsReportAt text at lines → at ≤ length text → IsRefusedAt own (take (length text - at) (drop at text)) → lines + own ≤ length text
line_in_text text at lines own report within refused = line_fits text at lines own report within (subst (IsRefusedAt own) (take_rest text at) refused)

pub report_refused : (text : List ℕ) (at lines own : ℕ) (read : Accepted) → IsReportAt text at lines → accepted (take at text) ≡ Ok read → IsRefusedAt own (take (length text - at) (drop at text))
    → IsReportRefused text (lines + own)
report_refused text at lines own read report script refused = record {
  at = at;
  lines = lines;
  report = report;
  read = read;
  script = script;
  own_line = own;
  refused = subst (IsRefusedAt own) (take_rest text at) refused;
  line_is = refl;
}

-- an error that is handed on
pub err_again : {T U E : Type 0} (a b : E) → ◌≡◌ {A = Result T E} (Err a) (Err b) → ◌≡◌ {A = Result U E} (Err a) (Err b)
err_again a b is = let same : a ≡ b = cc in ap Err same
