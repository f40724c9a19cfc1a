-- Answers, replies and bounds that are shown, one call after another.
use Rattle.std.proofs.Common.{◌≡◌, ◌∷◌, ◌++◌, refl, sym, ap, subst, ◌∙◌, ℕ, ◌+◌, ◌<◌, ◌≤◌, zero, suc, List, [], length, take, drop, map, replicate, get_or, arith, append_assoc, append-nil}
use Rattle.std.specs.Prelude.{Bool, true, false, not, cond, Option, Some, None, slice_set}
use Rattle.std.proofs.lemmas.List.{take_more, drop_more, drop_all, length-map, length-replicate}
use Rattle.std.proofs.lemmas.List.Elements.{filter-append}
use Rattle.fop_types.specs.Calls.{Submission}
use Rattle.fop_types.specs.History.{Reply}
use Rattle.fop_types.specs.declared.answers.Answer.{Answer}
use Rattle.fop_types.specs.declared.history.Entry.{Entry}
use Rattle.report_text.specs.declared.calls.ReportCall.{ReportCall}
use Rattle.report_text.specs.declared.report.Report.{Report}
use Rattle.script_lang.specs.declared.scripts.CallLine.{CallLine}
use Rattle.script_lang.specs.declared.scripts.Script.{Script}
use Rattle.history_replay.specs.Reports.{is_silent, with_answers, IsAnswerShown, AreAnswersShown, ShowsReply, IsReplyShown, AreShown, last_or, since_from, AreCallsOf, AreInPhases, submission_of, entry_shown, IsTraceOf, IsLawfulFor, IsLawfulReport}
use Rattle.history_replay.specs.Traces.{Trace, IsLawfulTrace}
use Rattle.history_replay.specs.code.Shown.{replied, IsLawfulWithReplies, IsLawfulOf}

-- ---- answers

answers_push : (calls : List ReportCall) (answers : List (Option Answer)) (c : ReportCall) (a : Option Answer) → AreAnswersShown calls answers → IsAnswerShown c a
    → AreAnswersShown (calls ++ c ∷ []) (answers ++ a ∷ [])
answers_push [] [] c a h here = (here, tt)
answers_push [] (b ∷ answers) c a h here = absurd h
answers_push (d ∷ calls) [] c a h here = absurd h
answers_push (d ∷ calls) (b ∷ answers) c a h here = (h.0, answers_push calls answers c a h.1 here)

next_calls : (calls : List ReportCall) (i : ℕ) (c : ReportCall) → i < length calls → c ≡ get_or calls i c → take (i + 1) calls ≡ take i calls ++ c ∷ []
next_calls calls i c within read = take_more calls i c within ∙ ap (λ (x : ReportCall). take i calls ++ x ∷ []) (sym read)

pub answers_next : (calls : List ReportCall) (answers : List (Option Answer)) (i : ℕ) (c : ReportCall) (a : Option Answer) → i < length calls → c ≡ get_or calls i c
    → AreAnswersShown (take i calls) answers → IsAnswerShown c a → AreAnswersShown (take (i + 1) calls) (answers ++ a ∷ [])
answers_next calls answers i c a within read h here =
    subst (λ (l : List ReportCall). AreAnswersShown l (answers ++ a ∷ [])) (sym (next_calls calls i c within read)) (answers_push (take i calls) answers c a h here)

pub shown_long : (calls : List ReportCall) (answers : List (Option Answer)) → AreAnswersShown calls answers → length answers ≡ length calls
shown_long [] [] h = refl
shown_long [] (a ∷ answers) h = absurd h
shown_long (c ∷ calls) [] h = absurd h
shown_long (c ∷ calls) (a ∷ answers) h = let rest = shown_long calls answers h.1 in omega (arith, rest)

pub shown_at : (calls : List ReportCall) (answers : List (Option Answer)) (i : ℕ) (c : ReportCall) (a : Option Answer) → AreAnswersShown calls answers → i < length calls
    → c ≡ get_or calls i c → a ≡ get_or answers i a → IsAnswerShown c a
shown_at [] answers i c a h within read_c read_a = absurd (omega (arith, within))
shown_at (d ∷ calls) [] i c a h within read_c read_a = absurd h
shown_at (d ∷ calls) (b ∷ answers) zero c a h within read_c read_a =
    subst (λ (x : ReportCall). IsAnswerShown x a) (sym read_c) (subst (λ (y : Option Answer). IsAnswerShown d y) (sym read_a) h.0)
shown_at (d ∷ calls) (b ∷ answers) (suc i) c a h within read_c read_a = shown_at calls answers i c a h.1 (omega (arith, within)) read_c read_a

pub shown_set : (calls : List ReportCall) (answers : List (Option Answer)) (i : ℕ) (c : ReportCall) (a : Option Answer) → AreAnswersShown calls answers → i < length calls
    → c ≡ get_or calls i c → IsAnswerShown c a → AreAnswersShown calls (slice_set answers i a)
shown_set [] answers i c a h within read here = absurd (omega (arith, within))
shown_set (d ∷ calls) [] i c a h within read here = absurd h
shown_set (d ∷ calls) (b ∷ answers) zero c a h within read here = (subst (λ (x : ReportCall). IsAnswerShown x a) read here, h.1)
shown_set (d ∷ calls) (b ∷ answers) (suc i) c a h within read here = (h.0, shown_set calls answers i c a h.1 (omega (arith, within)) read here)

-- ---- replies

replies_push : (calls : List ReportCall) (replies : List Reply) (c : ReportCall) (r : Reply) → AreShown calls replies → ShowsReply c r → AreShown (calls ++ c ∷ []) (replies ++ r ∷ [])
replies_push [] [] c r h here = (here, tt)
replies_push [] (q ∷ replies) c r h here = absurd h
replies_push (d ∷ calls) [] c r h here = absurd h
replies_push (d ∷ calls) (q ∷ replies) c r h here = (h.0, replies_push calls replies c r h.1 here)

with_next : (calls : List ReportCall) (i : ℕ) (c : ReportCall) (silent : Bool) → i < length calls → c ≡ get_or calls i c → is_silent c ≡ silent
    → with_answers (take (i + 1) calls) ≡ with_answers (take i calls) ++ cond (not silent) (c ∷ []) []
with_next calls i c silent within read is =
    let next : with_answers (take (i + 1) calls) ≡ with_answers (take i calls ++ c ∷ []) = ap with_answers (next_calls calls i c within read) in
    let cut : with_answers (take i calls ++ c ∷ []) ≡ with_answers (take i calls) ++ cond (not (is_silent c)) (c ∷ []) [] =
    filter-append (λ (x : ReportCall). not (is_silent x)) (take i calls) (c ∷ []) in
    let here : with_answers (take i calls) ++ cond (not (is_silent c)) (c ∷ []) [] ≡ with_answers (take i calls) ++ cond (not silent) (c ∷ []) [] =
    ap (λ (b : Bool). with_answers (take i calls) ++ cond (not b) (c ∷ []) []) is in
    next ∙ cut ∙ here

pub replies_next : (calls : List ReportCall) (replies : List Reply) (i : ℕ) (c : ReportCall) (r : Reply) → i < length calls → c ≡ get_or calls i c
    → AreShown (with_answers (take i calls)) replies → IsReplyShown c (Some r) → AreShown (with_answers (take (i + 1) calls)) (replies ++ r ∷ [])
replies_next calls replies i c r within read h here =
    let next : with_answers (take (i + 1) calls) ≡ with_answers (take i calls) ++ c ∷ [] = with_next calls i c false within read here.0 in
    subst (λ (l : List ReportCall). AreShown l (replies ++ r ∷ [])) (sym next) (replies_push (with_answers (take i calls)) replies c r h here.1)

pub replies_same : (calls : List ReportCall) (replies : List Reply) (i : ℕ) (c : ReportCall) → i < length calls → c ≡ get_or calls i c
    → AreShown (with_answers (take i calls)) replies → IsReplyShown c None → AreShown (with_answers (take (i + 1) calls)) replies
replies_same calls replies i c within read h here =
    let next : with_answers (take (i + 1) calls) ≡ with_answers (take i calls) ++ [] = with_next calls i c true within read here in
    subst (λ (l : List ReportCall). AreShown l replies) (sym (next ∙ append-nil (with_answers (take i calls)))) h

-- ---- bounds

pub first_long : (reached : List ℕ) → reached ≡ replicate 256 0 → length reached ≡ 256
first_long reached is = ap length is ∙ length-replicate {A = ℕ} 256 0

pub since_first : (lines : List CallLine) (calls : List ReportCall) (reached since : List ℕ) → reached ≡ replicate 256 0 → since ≡ []
    → since ++ since_from reached (map (λ l. l.session) (drop 0 lines)) (map (λ c. c.places) (drop 0 calls))
    ≡ since_from (replicate 256 0) (map (λ l. l.session) lines) (map (λ c. c.places) calls)
since_first lines calls reached since is none =
    ap (λ (l : List ℕ). l ++ since_from reached (map (λ x. x.session) lines) (map (λ c. c.places) calls)) none
    ∙ ap (λ (l : List ℕ). since_from l (map (λ x. x.session) lines) (map (λ c. c.places) calls)) is

pub since_next : (lines : List CallLine) (calls : List ReportCall) (i : ℕ) (line : CallLine) (call : ReportCall) (reached after since all : List ℕ) (before : ℕ)
    → i < length lines → i < length calls → line ≡ get_or lines i line → call ≡ get_or calls i call
    → before ≡ get_or reached line.session 0 → after ≡ slice_set reached line.session (last_or (get_or reached line.session 0) call.places)
    → since ++ since_from reached (map (λ l. l.session) (drop i lines)) (map (λ c. c.places) (drop i calls)) ≡ all
    → (since ++ before ∷ []) ++ since_from after (map (λ l. l.session) (drop (i + 1) lines)) (map (λ c. c.places) (drop (i + 1) calls)) ≡ all
since_next lines calls i line call reached after since all before in_lines in_calls read_line read_call before_is after_is so_far =
    let first_line : line ∷ drop (i + 1) lines ≡ drop i lines = ap (λ (x : CallLine). x ∷ drop (i + 1) lines) read_line ∙ sym (drop_more lines i line in_lines) in
    let first_call : call ∷ drop (i + 1) calls ≡ drop i calls = ap (λ (x : ReportCall). x ∷ drop (i + 1) calls) read_call ∙ sym (drop_more calls i call in_calls) in
    let here : (since ++ before ∷ []) ++ since_from after (map (λ l. l.session) (drop (i + 1) lines)) (map (λ c. c.places) (drop (i + 1) calls))
    ≡ since ++ (before ∷ since_from after (map (λ l. l.session) (drop (i + 1) lines)) (map (λ c. c.places) (drop (i + 1) calls))) =
    append_assoc since (before ∷ []) (since_from after (map (λ l. l.session) (drop (i + 1) lines)) (map (λ c. c.places) (drop (i + 1) calls))) in
    let one : since ++ (before ∷ since_from after (map (λ l. l.session) (drop (i + 1) lines)) (map (λ c. c.places) (drop (i + 1) calls)))
    ≡ since ++ (get_or reached line.session 0 ∷ since_from after (map (λ l. l.session) (drop (i + 1) lines)) (map (λ c. c.places) (drop (i + 1) calls))) =
    ap (λ (n : ℕ). since ++ (n ∷ since_from after (map (λ l. l.session) (drop (i + 1) lines)) (map (λ c. c.places) (drop (i + 1) calls)))) before_is in
    let two : since ++ (get_or reached line.session 0 ∷ since_from after (map (λ l. l.session) (drop (i + 1) lines)) (map (λ c. c.places) (drop (i + 1) calls)))
    ≡ since ++ since_from reached (map (λ l. l.session) (line ∷ drop (i + 1) lines)) (map (λ c. c.places) (call ∷ drop (i + 1) calls)) =
    ap (λ (l : List ℕ). since ++ (get_or reached line.session 0 ∷ since_from l (map (λ l. l.session) (drop (i + 1) lines)) (map (λ c. c.places) (drop (i + 1) calls)))) after_is in
    let three : since ++ since_from reached (map (λ l. l.session) (line ∷ drop (i + 1) lines)) (map (λ c. c.places) (call ∷ drop (i + 1) calls))
    ≡ since ++ since_from reached (map (λ l. l.session) (drop i lines)) (map (λ c. c.places) (call ∷ drop (i + 1) calls)) =
    ap (λ (l : List CallLine). since ++ since_from reached (map (λ x. x.session) l) (map (λ c. c.places) (call ∷ drop (i + 1) calls))) first_line in
    let four : since ++ since_from reached (map (λ l. l.session) (drop i lines)) (map (λ c. c.places) (call ∷ drop (i + 1) calls))
    ≡ since ++ since_from reached (map (λ l. l.session) (drop i lines)) (map (λ c. c.places) (drop i calls)) =
    ap (λ (l : List ReportCall). since ++ since_from reached (map (λ x. x.session) (drop i lines)) (map (λ c. c.places) l)) first_call in
    here ∙ one ∙ two ∙ three ∙ four ∙ so_far

pub since_all : (lines : List CallLine) (calls : List ReportCall) (i : ℕ) (reached since all : List ℕ) → length lines ≤ i
    → since ++ since_from reached (map (λ l. l.session) (drop i lines)) (map (λ c. c.places) (drop i calls)) ≡ all → since ≡ all
since_all lines calls i reached since all past so_far =
    let none : since_from reached (map (λ l. l.session) (drop i lines)) (map (λ c. c.places) (drop i calls)) ≡ [] =
    ap (λ (l : List CallLine). since_from reached (map (λ x. x.session) l) (map (λ c. c.places) (drop i calls))) (drop_all i lines past) in
    sym (append-nil since) ∙ ap (λ (l : List ℕ). since ++ l) (sym none) ∙ so_far

-- ---- the report

pub lawful_with : (calls : List ReportCall) (t with_them : Trace) (replies : List Reply) → AreShown (with_answers calls) replies → with_them ≡ replied t replies
    → IsLawfulTrace with_them → IsLawfulWithReplies calls t
lawful_with calls t with_them replies shown is lawful = record { replies = replies; shown = shown; lawful = subst IsLawfulTrace is lawful }

pub lawful_for : (lines : List CallLine) (calls : List ReportCall) (t : Trace) (submissions : List Submission) (history : List Entry)
    (submitted since until : List ℕ) (none count many : ℕ) → t.calls ≡ submissions → t.history ≡ history → t.submitted ≡ submitted → submitted ≡ replicate none 0
    → none ≡ length lines → t.since ≡ since
    → since ≡ since_from (replicate 256 0) (map (λ l. l.session) lines) (map (λ c. c.places) calls) → t.until ≡ until → until ≡ replicate count many
    → count ≡ length lines → many ≡ length history → IsLawfulWithReplies calls t → IsLawfulOf lines calls submissions history
lawful_for lines calls t submissions history submitted since until none count many calls_are history_is t_submitted submitted_is none_is t_since since_is t_until until_is count_is many_is lawful = record {
  trace = t;
  calls_are = calls_are;
  history_is = history_is;
  submitted = t_submitted ∙ submitted_is ∙ ap (λ (n : ℕ). replicate n 0) none_is;
  since = t_since ∙ since_is;
  until = t_until ∙ until_is ∙ ap (λ (n : ℕ). replicate n many) count_is ∙ ap (λ (n : ℕ). replicate (length lines) n) many_is;
  lawful = lawful;
}

pub lawful_from : (lines : List CallLine) (calls : List ReportCall) (entries : List (ℕ × ℕ)) (submissions : List Submission) (history : List Entry)
    → submissions ≡ map submission_of lines → history ≡ map entry_shown entries → IsLawfulOf lines calls submissions history → IsLawfulFor lines calls entries
lawful_from lines calls entries submissions history calls_are history_is h = record {
  trace = replied h.trace h.lawful.replies;
  shows = record {
    calls_are = h.calls_are ∙ calls_are;
    replies = h.lawful.shown;
    history_is = h.history_is ∙ history_is;
    submitted = h.submitted;
    since = h.since;
    until = h.until ∙ ap (λ (n : ℕ). replicate (length lines) n) (ap length history_is ∙ length-map entries entry_shown);
  };
  lawful = h.lawful.lawful;
}

pub lawful_report : (script : Script) (report : Report) (lines : List CallLine) (calls : List ReportCall) (entries : List (ℕ × ℕ)) → calls ≡ report.calls → entries ≡ report.history
    → AreCallsOf script 1 lines calls → AreInPhases lines script.phases → IsLawfulFor lines calls entries → IsLawfulReport script report
lawful_report script report lines calls entries calls_are entries_are each in_phases answers = record {
  lines = lines;
  each = subst (AreCallsOf script 1 lines) calls_are each;
  in_phases = in_phases;
  answers = subst (IsLawfulFor lines report.calls) entries_are (subst (λ (l : List ReportCall). IsLawfulFor lines l entries) calls_are answers);
}
