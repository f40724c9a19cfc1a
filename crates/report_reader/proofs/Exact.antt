-- The reader is exact: `read_of_print` and `print_of_read` give what is read, and with them each refusal is at the first line
-- that is in no report.
use Rattle.std.proofs.Common.{◌≡◌, ◌≢◌, ℕ, suc, ◌+◌, ◌<◌, ◌≤◌, min, Bool, true, false, cond, List, [], ◌∷◌, ◌++◌, append_assoc, append-nil, length, take, Option, Some, None, Result, Ok, Err, refl, sym, ap, subst, ◌∙◌, arith, ltb-true, ltb-false, nat_lt, zero-add}
use Rattle.volfile.specs.TextLines.{line_after}
use Rattle.report_text.specs.ReportText.{report_text}
use Rattle.report_text.specs.declared.report.Report.{Report}
use Rattle.report_reader.specs.Reports.{IsReport}
use Rattle.report_reader.specs.Readings.{lines_in, Begins, IsRefusedAt}
use Rattle.report_reader.specs.declared.bad.Bad.{Bad}
use Rattle.report_reader.specs.declared.bad.Bad.TheVariants.{Line}
use Rattle.report_reader.specs.declared.bad.ReportError.{ReportError}
use Rattle.report_reader.specs.declared.bad.ReportError.TheVariants.{At, Mem as ReadMem}
use Rattle.report_reader.specs.declared.drafts.Draft.{Draft}
use Rattle.report_reader.specs.declared.drafts.Part.{Part}
use Rattle.report_reader.specs.declared.drafts.Part.TheVariants as part
use Rattle.report_reader.specs.code.LineForms.{IsButForMemory, nothing_read, without_feed, fed_read, read_on, lines_read, report_of, text_ended_by}
use Rattle.report_reader.proofs.Laws.{not_ok, ok_is}
use Rattle.report_reader.proofs.DraftLaws.{IsDraft, front_text, completed, starts, text_ends, completed_legal, completed_begins}
use Rattle.report_reader.proofs.Steps.{line_goes_on}
use Rattle.report_reader.proofs.Feeds.{whole_text, lines_whole, lines_first, IsFed, fed_is}
use Rattle.report_reader.proofs.ReadBack.{read_of_print}

no_both : (r : Report) (line : ℕ) → ◌≡◌ {A = Result Report ReportError} (Ok r) (Err (At line)) → ⊥
no_both r line e = absurd cc

-- ---- how far the lines are read
abbrev pub go_on_with : (Draft → Result Draft Bad) → Result Draft Bad → Result Draft Bad
go_on_with next (Ok d) = next d
go_on_with next (Err bad) = Err bad

-- the draft after these lines
abbrev pub after_lines : List (List ℕ) → Draft → Result Draft Bad
after_lines [] d = Ok d
after_lines (l ∷ ls) d = go_on_with (λ e. after_lines ls e) (fed_read d (without_feed l))

-- the lines are read as far as `before`, and the next is not
pub record Stopped (ls : List (List ℕ)) (d : Draft) : Type 0 where
  pub before : ℕ
  pub within : before ≤ length ls
  pub reached : Draft
  pub reads : after_lines (take before ls) d ≡ Ok reached
  pub stuck : before < length ls → (bad : Bad) × (after_lines (take (before + 1) ls) d ≡ Err bad)

-- where lines are read, the first of them are
pub front_reads : (us vs : List (List ℕ)) (d : Draft) (bad : Bad) → after_lines us d ≡ Err bad → (number : ℕ) → (line : ℕ) × (lines_read (us ++ vs) d number ≡ Err (At line))
front_reads [] vs d bad e number = absurd (no_err bad d (sym e))
  where
    no_err : (bad : Bad) (d : Draft) → ◌≡◌ {A = Result Draft Bad} (Err bad) (Ok d) → ⊥
    no_err bad d e = absurd cc
front_reads (u ∷ us) vs d bad e number = by (fed_read d (without_feed u)) refl e (λ x f. front_reads us vs x bad f (line_after number))
  where
    by : (r : Result Draft Bad) → fed_read d (without_feed u) ≡ r → go_on_with (λ x. after_lines us x) r ≡ Err bad
        → ((x : Draft) → after_lines us x ≡ Err bad → (line : ℕ) × (lines_read (us ++ vs) x (line_after number) ≡ Err (At line)))
        → (line : ℕ) × (read_on r (line_after number) (λ x. lines_read (us ++ vs) x (line_after number)) ≡ Err (At line))
    by (Ok x) is e next = next x e
    by (Err b) is e next = (line_after number, refl)

-- ---- print after read
-- all lines end with a feed
abbrev pub AreFed : List (List ℕ) → Type 0
AreFed [] = Unit {0}
AreFed (l ∷ ls) = ((m : List ℕ) × IsFed l m) × AreFed ls

pub lines_of_fed : (us : List (List ℕ)) (rest : List ℕ) → AreFed us → lines_in (whole_text us ++ rest) ≡ us ++ lines_in rest
lines_of_fed [] rest h = refl
lines_of_fed (u ∷ us) rest h =
    let m = h.0.0 in
    let f = h.0.1 in
    let cut : whole_text (u ∷ us) ++ rest ≡ m ++ 10 ∷ (whole_text us ++ rest) =
    ap (λ (v : List ℕ). (v ++ whole_text us) ++ rest) f.is ∙ append_assoc (m ++ 10 ∷ []) (whole_text us) rest ∙ append_assoc m (10 ∷ []) (whole_text us ++ rest) in
    ap lines_in cut ∙ lines_first m (whole_text us ++ rest) f.one ∙ ap (λ (v : List ℕ). v ∷ lines_in (whole_text us ++ rest)) (sym f.is) ∙ ap (λ (ls : List (List ℕ)). u ∷ ls) (lines_of_fed us rest h.1)

-- one line more
fed_goes_on : (d e : Draft) (l : List ℕ) (o : Option (List ℕ)) → IsDraft d → without_feed l ≡ o → fed_read d o ≡ Ok e → ((m : List ℕ) × IsFed l m) × IsDraft e × (front_text e ≡ front_text d ++ l)
fed_goes_on d e l None h was is = absurd (not_ok Line e is)
fed_goes_on d e l (Some m) h was is =
    let f = fed_is l m was in
    let g = line_goes_on d e m h is in
    ((m, f), g.0, g.1 ∙ ap (λ (v : List ℕ). front_text d ++ v) (sym f.is))

pub after_goes_on : (ls : List (List ℕ)) (d e : Draft) → IsDraft d → after_lines ls d ≡ Ok e → AreFed ls × IsDraft e × (front_text e ≡ front_text d ++ whole_text ls)
after_goes_on [] d e h is = subst (λ (x : Draft). Unit {0} × IsDraft x × (front_text x ≡ front_text d ++ [])) (ok_is d e is) (tt, h, sym (append-nil (front_text d)))
after_goes_on (l ∷ ls) d e h is = by (fed_read d (without_feed l)) refl is (λ x k f. after_goes_on ls x e k f)
  where
    by : (r : Result Draft Bad) → fed_read d (without_feed l) ≡ r → go_on_with (λ x. after_lines ls x) r ≡ Ok e
        → ((x : Draft) → IsDraft x → after_lines ls x ≡ Ok e → AreFed ls × IsDraft e × (front_text e ≡ front_text x ++ whole_text ls))
        → AreFed (l ∷ ls) × IsDraft e × (front_text e ≡ front_text d ++ whole_text (l ∷ ls))
    by (Err bad) was is next = absurd (not_ok bad e is)
    by (Ok x) was is next =
        let f = fed_goes_on d x l (without_feed l) h refl was in
        let g = next x f.1 is in
        ((f.0, g.0), g.1, g.2 ∙ ap (λ (v : List ℕ). v ++ whole_text ls) f.2 ∙ append_assoc (front_text d) l (whole_text ls))

pub reads_on : (ls : List (List ℕ)) (d : Draft) (number : ℕ) (r : Report) → IsDraft d → lines_read ls d number ≡ Ok r → IsReport r × (report_text r ≡ front_text d ++ whole_text ls)
reads_on [] d number r h is = let g = text_ends d number r h is in (g.0, g.1 ∙ sym (append-nil (front_text d)))
reads_on (l ∷ ls) d number r h is = by (fed_read d (without_feed l)) refl is (λ x k f. reads_on ls x (line_after number) r k f)
  where
    not_read : (line : ℕ) → ◌≡◌ {A = Result Report ReportError} (Err (At line)) (Ok r) → ⊥
    not_read line e = absurd cc

    by : (q : Result Draft Bad) → fed_read d (without_feed l) ≡ q → read_on q (line_after number) (λ x. lines_read ls x (line_after number)) ≡ Ok r
        → ((x : Draft) → IsDraft x → lines_read ls x (line_after number) ≡ Ok r → IsReport r × (report_text r ≡ front_text x ++ whole_text ls))
        → IsReport r × (report_text r ≡ front_text d ++ whole_text (l ∷ ls))
    by (Err bad) was is next = absurd (not_read (line_after number) is)
    by (Ok x) was is next =
        let f = fed_goes_on d x l (without_feed l) h refl was in
        let g = next x f.1 is in
        (g.0, g.1 ∙ ap (λ (v : List ℕ). v ++ whole_text ls) f.2 ∙ append_assoc (front_text d) l (whole_text ls))

pub print_of_read : (bytes : List ℕ) (r : Report) → lines_read (lines_in bytes) nothing_read 0 ≡ Ok r → IsReport r × (bytes ≡ report_text r)
print_of_read bytes r e = let g = reads_on (lines_in bytes) nothing_read 0 r starts e in (g.0, sym (g.1 ∙ lines_whole bytes))

pub lines_begin : (us : List (List ℕ)) (d : Draft) → after_lines us nothing_read ≡ Ok d → Begins us
lines_begin us d e =
    let g = after_goes_on us nothing_read d starts e in
    let c = completed_begins d g.1 in
    record {
      report = completed d;
      legal = completed_legal d g.1;
      rest = lines_in c.0;
      is = ap lines_in (c.1 ∙ ap (λ (v : List ℕ). v ++ c.0) g.2) ∙ lines_of_fed us c.0 g.0;
    }

-- ---- where the lines stop
pub record StopsAt (ls : List (List ℕ)) (d : Draft) (number line : ℕ) : Type 0 where
  pub stopped : Stopped ls d
  pub line_is : line ≡ min (number + min (stopped.before + 1) (length ls)) 4294967295

later_line : (number : ℕ) → number ≤ 4294967295 → line_after number ≡ min (number + 1) 4294967295
later_line number few = by (nat_lt number 4294967295) refl
  where
    by : (b : Bool) → nat_lt number 4294967295 ≡ b → cond b (number + 1) number ≡ min (number + 1) 4294967295
    by true is = omega (arith, ltb-true number 4294967295 is)
    by false is = omega (arith, few, ltb-false number 4294967295 is)

-- the text ends too early at the number of its lines
ended_line : (p : Part) (d : Draft) (number line : ℕ) → text_ended_by p d number ≡ Err (At line) → line ≡ number
ended_line p d number line e = by p e
  where
    same : (n m : ℕ) → ◌≡◌ {A = Result Report ReportError} (Err (At n)) (Err (At m)) → m ≡ n
    same n m e = cc

    by : (p : Part) → text_ended_by p d number ≡ Err (At line) → line ≡ number
    by part.Done e = absurd (no_both (report_of d) line e)
    by part.Head e = same number line e
    by part.Calls e = same number line e
    by (part.Entries count) e = same number line e
    by part.Heals e = same number line e
    by part.Skips e = same number line e
    by part.Graphs e = same number line e

pub stops : (ls : List (List ℕ)) (d : Draft) (number line : ℕ) → number ≤ 4294967295 → lines_read ls d number ≡ Err (At line) → StopsAt ls d number line
stops [] d number line few e = record {
  stopped = record { before = 0; within = omega arith; reached = d; reads = refl; stuck = λ more. absurd (omega (arith, more)) };
  line_is = omega (arith, few, ended_line d.part d number line e);
}
stops (l ∷ ls) d number line few e = by (fed_read d (without_feed l)) refl e (λ x k f. stops ls x (line_after number) line k f)
  where
    same : (n m : ℕ) → ◌≡◌ {A = Result Report ReportError} (Err (At n)) (Err (At m)) → m ≡ n
    same n m e = cc

    by : (r : Result Draft Bad) → fed_read d (without_feed l) ≡ r → read_on r (line_after number) (λ x. lines_read ls x (line_after number)) ≡ Err (At line)
        → ((x : Draft) → line_after number ≤ 4294967295 → lines_read ls x (line_after number) ≡ Err (At line) → StopsAt ls x (line_after number) line) → StopsAt (l ∷ ls) d number line
    by (Err bad) was e again = record {
      stopped = record { before = 0; within = omega arith; reached = d; reads = refl; stuck = λ more. (bad, ap (go_on_with (λ x. after_lines (take 0 ls) x)) was) };
      line_is = omega (arith, few, later_line number few, same (line_after number) line e);
    }
    by (Ok x) was e again =
        let next = later_line number few in
        let s = again x (omega (arith, next)) e in
        let t = s.stopped in
        let place : suc t.before + 1 ≡ suc (t.before + 1) = omega arith in
        record {
          stopped = record {
            before = suc t.before;
            within = omega (arith, t.within);
            reached = t.reached;
            reads = ap (go_on_with (λ y. after_lines (take t.before ls) y)) was ∙ t.reads;
            stuck = λ more.
                let u = t.stuck (omega (arith, more)) in
                (u.0, ap (λ n. after_lines (take n (l ∷ ls)) d) place ∙ ap (go_on_with (λ y. after_lines (take (t.before + 1) ls) y)) was ∙ u.1);
          };
          line_is = omega (arith, few, next, s.line_is);
        }

pub stopped_at : (ls : List (List ℕ)) (line : ℕ) → lines_read ls nothing_read 0 ≡ Err (At line) → (s : Stopped ls nothing_read) × (line ≡ min (min (s.before + 1) (length ls)) 4294967295)
stopped_at ls line e = let s = stops ls nothing_read 0 line (omega arith) e in (s.stopped, s.line_is ∙ ap (λ n. min n 4294967295) (zero-add (min (s.stopped.before + 1) (length ls))))

-- ---- what `read` says, from these
no_report : (bytes : List ℕ) (line : ℕ) → lines_read (lines_in bytes) nothing_read 0 ≡ Err (At line) → (r : Report) → IsReport r → bytes ≢ report_text r
no_report bytes line e r h = λ is. no_both r line (sym (read_of_print r h) ∙ ap (λ (bs : List ℕ). lines_read (lines_in bs) nothing_read 0) (sym is) ∙ e)

-- lines that are not read begin no report
no_front : (ls : List (List ℕ)) (bad : Bad) → after_lines ls nothing_read ≡ Err bad → Begins ls → ⊥
no_front ls bad e b =
    let f = front_reads ls b.rest nothing_read bad e 0 in
    no_both b.report f.0 (sym (read_of_print b.report b.legal) ∙ ap (λ (l : List (List ℕ)). lines_read l nothing_read 0) b.is ∙ f.1)

pub refused_at : (bytes : List ℕ) (line : ℕ) → lines_read (lines_in bytes) nothing_read 0 ≡ Err (At line) → IsRefusedAt line bytes
refused_at bytes line e =
    let ls = lines_in bytes in
    let p = stopped_at ls line e in
    let s = p.0 in
    record {
      none = no_report bytes line e;
      before = s.before;
      within = s.within;
      begins = lines_begin (take s.before ls) s.reached s.reads;
      stops = λ more b. let t = s.stuck more in no_front (take (s.before + 1) ls) t.0 t.1 b;
      line_is = p.1;
    }

pub only_report : (bytes : List ℕ) (found r : Report) → lines_read (lines_in bytes) nothing_read 0 ≡ Ok found → IsReport r → bytes ≡ report_text r → found ≡ r
only_report bytes found r e h is = same found r (sym e ∙ ap (λ (bs : List ℕ). lines_read (lines_in bs) nothing_read 0) is ∙ read_of_print r h)
  where
    same : (a b : Report) → ◌≡◌ {A = Result Report ReportError} (Ok a) (Ok b) → a ≡ b
    same a b e = cc

-- an error of the code that is a line
pub refused_as : (e : ReportError) (wanted : Result Report ReportError) (line : ℕ) → IsButForMemory (Err e) wanted → ◌≡◌ {A = Result Report ReportError} (Err e) (Err (At line)) → wanted ≡ Err (At line)
refused_as (At n) wanted line h is = h ∙ is
refused_as ReadMem wanted line h is = absurd cc
