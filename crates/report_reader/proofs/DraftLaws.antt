-- What the lines that were read say: a draft is the report so far, its lines are those of every report that goes on from
-- it, and there is one.
use Rattle.std.proofs.Common.{◌≡◌, ℕ, zero, suc, ◌+◌, ◌≤◌, List, [], ◌∷◌, ◌++◌, append_assoc, append-nil, length, length-append, replicate, codes, flat_map, decimal, Result, Ok, Err, refl, sym, ap, subst, ◌∙◌, arith, add-zero}
use Rattle.std.proofs.lemmas.List.{length-replicate}
use Rattle.fop_types.specs.Bounds.{Each, IsUnit}
use Rattle.report_text.specs.ReportText.{call_line, entry_line, entry_lines, heal_line, skip_line, graph_line, report_text}
use Rattle.report_text.specs.declared.report.Report.{Report}
use Rattle.report_reader.specs.Reports.{AreCalls, AreGraphs, IsEntry, IsHeal, IsSkip, IsReport}
use Rattle.report_reader.specs.declared.bad.ReportError.{ReportError}
use Rattle.report_reader.specs.declared.bad.ReportError.TheVariants.{At}
use Rattle.report_reader.specs.declared.drafts.Part.{Part}
use Rattle.report_reader.specs.declared.drafts.Part.TheVariants as part
use Rattle.report_reader.specs.declared.drafts.Draft.{Draft}
use Rattle.report_reader.specs.code.LineForms.{nothing_read, report_of, text_ended_by}

-- how many entries are still to come
abbrev pub to_come : Part → ℕ
to_come part.Head = 0
to_come part.Calls = 0
to_come (part.Entries count) = count
to_come part.Heals = 0
to_come part.Skips = 0
to_come part.Graphs = 0
to_come part.Done = 0

-- the lines of kinds that have not come
abbrev pub HasOnly : Part → Draft → Type 0
HasOnly part.Head d = (d.calls ≡ []) × (d.history ≡ []) × (d.heals ≡ []) × (d.skips ≡ []) × (d.graphs ≡ [])
HasOnly part.Calls d = (d.history ≡ []) × (d.heals ≡ []) × (d.skips ≡ []) × (d.graphs ≡ [])
HasOnly (part.Entries count) d = (1 ≤ count) × (d.heals ≡ []) × (d.skips ≡ []) × (d.graphs ≡ [])
HasOnly part.Heals d = (d.skips ≡ []) × (d.graphs ≡ [])
HasOnly part.Skips d = d.graphs ≡ []
HasOnly part.Graphs d = Unit {0}
HasOnly part.Done d = Unit {0}

pub record IsDraft (d : Draft) : Type 0 where
  pub calls : AreCalls 1 d.calls
  pub count : IsUnit (length d.history + to_come d.part)
  pub history : Each IsEntry d.history
  pub heals : Each IsHeal d.heals
  pub skips : Each IsSkip d.skips
  pub graphs : AreGraphs 1 d.graphs
  pub only : HasOnly d.part d

-- ---- the text of the lines that were read
abbrev pub calls_text : Draft → List ℕ
calls_text d = codes "report 1\n" ++ flat_map call_line d.calls

abbrev pub count_text : ℕ → List ℕ
count_text n = codes "history " ++ decimal n ++ codes "\n"

abbrev pub entries_text : ℕ → Draft → List ℕ
entries_text left d = calls_text d ++ (count_text (length d.history + left) ++ entry_lines 1 d.history)

abbrev pub late_text : Draft → List ℕ
late_text d = entries_text 0 d ++ (flat_map heal_line d.heals ++ (flat_map skip_line d.skips ++ flat_map graph_line d.graphs))

abbrev pub front_by : Part → Draft → List ℕ
front_by part.Head d = []
front_by part.Calls d = calls_text d
front_by (part.Entries count) d = entries_text count d
front_by part.Heals d = late_text d
front_by part.Skips d = late_text d
front_by part.Graphs d = late_text d
front_by part.Done d = late_text d ++ codes "end\n"

abbrev pub front_text : Draft → List ℕ
front_text d = front_by d.part d

-- a report that goes on from the draft: entries that are still to come are of call 0
abbrev pub completed : Draft → Report
completed d = record { calls = d.calls; history = d.history ++ replicate (to_come d.part) (0, 0); heals = d.heals; skips = d.skips; graphs = d.graphs }

-- ---- the first draft, and the last
pub starts : IsDraft nothing_read
starts = record { calls = tt; count = omega arith; history = tt; heals = tt; skips = tt; graphs = tt; only = (refl, refl, refl, refl, refl) }

-- the parts of a text in other groups
eight_parts : (r c k e h s g n : List ℕ) → r ++ c ++ k ++ e ++ h ++ s ++ g ++ n ≡ (((r ++ c) ++ (k ++ e)) ++ (h ++ (s ++ g))) ++ n
eight_parts r c k e h s g n = simp append_assoc refl

parted : (r c k e h s g n : List ℕ) → r ++ c ++ k ++ e ++ h ++ s ++ g ++ n ≡ (r ++ c) ++ (k ++ (e ++ (h ++ (s ++ (g ++ n)))))
parted r c k e h s g n = simp append_assoc refl

pub grouped : (a b c z : List ℕ) → a ++ (b ++ (c ++ z)) ≡ (a ++ (b ++ c)) ++ z
grouped a b c z = simp append_assoc refl

late_group : (a b c h s g n : List ℕ) → a ++ (b ++ (c ++ (h ++ (s ++ (g ++ n))))) ≡ ((a ++ (b ++ c)) ++ (h ++ (s ++ g))) ++ n
late_group a b c h s g n = simp append_assoc refl

whole_at_end : (d : Draft) → report_text (report_of d) ≡ late_text d ++ codes "end\n"
unfolding report_text
whole_at_end d =
    let calls = flat_map call_line d.calls in
    let entries = entry_lines 1 d.history in
    let heals = flat_map heal_line d.heals in
    let skips = flat_map skip_line d.skips in
    let graphs = flat_map graph_line d.graphs in
    let same : report_text (report_of d) ≡ (((codes "report 1\n" ++ calls) ++ (count_text (length d.history) ++ entries)) ++ (heals ++ (skips ++ graphs))) ++ codes "end\n" =
    eight_parts (codes "report 1\n") calls (count_text (length d.history)) entries heals skips graphs (codes "end\n") in
    subst (λ (n : ℕ). report_text (report_of d) ≡ (((codes "report 1\n" ++ calls) ++ (count_text n ++ entries)) ++ (heals ++ (skips ++ graphs))) ++ codes "end\n") (sym (add-zero (length d.history))) same

pub text_ends : (d : Draft) (number : ℕ) (r : Report) → IsDraft d → text_ended_by d.part d number ≡ Ok r → IsReport r × (report_text r ≡ front_text d)
text_ends d number r h e = by d.part refl e
  where
    no : (number : ℕ) → ◌≡◌ {A = Result Report ReportError} (Err (At number)) (Ok r) → ⊥
    no number e = absurd cc

    same : (a b : Report) → ◌≡◌ {A = Result Report ReportError} (Ok a) (Ok b) → a ≡ b
    same a b e = cc

    by : (p : Part) → d.part ≡ p → text_ended_by p d number ≡ Ok r → IsReport r × (report_text r ≡ front_by d.part d)
    by part.Done is e =
        let all : length d.history + to_come d.part ≡ length d.history = ap (λ (p : Part). length d.history + to_come p) is ∙ add-zero (length d.history) in
        let report = same (report_of d) r e in (
          subst IsReport report (record { calls = h.calls; count = subst IsUnit all h.count; history = h.history; heals = h.heals; skips = h.skips; graphs = h.graphs }),
          ap report_text (sym report) ∙ whole_at_end d ∙ ap (λ (p : Part). front_by p d) (sym is),
        )
    by part.Head is e = absurd (no number e)
    by part.Calls is e = absurd (no number e)
    by (part.Entries count) is e = absurd (no number e)
    by part.Heals is e = absurd (no number e)
    by part.Skips is e = absurd (no number e)
    by part.Graphs is e = absurd (no number e)

-- ---- the report that goes on from a draft
each_append : {A : Type 0} (P : A → Type 0) (xs ys : List A) → Each P xs → Each P ys → Each P (xs ++ ys)
each_append P [] ys h k = k
each_append P (x ∷ xs) ys h k = (h.0, each_append P xs ys h.1 k)

each_same : {A : Type 0} (P : A → Type 0) (x : A) (k : ℕ) → P x → Each P (replicate k x)
each_same P x zero h = tt
each_same P x (suc k) h = (h, each_same P x k h)

history_size : (d : Draft) (k : ℕ) → length (d.history ++ replicate k (0, 0)) ≡ length d.history + k
history_size d k = length-append d.history (replicate k (0, 0)) ∙ ap (λ n. length d.history + n) (length-replicate k (0, 0))

pub completed_legal : (d : Draft) → IsDraft d → IsReport (completed d)
completed_legal d h =
    let k = to_come d.part in
    record {
      calls = h.calls;
      count = subst IsUnit (sym (history_size d k)) h.count;
      history = each_append IsEntry d.history (replicate k (0, 0)) h.history (each_same IsEntry (0, 0) k (omega arith, omega arith));
      heals = h.heals;
      skips = h.skips;
      graphs = h.graphs;
    }

entries_append : (i : ℕ) (xs ys : List (ℕ × ℕ)) → entry_lines i (xs ++ ys) ≡ entry_lines i xs ++ entry_lines (i + length xs) ys
entries_append i [] ys = ap (λ n. entry_lines n ys) (sym (add-zero i))
entries_append i (x ∷ xs) ys =
    let place : i + 1 + length xs ≡ i + length (x ∷ xs) = omega arith in
    ap (λ l. entry_line i x ++ l) (entries_append (i + 1) xs ys ∙ ap (λ n. entry_lines (i + 1) xs ++ entry_lines n ys) place) ∙ sym (append_assoc (entry_line i x) (entry_lines (i + 1) xs) (entry_lines (i + length (x ∷ xs)) ys))

abbrev pub with_entries : ℕ → Draft → Report
with_entries k d = record { calls = d.calls; history = d.history ++ replicate k (0, 0); heals = d.heals; skips = d.skips; graphs = d.graphs }

abbrev pub behind_entries : Draft → List ℕ
behind_entries d = flat_map heal_line d.heals ++ (flat_map skip_line d.skips ++ (flat_map graph_line d.graphs ++ codes "end\n"))

whole_text_of : (k : ℕ) (d : Draft)
    → report_text (with_entries k d) ≡ calls_text d ++ (count_text (length d.history + k) ++ (entry_lines 1 d.history ++ (entry_lines (1 + length d.history) (replicate k (0, 0)) ++ behind_entries d)))
unfolding report_text
whole_text_of k d =
    let history = d.history ++ replicate k (0, 0) in
    let heals = flat_map heal_line d.heals in
    let skips = flat_map skip_line d.skips in
    let graphs = flat_map graph_line d.graphs in
    let first = entry_lines 1 d.history in
    let later = entry_lines (1 + length d.history) (replicate k (0, 0)) in
    let behind = behind_entries d in
    let cut : report_text (with_entries k d) ≡ calls_text d ++ (count_text (length history) ++ (entry_lines 1 history ++ behind)) =
    parted (codes "report 1\n") (flat_map call_line d.calls) (count_text (length history)) (entry_lines 1 history) heals skips graphs (codes "end\n") in
    let count : calls_text d ++ (count_text (length history) ++ (entry_lines 1 history ++ behind)) ≡ calls_text d ++ (count_text (length d.history + k) ++ (entry_lines 1 history ++ behind)) =
    ap (λ (n : ℕ). calls_text d ++ (count_text n ++ (entry_lines 1 history ++ behind))) (history_size d k) in
    let entries : entry_lines 1 history ++ behind ≡ first ++ (later ++ behind) = ap (λ (l : List ℕ). l ++ behind) (entries_append 1 d.history (replicate k (0, 0))) ∙ append_assoc first later behind in
    cut ∙ count ∙ ap (λ (l : List ℕ). calls_text d ++ (count_text (length d.history + k) ++ l)) entries

pub completed_begins : (d : Draft) → IsDraft d → (rest : List ℕ) × (report_text (completed d) ≡ front_text d ++ rest)
completed_begins d h = by d.part
  where
    late : report_text (with_entries 0 d) ≡ late_text d ++ codes "end\n"
    late =
        let parts : report_text (with_entries 0 d) ≡ calls_text d ++ (count_text (length d.history + 0) ++ (entry_lines 1 d.history ++ behind_entries d)) = whole_text_of 0 d in
        let group : calls_text d ++ (count_text (length d.history + 0) ++ (entry_lines 1 d.history ++ behind_entries d)) ≡ late_text d ++ codes "end\n" =
        late_group (calls_text d) (count_text (length d.history + 0)) (entry_lines 1 d.history) (flat_map heal_line d.heals) (flat_map skip_line d.skips) (flat_map graph_line d.graphs) (codes "end\n") in
        parts ∙ group

    entries : (k : ℕ) → report_text (with_entries k d) ≡ entries_text k d ++ (entry_lines (1 + length d.history) (replicate k (0, 0)) ++ behind_entries d)
    entries k = whole_text_of k d ∙ grouped (calls_text d) (count_text (length d.history + k)) (entry_lines 1 d.history) (entry_lines (1 + length d.history) (replicate k (0, 0)) ++ behind_entries d)

    by : (p : Part) → (rest : List ℕ) × (report_text (with_entries (to_come p) d) ≡ front_by p d ++ rest)
    by part.Head = (report_text (with_entries 0 d), refl)
    by part.Calls = (count_text (length d.history + 0) ++ (entry_lines 1 d.history ++ (entry_lines (1 + length d.history) [] ++ behind_entries d)), whole_text_of 0 d)
    by (part.Entries k) = (entry_lines (1 + length d.history) (replicate k (0, 0)) ++ behind_entries d, entries k)
    by part.Heals = (codes "end\n", late)
    by part.Skips = (codes "end\n", late)
    by part.Graphs = (codes "end\n", late)
    by part.Done = ([], late ∙ sym (append-nil (late_text d ++ codes "end\n")))
