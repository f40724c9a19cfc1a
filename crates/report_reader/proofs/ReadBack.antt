-- The text of a legal report is read as that report: each part of the text leads the reader from one draft to the next.
use Rattle.std.proofs.Common.{◌≡◌, ℕ, suc, ◌+◌, ◌-◌, Bool, true, false, cond, List, [], ◌∷◌, ◌++◌, append_assoc, append-nil, length, length-append, codes, flat_map, decimal, Result, Ok, Err, refl, sym, ap, subst, ◌∙◌, arith, ne_eqb}
use Rattle.fop_types.specs.Bounds.{Each, IsUnit}
use Rattle.fop_types.specs.declared.cells.Cell.{Cell}
use Rattle.fop_types.specs.declared.causes.SkipCause.{SkipCause}
use Rattle.volfile.specs.TextLines.{line_after}
use Rattle.report_text.specs.ReportText.{call_line, history_line, entry_line, entry_lines, heal_line, skip_line, graph_line, report_text}
use Rattle.report_text.specs.declared.calls.ReportCall.{ReportCall}
use Rattle.report_text.specs.declared.graphs.ReportGraph.{ReportGraph}
use Rattle.report_text.specs.declared.report.Report.{Report}
use Rattle.report_reader.specs.Reports.{AreCalls, IsEntry, IsHeal, IsSkip, AreGraphs, IsReport}
use Rattle.report_reader.specs.Readings.{lines_in}
use Rattle.report_reader.specs.declared.bad.Bad.{Bad}
use Rattle.report_reader.specs.declared.bad.Bad.TheVariants.{Line}
use Rattle.report_reader.specs.declared.drafts.Part.{Part}
use Rattle.report_reader.specs.declared.drafts.Part.TheVariants as part
use Rattle.report_reader.specs.declared.drafts.Draft.{Draft}
use Rattle.report_reader.specs.code.LineForms.{skip_of, graph_of, with_call, with_count, with_entry, with_heal, with_skip, with_graph, entries_left, may_skip, skip_read, late_read, words_read_by, words_read, line_read, nothing_read, fed_read, read_on, lines_read}
use Rattle.report_reader.proofs.Joins.{joined, has_no, parts_joined, joined_end}
use Rattle.report_reader.proofs.LineWords.{line_of, call_words, call_joined, history_joined, entry_words, entry_joined, heal_words, heal_joined, skip_words, skip_joined, graph_words, graph_joined}
use Rattle.report_reader.proofs.LineLaws.{call_law, history_law, entry_law, heal_law, skip_law, graph_law}
use Rattle.report_reader.proofs.AnswerLaws.{answer_law}
use Rattle.report_reader.proofs.PlainWords.{IsPlain, plain_spaces, each_spaces, line_feeds, unit_plain, call_plain, entry_plain, heal_plain, skip_plain, graph_plain}
use Rattle.report_reader.proofs.Feeds.{lines_first, feed_off}

-- ---- texts that lead from one draft to another, whatever follows
abbrev pub Leads : List ℕ → Draft → Draft → Type 0
Leads text d e = (rest : List ℕ) (n : ℕ) → (m : ℕ) × (lines_read (lines_in (text ++ rest)) d n ≡ lines_read (lines_in rest) e m)

stays : (d : Draft) → Leads [] d d
stays d = λ rest n. (n, refl)

leads_on : (t u : List ℕ) (d e f : Draft) → Leads t d e → Leads u e f → Leads (t ++ u) d f
leads_on t u d e f first later = λ rest n.
    let p = first (u ++ rest) n in
    let q = later rest p.0 in
    (q.0, ap (λ (l : List ℕ). lines_read (lines_in l) d n) (append_assoc t u rest) ∙ p.1 ∙ q.1)

leads_line : (l : List ℕ) (d e : Draft) → has_no 10 l → line_read d l ≡ Ok e → Leads (l ++ 10 ∷ []) d e
leads_line l d e h is = λ rest n. (
  line_after n,
  ap (λ (t : List ℕ). lines_read (lines_in t) d n) (append_assoc l (10 ∷ []) rest) ∙ ap (λ (ls : List (List ℕ)). lines_read ls d n) (lines_first l rest h)
      ∙ ap (λ o. read_on (fed_read d o) (line_after n) (λ s. lines_read (lines_in rest) s (line_after n))) (feed_off l h)
      ∙ ap (λ (r : Result Draft Bad). read_on r (line_after n) (λ s. lines_read (lines_in rest) s (line_after n))) is,
)

line_is_read : (first : List ℕ) (ws : List (List ℕ)) (d e : Draft) → IsPlain first → Each IsPlain ws → words_read d (first ∷ ws) ≡ Ok e → line_read d (joined 32 first ws []) ≡ Ok e
unfolding line_read
line_is_read first ws d e h hs is = ap (words_read d) (parts_joined 32 first ws (plain_spaces first h) (each_spaces ws hs)) ∙ is

-- a line of plain words
words_lead : (text first : List ℕ) (ws : List (List ℕ)) (d e : Draft) → text ≡ line_of first ws → IsPlain first → Each IsPlain ws → words_read d (first ∷ ws) ≡ Ok e → Leads text d e
words_lead text first ws d e same h hs is =
    subst (λ (t : List ℕ). Leads t d e) (sym (same ∙ joined_end 32 first ws (10 ∷ []))) (leads_line (joined 32 first ws []) d e (line_feeds first ws h hs) (line_is_read first ws d e h hs is))

-- the lines of a list, where each leads from what is before it
module _ {X : Type 0} (Held : ℕ → List X → Type 0) (later : (n : ℕ) (x : X) (xs : List X) → Held n (x ∷ xs) → Held (n + 1) xs) (line : X → List ℕ) (state : List X → Draft) (step : (before : List X) (x : X) (xs : List X) → Held (length before + 1) (x ∷ xs) → Leads (line x) (state before) (state (before ++ x ∷ []))) where
  lines_lead : (before xs : List X) → Held (length before + 1) xs → Leads (flat_map line xs) (state before) (state (before ++ xs))
  lines_lead before [] h = subst (λ (l : List X). Leads [] (state before) (state l)) (sym (append-nil before)) (stays (state before))
  lines_lead before (x ∷ xs) h =
      let more = before ++ x ∷ [] in
      let size : length before + 1 + 1 ≡ length (before ++ x ∷ []) + 1 = omega (arith, length-append before (x ∷ [])) in
      let rest = lines_lead more xs (subst (λ n. Held n xs) size (later (length before + 1) x xs h)) in
      leads_on (line x) (flat_map line xs) (state before) (state more) (state (before ++ x ∷ xs)) (step before x xs h)
      (subst (λ (l : List X). Leads (flat_map line xs) (state more) (state l)) (append_assoc before (x ∷ []) xs) rest)

-- ---- the first line, and the calls
abbrev pub calls_so : List ReportCall → Draft
calls_so calls = record { part = part.Calls; calls = calls; history = []; heals = []; skips = []; graphs = [] }

head_leads : Leads (codes "report 1\n") nothing_read (calls_so [])
head_leads = words_lead (codes "report 1\n") (codes "report") (codes "1" ∷ []) nothing_read (calls_so []) refl refl (refl, tt) refl

call_leads : (before : List ReportCall) (c : ReportCall) (cs : List ReportCall) → AreCalls (length before + 1) (c ∷ cs) → Leads (call_line c) (calls_so before) (calls_so (before ++ c ∷ []))
call_leads before c cs h =
    words_lead (call_line c) (codes "call") (call_words c) (calls_so before) (calls_so (before ++ c ∷ [])) (call_joined c) refl (call_plain c h.1)
    (ap (with_call (calls_so before)) ((call_law answer_law (length before)).takes c (h.0, h.1)))

calls_lead : (calls : List ReportCall) → AreCalls 1 calls → Leads (flat_map call_line calls) (calls_so []) (calls_so calls)
calls_lead calls h = lines_lead AreCalls (λ n c cs k. k.2) call_line calls_so call_leads [] calls h

-- ---- the history
abbrev pub entries_so : List ReportCall → Part → List (ℕ × ℕ) → Draft
entries_so calls p history = record { part = p; calls = calls; history = history; heals = []; skips = []; graphs = [] }

history_leads : (calls : List ReportCall) (history : List (ℕ × ℕ)) → IsUnit (length history) → Leads (history_line history) (calls_so calls) (entries_so calls (entries_left (length history)) [])
history_leads calls history small =
    words_lead (history_line history) (codes "history") (decimal (length history) ∷ []) (calls_so calls) (entries_so calls (entries_left (length history)) []) (history_joined history) refl (unit_plain (length history) small, tt)
    (ap (with_count (calls_so calls)) (history_law.takes (length history) small))

some_left : (k : ℕ) → entries_left (suc k) ≡ part.Entries (suc k)
some_left k = ap (λ b. cond b part.Heals (part.Entries (suc k))) (ne_eqb (suc k) 0 (λ e. omega (arith, e)))

entry_read_so : (calls : List ReportCall) (before : List (ℕ × ℕ)) (e : ℕ × ℕ) (k : ℕ) → IsUnit (length before + 1) → IsEntry e
    → words_read (entries_so calls (part.Entries (suc k)) before) (codes "entry" ∷ entry_words (length before + 1) e) ≡ Ok (entries_so calls (entries_left k) (before ++ e ∷ []))
entry_read_so calls before e k small h =
    let d : Draft = entries_so calls (part.Entries (suc k)) before in
    let made : ℕ → Result Draft Bad = λ j. Ok (entries_so calls (entries_left j) (before ++ e ∷ [])) in
    let less : suc k - 1 ≡ k = omega arith in
    let read : words_read d (codes "entry" ∷ entry_words (length before + 1) e) ≡ made (suc k - 1) = ap (with_entry d (suc k)) ((entry_law (length before) small).takes e h) in
    read ∙ ap made less

entry_leads : (calls : List ReportCall) (before : List (ℕ × ℕ)) (e : ℕ × ℕ) (k : ℕ) → IsUnit (length before + 1) → IsEntry e
    → Leads (entry_line (length before + 1) e) (entries_so calls (entries_left (suc k)) before) (entries_so calls (entries_left k) (before ++ e ∷ []))
entry_leads calls before e k small h =
    let next : Draft = entries_so calls (entries_left k) (before ++ e ∷ []) in
    subst (λ (p : Part). Leads (entry_line (length before + 1) e) (entries_so calls p before) next) (sym (some_left k))
    (words_lead (entry_line (length before + 1) e) (codes "entry") (entry_words (length before + 1) e) (entries_so calls (part.Entries (suc k)) before) next (entry_joined (length before + 1) e) refl
    (entry_plain (length before + 1) e small h) (entry_read_so calls before e k small h))

entries_lead : (calls : List ReportCall) (before es : List (ℕ × ℕ)) → IsUnit (length before + length es) → Each IsEntry es
    → Leads (entry_lines (length before + 1) es) (entries_so calls (entries_left (length es)) before) (entries_so calls part.Heals (before ++ es))
entries_lead calls before [] small h = subst (λ (l : List (ℕ × ℕ)). Leads [] (entries_so calls part.Heals before) (entries_so calls part.Heals l)) (sym (append-nil before)) (stays (entries_so calls part.Heals before))
entries_lead calls before (e ∷ es) small h =
    let more = before ++ e ∷ [] in
    let left = entries_left (length es) in
    let size : length (before ++ e ∷ []) + 1 ≡ length before + 1 + 1 = omega (arith, length-append before (e ∷ [])) in
    let fits : IsUnit (length (before ++ e ∷ []) + length es) = omega (arith, length-append before (e ∷ []), small) in
    let rest = entries_lead calls more es fits h.1 in
    let placed = subst (λ n. Leads (entry_lines n es) (entries_so calls left more) (entries_so calls part.Heals (more ++ es))) size rest in
    let whole = subst (λ (l : List (ℕ × ℕ)). Leads (entry_lines (length before + 1 + 1) es) (entries_so calls left more) (entries_so calls part.Heals l)) (append_assoc before (e ∷ []) es) placed in
    leads_on (entry_line (length before + 1) e) (entry_lines (length before + 1 + 1) es) (entries_so calls (entries_left (suc (length es))) before) (entries_so calls left more) (entries_so calls part.Heals (before ++ e ∷ es))
    (entry_leads calls before e (length es) (omega (arith, small)) h.0) whole

-- ---- the lines behind the history
abbrev pub late_so : Report → Part → List (Cell × List ℕ × List ℕ) → List (Cell × SkipCause) → List ReportGraph → Draft
late_so r p heals skips graphs = record { part = p; calls = r.calls; history = r.history; heals = heals; skips = skips; graphs = graphs }

heal_leads : (r : Report) (before : List (Cell × List ℕ × List ℕ)) (k : Cell × List ℕ × List ℕ) (ks : List (Cell × List ℕ × List ℕ)) → Each IsHeal (k ∷ ks)
    → Leads (heal_line k) (late_so r part.Heals before [] []) (late_so r part.Heals (before ++ k ∷ []) [] [])
heal_leads r before k ks h =
    words_lead (heal_line k) (codes "heal") (heal_words k) (late_so r part.Heals before [] []) (late_so r part.Heals (before ++ k ∷ []) [] []) (heal_joined k) refl (heal_plain k h.0)
    (ap (with_heal (late_so r part.Heals before [] [])) (heal_law.takes k h.0))

heals_lead : (r : Report) → Each IsHeal r.heals → Leads (flat_map heal_line r.heals) (late_so r part.Heals [] [] []) (late_so r part.Heals r.heals [] [])
heals_lead r h = lines_lead (λ n ks. Each IsHeal ks) (λ n k ks l. l.1) heal_line (λ before. late_so r part.Heals before [] []) (heal_leads r) [] r.heals h

-- the part behind copies and so many skips, and behind graphs
abbrev pub skips_part : List (Cell × SkipCause) → Part
skips_part [] = part.Heals
skips_part (k ∷ ks) = part.Skips

abbrev pub graphs_part : Part → List ReportGraph → Part
graphs_part p [] = p
graphs_part p (g ∷ gs) = part.Graphs

abbrev pub is_late : Part → Bool
is_late part.Head = false
is_late part.Calls = false
is_late (part.Entries count) = false
is_late part.Heals = true
is_late part.Skips = true
is_late part.Graphs = true
is_late part.Done = false

reads_late : (p : Part) (d : Draft) (ws : List (List ℕ)) → is_late p ≡ true → words_read_by p d ws ≡ late_read d ws
reads_late part.Head d ws h = absurd cc
reads_late part.Calls d ws h = absurd cc
reads_late (part.Entries count) d ws h = absurd cc
reads_late part.Heals d ws h = refl
reads_late part.Skips d ws h = refl
reads_late part.Graphs d ws h = refl
reads_late part.Done d ws h = absurd cc

skips_late : (ks : List (Cell × SkipCause)) → is_late (skips_part ks) ≡ true
skips_late [] = refl
skips_late (k ∷ ks) = refl

skips_may : (ks : List (Cell × SkipCause)) → may_skip (skips_part ks) ≡ true
skips_may [] = refl
skips_may (k ∷ ks) = refl

skips_more : (ks : List (Cell × SkipCause)) (k : Cell × SkipCause) → part.Skips ≡ skips_part (ks ++ k ∷ [])
skips_more [] k = refl
skips_more (x ∷ xs) k = refl

graphs_late : (p : Part) (gs : List ReportGraph) → is_late p ≡ true → is_late (graphs_part p gs) ≡ true
graphs_late p [] h = h
graphs_late p (g ∷ gs) h = refl

graphs_more : (p : Part) (gs : List ReportGraph) (g : ReportGraph) → part.Graphs ≡ graphs_part p (gs ++ g ∷ [])
graphs_more p [] g = refl
graphs_more p (x ∷ xs) g = refl

abbrev pub skips_so : Report → List (Cell × SkipCause) → Draft
skips_so r ks = late_so r (skips_part ks) r.heals ks []

skip_leads : (r : Report) (before : List (Cell × SkipCause)) (k : Cell × SkipCause) (ks : List (Cell × SkipCause)) → Each IsSkip (k ∷ ks) → Leads (skip_line k) (skips_so r before) (skips_so r (before ++ k ∷ []))
skip_leads r before k ks h =
    let d : Draft = skips_so r before in
    let ws = skip_words k in
    let made : Part → Result Draft Bad = λ p. Ok (late_so r p r.heals (before ++ k ∷ []) []) in
    let late : words_read d (codes "skip" ∷ ws) ≡ skip_read d ws = reads_late (skips_part before) d (codes "skip" ∷ ws) (skips_late before) in
    let may : skip_read d ws ≡ with_skip d (skip_of ws) = ap (λ b. cond b (with_skip d (skip_of ws)) (Err Line)) (skips_may before) in
    let read : with_skip d (skip_of ws) ≡ made part.Skips = ap (with_skip d) (skip_law.takes k h.0) in
    let next : made part.Skips ≡ made (skips_part (before ++ k ∷ [])) = ap made (skips_more before k) in
    words_lead (skip_line k) (codes "skip") ws d (skips_so r (before ++ k ∷ [])) (skip_joined k) refl (skip_plain k h.0) (late ∙ may ∙ read ∙ next)

skips_lead : (r : Report) → Each IsSkip r.skips → Leads (flat_map skip_line r.skips) (late_so r part.Heals r.heals [] []) (skips_so r r.skips)
skips_lead r h = lines_lead (λ n ks. Each IsSkip ks) (λ n k ks l. l.1) skip_line (skips_so r) (skip_leads r) [] r.skips h

abbrev pub graphs_so : Report → List ReportGraph → Draft
graphs_so r gs = late_so r (graphs_part (skips_part r.skips) gs) r.heals r.skips gs

graph_leads : (r : Report) (before : List ReportGraph) (g : ReportGraph) (gs : List ReportGraph) → AreGraphs (length before + 1) (g ∷ gs) → Leads (graph_line g) (graphs_so r before) (graphs_so r (before ++ g ∷ []))
graph_leads r before g gs h =
    let d : Draft = graphs_so r before in
    let p = skips_part r.skips in
    let ws = graph_words g in
    let made : Part → Result Draft Bad = λ q. Ok (late_so r q r.heals r.skips (before ++ g ∷ [])) in
    let late : words_read d (codes "graph" ∷ ws) ≡ with_graph d (graph_of (length before) ws) = reads_late (graphs_part p before) d (codes "graph" ∷ ws) (graphs_late p before (skips_late r.skips)) in
    let read : with_graph d (graph_of (length before) ws) ≡ made part.Graphs = ap (with_graph d) ((graph_law (length before)).takes g (h.0, h.1)) in
    let next : made part.Graphs ≡ made (graphs_part p (before ++ g ∷ [])) = ap made (graphs_more p before g) in
    words_lead (graph_line g) (codes "graph") ws d (graphs_so r (before ++ g ∷ [])) (graph_joined g) refl (graph_plain g h.1) (late ∙ read ∙ next)

graphs_lead : (r : Report) → AreGraphs 1 r.graphs → Leads (flat_map graph_line r.graphs) (skips_so r r.skips) (graphs_so r r.graphs)
graphs_lead r h = lines_lead AreGraphs (λ n g gs k. k.2) graph_line (graphs_so r) (graph_leads r) [] r.graphs h

end_leads : (r : Report) → Leads (codes "end\n") (graphs_so r r.graphs) (late_so r part.Done r.heals r.skips r.graphs)
end_leads r =
    let d : Draft = graphs_so r r.graphs in
    words_lead (codes "end\n") (codes "end") [] d (late_so r part.Done r.heals r.skips r.graphs) refl refl tt
    (reads_late (graphs_part (skips_part r.skips) r.graphs) d (codes "end" ∷ []) (graphs_late (skips_part r.skips) r.graphs (skips_late r.skips)))

-- ---- the whole text
late_leads : (r : Report) → IsReport r
    → Leads (codes "report 1\n" ++ flat_map call_line r.calls ++ history_line r.history ++ entry_lines 1 r.history) nothing_read (late_so r part.Heals [] [] [])
late_leads r h =
    let first = codes "report 1\n" in
    let calls = flat_map call_line r.calls in
    let count = history_line r.history in
    let counted : Draft = entries_so r.calls (entries_left (length r.history)) [] in
    leads_on (first ++ calls ++ count) (entry_lines 1 r.history) nothing_read counted (late_so r part.Heals [] [] [])
    (leads_on (first ++ calls) count nothing_read (calls_so r.calls) counted
    (leads_on first calls nothing_read (calls_so []) (calls_so r.calls) head_leads (calls_lead r.calls h.calls)) (history_leads r.calls r.history h.count))
    (entries_lead r.calls [] r.history (omega (arith, h.count)) h.history)

text_leads : (r : Report) → IsReport r → Leads (report_text r) nothing_read (late_so r part.Done r.heals r.skips r.graphs)
unfolding report_text
text_leads r h =
    let front = codes "report 1\n" ++ flat_map call_line r.calls ++ history_line r.history ++ entry_lines 1 r.history in
    let heals = flat_map heal_line r.heals in
    let skips = flat_map skip_line r.skips in
    let graphs = flat_map graph_line r.graphs in
    leads_on (front ++ heals ++ skips ++ graphs) (codes "end\n") nothing_read (graphs_so r r.graphs) (late_so r part.Done r.heals r.skips r.graphs)
    (leads_on (front ++ heals ++ skips) graphs nothing_read (skips_so r r.skips) (graphs_so r r.graphs)
    (leads_on (front ++ heals) skips nothing_read (late_so r part.Heals r.heals [] []) (skips_so r r.skips)
    (leads_on front heals nothing_read (late_so r part.Heals [] [] []) (late_so r part.Heals r.heals [] []) (late_leads r h) (heals_lead r h.heals)) (skips_lead r h.skips)) (graphs_lead r h.graphs))
    (end_leads r)

pub read_of_print : (r : Report) → IsReport r → lines_read (lines_in (report_text r)) nothing_read 0 ≡ Ok r
read_of_print r h =
    let p = text_leads r h [] 0 in
    ap (λ (t : List ℕ). lines_read (lines_in t) nothing_read 0) (sym (append-nil (report_text r))) ∙ p.1
