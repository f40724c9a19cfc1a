-- Drafts that grow by one line: each list keeps its form, and the text is one line longer.
use Rattle.std.proofs.Common.{◌≡◌, ℕ, ◌+◌, ◌-◌, ◌≤◌, List, [], ◌∷◌, ◌++◌, append_assoc, append-nil, length, length-append, codes, flat_map, refl, sym, ap, subst, ◌∙◌, arith, add-zero}
use Rattle.fop_types.specs.Bounds.{Each}
use Rattle.fop_types.specs.declared.cells.Cell.{Cell}
use Rattle.fop_types.specs.declared.causes.SkipCause.{SkipCause}
use Rattle.report_text.specs.ReportText.{call_line, entry_line, entry_lines, heal_line, skip_line, graph_line}
use Rattle.report_text.specs.declared.calls.ReportCall.{ReportCall}
use Rattle.report_text.specs.declared.graphs.ReportGraph.{ReportGraph}
use Rattle.report_text.proofs.Entries.{entry_lines_push}
use Rattle.report_reader.specs.Reports.{AreCalls, IsCall, AreGraphs, IsGraph}
use Rattle.report_reader.specs.declared.drafts.Draft.{Draft}
use Rattle.report_reader.proofs.DraftLaws.{calls_text, count_text, entries_text, late_text, grouped}

pub flat_push : {A : Type 0} (f : A → List ℕ) (xs : List A) (x : A) → flat_map f (xs ++ x ∷ []) ≡ flat_map f xs ++ f x
flat_push f [] x = append-nil (f x)
flat_push f (y ∷ ys) x = ap (λ l. f y ++ l) (flat_push f ys x) ∙ sym (append_assoc (f y) (flat_map f ys) (f x))

pub calls_push : (n : ℕ) (calls : List ReportCall) (c : ReportCall) → AreCalls n calls → c.call ≡ n + length calls → IsCall c → AreCalls n (calls ++ c ∷ [])
calls_push n [] c h is k = (is ∙ add-zero n, k, tt)
calls_push n (x ∷ xs) c h is k = let place : n + length (x ∷ xs) ≡ n + 1 + length xs = omega arith in (h.0, h.1, calls_push (n + 1) xs c h.2 (is ∙ place) k)

pub graphs_push : (n : ℕ) (graphs : List ReportGraph) (g : ReportGraph) → AreGraphs n graphs → g.graph ≡ n + length graphs → IsGraph g → AreGraphs n (graphs ++ g ∷ [])
graphs_push n [] g h is k = (is ∙ add-zero n, k, tt)
graphs_push n (x ∷ xs) g h is k = let place : n + length (x ∷ xs) ≡ n + 1 + length xs = omega arith in (h.0, h.1, graphs_push (n + 1) xs g h.2 (is ∙ place) k)

pub each_push : {A : Type 0} (P : A → Type 0) (xs : List A) (x : A) → Each P xs → P x → Each P (xs ++ x ∷ [])
each_push P [] x h k = (k, tt)
each_push P (y ∷ ys) x h k = (h.0, each_push P ys x h.1 k)

-- ---- texts of drafts
pub after_call : (d : Draft) (c : ReportCall) → calls_text (record d { calls = d.calls ++ c ∷ [] }) ≡ calls_text d ++ call_line c
after_call d c = ap (λ l. codes "report 1\n" ++ l) (flat_push call_line d.calls c) ∙ sym (append_assoc (codes "report 1\n") (flat_map call_line d.calls) (call_line c))

pub after_count : (d : Draft) (n : ℕ) → d.history ≡ [] → entries_text n d ≡ calls_text d ++ count_text n
after_count d n none =
    let size : length d.history + n ≡ n = omega (arith, ap length none) in
    ap (λ (m : ℕ). calls_text d ++ (count_text m ++ entry_lines 1 d.history)) size ∙ ap (λ (es : List (ℕ × ℕ)). calls_text d ++ (count_text n ++ entry_lines 1 es)) none
    ∙ ap (λ (l : List ℕ). calls_text d ++ l) (append-nil (count_text n))

pub after_entry : (d : Draft) (k : ℕ) (e : ℕ × ℕ) → 1 ≤ k → entries_text (k - 1) (record d { history = d.history ++ e ∷ [] }) ≡ entries_text k d ++ entry_line (length d.history + 1) e
after_entry d k e some =
    let size : length (d.history ++ e ∷ []) + (k - 1) ≡ length d.history + k = omega (arith, length-append d.history (e ∷ []), some) in
    let place : 1 + length d.history ≡ length d.history + 1 = omega arith in
    ap (λ (m : ℕ). calls_text d ++ (count_text m ++ entry_lines 1 (d.history ++ e ∷ []))) size
    ∙ ap (λ (l : List ℕ). calls_text d ++ (count_text (length d.history + k) ++ l)) (entry_lines_push 1 d.history e ∙ ap (λ (m : ℕ). entry_lines 1 d.history ++ entry_line m e) place)
    ∙ grouped (calls_text d) (count_text (length d.history + k)) (entry_lines 1 d.history) (entry_line (length d.history + 1) e)

-- a text that grows before one that is empty, or at its end
rest_group : (f h l t : List ℕ) → t ≡ [] → f ++ ((h ++ l) ++ t) ≡ (f ++ (h ++ t)) ++ l
rest_group f h l t none = subst (λ (u : List ℕ). f ++ ((h ++ l) ++ u) ≡ (f ++ (h ++ u)) ++ l) (sym none) (ap (λ (u : List ℕ). f ++ u) (append-nil (h ++ l)) ∙ sym (append_assoc f h l) ∙ ap (λ (u : List ℕ). (f ++ u) ++ l) (sym (append-nil h)))

skip_group : (f h s l g : List ℕ) → g ≡ [] → f ++ (h ++ ((s ++ l) ++ g)) ≡ (f ++ (h ++ (s ++ g))) ++ l
skip_group f h s l g none = sym (append_assoc f h ((s ++ l) ++ g)) ∙ rest_group (f ++ h) s l g none ∙ ap (λ (u : List ℕ). u ++ l) (append_assoc f h (s ++ g))

graph_group : (f h s g l : List ℕ) → f ++ (h ++ (s ++ (g ++ l))) ≡ (f ++ (h ++ (s ++ g))) ++ l
graph_group f h s g l = simp append_assoc refl

pub after_heal : (d : Draft) (h : Cell × List ℕ × List ℕ) → d.skips ≡ [] → d.graphs ≡ [] → late_text (record d { heals = d.heals ++ h ∷ [] }) ≡ late_text d ++ heal_line h
after_heal d h no_skips no_graphs =
    let front = entries_text 0 d in
    let none : flat_map skip_line d.skips ++ flat_map graph_line d.graphs ≡ [] = λ i. flat_map skip_line (no_skips i) ++ flat_map graph_line (no_graphs i) in
    ap (λ (l : List ℕ). front ++ (l ++ (flat_map skip_line d.skips ++ flat_map graph_line d.graphs))) (flat_push heal_line d.heals h)
    ∙ rest_group front (flat_map heal_line d.heals) (heal_line h) (flat_map skip_line d.skips ++ flat_map graph_line d.graphs) none

pub after_skip : (d : Draft) (s : Cell × SkipCause) → d.graphs ≡ [] → late_text (record d { skips = d.skips ++ s ∷ [] }) ≡ late_text d ++ skip_line s
after_skip d s no_graphs =
    let front = entries_text 0 d in
    ap (λ (l : List ℕ). front ++ (flat_map heal_line d.heals ++ (l ++ flat_map graph_line d.graphs))) (flat_push skip_line d.skips s)
    ∙ skip_group front (flat_map heal_line d.heals) (flat_map skip_line d.skips) (skip_line s) (flat_map graph_line d.graphs) (ap (flat_map graph_line) no_graphs)

pub after_graph : (d : Draft) (g : ReportGraph) → late_text (record d { graphs = d.graphs ++ g ∷ [] }) ≡ late_text d ++ graph_line g
after_graph d g =
    let front = entries_text 0 d in
    ap (λ (l : List ℕ). front ++ (flat_map heal_line d.heals ++ (flat_map skip_line d.skips ++ l))) (flat_push graph_line d.graphs g)
    ∙ graph_group front (flat_map heal_line d.heals) (flat_map skip_line d.skips) (flat_map graph_line d.graphs) (graph_line g)
