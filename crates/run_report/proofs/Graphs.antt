-- The lines of graphs, with one more.
use Rattle.std.proofs.Common.{◌≡◌, refl, sym, ap, subst, ◌∙◌, arith, get_or, cond}
use Rattle.std.specs.Prelude.{ℕ, ◌<◌, ◌≤◌, ◌+◌, ◌==◌, ◌&&◌, not, Bool, true, false, List, [], ◌∷◌, ◌++◌, Some, length, drop, slice_get, count_by}
use Rattle.std.proofs.lemmas.List.{at_drop_more}
use Rattle.std.proofs.lemmas.List.Sums.{sum_by-cons}
use Rattle.report_text.specs.declared.graphs.ReportGraph.{ReportGraph}
use Rattle.script_lang.specs.declared.scripts.Script.{Script}
use Rattle.mount_log.specs.declared.logs.WindLine.{WindLine}
use Rattle.run_report.specs.Reports.{is_opening_in, is_end_in, shown_graph, shown_graphs, name_of_volfile, AreFewWinds}
use Rattle.run_report.specs.Counting.{AreCountsOf}
use Rattle.run_report.specs.declared.graph_lines.Winds.{Winds}

one : (a b : Bool) → (a ≡ true → b ≡ true) → cond a 1 0 ≤ cond b 1 0
one true true h = omega arith
one true false h = absurd (let e : false ≡ true = h refl in cc)
one false true h = omega arith
one false false h = omega arith

module _ {X : Type 0} where
  fewer : (p q : X → Bool) → ((x : X) → p x ≡ true → q x ≡ true) → (xs : List X) → count_by p xs ≤ count_by q xs
  fewer p q h [] = omega arith
  fewer p q h (x ∷ xs) =
      let ih = fewer p q h xs in let a = sum_by-cons (λ y. cond (p y) 1 0) x xs in let b = sum_by-cons (λ y. cond (q y) 1 0) x xs in
      let c = one (p x) (q x) (h x) in omega (arith, ih, a, b, c)

  joined : (xs : List X) (x : X) (rest : List X) → (xs ++ x ∷ []) ++ rest ≡ xs ++ x ∷ rest
  joined [] x rest = refl
  joined (y ∷ xs) x rest = ap (λ l. y ∷ l) (joined xs x rest)

second : (a b : Bool) → (a && b) ≡ true → b ≡ true
second true b e = e
second false b e = absurd cc

-- no graph has more winds than all have
pub few_winds : (winds : List WindLine) (graphs : ℕ) (counts : List Winds) (at : ℕ) (d : Winds) → AreFewWinds winds → AreCountsOf graphs winds counts → at < length counts → d ≡ get_or counts at d
    → (d.opened < 4294967296) × (d.ended < 4294967296)
few_winds winds graphs counts at d few a lt own =
    let o = ap (λ (w : Winds). w.opened) own ∙ a.opened at d lt in let e = ap (λ (w : Winds). w.ended) own ∙ a.ended at d lt in let f = few.opened in let g = few.ended in
    let p = fewer (is_opening_in (at + 1)) (λ (line : WindLine). line.opened) (λ line h. second (line.graph == at + 1) line.opened h) winds in
    let q = fewer (is_end_in (at + 1)) (λ (line : WindLine). not line.opened) (λ line h. second (line.graph == at + 1) (not line.opened) h) winds in
    (omega (arith, o, f, p), omega (arith, e, g, q))

-- the line of the next graph
pub next_line : (script : Script) (winds : List WindLine) (volfiles : List ℕ) (counts : List Winds) (at : ℕ) (d : Winds) (so_far : List ReportGraph) (g : ReportGraph) (all : List ReportGraph)
    → AreCountsOf (length volfiles) winds counts → at < length volfiles
    → g ≡ record { graph = at + 1; name = name_of_volfile (slice_get script.volfiles (get_or volfiles at 0)); opened = d.opened; ended = d.ended } → d ≡ get_or counts at d
    → so_far ++ shown_graphs script winds (at + 1) (drop at volfiles) ≡ all
    → (so_far ++ g ∷ []) ++ shown_graphs script winds (at + 1 + 1) (drop (at + 1) volfiles) ≡ all
next_line script winds volfiles counts at d so_far g all a lt is own inv =
    let rest = shown_graphs script winds (at + 1 + 1) (drop (at + 1) volfiles) in
    let there : at < length counts = subst (λ (n : ℕ). at < n) (sym a.long) lt in
    let made : ℕ → ℕ → ReportGraph = λ o e. record { graph = at + 1; name = name_of_volfile (slice_get script.volfiles (get_or volfiles at 0)); opened = o; ended = e } in
    let shown : g ≡ shown_graph script winds (at + 1) (get_or volfiles at 0) =
    is ∙ ap (λ (o : ℕ). made o d.ended) (ap (λ (w : Winds). w.opened) own ∙ a.opened at d there) ∙ ap (λ (e : ℕ). made (count_by (is_opening_in (at + 1)) winds) e) (ap (λ (w : Winds). w.ended) own ∙ a.ended at d there) in
    joined so_far g rest ∙ ap (λ (x : ReportGraph). so_far ++ x ∷ rest) shown
    ∙ ap (λ (l : List ReportGraph). so_far ++ l) (sym (at_drop_more (λ (vs : List ℕ). shown_graphs script winds (at + 1) vs) volfiles at 0 lt)) ∙ inv
