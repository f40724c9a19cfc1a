-- One line more: what a line does to a draft.
use Rattle.std.proofs.Common.{◌≡◌, ℕ, ◌+◌, ◌-◌, ◌==◌, Bool, true, false, cond, List, [], ◌∷◌, ◌++◌, append_assoc, append-nil, length, length-append, codes, flat_map, decimal, Result, Ok, Err, refl, sym, ap, subst, ◌∙◌, arith, eqb-true, eq-eqb}
use Rattle.fop_types.specs.Bounds.{IsUnit}
use Rattle.volfile.specs.TextLines.{is_text}
use Rattle.volfile.proofs.Places.{same_word}
use Rattle.fop_types.specs.declared.cells.Cell.{Cell}
use Rattle.fop_types.specs.declared.causes.SkipCause.{SkipCause}
use Rattle.report_text.specs.ReportText.{call_line}
use Rattle.report_text.specs.declared.calls.ReportCall.{ReportCall}
use Rattle.report_text.specs.declared.graphs.ReportGraph.{ReportGraph}
use Rattle.report_reader.specs.Reports.{IsEntry, IsHeal, IsSkip}
use Rattle.report_reader.specs.declared.bad.Bad.{Bad}
use Rattle.report_reader.specs.declared.bad.Bad.TheVariants.{Line}
use Rattle.report_reader.specs.declared.drafts.Part.{Part}
use Rattle.report_reader.specs.declared.drafts.Part.TheVariants as part
use Rattle.report_reader.specs.declared.drafts.Draft.{Draft}
use Rattle.report_reader.specs.code.Readers.{ended, parts_at}
use Rattle.report_reader.specs.code.LineForms.{call_of, history_of, entry_of, heal_of, skip_of, graph_of, entries_left, may_heal, may_skip, head_read, call_read, entry_read, heal_read, skip_read, late_read, with_call, with_count, with_entry, with_heal, with_skip, with_graph, line_read, words_read_by, words_read}
use Rattle.report_reader.proofs.Joins.{text_of, text_whole, text_end}
use Rattle.report_reader.proofs.Laws.{not_ok, ok_is, behind_all, behind_again, ended_law}
use Rattle.report_reader.proofs.LineWords.{line_of, call_joined, entry_joined, heal_joined, skip_joined, graph_joined}
use Rattle.report_reader.proofs.LineLaws.{call_law, history_law, entry_law, heal_law, skip_law, graph_law}
use Rattle.report_reader.proofs.AnswerLaws.{answer_law}
use Rattle.report_reader.proofs.DraftLaws.{to_come, HasOnly, IsDraft, calls_text, count_text, entries_text, late_text, front_by, front_text}
use Rattle.report_reader.proofs.Pushes.{calls_push, graphs_push, each_push, after_call, after_count, after_entry, after_heal, after_skip, after_graph}

-- the draft after a line is one of which these hold
abbrev pub GoesOn : Part → Draft → Draft → List (List ℕ) → Type 0
GoesOn p d e ws = IsDraft e × (front_text e ≡ front_by p d ++ text_of 32 ws (10 ∷ []))

-- ---- a call
call_goes_on : (d : Draft) (us : List (List ℕ)) (c : ReportCall) → d.part ≡ part.Calls → IsDraft d → call_of (length d.calls) us ≡ Ok c
    → GoesOn part.Calls d (record d { calls = d.calls ++ c ∷ [] }) (codes "call" ∷ us)
call_goes_on d us c is h was =
    let e : Draft = record d { calls = d.calls ++ c ∷ [] } in
    let g = (call_law answer_law (length d.calls)).again us c was in
    let place : length d.calls + 1 ≡ 1 + length d.calls = omega arith in
    let only : HasOnly part.Calls e = subst (λ (p : Part). HasOnly p d) is h.only in (
      record {
        calls = calls_push 1 d.calls c h.calls (g.0.0 ∙ place) g.0.1;
        count = h.count;
        history = h.history;
        heals = h.heals;
        skips = h.skips;
        graphs = h.graphs;
        only = subst (λ (p : Part). HasOnly p e) (sym is) only;
      },
      ap (λ (p : Part). front_by p e) is ∙ after_call d c ∙ ap (λ (l : List ℕ). calls_text d ++ l) (call_joined c)
          ∙ ap (λ (vs : List (List ℕ)). calls_text d ++ line_of (codes "call") vs) (sym g.1),
    )

call_steps : (d e : Draft) (us : List (List ℕ)) (r : Result ReportCall Bad) → d.part ≡ part.Calls → IsDraft d → call_of (length d.calls) us ≡ r → with_call d r ≡ Ok e → GoesOn part.Calls d e (codes "call" ∷ us)
call_steps d e us (Err bad) is h was made = absurd (not_ok bad e made)
call_steps d e us (Ok c) is h was made = subst (λ (x : Draft). GoesOn part.Calls d x (codes "call" ∷ us)) (ok_is (record d { calls = d.calls ++ c ∷ [] }) e made) (call_goes_on d us c is h was)

-- ---- a copy
heal_goes_on : (d : Draft) (us : List (List ℕ)) (k : Cell × List ℕ × List ℕ) → d.part ≡ part.Heals → IsDraft d → heal_of us ≡ Ok k
    → GoesOn part.Heals d (record d { heals = d.heals ++ k ∷ [] }) (codes "heal" ∷ us)
heal_goes_on d us k is h was =
    let e : Draft = record d { heals = d.heals ++ k ∷ [] } in
    let g = heal_law.again us k was in
    let only : HasOnly part.Heals e = subst (λ (p : Part). HasOnly p d) is h.only in (
      record {
        calls = h.calls;
        count = h.count;
        history = h.history;
        heals = each_push IsHeal d.heals k h.heals g.0;
        skips = h.skips;
        graphs = h.graphs;
        only = subst (λ (p : Part). HasOnly p e) (sym is) only;
      },
      ap (λ (p : Part). front_by p e) is ∙ after_heal d k only.0 only.1 ∙ ap (λ (l : List ℕ). late_text d ++ l) (heal_joined k)
          ∙ ap (λ (vs : List (List ℕ)). late_text d ++ line_of (codes "heal") vs) (sym g.1),
    )

heal_steps : (d e : Draft) (us : List (List ℕ)) (r : Result (Cell × List ℕ × List ℕ) Bad) → d.part ≡ part.Heals → IsDraft d → heal_of us ≡ r → with_heal d r ≡ Ok e → GoesOn part.Heals d e (codes "heal" ∷ us)
heal_steps d e us (Err bad) is h was made = absurd (not_ok bad e made)
heal_steps d e us (Ok k) is h was made = subst (λ (x : Draft). GoesOn part.Heals d x (codes "heal" ∷ us)) (ok_is (record d { heals = d.heals ++ k ∷ [] }) e made) (heal_goes_on d us k is h was)

-- ---- the first line
head_goes_on : (d e : Draft) (ws : List (List ℕ)) → d.part ≡ part.Head → IsDraft d → head_read d ws ≡ Ok e → GoesOn part.Head d e ws
head_goes_on d e ws is h was =
    let v : Draft = record d { part = part.Calls } in
    let g = (behind_all (codes "report") (behind_all (codes "1") (ended_law v (λ y. y ≡ v) refl (λ y k. k)))).again ws e was in
    let only : HasOnly part.Head d = subst (λ (p : Part). HasOnly p d) is h.only in
    let count : IsUnit (length d.history + 0) = subst (λ (p : Part). IsUnit (length d.history + to_come p)) is h.count in
    let draft : IsDraft v = record { calls = h.calls; count = count; history = h.history; heals = h.heals; skips = h.skips; graphs = h.graphs; only = (only.1, only.2, only.3, only.4) } in (
      subst IsDraft (sym g.0.1) draft,
      ap front_text g.0.1 ∙ ap (λ (cs : List ReportCall). codes "report 1\n" ++ flat_map call_line cs) only.0 ∙ ap (λ (us : List (List ℕ)). text_of 32 us (10 ∷ [])) (sym g.1),
    )

-- ---- the last line
end_goes_on : (d e : Draft) (us : List (List ℕ)) → IsDraft d → to_come d.part ≡ 0 → ended (record d { part = part.Done }) us ≡ Ok e → IsDraft e × (front_text e ≡ late_text d ++ text_of 32 (codes "end" ∷ us) (10 ∷ []))
end_goes_on d e us h none was =
    let v : Draft = record d { part = part.Done } in
    let g = (ended_law v (λ y. y ≡ v) refl (λ y k. k)).again us e was in
    let draft : IsDraft v = record { calls = h.calls; count = subst (λ n. IsUnit (length d.history + n)) none h.count; history = h.history; heals = h.heals; skips = h.skips; graphs = h.graphs; only = tt } in (
      subst IsDraft (sym g.0.1) draft,
      ap front_text g.0.1 ∙ ap (λ (vs : List (List ℕ)). late_text d ++ text_of 32 (codes "end" ∷ vs) (10 ∷ [])) (sym g.1),
    )

-- ---- a skip
skip_goes_on : (d : Draft) (us : List (List ℕ)) (k : Cell × SkipCause) → d.graphs ≡ [] → to_come d.part ≡ 0 → IsDraft d → skip_of us ≡ Ok k
    → IsDraft (record d { part = part.Skips; skips = d.skips ++ k ∷ [] }) × (late_text (record d { part = part.Skips; skips = d.skips ++ k ∷ [] }) ≡ late_text d ++ text_of 32 (codes "skip" ∷ us) (10 ∷ []))
skip_goes_on d us k no_graphs none h was =
    let g = skip_law.again us k was in (
      record { calls = h.calls; count = subst (λ n. IsUnit (length d.history + n)) none h.count; history = h.history; heals = h.heals; skips = each_push IsSkip d.skips k h.skips g.0; graphs = h.graphs; only = no_graphs },
      after_skip d k no_graphs ∙ ap (λ (l : List ℕ). late_text d ++ l) (skip_joined k) ∙ ap (λ (vs : List (List ℕ)). late_text d ++ line_of (codes "skip") vs) (sym g.1),
    )

-- ---- a graph
graph_goes_on : (d : Draft) (us : List (List ℕ)) (k : ReportGraph) → to_come d.part ≡ 0 → IsDraft d → graph_of (length d.graphs) us ≡ Ok k
    → IsDraft (record d { part = part.Graphs; graphs = d.graphs ++ k ∷ [] }) × (late_text (record d { part = part.Graphs; graphs = d.graphs ++ k ∷ [] }) ≡ late_text d ++ text_of 32 (codes "graph" ∷ us) (10 ∷ []))
graph_goes_on d us k none h was =
    let g = (graph_law (length d.graphs)).again us k was in
    let place : length d.graphs + 1 ≡ 1 + length d.graphs = omega arith in (
      record { calls = h.calls; count = subst (λ n. IsUnit (length d.history + n)) none h.count; history = h.history; heals = h.heals; skips = h.skips; graphs = graphs_push 1 d.graphs k h.graphs (g.0.0 ∙ place) g.0.1; only = tt },
      after_graph d k ∙ ap (λ (l : List ℕ). late_text d ++ l) (graph_joined k) ∙ ap (λ (vs : List (List ℕ)). late_text d ++ line_of (codes "graph") vs) (sym g.1),
    )

-- ---- the count, and the entries
-- so many entries are still to come
pub record IsLeft (p : Part) (count : ℕ) (d : Draft) : Type 0 where
  pub left : to_come p ≡ count
  pub only : HasOnly p d
  pub front : front_by p d ≡ entries_text count d

entries_are_left : (count : ℕ) (d : Draft) → d.heals ≡ [] → d.skips ≡ [] → d.graphs ≡ [] → IsLeft (entries_left count) count d
entries_are_left count d no_heals no_skips no_graphs = by (count == 0) refl
  where
    by : (b : Bool) → (count == 0) ≡ b → IsLeft (cond b part.Heals (part.Entries count)) count d
    by true is =
        let none : 0 ≡ count = sym (eqb-true count 0 is) in
        record { left = none; only = (no_skips, no_graphs); front = rw no_heals (rw no_skips (rw no_graphs (append-nil (entries_text 0 d)))) ∙ ap (λ n. entries_text n d) none }
    by false is = record { left = refl; only = (omega (arith, zero_test is), no_heals, no_skips, no_graphs); front = refl }
      where
        apart : ◌≡◌ {A = Bool} true false → ⊥
        apart e = absurd cc

        zero_test : (count == 0) ≡ false → count ≡ 0 → ⊥
        zero_test is z = apart (sym (eq-eqb count 0 z) ∙ is)

count_joined : (n : ℕ) → count_text n ≡ line_of (codes "history") (decimal n ∷ [])
count_joined n = simp append_assoc refl

count_goes_on : (d : Draft) (us : List (List ℕ)) (n : ℕ) → d.part ≡ part.Calls → IsDraft d → history_of us ≡ Ok n → GoesOn part.Calls d (record d { part = entries_left n }) (codes "history" ∷ us)
count_goes_on d us n is h was =
    let g = history_law.again us n was in
    let only : HasOnly part.Calls d = subst (λ (p : Part). HasOnly p d) is h.only in
    let e : Draft = record d { part = entries_left n } in
    let l = entries_are_left n e only.1 only.2 only.3 in
    let size : length d.history + to_come (entries_left n) ≡ n = omega (arith, ap length only.0, l.left) in (
      record { calls = h.calls; count = subst IsUnit (sym size) g.0; history = h.history; heals = h.heals; skips = h.skips; graphs = h.graphs; only = l.only },
      l.front ∙ after_count d n only.0 ∙ ap (λ (t : List ℕ). calls_text d ++ t) (count_joined n) ∙ ap (λ (vs : List (List ℕ)). calls_text d ++ line_of (codes "history") vs) (sym g.1),
    )

entry_goes_on : (d : Draft) (us : List (List ℕ)) (k : ℕ) (x : ℕ × ℕ) → d.part ≡ part.Entries k → IsDraft d → entry_of (length d.history) us ≡ Ok x
    → GoesOn (part.Entries k) d (record d { part = entries_left (k - 1); history = d.history ++ x ∷ [] }) (codes "entry" ∷ us)
entry_goes_on d us k x is h was =
    let only : HasOnly (part.Entries k) d = subst (λ (p : Part). HasOnly p d) is h.only in
    let room : IsUnit (length d.history + k) = subst (λ (p : Part). IsUnit (length d.history + to_come p)) is h.count in
    let g = (entry_law (length d.history) (omega (arith, room, only.0))).again us x was in
    let e : Draft = record d { part = entries_left (k - 1); history = d.history ++ x ∷ [] } in
    let l = entries_are_left (k - 1) e only.1 only.2 only.3 in
    let size : length (d.history ++ x ∷ []) + to_come (entries_left (k - 1)) ≡ length d.history + k = omega (arith, length-append d.history (x ∷ []), l.left, only.0) in (
      record { calls = h.calls; count = subst IsUnit (sym size) room; history = each_push IsEntry d.history x h.history g.0; heals = h.heals; skips = h.skips; graphs = h.graphs; only = l.only },
      l.front ∙ after_entry d k x only.0 ∙ ap (λ (t : List ℕ). entries_text k d ++ t) (entry_joined (length d.history + 1) x)
          ∙ ap (λ (vs : List (List ℕ)). entries_text k d ++ line_of (codes "entry") vs) (sym g.1),
    )

-- ---- the choice by the draft's part and the first word
-- what goes on behind a word goes on behind this one, which is the same
by_word : (p : Part) (d e : Draft) (w word : List ℕ) (us : List (List ℕ)) → is_text w word ≡ true → GoesOn p d e (word ∷ us) → GoesOn p d e (w ∷ us)
by_word p d e w word us same g = subst (λ (v : List ℕ). GoesOn p d e (v ∷ us)) (sym (same_word w word same)) g

count_steps : (d e : Draft) (us : List (List ℕ)) (r : Result ℕ Bad) → d.part ≡ part.Calls → IsDraft d → history_of us ≡ r → with_count d r ≡ Ok e → GoesOn part.Calls d e (codes "history" ∷ us)
count_steps d e us (Err bad) is h was made = absurd (not_ok bad e made)
count_steps d e us (Ok n) is h was made = subst (λ (x : Draft). GoesOn part.Calls d x (codes "history" ∷ us)) (ok_is (record d { part = entries_left n }) e made) (count_goes_on d us n is h was)

calls_go_on : (d e : Draft) (ws : List (List ℕ)) → d.part ≡ part.Calls → IsDraft d → call_read d ws ≡ Ok e → GoesOn part.Calls d e ws
calls_go_on d e [] is h was = absurd (not_ok Line e was)
calls_go_on d e (w ∷ us) is h was = by (is_text w (codes "call")) (is_text w (codes "history")) refl refl was
  where
    by : (a b : Bool) → is_text w (codes "call") ≡ a → is_text w (codes "history") ≡ b → cond a (with_call d (call_of (length d.calls) us)) (cond b (with_count d (history_of us)) (Err Line)) ≡ Ok e → GoesOn part.Calls d e (w ∷ us)
    by true b here out was = by_word part.Calls d e w (codes "call") us here (call_steps d e us (call_of (length d.calls) us) is h refl was)
    by false true out here was = by_word part.Calls d e w (codes "history") us here (count_steps d e us (history_of us) is h refl was)
    by false false out nor was = absurd (not_ok Line e was)

entries_go_on : (d e : Draft) (k : ℕ) (ws : List (List ℕ)) → d.part ≡ part.Entries k → IsDraft d → entry_read d k ws ≡ Ok e → GoesOn (part.Entries k) d e ws
entries_go_on d e k ws is h was =
    let b = behind_again (codes "entry") (λ us. with_entry d k (entry_of (length d.history) us)) ws e was in
    subst (λ (vs : List (List ℕ)). GoesOn (part.Entries k) d e vs) (sym b.1) (steps b.0 (entry_of (length d.history) b.0) refl b.2)
  where
    steps : (us : List (List ℕ)) (r : Result (ℕ × ℕ) Bad) → entry_of (length d.history) us ≡ r → with_entry d k r ≡ Ok e → GoesOn (part.Entries k) d e (codes "entry" ∷ us)
    steps us (Err bad) was made = absurd (not_ok bad e made)
    steps us (Ok x) was made = subst (λ (y : Draft). GoesOn (part.Entries k) d y (codes "entry" ∷ us)) (ok_is (record d { part = entries_left (k - 1); history = d.history ++ x ∷ [] }) e made) (entry_goes_on d us k x is h was)

-- a part behind the history
pub record IsLate (p : Part) (d : Draft) : Type 0 where
  pub none : to_come p ≡ 0
  pub front : front_by p d ≡ late_text d
  pub heals : may_heal p ≡ true → p ≡ part.Heals
  pub skips : may_skip p ≡ true → d.graphs ≡ []

late_go_on : (p : Part) (d e : Draft) (ws : List (List ℕ)) → d.part ≡ p → IsLate p d → IsDraft d → late_read d ws ≡ Ok e → GoesOn p d e ws
late_go_on p d e [] is late h was = absurd (not_ok Line e was)
late_go_on p d e (w ∷ us) is late h was =
    by (is_text w (codes "heal")) (is_text w (codes "skip")) (is_text w (codes "graph")) (is_text w (codes "end")) refl refl refl refl was
  where
    none : to_come d.part ≡ 0
    none = ap to_come is ∙ late.none

    -- from the text of a late part to that of this part
    back : (x : Draft) (vs : List (List ℕ)) → IsDraft x × (front_text x ≡ late_text d ++ text_of 32 vs (10 ∷ [])) → GoesOn p d x vs
    back x vs g = (g.0, g.1 ∙ ap (λ (t : List ℕ). t ++ text_of 32 vs (10 ∷ [])) (sym late.front))

    heal_by : (b : Bool) → may_heal d.part ≡ b → cond b (with_heal d (heal_of us)) (Err Line) ≡ Ok e → GoesOn p d e (codes "heal" ∷ us)
    heal_by false out was = absurd (not_ok Line e was)
    heal_by true here was =
        let heals = late.heals (sym (ap may_heal is) ∙ here) in
        subst (λ (q : Part). GoesOn q d e (codes "heal" ∷ us)) (sym heals) (heal_steps d e us (heal_of us) (is ∙ heals) h refl was)

    skip_with : (r : Result (Cell × SkipCause) Bad) → d.graphs ≡ [] → skip_of us ≡ r → with_skip d r ≡ Ok e → GoesOn p d e (codes "skip" ∷ us)
    skip_with (Err bad) no_graphs was made = absurd (not_ok bad e made)
    skip_with (Ok k) no_graphs was made =
        let x : Draft = record d { part = part.Skips; skips = d.skips ++ k ∷ [] } in
        subst (λ (y : Draft). GoesOn p d y (codes "skip" ∷ us)) (ok_is x e made) (back x (codes "skip" ∷ us) (skip_goes_on d us k no_graphs none h was))

    skip_by : (b : Bool) → may_skip d.part ≡ b → cond b (with_skip d (skip_of us)) (Err Line) ≡ Ok e → GoesOn p d e (codes "skip" ∷ us)
    skip_by false out was = absurd (not_ok Line e was)
    skip_by true here was = skip_with (skip_of us) (late.skips (sym (ap may_skip is) ∙ here)) refl was

    graph_with : (r : Result ReportGraph Bad) → graph_of (length d.graphs) us ≡ r → with_graph d r ≡ Ok e → GoesOn p d e (codes "graph" ∷ us)
    graph_with (Err bad) was made = absurd (not_ok bad e made)
    graph_with (Ok k) was made =
        let x : Draft = record d { part = part.Graphs; graphs = d.graphs ++ k ∷ [] } in
        subst (λ (y : Draft). GoesOn p d y (codes "graph" ∷ us)) (ok_is x e made) (back x (codes "graph" ∷ us) (graph_goes_on d us k none h was))

    by : (a b c f : Bool) → is_text w (codes "heal") ≡ a → is_text w (codes "skip") ≡ b → is_text w (codes "graph") ≡ c → is_text w (codes "end") ≡ f
        → cond a (heal_read d us) (cond b (skip_read d us) (cond c (with_graph d (graph_of (length d.graphs) us)) (cond f (ended (record d { part = part.Done }) us) (Err Line)))) ≡ Ok e → GoesOn p d e (w ∷ us)
    by true b c f here k l m was = by_word p d e w (codes "heal") us here (heal_by (may_heal d.part) refl was)
    by false true c f j here l m was = by_word p d e w (codes "skip") us here (skip_by (may_skip d.part) refl was)
    by false false true f j k here m was = by_word p d e w (codes "graph") us here (graph_with (graph_of (length d.graphs) us) refl was)
    by false false false true j k l here was = by_word p d e w (codes "end") us here (back e (codes "end" ∷ us) (end_goes_on d e us h none was))
    by false false false false j k l m was = absurd (not_ok Line e was)

pub words_go_on : (d e : Draft) (ws : List (List ℕ)) → IsDraft d → words_read d ws ≡ Ok e → GoesOn d.part d e ws
words_go_on d e ws h was = by d.part refl was
  where
    apart : ◌≡◌ {A = Bool} false true → ⊥
    apart e = absurd cc

    by : (p : Part) → d.part ≡ p → words_read_by p d ws ≡ Ok e → GoesOn p d e ws
    by part.Head is was = head_goes_on d e ws is h was
    by part.Calls is was = calls_go_on d e ws is h was
    by (part.Entries k) is was = entries_go_on d e k ws is h was
    by part.Heals is was =
        let only : HasOnly part.Heals d = subst (λ (p : Part). HasOnly p d) is h.only in
        late_go_on part.Heals d e ws is (record { none = refl; front = refl; heals = λ here. refl; skips = λ here. only.1 }) h was
    by part.Skips is was =
        let only : HasOnly part.Skips d = subst (λ (p : Part). HasOnly p d) is h.only in
        late_go_on part.Skips d e ws is (record { none = refl; front = refl; heals = λ here. absurd (apart here); skips = λ here. only }) h was
    by part.Graphs is was = late_go_on part.Graphs d e ws is (record { none = refl; front = refl; heals = λ here. absurd (apart here); skips = λ here. absurd (apart here) }) h was
    by part.Done is was = absurd (not_ok Line e was)

-- a line that is read is one line more
pub line_goes_on : (d e : Draft) (l : List ℕ) → IsDraft d → line_read d l ≡ Ok e → IsDraft e × (front_text e ≡ front_text d ++ (l ++ 10 ∷ []))
unfolding line_read
line_goes_on d e l h is =
    let g = words_go_on d e (parts_at 32 l) h is in
    (g.0, g.1 ∙ ap (λ (t : List ℕ). front_text d ++ t) (text_end 32 (parts_at 32 l) (10 ∷ []) ∙ ap (λ (t : List ℕ). t ++ 10 ∷ []) (text_whole 32 l)))
