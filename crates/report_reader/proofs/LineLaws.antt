-- The lines of a report are read exactly, word by word.
use Rattle.std.proofs.Common.{◌≡◌, ℕ, ◌+◌, ◌-◌, ◌<◌, ◌==◌, Bool, true, false, cond, List, [], ◌∷◌, codes, Option, Some, None, decimal, refl, sym, ap, subst, ◌∙◌, arith, eqb-true, eq-eqb, ne_eqb}
use Rattle.fop_types.specs.Bounds.{Each, IsUnit}
use Rattle.fop_types.specs.declared.cells.Cell.{Cell}
use Rattle.fop_types.specs.declared.causes.SkipCause.{SkipCause}
use Rattle.volfile.specs.TextLines.{is_text}
use Rattle.volfile.proofs.Places.{same_word}
use Rattle.report_text.specs.Words.{cause_word, places_text}
use Rattle.report_text.specs.ReportText.{drained_word}
use Rattle.report_text.specs.declared.calls.ReportCall.{ReportCall}
use Rattle.report_text.specs.declared.graphs.ReportGraph.{ReportGraph}
use Rattle.report_reader.specs.Reports.{IsName, IsEntry, IsHeal, IsSkip, IsGraph, IsCall, IsAnswer}
use Rattle.report_reader.specs.code.Readers.{chain_all, form_at, behind, ended}
use Rattle.report_reader.specs.code.Forms.{unit_of, part_of, name_at, cause_of}
use Rattle.report_reader.specs.code.AnswerForms.{answer_of}
use Rattle.report_reader.specs.code.LineForms.{if_next, next_number, call_made, call_end, call_of, history_of, entry_of, heal_of, skip_of, drained_of, graph_made, graph_end, graph_of}
use Rattle.report_reader.proofs.Laws.{IsWord, IsAll, not_some, form_law, behind_all, chain_law, last_law, ended_law, all_again}
use Rattle.report_reader.proofs.NumberLaws.{unit_law, part_law}
use Rattle.report_reader.proofs.WordLaws.{kept, keeps, name_law, cell_law, cause_law, places_law}
use Rattle.report_reader.proofs.LineWords.{call_words, answer_words, entry_words, heal_words, skip_words, graph_words}

-- ---- the number that comes next
next_takes : (count n : ℕ) → n ≡ count + 1 → IsUnit n → next_number count (decimal n) ≡ Some n
next_takes count n is h =
    let some : (n == 0) ≡ false = ne_eqb n 0 (λ e. omega (arith, is, e)) in
    let same : (n - 1 == count) ≡ true = eq-eqb (n - 1) count (omega (arith, is)) in
    ap (if_next count) (unit_law.takes n h) ∙ ap (λ b. cond b None (cond (n - 1 == count) (Some n) None)) some ∙ keeps (n - 1 == count) n same

next_again : (count : ℕ) (w : List ℕ) (n : ℕ) (o : Option ℕ) → unit_of w ≡ o → if_next count o ≡ Some n → ((n ≡ count + 1) × IsUnit n) × (w ≡ decimal n)
next_again count w n None is e = absurd (not_some n e)
next_again count w n (Some m) is e = by (m == 0) refl e
  where
    by : (b : Bool) → (m == 0) ≡ b → cond b None (cond (m - 1 == count) (Some m) None) ≡ Some n → ((n ≡ count + 1) × IsUnit n) × (w ≡ decimal n)
    by true zero_is e = absurd (not_some n e)
    by false some e =
        let k = kept (m - 1 == count) m n e in
        let before : m - 1 ≡ count = eqb-true (m - 1) count k.0 in
        let g = unit_law.again w m is in
        let positive : m ≡ 0 → ⊥ = λ z. no_zero (sym (eq-eqb m 0 z) ∙ some) in
        ((omega (arith, before, positive, k.1), subst IsUnit k.1 g.0), g.1 ∙ ap decimal k.1)
      where
        no_zero : ◌≡◌ {A = Bool} true false → ⊥
        no_zero e = absurd cc

pub next_law : (count : ℕ) → IsWord (λ n. (n ≡ count + 1) × IsUnit n) decimal (next_number count)
next_law count = record { takes = λ n h. next_takes count n h.0 h.1; again = λ w n e. next_again count w n (unit_of w) refl e }

-- ---- heal CELL from BRICK to BRICK
abbrev pub Heal : Type 0
Heal = Cell × List ℕ × List ℕ

pub heal_law : IsAll IsHeal heal_words heal_of
heal_law = all_again (λ h k. (k.0.0, k.0.1.0, k.0.1.1.0)) (λ h k. ((k.0, (k.1, (k.2, tt))), tt))
    (chain_law (λ (h : Heal). h.0) (λ h. Unit {0}) (λ h. IsName h.1 × (IsName h.2 × Unit {0})) (λ h. codes "from" ∷ h.1 ∷ codes "to" ∷ h.2 ∷ []) (form_law cell_law) (λ cell k. at_cell cell))
  where
    at_sink : (cell : Cell) (source sink : List ℕ) → IsAll (λ (h : Heal). Unit {0} × (((Unit {0} × (h.0 ≡ cell)) × (h.1 ≡ source)) × (h.2 ≡ sink))) (λ h. []) (ended (cell, source, sink))
    at_sink cell source sink = ended_law (cell, source, sink) (λ h. ((Unit {0} × (h.0 ≡ cell)) × (h.1 ≡ source)) × (h.2 ≡ sink)) (((tt, refl), refl), refl) (λ h e. λ i. (e.0.0.1 i, e.0.1 i, e.1 i))

    at_source : (cell : Cell) (source : List ℕ)
        → IsAll (λ (h : Heal). (IsName h.2 × Unit {0}) × ((Unit {0} × (h.0 ≡ cell)) × (h.1 ≡ source))) (λ h. codes "to" ∷ h.2 ∷ []) (behind (codes "to") (chain_all (form_at name_at) (λ sink. ended (cell, source, sink))))
    at_source cell source = behind_all (codes "to") (chain_law (λ (h : Heal). h.2) (λ h. (Unit {0} × (h.0 ≡ cell)) × (h.1 ≡ source)) (λ h. Unit {0}) (λ h. []) (form_law name_law) (λ sink k. at_sink cell source sink))

    at_cell : (cell : Cell) → IsAll (λ (h : Heal). (IsName h.1 × (IsName h.2 × Unit {0})) × (Unit {0} × (h.0 ≡ cell))) (λ h. codes "from" ∷ h.1 ∷ codes "to" ∷ h.2 ∷ [])
        (behind (codes "from") (chain_all (form_at name_at) (λ source. behind (codes "to") (chain_all (form_at name_at) (λ sink. ended (cell, source, sink))))))
    at_cell cell = behind_all (codes "from") (chain_law (λ (h : Heal). h.1) (λ h. Unit {0} × (h.0 ≡ cell)) (λ h. IsName h.2 × Unit {0}) (λ h. codes "to" ∷ h.2 ∷ []) (form_law name_law) (λ source k. at_source cell source))

-- ---- skip CELL CAUSE
abbrev pub Skip : Type 0
Skip = Cell × SkipCause

pub skip_law : IsAll IsSkip skip_words skip_of
skip_law = all_again (λ s k. k.0.0) (λ s k. ((k, (tt, tt)), tt))
    (chain_law (λ (s : Skip). s.0) (λ s. Unit {0}) (λ s. Unit {0} × Unit {0}) (λ s. cause_word s.1 ∷ []) (form_law cell_law) (λ cell k. at_cell cell))
  where
    at_cell : (cell : Cell) → IsAll (λ (s : Skip). (Unit {0} × Unit {0}) × (Unit {0} × (s.0 ≡ cell))) (λ s. cause_word s.1 ∷ []) (chain_all (form_at cause_of) (λ cause. ended (cell, cause)))
    at_cell cell = chain_law (λ (s : Skip). s.1) (λ s. Unit {0} × (s.0 ≡ cell)) (λ s. Unit {0}) (λ s. []) (form_law cause_law)
        (λ cause k. ended_law (cell, cause) (λ s. (Unit {0} × (s.0 ≡ cell)) × (s.1 ≡ cause)) ((tt, refl), refl) (λ s e. λ i. (e.0.1 i, e.1 i)))

-- ---- history N
pub history_law : IsAll IsUnit (λ n. decimal n ∷ []) history_of
history_law = all_again (λ n k. k.0.0) (λ n k. ((k, tt), tt))
    (chain_law (λ (n : ℕ). n) (λ n. Unit {0}) (λ n. Unit {0}) (λ n. []) (form_law unit_law) (λ a k. ended_law a (λ n. Unit {0} × (n ≡ a)) (tt, refl) (λ n e. e.1)))

-- ---- entry I call C part K
-- the number of an entry is no part of its value, so it is given
pub entry_law : (count : ℕ) → IsUnit (count + 1) → IsAll IsEntry (entry_words (count + 1)) (entry_of count)
entry_law count small = all_again (λ e k. (k.0.1.0, k.0.1.1.0)) (λ e k. (((refl, small), (k.0, (k.1, tt))), tt))
    (chain_law (λ (e : ℕ × ℕ). count + 1) (λ e. Unit {0}) (λ e. IsUnit e.0 × ((e.1 < 256) × Unit {0})) (λ e. codes "call" ∷ decimal e.0 ∷ codes "part" ∷ decimal e.1 ∷ []) (form_law (next_law count)) (λ m k. at_number m (sym k.0)))
  where
    at_part : (m call k : ℕ) → count + 1 ≡ m → IsAll (λ (e : ℕ × ℕ). Unit {0} × (((Unit {0} × (count + 1 ≡ m)) × (e.0 ≡ call)) × (e.1 ≡ k))) (λ e. []) (ended (call, k))
    at_part m call k is = ended_law (call, k) (λ e. ((Unit {0} × (count + 1 ≡ m)) × (e.0 ≡ call)) × (e.1 ≡ k)) (((tt, is), refl), refl) (λ e p. λ i. (p.0.1 i, p.1 i))

    at_call : (m call : ℕ) → count + 1 ≡ m
        → IsAll (λ (e : ℕ × ℕ). ((e.1 < 256) × Unit {0}) × ((Unit {0} × (count + 1 ≡ m)) × (e.0 ≡ call))) (λ e. codes "part" ∷ decimal e.1 ∷ []) (behind (codes "part") (chain_all (form_at part_of) (λ k. ended (call, k))))
    at_call m call is = behind_all (codes "part") (chain_law (λ (e : ℕ × ℕ). e.1) (λ e. (Unit {0} × (count + 1 ≡ m)) × (e.0 ≡ call)) (λ e. Unit {0}) (λ e. []) (form_law part_law) (λ k small. at_part m call k is))

    at_number : (m : ℕ) → count + 1 ≡ m
        → IsAll (λ (e : ℕ × ℕ). (IsUnit e.0 × ((e.1 < 256) × Unit {0})) × (Unit {0} × (count + 1 ≡ m))) (λ e. codes "call" ∷ decimal e.0 ∷ codes "part" ∷ decimal e.1 ∷ [])
        (behind (codes "call") (chain_all (form_at unit_of) (λ call. behind (codes "part") (chain_all (form_at part_of) (λ k. ended (call, k))))))
    at_number m is = behind_all (codes "call") (chain_law (λ (e : ℕ × ℕ). e.0) (λ e. Unit {0} × (count + 1 ≡ m)) (λ e. (e.1 < 256) × Unit {0}) (λ e. codes "part" ∷ decimal e.1 ∷ []) (form_law unit_law) (λ call k. at_call m call is))

-- ---- graph G NAME winds A ended B drained|open
abbrev pub drained_text : Bool → List ℕ
drained_text b = cond b (codes "drained") (codes "open")

drained_law : (opened closed : ℕ) → IsWord (λ b. b ≡ (opened == closed)) drained_text (drained_of opened closed)
drained_law opened closed = record {
  takes = λ b h. takes b (opened == closed) h;
  again = λ w b e. again w b (opened == closed) e;
}
  where
    takes : (b t : Bool) → b ≡ t → cond t (cond (is_text (drained_text b) (codes "drained")) (Some true) None) (cond (is_text (drained_text b) (codes "open")) (Some false) None) ≡ Some b
    takes true true h = refl
    takes false false h = refl
    takes true false h = absurd cc
    takes false true h = absurd cc

    again : (w : List ℕ) (b t : Bool) → cond t (cond (is_text w (codes "drained")) (Some true) None) (cond (is_text w (codes "open")) (Some false) None) ≡ Some b → (b ≡ t) × (w ≡ drained_text b)
    again w b true e = let k = kept (is_text w (codes "drained")) true b e in (sym k.1, same_word w (codes "drained") k.0 ∙ ap drained_text k.1)
    again w b false e = let k = kept (is_text w (codes "open")) false b e in (sym k.1, same_word w (codes "open") k.0 ∙ ap drained_text k.1)

-- what the words behind each word say, and what the words before it said
abbrev pub graph_words4 : ReportGraph → List (List ℕ)
graph_words4 g = codes "ended" ∷ decimal g.ended ∷ drained_word g ∷ []

abbrev pub graph_words2 : ReportGraph → List (List ℕ)
graph_words2 g = codes "winds" ∷ decimal g.opened ∷ codes "ended" ∷ decimal g.ended ∷ drained_word g ∷ []

abbrev pub GraphMore3 : ReportGraph → Type 0
GraphMore3 g = IsUnit g.ended × Unit {0}

abbrev pub GraphMore2 : ReportGraph → Type 0
GraphMore2 g = IsUnit g.opened × GraphMore3 g

abbrev pub GraphMore1 : ReportGraph → Type 0
GraphMore1 g = IsName g.name × GraphMore2 g

abbrev pub GraphK1 : ℕ → ReportGraph → Type 0
GraphK1 m g = Unit {0} × (g.graph ≡ m)

abbrev pub GraphK2 : ℕ → List ℕ → ReportGraph → Type 0
GraphK2 m name g = GraphK1 m g × (g.name ≡ name)

abbrev pub GraphK3 : ℕ → List ℕ → ℕ → ReportGraph → Type 0
GraphK3 m name opened g = GraphK2 m name g × (g.opened ≡ opened)

abbrev pub GraphK4 : ℕ → List ℕ → ℕ → ℕ → ReportGraph → Type 0
GraphK4 m name opened closed g = GraphK3 m name opened g × (g.ended ≡ closed)

pub graph_law : (count : ℕ) → IsAll (λ g. (g.graph ≡ count + 1) × IsGraph g) graph_words (graph_of count)
graph_law count = all_again into from (chain_law (λ (g : ReportGraph). g.graph) (λ g. Unit {0}) GraphMore1 (λ g. g.name ∷ graph_words2 g) (form_law (next_law count)) (λ m k. at_number m))
  where
    into : (g : ReportGraph) → (((g.graph ≡ count + 1) × IsUnit g.graph) × GraphMore1 g) × Unit {0} → (g.graph ≡ count + 1) × IsGraph g
    into g k = (k.0.0.0, record { number = k.0.0.1; name = k.0.1.0; opened = k.0.1.1.0; ended = k.0.1.1.1.0 })

    from : (g : ReportGraph) → (g.graph ≡ count + 1) × IsGraph g → (((g.graph ≡ count + 1) × IsUnit g.graph) × GraphMore1 g) × Unit {0}
    from g k = (((k.0, k.1.number), (k.1.name, (k.1.opened, (k.1.ended, tt)))), tt)

    at_drained : (m : ℕ) (name : List ℕ) (opened closed : ℕ) (d : Bool) → d ≡ (opened == closed)
        → IsAll (λ (g : ReportGraph). Unit {0} × (GraphK4 m name opened closed g × ((g.opened == g.ended) ≡ d))) (λ g. []) (ended (graph_made m name opened closed))
    at_drained m name opened closed d is =
        ended_law (graph_made m name opened closed) (λ g. GraphK4 m name opened closed g × ((g.opened == g.ended) ≡ d)) (((((tt, refl), refl), refl), refl), sym is)
        (λ g e. λ i. record { graph = e.0.0.0.0.1 i; name = e.0.0.0.1 i; opened = e.0.0.1 i; ended = e.0.1 i })

    at_closed : (m : ℕ) (name : List ℕ) (opened closed : ℕ)
        → IsAll (λ (g : ReportGraph). Unit {0} × (GraphK3 m name opened g × (g.ended ≡ closed))) (λ g. drained_word g ∷ []) (chain_all (form_at (drained_of opened closed)) (λ d. ended (graph_made m name opened closed)))
    at_closed m name opened closed = all_again (λ g k. (tt, k.1)) (λ g k. (((λ i. k.1.0.1 i == k.1.1 i), tt), k.1))
        (chain_law (λ (g : ReportGraph). g.opened == g.ended) (GraphK4 m name opened closed) (λ g. Unit {0}) (λ g. []) (form_law (drained_law opened closed)) (λ d k. at_drained m name opened closed d k))

    at_opened : (m : ℕ) (name : List ℕ) (opened : ℕ) → IsAll (λ (g : ReportGraph). GraphMore3 g × (GraphK2 m name g × (g.opened ≡ opened))) graph_words4 (graph_end m name opened)
    at_opened m name opened = behind_all (codes "ended") (chain_law (λ (g : ReportGraph). g.ended) (GraphK3 m name opened) (λ g. Unit {0}) (λ g. drained_word g ∷ []) (form_law unit_law) (λ closed k. at_closed m name opened closed))

    at_name : (m : ℕ) (name : List ℕ) → IsAll (λ (g : ReportGraph). GraphMore2 g × (GraphK1 m g × (g.name ≡ name))) graph_words2 (behind (codes "winds") (chain_all (form_at unit_of) (λ opened. graph_end m name opened)))
    at_name m name = behind_all (codes "winds") (chain_law (λ (g : ReportGraph). g.opened) (GraphK2 m name) GraphMore3 graph_words4 (form_law unit_law) (λ opened k. at_opened m name opened))

    at_number : (m : ℕ) → IsAll (λ (g : ReportGraph). GraphMore1 g × (Unit {0} × (g.graph ≡ m))) (λ g. g.name ∷ graph_words2 g) (chain_all (form_at name_at) (λ name. behind (codes "winds") (chain_all (form_at unit_of) (λ opened. graph_end m name opened))))
    at_number m = chain_law (λ (g : ReportGraph). g.name) (GraphK1 m) GraphMore2 graph_words2 (form_law name_law) (λ name k. at_name m name)

-- ---- call C session NAME line L places P ANSWER
-- the same
abbrev pub call_words4 : ReportCall → List (List ℕ)
call_words4 c = codes "places" ∷ places_text c.places ∷ answer_words c.answer

abbrev pub call_words2 : ReportCall → List (List ℕ)
call_words2 c = codes "line" ∷ decimal c.line ∷ codes "places" ∷ places_text c.places ∷ answer_words c.answer

abbrev pub call_words1 : ReportCall → List (List ℕ)
call_words1 c = codes "session" ∷ c.session ∷ codes "line" ∷ decimal c.line ∷ codes "places" ∷ places_text c.places ∷ answer_words c.answer

abbrev pub CallMore3 : ReportCall → Type 0
CallMore3 c = Each IsUnit c.places × IsAnswer c.answer

abbrev pub CallMore2 : ReportCall → Type 0
CallMore2 c = IsUnit c.line × CallMore3 c

abbrev pub CallMore1 : ReportCall → Type 0
CallMore1 c = IsName c.session × CallMore2 c

abbrev pub CallK1 : ℕ → ReportCall → Type 0
CallK1 m c = Unit {0} × (c.call ≡ m)

abbrev pub CallK2 : ℕ → List ℕ → ReportCall → Type 0
CallK2 m session c = CallK1 m c × (c.session ≡ session)

abbrev pub CallK3 : ℕ → List ℕ → ℕ → ReportCall → Type 0
CallK3 m session line c = CallK2 m session c × (c.line ≡ line)

pub call_law : IsAll IsAnswer answer_words answer_of → (count : ℕ) → IsAll (λ c. (c.call ≡ count + 1) × IsCall c) call_words (call_of count)
call_law answers count = all_again into from (chain_law (λ (c : ReportCall). c.call) (λ c. Unit {0}) CallMore1 call_words1 (form_law (next_law count)) (λ m k. at_number m))
  where
    into : (c : ReportCall) → (((c.call ≡ count + 1) × IsUnit c.call) × CallMore1 c) × Unit {0} → (c.call ≡ count + 1) × IsCall c
    into c k = (k.0.0.0, record { number = k.0.0.1; session = k.0.1.0; line = k.0.1.1.0; places = k.0.1.1.1.0; answer = k.0.1.1.1.1 })

    from : (c : ReportCall) → (c.call ≡ count + 1) × IsCall c → (((c.call ≡ count + 1) × IsUnit c.call) × CallMore1 c) × Unit {0}
    from c k = (((k.0, k.1.number), (k.1.session, (k.1.line, (k.1.places, k.1.answer)))), tt)

    at_places : (m : ℕ) (session : List ℕ) (line : ℕ) (places : List ℕ)
        → IsAll (λ (c : ReportCall). IsAnswer c.answer × (CallK3 m session line c × (c.places ≡ places))) (λ c. answer_words c.answer) (λ us. call_made m session line places (answer_of us))
    at_places m session line places =
        last_law (λ (c : ReportCall). c.answer) (λ a. record { call = m; session = session; line = line; places = places; answer = a }) (λ c. CallK3 m session line c × (c.places ≡ places)) (call_made m session line places)
        (λ a. refl) (λ bad. refl) (λ a. refl) (λ a. ((((tt, refl), refl), refl), refl))
        (λ c e. sym (λ i. record { call = e.0.0.0.1 i; session = e.0.0.1 i; line = e.0.1 i; places = e.1 i; answer = c.answer })) answers

    at_line : (m : ℕ) (session : List ℕ) (line : ℕ) → IsAll (λ (c : ReportCall). CallMore3 c × (CallK2 m session c × (c.line ≡ line))) call_words4 (call_end m session line)
    at_line m session line = behind_all (codes "places") (chain_law (λ (c : ReportCall). c.places) (CallK3 m session line) (λ c. IsAnswer c.answer) (λ c. answer_words c.answer) (form_law places_law) (λ places k. at_places m session line places))

    at_session : (m : ℕ) (session : List ℕ) → IsAll (λ (c : ReportCall). CallMore2 c × (CallK1 m c × (c.session ≡ session))) call_words2 (behind (codes "line") (chain_all (form_at unit_of) (λ line. call_end m session line)))
    at_session m session = behind_all (codes "line") (chain_law (λ (c : ReportCall). c.line) (CallK2 m session) CallMore3 call_words4 (form_law unit_law) (λ line k. at_line m session line))

    at_number : (m : ℕ) → IsAll (λ (c : ReportCall). CallMore1 c × (Unit {0} × (c.call ≡ m))) call_words1 (behind (codes "session") (chain_all (form_at name_at) (λ session. behind (codes "line") (chain_all (form_at unit_of) (λ line. call_end m session line)))))
    at_number m = behind_all (codes "session") (chain_law (λ (c : ReportCall). c.session) (CallK1 m) CallMore2 call_words2 (form_law name_law) (λ session k. at_session m session))
