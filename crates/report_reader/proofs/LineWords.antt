-- The lines of a report as words with single spaces between them.
use Rattle.std.proofs.Common.{◌≡◌, ℕ, false, List, [], ◌∷◌, ◌++◌, append_assoc, length, codes, flat_map, decimal, refl, sym, ap, ◌∙◌}
use Rattle.std.specs.Fmt.{digits}
use Rattle.fop_types.specs.Errors.{number_of, name_of}
use Rattle.fop_types.specs.declared.cells.Cell.{Cell}
use Rattle.fop_types.specs.declared.cells.Kind.{Kind}
use Rattle.fop_types.specs.declared.causes.SkipCause.{SkipCause}
use Rattle.report_text.specs.Words.{cell_text, gfid_text, aspect_word, kind_word, cause_word, bytes_hex, numbers_text, places_text}
use Rattle.report_text.specs.AnswerText.{item_text, brick_text, losses_text, present_word, counts_text, row_text, not_connected, input_output, io_text, answer_text}
use Rattle.report_text.specs.ReportText.{call_line, history_line, entry_line, heal_line, skip_line, drained_word, graph_line}
use Rattle.report_text.specs.declared.answers.ReportAnswer.{ReportAnswer}
use Rattle.report_text.specs.declared.answers.ReportAnswer.TheVariants.{Done, Count, Bytes, Stat, List as Items, App, Io}
use Rattle.report_text.specs.declared.calls.ReportCall.{ReportCall}
use Rattle.report_text.specs.declared.faults.ReportIo.{ReportIo}
use Rattle.report_text.specs.declared.faults.ReportIo.TheVariants.{Quorum, Split, Fault}
use Rattle.report_text.specs.declared.faults.ReportRow.{ReportRow}
use Rattle.report_text.specs.declared.graphs.ReportGraph.{ReportGraph}
use Rattle.report_reader.proofs.Joins.{joined}
use Rattle.report_reader.proofs.Laws.{words_each}

-- ---- single words
abbrev pub cell_word : Cell → List ℕ
cell_word c = gfid_text c.gfid ++ 47 ∷ aspect_word c.aspect

pub cell_is : (c : Cell) → cell_text c ≡ cell_word c
cell_is c = simp append_assoc refl

abbrev pub brick_word : List ℕ × ℕ → List ℕ
brick_word b = b.0 ++ 58 ∷ decimal b.1

abbrev pub item_word : List ℕ × Kind → List ℕ
item_word i = i.0 ++ 47 ∷ kind_word i.1

-- ---- answers
abbrev pub row_words : ReportRow → List (List ℕ)
row_words row =
    codes "row" ∷ cell_word row.cell ∷ row.brick ∷ present_word row.present ∷ decimal row.dirty ∷ numbers_text row.pending ∷ decimal row.last ∷ []

abbrev pub rows_words : List ReportRow → List (List ℕ)
rows_words [] = []
rows_words (row ∷ rows) = row_words row ++ rows_words rows

-- nothing where no brick was lost
abbrev pub losses_words : List (List ℕ × ℕ) → List (List ℕ)
losses_words [] = []
losses_words (b ∷ bs) = codes "lost" ∷ words_each brick_word (b ∷ bs)

abbrev pub failures_words : List (List ℕ × ℕ) → List (List ℕ × ℕ) → List (List ℕ)
failures_words [] lost = losses_words lost
failures_words (b ∷ bs) lost = brick_word b ∷ failures_words bs lost

abbrev pub quorum_words : List ℕ → List (List ℕ × ℕ) → List (List ℕ)
quorum_words set lost = codes "quorum" ∷ set ∷ codes "lost" ∷ words_each brick_word lost

-- behind `error 5 EIO`, or `error 107 ENOTCONN`
abbrev pub io_words : ReportIo → List (List ℕ)
io_words (Quorum set lost) = codes "107" ∷ codes "ENOTCONN" ∷ quorum_words set lost
io_words (Split set rows) = codes "5" ∷ codes "EIO" ∷ codes "split" ∷ set ∷ rows_words rows
io_words (Fault set faults lost) = codes "5" ∷ codes "EIO" ∷ codes "fault" ∷ set ∷ codes "fault" ∷ failures_words faults lost

abbrev pub answer_words : ReportAnswer → List (List ℕ)
answer_words Done = codes "ok" ∷ []
answer_words (Count n) = codes "ok" ∷ decimal n ∷ []
answer_words (Bytes bytes) = codes "ok" ∷ (120 ∷ 58 ∷ bytes_hex bytes) ∷ []
answer_words (Stat kind mode size) = codes "ok" ∷ kind_word kind ∷ digits 8 false mode ∷ decimal size ∷ []
answer_words (Items items) = codes "ok" ∷ decimal (length items) ∷ words_each item_word items
answer_words (App error) = codes "error" ∷ decimal (number_of error) ∷ name_of error ∷ []
answer_words (Io io) = codes "error" ∷ io_words io

-- ---- words behind a word
-- each with the space before it
abbrev pub spaced : List (List ℕ) → List ℕ → List ℕ
spaced [] end = end
spaced (w ∷ ws) end = 32 ∷ w ++ spaced ws end

pub joined_spaced : (w : List ℕ) (ws : List (List ℕ)) (end : List ℕ) → joined 32 w ws end ≡ w ++ spaced ws end
joined_spaced w [] end = refl
joined_spaced w (v ∷ vs) end = ap (λ l. w ++ 32 ∷ l) (joined_spaced v vs end)

spaced_more : (us vs : List (List ℕ)) (end : List ℕ) → spaced (us ++ vs) end ≡ spaced us (spaced vs end)
spaced_more [] vs end = refl
spaced_more (w ∷ us) vs end = ap (λ l. 32 ∷ w ++ l) (spaced_more us vs end)

items_spaced : (items : List (List ℕ × Kind)) (end : List ℕ) → flat_map item_text items ++ end ≡ spaced (words_each item_word items) end
items_spaced [] end = refl
items_spaced (i ∷ is) end =
    let rest = flat_map item_text is in
    let one : item_text i ≡ 32 ∷ item_word i = simp append_assoc refl in
    ap (λ l. (l ++ rest) ++ end) one ∙ append_assoc (32 ∷ item_word i) rest end ∙ ap (λ l. 32 ∷ item_word i ++ l) (items_spaced is end)

bricks_spaced : (bricks : List (List ℕ × ℕ)) (end : List ℕ) → flat_map brick_text bricks ++ end ≡ spaced (words_each brick_word bricks) end
bricks_spaced [] end = refl
bricks_spaced (b ∷ bs) end =
    let rest = flat_map brick_text bs in
    let one : brick_text b ≡ 32 ∷ brick_word b = simp append_assoc refl in
    ap (λ l. (l ++ rest) ++ end) one ∙ append_assoc (32 ∷ brick_word b) rest end ∙ ap (λ l. 32 ∷ brick_word b ++ l) (bricks_spaced bs end)

failures_spaced : (faults lost : List (List ℕ × ℕ)) (end : List ℕ) → flat_map brick_text faults ++ (losses_text lost ++ end) ≡ spaced (failures_words faults lost) end
failures_spaced [] [] end = refl
failures_spaced [] (b ∷ bs) end = append_assoc (codes " lost") (flat_map brick_text (b ∷ bs)) end ∙ ap (λ l. codes " lost" ++ l) (bricks_spaced (b ∷ bs) end)
failures_spaced (f ∷ fs) lost end =
    let rest = flat_map brick_text fs in
    let one : brick_text f ≡ 32 ∷ brick_word f = simp append_assoc refl in
    ap (λ l. (l ++ rest) ++ (losses_text lost ++ end)) one ∙ append_assoc (32 ∷ brick_word f) rest (losses_text lost ++ end) ∙ ap (λ l. 32 ∷ brick_word f ++ l) (failures_spaced fs lost end)

five : (a b c d e z : List ℕ) → (a ++ b ++ c ++ d ++ e) ++ z ≡ a ++ (b ++ (c ++ (d ++ (e ++ z))))
five a b c d e z = simp append_assoc refl

seven : (a b c d e f z : List ℕ) → a ++ b ++ c ++ d ++ e ++ f ++ z ≡ a ++ (b ++ (c ++ (d ++ (e ++ (f ++ z)))))
seven a b c d e f z = simp append_assoc refl

eight : (a b c d e f g h z : List ℕ) → (a ++ b ++ c ++ d ++ e ++ f ++ g ++ h) ++ z ≡ a ++ (b ++ (c ++ (d ++ (e ++ (f ++ (g ++ (h ++ z)))))))
eight a b c d e f g h z = simp append_assoc refl

counts_spaced : (row : ReportRow) (end : List ℕ) → counts_text row ++ end ≡ spaced (present_word row.present ∷ decimal row.dirty ∷ numbers_text row.pending ∷ decimal row.last ∷ []) end
unfolding counts_text
counts_spaced row end = eight (codes " ") (present_word row.present) (codes " ") (decimal row.dirty) (codes " ") (numbers_text row.pending) (codes " ") (decimal row.last) end

row_spaced : (row : ReportRow) (end : List ℕ) → row_text row ++ end ≡ spaced (row_words row) end
row_spaced row end =
    let cell = cell_word row.cell in
    let front : row_text row ++ end ≡ (codes " row " ++ cell ++ codes " " ++ row.brick ++ counts_text row) ++ end = ap (λ c. (codes " row " ++ c ++ codes " " ++ row.brick ++ counts_text row) ++ end) (cell_is row.cell) in
    let cut : (codes " row " ++ cell ++ codes " " ++ row.brick ++ counts_text row) ++ end ≡ codes " row " ++ (cell ++ (codes " " ++ (row.brick ++ (counts_text row ++ end)))) =
    five (codes " row ") cell (codes " ") row.brick (counts_text row) end in
    front ∙ cut ∙ ap (λ l. codes " row " ++ (cell ++ (codes " " ++ (row.brick ++ l)))) (counts_spaced row end)

rows_spaced : (rows : List ReportRow) (end : List ℕ) → flat_map row_text rows ++ end ≡ spaced (rows_words rows) end
rows_spaced [] end = refl
rows_spaced (row ∷ rows) end =
    append_assoc (row_text row) (flat_map row_text rows) end ∙ row_spaced row (flat_map row_text rows ++ end) ∙ ap (spaced (row_words row)) (rows_spaced rows end)
    ∙ sym (spaced_more (row_words row) (rows_words rows) end)

io_spaced : (io : ReportIo) (end : List ℕ) → io_text io ++ end ≡ codes "error" ++ spaced (io_words io) end
unfolding not_connected input_output
io_spaced (Quorum set lost) end =
    let front = codes "error 107 ENOTCONN quorum " in
    let cut : io_text (Quorum set lost) ++ end ≡ front ++ (set ++ (codes " lost" ++ (flat_map brick_text lost ++ end))) = simp append_assoc refl in
    cut ∙ ap (λ l. front ++ (set ++ (codes " lost" ++ l))) (bricks_spaced lost end)
io_spaced (Split set rows) end =
    let front = codes "error 5 EIO split " in
    let cut : io_text (Split set rows) ++ end ≡ front ++ (set ++ (flat_map row_text rows ++ end)) = simp append_assoc refl in
    cut ∙ ap (λ l. front ++ (set ++ l)) (rows_spaced rows end)
io_spaced (Fault set faults lost) end =
    let front = codes "error 5 EIO fault " in
    let cut : io_text (Fault set faults lost) ++ end ≡ front ++ (set ++ (codes " fault" ++ (flat_map brick_text faults ++ (losses_text lost ++ end)))) = simp append_assoc refl in
    cut ∙ ap (λ l. front ++ (set ++ (codes " fault" ++ l))) (failures_spaced faults lost end)

pub answer_spaced : (a : ReportAnswer) (end : List ℕ) → 32 ∷ answer_text a ++ end ≡ spaced (answer_words a) end
answer_spaced Done end = refl
answer_spaced (Count n) end = simp append_assoc refl
answer_spaced (Bytes bytes) end = simp append_assoc refl
answer_spaced (Stat kind mode size) end = simp append_assoc refl
answer_spaced (Items items) end =
    let cut : 32 ∷ answer_text (Items items) ++ end ≡ codes " ok " ++ (decimal (length items) ++ (flat_map item_text items ++ end)) = simp append_assoc refl in
    cut ∙ ap (λ l. codes " ok " ++ (decimal (length items) ++ l)) (items_spaced items end)
answer_spaced (App error) end = simp append_assoc refl
answer_spaced (Io io) end = ap (λ l. 32 ∷ l) (io_spaced io end)

-- ---- lines, with their first word
abbrev pub call_words : ReportCall → List (List ℕ)
call_words c = decimal c.call ∷ codes "session" ∷ c.session ∷ codes "line" ∷ decimal c.line ∷ codes "places" ∷ places_text c.places ∷ answer_words c.answer

abbrev pub entry_words : ℕ → ℕ × ℕ → List (List ℕ)
entry_words i entry = decimal i ∷ codes "call" ∷ decimal entry.0 ∷ codes "part" ∷ decimal entry.1 ∷ []

abbrev pub heal_words : Cell × List ℕ × List ℕ → List (List ℕ)
heal_words h = cell_word h.0 ∷ codes "from" ∷ h.1 ∷ codes "to" ∷ h.2 ∷ []

abbrev pub skip_words : Cell × SkipCause → List (List ℕ)
skip_words s = cell_word s.0 ∷ cause_word s.1 ∷ []

abbrev pub graph_words : ReportGraph → List (List ℕ)
graph_words g = decimal g.graph ∷ g.name ∷ codes "winds" ∷ decimal g.opened ∷ codes "ended" ∷ decimal g.ended ∷ drained_word g ∷ []

abbrev pub line_of : List ℕ → List (List ℕ) → List ℕ
line_of first ws = joined 32 first ws (10 ∷ [])

pub call_joined : (c : ReportCall) → call_line c ≡ line_of (codes "call") (call_words c)
call_joined c =
    let front : List ℕ → List ℕ = λ l. codes "call " ++ (decimal c.call ++ (codes " session " ++ (c.session ++ (codes " line " ++ (decimal c.line ++ (codes " places " ++ (places_text c.places ++ l))))))) in
    let cut : call_line c ≡ front (32 ∷ answer_text c.answer ++ 10 ∷ []) = simp append_assoc refl in
    cut ∙ ap front (answer_spaced c.answer (10 ∷ [])) ∙ sym (joined_spaced (codes "call") (call_words c) (10 ∷ []))

pub history_joined : (history : List (ℕ × ℕ)) → history_line history ≡ line_of (codes "history") (decimal (length history) ∷ [])
history_joined history = simp append_assoc refl

pub entry_joined : (i : ℕ) (entry : ℕ × ℕ) → entry_line i entry ≡ line_of (codes "entry") (entry_words i entry)
entry_joined i entry = simp append_assoc refl

pub heal_joined : (h : Cell × List ℕ × List ℕ) → heal_line h ≡ line_of (codes "heal") (heal_words h)
heal_joined h =
    let cell = cell_word h.0 in
    let front : heal_line h ≡ codes "heal " ++ cell ++ codes " from " ++ h.1 ++ codes " to " ++ h.2 ++ codes "\n" = ap (λ c. codes "heal " ++ c ++ codes " from " ++ h.1 ++ codes " to " ++ h.2 ++ codes "\n") (cell_is h.0) in
    front ∙ seven (codes "heal ") cell (codes " from ") h.1 (codes " to ") h.2 (codes "\n")

pub skip_joined : (s : Cell × SkipCause) → skip_line s ≡ line_of (codes "skip") (skip_words s)
skip_joined s = ap (λ c. codes "skip " ++ c ++ codes " " ++ cause_word s.1 ++ codes "\n") (cell_is s.0) ∙ simp append_assoc refl

pub graph_joined : (g : ReportGraph) → graph_line g ≡ line_of (codes "graph") (graph_words g)
graph_joined g = simp append_assoc refl
