-- How the words of an answer are read, up to the end of the line.
use Rattle.std.specs.Prelude.{ℕ, zero, suc, ◌==◌, ◌&&◌, Bool, List, [], ◌∷◌, ◌++◌, length, drop, codes, Option, Some, None, Result, Ok, Err, if◌then◌else◌}
use Rattle.std.specs.List.{starts_with}
use Rattle.xl_base.specs.Words.{decimal_of, hex_of}
use Rattle.volfile.specs.TextLines.{is_text}
use Rattle.fop_types.specs.declared.cells.Cell.{Cell}
use Rattle.fop_types.specs.declared.cells.Kind.{Kind}
use Rattle.fop_types.specs.declared.answers.AppError.{AppError}
use Rattle.report_text.specs.declared.answers.ReportAnswer.{ReportAnswer}
use Rattle.report_text.specs.declared.answers.ReportAnswer.TheVariants as answer
use Rattle.report_text.specs.declared.faults.ReportIo.{ReportIo}
use Rattle.report_text.specs.declared.faults.ReportIo.TheVariants.{Quorum, Split, Fault}
use Rattle.report_text.specs.declared.faults.ReportRow.{ReportRow}
use Rattle.report_reader.specs.declared.bad.Bad.{Bad}
use Rattle.report_reader.specs.declared.bad.Bad.TheVariants.{Line}
use Rattle.report_reader.specs.code.Readers.{Reader, Whole, chain, chain_all, word_at, form_at, behind, ended, each_word}
use Rattle.report_reader.specs.code.Forms.{unit_of, octal_of, cell_of, name_at, kind_of, item_of, failed_of, lost_of, presence_of, counters_of, numbered, named}

-- ---- I/O errors
abbrev pub quorum_made : List ℕ → Result (List (List ℕ × ℕ)) Bad → Result ReportIo Bad
quorum_made set (Ok lost) = Ok (Quorum set lost)
quorum_made set (Err bad) = Err bad

-- quorum SET lost BRICK:CONN ..
abbrev pub quorum_of : Whole ReportIo
quorum_of ws = behind (codes "quorum") (chain_all (form_at name_at) (λ set. behind (codes "lost") (λ us. quorum_made set (each_word lost_of us)))) ws

abbrev pub row_made : Cell → List ℕ → Bool → ℕ → List ℕ → ℕ → ReportRow
row_made cell brick present dirty pending last =
    record { cell = cell; brick = brick; present = present; dirty = dirty; pending = pending; last = last }

-- PRESENT DIRTY PENDING LAST
abbrev pub counts_at : Cell → List ℕ → Reader ReportRow
counts_at cell brick =
    chain (form_at presence_of) (λ present. chain (form_at unit_of) (λ dirty. chain (form_at counters_of) (λ pending. chain (form_at decimal_of) (λ last ws.
    Ok (row_made cell brick present dirty pending last, ws)))))

-- row CELL BRICK PRESENT DIRTY PENDING LAST
abbrev pub row_at : Reader ReportRow
row_at ws = behind (codes "row") (chain (form_at cell_of) (λ cell. chain (form_at name_at) (λ brick. counts_at cell brick))) ws

abbrev pub rows_made : ReportRow → Result (List ReportRow) Bad → Result (List ReportRow) Bad
rows_made row (Ok rows) = Ok (row ∷ rows)
rows_made row (Err bad) = Err bad

-- so many rows at most: there are no more than words
abbrev pub rows_in : ℕ → Whole (List ReportRow)
rows_in zero [] = Ok []
rows_in zero (w ∷ ws) = Err Line
rows_in (suc most) [] = Ok []
rows_in (suc most) (w ∷ ws) = chain_all row_at (λ row us. rows_made row (rows_in most us)) (w ∷ ws)

abbrev pub rows_of : Whole (List ReportRow)
rows_of ws = rows_in (length ws) ws

-- rows so far, and what the rest gives
abbrev pub rows_onto : List ReportRow → Result (List ReportRow) Bad → Result (List ReportRow) Bad
rows_onto rows (Ok more) = Ok (rows ++ more)
rows_onto rows (Err bad) = Err bad

abbrev pub split_made : List ℕ → Result (List ReportRow) Bad → Result ReportIo Bad
split_made set (Ok rows) = Ok (Split set rows)
split_made set (Err bad) = Err bad

-- what follows `split`
abbrev pub split_of : Whole ReportIo
split_of ws = chain_all (form_at name_at) (λ set us. split_made set (rows_of us)) ws

-- faults, and the losses behind them
abbrev pub Failures : Type 0
Failures = List (List ℕ × ℕ) × List (List ℕ × ℕ)

abbrev pub losses_made : Result (List (List ℕ × ℕ)) Bad → Result Failures Bad
losses_made (Ok lost) = Ok ([], lost)
losses_made (Err bad) = Err bad

-- what follows `lost`: one brick or more
abbrev pub losses_of : Whole Failures
losses_of [] = Err Line
losses_of (w ∷ ws) = losses_made (each_word lost_of (w ∷ ws))

abbrev pub with_fault : Option (List ℕ × ℕ) → Result Failures Bad → Result Failures Bad
with_fault None rest = Err Line
with_fault (Some fault) (Ok all) = Ok (fault ∷ all.0, all.1)
with_fault (Some fault) (Err bad) = Err bad

-- BRICK:PLACE .. lost BRICK:CONN ..
abbrev pub failures_of : Whole Failures
failures_of [] = Ok ([], [])
failures_of (w ∷ ws) = if is_text w (codes "lost") then losses_of ws else with_fault (failed_of w) (failures_of ws)

-- faults so far, and what the rest gives
abbrev pub failures_onto : List (List ℕ × ℕ) → Result Failures Bad → Result Failures Bad
failures_onto faults (Ok all) = Ok (faults ++ all.0, all.1)
failures_onto faults (Err bad) = Err bad

abbrev pub fault_made : List ℕ → Result Failures Bad → Result ReportIo Bad
fault_made set (Ok all) = Ok (Fault set all.0 all.1)
fault_made set (Err bad) = Err bad

-- what follows `fault`
abbrev pub fault_of : Whole ReportIo
fault_of ws = chain_all (form_at name_at) (λ set. behind (codes "fault") (λ us. fault_made set (failures_of us))) ws

abbrev pub input_output_by : List ℕ → Whole ReportIo
input_output_by w ws = if is_text w (codes "split") then split_of ws else if is_text w (codes "fault") then fault_of ws else Err Line

-- what follows `error 5 EIO`
abbrev pub input_output_of : Whole ReportIo
input_output_of [] = Err Line
input_output_of (w ∷ ws) = input_output_by w ws

-- ---- errors
abbrev pub io_made : Result ReportIo Bad → Result ReportAnswer Bad
io_made (Ok io) = Ok (answer.Io io)
io_made (Err bad) = Err bad

abbrev pub app_made : Option AppError → Whole ReportAnswer
app_made None ws = Err Line
app_made (Some error) ws = ended (answer.App error) ws

-- what follows the number and the name
abbrev pub error_with : ℕ → List ℕ → Whole ReportAnswer
error_with n name ws =
    if (n == 107) && is_text name (codes "ENOTCONN") then io_made (quorum_of ws)
    else if (n == 5) && is_text name (codes "EIO") then io_made (input_output_of ws)
    else app_made (named (numbered n) name) ws

-- what follows `error`
abbrev pub error_of : Whole ReportAnswer
error_of ws = chain_all (form_at unit_of) (λ n. chain_all word_at (λ name. error_with n name)) ws

-- ---- what follows `ok`
abbrev pub stat_of : Kind → Whole ReportAnswer
stat_of kind ws = chain_all (form_at octal_of) (λ mode. chain_all (form_at unit_of) (λ size. ended (answer.Stat kind mode size))) ws

abbrev pub is_hex_word : List ℕ → Bool
is_hex_word word = starts_with ◌==◌ word (codes "x:")

abbrev pub bytes_made : Option (List ℕ) → Whole ReportAnswer
bytes_made None ws = Err Line
bytes_made (Some bytes) ws = ended (answer.Bytes bytes) ws

abbrev pub items_made : ℕ → Result (List (List ℕ × Kind)) Bad → Result ReportAnswer Bad
items_made n (Ok items) = if length items == n then Ok (answer.List items) else Err Line
items_made n (Err bad) = Err bad

-- a count, and the items of a list where there are some
abbrev pub counted : Option ℕ → Whole ReportAnswer
counted None ws = Err Line
counted (Some n) [] = Ok (answer.Count n)
counted (Some n) (w ∷ ws) = items_made n (each_word item_of (w ∷ ws))

abbrev pub plain_of : List ℕ → Whole ReportAnswer
plain_of w ws = if is_hex_word w then bytes_made (hex_of (drop 2 w)) ws else counted (unit_of w) ws

abbrev pub shown_of : Option Kind → List ℕ → Whole ReportAnswer
shown_of (Some kind) w ws = stat_of kind ws
shown_of None w ws = plain_of w ws

abbrev pub success_of : Whole ReportAnswer
success_of [] = Ok answer.Done
success_of (w ∷ ws) = shown_of (kind_of w) w ws

-- ---- an answer
abbrev pub answer_by : List ℕ → Whole ReportAnswer
answer_by w ws = if is_text w (codes "ok") then success_of ws else if is_text w (codes "error") then error_of ws else Err Line

abbrev pub answer_of : Whole ReportAnswer
answer_of [] = Err Line
answer_of (w ∷ ws) = answer_by w ws
