-- The words of a call's answer, which begin with `ok`, or with `error`, Linux's number and POSIX's name.
use Rattle.std.specs.Prelude.{ℕ, Bool, false, List, [], ◌∷◌, ◌++◌, length, codes, flat_map, if◌then◌else◌}
use Rattle.std.specs.Fmt.{decimal, digits}
use Rattle.fop_types.specs.Errors.{number_of, name_of}
use Rattle.fop_types.specs.declared.cells.Kind.{Kind}
use Rattle.report_text.specs.Words.{cell_text, kind_word, bytes_hex, numbers_text}
use Rattle.report_text.specs.declared.answers.ReportAnswer.{ReportAnswer}
use Rattle.report_text.specs.declared.answers.ReportAnswer.TheVariants.{Done, Count, Bytes, Stat, List as Items, App, Io}
use Rattle.report_text.specs.declared.faults.ReportIo.{ReportIo}
use Rattle.report_text.specs.declared.faults.ReportIo.TheVariants.{Quorum, Split, Fault}
use Rattle.report_text.specs.declared.faults.ReportRow.{ReportRow}

-- one name of a list: NAME/KIND
abbrev pub item_text : List ℕ × Kind → List ℕ
item_text item = codes " " ++ item.0 ++ codes "/" ++ kind_word item.1

-- a brick and the number of its connection, or the place in its journal
abbrev pub brick_text : List ℕ × ℕ → List ℕ
brick_text brick = codes " " ++ brick.0 ++ codes ":" ++ decimal brick.1

abbrev pub lost_text : List (List ℕ × ℕ) → List ℕ
lost_text lost = codes " lost" ++ flat_map brick_text lost

-- nothing where no brick was lost
abbrev pub losses_text : List (List ℕ × ℕ) → List ℕ
losses_text [] = []
losses_text (brick ∷ lost) = lost_text (brick ∷ lost)

-- 1 where the copy is there
abbrev pub present_word : Bool → List ℕ
present_word present = if present then codes "1" else codes "0"

-- PRESENT DIRTY PENDING LAST
unfoldable pub counts_text : ReportRow → List ℕ
counts_text row = codes " " ++ present_word row.present ++ codes " " ++ decimal row.dirty
    ++ codes " " ++ numbers_text row.pending ++ codes " " ++ decimal row.last

-- row CELL BRICK PRESENT DIRTY PENDING LAST
abbrev pub row_text : ReportRow → List ℕ
row_text row = codes " row " ++ cell_text row.cell ++ codes " " ++ row.brick ++ counts_text row

-- what begins the answer of a set that lost its quorum
unfoldable pub not_connected : List ℕ
not_connected = codes "error 107 ENOTCONN "

-- what begins the answer of a set in split brain or with faults
unfoldable pub input_output : List ℕ
input_output = codes "error 5 EIO "

-- error 107 ENOTCONN quorum SET lost BRICK:CONN ..
-- error 5 EIO split SET row CELL BRICK PRESENT DIRTY PENDING LAST ..
-- error 5 EIO fault SET fault BRICK:PLACE .. lost BRICK:CONN ..
abbrev pub io_text : ReportIo → List ℕ
io_text (Quorum set lost) = not_connected ++ codes "quorum " ++ set ++ lost_text lost
io_text (Split set rows) = input_output ++ codes "split " ++ set ++ flat_map row_text rows
io_text (Fault set faults lost) = input_output ++ codes "fault " ++ set ++ codes " fault" ++ flat_map brick_text faults ++ losses_text lost

abbrev pub answer_text : ReportAnswer → List ℕ
answer_text Done = codes "ok"
answer_text (Count n) = codes "ok " ++ decimal n
answer_text (Bytes bytes) = codes "ok x:" ++ bytes_hex bytes
answer_text (Stat kind mode size) = codes "ok " ++ kind_word kind ++ codes " " ++ digits 8 false mode ++ codes " " ++ decimal size
answer_text (Items items) = codes "ok " ++ decimal (length items) ++ flat_map item_text items
answer_text (App error) = codes "error " ++ decimal (number_of error) ++ codes " " ++ name_of error
answer_text (Io io) = io_text io
