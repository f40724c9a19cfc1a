-- The words of a legal report hold no space and no line feed: each of their bytes is above 32.
use Rattle.std.proofs.Common.{◌≡◌, ℕ, ◌^◌, ◌<◌, ◌==◌, not, nat_le, Bool, true, false, cond, List, [], ◌∷◌, ◌++◌, append-nil, length, codes, flat_map, decimal, refl, ap, ◌∙◌, arith}
use Rattle.std.proofs.lemmas.Bool.Decides.{nat_tests}
use Rattle.std.proofs.lemmas.List.Folds.{list_all-append}
use Rattle.std.specs.List.{list_all}
use Rattle.std.specs.Fmt.{digits}
use Rattle.xl_base.specs.Words.{is_digit, is_hex_digit}
use Rattle.volfile.specs.TextLines.{is_name_byte}
use Rattle.volfile.proofs.WellRead.{both_so, weaker}
use Rattle.fop_types.specs.Bounds.{Each, IsUnit, is_name_byte as is_item_byte}
use Rattle.fop_types.specs.Errors.{number_of, name_of}
use Rattle.fop_types.specs.declared.answers.AppError.{AppError}
use Rattle.fop_types.specs.declared.answers.AppError.TheVariants.{Enoent, Ebadf, Ebusy, Eexist, Enotdir, Eisdir, Einval, Efbig, Enametoolong, Enotempty, Enodata, Eopnotsupp}
use Rattle.fop_types.specs.declared.cells.Cell.{Cell}
use Rattle.fop_types.specs.declared.cells.Aspect.{Aspect}
use Rattle.fop_types.specs.declared.cells.Aspect.TheVariants.{Data, Meta, Entry}
use Rattle.fop_types.specs.declared.cells.Kind.{Kind}
use Rattle.fop_types.specs.declared.cells.Kind.TheVariants.{File, Dir, Link}
use Rattle.fop_types.specs.declared.causes.SkipCause.{SkipCause}
use Rattle.fop_types.specs.declared.causes.SkipCause.TheVariants.{Majority, Unsettled, Split as SplitCause}
use Rattle.report_text.specs.Words.{hex_of, aspect_word, gfid_text, kind_word, cause_word, bytes_hex, after_comma, numbers_text, places_text}
use Rattle.report_text.specs.AnswerText.{present_word}
use Rattle.report_text.specs.declared.answers.ReportAnswer.{ReportAnswer}
use Rattle.report_text.specs.declared.answers.ReportAnswer.TheVariants.{Done, Count, Bytes, Stat, List as Items, App, Io}
use Rattle.report_text.specs.declared.calls.ReportCall.{ReportCall}
use Rattle.report_text.specs.declared.faults.ReportIo.{ReportIo}
use Rattle.report_text.specs.declared.faults.ReportIo.TheVariants.{Quorum, Split, Fault}
use Rattle.report_text.specs.declared.faults.ReportRow.{ReportRow}
use Rattle.report_text.specs.declared.graphs.ReportGraph.{ReportGraph}
use Rattle.report_reader.specs.Reports.{IsName, IsItem, IsLost, IsFailed, IsRow, IsIo, IsByte, IsAnswer, IsCall, IsEntry, IsHeal, IsSkip, IsGraph}
use Rattle.report_reader.specs.code.Forms.{is_octal}
use Rattle.report_reader.proofs.Joins.{joined, has_no}
use Rattle.report_reader.proofs.Laws.{words_each}
use Rattle.report_reader.proofs.NumberLaws.{decimal_digits, hex_digits, octal_digits, bytes_digits}
use Rattle.report_reader.proofs.WordLaws.{name_bytes, item_bytes}
use Rattle.report_reader.proofs.LineWords.{cell_word, brick_word, item_word, row_words, rows_words, failures_words, io_words, answer_words, call_words, entry_words, heal_words, skip_words, graph_words}
use Rattle.report_reader.proofs.AnswerLaws.{numbers_error}

abbrev pub is_inner : ℕ → Bool
is_inner b = nat_le 33 b

abbrev pub IsPlain : List ℕ → Type 0
IsPlain w = list_all is_inner w ≡ true

-- ---- bytes
no_space : (b : ℕ) → is_inner b ≡ true → not (b == 32) ≡ true
no_space b h = grind (arith, nat_tests)

no_feed : (b : ℕ) → is_inner b ≡ true → not (b == 10) ≡ true
no_feed b h = grind (arith, nat_tests)

digit_inner : (b : ℕ) → is_digit b ≡ true → is_inner b ≡ true
digit_inner b h = grind (arith, nat_tests)

hex_inner : (b : ℕ) → is_hex_digit b ≡ true → is_inner b ≡ true
hex_inner b h = grind (arith, nat_tests)

octal_inner : (b : ℕ) → is_octal b ≡ true → is_inner b ≡ true
octal_inner b h = grind (arith, nat_tests)

name_inner : (b : ℕ) → is_name_byte b ≡ true → is_inner b ≡ true
name_inner b h = grind (arith, nat_tests)

item_inner : (b : ℕ) → is_item_byte b ≡ true → is_inner b ≡ true
item_inner b h = grind (arith, nat_tests)

pub plain_spaces : (w : List ℕ) → IsPlain w → has_no 32 w
plain_spaces w h = weaker is_inner (λ b. not (b == 32)) no_space w h

pub plain_feeds : (w : List ℕ) → IsPlain w → has_no 10 w
plain_feeds w h = weaker is_inner (λ b. not (b == 10)) no_feed w h

pub each_spaces : (ws : List (List ℕ)) → Each IsPlain ws → Each (has_no 32) ws
each_spaces [] h = tt
each_spaces (w ∷ ws) h = (plain_spaces w h.0, each_spaces ws h.1)

-- a line of such words holds no line feed
pub line_feeds : (w : List ℕ) (ws : List (List ℕ)) → IsPlain w → Each IsPlain ws → has_no 10 (joined 32 w ws [])
line_feeds w [] h hs = ap (list_all (λ b. not (b == 10))) (append-nil w) ∙ plain_feeds w h
line_feeds w (v ∷ vs) h hs =
    list_all-append (λ b. not (b == 10)) w (32 ∷ joined 32 v vs [])
    ∙ both_so (list_all (λ b. not (b == 10)) w) (list_all (λ b. not (b == 10)) (32 ∷ joined 32 v vs [])) (plain_feeds w h) (line_feeds v vs hs.0 hs.1)

-- ---- words
append_plain : (u v : List ℕ) → IsPlain u → IsPlain v → IsPlain (u ++ v)
append_plain u v h k = list_all-append is_inner u v ∙ both_so (list_all is_inner u) (list_all is_inner v) h k

number_plain : (n : ℕ) → n < 2 ^ 64 → IsPlain (decimal n)
number_plain n h = weaker is_digit is_inner digit_inner (decimal n) (decimal_digits n h)

pub unit_plain : (n : ℕ) → IsUnit n → IsPlain (decimal n)
unit_plain n h = number_plain n (omega (arith, h))

name_plain : (w : List ℕ) → IsName w → IsPlain w
name_plain w h = weaker is_name_byte is_inner name_inner w (name_bytes w h)

mode_plain : (n : ℕ) → n < 65536 → IsPlain (digits 8 false n)
mode_plain n h = weaker is_octal is_inner octal_inner (digits 8 false n) (octal_digits n h)

hex_plain : (k n : ℕ) → IsPlain (hex_of k n)
hex_plain k n = weaker is_hex_digit is_inner hex_inner (hex_of k n) (hex_digits k n)

bytes_plain : (bs : List ℕ) → Each IsByte bs → IsPlain (bytes_hex bs)
bytes_plain bs h = weaker is_hex_digit is_inner hex_inner (bytes_hex bs) (bytes_digits bs h)

aspect_plain : (a : Aspect) → IsPlain (aspect_word a)
aspect_plain Data = refl
aspect_plain Meta = refl
aspect_plain Entry = refl

cell_plain : (c : Cell) → IsPlain (cell_word c)
cell_plain c = append_plain (gfid_text c.gfid) (47 ∷ aspect_word c.aspect) (append_plain (hex_of 16 c.gfid.hi) (hex_of 16 c.gfid.lo) (hex_plain 16 c.gfid.hi) (hex_plain 16 c.gfid.lo)) (aspect_plain c.aspect)

kind_plain : (k : Kind) → IsPlain (kind_word k)
kind_plain File = refl
kind_plain Dir = refl
kind_plain Link = refl

cause_plain : (c : SkipCause) → IsPlain (cause_word c)
cause_plain Majority = refl
cause_plain Unsettled = refl
cause_plain SplitCause = refl

present_plain : (b : Bool) → IsPlain (present_word b)
present_plain true = refl
present_plain false = refl

error_plain : (e : AppError) → IsPlain (name_of e)
error_plain Enoent = refl
error_plain Ebadf = refl
error_plain Ebusy = refl
error_plain Eexist = refl
error_plain Enotdir = refl
error_plain Eisdir = refl
error_plain Einval = refl
error_plain Efbig = refl
error_plain Enametoolong = refl
error_plain Enotempty = refl
error_plain Enodata = refl
error_plain Eopnotsupp = refl

commas_plain : (ns : List ℕ) → Each IsUnit ns → IsPlain (flat_map after_comma ns)
commas_plain [] h = refl
commas_plain (n ∷ ns) h = append_plain (44 ∷ decimal n) (flat_map after_comma ns) (unit_plain n h.0) (commas_plain ns h.1)

numbers_plain : (ns : List ℕ) → Each IsUnit ns → IsPlain (numbers_text ns)
numbers_plain [] h = refl
numbers_plain (n ∷ ns) h = append_plain (decimal n) (flat_map after_comma ns) (unit_plain n h.0) (commas_plain ns h.1)

places_plain : (ns : List ℕ) → Each IsUnit ns → IsPlain (places_text ns)
places_plain [] h = refl
places_plain (n ∷ ns) h = numbers_plain (n ∷ ns) h

brick_plain : (b : List ℕ × ℕ) → IsName b.0 → b.1 < 2 ^ 64 → IsPlain (brick_word b)
brick_plain b h k = append_plain b.0 (58 ∷ decimal b.1) (name_plain b.0 h) (number_plain b.1 k)

lost_plain : (b : List ℕ × ℕ) → IsLost b → IsPlain (brick_word b)
lost_plain b h = brick_plain b h.0 (omega (arith, h.1))

failed_plain : (b : List ℕ × ℕ) → IsFailed b → IsPlain (brick_word b)
failed_plain b h = brick_plain b h.0 h.1

item_plain : (i : List ℕ × Kind) → IsItem i → IsPlain (item_word i)
item_plain i h = append_plain i.0 (47 ∷ kind_word i.1) (weaker is_item_byte is_inner item_inner i.0 (item_bytes i.0 h.0.0)) (kind_plain i.1)

-- ---- the words of an answer
each_plain : {A : Type 0} (P : A → Type 0) (text : A → List ℕ) → ((a : A) → P a → IsPlain (text a)) → (xs : List A) → Each P xs → Each IsPlain (words_each text xs)
each_plain P text one [] h = tt
each_plain P text one (x ∷ xs) h = (one x h.0, each_plain P text one xs h.1)

more_plain : (us vs : List (List ℕ)) → Each IsPlain us → Each IsPlain vs → Each IsPlain (us ++ vs)
more_plain [] vs h k = k
more_plain (u ∷ us) vs h k = (h.0, more_plain us vs h.1 k)

row_plain : (row : ReportRow) → IsRow row → Each IsPlain (row_words row)
row_plain row h =
    (refl, (cell_plain row.cell, (name_plain row.brick h.brick, (present_plain row.present, (unit_plain row.dirty h.dirty, (numbers_plain row.pending h.pending, (number_plain row.last h.last, tt)))))))

rows_plain : (rows : List ReportRow) → Each IsRow rows → Each IsPlain (rows_words rows)
rows_plain [] h = tt
rows_plain (row ∷ rows) h = more_plain (row_words row) (rows_words rows) (row_plain row h.0) (rows_plain rows h.1)

failures_plain : (faults lost : List (List ℕ × ℕ)) → Each IsFailed faults → Each IsLost lost → Each IsPlain (failures_words faults lost)
failures_plain [] [] h k = tt
failures_plain [] (b ∷ bs) h k = (refl, each_plain IsLost brick_word lost_plain (b ∷ bs) k)
failures_plain (f ∷ fs) lost h k = (failed_plain f h.0, failures_plain fs lost h.1 k)

io_plain : (io : ReportIo) → IsIo io → Each IsPlain (io_words io)
io_plain (Quorum set lost) h = (refl, (refl, (refl, (name_plain set h.0, (refl, each_plain IsLost brick_word lost_plain lost h.1)))))
io_plain (Split set rows) h = (refl, (refl, (refl, (name_plain set h.0, rows_plain rows h.1))))
io_plain (Fault set faults lost) h = (refl, (refl, (refl, (name_plain set h.0, (refl, failures_plain faults lost h.1 h.2)))))

answer_plain : (a : ReportAnswer) → IsAnswer a → Each IsPlain (answer_words a)
answer_plain Done h = (refl, tt)
answer_plain (Count n) h = (refl, (unit_plain n h, tt))
answer_plain (Bytes bytes) h = (refl, (bytes_plain bytes h, tt))
answer_plain (Stat kind mode size) h = (refl, (kind_plain kind, (mode_plain mode h.1, (unit_plain size h.2, tt))))
answer_plain (Items items) h = (refl, (unit_plain (length items) h.1, each_plain IsItem item_word item_plain items h.2))
answer_plain (App error) h = (refl, (unit_plain (number_of error) (numbers_error error), (error_plain error, tt)))
answer_plain (Io io) h = (refl, io_plain io h)

-- ---- the words of a line, behind the first
pub call_plain : (c : ReportCall) → IsCall c → Each IsPlain (call_words c)
call_plain c h =
    (unit_plain c.call h.number, (refl, (name_plain c.session h.session, (refl, (unit_plain c.line h.line, (refl, (places_plain c.places h.places, answer_plain c.answer h.answer)))))))

pub entry_plain : (i : ℕ) (e : ℕ × ℕ) → IsUnit i → IsEntry e → Each IsPlain (entry_words i e)
entry_plain i e small h = (unit_plain i small, (refl, (unit_plain e.0 h.0, (refl, (number_plain e.1 (omega (arith, h.1)), tt)))))

pub heal_plain : (k : Cell × List ℕ × List ℕ) → IsHeal k → Each IsPlain (heal_words k)
heal_plain k h = (cell_plain k.0, (refl, (name_plain k.1 h.1, (refl, (name_plain k.2 h.2, tt)))))

pub skip_plain : (k : Cell × SkipCause) → IsSkip k → Each IsPlain (skip_words k)
skip_plain k h = (cell_plain k.0, (cause_plain k.1, tt))

drained_plain : (b : Bool) → IsPlain (cond b (codes "drained") (codes "open"))
drained_plain true = refl
drained_plain false = refl

pub graph_plain : (g : ReportGraph) → IsGraph g → Each IsPlain (graph_words g)
graph_plain g h =
    (unit_plain g.graph h.number, (name_plain g.name h.name, (refl, (unit_plain g.opened h.opened, (refl, (unit_plain g.ended h.ended, (drained_plain (g.opened == g.ended), tt)))))))
