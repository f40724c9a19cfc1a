-- Readers of the words of a line. A reader gives the value that the first words write, with the words behind them; a
-- reader of a whole rest gives the value that all of them write. Else the line is in no report.
use Rattle.std.specs.Prelude.{◌≡◌, ℕ, ◌==◌, Bool, List, [], ◌∷◌, ◌++◌, length, Option, Some, None, Result, Ok, Err, if◌then◌else◌}
use Rattle.std.specs.Borrow.{Bor}
use Rattle.volfile.specs.TextLines.{parts_between, is_text}
use Rattle.report_reader.specs.declared.bad.Bad.{Bad}
use Rattle.report_reader.specs.declared.bad.Bad.TheVariants.{Line, Mem}
use Rattle.report_reader.specs.declared.words.Words.{Words}

-- ---- the parts of a line, or of a word
abbrev pub parts_at : ℕ → List ℕ → List (List ℕ)
parts_at stop bytes = parts_between (λ b. b == stop) bytes

abbrev pub parts_of_rest : ℕ → Option (Bor (List ℕ)) → List (List ℕ)
parts_of_rest stop None = []
parts_of_rest stop (Some rest) = parts_at stop rest.now

-- those that were not read
abbrev pub left : Words → List (List ℕ)
left words = parts_of_rest words.stop words.rest

-- ---- what a function of the code answers, but for running out of memory
-- a value of one word
abbrev pub Finds : {X A : Type 0} → (X → A) → Result X Bad → Option A → Type 0
Finds seen (Ok x) found = found ≡ Some (seen x)
Finds seen (Err Line) found = found ≡ None
Finds seen (Err Mem) found = Unit {0}

abbrev pub IsForm : {A : Type 0} → Result A Bad → Option A → Type 0
IsForm result found = Finds (λ x. x) result found

-- a value of some words, with the words behind them
abbrev pub Gives : {X A : Type 0} → (X → A) → Result X Bad → Result A Bad → Type 0
Gives seen (Ok x) reading = reading ≡ Ok (seen x)
Gives seen (Err Line) reading = reading ≡ Err Line
Gives seen (Err Mem) reading = Unit {0}

-- ---- readers
abbrev pub Reader : Type 0 → Type 0
Reader A = List (List ℕ) → Result (A × List (List ℕ)) Bad

abbrev pub Whole : Type 0 → Type 0
Whole A = List (List ℕ) → Result A Bad

-- the function reads as the reader does
abbrev pub Reads : {A : Type 0} → Reader A → Words → Result (A × Words) Bad → Type 0
Reads read words result = Gives (λ x. (x.0, left x.1)) result (read (left words))

abbrev pub ReadsAll : {A : Type 0} → Whole A → Words → Result A Bad → Type 0
ReadsAll read words result = Gives (λ x. x) result (read (left words))

abbrev pub after : {A B : Type 0} → (A → Reader B) → Result (A × List (List ℕ)) Bad → Result (B × List (List ℕ)) Bad
after rest (Ok p) = rest p.0 p.1
after rest (Err bad) = Err bad

-- some words and then others
abbrev pub chain : {A B : Type 0} → Reader A → (A → Reader B) → Reader B
chain first rest words = after rest (first words)

abbrev pub after_all : {A B : Type 0} → (A → Whole B) → Result (A × List (List ℕ)) Bad → Result B Bad
after_all rest (Ok p) = rest p.0 p.1
after_all rest (Err bad) = Err bad

abbrev pub chain_all : {A B : Type 0} → Reader A → (A → Whole B) → Whole B
chain_all first rest words = after_all rest (first words)

-- the next word
abbrev pub word_at : Reader (List ℕ)
word_at [] = Err Line
word_at (w ∷ ws) = Ok (w, ws)

abbrev pub found_or_bad : {A : Type 0} → Option A → List (List ℕ) → Result (A × List (List ℕ)) Bad
found_or_bad None ws = Err Line
found_or_bad (Some a) ws = Ok (a, ws)

-- the next word, which has a form
abbrev pub form_at : {A : Type 0} → (List ℕ → Option A) → Reader A
form_at form [] = Err Line
form_at form (w ∷ ws) = found_or_bad (form w) ws

-- the next word is this one
abbrev pub text_at : List ℕ → Whole (List (List ℕ))
text_at text [] = Err Line
text_at text (w ∷ ws) = if is_text w text then Ok ws else Err Line

abbrev pub go_on : {A : Type 0} → (List (List ℕ) → Result A Bad) → Result (List (List ℕ)) Bad → Result A Bad
go_on read (Ok ws) = read ws
go_on read (Err bad) = Err bad

-- this word, and then what a reader reads
abbrev pub behind : {A : Type 0} → List ℕ → (List (List ℕ) → Result A Bad) → List (List ℕ) → Result A Bad
behind text read ws = go_on read (text_at text ws)

-- no word is left
abbrev pub is_end : List (List ℕ) → Bool
is_end ws = length ws == 0

abbrev pub ended : {A : Type 0} → A → Whole A
ended a ws = if is_end ws then Ok a else Err Line

-- ---- lists up to the end of the line
abbrev pub with_first : {A : Type 0} → Option A → Result (List A) Bad → Result (List A) Bad
with_first None rest = Err Line
with_first (Some a) (Ok xs) = Ok (a ∷ xs)
with_first (Some a) (Err bad) = Err bad

-- a value for each word
abbrev pub each_word : {A : Type 0} → (List ℕ → Option A) → Whole (List A)
each_word form [] = Ok []
each_word form (w ∷ ws) = with_first (form w) (each_word form ws)

-- those so far, and what the rest gives
abbrev pub onto : {A : Type 0} → List A → Result (List A) Bad → Result (List A) Bad
onto xs (Ok ys) = Ok (xs ++ ys)
onto xs (Err bad) = Err bad
