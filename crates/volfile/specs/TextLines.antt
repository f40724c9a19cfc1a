-- How the program's texts are cut: a text into lines, a line into words, and the forms of words. A line
-- ends at a line feed, and a last one without it counts if it is not empty. Words are separated by
-- blanks: spaces, tabs and carriage returns.
use Rattle.std.specs.Prelude.{ℕ, suc, ◌+◌, ◌==◌, ◌&&◌, ◌||◌, nat_le, nat_lt, Bool, if◌then◌else◌, List, [], ◌∷◌, length}
use Rattle.std.specs.List.{list_all}
use Rattle.std.specs.Cmp.Lexicographic.{pointwise}

abbrev pub onto_first : ℕ → List (List ℕ) → List (List ℕ)
onto_first b [] = (b ∷ []) ∷ []
onto_first b (l ∷ ls) = (b ∷ l) ∷ ls

-- the lines of a text, without their line feeds
abbrev pub lines_of : List ℕ → List (List ℕ)
lines_of [] = []
lines_of (b ∷ bs) = if b == 10 then [] ∷ lines_of bs else onto_first b (lines_of bs)

-- the parts between the bytes that pass the test: one more than there are such bytes
abbrev pub parts_between : (ℕ → Bool) → List ℕ → List (List ℕ)
parts_between test [] = [] ∷ []
parts_between test (b ∷ bs) = if test b then [] ∷ parts_between test bs else onto_first b (parts_between test bs)

-- those that are not empty
abbrev pub non_empty : List (List ℕ) → List (List ℕ)
non_empty [] = []
non_empty ([] ∷ ws) = non_empty ws
non_empty ((b ∷ bs) ∷ ws) = (b ∷ bs) ∷ non_empty ws

-- space, tab, carriage return
abbrev pub is_blank : ℕ → Bool
is_blank b = (b == 32) || (b == 9) || (b == 13)

-- the words of a line
abbrev pub words_of : List ℕ → List (List ℕ)
words_of line = non_empty (parts_between is_blank line)

-- how many bytes are before the first that passes the test
abbrev pub front_len : (ℕ → Bool) → List ℕ → ℕ
front_len test [] = 0
front_len test (b ∷ bs) = if test b then 0 else suc (front_len test bs)

-- a word before other words, where it is not empty
abbrev pub with_word : List ℕ → List (List ℕ) → List (List ℕ)
with_word [] words = words
with_word (b ∷ bs) words = (b ∷ bs) ∷ words

-- a byte that may be in a text: 32 to 126, tab, carriage return
abbrev pub is_text_byte : ℕ → Bool
is_text_byte b = (nat_le 32 b && nat_le b 126) || (b == 9) || (b == 13)

-- 33 to 126
abbrev pub is_visible : ℕ → Bool
is_visible b = nat_le 33 b && nat_le b 126

-- one or more visible bytes
abbrev pub is_visible_word : List ℕ → Bool
is_visible_word w = nat_le 1 (length w) && list_all is_visible w

-- a letter, a digit, `_`, `-` or `.`
abbrev pub is_name_byte : ℕ → Bool
is_name_byte b = (nat_le 97 b && nat_le b 122) || (nat_le 65 b && nat_le b 90) || (nat_le 48 b && nat_le b 57) || (b == 95) || (b == 45) || (b == 46)

-- 1 to 64 such bytes
abbrev pub is_name : List ℕ → Bool
is_name w = nat_le 1 (length w) && nat_le (length w) 64 && list_all is_name_byte w

-- whether two words are the same
abbrev pub is_text : List ℕ → List ℕ → Bool
is_text word text = pointwise ◌==◌ word text

-- the number of the line after: it stays at the greatest number of 32 bits
abbrev pub line_after : ℕ → ℕ
line_after number = if nat_lt number 4294967295 then number + 1 else number
