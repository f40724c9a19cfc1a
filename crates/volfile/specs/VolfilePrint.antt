-- The one form of a volfile: each statement on a line of its own with single spaces, its type, options
-- and subvolumes in this order. A value is between quotes only where it holds a space, a tab, a
-- carriage return or `#`, or is empty.
use Rattle.std.specs.Prelude.{ℕ, ◌==◌, ◌||◌, not, Bool, if◌then◌else◌, List, [], ◌∷◌, ◌++◌, length, codes, flat_map}
use Rattle.std.specs.List.{list_all}
use Rattle.volfile.specs.TextLines.{is_blank}
use Rattle.volfile.specs.declared.volumes.OptionLine.{OptionLine}
use Rattle.volfile.specs.declared.volumes.Volume.{Volume}

-- neither a blank nor `#`
abbrev pub stands_alone : ℕ → Bool
stands_alone b = not (is_blank b || (b == 35))

abbrev pub needs_quotes : List ℕ → Bool
needs_quotes value = (length value == 0) || not (list_all stands_alone value)

abbrev pub value_text : List ℕ → List ℕ
value_text value = if needs_quotes value then 34 ∷ value ++ 34 ∷ [] else value

unfoldable pub option_text : OptionLine → List ℕ
option_text o = codes "option " ++ o.key ++ 32 ∷ value_text o.value ++ 10 ∷ []

abbrev pub word_text : List ℕ → List ℕ
word_text word = 32 ∷ word

-- no line where there are no subvolumes
unfoldable pub subvolumes_text : List (List ℕ) → List ℕ
subvolumes_text [] = []
subvolumes_text (name ∷ names) = codes "subvolumes" ++ flat_map word_text (name ∷ names) ++ 10 ∷ []

-- a line of a statement's word with a space behind it, and one word
unfoldable pub line_text : List ℕ → List ℕ → List ℕ
line_text front word = front ++ word ++ 10 ∷ []

unfoldable pub volume_text : Volume → List ℕ
volume_text v = line_text (codes "volume ") v.name ++ line_text (codes "type ") v.kind ++ flat_map option_text v.options ++ subvolumes_text v.subvolumes ++ line_text (codes "end-volume") []

abbrev pub volumes_text : List Volume → List ℕ
volumes_text volumes = flat_map volume_text volumes
