-- The value that an option of a volume has: of lines with equal keys the last counts.
use Rattle.std.specs.Prelude.{ℕ, if◌then◌else◌, List, [], ◌∷◌, Option, Some, None}
use Rattle.volfile.specs.declared.volumes.OptionLine.{OptionLine}
use Rattle.volfile.specs.TextLines.{is_text}

abbrev pub or_value : Option (List ℕ) → List ℕ → List ℕ → List ℕ → Option (List ℕ)
or_value (Some later) own value key = Some later
or_value None own value key = if is_text own key then Some value else None

abbrev pub last_value : List OptionLine → List ℕ → Option (List ℕ)
last_value [] key = None
last_value (o ∷ os) key = or_value (last_value os key) o.key o.value key
