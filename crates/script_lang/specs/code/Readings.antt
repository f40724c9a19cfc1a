-- What the code keeps of what was read, as a reading: a draft, and the volfile whose lines are read, if there is one.
-- A line gives the next reading, or it is refused. Every reading has capacity for the volfile that is read, so no list
-- outgrows its limit.
use Rattle.std.specs.Prelude.{◌≡◌, ℕ, ◌<◌, length, Option, Some, None, Result, Ok, Err}
use Rattle.script_lang.specs.ScriptText.{IsButForMemory, text_ended}
use Rattle.script_lang.specs.declared.errors.ScriptKind.{ScriptKind}
use Rattle.script_lang.specs.declared.errors.ScriptError.{ScriptError}
use Rattle.script_lang.specs.declared.scripts.Script.{Script}
use Rattle.script_lang.specs.declared.drafts.Draft.{Draft}
use Rattle.script_lang.specs.declared.drafts.Inside.{Inside}
use Rattle.script_lang.specs.declared.drafts.Reading.{Reading}
use Rattle.script_lang.specs.declared.drafts.Reading.TheVariants.{InScript, InVolfile}

abbrev pub reading_of : Draft → Option Inside → Reading
reading_of d None = InScript d
reading_of d (Some it) = InVolfile d it.name it.reader

abbrev pub HasCapacity : Reading → Type 0
HasCapacity (InScript d) = Unit {0}
HasCapacity (InVolfile d name r) = length d.volfiles < 16

-- a line leaves this reading, or is refused
abbrev pub Leaves : Result Reading ScriptKind → Option ScriptKind → Reading → Type 0
Leaves read None after = read ≡ Ok after
Leaves read (Some kind) after = read ≡ Err kind

-- the lines leave this draft, and its end is what the text says; or the text is refused as it says, unless memory
-- ran out
abbrev pub HasRead : Result ℕ ScriptError → Draft → Result Script ScriptError → Type 0
HasRead (Ok number) after wanted = text_ended (InScript after) number ≡ wanted
HasRead (Err e) after wanted = IsButForMemory (Err e) wanted
