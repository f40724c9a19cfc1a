-- What the look-ups of a call come to, as the code says it: objects or an error.
use Rattle.std.specs.Prelude.{◌≡◌, List, [], ◌∷◌, Option, Some, None, Result, Ok, Err}
use Rattle.fop_types.specs.History.{Walk}
use Rattle.fop_types.specs.History.Walk.{Reached, Stopped, Short}
use Rattle.fop_types.specs.declared.answers.Answer.TheVariants as answers
use Rattle.fop_types.specs.declared.answers.AppError.{AppError}
use Rattle.fop_types.specs.declared.cells.Gfid.{Gfid}
use Rattle.fop_types.specs.declared.flat.FlatAnswer.{FlatAnswer}
use Rattle.fop_types.specs.declared.flat.FlatAnswer.TheVariants.{Found, Call}
use Rattle.flat_fs.specs.declared.walk.Found.{Found as Objects}
use Rattle.flat_fs.specs.declared.walk.Found.TheVariants.{Nothing, One, Two}

abbrev pub found_in : FlatAnswer → Option (Result Gfid AppError)
found_in (Found gfid kind) = Some (Ok gfid)
found_in (Call (answers.App error)) = Some (Err error)
found_in (Call answers.Done) = None
found_in (Call (answers.Count count)) = None
found_in (Call (answers.Bytes bytes)) = None
found_in (Call (answers.Stat kind mode size)) = None
found_in (Call (answers.List items)) = None
found_in (Call (answers.Io error)) = None

abbrev pub stopped_by : Walk → Option AppError
stopped_by (Reached found places) = None
stopped_by (Stopped error places) = Some error
stopped_by Short = None

abbrev pub IsLed : Result Gfid AppError → Walk → Type 0
IsLed (Ok gfid) w = w ≡ Reached (gfid ∷ []) []
IsLed (Err error) w = stopped_by w ≡ Some error

abbrev pub objects : Objects → List Gfid
objects Nothing = []
objects (One gfid) = gfid ∷ []
objects (Two gfid other) = gfid ∷ other ∷ []

abbrev pub IsWalked : Result Objects AppError → Walk → Type 0
IsWalked (Ok found) w = w ≡ Reached (objects found) []
IsWalked (Err error) w = stopped_by w ≡ Some error
