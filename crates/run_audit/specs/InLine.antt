-- Controls before one request that go out in the order of the script.
use Rattle.std.specs.Prelude.{◌≡◌, ℕ, ◌<◌, List, Option, Some, slice_get}
use Rattle.fop_types.specs.declared.messages.Proc.{Proc}
use Rattle.script_lang.specs.declared.scripts.ControlLine.{ControlLine}
use Rattle.script_lang.specs.declared.scripts.When.{When}
use Rattle.script_lang.specs.declared.scripts.When.TheVariants as moment
use Rattle.run_audit.specs.Noted.{sent_in}
use Rattle.run_audit.specs.declared.run_notes.Carried.{Carried}

-- two moments are before one request
pub record AreBeforeOne (one other : When) : Type 0 where
  pub brick : ℕ
  pub proc : Proc
  pub count : ℕ
  pub first : one ≡ moment.Before brick proc count
  pub second : other ≡ moment.Before brick proc count

-- two controls before one request, with the lines that carry them out
abbrev pub IsApart : ControlLine → ControlLine → Option ℕ → Option ℕ → Type 0
IsApart a b first second =
    (m n brick count : ℕ) (p : Proc) → a.when ≡ moment.Before brick p count → b.when ≡ moment.Before brick p count → first ≡ Some m → second ≡ Some n → m < n

-- each of the first n controls of a phase, with a later one
abbrev pub AreApart : List ControlLine → List Carried → ℕ → ℕ → ControlLine → Type 0
AreApart controls carried n j b = (i : ℕ) (a : ControlLine) → i < n → slice_get controls i ≡ Some a → IsApart a b (sent_in (slice_get carried i)) (sent_in (slice_get carried j))

abbrev pub AreInLine : List ControlLine → List Carried → Type 0
AreInLine controls carried = (j : ℕ) (b : ControlLine) → slice_get controls j ≡ Some b → AreApart controls carried j j b
