-- What `check` writes for a text that is accepted: how many bricks, volfiles, phases and calls it has.
use Rattle.std.specs.Prelude.{ℕ, ◌+◌, List, [], ◌∷◌, ◌++◌, length, codes}
use Rattle.std.specs.Fmt.{decimal}
use Rattle.script_lang.specs.declared.scripts.Script.{Script}
use Rattle.script_lang.specs.declared.scripts.Phase.{Phase}

abbrev pub calls_in : List Phase → ℕ
calls_in [] = 0
calls_in (p ∷ phases) = length p.calls + calls_in phases

-- ok bricks B volfiles V phases P calls C
abbrev pub check_text : Script → List ℕ
check_text script =
    codes "ok bricks " ++ decimal (length script.bricks) ++ codes " volfiles " ++ decimal (length script.volfiles) ++ codes " phases "
    ++ decimal (length script.phases) ++ codes " calls " ++ decimal (calls_in script.phases) ++ codes "\n"
