-- What follows from the limits that an accepted script keeps.
use Rattle.std.proofs.Common.{◌≡◌, ◌+◌, ◌<◌, ◌≤◌, List, [], ◌∷◌, ◌++◌, length, refl, arith}
use Rattle.std.specs.Prelude.{zero, suc}
use Rattle.std.specs.List.{All, AllByRecursion}
use Rattle.std.proofs.lemmas.List.{length_push, length-append}
use Rattle.std.proofs.lemmas.Bool.{leb-false}
use Rattle.volfile.specs.Volumes.{AreVolumes}
use Rattle.volfile.specs.declared.volumes.Volume.{Volume}
use Rattle.volfile.proofs.Alike.{each_volume}
use Rattle.script_lang.specs.Accepted.{IsAccepted, IsVolfileLine, calls_of}
use Rattle.script_lang.specs.declared.scripts.NamedVolfile.{NamedVolfile}
use Rattle.script_lang.specs.declared.scripts.Phase.{Phase}
use Rattle.script_lang.specs.declared.scripts.Script.{Script}
use Rattle.script_commands.specs.Checks.{calls_in}
use Rattle.script_commands.specs.Limits.{IsSmall}

few_behind : (vs before : List Volume) → length before ≤ 256 → AreVolumes before vs → length before + length vs ≤ 256
few_behind [] before few h = omega (arith, few)
few_behind (v ∷ vs) before few h =
    let room : length before < 256 = leb-false 256 (length before) h.0.room in
    let one : length (before ++ v ∷ []) ≡ length before + 1 = length_push before v in
    omega (arith, few_behind vs (before ++ v ∷ []) (omega (arith, room, one)) h.2, one)

small : (line : NamedVolfile) → IsVolfileLine line → IsSmall line
small line h = (let few : length {A = Volume} [] + length line.volfile.volumes ≤ 256 = few_behind line.volfile.volumes [] (omega arith) (each_volume line.volfile h.volfile) in omega (arith, few))

pub each_small : (lines : List NamedVolfile) → AllByRecursion IsVolfileLine lines → All IsSmall lines
each_small [] h k d less = absurd (omega arith)
each_small (line ∷ lines) h zero d less = small line h.0
each_small (line ∷ lines) h (suc k) d less = each_small lines h.1 k d (omega arith)

pub all_small : (script : Script) → IsAccepted script → All IsSmall script.volfiles
all_small script limits = each_small script.volfiles limits.volfiles.forms

calls_counted : (phases : List Phase) → calls_in phases ≡ length (calls_of phases)
calls_counted [] = refl
calls_counted (p ∷ phases) =
    let all : length (calls_of (p ∷ phases)) ≡ length p.calls + length (calls_of phases) = length-append p.calls (calls_of phases) in
    let rest : calls_in phases ≡ length (calls_of phases) = calls_counted phases in
    omega (arith, all, rest)

pub few_calls : (script : Script) → IsAccepted script → calls_in script.phases ≤ 4096
few_calls script limits = (let all : calls_in script.phases ≡ length (calls_of script.phases) = calls_counted script.phases in omega (arith, limits.few_calls, all))
