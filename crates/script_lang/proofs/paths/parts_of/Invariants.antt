use Rattle.std.proofs.Common.{◌≡◌, ◌≤◌, ◌+◌, ◌-◌, ◌++◌, length, drop}
use Rattle.volfile.specs.TextLines.{parts_between}
use Rattle.script_lang.specs.WordForms.{is_slash}
use Rattle.script_lang.proofs.paths.parts_of.Given as goal

abbrev pub invariant-loop-parts : goal.invariant-loop-parts
invariant-loop-parts l = (l.at ≤ length l.joined) × (l.parts ++ parts_between is_slash (drop l.at l.joined) ≡ parts_between is_slash l.joined)

abbrev pub decreases-loop-parts : goal.decreases-loop-parts
decreases-loop-parts l = length l.joined + 1 - l.at
