-- How often a wind was opened and ended, with one line more.
use Rattle.std.proofs.Common.{◌≡◌, arith}
use Rattle.std.specs.Prelude.{ℕ, ◌+◌, ◌&&◌, not, List, [], ◌∷◌, ◌++◌, if◌then◌else◌}
use Rattle.xlator_law.specs.declared.winds.WindNo.{WindNo}
use Rattle.mount_log.specs.Winds.{is_wind, times_opened, times_ended}
use Rattle.mount_log.specs.declared.logs.WindLine.{WindLine}

abbrev pub opens : WindNo → WindLine → ℕ
opens w line = if line.opened && is_wind w line.wind then 1 else 0

abbrev pub finishes : WindNo → WindLine → ℕ
finishes w line = if not line.opened && is_wind w line.wind then 1 else 0

pub opened_push : (w : WindNo) (lines : List WindLine) (line : WindLine) → times_opened w (lines ++ line ∷ []) ≡ times_opened w lines + opens w line
opened_push w [] line = let n = opens w line in let e : n + 0 ≡ 0 + n = omega arith in e
opened_push w (l ∷ lines) line = let ih = opened_push w lines line in omega (arith, ih)

pub ended_push : (w : WindNo) (lines : List WindLine) (line : WindLine) → times_ended w (lines ++ line ∷ []) ≡ times_ended w lines + finishes w line
ended_push w [] line = let n = finishes w line in let e : n + 0 ≡ 0 + n = omega arith in e
ended_push w (l ∷ lines) line = let ih = ended_push w lines line in omega (arith, ih)
