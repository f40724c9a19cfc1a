-- An answer in a phase that waits for a Done without more: who gives it is used on, and any other is out.
use Rattle.std.specs.Prelude.{ℕ, if◌then◌else◌}
use Rattle.fop_types.specs.declared.messages.BrickRep.{BrickRep}
use Rattle.afr_phases.specs.declared.outs.Outs.{Outs}
use Rattle.afr_phases.specs.Outs.{left}
use Rattle.afr_phases.specs.Answers.{is_fault, is_plain_done}

abbrev pub heard : Outs → ℕ → BrickRep → ℕ → Outs
heard outs k rep mark = if is_plain_done rep then outs else left outs k (is_fault rep) mark
