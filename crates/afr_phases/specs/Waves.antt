-- One phase: a request goes to some replicas, each answers, and some confirm.
use Rattle.std.specs.Prelude.{ℕ, Bool, true, false, ◌||◌, not, List, if◌then◌else◌}
use Rattle.std.specs.List.{slice_set, count_by}
use Rattle.afr_phases.specs.declared.wave.Wave.{Wave}
use Rattle.afr_phases.specs.Flags.{flag, no_flags}

abbrev pub quiet : Wave
quiet = record { asked = no_flags; confirmed = no_flags }

-- a phase begins
abbrev pub sent_to : List Bool → Wave
sent_to asked = record { asked = asked; confirmed = no_flags }

-- a replica answers
abbrev pub taken : Wave → ℕ → Bool → Wave
taken wave k confirms = record {
  asked = slice_set wave.asked k false;
  confirmed = if confirms then slice_set wave.confirmed k true else wave.confirmed;
}

abbrev pub is_asked : Wave → ℕ → Bool
is_asked wave k = flag wave.asked k

-- each that was asked has answered
abbrev pub is_over : Wave → Bool
is_over wave = not (flag wave.asked 0 || (flag wave.asked 1 || (flag wave.asked 2 || (flag wave.asked 3 || flag wave.asked 4))))

abbrev pub confirmations : Wave → ℕ
confirmations wave = count_by (λ confirms. confirms) wave.confirmed
