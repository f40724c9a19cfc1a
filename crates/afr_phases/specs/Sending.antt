-- What a phase sends: one request to each of some replicas, rising.
use Rattle.std.specs.Prelude.{ℕ, Bool, true, false, List, [], ◌∷◌, Option, Some, None, if◌then◌else◌}
use Rattle.fop_types.specs.declared.messages.BrickReq.{BrickReq}
use Rattle.afr_phases.specs.Flags.{flag}

abbrev pub sends_among : List ℕ → List Bool → BrickReq → List (ℕ × BrickReq)
sends_among [] to req = []
sends_among (k ∷ ks) to req = if flag to k then (k, req) ∷ sends_among ks to req else sends_among ks to req

abbrev pub sends : List Bool → BrickReq → List (ℕ × BrickReq)
sends to req = sends_among (0 ∷ 1 ∷ 2 ∷ 3 ∷ 4 ∷ []) to req

-- the request to one replica, if there is one
abbrev pub one_to : Option ℕ → BrickReq → List (ℕ × BrickReq)
one_to None req = []
one_to (Some k) req = (k, req) ∷ []

-- the request to this replica, where it is asked
abbrev pub one_if : Bool → ℕ → BrickReq → List (ℕ × BrickReq)
one_if true k req = (k, req) ∷ []
one_if false k req = []
