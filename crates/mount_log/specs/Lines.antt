-- Where the lines of calls are in a script: a line is named by its phase and its place among the phase's calls, both from
-- 0. A session's lines, in the order of the script, are what it submits. Ours.
use Rattle.std.specs.Prelude.{◌≡◌, ◌≢◌, ℕ, ◌+◌, ◌==◌, Bool, not, List, [], ◌∷◌, ◌++◌, length, slice_get, slice_index_or, Option, None, Some, IsSome, IsSomeAnd, if◌then◌else◌}
use Rattle.fop_types.specs.Calls.{makes as makes_of}
use Rattle.fop_types.specs.declared.calls.Call.{Call}
use Rattle.script_lang.specs.declared.scripts.CallLine.{CallLine}
use Rattle.script_lang.specs.declared.scripts.Phase.{Phase}
use Rattle.script_lang.specs.declared.scripts.Script.{Script}
use Rattle.mount_log.specs.declared.places.LineAt.{LineAt}

-- ---- one line

abbrev pub line_in : Option Phase → ℕ → Option CallLine
line_in None index = None
line_in (Some phase) index = slice_get phase.calls index

-- the line of that place, None where the script has none there
abbrev pub line_of : Script → LineAt → Option CallLine
line_of script at = line_in (slice_get script.phases at.phase) at.index

-- the place is one of a line of the script
abbrev pub IsLine : Script → LineAt → Type 0
IsLine script at = IsSome (line_of script at)

-- and the line is one of this session
abbrev pub IsLineOf : Script → ℕ → LineAt → Type 0
IsLineOf script session at = IsSomeAnd (line_of script at) (λ line. line.session ≡ session)

-- ---- the lines of a session

-- the places of a session's lines among these calls of a phase, of which the first is at this index
abbrev pub places_in : ℕ → ℕ → ℕ → List CallLine → List LineAt
places_in session phase index [] = []
places_in session phase index (line ∷ lines) =
    if line.session == session
    then record { phase = phase; index = index } ∷ places_in session phase (index + 1) lines
    else places_in session phase (index + 1) lines

-- the places of a session's lines in these phases, of which the first has this number
abbrev pub places_from : ℕ → ℕ → List Phase → List LineAt
places_from session phase [] = []
places_from session phase (p ∷ ps) = places_in session phase 0 p.calls ++ places_from session (phase + 1) ps

-- ---- lists of lines, one for each session

-- the lines of a session that are still to be submitted
abbrev pub queue_of : List (List LineAt) → ℕ → List LineAt
queue_of lines session = slice_index_or lines session []

-- each session has as many more lines at its end as this phase has of it
abbrev pub SharesOut : ℕ → List CallLine → List (List LineAt) → List (List LineAt) → Type 0
SharesOut phase calls old new = (session : ℕ) → queue_of new session ≡ queue_of old session ++ places_in session phase 0 calls

-- a session has its first line no more, which was at this place
pub record TakesLine (old : List (List LineAt)) (session : ℕ) (at : LineAt) (new : List (List LineAt)) : Type 0 where
  pub line : queue_of old session ≡ at ∷ queue_of new session
  pub others : (other : ℕ) → other ≢ session → queue_of new other ≡ queue_of old other
  pub sessions : length new ≡ length old

-- how many of these lines are of a phase
abbrev pub count_of_phase : ℕ → List LineAt → ℕ
count_of_phase phase [] = 0
count_of_phase phase (at ∷ ats) = (if at.phase == phase then 1 else 0) + count_of_phase phase ats

abbrev pub left_of_phase : ℕ → List (List LineAt) → ℕ
left_of_phase phase [] = 0
left_of_phase phase (queue ∷ queues) = count_of_phase phase queue + left_of_phase phase queues

-- ---- objects that calls ask to be made

-- whether a call makes an object
abbrev pub makes : Call → Bool
makes call = not (makes_of call == 0)

abbrev pub creations_in : List CallLine → ℕ
creations_in [] = 0
creations_in (line ∷ lines) = makes_of line.call + creations_in lines

-- how many calls of these phases make an object
abbrev pub creations_of : List Phase → ℕ
creations_of [] = 0
creations_of (p ∷ ps) = creations_in p.calls + creations_of ps
