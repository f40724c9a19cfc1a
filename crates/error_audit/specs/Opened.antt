-- The connections that were opened, and how many a graph has opened to a brick.
use Rattle.std.specs.Prelude.{◌≡◌, ℕ, ◌+◌, ◌==◌, nat_le, ◌&&◌, Bool, List, [], ◌∷◌, ◌++◌, slice_index_or, if◌then◌else◌}
use Rattle.fop_types.specs.declared.messages.Input.{Input}
use Rattle.fop_types.specs.declared.messages.Input.TheVariants as input
use Rattle.wire_messages.specs.Messages.{input_in}
use Rattle.wire_messages.specs.declared.messages.Message.{Message}
use Rattle.wire_messages.specs.declared.messages.Message.TheVariants.{Whole, Wrong}
use Rattle.mount_log.specs.declared.logs.SentLine.{SentLine}
use Rattle.error_audit.specs.declared.connections.Opening.{Opening}

abbrev pub opening_of : SentLine → ℕ → Opening
opening_of line graph = record { graph = graph; brick = line.brick; event = line.event }

abbrev pub opened_by : SentLine → Input → List Opening
opened_by line (input.Connect graph version) = if version == 1 then opening_of line graph ∷ [] else []
opened_by line (input.Request wind graph req) = []
opened_by line (input.Down serve) = []
opened_by line input.Up = []
opened_by line (input.Disconnect graph) = []
opened_by line (input.FaultAt p number) = []

abbrev pub opened_in : SentLine → Message Input → List Opening
opened_in line (Whole x) = opened_by line x
opened_in line (Wrong place) = []

-- what these lines open
abbrev pub openings_of : List SentLine → List Opening
openings_of [] = []
openings_of (line ∷ lines) = opened_in line (input_in line.bytes) ++ openings_of lines

abbrev pub is_opening : ℕ → ℕ → ℕ → Opening → Bool
is_opening last graph brick o = nat_le o.event last && ((o.brick == brick) && (o.graph == graph))

-- how many connections the graph opened to the brick up to this event
abbrev pub openings_to : ℕ → ℕ → ℕ → List Opening → ℕ
openings_to last graph brick [] = 0
openings_to last graph brick (o ∷ os) = (if is_opening last graph brick o then 1 else 0) + openings_to last graph brick os

-- ---- by brick

-- those that are to the brick
abbrev pub to_brick : ℕ → List Opening → List Opening
to_brick brick [] = []
to_brick brick (o ∷ os) = if o.brick == brick then o ∷ to_brick brick os else to_brick brick os

-- the list of a brick, by its number
abbrev pub openings_at : List (List Opening) → ℕ → List Opening
openings_at lists brick = slice_index_or lists brick []

-- each brick's list has one more at its end where the opening is to it
abbrev pub IsPut : List (List Opening) → Opening → List (List Opening) → Type 0
IsPut old o new = (brick : ℕ) → openings_at new brick ≡ openings_at old brick ++ to_brick brick (o ∷ [])

abbrev pub AreByBrick : List Opening → List (List Opening) → Type 0
AreByBrick openings lists = (brick : ℕ) → openings_at lists brick ≡ to_brick brick openings
