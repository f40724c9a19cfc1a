-- The names under which a brick shows its replicas: those of the clients of its set, in the first graph that a script can make
-- that uses the brick. Ours.
use Rattle.std.specs.Prelude.{ℕ, ◌==◌, Bool, true, false, List, [], ◌∷◌, ◌++◌, slice_get, Option, None, Some}
use Rattle.std.specs.List.{list_any}
use Rattle.fop_types.specs.declared.jobs.SetPlan.{SetPlan}
use Rattle.graph_build.specs.declared.plans.Plan.{Plan}
use Rattle.mount_log.specs.Graphs.{with_switch}
use Rattle.script_lang.specs.declared.scripts.ControlLine.{ControlLine}
use Rattle.script_lang.specs.declared.scripts.Phase.{Phase}
use Rattle.script_lang.specs.declared.scripts.Script.{Script}

abbrev pub switches_among : List ControlLine → List ℕ
switches_among [] = []
switches_among (c ∷ cs) = with_switch c.action (switches_among cs)

abbrev pub switches_over : List Phase → List ℕ
switches_over [] = []
switches_over (p ∷ ps) = switches_among p.controls ++ switches_over ps

-- the volfiles that a script names for its graphs: the one that it starts with, and then those of its switches, in the order
-- of the script
abbrev pub named_volfiles : Script → List ℕ
named_volfiles script = script.start ∷ switches_over script.phases

abbrev pub has_member : SetPlan → ℕ → Bool
has_member set brick = list_any (λ b. b == brick) set.bricks

abbrev pub set_if : Bool → SetPlan → Option SetPlan → Option SetPlan
set_if true set later = Some set
set_if false set later = later

-- the first of these sets that has a brick
abbrev pub set_with : List SetPlan → ℕ → Option SetPlan
set_with [] brick = None
set_with (s ∷ ss) brick = set_if (has_member s brick) s (set_with ss brick)

abbrev pub set_of_plan : Option Plan → ℕ → Option SetPlan
set_of_plan None brick = None
set_of_plan (Some plan) brick = set_with plan.sets brick

abbrev pub or_later : Option SetPlan → Option SetPlan → Option SetPlan
or_later (Some set) later = Some set
or_later None later = later

-- the set of a brick, in the first of these volfiles' plans that has one
abbrev pub first_set : List Plan → List ℕ → ℕ → Option SetPlan
first_set plans [] brick = None
first_set plans (v ∷ vs) brick = or_later (set_of_plan (slice_get plans v) brick) (first_set plans vs brick)

abbrev pub clients_of : Option SetPlan → List (List ℕ)
clients_of None = []
clients_of (Some set) = set.clients

-- the names of a brick
abbrev pub names_of : Script → List Plan → ℕ → List (List ℕ)
names_of script plans brick = clients_of (first_set plans (named_volfiles script) brick)
