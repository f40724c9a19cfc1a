-- The controls of a phase that were not carried out, each by its place in the phase: all of them; those without a condition; those
-- that are to be armed; those that wait for a request to be sent, by that request and then by place; and those whose request was
-- sent. And the actions that are armed, by their requests; how many requests of each procedure were sent to each brick in the
-- phase; and the last place that was given to an action which belongs to no control. Ours.
use Rattle.std.specs.Prelude.{ℕ, ◌+◌, ◌-◌, ◌^◌, ◌==◌, min, Bool, true, false, ◌&&◌, not, List, [], ◌∷◌, length, slice_get, unwrap_or, Option, None, Some, if◌then◌else◌}
use Rattle.std.specs.BTreeMap.{insert_entry, is_at}
use Rattle.std.specs.Map.{lookup, remove_entry}
use Rattle.std.specs.Ordering.{nat_cmp, ordering_then}
use Rattle.std.specs.declared.cmp.Ordering.{Ordering}
use Rattle.fop_types.specs.declared.messages.Proc.{Proc}
use Rattle.brick_machine.specs.State.{place_of}
use Rattle.script_lang.specs.declared.scripts.Action.{Action}
use Rattle.script_lang.specs.declared.scripts.Action.TheVariants as action
use Rattle.script_lang.specs.declared.scripts.ControlLine.{ControlLine}
use Rattle.script_lang.specs.declared.scripts.When.{When}
use Rattle.script_lang.specs.declared.scripts.When.TheVariants as when
use Rattle.hub_tables.specs.declared.actions.Due.{Due}
use Rattle.hub_tables.specs.declared.actions.Due.TheVariants as due
use Rattle.hub_tables.specs.declared.controls.Armed.{Armed}
use Rattle.hub_tables.specs.declared.controls.Rank.{Rank}
use Rattle.hub_tables.specs.declared.requests.Nth.{Nth}

pub record ControlsState : Type 0 where
  pub left : List (ℕ × ControlLine)
  pub plain : List (ℕ × Action)
  pub unarmed : List (ℕ × Due)
  pub awaited : List (Rank × Action)
  pub come : List (ℕ × Action)
  pub armed : List (Rank × Armed)
  pub counts : List ((ℕ × ℕ) × ℕ)
  pub extra : ℕ

abbrev pub no_controls : ControlsState
no_controls = record { left = []; plain = []; unarmed = []; awaited = []; come = []; armed = []; counts = []; extra = 2147483648 }

-- ---- what is due of them

-- what is listed first
abbrev pub value_of : {T : Type 0} → Option (ℕ × T) → Option T
value_of None = None
value_of (Some e) = Some e.1

abbrev pub act_by : Option Action → Option Due
act_by None = None
act_by (Some a) = Some (due.Act a)

abbrev pub or_act : Option Due → Option Action → Option Due
or_act None come = act_by come
or_act (Some d) come = Some d

abbrev pub action_by : Option ControlLine → Option Action
action_by None = None
action_by (Some control) = Some control.action

-- what goes before everything else: the first control that is to be armed, or else the first one whose request was sent
abbrev pub first_due : ControlsState → Option Due
first_due c = or_act (value_of (slice_get c.unarmed 0)) (value_of (slice_get c.come 0))

-- the next control without a condition
abbrev pub next_plain : ControlsState → Option Action
next_plain c = value_of (slice_get c.plain 0)

-- the first control of all
abbrev pub first_left : ControlsState → Option Action
first_left c = action_by (value_of (slice_get c.left 0))

-- ---- the order of requests and places

abbrev pub nth_cmp : Nth → Nth → Ordering
nth_cmp a b = ordering_then (nat_cmp a.brick b.brick) (ordering_then (nat_cmp a.proc b.proc) (nat_cmp a.count b.count))

abbrev pub rank_cmp : Rank → Rank → Ordering
rank_cmp a b = ordering_then (nth_cmp a.request b.request) (nat_cmp a.order b.order)

abbrev pub pair_cmp : ℕ × ℕ → ℕ × ℕ → Ordering
pair_cmp a b = ordering_then (nat_cmp a.0 b.0) (nat_cmp a.1 b.1)

abbrev pub is_request : Nth → Nth → Bool
is_request a b = (a.brick == b.brick) && ((a.proc == b.proc) && (a.count == b.count))

-- a request of a procedure to a brick, by its number among these
abbrev pub nth : ℕ → Proc → ℕ → Nth
nth brick p count = record { brick = brick; proc = place_of p; count = count }

abbrev pub rank : Nth → ℕ → Rank
rank request order = record { request = request; order = order }

-- the first rank of a request
abbrev pub first_of_request : {T : Type 0} → List (Rank × T) → Nth → Option Rank
first_of_request [] request = None
first_of_request (e ∷ es) request = if is_request e.0.request request then Some e.0 else first_of_request es request

-- ---- a phase begins

abbrev pub put_control : ControlsState → ℕ → Action → When → ControlsState
put_control c order a when.Now = record c { plain = insert_entry nat_cmp c.plain order a }
put_control c order a (when.Before brick p count) = record c { unarmed = insert_entry nat_cmp c.unarmed order (due.Arm brick p count a) }
put_control c order a (when.After brick p count) = record c { awaited = insert_entry rank_cmp c.awaited (rank (nth brick p count) order) a }

-- a control more, at this place
abbrev pub with_control : ControlsState → ℕ → ControlLine → ControlsState
with_control c order line = put_control (record c { left = insert_entry nat_cmp c.left order line }) order line.action line.when

-- these controls more, from this place on
abbrev pub with_controls : ControlsState → ℕ → List ControlLine → ControlsState
with_controls c order [] = c
with_controls c order (line ∷ lines) = with_controls (with_control c order line) (order + 1) lines

-- ---- a control is carried out

abbrev pub drop_control : ControlsState → ℕ → When → ControlsState
drop_control c order when.Now = record c { plain = remove_entry (is_at (nat_cmp order)) c.plain }
drop_control c order (when.Before brick p count) = record c {
  unarmed = remove_entry (is_at (nat_cmp order)) c.unarmed;
  armed = remove_entry (is_at (rank_cmp (rank (nth brick p count) order))) c.armed;
}
drop_control c order (when.After brick p count) = record c {
  awaited = remove_entry (is_at (rank_cmp (rank (nth brick p count) order))) c.awaited;
  come = remove_entry (is_at (nat_cmp order)) c.come;
}

abbrev pub drop_line : ControlsState → ℕ → Option ControlLine → ControlsState
drop_line c order None = c
drop_line c order (Some line) = drop_control (record c { left = remove_entry (is_at (nat_cmp order)) c.left }) order line.when

-- the control of this place, if it is left, is carried out
abbrev pub without_control : ControlsState → ℕ → ControlsState
without_control c order = drop_line c order (lookup (is_at (nat_cmp order)) c.left)

abbrev pub same_action : Action → Action → Bool
same_action (action.Down a s) (action.Down b t) = (a == b) && (s == t)
same_action (action.Up a) (action.Up b) = a == b
same_action (action.Cut a) (action.Cut b) = a == b
same_action (action.Fault a p m) (action.Fault b q n) = (a == b) && ((place_of p == place_of q) && (m == n))
same_action action.Heal action.Heal = true
same_action (action.Switch a) (action.Switch b) = a == b
same_action a b = false

-- the place of what is listed first, where it has this action
abbrev pub place_by : Option (ℕ × Action) → Action → Option ℕ
place_by None a = None
place_by (Some e) a = if same_action e.1 a then Some e.0 else None

abbrev pub entry_by : Option (ℕ × ControlLine) → Option (ℕ × Action)
entry_by None = None
entry_by (Some e) = Some (e.0, e.1.action)

abbrev pub where_may : Bool → Option ℕ → Option ℕ
where_may true place = place
where_may false place = None

abbrev pub or_place : Option ℕ → Option ℕ → Option ℕ
or_place None other = other
or_place (Some place) other = Some place

-- the control that an action carries out: the first one whose request was sent, where none is to be armed; else the next one
-- without a condition, where that may go on; else the first one that is left, where the phase has nothing else
abbrev pub carried_by : ControlsState → Action → Bool → Bool → Option ℕ
carried_by c a plain rest =
    or_place (where_may (length c.unarmed == 0) (place_by (slice_get c.come 0) a))
    (or_place (where_may plain (place_by (slice_get c.plain 0) a))
    (where_may rest (place_by (entry_by (slice_get c.left 0)) a)))

-- ---- an action is armed

abbrev pub is_arm : Due → ℕ → Proc → ℕ → Action → Bool
is_arm (due.Arm at q number what) brick p count a = (at == brick) && ((place_of q == place_of p) && ((number == count) && same_action what a))
is_arm (due.Submit session) brick p count a = false
is_arm (due.Run graph task) brick p count a = false
is_arm (due.Act what) brick p count a = false

-- the place of the first control that is to be armed, where it is this one
abbrev pub armed_by : Option (ℕ × Due) → ℕ → Proc → ℕ → Action → Option ℕ
armed_by None brick p count a = None
armed_by (Some e) brick p count a = if is_arm e.1 brick p count a then Some e.0 else None

abbrev pub put_armed : ControlsState → Nth → Action → Option ℕ → ControlsState
put_armed c request a (Some order) = record c {
  unarmed = remove_entry (is_at (nat_cmp order)) c.unarmed;
  armed = insert_entry rank_cmp c.armed (rank request order) (record { control = Some order; action = a });
}
put_armed c request a None = record c {
  armed = insert_entry rank_cmp c.armed (rank request (min (c.extra + 1) (2 ^ 32 - 1))) (record { control = None; action = a });
  extra = min (c.extra + 1) (2 ^ 32 - 1);
}

-- an action is armed for a request: that of the first control that is to be armed, where it is the same, or one of its own
abbrev pub with_armed : ControlsState → ℕ → Proc → ℕ → Action → ControlsState
with_armed c brick p count a = put_armed c (nth brick p count) a (armed_by (slice_get c.unarmed 0) brick p count a)

-- ---- a request is sent

-- how many requests of a procedure were sent to a brick, with the next one
abbrev pub next_count : ControlsState → ℕ → ℕ → ℕ
next_count c brick p = min (unwrap_or (lookup (is_at (pair_cmp (brick, p))) c.counts) 0 + 1) (2 ^ 32 - 1)

abbrev pub with_count : ControlsState → ℕ → ℕ → ControlsState
with_count c brick p = record c { counts = insert_entry pair_cmp c.counts (brick, p) (next_count c brick p) }

abbrev pub armed_at : ControlsState → Option Rank → Option Armed
armed_at c None = None
armed_at c (Some r) = lookup (is_at (rank_cmp r)) c.armed

-- the first action that is armed for a request
abbrev pub next_armed : ControlsState → Nth → Option Armed
next_armed c request = armed_at c (first_of_request c.armed request)

abbrev pub drop_armed : ControlsState → Option Rank → ControlsState
drop_armed c None = c
drop_armed c (Some r) = record c { armed = remove_entry (is_at (rank_cmp r)) c.armed }

abbrev pub drop_place : ControlsState → Option ℕ → ControlsState
drop_place c None = c
drop_place c (Some order) = without_control c order

abbrev pub drop_of : ControlsState → Option Armed → ControlsState
drop_of c None = c
drop_of c (Some a) = drop_place c a.control

-- the first action that is armed for a request is taken, and with it its control, if it has one
abbrev pub without_armed : ControlsState → Nth → ControlsState
without_armed c request = drop_of (drop_armed c (first_of_request c.armed request)) (next_armed c request)

abbrev pub action_of : Option Armed → Option Action
action_of None = None
action_of (Some a) = Some a.action

-- of the actions that wait for a request, those of this one are put to those whose request was sent, and the others wait on
abbrev pub coming : List (Rank × Action) → Nth → List (ℕ × Action) → List (ℕ × Action)
coming [] request come = come
coming (e ∷ es) request come = coming es request (if is_request e.0.request request then insert_entry nat_cmp come e.0.order e.1 else come)

abbrev pub waiting : List (Rank × Action) → Nth → List (Rank × Action)
waiting [] request = []
waiting (e ∷ es) request = if is_request e.0.request request then waiting es request else e ∷ waiting es request

-- a request was sent: the controls that wait for it have come
abbrev pub with_sent : ControlsState → Nth → ControlsState
with_sent c request = record c { awaited = waiting c.awaited request; come = coming c.awaited request c.come }
