-- The winds that are open at a brick, by the place of each among those that were opened there, and the places by the numbers
-- of the winds. Ours.
use Rattle.std.specs.Prelude.{ℕ, ◌+◌, Bool, true, false, List, [], Option, None, Some, slice_get}
use Rattle.std.specs.BTreeMap.{is_at, insert_entry}
use Rattle.std.specs.Map.{lookup, values_of, remove_entry}
use Rattle.std.specs.Ordering.{nat_cmp}
use Rattle.fop_types.specs.declared.cells.Gfid.{Gfid}
use Rattle.xlator_law.specs.Numbers.{wind_number}
use Rattle.xlator_law.specs.declared.winds.WindNo.{WindNo}
use Rattle.graph_nodes.specs.declared.outer.Waiting.{Waiting}

-- `opened` counts all that were opened
pub record WindsState : Type 0 where
  pub opened : ℕ
  pub winds : List (ℕ × Waiting)
  pub places : List (ℕ × ℕ)

abbrev pub no_winds : WindsState
no_winds = record { opened = 0; winds = []; places = [] }

-- a wind is opened, as the last one
abbrev pub opened_with : WindsState → Waiting → WindsState
opened_with at w = record {
  opened = at.opened + 1;
  winds = insert_entry nat_cmp at.winds (at.opened + 1) w;
  places = insert_entry nat_cmp at.places (wind_number w.wind) (at.opened + 1);
}

abbrev pub place_of : WindsState → WindNo → Option ℕ
place_of at wind = lookup (is_at (nat_cmp (wind_number wind))) at.places

abbrev pub waiting_by : WindsState → Option ℕ → Option Waiting
waiting_by at None = None
waiting_by at (Some place) = lookup (is_at (nat_cmp place)) at.winds

-- what is kept of a wind that is open
abbrev pub waiting_at : WindsState → WindNo → Option Waiting
waiting_at at wind = waiting_by at (place_of at wind)

abbrev pub closed_by : WindsState → WindNo → Option ℕ → WindsState
closed_by at wind None = at
closed_by at wind (Some place) = record at {
  winds = remove_entry (is_at (nat_cmp place)) at.winds;
  places = remove_entry (is_at (nat_cmp (wind_number wind))) at.places;
}

-- a wind is open no more
abbrev pub without_wind : WindsState → WindNo → WindsState
without_wind at wind = closed_by at wind (place_of at wind)

abbrev pub emptied : WindsState → WindsState
emptied at = record at { winds = []; places = [] }

-- ---- the winds of all bricks

abbrev pub waiting_in : Option WindsState → WindNo → Option Waiting
waiting_in None wind = None
waiting_in (Some at) wind = waiting_at at wind

-- the descriptor that is open once a wind was answered Done: of the open before its request, or of the request itself
abbrev pub opened_in : Waiting → Bool → Option (ℕ × Gfid)
opened_in w true = w.before
opened_in w false = w.own

abbrev pub winds_in : Option WindsState → List Waiting
winds_in None = []
winds_in (Some at) = values_of at.winds

-- those of a brick, in the order in which they were opened
abbrev pub winds_at : List WindsState → ℕ → List Waiting
winds_at outer brick = winds_in (slice_get outer brick)
