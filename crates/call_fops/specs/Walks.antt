-- How far the lookups of a call are. A call has no path to look up, one, or, of a rename, two. Each path is walked from
-- the root: each component is looked up in the directory that the one before it led to.
use Rattle.std.specs.Prelude.{ℕ, ◌+◌, List, [], ◌∷◌, Option, Some, None, slice_get}
use Rattle.std.specs.Option.{option_or}
use Rattle.fop_types.specs.Calls.{looked_up}
use Rattle.fop_types.specs.Cells.{root}
use Rattle.fop_types.specs.declared.calls.Call.{Call}
use Rattle.fop_types.specs.declared.cells.Gfid.{Gfid}
use Rattle.fop_types.specs.declared.cells.Kind.TheVariants.{Dir}
use Rattle.fop_types.specs.declared.fops.Object.{Object}

-- how far one path is walked: the object that was reached, and the number of components that were found
pub record Leg : Type 0 where
  pub at : Object
  pub found : ℕ

pub record Walked : Type 0 where
  pub first : Leg
  pub second : Leg

abbrev pub root_object : Object
root_object = record { gfid = root; kind = Dir; set = 0 }

abbrev pub at_root : Leg
at_root = record { at = root_object; found = 0 }

abbrev pub begun : Walked
begun = record { first = at_root; second = at_root }

-- the first and the second of a call's paths; one that a call lacks has no component
abbrev pub first_path : List (List (List ℕ)) → List (List ℕ)
first_path [] = []
first_path (path ∷ paths) = path

abbrev pub second_path : List (List (List ℕ)) → List (List ℕ)
second_path [] = []
second_path (path ∷ paths) = first_path paths

-- the next component of each path
abbrev pub on_first : Call → Walked → Option (List ℕ)
on_first c w = slice_get (first_path (looked_up c)) w.first.found

abbrev pub on_second : Call → Walked → Option (List ℕ)
on_second c w = slice_get (second_path (looked_up c)) w.second.found

-- the component that is looked up next: the second path's where the first one is walked to its end
abbrev pub next_name : Call → Walked → Option (List ℕ)
next_name c w = option_or (on_first c w) (on_second c w)

abbrev pub parent_by : Option (List ℕ) → Walked → Object
parent_by (Some name) w = w.first.at
parent_by None w = w.second.at

-- the directory in which it is looked up
abbrev pub next_parent : Call → Walked → Object
next_parent c w = parent_by (on_first c w) w

abbrev pub onto : Leg → Object → Leg
onto leg object = record { at = object; found = leg.found + 1 }

abbrev pub stepped_by : Option (List ℕ) → Option (List ℕ) → Walked → Object → Walked
stepped_by (Some name) other w object = record { first = onto w.first object; second = w.second }
stepped_by None (Some name) w object = record { first = w.first; second = onto w.second object }
stepped_by None None w object = w

-- the walk where the next component was found to be this object
abbrev pub stepped : Call → Walked → Object → Walked
stepped c w object = stepped_by (on_first c w) (on_second c w) w object

abbrev pub reached_on : List (List (List ℕ)) → Walked → List Gfid
reached_on [] w = []
reached_on (path ∷ []) w = w.first.at.gfid ∷ []
reached_on (path ∷ other ∷ paths) w = w.first.at.gfid ∷ w.second.at.gfid ∷ []

-- the objects that the paths have led to, one for each
abbrev pub reached : Call → Walked → List Gfid
reached c w = reached_on (looked_up c) w
