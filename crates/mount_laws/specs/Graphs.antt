-- Calls of a graph with fewer sets see the whole file system: while one is unanswered, nothing is on the sets that it lacks.
-- Ours.
use Rattle.std.specs.Prelude.{◌≡◌, ◌≢◌, ℕ, ◌<◌, ◌≤◌, true, List, [], length, Option, Some}
use Rattle.afr_machine.specs.Changes.Verdict.{Undrawn}
use Rattle.dht_fops.specs.Shown.{SetContents, Homes}
use Rattle.dht_fops.specs.declared.volume.Volume.{Volume}
use Rattle.fop_types.specs.Bounds.{Each}
use Rattle.fop_types.specs.Cells.{names_cell}
use Rattle.fop_types.specs.StoreOps.{items_of}
use Rattle.fop_types.specs.declared.cells.Gfid.{Gfid}
use Rattle.fop_types.specs.declared.cells.Kind.{Kind}
use Rattle.fop_types.specs.declared.cells.Kind.TheVariants as kind
use Rattle.fop_types.specs.declared.fops.Fop.{Fop}
use Rattle.fop_types.specs.declared.fops.Object.{Object}
use Rattle.mount_laws.specs.Guards.{objects_of}
use Rattle.mount_laws.specs.Runs.{Run}
use Rattle.mount_laws.specs.States.{State, Change, Call, is_unanswered, set_count}
use Rattle.mount_laws.specs.States.Status.{Running}

-- On the first `count` sets alone there is something: objects that were answered, changes and homes of files are on them, and
-- on the others no directory has a name or a link.
pub record AreOnFirst (known : List Object) (changes : ℕ → Change) (kinds : Gfid → Option Kind) (homes : Homes) (adopted : SetContents) (count : ℕ) : Type 0 where
  pub answered : Each (λ (object : Object). object.set < count) known
  pub begun : (u : ℕ) → (changes u).verdict ≢ Undrawn → (changes u).set < count
  pub homed : (gfid : Gfid) → kinds gfid ≡ Some kind.File → homes gfid < count
  pub no_names : (set : ℕ) (dir : Gfid) → count ≤ set → items_of (adopted set (names_cell dir)) ≡ []

abbrev pub FirstSets : State → ℕ → Type 0
FirstSets m count = AreOnFirst m.known m.changes m.kinds m.homes m.adopted count

-- While a call is unanswered, the sets that its graph lacks are empty so, and so are those that the newest graph lacks.
pub record BeyondOld (m : State) : Type 0 where
  pub unanswered : (c : ℕ) → is_unanswered (m.calls c).status ≡ true → FirstSets m (length (m.calls c).names)
  pub newest : FirstSets m (set_count m)

-- a fop under way is its call's, on the volume of the call's graph, and names objects on its sets
pub record IsPlanned (c : ℕ) (root_sets : ℕ) (names : List (List ℕ)) (fop : Fop) (volume : Volume) (run_names : List (List ℕ)) : Type 0 where
  pub call_is : volume.call ≡ c
  pub names_are : run_names ≡ names
  pub sets : volume.sets ≡ length names
  pub roots : volume.root_sets ≡ root_sets
  pub objects : Each (λ (object : Object). object.set < length names) (objects_of fop)

-- Each fop under way runs in its call's graph, and has no more sets than any unanswered call.
pub record RunsInItsGraph (root_sets : ℕ) (names : List (List ℕ)) (calls : ℕ → Call) : Type 0 where
  pub some : 1 ≤ root_sets
  pub first : root_sets ≤ length names
  pub unanswered : (c : ℕ) → is_unanswered (calls c).status ≡ true → (root_sets ≤ length (calls c).names) × (length (calls c).names ≤ length names)
  pub planned : (c : ℕ) (run : Run) → (calls c).status ≡ Running run → IsPlanned c root_sets (calls c).names run.fop run.volume run.names
  pub in_turn : (c d : ℕ) (run : Run) → is_unanswered (calls c).status ≡ true → (calls d).status ≡ Running run → length (calls d).names ≤ length (calls c).names

abbrev pub InItsGraph : State → Type 0
InItsGraph m = RunsInItsGraph m.root_sets m.names m.calls
