-- How many fops a call sends: one lookup for each component, and its last fop.
use Rattle.std.specs.Prelude.{◌≡◌, ℕ, ◌<◌, ◌≤◌, List, length, Some, None}
use Rattle.fop_types.specs.Calls.{looked_up, lookups}
use Rattle.fop_types.specs.Files.{Files}
use Rattle.fop_types.specs.declared.calls.Call.{Call}
use Rattle.call_fops.specs.Lawful.{Sight, AreSeen, walk_after}
use Rattle.call_fops.specs.Walks.{begun, next_name}

-- no more lookups find something than the call has components, fewer while one is looked up, and as many when none is left
pub record LookupsAreCounted : Type 0 where
  pub most : (files : ℕ → Files) (c : Call) (seen : List Sight) → AreSeen files c begun seen → length seen ≤ lookups (looked_up c)
  pub fewer : (files : ℕ → Files) (c : Call) (seen : List Sight) (name : List ℕ) → AreSeen files c begun seen
      → next_name c (walk_after c begun seen) ≡ Some name → length seen < lookups (looked_up c)
  pub all : (files : ℕ → Files) (c : Call) (seen : List Sight) → AreSeen files c begun seen
      → next_name c (walk_after c begun seen) ≡ None → length seen ≡ lookups (looked_up c)
