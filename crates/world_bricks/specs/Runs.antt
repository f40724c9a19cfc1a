-- The run of a seed: which events happen in it, and where it ends. Ours.
use Rattle.std.specs.Prelude.{◌≡◌, ◌⊎◌, ℕ, zero, suc, false, List, [], ◌∷◌, length, None, Some}
use Rattle.hub_tables.specs.PlanBricks.{has_queues}
use Rattle.world_bricks.specs.Choices.{picked}
use Rattle.world_bricks.specs.Schedules.{moved}
use Rattle.world_bricks.specs.Worlds.{WorldState, Happens, HappensWhere, MovesAgenda}
use Rattle.world_bricks.specs.declared.events.Event.{Event}

-- the generator's state after so many moves
abbrev pub drawn : ℕ → ℕ → ℕ
drawn x zero = x
drawn x (suc n) = drawn (moved x) n

-- no task is ready where no plan has an io-threads node
abbrev pub HasNoTask : WorldState → Type 0
HasNoTask w = has_queues w.plans ≡ false → w.tasks ≡ []

-- The event that this value picks happens in a world, and then what follows of the world that it leaves. What is due there is known,
-- but for the tasks that are ready where a plan has an io-threads node: how many they are, and which, is open after each event but a
-- service, and with it which event the next value picks.
pub record PicksThen (value : ℕ) (e : Event) (w : WorldState) (follows : WorldState → Type 0) : Type 0 where
  pub after : WorldState
  pub no_task : HasNoTask w
  pub is_picked : picked w.agenda w.tasks w.lines value ≡ Some e
  pub happens : Happens w.script e w.log w.lines after.log after.lines
  pub same : (after.script ≡ w.script) × (after.plans ≡ w.plans)
  pub agenda : MovesAgenda e w.script w.log w.lines w.agenda w.tasks after.log after.agenda after.tasks
  pub then_follows : follows after

-- these events happen, one after another, each picked by the generator's next value
abbrev pub ArePicked : ℕ → List Event → WorldState → WorldState → Type 0
ArePicked x [] w after = after ≡ w
ArePicked x (e ∷ es) w after = PicksThen (moved x) e w (λ next. ArePicked (moved x) es next after)

-- what this value picks does not happen
pub record PicksInVain (value : ℕ) (w : WorldState) : Type 0 where
  pub event : Event
  pub no_task : HasNoTask w
  pub is_picked : picked w.agenda w.tasks w.lines value ≡ Some event
  pub vain : HappensWhere event w.script w.agenda w.tasks w.log w.lines false

-- a run has ended, after so many events: no event is left, or what is picked does not happen, or they are as many as a u64 counts
abbrev pub HasEnded : ℕ → ℕ → WorldState → Type 0
HasEnded x many w = (HasNoTask w × (picked w.agenda w.tasks w.lines (moved x) ≡ None)) ⊎ PicksInVain (moved x) w ⊎ (many ≡ 18446744073709551615)

-- the run of a seed leads from one world to the other
pub record IsRunOf (seed : ℕ) (w after : WorldState) : Type 0 where
  pub events : List Event
  pub are_picked : ArePicked seed events w after
  pub ended : HasEnded (drawn seed (length events)) (length events) after
