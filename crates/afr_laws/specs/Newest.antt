-- Numbers of changes that touch a common cell rise in the order in which they become unsettled. Ours.
use Rattle.std.specs.Prelude.{◌≡◌, ℕ, ◌≤◌, true, false}
use Rattle.afr_machine.specs.Touching.{share}
use Rattle.afr_machine.specs.Changes.{is_unsettled}
use Rattle.afr_machine.specs.Transactions.{is_over}
use Rattle.afr_machine.specs.States.{State}
use Rattle.afr_laws.specs.OwnChanges.{was_unsettled}

-- While a transaction runs, no later change on the cells of its own became unsettled; and none did on those of an
-- unsettled change.
pub record NumbersRise (m : State) : Type 0 where
  pub own : (t v : ℕ) → 1 ≤ (m.txns t).own → is_over (m.txns t).stage ≡ false → was_unsettled (m.changes v).verdict ≡ true →
      share (m.changes v).cells (m.changes (m.txns t).own).cells ≡ true → v ≤ (m.txns t).own
  pub unsettled : (u v : ℕ) → is_unsettled (m.changes u).verdict ≡ true → was_unsettled (m.changes v).verdict ≡ true →
      share (m.changes v).cells (m.changes u).cells ≡ true → v ≤ u
