-- That what a turn sends may be sent one after another: sending to one replica, and missing one, leaves the guards of the
-- others.
use Rattle.std.specs.Prelude.{◌≡◌, ℕ, Bool, true, false, List, [], ◌∷◌, Some}
use Rattle.fop_types.specs.Bounds.{Each}
use Rattle.fop_types.specs.declared.contents.Mask.{Mask}
use Rattle.fop_types.specs.declared.messages.BrickReq.{BrickReq}
use Rattle.afr_machine.specs.Replicas.{Size}
use Rattle.afr_machine.specs.Requests.{Ask}
use Rattle.afr_machine.specs.Sending.{carries_fd}
use Rattle.afr_machine.specs.States.{State}
use Rattle.afr_machine.specs.Steps.{Step, Allowed, after}
use Rattle.afr_phases.specs.Asked.{AreApart}
use Rattle.afr_phases.specs.Locks.{keeps}
use Rattle.afr_transaction.specs.declared.txn.Txn.{Txn}
use Rattle.txn_machine.specs.Asks.{ask_of}
use Rattle.txn_machine.specs.Guards.{MeetsGuard}
use Rattle.txn_machine.specs.Records.{asks_members, asks_at_once}

-- The step that sends the request, with an open of its descriptor before it or without, is allowed; where the lock was lost,
-- the step that misses the replica is, for a phase that asks several at once. After the step the same holds of the requests
-- that follow.
abbrev pub AreAllowed : Size → State → ℕ → Txn → Mask → List ℕ → List (ℕ × BrickReq) → Type 0
AreAllowed size m t txn live last [] = Unit {0}
AreAllowed size m t txn live last (r ∷ rs) =
    ((first : Bool) (ask : Ask) → ask_of txn.settles r.1 ≡ Some ask → (first ≡ true → carries_fd ask ≡ true) → (asks_members txn.phase ≡ true → keeps txn.locks r.0 live last ≡ true)
    → Allowed size m (Step.Asks t r.0 first ask) × AreAllowed size (after size m (Step.Asks t r.0 first ask)) t txn live last rs)
    × (asks_members txn.phase ≡ true → asks_at_once txn.phase ≡ true → keeps txn.locks r.0 live last ≡ false
    → Allowed size m (Step.Misses t r.0) × AreAllowed size (after size m (Step.Misses t r.0)) t txn live last rs)

-- the law: requests to different replicas, each of which meets its guard, may be sent one after another
abbrev pub OneAfterAnother : Type 0
OneAfterAnother = (size : Size) (m : State) (t : ℕ) (txn : Txn) (live : Mask) (last : List ℕ) (list : List (ℕ × BrickReq))
    → AreApart list → Each (λ (r : ℕ × BrickReq). MeetsGuard size m t txn live last r.0 r.1) list → AreAllowed size m t txn live last list
