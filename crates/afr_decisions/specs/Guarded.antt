-- What a guarded set keeps, under the names of the rules, but that copies agree, which `afr_contents` adds. Ours.
use Rattle.std.specs.Prelude.{◌≡◌, ℕ, Bool, true, Some}
use Rattle.afr_machine.specs.Replicas.{Size, IsSize}
use Rattle.afr_machine.specs.Requests.{Ask}
use Rattle.afr_machine.specs.Transactions.{Grant}
use Rattle.afr_machine.specs.States.{State, is_current, link_of}
use Rattle.afr_machine.specs.Sending.{sender_of}
use Rattle.afr_machine.specs.Steps.{Step, Allowed, IsReached}
use Rattle.afr_laws.specs.Covered.{needs_lock, LinesAreCovered}
use Rattle.afr_laws.specs.Flights.{AreOnTheirWay}
use Rattle.afr_laws.specs.Apart.{GrantsApart}
use Rattle.afr_soundness.specs.Deciding.{DecidesExactly}
use Rattle.afr_soundness.specs.Takers.{AskedAreMembers}
use Rattle.afr_soundness.specs.Free.{LastPhaseFree}
use Rattle.afr_soundness.specs.Unsettled.{OneUnsettled, NoOtherUnsettled}
use Rattle.afr_soundness.specs.Guarded.{UnsettledHasFree, PresentHasFree}
use Rattle.afr_decisions.specs.Stands.{DecisionsStand}

-- the brick's lock was granted on the connection on which the request goes, and which is open
pub record GoesOnGrant (m : State) (t k : ℕ) : Type 0 where
  pub grant : Grant
  pub granted : (m.txns t).grants k ≡ Some grant
  pub open_still : is_current (link_of m t k) grant.connection ≡ true
  pub same : (sender_of m t k).connection ≡ grant.connection

-- Each request that needs a lock goes on the connection on which its brick granted that lock; while its transaction waits for the
-- answer the brick is a member with that grant; and while the request is in the line of a brick that has its graph connected,
-- the brick holds the lock.
pub record SentOnGrant (size : Size) (m : State) : Type 0 where
  pub sent : (t k : ℕ) (first : Bool) (ask : Ask) → Allowed size m (Step.Asks t k first ask) → needs_lock ask ≡ true → GoesOnGrant m t k
  pub asked : AskedAreMembers m
  pub known : AreOnTheirWay m
  pub covered : LinesAreCovered m

pub record IsGuarded (size : Size) (m : State) : Type 0 where
  pub one_unsettled : OneUnsettled m
  pub unsettled_has_free : UnsettledHasFree size m
  pub present_has_free : PresentHasFree size m
  pub sent_on_grant : SentOnGrant size m
  pub sole_locks_apart : GrantsApart m
  pub last_phase_free : LastPhaseFree size m
  pub decisions_stand : DecisionsStand size m
  pub accuses_outsiders : DecidesExactly size m
  pub no_other_unsettled : NoOtherUnsettled m

abbrev pub EveryStateIsGuarded : Type 0
EveryStateIsGuarded = (size : Size) (m : State) → IsSize size → IsReached size m → IsGuarded size m
