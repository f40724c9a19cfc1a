-- A report that is handed in comes from a brick whose grant is on the open connection: none that a later lock phase over one of
-- the cells reached. And who is behind a lock phase was so, or ended it now.
use Rattle.std.proofs.Common.{◌≡◌, ◌∙◌, ℕ, ◌+◌, ◌≤◌, ◌<◌, Bool, true, false, refl, sym, ap, subst, arith}
use Rattle.std.specs.Prelude.{List}
use Rattle.afr_machine.specs.Replicas.{Size}
use Rattle.afr_machine.specs.Touching.{share}
use Rattle.afr_machine.specs.Requests.{Sender, Ask, Answer}
use Rattle.afr_machine.specs.Transactions.{Stage, Txn}
use Rattle.afr_machine.specs.Transactions.Work.{Own, Settles}
use Rattle.afr_machine.specs.Transactions.Stage.{Over, Applying, Posting, Settling}
use Rattle.afr_machine.specs.States.{State, is_current, phase_of}
use Rattle.afr_machine.specs.Answering.{is_single}
use Rattle.afr_machine.specs.Turns.{Turn, MayReach, open_grants}
use Rattle.afr_machine.specs.Steps.{Step, Allowed, after, IsReached}
use Rattle.afr_laws.specs.Flights.{IsFlight}
use Rattle.afr_laws.specs.Flights.IsFlight.{NoFlight, OneFlight, OpensFirst, Strayed, StrayedThenUnlocks}
use Rattle.afr_laws.specs.Fresh.{is_behind}
use Rattle.afr_laws.specs.Work.{changes_in}
use Rattle.afr_laws.proofs.Bools.{apart_bools, both_right}
use Rattle.afr_laws.proofs.Flying.{on_their_way}
use Rattle.afr_laws.proofs.Work.Known.{works_are_known}
use Rattle.afr_laws.proofs.Fresh.Turns.{copied_behind, copies_behind}
use Rattle.afr_laws.proofs.Overtaken.Steps.{opens, overtaken_apart}
use Rattle.afr_soundness.specs.Takers.{IsMemberOf}
use Rattle.afr_soundness.proofs.TxnMoves.{TxnMove, txn_moves}
use Rattle.afr_soundness.proofs.PhaseMoves.{IsHandedIn}
use Rattle.afr_soundness.proofs.States.{phase_stays}
use Rattle.afr_soundness.proofs.Deciding.Kept.{keeps_behind}
use Rattle.afr_soundness.proofs.Takers.Asked.{asked_are_members}
use Rattle.afr_decisions.specs.Confirmed.{is_reporting}
use Rattle.afr_decisions.proofs.Noted.{handed_waits}

-- what it waits for was asked on the connection that is open
asked_current : (f : List Ask) (w o c : Bool) → IsFlight f w o c → is_single f ≡ true → o ≡ false → c ≡ true
asked_current f w o c (NoFlight e) single used = absurd (let no : false ≡ true = sym (ap is_single e) ∙ single in cc)
asked_current f w o c (OneFlight a e w_is current) single used = current
asked_current f w o c (OpensFirst a e fd w_is current) single used = current
asked_current f w o c (Strayed a e fd out) single used = apart_bools out used
asked_current f w o c (StrayedThenUnlocks a e fd out w_is current) single used = current

module _ (size : Size) (m : State) (r : IsReached size m) (k : ℕ) (by : Sender) (ask : Ask) (answer : Answer) (h : IsHandedIn m k by ask answer) (behind : is_behind (m.txns by.txn).stage ≡ true) where
  member : IsMemberOf (phase_of m by.txn) (m.txns by.txn) k
  member = asked_are_members size m r by.txn k behind (handed_waits size m r k by ask answer h)

  pub handed_open : open_grants m by.txn k ≡ true
  handed_open =
      let current = asked_current ((m.txns by.txn).flying k) ((m.txns by.txn).waits k) ((m.txns by.txn).out k) _ ((on_their_way size m r).few by.txn k) (both_right ((m.txns by.txn).waits k) (is_single ((m.txns by.txn).flying k)) h.awaited) member.not_out in
      opens m by.txn k (record { grant = member.grant; granted = member.granted; current = ap (is_current (m.links k (m.txns by.txn).graph)) member.on ∙ current })

  -- so no later lock phase over a common cell reached that brick
  pub handed_apart : changes_in (m.txns by.txn).stage ≡ true → (at : ℕ) → (m.txns by.txn).phase < at → at ≤ m.ended → share (phase_of m by.txn).cells (m.phases at).cells ≡ true → (m.phases at).reached k ≡ true → ⊥
  handed_apart alters at later low shared reached =
      apart_bools handed_open (overtaken_apart size m r by.txn at k behind ((works_are_known size m r by.txn).exclusive alters) (record { later = later; ended = low; common = shared }) reached)

pub reports_change : (stage : Stage) → is_reporting stage ≡ true → changes_in stage ≡ true
reports_change (Posting u) h = refl
reports_change (Settling u group adopts) h = refl
reports_change other h = absurd (let e : false ≡ true = h in cc)

-- ---- behind a lock phase

module _ (size : Size) (m : State) (r : IsReached size m) (step : Step) (allowed : Allowed size m step) (t : ℕ) where
  abbrev new : State
  new = after size m step

  pub data BehindFrom : Type 0 where
    Was : is_behind (m.txns t).stage ≡ true → (new.txns t).phase ≡ (m.txns t).phase → BehindFrom
    Ends : step ≡ Step.Turns t Turn.Reaches → MayReach size m t → (new.txns t).phase ≡ m.ended + 1 → BehindFrom

  module _ (behind : is_behind (new.txns t).stage ≡ true) where
    was : is_behind (m.txns t).stage ≡ true → BehindFrom
    was h = Was h (phase_stays size m r step allowed t h)

    not_behind : (y : Txn) → new.txns t ≡ y → is_behind y.stage ≡ false → BehindFrom
    not_behind y is free = apart_bools behind (ap (λ (z : Txn). is_behind z.stage) is ∙ free)

    by_move : TxnMove size m step t (new.txns t) → BehindFrom
    by_move (TxnMove.Goes quiet g) = was (sym (keeps_behind (m.txns t).stage (new.txns t).stage g.stage) ∙ behind)
    by_move (TxnMove.Begins graph own step_is at is) = not_behind _ is refl
    by_move (TxnMove.Locks Own step_is h is) = not_behind _ is refl
    by_move (TxnMove.Locks (Settles v) step_is h is) = not_behind _ is refl
    by_move (TxnMove.Reaches step_is h is) = Ends step_is h (ap (λ (z : Txn). z.phase) is)
    by_move (TxnMove.Marks step_is h is) = was (copied_behind (m.txns t).stage h.copied)
    by_move (TxnMove.Unsettles step_is h is) = was (ap is_behind h.turn)
    by_move (TxnMove.Posts step_is h is) = was (ap is_behind h.turn)
    by_move (TxnMove.SettlesAs group adopts step_is h is) = was (ap is_behind h.turn)
    by_move (TxnMove.Bears step_is h is) = was (ap is_behind h.turn)
    by_move (TxnMove.Copies run step_is h is) = was (copies_behind m t (m.txns t).work run.group h.allowed)
    by_move (TxnMove.Clears step_is h is) = was (ap is_behind h.turn)
    by_move (TxnMove.Polls step_is h is) = not_behind _ is refl
    by_move (TxnMove.Unlocks step_is h is) = not_behind _ is refl
    by_move (TxnMove.Rests step_is h is) = not_behind _ is refl
    by_move (TxnMove.Ends step_is h is) = of_end is where
      of_end : new.txns t ≡ record (m.txns t) { stage = Over } → BehindFrom
      of_end e = not_behind _ e refl

    pub behind_from : BehindFrom
    behind_from = by_move (txn_moves size m step allowed t)
