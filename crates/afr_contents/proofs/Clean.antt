-- At a brick that a transaction uses and of which it awaits no answer, no request in the line changes a copy of its cells.
use Rattle.std.proofs.Common.{◌≡◌, ◌∙◌, ℕ, Bool, true, false, refl, sym, ap, subst, ◌⊎◌, inl, inr}
use Rattle.std.specs.Prelude.{List, [], ◌++◌, ◌≢◌}
use Rattle.std.proofs.lemmas.Bool.{cases_eq}
use Rattle.fop_types.specs.declared.cells.Cell.{Cell}
use Rattle.afr_machine.specs.Replicas.{Size}
use Rattle.afr_machine.specs.Touching.{has_cell}
use Rattle.afr_machine.specs.Requests.{Sender, Ask}
use Rattle.afr_machine.specs.States.{State}
use Rattle.afr_machine.specs.Births.{cells_of_work}
use Rattle.afr_machine.specs.Turns.{open_grants}
use Rattle.afr_machine.specs.Steps.{IsReached}
use Rattle.afr_laws.specs.Senders.{EachInput}
use Rattle.afr_laws.specs.Flights.{is_mine, in_locks, in_line, in_outputs, IsFlight}
use Rattle.afr_laws.specs.Flights.IsFlight.{NoFlight, OneFlight, OpensFirst, Strayed, StrayedThenUnlocks}
use Rattle.afr_laws.specs.Grants.{lock_of}
use Rattle.afr_laws.specs.Apart.{IsGranted}
use Rattle.afr_laws.specs.Apart.IsGranted.{HandedIn}
use Rattle.afr_laws.specs.Alone.{IsApartFrom}
use Rattle.afr_laws.specs.Covered.{cells_asked}
use Rattle.afr_laws.specs.Fresh.{is_behind}
use Rattle.afr_laws.proofs.Bools.{apart_bools, is_or_not, both_left}
use Rattle.afr_laws.proofs.Flying.{on_their_way}
use Rattle.afr_laws.proofs.ConnectsFirst.{connects_come_first}
use Rattle.afr_laws.proofs.Covered.Granted.{grants_stand}
use Rattle.afr_laws.proofs.Work.Known.{works_are_known}
use Rattle.afr_laws.proofs.Overtaken.Steps.{HasOpen, has_open}
use Rattle.afr_laws.proofs.Standing.Alone.{granted_alone}
use Rattle.afr_laws.proofs.Standing.Stores.{share_none_at}
use Rattle.afr_soundness.proofs.Copied.Stores.{recopies, recopies_alters}
use Rattle.afr_soundness.proofs.Copied.Lines.{AllAsks, all_right, each_both, own_each, behind_locks}

module _ (size : Size) (m : State) (r : IsReached size m) (t k : ℕ) (used : (m.txns t).out k ≡ false) (idle : (m.txns t).waits k ≡ false) (behind : is_behind (m.txns t).stage ≡ true) (granted : open_grants m t k ≡ true) where
  none_flies : (f : List Ask) (w o c : Bool) → IsFlight f w o c → o ≡ false → w ≡ false → f ≡ []
  none_flies f w o c (NoFlight e) u i = e
  none_flies f w o c (OneFlight a e waits current) u i = apart_bools waits i
  none_flies f w o c (OpensFirst a e fd waits current) u i = apart_bools waits i
  none_flies f w o c (Strayed a e fd out) u i = apart_bools out u
  none_flies f w o c (StrayedThenUnlocks a e fd out waits current) u i = apart_bools out u

  abbrev None : Ask → Type 0
  None a = ⊥

  open_one : HasOpen m t k
  open_one = has_open m t k granted

  held : IsGranted m k (lock_of t (m.txns t).graph open_one.grant)
  held = HandedIn t open_one.grant (record { granted = open_one.granted; still_open = open_one.current; holding = behind_locks (m.txns t).stage behind }) refl

  pub own_none : EachInput (λ by ask. by.txn ≡ t → ⊥) (m.bricks k).line
  own_none =
      own_each m k t None (m.bricks k).line ((on_their_way size m r).numbered k).line
      (connects_come_first size m r k (m.txns t).graph (both_left _ _ open_one.current)).line
      (grants_stand size m r k (lock_of t (m.txns t).graph open_one.grant) held).behind
      (all_right None (in_locks mine (m.bricks k).waiting) (in_line mine (m.bricks k).line)
      (all_right None (in_outputs mine (m.bricks k).outputs) (in_locks mine (m.bricks k).waiting ++ in_line mine (m.bricks k).line)
      (subst (AllAsks None) (sym ((on_their_way size m r).known t k)) (subst (AllAsks None) (sym flies) tt)))) where
        mine : Sender → Bool
        mine = is_mine t (m.links k (m.txns t).graph)

        flies : (m.txns t).flying k ≡ []
        flies = none_flies ((m.txns t).flying k) ((m.txns t).waits k) ((m.txns t).out k) _ ((on_their_way size m r).few t k) used idle

  pub clean : (cell : Cell) → has_cell (cells_of_work m.changes (m.txns t) (m.txns t).work) cell ≡ true → EachInput (λ by ask. recopies ask cell ≡ false) (m.bricks k).line
  clean cell covers =
      each_both (IsApartFrom (lock_of t (m.txns t).graph open_one.grant)) (λ by ask. by.txn ≡ t → ⊥) (λ by ask. recopies ask cell ≡ false) by_owner (m.bricks k).line
      (granted_alone size m r k (lock_of t (m.txns t).graph open_one.grant) held) own_none where
        over : has_cell open_one.grant.cells cell ≡ true
        over = ap (λ cs. has_cell cs cell) ((works_are_known size m r t).grants k open_one.grant open_one.granted).over ∙ covers

        by_owner : (by : Sender) (ask : Ask) → IsApartFrom (lock_of t (m.txns t).graph open_one.grant) by ask → (by.txn ≡ t → ⊥) → recopies ask cell ≡ false
        by_owner by ask apart own = by_kind (is_or_not (recopies ask cell)) (cases_eq by.txn t) where
          by_kind : (recopies ask cell ≡ true) ⊎ (recopies ask cell ≡ false) → (by.txn ≡ t) ⊎ (by.txn ≢ t) → recopies ask cell ≡ false
          by_kind (inr none) owner = none
          by_kind (inl some) (inl same) = absurd (own same)
          by_kind (inl some) (inr other) = let a = recopies_alters ask cell some in apart_bools a.1 (share_none_at open_one.grant.cells (cells_asked ask) cell (apart a.0 other) over)
