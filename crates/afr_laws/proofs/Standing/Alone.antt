-- Nobody else's request in a brick's line alters a cell of a granted lock, over every list of steps.
use Rattle.std.proofs.Common.{◌≡◌, ◌∙◌, ℕ, Bool, true, false, refl, sym, ap, subst, ◌⊎◌, inl, inr}
use Rattle.std.specs.Prelude.{List}
use Rattle.afr_machine.specs.Replicas.{Size}
use Rattle.afr_machine.specs.Touching.{has_cell, share}
use Rattle.afr_machine.specs.Requests.{Sender, Ask, Input}
use Rattle.afr_machine.specs.Locks.{BrickLock}
use Rattle.afr_machine.specs.Bricks.{Brick}
use Rattle.afr_machine.specs.States.{State}
use Rattle.afr_machine.specs.Births.{cells_of_work}
use Rattle.afr_machine.specs.Sending.{MayAsk, asks_of, inputs_of, sender_of}
use Rattle.afr_machine.specs.Steps.{Step, Allowed, after, IsReached}
use Rattle.afr_machine.specs.Moves.{IsTaken, BrickMove}
use Rattle.afr_machine.specs.Moves.BrickMove.{Stays, Takes, Hands, Serves, Refuses, GivesUp, Steers}
use Rattle.afr_machine.proofs.BrickMoves.{bricks_move}
use Rattle.afr_laws.specs.Senders.{EachInput}
use Rattle.afr_laws.specs.Grants.{has_closed, lock_of}
use Rattle.afr_laws.specs.Apart.{Holds, IsGranted, GrantsApart}
use Rattle.afr_laws.specs.Apart.IsGranted.{HandedIn, OnItsWay}
use Rattle.afr_laws.specs.Covered.{cells_asked}
use Rattle.afr_laws.specs.Work.{shares_of, IsOfWork, EachKnowsWork}
use Rattle.afr_laws.specs.Fresh.{EachKnowsPhase}
use Rattle.afr_laws.specs.OwnChanges.{ChangesAreOwn}
use Rattle.afr_laws.specs.Alone.{IsApartFrom}
use Rattle.afr_laws.specs.Standing.{GrantedAlterAlone}
use Rattle.afr_laws.proofs.Bools.{is_or_not}
use Rattle.afr_laws.proofs.Senders.{inputs_append}
use Rattle.afr_laws.proofs.Connecting.{served_line, steered_line}
use Rattle.afr_laws.proofs.Flying.{on_their_way}
use Rattle.afr_laws.proofs.HeldApart.{held_apart}
use Rattle.afr_laws.proofs.Grants.{grants_are_held}
use Rattle.afr_laws.proofs.Apart.Pairs.{granted_held}
use Rattle.afr_laws.proofs.Apart.Back.{GrantsBack}
use Rattle.afr_laws.proofs.Apart.Steps.{start_none, step_back, grants_apart}
use Rattle.afr_laws.proofs.OwnChanges.Steps.{changes_are_own}
use Rattle.afr_laws.proofs.Fresh.Known.{phases_are_known}
use Rattle.afr_laws.proofs.Work.Known.{works_are_known}
use Rattle.afr_laws.proofs.Covered.Granted.{current_of}
use Rattle.afr_laws.proofs.Covered.Sent.{IsSentUnder, sent_under}
use Rattle.afr_laws.proofs.Covered.Asked.{IsOnWork, sent_on}
use Rattle.afr_laws.proofs.Alone.Holder.{alters_needs, part_apart, exclusive_apart, holders_write_alone}

-- ---- one move, a lock that was granted before

module _ (may : List Input → Type 0) (old new : Brick) (P : Sender → Ask → Type 0) (taken : (inputs : List Input) → may inputs → EachInput P inputs) (each : EachInput P old.line) where
  pub move_each : BrickMove may old new → EachInput P new.line
  move_each (Stays is) = subst (λ (b : Brick). EachInput P b.line) (sym is) each
  move_each (Takes inputs its is) = subst (λ (b : Brick). EachInput P b.line) (sym is) (inputs_append P old.line inputs each (taken inputs its))
  move_each (Hands first rest front is) = subst (λ (b : Brick). EachInput P b.line) (sym is) each
  move_each (Serves by ask rest front would is) =
      subst (λ (b : Brick). EachInput P b.line) (sym is) (subst (EachInput P) (sym (served_line old.power by ask (record old { line = rest }))) (subst (EachInput P) front each).1)
  move_each (Refuses by ask answer rest front may_be refusal is) = subst (λ (b : Brick). EachInput P b.line) (sym is) (subst (EachInput P) front each).1
  move_each (GivesUp by ask rest front would is) = subst (λ (b : Brick). EachInput P b.line) (sym is) (subst (EachInput P) front each).1
  move_each (Steers control rest front is) =
      subst (λ (b : Brick). EachInput P b.line) (sym is) (subst (EachInput P) (sym (steered_line control (record old { line = rest }))) (subst (EachInput P) front each))

-- ---- what is taken

module _ (size : Size) (m : State) (apart : GrantsApart m) (works : EachKnowsWork m) (phases : EachKnowsPhase m) (own : ChangesAreOwn m) (k : ℕ) (lock : BrickLock) (granted : IsGranted m k lock) where
  sent_apart : (t : ℕ) (ask : Ask) → MayAsk size m t k ask → IsApartFrom lock (sender_of m t k) ask
  sent_apart t ask may alter differs =
      part_apart lock.cells s.grant.grant.cells (cells_asked ask) (λ cell has. ap (λ cs. has_cell cs cell) of_work.over ∙ on.over cell has)
      (exclusive_apart (share lock.cells s.grant.grant.cells) lock.shared s.grant.grant.shared (apart k lock (lock_of t (m.txns t).graph s.grant.grant) (λ e. differs (sym e)) granted (HandedIn t s.grant.grant holds refl)) (of_work.kind ∙ on.alone alter))
    where
      s : IsSentUnder m t k
      s = sent_under size m t k ask may (alters_needs ask alter)

      on : IsOnWork m t ask
      on = sent_on size m t k works phases own ask may

      of_work : IsOfWork (cells_of_work m.changes (m.txns t) (m.txns t).work) (shares_of (m.txns t).job (m.txns t).work) s.grant.grant
      of_work = (works t).grants k s.grant.grant s.grant.granted

      holds : Holds m t k s.grant.grant
      holds = record { granted = s.grant.granted; still_open = s.grant.still_open; holding = s.holding }

  sent_both : (t : ℕ) (first : Bool) (ask : Ask) → MayAsk size m t k ask → EachInput (IsApartFrom lock) (inputs_of (sender_of m t k) (asks_of first ask))
  sent_both t true ask may = (λ alter. absurd cc, (sent_apart t ask may, tt))
  sent_both t false ask may = (sent_apart t ask may, tt)

  taken_apart : (step : Step) → Allowed size m step → (inputs : List Input) → IsTaken m step k inputs → EachInput (IsApartFrom lock) inputs
  taken_apart (Step.Asks t j first ask) h inputs taken =
      let may : MayAsk size m t k ask = subst (λ n. MayAsk size m t n ask) (sym taken.0) h.0 in
      let is : inputs ≡ inputs_of (sender_of m t k) (asks_of first ask) = taken.1 ∙ ap (λ n. inputs_of (sender_of m t n) (asks_of first ask)) (sym taken.0) in
      subst (EachInput (IsApartFrom lock)) (sym is) (sent_both t first ask may)
  taken_apart (Step.Controls j steering) h inputs taken = subst (EachInput (IsApartFrom lock)) (sym taken.1) tt
  taken_apart (Step.Connects j g) h inputs taken = subst (EachInput (IsApartFrom lock)) (sym taken.1) tt
  taken_apart (Step.Cuts j g) h inputs taken = subst (EachInput (IsApartFrom lock)) (sym taken.1) tt
  taken_apart other h inputs taken = absurd taken

-- ---- every list of steps

pub granted_alone : (size : Size) (m : State) → IsReached size m → GrantedAlterAlone m
granted_alone size m IsReached.Start = λ k lock x. absurd (start_none k lock x)
granted_alone size m (IsReached.Further old step reached allowed) = λ k lock x. by_case (granted_alone size old reached) k lock x (is_or_not (has_closed ((after size old step).bricks k).outputs)) where
  next : IsReached size (after size old step)
  next = IsReached.Further old step reached allowed

  back : GrantsBack old (after size old step)
  back = step_back size old (on_their_way size old reached).numbered (grants_are_held size old reached) step allowed

  before : (k : ℕ) (lock : BrickLock) → has_closed ((after size old step).bricks k).outputs ≡ true → IsGranted (after size old step) k lock → IsGranted old k lock
  before k lock closing (HandedIn t grant h is) = subst (IsGranted old k) (sym is) (back.handed t k grant h)
  before k lock closing (OnItsWay h current) = back.coming k lock closing h current

  -- while no Closed is on its way the brick holds the lock
  by_case : GrantedAlterAlone old → (k : ℕ) (lock : BrickLock) → IsGranted (after size old step) k lock → (has_closed ((after size old step).bricks k).outputs ≡ true) ⊎ (has_closed ((after size old step).bricks k).outputs ≡ false) → EachInput (IsApartFrom lock) ((after size old step).bricks k).line
  by_case was k lock x (inl closing) =
      let y : IsGranted old k lock = before k lock closing x in
      move_each (IsTaken old step k) (old.bricks k) ((after size old step).bricks k) (IsApartFrom lock)
      (taken_apart size old (grants_apart size old reached) (works_are_known size old reached) (phases_are_known size old reached) (changes_are_own size old reached) k lock y step allowed)
      (was k lock y) (bricks_move size old step allowed k)
  by_case was k lock x (inr none) =
      holders_write_alone size (after size old step) next k lock (granted_held (after size old step) (grants_are_held size (after size old step) next) (held_apart size (after size old step) next) k none lock x) (current_of (after size old step) k lock x) none
