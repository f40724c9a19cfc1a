-- A brick to which the op of an unsettled change is still to be sent has exactly the adopted changes of its cells: one step.
use Rattle.std.proofs.Common.{◌≡◌, ◌∙◌, ℕ, ◌≤◌, ◌<◌, true, false, sym, ap, subst, ◌⊎◌, inl, inr, arith}
use Rattle.std.specs.Prelude.{List, ◌∷◌}
use Rattle.fop_types.specs.declared.cells.Cell.{Cell}
use Rattle.afr_machine.specs.Replicas.{Size, IsSize, nobody}
use Rattle.afr_machine.specs.Touching.{has_cell}
use Rattle.afr_machine.specs.Requests.{Sender, Ask, Input}
use Rattle.afr_machine.specs.Requests.Ask.{Op, Replace}
use Rattle.afr_machine.specs.Requests.Input.{Asked}
use Rattle.afr_machine.specs.Changes.{is_unsettled}
use Rattle.afr_machine.specs.Changes.Verdict.{Drawn}
use Rattle.afr_machine.specs.Transactions.{is_over}
use Rattle.afr_machine.specs.Transactions.Work.{Own}
use Rattle.afr_machine.specs.Transactions.Stage.{Marking, Applying, Bearing}
use Rattle.afr_machine.specs.States.{State, phase_of}
use Rattle.afr_machine.specs.Births.{cells_of_work}
use Rattle.afr_machine.specs.Steps.{Step, Allowed, after, IsReached}
use Rattle.afr_laws.specs.Senders.{EachInput}
use Rattle.afr_laws.specs.Asking.{IsAskedBy, IsReplacing}
use Rattle.afr_laws.specs.Fresh.{is_behind, IsWorkOf}
use Rattle.afr_laws.specs.OwnChanges.{was_unsettled, IsOwnStage, OwnsChange}
use Rattle.afr_laws.specs.Ready.{IsReadyFor, AreReady}
use Rattle.afr_laws.proofs.Bools.{apart_bools, is_or_not}
use Rattle.afr_laws.proofs.Counts.{count_within}
use Rattle.afr_laws.proofs.Fresh.Known.{phases_are_known, own_cells}
use Rattle.afr_laws.proofs.OwnChanges.Steps.{changes_are_own}
use Rattle.afr_laws.proofs.Ready.Steps.{members_are_ready}
use Rattle.afr_soundness.specs.CopyApart.{IsNoOpOf}
use Rattle.afr_soundness.specs.Later.{is_before}
use Rattle.afr_soundness.proofs.ChangeMoves.{cells_stay}
use Rattle.afr_soundness.proofs.Copied.Lines.{recopied_by_own}
use Rattle.afr_soundness.proofs.Copied.Stores.{recopies}
use Rattle.afr_soundness.proofs.Unsettled.{UnsettledFrom, unsettled_from, drawn_from, becomes_own}
use Rattle.afr_decisions.proofs.Left.{BeginsNow, left_from, left_are_without}
use Rattle.afr_contents.specs.Staying.{accusers_staying, IsAccusedByMany}
use Rattle.afr_contents.specs.Good.{IsGoodAt, IsGoodOrAccused, CopiesGoodOrAccused, IsSettledCopy}
use Rattle.afr_contents.specs.Found.{IsSettledFor}
use Rattle.afr_contents.specs.Lasting.{IsAccusedApart}
use Rattle.afr_contents.specs.Coming.{IsUsed, LeftAreSettled, ComesGood}
use Rattle.afr_contents.proofs.Found.{ready_have_adopted}
use Rattle.afr_contents.proofs.Keeping.{DecidesOn, one_on}
use Rattle.afr_contents.proofs.Using.{held_reached, held_granted}
use Rattle.afr_contents.proofs.Decided.{still}
use Rattle.afr_contents.proofs.Values.{settled_goes, copy_kept}
use Rattle.afr_contents.proofs.FetchedGood.{used_before}

-- whoever is accused for good is accused
pub many_of : (size : Size) (m : State) (i : ℕ) (cell : Cell) → IsAccusedApart size m cell i nobody → IsAccusedByMany size m cell i
many_of size m i cell a =
    let more = count_within size.replicas a.by (accusers_staying m cell i) (λ k few h. (a.each k few h).stays) in
    let enough = a.many in
    omega (arith, more, enough)

pub copies_of : (size : Size) (m : State) → ((i : ℕ) (cell : Cell) → i < size.replicas → IsGoodAt m i cell ⊎ IsAccusedApart size m cell i nobody) → CopiesGoodOrAccused size m
copies_of size m was i cell low = by_case (was i cell low) where
  by_case : IsGoodAt m i cell ⊎ IsAccusedApart size m cell i nobody → IsGoodOrAccused size m i cell
  by_case (inl good) = inl good
  by_case (inr a) = inr (many_of size m i cell a)

-- ---- at a brick that it uses, the front changes a copy only as the stage asks

module _ (size : Size) (m : State) (r : IsReached size m) (t k : ℕ) (cell : Cell) (behind : is_behind (m.txns t).stage ≡ true) (used : IsUsed m t k) (covers : has_cell (cells_of_work m.changes (m.txns t) (m.txns t).work) cell ≡ true) where
  front_keeps : ((by : Sender) (ask : Ask) (rest : List Input) → (m.bricks k).line ≡ Asked by ask ∷ rest → recopies ask cell ≡ true → IsAskedBy size m.changes (m.txns t).job (m.txns t).stage k ask → ⊥) →
      (by : Sender) (ask : Ask) (rest : List Input) → (m.bricks k).line ≡ Asked by ask ∷ rest → recopies ask cell ≡ false
  front_keeps none by ask rest front = by_case (is_or_not (recopies ask cell)) where
    line : EachInput (λ b a. recopies a cell ≡ true → IsAskedBy size m.changes (m.txns t).job (m.txns t).stage k a) (m.bricks k).line
    line = recopied_by_own size m r t k used.not_out behind (held_granted m t k used.held) cell covers

    by_case : (recopies ask cell ≡ true) ⊎ (recopies ask cell ≡ false) → recopies ask cell ≡ false
    by_case (inl some) = absurd (none by ask rest front some ((subst (EachInput (λ b a. recopies a cell ≡ true → IsAskedBy size m.changes (m.txns t).job (m.txns t).stage k a)) front line).0 some))
    by_case (inr other) = other

-- a mark is no such request, and an op is one of the change
marking_asks : (size : Size) (m : State) (t u k : ℕ) (cell : Cell) (ask : Ask) → (m.txns t).stage ≡ Marking u → recopies ask cell ≡ true → IsAskedBy size m.changes (m.txns t).job (m.txns t).stage k ask → ⊥
marking_asks size m t u k cell (Op v op) is has (inl applies) = absurd (let no : Marking u ≡ Applying v = sym is ∙ applies.0 in cc)
marking_asks size m t u k cell (Op v op) is has (inr bears) = absurd (let no : Marking u ≡ Bearing = sym is ∙ bears.0 in cc)
marking_asks size m t u k cell (Replace at found) is has asks = absurd (subst (λ s. IsReplacing s k at found) is asks)
marking_asks size m t u k cell other is has asks = absurd (let no : false ≡ true = has in cc)

applied_change : (u v : ℕ) → Applying u ≡ Applying v → v ≡ u
applied_change u v e = cc

applying_asks : (size : Size) (m : State) (t u k : ℕ) (cell : Cell) (b : Sender) (ask : Ask) → (m.txns t).stage ≡ Applying u → recopies ask cell ≡ true → IsNoOpOf u ask → IsAskedBy size m.changes (m.txns t).job (m.txns t).stage k ask → ⊥
applying_asks size m t u k cell b (Op v op) is has none (inl applies) = none (applied_change u v (sym is ∙ applies.0))
applying_asks size m t u k cell b (Op v op) is has none (inr bears) = absurd (let no : Applying u ≡ Bearing = sym is ∙ bears.0 in cc)
applying_asks size m t u k cell b (Replace at found) is has none asks = absurd (subst (λ s. IsReplacing s k at found) is asks)
applying_asks size m t u k cell b other is has none asks = absurd (let no : false ≡ true = has in cc)

module _ (size : Size) (m : State) (is_size : IsSize size) (r : IsReached size m) (was : ComesGood size m) (step : Step) (allowed : Allowed size m step) where
  abbrev new : State
  new = after size m step

  module _ (t u k : ℕ) (cell : Cell) (few : k < size.replicas) (stage : (new.txns t).stage ≡ Applying u) (now : is_unsettled (new.changes u).verdict ≡ true) (left : (new.txns t).left k ≡ true) (used : IsUsed new t k) (touches : has_cell (new.changes u).cells cell ≡ true) where
    abbrev Goal : Type 0
    Goal = IsSettledCopy new cell ((new.bricks k).store cell).copy

    drawn : u ≤ m.drawn
    drawn = drawn_from size m r step allowed u (unsettled_from size m r step allowed u now)

    touched : has_cell (m.changes u).cells cell ≡ true
    touched = sym (ap (λ cs. has_cell cs cell) (cells_stay size m step allowed u drawn)) ∙ touches

    -- the cells of its work are those of the change
    work_has : (m.txns t).work ≡ Own → (m.txns t).own ≡ u → 1 ≤ u → has_cell (cells_of_work m.changes (m.txns t) (m.txns t).work) cell ≡ true
    work_has work own one = ap (λ cs. has_cell cs cell) (own_cells size m t k (phases_are_known size m r) (changes_are_own size m r) u own one work) ∙ touched

    from_kept : ((v : ℕ) → DecidesOn size m r step allowed cell v → ⊥) → ((by : Sender) (ask : Ask) (rest : List Input) → (m.bricks k).line ≡ Asked by ask ∷ rest → recopies ask cell ≡ false) → IsSettledCopy m cell ((m.bricks k).store cell).copy → Goal
    from_kept none keeps s = settled_goes size m is_size r step allowed cell none ((new.bricks k).store cell).copy (record { held = s.held; is = copy_kept size m is_size r step allowed k cell keeps s.held s.is; changes = s.changes; content = s.content })

    -- it was left before
    module _ (applies : (m.txns t).stage ≡ Applying u) (left_then : (m.txns t).left k ≡ true) where
      own : ((m.txns t).own ≡ u) × ((1 ≤ u) × (was_unsettled (m.changes u).verdict ≡ true))
      own = subst (λ s. IsOwnStage m.changes (m.txns t).own s) applies ((changes_are_own size m r).own t).stage

      unsettled : is_unsettled (m.changes u).verdict ≡ true
      unsettled = by_case (unsettled_from size m r step allowed u now) where
        by_case : UnsettledFrom size m r step allowed u → is_unsettled (m.changes u).verdict ≡ true
        by_case (UnsettledFrom.Was h) = h
        by_case (UnsettledFrom.Becomes s step_is h at) = apart_bools own.1.1 (ap (λ n. was_unsettled (m.changes n).verdict) at ∙ ap was_unsettled (becomes_own size m r step allowed s h).1.1)

      none : (v : ℕ) → DecidesOn size m r step allowed cell v → ⊥
      none v d = (still size m is_size r step allowed v d.decision u now).1 (one_on size m r step allowed cell u v unsettled d.decision.unsettled touched d.touches)

      used_then : IsUsed m t k
      used_then = used_before size m is_size r step allowed t k (ap is_behind applies) (ap is_behind stage) used

      keeps : (by : Sender) (ask : Ask) (rest : List Input) → (m.bricks k).line ≡ Asked by ask ∷ rest → recopies ask cell ≡ false
      keeps = front_keeps size m r t k cell (ap is_behind applies) used_then (work_has (subst (λ s. IsWorkOf s (m.txns t).work) applies (phases_are_known size m r t).work) own.0 own.1.0)
          (λ by ask rest front has asked. applying_asks size m t u k cell by ask applies has (subst (EachInput (λ b a. IsNoOpOf u a)) front (left_are_without size m r t u k applies left_then unsettled).line).0 asked)

      old : Goal
      old = from_kept none keeps (was.left t u k cell few applies unsettled left_then used_then touched)

    -- the change becomes unsettled now
    module _ (begins : BeginsNow size m step t u) where
      marks : (m.txns t).stage ≡ Marking u
      marks = begins.may.turn ∙ ap Marking (sym begins.change)

      own_now : ((m.txns t).own ≡ u) × ((1 ≤ u) × ((m.changes u).verdict ≡ Drawn))
      own_now = subst (λ s. IsOwnStage m.changes (m.txns t).own s) marks ((changes_are_own size m r).own t).stage

      owns : OwnsChange m.changes m.drawn t (m.txns t)
      owns = ((changes_are_own size m r).own t).owns (subst (λ n. 1 ≤ n) (sym own_now.0) own_now.1.0)

      used_now : IsUsed m t k
      used_now = used_before size m is_size r step allowed t k (ap is_behind marks) (ap is_behind stage) used

      work : (m.txns t).work ≡ Own
      work = subst (λ s. IsWorkOf s (m.txns t).work) marks (phases_are_known size m r t).work

      settled_for : IsSettledFor m t cell
      settled_for = record {
        first = owns.first;
        settled = owns.settled;
        running = ap is_over marks;
        unmade = λ one. ap (λ n. was_unsettled (m.changes n).verdict) own_now.0 ∙ ap was_unsettled own_now.1.1;
        covers = ap (λ cs. has_cell cs cell) owns.cells ∙ ap (λ n. has_cell (m.changes n).cells cell) own_now.0 ∙ touched;
      }

      ready : AreReady size (phase_of m t) (m.txns t).out (m.changes u).cells
      ready = subst (λ s. IsReadyFor size m.changes s (m.txns t).out (phase_of m t)) marks (members_are_ready size m r t)

      no_decision : (v : ℕ) → DecidesOn size m r step allowed cell v → ⊥
      no_decision v d = absurd (let no : Step.Unsettles t ≡ Step.Decides d.decision.txn = sym begins.is ∙ d.decision.step_is in cc)

      keeps_now : (by : Sender) (ask : Ask) (rest : List Input) → (m.bricks k).line ≡ Asked by ask ∷ rest → recopies ask cell ≡ false
      keeps_now = front_keeps size m r t k cell (ap is_behind marks) used_now (work_has work own_now.0 own_now.1.0) (λ by ask rest front has asked. marking_asks size m t u k cell ask marks has asked)

      begun : Goal
      begun = from_kept no_decision keeps_now
          (ready_have_adopted size m is_size r (copies_of size m was.copies) t k cell few settled_for (ap is_before marks) work (ready k few (held_reached m t k used_now.held) used_now.not_out cell touched))

    by_case : (((m.txns t).stage ≡ Applying u) × ((m.txns t).left k ≡ true)) ⊎ BeginsNow size m step t u → Goal
    by_case (inl before) = old before.0 before.1
    by_case (inr begins) = begun begins

  pub left_after : LeftAreSettled size new
  left_after t u k cell few stage now left used touches = by_case t u k cell few stage now left used touches (left_from size m step allowed t u k stage left)
