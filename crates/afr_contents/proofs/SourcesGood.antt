-- A source that a transaction uses is good, or whoever it uses is accused by a quorum apart from the bricks that it holds: one step.
use Rattle.std.proofs.Common.{◌≡◌, ◌∙◌, ℕ, ◌≤◌, ◌<◌, Bool, true, false, refl, sym, ap, subst, ◌⊎◌, inl, inr, Option, Some, None}
use Rattle.std.specs.Prelude.{List, ◌∷◌}
use Rattle.std.proofs.lemmas.Bool.{cases_lt}
use Rattle.fop_types.specs.declared.cells.Cell.{Cell}
use Rattle.afr_machine.specs.Replicas.{Replicas, Size, IsSize, nobody}
use Rattle.afr_machine.specs.Touching.{is_cell, has_cell}
use Rattle.afr_machine.specs.Copies.{Fetched, changes_of, has_change}
use Rattle.afr_machine.specs.Requests.{Sender, Ask, Input}
use Rattle.afr_machine.specs.Requests.Ask.{Op, Replace}
use Rattle.afr_machine.specs.Requests.Input.{Asked}
use Rattle.afr_machine.specs.Transactions.{CopyRun, Stage}
use Rattle.afr_machine.specs.Transactions.Stage.{Settling, Copying}
use Rattle.afr_machine.specs.States.{State, phase_of}
use Rattle.afr_machine.specs.Turns.{IsSink}
use Rattle.afr_machine.specs.Steps.{Step, Allowed, after, IsReached}
use Rattle.afr_laws.specs.Senders.{EachInput}
use Rattle.afr_laws.specs.Asking.{IsAskedBy, IsReplacing}
use Rattle.afr_laws.specs.Fresh.{is_behind}
use Rattle.afr_laws.proofs.Bools.{apart_bools, is_or_not, or_right}
use Rattle.afr_laws.proofs.Sharing.{cells_are}
use Rattle.afr_soundness.specs.Clears.{IsFree}
use Rattle.afr_soundness.proofs.Copied.Lines.{recopied_by_own}
use Rattle.afr_soundness.proofs.Copied.Stores.{recopies}
use Rattle.afr_soundness.proofs.Runs.{runs_are_known}
use Rattle.afr_contents.specs.Good.{IsGood, IsGoodAt}
use Rattle.afr_contents.specs.Naming.{IsOfGroup, CanSource, IsSourceFor, held_by}
use Rattle.afr_contents.specs.Lasting.{IsAccusedApart}
use Rattle.afr_contents.specs.Coming.{IsUsed, SourcesGoodOrLost, ComesGood}
use Rattle.afr_contents.proofs.Keeping.{DecidesOn}
use Rattle.afr_contents.proofs.Naming.{SourceFrom, source_from, source_behind, held_before, cells_before}
use Rattle.afr_contents.proofs.Using.{Alone, source_alone, held_granted, work_covers}
use Rattle.afr_contents.proofs.Lasting.{next_reached, ends_free, accused_not_free}
use Rattle.afr_contents.proofs.Copying.{SourceOf, CameBefore, held_without, held_unconfirmed}
use Rattle.afr_contents.proofs.Decided.{new_is, by_quorum, phase, settler_has, later_unheld, source_now, left_out_now, unreached_now, reached_of, decided_accused}
use Rattle.afr_contents.proofs.Values.{value_goes, accused_on, kept_good}
use Rattle.afr_contents.proofs.FetchedGood.{used_before, no_sink}
use Rattle.afr_contents.proofs.CopiesGood.{copy_after}

-- ---- no request of its own changes the copy of a source

module _ (size : Size) (m : State) (r : IsReached size m) (t s : ℕ) (cell : Cell) where
  no_sink_of : (run : CopyRun) → (m.txns t).stage ≡ Copying run → has_cell run.cells cell ≡ true → run.sinks s ≡ true → (group : Option Replicas) → IsSink size (phase_of m t) run.cells group s → IsOfGroup size (phase_of m t) cell group s → ⊥
  no_sink_of run is has sink None unsound sound = unsound cell has sound
  no_sink_of run is has sink (Some group) outside in_it = apart_bools in_it outside

  by_replace : (at : Cell) (found : Fetched) (stage : Stage) → (m.txns t).stage ≡ stage → cell ≡ at → IsReplacing stage s at found → CanSource size m.changes (m.txns t).job (m.txns t).work (phase_of m t) cell s stage → ⊥
  by_replace at found (Copying run) is same h source =
      no_sink_of run is (ap (has_cell run.cells) same ∙ h.1.0) h.1.1.0 run.group ((runs_are_known size m r t run is).sinks_are s h.1.1.0).sink source
  by_replace at found other is same h source = absurd h

  by_ask : (ask : Ask) → recopies ask cell ≡ true → IsAskedBy size m.changes (m.txns t).job (m.txns t).stage s ask → IsSourceFor size m t cell s → ⊥
  by_ask (Op u op) has (inl applies) source = absurd (subst (CanSource size m.changes (m.txns t).job (m.txns t).work (phase_of m t) cell s) applies.0 source)
  by_ask (Op u op) has (inr bears) source = absurd (subst (CanSource size m.changes (m.txns t).job (m.txns t).work (phase_of m t) cell s) bears.0 source)
  by_ask (Replace at found) has asked source = by_replace at found (m.txns t).stage refl (cells_are cell at (sym (or_right (is_cell cell at)) ∙ has)) asked source
  by_ask other has asked source = absurd (let no : false ≡ true = has in cc)

  pub source_front : IsSourceFor size m t cell s → IsUsed m t s → has_cell (phase_of m t).cells cell ≡ true → (by : Sender) (ask : Ask) (rest : List Input) → (m.bricks s).line ≡ Asked by ask ∷ rest → recopies ask cell ≡ false
  source_front source used covers by ask rest front = by_case (is_or_not (recopies ask cell)) where
    behind : is_behind (m.txns t).stage ≡ true
    behind = source_behind size m.changes (m.txns t).job (m.txns t).work (phase_of m t) cell s (m.txns t).stage source

    line : EachInput (λ b a. recopies a cell ≡ true → IsAskedBy size m.changes (m.txns t).job (m.txns t).stage s a) (m.bricks s).line
    line = recopied_by_own size m r t s used.not_out behind (held_granted m t s used.held) cell (work_covers size m r t cell behind covers)

    by_case : (recopies ask cell ≡ true) ⊎ (recopies ask cell ≡ false) → recopies ask cell ≡ false
    by_case (inl some) = absurd (by_ask ask some ((subst (EachInput (λ b a. recopies a cell ≡ true → IsAskedBy size m.changes (m.txns t).job (m.txns t).stage s a)) front line).0 some) source)
    by_case (inr none) = none

module _ (size : Size) (m : State) (is_size : IsSize size) (r : IsReached size m) (was : ComesGood size m) (step : Step) (allowed : Allowed size m step) where
  abbrev new : State
  new = after size m step

  module _ (t s i : ℕ) (cell : Cell) (few_s : s < size.replicas) (few : i < size.replicas) (covers : has_cell (phase_of new t).cells cell ≡ true) (source : IsSourceFor size new t cell s) (used_s : IsUsed new t s) (used : IsUsed new t i) where
    abbrev Goal : Type 0
    Goal = IsGoodAt new s cell ⊎ IsAccusedApart size new cell i (held_by new t)

    behind_now : is_behind (new.txns t).stage ≡ true
    behind_now = source_behind size new.changes (new.txns t).job (new.txns t).work (phase_of new t) cell s (new.txns t).stage source

    -- the lock phase ends now
    ends : IsFree size new cell s → Goal
    ends free = by_case (copy_after size m is_size r was step allowed s few_s cell) where
      by_case : IsGoodAt new s cell ⊎ IsAccusedApart size new cell s nobody → Goal
      by_case (inl good) = inl good
      by_case (inr a) = absurd (accused_not_free size (after size m step) cell s a.by a.many (λ k low h. (a.each k low h).stays) free)

    -- it was a source before
    module _ (source_then : IsSourceFor size m t cell s) where
      behind : is_behind (m.txns t).stage ≡ true
      behind = source_behind size m.changes (m.txns t).job (m.txns t).work (phase_of m t) cell s (m.txns t).stage source_then

      covers_then : has_cell (phase_of m t).cells cell ≡ true
      covers_then = sym (ap (λ cs. has_cell cs cell) (cells_before size m r step allowed t behind)) ∙ covers

      used_s_then : IsUsed m t s
      used_s_then = used_before size m is_size r step allowed t s behind behind_now used_s

      used_then : IsUsed m t i
      used_then = used_before size m is_size r step allowed t i behind behind_now used

      smaller : (k : ℕ) → held_by new t k ≡ true → held_by m t k ≡ true
      smaller k h = held_before size m r step allowed t k behind behind_now h

      alone : Alone size (after size m step) (next_reached size m r step allowed) t i cell
      alone = record { behind = behind_now; alone = source_alone size (after size m step) (next_reached size m r step allowed) t cell s source; covers = covers; granted = held_granted (after size m step) t i used.held }

      value : IsGoodAt m s cell ⊎ IsAccusedApart size m cell i (held_by m t) → IsGood m cell ((new.bricks s).store cell).copy ⊎ IsAccusedApart size m cell i (held_by m t)
      value (inl good) = inl (kept_good size m is_size r step allowed s cell good (source_front size m r t s cell source_then used_s_then covers_then))
      value (inr accused) = inr accused

      -- ---- a decision

      module _ (u : ℕ) (d : DecidesOn size m r step allowed cell u) where
        abbrev Kept : Type 0
        Kept = (has_change (changes_of ((new.bricks s).store cell).copy) u ≡ d.decision.may.adopts) ⊎ IsAccusedApart size new cell i (held_by new t)

        same_copy : ((new.bricks s).store cell).copy ≡ ((m.bricks s).store cell).copy
        same_copy = ap (λ (x : State). ((x.bricks s).store cell).copy) (new_is size m is_size r step allowed u d.decision)

        has_now : (b : Bool) → has_change (changes_of ((m.bricks s).store cell).copy) u ≡ b → has_change (changes_of ((new.bricks s).store cell).copy) u ≡ b
        has_now b h = ap (λ c. has_change (changes_of c) u) same_copy ∙ h

        not_held : ((k : ℕ) → (m.phases (phase size m is_size r step allowed u d.decision)).confirmed k ≡ true → held_by m t k ≡ true → ⊥) → (k : ℕ) → (m.phases (phase size m is_size r step allowed u d.decision)).confirmed k ≡ true → held_by new t k ≡ false
        not_held none k noted = by_case (is_or_not (held_by new t k)) where
          by_case : (held_by new t k ≡ true) ⊎ (held_by new t k ≡ false) → held_by new t k ≡ false
          by_case (inl held) = absurd (none k noted (smaller k held))
          by_case (inr other) = other

        -- of a change that came later than the lock phase
        by_before : CameBefore size m r u d.decision.unsettled cell d.touches t → (d.decision.may.adopts ≡ true) ⊎ (d.decision.may.adopts ≡ false) → Kept
        by_before c (inl adopts) =
            inr (decided_accused size m is_size r step allowed u d.decision cell d.touches i few
            (left_out_now size m is_size r step allowed u d.decision i few (λ x. apart_bools (x.has cell d.touches ∙ adopts) ((held_without size m r u d.decision.unsettled cell d.touches t c i used_then.held).copies cell d.touches)))
            (held_by new t) (not_held (λ k noted held. held_unconfirmed size m r u d.decision.unsettled cell d.touches t c (phase size m is_size r step allowed u d.decision) k d.decision.may.adopts (by_quorum size m is_size r step allowed u d.decision) noted held)))
        by_before c (inr drops) = inl (has_now d.decision.may.adopts ((held_without size m r u d.decision.unsettled cell d.touches t c s used_s_then.held).copies cell d.touches ∙ sym drops))

        -- of the change that it settles
        module _ (group : Replicas) (adopts : Bool) (is : (m.txns t).stage ≡ Settling u group adopts) where
          in_it : group s ≡ true
          in_it = subst (CanSource size m.changes (m.txns t).job (m.txns t).work (phase_of m t) cell s) is source_then

          unheld : (k : ℕ) → (m.txns t).phase < phase size m is_size r step allowed u d.decision → (m.phases (phase size m is_size r step allowed u d.decision)).reached k ≡ true → held_by m t k ≡ true → ⊥
          unheld k later reached held = later_unheld size m is_size r step allowed u d.decision t group adopts is cell d.touches k later reached held

          unreached : (m.txns t).phase < phase size m is_size r step allowed u d.decision → ((m.phases (phase size m is_size r step allowed u d.decision)).reached i ≡ true) ⊎ ((m.phases (phase size m is_size r step allowed u d.decision)).reached i ≡ false) → (m.phases (phase size m is_size r step allowed u d.decision)).reached i ≡ false
          unreached later (inl there) = absurd (unheld i later there used_then.held)
          unreached later (inr none) = none

          by_order : ((m.txns t).phase < phase size m is_size r step allowed u d.decision) ⊎ (phase size m is_size r step allowed u d.decision ≤ (m.txns t).phase) → Kept
          by_order (inl later) =
              inr (decided_accused size m is_size r step allowed u d.decision cell d.touches i few
              (unreached_now size m is_size r step allowed u d.decision i few (unreached later (is_or_not ((m.phases (phase size m is_size r step allowed u d.decision)).reached i))))
              (held_by new t) (not_held (λ k noted held. unheld k later (reached_of size m is_size r step allowed u d.decision k noted) held)))
          by_order (inr least) = inl (has_now d.decision.may.adopts ((settler_has size m is_size r step allowed u d.decision t group adopts is s few_s in_it least).has cell d.touches))

        by_source : SourceOf size m r u d.decision.unsettled cell d.touches t covers_then → Kept
        by_source (SourceOf.Before c) = by_before c (is_or_not d.decision.may.adopts)
        by_source (SourceOf.Settled group adopts is) = by_order group adopts is (cases_lt (m.txns t).phase (phase size m is_size r step allowed u d.decision))

        on_decision : Kept
        on_decision = by_source (source_now size m is_size r step allowed u d.decision cell d.touches t s covers_then (subst (λ x. IsSourceFor size x t cell s) (new_is size m is_size r step allowed u d.decision) source))

      stays : Goal
      stays = value_goes size m is_size r step allowed i few cell (held_by m t) (held_by new t) smaller
          (accused_on size m is_size r step allowed i few cell (held_by m t) (held_by new t) smaller (no_sink size m is_size r step allowed t i cell alone behind)) ((new.bricks s).store cell).copy on_decision
          (value (was.sources t s i cell few_s few covers_then source_then used_s_then used_then))

    source_after : SourceFrom size m r step allowed t s cell → Goal
    source_after (SourceFrom.Was source_then) = stays source_then
    source_after (SourceFrom.Ends step_is sound) = ends (ends_free size m r step allowed is_size t s cell step_is covers sound)

  pub sources_after : SourcesGoodOrLost size new
  sources_after t s i cell few_s few covers source used_s used = source_after t s i cell few_s few covers source used_s used (source_from size m r step allowed t s cell few_s covers source)
