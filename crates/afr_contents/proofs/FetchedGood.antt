-- What was fetched for a copy is good, or whoever it may be put to is accused by a quorum apart from the bricks that the transaction
-- holds: one step.
use Rattle.std.proofs.Common.{◌≡◌, ◌∙◌, ℕ, ◌<◌, true, false, refl, sym, ap, subst, ◌⊎◌, inl, inr, Option, Some, None}
use Rattle.fop_types.specs.declared.cells.Cell.{Cell}
use Rattle.afr_machine.specs.Replicas.{Replicas, Size, IsSize}
use Rattle.afr_machine.specs.Touching.{has_cell}
use Rattle.afr_machine.specs.Copies.{Copy, Fetched, changes_of, has_change}
use Rattle.afr_machine.specs.Requests.{Sender}
use Rattle.afr_machine.specs.Requests.Ask.{Fetch}
use Rattle.afr_machine.specs.Requests.Answer.{Content}
use Rattle.afr_machine.specs.Transactions.{CopyRun, Stage}
use Rattle.afr_machine.specs.Transactions.Stage.{Locked, Copying}
use Rattle.afr_machine.specs.States.{State, phase_of}
use Rattle.afr_machine.specs.Sending.{is_confirmed_sink}
use Rattle.afr_machine.specs.Turns.{IsSource, open_grants}
use Rattle.afr_machine.specs.Steps.{Step, Allowed, after, IsReached}
use Rattle.afr_laws.specs.Asking.{IsReadOf, IsFetching, IsAskedBy}
use Rattle.afr_laws.specs.Fresh.{is_behind}
use Rattle.afr_laws.specs.Work.{changes_in}
use Rattle.afr_laws.proofs.Bools.{apart_bools, both, both_left, both_right, is_or_not}
use Rattle.afr_laws.proofs.Work.Known.{works_are_known}
use Rattle.afr_soundness.specs.Copied.{Uses, ShowsCopy, copy_at, is_copying}
use Rattle.afr_soundness.specs.Replies.{IsReplyIn}
use Rattle.afr_soundness.specs.Runs.{KnowsRun}
use Rattle.afr_soundness.specs.Takers.{IsMemberOf}
use Rattle.afr_soundness.proofs.Copied.Kept.{out_back, begun_behind}
use Rattle.afr_soundness.proofs.Copied.Steps.{copies_stand, fetched_from}
use Rattle.afr_soundness.proofs.CopyApart.Steps.{keeps_copies_apart}
use Rattle.afr_soundness.proofs.PhaseMoves.{IsHandedIn}
use Rattle.afr_soundness.proofs.Replies.{reply_at}
use Rattle.afr_soundness.proofs.RunMoves.{RunMove, run_moves}
use Rattle.afr_soundness.proofs.Runs.{runs_are_known}
use Rattle.afr_soundness.proofs.Takers.Asked.{asked_are_members}
use Rattle.afr_decisions.proofs.Handed.{handed_open}
use Rattle.afr_decisions.proofs.Noted.{handed_waits, handed_asked}
use Rattle.afr_contents.specs.Good.{IsGood, IsGoodAt}
use Rattle.afr_contents.specs.Naming.{IsOfGroup, CanSource, IsSourceFor, is_copied_to, held_by}
use Rattle.afr_contents.specs.Lasting.{IsAccusedApart}
use Rattle.afr_contents.specs.Coming.{IsUsed, SourcesGoodOrLost, FetchedGoodOrLost}
use Rattle.afr_contents.proofs.Keeping.{DecidesOn}
use Rattle.afr_contents.proofs.Naming.{ConfirmsNow, held_before, cells_before}
use Rattle.afr_contents.proofs.Using.{Alone, used_alone, held_granted}
use Rattle.afr_contents.proofs.Confirming.{now_used}
use Rattle.afr_contents.proofs.Lasting.{next_reached}
use Rattle.afr_contents.proofs.Copying.{CameBefore, held_without, held_unconfirmed, copying_before}
use Rattle.afr_contents.proofs.Decided.{by_quorum, phase, left_out_now, decided_accused}
use Rattle.afr_contents.proofs.Served.{found_copy}
use Rattle.afr_contents.proofs.Values.{value_goes, accused_on}

-- a sink that may be named is one of a copy
pub record IsCopiedTo (stage : Stage) (cell : Cell) (i : ℕ) : Type 0 where
  pub run : CopyRun
  pub is : stage ≡ Copying run
  pub has : has_cell run.cells cell ≡ true
  pub confirmed : is_confirmed_sink run i ≡ true

pub copied_run : (stage : Stage) (cell : Cell) (i : ℕ) → is_copied_to stage cell i ≡ true → IsCopiedTo stage cell i
copied_run (Copying run) cell i h = record { run = run; is = refl; has = both_right (is_confirmed_sink run i) (has_cell run.cells cell) h; confirmed = both_left (is_confirmed_sink run i) (has_cell run.cells cell) h }
copied_run other cell i h = absurd (let no : false ≡ true = h in cc)

module _ (size : Size) (m : State) (is_size : IsSize size) (r : IsReached size m) (step : Step) (allowed : Allowed size m step) where
  abbrev new : State
  new = after size m step

  -- ---- who is used after the step was before

  module _ (t k : ℕ) (was_behind : is_behind (m.txns t).stage ≡ true) (behind : is_behind (new.txns t).stage ≡ true) where
    pub used_before : IsUsed new t k → IsUsed m t k
    used_before u = record { not_out = out_back size m r step allowed t (begun_behind size m r step allowed t was_behind) k u.not_out; held = held_before size m r step allowed t k was_behind behind u.held }

  -- ---- a sink that may be named from now on

  module _ (t i : ℕ) (cell : Cell) (c : ConfirmsNow size m r step allowed t i cell) where
    k : IsCopiedTo (new.txns t).stage cell i
    k = copied_run (new.txns t).stage cell i c.copied

    -- no other transaction holds it on that cell
    pub confirms_alone : Alone size (after size m step) (next_reached size m r step allowed) t i cell
    confirms_alone = record {
      behind = ap is_behind k.is;
      alone = (works_are_known size (after size m step) (next_reached size m r step allowed) t).exclusive (ap changes_in k.is);
      covers = (runs_are_known size (after size m step) (next_reached size m r step allowed) t k.run k.is).within cell k.has;
      granted = held_granted (after size m step) t i (now_used size m r step allowed t i cell c).held;
    }

  -- whom a transaction holds, no sink of another one is named there, nor its own by bricks that it does not hold
  pub no_sink : (s i : ℕ) (cell : Cell) → Alone size (after size m step) (next_reached size m r step allowed) s i cell → is_behind (m.txns s).stage ≡ true →
      (t k : ℕ) → k < size.replicas → held_by m s k ≡ false → held_by new t k ≡ true → ConfirmsNow size m r step allowed t i cell → ⊥
  no_sink s i cell a was_behind t k low apart held c = apart_bools (held_before size m r step allowed s k was_behind a.behind (subst (λ n. held_by new n k ≡ true) (sym same) held)) apart where
    same : s ≡ t
    same = used_alone size (after size m step) (next_reached size m r step allowed) s t i cell a (confirms_alone t i cell c)

  -- ---- what is carried through the step

  module _ (t i : ℕ) (few : i < size.replicas) (cell : Cell) (run : CopyRun) (is : (m.txns t).stage ≡ Copying run) (later : CopyRun) (now : (new.txns t).stage ≡ Copying later) (of_run : has_cell later.cells cell ≡ true) (used : IsUsed new t i) where
    behind : is_behind (m.txns t).stage ≡ true
    behind = ap is_behind is

    alone : Alone size (after size m step) (next_reached size m r step allowed) t i cell
    alone = record {
      behind = ap is_behind now;
      alone = (works_are_known size (after size m step) (next_reached size m r step allowed) t).exclusive (ap changes_in now);
      covers = (runs_are_known size (after size m step) (next_reached size m r step allowed) t later now).within cell of_run;
      granted = held_granted (after size m step) t i used.held;
    }

    covers : has_cell (phase_of m t).cells cell ≡ true
    covers = sym (ap (λ cs. has_cell cs cell) (cells_before size m r step allowed t behind)) ∙ alone.covers

    smaller : (k : ℕ) → held_by new t k ≡ true → held_by m t k ≡ true
    smaller k h = held_before size m r step allowed t k behind (ap is_behind now) h

    module _ (u : ℕ) (d : DecidesOn size m r step allowed cell u) where
      came : CameBefore size m r u d.decision.unsettled cell d.touches t
      came = copying_before size m r u d.decision.unsettled cell d.touches t covers run is

      not_held : (k : ℕ) → (m.phases (phase size m is_size r step allowed u d.decision)).confirmed k ≡ true → held_by new t k ≡ false
      not_held k noted = by_case (is_or_not (held_by new t k)) where
        by_case : (held_by new t k ≡ true) ⊎ (held_by new t k ≡ false) → held_by new t k ≡ false
        by_case (inl held) = absurd (held_unconfirmed size m r u d.decision.unsettled cell d.touches t came (phase size m is_size r step allowed u d.decision) k d.decision.may.adopts (by_quorum size m is_size r step allowed u d.decision) noted (smaller k held))
        by_case (inr none) = none

      -- the replica has not got the change, so it is accused where that is adopted
      lost : d.decision.may.adopts ≡ true → IsAccusedApart size new cell i (held_by new t)
      lost adopts = decided_accused size m is_size r step allowed u d.decision cell d.touches i few
          (left_out_now size m is_size r step allowed u d.decision i few (λ s. apart_bools (s.has cell d.touches ∙ adopts) ((held_without size m r u d.decision.unsettled cell d.touches t came i (smaller i used.held)).copies cell d.touches)))
          (held_by new t) not_held

    pub carried : (copy : Option Copy) → ((u : ℕ) → DecidesOn size m r step allowed cell u → has_change (changes_of copy) u ≡ false) → IsGood m cell copy ⊎ IsAccusedApart size m cell i (held_by m t) → IsGood new cell copy ⊎ IsAccusedApart size new cell i (held_by new t)
    carried copy without = value_goes size m is_size r step allowed i few cell (held_by m t) (held_by new t) smaller
        (accused_on size m is_size r step allowed i few cell (held_by m t) (held_by new t) smaller (no_sink t i cell alone behind)) copy on_decision where
          by_verdict : (u : ℕ) (d : DecidesOn size m r step allowed cell u) → (d.decision.may.adopts ≡ true) ⊎ (d.decision.may.adopts ≡ false) → (has_change (changes_of copy) u ≡ d.decision.may.adopts) ⊎ IsAccusedApart size new cell i (held_by new t)
          by_verdict u d (inl adopts) = inr (lost u d adopts)
          by_verdict u d (inr drops) = inl (without u d ∙ sym drops)

          on_decision : (u : ℕ) (d : DecidesOn size m r step allowed cell u) → (has_change (changes_of copy) u ≡ d.decision.may.adopts) ⊎ IsAccusedApart size new cell i (held_by new t)
          on_decision u d = by_verdict u d (is_or_not d.decision.may.adopts)

  -- ---- what was fetched

  module _ (was_sources : SourcesGoodOrLost size m) (was : FetchedGoodOrLost size m) where
    module _ (t i : ℕ) (run : CopyRun) (cell : Cell) (found : Fetched) (few : i < size.replicas) (now : (new.txns t).stage ≡ Copying run) (fetched : run.fetched cell ≡ Some found) (used : IsUsed new t i) where
      of_run : has_cell run.cells cell ≡ true
      of_run = ((copies_stand size (after size m step) (next_reached size m r step allowed)).fetched t run now cell found fetched).of_run

      abbrev Carried : Type 0
      Carried = IsGood new cell (Some found.copy) ⊎ IsAccusedApart size new cell i (held_by new t)

      used_then : (before : CopyRun) → (m.txns t).stage ≡ Copying before → IsUsed m t i
      used_then before is = used_before t i (ap is_behind is) (ap is_behind now) used

      -- it was fetched before
      old : (before : CopyRun) → (m.txns t).stage ≡ Copying before → before.fetched cell ≡ Some found → Carried
      old before is had = carried t i few cell before is run now of_run used (Some found.copy)
          (λ u d. (keeps_copies_apart size m r).fetched t u before cell found is had d.decision.unsettled d.touches) (was t i before cell found few is had (used_then before is))

      -- it comes now, from a source that the transaction uses
      module _ (k : ℕ) (by : Sender) (at : Cell) (handed : IsHandedIn m k by (Fetch at) (Content found)) (txn : by.txn ≡ t) (before : CopyRun) (is : (m.txns t).stage ≡ Copying before) (same : cell ≡ at) where
        behind_by : is_behind (m.txns by.txn).stage ≡ true
        behind_by = ap (λ n. is_behind (m.txns n).stage) txn ∙ ap is_behind is

        member : IsMemberOf (phase_of m t) (m.txns t) k
        member = subst (λ n. IsMemberOf (phase_of m n) (m.txns n) k) txn (asked_are_members size m r by.txn k behind_by (handed_waits size m r k by (Fetch at) (Content found) handed))

        granted : open_grants m t k ≡ true
        granted = subst (λ n. open_grants m n k ≡ true) txn (handed_open size m r k by (Fetch at) (Content found) handed behind_by)

        asked : (stage : Stage) → stage ≡ Copying before → ((stage ≡ Locked) × IsReadOf (m.txns t).job at) ⊎ IsFetching stage k at → (has_cell before.cells at ≡ true) × (before.sources k ≡ true)
        asked stage stage_is (inl reads) = absurd (let no : Locked ≡ Copying before = sym reads.0 ∙ stage_is in cc)
        asked stage stage_is (inr fetches) = (subst (λ s. IsFetching s k at) stage_is fetches).1

        source : (has_cell before.cells at ≡ true) × (before.sources k ≡ true)
        source = asked (m.txns t).stage is (subst (λ n. IsAskedBy size m.changes (m.txns n).job (m.txns n).stage k (Fetch at)) txn (handed_asked size m r k by (Fetch at) (Content found) handed))

        known : KnowsRun size (phase_of m t) (m.txns t).job before
        known = runs_are_known size m r t before is

        of_before : has_cell before.cells cell ≡ true
        of_before = ap (has_cell before.cells) same ∙ source.0

        group_of : (group : Option Replicas) → IsSource size (phase_of m t) before.cells group k → IsOfGroup size (phase_of m t) cell group k
        group_of None s = s cell of_before
        group_of (Some group) s = s.0

        source_then : IsSourceFor size m t cell k
        source_then = subst (CanSource size m.changes (m.txns t).job (m.txns t).work (phase_of m t) cell k) (sym is) (group_of before.group (known.sources_are k source.1).source)

        used_source : IsUsed m t k
        used_source = record { not_out = member.not_out; held = both ((phase_of m t).reached k) (open_grants m t k) member.reached granted }

        reply : IsReplyIn by (Fetch at) (Content found) (m.bricks k).outputs
        reply = subst (IsReplyIn by (Fetch at) (Content found)) (sym handed.front) (inl (refl, (refl, refl)))

        here : copy_at m k cell ≡ Some found
        here =
            ap (copy_at m k) same
            ∙ reply_at (ShowsCopy m k) by (Fetch at) (Content found) (m.bricks k).outputs ((copies_stand size m r).answers k) reply handed.current
            (subst (λ n. Uses m n k) (sym txn) (record { copying = ap is_copying is; not_out = member.not_out; granted = granted }))

        of_source : IsGoodAt m k cell ⊎ IsAccusedApart size m cell i (held_by m t) → IsGood m cell (Some found.copy) ⊎ IsAccusedApart size m cell i (held_by m t)
        of_source (inl good) = inl (subst (IsGood m cell) (found_copy ((m.bricks k).store cell).copy ((m.bricks k).store cell).last found here) good)
        of_source (inr accused) = inr accused

        first : Carried
        first = carried t i few cell before is run now of_run used (Some found.copy)
            (λ u d. subst (λ c. has_change (changes_of c) u ≡ false) (found_copy ((m.bricks k).store cell).copy ((m.bricks k).store cell).last found here)
            ((held_without size m r u d.decision.unsettled cell d.touches t (copying_before size m r u d.decision.unsettled cell d.touches t (known.within cell of_before) before is) k used_source.held).copies cell d.touches))
            (of_source (was_sources t k i cell (known.sources_are k source.1).replica few (known.within cell of_before) source_then used_source (used_then before is)))

      by_move : RunMove size m step t run → Carried
      by_move (RunMove.Stays is) = old run is fetched
      by_move (RunMove.Begins step_is may) = absurd (let no : None ≡ Some found = sym (ap (λ (f : Cell → Option Fetched). f cell) may.not_fetched) ∙ fetched in cc)
      by_move (RunMove.Clears step_is may is) = old may.run may.turn (sym (ap (λ (x : CopyRun). x.fetched cell) is) ∙ fetched)
      by_move (RunMove.Fetches k by at content before step_is handed txn stage is) = by_case (fetched_from before.fetched at cell content found (sym (ap (λ (x : CopyRun). x.fetched cell) is) ∙ fetched)) where
        by_case : (before.fetched cell ≡ Some found) ⊎ ((cell ≡ at) × (content ≡ found)) → Carried
        by_case (inl had) = old before stage had
        by_case (inr comes) = first k by at (subst (λ f. IsHandedIn m k by (Fetch at) (Content f)) comes.1 handed) txn before stage comes.0
      by_move (RunMove.Replaces k by at content answer before step_is handed txn stage is) = old before stage (sym (ap (λ (x : CopyRun). x.fetched cell) is) ∙ fetched)

    pub fetched_after : FetchedGoodOrLost size new
    fetched_after t i run cell found few now fetched used = by_move t i run cell found few now fetched used (run_moves size m step allowed t run now)
