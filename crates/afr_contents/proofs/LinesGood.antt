-- What each op and replacement in a line brings is right, or its brick is accused on each cell that it changes: one step.
use Rattle.std.proofs.Common.{◌≡◌, ◌∙◌, ℕ, ◌<◌, Bool, true, false, refl, sym, ap, subst, ◌⊎◌, inl, inr, arith, Some}
use Rattle.std.specs.Prelude.{List, ◌∷◌}
use Rattle.fop_types.specs.StoreOps.{needs}
use Rattle.fop_types.specs.Jobs.{IsJob}
use Rattle.fop_types.specs.declared.cells.Cell.{Cell}
use Rattle.fop_types.specs.declared.store_ops.StoreOp.{StoreOp}
use Rattle.afr_machine.specs.Replicas.{Size, IsSize, nobody}
use Rattle.afr_machine.specs.Touching.{is_cell, has_cell}
use Rattle.afr_machine.specs.Copies.{Copy, Store, Fetched, has_change}
use Rattle.afr_machine.specs.Requests.{Sender, Ask, Input}
use Rattle.afr_machine.specs.Requests.Ask.{Op, Replace}
use Rattle.afr_machine.specs.Requests.Input.{Asked}
use Rattle.afr_machine.specs.Bricks.{Brick}
use Rattle.afr_machine.specs.Changes.{Change, is_unsettled}
use Rattle.afr_machine.specs.Transactions.{CopyRun, Stage}
use Rattle.afr_machine.specs.Transactions.Stage.{Applying, Bearing, Copying}
use Rattle.afr_machine.specs.States.{State}
use Rattle.afr_machine.specs.Sending.{MayAsk, asks_of, inputs_of, sender_of}
use Rattle.afr_machine.specs.Steps.{Step, Allowed, after, IsReached}
use Rattle.afr_machine.specs.Moves.{BrickMove, IsTaken}
use Rattle.afr_machine.specs.Moves.BrickMove.{Stays, Takes, Hands, Serves, Refuses, GivesUp, Steers}
use Rattle.afr_machine.proofs.BrickMoves.{bricks_move}
use Rattle.afr_laws.specs.Senders.{EachInput}
use Rattle.afr_laws.specs.Asking.{IsAskedBy, IsReplacing}
use Rattle.afr_laws.specs.Copies.{IsOpOf, Carries}
use Rattle.afr_laws.specs.Fresh.{is_behind}
use Rattle.afr_laws.proofs.Bools.{apart_bools, is_or_not, or_right}
use Rattle.afr_laws.proofs.Connecting.{served_line}
use Rattle.afr_laws.proofs.Copies.Asks.{birth_needs}
use Rattle.afr_laws.proofs.Copies.Served.{steered_store}
use Rattle.afr_laws.proofs.Copies.Steps.{copies_are_of_changes}
use Rattle.afr_laws.proofs.OwnChanges.Steps.{changes_are_own}
use Rattle.afr_soundness.specs.CopyApart.{IsNoOpOf, IsWithout, IsCopyApart}
use Rattle.afr_soundness.proofs.ChangeMoves.{ChangeMove, change_moves, cells_stay}
use Rattle.afr_soundness.proofs.Copied.Lines.{each_both, recopied_by_own}
use Rattle.afr_soundness.proofs.Copied.Stores.{recopies}
use Rattle.afr_soundness.proofs.CopyApart.Steps.{keeps_copies_apart}
use Rattle.afr_soundness.proofs.Lines.{each_of}
use Rattle.afr_soundness.proofs.Replaced.Steps.{is_itself}
use Rattle.afr_soundness.proofs.Runs.{runs_are_known}
use Rattle.afr_soundness.proofs.Unsettled.{is_drawn}
use Rattle.afr_contents.specs.Good.{IsGood, IsSettledCopy}
use Rattle.afr_contents.specs.Naming.{held_by}
use Rattle.afr_contents.specs.Lasting.{IsAccusedApart}
use Rattle.afr_contents.specs.Coming.{FindsSettled, IsRightAt, ComesGood}
use Rattle.afr_contents.proofs.Keeping.{DecidesOn, one_on}
use Rattle.afr_contents.proofs.Settled.{Deciding}
use Rattle.afr_contents.proofs.Naming.{ConfirmsNow}
use Rattle.afr_contents.proofs.Using.{used_of, held_granted, work_covers}
use Rattle.afr_contents.proofs.Inputs.{each_all, each_so, Both, both_each, line_each}
use Rattle.afr_contents.proofs.Once.{IsApartOn, AlterOnce, lines_alter_once}
use Rattle.afr_contents.proofs.Lasting.{next_reached}
use Rattle.afr_contents.proofs.Decided.{IsAsDecided, new_is, still, left_out_now, decided_accused}
use Rattle.afr_contents.proofs.Values.{accused_of, value_goes, accused_on, settled_goes, copy_kept}
use Rattle.afr_contents.proofs.FetchedGood.{IsCopiedTo, copied_run, fetched_after}
use Rattle.afr_contents.proofs.CopiesGood.{NamedNow, named_now, is_named, namer}

module _ (size : Size) (m : State) (is_size : IsSize size) (r : IsReached size m) (was : ComesGood size m) (step : Step) (allowed : Allowed size m step) (i : ℕ) (few : i < size.replicas) where
  abbrev new : State
  new = after size m step

  abbrev Right : Sender → Ask → Type 0
  Right by ask = IsRightAt size m i ask

  -- ---- what is sent

  sent_op : (t u : ℕ) (op : StoreOp) → MayAsk size m t i (Op u op) → FindsSettled m (m.bricks i).store u op
  sent_op t u op (inl may) cell has = (may.unsettled, was.left t u i cell few may.turn may.unsettled may.next.is_left (used_of size m t i may.next.member) touches) where
    touches : has_cell (m.changes u).cells cell ≡ true
    touches = ap (λ cs. has_cell cs cell) ((changes_are_own size m r).fit.needs_are u ∙ ap needs (sym may.op_is)) ∙ has
  sent_op t u op (inr may) cell has = apart_bools has (ap (λ cs. has_cell cs cell) (birth_needs op (subst IsJob may.job_is ((changes_are_own size m r).own t).job).2))

  sent_right : (t : ℕ) (ask : Ask) → MayAsk size m t i ask → IsRightAt size m i ask
  sent_right t (Op u op) may = inl (sent_op t u op may)
  sent_right t (Replace at found) may = by_case (was.fetched t i may.run at found few may.turn may.fetched (used_of size m t i may.member)) where
    by_case : IsGood m at (Some found.copy) ⊎ IsAccusedApart size m at i (held_by m t) → IsGood m at (Some found.copy) ⊎ IsAccusedApart size m at i nobody
    by_case (inl good) = inl good
    by_case (inr accused) = inr (accused_of size m at i (held_by m t) accused)
  sent_right t other may = tt

  sent_line : (t : ℕ) (first : Bool) (ask : Ask) → MayAsk size m t i ask → EachInput Right (inputs_of (sender_of m t i) (asks_of first ask))
  sent_line t true ask may = (tt, (sent_right t ask may, tt))
  sent_line t false ask may = (sent_right t ask may, tt)

  taken_right : (st : Step) → Allowed size m st → (inputs : List Input) → IsTaken m st i inputs → EachInput Right inputs
  taken_right (Step.Asks t j first ask) h inputs its =
      subst (EachInput Right) (sym (its.1 ∙ ap (λ n. inputs_of (sender_of m t n) (asks_of first ask)) (sym its.0))) (sent_line t first ask (subst (λ n. MayAsk size m t n ask) (sym its.0) h.0))
  taken_right (Step.Controls j steering) h inputs its = subst (EachInput Right) (sym its.1) tt
  taken_right (Step.Connects j g) h inputs its = subst (EachInput Right) (sym its.1) tt
  taken_right (Step.Cuts j g) h inputs its = subst (EachInput Right) (sym its.1) tt
  taken_right other h inputs its = absurd its

  -- ---- what is known of each request in the line after the step

  rights : EachInput Right (new.bricks i).line
  rights = line_each Right (IsTaken m step i) (m.bricks i) (new.bricks i) (bricks_move size m step allowed i) (taken_right step allowed) (was.lines i few)

  -- the copies that it changes are as they were
  abbrev KeepsCopy : Sender → Ask → Type 0
  KeepsCopy by ask = (cell : Cell) → recopies ask cell ≡ true → (held : Copy) → ((m.bricks i).store cell).copy ≡ Some held → ((new.bricks i).store cell).copy ≡ Some held

  same_front : (by by1 : Sender) (ask ask1 : Ask) (rest rest1 : List Input) → (Asked by ask ∷ rest) ≡ (Asked by1 ask1 ∷ rest1) → ask ≡ ask1
  same_front by by1 ask ask1 rest rest1 e = cc

  behind_front : (by : Sender) (ask : Ask) (rest : List Input) → (m.bricks i).line ≡ Asked by ask ∷ rest → (b : Sender) (other : Ask) → IsApartOn ask b other → KeepsCopy b other
  behind_front by ask rest front b other apart cell has held is = copy_kept size m is_size r step allowed i cell (λ by1 ask1 rest1 front1. subst (λ a. recopies a cell ≡ false) (same_front by by1 ask ask1 rest rest1 (sym front ∙ front1)) (none (is_or_not (recopies ask cell)))) held is where
    none : (recopies ask cell ≡ true) ⊎ (recopies ask cell ≡ false) → recopies ask cell ≡ false
    none (inl some) = apart_bools has (apart cell some)
    none (inr other_none) = other_none

  copies_kept : BrickMove (IsTaken m step i) (m.bricks i) (new.bricks i) → EachInput KeepsCopy (new.bricks i).line
  copies_kept (Serves by ask rest front would is) =
      subst (EachInput KeepsCopy) (sym (ap (λ (b : Brick). b.line) is ∙ served_line (m.bricks i).power by ask (record (m.bricks i) { line = rest })))
      (each_of (IsApartOn ask) KeepsCopy (behind_front by ask rest front) rest (subst AlterOnce front (lines_alter_once size m r i)).0)
  copies_kept (Stays is) = each_so KeepsCopy (λ by ask cell has held h. ap (λ (b : Brick). (b.store cell).copy) is ∙ h) (new.bricks i).line
  copies_kept (Takes inputs its is) = each_so KeepsCopy (λ by ask cell has held h. ap (λ (b : Brick). (b.store cell).copy) is ∙ h) (new.bricks i).line
  copies_kept (Hands first rest front is) = each_so KeepsCopy (λ by ask cell has held h. ap (λ (b : Brick). (b.store cell).copy) is ∙ h) (new.bricks i).line
  copies_kept (Refuses by ask answer rest front may_be refusal is) = each_so KeepsCopy (λ b a cell has held h. ap (λ (b : Brick). (b.store cell).copy) is ∙ h) (new.bricks i).line
  copies_kept (GivesUp by ask rest front would is) = each_so KeepsCopy (λ b a cell has held h. ap (λ (b : Brick). (b.store cell).copy) is ∙ h) (new.bricks i).line
  copies_kept (Steers control rest front is) =
      each_so KeepsCopy (λ b a cell has held h. ap (λ (b : Brick). (b.store cell).copy) is ∙ ap (λ (st : Store). (st cell).copy) (steered_store control (record (m.bricks i) { line = rest })) ∙ h) (new.bricks i).line

  -- where a clear may name the replica from now on, the request is what the copy's transaction asked for
  record Named : Type 0 where
    cell : Cell
    now : NamedNow size m is_size r was step allowed i cell

  abbrev AskedByNamer : Sender → Ask → Type 0
  AskedByNamer by ask = (x : Named) → recopies ask x.cell ≡ true → IsAskedBy size new.changes (new.txns (namer size m is_size r was step allowed)).job (new.txns (namer size m is_size r was step allowed)).stage i ask

  asked_by_namer : EachInput AskedByNamer (new.bricks i).line
  asked_by_namer = each_all (λ (x : Named) by ask. recopies ask x.cell ≡ true → IsAskedBy size new.changes (new.txns (namer size m is_size r was step allowed)).job (new.txns (namer size m is_size r was step allowed)).stage i ask) (new.bricks i).line of_named where
    of_named : (x : Named) → EachInput (λ by ask. recopies ask x.cell ≡ true → IsAskedBy size new.changes (new.txns (namer size m is_size r was step allowed)).job (new.txns (namer size m is_size r was step allowed)).stage i ask) (new.bricks i).line
    of_named x =
        let k : IsCopiedTo (new.txns (namer size m is_size r was step allowed)).stage x.cell i = copied_run (new.txns (namer size m is_size r was step allowed)).stage x.cell i x.now.copied in
        recopied_by_own size (after size m step) (next_reached size m r step allowed) (namer size m is_size r was step allowed) i x.now.used.not_out (ap is_behind k.is) (held_granted (after size m step) (namer size m is_size r was step allowed) i x.now.used.held) x.cell
        (work_covers size (after size m step) (next_reached size m r step allowed) (namer size m is_size r was step allowed) x.cell (ap is_behind k.is) ((runs_are_known size (after size m step) (next_reached size m r step allowed) (namer size m is_size r was step allowed) k.run k.is).within x.cell k.has))

  -- where the step decides a change, the request is apart from it
  record Decision : Type 0 where
    change : ℕ
    decides : Deciding size m r step allowed change

  same_line : (x : Decision) → (new.bricks i).line ≡ (m.bricks i).line
  same_line x = ap (λ (y : State). (y.bricks i).line) (new_is size m is_size r step allowed x.change x.decides)

  abbrev ApartFromDecided : Sender → Ask → Type 0
  ApartFromDecided by ask = (x : Decision) → IsCopyApart m i ask × (IsAsDecided m x.change x.decides.may.adopts i → IsNoOpOf x.change ask)

  apart_from_decided : EachInput ApartFromDecided (new.bricks i).line
  apart_from_decided = each_all (λ (x : Decision) by ask. IsCopyApart m i ask × (IsAsDecided m x.change x.decides.may.adopts i → IsNoOpOf x.change ask)) (new.bricks i).line (λ x.
      subst (EachInput (λ by ask. IsCopyApart m i ask × (IsAsDecided m x.change x.decides.may.adopts i → IsNoOpOf x.change ask))) (sym (same_line x))
      (both_each (λ by ask. IsCopyApart m i ask) (λ by ask. IsAsDecided m x.change x.decides.may.adopts i → IsNoOpOf x.change ask) (m.bricks i).line ((keeps_copies_apart size m r).replaces i)
      (each_all (λ (s : IsAsDecided m x.change x.decides.may.adopts i) by ask. IsNoOpOf x.change ask) (m.bricks i).line (λ s. s.line))))

  -- ---- a request that stays in the line

  record Known (by : Sender) (ask : Ask) : Type 0 where
    right : IsRightAt size m i ask
    keeps : KeepsCopy by ask
    named : AskedByNamer by ask
    apart : ApartFromDecided by ask
    carries : Carries new.changes ask

  each_known : EachInput Known (new.bricks i).line
  each_known =
      each_both (Both Right KeepsCopy) (Both AskedByNamer (Both ApartFromDecided (λ by ask. Carries new.changes ask))) Known (λ by ask a b. record { right = a.0; keeps = a.1; named = b.0; apart = b.1.0; carries = b.1.1 }) (new.bricks i).line
      (both_each Right KeepsCopy (new.bricks i).line rights (copies_kept (bricks_move size m step allowed i)))
      (both_each AskedByNamer (Both ApartFromDecided (λ by ask. Carries new.changes ask)) (new.bricks i).line asked_by_namer
      (both_each ApartFromDecided (λ by ask. Carries new.changes ask) (new.bricks i).line apart_from_decided ((copies_are_of_changes size (after size m step) (next_reached size m r step allowed)).bricks i).line))

  module _ (by : Sender) (u : ℕ) (op : StoreOp) (known : Known by (Op u op)) where
    -- no clear may name the replica on one of its cells
    not_asked : (stage : Stage) (run : CopyRun) → stage ≡ Copying run → IsAskedBy size new.changes (new.txns (namer size m is_size r was step allowed)).job stage i (Op u op) → ⊥
    not_asked stage run is (inl applies) = absurd (let no : Applying u ≡ Copying run = sym applies.0 ∙ is in cc)
    not_asked stage run is (inr bears) = absurd (let no : Bearing ≡ Copying run = sym bears.0 ∙ is in cc)

    not_named : (cell : Cell) → has_cell (needs op) cell ≡ true → (t : ℕ) → ConfirmsNow size m r step allowed t i cell → ⊥
    not_named cell has t c =
        let n : NamedNow size m is_size r was step allowed i cell = named_now size m is_size r was step allowed t i cell c in
        let k : IsCopiedTo (new.txns (namer size m is_size r was step allowed)).stage cell i = copied_run (new.txns (namer size m is_size r was step allowed)).stage cell i n.copied in
        not_asked (new.txns (namer size m is_size r was step allowed)).stage k.run k.is (known.named (record { cell = cell; now = n }) has)

    accused_stays : (cell : Cell) → has_cell (needs op) cell ≡ true → IsAccusedApart size m cell i nobody → IsAccusedApart size new cell i nobody
    accused_stays cell has a = accused_on size m is_size r step allowed i few cell nobody nobody (λ k h. h) (λ t k low apart held c. not_named cell has t c) a

    module _ (h : FindsSettled m (m.bricks i).store u op) where
      touched : (cell : Cell) → has_cell (needs op) cell ≡ true → has_cell (m.changes u).cells cell ≡ true
      touched cell has = by_case known.carries where
        by_case : IsOpOf new.changes u op → has_cell (m.changes u).cells cell ≡ true
        by_case (inl birth) = apart_bools has (ap (λ cs. has_cell cs cell) birth.1)
        by_case (inr sent) =
            sym (ap (λ cs. has_cell cs cell) (cells_stay size m step allowed u (is_drawn size m r u (h cell has).0)))
            ∙ ap (λ cs. has_cell cs cell) ((changes_are_own size (after size m step) (next_reached size m r step allowed)).fit.needs_are u ∙ ap needs (sym sent.1)) ∙ has

      -- the change stays unsettled
      stays : is_unsettled (new.changes u).verdict ≡ true → FindsSettled new (new.bricks i).store u op
      stays now cell has = (now, settled_goes size m is_size r step allowed cell none ((new.bricks i).store cell).copy (record { held = s.held; is = known.keeps cell has s.held s.is; changes = s.changes; content = s.content })) where
        s : IsSettledCopy m cell ((m.bricks i).store cell).copy
        s = (h cell has).1

        none : (v : ℕ) → DecidesOn size m r step allowed cell v → ⊥
        none v d = (still size m is_size r step allowed v d.decision u now).1 (one_on size m r step allowed cell u v (h cell has).0 d.decision.unsettled (touched cell has) d.touches)

      -- it is decided now
      decides : is_unsettled (m.changes u).verdict ≡ true → is_unsettled (new.changes u).verdict ≡ false → Deciding size m r step allowed u
      decides was_so gone = by_move (change_moves size m step allowed u) where
        by_move : ChangeMove size m step u (new.changes u) → Deciding size m r step allowed u
        by_move (ChangeMove.Same is) = apart_bools was_so (sym (ap (λ (c : Change). is_unsettled c.verdict) is) ∙ gone)
        by_move (ChangeMove.Marks t step_is may at is) = let low = is_drawn size m r u was_so in absurd (omega (arith, at, low))
        by_move (ChangeMove.Unsettles t step_is may at is) = apart_bools (ap (λ (c : Change). is_unsettled c.verdict) is) gone
        by_move (ChangeMove.Applies k b v o answer step_is handed stage is) = apart_bools was_so (sym (ap (λ (c : Change). is_unsettled c.verdict) is) ∙ gone)
        by_move (ChangeMove.Decides t step_is may at unsettled is) = record { txn = t; step_is = step_is; may = may; at = at; unsettled = unsettled }

      lost : is_unsettled (new.changes u).verdict ≡ false → (cell : Cell) → has_cell (needs op) cell ≡ true → IsAccusedApart size new cell i nobody
      lost gone cell has =
          let d : Deciding size m r step allowed u = decides (h cell has).0 gone in
          decided_accused size m is_size r step allowed u d cell (touched cell has) i few (left_out_now size m is_size r step allowed u d i few (λ s. (known.apart (record { change = u; decides = d })).1 s refl)) nobody (λ k noted. refl)

    op_goes : IsRightAt size new i (Op u op)
    op_goes = by_case known.right where
      by_verdict : FindsSettled m (m.bricks i).store u op → (is_unsettled (new.changes u).verdict ≡ true) ⊎ (is_unsettled (new.changes u).verdict ≡ false) → IsRightAt size new i (Op u op)
      by_verdict h (inl now) = inl (stays h now)
      by_verdict h (inr gone) = inr (lost h gone)

      by_case : IsRightAt size m i (Op u op) → IsRightAt size new i (Op u op)
      by_case (inl h) = by_verdict h (is_or_not (is_unsettled (new.changes u).verdict))
      by_case (inr accused) = inr (λ cell has. accused_stays cell has (accused cell has))

  module _ (by : Sender) (at : Cell) (found : Fetched) (known : Known by (Replace at found)) where
    on_decision : (u : ℕ) (d : DecidesOn size m r step allowed at u) → (has_change found.copy.changes u ≡ d.decision.may.adopts) ⊎ IsAccusedApart size new at i nobody
    on_decision u d = by_verdict (is_or_not d.decision.may.adopts) where
      apart : (has_change found.copy.changes u ≡ false) × IsWithout m u i
      apart = (known.apart (record { change = u; decides = d.decision })).0 u d.decision.unsettled d.touches

      by_verdict : (d.decision.may.adopts ≡ true) ⊎ (d.decision.may.adopts ≡ false) → (has_change found.copy.changes u ≡ d.decision.may.adopts) ⊎ IsAccusedApart size new at i nobody
      by_verdict (inl adopts) =
          inr (decided_accused size m is_size r step allowed u d.decision at d.touches i few (left_out_now size m is_size r step allowed u d.decision i few (λ s. apart_bools (s.has at d.touches ∙ adopts) (apart.1.copies at d.touches))) nobody (λ k noted. refl))
      by_verdict (inr drops) = inl (apart.0 ∙ sym drops)

    -- it is the one that the copy's transaction asked for
    asked : (stage : Stage) (run : CopyRun) → stage ≡ Copying run → IsReplacing stage i at found → run.fetched at ≡ Some found
    asked stage run is h = (subst (λ s. IsReplacing s i at found) is h).1.1.1

    replace_goes : IsRightAt size new i (Replace at found)
    replace_goes = by_case (is_named size m is_size r was step allowed i at) where
      of_fetched : IsGood new at (Some found.copy) ⊎ IsAccusedApart size new at i (held_by new (namer size m is_size r was step allowed)) → IsRightAt size new i (Replace at found)
      of_fetched (inl good) = inl good
      of_fetched (inr accused) = inr (accused_of size new at i (held_by new (namer size m is_size r was step allowed)) accused)

      by_case : NamedNow size m is_size r was step allowed i at ⊎ ((t : ℕ) → ConfirmsNow size m r step allowed t i at → ⊥) → IsRightAt size new i (Replace at found)
      by_case (inl n) =
          let k : IsCopiedTo (new.txns (namer size m is_size r was step allowed)).stage at i = copied_run (new.txns (namer size m is_size r was step allowed)).stage at i n.copied in
          of_fetched (fetched_after size m is_size r step allowed was.sources was.fetched (namer size m is_size r was step allowed) i k.run at found few k.is
          (asked (new.txns (namer size m is_size r was step allowed)).stage k.run k.is (known.named (record { cell = at; now = n }) (or_right (is_cell at at) ∙ is_itself at))) n.used)
      by_case (inr none) =
          value_goes size m is_size r step allowed i few at nobody nobody (λ k h. h) (accused_on size m is_size r step allowed i few at nobody nobody (λ k h. h) (λ t k low apart held c. none t c)) (Some found.copy) on_decision known.right

  right_goes : (by : Sender) (ask : Ask) → Known by ask → IsRightAt size new i ask
  right_goes by (Op u op) known = op_goes by u op known
  right_goes by (Replace at found) known = replace_goes by at found known
  right_goes by other known = tt

  pub lines_after : EachInput (λ by ask. IsRightAt size new i ask) (new.bricks i).line
  lines_after = each_of Known (λ by ask. IsRightAt size new i ask) right_goes (new.bricks i).line each_known
