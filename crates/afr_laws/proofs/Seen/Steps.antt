-- The rows that a lock phase saw stand until it or a later one writes, over every list of steps.
use Rattle.std.proofs.Common.{◌≡◌, ◌∙◌, ℕ, ◌≤◌, ◌<◌, Bool, true, false, refl, sym, ap, subst, ◌⊎◌, inl, inr, arith}
use Rattle.std.specs.Prelude.{List, [], ◌∷◌, ◌≢◌, ◌&&◌}
use Rattle.std.proofs.lemmas.Bool.{cases_eq, cases_lt}
use Rattle.fop_types.specs.Jobs.{IsJob}
use Rattle.fop_types.specs.StoreOps.{needs}
use Rattle.fop_types.specs.declared.cells.Cell.{Cell}
use Rattle.fop_types.specs.declared.contents.Row.{Row}
use Rattle.afr_machine.specs.Replicas.{Size, IsSize}
use Rattle.afr_machine.specs.Touching.{is_cell, has_cell}
use Rattle.afr_machine.specs.Copies.{rows_of}
use Rattle.afr_machine.specs.Requests.{Sender, Ask, Input}
use Rattle.afr_machine.specs.Requests.Ask.{Mark, Op, Post, Replace, Clear, Settle}
use Rattle.afr_machine.specs.Requests.Input.{Asked}
use Rattle.afr_machine.specs.Bricks.{Brick}
use Rattle.afr_machine.specs.Phases.{Phase}
use Rattle.afr_machine.specs.Transactions.{Txn}
use Rattle.afr_machine.specs.States.{State, phase_of}
use Rattle.afr_machine.specs.Births.{cells_of_work}
use Rattle.afr_machine.specs.Sending.{MayAsk, writes, wrote_if, asks_of, inputs_of, sender_of, after_asking}
use Rattle.afr_machine.specs.Turns.{MayReach, cells_locked, rows_granted, phase_reached}
use Rattle.afr_machine.specs.Steps.{Step, Allowed, after, IsReached}
use Rattle.afr_machine.specs.Moves.{IsTaken}
use Rattle.afr_machine.proofs.Tables.{at_same}
use Rattle.afr_machine.proofs.BrickMoves.{bricks_move}
use Rattle.afr_laws.specs.Senders.{EachInput}
use Rattle.afr_laws.specs.Grants.{lock_of, is_unlocking}
use Rattle.afr_laws.specs.Apart.{Holds, IsGranted}
use Rattle.afr_laws.specs.Apart.IsGranted.{HandedIn}
use Rattle.afr_laws.specs.Fresh.{is_behind, AsksFor}
use Rattle.afr_laws.specs.Work.{shares_of, IsOfWork}
use Rattle.afr_laws.specs.Covered.{cells_asked, alters}
use Rattle.afr_laws.specs.Alone.{IsApartFrom}
use Rattle.afr_laws.specs.Standing.{is_gathering, StillShows, ShowsStill}
use Rattle.afr_laws.specs.Seen.{is_applying, IsSuperseded, altering, SeenStands, SeenRowsStand, EverySeenRowStands}
use Rattle.afr_laws.proofs.Bools.{or_right, is_or_not, apart_bools, both_left, both_right, either_way}
use Rattle.afr_laws.proofs.Sharing.{cells_are}
use Rattle.afr_laws.proofs.Flying.{on_their_way}
use Rattle.afr_laws.proofs.ConnectsFirst.{connects_come_first}
use Rattle.afr_laws.proofs.OwnChanges.Steps.{changes_are_own}
use Rattle.afr_laws.proofs.Copies.Asks.{share_at, birth_needs}
use Rattle.afr_laws.proofs.Fresh.Phased.{PhasesGo}
use Rattle.afr_laws.proofs.Fresh.Known.{phases_are_known}
use Rattle.afr_laws.proofs.Fresh.Steps.{ended_goes, step_phases}
use Rattle.afr_laws.proofs.Work.Known.{works_are_known}
use Rattle.afr_laws.proofs.Covered.Granted.{grants_stand}
use Rattle.afr_laws.proofs.Covered.Lines.{zip}
use Rattle.afr_laws.proofs.Covered.Sent.{IsSentUnder, sent_under}
use Rattle.afr_laws.proofs.Covered.Asked.{IsOnWork, sent_on}
use Rattle.afr_laws.proofs.Alone.Holder.{alters_needs}
use Rattle.afr_laws.proofs.Standing.Alone.{move_each, granted_alone}
use Rattle.afr_laws.proofs.Standing.Calm.{gathering_is_calm}
use Rattle.afr_laws.proofs.Standing.Own.{handed_calm}
use Rattle.afr_laws.proofs.Standing.Stores.{share_none_at}
use Rattle.afr_laws.proofs.Standing.Rows.{move_shows}
use Rattle.afr_laws.proofs.Standing.Steps.{rows_stand}
use Rattle.afr_laws.proofs.Overtaken.Steps.{HasOpen, has_open, opens, PhaseFrom, phase_from, overtaken_apart}
use Rattle.afr_laws.proofs.Overtaken.Steps.PhaseFrom.{Old, Now}
use Rattle.afr_laws.proofs.Seen.Applied.{applies_written}

-- ---- cells and tests

second_false : (a b : Bool) → a ≡ true → (a && b) ≡ false → b ≡ false
second_false true b is e = e
second_false false b is e = absurd cc

-- a cell of a list is itself
has_itself : (cells : List Cell) (cell : Cell) → has_cell cells cell ≡ true → has_cell (cell ∷ []) cell ≡ true
has_itself [] cell h = absurd cc
has_itself (c ∷ cs) cell h = by_case (has_itself cs cell) (either_way (is_cell cell c) (has_cell cs cell) h) where
  by_case : (has_cell cs cell ≡ true → has_cell (cell ∷ []) cell ≡ true) → (is_cell cell c ≡ true) ⊎ (has_cell cs cell ≡ true) → has_cell (cell ∷ []) cell ≡ true
  by_case more (inl same) = or_right (is_cell cell cell) ∙ subst (λ z. is_cell cell z ≡ true) (sym (cells_are cell c same)) same
  by_case more (inr rest) = more rest

single_is : (other cell : Cell) → has_cell (cell ∷ []) other ≡ true → other ≡ cell
single_is other cell has = cells_are other cell (sym (or_right (is_cell other cell)) ∙ has)

-- ---- who alters a cell is behind a lock phase that wrote, or writes now

module _ (size : Size) (m : State) (r : IsReached size m) (is : IsSize size) (t k : ℕ) where
  abbrev x : Txn
  x = m.txns t

  behind_asks : (ask : Ask) → MayAsk size m t k ask → alters ask ≡ true → is_behind x.stage ≡ true
  behind_asks (Mark u cells) h alter = ap is_behind h.turn
  behind_asks (Op u op) (inl h) alter = ap is_behind h.turn
  behind_asks (Op u op) (inr h) alter = ap is_behind h.turn
  behind_asks (Post u cells accused) h alter = ap is_behind h.turn
  behind_asks (Replace cell found) h alter = ap is_behind h.turn
  behind_asks (Clear cells who) h alter = ap is_behind h.turn
  behind_asks (Settle u cells accused) h alter = ap is_behind h.turn
  behind_asks other h alter = absurd cc

  -- the phases after it was sent
  sent_phases : Bool → Ask → ℕ → Phase
  sent_phases first ask = (after_asking m t k first ask).phases

  wrote_now : (first : Bool) (ask : Ask) → writes ask ≡ true → ((after_asking m t k first ask).phases x.phase).wrote ≡ true
  wrote_now first ask w = ap (λ (p : Phase). p.wrote) (at_same m.phases x.phase (wrote_if (writes ask) (phase_of m t))) ∙ ap (λ b. (wrote_if b (phase_of m t)).wrote) w

  wrote_before : (first : Bool) (ask : Ask) → is_applying x.stage ≡ true → ((after_asking m t k first ask).phases x.phase).wrote ≡ true
  wrote_before first ask applies = (step_phases size m (Step.Asks t k first ask)).wrote x.phase (phases_are_known size m r t).low (applies_written size m is r t applies)

  wrote_after : (first : Bool) (ask : Ask) → MayAsk size m t k ask → (cell : Cell) → altering ask cell ≡ true → ((after_asking m t k first ask).phases x.phase).wrote ≡ true
  wrote_after first (Mark u cells) h cell alter = wrote_now first (Mark u cells) refl
  wrote_after first (Op u op) (inl h) cell alter = wrote_before first (Op u op) (ap is_applying h.turn)
  wrote_after first (Op u op) (inr h) cell alter = absurd (let no : false ≡ true = sym (ap (λ cs. has_cell cs cell) (birth_needs op (subst IsJob h.job_is ((changes_are_own size m r).own t).job).2)) ∙ both_right true (has_cell (needs op) cell) alter in cc)
  wrote_after first (Post u cells accused) h cell alter = wrote_now first (Post u cells accused) refl
  wrote_after first (Replace other found) h cell alter = wrote_now first (Replace other found) refl
  wrote_after first (Clear cells who) h cell alter = wrote_now first (Clear cells who) refl
  wrote_after first (Settle u cells accused) h cell alter = wrote_now first (Settle u cells accused) refl
  wrote_after first other h cell alter = absurd cc

-- ---- one step

module _ (size : Size) (m : State) (r : IsReached size m) (is : IsSize size) (step : Step) (allowed : Allowed size m step) (was : SeenRowsStand m) (p k : ℕ) (cell : Cell) where
  abbrev new : State
  new = after size m step

  goes : PhasesGo m.ended m.phases (after size m step).phases
  goes = step_phases size m step

  -- ---- a phase that had ended

  -- a phase from this one on, over the cell, that wrote by now
  pub record IsWrittenFrom (first at : ℕ) : Type 0 where
    pub from : first ≤ at
    pub low : at ≤ new.ended
    pub wrote : (new.phases at).wrote ≡ true
    pub covers : has_cell (new.phases at).cells cell ≡ true

  module _ (low : p ≤ m.ended) (covers : has_cell (m.phases p).cells cell ≡ true) (reached : (m.phases p).reached k ≡ true) where
    -- who sends the brick a request that alters the cell is behind this phase or a later one, which wrote: an earlier
    -- transaction has no open grant there
    pub sent_later : (t : ℕ) (first : Bool) (ask : Ask) → step ≡ Step.Asks t k first ask → MayAsk size m t k ask → altering ask cell ≡ true → IsWrittenFrom p (m.txns t).phase
    sent_later t first ask step_is may alter = by_order (cases_lt (m.txns t).phase p) where
      altered : alters ask ≡ true
      altered = both_left (alters ask) (has_cell (cells_asked ask) cell) alter

      behind : is_behind (m.txns t).stage ≡ true
      behind = behind_asks size m r is t k ask may altered

      s : IsSentUnder m t k
      s = sent_under size m t k ask may (alters_needs ask altered)

      on : IsOnWork m t ask
      on = sent_on size m t k (works_are_known size m r) (phases_are_known size m r) (changes_are_own size m r) ask may

      own_covers : has_cell (phase_of m t).cells cell ≡ true
      own_covers = ap (λ cs. has_cell cs cell) ((phases_are_known size m r t).cells behind) ∙ on.over cell (both_right (alters ask) (has_cell (cells_asked ask) cell) alter)

      wrote : (new.phases (m.txns t).phase).wrote ≡ true
      wrote = ap (λ (q : Step). ((after size m q).phases (m.txns t).phase).wrote) step_is ∙ wrote_after size m r is t k first ask may cell alter

      own_low : (m.txns t).phase ≤ m.ended
      own_low = (phases_are_known size m r t).low

      earlier : (m.txns t).phase < p → ⊥
      earlier before = apart_bools
          (opens m t k (record { grant = s.grant.grant; granted = s.grant.granted; current = s.grant.still_open }))
          (overtaken_apart size m r t p k behind (on.alone altered) (record { later = before; ended = low; common = share_at (phase_of m t).cells (m.phases p).cells cell own_covers covers }) reached)

      by_order : ((m.txns t).phase < p) ⊎ (p ≤ (m.txns t).phase) → IsWrittenFrom p (m.txns t).phase
      by_order (inl before) = absurd (earlier before)
      by_order (inr at) = record {
        from = at;
        low = omega (arith, own_low, ended_goes size m step);
        wrote = wrote;
        covers = ap (λ cs. has_cell cs cell) (goes.cells (m.txns t).phase own_low) ∙ own_covers;
      }

  module _ (low : p ≤ m.ended) (covers : has_cell (m.phases p).cells cell ≡ true) (reached : (m.phases p).reached k ≡ true) (unwritten : (new.phases p).wrote ≡ false) (last : IsSuperseded new.phases new.ended p cell → ⊥) where
    -- nobody sends one while the phase did not write
    sent_none : (t : ℕ) (first : Bool) (ask : Ask) → step ≡ Step.Asks t k first ask → MayAsk size m t k ask → altering ask cell ≡ true → ⊥
    sent_none t first ask step_is may alter = by_order (sent_later low covers reached t first ask step_is may alter) (cases_eq (m.txns t).phase p) where
      by_order : IsWrittenFrom p (m.txns t).phase → ((m.txns t).phase ≡ p) ⊎ ((m.txns t).phase ≢ p) → ⊥
      by_order w (inl same) = apart_bools (subst (λ q. (new.phases q).wrote ≡ true) same w.wrote) unwritten
      by_order w (inr other) = last (record { by = (m.txns t).phase; later = omega (arith, w.from, other); low = w.low; wrote = w.wrote; covers = w.covers })

    calm_ask : (t : ℕ) (first : Bool) (ask : Ask) → step ≡ Step.Asks t k first ask → MayAsk size m t k ask → altering ask cell ≡ false
    calm_ask t first ask step_is may = by_case (is_or_not (altering ask cell)) where
      by_case : (altering ask cell ≡ true) ⊎ (altering ask cell ≡ false) → altering ask cell ≡ false
      by_case (inl alter) = absurd (sent_none t first ask step_is may alter)
      by_case (inr calm) = calm

    calm_inputs : (by : Sender) (first : Bool) (ask : Ask) → altering ask cell ≡ false → EachInput (λ s a. altering a cell ≡ false) (inputs_of by (asks_of first ask))
    calm_inputs by true ask calm = (refl, (calm, tt))
    calm_inputs by false ask calm = (calm, tt)

    taken_calm : (st : Step) → step ≡ st → Allowed size m st → (inputs : List Input) → IsTaken m st k inputs → EachInput (λ s a. altering a cell ≡ false) inputs
    taken_calm (Step.Asks t j first ask) step_is h inputs taken =
        let may : MayAsk size m t k ask = subst (λ n. MayAsk size m t n ask) (sym taken.0) h.0 in
        let inputs_are : inputs ≡ inputs_of (sender_of m t k) (asks_of first ask) = taken.1 ∙ ap (λ n. inputs_of (sender_of m t n) (asks_of first ask)) (sym taken.0) in
        subst (EachInput (λ s a. altering a cell ≡ false)) (sym inputs_are)
        (calm_inputs (sender_of m t k) first ask (calm_ask t first ask (step_is ∙ ap (λ n. Step.Asks t n first ask) (sym taken.0)) may))
    taken_calm (Step.Controls j steering) step_is h inputs taken = subst (EachInput (λ s a. altering a cell ≡ false)) (sym taken.1) tt
    taken_calm (Step.Connects j g) step_is h inputs taken = subst (EachInput (λ s a. altering a cell ≡ false)) (sym taken.1) tt
    taken_calm (Step.Cuts j g) step_is h inputs taken = subst (EachInput (λ s a. altering a cell ≡ false)) (sym taken.1) tt
    taken_calm other step_is h inputs taken = absurd taken

    old_stands : SeenStands (m.phases p) cell k (m.bricks k) → SeenStands (new.phases p) cell k (new.bricks k)
    old_stands s = record {
      row = subst (λ (f : ℕ → Cell → Row). StillShows (f k cell) (rows_of (new.bricks k).store cell)) (sym (goes.rows p low))
          (move_shows (IsTaken m step k) (m.bricks k) (new.bricks k) (cell ∷ []) ((m.phases p).rows k) (bricks_move size m step allowed k) spares shown cell the_same);
      line = move_each (IsTaken m step k) (m.bricks k) (new.bricks k) (λ by ask. altering ask cell ≡ false) (taken_calm step refl allowed) s.line (bricks_move size m step allowed k);
    }
      where
        the_same : has_cell (cell ∷ []) cell ≡ true
        the_same = has_itself (m.phases p).cells cell covers

        shown : ShowsStill (m.bricks k).store (cell ∷ []) ((m.phases p).rows k)
        shown other has = subst (λ c. StillShows ((m.phases p).rows k c) (rows_of (m.bricks k).store c)) (sym (single_is other cell has)) s.row

        spares : (by : Sender) (ask : Ask) (rest : List Input) → (m.bricks k).line ≡ Asked by ask ∷ rest → alters ask ≡ true → (other : Cell) → has_cell (cell ∷ []) other ≡ true → has_cell (cells_asked ask) other ≡ false
        spares by ask rest front alter other has = subst (λ c. has_cell (cells_asked ask) c ≡ false) (sym (single_is other cell has)) (second_false (alters ask) (has_cell (cells_asked ask) cell) alter (subst (EachInput (λ s a. altering a cell ≡ false)) front s.line).0)

  -- ---- the phase that ends now

  module _ (other : ℕ) (may : MayReach size m other) (bricks : new.bricks ≡ m.bricks) (phase_is : new.phases p ≡ phase_reached m other) (covers : has_cell (new.phases p).cells cell ≡ true) (reached : (new.phases p).reached k ≡ true) where
    theirs : HasOpen m other k
    theirs = has_open m other k (sym (ap (λ (q : Phase). q.reached k) phase_is) ∙ reached)

    gathering : is_gathering (m.txns other).stage ≡ true
    gathering = ap is_gathering may.turn

    holds : Holds m other k theirs.grant
    holds = record { granted = theirs.granted; still_open = theirs.current; holding = ap is_unlocking may.turn }

    granted : IsGranted m k (lock_of other (m.txns other).graph theirs.grant)
    granted = HandedIn other theirs.grant holds refl

    of_work : IsOfWork (cells_of_work m.changes (m.txns other) (m.txns other).work) (shares_of (m.txns other).job (m.txns other).work) theirs.grant
    of_work = (works_are_known size m r other).grants k theirs.grant theirs.granted

    their_cells : theirs.grant.cells ≡ (new.phases p).cells
    their_cells =
        of_work.over ∙ sym (subst (λ s. AsksFor s (cells_of_work m.changes (m.txns other) (m.txns other).work)) may.turn (phases_are_known size m r other).asks)
        ∙ sym (ap (λ (q : Phase). q.cells) phase_is ∙ ap cells_locked may.turn)

    has : has_cell theirs.grant.cells cell ≡ true
    has = ap (λ cs. has_cell cs cell) their_cells ∙ covers

    rows_are : (new.phases p).rows k cell ≡ theirs.grant.rows cell
    rows_are = ap (λ (q : Phase). q.rows k cell) phase_is ∙ ap (λ o. rows_granted o cell) theirs.granted

    nothing : (by : Sender) (ask : Ask) → IsApartFrom (lock_of other (m.txns other).graph theirs.grant) by ask → (by.txn ≡ other → alters ask ≡ false) → altering ask cell ≡ false
    nothing by ask apart calm = by_case (is_or_not (alters ask)) (cases_eq by.txn other) where
      by_case : (alters ask ≡ true) ⊎ (alters ask ≡ false) → (by.txn ≡ other) ⊎ (by.txn ≢ other) → altering ask cell ≡ false
      by_case (inr none) same = ap (λ b. b && has_cell (cells_asked ask) cell) none
      by_case (inl alter) (inl same) = apart_bools alter (calm same)
      by_case (inl alter) (inr differs) = ap (λ b. b && has_cell (cells_asked ask) cell) alter ∙ share_none_at theirs.grant.cells (cells_asked ask) cell (apart alter differs) has

    new_stands : SeenStands (new.phases p) cell k (new.bricks k)
    new_stands = subst (λ (f : ℕ → Brick). SeenStands (new.phases p) cell k (f k)) (sym bricks) (record {
      row = subst (λ (shown : Row). StillShows shown (rows_of (m.bricks k).store cell)) (sym rows_are) ((rows_stand size m r).handed other k theirs.grant holds gathering cell has);
      line = zip (IsApartFrom (lock_of other (m.txns other).graph theirs.grant)) (λ by ask. by.txn ≡ other → alters ask ≡ false) (λ by ask. altering ask cell ≡ false) nothing (m.bricks k).line
          (granted_alone size m r k (lock_of other (m.txns other).graph theirs.grant) granted)
          (handed_calm m (on_their_way size m r) (connects_come_first size m r) (grants_stand size m r) k (lock_of other (m.txns other).graph theirs.grant) (gathering_is_calm size m r) other theirs.grant holds granted refl refl refl gathering);
    })

  -- ---- either

  seen_now : 1 ≤ p → has_cell (new.phases p).cells cell ≡ true → (new.phases p).reached k ≡ true → (new.phases p).wrote ≡ false → (IsSuperseded new.phases new.ended p cell → ⊥) → PhaseFrom size m new p → SeenStands (new.phases p) cell k (new.bricks k)
  seen_now one covers reached unwritten last (Old low) = old_stands low old_covers old_reached unwritten last (was p k cell one low old_covers old_reached old_unwritten old_last) where
    old_covers : has_cell (m.phases p).cells cell ≡ true
    old_covers = sym (ap (λ cs. has_cell cs cell) (goes.cells p low)) ∙ covers

    old_reached : (m.phases p).reached k ≡ true
    old_reached = sym (ap (λ (f : ℕ → Bool). f k) (goes.reached p low)) ∙ reached

    old_unwritten : (m.phases p).wrote ≡ false
    old_unwritten = by_case (is_or_not (m.phases p).wrote) where
      by_case : ((m.phases p).wrote ≡ true) ⊎ ((m.phases p).wrote ≡ false) → (m.phases p).wrote ≡ false
      by_case (inl wrote) = apart_bools (goes.wrote p low wrote) unwritten
      by_case (inr none) = none

    old_last : IsSuperseded m.phases m.ended p cell → ⊥
    old_last s = last (record { by = s.by; later = s.later; low = omega (arith, s.low, ended_goes size m step); wrote = goes.wrote s.by s.low s.wrote; covers = ap (λ cs. has_cell cs cell) (goes.cells s.by s.low) ∙ s.covers })
  seen_now one covers reached unwritten last (Now other may at phase_is bricks) = new_stands other may bricks phase_is covers reached

-- ---- every list of steps

pub seen_rows_stand : (size : Size) (m : State) → IsSize size → IsReached size m → SeenRowsStand m
seen_rows_stand size m is IsReached.Start = λ p k cell one low covers reached unwritten last. absurd (omega (arith, one, low))
seen_rows_stand size m is (IsReached.Further old step reached allowed) = λ p k cell one low covers there unwritten last.
    seen_now size old reached is step allowed (seen_rows_stand size old is reached) p k cell one covers there unwritten last (phase_from size old step allowed p low)

pub keeps_seen : EverySeenRowStands
keeps_seen size m is reached = record { applied = applies_written size m is reached; seen = seen_rows_stand size m is reached }
