-- Lock phases that settle a change, over every list of steps.
use Rattle.std.proofs.Common.{◌≡◌, ◌∙◌, ℕ, ◌+◌, ◌≤◌, ◌<◌, Bool, true, false, refl, sym, ap, subst, ◌⊎◌, inl, inr, arith, Option, Some, None}
use Rattle.std.specs.Prelude.{List, ◌≢◌}
use Rattle.std.proofs.lemmas.Bool.{cases_eq, cases_lt}
use Rattle.fop_types.specs.declared.cells.Cell.{Cell}
use Rattle.fop_types.specs.declared.contents.Row.{Row}
use Rattle.afr_machine.specs.Replicas.{Size, Replicas}
use Rattle.afr_machine.specs.Touching.{has_cell, share}
use Rattle.afr_machine.specs.Copies.{has_change}
use Rattle.afr_machine.specs.Requests.{Ask, Input}
use Rattle.afr_machine.specs.Requests.Ask.{Op, Clear}
use Rattle.afr_machine.specs.Changes.{Change, is_unsettled}
use Rattle.afr_machine.specs.Phases.{Phase, Deciding, IsSoundIn}
use Rattle.afr_machine.specs.Phases.Deciding.{NoChange, ByPosts, BySettles}
use Rattle.afr_machine.specs.Transactions.{Work, CopyRun, Stage, Txn}
use Rattle.afr_machine.specs.Transactions.Work.{Own, Settles}
use Rattle.afr_machine.specs.Transactions.Stage.{Settling, Copying}
use Rattle.afr_machine.specs.States.{State, phase_of}
use Rattle.afr_machine.specs.Births.{cells_of_work}
use Rattle.afr_machine.specs.Sending.{MayAsk, asks_of, inputs_of, sender_of}
use Rattle.afr_machine.specs.Turns.{Turn, MaySettleNow, IsInGroup, holds_last, open_grants, entering, members, after_turn, settling}
use Rattle.afr_machine.specs.Steps.{Step, Allowed, after, IsReached}
use Rattle.afr_machine.specs.Moves.{IsTaken}
use Rattle.afr_machine.proofs.BrickMoves.{bricks_move}
use Rattle.afr_machine.proofs.Tables.{at_same}
use Rattle.afr_laws.specs.Senders.{EachInput}
use Rattle.afr_laws.specs.OwnChanges.{was_unsettled}
use Rattle.afr_laws.specs.Numbers.{applied}
use Rattle.afr_laws.specs.Fresh.{is_behind}
use Rattle.afr_laws.specs.Ready.{IsReadyFor}
use Rattle.afr_laws.specs.Work.{changes_in}
use Rattle.afr_laws.proofs.Bools.{apart_bools, is_or_not}
use Rattle.afr_laws.proofs.Copies.Asks.{share_at}
use Rattle.afr_laws.proofs.Work.Known.{works_are_known}
use Rattle.afr_laws.proofs.Fresh.Known.{phases_are_known}
use Rattle.afr_laws.proofs.Fresh.Phased.{PhasesGo}
use Rattle.afr_laws.proofs.Fresh.Steps.{step_phases}
use Rattle.afr_laws.proofs.OwnPhases.{keeps_phases}
use Rattle.afr_laws.proofs.Overtaken.Steps.{PhaseFrom, phase_from, opens, overtaken_apart}
use Rattle.afr_laws.proofs.Overtaken.Steps.PhaseFrom.{Old, Now}
use Rattle.afr_laws.proofs.Standing.Alone.{move_each}
use Rattle.afr_laws.proofs.Ready.Steps.{members_are_ready}
use Rattle.afr_soundness.specs.Deciding.{IsSettledIn, IsDecidedIn, IsSettledBy, IsCopiedFrom, DecidesIn}
use Rattle.afr_soundness.specs.Later.{IsMarked}
use Rattle.afr_soundness.specs.CopyApart.{ComesBefore, IsNoOpOf}
use Rattle.afr_soundness.specs.Agreeing.{AgreesAt}
use Rattle.afr_soundness.specs.SettleDone.{ClearsNot, SettleDoneAccuses}
use Rattle.afr_soundness.proofs.PhaseMoves.{PhaseMove, phase_moves}
use Rattle.afr_soundness.proofs.ChangeMoves.{cells_stay}
use Rattle.afr_soundness.proofs.Deciding.Whose.{decides_exactly, unsettled_was}
use Rattle.afr_soundness.proofs.Unsettled.{UnsettledFrom, unsettled_from, drawn_from, becomes_own}
use Rattle.afr_soundness.proofs.Marked.{each_is_marked}
use Rattle.afr_soundness.proofs.Runs.{runs_are_known, sound_stays}
use Rattle.afr_soundness.proofs.Settled.{settled_are_decided}
use Rattle.afr_soundness.proofs.CopyApart.Without.{taken_no_op}
use Rattle.afr_soundness.proofs.CopyApart.Static.{comes_before}
use Rattle.afr_soundness.proofs.CopyApart.Steps.{Sends, overtaken_unsent, marked_back, comes_back}
use Rattle.afr_soundness.proofs.Agreeing.{copy_same, seen_agree}
use Rattle.afr_soundness.proofs.SettleDone.{settle_done_accuses}
use Rattle.afr_decisions.specs.Settlings.{IsSettling, HasGroup, KeepsSettling, StandsSettling, EverySettlingStands}
use Rattle.afr_decisions.proofs.Cells.{SomeCell, sent_has_cell}

-- the change became unsettled once, and the lock phase is over its cells
pub settled_in : (size : Size) (m : State) → IsReached size m → (p u : ℕ) (group : Replicas) (adopts : Bool) → IsSettling m p u group adopts → IsSettledIn m p u
settled_in size m r p u group adopts s = subst (IsDecidedIn m p) s.decides ((decides_exactly size m r).decided p s.one s.low)

module _ (size : Size) (m : State) (r : IsReached size m) (step : Step) (allowed : Allowed size m step) where
  abbrev new : State
  new = after size m step

  next : IsReached size (after size m step)
  next = IsReached.Further m step r allowed

  goes : PhasesGo m.ended m.phases (after size m step).phases
  goes = step_phases size m step

  -- ---- it settled before, or begins to

  pub data SettlingFrom (p u : ℕ) (group : Replicas) (adopts : Bool) : Type 0 where
    Did : IsSettling m p u group adopts → SettlingFrom p u group adopts
    Begins : (t : ℕ) → step ≡ Step.Turns t (Turn.SettlesAs group adopts) → (h : MaySettleNow size m t group adopts) → u ≡ h.change → p ≡ (m.txns t).phase → SettlingFrom p u group adopts

  begins_as : (p u v t : ℕ) (group g : Replicas) (adopts a : Bool) → step ≡ Step.Turns t (Turn.SettlesAs g a) → (h : MaySettleNow size m t g a) → h.change ≡ v → p ≡ (m.txns t).phase → BySettles v g a ≡ BySettles u group adopts → SettlingFrom p u group adopts
  begins_as p u v t group g adopts a step_is h at_change at e = by_equal same_u same_g same_a where
    same_u : v ≡ u
    same_u = cc

    same_g : g ≡ group
    same_g = cc

    same_a : a ≡ adopts
    same_a = cc

    by_equal : v ≡ u → g ≡ group → a ≡ adopts → SettlingFrom p u group adopts
    by_equal eu eg ea = subst (λ (g2 : Replicas). SettlingFrom p u g2 adopts) eg (subst (λ (a2 : Bool). SettlingFrom p u g a2) ea (Begins t step_is h (sym (at_change ∙ eu)) at))

  pub settling_from : (p u : ℕ) (group : Replicas) (adopts : Bool) → IsSettling new p u group adopts → SettlingFrom p u group adopts
  settling_from p u group adopts s = by_from (phase_from size m step allowed p s.low) where
    by_from : PhaseFrom size m new p → SettlingFrom p u group adopts
    by_from (Now t may at is bricks) = absurd (let e : NoChange ≡ BySettles u group adopts = sym (ap (λ (x : Phase). x.decides) is) ∙ s.decides in cc)
    by_from (Old low) = by_move (phase_moves size m step allowed p) where
      same : (x : Phase) → new.phases p ≡ x → x.decides ≡ (m.phases p).decides → SettlingFrom p u group adopts
      same x is e = Did (record { one = s.one; low = low; decides = sym (ap (λ (y : Phase). y.decides) is ∙ e) ∙ s.decides })

      by_move : PhaseMove size m step p (new.phases p) → SettlingFrom p u group adopts
      by_move (PhaseMove.Same is) = same _ is refl
      by_move (PhaseMove.Reaches t step_is may at is) = absurd (omega (arith, at, low))
      by_move (PhaseMove.Marks t step_is may at is) = absurd (let e : ByPosts (m.drawn + 1) ≡ BySettles u group adopts = sym (ap (λ (y : Phase). y.decides) is) ∙ s.decides in cc)
      by_move (PhaseMove.Posts t step_is may at is) = same _ is refl
      by_move (PhaseMove.SettlesAs t g a step_is may at is) = begins_as p u may.change t group g adopts a step_is may refl at (sym (ap (λ (y : Phase). y.decides) is) ∙ s.decides)
      by_move (PhaseMove.Asks t k first ask step_is may w at is) = same _ is refl
      by_move (PhaseMove.Clears k by cells who answer run step_is handed stage at is) = same _ is refl
      by_move (PhaseMove.Confirms k by ask answer step_is handed at is) = same _ is refl

  -- ---- it begins to: as its transaction knows

  module _ (t p u : ℕ) (group : Replicas) (adopts : Bool) (step_is : step ≡ Step.Turns t (Turn.SettlesAs group adopts)) (h : MaySettleNow size m t group adopts) (at_change : u ≡ h.change) (at : p ≡ (m.txns t).phase) where
    pub begun_txn : new.txns t ≡ entering (m.txns t) (Settling u group adopts) (members m t)
    begun_txn =
        ap (λ st. (after size m st).txns t) step_is ∙ ap (λ w. (settling size m t w group adopts).txns t) h.work_is
        ∙ at_same m.txns t (entering (m.txns t) (Settling h.change group adopts) (members m t)) ∙ ap (λ n. entering (m.txns t) (Settling n group adopts) (members m t)) (sym at_change)

    pub begun_changes : new.changes ≡ m.changes
    begun_changes = ap (λ st. (after size m st).changes) step_is ∙ ap (λ w. (settling size m t w group adopts).changes) h.work_is

    stage : (new.txns t).stage ≡ Settling u group adopts
    stage = ap (λ (z : Txn). z.stage) begun_txn

    behind : is_behind (new.txns t).stage ≡ true
    behind = ap is_behind stage

    work : (new.txns t).work ≡ Settles u
    work = ap (λ (z : Txn). z.work) begun_txn ∙ h.work_is ∙ ap Settles (sym at_change)

    phase : (new.txns t).phase ≡ p
    phase = ap (λ (z : Txn). z.phase) begun_txn ∙ sym at

    pub begun_unsettled : is_unsettled (new.changes u).verdict ≡ true
    begun_unsettled = ap (λ (f : ℕ → Change). is_unsettled (f u).verdict) begun_changes ∙ ap (λ n. is_unsettled (m.changes n).verdict) at_change ∙ h.is_unsettled

    group_then : HasGroup size new p u group adopts
    group_then = record {
      members = λ i low in_it. subst (λ q. IsInGroup size (new.phases q) u (new.changes u).cells adopts i) phase (((subst (λ s. IsReadyFor size new.changes s (new.txns t).out (phase_of new t)) stage (members_are_ready size new next t)) i low).0 in_it);
      source = h.source;
      source_is = h.source_is;
      source_in = h.source_in;
    }

    keeps_then : KeepsSettling new p u
    keeps_then = record {
      later = λ at_p over low shared comes. (settle_done_accuses size new next).later t u at_p behind work begun_unsettled (subst (λ q. q < at_p) (sym phase) over) low shared comes;
      clears = λ k cell reached has. (settle_done_accuses size new next).clears t u k cell behind work begun_unsettled (ap (λ q. (new.phases q).reached k) phase ∙ reached) has;
      agrees = λ k cell reached has. subst (λ q. AgreesAt new u q k cell) phase (seen_agree size new next t u k cell behind work begun_unsettled (ap (λ q. (new.phases q).reached k) phase ∙ reached) has);
    }

    pub begun_stands : StandsSettling size new p u group adopts
    begun_stands = record {
      group_is = group_then;
      marked = λ q low decides. (keeps_then.agrees h.source some.cell (group_then.members h.source h.source_is h.source_in).reached some.has).later q low decides;
      unsettled = λ u_is. keeps_then;
    }
      where
        some : SomeCell (new.changes u).cells
        some = sent_has_cell size new next u (unsettled_was (new.changes u).verdict begun_unsettled)

  -- ---- it did

  module _ (p u : ℕ) (group : Replicas) (adopts : Bool) (s : IsSettling m p u group adopts) (was : StandsSettling size m p u group adopts) where
    mine : IsSettledIn m p u
    mine = settled_in size m r p u group adopts s

    same_cells : (new.changes u).cells ≡ (m.changes u).cells
    same_cells = cells_stay size m step allowed u mine.drawn

    group_stays : HasGroup size new p u group adopts
    group_stays = record {
      members = λ i low in_it. stays i (was.group_is.members i low in_it);
      source = was.group_is.source;
      source_is = was.group_is.source_is;
      source_in = was.group_is.source_in;
    }
      where
        stays : (i : ℕ) → IsInGroup size (m.phases p) u (m.changes u).cells adopts i → IsInGroup size (new.phases p) u (new.changes u).cells adopts i
        stays i g = record {
          reached = ap (λ (f : Replicas). f i) (goes.reached p s.low) ∙ g.reached;
          sound = λ cell has. sound_stays size (m.phases p) (new.phases p) (goes.reached p s.low) (goes.rows p s.low) cell i (g.sound cell (sym (ap (λ cs. has_cell cs cell) same_cells) ∙ has));
          agrees = λ cell has. ap (λ (f : ℕ → Cell → Row). holds_last u (f i cell)) (goes.rows p s.low) ∙ g.agrees cell (sym (ap (λ cs. has_cell cs cell) same_cells) ∙ has);
        }

    unsettled_then : UnsettledFrom size m r step allowed u → is_unsettled (m.changes u).verdict ≡ true
    unsettled_then (UnsettledFrom.Was h) = h
    unsettled_then (UnsettledFrom.Becomes t step_is h at) = apart_bools mine.sent (ap (λ n. was_unsettled (m.changes n).verdict) at ∙ ap was_unsettled (becomes_own size m r step allowed t h).1.1)

    module _ (before : is_unsettled (m.changes u).verdict ≡ true) where
      w : KeepsSettling m p u
      w = was.unsettled before

      drawn : u ≤ m.drawn
      drawn = mine.drawn

      later_stays : (at : ℕ) → p < at → at ≤ new.ended → share (new.phases at).cells (new.changes u).cells ≡ true → ComesBefore (new.phases at) u → ⊥
      later_stays at over low shared comes =
          let c = comes_back size m r step allowed u at before shared comes (phase_from size m step allowed at low) in
          w.later at over c.low c.common c.comes

      module _ (k : ℕ) (cell : Cell) (reached : (m.phases p).reached k ≡ true) (has : has_cell (m.changes u).cells cell ≡ true) where
        covers : has_cell (m.phases p).cells cell ≡ true
        covers = ap (λ cs. has_cell cs cell) mine.cells ∙ has

        -- a transaction that settles the change copies once it is decided
        settles_not : (work : Work) (from : Option Replicas) → (q : ℕ) → (m.phases q).decides ≡ BySettles u group adopts → (t : ℕ) (run : CopyRun) → (m.txns t).work ≡ work → (m.txns t).stage ≡ Copying run → IsCopiedFrom work from (m.phases q).decides → ⊥
        settles_not Own None q decides t run work copies h = absurd (let e : NoChange ≡ BySettles u group adopts = sym h ∙ decides in cc)
        settles_not Own (Some g) q decides t run work copies h = h
        settles_not (Settles v) None q decides t run work copies h = h
        settles_not (Settles v) (Some g) q decides t run work copies h =
            let same : u ≡ v = (subst (IsSettledBy v g) decides h).0 in
            apart_bools before (settled_are_decided size m r t u run copies (work ∙ ap Settles (sym same)))

        unsent : (t : ℕ) (run : CopyRun) → (m.txns t).stage ≡ Copying run → has_cell run.cells cell ≡ true → open_grants m t k ≡ true → ⊥
        unsent t run copies of_run granted = by_order (cases_lt (m.txns t).phase p) (cases_eq (m.txns t).phase p) where
          of_phase : has_cell (phase_of m t).cells cell ≡ true
          of_phase = (runs_are_known size m r t run copies).within cell of_run

          decides_in : IsCopiedFrom (m.txns t).work run.group (phase_of m t).decides
          decides_in = subst (λ st. DecidesIn size m.changes (m.txns t).work st (phase_of m t)) copies ((decides_exactly size m r).transactions t).decides

          by_order : ((m.txns t).phase < p) ⊎ (p ≤ (m.txns t).phase) → ((m.txns t).phase ≡ p) ⊎ ((m.txns t).phase ≢ p) → ⊥
          by_order (inl less) other =
              apart_bools granted
              (overtaken_apart size m r t p k (ap is_behind copies) ((works_are_known size m r t).exclusive (ap changes_in copies))
              (record { later = less; ended = s.low; common = share_at (phase_of m t).cells (m.phases p).cells cell of_phase covers }) reached)
          by_order (inr least) (inl same) = settles_not (m.txns t).work run.group (m.txns t).phase (ap (λ q. (m.phases q).decides) same ∙ s.decides) t run refl copies decides_in
          by_order (inr least) (inr other) =
              w.later (m.txns t).phase (omega (arith, least, other)) (phases_are_known size m r t).low (share_at (phase_of m t).cells (m.changes u).cells cell of_phase has) (comes_before size m r t u run copies cell of_run before has)

        sent_not : (t : ℕ) (ask : Ask) → MayAsk size m t k ask → ClearsNot cell ask
        sent_not t (Clear cells who) may = by_case (is_or_not (has_cell cells cell)) where
          by_case : (has_cell cells cell ≡ true) ⊎ (has_cell cells cell ≡ false) → has_cell cells cell ≡ false
          by_case (inr none) = none
          by_case (inl there) = absurd (unsent t may.run may.turn (sym (ap (λ cs. has_cell cs cell) may.cells_are) ∙ there) (opens m t k (record { grant = may.next.member.grant.grant; granted = may.next.member.grant.granted; current = may.next.member.grant.still_open })))
        sent_not t other may = tt

        sent_line : (t : ℕ) (first : Bool) (ask : Ask) → MayAsk size m t k ask → EachInput (λ by a. ClearsNot cell a) (inputs_of (sender_of m t k) (asks_of first ask))
        sent_line t true ask may = (tt, (sent_not t ask may, tt))
        sent_line t false ask may = (sent_not t ask may, tt)

        taken_line : (st : Step) → Allowed size m st → (inputs : List Input) → IsTaken m st k inputs → EachInput (λ by a. ClearsNot cell a) inputs
        taken_line (Step.Asks t j first ask) h inputs taken =
            subst (EachInput (λ by a. ClearsNot cell a)) (sym (taken.1 ∙ ap (λ n. inputs_of (sender_of m t n) (asks_of first ask)) (sym taken.0))) (sent_line t first ask (subst (λ n. MayAsk size m t n ask) (sym taken.0) h.0))
        taken_line (Step.Controls j steering) h inputs taken = subst (EachInput (λ by a. ClearsNot cell a)) (sym taken.1) tt
        taken_line (Step.Connects j g) h inputs taken = subst (EachInput (λ by a. ClearsNot cell a)) (sym taken.1) tt
        taken_line (Step.Cuts j g) h inputs taken = subst (EachInput (λ by a. ClearsNot cell a)) (sym taken.1) tt
        taken_line other h inputs taken = absurd taken

        clears_stay : EachInput (λ by a. ClearsNot cell a) (new.bricks k).line
        clears_stay = move_each (IsTaken m step k) (m.bricks k) (new.bricks k) (λ by a. ClearsNot cell a) (taken_line step allowed) (w.clears k cell reached has) (bricks_move size m step allowed k)

        marked : IsMarked m u
        marked = each_is_marked size m r u mine.sent

        old : AgreesAt m u p k cell
        old = w.agrees k cell reached has

        unsent_op : Sends size m r step allowed k u → ⊥
        unsent_op sends = overtaken_unsent size m r step allowed marked.phase u k marked.one marked.low marked.decides p (old.later marked.phase marked.low marked.decides) s.low (share_at (m.phases p).cells (m.changes u).cells cell covers has) reached sends

        agrees_stays : AgreesAt new u p k cell
        agrees_stays = record {
          later = λ q low decides. let before_q = marked_back size m r step allowed q u drawn decides (phase_from size m step allowed q low) in old.later q before_q.0 before_q.1;
          copy = copy;
          line = move_each (IsTaken m step k) (m.bricks k) (new.bricks k) (λ by a. IsNoOpOf u a) (taken_no_op size m step allowed u drawn k (λ t first op is. unsent_op (record { txn = t; first = first; op = op; is = is })) step refl) old.line (bricks_move size m step allowed k);
        }
          where
            copy : ((new.phases p).rows k cell).present ≡ true → has_change (applied new k cell) u ≡ holds_last u ((new.phases p).rows k cell)
            copy present =
                let rows : (new.phases p).rows k cell ≡ (m.phases p).rows k cell = ap (λ (f : ℕ → Cell → Row). f k cell) (goes.rows p s.low) in
                copy_same size m r step allowed u k before cell has old.line (bricks_move size m step allowed k) ∙ old.copy (sym (ap (λ (x : Row). x.present) rows) ∙ present) ∙ sym (ap (holds_last u) rows)

      keeps_stays : KeepsSettling new p u
      keeps_stays = record {
        later = later_stays;
        clears = λ k cell reached has. clears_stay k cell (was_reached k reached) (had cell has);
        agrees = λ k cell reached has. agrees_stays k cell (was_reached k reached) (had cell has);
      }
        where
          was_reached : (k : ℕ) → (new.phases p).reached k ≡ true → (m.phases p).reached k ≡ true
          was_reached k h = sym (ap (λ (f : Replicas). f k) (goes.reached p s.low)) ∙ h

          had : (cell : Cell) → has_cell (new.changes u).cells cell ≡ true → has_cell (m.changes u).cells cell ≡ true
          had cell has = sym (ap (λ cs. has_cell cs cell) same_cells) ∙ has

    pub did_stands : StandsSettling size new p u group adopts
    did_stands = record {
      group_is = group_stays;
      marked = λ q low decides. let before_q = marked_back size m r step allowed q u mine.drawn decides (phase_from size m step allowed q low) in was.marked q before_q.0 before_q.1;
      unsettled = λ u_is. keeps_stays (unsettled_then (unsettled_from size m r step allowed u u_is));
    }

  stands_after : ((p u : ℕ) (group : Replicas) (adopts : Bool) → IsSettling m p u group adopts → StandsSettling size m p u group adopts) → (p u : ℕ) (group : Replicas) (adopts : Bool) → SettlingFrom p u group adopts → StandsSettling size new p u group adopts
  stands_after was p u group adopts (Did s) = did_stands p u group adopts s (was p u group adopts s)
  stands_after was p u group adopts (Begins t step_is h at_change at) = begun_stands t p u group adopts step_is h at_change at

pub settlings_stand : EverySettlingStands
settlings_stand size m IsReached.Start = λ p u group adopts s. absurd (let e : NoChange ≡ BySettles u group adopts = s.decides in cc)
settlings_stand size m (IsReached.Further old step reached allowed) = λ p u group adopts s.
    stands_after size old reached step allowed (settlings_stand size old reached) p u group adopts (settling_from size old reached step allowed p u group adopts s)
