-- A copy that a transaction fetched or put in place stays through a step, while it uses the brick.
use Rattle.std.proofs.Common.{◌≡◌, ◌∙◌, ℕ, ◌≤◌, ◌<◌, true, false, refl, sym, ap, subst, ◌⊎◌, inl, inr, arith, Option, Some, None}
use Rattle.std.specs.Prelude.{List, ◌∷◌, not, is_some}
use Rattle.std.proofs.lemmas.Bool.{cases_lt}
use Rattle.fop_types.specs.declared.cells.Cell.{Cell}
use Rattle.afr_machine.specs.Replicas.{Size, Replicas}
use Rattle.afr_machine.specs.Touching.{is_cell, has_cell}
use Rattle.afr_machine.specs.Copies.{Fetched}
use Rattle.afr_machine.specs.Requests.{Sender, Ask, Input}
use Rattle.afr_machine.specs.Requests.Ask.{Op, Replace}
use Rattle.afr_machine.specs.Requests.Input.{Asked}
use Rattle.afr_machine.specs.Bricks.{stored_by}
use Rattle.afr_machine.specs.Transactions.{CopyRun, Stage, Txn}
use Rattle.afr_machine.specs.Transactions.Work.{Own, Settles}
use Rattle.afr_machine.specs.Transactions.Stage.{Copying}
use Rattle.afr_machine.specs.States.{State, is_current, phase_of}
use Rattle.afr_machine.specs.Births.{cells_of_work}
use Rattle.afr_machine.specs.Turns.{IsSource, IsSink, open_grants}
use Rattle.afr_machine.specs.Steps.{Step, Allowed, after, IsReached}
use Rattle.afr_machine.specs.Moves.{IsTaken}
use Rattle.afr_machine.proofs.BrickMoves.{bricks_move}
use Rattle.afr_laws.specs.Senders.{EachInput}
use Rattle.afr_laws.specs.Asking.{IsAskedBy}
use Rattle.afr_laws.specs.Fresh.{is_behind}
use Rattle.afr_laws.specs.Work.{OnRun, AreCellsOf}
use Rattle.afr_laws.proofs.Bools.{apart_bools, is_or_not, or_left, or_right}
use Rattle.afr_laws.proofs.Sharing.{cells_are}
use Rattle.afr_laws.proofs.Flying.{on_their_way}
use Rattle.afr_laws.proofs.Waiting.{waits_fit}
use Rattle.afr_laws.proofs.Grants.{grants_are_held}
use Rattle.afr_laws.proofs.Work.Known.{works_are_known}
use Rattle.afr_laws.proofs.Overtaken.Behind.{BehindFrom, behind_from}
use Rattle.afr_laws.proofs.Overtaken.Behind.BehindFrom.{NotNow, Ends, Same}
use Rattle.afr_laws.proofs.Overtaken.Steps.{HasOpen, has_open, opens}
use Rattle.afr_laws.proofs.Standing.Steps.{links_back}
use Rattle.afr_laws.proofs.Fresh.Known.{phases_are_known}
use Rattle.afr_soundness.specs.Runs.{KnowsRun}
use Rattle.afr_soundness.specs.Copied.{copy_in, copy_at, is_copying, Uses}
use Rattle.afr_soundness.proofs.TxnMoves.{TxnMove, txn_moves}
use Rattle.afr_soundness.proofs.States.{phase_stays}
use Rattle.afr_soundness.proofs.Runs.{runs_are_known}
use Rattle.afr_soundness.proofs.Copied.Stores.{recopies, stored_keeps, stored_puts, move_copy}
use Rattle.afr_soundness.proofs.Copied.Lines.{recopied_by_own}

pub copies_behind_it : (stage : Stage) → is_copying stage ≡ true → is_behind stage ≡ true
copies_behind_it (Copying run) h = refl
copies_behind_it other h = absurd (let e : false ≡ true = h in cc)

-- a source is no sink
pub sources_apart : (size : Size) (m : State) → IsReached size m → (t : ℕ) (run : CopyRun) → (m.txns t).stage ≡ Copying run → (k : ℕ) → run.sources k ≡ true → run.sinks k ≡ true → ⊥
sources_apart size m r t run is k source sink = by_group run.group (known.sources_are k source).source (known.sinks_are k sink).sink where
  known : KnowsRun size (phase_of m t) (m.txns t).job run
  known = runs_are_known size m r t run is

  by_group : (group : Option Replicas) → IsSource size (phase_of m t) run.cells group k → IsSink size (phase_of m t) run.cells group k → ⊥
  by_group None s n = n known.cell known.cell_in (s known.cell known.cell_in)
  by_group (Some group) s n = apart_bools s.0 n

module _ (size : Size) (m : State) (r : IsReached size m) (step : Step) (allowed : Allowed size m step) (t : ℕ) where
  abbrev new : State
  new = after size m step

  -- who is out stays out
  pub out_back : t ≤ m.begun → (k : ℕ) → (new.txns t).out k ≡ false → (m.txns t).out k ≡ false
  out_back begun k used = by_move (txn_moves size m step allowed t) where
    kept : (y : Txn) → new.txns t ≡ y → ((m.txns t).out k ≡ true → y.out k ≡ true) → (m.txns t).out k ≡ false
    kept y is more = by_case (is_or_not ((m.txns t).out k)) where
      by_case : ((m.txns t).out k ≡ true) ⊎ ((m.txns t).out k ≡ false) → (m.txns t).out k ≡ false
      by_case (inl gone) = apart_bools (ap (λ (z : Txn). z.out k) is ∙ more gone) used
      by_case (inr there) = there

    by_move : TxnMove size m step t (new.txns t) → (m.txns t).out k ≡ false
    by_move (TxnMove.Goes none g) = kept (new.txns t) refl (g.out k)
    by_move (TxnMove.Begins graph own step_is at is) = absurd (omega (arith, at, begun))
    by_move (TxnMove.Locks Own step_is h is) = kept _ is (λ o. o)
    by_move (TxnMove.Locks (Settles u) step_is h is) = kept _ is (λ o. o)
    by_move (TxnMove.Reaches step_is h is) = kept _ is (λ o. or_left ((m.txns t).out k) (not (open_grants m t k)) o)
    by_move (TxnMove.Marks step_is h is) = kept _ is (λ o. o)
    by_move (TxnMove.Unsettles step_is h is) = kept _ is (λ o. o)
    by_move (TxnMove.Posts step_is h is) = kept _ is (λ o. o)
    by_move (TxnMove.SettlesAs group adopts step_is h is) = kept _ is (λ o. o)
    by_move (TxnMove.Bears step_is h is) = kept _ is (λ o. o)
    by_move (TxnMove.Copies run step_is h is) = kept _ is (λ o. o)
    by_move (TxnMove.Clears step_is h is) = kept _ is (λ o. o)
    by_move (TxnMove.Polls step_is h is) = kept _ is (λ o. o)
    by_move (TxnMove.Unlocks step_is h is) = kept _ is (λ o. o)
    by_move (TxnMove.Rests step_is h is) = kept _ is (λ o. or_left ((m.txns t).out k) (is_some ((m.txns t).grants k)) o)
    by_move (TxnMove.Ends step_is h is) = kept _ is (λ o. o)

  -- a transaction behind its lock phase has no grant more
  granted_back : (k : ℕ) → is_behind (m.txns t).stage ≡ true → is_behind (new.txns t).stage ≡ true → open_grants new t k ≡ true → open_grants m t k ≡ true
  granted_back k was_behind behind granted = by_case (behind_from size m (on_their_way size m r) (waits_fit size m r) step allowed t) where
    o : HasOpen (after size m step) t k
    o = has_open new t k granted

    by_case : BehindFrom m t (new.txns t) → open_grants m t k ≡ true
    by_case (NotNow none) = apart_bools behind none
    by_case (Ends now) = absurd (omega (arith, now, phase_stays size m r step allowed t was_behind, (phases_are_known size m r t).low))
    by_case (Same h phase graph grants) =
        let is = grants k o.grant o.granted in
        opens m t k (record {
          grant = o.grant;
          granted = is;
          current = links_back size m step allowed k (m.txns t).graph o.grant.connection ((grants_are_held size m r).handed t k o.grant is).numbered (subst (λ g. is_current (new.links k g) o.grant.connection ≡ true) graph o.current);
        })

  pub begun_behind : is_behind (m.txns t).stage ≡ true → t ≤ m.begun
  begun_behind behind = by_order (cases_lt m.begun t) where
    by_order : (m.begun < t) ⊎ (t ≤ m.begun) → t ≤ m.begun
    by_order (inl later) = apart_bools behind (ap is_behind ((on_their_way size m r).unbegun t later))
    by_order (inr low) = low

  module _ (run : CopyRun) (is : (m.txns t).stage ≡ Copying run) (k : ℕ) where
    copied_behind_it : is_behind (m.txns t).stage ≡ true
    copied_behind_it = ap is_behind is

    pub uses_back : Uses new t k → Uses m t k
    uses_back u = record { copying = ap is_copying is; not_out = out_back (begun_behind copied_behind_it) k u.not_out; granted = granted_back k copied_behind_it (copies_behind_it (new.txns t).stage u.copying) u.granted }

    module _ (cell : Cell) (of_run : has_cell run.cells cell ≡ true) (found : Fetched) (replaces : (other : Fetched) → run.sinks k ≡ true → run.fetched cell ≡ Some other → other ≡ found) where
      covers : has_cell (cells_of_work m.changes (m.txns t) (m.txns t).work) cell ≡ true
      covers = (subst (OnRun (AreCellsOf (cells_of_work m.changes (m.txns t) (m.txns t).work))) is (works_are_known size m r t).copies) cell of_run

      -- of what its stage asks for, a replacement alone changes the copy
      asked_puts : (ask : Ask) → recopies ask cell ≡ true → IsAskedBy size m.changes (m.txns t).job (Copying run) k ask → copy_in (stored_by ask (m.bricks k).store) cell ≡ Some found
      asked_puts (Op u op) h (inl applies) = absurd (let e : Copying run ≡ Stage.Applying u = applies.0 in cc)
      asked_puts (Op u op) h (inr bears) = absurd (let e : Copying run ≡ Stage.Bearing = bears.0 in cc)
      asked_puts (Replace other new_copy) h asks =
          let same : cell ≡ other = cells_are cell other (sym (or_right (is_cell cell other)) ∙ h) in
          stored_puts (m.bricks k).store other cell new_copy h ∙ ap Some (replaces new_copy asks.1.1.0 (ap run.fetched same ∙ asks.1.1.1))
      asked_puts other h asks = absurd (let e : false ≡ true = h in cc)

      pub copy_follows : Uses m t k → copy_at m k cell ≡ Some found → copy_at new k cell ≡ Some found
      copy_follows u h = move_copy (IsTaken m step k) (m.bricks k) (new.bricks k) cell found served h (bricks_move size m step allowed k) where
        line : EachInput (λ by ask. recopies ask cell ≡ true → IsAskedBy size m.changes (m.txns t).job (m.txns t).stage k ask) (m.bricks k).line
        line = recopied_by_own size m r t k u.not_out copied_behind_it u.granted cell covers

        served : (by : Sender) (ask : Ask) (rest : List Input) → (m.bricks k).line ≡ Asked by ask ∷ rest → copy_in (stored_by ask (m.bricks k).store) cell ≡ Some found
        served by ask rest front = by_case (is_or_not (recopies ask cell)) where
          by_case : (recopies ask cell ≡ true) ⊎ (recopies ask cell ≡ false) → copy_in (stored_by ask (m.bricks k).store) cell ≡ Some found
          by_case (inl some) = asked_puts ask some (subst (λ s. IsAskedBy size m.changes (m.txns t).job s k ask) is ((subst (EachInput (λ by ask. recopies ask cell ≡ true → IsAskedBy size m.changes (m.txns t).job (m.txns t).stage k ask)) front line).0 some))
          by_case (inr none) = stored_keeps (m.bricks k).store cell found ask none h
