-- What an earlier lock phase knows of copies is shown to every later one, over every list of steps.
use Rattle.std.proofs.Common.{◌≡◌, ◌∙◌, ℕ, ◌≤◌, ◌<◌, Bool, true, false, refl, sym, ap, subst, ◌⊎◌, inl, inr, arith, Option, Some, None}
use Rattle.std.specs.Prelude.{List, ◌++◌, ◌≢◌}
use Rattle.std.proofs.lemmas.Bool.{cases_eq, eq-eqb}
use Rattle.fop_types.specs.declared.cells.Cell.{Cell}
use Rattle.fop_types.specs.declared.contents.Row.{Row}
use Rattle.afr_machine.specs.Replicas.{Replicas, Size, with_at}
use Rattle.afr_machine.specs.Touching.{has_cell}
use Rattle.afr_machine.specs.Copies.{rows_of}
use Rattle.afr_machine.specs.Requests.{Ask, Answer}
use Rattle.afr_machine.specs.Requests.Ask.{Lock}
use Rattle.afr_machine.specs.Requests.Answer.{Rows}
use Rattle.afr_machine.specs.Locks.{BrickLock}
use Rattle.afr_machine.specs.Phases.{Phase}
use Rattle.afr_machine.specs.Transactions.{Grant, Stage}
use Rattle.afr_machine.specs.Births.{cells_of_work}
use Rattle.afr_machine.specs.States.{State, is_current}
use Rattle.afr_machine.specs.Turns.{MayReach, cells_locked, phase_reached, rows_granted}
use Rattle.afr_machine.specs.Steps.{Step, Allowed, after, IsReached}
use Rattle.afr_machine.proofs.Tables.{at_same, at_other}
use Rattle.afr_laws.specs.Apart.{Holds}
use Rattle.afr_laws.specs.Apart.IsGranted.{HandedIn, OnItsWay}
use Rattle.afr_laws.specs.Flights.{is_mine, in_outputs, in_locks, in_line, any_lock}
use Rattle.afr_laws.specs.Fresh.{AsksFor}
use Rattle.afr_laws.specs.Grants.{lock_of, is_unlocking}
use Rattle.afr_laws.specs.Numbered.{IsNumbered}
use Rattle.afr_laws.specs.Standing.{is_gathering, IsShowing}
use Rattle.afr_laws.proofs.Apart.Back.{granting_in}
use Rattle.afr_laws.proofs.Bools.{apart_bools, both}
use Rattle.afr_laws.proofs.Flying.{on_their_way}
use Rattle.afr_laws.proofs.Fresh.Known.{phases_are_known}
use Rattle.afr_laws.proofs.Fresh.Phased.{PhasesGo}
use Rattle.afr_laws.proofs.Fresh.Steps.{step_phases}
use Rattle.afr_laws.proofs.Grants.{grants_are_held}
use Rattle.afr_laws.proofs.Overtaken.Steps.{HasOpen, has_open, PhaseFrom, phase_from}
use Rattle.afr_laws.proofs.Overtaken.Steps.PhaseFrom.{Old, Now}
use Rattle.afr_laws.proofs.Stages.{GrantsGo}
use Rattle.afr_laws.proofs.Stages.GrantsGo.{SameGrants, Granted, Released}
use Rattle.afr_laws.proofs.Standing.Gathers.{GathersFrom, gathers_from}
use Rattle.afr_laws.proofs.Standing.Steps.{links_back}
use Rattle.afr_laws.proofs.Standing.Stores.{showing_grants}
use Rattle.afr_laws.proofs.Unlocks.{lock_left, granted_flies, granted_sender}
use Rattle.afr_laws.proofs.Work.Known.{works_are_known}
use Rattle.afr_soundness.specs.Replaced.{HasCopy}
use Rattle.afr_soundness.proofs.Replaced.Steps.{replaced_have_copies}
use Rattle.afr_contents.specs.Earlier.{KnowsCopy, Knows, ShowsKnown, EveryKnownIsShown}
use Rattle.afr_contents.specs.Earlier.KnowsCopy.{Saw, Copied, Cleared}
use Rattle.afr_contents.proofs.Learned.{KnowsFrom, learned_alone, knows_from}
use Rattle.afr_contents.proofs.Learned.KnowsFrom.{Knew, Learns}
use Rattle.afr_contents.proofs.Present.{keeps_present}
use Rattle.afr_laws.proofs.Standing.Steps.{shown_back}

-- the copy is there
knows_has : (size : Size) (m : State) → IsReached size m → (q k : ℕ) (cell : Cell) → Knows m q k cell → HasCopy m k cell
knows_has size m r q k cell h = by_copy h.copy where
  by_copy : KnowsCopy m q k cell → HasCopy m k cell
  by_copy (Saw reached present) = (keeps_present size m r).seen q k cell h.one h.low h.covers reached present
  by_copy (Copied t run phase copies replaced) = (replaced_have_copies size m r).runs t run copies k cell replaced
  by_copy (Cleared j c) = (replaced_have_copies size m r).cleared q k j cell h.one h.low c

gathers_on : (stage : Stage) → is_gathering stage ≡ true → is_unlocking stage ≡ false
gathers_on (Stage.Locking cells shared next) h = refl
gathers_on Stage.Locked h = refl
gathers_on other h = absurd (let no : false ≡ true = h in cc)

-- a grant on its way is of a lock that is still asked
module _ (size : Size) (m : State) (r : IsReached size m) (k : ℕ) (lock : BrickLock) (rows : Cell → Row) (shown : IsShowing lock rows (m.bricks k).outputs) where
  sender : (ask : Ask) × IsNumbered m k lock.by ask
  sender = granted_sender (IsNumbered m k) lock (m.bricks k).outputs ((on_their_way size m r).numbered k).outputs (granting_in lock (m.bricks k).outputs (showing_grants lock rows (m.bricks k).outputs shown))

  lock_flies : is_current (m.links k lock.by.graph) lock.by.connection ≡ true → any_lock ((m.txns lock.by.txn).flying k) ≡ true
  lock_flies current =
      ap any_lock (sym ((on_their_way size m r).known lock.by.txn k))
      ∙ lock_left (in_outputs (is_mine lock.by.txn (m.links k (m.txns lock.by.txn).graph)) (m.bricks k).outputs)
      (in_locks (is_mine lock.by.txn (m.links k (m.txns lock.by.txn).graph)) (m.bricks k).waiting ++ in_line (is_mine lock.by.txn (m.links k (m.txns lock.by.txn).graph)) (m.bricks k).line)
      (granted_flies (is_mine lock.by.txn (m.links k (m.txns lock.by.txn).graph)) lock own (m.bricks k).outputs (granting_in lock (m.bricks k).outputs (showing_grants lock rows (m.bricks k).outputs shown)))
    where
      own : is_mine lock.by.txn (m.links k (m.txns lock.by.txn).graph) lock.by ≡ true
      own = both _ _ (eq-eqb lock.by.txn lock.by.txn refl) (subst (λ g. is_current (m.links k g) lock.by.connection ≡ true) sender.1.graph current)

-- ---- grants of before the step

module _ (size : Size) (m : State) (r : IsReached size m) (was : ShowsKnown m) (q k : ℕ) (cell : Cell) (from : KnowsFrom m q k cell) where
  coming_old : (lock : BrickLock) (rows : Cell → Row) → IsShowing lock rows (m.bricks k).outputs → is_current (m.links k lock.by.graph) lock.by.connection ≡ true → has_cell lock.cells cell ≡ true → (rows cell).present ≡ true
  coming_old lock rows shown current has = by_case from where
    by_case : KnowsFrom m q k cell → (rows cell).present ≡ true
    by_case (Knew known) = was.coming k lock rows shown current q cell has known
    by_case (Learns x) = absurd (by_txn (cases_eq x.txn lock.by.txn)) where
      by_txn : (x.txn ≡ lock.by.txn) ⊎ (x.txn ≢ lock.by.txn) → ⊥
      by_txn (inl same) = apart_bools (lock_flies size m r k lock rows shown current) (sym (ap (λ n. any_lock ((m.txns n).flying k)) same) ∙ x.calm)
      by_txn (inr other) = learned_alone size m r q k cell x lock (OnItsWay (showing_grants lock rows (m.bricks k).outputs shown) current) other has

  handed_old : (t : ℕ) (grant : Grant) → Holds m t k grant → is_gathering (m.txns t).stage ≡ true → has_cell grant.cells cell ≡ true → (grant.rows cell).present ≡ true
  handed_old t grant h gathering has = by_case from where
    by_case : KnowsFrom m q k cell → (grant.rows cell).present ≡ true
    by_case (Knew known) = was.handed t k grant h gathering q cell has known
    by_case (Learns x) = by_txn (cases_eq x.txn t) where
      by_txn : (x.txn ≡ t) ⊎ (x.txn ≢ t) → (grant.rows cell).present ≡ true
      by_txn (inl same) = x.own grant (ap (λ n. (m.txns n).grants k) same ∙ h.granted) (ap (λ n. is_gathering (m.txns n).stage) same ∙ gathering)
      by_txn (inr other) = absurd (learned_alone size m r q k cell x (lock_of t (m.txns t).graph grant) (HandedIn t grant h refl) other has)

-- ---- one step

module _ (size : Size) (m : State) (r : IsReached size m) (was : ShowsKnown m) (step : Step) (allowed : Allowed size m step) where
  abbrev new : State
  new = after size m step

  goes : PhasesGo m.ended m.phases (after size m step).phases
  goes = step_phases size m step

  module _ (q k : ℕ) (cell : Cell) (known : Knows new q k cell) where
    from : KnowsFrom m q k cell
    from = knows_from size m r step allowed q k cell known

    coming : (lock : BrickLock) (rows : Cell → Row) → IsShowing lock rows (new.bricks k).outputs → is_current (new.links k lock.by.graph) lock.by.connection ≡ true → has_cell lock.cells cell ≡ true → (rows cell).present ≡ true
    coming lock rows h current has = by_case (shown_back size m k lock rows step allowed h current) where
      by_case : IsShowing lock rows (m.bricks k).outputs ⊎ (rows ≡ rows_of (new.bricks k).store) → (rows cell).present ≡ true
      by_case (inl shown) =
          coming_old size m r was q k cell from lock rows shown (links_back size m step allowed k lock.by.graph lock.by.connection (sender size m r k lock rows shown).1.connection current) has
      by_case (inr now) = ap (λ (f : Cell → Row). (f cell).present) now ∙ knows_has size new (IsReached.Further m step r allowed) q k cell known

    -- ---- a grant that is handed in

    kept : (t : ℕ) (grant : Grant) → (m.txns t).grants k ≡ Some grant → is_gathering (m.txns t).stage ≡ true → (new.txns t).graph ≡ (m.txns t).graph → Holds new t k grant → has_cell grant.cells cell ≡ true → (grant.rows cell).present ≡ true
    kept t grant is gathering graph h has = handed_old size m r was q k cell from t grant holds gathering has where
      holds : Holds m t k grant
      holds = record {
        granted = is;
        still_open = links_back size m step allowed k (m.txns t).graph grant.connection ((grants_are_held size m r).handed t k grant is).numbered (subst (λ n. is_current (new.links k n) grant.connection ≡ true) graph h.still_open);
        holding = gathers_on (m.txns t).stage gathering;
      }

    module _ (t j connection : ℕ) (gathering : is_gathering (m.txns t).stage ≡ true) (graph : (new.txns t).graph ≡ (m.txns t).graph) where
      abbrev given : Bool → List Cell → (Cell → Row) → Grant
      given shared cells rows = record { connection = connection; shared = shared; cells = cells; rows = rows }

      heard : (ask : Ask) (answer : Answer) → GrantsGo (m.txns t) (new.txns t) j connection ask answer →
          ((shared : Bool) (cells : List Cell) (rows : Cell → Row) → ask ≡ Lock shared cells → answer ≡ Rows rows → IsShowing (lock_of t (new.txns t).graph (given shared cells rows)) rows (m.bricks j).outputs × (is_current (m.links j (new.txns t).graph) connection ≡ true)) →
          (grant : Grant) → Holds new t k grant → has_cell grant.cells cell ≡ true → (grant.rows cell).present ≡ true
      heard ask answer (SameGrants same) shows grant h has = kept t grant (sym (ap (λ (f : ℕ → Option Grant). f k) same) ∙ h.granted) gathering graph h has
      heard ask answer (Granted shared cells rows is_lock is_rows grants stage) shows grant h has = by_brick (cases_eq k j) where
        granted : with_at (m.txns t).grants j (Some (given shared cells rows)) k ≡ Some grant
        granted = sym (ap (λ (f : ℕ → Option Grant). f k) grants) ∙ h.granted

        by_brick : (k ≡ j) ⊎ (k ≢ j) → (grant.rows cell).present ≡ true
        by_brick (inr other) = kept t grant (sym (at_other (m.txns t).grants j (Some (given shared cells rows)) k other) ∙ granted) gathering graph h has
        by_brick (inl here) =
            let now : Some (given shared cells rows) ≡ Some grant = sym (ap (with_at (m.txns t).grants j (Some (given shared cells rows))) here ∙ at_same (m.txns t).grants j (Some (given shared cells rows))) ∙ granted in
            let is : given shared cells rows ≡ grant = cc in
            let s = shows shared cells rows is_lock is_rows in
            ap (λ (g : Grant). (g.rows cell).present) (sym is)
            ∙ coming_old size m r was q k cell from (lock_of t (new.txns t).graph (given shared cells rows)) rows
            (subst (λ n. IsShowing (lock_of t (new.txns t).graph (given shared cells rows)) rows (m.bricks n).outputs) (sym here) s.0)
            (subst (λ n. is_current (m.links n (new.txns t).graph) connection ≡ true) (sym here) s.1) (ap (λ (g : Grant). has_cell g.cells cell) is ∙ has)
      heard ask answer (Released is_unlock grants) shows grant h has = by_brick (cases_eq k j) where
        granted : with_at (m.txns t).grants j None k ≡ Some grant
        granted = sym (ap (λ (f : ℕ → Option Grant). f k) grants) ∙ h.granted

        by_brick : (k ≡ j) ⊎ (k ≢ j) → (grant.rows cell).present ≡ true
        by_brick (inr other) = kept t grant (sym (at_other (m.txns t).grants j None k other) ∙ granted) gathering graph h has
        by_brick (inl here) = absurd (let no : None ≡ Some grant = sym (ap (with_at (m.txns t).grants j None) here ∙ at_same (m.txns t).grants j None) ∙ granted in cc)

    handed : (t : ℕ) (grant : Grant) → Holds new t k grant → is_gathering (new.txns t).stage ≡ true → has_cell grant.cells cell ≡ true → GathersFrom m t (new.txns t) → (grant.rows cell).present ≡ true
    handed t grant h gathering has (GathersFrom.NotNow not_gathering) = apart_bools gathering not_gathering
    handed t grant h gathering has (GathersFrom.Empty none) = absurd (let no : None ≡ Some grant = sym (none k) ∙ h.granted in cc)
    handed t grant h gathering has (GathersFrom.Same grants gathers graph) = kept t grant (sym (ap (λ (f : ℕ → Option Grant). f k) grants) ∙ h.granted) (gathers gathering) graph h has
    handed t grant h gathering has (GathersFrom.Hears j connection ask answer goes_on gathers graph shows) = heard t j connection (gathers gathering) graph ask answer goes_on shows grant h has

    -- ---- a later lock phase

    module _ (p : ℕ) (after_it : q < p) (covers : has_cell (new.phases p).cells cell ≡ true) (reached : (new.phases p).reached k ≡ true) where
      was_later : (low : p ≤ m.ended) → KnowsFrom m q k cell → ((m.phases p).rows k cell).present ≡ true
      was_later low (Knew knew) = was.ended p q k cell low after_it (sym (ap (λ cs. has_cell cs cell) (goes.cells p low)) ∙ covers) (sym (ap (λ (f : Replicas). f k) (goes.reached p low)) ∙ reached) knew
      was_later low (Learns x) = absurd (x.later p after_it low (sym (ap (λ cs. has_cell cs cell) (goes.cells p low)) ∙ covers) (sym (ap (λ (f : Replicas). f k) (goes.reached p low)) ∙ reached))

      ends_now : (t : ℕ) (may : MayReach size m t) → new.phases p ≡ phase_reached m t → ((new.phases p).rows k cell).present ≡ true
      ends_now t may is = ap (λ (x : Phase). (x.rows k cell).present) is ∙ ap (λ g. (rows_granted g cell).present) o.granted
          ∙ handed_old size m r was q k cell from t o.grant (record { granted = o.granted; still_open = o.current; holding = ap is_unlocking may.turn }) (ap is_gathering may.turn) (ap (λ cs. has_cell cs cell) over ∙ has)
        where
          o : HasOpen m t k
          o = has_open m t k (sym (ap (λ (x : Phase). x.reached k) is) ∙ reached)

          over : o.grant.cells ≡ cells_locked (m.txns t).stage
          over =
              ((works_are_known size m r t).grants k o.grant o.granted).over
              ∙ sym (subst (λ s. AsksFor s (cells_of_work m.changes (m.txns t) (m.txns t).work)) may.turn (phases_are_known size m r t).asks)
              ∙ sym (ap cells_locked may.turn)

          has : has_cell (cells_locked (m.txns t).stage) cell ≡ true
          has = sym (ap (λ (x : Phase). has_cell x.cells cell) is) ∙ covers

      ended : PhaseFrom size m new p → ((new.phases p).rows k cell).present ≡ true
      ended (Old low) = ap (λ (f : ℕ → Cell → Row). (f k cell).present) (goes.rows p low) ∙ was_later low from
      ended (Now t may at is bricks) = ends_now t may is

  step_shows : ShowsKnown (after size m step)
  step_shows = record {
    coming = λ k lock rows shown current q cell has known. coming q k cell known lock rows shown current has;
    handed = λ t k grant h gathering q cell has known. handed q k cell known t grant h gathering has (gathers_from size m (on_their_way size m r).numbered (grants_are_held size m r) step allowed t);
    ended = λ p q k cell low after_it covers reached known. ended q k cell known p after_it covers reached (phase_from size m step allowed p low);
  }

-- ---- every list of steps

pub known_is_shown : EveryKnownIsShown
known_is_shown size m IsReached.Start = record {
  coming = λ k lock rows shown current q cell has known. absurd shown;
  handed = λ t k grant h gathering q cell has known. absurd (let no : None ≡ Some grant = h.granted in cc);
  ended = λ p q k cell low after_it covers reached known. absurd (omega (arith, after_it, low));
}
known_is_shown size m (IsReached.Further old step reached allowed) = step_shows size old reached (known_is_shown size old reached) step allowed
