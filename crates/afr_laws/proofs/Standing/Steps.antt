-- The rows that a grant showed stand, over every list of steps.
use Rattle.std.proofs.Common.{◌≡◌, ◌∙◌, ℕ, ◌+◌, ◌≤◌, Bool, true, false, refl, sym, ap, subst, ◌⊎◌, inl, inr, arith, Option, Some, None}
use Rattle.std.specs.Prelude.{if◌then◌else◌, List, ◌∷◌, ◌≢◌, ◌==◌}
use Rattle.std.proofs.lemmas.Bool.{cases_eq, eqb-true}
use Rattle.fop_types.specs.declared.cells.Cell.{Cell}
use Rattle.fop_types.specs.declared.contents.Row.{Row}
use Rattle.afr_machine.specs.Replicas.{Size, with_at}
use Rattle.afr_machine.specs.Copies.{rows_of}
use Rattle.afr_machine.specs.Requests.{Ask, Answer, Input, Output}
use Rattle.afr_machine.specs.Requests.Ask.{Lock}
use Rattle.afr_machine.specs.Requests.Answer.{Rows, Gone}
use Rattle.afr_machine.specs.Requests.Output.{Answered, Closed, Opened, Connected}
use Rattle.afr_machine.specs.Locks.{BrickLock}
use Rattle.afr_machine.specs.Bricks.{Brick, popped, without_front, served_by, steered}
use Rattle.afr_machine.specs.Transactions.{Stage, Grant}
use Rattle.afr_machine.specs.Transactions.Stage.{Locking, Locked, Marking}
use Rattle.afr_machine.specs.States.{State, Link, is_current}
use Rattle.afr_machine.specs.Answering.{without_output, without_first_output, without_links, closed, replied, taken_in}
use Rattle.afr_machine.specs.Steps.{Step, Allowed, after, IsReached, served_front, refused_front, given_up_front, steered_front, take_in_front, unsettling, decided_by}
use Rattle.afr_machine.specs.Moves.{IsTaken}
use Rattle.afr_machine.proofs.Tables.{at_same, at_other}
use Rattle.afr_machine.proofs.Keeping.{replied_beside}
use Rattle.afr_machine.proofs.BrickMoves.{bricks_move, turn_bricks, decided_bricks}
use Rattle.afr_laws.specs.Numbered.{IsNumbered}
use Rattle.afr_laws.specs.Grants.{lock_of, is_unlocking}
use Rattle.afr_laws.specs.Apart.{Holds, IsGranted}
use Rattle.afr_laws.specs.Apart.IsGranted.{HandedIn, OnItsWay}
use Rattle.afr_laws.specs.Standing.{is_gathering, IsShowing, ShowsStill, RowsStand, EveryRowStands}
use Rattle.afr_laws.proofs.Bools.{both_left, apart_bools}
use Rattle.afr_laws.proofs.Carry.{at_case}
use Rattle.afr_laws.proofs.Goes.{turn_links, decided_links}
use Rattle.afr_laws.proofs.Stages.{GrantsGo}
use Rattle.afr_laws.proofs.Stages.GrantsGo.{SameGrants, Granted, Released}
use Rattle.afr_laws.proofs.Flying.{on_their_way}
use Rattle.afr_laws.proofs.Unlocks.{granted_sender}
use Rattle.afr_laws.proofs.ConnectsFirst.{front_link, ended_link, connects_come_first}
use Rattle.afr_laws.proofs.Holding.{gone_grants_none}
use Rattle.afr_laws.proofs.Grants.{refusal_grants_none, grants_are_held}
use Rattle.afr_laws.proofs.Apart.Back.{LinksBack, granting_in}
use Rattle.afr_laws.proofs.Apart.Steps.{open_before}
use Rattle.afr_laws.proofs.Covered.Granted.{grants_stand}
use Rattle.afr_laws.proofs.Copies.Served.{served_store, steered_store}
use Rattle.afr_laws.proofs.Standing.Alone.{granted_alone}
use Rattle.afr_laws.proofs.Standing.Calm.{gathering_is_calm}
use Rattle.afr_laws.proofs.Standing.Own.{coming_calm, handed_calm}
use Rattle.afr_laws.proofs.Standing.Stores.{same_row, ShownBack, showing_grants, answering_shown, served_shown, steered_shown}
use Rattle.afr_laws.proofs.Standing.Rows.{move_shows, front_spares}
use Rattle.afr_laws.proofs.Standing.Gathers.{GathersFrom, gathers_from}
use Rattle.afr_laws.proofs.Standing.Gathers.GathersFrom.{NotNow, Empty, Same, Hears}

-- ---- connections that are open now were open

unsettling_links : (m : State) (t : ℕ) (stage : Stage) → (unsettling m t stage).links ≡ m.links
unsettling_links m t (Marking u) = refl
unsettling_links m t other = refl

unsettling_bricks : (m : State) (t : ℕ) (stage : Stage) → (unsettling m t stage).bricks ≡ m.bricks
unsettling_bricks m t (Marking u) = refl
unsettling_bricks m t other = refl

module _ (size : Size) (m : State) where
  same_links : (new : State) → new.links ≡ m.links → LinksBack m new
  same_links new is k g c low current = sym (ap (λ (f : ℕ → ℕ → Link). is_current (f k g) c) is) ∙ current

  pub links_back : (step : Step) → Allowed size m step → LinksBack m (after size m step)
  links_back (Step.Turns t turn) h = same_links (after size m (Step.Turns t turn)) (turn_links m size t turn)
  links_back (Step.HandsIn k) h = λ j g c low current. open_before (m.links j g) _ (front_link (without_first_output m k) k (m.bricks k).outputs j g) c current
  links_back (Step.Cuts k h1) h = λ j g c low current. open_before (m.links j g) _ (ended_link m k (λ other. other == h1) j g) c current
  links_back (Step.Connects k h1) h = λ j g c.
      at_case (λ n (f : ℕ → Link). c ≤ (m.links n g).last → is_current (f g) c ≡ true → is_current (m.links n g) c ≡ true) m.links k (with_at (m.links k) h1 (record { last = (m.links k h1).last + 1; is_open = true }))
      (at_case (λ i (x : Link). c ≤ (m.links k i).last → is_current x c ≡ true → is_current (m.links k i) c ≡ true) (m.links k) h1 (record { last = (m.links k h1).last + 1; is_open = true })
      (λ low current. absurd (omega (arith, low, eqb-true c ((m.links k h1).last + 1) current))) g (λ ne low current. current))
      j (λ ne low current. current)
  links_back (Step.Unsettles t) h = same_links (after size m (Step.Unsettles t)) (unsettling_links m t (m.txns t).stage)
  links_back (Step.Decides t) h = same_links (after size m (Step.Decides t)) (decided_links m (decided_by (m.txns t).stage))
  links_back other h = same_links (after size m other) refl

-- ---- what is shown was shown, or are the rows as they are

module _ (size : Size) (m : State) (j : ℕ) (lock : BrickLock) (rows : Cell → Row) where
  abbrev Back : State → Type 0
  Back new = IsShowing lock rows (new.bricks j).outputs → is_current (new.links j lock.by.graph) lock.by.connection ≡ true → IsShowing lock rows (m.bricks j).outputs ⊎ (rows ≡ rows_of (new.bricks j).store)

  same_bricks : (new : State) → new.bricks ≡ m.bricks → Back new
  same_bricks new is h current = inl (subst (λ (f : ℕ → Brick). IsShowing lock rows (f j).outputs) is h)

  one_brick : (new : State) (k : ℕ) (x : Brick) → new.bricks ≡ with_at m.bricks k x → ShownBack lock rows x.store (m.bricks k).outputs x.outputs → Back new
  one_brick new k x is back h current =
      subst (λ (f : ℕ → Brick). IsShowing lock rows (f j).outputs → IsShowing lock rows (m.bricks j).outputs ⊎ (rows ≡ rows_of (f j).store)) (sym is)
      (at_case (λ n (b : Brick). IsShowing lock rows b.outputs → IsShowing lock rows (m.bricks n).outputs ⊎ (rows ≡ rows_of b.store)) m.bricks k x back j (λ ne e. inl e)) h

  popped_back : (new : State) (k : ℕ) (o : Output) (rest : List Output) → (m.bricks k).outputs ≡ o ∷ rest → new.bricks ≡ (without_first_output m k).bricks → (IsShowing lock rows rest → IsShowing lock rows (o ∷ rest)) → Back new
  popped_back new k o rest front is more =
      one_brick new k (record (m.bricks k) { outputs = without_output (m.bricks k).outputs }) is
      (λ h. inl (subst (IsShowing lock rows) (sym front) (more (subst (IsShowing lock rows) (ap without_output front) h))))

  closes_back : (k : ℕ) → Back (without_links (without_first_output m k) k (λ g. true))
  closes_back k h current = by_case (cases_eq j k) where
    shut : (g c : ℕ) → is_current ((without_links (without_first_output m k) k (λ o. true)).links k g) c ≡ true → ⊥
    shut g c cur = apart_bools (both_left _ _ cur) (ap (λ (f : ℕ → Link). (f g).is_open) (at_same m.links k (λ i. if true then closed (m.links k i) else m.links k i)))

    by_case : (j ≡ k) ⊎ (j ≢ k) → IsShowing lock rows (m.bricks j).outputs ⊎ (rows ≡ rows_of ((without_links (without_first_output m k) k (λ g. true)).bricks j).store)
    by_case (inl same) = absurd (shut lock.by.graph lock.by.connection (subst (λ n. is_current ((without_links (without_first_output m k) k (λ o. true)).links n lock.by.graph) lock.by.connection ≡ true) same current))
    by_case (inr other) = inl (subst (λ (b : Brick). IsShowing lock rows b.outputs) (at_other m.bricks k (record (m.bricks k) { outputs = without_output (m.bricks k).outputs }) j other) h)

  hands_back : (k : ℕ) (o : Output) (rest : List Output) → (m.bricks k).outputs ≡ o ∷ rest → Back (taken_in (without_first_output m k) k o)
  hands_back k (Answered by ask answer) rest front = by_case (is_current (m.links k by.graph) by.connection) where
    by_case : (b : Bool) → Back (if b then replied (without_first_output m k) k by ask answer else without_first_output m k)
    by_case true = popped_back (replied (without_first_output m k) k by ask answer) k (Answered by ask answer) rest front (replied_beside (without_first_output m k) k by ask answer).bricks (λ h. inr h)
    by_case false = popped_back (without_first_output m k) k (Answered by ask answer) rest front refl (λ h. inr h)
  hands_back k Closed rest front = closes_back k
  hands_back k Opened rest front = popped_back (without_first_output m k) k Opened rest front refl (λ h. h)
  hands_back k (Connected graph) rest front = popped_back (without_first_output m k) k (Connected graph) rest front refl (λ h. h)

  pub shown_back : (step : Step) → Allowed size m step → Back (after size m step)
  shown_back (Step.Turns t turn) h = same_bricks (after size m (Step.Turns t turn)) (turn_bricks size m t turn)
  shown_back (Step.Asks t k first asked) h = one_brick (after size m (Step.Asks t k first asked)) k _ refl (λ e. inl e)
  shown_back (Step.Controls k steering) h = one_brick (after size m (Step.Controls k steering)) k _ refl (λ e. inl e)
  shown_back (Step.Connects k g) h = one_brick (after size m (Step.Connects k g)) k _ refl (λ e. inl e)
  shown_back (Step.Cuts k g) h = one_brick (after size m (Step.Cuts k g)) k _ refl (λ e. inl e)
  shown_back (Step.Serves k) h =
      one_brick (after size m (Step.Serves k)) k (served_front (m.bricks k).line (popped (m.bricks k))) refl
      (subst (λ (x : Brick). ShownBack lock rows x.store (m.bricks k).outputs x.outputs) (sym (ap (λ (l : List Input). served_front l (record (m.bricks k) { line = without_front l })) h.front))
      (subst (λ st. ShownBack lock rows st (m.bricks k).outputs (served_by (m.bricks k).power h.by h.asked (record (m.bricks k) { line = h.rest })).outputs) (sym (served_store (m.bricks k).power h.by h.asked (record (m.bricks k) { line = h.rest })))
      (served_shown lock rows (record (m.bricks k) { line = h.rest }) (m.bricks k).power h.by h.asked)))
  shown_back (Step.Refuses k answer) h =
      one_brick (after size m (Step.Refuses k answer)) k (refused_front (m.bricks k).line answer (popped (m.bricks k))) refl
      (subst (λ (x : Brick). ShownBack lock rows x.store (m.bricks k).outputs x.outputs) (sym (ap (λ (l : List Input). refused_front l answer (record (m.bricks k) { line = without_front l })) h.request.front))
      (answering_shown lock rows (m.bricks k).store (m.bricks k).outputs h.request.by h.request.asked answer (refusal_grants_none h.request.by h.request.asked answer h.refusal)))
  shown_back (Step.GivesUp k) h =
      one_brick (after size m (Step.GivesUp k)) k (given_up_front (m.bricks k).line (popped (m.bricks k))) refl
      (subst (λ (x : Brick). ShownBack lock rows x.store (m.bricks k).outputs x.outputs) (sym (ap (λ (l : List Input). given_up_front l (record (m.bricks k) { line = without_front l })) h.front))
      (answering_shown lock rows (m.bricks k).store (m.bricks k).outputs h.by h.asked Gone (gone_grants_none h.by h.asked)))
  shown_back (Step.Steers k) h =
      one_brick (after size m (Step.Steers k)) k (steered_front (m.bricks k).line (popped (m.bricks k))) refl
      (subst (λ (x : Brick). ShownBack lock rows x.store (m.bricks k).outputs x.outputs) (sym (ap (λ (l : List Input). steered_front l (record (m.bricks k) { line = without_front l })) h.front))
      (subst (λ st. ShownBack lock rows st (m.bricks k).outputs (steered h.steering (record (m.bricks k) { line = h.rest })).outputs) (sym (steered_store h.steering (record (m.bricks k) { line = h.rest })))
      (steered_shown lock rows (record (m.bricks k) { line = h.rest }) h.steering)))
  shown_back (Step.HandsIn k) h = subst (λ (os : List Output). Back (take_in_front (without_first_output m k) k os)) (sym h.front) (hands_back k h.first h.rest h.front)
  shown_back (Step.Unsettles t) h = same_bricks (after size m (Step.Unsettles t)) (unsettling_bricks m t (m.txns t).stage)
  shown_back (Step.Decides t) h = same_bricks (after size m (Step.Decides t)) (decided_bricks m (decided_by (m.txns t).stage))
  shown_back other h = same_bricks (after size m other) refl

-- ---- one step

gathers_on : (stage : Stage) → is_gathering stage ≡ true → is_unlocking stage ≡ false
gathers_on (Locking cells shared next) h = refl
gathers_on Locked h = refl
gathers_on other h = absurd cc

module _ (size : Size) (m : State) (r : IsReached size m) (step : Step) (allowed : Allowed size m step) (was : RowsStand m) where
  abbrev new : State
  new = after size m step

  -- a grant that was on its way
  came_shows : (k : ℕ) (lock : BrickLock) (rows : Cell → Row) → IsShowing lock rows (m.bricks k).outputs → is_current (m.links k lock.by.graph) lock.by.connection ≡ true → ShowsStill (new.bricks k).store lock.cells rows
  came_shows k lock rows shown current =
      move_shows (IsTaken m step k) (m.bricks k) (new.bricks k) lock.cells rows (bricks_move size m step allowed k)
      (front_spares (m.bricks k) lock (granted_alone size m r k lock x) (coming_calm m (on_their_way size m r) (connects_come_first size m r) (grants_stand size m r) k lock x current (showing_grants lock rows (m.bricks k).outputs shown)))
      (was.coming k lock rows shown current)
    where
      x : IsGranted m k lock
      x = OnItsWay (showing_grants lock rows (m.bricks k).outputs shown) current

  coming : (k : ℕ) (lock : BrickLock) (rows : Cell → Row) → IsShowing lock rows ((after size m step).bricks k).outputs → is_current ((after size m step).links k lock.by.graph) lock.by.connection ≡ true → ShowsStill ((after size m step).bricks k).store lock.cells rows
  coming k lock rows h current = by_case (shown_back size m k lock rows step allowed h current) where
    by_case : IsShowing lock rows (m.bricks k).outputs ⊎ (rows ≡ rows_of ((after size m step).bricks k).store) → ShowsStill ((after size m step).bricks k).store lock.cells rows
    by_case (inl shown) =
        let n = (granted_sender (IsNumbered m k) lock (m.bricks k).outputs ((on_their_way size m r).numbered k).outputs (granting_in lock (m.bricks k).outputs (showing_grants lock rows (m.bricks k).outputs shown))).1 in
        came_shows k lock rows shown (links_back size m step allowed k lock.by.graph lock.by.connection n.connection current)
    by_case (inr now) = λ cell has. same_row (rows cell) (rows_of ((after size m step).bricks k).store cell) (sym (ap (λ (f : Cell → Row). f cell) now))

  -- a grant that was handed in before
  kept_shows : (t k : ℕ) (grant : Grant) → (m.txns t).grants k ≡ Some grant → is_gathering (m.txns t).stage ≡ true → (new.txns t).graph ≡ (m.txns t).graph → Holds new t k grant → ShowsStill (new.bricks k).store grant.cells grant.rows
  kept_shows t k grant is gathering graph h =
      move_shows (IsTaken m step k) (m.bricks k) (new.bricks k) grant.cells grant.rows (bricks_move size m step allowed k)
      (front_spares (m.bricks k) (lock_of t (m.txns t).graph grant) (granted_alone size m r k (lock_of t (m.txns t).graph grant) (HandedIn t grant holds refl))
      (handed_calm m (on_their_way size m r) (connects_come_first size m r) (grants_stand size m r) k (lock_of t (m.txns t).graph grant) (gathering_is_calm size m r) t grant holds (HandedIn t grant holds refl) refl refl refl gathering))
      (was.handed t k grant holds gathering)
    where
      holds : Holds m t k grant
      holds = record {
        granted = is;
        still_open = links_back size m step allowed k (m.txns t).graph grant.connection ((grants_are_held size m r).handed t k grant is).numbered (subst (λ n. is_current (new.links k n) grant.connection ≡ true) graph h.still_open);
        holding = gathers_on (m.txns t).stage gathering;
      }

  heard_shows : (t k j connection : ℕ) (grant : Grant) (ask : Ask) (answer : Answer) → GrantsGo (m.txns t) (new.txns t) j connection ask answer → is_gathering (m.txns t).stage ≡ true → (new.txns t).graph ≡ (m.txns t).graph →
      ((shared : Bool) (cells : List Cell) (rows : Cell → Row) → ask ≡ Lock shared cells → answer ≡ Rows rows → IsShowing (lock_of t (new.txns t).graph (record { connection = connection; shared = shared; cells = cells; rows = rows })) rows (m.bricks j).outputs × (is_current (m.links j (new.txns t).graph) connection ≡ true)) →
      Holds new t k grant → ShowsStill (new.bricks k).store grant.cells grant.rows
  heard_shows t k j connection grant ask answer (SameGrants same) gathering graph shows h = kept_shows t k grant (sym (ap (λ (f : ℕ → Option Grant). f k) same) ∙ h.granted) gathering graph h
  heard_shows t k j connection grant ask answer (Granted shared cells rows is_lock is_rows grants stage) gathering graph shows h =
      at_case (λ n (o : Option Grant). (g : Grant) → o ≡ Some g → Holds (after size m step) t n g → ShowsStill ((after size m step).bricks n).store g.cells g.rows) (m.txns t).grants j (Some (record { connection = connection; shared = shared; cells = cells; rows = rows }))
      (λ g e hold. subst (λ (z : Grant). ShowsStill ((after size m step).bricks j).store z.cells z.rows) (same g e)
      (let s = shows shared cells rows is_lock is_rows in came_shows j (lock_of t ((after size m step).txns t).graph (record { connection = connection; shared = shared; cells = cells; rows = rows })) rows s.0 s.1))
      k (λ ne g e hold. kept_shows t k g e gathering graph hold) grant (sym (ap (λ (f : ℕ → Option Grant). f k) grants) ∙ h.granted) h
    where
      g0 : Grant
      g0 = record { connection = connection; shared = shared; cells = cells; rows = rows }

      same : (g : Grant) → Some (record { connection = connection; shared = shared; cells = cells; rows = rows }) ≡ Some g → g0 ≡ g
      same g e = cc
  heard_shows t k j connection grant ask answer (Released is_unlock grants) gathering graph shows h =
      at_case (λ n (o : Option Grant). (g : Grant) → o ≡ Some g → Holds (after size m step) t n g → ShowsStill ((after size m step).bricks n).store g.cells g.rows) (m.txns t).grants j None
      (λ g e hold. absurd (let no : None ≡ Some g = e in cc)) k (λ ne g e hold. kept_shows t k g e gathering graph hold) grant (sym (ap (λ (f : ℕ → Option Grant). f k) grants) ∙ h.granted) h

  handed_by : (t k : ℕ) (grant : Grant) → Holds new t k grant → is_gathering (new.txns t).stage ≡ true → GathersFrom m t (new.txns t) → ShowsStill (new.bricks k).store grant.cells grant.rows
  handed_by t k grant h gathering (NotNow not_gathering) = apart_bools gathering not_gathering
  handed_by t k grant h gathering (Empty none) = absurd (let no : None ≡ Some grant = sym (none k) ∙ h.granted in cc)
  handed_by t k grant h gathering (Same grants gathers graph) = kept_shows t k grant (sym (ap (λ (f : ℕ → Option Grant). f k) grants) ∙ h.granted) (gathers gathering) graph h
  handed_by t k grant h gathering (Hears j connection ask answer goes gathers graph shows) = heard_shows t k j connection grant ask answer goes (gathers gathering) graph shows h

  step_rows : RowsStand (after size m step)
  step_rows = record { coming = coming; handed = λ t k grant h gathering. handed_by t k grant h gathering (gathers_from size m (on_their_way size m r).numbered (grants_are_held size m r) step allowed t) }

pub rows_stand : (size : Size) (m : State) → IsReached size m → RowsStand m
rows_stand size m IsReached.Start = record { coming = λ k lock rows h current. absurd h; handed = λ t k grant h gathering. absurd (let no : None ≡ Some grant = h.granted in cc) }
rows_stand size m (IsReached.Further old step reached allowed) = step_rows size old reached step allowed (rows_stand size old reached)

pub keeps_rows : EveryRowStands
keeps_rows size m reached = record { alone = granted_alone size m reached; calm = gathering_is_calm size m reached; rows = rows_stand size m reached }
