-- The bricks of a settling have its change exactly where their rows said so, over every list of steps.
use Rattle.std.proofs.Common.{◌≡◌, ◌∙◌, ℕ, ◌+◌, ◌≤◌, ◌<◌, Bool, true, false, refl, sym, ap, subst, ◌⊎◌, inl, inr, arith}
use Rattle.std.specs.Prelude.{◌==◌, ◌≢◌}
use Rattle.std.proofs.lemmas.Bool.{cases_eq, eqb-true, eq-eqb}
use Rattle.fop_types.specs.StoreOps.{needs}
use Rattle.fop_types.specs.declared.cells.Cell.{Cell}
use Rattle.fop_types.specs.declared.contents.Row.{Row}
use Rattle.afr_machine.specs.Replicas.{Size, Replicas}
use Rattle.afr_machine.specs.Touching.{has_cell, share}
use Rattle.afr_machine.specs.Copies.{Store, rows_of, changes_of, has_change}
use Rattle.afr_machine.specs.Requests.{Sender, Ask}
use Rattle.afr_machine.specs.Requests.Ask.{Op, Replace}
use Rattle.afr_machine.specs.Bricks.{Brick, stored_by}
use Rattle.afr_machine.specs.Changes.{is_unsettled}
use Rattle.afr_machine.specs.Phases.{Phase}
use Rattle.afr_machine.specs.Phases.Deciding.{ByPosts}
use Rattle.afr_machine.specs.Transactions.{Stage, Txn}
use Rattle.afr_machine.specs.Transactions.Work.{Own, Settles}
use Rattle.afr_machine.specs.States.{State, phase_of}
use Rattle.afr_machine.specs.Births.{cells_of_work}
use Rattle.afr_machine.specs.Turns.{Turn, MayReach, IsInGroup, holds_last, rows_granted, phase_reached}
use Rattle.afr_machine.specs.Steps.{Step, Allowed, after, IsReached}
use Rattle.afr_machine.specs.Moves.{BrickMove, IsTaken}
use Rattle.afr_machine.specs.Moves.BrickMove.{Stays, Takes, Hands, Serves, Refuses, GivesUp, Steers}
use Rattle.afr_machine.proofs.BrickMoves.{bricks_move}
use Rattle.afr_machine.proofs.Tables.{at_same}
use Rattle.afr_laws.specs.Senders.{EachInput}
use Rattle.afr_laws.specs.Grants.{lock_of, is_unlocking}
use Rattle.afr_laws.specs.Apart.{Holds, IsGranted}
use Rattle.afr_laws.specs.Apart.IsGranted.{HandedIn}
use Rattle.afr_laws.specs.Alone.{IsApartFrom}
use Rattle.afr_laws.specs.Covered.{alters}
use Rattle.afr_laws.specs.OwnChanges.{was_unsettled}
use Rattle.afr_laws.specs.Copies.{Carries, Brings}
use Rattle.afr_laws.specs.Numbers.{applied, last_at}
use Rattle.afr_laws.specs.Fresh.{is_behind, IsWorkOf}
use Rattle.afr_laws.specs.Ready.{IsReadyFor}
use Rattle.afr_laws.specs.Standing.{is_gathering, StillShows}
use Rattle.afr_laws.proofs.Bools.{apart_bools}
use Rattle.afr_laws.proofs.Flying.{on_their_way}
use Rattle.afr_laws.proofs.ConnectsFirst.{connects_come_first}
use Rattle.afr_laws.proofs.Covered.Granted.{grants_stand}
use Rattle.afr_laws.proofs.OwnChanges.Steps.{changes_are_own}
use Rattle.afr_laws.proofs.Copies.Asks.{share_at}
use Rattle.afr_laws.proofs.Copies.Stores.{stored_had}
use Rattle.afr_laws.proofs.Copies.Served.{served_store, steered_store}
use Rattle.afr_laws.proofs.Copies.Steps.{copies_are_of_changes}
use Rattle.afr_laws.proofs.Copies.Follows.{keeps_numbers}
use Rattle.afr_laws.proofs.Work.Known.{works_are_known}
use Rattle.afr_laws.proofs.Sound.{soundness_is_counted}
use Rattle.afr_laws.proofs.Fresh.Known.{phases_are_known}
use Rattle.afr_laws.proofs.Fresh.Phased.{PhasesGo}
use Rattle.afr_laws.proofs.Fresh.Steps.{step_phases}
use Rattle.afr_laws.proofs.Fresh.Turns.{copied_behind, copies_behind}
use Rattle.afr_laws.proofs.Overtaken.Steps.{phase_from, HasOpen, has_open}
use Rattle.afr_laws.proofs.Standing.Alone.{granted_alone, move_each}
use Rattle.afr_laws.proofs.Standing.Calm.{gathering_is_calm}
use Rattle.afr_laws.proofs.Standing.Own.{handed_calm}
use Rattle.afr_laws.proofs.Standing.Steps.{rows_stand}
use Rattle.afr_laws.proofs.Ready.Steps.{members_are_ready}
use Rattle.afr_soundness.specs.Later.{IsMarked}
use Rattle.afr_soundness.specs.CopyApart.{IsNoOpOf, IsCopyApart}
use Rattle.afr_soundness.specs.Agreeing.{AgreesAt, SeenAgree, GroupAgrees, EveryGroupAgrees}
use Rattle.afr_soundness.proofs.States.{phase_stays, work_stays}
use Rattle.afr_soundness.proofs.TxnMoves.{TxnMove, txn_moves}
use Rattle.afr_soundness.proofs.ChangeMoves.{cells_stay}
use Rattle.afr_soundness.proofs.Deciding.Kept.{keeps_behind}
use Rattle.afr_soundness.proofs.Deciding.Whose.{unsettled_was}
use Rattle.afr_soundness.proofs.Unsettled.{UnsettledFrom, unsettled_from, drawn_from, becomes_own, settled_was}
use Rattle.afr_soundness.proofs.Marked.{each_is_marked}
use Rattle.afr_soundness.proofs.Copied.Lines.{each_both}
use Rattle.afr_soundness.proofs.CopyApart.Without.{taken_no_op}
use Rattle.afr_soundness.proofs.CopyApart.Steps.{Sends, overtaken_unsent, marked_back, keeps_copies_apart}
use Rattle.afr_soundness.proofs.Whole.{replaced_same}
use Rattle.afr_soundness.proofs.Applied.{is_replace, stored_has}

both_ways : (a b : Bool) → (a ≡ true → b ≡ true) → (b ≡ true → a ≡ true) → a ≡ b
both_ways true b f g = sym (f refl)
both_ways false true f g = g refl
both_ways false false f g = refl

-- ---- a brick that was reached before

module _ (size : Size) (m : State) (r : IsReached size m) (step : Step) (allowed : Allowed size m step) (u k : ℕ) (unsettled : is_unsettled (m.changes u).verdict ≡ true) where
  abbrev went : State
  went = after size m step

  module _ (cell : Cell) (has : has_cell (m.changes u).cells cell ≡ true) (line : EachInput (λ by ask. IsNoOpOf u ask) (m.bricks k).line) where
    -- no op of it in the line: nothing brings it, and nothing takes it away
    unbrought : (ask : Ask) → is_replace ask ≡ false → IsNoOpOf u ask → has_change (changes_of (stored_by ask (m.bricks k).store cell).copy) u ≡ has_change (applied m k cell) u
    unbrought ask plain none = both_ways (has_change (changes_of (stored_by ask (m.bricks k).store cell).copy) u) (has_change (applied m k cell) u) (λ h. before (stored_had (m.bricks k).store cell u ask h)) (stored_has (m.bricks k).store cell u ask plain) where
      brings_none : (a : Ask) → is_replace a ≡ false → IsNoOpOf u a → Brings a cell u → has_change (applied m k cell) u ≡ true
      brings_none (Op v op) plain1 other h = absurd (other (sym h.1))
      brings_none (Replace at found) plain1 other h = absurd (let e : true ≡ false = plain1 in cc)
      brings_none a plain1 other h = absurd h

      before : (has_change (applied m k cell) u ≡ true) ⊎ Brings ask cell u → has_change (applied m k cell) u ≡ true
      before (inl old) = old
      before (inr now) = brings_none ask plain none now

    served_same : (ask : Ask) → IsNoOpOf u ask → IsCopyApart m k ask → has_change (changes_of (stored_by ask (m.bricks k).store cell).copy) u ≡ has_change (applied m k cell) u
    served_same (Replace at found) none apart = replaced_same m u k unsettled at found apart cell has
    served_same other none apart = unbrought other refl none

    pub copy_same : BrickMove (IsTaken m step k) (m.bricks k) (went.bricks k) → has_change (applied went k cell) u ≡ has_change (applied m k cell) u
    copy_same (Serves by ask rest front would is) =
        ap (λ (b : Brick). has_change (changes_of (b.store cell).copy) u) is ∙ ap (λ (s : Store). has_change (changes_of (s cell).copy) u) (served_store (m.bricks k).power by ask (record (m.bricks k) { line = rest }))
        ∙ served_same ask (subst (EachInput (λ by a. IsNoOpOf u a)) front line).0 (subst (EachInput (λ by a. IsCopyApart m k a)) front ((keeps_copies_apart size m r).replaces k)).0
    copy_same (Stays is) = ap (λ (b : Brick). has_change (changes_of (b.store cell).copy) u) is
    copy_same (Takes inputs its is) = ap (λ (b : Brick). has_change (changes_of (b.store cell).copy) u) is
    copy_same (Hands first rest front is) = ap (λ (b : Brick). has_change (changes_of (b.store cell).copy) u) is
    copy_same (Refuses by ask answer rest front may_be refusal is) = ap (λ (b : Brick). has_change (changes_of (b.store cell).copy) u) is
    copy_same (GivesUp by ask rest front would is) = ap (λ (b : Brick). has_change (changes_of (b.store cell).copy) u) is
    copy_same (Steers control rest front is) = ap (λ (b : Brick). has_change (changes_of (b.store cell).copy) u) is ∙ ap (λ (s : Store). has_change (changes_of (s cell).copy) u) (steered_store control (record (m.bricks k) { line = rest }))

-- ---- one step

module _ (size : Size) (m : State) (r : IsReached size m) (step : Step) (allowed : Allowed size m step) (t u k : ℕ) (cell : Cell) (unsettled : is_unsettled (m.changes u).verdict ≡ true) (has : has_cell (m.changes u).cells cell ≡ true) where
  abbrev new : State
  new = after size m step

  goes : PhasesGo m.ended m.phases (after size m step).phases
  goes = step_phases size m step

  drawn : u ≤ m.drawn
  drawn = drawn_from size m r step allowed u (UnsettledFrom.Was unsettled)

  marked : IsMarked m u
  marked = each_is_marked size m r u (unsettled_was (m.changes u).verdict unsettled)

  -- behind the same lock phase
  stays : is_behind (m.txns t).stage ≡ true → (m.txns t).work ≡ Settles u → (phase_of m t).reached k ≡ true → AgreesAt m u (m.txns t).phase k cell → AgreesAt new u (m.txns t).phase k cell
  stays behind work reached h = record { later = later; copy = copy; line = line } where
    low : (m.txns t).phase ≤ m.ended
    low = (phases_are_known size m r t).low

    later : (q : ℕ) → q ≤ new.ended → (new.phases q).decides ≡ ByPosts u → q < (m.txns t).phase
    later q low_q decides = let old = marked_back size m r step allowed q u drawn decides (phase_from size m step allowed q low_q) in h.later q old.0 old.1

    copy : ((new.phases (m.txns t).phase).rows k cell).present ≡ true → has_change (applied new k cell) u ≡ holds_last u ((new.phases (m.txns t).phase).rows k cell)
    copy present =
        let rows : (new.phases (m.txns t).phase).rows k cell ≡ (phase_of m t).rows k cell = ap (λ (f : ℕ → Cell → Row). f k cell) (goes.rows (m.txns t).phase low) in
        copy_same size m r step allowed u k unsettled cell has h.line (bricks_move size m step allowed k) ∙ h.copy (sym (ap (λ (x : Row). x.present) rows) ∙ present) ∙ sym (ap (holds_last u) rows)

    shared : share (phase_of m t).cells (m.changes u).cells ≡ true
    shared = share_at (phase_of m t).cells (m.changes u).cells cell (ap (λ cs. has_cell cs cell) ((phases_are_known size m r t).cells behind ∙ ap (cells_of_work m.changes (m.txns t)) work) ∙ has) has

    unsent : Sends size m r step allowed k u → ⊥
    unsent s = overtaken_unsent size m r step allowed marked.phase u k marked.one marked.low marked.decides (m.txns t).phase (h.later marked.phase marked.low marked.decides) low shared reached s

    line : EachInput (λ by ask. IsNoOpOf u ask) (new.bricks k).line
    line = move_each (IsTaken m step k) (m.bricks k) (new.bricks k) (λ by a. IsNoOpOf u a) (taken_no_op size m step allowed u drawn k (λ s first op is. unsent (record { txn = s; first = first; op = op; is = is })) step refl) h.line (bricks_move size m step allowed k)

  -- the lock phase ends now: the rows that were granted stand
  reaches : step ≡ Step.Turns t Turn.Reaches → MayReach size m t → (m.txns t).work ≡ Settles u → (new.phases (m.ended + 1)).reached k ≡ true → AgreesAt new u (m.ended + 1) k cell
  reaches step_is h work reached = record { later = later; copy = copy; line = subst (λ (b : ℕ → Brick). EachInput (λ by ask. IsNoOpOf u ask) (b k).line) (sym bricks) line } where
    bricks : new.bricks ≡ m.bricks
    bricks = ap (λ st. (after size m st).bricks) step_is

    phase : new.phases (m.ended + 1) ≡ phase_reached m t
    phase = ap (λ st. (after size m st).phases (m.ended + 1)) step_is ∙ at_same m.phases (m.ended + 1) (phase_reached m t)

    o : HasOpen m t k
    o = has_open m t k (sym (ap (λ (x : Phase). x.reached k) phase) ∙ reached)

    gathering : is_gathering (m.txns t).stage ≡ true
    gathering = ap is_gathering h.turn

    holds : Holds m t k o.grant
    holds = record { granted = o.granted; still_open = o.current; holding = ap is_unlocking h.turn }

    over : o.grant.cells ≡ (m.changes u).cells
    over = ((works_are_known size m r t).grants k o.grant o.granted).over ∙ ap (cells_of_work m.changes (m.txns t)) work

    later : (q : ℕ) → q ≤ new.ended → (new.phases q).decides ≡ ByPosts u → q < m.ended + 1
    later q low_q decides = let old = marked_back size m r step allowed q u drawn decides (phase_from size m step allowed q low_q) in omega (arith, old.0)

    still : StillShows (o.grant.rows cell) (rows_of (m.bricks k).store cell)
    still = (rows_stand size m r).handed t k o.grant holds gathering cell (ap (λ cs. has_cell cs cell) over ∙ has)

    row : (new.phases (m.ended + 1)).rows k cell ≡ o.grant.rows cell
    row = ap (λ (x : Phase). x.rows k cell) phase ∙ ap (λ g. rows_granted g cell) o.granted

    copy : ((new.phases (m.ended + 1)).rows k cell).present ≡ true → has_change (applied new k cell) u ≡ holds_last u ((new.phases (m.ended + 1)).rows k cell)
    copy present =
        let last : last_at m k cell ≡ (o.grant.rows cell).last = still.last (sym (ap (λ (x : Row). x.present) row) ∙ present) in
        let tells = (keeps_numbers size m r).tells u k cell unsettled has in
        ap (λ (b : ℕ → Brick). has_change (changes_of ((b k).store cell).copy) u) bricks
        ∙ both_ways (has_change (applied m k cell) u) ((o.grant.rows cell).last == u) (λ there. eq-eqb (o.grant.rows cell).last u (sym last ∙ tells.tells.1 there)) (λ same. tells.tells.0 (last ∙ eqb-true (o.grant.rows cell).last u same))
        ∙ sym (ap (holds_last u) row)

    granted : IsGranted m k (lock_of t (m.txns t).graph o.grant)
    granted = HandedIn t o.grant holds refl

    -- an op of the change would alter a cell of the lock
    no_op : (by : Sender) (ask : Ask) → IsApartFrom (lock_of t (m.txns t).graph o.grant) by ask × (by.txn ≡ t → alters ask ≡ false) → Carries m.changes ask → IsNoOpOf u ask
    no_op by (Op v op) apart (inl birth) = λ same. absurd (let e : has_cell (m.changes u).cells cell ≡ false = ap (λ cs. has_cell cs cell) (ap (λ n. (m.changes n).cells) (sym same ∙ birth.0) ∙ (changes_are_own size m r).fit.none) in apart_bools has e)
    no_op by (Op v op) apart (inr sent) = λ same. by_owner same (cases_eq by.txn t) where
      needed : v ≡ u → has_cell (needs op) cell ≡ true
      needed same = ap (λ x. has_cell (needs x) cell) sent.1 ∙ sym (ap (λ cs. has_cell cs cell) ((changes_are_own size m r).fit.needs_are v)) ∙ ap (λ n. has_cell (m.changes n).cells cell) same ∙ has

      by_owner : v ≡ u → (by.txn ≡ t) ⊎ (by.txn ≢ t) → ⊥
      by_owner same (inl own) = absurd (let e : true ≡ false = apart.1 own in cc)
      by_owner same (inr other) = apart_bools (share_at o.grant.cells (needs op) cell (ap (λ cs. has_cell cs cell) over ∙ has) (needed same)) (apart.0 refl other)
    no_op by other apart carries = tt

    line : EachInput (λ by ask. IsNoOpOf u ask) (m.bricks k).line
    line =
        each_both (λ by ask. IsApartFrom (lock_of t (m.txns t).graph o.grant) by ask × (by.txn ≡ t → alters ask ≡ false)) (λ by ask. Carries m.changes ask) (λ by ask. IsNoOpOf u ask) no_op (m.bricks k).line
        (each_both (IsApartFrom (lock_of t (m.txns t).graph o.grant)) (λ by ask. by.txn ≡ t → alters ask ≡ false) (λ by ask. IsApartFrom (lock_of t (m.txns t).graph o.grant) by ask × (by.txn ≡ t → alters ask ≡ false)) (λ by ask p q. (p, q)) (m.bricks k).line
        (granted_alone size m r k (lock_of t (m.txns t).graph o.grant) granted)
        (handed_calm m (on_their_way size m r) (connects_come_first size m r) (grants_stand size m r) k (lock_of t (m.txns t).graph o.grant) (gathering_is_calm size m r) t o.grant holds granted refl refl refl gathering))
        ((copies_are_of_changes size m r).bricks k).line

-- ---- every transaction

module _ (size : Size) (m : State) (r : IsReached size m) (was : SeenAgree m) (step : Step) (allowed : Allowed size m step) (t u k : ℕ) (cell : Cell) where
  abbrev next : State
  next = after size m step

  module _ (behind : is_behind (next.txns t).stage ≡ true) (work : (next.txns t).work ≡ Settles u) (reached : (phase_of next t).reached k ≡ true) (has : has_cell (next.changes u).cells cell ≡ true) where
    work_then : (m.txns t).work ≡ Settles u
    work_then = sym (work_stays size m r step allowed t behind) ∙ work

    module _ (unsettled : is_unsettled (m.changes u).verdict ≡ true) where
      has_then : has_cell (m.changes u).cells cell ≡ true
      has_then = sym (ap (λ cs. has_cell cs cell) (cells_stay size m step allowed u (drawn_from size m r step allowed u (UnsettledFrom.Was unsettled)))) ∙ has

      of_old : is_behind (m.txns t).stage ≡ true → AgreesAt next u (next.txns t).phase k cell
      of_old behind_then = subst (λ p. AgreesAt next u p k cell) (sym phase) (stays size m r step allowed t u k cell unsettled has_then behind_then work_then reached_then (was t u k cell behind_then work_then unsettled reached_then has_then)) where
        phase : (next.txns t).phase ≡ (m.txns t).phase
        phase = phase_stays size m r step allowed t behind_then

        reached_then : (phase_of m t).reached k ≡ true
        reached_then = sym (ap (λ (f : Replicas). f k) ((step_phases size m step).reached (m.txns t).phase (phases_are_known size m r t).low)) ∙ sym (ap (λ p. (next.phases p).reached k) phase) ∙ reached

      none : (y : Txn) → next.txns t ≡ y → is_behind y.stage ≡ false → AgreesAt next u (next.txns t).phase k cell
      none y is free = apart_bools behind (ap (λ (z : Txn). is_behind z.stage) is ∙ free)

      by_move : TxnMove size m step t (next.txns t) → AgreesAt next u (next.txns t).phase k cell
      by_move (TxnMove.Goes quiet g) = of_old (sym (keeps_behind (m.txns t).stage (next.txns t).stage g.stage) ∙ behind)
      by_move (TxnMove.Begins graph own step_is at is) = none _ is refl
      by_move (TxnMove.Locks Own step_is h is) = none _ is refl
      by_move (TxnMove.Locks (Settles v) step_is h is) = none _ is refl
      by_move (TxnMove.Reaches step_is h is) =
          let phase : (next.txns t).phase ≡ m.ended + 1 = ap (λ (z : Txn). z.phase) is in
          subst (λ p. AgreesAt next u p k cell) (sym phase) (reaches size m r step allowed t u k cell unsettled has_then step_is h work_then (sym (ap (λ p. (next.phases p).reached k) phase) ∙ reached))
      by_move (TxnMove.Marks step_is h is) = of_old (copied_behind (m.txns t).stage h.copied)
      by_move (TxnMove.Unsettles step_is h is) = of_old (ap is_behind h.turn)
      by_move (TxnMove.Posts step_is h is) = of_old (ap is_behind h.turn)
      by_move (TxnMove.SettlesAs group adopts step_is h is) = of_old (ap is_behind h.turn)
      by_move (TxnMove.Bears step_is h is) = of_old (ap is_behind h.turn)
      by_move (TxnMove.Copies run step_is h is) = of_old (copies_behind m t (m.txns t).work run.group h.allowed)
      by_move (TxnMove.Clears step_is h is) = of_old (ap is_behind h.turn)
      by_move (TxnMove.Polls step_is h is) = none _ is refl
      by_move (TxnMove.Unlocks step_is h is) = none _ is refl
      by_move (TxnMove.Rests step_is h is) = none _ is refl
      by_move (TxnMove.Ends step_is h is) = of_end is where
        of_end : next.txns t ≡ record (m.txns t) { stage = Stage.Over } → AgreesAt next u (next.txns t).phase k cell
        of_end e = none _ e refl

    seen_after : UnsettledFrom size m r step allowed u → AgreesAt next u (next.txns t).phase k cell
    seen_after (UnsettledFrom.Was unsettled) = by_move unsettled (txn_moves size m step allowed t)
    seen_after (UnsettledFrom.Becomes s step_is h at) = apart_bools (settled_was size m r t u work_then) (ap (λ n. was_unsettled (m.changes n).verdict) at ∙ ap was_unsettled (becomes_own size m r step allowed s h).1.1)

pub seen_agree : (size : Size) (m : State) → IsReached size m → SeenAgree m
seen_agree size m IsReached.Start = λ t u k cell behind. absurd (let e : false ≡ true = behind in cc)
seen_agree size m (IsReached.Further old step reached allowed) = λ t u k cell behind work unsettled at has.
    seen_after size old reached (seen_agree size old reached) step allowed t u k cell behind work at has (unsettled_from size old reached step allowed u unsettled)

-- ---- the group

group_agrees : (size : Size) (m : State) → IsReached size m → GroupAgrees size m
group_agrees size m r t u i group adopts cell is unsettled low in_it has = (seen_agree size m r t u i cell (ap is_behind is) work unsettled member.reached has).copy present ∙ member.agrees cell has where
  member : IsInGroup size (phase_of m t) u (m.changes u).cells adopts i
  member = ((subst (λ s. IsReadyFor size m.changes s (m.txns t).out (phase_of m t)) is (members_are_ready size m r t)) i low).0 in_it

  work : (m.txns t).work ≡ Settles u
  work = subst (λ s. IsWorkOf s (m.txns t).work) is (phases_are_known size m r t).work

  present : ((phase_of m t).rows i cell).present ≡ true
  present = ((soundness_is_counted size (phase_of m t) cell i).0 (member.sound cell has)).present

pub keeps_agreeing : EveryGroupAgrees
keeps_agreeing size m r = record { seen = seen_agree size m r; group = group_agrees size m r }
