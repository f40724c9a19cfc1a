-- Copies keep apart from unsettled changes, over every list of steps.
use Rattle.std.proofs.Common.{◌≡◌, ◌∙◌, ℕ, ◌+◌, ◌≤◌, ◌<◌, Bool, true, false, refl, sym, ap, subst, ◌⊎◌, inl, inr, arith, Option, Some, None}
use Rattle.std.specs.Prelude.{List, [], ◌∷◌, ◌++◌, ◌≢◌, not}
use Rattle.fop_types.specs.declared.cells.Cell.{Cell}
use Rattle.fop_types.specs.declared.store_ops.StoreOp.{StoreOp}
use Rattle.afr_machine.specs.Replicas.{Size, Replicas}
use Rattle.afr_machine.specs.Touching.{is_cell, has_cell, share}
use Rattle.afr_machine.specs.Copies.{Copy, Fetched, fetched_of, changes_of, has_change}
use Rattle.afr_machine.specs.Requests.{Sender, Ask, Input}
use Rattle.afr_machine.specs.Requests.Ask.{Op, Fetch, Replace, Clear}
use Rattle.afr_machine.specs.Requests.Answer.{Content}
use Rattle.afr_machine.specs.Requests.Input.{Asked, Steered}
use Rattle.afr_machine.specs.Changes.{is_unsettled, any_touches}
use Rattle.afr_machine.specs.Phases.{Phase, Deciding}
use Rattle.afr_machine.specs.Phases.Deciding.{NoChange, ByPosts, BySettles}
use Rattle.afr_machine.specs.Transactions.{CopyRun, Stage}
use Rattle.afr_machine.specs.Transactions.Stage.{Applying, Copying}
use Rattle.afr_machine.specs.States.{State, is_current, phase_of}
use Rattle.afr_machine.specs.Births.{cells_of_work}
use Rattle.afr_machine.specs.Sending.{MayAsk, IsMember, asks_of, inputs_of, sender_of}
use Rattle.afr_machine.specs.Answering.{is_single}
use Rattle.afr_machine.specs.Turns.{MaySettleNow, open_grants, cells_locked, phase_reached}
use Rattle.afr_machine.specs.Steps.{Step, MayUnsettle, Allowed, after, IsReached}
use Rattle.afr_machine.specs.Moves.{IsTaken}
use Rattle.afr_machine.proofs.BrickMoves.{bricks_move}
use Rattle.afr_laws.specs.Senders.{EachInput}
use Rattle.afr_laws.specs.Flights.{is_mine, in_locks, in_line, in_outputs, IsFlight}
use Rattle.afr_laws.specs.Flights.IsFlight.{NoFlight, OneFlight, OpensFirst, Strayed, StrayedThenUnlocks}
use Rattle.afr_laws.specs.Grants.{lock_of}
use Rattle.afr_laws.specs.Apart.{IsGranted}
use Rattle.afr_laws.specs.Apart.IsGranted.{HandedIn}
use Rattle.afr_laws.specs.Asking.{IsAskedBy}
use Rattle.afr_laws.specs.Alone.{IsApartFrom}
use Rattle.afr_laws.specs.OwnChanges.{was_unsettled}
use Rattle.afr_laws.specs.Copies.{Carries, RunShows}
use Rattle.afr_laws.specs.Fresh.{is_behind}
use Rattle.afr_laws.specs.Work.{changes_in}
use Rattle.afr_laws.proofs.Bools.{apart_bools, is_or_not, both_left, both_right, or_right}
use Rattle.afr_laws.proofs.Sharing.{cells_are, share_sym}
use Rattle.afr_laws.proofs.Flying.{on_their_way}
use Rattle.afr_laws.proofs.ConnectsFirst.{connects_come_first}
use Rattle.afr_laws.proofs.Covered.Granted.{grants_stand}
use Rattle.afr_laws.proofs.Copies.Asks.{share_at}
use Rattle.afr_laws.proofs.Copies.Steps.{copies_are_of_changes}
use Rattle.afr_laws.proofs.Work.Known.{works_are_known}
use Rattle.afr_laws.proofs.Fresh.Known.{phases_are_known}
use Rattle.afr_laws.proofs.Fresh.Phased.{PhasesGo}
use Rattle.afr_laws.proofs.Fresh.Steps.{step_phases}
use Rattle.afr_laws.proofs.Overtaken.Steps.{PhaseFrom, phase_from, opens, overtaken_apart}
use Rattle.afr_laws.proofs.Overtaken.Steps.PhaseFrom.{Old, Now}
use Rattle.afr_laws.proofs.Standing.Alone.{granted_alone, move_each}
use Rattle.afr_soundness.specs.Deciding.{IsMarkedIn, DecidesExactly}
use Rattle.afr_soundness.specs.Replies.{IsReplyIn}
use Rattle.afr_soundness.specs.Takers.{IsMemberOf}
use Rattle.afr_soundness.specs.Later.{IsMarked}
use Rattle.afr_soundness.specs.Copied.{copy_at, is_copying, ShowsCopy}
use Rattle.afr_soundness.specs.CopyApart.{IsWithout, StaysWithin, SettlesOther, ComesBefore, OvertakenAreWithout, IsCopyApart, CopyAsksApart, FetchedApart, CopyApartFromUnsettled, EveryCopyIsApart}
use Rattle.afr_soundness.proofs.PhaseMoves.{IsHandedIn, PhaseMove, phase_moves}
use Rattle.afr_soundness.proofs.ChangeMoves.{cells_stay}
use Rattle.afr_soundness.proofs.Deciding.Kept.{applying_own, drawn_by}
use Rattle.afr_soundness.proofs.Deciding.Whose.{decides_exactly, unsettled_was}
use Rattle.afr_soundness.proofs.Takers.Asked.{asked_are_members}
use Rattle.afr_soundness.proofs.Replies.{reply_at}
use Rattle.afr_soundness.proofs.Unsettled.{UnsettledFrom, unsettled_from, drawn_from, becomes_own, none_shares, one_unsettled}
use Rattle.afr_soundness.proofs.Marked.{each_is_marked}
use Rattle.afr_soundness.proofs.RunMoves.{RunMove, run_moves}
use Rattle.afr_soundness.proofs.Replaced.Steps.{is_itself}
use Rattle.afr_soundness.proofs.Copied.Lines.{own_each, each_both, behind_locks, AllAsks}
use Rattle.afr_soundness.proofs.Copied.Steps.{copies_stand, fetched_from, asked_now}
use Rattle.afr_soundness.proofs.CopyApart.Without.{each_map, CarriesNot, never_without, never_carried, never_found, without_stays}
use Rattle.afr_soundness.proofs.CopyApart.Static.{marked_in, copies_apart}

-- ---- lists

each_all : {X : Type 0} → (P : X → Sender → Ask → Type 0) (line : List Input) → ((x : X) → EachInput (P x) line) → EachInput (λ by ask. (x : X) → P x by ask) line
each_all P [] h = tt
each_all P (Asked by ask ∷ is) h = ((λ x. (h x).0), each_all P is (λ x. (h x).1))
each_all P (Steered control ∷ is) h = each_all P is (λ x. h x)

empty_right : (xs ys : List Ask) → (xs ++ ys) ≡ [] → ys ≡ []
empty_right [] ys e = e
empty_right (x ∷ xs) ys e = absurd (let no : (x ∷ (xs ++ ys)) ≡ [] = e in cc)

applied_of : (copy : Option Copy) (last : ℕ) (found : Fetched) → fetched_of copy last ≡ Some found → changes_of copy ≡ found.copy.changes
applied_of None last found h = absurd (let e : None ≡ Some found = h in cc)
applied_of (Some copy) last found h = same (record { copy = copy; last = last }) found h where
  same : (a b : Fetched) → Some a ≡ Some b → a.copy.changes ≡ b.copy.changes
  same a b e = let s : a ≡ b = cc in ap (λ (f : Fetched). f.copy.changes) s

-- nothing is on its way where a member is asked
idle : (f : List Ask) (w o c : Bool) → IsFlight f w o c → w ≡ false → o ≡ false → f ≡ []
idle f w o c (NoFlight e) waits used = e
idle f w o c (OneFlight a e w_is current) waits used = apart_bools w_is waits
idle f w o c (OpensFirst a e fd w_is current) waits used = apart_bools w_is waits
idle f w o c (Strayed a e fd out) waits used = apart_bools out used
idle f w o c (StrayedThenUnlocks a e fd out w_is current) waits used = apart_bools out used

-- what it waits for was asked on the connection that is open
asked_current : (f : List Ask) (w o c : Bool) → IsFlight f w o c → is_single f ≡ true → o ≡ false → c ≡ true
asked_current f w o c (NoFlight e) single used = absurd (let no : false ≡ true = sym (ap is_single e) ∙ single in cc)
asked_current f w o c (OneFlight a e w_is current) single used = current
asked_current f w o c (OpensFirst a e fd w_is current) single used = current
asked_current f w o c (Strayed a e fd out) single used = apart_bools out used
asked_current f w o c (StrayedThenUnlocks a e fd out w_is current) single used = current

abbrev NoReplaceOn : List Cell → Ask → Type 0
NoReplaceOn cells (Replace cell found) = has_cell cells cell ≡ false
NoReplaceOn cells (Clear others who) = share cells others ≡ false
NoReplaceOn cells other = Unit {0}

-- ---- who sends an op of an unsettled change

module _ (size : Size) (m : State) (r : IsReached size m) (step : Step) (allowed : Allowed size m step) where
  abbrev new : State
  new = after size m step

  d : DecidesExactly size m
  d = decides_exactly size m r

  goes : PhasesGo m.ended m.phases (after size m step).phases
  goes = step_phases size m step

  -- the step sends an op of it to the brick
  pub record Sends (k u : ℕ) : Type 0 where
    pub txn : ℕ
    pub first : Bool
    pub op : StoreOp
    pub is : step ≡ Step.Asks txn k first (Op u op)

  record IsSending (k u t : ℕ) : Type 0 where
    applies : (m.txns t).stage ≡ Applying u
    member : IsMember size m t k

  sending : (k u : ℕ) → 1 ≤ u → (s : Sends k u) → IsSending k u s.txn
  sending k u one s = by_case (subst (Allowed size m) s.is allowed).0 where
    by_case : MayAsk size m s.txn k (Op u s.op) → IsSending k u s.txn
    by_case (inl h) = record { applies = h.turn; member = h.next.member }
    by_case (inr h) = absurd (omega (arith, one, h.no_number))

  module _ (q u k : ℕ) (one_q : 1 ≤ q) (low_q : q ≤ m.ended) (decides : (m.phases q).decides ≡ ByPosts u) where
    mine : IsMarkedIn m q u
    mine = marked_in size m r q u one_q low_q decides

    -- its transaction is behind the lock phase that marked it
    sends_in : (s : Sends k u) → (m.txns s.txn).phase ≡ q
    sends_in s =
        let by : (m.changes u).by ≡ s.txn = (drawn_by size m r d step allowed s.txn u (applying_own size m r d step allowed s.txn u (sending k u mine.one s).applies)).1 in
        ap (λ i. (m.txns i).phase) (sym (sym mine.by ∙ by)) ∙ mine.phase

    outside_unsent : (m.phases q).reached k ≡ false → Sends k u → ⊥
    outside_unsent none s = apart_bools (sym (ap (λ p. (m.phases p).reached k) (sends_in s)) ∙ (sending k u mine.one s).member.reached) none

    phase_cells : (s : Sends k u) → (phase_of m s.txn).cells ≡ (m.changes u).cells
    phase_cells s = ap (λ p. (m.phases p).cells) (sends_in s) ∙ mine.cells

    pub overtaken_unsent : (p : ℕ) → q < p → p ≤ m.ended → share (m.phases p).cells (m.changes u).cells ≡ true → (m.phases p).reached k ≡ true → Sends k u → ⊥
    overtaken_unsent p after low shared reached s =
        let a = sending k u mine.one s in
        let behind : is_behind (m.txns s.txn).stage ≡ true = ap is_behind a.applies in
        let common : share (phase_of m s.txn).cells (m.phases p).cells ≡ true = ap (λ cs. share cs (m.phases p).cells) (phase_cells s) ∙ share_sym (m.changes u).cells (m.phases p).cells ∙ shared in
        apart_bools (opens m s.txn k (record { grant = a.member.grant.grant; granted = a.member.grant.granted; current = a.member.grant.still_open }))
        (overtaken_apart size m r s.txn p k behind ((works_are_known size m r s.txn).exclusive (ap changes_in a.applies)) (record { later = omega (arith, after, sends_in s); ended = low; common = common }) reached)

    -- where it sends, no replacement over a cell of the change is in the line
    module _ (t : ℕ) (a : IsSending k u t) (phase_is : (phase_of m t).cells ≡ (m.changes u).cells) where
      behind : is_behind (m.txns t).stage ≡ true
      behind = ap is_behind a.applies

      held : IsGranted m k (lock_of t (m.txns t).graph a.member.grant.grant)
      held = HandedIn t a.member.grant.grant (record { granted = a.member.grant.granted; still_open = a.member.grant.still_open; holding = behind_locks (m.txns t).stage behind }) refl

      over : a.member.grant.grant.cells ≡ (m.changes u).cells
      over = ((works_are_known size m r t).grants k a.member.grant.grant a.member.grant.granted).over ∙ sym ((phases_are_known size m r t).cells behind) ∙ phase_is

      asks : (m.txns t).flying k ≡ []
      asks = idle ((m.txns t).flying k) ((m.txns t).waits k) ((m.txns t).out k) _ ((on_their_way size m r).few t k) a.member.answered a.member.not_out

      own_line : (mine_is : Sender → Bool) → (in_outputs mine_is (m.bricks k).outputs ++ (in_locks mine_is (m.bricks k).waiting ++ in_line mine_is (m.bricks k).line)) ≡ [] → AllAsks (λ ask. ⊥) (in_line mine_is (m.bricks k).line)
      own_line mine_is e = subst (AllAsks (λ ask. ⊥)) (sym (empty_right (in_locks mine_is (m.bricks k).waiting) (in_line mine_is (m.bricks k).line) (empty_right (in_outputs mine_is (m.bricks k).outputs) (in_locks mine_is (m.bricks k).waiting ++ in_line mine_is (m.bricks k).line) e))) tt

      own_none : EachInput (λ by ask. by.txn ≡ t → ⊥) (m.bricks k).line
      own_none =
          own_each m k t (λ ask. ⊥) (m.bricks k).line ((on_their_way size m r).numbered k).line
          (connects_come_first size m r k (m.txns t).graph (both_left _ _ a.member.grant.still_open)).line
          (grants_stand size m r k (lock_of t (m.txns t).graph a.member.grant.grant) held).behind
          (own_line (is_mine t (m.links k (m.txns t).graph)) ((on_their_way size m r).known t k ∙ asks))

      by_owner : (by : Sender) (ask : Ask) → IsApartFrom (lock_of t (m.txns t).graph a.member.grant.grant) by ask → (by.txn ≡ t → ⊥) → NoReplaceOn (m.changes u).cells ask
      by_owner by (Replace cell found) apart other = by_case (is_or_not (has_cell (m.changes u).cells cell)) where
        by_case : (has_cell (m.changes u).cells cell ≡ true) ⊎ (has_cell (m.changes u).cells cell ≡ false) → has_cell (m.changes u).cells cell ≡ false
        by_case (inl has) = apart_bools (share_at a.member.grant.grant.cells (cell ∷ []) cell (ap (λ cs. has_cell cs cell) over ∙ has) (or_right (is_cell cell cell) ∙ is_itself cell)) (apart refl other)
        by_case (inr none) = none
      by_owner by (Clear others who) apart other = sym (ap (λ cs. share cs others) over) ∙ apart refl other
      by_owner by ask apart other = tt

      none_in_line : EachInput (λ by ask. NoReplaceOn (m.changes u).cells ask) (m.bricks k).line
      none_in_line =
          each_both (IsApartFrom (lock_of t (m.txns t).graph a.member.grant.grant)) (λ by ask. by.txn ≡ t → ⊥) (λ by ask. NoReplaceOn (m.changes u).cells ask) by_owner (m.bricks k).line
          (granted_alone size m r k (lock_of t (m.txns t).graph a.member.grant.grant) held) own_none

    none_replaces : (s : Sends k u) → EachInput (λ by ask. NoReplaceOn (m.changes u).cells ask) (m.bricks k).line
    none_replaces s = none_in_line s.txn (sending k u mine.one s) (phase_cells s)

  -- ---- lock phases that marked a change before

  pub marked_back : (q u : ℕ) → u ≤ m.drawn → (new.phases q).decides ≡ ByPosts u → PhaseFrom size m new q → (q ≤ m.ended) × ((m.phases q).decides ≡ ByPosts u)
  marked_back q u drawn h (Now t may at is bricks) = absurd (let e : NoChange ≡ ByPosts u = sym (ap (λ (x : Phase). x.decides) is) ∙ h in cc)
  marked_back q u drawn h (Old low) = by_move (phase_moves size m step allowed q) where
    same : (x : Phase) → new.phases q ≡ x → x.decides ≡ (m.phases q).decides → (q ≤ m.ended) × ((m.phases q).decides ≡ ByPosts u)
    same x is e = (low, sym (ap (λ (y : Phase). y.decides) is ∙ e) ∙ h)

    by_move : PhaseMove size m step q (new.phases q) → (q ≤ m.ended) × ((m.phases q).decides ≡ ByPosts u)
    by_move (PhaseMove.Same is) = same _ is refl
    by_move (PhaseMove.Reaches t step_is may at is) = absurd (omega (arith, at, low))
    by_move (PhaseMove.Marks t step_is may at is) = absurd (marks (sym (ap (λ (y : Phase). y.decides) is) ∙ h)) where
      marks : ByPosts (m.drawn + 1) ≡ ByPosts u → ⊥
      marks e = let n : m.drawn + 1 ≡ u = cc in omega (arith, n, drawn)
    by_move (PhaseMove.Posts t step_is may at is) = same _ is refl
    by_move (PhaseMove.SettlesAs t group adopts step_is may at is) = absurd (let e : BySettles may.change group adopts ≡ ByPosts u = sym (ap (λ (y : Phase). y.decides) is) ∙ h in cc)
    by_move (PhaseMove.Asks t k first ask step_is may w at is) = same _ is refl
    by_move (PhaseMove.Clears k by cells who answer run step_is handed stage at is) = same _ is refl
    by_move (PhaseMove.Confirms k by ask answer step_is handed at is) = same _ is refl

  -- ---- a change that becomes unsettled now

  module _ (t u : ℕ) (step_is : step ≡ Step.Unsettles t) (h : MayUnsettle size m t) (at : u ≡ h.change) where
    one_now : 1 ≤ u
    one_now = subst (λ n. 1 ≤ n) (sym at) (becomes_own size m r step allowed t h).1.0

    never : was_unsettled (m.changes u).verdict ≡ false
    never = ap (λ n. was_unsettled (m.changes n).verdict) at ∙ ap was_unsettled (becomes_own size m r step allowed t h).1.1

    drawn_now : u ≤ m.drawn
    drawn_now = drawn_from size m r step allowed u (UnsettledFrom.Becomes t step_is h at)

    pub nowhere : (k : ℕ) → IsWithout new u k
    nowhere k = without_stays size m step allowed u drawn_now k (λ s first op is. absurd (let e : Step.Unsettles t ≡ Step.Asks s k first (Op u op) = sym step_is ∙ is in cc))
        (never_carried size m r u one_now never k (m.changes u).cells) (never_without size m r u one_now never k)

  -- ---- a change that was unsettled

  module _ (replaces : CopyAsksApart m) (u : ℕ) (unsettled : is_unsettled (m.changes u).verdict ≡ true) where
    drawn_then : u ≤ m.drawn
    drawn_then = drawn_from size m r step allowed u (UnsettledFrom.Was unsettled)

    carried : (k : ℕ) → EachInput (λ by ask. CarriesNot (m.changes u).cells u ask) (m.bricks k).line
    carried k = each_map (λ by ask. IsCopyApart m k ask) (λ by ask. CarriesNot (m.changes u).cells u ask) (λ by ask h. of_ask ask h) (m.bricks k).line (replaces k) where
      of_ask : (ask : Ask) → IsCopyApart m k ask → CarriesNot (m.changes u).cells u ask
      of_ask (Replace cell found) h = λ has. (h u unsettled has).0
      of_ask other h = tt

    pub stays_without : (k : ℕ) → (Sends k u → ⊥) → IsWithout m u k → IsWithout new u k
    stays_without k unsent h = without_stays size m step allowed u drawn_then k (λ t first op is. unsent (record { txn = t; first = first; op = op; is = is })) (carried k) h

    cells_then : (cell : Cell) → has_cell (new.changes u).cells cell ≡ true → has_cell (m.changes u).cells cell ≡ true
    cells_then cell has = sym (ap (λ cs. has_cell cs cell) (cells_stay size m step allowed u drawn_then)) ∙ has

  -- ---- lock phases

  within_after : StaysWithin m → CopyAsksApart m → StaysWithin new
  within_after was replaces q u k unsettled one low decides none = by_case (unsettled_from size m r step allowed u unsettled) where
    by_case : UnsettledFrom size m r step allowed u → IsWithout new u k
    by_case (UnsettledFrom.Becomes t step_is h at) = nowhere t u step_is h at k
    by_case (UnsettledFrom.Was before) =
        let old = marked_back q u (drawn_then replaces u before) decides (phase_from size m step allowed q low) in
        let out : (m.phases q).reached k ≡ false = sym (ap (λ (f : Replicas). f k) (goes.reached q old.0)) ∙ none in
        stays_without replaces u before k (outside_unsent q u k one old.0 old.1 out) (was q u k before one old.0 old.1 out)

  -- a lock phase that comes before an unsettled change did so already: it did not end now
  module _ (u p : ℕ) (before : is_unsettled (m.changes u).verdict ≡ true) (shared : share (new.phases p).cells (new.changes u).cells ≡ true) where
    same_cells : (new.changes u).cells ≡ (m.changes u).cells
    same_cells = cells_stay size m step allowed u (drawn_from size m r step allowed u (UnsettledFrom.Was before))

    pub record CameBefore : Type 0 where
      pub low : p ≤ m.ended
      pub comes : ComesBefore (m.phases p) u
      pub common : share (m.phases p).cells (m.changes u).cells ≡ true

    none_seen : (b : Bool) → not b ≡ true → b ≡ false
    none_seen true e = absurd (let no : false ≡ true = e in cc)
    none_seen false e = refl

    settles_none : (decides : Deciding) → decides ≡ NoChange → SettlesOther u decides → ⊥
    settles_none NoChange e h = h
    settles_none (ByPosts v) e h = h
    settles_none (BySettles v group adopts) e h = absurd (let no : BySettles v group adopts ≡ NoChange = e in cc)

    -- where it saw no unsettled change, there was none
    not_now : (t : ℕ) → new.phases p ≡ phase_reached m t → ComesBefore (new.phases p) u → ⊥
    not_now t is (inl untouched) = none_shares size m r (cells_locked (m.txns t).stage) (none_seen (any_touches m.changes m.drawn (cells_locked (m.txns t).stage)) (sym (ap (λ (x : Phase). x.untouched) is) ∙ untouched)) u before
        (share_sym (m.changes u).cells (cells_locked (m.txns t).stage) ∙ ap (share (cells_locked (m.txns t).stage)) (sym same_cells) ∙ sym (ap (λ (x : Phase). share x.cells (new.changes u).cells) is) ∙ shared)
    not_now t is (inr other) = settles_none (new.phases p).decides (ap (λ (x : Phase). x.decides) is) other

    module _ (low : p ≤ m.ended) where
      shared_then : share (m.phases p).cells (m.changes u).cells ≡ true
      shared_then = sym (ap (λ cs. share cs (new.changes u).cells) (goes.cells p low) ∙ ap (share (m.phases p).cells) same_cells) ∙ shared

      same : (x : Phase) → new.phases p ≡ x → x.untouched ≡ (m.phases p).untouched → x.decides ≡ (m.phases p).decides → ComesBefore (new.phases p) u → ComesBefore (m.phases p) u
      same x is untouched decided (inl h) = inl (sym (ap (λ (y : Phase). y.untouched) is ∙ untouched) ∙ h)
      same x is untouched decided (inr h) = inr (subst (SettlesOther u) (ap (λ (y : Phase). y.decides) is ∙ decided) h)

      -- a change that is settled now is unsettled, and has no cell in common with another
      settles : (t : ℕ) (group : Replicas) (adopts : Bool) (h : MaySettleNow size m t group adopts) → p ≡ (m.txns t).phase → (h.change ≢ u) → ⊥
      settles t group adopts h at other =
          let cells : (m.phases p).cells ≡ (m.changes h.change).cells = ap (λ n. (m.phases n).cells) at ∙ (phases_are_known size m r t).cells (ap is_behind h.turn) ∙ ap (cells_of_work m.changes (m.txns t)) h.work_is in
          other (one_unsettled size m r h.change u h.is_unsettled before (sym (ap (λ cs. share cs (m.changes u).cells) cells) ∙ shared_then))

      marks : (x : Phase) → new.phases p ≡ x → x.untouched ≡ (m.phases p).untouched → (SettlesOther u x.decides → ⊥) → ComesBefore (new.phases p) u → ComesBefore (m.phases p) u
      marks x is untouched none (inl h) = inl (sym (ap (λ (y : Phase). y.untouched) is ∙ untouched) ∙ h)
      marks x is untouched none (inr h) = absurd (none (subst (SettlesOther u) (ap (λ (y : Phase). y.decides) is) h))

      comes_then : ComesBefore (new.phases p) u → PhaseMove size m step p (new.phases p) → ComesBefore (m.phases p) u
      comes_then comes (PhaseMove.Same is) = same _ is refl refl comes
      comes_then comes (PhaseMove.Reaches t step_is may at is) = absurd (omega (arith, at, low))
      comes_then comes (PhaseMove.Marks t step_is may at is) = marks _ is refl (λ h. h) comes
      comes_then comes (PhaseMove.Posts t step_is may at is) = same _ is refl refl comes
      comes_then comes (PhaseMove.SettlesAs t group adopts step_is may at is) = marks _ is refl (settles t group adopts may at) comes
      comes_then comes (PhaseMove.Asks t j first ask step_is may w at is) = same _ is refl refl comes
      comes_then comes (PhaseMove.Clears j by cells who answer run step_is handed stage at is) = same _ is refl refl comes
      comes_then comes (PhaseMove.Confirms j by ask answer step_is handed at is) = same _ is refl refl comes

    pub comes_back : ComesBefore (new.phases p) u → PhaseFrom size m new p → CameBefore
    comes_back comes (Now t may at is bricks) = absurd (not_now t is comes)
    comes_back comes (Old low) = record { low = low; comes = comes_then low comes (phase_moves size m step allowed p); common = shared_then low }

  overtaken_after : OvertakenAreWithout m → CopyAsksApart m → OvertakenAreWithout new
  overtaken_after was replaces q p u k unsettled one decides after low shared comes reached = by_case (unsettled_from size m r step allowed u unsettled) where
    by_case : UnsettledFrom size m r step allowed u → IsWithout new u k
    by_case (UnsettledFrom.Becomes t step_is h at) = nowhere t u step_is h at k
    by_case (UnsettledFrom.Was before) =
        let c = comes_back u p before shared comes (phase_from size m step allowed p low) in
        let old = marked_back q u (drawn_then replaces u before) decides (PhaseFrom.Old (omega (arith, after, c.low))) in
        let reached_then : (m.phases p).reached k ≡ true = sym (ap (λ (f : Replicas). f k) (goes.reached p c.low)) ∙ reached in
        stays_without replaces u before k (overtaken_unsent q u k one old.0 old.1 p after c.low c.common reached_then) (was q p u k before one old.1 after c.low c.common c.comes reached_then)

  -- ---- replacements on their way

  module _ (replaces : CopyAsksApart m) (fetched : FetchedApart m) (apart : CopyApartFromUnsettled m) (k : ℕ) where
    record SendsUnsettled : Type 0 where
      change : ℕ
      unsettled : is_unsettled (m.changes change).verdict ≡ true
      sends : Sends k change

    none_beside : (x : SendsUnsettled) → EachInput (λ by ask. NoReplaceOn (m.changes x.change).cells ask) (m.bricks k).line
    none_beside x =
        let marked : IsMarked m x.change = each_is_marked size m r x.change (unsettled_was (m.changes x.change).verdict x.unsettled) in
        none_replaces marked.phase x.change k marked.one marked.low marked.decides x.sends

    -- one that was in the line
    stays_apart : (ask : Ask) → IsCopyApart m k ask → ((x : SendsUnsettled) → NoReplaceOn (m.changes x.change).cells ask) → Carries m.changes ask → IsCopyApart new k ask
    stays_apart (Replace cell found) was beside carries = λ u unsettled has. by_case u has (unsettled_from size m r step allowed u unsettled) where
      by_case : (u : ℕ) → has_cell (new.changes u).cells cell ≡ true → UnsettledFrom size m r step allowed u → (has_change found.copy.changes u ≡ false) × IsWithout new u k
      by_case u has (UnsettledFrom.Becomes t step_is h at) = (never_found size m r u (one_now t u step_is h at) (never t u step_is h at) cell found carries, nowhere t u step_is h at k)
      by_case u has (UnsettledFrom.Was before) =
          let w = was u before (cells_then replaces u before cell has) in
          (w.0, stays_without replaces u before k (λ s. apart_bools (cells_then replaces u before cell has) (beside (record { change = u; unsettled = before; sends = s }))) w.1)
    stays_apart (Clear cells who) was beside carries = λ u cell unsettled has touches. by_case u cell has touches (unsettled_from size m r step allowed u unsettled) where
      by_case : (u : ℕ) (cell : Cell) → has_cell cells cell ≡ true → has_cell (new.changes u).cells cell ≡ true → UnsettledFrom size m r step allowed u → IsWithout new u k
      by_case u cell has touches (UnsettledFrom.Becomes t step_is h at) = nowhere t u step_is h at k
      by_case u cell has touches (UnsettledFrom.Was before) =
          let had = cells_then replaces u before cell touches in
          stays_without replaces u before k (λ s. apart_bools (share_at (m.changes u).cells cells cell had has) (beside (record { change = u; unsettled = before; sends = s }))) (was u cell before has had)
    stays_apart other was beside carries = tt

    line_stays : EachInput (λ by ask. IsCopyApart new k ask) (m.bricks k).line
    line_stays =
        each_both (λ by ask. IsCopyApart m k ask × ((x : SendsUnsettled) → NoReplaceOn (m.changes x.change).cells ask)) (λ by ask. Carries m.changes ask) (λ by ask. IsCopyApart (after size m step) k ask) (λ by ask p c. stays_apart ask p.0 p.1 c) (m.bricks k).line
        (each_both (λ by ask. IsCopyApart m k ask) (λ by ask. (x : SendsUnsettled) → NoReplaceOn (m.changes x.change).cells ask) (λ by ask. IsCopyApart m k ask × ((x : SendsUnsettled) → NoReplaceOn (m.changes x.change).cells ask)) (λ by ask p q. (p, q)) (m.bricks k).line (replaces k)
        (each_all (λ (x : SendsUnsettled) by ask. NoReplaceOn (m.changes x.change).cells ask) (m.bricks k).line none_beside))
        ((copies_are_of_changes size m r).bricks k).line

    -- one that is sent now
    sent_apart : (t : ℕ) (first : Bool) (ask : Ask) → step ≡ Step.Asks t k first ask → MayAsk size m t k ask → IsCopyApart new k ask
    sent_apart t first (Replace cell found) is may = λ u unsettled has. by_case u has (unsettled_from size m r step allowed u unsettled) where
      by_case : (u : ℕ) → has_cell (new.changes u).cells cell ≡ true → UnsettledFrom size m r step allowed u → (has_change found.copy.changes u ≡ false) × IsWithout new u k
      by_case u has (UnsettledFrom.Becomes s step_is h at) = absurd (let e : Step.Asks t k first (Replace cell found) ≡ Step.Unsettles s = sym is ∙ step_is in cc)
      by_case u has (UnsettledFrom.Was before) =
          let has_then = cells_then replaces u before cell has in (
            fetched t u may.run cell found may.turn may.fetched before has_then,
            stays_without replaces u before k (λ s. absurd (let e : Step.Asks t k first (Replace cell found) ≡ Step.Asks s.txn k s.first (Op u s.op) = sym is ∙ s.is in cc))
                (apart t u k may.run cell may.turn may.of_run before has_then may.member.reached (opens m t k (record { grant = may.member.grant.grant; granted = may.member.grant.granted; current = may.member.grant.still_open }))),
          )
    sent_apart t first (Clear cells who) is may = λ u cell unsettled has touches. by_case u cell has touches (unsettled_from size m r step allowed u unsettled) where
      by_case : (u : ℕ) (cell : Cell) → has_cell cells cell ≡ true → has_cell (new.changes u).cells cell ≡ true → UnsettledFrom size m r step allowed u → IsWithout new u k
      by_case u cell has touches (UnsettledFrom.Becomes s step_is h at) = absurd (let e : Step.Asks t k first (Clear cells who) ≡ Step.Unsettles s = sym is ∙ step_is in cc)
      by_case u cell has touches (UnsettledFrom.Was before) =
          let member = may.next.member in
          stays_without replaces u before k (λ s. absurd (let e : Step.Asks t k first (Clear cells who) ≡ Step.Asks s.txn k s.first (Op u s.op) = sym is ∙ s.is in cc))
          (apart t u k may.run cell may.turn (sym (ap (λ cs. has_cell cs cell) may.cells_are) ∙ has) before (cells_then replaces u before cell touches) member.reached (opens m t k (record { grant = member.grant.grant; granted = member.grant.granted; current = member.grant.still_open })))
    sent_apart t first other is may = tt

    sent_line : (t : ℕ) (first : Bool) (ask : Ask) → step ≡ Step.Asks t k first ask → MayAsk size m t k ask → EachInput (λ by a. IsCopyApart new k a) (inputs_of (sender_of m t k) (asks_of first ask))
    sent_line t true ask is may = (tt, (sent_apart t true ask is may, tt))
    sent_line t false ask is may = (sent_apart t false ask is may, tt)

    taken_line : (st : Step) → step ≡ st → Allowed size m st → (inputs : List Input) → IsTaken m st k inputs → EachInput (λ by a. IsCopyApart new k a) inputs
    taken_line (Step.Asks t j first ask) is h inputs taken =
        subst (EachInput (λ by a. IsCopyApart (after size m step) k a)) (sym (taken.1 ∙ ap (λ n. inputs_of (sender_of m t n) (asks_of first ask)) (sym taken.0)))
        (sent_line t first ask (is ∙ ap (λ n. Step.Asks t n first ask) (sym taken.0)) (subst (λ n. MayAsk size m t n ask) (sym taken.0) h.0))
    taken_line (Step.Controls j steering) is h inputs taken = subst (EachInput (λ by a. IsCopyApart (after size m step) k a)) (sym taken.1) tt
    taken_line (Step.Connects j g) is h inputs taken = subst (EachInput (λ by a. IsCopyApart (after size m step) k a)) (sym taken.1) tt
    taken_line (Step.Cuts j g) is h inputs taken = subst (EachInput (λ by a. IsCopyApart (after size m step) k a)) (sym taken.1) tt
    taken_line other is h inputs taken = absurd taken

    replaces_after : EachInput (λ by ask. IsCopyApart new k ask) (new.bricks k).line
    replaces_after = move_each (IsTaken m step k) (m.bricks k) (new.bricks k) (λ by a. IsCopyApart (after size m step) k a) (taken_line step refl allowed) line_stays (bricks_move size m step allowed k)

  -- ---- what is fetched

  module _ (replaces : CopyAsksApart m) (was : FetchedApart m) (apart : CopyApartFromUnsettled m) (t u : ℕ) (run : CopyRun) (copies : (new.txns t).stage ≡ Copying run) (cell : Cell) (found : Fetched) (fetched : run.fetched cell ≡ Some found) where
    carried_never : (before : CopyRun) → (m.txns t).stage ≡ Copying before → before.fetched cell ≡ Some found → (s : ℕ) → step ≡ Step.Unsettles s → (h : MayUnsettle size m s) → u ≡ h.change → has_change found.copy.changes u ≡ false
    carried_never before is old s step_is h at =
        never_found size m r u (one_now s u step_is h at) (never s u step_is h at) cell found ((subst (RunShows m.changes) is ((copies_are_of_changes size m r).runs t)) cell found old)

    of_before : (before : CopyRun) → (m.txns t).stage ≡ Copying before → before.fetched cell ≡ Some found → has_cell (new.changes u).cells cell ≡ true → UnsettledFrom size m r step allowed u → has_change found.copy.changes u ≡ false
    of_before before is old has (UnsettledFrom.Becomes s step_is h at) = carried_never before is old s step_is h at
    of_before before is old has (UnsettledFrom.Was unsettled) = was t u before cell found is old unsettled (cells_then replaces u unsettled cell has)

    -- the answer to a fetch is the copy of a brick that takes part
    fetches_apart : (k : ℕ) (by : Sender) (before : CopyRun) → IsHandedIn m k by (Fetch cell) (Content found) → (m.txns by.txn).stage ≡ Copying before → is_unsettled (m.changes u).verdict ≡ true → has_cell (m.changes u).cells cell ≡ true → has_change found.copy.changes u ≡ false
    fetches_apart k by before handed is unsettled has = sym (ap (λ us. has_change us u) (applied_of ((m.bricks k).store cell).copy ((m.bricks k).store cell).last found shown)) ∙ (apart by.txn u k before cell is of_run unsettled has member.reached granted).copies cell has where
      waits : (m.txns by.txn).waits k ≡ true
      waits = both_left ((m.txns by.txn).waits k) (is_single ((m.txns by.txn).flying k)) handed.awaited

      member : IsMemberOf (phase_of m by.txn) (m.txns by.txn) k
      member = asked_are_members size m r by.txn k (ap is_behind is) waits

      reply : IsReplyIn by (Fetch cell) (Content found) (m.bricks k).outputs
      reply = subst (IsReplyIn by (Fetch cell) (Content found)) (sym handed.front) (inl (refl, (refl, refl)))

      granted : open_grants m by.txn k ≡ true
      granted = opens m by.txn k (record {
        grant = member.grant;
        granted = member.granted;
        current = ap (is_current (m.links k (m.txns by.txn).graph)) member.on ∙ asked_current ((m.txns by.txn).flying k) ((m.txns by.txn).waits k) ((m.txns by.txn).out k) _ ((on_their_way size m r).few by.txn k) (both_right ((m.txns by.txn).waits k) (is_single ((m.txns by.txn).flying k)) handed.awaited) member.not_out;
      })

      asked : IsAskedBy size m.changes (m.txns by.txn).job (Copying before) k (Fetch cell)
      asked = subst (λ s. IsAskedBy size m.changes (m.txns by.txn).job s k (Fetch cell)) is (asked_now size m r k by (Fetch cell) (Content found) reply handed.current member.not_out refl).asked

      of_source : IsAskedBy size m.changes (m.txns by.txn).job (Copying before) k (Fetch cell) → has_cell before.cells cell ≡ true
      of_source (inl locked) = absurd (let e : Copying before ≡ Stage.Locked = locked.0 in cc)
      of_source (inr fetches) = fetches.1.0

      of_run : has_cell before.cells cell ≡ true
      of_run = of_source asked

      shown : copy_at m k cell ≡ Some found
      shown = reply_at (ShowsCopy m k) by (Fetch cell) (Content found) (m.bricks k).outputs ((copies_stand size m r).answers k) reply handed.current (record { copying = ap is_copying is; not_out = member.not_out; granted = granted })

    fetched_after : RunMove size m step t run → is_unsettled (new.changes u).verdict ≡ true → has_cell (new.changes u).cells cell ≡ true → has_change found.copy.changes u ≡ false
    fetched_after (RunMove.Stays is) unsettled has = of_before run is fetched has (unsettled_from size m r step allowed u unsettled)
    fetched_after (RunMove.Begins step_is h) unsettled has = absurd (let e : None ≡ Some found = sym (ap (λ (f : Cell → Option Fetched). f cell) h.not_fetched) ∙ fetched in cc)
    fetched_after (RunMove.Clears step_is h is) unsettled has = of_before h.run h.turn (sym (ap (λ (x : CopyRun). x.fetched cell) is) ∙ fetched) has (unsettled_from size m r step allowed u unsettled)
    fetched_after (RunMove.Replaces k by at new_copy answer before step_is handed txn stage is) unsettled has = of_before before stage (sym (ap (λ (x : CopyRun). x.fetched cell) is) ∙ fetched) has (unsettled_from size m r step allowed u unsettled)
    fetched_after (RunMove.Fetches k by at new_copy before step_is handed txn stage is) unsettled has = by_case (fetched_from before.fetched at cell new_copy found (sym (ap (λ (x : CopyRun). x.fetched cell) is) ∙ fetched)) (unsettled_from size m r step allowed u unsettled) where
      by_case : (before.fetched cell ≡ Some found) ⊎ ((cell ≡ at) × (new_copy ≡ found)) → UnsettledFrom size m r step allowed u → has_change found.copy.changes u ≡ false
      by_case (inl old) from = of_before before stage old has from
      by_case (inr now) (UnsettledFrom.Becomes s u_is h u_at) = absurd (let e : Step.HandsIn k ≡ Step.Unsettles s = sym step_is ∙ u_is in cc)
      by_case (inr now) (UnsettledFrom.Was before_then) =
          fetches_apart k by before (subst (λ c. IsHandedIn m k by (Fetch c) (Content found)) (sym now.0) (subst (λ f. IsHandedIn m k by (Fetch at) (Content f)) now.1 handed)) (subst (λ i. (m.txns i).stage ≡ Copying before) (sym txn) stage) before_then (cells_then replaces u before_then cell has)

-- ---- every list of steps

pub record AreApart (m : State) : Type 0 where
  pub within : StaysWithin m
  pub overtaken : OvertakenAreWithout m
  pub replaces : CopyAsksApart m
  pub fetched : FetchedApart m

are_apart : (size : Size) (m : State) → IsReached size m → AreApart m
are_apart size m IsReached.Start = record {
  within = λ q u k unsettled. absurd (let e : false ≡ true = unsettled in cc);
  overtaken = λ q p u k unsettled. absurd (let e : false ≡ true = unsettled in cc);
  replaces = λ k. tt;
  fetched = λ t u run cell found copies fetched unsettled. absurd (let e : false ≡ true = unsettled in cc);
}
are_apart size m (IsReached.Further old step reached allowed) =
    let a = are_apart size old reached in
    let c = copies_apart size old reached a.within a.overtaken in
    record {
      within = within_after size old reached step allowed a.within a.replaces;
      overtaken = overtaken_after size old reached step allowed a.overtaken a.replaces;
      replaces = λ k. replaces_after size old reached step allowed a.replaces a.fetched c k;
      fetched = λ t u run cell found copies fetched unsettled has. fetched_after size old reached step allowed a.replaces a.fetched c t u run copies cell found fetched (run_moves size old step allowed t run copies) unsettled has;
    }

pub keeps_copies_apart : EveryCopyIsApart
keeps_copies_apart size m r =
    let a = are_apart size m r in
    record { within = a.within; overtaken = a.overtaken; replaces = a.replaces; fetched = a.fetched; copies = copies_apart size m r a.within a.overtaken }
