-- A step that decides an unsettled change: each replica is as decided, or a quorum accuses it for good on each of the change's cells.
use Rattle.std.proofs.Common.{◌≡◌, ◌∙◌, ℕ, ◌≤◌, ◌<◌, Bool, true, false, refl, sym, ap, subst, ◌⊎◌, inl, inr, arith, Option, Some, None}
use Rattle.std.specs.Prelude.{◌≢◌, ◌&&◌, not}
use Rattle.std.proofs.lemmas.Bool.{cases_eq, cases_lt}
use Rattle.fop_types.specs.StoreOps.{needs}
use Rattle.fop_types.specs.declared.cells.Cell.{Cell}
use Rattle.fop_types.specs.declared.store_ops.StoreOp.{StoreOp}
use Rattle.afr_machine.specs.Replicas.{Replicas, Size, IsSize}
use Rattle.afr_machine.specs.Touching.{has_cell, share}
use Rattle.afr_machine.specs.Copies.{has_change}
use Rattle.afr_machine.specs.Requests.{Ask}
use Rattle.afr_machine.specs.Requests.Ask.{Op}
use Rattle.afr_machine.specs.Changes.{Change, is_unsettled, verdict_of}
use Rattle.afr_machine.specs.Phases.{Deciding as PhaseDeciding}
use Rattle.afr_machine.specs.Phases.Deciding.{NoChange, ByPosts, BySettles}
use Rattle.afr_machine.specs.Transactions.{Grant, Stage}
use Rattle.afr_machine.specs.Transactions.Stage.{Settling, Copying}
use Rattle.afr_machine.specs.States.{State, phase_of}
use Rattle.afr_machine.specs.Turns.{IsInGroup, is_granted}
use Rattle.afr_machine.specs.Steps.{Step, Allowed, after, IsReached, decided, deciding, decided_by}
use Rattle.afr_machine.proofs.Tables.{at_same}
use Rattle.afr_laws.specs.Senders.{EachInput}
use Rattle.afr_laws.specs.Rows.{accuses_at, pardons}
use Rattle.afr_laws.specs.Numbers.{applied}
use Rattle.afr_laws.specs.Copies.{IsOpOf, Carries}
use Rattle.afr_laws.specs.Fresh.{is_behind}
use Rattle.afr_laws.specs.Work.{changes_in}
use Rattle.afr_laws.proofs.Bools.{apart_bools, is_or_not, both, not_false}
use Rattle.afr_laws.proofs.Copies.Asks.{sent_is, share_at}
use Rattle.afr_laws.proofs.Copies.Steps.{copies_are_of_changes}
use Rattle.afr_laws.proofs.Fresh.Known.{phases_are_known}
use Rattle.afr_laws.proofs.OwnChanges.Steps.{changes_are_own}
use Rattle.afr_laws.proofs.Overtaken.Steps.{overtaken_apart}
use Rattle.afr_laws.proofs.Work.Known.{works_are_known}
use Rattle.afr_soundness.specs.CopyApart.{IsNoOpOf}
use Rattle.afr_soundness.specs.Deciding.{DecidesIn}
use Rattle.afr_soundness.specs.Later.{IsOf}
use Rattle.afr_soundness.proofs.Applied.{applied_holds}
use Rattle.afr_soundness.proofs.Copied.Lines.{each_both}
use Rattle.afr_soundness.proofs.Deciding.Whose.{decides_exactly}
use Rattle.afr_soundness.proofs.Takers.Steps.{inside}
use Rattle.afr_soundness.proofs.Unsettled.{UnsettledFrom, unsettled_from, is_some_change}
use Rattle.afr_decisions.specs.Asks.{IsNewAt}
use Rattle.afr_decisions.specs.Confirmed.{IsReported}
use Rattle.afr_decisions.specs.Settlings.{IsSettling, StandsSettling}
use Rattle.afr_decisions.specs.Staying.{AccusesStaying}
use Rattle.afr_decisions.specs.Stands.{DecidesAs, spared_by, IsDecidedBy}
use Rattle.afr_decisions.proofs.Cells.{SomeCell, sent_has_cell}
use Rattle.afr_decisions.proofs.Confirmed.{keeps_confirmed}
use Rattle.afr_decisions.proofs.OpsNew.{ops_are_new}
use Rattle.afr_decisions.proofs.Settlings.{settlings_stand}
use Rattle.afr_decisions.proofs.Shown.{decided_cells}
use Rattle.afr_decisions.proofs.Staying.{confirmed_accuse}
use Rattle.afr_decisions.proofs.Stands.{decides_of, group_has, spared_has, some_one, counted_decides, decisions_stand}
use Rattle.afr_contents.specs.Staying.{accusers_staying, pardons_coming, SendsPardon}
use Rattle.afr_contents.specs.Spread.{HasAsDecided}
use Rattle.afr_contents.specs.Naming.{CanSource, IsSourceFor, is_copied_to, held_by, MayPardon}
use Rattle.afr_contents.specs.Lasting.{IsAccusedApart}
use Rattle.afr_contents.proofs.Staying.{accusations_stay}
use Rattle.afr_contents.proofs.Spread.{none_coming, is_outside}
use Rattle.afr_contents.proofs.Settled.{Deciding}
use Rattle.afr_contents.proofs.Using.{held_granted}
use Rattle.afr_contents.proofs.Unaccused.{group_unaccused, unreached_accused}
use Rattle.afr_contents.proofs.Copying.{SourceOf, CameBefore, held_unconfirmed, copying_before, source_of}

-- the replica has the change as decided, and no op of it is on its way there
pub record IsAsDecided (m : State) (u : ℕ) (adopts : Bool) (i : ℕ) : Type 0 where
  pub has : HasAsDecided m u adopts i
  pub line : EachInput (λ by ask. IsNoOpOf u ask) (m.bricks i).line

decides_alike : (u : ℕ) (a b : Bool) (decides : PhaseDeciding) → DecidesAs u a decides → DecidesAs u b decides → a ≡ b
decides_alike u a b NoChange h k = absurd h
decides_alike u a b (ByPosts v) h k = h.1 ∙ sym k.1
decides_alike u a b (BySettles v group verdict) h k = sym h.1 ∙ k.1

module _ (size : Size) (m : State) (is_size : IsSize size) (r : IsReached size m) (u : ℕ) (unsettled : is_unsettled (m.changes u).verdict ≡ true) where
  some : SomeCell (m.changes u).cells
  some = sent_has_cell size m r u (sent_is (m.changes u).verdict unsettled)

  -- ---- who takes part in a decision is as decided

  module _ (i : ℕ) (few : i < size.replicas) where
    not_that : (m.changes u).done i ≡ true → (v : ℕ) (op : StoreOp) → IsOpOf m.changes v op → IsNewAt m i (Op v op) → v ≡ u → ⊥
    not_that done v op carries new same = by_case carries where
      needed : op ≡ (m.changes v).op → has_cell (needs op) some.cell ≡ true
      needed is = ap (λ o. has_cell (needs o) some.cell) (is ∙ ap (λ n. (m.changes n).op) same) ∙ ap (λ cs. has_cell cs some.cell) (sym ((changes_are_own size m r).fit.needs_are u)) ∙ some.has

      by_case : IsOpOf m.changes v op → ⊥
      by_case (inl birth) = let one = is_some_change size m r u (m.changes u).cells (share_at (m.changes u).cells (m.changes u).cells some.cell some.has some.has) in let none = birth.0 in absurd (omega (arith, one, none, same))
      by_case (inr sent) = apart_bools ((applied_holds size m r).done u i unsettled done some.cell some.has) (ap (has_change (applied m i some.cell)) (sym same) ∙ new some.cell (needed sent.1))

    no_op : (m.changes u).done i ≡ true → (ask : Ask) → Carries m.changes ask → IsNewAt m i ask → IsNoOpOf u ask
    no_op done (Op v op) carries new = not_that done v op carries new
    no_op done other carries new = tt

    group_line : (p : ℕ) (group : Replicas) (adopts : Bool) → IsSettling m p u group adopts → group i ≡ true → EachInput (λ by ask. IsNoOpOf u ask) (m.bricks i).line
    group_line p group adopts s in_it =
        let stands : StandsSettling size m p u group adopts = settlings_stand size m r p u group adopts s in
        let g : IsInGroup size (m.phases p) u (m.changes u).cells adopts i = stands.group_is.members i few in_it in
        ((stands.unsettled unsettled).agrees i some.cell g.reached some.has).line

    group_as_decided : (p : ℕ) (group : Replicas) (adopts : Bool) → IsSettling m p u group adopts → group i ≡ true → IsAsDecided m u adopts i
    group_as_decided p group adopts s in_it = record { has = λ cell has. group_has size m r u unsettled i few cell has p group adopts s in_it; line = group_line p group adopts s in_it }

    spared_line : (p : ℕ) (adopts : Bool) → 1 ≤ p → p ≤ m.ended → (d : PhaseDeciding) → (m.phases p).decides ≡ d → DecidesAs u adopts d → spared_by m.changes d i ≡ true → EachInput (λ by ask. IsNoOpOf u ask) (m.bricks i).line
    spared_line p adopts one low NoChange is h spared = absurd h
    spared_line p adopts one low (ByPosts v) is h spared =
        each_both (λ by ask. Carries m.changes ask) (λ by ask. IsNewAt m i ask) (λ by ask. IsNoOpOf u ask) (λ by ask. no_op (ap (λ n. (m.changes n).done i) (sym h.0) ∙ spared) ask) (m.bricks i).line
        ((copies_are_of_changes size m r).bricks i).line (ops_are_new size m r i)
    spared_line p adopts one low (BySettles v group verdict) is h spared = group_line p group verdict (record { one = one; low = low; decides = is ∙ ap (λ n. BySettles n group verdict) h.0 }) spared

    spared_as_decided : (p : ℕ) (adopts : Bool) (d : IsDecidedBy size m p u adopts) → spared_by m.changes (m.phases p).decides i ≡ true → IsAsDecided m u adopts i
    spared_as_decided p adopts d spared = record {
      has = λ cell has. spared_has size m r u unsettled i few cell has p adopts d.one d.low (m.phases p).decides refl d.decides spared;
      line = spared_line p adopts d.one d.low (m.phases p).decides refl d.decides spared;
    }

    -- whoever is not is accused
    pub left_out : (p : ℕ) (adopts : Bool) (d : IsDecidedBy size m p u adopts) → (IsAsDecided m u adopts i → ⊥) → (m.phases p).accused i ≡ true
    left_out p adopts d not_so = by_case (is_or_not (spared_by m.changes (m.phases p).decides i)) where
      reported : IsReported size m.changes (m.phases p) (some_one size is_size m r p u adopts d).member (m.phases p).decides
      reported = ((keeps_confirmed size m r).phases p (some_one size is_size m r p u adopts d).member d.one d.low (some_one size is_size m r p u adopts d).is).reported

      by_report : (decides : PhaseDeciding) → IsReported size m.changes (m.phases p) (some_one size is_size m r p u adopts d).member decides → spared_by m.changes decides i ≡ false → (m.phases p).accused i ≡ true
      by_report NoChange h none = absurd h
      by_report (ByPosts v) h none = h.1 i ∙ is_outside size (m.changes v).done i few none
      by_report (BySettles v group verdict) h none = h i ∙ is_outside size group i few none

      by_case : (spared_by m.changes (m.phases p).decides i ≡ true) ⊎ (spared_by m.changes (m.phases p).decides i ≡ false) → (m.phases p).accused i ≡ true
      by_case (inl spared) = absurd (not_so (spared_as_decided p adopts d spared))
      by_case (inr none) = by_report (m.phases p).decides reported none

-- ---- the step

-- a decision leaves all but changes and what is adopted
decided_is : (m : State) (o : Option (ℕ × Bool)) → decided m o ≡ record m { changes = (decided m o).changes; adopted = (decided m o).adopted }
decided_is m None = refl
decided_is m (Some d) = by_case d.1 (is_unsettled (m.changes d.0).verdict) where
  by_case : (a b : Bool) → deciding m d.0 a b ≡ record m { changes = (deciding m d.0 a b).changes; adopted = (deciding m d.0 a b).adopted }
  by_case a false = refl
  by_case true true = refl
  by_case false true = refl

module _ (size : Size) (m : State) (is_size : IsSize size) (r : IsReached size m) (step : Step) (allowed : Allowed size m step) (u : ℕ) (d : Deciding size m r step allowed u) where
  abbrev new : State
  new = after size m step

  pub new_is : new ≡ record m { changes = new.changes; adopted = new.adopted }
  new_is = subst (λ st. after size m st ≡ record m { changes = (after size m st).changes; adopted = (after size m st).adopted }) (sym d.step_is) (decided_is m (decided_by (m.txns d.txn).stage))

  granted_same : (t k : ℕ) (o : Option Grant) → is_granted o (record m { changes = new.changes; adopted = new.adopted }) t k ≡ is_granted o m t k
  granted_same t k None = refl
  granted_same t k (Some grant) = refl

  held_same : (t k : ℕ) → held_by (record m { changes = new.changes; adopted = new.adopted }) t k ≡ held_by m t k
  held_same t k = ap (λ b. (phase_of m t).reached k && b) (granted_same t k ((m.txns t).grants k))

  -- what is held stays so
  pub held_still : (t k : ℕ) → held_by new t k ≡ held_by m t k
  held_still t k = ap (λ (x : State). held_by x t k) new_is ∙ held_same t k

  abbrev pub phase : ℕ
  phase = (m.txns d.txn).phase

  pub by_quorum : IsDecidedBy size m phase u d.may.adopts
  by_quorum = counted_decides size is_size m r d.txn u d.may.adopts d.may.many (d.may.decision ∙ ap (λ (n : ℕ). Some (n, d.may.adopts)) (sym d.at))

  abbrev pub unsettled : is_unsettled (m.changes u).verdict ≡ true
  unsettled = d.unsettled

  verdict_now : (new.changes u).verdict ≡ verdict_of d.may.adopts
  verdict_now =
      ap (λ st. ((after size m st).changes u).verdict) d.step_is ∙ ap (λ o. ((decided m o).changes u).verdict) (d.may.decision ∙ ap (λ (n : ℕ). Some (n, d.may.adopts)) (sym d.at))
      ∙ ap (λ b. ((deciding m u d.may.adopts b).changes u).verdict) unsettled ∙ by_case d.may.adopts where
        by_case : (a : Bool) → ((deciding m u a true).changes u).verdict ≡ verdict_of a
        by_case true = ap (λ (c : Change). c.verdict) (at_same m.changes u _)
        by_case false = ap (λ (c : Change). c.verdict) (at_same m.changes u _)

  -- what is unsettled after it was so, and is another change
  pub still : (w : ℕ) → is_unsettled (new.changes w).verdict ≡ true → (is_unsettled (m.changes w).verdict ≡ true) × (w ≢ u)
  still w now = (by_case (unsettled_from size m r step allowed w now), λ same. other same (is_or_not d.may.adopts)) where
    by_case : UnsettledFrom size m r step allowed w → is_unsettled (m.changes w).verdict ≡ true
    by_case (UnsettledFrom.Was h) = h
    by_case (UnsettledFrom.Becomes t step_is h at) = absurd (let no : Step.Decides d.txn ≡ Step.Unsettles t = sym d.step_is ∙ step_is in cc)

    other : w ≡ u → (d.may.adopts ≡ true) ⊎ (d.may.adopts ≡ false) → ⊥
    other same (inl does) = apart_bools now (ap (λ n. is_unsettled (new.changes n).verdict) same ∙ ap is_unsettled (verdict_now ∙ ap verdict_of does))
    other same (inr drops) = apart_bools now (ap (λ n. is_unsettled (new.changes n).verdict) same ∙ ap is_unsettled (verdict_now ∙ ap verdict_of drops))

  -- ---- a transaction that settles the change beside

  module _ (t : ℕ) (group : Replicas) (adopts : Bool) (is : (m.txns t).stage ≡ Settling u group adopts) where
    settling_behind : is_behind (m.txns t).stage ≡ true
    settling_behind = ap is_behind is

    settling : IsSettling m (m.txns t).phase u group adopts
    settling = record {
      one = ((decides_exactly size m r).transactions t).one settling_behind;
      low = (phases_are_known size m r t).low;
      decides = subst (λ st. DecidesIn size m.changes (m.txns t).work st (phase_of m t)) is ((decides_exactly size m r).transactions t).decides;
    }

    settles_of : IsOf u (m.phases (m.txns t).phase).decides
    settles_of = subst (IsOf u) (sym settling.decides) refl

    -- it agrees, but where the lock phase that decides ended later
    pub settler_agrees : phase ≤ (m.txns t).phase → adopts ≡ d.may.adopts
    settler_agrees least = by_order (cases_eq phase (m.txns t).phase) where
      by_order : (phase ≡ (m.txns t).phase) ⊎ (phase ≢ (m.txns t).phase) → adopts ≡ d.may.adopts
      by_order (inl same) = decides_alike u adopts d.may.adopts (m.phases (m.txns t).phase).decides (subst (DecidesAs u adopts) (sym settling.decides) (refl, refl)) (subst (λ p. DecidesAs u d.may.adopts (m.phases p).decides) same by_quorum.decides)
      by_order (inr other) = sym ((decisions_stand size m is_size r).later phase (m.txns t).phase u d.may.adopts adopts group by_quorum settling (omega (arith, least, other)))

    pub settler_has : (i : ℕ) → i < size.replicas → group i ≡ true → phase ≤ (m.txns t).phase → IsAsDecided m u d.may.adopts i
    settler_has i few in_it least = subst (λ b. IsAsDecided m u b i) (settler_agrees least) (group_as_decided size m is_size r u unsettled i few (m.txns t).phase group adopts settling in_it)

    module _ (cell : Cell) (touches : has_cell (m.changes u).cells cell ≡ true) where
      shared : share (phase_of m t).cells (m.phases phase).cells ≡ true
      shared =
          share_at (phase_of m t).cells (m.phases phase).cells cell (ap (λ cs. has_cell cs cell) (decided_cells size m r (m.txns t).phase u settling.one settling.low settles_of) ∙ touches)
          (ap (λ cs. has_cell cs cell) (decided_cells size m r phase u by_quorum.one by_quorum.low (decides_of u d.may.adopts (m.phases phase).decides by_quorum.decides)) ∙ touches)

      -- and then it holds no brick that this one reached
      pub later_unheld : (k : ℕ) → (m.txns t).phase < phase → (m.phases phase).reached k ≡ true → held_by m t k ≡ true → ⊥
      later_unheld k later reached held =
          apart_bools (held_granted m t k held) (overtaken_apart size m r t phase k settling_behind ((works_are_known size m r t).exclusive (ap changes_in is)) (record { later = later; ended = by_quorum.low; common = shared }) reached)

      -- whom its group has is not accused, where it holds one of those who confirmed
      settles_not : (k i : ℕ) → i < size.replicas → (m.phases phase).confirmed k ≡ true → held_by m t k ≡ true → group i ≡ true → (m.phases phase).accused i ≡ true → ⊥
      settles_not k i few noted held in_it accused = by_order (cases_lt (m.txns t).phase phase) (cases_eq phase (m.txns t).phase) where
        by_order : ((m.txns t).phase < phase) ⊎ (phase ≤ (m.txns t).phase) → (phase ≡ (m.txns t).phase) ⊎ (phase ≢ (m.txns t).phase) → ⊥
        by_order (inl later) other = later_unheld k later ((keeps_confirmed size m r).phases phase k by_quorum.one by_quorum.low noted).reached held
        by_order (inr least) (inl same) =
            let reported : IsReported size m.changes (m.phases phase) k (BySettles u group adopts) = subst (IsReported size m.changes (m.phases phase) k) (ap (λ p. (m.phases p).decides) same ∙ settling.decides) ((keeps_confirmed size m r).phases phase k by_quorum.one by_quorum.low noted).reported in
            apart_bools accused (reported i ∙ inside size group i in_it)
        by_order (inr least) (inr other) = group_unaccused size m is_size r phase u d.may.adopts by_quorum i few (m.txns t).phase group adopts settling (omega (arith, least, other)) in_it accused

  -- ---- nobody may pardon who confirmed one whom the lock phase accuses

  module _ (cell : Cell) (touches : has_cell (m.changes u).cells cell ≡ true) where
    pub source_now : (t s : ℕ) (covers : has_cell (phase_of m t).cells cell ≡ true) → CanSource size new.changes (m.txns t).job (m.txns t).work (phase_of m t) cell s (m.txns t).stage → SourceOf size m r u unsettled cell touches t covers
    source_now t s covers h = source_of size m r u unsettled cell touches t covers new.changes still s (m.txns t).stage refl h

    module _ (t k i : ℕ) (few : i < size.replicas) (noted : (m.phases phase).confirmed k ≡ true) (accused : (m.phases phase).accused i ≡ true) (held : held_by m t k ≡ true) (covers : has_cell (phase_of m t).cells cell ≡ true) where
      before_not : CameBefore size m r u unsettled cell touches t → ⊥
      before_not c = held_unconfirmed size m r u unsettled cell touches t c phase k d.may.adopts by_quorum noted held

      by_source : CanSource size new.changes (m.txns t).job (m.txns t).work (phase_of m t) cell i (m.txns t).stage → SourceOf size m r u unsettled cell touches t covers → ⊥
      by_source source (SourceOf.Before c) = before_not c
      by_source source (SourceOf.Settled group adopts is) = settles_not t group adopts is cell touches k i few noted held (subst (CanSource size new.changes (m.txns t).job (m.txns t).work (phase_of m t) cell i) is source) accused

      by_sink : (stage : Stage) → (m.txns t).stage ≡ stage → is_copied_to stage cell i ≡ true → ⊥
      by_sink (Copying run) is h = before_not (copying_before size m r u unsettled cell touches t covers run is)
      by_sink other is h = absurd (let no : false ≡ true = h in cc)

      by_names : IsSourceFor size (record m { changes = new.changes; adopted = new.adopted }) t cell i ⊎ (is_copied_to (m.txns t).stage cell i ≡ true) → ⊥
      by_names (inl source) = by_source source (source_now t i covers source)
      by_names (inr sink) = by_sink (m.txns t).stage refl sink

    unpardoned : (t k i : ℕ) → i < size.replicas → (m.phases phase).confirmed k ≡ true → (m.phases phase).accused i ≡ true → MayPardon size (record m { changes = new.changes; adopted = new.adopted }) t k i cell → ⊥
    unpardoned t k i few noted accused p = by_names t k i few noted accused (sym (held_same t k) ∙ p.held) p.covers p.names

    -- ---- so whom it accuses is accused for good

    module _ (i : ℕ) (few : i < size.replicas) (accused : (m.phases phase).accused i ≡ true) (these : Replicas) (apart : (k : ℕ) → (m.phases phase).confirmed k ≡ true → these k ≡ false) where
      accuses : (k : ℕ) → (m.phases phase).confirmed k ≡ true → accusers_staying m cell i k ≡ true
      accuses k noted =
          let a : AccusesStaying m k cell i = confirmed_accuse size m r phase u k i cell by_quorum.one by_quorum.low (decides_of u d.may.adopts (m.phases phase).decides by_quorum.decides) unsettled noted touches accused in
          both (accuses_at (m.bricks k).store cell i) (not (pardons_coming (m.bricks k).line cell i)) a.accuses (not_false (none_coming (λ by ask. pardons ask cell i ≡ false) cell i (λ by ask none. none) (m.bricks k).line a.line))

      unsent : (k : ℕ) → SendsPardon step k cell i → ⊥
      unsent k s = absurd (let no : Step.Decides d.txn ≡ Step.Asks s.txn k s.first _ = sym d.step_is ∙ s.is in cc)

      pub decided_accused : IsAccusedApart size new cell i these
      decided_accused = record {
        by = (m.phases phase).confirmed;
        many = by_quorum.many;
        each = λ k low noted. record {
          stays = accusations_stay size m step allowed k i cell (accuses k noted) (unsent k);
          lasts = λ t p. unpardoned t k i few noted accused (subst (λ x. MayPardon size x t k i cell) new_is p);
        };
        apart = λ k low noted. apart k noted;
      }

  -- whoever is not as decided is accused
  pub left_out_now : (i : ℕ) → i < size.replicas → (IsAsDecided m u d.may.adopts i → ⊥) → (m.phases phase).accused i ≡ true
  left_out_now i few not_so = left_out size m is_size r u unsettled i few phase d.may.adopts by_quorum not_so

  pub unreached_now : (i : ℕ) → i < size.replicas → (m.phases phase).reached i ≡ false → (m.phases phase).accused i ≡ true
  unreached_now i few none = unreached_accused size m is_size r phase u d.may.adopts by_quorum i few none

  pub reached_of : (k : ℕ) → (m.phases phase).confirmed k ≡ true → (m.phases phase).reached k ≡ true
  reached_of k noted = ((keeps_confirmed size m r).phases phase k by_quorum.one by_quorum.low noted).reached
