-- A change is decided once, and the decision stands, over every list of steps.
use Rattle.std.proofs.Common.{◌≡◌, ◌∙◌, ℕ, ◌+◌, ◌≤◌, ◌<◌, Bool, true, false, refl, sym, ap, subst, ◌⊎◌, inl, inr, arith, Option, Some, None}
use Rattle.std.specs.Prelude.{◌≢◌, ◌-◌, ◌&&◌, not, nat_lt}
use Rattle.std.proofs.lemmas.Bool.{cases_eq, cases_lt, lt-ltb}
use Rattle.fop_types.specs.declared.cells.Cell.{Cell}
use Rattle.fop_types.specs.declared.store_ops.StoreOp.{StoreOp}
use Rattle.afr_machine.specs.Replicas.{Size, IsSize, Replicas, outside, count, with_at}
use Rattle.afr_machine.specs.Touching.{has_cell, share}
use Rattle.afr_machine.specs.Copies.{has_change}
use Rattle.afr_machine.specs.Requests.{Sender, Answer}
use Rattle.afr_machine.specs.Requests.Ask.{Op}
use Rattle.afr_machine.specs.Changes.{Change, Verdict, is_unsettled, verdict_of}
use Rattle.afr_machine.specs.Changes.Verdict.{Undrawn, Drawn, Unsettled, Adopted, Dropped}
use Rattle.afr_machine.specs.Phases.{Phase, Deciding}
use Rattle.afr_machine.specs.Phases.Deciding.{NoChange, ByPosts, BySettles}
use Rattle.afr_machine.specs.Transactions.{Stage, decided_by}
use Rattle.afr_machine.specs.Transactions.Stage.{Applying, Posting, Settling}
use Rattle.afr_machine.specs.States.{State, phase_of}
use Rattle.afr_machine.specs.Turns.{Turn, IsInGroup}
use Rattle.afr_machine.specs.Steps.{Step, MayDecide, Allowed, after, IsReached}
use Rattle.afr_laws.specs.Rows.{accusing_in, IsSoundByCount}
use Rattle.afr_laws.specs.OwnChanges.{was_unsettled}
use Rattle.afr_laws.specs.Numbers.{applied}
use Rattle.afr_laws.specs.Fresh.{is_behind}
use Rattle.afr_laws.specs.Work.{changes_in}
use Rattle.afr_laws.proofs.Bools.{apart_bools, is_or_not, both, both_left, both_right}
use Rattle.afr_laws.proofs.Carry.{at_case}
use Rattle.afr_laws.proofs.Counts.{count_within, count_split, count_outside}
use Rattle.afr_laws.proofs.Sound.{soundness_is_counted}
use Rattle.afr_laws.proofs.Drawn.{changes_are_drawn}
use Rattle.afr_laws.proofs.Copies.Asks.{share_at}
use Rattle.afr_laws.proofs.Fresh.Known.{phases_are_known}
use Rattle.afr_laws.proofs.Fresh.Steps.{ended_goes}
use Rattle.afr_soundness.specs.Deciding.{AccusesOutside, DecidesIn, IsMarkedIn, IsSettledIn, IsDecidedIn}
use Rattle.afr_soundness.specs.Later.{IsOf}
use Rattle.afr_soundness.proofs.PhaseMoves.{PhaseMove, phase_moves, IsHandedIn}
use Rattle.afr_soundness.proofs.ChangeMoves.{ChangeMove, change_moves, decided_was}
use Rattle.afr_soundness.proofs.Deciding.Kept.{applying_own, drawn_by}
use Rattle.afr_soundness.proofs.Deciding.Whose.{decides_exactly, unsettled_was}
use Rattle.afr_soundness.proofs.Takers.Steps.{IsSome, some_of}
use Rattle.afr_soundness.proofs.Unsettled.{decided_is_not, becomes_own}
use Rattle.afr_soundness.proofs.CopyApart.Static.{marked_in}
use Rattle.afr_soundness.proofs.Applied.{applied_holds}
use Rattle.afr_decisions.specs.Confirmed.{IsReported, IsConfirmedBy, is_reporting}
use Rattle.afr_decisions.specs.Settlings.{IsSettling, StandsSettling}
use Rattle.afr_decisions.specs.Stands.{DecidesAs, spared_by, IsDecidedBy, WasDecided, DecisionsStand, EveryDecisionStands, IsLater, VerdictsStand, EveryVerdictStands}
use Rattle.afr_decisions.proofs.Cells.{SomeCell, sent_has_cell}
use Rattle.afr_decisions.proofs.Noted.{noted_stays}
use Rattle.afr_decisions.proofs.Confirmed.{keeps_confirmed, same_phase, old_unmarked}
use Rattle.afr_decisions.proofs.Settlings.{settled_in, SettlingFrom, settling_from, begun_unsettled, begun_changes, settlings_stand}
use Rattle.afr_decisions.proofs.Settlings.SettlingFrom.{Did, Begins}
use Rattle.afr_decisions.proofs.Handed.{handed_apart}
use Rattle.afr_decisions.proofs.Shown.{decided_cells, later_show}

-- ---- what a lock phase decides

pub decides_of : (u : ℕ) (adopts : Bool) (decides : Deciding) → DecidesAs u adopts decides → IsOf u decides
decides_of u adopts NoChange h = h
decides_of u adopts (ByPosts v) h = h.0
decides_of u adopts (BySettles v group verdict) h = h.0

decides_once : (u : ℕ) (a b : Bool) (decides : Deciding) → DecidesAs u a decides → DecidesAs u b decides → a ≡ b
decides_once u a b NoChange h k = absurd h
decides_once u a b (ByPosts v) h k = h.1 ∙ sym k.1
decides_once u a b (BySettles v group verdict) h k = sym h.1 ∙ k.1

verdict_once : (a b : Bool) → verdict_of a ≡ verdict_of b → a ≡ b
verdict_once true true h = refl
verdict_once false false h = refl
verdict_once true false h = absurd (let e : Adopted ≡ Dropped = h in cc)
verdict_once false true h = absurd (let e : Dropped ≡ Adopted = h in cc)

not_itself : (a : Bool) → a ≡ not a → ⊥
not_itself true h = absurd (let e : true ≡ false = h in cc)
not_itself false h = absurd (let e : false ≡ true = h in cc)

outside_none : (size : Size) (set : Replicas) (i : ℕ) → i < size.replicas → outside size set i ≡ false → set i ≡ true
outside_none size set i below none = by_case (is_or_not (set i)) where
  by_case : (set i ≡ true) ⊎ (set i ≡ false) → set i ≡ true
  by_case (inl is) = is
  by_case (inr other) = apart_bools (both (nat_lt i size.replicas) (not (set i)) (lt-ltb i size.replicas below) (ap not other)) none

-- ---- while the change is unsettled, who takes it has it, and who leaves it has not

module _ (size : Size) (m : State) (r : IsReached size m) (u : ℕ) (unsettled : is_unsettled (m.changes u).verdict ≡ true) (i : ℕ) (below : i < size.replicas) (cell : Cell) (has : has_cell (m.changes u).cells cell ≡ true) where
  pub group_has : (p : ℕ) (group : Replicas) (adopts : Bool) → IsSettling m p u group adopts → group i ≡ true → has_change (applied m i cell) u ≡ adopts
  group_has p group adopts s in_it =
      let stands : StandsSettling size m p u group adopts = settlings_stand size m r p u group adopts s in
      let g : IsInGroup size (m.phases p) u (m.changes u).cells adopts i = stands.group_is.members i below in_it in
      let present = ((soundness_is_counted size (m.phases p) cell i).0 (g.sound cell has)).present in
      ((stands.unsettled unsettled).agrees i cell g.reached has).copy present ∙ g.agrees cell has

  pub spared_has : (p : ℕ) (adopts : Bool) → 1 ≤ p → p ≤ m.ended → (decides : Deciding) → (m.phases p).decides ≡ decides → DecidesAs u adopts decides → spared_by m.changes decides i ≡ true → has_change (applied m i cell) u ≡ adopts
  spared_has p adopts one low NoChange is h spared = absurd h
  spared_has p adopts one low (ByPosts v) is h spared = (applied_holds size m r).done u i unsettled (ap (λ n. (m.changes n).done i) (sym h.0) ∙ spared) cell has ∙ sym h.1
  spared_has p adopts one low (BySettles v group verdict) is h spared = group_has p group verdict (record { one = one; low = low; decides = is ∙ ap (λ n. BySettles n group verdict) h.0 }) spared ∙ h.1

abbrev pub Sparing : Size → State → Type 0
Sparing size m =
    (p at u i : ℕ) (adopts verdict : Bool) (group : Replicas) → 1 ≤ p → DecidesAs u adopts (m.phases p).decides → IsSettling m at u group verdict → p < at → i < size.replicas → group i ≡ true → spared_by m.changes (m.phases p).decides i ≡ true → adopts ≡ verdict

sparing_unsettled : (size : Size) (m : State) → IsReached size m → (p at u i : ℕ) (adopts verdict : Bool) (group : Replicas) → is_unsettled (m.changes u).verdict ≡ true → 1 ≤ p → DecidesAs u adopts (m.phases p).decides → IsSettling m at u group verdict → p < at → i < size.replicas → group i ≡ true → spared_by m.changes (m.phases p).decides i ≡ true → adopts ≡ verdict
sparing_unsettled size m r p at u i adopts verdict group unsettled one decides s over below in_it spared =
    let some : SomeCell (m.changes u).cells = sent_has_cell size m r u (unsettled_was (m.changes u).verdict unsettled) in
    sym (spared_has size m r u unsettled i below some.cell some.has p adopts one (let low : p ≤ m.ended = omega (arith, over, s.low) in low) (m.phases p).decides refl decides spared)
    ∙ group_has size m r u unsettled i below some.cell some.has at group verdict s in_it

-- ---- one step, a change that is decided

module _ (size : Size) (m : State) (r : IsReached size m) (step : Step) (allowed : Allowed size m step) where
  abbrev new : State
  new = after size m step

  module _ (p at u i : ℕ) (adopts verdict : Bool) (group : Replicas) (one : 1 ≤ p) (over : p < at) (below : i < size.replicas) (in_it : group i ≡ true) (s : IsSettling m at u group verdict) (settled : is_unsettled (new.changes u).verdict ≡ false) where
    mine : IsSettledIn m at u
    mine = settled_in size m r at u group verdict s

    low : p ≤ m.ended
    low = omega (arith, over, s.low)

    stands : StandsSettling size m at u group verdict
    stands = settlings_stand size m r at u group verdict s

    same_decides : DecidesAs u adopts (new.phases p).decides → (new.phases p).decides ≡ (m.phases p).decides
    same_decides decides = by_move (phase_moves size m step allowed p) where
      by_move : PhaseMove size m step p (new.phases p) → (new.phases p).decides ≡ (m.phases p).decides
      by_move (PhaseMove.Same is) = ap (λ (x : Phase). x.decides) is
      by_move (PhaseMove.Reaches t step_is may is_p is) = absurd (omega (arith, is_p, low))
      by_move (PhaseMove.Marks t step_is may is_p is) =
          let h : (m.drawn + 1) ≡ u = (subst (DecidesAs u adopts) (ap (λ (x : Phase). x.decides) is) decides).0 in
          absurd (omega (arith, h, mine.drawn))
      by_move (PhaseMove.Posts t step_is may is_p is) = ap (λ (x : Phase). x.decides) is
      by_move (PhaseMove.SettlesAs t g a step_is may is_p is) =
          let h : may.change ≡ u = (subst (DecidesAs u adopts) (ap (λ (x : Phase). x.decides) is) decides).0 in
          apart_bools (begun_unsettled size m r step allowed t p u g a step_is may (sym h) is_p) settled
      by_move (PhaseMove.Asks t k first ask step_is may w is_p is) = ap (λ (x : Phase). x.decides) is
      by_move (PhaseMove.Clears k by cells who answer run step_is handed stage is_p is) = ap (λ (x : Phase). x.decides) is
      by_move (PhaseMove.Confirms k by ask answer step_is handed is_p is) = ap (λ (x : Phase). x.decides) is

    -- nobody applies the change now that is in the later group
    module _ (v : ℕ) (same : v ≡ u) (marked : IsMarkedIn m p v) where
      unapplied : (k : ℕ) (by : Sender) (w : ℕ) (op : StoreOp) (answer : Answer) → IsHandedIn m k by (Op w op) answer → (m.txns by.txn).stage ≡ Applying v → (m.phases at).reached k ≡ true → ⊥
      unapplied k by w op answer handed stage reached =
          let d = decides_exactly size m r in
          let owner : (m.changes v).by ≡ by.txn = (drawn_by size m r d step allowed by.txn v (applying_own size m r d step allowed by.txn v stage)).1 in
          let phase : (m.txns by.txn).phase ≡ p = ap (λ n. (m.txns n).phase) (sym owner ∙ marked.by) ∙ marked.phase in
          let some : SomeCell (m.changes u).cells = sent_has_cell size m r u mine.sent in
          handed_apart size m r k by (Op w op) answer handed (ap is_behind stage) (ap changes_in stage) at (subst (λ q. q < at) (sym phase) over) s.low
          (share_at (phase_of m by.txn).cells (m.phases at).cells some.cell (ap (λ q. has_cell (m.phases q).cells some.cell) phase ∙ ap (λ cs. has_cell cs some.cell) (marked.cells ∙ ap (λ n. (m.changes n).cells) same) ∙ some.has) (ap (λ cs. has_cell cs some.cell) mine.cells ∙ some.has)) reached

      done_then : (new.changes v).done i ≡ true → (m.changes v).done i ≡ true
      done_then done = by_move (change_moves size m step allowed v) where
        old : (c : Change) → new.changes v ≡ c → c.done ≡ (m.changes v).done → (m.changes v).done i ≡ true
        old c is e = sym (ap (λ (f : Replicas). f i) (ap (λ (x : Change). x.done) is ∙ e)) ∙ done

        by_move : ChangeMove size m step v (new.changes v) → (m.changes v).done i ≡ true
        by_move (ChangeMove.Same is) = old _ is refl
        by_move (ChangeMove.Marks t step_is h is_v is) = absurd (omega (arith, is_v, same, mine.drawn))
        by_move (ChangeMove.Unsettles t step_is h is_v is) = apart_bools (ap (λ (x : Change). is_unsettled x.verdict) is) (ap (λ n. is_unsettled (new.changes n).verdict) same ∙ settled)
        by_move (ChangeMove.Applies k by w op answer step_is handed stage is) =
            at_case (λ j (b : Bool). b ≡ true → (m.phases at).reached j ≡ true → (m.changes v).done j ≡ true) (m.changes v).done k true (λ e reached. absurd (unapplied k by w op answer handed stage reached)) i (λ ne e reached. e)
            (sym (ap (λ (x : Change). x.done i) is) ∙ done) (stands.group_is.members i below in_it).reached
        by_move (ChangeMove.Decides t step_is h is_v unsettled is) = old _ is refl

    spared_then : (decides : Deciding) → (m.phases p).decides ≡ decides → DecidesAs u adopts decides → spared_by new.changes decides i ≡ true → spared_by m.changes decides i ≡ true
    spared_then NoChange is h spared = absurd h
    spared_then (ByPosts v) is h spared = done_then v h.0 (subst (IsDecidedIn m p) is ((decides_exactly size m r).decided p one low)) spared
    spared_then (BySettles v g a) is h spared = spared

    sparing_settled : Sparing size m → DecidesAs u adopts (new.phases p).decides → spared_by new.changes (new.phases p).decides i ≡ true → adopts ≡ verdict
    sparing_settled was decides spared =
        let same = same_decides decides in
        let decides_m : DecidesAs u adopts (m.phases p).decides = subst (DecidesAs u adopts) same decides in
        was p at u i adopts verdict group one decides_m s over below in_it (spared_then (m.phases p).decides refl decides_m (ap (λ (e : Deciding). spared_by (after size m step).changes e i) (sym same) ∙ spared))

  sparing_after : Sparing size m → Sparing size new
  sparing_after was p at u i adopts verdict group one decides s over below in_it spared = by_case (is_or_not (is_unsettled (new.changes u).verdict)) where
    by_from : is_unsettled (new.changes u).verdict ≡ false → SettlingFrom size m r step allowed at u group verdict → adopts ≡ verdict
    by_from settled (Did old) = sparing_settled p at u i adopts verdict group one over below in_it old settled was decides spared
    by_from settled (Begins t step_is h at_change at_phase) = apart_bools (begun_unsettled size m r step allowed t at u group verdict step_is h at_change at_phase) settled

    by_case : (is_unsettled (new.changes u).verdict ≡ true) ⊎ (is_unsettled (new.changes u).verdict ≡ false) → adopts ≡ verdict
    by_case (inl unsettled) = sparing_unsettled size (after size m step) (IsReached.Further m step r allowed) p at u i adopts verdict group unsettled one decides s over below in_it spared
    by_case (inr settled) = by_from settled (settling_from size m r step allowed at u group verdict s)

pub sparing : (size : Size) (m : State) → IsReached size m → Sparing size m
sparing size m IsReached.Start = λ p at u i adopts verdict group one decides. absurd decides
sparing size m (IsReached.Further old step reached allowed) = sparing_after size old reached step allowed (sparing size old reached)

-- ---- a quorum that confirmed

module _ (size : Size) (is_size : IsSize size) (m : State) (r : IsReached size m) where
  module _ (p u : ℕ) (adopts : Bool) (d : IsDecidedBy size m p u adopts) where
    pub some_one : IsSome size.replicas (m.phases p).confirmed
    some_one = some_of size.replicas (m.phases p).confirmed (let enough : 1 ≤ count size.replicas (m.phases p).confirmed = omega (arith, is_size.odd, d.many) in enough)

    pub confirmed_one : IsConfirmedBy size m p some_one.member
    confirmed_one = (keeps_confirmed size m r).phases p some_one.member d.one d.low some_one.is

    sent_by : (decides : Deciding) → (m.phases p).decides ≡ decides → DecidesAs u adopts decides → IsReported size m.changes (m.phases p) some_one.member decides → was_unsettled (m.changes u).verdict ≡ true
    sent_by NoChange is h c = absurd h
    sent_by (ByPosts v) is h c = by_case (is_or_not (was_unsettled (m.changes u).verdict)) where
      by_case : (was_unsettled (m.changes u).verdict ≡ true) ⊎ (was_unsettled (m.changes u).verdict ≡ false) → was_unsettled (m.changes u).verdict ≡ true
      by_case (inl sent) = sent
      by_case (inr never) = apart_bools (ap (λ n. (m.changes n).done some_one.member) (sym h.0) ∙ c.0) ((applied_holds size m r).none u some_one.member never)
    sent_by (BySettles v group verdict) is h c =
        let s : IsSettledIn m p v = subst (IsDecidedIn m p) is ((decides_exactly size m r).decided p d.one d.low) in
        ap (λ n. was_unsettled (m.changes n).verdict) (sym h.0) ∙ s.sent

    -- the change became unsettled
    pub decided_sent : was_unsettled (m.changes u).verdict ≡ true
    decided_sent = sent_by (m.phases p).decides refl d.decides confirmed_one.reported

    -- ---- against a lock phase that settles it later

    module _ (at : ℕ) (group : Replicas) (verdict : Bool) (s : IsSettling m at u group verdict) (over : p < at) where
      settling_stands : StandsSettling size m at u group verdict
      settling_stands = settlings_stand size m r at u group verdict s

      abbrev i : ℕ
      i = settling_stands.group_is.source

      some : SomeCell (m.changes u).cells
      some = sent_has_cell size m r u (settled_in size m r at u group verdict s).sent

      sound : IsSoundByCount size (m.phases at) some.cell i
      sound = (soundness_is_counted size (m.phases at) some.cell i).0 ((settling_stands.group_is.members i settling_stands.group_is.source_is settling_stands.group_is.source_in).sound some.cell some.has)

      -- so many that were reached confirmed
      met : count size.replicas (m.phases p).confirmed + count size.replicas (m.phases at).reached ≤ count size.replicas (λ k. (m.phases at).reached k && (m.phases p).confirmed k) + size.replicas
      met = omega (
        arith,
        count_split size.replicas (m.phases p).confirmed (m.phases at).reached,
        count_within size.replicas (λ k. not ((m.phases at).reached k) && (m.phases p).confirmed k) (λ k. not ((m.phases at).reached k)) (λ k low h. both_left (not ((m.phases at).reached k)) ((m.phases p).confirmed k) h),
        count_outside size.replicas (m.phases at).reached,
      )

      -- and showed that they accuse whom the earlier one accuses
      seen : (m.phases p).accused i ≡ true → count size.replicas (λ k. (m.phases at).reached k && (m.phases p).confirmed k) ≤ count size.replicas (accusing_in (m.phases at) some.cell i)
      seen in_it = count_within size.replicas (λ k. (m.phases at).reached k && (m.phases p).confirmed k) (accusing_in (m.phases at) some.cell i) (λ k low h.
          both ((m.phases at).reached k) _ (both_left ((m.phases at).reached k) ((m.phases p).confirmed k) h)
          ((later_show size m is_size r).settled p at u group verdict d.one (decides_of u adopts (m.phases p).decides d.decides) s over k i some.cell (both_right ((m.phases at).reached k) ((m.phases p).confirmed k) h) (both_left ((m.phases at).reached k) ((m.phases p).confirmed k) h) settling_stands.group_is.source_is some.has in_it))

      unaccused : (m.phases p).accused i ≡ false
      unaccused = by_case (is_or_not ((m.phases p).accused i)) where
        by_case : ((m.phases p).accused i ≡ true) ⊎ ((m.phases p).accused i ≡ false) → (m.phases p).accused i ≡ false
        by_case (inl in_it) = absurd (omega (arith, met, seen in_it, sound.few, d.many, is_size.odd))
        by_case (inr none) = none

      spares_it : (decides : Deciding) → IsReported size m.changes (m.phases p) some_one.member decides → spared_by m.changes decides i ≡ true
      spares_it NoChange c = absurd c
      spares_it (ByPosts v) c = outside_none size (m.changes v).done i settling_stands.group_is.source_is (sym (c.1 i) ∙ unaccused)
      spares_it (BySettles v g a) c = outside_none size g i settling_stands.group_is.source_is (sym (c i) ∙ unaccused)

      pub later_agrees : adopts ≡ verdict
      later_agrees = sparing size m r p at u i adopts verdict group d.one d.decides s over settling_stands.group_is.source_is settling_stands.group_is.source_in (spares_it (m.phases p).decides confirmed_one.reported)

  -- ---- two quorums

  by_deciding : (p q u : ℕ) (a b : Bool) → IsDecidedBy size m p u a → IsDecidedBy size m q u b → p < q → (mine theirs : Deciding) → (m.phases p).decides ≡ mine → (m.phases q).decides ≡ theirs → DecidesAs u a mine → DecidesAs u b theirs → a ≡ b
  by_deciding p q u a b d e over mine NoChange is other h k = absurd k
  by_deciding p q u a b d e over mine (BySettles v group verdict) is other h k = later_agrees p u a d q group verdict (record { one = e.one; low = e.low; decides = other ∙ ap (λ n. BySettles n group verdict) k.0 }) over ∙ k.1
  by_deciding p q u a b d e over NoChange (ByPosts v) is other h k = absurd h
  by_deciding p q u a b d e over (ByPosts w) (ByPosts v) is other h k = h.1 ∙ sym k.1
  by_deciding p q u a b d e over (BySettles w group verdict) (ByPosts v) is other h k =
      let before : q < p = (settlings_stand size m r p u group verdict (record { one = d.one; low = d.low; decides = is ∙ ap (λ n. BySettles n group verdict) h.0 })).marked q e.low (other ∙ ap ByPosts k.0) in
      absurd (omega (arith, before, over))

  pub quorums_agree : (p q u : ℕ) (a b : Bool) → IsDecidedBy size m p u a → IsDecidedBy size m q u b → a ≡ b
  quorums_agree p q u a b d e = by_order (cases_lt p q) (cases_eq p q) where
    by_order : (p < q) ⊎ (q ≤ p) → (p ≡ q) ⊎ (p ≢ q) → a ≡ b
    by_order (inl over) other = by_deciding p q u a b d e over (m.phases p).decides (m.phases q).decides refl refl d.decides e.decides
    by_order (inr least) (inl same) = decides_once u a b (m.phases q).decides (subst (λ n. DecidesAs u a (m.phases n).decides) same d.decides) e.decides
    by_order (inr least) (inr other) = sym (by_deciding q p u b a e d (let over : q < p = omega (arith, least, other) in over) (m.phases q).decides (m.phases p).decides refl refl e.decides d.decides)

  -- ---- what a transaction counts

  module _ (t u : ℕ) (adopts : Bool) (many : size.quorum ≤ count size.replicas (m.txns t).confirmed) where
    decided_now : is_reporting (m.txns t).stage ≡ true → is_behind (m.txns t).stage ≡ true → DecidesAs u adopts (phase_of m t).decides → IsDecidedBy size m (m.txns t).phase u adopts
    decided_now reports behind decides = record {
      one = ((decides_exactly size m r).transactions t).one behind;
      low = (phases_are_known size m r t).low;
      decides = decides;
      many = omega (arith, many, count_within size.replicas (m.txns t).confirmed (phase_of m t).confirmed (λ k low h. (keeps_confirmed size m r).noted t k reports h));
    }

    decides_in : (stage : Stage) → (m.txns t).stage ≡ stage → DecidesIn size m.changes (m.txns t).work stage (phase_of m t)
    decides_in stage is = subst (λ s. DecidesIn size m.changes (m.txns t).work s (phase_of m t)) is ((decides_exactly size m r).transactions t).decides

    by_stage : (stage : Stage) → (m.txns t).stage ≡ stage → decided_by stage ≡ Some (u, adopts) → IsDecidedBy size m (m.txns t).phase u adopts
    by_stage (Posting v) is e =
        let some_is : Some (v, true) ≡ Some (u, adopts) = e in
        let p : ◌≡◌ {A = ℕ × Bool} (v, true) (u, adopts) = cc in
        decided_now (ap is_reporting is) (ap is_behind is) (subst (DecidesAs u adopts) (sym (decides_in (Posting v) is).0) (ap (λ q. q.0) p, sym (ap (λ q. q.1) p)))
    by_stage (Settling v group verdict) is e =
        let some_is : Some (v, verdict) ≡ Some (u, adopts) = e in
        let p : ◌≡◌ {A = ℕ × Bool} (v, verdict) (u, adopts) = cc in
        decided_now (ap is_reporting is) (ap is_behind is) (subst (DecidesAs u adopts) (sym (decides_in (Settling v group verdict) is)) (ap (λ q. q.0) p, ap (λ q. q.1) p))
    by_stage other is e = absurd (let no : None ≡ Some (u, adopts) = e in cc)

    pub counted_decides : decided_by (m.txns t).stage ≡ Some (u, adopts) → IsDecidedBy size m (m.txns t).phase u adopts
    counted_decides e = by_stage (m.txns t).stage refl e

-- ---- a quorum stays one

module _ (size : Size) (is_size : IsSize size) (m : State) (r : IsReached size m) (step : Step) (allowed : Allowed size m step) where
  abbrev next : State
  next = after size m step

  pub quorum_stays : (p u : ℕ) (adopts : Bool) → IsDecidedBy size m p u adopts → IsDecidedBy size next p u adopts
  quorum_stays p u adopts d =
      let k : IsSome size.replicas (m.phases p).confirmed = some_one size is_size m r p u adopts d in
      let c : IsConfirmedBy size m p k.member = confirmed_one size is_size m r p u adopts d in
      let same = same_phase size m r step allowed p k.member d.one d.low c (old_unmarked size m r step allowed (keeps_confirmed size m r) p k.member k.is) in
      record {
        one = d.one;
        low = omega (arith, d.low, ended_goes size m step);
        decides = subst (DecidesAs u adopts) (sym same.decides) d.decides;
        many = omega (arith, d.many, count_within size.replicas (m.phases p).confirmed (next.phases p).confirmed (λ j low h. noted_stays size m step allowed p j d.low h));
      }

  was_after : ((u : ℕ) (adopts : Bool) → (m.changes u).verdict ≡ verdict_of adopts → WasDecided size m u adopts) → (u : ℕ) (adopts : Bool) → (next.changes u).verdict ≡ verdict_of adopts → WasDecided size next u adopts
  was_after was u adopts is_now = by_move (change_moves size m step allowed u) where
    keeps : WasDecided size m u adopts → WasDecided size next u adopts
    keeps w = record { phase = w.phase; is = quorum_stays w.phase u adopts w.is }

    old : (c : Change) → next.changes u ≡ c → c.verdict ≡ (m.changes u).verdict → WasDecided size next u adopts
    old c is e = keeps (was u adopts (sym (ap (λ (x : Change). x.verdict) is ∙ e) ∙ is_now))

    none : (v : Verdict) → (next.changes u).verdict ≡ v → was_unsettled v ≡ false → WasDecided size next u adopts
    none v is never = apart_bools (decided_was adopts) (ap was_unsettled (sym is_now ∙ is) ∙ never)

    by_move : ChangeMove size m step u (next.changes u) → WasDecided size next u adopts
    by_move (ChangeMove.Same is) = old _ is refl
    by_move (ChangeMove.Marks t step_is h is_u is) = none Drawn (ap (λ (x : Change). x.verdict) is) refl
    by_move (ChangeMove.Unsettles t step_is h is_u is) = apart_bools (ap (λ (x : Change). is_unsettled x.verdict) is) (ap is_unsettled is_now ∙ decided_is_not adopts)
    by_move (ChangeMove.Applies k by w op answer step_is handed stage is) = old _ is refl
    by_move (ChangeMove.Decides t step_is h is_u unsettled is) =
        let same : h.adopts ≡ adopts = verdict_once h.adopts adopts (sym (ap (λ (x : Change). x.verdict) is) ∙ is_now) in
        keeps (record { phase = (m.txns t).phase; is = subst (λ n. IsDecidedBy size m (m.txns t).phase n adopts) (sym is_u) (subst (λ a. IsDecidedBy size m (m.txns t).phase h.change a) same (counted_decides size is_size m r t h.change h.adopts h.many h.decision)) })

pub was_decided : (size : Size) (m : State) → IsSize size → IsReached size m → (u : ℕ) (adopts : Bool) → (m.changes u).verdict ≡ verdict_of adopts → WasDecided size m u adopts
was_decided size m is_size IsReached.Start = λ u adopts is. absurd (start_none adopts is) where
  start_none : (a : Bool) → Undrawn ≡ verdict_of a → ⊥
  start_none true e = absurd (let no : Undrawn ≡ Adopted = e in cc)
  start_none false e = absurd (let no : Undrawn ≡ Dropped = e in cc)
was_decided size m is_size (IsReached.Further old step reached allowed) = was_after size is_size old reached step allowed (was_decided size old is_size reached)

-- ---- the verdict

module _ (size : Size) (is_size : IsSize size) (m : State) (r : IsReached size m) where
  pub verdict_stands : (p u : ℕ) (adopts : Bool) → IsDecidedBy size m p u adopts → (is_unsettled (m.changes u).verdict ≡ true) ⊎ ((m.changes u).verdict ≡ verdict_of adopts)
  verdict_stands p u adopts d = by_verdict (m.changes u).verdict refl (decided_sent size is_size m r p u adopts d) where
    decided : (b : Bool) → (m.changes u).verdict ≡ verdict_of b → (is_unsettled (m.changes u).verdict ≡ true) ⊎ ((m.changes u).verdict ≡ verdict_of adopts)
    decided b is =
        let w : WasDecided size m u b = was_decided size m is_size r u b is in
        inr (is ∙ ap verdict_of (quorums_agree size is_size m r w.phase p u b adopts w.is d))

    by_verdict : (v : Verdict) → (m.changes u).verdict ≡ v → was_unsettled v ≡ true → (is_unsettled (m.changes u).verdict ≡ true) ⊎ ((m.changes u).verdict ≡ verdict_of adopts)
    by_verdict Undrawn is sent = absurd (let e : false ≡ true = sent in cc)
    by_verdict Drawn is sent = absurd (let e : false ≡ true = sent in cc)
    by_verdict Unsettled is sent = inl (ap is_unsettled is)
    by_verdict Adopted is sent = decided true is
    by_verdict Dropped is sent = decided false is

pub decisions_stand : EveryDecisionStands
decisions_stand size m is_size r = record {
  sparing = sparing size m r;
  later = λ p at u adopts verdict group d s over. later_agrees size is_size m r p u adopts d at group verdict s over;
  apart = λ p q u adopts verdict d e. quorums_agree size is_size m r p q u adopts verdict d e;
  transactions = λ s t u adopts verdict mine many theirs enough. quorums_agree size is_size m r (m.txns s).phase (m.txns t).phase u adopts verdict (counted_decides size is_size m r s u adopts many mine) (counted_decides size is_size m r t u verdict enough theirs);
  was = was_decided size m is_size r;
  verdict = λ p u adopts d. verdict_stands size is_size m r p u adopts d;
  again = λ t u adopts decision many. verdict_stands size is_size m r (m.txns t).phase u adopts (counted_decides size is_size m r t u adopts many decision);
}

-- ---- from one state on

pub later_reached : (size : Size) (m new : State) → IsReached size m → IsLater size m new → IsReached size new
later_reached size m new r IsLater.Now = r
later_reached size m new r (IsLater.Further old step later allowed) = IsReached.Further old step (later_reached size m old r later) allowed

verdict_stays : (size : Size) (m : State) → IsReached size m → (step : Step) → Allowed size m step → (u : ℕ) (adopts : Bool) → (m.changes u).verdict ≡ verdict_of adopts → ((after size m step).changes u).verdict ≡ verdict_of adopts
verdict_stays size m r step allowed u adopts was = by_move (change_moves size m step allowed u) where
  never : was_unsettled (m.changes u).verdict ≡ false → ((after size m step).changes u).verdict ≡ verdict_of adopts
  never none = apart_bools (ap was_unsettled was ∙ decided_was adopts) none

  by_move : ChangeMove size m step u ((after size m step).changes u) → ((after size m step).changes u).verdict ≡ verdict_of adopts
  by_move (ChangeMove.Same is) = ap (λ (x : Change). x.verdict) is ∙ was
  by_move (ChangeMove.Marks t step_is h is_u is) = never (ap was_unsettled ((changes_are_drawn size m r).beyond u (let less : m.drawn < u = omega (arith, is_u) in less)))
  by_move (ChangeMove.Unsettles t step_is h is_u is) = never (ap (λ n. was_unsettled (m.changes n).verdict) is_u ∙ ap was_unsettled (becomes_own size m r step allowed t h).1.1)
  by_move (ChangeMove.Applies k by w op answer step_is handed stage is) = ap (λ (x : Change). x.verdict) is ∙ was
  by_move (ChangeMove.Decides t step_is h is_u unsettled is) = apart_bools unsettled (ap is_unsettled was ∙ decided_is_not adopts)

later_verdict : (size : Size) (m new : State) → IsReached size m → IsLater size m new → (u : ℕ) (adopts : Bool) → (m.changes u).verdict ≡ verdict_of adopts → (new.changes u).verdict ≡ verdict_of adopts
later_verdict size m new r IsLater.Now = λ u adopts was. was
later_verdict size m new r (IsLater.Further old step later allowed) = λ u adopts was. verdict_stays size old (later_reached size m old r later) step allowed u adopts (later_verdict size m old r later u adopts was)

later_quorum : (size : Size) (m new : State) → IsSize size → IsReached size m → IsLater size m new → (p u : ℕ) (adopts : Bool) → IsDecidedBy size m p u adopts → IsDecidedBy size new p u adopts
later_quorum size m new is_size r IsLater.Now = λ p u adopts d. d
later_quorum size m new is_size r (IsLater.Further old step later allowed) = λ p u adopts d. quorum_stays size is_size old (later_reached size m old r later) step allowed p u adopts (later_quorum size m old is_size r later p u adopts d)

pub verdicts_stand : EveryVerdictStands
verdicts_stand size m new is_size r later = record {
  decided = later_verdict size m new r later;
  confirmed = later_quorum size m new is_size r later;
  never = λ p u adopts d is. other u adopts is (verdict_stands size is_size new (later_reached size m new r later) p u adopts (later_quorum size m new is_size r later p u adopts d));
}
  where
    other : (u : ℕ) (adopts : Bool) → (new.changes u).verdict ≡ verdict_of (not adopts) → (is_unsettled (new.changes u).verdict ≡ true) ⊎ ((new.changes u).verdict ≡ verdict_of adopts) → ⊥
    other u adopts is (inl unsettled) = apart_bools unsettled (ap is_unsettled is ∙ decided_is_not (not adopts))
    other u adopts is (inr same) = not_itself adopts (verdict_once adopts (not adopts) (sym same ∙ is))
