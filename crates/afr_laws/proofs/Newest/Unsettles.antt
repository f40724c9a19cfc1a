-- A change becomes unsettled: nobody whose settling has ended rests on its cells, and no other unsettled change touches
-- them.
use Rattle.std.proofs.Common.{◌≡◌, ◌∙◌, ℕ, zero, suc, ◌≤◌, ◌<◌, true, false, refl, sym, ap, subst, ◌⊎◌, inl, inr, arith}
use Rattle.std.specs.Prelude.{List, ◌≢◌, ◌&&◌}
use Rattle.std.proofs.lemmas.Bool.{cases_eq, cases_lt}
use Rattle.fop_types.specs.declared.cells.Cell.{Cell}
use Rattle.afr_machine.specs.Replicas.{Size, with_at}
use Rattle.afr_machine.specs.Touching.{share}
use Rattle.afr_machine.specs.Changes.{Change, Verdict, is_unsettled, touches, any_touches}
use Rattle.afr_machine.specs.Changes.Verdict.{Drawn, Unsettled}
use Rattle.afr_machine.specs.Transactions.{Txn, is_over}
use Rattle.afr_machine.specs.Transactions.Stage.{Marking}
use Rattle.afr_machine.specs.States.{State}
use Rattle.afr_machine.specs.Steps.{MayUnsettle, unsettling}
use Rattle.afr_machine.proofs.Tables.{at_other}
use Rattle.afr_laws.specs.Drawn.{ChangesAreDrawn}
use Rattle.afr_laws.specs.OwnChanges.{was_unsettled, IsOwnStage, ChangesAreOwn}
use Rattle.afr_laws.specs.Newest.{NumbersRise}
use Rattle.afr_laws.proofs.Bools.{neither_left, neither_right, apart_bools}
use Rattle.afr_laws.proofs.Carry.{at_case}
use Rattle.afr_laws.proofs.Sharing.{share_sym, share_none}
use Rattle.afr_laws.proofs.Newest.Draws.{sent_drawn}

-- one of those that were looked at
touches_none : (changes : ℕ → Change) (n : ℕ) (cells : List Cell) → any_touches changes n cells ≡ false → (u : ℕ) → 1 ≤ u → u ≤ n → touches (changes u) cells ≡ false
touches_none changes zero cells none u one low = absurd (omega (arith, one, low))
touches_none changes (suc n) cells none u one low = by_case (touches_none changes n cells (neither_right _ _ none) u one) (cases_eq u (suc n)) where
  by_case : (u ≤ n → touches (changes u) cells ≡ false) → (u ≡ suc n) ⊎ (u ≢ suc n) → touches (changes u) cells ≡ false
  by_case more (inl same) = ap (λ v. touches (changes v) cells) same ∙ neither_left _ _ none
  by_case more (inr other) = more (omega (arith, low, other))

shares_not : (c : Change) (cells : List Cell) → touches c cells ≡ false → is_unsettled c.verdict ≡ true → share c.cells cells ≡ false
shares_not c cells none is = sym (ap (λ b. b && share c.cells cells) is) ∙ none

module _ (size : Size) (m : State) (d : ChangesAreDrawn m) (a : ChangesAreOwn m) (r : NumbersRise m) (t : ℕ) (h : MayUnsettle size m t) where
  abbrev u : ℕ
  u = h.change

  abbrev table : ℕ → Change
  table = with_at m.changes u (record (m.changes u) { verdict = Unsettled })

  abbrev next : State
  next = unsettling m t (Marking u)

  mine : ((m.txns t).own ≡ u) × ((1 ≤ u) × ((m.changes u).verdict ≡ Drawn))
  mine = subst (λ s. IsOwnStage m.changes (m.txns t).own s) h.turn (a.own t).stage

  runs : is_over (m.txns t).stage ≡ false
  runs = ap is_over h.turn

  cells_are : (v : ℕ) → (table v).cells ≡ (m.changes v).cells
  cells_are v = at_case (λ n (c : Change). c.cells ≡ (m.changes n).cells) m.changes u _ refl v (λ ne. refl)

  shared : (w v : ℕ) → share (table v).cells (table w).cells ≡ true → share (m.changes v).cells (m.changes w).cells ≡ true
  shared w v s = subst (λ cs. share cs (m.changes w).cells ≡ true) (cells_are v) (subst (λ cs. share (table v).cells cs ≡ true) (cells_are w) s)

  -- it is this change, or became unsettled before
  now_or_before : (v : ℕ) → was_unsettled (table v).verdict ≡ true → (v ≡ u) ⊎ (was_unsettled (m.changes v).verdict ≡ true)
  now_or_before v sent = by_case (cases_eq v u) where
    by_case : (v ≡ u) ⊎ (v ≢ u) → (v ≡ u) ⊎ (was_unsettled (m.changes v).verdict ≡ true)
    by_case (inl same) = inl same
    by_case (inr other) = inr (subst (λ (c : Change). was_unsettled c.verdict ≡ true) (at_other m.changes u _ v other) sent)

  -- no change before it has a greater number
  below : (v : ℕ) → was_unsettled (m.changes v).verdict ≡ true → share (m.changes v).cells (m.changes u).cells ≡ true → v ≤ u
  below v sent shares = subst (λ n. v ≤ n) mine.0 (r.own t v (subst (λ n. 1 ≤ n) (sym mine.0) mine.1.0) runs sent (subst (λ n. share (m.changes v).cells (m.changes n).cells ≡ true) (sym mine.0) shares))

  below_now : (v : ℕ) → (v ≡ u) ⊎ (was_unsettled (m.changes v).verdict ≡ true) → share (m.changes v).cells (m.changes u).cells ≡ true → v ≤ u
  below_now v (inl same) shares = omega (arith, same)
  below_now v (inr sent) shares = below v sent shares

  -- another transaction, whose settling has ended, has no cell in common with it
  others_apart : (i : ℕ) → i ≢ t → 1 ≤ (m.txns i).own → is_over (m.txns i).stage ≡ false → share (m.changes u).cells (m.changes (m.txns i).own).cells ≡ false
  others_apart i ne one on = let o = (a.own i).owns one in sym (ap (share (m.changes u).cells) o.cells) ∙ h.apart i ne on o.first o.settled

  own_other : (i v : ℕ) → i ≢ t → 1 ≤ (m.txns i).own → is_over (m.txns i).stage ≡ false → (v ≡ u) ⊎ (was_unsettled (m.changes v).verdict ≡ true) → share (m.changes v).cells (m.changes (m.txns i).own).cells ≡ true → v ≤ (m.txns i).own
  own_other i v ne one on (inl same) shares = apart_bools (subst (λ n. share (m.changes n).cells (m.changes (m.txns i).own).cells ≡ true) same shares) (others_apart i ne one on)
  own_other i v ne one on (inr sent) shares = r.own i v one on sent shares

  own_rises : (i v : ℕ) → 1 ≤ (next.txns i).own → is_over (next.txns i).stage ≡ false → was_unsettled (table v).verdict ≡ true → share (table v).cells (table (next.txns i).own).cells ≡ true → v ≤ (next.txns i).own
  own_rises i v =
      at_case (λ n (y : Txn). 1 ≤ y.own → is_over y.stage ≡ false → was_unsettled (table v).verdict ≡ true → share (table v).cells (table y.own).cells ≡ true → v ≤ y.own) m.txns t _
      (λ one on sent shares. subst (λ n. v ≤ n) (sym mine.0) (below_now v (now_or_before v sent) (subst (λ n. share (m.changes v).cells (m.changes n).cells ≡ true) mine.0 (shared (m.txns t).own v shares)))) i
      (λ ne one on sent shares. own_other i v ne one on (now_or_before v sent) (shared (m.txns i).own v shares))

  -- another unsettled change has no cell in common with it
  unsettled_apart : (w : ℕ) → is_unsettled (m.changes w).verdict ≡ true → share (m.changes u).cells (m.changes w).cells ≡ false
  unsettled_apart w is = by_case (cases_lt w 1) where
    sent : (v : Verdict) → is_unsettled v ≡ true → was_unsettled v ≡ true
    sent Verdict.Unsettled e = refl
    sent other e = absurd cc

    by_case : (w < 1) ⊎ (1 ≤ w) → share (m.changes u).cells (m.changes w).cells ≡ false
    by_case (inl none) = ap (λ n. share (m.changes u).cells (m.changes n).cells) (let z : w ≡ 0 = omega (arith, none) in z) ∙ ap (share (m.changes u).cells) a.fit.none ∙ share_none (m.changes u).cells
    by_case (inr some) =
        share_sym (m.changes u).cells (m.changes w).cells
        ∙ shares_not (m.changes w) (m.changes u).cells (touches_none m.changes m.drawn (m.changes u).cells h.alone w some (sent_drawn m d w (sent (m.changes w).verdict is))) is

  unsettled_rises : (w v : ℕ) → (w ≡ u) ⊎ (is_unsettled (m.changes w).verdict ≡ true) → (v ≡ u) ⊎ (was_unsettled (m.changes v).verdict ≡ true) → share (m.changes v).cells (m.changes w).cells ≡ true → v ≤ w
  unsettled_rises w v (inl same) sent shares = subst (λ n. v ≤ n) (sym same) (below_now v sent (subst (λ n. share (m.changes v).cells (m.changes n).cells ≡ true) same shares))
  unsettled_rises w v (inr is) (inl same) shares = apart_bools (subst (λ n. share (m.changes n).cells (m.changes w).cells ≡ true) same shares) (unsettled_apart w is)
  unsettled_rises w v (inr is) (inr sent) shares = r.unsettled w v is sent shares

  unsettled_now : (w : ℕ) → is_unsettled (table w).verdict ≡ true → (w ≡ u) ⊎ (is_unsettled (m.changes w).verdict ≡ true)
  unsettled_now w is = by_case (cases_eq w u) where
    by_case : (w ≡ u) ⊎ (w ≢ u) → (w ≡ u) ⊎ (is_unsettled (m.changes w).verdict ≡ true)
    by_case (inl same) = inl same
    by_case (inr other) = inr (subst (λ (c : Change). is_unsettled c.verdict ≡ true) (at_other m.changes u _ w other) is)

  next_rises : NumbersRise next
  next_rises = record { own = own_rises; unsettled = λ w v is sent shares. unsettled_rises w v (unsettled_now w is) (now_or_before v sent) (shared w v shares) }

  pub unsettles_rise : NumbersRise (unsettling m t (m.txns t).stage)
  unsettles_rise = subst (λ s. NumbersRise (unsettling m t s)) (sym h.turn) next_rises
