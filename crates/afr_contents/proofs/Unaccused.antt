-- Whoever is in the group of a settling is accused by no earlier lock phase that a quorum confirmed.
use Rattle.std.proofs.Common.{◌≡◌, ◌∙◌, ℕ, ◌≤◌, ◌<◌, Bool, true, false, ◌⊎◌, inl, inr, arith}
use Rattle.std.specs.Prelude.{◌+◌, ◌&&◌, not}
use Rattle.afr_machine.specs.Replicas.{Replicas, Size, IsSize, count}
use Rattle.afr_machine.specs.Phases.{Deciding}
use Rattle.afr_machine.specs.Phases.Deciding.{NoChange, ByPosts, BySettles}
use Rattle.afr_machine.specs.States.{State}
use Rattle.afr_machine.specs.Steps.{IsReached}
use Rattle.afr_laws.specs.Rows.{accusing_in, IsSoundByCount}
use Rattle.afr_laws.proofs.Bools.{apart_bools, is_or_not, both, both_left, both_right}
use Rattle.afr_laws.proofs.Counts.{count_within, count_split, count_outside}
use Rattle.afr_laws.proofs.Sound.{soundness_is_counted}
use Rattle.afr_soundness.specs.Takers.{TakersAre}
use Rattle.afr_soundness.proofs.Takers.Steps.{takers_are}
use Rattle.afr_decisions.specs.Confirmed.{IsReported}
use Rattle.afr_decisions.specs.Settlings.{IsSettling}
use Rattle.afr_decisions.specs.Stands.{IsDecidedBy}
use Rattle.afr_decisions.proofs.Cells.{SomeCell, sent_has_cell}
use Rattle.afr_decisions.proofs.Confirmed.{keeps_confirmed}
use Rattle.afr_decisions.proofs.Settlings.{settled_in, settlings_stand}
use Rattle.afr_decisions.proofs.Shown.{later_show}
use Rattle.afr_decisions.proofs.Stands.{decides_of, some_one}
use Rattle.afr_contents.proofs.Spread.{is_outside}

module _ (size : Size) (m : State) (is_size : IsSize size) (r : IsReached size m) (p u : ℕ) (adopts : Bool) (d : IsDecidedBy size m p u adopts) (i : ℕ) (few : i < size.replicas) where
  module _ (at : ℕ) (group : Replicas) (verdict : Bool) (s : IsSettling m at u group verdict) (over : p < at) (in_it : group i ≡ true) where
    some : SomeCell (m.changes u).cells
    some = sent_has_cell size m r u (settled_in size m r at u group verdict s).sent

    sound : IsSoundByCount size (m.phases at) some.cell i
    sound = (soundness_is_counted size (m.phases at) some.cell i).0 (((settlings_stand size m r at u group verdict s).group_is.members i few in_it).sound some.cell some.has)

    -- so many that were reached confirmed
    met : count size.replicas (m.phases p).confirmed + count size.replicas (m.phases at).reached ≤ count size.replicas (λ k. (m.phases at).reached k && (m.phases p).confirmed k) + size.replicas
    met = omega (
      arith,
      count_split size.replicas (m.phases p).confirmed (m.phases at).reached,
      count_within size.replicas (λ k. not ((m.phases at).reached k) && (m.phases p).confirmed k) (λ k. not ((m.phases at).reached k)) (λ k low h. both_left (not ((m.phases at).reached k)) ((m.phases p).confirmed k) h),
      count_outside size.replicas (m.phases at).reached,
    )

    -- and showed that they accuse whom the earlier one accuses
    seen : (m.phases p).accused i ≡ true → count size.replicas (λ k. (m.phases at).reached k && (m.phases p).confirmed k) ≤ count size.replicas (accusing_in (m.phases at) some.cell i)
    seen accused = count_within size.replicas (λ k. (m.phases at).reached k && (m.phases p).confirmed k) (accusing_in (m.phases at) some.cell i) (λ k low h.
        both ((m.phases at).reached k) _ (both_left ((m.phases at).reached k) ((m.phases p).confirmed k) h)
        ((later_show size m is_size r).settled p at u group verdict d.one (decides_of u adopts (m.phases p).decides d.decides) s over k i some.cell (both_right ((m.phases at).reached k) ((m.phases p).confirmed k) h) (both_left ((m.phases at).reached k) ((m.phases p).confirmed k) h) few some.has accused))

    pub group_unaccused : (m.phases p).accused i ≡ true → ⊥
    group_unaccused accused = absurd (omega (arith, met, seen accused, sound.few, d.many, is_size.odd))

  -- whoever the deciding lock phase did not reach is accused by it
  pub unreached_accused : (m.phases p).reached i ≡ false → (m.phases p).accused i ≡ true
  unreached_accused unreached = by_deciding (m.phases p).decides ((keeps_confirmed size m r).phases p (some_one size is_size m r p u adopts d).member d.one d.low (some_one size is_size m r p u adopts d).is).reported (takers_are size m is_size r p d.one d.low) where
    none_of : (b : Bool) → (b ≡ true → (m.phases p).reached i ≡ true) → b ≡ false
    none_of b reaches = by_case (is_or_not b) where
      by_case : (b ≡ true) ⊎ (b ≡ false) → b ≡ false
      by_case (inl is) = apart_bools (reaches is) unreached
      by_case (inr other) = other

    by_deciding : (decides : Deciding) → IsReported size m.changes (m.phases p) (some_one size is_size m r p u adopts d).member decides → TakersAre size m.changes (m.phases p) decides → (m.phases p).accused i ≡ true
    by_deciding NoChange h takers = absurd h
    by_deciding (ByPosts v) h takers = h.1 i ∙ is_outside size (m.changes v).done i few (none_of ((m.changes v).done i) (λ done. (takers.0 i done).reached))
    by_deciding (BySettles v group verdict) h takers = h i ∙ is_outside size group i few (none_of (group i) (λ in_it. (takers.0 i few in_it).reached))
