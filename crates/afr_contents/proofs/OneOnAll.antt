-- A lock phase that reached every replica finds one sound on all cells of an unsettled change.
use Rattle.std.proofs.Common.{◌≡◌, ◌∙◌, ℕ, ◌≤◌, ◌<◌, true, false, refl, sym, ap, subst, ◌⊎◌, inl, inr, arith}
use Rattle.std.specs.Prelude.{◌≢◌}
use Rattle.std.proofs.lemmas.Bool.{cases_eq}
use Rattle.fop_types.specs.declared.cells.Cell.{Cell}
use Rattle.afr_machine.specs.Replicas.{Size, IsSize}
use Rattle.afr_machine.specs.Touching.{has_cell}
use Rattle.afr_machine.specs.Changes.{is_unsettled}
use Rattle.afr_machine.specs.Phases.{Deciding, IsSoundIn}
use Rattle.afr_machine.specs.Phases.Deciding.{NoChange, ByPosts, BySettles}
use Rattle.afr_machine.specs.States.{State}
use Rattle.afr_machine.specs.Steps.{IsReached}
use Rattle.afr_laws.specs.Sound.{IsSpared}
use Rattle.afr_laws.proofs.Bools.{apart_bools, is_or_not}
use Rattle.afr_laws.proofs.Copies.Asks.{share_at}
use Rattle.afr_soundness.specs.Deciding.{IsAccusedBy, IsMarkedIn, IsSettledIn, IsDecidedIn, DecidesExactly}
use Rattle.afr_soundness.specs.Takers.{HasSpared, TakersAre}
use Rattle.afr_soundness.specs.Later.{IsOf, IsQuietFor, IsMarked}
use Rattle.afr_soundness.proofs.Deciding.Whose.{decides_exactly, unsettled_was}
use Rattle.afr_soundness.proofs.Free.{ready_is_free}
use Rattle.afr_soundness.proofs.Guarded.{LastOf, last_of}
use Rattle.afr_soundness.proofs.Later.Steps.{later_are_quiet}
use Rattle.afr_soundness.proofs.Marked.{each_is_marked}
use Rattle.afr_soundness.proofs.Takers.Steps.{takers_are}
use Rattle.afr_contents.specs.Split.{SawAll, HasSoundOnAll, SeenAllHasOne}
use Rattle.afr_contents.proofs.MarkWrote.{marks_wrote}
use Rattle.afr_contents.proofs.Split.{ready_shown, free_sound}

-- it decides the change, and wrote
abbrev WroteOf : State → ℕ → ℕ → Type 0
WroteOf m u p = IsOf u (m.phases p).decides × ((m.phases p).wrote ≡ true)

-- of those, this one ended last
module _ (size : Size) (m : State) (is : IsSize size) (r : IsReached size m) (u : ℕ) (unsettled : is_unsettled (m.changes u).verdict ≡ true) (l : LastOf (WroteOf m u) m.ended) where
  d : DecidesExactly size m
  d = decides_exactly size m r

  abbrev q : ℕ
  q = l.number

  -- the lock phase is over the cells of the change
  cells_by : (decides : Deciding) → (m.phases q).decides ≡ decides → IsOf u decides → (m.phases q).cells ≡ (m.changes u).cells
  cells_by NoChange is1 of = absurd of
  cells_by (ByPosts v) is1 of = let k : IsMarkedIn m q v = subst (IsDecidedIn m q) is1 (d.decided q l.one l.low) in k.cells ∙ ap (λ n. (m.changes n).cells) of
  cells_by (BySettles v group adopts) is1 of = let k : IsSettledIn m q v = subst (IsDecidedIn m q) is1 (d.decided q l.one l.low) in k.cells ∙ ap (λ n. (m.changes n).cells) of

  cells_are : (m.phases q).cells ≡ (m.changes u).cells
  cells_are = cells_by (m.phases q).decides refl l.passes.0

  spared_by : (decides : Deciding) → IsOf u decides → TakersAre size m.changes (m.phases q) decides → HasSpared size (m.phases q)
  spared_by NoChange of h = absurd of
  spared_by (ByPosts v) of h = h.1
  spared_by (BySettles v group adopts) of h = h.1

  taker : HasSpared size (m.phases q)
  taker = spared_by (m.phases q).decides l.passes.0 (takers_are size m is r q l.one l.low)

  -- a later lock phase over one of the cells that wrote accuses nobody
  none_by : (at i : ℕ) → q < at → at ≤ m.ended → (m.phases at).wrote ≡ true → (decides : Deciding) → (m.phases at).decides ≡ decides → IsQuietFor m.changes u decides → IsAccusedBy size m.changes decides (m.phases at).accused → (m.phases at).accused i ≡ false
  none_by at i later low wrote NoChange is1 quiet accused = accused i
  none_by at i later low wrote (ByPosts v) is1 (inl same) accused = absurd (l.last at later low (subst (IsOf u) (sym is1) same, wrote))
  none_by at i later low wrote (ByPosts v) is1 (inr never) (inl none) = none i
  none_by at i later low wrote (ByPosts v) is1 (inr never) (inr some) = apart_bools some.0 never
  none_by at i later low wrote (BySettles v group adopts) is1 same accused = absurd (l.last at later low (subst (IsOf u) (sym is1) same, wrote))

  spares : (cell : Cell) → has_cell (m.phases q).cells cell ≡ true → (i : ℕ) → (m.phases q).accused i ≡ false → IsSpared m q cell i
  spares cell has i none = record { itself = none; later = later } where
    later : (at : ℕ) → l.number ≤ at → at ≤ m.ended → has_cell (m.phases at).cells cell ≡ true → (m.phases at).wrote ≡ true → (m.phases at).accused i ≡ false
    later at from low covers wrote = by_order (cases_eq at l.number) where
      by_order : (at ≡ l.number) ⊎ (at ≢ l.number) → (m.phases at).accused i ≡ false
      by_order (inl same) = subst (λ n. (m.phases n).accused i ≡ false) (sym same) none
      by_order (inr other) =
          let beyond : l.number < at = omega (arith, from, other) in
          none_by at i beyond low wrote (m.phases at).decides refl
          ((later_are_quiet size m r).deciding l.number at u l.one l.passes.0 unsettled (record { later = beyond; ended = low; common = share_at (m.phases at).cells (m.changes u).cells cell covers (sym (ap (λ cs. has_cell cs cell) cells_are) ∙ has) }))
          (d.accused at (omega (arith, beyond)) low)

  module _ (p : ℕ) (saw : (cell : Cell) → has_cell (m.changes u).cells cell ≡ true → SawAll size m p cell) where
    one_on_all : HasSoundOnAll size (m.phases p) (m.changes u).cells
    one_on_all = record { member = taker.taker; low = taker.takes.replica; sound = sound_on } where
      sound_on : (cell : Cell) → has_cell (m.changes u).cells cell ≡ true → IsSoundIn size (m.phases p) cell taker.taker
      sound_on cell has =
          let covers : has_cell (m.phases l.number).cells cell ≡ true = ap (λ cs. has_cell cs cell) cells_are ∙ has in
          let ready = taker.takes.ready cell covers in
          free_sound size m is r p cell (saw cell has) taker.taker taker.takes.replica
          (ready_is_free size m is r l.number cell l.one l.low covers taker.taker ready (spares cell covers taker.taker taker.spared))
          (ready_shown size m is r p cell (saw cell has) l.number taker.taker l.one l.low l.passes.1 covers taker.takes.replica ready)

-- ---- there is one: the lock phase of the mark

of_or_not : (u : ℕ) (decides : Deciding) → IsOf u decides ⊎ (IsOf u decides → ⊥)
of_or_not u NoChange = inr (λ h. h)
of_or_not u (ByPosts v) = cases_eq v u
of_or_not u (BySettles v group adopts) = cases_eq v u

wrote_or_not : (m : State) (u p : ℕ) → WroteOf m u p ⊎ (WroteOf m u p → ⊥)
wrote_or_not m u p = by_case (of_or_not u (m.phases p).decides) (is_or_not (m.phases p).wrote) where
  by_case : IsOf u (m.phases p).decides ⊎ (IsOf u (m.phases p).decides → ⊥) → ((m.phases p).wrote ≡ true) ⊎ ((m.phases p).wrote ≡ false) → WroteOf m u p ⊎ (WroteOf m u p → ⊥)
  by_case (inl of) (inl wrote) = inl (of, wrote)
  by_case (inl of) (inr none) = inr (λ h. apart_bools h.1 none)
  by_case (inr other) wrote = inr (λ h. other h.0)

pub seen_all_has_one : SeenAllHasOne
seen_all_has_one size m is r p u unsettled saw = by_last (last_of (WroteOf m u) (wrote_or_not m u) m.ended) where
  marked : IsMarked m u
  marked = each_is_marked size m r u (unsettled_was (m.changes u).verdict unsettled)

  by_last : LastOf (WroteOf m u) m.ended ⊎ ((at : ℕ) → 1 ≤ at → at ≤ m.ended → WroteOf m u at → ⊥) → HasSoundOnAll size (m.phases p) (m.changes u).cells
  by_last (inl l) = one_on_all size m is r u unsettled l p saw
  by_last (inr none) =
      absurd (none marked.phase marked.one marked.low (subst (IsOf u) (sym marked.decides) refl, marks_wrote size m is r marked.phase u marked.one marked.low marked.decides (unsettled_was (m.changes u).verdict unsettled)))
