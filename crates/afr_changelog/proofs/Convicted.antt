-- Of the accusers among all replicas, at most those that were not reached are missing among the reached.
use Rattle.std.proofs.Common.{inl, inr, Bool, true, false, ◌≡◌, ◌≢◌, ◌⊎◌, ℕ, zero, suc, ◌+◌, ◌<◌, ◌≤◌, List, [], ◌∷◌, Option, None, Some, is_some, length, arith, ◌∙◌, sym, ap, subst, slice_get, slice_index, MatchOption, if◌then◌else◌}
use Rattle.std.proofs.lemmas.List.Sums.{sum_by-cons}
use Rattle.std.proofs.lemmas.Bool.{cases_lt}
use Rattle.std.proofs.lemmas.List.{get_or_past}
use Rattle.std.specs.List.{All, count_by}
use Rattle.fop_types.specs.declared.contents.Row.{Row}
use Rattle.afr_changelog.specs.Soundness.{row_of, reached_in, accuses, accusers_of, IsSound}
use Rattle.afr_changelog.specs.Conviction.{AreShown, accusers_among, IsConvicted, IsInnocent}

count_cons : {X : Type 0} (p : X → Bool) (x : X) (xs : List X) → count_by p (x ∷ xs) ≡ (if p x then 1 else 0) + count_by p xs
count_cons p x xs = sum_by-cons (λ y. if p y then 1 else 0) x xs

at_most : (b : Bool) → (if b then 1 else 0) ≤ 1
at_most true = omega arith
at_most false = omega arith

pub accusers_bound : (k : ℕ) (held : List Row) (rows : List (Option Row)) → AreShown held rows → accusers_among held k + reached_in rows ≤ accusers_of rows k + length rows
accusers_bound k [] [] shown = omega arith
accusers_bound k [] (r ∷ rs) shown = absurd shown
accusers_bound k (h ∷ hs) [] shown = absurd shown
accusers_bound k (h ∷ hs) (None ∷ rs) shown =
    omega (arith, accusers_bound k hs rs shown.1, count_cons (λ row. accuses k (Some row)) h hs, count_cons is_some None rs, count_cons (accuses k) None rs, at_most (accuses k (Some h)))
accusers_bound k (h ∷ hs) (Some r ∷ rs) shown =
    omega (
      arith,
      accusers_bound k hs rs shown.1,
      count_cons (λ row. accuses k (Some row)) h hs,
      count_cons is_some (Some r) rs,
      count_cons (accuses k) (Some r) rs,
      ap {B = ℕ} (λ (row : Row). (if accuses k (Some row) then 1 else 0)) shown.0,
    )

shown_at : (k : ℕ) (held : List Row) (rows : List (Option Row)) (row : Row) → AreShown held rows → row_of rows k ≡ Some row → slice_get held k ≡ Some row
shown_at k [] [] row shown e = absurd cc
shown_at k [] (r ∷ rs) row shown e = absurd shown
shown_at k (h ∷ hs) [] row shown e = absurd shown
shown_at zero (h ∷ hs) (None ∷ rs) row shown e = absurd cc
shown_at zero (h ∷ hs) (Some r ∷ rs) row shown e = ap Some (sym shown.0) ∙ e
shown_at (suc k) (h ∷ hs) (r ∷ rs) row shown e = shown_at k hs rs row shown.1 e

pub sound_unconvicted : (held : List Row) (rows : List (Option Row)) (n q k : ℕ) → AreShown held rows → length rows ≡ n → q ≤ n → IsSound rows n q k → ¬ IsConvicted held q k
sound_unconvicted held rows n q k shown long few s convicted =
    let few' : accusers_among held k < q = omega (arith, accusers_bound k held rows shown, s.few_accusers) in
    let c : (s.row.present ≡ false) ⊎ ((slice_index s.row.pending k ≢ 0) ⊎ (q ≤ accusers_among held k)) =
    subst (λ o. MatchOption o ⊥ (λ row. (row.present ≡ false) ⊎ ((slice_index row.pending k ≢ 0) ⊎ (q ≤ accusers_among held k)))) (shown_at k held rows s.row shown s.reached) convicted in
    elim c [
      | inl missing ↦ let there : s.row.present ≡ true = s.present in absurd cc
      | inr accused ↦ elim accused [
        | inl itself ↦ absurd (itself s.trusts_itself)
        | inr many ↦ absurd (omega arith)
      ]
    ]

pub reached_within : (k : ℕ) (rows : List (Option Row)) (row : Row) → row_of rows k ≡ Some row → k < length rows
reached_within k [] row e = absurd cc
reached_within zero (r ∷ rs) row e = omega arith
reached_within (suc k) (r ∷ rs) row e = omega (arith, reached_within k rs row e)

none_is_zero : (counters : List ℕ) (k : ℕ) → All (λ counter. counter ≡ 0) counters → slice_index counters k ≡ 0
none_is_zero counters k all = elim (cases_lt k (length counters)) [
  | inl l ↦ all k 0 l
  | inr h ↦ get_or_past counters k 0 h
]

pub innocent_sound : (rows : List (Option Row)) (n q k : ℕ) → q ≤ n → reached_in rows ≡ n → IsInnocent rows q k → IsSound rows n q k
innocent_sound rows n q k few full i = record {
  row = i.row;
  reached = i.reached;
  present = i.present;
  trusts_itself = none_is_zero i.row.pending k i.accuses_nobody;
  few_accusers = omega (arith, i.few_accusers);
}
