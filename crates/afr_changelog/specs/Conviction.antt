-- What a mask of sound replicas is good for, said of the rows that all replicas hold, reached or not,
-- and of the case in which all are reached.
use Rattle.std.specs.Prelude.{◌≡◌, ◌≢◌, ◌⊎◌, ℕ, ◌<◌, ◌≤◌, false, IsTrue, List, Option, Some, IfSome, MatchOption, slice_get, slice_index}
use Rattle.std.specs.List.{All, AllZip, count_by}
use Rattle.fop_types.specs.declared.contents.Mask.{Mask}
use Rattle.fop_types.specs.declared.contents.Row.{Row}
use Rattle.afr_changelog.specs.Masks.{Names}
use Rattle.afr_changelog.specs.Soundness.{row_of, reached_in, accuses, accusers_of}

-- each reached replica showed the row that it holds
abbrev pub AreShown : List Row → List (Option Row) → Type 0
AreShown held rows = AllZip (λ row shown. IfSome shown (λ seen. seen ≡ row)) held rows

-- how many of all replicas accuse the replica
abbrev pub accusers_among : List Row → ℕ → ℕ
accusers_among held replica = count_by (λ row. accuses replica (Some row)) held

-- the replica is convicted on the cell: its copy is not there, it accuses itself, or a quorum accuses it
abbrev pub IsConvicted : List Row → ℕ → ℕ → Type 0
IsConvicted held q replica = MatchOption (slice_get held replica) ⊥ (λ row.
    (row.present ≡ false) ⊎ (slice_index row.pending replica ≢ 0) ⊎ (q ≤ accusers_among held replica))

-- no replica that the mask names is convicted, whichever replicas were reached
abbrev pub TrustsNoConvict : List (Option Row) → ℕ → Mask → Type 0
TrustsNoConvict rows q mask = (held : List Row) → AreShown held rows → (k : ℕ) → Names mask k → ¬ IsConvicted held q k

-- the replica's copy is there, it does not accuse itself, and fewer than a quorum accuse it
pub record IsCleared (rows : List (Option Row)) (q replica : ℕ) : Type 0 where
  pub row : Row
  pub reached : row_of rows replica ≡ Some row
  pub present : IsTrue row.present
  pub trusts_itself : slice_index row.pending replica ≡ 0
  pub few_accusers : accusers_of rows replica < q

-- with all n replicas reached, the mask names each that no majority accuses, in this sense
abbrev pub NamesTheCleared : List (Option Row) → ℕ → ℕ → Mask → Type 0
NamesTheCleared rows n q mask = reached_in rows ≡ n → (k : ℕ) → IsCleared rows q k → Names mask k

-- the replica's copy is there, it accuses nobody, and fewer than a quorum accuse it
pub record IsInnocent (rows : List (Option Row)) (q replica : ℕ) : Type 0 where
  pub row : Row
  pub reached : row_of rows replica ≡ Some row
  pub present : IsTrue row.present
  pub accuses_nobody : All (λ counter. counter ≡ 0) row.pending
  pub few_accusers : accusers_of rows replica < q

-- with all n replicas reached, some replica is named where one of them is innocent
abbrev pub KeepsAMember : List (Option Row) → ℕ → ℕ → Mask → Type 0
KeepsAMember rows n q mask = reached_in rows ≡ n → (k : ℕ) → IsInnocent rows q k → (member : ℕ) × Names mask member
