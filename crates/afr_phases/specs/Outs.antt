-- The replicas that a job does not use any more, each with its first cause.
use Rattle.std.specs.Prelude.{ℕ, ◌+◌, Bool, ◌&&◌, not, nat_lt, List, [], ◌∷◌, Option, Some, None, is_some, slice_index_or, if◌then◌else◌}
use Rattle.std.specs.List.{slice_set, count_by}
use Rattle.fop_types.specs.declared.copy_jobs.Out.{Out}
use Rattle.afr_phases.specs.declared.outs.Outs.{Outs}
use Rattle.afr_phases.specs.Flags.{flags_by}

abbrev pub no_outs : Outs
no_outs = record { at = None ∷ None ∷ None ∷ None ∷ None ∷ [] }

abbrev pub is_out : Outs → ℕ → Bool
is_out outs k = is_some (slice_index_or outs.at k None)

-- with one more that is out, unless it was out before
abbrev pub left : Outs → ℕ → Bool → ℕ → Outs
left outs k fault mark =
    if is_out outs k then outs else record { at = slice_set outs.at k (Some (record { replica = k; fault = fault; mark = mark })) }

abbrev pub out_count : Outs → ℕ
out_count outs = count_by is_some outs.at

-- more than n - q replicas are out: n - q + 1, so that those left are no quorum
abbrev pub is_short : Outs → ℕ → ℕ → Bool
is_short outs n q = nat_lt n (out_count outs + q)

-- the replicas of n that are not out
abbrev pub used : Outs → ℕ → List Bool
used outs n = flags_by (λ k. nat_lt k n && not (is_out outs k))

-- those that are out, rising
abbrev pub outs_listed : List (Option Out) → List Out
outs_listed [] = []
outs_listed (None ∷ outs) = outs_listed outs
outs_listed (Some out ∷ outs) = out ∷ outs_listed outs
