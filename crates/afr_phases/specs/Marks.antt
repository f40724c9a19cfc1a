-- With which mark a replica is out. Who is lost has the number of its last connection.
use Rattle.std.specs.Prelude.{◌≡◌, ℕ, ◌⊎◌, false, List, Some, None, slice_index, slice_index_or}
use Rattle.fop_types.specs.declared.copy_jobs.Out.{Out}
use Rattle.afr_phases.specs.declared.outs.Outs.{Outs}

-- the replica is out as lost, with the number of its last connection
pub record IsLost (last : List ℕ) (out : Out) : Type 0 where
  pub no_fault : out.fault ≡ false
  pub number : out.mark ≡ slice_index last out.replica

-- each that is out after was out before, with the same mark, or is lost
abbrev pub AreLostSince : List ℕ → Outs → Outs → Type 0
AreLostSince last before after = (j : ℕ) (out : Out) → slice_index_or after.at j None ≡ Some out → (slice_index_or before.at j None ≡ Some out) ⊎ IsLost last out
