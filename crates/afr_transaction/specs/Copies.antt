-- Copies of a transaction: one part after another, each with the rows of the lock phase. Only sinks that are still
-- used get a copy, and a part of which no source is still used is left: the locks are released and the job begins
-- again, a settling with what it has decided.
use Rattle.std.specs.Prelude.{ℕ, ◌+◌, Bool, true, false, ◌&&◌, ◌||◌, not, List, [], ◌∷◌, ◌++◌, Option, Some, None, is_some, drop, nat_lt, if◌then◌else◌}
use Rattle.fop_types.specs.declared.answers.SplitRow.{SplitRow}
use Rattle.fop_types.specs.declared.cells.Cell.{Cell}
use Rattle.fop_types.specs.declared.contents.Mask.{Mask}
use Rattle.fop_types.specs.declared.copy_jobs.Out.{Out}
use Rattle.fop_types.specs.declared.copy_jobs.CopyRecord.{CopyRecord}
use Rattle.fop_types.specs.declared.copy_jobs.CopyJob.{CopyJob}
use Rattle.afr_phases.specs.declared.outs.Outs.{Outs}
use Rattle.afr_phases.specs.Flags.{both, but_for, lowest, mask_of, flags_of}
use Rattle.afr_phases.specs.Outs.{left}
use Rattle.afr_phases.specs.Shown.{rows_listed}
use Rattle.afr_transaction.specs.declared.need.Need.{Need}
use Rattle.afr_transaction.specs.declared.need.Need.TheVariants as need
use Rattle.afr_transaction.specs.declared.phase.Part.{Part}
use Rattle.afr_transaction.specs.declared.phase.Phase.TheVariants as phase
use Rattle.afr_transaction.specs.declared.txn.Txn.{Txn}
use Rattle.afr_transaction.specs.Txns.{alive}

-- the sinks of a part that are still used, whether there is one, and whether a source is
abbrev pub sinks_left : Txn → Part → List Bool
sinks_left txn part = both part.sinks (alive txn)

abbrev pub has_sink : Txn → Part → Bool
has_sink txn part = is_some (lowest (sinks_left txn part))

abbrev pub has_source : Txn → Part → Bool
has_source txn part = is_some (lowest (both part.sources (alive txn)))

-- the next part that has a sink left, and the parts after it
abbrev pub next_part : Txn → List Part → Option Part × List Part
next_part txn [] = (None, [])
next_part txn (part ∷ parts) = if has_sink txn part then (Some part, parts) else next_part txn parts

abbrev pub copy_job : Txn → Part → CopyJob
copy_job txn part = record {
  cells = part.cells;
  sources = mask_of part.sources;
  sinks = mask_of (sinks_left txn part);
  held = mask_of (alive txn);
}

-- the numbers of the replicas, as the rows of a copy name them
abbrev pub replicas : List ℕ
replicas = 0 ∷ 1 ∷ 2 ∷ 3 ∷ 4 ∷ []

-- a copy is asked for, with the rows of its lock phase
abbrev pub copying : Txn → Part → List Part → Txn × Need
copying txn part parts =
    (record txn { phase = phase.Copying (sinks_left txn part) parts }, need.Copy (copy_job txn part) (rows_listed txn.shown replicas 0 txn.cells))

-- those of a set of n who went out during a copy
abbrev pub with_out : ℕ → Outs → Out → Outs
with_out n outs out = if nat_lt out.replica n then left outs out.replica out.fault out.mark else outs

abbrev pub with_outs : ℕ → Outs → List Out → Outs
with_outs n outs [] = outs
with_outs n outs (out ∷ rest) = with_outs n (with_out n outs out) rest

-- a sink that is still used was not brought up to date: the copy was left without a source
abbrev pub is_left : Txn → List Bool → Mask → Bool
is_left txn sinks current = is_some (lowest (but_for (both sinks (alive txn)) (flags_of current)))
