-- What a transaction keeps between two turns, beside `Keeps`: its lock phase reached those who are used, and its phases are of
-- its work: a read, a mark, an op and a post of its own job, and a settle of the change that it settles.
use Rattle.std.specs.Prelude.{◌≡◌, ℕ, true, Some, None}
use Rattle.afr_phases.specs.Flags.{flag}
use Rattle.afr_transaction.specs.declared.jobs.Kind.TheVariants as kind
use Rattle.afr_transaction.specs.declared.phase.Phase.{Phase}
use Rattle.afr_transaction.specs.declared.phase.Phase.TheVariants as phase
use Rattle.afr_transaction.specs.declared.txn.Txn.{Txn}
use Rattle.afr_transaction.specs.Jobs.{kind_of}
use Rattle.afr_transaction.specs.Txns.{alive}

abbrev pub AreReached : Txn → Type 0
AreReached txn = (k : ℕ) → flag (alive txn) k ≡ true → flag txn.shown.reached k ≡ true

abbrev pub WorksIn : Phase → Txn → Type 0
WorksIn (phase.Locking at) txn = Unit {0}
WorksIn (phase.Unlocking after) txn = Unit {0}
WorksIn (phase.Fetching place from contents) txn = AreReached txn × ((txn.settles ≡ None) × (kind_of txn.job ≡ kind.Read))
WorksIn (phase.Copying sinks rest) txn = AreReached txn
WorksIn (phase.Marking change) txn = AreReached txn × (txn.settles ≡ None)
WorksIn (phase.Writing change) txn = AreReached txn × (txn.settles ≡ None)
WorksIn (phase.Posting change adopted) txn = AreReached txn × (txn.settles ≡ None)
WorksIn (phase.Settling verdict) txn = AreReached txn × (txn.settles ≡ Some verdict.change)
WorksIn phase.Bearing txn = AreReached txn
WorksIn phase.Opening txn = Unit {0}
WorksIn (phase.Listing all) txn = kind_of txn.job ≡ kind.Index
WorksIn phase.Over txn = Unit {0}

abbrev pub Works : Txn → Type 0
Works txn = WorksIn txn.phase txn
