-- What is known of a job between two turns is known of it as its turn begins.
use Rattle.std.proofs.Common.{◌≡◌, true}
use Rattle.afr_transaction.specs.declared.phase.Phase.{Phase}
use Rattle.afr_transaction.specs.declared.phase.Phase.TheVariants as phase
use Rattle.afr_transaction.specs.declared.txn.Txn.{Txn}
use Rattle.afr_transaction.specs.Answers.{idle}
use Rattle.afr_transaction.specs.Causes.{TracksIn}
use Rattle.afr_transaction.specs.Shapes.{suits}

pub tracks_idle : (p : Phase) (txn : Txn) → TracksIn p txn → TracksIn p (idle txn)
tracks_idle (phase.Locking at) txn t = t
tracks_idle (phase.Unlocking after) txn t = t
tracks_idle (phase.Fetching place from contents) txn t = t
tracks_idle (phase.Copying sinks parts) txn t = t
tracks_idle (phase.Marking change) txn t = t
tracks_idle (phase.Writing change) txn t = t
tracks_idle (phase.Posting change adopted) txn t = t
tracks_idle (phase.Settling verdict) txn t = t
tracks_idle phase.Bearing txn t = t
tracks_idle phase.Opening txn t = t
tracks_idle (phase.Listing all) txn t = t
tracks_idle phase.Over txn t = t

pub suits_idle : (p : Phase) (txn : Txn) → suits p txn ≡ true → suits p (idle txn) ≡ true
suits_idle (phase.Locking at) txn h = h
suits_idle (phase.Unlocking after) txn h = h
suits_idle (phase.Fetching place from contents) txn h = h
suits_idle (phase.Copying sinks parts) txn h = h
suits_idle (phase.Marking change) txn h = h
suits_idle (phase.Writing change) txn h = h
suits_idle (phase.Posting change adopted) txn h = h
suits_idle (phase.Settling verdict) txn h = h
suits_idle phase.Bearing txn h = h
suits_idle phase.Opening txn h = h
suits_idle (phase.Listing all) txn h = h
suits_idle phase.Over txn h = h
