-- A read: the next cell is fetched from one replica, or the locks are released.
use Rattle.std.proofs.Common.{◌≡◌, ℕ, ◌+◌, ◌-◌, Bool, true, false, cond, List, [], Option, Some, None, refl}
use Rattle.std.specs.Prelude.{length, slice_get}
use Rattle.std.proofs.lemmas.Bool.{cond_both}
use Rattle.fop_types.specs.declared.answers.IoError.TheVariants as io
use Rattle.fop_types.specs.declared.cells.Cell.{Cell}
use Rattle.fop_types.specs.declared.contents.Content.{Content}
use Rattle.fop_types.specs.declared.contents.Mask.{Mask}
use Rattle.fop_types.specs.declared.jobs.SetReply.TheVariants as reply
use Rattle.fop_types.specs.declared.messages.BrickReq.TheVariants as req
use Rattle.afr_ledger.specs.Ledger.{State}
use Rattle.afr_phases.specs.Flags.{both, lowest}
use Rattle.afr_phases.proofs.Truths.{both_right, lowest_is}
use Rattle.afr_transaction.specs.declared.phase.Phase.TheVariants as phase
use Rattle.afr_transaction.specs.declared.phase.Then.TheVariants as next
use Rattle.afr_transaction.specs.declared.txn.Txn.{Txn}
use Rattle.afr_transaction.specs.Reads.{fd_of, sound_on, is_split_read, split_rows, with_absent, fetching, fetch_at, fetch_next, ready_to_read}
use Rattle.afr_transaction.specs.Requests.{HoldsLocks, IsFetch}
use Rattle.afr_transaction.specs.Txns.{alive}
use Rattle.afr_transaction.proofs.TurnsBase.{On, IsStill, alive_low, asks_only, only_alone}
use Rattle.afr_transaction.proofs.TurnsLocked.{unlock_on}

module _ (G : Type 0) (live : Mask) (last : List ℕ) (txn : Txn) (ledger : State Cell) (still : IsStill G txn) (holds : G → HoldsLocks txn) where
  by_replica : (place : ℕ) (contents : List (Option Content)) (cell : Cell) (sound : List Bool) (from : Option ℕ) → slice_get txn.cells (length contents) ≡ Some cell → lowest (both sound (alive txn)) ≡ from
      → On G txn.size (fetching txn place contents cell from ledger live last)
  by_replica place contents cell sound None at e = unlock_on G live last txn next.Again ledger still
  by_replica place contents cell sound (Some k) at e =
      let used = both_right sound (alive txn) k (lowest_is (both sound (alive txn)) k e) in
      asks_only G txn (req.Fetch (fd_of txn.job) cell) (phase.Fetching place k contents) still.1.0 still.1.1 k (alive_low txn k used) (only_alone k) holds
      (λ g. (holds g k used, record { cell = cell; at = at; is = refl }))

  by_cell : (place : ℕ) (contents : List (Option Content)) (cell : Option Cell) → slice_get txn.cells (length contents) ≡ cell → On G txn.size (fetch_at txn place contents cell ledger live last)
  by_cell place contents None at = unlock_on G live last txn (next.Answer (reply.Contents contents place)) ledger still
  by_cell place contents (Some cell) at = by_replica place contents cell (sound_on txn (length contents)) (lowest (both (sound_on txn (length contents)) (alive txn))) at refl

  pub fetch_on : (place : ℕ) (contents : List (Option Content)) → On G txn.size (fetch_next txn place contents ledger live last)
  fetch_on place contents =
      by_cell place (with_absent txn contents (length txn.cells - length contents)) (slice_get txn.cells (length (with_absent txn contents (length txn.cells - length contents)))) refl

  pub read_on : On G txn.size (ready_to_read txn ledger live last)
  read_on =
      cond_both (is_split_read txn 0 txn.cells) _ _ (On G txn.size)
      (λ e. unlock_on G live last txn (next.Answer (reply.Io (io.Split txn.set (split_rows txn 0 txn.cells)))) ledger still) (λ e. fetch_on (length ledger.history) [])
