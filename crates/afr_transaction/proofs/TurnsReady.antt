-- The end of a lock phase: each kind of job asks, copies, or releases its locks.
use Rattle.std.proofs.Common.{◌≡◌, ℕ, ◌+◌, ◌⊎◌, inl, inr, Bool, true, false, ◌&&◌, ◌||◌, not, cond, List, [], ◌∷◌, ◌++◌, Option, Some, None, is_none, is_some, refl, sym, ap, subst}
use Rattle.std.specs.Prelude.{suc, zero}
use Rattle.std.proofs.lemmas.Bool.{cond_both, and_from, and_parts, and_right, true≢false}
use Rattle.fop_types.specs.Orders.{cell_cmp}
use Rattle.fop_types.specs.declared.cells.Cell.{Cell}
use Rattle.fop_types.specs.declared.causes.SkipCause.{SkipCause}
use Rattle.fop_types.specs.declared.causes.SkipCause.TheVariants as skip
use Rattle.fop_types.specs.declared.contents.Mask.{Mask}
use Rattle.fop_types.specs.declared.answers.IoError.TheVariants as io
use Rattle.fop_types.specs.declared.jobs.SetReply.TheVariants as reply
use Rattle.fop_types.specs.declared.messages.BrickReq.TheVariants as req
use Rattle.fop_types.specs.declared.store_ops.StoreOp.{StoreOp}
use Rattle.afr_ledger.specs.Changes.{numbered, touching}
use Rattle.afr_ledger.specs.Ledger.{State}
use Rattle.afr_phases.specs.declared.shown.Shown.{Shown}
use Rattle.afr_phases.specs.Flags.{flag, flags_by, lowest, but_for, mask_of, outside}
use Rattle.afr_phases.specs.Outs.{is_short}
use Rattle.afr_phases.specs.Shown.{rows_listed}
use Rattle.afr_transaction.specs.declared.jobs.Kind.{Kind}
use Rattle.afr_transaction.specs.declared.jobs.Kind.TheVariants as kind
use Rattle.afr_transaction.specs.declared.phase.Part.{Part}
use Rattle.afr_transaction.specs.declared.phase.Phase.TheVariants as phase
use Rattle.afr_transaction.specs.declared.phase.Then.TheVariants as next
use Rattle.afr_transaction.specs.declared.txn.Txn.{Txn}
use Rattle.afr_transaction.specs.Copied.{healed}
use Rattle.afr_transaction.specs.Jobs.{kind_of, birth_op}
use Rattle.afr_transaction.specs.Parts.{common_from, common_of, is_split, with_cell, joined_at, joined, place_of, with_copy, parts_from, all_parts, sources_for}
use Rattle.afr_transaction.specs.Reads.{sound_on}
use Rattle.afr_transaction.specs.Ready.{split, skipping, is_touched, ready_to_change, ready_to_heal, settle_by, ready_to_settle, bearing_by, bearing, ready_by, ready_for, ready}
use Rattle.afr_transaction.specs.Requests.{HoldsLocks, AccusesBut}
use Rattle.afr_transaction.specs.Settles.{has_it, group_of, settling}
use Rattle.afr_transaction.specs.Shapes.{has_cell, have_cells, is_group}
use Rattle.afr_transaction.specs.Sound.{agrees}
use Rattle.afr_transaction.specs.Txns.{alive, heal_reply}
use Rattle.afr_phases.proofs.Encoded.{mask_small}
use Rattle.afr_transaction.proofs.TurnsBase.{On, OnWith, IsStill, asks_alive, someone, accuses}
use Rattle.afr_transaction.proofs.TurnsCopies.{next_is, next_on}
use Rattle.afr_transaction.proofs.TurnsLocked.{unlock_on}
use Rattle.afr_transaction.proofs.TurnsReads.{read_on}

-- ---- each part has a cell

more_cells : (cells : List Cell) (cell : Cell) → has_cell (cells ++ cell ∷ []) ≡ true
more_cells [] cell = refl
more_cells (c ∷ cells) cell = refl

join_cells : (place : ℕ) (parts : List Part) (cell : Cell) (sources sinks : List Bool) → have_cells parts ≡ true → have_cells (joined_at place parts cell sources sinks) ≡ true
join_cells place [] cell sources sinks h = refl
join_cells zero (part ∷ parts) cell sources sinks h =
    and_from (has_cell (part.cells ++ cell ∷ [])) (have_cells parts) (more_cells part.cells cell) (and_parts (has_cell part.cells) (have_cells parts) h).1
join_cells (suc place) (part ∷ parts) cell sources sinks h =
    let both = and_parts (has_cell part.cells) (have_cells parts) h in
    and_from (has_cell part.cells) (have_cells (joined_at place parts cell sources sinks)) both.0 (join_cells place parts cell sources sinks both.1)

copy_cells : (parts : List Part) (cell : Cell) (sources sinks : List Bool) → have_cells parts ≡ true → have_cells (with_copy parts cell sources sinks) ≡ true
copy_cells parts cell sources sinks h =
    cond_both (is_none (lowest sinks)) parts (joined parts cell sources sinks) (λ (x : List Part). have_cells x ≡ true) (λ e. h)
    (λ e. join_cells (place_of parts sources sinks) parts cell sources sinks h)

part_cells : (txn : Txn) (common : List Bool) (c : ℕ) (cells : List Cell) (parts : List Part) → have_cells parts ≡ true → have_cells (parts_from txn parts common c cells) ≡ true
part_cells txn common c [] parts h = h
part_cells txn common c (cell ∷ cells) parts h =
    part_cells txn common (c + 1) cells (with_copy parts cell (sources_for common (sound_on txn c)) (but_for txn.shown.reached (sound_on txn c)))
    (copy_cells parts cell (sources_for common (sound_on txn c)) (but_for txn.shown.reached (sound_on txn c)) h)

all_cells : (txn : Txn) → have_cells (all_parts txn) ≡ true
all_cells txn = part_cells txn (common_of txn) 0 txn.cells [] refl

-- ---- without a cell nobody is outside the group

abbrev group_at : Txn → ℕ → ℕ → List Cell → List Bool
group_at txn change source cells =
    flags_by (λ k. flag (common_from txn (flags_by (λ j. true)) 0 cells) k && agrees txn.shown change source 0 cells k)

none_outside : (reached : List Bool) → is_none (lowest (but_for reached (flags_by (λ j. true)))) ≡ true
none_outside reached = rw (and_right (flag reached 0) false refl, and_right (flag reached 1) false refl, and_right (flag reached 2) false refl, and_right (flag reached 3) false refl, and_right (flag reached 4) false refl) refl

group_cells : (txn : Txn) (change source : ℕ) (reached : List Bool) (cells : List Cell) → (has_cell cells || is_none (lowest (but_for reached (group_at txn change source cells)))) ≡ true
group_cells txn change source reached [] = none_outside reached
group_cells txn change source reached (cell ∷ cells) = refl

-- ---- how each job goes on

module _ (G : Type 0) (live : Mask) (last : List ℕ) (txn : Txn) (ledger : State Cell) (still : IsStill G txn) (holds : G → HoldsLocks txn) (enough : is_short txn.outs txn.size.n txn.size.q ≡ false) where
  some : (k : ℕ) × (flag (alive txn) k ≡ true)
  some = someone txn enough

  split_on : On G txn.size (split txn ledger live last)
  split_on = unlock_on G live last txn (next.Answer (reply.Io (io.Split txn.set (rows_listed txn.shown txn.bricks 0 txn.cells)))) ledger still

  change_on : OnWith G txn.size (ready_to_change txn ledger live last)
  change_on =
      cond_both (is_split txn 0 txn.cells) _ _ (OnWith G txn.size) (λ e. split_on)
      (λ e. next_on G live last txn (all_parts txn) ledger (next_is txn (all_parts txn) (all_cells txn)) still holds (inr enough))

  skip_on : (cause : SkipCause) → On G txn.size (skipping txn cause ledger live last)
  unfolding skipping
  skip_on cause = unlock_on G live last (healed txn) (next.Answer (heal_reply txn.records cause)) ledger still

  heal_on : OnWith G txn.size (ready_to_heal txn ledger live last)
  heal_on =
      cond_both (is_touched txn ledger) _ _ (OnWith G txn.size) (λ e. skip_on skip.Unsettled)
      (λ e. cond_both (is_split txn 0 txn.cells) _ _ (OnWith G txn.size) (λ s. skip_on skip.Split)
      (λ s. next_on G live last txn (all_parts txn) ledger (next_is txn (all_parts txn) (all_cells txn)) still holds (inr enough)))

  source_on : (change : ℕ) (source : Option ℕ) → is_some txn.settles ≡ true → On G txn.size (settle_by txn change source ledger live last)
  source_on change None settles = split_on
  source_on change (Some source) settles =
      asks_alive G txn (req.Settle txn.cells (mask_of (outside txn.size.n (group_of txn change (common_of txn) source))))
      (phase.Settling (record { change = change; held = has_it txn change source; group = group_of txn change (common_of txn) source; decided = false })) still.1.0 still.1.1 some.0 some.1
      (and_from (is_some txn.settles) (has_cell txn.cells || is_none (lowest (but_for txn.shown.reached (group_of txn change (common_of txn) source)))) settles
      (group_cells txn change source txn.shown.reached txn.cells)) holds
      (λ g j f. (holds g j f, record { accused = mask_of (outside txn.size.n (group_of txn change (common_of txn) source)); small = mask_small (outside txn.size.n (group_of txn change (common_of txn) source)); exactly = accuses txn.size.n (group_of txn change (common_of txn) source); is = refl }))

  settle_on : (change : ℕ) → is_some txn.settles ≡ true → On G txn.size (ready_to_settle txn change ledger live last)
  settle_on change settles =
      cond_both (is_some (numbered change ledger.unsettled)) _ _ (On G txn.size) (λ e. source_on change (lowest (common_of txn)) settles)
      (λ e. unlock_on G live last txn next.Again ledger still)

  bear_on : (op : Option StoreOp) → birth_op txn.job ≡ op → On G txn.size (bearing_by op txn ledger live last)
  bear_on None at = unlock_on G live last txn next.Again ledger still
  bear_on (Some op) at = asks_alive G txn (req.Op 0 0 op) phase.Bearing still.1.0 still.1.1 some.0 some.1 refl holds (λ g j f. (holds g j f, record { op = op; at = at; is = refl }))

  kind_on : (k : Kind) → OnWith G txn.size (ready_by k txn ledger live last)
  kind_on kind.Read = read_on G live last txn ledger still holds
  kind_on kind.Change = change_on
  kind_on kind.Birth = bear_on (birth_op txn.job) refl
  kind_on kind.Heal = heal_on
  kind_on (kind.Open fd gfid) = unlock_on G live last txn next.Again ledger still
  kind_on kind.Index = unlock_on G live last txn next.Again ledger still

  pub ready_on : OnWith G txn.size (ready txn ledger live last)
  ready_on = by txn.settles refl where
    by : (s : Option ℕ) → txn.settles ≡ s → OnWith G txn.size (ready_for s txn ledger live last)
    by (Some change) e = settle_on change (ap is_some e)
    by None e = kind_on (kind_of txn.job)
