-- Each answer and each finished copy leaves less to do, unless the job begins again; and each beginning again is paid for.
use Rattle.std.proofs.Common.{◌≡◌, ◌∙◌, ℕ, zero, suc, ◌+◌, ◌-◌, ◌*◌, ◌<◌, ◌≤◌, ◌⊎◌, inl, inr, Bool, true, false, ◌&&◌, ◌||◌, not, cond, List, [], ◌∷◌, ◌++◌, Option, Some, None, is_none, is_some, refl, sym, ap, subst, arith}
use Rattle.std.specs.Prelude.{length, slice_get, slice_index}
use Rattle.std.specs.List.Sorted.{IsStrictlySortedBy}
use Rattle.std.specs.Map.{keys_of}
use Rattle.std.specs.Ordering.{nat_cmp}
use Rattle.std.proofs.lemmas.Bool.{cond_both, and_parts, or_from, or_left, or_right, true≢false}
use Rattle.fop_types.specs.declared.answers.IoError.TheVariants as io
use Rattle.fop_types.specs.declared.causes.SkipCause.{SkipCause}
use Rattle.fop_types.specs.declared.causes.SkipCause.TheVariants as skip
use Rattle.fop_types.specs.declared.cells.Cell.{Cell}
use Rattle.fop_types.specs.declared.contents.Content.{Content}
use Rattle.fop_types.specs.declared.contents.Mask.{Mask}
use Rattle.fop_types.specs.declared.contents.Row.{Row}
use Rattle.fop_types.specs.declared.copy_jobs.CopyDone.{CopyDone}
use Rattle.fop_types.specs.declared.jobs.SetReply.{SetReply}
use Rattle.fop_types.specs.declared.jobs.SetReply.TheVariants as reply
use Rattle.fop_types.specs.declared.messages.BrickRep.{BrickRep}
use Rattle.fop_types.specs.declared.store_ops.StoreOp.{StoreOp}
use Rattle.afr_ledger.specs.Changes.{numbered}
use Rattle.afr_ledger.specs.Ledger.{State, AreDrawn, with_number}
use Rattle.afr_phases.specs.declared.locking.LockStep.{LockStep}
use Rattle.afr_phases.specs.declared.locking.LockStep.TheVariants as step
use Rattle.afr_phases.specs.declared.outs.Outs.{Outs}
use Rattle.afr_phases.specs.Answers.{is_fault, is_plain_done, rows_in, content_in, cells_in}
use Rattle.afr_phases.specs.Asked.{is_within, is_waiting, are_granted_within}
use Rattle.afr_phases.specs.Flags.{bit, flag, lowest, both, but_for}
use Rattle.afr_phases.specs.Locking.{next_lock}
use Rattle.afr_phases.specs.Locks.{granted, standing}
use Rattle.afr_phases.specs.Outs.{is_short, left, used}
use Rattle.afr_phases.specs.Shown.{with_rows, rows_listed}
use Rattle.afr_phases.specs.Waves.{is_asked, is_over, sent_to, taken}
use Rattle.afr_phases.proofs.Asked.{only_at, within_at}
use Rattle.afr_phases.proofs.Short.{AsksFrom, asks_from}
use Rattle.afr_phases.proofs.Stays.{used_heard, used_left}
use Rattle.afr_transaction.specs.declared.jobs.Kind.{Kind}
use Rattle.afr_transaction.specs.declared.jobs.Kind.TheVariants as kind
use Rattle.afr_transaction.specs.declared.need.Need.{Need}
use Rattle.afr_transaction.specs.declared.phase.Adopted.{Adopted}
use Rattle.afr_transaction.specs.declared.phase.Part.{Part}
use Rattle.afr_transaction.specs.declared.phase.Phase.{Phase}
use Rattle.afr_transaction.specs.declared.phase.Phase.TheVariants as phase
use Rattle.afr_transaction.specs.declared.phase.Then.{Then}
use Rattle.afr_transaction.specs.declared.phase.Then.TheVariants as next
use Rattle.afr_transaction.specs.declared.phase.Verdict.{Verdict}
use Rattle.afr_transaction.specs.declared.txn.Txn.{Txn}
use Rattle.afr_transaction.specs.Answers.{lock_step, lock_on, hearing, waiting, write_by, mark_answered, write_answered, post_ended, post_answered, settle_ended, settle_answered, birth_answered, unlock_answered, open_answered, list_taken, list_answered, aspect_at, answered_in, answered, copied_in, copied, idle}
use Rattle.afr_transaction.specs.Causes.{Tracks, TracksIn}
use Rattle.afr_transaction.specs.Changes.{has_number, may_begin, marking, post_decided}
use Rattle.afr_transaction.specs.Copied.{healed, is_change, copied_all, copy_by, copy_next, copy_noted}
use Rattle.afr_transaction.specs.Copies.{has_sink, has_source, next_part, is_left}
use Rattle.afr_transaction.specs.Encodings.{BoundsIn, HasBounds, TakesLocks}
use Rattle.afr_transaction.specs.Jobs.{kind_of, birth_op, change_op}
use Rattle.afr_transaction.specs.Locked.{again, going, job_cells, lost_noted, unlock, fail, lock_taken, reached}
use Rattle.afr_transaction.specs.Parts.{common_of, is_split, sources_for, place_of, joined_at, joined, with_copy, parts_from, all_parts}
use Rattle.afr_transaction.specs.Polls.{list_ended}
use Rattle.afr_transaction.specs.Reads.{lacks, sound_on, is_split_read, split_rows, with_absent, fetching, fetch_at, fetch_next, fetch_taken, ready_to_read}
use Rattle.afr_transaction.specs.Ready.{split, skipping, is_touched, settle_by, bearing_by, ready_by, ready_for}
use Rattle.afr_transaction.specs.Settles.{settle_decided, settle_parts}
use Rattle.afr_transaction.specs.Requests.{Keeps}
use Rattle.afr_transaction.specs.Shapes.{suits, are_copies, has_cell, is_asking, is_copying}
use Rattle.afr_transaction.specs.Txns.{alive, heal_reply, healing, io_of, is_heal, kept, only}
use Rattle.txn_laws.specs.Own.{IsSameJob}
use Rattle.txn_laws.proofs.Handed.{own_after}
use Rattle.txn_laws.proofs.Known.{answers_stay, copies_stay}
use Rattle.txn_laws.proofs.Noted.{again_after}
use Rattle.txn_laws.specs.Work.{how_many, phases_left, work, BeginsAgain as Again, EachAnswerLeavesLess, EachCopyLeavesLess}
use Rattle.txn_laws.specs.Rounds.{unsettled_on, occasions, is_settled, is_met, is_one_out, is_lock_late, is_read_late, is_copy_late, is_mark_late, is_settle_late, rounds_in, rounds, LedgerKeeps, IsPaid, EachAnswerIsPaid, sinks_in, LeavesForLoss, EachCopyIsPaid}
use Rattle.txn_laws.proofs.Counts.{bit_less, few_flags, asked_less, used_less_one, none_more, none_out}
use Rattle.txn_laws.proofs.Paying.{fewer, less_late, is_due, spared, at_most_one, beside, moved, same, Pays, released, own_budget, pays_since, noted_pays, again_pays, mark_late, settle_pays, read_pays, reads_in, copies_met, rest_late, settles_late, met_late, other_late, part_late, lock_since, noted_late, noted_loss, changes_copy, heals_copy, births_have, opens_take_none, indexes_take_none}
use Rattle.txn_laws.proofs.Sources.{all_have, LackFrom, next_lacks, read_late, same_split, stops}
use Rattle.txn_laws.proofs.Unsettled.{nobody_on}
use Rattle.txn_laws.proofs.Used.{IsSince, step_since}
use Rattle.txn_laws.proofs.Idle.{tracks_idle, suits_idle}
use Rattle.afr_transaction.proofs.Steps.{one_longer}

-- ---- phases

-- a phase less, or an answer less in the same phase
lower_phase : (r s a b : ℕ) → r < s → a ≤ 5 → 6 * r + a < 6 * s + b
lower_phase r s a b less few = omega arith

same_phase : (r a b : ℕ) → a < b → 6 * r + a < 6 * r + b
same_phase r a b less = omega arith

at_most : (a m n : ℕ) → a ≤ m → m ≤ n → a ≤ n
at_most a m n h k = omega arith

under : (a m n : ℕ) → a ≤ m → m < n → a < n
under a m n h k = omega arith

apart : (m n : ℕ) → m < n → n ≤ m → ⊥
apart m n h k = omega arith

not_there : {A : Type 0} (o : Option A) → is_some o ≡ false → o ≡ None
not_there None e = refl
not_there (Some x) e = absurd (true≢false e)

-- ---- lengths

longer : (txn : Txn) (contents : List (Option Content)) (left : ℕ) → length contents ≤ length (with_absent txn contents left)
longer txn contents zero = omega arith
longer txn contents (suc left) =
    cond_both (lacks txn (length contents)) (with_absent txn (contents ++ None ∷ []) left) contents (λ (l : List (Option Content)). length contents ≤ length l)
    (λ e. omega (arith, one_longer contents None, longer txn (contents ++ None ∷ []) left)) (λ e. omega arith)

below_length : (cells : List Cell) (i : ℕ) (cell : Cell) → slice_get cells i ≡ Some cell → i < length cells
below_length [] i cell e = absurd cc
below_length (c ∷ cells) zero cell e = omega arith
below_length (c ∷ cells) (suc i) cell e = let rest : i < length cells = below_length cells i cell e in omega arith

join_few : (place : ℕ) (parts : List Part) (cell : Cell) (sources sinks : List Bool) → length (joined_at place parts cell sources sinks) ≤ length parts + 1
join_few place [] cell sources sinks = omega arith
join_few zero (part ∷ parts) cell sources sinks = omega arith
join_few (suc place) (part ∷ parts) cell sources sinks = omega (arith, join_few place parts cell sources sinks)

copy_few : (parts : List Part) (cell : Cell) (sources sinks : List Bool) → length (with_copy parts cell sources sinks) ≤ length parts + 1
copy_few parts cell sources sinks =
    cond_both (is_none (lowest sinks)) parts (joined parts cell sources sinks) (λ (l : List Part). length l ≤ length parts + 1) (λ e. omega arith)
    (λ e. join_few (place_of parts sources sinks) parts cell sources sinks)

parts_few : (txn : Txn) (common : List Bool) (c : ℕ) (cells : List Cell) (parts : List Part) → length (parts_from txn parts common c cells) ≤ length parts + length cells
parts_few txn common c [] parts = omega arith
parts_few txn common c (cell ∷ cells) parts =
    omega (
      arith,
      copy_few parts cell (sources_for common (sound_on txn c)) (but_for txn.shown.reached (sound_on txn c)),
      parts_few txn common (c + 1) cells (with_copy parts cell (sources_for common (sound_on txn c)) (but_for txn.shown.reached (sound_on txn c))),
    )

-- the next part, of so many, and those after it
abbrev NextFew : ℕ → Option Part × List Part → Type 0
NextFew n (None, parts) = Unit {0}
NextFew n (Some part, parts) = length parts + 1 ≤ n

next_more : (n : ℕ) (t : Option Part × List Part) → NextFew n t → NextFew (n + 1) t
next_more n (None, parts) few = tt
next_more n (Some part, parts) few = let least : length parts + 1 ≤ n = few in omega arith

next_few : (txn : Txn) (parts : List Part) → NextFew (length parts) (next_part txn parts)
next_few txn [] = tt
next_few txn (part ∷ parts) =
    let one : length parts + 1 ≡ length (part ∷ parts) = omega arith in
    let here : length parts + 1 ≤ length (part ∷ parts) = omega arith in
    cond_both (has_sink txn part) (Some part, parts) (next_part txn parts) (NextFew (length (part ∷ parts))) (λ e. here)
    (λ e. subst (λ (n : ℕ). NextFew n (next_part txn parts)) one (next_more (length parts) (next_part txn parts) (next_few txn parts)))

-- ---- turns after which so many phases may follow at most

-- some job begins again
record BeginsAgain (ledger : State Cell) (live : Mask) (last : List ℕ) (after : Txn) (turned : Need) : Type 0 where
  pub job : Txn
  pub after_is : after ≡ (again job ledger live last).0
  pub need_is : turned ≡ (again job ledger live last).1

-- Where P holds they leave no more rounds than a budget, and fewer where the job begins again.
module _ (P : Type 0) (live : Mask) (last : List ℕ) where
  abbrev Low : State Cell → ℕ → ℕ → Txn × Need → Type 0
  Low ledger most budget t =
      ((phases_left t.0.phase t.0 ≤ most) × (P → rounds t.0 ledger ≤ budget)) ⊎ (BeginsAgain ledger live last t.0 t.1 × (P → rounds t.0 ledger < budget))

  abbrev LowWith : ℕ → ℕ → Txn × (Need × State Cell) → Type 0
  LowWith most budget t =
      ((phases_left t.0.phase t.0 ≤ most) × (P → rounds t.0 t.1.1 ≤ budget)) ⊎ (BeginsAgain t.1.1 live last t.0 t.1.0 × (P → rounds t.0 t.1.1 < budget))

  -- the same of the work
  abbrev Less : ℕ → ℕ → Txn × (Need × State Cell) → Type 0
  Less most budget t = ((work t.0 < most) × (P → rounds t.0 t.1.1 ≤ budget)) ⊎ (BeginsAgain t.1.1 live last t.0 t.1.0 × (P → rounds t.0 t.1.1 < budget))

  raise : (ledger : State Cell) (m n budget : ℕ) (t : Txn × Need) → m ≤ n → Low ledger m budget t → Low ledger n budget t
  raise ledger m n budget t le (inl h) = inl (at_most (phases_left t.0.phase t.0) m n h.0 le, h.1)
  raise ledger m n budget t le (inr h) = inr h

  raise_with : (m n budget : ℕ) (t : Txn × (Need × State Cell)) → m ≤ n → LowWith m budget t → LowWith n budget t
  raise_with m n budget t le (inl h) = inl (at_most (phases_left t.0.phase t.0) m n h.0 le, h.1)
  raise_with m n budget t le (inr h) = inr h

  -- it leaves less than a phase after which more may follow
  finish : (most s b budget : ℕ) (t : Txn × (Need × State Cell)) → most < s → LowWith most budget t → Less (6 * s + b) budget t
  finish most s b budget t fewer (inl h) =
      inl (lower_phase (phases_left t.0.phase t.0) s (how_many t.0.wave.asked) b (under (phases_left t.0.phase t.0) most s h.0 fewer) (few_flags t.0.wave.asked), h.1)
  finish most s b budget t fewer (inr a) = inr a

  going_low : (txn : Txn) (after : Then) (ledger : State Cell) (budget : ℕ) → (P → Pays after txn ledger budget) → Low ledger 0 budget (going txn after ledger live last)
  going_low txn (next.Answer r) ledger budget pays = inl (omega arith, λ p. omega arith)
  going_low txn next.Again ledger budget pays = inr (record { job = txn; after_is = refl; need_is = refl }, λ p. again_pays txn ledger live last budget (pays p))

  -- a release, where one phase or more may follow
  unlock_low : (txn : Txn) (after : Then) (ledger : State Cell) (most budget : ℕ) → 1 ≤ most → (P → Pays after txn ledger budget) → Low ledger most budget (unlock txn after ledger live last)
  unlock_low txn after ledger most budget least pays =
      cond_both (is_none (lowest (standing txn.locks live last))) _ _ (Low ledger most budget)
      (λ e. raise ledger 0 most budget (going (lost_noted txn live last) after ledger live last) (omega arith) (going_low (lost_noted txn live last) after ledger budget noted))
      (λ e. inl (least, λ p. released after (lost_noted txn live last) (sent_to (standing txn.locks live last)) (phase.Unlocking after) ledger budget (noted p)))
    where
      noted : P → Pays after (lost_noted txn live last) ledger budget
      noted p = noted_pays after txn ledger live last budget (pays p)

  answer_low : (txn : Txn) (r : SetReply) (ledger : State Cell) (most budget : ℕ) → 1 ≤ most → Low ledger most budget (unlock txn (next.Answer r) ledger live last)
  answer_low txn r ledger most budget least = unlock_low txn (next.Answer r) ledger most budget least (λ p. tt)

  again_low : (txn : Txn) (ledger : State Cell) (most budget : ℕ) → 1 ≤ most → (P → occasions txn ledger + 1 ≤ budget) → Low ledger most budget (unlock txn next.Again ledger live last)
  again_low txn ledger most budget least pays = unlock_low txn next.Again ledger most budget least pays

  fail_low : (txn : Txn) (ledger : State Cell) (most budget : ℕ) → 1 ≤ most → Low ledger most budget (fail txn ledger live last)
  fail_low txn ledger most budget least =
      cond_both (is_heal txn.job) (healing txn skip.Majority) (txn, reply.Io (io_of txn)) (λ (f : Txn × SetReply). Low ledger most budget (unlock f.0 (next.Answer f.1) ledger live last))
      (λ e. answer_low (record txn { records = [] }) (healing txn skip.Majority).1 ledger most budget least) (λ e. answer_low txn (reply.Io (io_of txn)) ledger most budget least)

  -- ---- under the locks

  module _ (txn : Txn) (ledger : State Cell) (budget : ℕ) where
    fetching_low : (place : ℕ) (contents : List (Option Content)) (cell : Cell) (from : Option ℕ) (most : ℕ) → 1 ≤ most → phases_left (phase.Fetching place 0 contents) txn ≤ most
        → (P → occasions txn ledger + bit (is_read_late txn) ≤ budget) → (from ≡ None → is_read_late txn ≡ true) → Low ledger most budget (fetching txn place contents cell from ledger live last)
    fetching_low place contents cell None most least enough pays late = again_low txn ledger most budget least (λ p. is_due (occasions txn ledger) budget (is_read_late txn) (late refl) (pays p))
    fetching_low place contents cell (Some k) most least enough pays late = inl (enough, λ p. reads_in txn (sent_to (only k)) (phase.Fetching place k contents) ledger budget (pays p))

    at_low : (place : ℕ) (contents : List (Option Content)) (cell : Option Cell) (most : ℕ) → slice_get txn.cells (length contents) ≡ cell → 1 ≤ most → (length contents < length txn.cells → phases_left (phase.Fetching place 0 contents) txn ≤ most)
        → (P → occasions txn ledger + bit (is_read_late txn) ≤ budget) → (length txn.cells ≤ length contents) ⊎ (lacks txn (length contents) ≡ false) → Low ledger most budget (fetch_at txn place contents cell ledger live last)
    at_low place contents None most at least enough pays stop = answer_low txn (reply.Contents contents place) ledger most budget least
    at_low place contents (Some cell) most at least enough pays stop =
        fetching_low place contents cell (lowest (both (sound_on txn (length contents)) (alive txn))) most least (enough within) pays (λ none. read_late txn (length contents) cell at (own stop) none)
      where
        within : length contents < length txn.cells
        within = below_length txn.cells (length contents) cell at

        own : (length txn.cells ≤ length contents) ⊎ (lacks txn (length contents) ≡ false) → lacks txn (length contents) ≡ false
        own (inl past) = absurd (apart (length contents) (length txn.cells) within past)
        own (inr e) = e

    -- a cell is fetched that is not before these
    fetch_low : (place : ℕ) (contents : List (Option Content)) (most : ℕ) → 1 ≤ most → ((l : ℕ) → length contents ≤ l → l < length txn.cells → 2 + (6 * (length txn.cells - l) + how_many (alive txn)) ≤ most)
        → (P → occasions txn ledger + bit (is_read_late txn) ≤ budget) → Low ledger most budget (fetch_next txn place contents ledger live last)
    fetch_low place contents most least enough pays =
        at_low place (with_absent txn contents (length txn.cells - length contents)) (slice_get txn.cells (length (with_absent txn contents (length txn.cells - length contents)))) most refl least
        (enough (length (with_absent txn contents (length txn.cells - length contents))) (longer txn contents (length txn.cells - length contents))) pays
        (stops txn contents (length txn.cells - length contents) (omega arith))

    mark_low : is_change txn.job ≡ true → (P → AreDrawn ledger.drawn ledger.unsettled) → (P → occasions txn ledger + bit (is_met txn.set txn.job txn.cells ledger) ≤ budget) → LowWith 4 budget (marking txn ledger live last)
    mark_low change drawn pays =
        cond_both (has_number ledger) _ _ (LowWith 4 budget)
        (λ e. inl (
          omega arith,
          λ p. less_late (occasions txn ledger) (bit (is_mark_late txn (ledger.drawn + 1) (with_number ledger))) (bit (is_met txn.set txn.job txn.cells ledger)) budget
              (bit_less (is_mark_late txn (ledger.drawn + 1) (with_number ledger)) (is_met txn.set txn.job txn.cells ledger) (mark_late txn ledger (drawn p) change)) (pays p),
        ))
        (λ e. fail_low txn ledger 4 budget (omega arith))

    -- copies that are made or to be made, of these parts
    module _ (parts : List Part) (drawn : P → is_some txn.settles ≡ false → AreDrawn ledger.drawn ledger.unsettled) (pays : P → occasions txn ledger + bit (is_copy_late txn parts ledger) ≤ budget) where
      due_low : (most : ℕ) → 1 ≤ most → is_copy_late txn parts ledger ≡ true → Low ledger most budget (unlock txn next.Again ledger live last)
      due_low most least late = again_low txn ledger most budget least (λ p. is_due (occasions txn ledger) budget (is_copy_late txn parts ledger) late (pays p))

      all_low : LowWith 4 budget (copied_all txn ledger live last)
      all_low =
          cond_both (is_some txn.settles) _ _ (LowWith 4 budget) (λ e. due_low 4 (omega arith) (settles_late txn parts ledger e))
          (λ e. cond_both (is_change txn.job) _ _ (LowWith 4 budget)
          (λ c. mark_low c (λ p. drawn p e) (λ p. less_late (occasions txn ledger) (bit (is_met txn.set txn.job txn.cells ledger)) (bit (is_copy_late txn parts ledger)) budget
          (bit_less (is_met txn.set txn.job txn.cells ledger) (is_copy_late txn parts ledger) (met_late txn parts ledger)) (pays p)))
          (λ c. cond_both (is_heal txn.job) _ _ (LowWith 4 budget) (λ h. answer_low (healed txn) (reply.Healed txn.records) ledger 4 budget (omega arith)) (λ h. due_low 4 (omega arith) (other_late txn parts ledger c h))))

      by_low : (n : ℕ) (t : Option Part × List Part) → NextFew n t → LackFrom txn.shown.reached parts t → LowWith (4 + n) budget (copy_by txn t ledger live last)
      by_low n (None, rest) few lacks = raise_with 4 (4 + n) budget (copied_all txn ledger live last) (omega arith) all_low
      by_low n (Some part, rest) few lacks =
          let least : length rest + 1 ≤ n = few in
          let enough : 5 + length rest ≤ 4 + n = omega arith in
          cond_both (has_source txn part) _ _ (LowWith (4 + n) budget)
          (λ e. inl (enough, λ p. less_late (occasions txn ledger) (bit (is_copy_late txn rest ledger)) (bit (is_copy_late txn parts ledger)) budget (rest_late txn rest parts ledger lacks.1) (pays p)))
          (λ e. due_low (4 + n) (omega arith) (part_late txn parts ledger part lacks.0 e))

      next_low : LowWith (4 + length parts) budget (copy_next txn parts ledger live last)
      next_low = by_low (length parts) (next_part txn parts) (next_few txn parts) (next_lacks txn txn.shown.reached parts)

    skip_low : (cause : SkipCause) (most : ℕ) → 1 ≤ most → Low ledger most budget (skipping txn cause ledger live last)
    unfolding skipping
    skip_low cause most least = answer_low (healed txn) (heal_reply txn.records cause) ledger most budget least

    split_low : (most : ℕ) → 1 ≤ most → Low ledger most budget (split txn ledger live last)
    split_low most least = answer_low txn (reply.Io (io.Split txn.set (rows_listed txn.shown txn.bricks 0 txn.cells))) ledger most budget least

    source_low : (change : ℕ) (source : Option ℕ) (most : ℕ) → 6 ≤ most → (P → occasions txn ledger + bit (is_settled txn.set txn.job change ledger) ≤ budget) → Low ledger most budget (settle_by txn change source ledger live last)
    source_low change None most least pays = split_low most (omega arith)
    source_low change (Some source) most least pays = inl (least, pays)

    bear_low : (op : Option StoreOp) (most : ℕ) → 2 ≤ most → (op ≡ None → ⊥) → Low ledger most budget (bearing_by op txn ledger live last)
    bear_low None most least there = absurd (there refl)
    bear_low (Some op) most least there = inl (least, λ p. omega arith)

    -- the locks are granted, by replicas that are all used still
    module _ (takes : P → TakesLocks txn.job) (drawn : P → AreDrawn ledger.drawn ledger.unsettled) (lost : is_one_out txn.shown.reached (alive txn) ≡ false) where
      read_low : (late : Bool) → (P → occasions txn ledger + bit late ≤ budget) → Low ledger (7 + 6 * length txn.cells) budget (ready_to_read txn ledger live last)
      read_low late pays =
          cond_both (is_split_read txn 0 txn.cells) _ _ (Low ledger (7 + 6 * length txn.cells) budget)
          (λ e. answer_low txn (reply.Io (io.Split txn.set (split_rows txn 0 txn.cells))) ledger (7 + 6 * length txn.cells) budget (omega arith))
          (λ e. fetch_low (length ledger.history) [] (7 + 6 * length txn.cells) (omega arith) (λ l some under. omega (arith, few_flags (alive txn)))
          (λ p. spared (occasions txn ledger) budget (is_read_late txn) late (or_from (is_one_out txn.shown.reached (alive txn)) (is_split_read txn 0 txn.cells) lost e) (pays p)))

      -- what is left where the locks are granted
      copies_low : is_some txn.settles ≡ false → (is_change txn.job || is_heal txn.job) ≡ true → is_split txn 0 txn.cells ≡ false → (P → occasions txn ledger + bit (is_met txn.set txn.job txn.cells ledger) ≤ budget)
          → LowWith (7 + 6 * length txn.cells) budget (copy_next txn (all_parts txn) ledger live last)
      copies_low settles copies split pays =
          raise_with (4 + length (all_parts txn)) (7 + 6 * length txn.cells) budget (copy_next txn (all_parts txn) ledger live last) (omega (arith, parts_few txn (common_of txn) 0 txn.cells []))
          (next_low (all_parts txn) (λ p s. drawn p)
          (λ p. less_late (occasions txn ledger) (bit (is_copy_late txn (all_parts txn) ledger)) (bit (is_met txn.set txn.job txn.cells ledger)) budget (copies_met txn (all_parts txn) ledger lost settles (all_have txn split) copies) (pays p)))

      kind_low : (k : Kind) → kind_of txn.job ≡ k → is_some txn.settles ≡ false → (P → occasions txn ledger + bit (is_met txn.set txn.job txn.cells ledger) ≤ budget) → LowWith (7 + 6 * length txn.cells) budget (ready_by k txn ledger live last)
      kind_low kind.Read is own pays = read_low (is_met txn.set txn.job txn.cells ledger) pays
      kind_low kind.Change is own pays =
          cond_both (is_split txn 0 txn.cells) _ _ (LowWith (7 + 6 * length txn.cells) budget) (λ e. split_low (7 + 6 * length txn.cells) (omega arith)) (λ e. copies_low own (changes_copy txn.job is) e pays)
      kind_low kind.Birth is own pays = bear_low (birth_op txn.job) (7 + 6 * length txn.cells) (omega arith) (births_have txn.job is)
      kind_low kind.Heal is own pays =
          cond_both (is_touched txn ledger) _ _ (LowWith (7 + 6 * length txn.cells) budget) (λ e. skip_low skip.Unsettled (7 + 6 * length txn.cells) (omega arith))
          (λ e. cond_both (is_split txn 0 txn.cells) _ _ (LowWith (7 + 6 * length txn.cells) budget) (λ s. skip_low skip.Split (7 + 6 * length txn.cells) (omega arith)) (λ s. copies_low own (heals_copy txn.job is) s pays))
      kind_low (kind.Open fd gfid) is own pays = again_low txn ledger (7 + 6 * length txn.cells) budget (omega arith) (λ p. absurd (opens_take_none txn.job fd gfid is (takes p)))
      kind_low kind.Index is own pays = again_low txn ledger (7 + 6 * length txn.cells) budget (omega arith) (λ p. absurd (indexes_take_none txn.job is (takes p)))

      for_low : (settles : Option ℕ) → txn.settles ≡ settles → (P → occasions txn ledger + bit (is_lock_late settles txn.set txn.job txn.cells ledger) ≤ budget) → LowWith (7 + 6 * length txn.cells) budget (ready_for settles txn ledger live last)
      for_low (Some change) is pays =
          cond_both (is_some (numbered change ledger.unsettled)) _ _ (Low ledger (7 + 6 * length txn.cells) budget) (λ e. source_low change (lowest (common_of txn)) (7 + 6 * length txn.cells) (omega arith) pays)
          (λ e. again_low txn ledger (7 + 6 * length txn.cells) budget (omega arith)
          (λ p. is_due (occasions txn ledger) budget (is_settled txn.set txn.job change ledger) (ap not (nobody_on txn.set (job_cells txn.job) ledger.unsettled change (not_there (numbered change ledger.unsettled) e))) (pays p)))
      for_low None is pays = kind_low (kind_of txn.job) refl (ap is_some is) pays

  module _ (ledger : State Cell) (budget : ℕ) (drawn : P → AreDrawn ledger.drawn ledger.unsettled) where
    step_low : (txn : Txn) (t : Outs × LockStep) (from : ℕ) → AsksFrom from t → IsSince txn.size.n txn.outs t.0 → (P → TakesLocks txn.job) → (P → occasions txn ledger + bit (is_lock_late txn.settles txn.set txn.job txn.cells ledger) ≤ budget)
        → LowWith (8 + (6 * length txn.cells + (5 - from))) budget (lock_step txn t ledger live last)
    step_low txn (outs, step.Ask k) from later since takes pays =
        let under : from ≤ k = later in
        let fewer : 8 + (6 * length txn.cells + (5 - k)) ≤ 8 + (6 * length txn.cells + (5 - from)) = omega arith in
        inl (fewer, λ p. lock_since txn outs ledger budget since (pays p))
    step_low txn (outs, step.Short) from later since takes pays = fail_low (record txn { outs = outs }) ledger (8 + (6 * length txn.cells + (5 - from))) budget (omega arith)
    step_low txn (outs, step.Reached) from later since takes pays =
        raise_with (7 + 6 * length txn.cells) (8 + (6 * length txn.cells + (5 - from))) budget (lock_step txn (outs, step.Reached) ledger live last) (omega arith)
        (for_low (reached (record txn { outs = outs })) ledger budget takes drawn (none_out (used outs txn.size.n)) txn.settles refl (λ p. lock_since txn outs ledger budget since (pays p)))

  -- ---- answers

  module _ (txn : Txn) (k mark : ℕ) (rep : BrickRep) (ledger : State Cell) (low : k < 5) (asked : is_asked txn.wave k ≡ true) where
    -- a turn of a phase leaves less than this phase had
    abbrev LeavesLess : Phase → Txn × (Need × State Cell) → Type 0
    LeavesLess p t = Less (6 * phases_left p txn + how_many txn.wave.asked) (rounds_in p txn ledger) t

    -- fewer phases may follow
    goes_on : (p : Phase) (most : ℕ) (t : Txn × (Need × State Cell)) → most < phases_left p txn → LowWith most (rounds_in p txn ledger) t → LeavesLess p t
    goes_on p most t fewer h = finish most (phases_left p txn) (how_many txn.wave.asked) (rounds_in p txn ledger) t fewer h

    -- or others are asked still
    fewer_asked : how_many (taken txn.wave k (is_plain_done rep)).asked < how_many txn.wave.asked
    fewer_asked = asked_less txn.wave k (is_plain_done rep) low asked

    -- who is used was used before the answer
    heard_since : IsSince txn.size.n txn.outs (hearing txn k rep mark).outs
    heard_since = used_heard txn.size.n txn.outs k mark rep

    heard_fewer : how_many (alive (hearing txn k rep mark)) ≤ how_many (alive txn)
    heard_fewer = none_more (alive (hearing txn k rep mark)) (alive txn) heard_since

    heard_pays : (d m : ℕ) → occasions txn ledger + d ≤ m → occasions (hearing txn k rep mark) ledger + d ≤ m
    heard_pays d m h = fewer (unsettled_on txn.set (job_cells txn.job) ledger.unsettled) (how_many (alive (hearing txn k rep mark))) (how_many (alive txn)) d m heard_fewer h

    locked_low : (rows : Option (List Row)) (budget : ℕ) → (P → TakesLocks txn.job) → (P → AreDrawn ledger.drawn ledger.unsettled) → (P → occasions txn ledger + bit (is_lock_late txn.settles txn.set txn.job txn.cells ledger) ≤ budget)
        → LowWith (8 + (6 * length txn.cells + (5 - (k + 1)))) budget (lock_on (lock_taken txn k rows (is_fault rep) mark last) (k + 1) ledger live last)
    locked_low None budget takes drawn pays =
        step_low ledger budget drawn (record txn { outs = left txn.outs k (is_fault rep) mark; wave = taken txn.wave k false }) (next_lock (left txn.outs k (is_fault rep) mark) txn.locks txn.size.n txn.size.q (k + 1) live last) (k + 1)
        (asks_from txn.size.n txn.size.q live last (left txn.outs k (is_fault rep) mark) txn.locks (k + 1)) (step_since txn.size.n live last txn.locks (left txn.outs k (is_fault rep) mark) txn.size.q (k + 1)) takes
        (λ p. lock_since txn (left txn.outs k (is_fault rep) mark) ledger budget (used_left txn.size.n txn.outs k mark (is_fault rep)) (pays p))
    locked_low (Some rows) budget takes drawn pays =
        step_low ledger budget drawn (record txn { locks = granted txn.locks k (slice_index last k); shown = with_rows txn.shown k rows; wave = taken txn.wave k true })
        (next_lock txn.outs (granted txn.locks k (slice_index last k)) txn.size.n txn.size.q (k + 1) live last) (k + 1)
        (asks_from txn.size.n txn.size.q live last txn.outs (granted txn.locks k (slice_index last k)) (k + 1))
        (step_since txn.size.n live last (granted txn.locks k (slice_index last k)) txn.outs txn.size.q (k + 1)) takes pays

    locking_less : (at : ℕ) → k ≡ at → (P → TakesLocks txn.job) → (P → AreDrawn ledger.drawn ledger.unsettled) → LeavesLess (phase.Locking at) (answered_in (phase.Locking at) txn k rep mark ledger live last)
    locking_less at is takes drawn =
        goes_on (phase.Locking at) (8 + (6 * length txn.cells + (5 - (k + 1)))) (answered_in (phase.Locking at) txn k rep mark ledger live last) (omega arith)
        (locked_low (rows_in rep (length txn.cells)) (rounds_in (phase.Locking at) txn ledger) takes drawn (λ p. same (rounds_in (phase.Locking at) txn ledger)))

    fetched_low : (place from : ℕ) (contents : List (Option Content)) (content : Option (Content × ℕ)) → length txn.outs.at ≡ 5 → flag (alive txn) k ≡ true
        → Low ledger (1 + (6 * (length txn.cells - length contents) + how_many (alive txn))) (occasions txn ledger + bit (is_read_late txn)) (fetch_taken txn place k contents content (is_fault rep) mark ledger live last)
    fetched_low place from contents (Some content) five uses =
        fetch_low (record txn { wave = taken txn.wave k true }) ledger (occasions txn ledger + bit (is_read_late txn)) place (contents ++ Some content.0 ∷ []) (1 + (6 * (length txn.cells - length contents) + how_many (alive txn))) (omega arith)
        (λ l past under. omega (arith, one_longer contents (Some content.0)))
        (λ p. reads_in txn (taken txn.wave k true) txn.phase ledger (occasions txn ledger + bit (is_read_late txn)) (same (occasions txn ledger + bit (is_read_late txn))))
    fetched_low place from contents None five uses =
        cond_both (is_short (left txn.outs k (is_fault rep) mark) txn.size.n txn.size.q) _ _ (Low ledger (1 + (6 * (length txn.cells - length contents) + how_many (alive txn))) (occasions txn ledger + bit (is_read_late txn)))
        (λ e. fail_low (record txn { outs = left txn.outs k (is_fault rep) mark; wave = taken txn.wave k false }) ledger (1 + (6 * (length txn.cells - length contents) + how_many (alive txn))) (occasions txn ledger + bit (is_read_late txn)) (omega arith))
        (λ e. fetch_low (record txn { outs = left txn.outs k (is_fault rep) mark; wave = taken txn.wave k false }) ledger (occasions txn ledger + bit (is_read_late txn)) place contents (1 + (6 * (length txn.cells - length contents) + how_many (alive txn))) (omega arith)
        (λ l past under. omega (arith, used_less_one txn.size.n txn.outs k mark (is_fault rep) low five uses))
        (λ p. beside (unsettled_on txn.set (job_cells txn.job) ledger.unsettled) (how_many (used (left txn.outs k (is_fault rep) mark) txn.size.n)) (bit (is_read_late (record txn { outs = left txn.outs k (is_fault rep) mark; wave = taken txn.wave k false })))
        (how_many (alive txn)) (bit (is_read_late txn)) (occasions txn ledger + bit (is_read_late txn)) (read_pays txn (left txn.outs k (is_fault rep) mark) (taken txn.wave k false) txn.phase (used_left txn.size.n txn.outs k mark (is_fault rep)))
        (same (occasions txn ledger + bit (is_read_late txn)))))

    fetching_less : (place from : ℕ) (contents : List (Option Content)) → length txn.outs.at ≡ 5 → flag (alive txn) k ≡ true → LeavesLess (phase.Fetching place from contents) (answered_in (phase.Fetching place from contents) txn k rep mark ledger live last)
    fetching_less place from contents five uses =
        goes_on (phase.Fetching place from contents) (1 + (6 * (length txn.cells - length contents) + how_many (alive txn))) (answered_in (phase.Fetching place from contents) txn k rep mark ledger live last) (omega arith)
        (fetched_low place from contents (content_in rep (aspect_at (slice_get txn.cells (length contents)))) five uses)

    marking_less : (change : ℕ) → LeavesLess (phase.Marking change) (mark_answered (hearing txn k rep mark) change ledger live last)
    marking_less change =
        cond_both (not (is_over (taken txn.wave k (is_plain_done rep)))) _ _ (LeavesLess (phase.Marking change))
        (λ e. inl (same_phase 4 (how_many (taken txn.wave k (is_plain_done rep)).asked) (how_many txn.wave.asked) fewer_asked, λ p. heard_pays (bit (is_mark_late txn change ledger)) (rounds_in (phase.Marking change) txn ledger) (same (rounds_in (phase.Marking change) txn ledger))))
        (λ e. cond_both (is_short (hearing txn k rep mark).outs txn.size.n txn.size.q) _ _ (LeavesLess (phase.Marking change))
        (λ s. goes_on (phase.Marking change) 3 (kept (fail (hearing txn k rep mark) ledger live last) ledger) (omega arith) (fail_low (hearing txn k rep mark) ledger 3 (rounds_in (phase.Marking change) txn ledger) (omega arith))) (λ s. by (change_op txn.job) refl))
      where
        due : is_mark_late txn change ledger ≡ true → LeavesLess (phase.Marking change) (kept (unlock (hearing txn k rep mark) next.Again ledger live last) ledger)
        due late =
            goes_on (phase.Marking change) 3 (kept (unlock (hearing txn k rep mark) next.Again ledger live last) ledger) (omega arith)
            (again_low (hearing txn k rep mark) ledger 3 (rounds_in (phase.Marking change) txn ledger) (omega arith)
            (λ p. heard_pays 1 (rounds_in (phase.Marking change) txn ledger) (is_due (occasions txn ledger) (rounds_in (phase.Marking change) txn ledger) (is_mark_late txn change ledger) late (same (rounds_in (phase.Marking change) txn ledger)))))

        by : (op : Option (ℕ × StoreOp)) → ◌≡◌ {A = Option (ℕ × StoreOp)} (change_op txn.job) op → LeavesLess (phase.Marking change) (write_by op (hearing txn k rep mark) change ledger live last)
        by None is = due (or_right (not (may_begin txn change ledger)) (is_none (change_op txn.job)) (ap is_none is))
        by (Some op) is =
            cond_both (may_begin (hearing txn k rep mark) change ledger) _ _ (LeavesLess (phase.Marking change))
            (λ e. inl (lower_phase 3 4 (how_many (alive (hearing txn k rep mark))) (how_many txn.wave.asked) (omega arith) (few_flags (alive (hearing txn k rep mark))), λ p. omega arith))
            (λ e. due (or_left (not (may_begin txn change ledger)) (is_none (change_op txn.job)) (ap not e)))

    writing_less : (change : ℕ) → LeavesLess (phase.Writing change) (kept (write_answered (hearing txn k rep mark) change ledger live last) ledger)
    writing_less change =
        cond_both (not (is_over (taken txn.wave k (is_plain_done rep)))) _ _ (λ (t : Txn × Need). LeavesLess (phase.Writing change) (kept t ledger))
        (λ e. inl (same_phase 3 (how_many (taken txn.wave k (is_plain_done rep)).asked) (how_many txn.wave.asked) fewer_asked, λ p. omega arith))
        (λ e. cond_both (is_short (hearing txn k rep mark).outs txn.size.n txn.size.q) _ _ (λ (t : Txn × Need). LeavesLess (phase.Writing change) (kept t ledger))
        (λ s. goes_on (phase.Writing change) 2 (kept (fail (hearing txn k rep mark) ledger live last) ledger) (omega arith) (fail_low (hearing txn k rep mark) ledger 2 0 (omega arith)))
        (λ s. inl (lower_phase 2 3 (how_many (alive (hearing txn k rep mark))) (how_many txn.wave.asked) (omega arith) (few_flags (alive (hearing txn k rep mark))), λ p. omega arith)))

    ended_low : (adopted : Option Adopted) (after : State Cell) → Low after 1 0 (post_ended (hearing txn k rep mark) adopted after live last)
    ended_low None after = fail_low (hearing txn k rep mark) after 1 0 (omega arith)
    ended_low (Some adopted) after = answer_low (hearing txn k rep mark) (reply.Decided adopted.entry) after 1 0 (omega arith)

    posting_less : (change : ℕ) (adopted : Option Adopted) → LeavesLess (phase.Posting change adopted) (post_answered (hearing txn k rep mark) change adopted ledger live last)
    posting_less change adopted =
        cond_both (is_over (taken txn.wave k (is_plain_done rep))) _ _ (LeavesLess (phase.Posting change adopted))
        (λ e. goes_on (phase.Posting change adopted) 1 (kept (post_ended (hearing txn k rep mark) (post_decided (hearing txn k rep mark) change adopted ledger).0 (post_decided (hearing txn k rep mark) change adopted ledger).1 live last) (post_decided (hearing txn k rep mark) change adopted ledger).1) (omega arith)
        (ended_low (post_decided (hearing txn k rep mark) change adopted ledger).0 (post_decided (hearing txn k rep mark) change adopted ledger).1))
        (λ e. inl (same_phase 2 (how_many (taken txn.wave k (is_plain_done rep)).asked) (how_many txn.wave.asked) fewer_asked, λ p. omega arith))

    -- a settle that all have answered: a copy follows, where the change is decided
    group_low : (verdict : Verdict) (decided late : Bool) (after : State Cell) (budget : ℕ) → is_some txn.settles ≡ true → (P → occasions (hearing txn k rep mark) after + bit (decided || late) ≤ budget)
        → LowWith 5 budget (settle_ended (hearing txn k rep mark) verdict.group decided after live last)
    group_low verdict decided late after budget settles pays =
        cond_both decided _ _ (LowWith 5 budget)
        (λ e. next_low (hearing txn k rep mark) after budget (settle_parts (hearing txn k rep mark) verdict.group) (λ p none. absurd (true≢false (sym settles ∙ none)))
        (λ p. at_most_one (occasions (hearing txn k rep mark) after) budget (is_copy_late (hearing txn k rep mark) (settle_parts (hearing txn k rep mark) verdict.group) after)
        (is_due (occasions (hearing txn k rep mark) after) budget (decided || late) (or_left decided late e) (pays p))))
        (λ e. fail_low (hearing txn k rep mark) after 5 budget (omega arith))

    settling_less : (verdict : Verdict) → is_some txn.settles ≡ true → (P → IsStrictlySortedBy nat_cmp (keys_of ledger.unsettled)) → LeavesLess (phase.Settling verdict) (settle_answered (hearing txn k rep mark) verdict ledger live last)
    settling_less verdict settles sorted =
        cond_both (not (is_over (taken txn.wave k (is_plain_done rep)))) _ _ (LeavesLess (phase.Settling verdict))
        (λ e. inl (same_phase 6 (how_many (taken txn.wave k (is_plain_done rep)).asked) (how_many txn.wave.asked) fewer_asked, pays))
        (λ e. goes_on (phase.Settling verdict) 5 (settle_ended (hearing txn k rep mark) verdict.group (settle_decided (hearing txn k rep mark) verdict ledger).0 (settle_decided (hearing txn k rep mark) verdict ledger).1 live last) (omega arith)
        (group_low verdict (settle_decided (hearing txn k rep mark) verdict ledger).0 (is_settled txn.set txn.job verdict.change (settle_decided (hearing txn k rep mark) verdict ledger).1) (settle_decided (hearing txn k rep mark) verdict ledger).1
        (rounds_in (phase.Settling verdict) txn ledger) settles pays))
      where
        pays : P
            → occasions (hearing txn k rep mark) (settle_decided (hearing txn k rep mark) verdict ledger).1
            + bit ((settle_decided (hearing txn k rep mark) verdict ledger).0 || is_settled txn.set txn.job verdict.change (settle_decided (hearing txn k rep mark) verdict ledger).1)
            ≤ rounds_in (phase.Settling verdict) txn ledger
        pays p =
            moved (unsettled_on txn.set (job_cells txn.job) (settle_decided (hearing txn k rep mark) verdict ledger).1.unsettled) (unsettled_on txn.set (job_cells txn.job) ledger.unsettled)
            (how_many (alive (hearing txn k rep mark))) (how_many (alive txn))
            (bit ((settle_decided (hearing txn k rep mark) verdict ledger).0 || is_settled txn.set txn.job verdict.change (settle_decided (hearing txn k rep mark) verdict ledger).1))
            (bit (is_settle_late txn verdict ledger)) heard_fewer (settle_pays (hearing txn k rep mark) verdict ledger (sorted p))

    bearing_less : LeavesLess phase.Bearing (kept (birth_answered (hearing txn k rep mark) ledger live last) ledger)
    bearing_less =
        cond_both (not (is_over (taken txn.wave k (is_plain_done rep)))) _ _ (λ (t : Txn × Need). LeavesLess phase.Bearing (kept t ledger))
        (λ e. inl (same_phase 2 (how_many (taken txn.wave k (is_plain_done rep)).asked) (how_many txn.wave.asked) fewer_asked, λ p. omega arith))
        (λ e. cond_both (is_short (hearing txn k rep mark).outs txn.size.n txn.size.q) _ _ (λ (t : Txn × Need). LeavesLess phase.Bearing (kept t ledger))
        (λ s. goes_on phase.Bearing 1 (kept (fail (hearing txn k rep mark) ledger live last) ledger) (omega arith) (fail_low (hearing txn k rep mark) ledger 1 0 (omega arith)))
        (λ s. goes_on phase.Bearing 1 (kept (unlock (hearing txn k rep mark) (next.Answer (reply.Decided None)) ledger live last) ledger) (omega arith) (answer_low (hearing txn k rep mark) (reply.Decided None) ledger 1 0 (omega arith))))

    releasing_less : (after : Then) → LeavesLess (phase.Unlocking after) (kept (unlock_answered (hearing txn k rep mark) after ledger live last) ledger)
    releasing_less after =
        cond_both (not (is_over (taken txn.wave k (is_plain_done rep)))) _ _ (λ (t : Txn × Need). LeavesLess (phase.Unlocking after) (kept t ledger))
        (λ e. inl (same_phase 1 (how_many (taken txn.wave k (is_plain_done rep)).asked) (how_many txn.wave.asked) fewer_asked, λ p. released after (hearing txn k rep mark) (taken txn.wave k (is_plain_done rep)) (phase.Unlocking after) ledger (rounds_in (phase.Unlocking after) txn ledger) pays))
        (λ e. goes_on (phase.Unlocking after) 0 (kept (going (hearing txn k rep mark) after ledger live last) ledger) (omega arith) (going_low (hearing txn k rep mark) after ledger (rounds_in (phase.Unlocking after) txn ledger) (λ p. pays)))
      where
        pays : Pays after (hearing txn k rep mark) ledger (rounds_in (phase.Unlocking after) txn ledger)
        pays = pays_since after txn (hearing txn k rep mark).outs (taken txn.wave k (is_plain_done rep)) ledger (rounds_in (phase.Unlocking after) txn ledger) heard_since (own_budget after txn ledger)

    opening_less : LeavesLess phase.Opening (kept (open_answered (hearing txn k rep mark)) ledger)
    opening_less =
        cond_both (not (is_over (taken txn.wave k (is_plain_done rep)))) _ _ (λ (t : Txn × Need). LeavesLess phase.Opening (kept t ledger))
        (λ e. inl (same_phase 1 (how_many (taken txn.wave k (is_plain_done rep)).asked) (how_many txn.wave.asked) fewer_asked, λ p. omega arith))
        (λ e. cond_both (is_short (hearing txn k rep mark).outs txn.size.n txn.size.q) _ _ (λ (t : Txn × Need). LeavesLess phase.Opening (kept t ledger))
        (λ s. inl (lower_phase 0 1 (how_many (taken txn.wave k (is_plain_done rep)).asked) (how_many txn.wave.asked) (omega arith) (few_flags (taken txn.wave k (is_plain_done rep)).asked), λ p. omega arith))
        (λ s. inl (lower_phase 0 1 (how_many (taken txn.wave k (is_plain_done rep)).asked) (how_many txn.wave.asked) (omega arith) (few_flags (taken txn.wave k (is_plain_done rep)).asked), λ p. omega arith)))

    listing_less : (all : List Cell) → LeavesLess (phase.Listing all) (kept (list_answered txn k rep mark all) ledger)
    listing_less all = by (cells_in rep) where
      by : (o : Option (List Cell)) → LeavesLess (phase.Listing all) (kept (cond (not (is_over (list_taken txn k o (is_fault rep) mark all).0.wave))
          (waiting (list_taken txn k o (is_fault rep) mark all).0 (phase.Listing (list_taken txn k o (is_fault rep) mark all).1))
          (list_ended (list_taken txn k o (is_fault rep) mark all).0 (list_taken txn k o (is_fault rep) mark all).1)) ledger)
      by None =
          cond_both (not (is_over (taken txn.wave k false))) _ _ (λ (t : Txn × Need). LeavesLess (phase.Listing all) (kept t ledger))
          (λ e. inl (same_phase 1 (how_many (taken txn.wave k false).asked) (how_many txn.wave.asked) (asked_less txn.wave k false low asked), λ p. omega arith))
          (λ e. inl (lower_phase 0 1 (how_many (taken txn.wave k false).asked) (how_many txn.wave.asked) (omega arith) (few_flags (taken txn.wave k false).asked), λ p. omega arith))
      by (Some cells) =
          cond_both (not (is_over (taken txn.wave k true))) _ _ (λ (t : Txn × Need). LeavesLess (phase.Listing all) (kept t ledger))
          (λ e. inl (same_phase 1 (how_many (taken txn.wave k true).asked) (how_many txn.wave.asked) (asked_less txn.wave k true low asked), λ p. omega arith))
          (λ e. inl (lower_phase 0 1 (how_many (taken txn.wave k true).asked) (how_many txn.wave.asked) (omega arith) (few_flags (taken txn.wave k true).asked), λ p. omega arith))

    phase_less : (p : Phase) → suits p txn ≡ true → TracksIn p txn → length txn.outs.at ≡ 5 → (P → (at : ℕ) → p ≡ phase.Locking at → TakesLocks txn.job) → (P → LedgerKeeps ledger) → LeavesLess p (answered_in p txn k rep mark ledger live last)
    phase_less (phase.Locking at) fits tracks five takes keeps = locking_less at (only_at at k txn.wave.asked fits asked) (λ p. takes p at refl) (λ p. (keeps p).drawn)
    phase_less (phase.Unlocking after) fits tracks five takes keeps = releasing_less after
    phase_less (phase.Fetching place from contents) fits tracks five takes keeps =
        fetching_less place from contents five (subst (λ (i : ℕ). flag (alive txn) i ≡ true) (sym (only_at from k txn.wave.asked fits asked)) tracks)
    phase_less (phase.Copying sinks parts) fits tracks five takes keeps = absurd (true≢false (sym fits))
    phase_less (phase.Marking change) fits tracks five takes keeps = marking_less change
    phase_less (phase.Writing change) fits tracks five takes keeps = writing_less change
    phase_less (phase.Posting change adopted) fits tracks five takes keeps = posting_less change adopted
    phase_less (phase.Settling verdict) fits tracks five takes keeps =
        settling_less verdict (and_parts (is_some txn.settles) (has_cell txn.cells || is_none (lowest (but_for txn.shown.reached verdict.group))) fits).0 (λ p. (keeps p).kept.rising)
    phase_less phase.Bearing fits tracks five takes keeps = bearing_less
    phase_less phase.Opening fits tracks five takes keeps = opening_less
    phase_less (phase.Listing all) fits tracks five takes keeps = listing_less all
    phase_less phase.Over fits tracks five takes keeps = absurd (true≢false (sym fits))

  -- ---- a copy that is done

  noted_low : (after : Txn) (sinks : List Bool) (parts : List Part) (current : Mask) (ledger : State Cell) (budget : ℕ) → (P → AreDrawn ledger.drawn ledger.unsettled)
      → (P → occasions after ledger + bit (is_copy_late after parts ledger) ≤ budget) → (P → is_left after sinks current ≡ true → occasions after ledger + 1 ≤ budget)
      → LowWith (4 + length parts) budget (cond (is_short after.outs after.size.n after.size.q) (kept (fail after ledger live last) ledger) (cond (is_left after sinks current) (kept (unlock after next.Again ledger live last) ledger) (copy_next after parts ledger live last)))
  noted_low after sinks parts current ledger budget drawn pays loss =
      cond_both (is_short after.outs after.size.n after.size.q) _ _ (LowWith (4 + length parts) budget) (λ e. fail_low after ledger (4 + length parts) budget (omega arith))
      (λ e. cond_both (is_left after sinks current) _ _ (LowWith (4 + length parts) budget) (λ l. again_low after ledger (4 + length parts) budget (omega arith) (λ p. loss p l)) (λ l. next_low after ledger budget parts (λ p s. drawn p) pays))

  copying_less : (p : Phase) (txn : Txn) (done : CopyDone) (ledger : State Cell) → are_copies p ≡ true → (P → length txn.outs.at ≡ 5) → (P → LedgerKeeps ledger) → (P → LeavesForLoss (sinks_in p) txn done)
      → Less (6 * phases_left p txn + how_many txn.wave.asked) (rounds_in p txn ledger) (copied_in p txn done ledger live last)
  copying_less (phase.Copying sinks parts) txn done ledger h five keeps loss =
      finish (4 + length parts) (5 + length parts) (how_many txn.wave.asked) (rounds_in (phase.Copying sinks parts) txn ledger) (copied_in (phase.Copying sinks parts) txn done ledger live last) (omega arith)
      (noted_low (copy_noted txn done) sinks parts done.current ledger (rounds_in (phase.Copying sinks parts) txn ledger) (λ p. (keeps p).drawn) (λ p. noted_late txn done parts ledger)
      (λ p left. noted_loss txn done sinks ledger (bit (is_copy_late txn parts ledger)) (five p) (loss p) left))
  copying_less (phase.Locking at) txn done ledger h five keeps loss = absurd (true≢false (sym h))
  copying_less (phase.Unlocking after) txn done ledger h five keeps loss = absurd (true≢false (sym h))
  copying_less (phase.Fetching place from contents) txn done ledger h five keeps loss = absurd (true≢false (sym h))
  copying_less (phase.Marking change) txn done ledger h five keeps loss = absurd (true≢false (sym h))
  copying_less (phase.Writing change) txn done ledger h five keeps loss = absurd (true≢false (sym h))
  copying_less (phase.Posting change adopted) txn done ledger h five keeps loss = absurd (true≢false (sym h))
  copying_less (phase.Settling verdict) txn done ledger h five keeps loss = absurd (true≢false (sym h))
  copying_less phase.Bearing txn done ledger h five keeps loss = absurd (true≢false (sym h))
  copying_less phase.Opening txn done ledger h five keeps loss = absurd (true≢false (sym h))
  copying_less (phase.Listing all) txn done ledger h five keeps loss = absurd (true≢false (sym h))
  copying_less phase.Over txn done ledger h five keeps loss = absurd (true≢false (sym h))

-- ---- the laws

-- what a phase may still ask for, and its rounds, are said by the transaction's other values
same_left : (p : Phase) (txn : Txn) → phases_left p (idle txn) ≡ phases_left p txn
same_left (phase.Locking at) txn = refl
same_left (phase.Unlocking after) txn = refl
same_left (phase.Fetching place from contents) txn = refl
same_left (phase.Copying sinks parts) txn = refl
same_left (phase.Marking change) txn = refl
same_left (phase.Writing change) txn = refl
same_left (phase.Posting change adopted) txn = refl
same_left (phase.Settling verdict) txn = refl
same_left phase.Bearing txn = refl
same_left phase.Opening txn = refl
same_left (phase.Listing all) txn = refl
same_left phase.Over txn = refl

same_rounds : (p : Phase) (txn : Txn) (ledger : State Cell) → rounds_in p (idle txn) ledger ≡ rounds_in p txn ledger
same_rounds (phase.Locking at) txn ledger = refl
same_rounds (phase.Unlocking (next.Answer r)) txn ledger = refl
same_rounds (phase.Unlocking next.Again) txn ledger = refl
same_rounds (phase.Fetching place from contents) txn ledger = ap (λ (b : Bool). occasions txn ledger + bit (is_one_out txn.shown.reached (alive txn) || b)) (same_split txn txn.outs txn.wave phase.Over 0 txn.cells)
same_rounds (phase.Copying sinks parts) txn ledger = refl
same_rounds (phase.Marking change) txn ledger = refl
same_rounds (phase.Writing change) txn ledger = refl
same_rounds (phase.Posting change adopted) txn ledger = refl
same_rounds (phase.Settling verdict) txn ledger = refl
same_rounds phase.Bearing txn ledger = refl
same_rounds phase.Opening txn ledger = refl
same_rounds (phase.Listing all) txn ledger = refl
same_rounds phase.Over txn ledger = refl

module _ (P : Type 0) (live : Mask) (last : List ℕ) (txn : Txn) (ledger : State Cell) where
  of_idle : (t : Txn × (Need × State Cell)) → Less P live last (6 * phases_left txn.phase (idle txn) + how_many txn.wave.asked) (rounds_in txn.phase (idle txn) ledger) t → Less P live last (work txn) (rounds txn ledger) t
  of_idle t h =
      subst (λ (n : ℕ). Less P live last (work txn) n t) (same_rounds txn.phase txn ledger)
      (subst (λ (m : ℕ). Less P live last (6 * m + how_many txn.wave.asked) (rounds_in txn.phase (idle txn) ledger) t) (same_left txn.phase txn) h)

  answer_less : (k mark : ℕ) (rep : BrickRep) → is_asking txn ≡ true → Keeps txn → Tracks txn → is_asked txn.wave k ≡ true → (P → HasBounds txn) → (P → LedgerKeeps ledger)
      → Less P live last (work txn) (rounds txn ledger) (answered txn k rep mark ledger live last)
  answer_less k mark rep asking keeps tracks asked bounds kept =
      let a = and_parts (is_waiting txn.size.n txn.wave) (are_granted_within txn.size.n txn.locks && suits txn.phase txn) asking in
      let b = and_parts (are_granted_within txn.size.n txn.locks) (suits txn.phase txn) a.1 in
      let c = and_parts (not (is_over txn.wave)) (is_within txn.size.n txn.wave.asked) a.0 in
      let low : k < txn.size.n = within_at txn.size.n k txn.wave.asked c.1 asked in
      of_idle (answered txn k rep mark ledger live last)
      (phase_less P live last (idle txn) k mark rep ledger (omega (arith, txn.size.few)) asked txn.phase (suits_idle txn.phase txn b.1) (tracks_idle txn.phase txn tracks) keeps.places
      (λ p at e. (subst (λ (q : Phase). BoundsIn q txn) e (bounds p).1).0) kept)

  copy_less : (done : CopyDone) → is_copying txn ≡ true → (P → length txn.outs.at ≡ 5) → (P → LedgerKeeps ledger) → (P → LeavesForLoss (sinks_in txn.phase) txn done)
      → Less P live last (work txn) (rounds txn ledger) (copied txn done ledger live last)
  copy_less done copying five kept loss =
      let a = and_parts (is_over txn.wave) (are_granted_within txn.size.n txn.locks && are_copies txn.phase) copying in
      let b = and_parts (are_granted_within txn.size.n txn.locks) (are_copies txn.phase) a.1 in
      of_idle (copied txn done ledger live last) (copying_less P live last txn.phase (idle txn) done ledger b.1 five kept loss)

-- it is this job: it is after the turn what it was before, and so is a job that begins again
this_again : (txn : Txn) (ledger : State Cell) (live : Mask) (last : List ℕ) (after : Txn) (turned : Need) → IsSameJob txn after → BeginsAgain ledger live last after turned → Again txn ledger live last after turned
this_again txn ledger live last after turned own h =
    let redo = own_after ⊥ ⊥ live last h.job (again h.job ledger live last) (again_after ⊥ ⊥ live last h.job ledger (λ q. absurd q)) in
    record {
      job = h.job;
      own = record {
        set = sym redo.set ∙ ap (λ (t : Txn). t.set) (sym h.after_is) ∙ own.set;
        size = sym redo.size ∙ ap (λ (t : Txn). t.size) (sym h.after_is) ∙ own.size;
        bricks = sym redo.bricks ∙ ap (λ (t : Txn). t.bricks) (sym h.after_is) ∙ own.bricks;
        call = sym redo.call ∙ ap (λ (t : Txn). t.call) (sym h.after_is) ∙ own.call;
        job = sym redo.job ∙ ap (λ (t : Txn). t.job) (sym h.after_is) ∙ own.job;
      };
      after_is = h.after_is;
      need_is = h.need_is;
    }

-- with nothing known of the ledger the work alone is less
work_alone : (live : Mask) (last : List ℕ) (txn : Txn) (most budget : ℕ) (t : Txn × (Need × State Cell)) → IsSameJob txn t.0 → Less ⊥ live last most budget t → (work t.0 < most) ⊎ Again txn t.1.1 live last t.0 t.1.0
work_alone live last txn most budget t own (inl h) = inl h.0
work_alone live last txn most budget t own (inr h) = inr (this_again txn t.1.1 live last t.0 t.1.0 own h.0)

with_rounds : (live : Mask) (last : List ℕ) (txn : Txn) (ledger : State Cell) (t : Txn × (Need × State Cell)) → IsSameJob txn t.0 → Less (Unit {0}) live last (work txn) (rounds txn ledger) t → IsPaid txn ledger live last t
with_rounds live last txn ledger t own (inl h) = inl (h.0, h.1 tt)
with_rounds live last txn ledger t own (inr h) = inr (this_again txn t.1.1 live last t.0 t.1.0 own h.0, h.1 tt)

pub answers_leave_less : EachAnswerLeavesLess
answers_leave_less txn k mark rep ledger live last asking keeps tracks asked =
    work_alone live last txn (work txn) (rounds txn ledger) (answered txn k rep mark ledger live last) (answers_stay txn k mark rep ledger live last)
    (answer_less ⊥ live last txn ledger k mark rep asking keeps tracks asked (λ p. absurd p) (λ p. absurd p))

pub copies_leave_less : EachCopyLeavesLess
copies_leave_less txn done ledger live last copying =
    work_alone live last txn (work txn) (rounds txn ledger) (copied txn done ledger live last) (copies_stay txn done ledger live last) (copy_less ⊥ live last txn ledger done copying (λ p. absurd p) (λ p. absurd p) (λ p. absurd p))

pub answers_are_paid : EachAnswerIsPaid
answers_are_paid txn k mark rep ledger live last asking keeps tracks bounds kept asked =
    with_rounds live last txn ledger (answered txn k rep mark ledger live last) (answers_stay txn k mark rep ledger live last)
    (answer_less (Unit {0}) live last txn ledger k mark rep asking keeps tracks asked (λ p. bounds) (λ p. kept))

pub copies_are_paid : EachCopyIsPaid
copies_are_paid txn done ledger live last copying keeps kept loss =
    with_rounds live last txn ledger (copied txn done ledger live last) (copies_stay txn done ledger live last) (copy_less (Unit {0}) live last txn ledger done copying (λ p. keeps.places) (λ p. kept) (λ p. loss))
