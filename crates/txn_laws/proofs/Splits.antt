-- A split is of this job and of a quorum, and a heal skips its cell for what it names.
use Rattle.std.proofs.Common.{◌≡◌, ◌∙◌, ℕ, zero, suc, ◌+◌, ◌≤◌, Bool, true, false, ◌&&◌, not, nat_lt, if◌then◌else◌, List, [], ◌∷◌, Option, Some, None, is_some, refl, ap, subst, arith}
use Rattle.std.specs.Prelude.{length, count_by, slice_index_or}
use Rattle.std.proofs.lemmas.Bool.{ltb-false}
use Rattle.std.proofs.lemmas.List.Recursion.{is_count_by}
use Rattle.fop_types.specs.declared.answers.IoError.TheVariants as io
use Rattle.fop_types.specs.declared.answers.SplitRow.{SplitRow}
use Rattle.fop_types.specs.declared.causes.SkipCause.{SkipCause}
use Rattle.fop_types.specs.declared.causes.SkipCause.TheVariants as skip
use Rattle.fop_types.specs.declared.cells.Cell.{Cell}
use Rattle.fop_types.specs.declared.contents.Mask.{Mask}
use Rattle.fop_types.specs.declared.contents.Row.{Row}
use Rattle.fop_types.specs.declared.copy_jobs.Out.{Out}
use Rattle.fop_types.specs.declared.jobs.SetReply.{SetReply}
use Rattle.fop_types.specs.declared.messages.BrickRep.{BrickRep}
use Rattle.afr_ledger.specs.Ledger.{State}
use Rattle.afr_phases.specs.declared.locking.LockStep.{LockStep}
use Rattle.afr_phases.specs.declared.locking.LockStep.TheVariants as step
use Rattle.afr_phases.specs.declared.outs.Outs.{Outs}
use Rattle.afr_phases.specs.Answers.{is_fault, rows_in}
use Rattle.afr_phases.specs.Flags.{bit}
use Rattle.afr_phases.specs.Locking.{next_lock}
use Rattle.afr_phases.specs.Outs.{is_short, out_count, used}
use Rattle.afr_phases.specs.Waves.{is_asked}
use Rattle.afr_phases.proofs.Grants.{IsStepOf, step_of}
use Rattle.afr_phases.proofs.Stays.{IsStepFrom, step_from}
use Rattle.afr_transaction.specs.declared.need.Need.{Need}
use Rattle.afr_transaction.specs.declared.phase.Phase.{Phase}
use Rattle.afr_transaction.specs.declared.phase.Phase.TheVariants as phase
use Rattle.afr_transaction.specs.declared.txn.Txn.{Txn}
use Rattle.afr_transaction.specs.Answers.{answered, copied, idle}
use Rattle.afr_transaction.specs.Begins.{fresh, started}
use Rattle.afr_transaction.specs.Causes.{Tracks, reply_in, reply_of}
use Rattle.afr_transaction.specs.Locked.{lock_taken}
use Rattle.afr_transaction.specs.Requests.{Keeps}
use Rattle.afr_transaction.specs.Shapes.{is_asking}
use Rattle.txn_laws.specs.Granted.{Follows}
use Rattle.txn_laws.specs.Own.{IsSameJob}
use Rattle.txn_laws.specs.Splits.{HasQuorum, SplitHasQuorum, IsSkipCause, SkipHasCause, BeginsDoNotSplit, CopiesDoNotSplit, AnswersSplit, AnswersSkip, CopiesSkip}
use Rattle.txn_laws.specs.Work.{how_many}
use Rattle.txn_laws.proofs.Failures.{AnyOuts, any_grow, Said, SkipSaid, SkipsFor, DecidedSaid, IsKeptOrSaid, Reaches, LockReaches, begins_said, answers_said, copies_said}
use Rattle.txn_laws.proofs.Freed.{splits_lack}
use Rattle.txn_laws.proofs.Handed.{HasAll, Given, left_base, grant_base}
use Rattle.txn_laws.proofs.Known.{answers_stay, copies_stay, given}

-- ---- how many are used

places : List (Option Out) → ℕ
places [] = 0
places (x ∷ xs) = if is_some x then 1 + places xs else places xs

count_is : (xs : List (Option Out)) → places xs ≡ count_by is_some xs
unfolding places
count_is = is_count_by places is_some refl (λ x xs. refl)

place_is : (x : Option Out) (xs : List (Option Out)) → places (x ∷ xs) ≡ bit (is_some x) + places xs
unfolding places
place_is None xs = omega arith
place_is (Some x) xs = refl

one_place : (low out : Bool) → bit low ≤ bit (low && not out) + bit out
one_place true true = omega arith
one_place true false = omega arith
one_place false true = omega arith
one_place false false = omega arith

-- of the first five numbers
all_low : (n : ℕ) → n ≤ 5 → n ≤ bit (nat_lt 0 n) + (bit (nat_lt 1 n) + (bit (nat_lt 2 n) + (bit (nat_lt 3 n) + bit (nat_lt 4 n))))
all_low zero few = omega arith
all_low (suc zero) few = omega arith
all_low (suc (suc zero)) few = omega arith
all_low (suc (suc (suc zero))) few = omega arith
all_low (suc (suc (suc (suc zero)))) few = omega arith
all_low (suc (suc (suc (suc (suc zero))))) few = omega arith
all_low (suc (suc (suc (suc (suc (suc n)))))) few = absurd (omega arith)

used_in : (n : ℕ) (xs : List (Option Out)) → n ≤ 5 → length xs ≡ 5
    → n ≤ (bit (nat_lt 0 n && not (is_some (slice_index_or xs 0 None))) + (bit (nat_lt 1 n && not (is_some (slice_index_or xs 1 None))) + (bit (nat_lt 2 n && not (is_some (slice_index_or xs 2 None)))
    + (bit (nat_lt 3 n && not (is_some (slice_index_or xs 3 None))) + bit (nat_lt 4 n && not (is_some (slice_index_or xs 4 None))))))) + places xs
unfolding places
used_in n [] few five = absurd cc
used_in n (a ∷ []) few five = absurd cc
used_in n (a ∷ b ∷ []) few five = absurd cc
used_in n (a ∷ b ∷ c ∷ []) few five = absurd cc
used_in n (a ∷ b ∷ c ∷ d ∷ []) few five = absurd cc
used_in n (a ∷ b ∷ c ∷ d ∷ e ∷ []) few five =
    omega (
      arith,
      all_low n few,
      one_place (nat_lt 0 n) (is_some a),
      one_place (nat_lt 1 n) (is_some b),
      one_place (nat_lt 2 n) (is_some c),
      one_place (nat_lt 3 n) (is_some d),
      one_place (nat_lt 4 n) (is_some e),
      place_is a (b ∷ c ∷ d ∷ e ∷ []),
      place_is b (c ∷ d ∷ e ∷ []),
      place_is c (d ∷ e ∷ []),
      place_is d (e ∷ []),
      place_is e [],
    )
used_in n (a ∷ b ∷ c ∷ d ∷ e ∷ f ∷ xs) few five = absurd (omega arith)

enough_used : (outs : Outs) (n q : ℕ) → n ≤ 5 → length outs.at ≡ 5 → is_short outs n q ≡ false → q ≤ how_many (used outs n)
unfolding how_many
enough_used outs n q few five enough =
    let most : out_count outs + q ≤ n = ltb-false n (out_count outs + q) enough in
    omega (arith, used_in n outs.at few five, count_is outs.at)

-- ---- a lock phase that ends

module _ (live : Mask) (last : List ℕ) where
  ends_with : (txn : Txn) (from : ℕ) (t : Outs × LockStep) → HasAll txn → IsStepOf txn.size.n txn.size.q t → IsStepFrom txn.size.n txn.locks t → Reaches HasQuorum AnyOuts any_grow live last txn t
  ends_with txn from (outs, step.Ask k) all enough left = tt
  ends_with txn from (outs, step.Short) all enough left = tt
  ends_with txn from (outs, step.Reached) all enough left = record {
    quorum = enough_used outs txn.size.n txn.size.q txn.size.few left.0 enough;
    granted = left.1;
    rows = λ k is. let r = all.rows k (left.1 k is) in record { rows = r.rows; shown = r.shown; one_each = r.one_each };
  }

  step_ends : (txn : Txn) (from : ℕ) → HasAll txn → Reaches HasQuorum AnyOuts any_grow live last txn (next_lock txn.outs txn.locks txn.size.n txn.size.q from live last)
  step_ends txn from all =
      ends_with txn from (next_lock txn.outs txn.locks txn.size.n txn.size.q from live last) all (step_of txn.size.n txn.size.q live last txn.outs txn.locks from)
      (step_from txn.size.n txn.size.q from txn.outs txn.locks live last all.outs_places)

skips_by : (cause : SkipCause) (job : Txn) (ledger : State Cell) → SkipsFor HasQuorum AnyOuts any_grow job ledger cause → IsSkipCause job ledger cause
skips_by skip.Majority job ledger skips = skips
skips_by skip.Split job ledger skips = skips
skips_by skip.Unsettled job ledger skips = skips

module _ (txn : Txn) (k mark : ℕ) (r : BrickRep) (ledger : State Cell) (live : Mask) (last : List ℕ) (asking : is_asking txn ≡ true) (keeps : Keeps txn) (tracks : Tracks txn) (asked : is_asked txn.wave k ≡ true) (follows : Follows txn) where
  abbrev turned : Txn × (Need × State Cell)
  turned = answered txn k r mark ledger live last

  given_at : (at : ℕ) → txn.phase ≡ phase.Locking at → Given (idle txn) k (phase.Locking at)
  given_at at e = subst (λ (p : Phase). Given (idle txn) k p) e (given txn k mark r ledger live last asking keeps asked follows)

  taken_all : (at : ℕ) → txn.phase ≡ phase.Locking at → (rows : Option (List Row)) → rows_in r (length txn.cells) ≡ rows → HasAll (lock_taken (idle txn) k rows (is_fault r) mark last)
  taken_all at e None rows_are = (left_base (Unit {0}) live last (idle txn) k mark r (phase.Locking at) (λ q. given_at at e) (ap is_some rows_are)).all tt
  taken_all at e (Some rows) rows_are = (grant_base (Unit {0}) live last (idle txn) k mark r (phase.Locking at) (λ q. given_at at e) at rows refl rows_are (ap is_some rows_are)).all tt

  reaches : LockReaches HasQuorum AnyOuts any_grow live last (idle txn) k mark r txn.phase
  reaches at e None rows_are = step_ends live last (lock_taken (idle txn) k None (is_fault r) mark last) (k + 1) (taken_all at e None rows_are)
  reaches at e (Some rows) rows_are = step_ends live last (lock_taken (idle txn) k (Some rows) (is_fault r) mark last) (k + 1) (taken_all at e (Some rows) rows_are)

  decided_now : reply_in txn.phase ≡ None → DecidedSaid HasQuorum AnyOuts any_grow turned.0 turned.1.1 (reply_of turned.0 turned.1.0)
  decided_now none = subst (λ (o : Option SetReply). IsKeptOrSaid HasQuorum AnyOuts any_grow o turned.0 turned.1.1 turned.1.0) none (answers_said HasQuorum AnyOuts any_grow txn k mark r ledger live last asking keeps tracks asked ((λ e. tt), (λ e. tt)) reaches).1

  own_since : (job : Txn) → IsSameJob turned.0 job → IsSameJob txn job
  own_since job own =
      let stay : IsSameJob txn turned.0 = answers_stay txn k mark r ledger live last in
      record { set = own.set ∙ stay.set; size = own.size ∙ stay.size; bricks = own.bricks ∙ stay.bricks; call = own.call ∙ stay.call; job = own.job ∙ stay.job }

  split_said : (number : ℕ) (rows : List SplitRow) → Said HasQuorum AnyOuts any_grow turned.0 turned.1.1 (io.Split number rows) → SplitHasQuorum txn turned.0 turned.1.1 (io.Split number rows)
  split_said number rows said = record { job = said.job; is = said.is; own = own_since said.job said.own; reached = said.splits number rows refl; cause = said.cause; bare = λ all free. splits_lack said.job turned.1.1 number rows all free said.cause }

  skip_said : (cause : SkipCause) → SkipSaid HasQuorum AnyOuts any_grow turned.0 turned.1.1 cause → SkipHasCause txn turned.0 turned.1.1 cause
  skip_said cause said = record { job = said.job; is = said.is; own = own_since said.job said.own; skips = skips_by cause said.job turned.1.1 said.skips }

-- ---- the laws

pub answers_split : AnswersSplit
answers_split txn k mark r ledger live last number rows asking keeps tracks asked follows none e =
    let t = answered txn k r mark ledger live last in
    split_said txn k mark r ledger live last asking keeps tracks asked follows number rows
    (subst (λ (o : Option SetReply). DecidedSaid HasQuorum AnyOuts any_grow t.0 t.1.1 o) e (decided_now txn k mark r ledger live last asking keeps tracks asked follows none))

pub answers_skip : AnswersSkip
answers_skip txn k mark r ledger live last cause asking keeps tracks asked follows none e =
    let t = answered txn k r mark ledger live last in
    skip_said txn k mark r ledger live last asking keeps tracks asked follows cause
    (subst (λ (o : Option SetReply). DecidedSaid HasQuorum AnyOuts any_grow t.0 t.1.1 o) e (decided_now txn k mark r ledger live last asking keeps tracks asked follows none))

-- where no lock phase ends there is no split
abbrev Never : Txn → Type 0
Never job = ⊥

pub begins_do_not_split : BeginsDoNotSplit
begins_do_not_split size set call j ledger live last number rows e =
    let t = started (fresh size set call j) ledger live last in
    let said : Said Never AnyOuts any_grow t.0 ledger (io.Split number rows) = subst (λ (o : Option SetReply). DecidedSaid Never AnyOuts any_grow t.0 ledger o) e (begins_said Never AnyOuts any_grow size set call j ledger live last tt).1 in
    said.splits number rows refl

pub copies_do_not_split : CopiesDoNotSplit
copies_do_not_split txn done ledger live last number rows copying keeps e =
    let t = copied txn done ledger live last in
    let said : Said Never AnyOuts any_grow t.0 t.1.1 (io.Split number rows) = subst (λ (o : Option SetReply). DecidedSaid Never AnyOuts any_grow t.0 t.1.1 o) e (copies_said Never AnyOuts any_grow txn done ledger live last copying keeps tt).1 in
    said.splits number rows refl

pub copies_skip : CopiesSkip
copies_skip txn done ledger live last cause copying keeps e =
    let t = copied txn done ledger live last in
    let said : SkipSaid HasQuorum AnyOuts any_grow t.0 t.1.1 cause = subst (λ (o : Option SetReply). DecidedSaid HasQuorum AnyOuts any_grow t.0 t.1.1 o) e (copies_said HasQuorum AnyOuts any_grow txn done ledger live last copying keeps tt).1 in
    let stay : IsSameJob txn t.0 = copies_stay txn done ledger live last in
    record {
      job = said.job;
      is = said.is;
      own = record { set = said.own.set ∙ stay.set; size = said.own.size ∙ stay.size; bricks = said.own.bricks ∙ stay.bricks; call = said.own.call ∙ stay.call; job = said.own.job ∙ stay.job };
      skips = skips_by cause said.job t.1.1 said.skips;
    }
