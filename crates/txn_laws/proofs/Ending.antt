-- A job takes a bounded number of turns.
use Rattle.std.proofs.Common.{ℕ, ◌+◌, ◌-◌, ◌*◌, ◌<◌, ◌≤◌, inl, inr, List, [], ◌∷◌, sym, subst, arith}
use Rattle.std.specs.Prelude.{length}
use Rattle.fop_types.specs.declared.cells.Cell.{Cell}
use Rattle.fop_types.specs.declared.contents.Mask.{Mask}
use Rattle.afr_ledger.specs.Ledger.{State, with_number, with_begun, decided}
use Rattle.afr_phases.specs.declared.locking.LockStep.{LockStep}
use Rattle.afr_phases.specs.declared.locking.LockStep.TheVariants as step
use Rattle.afr_phases.specs.declared.outs.Outs.{Outs}
use Rattle.afr_phases.specs.Locking.{next_lock}
use Rattle.afr_phases.specs.Locks.{no_locks}
use Rattle.afr_phases.specs.Shown.{nothing_shown}
use Rattle.afr_transaction.specs.declared.need.Need.{Need}
use Rattle.afr_transaction.specs.declared.txn.Txn.{Txn}
use Rattle.afr_transaction.specs.Answers.{answered, copied}
use Rattle.afr_transaction.specs.Encodings.{HasBounds, BoundsIn}
use Rattle.afr_transaction.specs.Locked.{again, cells_for, first_step, to_settle}
use Rattle.afr_transaction.proofs.Bounds.{answers_bound, copies_bound}
use Rattle.txn_laws.specs.Work.{how_many, work}
use Rattle.txn_laws.specs.Rounds.{rounds, IsPaid}
use Rattle.txn_laws.specs.Ends.{weight, Answer, Finish, Draw, Begin, BeginElsewhere, Decide, turns, begins, JobsEnd}
use Rattle.txn_laws.proofs.Counts.{few_flags}
use Rattle.txn_laws.proofs.Elsewhere.{elsewhere_raises_nothing}
use Rattle.txn_laws.proofs.Others.{draws_raise_nothing, decisions_raise_nothing, begins_raise_by_two}
use Rattle.txn_laws.proofs.Working.{answers_are_paid, copies_are_paid}

few_work : (cells at asked : ℕ) → cells ≤ 4 → asked ≤ 5 → 6 * (8 + (6 * cells + (5 - at))) + asked < 228
few_work cells at asked h k = omega arith

no_work : (asked : ℕ) → asked ≤ 5 → 6 * 0 + asked < 228
no_work asked k = omega arith

-- a lock phase that begins, of few cells
first_work : (txn : Txn) (t : Outs × LockStep) → BoundsIn (first_step txn t).0.phase (first_step txn t).0 → work (first_step txn t).0 < 228
first_work txn (outs, step.Ask k) bounds = few_work (length txn.cells) k (how_many (first_step txn (outs, step.Ask k)).0.wave.asked) bounds.1.1 (few_flags (first_step txn (outs, step.Ask k)).0.wave.asked)
first_work txn (outs, step.Short) bounds = no_work (how_many (first_step txn (outs, step.Short)).0.wave.asked) (few_flags (first_step txn (outs, step.Short)).0.wave.asked)
first_work txn (outs, step.Reached) bounds = no_work (how_many (first_step txn (outs, step.Reached)).0.wave.asked) (few_flags (first_step txn (outs, step.Reached)).0.wave.asked)

pub again_work : (job : Txn) (ledger : State Cell) (live : Mask) (last : List ℕ) → BoundsIn (again job ledger live last).0.phase (again job ledger live last).0 → work (again job ledger live last).0 < 228
again_work job ledger live last bounds =
    first_work (record job { cells = cells_for job ledger (to_settle job ledger); settles = to_settle job ledger; locks = no_locks; shown = nothing_shown })
    (next_lock job.outs no_locks job.size.n job.size.q 0 live last) bounds

less_work : (r s w v : ℕ) → v < w → s ≤ r → 228 * s + v < 228 * r + w
less_work r s w v h k = omega arith

fewer_rounds : (r s w v : ℕ) → v < 228 → s < r → 228 * s + v < 228 * r + w
fewer_rounds r s w v h k = omega arith

module _ (txn : Txn) (ledger : State Cell) (live : Mask) (last : List ℕ) where
  lighter : (t : Txn × (Need × State Cell)) → HasBounds t.0 → IsPaid txn ledger live last t → weight t.0 t.1.1 < weight txn ledger
  lighter t bounds (inl h) = less_work (rounds txn ledger) (rounds t.0 t.1.1) (work txn) (work t.0) h.0 h.1
  lighter t bounds (inr h) = fewer_rounds (rounds txn ledger) (rounds t.0 t.1.1) (work txn) (work t.0) few h.1 where
    few : work t.0 < 228
    few =
        subst (λ (a : Txn). work a < 228) (sym h.0.after_is)
        (again_work h.0.job t.1.1 live last (subst (λ (a : Txn). BoundsIn a.phase a) h.0.after_is bounds.1))

-- ---- steps

taken : (r w v b : ℕ) → v < w → r ≤ v + 456 * b → 1 + r ≤ w + 456 * (0 + b)
taken r w v b h k = omega arith

passed : (r w v b : ℕ) → v ≤ w → r ≤ v + 456 * b → 0 + r ≤ w + 456 * (0 + b)
passed r w v b h k = omega arith

begun : (r w n m b : ℕ) → n ≤ m + 2 → r ≤ 228 * n + w + 456 * b → 0 + r ≤ 228 * m + w + 456 * (1 + b)
begun r w n m b h k = omega arith

same_work : (n m w : ℕ) → n ≤ m → 228 * n + w ≤ 228 * m + w
same_work n m w h = omega arith

pub jobs_end : JobsEnd
jobs_end txn ledger [] h = omega arith
jobs_end txn ledger (Answer k mark rep live last ∷ steps) h =
    let a = answered txn k rep mark ledger live last in
    let w = h.0.0 in
    taken (turns steps) (weight txn ledger) (weight a.0 a.1.1) (begins steps)
    (lighter txn ledger live last a (answers_bound txn k mark rep ledger live last w.bounds w.few).0 (answers_are_paid txn k mark rep ledger live last h.0.1.0 w.keeps w.tracks w.bounds w.kept h.0.1.1))
    (jobs_end a.0 a.1.1 steps h.1)
jobs_end txn ledger (Finish done live last ∷ steps) h =
    let a = copied txn done ledger live last in
    let w = h.0.0 in
    taken (turns steps) (weight txn ledger) (weight a.0 a.1.1) (begins steps)
    (lighter txn ledger live last a (copies_bound txn done ledger live last w.bounds w.few).0 (copies_are_paid txn done ledger live last h.0.1.0 w.keeps w.kept h.0.1.1))
    (jobs_end a.0 a.1.1 steps h.1)
jobs_end txn ledger (Draw ∷ steps) h =
    passed (turns steps) (weight txn ledger) (weight txn (with_number ledger)) (begins steps) (same_work (rounds txn (with_number ledger)) (rounds txn ledger) (work txn) (draws_raise_nothing txn ledger))
    (jobs_end txn (with_number ledger) steps h.1)
jobs_end txn ledger (Begin u ∷ steps) h =
    begun (turns steps) (work txn) (rounds txn (with_begun ledger u)) (rounds txn ledger) (begins steps) (begins_raise_by_two txn ledger u) (jobs_end txn (with_begun ledger u) steps h.1)
jobs_end txn ledger (BeginElsewhere u ∷ steps) h =
    passed (turns steps) (weight txn ledger) (weight txn (with_begun ledger u)) (begins steps)
    (same_work (rounds txn (with_begun ledger u)) (rounds txn ledger) (work txn) (elsewhere_raises_nothing txn ledger u h.0)) (jobs_end txn (with_begun ledger u) steps h.1)
jobs_end txn ledger (Decide change adopted ∷ steps) h =
    passed (turns steps) (weight txn ledger) (weight txn (decided ledger change adopted)) (begins steps)
    (same_work (rounds txn (decided ledger change adopted)) (rounds txn ledger) (work txn) (decisions_raise_nothing txn ledger change adopted)) (jobs_end txn (decided ledger change adopted) steps h.1)
