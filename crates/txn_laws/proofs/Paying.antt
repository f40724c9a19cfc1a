-- What pays for the rounds of a job: a change on its cells that is settled, or a replica that is out.
use Rattle.std.proofs.Common.{◌≡◌, ◌∙◌, ℕ, ◌+◌, ◌≤◌, ◌<◌, Bool, true, false, ◌&&◌, ◌||◌, not, nat_le, nat_lt, cond, List, Option, Some, None, is_some, is_none, refl, sym, ap, subst, arith}
use Rattle.std.specs.List.Sorted.{IsStrictlySortedBy}
use Rattle.std.specs.Map.{keys_of}
use Rattle.std.specs.Ordering.{nat_cmp}
use Rattle.std.specs.Prelude.{length}
use Rattle.std.proofs.lemmas.Bool.{and_from, and_parts, cond_both, le-leb, or_from, or_left, or_right, true≢false}
use Rattle.fop_types.specs.Orders.{cell_cmp}
use Rattle.fop_types.specs.declared.cells.Cell.{Cell}
use Rattle.fop_types.specs.declared.cells.Gfid.{Gfid}
use Rattle.fop_types.specs.declared.contents.Mask.{Mask}
use Rattle.fop_types.specs.declared.copy_jobs.CopyDone.{CopyDone}
use Rattle.fop_types.specs.declared.jobs.Job.{Job}
use Rattle.fop_types.specs.declared.jobs.Job.TheVariants as job
use Rattle.afr_ledger.specs.Changes.{numbered, touching}
use Rattle.afr_ledger.specs.Ledger.{State, AreDrawn, with_number, decided}
use Rattle.afr_ledger.specs.declared.unsettled.Unsettled.{Unsettled}
use Rattle.afr_phases.specs.declared.locking.LockStep.{LockStep}
use Rattle.afr_phases.specs.declared.locking.LockStep.TheVariants as step
use Rattle.afr_phases.specs.declared.outs.Outs.{Outs}
use Rattle.afr_phases.specs.declared.wave.Wave.{Wave}
use Rattle.afr_phases.specs.Flags.{bit, both, but_for, flag, flags_of, lowest, names}
use Rattle.afr_phases.specs.Locking.{next_lock}
use Rattle.afr_phases.specs.Locks.{no_locks}
use Rattle.afr_phases.specs.Outs.{is_out, used}
use Rattle.afr_phases.specs.Shown.{nothing_shown}
use Rattle.afr_phases.proofs.Tracked.{flag_by}
use Rattle.afr_phases.proofs.Truths.{below_five, both_left, both_right, flags_at, some_there}
use Rattle.afr_transaction.specs.declared.jobs.Kind.TheVariants as kind
use Rattle.afr_transaction.specs.declared.phase.Part.{Part}
use Rattle.afr_transaction.specs.declared.phase.Phase.{Phase}
use Rattle.afr_transaction.specs.declared.phase.Then.{Then}
use Rattle.afr_transaction.specs.declared.phase.Then.TheVariants as next
use Rattle.afr_transaction.specs.declared.phase.Verdict.{Verdict}
use Rattle.afr_transaction.specs.declared.txn.Txn.{Txn}
use Rattle.afr_transaction.specs.Changes.{is_drawn, decides}
use Rattle.afr_transaction.specs.Copied.{is_change, copy_noted}
use Rattle.afr_transaction.specs.Copies.{has_source, is_left, with_outs}
use Rattle.afr_transaction.specs.Encodings.{TakesLocks}
use Rattle.afr_transaction.specs.Jobs.{kind_of, birth_op, change_op}
use Rattle.afr_transaction.specs.Locked.{again, cells_for, first_step, job_cells, lost_noted, settles_first, to_settle}
use Rattle.afr_transaction.specs.Reads.{is_split_read}
use Rattle.afr_transaction.specs.Settles.{settle_decided, verdict_by}
use Rattle.afr_transaction.specs.Txns.{alive, is_heal}
use Rattle.txn_laws.specs.Work.{how_many}
use Rattle.txn_laws.specs.Rounds.{unsettled_on, is_unsettled_on, occasions, is_settled, is_met, is_one_out, lack_sources, is_lock_late, is_copy_late, is_mark_late, is_read_late, rounds_after, rounds, HasWentOut, LeavesForLoss}
use Rattle.txn_laws.proofs.Counts.{bit_most, bit_one, none_more, one_less, out_pays}
use Rattle.txn_laws.proofs.Sources.{part_loses, same_split}
use Rattle.txn_laws.proofs.Unsettled.{found_on, nobody_on, own_pays}
use Rattle.txn_laws.proofs.Used.{IsSince, noted_since, off_after, outs_since, step_since}

-- ---- budgets

pub fewer : (u a b d m : ℕ) → a ≤ b → u + b + d ≤ m → u + a + d ≤ m
fewer u a b d m h k = omega arith

pub less_late : (n d e m : ℕ) → d ≤ e → n + e ≤ m → n + d ≤ m
less_late n d e m h k = omega arith

pub is_due : (n m : ℕ) (b : Bool) → b ≡ true → n + bit b ≤ m → n + 1 ≤ m
is_due n m b e h = let one : bit b ≡ 1 = bit_one b e in omega arith

pub spared : (n m : ℕ) (b late : Bool) → b ≡ false → n + bit late ≤ m → n + bit b ≤ m
spared n m true late e h = absurd (true≢false e)
spared n m false late e h = omega arith

pub at_most_one : (n m : ℕ) (b : Bool) → n + 1 ≤ m → n + bit b ≤ m
at_most_one n m b h = omega (arith, bit_most b)

pub beside : (u a d b e m : ℕ) → a + d ≤ b + e → u + b + e ≤ m → u + a + d ≤ m
beside u a d b e m h k = omega arith

pub moved : (u v a b d e : ℕ) → a ≤ b → u + d ≤ v + e → u + a + d ≤ v + b + e
moved u v a b d e h k = omega arith

pub same : (n : ℕ) → n ≤ n
same n = omega arith

pub one_fewer : (u a b d : ℕ) → a < b → u + a + 1 ≤ u + b + d
one_fewer u a b d h = omega arith

-- ---- a release

-- what a job that begins again is to have
abbrev pub Pays : Then → Txn → State Cell → ℕ → Type 0
Pays (next.Answer reply) txn ledger budget = Unit {0}
Pays next.Again txn ledger budget = occasions txn ledger + 1 ≤ budget

pub released : (after : Then) (txn : Txn) (wave : Wave) (p : Phase) (ledger : State Cell) (budget : ℕ) → Pays after txn ledger budget → rounds_after after (record txn { wave = wave; phase = p }) ledger ≤ budget
released (next.Answer reply) txn wave p ledger budget h = omega arith
released next.Again txn wave p ledger budget h = h

pub own_budget : (after : Then) (txn : Txn) (ledger : State Cell) → Pays after txn ledger (rounds_after after txn ledger)
own_budget (next.Answer reply) txn ledger = tt
own_budget next.Again txn ledger = same (occasions txn ledger + 1)

pub pays_since : (after : Then) (txn : Txn) (outs : Outs) (wave : Wave) (ledger : State Cell) (budget : ℕ) → IsSince txn.size.n txn.outs outs → Pays after txn ledger budget → Pays after (record txn { outs = outs; wave = wave }) ledger budget
pays_since (next.Answer reply) txn outs wave ledger budget since h = tt
pays_since next.Again txn outs wave ledger budget since h =
    fewer (unsettled_on txn.set (job_cells txn.job) ledger.unsettled) (how_many (used outs txn.size.n)) (how_many (alive txn)) 1 budget (none_more (used outs txn.size.n) (alive txn) since) h

pub noted_pays : (after : Then) (txn : Txn) (ledger : State Cell) (live : Mask) (last : List ℕ) (budget : ℕ) → Pays after txn ledger budget → Pays after (lost_noted txn live last) ledger budget
noted_pays (next.Answer reply) txn ledger live last budget h = tt
noted_pays next.Again txn ledger live last budget h =
    fewer (unsettled_on txn.set (job_cells txn.job) ledger.unsettled) (how_many (alive (lost_noted txn live last))) (how_many (alive txn)) 1 budget
    (none_more (alive (lost_noted txn live last)) (alive txn) (noted_since txn.size.n live last txn.locks txn.outs)) h

-- ---- a job that begins again

-- it is not late: the change that it settles is unsettled on its cells, or there is none
late_of : (txn : Txn) (ledger : State Cell) (o : Option ℕ) → to_settle txn ledger ≡ o → is_lock_late o txn.set txn.job (cells_for txn ledger o) ledger ≡ false
late_of txn ledger (Some change) e = by (settles_first txn.job) e where
  by : (b : Bool) → cond b (touching cell_cmp txn.set (job_cells txn.job) ledger.unsettled) None ≡ Some change → not (is_unsettled_on txn.set (job_cells txn.job) change ledger.unsettled) ≡ false
  by true h = ap not (found_on txn.set (job_cells txn.job) ledger.unsettled change h)
  by false h = absurd cc
late_of txn ledger None e = by (settles_first txn.job) e where
  by : (b : Bool) → cond b (touching cell_cmp txn.set (job_cells txn.job) ledger.unsettled) None ≡ None → (b && is_some (touching cell_cmp txn.set (job_cells txn.job) ledger.unsettled)) ≡ false
  by true h = ap is_some h
  by false h = refl

not_late : (u a b m : ℕ) (late : Bool) → late ≡ false → a ≤ b → u + b ≤ m → u + a + bit late ≤ m
not_late u a b m true e h k = absurd (true≢false e)
not_late u a b m false e h k = omega arith

first_rounds : (txn : Txn) (t : Outs × LockStep) (ledger : State Cell) → is_lock_late txn.settles txn.set txn.job txn.cells ledger ≡ false → IsSince txn.size.n txn.outs t.0 → rounds (first_step txn t).0 ledger ≤ occasions txn ledger
first_rounds txn (outs, step.Ask k) ledger e since =
    not_late (unsettled_on txn.set (job_cells txn.job) ledger.unsettled) (how_many (used outs txn.size.n)) (how_many (alive txn)) (occasions txn ledger)
    (is_lock_late txn.settles txn.set txn.job txn.cells ledger) e (none_more (used outs txn.size.n) (alive txn) since) (same (occasions txn ledger))
first_rounds txn (outs, step.Short) ledger e since = omega arith
first_rounds txn (outs, step.Reached) ledger e since = omega arith

pub again_rounds : (txn : Txn) (ledger : State Cell) (live : Mask) (last : List ℕ) → rounds (again txn ledger live last).0 ledger ≤ occasions txn ledger
again_rounds txn ledger live last =
    first_rounds (record txn { cells = cells_for txn ledger (to_settle txn ledger); settles = to_settle txn ledger; locks = no_locks; shown = nothing_shown })
    (next_lock txn.outs no_locks txn.size.n txn.size.q 0 live last) ledger (late_of txn ledger (to_settle txn ledger) refl) (step_since txn.size.n live last no_locks txn.outs txn.size.q 0)

pub again_pays : (txn : Txn) (ledger : State Cell) (live : Mask) (last : List ℕ) (budget : ℕ) → Pays next.Again txn ledger budget → rounds (again txn ledger live last).0 ledger < budget
again_pays txn ledger live last budget h = by (rounds (again txn ledger live last).0 ledger) (occasions txn ledger) (again_rounds txn ledger live last) h where
  by : (r o : ℕ) → r ≤ o → o + 1 ≤ budget → r < budget
  by r o few h = omega arith

pub lock_since : (txn : Txn) (outs : Outs) (ledger : State Cell) (budget : ℕ) → IsSince txn.size.n txn.outs outs → occasions txn ledger + bit (is_lock_late txn.settles txn.set txn.job txn.cells ledger) ≤ budget
    → unsettled_on txn.set (job_cells txn.job) ledger.unsettled + how_many (used outs txn.size.n) + bit (is_lock_late txn.settles txn.set txn.job txn.cells ledger) ≤ budget
lock_since txn outs ledger budget since h =
    fewer (unsettled_on txn.set (job_cells txn.job) ledger.unsettled) (how_many (used outs txn.size.n)) (how_many (alive txn)) (bit (is_lock_late txn.settles txn.set txn.job txn.cells ledger)) budget (none_more (used outs txn.size.n) (alive txn) since) h

-- ---- a mark

change_settles : (j : Job) → is_change j ≡ true → settles_first j ≡ true
change_settles (job.Read cells fd dir) h = refl
change_settles (job.Change cells fd op effect) h = refl
change_settles (job.Birth cells op) h = absurd (true≢false (sym h))
change_settles (job.Open fd gfid) h = absurd (true≢false (sym h))
change_settles job.Index h = absurd (true≢false (sym h))
change_settles (job.Heal cell) h = absurd (true≢false (sym h))

change_has : (j : Job) → is_change j ≡ true → is_none (change_op j) ≡ false
change_has (job.Read cells fd dir) h = absurd (true≢false (sym h))
change_has (job.Change cells fd op effect) h = refl
change_has (job.Birth cells op) h = absurd (true≢false (sym h))
change_has (job.Open fd gfid) h = absurd (true≢false (sym h))
change_has job.Index h = absurd (true≢false (sym h))
change_has (job.Heal cell) h = absurd (true≢false (sym h))

-- the next number is no unsettled change's
new_number : (drawn : ℕ) (us : List (ℕ × Unsettled Cell)) → AreDrawn drawn us → is_none (numbered (drawn + 1) us) ≡ true
new_number drawn us all = by (numbered (drawn + 1) us) refl where
  by : (o : Option (Unsettled Cell)) → numbered (drawn + 1) us ≡ o → is_none o ≡ true
  by None e = refl
  by (Some u) e = absurd (let few : drawn + 1 ≤ drawn = (all (drawn + 1) u e).1 in omega arith)

number_drawn : (ledger : State Cell) → is_drawn (ledger.drawn + 1) (with_number ledger) ≡ true
number_drawn ledger =
    and_from (nat_le 1 (ledger.drawn + 1)) (nat_le (ledger.drawn + 1) (ledger.drawn + 1)) (le-leb 1 (ledger.drawn + 1) (omega arith)) (le-leb (ledger.drawn + 1) (ledger.drawn + 1) (omega arith))

-- a mark with a new number is late only where an unsettled change touches its cells
pub mark_late : (txn : Txn) (ledger : State Cell) → AreDrawn ledger.drawn ledger.unsettled → is_change txn.job ≡ true
    → is_mark_late txn (ledger.drawn + 1) (with_number ledger) ≡ true → is_met txn.set txn.job txn.cells ledger ≡ true
mark_late txn ledger all change = by (touching cell_cmp txn.set txn.cells ledger.unsettled) where
  by : (o : Option ℕ) → (not (is_none o && (is_drawn (ledger.drawn + 1) (with_number ledger) && is_none (numbered (ledger.drawn + 1) ledger.unsettled))) || is_none (change_op txn.job)) ≡ true
      → (settles_first txn.job && is_some o) ≡ true
  by (Some other) h = and_from (settles_first txn.job) true (change_settles txn.job change) refl
  by None h =
      let fits = and_from (is_drawn (ledger.drawn + 1) (with_number ledger)) (is_none (numbered (ledger.drawn + 1) ledger.unsettled)) (number_drawn ledger) (new_number ledger.drawn ledger.unsettled all) in
      let none = or_from (not (is_drawn (ledger.drawn + 1) (with_number ledger) && is_none (numbered (ledger.drawn + 1) ledger.unsettled))) (is_none (change_op txn.job)) (ap not fits) (change_has txn.job change) in
      absurd (true≢false (sym h ∙ none))

-- ---- a settling

done_before : (n : ℕ) (b x : Bool) → b ≡ true → n + 1 ≤ n + bit (b || x)
done_before n true x e = omega arith
done_before n false x e = absurd (true≢false (sym e))

gone_before : (n : ℕ) (b w : Bool) → w ≡ false → n + 1 ≤ n + bit (b || not w)
gone_before n true w e = omega arith
gone_before n false true e = absurd (true≢false e)
gone_before n false false e = omega arith

late_or : (n m : ℕ) (b w : Bool) → m ≤ n + bit (not w) → m ≤ n + bit (b || not w)
late_or n m true w h = omega (arith, bit_most (not w))
late_or n m false w h = h

-- the change that a settle decides pays for it
abbrev pub SettlePays : Txn → Verdict → State Cell → Bool × State Cell → Type 0
SettlePays txn verdict ledger d =
    unsettled_on txn.set (job_cells txn.job) d.1.unsettled + bit (d.0 || is_settled txn.set txn.job verdict.change d.1)
    ≤ unsettled_on txn.set (job_cells txn.job) ledger.unsettled + bit (verdict.decided || is_settled txn.set txn.job verdict.change ledger)

pub settle_pays : (txn : Txn) (verdict : Verdict) (ledger : State Cell) → IsStrictlySortedBy nat_cmp (keys_of ledger.unsettled) → SettlePays txn verdict ledger (settle_decided txn verdict ledger)
settle_pays txn verdict ledger sorted =
    cond_both verdict.decided _ _ (SettlePays txn verdict ledger)
    (λ e. done_before (unsettled_on txn.set (job_cells txn.job) ledger.unsettled) verdict.decided (is_settled txn.set txn.job verdict.change ledger) e)
    (λ e. cond_both (decides txn ledger) _ _ (SettlePays txn verdict ledger) (λ d. by (numbered verdict.change ledger.unsettled) refl)
    (λ d. late_or (unsettled_on txn.set (job_cells txn.job) ledger.unsettled) (unsettled_on txn.set (job_cells txn.job) ledger.unsettled + bit (is_settled txn.set txn.job verdict.change ledger)) verdict.decided
    (is_unsettled_on txn.set (job_cells txn.job) verdict.change ledger.unsettled) (same (unsettled_on txn.set (job_cells txn.job) ledger.unsettled + bit (is_settled txn.set txn.job verdict.change ledger)))))
  where
    by : (o : Option (Unsettled Cell)) → numbered verdict.change ledger.unsettled ≡ o → SettlePays txn verdict ledger (true, verdict_by o verdict.change verdict.held ledger)
    by None e = gone_before (unsettled_on txn.set (job_cells txn.job) ledger.unsettled) verdict.decided (is_unsettled_on txn.set (job_cells txn.job) verdict.change ledger.unsettled) (nobody_on txn.set (job_cells txn.job) ledger.unsettled verdict.change e)
    by (Some u) e =
        late_or (unsettled_on txn.set (job_cells txn.job) ledger.unsettled) (unsettled_on txn.set (job_cells txn.job) (decided ledger verdict.change verdict.held).unsettled + 1) verdict.decided
        (is_unsettled_on txn.set (job_cells txn.job) verdict.change ledger.unsettled) (own_pays txn.set (job_cells txn.job) verdict.change ledger.unsettled sorted (ap is_some e))

-- ---- a read

-- one that goes out pays for the read that begins again
pub read_pays : (txn : Txn) (outs : Outs) (wave : Wave) (p : Phase) → IsSince txn.size.n txn.outs outs
    → how_many (used outs txn.size.n) + bit (is_read_late (record txn { outs = outs; wave = wave; phase = p })) ≤ how_many (alive txn) + bit (is_read_late txn)
read_pays txn outs wave p since =
    subst (λ (b : Bool). how_many (used outs txn.size.n) + bit (is_one_out txn.shown.reached (used outs txn.size.n) || b) ≤ how_many (alive txn) + bit (is_read_late txn)) (sym (same_split txn outs wave p 0 txn.cells))
    (out_pays txn.shown.reached (alive txn) (used outs txn.size.n) (is_split_read txn 0 txn.cells) since)

pub reads_in : (txn : Txn) (wave : Wave) (p : Phase) (ledger : State Cell) (budget : ℕ) → occasions txn ledger + bit (is_read_late txn) ≤ budget → occasions txn ledger + bit (is_read_late (record txn { wave = wave; phase = p })) ≤ budget
reads_in txn wave p ledger budget h =
    subst (λ (b : Bool). occasions txn ledger + bit (is_one_out txn.shown.reached (alive txn) || b) ≤ budget) (sym (same_split txn txn.outs wave p 0 txn.cells)) h

-- ---- copies

-- why copies are late: one that was reached is out, a change was settled, a part lacks a source, the cells are met, or the job
-- is none that copies
only_met : (a b c d e : Bool) → a ≡ false → b ≡ false → c ≡ false → e ≡ false → bit (a || (b || (c || (d || e)))) ≤ bit d
only_met true b c d e p q r s = absurd (true≢false p)
only_met false true c d e p q r s = absurd (true≢false q)
only_met false false true d e p q r s = absurd (true≢false r)
only_met false false false d true p q r s = absurd (true≢false s)
only_met false false false true false p q r s = omega arith
only_met false false false false false p q r s = omega arith

pub copies_met : (txn : Txn) (parts : List Part) (ledger : State Cell) → is_one_out txn.shown.reached (alive txn) ≡ false → is_some txn.settles ≡ false → lack_sources txn.shown.reached parts ≡ false → (is_change txn.job || is_heal txn.job) ≡ true
    → bit (is_copy_late txn parts ledger) ≤ bit (is_met txn.set txn.job txn.cells ledger)
copies_met txn parts ledger lost settles lack copies =
    only_met (is_one_out txn.shown.reached (alive txn)) (is_some txn.settles) (lack_sources txn.shown.reached parts) (is_met txn.set txn.job txn.cells ledger) (not (is_change txn.job || is_heal txn.job)) lost settles lack (ap not copies)

fewer_lack : (a b c k d : Bool) → (c ≡ true → k ≡ true) → bit (a || (b || (c || d))) ≤ bit (a || (b || (k || d)))
fewer_lack true b c k d h = omega arith
fewer_lack false true c k d h = omega arith
fewer_lack false false true true d h = omega arith
fewer_lack false false true false d h = absurd (true≢false (sym (h refl)))
fewer_lack false false false true d h = omega (arith, bit_most d)
fewer_lack false false false false d h = omega arith

pub rest_late : (txn : Txn) (rest parts : List Part) (ledger : State Cell) → (lack_sources txn.shown.reached rest ≡ true → lack_sources txn.shown.reached parts ≡ true) → bit (is_copy_late txn rest ledger) ≤ bit (is_copy_late txn parts ledger)
rest_late txn rest parts ledger h =
    fewer_lack (is_one_out txn.shown.reached (alive txn)) (is_some txn.settles) (lack_sources txn.shown.reached rest) (lack_sources txn.shown.reached parts) (is_met txn.set txn.job txn.cells ledger || not (is_change txn.job || is_heal txn.job)) h

module _ (txn : Txn) (parts : List Part) (ledger : State Cell) where
  pub settles_late : is_some txn.settles ≡ true → is_copy_late txn parts ledger ≡ true
  settles_late h =
      or_right (is_one_out txn.shown.reached (alive txn)) (is_some txn.settles || (lack_sources txn.shown.reached parts || (is_met txn.set txn.job txn.cells ledger || not (is_change txn.job || is_heal txn.job))))
      (or_left (is_some txn.settles) (lack_sources txn.shown.reached parts || (is_met txn.set txn.job txn.cells ledger || not (is_change txn.job || is_heal txn.job))) h)

  after_lack : (lack_sources txn.shown.reached parts || (is_met txn.set txn.job txn.cells ledger || not (is_change txn.job || is_heal txn.job))) ≡ true → is_copy_late txn parts ledger ≡ true
  after_lack h =
      or_right (is_one_out txn.shown.reached (alive txn)) (is_some txn.settles || (lack_sources txn.shown.reached parts || (is_met txn.set txn.job txn.cells ledger || not (is_change txn.job || is_heal txn.job))))
      (or_right (is_some txn.settles) (lack_sources txn.shown.reached parts || (is_met txn.set txn.job txn.cells ledger || not (is_change txn.job || is_heal txn.job))) h)

  pub met_late : is_met txn.set txn.job txn.cells ledger ≡ true → is_copy_late txn parts ledger ≡ true
  met_late h =
      after_lack (or_right (lack_sources txn.shown.reached parts) (is_met txn.set txn.job txn.cells ledger || not (is_change txn.job || is_heal txn.job))
      (or_left (is_met txn.set txn.job txn.cells ledger) (not (is_change txn.job || is_heal txn.job)) h))

  pub other_late : is_change txn.job ≡ false → is_heal txn.job ≡ false → is_copy_late txn parts ledger ≡ true
  other_late c h =
      after_lack (or_right (lack_sources txn.shown.reached parts) (is_met txn.set txn.job txn.cells ledger || not (is_change txn.job || is_heal txn.job))
      (or_right (is_met txn.set txn.job txn.cells ledger) (not (is_change txn.job || is_heal txn.job)) (ap not (or_from (is_change txn.job) (is_heal txn.job) c h))))

  -- a part of which no source is used any more
  pub part_late : (part : Part) → (is_none (lowest (both part.sources txn.shown.reached)) ≡ true → lack_sources txn.shown.reached parts ≡ true) → has_source txn part ≡ false → is_copy_late txn parts ledger ≡ true
  part_late part lack none = by (is_none (lowest (both part.sources txn.shown.reached))) refl where
    by : (b : Bool) → is_none (lowest (both part.sources txn.shown.reached)) ≡ b → is_copy_late txn parts ledger ≡ true
    by true e = after_lack (or_left (lack_sources txn.shown.reached parts) (is_met txn.set txn.job txn.cells ledger || not (is_change txn.job || is_heal txn.job)) (lack e))
    by false e =
        or_left (is_one_out txn.shown.reached (alive txn)) (is_some txn.settles || (lack_sources txn.shown.reached parts || (is_met txn.set txn.job txn.cells ledger || not (is_change txn.job || is_heal txn.job))))
        (part_loses part.sources txn.shown.reached (alive txn) e none)

-- who went out during a copy pays for the job that begins again
pub noted_late : (txn : Txn) (done : CopyDone) (parts : List Part) (ledger : State Cell) → occasions (copy_noted txn done) ledger + bit (is_copy_late (copy_noted txn done) parts ledger) ≤ occasions txn ledger + bit (is_copy_late txn parts ledger)
noted_late txn done parts ledger =
    cond_both (is_heal txn.job) _ _ (λ (a : Txn). occasions a ledger + bit (is_copy_late a parts ledger) ≤ occasions txn ledger + bit (is_copy_late txn parts ledger)) (λ e. less) (λ e. less)
  where
    less : occasions (record txn { outs = with_outs txn.size.n txn.outs done.outs }) ledger + bit (is_copy_late (record txn { outs = with_outs txn.size.n txn.outs done.outs }) parts ledger) ≤ occasions txn ledger + bit (is_copy_late txn parts ledger)
    less =
        beside (unsettled_on txn.set (job_cells txn.job) ledger.unsettled) (how_many (used (with_outs txn.size.n txn.outs done.outs) txn.size.n))
        (bit (is_copy_late (record txn { outs = with_outs txn.size.n txn.outs done.outs }) parts ledger)) (how_many (alive txn)) (bit (is_copy_late txn parts ledger)) (occasions txn ledger + bit (is_copy_late txn parts ledger))
        (out_pays txn.shown.reached (alive txn) (used (with_outs txn.size.n txn.outs done.outs) txn.size.n)
        (is_some txn.settles || (lack_sources txn.shown.reached parts || (is_met txn.set txn.job txn.cells ledger || not (is_change txn.job || is_heal txn.job)))) (outs_since txn.size.n txn.outs done.outs))
        (same (occasions txn ledger + bit (is_copy_late txn parts ledger)))

module _ (txn : Txn) (done : CopyDone) (sinks : List Bool) where
  -- who is used after the copy
  abbrev After : List Bool
  After = used (with_outs txn.size.n txn.outs done.outs) txn.size.n

  went_out : length txn.outs.at ≡ 5 → HasWentOut (alive txn) done.outs → how_many After < how_many (alive txn)
  went_out five w =
      let low : w.replica < 5 = below_five (λ j. nat_lt j txn.size.n && not (is_out txn.outs j)) w.replica w.was_used in
      let p = and_parts (nat_lt w.replica txn.size.n) (not (is_out txn.outs w.replica)) (flags_at (λ j. nat_lt j txn.size.n && not (is_out txn.outs j)) w.replica w.was_used) in
      one_less After (alive txn) w.replica low w.was_used (off_after txn.size.n txn.outs done.outs w.replica low five p.0 w.out) (outs_since txn.size.n txn.outs done.outs)

  named_not : (b : Bool) → not b ≡ true → b ≡ false
  named_not true e = absurd (true≢false (sym e))
  named_not false e = refl

  sink_left : LeavesForLoss sinks txn done → is_some (lowest (but_for (both sinks After) (flags_of done.current))) ≡ true → HasWentOut (alive txn) done.outs
  sink_left loss left =
      let k = some_there (but_for (both sinks After) (flags_of done.current)) left in
      let p = and_parts (flag (both sinks After) k.0) (not (flag (flags_of done.current) k.0)) (flags_at (λ j. flag (both sinks After) j && not (flag (flags_of done.current) j)) k.0 k.1.0) in
      loss k.0 (both_left sinks After k.0 p.0) (both_right sinks After k.0 p.0) (sym (flag_by (names done.current) k.0 k.1.1) ∙ named_not (flag (flags_of done.current) k.0) p.1)

  is_left_after : is_left (copy_noted txn done) sinks done.current ≡ true → is_some (lowest (but_for (both sinks After) (flags_of done.current))) ≡ true
  is_left_after = cond_both (is_heal txn.job) _ _ (λ (a : Txn). is_left a sinks done.current ≡ true → is_some (lowest (but_for (both sinks After) (flags_of done.current))) ≡ true) (λ e h. h) (λ e h. h)

  pub noted_loss : (ledger : State Cell) (d : ℕ) → length txn.outs.at ≡ 5 → LeavesForLoss sinks txn done → is_left (copy_noted txn done) sinks done.current ≡ true → occasions (copy_noted txn done) ledger + 1 ≤ occasions txn ledger + d
  noted_loss ledger d five loss left =
      cond_both (is_heal txn.job) _ _ (λ (a : Txn). occasions a ledger + 1 ≤ occasions txn ledger + d) (λ e. less) (λ e. less)
    where
      less : unsettled_on txn.set (job_cells txn.job) ledger.unsettled + how_many After + 1 ≤ occasions txn ledger + d
      less = one_fewer (unsettled_on txn.set (job_cells txn.job) ledger.unsettled) (how_many After) (how_many (alive txn)) d (went_out five (sink_left loss (is_left_after left)))

-- ---- kinds of jobs

pub changes_copy : (j : Job) → kind_of j ≡ kind.Change → (is_change j || is_heal j) ≡ true
changes_copy (job.Read cells fd dir) h = absurd cc
changes_copy (job.Change cells fd op effect) h = refl
changes_copy (job.Birth cells op) h = absurd cc
changes_copy (job.Open fd gfid) h = absurd cc
changes_copy job.Index h = absurd cc
changes_copy (job.Heal cell) h = absurd cc

pub heals_copy : (j : Job) → kind_of j ≡ kind.Heal → (is_change j || is_heal j) ≡ true
heals_copy (job.Read cells fd dir) h = absurd cc
heals_copy (job.Change cells fd op effect) h = absurd cc
heals_copy (job.Birth cells op) h = absurd cc
heals_copy (job.Open fd gfid) h = absurd cc
heals_copy job.Index h = absurd cc
heals_copy (job.Heal cell) h = refl

pub births_have : (j : Job) → kind_of j ≡ kind.Birth → birth_op j ≡ None → ⊥
births_have (job.Read cells fd dir) h none = absurd cc
births_have (job.Change cells fd op effect) h none = absurd cc
births_have (job.Birth cells op) h none = absurd cc
births_have (job.Open fd gfid) h none = absurd cc
births_have job.Index h none = absurd cc
births_have (job.Heal cell) h none = absurd cc

pub opens_take_none : (j : Job) (fd : ℕ) (gfid : Gfid) → kind_of j ≡ kind.Open fd gfid → TakesLocks j → ⊥
opens_take_none (job.Read cells fd dir) f g h takes = absurd cc
opens_take_none (job.Change cells fd op effect) f g h takes = absurd cc
opens_take_none (job.Birth cells op) f g h takes = absurd cc
opens_take_none (job.Open fd gfid) f g h takes = takes
opens_take_none job.Index f g h takes = takes
opens_take_none (job.Heal cell) f g h takes = absurd cc

pub indexes_take_none : (j : Job) → kind_of j ≡ kind.Index → TakesLocks j → ⊥
indexes_take_none (job.Read cells fd dir) h takes = absurd cc
indexes_take_none (job.Change cells fd op effect) h takes = absurd cc
indexes_take_none (job.Birth cells op) h takes = absurd cc
indexes_take_none (job.Open fd gfid) h takes = takes
indexes_take_none job.Index h takes = takes
indexes_take_none (job.Heal cell) h takes = absurd cc
