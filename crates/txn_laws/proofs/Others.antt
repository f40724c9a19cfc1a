-- What others do to the ledger between two turns of a job, and what a job begins with.
use Rattle.std.proofs.Common.{◌≡◌, ℕ, zero, suc, ◌+◌, ◌≤◌, Bool, true, false, ◌&&◌, ◌||◌, not, nat_le, List, Option, Some, None, is_some, is_none, refl, sym, arith}
use Rattle.std.proofs.lemmas.Bool.{and_from, and_parts, cond_both, le-leb, leb-true, true≢false}
use Rattle.fop_types.specs.Orders.{cell_cmp}
use Rattle.fop_types.specs.declared.cells.Cell.{Cell}
use Rattle.fop_types.specs.declared.contents.Mask.{Mask}
use Rattle.afr_ledger.specs.Changes.{numbered, touching, with_change, without}
use Rattle.afr_ledger.specs.Ledger.{State, with_number, with_begun, decided}
use Rattle.afr_ledger.specs.declared.unsettled.Unsettled.{Unsettled}
use Rattle.afr_phases.specs.Flags.{bit, lowest}
use Rattle.afr_phases.specs.Outs.{is_short, no_outs, used}
use Rattle.afr_transaction.specs.declared.jobs.Kind.{Kind}
use Rattle.afr_transaction.specs.declared.jobs.Kind.TheVariants as kind
use Rattle.afr_transaction.specs.declared.need.Need.{Need}
use Rattle.afr_transaction.specs.declared.phase.Phase.{Phase}
use Rattle.afr_transaction.specs.declared.phase.Phase.TheVariants as phase
use Rattle.afr_transaction.specs.declared.phase.Then.TheVariants as next
use Rattle.afr_transaction.specs.declared.txn.Txn.{Txn}
use Rattle.afr_transaction.specs.Begins.{fresh, started_by}
use Rattle.afr_transaction.specs.Changes.{is_drawn}
use Rattle.afr_transaction.specs.Copied.{is_change}
use Rattle.afr_transaction.specs.Jobs.{kind_of, change_op}
use Rattle.afr_transaction.specs.Locked.{job_cells, settles_first}
use Rattle.afr_transaction.specs.Polls.{polled, open_ended}
use Rattle.afr_transaction.specs.Txns.{alive, is_heal}
use Rattle.txn_laws.specs.Work.{how_many}
use Rattle.txn_laws.specs.Rounds.{unsettled_on, is_unsettled_on, occasions, is_met, is_one_out, lack_sources, is_lock_late, is_read_late, is_copy_late, is_mark_late, is_settle_late, rounds_in, rounds, BeginsHaveFewRounds, DrawsRaiseNothing, DecisionsRaiseNothing, BeginsRaiseByTwo}
use Rattle.txn_laws.proofs.Counts.{bit_less, bit_most, few_flags}
use Rattle.txn_laws.proofs.Paying.{again_rounds, moved, same}
use Rattle.txn_laws.proofs.Unsettled.{decided_pays, fewer_without, numbered_less, one_more, touch_less}

pub both_less : (u v a d e : ℕ) → u ≤ v → d ≤ e → u + a + d ≤ v + a + e
both_less u v a d e h k = omega arith

two_more : (u v a : ℕ) (b c : Bool) → u ≤ v + 1 → u + a + bit b ≤ v + a + bit c + 2
two_more u v a b c h = omega (arith, bit_most b)

-- ---- a number that is drawn

drawn_more : (t d e n c : Bool) → (d ≡ true → e ≡ true) → bit (not (t && (e && n)) || c) ≤ bit (not (t && (d && n)) || c)
drawn_more false d e n c h = omega arith
drawn_more true false e n c h = omega (arith, bit_most (not (e && n) || c))
drawn_more true true true n c h = omega arith
drawn_more true true false n c h = absurd (true≢false (sym (h refl)))

was_drawn : (number : ℕ) (ledger : State Cell) → is_drawn number ledger ≡ true → is_drawn number (with_number ledger) ≡ true
was_drawn number ledger h =
    let p = and_parts (nat_le 1 number) (nat_le number ledger.drawn) h in
    let few : number ≤ ledger.drawn = leb-true number ledger.drawn p.1 in
    and_from (nat_le 1 number) (nat_le number (ledger.drawn + 1)) p.0 (le-leb number (ledger.drawn + 1) (omega arith))

draw_in : (p : Phase) (txn : Txn) (ledger : State Cell) → rounds_in p txn (with_number ledger) ≤ rounds_in p txn ledger
draw_in (phase.Locking at) txn ledger = by txn.settles where
  by : (o : Option ℕ) → occasions txn ledger + bit (is_lock_late o txn.set txn.job txn.cells (with_number ledger)) ≤ occasions txn ledger + bit (is_lock_late o txn.set txn.job txn.cells ledger)
  by None = same (occasions txn ledger + bit (is_lock_late None txn.set txn.job txn.cells ledger))
  by (Some change) = same (occasions txn ledger + bit (is_lock_late (Some change) txn.set txn.job txn.cells ledger))
draw_in (phase.Unlocking (next.Answer r)) txn ledger = omega arith
draw_in (phase.Unlocking next.Again) txn ledger = same (occasions txn ledger + 1)
draw_in (phase.Fetching place from contents) txn ledger = same (occasions txn ledger + bit (is_read_late txn))
draw_in (phase.Copying sinks rest) txn ledger = same (occasions txn ledger + bit (is_copy_late txn rest ledger))
draw_in (phase.Marking change) txn ledger =
    both_less (unsettled_on txn.set (job_cells txn.job) ledger.unsettled) (unsettled_on txn.set (job_cells txn.job) ledger.unsettled) (how_many (alive txn)) (bit (is_mark_late txn change (with_number ledger))) (bit (is_mark_late txn change ledger))
    (same (unsettled_on txn.set (job_cells txn.job) ledger.unsettled))
    (drawn_more (is_none (touching cell_cmp txn.set txn.cells ledger.unsettled)) (is_drawn change ledger) (is_drawn change (with_number ledger)) (is_none (numbered change ledger.unsettled)) (is_none (change_op txn.job)) (was_drawn change ledger))
draw_in (phase.Writing change) txn ledger = omega arith
draw_in (phase.Posting change adopted) txn ledger = omega arith
draw_in (phase.Settling verdict) txn ledger = same (occasions txn ledger + bit (is_settle_late txn verdict ledger))
draw_in phase.Bearing txn ledger = omega arith
draw_in phase.Opening txn ledger = omega arith
draw_in (phase.Listing all) txn ledger = omega arith
draw_in phase.Over txn ledger = omega arith

pub draws_raise_nothing : DrawsRaiseNothing
draws_raise_nothing txn ledger = draw_in txn.phase txn ledger

-- ---- a change that is decided

pub none_less : {A B : Type 0} (o : Option A) (p : Option B) → (is_some p ≡ true → is_some o ≡ true) → is_none o ≡ true → is_none p ≡ true
none_less None None h e = refl
none_less None (Some y) h e = absurd (true≢false (sym (h refl)))
none_less (Some x) p h e = absurd (true≢false (sym e))

pub met_less : (a b c m n e : Bool) → (n ≡ true → m ≡ true) → bit (a || (b || (c || (n || e)))) ≤ bit (a || (b || (c || (m || e))))
met_less true b c m n e h = omega arith
met_less false true c m n e h = omega arith
met_less false false true m n e h = omega arith
met_less false false false true n e h = omega (arith, bit_most (n || e))
met_less false false false false true e h = absurd (true≢false (sym (h refl)))
met_less false false false false false e h = omega arith

pub begin_more : (t u d n m c : Bool) → (t ≡ true → u ≡ true) → (n ≡ true → m ≡ true) → bit (not (u && (d && m)) || c) ≤ bit (not (t && (d && n)) || c)
begin_more false u d n m c h k = omega (arith, bit_most (not (u && (d && m)) || c))
begin_more true false d n m c h k = absurd (true≢false (sym (h refl)))
begin_more true true false n m c h k = omega arith
begin_more true true true false m c h k = omega (arith, bit_most (not m || c))
begin_more true true true true false c h k = absurd (true≢false (sym (k refl)))
begin_more true true true true true c h k = omega arith

settle_less : (u v : ℕ) (b w x : Bool) → u ≤ v → u + bit (not w) ≤ v + bit (not x) → u + bit (b || not w) ≤ v + bit (b || not x)
settle_less u v true w x h k = omega arith
settle_less u v false w x h k = k

module _ (txn : Txn) (ledger : State Cell) (n : ℕ) (adopted : Bool) where
  fewer_left : unsettled_on txn.set (job_cells txn.job) (without n ledger.unsettled) ≤ unsettled_on txn.set (job_cells txn.job) ledger.unsettled
  fewer_left = fewer_without txn.set (job_cells txn.job) n ledger.unsettled

  met_before : is_met txn.set txn.job txn.cells (decided ledger n adopted) ≡ true → is_met txn.set txn.job txn.cells ledger ≡ true
  met_before h =
      let p = and_parts (settles_first txn.job) (is_some (touching cell_cmp txn.set txn.cells (without n ledger.unsettled))) h in
      and_from (settles_first txn.job) (is_some (touching cell_cmp txn.set txn.cells ledger.unsettled)) p.0 (touch_less txn.set txn.cells n ledger.unsettled p.1)

  -- with what is counted beside the changes
  beside_fewer : (d e : ℕ) → d ≤ e → unsettled_on txn.set (job_cells txn.job) (without n ledger.unsettled) + how_many (alive txn) + d ≤ unsettled_on txn.set (job_cells txn.job) ledger.unsettled + how_many (alive txn) + e
  beside_fewer d e h = both_less (unsettled_on txn.set (job_cells txn.job) (without n ledger.unsettled)) (unsettled_on txn.set (job_cells txn.job) ledger.unsettled) (how_many (alive txn)) d e fewer_left h

  lock_decided : (o : Option ℕ) → occasions txn (decided ledger n adopted) + bit (is_lock_late o txn.set txn.job txn.cells (decided ledger n adopted)) ≤ occasions txn ledger + bit (is_lock_late o txn.set txn.job txn.cells ledger)
  lock_decided None =
      beside_fewer (bit (is_met txn.set txn.job txn.cells (decided ledger n adopted))) (bit (is_met txn.set txn.job txn.cells ledger)) (bit_less (is_met txn.set txn.job txn.cells (decided ledger n adopted)) (is_met txn.set txn.job txn.cells ledger) met_before)
  lock_decided (Some change) =
      moved (unsettled_on txn.set (job_cells txn.job) (without n ledger.unsettled)) (unsettled_on txn.set (job_cells txn.job) ledger.unsettled) (how_many (alive txn)) (how_many (alive txn))
      (bit (not (is_unsettled_on txn.set (job_cells txn.job) change (without n ledger.unsettled)))) (bit (not (is_unsettled_on txn.set (job_cells txn.job) change ledger.unsettled))) (same (how_many (alive txn)))
      (decided_pays txn.set (job_cells txn.job) n change ledger.unsettled)

  decide_in : (p : Phase) → rounds_in p txn (decided ledger n adopted) ≤ rounds_in p txn ledger
  decide_in (phase.Locking at) = lock_decided txn.settles
  decide_in (phase.Unlocking (next.Answer r)) = omega arith
  decide_in (phase.Unlocking next.Again) = beside_fewer 1 1 (omega arith)
  decide_in (phase.Fetching place from contents) = beside_fewer (bit (is_read_late txn)) (bit (is_read_late txn)) (same (bit (is_read_late txn)))
  decide_in (phase.Copying sinks rest) =
      beside_fewer (bit (is_copy_late txn rest (decided ledger n adopted))) (bit (is_copy_late txn rest ledger))
      (met_less (is_one_out txn.shown.reached (alive txn)) (is_some txn.settles) (lack_sources txn.shown.reached rest) (is_met txn.set txn.job txn.cells ledger) (is_met txn.set txn.job txn.cells (decided ledger n adopted)) (not (is_change txn.job || is_heal txn.job)) met_before)
  decide_in (phase.Marking change) =
      beside_fewer (bit (is_mark_late txn change (decided ledger n adopted))) (bit (is_mark_late txn change ledger))
      (begin_more (is_none (touching cell_cmp txn.set txn.cells ledger.unsettled)) (is_none (touching cell_cmp txn.set txn.cells (without n ledger.unsettled))) (is_drawn change ledger)
      (is_none (numbered change ledger.unsettled)) (is_none (numbered change (without n ledger.unsettled))) (is_none (change_op txn.job))
      (none_less (touching cell_cmp txn.set txn.cells ledger.unsettled) (touching cell_cmp txn.set txn.cells (without n ledger.unsettled)) (touch_less txn.set txn.cells n ledger.unsettled))
      (none_less (numbered change ledger.unsettled) (numbered change (without n ledger.unsettled)) (numbered_less n change ledger.unsettled)))
  decide_in (phase.Writing change) = omega arith
  decide_in (phase.Posting change adopts) = omega arith
  decide_in (phase.Settling verdict) =
      moved (unsettled_on txn.set (job_cells txn.job) (without n ledger.unsettled)) (unsettled_on txn.set (job_cells txn.job) ledger.unsettled) (how_many (alive txn)) (how_many (alive txn))
      (bit (is_settle_late txn verdict (decided ledger n adopted))) (bit (is_settle_late txn verdict ledger)) (same (how_many (alive txn)))
      (settle_less (unsettled_on txn.set (job_cells txn.job) (without n ledger.unsettled)) (unsettled_on txn.set (job_cells txn.job) ledger.unsettled) verdict.decided
      (is_unsettled_on txn.set (job_cells txn.job) verdict.change (without n ledger.unsettled)) (is_unsettled_on txn.set (job_cells txn.job) verdict.change ledger.unsettled) fewer_left
      (decided_pays txn.set (job_cells txn.job) n verdict.change ledger.unsettled))
  decide_in phase.Bearing = omega arith
  decide_in phase.Opening = omega arith
  decide_in (phase.Listing all) = omega arith
  decide_in phase.Over = omega arith

pub decisions_raise_nothing : DecisionsRaiseNothing
decisions_raise_nothing txn ledger n adopted = decide_in txn ledger n adopted txn.phase

-- ---- a change that becomes unsettled

module _ (txn : Txn) (ledger : State Cell) (u : Unsettled Cell) where
  two : (b c : Bool) → occasions txn (with_begun ledger u) + bit b ≤ occasions txn ledger + bit c + 2
  two b c = two_more (unsettled_on txn.set (job_cells txn.job) (with_change ledger.unsettled u)) (unsettled_on txn.set (job_cells txn.job) ledger.unsettled) (how_many (alive txn)) b c (one_more txn.set (job_cells txn.job) u.change u ledger.unsettled)

  begin_in : (p : Phase) → rounds_in p txn (with_begun ledger u) ≤ rounds_in p txn ledger + 2
  begin_in (phase.Locking at) = two (is_lock_late txn.settles txn.set txn.job txn.cells (with_begun ledger u)) (is_lock_late txn.settles txn.set txn.job txn.cells ledger)
  begin_in (phase.Unlocking (next.Answer r)) = omega arith
  begin_in (phase.Unlocking next.Again) = two true true
  begin_in (phase.Fetching place from contents) = two (is_read_late txn) (is_read_late txn)
  begin_in (phase.Copying sinks rest) = two (is_copy_late txn rest (with_begun ledger u)) (is_copy_late txn rest ledger)
  begin_in (phase.Marking change) = two (is_mark_late txn change (with_begun ledger u)) (is_mark_late txn change ledger)
  begin_in (phase.Writing change) = omega arith
  begin_in (phase.Posting change adopts) = omega arith
  begin_in (phase.Settling verdict) = two (is_settle_late txn verdict (with_begun ledger u)) (is_settle_late txn verdict ledger)
  begin_in phase.Bearing = omega arith
  begin_in phase.Opening = omega arith
  begin_in (phase.Listing all) = omega arith
  begin_in phase.Over = omega arith

pub begins_raise_by_two : BeginsRaiseByTwo
begins_raise_by_two txn ledger u = begin_in txn ledger u txn.phase

-- ---- a job that begins

fresh_few : (n : ℕ) → how_many (used no_outs n) ≤ n
unfolding how_many
fresh_few zero = omega arith
fresh_few (suc zero) = omega arith
fresh_few (suc (suc zero)) = omega arith
fresh_few (suc (suc (suc zero))) = omega arith
fresh_few (suc (suc (suc (suc zero)))) = omega arith
fresh_few (suc (suc (suc (suc (suc n))))) = omega (arith, few_flags (used no_outs (suc (suc (suc (suc (suc n)))))))

module _ (txn : Txn) (ledger : State Cell) (live : Mask) (last : List ℕ) where
  open_none : (after : Txn) (m : ℕ) → rounds (open_ended after).0 ledger ≤ m
  open_none after m = cond_both (is_short after.outs after.size.n after.size.q) _ _ (λ (t : Txn × Need). rounds t.0 ledger ≤ m) (λ e. omega arith) (λ e. omega arith)

  begun_by : (k : Kind) → rounds (started_by k txn ledger live last).0 ledger ≤ occasions txn ledger
  begun_by kind.Read = again_rounds txn ledger live last
  begun_by kind.Change = again_rounds txn ledger live last
  begun_by kind.Birth = again_rounds txn ledger live last
  begun_by kind.Heal = again_rounds txn ledger live last
  begun_by (kind.Open fd gfid) =
      cond_both (is_none (lowest (alive (polled txn live last)))) _ _ (λ (t : Txn × Need). rounds t.0 ledger ≤ occasions txn ledger) (λ e. open_none (polled txn live last) (occasions txn ledger)) (λ e. omega arith)
  begun_by kind.Index =
      cond_both (is_none (lowest (alive (polled txn live last)))) _ _ (λ (t : Txn × Need). rounds t.0 ledger ≤ occasions txn ledger) (λ e. omega arith) (λ e. omega arith)

few_at_first : (u a n r : ℕ) → a ≤ n → r ≤ u + a → r ≤ u + n
few_at_first u a n r h k = omega arith

pub begins_have_few : BeginsHaveFewRounds
begins_have_few size set call j ledger live last =
    few_at_first (unsettled_on set.number (job_cells j) ledger.unsettled) (how_many (used no_outs size.n)) size.n _ (fresh_few size.n) (begun_by (fresh size set call j) ledger live last (kind_of j))
