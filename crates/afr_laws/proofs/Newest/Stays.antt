-- Steps at which no number is drawn and no change becomes unsettled.
use Rattle.std.proofs.Common.{◌≡◌, ◌∙◌, ℕ, ◌≤◌, Bool, true, false, refl, sym, ap, subst, arith, Option, Some, None}
use Rattle.std.specs.Prelude.{if◌then◌else◌, List, [], ◌∷◌}
use Rattle.fop_types.specs.declared.jobs.Job.{Job}
use Rattle.fop_types.specs.declared.jobs.Job.TheVariants as job
use Rattle.afr_machine.specs.Replicas.{Size, with_at}
use Rattle.afr_machine.specs.Touching.{share}
use Rattle.afr_machine.specs.Requests.{Sender, Ask, Answer, Output}
use Rattle.afr_machine.specs.Requests.Output.{Answered, Closed, Opened, Connected}
use Rattle.afr_machine.specs.Changes.{Change, Verdict, is_unsettled}
use Rattle.afr_machine.specs.Changes.Verdict.{Adopted, Dropped}
use Rattle.afr_machine.specs.Transactions.{Stage, Txn, Work, is_over}
use Rattle.afr_machine.specs.Transactions.Stage.{Over, Locking, Applying, Copying}
use Rattle.afr_machine.specs.Transactions.Work.{Own, Settles}
use Rattle.afr_machine.specs.States.{State, is_current}
use Rattle.afr_machine.specs.Answering.{forgetting, replied, taken_in}
use Rattle.afr_machine.specs.Turns.{Turn, after_turn, locking_for, skipping, posting, settling, bearing, clearing}
use Rattle.afr_machine.specs.Steps.{take_in_front, deciding, decided}
use Rattle.afr_laws.specs.Txns.{Goes}
use Rattle.afr_laws.specs.OwnChanges.{was_unsettled}
use Rattle.afr_laws.specs.Newest.{NumbersRise}
use Rattle.afr_laws.proofs.Carry.{at_case}
use Rattle.afr_laws.proofs.Heard.{replied_txns}
use Rattle.afr_laws.proofs.OwnChanges.Replies.{SameTable, replied_table, heard_task}

-- ---- what stays

-- no further change became unsettled, or is unsettled
pub record TableStays (old new : ℕ → Change) : Type 0 where
  pub cells : (u : ℕ) → (new u).cells ≡ (old u).cells
  pub sent : (u : ℕ) → was_unsettled (new u).verdict ≡ true → was_unsettled (old u).verdict ≡ true
  pub unsettled : (u : ℕ) → is_unsettled (new u).verdict ≡ true → is_unsettled (old u).verdict ≡ true

pub table_stays : (old : ℕ → Change) → TableStays old old
table_stays old = record { cells = λ u. refl; sent = λ u h. h; unsettled = λ u h. h }

same_stays : (old new : ℕ → Change) → SameTable old new → TableStays old new
same_stays old new s = record { cells = λ u. (s u).cells; sent = λ u h. sym (ap was_unsettled (s u).verdict) ∙ h; unsettled = λ u h. sym (ap is_unsettled (s u).verdict) ∙ h }

-- who has a number has the one that it had
abbrev pub OwnsStay : (ℕ → Txn) → (ℕ → Txn) → Type 0
OwnsStay old new = (t : ℕ) → 1 ≤ (new t).own → (new t).own ≡ (old t).own

over_is : (stage : Stage) → is_over stage ≡ true → stage ≡ Over
over_is Over h = refl
over_is other h = absurd cc

pub runs_still : (x y : Txn) → Goes x y → is_over y.stage ≡ false → is_over x.stage ≡ false
runs_still x y g h = by_case (is_over x.stage) refl where
  by_case : (b : Bool) → is_over x.stage ≡ b → b ≡ false
  by_case false e = refl
  by_case true e = absurd (let no : true ≡ false = sym (ap is_over (g.over (over_is x.stage e))) ∙ h in cc)

pub stays_rise : (m new : State) → TableStays m.changes new.changes → OwnsStay m.txns new.txns → ((t : ℕ) → 1 ≤ (new.txns t).own → is_over (new.txns t).stage ≡ false → is_over (m.txns t).stage ≡ false) → NumbersRise m → NumbersRise new
stays_rise m new table owns over r = record {
  own = λ t v one runs sent shares.
      let o = owns t one in
      subst (λ n. v ≤ n) (sym o)
      (r.own t v (subst (λ n. 1 ≤ n) o one) (over t one runs) (table.sent v sent)
      (subst (λ cs. share cs (m.changes (m.txns t).own).cells ≡ true) (table.cells v)
      (subst (λ cs. share (new.changes v).cells cs ≡ true) (table.cells (m.txns t).own)
      (subst (λ n. share (new.changes v).cells (new.changes n).cells ≡ true) o shares))));
  unsettled = λ u v is sent shares.
      r.unsettled u v (table.unsettled u is) (table.sent v sent)
      (subst (λ cs. share cs (m.changes u).cells ≡ true) (table.cells v) (subst (λ cs. share (new.changes v).cells cs ≡ true) (table.cells u) shares));
}

-- ---- replies and connections

module _ (m : State) where
  replied_stays : (k : ℕ) (by : Sender) (ask : Ask) (answer : Answer) → OwnsStay m.txns (replied m k by ask answer).txns
  replied_stays k by ask answer i one =
      let p = replied_txns m k by ask answer in
      let g = (heard_task (m.txns by.txn) p.after k by.connection ask answer p.heard).0 in
      ap (λ (f : ℕ → Txn). (f i).own) p.is ∙ at_case (λ n (y : Txn). y.own ≡ (m.txns n).own) m.txns by.txn p.after g.own.own i (λ ne. refl)

  forgotten_stays : (ends : ℕ → Bool) (k i : ℕ) → (forgetting ends k (m.txns i)).own ≡ (m.txns i).own
  forgotten_stays ends k i = by_case (ends (m.txns i).graph) where
    by_case : (b : Bool) → (if b then record (m.txns i) { flying = with_at (m.txns i).flying k [] } else m.txns i).own ≡ (m.txns i).own
    by_case true = refl
    by_case false = refl

  taken_stays : (k : ℕ) (o : Output) → TableStays m.changes (taken_in m k o).changes × OwnsStay m.txns (taken_in m k o).txns
  taken_stays k (Answered by ask answer) = by_case (is_current (m.links k by.graph) by.connection) where
    by_case : (b : Bool) → TableStays m.changes (if b then replied m k by ask answer else m).changes × OwnsStay m.txns (if b then replied m k by ask answer else m).txns
    by_case true = (same_stays m.changes _ (replied_table m k by ask answer), replied_stays k by ask answer)
    by_case false = (table_stays m.changes, λ i one. refl)
  taken_stays k Closed = (table_stays m.changes, λ i one. forgotten_stays (λ g. true) k i)
  taken_stays k Opened = (table_stays m.changes, λ i one. refl)
  taken_stays k (Connected graph) = (table_stays m.changes, λ i one. refl)

  pub front_stays : (k : ℕ) (os : List Output) → TableStays m.changes (take_in_front m k os).changes × OwnsStay m.txns (take_in_front m k os).txns
  front_stays k [] = (table_stays m.changes, λ i one. refl)
  front_stays k (o ∷ os) = taken_stays k o

  pub cut_stays : (ends : ℕ → Bool) (k : ℕ) → OwnsStay m.txns (λ t. forgetting ends k (m.txns t))
  cut_stays ends k i one = forgotten_stays ends k i

  -- ---- decisions

  decides_stays : (u : ℕ) (verdict : Verdict) → is_unsettled (m.changes u).verdict ≡ true → is_unsettled verdict ≡ false → TableStays m.changes (with_at m.changes u (record (m.changes u) { verdict = verdict }))
  decides_stays u verdict is over = record {
    cells = λ v. at_case (λ n (c : Change). c.cells ≡ (m.changes n).cells) m.changes u _ refl v (λ ne. refl);
    sent = λ v. at_case (λ n (c : Change). was_unsettled c.verdict ≡ true → was_unsettled (m.changes n).verdict ≡ true) m.changes u _ (λ h. sent_is (m.changes u).verdict is) v (λ ne h. h);
    unsettled = λ v. at_case (λ n (c : Change). is_unsettled c.verdict ≡ true → is_unsettled (m.changes n).verdict ≡ true) m.changes u _ (λ h. is) v (λ ne h. h);
  }
    where
      sent_is : (v : Verdict) → is_unsettled v ≡ true → was_unsettled v ≡ true
      sent_is Verdict.Unsettled h = refl
      sent_is other h = absurd cc

  pub decided_stays : (o : Option (ℕ × Bool)) → TableStays m.changes (decided m o).changes
  decided_stays None = table_stays m.changes
  decided_stays (Some o) = by_case o.1 (is_unsettled (m.changes o.0).verdict) refl where
    by_case : (adopts first : Bool) → is_unsettled (m.changes o.0).verdict ≡ first → TableStays m.changes (deciding m o.0 adopts first).changes
    by_case adopts false is = table_stays m.changes
    by_case true true is = decides_stays o.0 Adopted is refl
    by_case false true is = decides_stays o.0 Dropped is refl

-- ---- turns

abbrev pub is_marking : Turn → Bool
is_marking Turn.Marks = true
is_marking other = false

module _ (size : Size) (m : State) (t : ℕ) where
  pub turn_changes : (turn : Turn) → is_marking turn ≡ false → (after_turn size m t turn).changes ≡ m.changes
  turn_changes Turn.Marks b = absurd cc
  turn_changes Turn.Posts b = posted (m.txns t).stage where
    posted : (stage : Stage) → (posting size m t stage).changes ≡ m.changes
    posted (Applying u) = refl
    posted other = refl
  turn_changes (Turn.SettlesAs group adopts) b = settled (m.txns t).work where
    settled : (work : Work) → (settling size m t work group adopts).changes ≡ m.changes
    settled Own = refl
    settled (Settles u) = refl
  turn_changes Turn.Bears b = born (m.txns t).job where
    born : (j : Job) → (bearing m t j).changes ≡ m.changes
    born (job.Birth cells op) = refl
    born other = refl
  turn_changes Turn.Clears b = cleared (m.txns t).stage where
    cleared : (stage : Stage) → (clearing m t stage).changes ≡ m.changes
    cleared (Copying run) = refl
    cleared other = refl
  turn_changes other b = refl

  others_stay : (y : Txn) → (1 ≤ y.own → y.own ≡ (m.txns t).own) → OwnsStay m.txns (with_at m.txns t y)
  others_stay y own i = at_case (λ n (z : Txn). 1 ≤ z.own → z.own ≡ (m.txns n).own) m.txns t y own i (λ ne one. refl)

  pub turn_owns : (turn : Turn) → is_marking turn ≡ false → OwnsStay m.txns (after_turn size m t turn).txns
  turn_owns (Turn.Begins graph own) b = others_stay _ (λ one. absurd (omega (arith, one)))
  turn_owns (Turn.LocksFor work) b = others_stay _ (λ one. locks work) where
    locks : (work : Work) → (locking_for m (m.txns t) work).own ≡ (m.txns t).own
    locks Own = refl
    locks (Settles u) = refl
  turn_owns Turn.Skips b = others_stay _ (λ one. skips (m.txns t).stage) where
    skips : (stage : Stage) → (skipping (m.txns t) stage).own ≡ (m.txns t).own
    skips (Locking cells shared next) = refl
    skips other = refl
  turn_owns Turn.Marks b = absurd cc
  turn_owns Turn.Posts b = posted (m.txns t).stage where
    posted : (stage : Stage) → OwnsStay m.txns (posting size m t stage).txns
    posted (Applying u) = others_stay _ (λ one. refl)
    posted other = λ i one. refl
  turn_owns (Turn.SettlesAs group adopts) b = settled (m.txns t).work where
    settled : (work : Work) → OwnsStay m.txns (settling size m t work group adopts).txns
    settled Own = λ i one. refl
    settled (Settles u) = others_stay _ (λ one. refl)
  turn_owns Turn.Bears b = born (m.txns t).job where
    born : (j : Job) → OwnsStay m.txns (bearing m t j).txns
    born (job.Birth cells op) = others_stay _ (λ one. refl)
    born other = λ i one. refl
  turn_owns Turn.Clears b = cleared (m.txns t).stage where
    cleared : (stage : Stage) → OwnsStay m.txns (clearing m t stage).txns
    cleared (Copying run) = others_stay _ (λ one. refl)
    cleared other = λ i one. refl
  turn_owns Turn.Confirms b = λ i one. refl
  turn_owns other b = others_stay _ (λ one. refl)
