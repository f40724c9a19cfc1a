-- A number that is drawn is greater than that of any change that became unsettled.
use Rattle.std.proofs.Common.{◌≡◌, ◌∙◌, ℕ, ◌+◌, ◌≤◌, ◌<◌, true, false, refl, sym, ap, subst, ◌⊎◌, inl, inr, arith, Option}
use Rattle.std.specs.Prelude.{List}
use Rattle.std.proofs.lemmas.Bool.{cases_lt}
use Rattle.fop_types.specs.declared.cells.Cell.{Cell}
use Rattle.fop_types.specs.declared.history.Entry.{Entry}
use Rattle.fop_types.specs.declared.store_ops.StoreOp.{StoreOp}
use Rattle.fop_types.specs.declared.jobs.Job.{Job}
use Rattle.fop_types.specs.declared.jobs.Job.TheVariants as job
use Rattle.afr_machine.specs.Replicas.{nobody, with_at}
use Rattle.afr_machine.specs.Touching.{share}
use Rattle.afr_machine.specs.Changes.{Change, Verdict, is_unsettled}
use Rattle.afr_machine.specs.Changes.Verdict.{Drawn}
use Rattle.afr_machine.specs.Transactions.{Txn, is_over}
use Rattle.afr_machine.specs.States.{State}
use Rattle.afr_machine.specs.Turns.{drawing}
use Rattle.afr_machine.proofs.Tables.{at_other}
use Rattle.afr_laws.specs.Drawn.{ChangesAreDrawn}
use Rattle.afr_laws.specs.OwnChanges.{was_unsettled, ChangesAreOwn}
use Rattle.afr_laws.specs.Newest.{NumbersRise}
use Rattle.afr_laws.proofs.Carry.{at_case}

module _ (m : State) (d : ChangesAreDrawn m) where
  -- a change that became unsettled was drawn
  pub sent_drawn : (u : ℕ) → was_unsettled (m.changes u).verdict ≡ true → u ≤ m.drawn
  sent_drawn u h = by_case (cases_lt m.drawn u) where
    by_case : (m.drawn < u) ⊎ (u ≤ m.drawn) → u ≤ m.drawn
    by_case (inl far) = absurd (let never : false ≡ true = sym (ap was_unsettled (d.beyond u far)) ∙ h in cc)
    by_case (inr near) = near

  module _ (a : ChangesAreOwn m) (r : NumbersRise m) (t : ℕ) (cells : List Cell) (fd : ℕ) (op : StoreOp) (effect : Option Entry) where
    abbrev new : Change
    new = record { by = t; cells = cells; op = op; effect = effect; verdict = Drawn; done = nobody }

    abbrev table : ℕ → Change
    table = with_at m.changes (m.drawn + 1) new

    abbrev next : State
    next = drawing m t (job.Change cells fd op effect)

    old_is : (v : ℕ) → v ≤ m.drawn → table v ≡ m.changes v
    old_is v low = at_other m.changes (m.drawn + 1) new v (λ e. absurd (omega (arith, e, low)))

    sent_old : (v : ℕ) → was_unsettled (table v).verdict ≡ true → was_unsettled (m.changes v).verdict ≡ true
    sent_old v = at_case (λ n (c : Change). was_unsettled c.verdict ≡ true → was_unsettled (m.changes n).verdict ≡ true) m.changes (m.drawn + 1) new (λ h. absurd cc) v (λ ne h. h)

    unsettled_old : (v : ℕ) → is_unsettled (table v).verdict ≡ true → is_unsettled (m.changes v).verdict ≡ true
    unsettled_old v = at_case (λ n (c : Change). is_unsettled c.verdict ≡ true → is_unsettled (m.changes n).verdict ≡ true) m.changes (m.drawn + 1) new (λ h. absurd cc) v (λ ne h. h)

    sent_if_unsettled : (c : Change) → is_unsettled c.verdict ≡ true → was_unsettled c.verdict ≡ true
    sent_if_unsettled c h = by_case c.verdict h where
      by_case : (v : Verdict) → is_unsettled v ≡ true → was_unsettled v ≡ true
      by_case Verdict.Unsettled e = refl
      by_case other e = absurd cc

    shared : (u v : ℕ) → u ≤ m.drawn → v ≤ m.drawn → share (table v).cells (table u).cells ≡ true → share (m.changes v).cells (m.changes u).cells ≡ true
    shared u v low lower h =
        subst (λ (c : Change). share c.cells (m.changes u).cells ≡ true) (old_is v lower) (subst (λ (c : Change). share (table v).cells c.cells ≡ true) (old_is u low) h)

    own_rises : (i v : ℕ) → 1 ≤ (next.txns i).own → is_over (next.txns i).stage ≡ false → was_unsettled (table v).verdict ≡ true → share (table v).cells (table (next.txns i).own).cells ≡ true → v ≤ (next.txns i).own
    own_rises i v =
        at_case (λ n (y : Txn). 1 ≤ y.own → is_over y.stage ≡ false → was_unsettled (table v).verdict ≡ true → share (table v).cells (table y.own).cells ≡ true → v ≤ y.own) m.txns t _
        (λ one runs sent shares. omega (arith, sent_drawn v (sent_old v sent))) i
        (λ ne one runs sent shares.
        let low = ((a.own i).owns one).drawn_yet in
        let lower = sent_drawn v (sent_old v sent) in
        r.own i v one runs (sent_old v sent) (shared (m.txns i).own v low lower shares))

    pub drawn_rise : NumbersRise next
    drawn_rise = record {
      own = own_rises;
      unsettled = λ u v is sent shares.
          let low = sent_drawn u (sent_if_unsettled (m.changes u) (unsettled_old u is)) in
          let lower = sent_drawn v (sent_old v sent) in
          r.unsettled u v (unsettled_old u is) (sent_old v sent) (shared u v low lower shares);
    }

pub draws_rise : (m : State) → ChangesAreDrawn m → ChangesAreOwn m → NumbersRise m → (t : ℕ) (own : Job) → NumbersRise (drawing m t own)
draws_rise m d a r t (job.Change cells fd op effect) = drawn_rise m d a r t cells fd op effect
draws_rise m d a r t other = r
