-- What is sent: the op of an unsettled change, or of a birth; what was fetched; nothing else that bears numbers.
use Rattle.std.proofs.Common.{◌≡◌, ◌∙◌, ℕ, Bool, true, false, refl, sym, ap, subst, ◌⊎◌, inl, inr}
use Rattle.std.specs.Prelude.{List, [], ◌∷◌, ◌||◌}
use Rattle.fop_types.specs.Jobs.{IsJob, IsBirth}
use Rattle.fop_types.specs.StoreOps.{needs}
use Rattle.fop_types.specs.declared.cells.Cell.{Cell}
use Rattle.fop_types.specs.declared.store_ops.StoreOp.{StoreOp}
use Rattle.fop_types.specs.declared.store_ops.StoreOp.TheVariants as op
use Rattle.afr_machine.specs.Replicas.{Size}
use Rattle.afr_machine.specs.Touching.{is_cell, has_cell, share}
use Rattle.afr_machine.specs.Requests.{Sender, Ask}
use Rattle.afr_machine.specs.Requests.Ask.{Op, Replace}
use Rattle.afr_machine.specs.Changes.{Verdict, is_unsettled}
use Rattle.afr_machine.specs.States.{State}
use Rattle.afr_machine.specs.Sending.{MayAsk, asks_of, inputs_of}
use Rattle.afr_laws.specs.OwnChanges.{was_unsettled, ChangesAreOwn}
use Rattle.afr_laws.specs.Newest.{NumbersRise}
use Rattle.afr_laws.specs.Copies.{IsChangeOf, Carries, RunShows, IsBelowAsk}
use Rattle.afr_laws.proofs.Bools.{either_way, apart_bools}
use Rattle.afr_laws.proofs.Sharing.{cells_are}
use Rattle.afr_laws.proofs.Copies.Moves.{MayTake}

pub sent_is : (v : Verdict) → is_unsettled v ≡ true → was_unsettled v ≡ true
sent_is Verdict.Unsettled h = refl
sent_is other h = absurd cc

pub birth_needs : (o : StoreOp) → IsBirth o → needs o ≡ []
birth_needs (op.MakeCopy gfid span) h = refl
birth_needs other h = absurd h

-- a cell of both lists is common to them
pub share_at : (xs ys : List Cell) (cell : Cell) → has_cell xs cell ≡ true → has_cell ys cell ≡ true → share xs ys ≡ true
share_at [] ys cell p q = absurd cc
share_at (x ∷ xs) ys cell p q = by_case (λ h. share_at xs ys cell h q) (either_way (is_cell cell x) (has_cell xs cell) p) where
  left : (a b : Bool) → a ≡ true → (a || b) ≡ true
  left a b e = ap (λ z. z || b) e

  right : (a b : Bool) → b ≡ true → (a || b) ≡ true
  right true b e = refl
  right false b e = e

  by_case : (has_cell xs cell ≡ true → share xs ys ≡ true) → (is_cell cell x ≡ true) ⊎ (has_cell xs cell ≡ true) → (has_cell ys x || share xs ys) ≡ true
  by_case more (inl same) = left (has_cell ys x) (share xs ys) (subst (λ c. has_cell ys c ≡ true) (cells_are cell x same) q)
  by_case more (inr other) = right (has_cell ys x) (share xs ys) (more other)

module _ (size : Size) (m : State) (a : ChangesAreOwn m) (r : NumbersRise m) (t k : ℕ) (run : RunShows m.changes (m.txns t).stage) where
  carries_ask : (ask : Ask) → MayAsk size m t k ask → Carries m.changes ask
  carries_ask (Op u o) (inl h) = inr (sent_is (m.changes u).verdict h.unsettled, h.op_is)
  carries_ask (Op u o) (inr h) = inl (h.no_number, birth_needs o (subst IsJob h.job_is (a.own t).job).2)
  carries_ask (Replace cell found) h = subst (RunShows m.changes) h.turn run cell found h.fetched
  carries_ask other h = tt

  below_ask : (ask : Ask) → MayAsk size m t k ask → (cell : Cell) (v : ℕ) → IsChangeOf m.changes cell v → IsBelowAsk v cell ask
  below_ask (Op u o) (inl h) cell v c = λ need. r.unsettled u v h.unsettled c.sent (share_at (m.changes v).cells (m.changes u).cells cell c.touches (ap (λ cs. has_cell cs cell) (a.fit.needs_are u ∙ ap needs (sym h.op_is)) ∙ need))
  below_ask (Op u o) (inr h) cell v c = λ need. apart_bools need (ap (λ cs. has_cell cs cell) (birth_needs o (subst IsJob h.job_is (a.own t).job).2))
  below_ask other h cell v c = tt

  pub asks_take : (by : Sender) (first : Bool) (ask : Ask) → MayAsk size m t k ask → MayTake m.changes (inputs_of by (asks_of first ask))
  asks_take by true ask h = record { carried = (tt, (carries_ask ask h, tt)); below = λ cell v c. (tt, (below_ask ask h cell v c, tt)); rises = (λ cell v b. absurd b, (λ cell v b. tt, tt)) }
  asks_take by false ask h = record { carried = (carries_ask ask h, tt); below = λ cell v c. (below_ask ask h cell v c, tt); rises = (λ cell v b. tt, tt) }
